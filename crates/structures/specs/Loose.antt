-- The loose structure: units with nothing kept but the sum of them all.
use Rattle.std.specs.Prelude.{ℕ, ◌≤◌, false, refl}
use Rattle.std.proofs.Common.{arith}
use Rattle.std.proofs.lemmas.Bool.{false≢true}
use Rattle.structures.specs.Meaning.{Meaning}
use Rattle.structures.specs.Lowest.{two_lowest}
use Rattle.structures.specs.LowestLaws.{none_from_few, few_from_none, names_two}

-- The loose structure of n units: no range, and the marked units with the two smallest numbers are the pair.
abbrev pub loose : (n : ℕ) → n ≤ 1024 → Meaning
loose n few = record {
  units = n;
  ranges = 0;
  range = λ q i. false;
  choice = λ J. two_lowest J n;
  few_units = few;
  few_ranges = omega arith;
  inside = λ q i e. absurd (false≢true e);
  none_from_few = λ J _. none_from_few J n;
  few_from_none = λ J _. few_from_none J n;
  names_marked = λ J _. names_two J n;
  pairing = λ J _ a b e q apart c marked not_a not_b. refl;
}
