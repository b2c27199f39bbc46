-- The line: units in a row, a range for each unit, from unit 0 up to it.
use Rattle.std.specs.Prelude.{◌≡◌, ℕ, ◌<◌, ◌≤◌, true, false, ◌&&◌, Some, ◌≢◌, nat_le, nat_lt}
use Rattle.std.proofs.Common.{sym, ◌∙◌, inl, inr, arith}
use Rattle.std.proofs.lemmas.Bool.{cases_Bool, and_parts, and_from, ltb-true, leb-true, le-leb}
use Rattle.structures.specs.Meaning.{Units, Meaning}
use Rattle.structures.specs.Lowest.{two_lowest}
use Rattle.structures.specs.LowestLaws.{none_from_few, few_from_none, pair_from_some, names_two}

-- Range q of a line of n units holds the units 0 to q; from n on there is no range.
abbrev pub up_to : ℕ → ℕ → Units
up_to n q i = nat_lt q n && nat_le i q

-- What a range holds.
pub up_to_parts : (n q i : ℕ) → up_to n q i ≡ true → (q < n) × (i ≤ q)
up_to_parts n q i e = let p = and_parts (nat_lt q n) (nat_le i q) e in (ltb-true q n p.0, leb-true i q p.1)

-- A range that holds a unit holds every unit below it.
pub up_to_lower : (n q i j : ℕ) → i ≤ j → up_to n q j ≡ true → up_to n q i ≡ true
up_to_lower n q i j h e = let p = and_parts (nat_lt q n) (nat_le j q) e in
    and_from (nat_lt q n) (nat_le i q) p.0 (le-leb i q (omega (arith, leb-true j q p.1)))

-- A range that holds a unit above both of the lowest pair holds both.
pub up_to_pairing : (n : ℕ) (J : Units) (a b : ℕ) → two_lowest J n ≡ Some (a, b) → (q : ℕ) → (up_to n q a ≢ up_to n q b) →
    (c : ℕ) → J c ≡ true → (c ≢ a) → (c ≢ b) → up_to n q c ≡ false
up_to_pairing n J a b e q apart c marked not_a not_b = let p = pair_from_some J n a b e in
    elim (cases_Bool (up_to n q c)) [
      | inl held ↦ elim (p.others_above c marked) [
        | inl same ↦ absurd (not_a same)
        | inr above ↦ absurd (apart (up_to_lower n q a c (omega (arith, p.ordered)) held ∙ sym (up_to_lower n q b c above held)))
      ]
      | inr free ↦ free
    ]

-- The line of n units: n ranges, and the marked units with the two smallest numbers are the pair.
abbrev pub line : (n : ℕ) → n ≤ 1024 → Meaning
line n few = record {
  units = n;
  ranges = n;
  range = up_to n;
  choice = λ J. two_lowest J n;
  few_units = few;
  few_ranges = omega arith;
  inside = λ q i e. let p = up_to_parts n q i e in (p.0, omega arith);
  none_from_few = λ J _. none_from_few J n;
  few_from_none = λ J _. few_from_none J n;
  names_marked = λ J _. names_two J n;
  pairing = λ J _. up_to_pairing n J;
}
