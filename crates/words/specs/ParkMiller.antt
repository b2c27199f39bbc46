-- Generators of words from a seed.
use Rattle.std.specs.Prelude.{◌≡◌, ℕ, suc, ◌-◌, Some, Ok, Err, Result}
use Rattle.std.proofs.Common.{sym, arith}
use Rattle.std.proofs.lemmas.Option.{none-some}
use Rattle.terms.specs.Faults.{tells}
use Rattle.terms.specs.declared.fault.Fault.{Fault}
use Rattle.words.specs.Source.{Source}
use Rattle.words.specs.States.{InRange, state_after}
use Rattle.words.specs.StateLaws.{words_below}
use Rattle.words.specs.declared.park_miller.ParkMiller.{ParkMiller}

-- The word after i others is the state after one more step, less 1; words never run out.
abbrev pub generated : (seed : ℕ) → InRange seed → Source
generated seed ok =
    record {
      span = 2147483646;
      coming = λ i. Some (state_after seed (suc i) - 1);
      some_span = omega arith;
      few_span = omega arith;
      below = words_below seed ok;
      ended = λ i e. absurd (none-some (state_after seed (suc i) - 1) (sym e));
    }

-- What a generator will give: the words from its state on.
abbrev pub park_miller_source : ParkMiller → Source
park_miller_source g = generated g.state g.ok

-- Making a generator from the seed has this answer.
pub data Seeded (seed : ℕ) : Result ParkMiller Fault → Type 0 where
  -- the seed is not from 1 to 2,147,483,646
  seed_out_of_range : {f : Fault} → (InRange seed → ⊥) → tells f ≡ (24, 0) → Seeded seed (Err f)
  -- the words to come are those of the states that follow the seed
  seeded : {g : ParkMiller} → InRange seed → (park_miller_source g).span ≡ 2147483646 → ((i : ℕ) → (park_miller_source g).coming i ≡ Some (state_after seed (suc i) - 1)) → Seeded seed (Ok g)
