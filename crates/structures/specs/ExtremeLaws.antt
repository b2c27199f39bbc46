-- The lowest and the highest number mean what they should, and nothing else does.
use Rattle.std.specs.Prelude.{◌≡◌, ℕ, zero, suc, Bool, true, false, cond, Some, None, Option, refl}
use Rattle.std.proofs.Common.{ap, ◌∙◌, inl, inr, arith}
use Rattle.std.proofs.lemmas.Bool.{cases_eq, cases_order, both_ways}
use Rattle.structures.specs.Lowest.{lowest}
use Rattle.structures.specs.LowestLaws.{MeansFirst, lowest_means}
use Rattle.structures.specs.Extremes.{highest, MeansHighest, FirstFound, HighestFound}

-- The lowest number means what it should,
pub first_found : FirstFound
first_found = lowest_means

-- and of the highest.
highest_step : (p : ℕ → Bool) (n : ℕ) (b : Bool) (o : Option ℕ) → MeansHighest p n o → p n ≡ b → MeansHighest p (suc n) (cond b (Some n) o)
highest_step p n true o m e = (omega arith, e, λ c above below. absurd (omega arith))
highest_step p n false None m e = λ c h. elim (cases_eq c n) [ inl s ↦ ap p s ∙ e | inr d ↦ m c (omega arith) ]
highest_step p n false (Some q) m e =
    (omega (arith, m.0), m.1, λ c above below. elim (cases_eq c n) [ inl s ↦ ap p s ∙ e | inr d ↦ m.2 c above (omega arith) ])

pub highest_found : HighestFound
highest_found p zero = λ c h. absurd (omega arith)
highest_found p (suc n) = highest_step p n (p n) (highest p n) (highest_found p n) refl

-- There is only one lowest number, so whatever means it is the one;
one_lowest : (p : ℕ → Bool) (n : ℕ) (o r : Option ℕ) → MeansFirst p n o → MeansFirst p n r → o ≡ r
one_lowest p n None None a b = refl
one_lowest p n None (Some q) a b = absurd (both_ways (p q) (a q b.0) b.1)
one_lowest p n (Some q) None a b = absurd (both_ways (p q) (b q a.0) a.1)
one_lowest p n (Some q) (Some r) a b = elim (cases_order q r) [
  | inl e ↦ ap Some e
  | inr (inl l) ↦ absurd (both_ways (p q) (b.2 q l) a.1)
  | inr (inr l) ↦ absurd (both_ways (p r) (a.2 r l) b.1)
]

pub lowest_is : (p : ℕ → Bool) (n : ℕ) (o : Option ℕ) → MeansFirst p n o → o ≡ lowest p n
lowest_is p n o m = one_lowest p n o (lowest p n) m (first_found p n)

-- and so with the highest.
one_highest : (p : ℕ → Bool) (n : ℕ) (o r : Option ℕ) → MeansHighest p n o → MeansHighest p n r → o ≡ r
one_highest p n None None a b = refl
one_highest p n None (Some q) a b = absurd (both_ways (p q) (a q b.0) b.1)
one_highest p n (Some q) None a b = absurd (both_ways (p q) (b q a.0) a.1)
one_highest p n (Some q) (Some r) a b = elim (cases_order q r) [
  | inl e ↦ ap Some e
  | inr (inl l) ↦ absurd (both_ways (p r) (a.2 r l b.0) b.1)
  | inr (inr l) ↦ absurd (both_ways (p q) (b.2 q l a.0) a.1)
]

pub highest_is : (p : ℕ → Bool) (n : ℕ) (o : Option ℕ) → MeansHighest p n o → o ≡ highest p n
highest_is p n o m = one_highest p n o (highest p n) m (highest_found p n)
