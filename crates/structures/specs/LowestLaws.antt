-- Laws of the two lowest-numbered units, over any set and any n, for every structure that chooses them.
use Rattle.std.specs.Prelude.{◌≡◌, ℕ, zero, suc, ◌<◌, ◌≤◌, Bool, true, false, cond, not, Some, None, Option, ◌==◌, ◌≢◌, refl}
use Rattle.std.proofs.Common.{ap, sym, ◌∙◌, inl, inr, arith}
use Rattle.std.proofs.lemmas.Bool.{cases_eq, cases_lt, cases_order, cases_Bool, both_ways, and_parts, and_from, not-true, not_from_false, eqb-false, ne_eqb}
use Rattle.std.specs.Option.{option_map}
use Rattle.terms.specs.Counts.{count}
use Rattle.terms.proofs.Totals.{at_most_one, total_none, count_some}
use Rattle.structures.specs.Meaning.{Units}
use Rattle.structures.specs.Lowest.{lowest, without, two_lowest, LowestPair, MeansLowest, LowestFound}

-- A set with no unit below n counts 0.
pub count_none : (J : Units) (n : ℕ) → ((c : ℕ) → c < n → J c ≡ false) → count J n ≡ 0
count_none J n none = total_none (λ i. cond (J i) 1 0) n (λ c h. ap (λ b. cond b 1 0) (none c h))

-- A set with no unit below n but a counts at most 1.
pub count_alone : (J : Units) (n a : ℕ) → ((c : ℕ) → c < n → (c ≢ a) → J c ≡ false) → count J n < 2
count_alone J zero a alone = omega arith
count_alone J (suc n) a alone = elim (cases_eq n a) [
  | inl e ↦ omega (arith, count_none J n (λ c h. alone c (omega arith) (omega arith)), at_most_one (J n))
  | inr d ↦ omega (arith, count_alone J n a (λ c h. alone c (omega arith)), ap {B = ℕ} (λ b. cond b 1 0) (alone n (omega arith) d))
]

-- A set with two units below n counts at least 2.
pub count_two : (J : Units) (n a b : ℕ) → a < b → b < n → J a ≡ true → J b ≡ true → 2 ≤ count J n
count_two J zero a b ab bn ea eb = omega arith
count_two J (suc n) a b ab bn ea eb = elim (cases_eq b n) [
  | inl e ↦ omega (arith, count_some J n a (omega arith) ea, ap {B = ℕ} (λ i. cond (J i) 1 0) e, ap {B = ℕ} (λ t. cond t 1 0) eb)
  | inr d ↦ omega (arith, count_two J n a b ab (omega arith) ea eb)
]

-- What the lowest-numbered unit below n means: there is none, or a is in the set and none below a is.
abbrev pub MeansFirst : Units → ℕ → Option ℕ → Type 0
MeansFirst J n None = (c : ℕ) → c < n → J c ≡ false
MeansFirst J n (Some a) = (a < n) × (J a ≡ true) × ((c : ℕ) → c < a → J c ≡ false)

-- One more unit keeps that meaning.
first_step : (J : Units) (n : ℕ) (o : Option ℕ) (b : Bool) → MeansFirst J n o → J n ≡ b →
    MeansFirst J (suc n) (elim o [ Some a ↦ Some a | None ↦ cond b (Some n) None ])
first_step J n (Some a) b m e = (omega (arith, m.0), m.1, m.2)
first_step J n None true m e = (omega arith, e, m)
first_step J n None false m e = λ c h. elim (cases_eq c n) [ inl s ↦ ap J s ∙ e | inr d ↦ m c (omega arith) ]

-- The lowest-numbered unit means what it should.
pub lowest_means : (J : Units) (n : ℕ) → MeansFirst J n (lowest J n)
lowest_means J zero = λ c h. absurd (omega arith)
lowest_means J (suc n) = first_step J n (lowest J n) (J n) (lowest_means J n) refl

-- What is in the set and is not a stays.
pub stays : (J : Units) (a c : ℕ) → (c ≢ a) → J c ≡ true → without a J c ≡ true
stays J a c d e = and_from (J c) (not (c == a)) e (not_from_false (c == a) (ne_eqb c a d))

-- What is left is in the set and is not a.
pub left_over : (J : Units) (a c : ℕ) → without a J c ≡ true → (J c ≡ true) × (c ≢ a)
left_over J a c e = let p = and_parts (J c) (not (c == a)) e in (p.0, eqb-false c a (not-true (c == a) p.1))

-- The lowest of the others makes the pair.
second_step : (J : Units) (n a : ℕ) → MeansFirst J n (Some a) → (o : Option ℕ) → MeansFirst (without a J) n o →
    MeansLowest J n (option_map (λ b. (a, b)) o)
second_step J n a m None s = count_alone J n a (λ c h d. elim (cases_Bool (J c))
    [ inl e ↦ absurd (both_ways (without a J c) (s c h) (stays J a c d e)) | inr e ↦ e ])
second_step J n a m (Some b) s = let p = left_over J a b s.1 in record {
  ordered = elim (cases_order a b)
      [ inl e ↦ absurd (p.1 (sym e)) | inr (inl l) ↦ l | inr (inr l) ↦ absurd (both_ways (J b) (m.2 b l) p.0) ];
  bounded = s.0;
  first_in = m.1;
  second_in = p.0;
  others_above = λ c e. elim (cases_eq c a) [
    | inl same ↦ inl same
    | inr d ↦ inr (elim (cases_lt c b) [ inl l ↦ absurd (both_ways (without a J c) (s.2 c l) (stays J a c d e)) | inr ge ↦ ge ])
  ];
}

-- The lowest, if any, starts the pair.
pair_step : (J : Units) (n : ℕ) (o : Option ℕ) → MeansFirst J n o →
    MeansLowest J n (elim o [ Some a ↦ option_map (λ b. (a, b)) (lowest (without a J) n) | None ↦ None ])
pair_step J n None m = omega (arith, count_none J n m)
pair_step J n (Some a) m = second_step J n a m (lowest (without a J) n) (lowest_means (without a J) n)

-- The two lowest-numbered units mean what they should.
pub lowest_found : LowestFound
lowest_found J n = pair_step J n (lowest J n) (lowest_means J n)

-- Fewer than two units: nothing that means the pair is one.
none_step : (J : Units) (n : ℕ) (o : Option (ℕ × ℕ)) → MeansLowest J n o → count J n < 2 → o ≡ None
none_step J n None m few = refl
none_step J n (Some pair) m few =
    absurd (omega (arith, count_two J n pair.0 pair.1 m.ordered m.bounded m.first_in m.second_in))

-- Fewer than two units: no pair.
pub none_from_few : (J : Units) (n : ℕ) → count J n < 2 → two_lowest J n ≡ None
none_from_few J n few = none_step J n (two_lowest J n) (lowest_found J n) few

-- No pair: fewer than two units.
pub few_from_none : (J : Units) (n : ℕ) → two_lowest J n ≡ None → count J n < 2
few_from_none J n e = rw e at (lowest_found J n)

-- A pair is the lowest pair.
pub pair_from_some : (J : Units) (n a b : ℕ) → two_lowest J n ≡ Some (a, b) → LowestPair J n a b
pair_from_some J n a b e = rw e at (lowest_found J n)

-- The pair is two different units of the set.
pub names_two : (J : Units) (n a b : ℕ) → two_lowest J n ≡ Some (a, b) → (J a ≡ true) × (J b ≡ true) × (a ≢ b)
names_two J n a b e = let p = pair_from_some J n a b e in (p.first_in, p.second_in, omega (arith, p.ordered))

-- Whatever means the pair is the one lowest pair.
same_pair : (J : Units) (n a b : ℕ) → LowestPair J n a b → (o : Option (ℕ × ℕ)) → MeansLowest J n o → o ≡ Some (a, b)
same_pair J n a b p None few = absurd (omega (arith, count_two J n a b p.ordered p.bounded p.first_in p.second_in))
same_pair J n a b p (Some (x, y)) m =
    let first : x ≡ a = elim (p.others_above x m.first_in) [
      | inl e ↦ e
      | inr l ↦ elim (m.others_above a p.first_in) [ inl e ↦ sym e | inr k ↦ omega (arith, p.ordered, m.ordered) ]
    ] in
    let second : y ≡ b = elim (p.others_above y m.second_in) [
      | inl e ↦ omega (arith, m.ordered)
      | inr l ↦ elim (m.others_above b p.second_in) [ inl e ↦ omega (arith, p.ordered) | inr k ↦ omega arith ]
    ] in
    cc

-- There is only one lowest pair, so whatever is such a pair is the one that is chosen.
pub some_from_pair : (J : Units) (n a b : ℕ) → LowestPair J n a b → two_lowest J n ≡ Some (a, b)
some_from_pair J n a b p = same_pair J n a b p (two_lowest J n) (lowest_found J n)
