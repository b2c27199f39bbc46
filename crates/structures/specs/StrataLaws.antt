-- The laws of strata, each from the laws of the structure below; and the layer that keeps them.
use Rattle.std.specs.Prelude.{◌≡◌, ℕ, zero, suc, ◌+◌, ◌*◌, ◌/◌, ◌%◌, ◌^◌, ◌<◌, true, false, ◌&&◌, Some, None, Option, ◌≢◌, nat_eq, nat_lt, refl}
use Rattle.std.proofs.Common.{sym, ap, ◌∙◌, inl, inr, lit<, add-zero, div-lt_iff_lt-mul, arith}
use Rattle.std.proofs.Math.Bool.{and_comm}
use Rattle.std.proofs.Math.Arith.{digits_lt, digits_div, digits_mod}
use Rattle.std.proofs.lemmas.Bool.{cases_Bool, cases_eq, both_ways, and_parts, and_from, and_left, and_right, ltb-true, lt-ltb, le-ltb, eqb-true, eq-eqb, ne_eqb, cond_both, cond-true, cond-false}
use Rattle.terms.specs.Counts.{count, Within}
use Rattle.structures.specs.Lowest.{lowest}
use Rattle.structures.specs.LowestLaws.{MeansFirst, lowest_means}
use Rattle.structures.specs.Meaning.{Units, Meaning}
use Rattle.structures.specs.Sets.{both}
use Rattle.structures.specs.SetLaws.{both_within, both_fewer, two_counted, two_from}
use Rattle.structures.specs.Strata.{of_stratum, layered_ranges, part, layered_range, stratum_has_two, layered_choice, RangesInOrder}

-- The number of ranges is one that 32 bits can tell,
pub few_layered : (t g : ℕ) → layered_ranges t g < 2 ^ 32
few_layered t g = cond_both (nat_lt (t * (g + 1)) (2 ^ 32)) (t * (g + 1)) 0 (λ n. n < 2 ^ 32) (λ e. ltb-true _ _ e) (λ _. lit< tt)

-- and never above the product.
pub layered_most : (t g r : ℕ) → r < layered_ranges t g → r < t * (g + 1)
layered_most t g r =
    cond_both (nat_lt (t * (g + 1)) (2 ^ 32)) (t * (g + 1)) 0 (λ n. r < n → r < t * (g + 1)) (λ _ h. h) (λ _ h. absurd (omega arith))

module _ (M : Meaning) where
  -- No part reaches past the units.
  part_inside : (k i : ℕ) → part M k i ≡ true → i < M.units
  part_inside zero i e = ltb-true i M.units e
  part_inside (suc q) i e = (M.inside q i e).1

  -- Pairing, for a part: where it splits the pair it holds no third marked unit.
  part_pairing : (J : Units) → Within M.units J → (a b : ℕ) → M.choice J ≡ Some (a, b) → (k : ℕ) → (part M k a ≢ part M k b) →
      (c : ℕ) → J c ≡ true → (c ≢ a) → (c ≢ b) → part M k c ≡ false
  part_pairing J inside a b e zero apart c marked not_a not_b =
      let p = M.names_marked J inside a b e in
      absurd (apart (lt-ltb a M.units (inside a p.0) ∙ sym (lt-ltb b M.units (inside b p.1))))
  part_pairing J inside a b e (suc q) apart c marked not_a not_b = M.pairing J inside a b e q apart c marked not_a not_b

module _ (M : Meaning) (t : ℕ) (stratum : ℕ → ℕ) where
  abbrev width : ℕ
  width = M.ranges + 1

  abbrev held_by : ℕ → Units
  held_by = layered_range M t stratum

  -- What it says that a range holds a unit.
  held : (r i : ℕ) → held_by r i ≡ true → (r < layered_ranges t M.ranges) × (stratum i ≡ r / width) × (part M (r % width) i ≡ true)
  held r i e =
      let p = and_parts (nat_lt r (layered_ranges t M.ranges)) (of_stratum stratum (r / width) i && part M (r % width) i) e in
      let q = and_parts (of_stratum stratum (r / width) i) (part M (r % width) i) p.1 in
      (ltb-true r _ p.0, eqb-true (stratum i) (r / width) q.0, q.1)

  -- The stratum of a range is one of the t.
  stratum_below : (r : ℕ) → r < layered_ranges t M.ranges → r / width < t
  stratum_below r h =
      let some : 0 < width = omega arith in
      (div-lt_iff_lt-mul some).1 (layered_most t M.ranges r h)

  pub layered_inside : (r i : ℕ) → held_by r i ≡ true → (r < layered_ranges t M.ranges) × (i < M.units)
  layered_inside r i e = let h = held r i e in (h.0, part_inside M (r % width) i h.2)

  -- Whatever is true of a choice made below for the marks of one stratum with two marked units, or for all, is true of the choice.
  module _ (J : Units) (P : Option (ℕ × ℕ) → Type 0)
      (one : (u : ℕ) → stratum_has_two M stratum J u ≡ true → P (M.choice (both J (of_stratum stratum u))))
      (all : ((u : ℕ) → u < t → stratum_has_two M stratum J u ≡ false) → P (M.choice J)) where
    by_cases : (o : Option ℕ) → MeansFirst (stratum_has_two M stratum J) t o →
        P (elim o [ Some u ↦ M.choice (both J (of_stratum stratum u)) | None ↦ M.choice J ])
    by_cases (Some u) m = one u m.1
    by_cases None m = all m

    choice_by : P (layered_choice M t stratum J)
    choice_by = by_cases (lowest (stratum_has_two M stratum J) t) (lowest_means (stratum_has_two M stratum J) t)

  module _ (J : Units) (inside : Within M.units J) where
    abbrev among : ℕ → Units
    among u = both J (of_stratum stratum u)

    among_within : (u : ℕ) → Within M.units (among u)
    among_within u = both_within J (of_stratum stratum u) M.units inside

    -- There is a pair if and only if two units are marked.
    pub layered_none : count J M.units < 2 → layered_choice M t stratum J ≡ None
    layered_none few = choice_by J (λ o. o ≡ None)
        (λ u two. absurd (omega (arith, two_counted (among u) M.units two, both_fewer J (of_stratum stratum u) M.units)))
        (λ _. M.none_from_few J inside few)

    pub layered_few : layered_choice M t stratum J ≡ None → count J M.units < 2
    layered_few = choice_by J (λ o. o ≡ None → count J M.units < 2)
        (λ u two e. absurd (omega (arith, two_counted (among u) M.units two, M.few_from_none (among u) (among_within u) e)))
        (λ _ e. M.few_from_none J inside e)

    -- Its units are marked, and distinct.
    pub layered_names : (a b : ℕ) → layered_choice M t stratum J ≡ Some (a, b) → (J a ≡ true) × (J b ≡ true) × (a ≢ b)
    layered_names a b = choice_by J (λ o. o ≡ Some (a, b) → (J a ≡ true) × (J b ≡ true) × (a ≢ b))
        (λ u _ e. let p = M.names_marked (among u) (among_within u) a b e in
        ((and_parts (J a) (of_stratum stratum u a) p.0).0, (and_parts (J b) (of_stratum stratum u b) p.1).0, p.2))
        (λ _ e. M.names_marked J inside a b e)

    module _ (a b r : ℕ) (apart : held_by r a ≡ held_by r b → ⊥) (c : ℕ) (marked : J c ≡ true) (not_a : c ≡ a → ⊥) (not_b : c ≡ b → ⊥) where
      -- Pairing within a stratum u: a range of another stratum holds neither unit of the pair, and one of u is a part of it.
      within_stratum : (u : ℕ) → M.choice (among u) ≡ Some (a, b) → held_by r c ≢ true
      within_stratum u e h =
          let p = M.names_marked (among u) (among_within u) a b e in
          let sa = eqb-true (stratum a) u (and_parts (J a) (of_stratum stratum u a) p.0).1 in
          let sb = eqb-true (stratum b) u (and_parts (J b) (of_stratum stratum u b) p.1).1 in
          let hc = held r c h in
          let same : of_stratum stratum (r / width) a ≡ of_stratum stratum (r / width) b = ap (λ s. nat_eq s (r / width)) (sa ∙ sym sb) in
          elim (cases_eq u (r / width)) [
            | inl v ↦ both_ways (part M (r % width) c)
                (part_pairing M (among u) (among_within u) a b e (r % width)
                (λ d. apart (rw (same, d) refl)) c
                (and_from (J c) (of_stratum stratum u c) marked (eq-eqb (stratum c) u (hc.1 ∙ sym v))) not_a not_b)
                hc.2
            | inr v ↦ apart (outside a sa v ∙ sym (outside b sb v))
          ]
        where
          outside : (i : ℕ) → stratum i ≡ u → (u ≢ r / width) → held_by r i ≡ false
          outside i s v = and_right (nat_lt r (layered_ranges t M.ranges)) _ (and_left (of_stratum stratum (r / width) i) _
              (ne_eqb (stratum i) (r / width) (λ d. v (sym s ∙ d))))

      -- Where no stratum has two marked units, no range holds two.
      no_two : ((u : ℕ) → u < t → stratum_has_two M stratum J u ≡ false) → held_by r c ≡ true → (i : ℕ) → J i ≡ true → (c ≢ i) →
          held_by r i ≡ false
      no_two none hold i also other = elim (cases_Bool (held_by r i)) [
        | inl e ↦
            let hc = held r c hold in
            let hi = held r i e in
            let u = r / width in
            absurd (both_ways (stratum_has_two M stratum J u) (none u (stratum_below r hc.0))
            (two_from (among u) M.units c i other (inside c marked) (inside i also)
            (and_from (J c) (of_stratum stratum u c) marked (eq-eqb (stratum c) u hc.1))
            (and_from (J i) (of_stratum stratum u i) also (eq-eqb (stratum i) u hi.1))))
        | inr e ↦ e
      ]

      across_strata : ((u : ℕ) → u < t → stratum_has_two M stratum J u ≡ false) → M.choice J ≡ Some (a, b) → held_by r c ≢ true
      across_strata none e h =
          let p = M.names_marked J inside a b e in
          apart (no_two none h a p.0 not_a ∙ sym (no_two none h b p.1 not_b))

    -- Pairing: where a range splits the pair, it holds no third marked unit.
    pub layered_pairing : (a b : ℕ) → layered_choice M t stratum J ≡ Some (a, b) → (r : ℕ) → (held_by r a ≢ held_by r b) →
        (c : ℕ) → J c ≡ true → (c ≢ a) → (c ≢ b) → held_by r c ≡ false
    layered_pairing a b e r apart c marked not_a not_b = elim (cases_Bool (held_by r c)) [
      | inl h ↦ absurd (choice_by J (λ o. o ≢ Some (a, b))
          (λ u _ d. within_stratum a b r apart c marked not_a not_b u d h)
          (λ none d. across_strata a b r apart c marked not_a not_b none d h) e)
      | inr h ↦ h
    ]

-- Strata over M: t of them, with each unit's stratum.
abbrev pub layer : Meaning → ℕ → (ℕ → ℕ) → Meaning
layer M t stratum = record {
  units = M.units;
  ranges = layered_ranges t M.ranges;
  range = layered_range M t stratum;
  choice = layered_choice M t stratum;
  few_units = M.few_units;
  few_ranges = few_layered t M.ranges;
  inside = layered_inside M t stratum;
  none_from_few = layered_none M t stratum;
  few_from_none = layered_few M t stratum;
  names_marked = layered_names M t stratum;
  pairing = layered_pairing M t stratum;
}

-- The ranges stand in their order.
module _ (M : Meaning) (t : ℕ) (stratum : ℕ → ℕ) (fits : t * (M.ranges + 1) < 2 ^ 32) where
  all_ranges : layered_ranges t M.ranges ≡ t * (M.ranges + 1)
  all_ranges = cond-true (nat_lt (t * (M.ranges + 1)) (2 ^ 32)) (t * (M.ranges + 1)) 0 (lt-ltb (t * (M.ranges + 1)) (2 ^ 32) fits)

  -- The range that stratum u and part k make.
  at_part : (u k i : ℕ) → u < t → k < M.ranges + 1 →
      layered_range M t stratum (u * (M.ranges + 1) + k) i ≡ (of_stratum stratum u i && part M k i)
  at_part u k i h l =
      let r = u * (M.ranges + 1) + k in
      let quotient : r / (M.ranges + 1) ≡ u = digits_div u l in
      let remainder : r % (M.ranges + 1) ≡ k = digits_mod u l in
      let under : r < t * (M.ranges + 1) = digits_lt h l in
      rw (all_ranges, lt-ltb r (t * (M.ranges + 1)) under, quotient, remainder) refl

pub ranges_in_order : RangesInOrder
ranges_in_order M t stratum = (
  λ fits. record {
    many = all_ranges M t stratum fits;
    whole = λ u i h. ap (λ r. layered_range M t stratum r i) (sym (add-zero (u * (M.ranges + 1)))) ∙
        at_part M t stratum fits u 0 i h (omega arith) ∙ and_comm (of_stratum stratum u i) (nat_lt i M.units);
    parts = λ u q i h l. ap (λ r. layered_range M t stratum r i) (next (u * (M.ranges + 1)) q) ∙
        at_part M t stratum fits u (suc q) i h (omega arith);
  },
  λ many. cond-false (nat_lt (t * (M.ranges + 1)) (2 ^ 32)) (t * (M.ranges + 1)) 0 (le-ltb (t * (M.ranges + 1)) (2 ^ 32) many),
)
  where
    next : (m q : ℕ) → m + 1 + q ≡ m + suc q
    next m q = omega arith
