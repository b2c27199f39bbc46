-- Laws of a tree's choice.
use Rattle.std.specs.Prelude.{◌≡◌, ℕ, ◌<◌, Bool, true, false, List, length, is_some, Some, None, Option, ◌≢◌, refl}
use Rattle.std.proofs.Common.{ap, sym, ◌∙◌, inl, inr, arith}
use Rattle.std.proofs.lemmas.Bool.{cases_Bool, cases_lt, both_ways, and_parts, and_from, false≢true}
use Rattle.terms.specs.Counts.{count, Within}
use Rattle.terms.specs.declared.numbers.NodeNo.{NodeNo}
use Rattle.terms.proofs.Totals.{part_le}
use Rattle.structures.specs.Meaning.{Units}
use Rattle.structures.specs.LowestLaws.{few_from_none, names_two}
use Rattle.structures.specs.Sets.{both}
use Rattle.structures.specs.SetLaws.{both_fewer, two_counted, few_counted, few_told, two_from}
use Rattle.structures.specs.Drainage.{Drainage, catchment}
use Rattle.structures.specs.DrainageLaws.{catchment_parts, root_catchment, catchment_inside}
use Rattle.structures.specs.Extremes.{MeansHighest}
use Rattle.structures.specs.TreeChoice.{can_pair, pair_at}

module _ (parents homes : List NodeNo) (ok : Drainage parents homes) where
  abbrev n : ℕ
  n = length homes

  abbrev nodes : ℕ
  nodes = length parents

  abbrev range : ℕ → Units
  range = catchment parents homes

  abbrev can : Units → ℕ → Bool
  can = can_pair parents homes

  abbrev pair : Units → Option ℕ → Option (ℕ × ℕ)
  pair = pair_at parents homes

  -- Where no node can pair, fewer than two units are marked: the root's catchment holds them all.
  root_few : (J : Units) → Within n J → MeansHighest (can J) nodes None → count J n < 2
  root_few J inside none = elim (cases_lt 0 n) [
    | inl l ↦
        let few = few_counted (both J (range 0)) n (none 0 (omega (arith, ok.3 0 l))) in
        let all = part_le J (both J (range 0)) n
        (λ i h e. and_from (J i) (range 0 i) e (root_catchment parents homes ok i h)) in
        omega (arith, few, all)
    | inr none ↦ let no_units : n ≡ 0 = omega arith in rw no_units (omega arith)
  ]

  pub few_node : (J : Units) → count J n < 2 → (o : Option ℕ) → MeansHighest (can J) nodes o →
      pair J o ≡ None
  few_node J few None m = refl
  few_node J few (Some q) m =
      absurd (both_ways (can J q) (few_told (both J (range q)) n
      (omega (arith, both_fewer J (range q) n))) m.1)

  pub none_node : (J : Units) → Within n J → (o : Option ℕ) → MeansHighest (can J) nodes o →
      pair J o ≡ None → count J n < 2
  none_node J inside None m e = root_few J inside m
  none_node J inside (Some q) m e =
      absurd (omega (
        arith,
        two_counted (both J (range q)) n m.1,
        few_from_none (both J (range q)) n e,
      ))

  -- The pair is two marked units in the catchment of its node.
  names_node : (J : Units) (q a b : ℕ) → pair J (Some q) ≡ Some (a, b) →
      (J a ≡ true) × (J b ≡ true) × (a ≢ b) × (range q a ≡ true) × (range q b ≡ true)
  names_node J q a b e =
      let p = names_two (both J (range q)) n a b e in
      let at_a = and_parts (J a) (range q a) p.0 in
      let at_b = and_parts (J b) (range q b) p.1 in
      (at_a.0, at_b.0, p.2, at_a.1, at_b.1)

  pub names_any : (J : Units) (o : Option ℕ) (a b : ℕ) → pair J o ≡ Some (a, b) → (J a ≡ true) × (J b ≡ true) × (a ≢ b)
  names_any J None a b e = absurd (false≢true (ap is_some e))
  names_any J (Some q) a b e = let p = names_node J q a b e in (p.0, p.1, p.2)

  -- A catchment that holds only one of the pair holds no third marked unit: it would lie inside the catchment of the pair's node, and pair by itself.
  apart_node : (J : Units) → Within n J → (q : ℕ) → MeansHighest (can J) nodes (Some q) →
      (a b : ℕ) → J a ≡ true → range q a ≡ true → range q b ≡ true → (r : ℕ) →
      range r a ≡ true → range r b ≡ false → (c : ℕ) → J c ≡ true → (c ≢ a) → range r c ≡ false
  apart_node J inside q m a b in_a qa qb r ra rb c in_c not_a = elim (cases_Bool (range r c)) [
    | inr free ↦ free
    | inl rc ↦ elim (cases_lt q r) [
      | inr low ↦ absurd (both_ways (range r b) rb (catchment_inside parents homes ok r q a b low ra qa qb))
      | inl above ↦ absurd (both_ways (can J r) (m.2 r above (catchment_parts parents homes ok r a ra).0)
          (two_from (both J (range r)) n c a not_a (inside c in_c) (inside a in_a)
          (and_from (J c) (range r c) in_c rc) (and_from (J a) (range r a) in_a ra)))
    ]
  ]

  pub pairs_node : (J : Units) → Within n J → (o : Option ℕ) → MeansHighest (can J) nodes o →
      (a b : ℕ) → pair J o ≡ Some (a, b) → (r : ℕ) → (range r a ≢ range r b) →
      (c : ℕ) → J c ≡ true → (c ≢ a) → (c ≢ b) → range r c ≡ false
  pairs_node J inside None m a b e r apart c in_c not_a not_b = absurd (false≢true (ap is_some e))
  pairs_node J inside (Some q) m a b e r apart c in_c not_a not_b =
      let p = names_node J q a b e in
      elim (cases_Bool (range r a)) [
        | inl ra ↦ elim (cases_Bool (range r b)) [
          | inl rb ↦ absurd (apart (ra ∙ sym rb))
          | inr rb ↦ apart_node J inside q m a b p.0 p.3 p.4 r ra rb c in_c not_a
        ]
        | inr ra ↦ elim (cases_Bool (range r b)) [
          | inl rb ↦ apart_node J inside q m b a p.1 p.4 p.3 r rb ra c in_c not_b
          | inr rb ↦ absurd (apart (ra ∙ sym rb))
        ]
      ]
