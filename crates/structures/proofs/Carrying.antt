-- One pass over the nodes, which takes the marked units down the waterway until two have met.
use Rattle.std.proofs.Common.{◌≡◌, ℕ, suc, ◌+◌, ◌<◌, ◌≤◌, true, false, cond, eqb, List, length, get_or, set, Some, None, sym, refl, ap, ◌∙◌, subst, inl, inr, arith}
use Rattle.std.proofs.lemmas.Bool.{cases_eq, and_parts, and_from, and_right, eq-eqb, eqb-true, ne_eqb, cond-true, cond-false}
use Rattle.std.proofs.lemmas.List.{get_or-set_same, get_or-set_other, length-set}
use Rattle.terms.specs.Counts.{count, Within}
use Rattle.terms.specs.declared.numbers.NodeNo.{NodeNo}
use Rattle.terms.specs.declared.numbers.UnitNo.{UnitNo}
use Rattle.terms.proofs.Totals.{same_test}
use Rattle.structures.specs.Drainage.{node_at, Drainage, through, catchment}
use Rattle.structures.specs.DrainageLaws.{at_root, falling, through_le, through_on, catchment_parts, catchment_from}
use Rattle.std.proofs.lemmas.Bool.Decides.{nat_tests}
use Rattle.structures.specs.Held.{Keeps, joined, at_node, Kept}
use Rattle.structures.specs.LowestLaws.{count_none, count_alone, count_two, some_from_pair}
use Rattle.structures.specs.Meaning.{Units}
use Rattle.structures.specs.SetLaws.{two_told, few_told}
use Rattle.structures.specs.Sets.{both}
use Rattle.structures.specs.TreeChoice.{can_pair, pair_at, tree_choice}
use Rattle.structures.specs.ExtremeLaws.{highest_is}
use Rattle.structures.specs.declared.tree.held.Held.{Held}
use Rattle.structures.specs.declared.tree.held.Held.TheVariants.{Nothing, One, Two}
use Rattle.structures.proofs.Holding.{Takes, keeps_same}
use Rattle.structures.proofs.Walking.{further_on}

-- Where the units are once unit a has come to node p.
abbrev moved : (ℕ → ℕ) → ℕ → ℕ → ℕ → ℕ
moved place a p i = cond (eqb i a) p (place i)

moved_it : (place : ℕ → ℕ) (a p i : ℕ) → i ≡ a → moved place a p i ≡ p
moved_it place a p i e = cond-true (eqb i a) p (place i) (eq-eqb i a e)

moved_else : (place : ℕ → ℕ) (a p i : ℕ) → (i ≡ a → ⊥) → moved place a p i ≡ place i
moved_else place a p i d = cond-false (eqb i a) p (place i) (ne_eqb i a d)

-- It joins what was there,
moved_here : (J : Units) (place : ℕ → ℕ) (a p : ℕ) → J a ≡ true → (i : ℕ) → joined a (at_node J place p) i ≡ at_node J (moved place a p) p i
moved_here J place a p in_a i = grind (arith, nat_tests)

-- and at a node that it neither leaves nor comes to nothing changes.
moved_away : (J : Units) (place : ℕ → ℕ) (a p v : ℕ) → (place a ≡ v → ⊥) → (v ≡ p → ⊥) → (i : ℕ) → at_node J place v i ≡ at_node J (moved place a p) v i
moved_away J place a p v not_from not_to i = grind (arith, nat_tests)

-- A pass that has m nodes left: where the marked units have been carried to, what the nodes left hold of them, and that none above can pair.
pub record Carried (J : Units) (parents homes : List NodeNo) (m : ℕ) (held : List Held) : Type 0 where
  pub place : ℕ → ℕ
  pub left : m ≤ length parents
  pub kept : Kept J place (length homes) m held
  pub low : (i : ℕ) → J i ≡ true → 0 < m → place i < m
  pub way : (i : ℕ) → J i ≡ true → (k : ℕ) × (through (node_at parents) k (node_at homes i) ≡ place i)
  pub onward : (i q k : ℕ) → J i ≡ true → q < m → through (node_at parents) k (node_at homes i) ≡ q →
      (j : ℕ) × (through (node_at parents) j (place i) ≡ q)
  pub passed : (r : ℕ) → m ≤ r → r < length parents → can_pair parents homes J r ≡ false

module _ (J : Units) (parents homes : List NodeNo) (ok : Drainage parents homes) (inside : Within (length homes) J) where
  abbrev n : ℕ
  n = length homes

  abbrev nodes : ℕ
  nodes = length parents

  abbrev range : ℕ → Units
  range = catchment parents homes

  -- What a pass is that has m nodes left.
  abbrev At : ℕ → List Held → Type 0
  At = Carried J parents homes

  abbrev parent : ℕ → ℕ
  parent = node_at parents

  fallen : (v : ℕ) → 0 < v → parent v < v
  fallen = falling parents ok.2

  -- It begins with every unit at home,
  pub carried_none : (held : List Held) → Kept J (node_at homes) n 1024 held → At nodes held
  carried_none held kept = record {
    place = node_at homes;
    left = omega arith;
    kept = record { long = kept.long; keeps = λ v h. kept.keeps v (omega (arith, ok.0)) };
    low = λ i e _. ok.3 i (inside i e);
    way = λ i e. (0, refl);
    onward = λ i q k e h t. (k, t);
    passed = λ r high below. absurd (omega arith);
  }

  module _ (w : ℕ) (held : List Held) (s : At (suc w) held) where
    -- at node w it has just the marked units of its catchment,
    at_catchment : (i : ℕ) → at_node J s.place w i ≡ both J (range w) i
    at_catchment i = same_test (at_node J s.place w i) (both J (range w) i)
        (λ e. let p = and_parts (J i) (eqb (s.place i) w) e in
        let on = s.way i p.0 in
        and_from (J i) (range w i) p.0
        (catchment_from parents homes ok w i on.0 (omega (arith, s.left)) (inside i p.0) (on.1 ∙ eqb-true (s.place i) w p.1)))
        (λ e. let p = and_parts (J i) (range w i) e in
        let r = catchment_parts parents homes ok w i p.1 in
        let on = s.onward i w r.2.0 p.0 (omega arith) r.2.1 in
        and_from (J i) (eqb (s.place i) w) p.0 (eq-eqb (s.place i) w
        (omega (arith, through_le parent (at_root parents ok.2) fallen on.0 (s.place i), on.1, s.low i p.0 (omega arith)))))

    catchment_kept : Keeps (both J (range w)) n (get_or held w Nothing)
    catchment_kept = keeps_same _ _ n (get_or held w Nothing) at_catchment (s.kept.keeps w (omega arith))

    -- so where w holds two, these are the pair,
    pub carried_two : (a b : UnitNo) → get_or held w Nothing ≡ Two a b → tree_choice parents homes J ≡ Some (a.0, b.0)
    carried_two a b e =
        let pair = subst (λ h. Keeps (both J (range w)) n h) e catchment_kept in
        ap (pair_at parents homes J) (sym (highest_is (can_pair parents homes J) nodes (Some w) (
          omega (arith, s.left),
          two_told (both J (range w)) n
              (count_two (both J (range w)) n a.0 b.0 pair.ordered pair.bounded pair.first_in pair.second_in),
          λ c above below. s.passed c above below,
        )))
        ∙ some_from_pair (both J (range w)) n a.0 b.0 pair

    passed_too : count (both J (range w)) n < 2 → (r : ℕ) → w ≤ r → r < nodes → can_pair parents homes J r ≡ false
    passed_too few r high below = elim (cases_eq r w) [
      | inl e ↦ ap (can_pair parents homes J) e ∙ few_told (both J (range w)) n few
      | inr d ↦ s.passed r (omega arith) below
    ]

    -- where it holds none, the pass goes on,
    pub carried_over : get_or held w Nothing ≡ Nothing → At w held
    carried_over e =
        let none = subst (λ h. Keeps (at_node J s.place w) n h) e (s.kept.keeps w (omega arith)) in
        let empty = subst (λ h. Keeps (both J (range w)) n h) e catchment_kept in
        record {
          place = s.place;
          left = omega (arith, s.left);
          kept = record { long = s.kept.long; keeps = λ v h. s.kept.keeps v (omega arith) };
          low = λ i t _. let away = none i in let l = s.low i t (omega arith) in grind (arith, nat_tests);
          way = s.way;
          onward = λ i q k t h. s.onward i q k t (omega arith);
          passed = passed_too (omega (arith, count_none (both J (range w)) n (λ c _. empty c)));
        }

    -- and where it holds one, that unit goes on to its parent.
    module _ (a : UnitNo) (after : Held) (one : get_or held w Nothing ≡ One a) (takes : Takes a.0 (get_or held (parent w) Nothing) after) where
      only : Keeps (at_node J s.place w) n (One a)
      only = subst (λ h. Keeps (at_node J s.place w) n h) one (s.kept.keeps w (omega arith))

      in_J : J a.0 ≡ true
      in_J = (and_parts (J a.0) (eqb (s.place a.0) w) only.1).0

      at_w : s.place a.0 ≡ w
      at_w = eqb-true (s.place a.0) w (and_parts (J a.0) (eqb (s.place a.0) w) only.1).1

      abbrev place' : ℕ → ℕ
      place' = moved s.place a.0 (parent w)

      kept' : Kept J place' n w (set held (parent w) after)
      kept' = record {
        long = length-set held (parent w) after ∙ s.kept.long;
        keeps = λ v h. elim (cases_eq v (parent w)) [
          | inl here ↦
              let apart : (s.place a.0 ≡ parent w → ⊥) = λ e. omega (arith, at_w) in
              subst (λ u. Keeps (at_node J place' u) n (get_or (set held (parent w) after) u Nothing)) (sym here)
              (subst (λ x. Keeps (at_node J place' (parent w)) n x)
              (sym (get_or-set_same held (parent w) after Nothing (omega (arith, s.kept.long, s.left, ok.0))))
              (keeps_same _ _ n after (moved_here J s.place a.0 (parent w) in_J)
              (takes (at_node J s.place (parent w)) n (s.kept.keeps (parent w) (omega arith)) only.0
              (and_right (J a.0) (eqb (s.place a.0) (parent w)) (ne_eqb (s.place a.0) (parent w) apart)))))
          | inr away ↦ subst (λ x. Keeps (at_node J place' v) n x) (sym (get_or-set_other held (parent w) v after Nothing away))
              (keeps_same _ _ n (get_or held v Nothing) (moved_away J s.place a.0 (parent w) v (λ e. omega (arith, at_w)) away)
              (s.kept.keeps v (omega arith)))
        ];
      }

      low' : (i : ℕ) → J i ≡ true → 0 < w → place' i < w
      low' i t pos = let e = only.2 i in let l = s.low i t (omega arith) in let f = fallen w pos in grind (arith, nat_tests)

      way' : (i : ℕ) → J i ≡ true → (k : ℕ) × (through parent k (node_at homes i) ≡ place' i)
      way' i t = elim (cases_eq i a.0) [
        | inl e ↦ let on = s.way i t in (
          on.0 + 1,
          through_on parent (at_root parents ok.2) fallen on.0 1 (node_at homes i)
              ∙ ap parent (on.1 ∙ ap s.place e ∙ at_w) ∙ sym (moved_it s.place a.0 (parent w) i e),
        )
        | inr d ↦ let on = s.way i t in (on.0, on.1 ∙ sym (moved_else s.place a.0 (parent w) i d))
      ]

      onward' : (i q k : ℕ) → J i ≡ true → q < w → through parent k (node_at homes i) ≡ q → (j : ℕ) × (through parent j (place' i) ≡ q)
      onward' i q k t below e =
          let on = s.onward i q k t (omega arith) e in
          elim (cases_eq i a.0) [
            | inl same ↦
                let further = further_on parent q w on.0 below (ap (through parent on.0) (sym (ap s.place same ∙ at_w)) ∙ on.1) in
                (further.0, ap (through parent further.0) (moved_it s.place a.0 (parent w) i same) ∙ further.1)
            | inr d ↦ (on.0, ap (through parent on.0) (moved_else s.place a.0 (parent w) i d) ∙ on.1)
          ]

      pub carried_one : At w (set held (parent w) after)
      carried_one =
          let alone = subst (λ h. Keeps (both J (range w)) n h) one catchment_kept in
          record {
            place = place';
            left = omega (arith, s.left);
            kept = kept';
            low = low';
            way = way';
            onward = onward';
            passed = passed_too (count_alone (both J (range w)) n a.0 (λ c _. alone.2 c));
          }

  -- With no node left there is no pair.
  pub carried_all : (held : List Held) → At 0 held → tree_choice parents homes J ≡ None
  carried_all held s = ap (pair_at parents homes J) (sym (highest_is (can_pair parents homes J) nodes None (λ c below. s.passed c (omega arith) below)))
