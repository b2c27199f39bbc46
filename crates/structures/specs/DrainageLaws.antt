-- Laws of catchments.
use Rattle.std.specs.Prelude.{◌≡◌, ℕ, zero, suc, ◌+◌, ◌-◌, ◌<◌, ◌≤◌, true, ◌&&◌, List, length, ◌==◌, nat_lt, refl}
use Rattle.std.proofs.Common.{ap, sym, ◌∙◌, inl, inr, zero-add, arith}
use Rattle.std.proofs.lemmas.List.{get_or_past}
use Rattle.std.proofs.lemmas.Bool.{cases_eq, cases_lt, and_parts, and_from, or_cases, or_left, or_right, lt-ltb, ltb-true, eq-eqb, eqb-true, ne_eqb, cond-false}
use Rattle.terms.specs.declared.numbers.NodeNo.{NodeNo}
use Rattle.structures.specs.Drainage.{node_at, InOrder, Drainage, through, drains, catchment, CatchmentsAreDrained}

-- Past the last node a parent counts as 0, so that parents fall from every number.
pub falling : (parents : List NodeNo) → InOrder parents → (v : ℕ) → 0 < v → node_at parents v < v
falling parents order v pos = elim (cases_lt v (length parents)) [
  | inl l ↦ let rule = cond-false (v == 0) (node_at parents v == 0) (nat_lt (node_at parents v) v) (ne_eqb v 0 (omega arith)) in
      ltb-true (node_at parents v) v (sym rule ∙ order v l)
  | inr past ↦ omega (arith, ap (λ (n : NodeNo). n.0) (get_or_past parents v (record { 0 = 0 }) past))
]

pub at_root : (parents : List NodeNo) → InOrder parents → node_at parents 0 ≡ 0
at_root parents order = elim (cases_lt 0 (length parents)) [
  | inl l ↦ eqb-true (node_at parents 0) 0 (order 0 l)
  | inr past ↦ ap (λ (n : NodeNo). n.0) (get_or_past parents 0 (record { 0 = 0 }) past)
]

-- The laws hold of every function that falls to its root 0.
module _ (parent : ℕ → ℕ) (root : parent 0 ≡ 0) (falls : (v : ℕ) → 0 < v → parent v < v) where
  -- From the root there is no way on,
  through_root : (k : ℕ) → through parent k 0 ≡ 0
  through_root zero = refl
  through_root (suc k) = ap (through parent k) root ∙ through_root k

  -- a way never rises,
  pub parent_le : (v : ℕ) → parent v ≤ v
  parent_le v = elim (cases_eq v 0) [ inl e ↦ omega (arith, ap parent e, root) | inr d ↦ omega (arith, falls v (omega arith)) ]

  pub through_le : (k v : ℕ) → through parent k v ≤ v
  through_le zero v = omega arith
  through_le (suc k) v = omega (arith, through_le k (parent v), parent_le v)

  -- and two ways make a longer one.
  pub through_on : (k m v : ℕ) → through parent (k + m) v ≡ through parent m (through parent k v)
  through_on zero m v = ap (λ j. through parent j v) (zero-add m)
  through_on (suc k) m v =
      let longer : suc k + m ≡ suc (k + m) = omega arith in
      ap (λ j. through parent j v) longer ∙ through_on k m (parent v)

  -- The test tells a way,
  pub drains_comes : (k v q : ℕ) → drains parent k v q ≡ true → (m : ℕ) × (through parent m v ≡ q)
  drains_comes zero v q e = (0, eqb-true v q e)
  drains_comes (suc k) v q e = elim (or_cases (v == q) (drains parent k (parent v) q) e) [
    | inl here ↦ (0, eqb-true v q here)
    | inr on ↦ let way = drains_comes k (parent v) q on in (suc way.0, way.1)
  ]

  -- and every way, where it may be as long as the number of its node.
  pub comes_drains : (k v q m : ℕ) → v ≤ k → through parent m v ≡ q → drains parent k v q ≡ true
  comes_drains zero v q m low e =
      let here : v ≡ 0 = omega arith in
      eq-eqb v q (here ∙ sym (through_root m) ∙ sym (ap (through parent m) here) ∙ e)
  comes_drains (suc k) v q zero low e = or_left (v == q) (drains parent k (parent v) q) (eq-eqb v q e)
  comes_drains (suc k) v q (suc m) low e = elim (cases_eq v 0) [
    | inl here ↦ or_left (v == q) (drains parent k (parent v) q)
        (eq-eqb v q (here ∙ sym (through_root (suc m)) ∙ sym (ap (through parent (suc m)) here) ∙ e))
    | inr d ↦ or_right (v == q) (drains parent k (parent v) q)
        (comes_drains k (parent v) q m (omega (arith, falls v (omega arith))) e)
  ]

  -- Every node drains into the root.
  pub comes_to_root : (k v : ℕ) → v ≤ k → drains parent k v 0 ≡ true
  comes_to_root zero v low = eq-eqb v 0 (omega arith)
  comes_to_root (suc k) v low = elim (cases_eq v 0) [
    | inl here ↦ or_left (v == 0) (drains parent k (parent v) 0) (eq-eqb v 0 here)
    | inr d ↦ or_right (v == 0) (drains parent k (parent v) 0) (comes_to_root k (parent v) (omega (arith, falls v (omega arith))))
  ]

  -- Of two nodes on the way from one node, the higher drains into the lower.
  pub on_one_way : (v q r k m : ℕ) → through parent k v ≡ q → through parent m v ≡ r → q ≤ r → (j : ℕ) × (through parent j r ≡ q)
  on_one_way v q r k m to_q to_r low = elim (cases_lt k m) [
    | inl l ↦ let from_q : through parent (m - k) q ≡ r = onward k m q r (omega arith) to_q to_r in (0, omega (arith, through_le (m - k) q))
    | inr h ↦ (k - m, onward m k r q h to_r to_q)
  ]
    where
      onward : (short long near far : ℕ) → short ≤ long → through parent short v ≡ near → through parent long v ≡ far →
          through parent (long - short) near ≡ far
      onward short long near far h to_near to_far =
          let whole : short + (long - short) ≡ long = omega arith in
          ap (through parent (long - short)) (sym to_near) ∙ sym (through_on short (long - short) v) ∙ ap (λ j. through parent j v) whole ∙ to_far

module _ (parents homes : List NodeNo) (ok : Drainage parents homes) where
  abbrev parent : ℕ → ℕ
  parent = node_at parents

  root : parent 0 ≡ 0
  root = at_root parents ok.2

  fallen : (v : ℕ) → 0 < v → parent v < v
  fallen = falling parents ok.2

  -- What a catchment holds: the node and the unit exist, and there is a way.
  pub catchment_parts : (q i : ℕ) → catchment parents homes q i ≡ true →
      (q < length parents) × (i < length homes) × ((k : ℕ) × (through parent k (node_at homes i) ≡ q))
  catchment_parts q i e =
      let p = and_parts (nat_lt q (length parents)) (nat_lt i (length homes) && drains parent (length parents) (node_at homes i) q) e in
      let r = and_parts (nat_lt i (length homes)) (drains parent (length parents) (node_at homes i) q) p.1 in (
        ltb-true q (length parents) p.0,
        ltb-true i (length homes) r.0,
        drains_comes parent root fallen (length parents) (node_at homes i) q r.1,
      )

  pub catchment_from : (q i k : ℕ) → q < length parents → i < length homes → through parent k (node_at homes i) ≡ q →
      catchment parents homes q i ≡ true
  catchment_from q i k qn ih e =
      and_from (nat_lt q (length parents)) (nat_lt i (length homes) && drains parent (length parents) (node_at homes i) q) (lt-ltb q (length parents) qn)
      (and_from (nat_lt i (length homes)) (drains parent (length parents) (node_at homes i) q) (lt-ltb i (length homes) ih)
      (comes_drains parent root fallen (length parents) (node_at homes i) q k
      (omega (arith, ok.3 i ih)) e))

  -- The catchment of the root holds every unit.
  pub root_catchment : (i : ℕ) → i < length homes → catchment parents homes 0 i ≡ true
  root_catchment i ih =
      let way = drains_comes parent root fallen (length parents) (node_at homes i) 0
      (comes_to_root parent root fallen (length parents) (node_at homes i) (omega (arith, ok.3 i ih))) in
      catchment_from 0 i way.0 (omega (arith, ok.3 i ih)) ih way.1

  -- Of two catchments that share a unit, that of the higher node lies inside the other.
  pub catchment_inside : (q r i j : ℕ) → q ≤ r → catchment parents homes q i ≡ true → catchment parents homes r i ≡ true →
      catchment parents homes r j ≡ true → catchment parents homes q j ≡ true
  catchment_inside q r i j low in_q in_r other =
      let a = catchment_parts q i in_q in
      let b = catchment_parts r i in_r in
      let d = catchment_parts r j other in
      let on = on_one_way parent root fallen (node_at homes i) q r a.2.0 b.2.0 a.2.1 b.2.1 low in
      catchment_from q j (d.2.0 + on.0) a.0 d.1
      (through_on parent root fallen d.2.0 on.0 (node_at homes j)
      ∙ ap (through parent on.0) d.2.1 ∙ on.1)

-- A catchment holds what drains into its node.
pub catchments_drained : CatchmentsAreDrained
catchments_drained parents homes ok q i = record {
  exist = λ e. let p = catchment_parts parents homes ok q i e in (p.0, p.1);
  comes = λ e. (catchment_parts parents homes ok q i e).2;
  holds = λ qn ih k e. catchment_from parents homes ok q i k qn ih e;
}
