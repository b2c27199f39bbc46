-- Walking down from a node until the numbers have fallen to that of the node that is asked for.
use Rattle.std.proofs.Common.{◌≡◌, ℕ, zero, suc, ◌+◌, ◌<◌, ◌≤◌, eqb, List, length, get_or, ap, ◌∙◌, arith}
use Rattle.std.proofs.lemmas.List.{get_or_read}
use Rattle.std.proofs.lemmas.Bool.{eq-eqb, eqb-true}
use Rattle.terms.proofs.Totals.{same_test}
use Rattle.terms.specs.declared.numbers.NodeNo.{NodeNo}
use Rattle.structures.specs.Drainage.{node_at, Drainage, through, catchment}
use Rattle.structures.specs.DrainageLaws.{at_root, falling, parent_le, through_le, through_on, catchment_parts, catchment_from}

-- A node that is read from a list, by its number.
pub node_read : (nodes : List NodeNo) (i : ℕ) (node : NodeNo) → i < length nodes → node ≡ get_or nodes i node → node.0 ≡ node_at nodes i
node_read nodes i node h e = ap (λ (n : NodeNo). n.0) (get_or_read nodes i node h e (record { 0 = 0 }))

-- A walk from home has come to v: the way from home leads there, and on to q if it leads to q at all.
abbrev pub Walked : List NodeNo → ℕ → ℕ → ℕ → Type 0
Walked parents home q v =
    (v < length parents)
    × ((k : ℕ) × (through (node_at parents) k home ≡ v))
    × ((k : ℕ) → through (node_at parents) k home ≡ q → (j : ℕ) × (through (node_at parents) j v ≡ q))

-- What lies on the way from v, below v, lies on the way from its parent.
pub further_on : (parent : ℕ → ℕ) (q v j : ℕ) → q < v → through parent j v ≡ q → (k : ℕ) × (through parent k (parent v) ≡ q)
further_on parent q v zero above e = absurd (omega arith)
further_on parent q v (suc j) above e = (j, e)

module _ (parents homes : List NodeNo) (ok : Drainage parents homes) where
  abbrev parent : ℕ → ℕ
  parent = node_at parents

  fallen : (v : ℕ) → 0 < v → parent v < v
  fallen = falling parents ok.2

  -- A parent is a node too.
  pub parent_below : (v m : ℕ) → v < m → parent v < m
  parent_below v m h = omega (arith, parent_le parent (at_root parents ok.2) fallen v)

  -- It goes down by a parent while it is above q, since q then lies further on,
  pub walked_more : (home q v : ℕ) → q < v → Walked parents home q v → Walked parents home q (parent v)
  walked_more home q v above walked =
      let on = walked.1 in (
        parent_below v (length parents) walked.0,
        (on.0 + 1, through_on parent (at_root parents ok.2) fallen on.0 1 home ∙ ap parent on.1),
        λ k e. let further = walked.2 k e in further_on parent q v further.0 above further.1,
      )

  -- and is at q in the end just if the catchment of q holds the unit.
  pub walked_all : (q v i : ℕ) → i < length homes → v ≤ q → Walked parents (node_at homes i) q v →
      eqb v q ≡ catchment parents homes q i
  walked_all q v i ih low walked = same_test (eqb v q) (catchment parents homes q i)
      (λ e. let on = walked.1 in
      let here = eqb-true v q e in
      catchment_from parents homes ok q i on.0 (omega (arith, walked.0)) ih (on.1 ∙ here))
      (λ e. let r = catchment_parts parents homes ok q i e in
      let on = walked.2 r.2.0 r.2.1 in
      eq-eqb v q (omega (arith, through_le parent (at_root parents ok.2) fallen on.0 v, on.1)))
