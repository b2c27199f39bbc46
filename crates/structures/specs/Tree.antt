-- The tree: its ranges are the catchments of its nodes.
use Rattle.std.specs.Prelude.{◌≡◌, ℕ, ◌<◌, ◌≤◌, ◌⊎◌, List, length, Ok, Err, Result}
use Rattle.std.proofs.Common.{arith}
use Rattle.terms.specs.Faults.{tells}
use Rattle.terms.specs.declared.fault.Fault.{Fault}
use Rattle.terms.specs.declared.numbers.NodeNo.{NodeNo}
use Rattle.structures.specs.Meaning.{Meaning}
use Rattle.structures.specs.Drainage.{InOrder, FirstBroken, FirstHomeless, Drainage, catchment}
use Rattle.structures.specs.DrainageLaws.{catchment_parts}
use Rattle.structures.specs.ExtremeLaws.{highest_found}
use Rattle.structures.specs.TreeChoice.{can_pair, tree_choice}
use Rattle.structures.specs.TreeLaws.{few_node, none_node, names_any, pairs_node}

-- The tree that drains so: a range for each node, which is its catchment.
abbrev pub tree : (parents homes : List NodeNo) → Drainage parents homes → Meaning
tree parents homes ok = record {
  units = length homes;
  ranges = length parents;
  range = catchment parents homes;
  choice = tree_choice parents homes;
  few_units = ok.1;
  few_ranges = omega (arith, ok.0);
  inside = λ q i e. let p = catchment_parts parents homes ok q i e in (p.0, p.1);
  none_from_few = λ J _ few. few_node parents homes ok J few _ (highest_found (can_pair parents homes J) (length parents));
  few_from_none = λ J inside e. none_node parents homes ok J inside _ (highest_found (can_pair parents homes J) (length parents)) e;
  names_marked = λ J _ a b e. names_any parents homes ok J _ a b e;
  pairing = λ J inside a b e. pairs_node parents homes ok J inside _ (highest_found (can_pair parents homes J) (length parents)) a b e;
}

-- Filling a tree with these parents and homes leaves it with parents' and homes' and has this answer. That a refusal changes nothing is promised beside it.
pub data Filled (parents homes parents' homes' : List NodeNo) : Result (Unit {0}) Fault → Type 0 where
  -- there are more than 1,024 nodes or units
  too_large : {f : Fault} → (1024 < length parents) ⊎ (1024 < length homes) → tells f ≡ (17, 0) → Filled parents homes parents' homes' (Err f)
  -- node v is the first whose parent breaks the rule
  parent_out_of_order : {v : ℕ} {f : Fault} → length parents ≤ 1024 → length homes ≤ 1024 → FirstBroken parents v → tells f ≡ (18, v) →
      Filled parents homes parents' homes' (Err f)
  -- unit i is the first whose home is no node
  home_too_high : {i : ℕ} {f : Fault} → length parents ≤ 1024 → length homes ≤ 1024 → InOrder parents →
      FirstHomeless (length parents) homes i → tells f ≡ (19, i) → Filled parents homes parents' homes' (Err f)
  -- there is no memory for the two lists
  no_memory : {f : Fault} → Drainage parents homes → tells f ≡ (99, 0) → Filled parents homes parents' homes' (Err f)
  -- the tree has these nodes and units
  filled : Drainage parents homes → parents' ≡ parents → homes' ≡ homes → Filled parents homes parents' homes' (Ok tt)
