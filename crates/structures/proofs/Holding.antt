-- One pass over the units, which gives each marked unit to its home.
use Rattle.std.proofs.Common.{◌≡◌, ℕ, ◌+◌, ◌<◌, ◌≤◌, true, false, eqb, ltb, List, get_or, set, replicate, sym, ap, ◌∙◌, subst, inl, inr, arith}
use mathlib.Core.Path.{fun_ext}
use Rattle.std.proofs.lemmas.List.{get_or-set_same, get_or-set_other, get_or-replicate, length-set, length-replicate}
use Rattle.std.proofs.lemmas.Bool.{cases_eq, and_left, le-ltb}
use Rattle.std.proofs.lemmas.Bool.Decides.{nat_tests}
use Rattle.structures.specs.Held.{Keeps, joined, at_node, Kept}
use Rattle.structures.specs.Marks.{marked}
use Rattle.structures.specs.Meaning.{Units}
use Rattle.structures.specs.declared.tree.held.Held.{Held}
use Rattle.structures.specs.declared.tree.held.Held.TheVariants.{Nothing}
use Rattle.structures.proofs.Marked.{is_mark}

-- What is kept of a set is kept of the same set.
pub keeps_same : (J K : Units) (n : ℕ) (h : Held) → ((i : ℕ) → J i ≡ K i) → Keeps J n h → Keeps K n h
keeps_same J K n h same = subst (λ S. Keeps S n h) (fun_ext same)

-- What was held at v, if this unit is what comes to it.
abbrev pub Takes : ℕ → Held → Held → Type 0
Takes unit before after =
    (J : Units) (n : ℕ) → Keeps J n before → unit < n → J unit ≡ false → Keeps (joined unit J) n after

-- At node v nothing changes where nothing comes,
pub joined_away : (J : Units) (place : ℕ → ℕ) (unit v : ℕ) → (place unit ≡ v → ⊥) → (i : ℕ) →
    at_node J place v i ≡ at_node (joined unit J) place v i
joined_away J place unit v away i = grind (arith, nat_tests)

-- and one unit joins what is there where it comes.
pub joined_here : (J : Units) (place : ℕ → ℕ) (unit v : ℕ) → place unit ≡ v → (i : ℕ) →
    joined unit (at_node J place v) i ≡ at_node (joined unit J) place v i
joined_here J place unit v here i = grind (arith, nat_tests)

module _ (place : ℕ → ℕ) (n : ℕ) where
  -- A unit that joins the set comes to its place.
  pub kept_more : (J : Units) (m unit : ℕ) (held : List Held) (after : Held) → m ≤ 1024 → unit < n → J unit ≡ false →
      Takes unit (get_or held (place unit) Nothing) after → Kept J place n m held → Kept (joined unit J) place n m (set held (place unit) after)
  kept_more J m unit held after small below new takes k = record {
    long = length-set held (place unit) after ∙ k.long;
    keeps = λ v h. elim (cases_eq v (place unit)) [
      | inl here ↦ subst (λ x. Keeps (at_node (joined unit J) place v) n x)
          (sym (get_or-set_same held (place unit) after Nothing (omega (arith, k.long))) ∙ ap (λ w. get_or (set held (place unit) after) w Nothing) (sym here))
          (keeps_same _ _ n after (joined_here J place unit v (sym here))
          (takes (at_node J place v) n (subst (λ w. Keeps (at_node J place v) n (get_or held w Nothing)) here (k.keeps v h)) below
          (and_left (J unit) (eqb (place unit) v) new)))
      | inr away ↦ subst (λ x. Keeps (at_node (joined unit J) place v) n x) (sym (get_or-set_other held (place unit) v after Nothing away))
          (keeps_same _ _ n (get_or held v Nothing) (joined_away J place unit v (λ e. away (sym e))) (k.keeps v h))
    ];
  }

  -- The same set is kept alike.
  pub kept_same : (J K : Units) (m : ℕ) (held : List Held) → ((i : ℕ) → J i ≡ K i) → Kept J place n m held → Kept K place n m held
  kept_same J K m held same = subst (λ S. Kept S place n m held) (fun_ext same)

  module _ (bytes : List ℕ) where
    -- A pass begins with no unit,
    pub held_none : Kept (marked 0 bytes) place n 1024 (replicate 1024 Nothing)
    held_none = record {
      long = length-replicate {A = Held} 1024 Nothing;
      keeps = λ v h. subst (λ x. Keeps (at_node (marked 0 bytes) place v) n x) (sym (get_or-replicate {A = Held} 1024 v Nothing Nothing h))
          (λ c. grind (arith, nat_tests));
    }

    -- goes past a unit that is not marked,
    same_marks : (k : ℕ) → is_mark (get_or bytes k 0) ≡ false → (i : ℕ) → marked k bytes i ≡ marked (k + 1) bytes i
    same_marks k free i = grind (arith, nat_tests)

    pub held_over : (k : ℕ) (held : List Held) → is_mark (get_or bytes k 0) ≡ false → Kept (marked k bytes) place n 1024 held →
        Kept (marked (k + 1) bytes) place n 1024 held
    held_over k held free = kept_same (marked k bytes) (marked (k + 1) bytes) 1024 held (same_marks k free)

    -- and gives one that is marked to its place.
    more_marks : (k : ℕ) → is_mark (get_or bytes k 0) ≡ true → (i : ℕ) → joined k (marked k bytes) i ≡ marked (k + 1) bytes i
    more_marks k here i = grind (arith, nat_tests)

    pub held_more : (k : ℕ) (held : List Held) (after : Held) → k < n → is_mark (get_or bytes k 0) ≡ true →
        Takes k (get_or held (place k) Nothing) after → Kept (marked k bytes) place n 1024 held →
        Kept (marked (k + 1) bytes) place n 1024 (set held (place k) after)
    held_more k held after below here takes kept =
        kept_same (joined k (marked k bytes)) (marked (k + 1) bytes) 1024 (set held (place k) after) (more_marks k here)
        (kept_more (marked k bytes) 1024 k held after (omega arith) below
        (and_left (ltb k k) (is_mark (get_or bytes k 0)) (le-ltb k k (omega arith))) takes kept)

    -- Past the last home and the last mark nothing is left to give.
    pub held_all : (k : ℕ) (held : List Held) → k ≤ n → ((c : ℕ) → k ≤ c → marked n bytes c ≡ false) → Kept (marked k bytes) place n 1024 held →
        Kept (marked n bytes) place n 1024 held
    held_all k held few rest = kept_same (marked k bytes) (marked n bytes) 1024 held (λ i. let past = rest i in grind (arith, nat_tests))
