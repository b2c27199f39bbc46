-- One pass over the units, which stops at the marked ones.
use Rattle.std.proofs.Common.{◌≡◌, ℕ, ◌+◌, ◌<◌, ◌≤◌, Bool, true, false, min, List, [], ◌∷◌, length, get_or, Some, None, Option, sym, ap, ◌∙◌, subst, inl, inr, arith, Bor}
use Rattle.std.proofs.Math.Nat.{min-le_left}
use Rattle.std.proofs.lemmas.Bool.{cases_eq, cases_lt, both_ways}
use Rattle.std.proofs.lemmas.Bool.Decides.{nat_tests}
use Rattle.std.proofs.iter.Yields.{nat_range_steps}
use Rattle.std.specs.Fn.{CalledAt}
use Rattle.std.specs.Iterator.{Yields}
use Rattle.std.specs.Iterator.Adapters.{filter_source, filter_callee, filter_steps}
use Rattle.std.specs.List.{FoldsTo}
use Rattle.std.specs.declared.iter.Filter.{Filter}
use Rattle.std.specs.declared.ops.Range.{Range}
use denote.Param.Members.{Mut}
use Rattle.structures.specs.Lowest.{two_lowest}
use Rattle.structures.specs.LowestLaws.{count_none, count_alone, none_from_few, some_from_pair}
use Rattle.structures.specs.Marks.{marked}
use Rattle.structures.specs.Meaning.{Units}
use Rattle.structures.proofs.Marked.{is_mark, unmarked_behind}

-- No unit of the set is at a or above it, below n.
abbrev NoneFrom : Units → ℕ → ℕ → Type 0
NoneFrom J a n = (k : ℕ) → a ≤ k → k < n → J k ≡ false

-- A unit below n is in the set where its byte marks, and is not where it does not.
marked_here : (n : ℕ) (bytes : List ℕ) (i : ℕ) → i < n → true ≡ is_mark (get_or bytes i 0) → marked n bytes i ≡ true
marked_here n bytes i h e = grind (arith, nat_tests)

unmarked_here : (n : ℕ) (bytes : List ℕ) (i : ℕ) → false ≡ is_mark (get_or bytes i 0) → marked n bytes i ≡ false
unmarked_here n bytes i e = grind (arith, nat_tests)

-- The pass asks f of those of n units that have a byte, the first m, in turn; f tells whether the byte marks.
module _ {F : Type 0} {g : Mut F (Bor ℕ × Unit {0}) Bool} (n m : ℕ) (bytes : List ℕ) (ends : m ≡ min n (length bytes)) (f : F)
    (tells : (i : ℕ) (b : Bool) (q : F) → CalledAt g f i b q → (q ≡ f) × (b ≡ is_mark (get_or bytes i 0))) where
  abbrev J : Units
  J = marked n bytes

  abbrev Asks : F → List ℕ → F → Type 0
  Asks = FoldsTo (λ p i q. CalledAt g p i false q)

  abbrev Turn : Filter (Range ℕ) F → Option ℕ → Filter (Range ℕ) F → Type 0
  Turn = filter_steps nat_range_steps g

  -- What a turn goes past is not marked.
  past : (xs : List ℕ) (s t : Range ℕ) (q : F) → Yields nat_range_steps s xs t → Asks f xs q →
      (q ≡ f) × (t.end ≡ s.end) × (s.start ≤ t.start) × NoneFrom J s.start t.start
  past [] s t q y e =
      let same : s.start ≡ t.start = ap (λ (k : Range ℕ). k.start) y in
      (sym e, ap (λ (k : Range ℕ). k.end) (sym y), omega (arith, same), λ k l h. absurd (omega (arith, same)))
  past (i ∷ xs) s t q y e =
      let told = tells i false e.0 e.1 in
      let on = past xs y.0 t q y.2 (subst (λ p. Asks p xs q) told.0 e.2) in (
        on.0,
        on.1 ∙ y.1.0,
        omega (arith, y.1.1.2, on.2),
        λ k l h. elim (cases_eq k i) [
          | inl same ↦ ap J same ∙ unmarked_here n bytes i told.1
          | inr d ↦ on.3 k (omega (arith, y.1.1.1, y.1.1.2)) h
        ],
      )

  -- A pass that has come to unit a.
  abbrev At : Filter (Range ℕ) F → ℕ → Type 0
  At s a = (filter_source s ≡ record { start = a; end = m }) × (filter_callee s ≡ f)

  module _ (s u : Filter (Range ℕ) F) (a : ℕ) (at : At s a) where
    turn : (r : Option ℕ) (d : Turn s r u) → (d.1 ≡ f) × (d.2.0.end ≡ m) × (a ≤ d.2.0.start) × NoneFrom J a d.2.0.start
    turn r d =
        let p = past d.0 (filter_source s) d.2.0 d.1 d.2.1 (subst (λ q. Asks q d.0 d.1) at.1 d.3) in
        let start : (filter_source s).start ≡ a = ap (λ q. q.start) at.0 in
        (p.0, p.1 ∙ ap (λ q. q.end) at.0, omega (arith, start, p.2), λ k l h. p.3 k (omega (arith, start)) h)

    -- Its last turn leaves no unit behind,
    ended : Turn s None u → NoneFrom J a n
    ended d =
        let p = turn None d in
        λ k l h. elim (cases_lt k m) [
          | inl here ↦ p.3 k l (omega (arith, p.1, d.2.2.1.0))
          | inr past ↦ unmarked_behind n m bytes ends k past
        ]

    -- and any other stops at the next marked one.
    stopped : (i : ℕ) → Turn s (Some i) u → (a ≤ i) × (i < n) × (J i ≡ true) × NoneFrom J a i × At u (i + 1)
    stopped i d =
        let p = turn (Some i) d in
        let step = d.2.2 in
        let here : i ≡ d.2.0.start = step.1.1 in
        let told = tells i true (filter_callee u) (subst (λ q. CalledAt g q i true (filter_callee u)) p.0 d.4) in
        let reached : i < m = omega (arith, p.1, step.1.0, here) in
        let below : i < n = omega (arith, reached, ends, min-le_left n (length bytes)) in
        let start : (filter_source u).start ≡ i + 1 = omega (arith, step.1.2, here) in
        let end : (filter_source u).end ≡ m = step.0 ∙ p.1 in (
          omega (arith, p.2, here),
          below,
          marked_here n bytes i below told.1,
          λ k l h. p.3 k l (omega (arith, here)),
          ((λ x. record { start = start x; end = end x }), told.0),
        )

  module _ (s t : Filter (Range ℕ) F) (at : At s 0) where
    -- A pass that never stops finds no unit,
    pub finds_none : Turn s None t → two_lowest J n ≡ None
    finds_none d = none_from_few J n (omega (arith, count_none J n (λ c h. ended s t 0 at d c (omega arith) h)))

    -- one that stops once finds a unit alone,
    pub finds_one : (u : Filter (Range ℕ) F) (a : ℕ) → Turn s (Some a) t → Turn t None u → two_lowest J n ≡ None
    finds_one u a d e =
        let first = stopped s t 0 at a d in
        none_from_few J n (count_alone J n a (λ c h ne. elim (cases_lt c a) [
          | inl l ↦ first.3 c (omega arith) l
          | inr ge ↦ ended t u (a + 1) first.4 e c (omega (arith, ne)) h
        ]))

    -- and one that stops twice finds the pair.
    pub finds_two : (u : Filter (Range ℕ) F) (a b : ℕ) → Turn s (Some a) t → Turn t (Some b) u → two_lowest J n ≡ Some (a, b)
    finds_two u a b d e =
        let first = stopped s t 0 at a d in
        let second = stopped t u (a + 1) first.4 b e in
        let between : (c : ℕ) → (c ≡ a → ⊥) → c < b → J c ≡ false = λ c ne l. elim (cases_lt c a) [
          | inl low ↦ first.3 c (omega arith) low
          | inr ge ↦ second.3 c (omega (arith, ne)) l
        ] in
        some_from_pair J n a b (record {
          ordered = omega (arith, second.0);
          bounded = second.1;
          first_in = first.2;
          second_in = second.2;
          others_above = λ c k. elim (cases_eq c a) [
            | inl same ↦ inl same
            | inr ne ↦ inr (elim (cases_lt c b) [ inl l ↦ absurd (both_ways (J c) (between c ne l) k) | inr ge ↦ ge ])
          ];
        })
