-- The numbers of the drawn units, in the order in which they are written.
use Rattle.std.proofs.Common.{◌≡◌, ℕ, zero, suc, ◌+◌, ◌<◌, ◌≤◌, Bool, true, cond, eqb, List, [], ◌∷◌, ◌++◌, length, get_or, drop, set, Some, None, Option, sym, refl, ap, ◌∙◌, inl, inr, add-zero, zero-add, arith}
use Rattle.std.proofs.Math.Seq.{paste}
use Rattle.std.proofs.lemmas.Bool.{and_parts, cases_Bool, lt-ltb, ltb-true}
use Rattle.std.proofs.lemmas.Iterator.{YieldsList}
use Rattle.std.proofs.lemmas.Iterator.Consumers.{YieldsList-turn, YieldsList-end}
use Rattle.std.proofs.lemmas.List.Edits.{paste_all, paste_more}
use Rattle.std.proofs.lemmas.List.Elements.{All-get_or, filter_passes}
use Rattle.std.proofs.lemmas.List.FromFn.{length-range_with_len, get_or-range_with_len, length-enumerate_from, get_or-enumerate_from}
use Rattle.std.proofs.lemmas.List.Kept.{IsStrictlyIncreasing-filter}
use Rattle.std.proofs.lemmas.List.Sums.{sum_by-cons}
use Rattle.std.specs.Iterator.{Yields}
use Rattle.std.specs.List.{count_by, filter, range_with_len, enumerate_from}
use Rattle.pivotal.specs.Questions.{Roll, Rolled, drawn_count}
use Rattle.pivotal.specs.Register.{drawn, blank}
use Rattle.pivotal.specs.declared.table.UnitRecord.{UnitRecord}

-- The drawn units, rising.
abbrev pub drawn_numbers : ℕ → List UnitRecord → List ℕ
drawn_numbers D rows = filter (drawn D rows) (range_with_len 0 (length rows))

-- what passes a test is among the numbers that pass it
kept : (p : ℕ → Bool) (xs : List ℕ) (i : ℕ) → i < length xs → p (get_or xs i 0) ≡ true → (k : ℕ) × (k < length (filter p xs)) × (get_or (filter p xs) k 0 ≡ get_or xs i 0)
kept p [] i h e = absurd (omega arith)
kept p (x ∷ xs) zero h e = rw e (zero, omega arith, refl)
kept p (x ∷ xs) (suc i) h e =
    let old = kept p xs i (omega arith) e in
    elim (cases_Bool (p x)) [ inl t ↦ rw t (suc old.0, omega (arith, old.1), old.2) | inr t ↦ rw t old ]

-- they are the roll
pub roll_numbers : (D : ℕ) (rows : List UnitRecord) → Roll D rows (drawn_numbers D rows)
roll_numbers D rows =
    let n = length rows in
    let all = range_with_len 0 n in
    let long = length-range_with_len 0 n in
    record {
      rising = IsStrictlyIncreasing-filter (drawn D rows) all (λ k h.
          omega (arith, get_or-range_with_len 0 n k 0 (omega (arith, long)), get_or-range_with_len 0 n (k + 1) 0 (omega (arith, long))));
      only_drawn = λ k h. All-get_or (λ i. drawn D rows i ≡ true) (drawn_numbers D rows) k 0 h (filter_passes (drawn D rows) all);
      all_drawn = λ i e.
          let there = ltb-true i n (and_parts _ _ e).0 in
          let same : get_or all i 0 ≡ i = omega (arith, get_or-range_with_len 0 n i 0 there) in
          let found = kept (drawn D rows) all i (omega (arith, long)) (rw same e) in
          (found.0, found.1, found.2 ∙ same);
    }

-- of the numbers from a on as many pass a test of numbers as there are records that pass a test of records, where the two agree
same_many : (p : ℕ → Bool) (test : UnitRecord → Bool) (a : ℕ) (rows : List UnitRecord) → ((i : ℕ) → i < length rows → p (a + i) ≡ test (get_or rows i blank)) →
    length (filter p (range_with_len a (length rows))) ≡ count_by test rows
same_many p test a [] agree = refl
same_many p test a (unit ∷ rows) agree =
    let here : p a ≡ test unit = ap p (sym (add-zero a)) ∙ agree 0 (omega arith) in
    let old = same_many p test (a + 1) rows (λ i h. ap p (omega arith) ∙ agree (suc i) (omega arith)) in
    sym (sum_by-cons (λ x. cond (test x) 1 0) unit rows ∙
    elim (cases_Bool (test unit)) [ inl t ↦ rw (here, t) (omega (arith, old)) | inr t ↦ rw (here, t) (omega (arith, old)) ])

-- and as many as a count finds
pub length_roll : (D : ℕ) (rows : List UnitRecord) → length (drawn_numbers D rows) ≡ drawn_count D rows
length_roll D rows = same_many (drawn D rows) (λ unit. eqb unit.present D) 0 rows (λ i h. rw (zero-add i, lt-ltb i (length rows) h) refl)

-- The drawn units come one by one, each with its place, and are written at their places behind those that have come.
module _ {S : Type 0} {steps : S → Option (ℕ × ℕ) → S → Type 0} {s : S} (D : ℕ) (rows : List UnitRecord)
    (road : YieldsList steps (λ p. p) s (enumerate_from 0 (drawn_numbers D rows))) (come : List (ℕ × ℕ)) (t u : S) (yields : Yields steps s come t)
    (r : Option (ℕ × ℕ)) (step : steps t r u) (list : List ℕ) (room : drawn_count D rows ≤ length list) where
  abbrev numbers : List ℕ
  numbers = drawn_numbers D rows

  -- There is a place for the next, where it is written,
  pub next_written : (place unit : ℕ) → r ≡ Some (place, unit) →
      (place < length list) × (set (paste list 0 numbers (length come)) place unit ≡ paste list 0 numbers (length come + 1))
  next_written place unit is =
      let p = YieldsList-turn road come t yields r u (place, unit) is step in
      let more : length come < length numbers = omega (arith, p.0, length-enumerate_from 0 numbers) in
      let space : length come < length list = omega (arith, more, length_roll D rows) in
      let pair = p.1 ∙ get_or-enumerate_from 0 numbers (length come) (place, unit) more in
      let here = ap (λ q. q.0) pair in
      let unit_is = ap (set (paste list 0 numbers (length come)) (0 + length come)) (ap (λ q. q.1) pair) in
      (omega (arith, here, space), rw here (unit_is ∙ paste_more list 0 numbers (length come) unit (omega (arith, space)) more))

  -- and at the end all are.
  pub all_written : r ≡ None → (list' : List ℕ) → list' ≡ paste list 0 numbers (length come) → Rolled D rows list list' (drawn_count D rows)
  all_written is list' written =
      let all : length come ≡ length numbers = omega (arith, (YieldsList-end road come t yields r u is step).1, length-enumerate_from 0 numbers) in
      let many = length_roll D rows in
      let behind : 0 + length come ≡ drawn_count D rows = omega (arith, all, many) in
      record {
        numbers = numbers;
        roll = roll_numbers D rows;
        many = sym many;
        room = room;
        after = written ∙ paste_all list 0 numbers (length come) all ∙ ap (λ n. numbers ++ drop n list) behind;
      }
