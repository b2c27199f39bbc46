-- A register has one roll.
use Rattle.std.proofs.Common.{◌≡◌, ℕ, zero, suc, ◌+◌, ◌-◌, ◌<◌, ◌≤◌, List, length, get_or, sym, ap, subst, inl, inr, add-zero, arith}
use Rattle.std.proofs.lemmas.List.{ext_get_or}
use Rattle.std.proofs.lemmas.Bool.{cases_lt}
use Rattle.pivotal.specs.Questions.{Roll, RollIsDetermined}
use Rattle.pivotal.specs.declared.table.UnitRecord.{UnitRecord}

-- Each number is larger than the one before it.
abbrev Rising : List ℕ → Type 0
Rising xs = (k : ℕ) → k + 1 < length xs → get_or xs k 0 < get_or xs (k + 1) 0

-- over a distance the numbers rise by no less than it
rising_far : (xs : List ℕ) → Rising xs → (k far : ℕ) → k + far < length xs → get_or xs k 0 + far ≤ get_or xs (k + far) 0
rising_far xs rise k zero h = omega (arith, ap (λ n. get_or xs n 0) (add-zero k))
rising_far xs rise k (suc far) h =
    omega (arith, rising_far xs rise k far (omega arith), rise (k + far) (omega arith), ap (λ n. get_or xs n 0) (same k far))
  where
    same : (a b : ℕ) → a + b + 1 ≡ a + suc b
    same a b = omega arith

-- the same between two places
rising_to : (xs : List ℕ) → Rising xs → (i j : ℕ) → i ≤ j → j < length xs → get_or xs i 0 + (j - i) ≤ get_or xs j 0
rising_to xs rise i j l h =
    omega (arith, rising_far xs rise i (j - i) (omega arith), ap (λ n. get_or xs n 0) (same i j l))
  where
    same : (a b : ℕ) → a ≤ b → a + (b - a) ≡ b
    same a b l = omega arith

-- At place k both lists have the same number, if the first has one.
abbrev Agree : List ℕ → List ℕ → ℕ → Type 0
Agree xs ys k = k < length xs → (k < length ys) × (get_or xs k 0 ≡ get_or ys k 0)

-- where two rolls agree before place n, the other has the number at n of the one, and not before n
found_later : (D : ℕ) (rows : List UnitRecord) (xs ys : List ℕ) → Roll D rows xs → Roll D rows ys → (n : ℕ) → ((k : ℕ) → k < n → Agree xs ys k) → n < length xs → (j : ℕ) × (n ≤ j) × (j < length ys) × (get_or ys j 0 ≡ get_or xs n 0)
found_later D rows xs ys p q n old h =
    let o = q.all_drawn (get_or xs n 0) (p.only_drawn n h) in
    (o.0, elim (cases_lt o.0 n) [ inl l ↦ absurd (omega (arith, o.2, (old o.0 l (omega arith)).1, rising_to xs p.rising o.0 n (omega arith) h)) | inr l ↦ l ], o.1, o.2)

-- so they agree at n as well
agree_more : (D : ℕ) (rows : List UnitRecord) (xs ys : List ℕ) → Roll D rows xs → Roll D rows ys → (n : ℕ) → ((k : ℕ) → k < n → Agree xs ys k) → Agree xs ys n
agree_more D rows xs ys p q n old h =
    let o = found_later D rows xs ys p q n old h in
    let back : (k : ℕ) → k < n → Agree ys xs k = λ k l b. (omega arith, sym (old k l (omega arith)).1) in
    let within : n < length ys = omega (arith, o.1, o.2) in
    let r = found_later D rows ys xs q p n back within in
    (within, omega (arith, o.3, r.3, rising_to ys q.rising n o.0 o.1 o.2, rising_to xs p.rising n r.0 r.1 r.2))

-- and everywhere
agree_below : (D : ℕ) (rows : List UnitRecord) (xs ys : List ℕ) → Roll D rows xs → Roll D rows ys → (n k : ℕ) → k < n → Agree xs ys k
agree_below D rows xs ys p q zero k h = absurd (omega arith)
agree_below D rows xs ys p q (suc n) k h =
    let old = agree_below D rows xs ys p q n in
    elim (cases_lt k n) [ inl l ↦ old k l | inr l ↦ let same : n ≡ k = omega arith in subst (Agree xs ys) same (agree_more D rows xs ys p q n old) ]

-- none is longer than the other
shorter : (D : ℕ) (rows : List UnitRecord) (xs ys : List ℕ) → Roll D rows xs → Roll D rows ys → length xs ≤ length ys
shorter D rows xs ys p q =
    elim (cases_lt (length ys) (length xs)) [ inl l ↦ absurd (omega (arith, (agree_below D rows xs ys p q (length ys + 1) (length ys) (omega arith) l).0)) | inr l ↦ l ]

-- two rolls of a register are the same list
pub roll_is_determined : RollIsDetermined
roll_is_determined D rows xs ys p q =
    ext_get_or 0 xs ys (omega (arith, shorter D rows xs ys p q, shorter D rows ys xs q p)) (λ k h. (agree_below D rows xs ys p q (k + 1) k (omega arith) h).1)
