-- Laws of sums and counts over the numbers below n, each by induction on n.
use Rattle.std.proofs.Common.{◌≡◌, ℕ, zero, suc, ◌+◌, ◌*◌, ◌<◌, ◌≤◌, Bool, true, false, cond, refl, ap, inl, inr, add-zero, add-suc, arith}
use Rattle.std.proofs.lemmas.Bool.{false≢true, cases_Bool, cases_eq}
use Rattle.terms.specs.Counts.{total, count}

-- equal terms, equal sums
pub total_same : (f g : ℕ → ℕ) (n : ℕ) → ((i : ℕ) → i < n → f i ≡ g i) → total f n ≡ total g n
total_same f g zero h = refl
total_same f g (suc n) h = omega (arith, total_same f g n (λ i l. h i (omega arith)), h n (omega arith))

-- smaller terms, a smaller sum
pub total_le : (f g : ℕ → ℕ) (n : ℕ) → ((i : ℕ) → i < n → f i ≤ g i) → total f n ≤ total g n
total_le f g zero h = omega arith
total_le f g (suc n) h = omega (arith, total_le f g n (λ i l. h i (omega arith)), h n (omega arith))

-- and a strictly smaller one where one of the terms is
pub total_lt : (f g : ℕ → ℕ) (n : ℕ) → ((i : ℕ) → i < n → f i ≤ g i) → (j : ℕ) → j < n → f j < g j → total f n < total g n
total_lt f g zero h j l s = omega arith
total_lt f g (suc n) h j l s =
    elim (cases_eq j n) [
      | inl e ↦ omega (arith, total_le f g n (λ i l. h i (omega arith)), rw e at s)
      | inr e ↦ omega (arith, total_lt f g n (λ i l. h i (omega arith)) j (omega arith) s, h n (omega arith))
    ]

-- a sum of nothing but zeros
pub total_none : (f : ℕ → ℕ) (n : ℕ) → ((i : ℕ) → i < n → f i ≡ 0) → total f n ≡ 0
total_none f zero h = refl
total_none f (suc n) h = omega (arith, total_none f n (λ i l. h i (omega arith)), h n (omega arith))

-- a term is at most the sum
pub term_le_total : (f : ℕ → ℕ) (n i : ℕ) → i < n → f i ≤ total f n
term_le_total f zero i h = omega arith
term_le_total f (suc n) i h = elim (cases_eq i n) [ inl e ↦ omega (arith, ap f e) | inr e ↦ omega (arith, term_le_total f n i (omega arith)) ]

-- the sum over n + k numbers, in two parts
pub total_split : (f : ℕ → ℕ) (n k : ℕ) → total f (n + k) ≡ total f n + total (λ i. f (n + i)) k
total_split f n zero = rw (add-zero n) (omega arith)
total_split f n (suc k) = rw (add-suc n k) (omega (arith, total_split f n k))

-- a number counts at most once
pub at_most_one : (b : Bool) → cond b 1 0 ≤ 1
at_most_one true = omega arith
at_most_one false = omega arith

pub count_le : (p : ℕ → Bool) (n : ℕ) → count p n ≤ n
count_le p zero = omega arith
count_le p (suc n) = omega (arith, count_le p n, at_most_one (p n))

-- what is in the set counts
pub count_some : (p : ℕ → Bool) (n i : ℕ) → i < n → p i ≡ true → 1 ≤ count p n
count_some p n i h e = rw e at (term_le_total (λ k. cond (p k) 1 0) n i h)

-- the sum of x at the numbers of a set and of f i * k at the others
pub total_cond : (p : ℕ → Bool) (f : ℕ → ℕ) (x k n : ℕ) →
    total (λ i. cond (p i) x (f i * k)) n ≡ count p n * x + total (λ i. cond (p i) 0 (f i)) n * k
total_cond p f x k zero = omega arith
total_cond p f x k (suc n) =
    elim (cases_Bool (p n)) [ inl e ↦ rw e (omega (arith, total_cond p f x k n)) | inr e ↦ rw e (omega (arith, total_cond p f x k n)) ]

-- Each number below n that is in p is in q.
abbrev pub Part : ℕ → (ℕ → Bool) → (ℕ → Bool) → Type 0
Part n p q = (i : ℕ) → i < n → p i ≡ true → q i ≡ true

-- the empty set is a part of every set
pub none_part : (q : ℕ → Bool) (n : ℕ) → Part n (λ _. false) q
none_part q n i l e = absurd (false≢true e)

-- where a set grows, a choice changes only at what is new
pub grown : (R : ℕ → ℕ → Type 0) → ((z : ℕ) → R z z) → (b d : Bool) (x y : ℕ) → (b ≡ true → d ≡ true) → (b ≡ false → d ≡ true → R y x) →
    R (cond b x y) (cond d x y)
grown R r true true x y s h = r x
grown R r true false x y s h = absurd (false≢true (s refl))
grown R r false true x y s h = h refl refl
grown R r false false x y s h = r y

counts_le : (p q : ℕ → Bool) (n : ℕ) → Part n p q → (i : ℕ) → i < n → cond (p i) 1 0 ≤ cond (q i) 1 0
counts_le p q n s i l = grown (λ a b. a ≤ b) (λ z. omega arith) (p i) (q i) 1 0 (s i l) (λ _ _. omega arith)

-- a part counts no more than the whole
pub part_le : (p q : ℕ → Bool) (n : ℕ) → Part n p q → count p n ≤ count q n
part_le p q n s = total_le _ _ n (counts_le p q n s)

-- and less where something is missing
pub part_lt : (p q : ℕ → Bool) (n : ℕ) → Part n p q → (j : ℕ) → j < n → p j ≡ false → q j ≡ true → count p n < count q n
part_lt p q n s j l e d = total_lt _ _ n (counts_le p q n s) j l (rw (e, d) (omega arith))

-- so a part that counts as much as the whole is the whole
pub part_same : (p q : ℕ → Bool) (n : ℕ) → Part n p q → count q n ≤ count p n → Part n q p
part_same p q n s h i l d = elim (cases_Bool (p i)) [ inl e ↦ e | inr e ↦ absurd (omega (arith, part_lt p q n s i l e d)) ]

-- tests that pass together
pub same_test : (b d : Bool) → (b ≡ true → d ≡ true) → (d ≡ true → b ≡ true) → b ≡ d
same_test true d s t = cc (s refl)
same_test false true s t = t refl
same_test false false s t = refl

-- two sets that are parts of one another
pub same_set : (p q : ℕ → Bool) (n : ℕ) → Part n p q → Part n q p → (i : ℕ) → i < n → p i ≡ q i
same_set p q n s t i l = same_test (p i) (q i) (s i l) (t i l)
