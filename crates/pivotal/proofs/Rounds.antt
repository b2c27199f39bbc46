-- The rounds that look for the certain units: each keeps how many were found and what the measures of the others come to.
use Rattle.std.proofs.Common.{◌≡◌, ℕ, zero, suc, ◌+◌, ◌-◌, ◌*◌, ◌<◌, ◌≤◌, true, false, cond, refl, ap, ◌∙◌, inl, inr, mul-le-mul_right, mul-le-mul_left, le_of_mul-le-mul_right, arith}
use Rattle.std.proofs.lemmas.Bool.{both_ways, false≢true, cases_Bool, cases_lt, cond-true, le-leb, leb-true}
use Rattle.structures.specs.Meaning.{Units}
use Rattle.terms.specs.Counts.{total, count}
use Rattle.terms.proofs.Totals.{Part, count_le, grown, none_part, part_le, part_same, same_set, total_cond, total_le, total_lt, total_none, total_same}
use Rattle.pivotal.specs.Certain.{Certain, rest}
pub use Rattle.pivotal.specs.Splitting.{qualifies}

-- Each of the first n units has a measure of at least 1.
abbrev pub Positive : ℕ → (ℕ → ℕ) → Type 0
Positive n m = (i : ℕ) → i < n → 1 ≤ m i

-- each unit is in the set, or its measure is in the rest
pub covers : (n : ℕ) (m : ℕ → ℕ) (C : Units) → Positive n m → n ≤ count C n + rest m C n
covers zero m C pos = omega arith
covers (suc n) m C pos =
    let ih = covers n m C (λ i l. pos i (omega arith)) in
    elim (cases_Bool (C n)) [ inl e ↦ rw e (omega arith) | inr e ↦ rw e (omega (arith, pos n (omega arith))) ]

-- where nothing is left over, every unit is in the set
pub all_certain : (n : ℕ) (m : ℕ → ℕ) (C : Units) → Positive n m → rest m C n ≡ 0 → count C n ≡ n
all_certain n m C pos e = omega (arith, covers n m C pos, count_le C n)

-- and the other way round
pub none_left : (n : ℕ) (m : ℕ → ℕ) (C : Units) → count C n ≡ n → rest m C n ≡ 0
none_left n m C e =
    total_none _ n λ i l. cond-true (C i) 0 (m i) (part_same C (λ _. true) n (λ _ _ _. refl) (omega (arith, count_le (λ _. true) n)) i l refl)

-- where the measure times K of each unit of the larger set is at least x, x for each new unit is at most K times what the rest loses
pub gather : (n : ℕ) (m : ℕ → ℕ) (C D : Units) (x K : ℕ) → Part n C D → ((i : ℕ) → i < n → D i ≡ true → x ≤ m i * K) →
    count D n * x + rest m D n * K ≤ count C n * x + rest m C n * K
gather n m C D x K s h =
    rw (← total_cond C m x K n, ← total_cond D m x K n)
    (total_le _ _ n λ i l. grown (λ a b. b ≤ a) (λ z. omega arith) (C i) (D i) x (m i * K) (s i l) (λ _. h i l))

-- where it is below x outside the smaller set, and some unit is new, it is more than that
pub spread : (n : ℕ) (m : ℕ → ℕ) (C D : Units) (x K : ℕ) → Part n C D → ((i : ℕ) → i < n → C i ≡ false → m i * K < x) →
    (j : ℕ) → j < n → C j ≡ false → D j ≡ true → count C n * x + rest m C n * K < count D n * x + rest m D n * K
spread n m C D x K s h j l e d =
    rw (← total_cond C m x K n, ← total_cond D m x K n)
    (total_lt _ _ n (λ i l. grown (λ a b. a ≤ b) (λ z. omega arith) (C i) (D i) x (m i * K) (s i l) (λ o _. omega (arith, h i l o)))
    j l (rw (e, d) (h j l e)))

-- a unit outside a set of certain units falls short
pub short : {n : ℕ} {m : ℕ → ℕ} {k : ℕ} (C : Units) → Certain n m k C → (i : ℕ) → i < n → C i ≡ false → m i * (k - count C n) < rest m C n
short {n} {m} {k} C p i l e =
    elim (cases_lt (m i * (k - count C n)) (rest m C n)) [ inl o ↦ o | inr h ↦ absurd (both_ways (C i) e (p.all i l h)) ]

-- The rounds came to a set of c units with W left: it is a part of every set of certain units, and no unit of it would leave again.
pub record Reached (n : ℕ) (m : ℕ → ℕ) (k c W : ℕ) : Type 0 where
  pub set_of : Units
  pub counted : count set_of n ≡ c
  pub left : rest m set_of n ≡ W
  pub few : c ≤ k
  pub enough : (i : ℕ) → i < n → set_of i ≡ true → W ≤ m i * (k - c)
  pub in_every : (D : Units) → Certain n m k D → Part n set_of D

-- at first the set is empty
pub reached_start : (n : ℕ) (m : ℕ → ℕ) (k : ℕ) → Reached n m k 0 (total m n)
reached_start n m k =
    record {
      set_of = λ _. false;
      counted = total_none _ n (λ _ _. refl);
      left = refl;
      few = omega arith;
      enough = λ i l e. absurd (false≢true e);
      in_every = λ D _. none_part D n;
    }

-- a set that grows leaves no more over
rest_le : (n : ℕ) (m : ℕ → ℕ) (C D : Units) → Part n C D → rest m D n ≤ rest m C n
rest_le n m C D s = omega (arith, gather n m C D 0 1 s (λ i l e. omega arith))

-- the numbers of a round, with d units and V left after it: it takes no more than there are places
fits : (c d k V W K : ℕ) → c + K ≡ k → 1 ≤ W → d * W + V * K ≤ c * W + W * K → d ≤ k
fits c d k V W K e p h = le_of_mul-le-mul_right {k = W} (omega (arith, ap (λ x. W * x) e)) p

-- what qualifies before it qualifies after it
lasts : (a c d V W K L : ℕ) → c + K ≡ d + L → V ≤ W → d * W + V * K ≤ c * W + W * K → W ≤ a * K → V ≤ a * L
lasts a c d V W K L e v h w =
    elim (cases_lt 0 K) [
      | inl p ↦ le_of_mul-le-mul_right {k = K} (omega (arith, ap (λ x. W * x) e, mul-le-mul_left L w)) p
      | inr z ↦ omega (arith, mul-le-mul_left a z)
    ]

-- and it cannot be missing from a set of d certain units with V left
missed : (a c d V W K L : ℕ) → c + K ≡ d + L → V ≤ W → d * V + V * L ≤ c * V + W * L → W ≤ a * K → a * L < V → ⊥
missed a c d V W K L e v h w o =
    let z : K ≤ 0 = omega (arith, ap (λ x. V * x) e, mul-le-mul_right L w, mul-le-mul_right K o) in
    omega (arith, mul-le-mul_left a z)

module _ {n : ℕ} {m : ℕ → ℕ} {k c W : ℕ} (r : Reached n m k c W) where
  -- What the next round finds.
  abbrev next : Units
  next = qualifies m (k - c) W

  -- a unit that was found is found again
  stays : Part n r.set_of next
  stays i l e = le-leb W (m i * (k - c)) (r.enough i l e)

  -- so a round loses no unit
  pub round_grows : c ≤ count (qualifies m (k - c) W) n
  round_grows = rw r.counted at (part_le r.set_of next n stays)

  -- and leaves no more over
  pub round_leaves : rest m (qualifies m (k - c) W) n ≤ W
  round_leaves = rw r.left at (rest_le n m r.set_of next stays)

  -- W for each new unit is at most the places left times what the rest loses
  gathered : count next n * W + rest m next n * (k - c) ≤ c * W + W * (k - c)
  gathered = rw (r.counted, r.left) at (gather n m r.set_of next W (k - c) stays (λ i l. leb-true W (m i * (k - c))))

  -- it finds at most k units
  takes : Positive n m → count next n ≤ k
  takes pos =
      elim (cases_lt 0 W) [
        | inl p ↦ fits c (count next n) k (rest m next n) W (k - c) (omega arith) p gathered
        | inr z ↦ omega (arith, all_certain n m r.set_of pos (omega arith), count_le next n)
      ]

  -- and each is in every set of certain units
  pub found : (D : Units) → Certain n m k D → Part n (qualifies m (k - c) W) D
  found D d i l q =
      let inside = r.in_every D d in
      elim (cases_Bool (D i)) [
        | inl e ↦ e
        | inr e ↦
            absurd (missed (m i) c (count D n) (rest m D n) W (k - c) (k - count D n) (omega (arith, d.few))
            (rw r.left at (rest_le n m r.set_of D inside))
            (rw (r.counted, r.left) at (gather n m r.set_of D (rest m D n) (k - count D n) inside d.enough))
            (leb-true W (m i * (k - c)) q) (short D d i l e))
      ]

  -- so the rounds go on
  pub reached_round : Positive n m → Reached n m k (count (qualifies m (k - c) W) n) (rest m (qualifies m (k - c) W) n)
  reached_round pos =
      record {
        set_of = next;
        counted = refl;
        left = refl;
        few = takes pos;
        enough = λ i l e.
            lasts (m i) c (count next n) (rest m next n) W (k - c) (k - count next n) (omega (arith, takes pos)) round_leaves gathered
            (leb-true W (m i * (k - c)) e);
        in_every = found;
      }

  -- until one finds no more: those are the certain units
  pub reached_stop : count (qualifies m (k - c) W) n ≡ c → Certain n m k (qualifies m (k - c) W) × (rest m (qualifies m (k - c) W) n ≡ W)
  reached_stop e =
      let back : Part n next r.set_of = part_same r.set_of next n stays (omega arith) in
      let same : rest m next n ≡ W = total_same _ _ n (λ i l. ap (λ b. cond b 0 (m i)) (same_set next r.set_of n back stays i l)) ∙ r.left in (
        record {
          few = omega arith;
          enough = λ i l q. rw (same, e) (leb-true W (m i * (k - c)) q);
          all = λ i l h. le-leb W (m i * (k - c)) (rw (same, e) at h);
        },
        same,
      )
