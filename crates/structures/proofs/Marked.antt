-- What a byte says, and a list of marks, of one unit.
use Rattle.std.proofs.Common.{◌≡◌, ℕ, ◌<◌, ◌≤◌, Bool, true, false, not, eqb, min, List, length, get_or, inl, inr, arith}
use Rattle.std.proofs.Math.Nat.{le-min}
use Rattle.std.proofs.lemmas.Bool.{cases_lt}
use Rattle.std.proofs.lemmas.List.{get_or_past}
use Rattle.std.proofs.lemmas.Bool.Decides.{nat_tests}
use Rattle.structures.specs.Marks.{marked}
use Rattle.terms.specs.Counts.{Within}

-- Whether a byte marks: it does unless it is 0.
abbrev pub is_mark : ℕ → Bool
is_mark byte = not (eqb byte 0)

pub byte_marks : (byte : ℕ) → (byte ≡ 0 → ⊥) → is_mark byte ≡ true
byte_marks byte some = grind (arith, nat_tests)

pub byte_leaves : (byte : ℕ) → byte ≡ 0 → is_mark byte ≡ false
byte_leaves byte none = grind (arith, nat_tests)

-- A unit is marked by its byte, unless that is 0,
pub marked_by : (n : ℕ) (bytes : List ℕ) (i : ℕ) → i < n → (get_or bytes i 0 ≡ 0 → ⊥) → marked n bytes i ≡ true
marked_by n bytes i h some = grind (arith, nat_tests)

pub unmarked_by : (n : ℕ) (bytes : List ℕ) (i : ℕ) → get_or bytes i 0 ≡ 0 → marked n bytes i ≡ false
unmarked_by n bytes i none = grind (arith, nat_tests)

-- and only below n.
pub unmarked_from : (n : ℕ) (bytes : List ℕ) (i : ℕ) → n ≤ i → marked n bytes i ≡ false
unmarked_from n bytes i h = grind (arith, nat_tests)

-- No unit is marked from where the list or the units end.
pub unmarked_behind : (n m : ℕ) (bytes : List ℕ) → m ≡ min n (length bytes) → (i : ℕ) → m ≤ i → marked n bytes i ≡ false
unmarked_behind n m bytes e i h = elim (cases_lt i (min n (length bytes))) [
  | inl l ↦ absurd (omega (arith, l, e, h))
  | inr past ↦ elim (cases_lt i n) [
    | inl below ↦ unmarked_by n bytes i (get_or_past bytes i 0 (elim (cases_lt i (length bytes)) [
      | inl there ↦ absurd (omega (arith, past, le-min below there))
      | inr behind ↦ behind
    ]))
    | inr beyond ↦ unmarked_from n bytes i beyond
  ]
]

pub marked_within : (n : ℕ) (bytes : List ℕ) → Within n (marked n bytes)
marked_within n bytes i e = grind (arith, nat_tests)
