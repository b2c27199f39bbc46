-- What a fault tells.
use Rattle.std.specs.Prelude.{◌≡◌, ℕ, Some, None, IfErr, Result}
use Rattle.terms.specs.declared.fault.Fault.{Fault}
use Rattle.terms.specs.declared.fault.Fault.TheVariants.{AlreadySet, RegisterFull, MeasureOutOfRange, UnitsMissing, SizeOutOfRange, DenominatorOutOfRange, BoundOutOfRange, WordsEnded, WordsRejected, NotSet, NothingOpen, LimitTooHigh, NumberTooHigh, StillOpen, ListTooShort, SetByRates, StructureTooLarge, ParentOutOfOrder, HomeTooHigh, StrataOutOfRange, StratumTooHigh, TooManyRanges, SpanOutOfRange, WordOutOfRange, SeedOutOfRange, NoMemory}

-- The number and the place of each refusal. The place is 0 unless the case names one.
abbrev pub tells : Fault → ℕ × ℕ
tells AlreadySet = (1, 0)
tells RegisterFull = (2, 0)
tells (MeasureOutOfRange unit) = (3, unit.0)
tells (UnitsMissing added) = (4, added)
tells SizeOutOfRange = (5, 0)
tells (DenominatorOutOfRange None) = (6, 0)
tells (DenominatorOutOfRange (Some unit)) = (6, unit.0)
tells BoundOutOfRange = (7, 0)
tells (WordsEnded words) = (8, words)
tells WordsRejected = (9, 64)
tells NotSet = (10, 0)
tells NothingOpen = (11, 0)
tells LimitTooHigh = (12, 0)
tells NumberTooHigh = (13, 0)
tells (StillOpen unit) = (14, unit.0)
tells (ListTooShort needed) = (15, needed)
tells SetByRates = (16, 0)
tells StructureTooLarge = (17, 0)
tells (ParentOutOfOrder node) = (18, node.0)
tells (HomeTooHigh unit) = (19, unit.0)
tells StrataOutOfRange = (20, 0)
tells (StratumTooHigh unit) = (21, unit.0)
tells TooManyRanges = (22, 0)
tells SpanOutOfRange = (23, 0)
tells (WordOutOfRange position) = (23, position)
tells SeedOutOfRange = (24, 0)
tells NoMemory = (99, 0)

-- An answer tells want of memory only where P holds.
abbrev pub OutOfMemoryOnlyIf : {A : Type 0} → Result A Fault → Type 0 → Type 0
OutOfMemoryOnlyIf answer P = IfErr answer (λ fault. tells fault ≡ (99, 0) → P)
