-- What a test of an option says.
use Rattle.std.proofs.Common.{◌≡◌, true, false, is_some, Some, None, Option, refl}
use Rattle.std.proofs.lemmas.Bool.{true≢false, false≢true}

pub some_from : {A : Type 0} (o : Option A) → is_some o ≡ true → (x : A) × (o ≡ Some x)
some_from None e = absurd (false≢true e)
some_from (Some x) e = (x, refl)

pub none_from : {A : Type 0} (o : Option A) → is_some o ≡ false → o ≡ None
none_from None e = refl
none_from (Some x) e = absurd (true≢false e)
