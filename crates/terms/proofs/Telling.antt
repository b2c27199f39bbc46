-- What a refusal is.
use Rattle.std.proofs.Common.{◌≡◌, None, Err, Option, Result}
use Rattle.std.specs.Option.{ok_or}

-- A refusal that stands for a value that is not there is the one that was given for it.
pub refused_as : {A E : Type 0} {found : Option A} {e e' : E} → found ≡ None → ◌≡◌ {A = Result A E} (Err e) (ok_or found e') → e ≡ e'
refused_as none value = let p = rw none at value in cc
