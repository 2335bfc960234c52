-- Which thing is named of what is broken at a name.
use Rattle.std.proofs.Common.{◌≡◌, Bool, true, false, not, [], ◌∷◌, ◌++◌, refl, arith}
use Rattle.cbase.specs.declared.place.Place.{Place}
use Rattle.typing.specs.declared.ctypes.found.Broken.TheVariants.{Construct, Rule}
use Rattle.typing.specs.Faults.{fault, unless, IsFirst}

pub function_there : (place : Place) (is_there : Bool) → is_there ≡ true → IsFirst (unless is_there place (Construct 12) ++ fault place (Construct 20) ∷ []) (fault place (Construct 20))
function_there place true is = record { front = []; back = []; whole = refl; later = tt; behind = tt }
function_there place false is = cc is

pub function_missing : (place : Place) (is_there : Bool) → is_there ≡ false → IsFirst (unless is_there place (Construct 12) ++ fault place (Construct 20) ∷ []) (fault place (Construct 12))
function_missing place true is = cc is
function_missing place false is = record { front = []; back = fault place (Construct 20) ∷ []; whole = refl; later = tt; behind = (omega arith, tt) }

pub unsized_defined : (place : Place) (defined of_main : Bool) → defined ≡ true
    → IsFirst (unless defined place (Construct 12) ++ (fault place (Rule 3) ∷ unless (not of_main) place (Rule 12))) (fault place (Rule 3))
unsized_defined place true true is = record { front = []; back = fault place (Rule 12) ∷ []; whole = refl; later = tt; behind = (omega arith, tt) }
unsized_defined place true false is = record { front = []; back = []; whole = refl; later = tt; behind = tt }
unsized_defined place false of_main is = cc is

pub unsized_missing : (place : Place) (defined of_main : Bool) → defined ≡ false
    → IsFirst (unless defined place (Construct 12) ++ (fault place (Rule 3) ∷ unless (not of_main) place (Rule 12))) (fault place (Construct 12))
unsized_missing place true of_main is = cc is
unsized_missing place false true is = record { front = []; back = fault place (Rule 3) ∷ (fault place (Rule 12) ∷ []); whole = refl; later = tt; behind = (tt, (tt, tt)) }
unsized_missing place false false is = record { front = []; back = fault place (Rule 3) ∷ []; whole = refl; later = tt; behind = (tt, tt) }
