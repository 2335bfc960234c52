-- An operation that is followed by demands, where nothing is broken at it.
use Rattle.std.proofs.Common.{◌≡◌, List, refl, ap}
use Rattle.cbase.specs.declared.ctype.CType.{CType}
use Rattle.typing.specs.declared.ctypes.found.Broken.{Broken}
use Rattle.typing.specs.declared.ctypes.found.Found.{Found}
use Rattle.typing.specs.declared.ctypes.found.Found.TheVariants.{Same, Integer as FoundInteger, Pointer as FoundPointer, Void as FoundVoid, Broken as FoundBroken}
use Rattle.typing.specs.ctypes.Assigning.{followed_by}
use Rattle.typing.specs.ctypes.Broken.{Judgement}
use Rattle.typing.specs.ctypes.Operands.{found_at}

pub followed_by-typed : (types : List CType) (found : Found) (own rest : Judgement) → ((broken : Broken) → found ≡ FoundBroken broken → ⊥)
    → found_at types found ≡ own → rest ≡ followed_by own rest
followed_by-typed types (Same number) own rest typed e = ap (λ j. followed_by j rest) e
followed_by-typed types (FoundInteger bytes signed) own rest typed e = ap (λ j. followed_by j rest) e
followed_by-typed types (FoundPointer item) own rest typed e = ap (λ j. followed_by j rest) e
followed_by-typed types FoundVoid own rest typed e = ap (λ j. followed_by j rest) e
followed_by-typed types (FoundBroken broken) own rest typed e = absurd (typed broken refl)
