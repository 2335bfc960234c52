-- What is taken of an operand that passes: its value, an index as a word, the size of an array.
use Rattle.std.specs.Prelude.{◌≡◌, ℕ, true, false, None, Some}
use Rattle.cbase.specs.declared.place.Place.{Place}
use Rattle.typing.specs.declared.ctypes.found.Broken.TheVariants.{Rule}
use Rattle.typing.specs.ctypes.Kinds.{kind_of}
use Rattle.typing.specs.declared.size.Size.{Size}
use Rattle.typing.specs.Faults.{fault}
use Rattle.typing.specs.Known.{can_load}
use Rattle.typing.specs.NamedTypes.{size_of}
use Rattle.typing.specs.values.Values.{word_of}
use Rattle.expressions.specs.declared.found.Found.{Found}
use Rattle.expressions.specs.declared.found.Found.TheVariants.{Passes, Refused}
use Rattle.expressions.specs.declared.known.Known.{Known}
use Rattle.expressions.specs.Context.{Context, Agrees}
use Rattle.expressions.specs.Numbers.{Numbering, known_at}

-- its value, where it is no lvalue of an incomplete type (C11 6.3.2.1p2)
abbrev pub IsLoaded : Context → Place → Known → Found Known → Type 0
IsLoaded context place known (Passes told) = (told ≡ known) × ((n : Numbering) → Agrees n context → can_load context.structs (known_at n known) ≡ true)
IsLoaded context place known (Refused first) =
    (first ≡ fault place (Rule 3)) × ((n : Numbering) → Agrees n context → can_load context.structs (known_at n known) ≡ false)

-- an index of `__builtin_offsetof`, where it is an integer constant expression
abbrev pub IsIndex : Context → Place → Known → Found ℕ → Type 0
IsIndex context place known (Passes word) = (n : Numbering) → Agrees n context → word_of (kind_of context.structs (n.ctype known.ctype)) known.value ≡ Some word
IsIndex context place known (Refused first) =
    (first ≡ fault place (Rule 9)) × ((n : Numbering) → Agrees n context → word_of (kind_of context.structs (n.ctype known.ctype)) known.value ≡ None)

-- the size of an array, where it is no constant under 1 (C11 6.7.6.2p1)
abbrev pub IsSize : Context → Place → Known → Found Size → Type 0
IsSize context place known (Passes size) = (n : Numbering) → Agrees n context → size_of (kind_of context.structs (n.ctype known.ctype)) known.value ≡ Some size
IsSize context place known (Refused first) =
    (first ≡ fault place (Rule 9)) × ((n : Numbering) → Agrees n context → size_of (kind_of context.structs (n.ctype known.ctype)) known.value ≡ None)
