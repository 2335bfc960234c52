-- The functions that are built in where a text gives them no body, with their types: those of C11 7.22.3, 7.22.4 and 7.24, one of
-- gcc, and those by which verifiers take inputs, assume and fail. `size_t` is an `unsigned long` where that has 8 bytes, and an
-- `unsigned long long` where it has 4 (C11 7.19).
use Rattle.std.specs.Prelude.{true, false, List, [], ◌∷◌, ◌++◌, codes}
use Rattle.cbase.specs.declared.abi.Abi.{Abi}
use Rattle.cbase.specs.declared.abi.Abi.TheVariants.{Lp64, Llp64}
use Rattle.cbase.specs.declared.ctype.CType.{CType}
use Rattle.cbase.specs.declared.ctype.CType.TheVariants.{Void, Bool, Int as Integer, Pointer}
use Rattle.cbase.specs.declared.tree.spec.Rank.{Rank}
use Rattle.cbase.specs.declared.tree.spec.Rank.TheVariants.{Char, Short, Int, Long, LongLong}
use Rattle.cbase.specs.IntegerSizes.{bytes_of_rank}
use Rattle.typing.specs.environment.Names.{Entries}

-- the type of a function: its result, and its parameters in order
pub record FunctionType : Type 0 where
  pub result : CType
  pub parameters : List CType

abbrev pub function : CType → List CType → FunctionType
function result parameters = record { result = result; parameters = parameters }

-- the integer types by their ranks, with a sign and without
abbrev pub signed : Abi → Rank → CType
signed abi rank = Integer (bytes_of_rank abi rank) true

abbrev pub unsigned : Abi → Rank → CType
unsigned abi rank = Integer (bytes_of_rank abi rank) false

abbrev pub size_type : Abi → CType
size_type Lp64 = unsigned Lp64 Long
size_type Llp64 = unsigned Llp64 LongLong

abbrev pub any : CType
any = Pointer Void

abbrev pub memory_functions : Abi → Entries FunctionType
memory_functions abi =
    (codes "malloc", function any (size_type abi ∷ []))
    ∷ (codes "calloc", function any (size_type abi ∷ size_type abi ∷ []))
    ∷ (codes "free", function Void (any ∷ []))
    ∷ (codes "memset", function any (any ∷ signed abi Int ∷ size_type abi ∷ []))
    ∷ (codes "memcpy", function any (any ∷ any ∷ size_type abi ∷ []))
    ∷ (codes "memmove", function any (any ∷ any ∷ size_type abi ∷ []))
    ∷ []

abbrev pub ending_functions : Abi → Entries FunctionType
ending_functions abi =
    (codes "abort", function Void [])
    ∷ (codes "exit", function Void (signed abi Int ∷ []))
    ∷ (codes "__VERIFIER_error", function Void [])
    ∷ (codes "reach_error", function Void [])
    ∷ (codes "__VERIFIER_assume", function Void (signed abi Int ∷ []))
    ∷ (codes "__builtin_expect", function (signed abi Long) (signed abi Long ∷ signed abi Long ∷ []))
    ∷ []

abbrev pub input_functions : Abi → Entries FunctionType
input_functions abi =
    (codes "__VERIFIER_nondet_int", function (signed abi Int) [])
    ∷ (codes "__VERIFIER_nondet_uint", function (unsigned abi Int) [])
    ∷ (codes "__VERIFIER_nondet_long", function (signed abi Long) [])
    ∷ (codes "__VERIFIER_nondet_ulong", function (unsigned abi Long) [])
    ∷ (codes "__VERIFIER_nondet_char", function (signed abi Char) [])
    ∷ (codes "__VERIFIER_nondet_uchar", function (unsigned abi Char) [])
    ∷ (codes "__VERIFIER_nondet_short", function (signed abi Short) [])
    ∷ (codes "__VERIFIER_nondet_ushort", function (unsigned abi Short) [])
    ∷ (codes "__VERIFIER_nondet_bool", function Bool [])
    ∷ []

abbrev pub built_ins : Abi → Entries FunctionType
built_ins abi = memory_functions abi ++ ending_functions abi ++ input_functions abi
