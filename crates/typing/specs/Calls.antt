-- What is asked at a call (C11 6.5.2.2), behind its arguments.
use Rattle.std.specs.Prelude.{ℕ, suc, ◌++◌, ◌*◌, ◌||◌, ◌&&◌, not, Bool, true, false, List, [], ◌∷◌, Option, None, Some, codes, length, nat_eq, nat_le, if◌then◌else◌}
use Rattle.std.specs.List.{list_any}
use Rattle.std.specs.Str.{bytes_eq}
use Rattle.cbase.specs.declared.place.Place.{Place}
use Rattle.typing.specs.declared.ctypes.found.Broken.TheVariants.{Construct, Rule}
use Rattle.typing.specs.ctypes.Converting.{converts}
use Rattle.typing.specs.ctypes.Kinds.{Kind, Integer, Pointer, Array, Struct, Void, decayed}
use Rattle.typing.specs.ctypes.Operands.{Operand}
use Rattle.typing.specs.declared.fault.Fault.{Fault}
use Rattle.typing.specs.Faults.{unless}
use Rattle.typing.specs.values.Values.{cast_value}

-- an argument: its place, what it is as an operand, and its value where it is an integer constant expression
pub record Argument : Type 0 where
  pub place : Place
  pub operand : Operand
  pub value : Option ℕ

-- which parameters of a built-in function are sizes and lengths, by how many stand before them
abbrev pub lengths_of : List ℕ → List ℕ
lengths_of name =
    if bytes_eq name (codes "malloc") then 0 ∷ []
    else (if bytes_eq name (codes "calloc") then 0 ∷ 1 ∷ []
    else (if bytes_eq name (codes "memset") || (bytes_eq name (codes "memcpy") || bytes_eq name (codes "memmove")) then 2 ∷ []
    else []))

abbrev pub is_length : List ℕ → ℕ → Bool
is_length lengths index = list_any (nat_eq index) lengths

-- structs are no parameters, arguments and results: construct 13, at the call
abbrev pub is_struct : Kind → Bool
is_struct (Struct number) = true
is_struct (Integer t) = false
is_struct (Pointer item target) = false
is_struct (Array item target) = false
is_struct Void = false

abbrev pub has_struct : Kind → List Kind → List Argument → Bool
has_struct result params args = is_struct result || (list_any is_struct params || list_any (λ arg. is_struct arg.operand.kind) args)

-- a product, where both factors are there
abbrev pub times : Option ℕ → Option ℕ → Option ℕ
times (Some left) (Some right) = Some (left * right)
times left right = None

-- a size or length is an integer constant expression: construct 14, at the argument
abbrev pub is_constant : Option ℕ → Bool
is_constant None = false
is_constant (Some bits) = true

abbrev pub inconstant_lengths : List ℕ → ℕ → List Kind → List Argument → List Fault
inconstant_lengths lengths index [] args = []
inconstant_lengths lengths index (param ∷ params) [] = []
inconstant_lengths lengths index (param ∷ params) (arg ∷ args) =
    unless (not (is_length lengths index) || is_constant arg.value) arg.place (Construct 14)
    ++ inconstant_lengths lengths (suc index) params args

-- the value of a size, converted to its parameter's type
abbrev pub length_in : Kind → Argument → Option ℕ
length_in param arg = cast_value param arg.operand.kind arg.value

-- at most 65,536 bytes
abbrev pub is_small : Option ℕ → Bool
is_small None = true
is_small (Some bytes) = nat_le bytes 65536

-- a larger one is construct 19, at the argument
abbrev pub large_lengths : List ℕ → ℕ → List Kind → List Argument → List Fault
large_lengths lengths index [] args = []
large_lengths lengths index (param ∷ params) [] = []
large_lengths lengths index (param ∷ params) (arg ∷ args) =
    unless (not (is_length lengths index) || is_small (length_in param arg)) arg.place (Construct 19)
    ++ large_lengths lengths (suc index) params args

-- the size that `calloc` asks for: the product of its two factors, as a whole number
abbrev pub product : List Kind → List Argument → Option ℕ
product (param ∷ (other_param ∷ params)) (arg ∷ (other_arg ∷ args)) = times (length_in param arg) (length_in other_param other_arg)
product params args = None

-- a larger product is construct 19 at the call, behind its factors
abbrev pub large_product : List ℕ → Place → List Kind → List Argument → List Fault
large_product name place params args =
    if bytes_eq name (codes "calloc") then unless (is_small (product params args)) place (Construct 19) else []

-- each argument is converted to the type of its parameter (C11 6.5.2.2p2, p7): rule 5, at the argument
abbrev pub unconverted : List Kind → List Argument → List Fault
unconverted [] args = []
unconverted (param ∷ params) [] = []
unconverted (param ∷ params) (arg ∷ args) =
    unless (converts param (decayed arg.operand.kind) arg.operand.null) arg.place (Rule 5) ++ unconverted params args

-- what a built-in function asks of its sizes
abbrev pub length_faults : Bool → List ℕ → Place → List Kind → List Argument → List Fault
length_faults false name place params args = []
length_faults true name place params args =
    inconstant_lengths (lengths_of name) 0 params args
    ++ (large_lengths (lengths_of name) 0 params args ++ large_product name place params args)

-- where `main` may not be called, a call of it is rule 13, at what is called
abbrev pub calls_main : Bool → List ℕ → Bool
calls_main strict name = strict && bytes_eq name (codes "main")

-- all that is broken at a call of a function of that name, whose own place is `callee`, where `main` may not be called or may. With a wrong number
-- of arguments (rule 7, at what is called) those that stand at a parameter are looked at all the same
abbrev pub call_faults : Bool → Place → Place → List ℕ → Bool → Kind → List Kind → List Argument → List Fault
call_faults strict place callee name built_in result params args =
    unless (not (has_struct result params args)) place (Construct 13)
    ++ (length_faults built_in name place params args
    ++ (unconverted params args
    ++ (unless (nat_eq (length params) (length args)) callee (Rule 7) ++ unless (not (calls_main strict name)) callee (Rule 13))))
