-- What the name of a function stands for, and the numbers of its types.
use Rattle.std.proofs.Common.{◌≡◌, ℕ, ◌<◌, Bool, true, false, List, map, slice_get, Option, None, Some, option_map, nat_lt, refl, sym, ap, ◌∙◌, arith, subst}
use Rattle.std.specs.Prelude.{IfSome}
use Rattle.std.specs.List.{All}
use Rattle.std.proofs.lemmas.Option.{slice_get-map, slice_get_within, get_or_from_slice_get}
use Rattle.typing.specs.declared.environment.entity.Signature.{Signature}
use Rattle.expressions.specs.Context.{Context, Agrees}
use Rattle.expressions.specs.Numbers.{Numbering, function_at}
use Rattle.c_machine.specs.Program.{Program}
use Rattle.c_machine.specs.Text.{NothingStands}
use Rattle.c_machine.specs.Trees.{function_stands}
use Rattle.c_text.specs.Standing.{built_in_by, body_by}

pub built_in_is : (n : Numbering) (p : Program) (name : Option (List ℕ)) (signature : Signature) (defined built_in : Bool) → built_in ≡ true →
    built_in_by n p name signature ≡ function_stands p name (function_at n signature defined built_in)
built_in_is n p None signature defined built_in is = refl
built_in_is n p (Some name) signature defined true is = refl
built_in_is n p (Some name) signature defined false is = absurd cc

pub body_is : (n : Numbering) (p : Program) (name : Option (List ℕ)) (signature : Signature) (defined built_in : Bool) → built_in ≡ false → defined ≡ true →
    body_by p name ≡ function_stands p name (function_at n signature defined built_in)
body_is n p None signature defined built_in other is = refl
body_is n p (Some name) signature true false other is = refl
body_is n p (Some name) signature false built_in other is = absurd cc
body_is n p (Some name) signature true true other is = absurd cc

pub nothing_is : (n : Numbering) (p : Program) (name : Option (List ℕ)) (signature : Signature) (defined built_in : Bool) → built_in ≡ false →
    defined ≡ false → NothingStands ≡ function_stands p name (function_at n signature defined built_in)
nothing_is n p None signature defined built_in other is = refl
nothing_is n p (Some name) signature false false other is = refl
nothing_is n p (Some name) signature true built_in other is = absurd cc
nothing_is n p (Some name) signature false true other is = absurd cc

pub signature_below : (signature count : ℕ) → nat_lt signature count ≡ true → signature < count
signature_below signature count is = grind (arith, is)

-- a number of a list whose numbers are all below a bound
number_below : (count : ℕ) (numbers : List ℕ) (place : ℕ) (found : Option ℕ) → slice_get numbers place ≡ found →
    All (λ (number : ℕ). number < count) numbers → IfSome found (λ (number : ℕ). number < count)
number_below count numbers place None is all = tt
number_below count numbers place (Some number) is all =
    subst (λ (k : ℕ). k < count) (get_or_from_slice_get numbers place number number is) (all place number (slice_get_within numbers place number is))

pub below_at : (count : ℕ) (numbers : List ℕ) (place : ℕ) → All (λ (number : ℕ). number < count) numbers →
    IfSome (slice_get numbers place) (λ (number : ℕ). number < count)
below_at count numbers place all = number_below count numbers place (slice_get numbers place) refl all

-- the type of a parameter
pub parameter_is : (n : Numbering) (context : Context) (number index : ℕ) (signature : Signature) → Agrees n context →
    slice_get context.environment.signatures number ≡ Some signature →
    option_map n.ctype (slice_get signature.parameters index) ≡ slice_get (map n.ctype (n.signature number).parameters) index
parameter_is n context number index signature agrees is =
    sym (slice_get-map n.ctype signature.parameters index)
    ∙ ap (λ (s : Signature). slice_get (map n.ctype s.parameters) index) (sym (agrees.signatures number signature is))
