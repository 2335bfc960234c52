-- What is asked at a call as a whole: structs, the number of arguments, and the product of two sizes.
use Rattle.std.proofs.Common.{◌≡◌, ℕ, suc, ◌<◌, ◌≤◌, ◌⊎◌, inl, inr, List, [], ◌∷◌, length, get_or, map, Option, None, refl, sym, ap, ◌∙◌, arith}
use Rattle.std.specs.Prelude.{◌||◌, Bool, nat_eq}
use Rattle.std.specs.List.{list_any}
use Rattle.std.proofs.lemmas.List.{length-map}
use Rattle.cbase.specs.declared.structs.StructDef.{StructDef}
use Rattle.cbase.specs.declared.tree.expr.Expr.{Expr}
use Rattle.typing.specs.ctypes.Kinds.{kind_of}
use Rattle.typing.specs.Calls.{is_struct, has_struct, product, times}
use Rattle.typing.specs.values.Values.{cast_value}
use Rattle.expressions.specs.Arguments.{arguments_at}
use Rattle.expressions.specs.declared.known.Known.{Known as KnownByNumber}
use Rattle.expressions.specs.Numbers.{Numbering}
use Rattle.expressions.proofs.EachArgument.{kinds_at, past_known}

-- as many as there are
pub count_of_kinds : (n : Numbering) (structs : List StructDef) (params : List ℕ) → length (kinds_at n structs params) ≡ length params
count_of_kinds n structs params = length-map (map n.ctype params) (kind_of structs) ∙ length-map params n.ctype

pub count_of_arguments : (n : Numbering) (structs : List StructDef) (args : List Expr) (known : List KnownByNumber)
    → length known ≡ length args → length (arguments_at n structs args known) ≡ length args
count_of_arguments n structs [] known count = refl
count_of_arguments n structs (arg ∷ args) [] count = count
count_of_arguments n structs (arg ∷ args) (one ∷ known) count =
    let fewer : length known ≡ length args = cc count in
    ap suc (count_of_arguments n structs args known fewer)

pub same_counts : (n : Numbering) (structs : List StructDef) (params : List ℕ) (args : List Expr) (known : List KnownByNumber) → length known ≡ length args
    → nat_eq (length params) (length args) ≡ nat_eq (length (kinds_at n structs params)) (length (arguments_at n structs args known))
same_counts n structs params args known count =
    λ i. nat_eq (sym (count_of_kinds n structs params) i) (sym (count_of_arguments n structs args known count) i)

-- structs among the parameters and the arguments
structs_of_kinds : (n : Numbering) (structs : List StructDef) (params : List ℕ)
    → list_any (λ param. is_struct (kind_of structs (n.ctype param))) params ≡ list_any is_struct (kinds_at n structs params)
structs_of_kinds n structs [] = refl
structs_of_kinds n structs (param ∷ params) = ap (λ (rest : Bool). is_struct (kind_of structs (n.ctype param)) || rest) (structs_of_kinds n structs params)

structs_of_arguments : (n : Numbering) (structs : List StructDef) (args : List Expr) (known : List KnownByNumber) → length known ≡ length args
    → list_any (λ one. is_struct (kind_of structs (n.ctype one.ctype))) known ≡ list_any (λ arg. is_struct arg.operand.kind) (arguments_at n structs args known)
structs_of_arguments n structs [] [] count = refl
structs_of_arguments n structs [] (one ∷ known) count = cc count
structs_of_arguments n structs (arg ∷ args) [] count = refl
structs_of_arguments n structs (arg ∷ args) (one ∷ known) count =
    let fewer : length known ≡ length args = cc count in
    ap (λ (rest : Bool). is_struct (kind_of structs (n.ctype one.ctype)) || rest) (structs_of_arguments n structs args known fewer)

pub same_structs : (n : Numbering) (structs : List StructDef) (result : ℕ) (params : List ℕ) (args : List Expr) (known : List KnownByNumber)
    → length known ≡ length args
    → (is_struct (kind_of structs (n.ctype result)) || (list_any (λ param. is_struct (kind_of structs (n.ctype param))) params || list_any (λ one. is_struct (kind_of structs (n.ctype one.ctype))) known))
    ≡ has_struct (kind_of structs (n.ctype result)) (kinds_at n structs params) (arguments_at n structs args known)
same_structs n structs result params args known count =
    λ i. is_struct (kind_of structs (n.ctype result)) || (structs_of_kinds n structs params i || structs_of_arguments n structs args known count i)

-- the two sizes of `calloc`
abbrev pub length_at : Numbering → List StructDef → ℕ → KnownByNumber → Option ℕ
length_at n structs param one = cast_value (kind_of structs (n.ctype param)) (kind_of structs (n.ctype one.ctype)) one.value

pub product_of_two : (n : Numbering) (structs : List StructDef) (params : List ℕ) (args : List Expr) (known : List KnownByNumber)
    → 2 ≤ length params → 2 ≤ length known → length known ≡ length args
    → product (kinds_at n structs params) (arguments_at n structs args known)
    ≡ times (length_at n structs (get_or params 0 0) (get_or known 0 past_known)) (length_at n structs (get_or params 1 0) (get_or known 1 past_known))
product_of_two n structs [] args known p k count = absurd (omega (arith, p))
product_of_two n structs (param ∷ []) args known p k count = absurd (omega (arith, p))
product_of_two n structs (param ∷ (other ∷ params)) args [] p k count = absurd (omega (arith, k))
product_of_two n structs (param ∷ (other ∷ params)) args (one ∷ []) p k count = absurd (omega (arith, k))
product_of_two n structs (param ∷ (other ∷ params)) [] (one ∷ (another ∷ known)) p k count = cc count
product_of_two n structs (param ∷ (other ∷ params)) (arg ∷ []) (one ∷ (another ∷ known)) p k count = cc count
product_of_two n structs (param ∷ (other ∷ params)) (arg ∷ (further ∷ args)) (one ∷ (another ∷ known)) p k count = refl

pub no_product : (n : Numbering) (structs : List StructDef) (params : List ℕ) (args : List Expr) (known : List KnownByNumber)
    → (length params < 2) ⊎ (length known < 2) → product (kinds_at n structs params) (arguments_at n structs args known) ≡ None
no_product n structs [] args known few = refl
no_product n structs (param ∷ []) args known few = refl
no_product n structs (param ∷ (other ∷ params)) args known (inl few) = absurd (omega (arith, few))
no_product n structs (param ∷ (other ∷ params)) [] known (inr few) = refl
no_product n structs (param ∷ (other ∷ params)) (arg ∷ args) [] (inr few) = refl
no_product n structs (param ∷ (other ∷ params)) (arg ∷ []) (one ∷ []) (inr few) = refl
no_product n structs (param ∷ (other ∷ params)) (arg ∷ (further ∷ args)) (one ∷ []) (inr few) = refl
no_product n structs (param ∷ (other ∷ params)) (arg ∷ args) (one ∷ (another ∷ known)) (inr few) = absurd (omega (arith, few))
