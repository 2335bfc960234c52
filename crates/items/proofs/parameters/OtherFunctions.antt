-- Whether what has linkage under a name is another function.
use Rattle.std.proofs.Common.{◌≡◌, ◌<◌, ℕ, Bool, true, false, List, map, All, length, sym, ap, subst, ◌∙◌, Option, Some, slice_get}
use Rattle.std.specs.Prelude.{not, option_and_then}
use Rattle.typing.specs.declared.environment.entity.Entity.TheVariants.{Function}
use Rattle.typing.specs.declared.environment.entity.Linked.{Linked as LinkedByNumber}
use Rattle.typing.specs.declared.environment.entity.Signature.{Signature}
use Rattle.typing.specs.environment.Bounds.{SignatureBelow}
use Rattle.typing.specs.Declarations.{IsOther}
use Rattle.typing.specs.Entities.{Linked, FunctionLinked}
use Rattle.expressions.specs.Context.{Context, Agrees}
use Rattle.expressions.specs.Numbers.{Numbering, linked_at, linked_entity_at}
use Rattle.items.proofs.parameters.TypesAlike.{same_or_two}

pub other_function : (context : Context) (linked : Option LinkedByNumber) (meaning : LinkedByNumber) (number : ℕ) (defined built_in : Bool) (signature : Signature) (result : ℕ) (params : List ℕ) (same : Bool)
    → linked ≡ Some meaning → meaning.entity ≡ Function number defined built_in → slice_get context.environment.signatures number ≡ Some signature
    → SignatureBelow (length context.types) signature → result < length context.types → All (λ (one : ℕ). one < length context.types) params
    → (same ≡ true → (signature.result ≡ result) × (signature.parameters ≡ params))
    → (same ≡ false → (signature.result ≡ result) × (signature.parameters ≡ params) → ⊥)
    → (n : Numbering) → Agrees n context → IsOther (option_and_then (linked_at n) linked) (FunctionLinked (n.ctype result) (map n.ctype params)) (not same)
other_function context linked meaning number defined built_in signature result params same is entity there below of others alike other n agrees =
    let at : option_and_then (linked_at n) linked ≡ Some (FunctionLinked (n.ctype signature.result) (map n.ctype signature.parameters)) =
    ap (option_and_then (linked_at n)) is
    ∙ (ap (linked_entity_at n) entity ∙ ap (λ (s : Signature). Some (FunctionLinked (n.ctype s.result) (map n.ctype s.parameters))) (agrees.signatures number signature there)) in
    subst (λ (before : Option Linked). IsOther before (FunctionLinked (n.ctype result) (map n.ctype params)) (not same)) (sym at)
    (same_or_two n context agrees signature result params same below of others alike other)
