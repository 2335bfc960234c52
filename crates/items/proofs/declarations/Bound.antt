-- A name is declared by numbers as it is in the language of a context.
use Rattle.std.proofs.Common.{◌≡◌, ℕ, ◌∙◌, Bool, true, false, List, map, Some, Option, None, length, sym, ap, refl}
use Rattle.std.specs.Prelude.{◌<◌, IfSome, is_some, option_and_then, option_map}
use Rattle.cbase.specs.declared.place.Place.{Place}
use Rattle.cbase.specs.declared.tree.decl.Storage.{Storage}
use Rattle.cbase.specs.declared.tree.decl.Storage.TheVariants.{Plain, Typedef, Extern, Static}
use Rattle.typing.specs.declared.environment.entity.DeclaredType.{DeclaredType}
use Rattle.typing.specs.declared.environment.entity.DeclaredType.TheVariants.{Whole, UnsizedArray}
use Rattle.typing.specs.declared.environment.entity.Definition.{Definition}
use Rattle.typing.specs.declared.environment.entity.Entity.{Entity}
use Rattle.typing.specs.declared.environment.entity.Entity.TheVariants as entity
use Rattle.typing.specs.declared.environment.entity.Linked.{Linked as LinkedByNumber}
use Rattle.typing.specs.declared.environment.entity.Signature.{Signature}
use Rattle.typing.specs.declared.environment.environment.Environment.{Environment}
use Rattle.typing.specs.environment.Bounds.{DeclaredBelow, EntityBelow, LinkedBelow}
use Rattle.typing.specs.environment.Environment.{visible_type}
use Rattle.typing.specs.environment.Linkage.{linked_declared, own_declared}
use Rattle.typing.specs.environment.Names.{value_in}
use Rattle.typing.specs.Declarations.{composite, given, hidden_items, object_row, seen_type, unsized_items}
use Rattle.typing.specs.Entities.{DeclaredType as TypeDeclared, Linked, ObjectLinked}
use Rattle.expressions.specs.Context.{Context, Declared, Agrees}
use Rattle.expressions.specs.Language.{definition_by_now, lifetime_of, linked_object, name_linked_as, object_declared, token_by_now, typedef_declared}
use Rattle.expressions.specs.Numbers.{Numbering, declared_type_at, handed_at, linked_at}
use Rattle.items.specs.declarations.Given.{bound, composite_by_now, object_rows, seen_in, unsized_in}
use Rattle.expressions.proofs.Growth.{number_back}
use Rattle.items.proofs.declarations.OneNumber.{declared_back}

-- the composite type, by numbers
composite_in_is : (n : Numbering) (before : Entity) (by_now : Definition) (t : DeclaredType)
    → composite (linked_at n (record { entity = before; definition = by_now })) (ObjectLinked (declared_type_at n t)) ≡ ObjectLinked (declared_type_at n (composite_by_now (Some (record { entity = before; definition = by_now })) t))
composite_in_is n (entity.Object (Whole number) token lifetime defined) by_now t = refl
composite_in_is n (entity.Object (UnsizedArray item) token lifetime defined) by_now t = refl
composite_in_is n (entity.Typedef before) by_now t = refl
composite_in_is n (entity.Enumerator bits) by_now t = refl
composite_in_is n (entity.Function signature defined built_in) by_now t = refl

pub composite_is : (n : Numbering) (before : Option LinkedByNumber) (t : DeclaredType)
    → composite (option_and_then (linked_at n) before) (ObjectLinked (declared_type_at n t)) ≡ ObjectLinked (declared_type_at n (composite_by_now before t))
composite_is n None t = refl
composite_is n (Some meaning) t = composite_in_is n meaning.entity meaning.definition t

-- its number is below where those of both types are
composite_in_below : (count : ℕ) (signatures : List Signature) (before : Entity) (by_now : Definition) (t : DeclaredType) → EntityBelow count signatures before → DeclaredBelow count t
    → DeclaredBelow count (composite_by_now (Some (record { entity = before; definition = by_now })) t)
composite_in_below count signatures (entity.Object (Whole number) token lifetime defined) by_now t below also = below
composite_in_below count signatures (entity.Object (UnsizedArray item) token lifetime defined) by_now t below also = also
composite_in_below count signatures (entity.Typedef before) by_now t below also = also
composite_in_below count signatures (entity.Enumerator bits) by_now t below also = also
composite_in_below count signatures (entity.Function signature defined built_in) by_now t below also = also

pub composite_below : (count : ℕ) (signatures : List Signature) (before : Option LinkedByNumber) (t : DeclaredType) → IfSome before (LinkedBelow count signatures) → DeclaredBelow count t
    → DeclaredBelow count (composite_by_now before t)
composite_below count signatures None t below also = also
composite_below count signatures (Some meaning) t below also = composite_in_below count signatures meaning.entity meaning.definition t below also

-- the type that is seen, by numbers, and the items of an array whose size is not
pub seen_is : (n : Numbering) (visible : Option ℕ) (t : DeclaredType) → declared_type_at n (seen_in visible t) ≡ seen_type (option_map n.ctype visible) (declared_type_at n t)
seen_is n None t = refl
seen_is n (Some number) t = refl

pub seen_below : (count : ℕ) (visible : Option ℕ) (t : DeclaredType) → IfSome visible (λ number. number < count) → DeclaredBelow count t → DeclaredBelow count (seen_in visible t)
seen_below count None t below also = also
seen_below count (Some number) t below also = below

pub unsized_below : (count : ℕ) (t : DeclaredType) → DeclaredBelow count t → IfSome (unsized_in t) (λ item. item < count)
unsized_below count (Whole number) below = tt
unsized_below count (UnsizedArray item) below = below

unsized_back : (n : Numbering) (context : Context) → Agrees n context → (t : DeclaredType) → DeclaredBelow (length context.types) t
    → option_map n.number (unsized_items (declared_type_at n t)) ≡ unsized_in t
unsized_back n context agrees (Whole number) below = refl
unsized_back n context agrees (UnsizedArray item) below = ap (λ (number : ℕ). Some number) (number_back n context item agrees below)

hidden_back : (n : Numbering) (context : Context) → Agrees n context → (visible : Option ℕ) (t : DeclaredType) → DeclaredBelow (length context.types) (seen_in visible t)
    → option_map n.number (hidden_items (option_map n.ctype visible) (ObjectLinked (declared_type_at n t))) ≡ unsized_in (seen_in visible t)
hidden_back n context agrees visible t below =
    ap (λ (seen : TypeDeclared). option_map n.number (unsized_items seen)) (sym (seen_is n visible t)) ∙ unsized_back n context agrees (seen_in visible t) below

-- an object without linkage
pub object_bound : (n : Numbering) (context : Context) (name : List ℕ) (token : ℕ) (fixed : Bool) (t : DeclaredType) (before : Declared) → Agrees n context → DeclaredBelow (length context.types) t
    → record before { environment = own_declared name (entity.Object t token (lifetime_of fixed) true) before.environment } ≡ object_declared n name token fixed (declared_type_at n t) before
object_bound n context name token fixed t before agrees below =
    ap (λ (number : DeclaredType). record before { environment = own_declared name (entity.Object number token (lifetime_of fixed) true) before.environment }) (sym (declared_back n context agrees t below))

-- what has linkage
pub linked_bound : (n : Numbering) (context : Context) (name : List ℕ) (token : ℕ) (t : DeclaredType) (before : Declared) → Agrees n context
    → DeclaredBelow (length context.types) (composite_by_now (value_in name before.environment.linked) t)
    → DeclaredBelow (length context.types) (seen_in (visible_type name before.environment) t)
    → record before { environment = bound name token Extern t before.environment }
    ≡ name_linked_as n name token (hidden_items (option_map n.ctype (visible_type name before.environment)) (ObjectLinked (declared_type_at n t)))
    (composite (option_and_then (linked_at n) (value_in name before.environment.linked)) (ObjectLinked (declared_type_at n t))) before
linked_bound n context name token t before agrees below seen =
    (λ i. record before {
      environment = linked_declared name
          (sym (hidden_back n context agrees (visible_type name before.environment) t seen) i)
          (linked_object (sym (declared_back n context agrees (composite_by_now (value_in name before.environment.linked) t) below) i) (token_by_now (value_in name before.environment.linked) token)
          (is_some (value_in name before.environment.definitions)) (definition_by_now (value_in name before.environment.linked)))
          before.environment;
    })
    ∙ ap (λ (linked : Linked). name_linked_as n name token (hidden_items (option_map n.ctype (visible_type name before.environment)) (ObjectLinked (declared_type_at n t))) linked before)
    (sym (composite_is n (value_in name before.environment.linked) t))

-- a typedef
pub typedef_bound : (n : Numbering) (context : Context) (name : List ℕ) (t : DeclaredType) (before : Declared) → Agrees n context → DeclaredBelow (length context.types) t
    → record before { environment = own_declared name (entity.Typedef t) before.environment } ≡ typedef_declared n name (declared_type_at n t) before
typedef_bound n context name t before agrees below =
    ap (λ (number : DeclaredType). record before { environment = own_declared name (entity.Typedef number) before.environment }) (sym (declared_back n context agrees t below))

-- nothing else changes
pub bound_signatures : (name : List ℕ) (token : ℕ) (storage : Storage) (t : DeclaredType) (env : Environment) → (bound name token storage t env).signatures ≡ env.signatures
bound_signatures name token Plain t env = refl
bound_signatures name token Static t env = refl
bound_signatures name token Typedef t env = refl
bound_signatures name token Extern t env = refl

-- the row of an object
pub rows_are : (n : Numbering) (place : Place) (storage : Storage) (t : DeclaredType) → map (handed_at n) (object_rows place storage t) ≡ object_row place (given storage (declared_type_at n t)) false
rows_are n place Plain (Whole number) = refl
rows_are n place Static (Whole number) = refl
rows_are n place Typedef (Whole number) = refl
rows_are n place Extern (Whole number) = refl
rows_are n place Plain (UnsizedArray item) = refl
rows_are n place Static (UnsizedArray item) = refl
rows_are n place Typedef (UnsizedArray item) = refl
rows_are n place Extern (UnsizedArray item) = refl
