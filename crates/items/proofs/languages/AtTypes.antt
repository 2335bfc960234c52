-- What the numbers of a context stand for, and what types are that were given numbers, by a numbering that leads back.
use Rattle.std.proofs.Common.{◌≡◌, ℕ, List, [], ◌∷◌, Option, Some, None, refl, sym, ap, ◌∙◌}
use Rattle.std.specs.Prelude.{Bool, true, false, map, option_map, option_and_then}
use Rattle.cbase.specs.declared.ctype.CType.{CType}
use Rattle.typing.specs.declared.environment.entity.Binding.{Binding as BindingByNumber}
use Rattle.typing.specs.declared.environment.entity.Binding.TheVariants.{Own as OwnByNumber, WithLinkage as LinkageByNumber}
use Rattle.typing.specs.declared.environment.entity.DeclaredType.{DeclaredType as DeclaredByNumber}
use Rattle.typing.specs.declared.environment.entity.DeclaredType.TheVariants.{Whole, UnsizedArray}
use Rattle.typing.specs.declared.environment.entity.Entity.{Entity as EntityByNumber}
use Rattle.typing.specs.declared.environment.entity.Entity.TheVariants.{Object, Typedef, Enumerator, Function}
use Rattle.typing.specs.declared.environment.entity.Lifetime.TheVariants.{MainParameter}
use Rattle.typing.specs.declared.environment.entity.Linked.{Linked as LinkedByNumber}
use Rattle.typing.specs.declared.environment.entity.Signature.{Signature}
use Rattle.typing.specs.declared.environment.entity.Tag.{Tag as TagByNumber}
use Rattle.typing.specs.declared.environment.entity.Tag.TheVariants.{Struct, Enum}
use Rattle.typing.specs.environment.Environment.{resolved}
use Rattle.typing.specs.environment.Environment.{shown as shown_number, whole_type as whole_number, visible_in as visible_number}
use Rattle.typing.specs.environment.Names.{Entries, value_in}
use Rattle.typing.specs.Entities.{DeclaredType, WholeType, ItemsOf, ObjectLinked, FunctionLinked, FunctionEntity, Definition, NotDefined, Tentative, Defined}
use Rattle.expressions.specs.FileScope.{definition_at, definition_in_text}
use Rattle.expressions.specs.Language.{declared_number, lifetime_of, definition_by_now, built_in_by_now, is_built_in_entity, token_by_now, linked_object, linked_function}
use Rattle.expressions.specs.Language.{token_in as token_in_number}
use Rattle.expressions.specs.Numbers.{Numbering, entity_at, tag_at, tag_here_at, declared_at, declared_type_at, function_at, name_here_at, linked_entity_at}
use Rattle.items.specs.languages.AtTypes.{meaning_at, binding_at, link_at}
use Rattle.items.specs.languages.CLanguage.{link_by}
use Rattle.items.specs.languages.LeadsBack.{LeadsBack}
use Rattle.items.specs.languages.Mapped.{entries_mapped}
use Rattle.items.specs.languages.Meanings.{Meaning, Own, AnObject, AFunction, ATypedef, Link, shown, whole_type, visible_in, meaning_of, written, entity_of, here_by, linked_by, tag_of, first_token, built_in_before, definition_before, token_in, is_built_in}
use Rattle.items.proofs.languages.Mapped.{mapped_twice, value_mapped}

module _ (n : Numbering) where
  written_at : (t : DeclaredByNumber) → written (declared_type_at n t) ≡ declared_at n t
  written_at (Whole number) = refl
  written_at (UnsizedArray item) = refl

  entity_at_types : (e : EntityByNumber) → entity_of (meaning_at n e) ≡ entity_at n e
  entity_at_types (Object (Whole number) token lifetime defined) = refl
  entity_at_types (Object (UnsizedArray item) token lifetime defined) = refl
  entity_at_types (Typedef (Whole number)) = refl
  entity_at_types (Typedef (UnsizedArray item)) = refl
  entity_at_types (Enumerator bits) = refl
  entity_at_types (Function signature defined built_in) = refl

  pub tag_at_types : (tag : TagByNumber) → tag_of (tag_here_at tag) ≡ tag_at tag
  tag_at_types (Struct number listed) = refl
  tag_at_types (Enum listed) = refl

  pub here_at_types : (binding : BindingByNumber) → here_by (binding_at n binding) ≡ name_here_at n binding
  here_at_types (OwnByNumber (Object ctype token lifetime defined)) = refl
  here_at_types (OwnByNumber (Typedef ctype)) = refl
  here_at_types (OwnByNumber (Enumerator bits)) = refl
  here_at_types (OwnByNumber (Function signature defined built_in)) = refl
  here_at_types (LinkageByNumber items) = refl

  pub linked_at_types : (e : EntityByNumber) → linked_by (meaning_at n e) ≡ linked_entity_at n e
  linked_at_types (Object ctype token lifetime defined) = refl
  linked_at_types (Typedef ctype) = refl
  linked_at_types (Enumerator bits) = refl
  linked_at_types (Function signature defined built_in) = refl

  token_at_types : (e : EntityByNumber) (token : ℕ) → token_in (meaning_at n e) token ≡ token_in_number e token
  token_at_types (Object ctype first lifetime defined) token = refl
  token_at_types (Typedef ctype) token = refl
  token_at_types (Enumerator bits) token = refl
  token_at_types (Function signature defined built_in) token = refl

  built_in_at_types : (e : EntityByNumber) → is_built_in (meaning_at n e) ≡ is_built_in_entity e
  built_in_at_types (Object ctype first lifetime defined) = refl
  built_in_at_types (Typedef ctype) = refl
  built_in_at_types (Enumerator bits) = refl
  built_in_at_types (Function signature defined built_in) = refl

  -- what has linkage under a name, where it has
  pub token_before : (o : Option LinkedByNumber) (token : ℕ) → first_token (option_map (link_at n) o) token ≡ token_by_now o token
  token_before None token = refl
  token_before (Some linked) token = token_at_types linked.entity token

  built_in_as_before : (o : Option LinkedByNumber) → built_in_before (option_map (link_at n) o) ≡ built_in_by_now o
  built_in_as_before None = refl
  built_in_as_before (Some linked) = built_in_at_types linked.entity

  pub definition_as_before : (o : Option LinkedByNumber) → definition_before (option_map (link_at n) o) ≡ definition_at (definition_by_now o)
  definition_as_before None = refl
  definition_as_before (Some linked) = refl

  -- as a scope sees it
  shown_at_types : (items : Option ℕ) (e : EntityByNumber) → shown (option_map n.ctype items) (meaning_at n e) ≡ meaning_at n (shown_number items e)
  shown_at_types None e = refl
  shown_at_types (Some item) (Object ctype token lifetime defined) = refl
  shown_at_types (Some item) (Typedef ctype) = refl
  shown_at_types (Some item) (Enumerator bits) = refl
  shown_at_types (Some item) (Function signature defined built_in) = refl

  as_linked : (items : Option ℕ) (o : Option LinkedByNumber)
      → option_map (λ (link : Link). shown (option_map n.ctype items) link.meaning) (option_map (link_at n) o) ≡ option_map (meaning_at n) (option_map (λ meaning. shown_number items meaning.entity) o)
  as_linked items None = refl
  as_linked items (Some linked) = ap (λ (meaning : Meaning). Some meaning) (shown_at_types items linked.entity)

  -- the type that is visible
  whole_at_types : (e : EntityByNumber) → whole_type (meaning_at n e) ≡ option_map n.ctype (whole_number e)
  whole_at_types (Object (Whole number) token lifetime defined) = refl
  whole_at_types (Object (UnsizedArray item) token lifetime defined) = refl
  whole_at_types (Typedef ctype) = refl
  whole_at_types (Enumerator bits) = refl
  whole_at_types (Function signature defined built_in) = refl

  whole_as_before : (o : Option LinkedByNumber)
      → option_and_then (λ (link : Link). whole_type link.meaning) (option_map (link_at n) o) ≡ option_map n.ctype (option_and_then (λ linked. whole_number linked.entity) o)
  whole_as_before None = refl
  whole_as_before (Some linked) = whole_at_types linked.entity

  pub visible_at_types : (name : List ℕ) (linked : Entries LinkedByNumber) (binding : Option BindingByNumber)
      → visible_in name (entries_mapped (link_at n) linked) (option_map (binding_at n) binding) ≡ option_map n.ctype (visible_number name linked binding)
  visible_at_types name linked None = refl
  visible_at_types name linked (Some (OwnByNumber entity)) = refl
  visible_at_types name linked (Some (LinkageByNumber (Some item))) = refl
  visible_at_types name linked (Some (LinkageByNumber None)) =
      ap (option_and_then (λ (link : Link). whole_type link.meaning)) (value_mapped (link_at n) name linked) ∙ whole_as_before (value_in name linked)

  -- what a name stands for
  stands_for : (name : List ℕ) (linked : Entries LinkedByNumber) (binding : Option BindingByNumber)
      → meaning_of name (entries_mapped (link_at n) linked) (option_map (binding_at n) binding) ≡ option_map (meaning_at n) (resolved name linked binding)
  stands_for name linked None = refl
  stands_for name linked (Some (OwnByNumber entity)) = refl
  stands_for name linked (Some (LinkageByNumber items)) =
      ap (option_map (λ (link : Link). shown (option_map n.ctype items) link.meaning)) (value_mapped (link_at n) name linked) ∙ as_linked items (value_in name linked)

  pub entity_stands : (name : List ℕ) (linked : Entries LinkedByNumber) (binding : Option BindingByNumber)
      → option_map entity_of (meaning_of name (entries_mapped (link_at n) linked) (option_map (binding_at n) binding)) ≡ option_map (entity_at n) (resolved name linked binding)
  entity_stands name linked binding =
      ap (option_map entity_of) (stands_for name linked binding) ∙ mapped_twice (meaning_at n) entity_of (entity_at n) entity_at_types (resolved name linked binding)

module _ (n : Numbering) (back : LeadsBack n) where
  pub type_back : (t : DeclaredType) → declared_type_at n (declared_number n t) ≡ t
  type_back (WholeType t) = ap WholeType (back t)
  type_back (ItemsOf item) = ap ItemsOf (back item)

  pub types_back : (types : List CType) → map n.ctype (map n.number types) ≡ types
  types_back [] = refl
  types_back (t ∷ types) = (λ i. back t i ∷ types_back types i)

  pub result_back : (result : Option CType) → option_map n.ctype (option_map n.number result) ≡ result
  result_back None = refl
  result_back (Some t) = ap (λ (u : CType). Some u) (back t)

  -- an object without linkage, a typedef and a parameter of `main`
  pub object_back : (token : ℕ) (fixed : Bool) (t : DeclaredType)
      → binding_at n (OwnByNumber (Object (declared_number n t) token (lifetime_of fixed) true))
      ≡ Own (AnObject (record { ctype = t; token = token; defined = true; of_main = false; fixed = fixed }))
  object_back token true t =
      ap (λ (u : DeclaredType). Own (AnObject (record { ctype = u; token = token; defined = true; of_main = false; fixed = true }))) (type_back t)
  object_back token false t =
      ap (λ (u : DeclaredType). Own (AnObject (record { ctype = u; token = token; defined = true; of_main = false; fixed = false }))) (type_back t)

  pub typedef_back : (t : DeclaredType) → binding_at n (OwnByNumber (Typedef (declared_number n t))) ≡ Own (ATypedef t)
  typedef_back t = ap (λ (u : DeclaredType). Own (ATypedef u)) (type_back t)

  pub main_parameter_back : (token : ℕ) (t : CType)
      → binding_at n (OwnByNumber (Object (Whole (n.number t)) token MainParameter true))
      ≡ Own (AnObject (record { ctype = WholeType t; token = token; defined = true; of_main = true; fixed = false }))
  main_parameter_back token t =
      ap (λ (u : CType). Own (AnObject (record { ctype = WholeType u; token = token; defined = true; of_main = true; fixed = false }))) (back t)

  -- an object with linkage, and a function whose signature is the one of that number
  pub linked_object_back : (token : ℕ) (defined : Bool) (t : DeclaredType) (o : Option LinkedByNumber)
      → link_at n (linked_object (declared_number n t) (token_by_now o token) defined (definition_by_now o))
      ≡ link_by token defined (ObjectLinked t) (option_map (link_at n) o)
  linked_object_back token defined t o = λ i. record {
    meaning = AnObject (record { ctype = type_back t i; token = sym (token_before n o token) i; defined = defined; of_main = false; fixed = true });
    definition = sym (definition_as_before n o) i;
  }

  function_back : (result : CType) (params : List CType) (defined built_in : Bool)
      → function_at n (record { result = n.number result; parameters = map n.number params }) defined built_in
      ≡ record { result = result; params = params; defined = defined; built_in = built_in }
  function_back result params defined built_in = λ i. record { result = back result i; params = types_back params i; defined = defined; built_in = built_in }

  pub linked_function_back : (token number : ℕ) (defined : Bool) (result : CType) (params : List CType) (o : Option LinkedByNumber)
      → n.signature number ≡ record { result = n.number result; parameters = map n.number params }
      → link_at n (linked_function number defined (built_in_by_now o) (definition_by_now o))
      ≡ link_by token defined (FunctionLinked result params) (option_map (link_at n) o)
  linked_function_back token number defined result params o at =
      let before : FunctionEntity = record { result = result; params = params; defined = defined; built_in = built_in_by_now o } in
      let function : function_at n (n.signature number) defined (built_in_by_now o) ≡ before =
      ap (λ (s : Signature). function_at n s defined (built_in_by_now o)) at ∙ function_back result params defined (built_in_by_now o) in
      (λ i. record { meaning = AFunction (function i); definition = definition_at (definition_by_now o) })
      ∙ (λ i. record {
        meaning = AFunction (record { result = result; params = params; defined = defined; built_in = sym (built_in_as_before n o) i });
        definition = sym (definition_as_before n o) i;
      })

pub definition_back : (definition : Definition) → definition_at (definition_in_text definition) ≡ definition
definition_back NotDefined = refl
definition_back Tentative = refl
definition_back Defined = refl
