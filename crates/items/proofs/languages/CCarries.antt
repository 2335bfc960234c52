-- The language of a context carries over to that of C, where the numbering leads back.
use Rattle.std.proofs.Common.{◌≡◌, ℕ, List, [], ◌∷◌, ◌++◌, length, Option, Some, None, refl, sym, ap, ◌∙◌}
use Rattle.std.specs.Prelude.{true, false, map, is_some, option_map, option_and_then, slice_get}
use Rattle.cbase.specs.declared.abi.Abi.{Abi}
use Rattle.cbase.specs.declared.ctype.CType.{CType}
use Rattle.cbase.specs.declared.structs.StructDef.{StructDef}
use Rattle.cbase.specs.Completing.{fieldless}
use Rattle.typing.specs.declared.environment.entity.Binding.{Binding as BindingByNumber}
use Rattle.typing.specs.declared.environment.entity.Binding.TheVariants.{Own as OwnByNumber, WithLinkage as LinkageByNumber}
use Rattle.typing.specs.declared.environment.entity.DeclaredType.TheVariants.{Whole}
use Rattle.typing.specs.declared.environment.entity.Definition.{Definition as DefinitionByNow}
use Rattle.typing.specs.declared.environment.entity.Entity.TheVariants.{Object, Typedef, Enumerator}
use Rattle.typing.specs.declared.environment.entity.Lifetime.TheVariants.{MainParameter}
use Rattle.typing.specs.declared.environment.entity.Linked.{Linked as LinkedByNumber}
use Rattle.typing.specs.declared.environment.entity.Signature.{Signature}
use Rattle.typing.specs.declared.environment.entity.Tag.{Tag as TagByNumber}
use Rattle.typing.specs.declared.environment.entity.Tag.TheVariants.{Struct, Enum}
use Rattle.typing.specs.environment.Environment.{name_bound, tag_declared, definition_of_linked, signature_added}
use Rattle.typing.specs.environment.Names.{value_in, with_value}
use Rattle.typing.specs.environment.Scopes.{Scopes, found, found_here, declared, declared_around}
use Rattle.typing.specs.Entities.{DeclaredType, Linked, ObjectLinked, FunctionLinked, Definition}
use Rattle.expressions.specs.Context.{Declared}
use Rattle.expressions.specs.FileScope.{file_scope, definition_in_text, name_linked_around}
use Rattle.expressions.specs.Language.{language, declared_number, lifetime_of, definition_by_now, built_in_by_now, token_by_now, linked_object, linked_function, name_linked_as, struct_opened, enum_listed}
use Rattle.expressions.specs.Numbers.{Numbering, tag_at, tag_here_at, name_here_at, linked_at}
use Rattle.expressions.proofs.Growth.{keeps_behind}
use Rattle.items.specs.languages.AtTypes.{binding_at, link_at, declarations_at, HasSignatures}
use Rattle.items.specs.languages.Carries.{Follows, Carries}
use Rattle.items.specs.languages.CLanguage.{bound, tagged, link_by, linked_declared, linked_declared_around, c_language, c_file}
use Rattle.items.specs.languages.CLanguage.{definition_set as set_definition}
use Rattle.items.specs.languages.LeadsBack.{LeadsBack}
use Rattle.items.specs.languages.Mapped.{scopes_mapped}
use Rattle.items.specs.languages.Meanings.{Binding, Own, WithLinkage, AConstant, Link, meaning_of, entity_of, tag_of, here_by, linked_by, visible_in, first_token, definition_before}
use Rattle.items.proofs.languages.AtTypes.{tag_at_types, here_at_types, linked_at_types, visible_at_types, token_before, definition_as_before, entity_stands, result_back, object_back, typedef_back, main_parameter_back, linked_object_back, linked_function_back, definition_back}
use Rattle.items.proofs.languages.Mapped.{is_some_mapped, mapped_twice, value_mapped, with_mapped, found_mapped, here_mapped, declared_mapped, around_mapped, left_mapped}

-- the last of a row is at the number of those before it
pub at_the_end : {A : Type 0} (items : List A) (last : A) → slice_get (items ++ last ∷ []) (length items) ≡ Some last
at_the_end [] last = refl
at_the_end (item ∷ items) last = at_the_end items last

and_then_mapped : {A B C : Type 0} (f : A → B) (g : B → Option C) (h : A → Option C) → ((a : A) → g (f a) ≡ h a) → (o : Option A) → option_and_then g (option_map f o) ≡ option_and_then h o
and_then_mapped f g h same None = refl
and_then_mapped f g h same (Some value) = same value

module _ (n : Numbering) where
  -- with other names, tags and links
  bound_at : (name : List ℕ) (binding : BindingByNumber) (there : Binding) (before : Declared) → binding_at n binding ≡ there
      → declarations_at n (record before { environment = name_bound name binding before.environment }) ≡ bound name there (declarations_at n before)
  bound_at name binding there before same = λ i. record (declarations_at n before) {
    names = (declared_mapped (binding_at n) name binding before.environment.names ∙ ap (λ (b : Binding). declared name b (declarations_at n before).names) same) i;
  }

  tagged_at : (name : List ℕ) (tag : TagByNumber) (structs : List StructDef) (before : Declared)
      → declarations_at n (record { environment = tag_declared name tag before.environment; structs = structs })
      ≡ record (tagged name (tag_here_at tag) (declarations_at n before)) { structs = structs }
  tagged_at name tag structs before = λ i. record (declarations_at n before) { tags = declared_mapped tag_here_at name tag before.environment.tags i; structs = structs }

  pub linked_with : (name : List ℕ) (linked : LinkedByNumber) (link : Link) (names : Scopes BindingByNumber) (there : Scopes Binding) (before : Declared)
      → scopes_mapped (binding_at n) names ≡ there → link_at n linked ≡ link
      → declarations_at n (record before { environment = record before.environment { names = names; linked = with_value name linked before.environment.linked } })
      ≡ record (declarations_at n before) { names = there; links = with_value name link (declarations_at n before).links }
  linked_with name linked link names there before same_names same_link = λ i. record (declarations_at n before) {
    names = same_names i;
    links = (with_mapped (link_at n) name linked before.environment.linked ∙ ap (λ (l : Link). with_value name l (declarations_at n before).links) same_link) i;
  }

  definition_with : (name : List ℕ) (definition : Definition) (o : Option LinkedByNumber) (before : Declared)
      → declarations_at n (record before { environment = definition_of_linked name (definition_in_text definition) o before.environment })
      ≡ set_definition name definition (option_map (link_at n) o) (declarations_at n before)
  definition_with name definition None before = refl
  definition_with name definition (Some linked) before = linked_with name (record linked { definition = definition_in_text definition })
      (record (link_at n linked) { definition = definition }) before.environment.names (declarations_at n before).names before refl
      (ap (λ (d : Definition). record (link_at n linked) { definition = d }) (definition_back definition))

  definition_valid : (name : List ℕ) (definition : DefinitionByNow) (o : Option LinkedByNumber) (before : Declared)
      → HasSignatures n (record before { environment = definition_of_linked name definition o before.environment }) → HasSignatures n before
  definition_valid name definition None before valid = valid
  definition_valid name definition (Some linked) before valid = valid

  pub signature_valid : (signature : Signature) (before : Declared)
      → HasSignatures n (record before { environment = signature_added signature before.environment }) → HasSignatures n before
  signature_valid signature before valid = λ number s at. valid number s (keeps_behind before.environment.signatures signature number s at)

module _ (n : Numbering) (back : LeadsBack n) (name : List ℕ) (token : ℕ) (before : Declared) where
  linked_object_at : (t : DeclaredType)
      → link_at n (linked_object (declared_number n t) (token_by_now (value_in name before.environment.linked) token) (is_some (value_in name before.environment.definitions)) (definition_by_now (value_in name before.environment.linked)))
      ≡ link_by token ((declarations_at n before).defines name) (ObjectLinked t) (value_in name (declarations_at n before).links)
  linked_object_at t =
      linked_object_back n back token ((declarations_at n before).defines name) t (value_in name before.environment.linked)
      ∙ ap (link_by token ((declarations_at n before).defines name) (ObjectLinked t)) (sym (value_mapped (link_at n) name before.environment.linked))

  linked_function_at : (result : CType) (params : List CType)
      → HasSignatures n (record before { environment = signature_added (record { result = n.number result; parameters = map n.number params }) before.environment })
      → link_at n (linked_function (length before.environment.signatures) (is_some (value_in name before.environment.definitions))
      (built_in_by_now (value_in name before.environment.linked)) (definition_by_now (value_in name before.environment.linked)))
      ≡ link_by token ((declarations_at n before).defines name) (FunctionLinked result params) (value_in name (declarations_at n before).links)
  linked_function_at result params valid =
      linked_function_back n back token (length before.environment.signatures) ((declarations_at n before).defines name) result params (value_in name before.environment.linked)
      (valid (length before.environment.signatures) (record { result = n.number result; parameters = map n.number params })
      (at_the_end before.environment.signatures (record { result = n.number result; parameters = map n.number params })))
      ∙ ap (link_by token ((declarations_at n before).defines name) (FunctionLinked result params)) (sym (value_mapped (link_at n) name before.environment.linked))

  -- the binding of a name with linkage
  linkage_back : (items : Option CType) → binding_at n (LinkageByNumber (option_map n.number items)) ≡ WithLinkage items
  linkage_back items = ap (λ (o : Option CType). WithLinkage o) (result_back n back items)

  linked_here : (items : Option CType)
      → scopes_mapped (binding_at n) (declared name (LinkageByNumber (option_map n.number items)) before.environment.names) ≡ declared name (WithLinkage items) (declarations_at n before).names
  linked_here items =
      declared_mapped (binding_at n) name (LinkageByNumber (option_map n.number items)) before.environment.names
      ∙ ap (λ (b : Binding). declared name b (declarations_at n before).names) (linkage_back items)

  linked_follows : (items : Option CType) (linked : Linked) → HasSignatures n (name_linked_as n name token items linked before)
      → Follows (declarations_at n) (HasSignatures n) before (name_linked_as n name token items linked before) (linked_declared name token items linked (declarations_at n before))
  linked_follows items (ObjectLinked t) valid = record {
    valid = valid;
    same = linked_with n name _ _ (declared name (LinkageByNumber (option_map n.number items)) before.environment.names) (declared name (WithLinkage items) (declarations_at n before).names) before
        (linked_here items) (linked_object_at t);
  }
  linked_follows items (FunctionLinked result params) valid = record {
    valid = signature_valid n (record { result = n.number result; parameters = map n.number params }) before valid;
    same = linked_with n name _ _ (declared name (LinkageByNumber (option_map n.number items)) before.environment.names) (declared name (WithLinkage items) (declarations_at n before).names)
        (record before { environment = signature_added (record { result = n.number result; parameters = map n.number params }) before.environment })
        (linked_here items) (linked_function_at result params valid);
  }

  linked_around_follows : (linked : Linked) → HasSignatures n (name_linked_around n name token linked before)
      → Follows (declarations_at n) (HasSignatures n) before (name_linked_around n name token linked before) (linked_declared_around name token linked (declarations_at n before))
  linked_around_follows (ObjectLinked t) valid = record {
    valid = valid;
    same = linked_with n name _ _ (declared_around name (LinkageByNumber None) before.environment.names) (declared_around name (WithLinkage None) (declarations_at n before).names) before
        (around_mapped (binding_at n) name (LinkageByNumber None) before.environment.names) (linked_object_at t);
  }
  linked_around_follows (FunctionLinked result params) valid = record {
    valid = signature_valid n (record { result = n.number result; parameters = map n.number params }) before valid;
    same = linked_with n name _ _ (declared_around name (LinkageByNumber None) before.environment.names) (declared_around name (WithLinkage None) (declarations_at n before).names)
        (record before { environment = signature_added (record { result = n.number result; parameters = map n.number params }) before.environment })
        (around_mapped (binding_at n) name (LinkageByNumber None) before.environment.names) (linked_function_at result params valid);
  }

module _ (abi : Abi) (n : Numbering) (back : LeadsBack n) where
  opened_follows : (name : Option (List ℕ)) (before : Declared) → HasSignatures n (struct_opened name before)
      → Follows (declarations_at n) (HasSignatures n) before (struct_opened name before) ((c_language abi).struct_opened name (declarations_at n before))
  opened_follows None before valid = record { valid = valid; same = refl }
  opened_follows (Some name) before valid = record { valid = valid; same = tagged_at n name (Struct (length before.structs) true) (before.structs ++ fieldless name ∷ []) before }

  listed_follows : (name : Option (List ℕ)) (before : Declared) → HasSignatures n (enum_listed name before)
      → Follows (declarations_at n) (HasSignatures n) before (enum_listed name before) ((c_language abi).enum_listed name (declarations_at n before))
  listed_follows None before valid = record { valid = valid; same = refl }
  listed_follows (Some name) before valid = record { valid = valid; same = tagged_at n name (Enum true) before.structs before }

  pub carries : Carries (language abi n) (c_language abi) (file_scope abi n) (c_file abi) (declarations_at n) (HasSignatures n)
  carries = record {
    abi = refl;
    entity = λ name before. ap (λ binding. option_map entity_of (meaning_of name (declarations_at n before).links binding)) (found_mapped (binding_at n) name before.environment.names)
        ∙ entity_stands n name before.environment.linked (found name before.environment.names);
    tag = λ name before. ap (option_map tag_of) (found_mapped tag_here_at name before.environment.tags)
        ∙ mapped_twice tag_here_at tag_of tag_at (tag_at_types n) (found name before.environment.tags);
    structs = λ before. refl;
    tag_here = λ name before. here_mapped tag_here_at name before.environment.tags;
    is_declared_here = λ name before. ap is_some (here_mapped (binding_at n) name before.environment.names)
        ∙ is_some_mapped (binding_at n) (found_here name before.environment.names);
    in_loop = λ before. refl;
    result = λ before. refl;
    name_here = λ name before. ap (option_map here_by) (here_mapped (binding_at n) name before.environment.names)
        ∙ mapped_twice (binding_at n) here_by (name_here_at n) (here_at_types n) (found_here name before.environment.names);
    linked = λ name before. ap (option_and_then (λ (link : Link). linked_by link.meaning)) (value_mapped (link_at n) name before.environment.linked)
        ∙ and_then_mapped (link_at n) (λ (link : Link). linked_by link.meaning) (linked_at n) (λ linked. linked_at_types n linked.entity) (value_in name before.environment.linked);
    visible_type = λ name before. ap (visible_in name (declarations_at n before).links) (found_mapped (binding_at n) name before.environment.names)
        ∙ visible_at_types n name before.environment.linked (found name before.environment.names);
    strict = λ before. refl;
    definition = λ name before. ap definition_before (value_mapped (link_at n) name before.environment.linked)
        ∙ definition_as_before n (value_in name before.environment.linked);
    first_token = λ name before. ap (λ (o : Option Link). first_token o 0) (value_mapped (link_at n) name before.environment.linked)
        ∙ token_before n (value_in name before.environment.linked) 0;
    struct_declared = λ name before valid. record {
      valid = valid;
      same = tagged_at n name (Struct (length before.structs) false) (before.structs ++ fieldless name ∷ []) before;
    };
    enum_declared = λ name before valid. record { valid = valid; same = tagged_at n name (Enum false) before.structs before };
    struct_opened = opened_follows;
    struct_listed = λ name number before valid. record { valid = valid; same = tagged_at n name (Struct number true) before.structs before };
    struct_completed = λ number fields before valid. record { valid = valid; same = refl };
    enum_listed = listed_follows;
    constant_declared = λ name bits before valid. record { valid = valid; same = bound_at n name (OwnByNumber (Enumerator bits)) (Own (AConstant bits)) before refl };
    entered = λ before valid. record { valid = valid; same = refl };
    left = λ before valid. record {
      valid = valid;
      same = λ i. record (declarations_at n before) {
        names = left_mapped (binding_at n) before.environment.names i;
        tags = left_mapped tag_here_at before.environment.tags i;
      };
    };
    left_valid = λ before valid. valid;
    loop_set = λ in_loop before valid. record { valid = valid; same = refl };
    result_set = λ result before valid. record { valid = valid; same = ap (λ (r : Option CType). record (declarations_at n before) { result = r }) (result_back n back result) };
    object_declared = λ name token fixed t before valid. record {
      valid = valid;
      same = bound_at n name (OwnByNumber (Object (declared_number n t) token (lifetime_of fixed) true)) _ before (object_back n back token fixed t);
    };
    typedef_declared = λ name t before valid. record {
      valid = valid;
      same = bound_at n name (OwnByNumber (Typedef (declared_number n t))) _ before (typedef_back n back t);
    };
    linked_declared = λ name token items linked before valid. linked_follows n back name token before items linked valid;
    definition_set = λ name definition before valid. record {
      valid = definition_valid n name (definition_in_text definition) (value_in name before.environment.linked) before valid;
      same = definition_with n name definition (value_in name before.environment.linked) before
          ∙ ap (λ (o : Option Link). set_definition name definition o (declarations_at n before)) (sym (value_mapped (link_at n) name before.environment.linked));
    };
    declared_around = λ name token linked before valid. linked_around_follows n back name token before linked valid;
    main_parameter = λ name token t before valid. record {
      valid = valid;
      same = bound_at n name (OwnByNumber (Object (Whole (n.number t)) token MainParameter true)) _ before (main_parameter_back n back token t);
    };
  }
