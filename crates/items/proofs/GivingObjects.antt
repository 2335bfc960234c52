-- An object is declared by its name where nothing is broken at it, and is refused where something is.
use Rattle.std.proofs.Common.{◌≡◌, ◌∙◌, ◌++◌, ◌||◌, ℕ, List, length, refl, sym, ap, subst, Option, None, Some}
use Rattle.std.specs.Prelude.{option_map}
use Rattle.cbase.specs.declared.abi.Abi.{Abi}
use Rattle.cbase.specs.declared.tree.decl.Declared.{Declared as DeclaredTree}
use Rattle.cbase.specs.declared.tree.decl.Storage.{Storage}
use Rattle.cbase.specs.declared.tree.expr.ExprForm.TheViews.{out-Declared}
use Rattle.typing.specs.declared.environment.entity.Definition.{Definition as DefinitionByNow}
use Rattle.typing.specs.declared.environment.entity.Definition.TheVariants as by_now
use Rattle.typing.specs.declared.environment.entity.DeclaredType.{DeclaredType}
use Rattle.typing.specs.declared.environment.environment.Environment.{Environment}
use Rattle.typing.specs.environment.Bounds.{DeclaredBelow}
use Rattle.typing.specs.environment.Environment.{visible_type}
use Rattle.typing.specs.environment.Names.{value_in}
use Rattle.typing.specs.declared.ctypes.found.Broken.{Broken}
use Rattle.typing.specs.declared.fault.Fault.{Fault}
use Rattle.typing.specs.declared.size.Size.{Size}
use Rattle.typing.specs.Declarations.{Given, IsAgain, LinkedGiven, found_of_name, given_type, name_declared, name_faults, seen_type}
use Rattle.typing.specs.Entities.{ObjectLinked}
use Rattle.typing.specs.FileNames.{is_complete_by, is_listed, is_twice, object_type, with_definition}
use Rattle.typing.specs.NamedTypes.{declared_type, is_large}
use Rattle.expressions.specs.declared.named_type.NamedType.{NamedType as NamedByNumber}
use Rattle.expressions.specs.Context.{Context, declared, Agrees, OnlyTypes}
use Rattle.expressions.specs.FileScope.{definition_at, definition_in_text, file_scope}
use Rattle.expressions.specs.Language.{definition_by_now, language}
use Rattle.expressions.specs.Numbers.{Numbering, declared_type_at, named_at}
use Rattle.expressions.specs.Settled.{IsFirstOf}
use Rattle.expressions.proofs.Growth.{agrees_as, agrees_before_types, grows_trans, only_types_grows, only_types_trans}
use Rattle.expressions.proofs.TypeWords.{declared_by_types, grows_to}
use Rattle.items.specs.declarations.Given.{IsFoundOfName, IsGivenType, here_at, linked_now}
use Rattle.items.specs.declared.object.Object.{Object}
use Rattle.items.proofs.declarations.Bound.{seen_is}
use Rattle.items.specs.Objects.{IsObjectAsked, IsObjectJudged, IsObjectOf, ObjectBreaks, ObjectGives, OnlyNames, link_rows}

-- what the text has for a name, in both languages
pub definition_back : (definition : DefinitionByNow) → definition_in_text (definition_at definition) ≡ definition
definition_back by_now.NotDefined = refl
definition_back by_now.Tentative = refl
definition_back by_now.Defined = refl

module _ (abi : Abi) (storage : Storage) (base : NamedByNumber) (name : DeclaredTree) (sizes : List Size) (old mid late : Context) (t : DeclaredType) (found : Option Broken) (object : Object)
    (first : IsFoundOfName abi base (out-Declared name).stars sizes old mid found) (second : IsGivenType base (out-Declared name).stars sizes mid late t)
    (is : IsObjectOf late storage name t object) where
  only : OnlyTypes old late
  only = only_types_trans old mid late first.only_types second.only_types

  -- what the object is in the language of the context in front of its name
  given_is : (n : Numbering) → Agrees n late → declared_type_at n object.given ≡ given_type (named_at n base) (out-Declared name).stars sizes
  given_is n agrees = ap (declared_type_at n) is.given ∙ second.meant n agrees

  before_is : definition_at object.before ≡ definition_at (definition_by_now (value_in (out-Declared name).name old.environment.linked))
  before_is = ap definition_at is.before ∙ ap (λ (env : Environment). definition_at (definition_by_now (value_in (out-Declared name).name env.linked))) only.environment

  type_is : (n : Numbering) → Agrees n late → declared_type_at n object.ctype ≡ object_type (language abi n) (named_at n base) (out-Declared name) sizes (declared old)
  type_is n agrees =
      ap (declared_type_at n) is.ctype
      ∙ (seen_is n (visible_type (out-Declared name).name late.environment) t
      ∙ λ i. seen_type (option_map n.ctype (visible_type (out-Declared name).name (only.environment i))) (second.meant n agrees i))

  found_is : (n : Numbering) → Agrees n late → found ≡ found_of_name (named_at n base) sizes (is_large abi old.structs (declared_type (named_at n base) (out-Declared name).stars sizes))
  found_is n agrees = first.meant n (agrees_before_types mid late n second.only_types agrees)

  -- what is asked at the name
  asked : (refused : Option Fault) → ((n : Numbering) → Agrees n late → IsObjectJudged n late name object found refused) → (n : Numbering) → Agrees n late → IsObjectAsked abi storage base name sizes old refused n
  asked refused judged n agrees =
      let here = judged n agrees in (
        here.0,
        subst (λ (env : Environment). IsAgain (here_at n (record old { environment = env }) (out-Declared name).name) (linked_now n (record old { environment = env }) (out-Declared name).name)
            (LinkedGiven (ObjectLinked (given_type (named_at n base) (out-Declared name).stars sizes))) here.0) only.environment
            (subst (λ (g : Given). IsAgain (here_at n late (out-Declared name).name) (linked_now n late (out-Declared name).name) g here.0)
            (λ i. LinkedGiven (ObjectLinked (given_is n agrees i))) here.1),
        subst (λ (faults : List Fault). IsFirstOf faults refused)
            (λ i. name_faults (out-Declared name).place (found_is n agrees i) (here.0 || is_twice (before_is i) (is.adds i)) (is_complete_by (only.structs i) (is.adds i) (type_is n agrees i)))
            here.2,
      )

  pub breaks : (fault : Fault) (answer : Option Fault) → answer ≡ Some fault → ((n : Numbering) → Agrees n late → IsObjectJudged n late name object found answer) → ObjectBreaks abi storage base name sizes old late fault
  breaks fault answer refused judged = record {
    only_types = only;
    asked = λ n agrees. subst (λ (refused : Option Fault). IsObjectAsked abi storage base name sizes old refused n) refused (asked answer judged n agrees);
  }

  pub gives : (bound new : Context) (answer : Option Fault) → answer ≡ None → ((n : Numbering) → Agrees n late → IsObjectJudged n late name object found answer)
      → DeclaredBelow (length late.types) object.ctype → OnlyNames late bound
      → ((n : Numbering) → Agrees n late → declared bound ≡ (file_scope abi n).definition_set (out-Declared name).name (with_definition (definition_at object.before) (definition_at object.adds))
      (name_declared (language abi n) (out-Declared name).name (out-Declared name).place.at (LinkedGiven (ObjectLinked (declared_type_at n object.ctype))) (declared late)))
      → new ≡ record bound { handed = bound.handed ++ link_rows name bound } → ObjectGives abi storage base name sizes old new object
  gives bound new answer none judged below names means handed =
      let types : new.types ≡ late.types = ap (λ (c : Context). c.types) handed ∙ names.types in
      let signatures : new.environment.signatures ≡ late.environment.signatures = ap (λ (c : Context). c.environment.signatures) handed ∙ names.signatures in
      let structs : new.structs ≡ late.structs = ap (λ (c : Context). c.structs) handed ∙ names.structs in
      record {
        grows = grows_trans old late new (only_types_grows old late only) (grows_to late new types (rw structs (λ at one there. there)) signatures);
        handed = ap (λ (c : Context). c.handed) handed ∙ (λ i. (names.handed ∙ only.handed) i ++ link_rows name (sym handed i));
        below = subst (λ (count : ℕ). DeclaredBelow count object.ctype) (ap length (sym types)) below;
        listed = λ n. λ i. is_listed (before_is i) (is.adds i);
        meant = λ n agrees. type_is n (agrees_as n late new types signatures agrees);
        asked = λ n agrees. subst (λ (refused : Option Fault). IsObjectAsked abi storage base name sizes old refused n) none (asked answer judged n (agrees_as n late new types signatures agrees));
        declares = λ n agrees.
            let then : Agrees n late = agrees_as n late new types signatures agrees in
            ap declared handed
            ∙ (means n then
            ∙ λ i. (file_scope abi n).definition_set (out-Declared name).name (with_definition (before_is i) (is.adds i))
            (name_declared (language abi n) (out-Declared name).name (out-Declared name).place.at (LinkedGiven (ObjectLinked (type_is n then i))) (sym (declared_by_types old late only) i)));
      }
