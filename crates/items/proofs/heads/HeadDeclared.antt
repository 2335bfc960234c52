-- What declares a function by its head, and what a context keeps behind that.
use Rattle.std.proofs.Common.{◌≡◌, ◌<◌, ℕ, List, map, length, All, refl, sym, ap, ◌∙◌, arith, Option, None, Some}
use Rattle.std.specs.Prelude.{option_and_then}
use Rattle.cbase.specs.declared.abi.Abi.{Abi}
use Rattle.cbase.specs.declared.tree.decl.Declared.{Declared as DeclaredName}
use Rattle.cbase.specs.declared.tree.expr.ExprForm.TheViews.{out-Declared}
use Rattle.typing.specs.declared.environment.entity.Definition.{Definition as DefinitionByNow}
use Rattle.typing.specs.declared.environment.entity.Definition.TheVariants.{NotDefined as NotDefinedByNow, Tentative as TentativeByNow, Defined as DefinedByNow}
use Rattle.typing.specs.declared.environment.entity.Linked.{Linked as LinkedByNumber}
use Rattle.typing.specs.declared.environment.environment.Environment.{Environment}
use Rattle.typing.specs.environment.Environment.{definition_of_linked, definition_set, is_defined, signature_added}
use Rattle.typing.specs.environment.Linkage.{linked_declared_around}
use Rattle.typing.specs.environment.Names.{value_in}
use Rattle.typing.specs.Declarations.{Parameter}
use Rattle.typing.specs.Entities.{Definition, Linked}
use Rattle.typing.specs.FileNames.{with_definition}
use Rattle.typing.specs.Heads.{definition_of_head, head_declared, is_main, names_in, marked_if as marked_if_in}
use Rattle.typing.specs.NamedTypes.{with_stars}
use Rattle.expressions.specs.declared.named_type.NamedType.{NamedType as NamedByNumber}
use Rattle.expressions.specs.Context.{Context, Declared, declared, Agrees, Grows}
use Rattle.expressions.specs.FileScope.{definition_at, definition_in_text, file_scope}
use Rattle.expressions.specs.Language.{built_in_by_now, definition_by_now, language, linked_function}
use Rattle.expressions.specs.Numbers.{Numbering, linked_at, named_at}
use Rattle.expressions.proofs.Growth.{grows_trans, keeps_behind, number_back}
use Rattle.expressions.proofs.TypeWords.{grows_to}
use Rattle.items.specs.declared.parameters.parameter.Parameter.{Parameter as ParameterByNumber}
use Rattle.items.specs.parameters.Parameters.{numbers_of, parameter_at}
use Rattle.items.proofs.parameters.NamesTaken.{composite_is, types_meant}
use Rattle.items.proofs.parameters.TypesAlike.{numbers_back}
use Rattle.items.specs.declared.heads.parts.Head.{Head}
use Rattle.items.specs.Heads.{function_around, head_declared_in, marked_if_main}
use Rattle.items.proofs.heads.HeadMarked.{Alike, if_alike, if_declared}

-- what the text has for a name is kept as it is
definition_back : (definition : DefinitionByNow) → definition_in_text (definition_at definition) ≡ definition
definition_back NotDefinedByNow = refl
definition_back TentativeByNow = refl
definition_back DefinedByNow = refl

pub definition_is : (now : DefinitionByNow) (meant : Definition) → definition_at now ≡ meant → now ≡ definition_in_text meant
definition_is now meant is = sym (definition_back now) ∙ ap definition_in_text is

-- what is said of a definition adds no signature
set_signatures : (name : List ℕ) (definition : DefinitionByNow) (found : Option LinkedByNumber) (env : Environment) → (definition_of_linked name definition found env).signatures ≡ env.signatures
set_signatures name definition None env = refl
set_signatures name definition (Some meaning) env = refl

around_grows : (name : List ℕ) (result : ℕ) (params : List ℕ) (context : Context) → Grows context (function_around name result params context)
around_grows name result params context = record {
  types = λ number t is. is;
  structs = λ number s is complete. is;
  longer = omega arith;
  signatures = keeps_behind context.environment.signatures (record { result = result; parameters = params });
}

set_grows : (name : List ℕ) (definition : DefinitionByNow) (context : Context) → Grows context (record context { environment = definition_set name definition context.environment })
set_grows name definition context = grows_to context (record context { environment = definition_set name definition context.environment }) refl (λ at item is. is)
    (set_signatures name definition (value_in name context.environment.linked) context.environment)

alike_grows : (old new : Context) → Alike old new → Grows old new
alike_grows old new alike = grows_to old new alike.types (rw alike.structs (λ at item is. is)) alike.signatures

module _ (head : Head) (name : DeclaredName) (params : List ParameterByNumber) (types : List ℕ) (before : Context) where
  abbrev Marked : Context
  Marked = marked_if_main name params before

  marked_is : Alike before Marked
  marked_is = if_alike (is_main (out-Declared name).name) (names_in (out-Declared name)) params before

  pub head_grows : Grows before (head_declared_in head name params types before)
  head_grows =
      let around = function_around (out-Declared name).name head.result types Marked in
      let definition = definition_in_text (with_definition (definition_at (definition_by_now (value_in (out-Declared name).name before.environment.linked))) (definition_of_head head.bodied)) in
      let set : Context = record around { environment = definition_set (out-Declared name).name definition around.environment } in
      grows_trans before Marked set (alike_grows before Marked marked_is)
      (grows_trans Marked around set (around_grows (out-Declared name).name head.result types Marked) (set_grows (out-Declared name).name definition around))

  pub head_handed : (head_declared_in head name params types before).handed ≡ before.handed
  head_handed = marked_is.handed

  pub head_types : (head_declared_in head name params types before).types ≡ before.types
  head_types = marked_is.types

pub marked_types : (name : DeclaredName) (params : List ParameterByNumber) (before marks : Context) → marks ≡ marked_if_main name params before → marks.types ≡ before.types
marked_types name params before marks is =
    ap (λ (c : Context). c.types) is ∙ (if_alike (is_main (out-Declared name).name) (names_in (out-Declared name)) params before).types

-- what code does of it, step by step
pub head_declared_so : (head : Head) (name : DeclaredName) (params : List ParameterByNumber) (types : List ℕ) (before marks around new : Context)
    (text : List ℕ) (linked : Option LinkedByNumber) (so_far adds now : DefinitionByNow)
    → text ≡ (out-Declared name).name → linked ≡ value_in text before.environment.linked → so_far ≡ definition_by_now linked
    → marks ≡ marked_if_main name params before → around ≡ function_around text head.result types marks
    → definition_at adds ≡ definition_of_head head.bodied → definition_at now ≡ with_definition (definition_at so_far) (definition_at adds)
    → new ≡ record around { environment = definition_set text now around.environment }
    → new ≡ head_declared_in head name params types before
head_declared_so head name params types before marks around new text linked so_far adds now called linked_is so_far_is marks_is around_is adds_is now_is new_is =
    let known : definition_at so_far ≡ definition_at (definition_by_now (value_in (out-Declared name).name before.environment.linked)) =
    ap definition_at so_far_is ∙ (ap (λ (l : Option LinkedByNumber). definition_at (definition_by_now l)) linked_is ∙ ap (λ (t : List ℕ). definition_at (definition_by_now (value_in t before.environment.linked))) called) in
    let set : now ≡ definition_in_text (with_definition (definition_at (definition_by_now (value_in (out-Declared name).name before.environment.linked))) (definition_of_head head.bodied)) =
    definition_is now (with_definition (definition_at (definition_by_now (value_in (out-Declared name).name before.environment.linked))) (definition_of_head head.bodied)) (now_is ∙ (λ i. with_definition (known i) (adds_is i))) in
    let there : around ≡ function_around (out-Declared name).name head.result types (marked_if_main name params before) =
    around_is ∙ (λ i. function_around (called i) head.result types (marks_is i)) in
    new_is ∙ (λ i. record (there i) { environment = definition_set (called i) (set i) (there i).environment })

-- a function around, and what the text has for it, of what is declared
abbrev around_in : List ℕ → ℕ → List ℕ → Declared → Declared
around_in name result params before = record before {
  environment = linked_declared_around name None
      (linked_function (length before.environment.signatures) (is_defined name before.environment) (built_in_by_now (value_in name before.environment.linked))
      (definition_by_now (value_in name before.environment.linked)))
      (signature_added (record { result = result; parameters = params }) before.environment);
}

abbrev set_in : List ℕ → DefinitionByNow → Declared → Declared
set_in name definition before = record before { environment = definition_set name definition before.environment }

module _ (abi : Abi) (head : Head) (base : NamedByNumber) (name : DeclaredName) (params : List ParameterByNumber) (types : List ℕ) (old mid : Context)
    (listed : types ≡ numbers_of params) (there : declared mid ≡ declared old) (below : All (λ (one : ℕ). one < length mid.types) types)
    (each_below : All (λ param. param.ctype < length mid.types) params) (of : head.result < length mid.types) where
  pub head_declares : (n : Numbering) → Agrees n mid → n.ctype head.result ≡ with_stars (out-Declared name).stars (n.ctype base.ctype)
      → declared (head_declared_in head name params types mid)
      ≡ head_declared (language abi n) (file_scope abi n) head.bodied (named_at n base) (out-Declared name) (names_in (out-Declared name)) (map (parameter_at n) params) (declared old)
  head_declares n agrees meant =
      let parts = out-Declared name in
      let told : List Parameter = map (parameter_at n) params in
      let l = language abi n in
      let file = file_scope abi n in
      let result_number : head.result ≡ n.number (with_stars parts.stars (n.ctype base.ctype)) = sym (number_back n mid head.result agrees of) ∙ ap n.number meant in
      let param_numbers : types ≡ map n.number (map (λ (param : Parameter). param.ctype) told) =
      sym (numbers_back n mid agrees types below) ∙ ap (map n.number) (ap (map n.ctype) listed ∙ types_meant n params) in
      let marks : declared (marked_if_main name params mid) ≡ marked_if_in l file (is_main parts.name) (names_in parts) told (declared old) =
      if_declared abi n mid agrees (is_main parts.name) (names_in parts) params mid each_below ∙ ap (λ (env : Declared). marked_if_in l file (is_main parts.name) (names_in parts) told env) there in
      let by_numbers : declared (head_declared_in head name params types mid)
      ≡ set_in parts.name (definition_in_text (with_definition (definition_at (definition_by_now (value_in parts.name old.environment.linked))) (definition_of_head head.bodied)))
      (around_in parts.name (n.number (with_stars parts.stars (n.ctype base.ctype))) (map n.number (map (λ (param : Parameter). param.ctype) told))
      (marked_if_in l file (is_main parts.name) (names_in parts) told (declared old))) =
      λ i. set_in parts.name (definition_in_text (with_definition (definition_at (definition_by_now (value_in parts.name (there i).environment.linked))) (definition_of_head head.bodied)))
      (around_in parts.name (result_number i) (param_numbers i) (marks i)) in
      by_numbers
      ∙ ap (λ (now : Linked). file.definition_set parts.name (with_definition (file.definition parts.name (declared old)) (definition_of_head head.bodied))
      (file.declared_around parts.name parts.place.at now (marked_if_in l file (is_main parts.name) (names_in parts) told (declared old))))
      (sym (composite_is (option_and_then (linked_at n) (value_in parts.name old.environment.linked)) (with_stars parts.stars (n.ctype base.ctype)) (map (λ (param : Parameter). param.ctype) told)))
