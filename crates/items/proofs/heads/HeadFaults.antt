-- What is broken at the head of a function, in the order in which it is asked.
use Rattle.std.proofs.Common.{◌≡◌, ◌<◌, ◌≤◌, ◌+◌, ◌++◌, ℕ, Bool, true, false, List, map, drop, length, get_or, refl, sym, ap, subst, ◌∙◌, Option}
use Rattle.std.specs.Prelude.{◌&&◌, ◌||◌, is_some, nat_eq, option_map, option_and_then}
use Rattle.std.proofs.lemmas.Bool.{eq-eqb, eqb-true}
use Rattle.std.proofs.lemmas.List.{drop_all}
use Rattle.cbase.specs.declared.abi.Abi.{Abi}
use Rattle.cbase.specs.declared.ctype.CType.{CType}
use Rattle.cbase.specs.declared.ctype.CType.TheViews.{out-CType, outs-Void, outs-Bool, outs-Int, outs-Pointer, outs-Struct, outs-Array}
use Rattle.cbase.specs.declared.tree.decl.Declared.{Declared as DeclaredName}
use Rattle.cbase.specs.declared.tree.decl.Storage.{Storage}
use Rattle.cbase.specs.declared.tree.expr.ExprForm.TheViews.{out-Declared}
use Rattle.typing.specs.declared.ctypes.shape.Shape.{Shape}
use Rattle.typing.specs.declared.ctypes.shape.Shape.TheVariants.{Void as VoidShape, Bool as BoolShape, Int as IntShape, Pointer as PointerShape, Struct as StructShape, Array as ArrayShape}
use Rattle.typing.specs.ctypes.Table.{type_at, type_of}
use Rattle.typing.specs.declared.environment.entity.Definition.{Definition as DefinitionByNow}
use Rattle.typing.specs.declared.environment.environment.Environment.{Environment}
use Rattle.typing.specs.environment.Names.{value_in}
use Rattle.typing.specs.environment.Scopes.{found_here, left}
use Rattle.typing.specs.declared.ctypes.found.Broken.{Broken}
use Rattle.typing.specs.ctypes.Kinds.{kind_of}
use Rattle.typing.specs.declared.fault.Fault.{Fault}
use Rattle.typing.specs.Calls.{is_struct}
use Rattle.typing.specs.Declarations.{IsAgain, LinkedGiven, Parameter, faults_of_all, found_of_all, function_given, function_name_faults, is_array, is_typedef}
use Rattle.typing.specs.Entities.{Definition, Linked, FunctionLinked}
use Rattle.typing.specs.Faults.{least}
use Rattle.typing.specs.FileNames.{is_twice}
use Rattle.typing.specs.Heads.{body_faults, definition_of_head, has_struct, head_faults, is_int, is_main, main_faults, takes_struct}
use Rattle.typing.specs.NamedTypes.{with_stars}
use Rattle.typing.specs.Paths.{item_in}
use Rattle.expressions.specs.declared.named_type.NamedType.{NamedType as NamedByNumber}
use Rattle.expressions.specs.Context.{Context, declared, Agrees}
use Rattle.expressions.specs.FileScope.{definition_at, file_scope}
use Rattle.expressions.specs.Language.{definition_by_now, language}
use Rattle.expressions.specs.Numbers.{Numbering, linked_at, name_here_at, named_at}
use Rattle.expressions.specs.Operated.{Numbers}
use Rattle.expressions.specs.Settled.{IsFirstOf}
use Rattle.expressions.proofs.Growth.{agrees_at}
use Rattle.expressions.proofs.Loops.{next_item}
use Rattle.items.specs.declared.parameters.parameter.Parameter.{Parameter as ParameterByNumber}
use Rattle.items.specs.parameters.Parameters.{numbers_of, parameter_at}
use Rattle.items.proofs.parameters.NamesTaken.{array_is, types_meant}
use Rattle.items.proofs.parameters.ParametersTaken.{there_alike}
use Rattle.items.specs.declared.heads.parts.Head.{Head}
use Rattle.items.specs.Heads.{IsHeadJudged, HeadAsked, faults_of_head}

-- an int by its shape
no_int : (types : List CType) (shape : Shape) → ((bytes : ℕ) (signed : Bool) → shape ≡ IntShape bytes signed → ⊥) → false ≡ is_int (out-CType (type_of types shape))
no_int types VoidShape other = sym (ap is_int outs-Void)
no_int types BoolShape other = sym (ap is_int outs-Bool)
no_int types (IntShape bytes signed) other = absurd (other bytes signed refl)
no_int types (PointerShape item) other = sym (ap is_int (outs-Pointer (type_at types item)))
no_int types (StructShape number) other = sym (ap is_int (outs-Struct number))
no_int types (ArrayShape item count) other = sym (ap is_int (outs-Array (type_at types item) count))

int_by_shape : (n : Numbering) (context : Context) (number bytes : ℕ) (signed : Bool) → Agrees n context → number < length context.types
    → type_at context.types number ≡ type_of context.types (IntShape bytes signed) → (nat_eq bytes 4 && signed) ≡ is_int (out-CType (n.ctype number))
int_by_shape n context number bytes signed agrees below is =
    sym (ap (λ (t : CType). is_int (out-CType t)) (agrees_at n context number agrees below ∙ is) ∙ ap is_int (outs-Int bytes signed))

pub four_bytes : (n : Numbering) (context : Context) (number bytes : ℕ) (signed : Bool) → Agrees n context → number < length context.types
    → type_at context.types number ≡ type_of context.types (IntShape bytes signed) → bytes ≡ 4 → signed ≡ is_int (out-CType (n.ctype number))
four_bytes n context number bytes signed agrees below is four =
    sym (ap (λ (b : Bool). b && signed) (eq-eqb bytes 4 four)) ∙ int_by_shape n context number bytes signed agrees below is

no_sign_asked : (test signed : Bool) → (test ≡ true → ⊥) → test ≡ (test && signed)
no_sign_asked true signed not = absurd (not refl)
no_sign_asked false signed not = refl

pub other_bytes : (n : Numbering) (context : Context) (number bytes : ℕ) (signed : Bool) → Agrees n context → number < length context.types
    → type_at context.types number ≡ type_of context.types (IntShape bytes signed) → (bytes ≡ 4 → ⊥) → nat_eq bytes 4 ≡ is_int (out-CType (n.ctype number))
other_bytes n context number bytes signed agrees below is other =
    no_sign_asked (nat_eq bytes 4) signed (λ same. other (eqb-true bytes 4 same)) ∙ int_by_shape n context number bytes signed agrees below is

pub no_int_by_shape : (n : Numbering) (context : Context) (number : ℕ) (shape : Shape) → Agrees n context → number < length context.types
    → type_at context.types number ≡ type_of context.types shape → ((bytes : ℕ) (signed : Bool) → shape ≡ IntShape bytes signed → ⊥) → false ≡ is_int (out-CType (n.ctype number))
no_int_by_shape n context number shape agrees below is other =
    no_int context.types shape other ∙ sym (ap (λ (t : CType). is_int (out-CType t)) (agrees_at n context number agrees below ∙ is))

-- parameters of which so many are no struct: one of the rest is where one of all is
module _ (n : Numbering) (context : Context) (params : List ParameterByNumber) where
  abbrev pub Takes : ℕ → Type 0
  Takes at = takes_struct context.structs (map (parameter_at n) (drop at params)) ≡ takes_struct context.structs (map (parameter_at n) params)

  takes_first : (at : ℕ) (param : ParameterByNumber) (struct : Bool) → at < length params → param ≡ get_or params at param → struct ≡ is_struct (kind_of context.structs (n.ctype param.ctype))
      → takes_struct context.structs (map (parameter_at n) (drop at params)) ≡ (struct || takes_struct context.structs (map (parameter_at n) (drop (at + 1) params)))
  takes_first at param struct within is told =
      ap (λ (rest : List ParameterByNumber). takes_struct context.structs (map (parameter_at n) rest)) (next_item params at param within is)
      ∙ ap (λ (b : Bool). b || takes_struct context.structs (map (parameter_at n) (drop (at + 1) params))) (sym told)

  pub takes_next : (at : ℕ) (param : ParameterByNumber) (struct : Bool) → at < length params → param ≡ get_or params at param → struct ≡ is_struct (kind_of context.structs (n.ctype param.ctype))
      → struct ≡ false → Takes at → Takes (at + 1)
  takes_next at param struct within is told none so_far =
      sym (takes_first at param struct within is told ∙ ap (λ (b : Bool). b || takes_struct context.structs (map (parameter_at n) (drop (at + 1) params))) none) ∙ so_far

  pub takes_here : (at : ℕ) (param : ParameterByNumber) (struct : Bool) → at < length params → param ≡ get_or params at param → struct ≡ is_struct (kind_of context.structs (n.ctype param.ctype))
      → struct ≡ true → Takes at → true ≡ takes_struct context.structs (map (parameter_at n) params)
  takes_here at param struct within is told one so_far =
      sym (takes_first at param struct within is told ∙ ap (λ (b : Bool). b || takes_struct context.structs (map (parameter_at n) (drop (at + 1) params))) one) ∙ so_far

  pub takes_end : (at : ℕ) → length params ≤ at → Takes at → false ≡ takes_struct context.structs (map (parameter_at n) params)
  takes_end at past so_far = sym (ap (λ (rest : List ParameterByNumber). takes_struct context.structs (map (parameter_at n) rest)) (drop_all at params past)) ∙ so_far

-- what is declared another thing, and else what is defined a second time
pub again_other : (other again twice : Bool) → again ≡ other → other ≡ true → again ≡ (other || twice)
again_other other again twice is there = is ∙ (there ∙ sym (ap (λ (o : Bool). o || twice) there))

pub again_twice : (other again twice : Bool) → again ≡ twice → other ≡ false → again ≡ (other || twice)
again_twice other again twice is there = is ∙ sym (ap (λ (o : Bool). o || twice) there)

module _ (context : Context) (head : Head) (name : DeclaredName) (params : List ParameterByNumber) (types : List ℕ) where
  -- what is asked of the scope around and of what has linkage
  abbrev pub AsksAround : List ℕ → Bool → Type 0
  AsksAround text other = (n : Numbering) → Agrees n context
      → IsAgain (option_map (name_here_at n) (found_here text (left context.environment.names))) (option_and_then (linked_at n) (value_in text context.environment.linked))
      (LinkedGiven (FunctionLinked (n.ctype head.result) (map n.ctype types))) other

  pub head_judged : (text : List ℕ) (other again array struct : Bool) (before : DefinitionByNow) (found least_found : Option Broken) (item : Option ℕ)
      (here there named bodied of_main later first : Option Fault)
      → text ≡ (out-Declared name).name → AsksAround text other
      → before ≡ definition_by_now (value_in text context.environment.linked) → again ≡ (other || is_twice (definition_at before) (definition_of_head head.bodied))
      → found ≡ least head.found least_found → ((n : Numbering) → least_found ≡ found_of_all (map (parameter_at n) params))
      → array ≡ is_some item → ((n : Numbering) → Agrees n context → option_map n.ctype item ≡ item_in (kind_of context.structs (n.ctype head.result)))
      → IsFirstOf (function_name_faults (out-Declared name).place found (is_typedef head.storage) again array) here
      → ((n : Numbering) → IsFirstOf (faults_of_all (map (parameter_at n) params)) there)
      → ((faults others : List Fault) → IsFirstOf faults here → IsFirstOf others there → IsFirstOf (faults ++ others) named)
      → ((n : Numbering) → Agrees n context → struct ≡ has_struct context.structs (n.ctype head.result) (map (parameter_at n) params))
      → IsFirstOf (body_faults head.bodied (out-Declared name).place struct) bodied
      → ((n : Numbering) → Agrees n context → IsFirstOf (main_faults (is_main text) (out-Declared name).place (out-CType (n.ctype head.result))) of_main)
      → ((faults others : List Fault) → IsFirstOf faults bodied → IsFirstOf others of_main → IsFirstOf (faults ++ others) later)
      → ((faults others : List Fault) → IsFirstOf faults named → IsFirstOf others later → IsFirstOf (faults ++ others) first)
      → (n : Numbering) → Agrees n context → IsHeadJudged n context head name params types first
  head_judged text other again array struct before found least_found item here there named bodied of_main later first
      called asks before_is again_is found_is least_is array_told item_meant is_here is_there joins struct_is is_bodied is_main_there joins_later joins_all n agrees =
      let parts = out-Declared name in
      let told : List Parameter = map (parameter_at n) params in
      let of_all : found ≡ least head.found (found_of_all told) = found_is ∙ ap (least head.found) (least_is n) in
      let so_far : definition_at before ≡ definition_at (definition_by_now (value_in parts.name context.environment.linked)) =
      ap definition_at before_is ∙ ap (λ (called_so : List ℕ). definition_at (definition_by_now (value_in called_so context.environment.linked))) called in
      let broken_again : again ≡ (other || is_twice (definition_at (definition_by_now (value_in parts.name context.environment.linked))) (definition_of_head head.bodied)) =
      again_is ∙ ap (λ (d : Definition). other || is_twice d (definition_of_head head.bodied)) so_far in
      let returned : array ≡ is_array (kind_of context.structs (n.ctype head.result)) =
      array_told ∙ (there_alike n.ctype item ∙ (ap is_some (item_meant n agrees) ∙ array_is (kind_of context.structs (n.ctype head.result)))) in
      let front : function_name_faults parts.place found (is_typedef head.storage) again array
      ≡ function_name_faults parts.place (least head.found (found_of_all told)) (is_typedef head.storage)
      (other || is_twice (definition_at (definition_by_now (value_in parts.name context.environment.linked))) (definition_of_head head.bodied)) (is_array (kind_of context.structs (n.ctype head.result))) =
      λ i. function_name_faults parts.place (of_all i) (is_typedef head.storage) (broken_again i) (returned i) in
      let struct_there = subst (λ (s : Bool). IsFirstOf (body_faults head.bodied parts.place s) bodied) (struct_is n agrees) is_bodied in
      let main_here = subst (λ (called_so : List ℕ). IsFirstOf (main_faults (is_main called_so) parts.place (out-CType (n.ctype head.result))) of_main) called (is_main_there n agrees) in
      record {
        other = other;
        is_other = subst (λ (called_so : List ℕ). IsAgain (option_map (name_here_at n) (found_here called_so (left context.environment.names))) (option_and_then (linked_at n) (value_in called_so context.environment.linked))
            (LinkedGiven (FunctionLinked (n.ctype head.result) (map n.ctype types))) other) called (asks n agrees);
        broken = joins_all _ _ (joins _ _ (subst (λ (faults : List Fault). IsFirstOf faults here) front is_here) (is_there n)) (joins_later _ _ struct_there main_here);
      }

-- the head that code makes of what stands in front of it
abbrev pub head_of : Bool → Storage → NamedByNumber → ℕ → Head
head_of bodied storage base number = record { bodied = bodied; storage = storage; found = base.found; result = number }

-- the same in the language of a context in which only types get numbers
module _ (abi : Abi) (bodied : Bool) (storage : Storage) (base : NamedByNumber) (name : DeclaredName) (params : List ParameterByNumber) (old mid : Context) (number : ℕ) (types : List ℕ)
    (listed : types ≡ numbers_of params) (numbers : Numbers (λ n. with_stars (out-Declared name).stars (n.ctype base.ctype)) old mid number) where
  pub asked_by : (slice : List ℕ) (first : Option Fault) (n : Numbering) → Agrees n mid → slice ≡ types → IsHeadJudged n mid (head_of bodied storage base number) name params slice first
      → HeadAsked abi bodied storage base name params n (declared old) first
  asked_by slice first n agrees same judged =
      let parts = out-Declared name in
      let told : List Parameter = map (parameter_at n) params in
      let env : mid.environment ≡ old.environment = numbers.only_types.environment in
      let result : n.ctype number ≡ with_stars parts.stars (n.ctype base.ctype) = numbers.meant n agrees in
      let params_meant : map n.ctype slice ≡ map (λ (param : Parameter). param.ctype) told = ap (map n.ctype) (same ∙ listed) ∙ types_meant n params in
      let function_is : FunctionLinked (n.ctype number) (map n.ctype slice) ≡ function_given parts (named_at n base) told = λ i. FunctionLinked (result i) (params_meant i) in
      let faults : faults_of_head n mid (head_of bodied storage base number) name params judged.other ≡ head_faults (language abi n) (file_scope abi n) bodied storage (named_at n base) parts told judged.other (declared old) =
      λ i. (function_name_faults parts.place (least base.found (found_of_all told)) (is_typedef storage)
      (judged.other || is_twice (definition_at (definition_by_now (value_in parts.name (env i).linked))) (definition_of_head bodied))
      (is_array (kind_of (numbers.only_types.structs i) (result i)))
      ++ faults_of_all told)
      ++ (body_faults bodied parts.place (has_struct (numbers.only_types.structs i) (result i) told) ++ main_faults (is_main parts.name) parts.place (out-CType (result i))) in
      record {
        other = judged.other;
        is_other = subst (λ (now : Linked). IsAgain (option_map (name_here_at n) (found_here parts.name (left old.environment.names))) (option_and_then (linked_at n) (value_in parts.name old.environment.linked)) (LinkedGiven now) judged.other) function_is
            (subst (λ (e : Environment). IsAgain (option_map (name_here_at n) (found_here parts.name (left e.names))) (option_and_then (linked_at n) (value_in parts.name e.linked))
            (LinkedGiven (FunctionLinked (n.ctype number) (map n.ctype slice))) judged.other) env judged.is_other);
        broken = subst (λ (these : List Fault). IsFirstOf these first) faults judged.broken;
      }
