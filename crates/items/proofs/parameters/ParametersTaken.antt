-- What a parameter is by its type and its sizes, and what declares it.
use Rattle.std.proofs.Common.{◌≡◌, ◌<◌, ℕ, Bool, true, List, [], ◌∷◌, Option, None, Some, length, refl, sym, ap, ◌∙◌, arith, subst}
use Rattle.std.specs.Prelude.{is_some, option_map}
use Rattle.cbase.specs.declared.abi.Abi.{Abi}
use Rattle.cbase.specs.declared.ctype.CType.{CType}
use Rattle.cbase.specs.declared.place.Place.{Place}
use Rattle.cbase.specs.declared.tree.decl.Param.{Param}
use Rattle.cbase.specs.declared.tree.expr.ExprForm.TheViews.{out-Param}
use Rattle.cbase.specs.declared.tree.identifier.Identifier.{Identifier}
use Rattle.typing.specs.declared.environment.entity.DeclaredType.TheVariants.{Whole}
use Rattle.typing.specs.declared.environment.entity.Entity.TheVariants.{Object}
use Rattle.typing.specs.declared.environment.entity.Lifetime.TheVariants.{Automatic}
use Rattle.typing.specs.environment.Linkage.{own_declared}
use Rattle.typing.specs.environment.Scopes.{found_here}
use Rattle.typing.specs.declared.ctypes.found.Broken.{Broken}
use Rattle.typing.specs.ctypes.Kinds.{kind_of}
use Rattle.typing.specs.declared.size.Size.{Size}
use Rattle.typing.specs.Declarations.{asked_type, found_of_name, parameter_type, parameter_declared, parameter_faults, parameter_found, is_named_here}
use Rattle.typing.specs.Known.{value_type}
use Rattle.typing.specs.NamedTypes.{NamedType, declared_type, is_large, with_sizes, with_stars}
use Rattle.typing.specs.Statements.{is_void}
use Rattle.expressions.specs.declared.named_type.NamedType.{NamedType as NamedByNumber}
use Rattle.expressions.specs.Context.{Context, Declared, declared, Agrees, Grows, OnlyTypes}
use Rattle.expressions.specs.Language.{language}
use Rattle.expressions.specs.Numbers.{Numbering, named_at, name_here_at}
use Rattle.expressions.specs.Operated.{Numbers}
use Rattle.expressions.proofs.Growth.{agrees_before, agrees_before_types, grows_same, grows_trans, number_back, only_types_grows, only_types_trans}
use Rattle.expressions.proofs.TypeWords.{declared_by_types}
use Rattle.items.specs.declared.parameters.parameter.Parameter.{Parameter as ParameterByNumber}
use Rattle.items.specs.parameters.Parameters.{faults_at}
use Rattle.items.specs.parameters.Taken.{behind_first, is_here, object_named, place_in, IsParameter, IsTaken}

-- what is asked whether it is large
asked_is : (base : NamedType) (stars : ℕ) (sizes : List Size) → with_sizes (behind_first sizes) (with_stars stars base.ctype) ≡ asked_type base stars sizes
asked_is base stars [] = refl
asked_is base stars (size ∷ sizes) = refl

-- what is broken at a name, by its place
faults_are : (name : Option Identifier) (incomplete again : Bool) → faults_at (place_in name) again incomplete ≡ parameter_faults name incomplete again
faults_are None incomplete again = refl
faults_are (Some name) incomplete again = refl

pub there_alike : {A B : Type 0} (f : A → B) (found : Option A) → is_some found ≡ is_some (option_map f found)
there_alike f None = refl
there_alike f (Some item) = refl

-- whether the scope has the name
here_is : (abi : Abi) (n : Numbering) (name : Option Identifier) (before : Declared) → is_here name before.environment ≡ is_named_here (language abi n) name before
here_is abi n None before = refl
here_is abi n (Some name) before = there_alike (name_here_at n) (found_here name.name before.environment.names)

pub parameter_is : (abi : Abi) (param : Param) (base : NamedByNumber) (sizes behind_it : List Size) (old first second third new : Context) (pointer asked whole ctype : ℕ)
    (large incomplete again : Bool) (found least_found : Option Broken) (place : Option Place)
    → behind_it ≡ behind_first sizes
    → Numbers (λ n. with_stars (out-Param param).stars (n.ctype base.ctype)) old first pointer
    → Numbers (λ n. with_sizes behind_it (n.ctype pointer)) first second asked
    → Numbers (λ n. with_sizes sizes (n.ctype pointer)) second third whole
    → Numbers (λ n. value_type (kind_of third.structs (n.ctype whole)) (n.ctype whole)) third new ctype
    → ((n : Numbering) → Agrees n new → incomplete ≡ is_void (kind_of new.structs (n.ctype whole)))
    → ((n : Numbering) → Agrees n new → large ≡ is_large abi new.structs (n.ctype asked))
    → ((n : Numbering) → least_found ≡ found_of_name (named_at n base) sizes large)
    → found ≡ parameter_found (out-Param param).name least_found incomplete
    → place ≡ place_in (out-Param param).name
    → again ≡ is_here (out-Param param).name new.environment
    → IsParameter abi param base sizes old new (record { ctype = ctype; found = found; place = place; again = again; incomplete = incomplete })
parameter_is abi param base sizes behind_it old first second third new pointer asked whole ctype large incomplete again found least_found place
    behind stars items all value void size least_is found_is place_is again_is =
    let two : OnlyTypes old second = only_types_trans old first second stars.only_types items.only_types in
    let three : OnlyTypes old third = only_types_trans old second third two all.only_types in
    let four : OnlyTypes old new = only_types_trans old third new three value.only_types in
    let name = (out-Param param).name in
    let count = (out-Param param).stars in
    record {
      only_types = four;
      below = value.below;
      meant = λ n agrees.
          let at_third : Agrees n third = agrees_before_types third new n value.only_types agrees in
          let at_second : Agrees n second = agrees_before_types second third n all.only_types at_third in
          let at_first : Agrees n first = agrees_before_types first second n items.only_types at_second in
          let named : NamedType = named_at n base in
          let pointed : n.ctype pointer ≡ with_stars count named.ctype = stars.meant n at_first in
          let asked_of : n.ctype asked ≡ asked_type named count sizes =
          items.meant n at_second ∙ ((λ i. with_sizes (behind i) (pointed i)) ∙ asked_is named count sizes) in
          let typed : n.ctype whole ≡ declared_type named count sizes = all.meant n at_third ∙ ap (with_sizes sizes) pointed in
          let valued : n.ctype ctype ≡ parameter_type old.structs named count sizes =
          value.meant n agrees ∙ (λ i. value_type (kind_of (three.structs i) (typed i)) (typed i)) in
          let no_value : incomplete ≡ is_void (kind_of old.structs (declared_type named count sizes)) = void n agrees ∙ (λ i. is_void (kind_of (four.structs i) (typed i))) in
          let large_is : large ≡ is_large abi old.structs (asked_type named count sizes) = size n agrees ∙ (λ i. is_large abi (four.structs i) (asked_of i)) in
          let least_of : least_found ≡ found_of_name named sizes (is_large abi old.structs (asked_type named count sizes)) = least_is n ∙ ap (found_of_name named sizes) large_is in
          let found_of : found ≡ parameter_found name (found_of_name named sizes (is_large abi old.structs (asked_type named count sizes))) (is_void (kind_of old.structs (declared_type named count sizes))) =
          found_is ∙ (λ i. parameter_found name (least_of i) (no_value i)) in
          let here : again ≡ is_named_here (language abi n) name (declared old) =
          again_is ∙ (ap (is_here name) four.environment ∙ here_is abi n name (declared old)) in
          let faults : faults_at place again incomplete ≡ parameter_faults name (is_void (kind_of old.structs (declared_type named count sizes))) (is_named_here (language abi n) name (declared old)) =
          (λ i. faults_at (place_is i) (here i) (no_value i))
          ∙ faults_are name (is_void (kind_of old.structs (declared_type named count sizes))) (is_named_here (language abi n) name (declared old)) in
          λ i. record { ctype = valued i; found = found_of i; faults = faults i };
    }

-- an object that is declared, or none
object_grows : (name : Option Identifier) (ctype : ℕ) (context : Context) → Grows context (object_named name ctype context)
object_grows None ctype context = grows_same context
object_grows (Some name) ctype context = record {
  types = λ number t is. is;
  structs = λ number s is complete. is;
  longer = omega arith;
  signatures = λ number s is. is;
}

object_handed : (name : Option Identifier) (ctype : ℕ) (context : Context) → (object_named name ctype context).handed ≡ context.handed
object_handed None ctype context = refl
object_handed (Some name) ctype context = refl

object_types : (name : Option Identifier) (ctype : ℕ) (context : Context) → (object_named name ctype context).types ≡ context.types
object_types None ctype context = refl
object_types (Some name) ctype context = refl

object_meant : (abi : Abi) (n : Numbering) (name : Option Identifier) (ctype : ℕ) (old mid : Context) → n.number (n.ctype ctype) ≡ ctype → declared mid ≡ declared old
    → declared (object_named name ctype mid) ≡ parameter_declared (language abi n) name (n.ctype ctype) (declared old)
object_meant abi n None ctype old mid back same = same
object_meant abi n (Some name) ctype old mid back same =
    λ i. record { environment = own_declared name.name (Object (Whole (sym back i)) name.place.at Automatic true) (same i).environment; structs = (same i).structs }

pub parameter_taken : (abi : Abi) (param : Param) (base : NamedByNumber) (sizes : List Size) (old mid new : Context) (told : ParameterByNumber)
    → IsParameter abi param base sizes old mid told → new ≡ object_named (out-Param param).name told.ctype mid → IsTaken abi param base sizes old new told
parameter_taken abi param base sizes old mid new told is declares =
    let name = (out-Param param).name in
    let further : Grows mid new = subst (Grows mid) (sym declares) (object_grows name told.ctype mid) in
    record {
      grows = grows_trans old mid new (only_types_grows old mid is.only_types) further;
      handed = ap (λ (c : Context). c.handed) declares ∙ (object_handed name told.ctype mid ∙ is.only_types.handed);
      below = subst (λ (types : List CType). told.ctype < length types) (sym (ap (λ (c : Context). c.types) declares ∙ object_types name told.ctype mid)) is.below;
      meant = λ n agrees. is.meant n (agrees_before mid new n further agrees);
      declares = λ n agrees.
          let before : Agrees n mid = agrees_before mid new n further agrees in
          ap declared declares
          ∙ object_meant abi n name told.ctype old mid (number_back n mid told.ctype before is.below) (sym (declared_by_types old mid is.only_types));
    }
