-- What is refused at the names of declarations, of members and of parameters, at sizes, at values and at words of types.
use Rattle.std.proofs.Common.{◌≡◌, ℕ, Bool, true, false, List, [], ◌∷◌, Option, Some, None, lit≤, subst}
use Rattle.std.specs.List.{AllByRecursion}
use Rattle.std.specs.Prelude.{◌&&◌, not, nat_eq, if◌then◌else◌}
use Rattle.cbase.specs.declared.abi.Abi.{Abi}
use Rattle.cbase.specs.declared.ctype.CType.{CType}
use Rattle.cbase.specs.declared.ctype.CType.TheVariants.{Array as ArrayType}
use Rattle.cbase.specs.declared.place.Place.{Place}
use Rattle.cbase.specs.declared.structs.StructDef.{StructDef}
use Rattle.cbase.specs.declared.tree.decl.Declared.{Declared}
use Rattle.cbase.specs.declared.tree.decl.Storage.{Storage}
use Rattle.cbase.specs.declared.tree.decl.Storage.TheVariants.{Plain}
use Rattle.cbase.specs.declared.tree.expr.Expr.{Expr}
use Rattle.cbase.specs.declared.tree.expr.ExprForm.TheOpen.{Struct as StructWords, Eval}
use Rattle.cbase.specs.declared.tree.identifier.Identifier.{Identifier}
use Rattle.cbase.specs.Offset.{index_of}
use Rattle.typing.specs.declared.ctypes.found.Broken.{Broken}
use Rattle.typing.specs.declared.ctypes.found.Broken.TheVariants.{Construct, Rule}
use Rattle.typing.specs.ctypes.Binary.{is_scalar}
use Rattle.typing.specs.ctypes.Converting.{converts}
use Rattle.typing.specs.ctypes.Kinds.{Kind, Integer, Pointer, Array, Struct, Void, kind_of, decayed}
use Rattle.typing.specs.declared.fault.Fault.{Fault}
use Rattle.typing.specs.declared.size.Size.{Size}
use Rattle.typing.specs.declared.size.Size.TheVariants.{Counted, NotConstant, LeftOut}
use Rattle.typing.specs.Braces.{Opening, Opens, IsTwice, tagged_struct, struct_opening, tagged_enum, enum_opening, fixed_size, width_found, member_faults}
use Rattle.typing.specs.Calls.{is_struct}
use Rattle.typing.specs.Declarations.{Given, Parameter, tag_alone, alone_by, alone, found_in_sizes, if_large, found_of_name, name_faults, initialised, told_faults, if_incomplete, parameter_found, parameter_faults, parameter, with_parameter, found_of_all, faults_of_all, function_name_faults, faults_of_function}
use Rattle.typing.specs.Entities.{Entity, ObjectIs, FunctionIs, EnumeratorIs, TypedefIs, TagHere, StructHere, EnumHere}
use Rattle.typing.specs.Faults.{fault, least}
use Rattle.typing.specs.Forms.{Words, Clause, DeclaratorParts, ParameterParts, value_in}
use Rattle.typing.specs.Initialisers.{Slot, Subject, Filled, One, Members, Items, NoMember, at_index, at_member, next_in, slot_at, ended, stored}
use Rattle.typing.specs.Known.{Known}
use Rattle.typing.specs.Language.{Language}
use Rattle.typing.specs.NamedTypes.{NamedType, typedef_of, found_of_size, found_of_sizes, is_large, declared}
use Rattle.typing.specs.Outcomes.{Outcome, Handed, Passes, Refused}
use Rattle.typing.specs.Statements.{Demand, Condition, Dropped, Returned, Stored, Surplus, parts_in, result_faults, stored_faults, faults_of_value, return_faults, is_void, without_value, is_test_of_pointer}
use Rattle.ccheck.proofs.Holding.{Holds, NameHolds, DemandHolds, AnExpression, SomeWords, PartsOfStatement, struct_tag, first_part, value_in_part}
use Rattle.ccheck.proofs.Refusing.{FoundIsNumbered, least_numbered, FaultHolds, FaultsHold, Answers, Refuses, join, hold_unless, hold_all_at}

-- what is found of types has a number
pub typedef_numbered : (entity : Option Entity) → FoundIsNumbered (typedef_of entity).found
typedef_numbered None = (lit≤ tt, lit≤ tt)
typedef_numbered (Some (ObjectIs object)) = (lit≤ tt, lit≤ tt)
typedef_numbered (Some (FunctionIs function)) = (lit≤ tt, lit≤ tt)
typedef_numbered (Some (EnumeratorIs value)) = (lit≤ tt, lit≤ tt)
typedef_numbered (Some (TypedefIs None)) = (lit≤ tt, lit≤ tt)
typedef_numbered (Some (TypedefIs (Some t))) = tt

size_numbered : (size : Size) → FoundIsNumbered (found_of_size size)
size_numbered (Counted count) = tt
size_numbered NotConstant = (lit≤ tt, lit≤ tt)
size_numbered LeftOut = (lit≤ tt, lit≤ tt)

sizes_numbered : (sizes : List Size) → FoundIsNumbered (found_of_sizes sizes)
sizes_numbered [] = tt
sizes_numbered (size ∷ sizes) = least_numbered (found_of_size size) (found_of_sizes sizes) (size_numbered size) (sizes_numbered sizes)

large_if : (large : Bool) → FoundIsNumbered (if large then Some (Construct 19) else None)
large_if true = (lit≤ tt, lit≤ tt)
large_if false = tt

pub declared_numbered : (base : NamedType) (stars : ℕ) (sizes : List Size) (large : Bool) → FoundIsNumbered base.found → FoundIsNumbered (declared base stars sizes large).found
declared_numbered base stars sizes large is =
    least_numbered base.found _ is (least_numbered (found_of_sizes sizes) _ (sizes_numbered sizes) (large_if large))

sizes_in_numbered : (sizes : List Size) → FoundIsNumbered (found_in_sizes sizes)
sizes_in_numbered [] = tt
sizes_in_numbered (LeftOut ∷ sizes) = sizes_numbered sizes
sizes_in_numbered (Counted count ∷ sizes) = sizes_numbered (Counted count ∷ sizes)
sizes_in_numbered (NotConstant ∷ sizes) = sizes_numbered (NotConstant ∷ sizes)

large_numbered : (large : Bool) → FoundIsNumbered (if_large large)
large_numbered true = (lit≤ tt, lit≤ tt)
large_numbered false = tt

pub name_numbered : (base : NamedType) (sizes : List Size) (large : Bool) → FoundIsNumbered base.found → FoundIsNumbered (found_of_name base sizes large)
name_numbered base sizes large is =
    least_numbered base.found _ is (least_numbered (found_in_sizes sizes) (if_large large) (sizes_in_numbered sizes) (large_numbered large))

incomplete_numbered : (incomplete : Bool) → FoundIsNumbered (if_incomplete incomplete)
incomplete_numbered true = (lit≤ tt, lit≤ tt)
incomplete_numbered false = tt

parameter_numbered : (name : Option Identifier) (found : Option Broken) (incomplete : Bool) → FoundIsNumbered found → FoundIsNumbered (parameter_found name found incomplete)
parameter_numbered None found incomplete is = least_numbered found (if_incomplete incomplete) is (incomplete_numbered incomplete)
parameter_numbered (Some name) found incomplete is = is

none_is_some : {A : Type 0} (value : A) → ◌≡◌ {A = Option A} None (Some value) → ⊥
none_is_some value e = cc e

some_alike : {A : Type 0} (one other : A) → ◌≡◌ {A = Option A} (Some one) (Some other) → one ≡ other
some_alike one other e = cc e

twice_alike : {A : Type 0} (one other : Fault) → ◌≡◌ {A = Opening A} (IsTwice one) (IsTwice other) → one ≡ other
twice_alike one other e = cc e

opens_twice : {A : Type 0} (one : A) (other : Fault) → ◌≡◌ {A = Opening A} (Opens one) (IsTwice other) → ⊥
opens_twice one other e = cc e

module _ (P : Place → Type 0) where
  -- a parameter that passes
  abbrev pub ParameterHolds : Parameter → Type 0
  ParameterHolds told = FoundIsNumbered told.found × FaultsHold P told.faults

  abbrev pub ParametersHold : List Parameter → Type 0
  ParametersHold told = AllByRecursion ParameterHolds told

  pub hold_without : {A : Type 0} (Q : A → Type 0) (outcome : Outcome A) → Answers P Q outcome → Refuses P (without_value outcome)
  hold_without Q (Passes told handed) is = tt
  hold_without Q (Refused first) is = is

  pub hold_width : {A : Type 0} (Q : A → Type 0) (outcome : Outcome A) → Answers P Q outcome → Refuses P (width_found outcome)
  hold_width Q (Passes told handed) is = tt
  hold_width Q (Refused first) is = is

  pub hold_with_parameter : (told : Parameter) (handed : List Handed) (outcome : Outcome (List Parameter)) → ParameterHolds told → Answers P ParametersHold outcome
      → Answers P ParametersHold (with_parameter told handed outcome)
  hold_with_parameter told handed (Passes others further) is all = (is, all)
  hold_with_parameter told handed (Refused first) is broken = broken

  pub hold_initialised : (place : Place) (gives : Given) (zeroed : Bool) (outcome : Outcome (Unit {0})) → Refuses P outcome → Refuses P (initialised place gives zeroed outcome)
  hold_initialised place gives zeroed (Passes told handed) is = tt
  hold_initialised place gives zeroed (Refused first) is = is

  pub hold_stored : (subject : Subject) (slot : Slot) (number : ℕ) (outcome : Outcome (Unit {0})) → Refuses P outcome → Refuses P (stored subject slot number outcome)
  hold_stored subject slot number (Passes told handed) is = tt
  hold_stored subject slot number (Refused first) is = is

  -- statements
  pub hold_return : (structs : List StructDef) (word : Place) (result : Option CType) → P word → FaultsHold P (return_faults structs word result)
  hold_return structs word None at = ((at, (lit≤ tt, lit≤ tt)), tt)
  hold_return structs word (Some t) at = hold_unless P (is_void (kind_of structs t)) word (Rule 11) at (lit≤ tt, lit≤ tt)

  hold_result : (word place : Place) (to from : Kind) (null : Bool) → P word → P place → FaultsHold P (result_faults word place to from null)
  hold_result word place Void from null at value = ((at, (lit≤ tt, lit≤ tt)), tt)
  hold_result word place (Integer t) from null at value = hold_unless P (converts (Integer t) from null) place (Rule 5) value (lit≤ tt, lit≤ tt)
  hold_result word place (Pointer item target) from null at value = hold_unless P (converts (Pointer item target) from null) place (Rule 5) value (lit≤ tt, lit≤ tt)
  hold_result word place (Array item target) from null at value = hold_unless P (converts (Array item target) from null) place (Rule 5) value (lit≤ tt, lit≤ tt)
  hold_result word place (Struct number) from null at value = hold_unless P (converts (Struct number) from null) place (Rule 5) value (lit≤ tt, lit≤ tt)

  stored_hold : (fixed constant : Bool) (place : Place) (converted : Bool) → P place → FaultsHold P (stored_faults fixed constant place converted)
  stored_hold false constant place converted at = hold_unless P converted place (Rule 5) at (lit≤ tt, lit≤ tt)
  stored_hold true constant place converted at =
      join P _ _ (hold_unless P converted place (Rule 5) at (lit≤ tt, lit≤ tt)) (hold_unless P constant place (Rule 9) at (lit≤ tt, lit≤ tt))

  pub hold_value : (structs : List StructDef) (demand : Demand) (constant : Bool) (place : Place) (known : Known) → DemandHolds P demand → P place
      → FaultsHold P (faults_of_value structs demand constant place known)
  hold_value structs Condition constant place known asked at = hold_unless P (is_scalar (kind_of structs known.ctype)) place (Rule 4) at (lit≤ tt, lit≤ tt)
  hold_value structs Dropped constant place known asked at = hold_unless P (not (is_struct (kind_of structs known.ctype))) place (Rule 4) at (lit≤ tt, lit≤ tt)
  hold_value structs (Returned word None) constant place known asked at = ((asked, (lit≤ tt, lit≤ tt)), tt)
  hold_value structs (Returned word (Some t)) constant place known asked at =
      hold_result word place (kind_of structs t) (decayed (kind_of structs known.ctype)) known.null asked at
  hold_value structs (Stored fixed t) constant place known asked at =
      stored_hold fixed (constant && not (is_test_of_pointer (kind_of structs t) (decayed (kind_of structs known.ctype)))) place
      (converts (kind_of structs t) (decayed (kind_of structs known.ctype)) known.null) at
  hold_value structs Surplus constant place known asked at = ((at, (lit≤ tt, lit≤ tt)), tt)

  -- the value of a statement that is an expression
  pub last_value : (place : Place) (clause : Clause) (expr : Expr) → value_in clause ≡ Some expr → Holds P (PartsOfStatement (parts_in place clause)) → Holds P (AnExpression expr)
  last_value place (Eval (Some value)) expr e holds =
      subst (λ (x : Expr). Holds P (AnExpression x)) (some_alike value expr e) (value_in_part P (first_part P holds))
  last_value place (Eval None) expr e holds = absurd (none_is_some expr e)
  last_value place other expr e holds = absurd (none_is_some expr e)

  -- tags
  pub hold_tag_alone : (storage : Storage) (words : Words) (names : List Declared) (name : Identifier) → tag_alone storage words names ≡ Some name → Holds P (SomeWords words)
      → P name.place
  hold_tag_alone Plain (StructWords tag None) [] name e holds = subst (NameHolds P) e (struct_tag P holds)
  hold_tag_alone storage words names name e holds = absurd (none_is_some name e)

  alone_twice : (l : Language) (name : Identifier) (env : l.Environment) (here : Option TagHere) (first : Fault) → alone_by l name env here ≡ IsTwice first → P name.place
      → FaultHolds P first
  alone_twice l name env None first e at = absurd (opens_twice _ first e)
  alone_twice l name env (Some (StructHere number listed)) first e at = absurd (opens_twice _ first e)
  alone_twice l name env (Some (EnumHere listed)) first e at =
      subst (FaultHolds P) (twice_alike (fault name.place (Rule 2)) first e) (at, (lit≤ tt, lit≤ tt))

  pub hold_alone : (l : Language) (name : Identifier) (env : l.Environment) (first : Fault) → alone l name env ≡ IsTwice first → P name.place → FaultHolds P first
  hold_alone l name env first e at = alone_twice l name env (l.tag_here name.name env) first e at

  struct_twice : (l : Language) (name : Identifier) (env : l.Environment) (here : Option TagHere) (first : Fault) → tagged_struct l name env here ≡ IsTwice first → P name.place
      → FaultHolds P first
  struct_twice l name env None first e at = absurd (opens_twice _ first e)
  struct_twice l name env (Some (StructHere number true)) first e at =
      subst (FaultHolds P) (twice_alike (fault name.place (Rule 2)) first e) (at, (lit≤ tt, lit≤ tt))
  struct_twice l name env (Some (StructHere number false)) first e at = absurd (opens_twice _ first e)
  struct_twice l name env (Some (EnumHere listed)) first e at =
      subst (FaultHolds P) (twice_alike (fault name.place (Rule 2)) first e) (at, (lit≤ tt, lit≤ tt))

  pub hold_struct_twice : (l : Language) (name : Option Identifier) (env : l.Environment) (first : Fault) → struct_opening l name env ≡ IsTwice first → NameHolds P name
      → FaultHolds P first
  hold_struct_twice l None env first e at = absurd (opens_twice _ first e)
  hold_struct_twice l (Some name) env first e at = struct_twice l name env (l.tag_here name.name env) first e at

  enum_twice : (l : Language) (name : Identifier) (env : l.Environment) (here : Option TagHere) (first : Fault) → tagged_enum l name env here ≡ IsTwice first → P name.place
      → FaultHolds P first
  enum_twice l name env None first e at = absurd (opens_twice _ first e)
  enum_twice l name env (Some (StructHere number listed)) first e at =
      subst (FaultHolds P) (twice_alike (fault name.place (Rule 2)) first e) (at, (lit≤ tt, lit≤ tt))
  enum_twice l name env (Some (EnumHere true)) first e at =
      subst (FaultHolds P) (twice_alike (fault name.place (Rule 2)) first e) (at, (lit≤ tt, lit≤ tt))
  enum_twice l name env (Some (EnumHere false)) first e at = absurd (opens_twice _ first e)

  pub hold_enum_twice : (l : Language) (name : Option Identifier) (env : l.Environment) (first : Fault) → enum_opening l name env ≡ IsTwice first → NameHolds P name
      → FaultHolds P first
  hold_enum_twice l None env first e at = absurd (opens_twice _ first e)
  hold_enum_twice l (Some name) env first e at = enum_twice l name env (l.tag_here name.name env) first e at

  -- names of objects, of functions and of members
  pub hold_name : (place : Place) (found : Option Broken) (again complete : Bool) → P place → FoundIsNumbered found → FaultsHold P (name_faults place found again complete)
  hold_name place found again complete at is =
      join P _ _ (hold_all_at P place found at is)
      (join P _ _ (hold_unless P (not again) place (Rule 2) at (lit≤ tt, lit≤ tt)) (hold_unless P complete place (Rule 3) at (lit≤ tt, lit≤ tt)))

  pub hold_told : (abi : Abi) (structs : List StructDef) (place : Place) (item : CType) (count : ℕ) → P place → FaultsHold P (told_faults abi structs place item count)
  hold_told abi structs place item count at =
      join P _ _ (hold_unless P (not (is_large abi structs (ArrayType item count))) place (Construct 19) at (lit≤ tt, lit≤ tt))
      (hold_unless P (not (nat_eq count 0)) place (Rule 9) at (lit≤ tt, lit≤ tt))

  hold_parameter_faults : (name : Option Identifier) (incomplete again : Bool) → NameHolds P name → FaultsHold P (parameter_faults name incomplete again)
  hold_parameter_faults None incomplete again at = tt
  hold_parameter_faults (Some name) incomplete again at =
      join P _ _ (hold_unless P (not again) name.place (Rule 2) at (lit≤ tt, lit≤ tt)) (hold_unless P (not incomplete) name.place (Rule 3) at (lit≤ tt, lit≤ tt))

  pub hold_parameter : (abi : Abi) (structs : List StructDef) (base : NamedType) (parts : ParameterParts) (counts : List Size) (again : Bool)
      → FoundIsNumbered base.found → NameHolds P parts.name → ParameterHolds (parameter abi structs base parts counts again)
  hold_parameter abi structs base parts counts again is named =
      (parameter_numbered parts.name _ _ (name_numbered base counts _ is), hold_parameter_faults parts.name _ again named)

  all_found : (told : List Parameter) → ParametersHold told → FoundIsNumbered (found_of_all told)
  all_found [] all = tt
  all_found (param ∷ params) all = least_numbered param.found (found_of_all params) all.0.0 (all_found params all.1)

  all_faults : (told : List Parameter) → ParametersHold told → FaultsHold P (faults_of_all told)
  all_faults [] all = tt
  all_faults (param ∷ params) all = join P param.faults (faults_of_all params) all.0.1 (all_faults params all.1)

  hold_function_name : (place : Place) (found : Option Broken) (typedef again array : Bool) → P place → FoundIsNumbered found
      → FaultsHold P (function_name_faults place found typedef again array)
  hold_function_name place found typedef again array at is =
      join P _ _ (hold_all_at P place found at is)
      (join P _ _ (hold_unless P (not typedef) place (Construct 20) at (lit≤ tt, lit≤ tt))
      (join P _ _ (hold_unless P (not again) place (Rule 2) at (lit≤ tt, lit≤ tt)) (hold_unless P (not array) place (Rule 4) at (lit≤ tt, lit≤ tt))))

  pub hold_function : (structs : List StructDef) (storage : Storage) (parts : DeclaratorParts) (base : NamedType) (told : List Parameter) (again : Bool)
      → P parts.place → FoundIsNumbered base.found → ParametersHold told → FaultsHold P (faults_of_function structs storage parts base told again)
  hold_function structs storage parts base told again at is all =
      join P _ _ (hold_function_name parts.place (least base.found (found_of_all told)) _ again _ at (least_numbered base.found (found_of_all told) is (all_found told all)))
      (all_faults told all)

  pub hold_member : (place : Place) (found : Option Broken) (of_bits large twice sized : Bool) → P place → FoundIsNumbered found
      → FaultsHold P (member_faults place found of_bits large twice sized)
  hold_member place found of_bits large twice sized at is =
      join P _ _ (hold_all_at P place found at is)
      (join P _ _ (hold_unless P (not of_bits) place (Construct 21) at (lit≤ tt, lit≤ tt))
      (join P _ _ (hold_unless P (not large) place (Construct 19) at (lit≤ tt, lit≤ tt))
      (join P _ _ (hold_unless P (not twice) place (Rule 2) at (lit≤ tt, lit≤ tt)) (hold_unless P sized place (Rule 3) at (lit≤ tt, lit≤ tt)))))

  pub hold_fixed : (place : Place) (size : Size) (handed : List Handed) → P place → Refuses P (fixed_size place size handed)
  hold_fixed place (Counted count) handed at = tt
  hold_fixed place NotConstant handed at = (at, (lit≤ tt, lit≤ tt))
  hold_fixed place LeftOut handed at = tt

  -- initialisers
  ended_if : (test : Bool) (place : Place) → P place → Refuses P {A = Unit {0}} (if test then Refused (fault place (Rule 5)) else Passes tt [])
  ended_if true place at = (at, (lit≤ tt, lit≤ tt))
  ended_if false place at = tt

  pub hold_ended : (place : Place) (filled : Filled) (index : ℕ) → P place → Refuses P (ended place filled index)
  hold_ended place (One slot) index at = ended_if (nat_eq index 0) place at
  hold_ended place (Members offset fields) index at = tt
  hold_ended place (Items offset item count bytes) index at = tt

  named_alike : (one other : Place) → NoMember one ≡ NoMember other → one ≡ other
  named_alike one other e = cc e

  at_index_named : (index : ℕ) (slot : Option Slot) (place : Place) → at_index index slot ≡ NoMember place → ⊥
  at_index_named index None place e = cc e
  at_index_named index (Some slot) place e = cc e

  at_member_named : (abi : Abi) (structs : List StructDef) (filled : Filled) (name : Place) (index : Option ℕ) (place : Place)
      → at_member abi structs filled name index ≡ NoMember place → P name → P place
  at_member_named abi structs filled name None place e at = subst P (named_alike name place e) at
  at_member_named abi structs filled name (Some index) place e at = absurd (at_index_named index (slot_at abi structs filled index) place e)

  pub hold_next : (abi : Abi) (structs : List StructDef) (filled : Filled) (index : ℕ) (member : Option Identifier) (place : Place)
      → next_in abi structs filled index member ≡ NoMember place → NameHolds P member → P place
  hold_next abi structs filled index None place e at = absurd (at_index_named index (slot_at abi structs filled index) place e)
  hold_next abi structs (One slot) index (Some name) place e at = subst P (named_alike name.place place e) at
  hold_next abi structs (Items offset item count bytes) index (Some name) place e at = subst P (named_alike name.place place e) at
  hold_next abi structs (Members offset fields) index (Some name) place e at =
      at_member_named abi structs (Members offset fields) name.place (index_of name.name fields) place e at
