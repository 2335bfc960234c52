-- What is refused at an expression itself, where its parts pass, is refused at it, at a part of it or at a name in it.
use Rattle.std.proofs.Common.{ℕ, suc, Bool, true, false, List, [], ◌∷◌, map, lit≤, subst}
use Rattle.std.specs.List.{AllByRecursion}
use Rattle.std.specs.Prelude.{◌||◌, not, codes, length, nat_eq, if◌then◌else◌}
use Rattle.std.specs.Str.{bytes_eq}
use Rattle.cbase.specs.declared.abi.Abi.{Abi}
use Rattle.cbase.specs.declared.ctype.CType.{CType}
use Rattle.cbase.specs.declared.measure.Extent.{Extent}
use Rattle.cbase.specs.declared.measure.Extent.TheVariants.{Bytes, Incomplete, TooLarge}
use Rattle.cbase.specs.declared.place.Place.{Place}
use Rattle.cbase.specs.declared.structs.StructDef.{StructDef}
use Rattle.cbase.specs.declared.tree.expr.Expr.{Expr}
use Rattle.cbase.specs.declared.tree.operators.UnaryOp.TheVariants.{Address, Follow}
use Rattle.typing.specs.declared.ctypes.binary.Group.TheVariants.{Arithmetic, Shift, Sum, Difference, Order, Equality, Logic, Sequence}
use Rattle.typing.specs.declared.ctypes.found.Broken.{Broken}
use Rattle.typing.specs.declared.ctypes.found.Broken.TheVariants.{Construct, Rule}
use Rattle.typing.specs.ctypes.Converting.{converts}
use Rattle.typing.specs.ctypes.Kinds.{Kind, decayed}
use Rattle.typing.specs.declared.fault.Fault.{Fault}
use Rattle.typing.specs.Calls.{Argument, lengths_of, is_length, has_struct, is_constant, inconstant_lengths, length_in, is_small, large_lengths, product, unconverted, length_faults, calls_main, call_faults}
use Rattle.typing.specs.Entities.{ObjectEntity, FunctionEntity}
use Rattle.typing.specs.Forms.{Form, Step}
use Rattle.typing.specs.Known.{Known}
use Rattle.typing.specs.Language.{Language}
use Rattle.typing.specs.Nodes.{object_faults, function_faults, place_of_member, size_faults, place_of_assignment}
use Rattle.typing.specs.Outcomes.{Outcome, Handed}
use Rattle.typing.specs.Paths.{Way, way_faults, first_fault, Leads, LeadsFrom, Arrives, ToMember, MemberTooFar, NoMember, ToItem, ItemTooLarge, NoItem, NoSteps, ToFirst, FirstTooFar, NoFirst, FromItem}
use Rattle.typing.specs.Pieces.{Loaded, pieces_in}
use Rattle.typing.specs.Rules.{AreArguments, NoArguments, MoreArguments, AtNode, UndeclaredName, TypeAsOperand, ObjectName, EnumeratorName, FunctionAsOperand, ConstantOfType, ConstantOfNoType, SpellingOfNoConstant, StatementExpression, AssertionFailed, Subscript, CallOfFunction, CallOfOther, MemberOfStruct, MemberOfPointed, Counting, AddressOf, Indirection, UnaryArithmetic, SizeOfExpression, SizeOfTypeName, OffsetOfMember, CastToType, ArithmeticOperator, AdditionOperator, SubtractionOperator, ShiftOperator, RelationalOperator, EqualityOperator, LogicalOperator, ConditionalOperator, Assignment, CompoundAssignment, CommaOperator}
use Rattle.typing.specs.Told.{Told, OperandIs, FunctionNamed, NoFunction, TypeIs, IndexIs, SizeIs, ValueIs}
use Rattle.ccheck.proofs.Numbered.{HasNumber}
use Rattle.ccheck.proofs.Holding.{Holds, NamesHold, WayHolds, Pieces, at_expression, first_piece, other_pieces}
use Rattle.ccheck.proofs.Numbered.{IsNumbered, operated_numbered, assigned_numbered, updated_numbered, chosen_numbered, unary_numbered, counted_numbered, cast_numbered, indexed_numbered, member_numbered, member_through_numbered}
use Rattle.ccheck.proofs.Refusing.{FoundIsNumbered, FaultHolds, FaultsHold, Refuses, join, hold_unless, hold_all_at, hold_faults_of, hold_first, hold_settled, hold_found, hold_if}

-- what is told of a part that passes: what is found of a type name has a number
abbrev pub ToldIsNumbered : Told → Type 0
ToldIsNumbered (OperandIs known) = Unit {0}
ToldIsNumbered (FunctionNamed name function) = Unit {0}
ToldIsNumbered NoFunction = Unit {0}
ToldIsNumbered (TypeIs named) = FoundIsNumbered named.found
ToldIsNumbered (IndexIs index) = Unit {0}
ToldIsNumbered (SizeIs size) = Unit {0}
ToldIsNumbered (ValueIs t) = Unit {0}

abbrev pub AllAreNumbered : List Told → Type 0
AllAreNumbered told = AllByRecursion ToldIsNumbered told

module _ (P : Place → Type 0) where
  -- names
  object_holds : (place : Place) (object : ObjectEntity) (sized : Bool) → P place → FaultsHold P (object_faults place object sized)
  object_holds place object sized at =
      join P _ _ (hold_unless P object.defined place (Construct 12) at (lit≤ tt, lit≤ tt))
      (join P _ _ (hold_unless P sized place (Rule 3) at (lit≤ tt, lit≤ tt)) (hold_unless P (not object.of_main) place (Rule 12) at (lit≤ tt, lit≤ tt)))

  pub function_holds : (place : Place) (function : FunctionEntity) → P place → FaultsHold P (function_faults place function)
  function_holds place function at = hold_unless P (function.defined || function.built_in) place (Construct 12) at (lit≤ tt, lit≤ tt)

  -- the arguments of a call
  ArgumentHolds : Argument → Type 0
  ArgumentHolds argument = P argument.place

  arguments_hold : {structs : List StructDef} {exprs : List Expr} {told : List Told} {arguments : List Argument} → AreArguments structs exprs told arguments
      → Holds P (Pieces (map Loaded exprs)) → AllByRecursion ArgumentHolds arguments
  unfolding ArgumentHolds
  arguments_hold NoArguments holds = tt
  arguments_hold (MoreArguments e rest) holds = (at_expression P (first_piece P holds), arguments_hold rest (other_pieces P holds))

  inconstant_hold : (lengths : List ℕ) (index : ℕ) (params : List Kind) (arguments : List Argument) → AllByRecursion ArgumentHolds arguments
      → FaultsHold P (inconstant_lengths lengths index params arguments)
  unfolding ArgumentHolds
  inconstant_hold lengths index [] arguments all = tt
  inconstant_hold lengths index (param ∷ params) [] all = tt
  inconstant_hold lengths index (param ∷ params) (argument ∷ arguments) all =
      join P _ _ (hold_unless P (not (is_length lengths index) || is_constant argument.value) argument.place (Construct 14) all.0 (lit≤ tt, lit≤ tt))
      (inconstant_hold lengths (suc index) params arguments all.1)

  large_hold : (lengths : List ℕ) (index : ℕ) (params : List Kind) (arguments : List Argument) → AllByRecursion ArgumentHolds arguments
      → FaultsHold P (large_lengths lengths index params arguments)
  unfolding ArgumentHolds
  large_hold lengths index [] arguments all = tt
  large_hold lengths index (param ∷ params) [] all = tt
  large_hold lengths index (param ∷ params) (argument ∷ arguments) all =
      join P _ _ (hold_unless P (not (is_length lengths index) || is_small (length_in param argument)) argument.place (Construct 19) all.0 (lit≤ tt, lit≤ tt))
      (large_hold lengths (suc index) params arguments all.1)

  product_if : (test : Bool) (faults : List Fault) → FaultsHold P faults → FaultsHold P (if test then faults else [])
  product_if true faults all = all
  product_if false faults all = tt

  lengths_hold : (built_in : Bool) (name : List ℕ) (place : Place) (params : List Kind) (arguments : List Argument) → P place → AllByRecursion ArgumentHolds arguments
      → FaultsHold P (length_faults built_in name place params arguments)
  lengths_hold false name place params arguments at all = tt
  lengths_hold true name place params arguments at all =
      join P _ _ (inconstant_hold (lengths_of name) 0 params arguments all)
      (join P _ _ (large_hold (lengths_of name) 0 params arguments all)
      (product_if (bytes_eq name (codes "calloc")) _ (hold_unless P (is_small (product params arguments)) place (Construct 19) at (lit≤ tt, lit≤ tt))))

  unconverted_hold : (params : List Kind) (arguments : List Argument) → AllByRecursion ArgumentHolds arguments → FaultsHold P (unconverted params arguments)
  unfolding ArgumentHolds
  unconverted_hold [] arguments all = tt
  unconverted_hold (param ∷ params) [] all = tt
  unconverted_hold (param ∷ params) (argument ∷ arguments) all =
      join P _ _ (hold_unless P (converts param (decayed argument.operand.kind) argument.operand.null) argument.place (Rule 5) all.0 (lit≤ tt, lit≤ tt))
      (unconverted_hold params arguments all.1)

  call_holds : (strict : Bool) (place callee : Place) (name : List ℕ) (built_in : Bool) (result : Kind) (params : List Kind) (arguments : List Argument)
      → P place → P callee → AllByRecursion ArgumentHolds arguments → FaultsHold P (call_faults strict place callee name built_in result params arguments)
  call_holds strict place callee name built_in result params arguments at called all =
      join P _ _ (hold_unless P (not (has_struct result params arguments)) place (Construct 13) at (lit≤ tt, lit≤ tt))
      (join P _ _ (lengths_hold built_in name place params arguments at all)
      (join P _ _ (unconverted_hold params arguments all)
      (join P _ _ (hold_unless P (nat_eq (length params) (length arguments)) callee (Rule 7) called (lit≤ tt, lit≤ tt))
      (hold_unless P (not (calls_main strict name)) callee (Rule 13) called (lit≤ tt, lit≤ tt)))))

  -- members and assignments
  member_place : (mark name : Place) (broken : Broken) → P mark → P name → P (place_of_member mark name broken)
  member_place mark name (Construct number) at named = at
  member_place mark name (Rule number) at named = hold_if P (nat_eq number 6) name mark named at

  assignment_place : (mark value : Place) (broken : Broken) → P mark → P value → P (place_of_assignment mark value broken)
  assignment_place mark value (Construct number) at given = at
  assignment_place mark value (Rule number) at given = hold_if P (nat_eq number 5) value mark given at

  -- sizes
  size_holds : (place : Place) (size : Extent) → P place → FaultsHold P (size_faults place size)
  size_holds place (Bytes count) at = tt
  size_holds place Incomplete at = ((at, (lit≤ tt, lit≤ tt)), tt)
  size_holds place TooLarge at = ((at, (lit≤ tt, lit≤ tt)), tt)

  -- ways to members
  leads_holds : {abi : Abi} {structs : List StructDef} {word : Place} {t : CType} {offset : ℕ} {path : List Step} {indices : List ℕ} {way : Way}
      → Leads abi structs word t offset path indices way → P word → WayHolds P path → FaultsHold P (way_faults way)
  leads_holds Arrives at names = tt
  leads_holds (ToMember e g rest) at names = leads_holds rest at names.1
  leads_holds (MemberTooFar e g) at names = ((at, (lit≤ tt, lit≤ tt)), tt)
  leads_holds (NoMember e) at names = ((names.0, (lit≤ tt, lit≤ tt)), tt)
  leads_holds (ToItem e g rest) at names = leads_holds rest at names
  leads_holds (ItemTooLarge e g) at names = ((at, (lit≤ tt, lit≤ tt)), tt)
  leads_holds (NoItem e) at names = ((at, (lit≤ tt, lit≤ tt)), tt)

  first_holds : (word name : Place) (broken : Broken) → P word → P name → HasNumber broken → FaultHolds P (first_fault word name broken)
  first_holds word name (Construct number) at named is = (at, is)
  first_holds word name (Rule number) at named is = (hold_if P (nat_eq number 6) name word named at, is)

  way_holds : {abi : Abi} {structs : List StructDef} {word : Place} {t : CType} {path : List Step} {indices : List ℕ} {way : Way}
      → LeadsFrom abi structs word t path indices way → P word → WayHolds P path → FaultsHold P (way_faults way)
  way_holds NoSteps at names = tt
  way_holds (ToFirst e g rest) at names = leads_holds rest at names.1
  way_holds (FirstTooFar e g) at names = ((at, (lit≤ tt, lit≤ tt)), tt)
  way_holds {structs} {word} {t} (NoFirst {broken} {name} e) at names =
      (first_holds word name.place broken at names.0 (subst IsNumbered e (member_numbered structs t name.name)), tt)
  way_holds (FromItem rest) at names = leads_holds rest at names

  -- all of them
  pub node_refuses : {l : Language} {env : l.Environment} {number : ℕ} {place : Place} {handed : List Handed} {form : Form} {told : List Told} {outcome : Outcome Known}
      → AtNode l env number place handed form told outcome → P place → NamesHold P form → Holds P (Pieces (pieces_in form)) → AllAreNumbered told → Refuses P outcome
  node_refuses (UndeclaredName e) at names parts all = (at, (lit≤ tt, lit≤ tt))
  node_refuses (TypeAsOperand e) at names parts all = (at, (lit≤ tt, lit≤ tt))
  node_refuses {place} (ObjectName {object} {sized} {outcome} e g settled) at names parts all = hold_settled P (λ known. Unit {0}) _ _ _ outcome (object_holds place object sized at) tt settled
  node_refuses (EnumeratorName e) at names parts all = tt
  node_refuses {place} (FunctionAsOperand {function} {first} e is) at names parts all =
      hold_first P _ first (join P _ _ (function_holds place function at) ((at, (lit≤ tt, lit≤ tt)), tt)) is
  node_refuses (ConstantOfType means) at names parts all = tt
  node_refuses (ConstantOfNoType means) at names parts all = (at, (lit≤ tt, lit≤ tt))
  node_refuses (SpellingOfNoConstant means) at names parts all = (at, (lit≤ tt, lit≤ tt))
  node_refuses StatementExpression at names parts all = tt
  node_refuses AssertionFailed at names parts all = tt
  node_refuses {number} {handed} (Subscript {left} {right} e g h) at names parts all =
      hold_found P _ _ _ handed number (λ broken. at) (indexed_numbered (decayed left.kind) (decayed right.kind))
  node_refuses {l} {place} (CallOfFunction {callee} {name} {function} {arguments} {result} {params} {outcome} are e g settled) at names parts all =
      hold_settled P (λ known. Unit {0}) _ _ _ outcome
      (call_holds (l.strict _) place callee.place name function.built_in result params arguments at (at_expression P (first_piece P parts)) (arguments_hold are (other_pieces P parts))) tt settled
  node_refuses CallOfOther at names parts all = (at, (lit≤ tt, lit≤ tt))
  node_refuses {l} {env} {number} {place} {handed} (MemberOfStruct {b} {judgement} {name} e g) at names parts all =
      hold_found P _ judgement _ handed number (λ broken. member_place place name.place broken at names) (subst IsNumbered e (member_numbered (l.structs env) b.ctype name.name))
  node_refuses {l} {env} {number} {place} {handed} (MemberOfPointed {left} {judgement} {name} e g h) at names parts all =
      hold_found P _ judgement _ handed number (λ broken. member_place place name.place broken at names) (subst IsNumbered g (member_through_numbered (l.structs env) left.kind name.name))
  node_refuses {number} {handed} (Counting {left} e) at names parts all = hold_found P _ _ _ handed number (λ broken. at) (counted_numbered left)
  node_refuses {number} {handed} (AddressOf {left} e) at names parts all = hold_found P _ _ _ handed number (λ broken. at) (unary_numbered Address left)
  node_refuses {number} {handed} (Indirection {left} e) at names parts all = hold_found P _ _ _ handed number (λ broken. at) (unary_numbered Follow left)
  node_refuses {number} {handed} (UnaryArithmetic {left} {op} e g) at names parts all = hold_found P _ _ _ handed number (λ broken. at) (unary_numbered op left)
  node_refuses {place} (SizeOfExpression {size} {outcome} e settled) at names parts all = hold_settled P (λ known. Unit {0}) _ _ _ outcome (size_holds place size at) tt settled
  node_refuses {place} (SizeOfTypeName {named} {size} {outcome} e settled) at names parts all =
      hold_settled P (λ known. Unit {0}) _ _ _ outcome (join P _ _ (hold_all_at P place named.found at all.0) (size_holds place size at)) tt settled
  node_refuses {place} (OffsetOfMember {named} {way} {outcome} e leads settled) at names parts all =
      hold_settled P (λ known. Unit {0}) _ _ _ outcome (join P _ _ (hold_all_at P place named.found at all.0) (way_holds leads at names)) tt settled
  node_refuses {place} (CastToType {named} {a} {target} {left} {outcome} e g settled) at names parts all =
      hold_settled P (λ known. Unit {0}) _ _ _ outcome
      (join P _ _ (hold_all_at P place named.found at all.0) (hold_faults_of P place _ at (cast_numbered target named.ctype (decayed left.kind) left.null _))) tt settled
  node_refuses {number} {handed} (ArithmeticOperator {left} {right} e g h) at names parts all = hold_found P _ _ _ handed number (λ broken. at) (operated_numbered Arithmetic left right)
  node_refuses {number} {handed} (AdditionOperator {left} {right} e g h) at names parts all = hold_found P _ _ _ handed number (λ broken. at) (operated_numbered Sum left right)
  node_refuses {number} {handed} (SubtractionOperator {left} {right} e g h) at names parts all = hold_found P _ _ _ handed number (λ broken. at) (operated_numbered Difference left right)
  node_refuses {number} {handed} (ShiftOperator {left} {right} e g h) at names parts all = hold_found P _ _ _ handed number (λ broken. at) (operated_numbered Shift left right)
  node_refuses {number} {handed} (RelationalOperator {left} {right} e g h) at names parts all = hold_found P _ _ _ handed number (λ broken. at) (operated_numbered Order left right)
  node_refuses {number} {handed} (EqualityOperator {left} {right} e g h) at names parts all = hold_found P _ _ _ handed number (λ broken. at) (operated_numbered Equality left right)
  node_refuses {number} {handed} (LogicalOperator {left} {right} e g h) at names parts all = hold_found P _ _ _ handed number (λ broken. at) (operated_numbered Logic left right)
  node_refuses {number} {handed} (ConditionalOperator {chooses} {left} {right} e g h) at names parts all = hold_found P _ _ _ handed number (λ broken. at) (chosen_numbered chooses left right)
  node_refuses {number} {place} {handed} (Assignment {other} {left} {right} e g) at names parts all =
      hold_found P _ _ _ handed number (λ broken. assignment_place place other.place broken at (at_expression P (first_piece P (other_pieces P parts)))) (assigned_numbered left right)
  node_refuses {number} {handed} (CompoundAssignment {left} {right} {op} e g) at names parts all = hold_found P _ _ _ handed number (λ broken. at) (updated_numbered op left right)
  node_refuses {number} {handed} (CommaOperator {left} {right} e g) at names parts all = hold_found P _ _ _ handed number (λ broken. at) (operated_numbered Sequence left right)
