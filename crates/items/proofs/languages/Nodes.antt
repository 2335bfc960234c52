-- What is found at an expression itself is found there by the language to which its own one leads, since it asks only what is declared.
use Rattle.std.proofs.Common.{ℕ, List}
use Rattle.cbase.specs.declared.place.Place.{Place}
use Rattle.typing.specs.FileScope.{FileScope}
use Rattle.typing.specs.Forms.{Form}
use Rattle.typing.specs.Known.{Known}
use Rattle.typing.specs.Language.{Language}
use Rattle.typing.specs.Outcomes.{Outcome, Handed}
use Rattle.typing.specs.Rules.{AtNode, UndeclaredName, TypeAsOperand, ObjectName, EnumeratorName, FunctionAsOperand, ConstantOfType, ConstantOfNoType, SpellingOfNoConstant, StatementExpression, AssertionFailed, Subscript, CallOfFunction, CallOfOther, MemberOfStruct, MemberOfPointed, Counting, AddressOf, Indirection, UnaryArithmetic, SizeOfExpression, SizeOfTypeName, OffsetOfMember, CastToType, ArithmeticOperator, AdditionOperator, SubtractionOperator, ShiftOperator, RelationalOperator, EqualityOperator, LogicalOperator, ConditionalOperator, Assignment, CompoundAssignment, CommaOperator}
use Rattle.typing.specs.Told.{Told}
use Rattle.items.specs.languages.Carries.{Carries}
use Rattle.items.proofs.languages.Seen.{seen}

module _ {l m : Language} {file : FileScope l} {other : FileScope m} {to : l.Environment → m.Environment} {Valid : l.Environment → Type 0} (c : Carries l m file other to Valid) where
  pub node_carried : {env : l.Environment} {number : ℕ} {place : Place} {handed : List Handed} {form : Form} {told : List Told} {outcome : Outcome Known}
      → AtNode (seen l m to) env number place handed form told outcome → AtNode m (to env) number place handed form told outcome
  node_carried (UndeclaredName e) = UndeclaredName e
  node_carried (TypeAsOperand e) = TypeAsOperand e
  node_carried (ObjectName e g settled) = ObjectName e g settled
  node_carried (EnumeratorName e) = EnumeratorName e
  node_carried (FunctionAsOperand e least) = FunctionAsOperand e least
  node_carried (ConstantOfType e) = ConstantOfType e
  node_carried (ConstantOfNoType e) = ConstantOfNoType e
  node_carried (SpellingOfNoConstant e) = SpellingOfNoConstant e
  node_carried StatementExpression = StatementExpression
  node_carried AssertionFailed = AssertionFailed
  node_carried (Subscript e g h) = Subscript e g h
  node_carried (CallOfFunction args e g settled) = CallOfFunction args e g settled
  node_carried CallOfOther = CallOfOther
  node_carried (MemberOfStruct e g) = MemberOfStruct e g
  node_carried (MemberOfPointed e g h) = MemberOfPointed e g h
  node_carried (Counting e) = Counting e
  node_carried (AddressOf e) = AddressOf e
  node_carried (Indirection e) = Indirection e
  node_carried (UnaryArithmetic e g) = UnaryArithmetic e g
  node_carried (SizeOfExpression e settled) = SizeOfExpression e settled
  node_carried (SizeOfTypeName e settled) = SizeOfTypeName e settled
  node_carried (OffsetOfMember e leads settled) = OffsetOfMember e leads settled
  node_carried (CastToType e g settled) = CastToType e g settled
  node_carried (ArithmeticOperator e g h) = ArithmeticOperator e g h
  node_carried (AdditionOperator e g h) = AdditionOperator e g h
  node_carried (SubtractionOperator e g h) = SubtractionOperator e g h
  node_carried (ShiftOperator e g h) = ShiftOperator e g h
  node_carried (RelationalOperator e g h) = RelationalOperator e g h
  node_carried (EqualityOperator e g h) = EqualityOperator e g h
  node_carried (LogicalOperator e g h) = LogicalOperator e g h
  node_carried (ConditionalOperator e g h) = ConditionalOperator e g h
  node_carried (Assignment e g) = Assignment e g
  node_carried (CompoundAssignment e g) = CompoundAssignment e g
  node_carried (CommaOperator e g) = CommaOperator e g
