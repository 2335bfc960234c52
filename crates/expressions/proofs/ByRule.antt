-- What is settled at a form is what its rule says.
use Rattle.std.proofs.Common.{◌≡◌, ℕ, Bool, true, false, List, [], ◌∷◌, ◌++◌, Option, None, Some, refl, sym, subst, Result, Ok, Err, IfOk}
use Rattle.std.specs.Prelude.{map, option_map, ◌&&◌, if◌then◌else◌}
use Rattle.cbase.specs.declared.abi.Abi.{Abi}
use Rattle.cbase.specs.declared.ctype.CType.TheVariants.{Void as VoidType}
use Rattle.cbase.specs.declared.no_memory.NoMemory.{NoMemory}
use Rattle.cbase.specs.declared.place.Place.{Place}
use Rattle.cbase.specs.declared.tree.decl.TypeName.{TypeName}
use Rattle.cbase.specs.declared.tree.expr.Expr.{Expr}
use Rattle.cbase.specs.declared.tree.expr.ExprForm.TheOpen.{Name, Constant, Unary, Binary, OffsetOf, AssertFail}
use Rattle.cbase.specs.declared.tree.expr.ExprForm.TheViews.{out-Part}
use Rattle.cbase.specs.declared.tree.expr.Part.{Part}
use Rattle.cbase.specs.declared.tree.operators.BinaryOp.{BinaryOp}
use Rattle.cbase.specs.declared.tree.operators.BinaryOp.TheVariants.{Mul, Div, Rem, Add, Sub, Left, Right, Less, Greater, LessEqual, GreaterEqual, Equal, NotEqual, And, Xor, Or, Both, Either, Comma}
use Rattle.cbase.specs.declared.tree.operators.UnaryOp.{UnaryOp}
use Rattle.cbase.specs.declared.tree.operators.UnaryOp.TheVariants.{Address, Follow, Plus, Minus, Flip, Not}
use Rattle.typing.specs.declared.constants.meaning.Meaning.{Meaning}
use Rattle.typing.specs.declared.constants.meaning.Meaning.TheVariants.{NoConstant, FitsNoType, Known as KnownConstant}
use Rattle.typing.specs.constants.Meanings.{Means}
use Rattle.typing.specs.environment.Environment.{name_found}
use Rattle.typing.specs.declared.ctypes.found.Broken.TheVariants.{Construct, Rule}
use Rattle.typing.specs.ctypes.Binary.{binary}
use Rattle.typing.specs.ctypes.Kinds.{Kind, Integer, Pointer, Array, Struct, Void}
use Rattle.typing.specs.declared.fault.Fault.{Fault}
use Rattle.typing.specs.Entities.{Entity, ObjectIs, FunctionIs, EnumeratorIs, TypedefIs}
use Rattle.typing.specs.Faults.{fault, all_at}
use Rattle.typing.specs.Known.{Known, plain, valued, operand, behind, found_at}
use Rattle.typing.specs.Language.{Language}
use Rattle.typing.specs.Nodes.{is_arithmetic, function_faults, offset_known}
use Rattle.typing.specs.Outcomes.{Outcome, Handed, Passes, Refused, IsSettled}
use Rattle.typing.specs.Paths.{Way, LeadsFrom, way_faults, way_offset}
use Rattle.typing.specs.Pieces.{Piece, Loaded, operand_of, pieces_in}
use Rattle.typing.specs.Rules.{AtNode, UndeclaredName, TypeAsOperand, ObjectName, EnumeratorName, FunctionAsOperand, ConstantOfType, ConstantOfNoType, SpellingOfNoConstant, AssertionFailed, OffsetOfMember, ArithmeticOperator, AdditionOperator, SubtractionOperator, ShiftOperator, RelationalOperator, EqualityOperator, LogicalOperator, CommaOperator}
use Rattle.typing.specs.Told.{OperandIs}
use Rattle.typing.specs.Typing.{PiecesAre}
use Rattle.typing.specs.values.Values.{binary_value, is_whole}
use Rattle.typing.proofs.OneFault.{one_settled}
use Rattle.expressions.specs.declared.found.Found.{Found}
use Rattle.expressions.specs.declared.known.Known.{Known as KnownByNumber}
use Rattle.expressions.specs.declared.named_type.NamedType.{NamedType as NamedByNumber}
use Rattle.expressions.specs.Constants.{constant_faults, constant_told}
use Rattle.expressions.specs.Context.{Context, declared, Agrees}
use Rattle.expressions.specs.Found.{an_expression, one_operand, no_parts, a_type_and_indices}
use Rattle.expressions.specs.Names.{name_faults, name_told}
use Rattle.expressions.specs.Numbers.{Numbering, entity_at}
use Rattle.expressions.specs.Language.{language}
use Rattle.expressions.specs.Settled.{Settled}
use Rattle.expressions.specs.Walked.{Passed, Walked, Says, SaysForm}
use Rattle.expressions.proofs.Firsts.{first_alone}
use Rattle.expressions.proofs.Walking.{settled_result, settled_form, nothing_walked}

none_behind : (faults : List Fault) (last : Fault) → faults ++ last ∷ [] ≡ [] → ⊥
none_behind [] last is = cc is
none_behind (first ∷ faults) last is = cc is

either_way : {A : Type 0} (b : Bool) (a : A) → (if b then a else a) ≡ a
either_way true a = refl
either_way false a = refl

-- a comma has no value
no_comma_value : (left right : Kind) (x y : Option ℕ) → binary_value Comma left x right y ≡ None
no_comma_value (Integer s) (Integer t) (Some x) (Some y) = either_way (is_whole s && is_whole t) None
no_comma_value (Integer s) (Integer t) (Some x) None = refl
no_comma_value (Integer s) (Integer t) None y = refl
no_comma_value (Integer s) (Pointer item target) (Some x) y = refl
no_comma_value (Integer s) (Pointer item target) None y = refl
no_comma_value (Integer s) (Array item target) (Some x) y = refl
no_comma_value (Integer s) (Array item target) None y = refl
no_comma_value (Integer s) (Struct number) (Some x) y = refl
no_comma_value (Integer s) (Struct number) None y = refl
no_comma_value (Integer s) Void (Some x) y = refl
no_comma_value (Integer s) Void None y = refl
no_comma_value (Pointer item target) right x y = refl
no_comma_value (Array item target) right x y = refl
no_comma_value (Struct number) right x y = refl
no_comma_value Void right x y = refl

module _ (l : Language) (env : l.Environment) (number : ℕ) (place : Place) (handed : List Handed) where
  -- a name, by what it stands for
  pub name_rule : (name : List ℕ) (entity : Option Entity) (outcome : Outcome Known) → l.entity name env ≡ entity
      → IsSettled (name_faults (l.structs env) place entity) (name_told entity) (behind handed number (name_told entity)) outcome
      → AtNode l env number place handed (Name name) [] outcome
  name_rule name None outcome is settled =
      subst (λ (o : Outcome Known). AtNode l env number place handed (Name name) [] o)
      (one_settled (fault place (Rule 1) ∷ []) (plain VoidType) (behind handed number (plain VoidType)) (Refused (fault place (Rule 1))) outcome (first_alone _ _ refl) settled)
      (UndeclaredName is)
  name_rule name (Some (TypedefIs t)) outcome is settled =
      subst (λ (o : Outcome Known). AtNode l env number place handed (Name name) [] o)
      (one_settled (fault place (Rule 1) ∷ []) (plain VoidType) (behind handed number (plain VoidType)) (Refused (fault place (Rule 1))) outcome (first_alone _ _ refl) settled)
      (TypeAsOperand is)
  name_rule name (Some (ObjectIs object)) outcome is settled = ObjectName is refl settled
  name_rule name (Some (EnumeratorIs value)) outcome is settled =
      subst (λ (o : Outcome Known). AtNode l env number place handed (Name name) [] o)
      (one_settled [] (name_told (Some (EnumeratorIs value))) (behind handed number (name_told (Some (EnumeratorIs value))))
      (Passes (name_told (Some (EnumeratorIs value))) (behind handed number (name_told (Some (EnumeratorIs value))))) outcome (refl, refl, refl) settled)
      (EnumeratorName is)
  name_rule name (Some (FunctionIs function)) (Passes told rows) is settled = absurd (none_behind (function_faults place function) (fault place (Construct 20)) settled.0)
  name_rule name (Some (FunctionIs function)) (Refused first) is settled = FunctionAsOperand is settled

  -- a constant, by what it means
  pub constant_rule : (spelling : List ℕ) (meaning : Meaning) (outcome : Outcome Known) → Means l.abi spelling meaning
      → IsSettled (constant_faults place meaning) (constant_told meaning) (behind handed number (constant_told meaning)) outcome
      → AtNode l env number place handed (Constant spelling) [] outcome
  constant_rule spelling NoConstant outcome means settled =
      subst (λ (o : Outcome Known). AtNode l env number place handed (Constant spelling) [] o)
      (one_settled (fault place (Rule 9) ∷ []) (plain VoidType) (behind handed number (plain VoidType)) (Refused (fault place (Rule 9))) outcome (first_alone _ _ refl) settled)
      (SpellingOfNoConstant means)
  constant_rule spelling FitsNoType outcome means settled =
      subst (λ (o : Outcome Known). AtNode l env number place handed (Constant spelling) [] o)
      (one_settled (fault place (Rule 9) ∷ []) (plain VoidType) (behind handed number (plain VoidType)) (Refused (fault place (Rule 9))) outcome (first_alone _ _ refl) settled)
      (ConstantOfNoType means)
  constant_rule spelling (KnownConstant constant) outcome means settled =
      subst (λ (o : Outcome Known). AtNode l env number place handed (Constant spelling) [] o)
      (one_settled [] (constant_told (KnownConstant constant)) (behind handed number (constant_told (KnownConstant constant)))
      (Passes (constant_told (KnownConstant constant)) (behind handed number (constant_told (KnownConstant constant)))) outcome (refl, refl, refl) settled)
      (ConstantOfType means)

  -- `__assert_fail`
  pub assertion_rule : (outcome : Outcome Known) → IsSettled [] (plain VoidType) (behind handed number (plain VoidType)) outcome → AtNode l env number place handed AssertFail [] outcome
  assertion_rule outcome settled =
      subst (λ (o : Outcome Known). AtNode l env number place handed AssertFail [] o)
      (one_settled [] (plain VoidType) (behind handed number (plain VoidType)) (Passes (plain VoidType) (behind handed number (plain VoidType))) outcome (refl, refl, refl) settled)
      AssertionFailed

  -- a binary operator, by its group
  pub binary_rule : (op : BinaryOp) (one other : Expr) (a b : Known) → AtNode l env number place handed (Binary op one other) (OperandIs a ∷ OperandIs b ∷ [])
      (found_at (λ broken. place) (binary op (operand (l.structs env) a) (operand (l.structs env) b))
      (valued (binary_value op (operand (l.structs env) a).kind a.value (operand (l.structs env) b).kind b.value)) handed number)
  binary_rule Mul one other a b = ArithmeticOperator refl refl refl
  binary_rule Div one other a b = ArithmeticOperator refl refl refl
  binary_rule Rem one other a b = ArithmeticOperator refl refl refl
  binary_rule Add one other a b = AdditionOperator refl refl refl
  binary_rule Sub one other a b = SubtractionOperator refl refl refl
  binary_rule Left one other a b = ShiftOperator refl refl refl
  binary_rule Right one other a b = ShiftOperator refl refl refl
  binary_rule Less one other a b = RelationalOperator refl refl refl
  binary_rule Greater one other a b = RelationalOperator refl refl refl
  binary_rule LessEqual one other a b = RelationalOperator refl refl refl
  binary_rule GreaterEqual one other a b = RelationalOperator refl refl refl
  binary_rule Equal one other a b = EqualityOperator refl refl refl
  binary_rule NotEqual one other a b = EqualityOperator refl refl refl
  binary_rule And one other a b = ArithmeticOperator refl refl refl
  binary_rule Xor one other a b = ArithmeticOperator refl refl refl
  binary_rule Or one other a b = ArithmeticOperator refl refl refl
  binary_rule Both one other a b = LogicalOperator refl refl refl
  binary_rule Either one other a b = LogicalOperator refl refl refl
  binary_rule Comma one other a b =
      subst (λ (value : Option ℕ). AtNode l env number place handed (Binary Comma one other) (OperandIs a ∷ OperandIs b ∷ [])
      (found_at (λ broken. place) (binary Comma (operand (l.structs env) a) (operand (l.structs env) b)) (valued value) handed number))
      (sym (no_comma_value (operand (l.structs env) a).kind (operand (l.structs env) b).kind a.value b.value)) (CommaOperator refl refl)

-- the operand of an operator on values is loaded
loaded_operand : (op : UnaryOp) (arg : Expr) → is_arithmetic op ≡ true → operand_of op arg ≡ Loaded arg
loaded_operand Address arg is = cc
loaded_operand Follow arg is = cc
loaded_operand Plus arg is = refl
loaded_operand Minus arg is = refl
loaded_operand Flip arg is = refl
loaded_operand Not arg is = refl

pub loaded_found : (abi : Abi) (op : UnaryOp) (arg : Expr) (old mid : Context) (found : Found KnownByNumber) → is_arithmetic op ≡ true
    → Walked (Says abi (λ o. PiecesAre (Loaded arg ∷ []) o)) one_operand old mid found → Walked (Says abi (λ o. PiecesAre (pieces_in (Unary op arg)) o)) one_operand old mid found
loaded_found abi op arg old mid found is walked =
    subst (λ (piece : Piece). Walked (Says abi (λ o. PiecesAre (piece ∷ []) o)) one_operand old mid found) (sym (loaded_operand op arg is)) walked

-- a member by its way, where the indices are given in other words
pub offset_form : (abi : Abi) (number : ℕ) (place : Place) (to : TypeName) (path : List Part) (words given : List ℕ) (old mid new : Context) (named : NamedByNumber)
    (r : Result (Found KnownByNumber) NoMemory) → given ≡ words
    → IfOk r (λ found. (way : Numbering → Way) × ((n : Numbering) → Agrees n new → LeadsFrom abi mid.structs place (n.ctype named.ctype) (map out-Part path) given (way n))
    × Settled (λ n. all_at place named.found ++ way_faults (way n)) (λ n. offset_known (way_offset (way n))) number mid new found)
    → Passed (Says abi (λ o. PiecesAre (pieces_in (OffsetOf to path)) o)) (a_type_and_indices words) old mid named
    → IfOk r (λ found. Walked (SaysForm abi number place (OffsetOf to path)) an_expression old new found)
offset_form abi number place to path words given old mid new named (Ok found) same settled passed =
    settled_form abi number place (OffsetOf to path) (a_type_and_indices words) old mid new named (λ n. all_at place named.found ++ way_faults (settled.0 n)) (λ n. offset_known (way_offset (settled.0 n))) found passed
    (λ n handed outcome agrees rule. OffsetOfMember refl (subst (λ (indices : List ℕ). LeadsFrom abi mid.structs place (n.ctype named.ctype) (map out-Part path) indices (settled.0 n)) same (settled.1 n agrees)) rule) settled.2
offset_form abi number place to path words given old mid new named (Err error) same settled passed = tt

-- a name by what it stands for
pub name_form : (abi : Abi) (number : ℕ) (place : Place) (name : List ℕ) (old new : Context) (r : Result (Found KnownByNumber) NoMemory)
    → IfOk r (λ found. Settled (λ n. name_faults old.structs place (option_map (entity_at n) (name_found name old.environment))) (λ n. name_told (option_map (entity_at n) (name_found name old.environment))) number old new found)
    → IfOk r (λ found. Walked (SaysForm abi number place (Name name)) an_expression old new found)
name_form abi number place name old new r settled =
    settled_result abi number place (Name name) no_parts old old new tt _ _ r settled (nothing_walked abi old)
    (λ n handed outcome agrees rule. name_rule (language abi n) (declared old) number place handed name (option_map (entity_at n) (name_found name old.environment)) outcome refl rule)

-- a constant by its meaning
pub constant_form : (abi : Abi) (number : ℕ) (place : Place) (spelling : List ℕ) (old new : Context) (r : Result (Found KnownByNumber) NoMemory)
    → IfOk r (λ found. (meaning : Meaning) × Means abi spelling meaning × Settled (λ n. constant_faults place meaning) (λ n. constant_told meaning) number old new found)
    → IfOk r (λ found. Walked (SaysForm abi number place (Constant spelling)) an_expression old new found)
constant_form abi number place spelling old new (Ok found) settled =
    settled_form abi number place (Constant spelling) no_parts old old new tt (λ n. constant_faults place settled.0) (λ n. constant_told settled.0) found (nothing_walked abi old)
    (λ n handed outcome agrees rule. constant_rule (language abi n) (declared old) number place handed spelling settled.0 outcome settled.1 rule) settled.2
constant_form abi number place spelling old new (Err error) settled = tt
