-- The rules of expressions: what is found at each of them, where its parts pass (C11 6.3, 6.5 and 6.6).
use Rattle.std.specs.Prelude.{◌≡◌, ℕ, Bool, true, false, List, [], ◌∷◌, ◌++◌, map, Option, None, Some}
use Rattle.cbase.specs.declared.ctype.CType.{CType}
use Rattle.cbase.specs.declared.ctype.CType.TheVariants.{Void as VoidType}
use Rattle.cbase.specs.declared.measure.Extent.{Extent}
use Rattle.cbase.specs.declared.place.Place.{Place}
use Rattle.cbase.specs.declared.structs.StructDef.{StructDef}
use Rattle.cbase.specs.declared.tree.decl.TypeName.{TypeName}
use Rattle.cbase.specs.declared.tree.expr.Expr.{Expr}
use Rattle.cbase.specs.declared.tree.expr.ExprForm.TheOpen.{Name, Constant, Unary, Binary, Assign, Count, Choose, Cast, SizeOf, SizeOfType, OffsetOf, Index, ExprForm::Member, Call, Inner, AssertFail}
use Rattle.cbase.specs.declared.tree.expr.ExprForm.TheViews.{out-Part}
use Rattle.cbase.specs.declared.tree.expr.Part.{Part}
use Rattle.cbase.specs.declared.tree.identifier.Identifier.{Identifier}
use Rattle.cbase.specs.declared.tree.operators.BinaryOp.{BinaryOp}
use Rattle.cbase.specs.declared.tree.operators.BinaryOp.TheVariants.{Comma}
use Rattle.cbase.specs.declared.tree.operators.UnaryOp.{UnaryOp}
use Rattle.cbase.specs.declared.tree.operators.UnaryOp.TheVariants.{Address, Follow}
use Rattle.cbase.specs.declared.tree.stmt.Stmt.{Stmt}
use Rattle.typing.specs.declared.constants.meaning.Constant.{Constant as ConstantMeant}
use Rattle.typing.specs.declared.constants.meaning.Meaning.TheVariants.{NoConstant, FitsNoType, Known as Meant}
use Rattle.typing.specs.constants.Meanings.{Means}
use Rattle.typing.specs.declared.ctypes.binary.Group.TheVariants.{Arithmetic, Shift, Sum, Difference, Order, Equality, Logic, Sequence}
use Rattle.typing.specs.declared.ctypes.found.Broken.TheVariants.{Construct, Rule}
use Rattle.typing.specs.ctypes.Assigning.{assigned, updated}
use Rattle.typing.specs.ctypes.Binary.{group_of, operated}
use Rattle.typing.specs.ctypes.Broken.{Judgement}
use Rattle.typing.specs.ctypes.Choosing.{chosen}
use Rattle.typing.specs.ctypes.Converting.{cast}
use Rattle.typing.specs.ctypes.Kinds.{Kind, kind_of, decayed}
use Rattle.typing.specs.ctypes.Members.{indexed, member_of, member_through}
use Rattle.typing.specs.ctypes.Operands.{Operand}
use Rattle.typing.specs.ctypes.Unary.{unary, counted}
use Rattle.typing.specs.Calls.{Argument, call_faults}
use Rattle.typing.specs.Entities.{ObjectEntity, FunctionEntity, ObjectIs, FunctionIs, EnumeratorIs, TypedefIs}
use Rattle.typing.specs.declared.fault.Fault.{Fault}
use Rattle.typing.specs.declared.idiom.Idiom.TheVariants.{Outside}
use Rattle.typing.specs.Faults.{fault, all_at, faults_of, IsFirst}
use Rattle.typing.specs.Idiom.{through, within, at_index, address, is_idiom, item_bytes, member_offset}
use Rattle.typing.specs.Known.{Known, plain, located, valued, operand, behind, found_at}
use Rattle.typing.specs.Language.{Language}
use Rattle.typing.specs.NamedTypes.{NamedType}
use Rattle.typing.specs.Nodes.{is_sized, object_faults, object_known, enumerator_known, function_faults, constant_known, place_of_member, pointed_offset, is_arithmetic, size_in, size_faults, sized_known, offset_known, cast_known, place_of_assignment}
use Rattle.typing.specs.Outcomes.{Outcome, Handed, Passes, Refused, IsSettled}
use Rattle.typing.specs.Paths.{Way, LeadsFrom, way_faults, way_offset}
use Rattle.typing.specs.Forms.{Form}
use Rattle.typing.specs.Told.{Told, OperandIs, FunctionNamed, NoFunction, TypeIs, IndexIs, ValueIs}
use Rattle.typing.specs.values.Values.{unary_value, binary_value, choice_value, word_of}

-- arguments with their expressions, where the structs are these
pub data AreArguments (structs : List StructDef) : List Expr → List Told → List Argument → Type 0 where
  NoArguments : AreArguments structs [] [] []
  MoreArguments : {expr : Expr} {exprs : List Expr} {known : Known} {told : List Told} {argument : Operand} {args : List Argument}
      → operand structs known ≡ argument
      → AreArguments structs exprs told args
      → AreArguments structs (expr ∷ exprs) (OperandIs known ∷ told) (record { place = expr.place; operand = argument; value = known.value } ∷ args)

-- what is found at an expression itself, of its form and of what is told of its parts, where all of them pass; `env` is declared
-- behind its parts. One rule, one constructor, in the order of C11 6.5
pub data AtNode (l : Language) (env : l.Environment) (number : ℕ) (place : Place) (handed : List Handed) : Form → List Told → Outcome Known → Type 0 where
  -- a name that is not declared is rule 1, and so is that of a type (C11 6.5.1p2)
  UndeclaredName : {name : List ℕ}
      → l.entity name env ≡ None
      → AtNode l env number place handed (Name name) [] (Refused (fault place (Rule 1)))
  TypeAsOperand : {t : Option CType} {name : List ℕ}
      → l.entity name env ≡ Some (TypedefIs t)
      → AtNode l env number place handed (Name name) [] (Refused (fault place (Rule 1)))
  -- an object is an lvalue (6.5.1p2). One without definition is construct 12; one of an incomplete type rule 3, in every place; a
  -- parameter of `main` rule 12
  ObjectName : {object : ObjectEntity} {sized : Bool} {outcome : Outcome Known} {name : List ℕ}
      → l.entity name env ≡ Some (ObjectIs object)
      → is_sized (l.structs env) object.ctype ≡ sized
      → IsSettled (object_faults place object sized) (object_known object) (behind handed number (object_known object)) outcome
      → AtNode l env number place handed (Name name) [] outcome
  -- a constant of an enum is an int (6.4.4.3p2)
  EnumeratorName : {value : ℕ} {name : List ℕ}
      → l.entity name env ≡ Some (EnumeratorIs value)
      → AtNode l env number place handed (Name name) [] (Passes (enumerator_known value) (behind handed number (enumerator_known value)))
  -- a function that is not called is construct 20, one without definition construct 12
  FunctionAsOperand : {function : FunctionEntity} {first : Fault} {name : List ℕ}
      → l.entity name env ≡ Some (FunctionIs function)
      → IsFirst (function_faults place function ++ fault place (Construct 20) ∷ []) first
      → AtNode l env number place handed (Name name) [] (Refused first)
  -- a constant (6.4.4, 6.5.1p3); one that fits no type is rule 9 (6.4.4p2), and so is what is no constant
  ConstantOfType : {meant : ConstantMeant} {spelling : List ℕ}
      → Means l.abi spelling (Meant meant)
      → AtNode l env number place handed (Constant spelling) []
      (Passes (constant_known meant) (behind handed number (constant_known meant)))
  ConstantOfNoType : {spelling : List ℕ}
      → Means l.abi spelling FitsNoType
      → AtNode l env number place handed (Constant spelling) [] (Refused (fault place (Rule 9)))
  SpellingOfNoConstant : {spelling : List ℕ}
      → Means l.abi spelling NoConstant
      → AtNode l env number place handed (Constant spelling) [] (Refused (fault place (Rule 9)))
  -- a statement expression has the type of its value; C11 has none
  StatementExpression : {body : List Stmt} {t : CType} {close : Place}
      → AtNode l env number place handed (Inner body close) (ValueIs t ∷ []) (Passes (plain t) (behind handed number (plain t)))
  -- `__assert_fail` has no value, and its arguments are not read
  AssertionFailed : AtNode l env number place handed AssertFail [] (Passes (plain VoidType) (behind handed number (plain VoidType)))
  -- `a[i]` (6.5.2.1) is an lvalue
  Subscript : {base index : Expr} {b i : Known} {left right : Operand} {bytes : Option ℕ}
      → operand (l.structs env) b ≡ left
      → operand (l.structs env) i ≡ right
      → item_bytes l.abi (l.structs env) left.kind ≡ bytes
      → AtNode l env number place handed (Index base index) (OperandIs b ∷ OperandIs i ∷ [])
      (found_at (λ broken. place) (indexed (decayed left.kind) (decayed right.kind)) (located (at_index b.idiom (word_of right.kind i.value) bytes)) handed number)
  -- a call of a function (6.5.2.2)
  CallOfFunction : {callee : Expr} {args : List Expr} {name : List ℕ} {function : FunctionEntity} {told : List Told} {arguments : List Argument} {result : Kind} {params : List Kind} {outcome : Outcome Known}
      → AreArguments (l.structs env) args told arguments
      → kind_of (l.structs env) function.result ≡ result
      → map (kind_of (l.structs env)) function.params ≡ params
      → IsSettled (call_faults (l.strict env) place callee.place name function.built_in result params arguments) (plain function.result) (behind handed number (plain function.result)) outcome
      → AtNode l env number place handed (Call callee args) (FunctionNamed name function ∷ told) outcome
  -- a call of what is no function name is construct 11
  CallOfOther : {callee : Expr} {told : List Told} {args : List Expr}
      → AtNode l env number place handed (Call callee args) (NoFunction ∷ told) (Refused (fault place (Construct 11)))
  -- a member of a struct, `e.m` (6.5.2.3p1, p3), is an lvalue where the struct is; a name that is no member is rule 6 at it
  MemberOfStruct : {base : Expr} {b : Known} {judgement : Judgement} {offset : Option ℕ} {name : Identifier}
      → member_of (l.structs env) b.ctype name.name ≡ judgement
      → member_offset l.abi (l.structs env) b.ctype name.name ≡ offset
      → AtNode l env number place handed (ExprForm::Member base name false) (OperandIs b ∷ [])
      (found_at (place_of_member place name.place) judgement (λ t. record (located (within b.idiom offset) t) { lvalue = b.lvalue }) handed number)
  -- and of what a pointer leads to, `e->m` (6.5.2.3p2, p4)
  MemberOfPointed : {base : Expr} {b : Known} {left : Operand} {judgement : Judgement} {offset : Option ℕ} {name : Identifier}
      → operand (l.structs env) b ≡ left
      → member_through (l.structs env) left.kind name.name ≡ judgement
      → pointed_offset l.abi (l.structs env) left.kind name.name ≡ offset
      → AtNode l env number place handed (ExprForm::Member base name true) (OperandIs b ∷ [])
      (found_at (place_of_member place name.place) judgement (located (through b.idiom offset)) handed number)
  -- `++` and `--`, behind their operand and before it (6.5.2.4, 6.5.3.1)
  Counting : {arg : Expr} {a : Known} {left : Operand} {up behind_it : Bool}
      → operand (l.structs env) a ≡ left
      → AtNode l env number place handed (Count up behind_it arg) (OperandIs a ∷ [])
      (found_at (λ broken. place) (counted left) plain handed number)
  -- `&` (6.5.3.2p1, p3)
  AddressOf : {arg : Expr} {a : Known} {left : Operand}
      → operand (l.structs env) a ≡ left
      → AtNode l env number place handed (Unary Address arg) (OperandIs a ∷ [])
      (found_at (λ broken. place) (unary Address left) (λ t. record (plain t) { idiom = address a.idiom }) handed number)
  -- `*` is an lvalue (6.5.3.2p2, p4)
  Indirection : {arg : Expr} {a : Known} {left : Operand}
      → operand (l.structs env) a ≡ left
      → AtNode l env number place handed (Unary Follow arg) (OperandIs a ∷ [])
      (found_at (λ broken. place) (unary Follow left) (located Outside) handed number)
  -- `+`, `-`, `~` and `!` (6.5.3.3)
  UnaryArithmetic : {arg : Expr} {a : Known} {left : Operand} {op : UnaryOp}
      → is_arithmetic op ≡ true
      → operand (l.structs env) a ≡ left
      → AtNode l env number place handed (Unary op arg) (OperandIs a ∷ [])
      (found_at (λ broken. place) (unary op left) (valued (unary_value op left.kind a.value)) handed number)
  -- `sizeof` (6.5.3.4): its operand is not evaluated, and an array stays one
  SizeOfExpression : {arg : Expr} {a : Known} {size : Extent} {outcome : Outcome Known}
      → size_in l.abi (l.structs env) a.ctype ≡ size
      → IsSettled (size_faults place size) (sized_known size) (behind handed number (sized_known size)) outcome
      → AtNode l env number place handed (SizeOf arg) (OperandIs a ∷ []) outcome
  SizeOfTypeName : {to : TypeName} {named : NamedType} {size : Extent} {outcome : Outcome Known}
      → size_in l.abi (l.structs env) named.ctype ≡ size
      → IsSettled (all_at place named.found ++ size_faults place size) (sized_known size) (behind handed number (sized_known size)) outcome
      → AtNode l env number place handed (SizeOfType to) (TypeIs named ∷ []) outcome
  -- `__builtin_offsetof` (7.19p3)
  OffsetOfMember : {to : TypeName} {path : List Part} {named : NamedType} {told : List Told} {indices : List ℕ} {way : Way} {outcome : Outcome Known}
      → told ≡ map IndexIs indices
      → LeadsFrom l.abi (l.structs env) place named.ctype (map out-Part path) indices way
      → IsSettled (all_at place named.found ++ way_faults way) (offset_known (way_offset way)) (behind handed number (offset_known (way_offset way))) outcome
      → AtNode l env number place handed (OffsetOf to path) (TypeIs named ∷ told) outcome
  -- a cast (6.5.4)
  CastToType : {to : TypeName} {arg : Expr} {named : NamedType} {a : Known} {target : Kind} {left : Operand} {outcome : Outcome Known}
      → kind_of (l.structs env) named.ctype ≡ target
      → operand (l.structs env) a ≡ left
      → IsSettled (all_at place named.found ++ faults_of place (cast target named.ctype (decayed left.kind) left.null (is_idiom a.idiom)))
      (cast_known named.ctype target left.kind a) (behind handed number (cast_known named.ctype target left.kind a)) outcome
      → AtNode l env number place handed (Cast to arg) (TypeIs named ∷ OperandIs a ∷ []) outcome
  -- `*`, `/` and `%` (6.5.5), `&` (6.5.10), `^` (6.5.11) and `|` (6.5.12)
  ArithmeticOperator : {one other : Expr} {a b : Known} {left right : Operand} {op : BinaryOp}
      → group_of op ≡ Arithmetic
      → operand (l.structs env) a ≡ left
      → operand (l.structs env) b ≡ right
      → AtNode l env number place handed (Binary op one other) (OperandIs a ∷ OperandIs b ∷ [])
      (found_at (λ broken. place) (operated Arithmetic left right) (valued (binary_value op left.kind a.value right.kind b.value)) handed number)
  -- `+` (6.5.6p2)
  AdditionOperator : {one other : Expr} {a b : Known} {left right : Operand} {op : BinaryOp}
      → group_of op ≡ Sum
      → operand (l.structs env) a ≡ left
      → operand (l.structs env) b ≡ right
      → AtNode l env number place handed (Binary op one other) (OperandIs a ∷ OperandIs b ∷ [])
      (found_at (λ broken. place) (operated Sum left right) (valued (binary_value op left.kind a.value right.kind b.value)) handed number)
  -- `-` (6.5.6p3); the difference of two pointers is construct 17
  SubtractionOperator : {one other : Expr} {a b : Known} {left right : Operand} {op : BinaryOp}
      → group_of op ≡ Difference
      → operand (l.structs env) a ≡ left
      → operand (l.structs env) b ≡ right
      → AtNode l env number place handed (Binary op one other) (OperandIs a ∷ OperandIs b ∷ [])
      (found_at (λ broken. place) (operated Difference left right) (valued (binary_value op left.kind a.value right.kind b.value)) handed number)
  -- `<<` and `>>` (6.5.7)
  ShiftOperator : {one other : Expr} {a b : Known} {left right : Operand} {op : BinaryOp}
      → group_of op ≡ Shift
      → operand (l.structs env) a ≡ left
      → operand (l.structs env) b ≡ right
      → AtNode l env number place handed (Binary op one other) (OperandIs a ∷ OperandIs b ∷ [])
      (found_at (λ broken. place) (operated Shift left right) (valued (binary_value op left.kind a.value right.kind b.value)) handed number)
  -- `<`, `>`, `<=` and `>=` (6.5.8); the order of two pointers is construct 16
  RelationalOperator : {one other : Expr} {a b : Known} {left right : Operand} {op : BinaryOp}
      → group_of op ≡ Order
      → operand (l.structs env) a ≡ left
      → operand (l.structs env) b ≡ right
      → AtNode l env number place handed (Binary op one other) (OperandIs a ∷ OperandIs b ∷ [])
      (found_at (λ broken. place) (operated Order left right) (valued (binary_value op left.kind a.value right.kind b.value)) handed number)
  -- `==` and `!=` (6.5.9)
  EqualityOperator : {one other : Expr} {a b : Known} {left right : Operand} {op : BinaryOp}
      → group_of op ≡ Equality
      → operand (l.structs env) a ≡ left
      → operand (l.structs env) b ≡ right
      → AtNode l env number place handed (Binary op one other) (OperandIs a ∷ OperandIs b ∷ [])
      (found_at (λ broken. place) (operated Equality left right) (valued (binary_value op left.kind a.value right.kind b.value)) handed number)
  -- `&&` (6.5.13) and `||` (6.5.14)
  LogicalOperator : {one other : Expr} {a b : Known} {left right : Operand} {op : BinaryOp}
      → group_of op ≡ Logic
      → operand (l.structs env) a ≡ left
      → operand (l.structs env) b ≡ right
      → AtNode l env number place handed (Binary op one other) (OperandIs a ∷ OperandIs b ∷ [])
      (found_at (λ broken. place) (operated Logic left right) (valued (binary_value op left.kind a.value right.kind b.value)) handed number)
  -- `?:` (6.5.15)
  ConditionalOperator : {test one other : Expr} {t a b : Known} {chooses left right : Operand}
      → operand (l.structs env) t ≡ chooses
      → operand (l.structs env) a ≡ left
      → operand (l.structs env) b ≡ right
      → AtNode l env number place handed (Choose test one other) (OperandIs t ∷ OperandIs a ∷ OperandIs b ∷ [])
      (found_at (λ broken. place) (chosen chooses left right) (valued (choice_value chooses.kind t.value left.kind a.value right.kind b.value)) handed number)
  -- `=` (6.5.16.1): a value that does not convert is rule 5 at its expression
  Assignment : {one other : Expr} {a b : Known} {left right : Operand}
      → operand (l.structs env) a ≡ left
      → operand (l.structs env) b ≡ right
      → AtNode l env number place handed (Assign None one other) (OperandIs a ∷ OperandIs b ∷ [])
      (found_at (place_of_assignment place other.place) (assigned left right) plain handed number)
  -- `+=` and its like (6.5.16.2)
  CompoundAssignment : {one other : Expr} {a b : Known} {left right : Operand} {op : BinaryOp}
      → operand (l.structs env) a ≡ left
      → operand (l.structs env) b ≡ right
      → AtNode l env number place handed (Assign (Some op) one other) (OperandIs a ∷ OperandIs b ∷ [])
      (found_at (λ broken. place) (updated op left right) plain handed number)
  -- the comma (6.5.17)
  CommaOperator : {one other : Expr} {a b : Known} {left right : Operand}
      → operand (l.structs env) a ≡ left
      → operand (l.structs env) b ≡ right
      → AtNode l env number place handed (Binary Comma one other) (OperandIs a ∷ OperandIs b ∷ [])
      (found_at (λ broken. place) (operated Sequence left right) plain handed number)
