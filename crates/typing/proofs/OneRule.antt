-- At an expression whose parts pass one thing is found.
use Rattle.std.proofs.Common.{◌≡◌, ℕ, Bool, true, false, List, [], ◌∷◌, ◌++◌, Option, Some, None, map, refl, sym, ap, ◌∙◌, subst}
use Rattle.std.specs.Prelude.{◌&&◌, if◌then◌else◌}
use Rattle.cbase.specs.declared.ctype.CType.{CType}
use Rattle.cbase.specs.declared.measure.Extent.{Extent}
use Rattle.cbase.specs.declared.place.Place.{Place}
use Rattle.cbase.specs.declared.tree.expr.Expr.{Expr}
use Rattle.cbase.specs.declared.tree.expr.ExprForm.TheOpen.{Name, Constant, Unary, Binary, Assign, Count, Choose, Cast, SizeOf, SizeOfType, OffsetOf, Index, ExprForm::Member, Call, Inner, AssertFail}
use Rattle.cbase.specs.declared.tree.expr.ExprForm.TheViews.{out-Part}
use Rattle.cbase.specs.declared.tree.operators.BinaryOp.{BinaryOp}
use Rattle.cbase.specs.declared.tree.operators.BinaryOp.TheVariants.{Comma}
use Rattle.cbase.specs.declared.tree.operators.UnaryOp.{UnaryOp}
use Rattle.cbase.specs.declared.tree.operators.UnaryOp.TheVariants.{Address, Follow, Plus, Minus, Flip, Not}
use Rattle.typing.specs.declared.constants.meaning.Constant.{Constant as ConstantMeant}
use Rattle.typing.specs.declared.constants.meaning.Meaning.TheVariants.{NoConstant, FitsNoType, Known as Meant}
use Rattle.typing.specs.constants.Meanings.{Means, constant_of}
use Rattle.typing.proofs.constants.Exact.{one_reading}
use Rattle.typing.specs.declared.ctypes.binary.Group.{Group}
use Rattle.typing.specs.declared.ctypes.found.Broken.TheVariants.{Construct, Rule}
use Rattle.typing.specs.ctypes.Assigning.{assigned, updated}
use Rattle.typing.specs.ctypes.Binary.{group_of, operated}
use Rattle.typing.specs.ctypes.Choosing.{chosen}
use Rattle.typing.specs.ctypes.Converting.{cast}
use Rattle.typing.specs.ctypes.Kinds.{Kind, Integer, Pointer, Array, Struct, Void, decayed}
use Rattle.typing.specs.ctypes.Members.{indexed, member_through}
use Rattle.typing.specs.ctypes.Operands.{Operand}
use Rattle.typing.specs.ctypes.Unary.{unary, counted}
use Rattle.typing.specs.Calls.{call_faults}
use Rattle.typing.specs.Entities.{Entity, ObjectIs, FunctionIs, EnumeratorIs, TypedefIs}
use Rattle.typing.specs.declared.fault.Fault.{Fault}
use Rattle.typing.specs.declared.idiom.Idiom.TheVariants.{Outside}
use Rattle.typing.specs.Faults.{fault, all_at, faults_of, IsFirst}
use Rattle.typing.specs.Forms.{Form}
use Rattle.typing.specs.Idiom.{address, at_index, through, within, is_idiom, item_bytes}
use Rattle.typing.specs.Known.{Known, plain, located, valued, operand, behind, found_at}
use Rattle.typing.specs.Language.{Language}
use Rattle.typing.specs.Nodes.{is_sized, object_faults, object_known, enumerator_known, function_faults, constant_known, place_of_member, pointed_offset, is_arithmetic, size_faults, sized_known, offset_known, cast_known, place_of_assignment}
use Rattle.typing.specs.Outcomes.{Outcome, Handed, Passes, Refused, IsSettled}
use Rattle.typing.specs.Paths.{Way, LeadsFrom, way_faults, way_offset}
use Rattle.typing.specs.Rules.{AtNode, UndeclaredName, TypeAsOperand, ObjectName, EnumeratorName, FunctionAsOperand, ConstantOfType, ConstantOfNoType, SpellingOfNoConstant, StatementExpression, AssertionFailed, Subscript, CallOfFunction, CallOfOther, MemberOfStruct, MemberOfPointed, Counting, AddressOf, Indirection, UnaryArithmetic, SizeOfExpression, SizeOfTypeName, OffsetOfMember, CastToType, ArithmeticOperator, AdditionOperator, SubtractionOperator, ShiftOperator, RelationalOperator, EqualityOperator, LogicalOperator, ConditionalOperator, Assignment, CompoundAssignment, CommaOperator}
use Rattle.typing.specs.Told.{Told, OperandIs, IndexIs}
use Rattle.typing.specs.values.Values.{is_whole, unary_value, binary_value, choice_value, word_of}
use Rattle.typing.proofs.OneFault.{one_first, one_settled, settled_alike}
use Rattle.typing.proofs.OneWay.{one_way, one_arguments}

-- names, by what they stand for
abbrev IsNamed : (l : Language) → l.Environment → ℕ → Place → List Handed → Option Entity → Outcome Known → Type 0
IsNamed l env number place handed None outcome = outcome ≡ Refused (fault place (Rule 1))
IsNamed l env number place handed (Some (TypedefIs t)) outcome = outcome ≡ Refused (fault place (Rule 1))
IsNamed l env number place handed (Some (ObjectIs object)) outcome =
    IsSettled (object_faults place object (is_sized (l.structs env) object.ctype)) (object_known object) (behind handed number (object_known object)) outcome
IsNamed l env number place handed (Some (EnumeratorIs value)) outcome = outcome ≡ Passes (enumerator_known value) (behind handed number (enumerator_known value))
IsNamed l env number place handed (Some (FunctionIs function)) outcome =
    (first : Fault) × (outcome ≡ Refused first) × IsFirst (function_faults place function ++ fault place (Construct 20) ∷ []) first

one_named : (l : Language) (env : l.Environment) (number : ℕ) (place : Place) (handed : List Handed) (entity : Option Entity) (first second : Outcome Known)
    → IsNamed l env number place handed entity first → IsNamed l env number place handed entity second → first ≡ second
one_named l env number place handed None first second e f = e ∙ sym f
one_named l env number place handed (Some (TypedefIs t)) first second e f = e ∙ sym f
one_named l env number place handed (Some (ObjectIs object)) first second e f = one_settled _ _ _ first second e f
one_named l env number place handed (Some (EnumeratorIs value)) first second e f = e ∙ sym f
one_named l env number place handed (Some (FunctionIs function)) first second e f =
    e.1 ∙ (ap Refused (one_first _ e.0 f.0 e.2 f.2) ∙ sym f.1)

named_row : {l : Language} {env : l.Environment} {number : ℕ} {place : Place} {handed : List Handed} {name : List ℕ} {told : List Told} {outcome : Outcome Known}
    → AtNode l env number place handed (Name name) told outcome → IsNamed l env number place handed (l.entity name env) outcome
named_row {l} {env} {number} {place} {handed} {outcome = outcome} (UndeclaredName e) = subst (λ (entity : Option Entity). IsNamed l env number place handed entity (Refused (fault place (Rule 1)))) (sym e) refl
named_row {l} {env} {number} {place} {handed} (TypeAsOperand e) = subst (λ (entity : Option Entity). IsNamed l env number place handed entity (Refused (fault place (Rule 1)))) (sym e) refl
named_row {l} {env} {number} {place} {handed} (ObjectName {object = object} {outcome = outcome} e sized settled) =
    subst (λ (entity : Option Entity). IsNamed l env number place handed entity outcome) (sym e)
    (subst (λ (b : Bool). IsSettled (object_faults place object b) (object_known object) (behind handed number (object_known object)) outcome) (sym sized) settled)
named_row {l} {env} {number} {place} {handed} (EnumeratorName {value = value} e) =
    subst (λ (entity : Option Entity). IsNamed l env number place handed entity (Passes (enumerator_known value) (behind handed number (enumerator_known value)))) (sym e) refl
named_row {l} {env} {number} {place} {handed} (FunctionAsOperand {first = first} e is) =
    subst (λ (entity : Option Entity). IsNamed l env number place handed entity (Refused first)) (sym e) (first, refl, is)

-- constants
one_meaning : (l : Language) (spelling : List ℕ) (a b : ConstantMeant) → Means l.abi spelling (Meant a) → Means l.abi spelling (Meant b) → a ≡ b
one_meaning l spelling a b e f =
    let reading : e.0 ≡ f.0 = one_reading spelling e.0 f.0 e.1 f.1 in
    let same : Some a ≡ Some b = sym e.2 ∙ (ap (constant_of l.abi) reading ∙ f.2) in cc same

fits_or_not : {A : Type 0} (l : Language) (spelling : List ℕ) (a : ConstantMeant) → Means l.abi spelling (Meant a) → Means l.abi spelling FitsNoType → A
fits_or_not l spelling a e f =
    let reading : e.0 ≡ f.0 = one_reading spelling e.0 f.0 e.1 f.1 in
    let same : Some a ≡ None = sym e.2 ∙ (ap (constant_of l.abi) reading ∙ f.2) in absurd (cc same)

means_or_not : {A : Type 0} (l : Language) (spelling : List ℕ) (a : ConstantMeant) → Means l.abi spelling (Meant a) → Means l.abi spelling NoConstant → A
means_or_not l spelling a e f = absurd (f e.0 e.1)

-- unary operators: what is known of one that passes, beside its type
abbrev unary_known : UnaryOp → Known → Operand → CType → Known
unary_known Address a left t = record (plain t) { idiom = address a.idiom }
unary_known Follow a left t = located Outside t
unary_known Plus a left t = valued (unary_value Plus left.kind a.value) t
unary_known Minus a left t = valued (unary_value Minus left.kind a.value) t
unary_known Flip a left t = valued (unary_value Flip left.kind a.value) t
unary_known Not a left t = valued (unary_value Not left.kind a.value) t

abbrev unary_found : ℕ → Place → List Handed → UnaryOp → Known → Operand → Outcome Known
unary_found number place handed op a left = found_at (λ broken. place) (unary op left) (unary_known op a left) handed number

abbrev IsUnaryRow : (l : Language) → l.Environment → ℕ → Place → List Handed → UnaryOp → List Told → Outcome Known → Type 0
IsUnaryRow l env number place handed op told outcome =
    (a : Known) × (told ≡ OperandIs a ∷ []) × (outcome ≡ unary_found number place handed op a (operand (l.structs env) a))

arithmetic_known : (op : UnaryOp) (a : Known) (left : Operand) → is_arithmetic op ≡ true → (t : CType) → valued (unary_value op left.kind a.value) t ≡ unary_known op a left t
arithmetic_known Address a left e t = absurd (cc e)
arithmetic_known Follow a left e t = absurd (cc e)
arithmetic_known Plus a left e t = refl
arithmetic_known Minus a left e t = refl
arithmetic_known Flip a left e t = refl
arithmetic_known Not a left e t = refl

unary_row : {l : Language} {env : l.Environment} {number : ℕ} {place : Place} {handed : List Handed} {op : UnaryOp} {arg : Expr} {told : List Told} {outcome : Outcome Known}
    → AtNode l env number place handed (Unary op arg) told outcome → IsUnaryRow l env number place handed op told outcome
unary_row {number = number} {place = place} {handed = handed} (AddressOf {a = a} e) = (a, refl, ap (unary_found number place handed Address a) (sym e))
unary_row {number = number} {place = place} {handed = handed} (Indirection {a = a} e) = (a, refl, ap (unary_found number place handed Follow a) (sym e))
unary_row {number = number} {place = place} {handed = handed} (UnaryArithmetic {a = a} {left = left} {op = op} is e) =
    (a, refl, (λ i. found_at (λ broken. place) (unary op left) (λ t. arithmetic_known op a left is t i) handed number) ∙ ap (unary_found number place handed op a) (sym e))

-- two rows of one operand
operand_told : (a b : Known) (told : List Told) → told ≡ OperandIs a ∷ [] → told ≡ OperandIs b ∷ [] → a ≡ b
operand_told a b told e f = let same : OperandIs a ∷ [] ≡ OperandIs b ∷ [] = sym e ∙ f in cc same

one_unary : (l : Language) (env : l.Environment) (number : ℕ) (place : Place) (handed : List Handed) (op : UnaryOp) (told : List Told) (first second : Outcome Known)
    → IsUnaryRow l env number place handed op told first → IsUnaryRow l env number place handed op told second → first ≡ second
one_unary l env number place handed op told first second e f =
    e.2 ∙ (ap (λ (a : Known). unary_found number place handed op a (operand (l.structs env) a)) (operand_told e.0 f.0 told e.1 f.1) ∙ sym f.2)

-- binary operators
whatever : {A : Type 0} (b : Bool) (a : A) → (if b then a else a) ≡ a
whatever true a = refl
whatever false a = refl

comma_value : (left : Kind) (x : Option ℕ) (right : Kind) (y : Option ℕ) → binary_value Comma left x right y ≡ None
comma_value (Integer s) (Some x) (Integer t) (Some y) = whatever (is_whole s && is_whole t) None
comma_value (Integer s) (Some x) (Integer t) None = refl
comma_value (Integer s) (Some x) (Pointer item target) y = refl
comma_value (Integer s) (Some x) (Array item target) y = refl
comma_value (Integer s) (Some x) (Struct number) y = refl
comma_value (Integer s) (Some x) Void y = refl
comma_value (Integer s) None right y = refl
comma_value (Pointer item target) x right y = refl
comma_value (Array item target) x right y = refl
comma_value (Struct number) x right y = refl
comma_value Void x right y = refl

abbrev binary_found : ℕ → Place → List Handed → BinaryOp → Known → Known → Group → Operand → Operand → Outcome Known
binary_found number place handed op a b group left right =
    found_at (λ broken. place) (operated group left right) (valued (binary_value op left.kind a.value right.kind b.value)) handed number

abbrev IsBinaryRow : (l : Language) → l.Environment → ℕ → Place → List Handed → BinaryOp → List Told → Outcome Known → Type 0
IsBinaryRow l env number place handed op told outcome =
    (a : Known) × (b : Known) × (told ≡ OperandIs a ∷ OperandIs b ∷ [])
    × (outcome ≡ binary_found number place handed op a b (group_of op) (operand (l.structs env) a) (operand (l.structs env) b))

grouped : (l : Language) (env : l.Environment) (number : ℕ) (place : Place) (handed : List Handed) (op : BinaryOp) (a b : Known) (group : Group) (left right : Operand)
    → group_of op ≡ group → operand (l.structs env) a ≡ left → operand (l.structs env) b ≡ right
    → IsBinaryRow l env number place handed op (OperandIs a ∷ OperandIs b ∷ []) (binary_found number place handed op a b group left right)
grouped l env number place handed op a b group left right g e f = (a, b, refl, λ i. binary_found number place handed op a b (sym g i) (sym e i) (sym f i))

binary_row : {l : Language} {env : l.Environment} {number : ℕ} {place : Place} {handed : List Handed} {op : BinaryOp} {one other : Expr} {told : List Told} {outcome : Outcome Known}
    → AtNode l env number place handed (Binary op one other) told outcome → IsBinaryRow l env number place handed op told outcome
binary_row {l} {env} {number} {place} {handed} (ArithmeticOperator {a = a} {b = b} {left = left} {right = right} {op = op} g e f) = grouped l env number place handed op a b _ left right g e f
binary_row {l} {env} {number} {place} {handed} (AdditionOperator {a = a} {b = b} {left = left} {right = right} {op = op} g e f) = grouped l env number place handed op a b _ left right g e f
binary_row {l} {env} {number} {place} {handed} (SubtractionOperator {a = a} {b = b} {left = left} {right = right} {op = op} g e f) = grouped l env number place handed op a b _ left right g e f
binary_row {l} {env} {number} {place} {handed} (ShiftOperator {a = a} {b = b} {left = left} {right = right} {op = op} g e f) = grouped l env number place handed op a b _ left right g e f
binary_row {l} {env} {number} {place} {handed} (RelationalOperator {a = a} {b = b} {left = left} {right = right} {op = op} g e f) = grouped l env number place handed op a b _ left right g e f
binary_row {l} {env} {number} {place} {handed} (EqualityOperator {a = a} {b = b} {left = left} {right = right} {op = op} g e f) = grouped l env number place handed op a b _ left right g e f
binary_row {l} {env} {number} {place} {handed} (LogicalOperator {a = a} {b = b} {left = left} {right = right} {op = op} g e f) = grouped l env number place handed op a b _ left right g e f
binary_row {l} {env} {number} {place} {handed} (CommaOperator {a = a} {b = b} {left = left} {right = right} e f) = (
  a,
  b,
  refl,
  ap (λ (value : Option ℕ). found_at (λ broken. place) (operated (group_of Comma) left right) (valued value) handed number) (sym (comma_value left.kind a.value right.kind b.value))
      ∙ (λ i. binary_found number place handed Comma a b (group_of Comma) (sym e i) (sym f i)),
)

operands_told : (a b c d : Known) (told : List Told) → told ≡ OperandIs a ∷ OperandIs b ∷ [] → told ≡ OperandIs c ∷ OperandIs d ∷ [] → (a ≡ c) × (b ≡ d)
operands_told a b c d told e f = let same : OperandIs a ∷ OperandIs b ∷ [] ≡ OperandIs c ∷ OperandIs d ∷ [] = sym e ∙ f in (cc same, cc same)

one_binary : (l : Language) (env : l.Environment) (number : ℕ) (place : Place) (handed : List Handed) (op : BinaryOp) (told : List Told) (first second : Outcome Known)
    → IsBinaryRow l env number place handed op told first → IsBinaryRow l env number place handed op told second → first ≡ second
one_binary l env number place handed op told first second e f =
    let same : (e.0 ≡ f.0) × (e.1 ≡ f.1) = operands_told e.0 e.1 f.0 f.1 told e.2 f.2 in
    e.3 ∙ ((λ i. binary_found number place handed op (same.0 i) (same.1 i) (group_of op) (operand (l.structs env) (same.0 i)) (operand (l.structs env) (same.1 i))) ∙ sym f.3)

-- the values of indices
one_index : (xs ys : List ℕ) → map IndexIs xs ≡ map IndexIs ys → xs ≡ ys
one_index [] [] e = refl
one_index [] (y ∷ ys) e = absurd (cc e)
one_index (x ∷ xs) [] e = absurd (cc e)
one_index (x ∷ xs) (y ∷ ys) e =
    let head : x ≡ y = cc e in
    let tail : map IndexIs xs ≡ map IndexIs ys = cc e in
    λ i. head i ∷ one_index xs ys tail i

pub one_rule : (l : Language) (env : l.Environment) (number : ℕ) (place : Place) (handed : List Handed) (form : Form) (told : List Told) (first second : Outcome Known)
    → AtNode l env number place handed form told first → AtNode l env number place handed form told second → first ≡ second
one_rule l env number place handed (Name name) told first second a b = one_named l env number place handed (l.entity name env) first second (named_row a) (named_row b)
one_rule l env number place handed (Unary op arg) told first second a b = one_unary l env number place handed op told first second (unary_row a) (unary_row b)
one_rule l env number place handed (Binary op one other) told first second a b = one_binary l env number place handed op told first second (binary_row a) (binary_row b)
one_rule l env number place handed (Constant text) told first second (ConstantOfType {meant = a} {spelling = spelling} e) (ConstantOfType {meant = b} f) =
    ap (λ (m : ConstantMeant). Passes (constant_known m) (behind handed number (constant_known m))) (one_meaning l spelling a b e f)
one_rule l env number place handed (Constant text) told first second (ConstantOfType {meant = a} {spelling = spelling} e) (ConstantOfNoType f) = fits_or_not l spelling a e f
one_rule l env number place handed (Constant text) told first second (ConstantOfNoType e) (ConstantOfType {meant = b} {spelling = spelling} f) = fits_or_not l spelling b f e
one_rule l env number place handed (Constant text) told first second (ConstantOfNoType e) (ConstantOfNoType f) = refl
one_rule l env number place handed (Constant text) told first second (ConstantOfType {meant = a} {spelling = spelling} e) (SpellingOfNoConstant f) = means_or_not l spelling a e f
one_rule l env number place handed (Constant text) told first second (SpellingOfNoConstant e) (ConstantOfType {meant = b} {spelling = spelling} f) = means_or_not l spelling b f e
one_rule l env number place handed (Constant text) told first second (ConstantOfNoType e) (SpellingOfNoConstant f) = refl
one_rule l env number place handed (Constant text) told first second (SpellingOfNoConstant e) (ConstantOfNoType f) = refl
one_rule l env number place handed (Constant text) told first second (SpellingOfNoConstant e) (SpellingOfNoConstant f) = refl
one_rule l env number place handed (Inner body close) told first second StatementExpression StatementExpression = refl
one_rule l env number place handed AssertFail told first second AssertionFailed AssertionFailed = refl
one_rule l env number place handed (Index base index) told first second (Subscript {b = b} {i = i} e f g) (Subscript e' f' g') =
    let lefts = sym e ∙ e' in
    let rights = sym f ∙ f' in
    let counts = sym g ∙ (ap (λ (left : Operand). item_bytes l.abi (l.structs env) left.kind) lefts ∙ g') in
    λ j. found_at (λ broken. place) (indexed (decayed (lefts j).kind) (decayed (rights j).kind)) (located (at_index b.idiom (word_of (rights j).kind i.value) (counts j))) handed number
one_rule l env number place handed (Call calls with) told first second (CallOfFunction {callee = callee} {name = name} {function = function} args e f settled) (CallOfFunction others e' f' also) =
    let results = sym e ∙ e' in
    let params = sym f ∙ f' in
    let all = one_arguments args others in
    settled_alike _ _ _ _ _ _ first second (λ i. call_faults (l.strict env) place callee.place name function.built_in (results i) (params i) (all i)) refl refl settled also
one_rule l env number place handed (Call calls with) told first second CallOfOther CallOfOther = refl
one_rule l env number place handed (ExprForm::Member base member thus) told first second (MemberOfStruct {b = b} {name = name} e f) (MemberOfStruct e' f') =
    let judgements = sym e ∙ e' in
    let offsets = sym f ∙ f' in
    λ i. found_at (place_of_member place name.place) (judgements i) (λ t. record (located (within b.idiom (offsets i)) t) { lvalue = b.lvalue }) handed number
one_rule l env number place handed (ExprForm::Member base member thus) told first second (MemberOfPointed {b = b} {name = name} d e f) (MemberOfPointed d' e' f') =
    let lefts = sym d ∙ d' in
    let judgements = sym e ∙ (ap (λ (left : Operand). member_through (l.structs env) left.kind name.name) lefts ∙ e') in
    let offsets = sym f ∙ (ap (λ (left : Operand). pointed_offset l.abi (l.structs env) left.kind name.name) lefts ∙ f') in
    λ i. found_at (place_of_member place name.place) (judgements i) (located (through b.idiom (offsets i))) handed number
one_rule l env number place handed (Count up after arg) told first second (Counting e) (Counting f) = ap (λ (left : Operand). found_at (λ broken. place) (counted left) plain handed number) (sym e ∙ f)
one_rule l env number place handed (SizeOf arg) told first second (SizeOfExpression e settled) (SizeOfExpression f also) =
    let same = sym e ∙ f in
    settled_alike _ _ _ _ _ _ first second (ap (size_faults place) same) (ap sized_known same) (ap (λ (size : Extent). behind handed number (sized_known size)) same) settled also
one_rule l env number place handed (SizeOfType to) told first second (SizeOfTypeName {named = named} e settled) (SizeOfTypeName f also) =
    let same = sym e ∙ f in
    settled_alike _ _ _ _ _ _ first second (ap (λ (size : Extent). all_at place named.found ++ size_faults place size) same) (ap sized_known same) (ap (λ (size : Extent). behind handed number (sized_known size)) same) settled also
one_rule l env number place handed (OffsetOf to way_to) _ first second (OffsetOfMember {path = path} {named = named} {indices = indices} {way = way} told leads settled) (OffsetOfMember {indices = others} {way = other} also leading further) =
    let same = one_index others indices (sym also ∙ told) in
    let ways = one_way leads (subst (λ (xs : List ℕ). LeadsFrom l.abi (l.structs env) place named.ctype (map out-Part path) xs other) same leading) in
    settled_alike _ _ _ _ _ _ first second (ap (λ (w : Way). all_at place named.found ++ way_faults w) ways) (ap (λ (w : Way). offset_known (way_offset w)) ways) (ap (λ (w : Way). behind handed number (offset_known (way_offset w))) ways) settled further
one_rule l env number place handed (Cast to arg) told first second (CastToType {named = named} {a = a} e f settled) (CastToType e' f' also) =
    let targets = sym e ∙ e' in
    let lefts = sym f ∙ f' in
    settled_alike _ _ _ _ _ _ first second
    (λ i. all_at place named.found ++ faults_of place (cast (targets i) named.ctype (decayed (lefts i).kind) (lefts i).null (is_idiom a.idiom)))
    (λ i. cast_known named.ctype (targets i) (lefts i).kind a) (λ i. behind handed number (cast_known named.ctype (targets i) (lefts i).kind a)) settled also
one_rule l env number place handed (Choose test arm last) told first second (ConditionalOperator {t = t} {a = a} {b = b} d e f) (ConditionalOperator d' e' f') =
    let tests = sym d ∙ d' in
    let lefts = sym e ∙ e' in
    let rights = sym f ∙ f' in
    λ i. found_at (λ broken. place) (chosen (tests i) (lefts i) (rights i)) (valued (choice_value (tests i).kind t.value (lefts i).kind a.value (rights i).kind b.value)) handed number
one_rule l env number place handed (Assign how one other) told first second (Assignment {other = value} e f) (Assignment e' f') =
    λ i. found_at (place_of_assignment place value.place) (assigned ((sym e ∙ e') i) ((sym f ∙ f') i)) plain handed number
one_rule l env number place handed (Assign how one other) told first second (CompoundAssignment {op = op} e f) (CompoundAssignment e' f') =
    λ i. found_at (λ broken. place) (updated op ((sym e ∙ e') i) ((sym f ∙ f') i)) plain handed number
