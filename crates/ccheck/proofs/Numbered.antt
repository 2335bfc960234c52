-- What is broken at operators has a number.
use Rattle.std.proofs.Common.{ℕ, Bool, true, false, List, [], ◌∷◌, Option, Some, None, lit≤}
use Rattle.std.specs.List.{AllByRecursion}
use Rattle.std.specs.Prelude.{◌&&◌, ◌||◌, if◌then◌else◌}
use Rattle.cbase.specs.declared.ctype.CType.{CType}
use Rattle.cbase.specs.declared.structs.StructDef.{StructDef}
use Rattle.cbase.specs.declared.tree.operators.BinaryOp.{BinaryOp}
use Rattle.cbase.specs.declared.tree.operators.UnaryOp.{UnaryOp}
use Rattle.cbase.specs.declared.tree.operators.UnaryOp.TheVariants.{Address, Follow, Plus, Minus, Flip, Not}
use Rattle.typing.specs.declared.ctypes.binary.Group.{Group}
use Rattle.typing.specs.declared.ctypes.binary.Group.TheVariants.{Arithmetic, Shift, Sum, Difference, Order, Equality, Logic, Sequence}
use Rattle.typing.specs.declared.ctypes.found.Broken.{Broken}
use Rattle.typing.specs.declared.ctypes.found.Broken.TheVariants.{Construct, Rule}
use Rattle.typing.specs.declared.ctypes.kind.Target.{Target}
use Rattle.typing.specs.declared.ctypes.kind.Target.TheVariants.{Void as VoidTarget, Sized, Unsized}
use Rattle.typing.specs.ctypes.Assigning.{assigned, updated, followed_by, assignment_demands, update_demands}
use Rattle.typing.specs.ctypes.Binary.{group_of, arithmetic, shifted, moved, added, subtracted, ordered, equated, is_scalar, sequenced, operated}
use Rattle.typing.specs.ctypes.Broken.{Judgement, Typed, Breaks, Demand, judged}
use Rattle.typing.specs.ctypes.Choosing.{joined, chosen}
use Rattle.typing.specs.ctypes.Converting.{cast}
use Rattle.typing.specs.ctypes.Kinds.{Kind, Integer, Pointer, Array, Struct, Void, kind_of, decayed, has_size}
use Rattle.typing.specs.ctypes.Members.{item_at, indexed, named, type_of_member, member_in, member_of, member_through}
use Rattle.typing.specs.ctypes.Operands.{Operand}
use Rattle.typing.specs.ctypes.Unary.{signed, followed, unary, counted, count_demands}
use Rattle.cbase.specs.Refused.{IsConstruct}
use Rattle.ccheck.specs.Placed.{IsRule}

-- what is broken has the number of a construct or of a rule
abbrev pub HasNumber : Broken → Type 0
HasNumber (Construct number) = IsConstruct number
HasNumber (Rule number) = IsRule number

-- so has what is found at an operator, where it is broken
abbrev pub IsNumbered : Judgement → Type 0
IsNumbered (Typed t) = Unit {0}
IsNumbered (Breaks broken) = HasNumber broken

pub numbered_if : (test : Bool) (one other : Judgement) → IsNumbered one → IsNumbered other → IsNumbered (if test then one else other)
numbered_if true one other is also = is
numbered_if false one other is also = also

pub numbered_judged : (demands : List Demand) (t : CType) → AllByRecursion (λ (demand : Demand). HasNumber demand.broken) demands → IsNumbered (judged demands t)
numbered_judged [] t all = tt
numbered_judged (demand ∷ demands) t all = numbered_if demand.holds (judged demands t) (Breaks demand.broken) (numbered_judged demands t all.1) all.0

pub rule_3 : HasNumber (Rule 3)
rule_3 = (lit≤ tt, lit≤ tt)

pub rule_4 : HasNumber (Rule 4)
rule_4 = (lit≤ tt, lit≤ tt)

pub rule_5 : HasNumber (Rule 5)
rule_5 = (lit≤ tt, lit≤ tt)

pub rule_6 : HasNumber (Rule 6)
rule_6 = (lit≤ tt, lit≤ tt)

pub rule_8 : HasNumber (Rule 8)
rule_8 = (lit≤ tt, lit≤ tt)

-- binary operators
arithmetic_numbered : (left right : Kind) → IsNumbered (arithmetic left right)
arithmetic_numbered (Integer left) (Integer right) = tt
arithmetic_numbered left right = rule_4

shifted_numbered : (left right : Kind) → IsNumbered (shifted left right)
shifted_numbered (Integer left) (Integer right) = tt
shifted_numbered left right = rule_4

moved_numbered : (item : CType) (target : Target) → IsNumbered (moved item target)
moved_numbered item VoidTarget = tt
moved_numbered item Sized = tt
moved_numbered item Unsized = rule_4

added_numbered : (left right : Kind) → IsNumbered (added left right)
added_numbered (Integer left) (Integer right) = tt
added_numbered (Pointer item target) (Integer right) = moved_numbered item target
added_numbered (Integer left) (Pointer item target) = moved_numbered item target
added_numbered left right = rule_4

subtracted_numbered : (left right : Kind) → IsNumbered (subtracted left right)
subtracted_numbered (Integer left) (Integer right) = tt
subtracted_numbered (Pointer item target) (Integer right) = moved_numbered item target
subtracted_numbered (Pointer item target) (Pointer other other_target) = (lit≤ tt, lit≤ tt)
subtracted_numbered left right = rule_4

ordered_numbered : (left right : Kind) → IsNumbered (ordered left right)
ordered_numbered (Integer left) (Integer right) = tt
ordered_numbered (Pointer item target) (Pointer other other_target) = (lit≤ tt, lit≤ tt)
ordered_numbered left right = rule_4

equated_numbered : (left : Kind) (left_null : Bool) (right : Kind) (right_null : Bool) → IsNumbered (equated left left_null right right_null)
equated_numbered (Integer left) left_null (Integer right) right_null = tt
equated_numbered (Pointer item target) left_null (Pointer other other_target) right_null = tt
equated_numbered (Pointer item target) left_null (Integer right) right_null = numbered_if right_null _ _ tt rule_4
equated_numbered (Integer left) left_null (Pointer item target) right_null = numbered_if left_null _ _ tt rule_4
equated_numbered left left_null right right_null = rule_4

sequenced_numbered : (left right : Kind) (t : CType) → IsNumbered (sequenced left right t)
sequenced_numbered (Struct number) right t = rule_4
sequenced_numbered left (Struct number) t = rule_4
sequenced_numbered left (Array item target) t = tt
sequenced_numbered left right t = tt

pub operated_numbered : (group : Group) (left right : Operand) → IsNumbered (operated group left right)
operated_numbered Arithmetic left right = arithmetic_numbered (decayed left.kind) (decayed right.kind)
operated_numbered Shift left right = shifted_numbered (decayed left.kind) (decayed right.kind)
operated_numbered Sum left right = added_numbered (decayed left.kind) (decayed right.kind)
operated_numbered Difference left right = subtracted_numbered (decayed left.kind) (decayed right.kind)
operated_numbered Order left right = ordered_numbered (decayed left.kind) (decayed right.kind)
operated_numbered Equality left right = equated_numbered (decayed left.kind) left.null (decayed right.kind) right.null
operated_numbered Logic left right = numbered_if (is_scalar left.kind && is_scalar right.kind) _ _ tt rule_4
operated_numbered Sequence left right = sequenced_numbered left.kind right.kind right.ctype

-- assignments
pub assigned_numbered : (left right : Operand) → IsNumbered (assigned left right)
assigned_numbered left right = numbered_judged (assignment_demands left right) _ (rule_4, (rule_5, (rule_8, tt)))

followed_numbered_by : (first rest : Judgement) → IsNumbered first → IsNumbered rest → IsNumbered (followed_by first rest)
followed_numbered_by (Typed t) rest is also = also
followed_numbered_by (Breaks broken) rest is also = is

pub updated_numbered : (op : BinaryOp) (left right : Operand) → IsNumbered (updated op left right)
updated_numbered op left right = followed_numbered_by _ _ (operated_numbered (group_of op) left right) (numbered_judged (update_demands (group_of op) left right) _ (rule_4, (rule_8, tt)))

-- `?:`
joined_numbered : (first : Kind) (first_null : Bool) (second : Kind) (second_null : Bool) → IsNumbered (joined first first_null second second_null)
joined_numbered (Integer first) first_null (Integer second) second_null = tt
joined_numbered (Pointer first first_target) first_null (Pointer second second_target) second_null = tt
joined_numbered (Pointer item target) first_null (Integer second) second_null = numbered_if second_null _ _ tt rule_4
joined_numbered (Integer first) first_null (Pointer item target) second_null = numbered_if first_null _ _ tt rule_4
joined_numbered Void first_null Void second_null = tt
joined_numbered first first_null second second_null = rule_4

pub chosen_numbered : (test first second : Operand) → IsNumbered (chosen test first second)
chosen_numbered test first second = numbered_if (is_scalar test.kind) _ _ (joined_numbered (decayed first.kind) first.null (decayed second.kind) second.null) rule_4

-- unary operators
signed_numbered : (kind : Kind) → IsNumbered (signed kind)
signed_numbered (Integer t) = tt
signed_numbered (Pointer item target) = rule_4
signed_numbered (Array item target) = rule_4
signed_numbered (Struct number) = rule_4
signed_numbered Void = rule_4

followed_numbered : (kind : Kind) → IsNumbered (followed kind)
followed_numbered (Integer t) = rule_4
followed_numbered (Pointer item target) = tt
followed_numbered (Array item target) = tt
followed_numbered (Struct number) = rule_4
followed_numbered Void = rule_4

pub unary_numbered : (op : UnaryOp) (operand : Operand) → IsNumbered (unary op operand)
unary_numbered Plus operand = signed_numbered operand.kind
unary_numbered Minus operand = signed_numbered operand.kind
unary_numbered Flip operand = signed_numbered operand.kind
unary_numbered Not operand = numbered_if (is_scalar operand.kind) _ _ tt rule_4
unary_numbered Follow operand = followed_numbered operand.kind
unary_numbered Address operand = numbered_if operand.lvalue _ _ tt rule_8

pub counted_numbered : (operand : Operand) → IsNumbered (counted operand)
counted_numbered operand = numbered_judged (count_demands operand) _ (rule_4, (rule_8, tt))

-- casts
pub cast_numbered : (to : Kind) (t : CType) (from : Kind) (null idiom : Bool) → IsNumbered (cast to t from null idiom)
cast_numbered Void t (Struct from) null idiom = rule_4
cast_numbered Void t from null idiom = tt
cast_numbered (Integer to) t (Integer from) null idiom = tt
cast_numbered (Integer to) t (Pointer item target) null idiom = numbered_if (to.truth || idiom) _ _ tt (lit≤ tt, lit≤ tt)
cast_numbered (Pointer item target) t (Pointer other other_target) null idiom = tt
cast_numbered (Pointer item target) t (Integer from) null idiom = numbered_if null _ _ tt (lit≤ tt, lit≤ tt)
cast_numbered to t from null idiom = rule_4

-- members
item_numbered : (item : CType) (target : Target) → IsNumbered (item_at item target)
item_numbered item VoidTarget = tt
item_numbered item Sized = tt
item_numbered item Unsized = rule_3

pub indexed_numbered : (left right : Kind) → IsNumbered (indexed left right)
indexed_numbered (Pointer item target) (Integer index) = item_numbered item target
indexed_numbered (Integer index) (Pointer item target) = item_numbered item target
indexed_numbered left right = rule_4

named_numbered : (found : Option CType) → IsNumbered (named found)
named_numbered None = rule_6
named_numbered (Some t) = tt

member_numbered_in : (structs : List StructDef) (sized : Bool) (kind : Kind) (name : List ℕ) → IsNumbered (member_in structs sized kind name)
member_numbered_in structs sized (Integer t) name = rule_4
member_numbered_in structs sized (Pointer item target) name = rule_4
member_numbered_in structs sized (Array item target) name = rule_4
member_numbered_in structs sized (Struct number) name = numbered_if sized _ _ (named_numbered (type_of_member structs number name)) rule_3
member_numbered_in structs sized Void name = rule_4

pub member_numbered : (structs : List StructDef) (t : CType) (name : List ℕ) → IsNumbered (member_of structs t name)
member_numbered structs t name = member_numbered_in structs (has_size structs t) (kind_of structs t) name

pub member_through_numbered : (structs : List StructDef) (kind : Kind) (name : List ℕ) → IsNumbered (member_through structs kind name)
member_through_numbered structs (Integer t) name = rule_4
member_through_numbered structs (Pointer item target) name = member_numbered structs item name
member_through_numbered structs (Array item target) name = member_numbered structs item name
member_through_numbered structs (Struct number) name = rule_4
member_through_numbered structs Void name = rule_4
