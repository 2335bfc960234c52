-- What an expression comes to without a memory: by the operations of the machine on plain words, and on addresses in static objects, where the block of an
-- address is the number of its variable. It is worked out anew, so that nothing rests on what typing says a constant is.
use Rattle.std.specs.Prelude.{ℕ, zero, suc, ◌*◌, Bool, true, false, List, [], pos, nat_le, Option, None, Some, option_and_then, if◌then◌else◌}
use Rattle.std.specs.Option.{option_map}
use Rattle.cbase.specs.declared.tree.operators.BinaryOp.{BinaryOp}
use Rattle.cbase.specs.declared.tree.operators.BinaryOp.TheVariants.{Add, Sub, Both, Either, Comma}
use Rattle.cbase.specs.declared.tree.operators.UnaryOp.{UnaryOp}
use Rattle.cbase.specs.declared.tree.operators.UnaryOp.TheVariants.{Address, Follow, Not}
use Rattle.bytes_core.specs.declared.word.Word.{Word}
use Rattle.bytes_core.specs.declared.word.Word.TheVariants.{Plain, To}
use Rattle.bytes_core.specs.Value.{moved}
use Rattle.c_machine.specs.declared.kind.Kind.{Kind}
use Rattle.c_machine.specs.declared.kind.Kind.TheVariants.{Integer, Pointer, Array}
use Rattle.c_machine.specs.Text.{Standing, ObjectStands, ConstantStands, Form, Name as NameForm, Known, Unary, Binary, Choose, Cast, Index, Member, Text}
use Rattle.c_machine.specs.Words.{is_true, told, as_kind, applied, operated}
use Rattle.c_machine.specs.Expressions.{value_kind}
use Rattle.simulation.specs.Names.{Name, variable_in}
pub use Rattle.lowering.specs.declared.asked.Asked.{Asked}
pub use Rattle.lowering.specs.declared.asked.Asked.TheVariants.{Value, Place}

-- an operator on words: an address is only moved by a number
abbrev pub operated_on : BinaryOp → Kind → Kind → Word → Word → Option Word
operated_on op left right (Plain one) (Plain other) = operated [] op left right (Plain one) (Plain other)
operated_on Add (Pointer bytes) (Integer right) (To block offset) (Plain other) = operated [] Add (Pointer bytes) (Integer right) (To block offset) (Plain other)
operated_on Sub (Pointer bytes) (Integer right) (To block offset) (Plain other) = operated [] Sub (Pointer bytes) (Integer right) (To block offset) (Plain other)
operated_on Add (Integer left) (Pointer bytes) (Plain one) (To block offset) = operated [] Add (Integer left) (Pointer bytes) (Plain one) (To block offset)
operated_on op left right one other = None

abbrev pub applied_to : UnaryOp → Kind → Word → Option Word
applied_to op kind (Plain number) = applied [] op kind (Plain number)
applied_to op kind (To block offset) = None

-- an address becomes no integer, and no integer becomes one
abbrev pub converted_to : Kind → Kind → Word → Option Word
converted_to from to (Plain number) = Some (as_kind [] from to (Plain number))
converted_to (Pointer from) (Pointer to) (To block offset) = Some (To block offset)
converted_to from to (To block offset) = None

abbrev pub answered : Bool → Word → Option Word
answered asked (Plain number) = Some (told asked (is_true [] (Plain number)))
answered asked (To block offset) = None

abbrev pub truth_of : Word → Option Bool
truth_of (Plain number) = Some (is_true [] (Plain number))
truth_of (To block offset) = None

-- an array is known by its address, and no other object by what it holds
abbrev pub loaded_from : Kind → Option Word → Option Word
loaded_from (Array bytes) at = at
loaded_from kind at = None

abbrev pub object_word : List Name → ℕ → Option Word
object_word statics token = option_map (λ variable. To variable (pos 0)) (variable_in statics token)

abbrev pub named_word : List Name → Standing → Option Word
named_word statics (ObjectStands token) = object_word statics token
named_word statics other = None

abbrev pub name_word : List Name → Kind → Standing → Option Word
name_word statics kind (ConstantStands bits) = Some (Plain bits)
name_word statics kind other = loaded_from kind (named_word statics other)

abbrev pub both : Option Word → Option Word → (Word → Word → Option Word) → Option Word
both (Some one) (Some other) make = make one other
both one other make = None

-- `&&`, `||` and `?:` behind their first part
abbrev pub and_then : Option Bool → Option Word → Option Word
and_then (Some true) right = right
and_then (Some false) right = Some (Plain 0)
and_then None right = None

abbrev pub or_else : Option Bool → Option Word → Option Word
or_else (Some true) right = Some (Plain 1)
or_else (Some false) right = right
or_else None right = None

abbrev pub picked : Option Bool → Option Word → Option Word → Option Word
picked (Some true) one other = one
picked (Some false) one other = other
picked None one other = None

abbrev pub binary_word : (t : Text) → (Asked → t.Expr → Option Word) → BinaryOp → t.Expr → t.Expr → Option Word
binary_word t known Both left right = and_then (option_and_then truth_of (known Value left)) (option_and_then (answered true) (known Value right))
binary_word t known Either left right = or_else (option_and_then truth_of (known Value left)) (option_and_then (answered true) (known Value right))
binary_word t known Comma left right = None
binary_word t known op left right = both (known Value left) (known Value right) (operated_on op (value_kind t left) (value_kind t right))

abbrev pub word_as : (t : Text) → (Asked → t.Expr → Option Word) → t.Expr → Kind → Option Word
word_as t known expr kind = option_and_then (converted_to (value_kind t expr) kind) (known Value expr)

abbrev pub value_word : (t : Text) → List Name → (Asked → t.Expr → Option Word) → t.Expr → Form t.Expr t.Stmt → Option Word
value_word t statics known expr NameForm = name_word statics (t.kind expr) (t.stands expr)
value_word t statics known expr (Known bits) = option_map Plain bits
value_word t statics known expr (Unary Address arg) = known Place arg
value_word t statics known expr (Unary Follow arg) = loaded_from (t.kind expr) (known Place expr)
value_word t statics known expr (Unary Not arg) = option_and_then (answered false) (known Value arg)
value_word t statics known expr (Unary op arg) = option_and_then (applied_to op (value_kind t arg)) (known Value arg)
value_word t statics known expr (Binary op left right) = binary_word t known op left right
value_word t statics known expr (Choose test one other) =
    picked (option_and_then truth_of (known Value test)) (word_as t known one (value_kind t expr)) (word_as t known other (value_kind t expr))
value_word t statics known expr (Cast arg) = word_as t known arg (t.kind expr)
value_word t statics known expr (Index base index) = loaded_from (t.kind expr) (known Place expr)
value_word t statics known expr (Member base offset through) = loaded_from (t.kind expr) (known Place expr)
value_word t statics known expr other = None

abbrev pub place_word : (t : Text) → List Name → (Asked → t.Expr → Option Word) → t.Expr → Form t.Expr t.Stmt → Option Word
place_word t statics known expr NameForm = named_word statics (t.stands expr)
place_word t statics known expr (Unary Follow arg) = known Value arg
place_word t statics known expr (Index base index) =
    both (known Value base) (known Value index) (operated_on Add (value_kind t base) (value_kind t index))
place_word t statics known expr (Member base offset false) = option_map (λ word. moved word (pos offset)) (known Place base)
place_word t statics known expr (Member base offset true) = option_map (λ word. moved word (pos offset)) (known Value base)
place_word t statics known expr other = None

-- of expressions of at most so many levels
abbrev pub known_word : ℕ → (t : Text) → List Name → Asked → t.Expr → Option Word
known_word zero t statics asked expr = None
known_word (suc levels) t statics Value expr = value_word t statics (known_word levels t statics) expr (t.form expr)
known_word (suc levels) t statics Place expr = place_word t statics (known_word levels t statics) expr (t.form expr)

-- a size of an allocation and a length: a number of at most 65,536
abbrev pub size_in_word : Option Word → Option ℕ
size_in_word (Some (Plain number)) = if nat_le number 65536 then Some number else None
size_in_word other = None

-- an expression as an argument of a kind, where it comes to a number
abbrev pub argument_word : (t : Text) → t.Expr → Kind → Option Word
argument_word t expr kind = word_as t (known_word t.enough t []) expr kind

abbrev pub size_as : (t : Text) → t.Expr → Kind → Option ℕ
size_as t expr kind = size_in_word (argument_word t expr kind)

-- the size of `calloc` is a product
abbrev pub product_word : Word → Word → Option Word
product_word (Plain one) (Plain other) = Some (Plain (one * other))
product_word one other = None

abbrev pub product_as : (t : Text) → t.Expr → Kind → t.Expr → Kind → Option ℕ
product_as t one kind other kind' = size_in_word (both (argument_word t one kind) (argument_word t other kind') product_word)
