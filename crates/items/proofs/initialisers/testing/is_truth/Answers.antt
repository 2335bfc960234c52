-- The kind of a type, by its shape.
use Rattle.std.proofs.Common.{◌≡◌, ap, ◌∙◌, ℕ, ◌<◌, length}
use Rattle.typing.specs.declared.ctypes.shape.Shape.{Shape}
use Rattle.typing.specs.declared.ctypes.shape.Shape.TheVariants.{Void, Bool, Int, Pointer, Struct, Array}
use Rattle.typing.specs.ctypes.Table.{type_at, type_of}
use Rattle.typing.specs.ctypes.Kinds.{kind_of}
use Rattle.typing.proofs.ctypes.ShapeKinds.{kind_of_shape, kind_is}
use Rattle.typing.specs.Statements.{is_truth}
use Rattle.expressions.specs.Context.{Context, Agrees}
use Rattle.expressions.specs.Numbers.{Numbering}
use Rattle.expressions.proofs.Growth.{agrees_at}
use Rattle.items.proofs.initialisers.testing.is_truth.Goals as goal

by_shape : (context : Context) (number : ℕ) (shape : Shape) → number < length context.types → type_at context.types number ≡ type_of context.types shape
    → (n : Numbering) → Agrees n context → is_truth (kind_of_shape context.structs context.types shape) ≡ is_truth (kind_of context.structs (n.ctype number))
by_shape context number shape below is n agrees =
    ap is_truth (kind_is context.structs context.types (n.ctype number) shape (agrees_at n context number agrees below ∙ is))

pub returns-in-Void : goal.returns-in-Void
returns-in-Void c = λ n agrees. by_shape c.args.context.now c.args.number Void c.requires c.in-Void.ensures.is n agrees

pub returns-in-Bool : goal.returns-in-Bool
returns-in-Bool c = λ n agrees. by_shape c.args.context.now c.args.number Bool c.requires c.in-Bool.ensures.is n agrees

pub returns-in-Int : goal.returns-in-Int
returns-in-Int c = λ n agrees. by_shape c.args.context.now c.args.number (Int c.in-Int.bytes c.in-Int.signed) c.requires c.in-Int.ensures.is n agrees

pub returns-in-Pointer : goal.returns-in-Pointer
returns-in-Pointer c = λ n agrees. by_shape c.args.context.now c.args.number (Pointer c.in-Pointer.field-0) c.requires c.in-Pointer.ensures.is n agrees

pub returns-in-Struct : goal.returns-in-Struct
returns-in-Struct c = λ n agrees. by_shape c.args.context.now c.args.number (Struct c.in-Struct.field-0) c.requires c.in-Struct.ensures.is n agrees

pub returns-in-Array : goal.returns-in-Array
returns-in-Array c = λ n agrees. by_shape c.args.context.now c.args.number (Array c.in-Array.field-0 c.in-Array.field-1) c.requires c.in-Array.ensures.is n agrees
