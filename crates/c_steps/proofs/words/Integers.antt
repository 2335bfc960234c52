-- Operators on integers of types that the data layouts have are those of integer constant expressions.
use Rattle.std.proofs.Common.{◌≡◌, ℕ, true, Option, Some, refl, ◌∙◌}
use Rattle.cbase.specs.declared.tree.operators.BinaryOp.{BinaryOp}
use Rattle.cbase.specs.declared.tree.operators.UnaryOp.{UnaryOp}
use Rattle.typing.specs.declared.ctypes.kind.IntegerType.{IntegerType}
use Rattle.typing.specs.ctypes.Kinds.{Kind, Integer, integer_in}
use Rattle.typing.specs.values.Values.{is_whole, of_unary, unary_value, of_binary, binary_value}

pub of_one : (op : UnaryOp) (of : IntegerType) (bits : ℕ) (result : Option ℕ) → is_whole of ≡ true →
    ((kind : Kind) → integer_in kind ≡ Some of → result ≡ unary_value op kind (Some bits)) → result ≡ of_unary op of bits
of_one op of bits result whole is = is (Integer of) refl ∙ rw whole refl

pub of_two : (op : BinaryOp) (left : IntegerType) (x : ℕ) (right : IntegerType) (y : ℕ) (result : Option ℕ) →
    is_whole left ≡ true → is_whole right ≡ true →
    ((first second : Kind) → integer_in first ≡ Some left → integer_in second ≡ Some right →
    result ≡ binary_value op first (Some x) second (Some y)) →
    result ≡ of_binary op left x right y
of_two op left x right y result one other is = is (Integer left) (Integer right) refl refl ∙ rw (one, other) refl
