-- Shapes compared.
use Rattle.std.proofs.Common.{◌≡◌, Bool, true, rules}
use Rattle.typing.specs.declared.ctypes.shape.Shape.{Shape}
use Rattle.typing.specs.contracts.ctypes.shape.ShapePartialEq.TheImpl as shape_eq

-- how a set compares shapes
abbrev pub is_same : Shape → Shape → Bool
is_same = (shape_eq.ghosts).eq

pub same_true : (x y : Shape) → is_same x y ≡ true → x ≡ y
same_true x y e = search rules

pub true_same : (x y : Shape) → x ≡ y → is_same x y ≡ true
true_same x y e = search rules
