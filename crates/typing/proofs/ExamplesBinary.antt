-- Binary operators of the examples.
use Rattle.std.proofs.Common.{refl, ap}
use Rattle.std.specs.Prelude.{is_some, codes}
use Rattle.cbase.specs.declared.tree.expr.ExprForm.TheViews.{outs-Unary, outs-Binary}
use Rattle.cbase.specs.declared.tree.operators.UnaryOp.TheVariants.{Follow}
use Rattle.cbase.specs.declared.tree.operators.BinaryOp.TheVariants.{Mul, Div, Add, Sub, Left, Less, Equal, Both, Comma}
use Rattle.typing.specs.Examples.{AreBinary}
use Rattle.typing.specs.Sample.{start}
use Rattle.typing.specs.Rules.{Indirection, ArithmeticOperator, AdditionOperator, SubtractionOperator, ShiftOperator, RelationalOperator, EqualityOperator, LogicalOperator, CommaOperator}
use Rattle.typing.specs.Typing.{RefusedInside, Walked, RefusedHere, RefusedBehind, LoadOfIncomplete, LoadedRefused}
use Rattle.typing.proofs.SampleFacts.{laid_void, k_int, k_unsigned, k_char, k_p, k_q, k_z, seen, y, int_of, unsigned_of, vn, vu, vc, vp, vq, vx, vz, vfive, vread, one, two, m_3, m_4, m_0u, v0, v1, negative_one}

pub are_binary : AreBinary
are_binary = record {
  sum = (_, _, _, Walked (outs-Binary Add _ _) (two (vn 0 0) (v1 1 2)) (AdditionOperator refl (seen k_int) (seen k_int)), refl);
  of_unsigned = (_, _, _, Walked (outs-Binary Add _ _) (two (vn 0 0) (vu 1 2)) (AdditionOperator refl (seen k_int) (seen k_unsigned)), refl);
  of_constants = (_, _, _, Walked (outs-Binary Mul _ _) (two (vfive 0 0) (vread (codes "3") (int_of 3) 1 2 m_3)) (ArithmeticOperator refl (seen k_int) (seen k_int)), refl, refl);
  shifted = (_, _, _, Walked (outs-Binary Left _ _) (two (v1 0 0) (vread (codes "4") (int_of 4) 1 2 m_4)) (ShiftOperator refl (seen k_int) (seen k_int)), refl, refl);
  compared = (_, _, _, Walked (outs-Binary Less _ _) (two (negative_one 0 1 0) (vread (codes "0u") (unsigned_of 0) 2 3 m_0u)) (RelationalOperator refl (seen k_int) (seen k_unsigned)), refl, refl);
  divided = (_, _, _, Walked (outs-Binary Div _ _) (two (v1 0 0) (v0 1 2)) (ArithmeticOperator refl (seen k_int) (seen k_int)), refl, refl);
  pointer_moved = (_, _, _, Walked (outs-Binary Add _ _) (two (vq 0 0) (vn 1 2)) (AdditionOperator refl (seen k_q) (seen k_int)), refl);
  incomplete_moved = (start, Walked (outs-Binary Add _ _) (two (vz 0 0) (v1 1 2)) (AdditionOperator refl (seen k_z) (seen k_int)));
  difference = (start, Walked (outs-Binary Sub _ _) (two (vq 0 0) (vq 1 2)) (SubtractionOperator refl (seen k_q) (seen k_q)));
  order = (start, Walked (outs-Binary Less _ _) (two (vq 0 0) (vq 1 2)) (RelationalOperator refl (seen k_q) (seen k_q)));
  with_zero = (_, _, _, Walked (outs-Binary Equal _ _) (two (vp 0 0) (v0 1 2)) (EqualityOperator refl (seen k_p) (seen k_int)), refl);
  with_int = (start, Walked (outs-Binary Equal _ _) (two (vp 0 0) (vn 1 2)) (EqualityOperator refl (seen k_p) (seen k_int)));
  both = (_, _, _, Walked (outs-Binary Both _ _) (two (vn 0 0) (vp 1 2)) (LogicalOperator refl (seen k_int) (seen k_p)), refl);
  comma = (_, _, _, Walked (outs-Binary Comma _ _) (two (vn 0 0) (vc 1 2)) (CommaOperator (seen k_int) (seen k_char)), refl);
  left_first = (start, RefusedInside (outs-Binary Add _ _) (RefusedHere (LoadedRefused (y 0 0))));
  right_behind = (start, RefusedInside (outs-Binary Add _ _) (RefusedBehind (vx 0 0) (RefusedHere (LoadedRefused (y 1 2)))));
  load_first = (start, RefusedInside (outs-Binary Add _ _) (RefusedHere (LoadOfIncomplete (Walked (outs-Unary Follow _) (one (vp 0 1)) (Indirection (seen k_p))) (ap is_some laid_void))));
}
