-- Choices and assignments of the examples.
use Rattle.std.proofs.Common.{Some, None, refl, ap}
use Rattle.std.specs.Prelude.{is_some, codes}
use Rattle.cbase.specs.declared.tree.expr.ExprForm.TheViews.{outs-Unary, outs-Assign, outs-Choose}
use Rattle.cbase.specs.declared.tree.operators.UnaryOp.TheVariants.{Follow}
use Rattle.cbase.specs.declared.tree.operators.BinaryOp.TheVariants.{Add, Sub}
use Rattle.typing.specs.Examples.{AreAssigned}
use Rattle.typing.specs.Sample.{start}
use Rattle.typing.specs.Rules.{Indirection, ConditionalOperator, Assignment, CompoundAssignment}
use Rattle.typing.specs.Typing.{RefusedInside, Walked, RefusedHere, LoadOfIncomplete}
use Rattle.typing.proofs.SampleFacts.{laid_void, k_int, k_unsigned, k_s, k_p, k_q, k_row, seen, int_of, unsigned_of, vn, vp, vq, vrow, vx, vfive, vread, one, two, three, m_5, m_0u, v0, v1}

pub are_assigned : AreAssigned
are_assigned = record {
  with_null = (_, _, _, Walked (outs-Choose _ _ _) (three (vn 0 0) (vp 1 2) (v0 2 4)) (ConditionalOperator (seen k_int) (seen k_p) (seen k_int)), refl);
  of_numbers = (_, _, _, Walked (outs-Choose _ _ _) (three (v1 0 0) (vfive 1 2) (vread (codes "0u") (unsigned_of 0) 2 4 m_0u)) (ConditionalOperator (seen k_int) (seen k_int) (seen k_unsigned)), refl, refl);
  not_together = (start, Walked (outs-Choose _ _ _) (three (vn 0 0) (vp 1 2) (vn 2 4)) (ConditionalOperator (seen k_int) (seen k_p) (seen k_int)));
  assigned = (_, _, _, Walked (outs-Assign None _ _) (two (vn 0 0) (vread (codes "5") (int_of 5) 1 2 m_5)) (Assignment (seen k_int) (seen k_int)), refl);
  struct_assigned = (_, _, _, Walked (outs-Assign None _ _) (two (vx 0 0) (vx 1 2)) (Assignment (seen k_s) (seen k_s)), refl);
  to_value = (start, Walked (outs-Assign None _ _) (two (vfive 0 0) (vn 1 2)) (Assignment (seen k_int) (seen k_int)));
  unconverted = (start, Walked (outs-Assign None _ _) (two (vq 0 0) (vn 1 2)) (Assignment (seen k_q) (seen k_int)));
  to_array = (start, Walked (outs-Assign None _ _) (two (vrow 0 0) (vrow 1 2)) (Assignment (seen (k_row 3)) (seen (k_row 3))));
  to_void = (start, RefusedInside (outs-Assign None _ _) (RefusedHere (LoadOfIncomplete (Walked (outs-Unary Follow _) (one (vp 0 1)) (Indirection (seen k_p))) (ap is_some laid_void))));
  updated = (_, _, _, Walked (outs-Assign (Some Add) _ _) (two (vq 0 0) (v1 1 2)) (CompoundAssignment (seen k_q) (seen k_int)), refl);
  not_back = (start, Walked (outs-Assign (Some Add) _ _) (two (vn 0 0) (vp 1 2)) (CompoundAssignment (seen k_int) (seen k_p)));
  of_pointers = (start, Walked (outs-Assign (Some Sub) _ _) (two (vq 0 0) (vq 1 2)) (CompoundAssignment (seen k_q) (seen k_q)));
}
