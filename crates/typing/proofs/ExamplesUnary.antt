-- Unary operators of the examples.
use Rattle.std.proofs.Common.{true, false, refl, ap}
use Rattle.std.specs.Prelude.{is_some, codes}
use Rattle.cbase.specs.declared.tree.expr.ExprForm.TheViews.{outs-Name, outs-Unary, outs-Count}
use Rattle.cbase.specs.declared.tree.operators.UnaryOp.TheVariants.{Follow, Minus, Flip, Not, Address}
use Rattle.typing.specs.Examples.{AreUnary}
use Rattle.typing.specs.Sample.{start}
use Rattle.typing.specs.Rules.{FunctionAsOperand, Counting, AddressOf, Indirection, UnaryArithmetic}
use Rattle.typing.specs.Typing.{RefusedInside, Walked, NoPieces, RefusedHere, LoadOfIncomplete, LoadedRefused, UnloadedOperand}
use Rattle.typing.proofs.SampleFacts.{laid_void, k_int, k_char, k_void, k_p, k_q, k_row, seen, alone, n, five, vc, vp, vq, vrow, vfive, one, v0}

pub are_unary : AreUnary
are_unary = record {
  minus = (_, _, _, Walked (outs-Unary Minus _) (one (vfive 0 1)) (UnaryArithmetic refl (seen k_int)), refl, refl);
  flip = (_, _, _, Walked (outs-Unary Flip _) (one (v0 0 1)) (UnaryArithmetic refl (seen k_int)), refl, refl);
  not_pointer = (_, _, _, Walked (outs-Unary Not _) (one (vp 0 1)) (UnaryArithmetic refl (seen k_p)), refl);
  follow = (_, _, _, Walked (outs-Unary Follow _) (one (vq 0 1)) (Indirection (seen k_q)), refl);
  follow_array = (_, _, _, Walked (outs-Unary Follow _) (one (vrow 0 1)) (Indirection (seen (k_row 3))), refl);
  address = (_, _, _, Walked (outs-Unary Address _) (one (UnloadedOperand (n 0 1))) (AddressOf (seen k_int)), refl);
  address_of_followed = (_, _, _, Walked (outs-Unary Address _) (one (UnloadedOperand (Walked (outs-Unary Follow _) (one (vp 0 2)) (Indirection (seen k_p))))) (AddressOf (seen k_void)), refl);
  address_of_value = (start, Walked (outs-Unary Address _) (one (UnloadedOperand (five 0 1))) (AddressOf (seen k_int)));
  minus_pointer = (start, Walked (outs-Unary Minus _) (one (vp 0 1)) (UnaryArithmetic refl (seen k_p)));
  minus_void = (start, RefusedInside (outs-Unary Minus _) (RefusedHere (LoadOfIncomplete (Walked (outs-Unary Follow _) (one (vp 0 2)) (Indirection (seen k_p))) (ap is_some laid_void))));
  function_followed = (start, RefusedInside (outs-Unary Follow _) (RefusedHere (LoadedRefused (Walked (outs-Name (codes "f")) NoPieces (FunctionAsOperand refl (alone _))))));
  counted = (_, _, _, Walked (outs-Count true true _) (one (vc 0 0)) (Counting (seen k_char)), refl);
  counted_array = (start, Walked (outs-Count true false _) (one (vrow 0 1)) (Counting (seen (k_row 3))));
  counted_value = (start, Walked (outs-Count false false _) (one (vfive 0 1)) (Counting (seen k_int)));
}
