-- Calls of the examples.
use Rattle.std.proofs.Common.{◌≡◌, ℕ, List, [], ◌∷◌, refl, ap, arith}
use Rattle.std.specs.Prelude.{option_and_then, codes}
use Rattle.cbase.specs.declared.tree.expr.ExprForm.TheVariants.{Name}
use Rattle.typing.specs.ctypes.Kinds.{Kind}
use Rattle.typing.specs.Forms.{Form, name_in}
use Rattle.typing.specs.Nodes.{is_function}
use Rattle.cbase.specs.declared.tree.expr.ExprForm.TheViews.{outs-Name, outs-Call, out-ExprForm}
use Rattle.typing.specs.Faults.{fault}
use Rattle.typing.specs.declared.ctypes.found.Broken.TheVariants.{Construct, Rule}
use Rattle.typing.specs.Examples.{AreCalled, AreCallsOfMain}
use Rattle.typing.specs.Sample.{start, token, names, named_in, name}
use Rattle.typing.specs.Rules.{NoArguments, MoreArguments, CallOfFunction, CallOfOther}
use Rattle.typing.specs.Typing.{RefusedInside, Walked, NoPieces, MorePieces, RefusedHere, RefusedBehind, LoadedRefused, CalledFunction, CalledOther}
use Rattle.typing.proofs.SampleFacts.{k_int, k_size, k_void, k_s, k_p, k_chars, seen, alone, y, int_of, vn, vx, vread, m_8, m_256, m_257, m_70000, v0, v1, both, negative_one}

no_function : (name : List ℕ) → is_function (option_and_then (λ (other : List ℕ). named_in names other) (name_in (out-ExprForm (Name name)))) ≡ is_function (named_in names name)
no_function name = ap (λ (form : Form). is_function (option_and_then (λ (other : List ℕ). named_in names other) (name_in form))) (outs-Name name)

pub are_called : AreCalled
are_called = record {
  called = (_, _, _, Walked (outs-Call _ _) (MorePieces (CalledFunction (ap name_in (outs-Name (codes "f"))) refl (refl, refl, refl)) (MorePieces (vn 1 2) (MorePieces (v0 2 4) NoPieces))) (CallOfFunction (MoreArguments (seen k_int) (MoreArguments (seen k_int) NoArguments)) k_int (both (λ (a b : Kind). a ∷ b ∷ []) _ _ _ _ k_int k_chars) (refl, refl, refl)), refl);
  without_result = (_, _, _, Walked (outs-Call _ _) (MorePieces (CalledFunction (ap name_in (outs-Name (codes "g"))) refl (refl, refl, refl)) NoPieces) (CallOfFunction NoArguments k_void refl (refl, refl, refl)), refl);
  too_few = (start, Walked (outs-Call _ _) (MorePieces (CalledFunction (ap name_in (outs-Name (codes "f"))) refl (refl, refl, refl)) (MorePieces (vn 1 2) NoPieces)) (CallOfFunction (MoreArguments (seen k_int) NoArguments) k_int (both (λ (a b : Kind). a ∷ b ∷ []) _ _ _ _ k_int k_chars) (alone _)));
  argument = (start, Walked (outs-Call _ _) (MorePieces (CalledFunction (ap name_in (outs-Name (codes "f"))) refl (refl, refl, refl)) (MorePieces (vn 1 2) (MorePieces (vn 2 4) NoPieces))) (CallOfFunction (MoreArguments (seen k_int) (MoreArguments (seen k_int) NoArguments)) k_int (both (λ (a b : Kind). a ∷ b ∷ []) _ _ _ _ k_int k_chars) (alone _)));
  by_object = (start, Walked (outs-Call _ _) (MorePieces (CalledOther (no_function (codes "n")) (vn 0 0)) (MorePieces (v1 1 2) NoPieces)) CallOfOther);
  arguments_first = (start, RefusedInside (outs-Call _ _) (RefusedBehind (CalledOther (no_function (codes "n")) (vn 0 0)) (RefusedHere (LoadedRefused (y 1 2)))));
  without_definition = (start, RefusedInside (outs-Call _ _) (RefusedHere (CalledFunction (ap name_in (outs-Name (codes "lost"))) refl (alone _))));
  struct = (start, Walked (outs-Call _ _) (MorePieces (CalledFunction (ap name_in (outs-Name (codes "f"))) refl (refl, refl, refl)) (MorePieces (vn 1 2) (MorePieces (vx 2 4) NoPieces))) (CallOfFunction (MoreArguments (seen k_int) (MoreArguments (seen k_s) NoArguments)) k_int (both (λ (a b : Kind). a ∷ b ∷ []) _ _ _ _ k_int k_chars) (record { front = []; back = fault (token 4) (Rule 5) ∷ []; whole = refl; later = tt; behind = (tt, tt) })));
  allocated = (_, _, _, Walked (outs-Call _ _) (MorePieces (CalledFunction (ap name_in (outs-Name (codes "malloc"))) refl (refl, refl, refl)) (MorePieces (vread (codes "8") (int_of 8) 1 2 m_8) NoPieces)) (CallOfFunction (MoreArguments (seen k_int) NoArguments) k_p (ap (λ (a : Kind). a ∷ []) k_size) (refl, refl, refl)), refl);
  size = (start, Walked (outs-Call _ _) (MorePieces (CalledFunction (ap name_in (outs-Name (codes "malloc"))) refl (refl, refl, refl)) (MorePieces (vn 1 2) NoPieces)) (CallOfFunction (MoreArguments (seen k_int) NoArguments) k_p (ap (λ (a : Kind). a ∷ []) k_size) (alone _)));
  negative_size = (start, Walked (outs-Call _ _) (MorePieces (CalledFunction (ap name_in (outs-Name (codes "malloc"))) refl (refl, refl, refl)) (MorePieces (negative_one 1 3 2) NoPieces)) (CallOfFunction (MoreArguments (seen k_int) NoArguments) k_p (ap (λ (a : Kind). a ∷ []) k_size) (alone _)));
  product = (start, Walked (outs-Call _ _) (MorePieces (CalledFunction (ap name_in (outs-Name (codes "calloc"))) refl (refl, refl, refl)) (MorePieces (vread (codes "256") (int_of 256) 1 2 m_256) (MorePieces (vread (codes "257") (int_of 257) 2 4 m_257) NoPieces))) (CallOfFunction (MoreArguments (seen k_int) (MoreArguments (seen k_int) NoArguments)) k_p (both (λ (a b : Kind). a ∷ b ∷ []) _ _ _ _ k_size k_size) (alone _)));
  factor = (start, Walked (outs-Call _ _) (MorePieces (CalledFunction (ap name_in (outs-Name (codes "calloc"))) refl (refl, refl, refl)) (MorePieces (vread (codes "70000") (int_of 70000) 1 2 m_70000) (MorePieces (vn 2 4) NoPieces))) (CallOfFunction (MoreArguments (seen k_int) (MoreArguments (seen k_int) NoArguments)) k_p (both (λ (a b : Kind). a ∷ b ∷ []) _ _ _ _ k_size k_size) (record { front = []; back = fault (token 2) (Construct 19) ∷ []; whole = refl; later = tt; behind = (omega arith, tt) })));
  argument_before_count = (start, Walked (outs-Call _ _) (MorePieces (CalledFunction (ap name_in (outs-Name (codes "free"))) refl (refl, refl, refl)) (MorePieces (vn 1 2) (MorePieces (v1 2 4) NoPieces))) (CallOfFunction (MoreArguments (seen k_int) (MoreArguments (seen k_int) NoArguments)) k_void (ap (λ (a : Kind). a ∷ []) k_p) (record { front = []; back = fault (token 0) (Rule 7) ∷ []; whole = refl; later = tt; behind = (omega arith, tt) })));
}

pub are_calls_of_main : AreCallsOfMain
are_calls_of_main = record {
  allowed = (_, _, _, Walked (outs-Call _ _) (MorePieces (CalledFunction (ap name_in (outs-Name (codes "main"))) refl (refl, refl, refl)) NoPieces) (CallOfFunction NoArguments k_int refl (refl, refl, refl)), refl);
  refused = (start, Walked (outs-Call _ _) (MorePieces (CalledFunction (ap name_in (outs-Name (codes "main"))) refl (refl, refl, refl)) NoPieces) (CallOfFunction NoArguments k_int refl (alone _)));
  others = (_, _, _, Walked (outs-Call _ _) (MorePieces (CalledFunction (ap name_in (outs-Name (codes "g"))) refl (refl, refl, refl)) NoPieces) (CallOfFunction NoArguments k_void refl (refl, refl, refl)), refl);
}
