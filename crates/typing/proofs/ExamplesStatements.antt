-- Statements of the examples.
use Rattle.std.proofs.Common.{true, [], ◌∷◌, Some, None, refl, ap}
use Rattle.std.specs.Prelude.{codes}
use Rattle.cbase.specs.declared.tree.expr.ExprForm.TheVariants.{SizeOfType, Call, Inner}
use Rattle.cbase.specs.declared.tree.expr.ExprForm.TheViews.{outs-Name, outs-Call, outs-SizeOfType, outs-Inner, outs-Eval, outs-If, outs-While, outs-Do, outs-For, outs-Break, outs-Continue, outs-Return, outs-Enum, out-roll-TypeName, out-roll-Enumerator}
use Rattle.cbase.specs.declared.tree.spec.TypeSpec.TheVariants.{Enum as EnumWords}
use Rattle.cbase.specs.declared.tree.stmt.StmtForm.TheVariants.{Eval, If, While, Break, Continue}
use Rattle.cbase.specs.Layout.{extent_of}
use Rattle.typing.specs.declared.ctypes.found.Broken.TheVariants.{Rule}
use Rattle.typing.specs.ctypes.Binary.{int_type}
use Rattle.typing.specs.ctypes.Kinds.{Kind}
use Rattle.typing.specs.ExamplesOfStatements.{AreStatements}
use Rattle.typing.specs.Faults.{unless}
use Rattle.typing.specs.Forms.{name_in, value_in}
use Rattle.typing.specs.NamedTypes.{is_over, whole}
use Rattle.typing.specs.Outcomes.{Passes}
use Rattle.typing.specs.Rules.{NoArguments, CallOfFunction, EnumeratorName, SizeOfTypeName, StatementExpression}
use Rattle.typing.specs.Sample.{token, node, name, type_name, enumerator, statement_at}
use Rattle.typing.specs.Statements.{is_void}
use Rattle.typing.specs.Typing.{RefusedInside, Walked, NoPieces, MorePieces, RefusedHere, LoadedValue, LoadedRefused, CalledFunction, TypeInside, TypeNamed, BlockInside, BlockRefused, LastExpression, LastStruct, LastRefused, MoreStatements, StatementRefused, StatementsRefused, EnumWithConstants, NoSizes, MoreEnumerators, NoEnumerators, NextValue, StatementOfParts, StatementInScope, StatementPartRefused, ValueInStatement, StatementInside, StatementOfIf, BodyOfLoop, LoopLeft, NoLoopToLeave, NothingReturned, ValueReturned, ValueTaken, ValueRefused}
use Rattle.typing.proofs.SampleFacts.{alone, seen, k_int, k_size, k_void, k_s, k_p, laid_4}
use Rattle.typing.proofs.StatementFacts.{an_int, a_struct, a_pointer, none_of, condition, no_condition, dropped, not_dropped, one_part, more_parts, broken_behind, evaluated, not_evaluated, empty, in_braces, refused_in_braces, followed, no_value, returned, not_returned}

pub are_statements : AreStatements
are_statements = record {
  nothing = (_, _, empty);
  dropped = (_, _, (evaluated (name (codes "n") 0 0) (dropped (an_int (codes "n") 0 0 refl) k_int refl)));
  struct_dropped = (_, (not_evaluated (name (codes "x") 0 0) (not_dropped (a_struct 0 0 refl refl) k_s refl)));
  undeclared = (_, (not_evaluated (name (codes "y") 0 0) (ValueRefused (none_of (codes "y") 0 0 refl))));
  condition = (_, _, (StatementInScope (outs-If (name (codes "n") 0 2) (token 3) (statement_at 4 (Eval None)) None) refl (more_parts (ValueInStatement (condition (an_int (codes "n") 0 2 refl) k_int refl)) (one_part (StatementOfIf empty)))));
  struct_as_condition = (_, (StatementInScope (outs-If (name (codes "x") 0 2) (token 3) (statement_at 4 (Eval None)) None) refl (StatementPartRefused (ValueInStatement (no_condition (a_struct 0 2 refl refl) k_s refl)))));
  void_as_condition = (_, (StatementInScope (outs-If (node 1 2 (Call (name (codes "g") 0 2) [])) (token 5) (statement_at 6 (Eval None)) None) refl (StatementPartRefused (ValueInStatement (no_condition (LoadedValue (Walked (outs-Call (name (codes "g") 0 2) []) (MorePieces (CalledFunction (ap name_in (outs-Name (codes "g"))) refl (refl, refl, refl)) NoPieces) (CallOfFunction NoArguments k_void refl (refl, refl, refl))) refl) k_void refl)))));
  condition_first = (_, (StatementInScope (outs-If (name (codes "y") 0 2) (token 3) (statement_at 4 Break) None) refl (StatementPartRefused (ValueInStatement (ValueRefused (none_of (codes "y") 0 2 refl))))));
  branch = (_, (StatementInScope (outs-If (name (codes "n") 0 2) (token 3) (statement_at 4 Break) None) refl (broken_behind (ValueInStatement (condition (an_int (codes "n") 0 2 refl) k_int refl)) (StatementPartRefused (StatementOfIf (StatementOfParts outs-Break refl (StatementPartRefused (NoLoopToLeave refl))))))));
  other_branch = (_, (StatementInScope (outs-If (name (codes "n") 0 2) (token 3) (statement_at 4 (Eval None)) (Some (statement_at 6 Break))) refl (broken_behind (ValueInStatement (condition (an_int (codes "n") 0 2 refl) k_int refl)) (broken_behind (StatementOfIf empty) (StatementPartRefused (StatementOfIf (StatementOfParts outs-Break refl (StatementPartRefused (NoLoopToLeave refl)))))))));
  first_branch_first = (_, (StatementInScope (outs-If (name (codes "n") 0 2) (token 3) (statement_at 4 Break) (Some (statement_at 7 (Eval (Some (name (codes "y") 1 7)))))) refl (broken_behind (ValueInStatement (condition (an_int (codes "n") 0 2 refl) k_int refl)) (StatementPartRefused (StatementOfIf (StatementOfParts outs-Break refl (StatementPartRefused (NoLoopToLeave refl))))))));
  left = (_, _, (StatementInScope (outs-While (name (codes "n") 0 2) (token 3) (statement_at 4 Break)) refl (more_parts (ValueInStatement (condition (an_int (codes "n") 0 2 refl) k_int refl)) (one_part (BodyOfLoop (StatementOfParts outs-Break refl (one_part (LoopLeft refl))))))));
  left_in_branch = (_, _, (StatementInScope (outs-While (name (codes "n") 0 2) (token 3) (statement_at 4 (If (name (codes "n") 1 6) (token 7) (statement_at 8 Continue) None))) refl (more_parts (ValueInStatement (condition (an_int (codes "n") 0 2 refl) k_int refl)) (one_part (BodyOfLoop (StatementInScope (outs-If (name (codes "n") 1 6) (token 7) (statement_at 8 Continue) None) refl (more_parts (ValueInStatement (condition (an_int (codes "n") 1 6 refl) k_int refl)) (one_part (StatementOfIf (StatementOfParts outs-Continue refl (one_part (LoopLeft refl))))))))))));
  no_loop = (_, (StatementOfParts outs-Break refl (StatementPartRefused (NoLoopToLeave refl))));
  no_loop_to_continue = (_, (StatementOfParts outs-Continue refl (StatementPartRefused (NoLoopToLeave refl))));
  behind_loop = (_, (refused_in_braces ((statement_at 1 (While (name (codes "n") 0 3) (token 4) (statement_at 5 (Eval None)))) ∷ (statement_at 6 Break) ∷ []) (StatementsRefused _ (followed _ _ _ outs-Break refl) (StatementInScope (outs-While (name (codes "n") 0 3) (token 4) (statement_at 5 (Eval None))) refl (more_parts (ValueInStatement (condition (an_int (codes "n") 0 3 refl) k_int refl)) (one_part (BodyOfLoop empty)))) (StatementRefused (no_value (statement_at 6 Break) outs-Break refl) (StatementOfParts outs-Break refl (StatementPartRefused (NoLoopToLeave refl)))))));
  at_least_once = (_, _, (StatementInScope (outs-Do (statement_at 1 Continue) (name (codes "n") 0 5) (token 6)) refl (more_parts (BodyOfLoop (StatementOfParts outs-Continue refl (one_part (LoopLeft refl)))) (one_part (ValueInStatement (condition (an_int (codes "n") 0 5 refl) k_int refl))))));
  struct_behind_body = (_, (StatementInScope (outs-Do (statement_at 1 (Eval None)) (name (codes "x") 0 4) (token 5)) refl (broken_behind (BodyOfLoop empty) (StatementPartRefused (ValueInStatement (no_condition (a_struct 0 4 refl refl) k_s refl))))));
  body_before_condition = (_, (StatementInScope (outs-Do (statement_at 1 (Eval (Some (name (codes "y") 0 1)))) (name (codes "x") 1 5) (token 6)) refl (StatementPartRefused (BodyOfLoop (not_evaluated (name (codes "y") 0 1) (ValueRefused (none_of (codes "y") 0 1 refl)))))));
  left_in_condition = (_, (StatementInScope (outs-While (node 1 3 (Inner ((statement_at 5 Break) ∷ (statement_at 7 (Eval (Some (name (codes "n") 0 7)))) ∷ []) (token 9))) (token 11) (statement_at 12 (Eval None))) refl (StatementPartRefused (ValueInStatement (ValueRefused (LoadedRefused (RefusedInside (outs-Inner ((statement_at 5 Break) ∷ (statement_at 7 (Eval (Some (name (codes "n") 0 7)))) ∷ []) (token 9)) (RefusedHere (BlockRefused (StatementRefused (followed _ _ _ (outs-Eval (Some _)) refl) (StatementOfParts outs-Break refl (StatementPartRefused (NoLoopToLeave refl)))))))))))));
  left_in_inner_condition = (_, _, (StatementInScope (outs-While (name (codes "n") 0 2) (token 3) (statement_at 4 (While (node 2 7 (Inner ((statement_at 9 Break) ∷ (statement_at 11 (Eval (Some (name (codes "n") 1 11)))) ∷ []) (token 13))) (token 15) (statement_at 16 (Eval None))))) refl (more_parts (ValueInStatement (condition (an_int (codes "n") 0 2 refl) k_int refl)) (one_part (BodyOfLoop (StatementInScope (outs-While (node 2 7 (Inner ((statement_at 9 Break) ∷ (statement_at 11 (Eval (Some (name (codes "n") 1 11)))) ∷ []) (token 13))) (token 15) (statement_at 16 (Eval None))) refl (more_parts (ValueInStatement (condition (LoadedValue (Walked (outs-Inner ((statement_at 9 Break) ∷ (statement_at 11 (Eval (Some (name (codes "n") 1 11)))) ∷ []) (token 13)) (MorePieces (BlockInside (MoreStatements _ (followed _ _ _ (outs-Eval (Some _)) refl) (StatementOfParts outs-Break refl (one_part (LoopLeft refl))) (LastExpression (ap value_in (outs-Eval (Some (name (codes "n") 1 11)))) refl (an_int (codes "n") 1 11 refl) (seen k_int) refl))) NoPieces) StatementExpression) refl) k_int refl)) (one_part (BodyOfLoop empty)))))))));
  left_in_part_of_for = (_, (StatementInScope (outs-For (statement_at 2 (Eval None)) None (token 3) (Some (node 1 4 (Inner ((statement_at 6 Break) ∷ (statement_at 8 (Eval (Some (name (codes "n") 0 8)))) ∷ []) (token 10)))) (token 12) (statement_at 13 (Eval None))) refl (broken_behind (StatementInside empty) (StatementPartRefused (ValueInStatement (ValueRefused (LoadedRefused (RefusedInside (outs-Inner ((statement_at 6 Break) ∷ (statement_at 8 (Eval (Some (name (codes "n") 0 8)))) ∷ []) (token 10)) (RefusedHere (BlockRefused (StatementRefused (followed _ _ _ (outs-Eval (Some _)) refl) (StatementOfParts outs-Break refl (StatementPartRefused (NoLoopToLeave refl))))))))))))));
  endless = (_, _, (StatementInScope (outs-For (statement_at 2 (Eval None)) None (token 3) None (token 4) (statement_at 5 Break)) refl (more_parts (StatementInside empty) (one_part (BodyOfLoop (StatementOfParts outs-Break refl (one_part (LoopLeft refl))))))));
  all_parts = (_, _, (StatementInScope (outs-For (statement_at 2 (Eval (Some (name (codes "n") 0 2)))) (Some (name (codes "n") 1 4)) (token 5) (Some (name (codes "n") 2 6)) (token 7) (statement_at 8 Continue)) refl (more_parts (StatementInside (evaluated (name (codes "n") 0 2) (dropped (an_int (codes "n") 0 2 refl) k_int refl))) (more_parts (ValueInStatement (condition (an_int (codes "n") 1 4 refl) k_int refl)) (more_parts (ValueInStatement (dropped (an_int (codes "n") 2 6 refl) k_int refl)) (one_part (BodyOfLoop (StatementOfParts outs-Continue refl (one_part (LoopLeft refl))))))))));
  struct_in_first_part = (_, (StatementInScope (outs-For (statement_at 2 (Eval (Some (name (codes "x") 0 2)))) (Some (name (codes "y") 1 4)) (token 5) None (token 6) (statement_at 7 (Eval None))) refl (StatementPartRefused (StatementInside (not_evaluated (name (codes "x") 0 2) (not_dropped (a_struct 0 2 refl refl) k_s refl))))));
  struct_in_last_part = (_, (StatementInScope (outs-For (statement_at 2 (Eval None)) None (token 3) (Some (name (codes "x") 0 4)) (token 5) (statement_at 6 (Eval None))) refl (broken_behind (StatementInside empty) (StatementPartRefused (ValueInStatement (not_dropped (a_struct 0 4 refl refl) k_s refl))))));
  struct_as_test = (_, (StatementInScope (outs-For (statement_at 2 (Eval None)) (Some (name (codes "x") 0 3)) (token 4) None (token 5) (statement_at 6 (Eval None))) refl (broken_behind (StatementInside empty) (StatementPartRefused (ValueInStatement (no_condition (a_struct 0 3 refl refl) k_s refl))))));
  returned = (_, _, (StatementOfParts (outs-Return (Some (name (codes "n") 0 1))) refl (one_part (ValueReturned (returned (an_int (codes "n") 0 1 refl) k_int k_int refl)))));
  nothing_returned = (_, (StatementOfParts (outs-Return None) refl (StatementPartRefused (NothingReturned (ap (λ (k : Kind). unless (is_void k) (token 0) (Rule 11)) k_int) (alone _)))));
  returned_from_procedure = (_, _, (StatementOfParts (outs-Return None) refl (one_part (NothingReturned (ap (λ (k : Kind). unless (is_void k) (token 0) (Rule 11)) k_void) (refl, refl, refl)))));
  value_in_procedure = (_, (StatementOfParts (outs-Return (Some (name (codes "n") 0 1))) refl (StatementPartRefused (ValueReturned (not_returned (an_int (codes "n") 0 1 refl) k_void k_int refl)))));
  value_first = (_, (StatementOfParts (outs-Return (Some (name (codes "y") 0 1))) refl (StatementPartRefused (ValueReturned (ValueRefused (none_of (codes "y") 0 1 refl))))));
  pointer_as_int = (_, (StatementOfParts (outs-Return (Some (name (codes "p") 0 1))) refl (StatementPartRefused (ValueReturned (not_returned (a_pointer 0 1 refl) k_int k_p refl)))));
  outside = (_, (StatementOfParts (outs-Return (Some (name (codes "n") 0 1))) refl (StatementPartRefused (ValueReturned (ValueTaken true (an_int (codes "n") 0 1 refl) refl refl (alone _))))));
  nothing_outside = (_, (StatementOfParts (outs-Return None) refl (StatementPartRefused (NothingReturned refl (alone _)))));
  struct_in_block = (_, (refused_in_braces ((statement_at 1 (Eval (Some (name (codes "x") 0 1)))) ∷ []) (LastStruct (ap value_in (outs-Eval (Some (name (codes "x") 0 1)))) refl (a_struct 0 1 refl refl) (seen k_s) refl)));
  value_in_block = (_, _, (in_braces ((statement_at 1 (Eval (Some (name (codes "n") 0 1)))) ∷ (statement_at 3 (Eval (Some (name (codes "n") 1 3)))) ∷ []) (MoreStatements _ (followed _ _ _ (outs-Eval (Some _)) refl) (evaluated (name (codes "n") 0 1) (dropped (an_int (codes "n") 0 1 refl) k_int refl)) (LastExpression (ap value_in (outs-Eval (Some (name (codes "n") 1 3)))) refl (an_int (codes "n") 1 3 refl) (seen k_int) refl))));
  scope_of_condition = (_, (refused_in_braces ((statement_at 1 (If (node 0 3 (SizeOfType (type_name (EnumWords None (Some (enumerator (codes "k") 7 None ∷ []))) 0 []))) (token 10) (statement_at 11 (Eval (Some (name (codes "k") 1 11)))) None)) ∷ (statement_at 13 (Eval (Some (name (codes "k") 2 13)))) ∷ []) (StatementsRefused _ (followed _ _ _ (outs-Eval (Some _)) refl) (StatementInScope (outs-If (node 0 3 (SizeOfType (type_name (EnumWords None (Some (enumerator (codes "k") 7 None ∷ []))) 0 []))) (token 10) (statement_at 11 (Eval (Some (name (codes "k") 1 11)))) None) refl (more_parts (ValueInStatement (condition (LoadedValue (Walked (outs-SizeOfType _) (MorePieces (TypeInside (TypeNamed (out-roll-TypeName _) (outs-Enum _ _) (EnumWithConstants refl (MoreEnumerators {outcome = Passes (whole int_type) []} (out-roll-Enumerator _) refl NextValue refl NoEnumerators)) NoSizes (ap is_over (laid_4 true)))) NoPieces) (SizeOfTypeName (ap extent_of (laid_4 true)) (refl, refl, refl))) refl) k_size refl)) (one_part (StatementOfIf (evaluated (name (codes "k") 1 11) (dropped (LoadedValue (Walked (outs-Name (codes "k")) NoPieces (EnumeratorName refl)) refl) k_int refl)))))) (LastRefused (ap value_in (outs-Eval (Some (name (codes "k") 2 13)))) refl (none_of (codes "k") 2 13 refl)))));
}
