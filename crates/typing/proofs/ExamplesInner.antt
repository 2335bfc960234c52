-- Statement expressions of the examples.
use Rattle.std.proofs.Common.{◌≡◌, ℕ, true, List, [], Some, None, refl, ap}
use Rattle.std.specs.Prelude.{◌&&◌, is_some, codes}
use Rattle.cbase.specs.declared.ctype.CType.{CType}
use Rattle.cbase.specs.declared.ctype.CType.TheVariants.{Struct as StructType, Array as ArrayType}
use Rattle.typing.specs.ctypes.Binary.{int_type}
use Rattle.typing.specs.ctypes.Kinds.{has_size}
use Rattle.typing.specs.Entities.{ObjectIs}
use Rattle.typing.specs.Known.{behind}
use Rattle.typing.specs.Nodes.{object_known}
use Rattle.typing.specs.Pieces.{Loaded}
use Rattle.typing.specs.Told.{OperandIs}
use Rattle.typing.specs.Forms.{Clause, is_empty, value_in}
use Rattle.cbase.specs.declared.tree.expr.ExprForm.TheViews.{outs-Binary, outs-Inner, outs-Eval}
use Rattle.cbase.specs.declared.tree.stmt.StmtForm.TheVariants.{Eval}
use Rattle.cbase.specs.declared.tree.operators.BinaryOp.TheVariants.{Add}
use Rattle.typing.specs.Examples.{AreInner}
use Rattle.typing.specs.Outcomes.{Passes}
use Rattle.typing.specs.Sample.{start, sample, statement, entity_in, scope_entered, object, name, char_type}
use Rattle.typing.specs.Rules.{StatementExpression, AdditionOperator}
use Rattle.typing.specs.Typing.{Finds, PieceIs, StatementIs, StatementOfParts, NoStatementParts, RefusedInside, Walked, RefusedHere, LoadedValue, BlockInside, BlockRefused, NoStatements, LastExpression, LastStruct, MoreStatements}
use Rattle.typing.proofs.StatementFacts.{followed}
use Rattle.typing.proofs.SampleFacts.{structs, k_int, k_s, k_row, seen, one, two, v1, loaded_in, laid_4, laid_chars, laid_s}

-- values that are taken in the block
in_block : (bytes : List ℕ) (t : CType) (number at : ℕ) → entity_in (scope_entered start) bytes ≡ Some (ObjectIs (object t)) → has_size structs t ≡ true
    → Finds sample (scope_entered start) (PieceIs (Loaded (name bytes number at)) (Passes (OperandIs (object_known (object t))) (behind [] number (object_known (object t))))) (scope_entered start)
in_block bytes t number at is sized = loaded_in (scope_entered start) bytes (object t) number at is sized refl refl

-- `;`
empty : Finds sample (scope_entered start) (StatementIs (statement (Eval None)) (Passes tt [])) (scope_entered start)
empty = StatementOfParts (outs-Eval None) refl NoStatementParts

pub are_inner : AreInner
are_inner = record {
  value = (_, _, _, Walked (outs-Inner _ _) (one (BlockInside {before = start} (MoreStatements [] (followed _ _ _ (outs-Eval (Some _)) refl) empty (LastExpression (ap value_in (outs-Eval (Some _))) refl (in_block (codes "n") int_type 0 3 refl (ap is_some (laid_4 true))) (seen k_int) refl)))) StatementExpression, refl);
  before_empty = (_, _, _, Walked (outs-Inner _ _) (one (BlockInside {before = start} (LastExpression (ap value_in (outs-Eval (Some _))) (ap (λ (clause : Clause). is_empty clause && true) (outs-Eval None)) (in_block (codes "n") int_type 0 2 refl (ap is_some (laid_4 true))) (seen k_int) refl))) StatementExpression, refl);
  array = (_, _, _, Walked (outs-Inner _ _) (one (BlockInside {before = start} (LastExpression (ap value_in (outs-Eval (Some _))) refl (in_block (codes "row") (ArrayType char_type 3) 0 2 refl (ap is_some (laid_chars 3))) (seen (k_row 3)) refl))) StatementExpression, refl);
  nothing = (_, _, _, Walked (outs-Inner _ _) (one (BlockInside {before = start} (MoreStatements [] (ap (λ (clause : Clause). is_some (value_in clause)) (outs-Eval None)) empty NoStatements))) StatementExpression, refl);
  struct = (start, RefusedInside (outs-Inner _ _) (RefusedHere (BlockRefused {before = start} (LastStruct (ap value_in (outs-Eval (Some _))) refl (in_block (codes "x") (StructType 0) 0 2 refl (ap is_some laid_s)) (seen k_s) refl))));
  of_statement = (_, _, _, Walked (outs-Binary Add _ _) (two (LoadedValue (Walked (outs-Inner _ _) (one (BlockInside {before = start} (LastExpression (ap value_in (outs-Eval (Some _))) refl (in_block (codes "n") int_type 0 2 refl (ap is_some (laid_4 true))) (seen k_int) refl))) StatementExpression) refl) (v1 2 7)) (AdditionOperator refl (seen k_int) (seen k_int)), refl);
}
