-- What the code puts in front of the moves that are still to be placed.
use Rattle.std.specs.Prelude.{◌≡◌, ℕ, ◌+◌, false, List, [], ◌++◌, None}
use Rattle.cbase.specs.declared.tree.expr.Expr.{Expr}
use Rattle.cbase.specs.declared.tree.expr.ExprForm.TheViews.{out-StmtForm, out-Init}
use Rattle.cbase.specs.declared.tree.init.Init.{Init}
use Rattle.cbase.specs.declared.tree.stmt.Stmt.{Stmt}
use Rattle.c_machine.specs.declared.kind.Kind.{Kind}
use Rattle.c_machine.specs.Text.{AssertFail, NothingStands, Text}
use Rattle.c_machine.specs.Trees.{clause_of, initialiser_of}
use Rattle.lowering.specs.Moves.{MoveOf, LineOf}

-- the moves of a line stand in front of those that stood there before, and its registers are taken
abbrev pub IsLine : {E S I : Type 0} → LineOf E S I → ℕ → ℕ → List (MoveOf E S I) → List (MoveOf E S I) → Type 0
IsLine line taken taken' before after = (taken' ≡ taken + line.registers) × (after ≡ line.moves ++ before)

-- The trees of a program, of which nothing is known but that each expression is of a kind: lines that ask no more of a text are the same in all of them.
abbrev pub trees : Kind → Text
trees kind = record {
  Expr = Expr;
  Stmt = Stmt;
  Init = Init;
  form = λ expr. AssertFail;
  place = λ expr. expr.place;
  kind = λ expr. kind;
  stands = λ expr. NothingStands;
  clause = λ stmt. clause_of (out-StmtForm stmt.form);
  first = λ stmt. stmt.place;
  last = λ stmt. stmt.after;
  initialiser = λ init. initialiser_of (out-Init init);
  token = λ place. place.at;
  automatic = λ place. None;
  store = λ place expr. None;
  statics = [];
  sets = [];
  enough = 0;
  functions = [];
  main = None;
  strict = false;
}
