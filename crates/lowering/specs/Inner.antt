-- Statement expressions and declarations as the code reads them, for each program that its context stands for.
use Rattle.std.specs.Prelude.{◌≡◌, ℕ, suc, false, List, [], ◌∷◌, ◌++◌, map, if◌then◌else◌}
use Rattle.std.specs.List.{flat_map}
use Rattle.cbase.specs.declared.tree.decl.Declared.{Declared}
use Rattle.cbase.specs.declared.tree.expr.Expr.{Expr}
use Rattle.cbase.specs.declared.tree.init.Init.{Init}
use Rattle.cbase.specs.declared.tree.stmt.Stmt.{Stmt}
use Rattle.c_machine.specs.Blocks.{are_empty}
use Rattle.c_machine.specs.declared.kind.Kind.{Kind}
use Rattle.c_machine.specs.Program.{Program}
use Rattle.c_machine.specs.Text.{Text}
use Rattle.c_machine.specs.Trees.{name_of, text_of}
use Rattle.lowering.specs.Kinds.{is_void}
use Rattle.lowering.specs.LetGo.{Wanted, AsValue, AsWork}
use Rattle.lowering.specs.Moves.{MoveOf}
use Rattle.lowering.specs.Placing.{declared_moves, last_moves, left_at_end, left_by_set, valued_moves}
use Rattle.lowering.specs.Source.{Source, IsSource}
use Rattle.lowering.specs.Table.{last_of}

-- how many statements there are up to the one whose value a block has: behind it stands none but `;` alone
abbrev pub until_last : (t : Text) → List t.Stmt → ℕ
until_last t [] = 0
until_last t (stmt ∷ body) = if are_empty t body then 1 else suc (until_last t body)

-- what is wanted of the expression there, by the kind of its value
abbrev pub wanted_of : Kind → Wanted
wanted_of kind = if is_void kind then AsWork else AsValue false

-- the moves of that statement, and of all of a block; and how many registers its value leaves
pub record AreLastMoves (source : Source) (spare count into : ℕ) (stmt : Stmt) (before after : List (MoveOf Expr Stmt Init)) : Type 0 where
  pub of : (p : Program) → IsSource source p → after ≡ last_moves (text_of p) spare count into stmt ((text_of p).clause stmt) ++ before

pub record AreValuedMoves (source : Source) (spare count into : ℕ) (body : List Stmt) (before after : List (MoveOf Expr Stmt Init)) : Type 0 where
  pub of : (p : Program) → IsSource source p → after ≡ valued_moves (text_of p) spare count into body ++ before

pub record IsLeftAtEnd (source : Source) (body : List Stmt) (count : ℕ) : Type 0 where
  pub of : (p : Program) → IsSource source p → count ≡ left_at_end (text_of p) (last_of (text_of p) body)

-- the moves of a declared name, and of names; and how many registers a value of an initialiser leaves
pub record IsDeclared (source : Source) (name : Declared) (before after : List (MoveOf Expr Stmt Init)) : Type 0 where
  pub of : (p : Program) → IsSource source p → after ≡ declared_moves (text_of p) (name_of name) ++ before

pub record AreDeclared (source : Source) (names : List Declared) (before after : List (MoveOf Expr Stmt Init)) : Type 0 where
  pub of : (p : Program) → IsSource source p → after ≡ flat_map (declared_moves (text_of p)) (map name_of names) ++ before

pub record IsLeftBySet (source : Source) (value : Expr) (kind : Kind) (count : ℕ) : Type 0 where
  pub of : (p : Program) → IsSource source p → count ≡ left_by_set (text_of p) value kind
