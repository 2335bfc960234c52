-- The reader as what it does, and the reader as a function on rows, agree: they come to the same place, and the events
-- that are written make the tree.
use Rattle.std.specs.Prelude.{◌≡◌, ℕ, ◌≤◌, max, List, ◌∷◌, ◌++◌, length, Option, Some}
use Rattle.cbase.specs.declared.tree.expr.Expr.{Expr}
use Rattle.cbase.specs.declared.tree.init.Init.{Init}
use Rattle.cbase.specs.declared.tree.spec.TypeSpec.{TypeSpec}
use Rattle.cbase.specs.declared.tree.stmt.Stmt.{Stmt}
use Rattle.cevents.specs.Building.{built_all}
use Rattle.cevents.specs.Workshop.{Workshop}
use Rattle.cevents.specs.declared.event.Event.{Event}
use Rattle.cevents.specs.declared.piece.Piece.{Piece}
use Rattle.cevents.specs.declared.piece.Piece.TheVariants as piece
use Rattle.cgrammar.specs.Outcomes.{Outcome, Reader}
use Rattle.cgrammar.specs.Outcomes as outcome
use Rattle.cgrammar.specs.Phrases.{Context}
use Rattle.cgrammar.specs.ReadLevels.{Level}
use Rattle.cgrammar.specs.Terminals.{Terminal}
use Rattle.cgrammar.specs.declared.reading.operand.Operand.{Operand}
use Rattle.cparser.specs.State.{State, rest}
use Rattle.cparser.specs.Steps.{Inner}
use Rattle.cparser.specs.declared.status.Status.TheVariants.{Going, Stopped, Nothing}
use Rattle.cparser.specs.declared.wanted.Wanted.TheVariants as wanted

abbrev pub shop : ℕ → List Piece → Option Workshop
shop count pieces = Some (record { count = count; pieces = pieces })

-- pieces on top of others
abbrev pub Pieces : Type 0
Pieces = List Piece → List Piece

abbrev pub none : Pieces
none pieces = pieces

-- what was written before still stands
pub record Kept (s t : State) : Type 0 where
  pub row : t.row ≡ s.row
  pub added : List Event
  pub events : t.events ≡ s.events ++ added

-- what is written between two states makes these pieces of those
pub record Went (s t : State) (below above : Pieces) (before after : ℕ) : Type 0 where
  pub row : t.row ≡ s.row
  pub added : List Event
  pub events : t.events ≡ s.events ++ added
  pub builds : (pieces : List Piece) → built_all s.row added (shop before (below pieces)) ≡ shop after (above pieces)

-- nothing is read, and what was written before still stands
pub record Failed (s t : State) : Type 0 where
  pub kept : Kept s t
  pub status : t.status ≡ Nothing

pub record Halted (s t : State) (below above : Pieces) (before after : ℕ) (others : List Terminal) : Type 0 where
  pub went : Went s t below above before after
  pub status : t.status ≡ Stopped
  pub left : rest t ≡ others

pub record Ended (s t : State) (below above : Pieces) (base deep before : ℕ) (behind : Context) (others : List Terminal) : Type 0 where
  pub went : Went s t below above before behind.expressions
  pub status : t.status ≡ Going
  pub left : rest t ≡ others
  pub scope : t.scope ≡ behind.scope
  pub levels : t.levels ≡ max base deep
  pub on : s.at ≤ t.at
  pub inside : t.at ≤ length t.row

-- The outcome is what came of the steps. `base` is how many levels the parts before it have, and `fits` what else holds
-- behind it.
abbrev pub Came : {A : Type 0} → Pieces → (A → Pieces) → (A → State → Type 0) → ℕ → ℕ → Outcome A → State → State → Type 0
Came below above fits base before outcome.Nothing s t = Failed s t
Came below above fits base before (outcome.Stopped tree expressions others) s t =
    Halted s t below (above tree) before expressions others × fits tree t
Came below above fits base before (outcome.Read tree levels behind others) s t =
    Ended s t below (above tree) base levels before behind others × fits tree t

pub record Agreed {A : Type 0} (below : Pieces) (above : A → Pieces) (fits : A → State → Type 0) (base before : ℕ) (outcome : Outcome A) (s t : State) : Type 0 where
  pub is : Came below above fits base before outcome s t

abbrev pub anyhow : {A : Type 0} → A → State → Type 0
anyhow tree t = Unit {0}

-- the reading does not stop behind the tree: such a tree is the whole of no other one
abbrev pub ends : {A : Type 0} → A → State → Type 0
ends tree t = t.status ≡ Going

abbrev pub context_of : State → ℕ → Context
context_of s before = record { scope = s.scope; expressions = before }

-- a state from which a reader may go on
pub record Ready (s : State) : Type 0 where
  pub status : s.status ≡ Going
  pub inside : s.at ≤ length s.row

-- a reader of a tree, from a state where no part of it is read
abbrev pub Reads : {A : Type 0} → (A → Pieces) → (A → State → Type 0) → Reader A → (State → State) → Type 0
Reads above fits reader steps =
    (s : State) (before : ℕ) → Ready s → s.levels ≡ 0 → Agreed none above fits 0 before (reader (context_of s before) (rest s)) s (steps s)

-- a reader of a part of a tree
abbrev pub Follows : {A : Type 0} → (A → Pieces) → (A → State → Type 0) → Reader A → (State → State) → Type 0
Follows above fits reader steps =
    (s : State) (before : ℕ) → Ready s → Agreed none above fits s.levels before (reader (context_of s before) (rest s)) s (steps s)

-- a reader that goes on with what is already read, as with the items of a list
abbrev pub Continues : {A : Type 0} → Pieces → (A → Pieces) → (A → State → Type 0) → Reader A → (State → State) → Type 0
Continues below above fits reader steps =
    (s : State) (before : ℕ) → Ready s → Agreed below above fits s.levels before (reader (context_of s before) (rest s)) s (steps s)

-- the pieces of the trees that a level's readers give
abbrev pub expr_piece : Expr → Pieces
expr_piece expr pieces = piece.Expr expr ∷ pieces

abbrev pub operand_piece : Operand → Pieces
operand_piece operand pieces = piece.Expr operand.expr ∷ pieces

abbrev pub operand_fits : Operand → State → Type 0
operand_fits operand t = t.unary ≡ operand.unary

abbrev pub type_piece : TypeSpec → Pieces
type_piece type pieces = piece.Type type ∷ pieces

abbrev pub init_piece : Init → Pieces
init_piece init pieces = piece.Init init ∷ pieces

abbrev pub statement_piece : Stmt → Pieces
statement_piece stmt pieces = piece.Statement stmt ∷ pieces

abbrev pub statements_piece : List Stmt → Pieces
statements_piece body pieces = piece.Statements body ∷ pieces

-- the readers of a level agree
pub record LevelAgrees (level : Level) (inner : Inner) : Type 0 where
  pub most : inner.most ≡ level.most
  pub cast : Reads operand_piece operand_fits level.cast (inner.reads wanted.Cast)
  pub operation : (loosest : ℕ) → Reads expr_piece anyhow (level.operation loosest) (inner.reads (wanted.Operation loosest))
  pub conditional : Reads expr_piece anyhow level.conditional (inner.reads wanted.Conditional)
  pub assignment : Reads expr_piece anyhow level.assignment (inner.reads wanted.Assignment)
  pub expression : Reads expr_piece anyhow level.expression (inner.reads wanted.Expression)
  pub specifier : Reads type_piece anyhow level.specifier (inner.reads wanted.Specifier)
  pub initializer : Reads init_piece anyhow level.initializer (inner.reads wanted.Initializer)
  pub clause : Reads statement_piece anyhow level.clause (inner.reads wanted.Clause)
  pub statement : Reads statement_piece anyhow level.statement (inner.reads wanted.Statement)
  pub item : Reads statement_piece anyhow level.item (inner.reads wanted.Item)
