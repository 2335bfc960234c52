-- Pieces of a graph: what is placed between points of an expression or a statement, by what it is.
use Rattle.std.specs.Prelude.{◌≡◌, ℕ, suc, Bool, List, if◌then◌else◌}
use Rattle.cbase.specs.declared.place.Place.{Place}
use Rattle.cbase.specs.declared.tree.expr.Expr.{Expr}
use Rattle.cbase.specs.declared.tree.init.Init.{Init}
use Rattle.cbase.specs.declared.tree.operators.BinaryOp.{BinaryOp}
use Rattle.cbase.specs.declared.tree.stmt.Stmt.{Stmt}
use Rattle.c_machine.specs.Program.{Program}
use Rattle.c_machine.specs.Text.{Clause, Form, Initialiser}
use Rattle.c_machine.specs.Trees.{text_of}
use Rattle.lower.specs.Jobs.{JobOf, LeadsTo}
use Rattle.lowering.specs.Kinds.{is_void}
use Rattle.lowering.specs.declared.moves.Move.{Move as MoveOf}
use Rattle.lowering.specs.declared.moves.Move.TheVariants.{Asks}
use Rattle.lowering.specs.Placing.{Made, Around, along_line, both_tests, equality, failed, go, place_choose, place_initialiser, place_inner, place_statement, place_test, place_value, place_value_form, place_void, place_work, zero_test}
use Rattle.lowering.specs.Source.{Source, IsSource}
use Rattle.lowering.specs.Table.{kind_of_last, last_of, value_line, work_line}
use Rattle.lower.specs.TwoTests.{first_test}

-- a move; a value and an expression whose value is not used, by their forms; conditions; statements and initialisers by what they are
pub data Piece : Type 0 where
  Through : (from : ℕ) → MoveOf Expr Stmt Init → (to : ℕ) → Piece
  Valued : (from : ℕ) → Expr → (spare into to : ℕ) → Form Expr Stmt → Piece
  Formed : (from : ℕ) → Expr → (spare into to : ℕ) → Form Expr Stmt → Piece
  LineOfValue : (from : ℕ) → Expr → (spare into to : ℕ) → Form Expr Stmt → Piece
  Worked : (from : ℕ) → Expr → (spare to : ℕ) → Form Expr Stmt → Piece
  Voided : (from : ℕ) → Expr → (spare to : ℕ) → Form Expr Stmt → Piece
  LineOfWork : (from : ℕ) → Expr → (spare to : ℕ) → Form Expr Stmt → Piece
  Chosen : (from : ℕ) → Expr → Expr → Expr → Expr → (spare into to : ℕ) → Piece
  Inside : (from : ℕ) → Expr → List Stmt → Place → (into to : ℕ) → Piece
  VoidInside : (from : ℕ) → Expr → List Stmt → Place → (into to : ℕ) → Piece
  Tested : (from : ℕ) → Expr → (spare off on : ℕ) → Form Expr Stmt → Piece
  ZeroTest : (from : ℕ) → Expr → (spare off on : ℕ) → Piece
  Equality : (from : ℕ) → BinaryOp → Expr → Expr → Expr → (spare same differs : ℕ) → Piece
  BothTests : (from : ℕ) → Expr → Expr → Expr → (spare off on : ℕ) → (both : Bool) → Piece
  Stated : (from : ℕ) → Stmt → (to : ℕ) → Clause Expr Stmt Init → Piece
  Initialised : (from : ℕ) → Place → (to : ℕ) → Initialiser Expr Init → Piece

abbrev pub piece_made : (p : Program) → (levels : ℕ) → Around → Piece → Made → Made
piece_made p levels around (Through from move to) made = go (suc levels) (text_of p) around made from move to
piece_made p levels around (Valued from expr spare into to form) made = place_value (text_of p) (go levels (text_of p)) around made from expr spare into to form
piece_made p levels around (Formed from expr spare into to form) made = place_value_form (text_of p) (go levels (text_of p)) around made from expr spare into to form
piece_made p levels around (LineOfValue from expr spare into to form) made =
    along_line (text_of p) around (go levels (text_of p) around) made from (value_line (text_of p) expr spare into made.registers form) to
piece_made p levels around (Worked from expr spare to form) made = place_work (text_of p) (go levels (text_of p)) around made from expr spare to form
piece_made p levels around (Voided from expr spare to form) made = place_void (text_of p) (go levels (text_of p)) around made from expr spare to form
piece_made p levels around (LineOfWork from expr spare to form) made =
    along_line (text_of p) around (go levels (text_of p) around) made from (work_line (text_of p) expr spare made.registers form) to
piece_made p levels around (Chosen from expr test one other spare into to) made =
    place_choose (text_of p) around (go levels (text_of p) around) made from expr test one other spare into to
piece_made p levels around (Inside from expr body close into to) made = place_inner (text_of p) (go levels (text_of p)) around made from expr body close into to
piece_made p levels around (VoidInside from expr body close into to) made =
    if is_void (kind_of_last (text_of p) (last_of (text_of p) body)) then place_inner (text_of p) (go levels (text_of p)) around made from expr body close into to
    else failed made
piece_made p levels around (Tested from expr spare off on form) made = place_test (text_of p) around (go levels (text_of p) around) made from expr spare off on form
piece_made p levels around (ZeroTest from expr spare off on) made = zero_test (text_of p) around (go levels (text_of p) around) made from expr spare off on
piece_made p levels around (Equality from op expr left right spare same differs) made =
    equality (text_of p) around (go levels (text_of p) around) made from op expr left right spare same differs
piece_made p levels around (BothTests from expr left right spare off on both) made =
    both_tests (text_of p) around (go levels (text_of p) around) made from expr left right spare (first_test both left spare) (Asks right spare off on)
    (if both then off else on)
piece_made p levels around (Stated from stmt to clause) made = place_statement (text_of p) (go levels (text_of p)) around made from stmt to clause
piece_made p levels around (Initialised from place to initialiser) made = place_initialiser (text_of p) (go levels (text_of p)) around made from place to initialiser

-- what is still to be placed leads to the piece, where this stands around it, and whatever stands around it
pub record Places (source : Source) (around : Around) (levels : ℕ) (piece : Piece) (jobs new : List JobOf) (before after : Made) : Type 0 where
  pub of : (p : Program) → IsSource source p → LeadsTo p around jobs (piece_made p levels around piece before) new after

pub record PlacesAll (source : Source) (levels : ℕ) (piece : Piece) (jobs new : List JobOf) (before after : Made) : Type 0 where
  pub of : (p : Program) (around : Around) → IsSource source p → LeadsTo p around jobs (piece_made p levels around piece before) new after
