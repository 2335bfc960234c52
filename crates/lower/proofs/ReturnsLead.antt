-- The moves of a `return` with a value.
use Rattle.std.proofs.Common.{◌≡◌, ℕ, suc, ◌+◌, false, List, [], ◌∷◌, ◌++◌, refl, ap, append_assoc, append-nil, true, None}
use Rattle.cbase.specs.declared.place.Place.{Place}
use Rattle.cbase.specs.declared.tree.expr.Expr.{Expr}
use Rattle.cbase.specs.declared.tree.init.Init.{Init}
use Rattle.cbase.specs.declared.tree.stmt.Stmt.{Stmt}
use Rattle.c_machine.specs.declared.kind.Kind.{Kind}
use Rattle.c_machine.specs.Expressions.{value_kind}
use Rattle.c_machine.specs.Program.{Program}
use Rattle.c_machine.specs.Trees.{text_of}
use Rattle.flow.specs.declared.flow_graph.Standing.{Standing}
use Rattle.flow.specs.declared.instruction.Instr.TheVariants as i
use Rattle.lower.specs.declared.jobs.Job.TheVariants.{Follow}
use Rattle.lower.specs.Jobs.{JobOf, LeadsTo}
use Rattle.lower.proofs.PiecesPlaced.{leads_by}
use Rattle.lowering.specs.Kinds.{conversion, width}
use Rattle.lowering.specs.declared.wanted.Wanted.TheVariants.{AsValue}
use Rattle.lowering.specs.LetGo.{left_of}
use Rattle.lowering.specs.declared.moves.Move.{Move as MoveOf}
use Rattle.lowering.specs.declared.moves.Move.TheVariants.{Emits, Evaluates}
use Rattle.lowering.specs.Moves.{adapts, run_of, stands_in, taking}
use Rattle.lowering.specs.Placing.{Made, Around, along, along_line, finishes, function_leaves, go, place_return, place_return_value, registers_of, return_moves, stands_at, with_registers}
use Rattle.lowering.specs.Returns.{given_moves}
use Rattle.lowering.specs.declared.conversion.Conversion.{Conversion}

pub returned_moves : (p : Program) (around : Around) (expr : Expr) (spare count r : ℕ) (change : Conversion) (standing : Standing) (word : Place) →
    given_moves (text_of p) expr spare count r (width (value_kind (text_of p) expr)) change around.result standing word ++ function_leaves around word
    ≡ return_moves (text_of p) around expr spare count r change standing word
returned_moves p around expr spare count r change standing word =
    ap (λ (moves : List (MoveOf Expr Stmt Init)). Evaluates expr spare r ∷ moves)
    (append_assoc (adapts change r (width (value_kind (text_of p) expr)) (suc r) word)
    (Emits (i.Move around.result (stands_in change r (suc r))) word
    ∷ Emits (i.Finish (registers_of standing ++ (run_of spare count ++ stands_in change r (suc r) ∷ []))) word ∷ [])
    (function_leaves around word))

pub return_leads : (p : Program) (around : Around) (levels from : ℕ) (expr : Expr) (word : Place) (jobs new : List JobOf) (before after : Made) (own : Kind) (count : ℕ) →
    own ≡ value_kind (text_of p) expr → count ≡ left_of (text_of p) (AsValue false) expr →
    LeadsTo p around jobs (along_line (text_of p) around (go levels (text_of p) around) before from
    (taking (count + 2) (given_moves (text_of p) expr before.registers count (before.registers + count) (width own) (conversion own around.kind)
    around.result (stands_at before from) word ++ function_leaves around word)) around.exit) new after →
    LeadsTo p around jobs (place_return_value (text_of p) (go levels (text_of p)) around before from expr word (left_of (text_of p) (AsValue false) expr)) new after
return_leads p around levels from expr word jobs new before after own count is_own is_count leads =
    let f : Kind → ℕ → Made = λ (own : Kind) (count : ℕ). along_line (text_of p) around (go levels (text_of p) around) before from
    (taking (count + 2) (given_moves (text_of p) expr before.registers count (before.registers + count) (width own) (conversion own around.kind)
    around.result (stands_at before from) word ++ function_leaves around word)) around.exit in
    leads_by p around jobs new after
    (λ (moves : List (MoveOf Expr Stmt Init)). along (text_of p) around (go levels (text_of p) around) (with_registers (left_of (text_of p) (AsValue false) expr + 2) before) from moves around.exit)
    _ _
    (returned_moves p around expr before.registers (left_of (text_of p) (AsValue false) expr) (before.registers + left_of (text_of p) (AsValue false) expr)
    (conversion (value_kind (text_of p) expr) around.kind) (stands_at before from) word)
    (leads_by p around jobs new after (λ (count : ℕ). f (value_kind (text_of p) expr) count) count _ is_count
    (leads_by p around jobs new after (λ (own : Kind). f own count) own _ is_own leads))

-- one without a value
pub alone_leads : (p : Program) (around : Around) (levels from : ℕ) (word : Place) (jobs new : List JobOf) (made : Made) (registers : List ℕ)
    (none one two : List (MoveOf Expr Stmt Init)) → registers ≡ registers_of (stands_at made from) → none ≡ [] → one ≡ function_leaves around word ++ none →
    two ≡ finishes registers word ++ one → new ≡ Follow levels from two around.exit ∷ jobs →
    LeadsTo p around jobs (place_return (text_of p) (go levels (text_of p)) around made from word true None) new made
alone_leads p around levels from word jobs new made registers none one two is_registers is_none is_one is_two is_new =
    record { of = rw (is_new, is_two, is_one, is_none, append-nil (function_leaves around word), is_registers) refl }
