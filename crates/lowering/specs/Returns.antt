-- The moves of a `return` with a value in front of those by which its function is left.
use Rattle.std.specs.Prelude.{ℕ, suc, List, [], ◌∷◌, ◌++◌}
use Rattle.cbase.specs.declared.place.Place.{Place}
use Rattle.c_machine.specs.Text.{Text}
use Rattle.flow.specs.declared.flow_graph.Standing.{Standing}
use Rattle.flow.specs.declared.instruction.Instr.TheVariants as i
use Rattle.lowering.specs.declared.conversion.Conversion.{Conversion}
use Rattle.lowering.specs.Moves.{Move, Emits, Evaluates, adapts, run_of, stands_in}
use Rattle.lowering.specs.Placing.{registers_of}

abbrev pub given_moves : (t : Text) → t.Expr → ℕ → ℕ → ℕ → ℕ → Conversion → ℕ → Standing → Place → List (Move t)
given_moves t expr spare count r bytes change result standing word =
    Evaluates expr spare r ∷ (adapts change r bytes (suc r) word
    ++ Emits (i.Move result (stands_in change r (suc r))) word
    ∷ Emits (i.Finish (registers_of standing ++ (run_of spare count ++ stands_in change r (suc r) ∷ []))) word ∷ [])
