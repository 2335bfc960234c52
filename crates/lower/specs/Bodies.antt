-- Functions and their bodies as the code places them, for each program that its source stands for.
use Rattle.std.specs.Prelude.{◌≡◌, ℕ, suc, ◌+◌, Bool, List, [], ◌∷◌, ◌++◌, length, None, if◌then◌else◌}
use Rattle.cbase.specs.declared.place.Place.{Place}
use Rattle.cbase.specs.declared.tree.expr.Expr.{Expr}
use Rattle.cbase.specs.declared.tree.init.Init.{Init}
use Rattle.cbase.specs.declared.tree.stmt.Stmt.{Stmt}
use Rattle.c_machine.specs.declared.kind.Kind.{Kind}
use Rattle.c_machine.specs.declared.object.Object.{Object}
use Rattle.c_machine.specs.Program.{Program, FunctionItem}
use Rattle.c_machine.specs.Trees.{function_as, text_of}
use Rattle.flow.specs.declared.flow_graph.FlowFunction.{FlowFunction}
use Rattle.simulation.specs.Names.{Name}
use Rattle.lowering.specs.Kinds.{is_void}
use Rattle.lowering.specs.Lowering.{answers, around_body, flow_function, parameter_objects, place_body, place_function}
use Rattle.lowering.specs.declared.moves.Move.{Move as MoveOf}
use Rattle.lowering.specs.Placing.{Made, along, closings, go, leaves}
use Rattle.lowering.specs.Source.{Source, IsSource}

-- the end of a body: its answer, if it has one, and all that it leaves
abbrev pub end_line : {E S I : Type 0} → Bool → Kind → ℕ → Bool → List Name → Place → List (MoveOf E S I)
end_line is_main kind result closes names close =
    (if is_void kind then [] else answers is_main kind result close) ++ leaves names close ∷ closings closes close

-- the moves of a body
pub record AreMovesPlaced (source : Source) (statics : List Name) (exit : ℕ) (kind : Kind) (result : ℕ) (closes : Bool) (entry : ℕ) (all : List Name)
    (moves : List (MoveOf Expr Stmt Init)) (before after : Made) : Type 0 where
  pub of : (p : Program) → IsSource source p
      → after ≡ along (text_of p) (around_body statics all kind closes exit result)
      (go (text_of p).enough (text_of p) (around_body statics all kind closes exit result)) before entry moves exit

-- a body with its return
pub record IsBodyPlaced (source : Source) (statics : List Name) (exit : ℕ) (kind : Kind) (result : ℕ) (closes : Bool) (function : FunctionItem) (entry : ℕ)
    (params names : List Name) (before after : Made) : Type 0 where
  pub of : (p : Program) → IsSource source p → kind ≡ (function_as p function).result
      → after ≡ place_body (text_of p) (around_body statics (params ++ names) kind closes exit result) before (function_as p function) names entry exit

-- a function of these parameters, with that result, and any function
pub record IsNamedPlaced (source : Source) (statics : List Name) (closes : Bool) (function : FunctionItem) (kind : Kind) (objects : List Object)
    (placed : FlowFunction) (before after : Made) : Type 0 where
  pub of : (p : Program) → IsSource source p → kind ≡ (function_as p function).result → objects ≡ parameter_objects (text_of p) (function_as p function)
      → (placed ≡ flow_function (text_of p) before (function_as p function)) × (after ≡ place_function (text_of p) statics closes before (function_as p function))

pub record IsFunctionPlaced (source : Source) (statics : List Name) (closes : Bool) (function : FunctionItem) (placed : FlowFunction) (before after : Made) : Type 0 where
  pub of : (p : Program) → IsSource source p
      → (placed ≡ flow_function (text_of p) before (function_as p function)) × (after ≡ place_function (text_of p) statics closes before (function_as p function))
