-- The flow graph of a program of C.
use Rattle.std.specs.Prelude.{ℕ, suc, ◌+◌, Bool, true, false, List, [], ◌∷◌, ◌++◌, map, length, Option, None, Some, option_map, if◌then◌else◌}
use Rattle.cbase.specs.declared.abi.Abi.{Abi}
use Rattle.cbase.specs.declared.place.Place.{Place}
use Rattle.c_machine.specs.declared.kind.Kind.{Kind}
use Rattle.c_machine.specs.declared.object.Object.{Object}
use Rattle.c_machine.specs.Program.{Program}
use Rattle.c_machine.specs.Text.{Function, Text}
use Rattle.c_machine.specs.Trees.{text_of}
use Rattle.flow.specs.declared.instruction.Instr.TheVariants as i
use Rattle.flow.specs.declared.flow_graph.Flow.{Flow}
use Rattle.flow.specs.declared.flow_graph.FlowFunction.{FlowFunction}
use Rattle.flow.specs.declared.flow_graph.Initial.{Initial}
use Rattle.flow.specs.declared.flow_graph.Standing.{Standing}
use Rattle.simulation.specs.Names.{Name, variables_of}
use Rattle.lowering.specs.Kinds.{width, is_void}
use Rattle.lowering.specs.Moves.{Move, MoveOf, Emits, Does}
use Rattle.lowering.specs.Table.{receives, result_into}
use Rattle.lowering.specs.Placing.{Made, Around, emit, with_point, with_registers, with_objects, named_from, objects_in, enters, function_leaves, along, go}
use Rattle.lowering.specs.Initials.{latest, initials_of}

-- Functions. A body is one block with its parameters; at its `}` main answers 0, and another function with a result any input of it (5.1.2.2.3, 6.9.1p12).
abbrev pub answers : {E S I : Type 0} → Bool → Kind → ℕ → Place → List (MoveOf E S I)
answers true kind register close = Emits (i.Number register 0 (width kind)) close ∷ []
answers false kind register close = receives (Some register) kind close

abbrev pub end_moves : (t : Text) → Function t.Stmt → Around → Bool → List (Move t)
end_moves t function around true = function_leaves around function.close
end_moves t function around false = answers function.is_main function.result around.result function.close ++ function_leaves around function.close

abbrev pub body_moves : (t : Text) → Function t.Stmt → List Name → Around → List (Move t)
body_moves t function names around =
    enters names function.close ∷ (map Does function.body ++ end_moves t function around (is_void function.result))

-- the points of a function: its entry, where its parameters stand, its exit, where its result stands, and the one behind that
abbrev pub at_entry : List Name → Standing
at_entry params = record { variables = variables_of params; registers = [] }

abbrev pub at_exit : Kind → ℕ → Standing
at_exit kind register = record { variables = []; registers = if is_void kind then [] else record { register = register; size = width kind } ∷ [] }

abbrev pub nothing : Standing
nothing = record { variables = []; registers = [] }

abbrev pub around_body : List Name → List Name → Kind → Bool → ℕ → ℕ → Around
around_body statics names kind closes exit result = record {
  scopes = names ∷ [];
  statics = statics;
  loop = None;
  exit = exit;
  kind = kind;
  result = result;
  closes = closes;
}

abbrev pub parameter_objects : (t : Text) → Function t.Stmt → List Object
parameter_objects t function = map (λ param. param.object) function.params

abbrev pub place_body : (t : Text) → Around → Made → Function t.Stmt → List Name → ℕ → ℕ → Made
place_body t around made function names entry exit =
    emit (along t around (go t.enough t around) made entry (body_moves t function names around) exit)
    exit (i.Return (result_into function.result around.result)) (suc exit) function.close

-- the first register is that of the result
abbrev pub place_named : (t : Text) → List Name → Bool → Made → Function t.Stmt → List Name → List Name → Made
place_named t statics closes made function params names =
    place_body t (around_body statics (params ++ names) function.result closes (suc made.points) made.registers)
    (with_registers 1 (with_point nothing (with_point (at_exit function.result made.registers) (with_point (at_entry params)
    (with_objects false (objects_in t function.body) (with_objects false (parameter_objects t function) made))))))
    function names made.points (suc made.points)

abbrev pub place_function : (t : Text) → List Name → Bool → Made → Function t.Stmt → Made
place_function t statics closes made function =
    place_named t statics closes made function (named_from (length made.variables) (parameter_objects t function))
    (named_from (length made.variables + length function.params) (objects_in t function.body))

abbrev pub flow_function : (t : Text) → Made → Function t.Stmt → FlowFunction
flow_function t made function = record {
  entry = made.points;
  exit = suc made.points;
  parameters = variables_of (named_from (length made.variables) (parameter_objects t function));
}

-- in the order of the text
pub record Functions : Type 0 where
  pub made : Made
  pub functions : List FlowFunction

abbrev pub place_functions : (t : Text) → List Name → List (Function t.Stmt) → Made → List FlowFunction → Functions
place_functions t statics [] made placed = record { made = made; functions = placed }
place_functions t statics (function ∷ functions) made placed =
    place_functions t statics functions (place_function t statics false made function) (placed ++ flow_function t made function ∷ [])

-- Where main may not return while an allocated block lives, the main with which the program begins stands behind all functions once more: it looks for such a
-- block at its end, and the one that is called does not.
abbrev pub with_main : (t : Text) → List Name → Option (Function t.Stmt) → Functions → Functions
with_main t statics None placed = placed
with_main t statics (Some main) placed =
    record { made = place_function t statics true placed.made main; functions = placed.functions ++ flow_function t placed.made main ∷ [] }

abbrev pub place_all : (t : Text) → List Name → Made → Functions
place_all t statics made =
    if t.strict then with_main t statics t.main (place_functions t statics t.functions made []) else place_functions t statics t.functions made []

-- the function with which the program begins
abbrev pub main_number : {S : Type 0} → List (Function S) → Option ℕ
main_number [] = None
main_number (function ∷ functions) = if function.is_main then Some 0 else option_map suc (main_number functions)

abbrev pub first_number : (t : Text) → Option ℕ → Option ℕ
first_number t number = if t.strict then option_map (λ main. length t.functions) number else number

-- The graph: static objects are the first variables.
abbrev pub nothing_made : Made
nothing_made = record { points = 0; registers = 0; edges = []; stands = []; variables = []; heads = []; is_graph = true }

abbrev pub graph_of : Abi → (t : Text) → Functions → List Initial → ℕ → Flow
graph_of abi t placed initial main = record {
  points = placed.made.points;
  edges = placed.made.edges;
  functions = placed.functions;
  variables = placed.made.variables;
  initial = latest initial;
  heads = placed.made.heads;
  main = main;
  stands = placed.made.stands;
  abi = abi;
  strict = t.strict;
}

abbrev pub graph_where : Abi → (t : Text) → Functions → Option (List Initial) → Option ℕ → Option Flow
graph_where abi t placed (Some initial) (Some main) = if placed.made.is_graph then Some (graph_of abi t placed initial main) else None
graph_where abi t placed initial main = None

abbrev pub graph_with : Abi → (t : Text) → List Name → Option Flow
graph_with abi t statics =
    graph_where abi t (place_all t statics (with_objects true t.statics nothing_made)) (initials_of t statics) (first_number t (main_number t.functions))

-- of a text: where each size comes to a number of at most 65,536, each static value to one that lies in its object, and each name stands for something
abbrev pub flow_in : Abi → Text → Option Flow
flow_in abi t = graph_with abi t (named_from 0 t.statics)

-- of a program
abbrev pub flow_of : Program → Option Flow
flow_of p = flow_in p.abi (text_of p)
