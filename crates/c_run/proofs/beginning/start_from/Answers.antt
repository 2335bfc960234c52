-- Where there is a main.
use Rattle.std.proofs.Common.{Some, sym, ap, ◌∙◌}
use Rattle.c_machine.specs.Trees.{function_as, nodes_in, text_of}
use Rattle.c_run.proofs.DefinedFunctions.{main_found, no_main_found}
use Rattle.c_run.proofs.Rooms.{on_ok}
use Rattle.c_run.proofs.RunStarts.{no_main, same_start}
use Rattle.c_run.proofs.beginning.start_from.Goals as goal

pub returns-in-None : goal.returns-in-None
returns-in-None c = λ n p stands strict defined items is.
    no_main (text_of p) (text_of p).main c.args.choices.now c.args.state.now c.args.choices.now
    (no_main_found p c.args.functions.now 0 _ c.main.result c.in-None.is c.main.ensures defined)

pub returns-in_ok-found-in-Some : goal.returns-in_ok-found-in-Some
returns-in_ok-found-in-Some c = on_ok _ _ c.start_main.result
    (λ stepped starts. λ n p stands strict defined items is.
    same_start (text_of p) (Some (function_as p c.in-Some.main.now)) (text_of p).main stepped c.args.choices.now c.start_main.new.state c.start_main.new.choices
    (sym (main_found p c.args.functions.now 0 _ c.main.result c.in-Some.main c.in-Some.is c.main.ensures defined))
    (starts n p stands strict defined (c.in_ok-found-in-Some.ensures.sets n p stands items) (c.in_ok-found-in-Some.ensures.nodes ∙ ap nodes_in (sym items)) is))
    c.start_main.ensures
