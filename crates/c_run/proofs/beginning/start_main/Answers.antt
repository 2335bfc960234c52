-- The objects are made and initialised, and then main is called.
use Rattle.std.proofs.Common.{length, sym, ◌∙◌}
use Rattle.std.proofs.lemmas.List.{length-map}
use Rattle.c_machine.specs.Run.{blank, static_tasks}
use Rattle.c_machine.specs.Trees.{function_as, nodes_in, object_of, static_rows, text_of}
use Rattle.c_run.proofs.Rooms.{on_ok}
use Rattle.c_run.proofs.RunStarts.{at_blank, calls, same_done, statics_lack, statics_made, statics_not, stops, that_many}
use Rattle.c_run.proofs.beginning.start_main.Goals as goal

pub returns-in-None : goal.returns-in-None
returns-in-None c = λ n p stands strict defined sets nodes is.
    statics_lack (text_of p) (function_as p c.args.main.now) c.args.choices.now
    (statics_not (text_of p) c.in_ok-static_tasks.field-0 c.args.state.now c.static_tasks.new.state c.in-None.is (c.in_ok-static_tasks.ensures n p stands (c.as_slice.ensures ∙ sets)))

pub returns-then-not-goes_on : goal.returns-then-not-goes_on
returns-then-not-goes_on c = λ n p stands strict defined sets nodes is.
    let t = text_of p in
    let made = statics_made t c.in_ok-static_tasks.field-0 c.in-Some.count c.args.state.now c.static_tasks.new.state c.in-Some.is (c.in_ok-static_tasks.ensures n p stands (c.as_slice.ensures ∙ sets)) in
    stops t (function_as p c.args.main.now) c.args.choices.now c.in_ok-stepped-in-Some.stepped c.finish.new.state c.finish.new.choices made.0.1
    (same_done t c.in_ok-steps-in-Some.steps t.enough c.in_ok-stepped-in-Some.stepped c.static_tasks.new.state (blank t (static_tasks t)) c.args.choices.now c.finish.new.state c.finish.new.choices
    (that_many c.in_ok-steps-in-Some.steps c.in-Some.count (length t.statics) (length (static_rows p)) c.args.found.now.nodes (nodes_in p.items)
    c.in_ok-steps-in-Some.ensures made.1 (length-map (static_rows p) (object_of p)) nodes)
    (at_blank t c.args.state.now c.static_tasks.new.state is made.0.0) (c.in_ok-stepped-in-Some.ensures.done n p stands strict defined))
    (sym c.goes_on.ensures ∙ c.if-not-goes_on.true)

pub returns-else-not-goes_on : goal.returns-else-not-goes_on
returns-else-not-goes_on c = on_ok _ _ c.call_main.result
    (λ stepped called. λ n p stands strict defined sets nodes is.
    let t = text_of p in
    let made = statics_made t c.in_ok-static_tasks.field-0 c.in-Some.count c.args.state.now c.static_tasks.new.state c.in-Some.is (c.in_ok-static_tasks.ensures n p stands (c.as_slice.ensures ∙ sets)) in
    let goes = sym c.goes_on.ensures ∙ c.if-not-goes_on.false in
    calls t (function_as p c.args.main.now) c.args.choices.now c.in_ok-stepped-in-Some.stepped stepped c.finish.new.state c.call_main.new.state c.finish.new.choices made.0.1
    (same_done t c.in_ok-steps-in-Some.steps t.enough c.in_ok-stepped-in-Some.stepped c.static_tasks.new.state (blank t (static_tasks t)) c.args.choices.now c.finish.new.state c.finish.new.choices
    (that_many c.in_ok-steps-in-Some.steps c.in-Some.count (length t.statics) (length (static_rows p)) c.args.found.now.nodes (nodes_in p.items)
    c.in_ok-steps-in-Some.ensures made.1 (length-map (static_rows p) (object_of p)) nodes)
    (at_blank t c.args.state.now c.static_tasks.new.state is made.0.0) (c.in_ok-stepped-in-Some.ensures.done n p stands strict defined))
    goes (c.in_ok-stepped-in-Some.ensures.nothing goes) (called n p stands))
    c.call_main.ensures
