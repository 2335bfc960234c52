-- The name has a number, or there is no such function.
use Rattle.std.proofs.Common.{ℕ, Option, None, Some, sym, ap, ◌∙◌}
use Rattle.c_machine.specs.Expressions.{call_parts}
use Rattle.c_machine.specs.Trees.{body_stands, text_of}
use Rattle.c_run.proofs.tasks.MakingRoom.{on_ok, same_room}
use Rattle.c_run.proofs.tasks.calls.named_call.Goals as goal

pub returns-in-None : goal.returns-in-None
returns-in-None c = on_ok _ _ c.unknown.result
    (λ room made. λ n p callee stands defined. same_room _ (call_parts (text_of p) callee c.args.args.now (body_stands None)) room c.args.state.now c.unknown.new.state
    (ap (λ (found : Option ℕ). call_parts (text_of p) callee c.args.args.now (body_stands found)) (sym c.number.ensures ∙ c.in-None.is)) made)
    c.unknown.ensures

pub returns-in-Some : goal.returns-in-Some
returns-in-Some c = on_ok _ _ c.numbered_call.result
    (λ room made. λ n p callee stands defined. same_room _ (call_parts (text_of p) callee c.args.args.now (body_stands (Some c.in-Some.number))) room c.args.state.now c.numbered_call.new.state
    (ap (λ (found : Option ℕ). call_parts (text_of p) callee c.args.args.now (body_stands found)) (sym c.number.ensures ∙ c.in-Some.is)) (made n p stands defined))
    c.numbered_call.ensures
