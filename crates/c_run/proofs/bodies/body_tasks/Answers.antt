-- The objects of the body, in front of its statements and its end.
use Rattle.std.proofs.Common.{ℕ, ◌++◌, [], ◌∷◌, List, map, refl, sym, ap, ◌∙◌}
use Rattle.cbase.specs.declared.tree.stmt.Stmt.{Stmt}
use Rattle.c_machine.specs.declared.kind.Kind.{Kind}
use Rattle.c_machine.specs.declared.task.Task.TheVariants.{EndOfBody, Execute}
use Rattle.c_machine.specs.Blocks.{entered}
use Rattle.c_machine.specs.Program.{result_in}
use Rattle.c_machine.specs.State.{doing}
use Rattle.c_machine.specs.Trees.{function_as, kind_in, text_of}
use Rattle.c_run.specs.declared.tasks.room.Room.TheVariants.{Made}
use Rattle.c_text.specs.Kept.{kept}
use Rattle.c_run.proofs.Rooms.{in_front, none_spoken, not_behind, on_ok, same_room}
use Rattle.c_run.proofs.tasks.MakingRoom.{lacks_one, speaks_of_one}
use Rattle.c_run.proofs.bodies.body_tasks.Goals as goal

pub returns-in_default : goal.returns-in_default
returns-in_default c = λ n p stands.
    let function = function_as p c.args.function.now in
    not_behind (entered (text_of p) function.body) (map Execute function.body ++ EndOfBody function.is_main function.result function.close c.args.held ∷ [])
    c.args.state.now c.args.state.now c.args.state.now
    (not_behind (map Execute function.body) (EndOfBody function.is_main function.result function.close c.args.held ∷ []) c.args.state.now c.args.state.now c.args.state.now
    (lacks_one function.result [] (sym c.in_default.is ∙ c.defined_result.ensures n p stands ∙ ap (λ (token : ℕ). kept (kind_in p (result_in p.handed token))) c.token.ensures)))

pub returns : goal.returns
returns c = on_ok _ _ c.entered.result
    (λ room made. λ n p stands.
    let function = function_as p c.args.function.now in
    in_front (entered (text_of p) function.body) (map Execute function.body ++ EndOfBody function.is_main function.result function.close c.args.held ∷ []) room
    c.args.state.now c.execute_each.new.state c.entered.new.state
    (same_room _ _ room c.execute_each.new.state c.entered.new.state (ap (entered (text_of p)) c.body-body.ensures) (made n p stands))
    (in_front (map Execute function.body) (EndOfBody function.is_main function.result function.close c.args.held ∷ []) Made c.args.state.now c.do_first.new.self c.execute_each.new.state
    (c.in_ok-execute_each.ensures ∙ ap (λ (body : List Stmt). doing (map Execute body) c.do_first.new.self) c.body-body.ensures, none_spoken Execute function.body (λ stmt. refl))
    (speaks_of_one (λ (kind : Kind). EndOfBody function.is_main kind function.close c.args.held ∷ []) function.result c.in-Some.result c.args.state.now c.do_first.new.self
    (sym c.in-Some.is ∙ c.defined_result.ensures n p stands ∙ ap (λ (token : ℕ). kept (kind_in p (result_in p.handed token))) c.token.ensures) refl
    (c.in_ok-do_first.ensures.ok ∙ (λ i. doing (EndOfBody (c.is_main.ensures i) c.in-Some.result (c.close.ensures i) c.args.held ∷ []) c.args.state.now)))))
    c.entered.ensures
