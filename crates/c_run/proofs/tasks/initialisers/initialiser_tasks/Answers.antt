-- A value, or parts in braces.
use Rattle.std.proofs.Common.{List, ap, subst, ◌∙◌}
use Rattle.cbase.specs.declared.tree.expr.ExprForm.TheViews.{out-Init, outs-Braces, outs-Value}
use Rattle.cbase.specs.declared.tree.init.InitPart.{InitPart}
use Rattle.c_machine.specs.Blocks.{initialiser_parts}
use Rattle.c_machine.specs.Trees.{initialiser_of, text_of}
use Rattle.c_run.specs.tasks.Room.{MakesRoom}
use Rattle.c_run.proofs.tasks.Initialised.{parts_are, parts_tasks}
use Rattle.c_run.proofs.tasks.MakingRoom.{on_ok, same_room}
use Rattle.c_run.proofs.tasks.initialisers.initialiser_tasks.Goals as goal

pub returns-in-Value : goal.returns-in-Value
returns-in-Value c = on_ok _ _ c.set.result
    (λ room made. λ n p stands. same_room _ _ room c.args.state.now c.set.new.state
    (ap (λ layer. initialiser_parts (text_of p) c.args.place (initialiser_of layer)) (ap out-Init c.in-Value.is ∙ outs-Value c.in-Value.value c.in-Value.after))
    (made n p stands))
    c.set.ensures

pub returns-in-Braces : goal.returns-in-Braces
returns-in-Braces c = on_ok _ _ c.each_part.result
    (λ room made. λ n p stands. same_room _ (parts_tasks c.args.place c.in-Braces.parts) room c.args.state.now c.each_part.new.state
    (ap (λ layer. initialiser_parts (text_of p) c.args.place (initialiser_of layer)) (ap out-Init c.in-Braces.is ∙ outs-Braces c.in-Braces.parts)
    ∙ parts_are c.args.place c.in-Braces.parts)
    (subst (λ (parts : List InitPart). MakesRoom (parts_tasks c.args.place parts) room c.args.state.now c.each_part.new.state) c.as_slice.ensures made))
    c.each_part.ensures
