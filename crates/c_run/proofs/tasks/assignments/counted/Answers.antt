-- One type, of the operand.
use Rattle.std.proofs.Common.{[], ◌∷◌, sym, ◌∙◌, refl}
use Rattle.c_machine.specs.declared.kind.Kind.{Kind}
use Rattle.c_machine.specs.declared.task.Task.TheVariants.{AddressOf, CountBy}
use Rattle.c_machine.specs.Program.{type_of}
use Rattle.c_machine.specs.Trees.{kind_in}
use Rattle.c_run.proofs.tasks.MakingRoom.{lacks_one, on_ok, room_with_one}
use Rattle.c_run.proofs.tasks.assignments.counted.Goals as goal

pub returns-in_default : goal.returns-in_default
returns-in_default c = λ n p stands. lacks_one (kind_in p (type_of p c.args.arg.now)) [] (sym c.in_default.is ∙ c.kind.ensures n p c.args.arg.now stands refl)

pub returns : goal.returns
returns c = on_ok _ _ c.address_then.result
    (λ room made. λ n p stands. room_with_one (λ (kind : Kind). AddressOf c.args.arg.now ∷ CountBy c.args.up c.args.after c.args.arg.now.place kind ∷ []) (kind_in p (type_of p c.args.arg.now)) c.in-Some.kind room c.args.state.now
    c.address_then.new.state (sym c.in-Some.is ∙ c.kind.ensures n p c.args.arg.now stands refl) made)
    c.address_then.ensures
