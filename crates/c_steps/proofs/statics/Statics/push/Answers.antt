-- The table has the block of one more name.
use Rattle.std.proofs.Common.{List, sym, ap, ◌∙◌}
use Rattle.c_machine.specs.declared.variable.Variable.{Variable}
use Rattle.c_machine.specs.State.{block_in}
use Rattle.c_steps.proofs.Lookups.{finds_named}
use Rattle.c_steps.proofs.statics.Statics.push.Goals as goal

pub invariant_of-self-in-Ok : goal.invariant_of-self-in-Ok
invariant_of-self-in-Ok c token =
    finds_named c.self.inside.variables.items c.self.inside.blocks c.note.new.blocks c.args.variable c.in-Some.token c.self.invariant c.in-Some.is c.in-Ok.ensures.ok token
    ∙ ap (λ (variables : List Variable). block_in variables token) (sym c.in_ok-push.ensures.items)
