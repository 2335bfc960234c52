-- Blocks that die keep their numbers.
use Rattle.std.proofs.Common.{length, subst, sym, ◌∙◌, ap, List, ◌∷◌}
use Rattle.c_machine.specs.declared.variable.Variable.{Variable}
use Rattle.c_machine.specs.State.{Frame}
use Rattle.c_steps.specs.Named.{NamesBlocks}
use Rattle.c_steps.proofs.Kept.{known_memory, after_block}
use Rattle.c_steps.proofs.state.State.leave_block.Goals as goal

pub invariant_of-self-in-Some : goal.invariant_of-self-in-Some
invariant_of-self-in-Some g c =
    known_memory _ _ _ _ _ _ c.end_scope.ensures
    (after_block _ _ _ _ _ _
    (subst (λ (frame : Frame). NamesBlocks (length c.self.inside.memory) c.self.inside.operands frame c.self.inside.callers c.self.inside.statics)
    (c.in-Some.ensures.some ∙ ap (λ (scope : List Variable). scope ∷ c.pop.new.self) (sym c.as_slice.ensures)) c.self.invariant))
