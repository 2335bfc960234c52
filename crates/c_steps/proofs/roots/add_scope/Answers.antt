-- One more object's block is found, and at the end all are.
use Rattle.std.proofs.Common.{[], ◌∷◌, ◌+◌, drop, get_or, None, append_assoc, refl}
use Rattle.c_machine.specs.declared.variable.Variable.{Variable}
use Rattle.c_machine.specs.State.{blocks_of}
use Rattle.c_steps.proofs.Behind.{next_left}
use Rattle.c_steps.proofs.RootsInOrder.{all_found, one_further}
use Rattle.c_steps.proofs.roots.add_scope.Goals as goal

pub loop-variable-preserved : goal.loop-variable-preserved
loop-variable-preserved c =
    let first : Variable = get_or c.args.scope.now c.loop-variable.variable-index (record { token = None; block = 0 }) in
    one_further blocks_of c.loop-variable.roots.items c.push.new.self.items _ (first.block ∷ []) c.args.scope.now c.loop-variable.variable-index first
    (next_left c.args.scope.now c.loop-variable.variable-index _ c.loop-variable-test.true) c.in_ok-push.ensures.items
    (append_assoc c.loop-variable.roots.items (first.block ∷ []) (blocks_of (drop (c.loop-variable.variable-index + 1) c.args.scope.now))) c.loop-variable.invariant

pub returns : goal.returns
returns c =
    all_found blocks_of c.loop-variable.roots.items _ c.args.scope.now c.loop-variable.variable-index c.loop-variable-test.false refl c.loop-variable.invariant
