-- One more operand's block is found, and at the end all are.
use Rattle.std.proofs.Common.{ℕ, ◌≤◌, [], ◌∷◌, refl, subst}
use Rattle.c_machine.specs.State.{led_to}
use Rattle.c_steps.proofs.RootsInOrder.{all_found, one_further, with_operand}
use Rattle.c_steps.proofs.roots.add_operands.Goals as goal

pub loop-at-preserved : goal.loop-at-preserved
loop-at-preserved c =
    one_further led_to c.loop-at.roots.items c.add_operand.new.roots.items _ (led_to (c.item.result.now ∷ [])) c.args.operands.now c.loop-at.at
    c.item.result.now c.item.ensures (c.in_ok-add_operand.ensures {u = tt}) (with_operand c.loop-at.roots.items c.item.result.now _) c.loop-at.invariant

pub returns : goal.returns
returns c =
    all_found led_to c.loop-at.roots.items _ c.args.operands.now c.loop-at.at
    (subst (λ (count : ℕ). count ≤ c.loop-at.at) c.len-at-end.ensures c.loop-at-test.false) refl c.loop-at.invariant
