-- One more block's objects are found, and at the end all are.
use Rattle.std.proofs.Common.{ℕ, ◌+◌, ◌≤◌, ◌++◌, drop, ◌∙◌, refl, ap, subst}
use Rattle.c_machine.specs.State.{Scope, Frame, blocks_of, objects_of}
use Rattle.c_steps.proofs.RootsInOrder.{all_found, one_further, with_scope}
use Rattle.c_steps.proofs.roots.add_frame.Goals as goal

pub loop-at-preserved : goal.loop-at-preserved
loop-at-preserved c =
    one_further (λ (rest : Frame). blocks_of (objects_of rest)) c.loop-at.roots.items c.add_scope.new.roots.items _ (blocks_of c.item.result.now) c.args.frame.now c.loop-at.at
    c.item.result.now c.item.ensures
    (c.in_ok-add_scope.ensures {u = tt} ∙ ap (λ (scope : Scope). c.loop-at.roots.items ++ blocks_of scope) c.as_slice.ensures)
    (with_scope c.loop-at.roots.items c.item.result.now (drop (c.loop-at.at + 1) c.args.frame.now)) c.loop-at.invariant

pub returns : goal.returns
returns c =
    all_found (λ (rest : Frame). blocks_of (objects_of rest)) c.loop-at.roots.items _ c.args.frame.now c.loop-at.at
    (subst (λ (count : ℕ). count ≤ c.loop-at.at) c.len-at-end.ensures c.loop-at-test.false) refl c.loop-at.invariant
