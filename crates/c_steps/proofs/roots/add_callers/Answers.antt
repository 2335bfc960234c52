-- One more caller's objects are found, and at the end all are.
use Rattle.std.proofs.Common.{ℕ, ◌+◌, ◌≤◌, List, drop, refl, subst}
use Rattle.std.specs.List.{flat_map}
use Rattle.c_machine.specs.State.{Frame, blocks_of, objects_of}
use Rattle.c_steps.proofs.RootsInOrder.{all_found, one_further, with_frame}
use Rattle.c_steps.proofs.roots.add_callers.Goals as goal

pub loop-at-preserved : goal.loop-at-preserved
loop-at-preserved c =
    one_further (λ (rest : List Frame). blocks_of (flat_map objects_of rest)) c.loop-at.roots.items c.add_frame.new.roots.items _ (blocks_of (objects_of c.item.result.now))
    c.args.callers.now c.loop-at.at c.item.result.now c.item.ensures (c.in_ok-add_frame.ensures {u = tt})
    (with_frame c.loop-at.roots.items c.item.result.now (drop (c.loop-at.at + 1) c.args.callers.now)) c.loop-at.invariant

pub returns : goal.returns
returns c =
    all_found (λ (rest : List Frame). blocks_of (flat_map objects_of rest)) c.loop-at.roots.items _ c.args.callers.now c.loop-at.at
    (subst (λ (count : ℕ). count ≤ c.loop-at.at) c.len-at-end.ensures c.loop-at-test.false) refl c.loop-at.invariant
