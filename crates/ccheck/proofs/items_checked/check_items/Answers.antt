-- The items so far and the next one.
use Rattle.std.proofs.Common.{arith}
use Rattle.ccheck.proofs.ItemSteps.{none_yet, next_unread, next_passes, next_refused, all_passed}
use Rattle.ccheck.proofs.items_checked.check_items.Goals as goal

pub loop-span-init : goal.loop-span-init
loop-span-init c = rw c.new-program.ensures (none_yet c.args.t.now c.args.abi c.args.context.now c.in_ok-scope.scope c.in_ok-scope.ensures)

pub returns-in-Some : goal.returns-in-Some
returns-in-Some c =
    next_refused c.args.t.now c.args.abi c.args.spans.now c.args.context.now c.loop-span.context c.refused_in-refused.new.context c.loop-span.program _ c.loop-span.span-index _ c.loop-span-test.true
    c.loop-span.invariant c.in-Read.behind.item _ (rw c.in-Read.is at c.in_ok-behind.ensures) c.in-Some.refusal (rw c.in-Some.is at c.in_ok-refusal-in-Read.ensures)

pub returns-in-Unread : goal.returns-in-Unread
returns-in-Unread c =
    rw c.of_unread.ensures
    (next_unread c.args.t.now c.args.abi c.args.spans.now c.args.context.now c.loop-span.context c.loop-span.context c.loop-span.program _ c.loop-span.span-index _ c.loop-span-test.true
    c.loop-span.invariant c.in-Unread.unread (rw c.in-Unread.is at c.in_ok-behind.ensures))

pub loop-span-preserved : goal.loop-span-preserved
loop-span-preserved c =
    rw c.in_ok-push-in-Read.ensures.ok
    (next_passes c.args.t.now c.args.abi c.args.spans.now c.args.context.now c.loop-span.context c.refused_in-refused.new.context c.loop-span.program _ c.loop-span.span-index _ c.loop-span-test.true
    c.loop-span.invariant c.in-Read.behind.item _ (rw c.in-Read.is at c.in_ok-behind.ensures) (rw c.in-None.is at c.in_ok-refusal-in-Read.ensures))

pub returns : goal.returns
returns c =
    (_, all_passed c.args.t.now c.args.abi c.args.spans.now c.args.context.now c.loop-span.context c.loop-span.program _ c.loop-span.span-index (omega arith) c.loop-span.invariant)
