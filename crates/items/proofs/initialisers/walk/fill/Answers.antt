-- The parts in braces, one behind the other.
use Rattle.std.proofs.Common.{arith}
use Rattle.items.proofs.initialisers.Filling.{fills_start, kept_now, fills_refused, fills_no_member, fills_full, fills_next, fills_end}
use Rattle.items.proofs.initialisers.InitLevels.{init_within, all_within, from_one_on}
use Rattle.items.proofs.initialisers.walk.fill.Goals as goal

pub loop-at-init : goal.loop-at-init
loop-at-init g c = fills_start c.args.checker.now.abi c.args.subject c.args.filled c.args.parts.now c.args.context.now c.requires.kept

pub next_in-requires : goal.next_in-requires
next_in-requires g c = kept_now c.args.checker.now.abi c.args.subject c.args.filled c.args.parts.now c.loop-at.index c.loop-at.at c.args.context.now c.loop-at.context c.loop-at.invariant

pub ask_initialiser-requires-clause-deep : goal.ask_initialiser-requires-clause-deep
ask_initialiser-requires-clause-deep g c = init_within c.args.parts.now c.loop-at.at c.index-parts-at.result c.args.checker.now.depth c.loop-at-test.true c.index-parts-at.is c.requires.deep

pub returns-in-Refused : goal.returns-in-Refused
returns-in-Refused g c = fills_refused c.args.checker.now.abi c.args.subject c.args.filled c.args.parts.now c.loop-at.index c.loop-at.at c.args.context.now c.loop-at.context c.loop-at.invariant
    c.index-parts-at.result c.loop-at-test.true c.index-parts-at.is c.ask_initialiser.new.context c.in-Sets.here c.in-Sets.slot c.in_ok-here.field-0 c.in_ok-ask_initialiser-in-Sets.field-0 c.in-Sets.is c.in_ok-here.ensures
    c.in-Refused.fault c.in-Refused.is c.in_ok-ask_initialiser-in-Sets.ensures

pub returns-in-NoMember : goal.returns-in-NoMember
returns-in-NoMember g c = rw c.no_member.ensures (fills_no_member c.args.checker.now.abi c.args.subject c.args.filled c.args.parts.now c.loop-at.index c.loop-at.at c.args.context.now c.loop-at.context c.loop-at.invariant
    c.index-parts-at.result c.loop-at-test.true c.index-parts-at.is c.in-NoMember.place c.in_ok-here.field-0 c.in-NoMember.is c.in_ok-here.ensures)

pub surplus-requires-clause-deep : goal.surplus-requires-clause-deep
surplus-requires-clause-deep g c = all_within c.args.parts.now c.loop-at.at c.args.checker.now.depth c.requires.deep

pub returns-in-Full : goal.returns-in-Full
returns-in-Full g c = fills_full c.args.checker.now.abi c.args.subject c.args.filled c.args.parts.now c.loop-at.index c.loop-at.at c.args.context.now c.loop-at.context c.loop-at.invariant
    c.index-parts-at.result c.loop-at-test.true c.index-parts-at.is _ _ c.in_ok-here.field-0 c.surplus.result (from_one_on c.args.parts.now c.loop-at.at) c.in-Full.is c.in_ok-here.ensures c.surplus.ensures

pub loop-at-preserved : goal.loop-at-preserved
loop-at-preserved g c = fills_next c.args.checker.now.abi c.args.subject c.args.filled c.args.parts.now c.loop-at.index c.loop-at.at c.args.context.now c.loop-at.context c.loop-at.invariant
    c.index-parts-at.result c.loop-at-test.true c.index-parts-at.is c.ask_initialiser.new.context c.in-Sets.here c.in-Sets.slot c.in_ok-here.field-0 c.in_ok-ask_initialiser-in-Sets.field-0 c.in-Sets.is c.in_ok-here.ensures
    c.in-Passes.field-0 c.in_ok-index-in-Passes.index c.in-Passes.is c.in_ok-index-in-Passes.ensures c.in_ok-ask_initialiser-in-Sets.ensures

pub returns : goal.returns
returns g c = fills_end c.args.checker.now.abi c.args.subject c.args.filled c.args.parts.now c.loop-at.index c.loop-at.at c.args.context.now c.loop-at.context c.loop-at.invariant
    c.ended.result (omega arith) c.ended.ensures
