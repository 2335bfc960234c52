-- It is looked up from the back.
use Rattle.std.proofs.Common.{◌-◌, length, arith}
use Rattle.items.proofs.initialisers.Constants.{get_again, none_yet, none_further, row_there, none_at_all}
use Rattle.items.proofs.initialisers.rows.row_of.Goals as goal

pub loop-at-init : goal.loop-at-init
loop-at-init c = none_yet c.args.number c.args.rows.now

pub loop-at-preserved : goal.loop-at-preserved
loop-at-preserved c = none_further c.args.number c.args.rows.now c.loop-at.at _ c.row_here.result c.loop-at-test.true (get_again c.args.rows.now (length c.args.rows.now - 1 - c.loop-at.at) _) c.row_here.ensures c.loop-at.invariant c.in_default.is

pub returns-in-Some : goal.returns-in-Some
returns-in-Some c = row_there c.args.number c.args.rows.now c.loop-at.at _ c.row_here.result c.loop-at-test.true (get_again c.args.rows.now (length c.args.rows.now - 1 - c.loop-at.at) _) c.row_here.ensures c.loop-at.invariant c.in-Some.row c.in-Some.is

pub returns : goal.returns
returns c = none_at_all c.args.number c.args.rows.now c.loop-at.at (omega arith) c.loop-at.invariant
