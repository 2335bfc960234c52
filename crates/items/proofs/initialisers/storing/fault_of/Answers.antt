use Rattle.items.proofs.initialisers.Judged.{unconverted, no_constant}
use Rattle.items.proofs.initialisers.storing.fault_of.Goals as goal

pub returns-then-not-converts : goal.returns-then-not-converts
returns-then-not-converts c = rw c.broken.ensures (unconverted c.args.context.now c.args.before c.args.fixed c.args.to c.args.value.now c.args.known c.operand.result c.converts.result c.in_ok-constant.constant
    c.operand.ensures c.in_ok-constant.ensures c.converts.ensures c.if-not-converts.true)

pub returns-then-not-constant : goal.returns-then-not-constant
returns-then-not-constant c = rw c.broken-then-not-constant.ensures (no_constant c.args.context.now c.args.before c.args.fixed c.args.to c.args.value.now c.args.known c.operand.result c.converts.result c.in_ok-constant.constant
    c.operand.ensures c.in_ok-constant.ensures c.converts.ensures c.if-not-converts.false c.if-not-constant.true)
