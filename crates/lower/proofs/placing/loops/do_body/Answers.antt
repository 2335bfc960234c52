-- A `break`, and a body within the loop.
use Rattle.std.proofs.Common.{true, false, sym}
use Rattle.c_machine.specs.Trees.{text_of}
use Rattle.lower.specs.Around.{around_of}
use Rattle.lowering.specs.Clauses.{clause_in}
use Rattle.lowering.specs.Placing.{in_loop, is_break}
use Rattle.lowering.proofs.Onward.{on_ok}
use Rattle.lower.proofs.LoopsLead.{asked, do_breaks, do_turns}
use Rattle.lower.proofs.placing.loops.do_body.Goals as goal

pub returns-then-is_break : goal.returns-then-is_break
returns-then-is_break c = on_ok c.push.result
    (λ is_new. λ p made.
    do_breaks p (around_of c.args.around.now) c.args.levels c.args.from c.args.to c.args.jobs.now c.push.new.self made c.args.body.now c.args.again
    (in_loop (around_of c.args.around.now) (around_of c.args.around.now) c.args.again c.args.to c.args.standing) (is_break (text_of p) ((text_of p).clause c.args.body.now))
    c.new.result c.new.ensures
    (asked (is_break (text_of p)) (clause_in c.read_clause.result) ((text_of p).clause c.args.body.now) c.is_break.result true (c.read_clause.ensures p) (c.is_break.ensures p)
    c.if-is_break.true)
    is_new)
    c.push.ensures.ok

pub returns : goal.returns
returns c = on_ok c.turn_within.result
    (λ leads. λ p made.
    do_turns p (around_of c.args.around.now) c.args.levels c.args.from c.args.to c.args.jobs.now c.turn_within.new.jobs made c.args.body.now c.args.again
    (in_loop (around_of c.args.around.now) (around_of c.args.around.now) c.args.again c.args.to c.args.standing) c.loop_around-turning.result
    (is_break (text_of p) ((text_of p).clause c.args.body.now))
    (c.loop_around-turning.ensures (around_of c.args.around.now) (around_of c.args.around.now) c.len-2.ensures c.len.ensures)
    (asked (is_break (text_of p)) (clause_in c.read_clause.result) ((text_of p).clause c.args.body.now) c.is_break.result false (c.read_clause.ensures p) (c.is_break.ensures p)
    c.if-is_break.false)
    (leads p (around_of c.args.around.now) made (sym c.in_ok-outside.ensures)))
    c.turn_within.ensures
