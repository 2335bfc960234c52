-- The body, and the test behind it.
use Rattle.std.proofs.Common.{true, false, ap, ◌∙◌}
use Rattle.c_machine.specs.Trees.{text_of}
use Rattle.lower.specs.Around.{around_of}
use Rattle.lower.specs.Built.{made_of}
use Rattle.lowering.specs.Clauses.{clause_in}
use Rattle.lowering.specs.Placing.{Made, passes, stands_at, unless_declared, with_head}
use Rattle.lowering.proofs.Onward.{on_ok}
use Rattle.lower.proofs.LoopsLead.{asked, do_goes, do_passes}
use Rattle.lower.proofs.placing.loops.place_do.Goals as goal

pub returns-then-passes : goal.returns-then-passes
returns-then-passes c = on_ok c.tested_behind.result
    (λ is_new. λ p.
    do_passes p (around_of c.args.around.now) c.args.levels c.args.from c.args.to c.args.jobs.now c.tested_behind.new.jobs
    (unless_declared (text_of p) c.args.body.now (with_head c.args.from (made_of c.args.builder.now))) (made_of c.unless_declared.new.builder) c.args.body.now c.args.test.now
    c.args.close (stands_at (made_of c.args.builder.now) c.args.from) (passes (text_of p) ((text_of p).clause c.args.body.now))
    (c.unless_declared.ensures p ∙ ap (λ (made : Made). unless_declared (text_of p) c.args.body.now made) c.in_ok-head.ensures)
    (asked (passes (text_of p)) (clause_in c.read_clause.result) ((text_of p).clause c.args.body.now) c.passes.result true (c.read_clause.ensures p) (c.passes.ensures p)
    c.if-passes.true)
    is_new)
    c.tested_behind.ensures

pub returns : goal.returns
returns c = on_ok c.do_body.result
    (λ leads. λ p.
    do_goes p (around_of c.args.around.now) c.args.levels c.args.from c.args.to c.args.jobs.now c.do_body.new.jobs
    (unless_declared (text_of p) c.args.body.now (with_head c.args.from (made_of c.args.builder.now))) (made_of c.unless_declared.new.builder) (made_of c.point.new.self)
    c.args.body.now c.args.test.now c.args.close (stands_at (made_of c.args.builder.now) c.args.from) c.in_ok-standing.standing c.in_ok-copied.field-0
    (passes (text_of p) ((text_of p).clause c.args.body.now)) c.in_ok-point.point c.tested_behind-2.new.jobs
    (c.unless_declared.ensures p ∙ ap (λ (made : Made). unless_declared (text_of p) c.args.body.now made) c.in_ok-head.ensures)
    c.in_ok-standing.ensures c.in_ok-copied.ensures
    (asked (passes (text_of p)) (clause_in c.read_clause.result) ((text_of p).clause c.args.body.now) c.passes.result false (c.read_clause.ensures p) (c.passes.ensures p)
    c.if-passes.false)
    c.in_ok-point.ensures.0 c.in_ok-point.ensures.1 c.in_ok-tested_behind.ensures (leads p))
    c.do_body.ensures
