-- All functions, and main once more.
use Rattle.std.proofs.Common.{sym, ap, ◌∙◌, arith}
use Rattle.c_machine.specs.Program.{functions_in}
use Rattle.lower.specs.Built.{made_of}
use Rattle.lower.proofs.GraphMade.{as_strict, once_more}
use Rattle.lower.proofs.graph.place_all.Goals as goal

pub returns : goal.returns
returns c = λ p reads strict.
    as_strict p c.args.statics.now (made_of c.args.builder.now) c.functions-functions.result.now (functions_in p.items) (c.functions-functions.ensures ∙ reads.functions) c.args.strict _ _ strict
    (rw c.if-not-strict.false
    (once_more p c.args.statics.now (made_of c.args.builder.now) c.functions-functions.result.now (functions_in p.items) (c.functions-functions.ensures ∙ reads.functions)
    (record { made = made_of c.place_functions.new.builder; functions = c.place_functions.new.placed }) (record { made = made_of c.place_main.new.builder; functions = c.place_main.new.placed })
    c.args.placed.now c.in_ok-number.number c.instead.result c.in-Ok.count c.requires (c.in_ok-place_functions.ensures p reads) (c.in_ok-number.ensures p)
    (omega (arith, c.in-Ok.ensures, c.len.ensures)) (c.in_ok-place_main.ensures p reads) c.instead.ensures))
