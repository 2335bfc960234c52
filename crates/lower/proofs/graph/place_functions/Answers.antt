-- One function after the other.
use Rattle.std.proofs.Common.{drop, map, sym, ap, ◌∙◌, arith, option_map}
use Rattle.c_machine.specs.Trees.{function_as, text_of}
use Rattle.lower.specs.Built.{made_of}
use Rattle.lower.proofs.FunctionsTaken.{all_placed, found_next, none_at, one_placed}
use Rattle.lower.proofs.graph.place_functions.Goals as goal

pub loop-function-preserved : goal.loop-function-preserved
loop-function-preserved c = λ p reads.
    one_placed (text_of p) c.args.statics.now (map (function_as p) (drop c.loop-function.number c.args.functions.now)) (map (function_as p) (drop c.in-Some-checked_add.next c.args.functions.now))
    (function_as p c.in-Some.function.now) (made_of c.loop-function.builder) (made_of c.place_function.new.builder) c.loop-function.placed c.push.new.self c.in_ok-one.one _
    (ap (map (function_as p))
    (found_next c.args.functions.now c.loop-function.number c.in-Some-checked_add.next c.in-Some.function.now (sym c.in-Some.ensures) (omega (arith, c.in-Some-checked_add.ensures))))
    (c.in_ok-one.ensures.of p reads).0 (c.in_ok-one.ensures.of p reads).1 c.in_ok-push.ensures.ok (c.loop-function.invariant p reads)

pub returns : goal.returns
returns c = λ p reads.
    all_placed (text_of p) c.args.statics.now (map (function_as p) (drop c.loop-function.number c.args.functions.now)) (made_of c.loop-function.builder) c.loop-function.placed _
    (ap (map (function_as p)) (none_at c.args.functions.now c.loop-function.number (sym c.get.ensures ∙ ap (λ found. option_map (λ function. function.now) found) c.in_default.is)))
    (c.loop-function.invariant p reads)
