-- The first function that is main, or one behind it.
use Rattle.std.proofs.Common.{◌+◌, drop, map, sym, ap, ◌∙◌, arith, option_map}
use Rattle.c_machine.specs.Trees.{function_as}
use Rattle.lower.proofs.FunctionsTaken.{fewer_left, found_at, found_next, main_behind, main_here, no_main, none_at}
use Rattle.lower.proofs.graph.main_number.Goals as goal

pub returns-then-is_main : goal.returns-then-is_main
returns-then-is_main c = λ p.
    main_here (map (function_as p) (drop c.loop-function.number c.args.functions.now)) (map (function_as p) (drop (c.loop-function.number + 1) c.args.functions.now))
    (function_as p c.in-Some.function.now) c.loop-function.number _
    (ap (map (function_as p)) (found_at c.args.functions.now c.loop-function.number c.in-Some.function.now (sym c.in-Some.ensures))) (sym c.is_main.ensures ∙ c.if-is_main.true)
    (c.loop-function.invariant p)

pub loop-function-smaller : goal.loop-function-smaller
loop-function-smaller c =
    fewer_left c.args.functions.now c.loop-function.number c.in-Some-checked_add.next c.in-Some.function.now (sym c.in-Some.ensures) (omega (arith, c.in-Some-checked_add.ensures))

pub loop-function-preserved : goal.loop-function-preserved
loop-function-preserved c = λ p.
    main_behind (map (function_as p) (drop c.loop-function.number c.args.functions.now)) (map (function_as p) (drop c.in-Some-checked_add.next c.args.functions.now))
    (function_as p c.in-Some.function.now) c.loop-function.number c.in-Some-checked_add.next _ (omega (arith, c.in-Some-checked_add.ensures))
    (ap (map (function_as p))
    (found_next c.args.functions.now c.loop-function.number c.in-Some-checked_add.next c.in-Some.function.now (sym c.in-Some.ensures) (omega (arith, c.in-Some-checked_add.ensures))))
    (sym c.is_main.ensures ∙ c.if-is_main.false) (c.loop-function.invariant p)

pub returns : goal.returns
returns c = λ p.
    no_main (map (function_as p) (drop c.loop-function.number c.args.functions.now)) c.loop-function.number _
    (ap (map (function_as p)) (none_at c.args.functions.now c.loop-function.number (sym c.get.ensures ∙ ap (λ found. option_map (λ function. function.now) found) c.in_default.is)))
    (c.loop-function.invariant p)
