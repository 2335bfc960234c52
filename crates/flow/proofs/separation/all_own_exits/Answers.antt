use Rattle.std.proofs.Common.{List, ap, refl, arith, length}
use Rattle.std.proofs.lemmas.Option.{slice_get_read, slice_get_within}
use Rattle.std.proofs.lemmas.Bool.{iff_false}
use Rattle.flow.specs.declared.flow_graph.FlowFunction.{FlowFunction}
use Rattle.flow.proofs.OwningLaws.{other_exit, exits_more}
use Rattle.flow.proofs.separation.all_own_exits.Goals as goal

pub returns-then-not-owns_its_exit-clause-other : goal.returns-then-not-owns_its_exit-clause-other
returns-then-not-owns_its_exit-clause-other c =
    let here = slice_get_read c.as_slice-function-items.result.now _ c.loop-number.number c.function-item.result refl c.loop-number-test.true c.function-item.is in
    λ false. other_exit c.args.flow.now (length c.args.flow.now.functions) c.args.owners.now c.loop-number.number c.function-item.result c.requires
    (rw c.as_slice-function-items.ensures at here) (iff_false c.owns_its_exit.ensures c.if-not-owns_its_exit.true)

pub loop-number-preserved : goal.loop-number-preserved
loop-number-preserved c =
    let here = slice_get_read c.as_slice-function-items.result.now _ c.loop-number.number c.function-item.result refl c.loop-number-test.true c.function-item.is in
    exits_more c.args.flow.now.functions c.args.owners.now c.loop-number.number c.function-item.result
    (rw c.as_slice-function-items.ensures at here) (c.owns_its_exit.ensures.0 c.if-not-owns_its_exit.false) c.loop-number.invariant

pub returns-clause-exits : goal.returns-clause-exits
returns-clause-exits c = λ true number function stands.
    let long = ap (λ (functions : List FlowFunction). length functions) c.as_slice-function-items.ensures in
    let within = slice_get_within c.args.flow.now.functions number function stands in
    c.loop-number.invariant number function (omega (arith, long, within, c.loop-number-test.false)) stands
