use Rattle.std.proofs.Common.{◌≡◌, ◌<◌, ℕ, List, ap, subst, refl, rules, arith, length}
use Rattle.std.proofs.lemmas.Option.{slice_get_read}
use Rattle.flow.specs.declared.flow_graph.FlowFunction.{FlowFunction}
use Rattle.flow.specs.Owning.{AreOwned}
use Rattle.flow.proofs.OwningLaws.{shared_entry, entry_more}
use Rattle.flow.proofs.separation.owners_of_entries.Goals as goal

pub returns-then-owner_at-ne0 : goal.returns-then-owner_at-ne0
returns-then-owner_at-ne0 c =
    let here = slice_get_read c.as_slice-function-items.result.now _ c.loop-number.number c.function-item.result refl c.loop-number-test.true c.function-item.is in
    let noted = rw (c.owner_at.ensures, c.as_slice.ensures.value) at c.if-owner_at-ne0.true in
    shared_entry c.args.flow.now c.loop-number.number c.loop-number.owners.items c.function-item.result c.loop-number.invariant
    (rw c.as_slice-function-items.ensures at here) noted

pub loop-number-preserved : goal.loop-number-preserved
loop-number-preserved c =
    let here = slice_get_read c.as_slice-function-items.result.now _ c.loop-number.number c.function-item.result refl c.loop-number-test.true c.function-item.is in
    let free = rw (c.owner_at.ensures, c.as_slice.ensures.value) at c.if-owner_at-ne0.false in
    let below : c.function-item.result.entry < length c.loop-number.owners.items = search rules in
    entry_more c.args.flow.now c.loop-number.number c.loop-number.owners.items c.function-item.result c.loop-number.invariant
    (rw c.as_slice-function-items.ensures at here) below free

pub returns : goal.returns
returns c =
    let long = ap (λ (functions : List FlowFunction). length functions) c.as_slice-function-items.ensures in
    let all : c.loop-number.number ≡ length c.args.flow.now.functions = omega (arith, long, c.loop-number-test.false, c.loop-number.auto.number-end) in
    subst (λ (count : ℕ). AreOwned c.args.flow.now count c.loop-number.owners.items) all c.loop-number.invariant
