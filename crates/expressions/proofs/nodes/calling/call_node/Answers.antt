-- A call of a function, and one of what names none.
use Rattle.std.proofs.Common.{ℕ, ap, ◌∙◌}
use Rattle.std.proofs.lemmas.Result.{IfOk-weaker}
use Rattle.typing.specs.Known.{plain}
use Rattle.expressions.proofs.SettledBehind.{only_none, settled_behind}
use Rattle.expressions.proofs.nodes.calling.call_node.Goals as goal

pub returns-clause-some : goal.returns-clause-some
returns-clause-some c = rw c.in-Some.is
    (let old = c.args.context.now in
    let number : ℕ = c.in-Some.callee.signature in
    IfOk-weaker c.settle.result _ _
    (settled_behind _ (λ n. plain (n.ctype (n.signature number).result)) c.args.node.number old old c.settle.new.context (only_none old) c.call_fault-broken.result c.plain.result
    c.call_fault-broken.ensures (λ n agrees. c.plain.ensures.is n ∙ ap plain (c.result_of-result.ensures.is n agrees)))
    c.settle.ensures)

pub call_fault-broken-requires-clause-signature : goal.call_fault-broken-requires-clause-signature
call_fault-broken-requires-clause-signature c = rw c.in-Some.is at c.requires.signature

pub call_fault-broken-requires-clause-known : goal.call_fault-broken-requires-clause-known
call_fault-broken-requires-clause-known c = c.requires.known

pub call_fault-broken-requires-clause-count : goal.call_fault-broken-requires-clause-count
call_fault-broken-requires-clause-count c = c.requires.count

pub result_of-result-requires : goal.result_of-result-requires
result_of-result-requires c = rw c.in-Some.is at c.requires.signature

pub settle-requires : goal.settle-requires
settle-requires c = rw c.plain.ensures.ctype c.result_of-result.ensures.below
