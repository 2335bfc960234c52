use Rattle.std.proofs.Common.{◌++◌, Some, ◌∙◌}
use Rattle.std.proofs.lemmas.Result.{IfOk-weaker}
use Rattle.typing.specs.Faults.{all_at}
use Rattle.typing.specs.Known.{valued}
use Rattle.typing.specs.Nodes.{offset_known}
use Rattle.typing.specs.Paths.{Way, way_faults, way_offset}
use Rattle.expressions.specs.Ways.{way_of}
use Rattle.expressions.proofs.SettledBehind.{settled_behind, agrees_before_types, agrees_before_settled}
use Rattle.expressions.proofs.nodes.offsets.offset_node.Goals as goal

pub returns-in-Ok : goal.returns-in-Ok
returns-in-Ok c abi =
    let old = c.args.context.now in
    let between = c.integer.new.self in
    let new = c.settle.new.context in
    let numbered = c.in-Ok.ensures in
    let way : Way = way_of c.way_to-way.result in
    IfOk-weaker c.settle.result _ _
    (λ found settled. (
      (λ n. way),
      (λ n agrees.
          c.way_to-way.ensures abi n
          (agrees_before_types n old between numbered.only_types
          (agrees_before_settled n c.first_of-broken.result c.valued-known.result c.args.node.number between new found settled agrees))),
      settled_behind (λ n. all_at c.args.node.place c.args.named.found ++ way_faults way) (λ n. offset_known (way_offset way)) c.args.node.number old between new numbered.only_types
          c.first_of-broken.result c.valued-known.result
          (λ n agrees. c.first_of-broken.ensures _ _ c.all_at.ensures c.fault_on.ensures)
          (λ n agrees. c.valued-known.ensures.is n ∙ (λ i. valued (Some (c.offset_of.ensures i)) (numbered.meant n agrees i)))
          found settled,
    ))
    c.settle.ensures

pub way_to-way-requires-clause-ctype : goal.way_to-way-requires-clause-ctype
way_to-way-requires-clause-ctype c = c.requires.named

pub way_to-way-requires-clause-indices : goal.way_to-way-requires-clause-indices
way_to-way-requires-clause-indices c = c.requires.indices
