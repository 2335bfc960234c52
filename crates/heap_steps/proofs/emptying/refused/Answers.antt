use Rattle.std.proofs.Common.{◌≡◌, ℕ, length, sym, ap, ◌∙◌, subst}
use Rattle.graph.specs.declared.value.Value.TheVariants.{Const}
use Rattle.graph.specs.Whole.{IsGraph}
use Rattle.changes.specs.Parts.{with_value, with_register}
use Rattle.heap_steps.proofs.Refused.{behind_graph}
use Rattle.heap_steps.proofs.emptying.refused.Goals as goal

pub with_graph-requires : goal.with_graph-requires
with_graph-requires c =
    let same : c.in_ok-after.after ≡ with_register c.args.into (length c.args.graph.now.values) (with_value (Const 0 8) c.args.graph.now) =
    c.in_ok-after.ensures
    ∙ ap (λ (key : ℕ). with_register c.args.into key c.in_ok-valued.valued) c.value_count-key.ensures.count
    ∙ ap (with_register c.args.into (length c.args.graph.now.values)) (c.in_ok-valued.ensures ∙ ap (with_value (Const 0 8)) c.in_ok-parts.ensures.ok) in
    record { graph = subst IsGraph (sym same) (behind_graph c.args.into c.args.graph.now c.value_count-key.ensures.graph) }
