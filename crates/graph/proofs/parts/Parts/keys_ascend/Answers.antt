use Rattle.std.proofs.Common.{◌≡◌, nat_lt, List, ap, sym, ◌∙◌}
use Rattle.std.proofs.lemmas.Bool.{false≢true}
use Rattle.graph.specs.declared.parts.KeyedObject.{KeyedObject}
use Rattle.graph.specs.declared.parts.KeyedValue.{KeyedValue}
use Rattle.graph.specs.Points.{neighbours}
use Rattle.graph.proofs.InOrder.{ascending_both, ascending_objects, ascending_values}
use Rattle.graph.proofs.parts.Parts.keys_ascend.Goals as goal

pub returns-then-objects_ascend : goal.returns-then-objects_ascend
returns-then-objects_ascend c =
    let objects : c.objects_ascend.result ≡ neighbours (λ (one other : KeyedObject). nat_lt one.key other.key) c.args.self.now.objects = c.objects_ascend.ensures ∙ ap (λ (es : List KeyedObject). neighbours (λ one other. nat_lt one.key other.key) es) c.as_slice.ensures in
    let values : c.values_ascend.result ≡ neighbours (λ (one other : KeyedValue). nat_lt one.key other.key) c.args.self.now.values = c.values_ascend.ensures ∙ ap (λ (es : List KeyedValue). neighbours (λ one other. nat_lt one.key other.key) es) c.as_slice-then-objects_ascend.ensures in (
      λ pass. ascending_both c.args.self.now (sym objects ∙ c.if-objects_ascend.true) (sym values ∙ pass),
      λ ascending. values ∙ ascending_values c.args.self.now ascending,
    )

pub returns-else-objects_ascend : goal.returns-else-objects_ascend
returns-else-objects_ascend c =
    let objects : c.objects_ascend.result ≡ neighbours (λ (one other : KeyedObject). nat_lt one.key other.key) c.args.self.now.objects = c.objects_ascend.ensures ∙ ap (λ (es : List KeyedObject). neighbours (λ one other. nat_lt one.key other.key) es) c.as_slice.ensures in (
      λ pass. absurd (false≢true pass),
      λ ascending. absurd (false≢true (sym c.if-objects_ascend.false ∙ objects ∙ ascending_objects c.args.self.now ascending)),
    )
