use Rattle.std.proofs.Common.{rules, ◌∙◌, ap, replicate, ℕ, None}
use Rattle.cover.proofs.Verdict.{nothing-sound}
use Rattle.cover.proofs.covering.nothing_found.Goals as goal

pub returns : goal.returns
returns c = nothing-sound c.args.wide.now c.args.narrow.now _ c.object_count.ensures.graph c.object_count-2.ensures.graph (search rules) (search rules)
    (c.in_ok-objects.ensures ∙ ap (λ (count : ℕ). replicate count None) c.object_count.ensures.count)
    (c.in_ok-back.ensures ∙ ap (λ (count : ℕ). replicate count None) c.object_count-2.ensures.count)
    (c.in_ok-values.ensures ∙ ap (λ (count : ℕ). replicate count None) c.value_count.ensures.count)
    c.new.ensures.items
