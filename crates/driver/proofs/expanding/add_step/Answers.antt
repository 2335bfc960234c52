use Rattle.std.proofs.Common.{rules, ap, sym, ◌∙◌, Some}
use Rattle.graph.specs.declared.parts.Parts.{Parts}
use Rattle.driver.proofs.Followed.{placed_next, step_goes, step_halts, graph_there}
use Rattle.driver.proofs.expanding.add_step.Goals as goal

pub add-requires-clause-placed : goal.add-requires-clause-placed
add-requires-clause-placed c = placed_next c.args.flow.now c.args.limits.now c.args.work.now c.args.at c.args.point c.args.number c.args.edge.now c.args.post.now c.args.which c.in-Ok.copy c.requires.so_far
    (graph_there c.args.post.now.graphs c.as_slice.result.now c.args.which c.in-Some.graph.now c.as_slice.ensures c.in-Some.ensures.lookup.3.0 c.in-Some.ensures.lookup.1 ∙ ap (λ (g : Parts). Some g) (sym c.in-Ok.ensures.ok)) (search rules) (search rules)

pub returns-then-not-branch : goal.returns-then-not-branch
returns-then-not-branch c = step_halts c.args.flow.now c.args.limits.now c.args.work.now c.add.new.work c.args.at c.args.point c.args.number c.args.edge.now c.args.post.now c.args.which c.in-Ok.copy c.in_ok-add-in-Ok.field-0
    c.requires.so_far (graph_there c.args.post.now.graphs c.as_slice.result.now c.args.which c.in-Some.graph.now c.as_slice.ensures c.in-Some.ensures.lookup.3.0 c.in-Some.ensures.lookup.1 ∙ ap (λ (g : Parts). Some g) (sym c.in-Ok.ensures.ok))
    (placed_next c.args.flow.now c.args.limits.now c.args.work.now c.args.at c.args.point c.args.number c.args.edge.now c.args.post.now c.args.which c.in-Ok.copy c.requires.so_far
    (graph_there c.args.post.now.graphs c.as_slice.result.now c.args.which c.in-Some.graph.now c.as_slice.ensures c.in-Some.ensures.lookup.3.0 c.in-Some.ensures.lookup.1 ∙ ap (λ (g : Parts). Some g) (sym c.in-Ok.ensures.ok)) (search rules) (search rules)) c.in_ok-add-in-Ok.ensures (search rules)

pub returns-else-not-branch : goal.returns-else-not-branch
returns-else-not-branch c = step_goes c.args.flow.now c.args.limits.now c.args.work.now c.add.new.work c.args.at c.args.point c.args.number c.args.edge.now c.args.post.now c.args.which c.in-Ok.copy c.in_ok-add-in-Ok.field-0
    c.requires.so_far (graph_there c.args.post.now.graphs c.as_slice.result.now c.args.which c.in-Some.graph.now c.as_slice.ensures c.in-Some.ensures.lookup.3.0 c.in-Some.ensures.lookup.1 ∙ ap (λ (g : Parts). Some g) (sym c.in-Ok.ensures.ok))
    (placed_next c.args.flow.now c.args.limits.now c.args.work.now c.args.at c.args.point c.args.number c.args.edge.now c.args.post.now c.args.which c.in-Ok.copy c.requires.so_far
    (graph_there c.args.post.now.graphs c.as_slice.result.now c.args.which c.in-Some.graph.now c.as_slice.ensures c.in-Some.ensures.lookup.3.0 c.in-Some.ensures.lookup.1 ∙ ap (λ (g : Parts). Some g) (sym c.in-Ok.ensures.ok)) (search rules) (search rules)) c.in_ok-add-in-Ok.ensures (search rules)
