use Rattle.std.proofs.Common.{rules, refl, subst, ℕ, List, length}
use Rattle.driver.specs.Telling.{AreNoted}
use Rattle.driver.proofs.Followed.{on_edge_first, on_edge_last}
use Rattle.driver.proofs.expanding.add_post.Goals as goal

pub loop-which-init : goal.loop-which-init
loop-which-init c = on_edge_first c.args.flow.now c.args.limits.now c.args.work.now _ c.args.at c.args.point c.args.number c.args.edge.now c.args.post.now c.note_kinds.new.warnings c.requires.so_far
    (subst (λ (ks : List ℕ). AreNoted c.args.work.now.warnings c.note_kinds.new.warnings c.args.edge.now.place c.args.at c.args.number ks (length ks)) c.as_slice.ensures c.in_ok-note_kinds.ensures) refl

pub returns : goal.returns
returns c = on_edge_last c.args.flow.now c.args.limits.now c.loop-which.work c.args.at c.args.point c.args.number c.args.edge.now c.args.post.now c.loop-which.which c.loop-which.invariant (search rules)
