use Rattle.std.proofs.Common.{◌≡◌, ℕ, ◌+◌, ◌≤◌, drop, Some, sym, ap, ◌∙◌, arith}
use Rattle.std.specs.Prelude.{sum_by, slice_get}
use Rattle.std.specs.List.{fold}
use Rattle.std.specs.Option.{option_copied}
use Rattle.std.proofs.lemmas.Bool.{le-ltb}
use Rattle.graph.specs.declared.object.Object.{Object}
use Rattle.graph.specs.Large.{live_nodes_of}
use Rattle.graph.proofs.AllMarked.{fold_left}
use Rattle.graph.proofs.HowLarge.{enough}
use Rattle.graph.proofs.large.has_fewer_live_nodes.Goals as goal

pub returns-then-count-bound : goal.returns-then-count-bound
returns-then-count-bound c =
    let objects = c.args.objects.now in
    let object = c.in-Some.object.now in
    let stands : slice_get objects c.loop-key.key ≡ Some object = sym c.get.ensures ∙ ap option_copied c.in-Some.is in
    let sum : sum_by live_nodes_of objects ≡ fold (λ count (object : Object). count + live_nodes_of object) (c.loop-key.count + live_nodes_of object) (drop (c.loop-key.key + 1) objects) =
    c.loop-key.invariant.0 ∙ fold_left (λ count (object : Object). count + live_nodes_of object) c.loop-key.count objects c.loop-key.key object stands in
    let many : c.args.bound ≤ c.loop-key.count + live_nodes_of object = omega (arith, c.if-count-bound.true, c.live_nodes_of.ensures) in
    sym (le-ltb (sum_by live_nodes_of objects) c.args.bound (enough objects c.args.bound (c.loop-key.count + live_nodes_of object) (drop (c.loop-key.key + 1) objects) sum many))

pub loop-key-preserved : goal.loop-key-preserved
loop-key-preserved c =
    let object = c.in-Some.object.now in
    let stands : slice_get c.args.objects.now c.loop-key.key ≡ Some object = sym c.get.ensures ∙ ap option_copied c.in-Some.is in (
      c.loop-key.invariant.0
          ∙ fold_left (λ count (object : Object). count + live_nodes_of object) c.loop-key.count c.args.objects.now c.loop-key.key object stands
          ∙ ap (λ (count : ℕ). fold (λ count (object : Object). count + live_nodes_of object) (c.loop-key.count + count) (drop (c.loop-key.key + 1) c.args.objects.now)) (sym c.live_nodes_of.ensures),
      omega (arith, c.if-count-bound.false),
    )
