use Rattle.std.proofs.Common.{◌≡◌, ◌∙◌, ◌-◌, sym, ap, arith, Some}
use Rattle.std.specs.Prelude.{slice_get, option_map}
use Rattle.std.proofs.lemmas.Option.{slice_get-map}
use Rattle.typing.proofs.environment.Tables.{shown, uncovered_turn}
use Rattle.typing.proofs.environment.names.uncover.Goals as goal

pub loop-left-preserved-in-Some : goal.loop-left-preserved-in-Some
loop-left-preserved-in-Some g c =
    let here : slice_get c.args.level.now (c.loop-left.left - 1) ≡ Some (c.in-Some.name.now.items, c.in-Some.kept.now) =
    ap (λ level. slice_get level (c.loop-left.left - 1)) (sym c.level.view_is)
    ∙ (slice_get-map (shown (λ v. v.items)) c.level.inside.table.entries (c.loop-left.left - 1) ∙ ap (option_map (shown (λ v. v.items))) (sym c.in-Some.ensures.entry)) in (
      uncovered_turn c.args.level.now (c.in-Some.name.now.items, c.in-Some.kept.now) c.loop-left.left c.as_slice.result.now _ _ _
          here c.loop-left-test.true c.as_slice.ensures.value c.loop-left.invariant.0 c.change.ensures,
      omega (arith, c.loop-left.invariant.1),
    )
