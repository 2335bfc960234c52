-- One object in front of the others.
use Rattle.std.proofs.Common.{[], ◌∷◌, ap, ◌∙◌, arith}
use Rattle.cbase.specs.declared.place.Place.{Place}
use Rattle.cbase.specs.declared.tree.init.Init.{Init}
use Rattle.c_machine.specs.declared.task.Task.TheVariants.{Initialise}
use Rattle.c_machine.specs.State.{doing}
use Rattle.c_run.proofs.tasks.EachInFront.{item_done}
use Rattle.c_run.proofs.doing.initialise_each.Goals as goal

pub loop-left-preserved : goal.loop-left-preserved
loop-left-preserved c = record {
  inside = grind (arith, c.loop-left.invariant.inside);
  pushed =
      item_done (λ set. Initialise set.place set.init) c.args.sets.now c.loop-left.left c.index-sets-left.result c.args.state.now c.loop-left.state c.do_first.new.self c.loop-left-test.true
      c.loop-left.invariant.inside c.index-sets-left.is c.loop-left.invariant.pushed
      (c.in_ok-do_first.ensures.ok
      ∙ ap (λ (place : Place). doing (Initialise place c.of.result ∷ []) c.loop-left.state) c.place.ensures
      ∙ ap (λ (init : Init). doing (Initialise c.index-sets-left.result.place init ∷ []) c.loop-left.state) (c.of.ensures ∙ c.init.ensures));
}
