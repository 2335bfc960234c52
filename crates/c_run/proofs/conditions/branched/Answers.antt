-- Loss is looked for behind a condition.
use Rattle.std.proofs.Common.{◌≡◌, ℕ, ap, subst, ◌∙◌}
use Rattle.cbase.specs.declared.place.Place.{Place}
use Rattle.c_machine.specs.State.{StateIn, doing}
use Rattle.c_machine.specs.Statements.{branch_place, branch_tasks}
use Rattle.c_machine.specs.Step.{unless_lost}
use Rattle.c_machine.specs.Trees.{text_of}
use Rattle.c_run.proofs.tasks.MakingRoom.{on_ok}
use Rattle.c_run.proofs.MakingSteps.{made_alone, branch_speaks_of_none}
use Rattle.c_run.proofs.conditions.branched.Goals as goal

pub returns : goal.returns
returns c = on_ok _ _ c.keep.result
    (λ outcome comes. λ p choices. comes choices
    ∙ ap (λ (place : Place). unless_lost place c.branch_tasks.new.state choices) (c.branch_place.ensures p)
    ∙ ap (λ (state : StateIn (text_of p)). unless_lost (branch_place (text_of p) c.args.stmt.now) state choices)
    (subst (λ (held : ℕ). c.branch_tasks.new.state ≡ doing (branch_tasks (text_of p) c.args.stmt.now held c.args.holds) c.args.state.now) c.held-held.ensures
    (made_alone _ _ c.args.state.now c.branch_tasks.new.state (branch_speaks_of_none (text_of p) c.args.stmt.now _ c.args.holds) (c.in_ok-branch_tasks.ensures p))))
    c.keep.ensures
