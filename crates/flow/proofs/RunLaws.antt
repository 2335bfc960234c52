-- Runs on a part of a memory, and runs under other numbers of blocks.
use Rattle.std.proofs.Common.{◌≡◌, ℕ, zero, suc, List, [], ◌∷◌, refl, sym, ap, subst, ◌∙◌, inl, inr}
use Rattle.flow.specs.declared.flow_graph.Flow.{Flow}
use Rattle.flow.specs.declared.flow_graph.FlowEdge.{FlowEdge}
use Rattle.choices.specs.declared.choice.Choice.{Choice}
use Rattle.flow.specs.Machine.{State, Outcome, Went, Barred, Waits, Ended, Faulted, step, step_among, step_along, unless_barred}
use Rattle.flow.specs.Runs.{then_go, run}
use Rattle.flow.specs.Choosing.{run_along}
use Rattle.flow.specs.Hiding.{IsPartOf, Follows, FollowsTo, StaysInside, DoRunsFollow}
use Rattle.flow.specs.RenamedSteps.{IsRenamedState, IsSameRenamed, DoRunsRename}
use Rattle.flow.proofs.PartLaws.{parts_follow}
use Rattle.flow.proofs.RenamedStepLaws.{steps_rename}

-- what an outcome left
abbrev state_in : State → Outcome → State
state_in default (Went next rest) = next
state_in default Barred = default
state_in default Waits = default
state_in default Ended = default
state_in default (Faulted kind place) = default

abbrev choices_in : List Choice → Outcome → List Choice
choices_in default (Went next rest) = rest
choices_in default Barred = default
choices_in default Waits = default
choices_in default Ended = default
choices_in default (Faulted kind place) = default

pub runs_follow : DoRunsFollow
runs_follow hides below outer flow [] part whole next choices rest is inside goes =
    let same : whole ≡ next = ap (state_in whole) goes in
    (subst (λ (one : State). IsPartOf hides below outer part one) same is, ap (choices_in choices) goes)
runs_follow hides below outer flow (edge ∷ edges) part whole next choices rest is inside goes =
    by_outcomes (step_along flow edge part choices) (step_along flow edge whole choices) refl goes
    (parts_follow hides below outer flow edge part whole choices is inside.0)
    (λ middle middle' more is' inside' goes'. runs_follow hides below outer flow edges middle middle' next more rest is' inside' goes')
  where
    by_outcomes : (one other : Outcome) → step_along flow edge part choices ≡ one → then_go other (run_along flow edges) ≡ Went next rest →
        Follows hides below outer one other →
        ((middle middle' : State) (more : List Choice) → IsPartOf hides below outer middle middle' → StaysInside flow edges middle more →
        run_along flow edges middle' more ≡ Went next rest → FollowsTo hides below outer next rest (run_along flow edges middle more)) →
        FollowsTo hides below outer next rest (then_go one (run_along flow edges))
    by_outcomes (Faulted kind place) other at goes follows later = tt
    by_outcomes (Went middle more) (Went middle' more') at goes follows later =
        later middle middle' more follows.0 (inside.1 middle more at)
        (ap (run_along flow edges middle') follows.1 ∙ goes)
    by_outcomes (Went middle more) (Faulted kind place) at goes follows later = absurd (cc)
    by_outcomes (Went middle more) Ended at goes follows later = absurd (cc)
    by_outcomes (Went middle more) Barred at goes follows later = absurd (cc)
    by_outcomes (Went middle more) Waits at goes follows later = absurd (cc)
    by_outcomes Barred other at goes follows later = elim follows [
      | inl same ↦ (let went : Barred ≡ Went next rest = ap (λ (outcome : Outcome). then_go outcome (run_along flow edges)) (sym same) ∙ goes in absurd (cc))
      | inr same ↦ (let went : Ended ≡ Went next rest = ap (λ (outcome : Outcome). then_go outcome (run_along flow edges)) (sym same) ∙ goes in absurd (cc))
    ]
    by_outcomes Waits other at goes follows later = elim follows [
      | inl same ↦ (let went : Waits ≡ Went next rest = ap (λ (outcome : Outcome). then_go outcome (run_along flow edges)) (sym same) ∙ goes in absurd (cc))
      | inr same ↦ (let went : Ended ≡ Went next rest = ap (λ (outcome : Outcome). then_go outcome (run_along flow edges)) (sym same) ∙ goes in absurd (cc))
    ]
    by_outcomes Ended other at goes follows later =
        let went : Ended ≡ Went next rest = ap (λ (outcome : Outcome). then_go outcome (run_along flow edges)) (sym follows) ∙ goes in absurd (cc)

module _ (renames back : ℕ → ℕ) where
  same_at : (one other other' : Outcome) → other' ≡ other → IsSameRenamed renames back one other → IsSameRenamed renames back one other'
  same_at one other other' is same = subst (λ (there : Outcome). IsSameRenamed renames back one there) (sym is) same

  same_unless_barred : (one other later later' : Outcome) → IsSameRenamed renames back one other → IsSameRenamed renames back later later' →
      IsSameRenamed renames back (unless_barred one later) (unless_barred other later')
  same_unless_barred (Went next rest) (Went next' rest') later later' same same' = same
  same_unless_barred (Went next rest) Barred later later' same same' = absurd same
  same_unless_barred (Went next rest) Waits later later' same same' = absurd same
  same_unless_barred (Went next rest) Ended later later' same same' = absurd same
  same_unless_barred (Went next rest) (Faulted kind place) later later' same same' = absurd same
  same_unless_barred Barred other later later' same same' = same_at later later' (unless_barred other later') (ap (λ (one : Outcome). unless_barred one later') same) same'
  same_unless_barred Waits other later later' same same' = ap (λ (one : Outcome). unless_barred one later') same
  same_unless_barred Ended other later later' same same' = ap (λ (one : Outcome). unless_barred one later') same
  same_unless_barred (Faulted kind place) other later later' same same' = ap (λ (one : Outcome). unless_barred one later') same

  same_among : (flow : Flow) (edges : List FlowEdge) (state other : State) (choices : List Choice) → IsRenamedState renames back state other →
      IsSameRenamed renames back (step_among flow edges state choices) (step_among flow edges other choices)
  same_among flow [] state other choices is = refl
  same_among flow (edge ∷ rest) state other choices is =
      same_unless_barred (step_along flow edge state choices) (step_along flow edge other choices) (step_among flow rest state choices) (step_among flow rest other choices)
      (steps_rename renames back flow edge state other choices is) (same_among flow rest state other choices is)

  same_then : (one other : Outcome) (onward : State → List Choice → Outcome) → IsSameRenamed renames back one other →
      ((next next' : State) (rest : List Choice) → IsRenamedState renames back next next' → IsSameRenamed renames back (onward next rest) (onward next' rest)) →
      IsSameRenamed renames back (then_go one onward) (then_go other onward)
  same_then (Went next rest) (Went next' rest') onward same each =
      subst (λ (more : List Choice). IsSameRenamed renames back (onward next rest) (onward next' more)) same.1 (each next next' rest same.0)
  same_then (Went next rest) Barred onward same each = absurd same
  same_then (Went next rest) Waits onward same each = absurd same
  same_then (Went next rest) Ended onward same each = absurd same
  same_then (Went next rest) (Faulted kind place) onward same each = absurd same
  same_then Barred other onward same each = ap (λ (one : Outcome). then_go one onward) same
  same_then Waits other onward same each = ap (λ (one : Outcome). then_go one onward) same
  same_then Ended other onward same each = ap (λ (one : Outcome). then_go one onward) same
  same_then (Faulted kind place) other onward same each = ap (λ (one : Outcome). then_go one onward) same

  same_run : (flow : Flow) (steps : ℕ) (state other : State) (choices : List Choice) → IsRenamedState renames back state other →
      IsSameRenamed renames back (run steps flow state choices) (run steps flow other choices)
  same_run flow zero state other choices is = (is, refl)
  same_run flow (suc steps) state other choices is =
      same_then (step flow state choices) (step flow other choices) (run steps flow) (same_among flow flow.edges state other choices is)
      (λ next next' rest is'. same_run flow steps next next' rest is')

pub runs_rename : DoRunsRename
runs_rename renames back flow steps state other choices is = same_run renames back flow steps state other choices is
