-- Programs and their graphs meet the same faults.
use Rattle.std.proofs.Common.{◌≡◌, ℕ, List, [], subst, sym}
use Rattle.c_machine.specs.State.{Frame, Scope, TaskIn}
use Rattle.c_machine.specs.Text.{Text}
use Rattle.c_machine.specs.Trees.{text_of}
use Rattle.bytes_core.specs.declared.word.Word.{Word}
use Rattle.choices.specs.declared.choice.Choice.{Choice}
use Rattle.flow.specs.declared.flow_graph.Flow.{Flow}
use Rattle.flow.specs.Holding.{Owned}
use Rattle.flow.specs.Machine as graph
use Rattle.flow.specs.RunStates.{IsRunState}
use Rattle.flow.specs.Valid.{IsFlow}
use Rattle.simulation.specs.Laws.{DoLoweredRunsAgree, DoProgramsMeet}
use Rattle.simulation.specs.Running.{Setting, Result}
use Rattle.simulation.proofs.Meeting.{Continues, IsKept}
use Rattle.simulation.proofs.Simulation.{is_good}
use Rattle.simulation.proofs.Starting.{programs_meet as meet}

-- where no function waits none goes on
pub none_waits : (t : Text) (flow : Flow) (setting : Setting) (valid : IsFlow flow) (n : ℕ) (gives : Result) (frames : List Frame) (callers : List graph.Caller) (statics : Scope)
    (rest : List (TaskIn t)) (below : List Word) (statics' : List Owned) (outer : List ℕ) → frames ≡ [] → Continues t flow setting valid n gives frames callers statics rest below statics' outer
none_waits t flow setting valid n gives frames callers statics rest below statics' outer is =
    subst (λ (one : List Frame). Continues t flow setting valid n gives one callers statics rest below statics' outer) (sym is) tt

pub is_kept : (t : Text) (flow : Flow) (setting : Setting) (valid : IsFlow flow) (there : graph.State) (choices : List Choice) → IsRunState flow there →
    IsKept t flow setting valid (graph.Went there choices)
is_kept t flow setting valid there choices is next rest same = subst (IsRunState flow) (let e : there ≡ next = cc in e) is

pub lowered_runs_agree : DoLoweredRunsAgree
lowered_runs_agree p flow setting running scopes tasks slots point n operands registers w v memory choices valid functions lowered holds alike none is =
    is_good (text_of p) flow setting valid functions n lowered operands registers w v memory choices holds alike
    (none_waits (text_of p) flow setting valid n running.gives w.callers v.callers w.statics w.rest w.below v.statics v.outer none)
    (is_kept (text_of p) flow setting valid _ choices is)

pub programs_meet : DoProgramsMeet
programs_meet p flow setting main valid offsets begins lowered choices kind place =
    meet (text_of p) flow setting valid main lowered choices kind place begins offsets
