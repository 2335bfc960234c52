-- The end of a run, where no block of the heap may be left, on a graph that shows a state.
use Rattle.std.proofs.Common.{◌≡◌, ◌≤◌, Bool, true, false, List, length, None, refl, sym, ◌∙◌, ap, subst, arith}
use Rattle.std.specs.Prelude.{Contains}
use Rattle.std.proofs.lemmas.Bool.{false≢true}
use Rattle.std.proofs.lemmas.Option.{none-some}
use Rattle.graph.specs.declared.object.Shape.{Shape}
use Rattle.graph.specs.declared.object.Shape.TheVariants.{Region, Segment}
use Rattle.graph.specs.declared.parts.KeyedObject.{KeyedObject}
use Rattle.graph.specs.declared.parts.Parts.{Parts}
use Rattle.graph.specs.Meaning.{maps_of, Assignment}
use Rattle.graph.specs.Nodes.{is_region}
use Rattle.graph.specs.State.{State}
use Rattle.graph.proofs.Tests.{list_all-implies}
use Rattle.changes.specs.Following.{Leaves}
use Rattle.changes.specs.Posted.{IsPost}
use Rattle.changes.proofs.Reached.{none_in}
use Rattle.changes.proofs.RegistersChanged.{registers_changed}
use Rattle.flow.specs.declared.instruction.Instr.TheVariants.{Close}
use Rattle.heap_steps.specs.Closing.{Closes, has_live_heap, has_a_block, none_is_empty, closed_by, close_post}
use Rattle.heap_steps.proofs.Closed.{close_means}
use Rattle.transfer.specs.Ending.{ended_by}
use Rattle.plain.specs.Marks.{Marks}
use Rattle.plain.specs.Shown.{IsShownBy, IsPlainPost}
use Rattle.plain.specs.Laws.{GoesPlainly}

-- a state of which all is as before
pub left_shown : (parts : Parts) (state : State) (marks : Marks) (given : Assignment) → IsShownBy parts state marks given → (next : State) → Leaves state.memory state.registers state next → IsShownBy parts next marks given
left_shown parts state marks given shown next leaves = record {
  meets = registers_changed (maps_of parts) (maps_of parts) state next given (record { objects = λ at. refl; values = λ at. refl; variables = λ at. refl; ports = refl; unequal = refl })
      (record { memory = leaves.memory; variables = leaves.variables; ports = leaves.ports; roots = leaves.roots }) (λ register. leaves.registers register ∙ shown.meets.registers register) shown.meets;
  marked = shown.marked;
  tight = shown.tight;
  edges = shown.edges;
  registers = shown.registers;
}

-- a graph of regions has no segment that may be empty
has_block : (shape : Shape) → is_region shape ≡ true → has_a_block shape ≡ true
has_block Region region = refl
has_block (Segment twofold head next prev back least next_value prev_value node) region = absurd (false≢true region)

pub close_plain : GoesPlainly Close
close_plain flow point parts post state marks step = by_test (has_live_heap parts) refl
  where
    full : none_is_empty parts ≡ true
    full = list_all-implies (λ (entry : KeyedObject). is_region entry.object.shape) (λ entry. has_a_block entry.object.shape) (λ entry. has_block entry.object.shape) parts.objects step.fits.regions

    posted : IsPost (close_post parts) post
    posted = subst (λ (b : Bool). IsPost (ended_by parts b) post) full step.posted

    graphs : (b : Bool) → has_live_heap parts ≡ b → post.graphs ≡ (closed_by parts b).graphs
    graphs b is = posted.graphs ∙ ap (λ (c : Bool). (closed_by parts c).graphs) is

    loss : (b : Bool) → (closed_by parts b).loss ≡ None
    loss true = refl
    loss false = refl

    lossless : post.loss ≡ None
    lossless = posted.loss ∙ loss (has_live_heap parts)

    few : (b : Bool) → length (closed_by parts b).graphs ≤ 1
    few true = omega arith
    few false = omega arith

    by_test : (b : Bool) → has_live_heap parts ≡ b → IsPlainPost Closes state marks post
    by_test true is = record {
      loss = lossless;
      single = subst (λ (gs : List Parts). length gs ≤ 1) (sym (graphs true is)) (few true);
      shows = λ next steps.
          let found = (close_means parts step.graph post full posted).sound state next step.is (record { given = step.shown.given; meets = step.shown.by.meets }) steps
          (λ four. none-some 4 (sym lossless ∙ four)) in
          none_in found.graph (subst (λ (gs : List Parts). Contains gs found.graph) (graphs true is) found.among);
    }
    by_test false is = record {
      loss = lossless;
      single = subst (λ (gs : List Parts). length gs ≤ 1) (sym (graphs false is)) (few false);
      shows = λ next steps. record {
        graph = parts;
        among = subst (λ (gs : List Parts). Contains gs parts) (sym (graphs false is)) (0, omega arith, refl);
        shown = record { given = step.shown.given; by = left_shown parts state marks step.shown.given step.shown.by next steps.leaves };
      };
    }
