-- The end of a full expression: sound, exact, and each fault that is listed is met.
use Rattle.std.proofs.Common.{◌≡◌, ℕ, List, None}
use Rattle.std.specs.Prelude.{Contains}
use Rattle.graph.specs.declared.parts.Parts.{Parts}
use Rattle.graph.specs.State.{State, IsState}
use Rattle.graph.specs.Meaning.{StandsFor}
use Rattle.graph.specs.Whole.{IsGraph}
use Rattle.graph.proofs.AllThere.{all_blocks_may_be_there}
use Rattle.changes.specs.Following.{Follows, SomeFaults}
use Rattle.changes.specs.Parts.{without_registers}
use Rattle.changes.specs.Posted.{SomeStandsFor}
use Rattle.changes.proofs.RegisterForm.{graph_without}
use Rattle.changes.proofs.Emptied.{emptied_meets, emptied_state, before, before_meets, before_state, before_leaves}
use Rattle.heap_steps.specs.Posts.{finish_post}
use Rattle.heap_steps.specs.Steps.{Finishes, FaultsFinishing}
use Rattle.heap_steps.proofs.Looked.{looked_sound, looked_listed, looked_met, looked_exact, none_lost}
use Rattle.heap_steps.proofs.MoreDead.{lost_more}

module _ (gone : List ℕ) (parts : Parts) (graph : IsGraph parts) where
  abbrev left : Parts
  left = without_registers gone parts

  left_graph : IsGraph left
  left_graph = graph_without gone parts graph

  pub finish_sound : (state next : State) → IsState state → StandsFor parts state → Finishes gone state next → SomeStandsFor (finish_post parts gone).graphs next
  finish_sound state next is stands finishes =
      looked_sound left left_graph next (emptied_state gone parts graph state next is finishes.leaves)
      (record { given = stands.given; meets = emptied_meets gone parts graph state next stands.given finishes.leaves stands.meets }) finishes.none

  pub finish_listed : (kind : ℕ) (state : State) → IsState state → StandsFor parts state → FaultsFinishing gone kind state → Contains (finish_post parts gone).kinds kind
  finish_listed kind state is stands faults =
      looked_listed left left_graph kind faults.next (emptied_state gone parts graph state faults.next is faults.leaves)
      (record { given = stands.given; meets = emptied_meets gone parts graph state faults.next stands.given faults.leaves stands.meets }) faults.some

  pub finish_met : (kind : ℕ) → Contains (finish_post parts gone).kinds kind → SomeFaults parts (FaultsFinishing gone kind)
  finish_met kind there =
      let met = looked_met left left_graph kind there in
      let all = all_blocks_may_be_there left met.loses.state met.loses.given met.loses.is met.loses.meets in record {
        state = before gone parts graph all.given all.next;
        is = before_state gone parts graph all.next all.given all.is all.meets all.there;
        stands = record { given = all.given; meets = before_meets gone parts graph all.next all.given all.meets };
        faults = record {
          next = all.next;
          leaves = before_leaves gone parts graph all.next all.given all.meets;
          some = record { number = met.loses.number; lost = lost_more met.loses.state all.next all.more met.loses.number met.loses.lost; is = met.is };
        };
      }

  pub finish_exact : (finish_post parts gone).loss ≡ None → (next : State) → IsState next → SomeStandsFor (finish_post parts gone).graphs next → Follows parts (Finishes gone) next
  finish_exact loss next is some =
      let exact = looked_exact left left_graph loss next some in
      let all = all_blocks_may_be_there left next exact.stands.given is exact.stands.meets in record {
        state = before gone parts graph all.given all.next;
        next' = all.next;
        is = before_state gone parts graph all.next all.given all.is all.meets all.there;
        stands = record { given = all.given; meets = before_meets gone parts graph all.next all.given all.meets };
        steps = record {
          leaves = before_leaves gone parts graph all.next all.given all.meets;
          none = none_lost left left_graph exact.none all.next all.given all.is all.meets;
        };
        more = all.more;
      }
