-- What the post of a scope that is left says.
use Rattle.std.proofs.Common.{◌≡◌, ℕ, ◌+◌, Bool, true, false, List, [], ◌∷◌, length, None, Some, ◌⊎◌, inl, inr, refl, sym, ◌∙◌, ap, subst, arith}
use Rattle.std.specs.Prelude.{Contains}
use Rattle.bytes_core.specs.declared.byte.Byte.TheVariants.{Num}
use Rattle.bytes_core.specs.declared.word.Word.TheVariants.{Plain}
use Rattle.graph.specs.declared.parts.Parts.{Parts}
use Rattle.graph.specs.declared.post.Post.{Post}
use Rattle.graph.specs.Choices.{IsMadeWith}
use Rattle.graph.specs.Maps.{object_at}
use Rattle.graph.specs.Meaning.{Meets, StandsFor, maps_of}
use Rattle.graph.specs.State.{State, IsState}
use Rattle.graph.specs.WellFormed.{are_ascending}
use Rattle.graph.specs.Whole.{IsGraph}
use Rattle.changes.specs.Following.{SomeFaults}
use Rattle.changes.specs.FollowingAlike.{FollowsAlike, StepMeansAlike}
use Rattle.changes.specs.Posted.{IsPost, SomeStandsFor}
use Rattle.heap_steps.specs.Leaving.{EndsScope, LeavesScope, FaultsLeaving, HasRoomFor, MayLeave, LeaveTail, left, leave_post}
use Rattle.heap_steps.specs.Looking.{looked_by, loses_some}
use Rattle.heap_steps.specs.Reached.{IsLost}
use Rattle.heap_steps.specs.Unreached.{may_lead_anywhere}
use Rattle.heap_steps.proofs.Left.{IsLeft, all_left, all_graph, all_meets, all_state, all_begun}
use Rattle.heap_steps.proofs.Leads.{IsTame}
use Rattle.heap_steps.proofs.LeftTail.{all_tail}
use Rattle.heap_steps.proofs.LeftTame.{all_tame, all_was, raised_left}
use Rattle.heap_steps.proofs.Listed.{Contains-cases, Contains-none}
use Rattle.heap_steps.proofs.Looked.{IsMetLooking, looked_sound, looked_listed, looked_met, looked_exact, none_lost}
use Rattle.heap_steps.proofs.Loses.{IsUnreachedAt, made_state, first_block, lost_there, raised_free, raised_there, one_at_least, unreached_at, loses_unreached}
use Rattle.heap_steps.proofs.Raised.{raised_object, raised}
use Rattle.heap_steps.proofs.RaisedForm.{raised_graph, raised_meets}
use Rattle.heap_steps.proofs.Tame.{tame_made}

-- A look's kinds ascend, and its graph is the one that is looked at.

looked_ascend : (parts : Parts) (some anywhere : Bool) → are_ascending (looked_by parts some anywhere).kinds ≡ true
looked_ascend parts false anywhere = refl
looked_ascend parts true false = refl
looked_ascend parts true true = refl

looked_graph : (parts : Parts) (some anywhere : Bool) (after : Parts) → Contains (looked_by parts some anywhere).graphs after → parts ≡ after
looked_graph parts some anywhere after among = by_look some anywhere among
  where
    only : Contains (parts ∷ []) after → parts ≡ after
    only there = by_cases (Contains-cases parts after [] there)
      where
        by_cases : (parts ≡ after) ⊎ Contains [] after → parts ≡ after
        by_cases (inl same) = same
        by_cases (inr none) = absurd (Contains-none after none)

    by_look : (some anywhere : Bool) → Contains (looked_by parts some anywhere).graphs after → parts ≡ after
    by_look false anywhere there = only there
    by_look true false there = absurd (Contains-none after there)
    by_look true true there = only there

module _ (which : List ℕ) (parts : Parts) (graph : IsGraph parts) (may : MayLeave parts which) where
  abbrev behind : Parts
  behind = left which parts

  pub behind_graph : IsGraph behind
  behind_graph = all_graph which parts graph may

  pub behind_stands : (state next : State) → StandsFor parts state → EndsScope which state next → StandsFor behind next
  behind_stands state next stands ends = record { given = stands.given; meets = all_meets which parts graph may state next stands.given stands.meets ends }

  leave_sound : (state next : State) → IsState state → StandsFor parts state → LeavesScope which state next → SomeStandsFor (leave_post parts which).graphs next
  leave_sound state next is stands leaves =
      looked_sound behind behind_graph next (all_state which state next is leaves.ends) (behind_stands state next stands leaves.ends) leaves.none

  leave_listed : (kind : ℕ) (state : State) → IsState state → StandsFor parts state → FaultsLeaving which kind state → Contains (leave_post parts which).kinds kind
  leave_listed kind state is stands faults =
      looked_listed behind behind_graph kind faults.next (all_state which state faults.next is faults.ends) (behind_stands state faults.next stands faults.ends) faults.some

  leave_exact : (leave_post parts which).loss ≡ None → (next : State) → IsState next → SomeStandsFor (leave_post parts which).graphs next → HasRoomFor (length which) next.memory → FollowsAlike parts (LeavesScope which) next
  leave_exact loss next is some room =
      let exact = looked_exact behind behind_graph loss next some in
      let begun = all_begun which 0 parts graph may next is exact.stands (subst (λ (n : ℕ). HasRoomFor n next.memory) (let e : length which ≡ 0 + length which = omega arith in e) room) in
      let begun_behind = behind_stands begun.state begun.next' begun.stands begun.ends in record {
        state = begun.state;
        next' = begun.next';
        is = begun.is;
        stands = begun.stands;
        steps = record { ends = begun.ends; none = none_lost behind behind_graph exact.none begun.next' begun_behind.given (all_state which begun.state begun.next' begun.is begun.ends) begun_behind.meets };
        there = begun.there;
        back = begun.back;
        paired = begun.paired;
        alike = begun.alike;
      }

  -- a kind that is listed is met: in the state that is made of the graph before, with one node at least in what is lost
  module _ (kind : ℕ) (met : IsMetLooking behind behind_graph kind) where
    lost_at : IsUnreachedAt behind behind_graph met.key
    lost_at = unreached_at behind behind_graph met.key (loses_unreached behind behind_graph met.key met.loses)

    was : object_at parts.objects met.key ≡ Some lost_at.object
    was = all_was which parts graph may met.key lost_at.object lost_at.stands lost_at.live

    abbrev many : Parts
    many = raised met.key parts

    many_graph : IsGraph many
    many_graph = raised_graph met.key parts graph

    many_may : MayLeave many which
    many_may = record { distinct = may.distinct; named = may.named }

    made : (state : State) × IsState state × IsMadeWith many (λ value. Plain 0) (λ key place. Num 0) state
    made = made_state many many_graph

    ended : IsLeft which made.0
    ended = all_left which made.0

    same : left which many ≡ raised met.key behind
    same = raised_left met.key which parts graph may lost_at.object was lost_at.heap

    lost_in : (state : State) (is : IsState state) (made_with : IsMadeWith many (λ value. Plain 0) (λ key place. Num 0) state) (next : State) → EndsScope which state next → (number : ℕ) × IsLost next number
    lost_in state is made_with next ends =
        let next_is = all_state which state next is ends in
        let meets : Meets (maps_of (raised met.key behind)) next made_with.given = subst (λ (p : Parts). Meets (maps_of p) next made_with.given) same (all_meets which many many_graph many_may state next made_with.given made_with.meets ends) in
        let tame = subst (λ (p : Parts). IsTame p next made_with.given) same (all_tame which many many_graph many_may state next made_with.given ends (tame_made many state made_with)) in
        let free = raised_free behind behind_graph met.key lost_at in
        let first = first_block (raised met.key behind) next made_with.given (raised_graph met.key behind behind_graph) meets met.key (raised_object lost_at.object) (raised_there behind behind_graph met.key lost_at) lost_at.live (one_at_least behind behind_graph lost_at.object.shape) in
        (first.0, lost_there (raised met.key behind) (raised_graph met.key behind behind_graph) next made_with.given next_is meets tame met.key (raised_object lost_at.object) (raised_there behind behind_graph met.key lost_at) lost_at.live lost_at.heap free.0 free.1 0 first.0 first.1)

    leave_met_in : SomeFaults parts (FaultsLeaving which kind)
    leave_met_in =
        let lost = lost_in made.0 made.1 made.2 ended.next ended.ends in record {
          state = made.0;
          is = made.1;
          stands = record { given = made.2.given; meets = raised_meets met.key parts graph made.0 made.2.given made.2.meets };
          faults = record { next = ended.next; ends = ended.ends; some = record { number = lost.0; lost = lost.1; is = met.is } };
        }

  leave_met : (kind : ℕ) → Contains (leave_post parts which).kinds kind → SomeFaults parts (FaultsLeaving which kind)
  leave_met kind listed = leave_met_in kind (looked_met behind behind_graph kind listed)

pub leave_means : (which : List ℕ) (parts : Parts) (post : Post) → IsGraph parts → MayLeave parts which → IsPost (leave_post parts which) post →
    StepMeansAlike parts (LeavesScope which) (FaultsLeaving which) (LeaveTail parts which) (HasRoomFor (length which)) post
leave_means which parts post graph may is = record {
  sound = λ state next is_state stands steps precise. subst (λ (graphs : List Parts). SomeStandsFor graphs next) (sym is.graphs) (leave_sound which parts graph may state next is_state stands steps);
  exact = λ after next none among is_state stands room.
      leave_exact which parts graph may (sym is.loss ∙ none) next is_state (subst (λ (graphs : List Parts). SomeStandsFor graphs next) is.graphs (record { graph = after; among = among; stands = stands })) room;
  kinds = λ state kind is_state stands faults. subst (λ (kinds : List ℕ). Contains kinds kind) (sym is.kinds) (leave_listed which parts graph may kind state is_state stands faults);
  met = λ kind precise listed. leave_met which parts graph may kind (subst (λ (kinds : List ℕ). Contains kinds kind) is.kinds listed);
  ascending = ap are_ascending is.kinds ∙ looked_ascend (left which parts) (loses_some (left which parts)) (may_lead_anywhere (left which parts));
  tail = λ after among.
      subst (LeaveTail parts which) (looked_graph (left which parts) (loses_some (left which parts)) (may_lead_anywhere (left which parts)) after (subst (λ (graphs : List Parts). Contains graphs after) is.graphs among)) (all_tail which parts graph may);
}
