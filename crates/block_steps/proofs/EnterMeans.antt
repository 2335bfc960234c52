-- What the post of variables that begin to stand says, together.
use Rattle.std.proofs.Common.{◌≡◌, ℕ, ◌+◌, ◌^◌, ◌<◌, true, List, [], ◌∷◌, length, None, sym, ◌∙◌, ap, subst, ltb-true}
use Rattle.std.specs.Prelude.{Contains}
use Rattle.graph.specs.declared.parts.Parts.{Parts}
use Rattle.graph.specs.declared.post.Post.{Post}
use Rattle.graph.specs.Meaning.{StandsFor}
use Rattle.graph.specs.State.{State, IsState}
use Rattle.graph.specs.WellFormed.{are_ascending, nodes}
use Rattle.graph.specs.Whole.{IsGraph}
use Rattle.changes.specs.FollowingAlike.{FollowsAlike, StepMeansAlike}
use Rattle.changes.specs.Posted.{IsPost, SomeStandsFor}
use Rattle.heap_steps.proofs.Listed.{Contains-first, Contains-none}
use Rattle.block_steps.specs.Blocks.{NoFault, AnyMemory, has_room}
use Rattle.block_steps.specs.Entering.{Enters, MayEnter, EnterTail, with_entered, loss_entering, enter_post}
use Rattle.block_steps.proofs.AllocateMeans.{only_item, lossless}
use Rattle.block_steps.proofs.Entered.{none_follows, all_sound, all_follows, all_tail}

follows_lossless : (which sizes : List ℕ) (parts : Parts) → IsGraph parts → MayEnter parts which sizes → nodes parts + length which < 2 ^ 30 → loss_entering which parts ≡ None → (next : State) → IsState next → StandsFor (with_entered which sizes parts) next →
    FollowsAlike parts (Enters which sizes) next
follows_lossless [] sizes parts graph may room none next is stands = none_follows sizes parts next is stands
follows_lossless (variable ∷ rest) sizes parts graph may room none next is stands = all_follows (variable ∷ rest) sizes parts graph may room (lossless parts none) next is stands

pub enter_means : (which sizes : List ℕ) (parts : Parts) (post : Post) → IsGraph parts → MayEnter parts which sizes → has_room parts (length which) ≡ true → IsPost (enter_post parts which sizes) post →
    StepMeansAlike parts (Enters which sizes) NoFault (EnterTail parts which sizes) AnyMemory post
enter_means which sizes parts post graph may room is = record {
  sound = λ state next is_state stands steps precise.
      subst (λ (graphs : List Parts). SomeStandsFor graphs next) (sym is.graphs)
      (record { graph = with_entered which sizes parts; among = Contains-first (with_entered which sizes parts) []; stands = all_sound which sizes parts graph may few state next is_state stands steps });
  exact = λ after next none among is_state stands room_there.
      follows_lossless which sizes parts graph may few (sym is.loss ∙ none) next is_state
      (subst (λ (p : Parts). StandsFor p next) (sym (only_item (with_entered which sizes parts) after (subst (λ (graphs : List Parts). Contains graphs after) is.graphs among))) stands);
  kinds = λ state kind is_state stands faults. absurd faults;
  met = λ kind precise listed. absurd (Contains-none kind (subst (λ (kinds : List ℕ). Contains kinds kind) is.kinds listed));
  ascending = ap are_ascending is.kinds;
  tail = λ after among.
      subst (EnterTail parts which sizes) (only_item (with_entered which sizes parts) after (subst (λ (graphs : List Parts). Contains graphs after) is.graphs among)) (all_tail which sizes parts graph may few);
}
  where
    few : nodes parts + length which < 2 ^ 30
    few = ltb-true _ _ room
