-- What the post of an allocation says, together.
use Rattle.std.proofs.Common.{◌≡◌, ℕ, ◌+◌, ◌^◌, ◌<◌, ◌≤◌, Bool, true, false, List, [], ◌∷◌, length, Option, None, Some, ◌⊎◌, inl, inr, refl, sym, ◌∙◌, ap, subst, ltb-true}
use Rattle.std.specs.Prelude.{Contains, if◌then◌else◌}
use Rattle.std.proofs.lemmas.Option.{none-some}
use Rattle.bytes_core.specs.declared.block.BlockKind.TheVariants.{Heap}
use Rattle.graph.specs.declared.parts.Parts.{Parts}
use Rattle.graph.specs.declared.post.Post.{Post}
use Rattle.graph.specs.Meaning.{StandsFor}
use Rattle.graph.specs.WellFormed.{are_ascending, nodes}
use Rattle.graph.specs.Whole.{IsGraph}
use Rattle.changes.specs.Posted.{IsPost, SomeStandsFor}
use Rattle.changes.proofs.Appended.{found_else}
use Rattle.changes.proofs.RegistersChanged.{held_with}
use Rattle.changes.proofs.ValueForm.{value_new}
use Rattle.heap_steps.specs.Unreached.{may_lead_anywhere}
use Rattle.heap_steps.proofs.Listed.{Contains-cases, Contains-none}
use Rattle.block_steps.specs.Allocating.{Allocates, AllocateTail, with_allocated, allocate_post}
use Rattle.block_steps.specs.Blocks.{NoFault, AnyMemory, loss_beside, has_room}
use Rattle.changes.specs.FollowingAlike.{StepMeansAlike}
use Rattle.block_steps.proofs.Allocated.{address, more, more_graph, valued, behind_graph, allocate_sound, allocate_follows}
use Rattle.block_steps.proofs.ObjectForm.{object_new, object_else}

-- the only item of a list
pub only_item : {X : Type 0} (one other : X) → Contains (one ∷ []) other → one ≡ other
only_item one other among = by_cases (Contains-cases one other [] among)
  where
    by_cases : (one ≡ other) ⊎ Contains [] other → one ≡ other
    by_cases (inl same) = same
    by_cases (inr none) = absurd (Contains-none other none)

pub lossless : (parts : Parts) → loss_beside parts ≡ None → may_lead_anywhere parts ≡ false
lossless parts none = by_test (may_lead_anywhere parts) refl none
  where
    by_test : (b : Bool) → may_lead_anywhere parts ≡ b → ◌≡◌ {A = Option ℕ} (if b then Some 3 else None) None → may_lead_anywhere parts ≡ false
    by_test true is none' = absurd (none-some 3 (sym none'))
    by_test false is none' = is

pub allocate_tail : (size : ℕ) (zeroed : Bool) (into : ℕ) (parts : Parts) (graph : IsGraph parts) (small : size ≤ 65536) (few : nodes parts + 1 < 2 ^ 30) → AllocateTail parts size zeroed into (with_allocated size zeroed into parts)
allocate_tail size zeroed into parts graph small few = record {
  graph = behind_graph size zeroed into parts graph small few;
  ports = refl;
  variables = refl;
  unequal = refl;
  objects = object_else Heap size zeroed parts graph;
  object = object_new Heap size zeroed parts graph;
  values = λ at differ. found_else (λ entry. entry.key) (λ entry. entry.value) parts.values (record { key = length parts.values; value = address size zeroed into parts graph small few }) at differ;
  value = value_new (address size zeroed into parts graph small few) (more size zeroed into parts graph small few) (more_graph size zeroed into parts graph small few);
  registers = held_with into (length parts.values) (valued size zeroed into parts graph small few);
}

pub allocate_means : (size : ℕ) (zeroed : Bool) (into : ℕ) (parts : Parts) (post : Post) → IsGraph parts → size ≤ 65536 → has_room parts 1 ≡ true → IsPost (allocate_post parts size zeroed into) post →
    StepMeansAlike parts (Allocates size zeroed into) NoFault (AllocateTail parts size zeroed into) AnyMemory post
allocate_means size zeroed into parts post graph small room is = record {
  sound = λ state next is_state stands steps precise.
      subst (λ (graphs : List Parts). SomeStandsFor graphs next) (sym is.graphs) (allocate_sound size zeroed into parts graph small few state next is_state stands steps);
  exact = λ after next none among is_state stands room_there.
      allocate_follows size zeroed into parts graph small few (lossless parts (sym is.loss ∙ none)) next is_state
      (subst (λ (p : Parts). StandsFor p next) (sym (only_item (with_allocated size zeroed into parts) after (subst (λ (graphs : List Parts). Contains graphs after) is.graphs among))) stands);
  kinds = λ state kind is_state stands faults. absurd faults;
  met = λ kind precise listed. absurd (Contains-none kind (subst (λ (kinds : List ℕ). Contains kinds kind) is.kinds listed));
  ascending = ap are_ascending is.kinds;
  tail = λ after among.
      subst (AllocateTail parts size zeroed into) (only_item (with_allocated size zeroed into parts) after (subst (λ (graphs : List Parts). Contains graphs after) is.graphs among)) (allocate_tail size zeroed into parts graph small few);
}
  where
    few : nodes parts + 1 < 2 ^ 30
    few = ltb-true (nodes parts + 1) (2 ^ 30) room
