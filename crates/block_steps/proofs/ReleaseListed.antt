-- Each fault that a release through any word lists is met by some state, where the graph may have one object more.
use Rattle.std.proofs.Common.{◌≡◌, ℕ, zero, suc, ◌+◌, ◌^◌, ◌<◌, Bool, true, false, ◌&&◌, List, [], ◌∷◌, length, get_or, pos, Option, None, Some, refl, sym, ◌∙◌, ap, subst, arith}
use Rattle.std.specs.Prelude.{slice_get, option_map, Contains, if◌then◌else◌}
use Rattle.std.specs.Ordering.{int_eq}
use Rattle.std.proofs.lemmas.Option.{same_Some, none-some, slice_get-get_or}
use Rattle.bytes_core.specs.declared.block.Block.{Block}
use Rattle.bytes_core.specs.declared.block.BlockKind.{BlockKind}
use Rattle.bytes_core.specs.declared.block.BlockKind.TheVariants.{Heap}
use Rattle.bytes_core.specs.declared.byte.Byte.{Byte}
use Rattle.bytes_core.specs.declared.byte.Byte.TheVariants.{Num}
use Rattle.bytes_core.specs.declared.word.Word.{Word}
use Rattle.bytes_core.specs.declared.word.Word.TheVariants.{Plain, To}
use Rattle.bytes_core.specs.Fault.{double_free, invalid_free}
use Rattle.bytes_core.specs.Release.{is_heap, block_free_fault, free_fault}
use Rattle.graph.specs.declared.parts.KeyedObject.{KeyedObject}
use Rattle.graph.specs.declared.parts.Parts.{Parts}
use Rattle.graph.specs.declared.post.Post.{Post}
use Rattle.graph.specs.declared.value.Value.TheVariants.{Any}
use Rattle.graph.specs.Choices.{IsChoice, IsMadeWith}
use Rattle.graph.specs.Maps.{value_at}
use Rattle.graph.specs.Meaning.{IsGone, maps_of, Meets}
use Rattle.graph.specs.State.{State, IsState, IsWordBelow}
use Rattle.graph.specs.WellFormed.{nodes}
use Rattle.graph.specs.Whole.{IsGraph}
use Rattle.graph.proofs.Found.{IsSome-holds}
use Rattle.graph.proofs.OwnPlaces.{graph_numbered}
use Rattle.graph.proofs.Witness.{chosen_state}
use Rattle.changes.specs.Following.{SomeFaults}
use Rattle.changes.specs.Posted.{IsPost}
use Rattle.changes.specs.Reaching.{is_address_held}
use Rattle.changes.proofs.Appended.{found_within}
use Rattle.changes.proofs.DeadForm.{dead_one, with_dead_one, object_new, graph_dead_more, dead_less}
use Rattle.changes.proofs.NodeBack.{zero_has}
use Rattle.block_steps.specs.Releasing.{FaultsReleasing, MeetsReleased, release_post}
use Rattle.block_steps.proofs.ReleaseExact.{target}
use Rattle.block_steps.proofs.ReleaseMet.{key, shown, met_if}

abbrev zero_byte : ℕ → ℕ → Byte
zero_byte at place = Num 0

-- a state in which this word stands for each value that may be any
made_with : (parts : Parts) (word : Word) → IsGraph parts → IsWordBelow (length parts.objects) word → (state : State) × IsState state × IsMadeWith parts (λ value. word) zero_byte state
made_with parts word graph below =
    subst (λ (g : Parts). (state : State) × IsState state × IsMadeWith g (λ value. word) zero_byte state) (graph_numbered parts graph)
    (chosen_state parts (λ value. word) zero_byte graph.ascending graph.well_formed graph.within_limits (subst (λ (g : Parts). IsChoice g (λ value. word) zero_byte) (sym (graph_numbered parts graph)) choice))
  where
    choice : IsChoice parts (λ value. word) zero_byte
    choice = record {
      words = λ key is. below;
      bytes = λ key object place class stands found. zero_has class;
      names = λ key place. tt;
      small = λ key place. omega arith;
    }

module _ (parts : Parts) (graph : IsGraph parts) (at : ℕ) (address : is_address_held parts at ≡ true) (any : value_at parts.values (key parts graph at address) ≡ Some Any) where
  -- a number that is not null
  invalid_met : SomeFaults parts (FaultsReleasing at invalid_free)
  invalid_met =
      let made = made_with parts (Plain 1) graph (record { small = omega arith; named = tt }) in
      shown parts graph at address invalid_free made.0 made.2.given made.1 made.2.meets (ap (free_fault made.0.memory) (made.2.words (key parts graph at address) any))

  -- the first byte of a dead object more, whose block is there
  double_met : nodes parts + 1 < 2 ^ 30 → SomeFaults parts (FaultsReleasing at double_free)
  double_met room =
      shown parts graph at address double_free state made.2.given made.1 meets
      (ap (free_fault state.memory) word ∙ through (slice_get state.memory dead) refl gone)
    where
      dead : ℕ
      dead = length parts.objects

      more : IsGraph (with_dead_one parts graph)
      more = graph_dead_more parts graph room

      made : (state : State) × IsState state × IsMadeWith (with_dead_one parts graph) (λ value. To dead (pos 0)) zero_byte state
      made = made_with (with_dead_one parts graph) (To dead (pos 0)) more
          (record { small = tt; named = found_within (λ (entry : KeyedObject). entry.key) (λ entry. entry.object) (with_dead_one parts graph).objects more.keys.objects dead (IsSome-holds _ _ (object_new parts graph)) })

      state : State
      state = made.0

      meets : Meets (maps_of parts) state made.2.given
      meets = dead_less parts graph state made.2.given made.2.meets

      word : made.2.given.word (key parts graph at address) ≡ To dead (pos 0)
      word = made.2.words (key parts graph at address) any

      inside : dead < length state.memory
      inside =
          let below : IsWordBelow (length state.memory) (To dead (pos 0)) = made.1.registers at (To dead (pos 0)) (meets.registers at ∙ ap (option_map made.2.given.word) (target parts graph at address).1 ∙ ap Some word) in
          below.named

      gone : IsGone Heap (slice_get state.memory dead)
      gone =
          let has = made.2.meets.objects dead dead_one (object_new parts graph) in
          let same : has.0 ≡ dead = same_Some _ _ (ap (λ (ns : List ℕ). slice_get ns 0) (sym has.1 ∙ made.2.blocks dead dead_one (object_new parts graph) refl)) in
          subst (λ (n : ℕ). IsGone Heap (slice_get state.memory n)) same has.2

      nothing : Block
      nothing = record { base = 0; kind = Heap; live = false; bytes = [] }

      through : (found : Option Block) → slice_get state.memory dead ≡ found → IsGone Heap found → block_free_fault found (pos 0) ≡ Some double_free
      through None none is = absurd (none-some (get_or state.memory dead nothing) (sym none ∙ slice_get-get_or state.memory dead nothing inside))
      through (Some block) some is =
          ap (λ (k : BlockKind). if is_heap k && int_eq (pos 0) (pos 0) then (if block.live then None else Some double_free) else Some invalid_free) is.1
          ∙ ap (λ (b : Bool). if b then None else Some double_free) is.0

  any_met : (kind : ℕ) → nodes parts + 1 < 2 ^ 30 → Contains (double_free ∷ invalid_free ∷ []) kind → SomeFaults parts (FaultsReleasing at kind)
  any_met kind room (zero, below, is) = subst (λ (k : ℕ). SomeFaults parts (FaultsReleasing at k)) is (double_met room)
  any_met kind room (suc zero, below, is) = subst (λ (k : ℕ). SomeFaults parts (FaultsReleasing at k)) is invalid_met
  any_met kind room (suc (suc place), below, is) = absurd (omega arith)

pub release_listed : (parts : Parts) (at : ℕ) (given : Post) → IsGraph parts → is_address_held parts at ≡ true → IsPost (release_post parts at) given → MeetsReleased parts at given
release_listed parts at given graph address is = record {
  met = λ room kind listed. met_if parts graph at address kind (λ any two. any_met parts graph at address any kind room two) (subst (λ (kinds : List ℕ). Contains kinds kind) is.kinds listed);
}
