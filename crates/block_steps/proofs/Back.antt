-- A state that a graph with an object more stands for comes, but for numbers of blocks, from one that the graph without it stands for.
use Rattle.std.proofs.Common.{◌≡◌, ◌≢◌, ℕ, ◌<◌, Bool, true, false, not, List, [], ◌∷◌, ◌++◌, map, length, set, get_or, nat_eq, nat_lt, Option, Some, refl, sym, ◌∙◌, ap, subst, lt-ltb}
use Rattle.std.specs.Prelude.{IsSome, Contains, option_map, slice_get, ℤ}
use Rattle.std.specs.List.{All}
use Rattle.std.proofs.lemmas.Bool.{false≢true, ne_eqb}
use Rattle.std.proofs.lemmas.List.{length-set}
use Rattle.std.proofs.lemmas.List.Elements.{All-contains}
use Rattle.std.proofs.lemmas.Option.{slice_get_within, get_or_from_slice_get, slice_get-get_or}
use Rattle.bytes_core.specs.declared.byte.Byte.{Byte}
use Rattle.bytes_core.specs.declared.byte.Byte.TheVariants.{Num, Part}
use Rattle.bytes_core.specs.declared.block.Block.{Block}
use Rattle.bytes_core.specs.declared.block.BlockKind.{BlockKind}
use Rattle.bytes_core.specs.declared.word.Word.{Word}
use Rattle.bytes_core.specs.declared.word.Word.TheVariants.{Plain, To}
use Rattle.bytes_core.specs.Placement.{placed}
use Rattle.bytes_core.specs.Valid.{NamesBelow}
use Rattle.bytes_core.proofs.Written.{slice_get-set_other}
use Rattle.graph.specs.declared.object.Object.{Object}
use Rattle.graph.specs.declared.parts.Parts.{Parts}
use Rattle.graph.specs.Alike.{renumbered_word}
use Rattle.graph.specs.AlikeMemories.{NamesAmong}
use Rattle.graph.specs.AlikeStates.{AreAlikeStates}
use Rattle.graph.specs.DeadBlocks.{dead_block, with_memory}
use Rattle.graph.specs.Maps.{object_at}
use Rattle.graph.specs.State.{State, IsByte, IsState, IsWordBelow, IsLedTo}
use Rattle.graph.specs.Meaning.{Assignment, Meets, maps_of}
use Rattle.graph.specs.Whole.{IsGraph}
use Rattle.graph.proofs.AlikeStates.{state_alike_itself, led_below}
use Rattle.graph.proofs.Closed.{closed_of}
use Rattle.graph.proofs.Found.{IsSome-holds}
use Rattle.graph.proofs.Tests.{and_both}
use Rattle.changes.proofs.Died.{dead}
use Rattle.changes.proofs.Region.{IsRegionBlock, region_block}
use Rattle.heap_steps.specs.Unreached.{may_lead_anywhere}
use Rattle.heap_steps.proofs.Listed.{Contains-first, Contains-later}
use Rattle.heap_steps.proofs.Without.{state_without}
use Rattle.block_steps.specs.Blocks.{MakesBlock, new_object}
use Rattle.block_steps.proofs.Numbers.{numbers_of, numbers_are, made_again}
use Rattle.block_steps.proofs.ObjectForm.{grown, object_new, object_next, has_object_more}
use Rattle.block_steps.proofs.Owned.{IsOfGraph, port_owned, root_owned, byte_owned}
use Rattle.block_steps.proofs.Swapped.{swap, swap_stays, stays, alike_moved, get_front}
use Rattle.block_steps.proofs.Taken.{object_taken}

-- a map that keeps all items of a list
map_keeps : {X : Type 0} (f : X → X) (xs : List X) → ((x : X) → Contains xs x → x ≡ f x) → xs ≡ map f xs
map_keeps f [] each = refl
map_keeps {X} f (first ∷ rest) each =
    ap (λ (x : X). x ∷ rest) (each first (Contains-first first rest)) ∙ ap (λ (xs : List X). f first ∷ xs) (map_keeps f rest (λ x there. each x (Contains-later first x rest there)))

module _ (kind : BlockKind) (size : ℕ) (zeroed : Bool) (parts : Parts) (graph : IsGraph parts) (one : State) (kinds : List BlockKind) (variables : ℕ → Option ℕ) (registers : ℕ → Option Word) (given : Assignment) where
  -- with dead blocks more, and other variables and registers
  abbrev pub middle : State
  middle = record { memory = one.memory ++ map dead_block kinds; variables = variables; registers = registers; ports = one.ports; roots = one.roots }

  module _ (is : IsState middle) (meets : Meets (maps_of (grown kind size zeroed parts graph)) middle given) where
    pub now : IsRegionBlock (new_object kind size zeroed) middle given (length parts.objects)
    now = region_block (grown kind size zeroed parts graph) middle given (length parts.objects) (new_object kind size zeroed) meets (object_new kind size zeroed parts graph) refl refl

    -- the state before the block is made: a dead one has its number
    abbrev pub before : State
    before = with_memory (set middle.memory now.number (dead now.block)) middle

    pub before_meets : Meets (maps_of parts) before given
    before_meets =
        object_taken (length parts.objects) (new_object kind size zeroed) (maps_of parts) (maps_of (grown kind size zeroed parts graph)) middle now.number now.block (dead now.block) given
        (has_object_more kind size zeroed parts graph) (closed_of parts graph.well_formed) meets now.blocks now.there refl

    pub before_state : IsState before
    before_state = state_without middle now.number now.block is now.there

    pub makes : MakesBlock kind size zeroed before.memory (placed before.memory now.block)
    makes = made_again middle.memory now.number now.block is.memory now.there kind size zeroed now.node.live now.node.kind now.node.size now.node.classes
        (subst (λ (b : Block). All IsByte b.bytes) (get_or_from_slice_get middle.memory now.number now.block now.block now.there) (is.bytes now.number now.block (slice_get_within middle.memory now.number now.block now.there)))

    module _ (is_one : IsState one) (bound : may_lead_anywhere parts ≡ false) where
      abbrev Owned : ℕ → Type 0
      Owned = IsOfGraph parts graph bound before given before_state before_meets

      abbrev contents : List ℕ
      contents = numbers_of now.block.bytes

      abbrev Stays : ℕ → Bool
      Stays = stays one.memory is_one.memory kinds now.number now.block contents

      -- a block of an object is another one
      other_block : (number : ℕ) → Owned number → number ≢ now.number
      other_block number owned same =
          let its : given.owner number ≡ owned.key = before_meets.owners owned.key owned.place number owned.some owned.block in
          let its_own : given.owner now.number ≡ length parts.objects = meets.owners (length parts.objects) 0 now.number (IsSome-holds _ _ (object_new kind size zeroed parts graph)) (ap (λ (ns : List ℕ). slice_get ns 0) now.blocks) in
          let key : owned.key ≡ length parts.objects = sym its ∙ ap given.owner same ∙ its_own in
          false≢true (subst (λ (o : Option Object). IsSome o) (ap (object_at parts.objects) key ∙ object_next kind size zeroed parts graph) owned.some)

      stays_owned : (number : ℕ) → Owned number → number < length one.memory → Stays number ≡ true
      stays_owned number owned below =
          and_both (nat_lt number (length one.memory)) (not (nat_eq number now.number)) (lt-ltb _ _ below) (ap not (ne_eqb number now.number (other_block number owned)))

      apart : (other : ℕ) (its : Block) → slice_get one.memory other ≡ Some its → its.live ≡ true → other ≢ now.number → All (NamesAmong Stays) its.bytes
      apart other its stands live differ place d inside = by_byte (get_or its.bytes place d) refl
        where
          below : All (NamesBelow (length one.memory)) its.bytes
          below = subst (λ (b : Block). All (NamesBelow (length one.memory)) b.bytes) (get_or_from_slice_get one.memory other its its stands) (is_one.memory.named other its (slice_get_within one.memory other its stands))

          stands_before : slice_get before.memory other ≡ Some its
          stands_before =
              slice_get-set_other middle.memory now.number other (dead now.block) differ
              ∙ get_front one.memory (map dead_block kinds) other (slice_get_within one.memory other its stands) ∙ stands

          by_byte : (byte : Byte) → get_or its.bytes place d ≡ byte → NamesAmong Stays byte
          by_byte (Num number) same = tt
          by_byte (Part target offset k) same =
              let names : NamesBelow (length one.memory) (Part target offset k) = subst (NamesBelow (length one.memory)) same (below place d inside) in
              stays_owned target
              (byte_owned parts graph bound before given before_state before_meets other its stands_before live place target k offset (slice_get-get_or its.bytes place d inside ∙ ap Some same)) names.0

      abbrev pub turn : ℕ → ℕ
      turn = swap now.number (length middle.memory)

      turn_stays : (number : ℕ) → Stays number ≡ true → turn number ≡ number
      turn_stays = swap_stays one.memory is_one.memory kinds now.number now.block contents now.there now.node.live (numbers_are zeroed size now.block.bytes now.node.classes) apart

      pub number_keeps : (number : ℕ) → Owned number → number < length one.memory → number ≡ turn number
      number_keeps number owned below = sym (turn_stays number (stays_owned number owned below))

      pub word_keeps : (word : Word) → IsWordBelow (length one.memory) word → ((number : ℕ) (offset : ℤ) → word ≡ To number offset → Owned number) → word ≡ renumbered_word turn word
      word_keeps (Plain number) below owned = refl
      word_keeps (To number offset) below owned = ap (λ (n : ℕ). To n offset) (number_keeps number (owned number offset refl) below.named)

      pub long_before : length before.memory ≡ length middle.memory
      long_before = length-set middle.memory now.number (dead now.block)

      -- the state behind, where variables and registers hold what is alike
      pub alike_behind : (variables' : ℕ → Option ℕ) (registers' : ℕ → Option Word) → ((variable : ℕ) → variables' variable ≡ option_map turn (one.variables variable)) →
          ((register : ℕ) → registers' register ≡ option_map (renumbered_word turn) (one.registers register)) →
          AreAlikeStates turn turn (λ number. nat_lt number (length one.memory)) one (record { memory = placed before.memory now.block; variables = variables'; registers = registers'; ports = one.ports; roots = one.roots })
      alike_behind variables' registers' same_variables same_registers = record {
        memories = alike_moved one.memory is_one.memory kinds now.number now.block contents now.there now.node.live (numbers_are zeroed size now.block.bytes now.node.classes) apart;
        named = (state_alike_itself one is_one).named;
        variables = same_variables;
        registers = same_registers;
        ports = map_keeps (renumbered_word turn) one.ports
            (λ word there. word_keeps word (All-contains (IsWordBelow (length one.memory)) one.ports word is_one.ports there)
            (λ number offset is. port_owned parts graph bound before given before_state before_meets number offset (subst (Contains one.ports) is there)));
        roots = map_keeps turn one.roots
            (λ root there. number_keeps root (root_owned parts graph bound before given before_state before_meets root there)
            (led_below (length one.memory) one.ports is_one.ports root (All-contains (IsLedTo one.ports) one.roots root is_one.roots there)));
      }
