-- The end of a run on graphs: sound, exact, and its fault both ways.
use Rattle.std.proofs.Common.{◌≡◌, ℕ, zero, suc, ◌≤◌, Bool, true, false, List, [], ◌∷◌, Some, ◌⊎◌, inl, inr, refl, sym, ◌∙◌, ap, subst, leb-true, append-nil, arith}
use Rattle.std.specs.Prelude.{Contains, slice_get}
use Rattle.std.proofs.lemmas.Bool.{false≢true}
use Rattle.std.proofs.lemmas.Option.{same_Some, none-some}
use Rattle.bytes_core.specs.declared.block.Block.{Block}
use Rattle.bytes_core.specs.declared.byte.Byte.TheVariants.{Num}
use Rattle.bytes_core.specs.declared.word.Word.TheVariants.{Plain}
use Rattle.bytes_core.specs.Fault.{block_never_freed}
use Rattle.bytes_core.specs.Release.{is_heap}
use Rattle.graph.specs.declared.object.Links.{Links}
use Rattle.graph.specs.declared.object.Object.{Object}
use Rattle.graph.specs.declared.object.Shape.{Shape}
use Rattle.graph.specs.declared.object.Shape.TheVariants.{Region as RegionShape, Segment}
use Rattle.graph.specs.declared.parts.KeyedObject.{KeyedObject}
use Rattle.graph.specs.declared.parts.Parts.{Parts}
use Rattle.graph.specs.declared.post.Post.{Post}
use Rattle.graph.specs.Choices.{IsMadeWith}
use Rattle.graph.specs.DeadBlocks.{with_memory}
use Rattle.graph.specs.Maps.{object_at, value_at}
use Rattle.graph.specs.Meaning.{HasBlocksAs, IsGone, own_offset, Assignment, Meets, StandsFor, maps_of}
use Rattle.graph.specs.Nodes.{links_in}
use Rattle.graph.specs.State.{State, IsState}
use Rattle.graph.specs.WellFormed.{are_ascending}
use Rattle.graph.specs.Whole.{IsGraph}
use Rattle.graph.proofs.Found.{Holds-some, found-all}
use Rattle.graph.proofs.Tests.{and_left, and_right, and_both}
use Rattle.changes.specs.Following.{Follows, SomeFaults, StepMeans}
use Rattle.changes.specs.Posted.{IsPost, SomeStandsFor}
use Rattle.heap_steps.specs.Closing.{HasHeapBlock, Closes, FaultsClosing, is_live_heap, has_live_heap, has_a_block, none_is_empty, closed_by, close_post}
use Rattle.heap_steps.proofs.Entries.{entry_found}
use Rattle.heap_steps.proofs.Left.{same_meets}
use Rattle.heap_steps.proofs.Listed.{Contains-first, Contains-cases, Contains-none, get_contained}
use Rattle.heap_steps.proofs.Loses.{block_of, made_state, first_block, object_there}
use Rattle.heap_steps.proofs.Looked.{some_item}
use Rattle.heap_steps.proofs.Tame.{some_at}

module _ (parts : Parts) (graph : IsGraph parts) where
  -- a live block of the heap is one of a live object of the heap
  heap_object : (state : State) (given : Assignment) → Meets (maps_of parts) state given → HasHeapBlock state → has_live_heap parts ≡ true
  heap_object state given meets some =
      let owned = meets.used some.number some.block some.stands some.live in
      let object = Holds-some (object_at parts.objects (given.owner some.number)) owned.object in
      let live = lives (given.owner some.number) object.item object.is (given.place some.number) owned.block in
      let its = block_of parts state given graph meets (given.owner some.number) object.item object.is live (given.place some.number) some.number owned.block in
      let same : its.block ≡ some.block = same_Some _ _ (sym its.there ∙ some.stands) in
      let heap : is_heap object.item.kind ≡ true = ap is_heap (sym its.kind ∙ ap (λ (b : Block). b.kind) same) ∙ some.heap in
      let found = entry_found (λ (entry : KeyedObject). entry.key) (λ (entry : KeyedObject). entry.object) parts.objects (given.owner some.number) object.item object.is in
      some_at (λ (entry : KeyedObject). is_live_heap entry.object) parts.objects found.0 found.1 found.2 (ap is_live_heap found.4 ∙ and_both object.item.live (is_heap object.item.kind) live heap)
    where
      one : (first place : ℕ) → slice_get (first ∷ []) place ≡ Some some.number → first ≡ some.number
      one first zero is = same_Some _ _ is
      one first (suc place) is = absurd (none-some some.number is)

      lives : (key : ℕ) (object : Object) → object_at parts.objects key ≡ Some object → (place : ℕ) → slice_get (given.blocks key) place ≡ Some some.number → object.live ≡ true
      lives key object stands place is = by_life object.live refl
        where
          by_life : (b : Bool) → object.live ≡ b → object.live ≡ true
          by_life true live = live
          by_life false dead =
              let has : HasBlocksAs false state.memory object given.word (λ value. own_offset (value_at parts.values value)) (given.blocks key) =
              subst (λ (b : Bool). HasBlocksAs b state.memory object given.word (λ value. own_offset (value_at parts.values value)) (given.blocks key)) dead (meets.objects key object stands) in
              let same = one has.0 place (sym (ap (λ (bs : List ℕ). slice_get bs place) has.1) ∙ is) in
              let gone : IsGone object.kind (Some some.block) = subst (IsGone object.kind) (ap (slice_get state.memory) same ∙ some.stands) has.2 in
              absurd (false≢true (sym gone.0 ∙ some.live))

  close_sound : (state next : State) → StandsFor parts state → Closes state next → has_live_heap parts ≡ false → SomeStandsFor (parts ∷ []) next
  close_sound state next stands closes none = record { graph = parts; among = Contains-first parts []; stands = record { given = stands.given; meets = same_meets parts state next stands.given stands.meets closes.leaves } }

  -- where no segment may be empty, a live object of the heap has a live block in each memory
  heap_block : none_is_empty parts ≡ true → has_live_heap parts ≡ true → (state : State) (given : Assignment) → Meets (maps_of parts) state given → HasHeapBlock state
  heap_block full some state given meets =
      let found = some_item (λ (entry : KeyedObject). is_live_heap entry.object) parts.objects some in
      let at = get_contained parts.objects found.0 found.2 in
      let stands = object_there parts graph at.0 found.0 at.1 in
      let live = and_left found.0.object.live (is_heap found.0.object.kind) found.1 in
      let first = first_block parts state given graph meets found.0.key found.0.object stands live
      (λ links linked. least_one found.0.object.shape links linked (found-all (λ (entry : KeyedObject). entry.key) (λ entry. entry.object) (λ (object : Object). has_a_block object.shape) parts.objects found.0.key found.0.object full stands)) in
      let block = block_of parts state given graph meets found.0.key found.0.object stands live 0 first.0 first.1 in
      record { number = first.0; block = block.block; stands = block.there; live = block.live; heap = heap_of block.block found.0.object block.kind (and_right found.0.object.live (is_heap found.0.object.kind) found.1) }
    where
      heap_of : (block : Block) (object : Object) → block.kind ≡ object.kind → is_heap object.kind ≡ true → is_heap block.kind ≡ true
      heap_of block object kind heap = ap is_heap kind ∙ heap

      least_one : (shape : Shape) (links : Links) → links_in shape ≡ Some links → has_a_block shape ≡ true → 1 ≤ links.least
      least_one RegionShape links linked has = absurd (none-some links linked)
      least_one (Segment twofold head next prev back least next_value prev_value node) links linked has = let is : least ≡ links.least = ap (λ (l : Links). l.least) (same_Some _ _ linked) in let one = leb-true 1 least has in omega arith

  close_exact : (next : State) → has_live_heap parts ≡ false → IsState next → StandsFor parts next → Follows parts Closes next
  close_exact next none is stands = record {
    state = next;
    next' = next;
    is = is;
    stands = stands;
    steps = record {
      none = λ some. false≢true (sym none ∙ heap_object next stands.given stands.meets some);
      leaves = record { memory = refl; registers = λ register. refl; variables = λ variable. refl; ports = refl; roots = refl };
    };
    more = record { kinds = []; is = ap (λ (memory : List Block). with_memory memory next) (sym (append-nil next.memory)) };
  }

  pub close_means : (post : Post) → none_is_empty parts ≡ true → IsPost (close_post parts) post → StepMeans parts Closes FaultsClosing (λ after. after ≡ parts) post
  close_means post full is = by_heap (has_live_heap parts) refl is
    where
      only : (after : Parts) → Contains (parts ∷ []) after → parts ≡ after
      only after there = by_cases (Contains-cases parts after [] there)
        where
          by_cases : (parts ≡ after) ⊎ Contains [] after → parts ≡ after
          by_cases (inl same) = same
          by_cases (inr none) = absurd (Contains-none after none)

      by_heap : (b : Bool) → has_live_heap parts ≡ b → IsPost (closed_by parts b) post → StepMeans parts Closes FaultsClosing (λ after. after ≡ parts) post
      by_heap true some is' = record {
        sound = λ state next is_state stands steps precise. absurd (steps.none (heap_block full some state stands.given stands.meets));
        exact = λ after next none among is_state stands. absurd (Contains-none after (subst (λ (graphs : List Parts). Contains graphs after) is'.graphs among));
        kinds = λ state kind stands faults. subst (λ (kinds : List ℕ). Contains kinds kind) (sym is'.kinds) (subst (λ (k : ℕ). Contains (block_never_freed ∷ []) k) (sym faults.is) (Contains-first block_never_freed []));
        met = λ kind precise listed. met kind (Contains-cases block_never_freed kind [] (subst (λ (kinds : List ℕ). Contains kinds kind) is'.kinds listed));
        ascending = ap are_ascending is'.kinds;
        tail = λ after among. absurd (Contains-none after (subst (λ (graphs : List Parts). Contains graphs after) is'.graphs among));
      }
        where
          made : (state : State) × IsState state × IsMadeWith parts (λ value. Plain 0) (λ key place. Num 0) state
          made = made_state parts graph

          met : (kind : ℕ) → (block_never_freed ≡ kind) ⊎ Contains [] kind → SomeFaults parts (FaultsClosing kind)
          met kind (inl same) = record {
            state = made.0;
            is = made.1;
            stands = record { given = made.2.given; meets = made.2.meets };
            faults = record { some = heap_block full some made.0 made.2.given made.2.meets; is = sym same };
          }
          met kind (inr none) = absurd (Contains-none kind none)
      by_heap false none is' = record {
        sound = λ state next is_state stands steps precise. subst (λ (graphs : List Parts). SomeStandsFor graphs next) (sym is'.graphs) (close_sound state next stands steps none);
        exact = λ after next lossless among is_state stands.
            close_exact next none is_state (subst (λ (p : Parts). StandsFor p next) (sym (only after (subst (λ (graphs : List Parts). Contains graphs after) is'.graphs among))) stands);
        kinds = λ state kind stands faults. absurd (false≢true (sym none ∙ heap_object state stands.given stands.meets faults.some));
        met = λ kind precise listed. absurd (Contains-none kind (subst (λ (kinds : List ℕ). Contains kinds kind) is'.kinds listed));
        ascending = ap are_ascending is'.kinds;
        tail = λ after among. sym (only after (subst (λ (graphs : List Parts). Contains graphs after) is'.graphs among));
      }
