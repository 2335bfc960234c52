-- The end of a run: what its post says, also where a segment may be empty.
use Rattle.std.proofs.Common.{◌≡◌, ℕ, Bool, true, false, not, ◌&&◌, ◌||◌, List, [], ◌∷◌, nat_eq, None, Some, ◌⊎◌, inl, inr, refl, sym, ◌∙◌, ap, subst, eq-eqb}
use Rattle.std.specs.Prelude.{Result, Ok, Err, IfOk, Contains, option_map, slice_get, if◌then◌else◌}
use Rattle.std.specs.List.{list_all, list_any}
use Rattle.std.proofs.lemmas.Bool.{false≢true}
use Rattle.std.proofs.lemmas.Option.{none-some}
use Rattle.cbase.specs.declared.stop.Stop.{Stop}
use Rattle.bytes_core.specs.declared.block.Block.{Block}
use Rattle.bytes_core.specs.declared.byte.Byte.TheVariants.{Num}
use Rattle.bytes_core.specs.declared.word.Word.TheVariants.{Plain}
use Rattle.bytes_core.specs.Fault.{block_never_freed}
use Rattle.bytes_core.specs.Release.{is_heap}
use Rattle.graph.specs.declared.object.Object.{Object}
use Rattle.graph.specs.declared.object.Shape.{Shape}
use Rattle.graph.specs.declared.object.Shape.TheVariants.{Region as RegionShape, Segment}
use Rattle.graph.specs.declared.parts.KeyedObject.{KeyedObject}
use Rattle.graph.specs.declared.parts.Parts.{Parts}
use Rattle.graph.specs.declared.post.Post.{Post}
use Rattle.graph.specs.Choices.{IsMadeWith}
use Rattle.graph.specs.Maps.{object_at}
use Rattle.graph.specs.Meaning.{StandsFor}
use Rattle.graph.specs.Nodes.{is_region, links_in}
use Rattle.graph.specs.State.{State, IsState}
use Rattle.graph.specs.WellFormed.{are_ascending, is_segment_storage, says_nothing}
use Rattle.graph.specs.Whole.{IsGraph}
use Rattle.graph.proofs.Found.{found-all}
use Rattle.graph.proofs.Tests.{and_left, and_right}
use Rattle.changes.specs.AnyWords.{HasPlaceForOne}
use Rattle.changes.specs.Following.{StepMeans, SomeFaults}
use Rattle.changes.specs.Posted.{IsPost, SomeStandsFor}
use Rattle.changes.proofs.MeansAlike.{means_alike}
use Rattle.changes.proofs.Reached.{only_one}
use Rattle.flow.specs.declared.flow_graph.Flow.{Flow}
use Rattle.flow.specs.declared.instruction.Instr.{Instr}
use Rattle.flow.specs.declared.instruction.Instr.TheVariants.{Close}
use Rattle.heap_steps.specs.Closing.{HasHeapBlock, Closes, FaultsClosing, has_live_heap, has_a_block, none_is_empty, closed_by, close_post}
use Rattle.heap_steps.proofs.Left.{same_meets}
use Rattle.heap_steps.proofs.Listed.{Contains-first, Contains-cases, Contains-none, get_contained}
use Rattle.heap_steps.proofs.Looked.{some_item}
use Rattle.heap_steps.proofs.Loses.{made_state, object_there, IsBlockOf, block_of, first_block, one_at_least}
use Rattle.heap_steps.proofs.Raised.{raised_object, raised, raised_at}
use Rattle.heap_steps.proofs.RaisedForm.{raised_graph, raised_meets}
use Rattle.transfer.specs.Ending.{ended_by, end_post}
use Rattle.transfer.specs.Means.{EndMeans, InstrMeans}
use Rattle.transfer.proofs.Four.{close_not}
use Rattle.transfer.proofs.Meaning.{alike_all, plain_regions}

-- its graph, where there is one, is the graph
pub end_is : (parts after : Parts) → Contains (end_post parts).graphs after → after ≡ parts
end_is parts after among = by_test (none_is_empty parts) among
  where
    by_heap : (b : Bool) → Contains (closed_by parts b).graphs after → after ≡ parts
    by_heap true among = absurd (Contains-none after among)
    by_heap false among = sym (only_one parts after among)

    by_test : (a : Bool) → Contains (ended_by parts a).graphs after → after ≡ parts
    by_test true among = by_heap (has_live_heap parts) among
    by_test false among = sym (only_one parts after among)

-- some object may be empty, or none may
pub some_not : {X : Type 0} (test : X → Bool) (xs : List X) → list_all test xs ≡ not (list_any (λ x. not (test x)) xs)
some_not test [] = refl
some_not test (first ∷ rest) = by_first (test first) (some_not test rest)
  where
    by_first : (b : Bool) → list_all test rest ≡ not (list_any (λ x. not (test x)) rest) → (b && list_all test rest) ≡ not (not b || list_any (λ x. not (test x)) rest)
    by_first true later = later
    by_first false later = refl

-- a test of an object by the links of its shape
pub no_links : (shape : Shape) → links_in shape ≡ None → not (has_a_block shape) ≡ false
no_links RegionShape none = refl
no_links (Segment twofold head next prev back least next_value prev_value node) none = absurd (none-some _ (sym none))

module _ (parts : Parts) (graph : IsGraph parts) where
  -- some memory has a block of a segment that may be empty
  pub record SomeLeft : Type 0 where
    pub state : State
    pub is : IsState state
    pub stands : StandsFor parts state
    pub some : HasHeapBlock state

  some_left : (entry : KeyedObject) → Contains parts.objects entry → not (has_a_block entry.object.shape) ≡ true → SomeLeft
  some_left entry among empty = record {
    state = made.0;
    is = made.1;
    stands = record { given = made.2.given; meets = raised_meets entry.key parts graph made.0 made.2.given made.2.meets };
    some = record { number = first.0; block = its.block; stands = its.there; live = its.live; heap = heap_of its.block entry.object its.kind heap };
  }
    where
      at : (place : ℕ) × (slice_get parts.objects place ≡ Some entry)
      at = get_contained parts.objects entry among

      stands : object_at parts.objects entry.key ≡ Some entry.object
      stands = object_there parts graph at.0 entry at.1

      by_shape : (shape : Shape) → not (has_a_block shape) ≡ true → is_region shape ≡ false
      by_shape RegionShape empty = absurd (false≢true empty)
      by_shape (Segment twofold head next prev back least next_value prev_value node) empty = refl

      by_region : (b c : Bool) → (b || c) ≡ true → b ≡ false → c ≡ true
      by_region true c either none = absurd (false≢true (sym none))
      by_region false c either none = either

      storage : is_segment_storage entry.object ≡ true
      storage =
          by_region (is_region entry.object.shape) (is_segment_storage entry.object)
          (found-all (λ (entry : KeyedObject). entry.key) (λ entry. entry.object) (λ (object : Object). is_region object.shape || is_segment_storage object) parts.objects entry.key entry.object graph.well_formed.segments_are_allocated stands)
          (by_shape entry.object.shape empty)

      live : entry.object.live ≡ true
      live = and_left entry.object.live (is_heap entry.object.kind && says_nothing entry.object.edges entry.object.plane) storage

      heap : is_heap entry.object.kind ≡ true
      heap = and_left (is_heap entry.object.kind) (says_nothing entry.object.edges entry.object.plane) (and_right entry.object.live (is_heap entry.object.kind && says_nothing entry.object.edges entry.object.plane) storage)

      there : object_at (raised entry.key parts).objects entry.key ≡ Some (raised_object entry.object)
      there =
          raised_at entry.key parts.objects entry.key ∙ ap (option_map (λ (object : Object). if nat_eq entry.key entry.key then raised_object object else object)) stands
          ∙ ap (λ (b : Bool). Some (if b then raised_object entry.object else entry.object)) (eq-eqb entry.key entry.key refl)

      made : (state : State) × IsState state × IsMadeWith (raised entry.key parts) (λ value. Plain 0) (λ key place. Num 0) state
      made = made_state (raised entry.key parts) (raised_graph entry.key parts graph)

      first : (number : ℕ) × (slice_get (made.2.given.blocks entry.key) 0 ≡ Some number)
      first = first_block (raised entry.key parts) made.0 made.2.given (raised_graph entry.key parts graph) made.2.meets entry.key (raised_object entry.object) there live (one_at_least parts graph entry.object.shape)

      its : IsBlockOf made.0 (raised_object entry.object) first.0
      its = block_of (raised entry.key parts) made.0 made.2.given (raised_graph entry.key parts graph) made.2.meets entry.key (raised_object entry.object) there live 0 first.0 first.1

      heap_of : (one : Block) (object : Object) → one.kind ≡ object.kind → is_heap object.kind ≡ true → is_heap one.kind ≡ true
      heap_of one object same allocated = ap is_heap same ∙ allocated

  pub perhaps_means : list_any (λ (entry : KeyedObject). not (has_a_block entry.object.shape)) parts.objects ≡ true → (post : Post) →
      IsPost (record { graphs = parts ∷ []; kinds = block_never_freed ∷ []; loss = Some 3 }) post → EndMeans parts post
  perhaps_means some post is = record {
    sound = λ state next state_is stands steps excuse.
        subst (λ (graphs : List Parts). SomeStandsFor graphs next) (sym is.graphs)
        (record { graph = parts; among = Contains-first parts []; stands = record { given = stands.given; meets = same_meets parts state next stands.given stands.meets steps.leaves } });
    exact = λ after next none among next_is stands room. absurd (none-some 3 (sym (sym is.loss ∙ none)));
    exact_of_regions = record { exact = λ none regions after next among next_is stands. absurd (none-some 3 (sym (sym is.loss ∙ none))) };
    kinds = λ state kind state_is stands faults.
        subst (λ (kinds : List ℕ). Contains kinds kind) (sym is.kinds) (subst (λ (k : ℕ). Contains (block_never_freed ∷ []) k) (sym faults.is) (Contains-first block_never_freed []));
    met = λ kind precise listed. met kind (Contains-cases block_never_freed kind [] (subst (λ (kinds : List ℕ). Contains kinds kind) is.kinds listed));
    through_any = λ room kind listed. met kind (Contains-cases block_never_freed kind [] (subst (λ (kinds : List ℕ). Contains kinds kind) is.kinds listed));
    ascending = ap are_ascending is.kinds;
  }
    where
      left : SomeLeft
      left = let found = some_item (λ (entry : KeyedObject). not (has_a_block entry.object.shape)) parts.objects some in some_left found.0 found.2 found.1

      met : (kind : ℕ) → (block_never_freed ≡ kind) ⊎ Contains [] kind → SomeFaults parts (FaultsClosing kind)
      met kind (inl same) = record { state = left.state; is = left.is; stands = left.stands; faults = record { some = left.some; is = sym same } }
      met kind (inr none) = absurd (Contains-none kind none)

-- where none may be empty
pub whole_means : (parts : Parts) (post : Post) → IsPost (close_post parts) post → StepMeans parts Closes FaultsClosing (λ after. after ≡ parts) post → EndMeans parts post
whole_means parts post is means =
    alike_all parts Closes FaultsClosing (λ after. after ≡ parts) (λ memory. Unit {0}) (HasPlaceForOne parts) post (λ excuse loss. four loss)
    (record { met = λ place kind listed. means.met kind four listed }) (means_alike parts Closes FaultsClosing (λ after. after ≡ parts) (λ memory. Unit {0}) post means)
    (plain_regions parts Closes FaultsClosing (λ after. after ≡ parts) post means)
  where
    four : post.loss ≡ Some 4 → ⊥
    four loss = close_not parts (sym is.loss ∙ loss)

pub end_step : (flow : Flow) (point : ℕ) (instr : Instr) (parts : Parts) → instr ≡ Close → (result : Result Post Stop) → IfOk result (λ post. EndMeans parts post) → IfOk result (λ post. InstrMeans flow point instr parts post)
end_step flow point instr parts is result means = subst (λ (i : Instr). IfOk result (λ post. InstrMeans flow point i parts post)) (sym is) (by_result result means)
  where
    by_result : (given : Result Post Stop) → IfOk given (λ post. EndMeans parts post) → IfOk given (λ post. InstrMeans flow point Close parts post)
    by_result (Ok post) means = means
    by_result (Err error) means = tt

-- Both, as the code has them.

pub ended_whole : (parts : Parts) (result : Result Post Stop) → none_is_empty parts ≡ true → IfOk result (λ post. IsPost (close_post parts) post) → IfOk result (λ post. IsPost (end_post parts) post)
ended_whole parts (Ok post) full is = subst (λ (b : Bool). IsPost (ended_by parts b) post) (sym full) is
ended_whole parts (Err error) full is = tt

pub means_whole : (parts : Parts) (result : Result Post Stop) → IfOk result (λ post. IsPost (close_post parts) post) → IfOk result (λ post. StepMeans parts Closes FaultsClosing (λ after. after ≡ parts) post) → IfOk result (λ post. EndMeans parts post)
means_whole parts (Ok post) is means = whole_means parts post is means
means_whole parts (Err error) is means = tt

pub ended_perhaps : (parts : Parts) (result : Result Post Stop) → none_is_empty parts ≡ false → IfOk result (λ post. IsPost (record { graphs = parts ∷ []; kinds = block_never_freed ∷ []; loss = Some 3 }) post) → IfOk result (λ post. IsPost (end_post parts) post)
ended_perhaps parts (Ok post) some is = subst (λ (b : Bool). IsPost (ended_by parts b) post) (sym some) is
ended_perhaps parts (Err error) some is = tt

pub means_perhaps : (parts : Parts) → IsGraph parts → list_any (λ (entry : KeyedObject). not (has_a_block entry.object.shape)) parts.objects ≡ true → (result : Result Post Stop) →
    IfOk result (λ post. IsPost (record { graphs = parts ∷ []; kinds = block_never_freed ∷ []; loss = Some 3 }) post) → IfOk result (λ post. EndMeans parts post)
means_perhaps parts graph some (Ok post) is = perhaps_means parts graph some post is
means_perhaps parts graph some (Err error) is = tt

pub none_empty : (parts : Parts) (some : Bool) → some ≡ list_any (λ (entry : KeyedObject). not (has_a_block entry.object.shape)) parts.objects → some ≡ false → none_is_empty parts ≡ true
none_empty parts some is none = some_not (λ (entry : KeyedObject). has_a_block entry.object.shape) parts.objects ∙ ap not (sym is ∙ none)

pub some_empty : (parts : Parts) (some : Bool) → some ≡ list_any (λ (entry : KeyedObject). not (has_a_block entry.object.shape)) parts.objects → some ≡ true →
    (list_any (λ (entry : KeyedObject). not (has_a_block entry.object.shape)) parts.objects ≡ true) × (none_is_empty parts ≡ false)
some_empty parts some is found = (sym is ∙ found, some_not (λ (entry : KeyedObject). has_a_block entry.object.shape) parts.objects ∙ ap not (sym is ∙ found))
