-- A scalar that a static variable holds at the start: the graph behind, and the state.
use Rattle.std.proofs.Common.{◌≡◌, ℕ, ◌+◌, ◌^◌, ◌<◌, ◌≤◌, true, false, not, ◌&&◌, List, [], ◌∷◌, ◌++◌, length, take, drop, set, get_or, nat_eq, nat_le, nat_lt, pos, replicate, Option, Some, None, refl, sym, ◌∙◌, ap, subst, eqb-true, ltb-true, leb-true, arith}
use Rattle.std.specs.Prelude.{is_some, option_map, slice_get}
use Rattle.std.specs.List.{All}
use Rattle.std.specs.Option.{option_map_or}
use Rattle.std.proofs.lemmas.Bool.{false≢true}
use Rattle.std.proofs.lemmas.List.{length-set}
use Rattle.std.proofs.lemmas.List.Elements.{All-append, All-take, All-drop, All-set}
use Rattle.std.proofs.lemmas.Option.{same_Some, none-some, slice_get_within, get_or_from_slice_get}
use Rattle.bytes_core.specs.declared.block.Block.{Block}
use Rattle.bytes_core.specs.declared.byte.Byte.{Byte}
use Rattle.bytes_core.specs.declared.word.Word.{Word}
use Rattle.bytes_core.specs.declared.word.Word.TheVariants.{Plain, To}
use Rattle.bytes_core.specs.Access.{stored}
use Rattle.bytes_core.specs.Valid.{NamesBelow}
use Rattle.bytes_core.specs.Value.{word_bytes}
use Rattle.bytes_core.proofs.Kept.{IsMemory-written, names_of_word}
use Rattle.graph.specs.declared.edges.HasValue.{HasValue}
use Rattle.graph.specs.declared.object.Object.{Object}
use Rattle.graph.specs.declared.object.Shape.{Shape}
use Rattle.graph.specs.declared.object.Shape.TheVariants.{Region as RegionShape, Segment}
use Rattle.graph.specs.declared.parts.KeyedObject.{KeyedObject}
use Rattle.graph.specs.declared.parts.Parts.{Parts}
use Rattle.graph.specs.declared.value.Target.TheVariants.{Region}
use Rattle.graph.specs.declared.value.Value.{Value}
use Rattle.graph.specs.declared.value.Value.TheVariants.{Const, Address}
use Rattle.graph.specs.DeadBlocks.{with_memory}
use Rattle.graph.specs.Maps.{object_at, storage_of}
use Rattle.graph.specs.Meaning.{Assignment, Meets, StandsFor, HasWord, Ends, ends_of, first_of, block_word, maps_of}
use Rattle.graph.specs.Nodes.{is_region}
use Rattle.graph.specs.Sizes.{value_size}
use Rattle.graph.specs.State.{State, IsState, IsByte, IsWordBelow}
use Rattle.graph.specs.WellFormed.{target_fits}
use Rattle.graph.specs.Whole.{IsGraph}
use Rattle.graph.proofs.Closed.{closed_of}
use Rattle.graph.proofs.Found.{found-all}
use Rattle.graph.proofs.Scalars.{power_scalar}
use Rattle.graph.proofs.Tests.{and_left, and_right, and_both}
use Rattle.changes.specs.Parts.{with_object, with_value}
use Rattle.changes.specs.Ranges.{spliced, edge_for, class_for, written_object}
use Rattle.changes.proofs.Below.{word_small}
use Rattle.changes.proofs.Node.{block_with, low_has, low_long, written_holds}
use Rattle.changes.proofs.RangeForm.{graph_written}
use Rattle.changes.proofs.Region.{IsRegionBlock, region_block, region_changed}
use Rattle.changes.proofs.Value.{with_word, word-here, value_more}
use Rattle.changes.proofs.ValueForm.{IsFitValue, value_new, has_one_more, graph_with_value}
use Rattle.heap_steps.specs.Unreached.{is_any}
use Rattle.reinterpret.specs.Writing.{edge_at}
use Rattle.reinterpret.proofs.WriteSound.{stored_is}
use Rattle.flow.specs.declared.flow_graph.Flow.{Flow}
use Rattle.flow.specs.declared.flow_graph.Initial.{Initial}
use Rattle.flow.specs.declared.flow_graph.InitialWord.{InitialWord}
use Rattle.flow.specs.declared.flow_graph.InitialWord.TheVariants as initial
use Rattle.flow.specs.Holding.{Owned, block_of}
use Rattle.flow.specs.Machine.{size_in}
use Rattle.flow.specs.Runs.{initial_word}
use Rattle.flow.specs.Runs as runs
use Rattle.flow.specs.Valid.{is_fixed, is_scalar_size, is_initial, is_initial_word}
use Rattle.flow.proofs.Ascending.{All-at}
use Rattle.flow.proofs.MemoryLaws.{scalar_small}
use Rattle.transfer.specs.Start.{AreNamed, MayStand, address_of, initial_value, object_found, with_scalar, with_initial}
use Rattle.transfer.proofs.KeptObjects.{KeepsObjects, keeps_same, keeps_then, keeps_object}
use Rattle.transfer.proofs.Storages.{storage_there, storages_kept}

-- the storage of a static variable
pub record IsStored (flow : Flow) (parts : Parts) (variable : ℕ) : Type 0 where
  pub key : ℕ
  pub object : Object
  pub stored : storage_of parts.variables variable ≡ Some key
  pub stands : object_at parts.objects key ≡ Some object
  pub live : object.live ≡ true
  pub region : object.shape ≡ RegionShape
  pub size_is : object.size ≡ size_in flow variable

pub region_is : (shape : Shape) → is_region shape ≡ true → shape ≡ RegionShape
region_is RegionShape region = refl
region_is (Segment twofold head next prev back least next_value prev_value node) region = absurd (false≢true region)

pub stored_at : (flow : Flow) (parts : Parts) (variable : ℕ) → AreNamed flow parts → is_fixed flow variable ≡ true → IsStored flow parts variable
stored_at flow parts variable are fixed = by_found (storage_of parts.variables variable) refl (are.named variable ∙ fixed)
  where
    by_found : (found : Option ℕ) → storage_of parts.variables variable ≡ found → is_some found ≡ true → IsStored flow parts variable
    by_found None is some = absurd (false≢true some)
    by_found (Some key) is some =
        let there = storage_there parts variable key are.graph is in
        record {
          key = key;
          object = there.object;
          stored = is;
          stands = there.is;
          live = there.live;
          region = region_is there.object.shape (found-all (λ (entry : KeyedObject). entry.key) (λ entry. entry.object) (λ object. is_region object.shape) parts.objects key there.object are.regions there.is);
          size_is = are.storages.sizes variable key there.object is there.is;
        }

-- the value of a scalar
pub record IsInitialValue (parts : Parts) (size : ℕ) (word : InitialWord) : Type 0 where
  pub value : Value
  pub is : initial_value parts size word ≡ value
  pub fit : IsFitValue parts value
  pub size_is : value_size value ≡ size

pub initial_value_is : (flow : Flow) (parts : Parts) (size : ℕ) (word : InitialWord) → AreNamed flow parts → is_scalar_size size ≡ true → is_initial_word flow size word ≡ true → IsInitialValue parts size word
initial_value_is flow parts size (initial.Number number) are scalar right = record {
  value = Const number size;
  is = refl;
  fit = record { sized = and_both (is_scalar_size size) (nat_lt number (256 ^ size)) scalar right; leads = refl; held = refl };
  size_is = refl;
}
initial_value_is flow parts size (initial.Address variable offset) are scalar right =
    let s = stored_at flow parts variable are (and_right (nat_eq size 8) (is_fixed flow variable) right) in
    record {
      value = Address s.key offset Region;
      is = ap (λ (o : Option ℕ). address_of o offset) s.stored;
      fit = record {
        sized = refl;
        leads = ap (λ (o : Option Object). option_map_or (λ found. target_fits Region found.shape) o false) s.stands ∙ ap (target_fits Region) s.region;
        held = refl;
      };
      size_is = sym (eqb-true size 8 (and_left (nat_eq size 8) (is_fixed flow variable) right));
    }

-- a value at the start has one word
pub same_word : (flow : Flow) (parts : Parts) (are : AreNamed flow parts) (size : ℕ) (scalar : is_scalar_size size ≡ true) (w : InitialWord) (valid : is_initial_word flow size w ≡ true) (count count' : ℕ) (blocks : ℕ → List ℕ) (ends ends' : ℕ → Ends) (one other : Word) →
    HasWord count blocks ends (initial_value_is flow parts size w are scalar valid).value one → HasWord count' blocks ends' (initial_value_is flow parts size w are scalar valid).value other → one ≡ other
unfolding initial_value_is
same_word flow parts are size scalar (initial.Number number) valid count count' blocks ends ends' one other has has' = has ∙ sym has'
same_word flow parts are size scalar (initial.Address variable offset) valid count count' blocks ends ends' one other has has' = has ∙ sym has'

-- it is not any word
pub initial_not_any : (flow : Flow) (parts : Parts) (are : AreNamed flow parts) (size : ℕ) (scalar : is_scalar_size size ≡ true) (w : InitialWord) (valid : is_initial_word flow size w ≡ true) → not (is_any (initial_value_is flow parts size w are scalar valid).value) ≡ true
unfolding initial_value_is
initial_not_any flow parts are size scalar (initial.Number number) valid = refl
initial_not_any flow parts are size scalar (initial.Address variable offset) valid = refl

module _ (flow : Flow) (parts : Parts) (are : AreNamed flow parts) (scalar : Initial) (right : is_initial flow scalar ≡ true) where
  pub fixed : is_fixed flow scalar.variable ≡ true
  fixed = and_left (is_fixed flow scalar.variable) (is_scalar_size scalar.size && (nat_le (scalar.at + scalar.size) (size_in flow scalar.variable) && is_initial_word flow scalar.size scalar.word)) right

  pub behind : (is_scalar_size scalar.size && (nat_le (scalar.at + scalar.size) (size_in flow scalar.variable) && is_initial_word flow scalar.size scalar.word)) ≡ true
  behind = and_right (is_fixed flow scalar.variable) (is_scalar_size scalar.size && (nat_le (scalar.at + scalar.size) (size_in flow scalar.variable) && is_initial_word flow scalar.size scalar.word)) right

  pub scalar_is : is_scalar_size scalar.size ≡ true
  scalar_is = and_left (is_scalar_size scalar.size) (nat_le (scalar.at + scalar.size) (size_in flow scalar.variable) && is_initial_word flow scalar.size scalar.word) behind

  pub last_two : (nat_le (scalar.at + scalar.size) (size_in flow scalar.variable) && is_initial_word flow scalar.size scalar.word) ≡ true
  last_two = and_right (is_scalar_size scalar.size) (nat_le (scalar.at + scalar.size) (size_in flow scalar.variable) && is_initial_word flow scalar.size scalar.word) behind

  pub word_right : is_initial_word flow scalar.size scalar.word ≡ true
  word_right = and_right (nat_le (scalar.at + scalar.size) (size_in flow scalar.variable)) (is_initial_word flow scalar.size scalar.word) last_two

  pub small : scalar.size ≤ 8
  small = scalar_small scalar.size scalar_is

  abbrev pub s : IsStored flow parts scalar.variable
  s = stored_at flow parts scalar.variable are fixed

  abbrev pub v : IsInitialValue parts scalar.size scalar.word
  v = initial_value_is flow parts scalar.size scalar.word are scalar_is word_right

  pub room : scalar.at + scalar.size ≤ s.object.size
  room = let most = leb-true (scalar.at + scalar.size) (size_in flow scalar.variable) (and_left (nat_le (scalar.at + scalar.size) (size_in flow scalar.variable)) (is_initial_word flow scalar.size scalar.word) last_two) in let same = s.size_is in omega arith

  abbrev pub edge : HasValue
  edge = edge_at scalar.at scalar.size (length parts.values)

  abbrev pub more : Parts
  more = with_value v.value parts

  abbrev pub after : Parts
  after = with_object s.key (written_object s.object edge v.value) more

  pub after_is : with_initial scalar parts ≡ after
  after_is =
      ap (λ (o : Option ℕ). with_scalar o (object_found parts o) scalar (initial_value parts scalar.size scalar.word) parts) s.stored
      ∙ ap (λ (o : Option Object). with_scalar (Some s.key) o scalar (initial_value parts scalar.size scalar.word) parts) s.stands
      ∙ ap (λ (value : Value). with_scalar (Some s.key) (Some s.object) scalar value parts) v.is

  pub more_graph : IsGraph more
  more_graph = graph_with_value v.value parts are.graph v.fit

  after_graph : IsGraph after
  after_graph = graph_written more s.key s.object edge v.value more_graph s.stands s.region s.live room (value_new v.value parts are.graph) v.size_is v.fit.held

  pub may_stand : MayStand parts scalar
  may_stand = record {
    key = s.key;
    stored = s.stored;
    graph = subst (λ (value : Value). IsGraph (with_value value parts)) (sym v.is) more_graph;
    room = record { object = s.object; stands = s.stands; live = s.live; region = s.region; room = room };
  }

  keeps : KeepsObjects parts after
  keeps = keeps_then parts more after (keeps_same parts more refl) (keeps_object more s.key s.object (written_object s.object edge v.value) s.stands refl refl)

  pub named_after : AreNamed flow (with_initial scalar parts)
  named_after = subst (AreNamed flow) (sym after_is) (record {
    graph = after_graph;
    regions = keeps.regions are.regions;
    storages = storages_kept flow parts after are.graph keeps (λ variable. refl) are.storages;
    registers = are.registers;
    ports = are.ports;
    named = are.named;
  })

  -- The state.

  module _ (state : State) (statics : List Owned) (shown : (at : ℕ) → state.variables at ≡ block_of statics at) (given : Assignment) (meets : Meets (maps_of parts) state given) where
    -- the block of a static variable
    pub block_is : (variable : ℕ) (stored : IsStored flow parts variable) (number : ℕ) → given.blocks stored.key ≡ number ∷ [] → block_of statics variable ≡ Some number
    block_is variable stored number blocks =
        sym (shown variable) ∙ by_found (state.variables variable) (meets.variables variable ∙ ap (option_map given.blocks) stored.stored ∙ ap Some blocks)
      where
        by_found : (found : Option ℕ) → option_map (λ (n : ℕ). n ∷ []) found ≡ Some (number ∷ []) → found ≡ Some number
        by_found None same = absurd (none-some _ same)
        by_found (Some other) same = ap (λ (ns : List ℕ). slice_get ns 0) (same_Some _ _ same)

    abbrev word : Word
    word = initial_word statics scalar.word

    region_of : (variable : ℕ) (stored : IsStored flow parts variable) → IsRegionBlock stored.object state given stored.key
    region_of variable stored = region_block parts state given stored.key stored.object meets stored.stands stored.live stored.region

    pub has_word : (w : InitialWord) (valid : is_initial_word flow scalar.size w ≡ true) →
        HasWord (length state.memory) given.blocks (ends_of (maps_of parts).objects given.word) (initial_value_is flow parts scalar.size w are scalar_is valid).value (initial_word statics w)
    unfolding initial_value_is
    has_word (initial.Number number) valid = refl
    has_word (initial.Address variable offset) valid =
        let stored = stored_at flow parts variable are (and_right (nat_eq scalar.size 8) (is_fixed flow variable) valid) in
        let its = region_of variable stored in
        ap (λ (o : Option ℕ). option_map_or (λ block. To block offset) o (Plain 0)) (block_is variable stored its.number its.blocks)
        ∙ sym (ap (λ (ns : List ℕ). block_word (first_of ns) offset) its.blocks)

    below_word : IsState state → (w : InitialWord) → is_initial_word flow scalar.size w ≡ true → IsWordBelow (length state.memory) (initial_word statics w)
    below_word is (initial.Number number) valid =
        let most = (power_scalar scalar.size scalar_is).1 in let less = ltb-true number (256 ^ scalar.size) valid in record { small = omega arith; named = tt }
    below_word is (initial.Address variable offset) valid =
        let stored = stored_at flow parts variable are (and_right (nat_eq scalar.size 8) (is_fixed flow variable) valid) in
        let its = region_of variable stored in
        let there = block_is variable stored its.number its.blocks in
        subst (IsWordBelow (length state.memory)) (sym (ap (λ (o : Option ℕ). option_map_or (λ block. To block offset) o (Plain 0)) there))
        (record { small = tt; named = is.variables variable its.number (shown variable ∙ there) })

    abbrev given' : Assignment
    given' = with_word (length parts.values) word given

    more_meets : Meets (maps_of more) state given'
    more_meets = value_more (length parts.values) v.value (maps_of parts) (maps_of more) (has_one_more v.value parts are.graph v.fit.held) word state given (closed_of parts are.graph.well_formed) (has_word scalar.word word_right) meets

    abbrev r : IsRegionBlock s.object state given' s.key
    r = region_block more state given' s.key s.object more_meets s.stands s.live s.region

    abbrev bytes : List Byte
    bytes = take scalar.size (word_bytes (given'.word (length parts.values)))

    after_meets : Meets (maps_of after) (with_memory (set state.memory r.number (block_with r.block (spliced r.block.bytes scalar.at bytes))) state) given'
    after_meets =
        region_changed more more_graph.well_formed state given' s.key scalar.at scalar.size s.object (edge_for v.value edge) (replicate scalar.size (class_for v.value)) s.stands s.live s.region room r.number r.block bytes more_meets r.blocks r.there r.node
        (low_long scalar.size (given'.word (length parts.values)) small)
        (low_has (length state.memory) given'.blocks (ends_of (maps_of more).objects given'.word) scalar.size v.value (given'.word (length parts.values)) small (more_meets.values (length parts.values) v.value (value_new v.value parts are.graph)))
        (written_holds r.block.bytes edge v.value given'.word small (let e = r.node.size in let most = room in omega arith))

    memory_is : runs.with_initial statics scalar state.memory ≡ set state.memory r.number (block_with r.block (spliced r.block.bytes scalar.at bytes))
    memory_is =
        ap (λ (o : Option ℕ). option_map_or (λ block. stored state.memory (To block (pos scalar.at)) scalar.size word) o state.memory) (block_is scalar.variable s r.number r.blocks)
        ∙ ap (λ (w : Word). stored state.memory (To r.number (pos scalar.at)) scalar.size w) (sym (word-here (length parts.values) word given))
        ∙ stored_is state.memory r.number scalar.at scalar.size (given'.word (length parts.values)) r.block r.there

    pub initial_stands : StandsFor (with_initial scalar parts) (with_memory (runs.with_initial statics scalar state.memory) state)
    initial_stands =
        subst (λ (p : Parts). StandsFor p (with_memory (runs.with_initial statics scalar state.memory) state)) (sym after_is)
        (subst (λ (m : List Block). StandsFor after (with_memory m state)) (sym memory_is) (record { given = given'; meets = after_meets }))

    -- it is one
    pub initial_state : IsState state → IsState (with_memory (runs.with_initial statics scalar state.memory) state)
    initial_state is = subst (λ (m : List Block). IsState (with_memory m state)) (sym memory_is) (record {
      memory = IsMemory-written state.memory r.number scalar.at r.block bytes is.memory inside found fits names;
      bytes = All-set (λ (block : Block). All IsByte block.bytes) state.memory r.number (block_with r.block (spliced r.block.bytes scalar.at bytes))
          (All-append IsByte (take scalar.at r.block.bytes) (bytes ++ drop (scalar.at + length bytes) r.block.bytes) (All-take IsByte scalar.at r.block.bytes old)
          (All-append IsByte bytes (drop (scalar.at + length bytes) r.block.bytes) (All-take IsByte scalar.size (word_bytes (given'.word (length parts.values))) (word_small (length state.memory) (given'.word (length parts.values)) below))
          (All-drop IsByte (scalar.at + length bytes) r.block.bytes old)))
          is.bytes;
      variables = λ at number stands. subst (λ (n : ℕ). number < n) (sym long) (is.variables at number stands);
      registers = λ register held stands. subst (λ (n : ℕ). IsWordBelow n held) (sym long) (is.registers register held stands);
      ports = subst (λ (n : ℕ). All (IsWordBelow n) state.ports) (sym long) is.ports;
      roots = is.roots;
    })
      where
        inside : r.number < length state.memory
        inside = slice_get_within state.memory r.number r.block r.there

        found : r.block ≡ get_or state.memory r.number r.block
        found = sym (get_or_from_slice_get state.memory r.number r.block r.block r.there)

        below : IsWordBelow (length state.memory) (given'.word (length parts.values))
        below = subst (IsWordBelow (length state.memory)) (sym (word-here (length parts.values) word given)) (below_word is scalar.word word_right)

        names : All (NamesBelow (length state.memory)) bytes
        names = names_of_word (length state.memory) scalar.size (given'.word (length parts.values)) below.named

        fits : scalar.at + length bytes ≤ length r.block.bytes
        fits = let long = low_long scalar.size (given'.word (length parts.values)) small in let e = r.node.size in let most = room in omega arith

        old : All IsByte r.block.bytes
        old = All-at (λ (block : Block). All IsByte block.bytes) state.memory r.number r.block r.there is.bytes

        long : length (set state.memory r.number (block_with r.block (spliced r.block.bytes scalar.at bytes))) ≡ length state.memory
        long = length-set state.memory r.number (block_with r.block (spliced r.block.bytes scalar.at bytes))
