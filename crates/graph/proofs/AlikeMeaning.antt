-- A well-formed graph stands for one of two alike states where it stands for the other.
--
-- A dead block that nothing names may be missing in the other state. An object that is dead then has a number that no block
-- has, and the word of a value that stands nowhere is another.
use Rattle.std.proofs.Common.{◌≡◌, ℕ, zero, suc, ◌+◌, ◌-◌, ◌<◌, List, [], ◌∷◌, map, length, take, drop, Bool, true, false, refl, sym, ap, subst, ◌∙◌, ◌⊎◌, inl, inr, Option, None, Some, arith}
use Rattle.std.specs.Prelude.{◌&&◌, ◌||◌, not, if◌then◌else◌, nat_eq, nat_lt, option_map, slice_get, Contains, All, ◌↔◌, ℤ, pos}
use Rattle.std.specs.List.{list_all}
use Rattle.std.specs.Option.{option_map_or}
use Rattle.std.proofs.lemmas.Bool.{cases_Bool, lt-ltb, le-ltb, false≢true, and_parts, or_cases, both_ways}
use Rattle.std.proofs.lemmas.Option.{slice_get_within, slice_get_past}
use Rattle.std.proofs.lemmas.List.Elements.{All-head, All-tail, All-take, All-drop, All-same, All-contains}
use Rattle.bytes_core.specs.declared.byte.Byte.{Byte}
use Rattle.bytes_core.specs.declared.byte.Byte.TheVariants.{Part}
use Rattle.bytes_core.specs.declared.word.Word.{Word}
use Rattle.bytes_core.specs.declared.word.Word.TheVariants.{Plain, To}
use Rattle.bytes_core.specs.declared.block.BlockKind.{BlockKind}
use Rattle.bytes_core.specs.declared.block.Block.{Block}
use Rattle.bytes_core.specs.Value.{word_bytes}
use Rattle.graph.specs.declared.edges.HasValue.{HasValue}
use Rattle.graph.specs.declared.object.Object.{Object}
use Rattle.graph.specs.declared.object.Shape.{Shape}
use Rattle.graph.specs.declared.object.Shape.TheVariants.{Region as RegionShape, Segment}
use Rattle.graph.specs.declared.object.Links.{Links}
use Rattle.graph.specs.declared.template.Node.{Node}
use Rattle.graph.specs.declared.parts.KeyedObject.{KeyedObject}
use Rattle.graph.specs.declared.value.Value.{Value}
use Rattle.graph.specs.declared.value.Value.TheVariants.{Const, Number, Any, Address}
use Rattle.graph.specs.declared.parts.Pair.{Pair}
use Rattle.graph.specs.declared.parts.Parts.{Parts}
use Rattle.graph.specs.Maps.{object_at, value_at}
use Rattle.graph.specs.Sizes.{is_number, is_constant}
use Rattle.graph.specs.Nodes.{links_in, back_edges, link_edges}
use Rattle.graph.specs.Closed.{OnEnds}
use Rattle.graph.specs.WellFormed.{IsWellFormed, passes_at, is_outward, is_null, back_fits, are_numbers, may_be_unequal, is_unequal_pair}
use Rattle.graph.specs.State.{State, IsWordBelow}
use Rattle.graph.specs.Meaning.{IsGone, HoldsWord, HoldEdges, AreNodes, end_word, own_word, word_at, HasShape, HasBlocksAs, Ends, ends_in, ends_of, no_ends, address_word, HasWord, own_offset, IsRooted, Maps, maps_of, Assignment, Meets, StandsFor}
use Rattle.graph.proofs.Found.{found-all}
use Rattle.graph.proofs.Closed.{passes-at}
use Rattle.graph.specs.Alike.{renumbered_word, Shows, IsLiveAt}
use Rattle.graph.specs.AlikeMemories.{NamesAmong, WordNamesAmong, AreLiveAlike, AreDeadAlike, ArePaired, AreAlike}
use Rattle.graph.specs.AlikeStates.{StateNamesAmong, AreAlikeStates}
use Rattle.graph.proofs.Alike.{IsSeenBut, Meets-seen}
use Rattle.graph.proofs.AlikeBlocks.{bytes_agree, word_agrees}
use Rattle.graph.proofs.AlikeReads.{live_there}
use Rattle.graph.proofs.AlikeTurned.{turned, contains_map}
use Rattle.graph.proofs.AlikeStates.{states_turned}

-- two maps that agree where something stands
option_agree : {X Y : Type 0} (f g : X → Y) (found : Option X) → ((item : X) → found ≡ Some item → f item ≡ g item) → option_map f found ≡ option_map g found
option_agree f g None agree = refl
option_agree f g (Some item) agree = ap Some (agree item refl)

map_agree : {X Y : Type 0} (P : X → Type 0) (f g : X → Y) → ((item : X) → P item → f item ≡ g item) → (items : List X) → All P items → map f items ≡ map g items
map_agree P f g agree [] all = refl
map_agree {X} {Y} P f g agree (item ∷ rest) all =
    ap (λ (first : Y). first ∷ map f rest) (agree item (All-head P item rest all)) ∙ ap (λ (more : List Y). g item ∷ more) (map_agree P f g agree rest (All-tail P item rest all))

-- The words of values that stand nowhere.

-- the word of a value, which leads to no block outside a set if the value may be any word
abbrev chosen : (ℕ → Bool) → Option Value → Word → Word
chosen set None word = word
chosen set (Some (Const number size)) word = word
chosen set (Some (Number size)) word = word
chosen set (Some Any) (Plain number) = Plain number
chosen set (Some Any) (To block offset) = if set block then To block offset else Plain 0
chosen set (Some (Address object offset target)) word = word

chosen_same : (set : ℕ → Bool) (value : Option Value) (word : Word) → WordNamesAmong set word → chosen set value word ≡ word
chosen_same set None word names = refl
chosen_same set (Some (Const number size)) word names = refl
chosen_same set (Some (Number size)) word names = refl
chosen_same set (Some Any) (Plain number) names = refl
chosen_same set (Some Any) (To block offset) names = ap (λ (test : Bool). if test then To block offset else Plain 0) names
chosen_same set (Some (Address object offset target)) word names = refl

below_chosen : (count : ℕ) (block : ℕ) (offset : ℤ) (test : Bool) → IsWordBelow count (To block offset) → IsWordBelow count (if test then To block offset else Plain 0)
below_chosen count block offset true below = below
below_chosen count block offset false below = record { small = omega arith; named = tt }

chosen_has : (set : ℕ → Bool) (count : ℕ) (blocks : ℕ → List ℕ) (ends : ℕ → Ends) (value : Value) (word : Word) → HasWord count blocks ends value word → HasWord count blocks ends value (chosen set (Some value) word)
chosen_has set count blocks ends (Const number size) word has = has
chosen_has set count blocks ends (Number size) word has = has
chosen_has set count blocks ends Any (Plain number) has = has
chosen_has set count blocks ends Any (To block offset) has = below_chosen count block offset (set block) has
chosen_has set count blocks ends (Address object offset target) word has = has

-- an address and a constant are as they were
outward_chosen : (set : ℕ → Bool) (value : Value) (word : Word) → is_outward value ≡ true → chosen set (Some value) word ≡ word
outward_chosen set (Const number size) word outward = refl
outward_chosen set (Number size) word outward = refl
outward_chosen set Any word outward = absurd (false≢true outward)
outward_chosen set (Address object offset target) word outward = refl

null_chosen : (set : ℕ → Bool) (value : Value) (word : Word) → is_null value ≡ true → chosen set (Some value) word ≡ word
null_chosen set (Const number size) word null = refl
null_chosen set (Number size) word null = refl
null_chosen set Any word null = absurd (false≢true null)
null_chosen set (Address object offset target) word null = refl

-- what an address leads to is rooted as it was
rooted_chosen : (set : ℕ → Bool) (roots : List ℕ) (found : Option Value) (word : Word) → IsRooted roots found word → IsRooted roots found (chosen set found word)
rooted_chosen set roots None word rooted = tt
rooted_chosen set roots (Some (Const number size)) word rooted = tt
rooted_chosen set roots (Some (Number size)) word rooted = tt
rooted_chosen set roots (Some Any) word rooted = tt
rooted_chosen set roots (Some (Address object offset target)) word rooted = rooted

-- a number is as it was
number_chosen : (set : ℕ → Bool) (value : Value) (size : ℕ) (word : Word) → is_number value size ≡ true → chosen set (Some value) word ≡ word
number_chosen set (Const number size') size word is = refl
number_chosen set (Number size') size word is = refl
number_chosen set Any size word is = absurd (false≢true is)
number_chosen set (Address object offset target) size word is = refl

-- the bytes of an edge are those of the word, also of the one that is chosen
holds_chosen : (set : ℕ → Bool) (bytes : List Byte) (edge : HasValue) (value : Option Value) (word : Word) → All (NamesAmong set) bytes →
    HoldsWord bytes edge word → HoldsWord bytes edge (chosen set value word)
holds_chosen set bytes edge None word names holds = holds
holds_chosen set bytes edge (Some (Const number size)) word names holds = holds
holds_chosen set bytes edge (Some (Number size)) word names holds = holds
holds_chosen set bytes edge (Some Any) (Plain number) names holds = holds
holds_chosen set bytes edge (Some Any) (To block offset) names holds = by_test (set block) refl
  where
    by_size : (size : ℕ) → set block ≡ false → take size (drop edge.at bytes) ≡ take size (word_bytes (To block offset)) → take size (drop edge.at bytes) ≡ take size (word_bytes (Plain 0))
    by_size zero outside is = refl
    by_size (suc size) outside is =
        let rest : List Byte = map (Part block offset) (1 ∷ 2 ∷ 3 ∷ 4 ∷ 5 ∷ 6 ∷ 7 ∷ []) in
        let all : All (NamesAmong set) (Part block offset 0 ∷ take size rest) =
        All-same (NamesAmong set) (Part block offset 0 ∷ take size rest) (take (suc size) (drop edge.at bytes)) (sym is)
        (All-take (NamesAmong set) (suc size) (drop edge.at bytes) (All-drop (NamesAmong set) edge.at bytes names)) in
        absurd (both_ways (set block) outside (All-head (NamesAmong set) (Part block offset 0) (take size rest) all))

    by_test : (test : Bool) → set block ≡ test → HoldsWord bytes edge (if test then To block offset else Plain 0)
    by_test true inside = holds
    by_test false outside = by_size edge.size outside holds
holds_chosen set bytes edge (Some (Address object offset target)) word names holds = holds

-- so it is at a node, for which a value may be its own address
node_chosen : (set : ℕ → Bool) (bytes : List Byte) (edge : HasValue) (value : Option Value) (word : Word) (number : ℕ) → All (NamesAmong set) bytes →
    HoldsWord bytes edge (own_word (own_offset value) word number) → HoldsWord bytes edge (own_word (own_offset value) (chosen set value word) number)
node_chosen set bytes edge None word number names holds = holds
node_chosen set bytes edge (Some (Const number' size)) word number names holds = holds
node_chosen set bytes edge (Some (Number size)) word number names holds = holds
node_chosen set bytes edge (Some Any) word number names holds = holds_chosen set bytes edge (Some Any) word names holds
node_chosen set bytes edge (Some (Address object offset target)) word number names holds = holds

module _ (there back : ℕ → ℕ) (paired : ℕ → Bool) (one other : State) (are : AreAlikeStates there back paired one other) where
  abbrev memories : AreAlike there back paired one.memory other.memory
  memories = are.memories

  abbrev named : StateNamesAmong paired one
  named = are.named

  -- the numbers in the other state; what is not paired gets one that outside block has
  abbrev far : ℕ → ℕ
  far number = if paired number then there number else length other.memory + number

  abbrev near : ℕ → ℕ
  near number = if nat_lt number (length other.memory) then back number else number - length other.memory

  far-paired : (number : ℕ) → paired number ≡ true → far number ≡ there number
  far-paired number inside = ap (λ (test : Bool). if test then there number else length other.memory + number) inside

  far-else : (number : ℕ) → paired number ≡ false → far number ≡ length other.memory + number
  far-else number outside = ap (λ (test : Bool). if test then there number else length other.memory + number) outside

  near-below : (number : ℕ) → number < length other.memory → near number ≡ back number
  near-below number below = ap (λ (test : Bool). if test then back number else number - length other.memory) (lt-ltb number (length other.memory) below)

  near-past : (number : ℕ) → near (length other.memory + number) ≡ number
  near-past number =
      ap (λ (test : Bool). if test then back (length other.memory + number) else length other.memory + number - length other.memory)
      (le-ltb (length other.memory + number) (length other.memory) (omega arith))
      ∙ omega arith

  stands_there : (number : ℕ) → paired number ≡ true → there number < length other.memory
  stands_there number inside = let pair = memories.pairs number inside in slice_get_within other.memory (there number) pair.block' pair.stands'

  far-same : (number : ℕ) → near (far number) ≡ number
  far-same number = by_test (cases_Bool (paired number))
    where
      by_test : (paired number ≡ true) ⊎ (paired number ≡ false) → near (far number) ≡ number
      by_test (inl inside) = ap near (far-paired number inside) ∙ near-below (there number) (stands_there number inside) ∙ memories.same number
      by_test (inr outside) = ap near (far-else number outside) ∙ near-past number

  seen_live : (number : ℕ) (block : Block) → slice_get one.memory number ≡ Some block → block.live ≡ true → Shows far block other.memory (far number)
  seen_live number block stands live =
      let found = live_there there back paired one.memory other.memory memories number block stands live in
      let alike = found.2 in
      let looks = alike.looks in
      record {
        block = found.0;
        stands = ap (slice_get other.memory) (far-paired number found.3) ∙ found.1;
        looks = record {
          live = looks.live;
          kind = looks.kind;
          bytes = looks.bytes ∙ sym (bytes_agree paired there far far-paired block.bytes (memories.held number block stands live));
        };
      }

  seen_was_live : (number : ℕ) (block : Block) → slice_get other.memory number ≡ Some block → block.live ≡ true → IsLiveAt one.memory (near number) × (far (near number) ≡ number)
  seen_was_live number block stands live =
      let found = live_there back there (λ place. paired (back place)) other.memory one.memory (turned there back paired one.memory other.memory memories) number block stands live in
      let alike = found.2 in
      let looks = alike.looks in
      let here : near number ≡ back number = near-below number (slice_get_within other.memory number block stands) in (
        record { block = found.0; stands = ap (slice_get one.memory) here ∙ found.1; live = looks.live },
        ap far here ∙ far-paired (back number) found.3 ∙ memories.again number,
      )

  seen_gone : (number : ℕ) (kind : BlockKind) → IsGone kind (slice_get one.memory number) → IsGone kind (slice_get other.memory (far number))
  seen_gone number kind gone = by_test (cases_Bool (paired number))
    where
      by_pair : (pair : ArePaired there (slice_get one.memory number) (slice_get other.memory (there number))) →
          AreLiveAlike there pair.block pair.block' ⊎ AreDeadAlike pair.block pair.block' → IsGone kind (slice_get other.memory (there number))
      by_pair pair (inl alike) = let dead = subst (IsGone kind) pair.stands gone in absurd (false≢true (sym dead.0 ∙ alike.live))
      by_pair pair (inr alike) = let dead = subst (IsGone kind) pair.stands gone in subst (IsGone kind) (sym pair.stands') (alike.dead', alike.kind ∙ dead.1)

      by_test : (paired number ≡ true) ⊎ (paired number ≡ false) → IsGone kind (slice_get other.memory (far number))
      by_test (inl inside) =
          let pair = memories.pairs number inside in
          subst (λ (place : ℕ). IsGone kind (slice_get other.memory place)) (sym (far-paired number inside)) (by_pair pair pair.alike)
      by_test (inr outside) =
          subst (IsGone kind) (sym (ap (slice_get other.memory) (far-else number outside) ∙ slice_get_past other.memory (length other.memory + number) (omega arith))) tt

  -- nothing that a graph sees differs
  seen : IsSeenBut far near one other
  seen = record {
    same = far-same;
    live = seen_live;
    was_live = seen_was_live;
    gone = seen_gone;
    variables = λ variable. are.variables variable
        ∙ option_agree there far (one.variables variable) (λ number stands. sym (far-paired number (named.variables variable number stands)));
    registers = λ register. are.registers register
        ∙ option_agree (renumbered_word there) (renumbered_word far) (one.registers register)
        (λ word stands. sym (word_agrees paired there far far-paired word (named.registers register word stands)));
    ports = are.ports
        ∙ map_agree (WordNamesAmong paired) (renumbered_word there) (renumbered_word far) (λ word names. sym (word_agrees paired there far far-paired word names)) one.ports named.ports;
    roots = λ root contains.
        let inside : paired root ≡ true = All-contains (λ root. paired root ≡ true) one.roots root named.roots contains in
        subst (λ (roots : List ℕ). Contains roots (far root)) (sym are.roots)
        (subst (Contains (map there one.roots)) (sym (far-paired root inside)) (contains_map there one.roots root contains));
  }

  below_far : (word : Word) → IsWordBelow (length one.memory) word → IsWordBelow (length other.memory) (renumbered_word far (chosen paired (Some Any) word))
  below_far (Plain number) below = record { small = below.small; named = tt }
  below_far (To block offset) below = by_test (paired block) refl
    where
      by_test : (test : Bool) → paired block ≡ test → IsWordBelow (length other.memory) (renumbered_word far (if test then To block offset else Plain 0))
      by_test true inside = record { small = tt; named = subst (λ (number : ℕ). number < length other.memory) (sym (far-paired block inside)) (stands_there block inside) }
      by_test false outside = record { small = omega arith; named = tt }

  module _ (parts : Parts) (well : IsWellFormed parts) (given : Assignment) (meets : Meets (maps_of parts) one given) where
    abbrev word' : ℕ → Word
    word' key = chosen paired (value_at parts.values key) (given.word key)

    abbrev own : ℕ → Option ℤ
    own key = own_offset (value_at parts.values key)

    edges_chosen : (bytes : List Byte) → All (NamesAmong paired) bytes → (edges : List HasValue) → HoldEdges bytes given.word edges → HoldEdges bytes word' edges
    edges_chosen bytes names [] hold = tt
    edges_chosen bytes names (edge ∷ rest) hold =
        (holds_chosen paired bytes edge (value_at parts.values edge.value) (given.word edge.value) names hold.0, edges_chosen bytes names rest hold.1)

    at_nodes_chosen : (bytes : List Byte) (number : ℕ) → All (NamesAmong paired) bytes → (edges : List HasValue) → HoldEdges bytes (word_at given.word own number) edges → HoldEdges bytes (word_at word' own number) edges
    at_nodes_chosen bytes number names [] hold = tt
    at_nodes_chosen bytes number names (edge ∷ rest) hold =
        (node_chosen paired bytes edge (value_at parts.values edge.value) (given.word edge.value) number names hold.0, at_nodes_chosen bytes number names rest hold.1)

    -- words beyond a segment are as they were
    passes_chosen : (test : Value → Bool) → ((value : Value) (word : Word) → test value ≡ true → chosen paired (Some value) word ≡ word) → (key : ℕ) (found : Option Value) → value_at parts.values key ≡ found → option_map_or test found false ≡ true →
        word' key ≡ given.word key
    passes_chosen test same key None is passes = absurd (false≢true passes)
    passes_chosen test same key (Some value) is passes = ap (λ (o : Option Value). chosen paired o (given.word key)) is ∙ same value (given.word key) passes

    prev_chosen : (twofold : Bool) (size head next prev back least next_value prev_value : ℕ) →
        list_all (λ (link : HasValue). passes_at parts is_outward link.value) (back_edges twofold prev prev_value) ≡ true →
        back_fits parts size (Some (record { twofold = twofold; head = head; next = next; prev = prev; back = back; least = least; next_value = next_value; prev_value = prev_value })) ≡ true → word' prev_value ≡ given.word prev_value
    prev_chosen true size head next prev back least next_value prev_value links fits =
        passes_chosen is_outward (outward_chosen paired) prev_value (value_at parts.values prev_value) refl (and_parts (passes_at parts is_outward prev_value) true links).0
    prev_chosen false size head next prev back least next_value prev_value links fits =
        passes_chosen is_null (null_chosen paired) prev_value (value_at parts.values prev_value) refl
        (and_parts (nat_eq back 0) (passes_at parts is_null prev_value) (and_parts (nat_eq prev 0) (nat_eq back 0 && passes_at parts is_null prev_value) fits).1).1

    abbrev AreKept : Shape → Type 0
    AreKept shape = OnEnds (λ key. word' key ≡ given.word key) shape

    ends_chosen : (shape : Shape) (size : ℕ) → list_all (λ (link : HasValue). passes_at parts is_outward link.value) (link_edges shape) ≡ true → back_fits parts size (links_in shape) ≡ true → AreKept shape
    ends_chosen RegionShape size links fits = tt
    ends_chosen (Segment twofold head next prev back least next_value prev_value node) size links fits =
        let both = and_parts (passes_at parts is_outward next_value) (list_all (λ (link : HasValue). passes_at parts is_outward link.value) (back_edges twofold prev prev_value)) links in
        (passes_chosen is_outward (outward_chosen paired) next_value (value_at parts.values next_value) refl both.0, prev_chosen twofold size head next prev back least next_value prev_value both.1 fits)

    ends_kept : (key : ℕ) (object : Object) → object_at parts.objects key ≡ Some object → AreKept object.shape
    ends_kept key object stands =
        ends_chosen object.shape object.size
        (found-all (λ (entry : KeyedObject). entry.key) (λ entry. entry.object) (λ object. list_all (λ (link : HasValue). passes_at parts is_outward link.value) (link_edges object.shape)) parts.objects key object well.links_lead_on stands)
        (found-all (λ (entry : KeyedObject). entry.key) (λ entry. entry.object) (λ object. back_fits parts object.size (links_in object.shape)) parts.objects key object well.links_back_fit stands)

    ends_same : (shape : Shape) → AreKept shape → ends_in shape given.word ≡ ends_in shape word'
    ends_same RegionShape kept = refl
    ends_same (Segment twofold head next prev back least next_value prev_value node) kept =
        ap (λ (after : Word). record { head = head; back = back; after = after; before = given.word prev_value }) (sym kept.0)
        ∙ ap (λ (before : Word). record { head = head; back = back; after = word' next_value; before = before }) (sym kept.1)

    ends_at : (key : ℕ) → ends_of (object_at parts.objects) given.word key ≡ ends_of (object_at parts.objects) word' key
    ends_at key = by_found (object_at parts.objects key) refl
      where
        by_found : (found : Option Object) → object_at parts.objects key ≡ found → option_map_or (λ object. ends_in object.shape given.word) found no_ends ≡ option_map_or (λ object. ends_in object.shape word') found no_ends
        by_found None stands = refl
        by_found (Some object) stands = ends_same object.shape (ends_kept key object stands)

    has_ends : (value : Value) (word : Word) → HasWord (length one.memory) given.blocks (ends_of (object_at parts.objects) given.word) value word → HasWord (length one.memory) given.blocks (ends_of (object_at parts.objects) word') value word
    has_ends (Const number size) word has = has
    has_ends (Number size) word has = has
    has_ends Any word has = has
    has_ends (Address object offset target) word has = has ∙ ap (λ (ends : Ends). address_word target (given.blocks object) ends offset) (ends_at object)

    nodes_chosen : (object : Object) (links : Links) (node : Node) (after before : Word) (blocks : List ℕ) → AreNodes one.memory object links node given.word own after before blocks → AreNodes one.memory object links node word' own after before blocks
    nodes_chosen object links node after before [] are = tt
    nodes_chosen object links node after before (number ∷ rest) (is, others) = (
      record {
        block = is.block;
        there = is.there;
        node = record {
          live = is.node.live;
          kind = is.node.kind;
          size = is.node.size;
          edges = at_nodes_chosen is.block.bytes number (memories.held number is.block is.there is.node.live) node.edges is.node.edges;
          classes = is.node.classes;
        };
        next = is.next;
        prev = is.prev;
      },
      nodes_chosen object links node after (To number (pos links.back)) rest others,
    )

    shape_chosen : (shape : Shape) (object : Object) (blocks : List ℕ) → AreKept shape → HasShape shape one.memory object given.word own blocks → HasShape shape one.memory object word' own blocks
    shape_chosen RegionShape object blocks kept (number, is, at) =
        let node = at.node in (
          number,
          is,
          record {
            block = at.block;
            there = at.there;
            node = record {
              live = node.live;
              kind = node.kind;
              size = node.size;
              edges = edges_chosen at.block.bytes (memories.held number at.block at.there node.live) object.edges node.edges;
              classes = node.classes;
            };
          },
        )
    shape_chosen (Segment twofold head next prev back least next_value prev_value node) object blocks kept (enough, are) =
        let links : Links = record { twofold = twofold; head = head; next = next; prev = prev; back = back; least = least; next_value = next_value; prev_value = prev_value } in (
          enough,
          subst (λ (after : Word). AreNodes one.memory object links node word' own after (end_word None (word' prev_value) back (pos back)) blocks) (sym kept.0)
              (subst (λ (before : Word). AreNodes one.memory object links node word' own (given.word next_value) (end_word None before back (pos back)) blocks) (sym kept.1)
              (nodes_chosen object links node (given.word next_value) (end_word None (given.word prev_value) back (pos back)) blocks are)),
        )

    blocks_chosen : (live : Bool) (object : Object) (blocks : List ℕ) → AreKept object.shape → HasBlocksAs live one.memory object given.word own blocks → HasBlocksAs live one.memory object word' own blocks
    blocks_chosen true object blocks kept has = shape_chosen object.shape object blocks kept has
    blocks_chosen false object blocks kept has = has

    passes_some : (test : Value → Bool) (found : Option Value) → option_map_or test found false ≡ true → (value : Value) × (found ≡ Some value) × (test value ≡ true)
    passes_some test None passes = absurd (false≢true passes)
    passes_some test (Some value) passes = (value, refl, passes)

    -- both values of a pair are numbers
    are_numbers_of : (left right : Value) → may_be_unequal left right ≡ true → (size : ℕ) × (is_number left size ≡ true) × (is_number right size ≡ true)
    are_numbers_of left right may = by_size (or_cases (are_numbers left right 4) (are_numbers left right 8)
        (and_parts (are_numbers left right 4 || are_numbers left right 8) (not (is_constant left && is_constant right)) may).0)
      where
        by_size : (are_numbers left right 4 ≡ true) ⊎ (are_numbers left right 8 ≡ true) → (size : ℕ) × (is_number left size ≡ true) × (is_number right size ≡ true)
        by_size (inl are) = let both = and_parts (is_number left 4) (is_number right 4) are in (4, both.0, both.1)
        by_size (inr are) = let both = and_parts (is_number left 8) (is_number right 8) are in (8, both.0, both.1)

    word_of : (key : ℕ) (value : Value) (size : ℕ) → value_at parts.values key ≡ Some value → is_number value size ≡ true → word' key ≡ given.word key
    word_of key value size is number =
        ap (λ (found : Option Value). chosen paired found (given.word key)) is ∙ number_chosen paired value size (given.word key) number

    pair_chosen : (pair : Pair) → is_unequal_pair parts pair ≡ true → (word' pair.left ≡ given.word pair.left) × (word' pair.right ≡ given.word pair.right)
    pair_chosen pair is =
        let left = passes_some (λ one. passes_at parts (may_be_unequal one) pair.right) (value_at parts.values pair.left)
        (and_parts (not (nat_eq pair.left pair.right)) (passes_at parts (λ one. passes_at parts (may_be_unequal one) pair.right) pair.left) is).1 in
        let right = passes_some (may_be_unequal left.0) (value_at parts.values pair.right) left.2 in
        let numbers = are_numbers_of left.0 right.0 right.2 in
        (word_of pair.left left.0 numbers.0 left.1 numbers.1, word_of pair.right right.0 numbers.0 right.1 numbers.2)

    ports_chosen : (ports : List ℕ) → All (WordNamesAmong paired) (map given.word ports) → map given.word ports ≡ map word' ports
    ports_chosen [] all = refl
    ports_chosen (port ∷ rest) all =
        ap (λ (word : Word). word ∷ map given.word rest)
        (sym (chosen_same paired (value_at parts.values port) (given.word port) (All-head (WordNamesAmong paired) (given.word port) (map given.word rest) all)))
        ∙ ap (λ (more : List Word). word' port ∷ more) (ports_chosen rest (All-tail (WordNamesAmong paired) (given.word port) (map given.word rest) all))

    -- the same graph, with words that stand somewhere
    abbrev given' : Assignment
    given' = record { word = word'; blocks = given.blocks; owner = given.owner; place = given.place }

    meets' : Meets (maps_of parts) one given'
    meets' = record {
      values = λ key value is. subst (λ (found : Option Value). HasWord (length one.memory) given.blocks (ends_of (object_at parts.objects) word') value (chosen paired found (given.word key))) (sym is)
          (chosen_has paired (length one.memory) given.blocks (ends_of (object_at parts.objects) word') value (given.word key) (has_ends value (given.word key) (meets.values key value is)));
      objects = λ key object is. blocks_chosen object.live object (given.blocks key) (ends_kept key object is) (meets.objects key object is);
      owners = meets.owners;
      places = meets.places;
      used = λ number block stands live. let owned = meets.used number block stands live in record { object = owned.object; block = owned.block };
      variables = meets.variables;
      registers = λ register. let maps : Maps = maps_of parts in
          meets.registers register
          ∙ option_agree given.word word' (maps.registers register)
          (λ key holds. sym (chosen_same paired (value_at parts.values key) (given.word key)
          (named.registers register (given.word key) (meets.registers register ∙ ap (option_map given.word) holds))));
      ports = meets.ports ∙ ports_chosen parts.ports (All-same (WordNamesAmong paired) (map given.word parts.ports) one.ports (sym meets.ports) named.ports);
      rooted = λ place port is. rooted_chosen paired one.roots (value_at parts.values port) (given.word port) (meets.rooted place port is);
      unequal = λ place pair is equal.
          let words = pair_chosen pair (passes-at (is_unequal_pair parts) parts.unequal place pair is well.pairs_may_be_unequal) in
          meets.unequal place pair is (sym words.0 ∙ equal ∙ words.1);
    }

    pub stands_for_other : StandsFor parts other
    stands_for_other = Meets-seen far near one other seen (maps_of parts) given' meets' (λ key any.
        subst (λ (found : Option Value). IsWordBelow (length other.memory) (renumbered_word far (chosen paired found (given.word key)))) (sym any)
        (below_far (given.word key) (meets.values key Any any)))

stands_for_alike : (there back : ℕ → ℕ) (paired : ℕ → Bool) (parts : Parts) (one other : State) → IsWellFormed parts → AreAlikeStates there back paired one other →
    StandsFor parts one → StandsFor parts other
stands_for_alike there back paired parts one other well are stands =
    stands_for_other there back paired one other are parts well stands.given stands.meets

-- a graph stands for both or for neither
pub alike_states_meant : (there back : ℕ → ℕ) (paired : ℕ → Bool) (parts : Parts) (one other : State) → IsWellFormed parts → AreAlikeStates there back paired one other →
    (StandsFor parts one ↔ StandsFor parts other)
alike_states_meant there back paired parts one other well are = (
  stands_for_alike there back paired parts one other well are,
  stands_for_alike back there (λ number. paired (back number)) parts other one well (states_turned there back paired one other are),
)
