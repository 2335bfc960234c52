-- A node of one of two neighbours is a node of the folded segment.
use Rattle.std.proofs.Common.{◌≡◌, ℕ, suc, ◌+◌, ◌≤◌, Bool, true, false, ◌&&◌, not, List, [], ◌∷◌, length, take, drop, nat_eq, nat_le, ℤ, pos, Option, None, Some, refl, sym, ◌∙◌, ap, subst, eqb-true, leb-true, arith, ◌⊎◌, inl, inr}
use Rattle.std.specs.Prelude.{slice_get, IsSome, ◌-ℤ◌, if◌then◌else◌}
use Rattle.std.specs.List.{list_all}
use Rattle.std.proofs.lemmas.Bool.{false≢true}
use Rattle.std.proofs.lemmas.Option.{same_Some, none-some}
use Rattle.bytes_core.specs.declared.block.Block.{Block}
use Rattle.bytes_core.specs.declared.block.BlockKind.{BlockKind}
use Rattle.bytes_core.specs.declared.block.BlockKind.TheVariants.{Static, Local, Heap}
use Rattle.bytes_core.specs.declared.byte.Byte.{Byte}
use Rattle.bytes_core.specs.declared.word.Word.{Word}
use Rattle.bytes_core.specs.declared.word.Word.TheVariants.{To}
use Rattle.bytes_core.specs.Release.{is_heap}
use Rattle.bytes_core.specs.Value.{word_bytes, moved}
use Rattle.fold.specs.declared.fold.Fold.{Fold}
use Rattle.fold.specs.declared.fold.Standing.{Standing}
use Rattle.fold.specs.declared.fold.Standing.TheVariants.{Same, Own}
use Rattle.graph.specs.declared.edges.HasValue.{HasValue}
use Rattle.graph.specs.declared.object.Links.{Links}
use Rattle.graph.specs.declared.object.Object.{Object}
use Rattle.graph.specs.declared.object.Shape.{Shape}
use Rattle.graph.specs.declared.object.Shape.TheVariants.{Region as RegionShape}
use Rattle.graph.specs.declared.template.Node.{Node}
use Rattle.graph.specs.declared.value.Target.{Target}
use Rattle.graph.specs.declared.value.Target.TheVariants.{Region, Each}
use Rattle.graph.specs.declared.value.Value.{Value}
use Rattle.graph.specs.declared.value.Value.TheVariants.{Address}
use Rattle.graph.specs.declared.parts.Parts.{Parts}
use Rattle.graph.specs.Closed.{OnEdges, OnNamed}
use Rattle.graph.specs.Maps.{object_at, value_at}
use Rattle.graph.specs.Nodes.{node_of, node_in, own_node}
use Rattle.graph.specs.State.{State}
use Rattle.graph.specs.WellFormed.{target_fits}
use Rattle.graph.specs.Whole.{IsGraph}
use Rattle.graph.specs.Meaning.{address_word, HoldsWord, HoldEdges, HoldsAt, HoldsBack, IsNode, first_of, end_word, own_word, word_at, AreNodes, own_offset, maps_of, Assignment, Meets}
use Rattle.graph.proofs.Found.{IsSome-holds}
use Rattle.graph.proofs.Tests.{and_left, and_right}
use Rattle.materialise.specs.WithOne.{HaveOffsets}
use Rattle.fold.specs.Folded.{stands_in, joined_node, own_addresses, least_of}
use Rattle.fold.specs.Linked.{key_in, are_zeros, or_null, link_in, onward, onward_in, backward, backward_in, has_places}
use Rattle.fold.specs.Standing.{others, is_link_place, own_in}
use Rattle.fold.proofs.BothNodes.{filter_holds, edge_holds, key_holds, link_holds, zeros_hold, long_range, IsHeld, joined_holds, highest_left, highest_right, linked_has}
use Rattle.fold.proofs.Case.{IsCase}
use Rattle.fold.proofs.Ends.{apart, fits_at}
use Rattle.fold.proofs.Given.{IsSegmentOf, behind, count, given', closed, word_there, word_past, own, own', own_there, ends, one_block, its_nodes, links_there, next_same, prev_same, shape}
use Rattle.fold.proofs.Rooms.{sizes, next_inside, prev_inside, one_heap, other_heap, planes_same}
use Rattle.fold.proofs.Rows.{next_or, AreRow}
use Rattle.fold.proofs.Stands.{IsBeside, beside, same_of, same_words, own_standings, own_address}
use Rattle.fold.proofs.There.{whole, value_more}

key_on : (P : ℕ → Type 0) (at size key : ℕ) (edges : List HasValue) → key_in at size edges ≡ Some key → OnEdges P edges → P key
key_on P at size key [] is on = absurd (none-some key is)
key_on P at size key (edge ∷ rest) is on = by_test (nat_eq edge.at at && nat_eq edge.size size) is (λ found. key_on P at size key rest found on.1)
  where
    by_test : (b : Bool) → (if b then Some edge.value else key_in at size rest) ≡ Some key → (key_in at size rest ≡ Some key → P key) → P key
    by_test true found other = subst P (same_Some _ _ found) on.0
    by_test false found other = other found

heap_same : (one other : BlockKind) → is_heap one ≡ true → is_heap other ≡ true → other ≡ one
heap_same Static other a b = absurd (false≢true a)
heap_same Local other a b = absurd (false≢true a)
heap_same Heap Static a b = absurd (false≢true b)
heap_same Heap Local a b = absurd (false≢true b)
heap_same Heap Heap a b = refl

module _ (parts : Parts) (graph : IsGraph parts) (fold : Fold) (case : IsCase parts fold) (offsets : HaveOffsets parts.values) (state : State) (given : Assignment) (meets : Meets (maps_of parts) state given) where
  abbrev after : Parts
  after = behind parts graph fold case offsets state given meets

  abbrev many : ℕ
  many = count parts graph fold case offsets state given meets

  abbrev now : Assignment
  now = given' parts graph fold case offsets state given meets

  abbrev self : ℕ → Option ℤ
  self = own parts graph fold case offsets state given meets

  abbrev pub self' : ℕ → Option ℤ
  self' = own' parts graph fold case offsets state given meets

  there : (key : ℕ) → IsSome (value_at parts.values key) → now.word key ≡ given.word key
  there = word_there parts graph fold case offsets state given meets

  abbrev pub joint : Object
  joint = whole parts graph fold case.one case.other case.first (apart parts graph fold case) case.next_value case.prev_value

  abbrev pub template : Node
  template = joined_node parts fold case.one case.other

  abbrev stands : HasValue → Standing
  stands = stands_in parts fold case.other

  abbrev before : List HasValue
  before = others fold (node_of case.one).edges

  abbrev beyond : List HasValue
  beyond = others fold (node_of case.other).edges

  abbrev pub at_block : ℕ → ℕ → Word
  at_block number = word_at now.word self' number

  -- the words of values at one of the blocks of the object with a key
  pub record AreWordsAt (key number : ℕ) (word : ℕ → Word) : Type 0 where
    pub plain : (at : ℕ) → IsSome (value_at parts.values at) → self at ≡ None → word at ≡ given.word at
    pub own : (at : ℕ) (value : Value) (offset : ℤ) → value_at parts.values at ≡ Some value → own_in key value ≡ Some offset → word at ≡ To number offset

  same_at : (number at : ℕ) → IsSome (value_at parts.values at) → self at ≡ None → at_block number at ≡ given.word at
  same_at number at some alone =
      ap (λ (o : Option ℤ). own_word o (now.word at) number) (sym (own_there parts graph fold case offsets state given meets at some) ∙ alone) ∙ there at some

  -- what the template asks for of the values more
  own_more : (number place : ℕ) (offset : ℤ) → slice_get (own_addresses fold.first stands before) place ≡ Some (Address fold.first offset Each) → at_block number (many + 1 + place) ≡ To number offset
  own_more number place offset is =
      ap (λ (o : Option ℤ). own_word o (now.word (many + 1 + place)) number)
      (ap own_offset
      (ap (value_at after.values) (let e : many + 1 + place ≡ many + suc place = omega arith in e)
      ∙ value_more parts graph fold case.one case.other case.first (apart parts graph fold case) case.next_value case.prev_value (suc place) ∙ is))

  -- the same word, and own addresses, at an edge
  module _ (edge : HasValue) where
    same_edge : (met : IsBeside parts fold beyond edge Same) → (given.word edge.value ≡ given.word met.key) × ((self edge.value ≡ None) × (self met.key ≡ None))
    same_edge met =
        let words = same_words (length state.memory) given.blocks (ends parts graph fold case offsets state given meets) given.word edge.value met.key met.one met.other (meets.values edge.value met.one met.one_is) (meets.values met.key met.other met.other_is)
        (same_of fold (nat_eq edge.value met.key) met.one met.other met.how) (λ same. same_Some _ _ (sym met.one_is ∙ ap (value_at parts.values) (eqb-true _ _ same) ∙ met.other_is)) in
        (words.0, (ap own_offset met.one_is ∙ words.1.0, ap own_offset met.other_is ∙ words.1.1))

  first_held : (number : ℕ) (word : ℕ → Word) (bytes : List Byte) → AreWordsAt fold.first number word → HoldEdges bytes word (node_of case.one).edges → (place : ℕ) (edge : HasValue) → slice_get before place ≡ Some edge →
      IsHeld bytes (at_block number) number fold.first stands edge
  first_held number word bytes words holds place edge is = record {
    same = λ same.
        let met = beside parts fold beyond edge Same tt same in
        let alike = same_edge edge met in
        let some = IsSome-holds _ _ met.one_is in
        subst (λ (w : Word). HoldsWord bytes edge w) (words.plain edge.value some alike.1.0 ∙ sym (same_at number edge.value some alike.1.0)) held;
    own = λ offset own_is.
        let met = beside parts fold beyond edge (Own offset) tt own_is in
        let both = own_standings fold (nat_eq edge.value met.key) met.one met.other offset met.how in
        subst (λ (w : Word). HoldsWord bytes edge w) (words.own edge.value met.one offset met.one_is both.0) held;
  }
    where
      held : HoldsWord bytes edge (word edge.value)
      held = edge_holds bytes word before place edge is (filter_holds bytes word (λ edge. not (is_link_place fold edge.at)) (node_of case.one).edges holds)

  second_held : (number : ℕ) (word : ℕ → Word) (bytes : List Byte) → AreWordsAt fold.second number word → HoldEdges bytes word (node_of case.other).edges → (edge : HasValue) → IsHeld bytes (at_block number) number fold.first stands edge
  second_held number word bytes words holds edge = record {
    same = λ same.
        let met = beside parts fold beyond edge Same tt same in
        let alike = same_edge edge met in
        key_holds bytes word edge.at edge.size met.key beyond met.key_is holds'
        ∙ ap (λ (w : Word). take edge.size (word_bytes w))
        (words.plain met.key (IsSome-holds _ _ met.other_is) alike.1.1 ∙ sym alike.0 ∙ sym (same_at number edge.value (IsSome-holds _ _ met.one_is) alike.1.0));
    own = λ offset own_is.
        let met = beside parts fold beyond edge (Own offset) tt own_is in
        let both = own_standings fold (nat_eq edge.value met.key) met.one met.other offset met.how in
        key_holds bytes word edge.at edge.size met.key beyond met.key_is holds' ∙ ap (λ (w : Word). take edge.size (word_bytes w)) (words.own met.key met.other offset met.other_is both.1);
  }
    where
      holds' : HoldEdges bytes word beyond
      holds' = filter_holds bytes word (λ edge. not (is_link_place fold edge.at)) (node_of case.other).edges holds

  pub first_node : (number : ℕ) (word : ℕ → Word) (block : Block) → AreWordsAt fold.first number word → IsNode case.one.size case.one.kind (node_of case.one) word block → IsNode joint.size joint.kind template (at_block number) block
  first_node number word block words is = record {
    live = is.live;
    kind = is.kind;
    size = is.size;
    edges = joined_holds block.bytes (at_block number) number fold.first stands (many + 1) before (first_held number word block.bytes words is.edges) (own_more number);
    classes = linked_has fold _ block.bytes (subst (λ (n : ℕ). fold.next + 8 ≤ n) (sym is.size) (next_inside parts fold case.one case.other case.are))
        (λ twofold. subst (λ (n : ℕ). fold.prev + 8 ≤ n) (sym is.size) (prev_inside parts fold case.one case.other case.are twofold))
        (highest_left (node_of case.one).plane (node_of case.other).plane block.bytes (planes_same parts graph fold case.one case.other case.first case.second case.are) is.classes);
  }

  pub second_node : (number : ℕ) (word : ℕ → Word) (block : Block) → AreWordsAt fold.second number word → IsNode case.other.size case.other.kind (node_of case.other) word block → IsNode joint.size joint.kind template (at_block number) block
  second_node number word block words is = record {
    live = is.live;
    kind = is.kind ∙ heap_same case.one.kind case.other.kind (one_heap parts fold case.one case.other case.are) (other_heap parts fold case.one case.other case.are);
    size = size;
    edges = joined_holds block.bytes (at_block number) number fold.first stands (many + 1) before (λ place edge there. second_held number word block.bytes words is.edges edge) (own_more number);
    classes = linked_has fold _ block.bytes (subst (λ (n : ℕ). fold.next + 8 ≤ n) (sym size) (next_inside parts fold case.one case.other case.are))
        (λ twofold. subst (λ (n : ℕ). fold.prev + 8 ≤ n) (sym size) (prev_inside parts fold case.one case.other case.are twofold))
        (highest_right (node_of case.one).plane (node_of case.other).plane block.bytes (planes_same parts graph fold case.one case.other case.first case.second case.are) is.classes);
  }
    where
      size : length block.bytes ≡ case.one.size
      size = is.size ∙ sym (sizes parts fold case.one case.other case.are)

  -- One of the two, whose nodes are nodes of the whole.

  abbrev pub links : Links
  links = record {
    twofold = fold.twofold;
    head = fold.head;
    next = fold.next;
    prev = fold.prev;
    back = fold.back;
    least = least_of case.one.shape + least_of case.other.shape;
    next_value = case.next_value;
    prev_value = case.prev_value;
  }

  abbrev pub Row : Word → Word → List ℕ → Type 0
  Row onward backward blocks = AreRow state.memory joint links template now.word self' onward backward blocks

  module _ (key : ℕ) (object : Object) (stands_at : object_at parts.objects key ≡ Some object) (live : object.live ≡ true) (places : has_places fold object.shape ≡ true) (next prev : ℕ) (onward_is : onward many fold object ≡ Some next)
      (backward_is : fold.twofold ≡ true → backward many fold object ≡ Some prev)
      (node : (number : ℕ) (word : ℕ → Word) (block : Block) → AreWordsAt key number word → IsNode object.size object.kind (node_of object) word block → IsNode joint.size joint.kind template (at_block number) block)
      (still_next : moved (now.word next) (pos fold.head -ℤ pos fold.head) ≡ now.word next) (still_prev : fold.twofold ≡ true → moved (now.word prev) (pos fold.back -ℤ pos fold.back) ≡ now.word prev) where
    abbrev blocks : List ℕ
    blocks = given.blocks key

    shape' : (object.shape ≡ RegionShape) ⊎ IsSegmentOf fold object.shape
    shape' = shape parts graph fold case offsets state given meets key object stands_at live places next prev onward_is backward_is

    fits : (at : ℕ) (offset : ℤ) (target : Target) → value_at parts.values at ≡ Some (Address key offset target) → target_fits target object.shape ≡ true
    fits at offset target is = fits_at parts graph at key offset target object is stands_at

    region_words : (number : ℕ) → object.shape ≡ RegionShape → blocks ≡ number ∷ [] → AreWordsAt key number given.word
    region_words number region is = record {
      plain = λ at some alone. refl;
      own = λ at value offset there own_is. by_value at value offset there (own_address key value offset own_is);
    }
      where
        by_value : (at : ℕ) (value : Value) (offset : ℤ) → value_at parts.values at ≡ Some value → (value ≡ Address key offset Region) ⊎ (value ≡ Address key offset Each) → given.word at ≡ To number offset
        by_value at value offset there (inl same) =
            meets.values at (Address key offset Region) (there ∙ ap Some same) ∙ ap (λ (bs : List ℕ). address_word Region bs (ends parts graph fold case offsets state given meets key) offset) is
        by_value at value offset there (inr same) = absurd (false≢true (sym (ap (target_fits Each) region) ∙ fits at offset Each (there ∙ ap Some same)))

    segment_words : (number : ℕ) → IsSegmentOf fold object.shape → AreWordsAt key number (word_at given.word self number)
    segment_words number segment = record {
      plain = λ at some alone. ap (λ (o : Option ℤ). own_word o (given.word at) number) alone;
      own = λ at value offset there own_is. by_value at value offset there (own_address key value offset own_is);
    }
      where
        by_value : (at : ℕ) (value : Value) (offset : ℤ) → value_at parts.values at ≡ Some value → (value ≡ Address key offset Region) ⊎ (value ≡ Address key offset Each) → word_at given.word self number at ≡ To number offset
        by_value at value offset there (inl same) = absurd (false≢true (sym (ap (target_fits Region) segment.is) ∙ fits at offset Region (there ∙ ap Some same)))
        by_value at value offset there (inr same) = ap (λ (o : Option ℤ). own_word o (given.word at) number) (ap own_offset (there ∙ ap Some same))

    -- a region holds its links
    module _ (region : object.shape ≡ RegionShape) (block : Block) (is : IsNode object.size object.kind (own_node object) given.word block) where
      region_link : (place link : ℕ) → link_in many place object.edges object.plane ≡ Some link → HoldsAt block.bytes place (now.word link)
      region_link place link linked = by_key (key_in place 8 object.edges) refl linked
        where
          named : OnEdges (λ value. IsSome (value_at parts.values value)) object.edges
          named = (subst (λ (s : Shape). OnNamed (λ value. IsSome (value_at parts.values value)) s (own_node object)) region ((closed parts graph fold case offsets state given meets).objects key object stands_at)).0

          by_zeros : (b : Bool) → are_zeros place object.plane ≡ b → (if b then Some many else None) ≡ Some link → HoldsAt block.bytes place (now.word link)
          by_zeros false zeros found = absurd (none-some link found)
          by_zeros true zeros found =
              let room = leb-true _ _ (and_left (nat_le (place + 8) (length object.plane)) (list_all (nat_eq 0) (take 8 (drop place object.plane))) zeros) in
              subst (λ (w : Word). HoldsAt block.bytes place w) (sym (ap now.word (sym (same_Some _ _ found)) ∙ word_past parts graph fold case offsets state given meets many (omega arith)))
              (zeros_hold object.plane block.bytes place (long_range object.plane place room) (and_right (nat_le (place + 8) (length object.plane)) (list_all (nat_eq 0) (take 8 (drop place object.plane))) zeros) is.classes)

          by_key : (found : Option ℕ) → key_in place 8 object.edges ≡ found → or_null many (are_zeros place object.plane) found ≡ Some link → HoldsAt block.bytes place (now.word link)
          by_key None none found = by_zeros (are_zeros place object.plane) refl found
          by_key (Some at) there' found =
              subst (λ (w : Word). HoldsAt block.bytes place w)
              (sym (there at (key_on (λ value. IsSome (value_at parts.values value)) place 8 at object.edges there' named)) ∙ ap now.word (same_Some _ _ found))
              (link_holds block.bytes given.word place at object.edges there' is.edges)

      region_next : HoldsAt block.bytes fold.next (now.word next)
      region_next = region_link fold.next next (sym (ap (λ (s : Shape). onward_in many fold.next s object.edges object.plane) region) ∙ onward_is)

      region_prev : fold.twofold ≡ true → HoldsAt block.bytes fold.prev (now.word prev)
      region_prev twofold =
          region_link fold.prev prev
          (sym (ap (λ (b : Bool). if b then backward_in many fold.prev object.shape object.edges object.plane else Some many) twofold ∙ ap (λ (s : Shape). backward_in many fold.prev s object.edges object.plane) region) ∙ backward_is twofold)

    back_as : (bytes : List Byte) (held wanted : Word) (b : Bool) → fold.twofold ≡ b → (fold.twofold ≡ true → held ≡ wanted) → HoldsBack b bytes fold.prev held → HoldsBack b bytes fold.prev wanted
    back_as bytes held wanted false single same holds = tt
    back_as bytes held wanted true twofold same holds = holds ∙ ap word_bytes (same twofold)

    back_of : (bytes : List Byte) (wanted : Word) (b : Bool) → fold.twofold ≡ b → (fold.twofold ≡ true → HoldsAt bytes fold.prev wanted) → HoldsBack b bytes fold.prev wanted
    back_of bytes wanted false single holds = tt
    back_of bytes wanted true twofold holds = holds twofold

    segment_row : (segment : IsSegmentOf fold object.shape) (least : ℕ) (before' wanted : Word) (numbers : List ℕ) → (fold.twofold ≡ true → before' ≡ wanted) →
        AreNodes state.memory object
        (record { twofold = fold.twofold; head = fold.head; next = fold.next; prev = fold.prev; back = fold.back; least = least; next_value = segment.next_value; prev_value = segment.prev_value }) segment.node given.word self
        (given.word segment.next_value) before' numbers → Row (now.word next) wanted numbers
    segment_row segment least before' wanted [] same are = tt
    segment_row segment least before' wanted (number ∷ numbers) same are = (
      record {
        block = are.0.block;
        there = are.0.there;
        node = node number (word_at given.word self number) are.0.block (segment_words number segment)
            (subst (λ (n : Node). IsNode object.size object.kind n (word_at given.word self number) are.0.block) (sym (ap (λ (s : Shape). node_in s (own_node object)) segment.is)) are.0.node);
        next = onward_held numbers are.0.next;
        prev = back_as are.0.block.bytes before' wanted fold.twofold refl same are.0.prev;
      },
      segment_row segment least (To number (pos fold.back)) (To number (pos fold.back)) numbers (λ _. refl) are.1,
    )
      where
        onward_held : (numbers : List ℕ) → HoldsAt are.0.block.bytes fold.next (end_word (first_of numbers) (given.word segment.next_value) fold.head (pos fold.head)) → HoldsAt are.0.block.bytes fold.next (next_or fold.head (now.word next) (first_of numbers))
        onward_held [] holds =
            holds
            ∙ ap word_bytes
            (ap (λ (w : Word). moved w (pos fold.head -ℤ pos fold.head))
            (sym (there segment.next_value (links_there parts graph fold case offsets state given meets key object stands_at live places next prev onward_is backward_is segment).0)
            ∙ ap now.word (next_same parts graph fold case offsets state given meets key object stands_at live places next prev onward_is backward_is segment))
            ∙ still_next)
        onward_held (number ∷ numbers) holds = holds

    -- its blocks are a row of nodes of the whole
    pub row : (wanted : Word) → (fold.twofold ≡ true → now.word prev ≡ wanted) → Row (now.word next) wanted blocks
    row wanted same = by_shape shape'
      where
        by_shape : (object.shape ≡ RegionShape) ⊎ IsSegmentOf fold object.shape → Row (now.word next) wanted blocks
        by_shape (inl region) =
            let one = one_block parts graph fold case offsets state given meets key object stands_at live places next prev onward_is backward_is region in
            let is = subst (λ (n : Node). IsNode object.size object.kind n given.word one.2.block) (sym (ap (λ (s : Shape). node_in s (own_node object)) region)) one.2.node in
            subst (λ (bs : List ℕ). Row (now.word next) wanted bs) (sym one.1) (
              record {
                block = one.2.block;
                there = one.2.there;
                node = node one.0 given.word one.2.block (region_words one.0 region one.1) is;
                next = region_next region one.2.block one.2.node;
                prev = back_of one.2.block.bytes wanted fold.twofold refl (λ twofold. region_prev region one.2.block one.2.node twofold ∙ ap word_bytes (same twofold));
              },
              tt,
            )
        by_shape (inr segment) =
            let are = (its_nodes parts graph fold case offsets state given meets key object stands_at live places next prev onward_is backward_is segment).1 in
            segment_row segment segment.least (end_word None (given.word segment.prev_value) fold.back (pos fold.back)) wanted blocks
            (λ twofold.
            ap (λ (w : Word). moved w (pos fold.back -ℤ pos fold.back))
            (sym (there segment.prev_value (links_there parts graph fold case offsets state given meets key object stands_at live places next prev onward_is backward_is segment).1)
            ∙ ap now.word (prev_same parts graph fold case offsets state given meets key object stands_at live places next prev onward_is backward_is twofold segment))
            ∙ still_prev twofold ∙ same twofold)
            are
