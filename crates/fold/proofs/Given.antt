-- Words and blocks of a graph, and those of the folded one: ends and values.
use Rattle.std.proofs.Common.{◌≡◌, ℕ, ◌+◌, ◌<◌, ◌≤◌, Bool, true, false, ◌&&◌, List, [], ◌∷◌, ◌++◌, length, nat_eq, nat_lt, ℤ, pos, Option, None, Some, refl, sym, ◌∙◌, ap, subst, eq-eqb, eqb-true, lt-ltb, ltb-true, arith, ◌⊎◌, inl, inr}
use Rattle.std.specs.Prelude.{IsSome, ◌+ℤ◌, ◌-ℤ◌, FitsSigned, if◌then◌else◌}
use Rattle.std.specs.Int.{w64}
use Rattle.std.specs.Option.{option_map_or, option_and_then}
use Rattle.std.specs.Ordering.{int_eq}
use Rattle.std.proofs.lemmas.Bool.{false≢true}
use Rattle.std.proofs.lemmas.Bool.Decides.{Decides-int_eq}
use Rattle.std.proofs.lemmas.Int.{ints}
use Rattle.std.proofs.lemmas.Option.{same_Some, none-some}
use Rattle.bytes_core.specs.declared.word.Word.{Word}
use Rattle.bytes_core.specs.declared.word.Word.TheVariants.{Plain, To}
use Rattle.bytes_core.specs.Value.{moved}
use Rattle.fold.specs.declared.fold.Fold.{Fold}
use Rattle.graph.specs.declared.object.Object.{Object}
use Rattle.graph.specs.declared.object.Shape.{Shape}
use Rattle.graph.specs.declared.object.Shape.TheVariants.{Region as RegionShape, Segment}
use Rattle.graph.specs.declared.template.Node.{Node}
use Rattle.graph.specs.declared.value.Target.{Target}
use Rattle.graph.specs.declared.value.Target.TheVariants.{Region, First, Last, Each}
use Rattle.graph.specs.declared.value.Value.{Value}
use Rattle.graph.specs.declared.value.Value.TheVariants.{Const, Number, Any, Address}
use Rattle.graph.specs.declared.parts.KeyedValue.{KeyedValue}
use Rattle.graph.specs.declared.parts.Parts.{Parts}
use Rattle.graph.specs.Closed.{OnNamed, IsClosed}
use Rattle.graph.specs.Maps.{object_at, value_at}
use Rattle.graph.specs.Nodes.{own_node}
use Rattle.graph.specs.State.{State}
use Rattle.graph.specs.WellFormed.{target_fits, passes_at}
use Rattle.graph.specs.Whole.{IsGraph}
use Rattle.graph.specs.Meaning.{HasShape, IsSegment, StandsAt, first_of, last_or, last_of, end_word, Ends, ends_in, ends_of, no_ends, address_word, HasWord, HasBlocksAs, own_offset, maps_of, Assignment, Meets}
use Rattle.graph.proofs.Closed.{closed_of}
use Rattle.graph.proofs.Found.{Holds-some, IsSome-holds}
use Rattle.graph.proofs.Frames.{OnNamed-weaker}
use Rattle.graph.proofs.Split.{moved_to}
use Rattle.graph.proofs.Tests.{and_left, and_right}
use Rattle.changes.proofs.Appended.{found_within}
use Rattle.changes.proofs.Value.{ends_agree}
use Rattle.register_steps.proofs.Moved.{moved_twice}
use Rattle.materialise.specs.WithOne.{HasOffset, HaveOffsets}
use Rattle.fold.specs.Foldable.{link_passes}
use Rattle.fold.specs.Folded.{folded_value, of_first, of_second}
use Rattle.fold.specs.Linked.{has_places, are_alike, onward, onward_in, backward, backward_in, is_first, is_last, leads_on, leads_back}
use Rattle.fold.proofs.Case.{IsCase}
use Rattle.fold.proofs.Ends.{apart, later, fits_at, first_at, back_at}
use Rattle.fold.proofs.Rooms.{one_live, one_places, other_live, other_places}
use Rattle.fold.proofs.There.{object_first, object_other, value_kept}

-- The shape of one of the two.

alike_is : (one other : Bool) → are_alike one other ≡ true → one ≡ other
alike_is true true is = refl
alike_is true false is = absurd (false≢true is)
alike_is false true is = absurd (false≢true is)
alike_is false false is = refl

-- a segment of the fold's direction and places
pub record IsSegmentOf (fold : Fold) (shape : Shape) : Type 0 where
  pub least : ℕ
  pub next_value : ℕ
  pub prev_value : ℕ
  pub node : Node
  pub is : shape ≡ Segment fold.twofold fold.head fold.next fold.prev fold.back least next_value prev_value node

pub shape_of : (fold : Fold) (shape : Shape) → has_places fold shape ≡ true → (shape ≡ RegionShape) ⊎ IsSegmentOf fold shape
shape_of fold RegionShape has = inl refl
shape_of fold (Segment twofold head next prev back least next_value prev_value node) has =
    let a = alike_is twofold fold.twofold (and_left (are_alike twofold fold.twofold) _ has) in
    let after_a = and_right (are_alike twofold fold.twofold) (nat_eq head fold.head && (nat_eq next fold.next && (nat_eq prev fold.prev && nat_eq back fold.back))) has in
    let b = eqb-true _ _ (and_left (nat_eq head fold.head) (nat_eq next fold.next && (nat_eq prev fold.prev && nat_eq back fold.back)) after_a) in
    let after_b = and_right (nat_eq head fold.head) (nat_eq next fold.next && (nat_eq prev fold.prev && nat_eq back fold.back)) after_a in
    let c = eqb-true _ _ (and_left (nat_eq next fold.next) (nat_eq prev fold.prev && nat_eq back fold.back) after_b) in
    let after_c = and_right (nat_eq next fold.next) (nat_eq prev fold.prev && nat_eq back fold.back) after_b in
    let d = eqb-true _ _ (and_left (nat_eq prev fold.prev) (nat_eq back fold.back) after_c) in
    let e = eqb-true _ _ (and_right (nat_eq prev fold.prev) (nat_eq back fold.back) after_c) in
    inr (record {
      least = least;
      next_value = next_value;
      prev_value = prev_value;
      node = node;
      is = ap (λ (t : Bool). Segment t head next prev back least next_value prev_value node) a
          ∙ ap (λ (n : ℕ). Segment fold.twofold n next prev back least next_value prev_value node) b
          ∙ ap (λ (n : ℕ). Segment fold.twofold fold.head n prev back least next_value prev_value node) c
          ∙ ap (λ (n : ℕ). Segment fold.twofold fold.head fold.next n back least next_value prev_value node) d
          ∙ ap (λ (n : ℕ). Segment fold.twofold fold.head fold.next fold.prev n least next_value prev_value node) e;
    })

-- Ends of two rows, one behind the other.

moved_on : (word : Word) (place : ℕ) (offset : ℤ) → moved (moved word (pos place -ℤ pos place)) (offset -ℤ pos place) ≡ moved word (offset -ℤ pos place)
moved_on word place offset =
    moved_twice word (pos place -ℤ pos place) (offset -ℤ pos place)
    ∙ ap (moved word) (let e : (pos place -ℤ pos place) +ℤ (offset -ℤ pos place) ≡ offset -ℤ pos place = omega (arith, ints) in e)

pub first_joined : (head : ℕ) (after : Word) (front rest : List ℕ) (offset : ℤ) → FitsSigned w64 offset →
    end_word (first_of front) (end_word (first_of rest) after head (pos head)) head offset ≡ end_word (first_of (front ++ rest)) after head offset
first_joined head after [] [] offset fits = moved_on after head offset
first_joined head after [] (number ∷ rest) offset fits = moved_to number head offset fits
first_joined head after (number ∷ front) rest offset fits = refl

last_over : (number : ℕ) (front : List ℕ) (next : ℕ) (rest : List ℕ) → last_or number (front ++ next ∷ rest) ≡ last_or next rest
last_over number [] next rest = refl
last_over number (first ∷ front) next rest = last_over first front next rest

last_alone : (number : ℕ) (front : List ℕ) → last_or number (front ++ []) ≡ last_or number front
last_alone number [] = refl
last_alone number (first ∷ front) = last_alone first front

pub last_joined : (back : ℕ) (before : Word) (front rest : List ℕ) (offset : ℤ) → FitsSigned w64 offset →
    end_word (last_of rest) (end_word (last_of front) before back (pos back)) back offset ≡ end_word (last_of (front ++ rest)) before back offset
last_joined back before [] [] offset fits = moved_on before back offset
last_joined back before [] (number ∷ rest) offset fits = refl
last_joined back before (number ∷ front) [] offset fits = moved_to (last_or number front) back offset fits ∙ ap (λ (n : ℕ). To n offset) (sym (last_alone number front))
last_joined back before (number ∷ front) (next ∷ rest) offset fits = ap (λ (n : ℕ). To n offset) (sym (last_over number front next rest))

pub offset_in : (entries : List KeyedValue) (at : ℕ) (value : Value) → HaveOffsets entries → value_at entries at ≡ Some value → HasOffset value
offset_in [] at value have is = absurd (none-some value is)
offset_in (entry ∷ rest) at value have is = by_key (nat_eq entry.key at) is (λ later. offset_in rest at value have.1 later)
  where
    by_key : (b : Bool) → (if b then Some entry.value else value_at rest at) ≡ Some value → (value_at rest at ≡ Some value → HasOffset value) → HasOffset value
    by_key true found other = subst (λ (v : Value). HasOffset v) (same_Some _ _ found) have.0
    by_key false found other = other found

pub same_offset : (one other : ℤ) → int_eq one other ≡ true → one ≡ other
same_offset one other is = (Decides-int_eq one other).0 is

either_own : (b : Bool) (key : ℕ) (offset : ℤ) → own_offset (if b then Some (Address key offset Last) else None) ≡ None
either_own true key offset = refl
either_own false key offset = refl

module _ (parts : Parts) (graph : IsGraph parts) (fold : Fold) (case : IsCase parts fold) (offsets : HaveOffsets parts.values) (state : State) (given : Assignment) (meets : Meets (maps_of parts) state given) where
  abbrev pub behind : Parts
  behind = later parts graph fold case

  abbrev pub count : ℕ
  count = length parts.values

  abbrev pub front : List ℕ
  front = given.blocks fold.first

  abbrev pub rest : List ℕ
  rest = given.blocks fold.second

  abbrev pub given' : Assignment
  given' = record {
    word = λ key. if nat_lt key count then given.word key else Plain 0;
    blocks = λ key. if nat_eq key fold.first then front ++ rest else given.blocks key;
    owner = λ number. if nat_eq (given.owner number) fold.second then fold.first else given.owner number;
    place = λ number. if nat_eq (given.owner number) fold.second then length front + given.place number else given.place number;
  }

  pub blocks_first : given'.blocks fold.first ≡ front ++ rest
  blocks_first = ap (λ (b : Bool). if b then front ++ rest else given.blocks fold.first) (eq-eqb fold.first fold.first refl)

  pub blocks_other : (key : ℕ) → nat_eq key fold.first ≡ false → given'.blocks key ≡ given.blocks key
  blocks_other key other = ap (λ (b : Bool). if b then front ++ rest else given.blocks key) other

  pub closed : IsClosed (maps_of parts)
  closed = closed_of parts graph.well_formed

  pub below : (key : ℕ) → IsSome (value_at parts.values key) → key < count
  below key some = found_within (λ (entry : KeyedValue). entry.key) (λ entry. entry.value) parts.values (λ place entry stands. graph.keys.values place entry stands) key some

  pub word_there : (key : ℕ) → IsSome (value_at parts.values key) → given'.word key ≡ given.word key
  word_there key some = ap (λ (b : Bool). if b then given.word key else Plain 0) (lt-ltb key count (below key some))

  pub word_past : (key : ℕ) → count ≤ key → given'.word key ≡ Plain 0
  word_past key far = by_test (nat_lt key count) refl
    where
      by_test : (b : Bool) → nat_lt key count ≡ b → (if b then given.word key else Plain 0) ≡ Plain 0
      by_test true is = let l = ltb-true key count is in absurd (omega arith)
      by_test false is = refl

  abbrev pub own : ℕ → Option ℤ
  own key = own_offset (value_at parts.values key)

  abbrev pub own' : ℕ → Option ℤ
  own' key = own_offset (value_at behind.values key)

  -- the same values are own addresses
  own_becomes : (value : Value) → own_offset (folded_value fold value) ≡ own_offset (Some value)
  own_becomes (Const number size) = refl
  own_becomes (Number size) = refl
  own_becomes Any = refl
  own_becomes (Address object offset target) = by_first (nat_eq object fold.first)
    where
      of_one : (target : Target) → own_offset (of_first fold offset target) ≡ own_offset (Some (Address object offset target))
      of_one Region = refl
      of_one First = refl
      of_one Last = refl
      of_one Each = refl

      of_other : (target : Target) → own_offset (of_second fold offset target) ≡ own_offset (Some (Address object offset target))
      of_other Region = either_own fold.twofold fold.first offset
      of_other First = refl
      of_other Last = either_own fold.twofold fold.first offset
      of_other Each = refl

      by_second : (b : Bool) → own_offset (if b then of_second fold offset target else Some (Address object offset target)) ≡ own_offset (Some (Address object offset target))
      by_second true = of_other target
      by_second false = refl

      by_first : (b : Bool) → own_offset (if b then of_first fold offset target else if nat_eq object fold.second then of_second fold offset target else Some (Address object offset target)) ≡ own_offset (Some (Address object offset target))
      by_first true = of_one target
      by_first false = by_second (nat_eq object fold.second)

  pub value_is : (key : ℕ) (value : Value) → value_at parts.values key ≡ Some value → value_at behind.values key ≡ folded_value fold value
  value_is key value is =
      value_kept parts graph fold case.one case.other case.first (apart parts graph fold case) case.next_value case.prev_value key (IsSome-holds _ _ is) ∙ ap (option_and_then (folded_value fold)) is

  pub own_there : (key : ℕ) → IsSome (value_at parts.values key) → own key ≡ own' key
  own_there key some =
      let held = Holds-some (value_at parts.values key) some in
      ap own_offset held.is ∙ sym (own_becomes held.item) ∙ ap own_offset (sym (value_is key held.item held.is))

  -- Ends.

  abbrev pub ends : ℕ → Ends
  ends = ends_of (object_at parts.objects) given.word

  abbrev pub ends' : ℕ → Ends
  ends' = ends_of (object_at behind.objects) given'.word

  pub still_there : (key : ℕ) → nat_eq key fold.first ≡ false → nat_eq key fold.second ≡ false → object_at behind.objects key ≡ object_at parts.objects key
  still_there key other other' = object_other parts graph fold case.one case.other case.first (apart parts graph fold case) case.next_value case.prev_value key other other'

  ends_other : (key : ℕ) (object : Object) → object_at parts.objects key ≡ Some object → nat_eq key fold.first ≡ false → nat_eq key fold.second ≡ false → ends' key ≡ ends key
  ends_other key object stands other other' =
      ap (λ (o : Option Object). option_map_or (λ object. ends_in object.shape given'.word) o no_ends) (still_there key other other' ∙ stands)
      ∙ ends_agree given.word given'.word object.shape (own_node object)
      (OnNamed-weaker (λ value. IsSome (value_at parts.values value)) (λ value. given'.word value ≡ given.word value) word_there object.shape (own_node object) (closed.objects key object stands))
      ∙ sym (ap (λ (o : Option Object). option_map_or (λ object. ends_in object.shape given.word) o no_ends) stands)

  ends_first : ends' fold.first ≡ record { head = fold.head; back = fold.back; after = given'.word case.next_value; before = given'.word case.prev_value }
  ends_first =
      ap (λ (o : Option Object). option_map_or (λ object. ends_in object.shape given'.word) o no_ends)
      (object_first parts graph fold case.one case.other case.first (apart parts graph fold case) case.next_value case.prev_value)

  -- One of the two.

  module _ (key : ℕ) (object : Object) (stands : object_at parts.objects key ≡ Some object) (live : object.live ≡ true) (places : has_places fold object.shape ≡ true) (next prev : ℕ) (onward_is : onward count fold object ≡ Some next)
      (backward_is : fold.twofold ≡ true → backward count fold object ≡ Some prev) where
    abbrev blocks : List ℕ
    blocks = given.blocks key

    pub shape : (object.shape ≡ RegionShape) ⊎ IsSegmentOf fold object.shape
    shape = shape_of fold object.shape places

    has_shape : HasShape object.shape state.memory object given.word own blocks
    has_shape = subst (λ (b : Bool). HasBlocksAs b state.memory object given.word own blocks) live (meets.objects key object stands)

    -- the block of a region
    pub one_block : object.shape ≡ RegionShape → (number : ℕ) × (blocks ≡ number ∷ []) × StandsAt state.memory object given.word number
    one_block region = subst (λ (s : Shape). HasShape s state.memory object given.word own blocks) region has_shape

    -- the nodes of a segment
    pub its_nodes : (segment : IsSegmentOf fold object.shape) →
        IsSegment state.memory object
        (record { twofold = fold.twofold; head = fold.head; next = fold.next; prev = fold.prev; back = fold.back; least = segment.least; next_value = segment.next_value; prev_value = segment.prev_value }) segment.node given.word own
        blocks
    its_nodes segment = subst (λ (s : Shape). HasShape s state.memory object given.word own blocks) segment.is has_shape

    fits : (at : ℕ) (offset : ℤ) (target : Target) → value_at parts.values at ≡ Some (Address key offset target) → target_fits target object.shape ≡ true
    fits at offset target is = fits_at parts graph at key offset target object is stands

    -- the links of a segment are values that are there
    pub links_there : (segment : IsSegmentOf fold object.shape) → IsSome (value_at parts.values segment.next_value) × IsSome (value_at parts.values segment.prev_value)
    links_there segment = (subst (λ (s : Shape). OnNamed (λ value. IsSome (value_at parts.values value)) s (own_node object)) segment.is (closed.objects key object stands)).1

    pub next_same : (segment : IsSegmentOf fold object.shape) → segment.next_value ≡ next
    next_same segment = same_Some _ _ (sym (ap (λ (s : Shape). onward_in count fold.next s object.edges object.plane) segment.is) ∙ onward_is)

    pub prev_same : fold.twofold ≡ true → (segment : IsSegmentOf fold object.shape) → segment.prev_value ≡ prev
    prev_same twofold segment =
        same_Some _ _
        (sym (ap (λ (b : Bool). if b then backward_in count fold.prev object.shape object.edges object.plane else Some count) twofold ∙ ap (λ (s : Shape). backward_in count fold.prev s object.edges object.plane) segment.is)
        ∙ backward_is twofold)

    ends_are : (segment : IsSegmentOf fold object.shape) → ends key ≡ record { head = fold.head; back = fold.back; after = given.word segment.next_value; before = given.word segment.prev_value }
    ends_are segment = ap (λ (o : Option Object). option_map_or (λ object. ends_in object.shape given.word) o no_ends) stands ∙ ap (λ (s : Shape). ends_in s given.word) segment.is

    -- an address of the first node, or of the one block
    pub first_word : (at : ℕ) (offset : ℤ) (target : Target) → value_at parts.values at ≡ Some (Address key offset target) → is_first target ≡ true → given.word at ≡ end_word (first_of blocks) (given'.word next) fold.head offset
    first_word at offset target is leads = by_shape shape target (fits at offset target is) leads (meets.values at (Address key offset target) is)
      where
        by_shape : (object.shape ≡ RegionShape) ⊎ IsSegmentOf fold object.shape → (target : Target) → target_fits target object.shape ≡ true → is_first target ≡ true → given.word at ≡ address_word target blocks (ends key) offset →
            given.word at ≡ end_word (first_of blocks) (given'.word next) fold.head offset
        by_shape (inl region) Region fit leads has =
            let block = (one_block region).1 in
            has ∙ ap (λ (bs : List ℕ). address_word Region bs (ends key) offset) block ∙ sym (ap (λ (bs : List ℕ). end_word (first_of bs) (given'.word next) fold.head offset) block)
        by_shape (inl region) First fit leads has = absurd (false≢true (sym (ap (target_fits First) region) ∙ fit))
        by_shape (inl region) Last fit leads has = absurd (false≢true leads)
        by_shape (inl region) Each fit leads has = absurd (false≢true leads)
        by_shape (inr segment) Region fit leads has = absurd (false≢true (sym (ap (target_fits Region) segment.is) ∙ fit))
        by_shape (inr segment) First fit leads has =
            has ∙ ap (λ (e : Ends). address_word First blocks e offset) (ends_are segment)
            ∙ ap (λ (w : Word). end_word (first_of blocks) w fold.head offset) (sym (word_there segment.next_value (links_there segment).0) ∙ ap given'.word (next_same segment))
        by_shape (inr segment) Last fit leads has = absurd (false≢true leads)
        by_shape (inr segment) Each fit leads has = absurd (false≢true leads)

    -- an address of the last node, or of the one block
    pub last_word : fold.twofold ≡ true → (at : ℕ) (offset : ℤ) (target : Target) → value_at parts.values at ≡ Some (Address key offset target) → is_last target ≡ true → given.word at ≡ end_word (last_of blocks) (given'.word prev) fold.back offset
    last_word twofold at offset target is leads = by_shape shape target (fits at offset target is) leads (meets.values at (Address key offset target) is)
      where
        by_shape : (object.shape ≡ RegionShape) ⊎ IsSegmentOf fold object.shape → (target : Target) → target_fits target object.shape ≡ true → is_last target ≡ true → given.word at ≡ address_word target blocks (ends key) offset →
            given.word at ≡ end_word (last_of blocks) (given'.word prev) fold.back offset
        by_shape (inl region) Region fit leads has =
            let block = (one_block region).1 in
            has ∙ ap (λ (bs : List ℕ). address_word Region bs (ends key) offset) block ∙ sym (ap (λ (bs : List ℕ). end_word (last_of bs) (given'.word prev) fold.back offset) block)
        by_shape (inl region) First fit leads has = absurd (false≢true leads)
        by_shape (inl region) Last fit leads has = absurd (false≢true (sym (ap (target_fits Last) region) ∙ fit))
        by_shape (inl region) Each fit leads has = absurd (false≢true leads)
        by_shape (inr segment) Region fit leads has = absurd (false≢true (sym (ap (target_fits Region) segment.is) ∙ fit))
        by_shape (inr segment) First fit leads has = absurd (false≢true leads)
        by_shape (inr segment) Last fit leads has =
            has ∙ ap (λ (e : Ends). address_word Last blocks e offset) (ends_are segment)
            ∙ ap (λ (w : Word). end_word (last_of blocks) w fold.back offset) (sym (word_there segment.prev_value (links_there segment).1) ∙ ap given'.word (prev_same twofold segment))
        by_shape (inr segment) Each fit leads has = absurd (false≢true leads)

  -- The two.

  abbrev pub link_on : ℕ
  link_on = option_map_or (λ key. key) (onward count fold case.one) count

  abbrev pub link_back : ℕ
  link_back = option_map_or (λ key. key) (backward count fold case.other) count

  some_link : (test : Value → Bool) (link : Option ℕ) → link_passes parts test link ≡ true → (link ≡ Some (option_map_or (λ key. key) link count)) × (passes_at parts test (option_map_or (λ key. key) link count) ≡ true)
  some_link test None passes = absurd (false≢true passes)
  some_link test (Some key) passes = (refl, passes)

  abbrev on_is : (onward count fold case.one ≡ Some link_on) × (passes_at parts (leads_on fold.second fold.head) link_on ≡ true)
  on_is = some_link (leads_on fold.second fold.head) (onward count fold case.one) case.on

  abbrev back_is : (twofold : fold.twofold ≡ true) → (backward count fold case.other ≡ Some link_back) × (passes_at parts (leads_back fold.first fold.back) link_back ≡ true)
  back_is twofold = some_link (leads_back fold.first fold.back) (backward count fold case.other) (case.back twofold)

  pub on_found : onward count fold case.one ≡ Some link_on
  on_found = on_is.0

  pub back_found : fold.twofold ≡ true → backward count fold case.other ≡ Some link_back
  back_found twofold = (back_is twofold).0

  one_live' : case.one.live ≡ true
  one_live' = one_live parts fold case.one case.other case.are

  one_places' : has_places fold case.one.shape ≡ true
  one_places' = one_places parts fold case.one case.other case.are

  other_live' : case.other.live ≡ true
  other_live' = other_live parts fold case.one case.other case.are

  other_places' : has_places fold case.other.shape ≡ true
  other_places' = other_places parts fold case.one case.other case.are

  -- what the first one holds as its link on, and the second one as its link back
  pub on_word : given'.word link_on ≡ end_word (first_of rest) (given'.word case.next_value) fold.head (pos fold.head)
  on_word =
      let link = first_at parts fold.second fold.head link_on on_is.1 in
      let leads = and_right (nat_eq fold.second fold.second) (int_eq link.0 (pos fold.head) && is_first link.1) link.3 in
      word_there link_on (IsSome-holds _ _ link.2)
      ∙ first_word fold.second case.other case.second other_live' other_places' case.next_value link_back case.onward_is (λ twofold. (back_is twofold).0) link_on link.0 link.1 link.2
      (and_right (int_eq link.0 (pos fold.head)) (is_first link.1) leads)
      ∙ ap (λ (z : ℤ). end_word (first_of rest) (given'.word case.next_value) fold.head z) (same_offset link.0 (pos fold.head) (and_left (int_eq link.0 (pos fold.head)) (is_first link.1) leads))

  pub back_word : fold.twofold ≡ true → given'.word link_back ≡ end_word (last_of front) (given'.word case.prev_value) fold.back (pos fold.back)
  back_word twofold =
      let link = back_at parts fold.first fold.back link_back (back_is twofold).1 in
      let leads = and_right (nat_eq fold.first fold.first) (int_eq link.0 (pos fold.back) && is_last link.1) link.3 in
      word_there link_back (IsSome-holds _ _ link.2)
      ∙ last_word fold.first case.one case.first one_live' one_places' link_on case.prev_value on_is.0 (λ _. case.backward_is) twofold link_back link.0 link.1 link.2
      (and_right (int_eq link.0 (pos fold.back)) (is_last link.1) leads)
      ∙ ap (λ (z : ℤ). end_word (last_of front) (given'.word case.prev_value) fold.back z) (same_offset link.0 (pos fold.back) (and_left (int_eq link.0 (pos fold.back)) (is_last link.1) leads))

  -- Values.

  abbrev room : ℕ
  room = length state.memory

  abbrev pub Has' : Value → Word → Type 0
  Has' value word = HasWord room given'.blocks ends' value word

  first_address : (at : ℕ) (offset : ℤ) → FitsSigned w64 offset → given.word at ≡ end_word (first_of front) (given'.word link_on) fold.head offset → Has' (Address fold.first offset First) (given.word at)
  first_address at offset fits is =
      is ∙ ap (λ (w : Word). end_word (first_of front) w fold.head offset) on_word ∙ first_joined fold.head (given'.word case.next_value) front rest offset fits
      ∙ sym (ap (λ (bs : List ℕ). address_word First bs (ends' fold.first) offset) blocks_first ∙ ap (λ (e : Ends). address_word First (front ++ rest) e offset) ends_first)

  last_address : fold.twofold ≡ true → (at : ℕ) (offset : ℤ) → FitsSigned w64 offset → given.word at ≡ end_word (last_of rest) (given'.word link_back) fold.back offset → Has' (Address fold.first offset Last) (given.word at)
  last_address twofold at offset fits is =
      is ∙ ap (λ (w : Word). end_word (last_of rest) w fold.back offset) (back_word twofold) ∙ last_joined fold.back (given'.word case.prev_value) front rest offset fits
      ∙ sym (ap (λ (bs : List ℕ). address_word Last bs (ends' fold.first) offset) blocks_first ∙ ap (λ (e : Ends). address_word Last (front ++ rest) e offset) ends_first)

  -- what a value becomes has the value's word
  abbrev IsWordOf : Option Value → Word → Type 0
  IsWordOf found word = (after : Value) → found ≡ Some after → Has' after word

  alone_word : (value : Value) (word : Word) → Has' value word → IsWordOf (Some value) word
  alone_word value word has after is = subst (λ (v : Value). Has' v word) (same_Some _ _ is) has

  none_word : (word : Word) → IsWordOf None word
  none_word word after is = absurd (none-some after is)

  of_one : (at : ℕ) (offset : ℤ) (target : Target) → value_at parts.values at ≡ Some (Address fold.first offset target) → FitsSigned w64 offset → IsWordOf (of_first fold offset target) (given.word at)
  of_one at offset Region is fits =
      alone_word (Address fold.first offset First) (given.word at)
      (first_address at offset fits (first_word fold.first case.one case.first one_live' one_places' link_on case.prev_value on_is.0 (λ _. case.backward_is) at offset Region is refl))
  of_one at offset First is fits =
      alone_word (Address fold.first offset First) (given.word at)
      (first_address at offset fits (first_word fold.first case.one case.first one_live' one_places' link_on case.prev_value on_is.0 (λ _. case.backward_is) at offset First is refl))
  of_one at offset Last is fits = none_word (given.word at)
  of_one at offset Each is fits = alone_word (Address fold.first offset Each) (given.word at) (meets.values at (Address fold.first offset Each) is)

  of_other : (at : ℕ) (offset : ℤ) (target : Target) → value_at parts.values at ≡ Some (Address fold.second offset target) → FitsSigned w64 offset → IsWordOf (of_second fold offset target) (given.word at)
  of_other at offset Region is fits = by_way fold.twofold refl
    where
      by_way : (b : Bool) → fold.twofold ≡ b → IsWordOf (if b then Some (Address fold.first offset Last) else None) (given.word at)
      by_way true twofold =
          alone_word (Address fold.first offset Last) (given.word at)
          (last_address twofold at offset fits
          (last_word fold.second case.other case.second other_live' other_places' case.next_value link_back case.onward_is (λ twofold. (back_is twofold).0) twofold at offset Region is refl))
      by_way false single = none_word (given.word at)
  of_other at offset First is fits = none_word (given.word at)
  of_other at offset Last is fits = by_way fold.twofold refl
    where
      by_way : (b : Bool) → fold.twofold ≡ b → IsWordOf (if b then Some (Address fold.first offset Last) else None) (given.word at)
      by_way true twofold =
          alone_word (Address fold.first offset Last) (given.word at)
          (last_address twofold at offset fits
          (last_word fold.second case.other case.second other_live' other_places' case.next_value link_back case.onward_is (λ twofold. (back_is twofold).0) twofold at offset Last is refl))
      by_way false single = none_word (given.word at)
  of_other at offset Each is fits = alone_word (Address fold.first offset Each) (given.word at) (meets.values at (Address fold.second offset Each) is)

  of_third : (at object : ℕ) (offset : ℤ) (target : Target) → value_at parts.values at ≡ Some (Address object offset target) → nat_eq object fold.first ≡ false → nat_eq object fold.second ≡ false → Has' (Address object offset target) (given.word at)
  of_third at object offset target is other other' =
      let held = Holds-some (object_at parts.objects object) (closed.addresses at object offset target is) in
      meets.values at (Address object offset target) is
      ∙ ap (λ (bs : List ℕ). address_word target bs (ends object) offset) (sym (blocks_other object other))
      ∙ ap (λ (e : Ends). address_word target (given'.blocks object) e offset) (sym (ends_other object held.item held.is other other'))

  pub becomes : (at : ℕ) (value : Value) → value_at parts.values at ≡ Some value → IsWordOf (folded_value fold value) (given.word at)
  becomes at (Const number size) is = alone_word (Const number size) (given.word at) (meets.values at (Const number size) is)
  becomes at (Number size) is = alone_word (Number size) (given.word at) (meets.values at (Number size) is)
  becomes at Any is = alone_word Any (given.word at) (meets.values at Any is)
  becomes at (Address object offset target) is = by_first (nat_eq object fold.first) refl
    where
      fits : FitsSigned w64 offset
      fits = offset_in parts.values at (Address object offset target) offsets is

      by_second : (b : Bool) → nat_eq object fold.second ≡ b → nat_eq object fold.first ≡ false → IsWordOf (if b then of_second fold offset target else Some (Address object offset target)) (given.word at)
      by_second true same other = of_other at offset target (is ∙ ap (λ (k : ℕ). Some (Address k offset target)) (eqb-true _ _ same)) fits
      by_second false other' other = alone_word (Address object offset target) (given.word at) (of_third at object offset target is other other')

      by_first : (b : Bool) → nat_eq object fold.first ≡ b →
          IsWordOf (if b then of_first fold offset target else if nat_eq object fold.second then of_second fold offset target else Some (Address object offset target)) (given.word at)
      by_first true same = of_one at offset target (is ∙ ap (λ (k : ℕ). Some (Address k offset target)) (eqb-true _ _ same)) fits
      by_first false other = by_second (nat_eq object fold.second) refl other
