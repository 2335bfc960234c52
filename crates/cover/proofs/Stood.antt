-- Where one graph covers another one, it stands for each state that the other one stands for.
use Rattle.std.proofs.Common.{◌≡◌, ◌≢◌, ℕ, zero, suc, ◌+◌, ◌-◌, ◌^◌, ◌<◌, ◌≤◌, Bool, true, false, ◌&&◌, ◌||◌, List, [], ◌∷◌, map, length, take, drop, get_or, nat_eq, nat_lt, Option, None, Some, refl, sym, ◌∙◌, ap, subst, eqb-true, ltb-true, lt-ltb, arith, ◌⊎◌, inl, inr}
use Rattle.std.specs.Prelude.{IsSome, option_map, slice_get, ℤ, pos, if◌then◌else◌}
use Rattle.std.specs.List.{list_all}
use Rattle.std.specs.Option.{option_map_or}
use Rattle.std.proofs.lemmas.Bool.{false≢true}
use Rattle.std.proofs.lemmas.Option.{same_Some, none-some, slice_get-map, slice_get_cases}
use Rattle.std.proofs.lemmas.List.Sums.{AllPass-from_list_all}
use Rattle.bytes_core.specs.Value.{word_bytes}
use Rattle.bytes_core.specs.declared.block.BlockKind.{BlockKind}
use Rattle.bytes_core.specs.declared.byte.Byte.{Byte}
use Rattle.bytes_core.specs.declared.block.Block.{Block}
use Rattle.bytes_core.specs.declared.word.Word.{Word}
use Rattle.bytes_core.specs.declared.word.Word.TheVariants.{Plain, To}
use Rattle.graph.specs.declared.edges.HasValue.{HasValue}
use Rattle.graph.specs.declared.object.Links.{Links}
use Rattle.graph.specs.declared.object.Object.{Object}
use Rattle.graph.specs.declared.object.Shape.{Shape}
use Rattle.graph.specs.declared.object.Shape.TheVariants.{Region as RegionShape, Segment}
use Rattle.graph.specs.declared.value.Target.{Target}
use Rattle.graph.specs.declared.value.Value.{Value}
use Rattle.graph.specs.declared.value.Value.TheVariants.{Const, Number, Any, Address}
use Rattle.graph.specs.declared.parts.KeyedObject.{KeyedObject}
use Rattle.graph.specs.declared.parts.KeyedValue.{KeyedValue}
use Rattle.graph.specs.declared.parts.Pair.{Pair}
use Rattle.graph.specs.declared.parts.Parts.{Parts}
use Rattle.graph.specs.Maps.{object_at, value_at, storage_of, held_by}
use Rattle.graph.specs.Nodes.{is_region, links_in, own_node, node_in, node_of}
use Rattle.graph.specs.Sizes.{value_size, is_sized}
use Rattle.graph.specs.WellFormed.{IsWellFormed, edge_has_size, says_nothing}
use Rattle.graph.specs.State.{State, IsWordBelow}
use Rattle.graph.specs.Meaning.{IsNode, IsLinked, AreNodes, IsSegment, HoldsAt, HoldsBack, first_of, end_word, own_word, word_at, target_offset, HasShape, HasBlocksAs, HasBlocks, HasWord, IsGone, IsRooted, IsRootedWord, maps_of, Assignment, IsOwned, Meets, Ends, ends_in, ends_of, no_ends, address_word, HoldsWord, own_offset}
use Rattle.graph.proofs.Found.{Holds-some, IsSome-holds, found-all}
use Rattle.graph.proofs.Scalars.{size_of_sized}
use Rattle.graph.proofs.Tests.{and_left}
use Rattle.cover.specs.declared.content.Content.{Content}
use Rattle.cover.specs.declared.content.Content.TheVariants.{Fixed, Leads, Kept}
use Rattle.cover.specs.Covers.{content_of, content, Pairing, FitsNumber, FitsAny, Fits, HasPartner, AreLinkedAlike, AreLinksAlike, AreEndsPaired, IsLiveAs, IsAs, IsCover, Covers}
use Rattle.cover.proofs.Bounds.{above, above-bound, above-number}
use Rattle.cover.proofs.Bytes.{classes_above, hold-at, hold-all, zeros-hold, IsMatched, IsOfZeros, partner-cases}

-- the word of a value of the other graph
abbrev pub word_of : (ℕ → Ends) → Assignment → Content → Word
word_of ends given (Fixed number size) = Plain number
word_of ends given (Leads object offset target) = address_word target (given.blocks object) (ends object) offset
word_of ends given (Kept key) = given.word key

abbrev pub word_from : (ℕ → Ends) → Assignment → Option Content → Word
word_from ends given None = Plain 0
word_from ends given (Some content) = word_of ends given content

-- the word of a value of the wider graph, beyond whose objects these words lie: `number` is chosen where nothing is paired
abbrev pub word_as : (ℕ → Ends) → Assignment → (ℕ → List ℕ) → (ℕ → Ends) → ℕ → Option Content → Option Value → Word
word_as ends given blocks beyond number paired None = Plain 0
word_as ends given blocks beyond number paired (Some (Const constant size)) = Plain constant
word_as ends given blocks beyond number None (Some (Number size)) = Plain number
word_as ends given blocks beyond number (Some content) (Some (Number size)) = word_of ends given content
word_as ends given blocks beyond number paired (Some Any) = word_from ends given paired
word_as ends given blocks beyond number paired (Some (Address object offset target)) = address_word target (blocks object) (beyond object) offset

-- beyond the ends of an object that is paired lies what lies beyond those of its partner
abbrev pub ends_as : (ℕ → Ends) → Option ℕ → Ends
ends_as ends None = no_ends
ends_as ends (Some with) = ends with

-- the offset of a content that is each node's own address
abbrev own_of : Content → Option ℤ
own_of (Fixed number size) = None
own_of (Leads object offset target) = target_offset target offset
own_of (Kept key) = None

abbrev pub blocks_as : Assignment → ℕ → ℕ → Option ℕ → List ℕ
blocks_as given bound key None = (bound + key) ∷ []
blocks_as given bound key (Some with) = given.blocks with

abbrev IsKept : Content → Type 0
IsKept (Fixed number size) = ⊥
IsKept (Leads object offset target) = ⊥
IsKept (Kept key) = Unit {0}

abbrev IsFixed : Content → Type 0
IsFixed (Fixed number size) = Unit {0}
IsFixed (Leads object offset target) = ⊥
IsFixed (Kept key) = ⊥

abbrev or_zero : Option ℕ → ℕ
or_zero None = 0
or_zero (Some number) = number

-- the ends of a region are none
region_ends : (objects : ℕ → Option Object) (word : ℕ → Word) (key : ℕ) (object : Object) → objects key ≡ Some object → object.shape ≡ RegionShape → ends_of objects word key ≡ no_ends
region_ends objects word key object is region =
    ap (λ (o : Option Object). option_map_or (λ object. ends_in object.shape word) o no_ends) is ∙ ap (λ (shape : Shape). ends_in shape word) region

shape_is : (shape : Shape) → is_region shape ≡ true → shape ≡ RegionShape
shape_is RegionShape is = refl
shape_is (Segment twofold head next prev back least next_value prev_value node) is = absurd (false≢true is)

abbrev first_there : {X : Type 0} → List (Option X) → Option X
first_there [] = None
first_there (x ∷ xs) = x

abbrev rest_of : {X : Type 0} → List X → List X
rest_of [] = []
rest_of (x ∷ xs) = xs

-- pairs of values in place of lists of them

same_map : {A B C D : Type 0} (value : A → Option C) (cont : B → C) (f : A → D) (g : B → D) (w : C → D) →
    ((a : A) (c : C) → value a ≡ Some c → f a ≡ w c) → ((b : B) → w (cont b) ≡ g b) →
    (xs : List A) (ys : List B) → map value xs ≡ map (λ b. Some (cont b)) ys → map f xs ≡ map g ys
same_map value cont f g w left right [] [] equal = refl
same_map value cont f g w left right [] (y ∷ ys) equal = absurd (let e : 0 ≡ suc (length (map (λ b. Some (cont b)) ys)) = ap length equal in omega arith)
same_map value cont f g w left right (x ∷ xs) [] equal = absurd (let e : suc (length (map value xs)) ≡ 0 = ap length equal in omega arith)
same_map {A} {B} {C} {D} value cont f g w left right (x ∷ xs) (y ∷ ys) equal =
    let first : value x ≡ Some (cont y) = ap (λ (cs : List (Option C)). first_there cs) equal in
    let rest : map value xs ≡ map (λ b. Some (cont b)) ys = ap (λ (cs : List (Option C)). rest_of cs) equal in
    ap (λ (d : D). d ∷ map f xs) (left x (cont y) first ∙ right y) ∙ ap (λ (ds : List D). g y ∷ ds) (same_map value cont f g w left right xs ys rest)

same_option : {A B C D : Type 0} (value : A → Option C) (cont : B → C) (f : A → D) (g : B → D) (w : C → D) →
    ((a : A) (c : C) → value a ≡ Some c → f a ≡ w c) → ((b : B) → w (cont b) ≡ g b) →
    (x : Option A) (y : Option B) → option_map value x ≡ option_map (λ b. Some (cont b)) y → option_map f x ≡ option_map g y
same_option value cont f g w left right None None equal = refl
same_option value cont f g w left right None (Some y) equal = absurd (none-some _ equal)
same_option value cont f g w left right (Some x) None equal = absurd (none-some _ (sym equal))
same_option value cont f g w left right (Some x) (Some y) equal = ap Some (left x (cont y) (same_Some _ _ equal) ∙ right y)

module _ (wide narrow : Parts) (wide_is : IsWellFormed wide) (covers : Covers wide narrow) (state : State) (given : Assignment) (meets : Meets (maps_of narrow) state given) where
  abbrev p : Pairing
  p = covers.pairing

  cover : IsCover (maps_of wide) (maps_of narrow) p
  cover = covers.cover

  abbrev pub bound : ℕ
  bound = above given.blocks narrow.objects (length state.memory)

  -- what lies beyond the ends of the narrower graph's objects
  abbrev pub ends : ℕ → Ends
  ends = ends_of (object_at narrow.objects) given.word

  -- an object that is not paired is dead, and so a region
  alone_region : (key : ℕ) (object : Object) → object_at wide.objects key ≡ Some object → p.object key ≡ None → object.shape ≡ RegionShape
  alone_region key object stands alone = by_life object.live refl
    where
      by_life : (live : Bool) → object.live ≡ live → object.shape ≡ RegionShape
      by_life true live = let with = cover.live key object stands live in absurd (none-some with.0 (sym alone ∙ with.1))
      by_life false dead =
          let bare = found-all (λ (entry : KeyedObject). entry.key) (λ entry. entry.object) (λ object. object.live || (is_region object.shape && says_nothing object.edges object.plane)) wide.objects key object wide_is.dead_objects_are_bare stands in
          shape_is object.shape (and_left (is_region object.shape) (says_nothing object.edges object.plane) (subst (λ (b : Bool). (b || (is_region object.shape && says_nothing object.edges object.plane)) ≡ true) dead bare))

  -- what lies beyond the ends of the wider graph's objects
  abbrev pub beyond : ℕ → Ends
  beyond key = ends_as ends (p.object key)

  abbrev pub blocks : ℕ → List ℕ
  blocks key = blocks_as given bound key (p.object key)

  -- the word of a value of the narrower graph is that of its content
  pub content_word : (key : ℕ) → word_of ends given (content (maps_of narrow) key) ≡ given.word key
  content_word key = by_value (value_at narrow.values key) refl
    where
      by_value : (found : Option Value) → value_at narrow.values key ≡ found → word_of ends given (content_of key found) ≡ given.word key
      by_value None is = refl
      by_value (Some (Const number size)) is = sym (meets.values key (Const number size) is)
      by_value (Some (Number size)) is = refl
      by_value (Some Any) is = refl
      by_value (Some (Address object offset target)) is = sym (meets.values key (Address object offset target) is)

  module _ (number : ℕ → ℕ) where
    abbrev pub word : ℕ → Word
    word key = word_as ends given blocks beyond (number key) (p.value key) (value_at wide.values key)

    -- a paired value has the word of what it is paired with
    fits_word : (n : ℕ) (value : Value) (content : Content) → Fits (maps_of narrow) p value content → word_as ends given blocks beyond n (Some content) (Some value) ≡ word_of ends given content
    fits_word n (Const constant size) content fits = ap (word_of ends given) (sym fits)
    fits_word n (Number size) content fits = refl
    fits_word n Any content fits = refl
    fits_word n (Address object offset target) content fits =
        ap (λ (with : Option ℕ). address_word target (blocks_as given bound object with) (ends_as ends with) offset) fits.paired ∙ ap (word_of ends given) (sym fits.is)

    pub paired_word : (key : ℕ) (content : Content) → p.value key ≡ Some content → word key ≡ word_of ends given content
    paired_word key content paired =
        let at = cover.values key content paired in
        ap (λ (found : Option Value). word_as ends given blocks beyond (number key) (p.value key) found) at.stands
        ∙ ap (λ (c : Option Content). word_as ends given blocks beyond (number key) c (Some at.value)) paired
        ∙ fits_word (number key) at.value content at.fits

    -- Ends.

    abbrev all_ends : ℕ → Ends
    all_ends = ends_of (object_at wide.objects) word

    paired_ends : (shape other : Shape) → AreLinksAlike (links_in shape) (links_in other) →
        ((links other_links : Links) → links_in shape ≡ Some links → links_in other ≡ Some other_links → AreEndsPaired (maps_of narrow) p links other_links) → ends_in shape word ≡ ends_in other given.word
    paired_ends RegionShape RegionShape alike ends = refl
    paired_ends RegionShape (Segment twofold head next prev back least next_value prev_value node) alike ends = absurd alike
    paired_ends (Segment twofold head next prev back least next_value prev_value node) RegionShape alike ends = absurd alike
    paired_ends (Segment twofold head next prev back least next_value prev_value node) (Segment twofold' head' next' prev' back' least' next_value' prev_value' node') alike ends =
        let paired = ends _ _ refl refl in
        ap (λ (at : ℕ). the_ends at back (word next_value) (word prev_value)) (sym alike.head)
        ∙ ap (λ (at : ℕ). the_ends head' at (word next_value) (word prev_value)) (sym alike.back)
        ∙ ap (λ (w : Word). the_ends head' back' w (word prev_value)) (paired_word next_value (content (maps_of narrow) next_value') paired.next ∙ content_word next_value')
        ∙ ap (λ (w : Word). the_ends head' back' (given.word next_value') w) (paired_word prev_value (content (maps_of narrow) prev_value') paired.prev ∙ content_word prev_value')
      where
        the_ends : ℕ → ℕ → Word → Word → Ends
        the_ends head back after before = record { head = head; back = back; after = after; before = before }

    -- the same words lie beyond the ends of both of two objects that are paired
    same_ends : (key : ℕ) → all_ends key ≡ beyond key
    same_ends key = by_pair (p.object key) refl
      where
        by_object : p.object key ≡ None → (found : Option Object) → object_at wide.objects key ≡ found → all_ends key ≡ no_ends
        by_object alone None is = ap (λ (o : Option Object). option_map_or (λ object. ends_in object.shape word) o no_ends) is
        by_object alone (Some object) is = region_ends (object_at wide.objects) word key object is (alone_region key object is alone)

        by_pair : (with : Option ℕ) → p.object key ≡ with → all_ends key ≡ ends_as ends with
        by_pair None alone = by_object alone (object_at wide.objects key) refl
        by_pair (Some with) paired =
            let pair = cover.objects key with paired in
            ap (λ (o : Option Object). option_map_or (λ object. ends_in object.shape word) o no_ends) pair.one_stands
            ∙ paired_ends pair.one.shape pair.other.shape pair.alike.links pair.alike.ends
            ∙ sym (ap (λ (o : Option Object). option_map_or (λ object. ends_in object.shape given.word) o no_ends) pair.other_stands)

    -- Objects.

    small_edge : (edge : HasValue) → edge_has_size wide edge ≡ true → edge.size ≤ 8
    small_edge edge has = by_value (value_at wide.values edge.value) refl has
      where
        by_value : (found : Option Value) → value_at wide.values edge.value ≡ found → option_map_or (λ value. nat_eq (value_size value) edge.size) found false ≡ true → edge.size ≤ 8
        by_value None is has = absurd (false≢true has)
        by_value (Some value) is has =
            let e = eqb-true (value_size value) edge.size has in
            let small = size_of_sized value (found-all (λ (entry : KeyedValue). entry.key) (λ entry. entry.value) is_sized wide.values edge.value value wide_is.values_are_sized is) in
            omega arith

    moved : (bytes : List Byte) (one other : HasValue) (w : Word) → other.at ≡ one.at → other.size ≡ one.size → HoldsWord bytes other w → HoldsWord bytes one w
    moved bytes one other w at size hold =
        subst (λ (n : ℕ). take n (drop one.at bytes) ≡ take n (word_bytes w)) size (subst (λ (n : ℕ). take other.size (drop n bytes) ≡ take other.size (word_bytes w)) at hold)

    -- a block that meets what is said of the other object's blocks meets what is said of the one's, where the words are these
    node : (words : Content → Word) (w v : ℕ → Word) → ((key : ℕ) (content : Content) → p.value key ≡ Some content → w key ≡ words content) → ((key : ℕ) → words (content (maps_of narrow) key) ≡ v key) →
        ((size : ℕ) → words (Fixed 0 size) ≡ Plain 0) → (one other : Object) (block : Block) → list_all (edge_has_size wide) (node_of one).edges ≡ true → IsAs (maps_of narrow) p one other → IsLiveAs (maps_of narrow) p one other →
        IsNode other.size other.kind (node_of other) v block → IsNode one.size one.kind (node_of one) w block
    node words w v paired kept zero_is one other block sizes like alike is = record {
      live = is.live;
      kind = is.kind ∙ like.kind;
      size = is.size ∙ alike.size;
      edges = hold-all block.bytes w (λ edge. HasPartner (maps_of narrow) p (node_of other) edge × (edge.size ≤ 8)) (λ edge both. edge_holds edge both.0 both.1) (node_of one).edges
          (λ k d within. (alike.edges k d within, small_edge (get_or (node_of one).edges k d) (AllPass-from_list_all (edge_has_size wide) (node_of one).edges sizes k d within)));
      classes = classes_above (node_of other).plane (node_of one).plane block.bytes alike.classes is.classes;
    }
      where
        edge_holds : (edge : HasValue) → HasPartner (maps_of narrow) p (node_of other) edge → edge.size ≤ 8 → HoldsWord block.bytes edge (w edge.value)
        edge_holds edge has small = by_partner edge (partner-cases (maps_of narrow) p (node_of other) edge has) small
          where
            by_partner : (edge : HasValue) → IsMatched (maps_of narrow) p (node_of other) edge ⊎ IsOfZeros p (node_of other) edge → edge.size ≤ 8 → HoldsWord block.bytes edge (w edge.value)
            by_partner edge (inl matched) small =
                subst (λ (word : Word). HoldsWord block.bytes edge word) (sym (paired edge.value (content (maps_of narrow) matched.with.value) matched.paired ∙ kept matched.with.value))
                (moved block.bytes edge matched.with (v matched.with.value) matched.at matched.size (hold-at block.bytes v (node_of other).edges matched.with matched.stands is.edges))
            by_partner edge (inr zeros) small =
                subst (λ (word : Word). HoldsWord block.bytes edge word) (sym (paired edge.value (Fixed 0 edge.size) zeros.paired ∙ zero_is edge.size))
                (zeros-hold (node_of other).plane block.bytes edge small zeros.zeros is.classes)

    abbrev own : ℕ → Option ℤ
    own key = own_offset (value_at wide.values key)

    abbrev other_own : ℕ → Option ℤ
    other_own key = own_offset (value_at narrow.values key)

    -- the word of a content at a node
    abbrev node_word : ℕ → Content → Word
    node_word at content = own_word (own_of content) (word_of ends given content) at

    own_paired : (key : ℕ) (content : Content) → p.value key ≡ Some content → own key ≡ own_of content
    own_paired key content paired = let at = cover.values key content paired in ap own_offset at.stands ∙ by_value at.value content at.fits
      where
        of_any : (content : Content) → FitsAny (maps_of narrow) content → None ≡ own_of content
        of_any (Fixed number size) fits = refl
        of_any (Leads object offset target) fits = absurd fits
        of_any (Kept key) fits = refl

        of_number : (size : ℕ) (content : Content) → FitsNumber (maps_of narrow) size content → None ≡ own_of content
        of_number size (Fixed number other) fits = refl
        of_number size (Leads object offset target) fits = absurd fits
        of_number size (Kept key) fits = refl

        by_value : (value : Value) (content : Content) → Fits (maps_of narrow) p value content → own_offset (Some value) ≡ own_of content
        by_value (Const number size) content fits = ap own_of (sym fits)
        by_value (Number size) content fits = of_number size content fits
        by_value Any content fits = of_any content fits
        by_value (Address object offset target) content fits = ap own_of (sym fits.is)

    own_content : (key : ℕ) (found : Option Value) → own_of (content_of key found) ≡ own_offset found
    own_content key None = refl
    own_content key (Some (Const number size)) = refl
    own_content key (Some (Number size)) = refl
    own_content key (Some Any) = refl
    own_content key (Some (Address object offset target)) = refl

    node_paired : (at key : ℕ) (content : Content) → p.value key ≡ Some content → word_at word own at key ≡ node_word at content
    node_paired at key content paired =
        ap (λ (w : Word). own_word (own key) w at) (paired_word key content paired) ∙ ap (λ (o : Option ℤ). own_word o (word_of ends given content) at) (own_paired key content paired)

    node_content : (at key : ℕ) → node_word at (content (maps_of narrow) key) ≡ word_at given.word other_own at key
    node_content at key =
        ap (λ (w : Word). own_word (own_of (content (maps_of narrow) key)) w at) (content_word key) ∙ ap (λ (o : Option ℤ). own_word o (given.word key) at) (own_content key (value_at narrow.values key))

    module _ (one other : Object) (sizes : list_all (edge_has_size wide) (node_of one).edges ≡ true) (like : IsAs (maps_of narrow) p one other) (alike : IsLiveAs (maps_of narrow) p one other) where
      region_as : (numbers : List ℕ) → one.shape ≡ RegionShape → other.shape ≡ RegionShape →
          HasShape RegionShape state.memory other given.word other_own numbers → HasShape RegionShape state.memory one word own numbers
      region_as numbers region other_region (n, is, at) = (
        n,
        is,
        record {
          block = at.block;
          there = at.there;
          node = subst (λ (shape : Shape). IsNode one.size one.kind (node_in shape (own_node one)) word at.block) region
              (node (word_of ends given) word given.word paired_word content_word (λ size. refl) one other at.block sizes like alike
              (subst (λ (shape : Shape). IsNode other.size other.kind (node_in shape (own_node other)) given.word at.block) (sym other_region) at.node));
        },
      )

      holds_back : (twofold other_twofold : Bool) (bytes : List Byte) (at other_at : ℕ) (backward other_backward : Word) → other_twofold ≡ twofold → other_at ≡ at → other_backward ≡ backward →
          HoldsBack other_twofold bytes other_at other_backward → HoldsBack twofold bytes at backward
      holds_back twofold other_twofold bytes at other_at backward other_backward same same_at same_word holds =
          subst (λ (b : Bool). HoldsBack b bytes at backward) same
          (subst (λ (n : ℕ). HoldsBack other_twofold bytes n backward) same_at (subst (λ (w : Word). HoldsBack other_twofold bytes other_at w) same_word holds))

      linked : (links other_links : Links) → AreLinkedAlike links other_links → (onward other_onward backward other_backward : Word) → other_onward ≡ onward → other_backward ≡ backward → (at : ℕ) →
          IsLinked state.memory other other_links (node_of other) (word_at given.word other_own at) other_onward other_backward at →
          IsLinked state.memory one links (node_of one) (word_at word own at) onward backward at
      linked links other_links same onward other_onward backward other_backward same_onward same_backward at is = record {
        block = is.block;
        there = is.there;
        node = node (node_word at) (word_at word own at) (word_at given.word other_own at) (node_paired at) (node_content at) (λ size. refl) one other is.block sizes like alike is.node;
        next = subst (λ (n : ℕ). HoldsAt is.block.bytes n onward) same.next (subst (λ (w : Word). HoldsAt is.block.bytes other_links.next w) same_onward is.next);
        prev = holds_back links.twofold other_links.twofold is.block.bytes links.prev other_links.prev backward other_backward same.twofold same.prev same_backward is.prev;
      }

      are_nodes : (links other_links : Links) → AreLinkedAlike links other_links → (after other_after before other_before : Word) → other_after ≡ after → other_before ≡ before → (numbers : List ℕ) →
          AreNodes state.memory other other_links (node_of other) given.word other_own other_after other_before numbers → AreNodes state.memory one links (node_of one) word own after before numbers
      are_nodes links other_links same after other_after before other_before same_after same_before [] nodes = tt
      are_nodes links other_links same after other_after before other_before same_after same_before (at ∷ rest) nodes = (
        linked links other_links same (end_word (first_of rest) after links.head (pos links.head)) (end_word (first_of rest) other_after other_links.head (pos other_links.head)) before other_before
            (ap (λ (w : Word). end_word (first_of rest) w other_links.head (pos other_links.head)) same_after ∙ ap (λ (n : ℕ). end_word (first_of rest) after n (pos n)) same.head) same_before at nodes.0,
        are_nodes links other_links same after other_after (To at (pos links.back)) (To at (pos other_links.back)) same_after (ap (λ (n : ℕ). To at (pos n)) same.back) rest nodes.1,
      )

      segment_as : (numbers : List ℕ) (links other_links : Links) → AreLinkedAlike links other_links → AreEndsPaired (maps_of narrow) p links other_links →
          IsSegment state.memory other other_links (node_of other) given.word other_own numbers → IsSegment state.memory one links (node_of one) word own numbers
      segment_as numbers links other_links same paired (least, nodes) = (
        let fewer = same.least in omega (arith, fewer, least),
        are_nodes links other_links same (word links.next_value) (given.word other_links.next_value) (end_word None (word links.prev_value) links.back (pos links.back))
            (end_word None (given.word other_links.prev_value) other_links.back (pos other_links.back))
            (sym (paired_word links.next_value (content (maps_of narrow) other_links.next_value) paired.next ∙ content_word other_links.next_value))
            (ap (λ (w : Word). end_word None w other_links.back (pos other_links.back)) (sym (paired_word links.prev_value (content (maps_of narrow) other_links.prev_value) paired.prev ∙ content_word other_links.prev_value))
            ∙ ap (λ (n : ℕ). end_word None (word links.prev_value) n (pos n)) same.back)
            numbers nodes,
      )

      shape_as : (numbers : List ℕ) → HasShape other.shape state.memory other given.word other_own numbers → HasShape one.shape state.memory one word own numbers
      shape_as numbers = by_shapes one.shape other.shape refl refl like.links like.ends
        where
          by_shapes : (shape other_shape : Shape) → one.shape ≡ shape → other.shape ≡ other_shape → AreLinksAlike (links_in shape) (links_in other_shape) →
              ((links other_links : Links) → links_in shape ≡ Some links → links_in other_shape ≡ Some other_links → AreEndsPaired (maps_of narrow) p links other_links) →
              HasShape other_shape state.memory other given.word other_own numbers → HasShape shape state.memory one word own numbers
          by_shapes RegionShape RegionShape is other_is same paired has = region_as numbers is other_is has
          by_shapes RegionShape (Segment twofold head next prev back least next_value prev_value template) is other_is same paired has = absurd same
          by_shapes (Segment twofold head next prev back least next_value prev_value template) RegionShape is other_is same paired has = absurd same
          by_shapes (Segment twofold head next prev back least next_value prev_value template) (Segment twofold' head' next' prev' back' least' next_value' prev_value' template') is other_is same paired has =
              subst (λ (shape : Shape). IsSegment state.memory one (record { twofold = twofold; head = head; next = next; prev = prev; back = back; least = least; next_value = next_value; prev_value = prev_value }) (node_in shape (own_node one)) word own numbers) is
              (segment_as numbers _ _ same (paired _ _ refl refl)
              (subst (λ (shape : Shape). IsSegment state.memory other (record { twofold = twofold'; head = head'; next = next'; prev = prev'; back = back'; least = least'; next_value = next_value'; prev_value = prev_value' })
              (node_in shape (own_node other)) given.word other_own numbers) (sym other_is) has))

    blocks_alike : (live : Bool) (one other : Object) (numbers : List ℕ) → one.live ≡ live → list_all (edge_has_size wide) (node_of one).edges ≡ true →
        IsAs (maps_of narrow) p one other → HasBlocksAs live state.memory other given.word other_own numbers → HasBlocksAs live state.memory one word own numbers
    blocks_alike true one other numbers live sizes like has = shape_as one other sizes like (like.alike live) numbers has
    blocks_alike false one other numbers live sizes like (n, is, gone) = (n, is, subst (λ (kind : BlockKind). IsGone kind (slice_get state.memory n)) like.kind gone)

    has_blocks : (key : ℕ) (object : Object) → object_at wide.objects key ≡ Some object → HasBlocks state.memory object word own (blocks key)
    has_blocks key object stands = by_pair (p.object key) refl
      where
        by_life : (live : Bool) → object.live ≡ live → p.object key ≡ None → HasBlocksAs live state.memory object word own ((bound + key) ∷ [])
        by_life true live alone = let with = cover.live key object stands live in absurd (none-some with.0 (sym alone ∙ with.1))
        by_life false dead alone = (bound + key, refl, gone)
          where
            gone : IsGone object.kind (slice_get state.memory (bound + key))
            gone = elim (slice_get_cases state.memory (bound + key)).1 [
              | inl found ↦ (
                  let below = found.1 in
                  let over = above-bound given.blocks narrow.objects (length state.memory) in
                  absurd (omega arith))
              | inr past ↦ subst (IsGone object.kind) (sym past.1) tt
            ]

        by_pair : (with : Option ℕ) → p.object key ≡ with → HasBlocksAs object.live state.memory object word own (blocks_as given bound key with)
        by_pair None alone = by_life object.live refl alone
        by_pair (Some with) paired =
            let pair = cover.objects key with paired in
            let same : pair.one ≡ object = same_Some _ _ (sym pair.one_stands ∙ stands) in
            let like = subst (λ (one : Object). IsAs (maps_of narrow) p one pair.other) same pair.alike in
            let sizes = found-all (λ (entry : KeyedObject). entry.key) (λ entry. entry.object) (λ object. list_all (edge_has_size wide) (node_of object).edges) wide.objects key object wide_is.edges_have_their_sizes stands in
            blocks_alike object.live object pair.other (given.blocks with) refl sizes like
            (subst (λ (live : Bool). HasBlocksAs live state.memory pair.other given.word other_own (given.blocks with)) like.live (meets.objects with pair.other pair.other_stands))

    -- Values.

    has_word : ((key size : ℕ) → value_at wide.values key ≡ Some (Number size) → p.value key ≡ None → number key < 256 ^ size) →
        (key : ℕ) (value : Value) → value_at wide.values key ≡ Some value → HasWord (length state.memory) blocks all_ends value (word key)
    has_word small key value stands =
        subst (λ (found : Option Value). HasWord (length state.memory) blocks all_ends value (word_as ends given blocks beyond (number key) (p.value key) found)) (sym stands) (by_value value stands)
      where
        fits : (value : Value) (content : Content) → value_at wide.values key ≡ Some value → p.value key ≡ Some content → Fits (maps_of narrow) p value content
        fits value content is paired =
            let at = cover.values key content paired in
            subst (λ (v : Value). Fits (maps_of narrow) p v content) (same_Some _ _ (sym at.stands ∙ is)) at.fits

        number_word : (size : ℕ) (paired : Option Content) → value_at wide.values key ≡ Some (Number size) → p.value key ≡ paired →
            HasWord (length state.memory) blocks all_ends (Number size) (word_as ends given blocks beyond (number key) paired (Some (Number size)))
        number_word size None is alone = (number key, refl, small key size is alone)
        number_word size (Some (Fixed n other)) is paired = (n, refl, (fits (Number size) (Fixed n other) is paired).1)
        number_word size (Some (Leads object offset target)) is paired = absurd (fits (Number size) (Leads object offset target) is paired)
        number_word size (Some (Kept other)) is paired = meets.values other (Number size) (fits (Number size) (Kept other) is paired)

        below : (size : ℕ) (n : ℕ) → size ≡ 8 → n < 256 ^ size → IsWordBelow (length state.memory) (Plain n)
        below size n is small = let e = subst (λ (s : ℕ). n < 256 ^ s) is small in record { small = omega arith; named = tt }

        any_word : (paired : Option Content) → value_at wide.values key ≡ Some Any → p.value key ≡ paired → IsWordBelow (length state.memory) (word_from ends given paired)
        any_word None is alone = record { small = omega arith; named = tt }
        any_word (Some (Fixed n other)) is paired = below 8 n refl (fits Any (Fixed n other) is paired).1
        any_word (Some (Leads object offset target)) is paired = absurd (fits Any (Leads object offset target) is paired)
        any_word (Some (Kept other)) is paired = either (fits Any (Kept other) is paired)
          where
            either : (value_at narrow.values other ≡ Some Any) ⊎ (value_at narrow.values other ≡ Some (Number 8)) → IsWordBelow (length state.memory) (given.word other)
            either (inl any) = meets.values other Any any
            either (inr eight) =
                let has = meets.values other (Number 8) eight in
                subst (λ (w : Word). IsWordBelow (length state.memory) w) (sym has.1) (below 8 has.0 refl has.2)

        by_value : (value : Value) → value_at wide.values key ≡ Some value → HasWord (length state.memory) blocks all_ends value (word_as ends given blocks beyond (number key) (p.value key) (Some value))
        by_value (Const n size) is = refl
        by_value (Number size) is = number_word size (p.value key) is refl
        by_value Any is = any_word (p.value key) is refl
        by_value (Address object offset target) is = ap (λ (e : Ends). address_word target (blocks object) e offset) (sym (same_ends object))

    -- Blocks.

    abbrev owner : ℕ → ℕ
    owner n = if nat_lt n bound then or_zero (p.back (given.owner n)) else n - bound

    abbrev place : ℕ → ℕ
    place n = if nat_lt n bound then given.place n else 0

    old : (key place n : ℕ) → IsSome (object_at narrow.objects key) → slice_get (given.blocks key) place ≡ Some n → nat_lt n bound ≡ true
    old key place n some is =
        let held = Holds-some (object_at narrow.objects key) some in
        lt-ltb _ _ (above-number given.blocks narrow.objects (length state.memory) key place n held.item held.is is)

    new : (key : ℕ) → nat_lt (bound + key) bound ≡ false
    new key = by_test (nat_lt (bound + key) bound) refl
      where
        by_test : (b : Bool) → nat_lt (bound + key) bound ≡ b → nat_lt (bound + key) bound ≡ false
        by_test false is = is
        by_test true is = let e = ltb-true _ _ is in absurd (omega arith)

    alone_at : (first place n : ℕ) → slice_get (first ∷ []) place ≡ Some n → (place ≡ 0) × (first ≡ n)
    alone_at first zero n is = (refl, same_Some first n is)
    alone_at first (suc place) n is = absurd (none-some n is)

    there : (key with : ℕ) → p.object key ≡ Some with → IsSome (object_at narrow.objects with)
    there key with paired = let pair = cover.objects key with paired in IsSome-holds _ pair.other pair.other_stands

    owners : (key at n : ℕ) → slice_get (blocks key) at ≡ Some n → owner n ≡ key
    owners key at n is = by_pair (p.object key) refl is
      where
        by_pair : (with : Option ℕ) → p.object key ≡ with → slice_get (blocks_as given bound key with) at ≡ Some n → owner n ≡ key
        by_pair None alone is =
            let only = (alone_at (bound + key) at n is).1 in
            ap owner (sym only) ∙ ap (λ (b : Bool). if b then or_zero (p.back (given.owner (bound + key))) else bound + key - bound) (new key) ∙ omega arith
        by_pair (Some with) paired is =
            let some = there key with paired in
            ap (λ (b : Bool). if b then or_zero (p.back (given.owner n)) else n - bound) (old with at n some is)
            ∙ ap (λ (k : ℕ). or_zero (p.back k)) (meets.owners with at n some is) ∙ ap or_zero (cover.there key with paired)

    places : (key at n : ℕ) → slice_get (blocks key) at ≡ Some n → place n ≡ at
    places key at n is = by_pair (p.object key) refl is
      where
        by_pair : (with : Option ℕ) → p.object key ≡ with → slice_get (blocks_as given bound key with) at ≡ Some n → place n ≡ at
        by_pair None alone is =
            let only = alone_at (bound + key) at n is in
            ap place (sym only.1) ∙ ap (λ (b : Bool). if b then given.place (bound + key) else 0) (new key) ∙ sym only.0
        by_pair (Some with) paired is =
            let some = there key with paired in
            ap (λ (b : Bool). if b then given.place n else 0) (old with at n some is) ∙ meets.places with at n some is

    abbrev pub chosen_given : Assignment
    chosen_given = record { word = word; blocks = blocks; owner = owner; place = place }

    -- a live block is that of a live object, which is paired
    used : (n : ℕ) (block : Block) → slice_get state.memory n ≡ Some block → block.live ≡ true → IsOwned (maps_of wide) chosen_given n
    used n block stands live =
        let is = meets.used n block stands live in
        let held = Holds-some (object_at narrow.objects (given.owner n)) is.object in
        by_life held.item held.is held.item.live refl (meets.objects (given.owner n) held.item held.is) is.block
      where
        paired : (key : ℕ) → p.object key ≡ Some (given.owner n) → slice_get (given.blocks (given.owner n)) (given.place n) ≡ Some n → IsOwned (maps_of wide) chosen_given n
        paired key with is =
            let at : slice_get (blocks key) (given.place n) ≡ Some n = ap (λ (w : Option ℕ). slice_get (blocks_as given bound key w) (given.place n)) with ∙ is in
            let own : owner n ≡ key = owners key (given.place n) n at in
            let pair = cover.objects key (given.owner n) with in
            record {
              object = subst (λ (k : ℕ). IsSome (object_at wide.objects k)) (sym own) (IsSome-holds _ pair.one pair.one_stands);
              block = ap (λ (k : ℕ). slice_get (blocks k) (place n)) own ∙ ap (slice_get (blocks key)) (places key (given.place n) n at) ∙ at;
            }

        by_life : (object : Object) → object_at narrow.objects (given.owner n) ≡ Some object → (lives : Bool) → object.live ≡ lives →
            HasBlocksAs object.live state.memory object given.word other_own (given.blocks (given.owner n)) → slice_get (given.blocks (given.owner n)) (given.place n) ≡ Some n → IsOwned (maps_of wide) chosen_given n
        by_life object is true lives has at =
            let key = cover.other_live (given.owner n) object is lives in
            paired key.0 (cover.back key.0 (given.owner n) key.1) at
        by_life object is false dead has at =
            let gone = subst (λ (b : Bool). HasBlocksAs b state.memory object given.word other_own (given.blocks (given.owner n))) dead has in
            let only = (alone_at gone.0 (given.place n) n (ap (λ (bs : List ℕ). slice_get bs (given.place n)) (sym gone.1) ∙ at)).1 in
            let is_gone = subst (λ (o : Option Block). IsGone object.kind o) (ap (slice_get state.memory) only ∙ stands) gone.2 in
            absurd (false≢true (sym is_gone.0 ∙ live))

    -- Roots.

    -- the port of the narrower graph at a place
    pub other_port : (place port : ℕ) → slice_get wide.ports place ≡ Some port → (other : ℕ) × (slice_get narrow.ports place ≡ Some other) × (p.value port ≡ Some (content (maps_of narrow) other))
    other_port place port stands = by_other (slice_get narrow.ports place) refl
      where
        both : option_map p.value (slice_get wide.ports place) ≡ option_map (λ key. Some (content (maps_of narrow) key)) (slice_get narrow.ports place)
        both = sym (slice_get-map p.value wide.ports place) ∙ ap (λ (list : List (Option Content)). slice_get list place) cover.ports ∙ slice_get-map (λ key. Some (content (maps_of narrow) key)) narrow.ports place

        by_other : (found : Option ℕ) → slice_get narrow.ports place ≡ found → (other : ℕ) × (slice_get narrow.ports place ≡ Some other) × (p.value port ≡ Some (content (maps_of narrow) other))
        by_other None is =
            absurd (none-some (p.value port) (sym (sym (ap (option_map p.value) stands) ∙ both ∙ ap (option_map (λ key. Some (content (maps_of narrow) key))) is)))
        by_other (Some other) is = (other, is, same_Some _ _ (sym (ap (option_map p.value) stands) ∙ both ∙ ap (option_map (λ key. Some (content (maps_of narrow) key))) is))

    -- an address among the ports is paired with one
    address_rooted : (key : ℕ) (found : Option Value) → value_at narrow.values key ≡ found → (object : ℕ) (offset : ℤ) (target : Target) →
        content_of key found ≡ Leads object offset target → IsRooted state.roots (value_at narrow.values key) (given.word key) → IsRootedWord state.roots (given.word key)
    address_rooted key None is object offset target leads rooted = absurd (subst (λ (c : Content). IsKept c) leads tt)
    address_rooted key (Some (Const n size)) is object offset target leads rooted = absurd (subst (λ (c : Content). IsFixed c) leads tt)
    address_rooted key (Some (Number size)) is object offset target leads rooted = absurd (subst (λ (c : Content). IsKept c) leads tt)
    address_rooted key (Some Any) is object offset target leads rooted = absurd (subst (λ (c : Content). IsKept c) leads tt)
    address_rooted key (Some (Address object' offset' target')) is object offset target leads rooted =
        subst (λ (found : Option Value). IsRooted state.roots found (given.word key)) is rooted

    rooted : (place port : ℕ) → slice_get wide.ports place ≡ Some port → IsRooted state.roots (value_at wide.values port) (word port)
    rooted place port stands = by_value (value_at wide.values port) refl
      where
        other : (other : ℕ) × (slice_get narrow.ports place ≡ Some other) × (p.value port ≡ Some (content (maps_of narrow) other))
        other = other_port place port stands

        same_word : word port ≡ given.word other.0
        same_word = paired_word port (content (maps_of narrow) other.0) other.2 ∙ content_word other.0

        by_value : (found : Option Value) → value_at wide.values port ≡ found → IsRooted state.roots found (word port)
        by_value None is = tt
        by_value (Some (Const n size)) is = tt
        by_value (Some (Number size)) is = tt
        by_value (Some Any) is = tt
        by_value (Some (Address object offset target)) is =
            let at = cover.values port (content (maps_of narrow) other.0) other.2 in
            let fits = subst (λ (v : Value). Fits (maps_of narrow) p v (content (maps_of narrow) other.0)) (same_Some _ _ (sym at.stands ∙ is)) at.fits in
            subst (IsRootedWord state.roots) (sym same_word)
            (address_rooted other.0 (value_at narrow.values other.0) refl fits.other offset target fits.is (meets.rooted place other.0 other.1))

    -- the wider graph stands for the state, if numbers were chosen that fit and the words of its unequal pairs differ
    pub stood : ((key size : ℕ) → value_at wide.values key ≡ Some (Number size) → p.value key ≡ None → number key < 256 ^ size) →
        ((place : ℕ) (pair : Pair) → slice_get wide.unequal place ≡ Some pair → word pair.left ≢ word pair.right) → Meets (maps_of wide) state chosen_given
    stood small unequal = record {
      values = has_word small;
      objects = has_blocks;
      owners = λ key at n some is. owners key at n is;
      places = λ key at n some is. places key at n is;
      used = used;
      variables = λ variable. meets.variables variable ∙ sym (same_storage (storage_of wide.variables variable) (storage_of narrow.variables variable) (cover.variables variable));
      registers = λ register. meets.registers register
          ∙ sym (same_option p.value (content (maps_of narrow)) word given.word (word_of ends given) paired_word content_word (held_by wide.registers register) (held_by narrow.registers register) (cover.registers register));
      ports = meets.ports ∙ sym (same_map p.value (content (maps_of narrow)) word given.word (word_of ends given) paired_word content_word wide.ports narrow.ports cover.ports);
      rooted = rooted;
      unequal = unequal;
    }
      where
        same_storage : (one other : Option ℕ) → option_map p.object one ≡ option_map Some other → option_map blocks one ≡ option_map given.blocks other
        same_storage None None equal = refl
        same_storage None (Some other) equal = absurd (none-some _ equal)
        same_storage (Some one) None equal = absurd (none-some _ (sym equal))
        same_storage (Some one) (Some other) equal = ap (λ (w : Option ℕ). Some (blocks_as given bound one w)) (same_Some _ _ equal)
