-- Objects of a graph, and of the graph in which the first node of a segment is a region, stand for their blocks in both.
use Rattle.std.proofs.Common.{◌≡◌, ℕ, ◌+◌, Bool, true, false, List, [], ◌∷◌, length, nat_eq, ℤ, pos, Option, None, Some, refl, sym, ◌∙◌, ap, subst, eqb-true}
use Rattle.std.specs.Prelude.{IsSome, ◌-ℤ◌, if◌then◌else◌}
use Rattle.std.specs.List.{list_all}
use Rattle.std.specs.Option.{option_map_or}
use Rattle.std.proofs.lemmas.Bool.{false≢true}
use Rattle.bytes_core.specs.declared.block.Block.{Block}
use Rattle.bytes_core.specs.declared.word.Word.{Word}
use Rattle.bytes_core.specs.Value.{moved}
use Rattle.graph.specs.declared.edges.HasValue.{HasValue}
use Rattle.graph.specs.declared.object.Object.{Object}
use Rattle.graph.specs.declared.value.Target.{Target}
use Rattle.graph.specs.declared.value.Target.TheVariants.{Region, First, Last, Each}
use Rattle.graph.specs.declared.value.Value.{Value}
use Rattle.graph.specs.declared.value.Value.TheVariants.{Const, Number, Any, Address}
use Rattle.graph.specs.declared.parts.KeyedObject.{KeyedObject}
use Rattle.graph.specs.declared.parts.Parts.{Parts}
use Rattle.graph.specs.Closed.{IsClosed}
use Rattle.graph.specs.Maps.{object_at, value_at}
use Rattle.graph.specs.Nodes.{own_node, node_of}
use Rattle.graph.specs.WellFormed.{passes_at, may_stand_in}
use Rattle.graph.specs.Whole.{IsGraph}
use Rattle.graph.specs.Meaning.{HasBlocks, end_word, first_of, Ends, ends_in, no_ends, address_word, own_word, word_at, HasWord, own_offset, maps_of, Assignment}
use Rattle.graph.proofs.Closed.{closed_of}
use Rattle.graph.proofs.Found.{Holds-some}
use Rattle.graph.proofs.Frames.{OnNamed-weaker, Agrees, HasBlocks-agree}
use Rattle.graph.proofs.Sent.{passes-some}
use Rattle.graph.proofs.Tests.{and_left, and_right}
use Rattle.materialise.specs.SplitFirst.{is_own_target, is_own, own_values, alone_key, link_value, first_target}
use Rattle.materialise.specs.WithOne.{HaveOffsets}
use Rattle.materialise.proofs.FirstBlocks.{apart, together}
use Rattle.materialise.proofs.FirstCase.{IsSplit, object, after, change, new_object, rest_object, object_rest, value_was, alone_plain}
use Rattle.materialise.proofs.FirstForm.{sized_at, leads_at, offset_at, prev_there, next_there, link_value_is, prev_outward}
use Rattle.materialise.proofs.FirstKeys.{entry_passes}
use Rattle.materialise.proofs.FirstLinked.{AreAlone}
use Rattle.materialise.proofs.FirstParted.{AreParted, words_there, ends_before, ends_behind, same_word}
use Rattle.materialise.proofs.FirstWords.{still}

module _ (parts : Parts) (graph : IsGraph parts) (key : ℕ) (split : IsSplit parts key) where
  abbrev now : Value → Value
  now = change parts graph key split

  abbrev whole : Object
  whole = object parts graph key split

  -- a value is a node's own address in the same way
  change_own : (value : Value) → own_offset (Some value) ≡ own_offset (Some (now value))
  change_own (Const number size) = refl
  change_own (Number size) = refl
  change_own Any = refl
  change_own (Address other offset target) = by_key (nat_eq other key) target
    where
      by_key : (b : Bool) (target : Target) → own_offset (Some (Address other offset target)) ≡
          own_offset (Some (if b then first_target (length parts.objects) key target offset else Address other offset target))
      by_key false target = refl
      by_key true Region = refl
      by_key true First = refl
      by_key true Last = refl
      by_key true Each = refl

  abbrev pub own : ℕ → Option ℤ
  own at = own_offset (value_at parts.values at)

  abbrev pub own' : ℕ → Option ℤ
  own' at = own_offset (value_at (after parts graph key split).values at)

  own_same : (at : ℕ) → IsSome (value_at parts.values at) → own at ≡ own' at
  own_same at some =
      let held = Holds-some (value_at parts.values at) some in
      ap own_offset held.is ∙ change_own held.item ∙ sym (ap own_offset (value_was parts graph key split at held.item held.is))

  closed : IsClosed (maps_of parts)
  closed = closed_of parts graph.well_formed

  -- own addresses that stand in the segment are its own
  pub other_own : (value : Value) → may_stand_in key value ≡ true → is_own key value ≡ false → own_offset (Some value) ≡ None
  other_own (Const number size) stands plain = refl
  other_own (Number size) stands plain = refl
  other_own Any stands plain = refl
  other_own (Address other offset Region) stands plain = refl
  other_own (Address other offset First) stands plain = refl
  other_own (Address other offset Last) stands plain = refl
  other_own (Address other offset Each) stands plain = absurd (false≢true (sym plain ∙ ap (λ (b : Bool). if b then true else false) stands))

  pub record IsOwn (value : Value) : Type 0 where
    pub offset : ℤ
    pub is : value ≡ Address key offset Each

  pub is_own-address : (value : Value) → is_own key value ≡ true → IsOwn value
  is_own-address (Const number size) own = absurd (false≢true own)
  is_own-address (Number size) own = absurd (false≢true own)
  is_own-address Any own = absurd (false≢true own)
  is_own-address (Address other offset target) own = by_key (nat_eq other key) refl target own
    where
      by_key : (b : Bool) → nat_eq other key ≡ b → (target : Target) → (if b then is_own_target target else false) ≡ true → IsOwn (Address other offset target)
      by_key false differs target own = absurd (false≢true own)
      by_key true same Region own = absurd (false≢true own)
      by_key true same First own = absurd (false≢true own)
      by_key true same Last own = absurd (false≢true own)
      by_key true same Each own = record { offset = offset; is = ap (λ (k : ℕ). Address k offset Each) (eqb-true _ _ same) }

  -- what stands in the node of the segment
  pub home_edges : list_all (λ (edge : HasValue). passes_at parts (may_stand_in key) edge.value) split.node.edges ≡ true
  home_edges = entry_passes (λ (entry : KeyedObject). list_all (λ (edge : HasValue). passes_at parts (may_stand_in entry.key) edge.value) (node_of entry.object).edges) parts.objects key whole graph.well_formed.edges_are_at_home split.stands

  module _ (offsets : HaveOffsets parts.values) (given given' : Assignment) (number : ℕ) (rest : List ℕ) (parted : AreParted parts key split given given' number rest) (count : ℕ)
      (old : (at : ℕ) (value : Value) → value_at parts.values at ≡ Some value → HasWord count given.blocks (ends_before parts graph key split given given' number rest parted) value (given.word at)) where
    abbrev same : (at : ℕ) → IsSome (value_at parts.values at) → given'.word at ≡ given.word at
    same = words_there parts graph key split given given' number rest parted

    abbrev ends : ℕ → Ends
    ends = ends_behind parts graph key split given given' number rest parted

    abbrev owned : ℕ
    owned = length parts.values + length (own_values key parts)

    -- a value that stood there has its word
    pub new : (at : ℕ) (value : Value) → value_at parts.values at ≡ Some value → HasWord count given'.blocks ends (now value) (given'.word at)
    new at value is =
        subst (λ (w : Word). HasWord count given'.blocks ends (now value) w) (sym (parted.words at value is))
        ((same_word parts graph key split given given' number rest parted count value (leads_at parts graph at value is) (offset_at parts graph offsets at value is) (given.word at)).0 (old at value is))

    agrees : (at : ℕ) → IsSome (value_at parts.values at) → Agrees given.word given'.word own own' at
    agrees at some = (sym (same at some), own_same at some)

    agrees_back : (at : ℕ) → IsSome (value_at parts.values at) → Agrees given'.word given.word own' own at
    agrees_back at some = (same at some, sym (own_same at some))

    module _ (memory : List Block) where
      -- an object means the same by both words
      pub means_on : (at : ℕ) (found : Object) → object_at parts.objects at ≡ Some found → (blocks : List ℕ) → HasBlocks memory found given.word own blocks → HasBlocks memory found given'.word own' blocks
      means_on at found stands blocks =
          HasBlocks-agree given.word given'.word own own' found.live memory found blocks
          (OnNamed-weaker (λ value. IsSome (value_at parts.values value)) (Agrees given.word given'.word own own') agrees found.shape (own_node found) (closed.objects at found stands))

      pub means_back : (at : ℕ) (found : Object) → object_at parts.objects at ≡ Some found → (blocks : List ℕ) → HasBlocks memory found given'.word own' blocks → HasBlocks memory found given.word own blocks
      means_back at found stands blocks =
          HasBlocks-agree given'.word given.word own' own found.live memory found blocks
          (OnNamed-weaker (λ value. IsSome (value_at parts.values value)) (Agrees given'.word given.word own' own) agrees_back found.shape (own_node found) (closed.objects at found stands))

      -- The segment.

      next_same : given'.word split.links.next_value ≡ given.word split.links.next_value
      next_same = same split.links.next_value (next_there parts graph key split)

      onward_is : given'.word owned ≡ end_word (first_of rest) (given'.word split.links.next_value) split.links.head (pos split.links.head)
      onward_is = parted.onward ∙ ap (λ (w : Word). end_word (first_of rest) w split.links.head (pos split.links.head)) (sym next_same)

      pub next_has : HasWord count given'.blocks ends (Address key (pos split.links.head) First) (given'.word owned)
      next_has =
          onward_is
          ∙ sym (ap (λ (o : Option Object). address_word First (given'.blocks key) (option_map_or (λ object. ends_in object.shape given'.word) o no_ends) (pos split.links.head)) (object_rest parts graph key split)
          ∙ ap (λ (blocks : List ℕ). end_word (first_of blocks) (given'.word split.links.next_value) split.links.head (pos split.links.head)) parted.behind)

      prev_has : HasWord count given'.blocks ends (now (link_value parts split.links.prev_value)) (given'.word split.links.prev_value)
      prev_has =
          let held = Holds-some (value_at parts.values split.links.prev_value) (prev_there parts graph key split) in
          subst (λ (v : Value). HasWord count given'.blocks ends (now v) (given'.word split.links.prev_value)) (sym (link_value_is parts graph key split split.links.prev_value held.item held.is)) (new split.links.prev_value held.item held.is)

      prev_still : split.links.twofold ≡ true → moved (given'.word split.links.prev_value) (pos split.links.back -ℤ pos split.links.back) ≡ given'.word split.links.prev_value
      prev_still twofold =
          let held = Holds-some (value_at parts.values split.links.prev_value) (prev_there parts graph key split) in
          let word_is = parted.words split.links.prev_value held.item held.is in
          ap (λ (w : Word). moved w (pos split.links.back -ℤ pos split.links.back)) word_is
          ∙ still split.links.back count given.blocks (ends_before parts graph key split given given' number rest parted) held.item (given.word split.links.prev_value) (prev_outward parts graph key split twofold held.item held.is)
          (sized_at parts graph split.links.prev_value held.item held.is) (offset_at parts graph offsets split.links.prev_value held.item held.is) (old split.links.prev_value held.item held.is)
          ∙ sym word_is

      alone_at : (at : ℕ) → passes_at parts (may_stand_in key) at ≡ true → given'.word (alone_key key parts at) ≡ word_at given'.word own' number at
      alone_at at passes =
          let held = Holds-some (value_at parts.values at) (passes-some (may_stand_in key) (value_at parts.values at) passes) in
          let stands = subst (λ (o : Option Value). option_map_or (may_stand_in key) o false ≡ true) held.is passes in
          let own_there = sym (own_same at (subst (λ (o : Option Value). IsSome o) (sym held.is) refl)) ∙ ap own_offset held.is in
          by_own held.item held.is stands own_there (is_own key held.item) refl
        where
          by_own : (value : Value) → value_at parts.values at ≡ Some value → may_stand_in key value ≡ true → own' at ≡ own_offset (Some value) → (b : Bool) → is_own key value ≡ b → given'.word (alone_key key parts at) ≡ word_at given'.word own' number at
          by_own value is stands there true owns =
              let it = is_own-address value owns in
              parted.alone at it.offset (is ∙ ap Some it.is) ∙ sym (ap (λ (o : Option ℤ). own_word o (given'.word at) number) (there ∙ ap (λ (v : Value). own_offset (Some v)) it.is))
          by_own value is stands there false plain =
              ap given'.word (alone_plain parts graph key split at value is plain) ∙ sym (ap (λ (o : Option ℤ). own_word o (given'.word at) number) (there ∙ other_own value stands plain))

      alone_is : (edges : List HasValue) → list_all (λ (edge : HasValue). passes_at parts (may_stand_in key) edge.value) edges ≡ true → AreAlone key parts given'.word (word_at given'.word own' number) edges
      alone_is [] all = tt
      alone_is (edge ∷ rest) all = (
        alone_at edge.value (and_left (passes_at parts (may_stand_in key) edge.value) (list_all (λ (edge : HasValue). passes_at parts (may_stand_in key) edge.value) rest) all),
        alone_is rest (and_right (passes_at parts (may_stand_in key) edge.value) (list_all (λ (edge : HasValue). passes_at parts (may_stand_in key) edge.value) rest) all),
      )

      pub key_on : HasBlocks memory whole given.word own (given.blocks key) →
          HasBlocks memory (rest_object parts graph key split) given'.word own' rest × HasBlocks memory (new_object parts graph key split) given'.word own' (number ∷ [])
      key_on has =
          apart parts graph key split memory given'.word own' number rest onward_is parted.before prev_still count given'.blocks ends (alone_is split.node.edges home_edges) next_has (λ twofold. prev_has)
          (subst (λ (blocks : List ℕ). HasBlocks memory whole given'.word own' blocks) parted.whole (means_on key whole split.stands (given.blocks key) has))

      pub key_back : HasBlocks memory (rest_object parts graph key split) given'.word own' rest → HasBlocks memory (new_object parts graph key split) given'.word own' (number ∷ []) → HasBlocks memory whole given.word own (given.blocks key)
      key_back has region =
          means_back key whole split.stands (given.blocks key)
          (subst (λ (blocks : List ℕ). HasBlocks memory whole given'.word own' blocks) (sym parted.whole)
          (together parts graph key split memory given'.word own' number rest onward_is parted.before prev_still count given'.blocks ends (alone_is split.node.edges home_edges) next_has (λ twofold. prev_has) has region))
