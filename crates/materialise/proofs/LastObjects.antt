-- Objects of a graph, and of the graph in which the last node of a segment is a region, stand for their blocks in both.
use Rattle.std.proofs.Common.{◌≡◌, ℕ, ◌+◌, ◌^◌, ◌<◌, Bool, true, false, List, [], ◌∷◌, length, nat_eq, ℤ, pos, Option, Some, refl, sym, ◌∙◌, ap, subst}
use Rattle.std.specs.Prelude.{IsSome, ◌-ℤ◌, if◌then◌else◌}
use Rattle.std.specs.List.{list_all}
use Rattle.std.specs.Option.{option_map_or}
use Rattle.bytes_core.specs.declared.block.Block.{Block}
use Rattle.bytes_core.specs.declared.word.Word.{Word}
use Rattle.bytes_core.specs.Value.{moved}
use Rattle.graph.specs.declared.edges.HasValue.{HasValue}
use Rattle.graph.specs.declared.object.Object.{Object}
use Rattle.graph.specs.declared.value.Target.{Target}
use Rattle.graph.specs.declared.value.Target.TheVariants.{Region, First, Last, Each}
use Rattle.graph.specs.declared.value.Value.{Value}
use Rattle.graph.specs.declared.value.Value.TheVariants.{Const, Number, Any, Address}
use Rattle.graph.specs.declared.parts.Parts.{Parts}
use Rattle.graph.specs.Closed.{IsClosed}
use Rattle.graph.specs.Maps.{object_at, value_at}
use Rattle.graph.specs.Nodes.{own_node}
use Rattle.graph.specs.WellFormed.{passes_at, may_stand_in}
use Rattle.graph.specs.Whole.{IsGraph}
use Rattle.graph.specs.Meaning.{HasBlocks, end_word, last_of, Ends, ends_in, no_ends, address_word, own_word, word_at, HasWord, own_offset, maps_of, Assignment}
use Rattle.graph.proofs.Closed.{closed_of}
use Rattle.graph.proofs.Found.{Holds-some}
use Rattle.graph.proofs.Frames.{OnNamed-weaker, Agrees, HasBlocks-agree}
use Rattle.graph.proofs.Sent.{passes-some}
use Rattle.graph.proofs.Tests.{and_left, and_right}
use Rattle.materialise.specs.SplitFirst.{is_own, own_values, alone_key, link_value}
use Rattle.materialise.specs.SplitLast.{last_target}
use Rattle.materialise.specs.WithOne.{HaveOffsets}
use Rattle.materialise.proofs.FirstCase.{IsSplit, object, alone_plain}
use Rattle.materialise.proofs.FirstForm.{sized_at, leads_at, offset_at, prev_there, next_there, link_value_is, next_outward}
use Rattle.materialise.proofs.FirstLinked.{AreAlone}
use Rattle.materialise.proofs.FirstObjects.{own, other_own, is_own-address, home_edges}
use Rattle.materialise.proofs.FirstWords.{still}
use Rattle.materialise.proofs.LastBlocks.{apart, together}
use Rattle.materialise.proofs.LastCase.{after, change, new_object, rest_object, object_rest, value_was}
use Rattle.materialise.proofs.LastParted.{AreParted, words_there, ends_before, ends_behind, same_word}

module _ (parts : Parts) (graph : IsGraph parts) (key : ℕ) (split : IsSplit parts key) where
  abbrev now : Value → Value
  now = change parts graph key split

  abbrev whole : Object
  whole = object parts graph key split

  -- a value is a node's own address in the same way
  change_own : (value : Value) → own_offset (Some value) ≡ own_offset (Some (now value))
  change_own (Const number size) = refl
  change_own (Number size) = refl
  change_own Any = refl
  change_own (Address other offset target) = by_key (nat_eq other key) target
    where
      by_key : (b : Bool) (target : Target) → own_offset (Some (Address other offset target)) ≡
          own_offset (Some (if b then last_target (length parts.objects) key target offset else Address other offset target))
      by_key false target = refl
      by_key true Region = refl
      by_key true First = refl
      by_key true Last = refl
      by_key true Each = refl

  abbrev owns : ℕ → Option ℤ
  owns = own parts graph key split

  abbrev pub own' : ℕ → Option ℤ
  own' at = own_offset (value_at (after parts graph key split).values at)

  own_same : (at : ℕ) → IsSome (value_at parts.values at) → owns at ≡ own' at
  own_same at some =
      let held = Holds-some (value_at parts.values at) some in
      ap own_offset held.is ∙ change_own held.item ∙ sym (ap own_offset (value_was parts graph key split at held.item held.is))

  closed : IsClosed (maps_of parts)
  closed = closed_of parts graph.well_formed

  module _ (offsets : HaveOffsets parts.values) (given given' : Assignment) (rest : List ℕ) (number : ℕ) (parted : AreParted parts key split given given' rest number) (count : ℕ)
      (old : (at : ℕ) (value : Value) → value_at parts.values at ≡ Some value → HasWord count given.blocks (ends_before parts graph key split given given' rest number parted) value (given.word at)) where
    abbrev same : (at : ℕ) → IsSome (value_at parts.values at) → given'.word at ≡ given.word at
    same = words_there parts graph key split given given' rest number parted

    abbrev ends : ℕ → Ends
    ends = ends_behind parts graph key split given given' rest number parted

    abbrev owned : ℕ
    owned = length parts.values + length (own_values key parts)

    -- a value that stood there has its word
    pub new : (at : ℕ) (value : Value) → value_at parts.values at ≡ Some value → HasWord count given'.blocks ends (now value) (given'.word at)
    new at value is =
        subst (λ (w : Word). HasWord count given'.blocks ends (now value) w) (sym (parted.words at value is))
        ((same_word parts graph key split given given' rest number parted count value (leads_at parts graph at value is) (offset_at parts graph offsets at value is) (given.word at)).0 (old at value is))

    agrees : (at : ℕ) → IsSome (value_at parts.values at) → Agrees given.word given'.word owns own' at
    agrees at some = (sym (same at some), own_same at some)

    agrees_back : (at : ℕ) → IsSome (value_at parts.values at) → Agrees given'.word given.word own' owns at
    agrees_back at some = (same at some, sym (own_same at some))

    module _ (memory : List Block) where
      -- an object means the same by both words
      pub means_on : (at : ℕ) (found : Object) → object_at parts.objects at ≡ Some found → (blocks : List ℕ) → HasBlocks memory found given.word owns blocks → HasBlocks memory found given'.word own' blocks
      means_on at found stands blocks =
          HasBlocks-agree given.word given'.word owns own' found.live memory found blocks
          (OnNamed-weaker (λ value. IsSome (value_at parts.values value)) (Agrees given.word given'.word owns own') agrees found.shape (own_node found) (closed.objects at found stands))

      pub means_back : (at : ℕ) (found : Object) → object_at parts.objects at ≡ Some found → (blocks : List ℕ) → HasBlocks memory found given'.word own' blocks → HasBlocks memory found given.word owns blocks
      means_back at found stands blocks =
          HasBlocks-agree given'.word given.word own' owns found.live memory found blocks
          (OnNamed-weaker (λ value. IsSome (value_at parts.values value)) (Agrees given'.word given.word own' owns) agrees_back found.shape (own_node found) (closed.objects at found stands))

      -- The segment.

      prev_same : given'.word split.links.prev_value ≡ given.word split.links.prev_value
      prev_same = same split.links.prev_value (prev_there parts graph key split)

      backward_is : given'.word owned ≡ end_word (last_of rest) (given'.word split.links.prev_value) split.links.back (pos split.links.back)
      backward_is = parted.backward ∙ ap (λ (w : Word). end_word (last_of rest) w split.links.back (pos split.links.back)) (sym prev_same)

      pub prev_has : HasWord count given'.blocks ends (Address key (pos split.links.back) Last) (given'.word owned)
      prev_has =
          backward_is
          ∙ sym (ap (λ (o : Option Object). address_word Last (given'.blocks key) (option_map_or (λ object. ends_in object.shape given'.word) o no_ends) (pos split.links.back)) (object_rest parts graph key split)
          ∙ ap (λ (blocks : List ℕ). end_word (last_of blocks) (given'.word split.links.prev_value) split.links.back (pos split.links.back)) parted.ahead)

      next_has : HasWord count given'.blocks ends (now (link_value parts split.links.next_value)) (given'.word split.links.next_value)
      next_has =
          let held = Holds-some (value_at parts.values split.links.next_value) (next_there parts graph key split) in
          subst (λ (v : Value). HasWord count given'.blocks ends (now v) (given'.word split.links.next_value)) (sym (link_value_is parts graph key split split.links.next_value held.item held.is)) (new split.links.next_value held.item held.is)

      next_still : moved (given'.word split.links.next_value) (pos split.links.head -ℤ pos split.links.head) ≡ given'.word split.links.next_value
      next_still =
          let held = Holds-some (value_at parts.values split.links.next_value) (next_there parts graph key split) in
          let word_is = parted.words split.links.next_value held.item held.is in
          ap (λ (w : Word). moved w (pos split.links.head -ℤ pos split.links.head)) word_is
          ∙ still split.links.head count given.blocks (ends_before parts graph key split given given' rest number parted) held.item (given.word split.links.next_value) (next_outward parts graph key split held.item held.is)
          (sized_at parts graph split.links.next_value held.item held.is) (offset_at parts graph offsets split.links.next_value held.item held.is) (old split.links.next_value held.item held.is)
          ∙ sym word_is

      alone_at : (at : ℕ) → passes_at parts (may_stand_in key) at ≡ true → given'.word (alone_key key parts at) ≡ word_at given'.word own' number at
      alone_at at passes =
          let held = Holds-some (value_at parts.values at) (passes-some (may_stand_in key) (value_at parts.values at) passes) in
          let stands = subst (λ (o : Option Value). option_map_or (may_stand_in key) o false ≡ true) held.is passes in
          let own_there = sym (own_same at (subst (λ (o : Option Value). IsSome o) (sym held.is) refl)) ∙ ap own_offset held.is in
          by_own held.item held.is stands own_there (is_own key held.item) refl
        where
          by_own : (value : Value) → value_at parts.values at ≡ Some value → may_stand_in key value ≡ true → own' at ≡ own_offset (Some value) → (b : Bool) → is_own key value ≡ b → given'.word (alone_key key parts at) ≡ word_at given'.word own' number at
          by_own value is stands there true is_one =
              let it = is_own-address parts graph key split value is_one in
              parted.alone at it.offset (is ∙ ap Some it.is) ∙ sym (ap (λ (o : Option ℤ). own_word o (given'.word at) number) (there ∙ ap (λ (v : Value). own_offset (Some v)) it.is))
          by_own value is stands there false plain =
              ap given'.word (alone_plain parts graph key split at value is plain) ∙ sym (ap (λ (o : Option ℤ). own_word o (given'.word at) number) (there ∙ other_own parts graph key split value stands plain))

      alone_is : (edges : List HasValue) → list_all (λ (edge : HasValue). passes_at parts (may_stand_in key) edge.value) edges ≡ true → AreAlone key parts given'.word (word_at given'.word own' number) edges
      alone_is [] all = tt
      alone_is (edge ∷ rest) all = (
        alone_at edge.value (and_left (passes_at parts (may_stand_in key) edge.value) (list_all (λ (edge : HasValue). passes_at parts (may_stand_in key) edge.value) rest) all),
        alone_is rest (and_right (passes_at parts (may_stand_in key) edge.value) (list_all (λ (edge : HasValue). passes_at parts (may_stand_in key) edge.value) rest) all),
      )

      module _ (twofold : split.links.twofold ≡ true) (small : split.links.head < 2 ^ 63) where
        pub key_on : HasBlocks memory whole given.word owns (given.blocks key) →
            HasBlocks memory (rest_object parts graph key split) given'.word own' rest × HasBlocks memory (new_object parts graph key split) given'.word own' (number ∷ [])
        key_on has =
            apart parts graph key split memory given'.word own' twofold small rest number backward_is parted.after next_still count given'.blocks ends (alone_is split.node.edges (home_edges parts graph key split)) prev_has next_has
            (subst (λ (blocks : List ℕ). HasBlocks memory whole given'.word own' blocks) parted.whole (means_on key whole split.stands (given.blocks key) has))

        pub key_back : HasBlocks memory (rest_object parts graph key split) given'.word own' rest → HasBlocks memory (new_object parts graph key split) given'.word own' (number ∷ []) → HasBlocks memory whole given.word owns (given.blocks key)
        key_back has region =
            means_back key whole split.stands (given.blocks key)
            (subst (λ (blocks : List ℕ). HasBlocks memory whole given'.word own' blocks) (sym parted.whole)
            (together parts graph key split memory given'.word own' twofold small rest number backward_is parted.after next_still count given'.blocks ends (alone_is split.node.edges (home_edges parts graph key split)) prev_has next_has has region))
