-- A graph without a segment stands for exactly the states for which the graph stands without a node of it: with the same words.
use Rattle.std.proofs.Common.{◌≡◌, ℕ, Bool, true, false, List, [], ◌∷◌, length, nat_eq, Option, None, Some, refl, sym, ◌∙◌, ap, subst, eq-eqb, eqb-true, arith}
use Rattle.std.specs.Prelude.{◌↔◌, ℤ, option_map, slice_get, if◌then◌else◌}
use Rattle.std.specs.Option.{option_map_or}
use Rattle.std.proofs.lemmas.Bool.{false≢true}
use Rattle.std.proofs.lemmas.Option.{same_Some, none-some}
use Rattle.bytes_core.specs.declared.block.Block.{Block}
use Rattle.bytes_core.specs.declared.word.Word.{Word}
use Rattle.graph.specs.declared.object.Links.{Links}
use Rattle.graph.specs.declared.object.Object.{Object}
use Rattle.graph.specs.declared.object.Shape.{Shape}
use Rattle.graph.specs.declared.object.Shape.TheVariants.{Region as RegionShape, Segment}
use Rattle.graph.specs.declared.value.Value.{Value}
use Rattle.graph.specs.declared.parts.Parts.{Parts}
use Rattle.graph.specs.Maps.{object_at, value_at, storage_of}
use Rattle.graph.specs.Nodes.{links_in}
use Rattle.graph.specs.State.{State}
use Rattle.graph.specs.WellFormed.{IsWellFormed, passes_at, may_be_held}
use Rattle.graph.specs.Meaning.{HasBlocks, HasBlocksAs, HasShape, Ends, ends_of, HasWord, IsRooted, maps_of, Assignment, Meets, StandsFor}
use Rattle.graph.proofs.Closed.{passes-at}
use Rattle.graph.proofs.Found.{Holds-some, IsSome-holds}
use Rattle.graph.proofs.Frames.{HasBlocks-agree}
use Rattle.graph.proofs.Sent.{passes-some}
use Rattle.materialise.specs.Dropped.{object_now, dropped}
use Rattle.materialise.specs.Empty.{StandsWithout}
use Rattle.materialise.proofs.Emptiable.{MayBeEmpty}
use Rattle.materialise.proofs.Emptied.{next_is, prev_is, emptied, emptied_clear}
use Rattle.materialise.proofs.Means.{blocks_on, blocks_back}
use Rattle.materialise.proofs.Words.{clear_word, emptied_word, both_back}
use Rattle.materialise.proofs.Case.{now, after, dropped_is, value_there, object_there, is_other, was_some, is_some_there, storage_other, segment_lives, ends_same, own, own', own_agree, own_back, leads_at, object_fits, port_rooted}

-- a region has one block
one_block : (memory : List Block) (object : Object) (word : ℕ → Word) (own : ℕ → Option ℤ) (blocks : List ℕ) → object.shape ≡ RegionShape → HasBlocks memory object word own blocks → (number : ℕ) × (blocks ≡ number ∷ [])
one_block memory object word own blocks region = by_life object.live
  where
    by_life : (b : Bool) → HasBlocksAs b memory object word own blocks → (number : ℕ) × (blocks ≡ number ∷ [])
    by_life true has = let one = subst (λ (s : Shape). HasShape s memory object word own blocks) region has in (one.0, one.1)
    by_life false has = (has.0, has.1)

module _ (parts : Parts) (form : IsWellFormed parts) (key : ℕ) (may : MayBeEmpty parts key) where
  abbrev behind : Parts
  behind = after parts form key may

  abbrev become : Value → Value
  become = emptied parts form key may

  -- The value, and the object, that stands there behind the drop.

  was_value : (at : ℕ) (value : Value) → value_at behind.values at ≡ Some value → (old : Value) × (value_at parts.values at ≡ Some old) × (become old ≡ value)
  was_value at value is = by_found (value_at parts.values at) refl (sym (value_there parts form key may at) ∙ is)
    where
      by_found : (found : Option Value) → value_at parts.values at ≡ found → option_map become found ≡ Some value → (old : Value) × (value_at parts.values at ≡ Some old) × (become old ≡ value)
      by_found None none is = absurd (none-some value is)
      by_found (Some old) found is = (old, found, same_Some _ _ is)

  was_object : (at : ℕ) (object : Object) → object_at behind.objects at ≡ Some object →
      (nat_eq at key ≡ false) × ((old : Object) × (object_at parts.objects at ≡ Some old) × (object_now (now parts form key may) old ≡ object))
  was_object at object is =
      let other = is_other parts form key may at (IsSome-holds _ _ is) in
      (other, by_found (object_at parts.objects at) refl (sym (object_there parts form key may at other) ∙ is))
    where
      by_found : (found : Option Object) → object_at parts.objects at ≡ found → option_map (object_now (now parts form key may)) found ≡ Some object →
          (old : Object) × (object_at parts.objects at ≡ Some old) × (object_now (now parts form key may) old ≡ object)
      by_found None none is = absurd (none-some object is)
      by_found (Some old) found is = (old, found, same_Some _ _ is)

  port_value : (place port : ℕ) → slice_get parts.ports place ≡ Some port → (value : Value) × (value_at parts.values port ≡ Some value) × (may_be_held value ≡ true)
  port_value place port stands =
      let passes = passes-at (passes_at parts may_be_held) parts.ports place port stands form.ports_are_values in
      let found = Holds-some (value_at parts.values port) (passes-some may_be_held (value_at parts.values port) passes) in
      (found.item, found.is, subst (λ (o : Option Value). option_map_or may_be_held o false ≡ true) found.is passes)

  module _ (state : State) where
    -- there: with the same words and blocks
    module _ (given : Assignment) (meets : Meets (maps_of parts) state given) (empty : given.blocks key ≡ []) where
      one_there : (object : ℕ) (found : Object) → object_at parts.objects object ≡ Some found → found.shape ≡ RegionShape → (number : ℕ) × (given.blocks object ≡ number ∷ [])
      one_there object found stands region = one_block state.memory found given.word (own parts form key may) (given.blocks object) region (meets.objects object found stands)

      abbrev ends_were : ℕ → Ends
      ends_were = ends_of (object_at parts.objects) given.word

      word_on : (at : ℕ) (value : Value) → value_at parts.values at ≡ Some value → HasWord (length state.memory) given.blocks ends_were (become value) (given.word at)
      word_on at value stands =
          let next = next_is parts form key may in
          let prev = prev_is parts form key may in
          (emptied_word parts form key may (length state.memory) given.blocks given.word empty one_there (meets.values may.links.next_value next.value next.is) (meets.values may.links.prev_value prev.value prev.is)
          value (leads_at parts form key may at value stands) (given.word at)).0 (meets.values at value stands)

      pub meets_on : Meets (maps_of behind) state given
      meets_on = record {
        values = λ at value stands.
            let was = was_value at value stands in
            subst (λ (v : Value). HasWord (length state.memory) given.blocks (ends_of (object_at behind.objects) given.word) v (given.word at)) was.2
            (clear_word key (length state.memory) given.blocks given.blocks ends_were (ends_of (object_at behind.objects) given.word) (λ k other. (refl, ends_same parts form key may given.word k other))
            (become was.0) (given.word at) (emptied_clear parts form key may was.0 (leads_at parts form key may at was.0 was.1)) (word_on at was.0 was.1));
        objects = λ at object stands.
            let was = was_object at object stands in
            subst (λ (o : Object). HasBlocks state.memory o given.word (own' parts form key may) (given.blocks at)) was.1.2
            (blocks_on (now parts form key may) state.memory was.1.0 given.word (own' parts form key may) (given.blocks at)
            (object_fits parts form key may given.word (length state.memory) given.blocks ends_were word_on state at was.1.0 was.1.1)
            (HasBlocks-agree given.word given.word (own parts form key may) (own' parts form key may) was.1.0.live state.memory was.1.0 (given.blocks at) (own_agree parts form key may given.word at was.1.0 was.0 was.1.1)
            (meets.objects at was.1.0 was.1.1)));
        owners = λ at place number some stands. meets.owners at place number (was_some parts form key may at some) stands;
        places = λ at place number some stands. meets.places at place number (was_some parts form key may at some) stands;
        used = λ number block stands live.
            let owned = meets.used number block stands live in
            record { object = is_some_there parts form key may (given.owner number) (not_gone number owned.block) owned.object; block = owned.block };
        variables = meets.variables;
        registers = meets.registers;
        ports = meets.ports;
        rooted = λ place port stands.
            let value = port_value place port stands in
            subst (λ (o : Option Value). IsRooted state.roots o (given.word port)) (sym (value_there parts form key may port ∙ ap (option_map become) value.1))
            ((port_rooted parts form key may state.roots (length state.memory) given.blocks ends_were value.0 (given.word port) value.2 (word_on port value.0 value.1)).0
            (subst (λ (o : Option Value). IsRooted state.roots o (given.word port)) value.1 (meets.rooted place port stands)));
        unequal = meets.unequal;
      }
        where
          not_gone : (number : ℕ) → slice_get (given.blocks (given.owner number)) (given.place number) ≡ Some number → nat_eq (given.owner number) key ≡ false
          not_gone number is = by_key (nat_eq (given.owner number) key) refl
            where
              by_key : (b : Bool) → nat_eq (given.owner number) key ≡ b → nat_eq (given.owner number) key ≡ false
              by_key false other = other
              by_key true same = absurd (none-some number (sym (ap (λ (blocks : List ℕ). slice_get blocks (given.place number)) (ap given.blocks (eqb-true _ _ same) ∙ empty)) ∙ is))

    -- and back: with no block at the segment
    module _ (given : Assignment) (meets : Meets (maps_of behind) state given) where
      abbrev blocks' : ℕ → List ℕ
      blocks' at = if nat_eq at key then [] else given.blocks at

      abbrev given' : Assignment
      given' = record given { blocks = blocks' }

      blocks_here : blocks' key ≡ []
      blocks_here = ap (λ (b : Bool). if b then [] else given.blocks key) (eq-eqb key key refl)

      blocks_other : (at : ℕ) → nat_eq at key ≡ false → blocks' at ≡ given.blocks at
      blocks_other at other = ap (λ (b : Bool). if b then [] else given.blocks at) other

      abbrev ends_are : ℕ → Ends
      ends_are = ends_of (object_at parts.objects) given.word

      -- what stands behind the drop where it stood before
      there : (at : ℕ) (object : Object) → nat_eq at key ≡ false → object_at parts.objects at ≡ Some object → object_at behind.objects at ≡ Some (object_now (now parts form key may) object)
      there at object other stands = object_there parts form key may at other ∙ ap (option_map (object_now (now parts form key may))) stands

      word_back : (at : ℕ) (value : Value) → value_at parts.values at ≡ Some value → HasWord (length state.memory) blocks' ends_are (become value) (given.word at)
      word_back at value stands =
          clear_word key (length state.memory) given.blocks blocks' (ends_of (object_at behind.objects) given.word) ends_are (λ k other. (blocks_other k other, sym (ends_same parts form key may given.word k other)))
          (become value) (given.word at) (emptied_clear parts form key may value (leads_at parts form key may at value stands))
          (meets.values at (become value) (value_there parts form key may at ∙ ap (option_map become) stands))

      object_back : (at : ℕ) (object : Object) → nat_eq at key ≡ false → object_at parts.objects at ≡ Some object → HasBlocks state.memory object given.word (own parts form key may) (given.blocks at)
      object_back at object other stands =
          HasBlocks-agree given.word given.word (own' parts form key may) (own parts form key may) object.live state.memory object (given.blocks at) (own_back parts form key may given.word at object other stands)
          (blocks_back (now parts form key may) state.memory object given.word (own' parts form key may) (given.blocks at)
          (object_fits parts form key may given.word (length state.memory) blocks' ends_are word_back state at object stands)
          (meets.objects at (object_now (now parts form key may) object) (there at object other stands)))

      -- the segment has no nodes
      key_blocks : (object : Object) → object_at parts.objects key ≡ Some object → HasBlocks state.memory object given.word (own parts form key may) []
      key_blocks object stands = subst (λ (o : Object). HasBlocks state.memory o given.word (own parts form key may) []) (same_Some _ _ (sym may.stands ∙ stands)) (by_life may.object.live refl)
        where
          lives : may.object.live ≡ true
          lives = segment_lives parts form key may

          no_nodes : (shape : Shape) → links_in shape ≡ Some may.links → HasShape shape state.memory may.object given.word (own parts form key may) []
          no_nodes RegionShape linked = absurd (none-some may.links linked)
          no_nodes (Segment twofold head next prev back least next_value prev_value node) linked = (let e : least ≡ 0 = ap (λ (l : Links). l.least) (same_Some _ _ linked) ∙ may.least in omega arith, tt)

          by_life : (b : Bool) → may.object.live ≡ b → HasBlocksAs b state.memory may.object given.word (own parts form key may) []
          by_life true live = no_nodes may.object.shape may.linked
          by_life false dead = absurd (false≢true (sym dead ∙ lives))

      one_back : (object : ℕ) (found : Object) → object_at parts.objects object ≡ Some found → found.shape ≡ RegionShape → (number : ℕ) × (blocks' object ≡ number ∷ [])
      one_back object found stands region = by_key (nat_eq object key) refl
        where
          by_key : (b : Bool) → nat_eq object key ≡ b → (number : ℕ) × (blocks' object ≡ number ∷ [])
          by_key false other =
              let one = one_block state.memory found given.word (own parts form key may) (given.blocks object) region (object_back object found other stands) in
              (one.0, blocks_other object other ∙ one.1)
          by_key true same =
              absurd (none-some may.links (sym (ap links_in region) ∙ ap (λ (o : Object). links_in o.shape) (same_Some _ _ (sym stands ∙ ap (object_at parts.objects) (eqb-true _ _ same) ∙ may.stands)) ∙ may.linked))

      pub meets_back : Meets (maps_of parts) state given'
      meets_back = record {
        values = λ at value stands.
            let next = next_is parts form key may in
            let prev = prev_is parts form key may in
            let both = both_back parts form key may (length state.memory) blocks' given.word blocks_here one_back (word_back may.links.next_value next.value next.is) (word_back may.links.prev_value prev.value prev.is) in
            (emptied_word parts form key may (length state.memory) blocks' given.word blocks_here one_back both.0 both.1 value (leads_at parts form key may at value stands) (given.word at)).1 (word_back at value stands);
        objects = λ at object stands. object_on at object stands (nat_eq at key) refl;
        owners = λ at place number some stands. meets.owners at place number (is_some_there parts form key may at (other_place at place number stands) some) (same_place at place number stands);
        places = λ at place number some stands. meets.places at place number (is_some_there parts form key may at (other_place at place number stands) some) (same_place at place number stands);
        used = λ number block stands live.
            let owned = meets.used number block stands live in
            record {
              object = was_some parts form key may (given.owner number) owned.object;
              block = ap (λ (blocks : List ℕ). slice_get blocks (given.place number)) (blocks_other (given.owner number) (is_other parts form key may (given.owner number) owned.object)) ∙ owned.block;
            };
        variables = λ variable. meets.variables variable ∙ by_storage variable (storage_of parts.variables variable) refl;
        registers = meets.registers;
        ports = meets.ports;
        rooted = λ place port stands.
            let value = port_value place port stands in
            subst (λ (o : Option Value). IsRooted state.roots o (given.word port)) (sym value.1)
            ((port_rooted parts form key may state.roots (length state.memory) blocks' ends_are value.0 (given.word port) value.2 (word_back port value.0 value.1)).1
            (subst (λ (o : Option Value). IsRooted state.roots o (given.word port)) (value_there parts form key may port ∙ ap (option_map become) value.1) (meets.rooted place port stands)));
        unequal = meets.unequal;
      }
        where
          object_on : (at : ℕ) (object : Object) → object_at parts.objects at ≡ Some object → (b : Bool) → nat_eq at key ≡ b → HasBlocks state.memory object given.word (own parts form key may) (if b then [] else given.blocks at)
          object_on at object stands true same = key_blocks object (ap (object_at parts.objects) (sym (eqb-true _ _ same)) ∙ stands)
          object_on at object stands false other = object_back at object other stands

          other_place : (at place number : ℕ) → slice_get (blocks' at) place ≡ Some number → nat_eq at key ≡ false
          other_place at place number stands = by_key (nat_eq at key) refl stands
            where
              by_key : (b : Bool) → nat_eq at key ≡ b → slice_get (if b then [] else given.blocks at) place ≡ Some number → nat_eq at key ≡ false
              by_key false other is = other
              by_key true same is = absurd (none-some number is)

          same_place : (at place number : ℕ) → slice_get (blocks' at) place ≡ Some number → slice_get (given.blocks at) place ≡ Some number
          same_place at place number stands = ap (λ (blocks : List ℕ). slice_get blocks place) (sym (blocks_other at (other_place at place number stands))) ∙ stands

          by_storage : (variable : ℕ) (found : Option ℕ) → storage_of parts.variables variable ≡ found → option_map given.blocks found ≡ option_map blocks' found
          by_storage variable None is = refl
          by_storage variable (Some at) is = ap Some (sym (blocks_other at (storage_other parts form key may variable at is)))

    pub without : StandsFor (dropped key parts) state ↔ StandsWithout parts key state
    without = (
      λ stands. let behind_is = subst (λ (p : Parts). StandsFor p state) (dropped_is parts form key may) stands in
          record { given = given' behind_is.given behind_is.meets; meets = meets_back behind_is.given behind_is.meets; empty = blocks_here behind_is.given behind_is.meets },
      λ stands. subst (λ (p : Parts). StandsFor p state) (sym (dropped_is parts form key may)) (record { given = stands.given; meets = meets_on stands.given stands.meets stands.empty }),
    )
