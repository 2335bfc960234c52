-- What the graph in which the first node of a segment is a region stands for, the graph stands for with a node of the segment.
use Rattle.std.proofs.Common.{◌≡◌, ℕ, zero, suc, ◌+◌, Bool, true, false, List, [], ◌∷◌, length, nat_eq, ℤ, pos, Option, None, Some, refl, sym, ◌∙◌, ap, subst, eq-eqb, eqb-true}
use Rattle.std.specs.Prelude.{IsSome, option_map, slice_get, if◌then◌else◌}
use Rattle.std.specs.Option.{option_map_or}
use Rattle.std.proofs.lemmas.Option.{same_Some, none-some}
use Rattle.bytes_core.specs.declared.block.Block.{Block}
use Rattle.bytes_core.specs.declared.word.Word.TheVariants.{To}
use Rattle.graph.specs.declared.object.Object.{Object}
use Rattle.graph.specs.declared.value.Target.TheVariants.{Region, First}
use Rattle.graph.specs.declared.value.Value.{Value}
use Rattle.graph.specs.declared.value.Value.TheVariants.{Address}
use Rattle.graph.specs.declared.parts.Parts.{Parts}
use Rattle.graph.specs.Closed.{IsClosed}
use Rattle.graph.specs.Maps.{object_at, value_at, storage_of}
use Rattle.graph.specs.State.{State}
use Rattle.graph.specs.Whole.{IsGraph}
use Rattle.graph.specs.Meaning.{HasBlocks, HasBlocksAs, ends_in, ends_of, no_ends, address_word, HasWord, maps_of, Assignment, IsOwned, Meets}
use Rattle.graph.proofs.Closed.{closed_of}
use Rattle.graph.proofs.Found.{Holds-some, IsSome-holds}
use Rattle.materialise.specs.SplitFirst.{own_values, alone_key}
use Rattle.materialise.specs.WithOne.{HaveOffsets}
use Rattle.materialise.proofs.FirstCase.{IsSplit, object, after, change, new_object, rest_object, there_other, key_other, object_rest, object_new, object_other, value_was, owned_is, before_is, alone_is}
use Rattle.materialise.proofs.FirstForm.{lives, leads_at, offset_at}
use Rattle.materialise.proofs.FirstHeld.{rooted_there, storage_other}
use Rattle.materialise.proofs.FirstObjects.{own, own', means_back, key_back}
use Rattle.materialise.proofs.FirstParted.{AreParted, ends_before, same_word}

module _ (parts : Parts) (graph : IsGraph parts) (key : ℕ) (split : IsSplit parts key) (offsets : HaveOffsets parts.values) (state : State) (given' : Assignment)
    (meets : Meets (maps_of (after parts graph key split)) state given') where
  abbrev behind : Parts
  behind = after parts graph key split

  abbrev region : ℕ
  region = length parts.objects

  abbrev rest : List ℕ
  rest = given'.blocks key

  -- the region has one block
  pub one_block : (number : ℕ) × (given'.blocks region ≡ number ∷ [])
  one_block =
      let has = subst (λ (b : Bool). HasBlocksAs b state.memory (new_object parts graph key split) given'.word (own' parts graph key split) (given'.blocks region)) (lives parts graph key split)
      (meets.objects region (new_object parts graph key split) (object_new parts graph key split)) in
      (has.0, has.1)

  abbrev number : ℕ
  number = one_block.0

  abbrev pub given : Assignment
  given = record {
    word = given'.word;
    blocks = λ at. if nat_eq at key then number ∷ rest else given'.blocks at;
    owner = λ at. if nat_eq (given'.owner at) region then key else given'.owner at;
    place = λ at. if nat_eq (given'.owner at) region then 0 else if nat_eq (given'.owner at) key then suc (given'.place at) else given'.place at;
  }

  pub blocks_key : given.blocks key ≡ number ∷ rest
  blocks_key = ap (λ (b : Bool). if b then number ∷ rest else given'.blocks key) (eq-eqb key key refl)

  blocks_other : (at : ℕ) → nat_eq at key ≡ false → given.blocks at ≡ given'.blocks at
  blocks_other at other = ap (λ (b : Bool). if b then number ∷ rest else given'.blocks at) other

  abbrev count : ℕ
  count = length state.memory

  parted : AreParted parts key split given given' number rest
  parted = record {
    whole = blocks_key;
    front = one_block.1;
    behind = refl;
    others = λ at one other. sym (blocks_other at one);
    words = λ at value is. refl;
    onward =
        meets.values (length parts.values + length (own_values key parts)) (Address key (pos split.links.head) First) (owned_is parts graph key split)
        ∙ ap (λ (o : Option Object). address_word First rest (option_map_or (λ object. ends_in object.shape given'.word) o no_ends) (pos split.links.head)) (object_rest parts graph key split);
    before = λ twofold.
        meets.values (length parts.values + length (own_values key parts) + 1) (Address region (pos split.links.back) Region) (before_is parts graph key split twofold) ∙ at_region (pos split.links.back);
    alone = λ at offset is. meets.values (alone_key key parts at) (Address region offset Region) (alone_is parts graph key split at offset is) ∙ at_region offset;
  }
    where
      at_region : (offset : ℤ) → address_word Region (given'.blocks region) (ends_of (object_at behind.objects) given'.word region) offset ≡ To number offset
      at_region offset = ap (λ (blocks : List ℕ). address_word Region blocks (ends_of (object_at behind.objects) given'.word region) offset) one_block.1

  closed : IsClosed (maps_of parts)
  closed = closed_of parts graph.well_formed

  -- Values.

  old : (at : ℕ) (value : Value) → value_at parts.values at ≡ Some value → HasWord count given.blocks (ends_before parts graph key split given given' number rest parted) value (given.word at)
  old at value is =
      (same_word parts graph key split given given' number rest parted count value (leads_at parts graph at value is) (offset_at parts graph offsets at value is) (given'.word at)).1
      (meets.values at (change parts graph key split value) (value_was parts graph key split at value is))

  -- Objects.

  still_there : (at : ℕ) (found : Object) → object_at parts.objects at ≡ Some found → nat_eq at key ≡ false → object_at behind.objects at ≡ Some found
  still_there at found stands other = object_other parts graph key split at other (there_other parts graph key split at found stands) ∙ stands

  object_back : (at : ℕ) (found : Object) → object_at parts.objects at ≡ Some found → HasBlocks state.memory found given.word (own parts graph key split) (given.blocks at)
  object_back at found stands = by_key (nat_eq at key) refl
    where
      here : HasBlocks state.memory (object parts graph key split) given.word (own parts graph key split) (given.blocks key)
      here =
          key_back parts graph key split offsets given given' number rest parted count old state.memory
          (meets.objects key (rest_object parts graph key split) (object_rest parts graph key split))
          (subst (λ (blocks : List ℕ). HasBlocks state.memory (new_object parts graph key split) given'.word (own' parts graph key split) blocks) one_block.1 (meets.objects region (new_object parts graph key split) (object_new parts graph key split)))

      by_key : (b : Bool) → nat_eq at key ≡ b → HasBlocks state.memory found given.word (own parts graph key split) (if b then number ∷ rest else given'.blocks at)
      by_key false other = means_back parts graph key split offsets given given' number rest parted count old state.memory at found stands (given'.blocks at) (meets.objects at found (still_there at found stands other))
      by_key true is =
          subst (λ (o : Object). HasBlocks state.memory o given.word (own parts graph key split) (number ∷ rest)) (same_Some _ _ (sym split.stands ∙ ap (object_at parts.objects) (sym (eqb-true _ _ is)) ∙ stands))
          (subst (λ (blocks : List ℕ). HasBlocks state.memory (object parts graph key split) given.word (own parts graph key split) blocks) blocks_key here)

  -- Owners.

  rest_some : IsSome (object_at behind.objects key)
  rest_some = IsSome-holds _ _ (object_rest parts graph key split)

  region_some : IsSome (object_at behind.objects region)
  region_some = IsSome-holds _ _ (object_new parts graph key split)

  first_there : slice_get (given'.blocks region) 0 ≡ Some number
  first_there = ap (λ (blocks : List ℕ). slice_get blocks 0) one_block.1

  owner_region : (at : ℕ) → given'.owner at ≡ region → (given.owner at ≡ key) × (given.place at ≡ 0)
  owner_region at is =
      let here = eq-eqb (given'.owner at) region is in (
        ap (λ (b : Bool). if b then key else given'.owner at) here,
        ap (λ (b : Bool). if b then 0 else if nat_eq (given'.owner at) key then suc (given'.place at) else given'.place at) here,
      )

  owner_key : (at : ℕ) → given'.owner at ≡ key → (given.owner at ≡ key) × (given.place at ≡ suc (given'.place at))
  owner_key at is =
      let other : nat_eq (given'.owner at) region ≡ false = ap (λ (k : ℕ). nat_eq k region) is ∙ key_other parts graph key split in (
        ap (λ (b : Bool). if b then key else given'.owner at) other ∙ is,
        ap (λ (b : Bool). if b then 0 else if nat_eq (given'.owner at) key then suc (given'.place at) else given'.place at) other
            ∙ ap (λ (b : Bool). if b then suc (given'.place at) else given'.place at) (eq-eqb (given'.owner at) key is),
      )

  owner_other : (at : ℕ) → nat_eq (given'.owner at) key ≡ false → nat_eq (given'.owner at) region ≡ false → (given.owner at ≡ given'.owner at) × (given.place at ≡ given'.place at)
  owner_other at one other = (
    ap (λ (b : Bool). if b then key else given'.owner at) other,
    ap (λ (b : Bool). if b then 0 else if nat_eq (given'.owner at) key then suc (given'.place at) else given'.place at) other
        ∙ ap (λ (b : Bool). if b then suc (given'.place at) else given'.place at) one,
  )

  owned_back : (at place found : ℕ) → IsSome (object_at parts.objects at) → slice_get (given.blocks at) place ≡ Some found → (given.owner found ≡ at) × (given.place found ≡ place)
  owned_back at place found some = by_key (nat_eq at key) refl place
    where
      by_key : (b : Bool) → nat_eq at key ≡ b → (place : ℕ) → slice_get (if b then number ∷ rest else given'.blocks at) place ≡ Some found → (given.owner found ≡ at) × (given.place found ≡ place)
      by_key true is zero stands =
          let owner = owner_region found (meets.owners region 0 found region_some (first_there ∙ stands)) in
          (owner.0 ∙ sym (eqb-true _ _ is), owner.1)
      by_key true is (suc place) stands =
          let owner = owner_key found (meets.owners key place found rest_some stands) in
          (owner.0 ∙ sym (eqb-true _ _ is), owner.1 ∙ ap suc (meets.places key place found rest_some stands))
      by_key false one place stands =
          let held = Holds-some (object_at parts.objects at) some in
          let there = IsSome-holds _ _ (still_there at held.item held.is one) in
          let was = meets.owners at place found there stands in
          let owner = owner_other found (ap (λ (k : ℕ). nat_eq k key) was ∙ one) (ap (λ (k : ℕ). nat_eq k region) was ∙ there_other parts graph key split at held.item held.is) in
          (owner.0 ∙ was, owner.1 ∙ meets.places at place found there stands)

  used_back : (at : ℕ) (block : Block) → slice_get state.memory at ≡ Some block → block.live ≡ true → IsOwned (maps_of parts) given at
  used_back at block stands live = by_region (nat_eq (given'.owner at) region) refl (nat_eq (given'.owner at) key) refl
    where
      owned : IsOwned (maps_of behind) given' at
      owned = meets.used at block stands live

      owner_there : (k : ℕ) → given.owner at ≡ k → IsSome (object_at parts.objects k) → (p : ℕ) → given.place at ≡ p → slice_get (given.blocks k) p ≡ Some at → IsOwned (maps_of parts) given at
      owner_there k owner some p place is = record {
        object = subst (λ (k : ℕ). IsSome (object_at parts.objects k)) (sym owner) some;
        block = ap (λ (k : ℕ). slice_get (given.blocks k) (given.place at)) owner ∙ ap (slice_get (given.blocks k)) place ∙ is;
      }

      key_some : IsSome (object_at parts.objects key)
      key_some = IsSome-holds _ _ split.stands

      alone : (place : ℕ) → slice_get (number ∷ []) place ≡ Some at → number ≡ at
      alone zero is = same_Some _ _ is
      alone (suc place) is = absurd (none-some at is)

      by_region : (a : Bool) → nat_eq (given'.owner at) region ≡ a → (b : Bool) → nat_eq (given'.owner at) key ≡ b → IsOwned (maps_of parts) given at
      by_region true is b b_is =
          let region_is = eqb-true _ _ is in
          let owner = owner_region at region_is in
          let one = alone (given'.place at) (ap (λ (blocks : List ℕ). slice_get blocks (given'.place at)) (sym one_block.1 ∙ ap given'.blocks (sym region_is)) ∙ owned.block) in
          owner_there key owner.0 key_some 0 owner.1 (ap (λ (blocks : List ℕ). slice_get blocks 0) blocks_key ∙ ap Some one)
      by_region false other true is =
          let key_is = eqb-true _ _ is in
          let owner = owner_key at key_is in
          owner_there key owner.0 key_some (suc (given'.place at)) owner.1
          (ap (λ (blocks : List ℕ). slice_get blocks (suc (given'.place at))) blocks_key ∙ ap (λ (blocks : List ℕ). slice_get blocks (given'.place at)) (ap given'.blocks (sym key_is)) ∙ owned.block)
      by_region false other false one =
          let owner = owner_other at one other in
          owner_there (given'.owner at) owner.0 (subst (λ (o : Option Object). IsSome o) (object_other parts graph key split (given'.owner at) one other) owned.object) (given'.place at) owner.1
          (ap (λ (blocks : List ℕ). slice_get blocks (given'.place at)) (blocks_other (given'.owner at) one) ∙ owned.block)

  -- The whole.

  by_storage : (variable : ℕ) (found : Option ℕ) → storage_of parts.variables variable ≡ found → option_map given'.blocks found ≡ option_map given.blocks found
  by_storage variable None is = refl
  by_storage variable (Some at) is = ap Some (sym (blocks_other at (storage_other parts graph key split variable at is).0))

  pub meets_back : Meets (maps_of parts) state given
  meets_back = record {
    values = old;
    objects = object_back;
    owners = λ at place found some stands. (owned_back at place found some stands).0;
    places = λ at place found some stands. (owned_back at place found some stands).1;
    used = used_back;
    variables = λ variable. meets.variables variable ∙ by_storage variable (storage_of parts.variables variable) refl;
    registers = meets.registers;
    ports = meets.ports;
    rooted = λ place port stands. (rooted_there parts graph key split state.roots port (given'.word port) (closed.ports place port stands)).1 (meets.rooted place port stands);
    unequal = meets.unequal;
  }
