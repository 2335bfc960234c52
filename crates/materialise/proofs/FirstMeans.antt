-- What a graph stands for with a node of a segment, the graph in which its first node is a region stands for.
use Rattle.std.proofs.Common.{◌≡◌, ℕ, zero, suc, ◌+◌, ◌-◌, Bool, true, false, List, [], ◌∷◌, length, nat_eq, pos, Option, None, Some, refl, sym, ◌∙◌, ap, subst, eq-eqb, eqb-true, arith}
use Rattle.std.specs.Prelude.{IsSome, option_map, slice_get, if◌then◌else◌}
use Rattle.std.proofs.lemmas.Bool.{false≢true, ne_eqb}
use Rattle.std.proofs.lemmas.Option.{same_Some, none-some}
use Rattle.bytes_core.specs.declared.block.Block.{Block}
use Rattle.bytes_core.specs.declared.word.Word.{Word}
use Rattle.bytes_core.specs.declared.word.Word.TheVariants.{Plain, To}
use Rattle.graph.specs.declared.object.Object.{Object}
use Rattle.graph.specs.declared.value.Target.TheVariants.{Region, First, Last, Each}
use Rattle.graph.specs.declared.value.Value.{Value}
use Rattle.graph.specs.declared.value.Value.TheVariants.{Const, Number, Any, Address}
use Rattle.graph.specs.declared.parts.Parts.{Parts}
use Rattle.graph.specs.Closed.{IsClosed}
use Rattle.graph.specs.Maps.{object_at, value_at, storage_of, held_by}
use Rattle.graph.specs.State.{State}
use Rattle.graph.specs.Whole.{IsGraph}
use Rattle.graph.specs.Meaning.{HasBlocks, end_word, first_of, Ends, address_word, HasWord, IsRooted, maps_of, Assignment, IsOwned, Meets}
use Rattle.graph.proofs.Closed.{closed_of}
use Rattle.graph.proofs.Found.{Holds-some, IsSome-holds}
use Rattle.changes.proofs.Value.{map_same}
use Rattle.materialise.specs.SplitFirst.{own_values, alone_key}
use Rattle.materialise.specs.WithOne.{HaveOffsets}
use Rattle.materialise.proofs.FirstCase.{IsSplit, object, after, new_object, rest_object, there_other, key_other, object_rest, object_new, object_other, value_was, owned_free, owned_is, before_free, before_is, new_all, alone_free, alone_is}
use Rattle.materialise.proofs.FirstHeld.{rooted_there, storage_other}
use Rattle.materialise.proofs.FirstObjects.{own', new, means_on, next_has, key_on}
use Rattle.materialise.proofs.FirstParted.{AreParted, ends_behind}

-- the word of a value that the graph has more
abbrev new_word : ℕ → Word → Option Value → Word
new_word number onward None = Plain 0
new_word number onward (Some (Const constant size)) = Plain 0
new_word number onward (Some (Number size)) = Plain 0
new_word number onward (Some Any) = Plain 0
new_word number onward (Some (Address other offset Region)) = To number offset
new_word number onward (Some (Address other offset First)) = onward
new_word number onward (Some (Address other offset Last)) = Plain 0
new_word number onward (Some (Address other offset Each)) = Plain 0

abbrev word_for : Option Value → Word → Word → Word
word_for None word other = other
word_for (Some value) word other = word

module _ (parts : Parts) (graph : IsGraph parts) (key : ℕ) (split : IsSplit parts key) (offsets : HaveOffsets parts.values) (state : State) (given : Assignment) (meets : Meets (maps_of parts) state given)
    (number : ℕ) (rest : List ℕ) (whole : given.blocks key ≡ number ∷ rest) where
  abbrev behind : Parts
  behind = after parts graph key split

  abbrev region : ℕ
  region = length parts.objects

  abbrev onward : Word
  onward = end_word (first_of rest) (given.word split.links.next_value) split.links.head (pos split.links.head)

  abbrev pub given' : Assignment
  given' = record {
    word = λ at. word_for (value_at parts.values at) (given.word at) (new_word number onward (value_at behind.values at));
    blocks = λ at. if nat_eq at region then number ∷ [] else if nat_eq at key then rest else given.blocks at;
    owner = λ at. if nat_eq at number then region else given.owner at;
    place = λ at. if nat_eq at number then 0 else if nat_eq (given.owner at) key then given.place at - 1 else given.place at;
  }

  word_kept : (at : ℕ) (value : Value) → value_at parts.values at ≡ Some value → given'.word at ≡ given.word at
  word_kept at value is = ap (λ (o : Option Value). word_for o (given.word at) (new_word number onward (value_at behind.values at))) is

  word_new : (at : ℕ) (value : Value) → value_at parts.values at ≡ None → value_at behind.values at ≡ Some value → given'.word at ≡ new_word number onward (Some value)
  word_new at value none is = ap (λ (o : Option Value). word_for o (given.word at) (new_word number onward (value_at behind.values at))) none ∙ ap (new_word number onward) is

  blocks_region : given'.blocks region ≡ number ∷ []
  blocks_region = ap (λ (b : Bool). if b then number ∷ [] else if nat_eq region key then rest else given.blocks region) (eq-eqb region region refl)

  blocks_key : given'.blocks key ≡ rest
  blocks_key =
      ap (λ (b : Bool). if b then number ∷ [] else if nat_eq key key then rest else given.blocks key) (key_other parts graph key split)
      ∙ ap (λ (b : Bool). if b then rest else given.blocks key) (eq-eqb key key refl)

  blocks_other : (at : ℕ) → nat_eq at key ≡ false → nat_eq at region ≡ false → given'.blocks at ≡ given.blocks at
  blocks_other at one other =
      ap (λ (b : Bool). if b then number ∷ [] else if nat_eq at key then rest else given.blocks at) other
      ∙ ap (λ (b : Bool). if b then rest else given.blocks at) one

  parted : AreParted parts key split given given' number rest
  parted = record {
    whole = whole;
    front = blocks_region;
    behind = blocks_key;
    others = blocks_other;
    words = word_kept;
    onward = word_new (length parts.values + length (own_values key parts)) (Address key (pos split.links.head) First) (owned_free parts graph key split) (owned_is parts graph key split);
    before = λ twofold. word_new (length parts.values + length (own_values key parts) + 1) (Address region (pos split.links.back) Region) (before_free parts graph key split) (before_is parts graph key split twofold);
    alone = λ at offset is. word_new (alone_key key parts at) (Address region offset Region) (alone_free parts graph key split at offset is) (alone_is parts graph key split at offset is);
  }

  abbrev ends : ℕ → Ends
  ends = ends_behind parts graph key split given given' number rest parted

  abbrev count : ℕ
  count = length state.memory

  closed : IsClosed (maps_of parts)
  closed = closed_of parts graph.well_formed

  -- Values.

  new_has : (at : ℕ) (value : Value) → value_at parts.values at ≡ None → value_at behind.values at ≡ Some value → HasWord count given'.blocks ends value (new_word number onward (Some value))
  new_has at value none is =
      new_all parts graph key split (λ (v : Value). HasWord count given'.blocks ends v (new_word number onward (Some v)))
      (λ offset. sym (ap (λ (blocks : List ℕ). address_word Region blocks (ends region) offset) blocks_region))
      (sym parted.onward ∙ next_has parts graph key split offsets given given' number rest parted count meets.values state.memory) at value none is

  value_on : (at : ℕ) (value : Value) → value_at behind.values at ≡ Some value → HasWord count given'.blocks ends value (given'.word at)
  value_on at value stands = by_found (value_at parts.values at) refl
    where
      by_found : (found : Option Value) → value_at parts.values at ≡ found → HasWord count given'.blocks ends value (given'.word at)
      by_found None none = subst (λ (w : Word). HasWord count given'.blocks ends value w) (sym (word_new at value none stands)) (new_has at value none stands)
      by_found (Some old) is =
          subst (λ (v : Value). HasWord count given'.blocks ends v (given'.word at)) (same_Some _ _ (sym (value_was parts graph key split at old is) ∙ stands))
          (new parts graph key split offsets given given' number rest parted count meets.values at old is)

  -- Objects.

  object_on : (at : ℕ) (found : Object) → object_at behind.objects at ≡ Some found → HasBlocks state.memory found given'.word (own' parts graph key split) (given'.blocks at)
  object_on at found stands = by_region (nat_eq at region) refl (nat_eq at key) refl
    where
      both : HasBlocks state.memory (rest_object parts graph key split) given'.word (own' parts graph key split) rest × HasBlocks state.memory (new_object parts graph key split) given'.word (own' parts graph key split) (number ∷ [])
      both = key_on parts graph key split offsets given given' number rest parted count meets.values state.memory (meets.objects key (object parts graph key split) split.stands)

      by_region : (a : Bool) → nat_eq at region ≡ a → (b : Bool) → nat_eq at key ≡ b →
          HasBlocks state.memory found given'.word (own' parts graph key split) (if a then number ∷ [] else if b then rest else given.blocks at)
      by_region true is b b_is =
          subst (λ (o : Object). HasBlocks state.memory o given'.word (own' parts graph key split) (number ∷ []))
          (same_Some _ _ (sym (object_new parts graph key split) ∙ ap (object_at behind.objects) (sym (eqb-true _ _ is)) ∙ stands)) both.1
      by_region false other true is =
          subst (λ (o : Object). HasBlocks state.memory o given'.word (own' parts graph key split) rest)
          (same_Some _ _ (sym (object_rest parts graph key split) ∙ ap (object_at behind.objects) (sym (eqb-true _ _ is)) ∙ stands)) both.0
      by_region false other false differs =
          let there : object_at parts.objects at ≡ Some found = sym (object_other parts graph key split at differs other) ∙ stands in
          means_on parts graph key split offsets given given' number rest parted count meets.values state.memory at found there (given.blocks at) (meets.objects at found there)

  -- Owners.

  first_there : slice_get (given.blocks key) 0 ≡ Some number
  first_there = ap (λ (blocks : List ℕ). slice_get blocks 0) whole

  key_some : IsSome (object_at parts.objects key)
  key_some = IsSome-holds _ _ split.stands

  first_owner : given.owner number ≡ key
  first_owner = meets.owners key 0 number key_some first_there

  first_place : given.place number ≡ 0
  first_place = meets.places key 0 number key_some first_there

  was_there : (at : ℕ) → nat_eq at key ≡ false → nat_eq at region ≡ false → IsSome (object_at behind.objects at) → IsSome (object_at parts.objects at)
  was_there at one other some = subst (λ (o : Option Object). IsSome o) (object_other parts graph key split at one other) some

  one_block : (place at : ℕ) → slice_get (number ∷ []) place ≡ Some at → (at ≡ number) × (place ≡ 0)
  one_block zero at stands = (sym (same_Some _ _ stands), refl)
  one_block (suc place) at stands = absurd (none-some at stands)

  -- the owner and the place of a block that is another one
  owner_other : (at : ℕ) → nat_eq at number ≡ false → given'.owner at ≡ given.owner at
  owner_other at other = ap (λ (b : Bool). if b then region else given.owner at) other

  place_by : (at : ℕ) (b : Bool) → nat_eq at number ≡ false → nat_eq (given.owner at) key ≡ b → given'.place at ≡ (if b then given.place at - 1 else given.place at)
  place_by at b other is =
      ap (λ (b : Bool). if b then 0 else if nat_eq (given.owner at) key then given.place at - 1 else given.place at) other
      ∙ ap (λ (b : Bool). if b then given.place at - 1 else given.place at) is

  owned_on : (at place found : ℕ) → IsSome (object_at behind.objects at) → slice_get (given'.blocks at) place ≡ Some found → (given'.owner found ≡ at) × (given'.place found ≡ place)
  owned_on at place found some = by_region (nat_eq at region) refl (nat_eq at key) refl
    where
      by_region : (a : Bool) → nat_eq at region ≡ a → (b : Bool) → nat_eq at key ≡ b → slice_get (if a then number ∷ [] else if b then rest else given.blocks at) place ≡ Some found →
          (given'.owner found ≡ at) × (given'.place found ≡ place)
      by_region true is b b_is stands =
          let one = one_block place found stands in
          let here : nat_eq found number ≡ true = eq-eqb found number one.0 in (
            ap (λ (b : Bool). if b then region else given.owner found) here ∙ sym (eqb-true _ _ is),
            ap (λ (b : Bool). if b then 0 else if nat_eq (given.owner found) key then given.place found - 1 else given.place found) here ∙ sym one.1,
          )
      by_region false other true is stands =
          let there : slice_get (given.blocks key) (suc place) ≡ Some found = ap (λ (blocks : List ℕ). slice_get blocks (suc place)) whole ∙ stands in
          let owner = meets.owners key (suc place) found key_some there in
          let place_is = meets.places key (suc place) found key_some there in
          let differs : nat_eq found number ≡ false = ne_eqb found number (λ same. let e : given.place found ≡ given.place number = ap given.place same in let z = first_place in absurd (omega arith)) in (
            owner_other found differs ∙ owner ∙ sym (eqb-true _ _ is),
            place_by found true differs (eq-eqb _ _ owner) ∙ (let e : given.place found - 1 ≡ place = omega arith in e),
          )
      by_region false other false one stands =
          let there = was_there at one other some in
          let owner = meets.owners at place found there stands in
          let place_is = meets.places at place found there stands in
          let differs : nat_eq found number ≡ false = ne_eqb found number (λ same. false≢true (sym one ∙ eq-eqb at key (sym owner ∙ ap given.owner same ∙ first_owner))) in (
            owner_other found differs ∙ owner,
            place_by found false differs (ap (λ (k : ℕ). nat_eq k key) owner ∙ one) ∙ place_is,
          )

  used_on : (at : ℕ) (block : Block) → slice_get state.memory at ≡ Some block → block.live ≡ true → IsOwned (maps_of behind) given' at
  used_on at block stands live = by_number (nat_eq at number) refl
    where
      owned : IsOwned (maps_of parts) given at
      owned = meets.used at block stands live

      owner_there : (k : ℕ) → given'.owner at ≡ k → IsSome (object_at behind.objects k) → (p : ℕ) → given'.place at ≡ p → slice_get (given'.blocks k) p ≡ Some at → IsOwned (maps_of behind) given' at
      owner_there k owner some p place is = record {
        object = subst (λ (k : ℕ). IsSome (object_at behind.objects k)) (sym owner) some;
        block = ap (λ (k : ℕ). slice_get (given'.blocks k) (given'.place at)) owner ∙ ap (slice_get (given'.blocks k)) place ∙ is;
      }

      later : nat_eq at number ≡ false → (p : ℕ) → given.place at ≡ p → slice_get (number ∷ rest) p ≡ Some at → slice_get rest (given.place at - 1) ≡ Some at
      later differs zero place is = absurd (false≢true (sym differs ∙ eq-eqb at number (sym (same_Some _ _ is))))
      later differs (suc p) place is = ap (slice_get rest) (let e : given.place at - 1 ≡ p = omega arith in e) ∙ is

      by_key : nat_eq at number ≡ false → (b : Bool) → nat_eq (given.owner at) key ≡ b → IsOwned (maps_of behind) given' at
      by_key differs true is =
          let key_is = eqb-true _ _ is in
          owner_there key (owner_other at differs ∙ key_is) (IsSome-holds _ _ (object_rest parts graph key split)) (given.place at - 1) (place_by at true differs is)
          (ap (λ (blocks : List ℕ). slice_get blocks (given.place at - 1)) blocks_key
          ∙ later differs (given.place at) refl (ap (λ (blocks : List ℕ). slice_get blocks (given.place at)) (sym whole ∙ ap given.blocks (sym key_is)) ∙ owned.block))
      by_key differs false one =
          let held = Holds-some (object_at parts.objects (given.owner at)) owned.object in
          let other = there_other parts graph key split (given.owner at) held.item held.is in
          owner_there (given.owner at) (owner_other at differs) (IsSome-holds _ _ (object_other parts graph key split (given.owner at) one other ∙ held.is)) (given.place at) (place_by at false differs one)
          (ap (λ (blocks : List ℕ). slice_get blocks (given.place at)) (blocks_other (given.owner at) one other) ∙ owned.block)

      by_number : (b : Bool) → nat_eq at number ≡ b → IsOwned (maps_of behind) given' at
      by_number false differs = by_key differs (nat_eq (given.owner at) key) refl
      by_number true is =
          owner_there region (ap (λ (b : Bool). if b then region else given.owner at) is) (IsSome-holds _ _ (object_new parts graph key split)) 0
          (ap (λ (b : Bool). if b then 0 else if nat_eq (given.owner at) key then given.place at - 1 else given.place at) is)
          (ap (λ (blocks : List ℕ). slice_get blocks 0) blocks_region ∙ ap Some (sym (eqb-true _ _ is)))

  -- The whole.

  same : (at : ℕ) → IsSome (value_at parts.values at) → given'.word at ≡ given.word at
  same at some = let held = Holds-some (value_at parts.values at) some in word_kept at held.item held.is

  by_storage : (variable : ℕ) (found : Option ℕ) → storage_of parts.variables variable ≡ found → option_map given.blocks found ≡ option_map given'.blocks found
  by_storage variable None is = refl
  by_storage variable (Some at) is = let other = storage_other parts graph key split variable at is in ap Some (sym (blocks_other at other.0 other.1))

  by_register : (register : ℕ) (found : Option ℕ) → held_by parts.registers register ≡ found → option_map given.word found ≡ option_map given'.word found
  by_register register None is = refl
  by_register register (Some at) is = ap Some (sym (same at (closed.registers register at is)))

  pub meets_on : Meets (maps_of behind) state given'
  meets_on = record {
    values = value_on;
    objects = object_on;
    owners = λ at place found some stands. (owned_on at place found some stands).0;
    places = λ at place found some stands. (owned_on at place found some stands).1;
    used = used_on;
    variables = λ variable. meets.variables variable ∙ by_storage variable (storage_of parts.variables variable) refl;
    registers = λ register. meets.registers register ∙ by_register register (held_by parts.registers register) refl;
    ports = meets.ports ∙ map_same given.word given'.word parts.ports (λ place port stands. sym (same port (closed.ports place port stands)));
    rooted = λ place port stands.
        let some = closed.ports place port stands in
        subst (λ (w : Word). IsRooted state.roots (value_at behind.values port) w) (sym (same port some)) ((rooted_there parts graph key split state.roots port (given.word port) some).0 (meets.rooted place port stands));
    unequal = λ place pair stands equal.
        let some = closed.unequal place pair stands in
        meets.unequal place pair stands (sym (same pair.left some.0) ∙ equal ∙ same pair.right some.1);
  }
