-- A graph and a part of it that leaves out values and dead objects: what the part says of a state, the whole says too, with words and
-- blocks of choice for what is left out; and the other way round.
use Rattle.std.proofs.Common.{◌≡◌, ◌≢◌, ℕ, zero, suc, ◌+◌, ◌-◌, ◌^◌, ◌<◌, ◌≤◌, Bool, true, false, List, [], ◌∷◌, map, length, nat_lt, Option, None, Some, refl, sym, ◌∙◌, ap, subst, arith}
use Rattle.std.specs.Prelude.{IsSome, option_map, slice_get, if◌then◌else◌}
use Rattle.std.specs.Option.{option_map_or}
use Rattle.std.proofs.lemmas.Bool.{false≢true, lt-ltb, le-ltb}
use Rattle.std.proofs.lemmas.Option.{same_Some, none-some, slice_get_within, slice_get_past}
use Rattle.bytes_core.specs.declared.block.Block.{Block}
use Rattle.bytes_core.specs.declared.block.BlockKind.{BlockKind}
use Rattle.bytes_core.specs.declared.word.Word.{Word}
use Rattle.bytes_core.specs.declared.word.Word.TheVariants.{Plain}
use Rattle.graph.specs.declared.object.Object.{Object}
use Rattle.graph.specs.declared.object.Shape.{Shape}
use Rattle.graph.specs.declared.object.Shape.TheVariants.{Region as RegionShape, Segment}
use Rattle.graph.specs.declared.value.Value.{Value}
use Rattle.graph.specs.declared.value.Value.TheVariants.{Const, Number, Any, Address}
use Rattle.graph.specs.declared.parts.Pair.{Pair}
use Rattle.graph.specs.Closed.{OnEnds, IsClosed}
use Rattle.graph.specs.Nodes.{own_node}
use Rattle.graph.specs.State.{State}
use Rattle.graph.specs.Meaning.{IsGone, HasBlocksAs, HasBlocks, Ends, ends_in, ends_of, no_ends, address_word, HasWord, own_offset, IsRooted, Maps, Assignment, IsOwned, Meets}
use Rattle.graph.proofs.Found.{Holds-some, IsSome-holds}
use Rattle.graph.proofs.Frames.{OnNamed-weaker, Agrees, HasBlocks-agree}

-- the one graph is a part of the other: what it has stands there as well, and what is left out are values and dead objects
pub record IsPartOf (narrow wide : Maps) : Type 0 where
  pub closed : IsClosed narrow
  pub objects : (key : ℕ) (object : Object) → narrow.objects key ≡ Some object → wide.objects key ≡ Some object
  pub values : (key : ℕ) (value : Value) → narrow.values key ≡ Some value → wide.values key ≡ Some value
  pub dead : (key : ℕ) (object : Object) → wide.objects key ≡ Some object → narrow.objects key ≡ None → (object.live ≡ false) × (object.shape ≡ RegionShape)
  pub variables : (variable : ℕ) → wide.variables variable ≡ narrow.variables variable
  pub registers : (register : ℕ) → wide.registers register ≡ narrow.registers register
  pub ports : wide.ports ≡ narrow.ports

map_same : {A B : Type 0} (f g : A → B) (xs : List A) → ((place : ℕ) (x : A) → slice_get xs place ≡ Some x → f x ≡ g x) → map f xs ≡ map g xs
map_same f g [] same = refl
map_same f g (x ∷ xs) same =
    ap (λ (y : _). y ∷ map f xs) (same 0 x refl) ∙ ap (λ (ys : List _). g x ∷ ys) (map_same f g xs (λ place next stands. same (suc place) next stands))

option_same : {A B : Type 0} (f g : A → B) (o : Option A) → ((x : A) → o ≡ Some x → f x ≡ g x) → option_map f o ≡ option_map g o
option_same f g None same = refl
option_same f g (Some x) same = ap Some (same x refl)

region_ends : (shape : Shape) (one other : ℕ → Word) → shape ≡ RegionShape → ends_in shape one ≡ ends_in shape other
region_ends shape one other is = ap (λ (s : Shape). ends_in s one) is ∙ sym (ap (λ (s : Shape). ends_in s other) is)

same_ends : (shape : Shape) (one other : ℕ → Word) → OnEnds (λ key. one key ≡ other key) shape → ends_in shape one ≡ ends_in shape other
same_ends RegionShape one other same = refl
same_ends (Segment twofold head next prev back least next_value prev_value node) one other (after, before) =
    ap (λ (w : Word). record { head = head; back = back; after = w; before = one prev_value }) after
    ∙ ap (λ (w : Word). record { head = head; back = back; after = other next_value; before = w }) before

-- From the whole to the part.

module _ (narrow wide : Maps) (part : IsPartOf narrow wide) where
  object_there : (key : ℕ) → IsSome (narrow.objects key) → IsSome (wide.objects key)
  object_there key some = let held = Holds-some (narrow.objects key) some in IsSome-holds _ _ (part.objects key held.item held.is)

  -- ends of an object of the part are the same by words that agree at its values
  ends_same : (one other : ℕ → Word) → ((key : ℕ) → IsSome (narrow.values key) → one key ≡ other key) → (key : ℕ) → IsSome (narrow.objects key) → ends_of narrow.objects one key ≡ ends_of wide.objects other key
  ends_same one other agree key some =
      let held = Holds-some (narrow.objects key) some in
      ap (λ (o : Option Object). option_map_or (λ object. ends_in object.shape one) o no_ends) held.is
      ∙ same_ends held.item.shape one other
      (OnNamed-weaker (λ value. IsSome (narrow.values value)) (λ value. one value ≡ other value) agree held.item.shape (own_node held.item) (part.closed.objects key held.item held.is)).1
      ∙ sym (ap (λ (o : Option Object). option_map_or (λ object. ends_in object.shape other) o no_ends) (part.objects key held.item held.is))

  own_same : (key : ℕ) → IsSome (narrow.values key) → own_offset (narrow.values key) ≡ own_offset (wide.values key)
  own_same key some = let held = Holds-some (narrow.values key) some in ap own_offset held.is ∙ sym (ap own_offset (part.values key held.item held.is))

  agree_same : (one other : ℕ → Word) → ((key : ℕ) → IsSome (narrow.values key) → one key ≡ other key) → (key : ℕ) → IsSome (narrow.values key) →
      Agrees one other (λ value. own_offset (narrow.values value)) (λ value. own_offset (wide.values value)) key
  agree_same one other agree key some = (agree key some, own_same key some)

  agree_back : (one : ℕ → Word) (key : ℕ) → IsSome (narrow.values key) → Agrees one one (λ value. own_offset (wide.values value)) (λ value. own_offset (narrow.values value)) key
  agree_back one key some = (refl, sym (own_same key some))

  value_back : (state : State) (given : Assignment) (key : ℕ) (value : Value) → narrow.values key ≡ Some value → HasWord (length state.memory) given.blocks (ends_of wide.objects given.word) value (given.word key) →
      HasWord (length state.memory) given.blocks (ends_of narrow.objects given.word) value (given.word key)
  value_back state given key (Const number size) is has = has
  value_back state given key (Number size) is has = has
  value_back state given key Any is has = has
  value_back state given key (Address object offset target) is has =
      has ∙ ap (λ (ends : Ends). address_word target (given.blocks object) ends offset) (sym (ends_same given.word given.word (λ key some. refl) object (part.closed.addresses key object offset target is)))

  -- a live block is none of a dead object
  live_owner : (state : State) (given : Assignment) → Meets wide state given → (number : ℕ) (block : Block) → slice_get state.memory number ≡ Some block → block.live ≡ true →
      IsOwned wide given number → (found : Option Object) → narrow.objects (given.owner number) ≡ found → IsSome found
  live_owner state given meets number block stands live owned (Some object) is = refl
  live_owner state given meets number block stands live owned None is =
      let held = Holds-some (wide.objects (given.owner number)) owned.object in
      let dead = part.dead (given.owner number) held.item held.is is in
      absurd (by_block (given.place number) held.item.kind (subst (λ (b : Bool). HasBlocksAs b state.memory held.item given.word (λ value. own_offset (wide.values value)) (given.blocks (given.owner number))) dead.0
      (meets.objects (given.owner number) held.item held.is)) owned.block)
    where
      by_place : (place one : ℕ) → slice_get (one ∷ []) place ≡ Some number → one ≡ number
      by_place zero one found = same_Some _ _ found
      by_place (suc place) one found = absurd (none-some number found)

      by_block : (place : ℕ) (kind : BlockKind) → (one : ℕ) × (given.blocks (given.owner number) ≡ one ∷ []) × IsGone kind (slice_get state.memory one) → slice_get (given.blocks (given.owner number)) place ≡ Some number → ⊥
      by_block place kind (one, is, gone) found =
          let same : one ≡ number = by_place place one (sym (ap (λ (blocks : List ℕ). slice_get blocks place) is) ∙ found) in
          let dead : block.live ≡ false = (subst (IsGone kind) (ap (slice_get state.memory) same ∙ stands) gone).0 in
          false≢true (sym dead ∙ live)

  pub narrowed : (pairs : (place : ℕ) (pair : Pair) → slice_get narrow.unequal place ≡ Some pair → (at : ℕ) × (slice_get wide.unequal at ≡ Some pair)) →
      (state : State) (given : Assignment) → Meets wide state given → Meets narrow state given
  narrowed pairs state given meets = record {
    values = λ key value is. value_back state given key value is (meets.values key value (part.values key value is));
    objects = λ key object is.
        HasBlocks-agree given.word given.word (λ value. own_offset (wide.values value)) (λ value. own_offset (narrow.values value)) object.live state.memory object (given.blocks key)
        (OnNamed-weaker (λ value. IsSome (narrow.values value)) (Agrees given.word given.word (λ value. own_offset (wide.values value)) (λ value. own_offset (narrow.values value)))
        (agree_back given.word) object.shape (own_node object) (part.closed.objects key object is))
        (meets.objects key object (part.objects key object is));
    owners = λ key place number some stands. meets.owners key place number (object_there key some) stands;
    places = λ key place number some stands. meets.places key place number (object_there key some) stands;
    used = λ number block stands live.
        let owned = meets.used number block stands live in
        record { object = live_owner state given meets number block stands live owned (narrow.objects (given.owner number)) refl; block = owned.block };
    variables = λ variable. meets.variables variable ∙ ap (option_map given.blocks) (part.variables variable);
    registers = λ register. meets.registers register ∙ ap (option_map given.word) (part.registers register);
    ports = meets.ports ∙ ap (map given.word) part.ports;
    rooted = λ place port is. rooted_back state port (given.word port) (narrow.values port) refl (meets.rooted place port (ap (λ (ports : List ℕ). slice_get ports place) part.ports ∙ is));
    unequal = λ place pair is. let found = pairs place pair is in meets.unequal found.0 pair found.1;
  }
    where
      rooted_back : (state : State) (port : ℕ) (word : Word) (found : Option Value) → narrow.values port ≡ found → IsRooted state.roots (wide.values port) word → IsRooted state.roots found word
      rooted_back state port word None is rooted = tt
      rooted_back state port word (Some value) is rooted = subst (λ (o : Option Value). IsRooted state.roots o word) (part.values port value is) rooted

-- From the part to the whole.

-- the word of a value of the part, and the word by choice of one that is left out
abbrev chosen_word : ℕ → Word → Option Value → Word
chosen_word number address None = Plain 0
chosen_word number address (Some (Const constant size)) = Plain constant
chosen_word number address (Some (Number size)) = Plain number
chosen_word number address (Some Any) = Plain 0
chosen_word number address (Some (Address object offset target)) = address

abbrev word_or : Option Value → Word → Word → Word
word_or None word choice = choice
word_or (Some value) word choice = word

abbrev blocks_or : Option Object → List ℕ → ℕ → List ℕ
blocks_or None blocks number = number ∷ []
blocks_or (Some object) blocks number = blocks

module _ (narrow wide : Maps) (part : IsPartOf narrow wide) (state : State) (given : Assignment) (number : ℕ → ℕ) (above : ℕ) where
  abbrev more_blocks : ℕ → List ℕ
  more_blocks key = blocks_or (narrow.objects key) (given.blocks key) (above + key)

  abbrev address_in : Option Value → Word
  address_in None = Plain 0
  address_in (Some (Const constant size)) = Plain 0
  address_in (Some (Number size)) = Plain 0
  address_in (Some Any) = Plain 0
  address_in (Some (Address object offset target)) = address_word target (more_blocks object) (ends_of wide.objects given.word object) offset

  abbrev more_word : ℕ → Word
  more_word key = word_or (narrow.values key) (given.word key) (chosen_word (number key) (address_in (wide.values key)) (wide.values key))

  -- the words and blocks of the part, and those of what is left out: blocks from a bound on, and numbers of choice
  abbrev pub extended : Assignment
  extended = record {
    word = more_word;
    blocks = more_blocks;
    owner = λ block. if nat_lt block above then given.owner block else block - above;
    place = λ block. if nat_lt block above then given.place block else 0;
  }

  pub word_kept : (key : ℕ) → IsSome (narrow.values key) → more_word key ≡ given.word key
  word_kept key some =
      let held = Holds-some (narrow.values key) some in
      ap (λ (o : Option Value). word_or o (given.word key) (chosen_word (number key) (address_in (wide.values key)) (wide.values key))) held.is

  pub word_chosen : (key : ℕ) (value : Value) → narrow.values key ≡ None → wide.values key ≡ Some value → more_word key ≡ chosen_word (number key) (address_in (Some value)) (Some value)
  word_chosen key value none is =
      ap (λ (o : Option Value). word_or o (given.word key) (chosen_word (number key) (address_in (wide.values key)) (wide.values key))) none
      ∙ ap (λ (o : Option Value). chosen_word (number key) (address_in o) o) is

  pub blocks_kept : (key : ℕ) → IsSome (narrow.objects key) → more_blocks key ≡ given.blocks key
  blocks_kept key some =
      let held = Holds-some (narrow.objects key) some in
      ap (λ (o : Option Object). blocks_or o (given.blocks key) (above + key)) held.is

  ends_more : (key : ℕ) → ends_of wide.objects given.word key ≡ ends_of wide.objects more_word key
  ends_more key = by_found (wide.objects key) refl (narrow.objects key) refl
    where
      by_found : (found : Option Object) → wide.objects key ≡ found → (kept : Option Object) → narrow.objects key ≡ kept →
          option_map_or (λ object. ends_in object.shape given.word) found no_ends ≡ option_map_or (λ object. ends_in object.shape more_word) found no_ends
      by_found None is kept kept_is = refl
      by_found (Some object) is None gone = region_ends object.shape given.word more_word (part.dead key object is gone).1
      by_found (Some object) is (Some other) stays =
          let same : other ≡ object = same_Some _ _ (sym (part.objects key other stays) ∙ is) in
          same_ends object.shape given.word more_word
          (OnNamed-weaker (λ value. IsSome (narrow.values value)) (λ value. given.word value ≡ more_word value) (λ value some. sym (word_kept value some)) object.shape (own_node object)
          (part.closed.objects key object (stays ∙ ap Some same))).1

  module _ (meets : Meets narrow state given) (beyond : length state.memory ≤ above)
      (over : (key place block : ℕ) → IsSome (narrow.objects key) → slice_get (given.blocks key) place ≡ Some block → block < above)
      (fits : (key size : ℕ) → wide.values key ≡ Some (Number size) → narrow.values key ≡ None → number key < 256 ^ size)
      (differ : (place : ℕ) (pair : Pair) → slice_get wide.unequal place ≡ Some pair → more_word pair.left ≢ more_word pair.right) where
    value_more : (key : ℕ) (value : Value) → wide.values key ≡ Some value → HasWord (length state.memory) more_blocks (ends_of wide.objects more_word) value (more_word key)
    value_more key value is = by_kept (narrow.values key) refl
      where
        -- a value of the part
        kept_word : (value : Value) → narrow.values key ≡ Some value → HasWord (length state.memory) given.blocks (ends_of narrow.objects given.word) value (given.word key) →
            HasWord (length state.memory) more_blocks (ends_of wide.objects more_word) value (given.word key)
        kept_word (Const constant size) is has = has
        kept_word (Number size) is has = has
        kept_word Any is has = has
        kept_word (Address object offset target) is has =
            let there = part.closed.addresses key object offset target is in
            has ∙ ap (λ (blocks : List ℕ). address_word target blocks (ends_of narrow.objects given.word object) offset) (sym (blocks_kept object there))
            ∙ ap (λ (ends : Ends). address_word target (more_blocks object) ends offset) (ends_same narrow wide part given.word more_word (λ value some. sym (word_kept value some)) object there)

        -- one that is left out
        free_word : (value : Value) → wide.values key ≡ Some value → narrow.values key ≡ None → HasWord (length state.memory) more_blocks (ends_of wide.objects more_word) value (chosen_word (number key) (address_in (Some value)) (Some value))
        free_word (Const constant size) is none = refl
        free_word (Number size) is none = (number key, refl, fits key size is none)
        free_word Any is none = record { small = omega arith; named = tt }
        free_word (Address object offset target) is none = ap (λ (ends : Ends). address_word target (more_blocks object) ends offset) (ends_more object)

        by_kept : (kept : Option Value) → narrow.values key ≡ kept → HasWord (length state.memory) more_blocks (ends_of wide.objects more_word) value (more_word key)
        by_kept None none = subst (HasWord (length state.memory) more_blocks (ends_of wide.objects more_word) value) (sym (word_chosen key value none is)) (free_word value is none)
        by_kept (Some other) stays =
            let same : other ≡ value = same_Some _ _ (sym (part.values key other stays) ∙ is) in
            let here : narrow.values key ≡ Some value = stays ∙ ap Some same in
            subst (HasWord (length state.memory) more_blocks (ends_of wide.objects more_word) value) (sym (word_kept key (IsSome-holds _ _ here))) (kept_word value here (meets.values key value here))

    object_more : (key : ℕ) (object : Object) → wide.objects key ≡ Some object → HasBlocks state.memory object more_word (λ value. own_offset (wide.values value)) (more_blocks key)
    object_more key object is = by_kept (narrow.objects key) refl
      where
        by_kept : (kept : Option Object) → narrow.objects key ≡ kept → HasBlocks state.memory object more_word (λ value. own_offset (wide.values value)) (more_blocks key)
        by_kept None gone =
            subst (λ (live : Bool). HasBlocksAs live state.memory object more_word (λ value. own_offset (wide.values value)) (more_blocks key)) (sym (part.dead key object is gone).0)
            (above + key, ap (λ (o : Option Object). blocks_or o (given.blocks key) (above + key)) gone, subst (IsGone object.kind) (sym (slice_get_past state.memory (above + key) (omega arith))) tt)
        by_kept (Some other) stays =
            let same : other ≡ object = same_Some _ _ (sym (part.objects key other stays) ∙ is) in
            let here : narrow.objects key ≡ Some object = stays ∙ ap Some same in
            subst (HasBlocks state.memory object more_word (λ value. own_offset (wide.values value))) (sym (blocks_kept key (IsSome-holds _ _ here)))
            (HasBlocks-agree given.word more_word (λ value. own_offset (narrow.values value)) (λ value. own_offset (wide.values value)) object.live state.memory object (given.blocks key)
            (OnNamed-weaker (λ value. IsSome (narrow.values value)) (Agrees given.word more_word (λ value. own_offset (narrow.values value)) (λ value. own_offset (wide.values value)))
            (agree_same narrow wide part given.word more_word (λ value some. sym (word_kept value some))) object.shape (own_node object) (part.closed.objects key object here))
            (meets.objects key object here))

    low_owner : (block : ℕ) → block < above → (extended.owner block ≡ given.owner block) × (extended.place block ≡ given.place block)
    low_owner block below =
        let test : nat_lt block above ≡ true = lt-ltb block above below in
        (ap (λ (b : Bool). if b then given.owner block else block - above) test, ap (λ (b : Bool). if b then given.place block else 0) test)

    high_owner : (key : ℕ) → (extended.owner (above + key) ≡ key) × (extended.place (above + key) ≡ 0)
    high_owner key =
        let test : nat_lt (above + key) above ≡ false = le-ltb (above + key) above (omega arith) in (
          ap (λ (b : Bool). if b then given.owner (above + key) else above + key - above) test ∙ omega arith,
          ap (λ (b : Bool). if b then given.place (above + key) else 0) test,
        )

    owned_more : (key place block : ℕ) → slice_get (more_blocks key) place ≡ Some block → (extended.owner block ≡ key) × (extended.place block ≡ place)
    owned_more key place block stands = by_kept (narrow.objects key) refl
      where
        by_place : (place : ℕ) → slice_get ((above + key) ∷ []) place ≡ Some block → (extended.owner block ≡ key) × (extended.place block ≡ place)
        by_place zero found = subst (λ (b : ℕ). (extended.owner b ≡ key) × (extended.place b ≡ 0)) (same_Some _ _ found) (high_owner key)
        by_place (suc place) found = absurd (none-some block found)

        by_kept : (kept : Option Object) → narrow.objects key ≡ kept → (extended.owner block ≡ key) × (extended.place block ≡ place)
        by_kept None gone = by_place place (sym (ap (λ (o : Option Object). slice_get (blocks_or o (given.blocks key) (above + key)) place) gone) ∙ stands)
        by_kept (Some object) stays =
            let some = IsSome-holds _ _ stays in
            let found = sym (ap (λ (blocks : List ℕ). slice_get blocks place) (blocks_kept key some)) ∙ stands in
            let low = low_owner block (over key place block some found) in
            (low.0 ∙ meets.owners key place block some found, low.1 ∙ meets.places key place block some found)

    used_more : (block : ℕ) (found : Block) → slice_get state.memory block ≡ Some found → found.live ≡ true → IsOwned wide extended block
    used_more block found stands live =
        let owned = meets.used block found stands live in
        let within = slice_get_within state.memory block found stands in
        let low = low_owner block (omega arith) in
        record {
          object = subst (λ (key : ℕ). IsSome (wide.objects key)) (sym low.0) (object_there narrow wide part (given.owner block) owned.object);
          block = subst (λ (key : ℕ). slice_get (more_blocks key) (extended.place block) ≡ Some block) (sym low.0)
              (ap (slice_get (more_blocks (given.owner block))) low.1 ∙ ap (λ (blocks : List ℕ). slice_get blocks (given.place block)) (blocks_kept (given.owner block) owned.object) ∙ owned.block);
        }

    rooted_more : (port : ℕ) → IsSome (narrow.values port) → IsRooted state.roots (narrow.values port) (given.word port) → IsRooted state.roots (wide.values port) (more_word port)
    rooted_more port some rooted =
        let held = Holds-some (narrow.values port) some in
        subst (IsRooted state.roots (wide.values port)) (sym (word_kept port some))
        (subst (λ (o : Option Value). IsRooted state.roots o (given.word port)) (held.is ∙ sym (part.values port held.item held.is)) rooted)

    pub Meets-extended : Meets wide state extended
    Meets-extended = record {
      values = value_more;
      objects = object_more;
      owners = λ key place block some stands. (owned_more key place block stands).0;
      places = λ key place block some stands. (owned_more key place block stands).1;
      used = used_more;
      variables = λ variable.
          meets.variables variable
          ∙ option_same given.blocks more_blocks (narrow.variables variable) (λ key is. sym (blocks_kept key (part.closed.variables variable key is)))
          ∙ ap (option_map more_blocks) (sym (part.variables variable));
      registers = λ register.
          meets.registers register
          ∙ option_same given.word more_word (narrow.registers register) (λ key is. sym (word_kept key (part.closed.registers register key is)))
          ∙ ap (option_map more_word) (sym (part.registers register));
      ports = meets.ports ∙ map_same given.word more_word narrow.ports (λ place key is. sym (word_kept key (part.closed.ports place key is))) ∙ ap (map more_word) (sym part.ports);
      rooted = λ place port is.
          let here = ap (λ (ports : List ℕ). slice_get ports place) (sym part.ports) ∙ is in
          rooted_more port (part.closed.ports place port here) (meets.rooted place port here);
      unequal = differ;
    }
