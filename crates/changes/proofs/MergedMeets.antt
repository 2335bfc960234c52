-- One value in place of another: the graph stands for the states in which both have one word.
use Rattle.std.proofs.Common.{◌≡◌, ◌≢◌, ℕ, ◌^◌, ◌<◌, Bool, true, false, not, ◌&&◌, ◌||◌, List, [], ◌∷◌, map, length, nat_eq, nat_le, nat_lt, ℤ, Option, None, Some, refl, sym, ◌∙◌, ap, subst, eqb-true, ltb-true, ◌⊎◌, inl, inr}
use Rattle.std.specs.Prelude.{IsSome, option_map, slice_get, if◌then◌else◌}
use Rattle.std.specs.List.{list_all}
use Rattle.std.specs.Option.{option_map_or}
use Rattle.std.proofs.lemmas.Bool.{false≢true}
use Rattle.std.proofs.lemmas.Option.{same_Some, none-some, slice_get-map}
use Rattle.bytes_core.specs.declared.word.Word.{Word}
use Rattle.bytes_core.specs.declared.word.Word.TheVariants.{Plain, To}
use Rattle.graph.specs.declared.object.Object.{Object}
use Rattle.graph.specs.declared.object.Shape.{Shape}
use Rattle.graph.specs.declared.object.Shape.TheVariants.{Region, Segment}
use Rattle.graph.specs.declared.value.Value.{Value}
use Rattle.graph.specs.declared.value.Value.TheVariants.{Const, Number, Any, Address}
use Rattle.graph.specs.declared.parts.Held.{Held}
use Rattle.graph.specs.declared.parts.KeyedObject.{KeyedObject}
use Rattle.graph.specs.declared.parts.KeyedValue.{KeyedValue}
use Rattle.graph.specs.declared.parts.Pair.{Pair}
use Rattle.graph.specs.declared.parts.Parts.{Parts}
use Rattle.graph.specs.Closed.{OnEnds}
use Rattle.graph.specs.Maps.{object_at, value_at, held_by}
use Rattle.graph.specs.Nodes.{links_in, node_of, link_edges}
use Rattle.graph.specs.Sizes.{is_sized, is_zero, is_number, is_scalar_size}
use Rattle.graph.specs.State.{State}
use Rattle.graph.specs.WellFormed.{IsWellFormed, passes_at, has_class_a_byte, lies_in, edge_has_size, is_outward, is_null, back_fits, is_unequal_pair}
use Rattle.graph.specs.Meaning.{HasBlocks, Ends, ends_in, ends_of, HasWord, own_offset, IsRooted, maps_of, Assignment, Meets}
use Rattle.graph.proofs.Closed.{passes-at}
use Rattle.graph.proofs.Found.{found-all}
use Rattle.graph.proofs.Tests.{and_left, and_right, list_all-implies}
use Rattle.changes.specs.Merging.{MayMerge, merged_key, names_key, merged_entry, merged_held, merged_object, merged_pair, merged_shape, merged}
use Rattle.changes.proofs.Change.{HasWord-ends}
use Rattle.changes.proofs.MergedNode.{merged_here, merged_kept, merged_other, IsMergeFit, blocks_on, blocks_back}
use Rattle.changes.proofs.PairSides.{Stands, SameSides, pair_from, pair_to}
use Rattle.changes.proofs.Region.{small_edge}

-- two different constants
pub record AreTwoConstants (parts : Parts) (pair : Pair) : Type 0 where
  pub one : ℕ
  pub other : ℕ
  pub one_size : ℕ
  pub other_size : ℕ
  pub left : value_at parts.values pair.left ≡ Some (Const one one_size)
  pub right : value_at parts.values pair.right ≡ Some (Const other other_size)
  pub differ : one ≢ other

-- a pair that goes is one of two constants, and these differ
abbrev pub PairsStayApart : Parts → ℕ → ℕ → Type 0
PairsStayApart parts kept gone = (place : ℕ) (pair : Pair) → slice_get parts.unequal place ≡ Some pair → names_key gone pair ≡ true → is_unequal_pair parts (merged_pair kept gone pair) ≡ false →
    AreTwoConstants parts (merged_pair kept gone pair)

-- the words where the one has the other's
abbrev pub with_merged : ℕ → ℕ → Assignment → Assignment
with_merged kept gone given = record given { word = λ key. given.word (merged_key kept gone key) }

-- What stands at keys.

pub objects_merged : (clears : Bool) (kept gone : ℕ) (objects : List KeyedObject) (at : ℕ) → object_at (map (merged_entry clears kept gone) objects) at ≡ option_map (merged_object clears kept gone) (object_at objects at)
objects_merged clears kept gone [] at = refl
objects_merged clears kept gone (first ∷ rest) at = by_key (nat_eq first.key at) (objects_merged clears kept gone rest at)
  where
    by_key : (b : Bool) → object_at (map (merged_entry clears kept gone) rest) at ≡ option_map (merged_object clears kept gone) (object_at rest at) →
        (if b then Some (merged_object clears kept gone first.object) else object_at (map (merged_entry clears kept gone) rest) at) ≡ option_map (merged_object clears kept gone) (if b then Some first.object else object_at rest at)
    by_key true later = refl
    by_key false later = later

pub registers_merged : (kept gone : ℕ) (registers : List Held) (register : ℕ) → held_by (map (merged_held kept gone) registers) register ≡ option_map (merged_key kept gone) (held_by registers register)
registers_merged kept gone [] register = refl
registers_merged kept gone (first ∷ rest) register = by_key (nat_eq first.register register) (registers_merged kept gone rest register)
  where
    by_key : (b : Bool) → held_by (map (merged_held kept gone) rest) register ≡ option_map (merged_key kept gone) (held_by rest register) →
        (if b then Some (merged_key kept gone first.value) else held_by (map (merged_held kept gone) rest) register) ≡ option_map (merged_key kept gone) (if b then Some first.value else held_by rest register)
    by_key true later = refl
    by_key false later = later

some_mapped : {A B : Type 0} (f : A → B) (found : Option A) → IsSome found → IsSome (option_map f found)
some_mapped f None some = some
some_mapped f (Some item) some = refl

mapped_some : {A B : Type 0} (f : A → B) (found : Option A) → IsSome (option_map f found) → IsSome found
mapped_some f None some = some
mapped_some f (Some item) some = refl

-- Words.

-- the word of a number of a size
number_word : (count size : ℕ) (blocks : ℕ → List ℕ) (ends : ℕ → Ends) (value : Value) (word : Word) → is_number value size ≡ true → is_sized value ≡ true → HasWord count blocks ends value word → HasWord count blocks ends (Number size) word
number_word count size blocks ends (Const number own) word is sized has =
    (number, has, subst (λ (n : ℕ). number < 256 ^ n) (eqb-true _ _ is) (ltb-true _ _ (and_right (is_scalar_size own) (nat_lt number (256 ^ own)) sized)))
number_word count size blocks ends (Number own) word is sized has = (has.0, has.1, subst (λ (n : ℕ). has.0 < 256 ^ n) (eqb-true _ _ is) has.2)
number_word count size blocks ends Any word is sized has = absurd (false≢true is)
number_word count size blocks ends (Address object offset target) word is sized has = absurd (false≢true is)

number_rooted : (roots : List ℕ) (size : ℕ) (value : Value) (word : Word) → is_number value size ≡ true → IsRooted roots (Some value) word
number_rooted roots size (Const number own) word is = tt
number_rooted roots size (Number own) word is = tt
number_rooted roots size Any word is = absurd (false≢true is)
number_rooted roots size (Address object offset target) word is = absurd (false≢true is)

number_own : (size : ℕ) (value : Value) → is_number value size ≡ true → own_offset (Some value) ≡ None
number_own size (Const number own) is = refl
number_own size (Number own) is = refl
number_own size Any is = absurd (false≢true is)
number_own size (Address object offset target) is = absurd (false≢true is)

zero_word : (count : ℕ) (blocks : ℕ → List ℕ) (ends : ℕ → Ends) (value : Value) (word : Word) → is_zero value ≡ true → HasWord count blocks ends value word → word ≡ Plain 0
zero_word count blocks ends (Const number size) word is has = has ∙ ap Plain (eqb-true _ _ is)
zero_word count blocks ends (Number size) word is has = absurd (false≢true is)
zero_word count blocks ends Any word is has = absurd (false≢true is)
zero_word count blocks ends (Address object offset target) word is has = absurd (false≢true is)

module _ (parts : Parts) (form : IsWellFormed parts) (kept gone : ℕ) (may : MayMerge parts kept gone) where
  abbrev clears : Bool
  clears = passes_at parts is_zero kept

  abbrev behind : Parts
  behind = merged kept gone parts

  at_kept : (test : Value → Bool) → passes_at parts test kept ≡ test may.value
  at_kept test = ap (λ (o : Option Value). option_map_or test o false) may.kept_is

  -- a value that passes a test which such a number does not is another one
  other_key : (test : Value → Bool) (key : ℕ) → test (Number may.size) ≡ false → passes_at parts test key ≡ true → nat_eq key gone ≡ false
  other_key test key fails passes = by_key (nat_eq key gone) refl
    where
      by_key : (b : Bool) → nat_eq key gone ≡ b → nat_eq key gone ≡ false
      by_key true same = absurd (false≢true (sym fails ∙ sym (ap (λ (k : ℕ). passes_at parts test k) (eqb-true _ _ same) ∙ ap (λ (o : Option Value). option_map_or test o false) may.gone_is) ∙ passes))
      by_key false differ = differ

  -- what is asked of an object
  fit : (key : ℕ) (object : Object) → object_at parts.objects key ≡ Some object → IsMergeFit object
  fit key object stands = record {
    inside = each_of (λ object. list_all (lies_in object.size) (node_of object).edges) form.edges_lie_inside;
    small = list_all-implies (edge_has_size parts) (λ edge. nat_le edge.size 8) (small_edge parts form) (node_of object).edges (each_of (λ object. list_all (edge_has_size parts) (node_of object).edges) form.edges_have_their_sizes);
    long = λ live. eqb-true _ _ (ap (λ (b : Bool). not b || nat_eq (length (node_of object).plane) object.size) (sym live) ∙ each_of has_class_a_byte form.planes_are_as_long);
  }
    where
      each_of : (test : Object → Bool) → list_all (λ (entry : KeyedObject). test entry.object) parts.objects ≡ true → test object ≡ true
      each_of test all = found-all (λ (entry : KeyedObject). entry.key) (λ entry. entry.object) test parts.objects key object all stands

  -- links are other values
  links_other : (key : ℕ) (object : Object) → object_at parts.objects key ≡ Some object → OnEnds (λ link. nat_eq link gone ≡ false) object.shape
  links_other key object stands =
      by_shape object.shape (each_of (λ object. list_all (λ link. passes_at parts is_outward link.value) (link_edges object.shape)) form.links_lead_on) (each_of (λ object. back_fits parts object.size (links_in object.shape)) form.links_back_fit)
    where
      each_of : (test : Object → Bool) → list_all (λ (entry : KeyedObject). test entry.object) parts.objects ≡ true → test object ≡ true
      each_of test all = found-all (λ (entry : KeyedObject). entry.key) (λ entry. entry.object) test parts.objects key object all stands

      by_shape : (shape : Shape) → list_all (λ link. passes_at parts is_outward link.value) (link_edges shape) ≡ true → back_fits parts object.size (links_in shape) ≡ true → OnEnds (λ link. nat_eq link gone ≡ false) shape
      by_shape Region outward fits = tt
      by_shape (Segment true head next prev back least next_value prev_value node) outward fits = (
        other_key is_outward next_value refl (and_left (passes_at parts is_outward next_value) (passes_at parts is_outward prev_value && true) outward),
        other_key is_outward prev_value refl (and_left (passes_at parts is_outward prev_value) true (and_right (passes_at parts is_outward next_value) (passes_at parts is_outward prev_value && true) outward)),
      )
      by_shape (Segment false head next prev back least next_value prev_value node) outward fits = (
        other_key is_outward next_value refl (and_left (passes_at parts is_outward next_value) true outward),
        other_key is_null prev_value refl (and_right (nat_eq back 0) (passes_at parts is_null prev_value) (and_right (nat_eq prev 0) (nat_eq back 0 && passes_at parts is_null prev_value) fits)),
      )

  abbrev own : ℕ → Option ℤ
  own key = own_offset (value_at parts.values key)

  own_none : own kept ≡ None
  own_none = ap own_offset may.kept_is ∙ number_own may.size may.value may.kept_number

  own_same : (key : ℕ) → own (merged_key kept gone key) ≡ own key
  own_same key = by_key (nat_eq key gone) refl
    where
      by_key : (b : Bool) → nat_eq key gone ≡ b → own (if b then kept else key) ≡ own key
      by_key true same = own_none ∙ sym (ap own (eqb-true _ _ same) ∙ ap own_offset may.gone_is)
      by_key false differ = refl

  kept_sized : is_sized may.value ≡ true
  kept_sized = found-all (λ (entry : KeyedValue). entry.key) (λ entry. entry.value) is_sized parts.values kept may.value form.values_are_sized may.kept_is

  module _ (word word' : ℕ → Word) (eq : (key : ℕ) → word' key ≡ word (merged_key kept gone key)) where
    link_word : (link : ℕ) → nat_eq link gone ≡ false → word' link ≡ word link
    link_word link differ = eq link ∙ ap word (merged_other kept gone link differ)

    ends_stay : (key : ℕ) (object : Object) → object_at parts.objects key ≡ Some object → OnEnds (λ link. word' link ≡ word link) object.shape
    ends_stay key object stands = by_shape object.shape (links_other key object stands)
      where
        by_shape : (shape : Shape) → OnEnds (λ link. nat_eq link gone ≡ false) shape → OnEnds (λ link. word' link ≡ word link) shape
        by_shape Region differ = tt
        by_shape (Segment twofold head next prev back least next_value prev_value node) differ = (link_word next_value differ.0, link_word prev_value differ.1)

    ends_same : (at : ℕ) → ends_of (object_at behind.objects) word at ≡ ends_of (object_at parts.objects) word' at
    ends_same at = ap (λ (o : Option Object). ends_of (λ k. o) word at) (objects_merged clears kept gone parts.objects at) ∙ by_found (object_at parts.objects at) refl
      where
        by_shape : (shape : Shape) → OnEnds (λ link. word' link ≡ word link) shape → ends_in (merged_shape clears kept gone shape) word ≡ ends_in shape word'
        by_shape Region on = refl
        by_shape (Segment twofold head next prev back least next_value prev_value node) on = sym (ap (λ (w : Word). ends_with head back w (word' prev_value)) on.0 ∙ ap (ends_with head back (word next_value)) on.1)
          where
            ends_with : ℕ → ℕ → Word → Word → Ends
            ends_with head back after before = record { head = head; back = back; after = after; before = before }

        by_found : (found : Option Object) → object_at parts.objects at ≡ found → ends_of (λ k. option_map (merged_object clears kept gone) found) word at ≡ ends_of (λ k. found) word' at
        by_found None none = refl
        by_found (Some object) stands = by_shape object.shape (ends_stay at object stands)

    held_same : (found : Option ℕ) → option_map word' found ≡ option_map word (option_map (merged_key kept gone) found)
    held_same None = refl
    held_same (Some key) = ap Some (eq key)

    ports_same : (ports : List ℕ) → map word' ports ≡ map word (map (merged_key kept gone) ports)
    ports_same [] = refl
    ports_same (port ∷ rest) = ap (λ (w : Word). w ∷ map word' rest) (eq port) ∙ ap (λ (ws : List Word). word (merged_key kept gone port) ∷ ws) (ports_same rest)

    null_word : (count : ℕ) (blocks : ℕ → List ℕ) (ends : ℕ → Ends) → HasWord count blocks ends may.value (word kept) → clears ≡ true → word kept ≡ Plain 0
    null_word count blocks ends has is = zero_word count blocks ends may.value (word kept) (sym (at_kept is_zero) ∙ is) has

  -- there
  pub merged_meets : (state : State) (given : Assignment) → given.word kept ≡ given.word gone → Meets (maps_of parts) state given → Meets (maps_of behind) state given
  merged_meets state given same meets = record {
    values = λ at value stands. HasWord-ends (length state.memory) given.blocks (ends_of (object_at parts.objects) given.word) (ends_of (object_at behind.objects) given.word) value (given.word at) (ends_same given.word given.word eq) (meets.values at value stands);
    objects = λ at object stands. object_on at object (object_at parts.objects at) refl (sym (objects_merged clears kept gone parts.objects at) ∙ stands);
    owners = λ at place number some stands. meets.owners at place number (was_some at some) stands;
    places = λ at place number some stands. meets.places at place number (was_some at some) stands;
    used = λ number block stands live.
        let owned = meets.used number block stands live in
        record { object = subst (λ (o : Option Object). IsSome o) (sym (objects_merged clears kept gone parts.objects (given.owner number))) (some_mapped (merged_object clears kept gone) (object_at parts.objects (given.owner number)) owned.object); block = owned.block };
    variables = meets.variables;
    registers = λ register.
        meets.registers register ∙ held_same given.word given.word eq (held_by parts.registers register) ∙ ap (option_map given.word) (sym (registers_merged kept gone parts.registers register));
    ports = meets.ports ∙ ports_same given.word given.word eq parts.ports;
    rooted = λ place port stands. rooted place port (slice_get parts.ports place) refl (sym (slice_get-map (merged_key kept gone) parts.ports place) ∙ stands);
    unequal = λ place pair stands equal.
        let from = pair_from parts kept gone parts.unequal pair (place, stands) in
        meets.unequal from.1.0 from.0 from.1.1 (eq from.0.left ∙ ap (λ (p : Pair). given.word p.left) (sym from.2) ∙ equal ∙ ap (λ (p : Pair). given.word p.right) from.2 ∙ sym (eq from.0.right));
  }
    where
      eq : (key : ℕ) → given.word key ≡ given.word (merged_key kept gone key)
      eq key = by_key (nat_eq key gone) refl
        where
          by_key : (b : Bool) → nat_eq key gone ≡ b → given.word key ≡ given.word (if b then kept else key)
          by_key true is = ap given.word (eqb-true _ _ is) ∙ sym same
          by_key false differ = refl

      was_some : (at : ℕ) → IsSome (object_at behind.objects at) → IsSome (object_at parts.objects at)
      was_some at some = mapped_some (merged_object clears kept gone) (object_at parts.objects at) (subst (λ (o : Option Object). IsSome o) (objects_merged clears kept gone parts.objects at) some)

      object_on : (at : ℕ) (object : Object) (found : Option Object) → object_at parts.objects at ≡ found → option_map (merged_object clears kept gone) found ≡ Some object → HasBlocks state.memory object given.word own (given.blocks at)
      object_on at object None none is = absurd (none-some object is)
      object_on at object (Some old) stands is =
          subst (λ (o : Object). HasBlocks state.memory o given.word own (given.blocks at)) (same_Some _ _ is)
          (blocks_on clears kept gone given.word given.word eq (null_word given.word given.word eq (length state.memory) given.blocks (ends_of (object_at parts.objects) given.word) (meets.values kept may.value may.kept_is)) own own_same own_none
          state.memory old (given.blocks at) (ends_stay given.word given.word eq at old stands) (fit at old stands) (meets.objects at old stands))

      rooted : (place port : ℕ) (found : Option ℕ) → slice_get parts.ports place ≡ found → option_map (merged_key kept gone) found ≡ Some port → IsRooted state.roots (value_at parts.values port) (given.word port)
      rooted place port None none is = absurd (none-some port is)
      rooted place port (Some old) stands is = subst (λ (k : ℕ). IsRooted state.roots (value_at parts.values k) (given.word k)) (same_Some _ _ is) (by_key (nat_eq old gone))
        where
          by_key : (b : Bool) → IsRooted state.roots (value_at parts.values (if b then kept else old)) (given.word (if b then kept else old))
          by_key true = subst (λ (o : Option Value). IsRooted state.roots o (given.word kept)) (sym may.kept_is) (number_rooted state.roots may.size may.value (given.word kept) may.kept_number)
          by_key false = meets.rooted place old stands

  -- and back, with the other's word for the one
  module _ (apart : PairsStayApart parts kept gone) (state : State) (given : Assignment) (meets : Meets (maps_of behind) state given) where
    abbrev word' : ℕ → Word
    word' key = given.word (merged_key kept gone key)

    eq : (key : ℕ) → word' key ≡ given.word (merged_key kept gone key)
    eq key = refl

    pub both_words : word' kept ≡ word' gone
    both_words = ap given.word (merged_kept kept gone) ∙ sym (ap given.word (merged_here kept gone))

    kept_has : HasWord (length state.memory) given.blocks (ends_of (object_at parts.objects) word') may.value (given.word kept)
    kept_has = HasWord-ends (length state.memory) given.blocks (ends_of (object_at behind.objects) given.word) (ends_of (object_at parts.objects) word') may.value (given.word kept) (λ at. sym (ends_same given.word word' eq at)) (meets.values kept may.value may.kept_is)

    pub unmerged_meets : Meets (maps_of parts) state (with_merged kept gone given)
    unmerged_meets = record {
      values = λ at value stands. value_back at value stands (nat_eq at gone) refl;
      objects = λ at object stands.
          blocks_back clears kept gone given.word word' eq (null_word given.word word' eq (length state.memory) given.blocks (ends_of (object_at parts.objects) word') kept_has) own own_same own_none
          state.memory object (given.blocks at) (ends_stay given.word word' eq at object stands) (fit at object stands)
          (meets.objects at (merged_object clears kept gone object) (objects_merged clears kept gone parts.objects at ∙ ap (option_map (merged_object clears kept gone)) stands));
      owners = λ at place number some stands. meets.owners at place number (now_some at some) stands;
      places = λ at place number some stands. meets.places at place number (now_some at some) stands;
      used = λ number block stands live.
          let owned = meets.used number block stands live in
          record { object = mapped_some (merged_object clears kept gone) (object_at parts.objects (given.owner number)) (subst (λ (o : Option Object). IsSome o) (objects_merged clears kept gone parts.objects (given.owner number)) owned.object); block = owned.block };
      variables = meets.variables;
      registers = λ register. meets.registers register ∙ ap (option_map given.word) (registers_merged kept gone parts.registers register) ∙ sym (held_same given.word word' eq (held_by parts.registers register));
      ports = meets.ports ∙ sym (ports_same given.word word' eq parts.ports);
      rooted = λ place port stands. rooted place port stands (nat_eq port gone) refl;
      unequal = λ place pair stands equal. differ place pair stands (by_test place pair stands) equal;
    }
      where
        now_some : (at : ℕ) → IsSome (object_at parts.objects at) → IsSome (object_at behind.objects at)
        now_some at some = subst (λ (o : Option Object). IsSome o) (sym (objects_merged clears kept gone parts.objects at)) (some_mapped (merged_object clears kept gone) (object_at parts.objects at) some)

        value_back : (at : ℕ) (value : Value) → value_at parts.values at ≡ Some value → (b : Bool) → nat_eq at gone ≡ b → HasWord (length state.memory) given.blocks (ends_of (object_at parts.objects) word') value (given.word (if b then kept else at))
        value_back at value stands true same =
            subst (λ (v : Value). HasWord (length state.memory) given.blocks (ends_of (object_at parts.objects) word') v (given.word kept)) (same_Some _ _ (sym may.gone_is ∙ ap (value_at parts.values) (sym (eqb-true _ _ same)) ∙ stands))
            (number_word (length state.memory) may.size given.blocks (ends_of (object_at parts.objects) word') may.value (given.word kept) may.kept_number kept_sized kept_has)
        value_back at value stands false differ =
            HasWord-ends (length state.memory) given.blocks (ends_of (object_at behind.objects) given.word) (ends_of (object_at parts.objects) word') value (given.word at) (λ k. sym (ends_same given.word word' eq k)) (meets.values at value stands)

        rooted : (place port : ℕ) → slice_get parts.ports place ≡ Some port → (b : Bool) → nat_eq port gone ≡ b → IsRooted state.roots (value_at parts.values port) (given.word (if b then kept else port))
        rooted place port stands true same = subst (λ (o : Option Value). IsRooted state.roots o (given.word kept)) (sym (ap (value_at parts.values) (eqb-true _ _ same) ∙ may.gone_is)) tt
        rooted place port stands false other =
            subst (λ (k : ℕ). IsRooted state.roots (value_at parts.values k) (given.word k)) (merged_other kept gone port other)
            (meets.rooted place (merged_key kept gone port) (slice_get-map (merged_key kept gone) parts.ports place ∙ ap (option_map (merged_key kept gone)) stands))

        -- a pair is among those behind, or is one of two constants that differ
        by_test : (place : ℕ) (pair : Pair) → slice_get parts.unequal place ≡ Some pair → ((other : Pair) × Stands behind.unequal other × SameSides (merged_pair kept gone pair) other) ⊎ AreTwoConstants parts (merged_pair kept gone pair)
        by_test place pair stands = by_name (names_key gone pair) refl (is_unequal_pair parts (merged_pair kept gone pair)) refl
          where
            to : (names_key gone pair ≡ true → is_unequal_pair parts (merged_pair kept gone pair) ≡ true) → (other : Pair) × Stands behind.unequal other × SameSides (merged_pair kept gone pair) other
            to may = pair_to parts kept gone parts.unequal pair (place, stands) (passes-at (is_unequal_pair parts) parts.unequal place pair stands form.pairs_may_be_unequal) may

            by_name : (b : Bool) → names_key gone pair ≡ b → (c : Bool) → is_unequal_pair parts (merged_pair kept gone pair) ≡ c → ((other : Pair) × Stands behind.unequal other × SameSides (merged_pair kept gone pair) other) ⊎ AreTwoConstants parts (merged_pair kept gone pair)
            by_name false unnamed c is = inl (to (λ named. absurd (false≢true (sym unnamed ∙ named))))
            by_name true named true is = inl (to (λ named. is))
            by_name true named false is = inr (apart place pair stands named is)

        differ : (place : ℕ) (pair : Pair) → slice_get parts.unequal place ≡ Some pair → ((other : Pair) × Stands behind.unequal other × SameSides (merged_pair kept gone pair) other) ⊎ AreTwoConstants parts (merged_pair kept gone pair) →
            word' pair.left ≢ word' pair.right
        differ place pair stands (inl (other, (at, there), inl sides)) equal =
            meets.unequal at other there (ap given.word (sym sides.0) ∙ equal ∙ ap given.word sides.1)
        differ place pair stands (inl (other, (at, there), inr sides)) equal =
            meets.unequal at other there (ap given.word (sym sides.1) ∙ sym equal ∙ ap given.word sides.0)
        differ place pair stands (inr two) equal =
            two.differ (plain_is (sym (meets.values (merged_key kept gone pair.left) (Const two.one two.one_size) two.left) ∙ equal ∙ meets.values (merged_key kept gone pair.right) (Const two.other two.other_size) two.right))
          where
            number_of : Word → ℕ
            number_of (Plain number) = number
            number_of (To block offset) = 0

            plain_is : Plain two.one ≡ Plain two.other → two.one ≡ two.other
            plain_is same = ap number_of same
