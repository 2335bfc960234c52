-- What nothing holds may go.
use Rattle.std.proofs.Common.{◌≡◌, ◌≢◌, ℕ, zero, suc, ◌^◌, ◌<◌, ◌≤◌, max, Bool, true, false, ◌&&◌, ◌||◌, not, List, [], ◌∷◌, length, nat_eq, Option, None, Some, refl, sym, ◌∙◌, ap, subst, eqb-true, arith, cond, ◌⊎◌, inl, inr}
use Rattle.std.specs.Prelude.{IsSome, IsTrue, slice_get, ◌↔◌}
use Rattle.std.specs.List.{filter}
use Rattle.std.specs.Option.{option_map_or}
use Rattle.std.proofs.lemmas.Bool.{false≢true}
use Rattle.bytes_core.specs.Release.{is_heap}
use Rattle.std.proofs.lemmas.Option.{same_Some, none-some}
use Rattle.bytes_core.specs.declared.word.Word.{Word}
use Rattle.bytes_core.specs.declared.word.Word.TheVariants.{Plain, To}
use Rattle.graph.specs.declared.object.Object.{Object}
use Rattle.graph.specs.declared.object.Shape.{Shape}
use Rattle.graph.specs.declared.object.Shape.TheVariants.{Region as RegionShape, Segment}
use Rattle.graph.specs.declared.value.Value.{Value}
use Rattle.graph.specs.declared.value.Value.TheVariants.{Const, Number, Any, Address}
use Rattle.graph.specs.declared.parts.KeyedObject.{KeyedObject}
use Rattle.graph.specs.declared.parts.KeyedValue.{KeyedValue}
use Rattle.graph.specs.declared.parts.Named.{Named}
use Rattle.graph.specs.declared.parts.Pair.{Pair}
use Rattle.graph.specs.declared.parts.Parts.{Parts}
use Rattle.graph.specs.Closed.{IsClosed}
use Rattle.graph.specs.Maps.{found_at, object_at, value_at}
use Rattle.graph.specs.Nodes.{is_region, own_node}
use Rattle.graph.specs.Numbers.{AreNumbers, AreSomeNumbers, AreAmong}
use Rattle.graph.specs.Sizes.{is_constant}
use Rattle.graph.specs.State.{State}
use Rattle.graph.specs.Meaning.{ends_of, HasWord, Assignment, Meets, maps_of, StandsFor}
use Rattle.graph.specs.Unheld.{with_only, MayGo, AreKept, SayTheSame, WhatNothingHoldsMayGo}
use Rattle.graph.specs.WellFormed.{IsWellFormed, is_storage, says_nothing, is_within_limits}
use Rattle.graph.proofs.Closed.{closed_of}
use Rattle.graph.proofs.Completed.{IsWideNumber, IsPair, pair_at, constant_in, numbers_are_completed}
use Rattle.graph.proofs.Extended.{IsPartOf, narrowed, extended, word_kept, word_chosen, blocks_kept, Meets-extended}
use Rattle.graph.proofs.Found.{IsSome-holds, found-here, found-later, found-all}
use Rattle.graph.proofs.Frames.{OnNamed-both}
use Rattle.graph.proofs.Tests.{and_left, and_right, and_both}

-- Numbers above all blocks of the objects of a graph.

abbrev over : List ℕ → ℕ → ℕ
over [] bound = bound
over (number ∷ rest) bound = max (suc number) (over rest bound)

abbrev above : (ℕ → List ℕ) → List KeyedObject → ℕ → ℕ
above blocks [] bound = bound
above blocks (entry ∷ rest) bound = over (blocks entry.key) (above blocks rest bound)

over-bound : (numbers : List ℕ) (bound : ℕ) → bound ≤ over numbers bound
over-bound [] bound = omega arith
over-bound (number ∷ rest) bound = let e = over-bound rest bound in omega arith

over-number : (numbers : List ℕ) (bound place number : ℕ) → slice_get numbers place ≡ Some number → number < over numbers bound
over-number [] bound place number is = absurd (none-some number is)
over-number (first ∷ rest) bound zero number is = let e = same_Some first number is in omega arith
over-number (first ∷ rest) bound (suc place) number is = let e = over-number rest bound place number is in omega arith

above-bound : (blocks : ℕ → List ℕ) (entries : List KeyedObject) (bound : ℕ) → bound ≤ above blocks entries bound
above-bound blocks [] bound = omega arith
above-bound blocks (entry ∷ rest) bound =
    let e = above-bound blocks rest bound in
    let f = over-bound (blocks entry.key) (above blocks rest bound) in
    omega arith

above-number : (blocks : ℕ → List ℕ) (entries : List KeyedObject) (bound key place number : ℕ) → IsSome (object_at entries key) → slice_get (blocks key) place ≡ Some number → number < above blocks entries bound
above-number blocks [] bound key place number some is = absurd (false≢true some)
above-number blocks (entry ∷ rest) bound key place number some is = by_cases (nat_eq entry.key key) refl (λ later. above-number blocks rest bound key place number later is)
  where
    by_cases : (hit : Bool) → nat_eq entry.key key ≡ hit → (IsSome (object_at rest key) → number < above blocks rest bound) → number < over (blocks entry.key) (above blocks rest bound)
    by_cases true same later = over-number (blocks entry.key) (above blocks rest bound) place number (ap (λ (k : ℕ). slice_get (blocks k) place) (eqb-true _ _ same) ∙ is)
    by_cases false other later =
        let e = later (subst (λ (o : Option Object). IsSome o) (found-later (λ (entry : KeyedObject). entry.key) (λ entry. entry.object) entry rest key other) some) in
        let f = over-bound (blocks entry.key) (above blocks rest bound) in
        omega arith

-- Lists of which some entries stay.

module _ {Entry Item : Type 0} (key : Entry → ℕ) (item : Entry → Item) (stays : ℕ → Bool) where
  pub found_staying : (entries : List Entry) (at : ℕ) → stays at ≡ true → found_at key item (filter (λ entry. stays (key entry)) entries) at ≡ found_at key item entries at
  found_staying [] at stay = refl
  found_staying (first ∷ rest) at stay = by_cases (stays (key first)) refl (nat_eq (key first) at) refl (found_staying rest at stay)
    where
      by_cases : (b : Bool) → stays (key first) ≡ b → (c : Bool) → nat_eq (key first) at ≡ c → found_at key item (filter (λ entry. stays (key entry)) rest) at ≡ found_at key item rest at →
          found_at key item (cond b (first ∷ filter (λ entry. stays (key entry)) rest) (filter (λ entry. stays (key entry)) rest)) at ≡ found_at key item (first ∷ rest) at
      by_cases true here true hit later = found-here key item first (filter (λ entry. stays (key entry)) rest) at hit ∙ sym (found-here key item first rest at hit)
      by_cases true here false miss later = found-later key item first (filter (λ entry. stays (key entry)) rest) at miss ∙ later ∙ sym (found-later key item first rest at miss)
      by_cases false gone true hit later = absurd (false≢true (sym gone ∙ ap stays (eqb-true _ _ hit) ∙ stay))
      by_cases false gone false miss later = later ∙ sym (found-later key item first rest at miss)

  found_gone : (entries : List Entry) (at : ℕ) → stays at ≡ false → found_at key item (filter (λ entry. stays (key entry)) entries) at ≡ None
  found_gone [] at goes = refl
  found_gone (first ∷ rest) at goes = by_cases (stays (key first)) refl (nat_eq (key first) at) refl (found_gone rest at goes)
    where
      by_cases : (b : Bool) → stays (key first) ≡ b → (c : Bool) → nat_eq (key first) at ≡ c → found_at key item (filter (λ entry. stays (key entry)) rest) at ≡ None →
          found_at key item (cond b (first ∷ filter (λ entry. stays (key entry)) rest) (filter (λ entry. stays (key entry)) rest)) at ≡ None
      by_cases true here true hit later = absurd (false≢true (sym goes ∙ sym (ap stays (eqb-true _ _ hit)) ∙ here))
      by_cases true here false miss later = found-later key item first (filter (λ entry. stays (key entry)) rest) at miss ∙ later
      by_cases false gone c hit later = later

  stays_there : (entries : List Entry) (at : ℕ) → IsSome (found_at key item (filter (λ entry. stays (key entry)) entries) at) → stays at ≡ true
  stays_there entries at some = by_cases (stays at) refl
    where
      by_cases : (b : Bool) → stays at ≡ b → stays at ≡ true
      by_cases true is = is
      by_cases false is = absurd (false≢true (subst (λ (o : Option Item). IsSome o) (found_gone entries at is) some))

  pub was_there : (entries : List Entry) (at : ℕ) (found : Item) → found_at key item (filter (λ entry. stays (key entry)) entries) at ≡ Some found → found_at key item entries at ≡ Some found
  was_there entries at found is = sym (found_staying entries at (stays_there entries at (IsSome-holds _ _ is))) ∙ is

-- a place of an item in a list of which some stay
filter_place : {X : Type 0} (test : X → Bool) (xs : List X) (place : ℕ) (x : X) → slice_get (filter test xs) place ≡ Some x → (test x ≡ true) × ((at : ℕ) × (slice_get xs at ≡ Some x))
filter_place test [] place x is = absurd (none-some x is)
filter_place {X} test (first ∷ rest) place x is = by_test (test first) refl place is (λ later found. filter_place test rest later x found)
  where
    by_test : (b : Bool) → test first ≡ b → (place : ℕ) → slice_get (cond b (first ∷ filter test rest) (filter test rest)) place ≡ Some x →
        ((later : ℕ) → slice_get (filter test rest) later ≡ Some x → (test x ≡ true) × ((at : ℕ) × (slice_get rest at ≡ Some x))) → (test x ≡ true) × ((at : ℕ) × (slice_get (first ∷ rest) at ≡ Some x))
    by_test true passes zero is among = (ap test (sym (same_Some _ _ is)) ∙ passes, (0, is))
    by_test true passes (suc place) is among = let later = among place is in (later.0, (suc later.1.0, later.1.1))
    by_test false fails place is among = let later = among place is in (later.0, (suc later.1.0, later.1.1))

place_filter : {X : Type 0} (test : X → Bool) (xs : List X) (at : ℕ) (x : X) → slice_get xs at ≡ Some x → test x ≡ true → (place : ℕ) × (slice_get (filter test xs) place ≡ Some x)
place_filter test [] at x is passes = absurd (none-some x is)
place_filter test (first ∷ rest) zero x is passes =
    (0, subst (λ (b : Bool). slice_get (cond b (first ∷ filter test rest) (filter test rest)) 0 ≡ Some x) (sym (ap test (same_Some _ _ is) ∙ passes)) is)
place_filter test (first ∷ rest) (suc at) x is passes = by_test (test first) (place_filter test rest at x is passes)
  where
    by_test : (b : Bool) → (place : ℕ) × (slice_get (filter test rest) place ≡ Some x) → (place : ℕ) × (slice_get (cond b (first ∷ filter test rest) (filter test rest)) place ≡ Some x)
    by_test true later = (suc later.0, later.1)
    by_test false later = later

abbrev number_in : Word → ℕ
number_in (Plain number) = number
number_in (To block offset) = 0

abbrev known_or : Bool → Word → Option Value → Option ℕ
known_or true word value = Some (number_in word)
known_or false word value = constant_in value

neither : {A : Type 0} → (false ≡ true) ⊎ (false ≡ true) → A
neither (inl h) = absurd (false≢true h)
neither (inr h) = absurd (false≢true h)

module _ (values objects : ℕ → Bool) (parts : Parts) (well_formed : IsWellFormed parts) (limits : is_within_limits parts ≡ true) (may : MayGo values objects parts) where
  abbrev kept : Parts
  kept = with_only values objects parts

  value_was : (key : ℕ) (value : Value) → value_at kept.values key ≡ Some value → value_at parts.values key ≡ Some value
  value_was key value is = was_there (λ (entry : KeyedValue). entry.key) (λ entry. entry.value) values parts.values key value is

  object_was : (key : ℕ) (object : Object) → object_at kept.objects key ≡ Some object → object_at parts.objects key ≡ Some object
  object_was key object is = was_there (λ (entry : KeyedObject). entry.key) (λ entry. entry.object) objects parts.objects key object is

  value_stays : (key : ℕ) → values key ≡ true → value_at kept.values key ≡ value_at parts.values key
  value_stays key stay = found_staying (λ (entry : KeyedValue). entry.key) (λ entry. entry.value) values parts.values key stay

  object_stays : (key : ℕ) → objects key ≡ true → object_at kept.objects key ≡ object_at parts.objects key
  object_stays key stay = found_staying (λ (entry : KeyedObject). entry.key) (λ entry. entry.object) objects parts.objects key stay

  there_and_stays : (key : ℕ) → IsSome (value_at parts.values key) → values key ≡ true → IsSome (value_at kept.values key)
  there_and_stays key some stay = subst (λ (o : Option Value). IsSome o) (sym (value_stays key stay)) some

  wide_closed : IsClosed (maps_of parts)
  wide_closed = closed_of parts well_formed

  object_in : (key : ℕ) → IsSome (object_at parts.objects key) → objects key ≡ true → IsSome (object_at kept.objects key)
  object_in key some stay = subst (λ (o : Option Object). IsSome o) (sym (object_stays key stay)) some

  live_stays : (key : ℕ) → (found : Option Object) → object_at parts.objects key ≡ found → option_map_or is_storage found false ≡ true → IsSome (object_at kept.objects key)
  live_stays key None is storage = absurd (false≢true storage)
  live_stays key (Some object) is storage = object_in key (IsSome-holds _ _ is) (may.live key object is (and_left object.live (not (is_heap object.kind)) storage))

  closed : IsClosed (maps_of kept)
  closed = record {
    objects = λ key object is.
        let was = object_was key object is in
        OnNamed-both (λ value. IsSome (value_at parts.values value)) (λ value. IsTrue (values value)) (λ value. IsSome (value_at kept.values value)) there_and_stays object.shape (own_node object)
        (wide_closed.objects key object was) (may.named key object was);
    addresses = λ key object offset target is.
        let was = value_was key (Address object offset target) is in
        object_in object (wide_closed.addresses key object offset target was)
        (may.addresses key object offset target was (stays_there (λ (entry : KeyedValue). entry.key) (λ entry. entry.value) values parts.values key (IsSome-holds _ _ is)));
    variables = λ variable key is.
        live_stays key (object_at parts.objects key) refl
        (found-all (λ (named : Named). named.variable) (λ named. named.object) (λ key. option_map_or is_storage (object_at parts.objects key) false) parts.variables variable key well_formed.variables_have_storage is);
    registers = λ register key is. there_and_stays key (wide_closed.registers register key is) (may.registers register key is);
    ports = λ place key is. there_and_stays key (wide_closed.ports place key is) (may.ports place key is);
    unequal = λ place pair is.
        let was = filter_place (λ (pair : Pair). values pair.left && values pair.right) parts.unequal place pair is in
        let both = wide_closed.unequal was.1.0 pair was.1.1 in
        (there_and_stays pair.left both.0 (and_left (values pair.left) (values pair.right) was.0), there_and_stays pair.right both.1 (and_right (values pair.left) (values pair.right) was.0));
  }

  -- what is left out is dead, and so a region
  dead_region : (key : ℕ) (object : Object) → object_at parts.objects key ≡ Some object → object_at kept.objects key ≡ None → (object.live ≡ false) × (object.shape ≡ RegionShape)
  dead_region key object is gone = by_life object.live refl
    where
      by_region : (shape : Shape) → is_region shape ≡ true → shape ≡ RegionShape
      by_region RegionShape region = refl
      by_region (Segment twofold head next prev back least next_value prev_value node) region = absurd (false≢true region)

      bare : (object.live || (is_region object.shape && says_nothing object.edges object.plane)) ≡ true
      bare = found-all (λ (entry : KeyedObject). entry.key) (λ entry. entry.object) (λ (one : Object). one.live || (is_region one.shape && says_nothing one.edges one.plane)) parts.objects key object well_formed.dead_objects_are_bare is

      by_life : (live : Bool) → object.live ≡ live → (object.live ≡ false) × (object.shape ≡ RegionShape)
      by_life true live = absurd (none-some object (sym gone ∙ object_stays key (may.live key object is live) ∙ is))
      by_life false dead =
          (dead, by_region object.shape (and_left (is_region object.shape) (says_nothing object.edges object.plane) (subst (λ (b : Bool). (b || (is_region object.shape && says_nothing object.edges object.plane)) ≡ true) dead bare)))

  part : IsPartOf (maps_of kept) (maps_of parts)
  part = record {
    closed = closed;
    objects = object_was;
    values = value_was;
    dead = dead_region;
    variables = λ variable. refl;
    registers = λ register. refl;
    ports = refl;
  }

  onward : (state : State) (given : Assignment) → Meets (maps_of parts) state given → Meets (maps_of kept) state given
  onward state given meets =
      narrowed (maps_of kept) (maps_of parts) part (λ place pair is. (filter_place (λ (pair : Pair). values pair.left && values pair.right) parts.unequal place pair is).1) state given meets

  module _ (state : State) (given : Assignment) (meets : Meets (maps_of kept) state given) where
    -- the numbers that are known: those of constants, and those of values that stay
    abbrev known : ℕ → Option ℕ
    known key = known_or (values key) (given.word key) (value_at parts.values key)

    known_stays : (key : ℕ) → values key ≡ true → known key ≡ Some (number_in (given.word key))
    known_stays key stay = ap (λ (b : Bool). known_or b (given.word key) (value_at parts.values key)) stay

    has_word : (key : ℕ) (value : Value) → values key ≡ true → value_at parts.values key ≡ Some value → HasWord (length state.memory) given.blocks (ends_of (object_at kept.objects) given.word) value (given.word key)
    has_word key value stay is = meets.values key value (value_stays key stay ∙ is)

    known_constant : (key constant size : ℕ) → value_at parts.values key ≡ Some (Const constant size) → known key ≡ Some constant
    known_constant key constant size is = by_stays (values key) refl
      where
        by_stays : (b : Bool) → values key ≡ b → known key ≡ Some constant
        by_stays true stay = known_stays key stay ∙ ap (λ (w : Word). Some (number_in w)) (has_word key (Const constant size) stay is)
        by_stays false goes = ap (λ (b : Bool). known_or b (given.word key) (value_at parts.values key)) goes ∙ ap constant_in is

    known_fits : (key size number : ℕ) → value_at parts.values key ≡ Some (Number size) → known key ≡ Some number → number < 256 ^ size
    known_fits key size number is found = by_stays (values key) refl
      where
        by_stays : (b : Bool) → values key ≡ b → number < 256 ^ size
        by_stays true stay =
            let has = has_word key (Number size) stay is in
            subst (λ (n : ℕ). n < 256 ^ size) (sym (ap number_in has.1) ∙ same_Some _ _ (sym (known_stays key stay) ∙ found)) has.2
        by_stays false goes = absurd (none-some number (sym (ap (λ (b : Bool). known_or b (given.word key) (value_at parts.values key)) goes ∙ ap constant_in is) ∙ found))

    -- a value that goes and is known is a constant
    goes_constant : (key number : ℕ) (value : Value) → values key ≡ false → value_at parts.values key ≡ Some value → known key ≡ Some number → (is_constant value ≡ true) × ((size : ℕ) × (value ≡ Const number size))
    goes_constant key number value goes is found = by_value value is
      where
        none : (value : Value) → value_at parts.values key ≡ Some value → constant_in (Some value) ≡ Some number
        none value is = sym (ap (λ (b : Bool). known_or b (given.word key) (value_at parts.values key)) goes ∙ ap constant_in is) ∙ found

        by_value : (value : Value) → value_at parts.values key ≡ Some value → (is_constant value ≡ true) × ((size : ℕ) × (value ≡ Const number size))
        by_value (Const constant size) is = (refl, (size, ap (λ (n : ℕ). Const n size) (same_Some _ _ (none (Const constant size) is))))
        by_value (Number size) is = absurd (none-some number (none (Number size) is))
        by_value Any is = absurd (none-some number (none Any is))
        by_value (Address object offset target) is = absurd (none-some number (none (Address object offset target) is))

    -- the word of a wide number that stays is plain
    plain_word : (key : ℕ) (value : Value) → values key ≡ true → value_at parts.values key ≡ Some value → IsWideNumber value → given.word key ≡ Plain (number_in (given.word key))
    plain_word key value stay is wide = by_value value is wide
      where
        again : (word : Word) (number : ℕ) → word ≡ Plain number → word ≡ Plain (number_in word)
        again word number same = same ∙ ap Plain (sym (ap number_in same))

        by_value : (value : Value) → value_at parts.values key ≡ Some value → IsWideNumber value → given.word key ≡ Plain (number_in (given.word key))
        by_value (Const constant size) is wide = again (given.word key) constant (has_word key (Const constant size) stay is)
        by_value (Number size) is wide = let has = has_word key (Number size) stay is in again (given.word key) has.0 has.1
        by_value Any is wide = neither wide
        by_value (Address object offset target) is wide = neither wide

    known_differ : (place : ℕ) (pair : Pair) (one other : ℕ) → slice_get parts.unequal place ≡ Some pair → known pair.left ≡ Some one → known pair.right ≡ Some other → one ≢ other
    known_differ place pair one other stands left right equal = by_stays (values pair.left) refl (values pair.right) refl
      where
        is : IsPair parts.values pair
        is = pair_at parts well_formed place pair stands

        by_stays : (b : Bool) → values pair.left ≡ b → (c : Bool) → values pair.right ≡ c → ⊥
        by_stays true left_stays true right_stays =
            let there = place_filter (λ (pair : Pair). values pair.left && values pair.right) parts.unequal place pair stands (and_both (values pair.left) (values pair.right) left_stays right_stays) in
            let left_is : number_in (given.word pair.left) ≡ one = same_Some _ _ (sym (known_stays pair.left left_stays) ∙ left) in
            let right_is : number_in (given.word pair.right) ≡ other = same_Some _ _ (sym (known_stays pair.right right_stays) ∙ right) in
            meets.unequal there.0 pair there.1
            (plain_word pair.left is.one left_stays is.one_is is.numbers.0 ∙ ap Plain (left_is ∙ equal ∙ sym right_is) ∙ sym (plain_word pair.right is.next right_stays is.next_is is.numbers.1))
        by_stays false left_goes true right_stays =
            let constant = goes_constant pair.left one is.one left_goes is.one_is left in
            false≢true (sym left_goes ∙ may.left_constants place pair one constant.1.0 stands (is.one_is ∙ ap Some constant.1.1) right_stays)
        by_stays true left_stays false right_goes =
            let constant = goes_constant pair.right other is.next right_goes is.next_is right in
            false≢true (sym right_goes ∙ may.right_constants place pair other constant.1.0 stands (is.next_is ∙ ap Some constant.1.1) left_stays)
        by_stays false left_goes false right_goes =
            is.not_both (goes_constant pair.left one is.one left_goes is.one_is left).0 (goes_constant pair.right other is.next right_goes is.next_is right).0

    some_numbers : AreSomeNumbers parts known
    some_numbers = record { constants = known_constant; fits = known_fits; unequal = known_differ }

    abbrev numbers : (number : ℕ → ℕ) × AreNumbers parts number × AreAmong known number
    numbers = numbers_are_completed parts known well_formed limits some_numbers

    abbrev number : ℕ → ℕ
    number = numbers.0

    abbrev bound : ℕ
    bound = above given.blocks kept.objects (length state.memory)

    abbrev other : Assignment
    other = extended (maps_of kept) (maps_of parts) part state given number bound

    -- the word of a number of a pair is the number that was chosen
    word_is : (key : ℕ) (value : Value) → value_at parts.values key ≡ Some value → IsWideNumber value → other.word key ≡ Plain (number key)
    word_is key value is wide = by_stays (values key) refl
      where
        by_value : (value : Value) → value_at parts.values key ≡ Some value → IsWideNumber value → value_at kept.values key ≡ None → other.word key ≡ Plain (number key)
        by_value (Const constant size) is wide none =
            word_chosen (maps_of kept) (maps_of parts) part state given number bound key (Const constant size) none is ∙ ap Plain (sym (numbers.1.constants key constant size is))
        by_value (Number size) is wide none = word_chosen (maps_of kept) (maps_of parts) part state given number bound key (Number size) none is
        by_value Any is wide none = neither wide
        by_value (Address object offset target) is wide none = neither wide

        by_stays : (b : Bool) → values key ≡ b → other.word key ≡ Plain (number key)
        by_stays true stay =
            word_kept (maps_of kept) (maps_of parts) part state given number bound key (there_and_stays key (IsSome-holds _ _ is) stay)
            ∙ plain_word key value stay is wide
            ∙ ap Plain (sym (numbers.2 key (number_in (given.word key)) (known_stays key stay)))
        by_stays false goes = by_value value is wide (found_gone (λ (entry : KeyedValue). entry.key) (λ entry. entry.value) values parts.values key goes)

    words_differ : (place : ℕ) (pair : Pair) → slice_get parts.unequal place ≡ Some pair → other.word pair.left ≢ other.word pair.right
    words_differ place pair stands equal =
        let is = pair_at parts well_formed place pair stands in
        numbers.1.unequal place pair stands
        (ap number_in (sym (word_is pair.left is.one is.one_is is.numbers.0) ∙ equal ∙ word_is pair.right is.next is.next_is is.numbers.1))

    backward : Meets (maps_of parts) state other
    backward = Meets-extended (maps_of kept) (maps_of parts) part state given number bound meets
        (above-bound given.blocks kept.objects (length state.memory))
        (λ key place block some stands. above-number given.blocks kept.objects (length state.memory) key place block some stands)
        (λ key size is none. numbers.1.fits key size is)
        words_differ

    handed_back : AreKept kept given other
    handed_back = record {
      words = λ key some. word_kept (maps_of kept) (maps_of parts) part state given number bound key some;
      blocks = λ key some. blocks_kept (maps_of kept) (maps_of parts) part state given number bound key some;
    }

  pub says_the_same : (state : State) → SayTheSame parts kept state
  says_the_same state = record {
    onward = λ given meets. (given, onward state given meets, record { words = λ key some. refl; blocks = λ key some. refl });
    backward = λ given meets. (other state given meets, backward state given meets, handed_back state given meets);
  }

pub what_nothing_holds_may_go : WhatNothingHoldsMayGo
what_nothing_holds_may_go values objects parts state well_formed limits may = says_the_same values objects parts well_formed limits may state

-- so both stand for the same states
pub StandsFor-with_only : (values objects : ℕ → Bool) (parts : Parts) (state : State) → IsWellFormed parts → IsTrue (is_within_limits parts) → MayGo values objects parts →
    (StandsFor (with_only values objects parts) state ↔ StandsFor parts state)
StandsFor-with_only values objects parts state well_formed limits may =
    let same = what_nothing_holds_may_go values objects parts state well_formed limits may in
    (λ stands. (let found = same.backward stands.given stands.meets in record { given = found.0; meets = found.1 }), λ stands. (let found = same.onward stands.given stands.meets in record { given = found.0; meets = found.1 }))
