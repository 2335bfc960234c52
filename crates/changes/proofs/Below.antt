-- Where each block of each object is there, words of values are words of the memory, and bytes of them are bytes of it.
use Rattle.std.proofs.Common.{◌≡◌, ℕ, zero, suc, ◌+◌, ◌-◌, ◌/◌, ◌^◌, ◌<◌, Bool, true, false, ◌&&◌, ◌||◌, List, [], ◌∷◌, map, length, get_or, nat_lt, Option, None, Some, refl, sym, ◌∙◌, ap, subst, ltb-true, arith}
use Rattle.std.specs.Prelude.{ℤ, pos, negsuc, ◌+ℤ◌, ◌-ℤ◌, IsSome, slice_get, if◌then◌else◌}
use Rattle.std.specs.Int.{w64, to_le_bytes, bytes_low_first, byte_at as number_byte}
use Rattle.std.specs.List.{All, list_all}
use Rattle.std.specs.Option.{option_map_or}
use Rattle.std.proofs.Math.Nat.{mod-lt}
use Rattle.std.proofs.lemmas.Bool.{false≢true}
use Rattle.std.proofs.lemmas.List.Elements.{All-nil, All-cons, All-head, All-tail, All-map}
use Rattle.std.proofs.lemmas.Option.{none-some}
use Rattle.bytes_core.specs.declared.byte.Byte.{Byte}
use Rattle.bytes_core.specs.declared.byte.Byte.TheVariants.{Num, Part}
use Rattle.bytes_core.specs.declared.word.Word.{Word}
use Rattle.bytes_core.specs.declared.word.Word.TheVariants.{Plain, To}
use Rattle.bytes_core.specs.Value.{word_bytes, wrapped, moved}
use Rattle.bytes_core.specs.Valid.{NamesBelow}
use Rattle.bytes_core.proofs.Kept.{names_of_word}
use Rattle.graph.specs.declared.edges.HasValue.{HasValue}
use Rattle.graph.specs.declared.object.Links.{Links}
use Rattle.graph.specs.declared.object.Object.{Object}
use Rattle.graph.specs.declared.object.Shape.{Shape}
use Rattle.graph.specs.declared.object.Shape.TheVariants.{Region as RegionShape, Segment}
use Rattle.graph.specs.declared.value.Target.{Target}
use Rattle.graph.specs.declared.value.Target.TheVariants.{Region, First, Last, Each}
use Rattle.graph.specs.declared.value.Value.{Value}
use Rattle.graph.specs.declared.value.Value.TheVariants.{Const, Number, Any, Address}
use Rattle.graph.specs.declared.parts.KeyedObject.{KeyedObject}
use Rattle.graph.specs.declared.parts.KeyedValue.{KeyedValue}
use Rattle.graph.specs.declared.parts.Parts.{Parts}
use Rattle.graph.specs.Closed.{OnEnds}
use Rattle.graph.specs.Maps.{object_at, value_at}
use Rattle.graph.specs.Nodes.{is_region as region_shape, links_in}
use Rattle.graph.specs.Sizes.{is_scalar_size, is_sized}
use Rattle.graph.specs.State.{State, IsWordBelow, IsByte}
use Rattle.graph.specs.WellFormed.{IsWellFormed, Ranks, Falls, has_value, target_fits, leads_to_object, says_nothing}
use Rattle.graph.specs.Meaning.{HasShape, HasBlocksAs, ends_in, ends_of, end_word, block_word, first_of, last_of, last_or, own_offset, maps_of, Assignment, Meets}
use Rattle.graph.proofs.Closed.{named_there}
use Rattle.graph.proofs.Found.{Holds-some, found-all, IsSome-holds}
use Rattle.graph.proofs.Scalars.{power_scalar}
use Rattle.graph.proofs.Sent.{passes-some}
use Rattle.graph.proofs.Table.{covers, edge_byte, byte_at, table}
use Rattle.graph.proofs.Tests.{and_left, and_right}
use Rattle.changes.proofs.NodeBack.{blank, bytes_of}

-- each block of each object is there, those of dead objects too
abbrev pub AreThere : Parts → State → Assignment → Type 0
AreThere parts state given = (key place number : ℕ) → IsSome (object_at parts.objects key) → slice_get (given.blocks key) place ≡ Some number → number < length state.memory

pub wrapped_small : (number : ℤ) → wrapped number < 2 ^ 64
wrapped_small (pos number) = mod-lt number (omega arith)
wrapped_small (negsuc before) = omega arith

moved_below : (count : ℕ) (word : Word) (bytes : ℤ) → IsWordBelow count word → IsWordBelow count (moved word bytes)
moved_below count (Plain number) bytes below = record { small = wrapped_small (pos number +ℤ bytes); named = tt }
moved_below count (To block offset) bytes below = record { small = tt; named = below.named }

block_below : (count : ℕ) (found : Option ℕ) (offset : ℤ) → ((number : ℕ) → found ≡ Some number → number < count) → IsWordBelow count (block_word found offset)
block_below count None offset within = record { small = omega arith; named = tt }
block_below count (Some number) offset within = record { small = tt; named = within number refl }

end_below : (count : ℕ) (found : Option ℕ) (beyond : Word) (place : ℕ) (offset : ℤ) → ((number : ℕ) → found ≡ Some number → number < count) → (found ≡ None → IsWordBelow count beyond) → IsWordBelow count (end_word found beyond place offset)
end_below count None beyond place offset within below = moved_below count beyond (offset -ℤ pos place) (below refl)
end_below count (Some number) beyond place offset within below = record { small = tt; named = within number refl }

-- ends of a row of blocks
first_place : (blocks : List ℕ) (number : ℕ) → first_of blocks ≡ Some number → slice_get blocks 0 ≡ Some number
first_place [] number is = absurd (none-some number is)
first_place (first ∷ rest) number is = is

last_place : (blocks : List ℕ) (number : ℕ) → last_of blocks ≡ Some number → (place : ℕ) × (slice_get blocks place ≡ Some number)
last_place [] number is = absurd (none-some number is)
last_place (first ∷ rest) number is = go first rest is
  where
    go : (first : ℕ) (rest : List ℕ) → Some (last_or first rest) ≡ Some number → (place : ℕ) × (slice_get (first ∷ rest) place ≡ Some number)
    go first [] is = (0, is)
    go first (next ∷ rest) is = let later = go next rest is in (suc later.0, later.1)

first_none : (blocks : List ℕ) → first_of blocks ≡ None → length blocks ≡ 0
first_none [] is = refl
first_none (first ∷ rest) is = absurd (none-some first (sym is))

last_none : (blocks : List ℕ) → last_of blocks ≡ None → length blocks ≡ 0
last_none [] is = refl
last_none (first ∷ rest) is = absurd (none-some (last_or first rest) (sym is))

module _ (parts : Parts) (state : State) (given : Assignment) (form : IsWellFormed parts) (meets : Meets (maps_of parts) state given) (there : AreThere parts state given) where
  abbrev ranks : Ranks
  ranks = form.comes_to_an_end.ranks

  abbrev rank_to : Target → ℕ → ℕ
  rank_to Region object = 0
  rank_to First object = suc (ranks.first object)
  rank_to Last object = suc (ranks.last object)
  rank_to Each object = 0

  abbrev rank : Option Value → ℕ
  rank None = 0
  rank (Some (Const number size)) = 0
  rank (Some (Number size)) = 0
  rank (Some Any) = 0
  rank (Some (Address object offset target)) = rank_to target object

  falls_below : (bound : ℕ) (found : Option Value) → Falls ranks bound found → rank found < suc bound
  falls_below bound None falls = omega arith
  falls_below bound (Some (Const number size)) falls = omega arith
  falls_below bound (Some (Number size)) falls = omega arith
  falls_below bound (Some Any) falls = omega arith
  falls_below bound (Some (Address object offset Region)) falls = omega arith
  falls_below bound (Some (Address object offset First)) falls = let f : ranks.first object < bound = falls in omega arith
  falls_below bound (Some (Address object offset Last)) falls = let f : ranks.last object < bound = falls in omega arith
  falls_below bound (Some (Address object offset Each)) falls = omega arith

  fits : (key : ℕ) (value : Value) → value_at parts.values key ≡ Some value → is_sized value ≡ true
  fits key value stands = found-all (λ (entry : KeyedValue). entry.key) (λ entry. entry.value) is_sized parts.values key value form.values_are_sized stands

  -- the object of an address
  object_of : (key : ℕ) (object : ℕ) (offset : ℤ) (target : Target) → value_at parts.values key ≡ Some (Address object offset target) →
      (found : Object) × (object_at parts.objects object ≡ Some found) × (target_fits target found.shape ≡ true)
  object_of key object offset target stands =
      let leads = found-all (λ (entry : KeyedValue). entry.key) (λ entry. entry.value) (leads_to_object parts) parts.values key (Address object offset target) form.addresses_lead_to_objects stands in
      let held = Holds-some (object_at parts.objects object) (passes-some (λ found. target_fits target found.shape) (object_at parts.objects object) leads) in
      (held.item, held.is, subst (λ (o : Option Object). option_map_or (λ found. target_fits target found.shape) o false ≡ true) held.is leads)

  -- a segment without blocks may have none
  empty_least : (key : ℕ) (object : Object) → object_at parts.objects key ≡ Some object → (twofold : Bool) (head next prev back least next_value prev_value : ℕ) (node : _) →
      object.shape ≡ Segment twofold head next prev back least next_value prev_value node → length (given.blocks key) ≡ 0 → least ≡ 0
  empty_least key object stands twofold head next prev back least next_value prev_value node is none = by_life object.live refl (meets.objects key object stands)
    where
      region_no : region_shape object.shape ≡ true → ⊥
      region_no region = false≢true (ap region_shape (sym is) ∙ region)

      by_life : (b : Bool) → object.live ≡ b → HasBlocksAs b state.memory object given.word (λ value. own_offset (value_at parts.values value)) (given.blocks key) → least ≡ 0
      by_life true live has =
          let some = subst (λ (shape : Shape). HasShape shape state.memory object given.word (λ value. own_offset (value_at parts.values value)) (given.blocks key)) is has in
          let most = some.0 in omega arith
      by_life false dead has =
          let bare = found-all (λ (entry : KeyedObject). entry.key) (λ entry. entry.object) (λ (object : Object). object.live || (region_shape object.shape && says_nothing object.edges object.plane)) parts.objects key object form.dead_objects_are_bare stands in
          absurd (region_no (and_left (region_shape object.shape) (says_nothing object.edges object.plane) (ap (λ (b : Bool). b || (region_shape object.shape && says_nothing object.edges object.plane)) (sym dead) ∙ bare)))

  abbrev Below : ℕ → Type 0
  Below n = (key : ℕ) → rank (value_at parts.values key) < n → IsSome (value_at parts.values key) → IsWordBelow (length state.memory) (given.word key)

  -- what lies beyond an end without a node
  beyond_first : (n : ℕ) → Below n → (key : ℕ) (object : Object) → object_at parts.objects key ≡ Some object → (shape : Shape) → object.shape ≡ shape → target_fits First shape ≡ true → ranks.first key < n → length (given.blocks key) ≡ 0 →
      IsWordBelow (length state.memory) (ends_in shape given.word).after
  beyond_first n words key object stands RegionShape is fit below none = absurd (false≢true fit)
  beyond_first n words key object stands (Segment twofold head next prev back least next_value prev_value node) is fit below none =
      let least_is = empty_least key object stands twofold head next prev back least next_value prev_value node is none in
      let links : Links = record { twofold = twofold; head = head; next = next; prev = prev; back = back; least = least; next_value = next_value; prev_value = prev_value } in
      let falls = form.comes_to_an_end.next key object links stands (ap links_in is) least_is in
      let some = (subst (λ (shape : Shape). OnEnds (λ v. IsSome (value_at parts.values v)) shape) is (named_there parts form key object stands).1).0 in
      words next_value (let f = falls_below (ranks.first key) (value_at parts.values next_value) falls in omega arith) some

  beyond_last : (n : ℕ) → Below n → (key : ℕ) (object : Object) → object_at parts.objects key ≡ Some object → (shape : Shape) → object.shape ≡ shape → target_fits Last shape ≡ true → ranks.last key < n → length (given.blocks key) ≡ 0 →
      IsWordBelow (length state.memory) (ends_in shape given.word).before
  beyond_last n words key object stands RegionShape is fit below none = absurd (false≢true fit)
  beyond_last n words key object stands (Segment twofold head next prev back least next_value prev_value node) is fit below none =
      let least_is = empty_least key object stands twofold head next prev back least next_value prev_value node is none in
      let links : Links = record { twofold = twofold; head = head; next = next; prev = prev; back = back; least = least; next_value = next_value; prev_value = prev_value } in
      let falls = form.comes_to_an_end.prev key object links stands (ap links_in is) least_is in
      let some = (subst (λ (shape : Shape). OnEnds (λ v. IsSome (value_at parts.values v)) shape) is (named_there parts form key object stands).1).1 in
      words prev_value (let f = falls_below (ranks.last key) (value_at parts.values prev_value) falls in omega arith) some

  word_by : (n key : ℕ) (found : Option Value) → value_at parts.values key ≡ found → rank found < n → IsSome found → IsWordBelow (length state.memory) (given.word key)
  word_by zero key found stands below some = absurd (omega arith)
  word_by (suc n) key None stands below some = absurd (false≢true some)
  word_by (suc n) key (Some (Const number size)) stands below some =
      let sized = fits key (Const number size) stands in
      let fit = ltb-true _ _ (and_right (is_scalar_size size) (nat_lt number (256 ^ size)) sized) in
      let most = (power_scalar size (and_left (is_scalar_size size) (nat_lt number (256 ^ size)) sized)).1 in
      subst (λ (w : Word). IsWordBelow (length state.memory) w) (sym (meets.values key (Const number size) stands)) (record { small = omega arith; named = tt })
  word_by (suc n) key (Some (Number size)) stands below some =
      let has = meets.values key (Number size) stands in
      let number = has.0 in
      let fit : number < 256 ^ size = has.2 in
      let most = (power_scalar size (fits key (Number size) stands)).1 in
      subst (λ (w : Word). IsWordBelow (length state.memory) w) (sym has.1) (record { small = omega arith; named = tt })
  word_by (suc n) key (Some Any) stands below some = meets.values key Any stands
  word_by (suc n) key (Some (Address object offset Region)) stands below some =
      subst (λ (w : Word). IsWordBelow (length state.memory) w) (sym (meets.values key (Address object offset Region) stands))
      (block_below (length state.memory) (first_of (given.blocks object)) offset (λ number is. there object 0 number (IsSome-holds _ _ (object_of key object offset Region stands).1) (first_place (given.blocks object) number is)))
  word_by (suc n) key (Some (Address object offset First)) stands below some =
      let found = object_of key object offset First stands in
      subst (λ (w : Word). IsWordBelow (length state.memory) w) (sym (meets.values key (Address object offset First) stands))
      (end_below (length state.memory) (first_of (given.blocks object)) (ends_of (object_at parts.objects) given.word object).after (ends_of (object_at parts.objects) given.word object).head offset
      (λ number is. there object 0 number (IsSome-holds _ _ found.1) (first_place (given.blocks object) number is))
      (λ none. subst (λ (o : Option Object). IsWordBelow (length state.memory) (ends_of (λ at. o) given.word object).after) (sym found.1)
      (beyond_first n (λ at below some. word_by n at (value_at parts.values at) refl below some) object found.0 found.1 found.0.shape refl found.2 (omega arith) (first_none (given.blocks object) none))))
  word_by (suc n) key (Some (Address object offset Last)) stands below some =
      let found = object_of key object offset Last stands in
      subst (λ (w : Word). IsWordBelow (length state.memory) w) (sym (meets.values key (Address object offset Last) stands))
      (end_below (length state.memory) (last_of (given.blocks object)) (ends_of (object_at parts.objects) given.word object).before (ends_of (object_at parts.objects) given.word object).back offset
      (λ number is. let last = last_place (given.blocks object) number is in there object last.0 number (IsSome-holds _ _ found.1) last.1)
      (λ none. subst (λ (o : Option Object). IsWordBelow (length state.memory) (ends_of (λ at. o) given.word object).before) (sym found.1)
      (beyond_last n (λ at below some. word_by n at (value_at parts.values at) refl below some) object found.0 found.1 found.0.shape refl found.2 (omega arith) (last_none (given.blocks object) none))))
  word_by (suc n) key (Some (Address object offset Each)) stands below some =
      subst (λ (w : Word). IsWordBelow (length state.memory) w) (sym (meets.values key (Address object offset Each) stands)) (record { small = omega arith; named = tt })

  pub word_below : (key : ℕ) → IsSome (value_at parts.values key) → IsWordBelow (length state.memory) (given.word key)
  word_below key some = word_by (suc (rank (value_at parts.values key))) key (value_at parts.values key) refl (omega arith) some

  table_all : (P : Byte → Type 0) (at : ℕ → Byte) (from count : ℕ) → ((i : ℕ) → P (at i)) → All P (table at from count)
  table_all P at from zero each = All-nil P
  table_all P at from (suc count) each = All-cons P (at from) (table at (from + 1) count) (each from) (table_all P at (from + 1) count each)

  get_all : (P : Byte → Type 0) (bytes : List Byte) (i : ℕ) (d : Byte) → P d → All P bytes → P (get_or bytes i d)
  get_all P [] i d default all = default
  get_all P (byte ∷ rest) zero d default all = All-head P byte rest all
  get_all P (byte ∷ rest) (suc i) d default all = get_all P rest i d default (All-tail P byte rest all)

  -- what holds of the bytes of each word there is, and of the number 0, holds of each byte of a block made so
  place_all : (P : Byte → Type 0) → P (Num 0) → ((word : Word) → IsWordBelow (length state.memory) word → All P (word_bytes word)) → (edges : List HasValue) → list_all (λ edge. has_value parts edge.value) edges ≡ true →
      (place : ℕ) → P (byte_at given.word blank edges place)
  place_all P none bytes_do [] hold place = none
  place_all P none bytes_do (edge ∷ rest) hold place = by_cases (covers edge place) (place_all P none bytes_do rest (and_right (has_value parts edge.value) (list_all (λ edge. has_value parts edge.value) rest) hold) place)
    where
      by_cases : (b : Bool) → P (byte_at given.word blank rest place) → P (if b then edge_byte given.word edge place else byte_at given.word blank rest place)
      by_cases true later =
          get_all P (word_bytes (given.word edge.value)) (place - edge.at) (Num 0) none
          (bytes_do (given.word edge.value) (word_below edge.value (and_left (has_value parts edge.value) (list_all (λ edge. has_value parts edge.value) rest) hold)))
      by_cases false later = later

  pub bytes_all : (P : Byte → Type 0) → P (Num 0) → ((word : Word) → IsWordBelow (length state.memory) word → All P (word_bytes word)) → (object : Object) → list_all (λ edge. has_value parts edge.value) object.edges ≡ true →
      All P (bytes_of given.word object)
  bytes_all P none bytes_do object hold = table_all P (byte_at given.word blank object.edges) 0 object.size (place_all P none bytes_do object.edges hold)

pub word_names : (count : ℕ) (word : Word) → IsWordBelow count word → All (NamesBelow count) (word_bytes word)
word_names count (Plain number) below = names_of_word count 8 (Plain number) below.named
word_names count (To block offset) below = names_of_word count 8 (To block offset) below.named

digit_small : (place number : ℕ) → number_byte place number < 256
digit_small zero number = mod-lt number (omega arith)
digit_small (suc place) number = mod-lt (number / 256 ^ suc place) (omega arith)

digits_small : (place count number : ℕ) → All (λ byte. byte < 256) (bytes_low_first place count number)
digits_small place zero number = All-nil (λ byte. byte < 256)
digits_small place (suc count) number = All-cons (λ byte. byte < 256) (number_byte place number) (bytes_low_first (suc place) count number) (digit_small place number) (digits_small (suc place) count number)

pub word_small : (count : ℕ) (word : Word) → IsWordBelow count word → All IsByte (word_bytes word)
word_small count (Plain number) below = All-map IsByte Num (to_le_bytes w64 number) (digits_small 0 8 number)
word_small count (To block offset) below = parts (0 ∷ 1 ∷ 2 ∷ 3 ∷ 4 ∷ 5 ∷ 6 ∷ 7 ∷ [])
  where
    parts : (places : List ℕ) → All IsByte (map (Part block offset) places)
    parts [] = All-nil IsByte
    parts (first ∷ rest) = All-cons IsByte (Part block offset first) (map (Part block offset) rest) tt (parts rest)
