-- What a graph knows of two values holds of their words in each state that it stands for.
use Rattle.std.proofs.Common.{◌≡◌, ◌≢◌, ℕ, suc, ◌+◌, ◌^◌, ◌<◌, Bool, true, false, ◌&&◌, ◌||◌, not, List, [], ◌∷◌, length, nat_eq, ℤ, pos, negsuc, Option, Some, refl, sym, ◌∙◌, ap, eqb-true, eq-eqb, ltb-true, ◌⊎◌, inl, inr, arith}
use Rattle.std.specs.Prelude.{IsSome, slice_get, if◌then◌else◌}
use Rattle.std.specs.List.{list_any}
use Rattle.std.specs.Option.{option_map_or}
use Rattle.std.specs.Ordering.{int_eq}
use Rattle.std.proofs.lemmas.Bool.{false≢true}
use Rattle.std.proofs.lemmas.Bool.Decides.{Decides-int_eq}
use Rattle.std.proofs.lemmas.Option.{same_Some}
use Rattle.bytes_core.specs.declared.block.Block.{Block}
use Rattle.bytes_core.specs.declared.word.Word.{Word}
use Rattle.bytes_core.specs.declared.word.Word.TheVariants.{Plain, To}
use Rattle.bytes_core.specs.Valid.{IsMemory}
use Rattle.bytes_core.specs.Value.{address_number, is_same_address, is_inside}
use Rattle.graph.specs.declared.object.Object.{Object}
use Rattle.graph.specs.declared.parts.Pair.{Pair}
use Rattle.graph.specs.declared.parts.Parts.{Parts}
use Rattle.graph.specs.declared.value.Target.{Target}
use Rattle.graph.specs.declared.value.Target.TheVariants.{Region}
use Rattle.graph.specs.declared.value.Value.{Value}
use Rattle.graph.specs.declared.value.Value.TheVariants.{Const, Number, Any, Address}
use Rattle.graph.specs.Maps.{object_at, value_at}
use Rattle.graph.specs.Meaning.{maps_of, Assignment, Meets}
use Rattle.graph.specs.State.{State}
use Rattle.graph.specs.WellFormed.{IsWellFormed, differs_from}
use Rattle.graph.proofs.Found.{IsSome-holds}
use Rattle.graph.proofs.Tests.{and_left, and_right, and_both}
use Rattle.changes.specs.Reaching.{is_excluded, names_no_segment}
use Rattle.changes.proofs.Meeting.{region_target, IsRegionAt, region_at, HasBlock, has_block, word_of, any_excluded}
use Rattle.changes.proofs.Objects.{eqb-miss}
use Rattle.reinterpret.specs.Comparing.{is_noted, is_inside_live, unsure, null_compared, values_compared}
use Rattle.reinterpret.specs.declared.comparison.Comparison.{Comparison}
use Rattle.reinterpret.specs.declared.comparison.Comparison.TheVariants as known
use Rattle.reinterpret.proofs.Apart.{placed_at, number_inside, inside_apart}

-- a pair of two keys has them on one side each
pub noted_sides : (one other : ℕ) (pair : Pair) → not (differs_from (record { left = one; right = other }) pair) ≡ true → ((one ≡ pair.left) × (other ≡ pair.right)) ⊎ ((one ≡ pair.right) × (other ≡ pair.left))
noted_sides one other pair is = by_tests (nat_eq one pair.left) refl (nat_eq other pair.right) refl (nat_eq one pair.right) refl (nat_eq other pair.left) refl is
  where
    by_tests : (a : Bool) → nat_eq one pair.left ≡ a → (b : Bool) → nat_eq other pair.right ≡ b → (c : Bool) → nat_eq one pair.right ≡ c → (d : Bool) → nat_eq other pair.left ≡ d →
        not (not (a && b) && not (c && d)) ≡ true → ((one ≡ pair.left) × (other ≡ pair.right)) ⊎ ((one ≡ pair.right) × (other ≡ pair.left))
    by_tests true a true b c c_is d d_is any = inl (eqb-true _ _ a, eqb-true _ _ b)
    by_tests true a false b_is true c true d any = inr (eqb-true _ _ c, eqb-true _ _ d)
    by_tests true a false b_is true c false d_is any = absurd (false≢true any)
    by_tests true a false b_is false c_is d d_is any = absurd (false≢true any)
    by_tests false a_is b b_is true c true d any = inr (eqb-true _ _ c, eqb-true _ _ d)
    by_tests false a_is b b_is true c false d_is any = absurd (false≢true any)
    by_tests false a_is b b_is false c_is d d_is any = absurd (false≢true any)

module _ (parts : Parts) (state : State) (given : Assignment) (form : IsWellFormed parts) (memory : IsMemory state.memory) (meets : Meets (maps_of parts) state given) (left right : ℕ) where
  abbrev pub test : Bool
  test = is_same_address state.memory (given.word left) (given.word right)

  pub record IsEither (kept other : ℕ) : Type 0 where
    pub same : test ≡ true → given.word kept ≡ given.word other
    pub back : given.word kept ≡ given.word other → test ≡ true

  abbrev pub Tells : Comparison → Type 0
  Tells known.Same = test ≡ true
  Tells known.Different = test ≡ false
  Tells (known.Either kept other) = IsEither kept other
  Tells known.Itself = test ≡ true
  Tells known.Unknown = Unit {0}

  equal_numbers : address_number state.memory (given.word left) ≡ address_number state.memory (given.word right) → test ≡ true
  equal_numbers same = eq-eqb _ _ same

  plain : (a b : ℕ) → given.word left ≡ Plain a → given.word right ≡ Plain b → test ≡ nat_eq a b
  plain a b l r = ap (λ (w : Word). is_same_address state.memory w (given.word right)) l ∙ ap (is_same_address state.memory (Plain a)) r

  plain_apart : (a b : ℕ) → given.word left ≡ Plain a → given.word right ≡ Plain b → a ≢ b → test ≡ false
  plain_apart a b l r differ = plain a b l r ∙ eqb-miss a b differ

  either : (a b : ℕ) → given.word left ≡ Plain a → given.word right ≡ Plain b → IsEither left right
  either a b l r = record {
    same = λ is. l ∙ ap Plain (eqb-true a b (sym (plain a b l r) ∙ is)) ∙ sym r;
    back = λ same. equal_numbers (ap (address_number state.memory) same);
  }

  either_back : (a b : ℕ) → given.word left ≡ Plain a → given.word right ≡ Plain b → IsEither right left
  either_back a b l r = let there = either a b l r in record { same = λ is. sym (there.same is); back = λ same. there.back (sym same) }

  unsure_tells : Tells (unsure left right)
  unsure_tells = by_key (nat_eq left right) refl
    where
      by_key : (b : Bool) → nat_eq left right ≡ b → Tells (if b then known.Itself else known.Unknown)
      by_key true is = equal_numbers (ap (λ (k : ℕ). address_number state.memory (given.word k)) (eqb-true _ _ is))
      by_key false is = tt

  -- a pair says that the words differ
  noted_apart : (one other : ℕ) (pairs : List Pair) → list_any (λ pair. not (differs_from (record { left = one; right = other }) pair)) pairs ≡ true →
      ((place : ℕ) (pair : Pair) → slice_get pairs place ≡ Some pair → given.word pair.left ≢ given.word pair.right) → given.word one ≢ given.word other
  noted_apart one other [] any apart same = false≢true any
  noted_apart one other (pair ∷ rest) any apart same = by_first (not (differs_from (record { left = one; right = other }) pair)) refl any (λ later. noted_apart one other rest later (λ place found there. apart (suc place) found there) same)
    where
      by_sides : ((one ≡ pair.left) × (other ≡ pair.right)) ⊎ ((one ≡ pair.right) × (other ≡ pair.left)) → ⊥
      by_sides (inl sides) = apart 0 pair refl (ap given.word (sym sides.0) ∙ same ∙ ap given.word sides.1)
      by_sides (inr sides) = apart 0 pair refl (ap given.word (sym sides.1) ∙ sym same ∙ ap given.word sides.0)

      by_first : (b : Bool) → not (differs_from (record { left = one; right = other }) pair) ≡ b → (b || list_any (λ pair. not (differs_from (record { left = one; right = other }) pair)) rest) ≡ true →
          (list_any (λ pair. not (differs_from (record { left = one; right = other }) pair)) rest ≡ true → ⊥) → ⊥
      by_first true is any later = by_sides (noted_sides one other pair is)
      by_first false is any later = later any

  -- the block of an address inside a live object
  record IsInsideAt (at object : ℕ) (offset : ℤ) : Type 0 where
    place : ℕ
    offset_is : offset ≡ pos place
    some : IsSome (object_at parts.objects object)
    number : ℕ
    blocks : given.blocks object ≡ number ∷ []
    block : Block
    there : slice_get state.memory number ≡ Some block
    live : block.live ≡ true
    within : place < length block.bytes
    word : given.word at ≡ To number (pos place)

  inside_at : (at object : ℕ) (offset : ℤ) (target : Target) → value_at parts.values at ≡ Some (Address object offset target) → names_no_segment (Address object offset target) ≡ true →
      is_inside_live parts (Address object offset target) ≡ true → IsInsideAt at object offset
  inside_at at object offset target stands names inside = by_offset offset refl (and_right region.found.live (is_inside region.found.size offset) both)
    where
      here : value_at parts.values at ≡ Some (Address object offset Region)
      here = stands ∙ ap (λ (t : Target). Some (Address object offset t)) (region_target object offset target names)

      region : IsRegionAt parts state given form meets at 0 object
      region = region_at parts state given form meets at 0 object offset here

      both : (region.found.live && is_inside region.found.size offset) ≡ true
      both = sym (ap (λ (o : Option Object). option_map_or (λ (found : Object). found.live && is_inside found.size offset) o false) region.is) ∙ inside

      has : HasBlock parts state given form meets at 0 object region.found
      has = has_block parts state given form meets at 0 object region.found region.is (and_left region.found.live (is_inside region.found.size offset) both) region.region

      by_offset : (z : ℤ) → offset ≡ z → is_inside region.found.size z ≡ true → IsInsideAt at object offset
      by_offset (negsuc before) is inside = absurd (false≢true inside)
      by_offset (pos place) is inside = record {
        place = place;
        offset_is = is;
        some = IsSome-holds _ _ region.is;
        number = has.number;
        blocks = has.blocks;
        block = has.at_number.block;
        there = has.at_number.there;
        live = has.at_number.node.live;
        within = let size = has.at_number.node.size in let below = ltb-true _ _ inside in omega arith;
        word = word_of parts state given form meets at 0 object has.number offset here has.blocks ∙ ap (To has.number) is;
      }

  inside_number : (at object : ℕ) (offset : ℤ) (inside : IsInsideAt at object offset) → address_number state.memory (given.word at) ≡ inside.block.base + inside.place
  inside_number at object offset inside = ap (address_number state.memory) inside.word ∙ number_inside state.memory inside.number inside.place inside.block memory inside.there inside.within

  -- null and such an address
  null_left : (number object : ℕ) (offset : ℤ) → given.word left ≡ Plain number → number ≡ 0 → IsInsideAt right object offset → test ≡ false
  null_left number object offset l null inside = eqb-miss _ _ (λ same.
      let low = (placed_at state.memory inside.number inside.block memory inside.there).low in
      let zero = sym (ap (address_number state.memory) l ∙ null) in let there = inside_number right object offset inside in
      let both : inside.block.base + inside.place ≡ 0 = sym there ∙ sym same ∙ sym zero in omega arith)

  null_right : (number object : ℕ) (offset : ℤ) → given.word right ≡ Plain number → number ≡ 0 → IsInsideAt left object offset → test ≡ false
  null_right number object offset r null inside = eqb-miss _ _ (λ same.
      let low = (placed_at state.memory inside.number inside.block memory inside.there).low in
      let zero = ap (address_number state.memory) r ∙ null in let there = inside_number left object offset inside in
      let both : inside.block.base + inside.place ≡ 0 = sym there ∙ same ∙ zero in omega arith)

  null_tells : (number : ℕ) (value : Value) → (number ≡ 0 → is_inside_live parts value ≡ true → test ≡ false) → Tells (null_compared parts left right number value)
  null_tells number value differ = by_test (nat_eq number 0 && is_inside_live parts value) refl
    where
      by_test : (b : Bool) → (nat_eq number 0 && is_inside_live parts value) ≡ b → Tells (if b then known.Different else unsure left right)
      by_test true is = differ (eqb-true _ _ (and_left (nat_eq number 0) (is_inside_live parts value) is)) (and_right (nat_eq number 0) (is_inside_live parts value) is)
      by_test false is = unsure_tells

  -- two such addresses
  places_tell : (object object' : ℕ) (offset offset' : ℤ) → IsInsideAt left object offset → IsInsideAt right object' offset' → Tells (if nat_eq object object' && int_eq offset offset' then known.Same else known.Different)
  places_tell object object' offset offset' one other = by_test (nat_eq object object' && int_eq offset offset') refl
    where
      same_number : object ≡ object' → one.number ≡ other.number
      same_number same = same_Some _ _ (ap (λ (ns : List ℕ). slice_get ns 0) (sym one.blocks ∙ ap given.blocks same ∙ other.blocks))

      same_object : one.number ≡ other.number → object ≡ object'
      same_object same =
          sym (meets.owners object 0 one.number one.some (ap (λ (ns : List ℕ). slice_get ns 0) one.blocks))
          ∙ ap given.owner same ∙ meets.owners object' 0 other.number other.some (ap (λ (ns : List ℕ). slice_get ns 0) other.blocks)

      pos_in : ℤ → ℕ
      pos_in (pos place) = place
      pos_in (negsuc before) = before

      by_test : (b : Bool) → (nat_eq object object' && int_eq offset offset') ≡ b → Tells (if b then known.Same else known.Different)
      by_test true is =
          let number = same_number (eqb-true _ _ (and_left (nat_eq object object') (int_eq offset offset') is)) in
          let place : one.place ≡ other.place = ap pos_in (sym one.offset_is ∙ (Decides-int_eq offset offset').0 (and_right (nat_eq object object') (int_eq offset offset') is) ∙ other.offset_is) in
          equal_numbers (ap (address_number state.memory) (one.word ∙ ap (λ (n : ℕ). To n (pos one.place)) number ∙ ap (λ (p : ℕ). To other.number (pos p)) place ∙ sym other.word))
      by_test false is = eqb-miss _ _ (λ same.
          let equal : one.block.base + one.place ≡ other.block.base + other.place = sym (inside_number left object offset one) ∙ same ∙ inside_number right object' offset' other in
          let number = inside_apart state.memory one.number other.number one.place other.place one.block other.block memory one.there other.there one.live other.live one.within other.within equal in
          let block : one.block ≡ other.block = same_Some _ _ (sym one.there ∙ ap (slice_get state.memory) number ∙ other.there) in
          let base = ap (λ (b : Block). b.base) block in
          let place : one.place ≡ other.place = omega arith in
          false≢true (sym is ∙ and_both (nat_eq object object') (int_eq offset offset') (eq-eqb _ _ (same_object number)) ((Decides-int_eq offset offset').1 (one.offset_is ∙ ap pos place ∙ sym other.offset_is))))

  addresses_tell : (object object' : ℕ) (offset offset' : ℤ) (target target' : Target) → value_at parts.values left ≡ Some (Address object offset target) → value_at parts.values right ≡ Some (Address object' offset' target') →
      names_no_segment (Address object offset target) ≡ true → names_no_segment (Address object' offset' target') ≡ true →
      Tells (if is_inside_live parts (Address object offset target) && is_inside_live parts (Address object' offset' target') then (if nat_eq object object' && int_eq offset offset' then known.Same else known.Different) else unsure left right)
  addresses_tell object object' offset offset' target target' stands stands' names names' = by_test (is_inside_live parts (Address object offset target) && is_inside_live parts (Address object' offset' target')) refl
    where
      by_test : (b : Bool) → (is_inside_live parts (Address object offset target) && is_inside_live parts (Address object' offset' target')) ≡ b →
          Tells (if b then (if nat_eq object object' && int_eq offset offset' then known.Same else known.Different) else unsure left right)
      by_test true is = places_tell object object' offset offset'
          (inside_at left object offset target stands names (and_left (is_inside_live parts (Address object offset target)) (is_inside_live parts (Address object' offset' target')) is))
          (inside_at right object' offset' target' stands' names' (and_right (is_inside_live parts (Address object offset target)) (is_inside_live parts (Address object' offset' target')) is))
      by_test false is = unsure_tells

  numbers_tell : (size size' : ℕ) → value_at parts.values left ≡ Some (Number size) → value_at parts.values right ≡ Some (Number size') →
      Tells (if nat_eq left right then known.Same else (if is_noted parts left right then known.Different else known.Either left right))
  numbers_tell size size' stands stands' = by_key (nat_eq left right) refl
    where
      one : (number : ℕ) × (given.word left ≡ Plain number) × (number < 256 ^ size)
      one = meets.values left (Number size) stands

      other : (number : ℕ) × (given.word right ≡ Plain number) × (number < 256 ^ size')
      other = meets.values right (Number size') stands'

      by_noted : (b : Bool) → is_noted parts left right ≡ b → Tells (if b then known.Different else known.Either left right)
      by_noted true is = plain_apart one.0 other.0 one.1 other.1 (λ same. noted_apart left right parts.unequal is meets.unequal (one.1 ∙ ap Plain same ∙ sym other.1))
      by_noted false is = either one.0 other.0 one.1 other.1

      by_key : (b : Bool) → nat_eq left right ≡ b → Tells (if b then known.Same else (if is_noted parts left right then known.Different else known.Either left right))
      by_key true is = equal_numbers (ap (λ (k : ℕ). address_number state.memory (given.word k)) (eqb-true _ _ is))
      by_key false is = by_noted (is_noted parts left right) refl

  constants_tell : (number number' : ℕ) → given.word left ≡ Plain number → given.word right ≡ Plain number' → Tells (if nat_eq number number' then known.Same else known.Different)
  constants_tell number number' l r = by_test (nat_eq number number') refl
    where
      by_test : (b : Bool) → nat_eq number number' ≡ b → Tells (if b then known.Same else known.Different)
      by_test true is = plain number number' l r ∙ is
      by_test false is = plain number number' l r ∙ is

  -- a constant on the left, and one on the right
  constant_tells : (number size : ℕ) → given.word left ≡ Plain number → value_at parts.values right ≡ Some (Number size) → Tells (if is_excluded parts right number then known.Different else known.Either left right)
  constant_tells number size l stands = by_test (is_excluded parts right number) refl
    where
      has : (other : ℕ) × (given.word right ≡ Plain other) × (other < 256 ^ size)
      has = meets.values right (Number size) stands

      by_test : (b : Bool) → is_excluded parts right number ≡ b → Tells (if b then known.Different else known.Either left right)
      by_test true is = plain_apart number has.0 l has.1 (λ same. any_excluded parts state given form meets right 0 number parts.unequal is meets.unequal (has.1 ∙ ap Plain (sym same)))
      by_test false is = either number has.0 l has.1

  number_tells : (number size : ℕ) → given.word right ≡ Plain number → value_at parts.values left ≡ Some (Number size) → Tells (if is_excluded parts left number then known.Different else known.Either right left)
  number_tells number size r stands = by_test (is_excluded parts left number) refl
    where
      has : (other : ℕ) × (given.word left ≡ Plain other) × (other < 256 ^ size)
      has = meets.values left (Number size) stands

      by_test : (b : Bool) → is_excluded parts left number ≡ b → Tells (if b then known.Different else known.Either right left)
      by_test true is = plain_apart has.0 number has.1 r (λ same. any_excluded parts state given form meets left 0 number parts.unequal is meets.unequal (has.1 ∙ ap Plain same))
      by_test false is = either_back has.0 number has.1 r

  pub values_tell : (one other : Value) → value_at parts.values left ≡ Some one → value_at parts.values right ≡ Some other → names_no_segment one ≡ true → names_no_segment other ≡ true → Tells (values_compared parts left right one other)
  values_tell (Const number size) (Const number' size') stands stands' names names' = constants_tell number number' (meets.values left (Const number size) stands) (meets.values right (Const number' size') stands')
  values_tell (Const number size) (Number size') stands stands' names names' = constant_tells number size' (meets.values left (Const number size) stands) stands'
  values_tell (Const number size) Any stands stands' names names' = unsure_tells
  values_tell (Const number size) (Address object offset target) stands stands' names names' = null_tells number (Address object offset target) (λ null inside.
      null_left number object offset (meets.values left (Const number size) stands) null (inside_at right object offset target stands' names' inside))
  values_tell (Number size) (Const number' size') stands stands' names names' = number_tells number' size (meets.values right (Const number' size') stands') stands
  values_tell (Number size) (Number size') stands stands' names names' = numbers_tell size size' stands stands'
  values_tell (Number size) Any stands stands' names names' = unsure_tells
  values_tell (Number size) (Address object offset target) stands stands' names names' = unsure_tells
  values_tell Any other stands stands' names names' = unsure_tells
  values_tell (Address object offset target) (Const number size) stands stands' names names' = null_tells number (Address object offset target) (λ null inside.
      null_right number object offset (meets.values right (Const number size) stands') null (inside_at left object offset target stands names inside))
  values_tell (Address object offset target) (Number size) stands stands' names names' = unsure_tells
  values_tell (Address object offset target) Any stands stands' names names' = unsure_tells
  values_tell (Address object offset target) (Address object' offset' target') stands stands' names names' = addresses_tell object object' offset offset' target target' stands stands' names names'
