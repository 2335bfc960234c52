-- Each state that a graph of regions stands for has room for one more block of 65,536 bytes: of 2^31 - 1 places of so many bytes each block
-- meets two at most, and there are fewer than 2^30.
use Rattle.std.proofs.Common.{◌≡◌, ◌≢◌, ℕ, zero, suc, ◌+◌, ◌-◌, ◌*◌, ◌/◌, ◌%◌, ◌^◌, ◌<◌, ◌≤◌, Bool, true, false, not, ◌&&◌, ◌||◌, List, [], ◌∷◌, length, nat_eq, nat_le, nat_lt, Option, None, Some, ◌⊎◌, inl, inr, refl, sym, ◌∙◌, ap, subst, eq-eqb, eqb-true, le-leb, leb-true, ltb-true, arith}
use Rattle.std.specs.Prelude.{sum_by, slice_get, max, if◌then◌else◌, IsTrue}
use Rattle.std.specs.List.{filter, list_all, list_any}
use Rattle.std.proofs.Math.Nat.{mul-mod_left, div-add-mod, mod-lt}
use Rattle.std.proofs.lemmas.Bool.{false≢true, cases_order, or_left, or_right}
use Rattle.std.proofs.lemmas.List.Sums.{sum_by-cons}
use Rattle.std.proofs.lemmas.Option.{same_Some, none-some, slice_get_within, get_or_from_slice_get}
use Rattle.bytes_core.specs.declared.block.Block.{Block}
use Rattle.bytes_core.specs.Placement.{extent, is_placed, are_compatible}
use Rattle.graph.specs.declared.object.Object.{Object}
use Rattle.graph.specs.declared.object.Shape.{Shape}
use Rattle.graph.specs.declared.object.Shape.TheVariants.{Region, Segment}
use Rattle.graph.specs.declared.parts.KeyedObject.{KeyedObject}
use Rattle.graph.specs.declared.parts.Parts.{Parts}
use Rattle.graph.specs.Maps.{object_at, value_at}
use Rattle.graph.specs.Meaning.{HasBlocksAs, IsGone, own_offset, first_of, Assignment, Meets, maps_of}
use Rattle.graph.specs.Nodes.{is_region}
use Rattle.graph.specs.State.{State, IsState}
use Rattle.graph.specs.WellFormed.{nodes_of, nodes}
use Rattle.graph.specs.Whole.{IsGraph}
use Rattle.graph.proofs.Found.{Holds-some, found-all}
use Rattle.graph.proofs.Tests.{and_left, and_right, and_both}
use Rattle.changes.proofs.Region.{IsRegionBlock, region_block}
use Rattle.heap_steps.specs.Leaving.{CanLieAt}
use Rattle.heap_steps.proofs.Entries.{entry_found}

-- Some number up to the length of a list is not in it.

filter_most : (n : ℕ) (xs : List ℕ) → length (filter (λ x. not (nat_eq n x)) xs) ≤ length xs
filter_most n [] = omega arith
filter_most n (first ∷ rest) = let later = filter_most n rest in by_test (nat_eq n first) later
  where
    by_test : (b : Bool) → length (filter (λ x. not (nat_eq n x)) rest) ≤ length rest → length (if not b then first ∷ filter (λ x. not (nat_eq n x)) rest else filter (λ x. not (nat_eq n x)) rest) ≤ suc (length rest)
    by_test true later = omega arith
    by_test false later = omega arith

filter_less : (n : ℕ) (xs : List ℕ) → list_any (nat_eq n) xs ≡ true → length (filter (λ x. not (nat_eq n x)) xs) < length xs
filter_less n [] some = absurd (false≢true some)
filter_less n (first ∷ rest) some = by_test (nat_eq n first) some (filter_most n rest) (λ some'. filter_less n rest some')
  where
    by_test : (b : Bool) → (b || list_any (nat_eq n) rest) ≡ true → length (filter (λ x. not (nat_eq n x)) rest) ≤ length rest → (list_any (nat_eq n) rest ≡ true → length (filter (λ x. not (nat_eq n x)) rest) < length rest) →
        length (if not b then first ∷ filter (λ x. not (nat_eq n x)) rest else filter (λ x. not (nat_eq n x)) rest) < suc (length rest)
    by_test true some' most later = omega arith
    by_test false some' most later = let l = later some' in omega arith

filter_none : (i n : ℕ) (xs : List ℕ) → i ≢ n → list_any (nat_eq i) (filter (λ x. not (nat_eq n x)) xs) ≡ false → list_any (nat_eq i) xs ≡ false
filter_none i n [] differ none = refl
filter_none i n (first ∷ rest) differ none = by_test (nat_eq n first) refl none (λ none'. filter_none i n rest differ none')
  where
    miss : n ≡ first → (b : Bool) → nat_eq i first ≡ b → nat_eq i first ≡ false
    miss same true is = absurd (differ (eqb-true _ _ is ∙ sym same))
    miss same false is = is

    by_kept : (b : Bool) → (b || list_any (nat_eq i) (filter (λ x. not (nat_eq n x)) rest)) ≡ false → (list_any (nat_eq i) (filter (λ x. not (nat_eq n x)) rest) ≡ false → list_any (nat_eq i) rest ≡ false) → (b || list_any (nat_eq i) rest) ≡ false
    by_kept true none' later = absurd (false≢true (sym none'))
    by_kept false none' later = later none'

    by_test : (b : Bool) → nat_eq n first ≡ b → list_any (nat_eq i) (if not b then first ∷ filter (λ x. not (nat_eq n x)) rest else filter (λ x. not (nat_eq n x)) rest) ≡ false →
        (list_any (nat_eq i) (filter (λ x. not (nat_eq n x)) rest) ≡ false → list_any (nat_eq i) rest ≡ false) → (nat_eq i first || list_any (nat_eq i) rest) ≡ false
    by_test true is none' later = ap (λ (b : Bool). b || list_any (nat_eq i) rest) (miss (eqb-true _ _ is) (nat_eq i first) refl) ∙ later none'
    by_test false is none' later = by_kept (nat_eq i first) none' later

misses : (n : ℕ) (xs : List ℕ) → length xs ≤ n → (i : ℕ) × (i ≤ n) × (list_any (nat_eq i) xs ≡ false)
misses zero [] most = (0, omega arith, refl)
misses zero (first ∷ rest) most = absurd (omega arith)
misses (suc n) xs most = by_test (list_any (nat_eq (suc n)) xs) refl (λ less. misses n (filter (λ x. not (nat_eq (suc n) x)) xs) less)
  where
    by_test : (b : Bool) → list_any (nat_eq (suc n)) xs ≡ b → (length (filter (λ x. not (nat_eq (suc n) x)) xs) ≤ n → (i : ℕ) × (i ≤ n) × (list_any (nat_eq i) (filter (λ x. not (nat_eq (suc n) x)) xs) ≡ false)) →
        (i : ℕ) × (i ≤ suc n) × (list_any (nat_eq i) xs ≡ false)
    by_test true is before =
        let less = filter_less (suc n) xs is in
        let found = before (omega arith) in
        let most' = found.1 in
        (found.0, omega arith, filter_none found.0 (suc n) xs (λ same. absurd (omega arith)) found.2)
    by_test false is before = (suc n, omega arith, is)

-- The places that blocks of objects meet.

abbrev place_of : Block → ℕ
place_of block = (block.base - 16) / 65536

abbrev place_in : Option Block → ℕ
place_in None = 0
place_in (Some block) = place_of block

abbrev place_at : List Block → Option ℕ → ℕ
place_at memory None = 0
place_at memory (Some number) = place_in (slice_get memory number)

abbrev met : List Block → (ℕ → List ℕ) → List KeyedObject → List ℕ
met memory blocks [] = []
met memory blocks (entry ∷ rest) = place_at memory (first_of (blocks entry.key)) ∷ suc (place_at memory (first_of (blocks entry.key))) ∷ met memory blocks rest

met_long : (memory : List Block) (blocks : ℕ → List ℕ) (entries : List KeyedObject) → length (met memory blocks entries) ≡ 2 * length entries
met_long memory blocks [] = refl
met_long memory blocks (entry ∷ rest) = let later = met_long memory blocks rest in omega arith

either_none : (one other : Bool) → (one || other) ≡ false → (one ≡ false) × (other ≡ false)
either_none true other none = absurd (false≢true (sym none))
either_none false other none = (refl, none)

not_met : (memory : List Block) (blocks : ℕ → List ℕ) (entries : List KeyedObject) (i place : ℕ) (entry : KeyedObject) → list_any (nat_eq i) (met memory blocks entries) ≡ false → slice_get entries place ≡ Some entry →
    (nat_eq i (place_at memory (first_of (blocks entry.key))) ≡ false) × (nat_eq i (suc (place_at memory (first_of (blocks entry.key)))) ≡ false)
not_met memory blocks [] i place entry none is = absurd (none-some entry is)
not_met memory blocks (first ∷ rest) i zero entry none is =
    let here = either_none (nat_eq i (place_at memory (first_of (blocks first.key)))) (nat_eq i (suc (place_at memory (first_of (blocks first.key)))) || list_any (nat_eq i) (met memory blocks rest)) none in
    let later = either_none (nat_eq i (suc (place_at memory (first_of (blocks first.key))))) (list_any (nat_eq i) (met memory blocks rest)) here.1 in
    subst (λ (e : KeyedObject). (nat_eq i (place_at memory (first_of (blocks e.key))) ≡ false) × (nat_eq i (suc (place_at memory (first_of (blocks e.key)))) ≡ false)) (same_Some _ _ is) (here.0, later.0)
not_met memory blocks (first ∷ rest) i (suc place) entry none is =
    let here = either_none (nat_eq i (place_at memory (first_of (blocks first.key)))) (nat_eq i (suc (place_at memory (first_of (blocks first.key)))) || list_any (nat_eq i) (met memory blocks rest)) none in
    let later = either_none (nat_eq i (suc (place_at memory (first_of (blocks first.key))))) (list_any (nat_eq i) (met memory blocks rest)) here.1 in
    not_met memory blocks rest i place entry later.1 is

-- Objects are no more than nodes.

some_nodes : (shape : Shape) → 1 ≤ nodes_of shape
some_nodes Region = omega arith
some_nodes (Segment twofold head next prev back least next_value prev_value node) = omega arith

objects_most : (objects : List KeyedObject) → length objects ≤ sum_by (λ (entry : KeyedObject). nodes_of entry.object.shape) objects
objects_most [] = omega arith
objects_most (first ∷ rest) =
    let later = objects_most rest in
    let one = some_nodes first.object.shape in
    let sum = sum_by-cons (λ (entry : KeyedObject). nodes_of entry.object.shape) first rest in omega arith

all_at : {X : Type 0} (test : X → Bool) (xs : List X) → ((place : ℕ) (x : X) → slice_get xs place ≡ Some x → test x ≡ true) → list_all test xs ≡ true
all_at test [] each = refl
all_at test (first ∷ rest) each = and_both (test first) (list_all test rest) (each 0 first refl) (all_at test rest (λ place x is. each (suc place) x is))

module _ (parts : Parts) (graph : IsGraph parts) (regions : list_all (λ (entry : KeyedObject). is_region entry.object.shape) parts.objects ≡ true) (state : State) (given : Assignment) (is : IsState state) (meets : Meets (maps_of parts) state given) where
  few : length parts.objects < 2 ^ 30
  few =
      let most = objects_most parts.objects in
      let limit = ltb-true (nodes parts) (2 ^ 30) (and_left (nat_lt (nodes parts) (2 ^ 30)) (nat_lt (length parts.unequal) (2 ^ 30)) graph.within_limits) in omega arith

  free : (i : ℕ) × (i ≤ 2 * length parts.objects) × (list_any (nat_eq i) (met state.memory given.blocks parts.objects) ≡ false)
  free = misses (2 * length parts.objects) (met state.memory given.blocks parts.objects) (let long = met_long state.memory given.blocks parts.objects in omega arith)

  abbrev slot : ℕ
  slot = free.0

  -- what is known of a live block: where it begins, how far it reaches, and that it does not meet the free place
  record IsBeside (block : Block) : Type 0 where
    low : 16 ≤ block.base
    small : length block.bytes ≤ 65536
    differ : slot ≢ place_of block
    differ' : slot ≢ suc (place_of block)

  beside : (number : ℕ) (block : Block) → slice_get state.memory number ≡ Some block → block.live ≡ true → IsBeside block
  beside number block stands live =
      let owned = meets.used number block stands live in
      let object = Holds-some (object_at parts.objects (given.owner number)) owned.object in
      by_object (given.owner number) object.item object.is (given.place number) owned.block
    where
      placed : IsTrue (is_placed block)
      placed = subst (λ (b : Block). IsTrue (is_placed b)) (get_or_from_slice_get state.memory number block block stands) (is.memory.placed number block (slice_get_within state.memory number block stands))

      one : (first place : ℕ) → slice_get (first ∷ []) place ≡ Some number → first ≡ number
      one first zero found = same_Some _ _ found
      one first (suc place) found = absurd (none-some number found)

      not_same : (a b : ℕ) → nat_eq a b ≡ false → a ≢ b
      not_same a b none same = false≢true (sym none ∙ eq-eqb a b same)

      region_is : (key : ℕ) (object : Object) → object_at parts.objects key ≡ Some object → (shape : Shape) → object.shape ≡ shape → object.shape ≡ Region
      region_is key object there Region shape_is = shape_is
      region_is key object there (Segment twofold head next prev back least next_value prev_value node) shape_is =
          absurd (false≢true (sym (ap is_region shape_is) ∙ found-all (λ (entry : KeyedObject). entry.key) (λ entry. entry.object) (λ (object : Object). is_region object.shape) parts.objects key object regions there))

      by_object : (key : ℕ) (object : Object) → object_at parts.objects key ≡ Some object → (place : ℕ) → slice_get (given.blocks key) place ≡ Some number → IsBeside block
      by_object key object there place own = by_life object.live refl
        where
          by_life : (b : Bool) → object.live ≡ b → IsBeside block
          by_life false dead =
              let has : HasBlocksAs false state.memory object given.word (λ value. own_offset (value_at parts.values value)) (given.blocks key) =
              subst (λ (b : Bool). HasBlocksAs b state.memory object given.word (λ value. own_offset (value_at parts.values value)) (given.blocks key)) dead (meets.objects key object there) in
              let same = one has.0 place (sym (ap (λ (bs : List ℕ). slice_get bs place) has.1) ∙ own) in
              let gone : IsGone object.kind (Some block) = subst (IsGone object.kind) (ap (slice_get state.memory) same ∙ stands) has.2 in
              absurd (false≢true (sym gone.0 ∙ live))
          by_life true lives =
              let its : IsRegionBlock object state given key = region_block parts state given key object meets there lives (region_is key object there object.shape refl) in
              let number_is : its.number ≡ number = one its.number place (sym (ap (λ (bs : List ℕ). slice_get bs place) its.blocks) ∙ own) in
              let block_is : its.block ≡ block = same_Some _ _ (sym its.there ∙ ap (slice_get state.memory) number_is ∙ stands) in
              let entry = entry_found (λ (entry : KeyedObject). entry.key) (λ (entry : KeyedObject). entry.object) parts.objects key object there in
              let none = not_met state.memory given.blocks parts.objects slot entry.0 entry.1 free.2 entry.2 in
              let place_is : place_at state.memory (first_of (given.blocks entry.1.key)) ≡ place_of block =
              ap (λ (k : ℕ). place_at state.memory (first_of (given.blocks k))) entry.3 ∙ ap (λ (bs : List ℕ). place_at state.memory (first_of bs)) its.blocks ∙ ap place_in (ap (slice_get state.memory) number_is ∙ stands) in
              let size_is : length block.bytes ≡ object.size = ap (λ (b : Block). length b.bytes) (sym block_is) ∙ its.node.size in
              let most = leb-true object.size 65536 (found-all (λ (entry : KeyedObject). entry.key) (λ entry. entry.object) (λ (object : Object). nat_le object.size 65536) parts.objects key object graph.well_formed.objects_are_small there) in record {
                low = leb-true 16 block.base (and_left (nat_le 16 block.base) (nat_le (block.base + extent block) (2 ^ 47)) (and_right (nat_eq (block.base % 16) 0) (nat_le 16 block.base && nat_le (block.base + extent block) (2 ^ 47)) placed));
                small = omega arith;
                differ = not_same slot (place_of block) (subst (λ (n : ℕ). nat_eq slot n ≡ false) place_is none.0);
                differ' = not_same slot (suc (place_of block)) (subst (λ (n : ℕ). nat_eq slot (suc n) ≡ false) place_is none.1);
              }

  pub room_base : ℕ
  room_base = 16 + 65536 * slot

  pub regions_have_room : CanLieAt state.memory room_base
  unfolding room_base
  regions_have_room kind bytes fits = and_both (is_placed new) (list_all (are_compatible new) state.memory) placed (all_at (are_compatible new) state.memory (λ number block stands. by_life number block stands block.live refl))
    where
      new : Block
      new = record { base = 16 + 65536 * free.0; kind = kind; live = true; bytes = bytes }

      most : free.0 ≤ 2147483646
      most = let upto = free.1 in let under = few in omega arith

      placed : is_placed (record { base = 16 + 65536 * free.0; kind = kind; live = true; bytes = bytes }) ≡ true
      placed =
          and_both (nat_eq ((16 + 65536 * free.0) % 16) 0) (nat_le 16 (16 + 65536 * free.0) && nat_le (16 + 65536 * free.0 + max 16 (length bytes)) (2 ^ 47))
          (eq-eqb ((16 + 65536 * free.0) % 16) 0 (ap (λ (n : ℕ). n % 16) (let e : 16 + 65536 * free.0 ≡ (1 + 4096 * free.0) * 16 = omega arith in e) ∙ mul-mod_left (1 + 4096 * free.0) 16))
          (and_both (nat_le 16 (16 + 65536 * free.0)) (nat_le (16 + 65536 * free.0 + max 16 (length bytes)) (2 ^ 47)) (le-leb _ _ (omega arith)) (le-leb _ _ (let m = most in omega arith)))

      fits_beside : (block : Block) → IsBeside block → (slot ≡ place_of block) ⊎ ((slot < place_of block) ⊎ (place_of block < slot)) →
          (nat_le (16 + 65536 * free.0 + max 16 (length bytes)) block.base || nat_le (block.base + max 16 (length block.bytes)) (16 + 65536 * free.0)) ≡ true
      fits_beside block its (inl same) = absurd (its.differ same)
      fits_beside block its (inr (inl less)) =
          let low = its.low in
          let whole = div-add-mod (block.base - 16) 65536 in
          or_left (nat_le (16 + 65536 * free.0 + max 16 (length bytes)) block.base) (nat_le (block.base + max 16 (length block.bytes)) (16 + 65536 * free.0)) (le-leb _ _ (omega arith))
      fits_beside block its (inr (inr more)) =
          let low = its.low in
          let small = its.small in
          let differ = its.differ' in
          let whole = div-add-mod (block.base - 16) 65536 in
          let rest : (block.base - 16) % 65536 < 65536 = mod-lt (block.base - 16) (omega arith) in
          or_right (nat_le (16 + 65536 * free.0 + max 16 (length bytes)) block.base) (nat_le (block.base + max 16 (length block.bytes)) (16 + 65536 * free.0)) (le-leb _ _ (omega arith))

      by_life : (number : ℕ) (block : Block) → slice_get state.memory number ≡ Some block → (b : Bool) → block.live ≡ b → (not block.live || (nat_le (16 + 65536 * free.0 + max 16 (length bytes)) block.base || nat_le (block.base + max 16 (length block.bytes)) (16 + 65536 * free.0))) ≡ true
      by_life number block stands false dead = ap (λ (l : Bool). not l || (nat_le (16 + 65536 * free.0 + max 16 (length bytes)) block.base || nat_le (block.base + max 16 (length block.bytes)) (16 + 65536 * free.0))) dead
      by_life number block stands true live = or_right (not block.live) (nat_le (16 + 65536 * free.0 + max 16 (length bytes)) block.base || nat_le (block.base + max 16 (length block.bytes)) (16 + 65536 * free.0)) (fits_beside block (beside number block stands live) (cases_order slot (place_of block)))
