-- Where an access to so many bytes of a block meets no fault, a live object has so many; and which faults an access meets.
use Rattle.std.proofs.Common.{◌≡◌, ℕ, zero, suc, ◌+◌, ◌<◌, ◌≤◌, Bool, true, false, ◌&&◌, ◌||◌, List, [], ◌∷◌, length, drop, ℤ, pos, negsuc, nat_eq, nat_le, nat_lt, Option, None, Some, refl, sym, ◌∙◌, ap, subst, leb-true, le-leb, eqb-true, eq-eqb, arith}
use Rattle.std.specs.Prelude.{slice_get, Contains, if◌then◌else◌}
use Rattle.std.specs.List.{list_any}
use Rattle.std.specs.Option.{option_map_or}
use Rattle.std.proofs.lemmas.Bool.{false≢true}
use Rattle.std.proofs.lemmas.Option.{same_Some, none-some}
use Rattle.bytes_core.specs.declared.block.Block.{Block}
use Rattle.bytes_core.specs.declared.word.Word.{Word}
use Rattle.bytes_core.specs.declared.word.Word.TheVariants.{Plain, To}
use Rattle.bytes_core.specs.Fault.{null_pointer_dereference, access_outside_object, access_to_dead_object, access_through_invalid_address}
use Rattle.bytes_core.specs.Access.{is_within, block_fault, access_fault}
use Rattle.graph.specs.declared.object.Links.{Links}
use Rattle.graph.specs.declared.object.Object.{Object}
use Rattle.graph.specs.declared.object.Shape.{Shape}
use Rattle.graph.specs.declared.object.Shape.TheVariants.{Region as RegionShape, Segment}
use Rattle.graph.specs.declared.template.Node.{Node}
use Rattle.graph.specs.declared.parts.KeyedObject.{KeyedObject}
use Rattle.graph.specs.declared.parts.Parts.{Parts}
use Rattle.graph.specs.Maps.{object_at, value_at}
use Rattle.graph.specs.Nodes.{is_region}
use Rattle.graph.specs.State.{State}
use Rattle.graph.specs.Whole.{IsGraph}
use Rattle.graph.specs.Meaning.{IsGone, AreNodes, HasShape, HasBlocksAs, own_offset, maps_of, Assignment, Meets}
use Rattle.graph.proofs.Found.{Holds-some}
use Rattle.graph.proofs.Tests.{and_left, and_right, and_both}
use Rattle.changes.specs.Reaching.{has_live_object}
use Rattle.changes.proofs.Meeting.{contains_first, contains_later}
use Rattle.range_steps.specs.Copying.{has_room}

abbrev pub is_roomy : ℕ → KeyedObject → Bool
is_roomy count entry = entry.object.live && nat_le count entry.object.size

-- an object that is there counts
some_roomy : (count : ℕ) (entries : List KeyedObject) (key : ℕ) (object : Object) → object_at entries key ≡ Some object → (object.live && nat_le count object.size) ≡ true → list_any (is_roomy count) entries ≡ true
some_roomy count [] key object stands roomy = absurd (none-some object stands)
some_roomy count (first ∷ rest) key object stands roomy = by_key (nat_eq first.key key) stands (λ later. some_roomy count rest key object later roomy)
  where
    or_first : (a b : Bool) → a ≡ true → (a || b) ≡ true
    or_first true b is = refl
    or_first false b is = absurd (false≢true is)

    or_second : (a b : Bool) → b ≡ true → (a || b) ≡ true
    or_second true b is = refl
    or_second false b is = is

    by_key : (b : Bool) → (if b then Some first.object else object_at rest key) ≡ Some object → (object_at rest key ≡ Some object → list_any (is_roomy count) rest ≡ true) → list_any (is_roomy count) (first ∷ rest) ≡ true
    by_key true same later = or_first (is_roomy count first) (list_any (is_roomy count) rest) (ap (λ (o : Object). o.live && nat_le count o.size) (same_Some _ _ same) ∙ roomy)
    by_key false same later = or_second (is_roomy count first) (list_any (is_roomy count) rest) (later same)

module _ (parts : Parts) (state : State) (given : Assignment) (meets : Meets (maps_of parts) state given) (count : ℕ) where
  -- a node of a segment has as many bytes as its object says
  node_size : (object : Object) (links : Links) (template : Node) (own : ℕ → Option ℤ) (after before : Word) (blocks : List ℕ) (place number : ℕ) (block : Block) →
      AreNodes state.memory object links template given.word own after before blocks → slice_get blocks place ≡ Some number → slice_get state.memory number ≡ Some block → length block.bytes ≡ object.size
  node_size object links template own after before [] place number block nodes among stands = absurd (none-some number among)
  node_size object links template own after before (first ∷ rest) zero number block nodes among stands =
      ap (λ (b : Block). length b.bytes) (same_Some _ _ (sym stands ∙ ap (slice_get state.memory) (sym (same_Some _ _ among)) ∙ nodes.0.there)) ∙ nodes.0.node.size
  node_size object links template own after before (first ∷ rest) (suc place) number block nodes among stands =
      node_size object links template own after (To first (pos links.back)) rest place number block nodes.1 among stands

  one_place : (place one number : ℕ) → slice_get (one ∷ []) place ≡ Some number → one ≡ number
  one_place zero one number found = same_Some _ _ found
  one_place (suc place) one number found = absurd (none-some number found)

  -- a live block is one of a live object, of its size
  pub live_size : (key place number : ℕ) (object : Object) (block : Block) → object_at parts.objects key ≡ Some object → slice_get (given.blocks key) place ≡ Some number → slice_get state.memory number ≡ Some block → block.live ≡ true →
      (object.live ≡ true) × (length block.bytes ≡ object.size)
  live_size key place number object block is among stands live = by_life object.live refl (meets.objects key object is)
    where
      by_shape : (shape : Shape) → HasShape shape state.memory object given.word (λ value. own_offset (value_at parts.values value)) (given.blocks key) → length block.bytes ≡ object.size
      by_shape RegionShape (one, blocks, at_one) =
          let same : one ≡ number = one_place place one number (sym (ap (λ (ns : List ℕ). slice_get ns place) blocks) ∙ among) in
          ap (λ (b : Block). length b.bytes) (same_Some _ _ (sym stands ∙ ap (slice_get state.memory) (sym same) ∙ at_one.there)) ∙ at_one.node.size
      by_shape (Segment twofold head next prev back least next_value prev_value node) has =
          node_size object (record { twofold = twofold; head = head; next = next; prev = prev; back = back; least = least; next_value = next_value; prev_value = prev_value }) node (λ value. own_offset (value_at parts.values value))
          _ _ (given.blocks key) place number block has.1 among stands

      gone : (found : Option Block) → found ≡ Some block → IsGone object.kind found → ⊥
      gone None is none = none-some block is
      gone (Some other) is dead = false≢true (sym dead.0 ∙ ap (λ (b : Block). b.live) (same_Some _ _ is) ∙ live)

      by_life : (b : Bool) → object.live ≡ b → HasBlocksAs b state.memory object given.word (λ value. own_offset (value_at parts.values value)) (given.blocks key) → (object.live ≡ true) × (length block.bytes ≡ object.size)
      by_life true is has = (is, by_shape object.shape has)
      by_life false is (one, blocks, dead) =
          let same : one ≡ number = one_place place one number (sym (ap (λ (ns : List ℕ). slice_get ns place) blocks) ∙ among) in
          absurd (gone (slice_get state.memory number) stands (subst (λ (n : ℕ). IsGone object.kind (slice_get state.memory n)) same dead))

  -- where a word leads to so many bytes, a live object has so many
  pub room_somewhere : (word : Word) → access_fault state.memory word count ≡ None → has_room parts count ≡ true
  room_somewhere (Plain number) none = absurd (by_size (nat_lt number 4096) none)
    where
      by_size : (b : Bool) → (if b then Some null_pointer_dereference else Some access_through_invalid_address) ≡ None → ⊥
      by_size true none = none-some null_pointer_dereference (sym none)
      by_size false none = none-some access_through_invalid_address (sym none)
  room_somewhere (To number offset) none = by_block (slice_get state.memory number) refl none
    where
      by_offset : (offset : ℤ) (size : ℕ) → is_within size offset count ≡ true → count ≤ size
      by_offset (pos from) size within = let w = leb-true _ _ within in omega arith
      by_offset (negsuc before) size within = absurd (false≢true within)

      by_block : (found : Option Block) → slice_get state.memory number ≡ found → block_fault found offset count ≡ None → has_room parts count ≡ true
      by_block None stands none = absurd (none-some access_to_dead_object (sym none))
      by_block (Some block) stands none = by_tests block.live refl (is_within (length block.bytes) offset count) refl none
        where
          by_tests : (b : Bool) → block.live ≡ b → (c : Bool) → is_within (length block.bytes) offset count ≡ c → (if b then (if c then None else Some access_outside_object) else Some access_to_dead_object) ≡ None → has_room parts count ≡ true
          by_tests false dead c within none = absurd (none-some access_to_dead_object (sym none))
          by_tests true live false within none = absurd (none-some access_outside_object (sym none))
          by_tests true live true within none =
              let owned = meets.used number block stands live in
              let held = Holds-some (object_at parts.objects (given.owner number)) owned.object in
              let sized = live_size (given.owner number) (given.place number) number held.item block held.is owned.block stands live in
              let enough = by_offset offset (length block.bytes) within in
              some_roomy count parts.objects (given.owner number) held.item held.is
              (and_both held.item.live (nat_le count held.item.size) sized.0 (le-leb _ _ (subst (λ (n : ℕ). count ≤ n) sized.1 enough)))

-- such an object lives
pub room_lives : (parts : Parts) (count : ℕ) → has_room parts count ≡ true → has_live_object parts ≡ true
room_lives parts count room = go parts.objects room
  where
    go : (entries : List KeyedObject) → list_any (is_roomy count) entries ≡ true → list_any (λ (entry : KeyedObject). entry.object.live) entries ≡ true
    go [] room = absurd (false≢true room)
    go (first ∷ rest) room = by_life first.object.live (nat_le count first.object.size) (list_any (λ (entry : KeyedObject). entry.object.live) rest) (list_any (is_roomy count) rest) (λ later. go rest later) room
      where
        by_life : (a b c d : Bool) → (d ≡ true → c ≡ true) → ((a && b) || d) ≡ true → (a || c) ≡ true
        by_life true b c d follows is = refl
        by_life false b c d follows is = follows is

-- a fault of an access has one of four kinds
abbrev pub four_kinds : List ℕ
four_kinds = null_pointer_dereference ∷ access_outside_object ∷ access_to_dead_object ∷ access_through_invalid_address ∷ []

one_of : (kind : ℕ) → Contains four_kinds null_pointer_dereference × Contains four_kinds access_outside_object × Contains four_kinds access_to_dead_object × Contains four_kinds access_through_invalid_address
one_of kind = (
  contains_first 1 (2 ∷ 3 ∷ 4 ∷ []),
  contains_later 1 2 (2 ∷ 3 ∷ 4 ∷ []) (contains_first 2 (3 ∷ 4 ∷ [])),
  contains_later 1 3 (2 ∷ 3 ∷ 4 ∷ []) (contains_later 2 3 (3 ∷ 4 ∷ []) (contains_first 3 (4 ∷ []))),
  contains_later 1 4 (2 ∷ 3 ∷ 4 ∷ []) (contains_later 2 4 (3 ∷ 4 ∷ []) (contains_later 3 4 (4 ∷ []) (contains_first 4 []))),
)

pub access_kinds : (state : State) (word : Word) (count kind : ℕ) → access_fault state.memory word count ≡ Some kind → Contains four_kinds kind
access_kinds state (Plain number) count kind fault = by_size (nat_lt number 4096) fault
  where
    by_size : (b : Bool) → (if b then Some null_pointer_dereference else Some access_through_invalid_address) ≡ Some kind → Contains four_kinds kind
    by_size true is = subst (λ (k : ℕ). Contains four_kinds k) (same_Some _ _ is) (one_of kind).0
    by_size false is = subst (λ (k : ℕ). Contains four_kinds k) (same_Some _ _ is) (one_of kind).3
access_kinds state (To number offset) count kind fault = by_block (slice_get state.memory number) fault
  where
    by_block : (found : Option Block) → block_fault found offset count ≡ Some kind → Contains four_kinds kind
    by_block None is = subst (λ (k : ℕ). Contains four_kinds k) (same_Some _ _ is) (one_of kind).2
    by_block (Some block) is = by_tests block.live (is_within (length block.bytes) offset count) is
      where
        by_tests : (b c : Bool) → (if b then (if c then None else Some access_outside_object) else Some access_to_dead_object) ≡ Some kind → Contains four_kinds kind
        by_tests false c is = subst (λ (k : ℕ). Contains four_kinds k) (same_Some _ _ is) (one_of kind).2
        by_tests true true is = absurd (none-some kind is)
        by_tests true false is = subst (λ (k : ℕ). Contains four_kinds k) (same_Some _ _ is) (one_of kind).1

-- Objects one after another.

-- the next object is roomy, or another one behind it
pub roomy_next : (count : ℕ) (entries : List KeyedObject) (key : ℕ) → ((place : ℕ) (entry : KeyedObject) → slice_get entries place ≡ Some entry → entry.key ≡ place) → key < length entries →
    list_any (is_roomy count) (drop key entries) ≡ (option_map_or (λ (object : Object). object.live && nat_le count object.size) (object_at entries key) false || list_any (is_roomy count) (drop (key + 1) entries))
roomy_next count entries key in_place within = go 0 entries key (λ place entry stands. in_place place entry stands ∙ (let e : place ≡ 0 + place = omega arith in e)) within
    ∙ ap (λ (n : ℕ). option_map_or (λ (object : Object). object.live && nat_le count object.size) (object_at entries n) false || list_any (is_roomy count) (drop (key + 1) entries)) (let e : 0 + key ≡ key = omega arith in e)
  where
    go : (from : ℕ) (entries : List KeyedObject) (key : ℕ) → ((place : ℕ) (entry : KeyedObject) → slice_get entries place ≡ Some entry → entry.key ≡ from + place) → key < length entries →
        list_any (is_roomy count) (drop key entries) ≡ (option_map_or (λ (object : Object). object.live && nat_le count object.size) (object_at entries (from + key)) false || list_any (is_roomy count) (drop (key + 1) entries))
    go from [] key in_place within = absurd (omega arith)
    go from (first ∷ rest) zero in_place within =
        ap (λ (b : Bool). option_map_or (λ (object : Object). object.live && nat_le count object.size) (if b then Some first.object else object_at rest (from + 0)) false || list_any (is_roomy count) rest) (sym (eq-eqb first.key (from + 0) (in_place 0 first refl)))
    go from (first ∷ rest) (suc key) in_place within =
        go (suc from) rest key (λ place entry stands. in_place (suc place) entry stands ∙ (let e : from + suc place ≡ suc from + place = omega arith in e)) (omega arith)
        ∙ ap (λ (n : ℕ). option_map_or (λ (object : Object). object.live && nat_le count object.size) (object_at rest n) false || list_any (is_roomy count) (drop (key + 1) rest)) (let e : suc from + key ≡ from + suc key = omega arith in e)
        ∙ ap (λ (b : Bool). option_map_or (λ (object : Object). object.live && nat_le count object.size) (if b then Some first.object else object_at rest (from + suc key)) false || list_any (is_roomy count) (drop (key + 1) rest)) (sym (other (nat_eq first.key (from + suc key)) refl))
        ∙ ap (λ (n : ℕ). option_map_or (λ (object : Object). object.live && nat_le count object.size) (object_at (first ∷ rest) (from + suc key)) false || list_any (is_roomy count) (drop n (first ∷ rest))) (let e : suc (key + 1) ≡ suc key + 1 = omega arith in e)
      where
        other : (b : Bool) → nat_eq first.key (from + suc key) ≡ b → nat_eq first.key (from + suc key) ≡ false
        other false is = is
        other true is = let k = eqb-true _ _ is in let p = in_place 0 first refl in absurd (omega arith)

-- behind the last
pub roomy_done : (parts : Parts) (count key many : ℕ) → many ≡ length parts.objects → many ≤ key → list_any (is_roomy count) (drop key parts.objects) ≡ false
roomy_done parts count key many is over = go parts.objects key (subst (λ (n : ℕ). n ≤ key) is over)
  where
    go : (entries : List KeyedObject) (key : ℕ) → length entries ≤ key → list_any (is_roomy count) (drop key entries) ≡ false
    go [] zero over = refl
    go [] (suc key) over = refl
    go (first ∷ rest) zero over = absurd (omega arith)
    go (first ∷ rest) (suc key) over = go rest key (omega arith)

-- A live region that is roomy.

pub record IsObjectOf (parts : Parts) (test : Object → Bool) : Type 0 where
  pub key : ℕ
  pub object : Object
  pub stands : object_at parts.objects key ≡ Some object
  pub passes : test object ≡ true

-- where some object passes a test it stands under a key
pub object_of : (parts : Parts) → IsGraph parts → (test : Object → Bool) → list_any (λ entry. test entry.object) parts.objects ≡ true → IsObjectOf parts test
object_of parts graph test some =
    let found = go 0 parts.objects (λ place entry stands. graph.keys.objects place entry stands ∙ (let e : place ≡ 0 + place = omega arith in e)) some in
    record { key = 0 + found.0; object = found.1; stands = found.2; passes = found.3 }
  where
    go : (from : ℕ) (entries : List KeyedObject) → ((place : ℕ) (entry : KeyedObject) → slice_get entries place ≡ Some entry → entry.key ≡ from + place) → list_any (λ entry. test entry.object) entries ≡ true →
        (place : ℕ) × (object : Object) × (object_at entries (from + place) ≡ Some object) × (test object ≡ true)
    go from [] in_place some = absurd (false≢true some)
    go from (first ∷ rest) in_place some = by_first (test first.object) refl some
        (λ later. go (suc from) rest (λ place entry stands. in_place (suc place) entry stands ∙ (let e : from + suc place ≡ suc from + place = omega arith in e)) later)
      where
        miss : (b : Bool) (place : ℕ) → nat_eq first.key (from + suc place) ≡ b → nat_eq first.key (from + suc place) ≡ false
        miss false place is = is
        miss true place is = let k = eqb-true _ _ is in let p = in_place 0 first refl in absurd (omega arith)

        by_first : (b : Bool) → test first.object ≡ b → (b || list_any (λ entry. test entry.object) rest) ≡ true →
            (list_any (λ entry. test entry.object) rest ≡ true → (place : ℕ) × (object : Object) × (object_at rest (suc from + place) ≡ Some object) × (test object ≡ true)) →
            (place : ℕ) × (object : Object) × (object_at (first ∷ rest) (from + place) ≡ Some object) × (test object ≡ true)
        by_first true passes some later = (0, first.object, ap (λ (b : Bool). if b then Some first.object else object_at rest (from + 0)) (eq-eqb first.key (from + 0) (in_place 0 first refl)), passes)
        by_first false fails some later =
            let found = later some in (
              suc found.0,
              found.1,
              ap (λ (b : Bool). if b then Some first.object else object_at rest (from + suc found.0)) (miss (nat_eq first.key (from + suc found.0)) found.0 refl)
                  ∙ ap (object_at rest) (let e : from + suc found.0 ≡ suc from + found.0 = omega arith in e) ∙ found.2,
              found.3,
            )

-- a region of an object, with a range of so many bytes
pub record IsRoomyRegion (parts : Parts) (count : ℕ) : Type 0 where
  pub key : ℕ
  pub object : Object
  pub stands : object_at parts.objects key ≡ Some object
  pub live : object.live ≡ true
  pub region : object.shape ≡ RegionShape
  pub room : count ≤ object.size

pub roomy_region : (parts : Parts) (count : ℕ) → IsGraph parts → list_any (λ entry. entry.object.live && (is_region entry.object.shape && nat_le count entry.object.size)) parts.objects ≡ true → IsRoomyRegion parts count
roomy_region parts count graph some =
    let found = object_of parts graph (λ object. object.live && (is_region object.shape && nat_le count object.size)) some in
    let roomy = and_right found.object.live (is_region found.object.shape && nat_le count found.object.size) found.passes in
    record {
      key = found.key;
      object = found.object;
      stands = found.stands;
      live = and_left found.object.live (is_region found.object.shape && nat_le count found.object.size) found.passes;
      region = region_only found.object.shape (and_left (is_region found.object.shape) (nat_le count found.object.size) roomy);
      room = leb-true _ _ (and_right (is_region found.object.shape) (nat_le count found.object.size) roomy);
    }
  where
    region_only : (shape : Shape) → is_region shape ≡ true → shape ≡ RegionShape
    region_only RegionShape is = refl
    region_only (Segment twofold head next prev back least next_value prev_value node) is = absurd (false≢true is)
