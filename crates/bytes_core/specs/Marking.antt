-- How the live blocks that chains lead to are found: each is marked once, at its place among the live ones, and looked
-- through once.
use Rattle.std.specs.Prelude.{◌≡◌, ℕ, ◌+◌, ◌<◌, Bool, true, false, ◌&&◌, ◌||◌, not, List, [], ◌∷◌, ◌++◌, length, take, slice_get, slice_set, slice_index_or, Contains, Option, None, Some, ◌⊎◌, if◌then◌else◌}
use Rattle.std.specs.List.{fold}
use Rattle.std.specs.Option.{option_to_list}
use Rattle.bytes_core.specs.declared.byte.Byte.{Byte}
use Rattle.bytes_core.specs.declared.byte.Byte.TheVariants.{Num, Part}
use Rattle.bytes_core.specs.declared.block.Block.{Block}
use Rattle.bytes_core.specs.Value.{are_parts}
use Rattle.bytes_core.specs.Release.{is_heap}
use Rattle.bytes_core.specs.Living.{places_of}

-- the block to which the whole pointer leads that stands in front of the bytes, if one does
abbrev pub front_target : List Byte → Option ℕ
front_target [] = None
front_target (Num number ∷ rest) = None
front_target (Part block offset k ∷ rest) =
    if are_parts block offset 0 (take 8 (Part block offset k ∷ rest)) then Some block else None

-- the blocks to which whole pointers in the bytes lead, in the order of these pointers
abbrev pub targets : List Byte → List ℕ
targets [] = []
targets (byte ∷ rest) = option_to_list (front_target (byte ∷ rest)) ++ targets rest

-- the blocks to which a block leads on: a dead one leads to none
abbrev pub block_targets : Option Block → List ℕ
block_targets None = []
block_targets (Some block) = if block.live then targets block.bytes else []

-- the blocks to which the block of a number leads on
abbrev pub number_targets : List Block → Option ℕ → List ℕ
number_targets memory None = []
number_targets memory (Some number) = block_targets (slice_get memory number)

-- the places of the live blocks to which the one at a place leads on
abbrev pub place_targets : List Block → List ℕ → List ℕ → ℕ → List ℕ
place_targets memory numbers places place = places_of numbers places (number_targets memory (slice_get numbers place))

-- for each place whether it is marked, and which marked places are still to be looked through
pub record Marking : Type 0 where
  pub marks : List Bool
  pub waiting : List ℕ

abbrev pub marking : List Bool → List ℕ → Marking
marking marks waiting = record { marks = marks; waiting = waiting }

-- whether a place is marked
abbrev pub is_marked : List Bool → ℕ → Bool
is_marked marks place = slice_index_or marks place false

-- whether there is a place of this number that is not marked
abbrev pub is_open : List Bool → ℕ → Bool
is_open marks place = not (slice_index_or marks place true)

-- a place is marked, and waits, where it was not marked before
unfoldable pub with_mark : Marking → ℕ → Marking
with_mark state place =
    if is_open state.marks place then marking (slice_set state.marks place true) (state.waiting ++ place ∷ []) else state

-- places are marked, one behind the other
abbrev pub with_marks : Marking → List ℕ → Marking
with_marks state places = fold with_mark state places

-- a way from the first places to a place, from each to one to which it leads on
pub data Way (first : List ℕ) (next : ℕ → List ℕ) : ℕ → Type 0 where
  Begin : (place : ℕ) → Contains first place → Way first next place
  Onward : (from place : ℕ) → Way first next from → Contains (next from) place → Way first next place

-- a way leads to each place that is marked; the first places are marked; each place to which a marked one leads on is
-- marked, or the marked one waits
pub record AreMarks (count : ℕ) (first : List ℕ) (next : ℕ → List ℕ) (state : Marking) : Type 0 where
  pub size : length state.marks ≡ count
  pub reached : (place : ℕ) → is_marked state.marks place ≡ true → Way first next place
  pub begun : (place : ℕ) → Contains first place → place < count → is_marked state.marks place ≡ true
  pub marked : (place : ℕ) → Contains state.waiting place → is_marked state.marks place ≡ true
  pub followed : (from place : ℕ) → is_marked state.marks from ≡ true → Contains (next from) place → place < count →
      (is_marked state.marks place ≡ true) ⊎ Contains state.waiting from

-- whether a block is allocated
abbrev pub is_heap_block : Option Block → Bool
is_heap_block None = false
is_heap_block (Some block) = is_heap block.kind

-- whether some heap block among those of these numbers is not marked; the first has this place
abbrev pub some_unmarked : List Block → List Bool → ℕ → List ℕ → Bool
some_unmarked memory marks place [] = false
some_unmarked memory marks place (number ∷ rest) =
    (is_heap_block (slice_get memory number) && is_open marks place) || some_unmarked memory marks (place + 1) rest
