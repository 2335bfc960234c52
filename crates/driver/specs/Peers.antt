-- The kept entries of a point, and where those are looked for that may cover a graph.
--
-- A kept entry stands in a slot by its point, by how many objects live in its graph and by its graph's fingerprint at the cells in which its graph holds constants. Which
-- cells occur at a point is kept apart, each list of cells once: a mask. What covers a graph has a mask of the point, as many live objects, and the same fingerprint at the
-- cells of its mask; so it stands in one of as many slots as the point has masks.
use Rattle.std.specs.Prelude.{◌≡◌, ℕ, suc, ◌+◌, ◌*◌, ◌%◌, ◌<◌, ◌≤◌, ◌↔◌, List, map, Bool, true, false, if◌then◌else◌, Option, None, Some, length, slice_get, slice_index_or}
use Rattle.graph.specs.declared.parts.Parts.{Parts}
use Rattle.graph.specs.Whole.{IsGraph}
use Rattle.cover.specs.declared.cells.Cell.{Cell}
use Rattle.cover.specs.Cells.{constant_cells, fingerprint}
use Rattle.cover.specs.Covers.{Covers}
use Rattle.cover.specs.Quick.{live_count}
use Rattle.trail.specs.declared.trail.Entry.{Entry}
use Rattle.trail.specs.Trail.{At}
use Rattle.driver.specs.declared.mask.Mask.{Mask}
use Rattle.driver.specs.declared.mask.Masks.{Masks}
use Rattle.driver.specs.Linked.{HasKey, AreLinked}

-- the entry of a number is kept and stands at the point
pub record IsKeptAt (trail : List Entry) (point number : ℕ) : Type 0 where
  pub entry : Entry
  pub there : At trail number entry
  pub kept : entry.kept ≡ true
  pub point_is : entry.point ≡ point

-- Masks.

-- a mask of a point has these cells
pub record HasMask (masks : List Mask) (point : ℕ) (cells : List Cell) : Type 0 where
  pub number : ℕ
  pub mask : Mask
  pub stands : slice_get masks number ≡ Some mask
  pub point_is : mask.point ≡ point
  pub cells_are : mask.cells ≡ cells

abbrev pub mask_key : Mask → Option ℕ
mask_key mask = Some mask.point

-- the cells of each kept entry are those of a mask of its point
pub record AreMasked (trail : List Entry) (masks : List Mask) : Type 0 where
  pub each : (number : ℕ) (entry : Entry) → At trail number entry → entry.kept ≡ true → HasMask masks entry.point (constant_cells entry.graph)

-- Slots.

-- the slot among so many of a point, a count of live objects and a fingerprint
abbrev pub slot_of : ℕ → ℕ → ℕ → ℕ → ℕ
slot_of count point live print = (print + point * 7919 + live * 104729) % count

abbrev pub print_in : Option ℕ → ℕ
print_in None = 0
print_in (Some print) = print

abbrev pub slot_in : ℕ → ℕ → Parts → ℕ
slot_in count point graph = slot_of count point (live_count graph) (print_in (fingerprint graph (constant_cells graph)))

-- a kept entry has a slot
abbrev pub slot_key : ℕ → Entry → Option ℕ
slot_key count entry = if entry.kept then Some (slot_in count entry.point entry.graph) else None

-- the masks are linked by point, and the kept entries by slot
pub record ArePeers (trail : List Entry) (masks : Masks) (slots earlier : List ℕ) : Type 0 where
  pub masked : AreMasked trail masks.items
  pub by_point : AreLinked (map mask_key masks.items) masks.newest.items masks.before.items
  pub by_slot : AreLinked (map (slot_key (length slots)) trail) slots earlier
  pub some : 0 < length slots

-- a mask of the point has these cells, and the others stay
pub record PutsMask (before after : Masks) (point : ℕ) (cells : List Cell) : Type 0 where
  pub keeps : (number : ℕ) (mask : Mask) → slice_get before.items number ≡ Some mask → slice_get after.items number ≡ Some mask
  pub has : HasMask after.items point cells
  pub by_point : AreLinked (map mask_key after.items) after.newest.items after.before.items
  pub points : length after.newest.items ≡ length before.newest.items

-- Counts.

-- so many objects live in a graph
pub record IsCountOf (graph : Parts) (count : ℕ) : Type 0 where
  pub graph_is : IsGraph graph
  pub count_is : count ≡ live_count graph

-- each entry has the number of objects that live in its graph
pub record AreCounted (trail : List Entry) (counts : List ℕ) : Type 0 where
  pub each : (number : ℕ) (entry : Entry) → At trail number entry → IsCountOf entry.graph (slice_index_or counts number 0)
  pub long : length counts ≡ length trail

-- Looking up.

-- an entry covers a graph
abbrev pub TellsCover : List Entry → ℕ → Parts → Bool → Type 0
TellsCover trail number graph covers = (entry : Entry) → At trail number entry → (covers ≡ true) ↔ Covers entry.graph graph

-- an entry stands at the point and covers a graph
abbrev pub TellsPeer : List Entry → ℕ → ℕ → Parts → Bool → Type 0
TellsPeer trail point number graph covers = (entry : Entry) → At trail number entry → (covers ≡ true) ↔ ((entry.point ≡ point) × Covers entry.graph graph)

-- a kept entry at the point covers a graph
pub record IsCoveredAt (trail : List Entry) (point : ℕ) (graph : Parts) : Type 0 where
  pub number : ℕ
  pub peer : IsKeptAt trail point number
  pub covers : Covers peer.entry.graph graph

-- and none does from a number on
pub record IsUncovered (trail : List Entry) (point : ℕ) (graph : Parts) (from : ℕ) : Type 0 where
  pub none : (number : ℕ) → from ≤ number → (peer : IsKeptAt trail point number) → Covers peer.entry.graph graph → ⊥

abbrev pub LooksUp : List Entry → ℕ → Parts → Bool → Type 0
LooksUp trail point graph true = IsCoveredAt trail point graph
LooksUp trail point graph false = IsUncovered trail point graph 0

-- the entry of a number does not cover
abbrev pub IsNoPeer : List Entry → ℕ → Parts → ℕ → Type 0
IsNoPeer trail point graph number = (entry : Entry) → At trail number entry → entry.point ≡ point → Covers entry.graph graph → ⊥

-- nor does any entry in a slot
pub record IsNoneInSlot (trail : List Entry) (count slot point : ℕ) (graph : Parts) : Type 0 where
  pub none : (number : ℕ) → HasKey (map (slot_key count) trail) slot number → IsNoPeer trail point graph number

abbrev pub LooksInSlot : List Entry → ℕ → ℕ → ℕ → Parts → Bool → Type 0
LooksInSlot trail count slot point graph true = IsCoveredAt trail point graph
LooksInSlot trail count slot point graph false = IsNoneInSlot trail count slot point graph

-- nor does any kept entry with the cells of the mask of a number
pub record IsNoneOfMask (trail : List Entry) (masks : List Mask) (point : ℕ) (graph : Parts) (which : ℕ) : Type 0 where
  pub none : (mask : Mask) → slice_get masks which ≡ Some mask → (number : ℕ) → (peer : IsKeptAt trail point number) → constant_cells peer.entry.graph ≡ mask.cells → Covers peer.entry.graph graph → ⊥

abbrev pub LooksByMask : List Entry → List Mask → ℕ → Parts → ℕ → Bool → Type 0
LooksByMask trail masks point graph which true = IsCoveredAt trail point graph
LooksByMask trail masks point graph which false = IsNoneOfMask trail masks point graph which

-- from a mark on each item with the key fails, and the mark is of such an item
pub record IsWalked (keys : List (Option ℕ)) (key : ℕ) (Fails : ℕ → Type 0) (mark : ℕ) : Type 0 where
  pub none : (number : ℕ) → mark ≤ number → HasKey keys key number → Fails number
  pub there : (number : ℕ) → mark ≡ suc number → HasKey keys key number
