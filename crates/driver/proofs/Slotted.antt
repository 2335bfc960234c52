-- Where the kept entries stand that may cover a graph.
use Rattle.std.proofs.Common.{◌≡◌, ℕ, zero, suc, ◌<◌, ◌-◌, List, [], ◌∷◌, map, Bool, true, false, Option, None, Some, refl, sym, ap, subst, ◌∙◌, arith}
use Rattle.std.specs.Prelude.{slice_get, if◌then◌else◌}
use Rattle.std.proofs.lemmas.Bool.{false≢true}
use Rattle.std.proofs.lemmas.Option.{none-some, same_Some}
use Rattle.graph.specs.declared.parts.Parts.{Parts}
use Rattle.cover.specs.Cells.{constant_cells, fingerprint}
use Rattle.cover.specs.Covers.{Covers}
use Rattle.cover.specs.Quick.{live_count}
use Rattle.cover.proofs.Celled.{has_fingerprint, same_fingerprint}
use Rattle.cover.proofs.Counting.{covers_count}
use Rattle.trail.specs.declared.trail.Entry.{Entry}
use Rattle.trail.specs.Trail.{At}
use Rattle.driver.specs.declared.mask.Mask.{Mask}
use Rattle.driver.specs.Linked.{HasKey}
use Rattle.driver.specs.Looping.{point_in, point_of}
use Rattle.driver.specs.Peers.{IsKeptAt, HasMask, mask_key, AreMasked, slot_of, print_in, slot_in, slot_key, IsCountOf, AreCounted, TellsCover, TellsPeer, IsCoveredAt, IsUncovered, IsNoPeer, IsNoneInSlot, LooksInSlot, IsNoneOfMask, LooksByMask, IsWalked}

-- an item with a key is a kept entry
pub record IsSlotted (trail : List Entry) (count slot number : ℕ) : Type 0 where
  pub entry : Entry
  pub there : At trail number entry
  pub kept : entry.kept ≡ true

pub slotted_at : (trail : List Entry) (count slot number : ℕ) → HasKey (map (slot_key count) trail) slot number → IsSlotted trail count slot number
slotted_at [] count slot number has = absurd (none-some slot has)
slotted_at (first ∷ rest) count slot zero has = by_kept first.kept refl has
  where
    by_kept : (b : Bool) → first.kept ≡ b → (if b then Some (slot_in count first.point first.graph) else None) ≡ Some slot → IsSlotted (first ∷ rest) count slot zero
    by_kept true kept is = record { entry = first; there = refl; kept = kept }
    by_kept false kept is = absurd (none-some slot is)
slotted_at (first ∷ rest) count slot (suc number) has =
    let later = slotted_at rest count slot number has in
    record { entry = later.entry; there = later.there; kept = later.kept }

-- and a kept entry has its slot as its key
pub slot_there : (trail : List Entry) (count number : ℕ) (entry : Entry) → At trail number entry → entry.kept ≡ true → HasKey (map (slot_key count) trail) (slot_in count entry.point entry.graph) number
slot_there [] count number entry there kept = absurd (none-some entry there)
slot_there (first ∷ rest) count zero entry there kept = subst (λ (e : Entry). slot_key count e ≡ Some (slot_in count entry.point entry.graph)) (sym (same_Some _ _ there))
    (ap (λ (b : Bool). if b then Some (slot_in count entry.point entry.graph) else None) kept)
slot_there (first ∷ rest) count (suc number) entry there kept = slot_there rest count number entry there kept

mask_there : (masks : List Mask) (number : ℕ) (mask : Mask) → slice_get masks number ≡ Some mask → HasKey (map mask_key masks) mask.point number
mask_there [] number mask there = absurd (none-some mask there)
mask_there (first ∷ rest) zero mask there = ap mask_key (same_Some _ _ there)
mask_there (first ∷ rest) (suc number) mask there = mask_there rest number mask there

-- the point of an entry
point_there : (trail : List Entry) (number : ℕ) (entry : Entry) → At trail number entry → point_of trail number ≡ entry.point
point_there trail number entry there = ap point_in there

pub other_point : (trail slice : List Entry) (number point found : ℕ) (graph : Parts) → slice ≡ trail → found ≡ point_of slice number → (found ≡ point → ⊥) → TellsPeer trail point number graph false
other_point trail slice number point found graph same is differs entry there = (
  λ no. absurd (false≢true no),
  λ both. absurd (differs (is ∙ (ap (λ (t : List Entry). point_of t number) same ∙ (point_there trail number entry there ∙ both.0)))),
)

pub same_point : (trail slice : List Entry) (number point found : ℕ) (graph : Parts) (covers : Bool) → slice ≡ trail → found ≡ point_of slice number → found ≡ point → TellsCover trail number graph covers →
    TellsPeer trail point number graph covers
same_point trail slice number point found graph covers same is equal tells entry there = (
  λ yes_. (sym (point_there trail number entry there) ∙ (sym (is ∙ ap (λ (t : List Entry). point_of t number) same) ∙ equal), (tells entry there).0 yes_),
  λ both. (tells entry there).1 both.1,
)

-- in a slot
pub peer_found : (trail : List Entry) (count slot point : ℕ) (graph : Parts) (mark : ℕ) (covers : Bool) → IsWalked (map (slot_key count) trail) slot (IsNoPeer trail point graph) mark → 0 < mark →
    TellsPeer trail point (mark - 1) graph covers → covers ≡ true → IsCoveredAt trail point graph
peer_found trail count slot point graph mark covers walked some tells is_true =
    let here = slotted_at trail count slot (mark - 1) (walked.there (mark - 1) (omega arith)) in
    let both = (tells here.entry here.there).0 is_true in
    record { number = mark - 1; peer = record { entry = here.entry; there = here.there; kept = here.kept; point_is = both.0 }; covers = both.1 }

pub peer_fails : (trail : List Entry) (point number : ℕ) (graph : Parts) (covers : Bool) → TellsPeer trail point number graph covers → covers ≡ false → IsNoPeer trail point graph number
peer_fails trail point number graph covers tells is_false entry there point_is covers_is = false≢true (sym is_false ∙ (tells entry there).1 (point_is, covers_is))

pub slot_last : (trail : List Entry) (count slot point : ℕ) (graph : Parts) (mark : ℕ) → IsWalked (map (slot_key count) trail) slot (IsNoPeer trail point graph) mark → mark ≡ 0 →
    IsNoneInSlot trail count slot point graph
slot_last trail count slot point graph mark walked is = record { none = λ number has. walked.none number (omega (arith, is)) has }

-- of a mask
pub no_mask : (trail : List Entry) (masks : List Mask) (point : ℕ) (graph : Parts) (which : ℕ) → slice_get masks which ≡ None → IsNoneOfMask trail masks point graph which
no_mask trail masks point graph which none = record { none = λ mask stands number peer cells covers. none-some mask (sym none ∙ stands) }

module _ (trail : List Entry) (masks : List Mask) (counts : List ℕ) (point : ℕ) (graph : Parts) (which live : ℕ) (mask : Mask) (counted : AreCounted trail counts) (its : IsCountOf graph live)
    (stands : slice_get masks which ≡ Some mask) where
  own-print : (other : Mask) → slice_get masks which ≡ Some other → (number : ℕ) (peer : IsKeptAt trail point number) → constant_cells peer.entry.graph ≡ other.cells → Covers peer.entry.graph graph →
      fingerprint peer.entry.graph (constant_cells peer.entry.graph) ≡ fingerprint graph mask.cells
  own-print other other_stands number peer cells covers =
      let each = counted.each number peer.entry peer.there in
      let same : other ≡ mask = same_Some _ _ (sym other_stands ∙ stands) in
      sym (same_fingerprint peer.entry.graph graph each.graph_is its.graph_is covers) ∙ ap (fingerprint graph) (cells ∙ ap (λ (m : Mask). m.cells) same)

  pub no_print : fingerprint graph mask.cells ≡ None → IsNoneOfMask trail masks point graph which
  no_print none = record {
    none = λ other other_stands number peer cells covers.
        has_fingerprint peer.entry.graph (counted.each number peer.entry peer.there).graph_is (own-print other other_stands number peer cells covers ∙ none);
  }

  pub no_slot : (count print slot : ℕ) → fingerprint graph mask.cells ≡ Some print → slot ≡ slot_of count point live print → IsNoneInSlot trail count slot point graph → IsNoneOfMask trail masks point graph which
  no_slot count print slot print_is slot_is none_in = record {
    none = λ other other_stands number peer cells covers.
        let each = counted.each number peer.entry peer.there in
        let count_is : live_count peer.entry.graph ≡ live = covers_count peer.entry.graph graph each.graph_is its.graph_is covers ∙ sym its.count_is in
        let its_slot : slot_in count peer.entry.point peer.entry.graph ≡ slot =
        ap (λ (n : ℕ). slot_of count n (live_count peer.entry.graph) (print_in (fingerprint peer.entry.graph (constant_cells peer.entry.graph)))) peer.point_is
        ∙ (ap (λ (n : ℕ). slot_of count point n (print_in (fingerprint peer.entry.graph (constant_cells peer.entry.graph)))) count_is
        ∙ (ap (λ (found : Option ℕ). slot_of count point live (print_in found)) (own-print other other_stands number peer cells covers ∙ print_is) ∙ sym slot_is)) in
        none_in.none number (subst (λ (s : ℕ). HasKey (map (slot_key count) trail) s number) its_slot (slot_there trail count number peer.entry peer.there peer.kept)) peer.entry peer.there peer.point_is covers;
  }

-- of all masks of the point
pub masks_last : (trail : List Entry) (masks : List Mask) (point : ℕ) (graph : Parts) (mark : ℕ) → AreMasked trail masks → IsWalked (map mask_key masks) point (IsNoneOfMask trail masks point graph) mark →
    mark ≡ 0 → IsUncovered trail point graph 0
masks_last trail masks point graph mark masked walked is = record {
  none = λ number from peer covers.
      let has : HasMask masks peer.entry.point (constant_cells peer.entry.graph) = masked.each number peer.entry peer.there peer.kept in
      (walked.none has.number (omega (arith, is)) (subst (λ (p : ℕ). HasKey (map mask_key masks) p has.number) (has.point_is ∙ peer.point_is) (mask_there masks has.number has.mask has.stands))).none
      has.mask has.stands number peer (sym has.cells_are) covers;
}

-- the same as the code has it
pub mask_told : (trail : List Entry) (masks : List Mask) (counts : List ℕ) (point : ℕ) (graph : Parts) (which live : ℕ) (mask : Mask) → AreCounted trail counts → IsCountOf graph live → slice_get masks which ≡ Some mask →
    (count print slot : ℕ) → fingerprint graph mask.cells ≡ Some print → slot ≡ slot_of count point live print → (found : Bool) → LooksInSlot trail count slot point graph found → LooksByMask trail masks point graph which found
mask_told trail masks counts point graph which live mask counted its stands count print slot print_is slot_is true looks = looks
mask_told trail masks counts point graph which live mask counted its stands count print slot print_is slot_is false looks =
    no_slot trail masks counts point graph which live mask counted its stands count print slot print_is slot_is looks

pub mask_fails : (trail : List Entry) (masks : List Mask) (point : ℕ) (graph : Parts) (which : ℕ) (found : Bool) → LooksByMask trail masks point graph which found → found ≡ false →
    IsNoneOfMask trail masks point graph which
mask_fails trail masks point graph which found looks is = subst (λ (b : Bool). LooksByMask trail masks point graph which b) is looks

pub mask_covers : (trail : List Entry) (masks : List Mask) (point : ℕ) (graph : Parts) (which : ℕ) (found : Bool) → LooksByMask trail masks point graph which found → found ≡ true → IsCoveredAt trail point graph
mask_covers trail masks point graph which found looks is = subst (λ (b : Bool). LooksByMask trail masks point graph which b) is looks
