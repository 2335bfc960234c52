-- What a new entry makes of what is known.
use Rattle.std.proofs.Common.{◌≡◌, ℕ, zero, suc, ◌<◌, ◌≤◌, ◌+◌, List, [], ◌∷◌, ◌++◌, map, Bool, true, false, Option, None, refl, sym, ap, subst, ◌∙◌, inl, inr, Some, length, length-append, get_or, set, replicate, arith}
use Rattle.std.specs.Prelude.{filter, slice_get, if◌then◌else◌}
use Rattle.std.proofs.lemmas.Bool.{false≢true}
use Rattle.std.proofs.lemmas.List.{length-map, length-replicate, length-set}
use Rattle.std.proofs.lemmas.List.Elements.{filter-append}
use Rattle.std.proofs.lemmas.Option.{none-some}
use Rattle.graph.specs.declared.parts.Parts.{Parts}
use Rattle.graph.specs.Whole.{IsGraph}
use Rattle.cover.specs.declared.cells.Cell.{Cell}
use Rattle.cover.specs.Cells.{constant_cells, fingerprint}
use Rattle.cover.specs.Quick.{live_count}
use Rattle.flow.specs.declared.flow_graph.Flow.{Flow}
use Rattle.trail.specs.declared.trail.Cause.{Cause}
use Rattle.trail.specs.declared.trail.Entry.{Entry}
use Rattle.trail.specs.Work.{candidate}
use Rattle.trail.proofs.Grow.{at_either}
use Rattle.driver.specs.declared.verdict.Limits.{Limits}
use Rattle.driver.specs.declared.work.Work.{Work}
use Rattle.driver.specs.declared.mask.Mask.{Mask}
use Rattle.driver.specs.declared.mask.Masks.{Masks}
use Rattle.driver.specs.Linked.{AreLinked}
use Rattle.driver.specs.Looping.{IsNothingKnown}
use Rattle.driver.specs.Peers.{HasMask, mask_key, AreMasked, slot_of, print_in, slot_in, slot_key, ArePeers, PutsMask}
use Rattle.driver.specs.Growing.{kept_count, IsBooked, IsPutIn, IsUnkept}
use Rattle.driver.proofs.Counted.{counted_there, counted_nothing}
use Rattle.driver.proofs.Linking.{linked_more, linked_none, linked_nothing}

pub count_more : (trail : List Entry) (new : Entry) → kept_count (trail ++ new ∷ []) ≡ kept_count trail + kept_count (new ∷ [])
count_more trail new = ap (λ (entries : List Entry). length entries) (filter-append (λ entry. entry.kept) trail (new ∷ [])) ∙
    length-append (filter (λ entry. entry.kept) trail) (filter (λ entry. entry.kept) (new ∷ []))

-- a mask more or not, and an entry more
masked_more : (trail : List Entry) (new : Entry) (before after : Masks) (cells : List Cell) → AreMasked trail before.items → PutsMask before after new.point cells → cells ≡ constant_cells new.graph →
    AreMasked (trail ++ new ∷ []) after.items
masked_more trail new before after cells masked puts cells_are = record {
  each = λ number entry there kept. elim (at_either trail new entry number there) [
    | inl (less, old) ↦
        let has : HasMask before.items entry.point (constant_cells entry.graph) = masked.each number entry old kept in
        record { number = has.number; mask = has.mask; stands = puts.keeps has.number has.mask has.stands; point_is = has.point_is; cells_are = has.cells_are }
    | inr (last, one) ↦ subst (λ (e : Entry). HasMask after.items e.point (constant_cells e.graph)) one (subst (λ (cs : List Cell). HasMask after.items new.point cs) cells_are puts.has)
  ];
}

masked_on : (trail : List Entry) (new : Entry) (masks : List Mask) → AreMasked trail masks → new.kept ≡ false → AreMasked (trail ++ new ∷ []) masks
masked_on trail new masks masked not_kept = record {
  each = λ number entry there kept. elim (at_either trail new entry number there) [
    | inl (less, old) ↦ masked.each number entry old kept
    | inr (last, one) ↦ absurd (false≢true (sym not_kept ∙ (ap (λ (e : Entry). e.kept) one ∙ kept)))
  ];
}

keys_more : (count : ℕ) (trail : List Entry) (new : Entry) → map (slot_key count) (trail ++ new ∷ []) ≡ map (slot_key count) trail ++ slot_key count new ∷ []
keys_more count [] new = refl
keys_more count (first ∷ rest) new = ap (λ (keys : List (Option ℕ)). slot_key count first ∷ keys) (keys_more count rest new)

pub peers_kept : (trail : List Entry) (new : Entry) (before after : Masks) (slots earlier : List ℕ) (slot : ℕ) (cells : List Cell) → ArePeers trail before slots earlier → new.kept ≡ true →
    PutsMask before after new.point cells → cells ≡ constant_cells new.graph → slot ≡ slot_in (length slots) new.point new.graph → slot < length slots →
    ArePeers (trail ++ new ∷ []) after (set slots slot (length trail + 1)) (earlier ++ get_or slots slot 0 ∷ [])
peers_kept trail new before after slots earlier slot cells peers kept puts cells_are slot_is within = record {
  masked = masked_more trail new before after cells peers.masked puts cells_are;
  by_point = puts.by_point;
  by_slot = subst (λ (count : ℕ). AreLinked (map (slot_key count) (trail ++ new ∷ [])) (set slots slot (length trail + 1)) (earlier ++ get_or slots slot 0 ∷ [])) (sym (length-set slots slot (length trail + 1)))
      (subst (λ (keys : List (Option ℕ)). AreLinked keys (set slots slot (length trail + 1)) (earlier ++ get_or slots slot 0 ∷ [])) (sym (keys_more (length slots) trail new ∙ ap (λ (key : Option ℕ). map (slot_key (length slots)) trail ++ key ∷ []) key_is))
      (subst (λ (count : ℕ). AreLinked (map (slot_key (length slots)) trail ++ Some slot ∷ []) (set slots slot (count + 1)) (earlier ++ get_or slots slot 0 ∷ [])) (length-map trail (slot_key (length slots)))
      (linked_more (map (slot_key (length slots)) trail) slots earlier slot peers.by_slot within)));
  some = let long : length (set slots slot (length trail + 1)) ≡ length slots = length-set slots slot (length trail + 1) in
      let some : 0 < length slots = peers.some in subst (λ (n : ℕ). 0 < n) (sym long) some;
}
  where
    key_is : slot_key (length slots) new ≡ Some slot
    key_is = ap (λ (b : Bool). if b then Some (slot_in (length slots) new.point new.graph) else None) kept ∙ ap Some (sym slot_is)

pub peers_covered : (trail : List Entry) (new : Entry) (masks : Masks) (slots earlier : List ℕ) → ArePeers trail masks slots earlier → new.kept ≡ false → ArePeers (trail ++ new ∷ []) masks slots (earlier ++ 0 ∷ [])
peers_covered trail new masks slots earlier peers not_kept = record {
  masked = masked_on trail new masks.items peers.masked not_kept;
  by_point = peers.by_point;
  by_slot = subst (λ (keys : List (Option ℕ)). AreLinked keys slots (earlier ++ 0 ∷ [])) (sym (keys_more (length slots) trail new ∙ ap (λ (key : Option ℕ). map (slot_key (length slots)) trail ++ key ∷ []) key_is))
      (linked_none (map (slot_key (length slots)) trail) slots earlier peers.by_slot);
  some = peers.some;
}
  where
    key_is : slot_key (length slots) new ≡ None
    key_is = ap (λ (b : Bool). if b then Some (slot_in (length slots) new.point new.graph) else None) not_kept

-- where a slot is asked for
pub slot_found : (count slot point live print : ℕ) (graph : Parts) (cells : List Cell) (found : Option ℕ) → slot ≡ slot_of count point live print → live ≡ live_count graph → print ≡ print_in found → found ≡ fingerprint graph cells →
    cells ≡ constant_cells graph → slot ≡ slot_in count point graph
slot_found count slot point live print graph cells found slot_is live_is print_is found_is cells_are =
    slot_is ∙ (ap (λ (n : ℕ). slot_of count point n print) live_is ∙ ap (λ (n : ℕ). slot_of count point (live_count graph) n) (print_is ∙ ap print_in (found_is ∙ ap (fingerprint graph) cells_are)))

pub kept_there : (budget : ℕ) (before after : Work) (point slot mark count : ℕ) (cells : List Cell) (cause : Cause) (graph : Parts) → IsGraph graph → IsBooked budget before →
    before.kept < budget → PutsMask before.masks after.masks point cells → cells ≡ constant_cells graph → slot ≡ slot_in (length before.slots.items) point graph → slot < length before.slots.items →
    after.trail ≡ before.trail ++ candidate point cause graph true ∷ [] → after.slots.items ≡ set before.slots.items slot (length before.trail + 1) → after.earlier.items ≡ before.earlier.items ++ mark ∷ [] →
    mark ≡ get_or before.slots.items slot 0 → after.counts.items ≡ before.counts.items ++ count ∷ [] → count ≡ live_count graph → after.kept ≡ before.kept + 1 → after.warnings ≡ before.warnings → after.next ≡ before.next → IsPutIn budget before after (candidate point cause graph true ∷ [])
kept_there budget before after point slot mark count cells cause graph graph_is booked room puts cells_are slot_is within trail_is slots_is earlier_is mark_is counts_are count_is kept_is warnings_are next_is = record {
  put = record {
    trail_is = trail_is;
    booked = record {
      peers = peers_there after.trail after.slots.items after.earlier.items trail_is slots_is (earlier_is ∙ ap (λ (m : ℕ). before.earlier.items ++ m ∷ []) mark_is);
      counts = counted_there before.trail after.trail before.counts.items after.counts.items (candidate point cause graph true) count booked.counts trail_is counts_are graph_is count_is;
      kept = kept_is ∙ (ap (λ (n : ℕ). n + 1) booked.kept ∙ (sym (count_more before.trail (candidate point cause graph true)) ∙ ap kept_count (sym trail_is)));
      within = omega (arith, kept_is);
    };
    points = puts.points;
    warnings = warnings_are;
  };
  next = next_is;
}
  where
    peers_there : (trail : List Entry) (slots marks : List ℕ) → trail ≡ before.trail ++ candidate point cause graph true ∷ [] → slots ≡ set before.slots.items slot (length before.trail + 1) →
        marks ≡ before.earlier.items ++ get_or before.slots.items slot 0 ∷ [] → ArePeers trail after.masks slots marks
    peers_there trail slots marks one two three =
        subst (λ (t : List Entry). ArePeers t after.masks slots marks) (sym one)
        (subst (λ (n : List ℕ). ArePeers (before.trail ++ candidate point cause graph true ∷ []) after.masks n marks) (sym two)
        (subst (λ (m : List ℕ). ArePeers (before.trail ++ candidate point cause graph true ∷ []) after.masks (set before.slots.items slot (length before.trail + 1)) m) (sym three)
        (peers_kept before.trail (candidate point cause graph true) before.masks after.masks before.slots.items before.earlier.items slot cells booked.peers refl puts cells_are slot_is within)))

pub unkept_there : (budget : ℕ) (before after : Work) (point count : ℕ) (cause : Cause) (graph : Parts) → IsGraph graph → IsBooked budget before →
    after.trail ≡ before.trail ++ candidate point cause graph false ∷ [] → after.masks ≡ before.masks → after.slots.items ≡ before.slots.items → after.earlier.items ≡ before.earlier.items ++ 0 ∷ [] →
    after.counts.items ≡ before.counts.items ++ count ∷ [] → count ≡ live_count graph → after.kept ≡ before.kept → after.warnings ≡ before.warnings → after.next ≡ before.next →
    IsUnkept budget before after (candidate point cause graph false ∷ [])
unkept_there budget before after point count cause graph graph_is booked trail_is masks_are slots_is earlier_is counts_are count_is kept_is warnings_are next_is = record {
  in_work = record {
    put = record {
      trail_is = trail_is;
      booked = record {
        peers = peers_there after.trail after.masks after.slots.items after.earlier.items trail_is masks_are slots_is earlier_is;
        counts = counted_there before.trail after.trail before.counts.items after.counts.items (candidate point cause graph false) count booked.counts trail_is counts_are graph_is count_is;
        kept = kept_is ∙ (booked.kept ∙ (none (kept_count before.trail) ∙ (sym (count_more before.trail (candidate point cause graph false)) ∙ ap kept_count (sym trail_is))));
        within = subst (λ (n : ℕ). n ≤ budget) (sym kept_is) booked.within;
      };
      points = ap (λ (masks : Masks). length masks.newest.items) masks_are;
      warnings = warnings_are;
    };
    next = next_is;
  };
  kept = kept_is;
}
  where
    none : (n : ℕ) → n ≡ n + 0
    none n = omega arith

    peers_there : (trail : List Entry) (masks : Masks) (slots marks : List ℕ) → trail ≡ before.trail ++ candidate point cause graph false ∷ [] → masks ≡ before.masks → slots ≡ before.slots.items →
        marks ≡ before.earlier.items ++ 0 ∷ [] → ArePeers trail masks slots marks
    peers_there trail masks slots marks one two three four =
        subst (λ (t : List Entry). ArePeers t masks slots marks) (sym one)
        (subst (λ (m : Masks). ArePeers (before.trail ++ candidate point cause graph false ∷ []) m slots marks) (sym two)
        (subst (λ (n : List ℕ). ArePeers (before.trail ++ candidate point cause graph false ∷ []) before.masks n marks) (sym three)
        (subst (λ (m : List ℕ). ArePeers (before.trail ++ candidate point cause graph false ∷ []) before.masks before.slots.items m) (sym four)
        (peers_covered before.trail (candidate point cause graph false) before.masks before.slots.items before.earlier.items booked.peers refl))))

-- nothing at all
pub nothing_booked : (budget points count : ℕ) (work : Work) → work.trail ≡ [] → work.masks.items ≡ [] → work.masks.newest.items ≡ replicate points 0 → work.masks.before.items ≡ [] →
    work.slots.items ≡ replicate count 0 → 0 < count → work.earlier.items ≡ [] → work.counts.items ≡ [] → work.kept ≡ 0 → IsBooked budget work
nothing_booked budget points count work trail_is masks_are newest_is before_is slots_is some earlier_is counts_are kept_is = record {
  peers = peers_there work.trail work.slots.items work.earlier.items trail_is slots_is earlier_is;
  counts = counted_nothing work.trail work.counts.items trail_is counts_are;
  kept = kept_is ∙ ap kept_count (sym trail_is);
  within = omega (arith, kept_is);
}
  where
    linked_there : (masks : List Mask) (newest before : List ℕ) → masks ≡ [] → newest ≡ replicate points 0 → before ≡ [] → AreLinked (map mask_key masks) newest before
    linked_there masks newest before one two three =
        subst (λ (ms : List Mask). AreLinked (map mask_key ms) newest before) (sym one)
        (subst (λ (n : List ℕ). AreLinked [] n before) (sym two)
        (subst (λ (b : List ℕ). AreLinked [] (replicate points 0) b) (sym three) (linked_nothing points)))

    slots_there : (slots earlier : List ℕ) → slots ≡ replicate count 0 → earlier ≡ [] → AreLinked [] slots earlier
    slots_there slots earlier one two =
        subst (λ (s : List ℕ). AreLinked [] s earlier) (sym one)
        (subst (λ (e : List ℕ). AreLinked [] (replicate count 0) e) (sym two) (linked_nothing count))

    peers_there : (trail : List Entry) (slots earlier : List ℕ) → trail ≡ [] → slots ≡ replicate count 0 → earlier ≡ [] → ArePeers trail work.masks slots earlier
    peers_there trail slots earlier one two three = subst (λ (t : List Entry). ArePeers t work.masks slots earlier) (sym one) (record {
      masked = record { each = λ number entry there. absurd (none-some entry there) };
      by_point = linked_there work.masks.items work.masks.newest.items work.masks.before.items masks_are newest_is before_is;
      by_slot = slots_there slots earlier two three;
      some = subst (λ (n : ℕ). 0 < n) (sym (ap (λ (s : List ℕ). length s) two ∙ length-replicate count 0)) some;
    })

pub nothing_there : (flow : Flow) (limits : Limits) (count : ℕ) (work : Work) → work.trail ≡ [] → work.masks.items ≡ [] → work.masks.newest.items ≡ replicate flow.points 0 → work.masks.before.items ≡ [] →
    work.slots.items ≡ replicate count 0 → 0 < count → work.earlier.items ≡ [] → work.counts.items ≡ [] → work.kept ≡ 0 → work.warnings ≡ [] → work.next ≡ None → IsNothingKnown flow limits work
nothing_there flow limits count work trail_is masks_are newest_is before_is slots_is some earlier_is counts_are kept_is warnings_are next_is = record {
  trail = trail_is;
  booked = nothing_booked limits.budget flow.points count work trail_is masks_are newest_is before_is slots_is some earlier_is counts_are kept_is;
  points = ap (λ (n : List ℕ). length n) newest_is ∙ length-replicate flow.points 0;
  kept = kept_is;
  warnings = warnings_are;
  next = next_is;
}

-- a mask
pub mask_added : (before after : Masks) (point mark : ℕ) (cells : List Cell) → AreLinked (map mask_key before.items) before.newest.items before.before.items → point < length before.newest.items →
    after.items ≡ before.items ++ record { point = point; cells = cells } ∷ [] → after.newest.items ≡ set before.newest.items point (length before.items + 1) → after.before.items ≡ before.before.items ++ mark ∷ [] →
    mark ≡ get_or before.newest.items point 0 → PutsMask before after point cells
mask_added before after point mark cells linked within items_are newest_is before_is mark_is = record {
  keeps = λ number mask stands. subst (λ (ms : List Mask). slice_get ms number ≡ Some mask) (sym items_are) (stays before.items number mask stands);
  has = subst (λ (ms : List Mask). HasMask ms point cells) (sym items_are) (record { number = length before.items; mask = new; stands = last before.items; point_is = refl; cells_are = refl });
  by_point = linked_there after.items after.newest.items after.before.items items_are newest_is (before_is ∙ ap (λ (m : ℕ). before.before.items ++ m ∷ []) mark_is);
  points = ap (λ (n : List ℕ). length n) newest_is ∙ length-set before.newest.items point (length before.items + 1);
}
  where
    new : Mask
    new = record { point = point; cells = cells }

    last : (masks : List Mask) → slice_get (masks ++ new ∷ []) (length masks) ≡ Some new
    last [] = refl
    last (first ∷ rest) = last rest

    stays : (masks : List Mask) (number : ℕ) (mask : Mask) → slice_get masks number ≡ Some mask → slice_get (masks ++ new ∷ []) number ≡ Some mask
    stays [] number mask stands = absurd (none-some mask stands)
    stays (first ∷ rest) zero mask stands = stands
    stays (first ∷ rest) (suc number) mask stands = stays rest number mask stands

    mask_keys_more : (masks : List Mask) → map mask_key (masks ++ new ∷ []) ≡ map mask_key masks ++ Some point ∷ []
    mask_keys_more [] = refl
    mask_keys_more (first ∷ rest) = ap (λ (keys : List (Option ℕ)). mask_key first ∷ keys) (mask_keys_more rest)

    linked_there : (masks : List Mask) (newest marks : List ℕ) → masks ≡ before.items ++ new ∷ [] → newest ≡ set before.newest.items point (length before.items + 1) →
        marks ≡ before.before.items ++ get_or before.newest.items point 0 ∷ [] → AreLinked (map mask_key masks) newest marks
    linked_there masks newest marks one two three =
        subst (λ (ms : List Mask). AreLinked (map mask_key ms) newest marks) (sym one)
        (subst (λ (n : List ℕ). AreLinked (map mask_key (before.items ++ new ∷ [])) n marks) (sym two)
        (subst (λ (m : List ℕ). AreLinked (map mask_key (before.items ++ new ∷ [])) (set before.newest.items point (length before.items + 1)) m) (sym three)
        (subst (λ (keys : List (Option ℕ)). AreLinked keys (set before.newest.items point (length before.items + 1)) (before.before.items ++ get_or before.newest.items point 0 ∷ [])) (sym (mask_keys_more before.items))
        (subst (λ (count : ℕ). AreLinked (map mask_key before.items ++ Some point ∷ []) (set before.newest.items point (count + 1)) (before.before.items ++ get_or before.newest.items point 0 ∷ [])) (length-map before.items mask_key)
        (linked_more (map mask_key before.items) before.newest.items before.before.items point linked within)))))

pub mask_stays : (masks : Masks) (point : ℕ) (cells : List Cell) → AreLinked (map mask_key masks.items) masks.newest.items masks.before.items → HasMask masks.items point cells → PutsMask masks masks point cells
mask_stays masks point cells linked has = record { keeps = λ number mask stands. stands; has = has; by_point = linked; points = refl }
