-- Each fault that a copy through any word lists is met by some state, where there is place for it.
use Rattle.std.proofs.Common.{◌≡◌, ℕ, zero, suc, ◌+◌, ◌≤◌, Bool, true, false, not, ◌&&◌, [], ◌∷◌, length, ℤ, pos, negsuc, nat_lt, Option, None, Some, ◌⊎◌, inl, inr, refl, sym, ◌∙◌, ap, subst, eq-eqb, lt-ltb, arith}
use Rattle.std.specs.Prelude.{List, slice_get, Contains, if◌then◌else◌}
use Rattle.std.proofs.lemmas.Bool.{false≢true}
use Rattle.std.proofs.lemmas.Option.{same_Some}
use Rattle.bytes_core.specs.declared.byte.Byte.{Byte}
use Rattle.bytes_core.specs.declared.byte.Byte.TheVariants.{Num}
use Rattle.bytes_core.specs.declared.word.Word.{Word}
use Rattle.bytes_core.specs.declared.word.Word.TheVariants.{To}
use Rattle.bytes_core.specs.Access.{is_within, access_fault}
use Rattle.bytes_core.specs.Copying.{first_fault, share_byte, copy_fault}
use Rattle.bytes_core.specs.Fault.{access_outside_object, access_to_dead_object, overlapping_copy}
use Rattle.graph.specs.declared.object.Object.{Object}
use Rattle.graph.specs.declared.object.Shape.TheVariants.{Region as RegionShape}
use Rattle.graph.specs.declared.parts.KeyedObject.{KeyedObject}
use Rattle.graph.specs.declared.parts.Parts.{Parts}
use Rattle.graph.specs.declared.post.Post.{Post}
use Rattle.graph.specs.declared.value.Target.TheVariants.{Region}
use Rattle.graph.specs.declared.value.Value.{Value}
use Rattle.graph.specs.declared.value.Value.TheVariants.{Const, Number, Any, Address}
use Rattle.graph.specs.Choices.{IsChoice, IsMadeWith}
use Rattle.graph.specs.Maps.{object_at, value_at}
use Rattle.graph.specs.Nodes.{is_region}
use Rattle.graph.specs.State.{State, IsState}
use Rattle.graph.specs.Whole.{IsGraph}
use Rattle.graph.specs.Meaning.{block_word, first_of}
use Rattle.graph.proofs.Found.{IsSome-holds}
use Rattle.graph.proofs.OwnPlaces.{graph_numbered}
use Rattle.graph.proofs.Tests.{and_left, and_right}
use Rattle.graph.proofs.Witness.{chosen_state}
use Rattle.changes.specs.declared.reach.Reach.{Reach}
use Rattle.changes.specs.declared.reach.Reach.TheVariants as leads
use Rattle.changes.specs.Following.{SomeFaults}
use Rattle.changes.specs.Posted.{IsPost, on_reach, reach_faults}
use Rattle.changes.specs.Reaching.{number_kind, are_excluded, object_reach, value_reach, reach_of, is_address_held}
use Rattle.changes.proofs.Accesses.{all_kinds_met, no_fault}
use Rattle.changes.proofs.Appended.{found_within}
use Rattle.changes.proofs.NodeBack.{zero_has}
use Rattle.changes.proofs.Reached.{IsRoomAt, room_at}
use Rattle.changes.proofs.Region.{IsRegionBlock, region_block}
use Rattle.changes.proofs.Led.{room_reached}
use Rattle.range_steps.specs.AnyCopies.{HasPlaceToCopy, MeetsCopied}
use Rattle.range_steps.specs.Copies.{FaultsCopying}
use Rattle.range_steps.specs.Copying.{has_room, may_be_right, is_anywhere, may_overlap, copy_post}
use Rattle.range_steps.proofs.Between.{overlap_cases}
use Rattle.range_steps.proofs.CopyExact.{source_value, target_value}
use Rattle.range_steps.proofs.CopyMet.{source_key, target_key, met_by, MetFromAny, MetAtAny, rest, quiet, source_right, met_if, none_met}
use Rattle.range_steps.proofs.Roomy.{roomy_region}

abbrev zero_byte : ℕ → ℕ → Byte
zero_byte key place = Num 0

-- an address leads to no word that may be any
object_elsewhere : (found : Option Object) (key : ℕ) (offset : ℤ) (count : ℕ) → is_anywhere (object_reach found key offset count) ≡ false
object_elsewhere None key offset count = refl
object_elsewhere (Some object) key (pos from) count = by_tests object.live (is_within object.size (pos from) count)
  where
    by_tests : (b c : Bool) → is_anywhere (if b then (if c then leads.Room key from else leads.Fault access_outside_object) else leads.Fault access_to_dead_object) ≡ false
    by_tests false c = refl
    by_tests true false = refl
    by_tests true true = refl
object_elsewhere (Some object) key (negsuc before) count = by_life object.live
  where
    by_life : (b : Bool) → is_anywhere (if b then leads.Fault access_outside_object else leads.Fault access_to_dead_object) ≡ false
    by_life true = refl
    by_life false = refl

-- an access that leads anywhere is one through any word
any_of : (parts : Parts) (at count : ℕ) (live : Bool) → reach_of parts at count ≡ leads.Anything live → value_at parts.values at ≡ Some Any
any_of parts at count live reach = by_value (value_at parts.values at) refl reach
  where
    no : {A : Type 0} (r : Reach) → is_anywhere r ≡ false → r ≡ leads.Anything live → A
    no r elsewhere same = absurd (false≢true (sym elsewhere ∙ ap is_anywhere same))

    by_value : (found : Option Value) → value_at parts.values at ≡ found → value_reach parts at found count ≡ leads.Anything live → value_at parts.values at ≡ Some Any
    by_value None is reach = no leads.Nothing refl reach
    by_value (Some (Const number size)) is reach = no (leads.Fault (number_kind number)) refl reach
    by_value (Some (Number size)) is reach = no (leads.Number (not (are_excluded parts at 4096))) refl reach
    by_value (Some Any) is reach = is
    by_value (Some (Address object offset target)) is reach = no (object_reach (object_at parts.objects object) object offset count) (object_elsewhere (object_at parts.objects object) object offset count) reach

-- the value is the address of this byte, or may be any word
abbrev LeadsTo : Parts → ℕ → ℕ → ℕ → Type 0
LeadsTo parts value key start = (value_at parts.values value ≡ Some Any) ⊎ (value_at parts.values value ≡ Some (Address key (pos start) Region))

module _ (parts : Parts) (graph : IsGraph parts) (to from : ℕ) (disjoint : Bool) (to_address : is_address_held parts to ≡ true) (from_address : is_address_held parts from ≡ true) (more : ℕ) where
  abbrev count : ℕ
  count = suc more

  -- Where both lead to the same bytes of a region, in a state where each value that may be any word does, they overlap.
  module _ (key start : ℕ) (object : Object) (stands : object_at parts.objects key ≡ Some object) (live : object.live ≡ true) (region : object.shape ≡ RegionShape) (room : start + count ≤ object.size) where
    abbrev word : Word
    word = To key (pos start)

    choice : IsChoice parts (λ value. word) zero_byte
    choice = record {
      words = λ value is. record { small = tt; named = found_within (λ (entry : KeyedObject). entry.key) (λ entry. entry.object) parts.objects graph.keys.objects key (IsSome-holds _ _ stands) };
      bytes = λ key object place class stands found. zero_has class;
      names = λ key place. tt;
      small = λ key place. omega arith;
    }

    found : (state : State) × IsState state × IsMadeWith parts (λ value. word) zero_byte state
    found = subst (λ (g : Parts). (state : State) × IsState state × IsMadeWith g (λ value. word) zero_byte state) (graph_numbered parts graph)
        (chosen_state parts (λ value. word) zero_byte graph.ascending graph.well_formed graph.within_limits (subst (λ (g : Parts). IsChoice g (λ value. word) zero_byte) (sym (graph_numbered parts graph)) choice))

    abbrev state : State
    state = found.0

    abbrev made : IsMadeWith parts (λ value. word) zero_byte state
    made = found.2

    block : IsRegionBlock object state made.given key
    block = region_block parts state made.given key object made.meets stands live region

    blocks : made.given.blocks key ≡ key ∷ []
    blocks = made.blocks key object stands (ap is_region region)

    word_is : (value : ℕ) → LeadsTo parts value key start → made.given.word value ≡ word
    word_is value (inl any) = made.words value any
    word_is value (inr address) = made.meets.values value (Address key (pos start) Region) address ∙ ap (λ (ns : List ℕ). block_word (first_of ns) (pos start)) blocks

    right : access_fault state.memory word count ≡ None
    right =
        let same : block.number ≡ key = same_Some _ _ (ap (λ (ns : List ℕ). slice_get ns 0) (sym block.blocks ∙ blocks)) in
        subst (λ (n : ℕ). access_fault state.memory (To n (pos start)) count ≡ None) same
        (no_fault state.memory block.number start count block.block block.there block.node.live (let s = block.node.size in let r = room in omega arith))

    shares : share_byte word word count ≡ true
    shares =
        let further : nat_lt start (start + count) ≡ true = lt-ltb _ _ (omega arith) in
        ap (λ (b : Bool). b && (nat_lt start (start + count) && nat_lt start (start + count))) (eq-eqb key key refl) ∙ ap (λ (b : Bool). b && b) further

    overlap_met : disjoint ≡ true → LeadsTo parts (source_key parts graph to from disjoint to_address from_address) key start → LeadsTo parts (target_key parts graph to from disjoint to_address from_address) key start →
        SomeFaults parts (FaultsCopying to from count disjoint overlapping_copy)
    overlap_met must source_leads target_leads =
        met_by parts graph to from disjoint to_address from_address count overlapping_copy state made.given found.1 made.meets
        (ap (λ (w : Word). copy_fault state.memory (made.given.word (target_key parts graph to from disjoint to_address from_address)) w count disjoint) (word_is _ source_leads)
        ∙ ap (λ (w : Word). copy_fault state.memory w word count disjoint) (word_is _ target_leads)
        ∙ ap (λ (o : Option ℕ). first_fault o (first_fault o (if disjoint && share_byte word word count then Some overlapping_copy else None))) right
        ∙ ap (λ (b : Bool). if b && share_byte word word count then Some overlapping_copy else None) must
        ∙ ap (λ (b : Bool). if b then Some overlapping_copy else None) shares)

  module _ (kind : ℕ) (place : HasPlaceToCopy parts count) where
    abbrev source : ℕ
    source = source_key parts graph to from disjoint to_address from_address

    abbrev target : ℕ
    target = target_key parts graph to from disjoint to_address from_address

    abbrev Met : Type 0
    Met = SomeFaults parts (FaultsCopying to from count disjoint kind)

    as_listed : overlapping_copy ≡ kind → SomeFaults parts (FaultsCopying to from count disjoint overlapping_copy) → Met
    as_listed same met = subst (λ (k : ℕ). SomeFaults parts (FaultsCopying to from count disjoint k)) same met

    -- a source that may be any word
    from_any : MetFromAny parts graph to from disjoint to_address from_address more kind
    from_any live is listed = by_cases (overlap_cases (disjoint && may_overlap parts count (leads.Anything live) (reach_of parts target count)) (reach_faults (leads.Anything live)) kind listed)
      where
        by_target : (reach : Reach) → reach_of parts target count ≡ reach → disjoint ≡ true → has_room parts count ≡ true → may_be_right parts count reach ≡ true → SomeFaults parts (FaultsCopying to from count disjoint overlapping_copy)
        by_target leads.Nothing reach must room right = absurd (false≢true right)
        by_target (leads.Fault other) reach must room right = absurd (false≢true right)
        by_target (leads.Number small) reach must room right = absurd (false≢true right)
        by_target (leads.Anything other) reach must room right =
            let roomy = roomy_region parts count graph (place.region room) in
            overlap_met roomy.key 0 roomy.object roomy.stands roomy.live roomy.region (let r = roomy.room in omega arith) must (inl (any_of parts source count live is)) (inl (any_of parts target count other reach))
        by_target (leads.Room key start) reach must room right =
            let value = target_value parts graph to from disjoint to_address from_address in
            let at = room_reached parts target count key start graph (record { value = value.value; is = value.is; names = value.names }) reach in
            let here = room_at parts target count key start at.object value.value graph.well_formed value.is value.names reach at.stands in
            overlap_met key start at.object at.stands at.live at.region at.room must (inl (any_of parts source count live is)) (inr here.address)

        by_cases : Contains (reach_faults (leads.Anything live)).kinds kind ⊎ (((disjoint && may_overlap parts count (leads.Anything live) (reach_of parts target count)) ≡ true) × (overlapping_copy ≡ kind)) → Met
        by_cases (inl own) =
            let shown = all_kinds_met parts graph source count (source_value parts graph to from disjoint to_address from_address) (quiet parts graph to from disjoint to_address from_address more kind) (λ key start object. refl) kind place.one
            (subst (λ (r : Reach). Contains (on_reach parts r (quiet parts graph to from disjoint to_address from_address more kind)).kinds kind) (sym is) own) in
            met_by parts graph to from disjoint to_address from_address count kind shown.state shown.given shown.is shown.meets
            (ap (λ (o : Option ℕ). first_fault o (rest parts graph to from disjoint to_address from_address more kind shown.state shown.given)) shown.fault)
        by_cases (inr (overlaps, same)) =
            let may = and_right disjoint (has_room parts count && may_be_right parts count (reach_of parts target count)) overlaps in
            as_listed same
            (by_target (reach_of parts target count) refl (and_left disjoint (has_room parts count && may_be_right parts count (reach_of parts target count)) overlaps)
            (and_left (has_room parts count) (may_be_right parts count (reach_of parts target count)) may) (and_right (has_room parts count) (may_be_right parts count (reach_of parts target count)) may))

    -- a target that may be any word, behind a source that leads to bytes of an object
    at_any : MetAtAny parts graph to from disjoint to_address from_address more kind
    at_any key start object source_is stands live is listed = by_cases (overlap_cases (disjoint && may_overlap parts count (leads.Room key start) (leads.Anything live)) (reach_faults (leads.Anything live)) kind listed)
      where
        here : IsRoomAt parts source count key start object
        here = let value = source_value parts graph to from disjoint to_address from_address in room_at parts source count key start object value.value graph.well_formed value.is value.names source_is stands

        by_cases : Contains (reach_faults (leads.Anything live)).kinds kind ⊎ (((disjoint && may_overlap parts count (leads.Room key start) (leads.Anything live)) ≡ true) × (overlapping_copy ≡ kind)) → Met
        by_cases (inl own) =
            let shown = all_kinds_met parts graph target count (target_value parts graph to from disjoint to_address from_address) (quiet parts graph to from disjoint to_address from_address more kind) (λ key start object. refl) kind place.one
            (subst (λ (r : Reach). Contains (on_reach parts r (quiet parts graph to from disjoint to_address from_address more kind)).kinds kind) (sym is) own) in
            met_by parts graph to from disjoint to_address from_address count kind shown.state shown.given shown.is shown.meets
            (ap (λ (o : Option ℕ). first_fault o (rest parts graph to from disjoint to_address from_address more kind shown.state shown.given))
            (source_right parts graph to from disjoint to_address from_address more kind key start object source_is stands shown.state shown.given shown.meets)
            ∙ ap (λ (o : Option ℕ). first_fault o (if disjoint && share_byte (shown.given.word target) (shown.given.word source) count then Some overlapping_copy else None)) shown.fault)
        by_cases (inr (overlaps, same)) =
            as_listed same
            (overlap_met key start object stands here.live here.region here.room (and_left disjoint (may_overlap parts count (leads.Room key start) (leads.Anything live)) overlaps) (inr here.address) (inl (any_of parts target count live is)))

-- each kind that is listed is met, also through any word
listed_met : (parts : Parts) (graph : IsGraph parts) (to from : ℕ) (disjoint : Bool) (to_address : is_address_held parts to ≡ true) (from_address : is_address_held parts from ≡ true) (length kind : ℕ) → HasPlaceToCopy parts length →
    Contains (copy_post parts to from length disjoint).kinds kind → SomeFaults parts (FaultsCopying to from length disjoint kind)
listed_met parts graph to from disjoint to_address from_address zero kind place listed = none_met parts graph to from disjoint to_address from_address kind listed
listed_met parts graph to from disjoint to_address from_address (suc more) kind place listed =
    met_if parts graph to from disjoint to_address from_address more kind (from_any parts graph to from disjoint to_address from_address more kind place) (at_any parts graph to from disjoint to_address from_address more kind place) listed

pub copy_listed : (parts : Parts) (to from length : ℕ) (disjoint : Bool) (given : Post) → IsGraph parts → is_address_held parts to ≡ true → is_address_held parts from ≡ true → IsPost (copy_post parts to from length disjoint) given →
    MeetsCopied parts to from length disjoint given
copy_listed parts to from length disjoint given graph to_address from_address is = record {
  met = λ place kind listed. listed_met parts graph to from disjoint to_address from_address length kind place (subst (λ (kinds : List ℕ). Contains kinds kind) is.kinds listed);
}
