-- Each fault that a copy's post lists is met by some state, if those through any word are.
use Rattle.std.proofs.Common.{◌≡◌, ◌≢◌, ℕ, zero, suc, Bool, true, false, ◌&&◌, List, [], ◌∷◌, pos, Option, None, Some, refl, sym, ◌∙◌, ap, subst, arith}
use Rattle.std.specs.Prelude.{Contains, option_map, if◌then◌else◌}
use Rattle.std.proofs.lemmas.Option.{none-some}
use Rattle.bytes_core.specs.declared.word.Word.{Word}
use Rattle.bytes_core.specs.declared.word.Word.TheVariants.{To}
use Rattle.bytes_core.specs.Access.{access_fault}
use Rattle.bytes_core.specs.Copying.{first_fault, share_byte, copy_fault}
use Rattle.bytes_core.specs.Fault.{overlapping_copy}
use Rattle.graph.specs.declared.object.Object.{Object}
use Rattle.graph.specs.declared.parts.Parts.{Parts}
use Rattle.graph.specs.declared.value.Target.TheVariants.{Region}
use Rattle.graph.specs.declared.value.Value.TheVariants.{Address}
use Rattle.graph.specs.Maps.{object_at, value_at}
use Rattle.graph.specs.State.{State, IsState}
use Rattle.graph.specs.Whole.{IsGraph}
use Rattle.graph.specs.Meaning.{block_word, first_of, maps_of, Assignment, Meets, StandsFor}
use Rattle.graph.proofs.Found.{IsSome-holds}
use Rattle.graph.proofs.Witness.{some_state}
use Rattle.changes.specs.declared.reach.Reach.{Reach}
use Rattle.changes.specs.declared.reach.Reach.TheVariants.{Nothing, Fault, Number, Anything, Room}
use Rattle.changes.specs.Following.{SomeFaults}
use Rattle.changes.specs.Posted.{Posted, no_post, on_object, on_reach, reach_faults}
use Rattle.changes.specs.Reaching.{reach_of, is_address_held}
use Rattle.changes.proofs.Accesses.{kinds_met, no_fault}
use Rattle.changes.proofs.Meeting.{IsMet, met_in}
use Rattle.changes.proofs.Reached.{only_one, none_in, IsRoomAt, room_at}
use Rattle.changes.proofs.Region.{IsRegionBlock, region_block}
use Rattle.range_steps.specs.Copies.{FaultsCopying}
use Rattle.range_steps.specs.Copying.{overlap, object_written, object_copied, is_anywhere, may_overlap, with_overlap, copied_between, copy_post}
use Rattle.range_steps.proofs.Between.{post_held, no_overlap, never, any_source, any_target}
use Rattle.range_steps.proofs.CopySound.{share_is}
use Rattle.range_steps.proofs.CopyExact.{source, source_value, target, target_value, target_reach, post_suc}
use Rattle.changes.proofs.Led.{room_reached}

-- an access to bytes of an object meets no fault
pub met_right : (parts : Parts) (state : State) (given : Assignment) (at count : ℕ) → IsMet parts state given at count → access_fault state.memory (given.word at) count ≡ None
met_right parts state given at count met =
    ap (λ (w : Word). access_fault state.memory w count) met.word
    ∙ no_fault state.memory met.number met.from count met.block met.there met.node.live (let s = met.node.size in let r = met.room in omega arith)

module _ (parts : Parts) (graph : IsGraph parts) (to from : ℕ) (disjoint : Bool) (to_address : is_address_held parts to ≡ true) (from_address : is_address_held parts from ≡ true) where
  abbrev pub source_key : ℕ
  source_key = (source parts graph to from disjoint to_address from_address).0

  abbrev pub target_key : ℕ
  target_key = (target parts graph to from disjoint to_address from_address).0

  -- a state that meets the fault of a copy
  pub met_by : (count kind : ℕ) (state : State) (given : Assignment) → IsState state → Meets (maps_of parts) state given → copy_fault state.memory (given.word target_key) (given.word source_key) count disjoint ≡ Some kind →
      SomeFaults parts (FaultsCopying to from count disjoint kind)
  met_by count kind state given is meets fault = record {
    state = state;
    is = is;
    stands = record { given = given; meets = meets };
    faults = record {
      target = given.word target_key;
      source = given.word source_key;
      to_holds = meets.registers to ∙ ap (option_map given.word) (target parts graph to from disjoint to_address from_address).1;
      from_holds = meets.registers from ∙ ap (option_map given.word) (source parts graph to from disjoint to_address from_address).1;
      fault = fault;
    };
  }

  module _ (more kind : ℕ) where
    abbrev pub count : ℕ
    count = suc more

    abbrev pub Met : Type 0
    Met = SomeFaults parts (FaultsCopying to from count disjoint kind)

    -- what is listed is met where the source may be any word
    abbrev pub MetFromAny : Type 0
    MetFromAny = (live : Bool) → reach_of parts source_key count ≡ Anything live →
        Contains (with_overlap (disjoint && may_overlap parts count (Anything live) (reach_of parts target_key count)) (reach_faults (Anything live))).kinds kind → Met

    -- and where the source leads to bytes of an object, and the target may be any word
    abbrev pub MetAtAny : Type 0
    MetAtAny = (key start : ℕ) (object : Object) → reach_of parts source_key count ≡ Room key start → object_at parts.objects key ≡ Some object → (live : Bool) → reach_of parts target_key count ≡ Anything live →
        Contains (with_overlap (disjoint && may_overlap parts count (Room key start) (Anything live)) (reach_faults (Anything live))).kinds kind → Met

    abbrev pub rest : State → Assignment → Option ℕ
    rest state given = first_fault (access_fault state.memory (given.word target_key) count) (if disjoint && share_byte (given.word target_key) (given.word source_key) count then Some overlapping_copy else None)

    -- an access on its own
    abbrev pub quiet : ℕ → Object → ℕ → Posted
    quiet key object at = no_post

    -- the source's own faults
    by_source : (on_reach parts (reach_of parts source_key count) quiet).loss ≢ Some 4 → Contains (on_reach parts (reach_of parts source_key count) quiet).kinds kind → Met
    by_source precise listed =
        let shown = kinds_met parts graph source_key count (source_value parts graph to from disjoint to_address from_address) quiet (λ key start object. refl) kind precise listed in
        met_by count kind shown.state shown.given shown.is shown.meets (ap (λ (o : Option ℕ). first_fault o (rest shown.state shown.given)) shown.fault)

    -- those of the target, and the overlap of the two, where the source leads to bytes of an object
    module _ (key start : ℕ) (object : Object) (source_is : reach_of parts source_key count ≡ Room key start) (stands : object_at parts.objects key ≡ Some object) where
      room : IsRoomAt parts source_key count key start object
      room = let value = source_value parts graph to from disjoint to_address from_address in room_at parts source_key count key start object value.value graph.well_formed value.is value.names source_is stands

      met_source : (state : State) (given : Assignment) → Meets (maps_of parts) state given → IsMet parts state given source_key count
      met_source state given meets = met_in parts state given graph.well_formed meets source_key count key start object room.address stands room.live room.region room.room

      pub source_right : (state : State) (given : Assignment) → Meets (maps_of parts) state given → access_fault state.memory (given.word source_key) count ≡ None
      source_right state given meets = met_right parts state given source_key count (met_source state given meets)

      by_target : (on_reach parts (reach_of parts target_key count) quiet).loss ≢ Some 4 → Contains (on_reach parts (reach_of parts target_key count) quiet).kinds kind → Met
      by_target precise listed =
          let shown = kinds_met parts graph target_key count (target_value parts graph to from disjoint to_address from_address) quiet (λ key start object. refl) kind precise listed in
          met_by count kind shown.state shown.given shown.is shown.meets
          (ap (λ (o : Option ℕ). first_fault o (rest shown.state shown.given)) (source_right shown.state shown.given shown.meets)
          ∙ ap (λ (o : Option ℕ). first_fault o (if disjoint && share_byte (shown.given.word target_key) (shown.given.word source_key) count then Some overlapping_copy else None)) shown.fault)

      by_overlap : (other at : ℕ) (object' : Object) → reach_of parts target_key count ≡ Room other at → object_at parts.objects other ≡ Some object' → (disjoint && overlap other at key start count) ≡ true → overlapping_copy ≡ kind →
          Met
      by_overlap other at object' target_is stands' overlaps same =
          met_by count kind state given found.1 meets
          (ap (λ (o : Option ℕ). first_fault o (rest state given)) (source_right state given meets)
          ∙ ap (λ (o : Option ℕ). first_fault o (if disjoint && share_byte (given.word target_key) (given.word source_key) count then Some overlapping_copy else None)) target_right
          ∙ ap (λ (w : Word). if disjoint && share_byte w (given.word source_key) count then Some overlapping_copy else None) (word_is target_key other at two.number room'.address two.blocks)
          ∙ ap (λ (w : Word). if disjoint && share_byte (To two.number (pos at)) w count then Some overlapping_copy else None) (word_is source_key key start one.number room.address one.blocks)
          ∙ ap (λ (b : Bool). if disjoint && b then Some overlapping_copy else None)
          (share_is parts state given meets other at key start count two.number one.number (IsSome-holds _ _ stands') (IsSome-holds _ _ stands) two.blocks one.blocks)
          ∙ ap (λ (b : Bool). if b then Some overlapping_copy else None) overlaps
          ∙ ap Some same)
        where
          found : (state : State) × IsState state × StandsFor parts state
          found = some_state parts graph.ascending graph.well_formed graph.within_limits

          state : State
          state = found.0

          given : Assignment
          given = found.2.given

          meets : Meets (maps_of parts) state given
          meets = found.2.meets

          room' : IsRoomAt parts target_key count other at object'
          room' = let value = target_value parts graph to from disjoint to_address from_address in room_at parts target_key count other at object' value.value graph.well_formed value.is value.names target_is stands'

          one : IsRegionBlock object state given key
          one = region_block parts state given key object meets stands room.live room.region

          two : IsRegionBlock object' state given other
          two = region_block parts state given other object' meets stands' room'.live room'.region

          word_is : (value key at number : ℕ) → value_at parts.values value ≡ Some (Address key (pos at) Region) → given.blocks key ≡ number ∷ [] → given.word value ≡ To number (pos at)
          word_is value key at number is blocks = meets.values value (Address key (pos at) Region) is ∙ ap (λ (ns : List ℕ). block_word (first_of ns) (pos at)) blocks

          target_right : access_fault state.memory (given.word target_key) count ≡ None
          target_right = met_right parts state given target_key count (met_in parts state given graph.well_formed meets target_key count other at object' room'.address stands' room'.live room'.region room'.room)

      by_reach : MetAtAny → (target_reach : Reach) → reach_of parts target_key count ≡ target_reach →
          Contains (with_overlap (disjoint && may_overlap parts count (Room key start) target_reach) (on_reach parts target_reach (object_copied parts (to ∷ from ∷ []) disjoint count key object start))).kinds kind → Met
      by_reach at_any Nothing is listed = none_in kind (subst (λ (p : Posted). Contains p.kinds kind) (no_overlap disjoint no_post) listed)
      by_reach at_any (Fault other) is listed =
          by_target (λ any. none-some 4 (ap (λ (r : Reach). (on_reach parts r quiet).loss) (sym is) ∙ any))
          (subst (λ (r : Reach). Contains (on_reach parts r quiet).kinds kind) (sym is) (subst (λ (p : Posted). Contains p.kinds kind) (no_overlap disjoint (reach_faults (Fault other))) listed))
      by_reach at_any (Number small) is listed =
          by_target (λ any. none-some 4 (ap (λ (r : Reach). (on_reach parts r quiet).loss) (sym is) ∙ any))
          (subst (λ (r : Reach). Contains (on_reach parts r quiet).kinds kind) (sym is) (subst (λ (p : Posted). Contains p.kinds kind) (no_overlap disjoint (reach_faults (Number small))) listed))
      by_reach at_any (Anything live) is listed = at_any key start object source_is stands live is listed
      by_reach at_any (Room other at) is listed =
          by_object (object_at parts.objects other) refl
          (subst (λ (p : Posted). Contains p.kinds kind) (no_overlap disjoint (on_reach parts (Room other at) (object_copied parts (to ∷ from ∷ []) disjoint count key object start))) listed)
        where
          by_bytes : (object' : Object) → object_at parts.objects other ≡ Some object' → (b : Bool) → (disjoint && overlap other at key start count) ≡ b → Contains (object_written parts (to ∷ from ∷ []) b count object start other object' at).kinds kind → Met
          by_bytes object' found true overlaps listed = by_overlap other at object' is found overlaps (only_one overlapping_copy kind listed)
          by_bytes object' found false overlaps listed = none_in kind listed

          by_object : (found : Option Object) → object_at parts.objects other ≡ found → Contains (on_object found (λ object'. object_copied parts (to ∷ from ∷ []) disjoint count key object start other object' at)).kinds kind → Met
          by_object None found listed = none_in kind listed
          by_object (Some object') found listed = by_bytes object' found (disjoint && overlap other at key start count) refl listed

    by_between : MetFromAny → MetAtAny → (source_reach target_reach : Reach) → reach_of parts source_key count ≡ source_reach → reach_of parts target_key count ≡ target_reach →
        Contains (copied_between parts (to ∷ from ∷ []) disjoint count source_reach target_reach).kinds kind → Met
    by_between from_any at_any Nothing target_reach is target_is listed = none_in kind (subst (λ (p : Posted). Contains p.kinds kind) (never disjoint (is_anywhere target_reach) no_post) listed)
    by_between from_any at_any (Fault other) target_reach is target_is listed =
        by_source (λ any. none-some 4 (ap (λ (r : Reach). (on_reach parts r quiet).loss) (sym is) ∙ any))
        (subst (λ (r : Reach). Contains (on_reach parts r quiet).kinds kind) (sym is) (subst (λ (p : Posted). Contains p.kinds kind) (never disjoint (is_anywhere target_reach) (reach_faults (Fault other))) listed))
    by_between from_any at_any (Number small) target_reach is target_is listed =
        by_source (λ any. none-some 4 (ap (λ (r : Reach). (on_reach parts r quiet).loss) (sym is) ∙ any))
        (subst (λ (r : Reach). Contains (on_reach parts r quiet).kinds kind) (sym is) (subst (λ (p : Posted). Contains p.kinds kind) (never disjoint (is_anywhere target_reach) (reach_faults (Number small))) listed))
    by_between from_any at_any (Anything live) target_reach is target_is listed =
        from_any live is (subst (λ (r : Reach). Contains (with_overlap (disjoint && may_overlap parts count (Anything live) r) (reach_faults (Anything live))).kinds kind) (sym target_is) listed)
    by_between from_any at_any (Room key start) target_reach is target_is listed = by_object (object_at parts.objects key) refl listed
      where
        by_object : (found : Option Object) → object_at parts.objects key ≡ found →
            Contains (with_overlap (disjoint && may_overlap parts count (Room key start) target_reach) (on_object found (λ object. on_reach parts target_reach (object_copied parts (to ∷ from ∷ []) disjoint count key object start)))).kinds kind → Met
        by_object None found listed = absurd (there found)
          where
            there : object_at parts.objects key ≡ None → ⊥
            there none =
                let value = source_value parts graph to from disjoint to_address from_address in
                let some = room_reached parts source_key count key start graph (record { value = value.value; is = value.is; names = value.names }) is in
                none-some some.object (sym none ∙ some.stands)
        by_object (Some object) found listed = by_reach key start object is found at_any target_reach target_is listed

    -- each kind that a copy of some bytes lists is met, if those through any word are
    pub met_if : MetFromAny → MetAtAny → Contains (copy_post parts to from count disjoint).kinds kind → Met
    met_if from_any at_any listed =
        by_between from_any at_any (reach_of parts source_key count) (reach_of parts target_key count) refl refl
        (subst (λ (p : Posted). Contains p.kinds kind) (post_suc parts graph to from disjoint to_address from_address more) listed)

  -- a copy of no byte lists none
  pub none_met : {A : Type 0} (kind : ℕ) → Contains (copy_post parts to from 0 disjoint).kinds kind → A
  none_met kind listed =
      none_in kind (subst (λ (p : Posted). Contains p.kinds kind)
      (post_held parts to from 0 target_key source_key disjoint (target parts graph to from disjoint to_address from_address).1 (source parts graph to from disjoint to_address from_address).1) listed)

  -- so it is but through any word
  pub copy_met : (length kind : ℕ) → (copy_post parts to from length disjoint).loss ≢ Some 4 → Contains (copy_post parts to from length disjoint).kinds kind → SomeFaults parts (FaultsCopying to from length disjoint kind)
  copy_met zero kind precise listed = none_met kind listed
  copy_met (suc more) kind precise listed = met_if more kind from_any at_any listed
    where
      apart : (copied_between parts (to ∷ from ∷ []) disjoint (suc more) (reach_of parts source_key (suc more)) (reach_of parts target_key (suc more))).loss ≢ Some 4
      apart any = precise (ap (λ (p : Posted). p.loss) (post_suc parts graph to from disjoint to_address from_address more) ∙ any)

      from_any : MetFromAny more kind
      from_any live is listed = absurd (apart (any_source parts (to ∷ from ∷ []) disjoint (suc more) (reach_of parts source_key (suc more)) (reach_of parts target_key (suc more)) live is))

      at_any : MetAtAny more kind
      at_any key start object is stands live target_is listed =
          absurd (apart (any_target parts (to ∷ from ∷ []) disjoint (suc more) (reach_of parts source_key (suc more)) (reach_of parts target_key (suc more)) key start object live is stands target_is))
