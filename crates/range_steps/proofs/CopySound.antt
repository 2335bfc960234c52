-- The graph of a copy's post stands for each state that follows, but through any word; and each fault that is met is listed.
use Rattle.std.proofs.Common.{◌≡◌, ◌≢◌, ℕ, zero, suc, ◌+◌, ◌≤◌, Bool, true, false, ◌&&◌, List, [], ◌∷◌, length, take, drop, set, min, pos, nat_eq, nat_lt, Option, None, Some, refl, sym, ◌∙◌, ap, subst, eqb-true, eq-eqb, ltb-true, length-take, length-drop, arith}
use Rattle.std.specs.Prelude.{◌+ℤ◌, int_lt, IsSome, slice_get, option_map, Contains, if◌then◌else◌}
use Rattle.std.proofs.lemmas.Bool.{false≢true}
use Rattle.std.proofs.lemmas.Option.{same_Some, none-some}
use Rattle.bytes_core.specs.declared.byte.Byte.{Byte}
use Rattle.bytes_core.specs.declared.block.Block.{Block}
use Rattle.bytes_core.specs.declared.word.Word.{Word}
use Rattle.bytes_core.specs.declared.word.Word.TheVariants.{Plain, To}
use Rattle.bytes_core.specs.Access.{access_fault, block_bytes, with_bytes, written_at}
use Rattle.bytes_core.specs.Copying.{first_fault, share_byte, copied}
use Rattle.bytes_core.specs.Fault.{overlapping_copy}
use Rattle.bytes_core.proofs.Copies.{shared_offsets}
use Rattle.bytes_core.proofs.Kept.{copied_nothing}
use Rattle.graph.specs.declared.object.Object.{Object}
use Rattle.graph.specs.declared.parts.Parts.{Parts}
use Rattle.graph.specs.declared.value.Value.{Value}
use Rattle.graph.specs.Maps.{object_at, held_by}
use Rattle.graph.specs.State.{State}
use Rattle.graph.specs.WellFormed.{IsWellFormed}
use Rattle.graph.specs.Whole.{IsGraph}
use Rattle.graph.specs.Meaning.{maps_of, Assignment, Meets, StandsFor}
use Rattle.graph.proofs.Found.{IsSome-holds}
use Rattle.changes.specs.declared.reach.Reach.{Reach}
use Rattle.changes.specs.declared.reach.Reach.TheVariants.{Anything, Room}
use Rattle.changes.specs.Following.{Leaves}
use Rattle.changes.specs.Parts.{emptied, with_object, without_registers}
use Rattle.changes.specs.Posted.{Posted, on_reach, reach_faults, SomeStandsFor}
use Rattle.changes.specs.Ranges.{spliced}
use Rattle.changes.specs.Reaching.{has_live_object, value_reach, reach_of, is_address_held}
use Rattle.changes.proofs.Held.{IsHeldAs, held_as, IsAddress, address_at}
use Rattle.changes.proofs.Meeting.{IsMet, Led, Anywhere, Within, led, kinds_listed, contains_first}
use Rattle.changes.proofs.Node.{HaveClasses-range, block_with}
use Rattle.changes.proofs.Region.{with_block, region_changed}
use Rattle.changes.proofs.RegistersChanged.{without_agrees, held_without, registers_changed, emptied-words}
use Rattle.range_steps.specs.Copies.{Copies, FaultsCopying}
use Rattle.range_steps.specs.Copying.{moved_edges, copied_object, overlap, object_written, object_copied, has_room, may_be_right, may_overlap, with_overlap, copied_between, copy_post}
use Rattle.range_steps.proofs.Between.{post_held, overlap_keeps, overlap_has, behind_source, between_room, between_rooms, any_source, any_target}
use Rattle.range_steps.proofs.Moving.{moved_hold}
use Rattle.range_steps.proofs.Roomy.{room_somewhere, room_lives, access_kinds}

-- a copy between blocks that are there
pub copied_is : (memory : List Block) (number at other from count : ℕ) (target source : Block) → slice_get memory number ≡ Some target → slice_get memory other ≡ Some source →
    copied memory (To number (pos at)) (To other (pos from)) count ≡ set memory number (block_with target (spliced target.bytes at (take count (drop from source.bytes))))
copied_is memory number at other from count target source there there' =
    ap (λ (o : Option Block). written_at memory (To number (pos at)) (block_bytes o (pos from) count)) there'
    ∙ ap (λ (o : Option Block). with_bytes memory number o at (take count (drop from source.bytes))) there

-- what a copy without a fault meets
pub first_none : (one other : Option ℕ) → first_fault one other ≡ None → (one ≡ None) × (other ≡ None)
first_none None other none = (refl, none)
first_none (Some kind) other none = absurd (none-some kind (sym none))

no_share : (b : Bool) → ◌≡◌ {A = Option ℕ} (if b then Some overlapping_copy else None) None → b ≡ false
no_share true none = absurd (none-some overlapping_copy (sym none))
no_share false none = refl

some_share : (b : Bool) (kind : ℕ) → ◌≡◌ {A = Option ℕ} (if b then Some overlapping_copy else None) (Some kind) → (b ≡ true) × (overlapping_copy ≡ kind)
some_share true kind is = (refl, same_Some _ _ is)
some_share false kind is = absurd (none-some kind is)

-- no bytes are shared by ranges without one
pub nothing_shared : (one other : Word) → share_byte one other 0 ≡ false
nothing_shared (To block offset) (To other offset') = apart (nat_eq block other) (int_lt offset (offset' +ℤ pos 0) && int_lt offset' (offset +ℤ pos 0)) refl
  where
    apart : (a b : Bool) → (int_lt offset (offset' +ℤ pos 0) && int_lt offset' (offset +ℤ pos 0)) ≡ b → (a && b) ≡ false
    apart true false is = refl
    apart true true is = let l = ltb-true _ _ (sym (shared_offsets offset offset' 0) ∙ is) in absurd (omega arith)
    apart false b is = refl
nothing_shared (To block offset) (Plain number) = refl
nothing_shared (Plain number) other = refl

and_first : (a b : Bool) → (a && b) ≡ true → a ≡ true
and_first true b is = refl
and_first false b is = is

module _ (parts : Parts) (state : State) (given : Assignment) (meets : Meets (maps_of parts) state given) where
  -- two objects have one block where they are one
  same_block : (key other number number' : ℕ) → IsSome (object_at parts.objects key) → IsSome (object_at parts.objects other) → given.blocks key ≡ number ∷ [] → given.blocks other ≡ number' ∷ [] → nat_eq number number' ≡ nat_eq key other
  same_block key other number number' some some' blocks blocks' = by_key (nat_eq key other) refl
    where
      owner : given.owner number ≡ key
      owner = meets.owners key 0 number some (ap (λ (ns : List ℕ). slice_get ns 0) blocks)

      owner' : given.owner number' ≡ other
      owner' = meets.owners other 0 number' some' (ap (λ (ns : List ℕ). slice_get ns 0) blocks')

      first : List ℕ → ℕ
      first [] = 0
      first (number ∷ rest) = number

      by_number : nat_eq key other ≡ false → (b : Bool) → nat_eq number number' ≡ b → nat_eq number number' ≡ false
      by_number apart false is = is
      by_number apart true is = absurd (false≢true (sym apart ∙ eq-eqb key other (sym owner ∙ ap given.owner (eqb-true _ _ is) ∙ owner')))

      by_key : (b : Bool) → nat_eq key other ≡ b → nat_eq number number' ≡ nat_eq key other
      by_key true is = eq-eqb _ _ (ap first (sym blocks ∙ ap given.blocks (eqb-true _ _ is) ∙ blocks')) ∙ sym is
      by_key false is = by_number is (nat_eq number number') refl ∙ sym is

  -- words share a byte where ranges of objects do
  pub share_is : (key at other from count number number' : ℕ) → IsSome (object_at parts.objects key) → IsSome (object_at parts.objects other) → given.blocks key ≡ number ∷ [] → given.blocks other ≡ number' ∷ [] →
      share_byte (To number (pos at)) (To number' (pos from)) count ≡ overlap key at other from count
  share_is key at other from count number number' some some' blocks blocks' =
      ap (λ (b : Bool). b && (nat_lt at (from + count) && nat_lt from (at + count))) (same_block key other number number' some some' blocks blocks')

module _ (parts : Parts) (graph : IsGraph parts) (to from : ℕ) (disjoint : Bool) where
  abbrev form : IsWellFormed parts
  form = graph.well_formed

  abbrev gone : List ℕ
  gone = to ∷ from ∷ []

  abbrev behind : ℕ → (key from : ℕ) (object : Object) (other at : ℕ) (object' : Object) → Parts
  behind count key start object other at object' = without_registers gone (with_object other (copied_object object start object' at count) parts)

  -- an object that is copied to is one whose block is
  pub copied_meets : (state next : State) (given : Assignment) (target source count : ℕ) → Meets (maps_of parts) state given → (one : IsMet parts state given source count) → (two : IsMet parts state given target count) →
      Leaves (copied state.memory (given.word target) (given.word source) count) (emptied gone state.registers) state next →
      Meets (maps_of (behind count one.key one.from one.object two.key two.from two.object)) next given
  copied_meets state next given target source count meets one two leaves =
      registers_changed (maps_of after) (maps_of (without_registers gone after)) middle next given (without_agrees gone after)
      (record {
        memory = leaves.memory
            ∙ ap (λ (w : Word). copied state.memory w (given.word source) count) two.word
            ∙ ap (λ (w : Word). copied state.memory (To two.number (pos two.from)) w count) one.word
            ∙ copied_is state.memory two.number two.from one.number one.from count two.block one.block two.there one.there;
        variables = leaves.variables;
        ports = leaves.ports;
        roots = leaves.roots;
      })
      (λ register. leaves.registers register ∙ emptied-words given.word gone (held_by parts.registers) state.registers register (meets.registers register) ∙ ap (option_map given.word) (sym (held_without gone after register)))
      (region_changed parts form state given two.key two.from count two.object (moved_edges one.object.edges one.from count two.from) (take count (drop one.from one.object.plane)) two.stands two.live two.region two.room two.number two.block
      new meets two.blocks two.there two.node long (HaveClasses-range one.from count one.object.plane one.block.bytes one.node.classes)
      (moved_hold one.block.bytes two.block.bytes given.word one.from count two.from room (let s = two.node.size in let r = two.room in omega arith) one.object.edges one.node.edges))
    where
      new : List Byte
      new = take count (drop one.from one.block.bytes)

      room : one.from + count ≤ length one.block.bytes
      room = let s = one.node.size in let r = one.room in omega arith

      long : length new ≡ count
      long = length-take count (drop one.from one.block.bytes) ∙ ap (min count) (length-drop one.from one.block.bytes) ∙ (let r = room in omega arith)

      after : Parts
      after = with_object two.key (copied_object one.object one.from two.object two.from count) parts

      middle : State
      middle = with_block state two.number (block_with two.block (spliced two.block.bytes two.from new))

  module _ (to_address : is_address_held parts to ≡ true) (from_address : is_address_held parts from ≡ true) where
    pub copy_sound : (length : ℕ) (state next : State) → StandsFor parts state → Copies to from length disjoint state next → (copy_post parts to from length disjoint).loss ≢ Some 4 → SomeStandsFor (copy_post parts to from length disjoint).graphs next
    copy_sound zero state next stands copies precise = record {
      graph = without_registers gone parts;
      among = subst (λ (p : Posted). Contains p.graphs (without_registers gone parts)) (sym (post_held parts to from 0 target.key source.key disjoint target.held source.held)) (first_of (without_registers gone parts));
      stands = record {
        given = stands.given;
        meets = registers_changed (maps_of parts) (maps_of (without_registers gone parts)) state next stands.given (without_agrees gone parts)
            (record {
              memory = copies.leaves.memory ∙ copied_nothing state.memory copies.target copies.source 0 refl;
              variables = copies.leaves.variables;
              ports = copies.leaves.ports;
              roots = copies.leaves.roots;
            })
            (λ register. copies.leaves.registers register ∙ emptied-words stands.given.word gone (held_by parts.registers) state.registers register (stands.meets.registers register)
            ∙ ap (option_map stands.given.word) (sym (held_without gone parts register)))
            stands.meets;
      };
    }
      where
        target : IsHeldAs parts stands.given to copies.target
        target = held_as parts state stands.given to copies.target stands.meets copies.to_holds

        source : IsHeldAs parts stands.given from copies.source
        source = held_as parts state stands.given from copies.source stands.meets copies.from_holds

        first_of : {X : Type 0} (x : X) → Contains (x ∷ []) x
        first_of x = (0, omega arith, refl)
    copy_sound (suc more) state next stands copies precise =
        by_source (led parts state stands.given form stands.meets source.key (suc more) source_value.value source_value.is source_value.names
        (ap (λ (w : Word). access_fault state.memory w (suc more)) source.word_is ∙ faults.0))
      where
        target : IsHeldAs parts stands.given to copies.target
        target = held_as parts state stands.given to copies.target stands.meets copies.to_holds

        source : IsHeldAs parts stands.given from copies.source
        source = held_as parts state stands.given from copies.source stands.meets copies.from_holds

        target_value : IsAddress parts target.key
        target_value = address_at parts to target.key target.held to_address

        source_value : IsAddress parts source.key
        source_value = address_at parts from source.key source.held from_address

        post : copy_post parts to from (suc more) disjoint ≡ copied_between parts gone disjoint (suc more) (reach_of parts source.key (suc more)) (reach_of parts target.key (suc more))
        post = post_held parts to from (suc more) target.key source.key disjoint target.held source.held

        faults : (access_fault state.memory copies.source (suc more) ≡ None) × (first_fault (access_fault state.memory copies.target (suc more)) (if disjoint && share_byte copies.target copies.source (suc more) then Some overlapping_copy else None) ≡ None)
        faults = first_none (access_fault state.memory copies.source (suc more)) _ copies.room

        later : (access_fault state.memory copies.target (suc more) ≡ None) × ((if disjoint && share_byte copies.target copies.source (suc more) then Some overlapping_copy else None) ≡ None)
        later = first_none (access_fault state.memory copies.target (suc more)) _ faults.1

        leaves : Leaves (copied state.memory (stands.given.word target.key) (stands.given.word source.key) (suc more)) (emptied gone state.registers) state next
        leaves = subst (λ (w : Word). Leaves (copied state.memory w (stands.given.word source.key) (suc more)) (emptied gone state.registers) state next) (sym target.word_is)
            (subst (λ (w : Word). Leaves (copied state.memory copies.target w (suc more)) (emptied gone state.registers) state next) (sym source.word_is) copies.leaves)

        by_target : IsMet parts state stands.given source.key (suc more) → Led parts state stands.given target.key (suc more) → SomeStandsFor (copy_post parts to from (suc more) disjoint).graphs next
        by_target one (Anywhere any) = absurd (precise (ap (λ (p : Posted). p.loss) post
            ∙ any_target parts gone disjoint (suc more) (reach_of parts source.key (suc more)) (reach_of parts target.key (suc more)) one.key one.from one.object (has_live_object parts) one.reach one.stands
            (ap (λ (o : Option Value). value_reach parts target.key o (suc more)) any)))
        by_target one (Within two) = record {
          graph = behind (suc more) one.key one.from one.object two.key two.from two.object;
          among = subst (λ (p : Posted). Contains p.graphs (behind (suc more) one.key one.from one.object two.key two.from two.object)) (sym (post ∙ rooms)) (apart_graph (disjoint && overlap two.key two.from one.key one.from (suc more)) apart);
          stands = record { given = stands.given; meets = copied_meets state next stands.given target.key source.key (suc more) stands.meets one two leaves };
        }
          where
            rooms : copied_between parts gone disjoint (suc more) (reach_of parts source.key (suc more)) (reach_of parts target.key (suc more)) ≡ object_copied parts gone disjoint (suc more) one.key one.object one.from two.key two.object two.from
            rooms = between_rooms parts gone disjoint (suc more) (reach_of parts source.key (suc more)) (reach_of parts target.key (suc more)) one.key one.from one.object two.key two.from two.object one.reach one.stands two.reach two.stands

            apart : (disjoint && overlap two.key two.from one.key one.from (suc more)) ≡ false
            apart =
                sym (ap (λ (w : Word). disjoint && share_byte w copies.source (suc more)) (sym target.word_is ∙ two.word)
                ∙ ap (λ (w : Word). disjoint && share_byte (To two.number (pos two.from)) w (suc more)) (sym source.word_is ∙ one.word)
                ∙ ap (λ (b : Bool). disjoint && b) (share_is parts state stands.given stands.meets two.key two.from one.key one.from (suc more) two.number one.number
                (IsSome-holds _ _ two.stands) (IsSome-holds _ _ one.stands) two.blocks one.blocks))
                ∙ no_share (disjoint && share_byte copies.target copies.source (suc more)) later.1

            apart_graph : (b : Bool) → b ≡ false → Contains (object_written parts gone b (suc more) one.object one.from two.key two.object two.from).graphs (behind (suc more) one.key one.from one.object two.key two.from two.object)
            apart_graph true is = absurd (false≢true (sym is))
            apart_graph false is = (0, omega arith, refl)

        by_source : Led parts state stands.given source.key (suc more) → SomeStandsFor (copy_post parts to from (suc more) disjoint).graphs next
        by_source (Anywhere any) = absurd (precise (ap (λ (p : Posted). p.loss) post
            ∙ any_source parts gone disjoint (suc more) (reach_of parts source.key (suc more)) (reach_of parts target.key (suc more)) (has_live_object parts)
            (ap (λ (o : Option Value). value_reach parts source.key o (suc more)) any)))
        by_source (Within one) = by_target one (led parts state stands.given form stands.meets target.key (suc more) target_value.value target_value.is target_value.names
            (ap (λ (w : Word). access_fault state.memory w (suc more)) target.word_is ∙ later.0))

    pub copy_kinds : (length : ℕ) (state : State) (kind : ℕ) → StandsFor parts state → FaultsCopying to from length disjoint kind state → Contains (copy_post parts to from length disjoint).kinds kind
    copy_kinds zero state kind stands faults = absurd (no_fault (disjoint) (share_byte faults.target faults.source 0) (nothing_shared faults.target faults.source) faults.fault)
      where
        no_fault : (d b : Bool) → b ≡ false → ◌≡◌ {A = Option ℕ} (if d && b then Some overlapping_copy else None) (Some kind) → ⊥
        no_fault true true is fault = false≢true (sym is)
        no_fault true false is fault = none-some kind fault
        no_fault false b is fault = none-some kind fault
    copy_kinds (suc more) state kind stands faults =
        subst (λ (p : Posted). Contains p.kinds kind) (sym post) (by_source (access_fault state.memory faults.source (suc more)) refl faults.fault)
      where
        target : IsHeldAs parts stands.given to faults.target
        target = held_as parts state stands.given to faults.target stands.meets faults.to_holds

        source : IsHeldAs parts stands.given from faults.source
        source = held_as parts state stands.given from faults.source stands.meets faults.from_holds

        target_value : IsAddress parts target.key
        target_value = address_at parts to target.key target.held to_address

        source_value : IsAddress parts source.key
        source_value = address_at parts from source.key source.held from_address

        source_reach : Reach
        source_reach = reach_of parts source.key (suc more)

        target_reach : Reach
        target_reach = reach_of parts target.key (suc more)

        between : Posted
        between = copied_between parts gone disjoint (suc more) source_reach target_reach

        shares : Bool
        shares = disjoint && share_byte faults.target faults.source (suc more)

        post : copy_post parts to from (suc more) disjoint ≡ between
        post = post_held parts to from (suc more) target.key source.key disjoint target.held source.held

        -- behind a source that is right through any word
        by_any : has_room parts (suc more) ≡ true → source_reach ≡ Anything (has_live_object parts) → (two : Option ℕ) → access_fault state.memory faults.target (suc more) ≡ two →
            first_fault two (if shares then Some overlapping_copy else None) ≡ Some kind → Contains between.kinds kind
        by_any room any (Some other) is fault =
            subst (λ (r : Reach). Contains (copied_between parts gone disjoint (suc more) r target_reach).kinds kind) (sym (any ∙ ap Anything (room_lives parts (suc more) room)))
            (overlap_keeps (disjoint && may_overlap parts (suc more) (Anything true) target_reach) (reach_faults (Anything true)) kind
            (access_kinds state faults.target (suc more) kind (is ∙ fault)))
        by_any room any None is fault =
            let share = some_share shares kind fault in
            subst (λ (r : Reach). Contains (copied_between parts gone disjoint (suc more) r target_reach).kinds kind) (sym any)
            (subst (λ (k : ℕ). Contains (copied_between parts gone disjoint (suc more) (Anything (has_live_object parts)) target_reach).kinds k) share.1
            (overlap_has (disjoint && may_overlap parts (suc more) (Anything (has_live_object parts)) target_reach) (reach_faults (Anything (has_live_object parts)))
            (both (and_first disjoint (share_byte faults.target faults.source (suc more)) share.0) (both room (right (led parts state stands.given form stands.meets target.key (suc more) target_value.value target_value.is target_value.names
            (ap (λ (w : Word). access_fault state.memory w (suc more)) target.word_is ∙ is)))))))
          where
            both : {a b : Bool} → a ≡ true → b ≡ true → (a && b) ≡ true
            both {a} {b} one two = ap (λ (c : Bool). c && b) one ∙ two

            right : Led parts state stands.given target.key (suc more) → may_be_right parts (suc more) target_reach ≡ true
            right (Anywhere any) = ap (λ (o : Option Value). may_be_right parts (suc more) (value_reach parts target.key o (suc more))) any ∙ room
            right (Within two) = ap (may_be_right parts (suc more)) two.reach

        -- behind bytes of an object
        by_met : (one : IsMet parts state stands.given source.key (suc more)) → (two : Option ℕ) → access_fault state.memory faults.target (suc more) ≡ two →
            first_fault two (if shares then Some overlapping_copy else None) ≡ Some kind → Contains between.kinds kind
        by_met one (Some other) is fault =
            subst (λ (p : Posted). Contains p.kinds kind) (sym (between_room parts gone disjoint (suc more) source_reach target_reach one.key one.from one.object one.reach one.stands))
            (overlap_keeps (disjoint && may_overlap parts (suc more) (Room one.key one.from) target_reach) (on_reach parts target_reach (object_copied parts gone disjoint (suc more) one.key one.object one.from)) kind
            (kinds_listed parts state stands.given form stands.meets target.key (suc more) target_value.value target_value.is target_value.names kind
            (ap (λ (w : Word). access_fault state.memory w (suc more)) target.word_is ∙ is ∙ fault) (object_copied parts gone disjoint (suc more) one.key one.object one.from)))
        by_met one None is fault =
            by_led (led parts state stands.given form stands.meets target.key (suc more) target_value.value target_value.is target_value.names (ap (λ (w : Word). access_fault state.memory w (suc more)) target.word_is ∙ is))
          where
            share : (shares ≡ true) × (overlapping_copy ≡ kind)
            share = some_share shares kind fault

            both : {a b : Bool} → a ≡ true → b ≡ true → (a && b) ≡ true
            both {a} {b} one two = ap (λ (c : Bool). c && b) one ∙ two

            by_led : Led parts state stands.given target.key (suc more) → Contains between.kinds kind
            by_led (Anywhere any) =
                subst (λ (p : Posted). Contains p.kinds kind) (sym (between_room parts gone disjoint (suc more) source_reach target_reach one.key one.from one.object one.reach one.stands))
                (subst (λ (k : ℕ). Contains (with_overlap (disjoint && may_overlap parts (suc more) (Room one.key one.from) target_reach) (on_reach parts target_reach (object_copied parts gone disjoint (suc more) one.key one.object one.from))).kinds k) share.1
                (overlap_has (disjoint && may_overlap parts (suc more) (Room one.key one.from) target_reach) (on_reach parts target_reach (object_copied parts gone disjoint (suc more) one.key one.object one.from))
                (both (and_first disjoint (share_byte faults.target faults.source (suc more)) share.0)
                (ap (λ (o : Option Value). may_overlap parts (suc more) (Room one.key one.from) (value_reach parts target.key o (suc more))) any
                ∙ room_somewhere parts state stands.given stands.meets (suc more) faults.target is))))
            by_led (Within two) =
                subst (λ (p : Posted). Contains p.kinds kind)
                (sym (between_rooms parts gone disjoint (suc more) source_reach target_reach one.key one.from one.object two.key two.from two.object one.reach one.stands two.reach two.stands))
                (overlapped (disjoint && overlap two.key two.from one.key one.from (suc more)) (sym words ∙ share.0))
              where
                words : shares ≡ (disjoint && overlap two.key two.from one.key one.from (suc more))
                words =
                    ap (λ (w : Word). disjoint && share_byte w faults.source (suc more)) (sym target.word_is ∙ two.word)
                    ∙ ap (λ (w : Word). disjoint && share_byte (To two.number (pos two.from)) w (suc more)) (sym source.word_is ∙ one.word)
                    ∙ ap (λ (b : Bool). disjoint && b) (share_is parts state stands.given stands.meets two.key two.from one.key one.from (suc more) two.number one.number
                    (IsSome-holds _ _ two.stands) (IsSome-holds _ _ one.stands) two.blocks one.blocks)

                overlapped : (b : Bool) → b ≡ true → Contains (object_written parts gone b (suc more) one.object one.from two.key two.object two.from).kinds kind
                overlapped true is = subst (λ (k : ℕ). Contains (overlapping_copy ∷ []) k) share.1 (contains_first overlapping_copy [])
                overlapped false is = absurd (false≢true is)

        by_source : (one : Option ℕ) → access_fault state.memory faults.source (suc more) ≡ one → first_fault one (first_fault (access_fault state.memory faults.target (suc more)) (if shares then Some overlapping_copy else None)) ≡ Some kind →
            Contains between.kinds kind
        by_source (Some other) is fault =
            overlap_keeps (disjoint && may_overlap parts (suc more) source_reach target_reach) (on_reach parts source_reach (behind_source parts gone disjoint (suc more) source_reach target_reach)) kind
            (kinds_listed parts state stands.given form stands.meets source.key (suc more) source_value.value source_value.is source_value.names kind
            (ap (λ (w : Word). access_fault state.memory w (suc more)) source.word_is ∙ is ∙ fault) (behind_source parts gone disjoint (suc more) source_reach target_reach))
        by_source None is fault =
            by_led (led parts state stands.given form stands.meets source.key (suc more) source_value.value source_value.is source_value.names (ap (λ (w : Word). access_fault state.memory w (suc more)) source.word_is ∙ is))
          where
            by_led : Led parts state stands.given source.key (suc more) → Contains between.kinds kind
            by_led (Anywhere any) = by_any (room_somewhere parts state stands.given stands.meets (suc more) faults.source is) (ap (λ (o : Option Value). value_reach parts source.key o (suc more)) any)
                (access_fault state.memory faults.target (suc more)) refl fault
            by_led (Within one) = by_met one (access_fault state.memory faults.target (suc more)) refl fault
