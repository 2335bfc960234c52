-- Where no loss is named, each state of the graph of a copy's post follows, but for dead blocks that nothing names.
use Rattle.std.proofs.Common.{◌≡◌, ℕ, zero, suc, ◌+◌, ◌-◌, ◌≤◌, Bool, true, false, not, ◌&&◌, List, [], ◌∷◌, ◌++◌, length, take, drop, set, min, pos, Option, None, Some, refl, sym, ◌∙◌, ap, subst, length-take, length-drop, arith}
use Rattle.std.specs.Prelude.{slice_get, option_map, Contains, if◌then◌else◌}
use Rattle.std.specs.List.{filter}
use Rattle.std.proofs.lemmas.Bool.{false≢true}
use Rattle.std.proofs.lemmas.Option.{none-some}
use Rattle.bytes_core.specs.declared.byte.Byte.{Byte}
use Rattle.bytes_core.specs.declared.byte.Byte.TheVariants.{Num}
use Rattle.bytes_core.specs.declared.block.Block.{Block}
use Rattle.bytes_core.specs.declared.word.Word.{Word}
use Rattle.bytes_core.specs.declared.word.Word.TheVariants.{To}
use Rattle.bytes_core.specs.Access.{access_fault}
use Rattle.bytes_core.specs.Copying.{first_fault, share_byte, copy_fault, copied}
use Rattle.bytes_core.specs.Fault.{overlapping_copy}
use Rattle.bytes_core.proofs.Kept.{copied_nothing}
use Rattle.graph.specs.declared.edges.HasValue.{HasValue}
use Rattle.graph.specs.declared.object.Object.{Object}
use Rattle.graph.specs.declared.parts.Parts.{Parts}
use Rattle.graph.specs.declared.value.Target.TheVariants.{Region}
use Rattle.graph.specs.declared.value.Value.TheVariants.{Address}
use Rattle.graph.specs.Maps.{object_at, held_by}
use Rattle.graph.specs.State.{State, IsState}
use Rattle.graph.specs.WellFormed.{IsWellFormed}
use Rattle.graph.specs.Whole.{IsGraph}
use Rattle.graph.specs.Meaning.{HaveClasses, block_word, first_of, maps_of, Assignment, Meets, StandsFor}
use Rattle.graph.proofs.AllThere.{all_blocks_may_be_there}
use Rattle.graph.proofs.Found.{IsSome-holds}
use Rattle.graph.proofs.Tests.{and_left, and_right}
use Rattle.changes.specs.declared.reach.Reach.{Reach}
use Rattle.changes.specs.Following.{Follows}
use Rattle.changes.specs.Parts.{with_object, without_registers}
use Rattle.changes.specs.Posted.{Posted}
use Rattle.changes.specs.Ranges.{spliced, ends_before, begins_behind, cuts_none, with_range}
use Rattle.changes.specs.Reaching.{reach_of, is_address_held}
use Rattle.changes.proofs.Accesses.{no_fault}
use Rattle.changes.proofs.Below.{AreThere}
use Rattle.changes.proofs.Held.{IsAddress, address_at, address_held, state_held, held_meets, held_state}
use Rattle.changes.proofs.Node.{HaveClasses-range, HoldEdges-left, HoldEdges-right, block_with}
use Rattle.changes.proofs.RangeForm.{plane_long}
use Rattle.changes.proofs.Reached.{only_one, IsRoomAt, room_at}
use Rattle.changes.proofs.Region.{IsRegionBlock, region_block, behind, old, room_old, block_before, state_before, before_there, before_meets, before_state, put_again}
use Rattle.changes.proofs.RegistersChanged.{without_agrees, held_without, emptied-words}
use Rattle.changes.proofs.Splice.{length-spliced, range_within}
use Rattle.range_steps.specs.Copies.{Copies}
use Rattle.range_steps.specs.Copying.{moved_edges, has_bare_byte, copied_object, copies_all, overlap, copied_between, copy_post}
use Rattle.range_steps.proofs.Between.{post_held, IsCopied, copied_graph}
use Rattle.range_steps.proofs.CopySound.{copied_is, share_is, nothing_shared}
use Rattle.range_steps.proofs.Moving.{graph_copied}
use Rattle.range_steps.proofs.Told.{ranges_same}

-- new items are found in their range
stands_there : {A : Type 0} (items : List A) (from count : ℕ) (new : List A) (d : A) → length new ≡ count → from + count ≤ length items → take count (drop from (spliced items from new)) ≡ new
stands_there items from count new d long room =
    range_within items from new (let e = long in omega arith) d from count (omega arith) (let e = long in omega arith)
    ∙ ap (λ (n : ℕ). take count (drop n new)) (let e : from - from ≡ 0 = omega arith in e)
    ∙ take_own count new (let e = long in omega arith)
  where
    take_own : {A : Type 0} (n : ℕ) (xs : List A) → length xs ≤ n → take n xs ≡ xs
    take_own zero [] enough = refl
    take_own zero (x ∷ xs) enough = absurd (omega arith)
    take_own (suc n) [] enough = refl
    take_own (suc n) (x ∷ xs) enough = ap (λ (ys : List _). x ∷ ys) (take_own n xs (omega arith))

module _ (parts : Parts) (graph : IsGraph parts) (to from : ℕ) (disjoint : Bool) (to_address : is_address_held parts to ≡ true) (from_address : is_address_held parts from ≡ true) where
  abbrev pub form : IsWellFormed parts
  form = graph.well_formed

  abbrev pub gone : List ℕ
  gone = to ∷ from ∷ []

  pub target : (key : ℕ) × (held_by parts.registers to ≡ Some key)
  target = address_held parts to to_address

  pub source : (key : ℕ) × (held_by parts.registers from ≡ Some key)
  source = address_held parts from from_address

  pub target_value : IsAddress parts target.0
  target_value = address_at parts to target.0 target.1 to_address

  pub source_value : IsAddress parts source.0
  source_value = address_at parts from source.0 source.1 from_address

  abbrev pub source_reach : ℕ → Reach
  source_reach count = reach_of parts source.0 count

  abbrev pub target_reach : ℕ → Reach
  target_reach count = reach_of parts target.0 count

  pub post_suc : (more : ℕ) → copy_post parts to from (suc more) disjoint ≡ copied_between parts gone disjoint (suc more) (source_reach (suc more)) (target_reach (suc more))
  post_suc more = post_held parts to from (suc more) target.0 source.0 disjoint target.1 source.1

  -- where both lead to bytes of objects and nothing is lost
  module _ (more key start other at : ℕ) (object object' : Object) (stands : object_at parts.objects key ≡ Some object) (stands' : object_at parts.objects other ≡ Some object')
      (room : IsRoomAt parts source.0 (suc more) key start object) (room' : IsRoomAt parts target.0 (suc more) other at object')
      (apart : (disjoint && overlap other at key start (suc more)) ≡ false) (cuts : cuts_none start (suc more) object.edges ≡ true) (bare : has_bare_byte object.edges object.plane start (suc more) ≡ false)
      (cuts' : cuts_none at (suc more) object'.edges ≡ true) where
    abbrev count : ℕ
    count = suc more

    abbrev edges : List HasValue
    edges = moved_edges object.edges start count at

    abbrev classes : List ℕ
    classes = take count (drop start object.plane)

    long_plane : length object.plane ≡ object.size
    long_plane = plane_long parts form key object stands room.region room.live

    long_plane' : length object'.plane ≡ object'.size
    long_plane' = plane_long parts form other object' stands' room'.region room'.live

    many : length classes ≡ count
    many = length-take count (drop start object.plane) ∙ ap (min count) (length-drop start object.plane) ∙ (let l = long_plane in let r = room.room in omega arith)

    abbrev pub after : Parts
    after = with_object other (copied_object object start object' at count) parts

    after_graph : IsGraph after
    after_graph = graph_copied parts graph key start count other at object object' stands room.region room.live room.room stands' room'.region room'.live room'.room

    module _ (next : State) (given : Assignment) (is : IsState next) (meets : Meets (maps_of (without_registers gone after)) next given) (there : AreThere after next given) where
      -- the state in which the registers hold what they held
      abbrev middle : State
      middle = state_held after (without_registers gone after) after_graph.well_formed next given (without_agrees gone after) meets

      middle_meets : Meets (maps_of after) middle given
      middle_meets = held_meets after (without_registers gone after) after_graph.well_formed next given (without_agrees gone after) meets

      middle_state : IsState middle
      middle_state = held_state after (without_registers gone after) after_graph.well_formed next given (without_agrees gone after) meets is there

      -- and that in which the bytes are as they were
      abbrev before : State
      before = state_before parts form middle given other at count object' edges classes stands' room'.live room'.region room'.room many cuts' middle_meets

      were : Meets (maps_of parts) before given
      were = before_meets parts form middle given other at count object' edges classes stands' room'.live room'.region room'.room many cuts' middle_meets

      abbrev now : IsRegionBlock (with_range object' at count edges classes) middle given other
      now = behind parts form middle given other at count object' edges classes stands' room'.live room'.region room'.room many cuts' middle_meets

      abbrev was : Block
      was = block_before parts form middle given other at count object' edges classes stands' room'.live room'.region room'.room many cuts' middle_meets

      was_there : slice_get before.memory now.number ≡ Some was
      was_there = before_there parts form middle given other at count object' edges classes stands' room'.live room'.region room'.room many cuts' middle_meets

      long_was : length was.bytes ≡ length now.block.bytes
      long_was = length-spliced now.block.bytes at (old parts form middle given other at count object' edges classes stands' room'.live room'.region room'.room many cuts' middle_meets)
          (room_old parts form middle given other at count object' edges classes stands' room'.live room'.region room'.room many cuts' middle_meets) (Num 0)

      -- the source's block, as it was
      one : IsRegionBlock object before given key
      one = region_block parts before given key object were stands room.live room.region

      target_is : given.word target.0 ≡ To now.number (pos at)
      target_is = were.values target.0 (Address other (pos at) Region) room'.address ∙ ap (λ (ns : List ℕ). block_word (first_of ns) (pos at)) now.blocks

      source_is : given.word source.0 ≡ To one.number (pos start)
      source_is = were.values source.0 (Address key (pos start) Region) room.address ∙ ap (λ (ns : List ℕ). block_word (first_of ns) (pos start)) one.blocks

      -- the bytes that stand in the target's range behind are those of the source's before
      same_bytes : take count (drop at now.block.bytes) ≡ take count (drop start one.block.bytes)
      same_bytes =
          ranges_same one.block.bytes now.block.bytes given.word start count at object.edges object.plane
          (let s = one.node.size in let r = room.room in omega arith) (let s = now.node.size in let r = room'.room in omega arith) (let l = long_plane in let r = room.room in omega arith)
          one.node.edges
          (HoldEdges-left now.block.bytes given.word edges (filter (begins_behind (at + count)) object'.edges)
          (HoldEdges-right now.block.bytes given.word (filter (ends_before at) object'.edges) (edges ++ filter (begins_behind (at + count)) object'.edges) now.node.edges))
          (HaveClasses-range start count object.plane one.block.bytes one.node.classes)
          (subst (λ (cs : List ℕ). HaveClasses cs (take count (drop at now.block.bytes))) (stands_there object'.plane at count classes 0 many (let l = long_plane' in let r = room'.room in omega arith))
          (HaveClasses-range at count (spliced object'.plane at classes) now.block.bytes now.node.classes))
          cuts bare

      shared : (disjoint && share_byte (To now.number (pos at)) (To one.number (pos start)) count) ≡ false
      shared =
          ap (λ (b : Bool). disjoint && b) (share_is parts before given were other at key start count now.number one.number (IsSome-holds _ _ stands') (IsSome-holds _ _ stands) now.blocks one.blocks) ∙ apart

      no_faults : copy_fault before.memory (given.word target.0) (given.word source.0) count disjoint ≡ None
      no_faults =
          ap (λ (w : Word). copy_fault before.memory w (given.word source.0) count disjoint) target_is
          ∙ ap (λ (w : Word). copy_fault before.memory (To now.number (pos at)) w count disjoint) source_is
          ∙ ap (λ (o : Option ℕ). first_fault o (first_fault (access_fault before.memory (To now.number (pos at)) count) (if disjoint && share_byte (To now.number (pos at)) (To one.number (pos start)) count then Some overlapping_copy else None)))
          (no_fault before.memory one.number start count one.block one.there one.node.live (let s = one.node.size in let r = room.room in omega arith))
          ∙ ap (λ (o : Option ℕ). first_fault o (if disjoint && share_byte (To now.number (pos at)) (To one.number (pos start)) count then Some overlapping_copy else None))
          (no_fault before.memory now.number at count was was_there now.node.live (let a = long_was in let b = now.node.size in let c = room'.room in omega arith))
          ∙ ap (λ (b : Bool). if b then Some overlapping_copy else None) shared

      pub copied_before : (state : State) × IsState state × StandsFor parts state × Copies to from count disjoint state next
      copied_before = (
        before,
        before_state parts form middle given other at count object' edges classes stands' room'.live room'.region room'.room many cuts' middle_meets middle_state there,
        record { given = given; meets = were },
        record {
          target = given.word target.0;
          source = given.word source.0;
          to_holds = ap (option_map given.word) target.1;
          from_holds = ap (option_map given.word) source.1;
          room = no_faults;
          leaves = record {
            memory = sym (ap (λ (w : Word). copied before.memory w (given.word source.0) count) target_is
                ∙ ap (λ (w : Word). copied before.memory (To now.number (pos at)) w count) source_is
                ∙ copied_is before.memory now.number at one.number start count was one.block was_there one.there
                ∙ ap (λ (bytes : List Byte). set before.memory now.number (block_with was (spliced was.bytes at bytes))) (sym same_bytes)
                ∙ put_again parts form middle given other at count object' edges classes stands' room'.live room'.region room'.room many cuts' middle_meets);
            registers = λ register. meets.registers register ∙ ap (option_map given.word) (held_without gone after register) ∙ sym (emptied-words given.word gone (held_by parts.registers) before.registers register refl);
            variables = λ variable. refl;
            ports = refl;
            roots = refl;
          };
        },
      )

  lossless : (b : Bool) → ◌≡◌ {A = Option ℕ} (if b then None else Some 3) None → b ≡ true
  lossless true none = refl
  lossless false none = absurd (none-some _ (sym none))

  is_not : (b : Bool) → not b ≡ true → b ≡ false
  is_not true is = absurd (false≢true is)
  is_not false is = refl

  -- each state of the post's graph follows, where all blocks of dead objects are there
  pub copy_exact : (length : ℕ) (after : Parts) (next : State) (given : Assignment) → (copy_post parts to from length disjoint).loss ≡ None → Contains (copy_post parts to from length disjoint).graphs after → IsState next → Meets (maps_of after) next given →
      AreThere after next given → (state : State) × IsState state × StandsFor parts state × Copies to from length disjoint state next
  copy_exact zero after next given none among is meets there = (
    before,
    held_state parts (without_registers gone parts) form next given (without_agrees gone parts) meets' is there',
    record { given = given; meets = held_meets parts (without_registers gone parts) form next given (without_agrees gone parts) meets' },
    record {
      target = given.word target.0;
      source = given.word source.0;
      to_holds = ap (option_map given.word) target.1;
      from_holds = ap (option_map given.word) source.1;
      room = ap (λ (b : Bool). if disjoint && b then Some overlapping_copy else None) (nothing_shared (given.word target.0) (given.word source.0)) ∙ none_of disjoint;
      leaves = record {
        memory = sym (copied_nothing before.memory (given.word target.0) (given.word source.0) 0 refl);
        registers = λ register. meets'.registers register ∙ ap (option_map given.word) (held_without gone parts register) ∙ sym (emptied-words given.word gone (held_by parts.registers) before.registers register refl);
        variables = λ variable. refl;
        ports = refl;
        roots = refl;
      };
    },
  )
    where
      same : without_registers gone parts ≡ after
      same = only_one (without_registers gone parts) after (subst (λ (p : Posted). Contains p.graphs after) (post_held parts to from 0 target.0 source.0 disjoint target.1 source.1) among)

      meets' : Meets (maps_of (without_registers gone parts)) next given
      meets' = subst (λ (g : Parts). Meets (maps_of g) next given) (sym same) meets

      there' : AreThere parts next given
      there' = subst (λ (g : Parts). AreThere g next given) (sym same) there

      before : State
      before = state_held parts (without_registers gone parts) form next given (without_agrees gone parts) meets'

      none_of : (d : Bool) → ◌≡◌ {A = Option ℕ} (if d && false then Some overlapping_copy else None) None
      none_of true = refl
      none_of false = refl
  copy_exact (suc more) after next given none among is meets there =
      copied_before more found.key found.from found.other found.at found.object found.object' found.stands found.stands' room room' found.apart
      (and_left (cuts_none found.from (suc more) found.object.edges) (not (has_bare_byte found.object.edges found.object.plane found.from (suc more))) told)
      (is_not (has_bare_byte found.object.edges found.object.plane found.from (suc more)) (and_right (cuts_none found.from (suc more) found.object.edges) (not (has_bare_byte found.object.edges found.object.plane found.from (suc more))) told))
      (and_right (cuts_none found.from (suc more) found.object.edges && not (has_bare_byte found.object.edges found.object.plane found.from (suc more))) (cuts_none found.at (suc more) found.object'.edges) whole)
      next given is (subst (λ (g : Parts). Meets (maps_of g) next given) (sym found.same) meets) (subst (λ (g : Parts). AreThere g next given) (sym found.same) there)
    where
      found : IsCopied parts gone disjoint (suc more) (source_reach (suc more)) (target_reach (suc more)) after
      found = copied_graph parts gone disjoint (suc more) (source_reach (suc more)) (target_reach (suc more)) after (subst (λ (p : Posted). Contains p.graphs after) (post_suc more) among)

      room : IsRoomAt parts source.0 (suc more) found.key found.from found.object
      room = room_at parts source.0 (suc more) found.key found.from found.object source_value.value form source_value.is source_value.names found.source_is found.stands

      room' : IsRoomAt parts target.0 (suc more) found.other found.at found.object'
      room' = room_at parts target.0 (suc more) found.other found.at found.object' target_value.value form target_value.is target_value.names found.target_is found.stands'

      whole : copies_all found.object found.from found.object' found.at (suc more) ≡ true
      whole = lossless (copies_all found.object found.from found.object' found.at (suc more)) (sym found.loss ∙ sym (ap (λ (p : Posted). p.loss) (post_suc more)) ∙ none)

      told : (cuts_none found.from (suc more) found.object.edges && not (has_bare_byte found.object.edges found.object.plane found.from (suc more))) ≡ true
      told = and_left (cuts_none found.from (suc more) found.object.edges && not (has_bare_byte found.object.edges found.object.plane found.from (suc more))) (cuts_none found.at (suc more) found.object'.edges) whole

  pub copy_follows : (length : ℕ) (after : Parts) (next : State) → (copy_post parts to from length disjoint).loss ≡ None → Contains (copy_post parts to from length disjoint).graphs after → IsState next → StandsFor after next →
      Follows parts (Copies to from length disjoint) next
  copy_follows length after next none among is stands =
      let all = all_blocks_may_be_there after next stands.given is stands.meets in
      let before = copy_exact length after all.next all.given none among all.is all.meets all.there in
      record { state = before.0; next' = all.next; is = before.1; stands = before.2; steps = before.3; more = all.more }
