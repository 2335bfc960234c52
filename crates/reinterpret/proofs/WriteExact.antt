-- Where no loss is named, each state of the graph of a write's post follows, but for dead blocks that nothing names.
use Rattle.std.proofs.Common.{◌≡◌, ℕ, ◌≤◌, Bool, true, false, List, [], ◌∷◌, length, take, drop, set, replicate, pos, Option, None, Some, refl, sym, ◌∙◌, ap, subst, arith}
use Rattle.std.specs.Prelude.{slice_get, option_map, Contains, if◌then◌else◌}
use Rattle.std.proofs.lemmas.List.{length-replicate}
use Rattle.std.proofs.lemmas.Option.{same_Some, none-some}
use Rattle.bytes_core.specs.declared.byte.Byte.{Byte}
use Rattle.bytes_core.specs.declared.byte.Byte.TheVariants.{Num}
use Rattle.bytes_core.specs.declared.block.Block.{Block}
use Rattle.bytes_core.specs.declared.word.Word.{Word}
use Rattle.bytes_core.specs.declared.word.Word.TheVariants.{To}
use Rattle.bytes_core.specs.Access.{access_fault, stored}
use Rattle.bytes_core.specs.Value.{word_bytes}
use Rattle.graph.specs.declared.edges.HasValue.{HasValue}
use Rattle.graph.specs.declared.object.Object.{Object}
use Rattle.graph.specs.declared.parts.Parts.{Parts}
use Rattle.graph.specs.declared.value.Target.TheVariants.{Region}
use Rattle.graph.specs.declared.value.Value.{Value}
use Rattle.graph.specs.declared.value.Value.TheVariants.{Address}
use Rattle.graph.specs.Maps.{object_at, held_by}
use Rattle.graph.specs.State.{State, IsState}
use Rattle.graph.specs.WellFormed.{IsWellFormed, may_be_held}
use Rattle.graph.specs.Whole.{IsGraph}
use Rattle.graph.specs.Meaning.{block_word, first_of, ends_of, maps_of, Assignment, Meets, StandsFor}
use Rattle.graph.proofs.AllThere.{all_blocks_may_be_there}
use Rattle.changes.specs.Parts.{with_object, without_registers}
use Rattle.changes.specs.Posted.{Posted, on_reach}
use Rattle.changes.specs.Ranges.{spliced, cuts_none, with_range, edge_for, class_for, written_object}
use Rattle.changes.specs.Reaching.{reach_of, is_address_held}
use Rattle.changes.proofs.Below.{AreThere}
use Rattle.changes.proofs.Held.{held_value, IsAddress, address_at, address_held, state_held, held_meets, held_state}
use Rattle.changes.proofs.Node.{block_with}
use Rattle.changes.proofs.NodeBack.{word_stands}
use Rattle.changes.proofs.RangeForm.{plane_long, graph_written}
use Rattle.changes.proofs.Reached.{only_one, IsReached, reach_graph, IsRoomAt, room_at}
use Rattle.changes.proofs.Region.{IsRegionBlock, behind, old, room_old, block_before, state_before, before_there, before_meets, before_state, put_again}
use Rattle.changes.proofs.Splice.{length-spliced}
use Rattle.changes.proofs.RegistersChanged.{without_agrees, held_without, emptied-words}
use Rattle.changes.specs.Following.{holds_size, Follows}
use Rattle.changes.proofs.Accesses.{no_fault, IsSized, sized_at}
use Rattle.reinterpret.specs.States.{Writes}
use Rattle.reinterpret.specs.Writing.{edge_at, value_written, write_post}
use Rattle.reinterpret.proofs.WriteSound.{stored_is, post_held}

module _ (parts : Parts) (graph : IsGraph parts) (at size from : ℕ) (address : is_address_held parts at ≡ true) (sized : holds_size parts from size ≡ true) (small : size ≤ 8) where
  abbrev pub form : IsWellFormed parts
  form = graph.well_formed

  abbrev pub gone : List ℕ
  gone = at ∷ from ∷ []

  pub source : IsSized parts from size
  source = sized_at parts from size sized

  pub target : (key : ℕ) × (held_by parts.registers at ≡ Some key)
  target = address_held parts at address

  pub target_value : IsAddress parts target.0
  target_value = address_at parts at target.0 target.1 address

  pub source_held : may_be_held source.value ≡ true
  source_held =
      let found = held_value parts from source.key form source.held in
      subst (λ (v : Value). may_be_held v ≡ true) (same_Some _ _ (sym found.is ∙ source.is)) found.held

  pub post : write_post parts at size from ≡ on_reach parts (reach_of parts target.0 size) (value_written parts gone size source.key (Some source.value))
  post = post_held parts at size from target.0 source.key target.1 source.held
      ∙ ap (λ (o : Option Value). on_reach parts (reach_of parts target.0 size) (value_written parts gone size source.key o)) source.is

  -- the graph behind where there is room
  module _ (key start : ℕ) (object : Object) (stands : object_at parts.objects key ≡ Some object) (room : IsRoomAt parts target.0 size key start object) (cuts : cuts_none start size object.edges ≡ true) where
    abbrev pub after : Parts
    after = with_object key (written_object object (edge_at start size source.key) source.value) parts

    after_graph : IsGraph after
    after_graph = graph_written parts key object (edge_at start size source.key) source.value graph stands room.region room.live room.room source.is source.size_is source_held

    module _ (next : State) (given : Assignment) (is : IsState next) (meets : Meets (maps_of (without_registers gone after)) next given) (there : AreThere after next given) where
      abbrev edges : List HasValue
      edges = edge_for source.value (edge_at start size source.key)

      abbrev classes : List ℕ
      classes = replicate size (class_for source.value)

      many : length classes ≡ size
      many = length-replicate size (class_for source.value)

      -- the state in which the registers hold what they held
      abbrev middle : State
      middle = state_held after (without_registers gone after) after_graph.well_formed next given (without_agrees gone after) meets

      middle_meets : Meets (maps_of after) middle given
      middle_meets = held_meets after (without_registers gone after) after_graph.well_formed next given (without_agrees gone after) meets

      middle_state : IsState middle
      middle_state = held_state after (without_registers gone after) after_graph.well_formed next given (without_agrees gone after) meets is there

      -- and that in which the bytes are as they were
      abbrev before : State
      before = state_before parts form middle given key start size object edges classes stands room.live room.region room.room many cuts middle_meets

      were : Meets (maps_of parts) before given
      were = before_meets parts form middle given key start size object edges classes stands room.live room.region room.room many cuts middle_meets

      abbrev now : IsRegionBlock (with_range object start size edges classes) middle given key
      now = behind parts form middle given key start size object edges classes stands room.live room.region room.room many cuts middle_meets

      abbrev was : Block
      was = block_before parts form middle given key start size object edges classes stands room.live room.region room.room many cuts middle_meets

      was_there : slice_get before.memory now.number ≡ Some was
      was_there = before_there parts form middle given key start size object edges classes stands room.live room.region room.room many cuts middle_meets

      long_was : length was.bytes ≡ length now.block.bytes
      long_was = length-spliced now.block.bytes start (old parts form middle given key start size object edges classes stands room.live room.region room.room many cuts middle_meets)
          (room_old parts form middle given key start size object edges classes stands room.live room.region room.room many cuts middle_meets) (Num 0)

      word_is : given.word target.0 ≡ To now.number (pos start)
      word_is = were.values target.0 (Address key (pos start) Region) room.address ∙ ap (λ (ns : List ℕ). block_word (first_of ns) (pos start)) now.blocks

      stand : take size (drop start now.block.bytes) ≡ take size (word_bytes (given.word source.key))
      stand = word_stands object (edge_at start size source.key) source.value (length middle.memory) given.blocks (ends_of (object_at after.objects) given.word) given.word now.block small room.room
          (plane_long parts form key object stands room.region room.live) (middle_meets.values source.key source.value source.is) now.node

      pub written_before : (state : State) × IsState state × StandsFor parts state × Writes at size from state next
      written_before = (
        before,
        before_state parts form middle given key start size object edges classes stands room.live room.region room.room many cuts middle_meets middle_state there,
        record { given = given; meets = were },
        record {
          to = given.word target.0;
          word = given.word source.key;
          address = ap (option_map given.word) target.1;
          value = ap (option_map given.word) source.held;
          room = ap (λ (w : Word). access_fault before.memory w size) word_is
              ∙ no_fault before.memory now.number start size was was_there now.node.live (let a = long_was in let b = now.node.size in let c = room.room in omega arith);
          leaves = record {
            memory = sym (ap (λ (w : Word). stored before.memory w size (given.word source.key)) word_is
                ∙ stored_is before.memory now.number start size (given.word source.key) was was_there
                ∙ ap (λ (bytes : List Byte). set before.memory now.number (block_with was (spliced was.bytes start bytes))) (sym stand)
                ∙ put_again parts form middle given key start size object edges classes stands room.live room.region room.room many cuts middle_meets);
            registers = λ register. meets.registers register ∙ ap (option_map given.word) (held_without gone after register) ∙ sym (emptied-words given.word gone (held_by parts.registers) before.registers register refl);
            variables = λ variable. refl;
            ports = refl;
            roots = refl;
          };
        },
      )

  lossless : (start : ℕ) (object : Object) (b : Bool) → ◌≡◌ {A = Option ℕ} (if b then None else Some 3) None → b ≡ true
  lossless start object true none = refl
  lossless start object false none = absurd (none-some _ (sym none))

  -- each state of the post's graph follows, where all blocks of dead objects are there
  pub write_exact : (after : Parts) (next : State) (given : Assignment) → (write_post parts at size from).loss ≡ None → Contains (write_post parts at size from).graphs after → IsState next → Meets (maps_of after) next given →
      AreThere after next given → (state : State) × IsState state × StandsFor parts state × Writes at size from state next
  write_exact after next given none among is meets there =
      written_before reached.key reached.from reached.object reached.stands room cuts next given is (subst (λ (g : Parts). Meets (maps_of g) next given) (sym same) meets) (subst (λ (g : Parts). AreThere g next given) (sym same) there)
    where
      reached : IsReached parts (reach_of parts target.0 size) (value_written parts gone size source.key (Some source.value)) after
      reached = reach_graph parts (reach_of parts target.0 size) (value_written parts gone size source.key (Some source.value)) after (subst (λ (p : Posted). Contains p.graphs after) post among)

      room : IsRoomAt parts target.0 size reached.key reached.from reached.object
      room = room_at parts target.0 size reached.key reached.from reached.object target_value.value form target_value.is target_value.names reached.is reached.stands

      cuts : cuts_none reached.from size reached.object.edges ≡ true
      cuts = lossless reached.from reached.object (cuts_none reached.from size reached.object.edges) (sym reached.loss ∙ sym (ap (λ (p : Posted). p.loss) post) ∙ none)

      same : without_registers gone (with_object reached.key (written_object reached.object (edge_at reached.from size source.key) source.value) parts) ≡ after
      same = only_one (without_registers gone (with_object reached.key (written_object reached.object (edge_at reached.from size source.key) source.value) parts)) after reached.among

  pub write_follows : (after : Parts) (next : State) → (write_post parts at size from).loss ≡ None → Contains (write_post parts at size from).graphs after → IsState next → StandsFor after next →
      Follows parts (Writes at size from) next
  write_follows after next none among is stands =
      let all = all_blocks_may_be_there after next stands.given is stands.meets in
      let before = write_exact after all.next all.given none among all.is all.meets all.there in
      record { state = before.0; next' = all.next; is = before.1; stands = before.2; steps = before.3; more = all.more }
