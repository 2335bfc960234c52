-- Where no loss is named, each state of the graph of a fill's post follows, but for dead blocks that nothing names.
use Rattle.std.proofs.Common.{◌≡◌, ℕ, zero, suc, ◌%◌, Bool, true, false, List, [], ◌∷◌, length, take, drop, set, replicate, pos, None, Some, refl, sym, ◌∙◌, ap, subst, arith}
use Rattle.std.specs.Prelude.{IsSome, slice_get, option_map, Contains}
use Rattle.std.proofs.lemmas.List.{length-replicate}
use Rattle.std.proofs.lemmas.Option.{none-some}
use Rattle.bytes_core.specs.declared.byte.Byte.{Byte}
use Rattle.bytes_core.specs.declared.byte.Byte.TheVariants.{Num, Part}
use Rattle.bytes_core.specs.declared.block.Block.{Block}
use Rattle.bytes_core.specs.declared.word.Word.{Word}
use Rattle.bytes_core.specs.declared.word.Word.TheVariants.{To}
use Rattle.bytes_core.specs.Access.{access_fault, filled}
use Rattle.bytes_core.specs.Value.{address_number}
use Rattle.bytes_core.proofs.Kept.{written_nothing}
use Rattle.graph.specs.declared.object.Object.{Object}
use Rattle.graph.specs.declared.parts.Parts.{Parts}
use Rattle.graph.specs.declared.value.Target.TheVariants.{Region}
use Rattle.graph.specs.declared.value.Value.TheVariants.{Address}
use Rattle.graph.specs.Maps.{object_at, held_by}
use Rattle.graph.specs.State.{State, IsState}
use Rattle.graph.specs.WellFormed.{IsWellFormed}
use Rattle.graph.specs.Whole.{IsGraph}
use Rattle.graph.specs.Meaning.{HaveClasses, block_word, first_of, ends_of, maps_of, Assignment, Meets, StandsFor}
use Rattle.graph.proofs.AllThere.{all_blocks_may_be_there}
use Rattle.graph.proofs.Found.{Holds-some}
use Rattle.changes.specs.Following.{Follows}
use Rattle.changes.specs.Parts.{with_object, without_registers}
use Rattle.changes.specs.Posted.{Posted, on_reach, SomeStandsFor}
use Rattle.changes.specs.Ranges.{spliced, cuts_none, with_range}
use Rattle.changes.specs.Reaching.{reach_of, is_address_held}
use Rattle.changes.proofs.Below.{AreThere}
use Rattle.changes.proofs.Held.{IsHeldValue, held_value, IsAddress, address_at, address_held, state_held, held_meets, held_state}
use Rattle.changes.proofs.KeptForm.{graph_kept}
use Rattle.changes.proofs.Node.{HaveClasses-range, block_with}
use Rattle.changes.proofs.NodeBack.{range_stands}
use Rattle.changes.proofs.RangeForm.{plane_long, range_fit}
use Rattle.changes.proofs.Reached.{only_one, IsReached, reach_graph, IsRoomAt, room_at}
use Rattle.changes.proofs.Region.{IsRegionBlock, behind, old, room_old, block_before, state_before, before_there, before_meets, before_state, put_again}
use Rattle.changes.proofs.Splice.{length-spliced}
use Rattle.changes.proofs.RegistersChanged.{without_agrees, held_without, emptied-words}
use Rattle.changes.proofs.Accesses.{no_fault}
use Rattle.range_steps.specs.Filling.{Fills, fills_zeros, class_filled, loss_filled, bytes_filled, fill_through, fill_post}
use Rattle.changes.proofs.Emptied.{before_meets as emptied_before_meets, before_state as emptied_before_state, before_leaves as emptied_before_leaves, before as emptied_before}
use Rattle.range_steps.proofs.FillSound.{filled_is, fills_zero, fill_held}

-- bytes of class 0 are zeros
zeros_are : (bytes : List Byte) (n : ℕ) → HaveClasses (replicate n 0) bytes → bytes ≡ replicate n (Num 0)
zeros_are [] zero has = refl
zeros_are [] (suc n) has = absurd has
zeros_are (byte ∷ bytes) zero has = absurd has
zeros_are (Part block offset k ∷ bytes) (suc n) has = absurd has.0
zeros_are (Num number ∷ bytes) (suc n) has = ap (λ (m : ℕ). Num m ∷ bytes) has.0 ∙ ap (λ (bs : List Byte). Num 0 ∷ bs) (zeros_are bytes n has.1)

module _ (parts : Parts) (graph : IsGraph parts) (at from : ℕ) (address : is_address_held parts at ≡ true) (value_held : IsSome (held_by parts.registers from)) where
  abbrev pub form : IsWellFormed parts
  form = graph.well_formed

  abbrev pub gone : List ℕ
  gone = at ∷ from ∷ []

  pub target : (key : ℕ) × (held_by parts.registers at ≡ Some key)
  target = address_held parts at address

  pub target_value : IsAddress parts target.0
  target_value = address_at parts at target.0 target.1 address

  pub source : (key : ℕ) × (held_by parts.registers from ≡ Some key)
  source = let found = Holds-some (held_by parts.registers from) value_held in (found.item, found.is)

  pub source_value : IsHeldValue parts source.0
  source_value = held_value parts from source.0 form source.1

  -- a fill with zeros of bytes of an object
  module _ (count key start : ℕ) (object : Object) (zeros : fills_zeros source_value.value ≡ true) (stands : object_at parts.objects key ≡ Some object) (room : IsRoomAt parts target.0 (suc count) key start object)
      (cuts : cuts_none start (suc count) object.edges ≡ true) where
    abbrev pub size : ℕ
    size = suc count

    abbrev classes : List ℕ
    classes = replicate size 0

    many : length classes ≡ size
    many = length-replicate size 0

    abbrev pub after : Parts
    after = with_object key (with_range object start size [] classes) parts

    after_graph : IsGraph after
    after_graph =
        graph_kept parts key object (with_range object start size [] classes) stands room.region room.region refl graph
        (range_fit parts form key object stands room.region room.live start size [] classes room.room
        (record { many = many; holds = refl; home = refl; lie = refl; order = refl; sizes = refl; fits = refl; nonzero = refl }))

    module _ (next : State) (given : Assignment) (is : IsState next) (meets : Meets (maps_of (without_registers gone after)) next given) (there : AreThere after next given) where
      abbrev middle : State
      middle = state_held after (without_registers gone after) after_graph.well_formed next given (without_agrees gone after) meets

      middle_meets : Meets (maps_of after) middle given
      middle_meets = held_meets after (without_registers gone after) after_graph.well_formed next given (without_agrees gone after) meets

      middle_state : IsState middle
      middle_state = held_state after (without_registers gone after) after_graph.well_formed next given (without_agrees gone after) meets is there

      abbrev before : State
      before = state_before parts form middle given key start size object [] classes stands room.live room.region room.room many cuts middle_meets

      were : Meets (maps_of parts) before given
      were = before_meets parts form middle given key start size object [] classes stands room.live room.region room.room many cuts middle_meets

      abbrev now : IsRegionBlock (with_range object start size [] classes) middle given key
      now = behind parts form middle given key start size object [] classes stands room.live room.region room.room many cuts middle_meets

      abbrev was : Block
      was = block_before parts form middle given key start size object [] classes stands room.live room.region room.room many cuts middle_meets

      was_there : slice_get before.memory now.number ≡ Some was
      was_there = before_there parts form middle given key start size object [] classes stands room.live room.region room.room many cuts middle_meets

      long_was : length was.bytes ≡ length now.block.bytes
      long_was = length-spliced now.block.bytes start (old parts form middle given key start size object [] classes stands room.live room.region room.room many cuts middle_meets)
          (room_old parts form middle given key start size object [] classes stands room.live room.region room.room many cuts middle_meets) (Num 0)

      word_is : given.word target.0 ≡ To now.number (pos start)
      word_is = were.values target.0 (Address key (pos start) Region) room.address ∙ ap (λ (ns : List ℕ). block_word (first_of ns) (pos start)) now.blocks

      -- zeros stand in the range behind
      stand : take size (drop start now.block.bytes) ≡ replicate size (Num 0)
      stand =
          zeros_are (take size (drop start now.block.bytes)) size
          (subst (λ (cs : List ℕ). HaveClasses cs (take size (drop start now.block.bytes)))
          (range_stands object.plane start size 0 (let long = plane_long parts form key object stands room.region room.live in let r = room.room in omega arith))
          (HaveClasses-range start size (spliced object.plane start classes) now.block.bytes now.node.classes))

      byte_is : address_number before.memory (given.word source.0) % 256 ≡ 0
      byte_is = fills_zero before.memory (length before.memory) given.blocks (ends_of (maps_of parts).objects given.word) source_value.value (given.word source.0) (were.values source.0 source_value.value source_value.is) zeros

      pub filled_before : (state : State) × IsState state × StandsFor parts state × Fills at from size state next
      filled_before = (
        before,
        before_state parts form middle given key start size object [] classes stands room.live room.region room.room many cuts middle_meets middle_state there,
        record { given = given; meets = were },
        record {
          to = given.word target.0;
          word = given.word source.0;
          address = ap (option_map given.word) target.1;
          value = ap (option_map given.word) source.1;
          room = ap (λ (w : Word). access_fault before.memory w size) word_is
              ∙ no_fault before.memory now.number start size was was_there now.node.live (let a = long_was in let b = now.node.size in let c = room.room in omega arith);
          leaves = record {
            memory = sym (ap (λ (w : Word). filled before.memory w (address_number before.memory (given.word source.0) % 256) size) word_is
                ∙ ap (λ (n : ℕ). filled before.memory (To now.number (pos start)) n size) byte_is
                ∙ filled_is before.memory now.number start size 0 was was_there
                ∙ ap (λ (bytes : List Byte). set before.memory now.number (block_with was (spliced was.bytes start bytes))) (sym stand)
                ∙ put_again parts form middle given key start size object [] classes stands room.live room.region room.room many cuts middle_meets);
            registers = λ register. meets.registers register ∙ ap (option_map given.word) (held_without gone after register) ∙ sym (emptied-words given.word gone (held_by parts.registers) before.registers register refl);
            variables = λ variable. refl;
            ports = refl;
            roots = refl;
          };
        },
      )

  lossless : (cut zeros : Bool) → loss_filled cut zeros ≡ None → (cut ≡ true) × (zeros ≡ true)
  lossless false zeros none = absurd (none-some 3 (sym none))
  lossless true false none = absurd (none-some 6 (sym none))
  lossless true true none = (refl, refl)

  pub post_suc : (more : ℕ) → fill_post parts at from (suc more) ≡ on_reach parts (reach_of parts target.0 (suc more)) (bytes_filled parts gone (suc more) (fills_zeros source_value.value))
  post_suc more = fill_held parts at from (suc more) target.0 source.0 target.1 source.1 ∙ ap (fill_through parts gone (suc more) target.0) source_value.is

  -- each state of the post's graph follows, where all blocks of dead objects are there
  fill_exact : (count : ℕ) (after : Parts) (next : State) (given : Assignment) → (fill_post parts at from count).loss ≡ None → Contains (fill_post parts at from count).graphs after → IsState next → Meets (maps_of after) next given →
      AreThere after next given → (state : State) × IsState state × StandsFor parts state × Fills at from count state next
  fill_exact zero after next given none among is meets there =
      let same : without_registers gone parts ≡ after = only_one (without_registers gone parts) after (subst (λ (p : Posted). Contains p.graphs after) (fill_held parts at from zero target.0 source.0 target.1 source.1) among) in
      let met = subst (λ (g : Parts). Meets (maps_of g) next given) (sym same) meets in
      let there' = subst (λ (g : Parts). AreThere g next given) (sym same) there in
      let leaves = emptied_before_leaves gone parts graph next given met in (
        emptied_before gone parts graph given next,
        emptied_before_state gone parts graph next given is met there',
        record { given = given; meets = emptied_before_meets gone parts graph next given met },
        record {
          to = given.word target.0;
          word = given.word source.0;
          address = ap (option_map given.word) target.1;
          value = ap (option_map given.word) source.1;
          room = refl;
          leaves = record { memory = sym (written_nothing next.memory (given.word target.0)); registers = leaves.registers; variables = leaves.variables; ports = leaves.ports; roots = leaves.roots };
        },
      )
  fill_exact (suc more) after next given none among is meets there =
      filled_before more reached.key reached.from reached.object precise.1 reached.stands room precise.0 next given is
      (subst (λ (g : Parts). Meets (maps_of g) next given) (sym same) meets) (subst (λ (g : Parts). AreThere g next given) (sym same) there)
    where
      reached : IsReached parts (reach_of parts target.0 (suc more)) (bytes_filled parts gone (suc more) (fills_zeros source_value.value)) after
      reached = reach_graph parts (reach_of parts target.0 (suc more)) (bytes_filled parts gone (suc more) (fills_zeros source_value.value)) after (subst (λ (p : Posted). Contains p.graphs after) (post_suc more) among)

      room : IsRoomAt parts target.0 (suc more) reached.key reached.from reached.object
      room = room_at parts target.0 (suc more) reached.key reached.from reached.object target_value.value form target_value.is target_value.names reached.is reached.stands

      precise : (cuts_none reached.from (suc more) reached.object.edges ≡ true) × (fills_zeros source_value.value ≡ true)
      precise = lossless (cuts_none reached.from (suc more) reached.object.edges) (fills_zeros source_value.value) (sym reached.loss ∙ sym (ap (λ (p : Posted). p.loss) (post_suc more)) ∙ none)

      same : without_registers gone (with_object reached.key (with_range reached.object reached.from (suc more) [] (replicate (suc more) 0)) parts) ≡ after
      same =
          ap (λ (b : Bool). without_registers gone (with_object reached.key (with_range reached.object reached.from (suc more) [] (replicate (suc more) (class_filled b))) parts)) (sym precise.1)
          ∙ only_one (without_registers gone (with_object reached.key (with_range reached.object reached.from (suc more) [] (replicate (suc more) (class_filled (fills_zeros source_value.value)))) parts)) after reached.among

  pub fill_follows : (count : ℕ) → (fill_post parts at from count).loss ≡ None → (next : State) → IsState next → SomeStandsFor (fill_post parts at from count).graphs next → Follows parts (Fills at from count) next
  fill_follows count none next is some =
      let all = all_blocks_may_be_there some.graph next some.stands.given is some.stands.meets in
      let before = fill_exact count some.graph all.next all.given none some.among all.is all.meets all.there in
      record { state = before.0; next' = all.next; is = before.1; stands = before.2; steps = before.3; more = all.more }
