-- Where no loss is named, each state of the graph of a read's post follows, but for dead blocks that nothing names.
use Rattle.std.proofs.Common.{◌≡◌, ℕ, ◌+◌, ◌^◌, ◌<◌, ◌≤◌, Bool, true, false, ◌&&◌, ◌||◌, List, [], ◌∷◌, length, take, drop, replicate, min, pos, nat_eq, Option, None, Some, refl, sym, ◌∙◌, ap, subst, length-take, length-drop, arith}
use Rattle.std.specs.Prelude.{option_map, Contains, if◌then◌else◌}
use Rattle.std.specs.List.{filter, list_all}
use Rattle.std.proofs.lemmas.Bool.{false≢true}
use Rattle.std.proofs.lemmas.Option.{same_Some, none-some}
use Rattle.bytes_core.specs.declared.byte.Byte.{Byte}
use Rattle.bytes_core.specs.declared.word.Word.{Word}
use Rattle.bytes_core.specs.declared.word.Word.TheVariants.{Plain, To}
use Rattle.bytes_core.specs.Access.{access_fault, loaded}
use Rattle.bytes_core.specs.Value.{word_bytes}
use Rattle.graph.specs.declared.edges.HasValue.{HasValue}
use Rattle.graph.specs.declared.object.Object.{Object}
use Rattle.graph.specs.declared.parts.KeyedValue.{KeyedValue}
use Rattle.graph.specs.declared.parts.Parts.{Parts}
use Rattle.graph.specs.declared.value.Target.TheVariants.{Region}
use Rattle.graph.specs.declared.value.Value.TheVariants.{Const, Number, Address}
use Rattle.graph.specs.Maps.{object_at, value_at, held_by}
use Rattle.graph.specs.Nodes.{own_node}
use Rattle.graph.specs.Sizes.{is_scalar_size, is_sized}
use Rattle.graph.specs.State.{State, IsState}
use Rattle.graph.specs.WellFormed.{IsWellFormed}
use Rattle.graph.specs.Whole.{IsGraph}
use Rattle.graph.specs.Meaning.{HoldEdges, HaveClasses, IsNode, HasBlocks, block_word, first_of, own_offset, ends_of, maps_of, Assignment, Meets, StandsFor}
use Rattle.graph.proofs.AllThere.{all_blocks_may_be_there}
use Rattle.graph.proofs.Found.{found-all, IsSome-holds}
use Rattle.graph.proofs.Tests.{and_left, and_right}
use Rattle.changes.specs.Parts.{emptied, put, with_object, with_value}
use Rattle.changes.specs.Posted.{Posted, on_reach}
use Rattle.changes.specs.Ranges.{spliced, ends_before, begins_behind, is_beside, meets_none, written_object}
use Rattle.changes.specs.Reaching.{reach_of, is_address_held}
use Rattle.changes.proofs.Below.{AreThere}
use Rattle.changes.proofs.Change.{AgreeBut-back, same_state, changed}
use Rattle.changes.proofs.Held.{IsAddress, address_at, address_held, state_held, held_meets, held_state}
use Rattle.changes.proofs.Node.{HoldEdges-left, HoldEdges-right}
use Rattle.changes.proofs.Objects.{replaced-here, with_object-agrees}
use Rattle.changes.proofs.RangeForm.{fit_now, plane_long, graph_written}
use Rattle.changes.proofs.Reached.{only_one, IsReached, reach_graph, IsRoomAt, room_at}
use Rattle.changes.proofs.Region.{IsRegionBlock, region_block, region_has}
use Rattle.changes.proofs.Splice.{spliced-own}
use Rattle.changes.proofs.Value.{value_less}
use Rattle.changes.proofs.ValueForm.{IsFitValue, value_new, has_one_more, graph_with_value}
use Rattle.changes.specs.Following.{Follows}
use Rattle.reinterpret.specs.Reading.{value_of, readable, are_class, unknown, one_graph, with_fresh, read_by, value_read, read_post}
use Rattle.changes.specs.Following.{Leaves}
use Rattle.reinterpret.specs.States.{Reads}
use Rattle.reinterpret.specs.Writing.{edge_at}
use Rattle.reinterpret.proofs.Into.{into_agrees, into_leaves}
use Rattle.reinterpret.proofs.Loaded.{all_one, edge_loaded, zero_loaded, number_loaded}
use Rattle.reinterpret.proofs.ReadSound.{read_held, readable_is, zero_fit}
use Rattle.changes.proofs.Accesses.{no_fault}

-- edges none of which overlaps a range hold, where those before and behind it do
hold_all : (bytes : List Byte) (word : ℕ → Word) (from count : ℕ) (edges : List HasValue) → meets_none from count edges ≡ true → HoldEdges bytes word (filter (ends_before from) edges) → HoldEdges bytes word (filter (begins_behind (from + count)) edges) →
    HoldEdges bytes word edges
hold_all bytes word from count [] none before behind = tt
hold_all bytes word from count (edge ∷ rest) none before behind = (
  by_side (ends_before from edge) refl (begins_behind (from + count) edge) refl before behind,
  hold_all bytes word from count rest (and_right (is_beside from count edge) (meets_none from count rest) none) (rest_of (ends_before from edge) (filter (ends_before from) rest) before) (rest_of (begins_behind (from + count) edge) (filter (begins_behind (from + count)) rest) behind),
)
  where
    rest_of : (b : Bool) (kept : List HasValue) → HoldEdges bytes word (if b then edge ∷ kept else kept) → HoldEdges bytes word kept
    rest_of true kept holds = holds.1
    rest_of false kept holds = holds

    by_side : (a : Bool) → ends_before from edge ≡ a → (b : Bool) → begins_behind (from + count) edge ≡ b →
        HoldEdges bytes word (if a then edge ∷ filter (ends_before from) rest else filter (ends_before from) rest) →
        HoldEdges bytes word (if b then edge ∷ filter (begins_behind (from + count)) rest else filter (begins_behind (from + count)) rest) →
        take edge.size (drop edge.at bytes) ≡ take edge.size (word_bytes (word edge.value))
    by_side true is b b_is before behind = before.0
    by_side false a_is true is before behind = behind.0
    by_side false a_is false b_is before behind =
        absurd (false≢true (sym (ap (λ (a : Bool). a || begins_behind (from + count) edge) a_is ∙ b_is) ∙ and_left (is_beside from count edge) (meets_none from count rest) none))

-- a plane whose range is given the class that it has
plane_same : (plane : List ℕ) (from size : ℕ) → from + size ≤ length plane → list_all (nat_eq 1) (take size (drop from plane)) ≡ true → length (take size (drop from plane)) ≡ size → spliced plane from (replicate size 1) ≡ plane
plane_same plane from size room ones long =
    let same : replicate size 1 ≡ take size (drop from plane) = sym (all_one 1 (take size (drop from plane)) ones ∙ ap (λ (n : ℕ). replicate n 1) long) in
    ap (spliced plane from) same
    ∙ spliced-own plane from (take size (drop from plane)) (omega arith) 0 (ap (λ (n : ℕ). length (take n (drop from plane))) (sym long)) (ap (λ (n : ℕ). take n (drop from plane)) (sym long))

module _ (parts : Parts) (graph : IsGraph parts) (at size : ℕ) (pointer : Bool) (into : ℕ) (address : is_address_held parts at ≡ true) (scalar : is_scalar_size size ≡ true) (whole : pointer ≡ true → size ≡ 8) where
  abbrev pub form : IsWellFormed parts
  form = graph.well_formed

  abbrev pub gone : List ℕ
  gone = at ∷ []

  abbrev pub fresh : ℕ
  fresh = length parts.values

  pub target : (key : ℕ) × (held_by parts.registers at ≡ Some key)
  target = address_held parts at address

  pub target_value : IsAddress parts target.0
  target_value = address_at parts at target.0 target.1 address

  pub post : read_post parts at size pointer into ≡ on_reach parts (reach_of parts target.0 size) (value_read parts gone into size pointer)
  post = read_held parts at size pointer into target.0 target.1

  module _ (key from : ℕ) (object : Object) (stands : object_at parts.objects key ≡ Some object) (room : IsRoomAt parts target.0 size key from object) where
    long : length object.plane ≡ object.size
    long = plane_long parts form key object stands room.region room.live

    -- a state of the graph before that goes to one with the same memory, where the register gets what is read
    read_from : (before next : State) (given : Assignment) (word : Word) → IsState before → Meets (maps_of parts) before given → (block : IsRegionBlock object before given key) →
        loaded before.memory (To block.number (pos from)) size pointer ≡ word → Leaves before.memory (put into word (emptied gone before.registers)) before next →
        (state : State) × IsState state × StandsFor parts state × Reads at size pointer into state next
    read_from before next given word is meets block loads leaves =
        let address_is : given.word target.0 ≡ To block.number (pos from) = meets.values target.0 (Address key (pos from) Region) room.address ∙ ap (λ (ns : List ℕ). block_word (first_of ns) (pos from)) block.blocks in (
          before,
          is,
          record { given = given; meets = meets },
          record {
            to = given.word target.0;
            address = meets.registers at ∙ ap (option_map given.word) target.1;
            room = ap (λ (w : Word). access_fault before.memory w size) address_is
                ∙ no_fault before.memory block.number from size block.block block.there block.node.live (let e = block.node.size in let r = room.room in omega arith);
            leaves = subst (λ (w : Word). Leaves before.memory (put into w (emptied gone before.registers)) before next) (sym (ap (λ (a : Word). loaded before.memory a size pointer) address_is ∙ loads)) leaves;
          },
        )

    edge_before : (value_key : ℕ) (next : State) (given : Assignment) → readable parts pointer (value_of object.edges from size) ≡ Some value_key → IsState next → Meets (maps_of (with_fresh gone into value_key parts)) next given → AreThere parts next given →
        (state : State) × IsState state × StandsFor parts state × Reads at size pointer into state next
    edge_before value_key next given read is meets there =
        let agrees = into_agrees gone into value_key parts in
        let before = state_held parts (with_fresh gone into value_key parts) form next given agrees meets in
        let were = held_meets parts (with_fresh gone into value_key parts) form next given agrees meets in
        let block = region_block parts before given key object were stands room.live room.region in
        let found = readable_is parts pointer object.edges from size value_key (fit_now parts form key object stands room.region room.live).sizes read in
        read_from before next given (given.word value_key) (held_state parts (with_fresh gone into value_key parts) form next given agrees meets is there) were block
        (edge_loaded object given.word before.memory block.number from size block.block block.there block.node scalar room.room long pointer whole (length before.memory) given.blocks (ends_of (maps_of parts).objects given.word)
        value_key found.value found.is (found-all (λ (entry : KeyedValue). entry.key) (λ entry. entry.value) is_sized parts.values value_key found.value form.values_are_sized found.stands) found.size_is found.read (were.values value_key found.value found.stands))
        (into_leaves gone into value_key parts given form next meets)

    zeros_before : (next : State) (given : Assignment) → are_class 0 object.plane from size ≡ true → IsState next → Meets (maps_of (with_fresh gone into fresh (with_value (Const 0 size) parts))) next given → AreThere parts next given →
        (state : State) × IsState state × StandsFor parts state × Reads at size pointer into state next
    zeros_before next given zeros is meets there =
        let fit = zero_fit parts size scalar in
        let more = with_value (Const 0 size) parts in
        let more_form = (graph_with_value (Const 0 size) parts graph fit).well_formed in
        let agrees = into_agrees gone into fresh more in
        let before = state_held more (with_fresh gone into fresh more) more_form next given agrees meets in
        let were_more = held_meets more (with_fresh gone into fresh more) more_form next given agrees meets in
        let were = value_less fresh (Const 0 size) (maps_of parts) (maps_of more) (has_one_more (Const 0 size) parts graph refl) before given were_more in
        let block = region_block parts before given key object were stands room.live room.region in
        read_from before next given (given.word fresh) (held_state more (with_fresh gone into fresh more) more_form next given agrees meets is there) were block
        (zero_loaded object given.word before.memory block.number from size block.block block.there block.node scalar room.room long pointer whole zeros ∙ sym (were_more.values fresh (Const 0 size) (value_new (Const 0 size) parts graph)))
        (into_leaves gone into fresh more given more_form next meets)

    -- bytes that are numbers: the number more is written where it stands already
    module _ (ones : are_class 1 object.plane from size ≡ true) (none : meets_none from size object.edges ≡ true) where
      abbrev pub more : Parts
      more = with_value (Number size) parts

      abbrev pub written : Object
      written = written_object object (edge_at from size fresh) (Number size)

      abbrev pub after : Parts
      after = with_object key written more

      fit : IsFitValue parts (Number size)
      fit = record { sized = scalar; leads = refl; held = refl }

      more_graph : IsGraph more
      more_graph = graph_with_value (Number size) parts graph fit

      after_graph : IsGraph after
      after_graph = graph_written more key object (edge_at from size fresh) (Number size) more_graph stands room.region room.live room.room (value_new (Number size) parts graph) refl refl

      numbers_before : (next : State) (given : Assignment) → IsState next → Meets (maps_of (with_fresh gone into fresh after)) next given → AreThere after next given →
          (state : State) × IsState state × StandsFor parts state × Reads at size pointer into state next
      numbers_before next given is meets there =
          read_from before next given (given.word fresh) (held_state after (with_fresh gone into fresh after) after_graph.well_formed next given (into_agrees gone into fresh after) meets is there) were
          (record { number = now.number; blocks = now.blocks; block = now.block; there = now.there; node = node_then })
          (by_word (given.word fresh) (were_more.values fresh (Number size) (value_new (Number size) parts graph)) stand)
          (into_leaves gone into fresh after given after_graph.well_formed next meets)
        where
          before : State
          before = state_held after (with_fresh gone into fresh after) after_graph.well_formed next given (into_agrees gone into fresh after) meets

          were_after : Meets (maps_of after) before given
          were_after = held_meets after (with_fresh gone into fresh after) after_graph.well_formed next given (into_agrees gone into fresh after) meets

          now : IsRegionBlock written before given key
          now = region_block after before given key written were_after (replaced-here key written more.objects (IsSome-holds _ _ stands)) room.live room.region

          long_range : length (take size (drop from object.plane)) ≡ size
          long_range = length-take size (drop from object.plane) ∙ ap (min size) (length-drop from object.plane) ∙ (let e = long in let r = room.room in omega arith)

          node_then : IsNode object.size object.kind (own_node object) given.word now.block
          node_then = record {
            live = now.node.live;
            kind = now.node.kind;
            size = now.node.size;
            edges = hold_all now.block.bytes given.word from size object.edges none
                (HoldEdges-left now.block.bytes given.word (filter (ends_before from) object.edges) (edge_at from size fresh ∷ filter (begins_behind (from + size)) object.edges) now.node.edges)
                (HoldEdges-right now.block.bytes given.word (edge_at from size fresh ∷ []) (filter (begins_behind (from + size)) object.edges)
                (HoldEdges-right now.block.bytes given.word (filter (ends_before from) object.edges) (edge_at from size fresh ∷ filter (begins_behind (from + size)) object.edges) now.node.edges));
            classes = subst (λ (plane : List ℕ). HaveClasses plane now.block.bytes)
                (plane_same object.plane from size (let e = long in let r = room.room in omega arith) ones long_range) now.node.classes;
          }

          were_more : Meets (maps_of more) before given
          were_more = changed key (maps_of after) (maps_of more) before before given (AgreeBut-back key (maps_of more) (maps_of after) (with_object-agrees key object written more stands refl)) (same_state (given.blocks key) before)
              (λ found held. subst (λ (o : Object). HasBlocks before.memory o given.word (λ value. own_offset (value_at more.values value)) (given.blocks key)) (same_Some _ _ (sym stands ∙ held))
              (region_has object before.memory given.word (λ value. own_offset (value_at more.values value)) now.number now.block (given.blocks key) room.live room.region now.blocks now.there node_then))
              were_after

          were : Meets (maps_of parts) before given
          were = value_less fresh (Number size) (maps_of parts) (maps_of more) (has_one_more (Number size) parts graph refl) before given were_more

          stand : take size (drop from now.block.bytes) ≡ take size (word_bytes (given.word fresh))
          stand = (HoldEdges-right now.block.bytes given.word (filter (ends_before from) object.edges) (edge_at from size fresh ∷ filter (begins_behind (from + size)) object.edges) now.node.edges).0

          by_word : (w : Word) → (n : ℕ) × (w ≡ Plain n) × (n < 256 ^ size) → take size (drop from now.block.bytes) ≡ take size (word_bytes w) → loaded before.memory (To now.number (pos from)) size pointer ≡ w
          by_word w (n, is, fit) held =
              number_loaded object given.word before.memory now.number from size now.block now.there node_then scalar room.room long pointer whole n fit (held ∙ ap (λ (v : Word). take size (word_bytes v)) is) ∙ sym is

    -- the graph of the post
    read_before : (after : Parts) (next : State) (given : Assignment) → (value_read parts gone into size pointer key object from).loss ≡ None → Contains (value_read parts gone into size pointer key object from).graphs after →
        IsState next → Meets (maps_of after) next given → AreThere after next given → (state : State) × IsState state × StandsFor parts state × Reads at size pointer into state next
    read_before after next given lossless among is meets there = by_edge (readable parts pointer (value_of object.edges from size)) refl lossless among
      where
        moved : (one : Parts) → Contains (one ∷ []) after → one ≡ after
        moved one among = only_one one after among

        by_bytes : (a : Bool) → are_class 0 object.plane from size ≡ a → (b : Bool) → are_class 1 object.plane from size ≡ b → (c : Bool) → meets_none from size object.edges ≡ c →
            (if a then one_graph (with_fresh gone into fresh (with_value (Const 0 size) parts)) None
            else (if b && c then one_graph (with_fresh gone into fresh (with_object key (written_object object (edge_at from size fresh) (Number size)) (with_value (Number size) parts))) None
            else one_graph (with_fresh gone into fresh (with_value (unknown pointer size (take size (drop from object.plane))) parts)) (Some 3))).loss ≡ None →
            Contains (if a then one_graph (with_fresh gone into fresh (with_value (Const 0 size) parts)) None
            else (if b && c then one_graph (with_fresh gone into fresh (with_object key (written_object object (edge_at from size fresh) (Number size)) (with_value (Number size) parts))) None
            else one_graph (with_fresh gone into fresh (with_value (unknown pointer size (take size (drop from object.plane))) parts)) (Some 3))).graphs after → (state : State) × IsState state × StandsFor parts state × Reads at size pointer into state next
        by_bytes true zeros b b_is c c_is lossless among =
            let same = moved (with_fresh gone into fresh (with_value (Const 0 size) parts)) among in
            zeros_before next given zeros is (subst (λ (g : Parts). Meets (maps_of g) next given) (sym same) meets) (subst (λ (g : Parts). AreThere g next given) (sym same) there)
        by_bytes false a_is true ones true none lossless among =
            let same = moved (with_fresh gone into fresh (with_object key (written_object object (edge_at from size fresh) (Number size)) (with_value (Number size) parts))) among in
            numbers_before ones none next given is (subst (λ (g : Parts). Meets (maps_of g) next given) (sym same) meets) (subst (λ (g : Parts). AreThere g next given) (sym same) there)
        by_bytes false a_is true ones false c_is lossless among = absurd (none-some 3 (sym lossless))
        by_bytes false a_is false b_is c c_is lossless among = absurd (none-some 3 (sym lossless))

        by_edge : (found : Option ℕ) → readable parts pointer (value_of object.edges from size) ≡ found → (read_by found parts gone into size pointer key object from).loss ≡ None → Contains (read_by found parts gone into size pointer key object from).graphs after →
            (state : State) × IsState state × StandsFor parts state × Reads at size pointer into state next
        by_edge (Some value_key) read lossless among =
            let same = moved (with_fresh gone into value_key parts) among in
            edge_before value_key next given read is (subst (λ (g : Parts). Meets (maps_of g) next given) (sym same) meets) (subst (λ (g : Parts). AreThere g next given) (sym same) there)
        by_edge None read lossless among =
            by_bytes (are_class 0 object.plane from size) refl (are_class 1 object.plane from size) refl (meets_none from size object.edges) refl lossless among

  pub read_exact : (after : Parts) (next : State) (given : Assignment) → (read_post parts at size pointer into).loss ≡ None → Contains (read_post parts at size pointer into).graphs after → IsState next → Meets (maps_of after) next given →
      AreThere after next given → (state : State) × IsState state × StandsFor parts state × Reads at size pointer into state next
  read_exact after next given none among is meets there =
      read_before reached.key reached.from reached.object reached.stands room after next given (sym reached.loss ∙ sym (ap (λ (p : Posted). p.loss) post) ∙ none) reached.among is meets there
    where
      reached : IsReached parts (reach_of parts target.0 size) (value_read parts gone into size pointer) after
      reached = reach_graph parts (reach_of parts target.0 size) (value_read parts gone into size pointer) after (subst (λ (p : Posted). Contains p.graphs after) post among)

      room : IsRoomAt parts target.0 size reached.key reached.from reached.object
      room = room_at parts target.0 size reached.key reached.from reached.object target_value.value form target_value.is target_value.names reached.is reached.stands

  pub read_follows : (after : Parts) (next : State) → (read_post parts at size pointer into).loss ≡ None → Contains (read_post parts at size pointer into).graphs after → IsState next → StandsFor after next → Follows parts (Reads at size pointer into) next
  read_follows after next none among is stands =
      let all = all_blocks_may_be_there after next stands.given is stands.meets in
      let before = read_exact after all.next all.given none among all.is all.meets all.there in
      record { state = before.0; next' = all.next; is = before.1; stands = before.2; steps = before.3; more = all.more }
