-- A read on a graph that shows a state.
use Rattle.std.proofs.Common.{◌≡◌, ℕ, Bool, true, false, not, ◌&&◌, ◌||◌, [], ◌∷◌, length, take, drop, get_or, nat_eq, pos, Option, None, Some, inl, inr, refl, sym, ◌∙◌, ap, subst, eqb-true, arith}
use Rattle.std.specs.Prelude.{if◌then◌else◌}
use Rattle.std.specs.List.{list_all}
use Rattle.std.specs.Option.{option_map_or}
use Rattle.std.proofs.lemmas.Bool.{false≢true}
use Rattle.std.proofs.lemmas.Option.{same_Some, none-some}
use Rattle.bytes_core.specs.declared.block.Block.{Block}
use Rattle.bytes_core.specs.declared.word.Word.{Word}
use Rattle.bytes_core.specs.declared.word.Word.TheVariants.{Plain, To}
use Rattle.bytes_core.specs.Access.{access_fault, block_bytes, loaded}
use Rattle.graph.specs.declared.edges.HasValue.{HasValue}
use Rattle.graph.specs.declared.parts.KeyedValue.{KeyedValue}
use Rattle.graph.specs.declared.parts.Parts.{Parts}
use Rattle.graph.specs.declared.value.Value.{Value}
use Rattle.graph.specs.declared.value.Value.TheVariants.{Const, Number, Any, Address}
use Rattle.graph.specs.Maps.{value_at, held_by}
use Rattle.graph.specs.Meaning.{ends_of, maps_of, Assignment}
use Rattle.graph.specs.Sizes.{is_scalar_size, is_sized}
use Rattle.graph.specs.State.{State}
use Rattle.graph.specs.WellFormed.{IsWellFormed, passes_at}
use Rattle.graph.proofs.Found.{found-all}
use Rattle.graph.proofs.Tests.{and_left, and_right}
use Rattle.changes.specs.Following.{Leaves}
use Rattle.changes.specs.Parts.{emptied, put, with_value}
use Rattle.changes.specs.Posted.{Posted, on_reach}
use Rattle.changes.specs.Reaching.{is_address_held, reach_of}
use Rattle.changes.specs.declared.reach.Reach.{Reach}
use Rattle.changes.proofs.Held.{IsAddress, address_at, address_held}
use Rattle.changes.proofs.Meeting.{IsMet}
use Rattle.changes.proofs.RangeForm.{fit_now, plane_long}
use Rattle.changes.proofs.Reached.{on_room}
use Rattle.changes.proofs.Value.{with_word, word-here}
use Rattle.changes.proofs.ValueForm.{value_new}
use Rattle.flow.specs.declared.instruction.Instr.TheVariants.{Read}
use Rattle.bytes_core.specs.Value.{word_bytes}
use Rattle.changes.specs.Ranges.{meets_none}
use Rattle.reinterpret.specs.Reading.{value_of, may_be_read, readable, are_class, unknown, number_read, one_graph, with_fresh, read_by, value_read, read_post}
use Rattle.reinterpret.specs.States.{Reads}
use Rattle.reinterpret.proofs.Loaded.{value_of_passes, value_of_holds, edge_loaded, zero_loaded}
use Rattle.reinterpret.proofs.ReadSound.{read_held, IsReadable, readable_is}
use Rattle.transfer.proofs.Asked.{read_ready}
use Rattle.plain.specs.Marks.{Marks, Zeroed, Piece, is_in_range}
use Rattle.plain.specs.Conditions.{HaveMark, AreOne, is_number}
use Rattle.plain.specs.Shown.{is_sure, bare_mark, mark_in, mark_at, IsShownBy}
use Rattle.plain.specs.Laws.{IsPlainStep, GoesPlainly}
use Rattle.plain.proofs.Operands.{address_leads, sure_value}
use Rattle.plain.proofs.Ranges.{range_high, range_is}
use Rattle.plain.proofs.Reaches.{IsPlainPosted, plain_post, none_follows, Reaches, Faults, Room, reaches}
use Rattle.plain.proofs.ReadMarks.{no_value, piece_value, zeros_class, pointer_parts}
use Rattle.plain.proofs.Registers.{gained_marks, gained_shown, more_shown}
use Rattle.plain.proofs.WritePlain.{some_scalar, register_is}
use Rattle.flow.specs.declared.flow_graph.Flow.{Flow}
use Rattle.graph.specs.declared.post.Post.{Post}

module _ (flow : Flow) (point : ℕ) (into at size : ℕ) (pointer : Bool) (parts : Parts) (post : Post) (state : State) (marks : Marks) (step : IsPlainStep flow point (Read into at size pointer) parts post state marks) where
  given : Assignment
  given = step.shown.given

  by : IsShownBy parts state marks step.shown.given
  by = step.shown.by

  form : IsWellFormed parts
  form = step.graph.well_formed

  scalar : is_scalar_size size ≡ true
  scalar = and_left (is_scalar_size size) (not pointer || nat_eq size 8) step.may.sizes

  whole : pointer ≡ true → size ≡ 8
  whole = by_pointer pointer (and_right (is_scalar_size size) (not pointer || nat_eq size 8) step.may.sizes)
    where
      by_pointer : (b : Bool) → (not b || nat_eq size 8) ≡ true → b ≡ true → size ≡ 8
      by_pointer true is same = eqb-true _ _ is
      by_pointer false is same = absurd (false≢true same)

  address : is_address_held parts at ≡ true
  address = read_ready flow point (Read into at size pointer) parts step.may step.graph into at size pointer refl

  target : (key : ℕ) × (held_by parts.registers at ≡ Some key)
  target = address_held parts at address

  target_value : IsAddress parts target.0
  target_value = address_at parts at target.0 target.1 address

  target_sure : is_sure target_value.value ≡ true
  target_sure = sure_value parts state marks step.shown.given step.shown.by at target.0 target_value.value step.plain.known target.1 target_value.is

  at_is : state.registers at ≡ Some (step.shown.given.word target.0)
  at_is = register_is parts state step.shown.given step.shown.by.meets at target.0 target.1

  post_is : read_post parts at size pointer into ≡ on_reach parts (reach_of parts target.0 size) (value_read parts (at ∷ []) into size pointer)
  post_is = read_held parts at size pointer into target.0 target.1

  abbrev Plainly : Posted → Type 0
  Plainly posted = IsPlainPosted (Reads at size pointer into) state (gained_marks (at ∷ []) into false marks) posted

  module _ (free : access_fault state.memory (step.shown.given.word target.0) size ≡ None) (met : IsMet parts state step.shown.given target.0 size) where
    abbrev word : Word
    word = loaded state.memory (To met.number (pos met.from)) size pointer

    led : state.registers at ≡ Some (To met.number (pos met.from))
    led = at_is ∙ ap Some met.word

    free_there : access_fault state.memory (To met.number (pos met.from)) size ≡ None
    free_there = ap (λ (w : Word). access_fault state.memory w size) (sym met.word) ∙ free

    long : length met.object.plane ≡ met.object.size
    long = plane_long parts form met.key met.object met.stands met.region met.live

    marked : (place : ℕ) → is_in_range met.from size place ≡ true → marks.of met.number place ≡ mark_at met.object place
    marked place here = step.shown.by.marked met.key met.number place met.object met.stands met.live met.blocks (let a = range_high met.from size place here in let b = met.room in omega arith)

    first : is_in_range met.from size met.from ≡ true
    first = range_is met.from size met.from (omega arith) (let e = some_scalar size scalar in omega arith)

    leaves : (next : State) → Reads at size pointer into state next → (w : Word) → word ≡ w → Leaves state.memory (put into w (emptied (at ∷ []) state.registers)) state next
    leaves next steps w same =
        subst (λ (v : Word). Leaves state.memory (put into v (emptied (at ∷ []) state.registers)) state next)
        (ap (λ (a : Word). loaded state.memory a size pointer) (same_Some _ _ (sym steps.address ∙ led)) ∙ same) steps.leaves

    -- zeros
    zeros_read : HaveMark (marks.of met.number) met.from size Zeroed → Plainly (value_read parts (at ∷ []) into size pointer met.key met.object met.from)
    zeros_read zeros = subst Plainly (sym value_is) (record {
      loss = refl;
      single = omega arith;
      shows = λ next steps. record {
        graph = with_fresh (at ∷ []) into (length parts.values) (with_value (Const 0 size) parts);
        among = (0, omega arith, refl);
        shown = record {
          given = with_word (length parts.values) (Plain 0) step.shown.given;
          by = gained_shown (with_value (Const 0 size) parts) state marks (with_word (length parts.values) (Plain 0) step.shown.given)
              (more_shown parts state marks step.shown.given step.shown.by step.graph (Const 0 size) (Plain 0) refl refl) (at ∷ []) into (length parts.values) false next
              (ap (λ (o : Option Value). option_map_or is_sure o false) (value_new (Const 0 size) parts step.graph))
              (leaves next steps ((with_word (length parts.values) (Plain 0) step.shown.given).word (length parts.values)) (loaded_is ∙ sym (word-here (length parts.values) (Plain 0) step.shown.given)));
        };
      };
    })
      where
        shown_zeros : (place : ℕ) → is_in_range met.from size place ≡ true → mark_in met.object.edges place (bare_mark (get_or met.object.plane place 0)) ≡ Zeroed
        shown_zeros place here = sym (marked place here) ∙ zeros place here

        class_is : are_class 0 met.object.plane met.from size ≡ true
        class_is = zeros_class met.object.edges met.object.plane met.from size (let e = long in let r = met.room in omega arith) shown_zeros

        none : value_of met.object.edges met.from size ≡ None
        none = no_value met.object.edges met.from size (bare_mark (get_or met.object.plane met.from 0)) (some_scalar size scalar) (shown_zeros met.from first)

        value_is : value_read parts (at ∷ []) into size pointer met.key met.object met.from ≡ one_graph (with_fresh (at ∷ []) into (length parts.values) (with_value (Const 0 size) parts)) None
        value_is =
            ap (λ (o : Option ℕ). read_by (readable parts pointer o) parts (at ∷ []) into size pointer met.key met.object met.from) none
            ∙ ap (λ (b : Bool). if b then one_graph (with_fresh (at ∷ []) into (length parts.values) (with_value (Const 0 size) parts)) None
            else (if are_class 1 met.object.plane met.from size && meets_none met.from size met.object.edges then number_read parts (at ∷ []) into size met.key met.object met.from
            else one_graph (with_fresh (at ∷ []) into (length parts.values) (with_value (unknown pointer size (take size (drop met.from met.object.plane))) parts)) (Some 3))) class_is

        loaded_is : word ≡ Plain 0
        loaded_is = zero_loaded met.object step.shown.given.word state.memory met.number met.from size met.block met.there met.node scalar met.room long pointer whole class_is

    -- one piece
    piece_read : HaveMark (marks.of met.number) met.from size (Piece met.from size) → Plainly (value_read parts (at ∷ []) into size pointer met.key met.object met.from)
    piece_read piece = subst Plainly (sym value_is) (record {
      loss = refl;
      single = omega arith;
      shows = λ next steps. record {
        graph = with_fresh (at ∷ []) into found.0 parts;
        among = (0, omega arith, refl);
        shown = record {
          given = step.shown.given;
          by = gained_shown parts state marks step.shown.given step.shown.by (at ∷ []) into found.0 false next sure (leaves next steps (step.shown.given.word found.0) loaded_is);
        };
      };
    })
      where
        found : (key : ℕ) × (value_of met.object.edges met.from size ≡ Some key)
        found = piece_value met.object.edges met.from met.from size (get_or met.object.plane met.from 0) (sym (marked met.from first) ∙ piece met.from first)

        sure : passes_at parts is_sure found.0 ≡ true
        sure = value_of_passes (λ (edge : HasValue). passes_at parts is_sure edge.value) met.object.edges met.from size found.0 found.1 (step.shown.by.edges met.key met.object met.stands)

        numbers : pointer ≡ false → list_all is_number (block_bytes (Some met.block) (pos met.from) size) ≡ true
        numbers no_pointer =
            sym (ap (λ (o : Option Block). list_all is_number (block_bytes o (pos met.from) size)) met.there) ∙ step.plain.numbers no_pointer (To met.number (pos met.from)) led free_there

        may_read : (value : Value) → value_at parts.values found.0 ≡ Some value → is_sure value ≡ true → (b : Bool) → pointer ≡ b → may_be_read b value ≡ true
        may_read (Const number was) stands holds b is = refl
        may_read (Number was) stands holds b is = absurd (false≢true holds)
        may_read Any stands holds b is = absurd (false≢true holds)
        may_read (Address object offset kind) stands holds true is = refl
        may_read (Address object offset kind) stands holds false is =
            let leads = address_leads flow point parts step.fits step.graph state step.shown.given step.shown.by.meets found.0 object offset kind stands in
            absurd (pointer_parts size leads.0 offset (block_bytes (Some met.block) (pos met.from) size) (some_scalar size scalar)
            (value_of_holds met.block.bytes step.shown.given.word met.object.edges met.from size found.0 found.1 met.node.edges ∙ ap (λ (w : Word). take size (word_bytes w)) leads.2) (numbers is))

        read_passes : (value : Option Value) → value_at parts.values found.0 ≡ value → option_map_or is_sure value false ≡ true → option_map_or (may_be_read pointer) value false ≡ true
        read_passes None stands passes = absurd (false≢true passes)
        read_passes (Some value) stands passes = may_read value stands passes pointer refl

        readable_key : readable parts pointer (value_of met.object.edges met.from size) ≡ Some found.0
        readable_key = ap (readable parts pointer) found.1 ∙ ap (λ (b : Bool). if b then Some found.0 else None) (read_passes (value_at parts.values found.0) refl sure)

        value_is : value_read parts (at ∷ []) into size pointer met.key met.object met.from ≡ one_graph (with_fresh (at ∷ []) into found.0 parts) None
        value_is = ap (λ (o : Option ℕ). read_by o parts (at ∷ []) into size pointer met.key met.object met.from) readable_key

        value : IsReadable parts pointer met.object.edges met.from size found.0
        value = readable_is parts pointer met.object.edges met.from size found.0 (fit_now parts form met.key met.object met.stands met.region met.live).sizes readable_key

        loaded_is : word ≡ step.shown.given.word found.0
        loaded_is =
            edge_loaded met.object step.shown.given.word state.memory met.number met.from size met.block met.there met.node scalar met.room long pointer whole (length state.memory) step.shown.given.blocks
            (ends_of (maps_of parts).objects step.shown.given.word) found.0 value.value value.is
            (found-all (λ (entry : KeyedValue). entry.key) (λ entry. entry.value) is_sized parts.values found.0 value.value form.values_are_sized value.stands) value.size_is value.read
            (step.shown.by.meets.values found.0 value.value value.stands)

    one_read : AreOne (marks.of met.number) met.from size → Plainly (value_read parts (at ∷ []) into size pointer met.key met.object met.from)
    one_read (inl zeros) = zeros_read zeros
    one_read (inr piece) = piece_read piece

    room_read : Plainly (read_post parts at size pointer into)
    room_read =
        subst Plainly (sym (post_is ∙ on_room parts (reach_of parts target.0 size) met.key met.from met.object (value_read parts (at ∷ []) into size pointer) met.reach met.stands))
        (one_read (step.plain.one met.number met.from led free_there))

  by_reach : Reaches parts state step.shown.given target.0 size → Plainly (read_post parts at size pointer into)
  by_reach (Faults kind reach_is fault) =
      subst Plainly (sym (post_is ∙ ap (λ (r : Reach). on_reach parts r (value_read parts (at ∷ []) into size pointer)) reach_is))
      (none_follows (Reads at size pointer into) state (gained_marks (at ∷ []) into false marks) _ refl refl
      (λ next steps. none-some kind (sym steps.room ∙ ap (λ (w : Word). access_fault state.memory w size) (same_Some _ _ (sym steps.address ∙ at_is)) ∙ fault)))
  by_reach (Room free met) = room_read free met

  read_posted : Plainly (read_post parts at size pointer into)
  read_posted = by_reach (reaches parts form state step.shown.given step.shown.by.meets target.0 size target_value.value target_value.is target_sure target_value.names)

pub read_plain : (into at size : ℕ) (pointer : Bool) → GoesPlainly (Read into at size pointer)
read_plain into at size pointer flow point parts post state marks step =
    plain_post (Reads at size pointer into) state (gained_marks (at ∷ []) into false marks) (read_post parts at size pointer into) post step.posted (read_posted flow point into at size pointer parts post state marks step)
