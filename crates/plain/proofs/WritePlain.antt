-- A write on a graph that shows a state.
use Rattle.std.proofs.Common.{◌≡◌, ℕ, zero, suc, ◌^◌, ◌%◌, ◌<◌, Bool, true, [], ◌∷◌, replicate, nat_eq, nat_lt, pos, Option, None, Some, refl, sym, ◌∙◌, ap, subst, eqb-true, ltb-true, arith}
use Rattle.std.specs.Prelude.{option_map, if◌then◌else◌}
use Rattle.std.proofs.Math.Nat.{mod-eq_of_lt}
use Rattle.std.proofs.lemmas.Bool.{false≢true}
use Rattle.std.proofs.lemmas.List.{length-replicate}
use Rattle.std.proofs.lemmas.Option.{same_Some, none-some}
use Rattle.bytes_core.specs.declared.word.Word.{Word}
use Rattle.bytes_core.specs.declared.word.Word.TheVariants.{To}
use Rattle.bytes_core.specs.Access.{access_fault, stored}
use Rattle.graph.specs.declared.parts.KeyedValue.{KeyedValue}
use Rattle.graph.specs.declared.parts.Parts.{Parts}
use Rattle.graph.specs.declared.value.Value.{Value}
use Rattle.graph.specs.declared.value.Value.TheVariants.{Const, Number, Any, Address}
use Rattle.graph.specs.Maps.{value_at, held_by}
use Rattle.graph.specs.Meaning.{maps_of, Assignment, Meets}
use Rattle.graph.specs.Sizes.{value_size, is_scalar_size, is_sized, is_zero}
use Rattle.graph.specs.State.{State}
use Rattle.graph.specs.WellFormed.{IsWellFormed}
use Rattle.graph.specs.Whole.{IsGraph}
use Rattle.graph.proofs.Found.{found-all}
use Rattle.graph.proofs.Scalars.{small_scalar}
use Rattle.graph.proofs.Tests.{and_right}
use Rattle.changes.specs.Following.{Leaves}
use Rattle.changes.specs.Parts.{emptied, with_object, without_registers}
use Rattle.changes.specs.Posted.{on_reach}
use Rattle.changes.specs.Ranges.{cuts_none, edge_for, class_for, written_object}
use Rattle.changes.specs.Reaching.{is_address_held, reach_of}
use Rattle.changes.specs.declared.reach.Reach.{Reach}
use Rattle.changes.proofs.Held.{IsAddress, address_at, address_held}
use Rattle.changes.proofs.Meeting.{IsMet}
use Rattle.changes.proofs.RangeForm.{fit_now}
use Rattle.changes.proofs.Reached.{on_room}
use Rattle.flow.specs.declared.flow_graph.Flow.{Flow}
use Rattle.flow.specs.declared.instruction.Instr.TheVariants.{Write}
use Rattle.reinterpret.specs.States.{Writes}
use Rattle.reinterpret.specs.Writing.{edge_at, value_written, write_post}
use Rattle.reinterpret.proofs.WriteSound.{post_held, written_meets}
use Rattle.transfer.specs.OfRegions.{FitsOfRegions}
use Rattle.transfer.proofs.Asked.{write_ready, written_ready}
use Rattle.plain.specs.Marks.{Marks, Mark, with_marks, marked_at, is_zero_in, written_mark, on_words, bytes_after, inputs_emptied, marks_after}
use Rattle.plain.specs.Conditions.{CutNone}
use Rattle.plain.specs.Shown.{is_sure, IsShownBy}
use Rattle.plain.specs.Laws.{GoesPlainly}
use Rattle.plain.proofs.Operands.{address_leads, sure_value, HoldsValue, holds_value}
use Rattle.plain.proofs.RangedObjects.{ranged_marks, ranged_shown}
use Rattle.plain.proofs.Ranges.{range_high, cut_none}
use Rattle.plain.proofs.Reaches.{IsPlainPosted, plain_post, none_follows, Reaches, Faults, Room, reaches}
use Rattle.plain.proofs.WrittenMarks.{written_within, written_beside, written_tight, written_sure}

-- the word of a constant or an address has bytes that are 0 alone just where the value is the constant 0
pub zero_word : (flow : Flow) (point : ℕ) (parts : Parts) → FitsOfRegions flow point parts → IsGraph parts → (state : State) (given : Assignment) → Meets (maps_of parts) state given → (key size : ℕ) (value : Value) →
    value_at parts.values key ≡ Some value → is_sure value ≡ true → is_sized value ≡ true → value_size value ≡ size → is_zero_in size (given.word key) ≡ is_zero value
zero_word flow point parts fits graph state given meets key size (Const number was) is sure sized same =
    ap (is_zero_in size) (meets.values key (Const number was) is)
    ∙ ap (λ (n : ℕ). nat_eq n 0) (ap (λ (n : ℕ). number % 256 ^ n) (sym same) ∙ mod-eq_of_lt (ltb-true number (256 ^ was) (and_right (is_scalar_size was) (nat_lt number (256 ^ was)) sized)))
zero_word flow point parts fits graph state given meets key size (Number was) is sure sized same = absurd (false≢true sure)
zero_word flow point parts fits graph state given meets key size Any is sure sized same = absurd (false≢true sure)
zero_word flow point parts fits graph state given meets key size (Address object offset target) is sure sized same =
    ap (is_zero_in size) (address_leads flow point parts fits graph state given meets key object offset target is).2

pub some_scalar : (size : ℕ) → is_scalar_size size ≡ true → 0 < size
some_scalar zero scalar = absurd (false≢true scalar)
some_scalar (suc size) scalar = omega arith

-- what a register holds
pub register_is : (parts : Parts) (state : State) (given : Assignment) → Meets (maps_of parts) state given → (register key : ℕ) → held_by parts.registers register ≡ Some key → state.registers register ≡ Some (given.word key)
register_is parts state given meets register key held = meets.registers register ∙ ap (option_map given.word) held

-- no edge of the object is cut, where no piece is
pub cuts_met : (parts : Parts) (form : IsWellFormed parts) (state : State) (marks : Marks) (given : Assignment) (by : IsShownBy parts state marks given) (at count : ℕ) → 0 < count → (met : IsMet parts state given at count) →
    CutNone (marks.of met.number) met.from count → cuts_none met.from count met.object.edges ≡ true
cuts_met parts form state marks given by at count some met whole =
    cut_none met.from count met.object.plane met.object.edges some (fit_now parts form met.key met.object met.stands met.region met.live).order
    (λ place piece size here is. whole place piece size here
    (by.marked met.key met.number place met.object met.stands met.live met.blocks (let a = range_high met.from count place here in let b = met.room in omega arith) ∙ is))

pub write_plain : (at from size : ℕ) → GoesPlainly (Write at from size)
write_plain at from size flow point parts post state marks step =
    plain_post (Writes at size from) state (marks_after (Write at from size) state marks) (write_post parts at size from) post step.posted
    (by_reach (reaches parts form state given meets target.0 size target_value.value target_value.is target_sure target_value.names))
  where
    given : Assignment
    given = step.shown.given

    by : IsShownBy parts state marks given
    by = step.shown.by

    meets : Meets (maps_of parts) state given
    meets = step.shown.by.meets

    form : IsWellFormed parts
    form = step.graph.well_formed

    scalar : is_scalar_size size ≡ true
    scalar = step.may.sizes

    address : is_address_held parts at ≡ true
    address = write_ready flow point (Write at from size) parts step.may step.graph at from size refl

    target : (key : ℕ) × (held_by parts.registers at ≡ Some key)
    target = address_held parts at address

    target_value : IsAddress parts target.0
    target_value = address_at parts at target.0 target.1 address

    target_sure : is_sure target_value.value ≡ true
    target_sure = sure_value parts state marks given by at target.0 target_value.value step.plain.known target.1 target_value.is

    source : HoldsValue parts from (λ value. nat_eq (value_size value) size)
    source = holds_value parts from (λ value. nat_eq (value_size value) size) (written_ready flow point (Write at from size) parts step.may step.graph at from size refl)

    source_sure : is_sure source.value ≡ true
    source_sure = sure_value parts state marks given by from source.key source.value step.plain.source source.held source.is

    source_sized : is_sized source.value ≡ true
    source_sized = found-all (λ (entry : KeyedValue). entry.key) (λ entry. entry.value) is_sized parts.values source.key source.value form.values_are_sized source.is

    post_is : write_post parts at size from ≡ on_reach parts (reach_of parts target.0 size) (value_written parts (at ∷ from ∷ []) size source.key (value_at parts.values source.key))
    post_is = post_held parts at size from target.0 source.key target.1 source.held

    at_is : state.registers at ≡ Some (given.word target.0)
    at_is = register_is parts state given meets at target.0 target.1

    from_is : state.registers from ≡ Some (given.word source.key)
    from_is = register_is parts state given meets from source.key source.held

    by_reach : Reaches parts state given target.0 size → IsPlainPosted (Writes at size from) state (marks_after (Write at from size) state marks) (write_post parts at size from)
    by_reach (Faults kind reach_is fault) =
        subst (IsPlainPosted (Writes at size from) state (marks_after (Write at from size) state marks)) (sym (post_is ∙ ap (λ (r : Reach). on_reach parts r (value_written parts (at ∷ from ∷ []) size source.key (value_at parts.values source.key))) reach_is))
        (none_follows (Writes at size from) state (marks_after (Write at from size) state marks) _ refl refl
        (λ next steps. none-some kind (sym steps.room ∙ ap (λ (w : Word). access_fault state.memory w size) (same_Some _ _ (sym steps.address ∙ at_is)) ∙ fault)))
    by_reach (Room free met) =
        subst (IsPlainPosted (Writes at size from) state (marks_after (Write at from size) state marks))
        (sym (post_is ∙ on_room parts (reach_of parts target.0 size) met.key met.from met.object (value_written parts (at ∷ from ∷ []) size source.key (value_at parts.values source.key)) met.reach met.stands ∙ ap (λ (o : Option Value). value_written parts (at ∷ from ∷ []) size source.key o met.key met.object met.from) source.is))
        (record {
          loss = ap (λ (b : Bool). if b then None else Some 3) cuts;
          single = omega arith;
          shows = λ next steps. record {
            graph = without_registers (at ∷ from ∷ []) (with_object met.key (written_object met.object (edge_at met.from size source.key) source.value) parts);
            among = (0, omega arith, refl);
            shown = record { given = given; by = subst (λ (of : ℕ → ℕ → Mark). IsShownBy (without_registers (at ∷ from ∷ []) (with_object met.key (written_object met.object (edge_at met.from size source.key) source.value) parts)) next (record { of = of; input = inputs_emptied (at ∷ from ∷ []) marks.input }) given) (sym marks_are) (shown next steps) };
          };
        })
      where
        led : state.registers at ≡ Some (To met.number (pos met.from))
        led = at_is ∙ ap Some met.word

        cuts : cuts_none met.from size met.object.edges ≡ true
        cuts = cuts_met parts form state marks given by target.0 size (some_scalar size scalar) met
            (step.plain.whole met.number met.from led (ap (λ (w : Word). access_fault state.memory w size) (sym met.word) ∙ free))

        zero_is : is_zero_in size (given.word source.key) ≡ is_zero source.value
        zero_is = zero_word flow point parts step.fits step.graph state given meets source.key size source.value source.is source_sure source_sized (eqb-true _ _ source.passes)

        marks_are : bytes_after (Write at from size) state marks.of ≡ with_marks met.number met.from size (written_mark (is_zero source.value) size met.from) marks.of
        marks_are =
            ap (λ (o : Option Word). on_words o (state.registers from) (λ to word. marked_at to size (written_mark (is_zero_in size word) size) marks.of) marks.of) led
            ∙ ap (λ (o : Option Word). on_words (Some (To met.number (pos met.from))) o (λ to word. marked_at to size (written_mark (is_zero_in size word) size) marks.of) marks.of) from_is
            ∙ ap (λ (b : Bool). with_marks met.number met.from size (written_mark b size met.from) marks.of) zero_is

        leaves : (next : State) → Writes at size from state next → Leaves (stored state.memory (given.word target.0) size (given.word source.key)) (emptied (at ∷ from ∷ []) state.registers) state next
        leaves next steps =
            subst (λ (w : Word). Leaves (stored state.memory w size (given.word source.key)) (emptied (at ∷ from ∷ []) state.registers) state next) (same_Some _ _ (sym steps.address ∙ at_is))
            (subst (λ (w : Word). Leaves (stored state.memory steps.to size w) (emptied (at ∷ from ∷ []) state.registers) state next) (same_Some _ _ (sym steps.value ∙ from_is)) steps.leaves)

        shown : (next : State) → Writes at size from state next → IsShownBy (without_registers (at ∷ from ∷ []) (with_object met.key (written_object met.object (edge_at met.from size source.key) source.value) parts)) next (ranged_marks met.number met.from size (written_mark (is_zero source.value) size met.from) (at ∷ from ∷ []) marks) given
        shown next steps =
            ranged_shown parts form state marks given by met.key met.from size met.object met.stands met.live met.region met.room met.number met.blocks (edge_for source.value (edge_at met.from size source.key)) (replicate size (class_for source.value))
            (length-replicate size (class_for source.value)) (written_mark (is_zero source.value) size met.from) cuts
            (written_within met.from size source.key source.value) (written_beside met.from size source.key source.value) (written_tight met.from size source.key source.value)
            (written_sure met.from size source.key source.value parts source.is source_sure) (at ∷ from ∷ []) next
            (written_meets parts form at size from address (small_scalar size scalar) state next given target.0 source.key source.value meets source.is met (leaves next steps))
