-- A fill with zeros on a graph that shows a state.
use Rattle.std.proofs.Common.{◌≡◌, ℕ, zero, suc, ◌-◌, ◌%◌, Bool, true, false, ◌&&◌, List, [], ◌∷◌, replicate, get_or, nat_eq, nat_lt, pos, negsuc, Option, None, Some, refl, sym, ◌∙◌, ap, subst, eq-eqb, arith}
use Rattle.std.specs.Prelude.{option_map, if◌then◌else◌}
use Rattle.std.proofs.lemmas.Bool.{false≢true}
use Rattle.std.proofs.lemmas.List.{length-replicate, get_or-replicate}
use Rattle.std.proofs.lemmas.Option.{same_Some, none-some}
use Rattle.bytes_core.specs.declared.block.Block.{Block}
use Rattle.bytes_core.specs.declared.word.Word.{Word}
use Rattle.bytes_core.specs.declared.word.Word.TheVariants.{Plain, To}
use Rattle.bytes_core.specs.Access.{access_fault, filled}
use Rattle.bytes_core.specs.Value.{address_number}
use Rattle.bytes_core.proofs.Kept.{filled_nothing}
use Rattle.graph.specs.declared.parts.Parts.{Parts}
use Rattle.graph.specs.declared.post.Post.{Post}
use Rattle.graph.specs.declared.value.Value.{Value}
use Rattle.graph.specs.declared.value.Value.TheVariants.{Const, Number, Any, Address}
use Rattle.graph.specs.Maps.{value_at, held_by}
use Rattle.graph.specs.Meaning.{Assignment}
use Rattle.graph.specs.State.{State}
use Rattle.graph.specs.WellFormed.{IsWellFormed, passes_at}
use Rattle.changes.specs.Following.{Leaves}
use Rattle.changes.specs.Parts.{emptied, with_object, without_registers}
use Rattle.changes.specs.Posted.{Posted, no_post, on_held, on_reach}
use Rattle.changes.specs.Ranges.{cuts_none, with_range}
use Rattle.changes.specs.Reaching.{is_address_held, reach_of}
use Rattle.changes.specs.declared.reach.Reach.{Reach}
use Rattle.changes.proofs.Held.{IsAddress, address_at, address_held, IsHeldValue, held_value}
use Rattle.changes.proofs.Meeting.{IsMet}
use Rattle.changes.proofs.Reached.{on_room}
use Rattle.flow.specs.declared.flow_graph.Flow.{Flow}
use Rattle.flow.specs.declared.instruction.Instr.TheVariants.{Fill}
use Rattle.range_steps.specs.Filling.{Fills, fills_zeros, class_filled, loss_filled, bytes_filled, fill_through, filled_by, fill_post}
use Rattle.range_steps.proofs.FillSound.{fill_held, filled_meets}
use Rattle.transfer.proofs.Asked.{fill_ready}
use Rattle.plain.specs.Marks.{Marks, Mark, Zeroed, is_in_range, with_marks, marked_at, written_mark, on_words, bytes_after, inputs_emptied, marks_after}
use Rattle.plain.specs.Conditions.{CutNone}
use Rattle.plain.specs.Shown.{is_sure, may_show, bare_mark, IsShownBy}
use Rattle.plain.specs.Laws.{IsPlainStep, GoesPlainly}
use Rattle.plain.proofs.Operands.{is_const, sure_value, number_value}
use Rattle.plain.proofs.RangedObjects.{ranged_shown}
use Rattle.plain.proofs.Ranges.{range_low, range_high}
use Rattle.plain.proofs.Reaches.{IsPlainPosted, plain_post, none_follows, Reaches, Faults, Room, reaches}
use Rattle.plain.proofs.Registers.{emptied_shown}
use Rattle.plain.proofs.WritePlain.{register_is, cuts_met}

-- marks that are the same byte by byte
pub shown_as : (parts : Parts) (state : State) (marks other : Marks) (given : Assignment) → ((block place : ℕ) → other.of block place ≡ marks.of block place) → ((register : ℕ) → other.input register ≡ marks.input register) →
    IsShownBy parts state marks given → IsShownBy parts state other given
shown_as parts state marks other given bytes inputs shown = record {
  meets = shown.meets;
  marked = λ key block place object is live blocks below. bytes block place ∙ shown.marked key block place object is live blocks below;
  tight = shown.tight;
  edges = shown.edges;
  registers = λ register key held. subst (λ (b : Bool). passes_at parts (may_show b) key ≡ true) (sym (inputs register)) (shown.registers register key held);
}

-- a range without bytes gets no marks
pub nothing_marked : (to : Word) (new : ℕ → ℕ → Mark) (marks : ℕ → ℕ → Mark) (block place : ℕ) → marked_at to 0 new marks block place ≡ marks block place
nothing_marked (Plain number) new marks block place = refl
nothing_marked (To number (negsuc before)) new marks block place = refl
nothing_marked (To number (pos from)) new marks block place = by_test (nat_eq block number) (is_in_range from 0 place) (out (nat_lt place from) refl)
  where
    out : (b : Bool) → nat_lt place from ≡ b → is_in_range from 0 place ≡ false
    out b is = by_range (is_in_range from 0 place) refl
      where
        by_range : (c : Bool) → is_in_range from 0 place ≡ c → is_in_range from 0 place ≡ false
        by_range false here = here
        by_range true here = absurd (let low = range_low from 0 place here in let high = range_high from 0 place here in omega arith)

    by_test : (a b : Bool) → b ≡ false → (if a && b then new from place else marks block place) ≡ marks block place
    by_test true b is = ap (λ (c : Bool). if c then new from place else marks block place) is
    by_test false b is = refl

nothing_filled : (one other : Option Word) (new : Word → ℕ → ℕ → Mark) (marks : ℕ → ℕ → Mark) (block place : ℕ) → on_words one other (λ to word. marked_at to 0 (new word) marks) marks block place ≡ marks block place
nothing_filled None other new marks block place = refl
nothing_filled (Some one) None new marks block place = refl
nothing_filled (Some one) (Some other) new marks block place = nothing_marked one (new other) marks block place

module _ (flow : Flow) (point : ℕ) (at from count : ℕ) (parts : Parts) (post : Post) (state : State) (marks : Marks) (step : IsPlainStep flow point (Fill at from count) parts post state marks) where
  form : IsWellFormed parts
  form = step.graph.well_formed

  abbrev gone : List ℕ
  gone = at ∷ from ∷ []

  address : is_address_held parts at ≡ true
  address = fill_ready flow point (Fill at from count) parts step.may step.graph at from count refl

  target : (key : ℕ) × (held_by parts.registers at ≡ Some key)
  target = address_held parts at address

  target_value : IsAddress parts target.0
  target_value = address_at parts at target.0 target.1 address

  target_sure : is_sure target_value.value ≡ true
  target_sure = sure_value parts state marks step.shown.given step.shown.by at target.0 target_value.value step.plain.known target.1 target_value.is

  at_is : state.registers at ≡ Some (step.shown.given.word target.0)
  at_is = register_is parts state step.shown.given step.shown.by.meets at target.0 target.1

  abbrev Plainly : ℕ → Posted → Type 0
  Plainly size posted = IsPlainPosted (Fills at from size) state (record { of = bytes_after (Fill at from size) state marks.of; input = inputs_emptied gone marks.input }) posted

  module _ (source : ℕ) (source_held : held_by parts.registers from ≡ Some source) where
    value : IsHeldValue parts source
    value = held_value parts from source form source_held

    from_is : state.registers from ≡ Some (step.shown.given.word source)
    from_is = register_is parts state step.shown.given step.shown.by.meets from source source_held

    zeros_of : (v : Value) → value_at parts.values source ≡ Some v → is_const v ≡ true → (fills_zeros v ≡ true) × (address_number state.memory (step.shown.given.word source) % 256 ≡ 0)
    zeros_of (Const number size) is const =
        let word = step.shown.by.meets.values source (Const number size) is in
        let low = step.plain.zeros number (from_is ∙ ap Some word) in
        (eq-eqb _ _ low, ap (λ (w : Word). address_number state.memory w % 256) word ∙ low)
    zeros_of (Number size) is const = absurd (false≢true const)
    zeros_of Any is const = absurd (false≢true const)
    zeros_of (Address object offset kind) is const = absurd (false≢true const)

    zeros : (fills_zeros value.value ≡ true) × (address_number state.memory (step.shown.given.word source) % 256 ≡ 0)
    zeros = zeros_of value.value value.is (number_value parts state marks step.shown.given step.shown.by flow point step.fits step.graph from source value.value step.plain.source source_held value.is)

    post_is : (size : ℕ) → fill_post parts at from size ≡ filled_by parts gone size target.0 (value_at parts.values source)
    post_is size = fill_held parts at from size target.0 source target.1 source_held

    leaves : (size : ℕ) (next : State) → Fills at from size state next → Leaves (filled state.memory (step.shown.given.word target.0) (address_number state.memory (step.shown.given.word source) % 256) size) (emptied gone state.registers) state next
    leaves size next steps =
        subst (λ (w : Word). Leaves (filled state.memory w (address_number state.memory (step.shown.given.word source) % 256) size) (emptied gone state.registers) state next) (same_Some _ _ (sym steps.address ∙ at_is))
        (subst (λ (w : Word). Leaves (filled state.memory steps.to (address_number state.memory w % 256) size) (emptied gone state.registers) state next) (same_Some _ _ (sym steps.value ∙ from_is)) steps.leaves)

    -- no bytes
    none_filled : Plainly 0 (fill_post parts at from 0)
    none_filled = subst (Plainly 0) (sym (post_is 0)) (record {
      loss = refl;
      single = omega arith;
      shows = λ next steps. record {
        graph = without_registers gone parts;
        among = (0, omega arith, refl);
        shown = record {
          given = step.shown.given;
          by = shown_as (without_registers gone parts) next (record { of = marks.of; input = inputs_emptied gone marks.input }) (record { of = bytes_after (Fill at from 0) state marks.of; input = inputs_emptied gone marks.input }) step.shown.given
              (nothing_filled (state.registers at) (state.registers from) (λ word. written_mark (nat_eq (address_number state.memory word % 256) 0) 0) marks.of) (λ register. refl)
              (emptied_shown parts state marks step.shown.given step.shown.by gone next
              (subst (λ (memory : List Block). Leaves memory (emptied gone state.registers) state next)
              (filled_nothing state.memory (step.shown.given.word target.0) (address_number state.memory (step.shown.given.word source) % 256) 0 refl) (leaves 0 next steps)));
        };
      };
    })

    module _ (more : ℕ) (same : suc more ≡ count) where
      abbrev after : IsMet parts state step.shown.given target.0 (suc more) → Parts
      after met = with_object met.key (with_range met.object met.from (suc more) [] (replicate (suc more) (class_filled true))) parts

      some_filled : Reaches parts state step.shown.given target.0 (suc more) → Plainly (suc more) (fill_post parts at from (suc more))
      some_filled (Faults kind reach_is fault) =
          subst (Plainly (suc more)) (sym (post_is (suc more) ∙ ap (λ (o : Option Value). fill_through parts gone (suc more) target.0 o) value.is ∙ ap (λ (r : Reach). on_reach parts r (bytes_filled parts gone (suc more) (fills_zeros value.value))) reach_is))
          (none_follows (Fills at from (suc more)) state (record { of = bytes_after (Fill at from (suc more)) state marks.of; input = inputs_emptied gone marks.input }) _ refl refl
          (λ next steps. none-some kind (sym steps.room ∙ ap (λ (w : Word). access_fault state.memory w (suc more)) (same_Some _ _ (sym steps.address ∙ at_is)) ∙ fault)))
      some_filled (Room free met) =
          subst (Plainly (suc more))
          (sym (post_is (suc more) ∙ ap (λ (o : Option Value). fill_through parts gone (suc more) target.0 o) value.is
          ∙ on_room parts (reach_of parts target.0 (suc more)) met.key met.from met.object (bytes_filled parts gone (suc more) (fills_zeros value.value)) met.reach met.stands
          ∙ ap (λ (b : Bool). bytes_filled parts gone (suc more) b met.key met.object met.from) zeros.0))
          (record {
            loss = ap (λ (b : Bool). loss_filled b true) cuts;
            single = omega arith;
            shows = λ next steps. record {
              graph = without_registers gone (after met);
              among = (0, omega arith, refl);
              shown = record {
                given = step.shown.given;
                by = subst (λ (of : ℕ → ℕ → Mark). IsShownBy (without_registers gone (after met)) next (record { of = of; input = inputs_emptied gone marks.input }) step.shown.given) (sym marks_are)
                    (ranged_shown parts form state marks step.shown.given step.shown.by met.key met.from (suc more) met.object met.stands met.live met.region met.room met.number met.blocks [] (replicate (suc more) (class_filled true))
                    (length-replicate (suc more) (class_filled true)) (λ place. Zeroed) cuts
                    (λ place here. ap bare_mark (sym (zero_class place here))) (λ place out. refl) (λ place here. ap (λ (class : ℕ). nat_lt 1 class && true) (zero_class place here)) refl gone next
                    (filled_meets parts step.graph at from address state next step.shown.given target.0 (suc more) (address_number state.memory (step.shown.given.word source) % 256) true step.shown.by.meets met (λ is. zeros.1) (leaves (suc more) next steps)));
              };
            };
          })
        where
          led : state.registers at ≡ Some (To met.number (pos met.from))
          led = at_is ∙ ap Some met.word

          cuts : cuts_none met.from (suc more) met.object.edges ≡ true
          cuts = cuts_met parts form state marks step.shown.given step.shown.by target.0 (suc more) (omega arith) met
              (subst (λ (n : ℕ). access_fault state.memory (To met.number (pos met.from)) n ≡ None → CutNone (marks.of met.number) met.from n) (sym same) (step.plain.whole met.number met.from led)
              (ap (λ (w : Word). access_fault state.memory w (suc more)) (sym met.word) ∙ free))

          zero_class : (place : ℕ) → is_in_range met.from (suc more) place ≡ true → get_or (replicate (suc more) (class_filled true)) (place - met.from) 0 ≡ class_filled true
          zero_class place here = get_or-replicate (suc more) (place - met.from) (class_filled true) 0 (let a = range_low met.from (suc more) place here in let b = range_high met.from (suc more) place here in omega arith)

          marks_are : bytes_after (Fill at from (suc more)) state marks.of ≡ with_marks met.number met.from (suc more) (λ place. Zeroed) marks.of
          marks_are =
              ap (λ (o : Option Word). on_words o (state.registers from) (λ to word. marked_at to (suc more) (written_mark (nat_eq (address_number state.memory word % 256) 0) (suc more)) marks.of) marks.of) led
              ∙ ap (λ (o : Option Word). on_words (Some (To met.number (pos met.from))) o (λ to word. marked_at to (suc more) (written_mark (nat_eq (address_number state.memory word % 256) 0) (suc more)) marks.of) marks.of) from_is
              ∙ ap (λ (b : Bool). with_marks met.number met.from (suc more) (written_mark b (suc more) met.from) marks.of) (eq-eqb _ _ zeros.1)

    by_count : (size : ℕ) → size ≡ count → Plainly size (fill_post parts at from size)
    by_count zero same = none_filled
    by_count (suc more) same =
        some_filled more same (reaches parts form state step.shown.given step.shown.by.meets target.0 (suc more) target_value.value target_value.is target_sure target_value.names)

  filled_posted : Plainly count (fill_post parts at from count)
  filled_posted = by_source (held_by parts.registers from) refl
    where
      by_source : (found : Option ℕ) → held_by parts.registers from ≡ found → Plainly count (fill_post parts at from count)
      by_source (Some source) held = by_count source held count refl
      by_source None held =
          subst (Plainly count)
          (sym (ap (λ (o : Option ℕ). on_held o (λ target. on_held (held_by parts.registers from) (λ source. filled_by parts gone count target (value_at parts.values source)))) target.1
          ∙ ap (λ (o : Option ℕ). on_held o (λ source. filled_by parts gone count target.0 (value_at parts.values source))) held))
          (none_follows (Fills at from count) state (record { of = bytes_after (Fill at from count) state marks.of; input = inputs_emptied gone marks.input }) no_post refl refl
          (λ next steps. none-some steps.word (sym (step.shown.by.meets.registers from ∙ ap (option_map step.shown.given.word) held) ∙ steps.value)))

pub fill_plain : (at from count : ℕ) → GoesPlainly (Fill at from count)
fill_plain at from count flow point parts post state marks step =
    plain_post (Fills at from count) state (marks_after (Fill at from count) state marks) (fill_post parts at from count) post step.posted (filled_posted flow point at from count parts post state marks step)
