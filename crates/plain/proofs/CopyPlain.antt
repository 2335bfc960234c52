-- A copy of whole pieces and zeros on a graph that shows a state.
use Rattle.std.proofs.Common.{◌≡◌, ℕ, zero, suc, ◌+◌, ◌-◌, ◌<◌, ◌≤◌, Bool, true, false, not, ◌&&◌, List, [], ◌∷◌, length, take, drop, get_or, pos, Option, None, Some, refl, sym, ◌∙◌, ap, subst, arith, length-take, length-drop, min}
use Rattle.std.specs.Prelude.{if◌then◌else◌}
use Rattle.std.proofs.lemmas.Option.{same_Some, none-some}
use Rattle.bytes_core.specs.declared.block.Block.{Block}
use Rattle.bytes_core.specs.declared.word.Word.{Word}
use Rattle.bytes_core.specs.declared.word.Word.TheVariants.{To}
use Rattle.bytes_core.specs.Access.{access_fault}
use Rattle.bytes_core.specs.Copying.{first_fault, share_byte, copy_fault, copied}
use Rattle.bytes_core.specs.Fault.{overlapping_copy}
use Rattle.bytes_core.proofs.Kept.{copied_nothing}
use Rattle.graph.specs.declared.edges.HasValue.{HasValue}
use Rattle.graph.specs.declared.parts.Parts.{Parts}
use Rattle.graph.specs.declared.post.Post.{Post}
use Rattle.graph.specs.Maps.{held_by}
use Rattle.graph.specs.State.{State}
use Rattle.graph.specs.WellFormed.{IsWellFormed}
use Rattle.graph.proofs.Found.{IsSome-holds}
use Rattle.changes.specs.Following.{Leaves}
use Rattle.changes.specs.Parts.{emptied, with_object, without_registers}
use Rattle.changes.specs.Posted.{Posted, on_reach}
use Rattle.changes.specs.Ranges.{cuts_none}
use Rattle.changes.specs.Reaching.{is_address_held, reach_of}
use Rattle.changes.specs.declared.reach.Reach.{Reach}
use Rattle.changes.specs.declared.reach.Reach.TheVariants as leads
use Rattle.changes.proofs.Held.{IsAddress, address_at, address_held}
use Rattle.changes.proofs.Meeting.{IsMet}
use Rattle.changes.proofs.RangeForm.{plane_long}
use Rattle.flow.specs.declared.flow_graph.Flow.{Flow}
use Rattle.flow.specs.declared.instruction.Instr.TheVariants.{Copy}
use Rattle.range_steps.specs.Copies.{Copies}
use Rattle.range_steps.specs.Copying.{moved_edges, copied_object, has_bare_byte, copies_all, overlap, object_written, object_copied, may_overlap, with_overlap, copied_between, copy_post}
use Rattle.range_steps.proofs.Between.{post_held, overlap_loss, overlap_graphs, behind_source, between_room, between_rooms}
use Rattle.range_steps.proofs.CopySound.{first_none, share_is, copied_meets}
use Rattle.transfer.proofs.Asked.{target_ready, source_ready}
use Rattle.plain.specs.Marks.{Marks, Mark, is_in_range, with_marks, marked_at, moved_mark, copied_mark, on_words, bytes_after, inputs_emptied, marks_after}
use Rattle.plain.specs.Conditions.{CutNone, AreWritten}
use Rattle.plain.specs.Shown.{is_sure, bare_mark, mark_in, mark_at, IsShownBy}
use Rattle.plain.specs.Laws.{IsPlainStep, GoesPlainly}
use Rattle.plain.proofs.CopyMarks.{copied_within}
use Rattle.plain.proofs.CopyRest.{copied_beside, copied_class, copied_tight, copied_sure, none_bare}
use Rattle.plain.proofs.FillPlain.{shown_as, nothing_marked}
use Rattle.plain.proofs.Operands.{sure_value}
use Rattle.plain.proofs.RangedObjects.{ranged_shown}
use Rattle.plain.proofs.Ranges.{range_low, range_high, range_is}
use Rattle.plain.proofs.Reaches.{IsPlainPosted, plain_post, none_follows, Reaches, Faults, Room, reaches}
use Rattle.plain.proofs.Registers.{emptied_shown}
use Rattle.plain.proofs.WritePlain.{register_is, cuts_met}

nothing_copied : (one other : Option Word) (marks : ℕ → ℕ → Mark) (block place : ℕ) → on_words one other (λ target source. marked_at target 0 (copied_mark marks source) marks) marks block place ≡ marks block place
nothing_copied None other marks block place = refl
nothing_copied (Some one) None marks block place = refl
nothing_copied (Some one) (Some other) marks block place = nothing_marked one (copied_mark marks other) marks block place

module _ (flow : Flow) (point : ℕ) (to from count : ℕ) (disjoint : Bool) (parts : Parts) (post : Post) (state : State) (marks : Marks) (step : IsPlainStep flow point (Copy to from count disjoint) parts post state marks) where
  form : IsWellFormed parts
  form = step.graph.well_formed

  abbrev gone : List ℕ
  gone = to ∷ from ∷ []

  to_address : is_address_held parts to ≡ true
  to_address = target_ready flow point (Copy to from count disjoint) parts step.may step.graph to from count disjoint refl

  from_address : is_address_held parts from ≡ true
  from_address = source_ready flow point (Copy to from count disjoint) parts step.may step.graph to from count disjoint refl

  target : (key : ℕ) × (held_by parts.registers to ≡ Some key)
  target = address_held parts to to_address

  source : (key : ℕ) × (held_by parts.registers from ≡ Some key)
  source = address_held parts from from_address

  target_value : IsAddress parts target.0
  target_value = address_at parts to target.0 target.1 to_address

  source_value : IsAddress parts source.0
  source_value = address_at parts from source.0 source.1 from_address

  target_sure : is_sure target_value.value ≡ true
  target_sure = sure_value parts state marks step.shown.given step.shown.by to target.0 target_value.value step.plain.known target.1 target_value.is

  source_sure : is_sure source_value.value ≡ true
  source_sure = sure_value parts state marks step.shown.given step.shown.by from source.0 source_value.value step.plain.source source.1 source_value.is

  to_is : state.registers to ≡ Some (step.shown.given.word target.0)
  to_is = register_is parts state step.shown.given step.shown.by.meets to target.0 target.1

  from_is : state.registers from ≡ Some (step.shown.given.word source.0)
  from_is = register_is parts state step.shown.given step.shown.by.meets from source.0 source.1

  abbrev after_marks : ℕ → Marks
  after_marks size = record { of = bytes_after (Copy to from size disjoint) state marks.of; input = inputs_emptied gone marks.input }

  abbrev Plainly : ℕ → Posted → Type 0
  Plainly size posted = IsPlainPosted (Copies to from size disjoint) state (after_marks size) posted

  leaves : (size : ℕ) (next : State) → Copies to from size disjoint state next → Leaves (copied state.memory (step.shown.given.word target.0) (step.shown.given.word source.0) size) (emptied gone state.registers) state next
  leaves size next steps =
      subst (λ (w : Word). Leaves (copied state.memory w (step.shown.given.word source.0) size) (emptied gone state.registers) state next) (same_Some _ _ (sym steps.to_holds ∙ to_is))
      (subst (λ (w : Word). Leaves (copied state.memory steps.target w size) (emptied gone state.registers) state next) (same_Some _ _ (sym steps.from_holds ∙ from_is)) steps.leaves)

  -- a step meets no fault
  room_is : (size : ℕ) (next : State) → Copies to from size disjoint state next → copy_fault state.memory (step.shown.given.word target.0) (step.shown.given.word source.0) size disjoint ≡ None
  room_is size next steps =
      ap (λ (w : Word). copy_fault state.memory w (step.shown.given.word source.0) size disjoint) (same_Some _ _ (sym to_is ∙ steps.to_holds))
      ∙ ap (λ (w : Word). copy_fault state.memory steps.target w size disjoint) (same_Some _ _ (sym from_is ∙ steps.from_holds))
      ∙ steps.room

  -- no bytes
  none_copied : Plainly 0 (copy_post parts to from 0 disjoint)
  none_copied = subst (Plainly 0) (sym (post_held parts to from 0 target.0 source.0 disjoint target.1 source.1)) (record {
    loss = refl;
    single = omega arith;
    shows = λ next steps. record {
      graph = without_registers gone parts;
      among = (0, omega arith, refl);
      shown = record {
        given = step.shown.given;
        by = shown_as (without_registers gone parts) next (record { of = marks.of; input = inputs_emptied gone marks.input }) (after_marks 0) step.shown.given
            (nothing_copied (state.registers to) (state.registers from) marks.of) (λ register. refl)
            (emptied_shown parts state marks step.shown.given step.shown.by gone next
            (subst (λ (memory : List Block). Leaves memory (emptied gone state.registers) state next)
            (copied_nothing state.memory (step.shown.given.word target.0) (step.shown.given.word source.0) 0 refl) (leaves 0 next steps)));
      };
    };
  })

  module _ (more : ℕ) (same : suc more ≡ count) where
    abbrev source_reach : Reach
    source_reach = reach_of parts source.0 (suc more)

    abbrev target_reach : Reach
    target_reach = reach_of parts target.0 (suc more)

    abbrev between : Posted
    between = copied_between parts gone disjoint (suc more) source_reach target_reach

    post_is : copy_post parts to from (suc more) disjoint ≡ between
    post_is = post_held parts to from (suc more) target.0 source.0 disjoint target.1 source.1

    module _ (one : IsMet parts state step.shown.given source.0 (suc more)) (two : IsMet parts state step.shown.given target.0 (suc more)) where
      abbrev classes : List ℕ
      classes = take (suc more) (drop one.from one.object.plane)

      abbrev moved : List HasValue
      moved = moved_edges one.object.edges one.from (suc more) two.from

      abbrev after : Parts
      after = with_object two.key (copied_object one.object one.from two.object two.from (suc more)) parts

      to_led : state.registers to ≡ Some (To two.number (pos two.from))
      to_led = to_is ∙ ap Some two.word

      from_led : state.registers from ≡ Some (To one.number (pos one.from))
      from_led = from_is ∙ ap Some one.word

      rooms : between ≡ object_copied parts gone disjoint (suc more) one.key one.object one.from two.key two.object two.from
      rooms = between_rooms parts gone disjoint (suc more) source_reach target_reach one.key one.from one.object two.key two.from two.object one.reach one.stands two.reach two.stands

      shares : (disjoint && share_byte (step.shown.given.word target.0) (step.shown.given.word source.0) (suc more)) ≡ (disjoint && overlap two.key two.from one.key one.from (suc more))
      shares =
          ap (λ (w : Word). disjoint && share_byte w (step.shown.given.word source.0) (suc more)) two.word
          ∙ ap (λ (w : Word). disjoint && share_byte (To two.number (pos two.from)) w (suc more)) one.word
          ∙ ap (λ (b : Bool). disjoint && b) (share_is parts state step.shown.given step.shown.by.meets two.key two.from one.key one.from (suc more) two.number one.number
          (IsSome-holds _ _ two.stands) (IsSome-holds _ _ one.stands) two.blocks one.blocks)

      classes_long : length classes ≡ suc more
      classes_long =
          length-take (suc more) (drop one.from one.object.plane) ∙ ap (min (suc more)) (length-drop one.from one.object.plane)
          ∙ (let a = plane_long parts form one.key one.object one.stands one.region one.live in let b = one.room in omega arith)

      -- the mark of a byte of the source
      source_mark : (place : ℕ) → one.from ≤ place → place < one.from + suc more → marks.of one.number place ≡ mark_at one.object place
      source_mark place low high = step.shown.by.marked one.key one.number place one.object one.stands one.live one.blocks (let b = one.room in omega arith)

      behind : (place : ℕ) → is_in_range two.from (suc more) place ≡ true → (one.from ≤ one.from + (place - two.from)) × (one.from + (place - two.from) < one.from + suc more)
      behind place here = let a = range_low two.from (suc more) place here in let b = range_high two.from (suc more) place here in (omega arith, omega arith)

      marks_are : bytes_after (Copy to from (suc more) disjoint) state marks.of ≡ with_marks two.number two.from (suc more) (copied_mark marks.of (To one.number (pos one.from)) two.from) marks.of
      marks_are =
          ap (λ (o : Option Word). on_words o (state.registers from) (λ target source. marked_at target (suc more) (copied_mark marks.of source) marks.of) marks.of) to_led
          ∙ ap (λ (o : Option Word). on_words (Some (To two.number (pos two.from))) o (λ target source. marked_at target (suc more) (copied_mark marks.of source) marks.of) marks.of) from_led

      module _ (free : copy_fault state.memory (step.shown.given.word target.0) (step.shown.given.word source.0) (suc more) disjoint ≡ None) where
        fault_led : copy_fault state.memory (To two.number (pos two.from)) (To one.number (pos one.from)) count disjoint ≡ None
        fault_led = subst (λ (n : ℕ). copy_fault state.memory (To two.number (pos two.from)) (To one.number (pos one.from)) n disjoint ≡ None) same
            (ap (λ (w : Word). copy_fault state.memory w (To one.number (pos one.from)) (suc more) disjoint) (sym two.word)
            ∙ ap (λ (w : Word). copy_fault state.memory (step.shown.given.word target.0) w (suc more) disjoint) (sym one.word)
            ∙ free)

        target_cuts : cuts_none two.from (suc more) two.object.edges ≡ true
        target_cuts = cuts_met parts form state marks step.shown.given step.shown.by target.0 (suc more) (omega arith) two
            (subst (CutNone (marks.of two.number) two.from) (sym same) (step.plain.whole two.number two.from (To one.number (pos one.from)) to_led from_led fault_led))

        source_asked : CutNone (marks.of one.number) one.from (suc more) × AreWritten (marks.of one.number) one.from (suc more)
        source_asked = subst (λ (n : ℕ). CutNone (marks.of one.number) one.from n × AreWritten (marks.of one.number) one.from n) (sym same)
            (step.plain.written one.number one.from (To two.number (pos two.from)) to_led from_led fault_led)

        source_cuts : cuts_none one.from (suc more) one.object.edges ≡ true
        source_cuts = cuts_met parts form state marks step.shown.given step.shown.by source.0 (suc more) (omega arith) one source_asked.0

        none_unsaid : has_bare_byte one.object.edges one.object.plane one.from (suc more) ≡ false
        none_unsaid = none_bare one.object.edges one.object.plane one.from (suc more)
            (λ place low high unwritten. source_asked.1 place (range_is one.from (suc more) place low high) (source_mark place low high ∙ unwritten))

        all_copied : copies_all one.object one.from two.object two.from (suc more) ≡ true
        all_copied =
            ap (λ (b : Bool). (b && not (has_bare_byte one.object.edges one.object.plane one.from (suc more))) && cuts_none two.from (suc more) two.object.edges) source_cuts
            ∙ ap (λ (b : Bool). not b && cuts_none two.from (suc more) two.object.edges) none_unsaid
            ∙ target_cuts

        written_plain : Plainly (suc more) (object_written parts gone false (suc more) one.object one.from two.key two.object two.from)
        written_plain = record {
          loss = ap (λ (b : Bool). if b then None else Some 3) all_copied;
          single = omega arith;
          shows = λ next steps. record {
            graph = without_registers gone after;
            among = (0, omega arith, refl);
            shown = record {
              given = step.shown.given;
              by = subst (λ (of : ℕ → ℕ → Mark). IsShownBy (without_registers gone after) next (record { of = of; input = inputs_emptied gone marks.input }) step.shown.given) (sym marks_are)
                  (ranged_shown parts form state marks step.shown.given step.shown.by two.key two.from (suc more) two.object two.stands two.live two.region two.room two.number two.blocks moved classes classes_long
                  (copied_mark marks.of (To one.number (pos one.from)) two.from) target_cuts within
                  (copied_beside one.object.edges one.from (suc more) two.from)
                  (λ place here. copied_tight one.object.edges one.object.plane one.from (suc more) two.from place source_cuts here (step.shown.by.tight one.key (one.from + (place - two.from)) one.object one.stands))
                  (copied_sure parts one.object.edges one.from (suc more) two.from (step.shown.by.edges one.key one.object one.stands)) gone next
                  (copied_meets parts step.graph to from disjoint state next step.shown.given target.0 source.0 (suc more) step.shown.by.meets one two (leaves (suc more) next steps)));
            };
          };
        }
          where
            within : (place : ℕ) → is_in_range two.from (suc more) place ≡ true → copied_mark marks.of (To one.number (pos one.from)) two.from place ≡ mark_in moved place (bare_mark (get_or classes (place - two.from) 0))
            within place here =
                ap (moved_mark one.from two.from) (source_mark (one.from + (place - two.from)) (behind place here).0 (behind place here).1)
                ∙ sym (copied_within one.object.edges one.from (suc more) two.from place (get_or one.object.plane (one.from + (place - two.from)) 0) source_cuts here)
                ∙ ap (λ (class : ℕ). mark_in moved place (bare_mark class)) (sym (copied_class one.object.plane one.from (suc more) two.from place here))

      rooms_copied : access_fault state.memory (step.shown.given.word source.0) (suc more) ≡ None → access_fault state.memory (step.shown.given.word target.0) (suc more) ≡ None →
          (b : Bool) → (disjoint && overlap two.key two.from one.key one.from (suc more)) ≡ b → Plainly (suc more) (object_written parts gone b (suc more) one.object one.from two.key two.object two.from)
      rooms_copied source_free target_free b is = by_overlap b
          (ap (λ (o : Option ℕ). first_fault o (first_fault (access_fault state.memory (step.shown.given.word target.0) (suc more)) (if disjoint && share_byte (step.shown.given.word target.0) (step.shown.given.word source.0) (suc more) then Some overlapping_copy else None))) source_free
          ∙ ap (λ (o : Option ℕ). first_fault o (if disjoint && share_byte (step.shown.given.word target.0) (step.shown.given.word source.0) (suc more) then Some overlapping_copy else None)) target_free
          ∙ ap (λ (c : Bool). if c then Some overlapping_copy else None) (shares ∙ is))
        where
          by_overlap : (b : Bool) → copy_fault state.memory (step.shown.given.word target.0) (step.shown.given.word source.0) (suc more) disjoint ≡ (if b then Some overlapping_copy else None) →
              Plainly (suc more) (object_written parts gone b (suc more) one.object one.from two.key two.object two.from)
          by_overlap true fault = none_follows (Copies to from (suc more) disjoint) state (after_marks (suc more)) _ refl refl (λ next steps. none-some overlapping_copy (sym (room_is (suc more) next steps) ∙ fault))
          by_overlap false fault = written_plain fault

    -- no state follows an access that meets a fault
    never : (kind : ℕ) (next : State) → Copies to from (suc more) disjoint state next → copy_fault state.memory (step.shown.given.word target.0) (step.shown.given.word source.0) (suc more) disjoint ≡ Some kind → ⊥
    never kind next steps fault = none-some kind (sym (room_is (suc more) next steps) ∙ fault)

    by_target : Reaches parts state step.shown.given target.0 (suc more) → access_fault state.memory (step.shown.given.word source.0) (suc more) ≡ None → IsMet parts state step.shown.given source.0 (suc more) → Plainly (suc more) between
    by_target (Faults kind reach_is fault) source_free one =
        none_follows (Copies to from (suc more) disjoint) state (after_marks (suc more)) between
        (ap (λ (p : Posted). p.loss) room_is_met ∙ overlap_loss some onward ∙ ap (λ (r : Reach). (on_reach parts r (object_copied parts gone disjoint (suc more) one.key one.object one.from)).loss) reach_is)
        (ap (λ (p : Posted). p.graphs) room_is_met ∙ overlap_graphs some onward ∙ ap (λ (r : Reach). (on_reach parts r (object_copied parts gone disjoint (suc more) one.key one.object one.from)).graphs) reach_is)
        (λ next steps. none-some kind (sym (first_none (access_fault state.memory (step.shown.given.word target.0) (suc more)) _ (first_none (access_fault state.memory (step.shown.given.word source.0) (suc more)) _ (room_is (suc more) next steps)).1).0 ∙ fault))
      where
        some : Bool
        some = disjoint && may_overlap parts (suc more) (leads.Room one.key one.from) target_reach

        onward : Posted
        onward = on_reach parts target_reach (object_copied parts gone disjoint (suc more) one.key one.object one.from)

        room_is_met : between ≡ with_overlap some onward
        room_is_met = between_room parts gone disjoint (suc more) source_reach target_reach one.key one.from one.object one.reach one.stands
    by_target (Room target_free two) source_free one =
        subst (Plainly (suc more)) (sym (rooms one two)) (rooms_copied one two source_free target_free (disjoint && overlap two.key two.from one.key one.from (suc more)) refl)

    by_source : Reaches parts state step.shown.given source.0 (suc more) → Plainly (suc more) between
    by_source (Faults kind reach_is fault) =
        none_follows (Copies to from (suc more) disjoint) state (after_marks (suc more)) between
        (overlap_loss some onward ∙ ap (λ (r : Reach). (on_reach parts r (behind_source parts gone disjoint (suc more) source_reach target_reach)).loss) reach_is)
        (overlap_graphs some onward ∙ ap (λ (r : Reach). (on_reach parts r (behind_source parts gone disjoint (suc more) source_reach target_reach)).graphs) reach_is)
        (λ next steps. none-some kind (sym (first_none (access_fault state.memory (step.shown.given.word source.0) (suc more)) _ (room_is (suc more) next steps)).0 ∙ fault))
      where
        some : Bool
        some = disjoint && may_overlap parts (suc more) source_reach target_reach

        onward : Posted
        onward = on_reach parts source_reach (behind_source parts gone disjoint (suc more) source_reach target_reach)
    by_source (Room source_free one) =
        by_target (reaches parts form state step.shown.given step.shown.by.meets target.0 (suc more) target_value.value target_value.is target_sure target_value.names) source_free one

    some_copied : Plainly (suc more) (copy_post parts to from (suc more) disjoint)
    some_copied = subst (Plainly (suc more)) (sym post_is)
        (by_source (reaches parts form state step.shown.given step.shown.by.meets source.0 (suc more) source_value.value source_value.is source_sure source_value.names))

  by_count : (size : ℕ) → size ≡ count → Plainly size (copy_post parts to from size disjoint)
  by_count zero same = none_copied
  by_count (suc more) same = some_copied more same

  copied_posted : Plainly count (copy_post parts to from count disjoint)
  copied_posted = by_count count refl

pub copy_plain : (to from count : ℕ) (disjoint : Bool) → GoesPlainly (Copy to from count disjoint)
copy_plain to from count disjoint flow point parts post state marks step =
    plain_post (Copies to from count disjoint) state (marks_after (Copy to from count disjoint) state marks) (copy_post parts to from count disjoint) post step.posted (copied_posted flow point to from count disjoint parts post state marks step)
