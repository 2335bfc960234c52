-- The release of a block, on a graph that shows a state.
use Rattle.std.proofs.Common.{◌≡◌, ℕ, ◌<◌, Bool, true, false, not, ◌&&◌, List, [], ◌∷◌, nat_eq, pos, ℤ, None, Some, refl, sym, ◌∙◌, ap, subst, eqb-true, eq-eqb, arith}
use Rattle.std.specs.Prelude.{Contains, if◌then◌else◌}
use Rattle.std.specs.List.{list_all}
use Rattle.std.specs.Ordering.{int_eq}
use Rattle.std.proofs.lemmas.Bool.{false≢true}
use Rattle.std.proofs.lemmas.Option.{same_Some, none-some}
use Rattle.bytes_core.specs.declared.block.Block.{Block}
use Rattle.bytes_core.specs.declared.word.Word.{Word}
use Rattle.bytes_core.specs.Fault.{double_free, invalid_free}
use Rattle.bytes_core.specs.Release.{freed, is_heap}
use Rattle.graph.specs.declared.edges.HasValue.{HasValue}
use Rattle.graph.specs.declared.object.Object.{Object}
use Rattle.graph.specs.declared.parts.Parts.{Parts}
use Rattle.graph.specs.declared.post.Post.{Post}
use Rattle.graph.specs.declared.value.Target.{Target}
use Rattle.graph.specs.declared.value.Target.TheVariants.{Region}
use Rattle.graph.specs.declared.value.Value.{Value}
use Rattle.graph.specs.declared.value.Value.TheVariants.{Const, Number, Any, Address}
use Rattle.graph.specs.Maps.{object_at, value_at, held_by}
use Rattle.graph.specs.Meaning.{maps_of, Assignment, Meets}
use Rattle.graph.specs.State.{State}
use Rattle.graph.specs.WellFormed.{passes_at}
use Rattle.graph.proofs.Found.{IsSome-holds}
use Rattle.changes.specs.Dying.{died}
use Rattle.changes.specs.Following.{Leaves}
use Rattle.changes.specs.Parts.{is_among, emptied, with_object, without_registers}
use Rattle.changes.specs.Posted.{Posted, fault_only}
use Rattle.changes.specs.Reaching.{names_no_segment, is_address_held}
use Rattle.changes.proofs.Held.{IsAddress, address_at, address_held}
use Rattle.changes.proofs.Meeting.{IsRegionAt, region_at, has_block, word_of, region_target}
use Rattle.changes.proofs.Objects.{replaced-here, replaced-other}
use Rattle.changes.proofs.Reached.{none_in}
use Rattle.changes.proofs.RegistersChanged.{held_without}
use Rattle.flow.specs.declared.flow_graph.Flow.{Flow}
use Rattle.flow.specs.declared.instruction.Instr.TheVariants.{Release}
use Rattle.block_steps.specs.Releasing.{Releases, only_graph, object_released, release_post}
use Rattle.block_steps.proofs.ReleaseSound.{release_held, address_released, released_meets, release_sound}
use Rattle.transfer.proofs.Asked.{release_ready}
use Rattle.plain.specs.Marks.{Marks}
use Rattle.plain.specs.Shown.{is_sure, may_show, mark_at, is_loose_at, IsShownBy}
use Rattle.plain.specs.Laws.{IsPlainStep, GoesPlainly}
use Rattle.plain.proofs.Operands.{sure_value}
use Rattle.plain.proofs.Reaches.{IsPlainPosted, plain_post, none_follows}
use Rattle.plain.proofs.Registers.{emptied_marks, emptied_shown}
use Rattle.plain.proofs.WritePlain.{register_is}

-- an object that dies, and registers that hold nothing any more
pub died_shown : (parts : Parts) (state : State) (marks : Marks) (given : Assignment) → IsShownBy parts state marks given → (key : ℕ) (object : Object) → object_at parts.objects key ≡ Some object → (gone : List ℕ) (next : State) →
    Meets (maps_of (without_registers gone (with_object key (died object) parts))) next given → IsShownBy (without_registers gone (with_object key (died object) parts)) next (emptied_marks gone marks) given
died_shown parts state marks given shown key object stands gone next meets = record {
  meets = meets;
  marked = λ at block place found is alive blocks below.
      by_key {P = λ k o. o.live ≡ true → given.blocks k ≡ block ∷ [] → place < o.size → marks.of block place ≡ mark_at o place}
      (λ alive blocks below. absurd (false≢true alive)) (λ k o is alive blocks below. shown.marked k block place o is alive blocks below) at found is alive blocks below;
  tight = λ at place found is. by_key {P = λ k o. is_loose_at o place ≡ false} refl (λ k o is. shown.tight k place o is) at found is;
  edges = λ at found is. by_key {P = λ k o. list_all (λ (edge : HasValue). passes_at parts is_sure edge.value) o.edges ≡ true} refl (λ k o is. shown.edges k o is) at found is;
  registers = λ register other held. by_test register other (is_among gone register) (sym (held_without gone (with_object key (died object) parts) register) ∙ held);
}
  where
    by_key : {P : ℕ → Object → Type 0} → P key (died object) → ((at : ℕ) (found : Object) → object_at parts.objects at ≡ Some found → P at found) → (at : ℕ) (found : Object) → object_at (with_object key (died object) parts).objects at ≡ Some found → P at found
    by_key {P} own other at found is = by_same (nat_eq at key) refl
      where
        by_same : (b : Bool) → nat_eq at key ≡ b → P at found
        by_same true same =
            let at_is : key ≡ at = sym (eqb-true _ _ same) in
            subst (λ (k : ℕ). P k found) at_is (subst (λ (o : Object). P key o)
            (same_Some _ _ (sym (replaced-here key (died object) parts.objects (IsSome-holds _ _ stands)) ∙ ap (object_at (with_object key (died object) parts).objects) at_is ∙ is)) own)
        by_same false apart = other at found (sym (replaced-other key (died object) parts.objects at (λ same. false≢true (sym apart ∙ eq-eqb _ _ same))) ∙ is)

    by_test : (register other : ℕ) (among : Bool) → (if among then None else held_by parts.registers register) ≡ Some other → passes_at parts (may_show (not among && marks.input register)) other ≡ true
    by_test register other true is = absurd (none-some other is)
    by_test register other false is = shown.registers register other is

module _ (flow : Flow) (point : ℕ) (at : ℕ) (parts : Parts) (post : Post) (state : State) (marks : Marks) (step : IsPlainStep flow point (Release at) parts post state marks) where
  abbrev gone : List ℕ
  gone = at ∷ []

  address : is_address_held parts at ≡ true
  address = release_ready flow point (Release at) parts step.may step.graph at refl

  target : (key : ℕ) × (held_by parts.registers at ≡ Some key)
  target = address_held parts at address

  target_value : IsAddress parts target.0
  target_value = address_at parts at target.0 target.1 address

  target_sure : is_sure target_value.value ≡ true
  target_sure = sure_value parts state marks step.shown.given step.shown.by at target.0 target_value.value step.plain target.1 target_value.is

  at_is : state.registers at ≡ Some (step.shown.given.word target.0)
  at_is = register_is parts state step.shown.given step.shown.by.meets at target.0 target.1

  leaves : (next : State) → Releases at state next → Leaves (freed state.memory (step.shown.given.word target.0)) (emptied gone state.registers) state next
  leaves next steps = subst (λ (w : Word). Leaves (freed state.memory w) (emptied gone state.registers) state next) (same_Some _ _ (sym steps.address ∙ at_is)) steps.leaves

  abbrev Plainly : Posted → Type 0
  Plainly posted = IsPlainPosted (Releases at) state (emptied_marks gone marks) posted

  -- a fault alone
  faulted : (kind : ℕ) → release_post parts at ≡ fault_only kind → Plainly (release_post parts at)
  faulted kind is = none_follows (Releases at) state (emptied_marks gone marks) (release_post parts at) (ap (λ (p : Posted). p.loss) is) (ap (λ (p : Posted). p.graphs) is)
      (λ next steps.
      let found = release_sound parts step.graph at address state next step.is (record { given = step.shown.given; meets = step.shown.by.meets }) steps (λ four. none-some 4 (sym (ap (λ (p : Posted). p.loss) is) ∙ four)) in
      none_in found.graph (subst (λ (p : Posted). Contains p.graphs found.graph) is found.among))

  -- one graph
  went : (graph : Parts) → release_post parts at ≡ only_graph graph → ((next : State) → Releases at state next → IsShownBy graph next (emptied_marks gone marks) step.shown.given) → Plainly (release_post parts at)
  went graph is shows = subst Plainly (sym is) (record { loss = refl; single = omega arith; shows = λ next steps. record { graph = graph; among = (0, omega arith, refl); shown = record { given = step.shown.given; by = shows next steps } } })

  of_constant : (number size : ℕ) → value_at parts.values target.0 ≡ Some (Const number size) → (b : Bool) → release_post parts at ≡ (if b then only_graph (without_registers gone parts) else fault_only invalid_free) → Plainly (release_post parts at)
  of_constant number size is true same = went (without_registers gone parts) same (λ next steps.
      emptied_shown parts state marks step.shown.given step.shown.by gone next
      (subst (λ (memory : List Block). Leaves memory (emptied gone state.registers) state next) (ap (freed state.memory) (step.shown.by.meets.values target.0 (Const number size) is)) (leaves next steps)))
  of_constant number size is false same = faulted invalid_free same

  of_address : (object : ℕ) (offset : ℤ) → value_at parts.values target.0 ≡ Some (Address object offset Region) → Plainly (release_post parts at)
  of_address object offset is = by_tests (is_heap region.found.kind && int_eq offset (pos 0)) region.found.live refl posted
    where
      region : IsRegionAt parts state step.shown.given step.graph.well_formed step.shown.by.meets target.0 0 object
      region = region_at parts state step.shown.given step.graph.well_formed step.shown.by.meets target.0 0 object offset is

      posted : release_post parts at ≡ object_released parts gone object offset region.found
      posted = release_held parts at target.0 (Address object offset Region) target.1 is ∙ address_released parts gone target.0 object offset region.found region.is

      by_tests : (a b : Bool) → region.found.live ≡ b → release_post parts at ≡ (if a then (if b then only_graph (without_registers gone (with_object object (died region.found) parts)) else fault_only double_free) else fault_only invalid_free) → Plainly (release_post parts at)
      by_tests false b live same = faulted invalid_free same
      by_tests true false live same = faulted double_free same
      by_tests true true live same = went (without_registers gone (with_object object (died region.found) parts)) same (λ next steps.
          let has = has_block parts state step.shown.given step.graph.well_formed step.shown.by.meets target.0 0 object region.found region.is live region.region in
          died_shown parts state marks step.shown.given step.shown.by object region.found region.is gone next
          (released_meets parts step.graph at address state next step.shown.given target.0 object has.number offset region.found has.at_number.block step.shown.by.meets region.is has.blocks has.at_number.there has.at_number.node.kind
          (word_of parts state step.shown.given step.graph.well_formed step.shown.by.meets target.0 0 object has.number offset is has.blocks) (leaves next steps)))

  by_value : (value : Value) → value_at parts.values target.0 ≡ Some value → is_sure value ≡ true → names_no_segment value ≡ true → Plainly (release_post parts at)
  by_value (Const number size) is sure names = of_constant number size is (nat_eq number 0) (release_held parts at target.0 (Const number size) target.1 is)
  by_value (Number size) is sure names = absurd (false≢true sure)
  by_value Any is sure names = absurd (false≢true sure)
  by_value (Address object offset kind) is sure names = of_address object offset (is ∙ ap (λ (t : Target). Some (Address object offset t)) (region_target object offset kind names))

  released_posted : Plainly (release_post parts at)
  released_posted = by_value target_value.value target_value.is target_sure target_value.names

pub release_plain : (at : ℕ) → GoesPlainly (Release at)
release_plain at flow point parts post state marks step =
    plain_post (Releases at) state (emptied_marks (at ∷ []) marks) (release_post parts at) post step.posted (released_posted flow point at parts post state marks step)
