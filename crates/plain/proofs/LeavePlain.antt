-- Variables whose scope is left, on a graph that shows a state.
use Rattle.std.proofs.Common.{◌≡◌, ℕ, ◌<◌, Bool, true, false, ◌&&◌, List, [], ◌∷◌, map, get_or, nat_eq, nat_lt, Option, None, Some, ◌⊎◌, inl, inr, refl, sym, ◌∙◌, ap, subst, eqb-true, eq-eqb}
use Rattle.std.specs.Prelude.{if◌then◌else◌}
use Rattle.std.specs.List.{list_all}
use Rattle.std.specs.Option.{option_map_or}
use Rattle.std.proofs.lemmas.Bool.{false≢true}
use Rattle.std.proofs.lemmas.Option.{same_Some}
use Rattle.graph.specs.declared.edges.HasValue.{HasValue}
use Rattle.graph.specs.declared.object.Object.{Object}
use Rattle.graph.specs.declared.parts.Held.{Held}
use Rattle.graph.specs.declared.parts.KeyedObject.{KeyedObject}
use Rattle.graph.specs.declared.parts.KeyedValue.{KeyedValue}
use Rattle.graph.specs.declared.parts.Parts.{Parts}
use Rattle.graph.specs.declared.value.Value.{Value}
use Rattle.graph.specs.Choices.{is_free}
use Rattle.graph.specs.Maps.{object_at, value_at, storage_of, held_by}
use Rattle.graph.specs.Meaning.{maps_of, Assignment, Meets}
use Rattle.graph.specs.Nodes.{is_region}
use Rattle.graph.specs.State.{State}
use Rattle.graph.specs.WellFormed.{passes_at}
use Rattle.graph.proofs.Found.{IsSome-holds, found-all}
use Rattle.graph.proofs.Tests.{and_left, and_right, and_both}
use Rattle.changes.specs.Dying.{died}
use Rattle.changes.specs.Parts.{replaced, with_object}
use Rattle.changes.proofs.Objects.{replaced-here, replaced-other}
use Rattle.flow.specs.declared.instruction.Instr.TheVariants.{Leave}
use Rattle.heap_steps.specs.Leaving.{EndsScope, LeavesScope, with_dead, with_dead_at, without_variable, without_one, left, leave_post, MayLeave}
use Rattle.heap_steps.proofs.Left.{all_graph, all_meets, all_state, all_left, IsLeft}
use Rattle.transfer.proofs.Asked.{left_ready}
use Rattle.plain.specs.Marks.{Marks}
use Rattle.plain.specs.Shown.{is_sure, may_show, mark_at, is_loose_at, IsShownBy}
use Rattle.plain.specs.Laws.{GoesPlainly}
use Rattle.plain.proofs.FinishPlain.{looked_plain}
use Rattle.plain.proofs.Reaches.{plain_post}

-- an object of which nothing is said
record IsBare (object : Object) : Type 0 where
  live : object.live ≡ false
  edges : object.edges ≡ []
  plane : object.plane ≡ []

-- what is kept of a graph of regions
record IsKept (parts other : Parts) : Type 0 where
  objects : (key : ℕ) (found : Object) → object_at other.objects key ≡ Some found → (object_at parts.objects key ≡ Some found) ⊎ IsBare found
  values : other.values ≡ parts.values
  registers : other.registers ≡ parts.registers
  ports : other.ports ≡ parts.ports
  regions : list_all (λ (entry : KeyedObject). is_region entry.object.shape) other.objects ≡ true

regions_replaced : (key : ℕ) (object : Object) (entries : List KeyedObject) → is_region object.shape ≡ true → list_all (λ (entry : KeyedObject). is_region entry.object.shape) entries ≡ true →
    list_all (λ (entry : KeyedObject). is_region entry.object.shape) (map (replaced key object) entries) ≡ true
regions_replaced key object [] region all = refl
regions_replaced key object (first ∷ rest) region all =
    and_both (is_region (replaced key object first).object.shape) (list_all (λ (entry : KeyedObject). is_region entry.object.shape) (map (replaced key object) rest))
    (by_test (nat_eq first.key key) (and_left (is_region first.object.shape) (list_all (λ (entry : KeyedObject). is_region entry.object.shape) rest) all))
    (regions_replaced key object rest region (and_right (is_region first.object.shape) (list_all (λ (entry : KeyedObject). is_region entry.object.shape) rest) all))
  where
    by_test : (b : Bool) → is_region first.object.shape ≡ true → is_region (if b then object else first.object).shape ≡ true
    by_test true own = region
    by_test false own = own

module _ (variable : ℕ) (parts : Parts) (regions : list_all (λ (entry : KeyedObject). is_region entry.object.shape) parts.objects ≡ true) where
  dead_kept : (key : ℕ) (object : Object) → object_at parts.objects key ≡ Some object → IsKept parts (with_object key (died object) (without_variable variable parts))
  dead_kept key object stands = record {
    objects = λ at found is. by_same at found is (nat_eq at key) refl;
    values = refl;
    registers = refl;
    ports = refl;
    regions = regions_replaced key (died object) parts.objects (found-all (λ (entry : KeyedObject). entry.key) (λ entry. entry.object) (λ (o : Object). is_region o.shape) parts.objects key object regions stands) regions;
  }
    where
      by_same : (at : ℕ) (found : Object) → object_at (map (replaced key (died object)) parts.objects) at ≡ Some found → (b : Bool) → nat_eq at key ≡ b → (object_at parts.objects at ≡ Some found) ⊎ IsBare found
      by_same at found is true same =
          inr (subst IsBare (same_Some _ _ (sym (replaced-here key (died object) parts.objects (IsSome-holds _ _ stands)) ∙ ap (object_at (map (replaced key (died object)) parts.objects)) (sym (eqb-true _ _ same)) ∙ is))
          (record { live = refl; edges = refl; plane = refl }))
      by_same at found is false apart = inl (sym (replaced-other key (died object) parts.objects at (λ same. false≢true (sym apart ∙ eq-eqb _ _ same))) ∙ is)

  same_kept : IsKept parts (without_variable variable parts)
  same_kept = record { objects = λ key found is. inl is; values = refl; registers = refl; ports = refl; regions = regions }

  one_kept : IsKept parts (without_one variable parts)
  one_kept = by_storage (storage_of parts.variables variable)
    where
      by_object : (key : ℕ) (found : Option Object) → object_at parts.objects key ≡ found → IsKept parts (with_dead key found (without_variable variable parts))
      by_object key None is = same_kept
      by_object key (Some object) is = dead_kept key object is

      by_storage : (found : Option ℕ) → IsKept parts (with_dead_at found (without_variable variable parts))
      by_storage None = same_kept
      by_storage (Some key) = by_object key (object_at parts.objects key) refl

left_kept : (which : List ℕ) (parts : Parts) → list_all (λ (entry : KeyedObject). is_region entry.object.shape) parts.objects ≡ true → IsKept parts (left which parts)
left_kept [] parts regions = record { objects = λ key found is. inl is; values = refl; registers = refl; ports = refl; regions = regions }
left_kept (variable ∷ rest) parts regions = both (one_kept variable parts regions) (left_kept rest (without_one variable parts) (regions_of (one_kept variable parts regions)))
  where
    regions_of : IsKept parts (without_one variable parts) → list_all (λ (entry : KeyedObject). is_region entry.object.shape) (without_one variable parts).objects ≡ true
    regions_of first = first.regions

    both : IsKept parts (without_one variable parts) → IsKept (without_one variable parts) (left rest (without_one variable parts)) → IsKept parts (left rest (without_one variable parts))
    both first later = record {
      objects = λ key found is. by_side key found (later.objects key found is);
      values = later.values ∙ first.values;
      registers = later.registers ∙ first.registers;
      ports = later.ports ∙ first.ports;
      regions = later.regions;
    }
      where
        by_side : (key : ℕ) (found : Object) → (object_at (without_one variable parts).objects key ≡ Some found) ⊎ IsBare found → (object_at parts.objects key ≡ Some found) ⊎ IsBare found
        by_side key found (inl is) = first.objects key found is
        by_side key found (inr bare) = inr bare

-- what is kept shows the state behind
kept_shown : (parts other : Parts) (state next : State) (marks : Marks) (given : Assignment) → IsKept parts other → IsShownBy parts state marks given → Meets (maps_of other) next given → IsShownBy other next marks given
kept_shown parts other state next marks given kept shown meets = record {
  meets = meets;
  marked = λ key block place found is live blocks below. by_mark key block place found live blocks below (kept.objects key found is);
  tight = λ key place found is. by_loose key place found (kept.objects key found is);
  edges = λ key found is. by_edges key found (kept.objects key found is);
  registers = λ register key held. passes_same (may_show (marks.input register)) key ∙ shown.registers register key (ap (λ (rs : List Held). held_by rs register) (sym kept.registers) ∙ held);
}
  where
    passes_same : (test : Value → Bool) (key : ℕ) → passes_at other test key ≡ passes_at parts test key
    passes_same test key = ap (λ (vs : List KeyedValue). option_map_or test (value_at vs key) false) kept.values

    by_mark : (key block place : ℕ) (found : Object) → found.live ≡ true → given.blocks key ≡ block ∷ [] → place < found.size → (object_at parts.objects key ≡ Some found) ⊎ IsBare found → marks.of block place ≡ mark_at found place
    by_mark key block place found live blocks below (inl is) = shown.marked key block place found is live blocks below
    by_mark key block place found live blocks below (inr bare) = absurd (false≢true (sym bare.live ∙ live))

    by_loose : (key place : ℕ) (found : Object) → (object_at parts.objects key ≡ Some found) ⊎ IsBare found → is_loose_at found place ≡ false
    by_loose key place found (inl is) = shown.tight key place found is
    by_loose key place found (inr bare) = ap (λ (plane : List ℕ). nat_lt 1 (get_or plane place 0) && is_free found.edges place) bare.plane

    sure_same : (edges : List HasValue) → list_all (λ (edge : HasValue). passes_at parts is_sure edge.value) edges ≡ true → list_all (λ (edge : HasValue). passes_at other is_sure edge.value) edges ≡ true
    sure_same edges sure = ap (λ (vs : List KeyedValue). list_all (λ (edge : HasValue). option_map_or is_sure (value_at vs edge.value) false) edges) kept.values ∙ sure

    by_edges : (key : ℕ) (found : Object) → (object_at parts.objects key ≡ Some found) ⊎ IsBare found → list_all (λ (edge : HasValue). passes_at other is_sure edge.value) found.edges ≡ true
    by_edges key found (inl is) = sure_same found.edges (shown.edges key found is)
    by_edges key found (inr bare) = ap (list_all (λ (edge : HasValue). passes_at other is_sure edge.value)) bare.edges

pub leave_plain : (variables : List ℕ) → GoesPlainly (Leave variables)
leave_plain variables flow point parts post state marks step =
    plain_post (LeavesScope variables) state marks (leave_post parts variables) post step.posted
    (looked_plain (left variables parts) (all_graph variables parts step.graph may) kept.regions (kept.ports ∙ step.fits.ports) ended.next marks step.shown.given (shown ended.next ended.ends) (LeavesScope variables) state marks
    (λ next steps. all_state variables state next step.is steps.ends)
    (λ next steps. steps.none)
    (λ next steps. record { given = step.shown.given; by = shown next steps.ends }))
  where
    may : MayLeave parts variables
    may = left_ready flow point (Leave variables) parts step.may step.graph variables variables refl refl

    kept : IsKept parts (left variables parts)
    kept = left_kept variables parts step.fits.regions

    ended : IsLeft variables state
    ended = all_left variables state

    shown : (next : State) → EndsScope variables state next → IsShownBy (left variables parts) next marks step.shown.given
    shown next ends = kept_shown parts (left variables parts) state next marks step.shown.given kept step.shown.by (all_meets variables parts step.graph may state next step.shown.given step.shown.by.meets ends)
