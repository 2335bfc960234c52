-- A graph shows a state still where other edges and classes are said in a range of a region, and the marks of the range are theirs.
use Rattle.std.proofs.Common.{◌≡◌, ◌≢◌, ℕ, ◌+◌, ◌-◌, ◌<◌, ◌≤◌, Bool, true, false, not, ◌&&◌, List, [], ◌∷◌, ◌++◌, length, get_or, nat_eq, nat_lt, None, Some, ◌⊎◌, inl, inr, refl, sym, ◌∙◌, ap, subst, eqb-true, eq-eqb, arith}
use Rattle.std.specs.Prelude.{slice_get, if◌then◌else◌}
use Rattle.std.specs.List.{filter, list_all}
use Rattle.std.proofs.lemmas.Bool.{false≢true}
use Rattle.std.proofs.lemmas.Option.{same_Some, none-some}
use Rattle.graph.specs.declared.edges.HasValue.{HasValue}
use Rattle.graph.specs.declared.object.Object.{Object}
use Rattle.graph.specs.declared.object.Shape.TheVariants.{Region}
use Rattle.graph.specs.declared.parts.Parts.{Parts}
use Rattle.graph.specs.Choices.{is_free}
use Rattle.graph.specs.Maps.{object_at, held_by}
use Rattle.graph.specs.Meaning.{first_of, maps_of, Assignment, Meets}
use Rattle.graph.specs.State.{State}
use Rattle.graph.specs.WellFormed.{IsWellFormed, passes_at}
use Rattle.graph.proofs.Found.{IsSome-holds}
use Rattle.changes.specs.Parts.{is_among, with_object, without_registers}
use Rattle.changes.specs.Ranges.{spliced, ends_before, begins_behind, cuts_none, edges_around, with_range}
use Rattle.changes.proofs.Objects.{eqb-miss, replaced-here, replaced-other}
use Rattle.changes.proofs.RangeForm.{all_kept, all_append, plane_long}
use Rattle.changes.proofs.RegistersChanged.{held_without}
use Rattle.changes.proofs.Splice.{spliced-below, spliced-within, spliced-behind}
use Rattle.plain.specs.Marks.{Mark, Zeroed, Marks, is_in_range, with_marks, inputs_emptied}
use Rattle.plain.specs.Shown.{is_sure, may_show, bare_mark, mark_in, mark_at, is_loose_at, IsShownBy}
use Rattle.plain.proofs.Ranges.{range_low, range_high, range_out, around_within, around_beside, free_same}

-- the marks of a range of the block of this number are others, and registers hold nothing any more
abbrev pub ranged_marks : ℕ → ℕ → ℕ → (ℕ → Mark) → List ℕ → Marks → Marks
ranged_marks number from count mark gone marks = record { of = with_marks number from count mark marks.of; input = inputs_emptied gone marks.input }

module _ (object : Object) (from count : ℕ) (new : List HasValue) (classes : List ℕ) (many : length classes ≡ count) (room : from + count ≤ length object.plane) (cuts : cuts_none from count object.edges ≡ true)
    (beside : (place : ℕ) → is_in_range from count place ≡ false → is_free new place ≡ true) where
  class_within : (place : ℕ) → is_in_range from count place ≡ true → get_or (spliced object.plane from classes) place 0 ≡ get_or classes (place - from) 0
  class_within place is = spliced-within object.plane from classes (omega arith) 0 place (range_low from count place is) (let e = range_high from count place is in omega arith)

  class_beside : (place : ℕ) → is_in_range from count place ≡ false → get_or (spliced object.plane from classes) place 0 ≡ get_or object.plane place 0
  class_beside place out = by_side (range_out from count place out)
    where
      by_side : (place < from) ⊎ (from + count ≤ place) → get_or (spliced object.plane from classes) place 0 ≡ get_or object.plane place 0
      by_side (inl low) = spliced-below object.plane from classes (omega arith) 0 place low
      by_side (inr high) = spliced-behind object.plane from classes (omega arith) 0 place (omega arith)

  pub mark_within : (place : ℕ) → is_in_range from count place ≡ true → mark_at (with_range object from count new classes) place ≡ mark_in new place (bare_mark (get_or classes (place - from) 0))
  mark_within place is =
      around_within object.edges from count new place (bare_mark (get_or (spliced object.plane from classes) place 0)) is ∙ ap (λ (class : ℕ). mark_in new place (bare_mark class)) (class_within place is)

  pub mark_beside : (place : ℕ) → is_in_range from count place ≡ false → mark_at (with_range object from count new classes) place ≡ mark_at object place
  mark_beside place out =
      around_beside object.edges from count new place (bare_mark (get_or (spliced object.plane from classes) place 0)) cuts (beside place out) out
      ∙ ap (λ (class : ℕ). mark_in object.edges place (bare_mark class)) (class_beside place out)

  pub loose_within : (place : ℕ) → is_in_range from count place ≡ true → is_loose_at (with_range object from count new classes) place ≡ (nat_lt 1 (get_or classes (place - from) 0) && is_free new place)
  loose_within place is =
      ap (λ (class : ℕ). nat_lt 1 class && is_free (edges_around object.edges from count new) place) (class_within place is)
      ∙ ap (λ (b : Bool). nat_lt 1 (get_or classes (place - from) 0) && b) (free_same (edges_around object.edges from count new) new place (around_within object.edges from count new place Zeroed is))

  pub loose_beside : (place : ℕ) → is_in_range from count place ≡ false → is_loose_at (with_range object from count new classes) place ≡ is_loose_at object place
  loose_beside place out =
      ap (λ (class : ℕ). nat_lt 1 class && is_free (edges_around object.edges from count new) place) (class_beside place out)
      ∙ ap (λ (b : Bool). nat_lt 1 (get_or object.plane place 0) && b) (free_same (edges_around object.edges from count new) object.edges place (around_beside object.edges from count new place Zeroed cuts (beside place out) out))

module _ (parts : Parts) (form : IsWellFormed parts) (state : State) (marks : Marks) (given : Assignment) (shown : IsShownBy parts state marks given) (key from count : ℕ) (object : Object)
    (stands : object_at parts.objects key ≡ Some object) (live : object.live ≡ true) (region : object.shape ≡ Region) (room : from + count ≤ object.size) (number : ℕ) (blocks : given.blocks key ≡ number ∷ [])
    (new : List HasValue) (classes : List ℕ) (many : length classes ≡ count) (mark : ℕ → Mark) (cuts : cuts_none from count object.edges ≡ true)
    (within : (place : ℕ) → is_in_range from count place ≡ true → mark place ≡ mark_in new place (bare_mark (get_or classes (place - from) 0)))
    (beside : (place : ℕ) → is_in_range from count place ≡ false → is_free new place ≡ true)
    (tight : (place : ℕ) → is_in_range from count place ≡ true → (nat_lt 1 (get_or classes (place - from) 0) && is_free new place) ≡ false)
    (sure : list_all (λ (edge : HasValue). passes_at parts is_sure edge.value) new ≡ true) where
  abbrev object' : Object
  object' = with_range object from count new classes

  abbrev after : Parts
  after = with_object key object' parts

  here : object_at after.objects key ≡ Some object'
  here = replaced-here key object' parts.objects (IsSome-holds _ _ stands)

  long : from + count ≤ length object.plane
  long = let e = plane_long parts form key object stands region live in omega arith

  -- an object of the graph behind is this one or one of the graph before
  by_key : {P : ℕ → Object → Type 0} → P key object' → ((at : ℕ) (found : Object) → at ≢ key → object_at parts.objects at ≡ Some found → P at found) → (at : ℕ) (found : Object) → object_at after.objects at ≡ Some found → P at found
  by_key {P} own other at found is = by_test (nat_eq at key) refl
    where
      by_test : (b : Bool) → nat_eq at key ≡ b → P at found
      by_test true same =
          let at_is : key ≡ at = sym (eqb-true _ _ same) in
          subst (λ (k : ℕ). P k found) at_is (subst (λ (o : Object). P key o) (same_Some _ _ (sym here ∙ ap (object_at after.objects) at_is ∙ is)) own)
      by_test false apart =
          let differ : at ≢ key = λ same. false≢true (sym apart ∙ eq-eqb _ _ same) in
          other at found differ (sym (replaced-other key object' parts.objects at differ) ∙ is)

  own_marked : (block place : ℕ) → given.blocks key ≡ block ∷ [] → with_marks number from count mark marks.of block place ≡ (if is_in_range from count place then mark place else marks.of number place)
  own_marked block place is =
      let block_is : block ≡ number = same_Some _ _ (ap first_of (sym is ∙ blocks)) in
      ap (λ (n : ℕ). with_marks number from count mark marks.of n place) block_is
      ∙ ap (λ (b : Bool). if b && is_in_range from count place then mark place else marks.of number place) (eq-eqb number number refl)

  other_marked : (at block place : ℕ) (found : Object) → at ≢ key → object_at parts.objects at ≡ Some found → given.blocks at ≡ block ∷ [] → with_marks number from count mark marks.of block place ≡ marks.of block place
  other_marked at block place found differ is blocks' =
      ap (λ (b : Bool). if b && is_in_range from count place then mark place else marks.of block place) (eqb-miss block number apart)
    where
      owner : given.owner number ≡ key
      owner = shown.meets.owners key 0 number (IsSome-holds _ _ stands) (ap (λ (ns : List ℕ). slice_get ns 0) blocks)

      owner' : given.owner block ≡ at
      owner' = shown.meets.owners at 0 block (IsSome-holds _ _ is) (ap (λ (ns : List ℕ). slice_get ns 0) blocks')

      apart : block ≢ number
      apart same = differ (sym owner' ∙ ap given.owner same ∙ owner)

  pub ranged_shown : (gone : List ℕ) (next : State) → Meets (maps_of (without_registers gone after)) next given → IsShownBy (without_registers gone after) next (ranged_marks number from count mark gone marks) given
  ranged_shown gone next meets = record {
    meets = meets;
    marked = λ at block place found is alive blocks' below.
        by_key {P = λ k o. given.blocks k ≡ block ∷ [] → o.live ≡ true → place < o.size → with_marks number from count mark marks.of block place ≡ mark_at o place}
        (λ blocks'' alive below. own_marked block place blocks'' ∙ by_range place below (is_in_range from count place) refl)
        (λ k o differ is blocks'' alive below. other_marked k block place o differ is blocks'' ∙ shown.marked k block place o is alive blocks'' below)
        at found is blocks' alive below;
    tight = λ at place found is. by_key {P = λ k o. is_loose_at o place ≡ false} (loose place (is_in_range from count place) refl) (λ k o differ is. shown.tight k place o is) at found is;
    edges = λ at found is. by_key {P = λ k o. list_all (λ (edge : HasValue). passes_at parts is_sure edge.value) o.edges ≡ true} edges_sure (λ k o differ is. shown.edges k o is) at found is;
    registers = λ register other held. by_test register other (is_among gone register) (sym (held_without gone after register) ∙ held);
  }
    where
      by_range : (place : ℕ) → place < object.size → (b : Bool) → is_in_range from count place ≡ b → (if b then mark place else marks.of number place) ≡ mark_at object' place
      by_range place below true is = within place is ∙ sym (mark_within object from count new classes many long cuts beside place is)
      by_range place below false out = shown.marked key number place object stands live blocks below ∙ sym (mark_beside object from count new classes many long cuts beside place out)

      loose : (place : ℕ) (b : Bool) → is_in_range from count place ≡ b → is_loose_at object' place ≡ false
      loose place true is = loose_within object from count new classes many long cuts beside place is ∙ tight place is
      loose place false out = loose_beside object from count new classes many long cuts beside place out ∙ shown.tight key place object stands

      old_sure : list_all (λ (edge : HasValue). passes_at parts is_sure edge.value) object.edges ≡ true
      old_sure = shown.edges key object stands

      edges_sure : list_all (λ (edge : HasValue). passes_at parts is_sure edge.value) (edges_around object.edges from count new) ≡ true
      edges_sure =
          all_append (λ (edge : HasValue). passes_at parts is_sure edge.value) (filter (ends_before from) object.edges) (new ++ filter (begins_behind (from + count)) object.edges)
          (all_kept (ends_before from) (λ (edge : HasValue). passes_at parts is_sure edge.value) (λ edge. passes_at parts is_sure edge.value) (λ edge kept has. has) object.edges old_sure)
          (all_append (λ (edge : HasValue). passes_at parts is_sure edge.value) new (filter (begins_behind (from + count)) object.edges) sure
          (all_kept (begins_behind (from + count)) (λ (edge : HasValue). passes_at parts is_sure edge.value) (λ edge. passes_at parts is_sure edge.value) (λ edge kept has. has) object.edges old_sure))

      by_test : (register other : ℕ) (among : Bool) → (if among then None else held_by parts.registers register) ≡ Some other → passes_at parts (may_show (not among && marks.input register)) other ≡ true
      by_test register other true is = absurd (none-some other is)
      by_test register other false is = shown.registers register other is
