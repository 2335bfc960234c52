-- A graph without a segment stands for exactly the states for which the graph stands without a node of it.
use Rattle.std.proofs.Common.{◌≡◌, ℕ, ◌≤◌, Bool, true, false, ◌||◌, ◌&&◌, not, cond, List, [], ◌∷◌, map, length, take, drop, replicate, nat_eq, nat_le, ℤ, Option, None, Some, refl, sym, ◌∙◌, ap, subst, eqb-true, leb-true, le-leb, arith}
use Rattle.std.specs.Prelude.{IsSome, option_map}
use Rattle.std.specs.List.{filter, list_all}
use Rattle.std.specs.Option.{option_map_or}
use Rattle.std.proofs.lemmas.Bool.{false≢true}
use Rattle.std.proofs.lemmas.Option.{same_Some, none-some}
use Rattle.bytes_core.specs.declared.word.Word.{Word}
use Rattle.bytes_core.specs.Value.{word_bytes}
use Rattle.bytes_core.specs.Release.{is_heap}
use Rattle.graph.specs.declared.edges.HasValue.{HasValue}
use Rattle.graph.specs.declared.object.Links.{Links}
use Rattle.graph.specs.declared.object.Object.{Object}
use Rattle.graph.specs.declared.object.Shape.{Shape}
use Rattle.graph.specs.declared.object.Shape.TheVariants.{Region as RegionShape, Segment}
use Rattle.graph.specs.declared.value.Target.TheVariants.{Region, First, Last, Each}
use Rattle.graph.specs.declared.value.Value.{Value}
use Rattle.graph.specs.declared.value.Value.TheVariants.{Const, Number, Any, Address}
use Rattle.graph.specs.declared.parts.KeyedObject.{KeyedObject}
use Rattle.graph.specs.declared.parts.KeyedValue.{KeyedValue}
use Rattle.graph.specs.declared.parts.Named.{Named}
use Rattle.graph.specs.declared.parts.Parts.{Parts}
use Rattle.graph.specs.Closed.{OnEdges, OnEnds, OnNamed}
use Rattle.graph.specs.Large.{leads_to}
use Rattle.graph.specs.Maps.{object_at, value_at, storage_of}
use Rattle.graph.specs.Nodes.{is_region, links_in, own_node, node_of, link_edges}
use Rattle.graph.specs.Sizes.{value_class, is_zero}
use Rattle.graph.specs.State.{State}
use Rattle.graph.specs.WellFormed.{IsWellFormed, passes_at, may_stand_in, may_be_held, leads_to_object, is_storage, has_class_a_byte, is_segment_storage, says_nothing, lies_in, are_in_order, edge_has_size, edge_has_class, is_outward, is_null, back_fits}
use Rattle.graph.specs.Meaning.{HaveClasses, own_word, Ends, ends_in, ends_of, no_ends, HasWord, own_offset, word_at, IsRooted, IsRootedWord}
use Rattle.graph.proofs.Found.{Holds-some, found-here, found-later, found-all, found-changed}
use Rattle.graph.proofs.Sent.{passes-some}
use Rattle.graph.proofs.Tests.{and_left, and_right, and_both, list_all-implies}
use Rattle.graph.proofs.Unheld.{found_staying}
use Rattle.changes.specs.Ranges.{class_for}
use Rattle.changes.proofs.Region.{small_edge}
use Rattle.materialise.specs.Beyond.{emptied_value, value_after}
use Rattle.materialise.specs.Dropped.{shape_now, object_now, entry_now, dropped_by, dropped}
use Rattle.materialise.proofs.Emptiable.{MayBeEmpty}
use Rattle.materialise.proofs.Emptied.{null_outward, emptied, emptied_same, emptied_outward, emptied_class}
use Rattle.materialise.proofs.Means.{Fits, value_fits, plain_fits, IsFit, ObjectFits}
use Rattle.materialise.proofs.Planes.{all_edges}

-- nothing stands at the key of what went
found_none : (entries : List KeyedObject) (key : ℕ) → object_at (filter (λ entry. not (nat_eq entry.key key)) entries) key ≡ None
found_none [] key = refl
found_none (first ∷ rest) key = by_key (nat_eq first.key key) refl (found_none rest key)
  where
    by_key : (b : Bool) → nat_eq first.key key ≡ b → object_at (filter (λ entry. not (nat_eq entry.key key)) rest) key ≡ None →
        object_at (cond (not b) (first ∷ filter (λ entry. not (nat_eq entry.key key)) rest) (filter (λ entry. not (nat_eq entry.key key)) rest)) key ≡ None
    by_key true is later = later
    by_key false is later = found-later (λ (entry : KeyedObject). entry.key) (λ entry. entry.object) first (filter (λ entry. not (nat_eq entry.key key)) rest) key is ∙ later

on_edges : (P : ℕ → Type 0) (test : HasValue → Bool) → ((edge : HasValue) → test edge ≡ true → P edge.value) → (edges : List HasValue) → list_all test edges ≡ true → OnEdges P edges
on_edges P test implies [] all = tt
on_edges P test implies (edge ∷ rest) all = (implies edge (and_left (test edge) (list_all test rest) all), on_edges P test implies rest (and_right (test edge) (list_all test rest) all))

pub all_both : {X : Type 0} (one other : X → Bool) (xs : List X) → list_all one xs ≡ true → list_all other xs ≡ true → list_all (λ x. one x && other x) xs ≡ true
all_both one other [] all all' = refl
all_both one other (x ∷ xs) all all' =
    and_both (one x && other x) (list_all (λ x. one x && other x) xs) (and_both (one x) (other x) (and_left (one x) (list_all one xs) all) (and_left (other x) (list_all other xs) all'))
    (all_both one other xs (and_right (one x) (list_all one xs) all) (and_right (other x) (list_all other xs) all'))

ends_stay : (now : ℕ → Value) (shape : Shape) (word : ℕ → Word) → ends_in (shape_now now shape) word ≡ ends_in shape word
ends_stay now RegionShape word = refl
ends_stay now (Segment twofold head next prev back least next_value prev_value node) word = refl

some_mapped : {A B : Type 0} (f : A → B) (found : Option A) → IsSome found → IsSome (option_map f found)
some_mapped f None some = some
some_mapped f (Some item) some = refl

mapped_some : {A B : Type 0} (f : A → B) (found : Option A) → IsSome (option_map f found) → IsSome found
mapped_some f None some = some
mapped_some f (Some item) some = refl

rooted_address : (roots : List ℕ) (value : Value) (word : Word) → IsRootedWord roots word → IsRooted roots (Some value) word
rooted_address roots (Const number size) word rooted = tt
rooted_address roots (Number size) word rooted = tt
rooted_address roots Any word rooted = tt
rooted_address roots (Address object offset target) word rooted = rooted

rooted_outward : (roots : List ℕ) (count : ℕ) (blocks : ℕ → List ℕ) (ends : ℕ → Ends) (value : Value) (word : Word) → is_outward value ≡ true → HasWord count blocks ends value word → IsRooted roots (Some value) word → IsRootedWord roots word
rooted_outward roots count blocks ends (Const number size) word outward has rooted = subst (λ (w : Word). IsRootedWord roots w) (sym has) tt
rooted_outward roots count blocks ends (Number size) word outward has rooted = absurd (false≢true outward)
rooted_outward roots count blocks ends Any word outward has rooted = absurd (false≢true outward)
rooted_outward roots count blocks ends (Address object offset target) word outward has rooted = rooted

module _ (parts : Parts) (form : IsWellFormed parts) (key : ℕ) (may : MayBeEmpty parts key) where
  abbrev pub now : ℕ → Value
  now = value_after parts key may.links

  abbrev pub after : Parts
  after = dropped_by parts key may.links

  pub dropped_is : dropped key parts ≡ after
  dropped_is = ap (λ (o : Option Links). option_map_or (dropped_by parts key) o parts) (ap (λ (o : Option Object). elim o as (λ (x : Option Object). Option Links) [ None ↦ None | Some object ↦ links_in object.shape ]) may.stands ∙ may.linked)

  -- What stands at keys.

  pub value_there : (at : ℕ) → value_at after.values at ≡ option_map (emptied parts form key may) (value_at parts.values at)
  value_there at =
      found-changed (λ (entry : KeyedValue). entry.key) (λ entry. entry.value) (λ (entry : KeyedValue). entry.key) (λ entry. entry.value)
      (λ entry. record { key = entry.key; value = emptied_value parts key may.links entry.value }) (emptied parts form key may) (λ entry. refl) (λ entry. refl) parts.values at

  pub now_is : (at : ℕ) (value : Value) → value_at parts.values at ≡ Some value → now at ≡ emptied parts form key may value
  now_is at value is = ap (λ (o : Option Value). option_map_or (emptied_value parts key may.links) o Any) is

  pub object_there : (at : ℕ) → nat_eq at key ≡ false → object_at after.objects at ≡ option_map (object_now now) (object_at parts.objects at)
  object_there at other =
      found_staying (λ (entry : KeyedObject). entry.key) (λ entry. entry.object) (λ k. not (nat_eq k key)) (map (entry_now now) parts.objects) at (ap not other)
      ∙ found-changed (λ (entry : KeyedObject). entry.key) (λ entry. entry.object) (λ (entry : KeyedObject). entry.key) (λ entry. entry.object) (entry_now now) (object_now now) (λ entry. refl) (λ entry. refl) parts.objects at

  pub is_other : (at : ℕ) → IsSome (object_at after.objects at) → nat_eq at key ≡ false
  is_other at some = by_key (nat_eq at key) refl
    where
      by_key : (b : Bool) → nat_eq at key ≡ b → nat_eq at key ≡ false
      by_key false is = is
      by_key true is = absurd (false≢true (subst (λ (o : Option Object). IsSome o) (ap (object_at after.objects) (eqb-true _ _ is) ∙ found_none (map (entry_now now) parts.objects) key) some))

  pub was_some : (at : ℕ) → IsSome (object_at after.objects at) → IsSome (object_at parts.objects at)
  was_some at some = mapped_some (object_now now) (object_at parts.objects at) (subst (λ (o : Option Object). IsSome o) (object_there at (is_other at some)) some)

  pub is_some_there : (at : ℕ) → nat_eq at key ≡ false → IsSome (object_at parts.objects at) → IsSome (object_at after.objects at)
  is_some_there at other some = subst (λ (o : Option Object). IsSome o) (sym (object_there at other)) (some_mapped (object_now now) (object_at parts.objects at) some)

  -- the segment lives, and is allocated
  segment_stored : is_segment_storage may.object ≡ true
  segment_stored = by_shape may.object.shape may.linked
      (found-all (λ (entry : KeyedObject). entry.key) (λ entry. entry.object) (λ object. is_region object.shape || is_segment_storage object) parts.objects key may.object form.segments_are_allocated may.stands)
    where
      by_shape : (shape : Shape) → links_in shape ≡ Some may.links → (is_region shape || is_segment_storage may.object) ≡ true → is_segment_storage may.object ≡ true
      by_shape RegionShape linked holds = absurd (none-some may.links linked)
      by_shape (Segment twofold head next prev back least next_value prev_value node) linked holds = holds

  pub segment_lives : may.object.live ≡ true
  segment_lives = and_left may.object.live (is_heap may.object.kind && says_nothing may.object.edges may.object.plane) segment_stored

  segment_heap : is_heap may.object.kind ≡ true
  segment_heap = and_left (is_heap may.object.kind) (says_nothing may.object.edges may.object.plane) (and_right may.object.live (is_heap may.object.kind && says_nothing may.object.edges may.object.plane) segment_stored)

  -- the storage of a variable is another object
  pub stored_other : (at : ℕ) → option_map_or is_storage (object_at parts.objects at) false ≡ true → nat_eq at key ≡ false
  stored_other at stored = by_key (nat_eq at key) refl
    where
      by_key : (b : Bool) → nat_eq at key ≡ b → nat_eq at key ≡ false
      by_key false other = other
      by_key true same =
          absurd (false≢true (sym (ap not segment_heap) ∙ and_right may.object.live (not (is_heap may.object.kind))
          (sym (ap (λ (o : Option Object). option_map_or is_storage o false) (ap (object_at parts.objects) (eqb-true _ _ same) ∙ may.stands)) ∙ stored)))

  pub storage_other : (variable at : ℕ) → storage_of parts.variables variable ≡ Some at → nat_eq at key ≡ false
  storage_other variable at is =
      stored_other at (found-all (λ (named : Named). named.variable) (λ named. named.object) (λ k. option_map_or is_storage (object_at parts.objects k) false) parts.variables variable at form.variables_have_storage is)

  -- Ends.

  module _ (word : ℕ → Word) where
    pub ends_same : (at : ℕ) → nat_eq at key ≡ false → ends_of (object_at after.objects) word at ≡ ends_of (object_at parts.objects) word at
    ends_same at other = ap (λ (o : Option Object). option_map_or (λ (object : Object). ends_in object.shape word) o no_ends) (object_there at other) ∙ by_found (object_at parts.objects at)
      where
        by_found : (found : Option Object) →
            option_map_or (λ (object : Object). ends_in object.shape word) (option_map (object_now now) found) no_ends ≡ option_map_or (λ (object : Object). ends_in object.shape word) found no_ends
        by_found None = refl
        by_found (Some object) = ends_stay now object.shape word

  -- What an object names.

  abbrev pub own : ℕ → Option ℤ
  own at = own_offset (value_at parts.values at)

  abbrev pub own' : ℕ → Option ℤ
  own' at = own_offset (value_at after.values at)

  stands_own : (home : ℕ) (value : Value) → nat_eq home key ≡ false → may_stand_in home value ≡ true → leads_to_object parts value ≡ true → own_offset (Some (emptied parts form key may value)) ≡ own_offset (Some value)
  stands_own home value other stands leads = by_key (leads_to key value) refl
    where
      outward_none : (v : Value) → is_outward v ≡ true → own_offset (Some v) ≡ None
      outward_none (Const number size) is = refl
      outward_none (Number size) is = refl
      outward_none Any is = refl
      outward_none (Address object offset Region) is = refl
      outward_none (Address object offset First) is = refl
      outward_none (Address object offset Last) is = refl
      outward_none (Address object offset Each) is = absurd (false≢true is)

      outward_home : (v : Value) → leads_to key v ≡ true → may_stand_in home v ≡ true → is_outward v ≡ true
      outward_home (Const number size) here stands = absurd (false≢true here)
      outward_home (Number size) here stands = absurd (false≢true here)
      outward_home Any here stands = absurd (false≢true here)
      outward_home (Address object offset Region) here stands = refl
      outward_home (Address object offset First) here stands = refl
      outward_home (Address object offset Last) here stands = refl
      outward_home (Address object offset Each) here stands = absurd (false≢true (sym other ∙ ap (λ (k : ℕ). nat_eq k key) (sym (eqb-true _ _ stands)) ∙ here))

      by_key : (b : Bool) → leads_to key value ≡ b → own_offset (Some (emptied parts form key may value)) ≡ own_offset (Some value)
      by_key false clear = ap (λ (v : Value). own_offset (Some v)) (emptied_same parts form key may value clear)
      by_key true here =
          let outward = outward_home value here stands in
          outward_none (emptied parts form key may value) (emptied_outward parts form key may value outward) ∙ sym (outward_none value outward)

  pub leads_at : (at : ℕ) (value : Value) → value_at parts.values at ≡ Some value → leads_to_object parts value ≡ true
  leads_at at value is = found-all (λ (entry : KeyedValue). entry.key) (λ entry. entry.value) (leads_to_object parts) parts.values at value form.addresses_lead_to_objects is

  own_at : (home at : ℕ) → nat_eq home key ≡ false → passes_at parts (may_stand_in home) at ≡ true → own at ≡ own' at
  own_at home at other passes =
      let found = Holds-some (value_at parts.values at) (passes-some (may_stand_in home) (value_at parts.values at) passes) in
      ap own_offset found.is
      ∙ sym (ap own_offset (value_there at ∙ ap (option_map (emptied parts form key may)) found.is)
      ∙ stands_own home found.item other (subst (λ (o : Option Value). option_map_or (may_stand_in home) o false ≡ true) found.is passes) (leads_at at found.item found.is))

  outward_at : (home at : ℕ) → passes_at parts is_outward at ≡ true → passes_at parts (may_stand_in home) at ≡ true
  outward_at home at passes = by_found (value_at parts.values at) passes
    where
      by_value : (v : Value) → is_outward v ≡ true → may_stand_in home v ≡ true
      by_value (Const number size) is = refl
      by_value (Number size) is = refl
      by_value Any is = refl
      by_value (Address object offset Region) is = refl
      by_value (Address object offset First) is = refl
      by_value (Address object offset Last) is = refl
      by_value (Address object offset Each) is = absurd (false≢true is)

      by_found : (found : Option Value) → option_map_or is_outward found false ≡ true → option_map_or (may_stand_in home) found false ≡ true
      by_found None is = is
      by_found (Some v) is = by_value v is

  outward_ends : (P : ℕ → Type 0) → ((link : ℕ) → passes_at parts is_outward link ≡ true → P link) → (shape : Shape) (size : ℕ) → list_all (λ (link : HasValue). passes_at parts is_outward link.value) (link_edges shape) ≡ true →
      back_fits parts size (links_in shape) ≡ true → OnEnds P shape
  outward_ends P implies RegionShape size all fits = tt
  outward_ends P implies (Segment twofold head next prev back least next_value prev_value node) size all fits = by_way twofold all fits
    where
      null_passes : (found : Option Value) → option_map_or is_null found false ≡ true → option_map_or is_outward found false ≡ true
      null_passes None is = absurd (false≢true is)
      null_passes (Some value) is = null_outward value is

      by_way : (both : Bool) → list_all (λ (link : HasValue). passes_at parts is_outward link.value) (link_edges (Segment both head next prev back least next_value prev_value node)) ≡ true →
          back_fits parts size (links_in (Segment both head next prev back least next_value prev_value node)) ≡ true → P next_value × P prev_value
      by_way true all fits = (
        implies next_value (and_left (passes_at parts is_outward next_value) (passes_at parts is_outward prev_value && true) all),
        implies prev_value (and_left (passes_at parts is_outward prev_value) true (and_right (passes_at parts is_outward next_value) (passes_at parts is_outward prev_value && true) all)),
      )
      by_way false all fits = (
        implies next_value (and_left (passes_at parts is_outward next_value) true all),
        implies prev_value (null_passes (value_at parts.values prev_value) (and_right (nat_eq back 0) (passes_at parts is_null prev_value) (and_right (nat_eq prev 0) (nat_eq back 0 && passes_at parts is_null prev_value) fits))),
      )

  -- what each object is asked, this one is
  at_object : (test : Object → Bool) → list_all (λ (entry : KeyedObject). test entry.object) parts.objects ≡ true → (at : ℕ) (object : Object) → object_at parts.objects at ≡ Some object → test object ≡ true
  at_object test all at object stands = found-all (λ (entry : KeyedObject). entry.key) (λ entry. entry.object) test parts.objects at object all stands

  home_edges : (at : ℕ) (object : Object) → object_at parts.objects at ≡ Some object → list_all (λ (edge : HasValue). passes_at parts (may_stand_in at) edge.value) (node_of object).edges ≡ true
  home_edges at object stands = in_list parts.objects form.edges_are_at_home stands
    where
      in_list : (entries : List KeyedObject) → list_all (λ (entry : KeyedObject). list_all (λ (edge : HasValue). passes_at parts (may_stand_in entry.key) edge.value) (node_of entry.object).edges) entries ≡ true → object_at entries at ≡ Some object →
          list_all (λ (edge : HasValue). passes_at parts (may_stand_in at) edge.value) (node_of object).edges ≡ true
      in_list [] all is = absurd (none-some object is)
      in_list (first ∷ rest) all is = by_key (nat_eq first.key at) refl (λ later. in_list rest (and_right (here first) (list_all here rest) all) later)
        where
          here : KeyedObject → Bool
          here entry = list_all (λ (edge : HasValue). passes_at parts (may_stand_in entry.key) edge.value) (node_of entry.object).edges

          by_key : (b : Bool) → nat_eq first.key at ≡ b → (object_at rest at ≡ Some object → list_all (λ (edge : HasValue). passes_at parts (may_stand_in at) edge.value) (node_of object).edges ≡ true) →
              list_all (λ (edge : HasValue). passes_at parts (may_stand_in at) edge.value) (node_of object).edges ≡ true
          by_key true hit later =
              let same = same_Some _ _ (sym (found-here (λ (entry : KeyedObject). entry.key) (λ entry. entry.object) first rest at hit) ∙ is) in
              subst (λ (o : Object). list_all (λ (edge : HasValue). passes_at parts (may_stand_in at) edge.value) (node_of o).edges ≡ true) same
              (subst (λ (k : ℕ). list_all (λ (edge : HasValue). passes_at parts (may_stand_in k) edge.value) (node_of first.object).edges ≡ true) (eqb-true _ _ hit) (and_left (here first) (list_all here rest) all))
          by_key false miss later = later (sym (found-later (λ (entry : KeyedObject). entry.key) (λ entry. entry.object) first rest at miss) ∙ is)

  pub own_agree : (word : ℕ → Word) (at : ℕ) (object : Object) → nat_eq at key ≡ false → object_at parts.objects at ≡ Some object → OnNamed (λ value. (word value ≡ word value) × (own value ≡ own' value)) object.shape (own_node object)
  own_agree word at object other stands = (
    on_edges (λ value. (word value ≡ word value) × (own value ≡ own' value)) (λ edge. passes_at parts (may_stand_in at) edge.value) (λ edge passes. (refl, own_at at edge.value other passes)) (node_of object).edges (home_edges at object stands),
    outward_ends (λ value. (word value ≡ word value) × (own value ≡ own' value)) (λ link passes. (refl, own_at at link other (outward_at at link passes))) object.shape object.size
        (at_object (λ object. list_all (λ (link : HasValue). passes_at parts is_outward link.value) (link_edges object.shape)) form.links_lead_on at object stands)
        (at_object (λ object. back_fits parts object.size (links_in object.shape)) form.links_back_fit at object stands),
  )

  pub own_back : (word : ℕ → Word) (at : ℕ) (object : Object) → nat_eq at key ≡ false → object_at parts.objects at ≡ Some object → OnNamed (λ value. (word value ≡ word value) × (own' value ≡ own value)) object.shape (own_node object)
  own_back word at object other stands = (
    on_edges (λ value. (word value ≡ word value) × (own' value ≡ own value)) (λ edge. passes_at parts (may_stand_in at) edge.value) (λ edge passes. (refl, sym (own_at at edge.value other passes))) (node_of object).edges (home_edges at object stands),
    outward_ends (λ value. (word value ≡ word value) × (own' value ≡ own value)) (λ link passes. (refl, sym (own_at at link other (outward_at at link passes)))) object.shape object.size
        (at_object (λ object. list_all (λ (link : HasValue). passes_at parts is_outward link.value) (link_edges object.shape)) form.links_lead_on at object stands)
        (at_object (λ object. back_fits parts object.size (links_in object.shape)) form.links_back_fit at object stands),
  )

  -- What is asked of nodes.

  low_all : (class bound : ℕ) → bound ≤ class → (classes : List ℕ) → list_all (nat_eq class) classes ≡ true → list_all (nat_le bound) classes ≡ true
  low_all class bound below classes all = list_all-implies (nat_eq class) (nat_le bound) (λ other same. le-leb _ _ (let e = eqb-true _ _ same in omega arith)) classes all

  edge_low : (plane : List ℕ) (edge : HasValue) → edge_has_class parts plane edge ≡ true → list_all (nat_le (class_for (now edge.value))) (take edge.size (drop edge.at plane)) ≡ true
  edge_low plane edge has =
      let found = Holds-some (value_at parts.values edge.value) (passes-some (λ value. list_all (nat_eq (value_class value)) (take edge.size (drop edge.at plane))) (value_at parts.values edge.value) has) in
      ap (λ (v : Value). list_all (nat_le (class_for v)) (take edge.size (drop edge.at plane))) (now_is edge.value found.item found.is)
      ∙ low_all (value_class found.item) (class_for (emptied parts form key may found.item)) (emptied_class parts form key may found.item) (take edge.size (drop edge.at plane))
      (subst (λ (o : Option Value). option_map_or (λ value. list_all (nat_eq (value_class value)) (take edge.size (drop edge.at plane))) o false ≡ true) found.is has)

  pub node_fit : (at : ℕ) (object : Object) → object_at parts.objects at ≡ Some object → object.live ≡ true → IsFit now object.size (node_of object)
  node_fit at object stands live = record {
    inside = at_object (λ object. list_all (lies_in object.size) (node_of object).edges) form.edges_lie_inside at object stands;
    order = at_object (λ object. are_in_order (node_of object).edges) form.edges_are_in_order at object stands;
    long = eqb-true _ _ (sym (ap (λ (b : Bool). not b || nat_eq (length (node_of object).plane) object.size) live) ∙ at_object has_class_a_byte form.planes_are_as_long at object stands);
    low = all_edges (λ edge. list_all (nat_le (class_for (now edge.value))) (take edge.size (drop edge.at (node_of object).plane)) ≡ true) (edge_has_class parts (node_of object).plane) (edge_low (node_of object).plane)
        (node_of object).edges (at_object (λ object. list_all (edge_has_class parts (node_of object).plane) (node_of object).edges) form.edges_have_their_classes at object stands);
  }

  -- the words of the values that a graph without the segment has
  module _ (word : ℕ → Word) (count : ℕ) (blocks : ℕ → List ℕ) (ends : ℕ → Ends)
      (has : (at : ℕ) (value : Value) → value_at parts.values at ≡ Some value → HasWord count blocks ends (emptied parts form key may value) (word at)) where
    edge_small : (edge : HasValue) → edge_has_size parts edge ≡ true → edge.size ≤ 8
    edge_small edge sized = leb-true _ _ (small_edge parts form edge sized)

    edge_fits : (edge : HasValue) → edge_has_size parts edge ≡ true → Fits now word edge
    edge_fits edge sized =
        let found = Holds-some (value_at parts.values edge.value) (passes-some _ (value_at parts.values edge.value) sized) in
        let is = now_is edge.value found.item found.is in
        let both = plain_fits count blocks ends (emptied parts form key may found.item) (word edge.value) edge.size (edge_small edge sized) (has edge.value found.item found.is) in
        record {
          classes = subst (λ (v : Value). HaveClasses (replicate edge.size (class_for v)) (take edge.size (word_bytes (word edge.value)))) (sym is) both.0;
          zero = λ zero. both.1 (sym (ap is_zero is) ∙ zero);
          small = edge_small edge sized;
        }

    edge_fits_at : (number : ℕ) (edge : HasValue) → edge_has_size parts edge ≡ true → Fits now (word_at word own' number) edge
    edge_fits_at number edge sized =
        let found = Holds-some (value_at parts.values edge.value) (passes-some _ (value_at parts.values edge.value) sized) in
        let is = now_is edge.value found.item found.is in
        let there : own' edge.value ≡ own_offset (Some (emptied parts form key may found.item)) = ap own_offset (value_there edge.value ∙ ap (option_map (emptied parts form key may)) found.is) in
        let both = value_fits count blocks ends (emptied parts form key may found.item) (word edge.value) number edge.size (edge_small edge sized) (has edge.value found.item found.is) in
        let same : own_word (own_offset (Some (emptied parts form key may found.item))) (word edge.value) number ≡ word_at word own' number edge.value = sym (ap (λ (o : Option ℤ). own_word o (word edge.value) number) there) in
        record {
          classes = subst (λ (w : Word). HaveClasses (replicate edge.size (class_for (now edge.value))) (take edge.size (word_bytes w))) same
              (subst (λ (v : Value). HaveClasses (replicate edge.size (class_for v)) (take edge.size (word_bytes (own_word (own_offset (Some (emptied parts form key may found.item))) (word edge.value) number)))) (sym is) both.0);
          zero = λ zero. sym same ∙ both.1 (sym (ap is_zero is) ∙ zero);
          small = edge_small edge sized;
        }

    pub object_fits : (state : State) (at : ℕ) (object : Object) → object_at parts.objects at ≡ Some object → object.live ≡ true → ObjectFits now state.memory object word own'
    object_fits state at object stands live =
        let sized = at_object (λ object. list_all (edge_has_size parts) (node_of object).edges) form.edges_have_their_sizes at object stands in record {
          fit = node_fit at object stands live;
          alone = all_edges (Fits now word) (edge_has_size parts) edge_fits (node_of object).edges sized;
          at_node = λ number. all_edges (Fits now (word_at word own' number)) (edge_has_size parts) (edge_fits_at number) (node_of object).edges sized;
        }

  -- Addresses of ports.

  pub port_rooted : (roots : List ℕ) (count : ℕ) (blocks : ℕ → List ℕ) (ends : ℕ → Ends) (value : Value) (word : Word) → may_be_held value ≡ true → HasWord count blocks ends (emptied parts form key may value) word →
      (IsRooted roots (Some value) word → IsRooted roots (Some (emptied parts form key may value)) word) × (IsRooted roots (Some (emptied parts form key may value)) word → IsRooted roots (Some value) word)
  port_rooted roots count blocks ends value word held has = by_key (leads_to key value) refl
    where
      by_address : (v : Value) → leads_to key v ≡ true → may_be_held v ≡ true → (is_outward v ≡ true) × ((IsRooted roots (Some v) word → IsRootedWord roots word) × (IsRootedWord roots word → IsRooted roots (Some v) word))
      by_address (Const number size) here held = absurd (false≢true here)
      by_address (Number size) here held = absurd (false≢true here)
      by_address Any here held = absurd (false≢true here)
      by_address (Address object offset target) here held = (held, (λ rooted. rooted, λ rooted. rooted))

      by_key : (b : Bool) → leads_to key value ≡ b →
          (IsRooted roots (Some value) word → IsRooted roots (Some (emptied parts form key may value)) word) × (IsRooted roots (Some (emptied parts form key may value)) word → IsRooted roots (Some value) word)
      by_key false clear =
          let same = emptied_same parts form key may value clear in
          (λ rooted. subst (λ (v : Value). IsRooted roots (Some v) word) (sym same) rooted, λ rooted. subst (λ (v : Value). IsRooted roots (Some v) word) same rooted)
      by_key true here =
          let is = by_address value here held in (
            λ rooted. rooted_address roots (emptied parts form key may value) word (is.1.0 rooted),
            λ rooted. is.1.1 (rooted_outward roots count blocks ends (emptied parts form key may value) word (emptied_outward parts form key may value is.0) has rooted),
          )
