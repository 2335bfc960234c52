-- A graph with a variable more, whose storage is an object of which nothing else is storage.
use Rattle.std.proofs.Common.{◌≡◌, ◌≢◌, ℕ, ◌<◌, ◌≤◌, Bool, true, false, not, List, [], ◌∷◌, ◌++◌, map, nat_eq, nat_lt, Option, None, Some, refl, sym, ◌∙◌, ap, subst, eqb-true, eq-eqb, ltb-true, ltb-false, lt-ltb, arith}
use Rattle.std.specs.Prelude.{if◌then◌else◌}
use Rattle.std.specs.List.{filter, list_all}
use Rattle.std.specs.Option.{option_map_or}
use Rattle.std.proofs.lemmas.Bool.{false≢true}
use Rattle.std.proofs.lemmas.Option.{none-some}
use Rattle.graph.specs.declared.object.Links.{Links}
use Rattle.graph.specs.declared.value.Value.{Value}
use Rattle.graph.specs.declared.value.Value.TheVariants.{Const, Number, Any, Address}
use Rattle.graph.specs.declared.parts.KeyedObject.{KeyedObject}
use Rattle.graph.specs.declared.parts.KeyedValue.{KeyedValue}
use Rattle.graph.specs.declared.parts.Named.{Named}
use Rattle.graph.specs.declared.parts.Parts.{Parts}
use Rattle.graph.specs.Maps.{object_at, storage_of}
use Rattle.graph.specs.Nodes.{links_in}
use Rattle.graph.specs.WellFormed.{IsWellFormed, are_distinct, are_ascending, leads_to_object, is_storage, back_fits}
use Rattle.graph.specs.Whole.{IsGraph}
use Rattle.graph.proofs.Tests.{and_left, and_right, and_both, list_all-implies}
use Rattle.changes.specs.Parts.{put}
use Rattle.changes.proofs.KeptForm.{all_same}
use Rattle.block_steps.specs.Entering.{with_storage}

abbrev Below : ℕ → Named → Bool
Below bound named = nat_lt named.variable bound

abbrev Above : ℕ → Named → Bool
Above bound named = nat_lt bound named.variable

abbrev names : List Named → List ℕ
names variables = map (λ (named : Named). named.variable) variables

abbrev keys : List Named → List ℕ
keys variables = map (λ (named : Named). named.object) variables

-- Lists with an item more in the middle.

all_between : {X : Type 0} (test : X → Bool) (front back : List X) (item : X) → list_all test (front ++ back) ≡ true → test item ≡ true → list_all test (front ++ item ∷ back) ≡ true
all_between test [] back item all here = and_both (test item) (list_all test back) here all
all_between test (first ∷ rest) back item all here =
    and_both (test first) (list_all test (rest ++ item ∷ back)) (and_left (test first) (list_all test (rest ++ back)) all) (all_between test rest back item (and_right (test first) (list_all test (rest ++ back)) all) here)

all_map : (test : ℕ → Bool) (f : Named → ℕ) (xs : List Named) → list_all (λ (x : Named). test (f x)) xs ≡ true → list_all test (map f xs) ≡ true
all_map test f [] all = refl
all_map test f (first ∷ rest) all =
    and_both (test (f first)) (list_all test (map f rest)) (and_left (test (f first)) (list_all (λ (x : Named). test (f x)) rest) all) (all_map test f rest (and_right (test (f first)) (list_all (λ (x : Named). test (f x)) rest) all))

all_unmap : (test : ℕ → Bool) (f : Named → ℕ) (xs : List Named) → list_all test (map f xs) ≡ true → list_all (λ (x : Named). test (f x)) xs ≡ true
all_unmap test f [] all = refl
all_unmap test f (first ∷ rest) all =
    and_both (test (f first)) (list_all (λ (x : Named). test (f x)) rest) (and_left (test (f first)) (list_all test (map f rest)) all) (all_unmap test f rest (and_right (test (f first)) (list_all test (map f rest)) all))

distinct_between : (front back : List Named) (item : Named) → are_distinct (keys (front ++ back)) ≡ true → list_all (λ (named : Named). not (nat_eq named.object item.object)) (front ++ back) ≡ true → are_distinct (keys (front ++ item ∷ back)) ≡ true
distinct_between [] back item distinct fresh =
    and_both (list_all (λ other. not (nat_eq item.object other)) (keys back)) (are_distinct (keys back))
    (all_map (λ other. not (nat_eq item.object other)) (λ (named : Named). named.object) back (list_all-implies (λ (named : Named). not (nat_eq named.object item.object)) (λ named. not (nat_eq item.object named.object)) turned back fresh)) distinct
  where
    turned : (named : Named) → not (nat_eq named.object item.object) ≡ true → not (nat_eq item.object named.object) ≡ true
    turned named differ = by_test (nat_eq item.object named.object) refl
      where
        by_test : (b : Bool) → nat_eq item.object named.object ≡ b → not b ≡ true
        by_test true is = absurd (false≢true (sym (ap not (eq-eqb _ _ (sym (eqb-true _ _ is)))) ∙ differ))
        by_test false is = refl
distinct_between (first ∷ rest) back item distinct fresh =
    and_both (list_all (λ other. not (nat_eq first.object other)) (keys (rest ++ item ∷ back))) (are_distinct (keys (rest ++ item ∷ back)))
    (all_map (λ other. not (nat_eq first.object other)) (λ (named : Named). named.object) (rest ++ item ∷ back)
    (all_between (λ (named : Named). not (nat_eq first.object named.object)) rest back item
    (all_unmap (λ other. not (nat_eq first.object other)) (λ (named : Named). named.object) (rest ++ back) (and_left (list_all (λ other. not (nat_eq first.object other)) (keys (rest ++ back))) (are_distinct (keys (rest ++ back))) distinct))
    (and_left (not (nat_eq first.object item.object)) (list_all (λ (named : Named). not (nat_eq named.object item.object)) (rest ++ back)) fresh)))
    (distinct_between rest back item (and_right (list_all (λ other. not (nat_eq first.object other)) (keys (rest ++ back))) (are_distinct (keys (rest ++ back))) distinct)
    (and_right (not (nat_eq first.object item.object)) (list_all (λ (named : Named). not (nat_eq named.object item.object)) (rest ++ back)) fresh))

ascend_between : (front back : List Named) (item : Named) → are_ascending (names (front ++ back)) ≡ true → list_all (Below item.variable) front ≡ true → list_all (Above item.variable) back ≡ true → are_ascending (names (front ++ item ∷ back)) ≡ true
ascend_between [] back item ascend below above =
    and_both (list_all (nat_lt item.variable) (names back)) (are_ascending (names back)) (all_map (nat_lt item.variable) (λ (named : Named). named.variable) back above) ascend
ascend_between (first ∷ rest) back item ascend below above =
    and_both (list_all (nat_lt first.variable) (names (rest ++ item ∷ back))) (are_ascending (names (rest ++ item ∷ back)))
    (all_map (nat_lt first.variable) (λ (named : Named). named.variable) (rest ++ item ∷ back)
    (all_between (Above first.variable) rest back item
    (all_unmap (nat_lt first.variable) (λ (named : Named). named.variable) (rest ++ back) (and_left (list_all (nat_lt first.variable) (names (rest ++ back))) (are_ascending (names (rest ++ back))) ascend))
    (and_left (Below item.variable first) (list_all (Below item.variable) rest) below)))
    (ascend_between rest back item (and_right (list_all (nat_lt first.variable) (names (rest ++ back))) (are_ascending (names (rest ++ back))) ascend)
    (and_right (Below item.variable first) (list_all (Below item.variable) rest) below) above)

-- The variables below one that is not among them, and those above it, are all of them.

keeps_all : (p : Named → Bool) (xs : List Named) → list_all p xs ≡ true → filter p xs ≡ xs
keeps_all p [] all = refl
keeps_all p (first ∷ rest) all =
    ap (λ (b : Bool). if b then first ∷ filter p rest else filter p rest) (and_left (p first) (list_all p rest) all)
    ∙ ap (λ (xs : List Named). first ∷ xs) (keeps_all p rest (and_right (p first) (list_all p rest) all))

keeps_none : (p : Named → Bool) (xs : List Named) → list_all (λ (x : Named). not (p x)) xs ≡ true → filter p xs ≡ []
keeps_none p [] all = refl
keeps_none p (first ∷ rest) all =
    ap (λ (b : Bool). if b then first ∷ filter p rest else filter p rest) (not_true (p first) (and_left (not (p first)) (list_all (λ (x : Named). not (p x)) rest) all))
    ∙ keeps_none p rest (and_right (not (p first)) (list_all (λ (x : Named). not (p x)) rest) all)
  where
    not_true : (b : Bool) → not b ≡ true → b ≡ false
    not_true true is = absurd (false≢true is)
    not_true false is = refl

all_kept : (p : Named → Bool) (xs : List Named) → list_all p (filter p xs) ≡ true
all_kept p [] = refl
all_kept p (first ∷ rest) = by_test (p first) refl (all_kept p rest)
  where
    by_test : (b : Bool) → p first ≡ b → list_all p (filter p rest) ≡ true → list_all p (if b then first ∷ filter p rest else filter p rest) ≡ true
    by_test true is later = and_both (p first) (list_all p (filter p rest)) is later
    by_test false is later = later

split_is : (variable : ℕ) (variables : List Named) → are_ascending (names variables) ≡ true → storage_of variables variable ≡ None → filter (Below variable) variables ++ filter (Above variable) variables ≡ variables
split_is variable [] ascend none = refl
split_is variable (first ∷ rest) ascend none = by_order (nat_lt first.variable variable) refl (nat_eq first.variable variable) refl none
    (λ none'. split_is variable rest (and_right (list_all (nat_lt first.variable) (names rest)) (are_ascending (names rest)) ascend) none')
  where
    later : list_all (Above first.variable) rest ≡ true
    later = all_unmap (nat_lt first.variable) (λ (named : Named). named.variable) rest (and_left (list_all (nat_lt first.variable) (names rest)) (are_ascending (names rest)) ascend)

    not_lt : (one other : ℕ) → other ≤ one → nat_lt one other ≡ false
    not_lt one other above = by_test (nat_lt one other) refl
      where
        by_test : (b : Bool) → nat_lt one other ≡ b → nat_lt one other ≡ false
        by_test true is = let l = ltb-true one other is in absurd (omega arith)
        by_test false is = is

    beyond : variable < first.variable → filter (Below variable) (first ∷ rest) ++ filter (Above variable) (first ∷ rest) ≡ first ∷ rest
    beyond above =
        ap (λ (front : List Named). front ++ filter (Above variable) (first ∷ rest))
        (keeps_none (Below variable) (first ∷ rest)
        (and_both (not (Below variable first)) (list_all (λ (x : Named). not (Below variable x)) rest) (ap not (not_lt first.variable variable (omega arith)))
        (list_all-implies (Above first.variable) (λ (x : Named). not (Below variable x)) (λ x is. let l = ltb-true first.variable x.variable is in ap not (not_lt x.variable variable (omega arith))) rest later)))
        ∙ keeps_all (Above variable) (first ∷ rest)
        (and_both (Above variable first) (list_all (Above variable) rest) (lt-ltb _ _ above)
        (list_all-implies (Above first.variable) (Above variable) (λ x is. let l = ltb-true first.variable x.variable is in lt-ltb _ _ (omega arith)) rest later))

    by_order : (below : Bool) → nat_lt first.variable variable ≡ below → (same : Bool) → nat_eq first.variable variable ≡ same → (if same then Some first.object else storage_of rest variable) ≡ None →
        (storage_of rest variable ≡ None → filter (Below variable) rest ++ filter (Above variable) rest ≡ rest) → filter (Below variable) (first ∷ rest) ++ filter (Above variable) (first ∷ rest) ≡ first ∷ rest
    by_order below is true same none' onward = absurd (none-some first.object (sym none'))
    by_order true is false same none' onward =
        let l = ltb-true first.variable variable is in
        ap (λ (b : Bool). (if b then first ∷ filter (Below variable) rest else filter (Below variable) rest) ++ filter (Above variable) (first ∷ rest)) is
        ∙ ap (λ (b : Bool). first ∷ (filter (Below variable) rest ++ (if b then first ∷ filter (Above variable) rest else filter (Above variable) rest))) (not_lt variable first.variable (omega arith))
        ∙ ap (λ (xs : List Named). first ∷ xs) (onward none')
    by_order false is false same none' onward =
        let over = ltb-false first.variable variable is in
        let differ : first.variable ≢ variable = λ equal. false≢true (sym same ∙ eq-eqb _ _ equal) in
        beyond (omega arith)

-- What is storage of a variable.

found_between : (front back : List Named) (item : Named) (at : ℕ) → storage_of (front ++ back) item.variable ≡ None → storage_of (front ++ item ∷ back) at ≡ put item.variable item.object (storage_of (front ++ back)) at
found_between [] back item at none = by_test (nat_eq item.variable at) refl (nat_eq at item.variable) refl
  where
    by_test : (b : Bool) → nat_eq item.variable at ≡ b → (c : Bool) → nat_eq at item.variable ≡ c → (if b then Some item.object else storage_of back at) ≡ (if c then Some item.object else storage_of back at)
    by_test true one true other = refl
    by_test true one false other = absurd (false≢true (sym other ∙ eq-eqb at item.variable (sym (eqb-true _ _ one))))
    by_test false one true other = absurd (false≢true (sym one ∙ eq-eqb item.variable at (sym (eqb-true _ _ other))))
    by_test false one false other = refl
found_between (first ∷ rest) back item at none = by_first (nat_eq first.variable at) refl (nat_eq first.variable item.variable) refl none (λ none'. found_between rest back item at none')
  where
    by_first : (here : Bool) → nat_eq first.variable at ≡ here → (same : Bool) → nat_eq first.variable item.variable ≡ same → (if same then Some first.object else storage_of (rest ++ back) item.variable) ≡ None →
        (storage_of (rest ++ back) item.variable ≡ None → storage_of (rest ++ item ∷ back) at ≡ (if nat_eq at item.variable then Some item.object else storage_of (rest ++ back) at)) →
        (if here then Some first.object else storage_of (rest ++ item ∷ back) at) ≡ (if nat_eq at item.variable then Some item.object else (if here then Some first.object else storage_of (rest ++ back) at))
    by_first here is true same none' onward = absurd (none-some first.object (sym none'))
    by_first true is false same none' onward =
        sym (ap (λ (b : Bool). if b then Some item.object else Some first.object) (miss (nat_eq at item.variable) refl))
      where
        miss : (b : Bool) → nat_eq at item.variable ≡ b → nat_eq at item.variable ≡ false
        miss true equal = absurd (false≢true (sym same ∙ eq-eqb first.variable item.variable (eqb-true _ _ is ∙ eqb-true _ _ equal)))
        miss false differ = differ
    by_first false is false same none' onward = onward none'

module _ (variable key : ℕ) (parts : Parts) (graph : IsGraph parts) (none : storage_of parts.variables variable ≡ None) where
  abbrev pub stored : Parts
  stored = with_storage variable key parts

  abbrev item : Named
  item = record { variable = variable; object = key }

  abbrev front : List Named
  front = filter (Below variable) parts.variables

  abbrev back : List Named
  back = filter (Above variable) parts.variables

  whole : front ++ back ≡ parts.variables
  whole = split_is variable parts.variables graph.well_formed.variables_ascend none

  pub storage_is : (at : ℕ) → storage_of stored.variables at ≡ put variable key (storage_of parts.variables) at
  storage_is at =
      found_between front back item at (ap (λ (xs : List Named). storage_of xs variable) whole ∙ none)
      ∙ ap (λ (xs : List Named). put variable key (storage_of xs) at) whole

  pub graph_stored : option_map_or is_storage (object_at parts.objects key) false ≡ true → list_all (λ (named : Named). not (nat_eq named.object key)) parts.variables ≡ true → IsGraph stored
  graph_stored stores fresh = record {
    well_formed = record {
      edges_hold_values = form.edges_hold_values;
      edges_are_at_home = form.edges_are_at_home;
      registers_hold_values = form.registers_hold_values;
      ports_are_values = form.ports_are_values;
      addresses_lead_to_objects = all_same (λ (entry : KeyedValue). leads_to_object parts entry.value) (λ entry. leads_to_object stored entry.value) (λ entry. leads_same entry.value) parts.values form.addresses_lead_to_objects;
      variables_have_storage = all_between (λ (named : Named). option_map_or is_storage (object_at parts.objects named.object) false) front back item
          (subst (λ (xs : List Named). list_all (λ (named : Named). option_map_or is_storage (object_at parts.objects named.object) false) xs ≡ true) (sym whole) form.variables_have_storage) stores;
      storage_is_distinct = distinct_between front back item (subst (λ (xs : List Named). are_distinct (keys xs) ≡ true) (sym whole) form.storage_is_distinct)
          (subst (λ (xs : List Named). list_all (λ (named : Named). not (nat_eq named.object key)) xs ≡ true) (sym whole) fresh);
      variables_ascend = ascend_between front back item (subst (λ (xs : List Named). are_ascending (names xs) ≡ true) (sym whole) form.variables_ascend) (all_kept (Below variable) parts.variables) (all_kept (Above variable) parts.variables);
      registers_ascend = form.registers_ascend;
      objects_are_small = form.objects_are_small;
      planes_are_as_long = form.planes_are_as_long;
      dead_objects_are_bare = form.dead_objects_are_bare;
      segments_are_allocated = form.segments_are_allocated;
      edges_lie_inside = form.edges_lie_inside;
      edges_are_in_order = form.edges_are_in_order;
      edges_have_their_sizes = form.edges_have_their_sizes;
      edges_have_their_classes = form.edges_have_their_classes;
      edges_are_not_zero = form.edges_are_not_zero;
      links_lie_inside = form.links_lie_inside;
      links_are_in_order = form.links_are_in_order;
      links_have_no_edge = form.links_have_no_edge;
      links_may_be_pointers = form.links_may_be_pointers;
      links_lead_on = form.links_lead_on;
      links_back_fit = all_same (λ (entry : KeyedObject). back_fits parts entry.object.size (links_in entry.object.shape)) (λ entry. back_fits stored entry.object.size (links_in entry.object.shape))
          (λ entry. back_same entry.object.size (links_in entry.object.shape)) parts.objects form.links_back_fit;
      comes_to_an_end = record { ranks = form.comes_to_an_end.ranks; next = form.comes_to_an_end.next; prev = form.comes_to_an_end.prev };
      values_are_sized = form.values_are_sized;
      pairs_may_be_unequal = form.pairs_may_be_unequal;
      pairs_are_different = form.pairs_are_different;
    };
    within_limits = graph.within_limits;
    ascending = record { objects = graph.ascending.objects; values = graph.ascending.values };
    keys = record { objects = graph.keys.objects; values = graph.keys.values };
  }
    where
      form : IsWellFormed parts
      form = graph.well_formed

      leads_same : (v : Value) → leads_to_object stored v ≡ leads_to_object parts v
      leads_same (Const number size) = refl
      leads_same (Number size) = refl
      leads_same Any = refl
      leads_same (Address object offset target) = refl

      back_same : (size : ℕ) (found : Option Links) → back_fits stored size found ≡ back_fits parts size found
      back_same size None = refl
      back_same size (Some links) = refl
