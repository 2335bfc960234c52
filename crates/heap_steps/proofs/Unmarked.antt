-- The objects that are not marked when all ways are followed are those that are not reached.
use Rattle.std.proofs.Common.{◌≡◌, ℕ, zero, suc, ◌+◌, ◌*◌, ◌<◌, Bool, true, false, ◌&&◌, ◌||◌, not, List, [], ◌∷◌, ◌++◌, map, length, take, nat_lt, None, Some, ◌⊎◌, inl, inr, refl, sym, ap, ◌∙◌, subst, arith}
use Rattle.std.specs.Prelude.{Contains, ◌↔◌, slice_get, if◌then◌else◌}
use Rattle.std.specs.List.{filter, list_all}
use Rattle.std.proofs.lemmas.Bool.{false≢true}
use Rattle.std.proofs.lemmas.List.{get_or_default}
use Rattle.std.proofs.lemmas.List.Elements.{filter-append}
use Rattle.std.proofs.lemmas.Option.{same_Some, none-some, slice_get_within}
use Rattle.bytes_core.specs.Marking.{marking, is_marked, is_open, Way, Begin, Onward, AreMarks}
use Rattle.bytes_core.specs.Release.{is_heap}
use Rattle.graph.specs.declared.object.Object.{Object}
use Rattle.graph.specs.declared.parts.KeyedObject.{KeyedObject}
use Rattle.graph.specs.declared.parts.Parts.{Parts}
use Rattle.graph.specs.Maps.{object_at}
use Rattle.graph.specs.WellFormed.{are_ascending}
use Rattle.graph.specs.Whole.{IsGraph}
use Rattle.graph.proofs.InOrder.{ascending_by, ascending_objects}
use Rattle.graph.proofs.Tests.{and_left, and_right, and_both}
use Rattle.heap_steps.specs.Ends.{places_behind, first_places}
use Rattle.heap_steps.specs.Unreached.{is_end_reached, is_unreached, is_unmarked_object, is_unmarked, unreached, SomeMemoryLoses}
use Rattle.heap_steps.proofs.Listed.{Contains-none, get_within}
use Rattle.heap_steps.proofs.Loses.{end_reached, object_there, way_inside, unreached_loses, loses_unreached}

-- Items at a place.

take_more : {X : Type 0} (xs : List X) (place : ℕ) (x : X) → slice_get xs place ≡ Some x → take (place + 1) xs ≡ take place xs ++ x ∷ []
take_more [] place x is = absurd (none-some x is)
take_more (first ∷ rest) zero x is = ap (λ (y : _). y ∷ []) (same_Some first x is)
take_more (first ∷ rest) (suc place) x is = let sum : suc place + 1 ≡ suc (place + 1) = omega arith in ap (λ (n : ℕ). take n (first ∷ rest)) sum ∙ ap (λ (ys : List _). first ∷ ys) (take_more rest place x is)

map_append : {X Y : Type 0} (f : X → Y) (xs ys : List X) → map f (xs ++ ys) ≡ map f xs ++ map f ys
map_append f [] ys = refl
map_append f (x ∷ xs) ys = ap (λ (zs : List _). f x ∷ zs) (map_append f xs ys)

-- the object with a key below the count is there
pub object_below : (parts : Parts) → IsGraph parts → (key : ℕ) → key < length parts.objects → object_at parts.objects key ≡ None → ⊥
object_below parts graph key below none =
    let found = get_within parts.objects key below in
    let same : found.0.key ≡ key = graph.keys.objects key found.0 found.1 in
    none-some found.0.object (sym none ∙ ap (object_at parts.objects) (sym same) ∙ object_there parts graph key found.0 found.1)

-- one object more is looked at
pub unmarked_more : (parts : Parts) → IsGraph parts → (marks : List Bool) (key : ℕ) (object : Object) (keys keys' : List ℕ) → object_at parts.objects key ≡ Some object → key < length parts.objects →
    keys ≡ map (λ (entry : KeyedObject). entry.key) (filter (is_unmarked (length parts.objects) marks) (take key parts.objects)) →
    keys' ≡ (if is_unmarked_object (length parts.objects) marks key object then keys ++ key ∷ [] else keys) →
    keys' ≡ map (λ (entry : KeyedObject). entry.key) (filter (is_unmarked (length parts.objects) marks) (take (key + 1) parts.objects))
unmarked_more parts graph marks key object keys keys' stands below before after =
    after
    ∙ by_test (is_unmarked_object (length parts.objects) marks key object) refl
    ∙ ap (λ (front : List ℕ). front ++ map (λ (entry : KeyedObject). entry.key) (filter test (found.0 ∷ []))) before
    ∙ sym (map_append (λ (entry : KeyedObject). entry.key) (filter test (take key parts.objects)) (filter test (found.0 ∷ [])))
    ∙ ap (map (λ (entry : KeyedObject). entry.key)) (sym (filter-append test (take key parts.objects) (found.0 ∷ [])))
    ∙ ap (λ (entries : List KeyedObject). map (λ (entry : KeyedObject). entry.key) (filter test entries)) (sym (take_more parts.objects key found.0 found.1))
  where
    test : KeyedObject → Bool
    test = is_unmarked (length parts.objects) marks

    found : (entry : KeyedObject) × (slice_get parts.objects key ≡ Some entry)
    found = get_within parts.objects key below

    key_is : found.0.key ≡ key
    key_is = graph.keys.objects key found.0 found.1

    object_is : found.0.object ≡ object
    object_is = same_Some _ _ (sym (object_there parts graph key found.0 found.1) ∙ ap (object_at parts.objects) key_is ∙ stands)

    same : is_unmarked_object (length parts.objects) marks key object ≡ test found.0
    same = ap (λ (k : ℕ). is_unmarked_object (length parts.objects) marks k object) (sym key_is) ∙ ap (is_unmarked_object (length parts.objects) marks found.0.key) (sym object_is)

    nil : (xs : List ℕ) → xs ≡ xs ++ []
    nil [] = refl
    nil (x ∷ xs) = ap (λ (ys : List ℕ). x ∷ ys) (nil xs)

    by_test : (b : Bool) → is_unmarked_object (length parts.objects) marks key object ≡ b →
        (if is_unmarked_object (length parts.objects) marks key object then keys ++ key ∷ [] else keys) ≡ keys ++ map (λ (entry : KeyedObject). entry.key) (filter test (found.0 ∷ []))
    by_test true is =
        ap (λ (b : Bool). if b then keys ++ key ∷ [] else keys) is ∙ ap (λ (k : ℕ). keys ++ k ∷ []) (sym key_is)
        ∙ ap (λ (b : Bool). keys ++ map (λ (entry : KeyedObject). entry.key) (if b then found.0 ∷ [] else [])) (sym (sym same ∙ is))
    by_test false is =
        ap (λ (b : Bool). if b then keys ++ key ∷ [] else keys) is ∙ nil keys
        ∙ ap (λ (b : Bool). keys ++ map (λ (entry : KeyedObject). entry.key) (if b then found.0 ∷ [] else [])) (sym (sym same ∙ is))

-- Marks, when all ways are followed.

module _ (parts : Parts) (graph : IsGraph parts) (marks : List Bool) (are : AreMarks (2 * length parts.objects) (first_places parts) (places_behind parts) (marking marks [])) where
  marked_way : (place : ℕ) → Way (first_places parts) (places_behind parts) place → is_marked marks place ≡ true
  marked_way place (Begin at there) = are.begun place there (way_inside parts graph place (Begin place there))
  marked_way place (Onward from at way there) = by_cases (are.followed from place (marked_way from way) there (way_inside parts graph place (Onward from place way there)))
    where
      by_cases : (is_marked marks place ≡ true) ⊎ Contains [] from → is_marked marks place ≡ true
      by_cases (inl is) = is
      by_cases (inr waits) = absurd (Contains-none from waits)

  open_is : (place : ℕ) → place < 2 * length parts.objects → is_open marks place ≡ not (is_end_reached parts place)
  open_is place inside = by_end (is_end_reached parts place) refl
    where
      same : is_open marks place ≡ not (is_marked marks place)
      same = ap not (get_or_default marks place true false (subst (λ (n : ℕ). place < n) (sym are.size) inside))

      by_mark : is_end_reached parts place ≡ false → (b : Bool) → is_marked marks place ≡ b → is_marked marks place ≡ false
      by_mark none true is = absurd (false≢true (sym none ∙ (end_reached parts graph place).1 (are.reached place is)))
      by_mark none false is = is

      by_end : (b : Bool) → is_end_reached parts place ≡ b → is_open marks place ≡ not (is_end_reached parts place)
      by_end true reached = same ∙ ap not (marked_way place ((end_reached parts graph place).0 reached) ∙ sym reached)
      by_end false none = same ∙ ap not (by_mark none (is_marked marks place) refl ∙ sym none)

  not_either : (one other : Bool) → (not one && not other) ≡ not (one || other)
  not_either true other = refl
  not_either false other = refl

  unmarked_is : (place : ℕ) (entry : KeyedObject) → slice_get parts.objects place ≡ Some entry → is_unmarked (length parts.objects) marks entry ≡ is_unreached parts entry
  unmarked_is place entry is =
      let key : entry.key ≡ place = graph.keys.objects place entry is in
      let below = slice_get_within parts.objects place entry is in
      ap (λ (b : Bool). entry.object.live && (is_heap entry.object.kind && (b && is_open marks (length parts.objects + entry.key)))) (open_is entry.key (omega arith))
      ∙ ap (λ (b : Bool). entry.object.live && (is_heap entry.object.kind && (not (is_end_reached parts entry.key) && b))) (open_is (length parts.objects + entry.key) (omega arith))
      ∙ ap (λ (b : Bool). entry.object.live && (is_heap entry.object.kind && b)) (not_either (is_end_reached parts entry.key) (is_end_reached parts (length parts.objects + entry.key)))

  filter_same : (one other : KeyedObject → Bool) (xs : List KeyedObject) → ((place : ℕ) (x : KeyedObject) → slice_get xs place ≡ Some x → one x ≡ other x) → filter one xs ≡ filter other xs
  filter_same one other [] same = refl
  filter_same one other (x ∷ xs) same =
      ap (λ (b : Bool). if b then x ∷ filter one xs else filter one xs) (same 0 x refl)
      ∙ ap (λ (ys : List KeyedObject). if other x then x ∷ ys else ys) (filter_same one other xs (λ place y is. same (suc place) y is))

  pub unmarked_unreached : (marked : List Bool) → marked ≡ marks → map (λ (entry : KeyedObject). entry.key) (filter (is_unmarked (length parts.objects) marked) parts.objects) ≡ unreached parts
  unmarked_unreached marked same =
      ap (λ (bs : List Bool). map (λ (entry : KeyedObject). entry.key) (filter (is_unmarked (length parts.objects) bs) parts.objects)) same
      ∙ ap (map (λ (entry : KeyedObject). entry.key)) (filter_same (is_unmarked (length parts.objects) marks) (is_unreached parts) parts.objects unmarked_is)

-- What the list says.

all_kept : (test : ℕ → Bool) (keep : KeyedObject → Bool) (xs : List KeyedObject) → list_all test (map (λ (entry : KeyedObject). entry.key) xs) ≡ true → list_all test (map (λ (entry : KeyedObject). entry.key) (filter keep xs)) ≡ true
all_kept test keep [] all = refl
all_kept test keep (x ∷ xs) all = by_test (keep x) (all_kept test keep xs (and_right (test x.key) (list_all test (map (λ (entry : KeyedObject). entry.key) xs)) all))
  where
    by_test : (b : Bool) → list_all test (map (λ (entry : KeyedObject). entry.key) (filter keep xs)) ≡ true → list_all test (map (λ (entry : KeyedObject). entry.key) (if b then x ∷ filter keep xs else filter keep xs)) ≡ true
    by_test true later = and_both (test x.key) (list_all test (map (λ (entry : KeyedObject). entry.key) (filter keep xs))) (and_left (test x.key) (list_all test (map (λ (entry : KeyedObject). entry.key) xs)) all) later
    by_test false later = later

ascending_kept : (keep : KeyedObject → Bool) (xs : List KeyedObject) → are_ascending (map (λ (entry : KeyedObject). entry.key) xs) ≡ true → are_ascending (map (λ (entry : KeyedObject). entry.key) (filter keep xs)) ≡ true
ascending_kept keep [] ascend = refl
ascending_kept keep (x ∷ xs) ascend = by_test (keep x) (ascending_kept keep xs (and_right (list_all (nat_lt x.key) (map (λ (entry : KeyedObject). entry.key) xs)) (are_ascending (map (λ (entry : KeyedObject). entry.key) xs)) ascend))
  where
    by_test : (b : Bool) → are_ascending (map (λ (entry : KeyedObject). entry.key) (filter keep xs)) ≡ true → are_ascending (map (λ (entry : KeyedObject). entry.key) (if b then x ∷ filter keep xs else filter keep xs)) ≡ true
    by_test true later =
        and_both (list_all (nat_lt x.key) (map (λ (entry : KeyedObject). entry.key) (filter keep xs))) (are_ascending (map (λ (entry : KeyedObject). entry.key) (filter keep xs)))
        (all_kept (nat_lt x.key) keep xs (and_left (list_all (nat_lt x.key) (map (λ (entry : KeyedObject). entry.key) xs)) (are_ascending (map (λ (entry : KeyedObject). entry.key) xs)) ascend)) later
    by_test false later = later

-- all that is said of the list
pub record SaysUnreached (parts : Parts) (keys : List ℕ) : Type 0 where
  pub list : keys ≡ unreached parts
  pub exact : (key : ℕ) → (Contains keys key ↔ SomeMemoryLoses parts key)
  pub ascending : are_ascending keys ≡ true

pub says_unreached : (parts : Parts) → IsGraph parts → (keys : List ℕ) → keys ≡ unreached parts → SaysUnreached parts keys
says_unreached parts graph keys is = record {
  list = is;
  exact = λ key. (λ there. unreached_loses parts graph key (subst (λ (ks : List ℕ). Contains ks key) is there), λ loses. subst (λ (ks : List ℕ). Contains ks key) (sym is) (loses_unreached parts graph key loses));
  ascending = ap are_ascending is ∙ ascending_kept (is_unreached parts) parts.objects (sym (ascending_by (λ (entry : KeyedObject). entry.key) parts.objects) ∙ ascending_objects parts graph.ascending);
}
