-- Bytes that may be parts of pointers and lie in no edge: what is left of the classes where the edges' bytes are taken out.
use Rattle.std.proofs.Common.{◌≡◌, ℕ, zero, suc, ◌+◌, ◌-◌, ◌<◌, ◌≤◌, Bool, true, false, ◌&&◌, ◌||◌, not, List, [], ◌∷◌, ◌++◌, length, take, drop, replicate, get_or, nat_le, nat_lt, Option, None, Some, ◌⊎◌, inl, inr, refl, sym, ap, ◌∙◌, subst, eqb-true, leb-true, ltb-true, ltb-false, nat_eq, arith}
use denote.Ref.{Bor}
use Rattle.std.specs.Prelude.{slice_get, slice_index_or, is_some, ◌↔◌}
use Rattle.std.specs.List.{All, ItemBy, list_all, list_any}
use Rattle.std.proofs.lemmas.Bool.{false≢true, true≢false, lt-ltb, le-leb, or_cases, and_parts}
use Rattle.std.proofs.lemmas.Bool.Decides.{same_from_decides}
use Rattle.std.proofs.lemmas.List.{length-replicate}
use Rattle.std.proofs.lemmas.Option.{same_Some, none-some, slice_get_within}
use Rattle.planes.specs.Classes.{filled}
use Rattle.graph.specs.declared.edges.HasValue.{HasValue}
use Rattle.graph.specs.declared.object.Object.{Object}
use Rattle.graph.specs.declared.parts.KeyedObject.{KeyedObject}
use Rattle.graph.specs.declared.parts.Parts.{Parts}
use Rattle.graph.specs.Choices.{is_free}
use Rattle.graph.specs.Maps.{object_at}
use Rattle.graph.specs.declared.object.Shape.{Shape}
use Rattle.graph.specs.declared.object.Shape.TheVariants.{Region as RegionShape, Segment}
use Rattle.graph.specs.Nodes.{is_region, own_node, node_in, node_of}
use Rattle.graph.specs.WellFormed.{lies_in, has_class_a_byte, says_nothing}
use Rattle.graph.specs.Whole.{IsGraph}
use Rattle.graph.proofs.Closed.{says_nothing-edges}
use Rattle.graph.proofs.Found.{found-all}
use Rattle.graph.proofs.Tests.{and_left, and_right, and_both}
use Rattle.changes.specs.Ranges.{spliced}
use Rattle.changes.proofs.Node.{filled_spliced}
use Rattle.changes.proofs.Splice.{length-spliced, spliced-below, spliced-within, spliced-behind}
use Rattle.heap_steps.specs.Unreached.{has_loose_byte}
use Rattle.heap_steps.proofs.Entries.{entry_found}
use Rattle.heap_steps.proofs.Listed.{get_within}
use Rattle.heap_steps.proofs.Loses.{object_there}
use Rattle.heap_steps.proofs.Tame.{loose_at, some_at}

-- a loose byte
record IsLoose (edges : List HasValue) (plane : List ℕ) (from : ℕ) : Type 0 where
  place : ℕ
  class : ℕ
  stands : slice_get plane place ≡ Some class
  above : 1 < class
  free : is_free edges (from + place) ≡ true

IsLoose-has : (edges : List HasValue) (from : ℕ) (plane : List ℕ) → has_loose_byte edges from plane ≡ true → IsLoose edges plane from
IsLoose-has edges from [] has = absurd (false≢true has)
IsLoose-has edges from (class ∷ plane) has = by_cases (or_cases (nat_lt 1 class && is_free edges from) (has_loose_byte edges (from + 1) plane) has) (λ later. IsLoose-has edges (from + 1) plane later)
  where
    by_cases : ((nat_lt 1 class && is_free edges from) ≡ true) ⊎ (has_loose_byte edges (from + 1) plane ≡ true) → (has_loose_byte edges (from + 1) plane ≡ true → IsLoose edges plane (from + 1)) → IsLoose edges (class ∷ plane) from
    by_cases (inl here) before =
        let both = and_parts (nat_lt 1 class) (is_free edges from) here in
        record { place = 0; class = class; stands = refl; above = ltb-true 1 class both.0; free = subst (λ (n : ℕ). is_free edges n ≡ true) (let same : from ≡ from + 0 = omega arith in same) both.1 }
    by_cases (inr later) before =
        let found = before later in
        record { place = suc found.place; class = found.class; stands = found.stands; above = found.above; free = subst (λ (n : ℕ). is_free edges n ≡ true) (let same : from + 1 + found.place ≡ from + suc found.place = omega arith in same) found.free }

-- items as they are read
read_is : (xs : List ℕ) (i x : ℕ) → slice_get xs i ≡ Some x → get_or xs i 0 ≡ x
read_is [] i x is = absurd (none-some x is)
read_is (first ∷ rest) zero x is = same_Some first x is
read_is (first ∷ rest) (suc i) x is = read_is rest i x is

is_read : (xs : List ℕ) (i x : ℕ) → i < length xs → get_or xs i 0 ≡ x → slice_get xs i ≡ Some x
is_read [] i x below is = absurd (omega arith)
is_read (first ∷ rest) zero x below is = ap Some is
is_read (first ∷ rest) (suc i) x below is = is_read rest i x (omega arith) is

abbrev zeros : ℕ → List ℕ
zeros count = replicate count 0

zeros_read : (count i : ℕ) → get_or (zeros count) i 0 ≡ 0
zeros_read zero i = refl
zeros_read (suc count) zero = refl
zeros_read (suc count) (suc i) = zeros_read count i

-- an edge covers a place or does not
covers_not : (edge : HasValue) (place : ℕ) → not (nat_le edge.at place && nat_lt place (edge.at + edge.size)) ≡ true → (edge.at ≤ place → place < edge.at + edge.size → ⊥)
covers_not edge place passes from upto =
    false≢true (sym (ap not (ap (λ (b : Bool). b && nat_lt place (edge.at + edge.size)) (le-leb edge.at place from) ∙ lt-ltb place (edge.at + edge.size) upto)) ∙ passes)

not_covers : (edge : HasValue) (place : ℕ) → (edge.at ≤ place → place < edge.at + edge.size → ⊥) → not (nat_le edge.at place && nat_lt place (edge.at + edge.size)) ≡ true
not_covers edge place outside = by_test (nat_le edge.at place) refl (nat_lt place (edge.at + edge.size)) refl
  where
    by_test : (b : Bool) → nat_le edge.at place ≡ b → (c : Bool) → nat_lt place (edge.at + edge.size) ≡ c → not (b && c) ≡ true
    by_test true from true upto = absurd (outside (leb-true edge.at place from) (ltb-true place (edge.at + edge.size) upto))
    by_test true from false upto = refl
    by_test false from c upto = refl

-- taking out the bytes of an edge
pub length-filled : (plane : List ℕ) (from count : ℕ) → from + count ≤ length plane → length (filled plane from count 0) ≡ length plane
length-filled plane from count inside =
    ap length (filled_spliced plane from count 0) ∙ length-spliced plane from (zeros count) (let long : length (zeros count) ≡ count = length-replicate count 0 in omega arith) 0

pub loose_filled : (edge : HasValue) (edges : List HasValue) (plane : List ℕ) → edge.at + edge.size ≤ length plane → has_loose_byte (edge ∷ edges) 0 plane ≡ has_loose_byte edges 0 (filled plane edge.at edge.size 0)
loose_filled edge edges plane inside =
    same_from_decides (has_loose_byte (edge ∷ edges) 0 plane) (has_loose_byte edges 0 (filled plane edge.at edge.size 0)) (there, back) (λ h. h, λ h. h)
  where
    after : List ℕ
    after = spliced plane edge.at (zeros edge.size)

    long : length (zeros edge.size) ≡ edge.size
    long = length-replicate edge.size 0

    room : edge.at + length (zeros edge.size) ≤ length plane
    room = let e = long in omega arith

    -- a place beside the range holds what it held, and one in it 0
    beside : (place : ℕ) → (edge.at ≤ place → place < edge.at + edge.size → ⊥) → (b : Bool) → nat_lt place edge.at ≡ b → get_or after place 0 ≡ get_or plane place 0
    beside place outside true below = spliced-below plane edge.at (zeros edge.size) room 0 place (ltb-true place edge.at below)
    beside place outside false above =
        let low = ltb-false place edge.at above in
        spliced-behind plane edge.at (zeros edge.size) room 0 place (behind (nat_lt place (edge.at + edge.size)) refl low)
      where
        behind : (b : Bool) → nat_lt place (edge.at + edge.size) ≡ b → edge.at ≤ place → edge.at + length (zeros edge.size) ≤ place
        behind true upto low = absurd (outside low (ltb-true place (edge.at + edge.size) upto))
        behind false past low = let far = ltb-false place (edge.at + edge.size) past in let e = long in omega arith

    inside_zero : (place : ℕ) → edge.at ≤ place → place < edge.at + edge.size → get_or after place 0 ≡ 0
    inside_zero place low high = spliced-within plane edge.at (zeros edge.size) room 0 place low (let e = long in omega arith) ∙ zeros_read edge.size (place - edge.at)

    there : has_loose_byte (edge ∷ edges) 0 plane ≡ true → has_loose_byte edges 0 (filled plane edge.at edge.size 0) ≡ true
    there has =
        let found = IsLoose-has (edge ∷ edges) 0 plane has in
        let within = slice_get_within plane found.place found.class found.stands in
        let same : 0 + found.place ≡ found.place = omega arith in
        let free : is_free (edge ∷ edges) found.place ≡ true = subst (λ (n : ℕ). is_free (edge ∷ edges) n ≡ true) same found.free in
        let outside = covers_not edge found.place (and_left (not (nat_le edge.at found.place && nat_lt found.place (edge.at + edge.size))) (is_free edges found.place) free) in
        let size = length-spliced plane edge.at (zeros edge.size) room 0 in
        ap (has_loose_byte edges 0) (filled_spliced plane edge.at edge.size 0)
        ∙ loose_at edges 0 after found.place found.place found.class (sym same)
        (is_read after found.place found.class (omega arith) (beside found.place outside (nat_lt found.place edge.at) refl ∙ read_is plane found.place found.class found.stands)) found.above
        (and_right (not (nat_le edge.at found.place && nat_lt found.place (edge.at + edge.size))) (is_free edges found.place) free)

    back : has_loose_byte edges 0 (filled plane edge.at edge.size 0) ≡ true → has_loose_byte (edge ∷ edges) 0 plane ≡ true
    back has =
        let found = IsLoose-has edges 0 after (ap (has_loose_byte edges 0) (sym (filled_spliced plane edge.at edge.size 0)) ∙ has) in
        let within = slice_get_within after found.place found.class found.stands in
        let same : 0 + found.place ≡ found.place = omega arith in
        let size = length-spliced plane edge.at (zeros edge.size) room 0 in
        let read = read_is after found.place found.class found.stands in
        let outside : edge.at ≤ found.place → found.place < edge.at + edge.size → ⊥ = λ low high. zero_above found.class found.above (sym read ∙ inside_zero found.place low high) in
        loose_at (edge ∷ edges) 0 plane found.place found.place found.class (sym same)
        (is_read plane found.place found.class (omega arith) (sym (beside found.place outside (nat_lt found.place edge.at) refl) ∙ read)) found.above
        (and_both (not (nat_le edge.at found.place && nat_lt found.place (edge.at + edge.size))) (is_free edges found.place) (not_covers edge found.place outside) (subst (λ (n : ℕ). is_free edges n ≡ true) same found.free))
      where
        zero_above : (class : ℕ) → 1 < class → class ≡ 0 → ⊥
        zero_above class above zero_is = absurd (omega arith)

-- where no edge is left
pub loose_left : (plane : List ℕ) (found : Option ℕ) → ((found ≡ None) ↔ All (λ (other : ℕ). other ≤ 1) (drop 0 plane)) → is_some found ≡ has_loose_byte [] 0 plane
loose_left plane None none = sym (not_loose (has_loose_byte [] 0 plane) refl)
  where
    not_loose : (b : Bool) → has_loose_byte [] 0 plane ≡ b → has_loose_byte [] 0 plane ≡ false
    not_loose false is = is
    not_loose true is =
        let found = IsLoose-has [] 0 plane is in
        let below = none.0 refl found.place 0 (slice_get_within plane found.place found.class found.stands) in
        let read = read_is plane found.place found.class found.stands in
        let above = found.above in
        absurd (omega arith)
loose_left plane (Some at) none = sym (loose (has_loose_byte [] 0 plane) refl)
  where
    all_low : (xs : List ℕ) (from : ℕ) → has_loose_byte [] from xs ≡ false → (i d : ℕ) → i < length xs → get_or xs i d ≤ 1
    all_low [] from is i d below = absurd (omega arith)
    all_low (x ∷ xs) from is zero d below = by_class (nat_lt 1 x) refl is
      where
        by_class : (b : Bool) → nat_lt 1 x ≡ b → ((b && true) || has_loose_byte [] (from + 1) xs) ≡ false → x ≤ 1
        by_class true above none' = absurd (true≢false none')
        by_class false low none' = ltb-false 1 x low
    all_low (x ∷ xs) from is (suc i) d below = all_low xs (from + 1) (later (nat_lt 1 x && true) is) i d (omega arith)
      where
        later : (b : Bool) → (b || has_loose_byte [] (from + 1) xs) ≡ false → has_loose_byte [] (from + 1) xs ≡ false
        later true none' = absurd (true≢false none')
        later false none' = none'

    loose : (b : Bool) → has_loose_byte [] 0 plane ≡ b → has_loose_byte [] 0 plane ≡ true
    loose true is = is
    loose false is = absurd (none-some at (sym (none.1 (λ i d below. all_low plane 0 is i d below))))

-- the edges of an object lie in its classes
pub edges_inside : (parts : Parts) → IsGraph parts → (key : ℕ) (object : Object) → object_at parts.objects key ≡ Some object → list_all (lies_in (length (node_of object).plane)) (node_of object).edges ≡ true
edges_inside parts graph key object stands = by_life object.live refl
  where
    of_object : (test : Object → Bool) → list_all (λ (entry : KeyedObject). test entry.object) parts.objects ≡ true → test object ≡ true
    of_object test all = found-all (λ (entry : KeyedObject). entry.key) (λ entry. entry.object) test parts.objects key object all stands

    inside : list_all (lies_in object.size) (node_of object).edges ≡ true
    inside = of_object (λ (object : Object). list_all (lies_in object.size) (node_of object).edges) graph.well_formed.edges_lie_inside

    by_life : (b : Bool) → object.live ≡ b → list_all (lies_in (length (node_of object).plane)) (node_of object).edges ≡ true
    by_life true live =
        let long : length (node_of object).plane ≡ object.size = eqb-true _ _ (subst (λ (b : Bool). (not b || nat_eq (length (node_of object).plane) object.size) ≡ true) live (of_object has_class_a_byte graph.well_formed.planes_are_as_long)) in
        subst (λ (n : ℕ). list_all (lies_in n) (node_of object).edges ≡ true) (sym long) inside
    by_life false dead =
        let bare = subst (λ (b : Bool). (b || (is_region object.shape && says_nothing object.edges object.plane)) ≡ true) dead (of_object (λ (one : Object). one.live || (is_region one.shape && says_nothing one.edges one.plane)) graph.well_formed.dead_objects_are_bare) in
        by_shape object.shape refl (and_left (is_region object.shape) (says_nothing object.edges object.plane) bare) (says_nothing-edges object.edges object.plane (and_right (is_region object.shape) (says_nothing object.edges object.plane) bare))
      where
        by_shape : (shape : Shape) → object.shape ≡ shape → is_region shape ≡ true → object.edges ≡ [] → list_all (lies_in (length (node_of object).plane)) (node_of object).edges ≡ true
        by_shape RegionShape region is none =
            subst (λ (edges : List HasValue). list_all (lies_in (length (node_of object).plane)) edges ≡ true) (sym (ap (λ (s : Shape). (node_in s (own_node object)).edges) region ∙ none)) refl
        by_shape (Segment twofold head next prev back least next_value prev_value node) region is none = absurd (false≢true is)

-- One object more is looked at.

take_more : {X : Type 0} (xs : List X) (place : ℕ) (x : X) → slice_get xs place ≡ Some x → take (place + 1) xs ≡ take place xs ++ x ∷ []
take_more [] place x is = absurd (none-some x is)
take_more (first ∷ rest) zero x is = ap (λ (y : _). y ∷ []) (same_Some first x is)
take_more (first ∷ rest) (suc place) x is = let sum : suc place + 1 ≡ suc (place + 1) = omega arith in ap (λ (n : ℕ). take n (first ∷ rest)) sum ∙ ap (λ (ys : List _). first ∷ ys) (take_more rest place x is)

any_append : {X : Type 0} (test : X → Bool) (xs : List X) (x : X) → list_any test xs ≡ false → test x ≡ false → list_any test (xs ++ x ∷ []) ≡ false
any_append test [] x none fails = ap (λ (b : Bool). b || false) fails
any_append test (first ∷ rest) x none fails = by_first (test first) none (λ later. any_append test rest x later fails)
  where
    by_first : (b : Bool) → (b || list_any test rest) ≡ false → (list_any test rest ≡ false → list_any test (rest ++ x ∷ []) ≡ false) → (b || list_any test (rest ++ x ∷ [])) ≡ false
    by_first true none' later = absurd (true≢false none')
    by_first false none' later = later none'

pub none_more : (parts : Parts) → IsGraph parts → (test : Object → Bool) (key : ℕ) (object : Object) → object_at parts.objects key ≡ Some object → key < length parts.objects →
    list_any (λ (entry : KeyedObject). test entry.object) (take key parts.objects) ≡ false → test object ≡ false → list_any (λ (entry : KeyedObject). test entry.object) (take (key + 1) parts.objects) ≡ false
none_more parts graph test key object stands below before fails =
    let found = get_within parts.objects key below in
    let key_is : found.0.key ≡ key = graph.keys.objects key found.0 found.1 in
    let object_is : found.0.object ≡ object = same_Some _ _ (sym (object_there parts graph key found.0 found.1) ∙ ap (object_at parts.objects) key_is ∙ stands) in
    ap (list_any (λ (entry : KeyedObject). test entry.object)) (take_more parts.objects key found.0 found.1)
    ∙ any_append (λ (entry : KeyedObject). test entry.object) (take key parts.objects) found.0 before (ap test object_is ∙ fails)

pub some_here : (parts : Parts) → IsGraph parts → (test : Object → Bool) (key : ℕ) (object : Object) → object_at parts.objects key ≡ Some object → test object ≡ true → list_any (λ (entry : KeyedObject). test entry.object) parts.objects ≡ true
some_here parts graph test key object stands passes =
    let found = entry_found (λ (entry : KeyedObject). entry.key) (λ (entry : KeyedObject). entry.object) parts.objects key object stands in
    some_at (λ (entry : KeyedObject). test entry.object) parts.objects found.0 found.1 found.2 (ap test found.4 ∙ passes)

pub none_all : (test : Object → Bool) (entries : List KeyedObject) (count : ℕ) → length entries ≤ count → list_any (λ (entry : KeyedObject). test entry.object) (take count entries) ≡ false → list_any (λ (entry : KeyedObject). test entry.object) entries ≡ false
none_all test [] count long none = refl
none_all test (first ∷ rest) zero long none = absurd (omega arith)
none_all test (first ∷ rest) (suc count) long none = by_first (test first.object) none (λ later. none_all test rest count (omega arith) later)
  where
    by_first : (b : Bool) → (b || list_any (λ (entry : KeyedObject). test entry.object) (take count rest)) ≡ false →
        (list_any (λ (entry : KeyedObject). test entry.object) (take count rest) ≡ false → list_any (λ (entry : KeyedObject). test entry.object) rest ≡ false) → (b || list_any (λ (entry : KeyedObject). test entry.object) rest) ≡ false
    by_first true none' later = absurd (true≢false none')
    by_first false none' later = later none'

-- The edges one by one.

drop_at : (edges : List HasValue) (place : ℕ) (edge : HasValue) → slice_get edges place ≡ Some edge → drop place edges ≡ edge ∷ drop (place + 1) edges
drop_at [] place edge is = absurd (none-some edge is)
drop_at (first ∷ rest) zero edge is = ap (λ (e : HasValue). e ∷ rest) (same_Some first edge is)
drop_at (first ∷ rest) (suc place) edge is = let sum : suc place + 1 ≡ suc (place + 1) = omega arith in drop_at rest place edge is ∙ ap (λ (n : ℕ). edge ∷ drop n (first ∷ rest)) (sym sum)

drop_past : (edges : List HasValue) (place : ℕ) → length edges ≤ place → drop place edges ≡ []
drop_past [] zero past = refl
drop_past [] (suc place) past = refl
drop_past (first ∷ rest) zero past = absurd (omega arith)
drop_past (first ∷ rest) (suc place) past = drop_past rest place (omega arith)

pub inside_at : (edges : List HasValue) (place size : ℕ) (edge : HasValue) → slice_get edges place ≡ Some edge → list_all (lies_in size) edges ≡ true → edge.at + edge.size ≤ size
inside_at [] place size edge is all = absurd (none-some edge is)
inside_at (first ∷ rest) zero size edge is all = subst (λ (e : HasValue). e.at + e.size ≤ size) (same_Some first edge is) (leb-true _ _ (and_left (lies_in size first) (list_all (lies_in size) rest) all))
inside_at (first ∷ rest) (suc place) size edge is all = inside_at rest place size edge is (and_right (lies_in size first) (list_all (lies_in size) rest) all)

pub loose_at_place : (edges : List HasValue) (place : ℕ) (edge : HasValue) (plane after : List ℕ) → slice_get edges place ≡ Some edge → list_all (lies_in (length plane)) edges ≡ true → after ≡ filled plane edge.at edge.size 0 →
    has_loose_byte (drop (place + 1) edges) 0 after ≡ has_loose_byte (drop place edges) 0 plane
loose_at_place edges place edge plane after is all fills =
    ap (has_loose_byte (drop (place + 1) edges) 0) fills
    ∙ sym (loose_filled edge (drop (place + 1) edges) plane (inside_at edges place (length plane) edge is all))
    ∙ ap (λ (es : List HasValue). has_loose_byte es 0 plane) (sym (drop_at edges place edge is))

-- past the last edge nothing is taken out
pub loose_beyond : (edges : List HasValue) (place : ℕ) (plane : List ℕ) → length edges ≤ place → has_loose_byte (drop (place + 1) edges) 0 plane ≡ has_loose_byte (drop place edges) 0 plane
loose_beyond edges place plane past = ap (λ (es : List HasValue). has_loose_byte es 0 plane) (drop_past edges (place + 1) (omega arith) ∙ sym (drop_past edges place past))

-- what a look-up at a place gives
edge_read : (edges : List HasValue) (place : ℕ) (edge : HasValue) → place < length edges → edge ≡ slice_index_or edges place edge → slice_get edges place ≡ Some edge
edge_read [] place edge below is = absurd (omega arith)
edge_read (first ∷ rest) zero edge below is = ap Some (sym is)
edge_read (first ∷ rest) (suc place) edge below is = edge_read rest place edge (omega arith) is

pub item_get : (edges : List HasValue) (place : ℕ) (found : Option (Bor HasValue)) (edge : Bor HasValue) → ItemBy (λ (x : Bor HasValue). x.now) edges place place found → found ≡ Some edge → slice_get edges place ≡ Some edge.now
item_get edges place found edge item is =
    let here = subst (λ (r : Option (Bor HasValue)). ItemBy (λ (x : Bor HasValue). x.now) edges place place r) is item in
    edge_read edges place edge.now here.3.0 here.1

pub item_none : (edges : List HasValue) (place : ℕ) (found : Option (Bor HasValue)) → ItemBy (λ (x : Bor HasValue). x.now) edges place place found → found ≡ None → length edges ≤ place
item_none edges place found item is = (subst (λ (r : Option (Bor HasValue)). ItemBy (λ (x : Bor HasValue). x.now) edges place place r) is item).3

pub loose_end : (edges : List HasValue) (place : ℕ) (plane : List ℕ) → length edges ≤ place → has_loose_byte (drop place edges) 0 plane ≡ has_loose_byte [] 0 plane
loose_end edges place plane past = ap (λ (es : List HasValue). has_loose_byte es 0 plane) (drop_past edges place past)
