-- Nothing leads anywhere in the graph of static variables: each byte that may be part of a pointer lies in an edge, and no value is any word.
use Rattle.std.proofs.Common.{◌≡◌, ℕ, zero, suc, ◌+◌, ◌-◌, ◌<◌, ◌≤◌, Bool, true, false, not, ◌&&◌, ◌||◌, List, [], ◌∷◌, ◌++◌, map, length, take, drop, nat_eq, nat_le, nat_lt, replicate, Option, Some, None, ◌⊎◌, inl, inr, refl, sym, ◌∙◌, ap, subst, leb-true, ltb-true, le-leb, lt-ltb, arith}
use Rattle.std.specs.Prelude.{slice_get, filter, Contains, if◌then◌else◌}
use Rattle.std.specs.List.{list_all, list_any}
use Rattle.std.specs.Option.{option_map_or}
use Rattle.std.proofs.lemmas.Bool.{false≢true}
use Rattle.std.proofs.lemmas.List.{length-replicate}
use Rattle.std.proofs.lemmas.Option.{same_Some, none-some}
use Rattle.graph.specs.declared.edges.HasValue.{HasValue}
use Rattle.graph.specs.declared.object.Object.{Object}
use Rattle.graph.specs.declared.parts.Held.{Held}
use Rattle.graph.specs.declared.parts.KeyedObject.{KeyedObject}
use Rattle.graph.specs.declared.parts.KeyedValue.{KeyedValue}
use Rattle.graph.specs.declared.parts.Parts.{Parts}
use Rattle.graph.specs.declared.value.Value.{Value}
use Rattle.graph.specs.Choices.{is_free}
use Rattle.graph.specs.Maps.{object_at, value_at}
use Rattle.graph.specs.Nodes.{node_of}
use Rattle.graph.specs.Sizes.{is_zero, value_class}
use Rattle.graph.specs.WellFormed.{passes_at}
use Rattle.graph.proofs.Found.{found-all}
use Rattle.graph.proofs.Tests.{and_left, and_right, and_both}
use Rattle.changes.specs.Parts.{replaced}
use Rattle.changes.specs.Ranges.{spliced, ends_before, begins_behind, is_beside, is_inside, cuts_none, edges_around, edge_for, class_for, written_object}
use Rattle.heap_steps.specs.Unreached.{has_loose_byte, is_any, edges_hold_any, some_loose, holds_any, may_lead_anywhere}
use Rattle.heap_steps.proofs.Listed.{Contains-first, Contains-later, Contains-cases, Contains-none}
use Rattle.heap_steps.proofs.Tame.{loose_at}

-- Lists.

append_get : (one other : List ℕ) (i item : ℕ) → slice_get (one ++ other) i ≡ Some item → ((i < length one) × (slice_get one i ≡ Some item)) ⊎ ((length one ≤ i) × (slice_get other (i - length one) ≡ Some item))
append_get [] other i item is = inr (omega arith, ap (slice_get other) (let same : i - 0 ≡ i = omega arith in same) ∙ is)
append_get (first ∷ rest) other zero item is = inl (omega arith, is)
append_get (first ∷ rest) other (suc i) item is = by_side (append_get rest other i item is)
  where
    by_side : ((i < length rest) × (slice_get rest i ≡ Some item)) ⊎ ((length rest ≤ i) × (slice_get other (i - length rest) ≡ Some item)) →
        ((suc i < suc (length rest)) × (slice_get rest i ≡ Some item)) ⊎ ((suc (length rest) ≤ suc i) × (slice_get other (suc i - suc (length rest)) ≡ Some item))
    by_side (inl (less, stands)) = inl (omega arith, stands)
    by_side (inr (most, stands)) = inr (omega arith, ap (slice_get other) (let same : suc i - suc (length rest) ≡ i - length rest = omega arith in same) ∙ stands)

drop_get : (items : List ℕ) (count i : ℕ) → slice_get (drop count items) i ≡ slice_get items (count + i)
drop_get items zero i = ap (slice_get items) (let same : i ≡ 0 + i = omega arith in same)
drop_get [] (suc count) i = refl
drop_get (first ∷ rest) (suc count) i = drop_get rest count i ∙ ap (slice_get (first ∷ rest)) (let same : suc (count + i) ≡ suc count + i = omega arith in same)

-- a place of a list with others in a range
pub spliced_get : (items : List ℕ) (from : ℕ) (new : List ℕ) (i item : ℕ) → from ≤ length items → slice_get (spliced items from new) i ≡ Some item →
    (((i < from) ⊎ (from + length new ≤ i)) × (slice_get items i ≡ Some item)) ⊎ ((from ≤ i) × (i < from + length new) × (slice_get new (i - from) ≡ Some item))
spliced_get items zero new i item most is = by_side (append_get new (drop (0 + length new) items) i item is)
  where
    by_side : ((i < length new) × (slice_get new i ≡ Some item)) ⊎ ((length new ≤ i) × (slice_get (drop (0 + length new) items) (i - length new) ≡ Some item)) →
        (((i < 0) ⊎ (0 + length new ≤ i)) × (slice_get items i ≡ Some item)) ⊎ ((0 ≤ i) × (i < 0 + length new) × (slice_get new (i - 0) ≡ Some item))
    by_side (inl (less, stands)) = inr (omega arith, omega arith, ap (slice_get new) (let same : i - 0 ≡ i = omega arith in same) ∙ stands)
    by_side (inr (most, stands)) =
        inl (inr (omega arith), ap (slice_get items) (let same : i ≡ 0 + length new + (i - length new) = omega arith in same) ∙ sym (drop_get items (0 + length new) (i - length new)) ∙ stands)
spliced_get [] (suc from) new i item most is = absurd (omega arith)
spliced_get (first ∷ rest) (suc from) new zero item most is = inl (inl (omega arith), is)
spliced_get (first ∷ rest) (suc from) new (suc i) item most is =
    by_side (spliced_get rest from new i item (omega arith) (ap (λ (xs : List ℕ). slice_get (take from rest ++ (new ++ xs)) i) (ap (λ (n : ℕ). drop n (first ∷ rest)) (let same : suc (from + length new) ≡ suc from + length new = omega arith in same)) ∙ is))
  where
    by_side : (((i < from) ⊎ (from + length new ≤ i)) × (slice_get rest i ≡ Some item)) ⊎ ((from ≤ i) × (i < from + length new) × (slice_get new (i - from) ≡ Some item)) →
        (((suc i < suc from) ⊎ (suc from + length new ≤ suc i)) × (slice_get rest i ≡ Some item)) ⊎ ((suc from ≤ suc i) × (suc i < suc from + length new) × (slice_get new (suc i - suc from) ≡ Some item))
    by_side (inl (inl less, stands)) = inl (inl (omega arith), stands)
    by_side (inl (inr most, stands)) = inl (inr (omega arith), stands)
    by_side (inr (most, less, stands)) = inr (omega arith, omega arith, ap (slice_get new) (let same : suc i - suc from ≡ i - from = omega arith in same) ∙ stands)

replicate_get : (count class i item : ℕ) → slice_get (replicate count class) i ≡ Some item → class ≡ item
replicate_get zero class i item is = absurd (none-some item is)
replicate_get (suc count) class zero item is = same_Some _ _ is
replicate_get (suc count) class (suc i) item is = replicate_get count class i item is

in_front : (one other : List HasValue) (item : HasValue) → Contains one item → Contains (one ++ other) item
in_front [] other item there = absurd (Contains-none item there)
in_front (first ∷ rest) other item there = by_cases (Contains-cases first item rest there) (λ later. in_front rest other item later)
  where
    by_cases : (first ≡ item) ⊎ Contains rest item → (Contains rest item → Contains (rest ++ other) item) → Contains (first ∷ (rest ++ other)) item
    by_cases (inl same) onward = subst (λ (e : HasValue). Contains (first ∷ (rest ++ other)) e) same (Contains-first first (rest ++ other))
    by_cases (inr later) onward = Contains-later first item (rest ++ other) (onward later)

in_back : (one other : List HasValue) (item : HasValue) → Contains other item → Contains (one ++ other) item
in_back [] other item there = there
in_back (first ∷ rest) other item there = Contains-later first item (rest ++ other) (in_back rest other item there)

in_filtered : (p : HasValue → Bool) (items : List HasValue) (item : HasValue) → Contains items item → p item ≡ true → Contains (filter p items) item
in_filtered p [] item there passes = absurd (Contains-none item there)
in_filtered p (first ∷ rest) item there passes = by_cases (Contains-cases first item rest there) (p first) refl (λ later. in_filtered p rest item later passes)
  where
    by_cases : (first ≡ item) ⊎ Contains rest item → (b : Bool) → p first ≡ b → (Contains rest item → Contains (filter p rest) item) → Contains (if b then first ∷ filter p rest else filter p rest) item
    by_cases (inl same) true is onward = subst (λ (e : HasValue). Contains (first ∷ filter p rest) e) same (Contains-first first (filter p rest))
    by_cases (inl same) false is onward = absurd (false≢true (sym is ∙ ap p same ∙ passes))
    by_cases (inr later) true is onward = Contains-later first item (filter p rest) (onward later)
    by_cases (inr later) false is onward = onward later

-- Bytes in edges.

abbrev covers : HasValue → ℕ → Bool
covers edge place = nat_le edge.at place && nat_lt place (edge.at + edge.size)

covered : (edges : List HasValue) (place : ℕ) (edge : HasValue) → Contains edges edge → covers edge place ≡ true → is_free edges place ≡ false
covered [] place edge there holds = absurd (Contains-none edge there)
covered (first ∷ rest) place edge there holds = by_cases (Contains-cases first edge rest there) (λ later. covered rest place edge later holds)
  where
    and_false : (b : Bool) → (b && false) ≡ false
    and_false true = refl
    and_false false = refl

    by_cases : (first ≡ edge) ⊎ Contains rest edge → (Contains rest edge → is_free rest place ≡ false) → (not (covers first place) && is_free rest place) ≡ false
    by_cases (inl same) onward = ap (λ (b : Bool). not b && is_free rest place) (ap (λ (e : HasValue). covers e place) same ∙ holds)
    by_cases (inr later) onward = ap (λ (b : Bool). not (covers first place) && b) (onward later) ∙ and_false (not (covers first place))

record IsCoveredBy (edges : List HasValue) (place : ℕ) : Type 0 where
  edge : HasValue
  among : Contains edges edge
  holds : covers edge place ≡ true

not_free : (edges : List HasValue) (place : ℕ) → is_free edges place ≡ false → IsCoveredBy edges place
not_free [] place busy = absurd (false≢true (sym busy))
not_free (first ∷ rest) place busy = by_test (covers first place) refl busy (λ later. not_free rest place later)
  where
    by_test : (b : Bool) → covers first place ≡ b → (not b && is_free rest place) ≡ false → (is_free rest place ≡ false → IsCoveredBy rest place) → IsCoveredBy (first ∷ rest) place
    by_test true is busy onward = record { edge = first; among = Contains-first first rest; holds = is }
    by_test false is busy onward = let later = onward busy in record { edge = later.edge; among = Contains-later first later.edge rest later.among; holds = later.holds }

tight_all : (edges : List HasValue) (from : ℕ) (plane : List ℕ) → ((i class : ℕ) → slice_get plane i ≡ Some class → 1 < class → is_free edges (from + i) ≡ false) → has_loose_byte edges from plane ≡ false
tight_all edges from [] each = refl
tight_all edges from (class ∷ plane) each =
    by_class (nat_lt 1 class) refl ∙ tight_all edges (from + 1) plane (λ i other stands large. ap (is_free edges) (let same : from + 1 + i ≡ from + suc i = omega arith in same) ∙ each (suc i) other stands large)
  where
    by_class : (b : Bool) → nat_lt 1 class ≡ b → ((b && is_free edges from) || has_loose_byte edges (from + 1) plane) ≡ has_loose_byte edges (from + 1) plane
    by_class true is = ap (λ (b : Bool). b || has_loose_byte edges (from + 1) plane) (ap (is_free edges) (let same : from ≡ from + 0 = omega arith in same) ∙ each 0 class refl (ltb-true 1 class is))
    by_class false is = refl

tight_at : (edges : List HasValue) (from : ℕ) (plane : List ℕ) (i class : ℕ) → has_loose_byte edges from plane ≡ false → slice_get plane i ≡ Some class → 1 < class → is_free edges (from + i) ≡ false
tight_at edges from plane i class tight stands large = by_free (is_free edges (from + i)) refl
  where
    by_free : (b : Bool) → is_free edges (from + i) ≡ b → is_free edges (from + i) ≡ false
    by_free true free = absurd (false≢true (sym tight ∙ loose_at edges from plane i (from + i) class refl stands large free))
    by_free false busy = busy

-- of the edges that a range cuts none of, each is beside the range or in it
side_of : (from count : ℕ) (edges : List HasValue) (edge : HasValue) → cuts_none from count edges ≡ true → Contains edges edge → (is_beside from count edge || is_inside from count edge) ≡ true
side_of from count [] edge cuts there = absurd (Contains-none edge there)
side_of from count (first ∷ rest) edge cuts there =
    by_cases (Contains-cases first edge rest there) (λ later. side_of from count rest edge (and_right (is_beside from count first || is_inside from count first) (cuts_none from count rest) cuts) later)
  where
    by_cases : (first ≡ edge) ⊎ Contains rest edge → (Contains rest edge → (is_beside from count edge || is_inside from count edge) ≡ true) → (is_beside from count edge || is_inside from count edge) ≡ true
    by_cases (inl same) onward = ap (λ (e : HasValue). is_beside from count e || is_inside from count e) (sym same) ∙ and_left (is_beside from count first || is_inside from count first) (cuts_none from count rest) cuts
    by_cases (inr later) onward = onward later

module _ (object : Object) (new : HasValue) (value : Value) (room : new.at + new.size ≤ length object.plane) (cuts : cuts_none new.at new.size object.edges ≡ true) (tight : has_loose_byte object.edges 0 object.plane ≡ false) where
  abbrev around : List HasValue
  around = edges_around object.edges new.at new.size (edge_for value new)

  abbrev classes : List ℕ
  classes = replicate new.size (class_for value)

  long : length classes ≡ new.size
  long = length-replicate new.size (class_for value)

  -- an edge beside the range stays
  stays : (edge : HasValue) → Contains object.edges edge → is_beside new.at new.size edge ≡ true → Contains around edge
  stays edge there beside = by_side (ends_before new.at edge) refl (begins_behind (new.at + new.size) edge) refl beside
    where
      by_side : (a : Bool) → ends_before new.at edge ≡ a → (b : Bool) → begins_behind (new.at + new.size) edge ≡ b → (a || b) ≡ true → Contains around edge
      by_side true before b b_is either = in_front (filter (ends_before new.at) object.edges) (edge_for value new ++ filter (begins_behind (new.at + new.size)) object.edges) edge (in_filtered (ends_before new.at) object.edges edge there before)
      by_side false a_is true behind either =
          in_back (filter (ends_before new.at) object.edges) (edge_for value new ++ filter (begins_behind (new.at + new.size)) object.edges) edge
          (in_back (edge_for value new) (filter (begins_behind (new.at + new.size)) object.edges) edge (in_filtered (begins_behind (new.at + new.size)) object.edges edge there behind))
      by_side false a_is false b_is either = absurd (false≢true either)

  outside : (i class : ℕ) → (i < new.at) ⊎ (new.at + new.size ≤ i) → slice_get object.plane i ≡ Some class → 1 < class → is_free around (0 + i) ≡ false
  outside i class beside stands large = by_side (is_beside new.at new.size found.edge) refl (is_inside new.at new.size found.edge) refl (side_of new.at new.size object.edges found.edge cuts found.among)
    where
      found : IsCoveredBy object.edges (0 + i)
      found = not_free object.edges (0 + i) (tight_at object.edges 0 object.plane i class tight stands large)

      from : found.edge.at ≤ 0 + i
      from = leb-true found.edge.at (0 + i) (and_left (nat_le found.edge.at (0 + i)) (nat_lt (0 + i) (found.edge.at + found.edge.size)) found.holds)

      until : 0 + i < found.edge.at + found.edge.size
      until = ltb-true (0 + i) (found.edge.at + found.edge.size) (and_right (nat_le found.edge.at (0 + i)) (nat_lt (0 + i) (found.edge.at + found.edge.size)) found.holds)

      within : is_inside new.at new.size found.edge ≡ true → ⊥
      within inside = by_place beside
        where
          low : new.at ≤ found.edge.at
          low = leb-true new.at found.edge.at (and_left (nat_le new.at found.edge.at) (nat_le (found.edge.at + found.edge.size) (new.at + new.size)) inside)

          high : found.edge.at + found.edge.size ≤ new.at + new.size
          high = leb-true (found.edge.at + found.edge.size) (new.at + new.size) (and_right (nat_le new.at found.edge.at) (nat_le (found.edge.at + found.edge.size) (new.at + new.size)) inside)

          by_place : (i < new.at) ⊎ (new.at + new.size ≤ i) → ⊥
          by_place (inl less) = absurd (let a = from in let b = low in omega arith)
          by_place (inr most) = absurd (let a = until in let b = high in omega arith)

      by_side : (a : Bool) → is_beside new.at new.size found.edge ≡ a → (b : Bool) → is_inside new.at new.size found.edge ≡ b → (a || b) ≡ true → is_free around (0 + i) ≡ false
      by_side true a_is b b_is either = covered around (0 + i) found.edge (stays found.edge found.among a_is) found.holds
      by_side false a_is true b_is either = absurd (within b_is)
      by_side false a_is false b_is either = absurd (false≢true either)

  inside : (i class : ℕ) → new.at ≤ i → i < new.at + new.size → class_for value ≡ class → 1 < class → is_free around (0 + i) ≡ false
  inside i class low high is large = by_zero (is_zero value) refl is
    where
      by_zero : (b : Bool) → is_zero value ≡ b → (if b then 0 else value_class value) ≡ class → is_free around (0 + i) ≡ false
      by_zero true zeros is = absurd (let none : 0 ≡ class = is in omega arith)
      by_zero false some is = covered around (0 + i) new
          (in_back (filter (ends_before new.at) object.edges) (edge_for value new ++ filter (begins_behind (new.at + new.size)) object.edges) new
          (in_front (edge_for value new) (filter (begins_behind (new.at + new.size)) object.edges) new
          (subst (λ (b : Bool). Contains (if b then [] else new ∷ []) new) (sym some) (Contains-first new []))))
          (and_both (nat_le new.at (0 + i)) (nat_lt (0 + i) (new.at + new.size)) (le-leb _ _ (omega arith)) (lt-ltb _ _ (omega arith)))

  pub tight_written : has_loose_byte (written_object object new value).edges 0 (written_object object new value).plane ≡ false
  tight_written = tight_all around 0 (spliced object.plane new.at classes) (λ i class stands large. by_place i class large (spliced_get object.plane new.at classes i class (omega arith) stands))
    where
      by_place : (i class : ℕ) → 1 < class → (((i < new.at) ⊎ (new.at + length classes ≤ i)) × (slice_get object.plane i ≡ Some class)) ⊎ ((new.at ≤ i) × (i < new.at + length classes) × (slice_get classes (i - new.at) ≡ Some class)) →
          is_free around (0 + i) ≡ false
      by_place i class large (inl (inl less, stands)) = outside i class (inl less) stands large
      by_place i class large (inl (inr most, stands)) = outside i class (inr (let l = long in omega arith)) stands large
      by_place i class large (inr (low, high, stands)) = inside i class low (let l = long in omega arith) (replicate_get new.size (class_for value) (i - new.at) class stands) large

-- Graphs.

abbrev pub is_tight : KeyedObject → Bool
is_tight entry = has_loose_byte (node_of entry.object).edges 0 (node_of entry.object).plane

-- no value is any word
abbrev pub NoAny : Parts → Type 0
NoAny parts = list_all (λ (entry : KeyedValue). not (is_any entry.value)) parts.values ≡ true

none_any : (parts : Parts) (key : ℕ) → NoAny parts → passes_at parts is_any key ≡ false
none_any parts key none = by_found (value_at parts.values key) refl
  where
    not_true : (b : Bool) → not b ≡ true → b ≡ false
    not_true true is = absurd (false≢true is)
    not_true false is = refl

    by_found : (found : Option Value) → value_at parts.values key ≡ found → option_map_or is_any found false ≡ false
    by_found None is = refl
    by_found (Some value) is = not_true (is_any value) (found-all (λ (entry : KeyedValue). entry.key) (λ entry. entry.value) (λ value. not (is_any value)) parts.values key value none is)

none_held : {X : Type 0} (parts : Parts) (key : X → ℕ) (items : List X) → NoAny parts → list_any (λ (item : X). passes_at parts is_any (key item)) items ≡ false
none_held parts key [] none = refl
none_held parts key (first ∷ rest) none = ap (λ (b : Bool). b || list_any (λ item. passes_at parts is_any (key item)) rest) (none_any parts (key first) none) ∙ none_held parts key rest none

none_in_objects : (parts : Parts) (entries : List KeyedObject) → NoAny parts → list_any (λ (entry : KeyedObject). edges_hold_any parts (node_of entry.object).edges) entries ≡ false
none_in_objects parts [] none = refl
none_in_objects parts (first ∷ rest) none =
    ap (λ (b : Bool). b || list_any (λ (entry : KeyedObject). edges_hold_any parts (node_of entry.object).edges) rest) (none_held parts (λ (edge : HasValue). edge.value) (node_of first.object).edges none) ∙ none_in_objects parts rest none

pub leads_nowhere : (parts : Parts) → NoAny parts → some_loose parts ≡ false → may_lead_anywhere parts ≡ false
leads_nowhere parts none tight =
    ap (λ (b : Bool). b || holds_any parts) tight
    ∙ ap (λ (b : Bool). b || (list_any (λ (held : Held). passes_at parts is_any held.value) parts.registers || list_any (passes_at parts is_any) parts.ports)) (none_in_objects parts parts.objects none)
    ∙ ap (λ (b : Bool). b || list_any (passes_at parts is_any) parts.ports) (none_held parts (λ (held : Held). held.value) parts.registers none)
    ∙ none_held parts (λ (port : ℕ). port) parts.ports none

-- where one object is another one that is tight
pub tight_replaced : (key : ℕ) (object : Object) (entries : List KeyedObject) → has_loose_byte (node_of object).edges 0 (node_of object).plane ≡ false → list_any is_tight entries ≡ false → list_any is_tight (map (replaced key object) entries) ≡ false
tight_replaced key object [] new tight = refl
tight_replaced key object (first ∷ rest) new tight = by_first (is_tight first) refl tight (λ later. tight_replaced key object rest new later)
  where
    by_key : (b : Bool) → is_tight first ≡ false → has_loose_byte (node_of (if b then object else first.object)).edges 0 (node_of (if b then object else first.object)).plane ≡ false
    by_key true own = new
    by_key false own = own

    by_first : (b : Bool) → is_tight first ≡ b → (b || list_any is_tight rest) ≡ false → (list_any is_tight rest ≡ false → list_any is_tight (map (replaced key object) rest) ≡ false) → list_any is_tight (map (replaced key object) (first ∷ rest)) ≡ false
    by_first true is tight onward = absurd (false≢true (sym tight))
    by_first false is tight onward = ap (λ (b : Bool). b || list_any is_tight (map (replaced key object) rest)) (by_key (nat_eq first.key key) is) ∙ onward tight

-- what is tight at a key
pub tight_found : (entries : List KeyedObject) (key : ℕ) (object : Object) → list_any is_tight entries ≡ false → object_at entries key ≡ Some object → has_loose_byte (node_of object).edges 0 (node_of object).plane ≡ false
tight_found [] key object tight stands = absurd (none-some object stands)
tight_found (first ∷ rest) key object tight stands = by_first (is_tight first) refl tight (nat_eq first.key key) stands (λ tight stands. tight_found rest key object tight stands)
  where
    by_first : (b : Bool) → is_tight first ≡ b → (b || list_any is_tight rest) ≡ false → (c : Bool) → (if c then Some first.object else object_at rest key) ≡ Some object →
        (list_any is_tight rest ≡ false → object_at rest key ≡ Some object → has_loose_byte (node_of object).edges 0 (node_of object).plane ≡ false) → has_loose_byte (node_of object).edges 0 (node_of object).plane ≡ false
    by_first true is tight c stands onward = absurd (false≢true (sym tight))
    by_first false is tight true stands onward = ap (λ (o : Object). has_loose_byte (node_of o).edges 0 (node_of o).plane) (sym (same_Some _ _ stands)) ∙ is
    by_first false is tight false stands onward = onward tight stands
