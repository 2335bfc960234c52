-- Steps of the code that splits a segment.
use Rattle.std.proofs.Common.{◌≡◌, ℕ, zero, suc, ◌+◌, ◌^◌, ◌<◌, ◌≤◌, Bool, true, false, ◌||◌, not, cond, List, [], ◌∷◌, ◌++◌, map, length, take, nat_eq, nat_lt, None, Some, refl, sym, ◌∙◌, ap, eq-eqb, eqb-true, ltb-true, arith}
use Rattle.std.specs.Prelude.{sum_by, slice_get, if◌then◌else◌}
use Rattle.std.specs.List.{list_any}
use Rattle.std.proofs.lemmas.Bool.{false≢true}
use Rattle.std.proofs.lemmas.List.{length-map, append_assoc}
use Rattle.std.proofs.lemmas.List.Sums.{sum_by_push, sum_by-take-le}
use Rattle.std.proofs.lemmas.Option.{same_Some, none-some}
use Rattle.graph.specs.declared.object.Object.{Object}
use Rattle.graph.specs.declared.value.Value.{Value}
use Rattle.graph.specs.declared.parts.KeyedObject.{KeyedObject}
use Rattle.graph.specs.declared.parts.KeyedValue.{KeyedValue}
use Rattle.graph.specs.declared.parts.Parts.{Parts}
use Rattle.graph.specs.Maps.{object_at}
use Rattle.graph.specs.Renaming.{place_among, values_from}
use Rattle.graph.specs.WellFormed.{nodes_of, nodes}
use Rattle.graph.specs.Whole.{IsGraph}
use Rattle.graph.proofs.Tests.{and_left}
use Rattle.changes.specs.Parts.{replaced}
use Rattle.materialise.specs.SplitFirst.{rest_behind}
use Rattle.materialise.specs.Splitting.{alone_at, rest_entry}
use Rattle.materialise.proofs.SplitRows.{entry_there}

-- Own addresses.

keys : List KeyedValue → List ℕ
keys own = map (λ (entry : KeyedValue). entry.key) own

pub alone_here : (first : KeyedValue) (rest : List KeyedValue) (from at : ℕ) → first.key ≡ at → alone_at (first ∷ rest) from at ≡ from
alone_here first rest from at same = by_key (nat_eq at first.key) (eq-eqb _ _ (sym same))
  where
    by_key : (b : Bool) → b ≡ true → (if b || list_any (nat_eq at) (map (λ (entry : KeyedValue). entry.key) rest) then from + cond (not b) (1 + place_among (map (λ (entry : KeyedValue). entry.key) rest) at) 0 else at) ≡ from
    by_key true is = omega arith
    by_key false is = absurd (false≢true is)

pub alone_more : (first : KeyedValue) (rest : List KeyedValue) (from at : ℕ) → nat_eq first.key at ≡ false → alone_at (first ∷ rest) from at ≡ alone_at rest (from + 1) at
alone_more first rest from at other = by_key (nat_eq at first.key) refl
  where
    by_any : (b : Bool) → (if b then from + (1 + place_among (map (λ (entry : KeyedValue). entry.key) rest) at) else at) ≡ (if b then (from + 1) + place_among (map (λ (entry : KeyedValue). entry.key) rest) at else at)
    by_any true = omega arith
    by_any false = refl

    by_key : (b : Bool) → nat_eq at first.key ≡ b →
        (if b || list_any (nat_eq at) (map (λ (entry : KeyedValue). entry.key) rest) then from + cond (not b) (1 + place_among (map (λ (entry : KeyedValue). entry.key) rest) at) 0 else at) ≡ alone_at rest (from + 1) at
    by_key true is = absurd (false≢true (sym other ∙ eq-eqb _ _ (sym (eqb-true _ _ is))))
    by_key false is = by_any (list_any (nat_eq at) (map (λ (entry : KeyedValue). entry.key) rest))

-- Values from a key on, in two.

pub values_from-append : (from : ℕ) (one other : List Value) → values_from from (one ++ other) ≡ values_from from one ++ values_from (from + length one) other
values_from-append from [] other = ap (λ (n : ℕ). values_from n other) (let e : from ≡ from + 0 = omega arith in e)
values_from-append from (value ∷ rest) other =
    ap (λ (entries : List KeyedValue). (let e : KeyedValue = record { key = from; value = value } in e) ∷ entries)
    (values_from-append (from + 1) rest other ∙ ap (λ (n : ℕ). values_from (from + 1) rest ++ values_from n other) (let e : from + 1 + length rest ≡ from + suc (length rest) = omega arith in e))

-- the values of the graph that is split
pub values_whole : (old : List KeyedValue) (from : ℕ) (turned : KeyedValue → Value) (own : List KeyedValue) (ends : List Value) →
    (old ++ values_from from (map turned own)) ++ values_from (from + length own) ends ≡ old ++ values_from from (map turned own ++ ends)
values_whole old from turned own ends =
    append_assoc old (values_from from (map turned own)) (values_from (from + length own) ends)
    ∙ ap (λ (entries : List KeyedValue). old ++ entries)
    (ap (λ (n : ℕ). values_from from (map turned own) ++ values_from (from + n) ends) (sym (length-map own turned)) ∙ sym (values_from-append from (map turned own) ends))

-- The rest in place of the segment.

pub rest_replaced : (parts : Parts) → IsGraph parts → (key before : ℕ) (object : Object) → object_at parts.objects key ≡ Some object →
    map (rest_entry key before) parts.objects ≡ map (replaced key (record object { shape = rest_behind before object.shape })) parts.objects
rest_replaced parts graph key before object stands =
    go parts.objects (λ place entry there same. same_Some _ _ (sym (entry_there (λ (e : KeyedObject). e.key) (λ e. e.object) parts.objects graph.keys.objects place entry there) ∙ ap (object_at parts.objects) same ∙ stands))
  where
    go : (entries : List KeyedObject) → ((place : ℕ) (entry : KeyedObject) → slice_get entries place ≡ Some entry → entry.key ≡ key → entry.object ≡ object) →
        map (rest_entry key before) entries ≡ map (replaced key (record object { shape = rest_behind before object.shape })) entries
    go [] one = refl
    go (first ∷ rest) one =
        ap (λ (o : Object). (let e : KeyedObject = record { key = first.key; object = o } in e) ∷ map (rest_entry key before) rest) (by_key (nat_eq first.key key) refl)
        ∙ ap (λ (es : List KeyedObject). replaced key (record object { shape = rest_behind before object.shape }) first ∷ es) (go rest (λ place entry there same. one (suc place) entry there same))
      where
        by_key : (b : Bool) → nat_eq first.key key ≡ b →
            (if b then (let o : Object = record first.object { shape = rest_behind before first.object.shape } in o) else first.object) ≡ (if b then (let o : Object = record object { shape = rest_behind before object.shape } in o) else first.object)
        by_key true is = ap (λ (o : Object). let r : Object = record o { shape = rest_behind before o.shape } in r) (one 0 first refl (eqb-true _ _ is))
        by_key false is = refl

-- How many nodes the first objects of a graph have.

abbrev pub counted : List KeyedObject → ℕ
counted objects = sum_by (λ (entry : KeyedObject). nodes_of entry.object.shape) objects

get_within : (objects : List KeyedObject) (key : ℕ) → key < length objects → (entry : KeyedObject) × (slice_get objects key ≡ Some entry)
get_within [] key below = absurd (omega arith)
get_within (first ∷ rest) zero below = (first, refl)
get_within (first ∷ rest) (suc key) below = get_within rest key (omega arith)

take_more : {X : Type 0} (xs : List X) (place : ℕ) (x : X) → slice_get xs place ≡ Some x → take (place + 1) xs ≡ take place xs ++ x ∷ []
take_more [] place x is = absurd (none-some x is)
take_more (first ∷ rest) zero x is = ap (λ (y : _). y ∷ []) (same_Some first x is)
take_more (first ∷ rest) (suc place) x is = let sum : suc place + 1 ≡ suc (place + 1) = omega arith in ap (λ (n : ℕ). take n (first ∷ rest)) sum ∙ ap (λ (ys : List _). first ∷ ys) (take_more rest place x is)

take_all : {X : Type 0} (xs : List X) (count : ℕ) → length xs ≤ count → take count xs ≡ xs
take_all [] zero long = refl
take_all [] (suc count) long = refl
take_all (first ∷ rest) zero long = absurd (omega arith)
take_all (first ∷ rest) (suc count) long = ap (λ (ys : List _). first ∷ ys) (take_all rest count (omega arith))

there : (parts : Parts) → IsGraph parts → (key : ℕ) → key < length parts.objects → (entry : KeyedObject) × (slice_get parts.objects key ≡ Some entry) × (object_at parts.objects key ≡ Some entry.object)
there parts graph key below =
    let found = get_within parts.objects key below in
    (found.0, found.1, ap (object_at parts.objects) (sym (graph.keys.objects key found.0 found.1)) ∙ entry_there (λ (e : KeyedObject). e.key) (λ e. e.object) parts.objects graph.keys.objects key found.0 found.1)

-- an object stands at each key below
pub object_below : (parts : Parts) → IsGraph parts → (key : ℕ) → key < length parts.objects → object_at parts.objects key ≡ None → ⊥
object_below parts graph key below none = let found = there parts graph key below in none-some found.0.object (sym none ∙ found.2)

-- one object more is counted
pub counted_more : (parts : Parts) → IsGraph parts → (key : ℕ) (object : Object) (total : ℕ) → object_at parts.objects key ≡ Some object → key < length parts.objects → total ≡ counted (take key parts.objects) →
    total + nodes_of object.shape ≡ counted (take (key + 1) parts.objects)
counted_more parts graph key object total stands below before =
    let found = there parts graph key below in
    let object_is : found.0.object ≡ object = same_Some _ _ (sym found.2 ∙ stands) in
    ap (λ (n : ℕ). n + nodes_of object.shape) before
    ∙ ap (λ (o : Object). counted (take key parts.objects) + nodes_of o.shape) (sym object_is)
    ∙ sym (sum_by_push (λ (entry : KeyedObject). nodes_of entry.object.shape) (take key parts.objects) found.0)
    ∙ ap counted (sym (take_more parts.objects key found.0 found.1))

-- all are counted
pub counted_all : (parts : Parts) (key total : ℕ) → length parts.objects ≤ key → total ≡ counted (take key parts.objects) → total ≡ nodes parts
counted_all parts key total long is = is ∙ ap counted (take_all parts.objects key long)

pub few_counted : (parts : Parts) (key total : ℕ) → IsGraph parts → total ≡ counted (take key parts.objects) → total < 2 ^ 30
few_counted parts key total graph is =
    let few = ltb-true (nodes parts) (2 ^ 30) (and_left (nat_lt (nodes parts) (2 ^ 30)) (nat_lt (length parts.unequal) (2 ^ 30)) graph.within_limits) in
    let most = sum_by-take-le (λ (entry : KeyedObject). nodes_of entry.object.shape) parts.objects key in omega arith
