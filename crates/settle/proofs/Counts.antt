-- How many items of a list pass a test, and how many segments there are.
use Rattle.std.proofs.Common.{◌≡◌, ℕ, ◌+◌, ◌<◌, ◌≤◌, ◌⊎◌, Bool, true, false, not, cond, List, [], ◌∷◌, ◌++◌, map, length, set, nat_eq, Option, Some, refl, sym, ◌∙◌, ap, inl, inr, arith}
use Rattle.std.specs.Prelude.{sum_by, count_by, is_some, if◌then◌else◌}
use Rattle.std.specs.List.{filter}
use Rattle.std.proofs.lemmas.Bool.{false≢true}
use Rattle.std.proofs.lemmas.List.Sums.{sum_by-cons, sum_by_push, sum_by-set}
use Rattle.std.proofs.lemmas.Option.{same_Some, none-some, get_or_from_slice_get, slice_get_within}
use Rattle.graph.specs.declared.object.Links.{Links}
use Rattle.graph.specs.declared.object.Object.{Object}
use Rattle.graph.specs.declared.object.Shape.{Shape}
use Rattle.graph.specs.declared.object.Shape.TheVariants.{Region as RegionShape, Segment}
use Rattle.graph.specs.declared.value.Value.{Value}
use Rattle.graph.specs.declared.parts.KeyedObject.{KeyedObject}
use Rattle.graph.specs.declared.parts.Parts.{Parts}
use Rattle.graph.specs.Maps.{object_at}
use Rattle.graph.specs.Nodes.{links_in}
use Rattle.graph.specs.Renaming.{renamed_shape, renamed_object, objects_from}
use Rattle.graph.specs.Whole.{IsGraph}
use Rattle.graph.proofs.Found.{IsSome-holds}
use Rattle.changes.specs.Parts.{replaced}
use Rattle.changes.proofs.Appended.{where_found}
use Rattle.changes.proofs.Entries.{replaced_set}
use Rattle.materialise.specs.Dropped.{shape_now, entry_now}
use Rattle.materialise.proofs.SplitRows.{entry_there}

-- a test, as it is counted
abbrev pub ones : Bool → ℕ
ones b = cond b 1 0

-- one of the items
abbrev pub Among : {X : Type 0} → X → List X → Type 0
Among item [] = ⊥
Among item (first ∷ rest) = (first ≡ item) ⊎ Among item rest

module _ {X : Type 0} (one other : X → Bool) (implies : (x : X) → one x ≡ false → other x ≡ false) where
  at_most : (x : X) → ones (other x) ≤ ones (one x)
  at_most x = by_test (one x) refl (other x) refl
    where
      by_test : (b : Bool) → one x ≡ b → (c : Bool) → other x ≡ c → ones c ≤ ones b
      by_test true is true was = omega arith
      by_test true is false was = omega arith
      by_test false is false was = omega arith
      by_test false is true was = absurd (false≢true (sym (implies x is) ∙ was))

  pub count_fewer : (xs : List X) → count_by other xs ≤ count_by one xs
  count_fewer [] = omega arith
  count_fewer (x ∷ xs) =
      let here = at_most x in
      let later = count_fewer xs in
      let more = sum_by-cons (λ (y : X). ones (one y)) x xs in
      let less = sum_by-cons (λ (y : X). ones (other y)) x xs in
      omega arith

  pub count_falls : (xs : List X) (item : X) → Among item xs → one item ≡ true → other item ≡ false → count_by other xs < count_by one xs
  count_falls [] item among is was = absurd among
  count_falls (x ∷ xs) item (inl same) is was =
      let here : ones (one x) ≡ 1 = ap ones (ap one same ∙ is) in
      let gone : ones (other x) ≡ 0 = ap ones (ap other same ∙ was) in
      let later = count_fewer xs in
      let more = sum_by-cons (λ (y : X). ones (one y)) x xs in
      let less = sum_by-cons (λ (y : X). ones (other y)) x xs in
      omega arith
  count_falls (x ∷ xs) item (inr among) is was =
      let here = at_most x in
      let later = count_falls xs item among is was in
      let more = sum_by-cons (λ (y : X). ones (one y)) x xs in
      let less = sum_by-cons (λ (y : X). ones (other y)) x xs in
      omega arith

-- a segment stands there
abbrev pub has_segment : KeyedObject → Bool
has_segment entry = is_some (links_in entry.object.shape)

abbrev pub weight : KeyedObject → ℕ
weight entry = ones (has_segment entry)

now_segment : (now : ℕ → Value) (shape : Shape) → is_some (links_in (shape_now now shape)) ≡ is_some (links_in shape)
now_segment now RegionShape = refl
now_segment now (Segment twofold head next prev back least next_value prev_value node) = refl

-- the segments that are left where one goes
module _ (now : ℕ → Value) (key : ℕ) where
  abbrev left : List KeyedObject → List KeyedObject
  left entries = filter (λ entry. not (nat_eq entry.key key)) (map (entry_now now) entries)

  same_weight : (entry : KeyedObject) → weight (entry_now now entry) ≡ weight entry
  same_weight entry = ap ones (now_segment now entry.object.shape)

  pub left_fewer : (entries : List KeyedObject) → count_by has_segment (left entries) ≤ count_by has_segment entries
  left_fewer [] = omega arith
  left_fewer (first ∷ rest) = by_key (left_fewer rest) (nat_eq first.key key)
    where
      by_key : count_by has_segment (left rest) ≤ count_by has_segment rest → (b : Bool) → count_by has_segment (cond (not b) (entry_now now first ∷ left rest) (left rest)) ≤ count_by has_segment (first ∷ rest)
      by_key later true = let more = sum_by-cons weight first rest in omega arith
      by_key later false =
          let more = sum_by-cons weight first rest in
          let less = sum_by-cons weight (entry_now now first) (left rest) in
          let same = same_weight first in
          omega arith

  pub left_falls : (entries : List KeyedObject) (object : Object) (links : Links) → object_at entries key ≡ Some object → links_in object.shape ≡ Some links → count_by has_segment (left entries) < count_by has_segment entries
  left_falls [] object links stands linked = absurd (none-some object stands)
  left_falls (first ∷ rest) object links stands linked = by_key (λ there. left_falls rest object links there linked) (nat_eq first.key key) stands
    where
      by_key : (object_at rest key ≡ Some object → count_by has_segment (left rest) < count_by has_segment rest) → (b : Bool) → (if b then Some first.object else object_at rest key) ≡ Some object →
          count_by has_segment (cond (not b) (entry_now now first ∷ left rest) (left rest)) < count_by has_segment (first ∷ rest)
      by_key onward true stands =
          let later = left_fewer rest in
          let more = sum_by-cons weight first rest in
          let here : weight first ≡ 1 = ap (λ (o : Object). ones (is_some (links_in o.shape))) (same_Some _ _ stands) ∙ ap (λ (o : Option Links). ones (is_some o)) linked in
          omega arith
      by_key onward false stands =
          let later = onward stands in
          let more = sum_by-cons weight first rest in
          let less = sum_by-cons weight (entry_now now first) (left rest) in
          let same = same_weight first in
          omega arith

-- segments keep their number where keys become places
renamed_segment : (values : ℕ → ℕ) (shape : Shape) → is_some (links_in (renamed_shape values shape)) ≡ is_some (links_in shape)
renamed_segment values RegionShape = refl
renamed_segment values (Segment twofold head next prev back least next_value prev_value node) = refl

pub numbered_segments : (values : ℕ → ℕ) (from : ℕ) (entries : List KeyedObject) →
    count_by has_segment (objects_from from (map (λ (entry : KeyedObject). renamed_object values entry.object) entries)) ≡ count_by has_segment entries
numbered_segments values from [] = refl
numbered_segments values from (first ∷ rest) =
    let later = numbered_segments values (from + 1) rest in
    let more = sum_by-cons weight first rest in
    let less = sum_by-cons weight (record { key = from; object = renamed_object values first.object }) (objects_from (from + 1) (map (λ (entry : KeyedObject). renamed_object values entry.object) rest)) in
    let same : ones (is_some (links_in (renamed_shape values first.object.shape))) ≡ weight first = ap ones (renamed_segment values first.object.shape) in
    omega arith

-- with another object at a key, and a region behind all
pub replaced_weight : (parts : Parts) → IsGraph parts → (key : ℕ) (old new : Object) → object_at parts.objects key ≡ Some old →
    sum_by weight (map (replaced key new) parts.objects) + ones (is_some (links_in old.shape)) ≡ count_by has_segment parts.objects + ones (is_some (links_in new.shape))
replaced_weight parts graph key old new stands =
    let found = where_found (λ (entry : KeyedObject). entry.key) (λ entry. entry.object) parts.objects key (IsSome-holds _ _ stands) in
    let within : found.0 < length parts.objects = slice_get_within parts.objects found.0 found.1 found.2 in
    let object_is : found.1.object ≡ old = same_Some _ _ (sym (entry_there (λ (entry : KeyedObject). entry.key) (λ entry. entry.object) parts.objects graph.keys.objects found.0 found.1 found.2) ∙ ap (object_at parts.objects) found.3 ∙ stands) in
    let there = λ (d : KeyedObject). get_or_from_slice_get parts.objects found.0 found.1 d found.2 in
    ap (λ (objects : List KeyedObject). sum_by weight objects + ones (is_some (links_in old.shape)))
    (sym (replaced_set parts.objects found.0 key new graph.ascending.objects within (λ d. ap (λ (e : KeyedObject). e.key) (there d) ∙ found.3)))
    ∙ ap (λ (o : Object). sum_by weight (set parts.objects found.0 (let e : KeyedObject = record { key = key; object = new } in e)) + ones (is_some (links_in o.shape))) (sym object_is)
    ∙ ap (λ (e : KeyedObject). sum_by weight (set parts.objects found.0 (let e : KeyedObject = record { key = key; object = new } in e)) + weight e) (sym (there found.1))
    ∙ sum_by-set weight parts.objects found.0 (let e : KeyedObject = record { key = key; object = new } in e) found.1 within

pub split_segments : (parts : Parts) → IsGraph parts → (key : ℕ) (old new : Object) (region : KeyedObject) → object_at parts.objects key ≡ Some old →
    is_some (links_in old.shape) ≡ true → is_some (links_in new.shape) ≡ true → is_some (links_in region.object.shape) ≡ false →
    count_by has_segment (map (replaced key new) parts.objects ++ region ∷ []) ≡ count_by has_segment parts.objects
split_segments parts graph key old new region stands was is none =
    let one : ones (is_some (links_in old.shape)) ≡ 1 = ap ones was in
    let other : ones (is_some (links_in new.shape)) ≡ 1 = ap ones is in
    let nothing : weight region ≡ 0 = ap ones none in
    let all = replaced_weight parts graph key old new stands in
    let more = sum_by_push weight (map (replaced key new) parts.objects) region in
    omega arith
