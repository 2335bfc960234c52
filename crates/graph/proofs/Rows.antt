-- The blocks of a state that is made of a graph: first one for each object, and behind these the further nodes of its segments.
use Rattle.std.proofs.Common.{◌≡◌, ℕ, zero, suc, ◌+◌, ◌-◌, ◌<◌, ◌≤◌, Bool, true, false, List, [], ◌∷◌, ◌++◌, length, nat_lt, Some, refl, sym, ◌∙◌, ap, ltb-true, arith}
use Rattle.std.specs.Prelude.{slice_get, if◌then◌else◌}
use Rattle.std.proofs.lemmas.Bool.{false≢true, lt-ltb, le-ltb}
use Rattle.std.proofs.lemmas.Option.{same_Some, none-some}
use Rattle.graph.specs.declared.object.Object.{Object}
use Rattle.graph.specs.declared.object.Shape.{Shape}
use Rattle.graph.specs.declared.object.Shape.TheVariants.{Region, Segment}
use Rattle.graph.specs.WellFormed.{nodes_of}

-- Lists.

pub get-front : {X : Type 0} (xs ys : List X) (i : ℕ) → i < length xs → slice_get (xs ++ ys) i ≡ slice_get xs i
get-front [] ys i within = absurd (omega arith)
get-front (x ∷ xs) ys zero within = refl
get-front (x ∷ xs) ys (suc i) within = get-front xs ys i (omega arith)

pub get-behind : {X : Type 0} (xs ys : List X) (i : ℕ) → slice_get (xs ++ ys) (length xs + i) ≡ slice_get ys i
get-behind [] ys i = ap (slice_get ys) (let e : 0 + i ≡ i = omega arith in e)
get-behind {X} (x ∷ xs) ys i =
    let more : suc (length xs) + i ≡ suc (length xs + i) = omega arith in
    ap (slice_get (x ∷ (xs ++ ys))) more ∙ get-behind xs ys i

pub length-both : {X : Type 0} (xs ys : List X) → length (xs ++ ys) ≡ length xs + length ys
length-both [] ys = omega arith
length-both (x ∷ xs) ys = let later = length-both xs ys in omega arith

-- numbers that go up by one
abbrev pub row : ℕ → ℕ → List ℕ
row from zero = []
row from (suc count) = from ∷ row (suc from) count

pub length-row : (from count : ℕ) → length (row from count) ≡ count
length-row from zero = refl
length-row from (suc count) = ap suc (length-row (suc from) count)

pub row-get : (from count place number : ℕ) → slice_get (row from count) place ≡ Some number → (place < count) × (number ≡ from + place)
row-get from zero place number is = absurd (none-some number is)
row-get from (suc count) zero number is = let same : from ≡ number = same_Some _ _ is in (omega arith, omega arith)
row-get from (suc count) (suc place) number is = let later = row-get (suc from) count place number is in let below = later.0 in let same = later.1 in (omega arith, omega arith)

pub get-row : (from count place : ℕ) → place < count → slice_get (row from count) place ≡ Some (from + place)
get-row from zero place below = absurd (omega arith)
get-row from (suc count) zero below = ap Some (let e : from ≡ from + 0 = omega arith in e)
get-row from (suc count) (suc place) below = get-row (suc from) count place (omega arith) ∙ ap Some (let e : suc from + place ≡ from + suc place = omega arith in e)

-- Further nodes.

-- how many nodes a segment of least length has beside the first
abbrev pub further : Shape → ℕ
further Region = 0
further (Segment twofold head next prev back least next_value prev_value node) = least - 1

abbrev pub extra : Object → ℕ
extra object = further object.shape

abbrev pub copies : ℕ → Object → List Object
copies zero object = []
copies (suc count) object = object ∷ copies count object

-- the object of each further node
abbrev pub extras : List Object → List Object
extras [] = []
extras (object ∷ rest) = copies (extra object) object ++ extras rest

-- how many further nodes stand before those of the object at a place
abbrev pub before : List Object → ℕ → ℕ
before [] key = 0
before (object ∷ rest) zero = 0
before (object ∷ rest) (suc key) = extra object + before rest key

-- the place of the object of a further node, and its place among the nodes
abbrev pub key_at : List Object → ℕ → ℕ
key_at [] i = 0
key_at (object ∷ rest) i = if nat_lt i (extra object) then 0 else suc (key_at rest (i - extra object))

abbrev pub place_at : List Object → ℕ → ℕ
place_at [] i = 0
place_at (object ∷ rest) i = if nat_lt i (extra object) then suc i else place_at rest (i - extra object)

pub length-copies : (count : ℕ) (object : Object) → length (copies count object) ≡ count
length-copies zero object = refl
length-copies (suc count) object = ap suc (length-copies count object)

get-copies : (count : ℕ) (object : Object) (i : ℕ) → i < count → slice_get (copies count object) i ≡ Some object
get-copies zero object i below = absurd (omega arith)
get-copies (suc count) object zero below = refl
get-copies (suc count) object (suc i) below = get-copies count object i (omega arith)

-- the object at a place, and one of its further nodes
pub key_at-is : (os : List Object) (key j : ℕ) (object : Object) → slice_get os key ≡ Some object → j < extra object → key_at os (before os key + j) ≡ key
key_at-is [] key j object is below = absurd (none-some object is)
key_at-is (first ∷ rest) zero j object is below =
    let same : first ≡ object = same_Some _ _ is in
    let within : 0 + j < extra first = let e : extra first ≡ extra object = ap extra same in omega arith in
    ap (λ (b : Bool). if b then 0 else suc (key_at rest (0 + j - extra first))) (lt-ltb (0 + j) (extra first) within)
key_at-is (first ∷ rest) (suc key) j object is below =
    let past : extra first ≤ extra first + before rest key + j = omega arith in
    let left : extra first + before rest key + j - extra first ≡ before rest key + j = omega arith in
    ap (λ (b : Bool). if b then 0 else suc (key_at rest (extra first + before rest key + j - extra first))) (le-ltb (extra first + before rest key + j) (extra first) past)
    ∙ ap (λ (n : ℕ). suc (key_at rest n)) left ∙ ap suc (key_at-is rest key j object is below)

pub place_at-is : (os : List Object) (key j : ℕ) (object : Object) → slice_get os key ≡ Some object → j < extra object → place_at os (before os key + j) ≡ suc j
place_at-is [] key j object is below = absurd (none-some object is)
place_at-is (first ∷ rest) zero j object is below =
    let same : first ≡ object = same_Some _ _ is in
    let within : 0 + j < extra first = let e : extra first ≡ extra object = ap extra same in omega arith in
    ap (λ (b : Bool). if b then suc (0 + j) else place_at rest (0 + j - extra first)) (lt-ltb (0 + j) (extra first) within)
    ∙ ap suc (let e : 0 + j ≡ j = omega arith in e)
place_at-is (first ∷ rest) (suc key) j object is below =
    let past : extra first ≤ extra first + before rest key + j = omega arith in
    let left : extra first + before rest key + j - extra first ≡ before rest key + j = omega arith in
    ap (λ (b : Bool). if b then suc (extra first + before rest key + j) else place_at rest (extra first + before rest key + j - extra first)) (le-ltb (extra first + before rest key + j) (extra first) past)
    ∙ ap (place_at rest) left ∙ place_at-is rest key j object is below

pub extras-get : (os : List Object) (key j : ℕ) (object : Object) → slice_get os key ≡ Some object → j < extra object → slice_get (extras os) (before os key + j) ≡ Some object
extras-get [] key j object is below = absurd (none-some object is)
extras-get (first ∷ rest) zero j object is below =
    let same : first ≡ object = same_Some _ _ is in
    let within : j < extra first = let e : extra first ≡ extra object = ap extra same in omega arith in
    let long : length (copies (extra first) first) ≡ extra first = length-copies (extra first) first in
    ap (slice_get (copies (extra first) first ++ extras rest)) (let e : 0 + j ≡ j = omega arith in e)
    ∙ get-front (copies (extra first) first) (extras rest) j (omega arith)
    ∙ get-copies (extra first) first j within ∙ ap Some same
extras-get (first ∷ rest) (suc key) j object is below =
    let long : length (copies (extra first) first) ≡ extra first = length-copies (extra first) first in
    let place : extra first + before rest key + j ≡ length (copies (extra first) first) + (before rest key + j) = omega arith in
    ap (slice_get (copies (extra first) first ++ extras rest)) place
    ∙ get-behind (copies (extra first) first) (extras rest) (before rest key + j)
    ∙ extras-get rest key j object is below

-- a further node is one of an object
pub record IsFurther (os : List Object) (i : ℕ) : Type 0 where
  pub key : ℕ
  pub object : Object
  pub j : ℕ
  pub at : slice_get os key ≡ Some object
  pub below : j < extra object
  pub is : before os key + j ≡ i

pub is_further : (os : List Object) (i : ℕ) → i < length (extras os) → IsFurther os i
is_further [] i within = absurd (omega arith)
is_further (first ∷ rest) i within = by_test (nat_lt i (extra first)) refl (λ later. is_further rest (i - extra first) later)
  where
    long : length (copies (extra first) first ++ extras rest) ≡ extra first + length (extras rest)
    long = length-both (copies (extra first) first) (extras rest) ∙ ap (λ (n : ℕ). n + length (extras rest)) (length-copies (extra first) first)

    by_test : (b : Bool) → nat_lt i (extra first) ≡ b → (i - extra first < length (extras rest) → IsFurther rest (i - extra first)) → IsFurther (first ∷ rest) i
    by_test true is in_rest = record { key = 0; object = first; j = i; at = refl; below = ltb-true i (extra first) is; is = (let e : 0 + i ≡ i = omega arith in e) }
    by_test false is in_rest =
        let past : extra first ≤ i = not_below (extra first) i is in
        let found = in_rest (let l = long in omega arith) in
        record { key = suc found.key; object = found.object; j = found.j; at = found.at; below = found.below; is = (let e = found.is in omega arith) }
      where
        not_below : (bound n : ℕ) → nat_lt n bound ≡ false → bound ≤ n
        not_below bound n is = by_cases (bound_or bound n)
          where
            bound_or : (bound n : ℕ) → (n < bound → ⊥) → bound ≤ n
            bound_or bound n never = omega arith

            by_cases : ((n < bound → ⊥) → bound ≤ n) → bound ≤ n
            by_cases from = from (λ below. false≢true (sym is ∙ lt-ltb n bound below))

-- how many nodes there are in all
pub nodes_of-further : (shape : Shape) → nodes_of shape ≡ suc (further shape)
nodes_of-further Region = refl
nodes_of-further (Segment twofold head next prev back zero next_value prev_value node) = refl
nodes_of-further (Segment twofold head next prev back (suc least) next_value prev_value node) = omega arith
