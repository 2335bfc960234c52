-- A range of a list of classes.
use Rattle.std.proofs.Common.{◌≡◌, ℕ, ◌+◌, ◌-◌, ◌≤◌, max, List, [], ◌∷◌, ◌++◌, length, take, drop, ap, ◌∙◌, sym, arith, length-append, length-drop, eq-eqb, eqb-true, eqb}
use Rattle.std.specs.Prelude.{All, IsTrue, ◌↔◌}
use Rattle.std.proofs.lemmas.List.{length-take, take_all}
use Rattle.std.proofs.lemmas.List.Elements.{All-nil, All-cons, All-head, All-tail, All-append, All-take, All-drop}
use Rattle.planes.specs.Classes.{IsClass, highest}
use Rattle.planes.specs.Lanes.{low_front, same_front}
use Rattle.planes.proofs.Fronts.{all_low, all_same}

-- a range that is written over
pub changed_classes : (from count : ℕ) (xs mid : List ℕ) → All IsClass xs → All IsClass mid → All IsClass (take from xs ++ (mid ++ drop count (drop from xs)))
changed_classes from count xs mid all changed =
    All-append IsClass (take from xs) (mid ++ drop count (drop from xs))
    (All-take IsClass from xs all)
    (All-append IsClass mid (drop count (drop from xs)) changed (All-drop IsClass count (drop from xs) (All-drop IsClass from xs all)))

pub changed_length : (from count : ℕ) (xs mid : List ℕ) → length mid ≡ count → from + count ≤ length xs → length (take from xs ++ (mid ++ drop count (drop from xs))) ≡ length xs
changed_length from count xs mid long within = simp (length-append, length-take, length-drop) (omega arith)

pub highest_classes : (xs ys : List ℕ) → All IsClass xs → All IsClass ys → All IsClass (highest xs ys)
highest_classes [] ys all others = All-nil IsClass
highest_classes (x ∷ xs) [] all others = All-nil IsClass
highest_classes (x ∷ xs) (y ∷ ys) all others =
    let left : IsClass x = All-head IsClass x xs all in
    let right : IsClass y = All-head IsClass y ys others in
    All-cons IsClass (max x y) (highest xs ys) (omega arith) (highest_classes xs ys (All-tail IsClass x xs all) (All-tail IsClass y ys others))

-- what is counted in a range of a list is counted in that of the same list
range_same : (f : List ℕ → ℕ) (from count found : ℕ) (xs ys : List ℕ) → found ≡ f (take (from + count - from) (drop from xs)) → xs ≡ ys → found ≡ f (take count (drop from ys))
range_same f from count found xs ys is same =
    let all : from + count - from ≡ count = omega arith in
    is ∙ ap (λ n. f (take n (drop from xs))) all ∙ ap (λ zs. f (take count (drop from zs))) same

range_long : (from count : ℕ) (ys : List ℕ) → from + count ≤ length ys → length (take count (drop from ys)) ≡ count
range_long from count ys within = simp (length-take, length-drop) (omega arith)

pub range_low : (class from count found : ℕ) (xs ys : List ℕ) → found ≡ low_front class (take (from + count - from) (drop from xs)) → xs ≡ ys → from + count ≤ length ys → IsTrue (eqb found count) ↔ All (λ other. other ≤ class) (take count (drop from ys))
range_low class from count found xs ys is same within =
    let here = range_same (low_front class) from count found xs ys is same in
    let long = range_long from count ys within in
    let both = all_low class (take count (drop from ys)) in
    (λ equal. both.0 (sym here ∙ eqb-true found count equal ∙ sym long), λ all. eq-eqb found count (here ∙ both.1 all ∙ long))

pub range_class : (class from count found : ℕ) (xs ys : List ℕ) → found ≡ same_front class (take (from + count - from) (drop from xs)) → xs ≡ ys → from + count ≤ length ys → IsTrue (eqb found count) ↔ All (λ other. other ≡ class) (take count (drop from ys))
range_class class from count found xs ys is same within =
    let here = range_same (same_front class) from count found xs ys is same in
    let long = range_long from count ys within in
    let both = all_same class (take count (drop from ys)) in
    (λ equal. both.0 (sym here ∙ eqb-true found count equal ∙ sym long), λ all. eq-eqb found count (here ∙ both.1 all ∙ long))

pub rest_low : (class from found : ℕ) (xs ys : List ℕ) → found ≡ low_front class (take (length xs - from) (drop from xs)) → xs ≡ ys → found ≡ low_front class (drop from ys)
rest_low class from found xs ys is same =
    is ∙ ap (low_front class) (take_all (length xs - from) (drop from xs) (omega (arith, length-drop from xs))) ∙ ap (λ zs. low_front class (drop from zs)) same
