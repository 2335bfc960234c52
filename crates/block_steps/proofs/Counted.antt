-- How many nodes the first objects of a graph have.
use Rattle.std.proofs.Common.{◌≡◌, ℕ, zero, suc, ◌+◌, ◌^◌, ◌<◌, ◌≤◌, List, [], ◌∷◌, ◌++◌, length, take, nat_lt, Some, refl, sym, ◌∙◌, ap, ltb-true, arith}
use Rattle.std.specs.Prelude.{sum_by, slice_get}
use Rattle.std.proofs.lemmas.List.Sums.{sum_by_push, sum_by-take-le}
use Rattle.std.proofs.lemmas.Option.{same_Some, none-some}
use Rattle.graph.specs.declared.object.Object.{Object}
use Rattle.graph.specs.declared.parts.KeyedObject.{KeyedObject}
use Rattle.graph.specs.declared.parts.Parts.{Parts}
use Rattle.graph.specs.Maps.{object_at}
use Rattle.graph.specs.WellFormed.{nodes_of, nodes}
use Rattle.graph.specs.Whole.{IsGraph}
use Rattle.graph.proofs.Tests.{and_left}
use Rattle.heap_steps.proofs.Listed.{get_within}
use Rattle.heap_steps.proofs.Loses.{object_there}

abbrev pub counted : List KeyedObject → ℕ
counted objects = sum_by (λ (entry : KeyedObject). nodes_of entry.object.shape) objects

take_more : {X : Type 0} (xs : List X) (place : ℕ) (x : X) → slice_get xs place ≡ Some x → take (place + 1) xs ≡ take place xs ++ x ∷ []
take_more [] place x is = absurd (none-some x is)
take_more (first ∷ rest) zero x is = ap (λ (y : _). y ∷ []) (same_Some first x is)
take_more (first ∷ rest) (suc place) x is = let sum : suc place + 1 ≡ suc (place + 1) = omega arith in ap (λ (n : ℕ). take n (first ∷ rest)) sum ∙ ap (λ (ys : List _). first ∷ ys) (take_more rest place x is)

take_all : {X : Type 0} (xs : List X) (count : ℕ) → length xs ≤ count → take count xs ≡ xs
take_all [] zero long = refl
take_all [] (suc count) long = refl
take_all (first ∷ rest) zero long = absurd (omega arith)
take_all (first ∷ rest) (suc count) long = ap (λ (ys : List _). first ∷ ys) (take_all rest count (omega arith))

-- one object more is counted
pub counted_more : (parts : Parts) → IsGraph parts → (key : ℕ) (object : Object) (total : ℕ) → object_at parts.objects key ≡ Some object → key < length parts.objects → total ≡ counted (take key parts.objects) →
    total + nodes_of object.shape ≡ counted (take (key + 1) parts.objects)
counted_more parts graph key object total stands below before =
    let found = get_within parts.objects key below in
    let key_is : found.0.key ≡ key = graph.keys.objects key found.0 found.1 in
    let object_is : found.0.object ≡ object = same_Some _ _ (sym (object_there parts graph key found.0 found.1) ∙ ap (object_at parts.objects) key_is ∙ stands) in
    ap (λ (n : ℕ). n + nodes_of object.shape) before
    ∙ ap (λ (o : Object). counted (take key parts.objects) + nodes_of o.shape) (sym object_is)
    ∙ sym (sum_by_push (λ (entry : KeyedObject). nodes_of entry.object.shape) (take key parts.objects) found.0)
    ∙ ap counted (sym (take_more parts.objects key found.0 found.1))

-- all are counted
pub counted_all : (parts : Parts) (key total : ℕ) → length parts.objects ≤ key → total ≡ counted (take key parts.objects) → total ≡ nodes parts
counted_all parts key total long is = is ∙ ap counted (take_all parts.objects key long)

pub few_counted : (parts : Parts) (key total : ℕ) → IsGraph parts → total ≡ counted (take key parts.objects) → total < 2 ^ 30
few_counted parts key total graph is =
    let few = ltb-true (nodes parts) (2 ^ 30) (and_left (nat_lt (nodes parts) (2 ^ 30)) (nat_lt (length parts.unequal) (2 ^ 30)) graph.within_limits) in
    let most = sum_by-take-le (λ (entry : KeyedObject). nodes_of entry.object.shape) parts.objects key in omega arith
