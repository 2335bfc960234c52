-- Places that are marked one behind the other.
use Rattle.std.proofs.Common.{◌≡◌, ℕ, zero, suc, ◌<◌, Bool, true, false, List, [], ◌∷◌, ◌++◌, length, nat_eq, refl, sym, ap, ◌∙◌, subst, eqb-true, append_assoc, append-nil, arith}
use Rattle.std.specs.Prelude.{Contains, if◌then◌else◌}
use Rattle.graph.specs.declared.edges.HasValue.{HasValue}
use Rattle.graph.specs.declared.object.Shape.{Shape}
use Rattle.graph.specs.declared.object.Shape.TheVariants.{Segment}
use Rattle.graph.specs.declared.template.Node.{Node}
use Rattle.graph.specs.declared.parts.Parts.{Parts}
use Rattle.graph.specs.Maps.{value_at}
use Rattle.heap_steps.specs.Ends.{value_places, places_of, edge_values, values_behind}
use Rattle.bytes_core.specs.Marking.{Marking, is_marked, with_mark, with_marks, AreMarks}

pub marked_behind : (state : Marking) (front back : List ℕ) → with_marks (with_marks state front) back ≡ with_marks state (front ++ back)
marked_behind state [] back = refl
marked_behind state (first ∷ front) back = marked_behind (with_mark state first) front back

-- the places of a first value, and then others
pub marked_first : (state : Marking) (first rest : List ℕ) → with_marks state (first ++ rest) ≡ with_marks (with_marks state first) rest
marked_first state first rest = sym (marked_behind state first rest)

-- a place that waits is inside
pub waits_inside : (count : ℕ) (first : List ℕ) (next : ℕ → List ℕ) (state : Marking) (place : ℕ) → AreMarks count first next state → Contains state.waiting place → place < count
waits_inside count first next state place are there = subst (λ (n : ℕ). place < n) are.size (inside state.marks place (are.marked place there))
  where
    inside : (marks : List Bool) (place : ℕ) → is_marked marks place ≡ true → place < length marks
    inside [] place is = absurd (let clash : false ≡ true = is in cc)
    inside (mark ∷ marks) zero is = omega arith
    inside (mark ∷ marks) (suc place) is = let below = inside marks place is in omega arith

-- the places of values, one behind the other
places_append : (parts : Parts) (front back : List ℕ) → places_of parts (front ++ back) ≡ places_of parts front ++ places_of parts back
places_append parts [] back = refl
places_append parts (value ∷ front) back =
    ap (λ (places : List ℕ). value_places (length parts.objects) (value_at parts.values value) ++ places) (places_append parts front back)
    ∙ sym (append_assoc (value_places (length parts.objects) (value_at parts.values value)) (places_of parts front) (places_of parts back))

-- what the nodes of a segment hold, and what lies beyond its ends
pub behind_nodes : (parts : Parts) (shape : Shape) (own : Node) (last twofold : Bool) (head next prev back least next_value prev_value : ℕ) (node : Node) → shape ≡ Segment twofold head next prev back least next_value prev_value node → (least ≡ 0 → ⊥) →
    (edges : List HasValue) → edges ≡ node.edges → (start one two three : Marking) →
    one ≡ with_marks start (places_of parts (edge_values edges)) →
    two ≡ with_marks one (value_places (length parts.objects) (value_at parts.values next_value)) →
    three ≡ with_marks two (value_places (length parts.objects) (value_at parts.values prev_value)) →
    three ≡ with_marks start (places_of parts (values_behind shape own last))
behind_nodes parts shape own last twofold head next prev back least next_value prev_value node segment some edges edges_are start one two three first second third =
    third
    ∙ ap (λ (state : Marking). with_marks state (value_places (length parts.objects) (value_at parts.values prev_value))) second
    ∙ marked_behind one (value_places (length parts.objects) (value_at parts.values next_value)) (value_places (length parts.objects) (value_at parts.values prev_value))
    ∙ ap (λ (places : List ℕ). with_marks one (value_places (length parts.objects) (value_at parts.values next_value) ++ places)) (sym (append-nil (value_places (length parts.objects) (value_at parts.values prev_value))))
    ∙ ap (λ (state : Marking). with_marks state (places_of parts (next_value ∷ prev_value ∷ []))) (first ∙ ap (λ (es : List HasValue). with_marks start (places_of parts (edge_values es))) edges_are)
    ∙ marked_behind start (places_of parts (edge_values node.edges)) (places_of parts (next_value ∷ prev_value ∷ []))
    ∙ ap (with_marks start) (sym (places_append parts (edge_values node.edges) (next_value ∷ prev_value ∷ [])))
    ∙ ap (λ (values : List ℕ). with_marks start (places_of parts values)) (sym held)
  where
    nonzero : (b : Bool) → nat_eq least 0 ≡ b → nat_eq least 0 ≡ false
    nonzero true is = absurd (some (eqb-true least 0 is))
    nonzero false is = is

    held : values_behind shape own last ≡ edge_values node.edges ++ next_value ∷ prev_value ∷ []
    held =
        ap (λ (s : Shape). values_behind s own last) segment
        ∙ ap (λ (b : Bool). if b then (if last then prev_value else next_value) ∷ [] else edge_values node.edges ++ next_value ∷ prev_value ∷ []) (nonzero (nat_eq least 0) refl)
