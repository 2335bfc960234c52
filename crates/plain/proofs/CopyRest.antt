-- Beside the range of a copy the moved edges hold no byte; in it they hold each byte that may be part of a pointer, and are sure, where those of the source do and are.
use Rattle.std.proofs.Common.{◌≡◌, ℕ, zero, suc, ◌+◌, ◌-◌, ◌<◌, ◌≤◌, Bool, true, false, not, ◌&&◌, ◌||◌, List, [], ◌∷◌, map, take, drop, get_or, nat_lt, nat_le, ◌⊎◌, inl, inr, refl, sym, ◌∙◌, ap, leb-true, arith}
use Rattle.std.specs.List.{filter, list_all}
use Rattle.std.proofs.lemmas.Bool.{false≢true}
use Rattle.std.proofs.lemmas.List.{get_or-take, get_or-drop}
use Rattle.graph.specs.declared.edges.HasValue.{HasValue}
use Rattle.graph.specs.declared.parts.Parts.{Parts}
use Rattle.graph.specs.Choices.{is_free}
use Rattle.graph.specs.WellFormed.{passes_at}
use Rattle.graph.proofs.Tests.{and_left, and_right, and_both}
use Rattle.changes.specs.Ranges.{is_inside, cuts_none}
use Rattle.changes.proofs.RangeForm.{all_filtered, all_kept}
use Rattle.range_steps.specs.Copying.{moved_edge, moved_edges, has_bare_byte}
use Rattle.plain.specs.Marks.{Mark, Unwritten, Zeroed, Piece, is_in_range, moved_mark}
use Rattle.plain.specs.Shown.{is_sure, bare_mark, mark_in}
use Rattle.plain.proofs.CopyMarks.{inside_low, copied_within}
use Rattle.plain.proofs.Ranges.{range_low, range_high, range_out, range_not, mark_free, is_piece, free_is}

-- Beside the range.

free_beside : (from count at place : ℕ) → is_in_range at count place ≡ false → (edges : List HasValue) → list_all (is_inside from count) edges ≡ true → is_free (map (moved_edge from at) edges) place ≡ true
free_beside from count at place out [] all = refl
free_beside from count at place out (edge ∷ rest) all =
    and_both (not (is_in_range (at + (edge.at - from)) edge.size place)) (is_free (map (moved_edge from at) rest) place)
    (ap not (range_not (at + (edge.at - from)) edge.size place (by_side (range_out at count place out))))
    (free_beside from count at place out rest (and_right (is_inside from count edge) (list_all (is_inside from count) rest) all))
  where
    inside : is_inside from count edge ≡ true
    inside = and_left (is_inside from count edge) (list_all (is_inside from count) rest) all

    low : from ≤ edge.at
    low = inside_low from count edge inside

    high : edge.at + edge.size ≤ from + count
    high = leb-true _ _ (and_right (nat_le from edge.at) (nat_le (edge.at + edge.size) (from + count)) inside)

    by_side : (place < at) ⊎ (at + count ≤ place) → (place < at + (edge.at - from)) ⊎ (at + (edge.at - from) + edge.size ≤ place)
    by_side (inl below) = inl (omega arith)
    by_side (inr above) = inr (let a = low in let b = high in omega arith)

pub copied_beside : (source : List HasValue) (from count at place : ℕ) → is_in_range at count place ≡ false → is_free (moved_edges source from count at) place ≡ true
copied_beside source from count at place out = free_beside from count at place out (filter (is_inside from count) source) (all_filtered (is_inside from count) source)

-- In the range.

pub copied_class : (plane : List ℕ) (from count at place : ℕ) → is_in_range at count place ≡ true → get_or (take count (drop from plane)) (place - at) 0 ≡ get_or plane (from + (place - at)) 0
copied_class plane from count at place here =
    get_or-take count (drop from plane) (place - at) 0 (let a = range_low at count place here in let b = range_high at count place here in omega arith) ∙ get_or-drop from plane (place - at) 0

moved_piece : (from at : ℕ) (mark : Mark) → is_piece (moved_mark from at mark) ≡ is_piece mark
moved_piece from at Unwritten = refl
moved_piece from at Zeroed = refl
moved_piece from at (Piece place size) = refl

copied_free : (source : List HasValue) (from count at place : ℕ) → cuts_none from count source ≡ true → is_in_range at count place ≡ true → is_free (moved_edges source from count at) place ≡ is_free source (from + (place - at))
copied_free source from count at place cuts here =
    free_is (moved_edges source from count at) place
    ∙ ap (λ (m : Mark). not (is_piece m)) (copied_within source from count at place 0 cuts here)
    ∙ ap not (moved_piece from at (mark_in source (from + (place - at)) Zeroed))
    ∙ sym (free_is source (from + (place - at)))

pub copied_tight : (source : List HasValue) (plane : List ℕ) (from count at place : ℕ) → cuts_none from count source ≡ true → is_in_range at count place ≡ true →
    (nat_lt 1 (get_or plane (from + (place - at)) 0) && is_free source (from + (place - at))) ≡ false → (nat_lt 1 (get_or (take count (drop from plane)) (place - at) 0) && is_free (moved_edges source from count at) place) ≡ false
copied_tight source plane from count at place cuts here tight =
    ap (λ (class : ℕ). nat_lt 1 class && is_free (moved_edges source from count at) place) (copied_class plane from count at place here)
    ∙ ap (λ (b : Bool). nat_lt 1 (get_or plane (from + (place - at)) 0) && b) (copied_free source from count at place cuts here)
    ∙ tight

sure_moved : (parts : Parts) (from at : ℕ) (edges : List HasValue) → list_all (λ (edge : HasValue). passes_at parts is_sure edge.value) edges ≡ true →
    list_all (λ (edge : HasValue). passes_at parts is_sure edge.value) (map (moved_edge from at) edges) ≡ true
sure_moved parts from at [] all = refl
sure_moved parts from at (edge ∷ rest) all =
    and_both (passes_at parts is_sure edge.value) (list_all (λ (edge : HasValue). passes_at parts is_sure edge.value) (map (moved_edge from at) rest))
    (and_left (passes_at parts is_sure edge.value) (list_all (λ (edge : HasValue). passes_at parts is_sure edge.value) rest) all)
    (sure_moved parts from at rest (and_right (passes_at parts is_sure edge.value) (list_all (λ (edge : HasValue). passes_at parts is_sure edge.value) rest) all))

pub copied_sure : (parts : Parts) (source : List HasValue) (from count at : ℕ) → list_all (λ (edge : HasValue). passes_at parts is_sure edge.value) source ≡ true →
    list_all (λ (edge : HasValue). passes_at parts is_sure edge.value) (moved_edges source from count at) ≡ true
copied_sure parts source from count at all =
    sure_moved parts from at (filter (is_inside from count) source)
    (all_kept (is_inside from count) (λ (edge : HasValue). passes_at parts is_sure edge.value) (λ edge. passes_at parts is_sure edge.value) (λ edge kept has. has) source all)

-- Where all bytes are written, each that may be other than 0 lies in an edge.

bare_unwritten : (class : ℕ) → nat_lt 0 class ≡ true → bare_mark class ≡ Unwritten
bare_unwritten zero is = absurd (false≢true is)
bare_unwritten (suc class) is = refl

pub none_bare : (edges : List HasValue) (plane : List ℕ) (from count : ℕ) → ((place : ℕ) → from ≤ place → place < from + count → mark_in edges place (bare_mark (get_or plane place 0)) ≡ Unwritten → ⊥) →
    has_bare_byte edges plane from count ≡ false
none_bare edges plane from zero written = refl
none_bare edges plane from (suc count) written =
    by_tests (nat_lt 0 (get_or plane from 0)) refl (is_free edges from) refl
    ∙ none_bare edges plane (from + 1) count (λ place low high is. written place (omega arith) (omega arith) is)
  where
    by_tests : (a : Bool) → nat_lt 0 (get_or plane from 0) ≡ a → (b : Bool) → is_free edges from ≡ b → ((a && b) || has_bare_byte edges plane (from + 1) count) ≡ has_bare_byte edges plane (from + 1) count
    by_tests false a_is b b_is = refl
    by_tests true a_is false b_is = refl
    by_tests true a_is true b_is = absurd (written from (omega arith) (omega arith) (mark_free edges from (bare_mark (get_or plane from 0)) b_is ∙ bare_unwritten (get_or plane from 0) a_is))
