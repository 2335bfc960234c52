-- The marks that the edges of a range give, once they are moved to another range.
use Rattle.std.proofs.Common.{◌≡◌, ℕ, zero, suc, ◌+◌, ◌-◌, ◌<◌, ◌≤◌, Bool, true, false, ◌||◌, List, [], ◌∷◌, map, nat_le, ◌⊎◌, inl, inr, refl, sym, ◌∙◌, ap, leb-true, arith}
use Rattle.std.specs.Prelude.{if◌then◌else◌}
use Rattle.std.specs.List.{filter, list_all}
use Rattle.graph.specs.declared.edges.HasValue.{HasValue}
use Rattle.graph.proofs.Tests.{and_left, and_right}
use Rattle.changes.specs.Ranges.{is_beside, is_inside, cuts_none}
use Rattle.changes.proofs.Node.{beside_either}
use Rattle.changes.proofs.RangeForm.{all_filtered}
use Rattle.range_steps.specs.Copying.{moved_edge, moved_edges}
use Rattle.plain.specs.Marks.{Mark, Piece, is_in_range, moved_mark}
use Rattle.plain.specs.Shown.{bare_mark, mark_in}
use Rattle.plain.proofs.Ranges.{range_low, range_high, range_is, range_out, range_not, mark_kept}

pub inside_low : (from count : ℕ) (edge : HasValue) → is_inside from count edge ≡ true → from ≤ edge.at
inside_low from count edge is = leb-true _ _ (and_left (nat_le from edge.at) (nat_le (edge.at + edge.size) (from + count)) is)

-- a byte lies in a moved edge just where the one as far behind lies in the edge
range_same : (from at place edge_at size : ℕ) → from ≤ edge_at → at ≤ place → is_in_range (at + (edge_at - from)) size place ≡ is_in_range edge_at size (from + (place - at))
range_same from at place edge_at size low here = by_test (is_in_range edge_at size (from + (place - at))) refl
  where
    by_test : (b : Bool) → is_in_range edge_at size (from + (place - at)) ≡ b → is_in_range (at + (edge_at - from)) size place ≡ is_in_range edge_at size (from + (place - at))
    by_test true is =
        range_is (at + (edge_at - from)) size place (let a = range_low edge_at size (from + (place - at)) is in omega arith) (let b = range_high edge_at size (from + (place - at)) is in omega arith) ∙ sym is
    by_test false is = range_not (at + (edge_at - from)) size place (out (range_out edge_at size (from + (place - at)) is)) ∙ sym is
      where
        out : (from + (place - at) < edge_at) ⊎ (edge_at + size ≤ from + (place - at)) → (place < at + (edge_at - from)) ⊎ (at + (edge_at - from) + size ≤ place)
        out (inl below) = inl (omega arith)
        out (inr above) = inr (omega arith)

mark_moved : (from count at place : ℕ) → at ≤ place → (edges : List HasValue) → list_all (is_inside from count) edges ≡ true → (bare : Mark) →
    mark_in (map (moved_edge from at) edges) place (moved_mark from at bare) ≡ moved_mark from at (mark_in edges (from + (place - at)) bare)
mark_moved from count at place here [] all bare = refl
mark_moved from count at place here (edge ∷ rest) all bare =
    ap (λ (b : Bool). if b then Piece (at + (edge.at - from)) edge.size else mark_in (map (moved_edge from at) rest) place (moved_mark from at bare))
    (range_same from at place edge.at edge.size (inside_low from count edge (and_left (is_inside from count edge) (list_all (is_inside from count) rest) all)) here)
    ∙ by_test (is_in_range edge.at edge.size (from + (place - at))) (mark_moved from count at place here rest (and_right (is_inside from count edge) (list_all (is_inside from count) rest) all) bare)
  where
    by_test : (b : Bool) → mark_in (map (moved_edge from at) rest) place (moved_mark from at bare) ≡ moved_mark from at (mark_in rest (from + (place - at)) bare) →
        (if b then Piece (at + (edge.at - from)) edge.size else mark_in (map (moved_edge from at) rest) place (moved_mark from at bare)) ≡ moved_mark from at (if b then Piece edge.at edge.size else mark_in rest (from + (place - at)) bare)
    by_test true later = refl
    by_test false later = later

bare_same : (from at class : ℕ) → moved_mark from at (bare_mark class) ≡ bare_mark class
bare_same from at zero = refl
bare_same from at (suc class) = refl

-- in the range of the copy the marks are those of the source, as far behind
pub copied_within : (source : List HasValue) (from count at place class : ℕ) → cuts_none from count source ≡ true → is_in_range at count place ≡ true →
    mark_in (moved_edges source from count at) place (bare_mark class) ≡ moved_mark from at (mark_in source (from + (place - at)) (bare_mark class))
copied_within source from count at place class cuts here =
    ap (mark_in (moved_edges source from count at) place) (sym (bare_same from at class))
    ∙ mark_moved from count at place (range_low at count place here) (filter (is_inside from count) source) (all_filtered (is_inside from count) source) (bare_mark class)
    ∙ ap (moved_mark from at) (mark_kept (is_inside from count) source (λ edge. is_beside from count edge || is_inside from count edge) (from + (place - at)) (bare_mark class) cuts keeps)
  where
    keeps : (edge : HasValue) → (is_beside from count edge || is_inside from count edge) ≡ true → is_in_range edge.at edge.size (from + (place - at)) ≡ true → is_inside from count edge ≡ true
    keeps edge any own = by_test (is_beside from count edge) refl any
      where
        beside : (edge.at + edge.size ≤ from) ⊎ (from + count ≤ edge.at) → ⊥
        beside (inl before) = let a = range_high edge.at edge.size (from + (place - at)) own in omega arith
        beside (inr behind) = let a = range_low edge.at edge.size (from + (place - at)) own in let b = range_high at count place here in let c = range_low at count place here in omega arith

        by_test : (b : Bool) → is_beside from count edge ≡ b → (b || is_inside from count edge) ≡ true → is_inside from count edge ≡ true
        by_test true is any = absurd (beside (beside_either from count edge is))
        by_test false is any = any
