-- The marks that the edges of a region give, where other edges and classes are said in a range.
use Rattle.std.proofs.Common.{◌≡◌, ℕ, zero, suc, ◌+◌, ◌<◌, ◌≤◌, Bool, true, false, not, ◌&&◌, ◌||◌, List, [], ◌∷◌, ◌++◌, get_or, nat_le, nat_lt, ◌⊎◌, inl, inr, refl, sym, ◌∙◌, ap, leb-true, le-leb, ltb-true, lt-ltb, ltb-false, arith}
use Rattle.std.specs.Prelude.{if◌then◌else◌}
use Rattle.std.specs.List.{filter, list_all}
use Rattle.std.proofs.lemmas.Bool.{false≢true, leb-false}
use Rattle.graph.specs.declared.edges.HasValue.{HasValue}
use Rattle.graph.specs.Choices.{is_free}
use Rattle.graph.specs.WellFormed.{lies_before, are_in_order}
use Rattle.graph.proofs.Tests.{and_left, and_right, and_both, list_all-implies}
use Rattle.changes.specs.Ranges.{ends_before, begins_behind, is_beside, is_inside, cuts_none, edges_around}
use Rattle.changes.proofs.Node.{beside_either}
use Rattle.changes.proofs.RangeForm.{all_filtered}
use Rattle.plain.specs.Marks.{Mark, Unwritten, Zeroed, Piece, is_in_range}
use Rattle.plain.specs.Shown.{bare_mark, mark_in}

-- Places of a range.

pub range_low : (from count place : ℕ) → is_in_range from count place ≡ true → from ≤ place
range_low from count place is = leb-true _ _ (and_left (nat_le from place) (nat_lt place (from + count)) is)

pub range_high : (from count place : ℕ) → is_in_range from count place ≡ true → place < from + count
range_high from count place is = ltb-true _ _ (and_right (nat_le from place) (nat_lt place (from + count)) is)

pub range_is : (from count place : ℕ) → from ≤ place → place < from + count → is_in_range from count place ≡ true
range_is from count place low high = and_both (nat_le from place) (nat_lt place (from + count)) (le-leb _ _ low) (lt-ltb _ _ high)

pub range_out : (from count place : ℕ) → is_in_range from count place ≡ false → (place < from) ⊎ (from + count ≤ place)
range_out from count place is = by_tests (nat_le from place) refl (nat_lt place (from + count)) refl is
  where
    by_tests : (a : Bool) → nat_le from place ≡ a → (b : Bool) → nat_lt place (from + count) ≡ b → (a && b) ≡ false → (place < from) ⊎ (from + count ≤ place)
    by_tests false a_is b b_is out = inl (leb-false from place a_is)
    by_tests true a_is false b_is out = inr (ltb-false place (from + count) b_is)
    by_tests true a_is true b_is out = absurd (false≢true (sym out))

pub range_not : (from count place : ℕ) → (place < from) ⊎ (from + count ≤ place) → is_in_range from count place ≡ false
range_not from count place out = by_test (is_in_range from count place) refl out
  where
    by_test : (b : Bool) → is_in_range from count place ≡ b → (place < from) ⊎ (from + count ≤ place) → is_in_range from count place ≡ false
    by_test false is out = is
    by_test true is (inl low) = absurd (let a = range_low from count place is in omega arith)
    by_test true is (inr high) = absurd (let a = range_high from count place is in omega arith)

not_true : (b : Bool) → b ≡ false → not b ≡ true
not_true b is = ap not is

-- Marks by edges.

pub mark_append : (one other : List HasValue) (place : ℕ) (bare : Mark) → mark_in (one ++ other) place bare ≡ mark_in one place (mark_in other place bare)
mark_append [] other place bare = refl
mark_append (edge ∷ rest) other place bare = ap (λ (m : Mark). if is_in_range edge.at edge.size place then Piece edge.at edge.size else m) (mark_append rest other place bare)

pub mark_free : (edges : List HasValue) (place : ℕ) (bare : Mark) → is_free edges place ≡ true → mark_in edges place bare ≡ bare
mark_free [] place bare free = refl
mark_free (edge ∷ rest) place bare free = by_test (is_in_range edge.at edge.size place) (and_left (not (is_in_range edge.at edge.size place)) (is_free rest place) free) (mark_free rest place bare (and_right (not (is_in_range edge.at edge.size place)) (is_free rest place) free))
  where
    by_test : (b : Bool) → not b ≡ true → mark_in rest place bare ≡ bare → (if b then Piece edge.at edge.size else mark_in rest place bare) ≡ bare
    by_test true apart later = absurd (false≢true apart)
    by_test false apart later = later

-- where each edge that holds the byte is kept
pub mark_kept : (p : HasValue → Bool) (edges : List HasValue) (test : HasValue → Bool) (place : ℕ) (bare : Mark) → list_all test edges ≡ true → ((edge : HasValue) → test edge ≡ true → is_in_range edge.at edge.size place ≡ true → p edge ≡ true) →
    mark_in (filter p edges) place bare ≡ mark_in edges place bare
mark_kept p [] test place bare all keeps = refl
mark_kept p (edge ∷ rest) test place bare all keeps =
    by_tests (p edge) refl (is_in_range edge.at edge.size place) refl (mark_kept p rest test place bare (and_right (test edge) (list_all test rest) all) keeps)
  where
    by_tests : (a : Bool) → p edge ≡ a → (b : Bool) → is_in_range edge.at edge.size place ≡ b → mark_in (filter p rest) place bare ≡ mark_in rest place bare →
        mark_in (if a then edge ∷ filter p rest else filter p rest) place bare ≡ (if b then Piece edge.at edge.size else mark_in rest place bare)
    by_tests true a_is true b_is later = ap (λ (b : Bool). if b then Piece edge.at edge.size else mark_in (filter p rest) place bare) b_is
    by_tests true a_is false b_is later = ap (λ (b : Bool). if b then Piece edge.at edge.size else mark_in (filter p rest) place bare) b_is ∙ later
    by_tests false a_is true b_is later = absurd (false≢true (sym a_is ∙ keeps edge (and_left (test edge) (list_all test rest) all) b_is))
    by_tests false a_is false b_is later = later

-- where none that is kept holds it
pub free_kept : (p : HasValue → Bool) (edges : List HasValue) (place : ℕ) → ((edge : HasValue) → p edge ≡ true → is_in_range edge.at edge.size place ≡ false) → is_free (filter p edges) place ≡ true
free_kept p edges place none =
    list_all-implies p (λ (edge : HasValue). not (is_in_range edge.at edge.size place)) (λ edge has. not_true (is_in_range edge.at edge.size place) (none edge has)) (filter p edges) (all_filtered p edges)

pub free_append : (one other : List HasValue) (place : ℕ) → is_free one place ≡ true → is_free other place ≡ true → is_free (one ++ other) place ≡ true
free_append [] other place free free' = free'
free_append (edge ∷ rest) other place free free' =
    and_both (not (is_in_range edge.at edge.size place)) (is_free (rest ++ other) place) (and_left (not (is_in_range edge.at edge.size place)) (is_free rest place) free)
    (free_append rest other place (and_right (not (is_in_range edge.at edge.size place)) (is_free rest place) free) free')

module _ (edges : List HasValue) (from count : ℕ) (new : List HasValue) where
  before_free : (place : ℕ) → from ≤ place → is_free (filter (ends_before from) edges) place ≡ true
  before_free place low = free_kept (ends_before from) edges place (λ edge has. range_not edge.at edge.size place (inr (let e = leb-true _ _ has in omega arith)))

  behind_free : (place : ℕ) → place < from + count → is_free (filter (begins_behind (from + count)) edges) place ≡ true
  behind_free place high = free_kept (begins_behind (from + count)) edges place (λ edge has. range_not edge.at edge.size place (inl (let e = leb-true _ _ has in omega arith)))

  -- in the range the new edges tell
  pub around_within : (place : ℕ) (bare : Mark) → is_in_range from count place ≡ true → mark_in (edges_around edges from count new) place bare ≡ mark_in new place bare
  around_within place bare is =
      mark_append (filter (ends_before from) edges) (new ++ filter (begins_behind (from + count)) edges) place bare
      ∙ mark_free (filter (ends_before from) edges) place (mark_in (new ++ filter (begins_behind (from + count)) edges) place bare) (before_free place (range_low from count place is))
      ∙ mark_append new (filter (begins_behind (from + count)) edges) place bare
      ∙ ap (mark_in new place) (mark_free (filter (begins_behind (from + count)) edges) place bare (behind_free place (range_high from count place is)))

  abbrev cuts : HasValue → Bool
  cuts edge = is_beside from count edge || is_inside from count edge

  cut_cases : (edge : HasValue) → cuts edge ≡ true → ((edge.at + edge.size ≤ from) ⊎ (from + count ≤ edge.at)) ⊎ ((from ≤ edge.at) × (edge.at + edge.size ≤ from + count))
  cut_cases edge is = by_test (is_beside from count edge) refl is
    where
      by_test : (b : Bool) → is_beside from count edge ≡ b → (b || is_inside from count edge) ≡ true → ((edge.at + edge.size ≤ from) ⊎ (from + count ≤ edge.at)) ⊎ ((from ≤ edge.at) × (edge.at + edge.size ≤ from + count))
      by_test true beside any = inl (beside_either from count edge beside)
      by_test false beside any = inr (leb-true _ _ (and_left (nat_le from edge.at) (nat_le (edge.at + edge.size) (from + count)) any), leb-true _ _ (and_right (nat_le from edge.at) (nat_le (edge.at + edge.size) (from + count)) any))

  -- beside it the old ones
  pub around_beside : (place : ℕ) (bare : Mark) → cuts_none from count edges ≡ true → is_free new place ≡ true → is_in_range from count place ≡ false → mark_in (edges_around edges from count new) place bare ≡ mark_in edges place bare
  around_beside place bare none free out = mark_append (filter (ends_before from) edges) (new ++ filter (begins_behind (from + count)) edges) place bare ∙ by_side (range_out from count place out)
    where
      keeps_before : place < from → (edge : HasValue) → cuts edge ≡ true → is_in_range edge.at edge.size place ≡ true → ends_before from edge ≡ true
      keeps_before low edge is here = by_cases (cut_cases edge is)
        where
          by_cases : ((edge.at + edge.size ≤ from) ⊎ (from + count ≤ edge.at)) ⊎ ((from ≤ edge.at) × (edge.at + edge.size ≤ from + count)) → ends_before from edge ≡ true
          by_cases (inl (inl before)) = le-leb _ _ before
          by_cases (inl (inr behind)) = absurd (let a = range_low edge.at edge.size place here in omega arith)
          by_cases (inr (at, end)) = absurd (let a = range_low edge.at edge.size place here in omega arith)

      keeps_behind : from + count ≤ place → (edge : HasValue) → cuts edge ≡ true → is_in_range edge.at edge.size place ≡ true → begins_behind (from + count) edge ≡ true
      keeps_behind high edge is here = by_cases (cut_cases edge is)
        where
          by_cases : ((edge.at + edge.size ≤ from) ⊎ (from + count ≤ edge.at)) ⊎ ((from ≤ edge.at) × (edge.at + edge.size ≤ from + count)) → begins_behind (from + count) edge ≡ true
          by_cases (inl (inl before)) = absurd (let a = range_high edge.at edge.size place here in omega arith)
          by_cases (inl (inr behind)) = le-leb _ _ behind
          by_cases (inr (at, end)) = absurd (let a = range_high edge.at edge.size place here in omega arith)

      by_side : (place < from) ⊎ (from + count ≤ place) → mark_in (filter (ends_before from) edges) place (mark_in (new ++ filter (begins_behind (from + count)) edges) place bare) ≡ mark_in edges place bare
      by_side (inl low) =
          ap (mark_in (filter (ends_before from) edges) place)
          (mark_free (new ++ filter (begins_behind (from + count)) edges) place bare (free_append new (filter (begins_behind (from + count)) edges) place free (behind_free place (omega arith))))
          ∙ mark_kept (ends_before from) edges cuts place bare none (keeps_before low)
      by_side (inr high) =
          mark_free (filter (ends_before from) edges) place (mark_in (new ++ filter (begins_behind (from + count)) edges) place bare) (before_free place (omega arith))
          ∙ mark_append new (filter (begins_behind (from + count)) edges) place bare
          ∙ mark_free new place (mark_in (filter (begins_behind (from + count)) edges) place bare) free
          ∙ mark_kept (begins_behind (from + count)) edges cuts place bare none (keeps_behind high)

-- Whether an edge holds a byte is told by the mark.

abbrev pub is_piece : Mark → Bool
is_piece Unwritten = false
is_piece Zeroed = false
is_piece (Piece at size) = true

pub free_is : (edges : List HasValue) (place : ℕ) → is_free edges place ≡ not (is_piece (mark_in edges place Zeroed))
free_is [] place = refl
free_is (edge ∷ rest) place = by_test (is_in_range edge.at edge.size place) (free_is rest place)
  where
    by_test : (b : Bool) → is_free rest place ≡ not (is_piece (mark_in rest place Zeroed)) → (not b && is_free rest place) ≡ not (is_piece (if b then Piece edge.at edge.size else mark_in rest place Zeroed))
    by_test true later = refl
    by_test false later = later

pub free_same : (one other : List HasValue) (place : ℕ) → mark_in one place Zeroed ≡ mark_in other place Zeroed → is_free one place ≡ is_free other place
free_same one other place same = free_is one place ∙ ap (λ (m : Mark). not (is_piece m)) same ∙ sym (free_is other place)

-- No edge is cut where no piece is.

abbrev pub piece_at : Mark → ℕ
piece_at Unwritten = 0
piece_at Zeroed = 0
piece_at (Piece at size) = at

abbrev pub piece_size : Mark → ℕ
piece_size Unwritten = 0
piece_size Zeroed = 0
piece_size (Piece at size) = size

pub bare_no_piece : (class at size : ℕ) → bare_mark class ≡ Piece at size → ⊥
bare_no_piece zero at size is = false≢true (ap is_piece is)
bare_no_piece (suc class) at size is = false≢true (ap is_piece is)

-- behind an edge no later one holds its bytes
later_free : (edge : HasValue) (rest : List HasValue) (place : ℕ) → list_all (lies_before edge) rest ≡ true → place < edge.at + edge.size → is_free rest place ≡ true
later_free edge rest place before below =
    list_all-implies (lies_before edge) (λ (other : HasValue). not (is_in_range other.at other.size place))
    (λ other has. not_true (is_in_range other.at other.size place) (range_not other.at other.size place (inl (let e = leb-true _ _ has in omega arith)))) rest before

pub cut_none : (from count : ℕ) (plane : List ℕ) (edges : List HasValue) → 0 < count → are_in_order edges ≡ true →
    ((place at size : ℕ) → is_in_range from count place ≡ true → mark_in edges place (bare_mark (get_or plane place 0)) ≡ Piece at size → (from ≤ at) × (at + size ≤ from + count)) → cuts_none from count edges ≡ true
cut_none from count plane [] some order whole = refl
cut_none from count plane (edge ∷ rest) some order whole =
    and_both (is_beside from count edge || is_inside from count edge) (cuts_none from count rest) (by_beside (ends_before from edge) refl (begins_behind (from + count) edge) refl)
    (cut_none from count plane rest some (and_right (list_all (lies_before edge) rest) (are_in_order rest) order) (λ place at size here is. later place at size here is (is_in_range edge.at edge.size place) refl))
  where
    before : list_all (lies_before edge) rest ≡ true
    before = and_left (list_all (lies_before edge) rest) (are_in_order rest) order

    bare : ℕ → Mark
    bare place = bare_mark (get_or plane place 0)

    later : (place at size : ℕ) → is_in_range from count place ≡ true → mark_in rest place (bare_mark (get_or plane place 0)) ≡ Piece at size → (b : Bool) → is_in_range edge.at edge.size place ≡ b → (from ≤ at) × (at + size ≤ from + count)
    later place at size here is true own =
        absurd (bare_no_piece (get_or plane place 0) at size (sym (mark_free rest place (bare_mark (get_or plane place 0)) (later_free edge rest place before (range_high edge.at edge.size place own))) ∙ is))
    later place at size here is false own = whole place at size here (ap (λ (b : Bool). if b then Piece edge.at edge.size else mark_in rest place (bare_mark (get_or plane place 0))) own ∙ is)

    met : (place : ℕ) → is_in_range from count place ≡ true → is_in_range edge.at edge.size place ≡ true → is_inside from count edge ≡ true
    met place here own =
        let lies = whole place edge.at edge.size here (ap (λ (b : Bool). if b then Piece edge.at edge.size else mark_in rest place (bare_mark (get_or plane place 0))) own) in
        and_both (nat_le from edge.at) (nat_le (edge.at + edge.size) (from + count)) (le-leb _ _ lies.0) (le-leb _ _ lies.1)

    inside : from < edge.at + edge.size → edge.at < from + count → (b : Bool) → nat_le from edge.at ≡ b → (c : Bool) → nat_lt 0 edge.size ≡ c → is_inside from count edge ≡ true
    inside high low true front true full = met edge.at (range_is from count edge.at (leb-true _ _ front) low) (range_is edge.at edge.size edge.at (omega arith) (let e = ltb-true _ _ full in omega arith))
    inside high low true front false full =
        and_both (nat_le from edge.at) (nat_le (edge.at + edge.size) (from + count)) front (le-leb _ _ (let e = ltb-false 0 edge.size full in omega arith))
    inside high low false front c full = let e = leb-false from edge.at front in met from (range_is from count from (omega arith) (omega arith)) (range_is edge.at edge.size from (omega arith) high)

    by_beside : (a : Bool) → ends_before from edge ≡ a → (b : Bool) → begins_behind (from + count) edge ≡ b → ((a || b) || is_inside from count edge) ≡ true
    by_beside true a_is b b_is = refl
    by_beside false a_is true b_is = refl
    by_beside false a_is false b_is = inside (leb-false (edge.at + edge.size) from a_is) (leb-false (from + count) edge.at b_is) (nat_le from edge.at) refl (nat_lt 0 edge.size) refl
