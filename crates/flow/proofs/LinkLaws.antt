-- The links of one edge more.
use Rattle.std.proofs.Common.{◌≡◌, ℕ, suc, ◌+◌, ◌<◌, ◌⊎◌, inl, inr, List, [], ◌∷◌, ◌++◌, length, get_or, refl, sym, ap, ◌∙◌, arith, Bool, true, false, not, ◌&&◌, Some, eq-eqb, add-one}
use Rattle.std.specs.Prelude.{slice_index, slice_set, slice_get, if◌then◌else◌, nat_eq}
use Rattle.std.proofs.lemmas.List.{length-append, get_or-set_same, get_or-set_other, get_or_append_left, length-set}
use Rattle.std.proofs.Math.Seq.{get_or-append_seam}
use Rattle.std.proofs.lemmas.Bool.{cases_eq, ne_eqb}
use Rattle.flow.specs.declared.flow_graph.FlowEdge.{FlowEdge}
use Rattle.flow.specs.Walks.{goes_from, is_return}
use Rattle.flow.specs.Counting.{last_below, AreLinks}

-- a return is no way from any point
return_is_no_way : (point : ℕ) (edge : FlowEdge) → is_return edge.instr ≡ true → goes_from point edge ≡ false
return_is_no_way point edge is = by_cases (nat_eq edge.from point)
  where
    by_cases : (b : Bool) → (b && not (is_return edge.instr)) ≡ false
    by_cases true = rw is
    by_cases false = refl

-- what the first links are with one edge more
first_more : (edges : List FlowEdge) (points count : ℕ) (edge : FlowEdge) (first : List ℕ) →
    slice_get edges count ≡ Some edge → edge.from < points → length first ≡ points →
    ((point : ℕ) → point < points → slice_index first point ≡ last_below edges point count) →
    (returns : Bool) → is_return edge.instr ≡ returns → (point : ℕ) → point < points →
    slice_index (if returns then first else slice_set first edge.from (suc count)) point ≡ last_below edges point (suc count)
first_more edges points count edge first stands below long are true is point in_range =
    rw (stands, return_is_no_way point edge is) (are point in_range)
first_more edges points count edge first stands below long are false is point in_range =
    rw stands (by_point (cases_eq edge.from point))
  where
    by_point : (edge.from ≡ point) ⊎ (edge.from ≡ point → ⊥) →
        slice_index (slice_set first edge.from (suc count)) point ≡ (if goes_from point edge then suc count else last_below edges point count)
    by_point (inl same) = rw (eq-eqb edge.from point same, is) (rw (sym same) (get_or-set_same first edge.from (suc count) 0 (omega arith)))
    by_point (inr other) = rw (ne_eqb edge.from point other) (get_or-set_other first edge.from point (suc count) 0 (λ e. other (sym e)) ∙ are point in_range)

length_if : (returns : Bool) (first : List ℕ) (at value : ℕ) → length (if returns then first else slice_set first at value) ≡ length first
length_if true first at value = refl
length_if false first at value = length-set first at value

pub links_more : (edges : List FlowEdge) (points count : ℕ) (edge : FlowEdge) (first next : List ℕ) →
    slice_get edges count ≡ Some edge → edge.from < points → AreLinks edges points count first next →
    AreLinks edges points (count + 1) (if is_return edge.instr then first else slice_set first edge.from (count + 1)) (next ++ slice_index first edge.from ∷ [])
links_more edges points count edge first next stands below links = rw add-one more
  where
    next_more : (number : ℕ) (other : FlowEdge) → number < suc count → slice_get edges number ≡ Some other →
        slice_index (next ++ slice_index first edge.from ∷ []) number ≡ last_below edges other.from number
    next_more number other within here = by_number (cases_eq number count)
      where
        by_number : (number ≡ count) ⊎ (number ≡ count → ⊥) → slice_index (next ++ slice_index first edge.from ∷ []) number ≡ last_below edges other.from number
        by_number (inl is) =
            let there : slice_get edges number ≡ Some edge = ap (λ (k : ℕ). slice_get edges k) is ∙ stands in
            let one : edge ≡ other = cc in
            let at_end : number ≡ length next = is ∙ sym links.edges_are in
            let read : slice_index (next ++ slice_index first edge.from ∷ []) number ≡ slice_index first edge.from =
            ap (λ (k : ℕ). get_or (next ++ slice_index first edge.from ∷ []) k 0) at_end ∙ get_or-append_seam next (slice_index first edge.from) [] 0 in
            read ∙ (links.first_is edge.from below ∙ (ap (λ (k : ℕ). last_below edges edge.from k) (sym is) ∙ ap (λ (e : FlowEdge). last_below edges e.from number) one))
        by_number (inr is_not) =
            let less : number < length next = let e = links.edges_are in omega arith in
            get_or_append_left next (slice_index first edge.from ∷ []) 0 number less ∙ links.next_is number other (omega arith) here

    more : AreLinks edges points (suc count) (if is_return edge.instr then first else slice_set first edge.from (suc count)) (next ++ slice_index first edge.from ∷ [])
    more = record {
      points_are = length_if (is_return edge.instr) first edge.from (suc count) ∙ links.points_are;
      edges_are = length-append next (slice_index first edge.from ∷ []) ∙ (let e = links.edges_are in omega arith);
      first_is = first_more edges points count edge first stands below links.points_are links.first_is (is_return edge.instr) refl;
      next_is = next_more;
    }
