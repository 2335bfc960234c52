-- What marks of points tell of the edges and functions of a graph.
use Rattle.std.proofs.Common.{◌≡◌, ◌≢◌, ℕ, zero, suc, ◌+◌, ◌<◌, ◌⊎◌, inl, inr, List, [], ◌∷◌, ◌++◌, length, take, map, refl, sym, ap, subst, ◌∙◌, arith, Bool, true, false, not, ◌||◌, nat_eq, cond, Some}
use Rattle.std.specs.Prelude.{All, Contains, IsTrue, slice_get, slice_set, slice_index_or}
use Rattle.std.specs.List.{list_all, list_any}
use Rattle.std.proofs.lemmas.Bool.{cases_eq, cases_Bool, eq-eqb, eqb-true, eqb-false, ne_eqb, both_ways, not-true, not_from_false, false_from_ne_true, or_cases, or_left, or_right}
use Rattle.std.proofs.lemmas.List.{get_or-set_same, get_or-set_other, append-nil, take_more, length-take-le}
use Rattle.std.proofs.lemmas.List.Elements.{All-weaker, filter-append}
use Rattle.std.proofs.lemmas.List.Folds.{list_any_at, list_any_none}
use Rattle.std.proofs.lemmas.List.Sums.{AllPass-from_list_all, list_all-from_AllPass}
use Rattle.std.proofs.lemmas.Map.Views.{Contains-from_any}
use Rattle.std.proofs.lemmas.Option.{slice_get_within, get_or_from_slice_get, none-some}
use Rattle.flow.specs.declared.flow_graph.FlowEdge.{FlowEdge}
use Rattle.flow.specs.declared.flow_graph.FlowFunction.{FlowFunction}
use Rattle.flow.specs.declared.outs.Out.{Out}
use Rattle.flow.specs.declared.outs.Out.TheVariants.{Nothing, One, Two, More}
use Rattle.flow.specs.Walks.{is_return}
use Rattle.flow.specs.Marked.{AreMarks, out_of, SaysOut, AreOuts, noted}

-- a number is among others
any_from_contains : (numbers : List ℕ) (number : ℕ) → Contains numbers number → list_any (nat_eq number) numbers ≡ true
any_from_contains numbers number (at, below, is) = list_any_at (nat_eq number) numbers at number below (eq-eqb _ _ (sym is))

any_end : (point : ℕ) (edges : List FlowEdge) → list_any (nat_eq point) (map (λ edge. edge.to) edges) ≡ list_any (λ edge. nat_eq point edge.to) edges
any_end point [] = refl
any_end point (first ∷ rest) = ap (λ (b : Bool). nat_eq point first.to || b) (any_end point rest)

none_at : {X : Type 0} (p : X → Bool) (xs : List X) → list_any p xs ≡ false → All (λ x. p x ≡ false) xs
none_at p xs none = λ k d below. false_from_ne_true _ (λ holds. both_ways _ none (list_any_at p xs k d below holds))

-- no edge leads to a point that is not marked
pub entries_told : (edges : List FlowEdge) (functions : List FlowFunction) (marks : List Bool) (told : Bool) →
    told ≡ list_all (λ function. not (slice_index_or marks function.entry false)) functions → AreMarks (map (λ edge. edge.to) edges) marks →
    (IsTrue told → All (λ function. All (λ edge. edge.to ≢ function.entry) edges) functions)
    × (All (λ function. All (λ edge. edge.to ≢ function.entry) edges) functions → IsTrue told)
entries_told edges functions marks told is are = (forth, back)
  where
    marked : (point : ℕ) → slice_index_or marks point false ≡ list_any (λ edge. nat_eq point edge.to) edges
    marked point = are.marked point ∙ any_end point edges

    free : (function : FlowFunction) → not (slice_index_or marks function.entry false) ≡ true → All (λ edge. edge.to ≢ function.entry) edges
    free function h =
        let none = none_at (λ edge. nat_eq function.entry edge.to) edges (sym (marked function.entry) ∙ not-true _ h) in
        λ k d below same. eqb-false _ _ (none k d below) (sym same)

    freed : (function : FlowFunction) → All (λ edge. edge.to ≢ function.entry) edges → not (slice_index_or marks function.entry false) ≡ true
    freed function all = not_from_false _ (marked function.entry
        ∙ list_any_none (λ edge. nat_eq function.entry edge.to) edges (λ k d below. ne_eqb _ _ (λ same. all k d below (sym same))))

    forth : IsTrue told → All (λ function. All (λ edge. edge.to ≢ function.entry) edges) functions
    forth holds = All-weaker (λ function. not (slice_index_or marks function.entry false) ≡ true) (λ function. All (λ edge. edge.to ≢ function.entry) edges)
        free functions (AllPass-from_list_all (λ function. not (slice_index_or marks function.entry false)) functions (sym is ∙ holds))

    back : All (λ function. All (λ edge. edge.to ≢ function.entry) edges) functions → IsTrue told
    back all = is ∙ list_all-from_AllPass (λ function. not (slice_index_or marks function.entry false)) functions
        (All-weaker (λ function. All (λ edge. edge.to ≢ function.entry) edges) (λ function. not (slice_index_or marks function.entry false) ≡ true)
        freed functions all)

-- each return begins at a point that is marked
pub returns_told : (edges : List FlowEdge) (exits : List ℕ) (marks : List Bool) (told : Bool) →
    told ≡ list_all (λ edge. not (is_return edge.instr) || slice_index_or marks edge.from false) edges → AreMarks exits marks →
    (IsTrue told → All (λ edge. IsTrue (is_return edge.instr) → Contains exits edge.from) edges)
    × (All (λ edge. IsTrue (is_return edge.instr) → Contains exits edge.from) edges → IsTrue told)
returns_told edges exits marks told is are = (forth, back)
  where
    left : (edge : FlowEdge) → (not (is_return edge.instr) || slice_index_or marks edge.from false) ≡ true → IsTrue (is_return edge.instr) → Contains exits edge.from
    left edge h returns = elim (or_cases _ _ h) [
      | inl differs ↦ absurd (both_ways _ (not-true _ differs) returns)
      | inr holds ↦ Contains-from_any (λ x y e. eqb-true x y e) edge.from exits (sym (are.marked edge.from) ∙ holds)
    ]

    by_return : (edge : FlowEdge) → (IsTrue (is_return edge.instr) → Contains exits edge.from) → (is_return edge.instr ≡ true) ⊎ (is_return edge.instr ≡ false) →
        (not (is_return edge.instr) || slice_index_or marks edge.from false) ≡ true
    by_return edge all (inl holds) = or_right _ _ (are.marked edge.from ∙ any_from_contains exits edge.from (all holds))
    by_return edge all (inr differs) = or_left _ _ (not_from_false _ differs)

    forth : IsTrue told → All (λ edge. IsTrue (is_return edge.instr) → Contains exits edge.from) edges
    forth holds = All-weaker (λ edge. (not (is_return edge.instr) || slice_index_or marks edge.from false) ≡ true)
        (λ edge. IsTrue (is_return edge.instr) → Contains exits edge.from) left edges
        (AllPass-from_list_all (λ edge. not (is_return edge.instr) || slice_index_or marks edge.from false) edges (sym is ∙ holds))

    back : All (λ edge. IsTrue (is_return edge.instr) → Contains exits edge.from) edges → IsTrue told
    back all = is ∙ list_all-from_AllPass (λ edge. not (is_return edge.instr) || slice_index_or marks edge.from false) edges
        (All-weaker (λ edge. IsTrue (is_return edge.instr) → Contains exits edge.from)
        (λ edge. (not (is_return edge.instr) || slice_index_or marks edge.from false) ≡ true)
        (λ edge leaves. by_return edge leaves (cases_Bool (is_return edge.instr))) edges all)

-- the edges of a list keep their numbers where one more stands behind them, and it has the next one
slice_get-front : {X : Type 0} (xs ys : List X) (at : ℕ) (x : X) → slice_get xs at ≡ Some x → slice_get (xs ++ ys) at ≡ Some x
slice_get-front [] ys at x is = absurd (none-some x is)
slice_get-front (first ∷ xs) ys zero x is = is
slice_get-front (first ∷ xs) ys (suc at) x is = slice_get-front xs ys at x is

slice_get-last : {X : Type 0} (xs : List X) (x : X) → slice_get (xs ++ x ∷ []) (length xs) ≡ Some x
slice_get-last [] x = refl
slice_get-last (first ∷ xs) x = slice_get-last xs x

-- what is noted of the edges out of a point, with one edge more, out of it or not
says_more : (edges : List FlowEdge) (edge : FlowEdge) (point : ℕ) (old : Out) → out_of (edges ++ edge ∷ []) point ≡ out_of edges point ++ edge ∷ [] →
    SaysOut edges point old → SaysOut (edges ++ edge ∷ []) point (noted (length edges) old)
says_more edges edge point Nothing is says = (edge, slice_get-last edges edge, is ∙ ap (λ (es : List FlowEdge). es ++ edge ∷ []) says)
says_more edges edge point (One at) is (one, there, only) =
    (one, edge, slice_get-front edges (edge ∷ []) at one there, slice_get-last edges edge, is ∙ ap (λ (es : List FlowEdge). es ++ edge ∷ []) only, slice_get_within edges at one there)
says_more edges edge point (Two at at') is (one, other, there, there', are, before) =
    (one, other, edge, ([], is ∙ ap (λ (es : List FlowEdge). es ++ edge ∷ []) are))
says_more edges edge point More is (one, other, third, (rest, are)) =
    (one, other, third, (rest ++ edge ∷ [], is ∙ ap (λ (es : List FlowEdge). es ++ edge ∷ []) are))

says_kept : (edges : List FlowEdge) (edge : FlowEdge) (point : ℕ) (old : Out) → out_of (edges ++ edge ∷ []) point ≡ out_of edges point →
    SaysOut edges point old → SaysOut (edges ++ edge ∷ []) point old
says_kept edges edge point Nothing is says = is ∙ says
says_kept edges edge point (One at) is (one, there, only) = (one, slice_get-front edges (edge ∷ []) at one there, is ∙ only)
says_kept edges edge point (Two at at') is (one, other, there, there', are, before) =
    (one, other, slice_get-front edges (edge ∷ []) at one there, slice_get-front edges (edge ∷ []) at' other there', is ∙ are, before)
says_kept edges edge point More is (one, other, third, (rest, are)) = (one, other, third, (rest, is ∙ are))

outs_behind : (edges : List FlowEdge) (edge : FlowEdge) (outs : List Out) → edge.from < length outs → AreOuts edges outs →
    AreOuts (edges ++ edge ∷ []) (slice_set outs edge.from (noted (length edges) (slice_index_or outs edge.from Nothing)))
outs_behind edges edge outs below are = record { says = λ point. by_point point (cases_eq edge.from point) }
  where
    step : (point : ℕ) → out_of (edges ++ edge ∷ []) point ≡ out_of edges point ++ cond (nat_eq edge.from point) (edge ∷ []) []
    step point = filter-append (λ (one : FlowEdge). nat_eq one.from point) edges (edge ∷ [])

    by_point : (point : ℕ) → (edge.from ≡ point) ⊎ (edge.from ≡ point → ⊥) →
        SaysOut (edges ++ edge ∷ []) point (slice_index_or (slice_set outs edge.from (noted (length edges) (slice_index_or outs edge.from Nothing))) point Nothing)
    by_point point (inl same) =
        rw (sym same) (rw (get_or-set_same outs edge.from (noted (length edges) (slice_index_or outs edge.from Nothing)) Nothing below)
        (says_more edges edge edge.from (slice_index_or outs edge.from Nothing)
        (step edge.from ∙ rw (eq-eqb edge.from edge.from refl) refl) (are.says edge.from)))
    by_point point (inr other) =
        rw (get_or-set_other outs edge.from point (noted (length edges) (slice_index_or outs edge.from Nothing)) Nothing (λ e. other (sym e)))
        (says_kept edges edge point (slice_index_or outs point Nothing)
        (step point ∙ rw (ne_eqb edge.from point other) (append-nil (out_of edges point))) (are.says point))

pub outs_more : (edges : List FlowEdge) (number : ℕ) (edge : FlowEdge) (outs : List Out) → slice_get edges number ≡ Some edge →
    edge.from < length outs → AreOuts (take number edges) outs →
    AreOuts (take (number + 1) edges) (slice_set outs edge.from (noted number (slice_index_or outs edge.from Nothing)))
outs_more edges number edge outs stands below are =
    let inside : number < length edges = slice_get_within edges number edge stands in
    let front : take (number + 1) edges ≡ take number edges ++ edge ∷ [] =
    take_more edges number edge inside ∙ ap (λ (e : FlowEdge). take number edges ++ e ∷ []) (get_or_from_slice_get edges number edge edge stands) in
    let long : length (take number edges) ≡ number = length-take-le number edges (omega arith) in
    subst (λ (es : List FlowEdge). AreOuts es (slice_set outs edge.from (noted number (slice_index_or outs edge.from Nothing)))) (sym front)
    (subst (λ (n : ℕ). AreOuts (take number edges ++ edge ∷ []) (slice_set outs edge.from (noted n (slice_index_or outs edge.from Nothing)))) long
    (outs_behind (take number edges) edge outs below are))
