-- The edges out of a point, by the table.
use Rattle.std.proofs.Common.{◌≡◌, ℕ, zero, suc, ◌<◌, ◌≤◌, ◌+◌, List, [], ◌∷◌, Bool, true, false, cond, refl, sym, ap, subst, ◌∙◌, ◌⊎◌, inl, inr, Some, length, nat_eq, get_or, arith}
use Rattle.std.specs.Prelude.{slice_get, IsTrue}
use Rattle.std.proofs.lemmas.Bool.{eqb-true, eq-eqb, cases_lt}
use Rattle.std.proofs.lemmas.Option.{slice_get_within}
use Rattle.flow.specs.declared.flow_graph.Flow.{Flow}
use Rattle.flow.specs.declared.flow_graph.FlowEdge.{FlowEdge}
use Rattle.flow.specs.declared.outs.Out.{Out}
use Rattle.flow.specs.declared.outs.Out.TheVariants.{Nothing, One, Two, More}
use Rattle.flow.specs.Exclusive.{IsExclusive, are_exclusive}
use Rattle.flow.specs.Marked.{out_of, SaysOut, AreOuts}
use Rattle.trail.proofs.Sound.{same_some}
use Rattle.trail.specs.Seen.{is_ordinary}

-- the edge of a number leads from a point
record IsFrom (edges : List FlowEdge) (point number : ℕ) : Type 0 where
  edge : FlowEdge
  there : slice_get edges number ≡ Some edge
  from : edge.from ≡ point

pub nothing_at : {X B : Type 0} (number : ℕ) (item : X) → slice_get [] number ≡ Some item → B
nothing_at number item there = absurd cc

taken : (edge : FlowEdge) (edges : List FlowEdge) (point : ℕ) → edge.from ≡ point → length (out_of (edge ∷ edges) point) ≡ suc (length (out_of edges point))
taken edge edges point from = ap (λ (b : Bool). length (cond b (edge ∷ out_of edges point) (out_of edges point))) (eq-eqb edge.from point from)

no_fewer : (edge : FlowEdge) (edges : List FlowEdge) (point : ℕ) → length (out_of edges point) ≤ length (out_of (edge ∷ edges) point)
no_fewer edge edges point = by_test (nat_eq edge.from point)
  where
    by_test : (b : Bool) → length (out_of edges point) ≤ length (cond b (edge ∷ out_of edges point) (out_of edges point))
    by_test true = omega arith
    by_test false = omega arith

one_in : (edges : List FlowEdge) (point number : ℕ) → IsFrom edges point number → 1 ≤ length (out_of edges point)
one_in [] point number is = nothing_at number is.edge is.there
one_in (edge ∷ edges) point zero is =
    let more : length (out_of (edge ∷ edges) point) ≡ suc (length (out_of edges point)) = taken edge edges point (ap (λ (e : FlowEdge). e.from) (same_some edge is.edge is.there) ∙ is.from) in omega arith
one_in (edge ∷ edges) point (suc number) is =
    let rest : 1 ≤ length (out_of edges point) = one_in edges point number (record { edge = is.edge; there = is.there; from = is.from }) in
    let fewer : length (out_of edges point) ≤ length (out_of (edge ∷ edges) point) = no_fewer edge edges point in omega arith

two_in : (edges : List FlowEdge) (point number other : ℕ) → number < other → IsFrom edges point number → IsFrom edges point other → 2 ≤ length (out_of edges point)
two_in [] point number other less is also = nothing_at number is.edge is.there
two_in (edge ∷ edges) point number zero less is also = absurd (omega arith)
two_in (edge ∷ edges) point zero (suc other) less is also =
    let more : length (out_of (edge ∷ edges) point) ≡ suc (length (out_of edges point)) = taken edge edges point (ap (λ (e : FlowEdge). e.from) (same_some edge is.edge is.there) ∙ is.from) in
    let rest : 1 ≤ length (out_of edges point) = one_in edges point other (record { edge = also.edge; there = also.there; from = also.from }) in omega arith
two_in (edge ∷ edges) point (suc number) (suc other) less is also =
    let rest : 2 ≤ length (out_of edges point) = two_in edges point number other (omega arith) (record { edge = is.edge; there = is.there; from = is.from })
    (record { edge = also.edge; there = also.there; from = also.from }) in
    let fewer : length (out_of edges point) ≤ length (out_of (edge ∷ edges) point) = no_fewer edge edges point in omega arith

three_in : (edges : List FlowEdge) (point number other third : ℕ) → number < other → other < third → IsFrom edges point number → IsFrom edges point other → IsFrom edges point third →
    3 ≤ length (out_of edges point)
three_in [] point number other third less more is also last = nothing_at number is.edge is.there
three_in (edge ∷ edges) point number zero third less more is also last = absurd (omega arith)
three_in (edge ∷ edges) point number (suc other) zero less more is also last = absurd (omega arith)
three_in (edge ∷ edges) point zero (suc other) (suc third) less more is also last =
    let one : length (out_of (edge ∷ edges) point) ≡ suc (length (out_of edges point)) = taken edge edges point (ap (λ (e : FlowEdge). e.from) (same_some edge is.edge is.there) ∙ is.from) in
    let rest : 2 ≤ length (out_of edges point) = two_in edges point other third (omega arith) (record { edge = also.edge; there = also.there; from = also.from })
    (record { edge = last.edge; there = last.there; from = last.from }) in omega arith
three_in (edge ∷ edges) point (suc number) (suc other) (suc third) less more is also last =
    let rest : 3 ≤ length (out_of edges point) = three_in edges point number other third (omega arith) (omega arith) (record { edge = is.edge; there = is.there; from = is.from })
    (record { edge = also.edge; there = also.there; from = also.from }) (record { edge = last.edge; there = last.there; from = last.from }) in
    let fewer : length (out_of edges point) ≤ length (out_of (edge ∷ edges) point) = no_fewer edge edges point in omega arith

-- what is among the edges out of a point leads from it
kept : (edges : List FlowEdge) (point number : ℕ) (one : FlowEdge) → slice_get (out_of edges point) number ≡ Some one → one.from ≡ point
kept [] point number one there = nothing_at number one there
kept (edge ∷ edges) point number one there = by_test (kept edges point) (nat_eq edge.from point) refl there
  where
    by_place : ((number : ℕ) (one : FlowEdge) → slice_get (out_of edges point) number ≡ Some one → one.from ≡ point) →
        (number : ℕ) → nat_eq edge.from point ≡ true → slice_get (edge ∷ out_of edges point) number ≡ Some one → one.from ≡ point
    by_place later zero is there = ap (λ (e : FlowEdge). e.from) (sym (same_some edge one there)) ∙ eqb-true edge.from point is
    by_place later (suc number) is there = later number one there

    by_test : ((number : ℕ) (one : FlowEdge) → slice_get (out_of edges point) number ≡ Some one → one.from ≡ point) →
        (b : Bool) → nat_eq edge.from point ≡ b → slice_get (cond b (edge ∷ out_of edges point) (out_of edges point)) number ≡ Some one → one.from ≡ point
    by_test later true is there = by_place later number is there
    by_test later false is there = later number one there

-- no other edge leads from a point than those of which the table tells
none_nothing : (edges : List FlowEdge) (point which : ℕ) → SaysOut edges point Nothing → IsFrom edges point which → ⊥
none_nothing edges point which says is =
    let some : 1 ≤ length (out_of edges point) = one_in edges point which is in
    let none : length (out_of edges point) ≡ 0 = ap (λ (es : List FlowEdge). length es) says in omega arith

only_one : (edges : List FlowEdge) (point number which : ℕ) → SaysOut edges point (One number) → IsFrom edges point which → which ≡ number
only_one edges point number which (edge, there, are) is =
    let from : edge.from ≡ point = kept edges point 0 edge (ap (λ (es : List FlowEdge). slice_get es 0) are) in
    let own : IsFrom edges point number = record { edge = edge; there = there; from = from } in
    let count : length (out_of edges point) ≡ 1 = ap (λ (es : List FlowEdge). length es) are in
    elim (cases_lt which number) [
      | inl less ↦ let two : 2 ≤ length (out_of edges point) = two_in edges point which number less is own in absurd (omega arith)
      | inr more ↦ elim (cases_lt number which) [
        | inl less ↦ let two : 2 ≤ length (out_of edges point) = two_in edges point number which less own is in absurd (omega arith)
        | inr same ↦ omega arith
      ]
    ]

only_two : (edges : List FlowEdge) (point number second which : ℕ) → SaysOut edges point (Two number second) → IsFrom edges point which → (which ≡ number) ⊎ (which ≡ second)
only_two edges point number second which (edge, other, there, there', are, ordered) is =
    let own : IsFrom edges point number = record { edge = edge; there = there; from = kept edges point 0 edge (ap (λ (es : List FlowEdge). slice_get es 0) are) } in
    let own' : IsFrom edges point second = record { edge = other; there = there'; from = kept edges point 1 other (ap (λ (es : List FlowEdge). slice_get es 1) are) } in
    let count : length (out_of edges point) ≡ 2 = ap (λ (es : List FlowEdge). length es) are in
    elim (cases_lt which number) [
      | inl less ↦ let three : 3 ≤ length (out_of edges point) = three_in edges point which number second less ordered is own own' in absurd (omega arith)
      | inr more ↦ elim (cases_lt number which) [
        | inr same ↦ inl (omega arith)
        | inl past ↦ elim (cases_lt which second) [
          | inl less ↦ let three : 3 ≤ length (out_of edges point) = three_in edges point number which second past less own is own' in absurd (omega arith)
          | inr late ↦ elim (cases_lt second which) [
            | inl beyond ↦ let three : 3 ≤ length (out_of edges point) = three_in edges point number second which ordered beyond own own' is in absurd (omega arith)
            | inr same ↦ inr (omega arith)
          ]
        ]
      ]
    ]

says_there : (edges : List FlowEdge) (outs : List Out) (point : ℕ) (out : Out) → AreOuts edges outs → get_or outs point Nothing ≡ out → SaysOut edges point out
says_there edges outs point out are is = subst (λ (o : Out). SaysOut edges point o) is (are.says point)

-- what goes past edges that do not lead from a point
pub record Passes (flow : Flow) (P : ℕ → Type 0) (point : ℕ) : Type 0 where
  pub past : (number more : ℕ) → P number → number ≤ more →
      ((which : ℕ) (edge : FlowEdge) → number ≤ which → which < more → slice_get flow.edges which ≡ Some edge → is_ordinary edge.instr ≡ true → edge.from ≡ point → ⊥) → P more

-- the way over the edges of an entry
pub out_nothing : (flow : Flow) (P : ℕ → Type 0) (point : ℕ) (outs : List Out) → Passes flow P point → AreOuts flow.edges outs → get_or outs point Nothing ≡ Nothing → P 0 →
    P (length flow.edges)
out_nothing flow P point outs passes are is on = passes.past 0 (length flow.edges) on (omega arith) (λ which edge late below there ordinary from.
    none_nothing flow.edges point which (says_there flow.edges outs point Nothing are is) (record { edge = edge; there = there; from = from }))

pub out_one : (flow : Flow) (P : ℕ → Type 0) (point number : ℕ) (outs : List Out) → Passes flow P point → AreOuts flow.edges outs → get_or outs point Nothing ≡ One number → P 0 →
    P number
out_one flow P point number outs passes are is on = passes.past 0 number on (omega arith) (λ which edge late below there ordinary from.
    let same : which ≡ number = only_one flow.edges point number which (says_there flow.edges outs point (One number) are is) (record { edge = edge; there = there; from = from }) in omega arith)

pub out_last : (flow : Flow) (P : ℕ → Type 0) (point number : ℕ) (outs : List Out) → Passes flow P point → AreOuts flow.edges outs → get_or outs point Nothing ≡ One number →
    P (number + 1) → P (length flow.edges)
out_last flow P point number outs passes are is on =
    let says : SaysOut flow.edges point (One number) = says_there flow.edges outs point (One number) are is in
    let within : number < length flow.edges = slice_get_within flow.edges number says.0 says.1 in
    passes.past (number + 1) (length flow.edges) on (omega arith) (λ which edge late below there ordinary from.
    let same : which ≡ number = only_one flow.edges point number which says (record { edge = edge; there = there; from = from }) in omega arith)

pub out_first : (flow : Flow) (P : ℕ → Type 0) (point number second : ℕ) (outs : List Out) → Passes flow P point → AreOuts flow.edges outs → get_or outs point Nothing ≡ Two number second →
    P 0 → P number
out_first flow P point number second outs passes are is on =
    let says : SaysOut flow.edges point (Two number second) = says_there flow.edges outs point (Two number second) are is in
    let ordered : number < second = ordered_of says in
    passes.past 0 number on (omega arith) (λ which edge late below there ordinary from.
    elim (only_two flow.edges point number second which says (record { edge = edge; there = there; from = from })) [ inl same ↦ omega arith | inr same ↦ omega arith ])
  where
    ordered_of : SaysOut flow.edges point (Two number second) → number < second
    ordered_of (edge, other, there, there', are, ordered) = ordered

pub out_second : (flow : Flow) (P : ℕ → Type 0) (point number second : ℕ) (outs : List Out) → Passes flow P point → AreOuts flow.edges outs → get_or outs point Nothing ≡ Two number second →
    P (number + 1) → P second
out_second flow P point number second outs passes are is on =
    let says : SaysOut flow.edges point (Two number second) = says_there flow.edges outs point (Two number second) are is in
    let ordered : number < second = ordered_of says in
    passes.past (number + 1) second on (omega arith) (λ which edge late below there ordinary from.
    elim (only_two flow.edges point number second which says (record { edge = edge; there = there; from = from })) [ inl same ↦ omega arith | inr same ↦ omega arith ])
  where
    ordered_of : SaysOut flow.edges point (Two number second) → number < second
    ordered_of (edge, other, there, there', are, ordered) = ordered

pub out_end : (flow : Flow) (P : ℕ → Type 0) (point number second : ℕ) (outs : List Out) → Passes flow P point → AreOuts flow.edges outs → get_or outs point Nothing ≡ Two number second →
    P (second + 1) → P (length flow.edges)
out_end flow P point number second outs passes are is on =
    let says : SaysOut flow.edges point (Two number second) = says_there flow.edges outs point (Two number second) are is in
    let ordered : number < second = (ordered_of says).0 in
    let within : second < length flow.edges = (ordered_of says).1 in
    passes.past (second + 1) (length flow.edges) on (omega arith) (λ which edge late below there ordinary from.
    elim (only_two flow.edges point number second which says (record { edge = edge; there = there; from = from })) [ inl same ↦ omega arith | inr same ↦ omega arith ])
  where
    ordered_of : SaysOut flow.edges point (Two number second) → (number < second) × (second < length flow.edges)
    ordered_of (edge, other, there, there', are, ordered) = (ordered, slice_get_within flow.edges second other there')

-- an exclusive graph has no point with more
pub out_more : {A : Type 0} (flow : Flow) (point : ℕ) (outs : List Out) → IsExclusive flow → AreOuts flow.edges outs → get_or outs point Nothing ≡ More → A
out_more flow point outs exclusive are is = by_says (says_there flow.edges outs point More are is)
  where
    by_says : {A : Type 0} → SaysOut flow.edges point More → A
    by_says (one, other, third, (rest, is)) =
        let no : IsTrue (are_exclusive (one ∷ other ∷ third ∷ rest)) = subst (λ (es : List FlowEdge). IsTrue (are_exclusive es)) is (exclusive.each point) in absurd cc
