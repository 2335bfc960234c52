-- Nine walks lead on from main's entry in the example: it has one for each of its points that main reaches.
use Rattle.std.proofs.Common.{◌≡◌, ℕ, zero, suc, ◌<◌, Bool, true, false, not, nat_eq, Option, Some, refl, sym, ◌∙◌, ap, subst, eqb-true, arith}
use Rattle.std.specs.Prelude.{slice_get}
use Rattle.std.proofs.lemmas.Bool.{false≢true}
use Rattle.std.proofs.lemmas.Option.{same_Some, none-some}
use Rattle.graph.proofs.Tests.{and_left, and_right}
use Rattle.flow.specs.declared.flow_graph.FlowEdge.{FlowEdge}
use Rattle.flow.specs.Walks.{is_return, IsStep}
use Rattle.plain.specs.Example.{edges, example}
use Rattle.plain.specs.Followed.{HasFewWalks}
use Rattle.plain.specs.Sizes.{objects_of, IsSmall}
use Rattle.plain.proofs.LineWalks.{line_walks}

-- Each edge leads from the point of its number to the next one; the last is the return.

record IsLine (number : ℕ) (found : FlowEdge) : Type 0 where
  from_is : found.from ≡ number
  to_is : found.to ≡ suc number
  more : is_return found.instr ≡ false → number < 8

line_at : (number : ℕ) (one found : FlowEdge) → IsLine number one → ◌≡◌ {A = Option FlowEdge} (Some one) (Some found) → IsLine number found
line_at number one found line is = subst (IsLine number) (same_Some one found is) line

lines : (number : ℕ) (found : FlowEdge) → slice_get edges number ≡ Some found → IsLine number found
lines zero found is = line_at 0 _ found (record { from_is = refl; to_is = refl; more = λ no. omega arith }) is
lines (suc zero) found is = line_at 1 _ found (record { from_is = refl; to_is = refl; more = λ no. omega arith }) is
lines (suc (suc zero)) found is = line_at 2 _ found (record { from_is = refl; to_is = refl; more = λ no. omega arith }) is
lines (suc (suc (suc zero))) found is = line_at 3 _ found (record { from_is = refl; to_is = refl; more = λ no. omega arith }) is
lines (suc (suc (suc (suc zero)))) found is = line_at 4 _ found (record { from_is = refl; to_is = refl; more = λ no. omega arith }) is
lines (suc (suc (suc (suc (suc zero))))) found is = line_at 5 _ found (record { from_is = refl; to_is = refl; more = λ no. omega arith }) is
lines (suc (suc (suc (suc (suc (suc zero)))))) found is = line_at 6 _ found (record { from_is = refl; to_is = refl; more = λ no. omega arith }) is
lines (suc (suc (suc (suc (suc (suc (suc zero))))))) found is = line_at 7 _ found (record { from_is = refl; to_is = refl; more = λ no. omega arith }) is
lines (suc (suc (suc (suc (suc (suc (suc (suc zero)))))))) found is = line_at 8 _ found (record { from_is = refl; to_is = refl; more = λ no. absurd (false≢true (sym no)) }) is
lines (suc (suc (suc (suc (suc (suc (suc (suc (suc number))))))))) found is = absurd (none-some found is)

step_is : (from number to : ℕ) → IsStep edges from number to → (number ≡ from) × ((to ≡ suc from) × (from < 8))
step_is from number to step =
    let line : IsLine number step.edge = lines number step.edge step.stands in
    let here : step.edge.from ≡ from = eqb-true step.edge.from from (and_left (nat_eq step.edge.from from) (not (is_return step.edge.instr)) step.goes) in
    let no : is_return step.edge.instr ≡ false = not_true (is_return step.edge.instr) (and_right (nat_eq step.edge.from from) (not (is_return step.edge.instr)) step.goes) in
    let same : number ≡ from = sym line.from_is ∙ here in
    let less : number < 8 = line.more no in
    (same, (sym step.leads ∙ (line.to_is ∙ ap suc same), omega (arith, same)))
  where
    not_true : (b : Bool) → not b ≡ true → b ≡ false
    not_true true is = absurd (false≢true is)
    not_true false is = refl

-- an edge of each number below 8 is a step
abbrev IsStepThere : ℕ → Type 0
IsStepThere number = IsStep edges number number (suc number)

step_there : (number : ℕ) → number < 8 → IsStepThere number
step_there zero less = record { edge = _; stands = refl; goes = refl; leads = refl }
step_there (suc zero) less = record { edge = _; stands = refl; goes = refl; leads = refl }
step_there (suc (suc zero)) less = record { edge = _; stands = refl; goes = refl; leads = refl }
step_there (suc (suc (suc zero))) less = record { edge = _; stands = refl; goes = refl; leads = refl }
step_there (suc (suc (suc (suc zero)))) less = record { edge = _; stands = refl; goes = refl; leads = refl }
step_there (suc (suc (suc (suc (suc zero))))) less = record { edge = _; stands = refl; goes = refl; leads = refl }
step_there (suc (suc (suc (suc (suc (suc zero)))))) less = record { edge = _; stands = refl; goes = refl; leads = refl }
step_there (suc (suc (suc (suc (suc (suc (suc zero))))))) less = record { edge = _; stands = refl; goes = refl; leads = refl }
step_there (suc (suc (suc (suc (suc (suc (suc (suc number)))))))) less = absurd (omega arith)

pub example_walks : HasFewWalks example 9
example_walks = record { number = 9; walks = line_walks edges (λ at. at) 8 (λ at number to low step. step_is at number to step) step_there; within = omega arith }

pub example_small : IsSmall example
example_small = let objects : objects_of example ≡ 2 = refl in record { objects = omega (arith, objects); edges = omega arith }
