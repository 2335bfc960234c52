-- The example is a plain program of six walks.
use Rattle.std.proofs.Common.{◌≡◌, ℕ, zero, suc, ◌<◌, ◌≤◌, Bool, true, false, not, [], ◌∷◌, nat_eq, Some, refl, sym, ◌∙◌, ap, subst, eqb-true, arith}
use Rattle.std.specs.Prelude.{slice_get}
use Rattle.std.proofs.lemmas.Bool.{false≢true}
use Rattle.std.proofs.lemmas.List.Elements.{All-nil, All-cons}
use Rattle.std.proofs.lemmas.Option.{same_Some, none-some}
use Rattle.graph.specs.State.{State}
use Rattle.graph.proofs.Tests.{and_left, and_right}
use Rattle.flow.specs.declared.flow_graph.FlowEdge.{FlowEdge}
use Rattle.flow.specs.declared.instruction.Instr.TheVariants.{Number, Move, Enter, Leave, Finish, Return}
use Rattle.flow.specs.Walks.{is_return, IsStep}
use Rattle.trail.specs.Seen.{is_call, HasNoCalls}
use Rattle.plain.specs.Conditions.{IsPlainAt}
use Rattle.plain.specs.Marks.{Marks, inputs_after}
use Rattle.plain.specs.PlainRuns.{IsPlain}
use Rattle.plain.specs.Sizes.{objects_of, IsSmall}
use Rattle.plain.proofs.LineWalks.{line_walks}
use Rattle.plain.proofs.NoInputs.{HoldsNone, none_emptied, none_gained, plain_without_inputs}
use Rattle.plain_programs.specs.Example.{edge, edges, graph, IsExampleProgramPlain}
use Rattle.plain_programs.proofs.ExampleMade.{is_made}

-- what holds of each of its edges holds of the one with a number
on_edge : (P : ℕ → FlowEdge → Type 0) → P 0 (edge 0 3 (Enter []) 10) → P 1 (edge 3 5 (Number 1 5 4) 8) → P 2 (edge 5 6 (Move 0 1) 0) → P 3 (edge 6 7 (Finish (1 ∷ [])) 0) → P 4 (edge 7 1 (Leave []) 0) → P 5 (edge 4 8 (Number 0 0 4) 10) → P 6 (edge 8 1 (Leave []) 10) → P 7 (edge 1 2 (Return (Some 0)) 10) →
    (number : ℕ) (found : FlowEdge) → slice_get edges number ≡ Some found → P number found
on_edge P a b c d e f g h zero found is = subst (P 0) (same_Some (edge 0 3 (Enter []) 10) found is) a
on_edge P a b c d e f g h (suc zero) found is = subst (P 1) (same_Some (edge 3 5 (Number 1 5 4) 8) found is) b
on_edge P a b c d e f g h (suc (suc zero)) found is = subst (P 2) (same_Some (edge 5 6 (Move 0 1) 0) found is) c
on_edge P a b c d e f g h (suc (suc (suc zero))) found is = subst (P 3) (same_Some (edge 6 7 (Finish (1 ∷ [])) 0) found is) d
on_edge P a b c d e f g h (suc (suc (suc (suc zero)))) found is = subst (P 4) (same_Some (edge 7 1 (Leave []) 0) found is) e
on_edge P a b c d e f g h (suc (suc (suc (suc (suc zero))))) found is = subst (P 5) (same_Some (edge 4 8 (Number 0 0 4) 10) found is) f
on_edge P a b c d e f g h (suc (suc (suc (suc (suc (suc zero)))))) found is = subst (P 6) (same_Some (edge 8 1 (Leave []) 10) found is) g
on_edge P a b c d e f g h (suc (suc (suc (suc (suc (suc (suc zero))))))) found is = subst (P 7) (same_Some (edge 1 2 (Return (Some 0)) 10) found is) h
on_edge P a b c d e f g h (suc (suc (suc (suc (suc (suc (suc (suc number)))))))) found is = absurd (none-some found is)

keeps_none : (input : ℕ → Bool) → HoldsNone input → (number : ℕ) (found : FlowEdge) → slice_get edges number ≡ Some found → HoldsNone (inputs_after found.instr input)
keeps_none input none =
    on_edge (λ number found. HoldsNone (inputs_after found.instr input)) none (none_gained [] 1 input none) (none_gained [] 0 input none) (none_emptied (1 ∷ []) input none) none (none_gained [] 0 input none) none none

asks_little : (state : State) (marks : Marks) → HoldsNone marks.input → (number : ℕ) (found : FlowEdge) → slice_get edges number ≡ Some found → IsPlainAt found.instr state marks
asks_little state marks none = on_edge (λ number found. IsPlainAt found.instr state marks) tt tt (none 1) tt tt tt tt tt

is_plain : IsPlain graph
is_plain = plain_without_inputs graph keeps_none asks_little refl

-- It has no call, no objects and few edges.

abbrev is_other : FlowEdge → Type 0
is_other found = is_call found.instr ≡ false

no_calls : HasNoCalls graph
no_calls = All-cons is_other (edge 0 3 (Enter []) 10) (edge 3 5 (Number 1 5 4) 8 ∷ edge 5 6 (Move 0 1) 0 ∷ edge 6 7 (Finish (1 ∷ [])) 0 ∷ edge 7 1 (Leave []) 0 ∷ edge 4 8 (Number 0 0 4) 10 ∷ edge 8 1 (Leave []) 10 ∷ edge 1 2 (Return (Some 0)) 10 ∷ []) refl (All-cons is_other (edge 3 5 (Number 1 5 4) 8) (edge 5 6 (Move 0 1) 0 ∷ edge 6 7 (Finish (1 ∷ [])) 0 ∷ edge 7 1 (Leave []) 0 ∷ edge 4 8 (Number 0 0 4) 10 ∷ edge 8 1 (Leave []) 10 ∷ edge 1 2 (Return (Some 0)) 10 ∷ []) refl (All-cons is_other (edge 5 6 (Move 0 1) 0) (edge 6 7 (Finish (1 ∷ [])) 0 ∷ edge 7 1 (Leave []) 0 ∷ edge 4 8 (Number 0 0 4) 10 ∷ edge 8 1 (Leave []) 10 ∷ edge 1 2 (Return (Some 0)) 10 ∷ []) refl (All-cons is_other (edge 6 7 (Finish (1 ∷ [])) 0) (edge 7 1 (Leave []) 0 ∷ edge 4 8 (Number 0 0 4) 10 ∷ edge 8 1 (Leave []) 10 ∷ edge 1 2 (Return (Some 0)) 10 ∷ []) refl (All-cons is_other (edge 7 1 (Leave []) 0) (edge 4 8 (Number 0 0 4) 10 ∷ edge 8 1 (Leave []) 10 ∷ edge 1 2 (Return (Some 0)) 10 ∷ []) refl (All-cons is_other (edge 4 8 (Number 0 0 4) 10) (edge 8 1 (Leave []) 10 ∷ edge 1 2 (Return (Some 0)) 10 ∷ []) refl (All-cons is_other (edge 8 1 (Leave []) 10) (edge 1 2 (Return (Some 0)) 10 ∷ []) refl (All-cons is_other (edge 1 2 (Return (Some 0)) 10) ([]) refl (All-nil is_other))))))))

is_small : IsSmall graph
is_small = let objects : objects_of graph ≡ 0 = refl in record { objects = omega (arith, objects); edges = omega arith }

-- Its walks go along a line of points.

abbrev point : ℕ → ℕ
point zero = 0
point (suc zero) = 3
point (suc (suc zero)) = 5
point (suc (suc (suc zero))) = 6
point (suc (suc (suc (suc zero)))) = 7
point (suc (suc (suc (suc (suc more))))) = 1

-- the place of a point in it; 9 of the others
abbrev place : ℕ → ℕ
place zero = 0
place (suc zero) = 5
place (suc (suc zero)) = 9
place (suc (suc (suc zero))) = 1
place (suc (suc (suc (suc zero)))) = 9
place (suc (suc (suc (suc (suc zero))))) = 2
place (suc (suc (suc (suc (suc (suc zero)))))) = 3
place (suc (suc (suc (suc (suc (suc (suc zero))))))) = 4
place (suc (suc (suc (suc (suc (suc (suc (suc more)))))))) = 9

placed : (at : ℕ) → at ≤ 5 → place (point at) ≡ at
placed zero low = refl
placed (suc zero) low = refl
placed (suc (suc zero)) low = refl
placed (suc (suc (suc zero))) low = refl
placed (suc (suc (suc (suc zero)))) low = refl
placed (suc (suc (suc (suc (suc zero))))) low = refl
placed (suc (suc (suc (suc (suc (suc more)))))) low = absurd (omega arith)

record IsLine (number : ℕ) (found : FlowEdge) : Type 0 where
  goes : is_return found.instr ≡ false → place found.from ≤ 5 → (place found.from ≡ number) × ((found.to ≡ point (suc number)) × (number < 5))

lines : (number : ℕ) (found : FlowEdge) → slice_get edges number ≡ Some found → IsLine number found
lines =
    on_edge IsLine (record { goes = λ no low. (refl, (refl, omega arith)) }) (record { goes = λ no low. (refl, (refl, omega arith)) }) (record { goes = λ no low. (refl, (refl, omega arith)) }) (record { goes = λ no low. (refl, (refl, omega arith)) })
    (record { goes = λ no low. (refl, (refl, omega arith)) }) (record { goes = λ no low. absurd (omega arith) }) (record { goes = λ no low. absurd (omega arith) }) (record { goes = λ no low. absurd (false≢true (sym no)) })

not_true : (b : Bool) → not b ≡ true → b ≡ false
not_true true is = absurd (false≢true is)
not_true false is = refl

step_is : (at number to : ℕ) → at ≤ 5 → IsStep edges (point at) number to → (number ≡ at) × ((to ≡ point (suc at)) × (at < 5))
step_is at number to low step =
    let here : step.edge.from ≡ point at = eqb-true step.edge.from (point at) (and_left (nat_eq step.edge.from (point at)) (not (is_return step.edge.instr)) step.goes) in
    let no : is_return step.edge.instr ≡ false = not_true (is_return step.edge.instr) (and_right (nat_eq step.edge.from (point at)) (not (is_return step.edge.instr)) step.goes) in
    let there : place step.edge.from ≡ at = ap place here ∙ placed at low in
    let (same, (next, less)) = (lines number step.edge step.stands).goes no (omega (arith, there, low)) in
    let one : number ≡ at = sym same ∙ there in
    (one, (sym step.leads ∙ (next ∙ ap (λ (k : ℕ). point (suc k)) one), omega (arith, one, less)))

step_there : (at : ℕ) → at < 5 → IsStep edges (point at) at (point (suc at))
step_there zero less = record { edge = _; stands = refl; goes = refl; leads = refl }
step_there (suc zero) less = record { edge = _; stands = refl; goes = refl; leads = refl }
step_there (suc (suc zero)) less = record { edge = _; stands = refl; goes = refl; leads = refl }
step_there (suc (suc (suc zero))) less = record { edge = _; stands = refl; goes = refl; leads = refl }
step_there (suc (suc (suc (suc zero)))) less = record { edge = _; stands = refl; goes = refl; leads = refl }
step_there (suc (suc (suc (suc (suc more))))) less = absurd (omega arith)

pub example_plain : IsExampleProgramPlain
example_plain = record {
  plain = record { graph = is_made; calls = no_calls; small = is_small; plain = is_plain };
  walks = record { number = 6; walks = line_walks edges point 5 step_is step_there; within = omega arith };
}
