-- The example is plain: its states, point by point.
use Rattle.std.proofs.Common.{◌≡◌, ℕ, zero, suc, Bool, true, false, ◌&&◌, List, [], ◌∷◌, nat_eq, nat_lt, pos, negsuc, Option, None, Some, inr, refl, sym, ◌∙◌, ap, subst, eqb-true}
use Rattle.std.specs.Prelude.{slice_get, if◌then◌else◌}
use Rattle.std.specs.List.{list_all}
use Rattle.std.proofs.lemmas.Bool.{false≢true}
use Rattle.std.proofs.lemmas.Option.{same_Some, none-some}
use Rattle.cbase.specs.declared.place.Place.{Place}
use Rattle.choices.specs.declared.choice.Choice.{Choice}
use Rattle.choices.specs.declared.choice.Choice.TheVariants.{None as NoBlock, Block as NewBlock, Input as GivenInput}
use Rattle.bytes_core.specs.declared.block.BlockKind.TheVariants as storage
use Rattle.bytes_core.specs.declared.block.Block.{Block}
use Rattle.bytes_core.specs.declared.word.Word.{Word}
use Rattle.bytes_core.specs.declared.word.Word.TheVariants.{Plain, To}
use Rattle.bytes_core.specs.Access.{access_fault, bytes_at, loaded, stored}
use Rattle.bytes_core.specs.Fault.{memory_lost}
use Rattle.bytes_core.specs.Loss.{is_lost}
use Rattle.bytes_core.specs.Placement.{new_block, is_new_block}
use Rattle.flow.specs.declared.flow_graph.FlowEdge.{FlowEdge}
use Rattle.flow.specs.declared.instruction.Instr.TheVariants.{Enter, Leave, Finish}
use Rattle.flow.specs.Machine.{State, Outcome, Went, Barred, Waits, Ended, Faulted, at, with_value, with_memory, without_registers, after_scope, roots, unless_fault, step_along, execute}
use Rattle.flow.specs.Runs.{blank}
use Rattle.edge_steps.specs.Seen.{seen}
use Rattle.plain.specs.Marks.{Unwritten, Piece, Marks, marks_after}
use Rattle.plain.specs.Conditions.{IsPlainAt, AreOne, is_number}
use Rattle.plain.specs.PlainRuns.{start_marks, IsMarkedRun, Begins, Goes, IsPlain}
use Rattle.plain.specs.Example.{edge, edges, example}
use Rattle.plain.proofs.Ranges.{is_piece}

-- What an outcome leads to.

abbrev next_or : State → Outcome → State
next_or state (Went next choices) = next
next_or state Barred = state
next_or state Waits = state
next_or state Ended = state
next_or state (Faulted kind place) = state

abbrev goes_on : Outcome → Bool
goes_on (Went next choices) = true
goes_on Barred = false
goes_on Waits = false
goes_on Ended = false
goes_on (Faulted kind place) = false

same_next : (one other : State) (choices rest : List Choice) → Went one choices ≡ Went other rest → one ≡ other
same_next one other choices rest same = ap (next_or one) same

never : {A : Type 0} (outcome : Outcome) (next : State) (rest : List Choice) → goes_on outcome ≡ false → outcome ≡ Went next rest → A
never outcome next rest stays same = absurd (false≢true (sym stays ∙ ap goes_on same))

-- The states and their marks, where x has its block at a base with some contents.

module _ (base : ℕ) (contents : List ℕ) where
  abbrev block : Block
  block = new_block storage.Local base contents

  abbrev s1 : State
  s1 = record { point = 1; frame = record { variables = record { variable = 0; block = 0 } ∷ []; registers = [] }; callers = []; statics = []; memory = block ∷ []; outer = [] }

  abbrev s2 : State
  s2 = with_value 1 8 (To 0 (pos 0)) (at 2 s1)

  abbrev s3 : State
  s3 = at 3 (with_value 2 4 (Plain 5) s2)

  abbrev s4 : State
  s4 = at 4 (with_memory (stored (block ∷ []) (To 0 (pos 0)) 4 (Plain 5)) (without_registers (1 ∷ 2 ∷ []) s3))

  abbrev s5 : State
  s5 = at 5 (without_registers [] s4)

  abbrev s6 : State
  s6 = with_value 3 8 (To 0 (pos 0)) (at 6 s5)

  abbrev s7 : State
  s7 = at 7 (with_value 0 4 (loaded s6.memory (To 0 (pos 0)) 4 false) (without_registers (3 ∷ []) s6))

  abbrev s8 : State
  s8 = at 8 (after_scope (0 ∷ []) s7)

abbrev after : State → ℕ → Option FlowEdge → Marks → Marks
after state number None marks = marks
after state number (Some found) marks = marks_after found.instr (seen [] state) marks

abbrev m0 : Marks
m0 = start_marks example (blank 0)

abbrev m1 : Marks
m1 = after (blank 0) 0 (slice_get edges 0) m0

module _ (base : ℕ) (contents : List ℕ) where
  abbrev m2 : Marks
  m2 = after (s1 base contents) 1 (slice_get edges 1) m1

  abbrev m3 : Marks
  m3 = after (s2 base contents) 2 (slice_get edges 2) m2

  abbrev m4 : Marks
  m4 = after (s3 base contents) 3 (slice_get edges 3) m3

  abbrev m5 : Marks
  m5 = after (s4 base contents) 4 (slice_get edges 4) m4

  abbrev m6 : Marks
  m6 = after (s5 base contents) 5 (slice_get edges 5) m5

  abbrev m7 : Marks
  m7 = after (s6 base contents) 6 (slice_get edges 6) m6

  abbrev m8 : Marks
  m8 = after (s7 base contents) 7 (slice_get edges 7) m7

data At : State → Marks → Type 0 where
  At0 : At (blank 0) m0
  At1 : (base : ℕ) (contents : List ℕ) → At (s1 base contents) m1
  At2 : (base : ℕ) (contents : List ℕ) → At (s2 base contents) (m2 base contents)
  At3 : (base : ℕ) (contents : List ℕ) → At (s3 base contents) (m3 base contents)
  At4 : (base : ℕ) (contents : List ℕ) → At (s4 base contents) (m4 base contents)
  At5 : (base : ℕ) (contents : List ℕ) → At (s5 base contents) (m5 base contents)
  At6 : (base : ℕ) (contents : List ℕ) → At (s6 base contents) (m6 base contents)
  At7 : (base : ℕ) (contents : List ℕ) → At (s7 base contents) (m7 base contents)
  At8 : (base : ℕ) (contents : List ℕ) → At (s8 base contents) (m8 base contents)

-- The edge out of a point is the one of its number.

from_number : (number : ℕ) (found : FlowEdge) → slice_get edges number ≡ Some found → found.from ≡ number
from_number zero found is = sym (ap (λ (e : FlowEdge). e.from) (same_Some _ _ is))
from_number (suc zero) found is = sym (ap (λ (e : FlowEdge). e.from) (same_Some _ _ is))
from_number (suc (suc zero)) found is = sym (ap (λ (e : FlowEdge). e.from) (same_Some _ _ is))
from_number (suc (suc (suc zero))) found is = sym (ap (λ (e : FlowEdge). e.from) (same_Some _ _ is))
from_number (suc (suc (suc (suc zero)))) found is = sym (ap (λ (e : FlowEdge). e.from) (same_Some _ _ is))
from_number (suc (suc (suc (suc (suc zero))))) found is = sym (ap (λ (e : FlowEdge). e.from) (same_Some _ _ is))
from_number (suc (suc (suc (suc (suc (suc zero)))))) found is = sym (ap (λ (e : FlowEdge). e.from) (same_Some _ _ is))
from_number (suc (suc (suc (suc (suc (suc (suc zero))))))) found is = sym (ap (λ (e : FlowEdge). e.from) (same_Some _ _ is))
from_number (suc (suc (suc (suc (suc (suc (suc (suc zero)))))))) found is = sym (ap (λ (e : FlowEdge). e.from) (same_Some _ _ is))
from_number (suc (suc (suc (suc (suc (suc (suc (suc (suc number))))))))) found is = absurd (none-some found is)

edge_there : (point number : ℕ) (found : FlowEdge) → slice_get edges number ≡ Some found → found.from ≡ point → slice_get edges point ≡ Some found
edge_there point number found is here = ap (slice_get edges) (sym here ∙ from_number number found is) ∙ is

leaves_here : (found : FlowEdge) (state next : State) (choices rest : List Choice) → step_along example found state choices ≡ Went next rest → found.from ≡ state.point
leaves_here found state next choices rest goes = by_test (nat_eq found.from state.point) refl goes
  where
    by_test : (b : Bool) → nat_eq found.from state.point ≡ b → (if b then execute example found.instr found.to found.place state choices else Barred) ≡ Went next rest → found.from ≡ state.point
    by_test true is same = eqb-true _ _ is
    by_test false is same = never Barred next rest refl same

-- Where an edge leads.

enter_leads : (next : State) (choices : List Choice) → step_along example (edge 0 1 (Enter (0 ∷ []))) (blank 0) choices ≡ Went next [] → At next m1
enter_leads next [] goes = never Waits next [] refl goes
enter_leads next (NoBlock ∷ choices) goes = never Ended next [] refl goes
enter_leads next (GivenInput number ∷ choices) goes = never Ended next [] refl goes
enter_leads next (NewBlock base contents ∷ choices) goes = by_test (is_new_block [] storage.Local 4 base contents && true) goes
  where
    by_test : (b : Bool) → (if b then Went (s1 base contents) choices else Ended) ≡ Went next [] → At next m1
    by_test true same = subst (λ (s : State). At s m1) (same_next (s1 base contents) next choices [] same) (At1 base contents)
    by_test false same = never Ended next [] refl same

by_fault : (fault : Option ℕ) (place : Place) (behind next : State) (choices : List Choice) (marks : Marks) → At behind marks → unless_fault fault place (Went behind choices) ≡ Went next [] → At next marks
by_fault None place behind next choices marks there same = subst (λ (s : State). At s marks) (same_next behind next choices [] same) there
by_fault (Some kind) place behind next choices marks there same = never (Faulted kind place) next [] refl same

by_loss : (lost : Bool) (kind : ℕ) (place : Place) (behind next : State) (choices : List Choice) (marks : Marks) → At behind marks → (if lost then Faulted kind place else Went behind choices) ≡ Went next [] → At next marks
by_loss false kind place behind next choices marks there same = subst (λ (s : State). At s marks) (same_next behind next choices [] same) there
by_loss true kind place behind next choices marks there same = never (Faulted kind place) next [] refl same

leads : (state : State) (marks : Marks) → At state marks → (found : FlowEdge) (next : State) (choices : List Choice) → slice_get edges state.point ≡ Some found → step_along example found state choices ≡ Went next [] →
    At next (marks_after found.instr (seen [] state) marks)
leads _ _ At0 found next choices stands =
    subst (λ (e : FlowEdge). step_along example e (blank 0) choices ≡ Went next [] → At next (marks_after e.instr (seen [] (blank 0)) m0)) (same_Some _ _ stands) (enter_leads next choices)
leads _ _ (At1 base contents) found next choices stands =
    subst (λ (e : FlowEdge). step_along example e (s1 base contents) choices ≡ Went next [] → At next (marks_after e.instr (seen [] (s1 base contents)) m1)) (same_Some _ _ stands)
    (λ goes. subst (λ (s : State). At s (m2 base contents)) (same_next (s2 base contents) next choices [] goes) (At2 base contents))
leads _ _ (At2 base contents) found next choices stands =
    subst (λ (e : FlowEdge). step_along example e (s2 base contents) choices ≡ Went next [] → At next (marks_after e.instr (seen [] (s2 base contents)) (m2 base contents))) (same_Some _ _ stands)
    (λ goes. subst (λ (s : State). At s (m3 base contents)) (same_next (s3 base contents) next choices [] goes) (At3 base contents))
leads _ _ (At3 base contents) found next choices stands =
    subst (λ (e : FlowEdge). step_along example e (s3 base contents) choices ≡ Went next [] → At next (marks_after e.instr (seen [] (s3 base contents)) (m3 base contents))) (same_Some _ _ stands)
    (λ goes. by_fault (access_fault (s3 base contents).memory (To 0 (pos 0)) 4) _ (s4 base contents) next choices (m4 base contents) (At4 base contents) goes)
leads _ _ (At4 base contents) found next choices stands =
    subst (λ (e : FlowEdge). step_along example e (s4 base contents) choices ≡ Went next [] → At next (marks_after e.instr (seen [] (s4 base contents)) (m4 base contents))) (same_Some _ _ stands)
    (λ goes. by_loss (is_lost (s5 base contents).memory (roots (s5 base contents))) memory_lost (edge 4 5 (Finish [])).place (s5 base contents) next choices (m5 base contents) (At5 base contents) goes)
leads _ _ (At5 base contents) found next choices stands =
    subst (λ (e : FlowEdge). step_along example e (s5 base contents) choices ≡ Went next [] → At next (marks_after e.instr (seen [] (s5 base contents)) (m5 base contents))) (same_Some _ _ stands)
    (λ goes. subst (λ (s : State). At s (m6 base contents)) (same_next (s6 base contents) next choices [] goes) (At6 base contents))
leads _ _ (At6 base contents) found next choices stands =
    subst (λ (e : FlowEdge). step_along example e (s6 base contents) choices ≡ Went next [] → At next (marks_after e.instr (seen [] (s6 base contents)) (m6 base contents))) (same_Some _ _ stands)
    (λ goes. by_fault (access_fault (s6 base contents).memory (To 0 (pos 0)) 4) _ (s7 base contents) next choices (m7 base contents) (At7 base contents) goes)
leads _ _ (At7 base contents) found next choices stands =
    subst (λ (e : FlowEdge). step_along example e (s7 base contents) choices ≡ Went next [] → At next (marks_after e.instr (seen [] (s7 base contents)) (m7 base contents))) (same_Some _ _ stands)
    (λ goes. by_loss (is_lost (s8 base contents).memory (roots (s8 base contents))) memory_lost (edge 7 8 (Leave (0 ∷ []))).place (s8 base contents) next choices (m8 base contents) (At8 base contents) goes)
leads _ _ (At8 base contents) found next choices stands =
    subst (λ (e : FlowEdge). step_along example e (s8 base contents) choices ≡ Went next [] → At next (marks_after e.instr (seen [] (s8 base contents)) (m8 base contents))) (same_Some _ _ stands)
    (λ goes. never Ended next [] refl goes)

all_at : (state : State) (marks : Marks) → IsMarkedRun example state marks → At state marks
all_at _ _ (Begins choices state goes) = subst (λ (s : State). At s (start_marks example s)) (same_next (blank 0) state choices [] goes) At0
all_at _ _ (Goes state next marks number found choices run stands goes) =
    leads state marks (all_at state marks run) found next choices (edge_there state.point number found stands (leaves_here found state next choices [] goes)) goes

-- What is asked.

abbrev block_in : Word → ℕ
block_in (Plain number) = 0
block_in (To number offset) = number

abbrev place_in : Word → ℕ
place_in (Plain number) = 0
place_in (To number (pos from)) = from
place_in (To number (negsuc before)) = 0

no_piece : (b : Bool) (at size : ℕ) → (if b then Unwritten else Unwritten) ≡ Piece at size → ⊥
no_piece true at size is = false≢true (ap is_piece is)
no_piece false at size is = false≢true (ap is_piece is)

one_read : (number from base : ℕ) (contents : List ℕ) → number ≡ 0 → from ≡ 0 → AreOne ((m6 base contents).of number) from 4
one_read number from base contents number_is from_is =
    subst (λ (n : ℕ). AreOne ((m6 base contents).of n) from 4) (sym number_is) (subst (λ (n : ℕ). AreOne ((m6 base contents).of 0) n 4) (sym from_is)
    (inr (λ place here. ap (λ (b : Bool). if b then Piece 0 4 else Unwritten) here)))

asked : (state : State) (marks : Marks) → At state marks → (found : FlowEdge) → slice_get edges state.point ≡ Some found → IsPlainAt found.instr (seen [] state) marks
asked _ _ At0 found stands = subst (λ (e : FlowEdge). IsPlainAt e.instr (seen [] (blank 0)) m0) (same_Some _ _ stands) tt
asked _ _ (At1 base contents) found stands = subst (λ (e : FlowEdge). IsPlainAt e.instr (seen [] (s1 base contents)) m1) (same_Some _ _ stands) tt
asked _ _ (At2 base contents) found stands = subst (λ (e : FlowEdge). IsPlainAt e.instr (seen [] (s2 base contents)) (m2 base contents)) (same_Some _ _ stands) tt
asked _ _ (At3 base contents) found stands = subst (λ (e : FlowEdge). IsPlainAt e.instr (seen [] (s3 base contents)) (m3 base contents)) (same_Some _ _ stands)
    (record { known = refl; source = refl; whole = λ block from led free place at size here is. absurd (no_piece (nat_lt block 0) at size is) })
asked _ _ (At4 base contents) found stands = subst (λ (e : FlowEdge). IsPlainAt e.instr (seen [] (s4 base contents)) (m4 base contents)) (same_Some _ _ stands) tt
asked _ _ (At5 base contents) found stands = subst (λ (e : FlowEdge). IsPlainAt e.instr (seen [] (s5 base contents)) (m5 base contents)) (same_Some _ _ stands) tt
asked _ _ (At6 base contents) found stands = subst (λ (e : FlowEdge). IsPlainAt e.instr (seen [] (s6 base contents)) (m6 base contents)) (same_Some _ _ stands) (record {
  known = refl;
  one = λ block from led free. one_read block from base contents (sym (ap block_in (same_Some _ _ led))) (sym (ap place_in (same_Some _ _ led)));
  numbers = λ integer to led free. subst (λ (w : Word). list_all is_number (bytes_at (s6 base contents).memory w 4) ≡ true) (same_Some _ _ led) refl;
})
asked _ _ (At7 base contents) found stands = subst (λ (e : FlowEdge). IsPlainAt e.instr (seen [] (s7 base contents)) (m7 base contents)) (same_Some _ _ stands) tt
asked _ _ (At8 base contents) found stands = subst (λ (e : FlowEdge). IsPlainAt e.instr (seen [] (s8 base contents)) (m8 base contents)) (same_Some _ _ stands) tt

pub example_plain : IsPlain example
example_plain = record { heads = refl; at = λ state marks number found run stands here. asked state marks (all_at state marks run) found (edge_there state.point number found stands here) }
