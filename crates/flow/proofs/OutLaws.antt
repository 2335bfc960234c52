-- What is noted of the edges out of points tells whether a graph is exclusive.
use Rattle.std.proofs.Common.{◌≡◌, ℕ, ◌<◌, ◌≤◌, List, length, true, sym, ap, subst, ⊎_elim}
use Rattle.std.specs.Prelude.{slice_index_or}
use Rattle.std.proofs.lemmas.Bool.{cases_lt}
use Rattle.std.proofs.lemmas.List.{get_or_past}
use Rattle.flow.specs.declared.flow_graph.Flow.{Flow}
use Rattle.flow.specs.declared.outs.Out.{Out}
use Rattle.flow.specs.declared.outs.Out.TheVariants.{Nothing}
use Rattle.flow.specs.Valid.{edges_out}
use Rattle.flow.specs.Marked.{SaysOut, AreOuts}
use Rattle.flow.specs.Exclusive.{are_exclusive, IsExclusive}

pub exclusive_all : (flow : Flow) (outs : List Out) → AreOuts flow.edges outs → length outs ≡ flow.points →
    ((point : ℕ) → point < flow.points → are_exclusive (edges_out flow point) ≡ true) → IsExclusive flow
exclusive_all flow outs are long each = record { each = λ point. ⊎_elim (each point) (beyond point) (cases_lt point flow.points) }
  where
    beyond : (point : ℕ) → flow.points ≤ point → are_exclusive (edges_out flow point) ≡ true
    beyond point behind =
        let past : slice_index_or outs point Nothing ≡ Nothing = get_or_past outs point Nothing (subst (λ (n : ℕ). n ≤ point) (sym long) behind) in
        ap are_exclusive (subst (SaysOut flow.edges point) past (are.says point))
