-- The value that is converted names no block but one that the value names.
use Rattle.std.proofs.Common.{◌≡◌, ◌∙◌, ℕ, length, sym, ap, subst}
use Rattle.bytes_core.specs.Valid.{WordNamesBelow}
use Rattle.c_machine.specs.State.{State}
use Rattle.c_steps.proofs.NamedWords.{names_of_converted}
use Rattle.c_steps.proofs.leaving.leave_body.Goals as goal

pub push-requires : goal.push-requires
push-requires g c =
    let count : State g.row.E.Denot g.row.S.Denot g.row.I.Denot → ℕ = λ state. length state.memory in
    let same : length c.keep_oldest.new.self.memory ≡ length c.args.state.now.memory = ap count c.keep_oldest.ensures ∙ ap count c.leave_to_body.ensures.rest in
    subst (λ (n : ℕ). WordNamesBelow n c.as_kind-converted.result) (sym same)
    (subst (WordNamesBelow (length c.args.state.now.memory)) (sym c.as_kind-converted.ensures)
    (names_of_converted _ c.memory.result.now c.args.kind c.in-Some.left.result c.args.value c.requires))
