use Rattle.std.proofs.Common.{◌≡◌, rules, ◌∙◌, sym}
use Rattle.std.proofs.lemmas.Slice.Eq.{slice_eq-Decides}
use Rattle.flow.specs.declared.flow_graph.Width.{Width}
use Rattle.flow.specs.Standing.{registers_after}
use Rattle.flow.proofs.behind.registers_lead.Goals as goal

pub returns : goal.returns
returns c =
    let same = slice_eq-Decides {A = Width} (λ a b. search rules) c.as_slice.result.now c.args.after.now c.eq.result c.eq.ensures in
    let made : c.as_slice.result.now ≡ registers_after c.args.flow.now c.args.instr.now c.args.before.now = c.as_slice.ensures.value ∙ c.in_ok-all.ensures in
    (λ t. sym made ∙ same.0 t, λ e. same.1 (made ∙ e))
