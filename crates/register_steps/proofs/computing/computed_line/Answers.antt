use Rattle.std.proofs.Common.{sym, ◌∙◌, ap}
use Rattle.graph.specs.declared.value.Value.{Value}
use Rattle.register_steps.specs.Lines.{computed_line}
use Rattle.register_steps.proofs.computing.computed_line.Goals as goal

pub returns-in-Const : goal.returns-in-Const
returns-in-Const c = c.of_constant.ensures c.in-Const.size ∙ ap (λ (one : Value). computed_line c.args.op c.args.size c.args.signed one c.args.other) (sym c.in-Const.is)
