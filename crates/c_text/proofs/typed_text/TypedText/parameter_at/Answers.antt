-- The row is the first of those behind so many.
use Rattle.std.proofs.Common.{◌+◌, List, map, drop, ap, ◌∙◌}
use Rattle.typing.specs.Outcomes.{Handed, ParameterRow}
use Rattle.c_machine.specs.Program.{leading_parameters}
use Rattle.c_text.specs.Functions.{parameter_object}
use Rattle.c_text.specs.Kept.{sized}
use Rattle.c_text.proofs.FirstRows.{rows_at}
use Rattle.c_text.proofs.Following.{on_none, on_some}
use Rattle.c_text.proofs.typed_text.TypedText.parameter_at.Goals as goal

pub returns-clause-some : goal.returns-clause-some
returns-clause-some c = on_some _ _ c.parameter_alone.result
    (λ object is. λ n p stands.
    ap (λ (rows : List Handed). map (λ (param : ParameterRow). sized (parameter_object p param)) (leading_parameters rows))
    (rows_at n c.args.self.now p c.args.at c.handed_row.result stands c.handed_row.ensures.is)
    ∙ is n p (drop (c.args.at + 1) p.handed) stands)
    c.parameter_alone.ensures.some

pub returns-clause-none : goal.returns-clause-none
returns-clause-none c = on_none _ _ c.parameter_alone.result
    (λ is. λ n p stands.
    ap leading_parameters (rows_at n c.args.self.now p c.args.at c.handed_row.result stands c.handed_row.ensures.is)
    ∙ is n (drop (c.args.at + 1) p.handed))
    c.parameter_alone.ensures.none
