use Rattle.std.proofs.Common.{Some, length, ap, ◌∙◌}
use Rattle.cbase.specs.declared.abi.Abi.TheVariants.{Lp64}
use Rattle.cbase.specs.Layout.{struct_at}
use Rattle.typing.proofs.ctypes.Laid.{row_laid, row_missing}
use Rattle.typing.proofs.ctypes.types.Types.layout.Goals as goal

pub returns-in-None-clause-value : goal.returns-in-None-clause-value
returns-in-None-clause-value c =
    row_missing _ _ c.row-row.result.count (c.row-row.ensures.layout (struct_at Lp64 (length c.args.self.now.structs) c.args.self.now.structs)) c.in-None.ensures.value

pub returns-in-Some-clause-value : goal.returns-in-Some-clause-value
returns-in-Some-clause-value c =
    ap Some c.repeated.ensures ∙ row_laid _ _ c.row-row.result.count c.in-Some.part (c.row-row.ensures.layout (struct_at Lp64 (length c.args.self.now.structs) c.args.self.now.structs)) c.in-Some.ensures.value
