use Rattle.std.proofs.Common.{◌∙◌, ap, map}
use Rattle.cgrammar.specs.Operators.{row_of}
use Rattle.ctokens.specs.SymbolRows.{row_read}
use Rattle.cgrammar.proofs.operators.binary_operator.Goals as goal

pub returns-in_default : goal.returns-in_default
returns-in_default c = c.entry_of.ensures ∙ ap (λ rows. row_of c.args.mark.now (map row_read rows)) c.as_slice.ensures
