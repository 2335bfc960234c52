-- What is known of all rows is known of this one.
use Rattle.std.proofs.Common.{◌≡◌, ◌<◌, length, true, List, sym, ap, ◌∙◌, drop-cons, subst}
use Rattle.expressions.specs.Context.{Context}
use Rattle.expressions.specs.declared.handed_row.HandedRow.{HandedRow}
use Rattle.c_text.specs.Rows.{are_known}
use Rattle.c_text.proofs.FirstRows.{known_at}
use Rattle.c_text.proofs.typed_text.TypedText.handed_row.Goals as goal

pub returns-clause-known : goal.returns-clause-known
returns-clause-known c =
    let known = subst (λ (context : Context). are_known (length context.types) (length context.environment.signatures) context.handed ≡ true)
    c.self.view_is c.self.invariant.known in
    let same = c.handed.ensures ∙ ap (λ (context : Context). context.handed) c.self.view_is in
    known_at (length c.args.self.now.types) (length c.args.self.now.environment.signatures) c.handed.result.now c.args.at _ _
    (subst (λ (rows : List HandedRow). are_known (length c.args.self.now.types) (length c.args.self.now.environment.signatures) rows ≡ true) (sym same) known)
    (drop-cons c.handed.result.now c.args.at _ (subst (λ (rows : List HandedRow). c.args.at < length rows) (sym same) c.requires))
