-- What a row that is found names is of the context.
use Rattle.std.proofs.Common.{◌≡◌, length, true, Option, sym, ap, ◌∙◌, subst}
use Rattle.expressions.specs.Context.{Context}
use Rattle.c_text.specs.declared.expression_row.ExpressionRow.{ExpressionRow}
use Rattle.c_text.specs.Rows.{row_at, row_in, are_known}
use Rattle.c_text.proofs.RowsFound.{IsTyped, IsKnown, in_known}
use Rattle.c_text.proofs.typed_text.TypedText.row.Goals as goal

pub returns-clause-typed : goal.returns-clause-typed
returns-clause-typed c =
    let found = c.row_at.ensures
    ∙ ap (λ rows. row_at rows c.args.number) c.deref.ensures.value
    ∙ c.self.invariant.gathered.rows c.args.number
    ∙ ap (λ (context : Context). row_in c.args.number context.handed) c.self.view_is in
    let known = subst (λ (context : Context). are_known (length context.types) (length context.environment.signatures) context.handed ≡ true)
    c.self.view_is c.self.invariant.known in
    subst (λ (row : Option ExpressionRow). IsTyped (length c.args.self.now.types) row) (sym found)
    (in_known (length c.args.self.now.types) (length c.args.self.now.environment.signatures) c.args.number c.args.self.now.handed known).0

pub returns-clause-known : goal.returns-clause-known
returns-clause-known c =
    let found = c.row_at.ensures
    ∙ ap (λ rows. row_at rows c.args.number) c.deref.ensures.value
    ∙ c.self.invariant.gathered.rows c.args.number
    ∙ ap (λ (context : Context). row_in c.args.number context.handed) c.self.view_is in
    let known = subst (λ (context : Context). are_known (length context.types) (length context.environment.signatures) context.handed ≡ true)
    c.self.view_is c.self.invariant.known in
    subst (λ (row : Option ExpressionRow). IsKnown (length c.args.self.now.environment.signatures) row) (sym found)
    (in_known (length c.args.self.now.types) (length c.args.self.now.environment.signatures) c.args.number c.args.self.now.handed known).1
