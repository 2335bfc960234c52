-- The type of a row that is found is one of the context.
use Rattle.std.proofs.Common.{◌≡◌, ◌<◌, length, true, Option, sym, ap, ◌∙◌, subst}
use Rattle.std.specs.Prelude.{IfSome}
use Rattle.expressions.specs.Context.{Context}
use Rattle.c_text.specs.declared.object_row.ObjectRow.{ObjectRow}
use Rattle.c_text.specs.FirstRows.{first_in}
use Rattle.c_text.specs.Objects.{object_here}
use Rattle.c_text.specs.Rows.{are_known}
use Rattle.c_text.proofs.ObjectsFound.{object_typed}
use Rattle.c_text.proofs.typed_text.TypedText.object_row.Goals as goal

pub returns-clause-typed : goal.returns-clause-typed
returns-clause-typed c =
    let found = c.found.ensures
    ∙ c.self.invariant.gathered.objects c.args.token
    ∙ ap (λ (context : Context). first_in (object_here c.args.token) context.handed) c.self.view_is in
    let known = subst (λ (context : Context). are_known (length context.types) (length context.environment.signatures) context.handed ≡ true)
    c.self.view_is c.self.invariant.known in
    subst (λ (found : Option ObjectRow). IfSome found (λ (row : ObjectRow). row.ctype < length c.args.self.now.types)) (sym found)
    (object_typed (length c.args.self.now.types) (length c.args.self.now.environment.signatures) c.args.token c.args.self.now.handed known)
