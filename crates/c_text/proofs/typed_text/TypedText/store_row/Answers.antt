-- The type of a row that is found is one of the context.
use Rattle.std.proofs.Common.{◌≡◌, ◌<◌, length, true, Option, sym, ap, ◌∙◌, subst}
use Rattle.std.specs.Prelude.{IfSome}
use Rattle.expressions.specs.Context.{Context}
use Rattle.c_text.specs.declared.store_row.StoreRow.{StoreRow}
use Rattle.c_text.specs.FirstRows.{first_in}
use Rattle.c_text.specs.Stores.{store_here}
use Rattle.c_text.specs.Rows.{are_known}
use Rattle.c_text.proofs.StoresFound.{store_typed}
use Rattle.c_text.proofs.typed_text.TypedText.store_row.Goals as goal

pub returns-clause-typed : goal.returns-clause-typed
returns-clause-typed c =
    let found = c.store_found.ensures
    ∙ c.self.invariant.gathered.stores c.args.token c.args.number
    ∙ ap (λ (context : Context). first_in (store_here c.args.token c.args.number) context.handed) c.self.view_is in
    let known = subst (λ (context : Context). are_known (length context.types) (length context.environment.signatures) context.handed ≡ true)
    c.self.view_is c.self.invariant.known in
    subst (λ (found : Option StoreRow). IfSome found (λ (row : StoreRow). row.ctype < length c.args.self.now.types)) (sym found)
    (store_typed (length c.args.self.now.types) (length c.args.self.now.environment.signatures) c.args.token c.args.number c.args.self.now.handed known)
