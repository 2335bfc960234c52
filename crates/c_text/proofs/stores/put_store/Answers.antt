-- A store that has no row gets one.
use Rattle.std.proofs.Common.{sym, ◌∙◌}
use Rattle.c_text.proofs.StoresFound.{comes}
use Rattle.c_text.proofs.stores.put_store.Goals as goal

pub returns-in_ok-insert-in-None : goal.returns-in_ok-insert-in-None
returns-in_ok-insert-in-None c = λ object number.
    c.in_ok-insert-in-None.ensures.updates.0 (record { object = object; number = number })
    ∙ comes c.args.stores.now.entries c.args.row object number (sym c.store_found.ensures ∙ c.in-None.is)
