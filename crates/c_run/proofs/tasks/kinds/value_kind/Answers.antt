-- The kind of a value is the own kind, decayed.
use Rattle.std.proofs.Common.{ap, refl, sym, option_map, Some, ◌∙◌}
use Rattle.c_machine.specs.Program.{type_of}
use Rattle.c_machine.specs.Trees.{kind_in}
use Rattle.c_machine.specs.Words.{decayed}
use Rattle.c_run.proofs.tasks.KeptKinds.{kept_decays}
use Rattle.c_run.proofs.tasks.kinds.value_kind.Goals as goal

pub returns-in-None : goal.returns-in-None
returns-in-None c = λ n p stands.
    ap (option_map decayed) (sym c.in-None.is ∙ c.kind.ensures n p c.args.expr.now stands refl)
    ∙ kept_decays (kind_in p (type_of p c.args.expr.now))

pub returns-in-Some : goal.returns-in-Some
returns-in-Some c = λ n p stands.
    ap Some c.decayed.ensures
    ∙ ap (option_map decayed) (sym c.in-Some.is ∙ c.kind.ensures n p c.args.expr.now stands refl)
    ∙ kept_decays (kind_in p (type_of p c.args.expr.now))
