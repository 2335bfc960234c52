-- The statement up to which none but `;` alone stands behind it.
use Rattle.std.proofs.Common.{◌-◌, sym, ◌∙◌, arith}
use Rattle.c_machine.specs.declared.kind.Kind.TheVariants.{Void}
use Rattle.lowering.specs.Told.{trees}
use Rattle.lowering.proofs.Inside.{last_here, last_none}
use Rattle.lowering.proofs.inner.last_of.Goals as goal

pub returns-then-many-eq0 : goal.returns-then-many-eq0
returns-then-many-eq0 c = sym (last_none (trees Void) c.args.body.now (sym c.until_last-many.ensures.is ∙ c.if-many-eq0.true))

pub returns : goal.returns
returns c = c.ending.ensures
    ∙ last_here _ _ (c.until_last-many.result - 1) c.index-body-many.result (omega (arith, c.if-many-eq0.false)) c.until_last-many.ensures.is c.until_last-many.ensures.inside c.index-body-many.is
