use Rattle.std.proofs.Common.{sym, ◌∙◌, subst, ℕ}
use Rattle.bytes_core.specs.Indexed.{IsLastBefore, BeginNotBefore}
use Rattle.bytes_core.proofs.Indexed.{fits_none, fits_last}
use Rattle.bytes_core.proofs.placement.fits_beside.Goals as goal

pub returns-in-None : goal.returns-in-None
returns-in-None c =
    sym (fits_none c.args.blocks.now c.args.index.now.bases c.args.block.now c.requires.indexed.begins
    (subst (λ (end : ℕ). BeginNotBefore c.args.index.now.bases end) c.end_of.ensures c.in-None.ensures.none))

pub returns-in-Some : goal.returns-in-Some
returns-in-Some c =
    c.fits_there.ensures
    ∙ fits_last c.args.blocks.now c.args.index.now.bases c.args.block.now c.in-Some.number c.requires.memory c.requires.indexed.begins
    (subst (λ (end : ℕ). IsLastBefore c.args.index.now.bases end c.in-Some.number) c.end_of.ensures c.in-Some.ensures.some)
