-- Statements from a place on, from behind.
use Rattle.std.proofs.Common.{◌≡◌, ℕ, true, false, drop, subst, sym, ◌∙◌, arith}
use Rattle.c_machine.specs.Blocks.{are_empty}
use Rattle.c_machine.specs.Trees.{text_of}
use Rattle.c_run.proofs.tasks.BlocksEntered.{empty_behind, empty_from}
use Rattle.c_run.proofs.tasks.blocks.last_counted.Goals as goal

pub returns-then-not-is_empty-clause-full : goal.returns-then-not-is_empty-clause-full
returns-then-not-is_empty-clause-full c = λ p some.
    empty_from p c.args.body.now c.loop-at.at c.index-body-at.result false c.loop-at-test.true c.loop-at.invariant.0 c.index-body-at.is
    (sym c.if-not-is_empty.true ∙ c.is_empty.ensures p) (c.loop-at.invariant.1 p)

pub loop-at-preserved : goal.loop-at-preserved
loop-at-preserved c = (
  grind (arith, c.loop-at.invariant.0),
  λ p.
      empty_from p c.args.body.now c.loop-at.at c.index-body-at.result true c.loop-at-test.true c.loop-at.invariant.0 c.index-body-at.is
      (sym c.if-not-is_empty.false ∙ c.is_empty.ensures p) (c.loop-at.invariant.1 p),
)

pub returns-else-is_empty-clause-empty : goal.returns-else-is_empty-clause-empty
returns-else-is_empty-clause-empty c = λ p.
    let last : c.loop-at.at ≡ 0 = grind (arith, c.loop-at-test.false) in
    empty_behind p c.args.body.now
    (subst (λ (k : ℕ). are_empty (text_of p) (drop k c.args.body.now) ≡ true) last (c.loop-at.invariant.1 p))
