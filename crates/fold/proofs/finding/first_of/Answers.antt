use Rattle.std.proofs.Common.{false, sym, ◌∙◌, arith}
use Rattle.std.proofs.lemmas.Bool.{false≢true}
use Rattle.std.proofs.lemmas.Option.{slice_get-get_or}
use Rattle.fold.proofs.Tried.{tried_next, tried_found, none_left}
use Rattle.fold.proofs.finding.first_of.Goals as goal

pub returns-then-fine-clause-first : goal.returns-then-fine-clause-first
returns-then-fine-clause-first c =
    tried_found c.args.graph.now c.args.folds.now c.loop-at.at _ c.requires c.loop-at.invariant.tried
    (slice_get-get_or c.args.folds.now c.loop-at.at (record { first = 0; second = 0; twofold = false; head = 0; next = 0; prev = 0; back = 0 }) c.loop-at-test.true) (c.in-Ok.ensures.0 c.if-fine.true)

pub loop-at-preserved : goal.loop-at-preserved
loop-at-preserved c = record {
  tried =
      tried_next c.args.graph.now c.args.folds.now c.loop-at.at _ c.loop-at.invariant.tried
      (slice_get-get_or c.args.folds.now c.loop-at.at (record { first = 0; second = 0; twofold = false; head = 0; next = 0; prev = 0; back = 0 }) c.loop-at-test.true)
      (λ foldable. false≢true (sym c.if-fine.false ∙ c.in-Ok.ensures.1 foldable));
  within = let test = c.loop-at-test.true in omega arith;
}

pub returns-clause-first : goal.returns-clause-first
returns-clause-first c = none_left c.args.graph.now c.object_count.ensures.graph c.args.folds.now c.loop-at.at c.requires c.loop-at.invariant.tried (let test = c.loop-at-test.false in omega arith)
