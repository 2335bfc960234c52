use Rattle.std.proofs.Common.{◌∙◌, ap, sym, ◌++◌, List, arith}
use Rattle.cgrammar.specs.Terminals.{Terminal}
use Rattle.cgrammar.proofs.Unpassed.{unpassed_behind}
use Rattle.cgrammar.proofs.terminals.unpassed.Goals as goal

pub loop-index-preserved-then-passed-index : goal.loop-index-preserved-then-passed-index
loop-index-preserved-then-passed-index c = record {
  len = omega (arith, c.loop-index.invariant.len);
  room = c.loop-index.invariant.room;
  rest =
      ap (λ (row : List Terminal). c.loop-index.row.items ++ row)
      (sym (unpassed_behind c.args.text.now c.args.passed.now c.args.list.now c.loop-index.index _ (omega (arith, c.requires.same, c.loop-index-test.true)) c.loop-index-test.true c.if-passed-index.true))
      ∙ c.loop-index.invariant.rest;
}
