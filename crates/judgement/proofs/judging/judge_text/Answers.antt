-- The addresses in the graph of a program have offsets of 64 bits.
use Rattle.judgement.proofs.Programs.{text_offsets}
use Rattle.judgement.proofs.judging.judge_text.Goals as goal

pub judge_graph-requires-clause-offsets : goal.judge_graph-requires-clause-offsets
judge_graph-requires-clause-offsets c =
    text_offsets c.args.text.now c.args.items.now c.args.abi c.args.strict c.in-Some.flow _ c.requires.read c.in-Some.is c.in_ok-lower.ensures.graph
