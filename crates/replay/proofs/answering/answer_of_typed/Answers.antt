-- The program that typing hands on is the one that is answered of.
use Rattle.std.proofs.Common.{refl}
use Rattle.replay.proofs.answering.answer_of_typed.Goals as goal

pub answer_of_context-answered-requires-clause-holds : goal.answer_of_context-answered-requires-clause-holds
answer_of_context-answered-requires-clause-holds g c = record {
  typed = c.args.typed;
  holds = c.requires.holds;
  items_are = c.as_slice.ensures;
  text_is = refl;
  strict_is = refl;
}
