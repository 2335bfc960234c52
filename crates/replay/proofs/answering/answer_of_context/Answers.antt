-- The program that typing hands on is the one that is answered of.
use Rattle.std.proofs.Common.{◌∙◌}
use Rattle.replay.proofs.Runs.{text_kept}
use Rattle.replay.proofs.answering.answer_of_context.Goals as goal

pub answer_of_program-answered-requires-clause-holds : goal.answer_of_program-answered-requires-clause-holds
answer_of_program-answered-requires-clause-holds g c = record {
  typed = c.requires.holds.typed;
  holds = c.requires.holds.holds;
  items_are = c.requires.holds.items_are;
  text_is = text_kept _ c.in-Some.text c.args.context c.in-Some.is c.in_ok-text.ensures.some ∙ c.requires.holds.text_is;
  strict_is = c.requires.holds.strict_is;
}
