-- The text is the context, which some numbering reads.
use Rattle.judgement.proofs.Programs.{kept_read}
use Rattle.judgement.proofs.judging.judge.Goals as goal

pub judge_text-judgement-requires-clause-read : goal.judge_text-judgement-requires-clause-read
judge_text-judgement-requires-clause-read c = kept_read _ c.in-Some.text c.args.context c.in-Some.is c.in_ok-text.ensures.some c.has_a_numbering.ensures
