use Rattle.choices.proofs.Longest.{one_byte_more}
use Rattle.choices.proofs.laws.contents_are_at_most_65536_bytes.Goals as goal

pub returns : goal.returns
returns c = one_byte_more
