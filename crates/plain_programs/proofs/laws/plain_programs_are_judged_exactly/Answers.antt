-- What is found of a plain program of few walks is exact.
use Rattle.plain_programs.proofs.Judged.{plain_judged}
use Rattle.plain_programs.proofs.laws.plain_programs_are_judged_exactly.Goals as goal

pub returns : goal.returns
returns c = plain_judged
