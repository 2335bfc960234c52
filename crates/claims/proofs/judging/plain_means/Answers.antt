-- What is answered of a plain program of few walks is exact.
use Rattle.claims.proofs.Exactly.{exactly}
use Rattle.claims.proofs.judging.plain_means.Goals as goal

pub returns : goal.returns
returns c = λ tells content left file whole limits names answer told is verdict answered. exactly tells content left limits file whole names told is answer verdict answered
