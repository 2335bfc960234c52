-- What is answered of the runs of a program.
use Rattle.ctokens.specs.declared.token.Tokens.{Tokens}
use Rattle.ccheck.specs.Refusals.{place_at}
use Rattle.c_machine.specs.State.{Outcome, Went, Waits, Ended, Faulted, Stuck}
use Rattle.report.specs.declared.replay_answer.Replayed.{Replayed}
use Rattle.report.specs.declared.replay_answer.Replayed.TheVariants as replayed

-- what is answered of what a run comes to. Trees keep with each place how many tokens stand before it
abbrev pub what_of : {E S I : Type 0} → Tokens → Outcome E S I → Replayed
what_of t (Went state choices) = replayed.Running
what_of t Waits = replayed.Waits
what_of t Ended = replayed.Ended
what_of t (Faulted kind place) = replayed.Fault kind (place_at t place.at)
what_of t Stuck = replayed.Stuck
