-- The entries of the functions so far are noted, and nothing else is.
use Rattle.flow.specs.Owning.{AreOwned}
use Rattle.flow.proofs.separation.owners_of_entries.Given as goal

abbrev pub invariant-loop-number : goal.invariant-loop-number
invariant-loop-number l = AreOwned l.flow l.number l.owners.items
