use Rattle.std.proofs.Common.{◌≡◌, ◌++◌, drop}
use Rattle.ctokens.specs.NeedSearch.{places}
use Rattle.ctokens.proofs.need_search.places.Given as goal

abbrev pub invariant-loop-place : goal.invariant-loop-place
invariant-loop-place l = l.places.items ++ places l.place (drop l.place l.marked) ≡ places 0 l.marked
