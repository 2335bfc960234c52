use Rattle.std.proofs.Common.{◌≡◌, ◌-◌, length}
use Rattle.ctokens.specs.NeedSearch.{walk}
use Rattle.ctokens.proofs.need_search.Search.walk.Given as goal

abbrev pub invariant-loop-at : goal.invariant-loop-at
invariant-loop-at l = walk l.entries (length l.entries - l.at) l.at l.self ≡ walk l.entries (length l.entries) 0 l.fn.self
