use Rattle.std.proofs.Common.{◌≡◌, drop}
use Rattle.ctokens.specs.NeedSearch.{mark_mains}
use Rattle.ctokens.proofs.need_search.Search.mark_mains.Given as goal

abbrev pub invariant-loop-item : goal.invariant-loop-item
invariant-loop-item l = mark_mains l.item (drop l.item l.entries) l.self ≡ mark_mains 0 l.entries l.fn.self
