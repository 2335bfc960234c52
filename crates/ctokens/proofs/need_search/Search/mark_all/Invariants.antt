use Rattle.std.proofs.Common.{◌≡◌, drop}
use Rattle.ctokens.specs.NeedSearch.{mark_all}
use Rattle.ctokens.proofs.need_search.Search.mark_all.Given as goal

abbrev pub invariant-loop-item : goal.invariant-loop-item
invariant-loop-item l = mark_all (drop l.item-index l.items) l.self ≡ mark_all l.items l.fn.self
