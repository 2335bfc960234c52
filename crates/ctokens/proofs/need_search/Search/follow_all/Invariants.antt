use Rattle.std.proofs.Common.{◌≡◌, drop}
use Rattle.ctokens.specs.NeedSearch.{follow_all}
use Rattle.ctokens.proofs.need_search.Search.follow_all.Given as goal

abbrev pub invariant-loop-name : goal.invariant-loop-name
invariant-loop-name l = follow_all (drop l.name-index l.names) l.self ≡ follow_all l.names l.fn.self
