use Rattle.std.proofs.Common.{◌≡◌, drop}
use Rattle.ctokens.specs.NeedSearch.{put_all}
use Rattle.ctokens.proofs.need_search.put_all.Given as goal

abbrev pub invariant-loop-name : goal.invariant-loop-name
invariant-loop-name l = put_all l.item l.waiting.items (drop l.name-index l.names) ≡ put_all l.item l.fn.waiting.items l.names
