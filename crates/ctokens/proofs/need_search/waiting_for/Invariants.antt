use Rattle.std.proofs.Common.{◌≡◌, List, ℕ, [], drop, replicate}
use Rattle.ctokens.specs.NeedSearch.{put_entries}
use Rattle.ctokens.proofs.need_search.waiting_for.Given as goal

abbrev pub invariant-loop : goal.invariant-loop
invariant-loop l = l.waiting.items ≡ replicate {A = List ℕ} l.counter []

abbrev pub invariant-loop-item : goal.invariant-loop-item
invariant-loop-item l = put_entries l.item l.waiting.items (drop l.item l.entries) ≡ put_entries 0 (replicate {A = List ℕ} l.count []) l.entries
