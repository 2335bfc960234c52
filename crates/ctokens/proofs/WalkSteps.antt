-- One turn of the walk over the found items.
use Rattle.std.proofs.Common.{◌≡◌, ℕ, ◌+◌, ◌-◌, ◌<◌, ◌≤◌, List, length, zero, suc, refl, arith, cond, ltb}
use Rattle.std.specs.List.{slice_index_or}
use Rattle.ctokens.specs.declared.entry.Entry.{Entry}
use Rattle.ctokens.specs.NeedSearch.{State, entry_at, follow_all, walk}

pub walk_more : (entries : List Entry) (most at : ℕ) (state : State) → at < most
    → walk entries (most - at) at state
    ≡ cond (ltb at (length state.order)) (walk entries (most - (at + 1)) (at + 1) (follow_all (entry_at entries (slice_index_or state.order at 0)).contains state)) state
walk_more entries most at state h =
    let e : most - at ≡ suc (most - (at + 1)) = omega arith in
    rw e refl

pub walk_end : (entries : List Entry) (most at : ℕ) (state : State) → most ≤ at → walk entries (most - at) at state ≡ state
walk_end entries most at state h =
    let e : most - at ≡ zero = omega arith in
    rw e refl
