-- The levels of the reader, one by one.
use Rattle.std.proofs.Common.{◌≡◌, ℕ, ◌+◌, ◌-◌, ◌<◌, ap, ◌∙◌, arith, add-one}
use Rattle.cparser.specs.ReadingSteps.{reads, reads_with, inner_at}
use Rattle.cparser.specs.State.{State, lost}
use Rattle.cparser.specs.declared.wanted.Wanted.{Wanted}

pub reads_nothing : (most : ℕ) (wanted : Wanted) (s : State) → most ≡ 0 → reads most wanted s ≡ lost s
unfolding reads
reads_nothing most wanted s none = ap (λ n. reads n wanted s) none

pub reads_more : (most : ℕ) (wanted : Wanted) (s : State) → 0 < most → reads most wanted s ≡ reads_with (inner_at (most - 1)) wanted s
unfolding reads
reads_more most wanted s some =
    let same : most ≡ (most - 1) + 1 = omega arith in
    ap (λ n. reads n wanted s) (same ∙ add-one (most - 1))
