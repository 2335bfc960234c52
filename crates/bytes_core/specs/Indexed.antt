-- What is kept beside the blocks of a memory, so that no question goes over all of them: which blocks live, where the live ones
-- begin, and how many of them are of the heap.
use Rattle.std.specs.Prelude.{◌≡◌, ℕ, ◌<◌, ◌≤◌, Bool, ◌&&◌, List, map, slice_get, Option, None, Some, if◌then◌else◌, ◌↔◌}
use Rattle.std.specs.List.{sum_by}
use Rattle.std.specs.BTreeMap.{BTreeMap, get}
use Rattle.std.specs.Ordering.{nat_cmp}
use Rattle.bytes_core.specs.declared.block.Block.{Block}
use Rattle.bytes_core.specs.declared.block.BlockKind.{BlockKind}
use Rattle.bytes_core.specs.Release.{is_heap}
use Rattle.bytes_core.specs.Living.{AreLive}

-- what no write changes of a block
pub record Head : Type 0 where
  pub base : ℕ
  pub kind : BlockKind
  pub live : Bool

abbrev pub head : Block → Head
head block = record { base = block.base; kind = block.kind; live = block.live }

abbrev pub heads : List Block → List Head
heads memory = map head memory

-- where a block begins, if it lives
abbrev pub live_base : Head → Option ℕ
live_base one = if one.live then Some one.base else None

abbrev pub live_bases : List Head → List (Option ℕ)
live_bases all = map live_base all

-- the table has the number of each live block at its base, and nothing else
abbrev pub AreBases : List (Option ℕ) → BTreeMap ℕ ℕ → Type 0
AreBases begins bases = (base number : ℕ) → (get nat_cmp bases base ≡ Some number) ↔ (slice_get begins number ≡ Some (Some base))

-- how much a block counts among the live ones of the heap
abbrev pub heap_share : Head → ℕ
heap_share one = if is_heap one.kind && one.live then 1 else 0

-- what is kept is right of the blocks
pub record IsIndexed (all : List Head) (numbers places : List ℕ) (bases : BTreeMap ℕ ℕ) (heap : ℕ) : Type 0 where
  pub live : AreLive (map (λ one. one.live) all) numbers places
  pub begins : AreBases (live_bases all) bases
  pub count : heap ≡ sum_by heap_share all

-- of the live blocks that begin before an address, this one begins last
pub record IsLastBefore (bases : BTreeMap ℕ ℕ) (end number : ℕ) : Type 0 where
  pub base : ℕ
  pub begins : get nat_cmp bases base ≡ Some number
  pub before : base < end
  pub last : (other found : ℕ) → get nat_cmp bases other ≡ Some found → other < end → other ≤ base

-- no live block begins before an address
abbrev pub BeginNotBefore : BTreeMap ℕ ℕ → ℕ → Type 0
BeginNotBefore bases end = (base : ℕ) → base < end → get nat_cmp bases base ≡ None
