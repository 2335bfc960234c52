-- Static objects by the names that declared them first.
use Rattle.std.specs.Prelude.{◌≡◌, ℕ, Option, None, Some}
use Rattle.std.specs.Ordering.{nat_cmp}
use Rattle.std.specs.BTreeMap.{BTreeMap, get}
use Rattle.c_machine.specs.State.{Scope, block_in}

-- the first of two that is there
abbrev pub or_else : Option ℕ → Option ℕ → Option ℕ
or_else None other = other
or_else (Some first) other = Some first

-- a table has the block of each name
abbrev pub FindsBlocks : Scope → BTreeMap ℕ ℕ → Type 0
FindsBlocks variables blocks = (token : ℕ) → get nat_cmp blocks token ≡ block_in variables token
