-- What a choice of a new block comes to.
use Rattle.std.specs.Prelude.{◌≡◌, ℕ, ◌≤◌, Bool, ◌&&◌, ◌||◌, not, List, nat_eq, pos, None}
use Rattle.std.specs.List.{list_all}
use Rattle.bytes_core.specs.declared.block.Block.{Block}
use Rattle.bytes_core.specs.declared.block.BlockKind.{BlockKind}
use Rattle.bytes_core.specs.declared.word.Word.TheVariants.{To}
use Rattle.bytes_core.specs.Access.{access_fault}
use Rattle.bytes_core.specs.Placement.{is_new_block}
use Rattle.choices.specs.declared.choice.Choice.{Choice}
use Rattle.c_machine.specs.State.{State, Outcome}
use Rattle.c_machine.specs.Choosing.{with_block}
use Rattle.c_steps.specs.declared.outcome.Outcome.{Outcome as Answer}
use Rattle.c_steps.specs.ComesTo.{comes_to}

-- whether a base and contents are a choice for a new block of a kind and size, of zeros alone where that is asked
abbrev pub is_choice : List Block → BlockKind → ℕ → Bool → ℕ → List ℕ → Bool
is_choice memory kind size zeroed base contents = is_new_block memory kind size base contents && (not zeroed || list_all (nat_eq 0) contents)

-- a new block is made: what is done with it goes on from that state, with that block and these choices
abbrev pub MakesBlock : {E S I : Type 0} → BlockKind → ℕ → Bool → State E S I → List Choice → State E S I → ℕ → List Choice → Type 0
MakesBlock {E} {S} {I} kind size zeroed state choices next block more =
    (onward : State E S I → ℕ → List Choice → Outcome E S I) → with_block kind size zeroed state choices onward ≡ onward next block more

-- so many bytes at the front of a block are there
abbrev pub IsWhole : List Block → ℕ → ℕ → Type 0
IsWhole memory block size = (count : ℕ) → count ≤ size → access_fault memory (To block (pos 0)) count ≡ None

-- no block is made, whatever is to be done with it
abbrev pub MakesNone : {E S I : Type 0} → BlockKind → ℕ → Bool → State E S I → List Choice → Answer → Type 0
MakesNone {E} {S} {I} kind size zeroed state choices answer =
    (onward : State E S I → ℕ → List Choice → Outcome E S I) → with_block kind size zeroed state choices onward ≡ comes_to answer state choices
