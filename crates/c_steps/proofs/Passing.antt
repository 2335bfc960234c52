-- The way out of a loop's body.
use Rattle.std.proofs.Common.{◌≡◌, ℕ, suc, ◌+◌, Option, None, Some, option_map, refl, ap, arith}
use Rattle.c_machine.specs.Statements.{LoopLeft, one_more}
use Rattle.c_steps.specs.Ends.{further_on}

-- a block that is passed counts
pub one_block_further : {E S I : Type 0} (count : ℕ) (found : Option (LoopLeft E S I)) → further_on count (option_map one_more found) ≡ further_on (count + 1) found
one_block_further count None = refl
one_block_further {E} {S} {I} count (Some left) =
    let same : count + suc left.blocks ≡ (count + 1) + left.blocks = omega arith in
    ap (λ (blocks : ℕ). Some (record left { blocks = blocks })) same

-- at first none is passed
pub no_block_further : {E S I : Type 0} (found : Option (LoopLeft E S I)) → found ≡ further_on 0 found
no_block_further None = refl
no_block_further {E} {S} {I} (Some left) =
    let same : left.blocks ≡ 0 + left.blocks = omega arith in
    ap (λ (blocks : ℕ). Some (record left { blocks = blocks })) same
