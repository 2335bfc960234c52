-- A test that passes at some block of a memory, and the block that it passes at.
use Rattle.std.proofs.Common.{◌≡◌, ℕ, zero, suc, ◌+◌, Bool, true, List, [], ◌∷◌, Some, ◌⊎◌, inl, inr, refl, sym, subst, arith}
use Rattle.std.proofs.lemmas.Bool.{or_left, or_right, or_cases, false≢true}
use Rattle.std.proofs.lemmas.Option.{same_Some, none-some}
use Rattle.std.specs.List.{slice_get}
use Rattle.bytes_core.specs.declared.block.Block.{Block}
use Rattle.bytes_core.specs.Loss.{some_block}

-- a block of the memory that a test passes at, where the first is numbered `start`
pub record PassesAt (test : ℕ → Block → Bool) (start : ℕ) (memory : List Block) : Type 0 where
  pub place : ℕ
  pub block : Block
  pub stands : slice_get memory place ≡ Some block
  pub passes : test (start + place) block ≡ true

pub some_block_at : (test : ℕ → Block → Bool) (start place : ℕ) (memory : List Block) (block : Block) → slice_get memory place ≡ Some block →
    test (start + place) block ≡ true → some_block test start memory ≡ true
some_block_at test start place [] block stands passes = absurd (none-some block stands)
some_block_at test start zero (first ∷ rest) block stands passes =
    let same : first ≡ block = same_Some first block stands in
    or_left (test start first) (some_block test (start + 1) rest)
    (let here : start + 0 ≡ start = omega arith in subst (λ (n : ℕ). test n first ≡ true) here (subst (λ (b : Block). test (start + 0) b ≡ true) (sym same) passes))
some_block_at test start (suc place) (first ∷ rest) block stands passes =
    let there : start + suc place ≡ start + 1 + place = omega arith in
    or_right (test start first) (some_block test (start + 1) rest)
    (some_block_at test (start + 1) place rest block stands (subst (λ (n : ℕ). test n block ≡ true) there passes))

-- one that passes later passes in the whole memory
later : (test : ℕ → Block → Bool) (start : ℕ) (first : Block) (rest : List Block) → PassesAt test (start + 1) rest → PassesAt test start (first ∷ rest)
later test start first rest found = record {
  place = suc found.place;
  block = found.block;
  stands = found.stands;
  passes = let there : start + 1 + found.place ≡ start + suc found.place = omega arith in subst (λ (n : ℕ). test n found.block ≡ true) there found.passes;
}

pub PassesAt-some_block : (test : ℕ → Block → Bool) (start : ℕ) (memory : List Block) → some_block test start memory ≡ true → PassesAt test start memory
PassesAt-some_block test start [] some = absurd (false≢true some)
PassesAt-some_block test start (first ∷ rest) some = by_cases (or_cases (test start first) (some_block test (start + 1) rest) some)
    (λ h. PassesAt-some_block test (start + 1) rest h)
  where
    by_cases : (test start first ≡ true) ⊎ (some_block test (start + 1) rest ≡ true) →
        (some_block test (start + 1) rest ≡ true → PassesAt test (start + 1) rest) → PassesAt test start (first ∷ rest)
    by_cases (inl here) others = record {
      place = 0;
      block = first;
      stands = refl;
      passes = let there : start ≡ start + 0 = omega arith in subst (λ (n : ℕ). test n first ≡ true) there here;
    }
    by_cases (inr there) others = later test start first rest (others there)
