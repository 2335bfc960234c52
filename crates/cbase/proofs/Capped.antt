-- Sizes past 65,536 kept as 65,537: no step of a layout tells them apart.
use Rattle.std.proofs.Common.{◌≡◌, inl, inr, zero, suc, mul_comm, zero-mul, ℕ, ◌*◌, min, Option, Some, None, refl, ap, arith}
use Rattle.std.proofs.lemmas.Bool.{cases_lt}
use Rattle.std.proofs.lemmas.Bool.Decides.{nat_tests}
use Rattle.std.specs.Prelude.{option_map, nat_le, false}
use Rattle.cbase.specs.declared.layout.Layout.{Layout}
use Rattle.cbase.specs.Layout.{repeated, extent_of, alignment_of}
use Rattle.cbase.specs.Kept.{capped}

min_mul : (most count size : ℕ) → min (count * min size most) most ≡ min (count * size) most
min_mul most zero size = simp zero-mul
min_mul most (suc count) size = elim (cases_lt most size) [
  | inl large ↦ let e : min size most ≡ most = omega arith in rw e (omega arith)
  | inr small ↦ let e : min size most ≡ size = omega arith in rw e
]

min_count : (most count size : ℕ) → min (min count most * size) most ≡ min (count * size) most
min_count most count size = rw (mul_comm (min count most) size, mul_comm count size) (min_mul most size count)

pub capped-repeated_count : (count : ℕ) (item : Layout) → capped (repeated (min count 65537) item) ≡ capped (repeated count item)
capped-repeated_count count item = ap (λ (size : ℕ). let l : Layout = record { size = size; alignment = item.alignment } in l) (min_count 65537 count item.size)

pub capped-repeated_size : (count : ℕ) (item : Layout) → capped (repeated count (capped item)) ≡ capped (repeated count item)
capped-repeated_size count item = ap (λ (size : ℕ). let l : Layout = record { size = size; alignment = item.alignment } in l) (min_mul 65537 count item.size)

pub extent_of_kept : (layout : Option Layout) → extent_of (option_map capped layout) ≡ extent_of layout
extent_of_kept None = refl
extent_of_kept (Some layout) = elim (cases_lt 65536 layout.size) [
  | inl large ↦ let test : nat_le layout.size 65536 ≡ false = grind (arith, nat_tests) in
      let most : min layout.size 65537 ≡ 65537 = omega arith in
      rw (most, test) refl
  | inr small ↦ let same : min layout.size 65537 ≡ layout.size = omega arith in rw same
]

pub alignment_of_kept : (layout : Option Layout) → alignment_of (option_map capped layout) ≡ alignment_of layout
alignment_of_kept None = refl
alignment_of_kept (Some layout) = refl
