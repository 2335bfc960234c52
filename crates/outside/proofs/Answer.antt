use Rattle.std.proofs.Common.{◌≡◌, ◌≢◌, ℕ, ◌+◌, ◌≤◌, Some, List, ◌++◌, length, refl, arith}
use Rattle.std.proofs.lemmas.Grind.{common_steps}
use Rattle.std.proofs.lemmas.Bool.Decides.{nat_tests}
use Rattle.outside.specs.declared.reading.Reading.{Reading}
use Rattle.outside.specs.declared.reading.Reading.TheVariants.{Whole, Long, Failed}
use Rattle.outside.specs.Reading.{IsWithin, Reads, reading_of}

whole_is : (most : ℕ) (whole bytes : List ℕ) → length bytes ≤ most → Some whole ≡ Some bytes → Whole bytes ≡ reading_of most whole
whole_is most whole bytes within is = grind (arith, nat_tests)

long_is : (most : ℕ) (whole bytes left : List ℕ) → length bytes ≡ most + 1 → Some whole ≡ Some (bytes ++ left) → Long bytes ≡ reading_of most whole
long_is most whole bytes left within is = grind (arith, common_steps, nat_tests)

-- what a reading says of a file with the bytes `whole` leaves it no choice but to fail
pub reading_is : (most : ℕ) (whole left : List ℕ) (reading : Reading) → IsWithin most reading → Reads (Some whole) left reading → reading ≢ Failed → reading ≡ reading_of most whole
reading_is most whole left (Whole bytes) within reads ok = whole_is most whole bytes within reads.0
reading_is most whole left (Long bytes) within reads ok = long_is most whole bytes left within reads
reading_is most whole left Failed within reads ok = absurd (ok refl)
