-- What is answered to a row.
use Rattle.std.specs.Prelude.{ℕ, Bool, Option, Some}
use Rattle.arithmetic.specs.declared.size.Size.{Size}
use Rattle.arithmetic.specs.Size.{bytes}
use Rattle.arithmetic.specs.Conversion.{converted, truth}
use Rattle.arithmetic.specs.Comparing.{is_equal, answer}
use Rattle.arithmetic.specs.Computing.{computed, negated, complemented}
use Rattle.arithmetic_rows.specs.declared.ask.Ask.{Ask}
use Rattle.arithmetic_rows.specs.declared.ask.Ask.TheVariants.{Compute, Equal, Negate, Complement, Convert, Truth}

abbrev pub answered : Ask → Size → Bool → ℕ → ℕ → Option ℕ
answered (Compute op) size signed left right = computed op (bytes size) signed left right
answered Equal size signed left right = Some (answer (is_equal (bytes size) signed left right))
answered Negate size signed left right = Some (negated (bytes size) signed left)
answered Complement size signed left right = Some (complemented (bytes size) left)
answered (Convert to) size signed left right = Some (converted (bytes size) signed (bytes to) left)
answered Truth size signed left right = Some (truth (bytes size) left)
