-- The rows of constants hold: what is answered of each is computed.
use Rattle.std.proofs.Common.{◌≡◌, List, [], ◌∷◌, refl, subst}
use Rattle.std.specs.Prelude.{map}
use Rattle.std.specs.List.{AllByRecursion}
use Rattle.cbase.specs.declared.abi.Abi.TheVariants.{Lp64, Llp64}
use Rattle.typing.specs.constants.Deciding.{letter, integer, meaning_of}
use Rattle.typing.specs.constants.Rows.{Row, IsRight, decimal_rows, octal_rows, hexadecimal_rows, unsigned_rows, long_rows, unsigned_long_rows, long_long_rows, letter_rows, other_rows, AreConstants}
use Rattle.typing.proofs.constants.Exact.{means}

-- a row with what is answered
answered : Row → Row
answered row = record { text = row.text; lp64 = meaning_of Lp64 row.text; llp64 = meaning_of Llp64 row.text }

right : (rows : List Row) → map answered rows ≡ rows → AllByRecursion IsRight rows
unfolding answered
right [] same = tt
right (row ∷ rows) same =
    let first : answered row ≡ row = cc same in
    let others : map answered rows ≡ rows = cc same in
    (subst IsRight first (means Lp64 row.text, means Llp64 row.text), right rows others)

pub constant_rows : AreConstants
unfolding answered letter integer
constant_rows = record {
  decimal = right decimal_rows refl;
  octal = right octal_rows refl;
  hexadecimal = right hexadecimal_rows refl;
  unsigned = right unsigned_rows refl;
  long = right long_rows refl;
  unsigned_long = right unsigned_long_rows refl;
  long_long = right long_long_rows refl;
  letter = right letter_rows refl;
  other = right other_rows refl;
}
