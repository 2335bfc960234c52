-- Numbers in decimal digits without leading zeros are what `decimal` gives.
use Rattle.std.proofs.Common.{◌≡◌, ℕ, zero, suc, ◌<◌, ◌^◌, List, length, get_or, true, ap, sym, ◌∙◌, subst, arith, rules}
use Rattle.std.specs.List.{list_all}
use Rattle.std.specs.Fmt.{decimal}
use Rattle.std.proofs.lemmas.Fmt.{digits_decimal, digits_value-decimal, decimal-digits_value, decimal_nonempty, decimal_digit, first_decimal}
use Rattle.std.proofs.lemmas.Str.Parse.{IsNumeralModel, numerals_by_fold}
use Rattle.cbase.specs.Bytes.{is_digit, decimal_value}
use Rattle.choices.specs.Format.{SpellsNumber}

pub own : IsNumeralModel (λ ds. list_all is_digit ds ≡ true) (decimal_value 0)
own = numerals_by_fold _ (search rules) decimal_value (search rules)

leading : (n : ℕ) → n < 2 ^ 64 → get_or (decimal n) 0 0 ≡ 48 → length (decimal n) ≡ 1
leading zero small is = ap length (decimal_digit 0 (omega arith))
leading (suc n) small is = absurd (omega (arith, first_decimal (suc n) (omega arith) small))

pub decimal_spells : (n : ℕ) → n < 2 ^ 64 → SpellsNumber (decimal n) n
decimal_spells n small = record {
  digits = digits_decimal own n small;
  some = decimal_nonempty n small;
  no_leading_zero = leading n small;
  value = digits_value-decimal own n small;
  fits = small;
}

pub spells_decimal : (word : List ℕ) (n : ℕ) → SpellsNumber word n → word ≡ decimal n
spells_decimal word n s =
    let small : decimal_value 0 word < 2 ^ 64 = subst (λ (k : ℕ). k < 2 ^ 64) (sym s.value) s.fits in
    sym (decimal-digits_value own word s.digits s.some s.no_leading_zero small) ∙ ap decimal s.value
