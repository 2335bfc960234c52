-- What operators give fits, quotients and remainders, and shifts to the right.
use Rattle.std.proofs.Common.{◌≡◌, ℕ, zero, suc, ◌+◌, ◌*◌, ◌%◌, ◌^◌, ◌<◌, ◌≤◌, Bool, true, false, None, Some, sym, ap, ◌∙◌, subst, arith}
use Rattle.std.specs.Prelude.{nat_lt, if◌then◌else◌, ℤ, pos, negsuc, ◌+ℤ◌, ◌-ℤ◌, ◌*ℤ◌, neg_ℤ, ◌≤ℤ◌, ◌<ℤ◌, unsigned_abs, IsTrue, IfSome, int_div, int_rem, bit_and, bit_or, bit_xor}
use Rattle.std.specs.Int.{int_shr}
use Rattle.std.proofs.lemmas.Int.{ints, quot-rem, rem_below}
use borrow.Author.Differences.{up, down}
use lib.Bits.{and_lt, or_lt, xor_lt}
use lib.Pow.{pow_pos}
use lib.Signed.{shr_z}
use Rattle.std.specs.Ordering.{int_eq}
use Rattle.std.proofs.Math.Nat.{mod-lt, mod-le, div-le_self, div-add-mod'}
use Prim.Native.Nat.{suc-le-suc}
use Rattle.arithmetic.specs.Comparing.{is_less, is_less_equal, answer}
use Rattle.arithmetic.specs.declared.op.Op.{Op}
use Rattle.arithmetic.specs.declared.op.Op.TheVariants.{Add, Sub, Mul, Div, Rem, And, Or, Xor, Left, Right, Less, LessEqual}
use Rattle.arithmetic.specs.declared.size.Size.{Size}
use Rattle.arithmetic.specs.declared.size.Size.TheVariants.{One, Two, Four, Eight}
use Rattle.arithmetic.specs.Size.{bytes}
use Rattle.arithmetic.specs.Value.{modulus, residue, bits, value, is_in_range}
use Rattle.arithmetic.specs.Computing.{computed, if_divides, if_shifts}
use Rattle.arithmetic.specs.Laws.{MakeDividend}
use Rattle.arithmetic.proofs.Residues.{residue-same, multiples-product}
use Rattle.arithmetic.proofs.Modulo.{positive}
use Rattle.arithmetic.proofs.Inverse.{bits_small, bits_value, value_bits, value_between, value-multiples}

divides_small : (count : ℕ) (divisor : ℤ) (result : ℕ) → result < count → IfSome (if_divides divisor result) (λ r. r < count)
divides_small count divisor result small = at (int_eq divisor (pos 0))
  where
    at : (b : Bool) → IfSome (if b then None else Some result) (λ r. r < count)
    at true = tt
    at false = small

shifts_small : (count size amount result : ℕ) → result < count → IfSome (if_shifts size amount result) (λ r. r < count)
shifts_small count size amount result small = at (nat_lt amount (8 * size))
  where
    at : (b : Bool) → IfSome (if b then Some result else None) (λ r. r < count)
    at true = small
    at false = tt

and_small : (size : Size) (left right : ℕ) → bit_and (left % modulus (bytes size)) (right % modulus (bytes size)) < modulus (bytes size)
and_small One left right = and_lt 8 _ _ (mod-lt left (positive One)) (mod-lt right (positive One))
and_small Two left right = and_lt 16 _ _ (mod-lt left (positive Two)) (mod-lt right (positive Two))
and_small Four left right = and_lt 32 _ _ (mod-lt left (positive Four)) (mod-lt right (positive Four))
and_small Eight left right = and_lt 64 _ _ (mod-lt left (positive Eight)) (mod-lt right (positive Eight))

or_small : (size : Size) (left right : ℕ) → bit_or (left % modulus (bytes size)) (right % modulus (bytes size)) < modulus (bytes size)
or_small One left right = or_lt 8 _ _ (mod-lt left (positive One)) (mod-lt right (positive One))
or_small Two left right = or_lt 16 _ _ (mod-lt left (positive Two)) (mod-lt right (positive Two))
or_small Four left right = or_lt 32 _ _ (mod-lt left (positive Four)) (mod-lt right (positive Four))
or_small Eight left right = or_lt 64 _ _ (mod-lt left (positive Eight)) (mod-lt right (positive Eight))

xor_small : (size : Size) (left right : ℕ) → bit_xor (left % modulus (bytes size)) (right % modulus (bytes size)) < modulus (bytes size)
xor_small One left right = xor_lt 8 _ _ (mod-lt left (positive One)) (mod-lt right (positive One))
xor_small Two left right = xor_lt 16 _ _ (mod-lt left (positive Two)) (mod-lt right (positive Two))
xor_small Four left right = xor_lt 32 _ _ (mod-lt left (positive Four)) (mod-lt right (positive Four))
xor_small Eight left right = xor_lt 64 _ _ (mod-lt left (positive Eight)) (mod-lt right (positive Eight))

answer_small : (size : Size) (holds : Bool) → answer holds < modulus (bytes size)
answer_small One true = omega arith
answer_small Two true = omega arith
answer_small Four true = omega arith
answer_small Eight true = omega arith
answer_small One false = omega arith
answer_small Two false = omega arith
answer_small Four false = omega arith
answer_small Eight false = omega arith

-- what an operator gives is below 2^n
pub computed_small : (op : Op) (size : Size) (signed : Bool) (left right : ℕ) →
    IfSome (computed op (bytes size) signed left right) (λ result. result < modulus (bytes size))
computed_small Add size signed left right = bits_small size (value (bytes size) signed left +ℤ value (bytes size) signed right)
computed_small Sub size signed left right = bits_small size (value (bytes size) signed left -ℤ value (bytes size) signed right)
computed_small Mul size signed left right = bits_small size (value (bytes size) signed left *ℤ value (bytes size) signed right)
computed_small Div size signed left right =
    divides_small (modulus (bytes size)) (value (bytes size) signed right) _ (bits_small size (int_div (value (bytes size) signed left) (value (bytes size) signed right)))
computed_small Rem size signed left right =
    divides_small (modulus (bytes size)) (value (bytes size) signed right) _ (bits_small size (int_rem (value (bytes size) signed left) (value (bytes size) signed right)))
computed_small And size signed left right = and_small size left right
computed_small Or size signed left right = or_small size left right
computed_small Xor size signed left right = xor_small size left right
computed_small Left size signed left right =
    shifts_small (modulus (bytes size)) (bytes size) right _ (bits_small size (value (bytes size) signed left *ℤ pos (2 ^ right)))
computed_small Right size signed left right =
    shifts_small (modulus (bytes size)) (bytes size) right _ (bits_small size (int_shr (value (bytes size) signed left) right))
computed_small Less size signed left right = answer_small size (is_less (bytes size) signed left right)
computed_small LessEqual size signed left right = answer_small size (is_less_equal (bytes size) signed left right)

-- what lies between 0 and a whole number of a type's range is in the range
towards_zero : (size : Size) (signed : Bool) (z w : ℤ) → IsTrue (is_in_range (bytes size) signed z) → up w ≤ up z → down w ≤ down z →
    IsTrue (is_in_range (bytes size) signed w)
towards_zero One true z w inside above below = grind (arith, ints)
towards_zero Two true z w inside above below = grind (arith, ints)
towards_zero Four true z w inside above below = grind (arith, ints)
towards_zero Eight true z w inside above below = grind (arith, ints)
towards_zero One false z w inside above below = grind (arith, ints)
towards_zero Two false z w inside above below = grind (arith, ints)
towards_zero Four false z w inside above below = grind (arith, ints)
towards_zero Eight false z w inside above below = grind (arith, ints)

-- a remainder lies between 0 and the dividend
rem-between : (a d : ℤ) → (up (int_rem a d) ≤ up a) × (down (int_rem a d) ≤ down a)
rem-between (pos a) d = (mod-le a (unsigned_abs d), omega arith)
rem-between (negsuc a) d = at (suc a % unsigned_abs d) (mod-le (suc a) (unsigned_abs d))
  where
    at : (r : ℕ) → r ≤ suc a → (up (neg_ℤ (pos r)) ≤ 0) × (down (neg_ℤ (pos r)) ≤ suc a)
    at zero small = (omega arith, omega arith)
    at (suc r) small = (omega arith, omega arith)

-- and has its sign
rem-sign : (a d : ℤ) → (a ≤ℤ pos 0 → int_rem a d ≤ℤ pos 0) × (pos 0 ≤ℤ a → pos 0 ≤ℤ int_rem a d)
rem-sign (pos a) d = let small = mod-le a (unsigned_abs d) in (λ low. omega (arith, ints), λ high. omega (arith, ints))
rem-sign (negsuc a) d = (λ low. omega (arith, ints), λ high. absurd (omega (arith, ints)))

-- a division that has a value
divided : (divisor : ℤ) (result found : ℕ) → if_divides divisor result ≡ Some found → (0 < unsigned_abs divisor) × (found ≡ result)
divided divisor result found is = (other_than_zero divisor is, at (int_eq divisor (pos 0)) is)
  where
    at : (b : Bool) → (if b then None else Some result) ≡ Some found → found ≡ result
    at true none = absurd cc
    at false some = cc

    other_than_zero : (d : ℤ) → if_divides d result ≡ Some found → 0 < unsigned_abs d
    other_than_zero (pos zero) none = absurd cc
    other_than_zero (pos (suc n)) some = omega arith
    other_than_zero (negsuc n) some = omega arith

-- a shift that has one
shifted : (size amount result found : ℕ) → if_shifts size amount result ≡ Some found → found ≡ result
shifted size amount result found = at (nat_lt amount (8 * size))
  where
    at : (b : Bool) → (if b then Some result else None) ≡ Some found → found ≡ result
    at true is = cc
    at false is = absurd cc

-- the value of a remainder is the whole number that it is the bits of
value-remainder : (size : Size) (signed : Bool) (left : ℕ) (d : ℤ) →
    value (bytes size) signed (bits (bytes size) (int_rem (value (bytes size) signed left) d)) ≡ int_rem (value (bytes size) signed left) d
value-remainder size signed left d =
    let a = value (bytes size) signed left in
    let between = rem-between a d in
    value_bits size signed (int_rem a d) (towards_zero size signed a (int_rem a d) (value_between size signed left) between.0 between.1)

pub remainder_rules : (size : Size) (signed : Bool) (left right quotient remainder : ℕ) →
    computed Div (bytes size) signed left right ≡ Some quotient → computed Rem (bytes size) signed left right ≡ Some remainder →
    MakeDividend (bytes size) signed left right quotient remainder
remainder_rules size signed left right quotient remainder one other =
    let a = value (bytes size) signed left in
    let d = value (bytes size) signed right in
    let quo = divided d (bits (bytes size) (int_div a d)) quotient one in
    let rem = divided d (bits (bytes size) (int_rem a d)) remainder other in
    let count = modulus (bytes size) in
    let whole : value (bytes size) signed remainder ≡ int_rem a d = ap (value (bytes size) signed) rem.1 ∙ value-remainder size signed left d in
    let many = value-multiples size signed (int_div a d) in
    let sign = rem-sign a d in
    let product = multiples-product count (value (bytes size) signed (bits (bytes size) (int_div a d))) (int_div a d) d many.0 many.1 many.2 in
    record {
      modulo =
          ap (λ (z : ℤ). residue count (value (bytes size) signed quotient *ℤ d +ℤ z)) whole
          ∙ ap (λ (q : ℕ). residue count (value (bytes size) signed q *ℤ d +ℤ int_rem a d)) quo.1
          ∙ residue-same count (value (bytes size) signed (bits (bytes size) (int_div a d)) *ℤ d +ℤ int_rem a d) (int_div a d *ℤ d +ℤ int_rem a d)
          (many.0 * up d + many.1 * down d) (many.1 * up d + many.0 * down d) (positive size) (omega (arith, ints, product))
          ∙ ap (residue count) (quot-rem a d)
          ∙ bits_value size signed left;
      exact = λ inside.
          ap (λ (z : ℤ). value (bytes size) signed quotient *ℤ d +ℤ z) whole
          ∙ ap (λ (z : ℤ). z *ℤ d +ℤ int_rem a d) (ap (value (bytes size) signed) quo.1 ∙ value_bits size signed (int_div a d) inside)
          ∙ quot-rem a d;
      smaller = subst (λ (z : ℤ). unsigned_abs z < unsigned_abs d) (sym whole) (rem_below a d quo.0);
      not_above = λ low. subst (λ (z : ℤ). z ≤ℤ pos 0) (sym whole) (sign.0 low);
      not_below = λ high. subst (λ (z : ℤ). pos 0 ≤ℤ z) (sym whole) (sign.1 high);
    }

shr-between : (a : ℤ) (m : ℕ) → 0 < m → (up (shr_z a m) ≤ up a) × (down (shr_z a m) ≤ down a)
shr-between (pos a) m some = (div-le_self a m, omega arith)
shr-between (negsuc a) m some = (omega arith, suc-le-suc (div-le_self a m))

shr-rounds : (a : ℤ) (m : ℕ) → 0 < m → ((shr_z a m *ℤ pos m) ≤ℤ a) × (a <ℤ (shr_z a m *ℤ pos m +ℤ pos m))
shr-rounds (pos a) m some = let split = div-add-mod' a m in let low = mod-lt a some in (omega (arith, ints), omega (arith, ints))
shr-rounds (negsuc a) m some = let split = div-add-mod' a m in let low = mod-lt a some in (omega (arith, ints), omega (arith, ints))

pub shifted_down : (size : Size) (signed : Bool) (number amount result : ℕ) → computed Right (bytes size) signed number amount ≡ Some result →
    ((value (bytes size) signed result *ℤ pos (2 ^ amount)) ≤ℤ value (bytes size) signed number)
    × (value (bytes size) signed number <ℤ (value (bytes size) signed result *ℤ pos (2 ^ amount) +ℤ pos (2 ^ amount)))
shifted_down size signed number amount result is =
    let a = value (bytes size) signed number in
    let some = pow_pos amount in
    let between = shr-between a (2 ^ amount) some in
    let found = shifted (bytes size) amount (bits (bytes size) (int_shr a amount)) result is in
    let whole : value (bytes size) signed result ≡ int_shr a amount =
    ap (value (bytes size) signed) found ∙ value_bits size signed (int_shr a amount) (towards_zero size signed a (int_shr a amount) (value_between size signed number) between.0 between.1) in
    subst (λ (z : ℤ). ((z *ℤ pos (2 ^ amount)) ≤ℤ a) × (a <ℤ (z *ℤ pos (2 ^ amount) +ℤ pos (2 ^ amount)))) (sym whole) (shr-rounds a (2 ^ amount) some)
