-- Where an integer constant is split into digits and suffix does not matter: there is one place.
use Rattle.std.proofs.Common.{◌≡◌, ℕ, ◌+◌, Bool, true, false, ◌&&◌, ◌||◌, not, refl, ap, sym, ◌∙◌, List, [], ◌∷◌, ◌++◌, take, drop, length, cond, IsTrue, nat_eq, ◌↔◌, ◌⊎◌, inl, inr, suc, arith, eqb-true}
use Rattle.std.specs.Prelude.{if◌then◌else◌}
use Rattle.std.specs.List.{list_any, list_all, prefix_len}
use Rattle.std.specs.Str.{bytes_eq}
use Rattle.std.proofs.lemmas.List.{take-append-drop}
use Rattle.std.proofs.Math.Seq.{take-append_seam, drop-append_seam}
use Rattle.cbase.specs.Bytes.{is_digit}
use Rattle.ctokens.specs.Bytes.{is_octal_digit, is_hexadecimal_digit}
use Rattle.ctokens.specs.Bytes.{is_empty}
use Rattle.cgrammar.proofs.Truth.{and-left, and-right, and-both, or-cases, of-any, not-true}
use Rattle.cgrammar.specs.Constants.{IsInteger, is_hexadecimal, is_unsuffixed, suffixes}
use Rattle.cgrammar.specs.ConstantParts.{is_before_suffix, digits_length, is_integer}

-- a row begins with no byte that stands before a suffix
ends-digits : List ℕ → Bool
ends-digits [] = true
ends-digits (byte ∷ others) = not (is_before_suffix byte)

suffix-ends : (suffix : List ℕ) → list_any (bytes_eq suffix) suffixes ≡ true → ends-digits suffix ≡ true
unfolding ends-digits
suffix-ends suffix is = of-any ends-digits suffixes suffix refl is

all-weaker : (p q : ℕ → Bool) → ((byte : ℕ) → p byte ≡ true → q byte ≡ true) → (bytes : List ℕ) → list_all p bytes ≡ true → list_all q bytes ≡ true
all-weaker p q weaker [] is = refl
all-weaker p q weaker (byte ∷ bytes) is = and-both (weaker byte (and-left (p byte) (list_all p bytes) is)) (all-weaker p q weaker bytes (and-right (p byte) (list_all p bytes) is))

-- no digit of any kind is a byte that a suffix has
apart : (test : ℕ → Bool) (byte other : ℕ) → test byte ≡ true → test other ≡ false → nat_eq byte other ≡ false
apart test byte other is differs = step (nat_eq byte other) refl
  where
    step : (same : Bool) → nat_eq byte other ≡ same → nat_eq byte other ≡ false
    step true e = let clash : true ≡ false = sym is ∙ (ap test (eqb-true byte other e) ∙ differs) in cc clash
    step false e = e

before : (test : ℕ → Bool) (byte : ℕ) → test byte ≡ true → test 117 ≡ false → test 85 ≡ false → test 108 ≡ false → test 76 ≡ false → is_before_suffix byte ≡ true
before test byte is a b c d =
    λ i. not (apart test byte 117 is a i || (apart test byte 85 is b i || (apart test byte 108 is c i || apart test byte 76 is d i)))

hexadecimal-before : (byte : ℕ) → is_hexadecimal_digit byte ≡ true → is_before_suffix byte ≡ true
hexadecimal-before byte is = before is_hexadecimal_digit byte is refl refl refl refl

digit-before : (byte : ℕ) → is_digit byte ≡ true → is_before_suffix byte ≡ true
digit-before byte is = before is_digit byte is refl refl refl refl

octal-before : (byte : ℕ) → is_octal_digit byte ≡ true → is_before_suffix byte ≡ true
octal-before byte is = before is_octal_digit byte is refl refl refl refl

mark-before : (byte : ℕ) → nat_eq byte 120 || nat_eq byte 88 ≡ true → is_before_suffix byte ≡ true
mark-before byte is = before (λ n. nat_eq n 120 || nat_eq n 88) byte is refl refl refl refl

hexadecimal-all : (others : List ℕ) → is_hexadecimal others ≡ true → list_all is_before_suffix others ≡ true
hexadecimal-all [] is = cc is
hexadecimal-all (mark ∷ digits) is =
    let marked : (nat_eq mark 120 || nat_eq mark 88) ≡ true = and-left (nat_eq mark 120 || nat_eq mark 88) (not (is_empty digits) && list_all is_hexadecimal_digit digits) is in
    let rest : (not (is_empty digits) && list_all is_hexadecimal_digit digits) ≡ true = and-right (nat_eq mark 120 || nat_eq mark 88) (not (is_empty digits) && list_all is_hexadecimal_digit digits) is in
    and-both (mark-before mark marked) (all-weaker is_hexadecimal_digit is_before_suffix hexadecimal-before digits (and-right (not (is_empty digits)) (list_all is_hexadecimal_digit digits) rest))

unsuffixed-all : (digits : List ℕ) → is_unsuffixed digits ≡ true → list_all is_before_suffix digits ≡ true
unsuffixed-all [] is = cc is
unsuffixed-all (first ∷ others) is = step (nat_eq first 48) refl is
  where
    behind : (list_all is_octal_digit others ≡ true) ⊎ (is_hexadecimal others ≡ true) → list_all is_before_suffix others ≡ true
    behind (inl octal) = all-weaker is_octal_digit is_before_suffix octal-before others octal
    behind (inr marked) = hexadecimal-all others marked

    step : (test : Bool) → nat_eq first 48 ≡ test → (if test then list_all is_octal_digit others || is_hexadecimal others else is_digit first && list_all is_digit others) ≡ true → list_all is_before_suffix (first ∷ others) ≡ true
    step true e i = and-both (ap is_before_suffix (eqb-true first 48 e)) (behind (or-cases (list_all is_octal_digit others) (is_hexadecimal others) i))
    step false e i = and-both (digit-before first (and-left (is_digit first) (list_all is_digit others) i)) (all-weaker is_digit is_before_suffix digit-before others (and-right (is_digit first) (list_all is_digit others) i))

prefix-split : (digits suffix : List ℕ) → list_all is_before_suffix digits ≡ true → ends-digits suffix ≡ true → prefix_len is_before_suffix (digits ++ suffix) ≡ length digits
unfolding ends-digits
prefix-split [] [] all ends = refl
prefix-split [] (byte ∷ suffix) all ends = ap (λ (b : Bool). cond b (1 + prefix_len is_before_suffix suffix) 0) (not-true (is_before_suffix byte) ends)
prefix-split (byte ∷ digits) suffix all ends =
    let rest : prefix_len is_before_suffix (digits ++ suffix) ≡ length digits = prefix-split digits suffix (and-right (is_before_suffix byte) (list_all is_before_suffix digits) all) ends in
    let one : 1 + prefix_len is_before_suffix (digits ++ suffix) ≡ suc (length digits) = omega (arith, rest) in
    ap (λ (b : Bool). cond b (1 + prefix_len is_before_suffix (digits ++ suffix)) 0) (and-left (is_before_suffix byte) (list_all is_before_suffix digits) all) ∙ one

split-integer : (digits suffix : List ℕ) → is_unsuffixed digits ≡ true → list_any (bytes_eq suffix) suffixes ≡ true → is_integer (digits ++ suffix) ≡ true
split-integer digits suffix counts ends =
    ap (λ (n : ℕ). is_unsuffixed (take n (digits ++ suffix)) && list_any (bytes_eq (drop n (digits ++ suffix))) suffixes) (prefix-split digits suffix (unsuffixed-all digits counts) (suffix-ends suffix ends))
    ∙ and-both (ap is_unsuffixed (take-append_seam digits suffix) ∙ counts) (ap (λ (n : List ℕ). list_any (bytes_eq n) suffixes) (drop-append_seam digits suffix) ∙ ends)

pub integer_exact : (bytes : List ℕ) → IsTrue (is_integer bytes) ↔ IsInteger bytes
integer_exact bytes = (found, spelled)
  where
    found : IsTrue (is_integer bytes) → IsInteger bytes
    found is = record {
      digits = take (digits_length bytes) bytes;
      suffix = drop (digits_length bytes) bytes;
      whole = sym (take-append-drop (digits_length bytes) bytes);
      counts = and-left (is_unsuffixed (take (digits_length bytes) bytes)) (list_any (bytes_eq (drop (digits_length bytes) bytes)) suffixes) is;
      ends = and-right (is_unsuffixed (take (digits_length bytes) bytes)) (list_any (bytes_eq (drop (digits_length bytes) bytes)) suffixes) is;
    }

    spelled : IsInteger bytes → IsTrue (is_integer bytes)
    spelled h = ap is_integer h.whole ∙ split-integer h.digits h.suffix h.counts h.ends
