-- The four kinds of word: the mark `--`, a long option, a short one, and a plain word.
use Rattle.std.proofs.Common.{◌≡◌, ◌∙◌, ◌<◌, ◌+◌, ◌==◌, ℕ, Bool, true, false, suc, cond, refl, sym, ap, subst, arith, List, [], ◌∷◌, length, take, drop, Option, Some, None, true≢false}
use Rattle.std.specs.Prelude.{slice_get, encode_utf8_all}
use Rattle.std.specs.List.{list_any, position_or_len, before_first}
use Rattle.std.specs.Str.{IsUtf8, bytes_eq, chars}
use Rattle.std.proofs.lemmas.Bool.{eq-eqb, eqb-true}
use Rattle.std.proofs.lemmas.Str.{IsCharBoundary-after_ascii, IsUtf8-drop, chars-encodes}
use Rattle.clap.specs.Lexer.{long_of, short_of}
use Rattle.command_line.specs.Words.{Word, has_hyphen, is_end_of_options, is_equals, option_name, option_value}

pub record IsLong (word name : Word) (given : Option Word) : Type 0 where
  pub no_end : is_end_of_options word ≡ false
  pub hyphen : has_hyphen word ≡ true
  pub long : long_of word ≡ Some (name, given)
  pub name_is : option_name word ≡ 45 ∷ 45 ∷ name
  pub value_is : option_value word ≡ given

pub record IsShort (word : Word) (letter : ℕ) (flag : ℕ) (flags : Word) : Type 0 where
  pub no_end : is_end_of_options word ≡ false
  pub hyphen : has_hyphen word ≡ true
  pub no_long : long_of word ≡ None
  pub short : short_of word ≡ Some (flag ∷ flags)
  pub letter_is : slice_get (chars (flag ∷ flags)) 0 ≡ Some letter
  pub no_option : (name : Word) → bytes_eq (45 ∷ 45 ∷ name) (option_name word) ≡ false

pub record IsPlain (word : Word) : Type 0 where
  pub no_end : is_end_of_options word ≡ false
  pub no_hyphen : has_hyphen word ≡ false
  pub no_long : long_of word ≡ None
  pub no_short : short_of word ≡ None

pub data Kind (word : Word) : Type 0 where
  ends : word ≡ 45 ∷ 45 ∷ [] → Kind word
  is_long : (name : Word) (given : Option Word) → IsLong word name given → Kind word
  is_short : (letter flag : ℕ) (flags : Word) → IsShort word letter flag flags → Kind word
  is_plain : IsPlain word → Kind word

-- ---- a word of one byte is plain

one_byte : (x : ℕ) (b : Bool) → (x == 45) ≡ b → IsPlain (x ∷ [])
one_byte x true e = record { no_end = rw e refl; no_hyphen = refl; no_long = rw e refl; no_short = rw e refl }
one_byte x false e = record { no_end = rw e refl; no_hyphen = refl; no_long = rw e refl; no_short = rw e refl }

-- ---- a longer word is plain where no hyphen stands at its front

no_front : (x y : ℕ) (rest : Word) → (x == 45) ≡ false → IsPlain (x ∷ y ∷ rest)
no_front x y rest e = record { no_end = rw e refl; no_hyphen = e; no_long = rw e refl; no_short = rw e refl }

-- ---- after two hyphens

cut_behind : (x : ℕ) (xs : Word) → is_equals x ≡ false → before_first is_equals (x ∷ xs) ≡ x ∷ before_first is_equals xs
cut_behind x xs e =
    let next : 1 + position_or_len is_equals xs ≡ suc (position_or_len is_equals xs) = omega arith in
    rw e (ap (λ n. take n (x ∷ xs)) next)

value_past : (x : ℕ) (xs : Word) → is_equals x ≡ false → option_value (x ∷ xs) ≡ option_value xs
value_past x xs e =
    let next : (1 + position_or_len is_equals xs) + 1 ≡ suc (position_or_len is_equals xs + 1) = omega arith in
    rw e (ap (λ n. cond (list_any is_equals xs) (Some (drop n (x ∷ xs))) None) next)

long_word : (z : ℕ) (zs : Word) → IsLong (45 ∷ 45 ∷ z ∷ zs) (option_name (z ∷ zs)) (option_value (z ∷ zs))
long_word z zs = record {
  no_end = refl;
  hyphen = refl;
  long = refl;
  name_is = cut_behind 45 (45 ∷ z ∷ zs) refl ∙ ap (λ t. 45 ∷ t) (cut_behind 45 (z ∷ zs) refl);
  value_is = value_past 45 (45 ∷ z ∷ zs) refl ∙ value_past 45 (z ∷ zs) refl;
}

-- ---- after one

rest_is_text : (word : Word) → IsUtf8 (45 ∷ word) → IsUtf8 word
rest_is_text word text =
    let inside : 0 < length (45 ∷ word) = omega arith in
    IsUtf8-drop (45 ∷ word) 1 text (IsCharBoundary-after_ascii (45 ∷ word) 0 text inside (omega arith))

first_letter : (cs : List ℕ) (flag : ℕ) (flags : Word) → chars (flag ∷ flags) ≡ cs → encode_utf8_all cs ≡ flag ∷ flags → (letter : ℕ) × (slice_get (chars (flag ∷ flags)) 0 ≡ Some letter)
first_letter [] flag flags is spelt = absurd cc
first_letter (c ∷ cs) flag flags is spelt = (c, ap (λ t. slice_get t 0) is)

letter_of : (flag : ℕ) (flags : Word) → IsUtf8 (flag ∷ flags) → (letter : ℕ) × (slice_get (chars (flag ∷ flags)) 0 ≡ Some letter)
letter_of flag flags text = first_letter text.0 flag flags (ap chars (sym text.1.1) ∙ chars-encodes text.0 text.1.0) text.1.1

flipped : (a b : ℕ) → (a == b) ≡ false → (t : Bool) → (b == a) ≡ t → (b == a) ≡ false
flipped a b other false e = e
flipped a b other true e = absurd (true≢false (sym (eq-eqb a b (sym (eqb-true b a e))) ∙ other))

-- the name of a word with one hyphen is no option's
other_name : (y : ℕ) (ys name : Word) (b : Bool) → is_equals y ≡ b → (y == 45) ≡ false → bytes_eq (45 ∷ 45 ∷ name) (option_name (45 ∷ y ∷ ys)) ≡ false
other_name y ys name true e other = ap (bytes_eq (45 ∷ 45 ∷ name)) (cut_behind 45 (y ∷ ys) refl) ∙ rw e refl
other_name y ys name false e other =
    let unlike : (45 == y) ≡ false = flipped y 45 other (45 == y) refl in
    ap (bytes_eq (45 ∷ 45 ∷ name)) (cut_behind 45 (y ∷ ys) refl ∙ ap (λ t. 45 ∷ t) (cut_behind y ys e)) ∙ rw unlike refl

short_word : (y : ℕ) (ys : Word) → (y == 45) ≡ false → (found : (letter : ℕ) × (slice_get (chars (y ∷ ys)) 0 ≡ Some letter)) → IsShort (45 ∷ y ∷ ys) found.0 y ys
short_word y ys other found = record {
  no_end = rw other refl;
  hyphen = refl;
  no_long = rw other refl;
  short = rw other refl;
  letter_is = found.1;
  no_option = λ name. other_name y ys name (is_equals y) refl other;
}

-- ---- every word is of one kind

two_hyphens : (rest : Word) → Kind (45 ∷ 45 ∷ rest)
two_hyphens [] = ends refl
two_hyphens (z ∷ zs) = is_long (option_name (z ∷ zs)) (option_value (z ∷ zs)) (long_word z zs)

one_hyphen : (y : ℕ) (ys : Word) (b : Bool) → (y == 45) ≡ b → IsUtf8 (45 ∷ y ∷ ys) → Kind (45 ∷ y ∷ ys)
one_hyphen y ys true e text = subst (λ n. Kind (45 ∷ n ∷ ys)) (sym (eqb-true y 45 e)) (two_hyphens ys)
one_hyphen y ys false e text =
    let found = letter_of y ys (rest_is_text (y ∷ ys) text) in
    is_short found.0 y ys (short_word y ys e found)

two_bytes : (x y : ℕ) (ys : Word) (b : Bool) → (x == 45) ≡ b → IsUtf8 (x ∷ y ∷ ys) → Kind (x ∷ y ∷ ys)
two_bytes x y ys true e text =
    let is : x ≡ 45 = eqb-true x 45 e in
    subst (λ n. Kind (n ∷ y ∷ ys)) (sym is) (one_hyphen y ys (y == 45) refl (subst (λ n. IsUtf8 (n ∷ y ∷ ys)) is text))
two_bytes x y ys false e text = is_plain (no_front x y ys e)

pub kind_of_word : (word : Word) → IsUtf8 word → Kind word
kind_of_word [] text = is_plain (record { no_end = refl; no_hyphen = refl; no_long = refl; no_short = refl })
kind_of_word (x ∷ []) text = is_plain (one_byte x (x == 45) refl)
kind_of_word (x ∷ y ∷ ys) text = two_bytes x y ys (x == 45) refl text
