-- The token that is found at the front of a text is the longest of any kind.
use Rattle.std.specs.Prelude.{◌≡◌, ℕ, zero, suc, ◌≤◌, ◌<◌, Bool, true, false, ◌||◌, ◌⊎◌, List, [], ◌∷◌, length, take, nat_eq, Some}
use Rattle.std.proofs.Common.{refl, sym, ◌∙◌, ap, subst, arith, inl, inr}
use Rattle.std.proofs.lemmas.Bool.{ne_eqb}
use Rattle.ctokens.proofs.Choices.{both_true, true_and, or_true, chosen_no}
use Rattle.ctokens.proofs.Numbers.{word_length-reaches, word_length-most, word_length-inside, number_length-reaches, number_length-most, number_length-inside}
use Rattle.ctokens.proofs.Letters.{letter_length-reaches, letter_length-exact, letter_length-inside}
use Rattle.ctokens.proofs.Quotes.{quoted_length-reaches, quoted_length-exact, quoted_length-inside}
use Rattle.ctokens.proofs.MarkLengths.{mark_length-reaches, mark_length-most, mark_length-inside}
use Rattle.ctokens.proofs.TokenKinds.{kind_of_spelled, is_pointed, kind_at-take}
use Rattle.cbase.specs.Bytes.{is_digit}
use Rattle.ctokens.specs.Spelled.{is_number_from_digit, Spells}
use Rattle.ctokens.specs.Lengths.{token_length, kind_at}
use Rattle.ctokens.specs.Pieces.{IsToken, begins_line_comment, begins_block_comment}
use Rattle.ctokens.specs.PieceAt.{piece_of, sized, lexeme_at}
use Rattle.ctokens.specs.declared.token.TokenKind.{TokenKind}
use Rattle.ctokens.specs.declared.token.TokenKind.TheVariants.{Word, Number, Letter, Quoted, Mark}
use Rattle.ctokens.specs.declared.piece.PieceKind.TheVariants.{Lexeme}

reaches : (kind : TokenKind) (text : List ℕ) → 0 < token_length kind text → Spells kind (take (token_length kind text) text)
reaches Word text some = word_length-reaches text some
reaches Number text some = number_length-reaches text some
reaches Letter text some = letter_length-reaches text some
reaches Quoted text some = quoted_length-reaches text some
reaches Mark text some = mark_length-reaches text some

most : (kind : TokenKind) (text : List ℕ) (count : ℕ) → count ≤ length text → Spells kind (take count text) → count ≤ token_length kind text
most Word text count inside h = word_length-most text count inside h
most Number text count inside h = number_length-most text count inside h
most Letter text count inside h = omega (arith, letter_length-exact text count inside h)
most Quoted text count inside h = omega (arith, quoted_length-exact text count inside h)
most Mark text count inside h = mark_length-most text count inside h

pub token_length-inside : (kind : TokenKind) (text : List ℕ) → token_length kind text ≤ length text
token_length-inside Word text = word_length-inside text
token_length-inside Number text = number_length-inside text
token_length-inside Letter text = letter_length-inside text
token_length-inside Quoted text = quoted_length-inside text
token_length-inside Mark text = mark_length-inside text

-- a token of some kind, where the first bytes that are its own say what those of the text say
agreed_kind : (kind : TokenKind) (text : List ℕ) (count : ℕ) → 0 < count → (1 < count) ⊎ (is_pointed text ≡ false)
    → Spells kind (take count text) → kind ≡ kind_at text
agreed_kind kind text count some apart h = kind_of_spelled kind (take count text) h ∙ kind_at-take text count some apart

at_most : (kind : TokenKind) (text : List ℕ) (count : ℕ) → 0 < count → (1 < count) ⊎ (is_pointed text ≡ false) → count ≤ length text
    → Spells kind (take count text) → count ≤ token_length (kind_at text) text
at_most kind text count some apart inside h =
    most (kind_at text) text count inside (subst (λ (k : TokenKind). Spells k (take count text)) (agreed_kind kind text count some apart h) h)

sized-some : (kind : TokenKind) (count : ℕ) → 0 < count → sized (Lexeme kind) count ≡ Some (piece_of (Lexeme kind) count)
sized-some kind count some = chosen_no (nat_eq count 0) _ _ (ne_eqb count 0 (λ e. omega (arith, e)))

-- a `.` and a digit are a number of two bytes
pointed_number : (text : List ℕ) → is_pointed text ≡ true → (2 ≤ length text) × Spells Number (take 2 text)
pointed_number [] h = absurd cc
pointed_number (first ∷ []) h = let none = (both_true (nat_eq first 46) false h).1 in absurd cc
pointed_number (first ∷ (second ∷ others)) h =
    let (point, digit) = both_true (nat_eq first 46) (is_digit second) h in (
      omega arith,
      or_true (is_number_from_digit (first ∷ (second ∷ []))) _ (true_and (nat_eq first 46) _ point (true_and (is_digit second) true digit refl)),
    )

pub lexeme_at-exact : (kind : TokenKind) (text : List ℕ) (taken : ℕ) → 0 < taken → taken ≤ length text → IsToken kind text taken
    → lexeme_at text ≡ Some (piece_of (Lexeme kind) taken)
unfolding lexeme_at
lexeme_at-exact kind text taken some inside token = cases taken refl (is_pointed text) refl
  where
    agreed : (1 < taken) ⊎ (is_pointed text ≡ false) → lexeme_at text ≡ Some (piece_of (Lexeme kind) taken)
    agreed apart =
        let same = agreed_kind kind text taken some apart token.spelled in
        let low = at_most kind text taken some apart inside token.spelled in
        let high : token_length (kind_at text) text ≤ taken =
        not_more (token_length (kind_at text) text) (λ more.
        token.longest (kind_at text) (token_length (kind_at text) text) more (token_length-inside (kind_at text) text) (reaches (kind_at text) text (omega arith))) in
        let count : token_length (kind_at text) text ≡ taken = omega arith in
        ap (sized (Lexeme (kind_at text))) count ∙ (ap (λ (k : TokenKind). sized (Lexeme k) taken) (sym same) ∙ sized-some kind taken some)
      where
        not_more : (count : ℕ) → (taken < count → ⊥) → count ≤ taken
        not_more count h = omega arith

    cases : (count : ℕ) → taken ≡ count → (pointed : Bool) → is_pointed text ≡ pointed → lexeme_at text ≡ Some (piece_of (Lexeme kind) taken)
    cases zero is pointed is_pointed = absurd (omega arith)
    cases (suc (suc count)) is pointed is_pointed = agreed (inl (omega arith))
    cases (suc zero) is false none = agreed (inr none)
    cases (suc zero) is true point =
        let (two, number) = pointed_number text point in absurd (token.longest Number 2 (omega arith) two number)

pub lexeme_at-sound : (text : List ℕ) (kind : TokenKind) (taken : ℕ) → 0 < taken → taken ≡ token_length (kind_at text) text → kind ≡ kind_at text
    → (begins_line_comment text || begins_block_comment text) ≡ false → IsToken kind text taken
lexeme_at-sound text kind taken some is is_kind clear = record {
  spelled = rw (is_kind, is) (reaches (kind_at text) text (omega arith));
  longest = λ other more longer inside h.
      let low = at_most other text more (omega arith) (inl (omega arith)) inside h in omega arith;
  no_comment = clear;
}
