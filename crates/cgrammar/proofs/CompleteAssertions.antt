-- The reader is complete on failed assertions, whose brackets are matched by kind (C11 7.2).
use Rattle.std.proofs.Common.{◌≡◌, ℕ, Bool, true, false, ◌⊎◌, inl, inr, List, [], ◌∷◌, ◌++◌, codes, Some, None, refl, ap, sym, subst, ◌∙◌}
use Rattle.std.specs.Prelude.{if◌then◌else◌}
use Rattle.std.specs.Str.{bytes_eq}
use Rattle.std.proofs.lemmas.List.{append_assoc}
use Rattle.cbase.specs.declared.tree.expr.ExprForm.TheVariants.{AssertFail}
use Rattle.ctokens.proofs.Choices.{chosen_yes, chosen_no}
use Rattle.cgrammar.proofs.CompleteOperandStarts.{assert_fail_starts, opens_not, read_as_plain}
use Rattle.cgrammar.proofs.CompletePostfixes.{Postfixed}
use Rattle.cgrammar.proofs.CompletePrimaries.{postfixes_follow}
use Rattle.cgrammar.proofs.CompleteTokens.{mark_test}
use Rattle.cgrammar.proofs.Reached.{Completes}
use Rattle.cgrammar.proofs.TokenKinds.{other_mark, word_is_no_mark}
use Rattle.cgrammar.proofs.TreeLevels.{levels_assert_fail}
use Rattle.cgrammar.proofs.Truth.{clash, not-true}
use Rattle.cgrammar.specs.Brackets.{is_bracket, ArePair, AreMatched, NothingMore, NoBracket, InBrackets}
use Rattle.cgrammar.specs.Outcomes.{Nothing}
use Rattle.cgrammar.specs.Phrases.{Context, counted, numbered, PrimaryExpression}
use Rattle.cgrammar.specs.ReadLevels.{Level}
use Rattle.cgrammar.specs.ReadOperands.{closer_of, matched_with, behind_matched, failed_assertion, read_assert_fail, postfixes_from}
use Rattle.cgrammar.specs.Reader.{level}
use Rattle.cgrammar.specs.Terminals.{Terminal, is_mark, IsMark, IsWord}
use Rattle.cgrammar.specs.declared.reading.starts.OperandStart.TheVariants as operand

-- the byte of a closing bracket
abbrev IsCloser : ℕ → Type 0
IsCloser closer = (closer ≡ 41) ⊎ ((closer ≡ 93) ⊎ (closer ≡ 125))

not_closer : (closer : ℕ) (bytes : List ℕ) (token : Terminal) → IsCloser closer → IsMark bytes token
    → bytes_eq bytes (41 ∷ []) ≡ false → bytes_eq bytes (93 ∷ []) ≡ false → bytes_eq bytes (125 ∷ []) ≡ false → is_mark (closer ∷ []) token ≡ false
not_closer closer bytes token (inl is) mark one two three = ap (λ (c : ℕ). is_mark (c ∷ []) token) is ∙ other_mark bytes (41 ∷ []) token one mark
not_closer closer bytes token (inr (inl is)) mark one two three = ap (λ (c : ℕ). is_mark (c ∷ []) token) is ∙ other_mark bytes (93 ∷ []) token two mark
not_closer closer bytes token (inr (inr is)) mark one two three = ap (λ (c : ℕ). is_mark (c ∷ []) token) is ∙ other_mark bytes (125 ∷ []) token three mark

-- what is no bracket is none of them
no_mark : (bytes : List ℕ) (token : Terminal) → is_bracket token ≡ false → (IsMark bytes token → is_bracket token ≡ true) → is_mark bytes token ≡ false
no_mark bytes token none bracket = step (is_mark bytes token) refl
  where
    step : (b : Bool) → is_mark bytes token ≡ b → b ≡ false
    step true is = absurd (clash (is_bracket token) (bracket is) none)
    step false is = refl

no_closer : (closer : ℕ) (token : Terminal) → IsCloser closer → is_bracket token ≡ false → is_mark (closer ∷ []) token ≡ false
no_closer closer token (inl is) none =
    ap (λ (c : ℕ). is_mark (c ∷ []) token) is ∙ no_mark (codes ")") token none (λ mark. mark_test is_bracket true (codes ")") token mark (λ place. refl))
no_closer closer token (inr (inl is)) none =
    ap (λ (c : ℕ). is_mark (c ∷ []) token) is ∙ no_mark (codes "]") token none (λ mark. mark_test is_bracket true (codes "]") token mark (λ place. refl))
no_closer closer token (inr (inr is)) none =
    ap (λ (c : ℕ). is_mark (c ∷ []) token) is ∙ no_mark (codes "}") token none (λ mark. mark_test is_bracket true (codes "}") token mark (λ place. refl))

closes_nothing : (token : Terminal) → is_bracket token ≡ false → closer_of token ≡ None
closes_nothing token none =
    chosen_no (is_mark (codes "(") token) (Some 41) (if is_mark (codes "[") token then Some 93 else (if is_mark (codes "{") token then Some 125 else None))
    (no_mark (codes "(") token none (λ mark. mark_test is_bracket true (codes "(") token mark (λ place. refl)))
    ∙ chosen_no (is_mark (codes "[") token) (Some 93) (if is_mark (codes "{") token then Some 125 else None)
    (no_mark (codes "[") token none (λ mark. mark_test is_bracket true (codes "[") token mark (λ place. refl)))
    ∙ chosen_no (is_mark (codes "{") token) (Some 125) None
    (no_mark (codes "{") token none (λ mark. mark_test is_bracket true (codes "{") token mark (λ place. refl)))

-- one token
behind_other : (closer : ℕ) (others : List ℕ) (token : Terminal) (row : List Terminal) → IsCloser closer → is_bracket token ≡ false
    → behind_matched (closer ∷ others) (token ∷ row) ≡ behind_matched (closer ∷ others) row
unfolding behind_matched
behind_other closer others token row is none =
    chosen_no (is_mark (closer ∷ []) token) (behind_matched others row) _ (no_closer closer token is none)
    ∙ ap (matched_with (λ inner. behind_matched (inner ∷ (closer ∷ others)) row) (behind_matched (closer ∷ others) row) token) (closes_nothing token none)
    ∙ chosen_no (is_bracket token) None (behind_matched (closer ∷ others) row) none

behind_opening : (closer : ℕ) (others : List ℕ) (token : Terminal) (row : List Terminal) (inner : ℕ) → is_mark (closer ∷ []) token ≡ false → closer_of token ≡ Some inner
    → behind_matched (closer ∷ others) (token ∷ row) ≡ behind_matched (inner ∷ (closer ∷ others)) row
unfolding behind_matched
behind_opening closer others token row inner no_mark is =
    chosen_no (is_mark (closer ∷ []) token) (behind_matched others row) _ no_mark
    ∙ ap (matched_with (λ inner. behind_matched (inner ∷ (closer ∷ others)) row) (behind_matched (closer ∷ others) row) token) is

behind_closing : (closer : ℕ) (others : List ℕ) (token : Terminal) (row : List Terminal) → is_mark (closer ∷ []) token ≡ true → behind_matched (closer ∷ others) (token ∷ row) ≡ behind_matched others row
unfolding behind_matched
behind_closing closer others token row is = chosen_yes (is_mark (closer ∷ []) token) (behind_matched others row) _ is

record Opened (closer : ℕ) (opening closing : Terminal) : Type 0 where
  inner : ℕ
  known : IsCloser inner
  opens : closer_of opening ≡ Some inner
  closes : is_mark (inner ∷ []) closing ≡ true
  other : is_mark (closer ∷ []) opening ≡ false

opened : (closer : ℕ) (opening closing : Terminal) → IsCloser closer → ArePair opening closing → Opened closer opening closing
opened closer opening closing is (inl (opens, closes)) = record {
  inner = 41;
  known = inl refl;
  opens = mark_test closer_of (Some 41) (codes "(") opening opens (λ place. refl);
  closes = closes;
  other = not_closer closer (codes "(") opening is opens refl refl refl;
}
opened closer opening closing is (inr (inl (opens, closes))) = record {
  inner = 93;
  known = inr (inl refl);
  opens = mark_test closer_of (Some 93) (codes "[") opening opens (λ place. refl);
  closes = closes;
  other = not_closer closer (codes "[") opening is opens refl refl refl;
}
opened closer opening closing is (inr (inr (opens, closes))) = record {
  inner = 125;
  known = inr (inr refl);
  opens = mark_test closer_of (Some 125) (codes "{") opening opens (λ place. refl);
  closes = closes;
  other = not_closer closer (codes "{") opening is opens refl refl refl;
}

-- a row of matched brackets closes none of those that are open
matched_passed : (closer : ℕ) (others : List ℕ) (xs more : List Terminal) → IsCloser closer → AreMatched xs → behind_matched (closer ∷ others) (xs ++ more) ≡ behind_matched (closer ∷ others) more
matched_passed closer others _ more is NothingMore = refl
matched_passed closer others _ more is (NoBracket {rest} token none matched) =
    behind_other closer others token (rest ++ more) is (not-true (is_bracket token) none) ∙ matched_passed closer others rest more is matched
matched_passed closer others _ more is (InBrackets {inside} {rest} opening closing pair within matched) =
    let o = opened closer opening closing is pair in
    ap (λ (row : List Terminal). behind_matched (closer ∷ others) (opening ∷ row)) (append_assoc inside (closing ∷ rest) more)
    ∙ behind_opening closer others opening (inside ++ (closing ∷ (rest ++ more))) o.inner o.other o.opens
    ∙ matched_passed o.inner (closer ∷ others) inside (closing ∷ (rest ++ more)) o.known within
    ∙ behind_closing o.inner (closer ∷ others) closing (rest ++ more) o.closes
    ∙ matched_passed closer others rest more is matched

pub behind_assertion : (xs rest : List Terminal) (closing : Terminal) → AreMatched xs → IsMark (codes ")") closing → behind_matched (41 ∷ []) (xs ++ (closing ∷ rest)) ≡ Some rest
unfolding behind_matched
behind_assertion xs rest closing matched ends = matched_passed 41 [] xs (closing ∷ rest) (inl refl) matched ∙ behind_closing 41 [] closing rest ends

assertion_read : (inner : Level) (context : Context) (word opening : Terminal) (row rest : List Terminal) → is_mark (codes "(") opening ≡ true → behind_matched (41 ∷ []) row ≡ Some rest
    → read_assert_fail inner context word (opening ∷ row) ≡ postfixes_from inner (word ∷ (opening ∷ row)) (numbered context word.place AssertFail) 1 (counted context) rest
unfolding read_assert_fail
assertion_read inner context word opening row rest is read =
    chosen_yes (is_mark (codes "(") opening) _ Nothing is ∙ ap (failed_assertion inner context word (word ∷ (opening ∷ row))) read

pub complete_failed_assertion : (before : Context) (xs : List Terminal) (word opening closing : Terminal)
    → IsWord (codes "__assert_fail") word → IsMark (codes "(") opening → AreMatched xs → IsMark (codes ")") closing
    → Completes (PrimaryExpression (numbered before word.place AssertFail)) before (word ∷ (opening ∷ (xs ++ (closing ∷ [])))) (counted before)
complete_failed_assertion before xs word opening closing is opens matched ends m rest fits =
    subst (λ row. Postfixed m before (numbered before word.place AssertFail) (counted before) rest (word ∷ (opening ∷ row))) (sym (append_assoc xs (closing ∷ []) rest))
    (postfixes_follow m before (word ∷ (opening ∷ row)) (numbered before word.place AssertFail) 1 (counted before) rest (levels_assert_fail before.expressions word.place)
    (read_as_plain (level m) before word (opening ∷ row) operand.AssertFail (opens_not before word (opening ∷ row) (word_is_no_mark (codes "__assert_fail") (codes "(") word is)) (assert_fail_starts word is)
    ∙ assertion_read (level m) before word opening row rest opens (behind_assertion xs rest closing matched ends)))
  where
    row : List Terminal
    row = xs ++ (closing ∷ rest)
