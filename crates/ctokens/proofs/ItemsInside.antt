-- The spans of a text's items lie among its tokens, and there are no more of them than tokens.
use Rattle.std.proofs.Common.{◌≡◌, ℕ, ◌+◌, ◌≤◌, Bool, true, false, cond, List, [], ◌∷◌, length, drop, Ok, refl, ap, ◌∙◌, subst, arith, zero, suc, ◌&&◌}
use Rattle.std.specs.List.{All}
use Rattle.std.proofs.lemmas.List.{length-map, length-drop}
use Rattle.std.proofs.lemmas.List.Elements.{All-nil, All-cons, All-weaker}
use Rattle.ctokens.specs.declared.item_span.ItemSpan.{ItemSpan}
use Rattle.ctokens.specs.declared.symbol.Symbol.{Symbol}
use Rattle.ctokens.specs.declared.symbol.Symbol.TheVariants.{PassedOver}
use Rattle.ctokens.specs.declared.token.Tokens.{Tokens}
use Rattle.ctokens.specs.Items.{AreItems, NoToken, LeftOver, Ending, IsInside, IsItems, IsSpanAmong}
use Rattle.ctokens.specs.Passed.{depth_after, passed_tokens, read_from, read_symbols}
use Rattle.ctokens.specs.Symbol.{is_attribute, is_opening, is_passed_over}
use Rattle.ctokens.specs.TokenSymbols.{symbols, token_symbol}

read_by : (b c : Bool) (symbol : Symbol) (xs ys zs : List Symbol) (n : ℕ) → length xs ≡ n → length ys ≡ n → length zs ≡ n
    → length (cond b (PassedOver ∷ xs) (cond c (PassedOver ∷ ys) (symbol ∷ zs))) ≡ suc n
read_by true c symbol xs ys zs n p q r = ap suc p
read_by false true symbol xs ys zs n p q r = ap suc q
read_by false false symbol xs ys zs n p q r = ap suc r

length-read : (symbols : List Symbol) (behind : Bool) (unclosed : ℕ) → length (read_from behind unclosed symbols) ≡ length symbols
length-read [] behind unclosed = refl
length-read (symbol ∷ rest) behind zero =
    read_by (behind && is_opening symbol) (is_attribute symbol) symbol (read_from false 1 rest) (read_from true 0 rest) (read_from false 0 rest) (length rest)
    (length-read rest false 1) (length-read rest true 0) (length-read rest false 0)
length-read (symbol ∷ rest) behind (suc unclosed) = ap suc (length-read rest false (depth_after (suc unclosed) symbol))

row_length : (t : Tokens) → length (read_symbols (symbols t)) ≡ length t.list
row_length t = length-read (symbols t) false 0 ∙ length-map t.list (token_symbol t.text)

-- it is said of each token of a text whether it is passed over
pub length_passed : (t : Tokens) → length (passed_tokens t) ≡ length t.list
length_passed t = length-map (read_symbols (symbols t)) is_passed_over ∙ row_length t

-- each item of a row has a token
among : (first : ℕ) (row : List Symbol) (spans : List ItemSpan) → AreItems first row spans → All (IsSpanAmong (first + length row)) spans
among _ _ _ (NoToken first) = All-nil (IsSpanAmong (first + 0))
among _ _ _ (LeftOver first row some none) =
    All-cons (IsSpanAmong (first + length row)) (record { first = first; after = first + length row }) [] (omega arith, omega arith) (All-nil (IsSpanAmong (first + length row)))
among _ _ _ (Ending first at row spans less ends earlier more) =
    let rest = length-drop (at + 1) row in
    let count : first + at + 1 + length (drop (at + 1) row) ≡ first + length row = omega arith in
    All-cons (IsSpanAmong (first + length row)) (record { first = first; after = first + at + 1 }) spans (omega arith, omega arith)
    (subst (λ (n : ℕ). All (IsSpanAmong n) spans) count (among (first + at + 1) (drop (at + 1) row) spans more))

few : (first : ℕ) (row : List Symbol) (spans : List ItemSpan) → AreItems first row spans → length spans ≤ length row
few _ _ _ (NoToken first) = omega arith
few _ _ _ (LeftOver first row some none) = omega arith
few _ _ _ (Ending first at row spans less ends earlier more) =
    let rest = length-drop (at + 1) row in
    let known = few (first + at + 1) (drop (at + 1) row) spans more in
    omega arith

-- the items of a text have tokens, and lie among them
pub items_among : (t : Tokens) (items : List ItemSpan) → IsItems t (Ok items) → All (IsSpanAmong (length t.list)) items
items_among t items is =
    let count : 0 + length (read_symbols (symbols t)) ≡ length t.list = let e = row_length t in omega arith in
    subst (λ (n : ℕ). All (IsSpanAmong n) items) count (among 0 (read_symbols (symbols t)) items is.items)

pub items_inside : (t : Tokens) (items : List ItemSpan) → IsItems t (Ok items) → All (IsInside (length t.list)) items
items_inside t items is =
    All-weaker (IsSpanAmong (length t.list)) (IsInside (length t.list)) (λ span among. (omega (arith, among.0), among.1)) items (items_among t items is)

pub items_few : (t : Tokens) (items : List ItemSpan) → IsItems t (Ok items) → length items ≤ length t.list
items_few t items is = let e = row_length t in let known = few 0 (read_symbols (symbols t)) items is.items in omega arith
