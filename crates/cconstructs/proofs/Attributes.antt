-- The first layout attribute from a token on.
use Rattle.std.proofs.Common.{◌≡◌, ℕ, zero, suc, ◌+◌, ◌-◌, ◌<◌, ◌≤◌, Bool, true, false, if◌then◌else◌, refl, ap, sym, ◌∙◌, List, ◌∷◌, Option, None, Some, length, drop, map, get_or, add-one, arith}
use Rattle.std.proofs.lemmas.List.{drop_all}
use Rattle.std.proofs.Math.Seq.{drop-cons}
use Rattle.ctokens.specs.declared.token.Token.{Token}
use Rattle.cgrammar.specs.Terminals.{Terminal, terminal_of}
use Rattle.cconstructs.specs.declared.part.Part.{Part}
use Rattle.cconstructs.specs.Layout.{is_attribute}
use Rattle.cconstructs.specs.LayoutFinding.{attribute_from, part_behind, shows_layout, outside, within}
use Rattle.cconstructs.specs.OpenBrackets.{opens, closes}

-- what is found where it is known whether the token at a place shows a layout
abbrev choice : Bool → ℕ → Part → Terminal → List Terminal → Option ℕ
choice shows number part terminal others =
    if shows then Some number else attribute_from (number + 1) (part_behind part.behind part.unclosed terminal) others

next : (text : List ℕ) (list : List Token) (at number : ℕ) (other : Token) (terminal : Terminal) (part : Part) → at < length list
    → terminal ≡ terminal_of text (get_or list at other)
    → attribute_from number part (map (terminal_of text) (drop at list)) ≡ choice (shows_layout part terminal) number part terminal (map (terminal_of text) (drop (at + 1) list))
unfolding attribute_from
next text list at number other terminal part within there =
    ap (λ (rest : List Terminal). attribute_from number part rest) cut
  where
    cut : map (terminal_of text) (drop at list) ≡ terminal ∷ map (terminal_of text) (drop (at + 1) list)
    cut = ap (map (terminal_of text)) (drop-cons list at other within ∙ ap (λ (n : ℕ). get_or list at other ∷ drop n list) (sym (add-one at)))
        ∙ ap (λ (t : Terminal). t ∷ map (terminal_of text) (drop (at + 1) list)) (sym there)

pub attribute_found : (text : List ℕ) (list : List Token) (at number : ℕ) (other : Token) (terminal : Terminal) (part : Part) → at < length list
    → terminal ≡ terminal_of text (get_or list at other) → shows_layout part terminal ≡ true
    → attribute_from number part (map (terminal_of text) (drop at list)) ≡ Some number
attribute_found text list at number other terminal part within there shows =
    next text list at number other terminal part within there
    ∙ ap (λ (b : Bool). choice b number part terminal (map (terminal_of text) (drop (at + 1) list))) shows

pub attribute_later : (text : List ℕ) (list : List Token) (at number : ℕ) (other : Token) (terminal : Terminal) (part : Part) → at < length list
    → terminal ≡ terminal_of text (get_or list at other) → shows_layout part terminal ≡ false
    → attribute_from number part (map (terminal_of text) (drop at list))
    ≡ attribute_from (number + 1) (part_behind part.behind part.unclosed terminal) (map (terminal_of text) (drop (at + 1) list))
attribute_later text list at number other terminal part within there shows =
    next text list at number other terminal part within there
    ∙ ap (λ (b : Bool). choice b number part terminal (map (terminal_of text) (drop (at + 1) list))) shows

pub attribute_none : (text : List ℕ) (list : List Token) (at number : ℕ) (part : Part) → length list ≤ at → attribute_from number part (map (terminal_of text) (drop at list)) ≡ None
unfolding attribute_from
attribute_none text list at number part past = ap (λ (rest : List Token). attribute_from number part (map (terminal_of text) rest)) (drop_all at list past)

pub few_behind : (part : Part) (token : Terminal) → (part_behind part.behind part.unclosed token).unclosed ≤ part.unclosed + 1
few_behind part token = step part.behind part.unclosed
  where
    bracket : (n : ℕ) (a b : Bool) → (if a then n + 1 else (if b then n - 1 else n)) ≤ n + 1
    bracket n true b = omega arith
    bracket n false true = omega arith
    bracket n false false = omega arith

    first : (opening : Bool) (next : Part) → next.unclosed ≡ 0 → (if opening then within 1 true else next).unclosed ≤ 1
    first true next is = omega arith
    first false next is = omega arith

    step : (behind : Bool) (unclosed : ℕ) → (part_behind behind unclosed token).unclosed ≤ unclosed + 1
    step behind (suc n) = bracket (suc n) (opens token) (closes token)
    step true zero = first (opens token) (outside (is_attribute token)) refl
    step false zero = omega arith
