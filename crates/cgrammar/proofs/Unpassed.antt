-- A token that is passed over leaves nothing in the row of a text.
use Rattle.std.proofs.Common.{◌≡◌, ℕ, zero, suc, ◌+◌, ◌-◌, ◌<◌, ◌≤◌, Bool, true, List, [], ◌∷◌, map, take, drop, length, get_or, ap, sym, ◌∙◌, arith, if◌then◌else◌}
use Rattle.std.specs.List.{All, drop-map, take-map}
use Rattle.std.proofs.lemmas.List.Elements.{All-take, All-drop}
use Rattle.ctokens.specs.declared.token.Token.{Token}
use Rattle.ctokens.specs.Passed.{unpassed}
use Rattle.cgrammar.specs.Terminals.{terminal_of}

pub unpassed_behind : (text : List ℕ) (passed : List Bool) (list : List Token) (index : ℕ) (other : Bool) → index < length passed → index < length list
    → get_or passed index other ≡ true
    → unpassed (drop index passed) (map (terminal_of text) (drop index list)) ≡ unpassed (drop (index + 1) passed) (map (terminal_of text) (drop (index + 1) list))
unpassed_behind text [] list index other inside within is = absurd (omega (arith, inside))
unpassed_behind text (first ∷ passed) [] index other inside within is = absurd (omega (arith, within))
unpassed_behind text (first ∷ passed) (token ∷ list) zero other inside within is =
    ap (λ (b : Bool). if b then unpassed passed (map (terminal_of text) list) else terminal_of text token ∷ unpassed passed (map (terminal_of text) list)) is
unpassed_behind text (first ∷ passed) (token ∷ list) (suc index) other inside within is =
    let next : suc index + 1 ≡ suc (index + 1) = omega arith in
    rw next (unpassed_behind text passed list index other (omega (arith, inside)) (omega (arith, within)) is)

-- the part of a row from one token up to another is that of the part of the text
pub between : (text : List ℕ) (list : List Token) (from to : ℕ)
    → map (terminal_of text) (take (to - from) (drop from list)) ≡ take (to - from) (drop from (map (terminal_of text) list))
between text list from to =
    sym (ap (take (to - from)) (drop-map (terminal_of text) from list) ∙ take-map (terminal_of text) (to - from) (drop from list))

-- what holds of the tokens holds of those of a part
pub ranges_between : (text : List ℕ) (list : List Token) (from to : ℕ)
    → All (λ (token : Token). (token.from < token.to) × (token.to ≤ length text)) list
    → All (λ (token : Token). (token.from < token.to) × (token.to ≤ length text)) (take (to - from) (drop from list))
ranges_between text list from to ranges =
    All-take (λ (token : Token). (token.from < token.to) × (token.to ≤ length text)) (to - from) (drop from list)
    (All-drop (λ (token : Token). (token.from < token.to) × (token.to ≤ length text)) from list ranges)
