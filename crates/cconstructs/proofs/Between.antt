-- A part of a list, by numbers that may lie behind it.
use Rattle.std.proofs.Common.{◌≡◌, ℕ, ◌+◌, ◌-◌, ◌<◌, ◌≤◌, ◌^◌, min, ap, sym, ◌∙◌, List, length, length-drop, map, take, drop, arith}
use Rattle.std.proofs.lemmas.List.{drop_min, drop-map, length-take, take-map, take_min, take_rest}
use Rattle.std.proofs.lemmas.List.Elements.{All-drop, All-take}
use Rattle.std.specs.List.{All}
use Rattle.ctokens.specs.InText.{LieInText, most_bytes}
use Rattle.ctokens.specs.declared.token.Token.{Token}
use Rattle.ctokens.specs.declared.token.Tokens.{Tokens}
use Rattle.cgrammar.specs.Terminals.{terminal_of}
use Rattle.cconstructs.specs.Layout.{tokens_between}

pub between_exact : {A : Type 0} (list : List A) (from count : ℕ)
    → take (min count (length (take (length list - min from (length list)) (drop (min from (length list)) list)))) (take (length list - min from (length list)) (drop (min from (length list)) list))
    ≡ take count (drop from list)
between_exact list from count =
    take_min count (take (length list - min from (length list)) (drop (min from (length list)) list))
    ∙ ap (take count) (take_rest list (min from (length list)) ∙ drop_min from list)

pub tokens_exact : (t : Tokens) (from to : ℕ) → map (terminal_of t.text) (take (to - from) (drop from t.list)) ≡ tokens_between t from to
tokens_exact t from to = sym (take-map (terminal_of t.text) (to - from) (drop from t.list)) ∙ ap (take (to - from)) (sym (drop-map (terminal_of t.text) from t.list))

-- what holds of the tokens of a text holds of a part of them
pub between_ranges : (t : Tokens) (from count : ℕ) → LieInText t
    → All (λ (token : Token). (token.from < token.to) × (token.to ≤ length t.text)) (take count (drop from t.list))
between_ranges t from count lie =
    All-take (λ (token : Token). (token.from < token.to) × (token.to ≤ length t.text)) count (drop from t.list)
    (All-drop (λ (token : Token). (token.from < token.to) × (token.to ≤ length t.text)) from t.list lie.ranges)

pub between_few : (t : Tokens) (from count : ℕ) → LieInText t → length (take count (drop from t.list)) ≤ most_bytes
between_few t from count lie = omega (arith, length-take count (drop from t.list), length-drop from t.list, lie.few)

pub between_fits : (t : Tokens) (from count : ℕ) → LieInText t → from < 2 ^ 32 → from + length (take count (drop from t.list)) < 2 ^ 32
between_fits t from count lie fits = omega (arith, length-take count (drop from t.list), length-drop from t.list, lie.few)
