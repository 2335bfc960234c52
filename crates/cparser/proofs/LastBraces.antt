-- Which token a row ends with.
use Rattle.std.proofs.Common.{◌≡◌, ℕ, suc, ◌-◌, false, List, [], ◌∷◌, length, None, Some, slice_get, codes, refl, ap, sym, ◌∙◌, arith}
use Rattle.cgrammar.specs.Terminals.{Terminal, is_mark}
use Rattle.cparser.specs.ItemSteps.{ends_with_brace}

last_of_more : (first next : Terminal) (others : List Terminal) → slice_get (first ∷ (next ∷ others)) (length (first ∷ (next ∷ others)) - 1) ≡ slice_get (next ∷ others) (length (next ∷ others) - 1)
last_of_more first next others =
    let long : length (first ∷ (next ∷ others)) - 1 ≡ suc (length (next ∷ others) - 1) = omega arith in
    ap (λ (at : ℕ). slice_get (first ∷ (next ∷ others)) at) long

pub brace_none : (row : List Terminal) → slice_get row (length row - 1) ≡ None → ends_with_brace row ≡ false
brace_none [] is = refl
brace_none (last ∷ []) is = cc is
brace_none (first ∷ (next ∷ others)) is = brace_none (next ∷ others) (sym (last_of_more first next others) ∙ is)

pub brace_some : (row : List Terminal) (token : Terminal) → slice_get row (length row - 1) ≡ Some token → ends_with_brace row ≡ is_mark (codes "}") token
brace_some [] token is = cc is
brace_some (last ∷ []) token is = let same : Some last ≡ Some token = is in let one : last ≡ token = cc same in ap (λ (t : Terminal). is_mark (codes "}") t) one
brace_some (first ∷ (next ∷ others)) token is = brace_some (next ∷ others) token (sym (last_of_more first next others) ∙ is)
