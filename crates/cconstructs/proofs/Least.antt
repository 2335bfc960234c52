-- The least number of a row, token by token.
use Rattle.std.proofs.Common.{◌≡◌, ℕ, zero, suc, ◌+◌, ◌-◌, ◌<◌, ◌≤◌, min, refl, ap, sym, ◌∙◌, List, [], ◌∷◌, Option, None, Some, length, take, drop, add-one, arith}
use Rattle.std.proofs.lemmas.List.{drop_all, take_rest}
use Rattle.cgrammar.specs.Terminals.{Terminal}
use Rattle.cconstructs.specs.LayoutFinding.{least_struct, lesser, struct_at}

-- what is found is this number or less
pub record AtMost (found : Option ℕ) (most : ℕ) : Type 0 where
  pub least : ℕ
  pub is : found ≡ Some least
  pub less : least ≤ most

pub lesser_none : (one : Option ℕ) → lesser one None ≡ one
lesser_none None = refl
lesser_none (Some one) = refl

lesser_three : (a b c : Option ℕ) → lesser (lesser a b) c ≡ lesser a (lesser b c)
lesser_three None b c = refl
lesser_three (Some a) None c = refl
lesser_three (Some a) (Some b) None = refl
lesser_three (Some a) (Some b) (Some c) = let least : min (min a b) c ≡ min a (min b c) = omega arith in ap (λ (n : ℕ). Some n) least

next : (line : ℕ) (row : List Terminal) (at : ℕ) → at < length row → least_struct line (drop at row) ≡ lesser (struct_at line (drop at row)) (least_struct line (drop (suc at) row))
unfolding least_struct
next line [] at within = absurd (omega arith)
next line (word ∷ others) zero within = refl
next line (word ∷ others) (suc at) within = next line others at (omega arith)

pub least_next : (line : ℕ) (row : List Terminal) (at : ℕ) (least : Option ℕ) → at < length row
    → lesser (lesser least (struct_at line (take (length row - at) (drop at row)))) (least_struct line (drop (at + 1) row)) ≡ lesser least (least_struct line (drop at row))
least_next line row at least within =
    lesser_three least (struct_at line (take (length row - at) (drop at row))) (least_struct line (drop (at + 1) row))
    ∙ ap (lesser least)
    (ap (λ (rest : List Terminal). lesser (struct_at line rest) (least_struct line (drop (at + 1) row))) (take_rest row at)
    ∙ (ap (λ (n : ℕ). lesser (struct_at line (drop at row)) (least_struct line (drop n row))) (add-one at) ∙ sym (next line row at within)))

pub least_end : (line : ℕ) (row : List Terminal) (at : ℕ) (least : Option ℕ) → length row ≤ at → lesser least (least_struct line (drop at row)) ≡ least
unfolding least_struct
least_end line row at least past = ap (λ (rest : List Terminal). lesser least (least_struct line rest)) (drop_all at row past) ∙ lesser_none least
