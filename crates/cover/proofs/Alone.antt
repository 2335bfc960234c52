-- How many objects have no partner.
use Rattle.std.proofs.Common.{◌≡◌, ℕ, zero, suc, ◌+◌, ◌<◌, ◌≤◌, List, [], ◌∷◌, ◌++◌, length, Option, None, Some, refl, sym, ◌∙◌, ap, arith, slice_index_or, slice_set}
use Rattle.std.proofs.lemmas.Option.{none-some}
use Rattle.std.proofs.lemmas.List.{length-append}
use Rattle.cover.specs.Found.{alone}

-- one fewer, where one gets its partner
pub paired_more : (items : List (Option ℕ)) (key with : ℕ) → key < length items → slice_index_or items key None ≡ None → suc (alone (slice_set items key (Some with))) ≡ alone items
paired_more [] key with within none = absurd (omega arith)
paired_more (None ∷ rest) zero with within none = refl
paired_more (Some other ∷ rest) zero with within none = absurd (none-some other (sym none))
paired_more (None ∷ rest) (suc key) with within none = ap suc (paired_more rest key with (omega arith) none)
paired_more (Some other ∷ rest) (suc key) with within none = paired_more rest key with (omega arith) none

-- and it stands in the queue
pub counted_more : (before after : List ℕ) (items : List (Option ℕ)) (key with : ℕ) → after ≡ before ++ key ∷ [] → key < length items → slice_index_or items key None ≡ None →
    length after + alone (slice_set items key (Some with)) ≡ length before + alone items
counted_more before after items key with more within none =
    let one = paired_more items key with within none in
    let long : length after ≡ length before + 1 = ap length more ∙ length-append before (key ∷ []) in
    omega arith

-- there are no more of them than objects
pub few_alone : (items : List (Option ℕ)) → alone items ≤ length items
few_alone [] = omega arith
few_alone (None ∷ rest) = let e = few_alone rest in omega arith
few_alone (Some with ∷ rest) = let e = few_alone rest in omega arith

-- at first all
pub all_alone : (count : ℕ) (items : List (Option ℕ)) → length items ≡ count → ((key : ℕ) → key < count → slice_index_or items key None ≡ None) → alone items ≡ count
all_alone count [] equal none = equal
all_alone zero (first ∷ rest) equal none = absurd (omega arith)
all_alone (suc count) (None ∷ rest) equal none = ap suc (all_alone count rest (omega arith) (λ key below. none (suc key) (omega arith)))
all_alone (suc count) (Some with ∷ rest) equal none = absurd (none-some with (sym (none 0 (omega arith))))
