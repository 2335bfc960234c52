-- Contents of new blocks.
use Rattle.std.proofs.Common.{◌≡◌, ℕ, zero, suc, ◌+◌, ◌<◌, ◌≤◌, Bool, true, false, ◌&&◌, ◌||◌, not, List, [], ◌∷◌, ◌++◌, length, map, drop, get_or, nat_eq, nat_lt, refl, sym, ap, ◌∙◌, append_assoc, add-one, drop-cons, arith}
use Rattle.std.proofs.lemmas.Bool.{lt-ltb, eq-eqb}
use Rattle.std.proofs.lemmas.List.{append-nil}
use Rattle.std.specs.Prelude.{All}
use Rattle.std.specs.List.{list_all}
use Rattle.bytes_core.specs.declared.byte.Byte.{Byte}
use Rattle.bytes_core.specs.declared.byte.Byte.TheVariants.{Num}
use Rattle.bytes_core.specs.declared.block.Block.{Block}
use Rattle.bytes_core.specs.declared.block.BlockKind.{BlockKind}
use Rattle.bytes_core.specs.Placement.{can_be_placed, new_block}
use Rattle.bytes_core.specs.Valid.{NamesBelow}
use Rattle.c_steps.specs.Making.{is_choice}
use Rattle.c_steps.proofs.Behind.{none_left}

pub names_of_numbers : (count : ℕ) (contents : List ℕ) → All (NamesBelow count) (map Num contents)
names_of_numbers count [] k d inside = absurd (omega arith)
names_of_numbers count (number ∷ rest) zero d inside = tt
names_of_numbers count (number ∷ rest) (suc k) d inside = names_of_numbers count rest k d (omega arith)

both : (one other : Bool) → one ≡ true → other ≡ true → (one && other) ≡ true
both true other first second = second
both false other first second = first

-- all bytes are below 256
below_256 : (contents : List ℕ) → ((i : ℕ) → get_or contents i 0 < 256) → list_all (λ byte. nat_lt byte 256) contents ≡ true
below_256 [] fits = refl
below_256 (byte ∷ rest) fits = both (nat_lt byte 256) (list_all (λ byte. nat_lt byte 256) rest) (lt-ltb byte 256 (fits 0)) (below_256 rest (λ i. fits (suc i)))

pub choice_made : (memory : List Block) (kind : BlockKind) (size : ℕ) (zeroed : Bool) (base : ℕ) (contents : List ℕ) → length contents ≡ size →
    ((i : ℕ) → get_or contents i 0 < 256) → can_be_placed memory (new_block kind base contents) ≡ true → (not zeroed || list_all (nat_eq 0) contents) ≡ true →
    is_choice memory kind size zeroed base contents ≡ true
choice_made memory kind size zeroed base contents sized fits placed asked =
    both _ (not zeroed || list_all (nat_eq 0) contents)
    (both (nat_eq (length contents) size) _ (eq-eqb (length contents) size sized)
    (both (list_all (λ byte. nat_lt byte 256) contents) (can_be_placed memory (new_block kind base contents)) (below_256 contents fits) placed))
    asked

-- one more byte is there, and at the end all are
pub one_more_byte : (bytes more : List Byte) (contents : List ℕ) (at : ℕ) → at < length contents → more ≡ bytes ++ Num (get_or contents at 0) ∷ [] →
    more ++ map Num (drop (at + 1) contents) ≡ bytes ++ map Num (drop at contents)
one_more_byte bytes more contents at inside is =
    let byte = get_or contents at 0 in
    let rest = drop (at + 1) contents in
    ap (λ (all : List Byte). all ++ map Num rest) is
    ∙ (append_assoc bytes (Num byte ∷ []) (map Num rest)
    ∙ ap (λ (left : List ℕ). bytes ++ map Num left) (ap (λ (n : ℕ). byte ∷ drop n contents) (add-one at) ∙ sym (drop-cons contents at 0 inside)))

pub all_bytes : (bytes : List Byte) (contents : List ℕ) (at : ℕ) → length contents ≤ at → bytes ++ map Num (drop at contents) ≡ map Num contents → bytes ≡ map Num contents
all_bytes bytes contents at past is =
    sym (append-nil bytes) ∙ (ap (λ (left : List ℕ). bytes ++ map Num left) (sym (none_left contents at past)) ∙ is)
