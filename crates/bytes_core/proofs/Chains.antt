-- A block is reached just where a chain leads to it: as many links as there are blocks suffice, since the set
-- of the blocks reached by so many links grows with each link or stands still from there on.
use Rattle.std.proofs.Common.{◌≡◌, ℕ, zero, suc, ◌+◌, ◌<◌, ◌≤◌, Bool, true, false, ◌&&◌, ◌||◌, not, List, [], ◌∷◌, length, nat_eq, ◌⊎◌, inl, inr, refl, sym, ap, ◌∙◌, subst, arith}
use Rattle.std.proofs.Math.Bool.{and-false, or-false}
use Rattle.std.proofs.lemmas.Bool.{or_left, or_right, or_cases, and_parts, and_from, eqb-true, false≢true, not-true, not_from_false, false_from_ne_true}
use Rattle.std.proofs.lemmas.Bool.Decides.{same_from_decides}
use Rattle.std.proofs.lemmas.Map.Views.{list_any-from_Contains, Contains-from_any}
use Rattle.std.proofs.lemmas.Option.{slice_get_within}
use Rattle.std.proofs.lemmas.Cmp.{nat_eq_equiv}
use Rattle.std.specs.Prelude.{IsTrue, ◌↔◌}
use Rattle.std.specs.List.{list_any}
use Rattle.bytes_core.specs.declared.block.Block.{Block}
use Rattle.bytes_core.specs.Release.{is_heap}
use Rattle.bytes_core.specs.Loss.{holds_pointer_to, some_block, reached_within, is_reached, is_lost, Chain, Root, Link, IsLostBlock}
use Rattle.bytes_core.proofs.Blocks.{some_block_at, PassesAt-some_block}
use Rattle.bytes_core.proofs.Sets.{IsWithin, IsSame, size_below, size_below-le, same_or_fewer}

-- whether a live block holds a pointer to the target, and is itself in a set
abbrev pub leads_on : (ℕ → Bool) → ℕ → ℕ → Block → Bool
leads_on set target number block = block.live && (holds_pointer_to target block.bytes && set number)

-- whether the target is a root, or some block of a set leads on to it
abbrev pub is_next : List Block → List ℕ → (ℕ → Bool) → ℕ → Bool
is_next memory roots set target = list_any (nat_eq target) roots || some_block (leads_on set target) 0 memory

-- whether a chain of fewer than so many links leads to the target
abbrev pub is_near : List Block → List ℕ → ℕ → ℕ → Bool
is_near memory roots zero target = false
is_near memory roots (suc links) target = is_next memory roots (is_near memory roots links) target

pub some_block_none : (test : ℕ → Block → Bool) (number : ℕ) (memory : List Block) → ((place : ℕ) (block : Block) → test place block ≡ false) →
    some_block test number memory ≡ false
some_block_none test number [] fails = refl
some_block_none test number (block ∷ rest) fails = rw (fails number block) (some_block_none test (number + 1) rest fails)

reached_within-near : (links : ℕ) (memory : List Block) (roots : List ℕ) (target : ℕ) → reached_within links memory roots target ≡ is_near memory roots (suc links) target
unfolding reached_within
reached_within-near zero memory roots target =
    rw (some_block_none (leads_on (λ number. false) target) 0 memory (λ number block. rw (and-false (holds_pointer_to target block.bytes), and-false block.live)))
    (sym (or-false (list_any (nat_eq target) roots)))
reached_within-near (suc links) memory roots target =
    let before : reached_within links memory roots ≡ is_near memory roots (suc links) = λ i number. reached_within-near links memory roots number i in
    ap (λ (set : ℕ → Bool). is_next memory roots set target) before

-- what a set leads on to, each set leads on to that holds its blocks of the memory
is_next-within : (memory : List Block) (roots : List ℕ) (one other : ℕ → Bool) (target : ℕ) → IsWithin one other (length memory) →
    is_next memory roots one target ≡ true → is_next memory roots other target ≡ true
is_next-within memory roots one other target within next =
    by_cases (or_cases (list_any (nat_eq target) roots) (some_block (leads_on one target) 0 memory) next)
  where
    by_cases : (list_any (nat_eq target) roots ≡ true) ⊎ (some_block (leads_on one target) 0 memory ≡ true) → is_next memory roots other target ≡ true
    by_cases (inl root) = or_left (list_any (nat_eq target) roots) (some_block (leads_on other target) 0 memory) root
    by_cases (inr leads) =
        let found = PassesAt-some_block (leads_on one target) 0 memory leads in
        let outer = and_parts found.block.live (holds_pointer_to target found.block.bytes && one (0 + found.place)) found.passes in
        let inner = and_parts (holds_pointer_to target found.block.bytes) (one (0 + found.place)) outer.1 in
        let inside : 0 + found.place < length memory = let h = slice_get_within memory found.place found.block found.stands in omega arith in
        or_right (list_any (nat_eq target) roots) (some_block (leads_on other target) 0 memory)
        (some_block_at (leads_on other target) 0 found.place memory found.block found.stands
        (and_from found.block.live (holds_pointer_to target found.block.bytes && other (0 + found.place)) outer.0
        (and_from (holds_pointer_to target found.block.bytes) (other (0 + found.place)) inner.0 (within.holds (0 + found.place) inside inner.1))))

IsWithin-same : (one other : ℕ → Bool) (bound : ℕ) → IsSame one other bound → IsWithin one other bound
IsWithin-same one other bound same = record { holds = λ number below passes. sym (same.holds number below) ∙ passes }

IsWithin-same_back : (one other : ℕ → Bool) (bound : ℕ) → IsSame one other bound → IsWithin other one bound
IsWithin-same_back one other bound same = record { holds = λ number below passes. same.holds number below ∙ passes }

-- two sets that hold the same blocks of the memory lead on to the same blocks
is_next-same : (memory : List Block) (roots : List ℕ) (one other : ℕ → Bool) (target : ℕ) → IsSame one other (length memory) →
    is_next memory roots one target ≡ is_next memory roots other target
is_next-same memory roots one other target same =
    let there = is_next-within memory roots one other target (IsWithin-same one other (length memory) same) in
    let back = is_next-within memory roots other one target (IsWithin-same_back one other (length memory) same) in
    same_from_decides (is_next memory roots one target) (is_next memory roots other target) (there, back) (λ h. h, λ h. h)

is_near-grows : (links : ℕ) (memory : List Block) (roots : List ℕ) → IsWithin (is_near memory roots links) (is_near memory roots (suc links)) (length memory)
is_near-grows zero memory roots = record { holds = λ number below near. absurd (false≢true near) }
is_near-grows (suc links) memory roots = record {
  holds = λ number below near. is_next-within memory roots (is_near memory roots links) (is_near memory roots (suc links)) number (is_near-grows links memory roots) near;
}

-- whether one more link reaches no further block of the memory
abbrev IsSettled : List Block → List ℕ → ℕ → Type 0
IsSettled memory roots links = IsSame (is_near memory roots links) (is_near memory roots (suc links)) (length memory)

IsSettled-more : (links : ℕ) (memory : List Block) (roots : List ℕ) → IsSettled memory roots links → IsSettled memory roots (suc links)
IsSettled-more links memory roots settled = record {
  holds = λ number below. is_next-same memory roots (is_near memory roots links) (is_near memory roots (suc links)) number settled;
}

-- each link reaches a further block, until one does not
settled_or_grown : (links : ℕ) (memory : List Block) (roots : List ℕ) →
    IsSettled memory roots links ⊎ (links ≤ size_below (is_near memory roots links) (length memory))
settled_or_grown zero memory roots = inr (omega arith)
settled_or_grown (suc links) memory roots =
    by_cases (settled_or_grown links memory roots)
    (same_or_fewer (is_near memory roots links) (is_near memory roots (suc links)) (length memory) (is_near-grows links memory roots))
  where
    by_cases : IsSettled memory roots links ⊎ (links ≤ size_below (is_near memory roots links) (length memory)) →
        IsSettled memory roots links ⊎ (size_below (is_near memory roots links) (length memory) + 1 ≤ size_below (is_near memory roots (suc links)) (length memory)) →
        IsSettled memory roots (suc links) ⊎ (suc links ≤ size_below (is_near memory roots (suc links)) (length memory))
    by_cases (inl settled) step = inl (IsSettled-more links memory roots settled)
    by_cases (inr grown) (inl settled) = inl (IsSettled-more links memory roots settled)
    by_cases (inr grown) (inr fewer) = inr (omega arith)

-- as many links as there are blocks suffice
IsSettled-all : (memory : List Block) (roots : List ℕ) → IsSettled memory roots (length memory)
IsSettled-all memory roots =
    by_cases (settled_or_grown (length memory) memory roots)
    (same_or_fewer (is_near memory roots (length memory)) (is_near memory roots (suc (length memory))) (length memory) (is_near-grows (length memory) memory roots))
  where
    by_cases : IsSettled memory roots (length memory) ⊎ (length memory ≤ size_below (is_near memory roots (length memory)) (length memory)) →
        IsSettled memory roots (length memory)
        ⊎ (size_below (is_near memory roots (length memory)) (length memory) + 1 ≤ size_below (is_near memory roots (suc (length memory))) (length memory)) →
        IsSettled memory roots (length memory)
    by_cases (inl settled) step = settled
    by_cases (inr grown) (inl settled) = settled
    by_cases (inr grown) (inr fewer) =
        let most = size_below-le (is_near memory roots (suc (length memory))) (length memory) in absurd (omega arith)

-- where fewer than so many links lead, a chain leads
Chain-near : (links : ℕ) (memory : List Block) (roots : List ℕ) (target : ℕ) → is_near memory roots links target ≡ true → Chain memory roots target
Chain-near zero memory roots target near = absurd (false≢true near)
Chain-near (suc links) memory roots target near =
    by_cases (or_cases (list_any (nat_eq target) roots) (some_block (leads_on (is_near memory roots links) target) 0 memory) near)
    (λ number before. Chain-near links memory roots number before)
  where
    by_cases : (list_any (nat_eq target) roots ≡ true) ⊎ (some_block (leads_on (is_near memory roots links) target) 0 memory ≡ true) →
        ((number : ℕ) → is_near memory roots links number ≡ true → Chain memory roots number) → Chain memory roots target
    by_cases (inl root) before = Root target (Contains-from_any eqb-true target roots root)
    by_cases (inr leads) before =
        let found = PassesAt-some_block (leads_on (is_near memory roots links) target) 0 memory leads in
        let near_there = is_near memory roots links (0 + found.place) in
        let outer = and_parts found.block.live (holds_pointer_to target found.block.bytes && near_there) found.passes in
        let inner = and_parts (holds_pointer_to target found.block.bytes) near_there outer.1 in
        let same : 0 + found.place ≡ found.place = omega arith in
        Link found.place target found.block (subst (λ (number : ℕ). Chain memory roots number) same (before (0 + found.place) inner.1)) found.stands outer.0 inner.0

-- where a chain leads, one with at most as many links as there are blocks leads
near_from_Chain : (memory : List Block) (roots : List ℕ) (target : ℕ) → Chain memory roots target → is_near memory roots (suc (length memory)) target ≡ true
near_from_Chain memory roots target (Root root contains) =
    or_left (list_any (nat_eq target) roots) (some_block (leads_on (is_near memory roots (length memory)) target) 0 memory)
    (list_any-from_Contains nat_eq_equiv target roots contains)
near_from_Chain memory roots target (Link number end block chain stands live holds) =
    let near = is_near memory roots (suc (length memory)) in
    let before : near (0 + number) ≡ true = subst (λ (place : ℕ). near place ≡ true) (omega arith) (near_from_Chain memory roots number chain) in
    is_next-same memory roots (is_near memory roots (length memory)) near target (IsSettled-all memory roots)
    ∙ or_right (list_any (nat_eq target) roots) (some_block (leads_on near target) 0 memory)
    (some_block_at (leads_on near target) 0 number memory block stands
    (and_from block.live (holds_pointer_to target block.bytes && near (0 + number)) live
    (and_from (holds_pointer_to target block.bytes) (near (0 + number)) holds before)))

-- a block is reached just where a chain leads to it
pub reached_by_chains : (memory : List Block) (roots : List ℕ) (target : ℕ) → IsTrue (is_reached memory roots target) ↔ Chain memory roots target
reached_by_chains memory roots target =
    let links = reached_within-near (length memory) memory roots target in
    (λ reached. Chain-near (suc (length memory)) memory roots target (sym links ∙ reached), λ chain. links ∙ near_from_Chain memory roots target chain)

-- whether a block is lost
abbrev is_lost_there : List Block → List ℕ → ℕ → Block → Bool
is_lost_there memory roots number block = is_heap block.kind && (block.live && not (is_reached memory roots number))

-- some block is lost just where a live heap block has no chain
pub lost_by_chains : (memory : List Block) (roots : List ℕ) → IsTrue (is_lost memory roots) ↔ ((number : ℕ) × (block : Block) × IsLostBlock memory roots number block)
lost_by_chains memory roots = (there, λ lost. back lost.0 lost.1 lost.2)
  where
    there : is_lost memory roots ≡ true → (number : ℕ) × (block : Block) × IsLostBlock memory roots number block
    there lost =
        let found = PassesAt-some_block (is_lost_there memory roots) 0 memory lost in
        let at = 0 + found.place in
        let same : at ≡ found.place = omega arith in
        let outer = and_parts (is_heap found.block.kind) (found.block.live && not (is_reached memory roots at)) found.passes in
        let inner = and_parts found.block.live (not (is_reached memory roots at)) outer.1 in
        let missed : is_reached memory roots found.place ≡ false = subst (λ (number : ℕ). is_reached memory roots number ≡ false) same (not-true (is_reached memory roots at) inner.1) in
        let unreached : Chain memory roots found.place → ⊥ =
        λ chain. false≢true (sym missed ∙ (reached_by_chains memory roots found.place).1 chain) in
        (found.place, found.block, record { stands = found.stands; allocated = outer.0; live = inner.0; unreached = unreached })

    back : (number : ℕ) (block : Block) → IsLostBlock memory roots number block → is_lost memory roots ≡ true
    back number block lost =
        let same : number ≡ 0 + number = omega arith in
        let missed : is_reached memory roots number ≡ false =
        false_from_ne_true (is_reached memory roots number) (λ reached. lost.unreached ((reached_by_chains memory roots number).0 reached)) in
        some_block_at (is_lost_there memory roots) 0 number memory block lost.stands
        (and_from (is_heap block.kind) (block.live && not (is_reached memory roots (0 + number))) lost.allocated
        (and_from block.live (not (is_reached memory roots (0 + number))) lost.live
        (not_from_false (is_reached memory roots (0 + number)) (subst (λ (place : ℕ). is_reached memory roots place ≡ false) same missed))))
