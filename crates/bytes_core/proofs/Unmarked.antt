-- The live blocks whose places are marked are just those to which chains lead.
use Rattle.std.proofs.Common.{◌≡◌, ℕ, zero, suc, ◌+◌, Bool, true, false, ◌&&◌, not, List, [], ◌∷◌, length, Option, None, Some, ◌⊎◌, inl, inr, refl, sym, ap, ◌∙◌, subst, arith}
use Rattle.std.specs.Prelude.{Contains, slice_get, if◌then◌else◌, IsTrue}
use Rattle.std.specs.Option.{option_to_list, option_map}
use Rattle.std.proofs.lemmas.Bool.{and_parts, and_from, or_cases, or_left, or_right, false≢true, not-true, not_from_false, false_from_ne_true}
use Rattle.std.proofs.lemmas.Bool.Decides.{same_from_decides}
use Rattle.std.proofs.lemmas.List.{get_or_default}
use Rattle.std.proofs.lemmas.List.Elements.{Contains-append_left, Contains-append_right, Contains-append_cases, Contains-push}
use Rattle.std.proofs.lemmas.Option.{none-some, same_Some, slice_get_within, slice_get-map}
use Rattle.bytes_core.specs.declared.block.Block.{Block}
use Rattle.bytes_core.specs.Release.{is_heap}
use Rattle.bytes_core.specs.Living.{lives, AreLive, place_of, places_of}
use Rattle.bytes_core.specs.Loss.{is_reached, is_lost, Chain, Root, Link, IsLostBlock}
use Rattle.bytes_core.specs.Marking.{targets, block_targets, number_targets, place_targets, marking, is_marked, is_open, AreMarks, Way, Begin, Onward, is_heap_block, some_unmarked}
use Rattle.bytes_core.proofs.Chains.{reached_by_chains, lost_by_chains}
use Rattle.bytes_core.proofs.Living.{number_at, place_at}
use Rattle.bytes_core.proofs.Marked.{Contains-nil, Contains-one, targets_held, held_targets}

Contains-option : (found : Option ℕ) (place : ℕ) → Contains (option_to_list found) place → found ≡ Some place
Contains-option None place there = absurd (Contains-nil place there)
Contains-option (Some one) place there = ap Some (Contains-one one place there)

-- a place among those of blocks is the place of one of them
number_of_place : (numbers places items : List ℕ) (place : ℕ) → Contains (places_of numbers places items) place →
    (number : ℕ) × Contains items number × (place_of numbers places number ≡ Some place)
number_of_place numbers places [] place there = absurd (Contains-nil place there)
number_of_place numbers places (first ∷ rest) place there =
    by_cases (Contains-append_cases (option_to_list (place_of numbers places first)) (places_of numbers places rest) place there) (λ more. number_of_place numbers places rest place more)
  where
    by_cases : Contains (option_to_list (place_of numbers places first)) place ⊎ Contains (places_of numbers places rest) place →
        (Contains (places_of numbers places rest) place → (number : ℕ) × Contains rest number × (place_of numbers places number ≡ Some place)) →
        (number : ℕ) × Contains (first ∷ rest) number × (place_of numbers places number ≡ Some place)
    by_cases (inl here) more =
        (first, Contains-append_left (first ∷ []) rest first (Contains-push [] first), Contains-option (place_of numbers places first) place here)
    by_cases (inr later) more =
        let (number, held, own) = more later in (number, Contains-append_right (first ∷ []) rest number held, own)

place_of_number : (numbers places items : List ℕ) (number place : ℕ) → Contains items number → place_of numbers places number ≡ Some place → Contains (places_of numbers places items) place
place_of_number numbers places [] number place there own = absurd (Contains-nil number there)
place_of_number numbers places (first ∷ rest) number place there own =
    by_cases (Contains-append_cases (first ∷ []) rest number there) (λ more. place_of_number numbers places rest number place more own)
  where
    by_cases : Contains (first ∷ []) number ⊎ Contains rest number → (Contains rest number → Contains (places_of numbers places rest) place) →
        Contains (places_of numbers places (first ∷ rest)) place
    by_cases (inl here) more =
        let is : place_of numbers places first ≡ Some place = ap (place_of numbers places) (Contains-one first number here) ∙ own in
        Contains-append_left (option_to_list (place_of numbers places first)) (places_of numbers places rest) place
        (subst (λ (found : Option ℕ). Contains (option_to_list found) place) (sym is) (Contains-push [] place))
    by_cases (inr later) more = Contains-append_right (option_to_list (place_of numbers places first)) (places_of numbers places rest) place (more later)

-- a chain leads on to each target of a block to which one leads
chain_on : (memory : List Block) (roots : List ℕ) (number target : ℕ) (found : Option Block) → slice_get memory number ≡ found → Contains (block_targets found) target →
    Chain memory roots number → Chain memory roots target
chain_on memory roots number target None stands there chain = absurd (Contains-nil target there)
chain_on memory roots number target (Some block) stands there chain = at block.live refl there
  where
    at : (live : Bool) → block.live ≡ live → Contains (if live then targets block.bytes else []) target → Chain memory roots target
    at true live held = Link number target block chain stands live (targets_held target block.bytes held)
    at false live held = absurd (Contains-nil target held)

-- a chain leads to each block to whose place a way leads
chain_from_Way : (memory : List Block) (roots numbers places : List ℕ) (place : ℕ) → Way (places_of numbers places roots) (place_targets memory numbers places) place →
    (number : ℕ) → slice_get numbers place ≡ Some number → Chain memory roots number
chain_from_Way memory roots numbers places place (Begin here there) number stands =
    let (root, held, own) = number_of_place numbers places roots place there in
    let same : root ≡ number = same_Some root number (sym (number_at numbers root place (slice_get places root) own) ∙ stands) in
    Root number (subst (λ (n : ℕ). Contains roots n) same held)
chain_from_Way memory roots numbers places place (Onward from here way there) number stands =
    onward (slice_get numbers from) refl there (λ before is. chain_from_Way memory roots numbers places from way before is)
  where
    onward : (found : Option ℕ) → slice_get numbers from ≡ found → Contains (places_of numbers places (number_targets memory found)) place →
        ((before : ℕ) → slice_get numbers from ≡ Some before → Chain memory roots before) → Chain memory roots number
    onward None is leads chains = absurd (Contains-nil place leads)
    onward (Some before) is leads chains =
        let (target, held, own) = number_of_place numbers places (block_targets (slice_get memory before)) place leads in
        let same : target ≡ number = same_Some target number (sym (number_at numbers target place (slice_get places target) own) ∙ stands) in
        subst (λ (n : ℕ). Chain memory roots n) same (chain_on memory roots before target (slice_get memory before) refl held (chains before is))

-- whether a block lives, from the block
lived : (memory : List Block) (number : ℕ) (block : Block) → slice_get memory number ≡ Some block → IsTrue block.live → slice_get (lives memory) number ≡ Some true
lived memory number block stands live =
    slice_get-map (λ (b : Block). b.live) memory number ∙ ap (option_map (λ (b : Block). b.live)) stands ∙ ap Some live

-- where no place waits, that of each live block to which a chain leads is marked
marked_from_Chain : (memory : List Block) (roots numbers places : List ℕ) (marks : List Bool) → AreLive (lives memory) numbers places →
    AreMarks (length numbers) (places_of numbers places roots) (place_targets memory numbers places) (marking marks []) →
    (number : ℕ) → Chain memory roots number → (place : ℕ) → slice_get numbers place ≡ Some number → is_marked marks place ≡ true
marked_from_Chain memory roots numbers places marks live are number (Root root there) place stands =
    are.begun place (place_of_number numbers places roots number place there (place_at numbers places number place (live.alone place number stands).1 stands))
    (slice_get_within numbers place number stands)
marked_from_Chain memory roots numbers places marks live are number (Link before end block chain is alive holds) place stands =
    let (from, mine, there) = live.listed before (lived memory before block is alive) in
    let marked = marked_from_Chain memory roots numbers places marks live are before chain from there in
    let own = place_at numbers places number place (live.alone place number stands).1 stands in
    let leads : Contains (places_of numbers places (targets block.bytes)) place =
    place_of_number numbers places (targets block.bytes) number place (held_targets number block.bytes holds) own in
    at (are.followed from place marked (rw (there, is, alive) leads) (slice_get_within numbers place number stands))
  where
    at : {from : ℕ} → (is_marked marks place ≡ true) ⊎ Contains [] from → is_marked marks place ≡ true
    at (inl marked) = marked
    at {from} (inr waits) = absurd (Contains-nil from waits)

open_is_unreached : (memory : List Block) (roots numbers places : List ℕ) (marks : List Bool) → AreLive (lives memory) numbers places →
    AreMarks (length numbers) (places_of numbers places roots) (place_targets memory numbers places) (marking marks []) →
    (place number : ℕ) → slice_get numbers place ≡ Some number → is_open marks place ≡ not (is_reached memory roots number)
open_is_unreached memory roots numbers places marks live are place number stands =
    ap not (get_or_default marks place true false (rw are.size (slice_get_within numbers place number stands))
    ∙ same_from_decides (is_marked marks place) (is_reached memory roots number) (
      (λ is. (reached_by_chains memory roots number).1 (chain_from_Way memory roots numbers places place (are.reached place is) number stands)),
      (λ is. marked_from_Chain memory roots numbers places marks live are number ((reached_by_chains memory roots number).0 is) place stands),
    ) (λ h. h, λ h. h))

-- the place of a block that is not marked
unmarked_at : (memory : List Block) (marks : List Bool) (start : ℕ) (numbers : List ℕ) → some_unmarked memory marks start numbers ≡ true →
    (place number : ℕ) × (slice_get numbers place ≡ Some number) × (is_heap_block (slice_get memory number) ≡ true) × (is_open marks (start + place) ≡ true)
unmarked_at memory marks start [] some = absurd (false≢true some)
unmarked_at memory marks start (first ∷ rest) some =
    by_cases (or_cases (is_heap_block (slice_get memory first) && is_open marks start) (some_unmarked memory marks (start + 1) rest) some) (λ h. unmarked_at memory marks (start + 1) rest h)
  where
    by_cases : ((is_heap_block (slice_get memory first) && is_open marks start) ≡ true) ⊎ (some_unmarked memory marks (start + 1) rest ≡ true) →
        (some_unmarked memory marks (start + 1) rest ≡ true →
        (place number : ℕ) × (slice_get rest place ≡ Some number) × (is_heap_block (slice_get memory number) ≡ true) × (is_open marks (start + 1 + place) ≡ true)) →
        (place number : ℕ) × (slice_get (first ∷ rest) place ≡ Some number) × (is_heap_block (slice_get memory number) ≡ true) × (is_open marks (start + place) ≡ true)
    by_cases (inl here) more =
        let tests = and_parts (is_heap_block (slice_get memory first)) (is_open marks start) here in
        let same : start ≡ start + 0 = omega arith in
        (0, first, refl, tests.0, subst (λ (n : ℕ). is_open marks n ≡ true) same tests.1)
    by_cases (inr later) more =
        let (place, number, stands, heap, unmarked) = more later in
        let same : start + 1 + place ≡ start + suc place = omega arith in
        (suc place, number, stands, heap, subst (λ (n : ℕ). is_open marks n ≡ true) same unmarked)

at_unmarked : (memory : List Block) (marks : List Bool) (start : ℕ) (numbers : List ℕ) (place number : ℕ) → slice_get numbers place ≡ Some number →
    is_heap_block (slice_get memory number) ≡ true → is_open marks (start + place) ≡ true → some_unmarked memory marks start numbers ≡ true
at_unmarked memory marks start [] place number stands heap unmarked = absurd (none-some number stands)
at_unmarked memory marks start (first ∷ rest) zero number stands heap unmarked =
    let same : first ≡ number = same_Some first number stands in
    let here : start + 0 ≡ start = omega arith in
    or_left (is_heap_block (slice_get memory first) && is_open marks start) (some_unmarked memory marks (start + 1) rest)
    (and_from (is_heap_block (slice_get memory first)) (is_open marks start) (rw same heap) (subst (λ (n : ℕ). is_open marks n ≡ true) here unmarked))
at_unmarked memory marks start (first ∷ rest) (suc place) number stands heap unmarked =
    let same : start + suc place ≡ start + 1 + place = omega arith in
    or_right (is_heap_block (slice_get memory first) && is_open marks start) (some_unmarked memory marks (start + 1) rest)
    (at_unmarked memory marks (start + 1) rest place number stands heap (subst (λ (n : ℕ). is_open marks n ≡ true) same unmarked))

-- a live block of the heap, from what is known of its number
block_from_lives : (memory : List Block) (number : ℕ) → slice_get (lives memory) number ≡ Some true → is_heap_block (slice_get memory number) ≡ true →
    (block : Block) × (slice_get memory number ≡ Some block) × IsTrue (is_heap block.kind) × IsTrue block.live
block_from_lives memory number alive heap = at (slice_get memory number) refl (sym (slice_get-map (λ (b : Block). b.live) memory number) ∙ alive) heap
  where
    at : (found : Option Block) → slice_get memory number ≡ found → option_map (λ (b : Block). b.live) found ≡ Some true → is_heap_block found ≡ true →
        (block : Block) × (slice_get memory number ≡ Some block) × IsTrue (is_heap block.kind) × IsTrue block.live
    at None is live kind = absurd (false≢true kind)
    at (Some block) is live kind = (block, is, kind, same_Some block.live true live)

-- where no place waits, some live heap block is not marked just where one is lost
pub marks_end : (memory : List Block) (roots numbers places : List ℕ) (marks : List Bool) → AreLive (lives memory) numbers places →
    AreMarks (length numbers) (places_of numbers places roots) (place_targets memory numbers places) (marking marks []) →
    some_unmarked memory marks 0 numbers ≡ is_lost memory roots
marks_end memory roots numbers places marks live are =
    same_from_decides (some_unmarked memory marks 0 numbers) (is_lost memory roots) (there, back) (λ h. h, λ h. h)
  where
    there : some_unmarked memory marks 0 numbers ≡ true → is_lost memory roots ≡ true
    there some =
        let (place, number, stands, heap, unmarked) = unmarked_at memory marks 0 numbers some in
        let (block, is, allocated, alive) = block_from_lives memory number (live.alone place number stands).0 heap in
        let same : 0 + place ≡ place = omega arith in
        let missed : is_reached memory roots number ≡ false =
        not-true (is_reached memory roots number) (sym (open_is_unreached memory roots numbers places marks live are place number stands)
        ∙ subst (λ (n : ℕ). is_open marks n ≡ true) same unmarked) in
        let unreached : Chain memory roots number → ⊥ = λ chain. false≢true (sym missed ∙ (reached_by_chains memory roots number).1 chain) in
        (lost_by_chains memory roots).1 (number, block, record { stands = is; allocated = allocated; live = alive; unreached = unreached })

    back_at : (number : ℕ) (block : Block) → IsLostBlock memory roots number block → some_unmarked memory marks 0 numbers ≡ true
    back_at number block lost =
        let (place, own, stands) = live.listed number (lived memory number block lost.stands lost.live) in
        let missed : is_reached memory roots number ≡ false =
        false_from_ne_true (is_reached memory roots number) (λ reached. lost.unreached ((reached_by_chains memory roots number).0 reached)) in
        let same : place ≡ 0 + place = omega arith in
        let unmarked : is_open marks place ≡ true =
        open_is_unreached memory roots numbers places marks live are place number stands ∙ not_from_false (is_reached memory roots number) missed in
        at_unmarked memory marks 0 numbers place number stands (ap is_heap_block lost.stands ∙ lost.allocated) (subst (λ (n : ℕ). is_open marks n ≡ true) same unmarked)

    back : is_lost memory roots ≡ true → some_unmarked memory marks 0 numbers ≡ true
    back lost = let found = (lost_by_chains memory roots).0 lost in back_at found.0 found.1 found.2
