-- Alike memories have room for the same new blocks, and lose the same blocks.
use Rattle.std.proofs.Common.{◌≡◌, ℕ, zero, suc, ◌+◌, List, [], ◌∷◌, map, length, Bool, true, false, refl, sym, ap, subst, ◌∙◌, Option, None, Some}
use Rattle.std.specs.Prelude.{◌&&◌, ◌||◌, not, nat_eq, nat_lt, nat_le, max, slice_get, IsTrue}
use Rattle.std.specs.List.{list_all}
use Rattle.std.proofs.lemmas.Bool.{and_parts, and_from, or_left, or_right, not_from_false}
use Rattle.std.proofs.lemmas.Option.{same_Some, none-some}
use Rattle.bytes_core.specs.declared.block.BlockKind.{BlockKind}
use Rattle.bytes_core.specs.declared.block.Block.{Block}
use Rattle.bytes_core.specs.Placement.{extent, new_block, is_new_block, are_compatible, are_apart, is_placed}
use Rattle.bytes_core.specs.Release.{is_heap}
use Rattle.bytes_core.specs.Loss.{Chain, Root, Link, IsLostBlock, is_lost, holds_pointer_to}
use Rattle.bytes_core.proofs.Chains.{lost_by_chains}
use Rattle.graph.specs.AlikeMemories.{AreLiveAlike, IsDeadOrNone, AreAlike}
use Rattle.graph.proofs.AlikeBlocks.{holds-there, AtBoth, BothLive, BothDead, Unpaired, size_alike, at_both}
use Rattle.graph.proofs.AlikeReads.{live_there}
use Rattle.graph.proofs.AlikeTurned.{turned, contains_map}

-- a test that passes at each item
all_from : {X : Type 0} (test : X → Bool) (items : List X) → ((place : ℕ) (item : X) → slice_get items place ≡ Some item → test item ≡ true) → list_all test items ≡ true
all_from test [] each = refl
all_from test (first ∷ rest) each = and_from (test first) (list_all test rest) (each 0 first refl) (all_from test rest (λ place item is. each (suc place) item is))

all_at : {X : Type 0} (test : X → Bool) (items : List X) → list_all test items ≡ true → (place : ℕ) (item : X) → slice_get items place ≡ Some item → test item ≡ true
all_at test [] all place item is = absurd (none-some item is)
all_at {X} test (first ∷ rest) all zero item is =
    subst (λ (item : X). test item ≡ true) (same_Some first item is) (and_parts (test first) (list_all test rest) all).0
all_at test (first ∷ rest) all (suc place) item is = all_at test rest (and_parts (test first) (list_all test rest) all).1 place item is

-- whether a block with this life, base and size may stand beside another
abbrev fits_beside : Block → Bool → ℕ → ℕ → Bool
fits_beside one live base size = not one.live || (not live || (nat_le (one.base + extent one) base || nat_le (base + max 16 size) one.base))

dead_fits : (one block : Block) → block.live ≡ false → are_compatible one block ≡ true
dead_fits one block dead = or_right (not one.live) (not block.live || are_apart one block) (or_left (not block.live) (are_apart one block) (not_from_false block.live dead))

live_fits : (there : ℕ → ℕ) (one block block' : Block) → AreLiveAlike there block block' → are_compatible one block' ≡ are_compatible one block
live_fits there one block block' alike = let looks = alike.looks in
    ap (λ (live : Bool). fits_beside one live block'.base (length block'.bytes)) (looks.live ∙ sym alike.live)
    ∙ (ap (λ (base : ℕ). fits_beside one block.live base (length block'.bytes)) alike.base
    ∙ ap (λ (size : ℕ). fits_beside one block.live block.base size) (size_alike there block block' alike))

module _ (there back : ℕ → ℕ) (paired : ℕ → Bool) (memory other : List Block) (are : AreAlike there back paired memory other) where
  room_there : (one : Block) → list_all (are_compatible one) memory ≡ true → list_all (are_compatible one) other ≡ true
  room_there one all = all_from (are_compatible one) other (λ place block stands.
      by_case place block (ap (slice_get other) (are.again place) ∙ stands) (at_both there back paired memory other are (back place)))
    where
      fits_gone : (found : Option Block) (block : Block) → found ≡ Some block → IsDeadOrNone found → are_compatible one block ≡ true
      fits_gone None block is gone = absurd (none-some block is)
      fits_gone (Some dead) block is gone = dead_fits one block (sym (ap (λ (here : Block). here.live) (same_Some dead block is)) ∙ gone)

      by_case : (place : ℕ) (block : Block) → slice_get other (there (back place)) ≡ Some block →
          AtBoth there (paired (back place)) (slice_get memory (back place)) (slice_get other (there (back place))) → are_compatible one block ≡ true
      by_case place block stands (BothLive inside found found' is is' alike) =
          ap (are_compatible one) (same_Some block found' (sym stands ∙ is')) ∙ live_fits there one found found' alike ∙ all_at (are_compatible one) memory all (back place) found is
      by_case place block stands (BothDead inside found found' is is' alike) =
          ap (are_compatible one) (same_Some block found' (sym stands ∙ is')) ∙ dead_fits one found' alike.dead'
      by_case place block stands (Unpaired outside gone gone') = fits_gone (slice_get other (there (back place))) block stands gone'

  -- chains
  chain_there : (roots : List ℕ) (target : ℕ) → Chain memory roots target → Chain other (map there roots) (there target)
  chain_there roots target (Root one contains) = Root (there one) (contains_map there roots one contains)
  chain_there roots target (Link number one block chain stands live holds) =
      let found = live_there there back paired memory other are number block stands live in
      let alike = found.2 in
      let looks = alike.looks in
      Link (there number) (there one) found.0 (chain_there roots number chain) found.1 looks.live
      (ap (holds_pointer_to (there one)) looks.bytes ∙ (holds-there there back are.same one block.bytes ∙ holds))

-- loss
lost_there : (there back : ℕ → ℕ) (paired : ℕ → Bool) (memory other : List Block) → AreAlike there back paired memory other → (roots roots' : List ℕ) → map back roots' ≡ roots →
    is_lost memory roots ≡ true → is_lost other roots' ≡ true
lost_there there back paired memory other are roots roots' turns lost =
    let found = (lost_by_chains memory roots).0 lost in
    let number : ℕ = found.0 in
    let block : Block = found.1 in
    let is_lost_block = found.2 in
    let image = live_there there back paired memory other are number block is_lost_block.stands is_lost_block.live in
    let alike = image.2 in
    let looks = alike.looks in
    let stays : IsLostBlock other roots' (there number) image.0 = record {
      stands = image.1;
      allocated = subst (λ (kind : BlockKind). IsTrue (is_heap kind)) (sym looks.kind) is_lost_block.allocated;
      live = looks.live;
      unreached = λ chain. is_lost_block.unreached (subst (λ (target : ℕ). Chain memory roots target) (are.same number)
          (subst (λ (roots : List ℕ). Chain memory roots (back (there number))) turns
          (chain_there back there (λ place. paired (back place)) other memory (turned there back paired memory other are) roots' (there number) chain)));
    } in
    (lost_by_chains other roots').1 (there number, image.0, stays)

map_twice : (one other : ℕ → ℕ) → ((number : ℕ) → other (one number) ≡ number) → (numbers : List ℕ) → map other (map one numbers) ≡ numbers
map_twice one other there [] = refl
map_twice one other there (first ∷ rest) =
    ap (λ (number : ℕ). number ∷ map other (map one rest)) (there first) ∙ ap (λ (more : List ℕ). first ∷ more) (map_twice one other there rest)

both_tests : (one other : Bool) → (one ≡ true → other ≡ true) → (other ≡ true → one ≡ true) → one ≡ other
both_tests true other there back = sym (there refl)
both_tests false true there back = back refl
both_tests false false there back = refl

pub loss-alike : (there back : ℕ → ℕ) (paired : ℕ → Bool) (memory other : List Block) → AreAlike there back paired memory other → (roots : List ℕ) →
    is_lost other (map there roots) ≡ is_lost memory roots
loss-alike there back paired memory other are roots = both_tests (is_lost other (map there roots)) (is_lost memory roots)
    (lost_there back there (λ place. paired (back place)) other memory (turned there back paired memory other are) (map there roots) roots refl)
    (lost_there there back paired memory other are roots (map there roots) (map_twice there back are.same roots))

pub room-alike : (there back : ℕ → ℕ) (paired : ℕ → Bool) (memory other : List Block) → AreAlike there back paired memory other → (kind : BlockKind) (size base : ℕ) (contents : List ℕ) →
    is_new_block other kind size base contents ≡ is_new_block memory kind size base contents
room-alike there back paired memory other are kind size base contents =
    let new : Block = new_block kind base contents in
    ap (λ (fits : Bool). nat_eq (length contents) size && (list_all (λ byte. nat_lt byte 256) contents && (is_placed new && fits)))
    (both_tests (list_all (are_compatible new) other) (list_all (are_compatible new) memory)
    (room_there back there (λ place. paired (back place)) other memory (turned there back paired memory other are) new)
    (room_there there back paired memory other are new))
