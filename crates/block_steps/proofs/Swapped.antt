-- A state in which a block of numbers has the number behind all others, in place of its own, at which a dead block stands: it is alike, where
-- no other live block names that block.
use Rattle.std.proofs.Common.{◌≡◌, ◌≢◌, ℕ, zero, suc, ◌<◌, ◌≤◌, Bool, true, false, ◌&&◌, not, List, [], ◌∷◌, ◌++◌, map, length, set, nat_eq, nat_lt, Option, None, Some, ◌⊎◌, inl, inr, refl, sym, ◌∙◌, ap, subst, eq-eqb, eqb-true, ltb-true, ltb-false, lt-ltb, arith}
use Rattle.std.specs.Prelude.{slice_get, if◌then◌else◌}
use Rattle.std.specs.List.{All}
use Rattle.std.proofs.lemmas.Bool.{false≢true, cases_eq, ne_eqb}
use Rattle.std.proofs.lemmas.List.{length-set}
use Rattle.std.proofs.lemmas.List.Elements.{All-weaker}
use Rattle.std.proofs.lemmas.Option.{same_Some, none-some, slice_get_within, slice_get_past, get_or_from_slice_get}
use Rattle.bytes_core.specs.declared.byte.Byte.{Byte}
use Rattle.bytes_core.specs.declared.byte.Byte.TheVariants.{Num, Part}
use Rattle.bytes_core.specs.declared.block.Block.{Block}
use Rattle.bytes_core.specs.declared.block.BlockKind.{BlockKind}
use Rattle.bytes_core.specs.Placement.{placed}
use Rattle.bytes_core.specs.Valid.{NamesBelow, IsMemory}
use Rattle.bytes_core.proofs.Written.{slice_get-set_same, slice_get-set_other}
use Rattle.graph.specs.Alike.{renumbered_byte}
use Rattle.graph.specs.AlikeMemories.{NamesAmong, IsDeadOrNone, AreAlike}
use Rattle.graph.specs.DeadBlocks.{dead_block}
use Rattle.graph.proofs.AlikeBlocks.{bytes_agree, bytes_back, numbers_renumbered, AtBoth, BothLive, BothDead, Unpaired, alike_from}
use Rattle.graph.proofs.AlikePlaced.{get_last, get_other}
use Rattle.graph.proofs.Tests.{and_left, and_right}
use Rattle.changes.proofs.Died.{dead}

-- Two numbers exchanged.
abbrev pub swap : ℕ → ℕ → ℕ → ℕ
swap one other number = if nat_eq number one then other else (if nat_eq number other then one else number)

pub swap_one : (one other : ℕ) → swap one other one ≡ other
swap_one one other = ap (λ (b : Bool). if b then other else (if nat_eq one other then one else one)) (eq-eqb one one refl)

pub swap_other : (one other : ℕ) → swap one other other ≡ one
swap_other one other = by_test (nat_eq other one) refl
  where
    by_test : (b : Bool) → nat_eq other one ≡ b → (if b then other else (if nat_eq other other then one else other)) ≡ one
    by_test true is = eqb-true _ _ is
    by_test false is = ap (λ (b : Bool). if b then one else other) (eq-eqb other other refl)

pub swap_else : (one other number : ℕ) → number ≢ one → number ≢ other → swap one other number ≡ number
swap_else one other number differ differ' =
    ap (λ (b : Bool). if b then other else (if nat_eq number other then one else number)) (ne_eqb number one differ) ∙ ap (λ (b : Bool). if b then one else number) (ne_eqb number other differ')

pub swap_twice : (one other number : ℕ) → swap one other (swap one other number) ≡ number
swap_twice one other number = by_place (cases_eq number one) (cases_eq number other)
  where
    by_place : (number ≡ one) ⊎ (number ≡ one → ⊥) → (number ≡ other) ⊎ (number ≡ other → ⊥) → swap one other (swap one other number) ≡ number
    by_place (inl is) second = ap (λ (n : ℕ). swap one other (swap one other n)) is ∙ ap (swap one other) (swap_one one other) ∙ swap_other one other ∙ sym is
    by_place (inr differ) (inl is) = ap (λ (n : ℕ). swap one other (swap one other n)) is ∙ ap (swap one other) (swap_other one other) ∙ swap_one one other ∙ sym is
    by_place (inr differ) (inr differ') = let same = swap_else one other number differ differ' in ap (swap one other) same ∙ same

-- Lists.

pub get_front : {X : Type 0} (items more : List X) (place : ℕ) → place < length items → slice_get (items ++ more) place ≡ slice_get items place
get_front [] more place below = absurd (omega arith)
get_front (first ∷ rest) more zero below = refl
get_front (first ∷ rest) more (suc place) below = get_front rest more place (omega arith)

-- behind the blocks of a memory stand dead ones alone
dead_behind : (memory : List Block) (kinds : List BlockKind) (place : ℕ) → length memory ≤ place → IsDeadOrNone (slice_get (memory ++ map dead_block kinds) place)
dead_behind [] [] place above = tt
dead_behind [] (kind ∷ kinds) zero above = refl
dead_behind [] (kind ∷ kinds) (suc place) above = dead_behind [] kinds place (omega arith)
dead_behind (first ∷ rest) kinds zero above = absurd (omega arith)
dead_behind (first ∷ rest) kinds (suc place) above = dead_behind rest kinds place (omega arith)

lives_not : (found : Option Block) (block : Block) → found ≡ Some block → block.live ≡ true → IsDeadOrNone found → ⊥
lives_not None block is live gone = none-some block is
lives_not (Some other) block is live gone = false≢true (sym gone ∙ ap (λ (b : Block). b.live) (same_Some _ _ is) ∙ live)

module _ (memory : List Block) (valid : IsMemory memory) (kinds : List BlockKind) (number : ℕ) (block : Block) (contents : List ℕ) where
  abbrev pub full : List Block
  full = memory ++ map dead_block kinds

  abbrev pub end : ℕ
  end = length full

  abbrev pub moved : List Block
  moved = placed (set full number (dead block)) block

  -- the numbers that stay
  abbrev pub stays : ℕ → Bool
  stays other = nat_lt other (length memory) && not (nat_eq other number)

  module _ (there : slice_get full number ≡ Some block) (live : block.live ≡ true) (bytes : map Num contents ≡ block.bytes)
      (apart : (other : ℕ) (its : Block) → slice_get memory other ≡ Some its → its.live ≡ true → other ≢ number → All (NamesAmong stays) its.bytes) where
    pub low : number < length memory
    low = by_test (nat_lt number (length memory)) refl
      where
        by_test : (b : Bool) → nat_lt number (length memory) ≡ b → number < length memory
        by_test true is = ltb-true _ _ is
        by_test false is = absurd (lives_not (slice_get full number) block there live (dead_behind memory kinds number (ltb-false _ _ is)))

    pub upto : length memory ≤ end
    upto = by_list memory kinds
      where
        by_list : (memory : List Block) (kinds : List BlockKind) → length memory ≤ length (memory ++ map dead_block kinds)
        by_list [] kinds = omega arith
        by_list (first ∷ rest) kinds = let later = by_list rest kinds in omega arith

    pub swap_stays : (other : ℕ) → stays other ≡ true → swap number end other ≡ other
    swap_stays other is =
        let below = ltb-true _ _ (and_left (nat_lt other (length memory)) (not (nat_eq other number)) is) in
        let most = upto in
        swap_else number end other (λ same. not_same (nat_eq other number) (eq-eqb _ _ same) (and_right (nat_lt other (length memory)) (not (nat_eq other number)) is)) (λ same. absurd (omega arith))
      where
        not_same : (b : Bool) → b ≡ true → not b ≡ true → ⊥
        not_same true is other_way = false≢true other_way
        not_same false is other_way = false≢true is

    pub long : length (set full number (dead block)) ≡ end
    long = length-set full number (dead block)

    here : slice_get memory number ≡ Some block
    here = sym (get_front memory (map dead_block kinds) number low) ∙ there

    last_is : slice_get moved end ≡ Some block
    last_is = ap (slice_get moved) (sym long) ∙ get_last (set full number (dead block)) block

    gone_is : slice_get moved number ≡ Some (dead block)
    gone_is =
        get_other (set full number (dead block)) block number (λ same. absurd (let e = long in let l = low in let u = upto in omega arith))
        ∙ slice_get-set_same full number block (dead block) there

    else_is : (other : ℕ) → other ≢ number → other ≢ end → slice_get moved other ≡ slice_get full other
    else_is other differ differ' =
        get_other (set full number (dead block)) block other (λ same. differ' (same ∙ long)) ∙ slice_get-set_other full number other (dead block) differ

    abbrev paired : ℕ → Bool
    paired other = nat_lt other (length memory)

    above : (other : ℕ) → length memory ≤ other → paired other ≡ false
    above other over = by_test (paired other) refl
      where
        by_test : (b : Bool) → paired other ≡ b → paired other ≡ false
        by_test true is = let l = ltb-true other (length memory) is in absurd (omega arith)
        by_test false is = is

    bytes_same : (its : List Byte) → All (NamesAmong stays) its → its ≡ map (renumbered_byte (swap number end)) its
    bytes_same its all = sym (bytes_agree stays (λ other. other) (swap number end) swap_stays its all ∙ bytes_back (λ other. other) (λ other. refl) its)

    both : (other : ℕ) (found : Option Block) → other ≢ number → other < length memory → slice_get memory other ≡ found → slice_get moved other ≡ found → (live : Option Bool) →
        AtBoth (swap number end) (paired other) (slice_get memory other) (slice_get moved other)
    both other None differ below was is life = absurd (no_item (slice_get memory other) was (there_is memory other below))
      where
        there_is : (xs : List Block) (place : ℕ) → place < length xs → (x : Block) × (slice_get xs place ≡ Some x)
        there_is [] place below = absurd (omega arith)
        there_is (first ∷ rest) zero below = (first, refl)
        there_is (first ∷ rest) (suc place) below = there_is rest place (omega arith)

        no_item : (found : Option Block) → found ≡ None → ((x : Block) × (found ≡ Some x)) → ⊥
        no_item found none some = none-some some.0 (sym none ∙ some.1)
    both other (Some its) differ below was is life = by_life its.live refl
      where
        by_life : (b : Bool) → its.live ≡ b → AtBoth (swap number end) (paired other) (slice_get memory other) (slice_get moved other)
        by_life true lives = BothLive (lt-ltb _ _ below) its its was is (record { live = lives; base = refl; looks = record { live = lives; kind = refl; bytes = bytes_same its.bytes (apart other its was lives differ) } })
        by_life false dead = BothDead (lt-ltb _ _ below) its its was is (record { dead = dead; dead' = dead; kind = refl })

    at_each : (other : ℕ) → AtBoth (swap number end) (paired other) (slice_get memory other) (slice_get moved (swap number end other))
    at_each other = by_place (cases_eq other number) (cases_eq other end)
      where
        at_number : AtBoth (swap number end) (paired number) (slice_get memory number) (slice_get moved (swap number end number))
        at_number = BothLive (lt-ltb _ _ low) block block here (ap (slice_get moved) (swap_one number end) ∙ last_is)
            (record { live = live; base = refl; looks = record { live = live; kind = refl; bytes = sym bytes ∙ sym (numbers_renumbered (swap number end) contents) ∙ ap (map (renumbered_byte (swap number end))) bytes } })

        at_end : AtBoth (swap number end) (paired end) (slice_get memory end) (slice_get moved (swap number end end))
        at_end = Unpaired (above end upto) (subst IsDeadOrNone (sym (slice_get_past memory end upto)) tt)
            (subst IsDeadOrNone (sym (ap (slice_get moved) (swap_other number end) ∙ gone_is)) refl)

        by_low : (b : Bool) → paired other ≡ b → other ≢ number → other ≢ end → AtBoth (swap number end) (paired other) (slice_get memory other) (slice_get moved other)
        by_low true is differ differ' =
            let below = ltb-true _ _ is in
            both other (slice_get memory other) differ below refl (else_is other differ differ' ∙ get_front memory (map dead_block kinds) other below) None
        by_low false is differ differ' =
            let over = ltb-false _ _ is in
            Unpaired is (subst IsDeadOrNone (sym (slice_get_past memory other over)) tt) (subst IsDeadOrNone (sym (else_is other differ differ')) (dead_behind memory kinds other over))

        by_place : (other ≡ number) ⊎ (other ≡ number → ⊥) → (other ≡ end) ⊎ (other ≡ end → ⊥) → AtBoth (swap number end) (paired other) (slice_get memory other) (slice_get moved (swap number end other))
        by_place (inl same) second = subst (λ (n : ℕ). AtBoth (swap number end) (paired n) (slice_get memory n) (slice_get moved (swap number end n))) (sym same) at_number
        by_place (inr differ) (inl same) = subst (λ (n : ℕ). AtBoth (swap number end) (paired n) (slice_get memory n) (slice_get moved (swap number end n))) (sym same) at_end
        by_place (inr differ) (inr differ') =
            subst (λ (n : ℕ). AtBoth (swap number end) (paired other) (slice_get memory other) (slice_get moved n)) (sym (swap_else number end other differ differ')) (by_low (paired other) refl differ differ')

    below_among : (byte : Byte) → NamesBelow (length memory) byte → NamesAmong paired byte
    below_among (Num n) below = tt
    below_among (Part target offset k) below = lt-ltb target (length memory) below.0

    pub alike_moved : AreAlike (swap number end) (swap number end) paired memory moved
    alike_moved =
        alike_from (swap number end) (swap number end) paired memory moved (swap_twice number end) (swap_twice number end) at_each
        (λ other its stands lives. All-weaker (NamesBelow (length memory)) (NamesAmong paired) below_among its.bytes
        (subst (λ (b : Block). All (NamesBelow (length memory)) b.bytes) (get_or_from_slice_get memory other its its stands) (valid.named other its (slice_get_within memory other its stands))))
