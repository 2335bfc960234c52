-- Being alike: the same memory, the other way round, one behind the other, and with fewer pairs.
use Rattle.std.proofs.Common.{◌≡◌, ℕ, zero, suc, ◌<◌, List, [], ◌∷◌, map, length, Bool, true, false, refl, sym, ap, subst, ◌∙◌, ◌⊎◌, inl, inr, Option, None, Some, arith}
use Rattle.std.specs.Prelude.{◌&&◌, slice_get, Contains, All}
use Rattle.std.proofs.lemmas.Bool.{cases_Bool, and_from, and_left, and_right, both_ways}
use Rattle.std.proofs.lemmas.Option.{same_Some, none-some}
use Rattle.std.proofs.lemmas.List.Elements.{All-nil, All-cons, All-head, All-tail, All-same}
use Rattle.bytes_core.specs.declared.byte.Byte.{Byte}
use Rattle.bytes_core.specs.declared.byte.Byte.TheVariants.{Num, Part}
use Rattle.bytes_core.specs.declared.block.Block.{Block}
use Rattle.graph.specs.Alike.{renumbered_byte}
use Rattle.graph.specs.AlikeMemories.{NamesAmong, IsDeadOrNone, AreAlike}
use Rattle.graph.proofs.AlikeBlocks.{bytes_twice, bytes_back, names_there, dead_lives, gone_from, AtBoth, BothLive, BothDead, Unpaired, at_both_back, at_both, alike_from}

pub contains_map : {X Y : Type 0} (f : X → Y) (items : List X) (item : X) → Contains items item → Contains (map f items) (f item)
contains_map f [] item (k, below, is) = absurd (omega arith)
contains_map f (first ∷ rest) item (zero, below, is) = (zero, omega arith, ap f is)
contains_map f (first ∷ rest) item (suc k, below, is) = let more = contains_map f rest item (k, omega arith, is) in (suc more.0, let less = more.1 in omega arith, more.2)

stands_below : {X : Type 0} (items : List X) (place : ℕ) → place < length items → slice_get items place ≡ None → ⊥
stands_below [] place below none = absurd (omega arith)
stands_below (first ∷ rest) zero below none = none-some first (sym none)
stands_below (first ∷ rest) (suc place) below none = stands_below rest place (omega arith) none

-- The same memory.

same_at : (paired : ℕ → Bool) (memory : List Block) → ((number : ℕ) → paired number ≡ true → number < length memory) →
    ((number : ℕ) (block : Block) → slice_get memory number ≡ Some block → block.live ≡ true → paired number ≡ true) →
    (number : ℕ) → AtBoth (λ place. place) (paired number) (slice_get memory number) (slice_get memory number)
same_at paired memory below lives number = by_case (slice_get memory number) refl (cases_Bool (paired number))
  where
    by_life : (block : Block) → slice_get memory number ≡ Some block → paired number ≡ true → (block.live ≡ true) ⊎ (block.live ≡ false) →
        AtBoth (λ place. place) (paired number) (slice_get memory number) (slice_get memory number)
    by_life block stands inside (inl live) = BothLive inside block block stands stands (record {
      live = live;
      base = refl;
      looks = record { live = live; kind = refl; bytes = sym (bytes_back (λ place. place) (λ place. refl) block.bytes) };
    })
    by_life block stands inside (inr dead) = BothDead inside block block stands stands (record { dead = dead; dead' = dead; kind = refl })

    unpaired : (block : Block) → slice_get memory number ≡ Some block → paired number ≡ false → (block.live ≡ true) ⊎ (block.live ≡ false) → IsDeadOrNone (slice_get memory number)
    unpaired block stands outside (inl live) = absurd (both_ways (paired number) outside (lives number block stands live))
    unpaired block stands outside (inr dead) = gone_from (slice_get memory number) block stands dead

    by_case : (found : Option Block) → slice_get memory number ≡ found → (paired number ≡ true) ⊎ (paired number ≡ false) →
        AtBoth (λ place. place) (paired number) (slice_get memory number) (slice_get memory number)
    by_case None none (inl inside) = absurd (stands_below memory number (below number inside) none)
    by_case None none (inr outside) = Unpaired outside (subst IsDeadOrNone (sym none) tt) (subst IsDeadOrNone (sym none) tt)
    by_case (Some block) stands (inl inside) = by_life block stands inside (cases_Bool block.live)
    by_case (Some block) stands (inr outside) = let gone = unpaired block stands outside (cases_Bool block.live) in Unpaired outside gone gone

pub alike_itself : (paired : ℕ → Bool) (memory : List Block) → ((number : ℕ) → paired number ≡ true → number < length memory) →
    ((number : ℕ) (block : Block) → slice_get memory number ≡ Some block → block.live ≡ true → paired number ≡ true) →
    ((number : ℕ) (block : Block) → slice_get memory number ≡ Some block → block.live ≡ true → All (NamesAmong paired) block.bytes) →
    AreAlike (λ number. number) (λ number. number) paired memory memory
alike_itself paired memory below lives held =
    alike_from (λ number. number) (λ number. number) paired memory memory (λ number. refl) (λ number. refl) (same_at paired memory below lives) held

-- The other way round.

pub turned : (there back : ℕ → ℕ) (paired : ℕ → Bool) (one other : List Block) → AreAlike there back paired one other →
    AreAlike back there (λ number. paired (back number)) other one
turned there back paired one other are = alike_from back there (λ number. paired (back number)) other one are.again are.same each held
  where
    here : (number : ℕ) → AtBoth there (paired (back number)) (slice_get one (back number)) (slice_get other number)
    here number = subst (λ (place : ℕ). AtBoth there (paired (back number)) (slice_get one (back number)) (slice_get other place)) (are.again number)
        (at_both there back paired one other are (back number))

    each : (number : ℕ) → AtBoth back (paired (back number)) (slice_get other number) (slice_get one (back number))
    each number = at_both_back there back are.same (paired (back number)) (slice_get one (back number)) (slice_get other number) (here number)

    held_at : (number : ℕ) (block : Block) → slice_get other number ≡ Some block → block.live ≡ true →
        AtBoth there (paired (back number)) (slice_get one (back number)) (slice_get other number) → All (NamesAmong (λ place. paired (back place))) block.bytes
    held_at number block stands live (BothLive inside before found is is' alike) = let looks = alike.looks in
        All-same (NamesAmong (λ place. paired (back place))) block.bytes (map (renumbered_byte there) before.bytes)
        (ap (λ (here : Block). here.bytes) (same_Some block found (sym stands ∙ is')) ∙ looks.bytes)
        (names_there there paired (λ place. paired (back place)) (λ place inside. ap paired (are.same place) ∙ inside) before.bytes (are.held (back number) before is alike.live))
    held_at number block stands live (BothDead inside before found is is' alike) =
        absurd (dead_lives (slice_get other number) block stands (gone_from (slice_get other number) found is' alike.dead') live)
    held_at number block stands live (Unpaired outside gone gone') = absurd (dead_lives (slice_get other number) block stands gone' live)

    held : (number : ℕ) (block : Block) → slice_get other number ≡ Some block → block.live ≡ true → All (NamesAmong (λ place. paired (back place))) block.bytes
    held number block stands live = held_at number block stands live (here number)

-- One behind the other.

gone_on : (there : ℕ → ℕ) (paired : Bool) (one other : Option Block) → AtBoth there paired one other → IsDeadOrNone one → IsDeadOrNone other
gone_on there paired one other (BothLive inside block block' is is' alike) gone = absurd (dead_lives one block is gone alike.live)
gone_on there paired one other (BothDead inside block block' is is' alike) gone = gone_from other block' is' alike.dead'
gone_on there paired one other (Unpaired outside gone gone') before = gone'

gone_before : (there : ℕ → ℕ) (paired : Bool) (one other : Option Block) → AtBoth there paired one other → IsDeadOrNone other → IsDeadOrNone one
gone_before there paired one other (BothLive inside block block' is is' alike) gone = let looks = alike.looks in absurd (dead_lives other block' is' gone looks.live)
gone_before there paired one other (BothDead inside block block' is is' alike) gone = gone_from one block is alike.dead
gone_before there paired one other (Unpaired outside gone gone') after = gone

both_behind : (there there' : ℕ → ℕ) (paired paired' : Bool) (one other third : Option Block) → AtBoth there paired one other → AtBoth there' paired' other third →
    AtBoth (λ number. there' (there number)) (paired && paired') one third
both_behind there there' paired paired' one other third (Unpaired outside gone gone') next =
    Unpaired (and_left paired paired' outside) gone (gone_on there' paired' other third next gone')
both_behind there there' paired paired' one other third first (Unpaired outside gone gone') =
    Unpaired (and_right paired paired' outside) (gone_before there paired one other first gone) gone'
both_behind there there' paired paired' one other third (BothLive inside block middle is is' alike) (BothLive inside' middle' block' at at' alike') =
    let same : middle' ≡ middle = same_Some middle' middle (sym at ∙ is') in
    let looks = alike.looks in
    let looks' = alike'.looks in
    BothLive (and_from paired paired' inside inside') block block' is at' (record {
      live = alike.live;
      base = alike'.base ∙ ap (λ (here : Block). here.base) same ∙ alike.base;
      looks = record {
        live = looks'.live;
        kind = looks'.kind ∙ ap (λ (here : Block). here.kind) same ∙ looks.kind;
        bytes = looks'.bytes ∙ ap (λ (here : Block). map (renumbered_byte there') here.bytes) same ∙ ap (map (renumbered_byte there')) looks.bytes ∙ bytes_twice there there' block.bytes;
      };
    })
both_behind there there' paired paired' one other third (BothLive inside block middle is is' alike) (BothDead inside' middle' block' at at' alike') =
    let looks = alike.looks in absurd (dead_lives other middle is' (gone_from other middle' at alike'.dead) looks.live)
both_behind there there' paired paired' one other third (BothDead inside block middle is is' alike) (BothLive inside' middle' block' at at' alike') =
    absurd (dead_lives other middle' at (gone_from other middle is' alike.dead') alike'.live)
both_behind there there' paired paired' one other third (BothDead inside block middle is is' alike) (BothDead inside' middle' block' at at' alike') =
    BothDead (and_from paired paired' inside inside') block block' is at' (record {
      dead = alike.dead;
      dead' = alike'.dead';
      kind = alike'.kind ∙ ap (λ (here : Block). here.kind) (same_Some middle' middle (sym at ∙ is')) ∙ alike.kind;
    })

-- what holds of items and of what they become
pub all_both : {X Y : Type 0} (P : X → Type 0) (Q : Y → Type 0) (R : X → Type 0) (f : X → Y) → ((item : X) → P item → Q (f item) → R item) → (items : List X) →
    All P items → All Q (map f items) → All R items
all_both P Q R f both [] all all' = All-nil R
all_both P Q R f both (item ∷ rest) all all' =
    All-cons R item rest (both item (All-head P item rest all) (All-head Q (f item) (map f rest) all'))
    (all_both P Q R f both rest (All-tail P item rest all) (All-tail Q (f item) (map f rest) all'))

names_both : (there : ℕ → ℕ) (paired paired' : ℕ → Bool) (bytes : List Byte) → All (NamesAmong paired) bytes → All (NamesAmong paired') (map (renumbered_byte there) bytes) →
    All (NamesAmong (λ number. paired number && paired' (there number))) bytes
names_both there paired paired' bytes all all' =
    all_both (NamesAmong paired) (NamesAmong paired') (NamesAmong (λ number. paired number && paired' (there number))) (renumbered_byte there) both bytes all all'
  where
    both : (byte : Byte) → NamesAmong paired byte → NamesAmong paired' (renumbered_byte there byte) → NamesAmong (λ number. paired number && paired' (there number)) byte
    both (Num number) names names' = tt
    both (Part block offset k) names names' = and_from (paired block) (paired' (there block)) names names'

pub alike_behind : (there back there' back' : ℕ → ℕ) (paired paired' : ℕ → Bool) (one other third : List Block) →
    AreAlike there back paired one other → AreAlike there' back' paired' other third →
    AreAlike (λ number. there' (there number)) (λ number. back (back' number)) (λ number. paired number && paired' (there number)) one third
alike_behind there back there' back' paired paired' one other third are are' =
    alike_from (λ number. there' (there number)) (λ number. back (back' number)) (λ number. paired number && paired' (there number)) one third
    (λ number. ap back (are'.same (there number)) ∙ are.same number)
    (λ number. ap there' (are.again (back' number)) ∙ are'.again number)
    (λ number. both_behind there there' (paired number) (paired' (there number)) (slice_get one number) (slice_get other (there number)) (slice_get third (there' (there number)))
    (at_both there back paired one other are number) (at_both there' back' paired' other third are' (there number)))
    (λ number block stands live. held number block stands live (at_both there back paired one other are number))
  where
    held : (number : ℕ) (block : Block) → slice_get one number ≡ Some block → block.live ≡ true → AtBoth there (paired number) (slice_get one number) (slice_get other (there number)) →
        All (NamesAmong (λ number. paired number && paired' (there number))) block.bytes
    held number block stands live (BothLive inside before found is is' alike) =
        let looks = alike.looks in
        let same : before ≡ block = same_Some before block (sym is ∙ stands) in
        names_both there paired paired' block.bytes (are.held number block stands live)
        (All-same (NamesAmong paired') (map (renumbered_byte there) block.bytes) found.bytes
        (sym (looks.bytes ∙ ap (λ (here : Block). map (renumbered_byte there) here.bytes) same))
        (are'.held (there number) found is' looks.live))
    held number block stands live (BothDead inside before found is is' alike) =
        absurd (dead_lives (slice_get one number) block stands (gone_from (slice_get one number) before is alike.dead) live)
    held number block stands live (Unpaired outside gone gone') = absurd (dead_lives (slice_get one number) block stands gone live)

-- Fewer pairs.

pub alike_fewer : (there back : ℕ → ℕ) (paired fewer : ℕ → Bool) (one other : List Block) → AreAlike there back paired one other →
    ((number : ℕ) → fewer number ≡ true → paired number ≡ true) →
    ((number : ℕ) (block : Block) → slice_get one number ≡ Some block → block.live ≡ true → fewer number ≡ true) →
    ((number : ℕ) (block : Block) → slice_get one number ≡ Some block → block.live ≡ true → All (NamesAmong fewer) block.bytes) →
    AreAlike there back fewer one other
alike_fewer there back paired fewer one other are within lives held =
    alike_from there back fewer one other are.same are.again (λ number. each number (cases_Bool (fewer number)) (at_both there back paired one other are number)) held
  where
    each : (number : ℕ) → (fewer number ≡ true) ⊎ (fewer number ≡ false) → AtBoth there (paired number) (slice_get one number) (slice_get other (there number)) →
        AtBoth there (fewer number) (slice_get one number) (slice_get other (there number))
    each number (inl inside) (BothLive before block block' is is' alike) = BothLive inside block block' is is' alike
    each number (inl inside) (BothDead before block block' is is' alike) = BothDead inside block block' is is' alike
    each number (inl inside) (Unpaired outside gone gone') = absurd (both_ways (paired number) outside (within number inside))
    each number (inr not) (BothLive before block block' is is' alike) = absurd (both_ways (fewer number) not (lives number block is alike.live))
    each number (inr not) (BothDead before block block' is is' alike) =
        Unpaired not (gone_from (slice_get one number) block is alike.dead) (gone_from (slice_get other (there number)) block' is' alike.dead')
    each number (inr not) (Unpaired outside gone gone') = Unpaired not gone gone'
