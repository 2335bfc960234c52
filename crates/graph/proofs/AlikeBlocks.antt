-- Alike memories: what a number names in both, and the numbers exchanged.
use Rattle.std.proofs.Common.{◌≡◌, ℕ, ◌+◌, List, [], ◌∷◌, map, length, take, Bool, true, false, refl, sym, ap, subst, ◌∙◌, ◌⊎◌, inl, inr, Option, None, Some}
use Rattle.std.specs.Prelude.{ℤ, ◌&&◌, ◌||◌, nat_eq, slice_get, All}
use Rattle.std.specs.Ordering.{int_eq}
use Rattle.std.proofs.lemmas.Bool.{cases_Bool, cases_eq, eq-eqb, ne_eqb, false≢true, both_ways}
use Rattle.std.proofs.lemmas.Option.{same_Some, none-some}
use Rattle.std.proofs.lemmas.List.{length-map, take-map}
use Rattle.std.proofs.lemmas.List.Elements.{All-nil, All-cons, All-head, All-tail, All-map, All-weaker}
use Rattle.bytes_core.specs.declared.byte.Byte.{Byte}
use Rattle.bytes_core.specs.declared.byte.Byte.TheVariants.{Num, Part}
use Rattle.bytes_core.specs.declared.word.Word.{Word}
use Rattle.bytes_core.specs.declared.word.Word.TheVariants.{Plain, To}
use Rattle.bytes_core.specs.declared.block.Block.{Block}
use Rattle.bytes_core.specs.Value.{are_parts}
use Rattle.bytes_core.specs.Loss.{holds_pointer_to}
use Rattle.graph.specs.Alike.{renumbered_word, renumbered_byte}
use Rattle.graph.specs.AlikeMemories.{NamesAmong, WordNamesAmong, IsDeadOrNone, AreLiveAlike, AreDeadAlike, ArePaired, AreAlike}

-- Bytes.

-- where two ways to number agree on what is named, the bytes are the same
pub bytes_agree : (set : ℕ → Bool) (there there' : ℕ → ℕ) → ((number : ℕ) → set number ≡ true → there' number ≡ there number) →
    (bytes : List Byte) → All (NamesAmong set) bytes → map (renumbered_byte there') bytes ≡ map (renumbered_byte there) bytes
bytes_agree set there there' agree [] all = refl
bytes_agree set there there' agree (Num number ∷ rest) all =
    ap (λ (more : List Byte). Num number ∷ more) (bytes_agree set there there' agree rest (All-tail (NamesAmong set) (Num number) rest all))
bytes_agree set there there' agree (Part block offset k ∷ rest) all =
    ap (λ (number : ℕ). Part number offset k ∷ map (renumbered_byte there') rest) (agree block (All-head (NamesAmong set) (Part block offset k) rest all))
    ∙ ap (λ (more : List Byte). Part (there block) offset k ∷ more) (bytes_agree set there there' agree rest (All-tail (NamesAmong set) (Part block offset k) rest all))

pub word_agrees : (set : ℕ → Bool) (there there' : ℕ → ℕ) → ((number : ℕ) → set number ≡ true → there' number ≡ there number) →
    (word : Word) → WordNamesAmong set word → renumbered_word there' word ≡ renumbered_word there word
word_agrees set there there' agree (Plain number) names = refl
word_agrees set there there' agree (To block offset) names = ap (λ (number : ℕ). To number offset) (agree block names)

pub numbers_renumbered : (there : ℕ → ℕ) (numbers : List ℕ) → map (renumbered_byte there) (map Num numbers) ≡ map Num numbers
numbers_renumbered there [] = refl
numbers_renumbered there (first ∷ rest) = ap (λ (more : List Byte). Num first ∷ more) (numbers_renumbered there rest)

pub numbers_name_nothing : (set : ℕ → Bool) (numbers : List ℕ) → All (NamesAmong set) (map Num numbers)
numbers_name_nothing set [] = All-nil (NamesAmong set)
numbers_name_nothing set (first ∷ rest) = All-cons (NamesAmong set) (Num first) (map Num rest) tt (numbers_name_nothing set rest)

pub bytes_twice : (one other : ℕ → ℕ) (bytes : List Byte) →
    map (renumbered_byte other) (map (renumbered_byte one) bytes) ≡ map (renumbered_byte (λ number. other (one number))) bytes
bytes_twice one other [] = refl
bytes_twice one other (Num number ∷ rest) = ap (λ (more : List Byte). Num number ∷ more) (bytes_twice one other rest)
bytes_twice one other (Part block offset k ∷ rest) = ap (λ (more : List Byte). Part (other (one block)) offset k ∷ more) (bytes_twice one other rest)

-- numbers that undo one another leave the bytes
pub bytes_back : (there : ℕ → ℕ) → ((number : ℕ) → there number ≡ number) → (bytes : List Byte) → map (renumbered_byte there) bytes ≡ bytes
bytes_back there same [] = refl
bytes_back there same (Num number ∷ rest) = ap (λ (more : List Byte). Num number ∷ more) (bytes_back there same rest)
bytes_back there same (Part block offset k ∷ rest) =
    ap (λ (number : ℕ). Part number offset k ∷ map (renumbered_byte there) rest) (same block)
    ∙ ap (λ (more : List Byte). Part block offset k ∷ more) (bytes_back there same rest)

pub word_back' : (there : ℕ → ℕ) → ((number : ℕ) → there number ≡ number) → (word : Word) → renumbered_word there word ≡ word
word_back' there same (Plain number) = refl
word_back' there same (To block offset) = ap (λ (number : ℕ). To number offset) (same block)

-- what is named, under other numbers
pub names_there : (there : ℕ → ℕ) (set set' : ℕ → Bool) → ((number : ℕ) → set number ≡ true → set' (there number) ≡ true) →
    (bytes : List Byte) → All (NamesAmong set) bytes → All (NamesAmong set') (map (renumbered_byte there) bytes)
names_there there set set' moves bytes all =
    All-map (NamesAmong set') (renumbered_byte there) bytes
    (All-weaker (NamesAmong set) (λ (byte : Byte). NamesAmong set' (renumbered_byte there byte)) each bytes all)
  where
    each : (byte : Byte) → NamesAmong set byte → NamesAmong set' (renumbered_byte there byte)
    each (Num number) names = tt
    each (Part block offset k) names = moves block names

-- Numbers that are told apart.

pub nat_eq-there : (there back : ℕ → ℕ) → ((number : ℕ) → back (there number) ≡ number) → (one other : ℕ) → nat_eq (there one) (there other) ≡ nat_eq one other
nat_eq-there there back same one other = by_place (cases_eq one other)
  where
    by_place : (one ≡ other) ⊎ (one ≡ other → ⊥) → nat_eq (there one) (there other) ≡ nat_eq one other
    by_place (inl is) = eq-eqb (there one) (there other) (ap there is) ∙ sym (eq-eqb one other is)
    by_place (inr differs) = ne_eqb (there one) (there other) (λ is. differs (sym (same one) ∙ (ap back is ∙ same other))) ∙ sym (ne_eqb one other differs)

pub are_parts-there : (there back : ℕ → ℕ) → ((number : ℕ) → back (there number) ≡ number) → (block : ℕ) (offset : ℤ) (k : ℕ) (bytes : List Byte) →
    are_parts (there block) offset k (map (renumbered_byte there) bytes) ≡ are_parts block offset k bytes
are_parts-there there back same block offset k [] = refl
are_parts-there there back same block offset k (Num number ∷ rest) = refl
are_parts-there there back same block offset k (Part block' offset' k' ∷ rest) =
    ap (λ (is : Bool). is && (int_eq offset' offset && (nat_eq k' k && are_parts (there block) offset (k + 1) (map (renumbered_byte there) rest))))
    (nat_eq-there there back same block' block)
    ∙ ap (λ (parts : Bool). nat_eq block' block && (int_eq offset' offset && (nat_eq k' k && parts))) (are_parts-there there back same block offset (k + 1) rest)

pub holds-there : (there back : ℕ → ℕ) → ((number : ℕ) → back (there number) ≡ number) → (target : ℕ) (bytes : List Byte) →
    holds_pointer_to (there target) (map (renumbered_byte there) bytes) ≡ holds_pointer_to target bytes
holds-there there back same target [] = refl
holds-there there back same target (Num number ∷ rest) = holds-there there back same target rest
holds-there there back same target (Part block offset k ∷ rest) =
    ap (λ (is : Bool). (is && are_parts (there block) offset 0 (take 8 (map (renumbered_byte there) (Part block offset k ∷ rest)))) || holds_pointer_to (there target) (map (renumbered_byte there) rest))
    (nat_eq-there there back same block target)
    ∙ (ap (λ (parts : Bool). (nat_eq block target && parts) || holds_pointer_to (there target) (map (renumbered_byte there) rest))
    (ap (are_parts (there block) offset 0) (take-map (renumbered_byte there) 8 (Part block offset k ∷ rest))
    ∙ are_parts-there there back same block offset 0 (take 8 (Part block offset k ∷ rest)))
    ∙ ap (λ (later : Bool). (nat_eq block target && are_parts block offset 0 (take 8 (Part block offset k ∷ rest))) || later) (holds-there there back same target rest))

-- Blocks.

pub dead_lives : (found : Option Block) (block : Block) → found ≡ Some block → IsDeadOrNone found → block.live ≡ true → ⊥
dead_lives None block is gone live = none-some block is
dead_lives (Some dead) block is gone live = false≢true (sym gone ∙ ap (λ (found : Block). found.live) (same_Some dead block is) ∙ live)

pub gone_from : (found : Option Block) (block : Block) → found ≡ Some block → block.live ≡ false → IsDeadOrNone found
gone_from found block is dead = subst IsDeadOrNone (sym is) dead

-- what a number names in both memories
pub data AtBoth (there : ℕ → ℕ) (paired : Bool) (one other : Option Block) : Type 0 where
  BothLive : paired ≡ true → (block block' : Block) → one ≡ Some block → other ≡ Some block' → AreLiveAlike there block block' → AtBoth there paired one other
  BothDead : paired ≡ true → (block block' : Block) → one ≡ Some block → other ≡ Some block' → AreDeadAlike block block' → AtBoth there paired one other
  Unpaired : paired ≡ false → IsDeadOrNone one → IsDeadOrNone other → AtBoth there paired one other

pub size_alike : (there : ℕ → ℕ) (one other : Block) → AreLiveAlike there one other → length other.bytes ≡ length one.bytes
size_alike there one other alike = let looks = alike.looks in ap length looks.bytes ∙ length-map one.bytes (renumbered_byte there)

-- what a number names in both, seen from the other side
pub at_both_back : (there back : ℕ → ℕ) → ((number : ℕ) → back (there number) ≡ number) → (paired : Bool) (one other : Option Block) → AtBoth there paired one other → AtBoth back paired other one
at_both_back there back same paired one other (BothLive inside block block' is is' alike) = let looks = alike.looks in
    BothLive inside block' block is' is (record {
      live = looks.live;
      base = sym alike.base;
      looks = record {
        live = alike.live;
        kind = sym looks.kind;
        bytes = sym (ap (map (renumbered_byte back)) looks.bytes ∙ bytes_twice there back block.bytes ∙ bytes_back (λ number. back (there number)) same block.bytes);
      };
    })
at_both_back there back same paired one other (BothDead inside block block' is is' alike) =
    BothDead inside block' block is' is (record { dead = alike.dead'; dead' = alike.dead; kind = sym alike.kind })
at_both_back there back same paired one other (Unpaired outside gone gone') = Unpaired outside gone' gone

module _ (there back : ℕ → ℕ) (paired : ℕ → Bool) (memory other : List Block) where
  pub at_both : AreAlike there back paired memory other → (number : ℕ) → AtBoth there (paired number) (slice_get memory number) (slice_get other (there number))
  at_both are number = by_test (cases_Bool (paired number))
    where
      by_life : paired number ≡ true → (pair : ArePaired there (slice_get memory number) (slice_get other (there number))) → AreLiveAlike there pair.block pair.block' ⊎ AreDeadAlike pair.block pair.block' →
          AtBoth there (paired number) (slice_get memory number) (slice_get other (there number))
      by_life inside pair (inl alike) = BothLive inside pair.block pair.block' pair.stands pair.stands' alike
      by_life inside pair (inr alike) = BothDead inside pair.block pair.block' pair.stands pair.stands' alike

      by_test : (paired number ≡ true) ⊎ (paired number ≡ false) → AtBoth there (paired number) (slice_get memory number) (slice_get other (there number))
      by_test (inl is) = let pair = are.pairs number is in by_life is pair pair.alike
      by_test (inr not) = let gone = are.others number not in Unpaired not gone.0 gone.1

  -- what holds at each number makes memories alike
  pub alike_from : ((number : ℕ) → back (there number) ≡ number) → ((number : ℕ) → there (back number) ≡ number) →
      ((number : ℕ) → AtBoth there (paired number) (slice_get memory number) (slice_get other (there number))) →
      ((number : ℕ) (block : Block) → slice_get memory number ≡ Some block → block.live ≡ true → All (NamesAmong paired) block.bytes) →
      AreAlike there back paired memory other
  alike_from same again each held = record {
    same = same;
    again = again;
    pairs = λ number is. pair number is (each number);
    others = λ number not. missing number (each number) not;
    held = held;
  }
    where
      pair : (number : ℕ) → paired number ≡ true → AtBoth there (paired number) (slice_get memory number) (slice_get other (there number)) →
          ArePaired there (slice_get memory number) (slice_get other (there number))
      pair number is (BothLive inside block block' stands stands' alike) = record { block = block; block' = block'; stands = stands; stands' = stands'; alike = inl alike }
      pair number is (BothDead inside block block' stands stands' alike) = record { block = block; block' = block'; stands = stands; stands' = stands'; alike = inr alike }
      pair number is (Unpaired not gone gone') = absurd (both_ways (paired number) not is)

      missing : (number : ℕ) → AtBoth there (paired number) (slice_get memory number) (slice_get other (there number)) → paired number ≡ false →
          IsDeadOrNone (slice_get memory number) × IsDeadOrNone (slice_get other (there number))
      missing number (BothLive inside block block' stands stands' alike) not = absurd (both_ways (paired number) not inside)
      missing number (BothDead inside block block' stands stands' alike) not = absurd (both_ways (paired number) not inside)
      missing number (Unpaired outside gone gone') not = (gone, gone')
