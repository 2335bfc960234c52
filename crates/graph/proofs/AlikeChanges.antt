-- Alike memories stay alike where both are changed in the same way.
use Rattle.std.proofs.Common.{◌≡◌, ◌≢◌, ℕ, zero, suc, ◌+◌, List, [], ◌∷◌, ◌++◌, map, length, take, drop, replicate, Bool, true, false, refl, sym, ap, subst, ◌∙◌, ◌⊎◌, inl, inr, Option, None, Some}
use Rattle.std.specs.Prelude.{pos, negsuc, slice_get, All}
use Rattle.std.specs.Int.{w64, to_le_bytes}
use Rattle.std.specs.Option.{option_map}
use Rattle.std.proofs.lemmas.Bool.{cases_eq, false≢true}
use Rattle.std.proofs.lemmas.Option.{same_Some, none-some}
use Rattle.std.proofs.lemmas.List.{length-map, map-append, take-map, drop-map}
use Rattle.std.proofs.lemmas.List.Elements.{All-nil, All-cons, All-append, All-take, All-drop, All-same}
use Rattle.bytes_core.specs.declared.byte.Byte.{Byte}
use Rattle.bytes_core.specs.declared.byte.Byte.TheVariants.{Num, Part}
use Rattle.bytes_core.specs.declared.word.Word.{Word}
use Rattle.bytes_core.specs.declared.word.Word.TheVariants.{Plain, To}
use Rattle.bytes_core.specs.declared.block.Block.{Block}
use Rattle.bytes_core.specs.Value.{word_bytes}
use Rattle.bytes_core.specs.Access.{range_fault, bytes_at, overwritten, with_bytes, written_at, stored, filled}
use Rattle.bytes_core.specs.Copying.{copied}
use Rattle.bytes_core.specs.Release.{freed, without}
use Rattle.bytes_core.proofs.Written.{slice_get-set_same, slice_get-set_other}
use Rattle.graph.specs.Alike.{renumbered_word, renumbered_byte}
use Rattle.graph.specs.AlikeMemories.{NamesAmong, WordNamesAmong, IsDeadOrNone, AreAlike}
use Rattle.graph.proofs.Alike.{word_bytes-renumbered}
use Rattle.graph.proofs.AlikeBlocks.{numbers_name_nothing, AtBoth, BothLive, BothDead, Unpaired, at_both, alike_from}
use Rattle.graph.proofs.AlikeReads.{bytes_at-alike, names_at}

-- One block is changed.

-- a block that dies
abbrev dead : Block → Block
dead block = record block { live = false }

-- a block with other bytes
abbrev over : ℕ → List Byte → Block → Block
over from written block = record block { bytes = overwritten block.bytes from written }

without_same : (memory : List Block) (number : ℕ) (found : Option Block) → slice_get memory number ≡ found → slice_get (without memory number found) number ≡ option_map dead found
without_same memory number None stands = stands
without_same memory number (Some block) stands = slice_get-set_same memory number block (dead block) stands

without_other : (memory : List Block) (number : ℕ) (found : Option Block) (place : ℕ) → place ≢ number → slice_get (without memory number found) place ≡ slice_get memory place
without_other memory number None place differ = refl
without_other memory number (Some block) place differ = slice_get-set_other memory number place (dead block) differ

with_same : (memory : List Block) (number : ℕ) (found : Option Block) (from : ℕ) (written : List Byte) → slice_get memory number ≡ found →
    slice_get (with_bytes memory number found from written) number ≡ option_map (over from written) found
with_same memory number None from written stands = stands
with_same memory number (Some block) from written stands = slice_get-set_same memory number block (over from written block) stands

with_other : (memory : List Block) (number : ℕ) (found : Option Block) (from : ℕ) (written : List Byte) (place : ℕ) → place ≢ number →
    slice_get (with_bytes memory number found from written) place ≡ slice_get memory place
with_other memory number None from written place differ = refl
with_other memory number (Some block) from written place differ = slice_get-set_other memory number place (over from written block) differ

overwritten-renumbered : (there : ℕ → ℕ) (bytes : List Byte) (from : ℕ) (written : List Byte) →
    overwritten (map (renumbered_byte there) bytes) from (map (renumbered_byte there) written) ≡ map (renumbered_byte there) (overwritten bytes from written)
overwritten-renumbered there bytes from written =
    let renumber : Byte → Byte = renumbered_byte there in
    sym (map-append renumber (take from bytes) (written ++ drop (from + length written) bytes)
    ∙ (ap (λ (more : List Byte). map renumber (take from bytes) ++ more) (map-append renumber written (drop (from + length written) bytes))
    ∙ (ap (λ (front : List Byte). front ++ (map renumber written ++ map renumber (drop (from + length written) bytes))) (sym (take-map renumber from bytes))
    ∙ (ap (λ (back : List Byte). take from (map renumber bytes) ++ (map renumber written ++ back)) (sym (drop-map renumber (from + length written) bytes))
    ∙ ap (λ (count : ℕ). take from (map renumber bytes) ++ (map renumber written ++ drop (from + count) (map renumber bytes))) (sym (length-map written renumber))))))

gone_dead : (found : Option Block) → IsDeadOrNone found → IsDeadOrNone (option_map dead found)
gone_dead None gone = tt
gone_dead (Some block) gone = refl

gone_over : (from : ℕ) (written : List Byte) (found : Option Block) → IsDeadOrNone found → IsDeadOrNone (option_map (over from written) found)
gone_over from written None gone = tt
gone_over from written (Some block) gone = gone

dead_at : (there : ℕ → ℕ) (paired : Bool) (one other : Option Block) → AtBoth there paired one other → AtBoth there paired (option_map dead one) (option_map dead other)
dead_at there paired one other (BothLive inside block block' is is' alike) = let looks = alike.looks in
    BothDead inside (dead block) (dead block') (ap (option_map dead) is) (ap (option_map dead) is') (record { dead = refl; dead' = refl; kind = looks.kind })
dead_at there paired one other (BothDead inside block block' is is' alike) =
    BothDead inside (dead block) (dead block') (ap (option_map dead) is) (ap (option_map dead) is') (record { dead = refl; dead' = refl; kind = alike.kind })
dead_at there paired one other (Unpaired outside gone gone') = Unpaired outside (gone_dead one gone) (gone_dead other gone')

over_at : (there : ℕ → ℕ) (from : ℕ) (written : List Byte) (paired : Bool) (one other : Option Block) → AtBoth there paired one other →
    AtBoth there paired (option_map (over from written) one) (option_map (over from (map (renumbered_byte there) written)) other)
over_at there from written paired one other (BothLive inside block block' is is' alike) = let looks = alike.looks in
    let written' : List Byte = map (renumbered_byte there) written in
    BothLive inside (over from written block) (over from written' block') (ap (option_map (over from written)) is) (ap (option_map (over from written')) is') (record {
      live = alike.live;
      base = alike.base;
      looks = record {
        live = looks.live;
        kind = looks.kind;
        bytes = ap (λ (bytes : List Byte). overwritten bytes from written') looks.bytes ∙ overwritten-renumbered there block.bytes from written;
      };
    })
over_at there from written paired one other (BothDead inside block block' is is' alike) =
    let written' : List Byte = map (renumbered_byte there) written in
    BothDead inside (over from written block) (over from written' block') (ap (option_map (over from written)) is) (ap (option_map (over from written')) is') (record {
      dead = alike.dead;
      dead' = alike.dead';
      kind = alike.kind;
    })
over_at there from written paired one other (Unpaired outside gone gone') =
    Unpaired outside (gone_over from written one gone) (gone_over from (map (renumbered_byte there) written) other gone')

module _ (there back : ℕ → ℕ) (paired : ℕ → Bool) (memory other : List Block) (are : AreAlike there back paired memory other) where
  -- what changes at one number alone, and is alike there, leaves memories alike
  changed_at : (number : ℕ) (memory' other' : List Block) →
      ((place : ℕ) → place ≢ number → slice_get memory' place ≡ slice_get memory place) →
      ((place : ℕ) → place ≢ there number → slice_get other' place ≡ slice_get other place) →
      AtBoth there (paired number) (slice_get memory' number) (slice_get other' (there number)) →
      ((block : Block) → slice_get memory' number ≡ Some block → block.live ≡ true → All (NamesAmong paired) block.bytes) →
      AreAlike there back paired memory' other'
  changed_at number memory' other' keeps keeps' here holds = alike_from there back paired memory' other' are.same are.again (λ place. each place (cases_eq place number))
      (λ place block. held place block (cases_eq place number))
    where
      each : (place : ℕ) → (place ≡ number) ⊎ (place ≡ number → ⊥) → AtBoth there (paired place) (slice_get memory' place) (slice_get other' (there place))
      each place (inl same) = subst (λ (place : ℕ). AtBoth there (paired place) (slice_get memory' place) (slice_get other' (there place))) (sym same) here
      each place (inr differ) =
          let differ' : there place ≡ there number → ⊥ = λ same. differ (sym (are.same place) ∙ ap back same ∙ are.same number) in
          subst (λ (found : Option Block). AtBoth there (paired place) found (slice_get other' (there place))) (sym (keeps place differ))
          (subst (λ (found : Option Block). AtBoth there (paired place) (slice_get memory place) found) (sym (keeps' (there place) differ'))
          (at_both there back paired memory other are place))

      held : (place : ℕ) (block : Block) → (place ≡ number) ⊎ (place ≡ number → ⊥) → slice_get memory' place ≡ Some block → block.live ≡ true → All (NamesAmong paired) block.bytes
      held place block (inl same) stands live = holds block (ap (slice_get memory') (sym same) ∙ stands) live
      held place block (inr differ) stands live = are.held place block (sym (keeps place differ) ∙ stands) live

  pub without-alike : (number : ℕ) → AreAlike there back paired (without memory number (slice_get memory number)) (without other (there number) (slice_get other (there number)))
  without-alike number =
      let found : Option Block = slice_get memory number in
      let found' : Option Block = slice_get other (there number) in
      changed_at number (without memory number found) (without other (there number) found')
      (without_other memory number found) (without_other other (there number) found')
      (subst (λ (here : Option Block). AtBoth there (paired number) here (slice_get (without other (there number) found') (there number))) (sym (without_same memory number found refl))
      (subst (λ (here : Option Block). AtBoth there (paired number) (option_map dead found) here) (sym (without_same other (there number) found' refl))
      (dead_at there (paired number) found found' (at_both there back paired memory other are number))))
      (λ block stands live. absurd (none_lives (slice_get memory number) block (sym (without_same memory number (slice_get memory number) refl) ∙ stands) live))
    where
      none_lives : (found : Option Block) (block : Block) → option_map dead found ≡ Some block → block.live ≡ true → ⊥
      none_lives None block is live = none-some block is
      none_lives (Some before) block is live = false≢true (ap (λ (here : Block). here.live) (same_Some (dead before) block is) ∙ live)

  pub freed-alike : (at : Word) → AreAlike there back paired (freed memory at) (freed other (renumbered_word there at))
  freed-alike (Plain number) = are
  freed-alike (To block offset) = without-alike block

  written-alike : (at : Word) (written : List Byte) → All (NamesAmong paired) written →
      AreAlike there back paired (written_at memory at written) (written_at other (renumbered_word there at) (map (renumbered_byte there) written))
  written-alike (Plain number) written names = are
  written-alike (To number (negsuc before)) written names = are
  written-alike (To number (pos from)) written names =
      let found : Option Block = slice_get memory number in
      let found' : Option Block = slice_get other (there number) in
      let written' : List Byte = map (renumbered_byte there) written in
      changed_at number (with_bytes memory number found from written) (with_bytes other (there number) found' from written')
      (with_other memory number found from written) (with_other other (there number) found' from written')
      (subst (λ (here : Option Block). AtBoth there (paired number) here (slice_get (with_bytes other (there number) found' from written') (there number))) (sym (with_same memory number found from written refl))
      (subst (λ (here : Option Block). AtBoth there (paired number) (option_map (over from written) found) here) (sym (with_same other (there number) found' from written' refl))
      (over_at there from written (paired number) found found' (at_both there back paired memory other are number))))
      (λ block stands live. holds (slice_get memory number) refl block (sym (with_same memory number (slice_get memory number) from written refl) ∙ stands) live)
    where
      all_over : (bytes : List Byte) → All (NamesAmong paired) bytes → All (NamesAmong paired) (overwritten bytes from written)
      all_over bytes all =
          All-append (NamesAmong paired) (take from bytes) (written ++ drop (from + length written) bytes) (All-take (NamesAmong paired) from bytes all)
          (All-append (NamesAmong paired) written (drop (from + length written) bytes) names (All-drop (NamesAmong paired) (from + length written) bytes all))

      holds : (found : Option Block) → slice_get memory number ≡ found → (block : Block) → option_map (over from written) found ≡ Some block → block.live ≡ true → All (NamesAmong paired) block.bytes
      holds None stands block is live = absurd (none-some block is)
      holds (Some before) stands block is live =
          let same : over from written before ≡ block = same_Some (over from written before) block is in
          All-same (NamesAmong paired) block.bytes (overwritten before.bytes from written) (sym (ap (λ (here : Block). here.bytes) same))
          (all_over before.bytes (are.held number before stands (ap (λ (here : Block). here.live) same ∙ live)))

  word_bytes-name : (word : Word) → WordNamesAmong paired word → All (NamesAmong paired) (word_bytes word)
  word_bytes-name (Plain number) names = numbers_name_nothing paired (to_le_bytes w64 number)
  word_bytes-name (To block offset) names = parts (0 ∷ 1 ∷ 2 ∷ 3 ∷ 4 ∷ 5 ∷ 6 ∷ 7 ∷ [])
    where
      parts : (places : List ℕ) → All (NamesAmong paired) (map (Part block offset) places)
      parts [] = All-nil (NamesAmong paired)
      parts (k ∷ rest) = All-cons (NamesAmong paired) (Part block offset k) (map (Part block offset) rest) names (parts rest)

  pub stored-alike : (at : Word) (size : ℕ) (word : Word) → WordNamesAmong paired word →
      AreAlike there back paired (stored memory at size word) (stored other (renumbered_word there at) size (renumbered_word there word))
  stored-alike at size word names =
      subst (λ (written : List Byte). AreAlike there back paired (stored memory at size word) (written_at other (renumbered_word there at) written))
      (sym (ap (take size) (sym (word_bytes-renumbered there word)) ∙ take-map (renumbered_byte there) size (word_bytes word)))
      (written-alike at (take size (word_bytes word)) (All-take (NamesAmong paired) size (word_bytes word) (word_bytes-name word names)))

  pub filled-alike : (at : Word) (number count : ℕ) → AreAlike there back paired (filled memory at number count) (filled other (renumbered_word there at) number count)
  filled-alike at number count =
      subst (λ (written : List Byte). AreAlike there back paired (filled memory at number count) (written_at other (renumbered_word there at) written))
      (same_number count) (written-alike at (replicate count (Num number)) (none_named count))
    where
      same_number : (count : ℕ) → map (renumbered_byte there) (replicate count (Num number)) ≡ replicate count (Num number)
      same_number zero = refl
      same_number (suc count) = ap (λ (more : List Byte). Num number ∷ more) (same_number count)

      none_named : (count : ℕ) → All (NamesAmong paired) (replicate count (Num number))
      none_named zero = All-nil (NamesAmong paired)
      none_named (suc count) = All-cons (NamesAmong paired) (Num number) (replicate count (Num number)) tt (none_named count)

  pub copied-alike : (to from : Word) (count : ℕ) → range_fault memory from count ≡ None →
      AreAlike there back paired (copied memory to from count) (copied other (renumbered_word there to) (renumbered_word there from) count)
  copied-alike to from count none =
      subst (λ (written : List Byte). AreAlike there back paired (copied memory to from count) (written_at other (renumbered_word there to) written))
      (sym (bytes_at-alike there back paired memory other are from count none))
      (written-alike to (bytes_at memory from count) (names_at there back paired memory other are from count none))
