-- Dead blocks that are not there may have other numbers: any numbers that no block has, one to one.
use Rattle.std.proofs.Common.{◌≡◌, ℕ, ◌<◌, ◌≤◌, Bool, true, false, List, [], ◌∷◌, map, length, nat_lt, Option, None, Some, refl, sym, ◌∙◌, ap, subst, ltb-true, ltb-false}
use Rattle.std.specs.Prelude.{option_map, slice_get, Contains}
use Rattle.std.specs.List.{All}
use Rattle.std.proofs.lemmas.List.Elements.{All-head, All-tail}
use Rattle.std.proofs.lemmas.Option.{slice_get_within, slice_get_past}
use Rattle.bytes_core.specs.declared.byte.Byte.{Byte}
use Rattle.bytes_core.specs.declared.byte.Byte.TheVariants.{Num, Part}
use Rattle.bytes_core.specs.declared.block.BlockKind.{BlockKind}
use Rattle.bytes_core.specs.declared.block.Block.{Block}
use Rattle.bytes_core.specs.declared.word.Word.{Word}
use Rattle.bytes_core.specs.declared.word.Word.TheVariants.{Plain, To}
use Rattle.bytes_core.specs.Valid.{NamesBelow}
use Rattle.graph.specs.Alike.{renumbered_word, renumbered_byte, IsSeenAs}
use Rattle.graph.specs.DeadBlocks.{with_numbers, AbsentBlocksMayHaveOtherNumbers}
use Rattle.graph.specs.declared.value.Value.TheVariants.{Any}
use Rattle.graph.specs.State.{State, IsWordBelow, IsLedTo, IsState}
use Rattle.graph.specs.Meaning.{IsGone, Maps, Assignment, Meets, maps_of}
use Rattle.graph.proofs.Alike.{IsSeenBut, Meets-renumbered, IsWordBelow-renumbered}
use Rattle.graph.proofs.AlikeStates.{All-at, led_below}

module _ (bound : ℕ) (there back : ℕ → ℕ) (same : (number : ℕ) → back (there number) ≡ number) (low : (number : ℕ) → number < bound → there number ≡ number) (high : (number : ℕ) → bound ≤ number → bound ≤ there number) where
  low_back : (number : ℕ) → number < bound → back number ≡ number
  low_back number below = ap back (sym (low number below)) ∙ same number

  byte_same : (byte : Byte) → NamesBelow bound byte → renumbered_byte there byte ≡ byte
  byte_same (Num number) names = refl
  byte_same (Part block offset k) names = ap (λ (n : ℕ). Part n offset k) (low block names.0)

  bytes_same : (bytes : List Byte) → All (NamesBelow bound) bytes → map (renumbered_byte there) bytes ≡ bytes
  bytes_same [] all = refl
  bytes_same (byte ∷ rest) all =
      ap (λ (b : Byte). b ∷ map (renumbered_byte there) rest) (byte_same byte (All-head (NamesBelow bound) byte rest all))
      ∙ ap (λ (bs : List Byte). byte ∷ bs) (bytes_same rest (All-tail (NamesBelow bound) byte rest all))

  word_same : (word : Word) → IsWordBelow bound word → renumbered_word there word ≡ word
  word_same (Plain number) below = refl
  word_same (To block offset) below = ap (λ (n : ℕ). To n offset) (low block below.named)

  words_same : (words : List Word) → All (IsWordBelow bound) words → map (renumbered_word there) words ≡ words
  words_same [] all = refl
  words_same (word ∷ rest) all =
      ap (λ (w : Word). w ∷ map (renumbered_word there) rest) (word_same word (All-head (IsWordBelow bound) word rest all))
      ∙ ap (λ (ws : List Word). word ∷ ws) (words_same rest (All-tail (IsWordBelow bound) word rest all))

module _ (state : State) (is : IsState state) (there back : ℕ → ℕ) (same : (number : ℕ) → back (there number) ≡ number)
    (low : (number : ℕ) → number < length state.memory → there number ≡ number) (high : (number : ℕ) → length state.memory ≤ number → length state.memory ≤ there number) where
  abbrev bound : ℕ
  bound = length state.memory

  pub seen : IsSeenAs there back state state
  seen = record {
    same = same;
    live = λ number block stands live.
        let within = slice_get_within state.memory number block stands in record {
          block = block;
          stands = ap (slice_get state.memory) (low number within) ∙ stands;
          looks = record { live = live; kind = refl; bytes = sym (bytes_same bound there back same low high block.bytes (All-at (λ block. All (NamesBelow bound) block.bytes) state.memory number block stands is.memory.named)) };
        };
    was_live = λ number block stands live.
        let within = slice_get_within state.memory number block stands in (
          record { block = block; stands = ap (slice_get state.memory) (low_back bound there back same low high number within) ∙ stands; live = live },
          ap there (low_back bound there back same low high number within) ∙ low number within,
        );
    gone = λ number kind gone. by_test number kind gone (nat_lt number bound) refl;
    named = λ number below. subst (λ (n : ℕ). n < bound) (sym (low number below)) below;
    variables = λ variable. by_variable variable (state.variables variable) refl;
    registers = λ register. by_register register (state.registers register) refl;
    ports = sym (words_same bound there back same low high state.ports is.ports);
    roots = λ root within. subst (λ (n : ℕ). Contains state.roots n) (sym (low root (led_below bound state.ports is.ports root (subst (λ (n : ℕ). IsLedTo state.ports n) within.2 (is.roots within.0 root within.1))))) within;
  }
    where
      by_test : (number : ℕ) (kind : BlockKind) → IsGone kind (slice_get state.memory number) → (b : Bool) → nat_lt number bound ≡ b → IsGone kind (slice_get state.memory (there number))
      by_test number kind gone true below = subst (λ (n : ℕ). IsGone kind (slice_get state.memory n)) (sym (low number (ltb-true _ _ below))) gone
      by_test number kind gone false above =
          subst (λ (o : Option Block). IsGone kind o) (sym (slice_get_past state.memory (there number) (high number (ltb-false _ _ above)))) tt

      by_variable : (variable : ℕ) (found : Option ℕ) → state.variables variable ≡ found → found ≡ option_map there found
      by_variable variable None stands = refl
      by_variable variable (Some number) stands = ap Some (sym (low number (is.variables variable number stands)))

      by_register : (register : ℕ) (found : Option Word) → state.registers register ≡ found → found ≡ option_map (renumbered_word there) found
      by_register register None stands = refl
      by_register register (Some word) stands = ap Some (sym (word_same bound there back same low high word (is.registers register word stands)))

  pub seen_but : IsSeenBut there back state state
  seen_but = record {
    same = seen.same;
    live = seen.live;
    was_live = seen.was_live;
    gone = seen.gone;
    variables = seen.variables;
    registers = seen.registers;
    ports = seen.ports;
    roots = seen.roots;
  }

  pub absent_elsewhere : (maps : Maps) (given : Assignment) → Meets maps state given → Meets maps state (with_numbers there back given)
  absent_elsewhere maps given meets = Meets-renumbered there back state state seen_but maps given meets
      (λ key any. IsWordBelow-renumbered there back state state seen (given.word key) (meets.values key Any any))

pub absent_blocks_may_have_other_numbers : AbsentBlocksMayHaveOtherNumbers
absent_blocks_may_have_other_numbers there back parts state given changes is meets =
    absent_elsewhere state is there back changes.same changes.stay changes.absent (maps_of parts) given meets
