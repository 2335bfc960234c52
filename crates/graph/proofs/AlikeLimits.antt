-- What may differ in alike memories.
use Rattle.std.proofs.Common.{◌≡◌, ◌≢◌, ℕ, zero, suc, ◌<◌, List, [], ◌∷◌, map, length, Bool, true, false, refl, sym, ap, subst, ◌∙◌, ◌⊎◌, inl, inr, Option, None, Some, arith}
use Rattle.std.specs.Prelude.{slice_get, slice_set, slice_index_or, nat_lt, option_map, pos, All, IsTrue}
use Rattle.std.specs.List.{list_all}
use Rattle.std.proofs.lemmas.Bool.{cases_eq, and_parts, ltb-true, false≢true}
use Rattle.std.proofs.lemmas.Option.{same_Some, none-some, slice_get_past}
use Rattle.std.proofs.lemmas.List.Elements.{All-nil, All-cons, All-same}
use Rattle.bytes_core.specs.declared.byte.Byte.{Byte}
use Rattle.bytes_core.specs.declared.byte.Byte.TheVariants.{Part}
use Rattle.bytes_core.specs.declared.word.Word.TheVariants.{To}
use Rattle.bytes_core.specs.declared.block.Block.{Block}
use Rattle.bytes_core.specs.Value.{word_bytes}
use Rattle.bytes_core.specs.Placement.{placed, is_placed, are_compatible}
use Rattle.bytes_core.specs.Valid.{NamesBelow, IsMemory}
use Rattle.bytes_core.specs.declared.block.BlockKind.TheVariants.{Static, Heap}
use Rattle.bytes_core.proofs.Written.{slice_get-set_same, slice_get-set_other}
use Rattle.graph.specs.AlikeMemories.{NamesAmong, IsDeadOrNone, AreAlike}
use Rattle.graph.specs.AlikeLimits.{renumbered_block, MayDiffer, dangling, AreToldApart}
use Rattle.graph.proofs.AlikeBlocks.{dead_lives, gone_from, AtBoth, BothLive, BothDead, Unpaired, at_both, alike_from}
use Rattle.graph.proofs.AlikeTurned.{alike_itself}
use Rattle.graph.proofs.AlikePlaced.{get_last, get_other}

module _ (there back : ℕ → ℕ) (paired : ℕ → Bool) (one other : List Block) (are : AreAlike there back paired one other) where
  -- what changes at one number of the other memory, and is alike there
  other_changed : (number : ℕ) (other' : List Block) → ((place : ℕ) → place ≢ number → slice_get other' place ≡ slice_get other place) →
      AtBoth there (paired (back number)) (slice_get one (back number)) (slice_get other' number) → AreAlike there back paired one other'
  other_changed number other' keeps here = alike_from there back paired one other' are.same are.again (λ place. each place (cases_eq (there place) number)) are.held
    where
      each : (place : ℕ) → (there place ≡ number) ⊎ (there place ≡ number → ⊥) → AtBoth there (paired place) (slice_get one place) (slice_get other' (there place))
      each place (inl is) =
          let back_is : back number ≡ place = ap back (sym is) ∙ are.same place in
          subst (λ (found : Option Block). AtBoth there (paired place) (slice_get one place) found) (ap (slice_get other') (sym is))
          (subst (λ (place : ℕ). AtBoth there (paired place) (slice_get one place) (slice_get other' number)) back_is here)
      each place (inr differ) =
          subst (λ (found : Option Block). AtBoth there (paired place) (slice_get one place) found) (sym (keeps (there place) differ)) (at_both there back paired one other are place)

  here_at : (number : ℕ) → AtBoth there (paired (back number)) (slice_get one (back number)) (slice_get other number)
  here_at number = subst (λ (place : ℕ). AtBoth there (paired (back number)) (slice_get one (back number)) (slice_get other place)) (are.again number) (at_both there back paired one other are (back number))

  dead_differs : (number : ℕ) (block : Block) (base : ℕ) (bytes : List Byte) → slice_get other number ≡ Some block → block.live ≡ false →
      AreAlike there back paired one (slice_set other number (record block { base = base; bytes = bytes }))
  dead_differs number block base bytes stands dead =
      other_changed number (slice_set other number new) (λ place differ. slice_get-set_other other number place new differ)
      (by_case (here_at number))
    where
      new : Block
      new = record block { base = base; bytes = bytes }

      new_stands : slice_get (slice_set other number new) number ≡ Some new
      new_stands = slice_get-set_same other number block new stands

      by_case : AtBoth there (paired (back number)) (slice_get one (back number)) (slice_get other number) →
          AtBoth there (paired (back number)) (slice_get one (back number)) (slice_get (slice_set other number new) number)
      by_case (BothLive inside before found is is' alike) = let looks = alike.looks in
          absurd (dead_lives (slice_get other number) found is' (gone_from (slice_get other number) block stands dead) looks.live)
      by_case (BothDead inside before found is is' alike) =
          BothDead inside before new is new_stands (record { dead = alike.dead; dead' = dead; kind = ap (λ (here : Block). here.kind) (same_Some block found (sym stands ∙ is')) ∙ alike.kind })
      by_case (Unpaired outside gone gone') = Unpaired outside gone (gone_from (slice_get (slice_set other number new) number) new new_stands dead)

  unnamed_differs : (block : Block) → block.live ≡ false → AreAlike there back paired one (placed other block)
  unnamed_differs block dead = other_changed (length other) (placed other block) (get_other other block) (by_case (here_at (length other)))
    where
      none : slice_get other (length other) ≡ None
      none = slice_get_past other (length other) (omega arith)

      by_case : AtBoth there (paired (back (length other))) (slice_get one (back (length other))) (slice_get other (length other)) →
          AtBoth there (paired (back (length other))) (slice_get one (back (length other))) (slice_get (placed other block) (length other))
      by_case (BothLive inside before found is is' alike) = absurd (none-some found (sym none ∙ is'))
      by_case (BothDead inside before found is is' alike) = absurd (none-some found (sym none ∙ is'))
      by_case (Unpaired outside gone gone') = Unpaired outside gone (gone_from (slice_get (placed other block) (length other)) block (get_last other block) dead)

gone_renumbered : (there : ℕ → ℕ) (found : Option Block) → IsDeadOrNone found → IsDeadOrNone (option_map (renumbered_block there) found)
gone_renumbered there None gone = tt
gone_renumbered there (Some block) gone = gone

numbers_differ : (there back : ℕ → ℕ) (paired : ℕ → Bool) (one other : List Block) → AreAlike (λ number. number) (λ number. number) paired one one →
    ((number : ℕ) → back (there number) ≡ number) → ((number : ℕ) → there (back number) ≡ number) →
    ((number : ℕ) → slice_get other (there number) ≡ option_map (renumbered_block there) (slice_get one number)) →
    AreAlike there back paired one other
numbers_differ there back paired one other are same again blocks = alike_from there back paired one other same again (λ number. each number (at_both (λ number. number) (λ number. number) paired one one are number)) are.held
  where
    each : (number : ℕ) → AtBoth (λ number. number) (paired number) (slice_get one number) (slice_get one number) → AtBoth there (paired number) (slice_get one number) (slice_get other (there number))
    each number (BothLive inside block block' is is' alike) =
        BothLive inside block (renumbered_block there block) is (blocks number ∙ ap (option_map (renumbered_block there)) is)
        (record { live = alike.live; base = refl; looks = record { live = alike.live; kind = refl; bytes = refl } })
    each number (BothDead inside block block' is is' alike) =
        BothDead inside block (renumbered_block there block) is (blocks number ∙ ap (option_map (renumbered_block there)) is) (record { dead = alike.dead; dead' = alike.dead; kind = refl })
    each number (Unpaired outside gone gone') = Unpaired outside gone (subst IsDeadOrNone (sym (blocks number)) (gone_renumbered there (slice_get one number) gone))

pub may_differ : MayDiffer
may_differ = record {
  dead = λ there back paired one other number block base bytes are stands dead. dead_differs there back paired one other are number block base bytes stands dead;
  unnamed = λ there back paired one other block are dead. unnamed_differs there back paired one other are block dead;
  numbers = numbers_differ;
}

-- the example

example_named : (number : ℕ) (block : Block) → slice_get (dangling 32) number ≡ Some block → block.live ≡ true → All (NamesAmong (λ number. nat_lt number 2)) block.bytes
example_named zero block is live =
    All-same (NamesAmong (λ number. nat_lt number 2)) block.bytes (word_bytes (To 1 (pos 0))) (sym (ap (λ (here : Block). here.bytes) (same_Some _ block is))) (parts (0 ∷ 1 ∷ 2 ∷ 3 ∷ 4 ∷ 5 ∷ 6 ∷ 7 ∷ []))
  where
    parts : (places : List ℕ) → All (NamesAmong (λ number. nat_lt number 2)) (map (Part 1 (pos 0)) places)
    parts [] = All-nil (NamesAmong (λ number. nat_lt number 2))
    parts (k ∷ rest) = All-cons (NamesAmong (λ number. nat_lt number 2)) (Part 1 (pos 0) k) (map (Part 1 (pos 0)) rest) refl (parts rest)
example_named (suc zero) block is live = absurd (false≢true (ap (λ (here : Block). here.live) (same_Some _ block is) ∙ live))
example_named (suc (suc number)) block is live = absurd (none-some block is)

example_lives : (number : ℕ) (block : Block) → slice_get (dangling 32) number ≡ Some block → block.live ≡ true → nat_lt number 2 ≡ true
example_lives zero block is live = refl
example_lives (suc zero) block is live = refl
example_lives (suc (suc number)) block is live = absurd (none-some block is)

example_is : (base : ℕ) → IsTrue (is_placed (record { base = base; kind = Heap; live = false; bytes = [] })) → IsMemory (dangling base)
example_is base place = record {
  placed = All-cons (λ block. IsTrue (is_placed block)) holder (gone ∷ []) refl
      (All-cons (λ block. IsTrue (is_placed block)) gone [] place (All-nil (λ block. IsTrue (is_placed block))));
  apart = ordered;
  named = All-cons (λ block. All (NamesBelow 2) block.bytes) holder (gone ∷ []) (parts (0 ∷ 1 ∷ 2 ∷ 3 ∷ 4 ∷ 5 ∷ 6 ∷ 7 ∷ []) refl)
      (All-cons (λ block. All (NamesBelow 2) block.bytes) gone [] (All-nil (NamesBelow 2)) (All-nil (λ block. All (NamesBelow 2) block.bytes)));
}
  where
    holder : Block
    holder = record { base = 16; kind = Static; live = true; bytes = word_bytes (To 1 (pos 0)) }

    gone : Block
    gone = record { base = base; kind = Heap; live = false; bytes = [] }

    ordered : (i j : ℕ) (d : Block) → i < j → j < 2 → IsTrue (are_compatible (slice_index_or (dangling base) i d) (slice_index_or (dangling base) j d))
    ordered i zero d below few = absurd (omega arith)
    ordered zero (suc zero) d below few = refl
    ordered (suc i) (suc zero) d below few = absurd (omega arith)
    ordered i (suc (suc j)) d below few = absurd (omega arith)

    parts : (places : List ℕ) → list_all (λ k. nat_lt k 8) places ≡ true → All (NamesBelow 2) (map (Part 1 (pos 0)) places)
    parts [] small = All-nil (NamesBelow 2)
    parts (k ∷ rest) small =
        let both = and_parts (nat_lt k 8) (list_all (λ k. nat_lt k 8) rest) small in
        All-cons (NamesBelow 2) (Part 1 (pos 0) k) (map (Part 1 (pos 0)) rest) (omega arith, ltb-true k 8 both.0) (parts rest both.1)

pub told_apart : AreToldApart
told_apart = record {
  memory = example_is 32 refl;
  other_memory = example_is 16 refl;
  alike = dead_differs (λ number. number) (λ number. number) (λ number. nat_lt number 2) (dangling 32) (dangling 32)
      (alike_itself (λ number. nat_lt number 2) (dangling 32) (λ number inside. ltb-true number 2 inside) example_lives example_named) 1 _ 16 [] refl refl;
  unequal = refl;
  equal = refl;
  number_unequal = refl;
  number_equal = refl;
  first_byte = refl;
  other_byte = refl;
  integer = refl;
  other_integer = refl;
  pointer = refl;
  other_pointer = refl;
}
