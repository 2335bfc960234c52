-- A memory in which a block has died.
use Rattle.std.proofs.Common.{◌≡◌, ℕ, ◌<◌, Bool, true, false, not, ◌||◌, List, length, set, get_or, Some, ◌⊎◌, inl, inr, refl, sym, ◌∙◌, ap, subst, arith}
use Rattle.std.specs.Prelude.{slice_get, IsTrue}
use Rattle.std.specs.List.{All, AllPairs}
use Rattle.std.proofs.lemmas.Bool.{cases_eq}
use Rattle.std.proofs.lemmas.List.{length-set, get_or-set_same, get_or-set_other}
use Rattle.std.proofs.lemmas.List.Elements.{All-set}
use Rattle.std.proofs.lemmas.Option.{slice_get_within, get_or_from_slice_get}
use Rattle.bytes_core.specs.declared.block.Block.{Block}
use Rattle.bytes_core.specs.Placement.{is_placed, are_compatible}
use Rattle.bytes_core.specs.Valid.{NamesBelow, IsMemory}
use Rattle.graph.specs.State.{State, IsByte, IsState, IsWordBelow}
use Rattle.changes.proofs.Died.{dead}
use Rattle.changes.proofs.Region.{with_block}

module _ (memory : List Block) (number : ℕ) (block : Block) (valid : IsMemory memory) (there : slice_get memory number ≡ Some block) where
  abbrev pub without_it : List Block
  without_it = set memory number (dead block)

  inside : number < length memory
  inside = slice_get_within memory number block there

  read : (d : Block) → get_or memory number d ≡ block
  read d = get_or_from_slice_get memory number block d there

  apart_still : AllPairs (λ one other. IsTrue (are_compatible one other)) without_it
  apart_still i j d before below = by_place (cases_eq i number) (cases_eq j number)
    where
      within : j < length memory
      within = let long = length-set memory number (dead block) in omega arith

      by_place : (i ≡ number) ⊎ (i ≡ number → ⊥) → (j ≡ number) ⊎ (j ≡ number → ⊥) → IsTrue (are_compatible (get_or without_it i d) (get_or without_it j d))
      by_place (inl first) second = subst (λ (b : Block). IsTrue (are_compatible b (get_or without_it j d))) (sym (ap (λ (n : ℕ). get_or without_it n d) first ∙ get_or-set_same memory number (dead block) d inside)) refl
      by_place (inr first) (inl second) =
          subst (λ (b : Block). IsTrue (are_compatible (get_or without_it i d) b)) (sym (ap (λ (n : ℕ). get_or without_it n d) second ∙ get_or-set_same memory number (dead block) d inside))
          (dead_behind (get_or without_it i d).live)
        where
          dead_behind : (b : Bool) → IsTrue (not b || true)
          dead_behind true = refl
          dead_behind false = refl
      by_place (inr first) (inr second) =
          subst (λ (b : Block). IsTrue (are_compatible b (get_or without_it j d))) (sym (get_or-set_other memory number i (dead block) d first))
          (subst (λ (b : Block). IsTrue (are_compatible (get_or memory i d) b)) (sym (get_or-set_other memory number j (dead block) d second)) (valid.apart i j d before within))

  pub memory_without : IsMemory without_it
  memory_without = record {
    placed = All-set (λ (b : Block). IsTrue (is_placed b)) memory number (dead block) (subst (λ (b : Block). IsTrue (is_placed b)) (read block) (valid.placed number block inside)) valid.placed;
    apart = apart_still;
    named = subst (λ (count : ℕ). All (λ (b : Block). All (NamesBelow count) b.bytes) without_it) (sym (length-set memory number (dead block)))
        (All-set (λ (b : Block). All (NamesBelow (length memory)) b.bytes) memory number (dead block) (subst (λ (b : Block). All (NamesBelow (length memory)) b.bytes) (read block) (valid.named number block inside)) valid.named);
  }

-- a state with a block dead is one
pub state_without : (state : State) (number : ℕ) (block : Block) → IsState state → slice_get state.memory number ≡ Some block → IsState (with_block state number (dead block))
state_without state number block is there = record {
  memory = memory_without state.memory number block is.memory there;
  bytes = All-set (λ (b : Block). All IsByte b.bytes) state.memory number (dead block) (subst (λ (b : Block). All IsByte b.bytes) (get_or_from_slice_get state.memory number block block there) (is.bytes number block (slice_get_within state.memory number block there))) is.bytes;
  variables = λ variable its stands. subst (λ (count : ℕ). its < count) (sym count) (is.variables variable its stands);
  registers = λ register word stands. subst (λ (count : ℕ). IsWordBelow count word) (sym count) (is.registers register word stands);
  ports = subst (λ (count : ℕ). All (IsWordBelow count) state.ports) (sym count) is.ports;
  roots = is.roots;
}
  where
    count : length (set state.memory number (dead block)) ≡ length state.memory
    count = length-set state.memory number (dead block)
