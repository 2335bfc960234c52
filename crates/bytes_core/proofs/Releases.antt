-- What a free does.
use Rattle.std.proofs.Common.{◌≡◌, ℕ, Bool, true, false, ◌&&◌, List, set, ℤ, pos, nat_eq, Option, None, Some, refl, sym, ap, ◌∙◌}
use Rattle.std.proofs.lemmas.Bool.{eqb-true, and_parts}
use Rattle.std.proofs.lemmas.Bool.Decides.{Decides-int_eq}
use Rattle.std.proofs.lemmas.Option.{none-some}
use Rattle.std.specs.List.{slice_get}
use Rattle.std.specs.Ordering.{int_eq}
use Rattle.std.specs.Prelude.{if◌then◌else◌, IsTrue, ◌⊎◌, ◌↔◌}
use Rattle.std.proofs.Common.{inl, inr}
use Rattle.bytes_core.specs.declared.word.Word.{Word}
use Rattle.bytes_core.specs.declared.word.Word.TheVariants.{Plain, To}
use Rattle.bytes_core.specs.declared.block.Block.{Block}
use Rattle.bytes_core.specs.Fault.{double_free, invalid_free}
use Rattle.bytes_core.specs.Release.{is_heap, block_free_fault, free_fault, without, freed}
use Rattle.bytes_core.specs.Laws.{LeadsToHeap, KeepsOthers}
use Rattle.bytes_core.proofs.Written.{slice_get-set_same, KeepsOthers-set}

-- the tests of a free that meets no fault
free_tests : (here live : Bool) → (if here then (if live then None else Some double_free) else Some invalid_free) ≡ None → (here ≡ true) × (live ≡ true)
free_tests true true none = (refl, refl)
free_tests true false none = absurd (none-some double_free (sym none))
free_tests false live none = absurd (none-some invalid_free (sym none))

LeadsToHeap-block : (memory : List Block) (number : ℕ) (offset : ℤ) (found : Option Block) → slice_get memory number ≡ found → block_free_fault found offset ≡ None →
    LeadsToHeap memory (To number offset)
LeadsToHeap-block memory number offset None stands none = absurd (none-some invalid_free (sym none))
LeadsToHeap-block memory number offset (Some block) stands none =
    let tests = free_tests (is_heap block.kind && int_eq offset (pos 0)) block.live none in
    let start = and_parts (is_heap block.kind) (int_eq offset (pos 0)) tests.0 in
    record {
      number = number;
      block = block;
      is = ap (To number) ((Decides-int_eq offset (pos 0)).0 start.1);
      stands = stands;
      allocated = start.0;
      live = tests.1;
    }

null_test : (number : ℕ) (test : Bool) → nat_eq number 0 ≡ test → (if test then None else Some invalid_free) ≡ None → number ≡ 0
null_test number true is none = eqb-true number 0 is
null_test number false is none = absurd (none-some invalid_free (sym none))

freeable_from_none : (memory : List Block) (at : Word) → free_fault memory at ≡ None → (at ≡ Plain 0) ⊎ LeadsToHeap memory at
freeable_from_none memory (Plain number) none = inl (ap Plain (null_test number (nat_eq number 0) refl none))
freeable_from_none memory (To number offset) none = inr (LeadsToHeap-block memory number offset (slice_get memory number) refl none)

free_fault-LeadsToHeap : (memory : List Block) (at : Word) → LeadsToHeap memory at → free_fault memory at ≡ None
free_fault-LeadsToHeap memory at leads =
    ap (free_fault memory) leads.is
    ∙ ap (λ (found : Option Block). block_free_fault found (pos 0)) leads.stands
    ∙ rw (leads.allocated, leads.live) refl

none_from_freeable : (memory : List Block) (at : Word) → (at ≡ Plain 0) ⊎ LeadsToHeap memory at → free_fault memory at ≡ None
none_from_freeable memory at (inl null) = ap (free_fault memory) null
none_from_freeable memory at (inr leads) = free_fault-LeadsToHeap memory at leads

-- null and the first byte of a live heap block may be freed, and nothing else
pub freeable : (memory : List Block) (at : Word) → (free_fault memory at ≡ None) ↔ ((at ≡ Plain 0) ⊎ LeadsToHeap memory at)
freeable memory at = (freeable_from_none memory at, none_from_freeable memory at)

freed-set : (memory : List Block) (number : ℕ) (block : Block) → slice_get memory number ≡ Some block →
    freed memory (To number (pos 0)) ≡ set memory number (record block { live = false })
freed-set memory number block stands = ap (without memory number) stands

-- the block freed is dead, and as it was in all else
pub block_ended : (memory : List Block) (number : ℕ) (block : Block) → slice_get memory number ≡ Some block →
    slice_get (freed memory (To number (pos 0))) number ≡ Some (record block { live = false })
block_ended memory number block stands =
    ap (λ (blocks : List Block). slice_get blocks number) (freed-set memory number block stands)
    ∙ slice_get-set_same memory number block (record block { live = false }) stands

KeepsOthers-without : (memory : List Block) (number : ℕ) (found : Option Block) → KeepsOthers memory (without memory number found) number
KeepsOthers-without memory number None = record { blocks = refl; others = λ other differ. refl }
KeepsOthers-without memory number (Some block) = KeepsOthers-set memory number (record block { live = false })

-- a free keeps the blocks that it is not made to
pub free_keeps_blocks : (memory : List Block) (number : ℕ) → KeepsOthers memory (freed memory (To number (pos 0))) number
free_keeps_blocks memory number = KeepsOthers-without memory number (slice_get memory number)

-- after a free a second one is a double free
pub second_free : (memory : List Block) (number : ℕ) (block : Block) → slice_get memory number ≡ Some block → IsTrue (is_heap block.kind) →
    free_fault (freed memory (To number (pos 0))) (To number (pos 0)) ≡ Some double_free
second_free memory number block stands allocated =
    ap (λ (found : Option Block). block_free_fault found (pos 0)) (block_ended memory number block stands)
    ∙ rw allocated refl
