-- What changes a memory keeps how many blocks it has, or adds one.
use Rattle.std.proofs.Common.{◌≡◌, ℕ, List, [], ◌∷◌, length, false, pos, negsuc, Option, None, Some, refl, ◌∙◌}
use Rattle.std.proofs.lemmas.List.{length-set}
use Rattle.std.specs.Prelude.{slice_get}
use Rattle.bytes_core.specs.declared.byte.Byte.{Byte}
use Rattle.bytes_core.specs.declared.block.Block.{Block}
use Rattle.bytes_core.specs.declared.word.Word.{Word}
use Rattle.bytes_core.specs.declared.word.Word.TheVariants.{Plain, To}
use Rattle.bytes_core.specs.Access.{written_at, with_bytes, overwritten}
use Rattle.bytes_core.specs.Release.{freed, without}
use Rattle.c_machine.specs.Step.{without_objects}

length_with_bytes : (memory : List Block) (number : ℕ) (found : Option Block) (from : ℕ) (written : List Byte) → length (with_bytes memory number found from written) ≡ length memory
length_with_bytes memory number None from written = refl
length_with_bytes memory number (Some block) from written = length-set memory number (record block { bytes = overwritten block.bytes from written })

pub length_written : (memory : List Block) (at : Word) (written : List Byte) → length (written_at memory at written) ≡ length memory
length_written memory (Plain number) written = refl
length_written memory (To block (pos from)) written = length_with_bytes memory block (slice_get memory block) from written
length_written memory (To block (negsuc before)) written = refl

pub length_without : (memory : List Block) (number : ℕ) (found : Option Block) → length (without memory number found) ≡ length memory
length_without memory number None = refl
length_without memory number (Some block) = length-set memory number (record block { live = false })

pub length_freed : (memory : List Block) (at : Word) → length (freed memory at) ≡ length memory
length_freed memory (Plain number) = refl
length_freed memory (To block offset) = length_without memory block (slice_get memory block)

pub length_without_objects : (blocks : List ℕ) (memory : List Block) → length (without_objects blocks memory) ≡ length memory
length_without_objects [] memory = refl
length_without_objects (block ∷ rest) memory =
    length_without_objects rest (without memory block (slice_get memory block)) ∙ length_without memory block (slice_get memory block)
