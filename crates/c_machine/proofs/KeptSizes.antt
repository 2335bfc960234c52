-- What is done with a memory leaves each block as many bytes as it had.
use Rattle.std.proofs.Common.{◌≡◌, ℕ, zero, suc, ◌+◌, ◌≤◌, List, [], ◌∷◌, ◌++◌, length, take, drop, replicate, set, Bool, false, refl, sym, ap, subst, ◌∙◌, ◌⊎◌, inl, inr, Option, None, Some, arith}
use Rattle.std.specs.Prelude.{slice_get}
use Rattle.std.proofs.lemmas.Bool.{cases_eq}
use Rattle.std.proofs.lemmas.List.{length-append, length-take, length-drop, length-map, length-replicate}
use Rattle.bytes_core.specs.declared.block.Block.{Block}
use Rattle.bytes_core.specs.declared.block.BlockKind.{BlockKind}
use Rattle.bytes_core.specs.declared.byte.Byte.{Byte}
use Rattle.bytes_core.specs.declared.byte.Byte.TheVariants.{Num}
use Rattle.bytes_core.specs.declared.word.Word.{Word}
use Rattle.bytes_core.specs.declared.word.Word.TheVariants.{Plain, To}
use Rattle.bytes_core.specs.Access.{access_fault, range_fault, bytes_at, overwritten, with_bytes, written_at, stored, filled}
use Rattle.bytes_core.specs.Copying.{copy_fault, copied}
use Rattle.bytes_core.specs.Laws.{LeadsTo}
use Rattle.bytes_core.specs.Placement.{new_block, placed}
use Rattle.bytes_core.specs.Release.{freed, without}
use Rattle.bytes_core.specs.Value.{word_bytes}
use Rattle.bytes_core.proofs.Kept.{filled_nothing, copied_nothing}
use Rattle.bytes_core.proofs.Written.{accessible, slice_get-set_same, slice_get-set_other}
use Rattle.c_machine.specs.declared.object.Object.{Object}
use Rattle.c_machine.specs.declared.variable.Variable.{Variable}
use Rattle.c_machine.specs.Fitting.{Each, HasBytes, HasItsSize}
use Rattle.c_machine.specs.Step.{without_objects}
use Rattle.c_machine.proofs.KeptMemory.{pushed_old, pushed_new}
use Rattle.c_machine.proofs.KeptWords.{few_bytes, none_first, none_later}

-- each block has as many bytes as before
abbrev pub KeepsSizes : List Block → List Block → Type 0
KeepsSizes old new = (number size : ℕ) → HasBytes old number size → HasBytes new number size

pub sizes_stay : (Is : Object → Type 0) (old new : List Block) (scope : List Variable) → KeepsSizes old new → Each (HasItsSize Is old) scope → Each (HasItsSize Is new) scope
sizes_stay Is old new [] keeps have = tt
sizes_stay Is old new (variable ∷ rest) keeps have =
    let own : HasItsSize Is old variable = have.0 in
    (record { object = own.object; is = own.is; token = own.token; bytes = keeps variable.block own.object.bytes own.bytes }, sizes_stay Is old new rest keeps have.1)

pub sizes_same : (memory : List Block) → KeepsSizes memory memory
sizes_same memory number size has = has

-- a block with as many bytes in place of another one
sizes_set : (memory : List Block) (number : ℕ) (old new : Block) → slice_get memory number ≡ Some old → length new.bytes ≡ length old.bytes → KeepsSizes memory (set memory number new)
sizes_set memory number old new stands same other size has = by_cases (cases_eq other number)
  where
    by_cases : (other ≡ number) ⊎ (other ≡ number → ⊥) → HasBytes (set memory number new) other size
    by_cases (inl equal) =
        let found : Some has.block ≡ Some old = sym has.stands ∙ ap (slice_get memory) equal ∙ stands in
        let block : has.block ≡ old = cc in
        record {
          block = new;
          stands = ap (slice_get (set memory number new)) equal ∙ slice_get-set_same memory number old new stands;
          size = same ∙ ap (λ (one : Block). length one.bytes) (sym block) ∙ has.size;
        }
    by_cases (inr apart) = record { block = has.block; stands = slice_get-set_other memory number other new apart ∙ has.stands; size = has.size }

-- bytes are written
written_length : (bytes written : List Byte) (from count : ℕ) → from + count ≤ length bytes → length written ≤ count → length (overwritten bytes from written) ≡ length bytes
written_length bytes written from count room few =
    length-append (take from bytes) (written ++ drop (from + length written) bytes)
    ∙ (ap (λ (n : ℕ). length (take from bytes) + n) (length-append written (drop (from + length written) bytes))
    ∙ omega (arith, length-take from bytes, length-drop (from + length written) bytes))

sizes_written : (memory : List Block) (at : Word) (written : List Byte) (count : ℕ) → access_fault memory at count ≡ None → length written ≤ count → KeepsSizes memory (written_at memory at written)
sizes_written memory at written count none few =
    let leads : LeadsTo memory at count = (accessible memory at count).0 none in
    let new : Block = record leads.block { bytes = overwritten leads.block.bytes leads.from written } in
    let there : written_at memory at written ≡ set memory leads.number new =
    ap (λ (word : Word). written_at memory word written) leads.is ∙ ap (λ (found : Option Block). with_bytes memory leads.number found leads.from written) leads.stands in
    subst (KeepsSizes memory) (sym there)
    (sizes_set memory leads.number leads.block new leads.stands (written_length leads.block.bytes written leads.from count leads.room few))

pub sizes_stored : (memory : List Block) (at : Word) (bytes : ℕ) (word : Word) → access_fault memory at bytes ≡ None → KeepsSizes memory (stored memory at bytes word)
sizes_stored memory at bytes word none = sizes_written memory at (take bytes (word_bytes word)) bytes none (omega (arith, length-take bytes (word_bytes word)))

pub sizes_filled : (memory : List Block) (at : Word) (number count : ℕ) → range_fault memory at count ≡ None → KeepsSizes memory (filled memory at number count)
sizes_filled memory at number zero none = subst (KeepsSizes memory) (sym (filled_nothing memory at number zero refl)) (sizes_same memory)
sizes_filled memory at number (suc count) none =
    sizes_written memory at (replicate (suc count) (Num number)) (suc count) none (omega (arith, length-replicate (suc count) (Num number)))

pub sizes_copied : (memory : List Block) (to from : Word) (count : ℕ) (disjoint : Bool) → copy_fault memory to from count disjoint ≡ None → KeepsSizes memory (copied memory to from count)
sizes_copied memory to from zero disjoint none = subst (KeepsSizes memory) (sym (copied_nothing memory to from zero refl)) (sizes_same memory)
sizes_copied memory to from (suc count) disjoint none =
    sizes_written memory to (bytes_at memory from (suc count)) (suc count)
    (none_first (range_fault memory to (suc count)) _ (none_later (range_fault memory from (suc count)) _ none)) (few_bytes memory from (suc count))

-- blocks die
sizes_without : (memory : List Block) (number : ℕ) (found : Option Block) → slice_get memory number ≡ found → KeepsSizes memory (without memory number found)
sizes_without memory number None stands = sizes_same memory
sizes_without memory number (Some block) stands = sizes_set memory number block (record block { live = false }) stands refl

pub sizes_freed : (memory : List Block) (at : Word) → KeepsSizes memory (freed memory at)
sizes_freed memory (Plain number) = sizes_same memory
sizes_freed memory (To block offset) = sizes_without memory block (slice_get memory block) refl

pub sizes_ended : (dying : List ℕ) (memory : List Block) → KeepsSizes memory (without_objects dying memory)
sizes_ended [] memory number size has = has
sizes_ended (first ∷ rest) memory number size has =
    sizes_ended rest (without memory first (slice_get memory first)) number size (sizes_without memory first (slice_get memory first) refl number size has)

-- a new block
pub sizes_placed : (memory : List Block) (block : Block) → KeepsSizes memory (placed memory block)
sizes_placed memory block number size has = record { block = has.block; stands = pushed_old memory block has.block number has.stands; size = has.size }

pub size_of_new : (memory : List Block) (kind : BlockKind) (base size : ℕ) (contents : List ℕ) → length contents ≡ size → HasBytes (placed memory (new_block kind base contents)) (length memory) size
size_of_new memory kind base size contents long =
    record { block = new_block kind base contents; stands = pushed_new memory (new_block kind base contents); size = length-map contents Num ∙ long }
