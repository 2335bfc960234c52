-- What a fill and a copy leave where they were made to.
use Rattle.std.proofs.Common.{◌≡◌, ℕ, zero, suc, Bool, ◌&&◌, List, [], ◌∷◌, length, drop, ℤ, pos, negsuc, Option, None, Some, refl, sym, ap, ◌∙◌, subst, arith}
use Rattle.std.proofs.lemmas.List.{length-take-le, length-drop, length-replicate}
use Rattle.std.proofs.lemmas.Option.{none-some}
use Rattle.std.specs.List.{slice_get}
use Rattle.std.specs.Prelude.{if◌then◌else◌, replicate}
use Rattle.bytes_core.specs.declared.byte.Byte.{Byte}
use Rattle.bytes_core.specs.declared.byte.Byte.TheVariants.{Num}
use Rattle.bytes_core.specs.declared.word.Word.{Word}
use Rattle.bytes_core.specs.declared.word.Word.TheVariants.{Plain, To}
use Rattle.bytes_core.specs.declared.block.Block.{Block}
use Rattle.bytes_core.specs.Fault.{overlapping_copy}
use Rattle.bytes_core.specs.Access.{access_fault, block_bytes, bytes_at, written_at, range_fault, filled}
use Rattle.bytes_core.specs.Copying.{share_byte, first_fault, copy_fault, copied}
use Rattle.bytes_core.proofs.Written.{LeadsTo-access, bytes_at-written_at}

block_bytes-none : (found : Option Block) (offset : ℤ) → block_bytes found offset 0 ≡ []
block_bytes-none None offset = refl
block_bytes-none (Some block) (pos from) = refl
block_bytes-none (Some block) (negsuc before) = refl

bytes_at-none : (memory : List Block) (at : Word) → bytes_at memory at 0 ≡ []
bytes_at-none memory (Plain number) = refl
bytes_at-none memory (To block offset) = block_bytes-none (slice_get memory block) offset

-- an access has as many bytes as it asks for
length-bytes_at : (memory : List Block) (at : Word) (count : ℕ) → access_fault memory at count ≡ None → length (bytes_at memory at count) ≡ count
length-bytes_at memory at count none =
    let leads = LeadsTo-access memory at count none in
    ap (λ (word : Word). length (bytes_at memory word count)) leads.is
    ∙ ap (λ (found : Option Block). length (block_bytes found (pos leads.from) count)) leads.stands
    ∙ length-take-le count (drop leads.from leads.block.bytes) (let room = leads.room in rw (length-drop leads.from leads.block.bytes) (omega arith))

-- bytes written to a range without fault stand there
bytes_at-range : (memory : List Block) (at : Word) (count : ℕ) (written : List Byte) → length written ≡ count → range_fault memory at count ≡ None →
    bytes_at (written_at memory at written) at count ≡ written
bytes_at-range memory at zero written size none = bytes_at-none (written_at memory at written) at ∙ sym (empty written size)
  where
    empty : (bytes : List Byte) → length bytes ≡ 0 → bytes ≡ []
    empty [] none = refl
    empty (byte ∷ rest) some = absurd (omega arith)
bytes_at-range memory at (suc count) written size none =
    subst (λ (many : ℕ). bytes_at (written_at memory at written) at many ≡ written) size
    (bytes_at-written_at memory at written (ap (access_fault memory at) size ∙ none))

-- a fill leaves its number in each byte
pub fill_leaves : (memory : List Block) (at : Word) (number count : ℕ) → range_fault memory at count ≡ None →
    bytes_at (filled memory at number count) at count ≡ replicate count (Num number)
fill_leaves memory at number count none = bytes_at-range memory at count (replicate count (Num number)) (length-replicate count (Num number)) none

first_fault-none : (first later : Option ℕ) → first_fault first later ≡ None → (first ≡ None) × (later ≡ None)
first_fault-none None later none = (refl, none)
first_fault-none (Some kind) later none = absurd (none-some kind (sym none))

length-range : (memory : List Block) (at : Word) (count : ℕ) → range_fault memory at count ≡ None → length (bytes_at memory at count) ≡ count
length-range memory at zero none = ap length (bytes_at-none memory at)
length-range memory at (suc count) none = length-bytes_at memory at (suc count) none

-- a copy leaves the bytes of its source, as they were before it, in its target
pub copy_leaves : (memory : List Block) (to from : Word) (count : ℕ) (disjoint : Bool) → copy_fault memory to from count disjoint ≡ None →
    bytes_at (copied memory to from count) to count ≡ bytes_at memory from count
copy_leaves memory to from count disjoint none =
    let overlap = if disjoint && share_byte to from count then Some overlapping_copy else None in
    let source = first_fault-none (range_fault memory from count) (first_fault (range_fault memory to count) overlap) none in
    let target = first_fault-none (range_fault memory to count) overlap source.1 in
    bytes_at-range memory to count (bytes_at memory from count) (length-range memory from count source.0) target.0
