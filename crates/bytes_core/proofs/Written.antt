-- What stands in a memory after bytes are written where an access to them meets no fault.
use Rattle.std.proofs.Common.{◌≡◌, ◌≢◌, ℕ, zero, suc, ◌+◌, ◌≤◌, Bool, true, false, List, [], ◌∷◌, ◌++◌, length, take, drop, set, ℤ, pos, negsuc, nat_lt, nat_le, Option, None, Some, refl, sym, ap, ◌∙◌, subst, arith}
use Rattle.std.proofs.lemmas.Bool.{leb-true, le-leb}
use Rattle.std.proofs.lemmas.List.{length-set, length-take-le, length-append, length-drop, drop-drop, take_at, drop_at}
use Rattle.std.proofs.lemmas.Option.{none-some}
use Rattle.std.specs.List.{slice_get}
use Rattle.std.specs.Prelude.{if◌then◌else◌, ◌↔◌}
use Rattle.bytes_core.specs.declared.byte.Byte.{Byte}
use Rattle.bytes_core.specs.declared.word.Word.{Word}
use Rattle.bytes_core.specs.declared.word.Word.TheVariants.{Plain, To}
use Rattle.bytes_core.specs.declared.block.Block.{Block}
use Rattle.bytes_core.specs.Fault.{null_pointer_dereference, access_outside_object, access_to_dead_object, access_through_invalid_address}
use Rattle.bytes_core.specs.Laws.{LeadsTo, KeepsOthers, KeepsOtherBytes}
use Rattle.bytes_core.specs.Value.{word_bytes}
use Rattle.bytes_core.specs.Access.{block_fault, access_fault, bytes_at, block_bytes, overwritten, with_bytes, written_at, stored}

pub slice_get-set_same : (memory : List Block) (number : ℕ) (old new : Block) → slice_get memory number ≡ Some old → slice_get (set memory number new) number ≡ Some new
slice_get-set_same [] number old new stands = absurd (none-some old stands)
slice_get-set_same (first ∷ rest) zero old new stands = refl
slice_get-set_same (first ∷ rest) (suc number) old new stands = slice_get-set_same rest number old new stands

pub slice_get-set_other : (memory : List Block) (number other : ℕ) (new : Block) → other ≢ number → slice_get (set memory number new) other ≡ slice_get memory other
slice_get-set_other [] number other new differ = refl
slice_get-set_other (first ∷ rest) zero zero new differ = absurd (differ refl)
slice_get-set_other (first ∷ rest) zero (suc other) new differ = refl
slice_get-set_other (first ∷ rest) (suc number) zero new differ = refl
slice_get-set_other (first ∷ rest) (suc number) (suc other) new differ = slice_get-set_other rest number other new (λ same. differ (ap suc same))

some_of_both : (test : Bool) (one other : ℕ) → (if test then Some one else Some other) ≡ None → ⊥
some_of_both true one other none = none-some one (sym none)
some_of_both false one other none = none-some other (sym none)

block_fault-none : (live within : Bool) (one other : ℕ) → (if live then (if within then None else Some one) else Some other) ≡ None → (live ≡ true) × (within ≡ true)
block_fault-none true true one other none = (refl, refl)
block_fault-none true false one other none = absurd (none-some one (sym none))
block_fault-none false within one other none = absurd (none-some other (sym none))

LeadsTo-block : (memory : List Block) (number : ℕ) (offset : ℤ) (count : ℕ) (found : Option Block) → slice_get memory number ≡ found → block_fault found offset count ≡ None →
    LeadsTo memory (To number offset) count
LeadsTo-block memory number offset count None stands none = absurd (none-some access_to_dead_object (sym none))
LeadsTo-block memory number (pos from) count (Some block) stands none =
    let tests = block_fault-none block.live (nat_le (from + count) (length block.bytes)) access_outside_object access_to_dead_object none in
    record {
      number = number;
      from = from;
      block = block;
      is = refl;
      stands = stands;
      live = tests.0;
      room = leb-true (from + count) (length block.bytes) tests.1;
    }
LeadsTo-block memory number (negsuc before) count (Some block) stands none =
    let tests = block_fault-none block.live false access_outside_object access_to_dead_object none in absurd cc

pub LeadsTo-access : (memory : List Block) (at : Word) (count : ℕ) → access_fault memory at count ≡ None → LeadsTo memory at count
LeadsTo-access memory (Plain number) count none = absurd (some_of_both (nat_lt number 4096) null_pointer_dereference access_through_invalid_address none)
LeadsTo-access memory (To number offset) count none = LeadsTo-block memory number offset count (slice_get memory number) refl none

access_fault-LeadsTo : (memory : List Block) (at : Word) (count : ℕ) → LeadsTo memory at count → access_fault memory at count ≡ None
access_fault-LeadsTo memory at count leads =
    ap (λ (word : Word). access_fault memory word count) leads.is
    ∙ ap (λ (found : Option Block). block_fault found (pos leads.from) count) leads.stands
    ∙ rw (leads.live, le-leb (leads.from + count) (length leads.block.bytes) leads.room) refl

-- an access meets no fault just where there is room for it in a live block
pub accessible : (memory : List Block) (at : Word) (count : ℕ) → (access_fault memory at count ≡ None) ↔ LeadsTo memory at count
accessible memory at count = (LeadsTo-access memory at count, access_fault-LeadsTo memory at count)

-- a block with bytes written over its own
abbrev pub block_after : Block → ℕ → List Byte → Block
block_after block from written = record block { bytes = overwritten block.bytes from written }

-- a write changes the block accessed, and that alone
pub written_at-set : (memory : List Block) (at : Word) (written : List Byte) (count : ℕ) (access : LeadsTo memory at count) →
    written_at memory at written ≡ set memory access.number (block_after access.block access.from written)
written_at-set memory at written count access =
    ap (λ (word : Word). written_at memory word written) access.is
    ∙ ap (λ (found : Option Block). with_bytes memory access.number found access.from written) access.stands

-- the bytes written stand where they were written
pub overwritten-same : (bytes : List Byte) (from : ℕ) (written : List Byte) → from + length written ≤ length bytes →
    take (length written) (drop from (overwritten bytes from written)) ≡ written
overwritten-same bytes from written room =
    let rest = written ++ drop (from + length written) bytes in
    ap (take (length written)) (drop_at (take from bytes) rest from (length-take-le from bytes (omega arith)))
    ∙ take_at written (drop (from + length written) bytes) (length written) refl

-- the bytes written are those that stand there afterwards
pub bytes_at-written_at : (memory : List Block) (at : Word) (written : List Byte) → access_fault memory at (length written) ≡ None →
    bytes_at (written_at memory at written) at (length written) ≡ written
bytes_at-written_at memory at written none =
    let access = LeadsTo-access memory at (length written) none in
    let after = block_after access.block access.from written in
    let found : slice_get (written_at memory at written) access.number ≡ Some after =
    ap (λ (blocks : List Block). slice_get blocks access.number) (written_at-set memory at written (length written) access)
    ∙ slice_get-set_same memory access.number access.block after access.stands in
    ap (λ (word : Word). bytes_at (written_at memory at written) word (length written)) access.is
    ∙ ap (λ (block : Option Block). block_bytes block (pos access.from) (length written)) found
    ∙ overwritten-same access.block.bytes access.from written access.room

pub KeepsOthers-set : (memory : List Block) (number : ℕ) (block : Block) → KeepsOthers memory (set memory number block) number
KeepsOthers-set memory number block = record {
  blocks = length-set memory number block;
  others = λ other differ. slice_get-set_other memory number other block differ;
}

KeepsOthers-with_bytes : (memory : List Block) (number from : ℕ) (found : Option Block) (written : List Byte) → KeepsOthers memory (with_bytes memory number found from written) number
KeepsOthers-with_bytes memory number from None written = record { blocks = refl; others = λ other differ. refl }
KeepsOthers-with_bytes memory number from (Some block) written = KeepsOthers-set memory number (block_after block from written)

KeepsOthers-written_at : (memory : List Block) (number : ℕ) (offset : ℤ) (written : List Byte) → KeepsOthers memory (written_at memory (To number offset) written) number
KeepsOthers-written_at memory number (pos from) written = KeepsOthers-with_bytes memory number from (slice_get memory number) written
KeepsOthers-written_at memory number (negsuc before) written = record { blocks = refl; others = λ other differ. refl }

-- a store keeps the blocks that it is not made to
pub store_keeps_blocks : (memory : List Block) (number : ℕ) (offset : ℤ) (size : ℕ) (word : Word) → KeepsOthers memory (stored memory (To number offset) size word) number
store_keeps_blocks memory number offset size word = KeepsOthers-written_at memory number offset (take size (word_bytes word))

-- a write keeps the bytes before it and after it
pub KeepsOtherBytes-overwritten : (block : Block) (from : ℕ) (written : List Byte) → from + length written ≤ length block.bytes →
    KeepsOtherBytes block (block_after block from written) from (length written)
KeepsOtherBytes-overwritten block from written room =
    let front = take from block.bytes in
    let back = drop (from + length written) block.bytes in
    let front_size : length front ≡ from = length-take-le from block.bytes (omega arith) in
    record {
      base = refl;
      kind = refl;
      live = refl;
      size = simp (length-append, length-drop, front_size) (omega arith);
      before = take_at front (written ++ back) from front_size;
      after = sym (drop-drop (length written) from (front ++ (written ++ back)))
          ∙ ap (drop (length written)) (drop_at front (written ++ back) from front_size)
          ∙ drop_at written back (length written) refl;
    }

pub length-word_bytes : (word : Word) → length (word_bytes word) ≡ 8
length-word_bytes (Plain number) = refl
length-word_bytes (To block offset) = refl

-- a store writes as many bytes as its size
pub length-stored : (size : ℕ) (word : Word) → size ≤ 8 → length (take size (word_bytes word)) ≡ size
length-stored size word most = length-take-le size (word_bytes word) (rw (length-word_bytes word) most)

-- of the block that it is made to, a store keeps all bytes but its own
pub store_keeps_bytes : (memory : List Block) (number from size : ℕ) (word : Word) (block : Block) → size ≤ 8 → slice_get memory number ≡ Some block →
    from + size ≤ length block.bytes →
    (changed : Block) × (slice_get (stored memory (To number (pos from)) size word) number ≡ Some changed) × KeepsOtherBytes block changed from size
store_keeps_bytes memory number from size word block most stands room =
    let written = take size (word_bytes word) in
    let same_size = length-stored size word most in
    let changed = block_after block from written in
    let found : slice_get (stored memory (To number (pos from)) size word) number ≡ Some changed =
    ap (λ (old : Option Block). slice_get (with_bytes memory number old from written) number) stands
    ∙ slice_get-set_same memory number block changed stands in
    let kept : KeepsOtherBytes block changed from (length written) = KeepsOtherBytes-overwritten block from written (rw same_size room) in
    (changed, found, subst (λ (count : ℕ). KeepsOtherBytes block changed from count) same_size kept)
