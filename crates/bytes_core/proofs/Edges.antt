-- The worked examples at the edges.
use Rattle.std.proofs.Common.{ℕ, zero, suc, ◌<◌, Bool, true, false, [], ◌∷◌, refl, arith}
use Rattle.std.specs.Prelude.{IsTrue, negsuc, ◌-◌, ◌^◌, slice_index_or}
use Rattle.std.specs.List.{All}
use Rattle.std.proofs.lemmas.Bool.{false≢true}
use Rattle.bytes_core.specs.declared.byte.Byte.{Byte}
use Rattle.bytes_core.specs.declared.byte.Byte.TheVariants.{Num, Part}
use Rattle.bytes_core.specs.declared.block.Block.{Block}
use Rattle.bytes_core.specs.Placement.{is_placed, are_compatible}
use Rattle.bytes_core.specs.Valid.{NamesBelow, IsMemory}
use Rattle.bytes_core.specs.Edges.{heap_block, pair, AreMemories, ArePlaces, AreAddresses, AreRanges, AreFrees}

-- what a pair needs to be a memory
pair_is : (base : ℕ) (live : Bool) (byte : Byte) → IsTrue (is_placed (heap_block base live (byte ∷ []))) →
    IsTrue (are_compatible (heap_block 16 true (byte ∷ [])) (heap_block base live (byte ∷ []))) → NamesBelow 2 byte → IsMemory (pair base live byte)
pair_is base live byte place apart name = record {
  placed = both;
  apart = ordered;
  named = names;
}
  where
    both : (k : ℕ) (d : Block) → k < 2 → IsTrue (is_placed (slice_index_or (pair base live byte) k d))
    both zero d few = refl
    both (suc zero) d few = place
    both (suc (suc k)) d few = absurd (omega arith)

    ordered : (i j : ℕ) (d : Block) → i < j → j < 2 → IsTrue (are_compatible (slice_index_or (pair base live byte) i d) (slice_index_or (pair base live byte) j d))
    ordered i zero d below few = absurd (omega arith)
    ordered zero (suc zero) d below few = apart
    ordered (suc i) (suc zero) d below few = absurd (omega arith)
    ordered i (suc (suc j)) d below few = absurd (omega arith)

    single : (k : ℕ) (d : Byte) → k < 1 → NamesBelow 2 (slice_index_or (byte ∷ []) k d)
    single zero d few = name
    single (suc k) d few = absurd (omega arith)

    names : (k : ℕ) (d : Block) → k < 2 → All (NamesBelow 2) (slice_index_or (pair base live byte) k d).bytes
    names zero d few = single
    names (suc zero) d few = single
    names (suc (suc k)) d few = absurd (omega arith)

pub memories : AreMemories
memories = record {
  no_blocks = record { placed = λ k d few. absurd (omega arith); apart = λ i j d below few. absurd (omega arith); named = λ k d few. absurd (omega arith) };
  beside = pair_is 32 true (Num 0) refl refl tt;
  over_live = λ it. false≢true (it.apart 0 1 (heap_block 0 false []) (omega arith) (omega arith));
  over_dead = pair_is 16 false (Num 0) refl refl tt;
  into_next = λ it. false≢true (it.apart 0 1 (heap_block 0 false []) (omega arith) (omega arith));
  unaligned = λ it. false≢true (it.placed 1 (heap_block 0 false []) (omega arith));
  at_zero = λ it. false≢true (it.placed 1 (heap_block 0 false []) (omega arith));
  dead_at_zero = λ it. false≢true (it.placed 1 (heap_block 0 false []) (omega arith));
  last = pair_is (2 ^ 47 - 16) true (Num 0) refl refl tt;
  past_last = λ it. false≢true (it.placed 1 (heap_block 0 false []) (omega arith));
  named = pair_is 32 true (Part 1 (negsuc 0) 7) refl refl (omega arith, omega arith);
  not_named = λ it. let few = it.named 0 (heap_block 0 false []) (omega arith) 0 (Num 0) (omega arith) in absurd (omega (arith, few));
  ninth_part = λ it. let few = it.named 0 (heap_block 0 false []) (omega arith) 0 (Num 0) (omega arith) in absurd (omega (arith, few));
}

pub places : ArePlaces
places = record {
  first = refl;
  at_zero = refl;
  unaligned = refl;
  odd = refl;
  unaligned_static = refl;
  behind = refl;
  over_end = refl;
  before = refl;
  over_begin = refl;
}

pub addresses : AreAddresses
addresses = record {
  end_of_other = refl;
  beside_other = refl;
  before_other = refl;
  other_offset = refl;
  same_offset = refl;
  same_number = refl;
  other_number = refl;
  null = refl;
  below_null = refl;
  moved_number = refl;
  moved_back = refl;
  moved_below_zero = refl;
  moved_past_last = refl;
  moved_to_last = refl;
  moved_pointer = refl;
  moved_before = refl;
  moved_below_least = refl;
  inside_first = refl;
  inside_before = refl;
  inside_empty = refl;
}

pub ranges : AreRanges
ranges = record {
  whole_block = refl;
  one_byte_more = refl;
  one_byte_on = refl;
  dead_past_end = refl;
  dead_before_start = refl;
  fill_whole = refl;
  fill_past = refl;
  fill_dead = refl;
  fill_nothing_past = refl;
  fill_nothing_dead = refl;
  filled_end = refl;
  copy_whole = refl;
  copy_past_target = refl;
  copy_past_source = refl;
  source_first = refl;
  target_second = refl;
  target_before_overlap = refl;
  copy_nothing = refl;
  overlap_above = refl;
  overlap_below = refl;
  overlap_same = refl;
  touch_above = refl;
  touch_below = refl;
  other_block = refl;
  numbers_share_nothing = refl;
  nothing_is_shared = refl;
  copied_up = refl;
  copied_down = refl;
}

pub frees : AreFrees
frees = record {
  live_local = refl;
  dead_local = refl;
  live_static = refl;
  dead_static = refl;
  empty_heap = refl;
  dead_heap = refl;
  inside_dead = refl;
  before_live = refl;
  null = refl;
  number = refl;
  address = refl;
}
