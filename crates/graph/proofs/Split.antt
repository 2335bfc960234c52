-- Addresses of a segment of which nodes are split off.
use Rattle.std.proofs.Common.{◌≡◌, ℕ, suc, ◌-◌, ◌%◌, ◌^◌, ◌<◌, List, [], ◌∷◌, ◌++◌, Option, Some, refl, sym, ◌∙◌, ap, arith}
use Rattle.std.specs.Prelude.{ℤ, pos, negsuc, ◌+ℤ◌, ◌-ℤ◌, FitsSigned}
use Rattle.std.specs.Int.{w64, cast_signed}
use Rattle.std.specs.Option.{option_map_or}
use Rattle.std.proofs.lemmas.Int.{ints, to_z_pos}
use Rattle.std.proofs.lemmas.Option.{none-some, same_Some}
use Rattle.std.proofs.Math.Facts.{to_z-neg}
use Rattle.bytes_core.specs.declared.word.Word.{Word}
use Rattle.bytes_core.specs.declared.word.Word.TheVariants.{To}
use Rattle.bytes_core.specs.Value.{wrapped, moved}
use Rattle.graph.specs.declared.object.Links.{Links}
use Rattle.graph.specs.declared.object.Object.{Object}
use Rattle.graph.specs.declared.object.Shape.{Shape}
use Rattle.graph.specs.declared.object.Shape.TheVariants.{Region as RegionShape, Segment}
use Rattle.graph.specs.declared.value.Target.{Target}
use Rattle.graph.specs.declared.value.Target.TheVariants.{Region, First, Last}
use Rattle.graph.specs.declared.value.Value.TheVariants.{Address}
use Rattle.graph.specs.Maps.{object_at, value_at}
use Rattle.graph.specs.Meaning.{last_or, end_word, Ends, ends_in, ends_of, no_ends, address_word}
use Rattle.graph.specs.Nodes.{links_in}
use Rattle.graph.specs.SplitLaws.{with_after, with_before, AddressesAreSplit, ends_by, SegmentsHaveSplitAddresses}
use Rattle.graph.proofs.SegmentNodes.{last_behind}

-- an offset of 64 bits is what it is read as
read_back : (offset : ℤ) → FitsSigned w64 offset → cast_signed w64 (wrapped offset) ≡ offset
read_back (pos n) fits = let small : n < 2 ^ 63 = fits.sfits in ap (cast_signed w64) (let e : n % 2 ^ 64 ≡ n = omega arith in e) ∙ to_z_pos w64 n fits.sfits
read_back (negsuc k) fits = let small : k < 2 ^ 63 = fits.sfits in ap (cast_signed w64) (let e : 2 ^ 64 - suc (k % 2 ^ 64) ≡ 2 ^ 64 - suc k = omega arith in e) ∙ to_z-neg w64 k fits.sfits

-- an address moved from the place of a link to an offset
pub moved_to : (block place : ℕ) (offset : ℤ) → FitsSigned w64 offset → moved (To block (pos place)) (offset -ℤ pos place) ≡ To block offset
moved_to block place offset fits =
    let there : pos place +ℤ (offset -ℤ pos place) ≡ offset = omega (arith, ints) in
    ap (λ (z : ℤ). To block (cast_signed w64 (wrapped z))) there ∙ ap (To block) (read_back offset fits)

first_split : (ends : Ends) (front : List ℕ) (number : ℕ) (rest : List ℕ) (offset : ℤ) → FitsSigned w64 offset →
    address_word First (front ++ number ∷ rest) ends offset ≡ address_word First front (with_after ends number) offset
first_split ends [] number rest offset fits = sym (moved_to number ends.head offset fits)
first_split ends (first ∷ front) number rest offset fits = refl

last_or-appended : (number : ℕ) (front : List ℕ) (next : ℕ) (rest : List ℕ) → last_or number (front ++ next ∷ rest) ≡ last_or next rest
last_or-appended number [] next rest = refl
last_or-appended number (first ∷ front) next rest = last_or-appended first front next rest

last_or-alone : (number : ℕ) (front : List ℕ) → last_or number (front ++ []) ≡ last_or number front
last_or-alone number [] = refl
last_or-alone number (first ∷ front) = last_or-alone first front

last_split : (ends : Ends) (number : ℕ) (front rest : List ℕ) (offset : ℤ) → FitsSigned w64 offset →
    address_word Last (number ∷ front ++ rest) ends offset ≡ address_word Last rest (with_before ends (last_or number front)) offset
last_split ends number front [] offset fits = ap (λ (n : ℕ). To n offset) (last_or-alone number front) ∙ sym (moved_to (last_or number front) ends.back offset fits)
last_split ends number front (next ∷ rest) offset fits = ap (λ (n : ℕ). To n offset) (last_or-appended number front next rest)

last_node : (ends other : Ends) (front : List ℕ) (number : ℕ) (offset : ℤ) → address_word Last (front ++ number ∷ []) ends offset ≡ address_word Region (number ∷ []) other offset
last_node ends other front number offset = ap (λ (o : Option ℕ). end_word o ends.before ends.back offset) (last_behind front number)

pub addresses_are_split : AddressesAreSplit
addresses_are_split = record { first = first_split; last = last_split; first_node = λ ends other number rest offset. refl; last_node = last_node }

ends_are : (shape : Shape) (links : Links) (word : ℕ → Word) → links_in shape ≡ Some links → ends_in shape word ≡ ends_by links word
ends_are RegionShape links word is = absurd (none-some links is)
ends_are (Segment twofold head next prev back least next_value prev_value node) links word is = ap (λ (l : Links). ends_by l word) (same_Some _ _ is)

pub segments_have_split_addresses : SegmentsHaveSplitAddresses
segments_have_split_addresses parts state given key object links meets stands linked = record {
  of_first = λ value offset number rest other is blocks. word_of value offset First (number ∷ rest) is blocks;
  behind_first = λ value offset number rest is blocks fits. word_of value offset Last (number ∷ rest) is blocks ∙ last_split (ends_by links given.word) number [] rest offset fits;
  of_last = λ value offset front number other is blocks. word_of value offset Last (front ++ number ∷ []) is blocks ∙ last_node (ends_by links given.word) other front number offset;
  before_last = λ value offset front number is blocks fits. word_of value offset First (front ++ number ∷ []) is blocks ∙ first_split (ends_by links given.word) front number [] offset fits;
}
  where
    ends : ends_of (object_at parts.objects) given.word key ≡ ends_by links given.word
    ends = ap (λ (o : Option Object). option_map_or (λ object. ends_in object.shape given.word) o no_ends) stands ∙ ends_are object.shape links given.word linked

    word_of : (value : ℕ) (offset : ℤ) (target : Target) (blocks : List ℕ) → value_at parts.values value ≡ Some (Address key offset target) → given.blocks key ≡ blocks →
        given.word value ≡ address_word target blocks (ends_by links given.word) offset
    word_of value offset target blocks is same =
        meets.values value (Address key offset target) is
        ∙ ap (λ (bs : List ℕ). address_word target bs (ends_of (object_at parts.objects) given.word key) offset) same
        ∙ ap (λ (e : Ends). address_word target blocks e offset) ends
