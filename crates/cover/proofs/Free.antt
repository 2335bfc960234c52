-- Numbers for the values of the wider graph with which nothing is paired: none makes two values of an unequal pair equal.
use Rattle.std.proofs.Common.{◌≡◌, ◌≢◌, ℕ, ◌^◌, ◌<◌, Option, None, Some, refl, sym, ◌∙◌, ap, subst, ◌⊎◌, inl, inr, true, false}
use Rattle.std.specs.Prelude.{IsTrue, slice_get}
use Rattle.std.proofs.lemmas.Bool.{false≢true}
use Rattle.std.proofs.lemmas.Option.{same_Some, none-some}
use Rattle.bytes_core.specs.declared.word.Word.{Word}
use Rattle.bytes_core.specs.declared.word.Word.TheVariants.{Plain, To}
use Rattle.graph.specs.declared.value.Value.{Value}
use Rattle.graph.specs.declared.value.Value.TheVariants.{Const, Number, Any, Address}
use Rattle.graph.specs.declared.parts.Pair.{Pair}
use Rattle.graph.specs.declared.parts.Parts.{Parts}
use Rattle.graph.specs.Maps.{value_at}
use Rattle.graph.specs.Numbers.{AreNumbers, AreSomeNumbers, AreAmong}
use Rattle.graph.specs.WellFormed.{IsWellFormed, is_within_limits}
use Rattle.graph.specs.State.{State}
use Rattle.graph.specs.Meaning.{maps_of, Assignment, Meets, StandsFor}
use Rattle.graph.proofs.Completed.{IsWideNumber, pair_at, numbers_are_completed}
use Rattle.cover.specs.declared.content.Content.{Content}
use Rattle.cover.specs.declared.content.Content.TheVariants.{Fixed, Leads, Kept}
use Rattle.cover.specs.Covers.{content, Pairing, Fits, known, known_of, IsApart, AreApart, DifferFixed, IsPairOf, IsCover, Covers}
use Rattle.cover.proofs.Stood.{word_of, word_as, blocks, beyond, ends, word, content_word, stood, chosen_given}

abbrev number_in : Word → ℕ
number_in (Plain number) = number
number_in (To block offset) = 0

-- the number of a value of a pair, where it is known
abbrev number_known : (Content → Word) → Option Content → Option Value → Option ℕ
number_known word paired None = None
number_known word paired (Some (Const number size)) = Some number
number_known word None (Some (Number size)) = None
number_known word (Some content) (Some (Number size)) = Some (number_in (word content))
number_known word paired (Some Any) = None
number_known word paired (Some (Address object offset target)) = None

plain_same : (one other : ℕ) → Plain one ≡ Plain other → one ≡ other
plain_same one other equal = ap number_in equal

neither : {A : Type 0} → (false ≡ true) ⊎ (false ≡ true) → A
neither (inl h) = absurd (false≢true h)
neither (inr h) = absurd (false≢true h)

module _ (wide narrow : Parts) (wide_is : IsWellFormed wide) (limits : IsTrue (is_within_limits wide)) (covers : Covers wide narrow) (state : State) (given : Assignment) (meets : Meets (maps_of narrow) state given) where
  abbrev p : Pairing
  p = covers.pairing

  cover : IsCover (maps_of wide) (maps_of narrow) p
  cover = covers.cover

  abbrev word_in : Content → Word
  word_in content = word_of (ends wide narrow wide_is covers state given meets) given content

  abbrev known_number : ℕ → Option ℕ
  known_number key = number_known word_in (p.value key) (value_at wide.values key)

  -- what a number is paired with is a plain number that fits its size
  paired_number : (key size : ℕ) (content : Content) → value_at wide.values key ≡ Some (Number size) → p.value key ≡ Some content →
      (word_in content ≡ Plain (number_in (word_in content))) × (number_in (word_in content) < 256 ^ size)
  paired_number key size content is paired = by_content content fits
    where
      fits : Fits (maps_of narrow) p (Number size) content
      fits = let at = cover.values key content paired in subst (λ (v : Value). Fits (maps_of narrow) p v content) (same_Some _ _ (sym at.stands ∙ is)) at.fits

      by_content : (content : Content) → Fits (maps_of narrow) p (Number size) content → (word_in content ≡ Plain (number_in (word_in content))) × (number_in (word_in content) < 256 ^ size)
      by_content (Fixed number other) fits = (refl, fits.1)
      by_content (Leads object offset target) fits = absurd fits
      by_content (Kept other) fits =
          let has = meets.values other (Number size) fits in
          (has.1 ∙ ap Plain (sym (ap number_in has.1)), subst (λ (n : ℕ). n < 256 ^ size) (sym (ap number_in has.1)) has.2)

  -- a number that is known is that of what is known of the value
  record IsKnown (key number : ℕ) : Type 0 where
    content : Content
    is : known (maps_of wide) p key ≡ Some content
    word : word_in content ≡ Plain number

  known_is : (key : ℕ) (number : ℕ) → known_number key ≡ Some number → IsKnown key number
  known_is key number is = by_value (value_at wide.values key) refl is
    where
      by_paired : (size : ℕ) (paired : Option Content) → value_at wide.values key ≡ Some (Number size) → p.value key ≡ paired → number_known word_in paired (Some (Number size)) ≡ Some number → IsKnown key number
      by_paired size None stands paired is = absurd (none-some number is)
      by_paired size (Some content) stands paired is = record {
        content = content;
        is = ap (λ (found : Option Value). known_of found (p.value key)) stands ∙ paired;
        word = (paired_number key size content stands paired).0 ∙ ap Plain (same_Some _ _ is);
      }

      by_value : (found : Option Value) → value_at wide.values key ≡ found → number_known word_in (p.value key) found ≡ Some number → IsKnown key number
      by_value None stands is = absurd (none-some number is)
      by_value (Some (Const constant size)) stands is = record {
        content = Fixed constant size;
        is = ap (λ (found : Option Value). known_of found (p.value key)) stands;
        word = ap Plain (same_Some _ _ is);
      }
      by_value (Some (Number size)) stands is = by_paired size (p.value key) stands refl is
      by_value (Some Any) stands is = absurd (none-some number is)
      by_value (Some (Address object offset target)) stands is = absurd (none-some number is)

  -- contents that are apart have words that differ
  apart : (one other : Content) → AreApart (maps_of narrow) one other → word_in one ≢ word_in other
  apart one other (inl (place, pair, is, either)) equal = by_side either
    where
      differ : given.word pair.left ≢ given.word pair.right
      differ = meets.unequal place pair is

      word_at : (key : ℕ) → word_in (content (maps_of narrow) key) ≡ given.word key
      word_at key = content_word wide narrow wide_is covers state given meets key

      by_side : IsPairOf (maps_of narrow) one other pair → ⊥
      by_side (inl (left, right)) = differ (sym (word_at pair.left) ∙ sym (ap word_in left) ∙ equal ∙ ap word_in right ∙ word_at pair.right)
      by_side (inr (left, right)) = differ (sym (word_at pair.left) ∙ sym (ap word_in right) ∙ sym equal ∙ ap word_in left ∙ word_at pair.right)
  apart one other (inr differ) equal = fixed one other differ equal
    where
      fixed : (one other : Content) → DifferFixed one other → word_in one ≡ word_in other → ⊥
      fixed (Fixed m size) (Fixed n size') differ equal = differ (plain_same m n equal)
      fixed (Fixed m size) (Leads object offset target) differ equal = absurd differ
      fixed (Fixed m size) (Kept key) differ equal = absurd differ
      fixed (Leads object offset target) other differ equal = absurd differ
      fixed (Kept key) other differ equal = absurd differ

  some : AreSomeNumbers wide known_number
  some = record {
    constants = λ key constant size is. ap (number_known word_in (p.value key)) is;
    fits = fits;
    unequal = unequal;
  }
    where
      fits : (key size number : ℕ) → value_at wide.values key ≡ Some (Number size) → known_number key ≡ Some number → number < 256 ^ size
      fits key size number is known = by_paired (p.value key) refl (sym (ap (number_known word_in (p.value key)) is) ∙ known)
        where
          by_paired : (paired : Option Content) → p.value key ≡ paired → number_known word_in paired (Some (Number size)) ≡ Some number → number < 256 ^ size
          by_paired None paired known = absurd (none-some number known)
          by_paired (Some content) paired known = subst (λ (n : ℕ). n < 256 ^ size) (same_Some _ _ known) (paired_number key size content is paired).1

      unequal : (place : ℕ) (pair : Pair) (one other : ℕ) → slice_get wide.unequal place ≡ Some pair → known_number pair.left ≡ Some one → known_number pair.right ≡ Some other → one ≢ other
      unequal place pair one other stands left right equal =
          let one_is = known_is pair.left one left in
          let other_is = known_is pair.right other right in
          let are = subst (λ (o : Option Content). IsApart (maps_of narrow) o (known (maps_of wide) p pair.right)) one_is.is (cover.unequal place pair stands) in
          apart one_is.content other_is.content (subst (λ (o : Option Content). IsApart (maps_of narrow) (Some one_is.content) o) other_is.is are)
          (one_is.word ∙ ap Plain equal ∙ sym other_is.word)

  module _ (number : ℕ → ℕ) (numbers : AreNumbers wide number) (among : AreAmong known_number number) where
    abbrev words : ℕ → Word
    words = word wide narrow wide_is covers state given meets number

    abbrev word_by : ℕ → Option Content → Option Value → Word
    word_by key paired found = word_as (ends wide narrow wide_is covers state given meets) given (blocks wide narrow wide_is covers state given meets) (beyond wide narrow wide_is covers state given meets) (number key) paired found

    -- a value of a pair has the word of its number
    number_word : (key : ℕ) (value : Value) → value_at wide.values key ≡ Some value → IsWideNumber value → words key ≡ Plain (number key)
    number_word key (Const constant size) is wide_number = ap (word_by key (p.value key)) is ∙ ap Plain (sym (numbers.constants key constant size is))
    number_word key (Number size) is wide_number = ap (word_by key (p.value key)) is ∙ by_paired (p.value key) refl
      where
        by_paired : (paired : Option Content) → p.value key ≡ paired → word_by key paired (Some (Number size)) ≡ Plain (number key)
        by_paired None paired = refl
        by_paired (Some content) paired =
            (paired_number key size content is paired).0
            ∙ ap Plain (sym (among key (number_in (word_in content)) (ap (number_known word_in (p.value key)) is ∙ ap (λ (o : Option Content). number_known word_in o (Some (Number size))) paired)))
    number_word key Any is wide_number = neither wide_number
    number_word key (Address object offset target) is wide_number = neither wide_number

    differ : (place : ℕ) (pair : Pair) → slice_get wide.unequal place ≡ Some pair → words pair.left ≢ words pair.right
    differ place pair stands equal =
        let is = pair_at wide wide_is place pair stands in
        numbers.unequal place pair stands
        (plain_same _ _ (sym (number_word pair.left is.one is.one_is is.numbers.0) ∙ equal ∙ number_word pair.right is.next is.next_is is.numbers.1))

    covers-with : StandsFor wide state
    covers-with = record {
      given = chosen_given wide narrow wide_is covers state given meets number;
      meets = stood wide narrow wide_is covers state given meets number (λ key size is alone. numbers.fits key size is) differ;
    }

  pub covers-stands : StandsFor wide state
  covers-stands = let found = numbers_are_completed wide known_number wide_is limits some in covers-with found.0 found.1 found.2
