-- Constants, addresses of variables, moves and values from outside.
use Rattle.std.proofs.Common.{◌≡◌, ℕ, zero, suc, ◌<◌, Bool, true, false, not, ◌&&◌, ◌||◌, List, [], ◌∷◌, pos, Option, None, Some, ◌⊎◌, inl, inr, refl, sym, ◌∙◌, ap, subst, arith}
use Rattle.std.specs.Prelude.{IsSome, option_map}
use Rattle.std.specs.Option.{option_map_or}
use Rattle.std.proofs.lemmas.Bool.{false≢true}
use Rattle.std.proofs.lemmas.Option.{same_Some, none-some}
use Rattle.bytes_core.specs.declared.word.Word.{Word}
use Rattle.bytes_core.specs.declared.word.Word.TheVariants.{Plain, To}
use Rattle.bytes_core.specs.Release.{is_heap}
use Rattle.graph.specs.declared.object.Object.{Object}
use Rattle.graph.specs.declared.object.Shape.{Shape}
use Rattle.graph.specs.declared.object.Shape.TheVariants.{Region as RegionShape, Segment}
use Rattle.graph.specs.declared.parts.KeyedObject.{KeyedObject}
use Rattle.graph.specs.declared.parts.KeyedValue.{KeyedValue}
use Rattle.graph.specs.declared.parts.Named.{Named}
use Rattle.graph.specs.declared.parts.Parts.{Parts}
use Rattle.graph.specs.declared.value.Target.TheVariants.{Region}
use Rattle.graph.specs.declared.value.Value.{Value}
use Rattle.graph.specs.declared.value.Value.TheVariants.{Const, Address}
use Rattle.graph.specs.Maps.{object_at, value_at, storage_of}
use Rattle.graph.specs.Nodes.{is_region}
use Rattle.graph.specs.Sizes.{value_size, is_scalar_size, is_sized}
use Rattle.graph.specs.State.{State}
use Rattle.graph.specs.WellFormed.{is_storage, is_segment_storage, says_nothing, target_fits, leads_to_object, may_be_held}
use Rattle.graph.specs.Whole.{IsGraph}
use Rattle.graph.specs.Meaning.{block_word, first_of, Assignment}
use Rattle.graph.proofs.Found.{Holds, Holds-some, found-all}
use Rattle.graph.proofs.Sent.{passes-some}
use Rattle.graph.proofs.Tests.{and_right, and_both}
use Rattle.register_steps.specs.Gaining.{size_held}
use Rattle.register_steps.specs.Lines.{number_line, address_line, kept, input_line}
use Rattle.register_steps.specs.States.{GivesNumber, GivesAddress, GivesHeld, GivesInput}
use Rattle.register_steps.specs.Steps.{line_of_address, line_of_move}
use Rattle.register_steps.proofs.Gained.{IsRight}
use Rattle.register_steps.proofs.Right.{IsEntry, entry_word, entry_same, nothing_right, held_right}

pub number_right : (parts : Parts) (number size : ℕ) → is_sized (Const number size) ≡ true → IsRight parts (GivesNumber number) size (number_line number size)
number_right parts number size sized = record {
  may = and_both (is_sized (Const number size)) true sized refl;
  sized = refl;
  sound = λ state given word is meets gives. gives;
  exact = λ none state given word is meets has. has;
}

-- A value from outside.

zero_or_one : (number : ℕ) (word : Word) → word ≡ Plain number → number < 2 → (word ≡ Plain 0) ⊎ (word ≡ Plain 1)
zero_or_one zero word is small = inl is
zero_or_one (suc zero) word is small = inr is
zero_or_one (suc (suc number)) word is small = absurd (omega arith)

pub input_right : (parts : Parts) (size : ℕ) (truth : Bool) → is_scalar_size size ≡ true → IsRight parts (GivesInput size truth) size (input_line size truth)
input_right parts size true scalar = record {
  may = scalar;
  sized = refl;
  sound = λ state given word is meets gives. zero_or_one gives.number word gives.is gives.fits;
  exact = λ none state given word is meets has. by_case word has;
}
  where
    by_case : (word : Word) → (word ≡ Plain 0) ⊎ (word ≡ Plain 1) → {state : State} → GivesInput size true state word
    by_case word (inl same) = record { number = 0; is = same; fits = omega arith }
    by_case word (inr same) = record { number = 1; is = same; fits = omega arith }
input_right parts size false scalar = record {
  may = and_both (is_scalar_size size) true scalar refl;
  sized = refl;
  sound = λ state given word is meets gives. (gives.number, gives.is, gives.fits);
  exact = λ none state given word is meets (number, same, fits). record { number = number; is = same; fits = fits };
}

-- What another register holds.

pub size_is_held : (parts : Parts) (register : ℕ) (entry : KeyedValue) → IsEntry parts register entry → value_size entry.value ≡ size_held parts register
size_is_held parts register entry has =
    sym (ap (λ (o : Option ℕ). option_map_or (λ key. option_map_or value_size (value_at parts.values key) 0) o 0) has.held ∙ ap (λ (o : Option Value). option_map_or value_size o 0) has.is)

pub move_right : (parts : Parts) (from : ℕ) → IsGraph parts → IsRight parts (GivesHeld from) (size_held parts from) (line_of_move parts from)
move_right parts from graph = held_right parts graph from (GivesHeld from) (size_held parts from) (λ entry. kept entry.key) (λ state word gives. subst (λ (o : Option Word). IsSome o) (sym gives) refl)
    (λ entry has. record {
      may = ap (λ (o : Option Value). option_map_or may_be_held o false) has.is ∙ has.may;
      sized = record { value = entry.value; is = has.is; size_is = size_is_held parts from entry has };
      sound = λ state given word is meets gives. entry_same parts from entry state given word has meets gives;
      exact = λ none state given word is meets same. entry_word parts from entry state given has meets ∙ ap Some (sym same);
    })

-- The address of a variable.

-- storage of a variable is a region
region_fits : (shape : Shape) → is_region shape ≡ true → target_fits Region shape ≡ true
region_fits RegionShape is = refl
region_fits (Segment twofold head next prev back least next_value prev_value node) is = absurd (false≢true is)

storage_leads : (parts : Parts) (key : ℕ) → IsGraph parts → option_map_or is_storage (object_at parts.objects key) false ≡ true → leads_to_object parts (Address key (pos 0) Region) ≡ true
storage_leads parts key graph stored = ap (λ (o : Option Object). option_map_or (λ found. target_fits Region found.shape) o false) found.is ∙ region_fits found.item.shape (by_shape (is_region found.item.shape) alike)
  where
    found : Holds (object_at parts.objects key)
    found = Holds-some (object_at parts.objects key) (passes-some is_storage (object_at parts.objects key) stored)

    storage : is_storage found.item ≡ true
    storage = subst (λ (o : Option Object). option_map_or is_storage o false ≡ true) found.is stored

    alike : (is_region found.item.shape || is_segment_storage found.item) ≡ true
    alike = found-all (λ (entry : KeyedObject). entry.key) (λ entry. entry.object) (λ (object : Object). is_region object.shape || is_segment_storage object) parts.objects key found.item graph.well_formed.segments_are_allocated found.is

    not_heap : (b : Bool) → not b ≡ true → (b && says_nothing found.item.edges found.item.plane) ≡ true → ⊥
    not_heap true other heap = false≢true other
    not_heap false other heap = false≢true heap

    by_shape : (b : Bool) → (b || is_segment_storage found.item) ≡ true → b ≡ true
    by_shape true is = refl
    by_shape false is = absurd (not_heap (is_heap found.item.kind) (and_right found.item.live (not (is_heap found.item.kind)) storage)
        (and_right found.item.live (is_heap found.item.kind && says_nothing found.item.edges found.item.plane) is))

one_block : (number : ℕ) (blocks : List ℕ) → Some (number ∷ []) ≡ Some blocks → block_word (first_of blocks) (pos 0) ≡ To number (pos 0)
one_block number blocks same = ap (λ (bs : List ℕ). block_word (first_of bs) (pos 0)) (sym (same_Some _ _ same))

pub address_right : (parts : Parts) (variable : ℕ) → IsGraph parts → IsRight parts (GivesAddress variable) 8 (line_of_address parts variable)
address_right parts variable graph = by_object (storage_of parts.variables variable) refl
  where
    by_object : (found : Option ℕ) → storage_of parts.variables variable ≡ found → IsRight parts (GivesAddress variable) 8 (address_line found)
    by_object None is = nothing_right parts (GivesAddress variable) 8
        (λ state given word state_is meets gives. none-some (gives.block ∷ [])
        (sym (ap (option_map given.blocks) is) ∙ sym (meets.variables variable) ∙ ap (option_map (λ number. number ∷ [])) gives.stands))
    by_object (Some object) is = record {
      may = and_both (leads_to_object parts (Address object (pos 0) Region)) true
          (storage_leads parts object graph (found-all (λ (named : Named). named.variable) (λ named. named.object) (λ key. option_map_or is_storage (object_at parts.objects key) false) parts.variables variable object
          graph.well_formed.variables_have_storage is)) refl;
      sized = refl;
      sound = λ state given word state_is meets gives.
          gives.is ∙ sym (one_block gives.block (given.blocks object) (sym (ap (option_map (λ number. number ∷ [])) gives.stands) ∙ meets.variables variable ∙ ap (option_map given.blocks) is));
      exact = λ none state given word state_is meets has.
          by_block state given word has (state.variables variable) refl (meets.variables variable ∙ ap (option_map given.blocks) is);
    }
      where
        by_block : (state : State) (given : Assignment) (word : Word) → word ≡ block_word (first_of (given.blocks object)) (pos 0) → (found : Option ℕ) → state.variables variable ≡ found →
            option_map (λ number. number ∷ []) (state.variables variable) ≡ Some (given.blocks object) → GivesAddress variable state word
        by_block state given word has None stands same = absurd (none-some (given.blocks object) (sym (ap (option_map (λ number. number ∷ [])) stands) ∙ same))
        by_block state given word has (Some block) stands same =
            record { block = block; stands = stands; is = has ∙ one_block block (given.blocks object) (sym (ap (option_map (λ number. number ∷ [])) stands) ∙ same) }
