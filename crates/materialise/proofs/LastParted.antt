-- Words and blocks of a graph, and those of the graph in which the last node of a segment is a region: values have their words in both.
use Rattle.std.proofs.Common.{◌≡◌, ℕ, ◌+◌, Bool, true, false, List, [], ◌∷◌, ◌++◌, length, nat_eq, ℤ, pos, Option, Some, sym, ◌∙◌, ap, subst, eqb-true, refl}
use Rattle.std.specs.Prelude.{IsSome, FitsSigned, if◌then◌else◌}
use Rattle.std.specs.Int.{w64}
use Rattle.std.specs.Option.{option_map_or}
use Rattle.std.proofs.lemmas.Bool.{false≢true}
use Rattle.bytes_core.specs.declared.word.Word.{Word}
use Rattle.bytes_core.specs.declared.word.Word.TheVariants.{To}
use Rattle.graph.specs.declared.object.Object.{Object}
use Rattle.graph.specs.declared.value.Target.{Target}
use Rattle.graph.specs.declared.value.Target.TheVariants.{Region, First, Last, Each}
use Rattle.graph.specs.declared.value.Value.{Value}
use Rattle.graph.specs.declared.value.Value.TheVariants.{Const, Number, Any, Address}
use Rattle.graph.specs.declared.parts.Parts.{Parts}
use Rattle.graph.specs.Closed.{IsClosed}
use Rattle.graph.specs.Maps.{object_at, value_at}
use Rattle.graph.specs.Nodes.{own_node}
use Rattle.graph.specs.SplitLaws.{with_after, ends_by}
use Rattle.graph.specs.WellFormed.{target_fits, leads_to_object}
use Rattle.graph.specs.Whole.{IsGraph}
use Rattle.graph.specs.Meaning.{end_word, last_of, Ends, ends_in, ends_of, no_ends, address_word, HasWord, maps_of, Assignment}
use Rattle.graph.proofs.Closed.{closed_of}
use Rattle.graph.proofs.Found.{Holds-some}
use Rattle.graph.proofs.Frames.{OnNamed-weaker}
use Rattle.graph.proofs.Sent.{passes-some}
use Rattle.graph.proofs.Split.{addresses_are_split}
use Rattle.changes.proofs.Value.{ends_agree}
use Rattle.materialise.specs.SplitFirst.{own_values, alone_key}
use Rattle.materialise.specs.SplitLast.{last_target}
use Rattle.materialise.proofs.FirstCase.{segment, IsSplit, object, there_other}
use Rattle.materialise.specs.WithOne.{HasOffset}
use Rattle.materialise.proofs.LastCase.{after, change, object_rest, object_other}

-- the last block of a segment is that of the new region, and the others are the rest; all else has the words and blocks that it had
pub record AreParted (parts : Parts) (key : ℕ) (split : IsSplit parts key) (given given' : Assignment) (rest : List ℕ) (number : ℕ) : Type 0 where
  pub whole : given.blocks key ≡ rest ++ number ∷ []
  pub alone_block : given'.blocks (length parts.objects) ≡ number ∷ []
  pub ahead : given'.blocks key ≡ rest
  pub others : (at : ℕ) → nat_eq at key ≡ false → nat_eq at (length parts.objects) ≡ false → given'.blocks at ≡ given.blocks at
  pub words : (at : ℕ) (value : Value) → value_at parts.values at ≡ Some value → given'.word at ≡ given.word at
  pub backward : given'.word (length parts.values + length (own_values key parts)) ≡ end_word (last_of rest) (given.word split.links.prev_value) split.links.back (pos split.links.back)
  pub after : given'.word (length parts.values + length (own_values key parts) + 1) ≡ To number (pos split.links.head)
  pub alone : (at : ℕ) (offset : ℤ) → value_at parts.values at ≡ Some (Address key offset Each) → given'.word (alone_key key parts at) ≡ To number offset

module _ (parts : Parts) (graph : IsGraph parts) (key : ℕ) (split : IsSplit parts key) (given given' : Assignment) (rest : List ℕ) (number : ℕ) (parted : AreParted parts key split given given' rest number) where
  abbrev behind : Parts
  behind = after parts graph key split

  abbrev region : ℕ
  region = length parts.objects

  closed : IsClosed (maps_of parts)
  closed = closed_of parts graph.well_formed

  pub words_there : (at : ℕ) → IsSome (value_at parts.values at) → given'.word at ≡ given.word at
  words_there at some = let held = Holds-some (value_at parts.values at) some in parted.words at held.item held.is

  -- Ends.

  abbrev pub ends_before : ℕ → Ends
  ends_before = ends_of (object_at parts.objects) given.word

  abbrev pub ends_behind : ℕ → Ends
  ends_behind = ends_of (object_at behind.objects) given'.word

  ends_other : (at : ℕ) (found : Object) → object_at parts.objects at ≡ Some found → nat_eq at key ≡ false → ends_behind at ≡ ends_before at
  ends_other at found stands other =
      ap (λ (o : Option Object). option_map_or (λ object. ends_in object.shape given'.word) o no_ends) (object_other parts graph key split at other (there_other parts graph key split at found stands) ∙ stands)
      ∙ ends_agree given.word given'.word found.shape (own_node found)
      (OnNamed-weaker (λ value. IsSome (value_at parts.values value)) (λ value. given'.word value ≡ given.word value) words_there found.shape (own_node found) (closed.objects at found stands))
      ∙ sym (ap (λ (o : Option Object). option_map_or (λ object. ends_in object.shape given.word) o no_ends) stands)

  prev_same : given'.word split.links.prev_value ≡ given.word split.links.prev_value
  prev_same = words_there split.links.prev_value (closed.objects key (object parts graph key split) split.stands).1.1

  ends_key : ends_before key ≡ ends_by split.links given.word
  ends_key = ap (λ (o : Option Object). option_map_or (λ object. ends_in object.shape given.word) o no_ends) split.stands

  ends_rest : ends_behind key ≡ with_after (ends_by split.links given.word) number
  ends_rest =
      ap (λ (o : Option Object). option_map_or (λ object. ends_in object.shape given'.word) o no_ends) (object_rest parts graph key split)
      ∙ ap (λ (w : Word). Ends-of w (given'.word split.links.prev_value)) parted.after
      ∙ ap (λ (w : Word). Ends-of (To number (pos split.links.head)) w) prev_same
    where
      Ends-of : Word → Word → Ends
      Ends-of after before = record { head = split.links.head; back = split.links.back; after = after; before = before }

  -- Values.

  abbrev become : Value → Value
  become = change parts graph key split

  module _ (count : ℕ) where
    -- a value stands for the same words
    abbrev pub Same : Value → Value → Type 0
    Same value after = (word : Word) → (HasWord count given.blocks ends_before value word → HasWord count given'.blocks ends_behind after word) × (HasWord count given'.blocks ends_behind after word → HasWord count given.blocks ends_before value word)

    by_word : (one other : ℕ) (offset : ℤ) (target target' : Target) → address_word target (given.blocks one) (ends_before one) offset ≡ address_word target' (given'.blocks other) (ends_behind other) offset →
        Same (Address one offset target) (Address other offset target')
    by_word one other offset target target' same word = (λ has. has ∙ same, λ has. has ∙ sym same)

    at_key : (offset : ℤ) (target : Target) → target_fits target (segment split.links split.node) ≡ true → FitsSigned w64 offset → Same (Address key offset target) (last_target region key target offset)
    at_key offset Region fits small = absurd (false≢true fits)
    at_key offset First fits small =
        by_word key key offset First First
        (ap (λ (blocks : List ℕ). address_word First blocks (ends_before key) offset) parted.whole
        ∙ ap (λ (ends : Ends). address_word First (rest ++ number ∷ []) ends offset) ends_key
        ∙ addresses_are_split.first (ends_by split.links given.word) rest number [] offset small
        ∙ sym (ap (λ (blocks : List ℕ). address_word First blocks (ends_behind key) offset) parted.ahead ∙ ap (λ (ends : Ends). address_word First rest ends offset) ends_rest))
    at_key offset Last fits small =
        by_word key region offset Last Region
        (ap (λ (blocks : List ℕ). address_word Last blocks (ends_before key) offset) parted.whole
        ∙ addresses_are_split.last_node (ends_before key) (ends_behind region) rest number offset
        ∙ sym (ap (λ (blocks : List ℕ). address_word Region blocks (ends_behind region) offset) parted.alone_block))
    at_key offset Each fits small = λ word. (λ has. has, λ has. has)

    at_other : (other : ℕ) (offset : ℤ) (target : Target) → nat_eq other key ≡ false → leads_to_object parts (Address other offset target) ≡ true → Same (Address other offset target) (Address other offset target)
    at_other other offset target differs leads =
        let found = Holds-some (object_at parts.objects other) (passes-some (λ found. target_fits target found.shape) (object_at parts.objects other) leads) in
        by_word other other offset target target
        (ap (λ (blocks : List ℕ). address_word target blocks (ends_before other) offset) (sym (parted.others other differs (there_other parts graph key split other found.item found.is)))
        ∙ ap (λ (ends : Ends). address_word target (given'.blocks other) ends offset) (sym (ends_other other found.item found.is differs)))

    pub same_word : (value : Value) → leads_to_object parts value ≡ true → HasOffset value → Same value (become value)
    same_word (Const constant size) leads fits = λ word. (λ has. has, λ has. has)
    same_word (Number size) leads fits = λ word. (λ has. has, λ has. has)
    same_word Any leads fits = λ word. (λ has. has, λ has. has)
    same_word (Address other offset target) leads fits = by_key (nat_eq other key) refl
      where
        by_key : (b : Bool) → nat_eq other key ≡ b → Same (Address other offset target) (if b then last_target region key target offset else Address other offset target)
        by_key false differs = at_other other offset target differs leads
        by_key true is =
            let same : key ≡ other = sym (eqb-true _ _ is) in
            let fit : target_fits target (segment split.links split.node) ≡ true =
            sym (ap (λ (o : Option Object). option_map_or (λ found. target_fits target found.shape) o false) (ap (object_at parts.objects) (sym same) ∙ split.stands)) ∙ leads in
            subst (λ (k : ℕ). Same (Address k offset target) (last_target region key target offset)) same (at_key offset target fit fits)
