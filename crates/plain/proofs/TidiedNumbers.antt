-- What a graph shows it shows with other keys, one to one.
use Rattle.std.proofs.Common.{◌≡◌, ℕ, ◌+◌, ◌<◌, Bool, true, false, ◌&&◌, not, List, [], ◌∷◌, map, Option, None, Some, refl, sym, ◌∙◌, ap, subst}
use Rattle.std.specs.Prelude.{get_or, nat_le, nat_lt, option_map, if◌then◌else◌}
use Rattle.std.specs.List.{list_all}
use Rattle.std.specs.Option.{option_map_or}
use Rattle.std.proofs.lemmas.Option.{same_Some, none-some}
use Rattle.graph.specs.declared.edges.HasValue.{HasValue}
use Rattle.graph.specs.declared.object.Object.{Object}
use Rattle.graph.specs.declared.parts.Held.{Held}
use Rattle.graph.specs.declared.parts.KeyedObject.{KeyedObject}
use Rattle.graph.specs.declared.parts.Parts.{Parts}
use Rattle.graph.specs.declared.value.Value.{Value}
use Rattle.graph.specs.declared.value.Value.TheVariants.{Const, Number, Any, Address}
use Rattle.graph.specs.Choices.{is_free}
use Rattle.graph.specs.Laws.{IsRenaming}
use Rattle.graph.specs.Maps.{object_at, value_at, held_by}
use Rattle.graph.specs.Renaming.{renamed, renamed_edge, renamed_object, renamed_value}
use Rattle.graph.specs.State.{State}
use Rattle.graph.specs.WellFormed.{IsWellFormed, passes_at}
use Rattle.graph.proofs.Found.{Holds-some, IsSome-holds, WasFound, WasFound-renamed, found-changed}
use Rattle.graph.proofs.Renamed.{renaming_hands_on}
use Rattle.graph.proofs.Sent.{passes-some, value_sent}
use Rattle.graph.proofs.Tests.{and_left, and_right, and_both}
use Rattle.plain.specs.Marks.{Mark, Piece, Marks, is_in_range}
use Rattle.plain.specs.Shown.{is_sure, is_told, may_show, bare_mark, mark_in, mark_at, is_loose_at, IsShownBy, IsShown}

-- edges whose values have other keys lie where they lay
marks_renamed : (values : ℕ → ℕ) (edges : List HasValue) (place : ℕ) (bare : Mark) → mark_in (map (renamed_edge values) edges) place bare ≡ mark_in edges place bare
marks_renamed values [] place bare = refl
marks_renamed values (edge ∷ rest) place bare =
    ap (λ (mark : Mark). if is_in_range edge.at edge.size place then Piece edge.at edge.size else mark) (marks_renamed values rest place bare)

free_renamed : (values : ℕ → ℕ) (edges : List HasValue) (place : ℕ) → is_free (map (renamed_edge values) edges) place ≡ is_free edges place
free_renamed values [] place = refl
free_renamed values (edge ∷ rest) place = ap (λ (b : Bool). not (nat_le edge.at place && nat_lt place (edge.at + edge.size)) && b) (free_renamed values rest place)

mark_renamed : (values : ℕ → ℕ) (object : Object) (place : ℕ) → mark_at (renamed_object values object) place ≡ mark_at object place
mark_renamed values object place = marks_renamed values object.edges place (bare_mark (get_or object.plane place 0))

loose_renamed : (values : ℕ → ℕ) (object : Object) (place : ℕ) → is_loose_at (renamed_object values object) place ≡ is_loose_at object place
loose_renamed values object place = ap (λ (b : Bool). nat_lt 1 (get_or object.plane place 0) && b) (free_renamed values object.edges place)

-- what is asked of values does not depend on keys
sure_renamed : (objects : ℕ → ℕ) (value : Value) → is_sure (renamed_value objects value) ≡ is_sure value
sure_renamed objects (Const number size) = refl
sure_renamed objects (Number size) = refl
sure_renamed objects Any = refl
sure_renamed objects (Address object offset target) = refl

told_renamed : (objects : ℕ → ℕ) (value : Value) → is_told (renamed_value objects value) ≡ is_told value
told_renamed objects (Const number size) = refl
told_renamed objects (Number size) = refl
told_renamed objects Any = refl
told_renamed objects (Address object offset target) = refl

may_show_renamed : (objects : ℕ → ℕ) (input : Bool) (value : Value) → may_show input (renamed_value objects value) ≡ may_show input value
may_show_renamed objects true value = told_renamed objects value
may_show_renamed objects false value = sure_renamed objects value

module _ (of_objects of_values : ℕ → ℕ) (parts : Parts) (renaming : IsRenaming of_objects of_values parts) where
  abbrev other : Parts
  other = renamed of_objects of_values parts

  -- an object that is there was there, under an old key
  was_object : (key : ℕ) (object : Object) → object_at other.objects key ≡ Some object →
      WasFound (λ (entry : KeyedObject). entry.key) (λ entry. entry.object) (λ (entry : KeyedObject). entry.key) (λ entry. entry.object)
      (λ entry. record { key = of_objects entry.key; object = renamed_object of_values entry.object }) of_objects (renamed_object of_values) (λ _. refl) (λ _. refl) parts.objects key object
  was_object key object is =
      WasFound-renamed (λ (entry : KeyedObject). entry.key) (λ entry. entry.object) (λ (entry : KeyedObject). entry.key) (λ entry. entry.object)
      (λ entry. record { key = of_objects entry.key; object = renamed_object of_values entry.object }) of_objects (renamed_object of_values) (λ _. refl) (λ _. refl) parts.objects key object is

  passes_renamed : (test : Value → Bool) → ((value : Value) → test (renamed_value of_objects value) ≡ test value) → (key : ℕ) → passes_at parts test key ≡ true →
      passes_at other test (of_values key) ≡ true
  passes_renamed test same key passes =
      let held = Holds-some (value_at parts.values key) (passes-some test (value_at parts.values key) passes) in
      ap (λ (o : Option Value). option_map_or test o false) (value_sent of_objects of_values parts renaming key held.item held.is)
      ∙ (same held.item ∙ (ap (λ (o : Option Value). option_map_or test o false) (sym held.is) ∙ passes))

  edges_renamed : (edges : List HasValue) → list_all (λ (edge : HasValue). passes_at parts is_sure edge.value) edges ≡ true →
      list_all (λ (edge : HasValue). passes_at other is_sure edge.value) (map (renamed_edge of_values) edges) ≡ true
  edges_renamed [] all = refl
  edges_renamed (edge ∷ rest) all =
      and_both (passes_at other is_sure (of_values edge.value)) (list_all (λ (edge : HasValue). passes_at other is_sure edge.value) (map (renamed_edge of_values) rest))
      (passes_renamed is_sure (sure_renamed of_objects) edge.value (and_left (passes_at parts is_sure edge.value) (list_all (λ (edge : HasValue). passes_at parts is_sure edge.value) rest) all))
      (edges_renamed rest (and_right (passes_at parts is_sure edge.value) (list_all (λ (edge : HasValue). passes_at parts is_sure edge.value) rest) all))

  registers_renamed : (marks : Marks) → ((register key : ℕ) → held_by parts.registers register ≡ Some key → passes_at parts (may_show (marks.input register)) key ≡ true) →
      (register key : ℕ) → held_by other.registers register ≡ Some key → passes_at other (may_show (marks.input register)) key ≡ true
  registers_renamed marks before register key held =
      by_held (held_by parts.registers register) refl
      (sym (found-changed (λ (held : Held). held.register) (λ held. held.value) (λ (held : Held). held.register) (λ held. held.value)
      (λ held. record { register = held.register; value = of_values held.value }) of_values (λ _. refl) (λ _. refl) parts.registers register) ∙ held)
    where
      by_held : (o : Option ℕ) → held_by parts.registers register ≡ o → option_map of_values o ≡ Some key → passes_at other (may_show (marks.input register)) key ≡ true
      by_held None was is = absurd (none-some key is)
      by_held (Some old) was is =
          subst (λ (k : ℕ). passes_at other (may_show (marks.input register)) k ≡ true) (same_Some _ _ is)
          (passes_renamed (may_show (marks.input register)) (may_show_renamed of_objects (marks.input register)) old (before register old was))

  pub renamed_shown : IsWellFormed parts → (state : State) (marks : Marks) → IsShown parts state marks → IsShown other state marks
  renamed_shown form state marks shown =
      let by : IsShownBy parts state marks shown.given = shown.by in
      let handed = (renaming_hands_on of_objects of_values parts state renaming form).onward shown.given by.meets in
      record {
        given = handed.0;
        by = record {
          meets = handed.1;
          marked = λ key number place object is live blocks within.
              let was = was_object key object is in
              by.marked was.old_key number place was.old was.stands (ap (λ (o : Object). o.live) was.new ∙ live)
              (sym (handed.2.blocks was.old_key (IsSome-holds _ _ was.stands)) ∙ (ap handed.0.blocks was.new_key ∙ blocks))
              (subst (λ (o : Object). place < o.size) (sym was.new) within)
              ∙ (sym (mark_renamed of_values was.old place) ∙ ap (λ (o : Object). mark_at o place) was.new);
          tight = λ key place object is.
              let was = was_object key object is in
              ap (λ (o : Object). is_loose_at o place) (sym was.new) ∙ (loose_renamed of_values was.old place ∙ by.tight was.old_key place was.old was.stands);
          edges = λ key object is.
              let was = was_object key object is in
              subst (λ (o : Object). list_all (λ (edge : HasValue). passes_at other is_sure edge.value) o.edges ≡ true) was.new (edges_renamed was.old.edges (by.edges was.old_key was.old was.stands));
          registers = registers_renamed marks by.registers;
        };
      }
