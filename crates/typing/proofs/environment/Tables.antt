-- What a name has after a write, and the names that a map of the code shows.
use Rattle.std.proofs.Common.{◌≡◌, ℕ, zero, suc, ◌-◌, ◌<◌, Bool, true, false, refl, ap, sym, ◌∙◌, arith, List, [], ◌∷◌, map, cond, drop, slice_get, Option, None, Some}
use Rattle.std.specs.Prelude.{if◌then◌else◌, option_map}
use Rattle.std.specs.Str.{bytes_eq}
use Rattle.std.proofs.lemmas.Slice.Eq.{bytes_eq-Decides}
use Rattle.std.specs.Map.{lookup, set_value}
use Rattle.indexmap.specs.IndexMap.{insert_entry}
use Rattle.typing.specs.declared.environment.kept.Kept.{Kept}
use Rattle.typing.specs.environment.Names.{Entries, value_in, with_value, changed}
use Rattle.typing.specs.environment.Kept.{scope_of, uncovered}

module _ {X A : Type 0} (bytes : X → List ℕ) where
  abbrev pub shown : X × A → List ℕ × A
  shown entry = (bytes entry.0, entry.1)

  pub value-map : (name : List ℕ) (entries : List (X × A)) → lookup (λ x. bytes_eq name (bytes x)) entries ≡ value_in name (map shown entries)
  value-map name [] = refl
  value-map name (entry ∷ entries) = ap (λ (o : Option A). cond (bytes_eq name (bytes entry.0)) (Some entry.1) o) (value-map name entries)

  pub put-map : (copy : X) (value : A) (entries : List (X × A)) → map shown (insert_entry (λ x y. bytes_eq (bytes x) (bytes y)) entries copy value) ≡ with_value (bytes copy) value (map shown entries)
  put-map copy value [] = refl
  put-map copy value (entry ∷ entries) = step (bytes_eq (bytes copy) (bytes entry.0)) (put-map copy value entries)
    where
      step : (test : Bool) → map shown (insert_entry (λ x y. bytes_eq (bytes x) (bytes y)) entries copy value) ≡ with_value (bytes copy) value (map shown entries)
          → map shown (if test then (entry.0, value) ∷ entries else entry ∷ insert_entry (λ x y. bytes_eq (bytes x) (bytes y)) entries copy value)
          ≡ (if test then (bytes entry.0, value) ∷ map shown entries else (bytes entry.0, entry.1) ∷ with_value (bytes copy) value (map shown entries))
      step true rest = refl
      step false rest = ap (λ (table : List (List ℕ × A)). (bytes entry.0, entry.1) ∷ table) rest

  pub change-map : (name : List ℕ) (value : A) (entries : List (X × A)) → map shown (set_value (λ x. bytes_eq name (bytes x)) entries value) ≡ changed name value (map shown entries)
  change-map name value [] = refl
  change-map name value (entry ∷ entries) = step (bytes_eq name (bytes entry.0)) (change-map name value entries)
    where
      behind : List (X × A)
      behind = set_value (λ x. bytes_eq name (bytes x)) entries value

      step : (test : Bool) → map shown behind ≡ changed name value (map shown entries)
          → map shown (cond test ((entry.0, value) ∷ entries) (entry ∷ behind))
          ≡ (if test then (bytes entry.0, value) ∷ map shown entries else (bytes entry.0, entry.1) ∷ changed name value (map shown entries))
      step true rest = refl
      step false rest = ap (λ (table : List (List ℕ × A)). (bytes entry.0, entry.1) ∷ table) rest

-- a name that has no value gets none
pub change_none : {A : Type 0} (name : List ℕ) (value : A) (table : Entries A) → value_in name table ≡ None → table ≡ changed name value table
change_none name value [] none = refl
change_none {A} name value (entry ∷ others) none = step (bytes_eq name entry.0) (change_none name value others) none
  where
    step : (test : Bool) → (value_in name others ≡ None → others ≡ changed name value others) → (if test then Some entry.1 else value_in name others) ≡ None
        → entry ∷ others ≡ (if test then (entry.0, value) ∷ others else entry ∷ changed name value others)
    step true further is = cc is
    step false further is = ap (λ (table : Entries A). entry ∷ table) (further is)

-- a name that has a value gets another by being changed and by being put alike
pub change_put : {A : Type 0} (name : List ℕ) (old value : A) (table : Entries A) → Some old ≡ value_in name table → changed name value table ≡ with_value name value table
change_put name old value [] has = cc has
change_put {A} name old value (entry ∷ others) has = step (bytes_eq name entry.0) (change_put name old value others) has
  where
    step : (test : Bool) → (Some old ≡ value_in name others → changed name value others ≡ with_value name value others) → Some old ≡ (if test then Some entry.1 else value_in name others)
        → (if test then (entry.0, value) ∷ others else entry ∷ changed name value others) ≡ (if test then (entry.0, value) ∷ others else entry ∷ with_value name value others)
    step true further is = refl
    step false further is = ap (λ (table : Entries A). entry ∷ table) (further is)

-- what is put is the value of its name, and other names keep theirs
pub value-put : {A : Type 0} (other name : List ℕ) (value : A) (table : Entries A)
    → value_in other (with_value name value table) ≡ (if bytes_eq other name then Some value else value_in other table)
value-put other name value [] = refl
value-put {A} other name value (entry ∷ others) =
    step (bytes_eq name entry.0) refl (bytes_eq other entry.0) refl (bytes_eq other name) refl (value-put other name value others)
  where
    step : (same : Bool) → bytes_eq name entry.0 ≡ same → (here : Bool) → bytes_eq other entry.0 ≡ here → (asked : Bool) → bytes_eq other name ≡ asked
        → value_in other (with_value name value others) ≡ (if bytes_eq other name then Some value else value_in other others)
        → value_in other (if same then (entry.0, value) ∷ others else entry ∷ with_value name value others) ≡ (if asked then Some value else (if here then Some entry.1 else value_in other others))
    step true is true at true asks rest = ap (λ (b : Bool). if b then Some value else value_in other others) at
    step true is false at false asks rest = ap (λ (b : Bool). if b then Some value else value_in other others) at
    step true is true at false asks rest =
        let same = (bytes_eq-Decides other name).1 ((bytes_eq-Decides other entry.0).0 at ∙ sym ((bytes_eq-Decides name entry.0).0 is)) in cc
    step true is false at true asks rest =
        let same = (bytes_eq-Decides other entry.0).1 ((bytes_eq-Decides other name).0 asks ∙ (bytes_eq-Decides name entry.0).0 is) in cc
    step false is true at true asks rest =
        let same = (bytes_eq-Decides name entry.0).1 (sym ((bytes_eq-Decides other name).0 asks) ∙ (bytes_eq-Decides other entry.0).0 at) in cc
    step false is true at false asks rest = ap (λ (b : Bool). if b then Some entry.1 else value_in other (with_value name value others)) at
    step false is false at true asks rest =
        ap (λ (b : Bool). if b then Some entry.1 else value_in other (with_value name value others)) at ∙ (rest ∙ ap (λ (b : Bool). if b then Some value else value_in other others) asks)
    step false is false at false asks rest =
        ap (λ (b : Bool). if b then Some entry.1 else value_in other (with_value name value others)) at ∙ (rest ∙ ap (λ (b : Bool). if b then Some value else value_in other others) asks)

-- another value in the place of one
abbrev pub replaced : {A : Type 0} → A → Option A → Option A
replaced value None = None
replaced value (Some old) = Some value

-- what is changed is the value of its name where it has one, and other names keep theirs
pub value-changed : {A : Type 0} (other name : List ℕ) (value : A) (table : Entries A)
    → value_in other (changed name value table) ≡ (if bytes_eq other name then replaced value (value_in other table) else value_in other table)
value-changed {A} other name value [] = step (bytes_eq other name)
  where
    step : (asked : Bool) → None ≡ (if asked then replaced value None else None)
    step true = refl
    step false = refl
value-changed {A} other name value (entry ∷ others) =
    step (bytes_eq name entry.0) refl (bytes_eq other entry.0) refl (bytes_eq other name) refl (value-changed other name value others)
  where
    step : (same : Bool) → bytes_eq name entry.0 ≡ same → (here : Bool) → bytes_eq other entry.0 ≡ here → (asked : Bool) → bytes_eq other name ≡ asked
        → value_in other (changed name value others) ≡ (if bytes_eq other name then replaced value (value_in other others) else value_in other others)
        → value_in other (if same then (entry.0, value) ∷ others else entry ∷ changed name value others)
        ≡ (if asked then replaced value (if here then Some entry.1 else value_in other others) else (if here then Some entry.1 else value_in other others))
    step true is true at true asks rest = ap (λ (b : Bool). if b then Some value else value_in other others) at
    step true is false at false asks rest = ap (λ (b : Bool). if b then Some value else value_in other others) at
    step true is true at false asks rest =
        let same = (bytes_eq-Decides other name).1 ((bytes_eq-Decides other entry.0).0 at ∙ sym ((bytes_eq-Decides name entry.0).0 is)) in cc
    step true is false at true asks rest =
        let same = (bytes_eq-Decides other entry.0).1 ((bytes_eq-Decides other name).0 asks ∙ (bytes_eq-Decides name entry.0).0 is) in cc
    step false is true at true asks rest =
        let same = (bytes_eq-Decides name entry.0).1 (sym ((bytes_eq-Decides other name).0 asks) ∙ (bytes_eq-Decides other entry.0).0 at) in cc
    step false is true at false asks rest = ap (λ (b : Bool). if b then Some entry.1 else value_in other (changed name value others)) at
    step false is false at true asks rest =
        ap (λ (b : Bool). if b then Some entry.1 else value_in other (changed name value others)) at
        ∙ (rest ∙ ap (λ (b : Bool). if b then replaced value (value_in other others) else value_in other others) asks)
    step false is false at false asks rest =
        ap (λ (b : Bool). if b then Some entry.1 else value_in other (changed name value others)) at
        ∙ (rest ∙ ap (λ (b : Bool). if b then replaced value (value_in other others) else value_in other others) asks)

-- a name that is put, and then changed
pub value-put_changed : {A : Type 0} (other name : List ℕ) (first second : A) (table : Entries A)
    → value_in other (changed name second (with_value name first table)) ≡ (if bytes_eq other name then Some second else value_in other table)
value-put_changed {A} other name first second table =
    value-changed other name second (with_value name first table) ∙ step (bytes_eq other name) refl (value-put other name first table)
  where
    step : (asked : Bool) → bytes_eq other name ≡ asked → value_in other (with_value name first table) ≡ (if bytes_eq other name then Some first else value_in other table)
        → (if asked then replaced second (value_in other (with_value name first table)) else value_in other (with_value name first table)) ≡ (if asked then Some second else value_in other table)
    step true asks put = ap (replaced second) (put ∙ ap (λ (b : Bool). if b then Some first else value_in other table) asks)
    step false asks put = put ∙ ap (λ (b : Bool). if b then Some first else value_in other table) asks

-- what a name is visible as once a scope is left, by what is kept of it there and what it was visible as
abbrev pub restored : {A : Type 0} → Option (Kept A) → Option (Option A) → Option (Option A)
restored None own = own
restored (Some kept) None = None
restored (Some kept) (Some own) = Some kept.hidden

pub value-uncovered : {A : Type 0} (name : List ℕ) (level : Entries (Kept A)) (visible : Entries (Option A))
    → value_in name (uncovered level visible) ≡ restored (value_in name level) (value_in name visible)
value-uncovered name [] visible = refl
value-uncovered {A} name (entry ∷ others) visible =
    value-changed name entry.0 entry.1.hidden (uncovered others visible) ∙ step (bytes_eq name entry.0) (value-uncovered name others visible)
  where
    replaces : (kept : Option (Kept A)) (own : Option (Option A)) → replaced entry.1.hidden (restored kept own) ≡ restored (Some entry.1) own
    replaces None None = refl
    replaces None (Some own) = refl
    replaces (Some kept) None = refl
    replaces (Some kept) (Some own) = refl

    step : (here : Bool) → value_in name (uncovered others visible) ≡ restored (value_in name others) (value_in name visible)
        → (if here then replaced entry.1.hidden (value_in name (uncovered others visible)) else value_in name (uncovered others visible))
        ≡ restored (if here then Some entry.1 else value_in name others) (value_in name visible)
    step true rest = ap (replaced entry.1.hidden) rest ∙ replaces (value_in name others) (value_in name visible)
    step false rest = rest

-- one turn of a way from the last name of a scope to the first
pub uncovered_turn : {A : Type 0} (level : Entries (Kept A)) (entry : List ℕ × Kept A) (count : ℕ) (name : List ℕ) (old now new : Entries (Option A))
    → slice_get level (count - 1) ≡ Some entry → 0 < count → name ≡ entry.0
    → now ≡ uncovered (drop count level) old → new ≡ changed name entry.1.hidden now
    → new ≡ uncovered (drop (count - 1) level) old
uncovered_turn {A} level entry count name old now new here some is before after =
    let at : suc (count - 1) ≡ count = omega (arith, some) in
    let row : drop (count - 1) level ≡ entry ∷ drop count level = drop_here level (count - 1) entry here ∙ ap (λ (n : ℕ). entry ∷ drop n level) at in
    after ∙ (ap (λ (n : List ℕ). changed n entry.1.hidden now) is
    ∙ (ap (changed entry.0 entry.1.hidden) before ∙ ap (λ (l : Entries (Kept A)). uncovered l old) (sym row)))
  where
    same_some : {Y : Type 0} (one other : Y) → Some one ≡ Some other → one ≡ other
    same_some one other equal = cc equal

    drop_here : {Y : Type 0} (row : List Y) (at : ℕ) (first : Y) → slice_get row at ≡ Some first → drop at row ≡ first ∷ drop (suc at) row
    drop_here [] at first found = cc found
    drop_here (one ∷ row) zero first found = ap (λ y. y ∷ row) (same_some one first found)
    drop_here (one ∷ row) (suc at) first found = drop_here row at first found

-- what a scope says of a name, by what is kept of it
pub value-scope : {A : Type 0} (name : List ℕ) (level : Entries (Kept A)) → value_in name (scope_of level) ≡ option_map (λ kept. kept.meaning) (value_in name level)
value-scope name [] = refl
value-scope {A} name (entry ∷ level) = step (bytes_eq name entry.0) (value-scope name level)
  where
    step : (test : Bool) → value_in name (scope_of level) ≡ option_map (λ kept. kept.meaning) (value_in name level)
        → (if test then Some entry.1.meaning else value_in name (scope_of level)) ≡ option_map (λ kept. kept.meaning) (if test then Some entry.1 else value_in name level)
    step true rest = refl
    step false rest = rest

pub scope-put : {A : Type 0} (name : List ℕ) (kept : Kept A) (level : Entries (Kept A)) → scope_of (with_value name kept level) ≡ with_value name kept.meaning (scope_of level)
scope-put name kept [] = refl
scope-put {A} name kept (entry ∷ level) = step (bytes_eq name entry.0) (scope-put name kept level)
  where
    step : (test : Bool) → scope_of (with_value name kept level) ≡ with_value name kept.meaning (scope_of level)
        → scope_of (if test then (entry.0, kept) ∷ level else entry ∷ with_value name kept level)
        ≡ (if test then (entry.0, kept.meaning) ∷ scope_of level else (entry.0, entry.1.meaning) ∷ with_value name kept.meaning (scope_of level))
    step true rest = refl
    step false rest = ap (λ (scope : Entries A). (entry.0, entry.1.meaning) ∷ scope) rest
