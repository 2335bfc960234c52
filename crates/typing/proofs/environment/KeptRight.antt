-- What is kept beside names in scopes is right after each step.
use Rattle.std.proofs.Common.{◌≡◌, ◌≢◌, ℕ, suc, ◌<◌, Bool, true, false, refl, ap, sym, subst, ◌∙◌, arith, List, [], ◌∷◌, ◌++◌, length, set, take, get_or, Option, None, Some}
use Rattle.std.specs.Prelude.{if◌then◌else◌, option_map, reverse}
use Rattle.std.proofs.lemmas.List.{get_or_default, length-reverse, set-get_or}
use Rattle.std.specs.Str.{bytes_eq}
use Rattle.std.proofs.lemmas.Slice.Eq.{bytes_eq-Decides}
use Rattle.typing.specs.declared.environment.kept.Kept.{Kept}
use Rattle.typing.specs.environment.Names.{Entries, value_in, with_value, changed}
use Rattle.typing.specs.environment.Scopes.{first_answer, found, found_here, declared, left}
use Rattle.typing.specs.environment.Kept.{scopes_of, seen, around, kept_here, kept_in, uncovered, AreVisible}
use Rattle.typing.proofs.environment.Tables.{value-put, value-put_changed, value-uncovered, restored, value-scope, scope-put}
use Rattle.typing.proofs.environment.Stacks.{popped, set_last, read_last, none}

abbrev pub meaning_of : {A : Type 0} → Option (Kept A) → Option A
meaning_of kept = option_map (λ k. k.meaning) kept

-- what is found is what is kept of the innermost scope, or else what is found around it
pub found-level : {A : Type 0} (name : List ℕ) (level : Entries (Kept A)) (levels : List (Entries (Kept A)))
    → found name (scopes_of (level ∷ levels)) ≡ first_answer (meaning_of (value_in name level)) (found name (scopes_of levels))
found-level {A} name level levels = ap (λ (o : Option A). first_answer o (found name (scopes_of levels))) (value-scope name level)

pub visible_entered : {A : Type 0} (visible : Entries (Option A)) (levels : List (Entries (Kept A))) → AreVisible visible levels → AreVisible visible ([] ∷ levels)
visible_entered visible levels is = record {
  sees = is.sees;
  hides = ((λ name kept has. cc has), is.hides);
}

pub visible_left : {A : Type 0} (visible : Entries (Option A)) (level : Entries (Kept A)) (levels : List (Entries (Kept A)))
    → AreVisible visible (level ∷ levels) → AreVisible (uncovered level visible) levels
visible_left {A} visible level levels is = record {
  sees = λ name. ap seen (value-uncovered name level visible) ∙ step name (value_in name level) refl (value_in name visible) refl;
  hides = is.hides.1;
}
  where
    step : (name : List ℕ) (kept : Option (Kept A)) → value_in name level ≡ kept → (own : Option (Option A)) → value_in name visible ≡ own
        → seen (restored kept own) ≡ found name (scopes_of levels)
    step name None at own has =
        sym (ap seen has) ∙ (is.sees name ∙ (found-level name level levels ∙ ap (λ (k : Option (Kept A)). first_answer (meaning_of k) (found name (scopes_of levels))) at))
    step name (Some kept) at None has =
        let clash : None ≡ Some kept.meaning =
        sym (ap seen has) ∙ (is.sees name ∙ (found-level name level levels ∙ ap (λ (k : Option (Kept A)). first_answer (meaning_of k) (found name (scopes_of levels))) at)) in
        cc clash
    step name (Some kept) at (Some own) has = is.hides.0 name kept at

-- what a name is visible as around the innermost scope
pub around-found : {A : Type 0} (name : List ℕ) (visible : Entries (Option A)) (level : Entries (Kept A)) (levels : List (Entries (Kept A)))
    → AreVisible visible (level ∷ levels) → around (value_in name level) (seen (value_in name visible)) ≡ found name (scopes_of levels)
around-found {A} name visible level levels is = step (value_in name level) refl
  where
    step : (kept : Option (Kept A)) → value_in name level ≡ kept → around kept (seen (value_in name visible)) ≡ found name (scopes_of levels)
    step None at = is.sees name ∙ (found-level name level levels ∙ ap (λ (k : Option (Kept A)). first_answer (meaning_of k) (found name (scopes_of levels))) at)
    step (Some kept) at = is.hides.0 name kept at

visible-put : {A : Type 0} (name : List ℕ) (kept : Kept A) (visible now : Entries (Option A)) (level : Entries (Kept A)) (levels : List (Entries (Kept A)))
    → AreVisible visible (level ∷ levels) → kept.hidden ≡ around (value_in name level) (seen (value_in name visible))
    → ((other : List ℕ) → value_in other now ≡ (if bytes_eq other name then Some (Some kept.meaning) else value_in other visible))
    → AreVisible now (with_value name kept level ∷ levels)
visible-put {A} name kept visible now level levels is hidden changes = record {
  sees = λ other. ap seen (changes other) ∙ sees other (bytes_eq other name) refl;
  hides = ((λ other held has. hides other held (bytes_eq other name) refl (sym (value-put other name kept level) ∙ has)), is.hides.1);
}
  where
    sees : (other : List ℕ) (asked : Bool) → bytes_eq other name ≡ asked
        → seen (if asked then Some (Some kept.meaning) else value_in other visible) ≡ found other (scopes_of (with_value name kept level ∷ levels))
    sees other true asks =
        sym (found-level other (with_value name kept level) levels
        ∙ ap (λ (k : Option (Kept A)). first_answer (meaning_of k) (found other (scopes_of levels)))
        (value-put other name kept level ∙ ap (λ (b : Bool). if b then Some kept else value_in other level) asks))
    sees other false asks =
        is.sees other ∙ (found-level other level levels
        ∙ sym (found-level other (with_value name kept level) levels
        ∙ ap (λ (k : Option (Kept A)). first_answer (meaning_of k) (found other (scopes_of levels)))
        (value-put other name kept level ∙ ap (λ (b : Bool). if b then Some kept else value_in other level) asks)))

    hides : (other : List ℕ) (held : Kept A) (asked : Bool) → bytes_eq other name ≡ asked → (if asked then Some kept else value_in other level) ≡ Some held
        → held.hidden ≡ found other (scopes_of levels)
    hides other held true asks has =
        let same : held ≡ kept = cc has in
        let equal : other ≡ name = (bytes_eq-Decides other name).0 asks in
        ap (λ (k : Kept A). k.hidden) same ∙ (hidden ∙ (around-found name visible level levels is ∙ ap (λ (n : List ℕ). found n (scopes_of levels)) (sym equal)))
    hides other held false asks has = is.hides.0 other held has

-- a name that is declared in the innermost scope
pub visible_declared : {A : Type 0} (name : List ℕ) (kept : Kept A) (before : Option A) (visible : Entries (Option A)) (levels : List (Entries (Kept A)))
    → AreVisible visible levels → before ≡ seen (value_in name visible) → kept.hidden ≡ around (kept_here name levels) before
    → levels ≢ [] → AreVisible (changed name (Some kept.meaning) (with_value name before visible)) (kept_in name kept levels)
visible_declared name kept before visible [] is was hidden some = absurd (some refl)
visible_declared {A} name kept before visible (level ∷ levels) is was hidden some =
    visible-put name kept visible (changed name (Some kept.meaning) (with_value name before visible)) level levels is
    (hidden ∙ ap (around (value_in name level)) was) (λ other. value-put_changed other name before (Some kept.meaning) visible)

-- a name is put with what it is visible as already
pub visible_again : {A : Type 0} (name : List ℕ) (before : Option A) (visible : Entries (Option A)) (levels : List (Entries (Kept A)))
    → AreVisible visible levels → before ≡ seen (value_in name visible) → AreVisible (with_value name before visible) levels
visible_again {A} name before visible levels is was = record {
  sees = λ other. ap seen (value-put other name before visible) ∙ step other (bytes_eq other name) refl;
  hides = is.hides;
}
  where
    step : (other : List ℕ) (asked : Bool) → bytes_eq other name ≡ asked → seen (if asked then Some before else value_in other visible) ≡ found other (scopes_of levels)
    step other true asks =
        let equal : other ≡ name = (bytes_eq-Decides other name).0 asks in
        was ∙ (is.sees name ∙ ap (λ (n : List ℕ). found n (scopes_of levels)) (sym equal))
    step other false asks = is.sees other

-- what is kept of a name in the innermost scope says what that scope says of it
pub here-kept : {A : Type 0} (name : List ℕ) (levels : List (Entries (Kept A))) → option_map (λ kept. kept.meaning) (kept_here name levels) ≡ found_here name (scopes_of levels)
here-kept name [] = refl
here-kept name (level ∷ levels) = sym (value-scope name level)

pub scopes-kept : {A : Type 0} (name : List ℕ) (kept : Kept A) (levels : List (Entries (Kept A))) → scopes_of (kept_in name kept levels) ≡ declared name kept.meaning (scopes_of levels)
scopes-kept name kept [] = refl
scopes-kept {A} name kept (level ∷ levels) = ap (λ (scope : Entries A). scope ∷ scopes_of levels) (scope-put name kept level)

pub around-kept : {A : Type 0} (name : List ℕ) (levels : List (Entries (Kept A)))
    → option_map (λ kept. kept.meaning) (kept_here name (left levels)) ≡ found_here name (left (scopes_of levels))
around-kept name [] = refl
around-kept name (level ∷ levels) = here-kept name levels

-- with no scope
pub nothing_declared : {A : Type 0} (name : List ℕ) (meaning : A) (levels : List (Entries (Kept A))) → length levels ≡ 0
    → scopes_of (reverse levels) ≡ declared name meaning (scopes_of (reverse levels))
nothing_declared {A} name meaning levels empty =
    let P : List (Entries (Kept A)) → Type 0 = λ ls. scopes_of ls ≡ declared name meaning (scopes_of ls) in
    subst P (sym (none levels empty)) refl

pub nothing_kept : {A : Type 0} (name : List ℕ) (levels : List (Entries (Kept A))) → length levels ≡ 0 → None ≡ kept_here name (reverse levels)
nothing_kept {A} name levels empty = ap (λ (ls : List (Entries (Kept A))). kept_here name ls) (sym (none levels empty))

-- the last of some tables is the innermost
pub kept_last : {A : Type 0} (name : List ℕ) (levels : List (Entries (Kept A))) (last : ℕ) (level : Entries (Kept A)) → suc last ≡ length levels → level ≡ get_or levels last level
    → value_in name level ≡ kept_here name (reverse levels)
kept_last {A} name levels last level count here = ap (λ (ls : List (Entries (Kept A))). kept_here name ls) (sym (read_last levels last level count here))

-- those in front of it are the scopes around the innermost one
pub kept_front : {A : Type 0} (name : List ℕ) (levels : List (Entries (Kept A))) (last : ℕ) → suc last ≡ length levels
    → kept_here name (reverse (take last levels)) ≡ kept_here name (left (reverse levels))
kept_front name [] last count = absurd (omega (arith, count))
kept_front {A} name (first ∷ levels) last count =
    let item : Entries (Kept A) = get_or (first ∷ levels) last first in
    let there : item ≡ get_or (first ∷ levels) last item = get_or_default (first ∷ levels) last first item (omega (arith, count)) in
    ap (λ (all : List (Entries (Kept A))). kept_here name (left all)) (sym (read_last (first ∷ levels) last item count there))

pub nothing_around : {A : Type 0} (name : List ℕ) (levels : List (Entries (Kept A))) → length levels ≡ 0 → None ≡ kept_here name (left (reverse levels))
nothing_around {A} name levels empty = ap (λ (ls : List (Entries (Kept A))). kept_here name (left ls)) (sym (none levels empty))

pub put_last : {A : Type 0} (name : List ℕ) (kept : Kept A) (levels : List (Entries (Kept A))) (last : ℕ) (level new : Entries (Kept A)) → suc last ≡ length levels → level ≡ get_or levels last level
    → new ≡ with_value name kept level → reverse (set levels last new) ≡ kept_in name kept (reverse levels)
put_last {A} name kept levels last level new count here is =
    ap (λ (l : Entries (Kept A)). reverse (set levels last l)) is
    ∙ (set_last levels last (with_value name kept level) count ∙ ap (λ (ls : List (Entries (Kept A))). kept_in name kept ls) (sym (read_last levels last level count here)))

-- a level that stays as it was
pub same_level : {X : Type 0} (levels : List X) (at : ℕ) (level new : X) → level ≡ get_or levels at level → new ≡ level → reverse (set levels at new) ≡ reverse levels
same_level {X} levels at level new here is = ap (λ (l : X). reverse (set levels at l)) (is ∙ here) ∙ ap reverse (set-get_or levels at level)

pub visible_equal : {A : Type 0} (visible now : Entries (Option A)) (levels after : List (Entries (Kept A))) → now ≡ visible → after ≡ levels → AreVisible visible levels → AreVisible now after
visible_equal {A} visible now levels after same alike is =
    let P : Entries (Option A) → Type 0 = λ v. AreVisible v after in
    let Q : List (Entries (Kept A)) → Type 0 = λ ls. AreVisible visible ls in
    subst P (sym same) (subst Q (sym alike) is)

-- a vector with something in it has an innermost scope
some-last : {X : Type 0} (items : List X) → 0 < length items → reverse items ≢ []
some-last items some is = absurd (omega (arith, some, length-reverse items, ap length is))

pub declared_at : {A : Type 0} (name : List ℕ) (kept : Kept A) (before : Option A) (old put now : Entries (Option A)) (levels after : List (Entries (Kept A)))
    → AreVisible old (reverse levels) → before ≡ seen (value_in name old) → kept.hidden ≡ around (kept_here name (reverse levels)) before → 0 < length levels
    → put ≡ with_value name before old → now ≡ changed name (Some kept.meaning) put → reverse after ≡ kept_in name kept (reverse levels)
    → AreVisible now (reverse after)
declared_at {A} name kept before old put now levels after is was hidden some first second third =
    visible_equal (changed name (Some kept.meaning) (with_value name before old)) now (kept_in name kept (reverse levels)) (reverse after)
    (second ∙ ap (changed name (Some kept.meaning)) first) third
    (visible_declared name kept before old (reverse levels) is was hidden (some-last levels some))

-- the innermost scope is left
pub left_at : {A : Type 0} (old now : Entries (Option A)) (levels after : List (Entries (Kept A))) (level : Entries (Kept A))
    → AreVisible old (reverse levels) → levels ≡ after ++ level ∷ [] → now ≡ uncovered level old → AreVisible now (reverse after)
left_at {A} old now levels after level is split after_it =
    let P : List (Entries (Kept A)) → Type 0 = λ ls. AreVisible old ls in
    let Q : Entries (Option A) → Type 0 = λ v. AreVisible v (reverse after) in
    subst Q (sym after_it) (visible_left old level (reverse after) (subst P (popped levels after level split) is))

pub scopes_left : {A : Type 0} (levels after : List (Entries (Kept A))) (level : Entries (Kept A)) → levels ≡ after ++ level ∷ []
    → scopes_of (reverse after) ≡ left (scopes_of (reverse levels))
scopes_left {A} levels after level split = ap (λ (ls : List (Entries (Kept A))). left (scopes_of ls)) (sym (popped levels after level split))

pub scopes_none : {A : Type 0} (levels : List (Entries (Kept A))) → length levels ≡ 0 → scopes_of (reverse levels) ≡ left (scopes_of (reverse levels))
scopes_none {A} levels empty =
    let P : List (Entries (Kept A)) → Type 0 = λ ls. scopes_of ls ≡ left (scopes_of ls) in
    subst P (sym (none levels empty)) refl
