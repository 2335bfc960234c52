-- A name that is declared in the scope around the innermost one: what is kept of names is right behind it.
use Rattle.std.proofs.Common.{◌≡◌, ◌≢◌, ℕ, suc, ◌<◌, Bool, true, false, refl, ap, sym, ◌∙◌, arith, List, [], ◌∷◌, ◌++◌, length, take, set, get_or, Option, None, Some}
use Rattle.std.specs.Prelude.{if◌then◌else◌, reverse}
use Rattle.std.specs.Str.{bytes_eq}
use Rattle.std.proofs.lemmas.List.{length-set, length-reverse, get_or-set_same, get_or-set_other, take-set}
use Rattle.std.proofs.lemmas.Slice.Eq.{bytes_eq-Decides}
use Rattle.std.proofs.Math.Seq.{take-suc, take-length}
use Rattle.typing.specs.declared.environment.kept.Kept.{Kept}
use Rattle.typing.specs.environment.Names.{Entries, value_in, with_value, changed}
use Rattle.typing.specs.environment.Scopes.{Scopes, first_answer, found, found_here, declared, declared_around, left}
use Rattle.typing.specs.environment.Kept.{scope_of, scopes_of, seen, around, kept_here, kept_in, kept_around, kept_in_around, changed_in, AreHidden, AreVisible}
use Rattle.typing.proofs.environment.KeptRight.{meaning_of, found-level, around-found, visible_equal}
use Rattle.typing.proofs.environment.Stacks.{pushed, set_last, read_last}
use Rattle.typing.proofs.environment.Tables.{replaced, value-put, value-changed, value-put_changed, scope-put}
use Rattle.typing.proofs.environment.Visible.{found_declared, found_other}

pub left_around : (A : Type 0) (name : List ℕ) (value : A) (scopes : Scopes A) → left (declared_around name value scopes) ≡ declared name value (left scopes)
left_around A name value [] = refl
left_around A name value (innermost ∷ outer) = refl

pub here_around : (A : Type 0) (other name : List ℕ) (value : A) (scopes : Scopes A) → found_here other (declared_around name value scopes) ≡ found_here other scopes
here_around A other name value [] = refl
here_around A other name value (innermost ∷ outer) = refl

-- a vector whose last items are these, seen from its end
second : {X : Type 0} (items : List X) (at : ℕ) (any : X) → suc (suc at) ≡ length items
    → reverse items ≡ get_or items (suc at) any ∷ (get_or items at any ∷ reverse (take at items))
second {X} items at any count =
    let all : items ≡ take (suc (suc at)) items = sym (ap (λ (n : ℕ). take n items) count ∙ take-length items) in
    let last : take (suc (suc at)) items ≡ take (suc at) items ++ get_or items (suc at) any ∷ [] = take-suc items (suc at) any (omega (arith, count)) in
    let other : take (suc at) items ≡ take at items ++ get_or items at any ∷ [] = take-suc items at any (omega (arith, count)) in
    ap reverse (all ∙ last) ∙ (pushed (take (suc at) items) (get_or items (suc at) any)
    ∙ ap (λ (rest : List X). get_or items (suc at) any ∷ rest) (ap reverse other ∙ pushed (take at items) (get_or items at any)))

pub kept-left : {A : Type 0} (name : List ℕ) (levels : List (Entries (Kept A))) → kept_around name levels ≡ kept_here name (left levels)
kept-left name [] = refl
kept-left name (innermost ∷ outer) = refl

pub put_second : {A : Type 0} (name : List ℕ) (kept : Kept A) (levels : List (Entries (Kept A))) (at : ℕ) (level new : Entries (Kept A)) → suc (suc at) ≡ length levels → level ≡ get_or levels at level
    → new ≡ with_value name kept level → reverse (set levels at new) ≡ kept_in_around name kept (reverse levels)
put_second {A} name kept levels at level new count here is =
    let put : Entries (Kept A) = with_value name kept level in
    let after : List (Entries (Kept A)) = set levels at put in
    let top : get_or after (suc at) level ≡ get_or levels (suc at) level = get_or-set_other levels at (suc at) put level (λ e. absurd (omega (arith, e))) in
    let near : get_or after at level ≡ put = get_or-set_same levels at put level (omega (arith, count)) in
    ap (λ (l : Entries (Kept A)). reverse (set levels at l)) is
    ∙ (second after at level (count ∙ sym (length-set levels at put))
    ∙ (ap (λ (l : Entries (Kept A)). l ∷ (get_or after at level ∷ reverse (take at after))) top
    ∙ (ap (λ (l : Entries (Kept A)). get_or levels (suc at) level ∷ (l ∷ reverse (take at after))) near
    ∙ (ap (λ (ls : List (Entries (Kept A))). get_or levels (suc at) level ∷ (put ∷ reverse ls)) (take-set levels at put)
    ∙ (ap (λ (l : Entries (Kept A)). get_or levels (suc at) level ∷ (with_value name kept l ∷ reverse (take at levels))) here
    ∙ ap (λ (ls : List (Entries (Kept A))). kept_in_around name kept ls) (sym (second levels at level count)))))))

pub change_last : {A : Type 0} (name : List ℕ) (kept : Kept A) (levels : List (Entries (Kept A))) (last : ℕ) (level new : Entries (Kept A)) → suc last ≡ length levels → level ≡ get_or levels last level
    → new ≡ changed name kept level → reverse (set levels last new) ≡ changed_in name kept (reverse levels)
change_last {A} name kept levels last level new count here is =
    ap (λ (l : Entries (Kept A)). reverse (set levels last l)) is
    ∙ (set_last levels last (changed name kept level) count ∙ ap (λ (ls : List (Entries (Kept A))). changed_in name kept ls) (sym (read_last levels last level count here)))

-- what is changed to another that means the same
scope-changed : {A : Type 0} (name : List ℕ) (kept : Kept A) (meaning : A) (hidden : Option A) (level : Entries (Kept A)) → value_in name level ≡ Some kept → meaning ≡ kept.meaning
    → scope_of (changed name (record { meaning = meaning; hidden = hidden }) level) ≡ scope_of level
scope-changed name kept meaning hidden [] has same = refl
scope-changed {A} name kept meaning hidden (entry ∷ level) has same = step (bytes_eq name entry.0) has (λ h. scope-changed name kept meaning hidden level h same)
  where
    step : (test : Bool) → (if test then Some entry.1 else value_in name level) ≡ Some kept
        → (value_in name level ≡ Some kept → scope_of (changed name (record { meaning = meaning; hidden = hidden }) level) ≡ scope_of level)
        → scope_of (if test then (entry.0, record { meaning = meaning; hidden = hidden }) ∷ level else entry ∷ changed name (record { meaning = meaning; hidden = hidden }) level)
        ≡ (entry.0, entry.1.meaning) ∷ scope_of level
    step true is further =
        let it : entry.1 ≡ kept = cc is in
        ap (λ (m : A). (entry.0, m) ∷ scope_of level) (same ∙ sym (ap (λ (k : Kept A). k.meaning) it))
    step false is further = ap (λ (scope : Entries A). (entry.0, entry.1.meaning) ∷ scope) (further is)

-- the scopes of a text of which the second declares a name
module _ {A : Type 0} (name : List ℕ) (meaning : A) (hidden : Option A) (visible now : Entries (Option A)) (inner near : Entries (Kept A)) (outer : List (Entries (Kept A)))
    (is : AreVisible visible (inner ∷ near ∷ outer)) (hides : hidden ≡ around (value_in name near) (around (value_in name inner) (seen (value_in name visible)))) where
  abbrev it : Kept A
  it = record { meaning = meaning; hidden = hidden }

  abbrev outside : Scopes A
  outside = scopes_of (near ∷ outer)

  abbrev behind : Scopes A
  behind = scopes_of (with_value name it near ∷ outer)

  scopes-behind : behind ≡ declared name meaning outside
  scopes-behind = ap (λ (scope : Entries A). scope ∷ scopes_of outer) (scope-put name it near)

  some-outside : outside ≢ []
  some-outside e = cc e

  -- the name itself, and another one
  found-itself : found name behind ≡ Some meaning
  found-itself = ap (found name) scopes-behind ∙ found_declared A name meaning outside some-outside

  found-another : (other : List ℕ) → bytes_eq other name ≡ false → found other behind ≡ found other outside
  found-another other apart =
      ap (found other) scopes-behind ∙ found_other A other name meaning outside (λ same. cc (sym apart ∙ (bytes_eq-Decides other name).1 same))

  hidden-is : hidden ≡ found name (scopes_of outer)
  hidden-is = hides ∙ (ap (around (value_in name near)) (around-found name visible inner (near ∷ outer) is) ∙ step (value_in name near) refl)
    where
      step : (kept : Option (Kept A)) → value_in name near ≡ kept → around kept (found name outside) ≡ found name (scopes_of outer)
      step None at = found-level name near outer ∙ ap (λ (k : Option (Kept A)). first_answer (meaning_of k) (found name (scopes_of outer))) at
      step (Some kept) at = is.hides.1.0 name kept at

  still-hidden : AreHidden (with_value name it near ∷ outer)
  still-hidden = ((λ other held has. step other held (bytes_eq other name) refl (sym (value-put other name it near) ∙ has)), is.hides.1.1)
    where
      step : (other : List ℕ) (held : Kept A) (asked : Bool) → bytes_eq other name ≡ asked → (if asked then Some it else value_in other near) ≡ Some held
          → held.hidden ≡ found other (scopes_of outer)
      step other held true asks has =
          let same : held ≡ it = cc has in
          ap (λ (k : Kept A). k.hidden) same ∙ (hidden-is ∙ ap (λ (n : List ℕ). found n (scopes_of outer)) (sym ((bytes_eq-Decides other name).0 asks)))
      step other held false asks has = is.hides.1.0 other held has

  -- the innermost scope does not declare it
  pub seen_through : value_in name inner ≡ None → ((other : List ℕ) → value_in other now ≡ (if bytes_eq other name then Some (Some meaning) else value_in other visible))
      → AreVisible now (inner ∷ with_value name it near ∷ outer)
  seen_through none changes = record {
    sees = λ other. ap seen (changes other) ∙ sees other (bytes_eq other name) refl;
    hides = ((λ other held has. keeps other held has (bytes_eq other name) refl), still-hidden);
  }
    where
      sees : (other : List ℕ) (asked : Bool) → bytes_eq other name ≡ asked
          → seen (if asked then Some (Some meaning) else value_in other visible) ≡ found other (scopes_of (inner ∷ with_value name it near ∷ outer))
      sees other true asks =
          let same : other ≡ name = (bytes_eq-Decides other name).0 asks in
          sym (ap (λ (n : List ℕ). found n (scopes_of (inner ∷ with_value name it near ∷ outer))) same
          ∙ (found-level name inner (with_value name it near ∷ outer)
          ∙ (ap (λ (k : Option (Kept A)). first_answer (meaning_of k) (found name behind)) none ∙ found-itself)))
      sees other false asks =
          is.sees other ∙ (found-level other inner (near ∷ outer)
          ∙ (ap (first_answer (meaning_of (value_in other inner))) (sym (found-another other asks)) ∙ sym (found-level other inner (with_value name it near ∷ outer))))

      keeps : (other : List ℕ) (held : Kept A) → value_in other inner ≡ Some held → (asked : Bool) → bytes_eq other name ≡ asked → held.hidden ≡ found other behind
      keeps other held has true asks =
          let clash : None ≡ Some held = sym none ∙ (ap (λ (n : List ℕ). value_in n inner) (sym ((bytes_eq-Decides other name).0 asks)) ∙ has) in
          cc clash
      keeps other held has false asks = is.hides.0 other held has ∙ sym (found-another other asks)

  -- or it does, and hides it
  module _ (kept own : Kept A) (declares : value_in name inner ≡ Some kept) (covers : own.hidden ≡ Some meaning) (means : own.meaning ≡ kept.meaning) where
    value-inner : (other : List ℕ) → value_in other (changed name own inner) ≡ (if bytes_eq other name then Some own else value_in other inner)
    value-inner other = value-changed other name own inner ∙ step (bytes_eq other name) refl
      where
        step : (asked : Bool) → bytes_eq other name ≡ asked → (if asked then replaced own (value_in other inner) else value_in other inner) ≡ (if asked then Some own else value_in other inner)
        step true asks = ap (replaced own) (ap (λ (n : List ℕ). value_in n inner) ((bytes_eq-Decides other name).0 asks) ∙ declares)
        step false asks = refl

    pub hidden_inside : ((other : List ℕ) → seen (value_in other now) ≡ seen (value_in other visible)) → AreVisible now (changed name own inner ∷ with_value name it near ∷ outer)
    hidden_inside same = record {
      sees = λ other. same other ∙ (is.sees other ∙ (found-level other inner (near ∷ outer)
          ∙ (sees other (bytes_eq other name) refl ∙ sym (found-level other (changed name own inner) (with_value name it near ∷ outer)))));
      hides = ((λ other held has. keeps other held (bytes_eq other name) refl (sym (value-inner other) ∙ has)), still-hidden);
    }
      where
        sees : (other : List ℕ) (asked : Bool) → bytes_eq other name ≡ asked
            → first_answer (meaning_of (value_in other inner)) (found other outside) ≡ first_answer (meaning_of (value_in other (changed name own inner))) (found other behind)
        sees other true asks =
            ap (λ (k : Option (Kept A)). first_answer (meaning_of k) (found other outside)) (ap (λ (n : List ℕ). value_in n inner) ((bytes_eq-Decides other name).0 asks) ∙ declares)
            ∙ (ap (λ (m : A). Some m) (sym means)
            ∙ ap (λ (k : Option (Kept A)). first_answer (meaning_of k) (found other behind)) (sym (value-inner other ∙ ap (λ (b : Bool). if b then Some own else value_in other inner) asks)))
        sees other false asks =
            ap (first_answer (meaning_of (value_in other inner))) (sym (found-another other asks))
            ∙ ap (λ (k : Option (Kept A)). first_answer (meaning_of k) (found other behind)) (sym (value-inner other ∙ ap (λ (b : Bool). if b then Some own else value_in other inner) asks))

        keeps : (other : List ℕ) (held : Kept A) (asked : Bool) → bytes_eq other name ≡ asked → (if asked then Some own else value_in other inner) ≡ Some held → held.hidden ≡ found other behind
        keeps other held true asks has =
            let same : held ≡ own = cc has in
            ap (λ (k : Kept A). k.hidden) same ∙ (covers ∙ sym (ap (λ (n : List ℕ). found n behind) ((bytes_eq-Decides other name).0 asks) ∙ found-itself))
        keeps other held false asks has = is.hides.0 other held has ∙ sym (found-another other asks)

-- the same of a list of at least two scopes
module _ {A : Type 0} (name : List ℕ) (meaning : A) (hidden before : Option A) (visible : Entries (Option A)) where
  pub none-around : (levels after : List (Entries (Kept A))) (now : Entries (Option A))
      → AreVisible visible levels → before ≡ seen (value_in name visible) → hidden ≡ around (kept_around name levels) (around (kept_here name levels) before) → 1 < length levels
      → None ≡ kept_here name levels → now ≡ changed name (Some meaning) (with_value name before visible)
      → after ≡ kept_in_around name (record { meaning = meaning; hidden = hidden }) levels → AreVisible now after
  none-around [] after now is was hides two none changes puts = absurd (omega (arith, two))
  none-around (inner ∷ []) after now is was hides two none changes puts = absurd (omega (arith, two))
  none-around (inner ∷ (near ∷ outer)) after now is was hides two none changes puts =
      visible_equal (changed name (Some meaning) (with_value name before visible)) now (inner ∷ (with_value name (record { meaning = meaning; hidden = hidden }) near ∷ outer)) after changes puts
      (seen_through name meaning hidden visible (changed name (Some meaning) (with_value name before visible)) inner near outer is
      (hides ∙ ap (λ (o : Option A). around (value_in name near) (around (value_in name inner) o)) was) (sym none) (λ other. value-put_changed other name before (Some meaning) visible))

  pub some-around : (levels after : List (Entries (Kept A))) (now : Entries (Option A)) (kept own : Kept A)
      → AreVisible visible levels → before ≡ seen (value_in name visible) → hidden ≡ around (kept_around name levels) (around (kept_here name levels) before) → 1 < length levels
      → Some kept ≡ kept_here name levels → own.hidden ≡ Some meaning → own.meaning ≡ kept.meaning → now ≡ with_value name before visible
      → after ≡ changed_in name own (kept_in_around name (record { meaning = meaning; hidden = hidden }) levels) → AreVisible now after
  some-around [] after now kept own is was hides two declares covers means puts changes = absurd (omega (arith, two))
  some-around (inner ∷ []) after now kept own is was hides two declares covers means puts changes = absurd (omega (arith, two))
  some-around (inner ∷ (near ∷ outer)) after now kept own is was hides two declares covers means puts changes =
      visible_equal (with_value name before visible) now (changed name own inner ∷ (with_value name (record { meaning = meaning; hidden = hidden }) near ∷ outer)) after puts changes
      (hidden_inside name meaning hidden visible (with_value name before visible) inner near outer is
      (hides ∙ ap (λ (o : Option A). around (value_in name near) (around (value_in name inner) o)) was) kept own (sym declares) covers means
      (λ other. same other (bytes_eq other name) refl))
    where
      same : (other : List ℕ) (asked : Bool) → bytes_eq other name ≡ asked → seen (value_in other (with_value name before visible)) ≡ seen (value_in other visible)
      same other true asks =
          ap seen (value-put other name before visible ∙ ap (λ (b : Bool). if b then Some before else value_in other visible) asks)
          ∙ (was ∙ sym (ap (λ (n : List ℕ). seen (value_in n visible)) ((bytes_eq-Decides other name).0 asks)))
      same other false asks = ap seen (value-put other name before visible ∙ ap (λ (b : Bool). if b then Some before else value_in other visible) asks)

-- and what the scopes declare
pub scopes_none_around : {A : Type 0} (name : List ℕ) (kept : Kept A) (levels after : List (Entries (Kept A))) → after ≡ kept_in_around name kept levels
    → scopes_of after ≡ declared_around name kept.meaning (scopes_of levels)
scopes_none_around {A} name kept levels after puts = ap scopes_of puts ∙ step levels
  where
    near-put : (ls : List (Entries (Kept A))) → scopes_of (kept_in name kept ls) ≡ declared name kept.meaning (scopes_of ls)
    near-put [] = refl
    near-put (near ∷ outer) = ap (λ (scope : Entries A). scope ∷ scopes_of outer) (scope-put name kept near)

    step : (ls : List (Entries (Kept A))) → scopes_of (kept_in_around name kept ls) ≡ declared_around name kept.meaning (scopes_of ls)
    step [] = refl
    step (inner ∷ outer) = ap (λ (scopes : Scopes A). scope_of inner ∷ scopes) (near-put outer)

pub scopes_some_around : {A : Type 0} (name : List ℕ) (kept own : Kept A) (inside : Kept A) (levels middle after : List (Entries (Kept A)))
    → Some inside ≡ kept_here name levels → own.meaning ≡ inside.meaning → middle ≡ kept_in_around name kept levels → after ≡ changed_in name own middle
    → scopes_of after ≡ declared_around name kept.meaning (scopes_of levels)
scopes_some_around {A} name kept own inside levels middle after here means puts changes =
    ap scopes_of (changes ∙ ap (changed_in name own) puts) ∙ (step levels here ∙ scopes_none_around name kept levels (kept_in_around name kept levels) refl)
  where
    step : (ls : List (Entries (Kept A))) → Some inside ≡ kept_here name ls → scopes_of (changed_in name own (kept_in_around name kept ls)) ≡ scopes_of (kept_in_around name kept ls)
    step [] e = refl
    step (inner ∷ outer) e = ap (λ (scope : Entries A). scope ∷ scopes_of (kept_in name kept outer)) (scope-changed name inside own.meaning own.hidden inner (sym e) means)

-- a vector with two items has two scopes
pub two-scopes : {X : Type 0} (items : List X) → 1 < length items → 1 < length (reverse items)
two-scopes items two = omega (arith, two, length-reverse items)
