-- The variables and the registers of frames, by what stands.
use Rattle.std.proofs.Common.{◌≡◌, ℕ, List, [], ◌∷◌, map, Bool, true, false, refl, sym, ap, ◌∙◌, Some}
use Rattle.std.specs.Prelude.{not, if◌then◌else◌, nat_eq, nat_lt}
use Rattle.std.specs.List.{list_any}
use Rattle.std.specs.Option.{option_map}
use Rattle.flow.specs.declared.flow_graph.Width.{Width}
use Rattle.flow.specs.Holding.{Held, Owned, width, held_by, size_of, put, put_width, emptied, emptied_widths, put_owned, put_variable, left, left_variables}
use Rattle.flow.specs.Standing.{with_variables}
use Rattle.flow.specs.Keeping.{variables_of}

pub map-put : (new : Held) (held : List Held) → map width (put new held) ≡ put_width (width new) (map width held)
map-put new [] = refl
map-put new (first ∷ rest) = by_order (nat_lt new.register first.register) (nat_eq first.register new.register) (map-put new rest)
  where
    by_order : (less same : Bool) → map width (put new rest) ≡ put_width (width new) (map width rest) →
        map width (if less then new ∷ first ∷ rest else (if same then new ∷ rest else first ∷ put new rest))
        ≡ (if less then width new ∷ width first ∷ map width rest
        else (if same then width new ∷ map width rest else width first ∷ put_width (width new) (map width rest)))
    by_order true same is = refl
    by_order false true is = refl
    by_order false false is = ap (λ (more : List Width). width first ∷ more) is

pub map-emptied : (gone : List ℕ) (held : List Held) → map width (emptied gone held) ≡ emptied_widths gone (map width held)
map-emptied gone [] = refl
map-emptied gone (first ∷ rest) = by_test (not (list_any (nat_eq first.register) gone)) (map-emptied gone rest)
  where
    by_test : (stays : Bool) → map width (emptied gone rest) ≡ emptied_widths gone (map width rest) →
        map width (if stays then first ∷ emptied gone rest else emptied gone rest)
        ≡ (if stays then width first ∷ emptied_widths gone (map width rest) else emptied_widths gone (map width rest))
    by_test true is = ap (λ (more : List Width). width first ∷ more) is
    by_test false is = is

pub emptied_none : (widths : List Width) → emptied_widths [] widths ≡ widths
emptied_none [] = refl
emptied_none (first ∷ rest) = ap (λ (more : List Width). first ∷ more) (emptied_none rest)

pub map-put_emptied : (new : Held) (gone : List ℕ) (held : List Held) →
    map width (put new (emptied gone held)) ≡ put_width (width new) (emptied_widths gone (map width held))
map-put_emptied new gone held = map-put new (emptied gone held) ∙ ap (λ (more : List Width). put_width (width new) more) (map-emptied gone held)

pub map-put_none : (new : Held) (held : List Held) →
    map width (put new held) ≡ put_width (width new) (emptied_widths [] (map width held))
map-put_none new held = map-put new held ∙ ap (λ (more : List Width). put_width (width new) more) (sym (emptied_none (map width held)))

pub size_of-held : (held : List Held) (register : ℕ) → size_of (map width held) register ≡ option_map (λ one. one.size) (held_by held register)
size_of-held [] register = refl
size_of-held (first ∷ rest) register = by_test (nat_eq first.register register) (size_of-held rest register)
  where
    by_test : (here : Bool) → size_of (map width rest) register ≡ option_map (λ one. one.size) (held_by rest register) →
        (if here then Some first.size else size_of (map width rest) register)
        ≡ option_map (λ one. one.size) (if here then Some first else held_by rest register)
    by_test true is = refl
    by_test false is = is

pub variables-put : (new : Owned) (owned : List Owned) → variables_of (put_owned new owned) ≡ put_variable new.variable (variables_of owned)
variables-put new [] = refl
variables-put new (first ∷ rest) = by_order (nat_lt new.variable first.variable) (variables-put new rest)
  where
    by_order : (less : Bool) → variables_of (put_owned new rest) ≡ put_variable new.variable (variables_of rest) →
        variables_of (if less then new ∷ first ∷ rest else first ∷ put_owned new rest)
        ≡ (if less then new.variable ∷ first.variable ∷ variables_of rest else first.variable ∷ put_variable new.variable (variables_of rest))
    by_order true is = refl
    by_order false is = ap (λ (more : List ℕ). first.variable ∷ more) is

pub variables-left : (gone : List ℕ) (owned : List Owned) → variables_of (left gone owned) ≡ left_variables gone (variables_of owned)
variables-left gone [] = refl
variables-left gone (first ∷ rest) = by_test (not (list_any (nat_eq first.variable) gone)) (variables-left gone rest)
  where
    by_test : (stays : Bool) → variables_of (left gone rest) ≡ left_variables gone (variables_of rest) →
        variables_of (if stays then first ∷ left gone rest else left gone rest)
        ≡ (if stays then first.variable ∷ left_variables gone (variables_of rest) else left_variables gone (variables_of rest))
    by_test true is = ap (λ (more : List ℕ). first.variable ∷ more) is
    by_test false is = is

-- one variable more, and then others
pub variables-more : (variable block : ℕ) (rest : List ℕ) (owned : List Owned) →
    with_variables rest (variables_of (put_owned (record { variable = variable; block = block }) owned)) ≡ with_variables (variable ∷ rest) (variables_of owned)
variables-more variable block rest owned = ap (λ (vs : List ℕ). with_variables rest vs) (variables-put (record { variable = variable; block = block }) owned)
