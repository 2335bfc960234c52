-- What more warnings tell.
use Rattle.std.proofs.Common.{◌≡◌, ℕ, zero, suc, ◌<◌, ◌+◌, List, [], ◌∷◌, ◌++◌, refl, sym, ap, subst, ◌∙◌, ◌⊎◌, inl, inr, Some, length, get_or, arith}
use Rattle.std.specs.Prelude.{slice_get}
use Rattle.std.proofs.lemmas.Bool.{cases_lt}
use Rattle.std.proofs.lemmas.Option.{slice_get-get_or}
use Rattle.cbase.specs.declared.place.Place.{Place}
use Rattle.trail.proofs.Sound.{same_some, contained}
use Rattle.driver.specs.declared.verdict.Warning.{Warning}
use Rattle.driver.specs.Telling.{IsAmong, IsToldBy, warning_of, IsNoted, IsFrom, AreNoted}

among_front : (warnings : List Warning) (new warning : Warning) → IsAmong warnings warning → IsAmong (warnings ++ new ∷ []) warning
among_front warnings new warning among = record { number = among.number; there = front warnings among.number among.there }
  where
    front : (items : List Warning) (number : ℕ) → slice_get items number ≡ Some warning → slice_get (items ++ new ∷ []) number ≡ Some warning
    front [] number there = absurd cc
    front (first ∷ rest) zero there = there
    front (first ∷ rest) (suc number) there = front rest number there

among_last : (warnings : List Warning) (new : Warning) → IsAmong (warnings ++ new ∷ []) new
among_last warnings new = record { number = length warnings; there = last warnings }
  where
    last : (items : List Warning) → slice_get (items ++ new ∷ []) (length items) ≡ Some new
    last [] = refl
    last (first ∷ rest) = last rest

among_either : (warnings : List Warning) (new warning : Warning) → IsAmong (warnings ++ new ∷ []) warning → IsAmong warnings warning ⊎ (warning ≡ new)
among_either warnings new warning among = either warnings among.number among.there
  where
    either : (items : List Warning) (number : ℕ) → slice_get (items ++ new ∷ []) number ≡ Some warning → IsAmong items warning ⊎ (warning ≡ new)
    either [] zero there = inr (sym (same_some new warning there))
    either [] (suc number) there = absurd cc
    either (first ∷ rest) zero there = inl (record { number = zero; there = there })
    either (first ∷ rest) (suc number) there = elim (either rest number there) [
      | inl old ↦ inl (record { number = suc old.number; there = old.there })
      | inr one ↦ inr one
    ]

pub noted_there : (before after : List Warning) (place : Place) (kind entry edge : ℕ) → after ≡ before ++ warning_of place kind entry edge ∷ [] → IsNoted before after (warning_of place kind entry edge)
noted_there before after place kind entry edge is =
    let new : Warning = warning_of place kind entry edge in
    subst (λ (ws : List Warning). IsNoted before ws new) (sym is) (record {
      keeps = λ from token kind told. record { warning = told.warning; among = among_front before new told.warning told.among; entry_is = told.entry_is; token_is = told.token_is; kind_is = told.kind_is };
      told = record { warning = new; among = among_last before new; entry_is = refl; token_is = refl; kind_is = refl };
      each = λ warning among. among_either before new warning among;
    })

pub noted_first : (warnings : List Warning) (place : Place) (entry edge : ℕ) (kinds : List ℕ) → AreNoted warnings warnings place entry edge kinds 0
noted_first warnings place entry edge kinds = record {
  keeps = λ from token kind told. told;
  told = λ which kind less there. absurd (omega arith);
  each = λ warning among. inl among;
}

pub noted_next : (before between after : List Warning) (place : Place) (entry edge : ℕ) (kinds : List ℕ) (count : ℕ) → AreNoted before between place entry edge kinds count → count < length kinds →
    IsNoted between after (warning_of place (get_or kinds count 0) entry edge) → AreNoted before after place entry edge kinds (count + 1)
noted_next before between after place entry edge kinds count so within one =
    let there : slice_get kinds count ≡ Some (get_or kinds count 0) = slice_get-get_or kinds count 0 within in
    record {
      keeps = λ from token kind told. one.keeps from token kind (so.keeps from token kind told);
      told = λ which kind less there'. elim (cases_lt which count) [
        | inl old ↦ one.keeps entry place.at kind (so.told which kind old there')
        | inr late ↦ let same : which ≡ count = omega arith in
            let kind_is : get_or kinds count 0 ≡ kind = same_some (get_or kinds count 0) kind (sym there ∙ (ap (slice_get kinds) (sym same) ∙ there')) in
            subst (λ (k : ℕ). IsToldBy after entry place.at k) kind_is one.told
      ];
      each = λ warning among. elim (one.each warning among) [
        | inl old ↦ so.each warning old
        | inr new ↦ inr (subst (λ (w : Warning). IsFrom place entry edge kinds w) (sym new)
            (record { place_is = refl; entry_is = refl; edge_is = refl; kind_is = contained kinds count (get_or kinds count 0) there }))
      ];
    }
