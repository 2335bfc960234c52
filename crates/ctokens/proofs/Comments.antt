-- Comments: the row that is found ends with the first `*/`.
use Rattle.std.specs.Prelude.{◌≡◌, ℕ, zero, suc, ◌+◌, ◌<◌, Bool, true, false, ◌&&◌, ◌⊎◌, List, [], ◌∷◌, nat_eq, Option, None, Some, option_map, if◌then◌else◌}
use Rattle.std.proofs.Common.{refl, sym, ◌∙◌, ap, arith, inl, inr, eq-eqb}
use Rattle.std.proofs.lemmas.Bool.{eqb-true}
use Rattle.ctokens.proofs.Choices.{both_true}
use Rattle.ctokens.proofs.Quotes.{next}
use Rattle.ctokens.specs.Lengths.{move, closing_length}
use Rattle.ctokens.specs.Pieces.{closes_at}
use Rattle.ctokens.specs.declared.closing.Closing.TheVariants.{Comment}
use Rattle.ctokens.specs.declared.closing.Move.{Move}
use Rattle.ctokens.specs.declared.closing.Move.TheVariants.{Goes, Closes}

-- whether a `/` stands at the front
abbrev begins_with_slash : List ℕ → Bool
begins_with_slash [] = false
begins_with_slash (byte ∷ others) = nat_eq byte 47

-- the first `*/`, where a `*` may stand before the text
pub record ClosesFirst (kept : Bool) (text : List ℕ) (place : ℕ) : Type 0 where
  pub there : closes_at text place ≡ true
  pub first : (earlier : ℕ) → earlier < place → closes_at text earlier ≡ false
  pub apart : kept ≡ true → begins_with_slash text ≡ false

-- `*/` at the front, by its two bytes
opens : (byte : ℕ) (others : List ℕ) → nat_eq byte 42 ≡ true → begins_with_slash others ≡ true → closes_at (byte ∷ others) 0 ≡ true
opens byte [] star slash = absurd cc
opens byte (second ∷ more) star slash =
    let is_star : byte ≡ 42 = eqb-true byte 42 star in
    let is_slash : second ≡ 47 = eqb-true second 47 slash in
    rw (is_star, is_slash) refl

parts : (byte : ℕ) (others : List ℕ) → closes_at (byte ∷ others) 0 ≡ true → (byte ≡ 42) × (begins_with_slash others ≡ true)
parts byte [] h = let none = (both_true (nat_eq 42 byte) false h).1 in absurd cc
parts byte (second ∷ more) h =
    let (star, later) = both_true (nat_eq 42 byte) (nat_eq 47 second && true) h in
    let (slash, end) = both_true (nat_eq 47 second) true later in
    let is_slash : second ≡ 47 = sym (eqb-true 47 second slash) in
    (sym (eqb-true 42 byte star), rw is_slash refl)

closes_not : (byte : ℕ) (others : List ℕ) → (nat_eq byte 42 ≡ true → begins_with_slash others ≡ false) → closes_at (byte ∷ others) 0 ≡ false
closes_not byte others apart = step (closes_at (byte ∷ others) 0) refl
  where
    step : (test : Bool) → closes_at (byte ∷ others) 0 ≡ test → test ≡ false
    step true is =
        let (star, slash) = parts byte others is in
        let clash : true ≡ false = sym slash ∙ apart (eq-eqb byte 42 star) in absurd cc
    step false is = refl

no_slash_behind : (byte : ℕ) (others : List ℕ) → closes_at (byte ∷ others) 0 ≡ false → nat_eq byte 42 ≡ true → begins_with_slash others ≡ false
no_slash_behind byte others none star = step (begins_with_slash others) refl
  where
    step : (test : Bool) → begins_with_slash others ≡ test → test ≡ false
    step true is = let clash : false ≡ true = sym none ∙ opens byte others star is in absurd cc
    step false is = refl

moves_on : (kept : Bool) (byte : ℕ) → (kept && nat_eq byte 47) ≡ false → move Comment kept byte ≡ Goes (nat_eq byte 42)
moves_on kept byte h = ap (λ (b : Bool). if b then Closes else Goes (nat_eq byte 42)) h

no_close : (kept : Bool) (byte : ℕ) → (kept ≡ true → nat_eq byte 47 ≡ false) → (kept && nat_eq byte 47) ≡ false
no_close true byte apart = apart refl
no_close false byte apart = refl

behind_star : (text : List ℕ) → begins_with_slash text ≡ true → closing_length Comment true text ≡ Some 1
behind_star [] h = absurd cc
behind_star (byte ∷ others) h = ap (λ (b : Bool). next Comment (if b then Closes else Goes (nat_eq byte 42)) others) h

nothing_closes : (place : ℕ) → closes_at [] place ≡ true → ⊥
nothing_closes zero h = absurd cc
nothing_closes (suc place) h = absurd cc

pub first_is_found : (kept : Bool) (text : List ℕ) (place : ℕ) → ClosesFirst kept text place → closing_length Comment kept text ≡ Some (place + 2)
first_is_found kept [] place first = absurd (nothing_closes place first.there)
first_is_found kept (byte ∷ others) zero first =
    let (star, slash) = parts byte others first.there in
    ap (λ (to : Move). next Comment to others) (moves_on kept byte (no_close kept byte first.apart))
    ∙ (ap (λ (b : ℕ). next Comment (Goes (nat_eq b 42)) others) star ∙ ap (option_map (λ (n : ℕ). 1 + n)) (behind_star others slash))
first_is_found kept (byte ∷ others) (suc place) first =
    let tail = first_is_found (nat_eq byte 42) others place
    (record {
      there = first.there;
      first = λ earlier before. first.first (suc earlier) (omega arith);
      apart = λ star. no_slash_behind byte others (first.first 0 (omega arith)) star;
    }) in
    let total : 1 + (place + 2) ≡ suc place + 2 = omega arith in
    ap (λ (to : Move). next Comment to others) (moves_on kept byte (no_close kept byte first.apart))
    ∙ (ap (option_map (λ (n : ℕ). 1 + n)) tail ∙ ap Some total)

-- what is found: a `/` behind the `*` before the text, or the first `*/` in it
abbrev FoundFirst : Bool → List ℕ → ℕ → Type 0
FoundFirst kept text count =
    ((place : ℕ) × (count ≡ place + 2) × ClosesFirst kept text place) ⊎ ((kept ≡ true) × (begins_with_slash text ≡ true))

found_is_first : (kept : Bool) (text : List ℕ) (count : ℕ) → closing_length Comment kept text ≡ Some count → FoundFirst kept text count
found_is_first kept [] count h = absurd cc
found_is_first kept (byte ∷ others) count h = step (kept && nat_eq byte 47) refl h (found_is_first (nat_eq byte 42) others)
  where
    apart : (kept : Bool) → (kept && nat_eq byte 47) ≡ false → kept ≡ true → nat_eq byte 47 ≡ false
    apart true test is = test
    apart false test is = absurd cc

    before : (place : ℕ) → ClosesFirst (nat_eq byte 42) others place → (earlier : ℕ) → earlier < suc place → closes_at (byte ∷ others) earlier ≡ false
    before place first zero within = closes_not byte others first.apart
    before place first (suc earlier) within = first.first earlier (omega arith)

    joined : (rest : ℕ) → 1 + rest ≡ count → (kept && nat_eq byte 47) ≡ false → closing_length Comment (nat_eq byte 42) others ≡ Some rest
        → FoundFirst (nat_eq byte 42) others rest → FoundFirst kept (byte ∷ others) count
    joined rest is test found (inl (place, is_rest, first)) =
        inl (suc place, omega (arith, is, is_rest), record { there = first.there; first = before place first; apart = apart kept test })
    joined rest is test found (inr (star, slash)) =
        let one : Some rest ≡ Some 1 = sym found ∙ (ap (λ (b : Bool). closing_length Comment b others) star ∙ behind_star others slash) in
        let is_one : rest ≡ 1 = cc in
        inl (0, omega (arith, is, is_one), record { there = opens byte others star slash; first = λ earlier within. absurd (omega arith); apart = apart kept test })

    goes : (found : Option ℕ) → closing_length Comment (nat_eq byte 42) others ≡ found → option_map (λ (n : ℕ). 1 + n) found ≡ Some count
        → (kept && nat_eq byte 47) ≡ false
        → ((rest : ℕ) → closing_length Comment (nat_eq byte 42) others ≡ Some rest → FoundFirst (nat_eq byte 42) others rest) → FoundFirst kept (byte ∷ others) count
    goes None is h test tail = absurd cc
    goes (Some rest) is h test tail = let same : 1 + rest ≡ count = cc in joined rest same test is (tail rest is)

    step : (test : Bool) → (kept && nat_eq byte 47) ≡ test → next Comment (if test then Closes else Goes (nat_eq byte 42)) others ≡ Some count
        → ((rest : ℕ) → closing_length Comment (nat_eq byte 42) others ≡ Some rest → FoundFirst (nat_eq byte 42) others rest) → FoundFirst kept (byte ∷ others) count
    step true test h tail = inr (both_true kept (nat_eq byte 47) test)
    step false test h tail = goes (closing_length Comment (nat_eq byte 42) others) refl h test tail

-- what is found where no `*` stands before the text
pub found_closes_first : (text : List ℕ) (count : ℕ) → closing_length Comment false text ≡ Some count → (place : ℕ) × (count ≡ place + 2) × ClosesFirst false text place
found_closes_first text count h = of_found (found_is_first false text count h)
  where
    of_found : FoundFirst false text count → (place : ℕ) × (count ≡ place + 2) × ClosesFirst false text place
    of_found (inl found) = found
    of_found (inr (kept, slash)) = absurd cc
