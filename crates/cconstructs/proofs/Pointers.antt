-- Where the `*` of a function pointer stands, by what stands before it and behind it.
use Rattle.std.proofs.Common.{◌≡◌, ℕ, zero, suc, ◌+◌, Bool, true, false, not, ◌&&◌, IsTrue, refl, ap, sym, ◌∙◌, subst, ◌⊎◌, inl, inr, List, [], ◌∷◌, Some, drop, codes, arith}
use Rattle.std.specs.Prelude.{slice_get}
use Rattle.cgrammar.proofs.Truth.{and-left, and-right, and-both, or-cases, or-left, or-right, not-true}
use Rattle.cgrammar.specs.Terminals.{Terminal, is_mark, is_name, IsMark}
use Rattle.cconstructs.specs.Constructs.{is_header, IsCalled, IsNotHeaded, IsPointed, Unnamed, Identified}
use Rattle.cconstructs.specs.Finding.{is_called, is_pointed}
use Rattle.cconstructs.proofs.Options.{no_some, same_some}

-- the tokens behind the one at a place may follow the `*` of a function pointer, and `(` stands before it
abbrev pub pointed_at : Bool → Bool → List Terminal → ℕ → Bool
pointed_at opened headed [] at = false
pointed_at opened headed (token ∷ others) zero = opened && is_pointed others
pointed_at opened headed (token ∷ others) (suc at) = pointed_at (is_mark (codes "(") token && not headed) (is_header token) others at

called_sound : (row : List Terminal) → is_called row ≡ true → IsCalled row
called_sound [] is = cc is
called_sound (closing ∷ []) is = cc is
called_sound (closing ∷ (opening ∷ others)) is = record {
  closing = closing;
  opening = opening;
  others = others;
  is = refl;
  closes = and-left (is_mark (codes ")") closing) (is_mark (codes "(") opening) is;
  opens = and-right (is_mark (codes ")") closing) (is_mark (codes "(") opening) is;
}

called_complete : (row : List Terminal) → IsCalled row → is_called row ≡ true
called_complete row called = ap is_called called.is ∙ and-both called.closes called.opens

pointed_sound : (row : List Terminal) → is_pointed row ≡ true → IsPointed row
pointed_sound [] is = cc is
pointed_sound (first ∷ others) is = step (or-cases (is_called (first ∷ others)) (is_name first && is_called others) is)
  where
    step : (is_called (first ∷ others) ≡ true) ⊎ ((is_name first && is_called others) ≡ true) → IsPointed (first ∷ others)
    step (inl called) = Unnamed (called_sound (first ∷ others) called)
    step (inr named) = Identified first (and-left (is_name first) (is_called others) named) (called_sound others (and-right (is_name first) (is_called others) named))

first_called : (row : List Terminal) → is_called row ≡ true → is_pointed row ≡ true
first_called [] is = cc is
first_called (first ∷ others) is = or-left (is_name first && is_called others) is

pointed_complete : (row : List Terminal) → IsPointed row → is_pointed row ≡ true
pointed_complete row (Unnamed called) = first_called row (called_complete row called)
pointed_complete _ (Identified {row} name named called) = or-right (is_called (name ∷ row)) (and-both named (called_complete row called))

-- no such word stands before the place
abbrev pub NotHeaded : Bool → List Terminal → ℕ → Type 0
NotHeaded headed row zero = headed ≡ false
NotHeaded headed row (suc before) = (token : Terminal) → slice_get row before ≡ Some token → IsTrue (not (is_header token))

pub record PointedAt (headed : Bool) (row : List Terminal) (before : ℕ) : Type 0 where
  pub opening : Terminal
  pub there : slice_get row before ≡ Some opening
  pub opens : IsMark (codes "(") opening
  pub apart : NotHeaded headed row before
  pub behind : IsPointed (drop (suc (suc before)) row)

apart_later : (headed : Bool) (token : Terminal) (others : List Terminal) (before : ℕ) → NotHeaded (is_header token) others before → NotHeaded headed (token ∷ others) (suc before)
apart_later headed token others zero apart = λ other is. ap not (ap is_header (sym (same_some token other is)) ∙ apart)
apart_later headed token others (suc before) apart = apart

later_apart : (headed : Bool) (token : Terminal) (others : List Terminal) (before : ℕ) → NotHeaded headed (token ∷ others) (suc before) → NotHeaded (is_header token) others before
later_apart headed token others zero apart = not-true (is_header token) (apart token refl)
later_apart headed token others (suc before) apart = apart

place_sound : (row : List Terminal) (opened headed : Bool) (before : ℕ) → pointed_at opened headed row (suc before) ≡ true → PointedAt headed row before
place_sound [] opened headed before is = cc is
place_sound (token ∷ []) opened headed zero is = cc is
place_sound (token ∷ (star ∷ others)) opened headed zero is =
    let front = and-left (is_mark (codes "(") token && not headed) (is_pointed others) is in
    record {
      opening = token;
      there = refl;
      opens = and-left (is_mark (codes "(") token) (not headed) front;
      apart = not-true headed (and-right (is_mark (codes "(") token) (not headed) front);
      behind = pointed_sound others (and-right (is_mark (codes "(") token && not headed) (is_pointed others) is);
    }
place_sound (token ∷ others) opened headed (suc before) is =
    let further = place_sound others (is_mark (codes "(") token && not headed) (is_header token) before is in
    record {
      opening = further.opening;
      there = further.there;
      opens = further.opens;
      apart = apart_later headed token others before further.apart;
      behind = further.behind;
    }

place_complete : (row : List Terminal) (opened headed : Bool) (before : ℕ) (star : Terminal) → slice_get row (suc before) ≡ Some star → PointedAt headed row before
    → pointed_at opened headed row (suc before) ≡ true
place_complete [] opened headed before star there is = no_some star there
place_complete (token ∷ []) opened headed zero star there is = no_some star there
place_complete (token ∷ (next ∷ others)) opened headed zero star there is =
    and-both (and-both (ap (is_mark (codes "(")) (same_some token is.opening is.there) ∙ is.opens) (ap not is.apart)) (pointed_complete others is.behind)
place_complete (token ∷ others) opened headed (suc before) star there is =
    place_complete others (is_mark (codes "(") token && not headed) (is_header token) before star there (record {
      opening = is.opening;
      there = is.there;
      opens = is.opens;
      apart = later_apart headed token others before is.apart;
      behind = is.behind;
    })

-- as a construct has it
pub record IsStarAt (row : List Terminal) (at : ℕ) : Type 0 where
  pub before : ℕ
  pub opening : Terminal
  pub place : at ≡ suc before
  pub there : slice_get row before ≡ Some opening
  pub opens : IsMark (codes "(") opening
  pub apart : IsNotHeaded row before
  pub behind : IsPointed (drop (before + 2) row)

two_more : (n : ℕ) → n + 2 ≡ suc (suc n)
two_more n = omega arith

pub star_sound : (row : List Terminal) (at : ℕ) → pointed_at false false row at ≡ true → IsStarAt row at
star_sound [] at is = cc is
star_sound (token ∷ others) zero is = cc is
star_sound (token ∷ others) (suc before) is =
    let found = place_sound (token ∷ others) false false before is in
    record {
      before = before;
      opening = found.opening;
      place = refl;
      there = found.there;
      opens = found.opens;
      apart = apart before found.apart;
      behind = subst (λ (n : ℕ). IsPointed (drop n (token ∷ others))) (sym (two_more before)) found.behind;
    }
  where
    apart : (place : ℕ) → NotHeaded false (token ∷ others) place → IsNotHeaded (token ∷ others) place
    apart zero h = λ k t e there. absurd (omega arith)
    apart (suc k) h = λ n t e there. let same : k ≡ n = omega arith in h t (ap (slice_get (token ∷ others)) same ∙ there)

pub star_complete : (row : List Terminal) (before : ℕ) (opening star : Terminal) → slice_get row before ≡ Some opening → IsMark (codes "(") opening
    → slice_get row (suc before) ≡ Some star → IsNotHeaded row before → IsPointed (drop (before + 2) row) → pointed_at false false row (suc before) ≡ true
star_complete row before opening star there opens next apart behind =
    place_complete row false false before star next (record {
      opening = opening;
      there = there;
      opens = opens;
      apart = not_headed before apart;
      behind = subst (λ (n : ℕ). IsPointed (drop n row)) (two_more before) behind;
    })
  where
    not_headed : (place : ℕ) → IsNotHeaded row place → NotHeaded false row place
    not_headed zero h = refl
    not_headed (suc k) h = λ t is. h k t refl is
