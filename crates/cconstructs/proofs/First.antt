-- The first construct that is found is the first that there is.
use Rattle.std.proofs.Common.{◌≡◌, ℕ, zero, suc, ◌+◌, ◌<◌, nat_lt, Bool, true, false, refl, ap, sym, subst, ◌∙◌, List, [], ◌∷◌, Option, None, Some, ◌↔◌, arith}
use Rattle.std.proofs.lemmas.Bool.{ltb-false}
use Rattle.std.proofs.lemmas.Bool.Decides.{Decides-ltb}
use Rattle.cgrammar.specs.Terminals.{Terminal}
use Rattle.cconstructs.specs.declared.before.Before.{Before}
use Rattle.cconstructs.specs.declared.found.Found.{Found}
use Rattle.cconstructs.specs.Constructs.{HasNoConstruct, IsFirstConstruct}
use Rattle.cconstructs.specs.Finding.{at_front, behind, first_from, found_at, found_or, number_at}
use Rattle.cconstructs.proofs.Options.{no_some, same_some}
use Rattle.cconstructs.proofs.Numbers.{number_complete, number_from, number_sound}

none_from : (row : List Terminal) (at : ℕ) (before : Before) → first_from at before row ≡ None → (place : ℕ) → number_from before row place ≡ None
unfolding first_from
none_from [] at before is place = refl
none_from (token ∷ others) at before is place =
    step (number_at before (token ∷ others)) refl (none_from others (at + 1) (behind before (token ∷ others))) is place
  where
    step : (o : Option ℕ) → number_at before (token ∷ others) ≡ o
        → (first_from (at + 1) (behind before (token ∷ others)) others ≡ None → (n : ℕ) → number_from (behind before (token ∷ others)) others n ≡ None)
        → found_or at o (first_from (at + 1) (behind before (token ∷ others)) others) ≡ None → (n : ℕ) → number_from before (token ∷ others) n ≡ None
    step (Some number) e further h n = cc h
    step None e further h zero = e
    step None e further h (suc n) = further h n

pub record FirstAt (row : List Terminal) (at : ℕ) (before : Before) (found : Found) : Type 0 where
  pub place : ℕ
  pub counts : found.at ≡ at + place
  pub is : number_from before row place ≡ Some found.number
  pub first : (earlier : ℕ) → earlier < place → number_from before row earlier ≡ None

some_from : (row : List Terminal) (at : ℕ) (before : Before) (found : Found) → first_from at before row ≡ Some found → FirstAt row at before found
unfolding first_from
some_from [] at before found is = no_some found is
some_from (token ∷ others) at before found is =
    step (number_at before (token ∷ others)) refl (some_from others (at + 1) (behind before (token ∷ others)) found) is
  where
    earlier_none : number_at before (token ∷ others) ≡ None → (place : ℕ)
        → ((earlier : ℕ) → earlier < place → number_from (behind before (token ∷ others)) others earlier ≡ None)
        → (earlier : ℕ) → earlier < suc place → number_from before (token ∷ others) earlier ≡ None
    earlier_none e place none zero less = e
    earlier_none e place none (suc earlier) less = none earlier (omega arith)

    step : (o : Option ℕ) → number_at before (token ∷ others) ≡ o
        → (first_from (at + 1) (behind before (token ∷ others)) others ≡ Some found → FirstAt others (at + 1) (behind before (token ∷ others)) found)
        → found_or at o (first_from (at + 1) (behind before (token ∷ others)) others) ≡ Some found → FirstAt (token ∷ others) at before found
    step (Some number) e further h =
        let one : record { number = number; at = at } ≡ found = same_some _ found h in
        record {
          place = 0;
          counts = ap (λ (f : Found). f.at) (sym one) ∙ omega arith;
          is = e ∙ ap (λ (f : Found). Some f.number) one;
          first = λ earlier less. absurd (omega arith);
        }
    step None e further h =
        let rest = further h in
        record {
          place = suc rest.place;
          counts = omega (arith, rest.counts);
          is = rest.is;
          first = earlier_none e rest.place rest.first;
        }

sound : (row : List Terminal) (at number : ℕ) → first_from 0 at_front row ≡ Some (found_at number at) → IsFirstConstruct row at number
sound row at number is =
    let found = some_from row 0 at_front (found_at number at) is in
    let place : found.place ≡ at = omega (arith, found.counts) in
    record {
      is = number_sound row at number (ap (number_from at_front row) (sym place) ∙ found.is);
      first = λ earlier other less construct.
          no_some other (sym (found.first earlier (omega arith)) ∙ number_complete row earlier other construct);
    }

complete : (row : List Terminal) (at number : ℕ) → IsFirstConstruct row at number → first_from 0 at_front row ≡ Some (found_at number at)
complete row at number is = step (first_from 0 at_front row) refl
  where
    step : (o : Option Found) → first_from 0 at_front row ≡ o → first_from 0 at_front row ≡ Some (found_at number at)
    step None e = no_some number (sym (none_from row 0 at_front e at) ∙ number_complete row at number is.is)
    step (Some found) e =
        let there = some_from row 0 at_front found e in
        e ∙ sym (order found there.place (omega (arith, there.counts)) there.is there.first (nat_lt there.place at) (nat_lt at there.place) refl refl)
      where
        same : (found : Found) (place : ℕ) → found.at ≡ place → place ≡ at → number_from at_front row place ≡ Some found.number
            → ◌≡◌ {A = Option Found} (Some (found_at number at)) (Some found)
        same found place counts here there =
            let numbers : number ≡ found.number =
            same_some number found.number (sym (number_complete row at number is.is) ∙ (ap (number_from at_front row) (sym here) ∙ there)) in
            let places : at ≡ found.at = sym (counts ∙ here) in
            λ i. Some (found_at (numbers i) (places i))

        order : (found : Found) (place : ℕ) → found.at ≡ place → number_from at_front row place ≡ Some found.number
            → ((earlier : ℕ) → earlier < place → number_from at_front row earlier ≡ None)
            → (before behind : Bool) → nat_lt place at ≡ before → nat_lt at place ≡ behind
            → ◌≡◌ {A = Option Found} (Some (found_at number at)) (Some found)
        order found place counts there first true behind less more =
            absurd (is.first place found.number ((Decides-ltb place at).0 less) (number_sound row place found.number there))
        order found place counts there first false true less more =
            no_some number (sym (first at ((Decides-ltb at place).0 more)) ∙ number_complete row at number is.is)
        order found place counts there first false false less more = same found place counts (equal less more) there
          where
            equal : nat_lt place at ≡ false → nat_lt at place ≡ false → place ≡ at
            equal a b = omega (arith, ltb-false place at a, ltb-false at place b)

pub first_exact : (row : List Terminal) (at number : ℕ) → (first_from 0 at_front row ≡ Some (found_at number at)) ↔ IsFirstConstruct row at number
first_exact row at number = (sound row at number, complete row at number)

pub none_exact : (row : List Terminal) → (first_from 0 at_front row ≡ None) ↔ HasNoConstruct row
none_exact row = (none, found)
  where
    none : first_from 0 at_front row ≡ None → HasNoConstruct row
    none is = λ at number construct. no_some number (sym (none_from row 0 at_front is at) ∙ number_complete row at number construct)

    found : HasNoConstruct row → first_from 0 at_front row ≡ None
    found empty = step (first_from 0 at_front row) refl
      where
        step : (o : Option Found) → first_from 0 at_front row ≡ o → first_from 0 at_front row ≡ None
        step None e = e
        step (Some one) e =
            let there = some_from row 0 at_front one e in
            absurd (empty there.place one.number (number_sound row there.place one.number there.is))

-- the same of an answer that is what is found
pub answer_exact : (row : List Terminal) (answer : Option Found) → answer ≡ first_from 0 at_front row → (at number : ℕ)
    → (answer ≡ Some (found_at number at)) ↔ IsFirstConstruct row at number
answer_exact row answer is at number = subst (λ (o : Option Found). (o ≡ Some (found_at number at)) ↔ IsFirstConstruct row at number) (sym is) (first_exact row at number)
