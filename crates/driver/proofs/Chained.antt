-- Those entries are marked to which chains of steps without loss lead.
use Rattle.std.proofs.Common.{◌≡◌, ℕ, zero, suc, ◌+◌, ◌<◌, ◌↔◌, Bool, true, false, ◌&&◌, List, [], ◌∷◌, ◌++◌, Option, None, Some, length, length-append, refl, sym, ◌∙◌, ap, subst, inl, inr, arith}
use Rattle.std.specs.Prelude.{slice_index_or}
use Rattle.std.proofs.lemmas.Bool.{false≢true, cases_lt, and_parts}
use Rattle.trail.specs.declared.trail.Cause.{Cause}
use Rattle.trail.specs.declared.trail.Cause.TheVariants.{Start, Step, Fold, Coarse}
use Rattle.trail.specs.declared.trail.Entry.{Entry}
use Rattle.trail.specs.Trail.{At, IsReal, RealStart, RealStep}
use Rattle.trail.proofs.Sound.{same_some}
use Rattle.driver.specs.Chains.{IsFromEarlier, AreFromEarlier, is_none, leads_on, AreMarked}

pub marked_first : (trail : List Entry) → AreMarked trail [] 0
marked_first trail = record { long = refl; is = λ number less. absurd (omega arith) }

front_mark : (marks : List Bool) (mark : Bool) (number : ℕ) → number < length marks → slice_index_or (marks ++ mark ∷ []) number false ≡ slice_index_or marks number false
front_mark [] mark number less = absurd (omega arith)
front_mark (first ∷ rest) mark zero less = refl
front_mark (first ∷ rest) mark (suc number) less = front_mark rest mark number (omega arith)

last_mark : (marks : List Bool) (mark : Bool) → slice_index_or (marks ++ mark ∷ []) (length marks) false ≡ mark
last_mark [] mark = refl
last_mark (first ∷ rest) mark = last_mark rest mark

is_none_of : (loss : Option ℕ) → is_none loss ≡ true → loss ≡ None
is_none_of None is = refl
is_none_of (Some loss) is = absurd cc

and_both : (a b : Bool) → a ≡ true → b ≡ true → (a && b) ≡ true
and_both a b x y = cc

real_start : (trail : List Entry) (number : ℕ) (entry : Entry) → At trail number entry → entry.cause ≡ Start → IsReal trail number
real_start trail number entry there is = RealStart number entry there is

real_step : (trail : List Entry) (number from edge result : ℕ) (loss : Option ℕ) (entry : Entry) → At trail number entry → entry.cause ≡ Step from edge result loss → loss ≡ None →
    IsReal trail from → IsReal trail number
real_step trail number from edge result loss entry there is none before =
    RealStep number from edge result entry there (is ∙ ap (λ (l : Option ℕ). Step from edge result l) none) before

-- a chain to an entry with a cause of a step comes from a chain to the entry that it names
record ComesFrom (trail : List Entry) (from : ℕ) (loss : Option ℕ) : Type 0 where
  none : is_none loss ≡ true
  before : IsReal trail from

comes_from : (trail : List Entry) (number from edge result : ℕ) (loss : Option ℕ) (entry : Entry) → At trail number entry → entry.cause ≡ Step from edge result loss → IsReal trail number →
    ComesFrom trail from loss
comes_from trail number from edge result loss entry there is (RealStart _ other at start) =
    let one : other ≡ entry = same_some other entry (sym at ∙ there) in
    let causes : Start ≡ Step from edge result loss = sym start ∙ (ap (λ (e : Entry). e.cause) one ∙ is) in absurd cc
comes_from trail number from edge result loss entry there is (RealStep _ from' edge' result' other at step before) =
    let one : other ≡ entry = same_some other entry (sym at ∙ there) in
    let causes : Step from' edge' result' None ≡ Step from edge result loss = sym step ∙ (ap (λ (e : Entry). e.cause) one ∙ is) in
    let same : from' ≡ from = cc in
    let none : None ≡ loss = cc in
    record { none = ap is_none (sym none); before = subst (λ (n : ℕ). IsReal trail n) same before }

-- no chain leads to what is made of a graph at a loop head
not_made : (trail : List Entry) (number : ℕ) (entry : Entry) → At trail number entry → IsReal trail number → (entry.cause ≡ Start → ⊥) →
    ((from edge result : ℕ) → entry.cause ≡ Step from edge result None → ⊥) → ⊥
not_made trail number entry there (RealStart _ other at start) no_start no_step = no_start (ap (λ (e : Entry). e.cause) (same_some entry other (sym there ∙ at)) ∙ start)
not_made trail number entry there (RealStep _ from edge result other at step before) no_start no_step =
    no_step from edge result (ap (λ (e : Entry). e.cause) (same_some entry other (sym there ∙ at)) ∙ step)

mark_is : (trail : List Entry) (marks : List Bool) (count : ℕ) (entry : Entry) (cause : Cause) → AreMarked trail marks count → At trail count entry → entry.cause ≡ cause →
    IsFromEarlier cause count → (leads_on marks cause ≡ true) ↔ IsReal trail count
mark_is trail marks count entry Start so there is earlier = (λ is_yes. real_start trail count entry there is, λ real. refl)
mark_is trail marks count entry (Fold from) so there is earlier = (
  λ is_yes. absurd (false≢true is_yes),
  λ real. absurd (not_made trail count entry there real (λ same. let e : Fold from ≡ Start = sym is ∙ same in cc)
      (λ before edge result same. let e : Fold from ≡ Step before edge result None = sym is ∙ same in cc)),
)
mark_is trail marks count entry (Coarse from) so there is earlier = (
  λ is_yes. absurd (false≢true is_yes),
  λ real. absurd (not_made trail count entry there real (λ same. let e : Coarse from ≡ Start = sym is ∙ same in cc)
      (λ before edge result same. let e : Coarse from ≡ Step before edge result None = sym is ∙ same in cc)),
)
mark_is trail marks count entry (Step from edge result loss) so there is earlier = (
  λ is_yes. let (none, marked) = and_parts (is_none loss) (slice_index_or marks from false) is_yes in
      real_step trail count from edge result loss entry there is (is_none_of loss none) ((so.is from earlier).0 marked),
  λ real. let comes : ComesFrom trail from loss = comes_from trail count from edge result loss entry there is real in
      and_both (is_none loss) (slice_index_or marks from false) comes.none ((so.is from earlier).1 comes.before),
)

pub marked_next : (trail : List Entry) (marks after : List Bool) (count : ℕ) (entry : Entry) → AreFromEarlier trail → AreMarked trail marks count → At trail count entry →
    after ≡ marks ++ leads_on marks entry.cause ∷ [] → AreMarked trail after (count + 1)
marked_next trail marks after count entry earlier so there is = subst (λ (m : List Bool). AreMarked trail m (count + 1)) (sym is) (record {
  long = length-append marks (leads_on marks entry.cause ∷ []) ∙ ap (λ n. n + 1) so.long;
  is = λ number less. elim (cases_lt number count) [
    | inl old ↦ subst (λ (b : Bool). (b ≡ true) ↔ IsReal trail number) (sym (front_mark marks (leads_on marks entry.cause) number (omega (arith, so.long)))) (so.is number old)
    | inr late ↦ at_last number (omega arith)
  ];
})
  where
    last : slice_index_or (marks ++ leads_on marks entry.cause ∷ []) count false ≡ leads_on marks entry.cause
    last = ap (λ n. slice_index_or (marks ++ leads_on marks entry.cause ∷ []) n false) (sym so.long) ∙ last_mark marks (leads_on marks entry.cause)

    at_last : (number : ℕ) → number ≡ count → (slice_index_or (marks ++ leads_on marks entry.cause ∷ []) number false ≡ true) ↔ IsReal trail number
    at_last number same = subst (λ (n : ℕ). (slice_index_or (marks ++ leads_on marks entry.cause ∷ []) n false ≡ true) ↔ IsReal trail n) (sym same)
        (subst (λ (b : Bool). (b ≡ true) ↔ IsReal trail count) (sym last) (mark_is trail marks count entry entry.cause so there refl (earlier.each count entry there)))

pub marked_last : (trail : List Entry) (marks : List Bool) (count : ℕ) → AreMarked trail marks count → count ≡ length trail → AreMarked trail marks (length trail)
marked_last trail marks count so is = subst (λ (n : ℕ). AreMarked trail marks n) is so
