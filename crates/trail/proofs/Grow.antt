-- What a new entry keeps.
use Rattle.std.proofs.Common.{◌≡◌, ℕ, zero, suc, ◌<◌, ◌≤◌, ◌+◌, List, [], ◌∷◌, ◌++◌, true, refl, sym, ap, subst, ◌∙◌, ◌⊎◌, inl, inr, Option, Some, take, length, length-append, append-nil, append_assoc, arith}
use Rattle.std.specs.Prelude.{slice_get, Bool, false}
use Rattle.std.proofs.lemmas.Bool.{cases_lt}
use Rattle.std.proofs.lemmas.List.{take-append-le}
use Rattle.std.proofs.Math.Seq.{take-append_seam}
use Rattle.std.proofs.lemmas.Option.{slice_get_within}
use Rattle.graph.specs.declared.parts.Parts.{Parts}
use Rattle.graph.specs.declared.post.Post.{Post}
use Rattle.flow.specs.declared.flow_graph.Flow.{Flow}
use Rattle.flow.specs.declared.flow_graph.FlowEdge.{FlowEdge}
use Rattle.trail.specs.declared.trail.Cause.{Cause}
use Rattle.trail.specs.declared.trail.Cause.TheVariants.{Start, Step, Fold, Coarse}
use Rattle.trail.specs.declared.trail.Entry.{Entry}
use Rattle.trail.specs.Analysis.{Analysis, Widening, Fits, IsFold, IsCoarse, IsReduced, IsPost}
use Rattle.trail.specs.Seen.{is_ordinary, IsHead}
use Rattle.trail.specs.Trail.{At, IsMadeOf, Made, IsHonest, AreHonest, IsCovered, IsSettled, SettledKept, SettledCovered, SettledFold, SettledCoarse, StandsAsStep, IsDone, IsClosed}
use Rattle.trail.specs.Work.{IsWorked, AreEdgesDone, AreResultsDone, IsBefore, AreBefore, candidate, IsOffered, IsFree, Pends, PendsNone, PendsFold, PendsCoarse, Grows}
use Rattle.trail.proofs.Sound.{same_some, at_taken}

-- places
pub at_front : {A : Type 0} (xs ys : List A) (i : ℕ) (x : A) → slice_get xs i ≡ Some x → slice_get (xs ++ ys) i ≡ Some x
at_front [] ys i x e = absurd cc
at_front (z ∷ zs) ys zero x e = e
at_front (z ∷ zs) ys (suc i) x e = at_front zs ys i x e

at_back : {A : Type 0} (xs ys : List A) (i : ℕ) → i < length xs → slice_get (xs ++ ys) i ≡ slice_get xs i
at_back [] ys i lt = absurd (omega arith)
at_back (z ∷ zs) ys zero lt = refl
at_back (z ∷ zs) ys (suc i) lt = at_back zs ys i (omega arith)

pub at_last : {A : Type 0} (xs : List A) (x : A) → slice_get (xs ++ x ∷ []) (length xs) ≡ Some x
at_last [] x = refl
at_last (z ∷ zs) x = at_last zs x

at_next : {A : Type 0} (xs ys : List A) (x : A) → slice_get (xs ++ x ∷ ys) (length xs) ≡ Some x
at_next [] ys x = refl
at_next (z ∷ zs) ys x = at_next zs ys x

pub one_longer : {A : Type 0} (xs : List A) (x : A) → length (xs ++ x ∷ []) ≡ length xs + 1
one_longer xs x = length-append xs (x ∷ [])

-- an entry of the longer trail is an old one or the new one
pub at_either : (trail : List Entry) (new entry : Entry) (number : ℕ) → At (trail ++ new ∷ []) number entry →
    ((number < length trail) × At trail number entry) ⊎ ((number ≡ length trail) × (new ≡ entry))
at_either trail new entry number there = elim (cases_lt number (length trail)) [
  | inl old ↦ inl (old, sym (at_back trail (new ∷ []) number old) ∙ there)
  | inr late ↦ let within : number < length (trail ++ new ∷ []) = slice_get_within _ number entry there in
      let is : number ≡ length trail = omega (arith, one_longer trail new) in
      inr (is, same_some new entry (sym (at_last trail new) ∙ ap (slice_get (trail ++ new ∷ [])) (sym is) ∙ there))
]

-- an entry of a longer trail is an old one or a later one
pub at_split : (trail more : List Entry) (entry : Entry) (number : ℕ) → At (trail ++ more) number entry → ((number < length trail) × At trail number entry) ⊎ (length trail ≤ number)
at_split trail more entry number there = elim (cases_lt number (length trail)) [
  | inl old ↦ inl (old, sym (at_back trail more number old) ∙ there)
  | inr late ↦ inr late
]

one_by_one : (trail rest : List Entry) (new : Entry) → (trail ++ new ∷ []) ++ rest ≡ trail ++ new ∷ rest
one_by_one [] rest new = refl
one_by_one (first ∷ trail) rest new = ap (λ (more : List Entry). first ∷ more) (one_by_one trail rest new)

-- what stands stays
covered_on : (analysis : Analysis) (trail more : List Entry) (entry : Entry) → IsCovered analysis trail entry → IsCovered analysis (trail ++ more) entry
covered_on analysis trail more entry covered = record {
  number = covered.number;
  other = covered.other;
  there = at_front trail more covered.number covered.other covered.there;
  kept = covered.kept;
  point = covered.point;
  covers = covered.covers;
}

settled_on : (analysis : Analysis) (trail more : List Entry) (number : ℕ) → IsSettled analysis trail number → IsSettled analysis (trail ++ more) number
settled_on analysis trail more number (SettledKept _ entry there kept) = SettledKept number entry (at_front trail more number entry there) kept
settled_on analysis trail more number (SettledCovered _ entry there covered) = SettledCovered number entry (at_front trail more number entry there) (covered_on analysis trail more entry covered)
settled_on analysis trail more number (SettledFold _ later entry there is settled) = SettledFold number later entry (at_front trail more later entry there) is (settled_on analysis trail more later settled)
settled_on analysis trail more number (SettledCoarse _ later entry there is settled) = SettledCoarse number later entry (at_front trail more later entry there) is (settled_on analysis trail more later settled)

step_on : (trail more : List Entry) (cause : Cause) (point : ℕ) (graph : Parts) → StandsAsStep trail cause point graph → StandsAsStep (trail ++ more) cause point graph
step_on trail more cause point graph stands = record {
  number = stands.number;
  entry = stands.entry;
  there = at_front trail more stands.number stands.entry stands.there;
  cause_is = stands.cause_is;
  point_is = stands.point_is;
  graph_is = stands.graph_is;
}

done_on : (analysis : Analysis) (flow : Flow) (trail more : List Entry) (at : ℕ) (entry : Entry) (number : ℕ) (edge : FlowEdge) →
    IsDone analysis flow trail at entry number edge → IsDone analysis flow (trail ++ more) at entry number edge
done_on analysis flow trail more at entry number edge done = record {
  post = done.post;
  is = done.is;
  all = λ result graph there. step_on trail more (Step at number result done.post.loss) edge.to graph (done.all result graph there);
}

pub edges_on : (analysis : Analysis) (flow : Flow) (trail more : List Entry) (at : ℕ) (entry : Entry) (count : ℕ) →
    AreEdgesDone analysis flow trail at entry count → AreEdgesDone analysis flow (trail ++ more) at entry count
edges_on analysis flow trail more at entry count so = record {
  done = λ number edge below stands is from. done_on analysis flow trail more at entry number edge (so.done number edge below stands is from);
}

pub honest_on : (analysis : Analysis) (widening : Widening) (flow : Flow) (trail : List Entry) (new : Entry) → AreHonest analysis widening flow trail → IsHonest analysis widening flow trail new →
    AreHonest analysis widening flow (trail ++ new ∷ [])
honest_on analysis widening flow trail new honest is number entry there = elim (at_either trail new entry number there) [
  | inl (old, there') ↦ subst (λ (b : List Entry). IsHonest analysis widening flow b entry) (sym (take-append-le number trail (new ∷ []) (omega arith))) (honest number entry there')
  | inr (last, one) ↦ let front : take number (trail ++ new ∷ []) ≡ trail = ap (λ n. take n (trail ++ new ∷ [])) last ∙ take-append_seam trail (new ∷ []) in
      subst (λ (x : Entry). IsHonest analysis widening flow (take number (trail ++ new ∷ [])) x) one (subst (λ (b : List Entry). IsHonest analysis widening flow b new) (sym front) is)
]

-- what an entry is made of stands before it
pub from_before : (analysis : Analysis) (widening : Widening) (flow : Flow) (trail : List Entry) (number from : ℕ) (entry : Entry) → AreHonest analysis widening flow trail → At trail number entry →
    (entry.cause ≡ Fold from) ⊎ (entry.cause ≡ Coarse from) → from < number
from_before analysis widening flow trail number from entry honest there (inl is) =
    let made : IsMadeOf (IsFold widening) flow (take number trail) entry from = subst (Made analysis widening flow (take number trail) entry) is (honest number entry there).made in
    (at_taken trail number from made.earlier made.there).0
from_before analysis widening flow trail number from entry honest there (inr is) =
    let made : IsMadeOf (IsCoarse widening) flow (take number trail) entry from = subst (Made analysis widening flow (take number trail) entry) is (honest number entry there).made in
    (at_taken trail number from made.earlier made.there).0

-- the first of what comes
pub record ComesFirst (point : ℕ) (cause : Cause) (graph : Parts) (more : List Entry) : Type 0 where
  pub kept : Bool
  pub rest : List Entry
  pub is : more ≡ candidate point cause graph kept ∷ rest

same_candidate : (point : ℕ) (cause last : Cause) (graph after : Parts) (kept : Bool) → last ≡ cause → after ≡ graph → candidate point last after kept ≡ candidate point cause graph kept
same_candidate point cause last graph after kept one two = cc

module _ (analysis : Analysis) (widening : Widening) (flow : Flow) (point : ℕ) (trail : List Entry) (cause : Cause) (graph : Parts) where
  first_pended : (pending : List Entry) (last : Cause) (after : Parts) → Pends analysis widening flow point trail cause graph pending last after → (kept : Bool) (rest : List Entry) →
      ComesFirst point cause graph (pending ++ candidate point last after kept ∷ rest)
  first_pended pending last after (PendsNone _ _ _ none same alike) kept rest = record {
    kept = kept;
    rest = rest;
    is = ap (λ (p : List Entry). p ++ candidate point last after kept ∷ rest) none ∙ ap (λ (e : Entry). e ∷ rest) (same_candidate point cause last graph after kept same alike);
  }
  first_pended pending last after (PendsFold before earlier _ wide _ _ pends is next head fold fits) kept rest =
      subst (λ (m : List Entry). ComesFirst point cause graph m) (sym (one_by_one before (candidate point last after kept ∷ rest) (candidate point earlier wide false))
      ∙ ap (λ (p : List Entry). p ++ candidate point last after kept ∷ rest) (sym is))
      (first_pended before earlier wide pends false (candidate point last after kept ∷ rest))
  first_pended pending last after (PendsCoarse before earlier _ wide _ _ pends is next head coarse fits) kept rest =
      subst (λ (m : List Entry). ComesFirst point cause graph m) (sym (one_by_one before (candidate point last after kept ∷ rest) (candidate point earlier wide false))
      ∙ ap (λ (p : List Entry). p ++ candidate point last after kept ∷ rest) (sym is))
      (first_pended before earlier wide pends false (candidate point last after kept ∷ rest))

  pub comes_first : (more : List Entry) → Grows analysis widening flow point trail cause graph more → ComesFirst point cause graph more
  comes_first more grows = subst (λ (m : List Entry). ComesFirst point cause graph m) (sym grows.more_is) (first_pended grows.pending grows.last grows.after grows.pends grows.kept [])

pub honest_one : (analysis : Analysis) (widening : Widening) (flow : Flow) (point : ℕ) (trail : List Entry) (cause : Cause) (graph : Parts) (kept : Bool) →
    IsOffered analysis widening flow trail point cause graph → (kept ≡ true → IsFree analysis trail point graph) → (kept ≡ true → IsHead flow point → IsReduced widening graph) →
    IsHonest analysis widening flow trail (candidate point cause graph kept)
honest_one analysis widening flow point trail cause graph kept offered free reduced =
    record { fits = offered.fits; made = offered.made kept; uncovered = free; reduced = reduced; new = offered.new }

-- what is made of an entry that is not kept
module _ (analysis : Analysis) (widening : Widening) (flow : Flow) (point : ℕ) (trail : List Entry) (cause : Cause) (graph after : Parts) (head : IsHead flow point)
    (fits : Fits analysis flow point after) (honest : AreHonest analysis widening flow trail) (offered : IsOffered analysis widening flow trail point cause graph) where
  unkept_here : AreHonest analysis widening flow (trail ++ candidate point cause graph false ∷ [])
  unkept_here = honest_on analysis widening flow trail (candidate point cause graph false) honest
      (honest_one analysis widening flow point trail cause graph false offered (λ kept. absurd cc) (λ kept. absurd cc))

  new_here : (number : ℕ) (earlier : Entry) → At (trail ++ candidate point cause graph false ∷ []) number earlier →
      (earlier.cause ≡ Fold (length trail)) ⊎ (earlier.cause ≡ Coarse (length trail)) → ⊥
  new_here number earlier there is =
      let less : length trail < number = from_before analysis widening flow (trail ++ candidate point cause graph false ∷ []) number (length trail) earlier unkept_here there is in
      let within : number < length (trail ++ candidate point cause graph false ∷ []) = slice_get_within (trail ++ candidate point cause graph false ∷ []) number earlier there in
      let long : length (trail ++ candidate point cause graph false ∷ []) ≡ length trail + 1 = one_longer trail (candidate point cause graph false) in
      absurd (omega (arith, long))

  offers_fold : IsFold widening graph after → IsOffered analysis widening flow (trail ++ candidate point cause graph false ∷ []) point (Fold (length trail)) after
  offers_fold fold = record {
    fits = fits;
    made = λ kept. record { earlier = candidate point cause graph false; there = at_last trail (candidate point cause graph false); unkept = refl; head = head; stays = refl; is = fold };
    new = λ number earlier there is. new_here number earlier there (inl is);
  }

  offers_coarse : IsCoarse widening graph after → IsOffered analysis widening flow (trail ++ candidate point cause graph false ∷ []) point (Coarse (length trail)) after
  offers_coarse coarse = record {
    fits = fits;
    made = λ kept. record { earlier = candidate point cause graph false; there = at_last trail (candidate point cause graph false); unkept = refl; head = head; stays = refl; is = coarse };
    new = λ number earlier there is. new_here number earlier there (inr is);
  }

-- so much is known behind entries that are not kept
pub record IsPended (analysis : Analysis) (widening : Widening) (flow : Flow) (point : ℕ) (trail : List Entry) (last : Cause) (after : Parts) : Type 0 where
  pub honest : AreHonest analysis widening flow trail
  pub offered : IsOffered analysis widening flow trail point last after

pended_same : (analysis : Analysis) (widening : Widening) (flow : Flow) (point : ℕ) (trail : List Entry) (cause last : Cause) (graph after : Parts) → last ≡ cause → after ≡ graph →
    IsPended analysis widening flow point trail cause graph → IsPended analysis widening flow point trail last after
pended_same analysis widening flow point trail cause last graph after same alike is =
    subst (λ (c : Cause). IsPended analysis widening flow point trail c after) (sym same) (subst (λ (g : Parts). IsPended analysis widening flow point trail cause g) (sym alike) is)

end_here : (trail pending : List Entry) → pending ≡ [] → trail ++ pending ≡ trail
end_here trail pending none = ap (λ (p : List Entry). trail ++ p) none ∙ append-nil trail

-- two lists one behind the other
behind_both : (trail before : List Entry) (new : Entry) (pending : List Entry) → pending ≡ before ++ new ∷ [] → (trail ++ before) ++ new ∷ [] ≡ trail ++ pending
behind_both trail before new pending is = append_assoc trail before (new ∷ []) ∙ ap (λ (p : List Entry). trail ++ p) (sym is)

module _ (analysis : Analysis) (widening : Widening) (flow : Flow) (point : ℕ) (trail : List Entry) (cause : Cause) (graph : Parts) where
  module _ (honest : AreHonest analysis widening flow trail) (offered : IsOffered analysis widening flow trail point cause graph) where
    pub pended : (pending : List Entry) (last : Cause) (after : Parts) → Pends analysis widening flow point trail cause graph pending last after →
        IsPended analysis widening flow point (trail ++ pending) last after
    pended pending last after (PendsNone _ _ _ none same alike) =
        subst (λ (t : List Entry). IsPended analysis widening flow point t last after) (sym (end_here trail pending none))
        (pended_same analysis widening flow point trail cause last graph after same alike (record { honest = honest; offered = offered }))
    pended pending last after (PendsFold before earlier _ wide _ _ pends is next head fold fits) =
        let so : IsPended analysis widening flow point (trail ++ before) earlier wide = pended before earlier wide pends in
        subst (λ (t : List Entry). IsPended analysis widening flow point t last after) (behind_both trail before (candidate point earlier wide false) pending is)
        (subst (λ (c : Cause). IsPended analysis widening flow point ((trail ++ before) ++ candidate point earlier wide false ∷ []) c after) (sym next) (record {
          honest = unkept_here analysis widening flow point (trail ++ before) earlier wide after head fits so.honest so.offered;
          offered = offers_fold analysis widening flow point (trail ++ before) earlier wide after head fits so.honest so.offered fold;
        }))
    pended pending last after (PendsCoarse before earlier _ wide _ _ pends is next head coarse fits) =
        let so : IsPended analysis widening flow point (trail ++ before) earlier wide = pended before earlier wide pends in
        subst (λ (t : List Entry). IsPended analysis widening flow point t last after) (behind_both trail before (candidate point earlier wide false) pending is)
        (subst (λ (c : Cause). IsPended analysis widening flow point ((trail ++ before) ++ candidate point earlier wide false ∷ []) c after) (sym next) (record {
          honest = unkept_here analysis widening flow point (trail ++ before) earlier wide after head fits so.honest so.offered;
          offered = offers_coarse analysis widening flow point (trail ++ before) earlier wide after head fits so.honest so.offered coarse;
        }))

    -- what comes is honest
    pub grown_honest : (more : List Entry) → Grows analysis widening flow point trail cause graph more → AreHonest analysis widening flow (trail ++ more)
    grown_honest more grows =
        let so : IsPended analysis widening flow point (trail ++ grows.pending) grows.last grows.after = pended grows.pending grows.last grows.after grows.pends in
        let new : Entry = candidate point grows.last grows.after grows.kept in
        subst (λ (t : List Entry). AreHonest analysis widening flow t) (behind_both trail grows.pending new more grows.more_is)
        (honest_on analysis widening flow (trail ++ grows.pending) new so.honest
        (honest_one analysis widening flow point (trail ++ grows.pending) grows.last grows.after grows.kept so.offered grows.free grows.reduced))

  -- and settled
  module _ (whole : List Entry) where
    there_next : (pending : List Entry) (new : Entry) (rest : List Entry) → (trail ++ pending) ++ new ∷ rest ≡ whole → At whole (length (trail ++ pending)) new
    there_next pending new rest start = subst (λ (t : List Entry). slice_get t (length (trail ++ pending)) ≡ Some new) start (at_next (trail ++ pending) rest new)

    pended_settled : (pending : List Entry) (last : Cause) (after : Parts) → Pends analysis widening flow point trail cause graph pending last after →
        (kept : Bool) (rest : List Entry) → (trail ++ pending) ++ candidate point last after kept ∷ rest ≡ whole → IsSettled analysis whole (length (trail ++ pending)) →
        (number : ℕ) → length trail ≤ number → number ≤ length (trail ++ pending) → IsSettled analysis whole number
    pended_settled pending last after (PendsNone _ _ _ none same alike) kept rest start settled number late early =
        let short : length (trail ++ pending) ≡ length trail = ap (λ (t : List Entry). length t) (end_here trail pending none) in
        let is : length (trail ++ pending) ≡ number = omega (arith, short) in subst (λ (n : ℕ). IsSettled analysis whole n) is settled
    pended_settled pending last after (PendsFold before earlier _ wide _ _ pends is next head fold fits) kept rest start settled number late early =
        let c : Entry = candidate point earlier wide false in
        let both : (trail ++ before) ++ c ∷ [] ≡ trail ++ pending = behind_both trail before c pending is in
        let long : length (trail ++ pending) ≡ length (trail ++ before) + 1 = ap (λ (t : List Entry). length t) (sym both) ∙ one_longer (trail ++ before) c in
        let here : IsSettled analysis whole (length (trail ++ before)) =
        SettledFold (length (trail ++ before)) (length (trail ++ pending)) (candidate point last after kept) (there_next pending (candidate point last after kept) rest start) next settled in
        let start' : (trail ++ before) ++ c ∷ (candidate point last after kept ∷ rest) ≡ whole =
        sym (one_by_one (trail ++ before) (candidate point last after kept ∷ rest) c) ∙ (ap (λ (t : List Entry). t ++ candidate point last after kept ∷ rest) both ∙ start) in
        elim (cases_lt number (length (trail ++ pending))) [
          | inl less ↦ pended_settled before earlier wide pends false (candidate point last after kept ∷ rest) start' here number late (omega (arith, long))
          | inr more ↦ let same : length (trail ++ pending) ≡ number = omega arith in subst (λ (n : ℕ). IsSettled analysis whole n) same settled
        ]
    pended_settled pending last after (PendsCoarse before earlier _ wide _ _ pends is next head coarse fits) kept rest start settled number late early =
        let c : Entry = candidate point earlier wide false in
        let both : (trail ++ before) ++ c ∷ [] ≡ trail ++ pending = behind_both trail before c pending is in
        let long : length (trail ++ pending) ≡ length (trail ++ before) + 1 = ap (λ (t : List Entry). length t) (sym both) ∙ one_longer (trail ++ before) c in
        let here : IsSettled analysis whole (length (trail ++ before)) =
        SettledCoarse (length (trail ++ before)) (length (trail ++ pending)) (candidate point last after kept) (there_next pending (candidate point last after kept) rest start) next settled in
        let start' : (trail ++ before) ++ c ∷ (candidate point last after kept ∷ rest) ≡ whole =
        sym (one_by_one (trail ++ before) (candidate point last after kept ∷ rest) c) ∙ (ap (λ (t : List Entry). t ++ candidate point last after kept ∷ rest) both ∙ start) in
        elim (cases_lt number (length (trail ++ pending))) [
          | inl less ↦ pended_settled before earlier wide pends false (candidate point last after kept ∷ rest) start' here number late (omega (arith, long))
          | inr more ↦ let same : length (trail ++ pending) ≡ number = omega arith in subst (λ (n : ℕ). IsSettled analysis whole n) same settled
        ]

  pub grown_settled : (more : List Entry) → Grows analysis widening flow point trail cause graph more →
      (number : ℕ) (entry : Entry) → At (trail ++ more) number entry → length trail ≤ number → IsSettled analysis (trail ++ more) number
  grown_settled more grows number entry there late =
      let new : Entry = candidate point grows.last grows.after grows.kept in
      let both : (trail ++ grows.pending) ++ new ∷ [] ≡ trail ++ more = behind_both trail grows.pending new more grows.more_is in
      let long : length (trail ++ more) ≡ length (trail ++ grows.pending) + 1 = ap (λ (t : List Entry). length t) (sym both) ∙ one_longer (trail ++ grows.pending) new in
      let within : number < length (trail ++ more) = slice_get_within (trail ++ more) number entry there in
      let at : At (trail ++ more) (length (trail ++ grows.pending)) new = there_next (trail ++ more) grows.pending new [] both in
      let settled : IsSettled analysis (trail ++ more) (length (trail ++ grows.pending)) = elim grows.settled [
        | inl kept ↦ SettledKept (length (trail ++ grows.pending)) new at kept
        | inr covered ↦ SettledCovered (length (trail ++ grows.pending)) new at
            (subst (λ (t : List Entry). IsCovered analysis t new) both (covered_on analysis (trail ++ grows.pending) (new ∷ []) new covered))
      ] in
      pended_settled (trail ++ more) grows.pending grows.last grows.after grows.pends grows.kept [] both settled number late (omega (arith, long))

  -- so all that is known stays
  pub grown : (at : ℕ) (more : List Entry) → Grows analysis widening flow point trail cause graph more → IsWorked analysis widening flow trail at →
      at ≤ length trail → IsOffered analysis widening flow trail point cause graph → IsWorked analysis widening flow (trail ++ more) at
  grown at more grows worked within offered = record {
    honest = grown_honest worked.honest offered more grows;
    begins = let (entry, there, is) = worked.begins in (entry, at_front trail more 0 entry there, is);
    settled = λ number entry there. elim (at_split trail more entry number there) [
      | inl (old, there') ↦ settled_on analysis trail more number (worked.settled number entry there')
      | inr late ↦ grown_settled more grows number entry there late
    ];
    expanded = λ number entry below there kept. elim (at_split trail more entry number there) [
      | inl (old, there') ↦ λ which edge stands is from. done_on analysis flow trail more number entry which edge (worked.expanded number entry below there' kept which edge stands is from)
      | inr late ↦ absurd (omega arith)
    ];
  }

  -- and causes come before those of what follows
  module _ (at number result : ℕ) (so : IsBefore cause at number result) where
    before_either : (before : List Entry) (new : Entry) → ((place : ℕ) (entry : Entry) → At before place entry → IsBefore entry.cause at number result) → IsBefore new.cause at number result →
        (place : ℕ) (entry : Entry) → At (before ++ new ∷ []) place entry → IsBefore entry.cause at number result
    before_either before new earlier last place entry there = elim (at_either before new entry place there) [
      | inl (old, there') ↦ earlier place entry there'
      | inr (last_one, one) ↦ subst (λ (e : Entry). IsBefore e.cause at number result) one last
    ]

    -- of those that are pending, and of what is made of the last one
    pended_before : (pending : List Entry) (last : Cause) (after : Parts) → Pends analysis widening flow point trail cause graph pending last after →
        ((place : ℕ) (entry : Entry) → At pending place entry → IsBefore entry.cause at number result) × IsBefore last at number result
    pended_before pending last after (PendsNone _ _ _ none same alike) =
        (λ place entry there. absurd (nothing_in place entry (subst (λ (p : List Entry). At p place entry) none there)), subst (λ (c : Cause). IsBefore c at number result) (sym same) so)
      where
        nothing_in : (place : ℕ) (entry : Entry) → At [] place entry → ⊥
        nothing_in place entry there = absurd cc
    pended_before pending last after (PendsFold before earlier _ wide _ _ pends is next head fold fits) =
        let (each, one) = pended_before before earlier wide pends in (
          λ place entry there. before_either before (candidate point earlier wide false) each one place entry (subst (λ (p : List Entry). At p place entry) is there),
          subst (λ (c : Cause). IsBefore c at number result) (sym next) tt,
        )
    pended_before pending last after (PendsCoarse before earlier _ wide _ _ pends is next head coarse fits) =
        let (each, one) = pended_before before earlier wide pends in (
          λ place entry there. before_either before (candidate point earlier wide false) each one place entry (subst (λ (p : List Entry). At p place entry) is there),
          subst (λ (c : Cause). IsBefore c at number result) (sym next) tt,
        )

    pub before_grown : (more : List Entry) → Grows analysis widening flow point trail cause graph more → (place : ℕ) (entry : Entry) → At more place entry → IsBefore entry.cause at number result
    before_grown more grows place entry there =
        let (each, one) = pended_before grows.pending grows.last grows.after grows.pends in
        before_either grows.pending (candidate point grows.last grows.after grows.kept) each one place entry (subst (λ (p : List Entry). At p place entry) grows.more_is there)

-- the first entry
pub first_grown : (analysis : Analysis) (widening : Widening) (flow : Flow) (point : ℕ) (graph : Parts) (more : List Entry) → Grows analysis widening flow point [] Start graph more →
    IsOffered analysis widening flow [] point Start graph → IsWorked analysis widening flow more 0
first_grown analysis widening flow point graph more grows offered = record {
  honest = grown_honest analysis widening flow point [] Start graph (λ number entry there. absurd cc) offered more grows;
  begins = let first = comes_first analysis widening flow point [] Start graph more grows in
      (candidate point Start graph first.kept, ap (λ (m : List Entry). slice_get m 0) first.is, refl);
  settled = λ number entry there. grown_settled analysis widening flow point [] Start graph more grows number entry there (omega arith);
  expanded = λ number entry below there kept. absurd (omega arith);
}

-- one graph of the post more
pub result_pushed : (trail more : List Entry) (at number : ℕ) (edge : FlowEdge) (post : Post) (count : ℕ) (graph : Parts) → AreResultsDone trail at number edge post count →
    ComesFirst edge.to (Step at number count post.loss) graph more → slice_get post.graphs count ≡ Some graph → AreResultsDone (trail ++ more) at number edge post (count + 1)
result_pushed trail more at number edge post count graph so first graph_is = record {
  done = λ result other below there. elim (cases_lt result count) [
    | inl old ↦ step_on trail more (Step at number result post.loss) edge.to other (so.done result other old there)
    | inr late ↦ let is : result ≡ count = omega arith in record {
      number = length trail;
      entry = candidate edge.to (Step at number count post.loss) graph first.kept;
      there = subst (λ (m : List Entry). slice_get (trail ++ m) (length trail) ≡ Some (candidate edge.to (Step at number count post.loss) graph first.kept)) (sym first.is)
          (at_next trail first.rest (candidate edge.to (Step at number count post.loss) graph first.kept));
      cause_is = ap (λ n. Step at number n post.loss) (sym is);
      point_is = refl;
      graph_is = same_some graph other (sym graph_is ∙ ap (slice_get post.graphs) (sym is) ∙ there);
    }
  ];
}

-- all of them
pub edge_done : (analysis : Analysis) (flow : Flow) (trail : List Entry) (at : ℕ) (entry : Entry) (number : ℕ) (edge : FlowEdge) (post : Post) →
    IsPost analysis flow number entry.graph post → AreResultsDone trail at number edge post (length post.graphs) → IsDone analysis flow trail at entry number edge
edge_done analysis flow trail at entry number edge post is so = record {
  post = post;
  is = is;
  all = λ result graph there. so.done result graph (slice_get_within post.graphs result graph there) there;
}

-- one edge more
pub edges_more : (analysis : Analysis) (flow : Flow) (trail : List Entry) (at : ℕ) (entry : Entry) (count : ℕ) → AreEdgesDone analysis flow trail at entry count →
    ((edge : FlowEdge) → slice_get flow.edges count ≡ Some edge → is_ordinary edge.instr ≡ true → edge.from ≡ entry.point → IsDone analysis flow trail at entry count edge) →
    AreEdgesDone analysis flow trail at entry (count + 1)
edges_more analysis flow trail at entry count so one = record {
  done = λ number edge below stands is from. elim (cases_lt number count) [
    | inl old ↦ so.done number edge old stands is from
    | inr late ↦ let same : number ≡ count = omega arith in
        subst (λ n. IsDone analysis flow trail at entry n edge) (sym same) (one edge (sym (ap (slice_get flow.edges) same) ∙ stands) is from)
  ];
}

-- the next entry
pub turned : (analysis : Analysis) (widening : Widening) (flow : Flow) (trail : List Entry) (at : ℕ) (entry : Entry) → IsWorked analysis widening flow trail at → At trail at entry →
    (entry.kept ≡ true → AreEdgesDone analysis flow trail at entry (length flow.edges)) → IsWorked analysis widening flow trail (at + 1)
turned analysis widening flow trail at entry worked there all = record {
  honest = worked.honest;
  begins = worked.begins;
  settled = worked.settled;
  expanded = λ number other below there' kept. elim (cases_lt number at) [
    | inl old ↦ worked.expanded number other old there' kept
    | inr late ↦ let same : number ≡ at = omega arith in
        let one : entry ≡ other = same_some entry other (sym there ∙ ap (slice_get trail) (sym same) ∙ there') in
        λ which edge stands is from.
        let kept' : entry.kept ≡ true = ap (λ (x : Entry). x.kept) one ∙ kept in
        let from' : edge.from ≡ entry.point = from ∙ sym (ap (λ (x : Entry). x.point) one) in
        let done : IsDone analysis flow trail at entry which edge = (all kept').done which edge (slice_get_within flow.edges which edge stands) stands is from' in
        subst (λ (x : Entry). IsDone analysis flow trail number x which edge) one (subst (λ n. IsDone analysis flow trail n entry which edge) (sym same) done)
  ];
}

-- the end
pub closes : (analysis : Analysis) (widening : Widening) (flow : Flow) (trail : List Entry) (at : ℕ) → IsWorked analysis widening flow trail at → length trail ≤ at → IsClosed analysis flow trail
closes analysis widening flow trail at worked end = record {
  begins = let (entry, there, is) = worked.begins in (0, entry, there, is);
  settled = worked.settled;
  expanded = λ number entry there kept. let within : number < length trail = slice_get_within trail number entry there in
      worked.expanded number entry (omega arith) there kept;
}

-- a cause that comes next is new
pub before_new : (trail : List Entry) (at number result : ℕ) (loss : Option ℕ) → AreBefore trail at number result →
    (place : ℕ) (earlier : Entry) → At trail place earlier → earlier.cause ≡ Step at number result loss → ⊥
before_new trail at number result loss so place earlier there same =
    by_case (subst (λ (c : Cause). IsBefore c at number result) same (so.before place earlier there))
  where
    by_case : (at < at) ⊎ ((at ≡ at) × ((number < number) ⊎ ((number ≡ number) × (result < result)))) → ⊥
    by_case (inl x) = omega arith
    by_case (inr (x, inl y)) = omega arith
    by_case (inr (x, inr (y, z))) = omega arith
