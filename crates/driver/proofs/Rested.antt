-- What is told of entries that are not followed.
use Rattle.std.proofs.Common.{◌≡◌, ℕ, ◌<◌, ◌≤◌, ◌+◌, List, Bool, true, false, ◌&&◌, refl, sym, ap, subst, ◌∙◌, inl, inr, Option, None, Some, length, nat_eq, get_or, arith}
use Rattle.std.specs.Prelude.{slice_get, Contains}
use Rattle.std.proofs.lemmas.Bool.{eqb-true, eq-eqb, and_parts, and_from, cases_lt}
use Rattle.std.proofs.lemmas.Option.{slice_get_within, slice_get-get_or}
use Rattle.graph.specs.declared.post.Post.{Post}
use Rattle.flow.specs.declared.flow_graph.Flow.{Flow}
use Rattle.flow.specs.declared.flow_graph.FlowEdge.{FlowEdge}
use Rattle.trail.specs.declared.trail.Entry.{Entry}
use Rattle.trail.specs.Seen.{is_ordinary}
use Rattle.trail.specs.Trail.{At, HasKind}
use Rattle.trail.proofs.Sound.{same_some}
use Rattle.driver.proofs.Leading.{Passes}
use Rattle.driver.specs.declared.verdict.Warning.{Warning}
use Rattle.driver.specs.declared.verdict.Limits.{Limits}
use Rattle.driver.specs.declared.work.Work.{Work}
use Rattle.driver.specs.Leaving.{IsPostOf}
use Rattle.driver.specs.Driven.{driven}
use Rattle.driver.proofs.Left.{kinds_left}
use Rattle.driver.specs.Telling.{IsToldBy, AreWarnings, AreKindsTold, AreTold, AreNoted}
use Rattle.driver.specs.Looping.{leads, is_marked, is_kept, point_in, point_of, IsToldOf, OnEntry, IsPostAt, IsLargeAt, IsHalted, IsEntryAt, IsResting, OnRest, IsEnded}

clash : {A : Type 0} (b : Bool) → b ≡ true → b ≡ false → A
clash b x y = cc

-- the kinds of a post are told of
told_here : (flow : Flow) (warnings ws : List Warning) (place : ℕ) (entry : Entry) (point number : ℕ) (edge : FlowEdge) (post : Post) → slice_get flow.edges number ≡ Some edge →
    IsPostOf flow edge entry.graph post → AreNoted warnings ws edge.place place number post.kinds (length post.kinds) → AreKindsTold flow warnings place entry number →
    AreKindsTold flow ws place entry (number + 1)
told_here flow warnings ws place entry point number edge post stands post_is noted before = record {
  told = λ which kind below has. elim (cases_lt which number) [
    | inl old ↦ noted.keeps place has.edge.place.at kind (before.told which kind old has)
    | inr late ↦ now which kind (omega arith) has
  ];
}
  where
    now : (which kind : ℕ) → which ≡ number → (has : HasKind driven flow entry which kind) → IsToldBy ws place has.edge.place.at kind
    now which kind same has =
        let one : edge ≡ has.edge = same_some edge has.edge (sym stands ∙ (ap (slice_get flow.edges) (sym same) ∙ has.stands)) in
        let one' : has.is.edge ≡ edge = sym (same_some edge has.is.edge (sym stands ∙ (ap (slice_get flow.edges) (sym same) ∙ has.is.stands))) in
        let is' : IsPostOf flow edge entry.graph has.post = subst (λ (e : FlowEdge). IsPostOf flow e entry.graph has.post) one' has.is.is in
        let kinds : has.post.kinds ≡ post.kinds = kinds_left flow edge entry.graph has.post post is' post_is in
        let (at, below, found) = subst (λ (ks : List ℕ). Contains ks kind) kinds has.has in
        let there : slice_get post.kinds at ≡ Some (get_or post.kinds at kind) = slice_get-get_or post.kinds at kind below in
        subst (λ (e : FlowEdge). IsToldBy ws place e.place.at kind) one (noted.told at kind below (there ∙ ap (λ (k : ℕ). Some k) found))

-- warnings of a post more
warnings_noted : (flow : Flow) (trail : List Entry) (warnings ws : List Warning) (place : ℕ) (entry : Entry) (point number : ℕ) (edge : FlowEdge) (post : Post) → At trail place entry →
    entry.kept ≡ true → entry.point ≡ point → slice_get flow.edges number ≡ Some edge → leads point edge ≡ true → IsPostOf flow edge entry.graph post →
    AreNoted warnings ws edge.place place number post.kinds (length post.kinds) → AreWarnings flow trail warnings → AreWarnings flow trail ws
warnings_noted flow trail warnings ws place entry point number edge post there kept point_is stands leads post_is noted before =
    let (from, ordinary) = and_parts (nat_eq point edge.from) (is_ordinary edge.instr) leads in
    record {
      each = λ warning among. elim (noted.each warning among) [
        | inl old ↦ before.each warning old
        | inr new ↦ record {
          entry = entry;
          there = subst (λ (n : ℕ). At trail n entry) (sym new.entry_is) there;
          kept = kept;
          has = record {
            edge = edge;
            stands = ap (slice_get flow.edges) new.edge_is ∙ stands;
            leaves = sym (eqb-true point edge.from from) ∙ sym point_is;
            post = post;
            is = record { edge = edge; stands = ap (slice_get flow.edges) new.edge_is ∙ stands; ordinary = ordinary; is = post_is };
            has = new.kind_is;
          };
          place_is = new.place_is;
        }
      ];
    }

pub on_rest_noted : (flow : Flow) (limits : Limits) (before after : Work) (at which point number : ℕ) (edge : FlowEdge) (post : Post) (kinds : List ℕ) (ws : List Warning) →
    OnRest flow limits before at which point number → slice_get flow.edges number ≡ Some edge → leads point edge ≡ true → IsPostAt flow before.trail which edge post → kinds ≡ post.kinds →
    AreNoted before.warnings ws edge.place which number kinds (length kinds) → after ≡ record before { warnings = ws } → OnRest flow limits after at which point (number + 1)
on_rest_noted flow limits before after at which point number edge post kinds ws on stands leads post_at same_kinds noted' is =
    let noted : AreNoted before.warnings ws edge.place which number post.kinds (length post.kinds) =
    subst (λ (ks : List ℕ). AreNoted before.warnings ws edge.place which number ks (length ks)) same_kinds noted' in
    let one : post_at.entry ≡ on.is.entry = same_some post_at.entry on.is.entry (sym post_at.there ∙ on.is.there) in
    let post_is : IsPostOf flow edge on.is.entry.graph post = subst (λ (e : Entry). IsPostOf flow edge e.graph post) one post_at.is in
    let known : IsToldOf flow limits before at = on.resting.halted.known in
    subst (λ (work : Work). OnRest flow limits work at which point (number + 1)) (sym is) (record {
      resting = record {
        halted = record {
          known = record {
            honest = known.honest;
            booked = record { peers = known.booked.peers; counts = known.booked.counts; kept = known.booked.kept; within = known.booked.within };
            points = known.points;
            warnings = warnings_noted flow before.trail before.warnings ws which on.is.entry point number edge post on.is.there on.is.kept on.is.point_is stands leads post_is noted known.warnings;
            told = record { told = λ place entry number kind below there kept has. noted.keeps place has.edge.place.at kind (known.told.told place entry number kind below there kept has) };
          };
          why = on.resting.halted.why;
        };
        told = record { told = λ place entry number kind below there kept has. noted.keeps place has.edge.place.at kind (on.resting.told.told place entry number kind below there kept has) };
      };
      is = on.is;
      here = told_here flow before.warnings ws which on.is.entry point number edge post stands post_is noted on.here;
    })

-- entries
pub entry_of : (flow : Flow) (limits : Limits) (work : Work) (at point number : ℕ) → OnEntry flow limits work at point number → IsEntryAt flow limits work.trail at point
entry_of flow limits work at point number on =
    record { honest = on.on.known.worked.honest; entry = on.on.entry; there = on.on.there; kept = on.on.kept; point_is = on.on.point_is }

pub rest_entry : (flow : Flow) (limits : Limits) (work : Work) (at which point number : ℕ) → OnRest flow limits work at which point number → IsEntryAt flow limits work.trail which point
rest_entry flow limits work at which point number on = on.is

pub rest_ended : (flow : Flow) (limits : Limits) (work : Work) (at which point number : ℕ) → OnRest flow limits work at which point number → IsLargeAt work.trail which → IsEnded flow limits work.trail which
rest_ended flow limits work at which point number on large = record { honest = on.is.honest; large = large }

-- edges that do not lead from the entry
pub on_rest_past : (flow : Flow) (limits : Limits) (work : Work) (at which point number more : ℕ) → OnRest flow limits work at which point number → number ≤ more →
    ((other : ℕ) (edge : FlowEdge) → number ≤ other → other < more → slice_get flow.edges other ≡ Some edge → is_ordinary edge.instr ≡ true → edge.from ≡ point → ⊥) →
    OnRest flow limits work at which point more
on_rest_past flow limits work at which point number more on past none = record {
  resting = on.resting;
  is = on.is;
  here = record {
    told = λ other kind below has. elim (cases_lt other number) [
      | inl old ↦ on.here.told other kind old has
      | inr late ↦ absurd (none other has.is.edge late below has.is.stands has.is.ordinary (from_there has.edge has.is.edge other has.stands has.is.stands has.leaves))
    ];
  };
}
  where
    from_there : (edge other : FlowEdge) (number : ℕ) → slice_get flow.edges number ≡ Some edge → slice_get flow.edges number ≡ Some other → edge.from ≡ on.is.entry.point → other.from ≡ point
    from_there edge other number there there' from =
        let one : edge ≡ other = same_some edge other (sym there ∙ there') in
        ap (λ (e : FlowEdge). e.from) (sym one) ∙ (from ∙ on.is.point_is)

pub rest_passes : (flow : Flow) (limits : Limits) (work : Work) (at which point : ℕ) → Passes flow (λ number. OnRest flow limits work at which point number) point
rest_passes flow limits work at which point = record { past = λ number more on past none. on_rest_past flow limits work at which point number more on past none }

pub on_rest_skip : (flow : Flow) (limits : Limits) (work : Work) (at which point number : ℕ) (edge : FlowEdge) → OnRest flow limits work at which point number →
    slice_get flow.edges number ≡ Some edge → leads point edge ≡ false → OnRest flow limits work at which point (number + 1)
on_rest_skip flow limits work at which point number edge on stands leads = on_rest_past flow limits work at which point number (number + 1) on (omega arith) (λ other edge' late below stands' ordinary from.
    let same : other ≡ number = omega arith in
    let one : edge ≡ edge' = same_some edge edge' (sym stands ∙ (ap (slice_get flow.edges) (sym same) ∙ stands')) in
    let from' : point ≡ edge.from = sym from ∙ ap (λ (e : FlowEdge). e.from) (sym one) in
    let ordinary' : is_ordinary edge.instr ≡ true = ap (λ (e : FlowEdge). is_ordinary e.instr) one ∙ ordinary in
    clash (nat_eq point edge.from && is_ordinary edge.instr) (and_from (nat_eq point edge.from) (is_ordinary edge.instr) (eq-eqb point edge.from from') ordinary') leads)

pub resting_first : (flow : Flow) (limits : Limits) (work : Work) (at : ℕ) → IsHalted flow limits work at → IsResting flow limits work at at
resting_first flow limits work at halted = record { halted = halted; told = halted.known.told }

pub resting_last : (flow : Flow) (limits : Limits) (work : Work) (at which : ℕ) → IsResting flow limits work at which → length work.trail ≤ which → IsResting flow limits work at (length work.trail)
resting_last flow limits work at which so all = record {
  halted = so.halted;
  told = record { told = λ place entry number kind below there kept has. so.told.told place entry number kind (omega arith) there kept has };
}

pub on_rest_first : (flow : Flow) (limits : Limits) (work : Work) (at which : ℕ) → IsResting flow limits work at which → is_kept work.trail which ≡ true →
    OnRest flow limits work at which (point_of work.trail which) 0
on_rest_first flow limits work at which so kept = by_entry (slice_get work.trail which) refl kept
  where
    by_entry : (one : Option Entry) → slice_get work.trail which ≡ one → is_marked one ≡ true → OnRest flow limits work at which (point_of work.trail which) 0
    by_entry None there kept = absurd cc
    by_entry (Some entry) there kept = record {
      resting = so;
      is = record { honest = so.halted.known.honest; entry = entry; there = there; kept = kept; point_is = sym (ap point_in there) };
      here = record { told = λ number kind below has. absurd (omega arith) };
    }

told_next : (flow : Flow) (trail : List Entry) (warnings : List Warning) (which : ℕ) → AreTold flow trail warnings which →
    ((entry : Entry) → At trail which entry → entry.kept ≡ true → AreKindsTold flow warnings which entry (length flow.edges)) → AreTold flow trail warnings (which + 1)
told_next flow trail warnings which so here = record {
  told = λ place entry number kind below there kept has. elim (cases_lt place which) [
    | inl old ↦ so.told place entry number kind old there kept has
    | inr late ↦ let same : place ≡ which = omega arith in
        subst (λ (n : ℕ). IsToldBy warnings n has.edge.place.at kind) (sym same)
        ((here entry (ap (slice_get trail) (sym same) ∙ there) kept).told number kind (slice_get_within flow.edges number has.edge has.stands) has)
  ];
}

pub resting_next : (flow : Flow) (limits : Limits) (work : Work) (at which point : ℕ) → OnRest flow limits work at which point (length flow.edges) → IsResting flow limits work at (which + 1)
resting_next flow limits work at which point on = record {
  halted = on.resting.halted;
  told = told_next flow work.trail work.warnings which on.resting.told (λ entry there kept.
      let one : on.is.entry ≡ entry = same_some on.is.entry entry (sym on.is.there ∙ there) in
      subst (λ (e : Entry). AreKindsTold flow work.warnings which e (length flow.edges)) one on.here);
}

pub resting_skip : (flow : Flow) (limits : Limits) (work : Work) (at which : ℕ) → IsResting flow limits work at which → is_kept work.trail which ≡ false → IsResting flow limits work at (which + 1)
resting_skip flow limits work at which so not_kept = record {
  halted = so.halted;
  told = told_next flow work.trail work.warnings which so.told (λ entry there kept. clash entry.kept kept (sym (ap is_marked there) ∙ not_kept));
}
