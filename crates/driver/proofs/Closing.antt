-- How it begins, and what a verdict says.
use Rattle.std.proofs.Common.{◌≡◌, ℕ, zero, suc, ◌<◌, ◌≤◌, List, [], ◌∷◌, Bool, true, false, refl, sym, ap, subst, ◌∙◌, Option, None, Some, length, ◌++◌, take, ◌↔◌, arith}
use Rattle.std.specs.Prelude.{slice_get, slice_index_or}
use Rattle.std.specs.Option.{option_map_or}
use Rattle.std.proofs.lemmas.Option.{slice_get_within}
use Rattle.cbase.specs.declared.place.Place.{Place}
use Rattle.graph.specs.declared.parts.Parts.{Parts}
use Rattle.graph.specs.Whole.{IsGraph}
use Rattle.flow.specs.declared.flow_graph.Flow.{Flow}
use Rattle.flow.specs.declared.flow_graph.FlowFunction.{FlowFunction}
use Rattle.flow.specs.InRange.{entry_of}
use Rattle.flow.specs.Valid.{IsFlow}
use Rattle.transfer.specs.Fitting.{FitsAt}
use Rattle.transfer.specs.Start.{IsStartGraph}
use Rattle.trail.specs.declared.trail.Cause.TheVariants.{Start, Step, Fold, Coarse}
use Rattle.trail.specs.declared.trail.Cause.{Cause}
use Rattle.trail.specs.declared.trail.Entry.{Entry}
use Rattle.trail.specs.Seen.{HasNoCalls}
use Rattle.trail.specs.Theorems.{HaveOffsets}
use Rattle.trail.specs.Trail.{At, Made, AreHonest, IsClosed, IsClean, AreTame, IsFaultTold, IsReal}
use Rattle.trail.proofs.Real.{error_met}
use Rattle.flow.specs.Exclusive.{IsExclusive}
use Rattle.flow.specs.Runs.{RunFaults}
use Rattle.trail.specs.Work.{IsWorked, AreBefore, IsOffered, Grows}
use Rattle.trail.proofs.Sound.{at_number, clean_tame, all_told, safe_shown, stay_shown}
use Rattle.trail.proofs.Grow.{first_grown, before_grown, closes}
use Rattle.driver.specs.declared.verdict.Warning.{Warning}
use Rattle.driver.specs.declared.verdict.Limits.{Limits}
use Rattle.driver.specs.declared.work.Work.{Work}
use Rattle.driver.specs.Driven.{driven, widening, is_small, IsPlaced}
use Rattle.driver.specs.Growing.{kept_count, Grown, IsFull}
use Rattle.driver.specs.Telling.{IsAmong, IsTold, IsToldBy, IsWarning, AreWarnings, AreTold, AreAllTold, TellsFaults}
use Rattle.driver.specs.Chains.{IsFromEarlier, AreFromEarlier}
use Rattle.driver.specs.Errors.{IsErrorTold, alike_runs, AreErrorsMet}
use Rattle.driver.specs.Ordering.{marked, AreInOrder}
use Rattle.driver.specs.Looping.{IsNothingKnown, Worked, IsWhy, IsResting, IsEnded}
use Rattle.driver.specs.Verdicts.{IsSafe, EndsSo, IsWarned, IsSpent, IsLarge}
use Rattle.driver.proofs.Leading.{nothing_at}
use Rattle.driver.proofs.Exacting.{exact}
use Rattle.driver.proofs.Sounding.{sound}
use Rattle.driver.proofs.InOrder.{marked_there, marked_of}

-- the entry of main is a point
pub entry_within : (flow : Flow) → IsFlow flow → entry_of flow flow.main < flow.points
entry_within flow valid = by_function (slice_get flow.functions flow.main) refl
  where
    not_within : (xs : List FlowFunction) (k : ℕ) → k < length xs → slice_get xs k ≡ None → ⊥
    not_within [] k lt is = omega arith
    not_within (x ∷ xs) zero lt is = absurd cc
    not_within (x ∷ xs) (suc k) lt is = not_within xs k (omega arith) is

    by_function : (found : Option FlowFunction) → slice_get flow.functions flow.main ≡ found → option_map_or (λ function. function.entry) found 0 < flow.points
    by_function None there = absurd (not_within flow.functions flow.main valid.in_range.main there)
    by_function (Some function) there =
        (at_number (λ (f : FlowFunction). (f.entry < flow.points) × (f.exit < flow.points)) flow.functions flow.main function valid.in_range.functions there).0

-- main's start is put in where nothing is known yet
pub begun_within : (flow : Flow) (limits : Limits) (work : Work) (point : ℕ) → IsFlow flow → point ≡ entry_of flow flow.main → IsNothingKnown flow limits work → point < length work.masks.newest.items
begun_within flow limits work point valid main known =
    let within : entry_of flow flow.main < flow.points = entry_within flow valid in
    subst (λ (n : ℕ). point < n) (sym known.points) (subst (λ (p : ℕ). p < flow.points) (sym main) within)

pub begun_placed : (flow : Flow) (point : ℕ) (graph : Parts) → IsGraph graph → is_small graph ≡ true → FitsAt flow (entry_of flow flow.main) graph → point ≡ entry_of flow flow.main → IsPlaced flow point graph
begun_placed flow point graph graph_is small fits main = record { graph_is = graph_is; small = small; fits = subst (λ (p : ℕ). FitsAt flow p graph) (sym main) fits }

-- one is kept at least
pub begun_room : {A : Type 0} (flow : Flow) (limits : Limits) (nothing work : Work) (point : ℕ) (graph : Parts) → 1 ≤ limits.budget → IsNothingKnown flow limits nothing →
    IsFull flow limits nothing work point Start graph → A
begun_room flow limits nothing work point graph some known full =
    let none : nothing.kept ≡ 0 = known.kept in
    let same : work.kept ≡ nothing.kept = full.kept in
    let count : work.kept ≡ kept_count work.trail = full.put.booked.kept in
    let all : kept_count work.trail ≡ limits.budget = full.full in
    absurd (omega (arith, none, same, count, all))

-- nothing is followed yet
pub worked_first : (flow : Flow) (limits : Limits) (nothing work : Work) (point : ℕ) (graph : Parts) → IsStartGraph flow graph → IsPlaced flow point graph → point ≡ entry_of flow flow.main →
    IsNothingKnown flow limits nothing → Grown flow limits nothing work point Start graph → Worked flow limits work 0
worked_first flow limits nothing work point graph start placed main known grew = record {
  known = record {
    worked = subst (λ (trail : List Entry). IsWorked driven (widening limits.int_limit) flow trail 0) (sym trail_is) (first_grown driven (widening limits.int_limit) flow point graph grew.more grows offered);
    booked = grew.in_work.put.booked;
    points = grew.in_work.put.points ∙ known.points;
    warnings = subst (λ (ws : List Warning). AreWarnings flow work.trail ws) (sym (grew.in_work.put.warnings ∙ known.warnings)) (record { each = λ warning among. no_warning warning among });
    told = record { told = λ place entry number kind below there kept has. absurd (omega arith) };
  };
  next = grew.in_work.next ∙ known.next;
  within = omega arith;
  causes = subst (λ (trail : List Entry). AreBefore trail 0 0 0) (sym trail_is)
      (record { before = before_grown driven (widening limits.int_limit) flow point [] Start graph 0 0 0 tt grew.more grows });
}
  where
    trail_is : work.trail ≡ grew.more
    trail_is = grew.in_work.put.trail_is ∙ ap (λ (trail : List Entry). trail ++ grew.more) known.trail

    grows : Grows driven (widening limits.int_limit) flow point [] Start graph grew.more
    grows = subst (λ (trail : List Entry). Grows driven (widening limits.int_limit) flow point trail Start graph grew.more) known.trail grew.grows

    no_warning : {A : Type 0} (warning : Warning) → IsAmong [] warning → A
    no_warning warning among = nothing_at among.number warning among.there

    offered : IsOffered driven (widening limits.int_limit) flow [] point Start graph
    offered = record { fits = placed; made = λ kept. (main, start); new = λ number earlier there same. nothing_at number earlier there }

-- all is followed
clean_there : (flow : Flow) (trail : List Entry) (warnings : List Warning) (at : ℕ) → AreTold flow trail warnings at → length trail ≤ at → warnings ≡ [] → IsClean driven flow trail
clean_there flow trail warnings at so all none place entry number kind there kept has =
    let within : place < length trail = slice_get_within trail place entry there in
    let told : IsToldBy warnings place has.edge.place.at kind = so.told place entry number kind (omega arith) there kept has in
    no_told (subst (λ (ws : List Warning). IsToldBy ws place has.edge.place.at kind) none told)
  where
    no_told : {token : ℕ} → IsToldBy [] place token kind → ⊥
    no_told told = nothing_at told.among.number told.warning told.among.there

pub safe_there : (flow : Flow) (limits : Limits) (work : Work) (at : ℕ) → IsFlow flow → HasNoCalls flow → HaveOffsets flow → Worked flow limits work at → length work.trail ≤ at →
    work.warnings ≡ [] → IsSafe flow limits work.trail
safe_there flow limits work at valid calls offsets so all none =
    let closed : IsClosed driven flow work.trail = closes driven (widening limits.int_limit) flow work.trail at so.known.worked all in
    let clean : IsClean driven flow work.trail = clean_there flow work.trail work.warnings at so.known.told all none in
    record {
      calls = calls;
      honest = so.known.worked.honest;
      closed = closed;
      clean = clean;
      stays = stay_shown driven (widening limits.int_limit) flow work.trail valid offsets calls (sound flow limits.int_limit valid) so.known.worked.honest closed (clean_tame driven flow work.trail clean);
      safe = λ kind place faults. safe_shown driven (widening limits.int_limit) flow work.trail valid offsets calls (sound flow limits.int_limit valid) so.known.worked.honest closed clean kind place faults;
    }

-- entries come from earlier ones
pub from_earlier : (flow : Flow) (limit : ℕ) (trail : List Entry) → AreHonest driven (widening limit) flow trail → AreFromEarlier trail
from_earlier flow limit trail honest = record { each = λ number entry there. by_cause number entry there entry.cause refl }
  where
    within : (items : List Entry) (count number : ℕ) (item : Entry) → slice_get (take count items) number ≡ Some item → number < count
    within items zero number item there = nothing_at number item there
    within [] (suc count) number item there = nothing_at number item there
    within (first ∷ rest) (suc count) zero item there = omega arith
    within (first ∷ rest) (suc count) (suc number) item there = let less : number < count = within rest count number item there in omega arith

    by_cause : (number : ℕ) (entry : Entry) → At trail number entry → (cause : Cause) → entry.cause ≡ cause → IsFromEarlier cause number
    by_cause number entry there Start is = tt
    by_cause number entry there (Fold from) is =
        let made : Made driven (widening limit) flow (take number trail) entry (Fold from) = subst (Made driven (widening limit) flow (take number trail) entry) is (honest number entry there).made in
        within trail number from made.earlier made.there
    by_cause number entry there (Coarse from) is =
        let made : Made driven (widening limit) flow (take number trail) entry (Coarse from) = subst (Made driven (widening limit) flow (take number trail) entry) is (honest number entry there).made in
        within trail number from made.earlier made.there
    by_cause number entry there (Step from edge result loss) is =
        let made : Made driven (widening limit) flow (take number trail) entry (Step from edge result loss) = subst (Made driven (widening limit) flow (take number trail) entry) is (honest number entry there).made in
        within trail number from made.earlier made.there

-- all was followed
closed_there : (flow : Flow) (limits : Limits) (trail : List Entry) (complete : Bool) (next : Option Entry) → EndsSo flow limits trail complete next → complete ≡ true → IsClosed driven flow trail
closed_there flow limits trail true None ends whole = ends
closed_there flow limits trail true (Some next) ends whole = absurd ends
closed_there flow limits trail false next ends whole = absurd cc

-- each fault of a run is a kind of a kept entry, and so told
faults_told : (flow : Flow) (limits : Limits) (trail : List Entry) (warnings : List Warning) → IsFlow flow → HaveOffsets flow → HasNoCalls flow → AreHonest driven (widening limits.int_limit) flow trail → IsClosed driven flow trail →
    AreTame driven flow trail → AreAllTold flow trail warnings → TellsFaults flow warnings
faults_told flow limits trail warnings valid offsets calls honest closed tame all kind place faults =
    let one : IsFaultTold driven flow trail kind place = all_told driven (widening limits.int_limit) flow trail valid offsets calls (sound flow limits.int_limit valid) honest closed tame kind place faults in
    subst (λ (p : Place). IsTold warnings p.at kind) (sym one.place_is) (all.told one.number one.entry one.edge kind one.there one.kept one.has)

-- in order
module _ (flow : Flow) (limits : Limits) (trail : List Entry) (raw ordered : List Warning) (so : AreInOrder trail raw ordered) where
  ordered_keeps : (place token kind : ℕ) → IsToldBy raw place token kind → IsTold ordered token kind
  ordered_keeps place token kind told =
      let there : IsTold ordered told.warning.place.at told.warning.kind =
      so.put.told told.among.number (marked so.marks told.warning) (slice_get_within raw told.among.number told.warning told.among.there)
      (marked_there so.marks raw told.among.number told.warning told.among.there) in
      record { warning = there.warning; among = there.among; token_is = there.token_is ∙ told.token_is; kind_is = there.kind_is ∙ told.kind_is }

  ordered_errors : (place token kind : ℕ) → place < length trail → IsReal trail place → IsToldBy raw place token kind → IsErrorTold ordered token kind
  ordered_errors place token kind within real told =
      let mark : slice_index_or so.marks told.warning.entry false ≡ true = ap (λ (n : ℕ). slice_index_or so.marks n false) told.entry_is ∙ (so.chained.is place within).1 real in
      let there : IsErrorTold ordered told.warning.place.at told.warning.kind =
      so.put.errors told.among.number (marked so.marks told.warning) (slice_get_within raw told.among.number told.warning told.among.there)
      (marked_there so.marks raw told.among.number told.warning told.among.there) mark in
      record { warning = there.warning; among = there.among; token_is = there.token_is ∙ told.token_is; kind_is = there.kind_is ∙ told.kind_is; error = there.error }

  ordered_some : (raw ≡ [] → ⊥) → ordered ≡ [] → ⊥
  ordered_some some none = by_first raw refl
    where
      by_first : (ws : List Warning) → raw ≡ ws → ⊥
      by_first [] is = some is
      by_first (first ∷ rest) is =
          let there : slice_get raw 0 ≡ Some first = ap (λ (ws : List Warning). slice_get ws 0) is in
          let told : IsTold ordered first.place.at first.kind =
          ordered_keeps first.entry first.place.at first.kind (record { warning = first; among = record { number = 0; there = there }; entry_is = refl; token_is = refl; kind_is = refl }) in
          let empty : IsTold [] first.place.at first.kind = subst (λ (ws : List Warning). IsTold ws first.place.at first.kind) none told in
          nothing_at empty.among.number empty.warning empty.among.there

  warning_marked : AreWarnings flow trail raw → (warning : Warning) → IsAmong ordered warning → IsWarning flow trail warning
  warning_marked each warning among =
      let of_one = marked_of so.marks raw warning (so.put.each warning among) in
      let one : IsWarning flow trail of_one.one = each.each of_one.one of_one.among in
      subst (λ (w : Warning). IsWarning flow trail w) (sym of_one.is) (record { entry = one.entry; there = one.there; kept = one.kept; has = one.has; place_is = one.place_is })

  ordered_each : AreWarnings flow trail raw → AreWarnings flow trail ordered
  ordered_each each = record { each = λ warning among. warning_marked each warning among }

  error_is : AreWarnings flow trail raw → (warning : Warning) → IsAmong ordered warning → (warning.error ≡ true) ↔ IsReal trail warning.entry
  error_is each warning among =
      let of_one = marked_of so.marks raw warning (so.put.each warning among) in
      let named : IsWarning flow trail of_one.one = each.each of_one.one of_one.among in
      let within : of_one.one.entry < length trail = slice_get_within trail of_one.one.entry named.entry named.there in
      subst (λ (w : Warning). (w.error ≡ true) ↔ IsReal trail w.entry) (sym of_one.is) (so.chained.is of_one.one.entry within)

  ordered_met : IsFlow flow → HaveOffsets flow → HasNoCalls flow → IsExclusive flow → AreHonest driven (widening limits.int_limit) flow trail → AreWarnings flow trail raw → AreErrorsMet flow ordered
  ordered_met valid offsets calls exclusive honest each warning among error =
      let named : IsWarning flow trail warning = warning_marked each warning among in
      subst (λ (p : Place). RunFaults flow warning.kind p) (sym named.place_is)
      (error_met driven (widening limits.int_limit) alike_runs flow trail valid offsets calls exclusive (exact flow valid) honest warning.entry named.entry warning.edge warning.kind named.has.edge
      ((error_is each warning among).0 error) named.there named.has.stands named.has)

  ordered_all : (at : ℕ) → AreTold flow trail raw at → length trail ≤ at → AreAllTold flow trail ordered
  ordered_all at told all = record {
    told = λ place entry number kind there kept has.
        let within : place < length trail = slice_get_within trail place entry there in
        ordered_keeps place has.edge.place.at kind (told.told place entry number kind (omega arith) there kept has);
  }

  pub warned : (at : ℕ) (complete : Bool) (next : Option Entry) → IsFlow flow → HaveOffsets flow → IsExclusive flow → HasNoCalls flow → AreHonest driven (widening limits.int_limit) flow trail → (raw ≡ [] → ⊥) →
      AreWarnings flow trail raw → AreTold flow trail raw at → length trail ≤ at → EndsSo flow limits trail complete next → IsWarned flow limits ordered trail complete next
  warned at complete next valid offsets exclusive calls honest some each told all ends = record {
    calls = calls;
    honest = honest;
    some = ordered_some some;
    each = ordered_each each;
    sorted = so.put.sorted;
    all = ordered_all at told all;
    errors = record {
      each = λ warning among. error_is each warning among;
      named = λ place entry number kind there kept real has.
          let within : place < length trail = slice_get_within trail place entry there in
          ordered_errors place has.edge.place.at kind within real (told.told place entry number kind (omega arith) there kept has);
    };
    met = ordered_met valid offsets calls exclusive honest each;
    ends = ends;
    tells = λ whole tame. faults_told flow limits trail ordered valid offsets calls honest (closed_there flow limits trail complete next ends whole) tame (ordered_all at told all);
  }

in_there : (trail : List Entry) (warnings ordered : List Warning) (trail' : List Entry) (raw : List Warning) → trail' ≡ trail → raw ≡ warnings → AreInOrder trail' raw ordered →
    AreInOrder trail warnings ordered
in_there trail warnings ordered trail' raw same same' put = subst (λ (ws : List Warning). AreInOrder trail ws ordered) same' (subst (λ (t : List Entry). AreInOrder t raw ordered) same put)

-- all of it, or up to where it ended
pub warned_there : (flow : Flow) (limits : Limits) (work : Work) (at : ℕ) (trail : List Entry) (raw ordered : List Warning) → IsFlow flow → HaveOffsets flow → IsExclusive flow → HasNoCalls flow →
    Worked flow limits work at → length work.trail ≤ at → (work.warnings ≡ [] → ⊥) → trail ≡ work.trail → raw ≡ work.warnings → AreInOrder trail raw ordered →
    IsWarned flow limits ordered work.trail true None
warned_there flow limits work at trail raw ordered valid offsets exclusive calls so all some same same' put =
    warned flow limits work.trail work.warnings ordered (in_there work.trail work.warnings ordered trail raw same same' put) at true None valid offsets exclusive calls
    so.known.worked.honest some so.known.warnings so.known.told all (closes driven (widening limits.int_limit) flow work.trail at so.known.worked all)

-- it ended before
pub warned_halted : (flow : Flow) (limits : Limits) (work : Work) (at : ℕ) (next : Entry) (trail : List Entry) (raw ordered : List Warning) → IsFlow flow → HaveOffsets flow → IsExclusive flow →
    HasNoCalls flow → IsResting flow limits work at (length work.trail) → work.next ≡ Some next → (work.warnings ≡ [] → ⊥) → trail ≡ work.trail → raw ≡ work.warnings → AreInOrder trail raw ordered →
    IsWarned flow limits ordered work.trail false (Some next)
warned_halted flow limits work at next trail raw ordered valid offsets exclusive calls so is some same same' put =
    warned flow limits work.trail work.warnings ordered (in_there work.trail work.warnings ordered trail raw same same' put) (length work.trail) false (Some next) valid offsets exclusive calls
    so.halted.known.honest some so.halted.known.warnings so.told (omega arith) (subst (λ (n : Option Entry). IsWhy flow limits work.trail at n) is so.halted.why)

pub spent_halted : (flow : Flow) (limits : Limits) (work : Work) (at : ℕ) (next : Entry) → HasNoCalls flow → IsResting flow limits work at (length work.trail) → work.next ≡ Some next →
    work.warnings ≡ [] → IsSpent flow limits work.trail next
spent_halted flow limits work at next calls so is none = record {
  calls = calls;
  honest = so.halted.known.honest;
  clean = clean_there flow work.trail work.warnings (length work.trail) so.told (omega arith) none;
  next_is = subst (λ (n : Option Entry). IsWhy flow limits work.trail at n) is so.halted.why;
}

pub large_halted : (flow : Flow) (limits : Limits) (work : Work) (at which : ℕ) → HasNoCalls flow → IsResting flow limits work at which → work.next ≡ None → IsLarge flow limits work.trail (Some at)
large_halted flow limits work at which calls so is = record {
  calls = calls;
  honest = so.halted.known.honest;
  large = subst (λ (n : Option Entry). IsWhy flow limits work.trail at n) is so.halted.why;
}

pub large_ended : (flow : Flow) (limits : Limits) (trail : List Entry) (which : ℕ) → HasNoCalls flow → IsEnded flow limits trail which → IsLarge flow limits trail (Some which)
large_ended flow limits trail which calls so = record { calls = calls; honest = so.honest; large = so.large }

pub large_start : (flow : Flow) (limits : Limits) → HasNoCalls flow → 33554432 ≤ length flow.variables → IsLarge flow limits [] None
large_start flow limits calls large = record { calls = calls; honest = λ number entry there. nothing_at number entry there; large = large }
