-- What one look-up comes to, and what one after the other does.
use Rattle.std.proofs.Common.{◌≡◌, ℕ, map, ◌<◌, ◌≤◌, ◌+◌, List, [], ◌∷◌, ◌++◌, true, false, refl, sym, ap, subst, ◌∙◌, ◌⊎◌, inl, inr, Some, length, append-nil, append_assoc, arith}
use Rattle.std.specs.Prelude.{slice_get, IfOk, Result, Ok, Err}
use Rattle.graph.specs.declared.parts.Parts.{Parts}
use Rattle.graph.specs.Whole.{IsGraph}
use Rattle.coarse.specs.Coarsened.{is_coarse}
use Rattle.fold.specs.declared.fold.Fold.{Fold}
use Rattle.fold.specs.Foldable.{IsFoldable}
use Rattle.fold.specs.Folded.{folded}
use Rattle.graph.specs.Meaning.{StandsFor}
use Rattle.graph.specs.Renaming.{numbered}
use Rattle.graph.specs.State.{State}
use Rattle.materialise.specs.Kept.{size_at, HoldsAsBefore}
use Rattle.flow.specs.declared.flow_graph.Flow.{Flow}
use Rattle.tidying.specs.Fits.{FitsAs}
use Rattle.tidying.specs.Tidied.{tidied}
use Rattle.tidying.proofs.Fits.{tidied_fits}
use Rattle.tidying.proofs.Kept.{tidied_means}
use Rattle.driver.specs.Leaving.{IsWhatIsLeft}
use Rattle.trail.specs.declared.trail.Cause.{Cause}
use Rattle.trail.specs.declared.trail.Cause.TheVariants.{Fold as FoldCause, Coarse}
use Rattle.trail.specs.declared.trail.Entry.{Entry}
use Rattle.trail.specs.Seen.{IsHead}
use Rattle.trail.specs.Trail.{At, IsCovered}
use Rattle.trail.specs.Work.{candidate, IsFree, Pends, PendsNone, PendsFold, PendsCoarse}
use Rattle.trail.proofs.Sound.{same_some}
use Rattle.trail.proofs.Grow.{at_last, one_longer}
use Rattle.driver.specs.declared.verdict.Limits.{Limits}
use Rattle.driver.specs.declared.work.Change.{Change}
use Rattle.driver.specs.declared.work.Change.TheVariants as changes
use Rattle.driver.specs.declared.work.Put.{Put}
use Rattle.driver.specs.declared.work.Put.TheVariants.{Done, Full, Open}
use Rattle.driver.specs.declared.work.Work.{Work}
use Rattle.driver.specs.Driven.{driven, widening, is_small, IsPlaced, IsFolded, IsReducedTo}
use Rattle.driver.specs.Peers.{IsCoveredAt, IsUncovered}
use Rattle.driver.specs.Growing.{kept_count, IsBooked, IsPut, IsPutIn, IsUnkept, IsSettledNow, IsBeyond, IsOpen, LooksSo, HasLast, MakesSo, IsPending, AddsSo, MayChange, ChangesTo, cause_of, IsMade}

free_of : (trail : List Entry) (point : ℕ) (graph : Parts) → IsUncovered trail point graph 0 → IsFree driven trail point graph
free_of trail point graph uncovered number earlier there kept same covers =
    uncovered.none number (omega arith) (record { entry = earlier; there = there; kept = kept; point_is = same }) covers

-- One look-up.
module _ (flow : Flow) (limits : Limits) (before after : Work) (point : ℕ) (cause : Cause) (graph : Parts) where
  pub covered_now : IsCoveredAt before.trail point graph → IsUnkept limits.budget before after (candidate point cause graph false ∷ []) → IsSettledNow flow limits before after point cause graph
  covered_now covered unkept = record {
    kept = false;
    in_work = unkept.in_work;
    settled = inr (record { number = covered.number; other = covered.peer.entry; there = covered.peer.there; kept = covered.peer.kept; point = covered.peer.point_is; covers = covered.covers });
    free = λ kept. absurd cc;
    reduced = λ kept. absurd cc;
  }

  pub opens_now : (change : Change) → (IsHead flow point × MayChange limits.int_limit graph change) → IsUnkept limits.budget before after (candidate point cause graph false ∷ []) →
      IsOpen flow limits before after point cause graph change
  opens_now change opens unkept = record { unkept = unkept; head = opens.0; may = opens.1 }

  pub kept_now : IsUncovered before.trail point graph 0 → (IsHead flow point → IsReducedTo limits.int_limit graph) → IsPutIn limits.budget before after (candidate point cause graph true ∷ []) →
      IsSettledNow flow limits before after point cause graph
  kept_now uncovered closed put = record { kept = true; in_work = put; settled = inl refl; free = λ kept. free_of before.trail point graph uncovered; reduced = λ kept. closed }

  pub beyond_now : IsBooked limits.budget before → IsUncovered before.trail point graph 0 → (IsHead flow point → IsReducedTo limits.int_limit graph) → limits.budget ≤ before.kept →
      after ≡ record before { next = Some (candidate point cause graph true) } → IsBeyond flow limits before after point cause graph
  beyond_now booked uncovered closed full is = subst (λ (work : Work). IsBeyond flow limits before work point cause graph) (sym is) (record {
    put = record {
      trail_is = sym (append-nil before.trail);
      booked = record { peers = booked.peers; counts = booked.counts; kept = booked.kept; within = booked.within };
      points = refl;
      warnings = refl;
    };
    free = free_of before.trail point graph uncovered;
    reduced = closed;
    kept = refl;
    full = full;
    next = refl;
  })

-- What is made of a graph may stand where it does.
no_ports : (parts after : Parts) → map (size_at after) after.ports ≡ map (size_at parts) parts.ports → parts.ports ≡ [] → after.ports ≡ []
no_ports parts after same none = by_ports after.ports (same ∙ ap (map (size_at parts)) none)
  where
    by_ports : (ports : List ℕ) → map (size_at after) ports ≡ [] → ports ≡ []
    by_ports [] is = refl
    by_ports (first ∷ rest) is = absurd cc

pub made_there : (flow : Flow) (limit point : ℕ) (graph after : Parts) (change : Change) → IsPlaced flow point graph → ChangesTo limit graph change after → HoldsAsBefore graph after →
    is_small after ≡ true → IsGraph after → IsMade flow limit point graph change after
made_there flow limit point graph after change placed makes same small graph_is = record {
  placed = record {
    graph_is = graph_is;
    small = small;
    fits = record {
      variables = λ variable. same.variables variable ∙ placed.fits.variables variable;
      registers = λ register. same.registers register ∙ placed.fits.registers register;
      ports = no_ports graph after same.ports placed.fits.ports;
    };
  };
  makes = makes;
}

-- what is left of a graph holds the same
pub holds_left : (graph after : Parts) → FitsAs graph after → HoldsAsBefore graph after
holds_left graph after same = record { variables = same.variables; registers = same.registers; ports = same.ports }

-- and so does a fold, without what nothing holds then
pub folded_there : (limit : ℕ) (graph whole after : Parts) (fold : Fold) → is_coarse limit graph ≡ true → IsFoldable graph fold → whole ≡ numbered (folded fold graph) →
    ((state : State) → StandsFor graph state → StandsFor whole state) → IsWhatIsLeft whole after → IsFolded limit graph after
folded_there limit graph whole after fold coarse foldable is means left = record {
  coarse = coarse;
  fold = fold;
  foldable = foldable;
  is = left.same ∙ ap tidied is;
  means = λ state stands. subst (λ (g : Parts). StandsFor g state) (sym left.same) ((tidied_means whole left.is state).1 (means state stands));
}

pub folded_holds : (graph whole after : Parts) → HoldsAsBefore graph whole → IsWhatIsLeft whole after → HoldsAsBefore graph after
folded_holds graph whole after same left =
    let kept : FitsAs whole (tidied whole) = tidied_fits whole left.is in
    subst (λ (g : Parts). HoldsAsBefore graph g) (sym left.same) (record {
      variables = λ variable. kept.variables variable ∙ same.variables variable;
      registers = λ register. kept.registers register ∙ same.registers register;
      ports = kept.ports ∙ same.ports;
    })

-- The last entry.
module _ (flow : Flow) (limits : Limits) (work : Work) (point from : ℕ) (entry : Entry) (change : Change) (has : HasLast flow limits work point change) (there : At work.trail from entry) (long : length work.trail ≡ from + 1) where
  entry_last : has.entry ≡ entry
  entry_last = let same : has.is.from ≡ from = equal in same_some has.entry entry (sym has.is.there ∙ (ap (slice_get work.trail) same ∙ there))
    where
      equal : has.is.from ≡ from
      equal = let other : length work.trail ≡ has.is.from + 1 = has.is.long in omega (arith, long, other)

  pub last_placed : IsPlaced flow point entry.graph
  last_placed = subst (λ (e : Entry). IsPlaced flow point e.graph) entry_last has.is.placed

  pub last_may : MayChange limits.int_limit entry.graph change
  last_may = subst (λ (e : Entry). MayChange limits.int_limit e.graph change) entry_last has.is.may

pub if_put : {E : Type 0} (P Q : Put → Type 0) (result : Result Put E) → ((put : Put) → P put → Q put) → IfOk result P → IfOk result Q
if_put P Q (Ok put) follows is = follows put is
if_put P Q (Err error) follows is = tt

pub makes_there : (flow : Flow) (limits : Limits) (before after : Work) (point from : ℕ) (entry : Entry) (change : Change) (graph : Parts) (put : Put) → length before.trail ≡ from + 1 → At before.trail from entry →
    IsMade flow limits.int_limit point entry.graph change graph → LooksSo flow limits before after point (cause_of change from) graph put → MakesSo flow limits before after point change put
makes_there flow limits before after point from entry change graph put long there made looks =
    record { from = from; long = long; entry = entry; there = there; graph = graph; placed = made.placed; makes = made.makes; looks = looks }

-- One after the other.
full_there : (budget : ℕ) (before after : Work) (more : List Entry) → IsPut budget before after more → after.kept ≡ before.kept → budget ≤ before.kept → kept_count after.trail ≡ budget
full_there budget before after more put same full = let within : after.kept ≤ budget = put.booked.within in sym put.booked.kept ∙ omega (arith, same)

put_both : (budget : ℕ) (before now after : Work) (more new : List Entry) → IsPut budget before now more → IsPut budget now after new → IsPut budget before after (more ++ new)
put_both budget before now after more new one other = record {
  trail_is = other.trail_is ∙ (ap (λ (t : List Entry). t ++ new) one.trail_is ∙ append_assoc before.trail more new);
  booked = other.booked;
  points = other.points ∙ one.points;
  warnings = other.warnings ∙ one.warnings;
}

put_in_both : (budget : ℕ) (before now after : Work) (more new : List Entry) → IsPutIn budget before now more → IsPutIn budget now after new → IsPutIn budget before after (more ++ new)
put_in_both budget before now after more new one other = record { put = put_both budget before now after more new one.put other.put; next = other.next ∙ one.next }

module _ (flow : Flow) (limits : Limits) (before : Work) (point : ℕ) (cause : Cause) (graph : Parts) where
  none_pends : (last : Cause) (wide : Parts) → last ≡ cause → wide ≡ graph → Pends driven (widening limits.int_limit) flow point before.trail cause graph [] last wide
  none_pends last wide same alike = PendsNone [] last wide refl same alike

  pub looks_first : (after : Work) (put : Put) → IsPlaced flow point graph → LooksSo flow limits before after point cause graph put → AddsSo flow limits before after point cause graph put
  looks_first after Done placed is = record {
    more = candidate point cause graph is.kept ∷ [];
    grows = record {
      pending = [];
      last = cause;
      after = graph;
      kept = is.kept;
      pends = none_pends cause graph refl refl;
      more_is = refl;
      settled = subst (λ (t : List Entry). (is.kept ≡ true) ⊎ IsCovered driven t (candidate point cause graph is.kept)) (sym (append-nil before.trail)) is.settled;
      free = λ kept. subst (λ (t : List Entry). IsFree driven t point graph) (sym (append-nil before.trail)) (is.free kept);
      reduced = is.reduced;
    };
    in_work = is.in_work;
  }
  looks_first after Full placed is = record {
    pending = [];
    last = cause;
    wide = graph;
    pends = none_pends cause graph refl refl;
    put = is.put;
    free = subst (λ (t : List Entry). IsFree driven t point graph) (sym (is.put.trail_is ∙ append-nil before.trail)) is.free;
    reduced = is.reduced;
    kept = is.kept;
    full = full_there limits.budget before after [] is.put is.kept is.full;
    next = is.next;
  }
  looks_first after (Open change) placed is = record { pending = []; last = cause; wide = graph; pends = none_pends cause graph refl refl; unkept = is.unkept; head = is.head; may = is.may; placed = placed }

  module _ (now : Work) (change : Change) (so : IsPending flow limits before now point cause graph change) where
    abbrev last_one : Entry
    last_one = candidate point so.last so.wide false

    abbrev behind : List Entry
    behind = so.pending ++ last_one ∷ []

    now_is : now.trail ≡ (before.trail ++ so.pending) ++ last_one ∷ []
    now_is = so.unkept.in_work.put.trail_is ∙ sym (append_assoc before.trail so.pending (last_one ∷ []))

    now_long : length now.trail ≡ length (before.trail ++ so.pending) + 1
    now_long = ap (λ (t : List Entry). length t) now_is ∙ one_longer (before.trail ++ so.pending) last_one

    now_last : At now.trail (length (before.trail ++ so.pending)) last_one
    now_last = subst (λ (t : List Entry). slice_get t (length (before.trail ++ so.pending)) ≡ Some last_one) (sym now_is) (at_last (before.trail ++ so.pending) last_one)

    pub has_last : point < length before.masks.newest.items → HasLast flow limits now point change
    has_last within = record {
      entry = last_one;
      is = record {
        from = length (before.trail ++ so.pending);
        long = now_long;
        there = now_last;
        booked = so.unkept.in_work.put.booked;
        within = subst (λ (n : ℕ). point < n) (sym so.unkept.in_work.put.points) within;
        placed = so.placed;
        may = so.may;
      };
    }

    module _ (after : Work) (from : ℕ) (entry : Entry) (next : Parts) (long : length now.trail ≡ from + 1) (there : At now.trail from entry) (placed : IsPlaced flow point next)
        (makes : ChangesTo limits.int_limit entry.graph change next) where
      from_is : from ≡ length (before.trail ++ so.pending)
      from_is = let same = now_long in omega (arith, same, long)

      entry_is : entry ≡ last_one
      entry_is = same_some entry last_one (sym there ∙ (ap (slice_get now.trail) from_is ∙ now_last))

      abbrev next_cause : Cause
      next_cause = cause_of change from

      makes_last : ChangesTo limits.int_limit so.wide change next
      makes_last = subst (λ (e : Entry). ChangesTo limits.int_limit e.graph change next) entry_is makes

      pends_so : (c : Change) → ChangesTo limits.int_limit so.wide c next → Pends driven (widening limits.int_limit) flow point before.trail cause graph behind (cause_of c from) next
      pends_so changes.Coarse is = PendsCoarse so.pending so.last (Coarse from) so.wide next behind so.pends refl (ap (λ (n : ℕ). Coarse n) from_is) so.head is placed
      pends_so (changes.Fold fold) is = PendsFold so.pending so.last (FoldCause from) so.wide next behind so.pends refl (ap (λ (n : ℕ). FoldCause n) from_is) so.head is placed

      pends_on : Pends driven (widening limits.int_limit) flow point before.trail cause graph behind next_cause next
      pends_on = pends_so change makes_last

      now_trail : now.trail ≡ before.trail ++ behind
      now_trail = so.unkept.in_work.put.trail_is

      looks_on : (put : Put) → LooksSo flow limits now after point next_cause next put → AddsSo flow limits before after point cause graph put
      looks_on Done is = record {
        more = behind ++ candidate point next_cause next is.kept ∷ [];
        grows = record {
          pending = behind;
          last = next_cause;
          after = next;
          kept = is.kept;
          pends = pends_on;
          more_is = refl;
          settled = subst (λ (t : List Entry). (is.kept ≡ true) ⊎ IsCovered driven t (candidate point next_cause next is.kept)) now_trail is.settled;
          free = λ kept. subst (λ (t : List Entry). IsFree driven t point next) now_trail (is.free kept);
          reduced = is.reduced;
        };
        in_work = put_in_both limits.budget before now after behind (candidate point next_cause next is.kept ∷ []) so.unkept.in_work is.in_work;
      }
      looks_on Full is = record {
        pending = behind;
        last = next_cause;
        wide = next;
        pends = pends_on;
        put = subst (λ (m : List Entry). IsPut limits.budget before after m) (append-nil behind) (put_both limits.budget before now after behind [] so.unkept.in_work.put is.put);
        free = subst (λ (t : List Entry). IsFree driven t point next) (sym (is.put.trail_is ∙ append-nil now.trail)) is.free;
        reduced = is.reduced;
        kept = is.kept ∙ so.unkept.kept;
        full = full_there limits.budget now after [] is.put is.kept is.full;
        next = is.next;
      }
      looks_on (Open more) is = record {
        pending = behind;
        last = next_cause;
        wide = next;
        pends = pends_on;
        unkept = record {
          in_work = put_in_both limits.budget before now after behind (candidate point next_cause next false ∷ []) so.unkept.in_work is.unkept.in_work;
          kept = is.unkept.kept ∙ so.unkept.kept;
        };
        head = is.head;
        may = is.may;
        placed = placed;
      }

    pub looks_next : (after : Work) (put : Put) → MakesSo flow limits now after point change put → AddsSo flow limits before after point cause graph put
    looks_next after put is = looks_on after is.from is.entry is.graph is.long is.there is.placed is.makes put is.looks
