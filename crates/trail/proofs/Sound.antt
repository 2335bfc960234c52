-- What every run meets stands in a closed honest trail.
use Rattle.std.proofs.Common.{◌≡◌, ℕ, zero, suc, ◌<◌, List, [], ◌∷◌, true, false, refl, sym, ap, subst, ◌∙◌, ◌⊎◌, inl, inr, Some, take, arith}
use Rattle.std.specs.Prelude.{slice_get, All, Contains}
use Rattle.std.proofs.lemmas.List.Elements.{All-contains}
use Rattle.cbase.specs.declared.place.Place.{Place}
use Rattle.graph.specs.declared.parts.Parts.{Parts}
use Rattle.graph.specs.Meaning.{StandsFor}
use Rattle.flow.specs.declared.instruction.Instr.{Instr}
use Rattle.flow.specs.declared.instruction.Instr.TheVariants.{Number, Address, Move, Read, Write, Shift, ShiftBy, Compute, Convert, IfSame, IfDifferent, Allocate, AllocateNone, Release, Fill, Copy, Enter, Leave, Finish, Input, Call, Return, Close}
use Rattle.flow.specs.declared.flow_graph.Flow.{Flow}
use Rattle.flow.specs.declared.flow_graph.FlowEdge.{FlowEdge}
use Rattle.flow.specs.InRange.{entry_of}
use Rattle.choices.specs.declared.choice.Choice.{Choice}
use Rattle.flow.specs.Machine.{State, Outcome, Went, Ended, Faulted, execute, step}
use Rattle.flow.specs.Runs.{start, StepsTo, FaultsAlong}
use Rattle.flow.specs.Valid.{IsFlow}
use Rattle.flow.proofs.RunStateLaws.{are_run_states}
use Rattle.trail.specs.declared.trail.Cause.TheVariants.{Start, Step}
use Rattle.trail.specs.declared.trail.Entry.{Entry}
use Rattle.trail.specs.Seen.{seen, IsOf, is_call, is_ordinary, HasNoCalls}
use Rattle.trail.specs.Analysis.{Analysis, Widening, Fits, IsFold, IsCoarse, IsSound, StandsAmong}
use Rattle.trail.specs.Trail.{At, IsMadeOf, Made, AreHonest, IsSettled, SettledKept, SettledCovered, SettledFold, SettledCoarse, StandsAsStep, IsDone, IsClosed, IsClean, AreTame, IsFaultTold, IsHeld}
use Rattle.trail.specs.Theorems.{HaveOffsets, ShowsSafe, ShowsStay, TellsAll}
use Rattle.trail.proofs.Steps.{IsAt, Nowhere, told_state, told_place, begins, executes, returns_end, GoesFrom, goes_from, ComesAlong, comes_along, whole, whole_none, ComesLast, comes_last}

pub same_some : {A : Type 0} (x y : A) → Some x ≡ Some y → x ≡ y
same_some x y e = cc

pub contained : {A : Type 0} (items : List A) (number : ℕ) (item : A) → slice_get items number ≡ Some item → Contains items item
contained [] number item there = absurd cc
contained (first ∷ rest) zero item there = (zero, omega arith, same_some first item there)
contained (first ∷ rest) (suc number) item there = let more = contained rest number item there in (suc more.0, let less = more.1 in omega arith, more.2)

-- an element of a list has what all have
pub at_number : {A : Type 0} (P : A → Type 0) (items : List A) (number : ℕ) (item : A) → All P items → slice_get items number ≡ Some item → P item
at_number P items number item all there = All-contains P items item all (contained items number item there)

-- an entry of the front of a trail
pub at_taken : (items : List Entry) (count number : ℕ) (item : Entry) → At (take count items) number item → (number < count) × At items number item
at_taken items zero number item there = absurd cc
at_taken [] (suc count) number item there = absurd cc
at_taken (first ∷ rest) (suc count) zero item there = (omega arith, there)
at_taken (first ∷ rest) (suc count) (suc number) item there = let (less, there') = at_taken rest count number item there in (omega arith, there')

-- what an entry stands for a kept one does
module _ (analysis : Analysis) (widening : Widening) (flow : Flow) (trail : List Entry) (sound : IsSound analysis widening flow) (honest : AreHonest analysis widening flow trail) (state : State) where
  -- the entry of which another one is made
  made_of : (Makes : Parts → Parts → Type 0) (number later : ℕ) (entry after : Entry) → At trail number entry → (made : IsMadeOf Makes flow (take later trail) after number) → made.earlier ≡ entry
  made_of Makes number later entry after there made = let (less, at) = at_taken trail later number made.earlier made.there in same_some made.earlier entry (sym at ∙ there)

  settles_so : (number : ℕ) → IsSettled analysis trail number → (entry : Entry) → At trail number entry → entry.point ≡ state.point → StandsFor entry.graph (seen state) → IsHeld trail state
  settles_so number (SettledKept _ one at kept) entry there point stands =
      let same : one ≡ entry = same_some one entry (sym at ∙ there) in
      record { number = number; entry = entry; there = there; kept = ap (λ (e : Entry). e.kept) (sym same) ∙ kept; point = point; stands = stands }
  settles_so number (SettledCovered _ one at covered) entry there point stands =
      let same : one ≡ entry = same_some one entry (sym at ∙ there) in
      let stands' : StandsFor one.graph (seen state) = subst (λ (e : Entry). StandsFor e.graph (seen state)) (sym same) stands in
      record {
        number = covered.number;
        entry = covered.other;
        there = covered.there;
        kept = covered.kept;
        point = covered.point ∙ (ap (λ (e : Entry). e.point) same ∙ point);
        stands = sound.covers covered.other.point covered.other.graph one.graph state (honest covered.number covered.other covered.there).fits covered.covers stands';
      }
  settles_so number (SettledFold _ later after at is settled) entry there point stands =
      let made : IsMadeOf (IsFold widening) flow (take later trail) after number = subst (Made analysis widening flow (take later trail) after) is (honest later after at).made in
      let same : made.earlier ≡ entry = made_of (IsFold widening) number later entry after there made in
      settles_so later settled after at (made.stays ∙ (ap (λ (e : Entry). e.point) same ∙ point))
      (sound.folds entry.point entry.graph after.graph state (honest number entry there).fits (subst (λ (e : Entry). IsFold widening e.graph after.graph) same made.is) stands)
  settles_so number (SettledCoarse _ later after at is settled) entry there point stands =
      let made : IsMadeOf (IsCoarse widening) flow (take later trail) after number = subst (Made analysis widening flow (take later trail) after) is (honest later after at).made in
      let same : made.earlier ≡ entry = made_of (IsCoarse widening) number later entry after there made in
      settles_so later settled after at (made.stays ∙ (ap (λ (e : Entry). e.point) same ∙ point))
      (sound.coarsens entry.point entry.graph after.graph state (honest number entry there).fits (subst (λ (e : Entry). IsCoarse widening e.graph after.graph) same made.is) stands)

settles : (analysis : Analysis) (widening : Widening) (flow : Flow) (trail : List Entry) → IsSound analysis widening flow → AreHonest analysis widening flow trail → IsClosed analysis flow trail →
    (number : ℕ) (entry : Entry) (state : State) → At trail number entry → entry.point ≡ state.point → StandsFor entry.graph (seen state) → IsHeld trail state
settles analysis widening flow trail sound honest closed number entry state there point stands =
    settles_so analysis widening flow trail sound honest state number (closed.settled number entry there) entry there point stands

-- the start
held_first : (analysis : Analysis) (widening : Widening) (flow : Flow) (trail : List Entry) → IsSound analysis widening flow → AreHonest analysis widening flow trail → IsClosed analysis flow trail →
    (state : State) (choices rest : List Choice) → start flow choices ≡ Went state rest → IsHeld trail state
held_first analysis widening flow trail sound honest closed state choices rest goes =
    let (number, entry, there, is) = closed.begins in
    let made : Made analysis widening flow (take number trail) entry Start = subst (Made analysis widening flow (take number trail) entry) is (honest number entry there).made in
    let at : IsAt (entry_of flow flow.main) [] [] state = told_state (start flow choices) (IsAt (entry_of flow flow.main) [] []) Nowhere state rest (begins flow choices) goes in
    settles analysis widening flow trail sound honest closed number entry state there (made.0 ∙ sym at.point_is) (sound.start entry.graph state choices rest made.1 goes)

-- an edge that goes on, or faults, is ordinary
ordinary : (flow : Flow) (edge : FlowEdge) (state : State) (choices : List Choice) (wanted : Outcome) → (Ended ≡ wanted → ⊥) →
    is_call edge.instr ≡ false → state.callers ≡ [] → execute flow edge.instr edge.to edge.place state choices ≡ wanted → is_ordinary edge.instr ≡ true
ordinary flow edge state choices wanted taken inside alone goes = by_instr edge.instr inside goes
  where
    by_instr : (instr : Instr) → is_call instr ≡ false → execute flow instr edge.to edge.place state choices ≡ wanted → is_ordinary instr ≡ true
    by_instr (Number into number size) inside goes = refl
    by_instr (Address into variable) inside goes = refl
    by_instr (Move into from) inside goes = refl
    by_instr (Read into address size pointer) inside goes = refl
    by_instr (Write address from size) inside goes = refl
    by_instr (Shift into address by) inside goes = refl
    by_instr (ShiftBy into address by scale) inside goes = refl
    by_instr (Compute into op one other size signed) inside goes = refl
    by_instr (Convert into from size signed) inside goes = refl
    by_instr (IfSame one other) inside goes = refl
    by_instr (IfDifferent one other) inside goes = refl
    by_instr (Allocate into bytes zeroed) inside goes = refl
    by_instr (AllocateNone into) inside goes = refl
    by_instr (Release address) inside goes = refl
    by_instr (Fill address from length) inside goes = refl
    by_instr (Copy target from length disjoint) inside goes = refl
    by_instr (Enter variables) inside goes = refl
    by_instr (Leave variables) inside goes = refl
    by_instr (Finish registers) inside goes = refl
    by_instr (Input into size signed truth) inside goes = refl
    by_instr (Call function arguments into) inside goes = absurd cc
    by_instr (Return from) inside goes = absurd (taken (sym (returns_end flow from edge.to edge.place state choices alone) ∙ goes))
    by_instr Close inside goes = refl

-- a state of a run: it has no callers, and a kept entry stands for it
record IsMet (trail : List Entry) (state : State) : Type 0 where
  held : IsHeld trail state
  alone : state.callers ≡ []
  inside : state.outer ≡ []

-- a post without kinds
no_kinds : (kinds : List ℕ) → ((kind : ℕ) → Contains kinds kind → ⊥) → kinds ≡ []
no_kinds [] none = refl
no_kinds (kind ∷ rest) none = absurd (none kind (contained (kind ∷ rest) zero kind refl))

-- a trail in which no post has a kind is tame
pub clean_tame : (analysis : Analysis) (flow : Flow) (trail : List Entry) → IsClean analysis flow trail → AreTame analysis flow trail
clean_tame analysis flow trail clean at entry number edge post there kept stands leaves is loss =
    no_kinds post.kinds (λ kind has. clean at entry number kind there kept (record { edge = edge; stands = stands; leaves = leaves; post = post; is = is; has = has }))

-- one step more
held_next : (analysis : Analysis) (widening : Widening) (flow : Flow) (trail : List Entry) → HasNoCalls flow → IsSound analysis widening flow → AreHonest analysis widening flow trail → IsClosed analysis flow trail → AreTame analysis flow trail →
    (state next : State) (choices rest : List Choice) → IsOf flow state → IsHeld trail state → step flow state choices ≡ Went next rest → IsMet trail next
held_next analysis widening flow trail calls sound honest closed tame state next choices rest is held goes =
    let along : ComesAlong flow flow.edges state choices (Went next rest) = comes_along flow flow.edges state choices (Went next rest) (λ e. absurd cc) goes in
    let from : GoesFrom flow along.edge state choices (Went next rest) = goes_from flow along.edge state choices (Went next rest) (λ e. absurd cc) along.goes in
    let inside : is_call along.edge.instr ≡ false = at_number (λ edge. is_call edge.instr ≡ false) flow.edges along.number along.edge calls along.stands in
    let is_ordinary' : is_ordinary along.edge.instr ≡ true = ordinary flow along.edge state choices (Went next rest) (λ e. absurd cc) inside is.callers from.comes in
    let at : IsAt along.edge.to state.callers state.outer next =
    told_state (execute flow along.edge.instr along.edge.to along.edge.place state choices) (IsAt along.edge.to state.callers state.outer) (λ p. p ≡ along.edge.place) next rest
    (executes flow along.edge.instr along.edge.to along.edge.place state choices inside is.callers) from.comes in
    let done : IsDone analysis flow trail held.number held.entry along.number along.edge =
    closed.expanded held.number held.entry held.there held.kept along.number along.edge along.stands is_ordinary' (from.from ∙ sym held.point) in
    let fits : Fits analysis flow along.edge.from held.entry.graph =
    subst (λ (point : ℕ). Fits analysis flow point held.entry.graph) (held.point ∙ sym from.from) (honest held.number held.entry held.there).fits in
    let steps : StepsTo flow along.number state next = record { edge = along.edge; stands = along.stands; choices = choices; rest = rest; goes = along.goes } in
    let among : StandsAmong done.post.graphs next =
    sound.steps along.number along.edge held.entry.graph done.post state next along.stands is_ordinary' fits done.is
    (tame held.number held.entry along.number along.edge done.post held.there held.kept along.stands (from.from ∙ sym held.point) done.is) is held.stands steps in
    let there : StandsAsStep trail (Step held.number along.number among.number done.post.loss) along.edge.to among.graph = done.all among.number among.graph among.there in
    record {
      held = settles analysis widening flow trail sound honest closed there.number there.entry next there.there (there.point_is ∙ sym at.point_is)
          (subst (λ (graph : Parts). StandsFor graph (seen next)) (sym there.graph_is) among.stands);
      alone = at.callers_are ∙ is.callers;
      inside = at.outer_is ∙ is.outer;
    }

-- every state of a run is met
met : (analysis : Analysis) (widening : Widening) (flow : Flow) (trail : List Entry) → IsFlow flow → HaveOffsets flow → HasNoCalls flow → IsSound analysis widening flow → AreHonest analysis widening flow trail → IsClosed analysis flow trail → AreTame analysis flow trail →
    (steps : ℕ) (choices rest : List Choice) (state : State) → whole flow steps choices ≡ Went state rest → IsMet trail state
met analysis widening flow trail valid offsets calls sound honest closed tame zero choices rest state goes =
    let begun : start flow choices ≡ Went state rest = sym (whole_none flow choices) ∙ goes in
    let at : IsAt (entry_of flow flow.main) [] [] state = told_state (start flow choices) (IsAt (entry_of flow flow.main) [] []) Nowhere state rest (begins flow choices) begun in
    record { held = held_first analysis widening flow trail sound honest closed state choices rest begun; alone = at.callers_are; inside = at.outer_is }
met analysis widening flow trail valid offsets calls sound honest closed tame (suc steps) choices rest state goes =
    by_case (comes_last flow steps choices (Went state rest) goes) (met analysis widening flow trail valid offsets calls sound honest closed tame steps choices)
  where
    by_case : ComesLast flow steps choices (Went state rest) ⊎ (whole flow steps choices ≡ Went state rest) →
        ((rest : List Choice) (state : State) → whole flow steps choices ≡ Went state rest → IsMet trail state) → IsMet trail state
    by_case (inl last) before =
        let so : IsMet trail last.state = before last.rest last.state last.before in
        let is : IsOf flow last.state = record {
          run = are_run_states.runs flow last.state choices last.rest steps valid offsets last.before;
          callers = so.alone;
          outer = so.inside;
        } in
        held_next analysis widening flow trail calls sound honest closed tame last.state state last.rest rest is so.held last.last
    by_case (inr same) before = before rest state same

-- a fault is a kind of a kept entry, at the place of its edge
told_last : (analysis : Analysis) (widening : Widening) (flow : Flow) (trail : List Entry) → HasNoCalls flow → IsSound analysis widening flow → AreHonest analysis widening flow trail → IsClosed analysis flow trail →
    (state : State) (choices : List Choice) (kind : ℕ) (place : Place) → IsOf flow state → IsHeld trail state → step flow state choices ≡ Faulted kind place →
    IsFaultTold analysis flow trail kind place
told_last analysis widening flow trail calls sound honest closed state choices kind place is held goes =
    let along : ComesAlong flow flow.edges state choices (Faulted kind place) = comes_along flow flow.edges state choices (Faulted kind place) (λ e. absurd cc) goes in
    let from : GoesFrom flow along.edge state choices (Faulted kind place) = goes_from flow along.edge state choices (Faulted kind place) (λ e. absurd cc) along.goes in
    let inside : is_call along.edge.instr ≡ false = at_number (λ edge. is_call edge.instr ≡ false) flow.edges along.number along.edge calls along.stands in
    let is_ordinary' : is_ordinary along.edge.instr ≡ true = ordinary flow along.edge state choices (Faulted kind place) (λ e. absurd cc) inside is.callers from.comes in
    let place_is : place ≡ along.edge.place =
    told_place (execute flow along.edge.instr along.edge.to along.edge.place state choices) (IsAt along.edge.to state.callers state.outer) (λ p. p ≡ along.edge.place) kind place
    (executes flow along.edge.instr along.edge.to along.edge.place state choices inside is.callers) from.comes in
    let done : IsDone analysis flow trail held.number held.entry along.number along.edge =
    closed.expanded held.number held.entry held.there held.kept along.number along.edge along.stands is_ordinary' (from.from ∙ sym held.point) in
    let faults : FaultsAlong flow along.number state kind = record {
      edge = along.edge;
      stands = along.stands;
      choices = choices;
      faults = along.goes ∙ ap (λ (p : Place). Faulted kind p) place_is;
    } in
    record {
      number = held.number;
      entry = held.entry;
      there = held.there;
      kept = held.kept;
      edge = along.number;
      has = record {
        edge = along.edge;
        stands = along.stands;
        leaves = from.from ∙ sym held.point;
        post = done.post;
        is = done.is;
        has = sound.faults along.number along.edge held.entry.graph done.post state kind along.stands is_ordinary'
            (subst (λ (point : ℕ). Fits analysis flow point held.entry.graph) (held.point ∙ sym from.from) (honest held.number held.entry held.there).fits) done.is is held.stands faults;
      };
      place_is = place_is;
    }

told : (analysis : Analysis) (widening : Widening) (flow : Flow) (trail : List Entry) → IsFlow flow → HaveOffsets flow → HasNoCalls flow → IsSound analysis widening flow → AreHonest analysis widening flow trail → IsClosed analysis flow trail → AreTame analysis flow trail →
    (kind : ℕ) (place : Place) (choices : List Choice) (steps : ℕ) → whole flow steps choices ≡ Faulted kind place → IsFaultTold analysis flow trail kind place
told analysis widening flow trail valid offsets calls sound honest closed tame kind place choices zero faults =
    let begun : start flow choices ≡ Faulted kind place = sym (whole_none flow choices) ∙ faults in
    absurd (told_place (start flow choices) (IsAt (entry_of flow flow.main) [] []) Nowhere kind place (begins flow choices) begun)
told analysis widening flow trail valid offsets calls sound honest closed tame kind place choices (suc steps) faults =
    by_case (comes_last flow steps choices (Faulted kind place) faults) (told analysis widening flow trail valid offsets calls sound honest closed tame kind place choices steps)
  where
    by_case : ComesLast flow steps choices (Faulted kind place) ⊎ (whole flow steps choices ≡ Faulted kind place) →
        (whole flow steps choices ≡ Faulted kind place → IsFaultTold analysis flow trail kind place) → IsFaultTold analysis flow trail kind place
    by_case (inl last) before =
        let so : IsMet trail last.state = met analysis widening flow trail valid offsets calls sound honest closed tame steps choices last.rest last.state last.before in
        let is : IsOf flow last.state = record {
          run = are_run_states.runs flow last.state choices last.rest steps valid offsets last.before;
          callers = so.alone;
          outer = so.inside;
        } in
        told_last analysis widening flow trail calls sound honest closed last.state last.rest kind place is so.held last.last
    by_case (inr same) before = before same

pub all_told : (analysis : Analysis) (widening : Widening) → TellsAll analysis widening
all_told analysis widening flow trail valid offsets calls sound honest closed tame kind place faults =
    told analysis widening flow trail valid offsets calls sound honest closed tame kind place faults.choices faults.steps faults.faults

pub safe_shown : (analysis : Analysis) (widening : Widening) → ShowsSafe analysis widening
safe_shown analysis widening flow trail valid offsets calls sound honest closed clean kind place faults =
    let so : IsFaultTold analysis flow trail kind place = all_told analysis widening flow trail valid offsets calls sound honest closed (clean_tame analysis flow trail clean) kind place faults in
    clean so.number so.entry so.edge kind so.there so.kept so.has

pub stay_shown : (analysis : Analysis) (widening : Widening) → ShowsStay analysis widening
stay_shown analysis widening flow trail valid offsets calls sound honest closed tame steps choices rest state goes =
    (met analysis widening flow trail valid offsets calls sound honest closed tame steps choices rest state goes).held
