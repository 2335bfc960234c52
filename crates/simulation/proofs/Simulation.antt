-- The graph meets the faults of the source, from each point at which the rest of a run is lowered.
use Rattle.std.proofs.Common.{◌≡◌, ◌≢◌, ℕ, zero, suc, ◌<◌, ◌≤◌, List, [], ◌∷◌, ◌++◌, sym, subst, ⊎_elim, arith}
use Rattle.std.proofs.lemmas.Bool.{cases_eq}
use Rattle.c_machine.specs.Text.{Text}
use Rattle.c_machine.specs.State.{TaskIn}
use Rattle.flow.specs.declared.flow_graph.Flow.{Flow}
use Rattle.flow.specs.Valid.{IsFlow}
use Rattle.simulation.specs.Functions.{AreFunctionsLowered}
use Rattle.simulation.specs.Lowered.{Stop, IsIn, First, Behind, Lowered, Ends, Loop, WhereStands, Values, Addresses, Executes, ExecutesAlong, Tests, Repeats, Initialises, Numbers, IsKnown, Makes, Puts, MayLead, Forgets, LetsGo, Drops, Objects, Statics, Shifts, ShiftsNothing, ShiftsKnown, Loads, LoadsNothing, Converts, ConvertsBy, ConvertsAsking, ConvertsAway, ConvertsKnown, AppliesBy, Applies, AppliesKnown, Operates, Compares, OperatesKnown, OperatesNever, Asks, IsTrues, Answers, AndsOn, AndsOff, OrsOn, OrsOff, PicksOne, PicksOther, Stores, StoresKept, CopiesStruct, Zeroes, Updates, UpdatesKept, Counts, CountsNew, CountsOld, Mallocs, Callocs, Frees, Fills, FillsKept, Copies, CopiesKept, Assumes, AssumesTruth, AssumesNot, Expects, Inputs, EndsRuns, FailsAssertion, IsNothing, Idles, Calls, Finishes, Keeps, Branches, Enters, Widens, Passes, Leaves, Breaks, BreaksFinish, Continues, ContinuesFinish, GivesBack, GivesNoValue, GivesNoValueFinish, EndsMain, EndsVoid, EndsWithInput, Returns, Closes}
use Rattle.simulation.specs.Names.{Name}
use Rattle.simulation.specs.Running.{Setting, Running}
use Rattle.simulation.specs.Slots.{Slot}
use Rattle.simulation.proofs.Meeting.{Good}
use Rattle.simulation.proofs.Calls.{AreFunctionsGood, calls}
use Rattle.simulation.proofs.Standing.{where_stands}
use Rattle.simulation.proofs.Unfolding.{values, addresses, executes, executes_along, tests, repeats, initialises}
use Rattle.simulation.proofs.Numbers.{numbers, is_known, makes, puts, may_lead, forgets, lets_go, drops}
use Rattle.simulation.proofs.Addresses.{objects, statics, shifts, shifts_nothing, shifts_known, loads, loads_nothing}
use Rattle.simulation.proofs.Operators.{converts, converts_by, converts_asking, converts_away, converts_known, applies_by, applies, applies_known, operates, compares, operates_known, operates_never}
use Rattle.simulation.proofs.Truths.{asks, is_trues, answers, ands_on, ands_off, ors_on, ors_off, picks_one, picks_other}
use Rattle.simulation.proofs.Stores.{stores, stores_kept, copies_struct, zeroes}
use Rattle.simulation.proofs.Updates.{updates, updates_kept, counts, counts_new, counts_old}
use Rattle.simulation.proofs.BuiltIns.{mallocs, callocs, frees, fills, fills_kept, copies, copies_kept, assumes, assumes_truth, assumes_not, expects, inputs, ends_runs, fails_assertion, is_nothing}
use Rattle.simulation.proofs.Idling.{idles}
use Rattle.simulation.proofs.FullExpressions.{finishes, keeps, branches}
use Rattle.simulation.proofs.Blocks.{enters, widens, passes, leaves}
use Rattle.simulation.proofs.Jumps.{breaks, breaks_finish, continues, continues_finish}
use Rattle.simulation.proofs.Returns.{gives_back, gives_no_value, gives_no_value_finish, ends_main, ends_void, ends_with_input, returns, closes}

module _ (t : Text) (flow : Flow) (setting : Setting) (valid : IsFlow flow) (functions : AreFunctionsLowered t flow setting) where
  -- stops at which a run may go on, for so many steps
  abbrev pub AreGood : ℕ → Running → List (Stop t) → Type 0
  AreGood n running [] = Unit {0}
  AreGood n running (stop ∷ stops) =
      ((m : ℕ) → m ≤ n → Good t flow setting valid m running stop.scopes stop.tasks stop.slots stop.point) × AreGood n running stops

  abbrev pub AreGoodBelow : ℕ → Running → List (Stop t) → Type 0
  AreGoodBelow n running stops = (m : ℕ) → m < n → AreGood m running stops

  abbrev pub AreCallsGood : ℕ → Type 0
  AreCallsGood n = (m : ℕ) → m < n → AreFunctionsGood t flow setting valid functions m

  fewer : (m n : ℕ) (running : Running) (stops : List (Stop t)) → m ≤ n → AreGood n running stops → AreGood m running stops
  fewer m n running [] less good = tt
  fewer m n running (stop ∷ stops) less good = ((λ k below. good.0 k (omega arith)), fewer m n running stops less good.1)

  good-append : (n : ℕ) (running : Running) (one other : List (Stop t)) → AreGood n running one → AreGood n running other → AreGood n running (one ++ other)
  good-append n running [] other good good' = good'
  good-append n running (stop ∷ one) other good good' = (good.0, good-append n running one other good.1 good')

  good_in : (n : ℕ) (running : Running) {stop : Stop t} {stops : List (Stop t)} → IsIn t stop stops → AreGood n running stops →
      Good t flow setting valid n running stop.scopes stop.tasks stop.slots stop.point
  good_in n running First good = good.0 n (omega arith)
  good_in n running (Behind is) good = good_in n running is good.1

  -- behind a step of both all stops are at hand
  at_hand : (n m : ℕ) (running : Running) (now later : List (Stop t)) → suc m ≡ n → AreGood n running now → AreGoodBelow n running later → AreGood m running (later ++ now)
  at_hand n m running now later is good below = good-append m running later now (below m (omega arith)) (fewer m n running now (omega arith) good)

  calls_before : (n m : ℕ) → suc m ≡ n → AreCallsGood n → AreCallsGood m
  calls_before n m is good k less = good k (omega arith)

  -- a loop
  below : (n : ℕ) (running : Running) (stop : Stop t) (now later : List (Stop t)) →
      ((m : ℕ) → AreGood m running now → AreGoodBelow m running (stop ∷ later) → AreCallsGood m → Good t flow setting valid m running stop.scopes stop.tasks stop.slots stop.point) →
      AreGood n running now → AreGoodBelow n running later → AreCallsGood n → (m : ℕ) → m < n → Good t flow setting valid m running stop.scopes stop.tasks stop.slots stop.point
  below zero running stop now later each good good' good'' m less = absurd (omega arith)
  below (suc n) running stop now later each good good' good'' m less =
      let before : (k : ℕ) → k < n → Good t flow setting valid k running stop.scopes stop.tasks stop.slots stop.point =
      below n running stop now later each (fewer n (suc n) running now (omega arith) good) (λ k less'. good' k (omega arith)) (λ k less'. good'' k (omega arith)) in
      ⊎_elim
      (λ (same : m ≡ n). subst (λ (k : ℕ). Good t flow setting valid k running stop.scopes stop.tasks stop.slots stop.point) (sym same)
      (each n (fewer n (suc n) running now (omega arith) good) (λ k less'. ((λ j up. before j (omega arith)), good' k (omega arith))) (λ k less'. good'' k (omega arith))))
      (λ (differ : m ≢ n). before m (omega arith))
      (cases_eq m n)

  again : (n : ℕ) (running : Running) (stop : Stop t) (now later : List (Stop t)) →
      ((m : ℕ) → AreGood m running now → AreGoodBelow m running (stop ∷ later) → AreCallsGood m → Good t flow setting valid m running stop.scopes stop.tasks stop.slots stop.point) →
      AreGood n running now → AreGoodBelow n running later → AreCallsGood n → Good t flow setting valid n running stop.scopes stop.tasks stop.slots stop.point
  again n running stop now later each good good' good'' =
      each n good (λ m less. ((λ k up. below n running stop now later each good good' good'' k (omega arith)), good' m less)) good''

  pub simulates : {running : Running} {now later : List (Stop t)} {scopes : List (List Name)} {tasks : List (TaskIn t)} {slots : List Slot} {point : ℕ} →
      Lowered t flow setting running now later scopes tasks slots point → (n : ℕ) → AreGood n running now → AreGoodBelow n running later → AreCallsGood n →
      Good t flow setting valid n running scopes tasks slots point
  simulates {running = running} (Ends is) n good good' calls' = good_in n running is good
  simulates {running = running} (Loop {now = now} {later = later} {scopes = scopes} {tasks = tasks} {slots = slots} {point = point} d) n good good' calls' =
      again n running (record { scopes = scopes; tasks = tasks; slots = slots; point = point }) now later (λ m. simulates d m) good good' calls'
  simulates {running = running} (WhereStands {scopes = scopes} {tasks = tasks} {slots = slots} {point = point} each) n good good' calls' =
      where_stands t flow setting valid n running scopes tasks slots point (λ standing. simulates (each standing) n good good' calls')
  simulates {running = running} (Values {scopes = scopes} {tasks = tasks} {slots = slots} {point = point} expr d0) n good good' calls' =
      values t flow setting valid n running scopes tasks slots point expr
      (simulates d0 n good good' calls')
  simulates {running = running} (Addresses {scopes = scopes} {tasks = tasks} {slots = slots} {point = point} expr d0) n good good' calls' =
      addresses t flow setting valid n running scopes tasks slots point expr
      (simulates d0 n good good' calls')
  simulates {running = running} (Executes {scopes = scopes} {tasks = tasks} {slots = slots} {point = point} stmt d0) n good good' calls' =
      executes t flow setting valid n running scopes tasks slots point stmt
      (simulates d0 n good good' calls')
  simulates {running = running} (ExecutesAlong {now = now} {later = later} {scopes = scopes} {tasks = tasks} {slots = slots} {point = point} stmt to place h0 d0) n good good' calls' =
      executes_along t flow setting valid n running scopes tasks slots point stmt to place h0
      (λ m is. simulates d0 m (at_hand n m running now later is good good') (λ k less. tt) (calls_before n m is calls'))
  simulates {running = running} (Tests {scopes = scopes} {tasks = tasks} {slots = slots} {point = point} stmt d0) n good good' calls' =
      tests t flow setting valid n running scopes tasks slots point stmt
      (simulates d0 n good good' calls')
  simulates {running = running} (Repeats {scopes = scopes} {tasks = tasks} {slots = slots} {point = point} stmt held d0) n good good' calls' =
      repeats t flow setting valid n running scopes tasks slots point stmt held
      (simulates d0 n good good' calls')
  simulates {running = running} (Initialises {scopes = scopes} {tasks = tasks} {slots = slots} {point = point} place init d0) n good good' calls' =
      initialises t flow setting valid n running scopes tasks slots point place init
      (simulates d0 n good good' calls')
  simulates {running = running} (Numbers {now = now} {later = later} {scopes = scopes} {tasks = tasks} {slots = slots} {point = point} bits into size to place h0 h1 d0) n good good' calls' =
      numbers t flow setting valid n running scopes tasks slots point bits into size to place h0 h1
      (λ m is. simulates d0 m (at_hand n m running now later is good good') (λ k less. tt) (calls_before n m is calls'))
  simulates {running = running} (IsKnown {scopes = scopes} {tasks = tasks} {slots = slots} {point = point} bits d0) n good good' calls' =
      is_known t flow setting valid n running scopes tasks slots point bits
      (simulates d0 n good good' calls')
  simulates {running = running} (Makes {scopes = scopes} {tasks = tasks} {slots = slots} {point = point} bits into size to place h0 h1 d0) n good good' calls' =
      makes t flow setting valid n running scopes tasks slots point bits into size to place h0 h1
      (simulates d0 n good good' calls')
  simulates {running = running} (Puts {scopes = scopes} {tasks = tasks} {slots = slots} {point = point} register bits size to place h0 h1 d0) n good good' calls' =
      puts t flow setting valid n running scopes tasks slots point register bits size to place h0 h1
      (simulates d0 n good good' calls')
  simulates {running = running} (MayLead {scopes = scopes} {tasks = tasks} {slots = slots} {point = point} register size d0) n good good' calls' =
      may_lead t flow setting valid n running scopes tasks slots point register size
      (simulates d0 n good good' calls')
  simulates {running = running} (Forgets {scopes = scopes} {tasks = tasks} {slots = slots} {point = point} register size size' bits to plain place h0 h1 d0) n good good' calls' =
      forgets t flow setting valid n running scopes tasks slots point register size size' bits to plain place h0 h1
      (simulates d0 n good good' calls')
  simulates {running = running} (LetsGo {scopes = scopes} {tasks = tasks} {slots = slots} {point = point} slot h0 d0) n good good' calls' =
      lets_go t flow setting valid n running scopes tasks slots point slot h0
      (simulates d0 n good good' calls')
  simulates {running = running} (Drops {scopes = scopes} {tasks = tasks} {slots = slots} {point = point} slot h0 d0) n good good' calls' =
      drops t flow setting valid n running scopes tasks slots point slot h0
      (simulates d0 n good good' calls')
  simulates {running = running} (Objects {now = now} {later = later} {scopes = scopes} {tasks = tasks} {slots = slots} {point = point} token variable into to place h0 h1 h2 d0) n good good' calls' =
      objects t flow setting valid n running scopes tasks slots point token variable into to place h0 h1 h2
      (λ m is. simulates d0 m (at_hand n m running now later is good good') (λ k less. tt) (calls_before n m is calls'))
  simulates {running = running} (Statics {now = now} {later = later} {scopes = scopes} {tasks = tasks} {slots = slots} {point = point} token variable into to place h0 h1 h2 h3 h4 d0) n good good' calls' =
      statics t flow setting valid n running scopes tasks slots point token variable into to place h0 h1 h2 h3 h4
      (λ m is. simulates d0 m (at_hand n m running now later is good good') (λ k less. tt) (calls_before n m is calls'))
  simulates {running = running} (Shifts {now = now} {later = later} {scopes = scopes} {tasks = tasks} {slots = slots} {point = point} bytes at size into to plain place h0 h1 h2 d0) n good good' calls' =
      shifts t flow setting valid n running scopes tasks slots point bytes at size into to plain place h0 h1 h2
      (λ m is. simulates d0 m (at_hand n m running now later is good good') (λ k less. tt) (calls_before n m is calls'))
  simulates {running = running} (ShiftsNothing {scopes = scopes} {tasks = tasks} {slots = slots} {point = point} register plain d0) n good good' calls' =
      shifts_nothing t flow setting valid n running scopes tasks slots point register plain
      (simulates d0 n good good' calls')
  simulates {running = running} (ShiftsKnown {scopes = scopes} {tasks = tasks} {slots = slots} {point = point} bytes bits bits' h0 d0) n good good' calls' =
      shifts_known t flow setting valid n running scopes tasks slots point bytes bits bits' h0
      (simulates d0 n good good' calls')
  simulates {running = running} (Loads {now = now} {later = later} {scopes = scopes} {tasks = tasks} {slots = slots} {point = point} kind place plain bytes at size into to h0 h1 h2 h3 d0) n good good' calls' =
      loads t flow setting valid n running scopes tasks slots point kind place plain bytes at size into to h0 h1 h2 h3
      (λ m is. simulates d0 m (at_hand n m running now later is good good') (λ k less. tt) (calls_before n m is calls'))
  simulates {running = running} (LoadsNothing {scopes = scopes} {tasks = tasks} {slots = slots} {point = point} kind place slot h0 d0) n good good' calls' =
      loads_nothing t flow setting valid n running scopes tasks slots point kind place slot h0
      (simulates d0 n good good' calls')
  simulates {running = running} (Converts {scopes = scopes} {tasks = tasks} {slots = slots} {point = point} from to register size plain h0 d0) n good good' calls' =
      converts t flow setting valid n running scopes tasks slots point from to register size plain h0
      (simulates d0 n good good' calls')
  simulates {running = running} (ConvertsBy {scopes = scopes} {tasks = tasks} {slots = slots} {point = point} from kind register size into size' to plain plain' turn h0 h1 d0) n good good' calls' =
      converts_by t flow setting valid n running scopes tasks slots point from kind register size into size' to plain plain' turn h0 h1
      (simulates d0 n good good' calls')
  simulates {running = running} (ConvertsAsking {scopes = scopes} {tasks = tasks} {slots = slots} {point = point} from kind register size size' test middle off on plain place place' place'' h0 h1 h2 h3 h4 d0 d1) n good good' calls' =
      converts_asking t flow setting valid n running scopes tasks slots point from kind register size size' test middle off on plain place place' place'' h0 h1 h2 h3 h4
      (simulates d0 n good good' calls') (simulates d1 n good good' calls')
  simulates {running = running} (ConvertsAway {scopes = scopes} {tasks = tasks} {slots = slots} {point = point} from slot h0 d0) n good good' calls' =
      converts_away t flow setting valid n running scopes tasks slots point from slot h0
      (simulates d0 n good good' calls')
  simulates {running = running} (ConvertsKnown {scopes = scopes} {tasks = tasks} {slots = slots} {point = point} from to bits bits' h0 d0) n good good' calls' =
      converts_known t flow setting valid n running scopes tasks slots point from to bits bits' h0
      (simulates d0 n good good' calls')
  simulates {running = running} (AppliesBy {scopes = scopes} {tasks = tasks} {slots = slots} {point = point} op kind register size into size' to plain plain' turn h0 h1 d0) n good good' calls' =
      applies_by t flow setting valid n running scopes tasks slots point op kind register size into size' to plain plain' turn h0 h1
      (simulates d0 n good good' calls')
  simulates {running = running} (Applies {scopes = scopes} {tasks = tasks} {slots = slots} {point = point} op kind register size into size' to plain plain' calculated h0 h1 d0) n good good' calls' =
      applies t flow setting valid n running scopes tasks slots point op kind register size into size' to plain plain' calculated h0 h1
      (simulates d0 n good good' calls')
  simulates {running = running} (AppliesKnown {scopes = scopes} {tasks = tasks} {slots = slots} {point = point} op kind bits bits' h0 d0) n good good' calls' =
      applies_known t flow setting valid n running scopes tasks slots point op kind bits bits' h0
      (simulates d0 n good good' calls')
  simulates {running = running} (Operates {scopes = scopes} {tasks = tasks} {slots = slots} {point = point} op left right one size other size' into size'' to plain plain' plain'' calculated h0 h1 d0) n good good' calls' =
      operates t flow setting valid n running scopes tasks slots point op left right one size other size' into size'' to plain plain' plain'' calculated h0 h1
      (simulates d0 n good good' calls')
  simulates {running = running} (Compares {scopes = scopes} {tasks = tasks} {slots = slots} {point = point} op left right one size other size' middle one' size1 middle' other' size2 same differs bits bits' plain plain' plain1 plain2 first second place place' h0 h1 h2 h3 h4 h5 d0 d1) n good good' calls' =
      compares t flow setting valid n running scopes tasks slots point op left right one size other size' middle one' size1 middle' other' size2 same differs bits bits' plain plain' plain1 plain2 first second place place' h0 h1 h2 h3 h4 h5
      (simulates d0 n good good' calls') (simulates d1 n good good' calls')
  simulates {running = running} (OperatesKnown {scopes = scopes} {tasks = tasks} {slots = slots} {point = point} op left right bits bits' bits'' h0 d0) n good good' calls' =
      operates_known t flow setting valid n running scopes tasks slots point op left right bits bits' bits'' h0
      (simulates d0 n good good' calls')
  simulates {running = running} (OperatesNever {scopes = scopes} {tasks = tasks} {slots = slots} {point = point} op left right slot slot' h0 h1) n good good' calls' =
      operates_never t flow setting valid n running scopes tasks slots point op left right slot slot' h0 h1
  simulates {running = running} (Asks {scopes = scopes} {tasks = tasks} {slots = slots} {point = point} register size size' test middle off on plain place place' place'' h0 h1 h2 h3 d0 d1) n good good' calls' =
      asks t flow setting valid n running scopes tasks slots point register size size' test middle off on plain place place' place'' h0 h1 h2 h3
      (simulates d0 n good good' calls') (simulates d1 n good good' calls')
  simulates {running = running} (IsTrues {scopes = scopes} {tasks = tasks} {slots = slots} {point = point} bits d0) n good good' calls' =
      is_trues t flow setting valid n running scopes tasks slots point bits
      (simulates d0 n good good' calls')
  simulates {running = running} (Answers {scopes = scopes} {tasks = tasks} {slots = slots} {point = point} asked truth bits h0 d0) n good good' calls' =
      answers t flow setting valid n running scopes tasks slots point asked truth bits h0
      (simulates d0 n good good' calls')
  simulates {running = running} (AndsOn {scopes = scopes} {tasks = tasks} {slots = slots} {point = point} right d0) n good good' calls' =
      ands_on t flow setting valid n running scopes tasks slots point right
      (simulates d0 n good good' calls')
  simulates {running = running} (AndsOff {scopes = scopes} {tasks = tasks} {slots = slots} {point = point} right d0) n good good' calls' =
      ands_off t flow setting valid n running scopes tasks slots point right
      (simulates d0 n good good' calls')
  simulates {running = running} (OrsOn {scopes = scopes} {tasks = tasks} {slots = slots} {point = point} right d0) n good good' calls' =
      ors_on t flow setting valid n running scopes tasks slots point right
      (simulates d0 n good good' calls')
  simulates {running = running} (OrsOff {scopes = scopes} {tasks = tasks} {slots = slots} {point = point} right d0) n good good' calls' =
      ors_off t flow setting valid n running scopes tasks slots point right
      (simulates d0 n good good' calls')
  simulates {running = running} (PicksOne {scopes = scopes} {tasks = tasks} {slots = slots} {point = point} kind one other d0) n good good' calls' =
      picks_one t flow setting valid n running scopes tasks slots point kind one other
      (simulates d0 n good good' calls')
  simulates {running = running} (PicksOther {scopes = scopes} {tasks = tasks} {slots = slots} {point = point} kind one other d0) n good good' calls' =
      picks_other t flow setting valid n running scopes tasks slots point kind one other
      (simulates d0 n good good' calls')
  simulates {running = running} (Stores {now = now} {later = later} {scopes = scopes} {tasks = tasks} {slots = slots} {point = point} kind place bytes at from size size' to plain plain' h0 h1 h2 h3 d0) n good good' calls' =
      stores t flow setting valid n running scopes tasks slots point kind place bytes at from size size' to plain plain' h0 h1 h2 h3
      (λ m is. simulates d0 m (at_hand n m running now later is good good') (λ k less. tt) (calls_before n m is calls'))
  simulates {running = running} (StoresKept {now = now} {later = later} {scopes = scopes} {tasks = tasks} {slots = slots} {point = point} kind place place' bytes at from kept size size' middle to plain plain' h0 h1 h2 h3 h4 h5 d0) n good good' calls' =
      stores_kept t flow setting valid n running scopes tasks slots point kind place place' bytes at from kept size size' middle to plain plain' h0 h1 h2 h3 h4 h5
      (λ m is. simulates d0 m (at_hand n m running now later is good good') (λ k less. tt) (calls_before n m is calls'))
  simulates {running = running} (CopiesStruct {now = now} {later = later} {scopes = scopes} {tasks = tasks} {slots = slots} {point = point} place bytes at from size size' to plain plain' h0 h1 h2 d0) n good good' calls' =
      copies_struct t flow setting valid n running scopes tasks slots point place bytes at from size size' to plain plain' h0 h1 h2
      (λ m is. simulates d0 m (at_hand n m running now later is good good') (λ k less. tt) (calls_before n m is calls'))
  simulates {running = running} (Zeroes {now = now} {later = later} {scopes = scopes} {tasks = tasks} {slots = slots} {point = point} place place' bytes at size naught size' middle to plain h0 h1 h2 h3 h4 d0) n good good' calls' =
      zeroes t flow setting valid n running scopes tasks slots point place place' bytes at size naught size' middle to plain h0 h1 h2 h3 h4
      (λ m is. simulates d0 m (at_hand n m running now later is good good') (λ k less. tt) (calls_before n m is calls'))
  simulates {running = running} (Updates {now = now} {later = later} {scopes = scopes} {tasks = tasks} {slots = slots} {point = point} op place place' kind right bytes at from size size' at' old read behind to' new size'' to plain plain' plain'' calculated h0 h1 h2 h3 h4 h5 h6 h7 h8 h9 h10 h11 d0) n good good' calls' =
      updates t flow setting valid n running scopes tasks slots point op place place' kind right bytes at from size size' at' old read behind to' new size'' to plain plain' plain'' calculated h0 h1 h2 h3 h4 h5 h6 h7 h8 h9 h10 h11
      (λ m is. simulates d0 m (at_hand n m running now later is good good') (λ k less. tt) (calls_before n m is calls'))
  simulates {running = running} (UpdatesKept {now = now} {later = later} {scopes = scopes} {tasks = tasks} {slots = slots} {point = point} op place place' place'' kind right bytes at from size size' at' old read behind to' new size'' kept written to plain plain' plain'' calculated h0 h1 h2 h3 h4 h5 h6 h7 h8 h9 h10 h11 h12 h13 d0) n good good' calls' =
      updates_kept t flow setting valid n running scopes tasks slots point op place place' place'' kind right bytes at from size size' at' old read behind to' new size'' kept written to plain plain' plain'' calculated h0 h1 h2 h3 h4 h5 h6 h7 h8 h9 h10 h11 h12 h13
      (λ m is. simulates d0 m (at_hand n m running now later is good good') (λ k less. tt) (calls_before n m is calls'))
  simulates {running = running} (Counts {now = now} {later = later} {scopes = scopes} {tasks = tasks} {slots = slots} {point = point} up after place place' kind bytes at size at' old read behind to' new size'' to plain plain'' calculated h0 h1 h2 h3 h4 h5 h6 h7 h8 h9 h10 d0) n good good' calls' =
      counts t flow setting valid n running scopes tasks slots point up after place place' kind bytes at size at' old read behind to' new size'' to plain plain'' calculated h0 h1 h2 h3 h4 h5 h6 h7 h8 h9 h10
      (λ m is. simulates d0 m (at_hand n m running now later is good good') (λ k less. tt) (calls_before n m is calls'))
  simulates {running = running} (CountsNew {now = now} {later = later} {scopes = scopes} {tasks = tasks} {slots = slots} {point = point} up place place' place'' kind bytes at size at' old read behind to' new size'' kept written to plain plain'' calculated h0 h1 h2 h3 h4 h5 h6 h7 h8 h9 h10 h11 h12 d0) n good good' calls' =
      counts_new t flow setting valid n running scopes tasks slots point up place place' place'' kind bytes at size at' old read behind to' new size'' kept written to plain plain'' calculated h0 h1 h2 h3 h4 h5 h6 h7 h8 h9 h10 h11 h12
      (λ m is. simulates d0 m (at_hand n m running now later is good good') (λ k less. tt) (calls_before n m is calls'))
  simulates {running = running} (CountsOld {now = now} {later = later} {scopes = scopes} {tasks = tasks} {slots = slots} {point = point} up place place' place'' kind bytes at size at' old read behind to' new size'' kept moved to plain plain'' calculated h0 h1 h2 h3 h4 h5 h6 h7 h8 h9 h10 h11 h12 d0) n good good' calls' =
      counts_old t flow setting valid n running scopes tasks slots point up place place' place'' kind bytes at size at' old read behind to' new size'' kept moved to plain plain'' calculated h0 h1 h2 h3 h4 h5 h6 h7 h8 h9 h10 h11 h12
      (λ m is. simulates d0 m (at_hand n m running now later is good good') (λ k less. tt) (calls_before n m is calls'))
  simulates {running = running} (Mallocs {now = now} {later = later} {scopes = scopes} {tasks = tasks} {slots = slots} {point = point} place place' place'' result bytes into to to' h0 h1 h2 d0 d1) n good good' calls' =
      mallocs t flow setting valid n running scopes tasks slots point place place' place'' result bytes into to to' h0 h1 h2
      (λ m is. simulates d0 m (at_hand n m running now later is good good') (λ k less. tt) (calls_before n m is calls')) (λ m is. simulates d1 m (at_hand n m running now later is good good') (λ k less. tt) (calls_before n m is calls'))
  simulates {running = running} (Callocs {now = now} {later = later} {scopes = scopes} {tasks = tasks} {slots = slots} {point = point} place place' place'' result size count bytes into to to' h0 h1 h2 h3 d0 d1) n good good' calls' =
      callocs t flow setting valid n running scopes tasks slots point place place' place'' result size count bytes into to to' h0 h1 h2 h3
      (λ m is. simulates d0 m (at_hand n m running now later is good good') (λ k less. tt) (calls_before n m is calls')) (λ m is. simulates d1 m (at_hand n m running now later is good good') (λ k less. tt) (calls_before n m is calls'))
  simulates {running = running} (Frees {now = now} {later = later} {scopes = scopes} {tasks = tasks} {slots = slots} {point = point} place result at size to plain h0 h1 h2 d0) n good good' calls' =
      frees t flow setting valid n running scopes tasks slots point place result at size to plain h0 h1 h2
      (λ m is. simulates d0 m (at_hand n m running now later is good good') (λ k less. tt) (calls_before n m is calls'))
  simulates {running = running} (Fills {now = now} {later = later} {scopes = scopes} {tasks = tasks} {slots = slots} {point = point} place result length' from size' at size to plain' plain h0 h1 h2 d0) n good good' calls' =
      fills t flow setting valid n running scopes tasks slots point place result length' from size' at size to plain' plain h0 h1 h2
      (λ m is. simulates d0 m (at_hand n m running now later is good good') (λ k less. tt) (calls_before n m is calls'))
  simulates {running = running} (FillsKept {now = now} {later = later} {scopes = scopes} {tasks = tasks} {slots = slots} {point = point} place place' result length' from size' at size kept middle to plain' plain h0 h1 h2 h3 h4 d0) n good good' calls' =
      fills_kept t flow setting valid n running scopes tasks slots point place place' result length' from size' at size kept middle to plain' plain h0 h1 h2 h3 h4
      (λ m is. simulates d0 m (at_hand n m running now later is good good') (λ k less. tt) (calls_before n m is calls'))
  simulates {running = running} (Copies {now = now} {later = later} {scopes = scopes} {tasks = tasks} {slots = slots} {point = point} disjoint place result length' from size' at size to plain' plain h0 h1 h2 d0) n good good' calls' =
      copies t flow setting valid n running scopes tasks slots point disjoint place result length' from size' at size to plain' plain h0 h1 h2
      (λ m is. simulates d0 m (at_hand n m running now later is good good') (λ k less. tt) (calls_before n m is calls'))
  simulates {running = running} (CopiesKept {now = now} {later = later} {scopes = scopes} {tasks = tasks} {slots = slots} {point = point} disjoint place place' result length' from size' at size kept middle to plain' plain h0 h1 h2 h3 h4 d0) n good good' calls' =
      copies_kept t flow setting valid n running scopes tasks slots point disjoint place place' result length' from size' at size kept middle to plain' plain h0 h1 h2 h3 h4
      (λ m is. simulates d0 m (at_hand n m running now later is good good') (λ k less. tt) (calls_before n m is calls'))
  simulates {running = running} (Assumes {now = now} {later = later} {scopes = scopes} {tasks = tasks} {slots = slots} {point = point} place place' place'' result register size naught size' middle to plain h0 h1 h2 h3 d0) n good good' calls' =
      assumes t flow setting valid n running scopes tasks slots point place place' place'' result register size naught size' middle to plain h0 h1 h2 h3
      (λ m is. simulates d0 m (at_hand n m running now later is good good') (λ k less. tt) (calls_before n m is calls'))
  simulates {running = running} (AssumesTruth {scopes = scopes} {tasks = tasks} {slots = slots} {point = point} place result d0) n good good' calls' =
      assumes_truth t flow setting valid n running scopes tasks slots point place result
      (simulates d0 n good good' calls')
  simulates {running = running} (AssumesNot {scopes = scopes} {tasks = tasks} {slots = slots} {point = point} place result h0) n good good' calls' =
      assumes_not t flow setting valid n running scopes tasks slots point place result h0
  simulates {running = running} (Expects {scopes = scopes} {tasks = tasks} {slots = slots} {point = point} place result slot h0 d0) n good good' calls' =
      expects t flow setting valid n running scopes tasks slots point place result slot h0
      (simulates d0 n good good' calls')
  simulates {running = running} (Inputs {now = now} {later = later} {scopes = scopes} {tasks = tasks} {slots = slots} {point = point} place place' result into size to signed truth h0 h1 h2 d0) n good good' calls' =
      inputs t flow setting valid n running scopes tasks slots point place place' result into size to signed truth h0 h1 h2
      (λ m is. simulates d0 m (at_hand n m running now later is good good') (λ k less. tt) (calls_before n m is calls'))
  simulates {running = running} (EndsRuns {scopes = scopes} {tasks = tasks} {slots = slots} {point = point} place result h0) n good good' calls' =
      ends_runs t flow setting valid n running scopes tasks slots point place result h0
  simulates {running = running} (FailsAssertion {scopes = scopes} {tasks = tasks} {slots = slots} {point = point} h0) n good good' calls' =
      fails_assertion t flow setting valid n running scopes tasks slots point h0
  simulates {running = running} (IsNothing {scopes = scopes} {tasks = tasks} {slots = slots} {point = point} h0) n good good' calls' =
      is_nothing t flow setting valid n running scopes tasks slots point h0
  simulates {running = running} (Idles {scopes = scopes} {tasks = tasks} {slots = slots} {point = point} stmt body first semicolon close h0 h1 h2) n good good' calls' =
      idles t flow setting valid n running scopes tasks slots point stmt body first semicolon close h0 h1 h2
  simulates {running = running} (Calls {now = now} {later = later} {scopes = scopes} {tasks = tasks} {slots = slots} {point = point} number there function arguments into to place h0 h1 h2 h3 h4 h5 h6 d0) n good good' calls' =
      calls t flow setting valid functions n running scopes tasks slots point number there function arguments into to place h0 h1 h2 h3 h4 h5 h6 (λ m is. calls' m (omega arith))
      (λ m is. simulates d0 m (at_hand n m running now later is good good') (λ k less. tt) (calls_before n m is calls'))
  simulates {running = running} (Finishes {now = now} {later = later} {scopes = scopes} {tasks = tasks} {slots = slots} {point = point} slot place gone to h0 h1 h2 h3 d0) n good good' calls' =
      finishes t flow setting valid n running scopes tasks slots point slot place gone to h0 h1 h2 h3
      (λ m is. simulates d0 m (at_hand n m running now later is good good') (λ k less. tt) (calls_before n m is calls'))
  simulates {running = running} (Keeps {now = now} {later = later} {scopes = scopes} {tasks = tasks} {slots = slots} {point = point} place gone to h0 h1 h2 d0) n good good' calls' =
      keeps t flow setting valid n running scopes tasks slots point place gone to h0 h1 h2
      (λ m is. simulates d0 m (at_hand n m running now later is good good') (λ k less. tt) (calls_before n m is calls'))
  simulates {running = running} (Branches {now = now} {later = later} {scopes = scopes} {tasks = tasks} {slots = slots} {point = point} stmt truth gone to h0 h1 h2 d0) n good good' calls' =
      branches t flow setting valid n running scopes tasks slots point stmt truth gone to h0 h1 h2
      (λ m is. simulates d0 m (at_hand n m running now later is good good') (λ k less. tt) (calls_before n m is calls'))
  simulates {running = running} (Enters {now = now} {later = later} {scopes = scopes} {tasks = tasks} {slots = slots} {point = point} objects names to place h0 h1 h2 h3 d0) n good good' calls' =
      enters t flow setting valid n running scopes tasks slots point objects names to place h0 h1 h2 h3
      (λ m is. simulates d0 m (at_hand n m running now later is good good') (λ k less. tt) (calls_before n m is calls'))
  simulates {running = running} (Widens {scopes = scopes} {tasks = tasks} {slots = slots} {point = point} objects before names to place h0 h1 h2 h3 d0) n good good' calls' =
      widens t flow setting valid n running scopes tasks slots point objects before names to place h0 h1 h2 h3
      (simulates d0 n good good' calls')
  simulates {running = running} (Passes {scopes = scopes} {tasks = tasks} {slots = slots} {point = point} to place h0 d0) n good good' calls' =
      passes t flow setting valid n running scopes tasks slots point to place h0
      (simulates d0 n good good' calls')
  simulates {running = running} (Leaves {now = now} {later = later} {scopes = scopes} {tasks = tasks} {slots = slots} {point = point} names to place h0 h1 h2 d0) n good good' calls' =
      leaves t flow setting valid n running scopes tasks slots point names to place h0 h1 h2
      (λ m is. simulates d0 m (at_hand n m running now later is good good') (λ k less. tt) (calls_before n m is calls'))
  simulates {running = running} (Breaks {scopes = scopes} {tasks = tasks} {slots = slots} {point = point} word left dropped behind h0 h1 h2 h3 d0) n good good' calls' =
      breaks t flow setting valid n running scopes tasks slots point word left dropped behind h0 h1 h2 h3
      (simulates d0 n good good' calls')
  simulates {running = running} (BreaksFinish {now = now} {later = later} {scopes = scopes} {tasks = tasks} {slots = slots} {point = point} word left dropped behind names gone to h0 h1 h2 h3 h4 h5 h6 d0) n good good' calls' =
      breaks_finish t flow setting valid n running scopes tasks slots point word left dropped behind names gone to h0 h1 h2 h3 h4 h5 h6
      (λ m is. simulates d0 m (at_hand n m running now later is good good') (λ k less. tt) (calls_before n m is calls'))
  simulates {running = running} (Continues {scopes = scopes} {tasks = tasks} {slots = slots} {point = point} word left dropped behind h0 h1 h2 h3 d0) n good good' calls' =
      continues t flow setting valid n running scopes tasks slots point word left dropped behind h0 h1 h2 h3
      (simulates d0 n good good' calls')
  simulates {running = running} (ContinuesFinish {now = now} {later = later} {scopes = scopes} {tasks = tasks} {slots = slots} {point = point} word left dropped behind names gone to h0 h1 h2 h3 h4 h5 h6 d0) n good good' calls' =
      continues_finish t flow setting valid n running scopes tasks slots point word left dropped behind names gone to h0 h1 h2 h3 h4 h5 h6
      (λ m is. simulates d0 m (at_hand n m running now later is good good') (λ k less. tt) (calls_before n m is calls'))
  simulates {running = running} (GivesBack {now = now} {later = later} {scopes = scopes} {tasks = tasks} {slots = slots} {point = point} word place' from left register size middle register' size' result middle' to plain plain' turn gone h0 h1 h2 h3 h4 h5 h6 h7 h8 h9 h10 d0) n good good' calls' =
      gives_back t flow setting valid n running scopes tasks slots point word place' from left register size middle register' size' result middle' to plain plain' turn gone h0 h1 h2 h3 h4 h5 h6 h7 h8 h9 h10
      (λ m is. simulates d0 m (at_hand n m running now later is good good') (λ k less. tt) (calls_before n m is calls'))
  simulates {running = running} (GivesNoValue {scopes = scopes} {tasks = tasks} {slots = slots} {point = point} word from left slot h0 h1 h2 h3 h4 d0) n good good' calls' =
      gives_no_value t flow setting valid n running scopes tasks slots point word from left slot h0 h1 h2 h3 h4
      (simulates d0 n good good' calls')
  simulates {running = running} (GivesNoValueFinish {now = now} {later = later} {scopes = scopes} {tasks = tasks} {slots = slots} {point = point} word from left slot gone to h0 h1 h2 h3 h4 h5 d0) n good good' calls' =
      gives_no_value_finish t flow setting valid n running scopes tasks slots point word from left slot gone to h0 h1 h2 h3 h4 h5
      (λ m is. simulates d0 m (at_hand n m running now later is good good') (λ k less. tt) (calls_before n m is calls'))
  simulates {running = running} (EndsMain {scopes = scopes} {tasks = tasks} {slots = slots} {point = point} result close held d0) n good good' calls' =
      ends_main t flow setting valid n running scopes tasks slots point result close held
      (simulates d0 n good good' calls')
  simulates {running = running} (EndsVoid {scopes = scopes} {tasks = tasks} {slots = slots} {point = point} close held d0) n good good' calls' =
      ends_void t flow setting valid n running scopes tasks slots point close held
      (simulates d0 n good good' calls')
  simulates {running = running} (EndsWithInput {now = now} {later = later} {scopes = scopes} {tasks = tasks} {slots = slots} {point = point} result close place held bytes into size to signed truth h0 h1 h2 h3 d0) n good good' calls' =
      ends_with_input t flow setting valid n running scopes tasks slots point result close place held bytes into size to signed truth h0 h1 h2 h3
      (λ m is. simulates d0 m (at_hand n m running now later is good good') (λ k less. tt) (calls_before n m is calls'))
  simulates {running = running} (Returns {scopes = scopes} {point = point} slot from place place' exit to h0 h1 h2 h3 h4) n good good' calls' =
      returns t flow setting valid n running scopes point slot from place place' exit to h0 h1 h2 h3 h4
  simulates {running = running} (Closes {scopes = scopes} {point = point} slot from place place' closing exit to h0 h1 h2 h3 h4 h5) n good good' calls' =
      closes t flow setting valid n running scopes point slot from place place' closing exit to h0 h1 h2 h3 h4 h5

  -- for so many steps: a call is behind a step of both machines, so that functions may call one another
  functions_good : (n : ℕ) → AreCallsGood n
  functions_good zero m less = absurd (omega arith)
  functions_good (suc n) m less =
      ⊎_elim
      (λ (same : m ≡ n). subst (λ (k : ℕ). AreFunctionsGood t flow setting valid functions k) (sym same)
      (λ number called function stands is base. simulates ((functions number called function stands is).body base) n tt (λ k less'. tt) (functions_good n)))
      (λ (differ : m ≢ n). functions_good n m (omega arith))
      (cases_eq m n)

  pub is_good : (n : ℕ) {running : Running} {scopes : List (List Name)} {tasks : List (TaskIn t)} {slots : List Slot} {point : ℕ} →
      Lowered t flow setting running [] [] scopes tasks slots point → Good t flow setting valid n running scopes tasks slots point
  is_good n d = simulates d n tt (λ k less. tt) (functions_good n)
