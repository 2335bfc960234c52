-- What is lowered where a run may go on at some stops is lowered where it may at more.
use Rattle.std.proofs.Common.{ℕ, List, [], ◌∷◌, ◌++◌, inl, inr, ◌⊎◌}
use Rattle.c_machine.specs.Text.{Text}
use Rattle.c_machine.specs.State.{TaskIn}
use Rattle.flow.specs.declared.flow_graph.Flow.{Flow}
use Rattle.simulation.specs.Slots.{Slot}
use Rattle.simulation.specs.Names.{Name}
use Rattle.simulation.specs.Running.{Setting, Running}
use Rattle.simulation.specs.Lowered.{Stop, IsIn, First, Behind, Lowered, Ends, Loop, WhereStands, Values, Addresses, Executes, ExecutesAlong, Tests, Repeats, Initialises, Numbers, IsKnown, Makes, Puts, MayLead, Forgets, LetsGo, Drops, Objects, Statics, Shifts, ShiftsNothing, ShiftsKnown, Loads, LoadsNothing, Converts, ConvertsBy, ConvertsAsking, ConvertsAway, ConvertsKnown, AppliesBy, Applies, AppliesKnown, Operates, Compares, OperatesKnown, OperatesNever, Asks, IsTrues, Answers, AndsOn, AndsOff, OrsOn, OrsOff, PicksOne, PicksOther, Stores, StoresKept, CopiesStruct, Zeroes, Updates, UpdatesKept, Counts, CountsNew, CountsOld, Mallocs, Callocs, Frees, Fills, FillsKept, Copies, CopiesKept, Assumes, AssumesTruth, AssumesNot, Expects, Inputs, EndsRuns, FailsAssertion, IsNothing, Idles, Calls, Finishes, Keeps, Branches, Enters, Widens, Passes, Leaves, Breaks, BreaksFinish, Continues, ContinuesFinish, GivesBack, GivesNoValue, GivesNoValueFinish, EndsMain, EndsVoid, EndsWithInput, Returns, Closes}

module _ (t : Text) where
  abbrev pub Within : List (Stop t) → List (Stop t) → Type 0
  Within one other = (stop : Stop t) → IsIn t stop one → IsIn t stop other

  in_front : (stop : Stop t) (one other : List (Stop t)) → IsIn t stop one → IsIn t stop (one ++ other)
  in_front stop [] other is = elim is [ ]
  in_front stop (first ∷ one) other First = First
  in_front stop (first ∷ one) other (Behind is) = Behind (in_front stop one other is)

  in_rest : (stop : Stop t) (one other : List (Stop t)) → IsIn t stop other → IsIn t stop (one ++ other)
  in_rest stop [] other is = is
  in_rest stop (first ∷ one) other is = Behind (in_rest stop one other is)

  behind_one : (stop first : Stop t) (one other : List (Stop t)) → IsIn t stop one ⊎ IsIn t stop other → IsIn t stop (first ∷ one) ⊎ IsIn t stop other
  behind_one stop first one other (inl is) = inl (Behind is)
  behind_one stop first one other (inr is) = inr is

  in_either : (stop : Stop t) (one other : List (Stop t)) → IsIn t stop (one ++ other) → IsIn t stop one ⊎ IsIn t stop other
  in_either stop [] other is = inr is
  in_either stop (first ∷ one) other First = inl First
  in_either stop (first ∷ one) other (Behind is) = behind_one stop first one other (in_either stop one other is)

  both_within : (one one' other other' : List (Stop t)) → Within one one' → Within other (other' ++ one') → Within (other ++ one) (other' ++ one')
  both_within one one' other other' each each' stop is = by_place (in_either stop other one is)
    where
      by_place : IsIn t stop other ⊎ IsIn t stop one → IsIn t stop (other' ++ one')
      by_place (inl is') = each' stop is'
      by_place (inr is') = in_rest stop other' one' (each stop is')

  none_within : (other : List (Stop t)) → Within [] other
  none_within other stop is = elim is [ ]

  one_more : (first : Stop t) (one other : List (Stop t)) → Within one other → Within (first ∷ one) (first ∷ other)
  one_more first one other each stop First = First
  one_more first one other each stop (Behind is) = Behind (each stop is)

module _ (t : Text) (flow : Flow) (setting : Setting) (running : Running) where
  -- at once, or behind a step of both machines
  widened : {now later : List (Stop t)} {scopes : List (List Name)} {tasks : List (TaskIn t)} {slots : List Slot} {point : ℕ} →
      Lowered t flow setting running now later scopes tasks slots point → (now' later' : List (Stop t)) → Within t now now' → Within t later (later' ++ now') →
      Lowered t flow setting running now' later' scopes tasks slots point
  widened (Ends is) now' later' each each' = Ends (each _ is)
  widened (Loop {now = now} {later = later} {scopes = scopes} {tasks = tasks} {slots = slots} {point = point} d) now' later' each each' =
      Loop (widened d now' (record { scopes = scopes; tasks = tasks; slots = slots; point = point } ∷ later') each
      (one_more t (record { scopes = scopes; tasks = tasks; slots = slots; point = point }) later (later' ++ now') each'))
  widened (WhereStands each) now' later' within within' = WhereStands (λ standing. widened (each standing) now' later' within within')
  widened (Values expr d0) now' later' each each' =
      Values expr (widened d0 now' later' each each')
  widened (Addresses expr d0) now' later' each each' =
      Addresses expr (widened d0 now' later' each each')
  widened (Executes stmt d0) now' later' each each' =
      Executes stmt (widened d0 now' later' each each')
  widened (ExecutesAlong {now = now} {later = later} stmt to place h0 d0) now' later' each each' =
      ExecutesAlong stmt to place h0 (widened d0 (later' ++ now') [] (both_within t now now' later later' each each') (none_within t (later' ++ now')))
  widened (Tests stmt d0) now' later' each each' =
      Tests stmt (widened d0 now' later' each each')
  widened (Repeats stmt held d0) now' later' each each' =
      Repeats stmt held (widened d0 now' later' each each')
  widened (Initialises place init d0) now' later' each each' =
      Initialises place init (widened d0 now' later' each each')
  widened (Numbers {now = now} {later = later} bits into size to place h0 h1 d0) now' later' each each' =
      Numbers bits into size to place h0 h1 (widened d0 (later' ++ now') [] (both_within t now now' later later' each each') (none_within t (later' ++ now')))
  widened (IsKnown bits d0) now' later' each each' =
      IsKnown bits (widened d0 now' later' each each')
  widened (Makes bits into size to place h0 h1 d0) now' later' each each' =
      Makes bits into size to place h0 h1 (widened d0 now' later' each each')
  widened (Puts register bits size to place h0 h1 d0) now' later' each each' =
      Puts register bits size to place h0 h1 (widened d0 now' later' each each')
  widened (MayLead register size d0) now' later' each each' =
      MayLead register size (widened d0 now' later' each each')
  widened (Forgets register size size' bits to plain place h0 h1 d0) now' later' each each' =
      Forgets register size size' bits to plain place h0 h1 (widened d0 now' later' each each')
  widened (LetsGo slot h0 d0) now' later' each each' =
      LetsGo slot h0 (widened d0 now' later' each each')
  widened (Drops slot h0 d0) now' later' each each' =
      Drops slot h0 (widened d0 now' later' each each')
  widened (Objects {now = now} {later = later} token variable into to place h0 h1 h2 d0) now' later' each each' =
      Objects token variable into to place h0 h1 h2 (widened d0 (later' ++ now') [] (both_within t now now' later later' each each') (none_within t (later' ++ now')))
  widened (Statics {now = now} {later = later} token variable into to place h0 h1 h2 h3 h4 d0) now' later' each each' =
      Statics token variable into to place h0 h1 h2 h3 h4 (widened d0 (later' ++ now') [] (both_within t now now' later later' each each') (none_within t (later' ++ now')))
  widened (Shifts {now = now} {later = later} bytes at size into to plain place h0 h1 h2 d0) now' later' each each' =
      Shifts bytes at size into to plain place h0 h1 h2 (widened d0 (later' ++ now') [] (both_within t now now' later later' each each') (none_within t (later' ++ now')))
  widened (ShiftsNothing register plain d0) now' later' each each' =
      ShiftsNothing register plain (widened d0 now' later' each each')
  widened (ShiftsKnown bytes bits bits' h0 d0) now' later' each each' =
      ShiftsKnown bytes bits bits' h0 (widened d0 now' later' each each')
  widened (Loads {now = now} {later = later} kind place plain bytes at size into to h0 h1 h2 h3 d0) now' later' each each' =
      Loads kind place plain bytes at size into to h0 h1 h2 h3 (widened d0 (later' ++ now') [] (both_within t now now' later later' each each') (none_within t (later' ++ now')))
  widened (LoadsNothing kind place slot h0 d0) now' later' each each' =
      LoadsNothing kind place slot h0 (widened d0 now' later' each each')
  widened (Converts from to register size plain h0 d0) now' later' each each' =
      Converts from to register size plain h0 (widened d0 now' later' each each')
  widened (ConvertsBy from kind register size into size' to plain plain' turn h0 h1 d0) now' later' each each' =
      ConvertsBy from kind register size into size' to plain plain' turn h0 h1 (widened d0 now' later' each each')
  widened (ConvertsAsking from kind register size size' test middle off on plain place place' place'' h0 h1 h2 h3 h4 d0 d1) now' later' each each' =
      ConvertsAsking from kind register size size' test middle off on plain place place' place'' h0 h1 h2 h3 h4 (widened d0 now' later' each each') (widened d1 now' later' each each')
  widened (ConvertsAway from slot h0 d0) now' later' each each' =
      ConvertsAway from slot h0 (widened d0 now' later' each each')
  widened (ConvertsKnown from to bits bits' h0 d0) now' later' each each' =
      ConvertsKnown from to bits bits' h0 (widened d0 now' later' each each')
  widened (AppliesBy op kind register size into size' to plain plain' turn h0 h1 d0) now' later' each each' =
      AppliesBy op kind register size into size' to plain plain' turn h0 h1 (widened d0 now' later' each each')
  widened (Applies op kind register size into size' to plain plain' calculated h0 h1 d0) now' later' each each' =
      Applies op kind register size into size' to plain plain' calculated h0 h1 (widened d0 now' later' each each')
  widened (AppliesKnown op kind bits bits' h0 d0) now' later' each each' =
      AppliesKnown op kind bits bits' h0 (widened d0 now' later' each each')
  widened (Operates op left right one size other size' into size'' to plain plain' plain'' calculated h0 h1 d0) now' later' each each' =
      Operates op left right one size other size' into size'' to plain plain' plain'' calculated h0 h1 (widened d0 now' later' each each')
  widened (Compares op left right one size other size' middle one' size1 middle' other' size2 same differs bits bits' plain plain' plain1 plain2 first second place place' h0 h1 h2 h3 h4 h5 d0 d1) now' later' each each' =
      Compares op left right one size other size' middle one' size1 middle' other' size2 same differs bits bits' plain plain' plain1 plain2 first second place place' h0 h1 h2 h3 h4 h5 (widened d0 now' later' each each') (widened d1 now' later' each each')
  widened (OperatesKnown op left right bits bits' bits'' h0 d0) now' later' each each' =
      OperatesKnown op left right bits bits' bits'' h0 (widened d0 now' later' each each')
  widened (OperatesNever op left right slot slot' h0 h1) now' later' each each' =
      OperatesNever op left right slot slot' h0 h1
  widened (Asks register size size' test middle off on plain place place' place'' h0 h1 h2 h3 d0 d1) now' later' each each' =
      Asks register size size' test middle off on plain place place' place'' h0 h1 h2 h3 (widened d0 now' later' each each') (widened d1 now' later' each each')
  widened (IsTrues bits d0) now' later' each each' =
      IsTrues bits (widened d0 now' later' each each')
  widened (Answers asked truth bits h0 d0) now' later' each each' =
      Answers asked truth bits h0 (widened d0 now' later' each each')
  widened (AndsOn right d0) now' later' each each' =
      AndsOn right (widened d0 now' later' each each')
  widened (AndsOff right d0) now' later' each each' =
      AndsOff right (widened d0 now' later' each each')
  widened (OrsOn right d0) now' later' each each' =
      OrsOn right (widened d0 now' later' each each')
  widened (OrsOff right d0) now' later' each each' =
      OrsOff right (widened d0 now' later' each each')
  widened (PicksOne kind one other d0) now' later' each each' =
      PicksOne kind one other (widened d0 now' later' each each')
  widened (PicksOther kind one other d0) now' later' each each' =
      PicksOther kind one other (widened d0 now' later' each each')
  widened (Stores {now = now} {later = later} kind place bytes at from size size' to plain plain' h0 h1 h2 h3 d0) now' later' each each' =
      Stores kind place bytes at from size size' to plain plain' h0 h1 h2 h3 (widened d0 (later' ++ now') [] (both_within t now now' later later' each each') (none_within t (later' ++ now')))
  widened (StoresKept {now = now} {later = later} kind place place' bytes at from kept size size' middle to plain plain' h0 h1 h2 h3 h4 h5 d0) now' later' each each' =
      StoresKept kind place place' bytes at from kept size size' middle to plain plain' h0 h1 h2 h3 h4 h5 (widened d0 (later' ++ now') [] (both_within t now now' later later' each each') (none_within t (later' ++ now')))
  widened (CopiesStruct {now = now} {later = later} place bytes at from size size' to plain plain' h0 h1 h2 d0) now' later' each each' =
      CopiesStruct place bytes at from size size' to plain plain' h0 h1 h2 (widened d0 (later' ++ now') [] (both_within t now now' later later' each each') (none_within t (later' ++ now')))
  widened (Zeroes {now = now} {later = later} place place' bytes at size naught size' middle to plain h0 h1 h2 h3 h4 d0) now' later' each each' =
      Zeroes place place' bytes at size naught size' middle to plain h0 h1 h2 h3 h4 (widened d0 (later' ++ now') [] (both_within t now now' later later' each each') (none_within t (later' ++ now')))
  widened (Updates {now = now} {later = later} op place place' kind right bytes at from size size' at' old read behind to' new size'' to plain plain' plain'' calculated h0 h1 h2 h3 h4 h5 h6 h7 h8 h9 h10 h11 d0) now' later' each each' =
      Updates op place place' kind right bytes at from size size' at' old read behind to' new size'' to plain plain' plain'' calculated h0 h1 h2 h3 h4 h5 h6 h7 h8 h9 h10 h11 (widened d0 (later' ++ now') [] (both_within t now now' later later' each each') (none_within t (later' ++ now')))
  widened (UpdatesKept {now = now} {later = later} op place place' place'' kind right bytes at from size size' at' old read behind to' new size'' kept written to plain plain' plain'' calculated h0 h1 h2 h3 h4 h5 h6 h7 h8 h9 h10 h11 h12 h13 d0) now' later' each each' =
      UpdatesKept op place place' place'' kind right bytes at from size size' at' old read behind to' new size'' kept written to plain plain' plain'' calculated h0 h1 h2 h3 h4 h5 h6 h7 h8 h9 h10 h11 h12 h13 (widened d0 (later' ++ now') [] (both_within t now now' later later' each each') (none_within t (later' ++ now')))
  widened (Counts {now = now} {later = later} up after place place' kind bytes at size at' old read behind to' new size'' to plain plain'' calculated h0 h1 h2 h3 h4 h5 h6 h7 h8 h9 h10 d0) now' later' each each' =
      Counts up after place place' kind bytes at size at' old read behind to' new size'' to plain plain'' calculated h0 h1 h2 h3 h4 h5 h6 h7 h8 h9 h10 (widened d0 (later' ++ now') [] (both_within t now now' later later' each each') (none_within t (later' ++ now')))
  widened (CountsNew {now = now} {later = later} up place place' place'' kind bytes at size at' old read behind to' new size'' kept written to plain plain'' calculated h0 h1 h2 h3 h4 h5 h6 h7 h8 h9 h10 h11 h12 d0) now' later' each each' =
      CountsNew up place place' place'' kind bytes at size at' old read behind to' new size'' kept written to plain plain'' calculated h0 h1 h2 h3 h4 h5 h6 h7 h8 h9 h10 h11 h12 (widened d0 (later' ++ now') [] (both_within t now now' later later' each each') (none_within t (later' ++ now')))
  widened (CountsOld {now = now} {later = later} up place place' place'' kind bytes at size at' old read behind to' new size'' kept moved to plain plain'' calculated h0 h1 h2 h3 h4 h5 h6 h7 h8 h9 h10 h11 h12 d0) now' later' each each' =
      CountsOld up place place' place'' kind bytes at size at' old read behind to' new size'' kept moved to plain plain'' calculated h0 h1 h2 h3 h4 h5 h6 h7 h8 h9 h10 h11 h12 (widened d0 (later' ++ now') [] (both_within t now now' later later' each each') (none_within t (later' ++ now')))
  widened (Mallocs {now = now} {later = later} place place' place'' result bytes into to to' h0 h1 h2 d0 d1) now' later' each each' =
      Mallocs place place' place'' result bytes into to to' h0 h1 h2 (widened d0 (later' ++ now') [] (both_within t now now' later later' each each') (none_within t (later' ++ now'))) (widened d1 (later' ++ now') [] (both_within t now now' later later' each each') (none_within t (later' ++ now')))
  widened (Callocs {now = now} {later = later} place place' place'' result size count bytes into to to' h0 h1 h2 h3 d0 d1) now' later' each each' =
      Callocs place place' place'' result size count bytes into to to' h0 h1 h2 h3 (widened d0 (later' ++ now') [] (both_within t now now' later later' each each') (none_within t (later' ++ now'))) (widened d1 (later' ++ now') [] (both_within t now now' later later' each each') (none_within t (later' ++ now')))
  widened (Frees {now = now} {later = later} place result at size to plain h0 h1 h2 d0) now' later' each each' =
      Frees place result at size to plain h0 h1 h2 (widened d0 (later' ++ now') [] (both_within t now now' later later' each each') (none_within t (later' ++ now')))
  widened (Fills {now = now} {later = later} place result length' from size' at size to plain' plain h0 h1 h2 d0) now' later' each each' =
      Fills place result length' from size' at size to plain' plain h0 h1 h2 (widened d0 (later' ++ now') [] (both_within t now now' later later' each each') (none_within t (later' ++ now')))
  widened (FillsKept {now = now} {later = later} place place' result length' from size' at size kept middle to plain' plain h0 h1 h2 h3 h4 d0) now' later' each each' =
      FillsKept place place' result length' from size' at size kept middle to plain' plain h0 h1 h2 h3 h4 (widened d0 (later' ++ now') [] (both_within t now now' later later' each each') (none_within t (later' ++ now')))
  widened (Copies {now = now} {later = later} disjoint place result length' from size' at size to plain' plain h0 h1 h2 d0) now' later' each each' =
      Copies disjoint place result length' from size' at size to plain' plain h0 h1 h2 (widened d0 (later' ++ now') [] (both_within t now now' later later' each each') (none_within t (later' ++ now')))
  widened (CopiesKept {now = now} {later = later} disjoint place place' result length' from size' at size kept middle to plain' plain h0 h1 h2 h3 h4 d0) now' later' each each' =
      CopiesKept disjoint place place' result length' from size' at size kept middle to plain' plain h0 h1 h2 h3 h4 (widened d0 (later' ++ now') [] (both_within t now now' later later' each each') (none_within t (later' ++ now')))
  widened (Assumes {now = now} {later = later} place place' place'' result register size naught size' middle to plain h0 h1 h2 h3 d0) now' later' each each' =
      Assumes place place' place'' result register size naught size' middle to plain h0 h1 h2 h3 (widened d0 (later' ++ now') [] (both_within t now now' later later' each each') (none_within t (later' ++ now')))
  widened (AssumesTruth place result d0) now' later' each each' =
      AssumesTruth place result (widened d0 now' later' each each')
  widened (AssumesNot place result h0) now' later' each each' =
      AssumesNot place result h0
  widened (Expects place result slot h0 d0) now' later' each each' =
      Expects place result slot h0 (widened d0 now' later' each each')
  widened (Inputs {now = now} {later = later} place place' result into size to signed truth h0 h1 h2 d0) now' later' each each' =
      Inputs place place' result into size to signed truth h0 h1 h2 (widened d0 (later' ++ now') [] (both_within t now now' later later' each each') (none_within t (later' ++ now')))
  widened (EndsRuns place result h0) now' later' each each' =
      EndsRuns place result h0
  widened (FailsAssertion h0) now' later' each each' =
      FailsAssertion h0
  widened (IsNothing h0) now' later' each each' =
      IsNothing h0
  widened (Idles stmt body first semicolon close h0 h1 h2) now' later' each each' =
      Idles stmt body first semicolon close h0 h1 h2
  widened (Calls {now = now} {later = later} number there function arguments into to place h0 h1 h2 h3 h4 h5 h6 d0) now' later' each each' =
      Calls number there function arguments into to place h0 h1 h2 h3 h4 h5 h6 (widened d0 (later' ++ now') [] (both_within t now now' later later' each each') (none_within t (later' ++ now')))
  widened (Finishes {now = now} {later = later} slot place gone to h0 h1 h2 h3 d0) now' later' each each' =
      Finishes slot place gone to h0 h1 h2 h3 (widened d0 (later' ++ now') [] (both_within t now now' later later' each each') (none_within t (later' ++ now')))
  widened (Keeps {now = now} {later = later} place gone to h0 h1 h2 d0) now' later' each each' =
      Keeps place gone to h0 h1 h2 (widened d0 (later' ++ now') [] (both_within t now now' later later' each each') (none_within t (later' ++ now')))
  widened (Branches {now = now} {later = later} stmt truth gone to h0 h1 h2 d0) now' later' each each' =
      Branches stmt truth gone to h0 h1 h2 (widened d0 (later' ++ now') [] (both_within t now now' later later' each each') (none_within t (later' ++ now')))
  widened (Enters {now = now} {later = later} objects names to place h0 h1 h2 h3 d0) now' later' each each' =
      Enters objects names to place h0 h1 h2 h3 (widened d0 (later' ++ now') [] (both_within t now now' later later' each each') (none_within t (later' ++ now')))
  widened (Widens objects before names to place h0 h1 h2 h3 d0) now' later' each each' =
      Widens objects before names to place h0 h1 h2 h3 (widened d0 now' later' each each')
  widened (Passes to place h0 d0) now' later' each each' =
      Passes to place h0 (widened d0 now' later' each each')
  widened (Leaves {now = now} {later = later} names to place h0 h1 h2 d0) now' later' each each' =
      Leaves names to place h0 h1 h2 (widened d0 (later' ++ now') [] (both_within t now now' later later' each each') (none_within t (later' ++ now')))
  widened (Breaks word left dropped behind h0 h1 h2 h3 d0) now' later' each each' =
      Breaks word left dropped behind h0 h1 h2 h3 (widened d0 now' later' each each')
  widened (BreaksFinish {now = now} {later = later} word left dropped behind names gone to h0 h1 h2 h3 h4 h5 h6 d0) now' later' each each' =
      BreaksFinish word left dropped behind names gone to h0 h1 h2 h3 h4 h5 h6 (widened d0 (later' ++ now') [] (both_within t now now' later later' each each') (none_within t (later' ++ now')))
  widened (Continues word left dropped behind h0 h1 h2 h3 d0) now' later' each each' =
      Continues word left dropped behind h0 h1 h2 h3 (widened d0 now' later' each each')
  widened (ContinuesFinish {now = now} {later = later} word left dropped behind names gone to h0 h1 h2 h3 h4 h5 h6 d0) now' later' each each' =
      ContinuesFinish word left dropped behind names gone to h0 h1 h2 h3 h4 h5 h6 (widened d0 (later' ++ now') [] (both_within t now now' later later' each each') (none_within t (later' ++ now')))
  widened (GivesBack {now = now} {later = later} word place' from left register size middle register' size' result middle' to plain plain' turn gone h0 h1 h2 h3 h4 h5 h6 h7 h8 h9 h10 d0) now' later' each each' =
      GivesBack word place' from left register size middle register' size' result middle' to plain plain' turn gone h0 h1 h2 h3 h4 h5 h6 h7 h8 h9 h10 (widened d0 (later' ++ now') [] (both_within t now now' later later' each each') (none_within t (later' ++ now')))
  widened (GivesNoValue word from left slot h0 h1 h2 h3 h4 d0) now' later' each each' =
      GivesNoValue word from left slot h0 h1 h2 h3 h4 (widened d0 now' later' each each')
  widened (GivesNoValueFinish {now = now} {later = later} word from left slot gone to h0 h1 h2 h3 h4 h5 d0) now' later' each each' =
      GivesNoValueFinish word from left slot gone to h0 h1 h2 h3 h4 h5 (widened d0 (later' ++ now') [] (both_within t now now' later later' each each') (none_within t (later' ++ now')))
  widened (EndsMain result close held d0) now' later' each each' =
      EndsMain result close held (widened d0 now' later' each each')
  widened (EndsVoid close held d0) now' later' each each' =
      EndsVoid close held (widened d0 now' later' each each')
  widened (EndsWithInput {now = now} {later = later} result close place held bytes into size to signed truth h0 h1 h2 h3 d0) now' later' each each' =
      EndsWithInput result close place held bytes into size to signed truth h0 h1 h2 h3 (widened d0 (later' ++ now') [] (both_within t now now' later later' each each') (none_within t (later' ++ now')))
  widened (Returns slot from place place' exit to h0 h1 h2 h3 h4) now' later' each each' =
      Returns slot from place place' exit to h0 h1 h2 h3 h4
  widened (Closes slot from place place' closing exit to h0 h1 h2 h3 h4 h5) now' later' each each' =
      Closes slot from place place' closing exit to h0 h1 h2 h3 h4 h5

  pub wider : {now later : List (Stop t)} {scopes : List (List Name)} {tasks : List (TaskIn t)} {slots : List Slot} {point : ℕ} →
      Lowered t flow setting running now later scopes tasks slots point → (now' later' : List (Stop t)) → Within t now now' → Within t later later' →
      Lowered t flow setting running now' later' scopes tasks slots point
  wider d now' later' each each' = widened d now' later' each (λ stop is. in_front t stop later' now' (each' stop is))

  -- what may go on behind a step may go on at once
  pub sooner : {now later : List (Stop t)} {scopes : List (List Name)} {tasks : List (TaskIn t)} {slots : List Slot} {point : ℕ} →
      Lowered t flow setting running now later scopes tasks slots point → Lowered t flow setting running (later ++ now) [] scopes tasks slots point
  sooner {now = now} {later = later} d = widened d (later ++ now) [] (λ stop is. in_rest t stop later now is) (λ stop is. in_front t stop later now is)
