-- What steps say of states is what is asked of the post of an edge.
use Rattle.std.proofs.Common.{◌≡◌, ◌≢◌, ℕ, Bool, true, false, [], map, length, None, Some, refl, sym, ◌∙◌, ap, subst}
use Rattle.std.specs.Prelude.{ℤ, List, Result, Ok, Err, IfOk, Contains, ◌↔◌}
use Rattle.cbase.specs.declared.no_memory.NoMemory.{NoMemory}
use Rattle.cbase.specs.declared.stop.Stop.{Stop}
use Rattle.bytes_core.specs.declared.block.Block.{Block}
use Rattle.graph.specs.declared.parts.Parts.{Parts}
use Rattle.graph.specs.declared.post.Post.{Post}
use Rattle.graph.specs.Meaning.{StandsFor}
use Rattle.graph.specs.State.{State, IsState}
use Rattle.graph.specs.WellFormed.{are_ascending}
use Rattle.changes.specs.Following.{Follows, StepMeans, SomeFaults}
use Rattle.changes.specs.Parts.{without_registers}
use Rattle.changes.specs.FollowingAlike.{FollowsAlike, StepMeansAlike}
use Rattle.changes.specs.Posted.{IsPost, SomeStandsFor}
use Rattle.changes.proofs.MeansAlike.{follows_alike, means_alike}
use Rattle.changes.proofs.Reached.{none_in}
use Rattle.flow.specs.declared.flow_graph.Flow.{Flow}
use Rattle.flow.specs.declared.instruction.Instr.{Instr}
use Rattle.flow.specs.declared.instruction.Instr.TheVariants.{Shift, ShiftBy, Convert, AllocateNone, Enter, Leave, Finish}
use Rattle.flow.specs.Machine.{size_in}
use Rattle.reinterpret.specs.Sameness.{StepSound}
use Rattle.heap_steps.specs.Leaving.{HasRoomFor, LeavesScope, FaultsLeaving, LeaveTail, leave_post}
use Rattle.heap_steps.specs.Looking.{loses_some, looked_by, looked}
use Rattle.heap_steps.specs.Posts.{finish_post}
use Rattle.heap_steps.specs.Regions.{IsExactOfRegions}
use Rattle.heap_steps.specs.Steps.{Refuses, Finishes, FaultsFinishing}
use Rattle.heap_steps.specs.Unreached.{may_lead_anywhere}
use Rattle.block_steps.specs.Blocks.{AnyMemory}
use Rattle.block_steps.specs.Entering.{EnterTail, Enters, enter_post}
use Rattle.register_steps.specs.Gaining.{size_held}
use Rattle.register_steps.specs.States.{Shifts, ShiftsBy, Converts, NoFault}
use Rattle.register_steps.specs.Steps.{shift_post, shift_by_post, convert_post}
use Rattle.edge_steps.specs.EdgeSteps.{EdgeSteps, EdgeFaults}
use Rattle.edge_steps.specs.Laws.{sizes_at}
use Rattle.transfer.specs.Means.{HasRoomBack, HasPlaceFor, StandsForAll, InstrMeans, stopped}
use Rattle.transfer.specs.Posts.{edge_post}
use Rattle.transfer.proofs.Four.{compares, accesses, never_four, four_kinds}
use Rattle.transfer.proofs.Listed.{MeetsAll}

module _ (parts : Parts) (Steps : State → State → Type 0) (Faults : ℕ → State → Type 0) where
  -- what is exact in any memory is so of a graph of regions
  in_any_memory : (post : Post) → ((after : Parts) (next : State) → post.loss ≡ None → Contains post.graphs after → IsState next → StandsFor after next → FollowsAlike parts Steps next) → IsExactOfRegions parts Steps post
  in_any_memory post exact = record { exact = λ none regions after next among is stands. exact after next none among is stands }

  pub alike_regions : {E : Type 0} (Tail : Parts → Type 0) (result : Result Post E) → IfOk result (λ post. StepMeansAlike parts Steps Faults Tail AnyMemory post) → IfOk result (λ post. IsExactOfRegions parts Steps post)
  alike_regions Tail (Ok post) means = in_any_memory post (λ after next none among is stands. means.exact after next none among is stands (record {}))
  alike_regions Tail (Err error) means = tt

  pub plain_regions : (Tail : Parts → Type 0) (post : Post) → StepMeans parts Steps Faults Tail post → IsExactOfRegions parts Steps post
  plain_regions Tail post means = in_any_memory post (λ after next none among is stands. follows_alike parts Steps next is (means.exact after next none among is stands))

  pub alike_all : (Tail : Parts → Type 0) (Room : List Block → Type 0) (Place : Type 0) (post : Post) → ((post.loss ≡ Some 4 → post.kinds ≡ []) → post.loss ≢ Some 4) → MeetsAll parts Faults Place post → StepMeansAlike parts Steps Faults Tail Room post →
      IsExactOfRegions parts Steps post → StandsForAll parts Steps Faults Room Place post
  alike_all Tail Room Place post other all means regions = record {
    sound = λ state next is stands steps excuse. means.sound state next is stands steps (other excuse);
    exact = means.exact;
    exact_of_regions = regions;
    kinds = means.kinds;
    met = means.met;
    through_any = all.met;
    ascending = means.ascending;
  }

-- An instruction of a kind.

module _ (flow : Flow) (point : ℕ) (instr kind : Instr) (parts : Parts) (is : instr ≡ kind) where
  abbrev Steps : State → State → Type 0
  Steps = EdgeSteps flow (sizes_at flow point) kind

  abbrev Faults : ℕ → State → Type 0
  Faults = EdgeFaults kind

  abbrev Place : Type 0
  Place = HasPlaceFor kind parts

  back : (post : Post) → StandsForAll parts Steps Faults (HasRoomBack kind) Place post → InstrMeans flow point instr parts post
  back post means = subst (λ (i : Instr). InstrMeans flow point i parts post) (sym is) means

  not_four : (post : Post) → compares kind ≡ false → IsPost (edge_post flow kind parts) post → (post.loss ≡ Some 4 → post.kinds ≡ []) → post.loss ≢ Some 4
  not_four post plain posted excuse loss = four_kinds flow kind parts plain (sym posted.loss ∙ loss) (sym posted.kinds ∙ excuse loss)

  -- one that may lead through any word
  pub alike_access : (Tail : Parts → Type 0) (result : Result Post Stop) → compares kind ≡ false → IfOk result (λ post. IsPost (edge_post flow kind parts) post) →
      IfOk result (λ post. StepMeansAlike parts Steps Faults Tail (HasRoomBack kind) post) → IfOk result (λ post. IsExactOfRegions parts Steps post) → IfOk result (λ post. MeetsAll parts Faults Place post) →
      IfOk result (λ post. InstrMeans flow point instr parts post)
  alike_access Tail (Ok post) plain posted means regions all = back post (alike_all parts Steps Faults Tail (HasRoomBack kind) Place post (not_four post plain posted) all means regions)
  alike_access Tail (Err error) plain posted means regions all = tt

  pub plain_access : (Tail : Parts → Type 0) (result : Result Post Stop) → compares kind ≡ false → IfOk result (λ post. IsPost (edge_post flow kind parts) post) →
      IfOk result (λ post. StepMeans parts Steps Faults Tail post) → IfOk result (λ post. MeetsAll parts Faults Place post) → IfOk result (λ post. InstrMeans flow point instr parts post)
  plain_access Tail (Ok post) plain posted means all =
      back post (alike_all parts Steps Faults Tail (HasRoomBack kind) Place post (not_four post plain posted) all (means_alike parts Steps Faults Tail (HasRoomBack kind) post means) (plain_regions parts Steps Faults Tail post means))
  plain_access Tail (Err error) plain posted means all = tt

  pub stopped_access : (Tail : Parts → Type 0) (answer : Result Post NoMemory) (result : Result Post Stop) → compares kind ≡ false → result ≡ stopped answer → IfOk answer (λ post. IsPost (edge_post flow kind parts) post) →
      IfOk answer (λ post. StepMeans parts Steps Faults Tail post) → IfOk answer (λ post. MeetsAll parts Faults Place post) → IfOk result (λ post. InstrMeans flow point instr parts post)
  stopped_access Tail answer result plain same posted means all =
      plain_access Tail result plain (by_answer (λ post. IsPost (edge_post flow kind parts) post) posted) (by_answer (λ post. StepMeans parts Steps Faults Tail post) means) (by_answer (λ post. MeetsAll parts Faults Place post) all)
    where
      on_answer : (P : Post → Type 0) (given : Result Post NoMemory) → IfOk given P → IfOk (stopped given) P
      on_answer P (Ok post) holds = holds
      on_answer P (Err error) holds = tt

      by_answer : (P : Post → Type 0) → IfOk answer P → IfOk result P
      by_answer P holds = subst (λ (r : Result Post Stop). IfOk r P) (sym same) (on_answer P answer holds)

  -- and one that may not
  all_met : {E : Type 0} (answer : Result Post E) → compares kind ≡ false → accesses kind ≡ false → IfOk answer (λ post. IsPost (edge_post flow kind parts) post) →
      IfOk answer (λ post. (fault : ℕ) → post.loss ≢ Some 4 → Contains post.kinds fault → SomeFaults parts (Faults fault)) → IfOk answer (λ post. MeetsAll parts Faults Place post)
  all_met (Ok post) plain alone posted met = record { met = λ room fault listed. met fault (λ loss. never_four flow kind parts plain alone (sym posted.loss ∙ loss)) listed }
  all_met (Err error) plain alone posted met = tt

  alike_met : (Tail : Parts → Type 0) (result : Result Post Stop) → IfOk result (λ post. StepMeansAlike parts Steps Faults Tail (HasRoomBack kind) post) →
      IfOk result (λ post. (fault : ℕ) → post.loss ≢ Some 4 → Contains post.kinds fault → SomeFaults parts (Faults fault))
  alike_met Tail (Ok post) means = means.met
  alike_met Tail (Err error) means = tt

  plain_met : {E : Type 0} (Tail : Parts → Type 0) (answer : Result Post E) → IfOk answer (λ post. StepMeans parts Steps Faults Tail post) →
      IfOk answer (λ post. (fault : ℕ) → post.loss ≢ Some 4 → Contains post.kinds fault → SomeFaults parts (Faults fault))
  plain_met Tail (Ok post) means = means.met
  plain_met Tail (Err error) means = tt

  pub alike_step : (Tail : Parts → Type 0) (result : Result Post Stop) → compares kind ≡ false → accesses kind ≡ false → IfOk result (λ post. IsPost (edge_post flow kind parts) post) →
      IfOk result (λ post. StepMeansAlike parts Steps Faults Tail (HasRoomBack kind) post) → IfOk result (λ post. IsExactOfRegions parts Steps post) → IfOk result (λ post. InstrMeans flow point instr parts post)
  alike_step Tail result plain alone posted means regions = alike_access Tail result plain posted means regions (all_met result plain alone posted (alike_met Tail result means))

  pub plain_step : (Tail : Parts → Type 0) (result : Result Post Stop) → compares kind ≡ false → accesses kind ≡ false → IfOk result (λ post. IsPost (edge_post flow kind parts) post) →
      IfOk result (λ post. StepMeans parts Steps Faults Tail post) → IfOk result (λ post. InstrMeans flow point instr parts post)
  plain_step Tail result plain alone posted means = plain_access Tail result plain posted means (all_met result plain alone posted (plain_met Tail result means))

  pub stopped_step : (Tail : Parts → Type 0) (answer : Result Post NoMemory) (result : Result Post Stop) → compares kind ≡ false → accesses kind ≡ false → result ≡ stopped answer →
      IfOk answer (λ post. IsPost (edge_post flow kind parts) post) → IfOk answer (λ post. StepMeans parts Steps Faults Tail post) → IfOk result (λ post. InstrMeans flow point instr parts post)
  stopped_step Tail answer result plain alone same posted means = stopped_access Tail answer result plain same posted means (all_met answer plain alone posted (plain_met Tail answer means))

  -- a test stands for all that follow, whatever it loses, and lists no kind
  pub test_step : (Tail : Parts → Type 0) (result : Result Post Stop) → (edge_post flow kind parts).kinds ≡ [] → IfOk result (λ post. IsPost (edge_post flow kind parts) post) →
      IfOk result (λ post. StepMeans parts Steps Faults Tail post) → IfOk result (λ post. StepSound parts Steps post) → IfOk result (λ post. InstrMeans flow point instr parts post)
  test_step Tail (Ok post) none posted means sounds = back post (record {
    sound = λ state next state_is stands steps excuse. sounds.sound state next state_is stands steps;
    exact = λ after next none among next_is stands room. follows_alike parts Steps next next_is (means.exact after next none among next_is stands);
    exact_of_regions = plain_regions parts Steps Faults Tail post means;
    kinds = λ state fault state_is stands faults. means.kinds state fault stands faults;
    met = means.met;
    through_any = λ room fault listed. none_in fault (subst (λ (kinds : List ℕ). Contains kinds fault) (posted.kinds ∙ none) listed);
    ascending = means.ascending;
  })
  test_step Tail (Err error) none posted means sounds = tt

-- Those that say it in clauses of their own.

pub refuse_step : (flow : Flow) (point : ℕ) (instr : Instr) (parts : Parts) (into : ℕ) (result : Result Post Stop) → instr ≡ AllocateNone into →
    IfOk result (λ post. (state next : State) → StandsFor parts state → Refuses into state next → SomeStandsFor post.graphs next) →
    IfOk result (λ post. (next : State) → IsState next → SomeStandsFor post.graphs next → Follows parts (Refuses into) next) → IfOk result (λ post. post.kinds ≡ []) → IfOk result (λ post. InstrMeans flow point instr parts post)
refuse_step flow point instr parts into (Ok post) is sound exact faultless = back flow point instr (AllocateNone into) parts is post (record {
  sound = λ state next state_is stands steps excuse. sound state next stands steps;
  exact = λ after next none among next_is stands room. follows_alike parts (Refuses into) next next_is (exact next next_is (record { graph = after; among = among; stands = stands }));
  exact_of_regions = in_any_memory parts (Refuses into) (EdgeFaults (AllocateNone into)) post (λ after next none among next_is stands. follows_alike parts (Refuses into) next next_is (exact next next_is (record { graph = after; among = among; stands = stands })));
  kinds = λ state kind state_is stands faults. absurd faults;
  met = λ kind precise listed. none_in kind (subst (λ (kinds : List ℕ). Contains kinds kind) faultless listed);
  through_any = λ room kind listed. none_in kind (subst (λ (kinds : List ℕ). Contains kinds kind) faultless listed);
  ascending = ap are_ascending faultless;
})
refuse_step flow point instr parts into (Err error) is sound exact faultless = tt

looked_ascend : (parts : Parts) → are_ascending (looked parts).kinds ≡ true
looked_ascend parts = by_tests (loses_some parts) (may_lead_anywhere parts)
  where
    by_tests : (a b : Bool) → are_ascending (looked_by parts a b).kinds ≡ true
    by_tests false b = refl
    by_tests true false = refl
    by_tests true true = refl

pub finish_step : (flow : Flow) (point : ℕ) (instr : Instr) (parts : Parts) (registers : List ℕ) (result : Result Post Stop) → instr ≡ Finish registers →
    IfOk result (λ post. IsPost (finish_post parts registers) post) →
    IfOk result (λ post. (state next : State) → IsState state → StandsFor parts state → Finishes registers state next → SomeStandsFor post.graphs next) →
    IfOk result (λ post. post.loss ≡ None → (next : State) → IsState next → SomeStandsFor post.graphs next → Follows parts (Finishes registers) next) →
    IfOk result (λ post. (kind : ℕ) → (Contains post.kinds kind ↔ SomeFaults parts (FaultsFinishing registers kind))) → IfOk result (λ post. InstrMeans flow point instr parts post)
finish_step flow point instr parts registers (Ok post) is posted sound exact lists = back flow point instr (Finish registers) parts is post (record {
  sound = λ state next state_is stands steps excuse. sound state next state_is stands steps;
  exact = λ after next none among next_is stands room. follows_alike parts (Finishes registers) next next_is (exact none next next_is (record { graph = after; among = among; stands = stands }));
  exact_of_regions = in_any_memory parts (Finishes registers) (FaultsFinishing registers) post (λ after next none among next_is stands. follows_alike parts (Finishes registers) next next_is (exact none next next_is (record { graph = after; among = among; stands = stands })));
  kinds = λ state kind state_is stands faults. (lists kind).1 (record { state = state; is = state_is; stands = stands; faults = faults });
  met = λ kind precise listed. (lists kind).0 listed;
  through_any = λ room kind listed. (lists kind).0 listed;
  ascending = ap are_ascending posted.kinds ∙ looked_ascend (without_registers registers parts);
})
finish_step flow point instr parts registers (Err error) is posted sound exact lists = tt

-- An offset as the code hands it on.
pub shift_step : (flow : Flow) (point : ℕ) (instr : Instr) (parts : Parts) (into address : ℕ) (by given : ℤ) (Tail : Parts → Type 0) (answer : Result Post NoMemory) (result : Result Post Stop) →
    instr ≡ Shift into address by → given ≡ by → result ≡ stopped answer → IfOk answer (λ post. IsPost (shift_post parts into address given) post) →
    IfOk answer (λ post. StepMeans parts (Shifts into address given) NoFault Tail post) → IfOk result (λ post. InstrMeans flow point instr parts post)
shift_step flow point instr parts into address by given Tail answer result is same same' posted means =
    stopped_step flow point instr (Shift into address by) parts is Tail answer result refl refl same'
    (subst (λ (z : ℤ). IfOk answer (λ post. IsPost (shift_post parts into address z) post)) same posted)
    (subst (λ (z : ℤ). IfOk answer (λ post. StepMeans parts (Shifts into address z) NoFault Tail post)) same means)

pub shift_by_step : (flow : Flow) (point : ℕ) (instr : Instr) (parts : Parts) (into address by : ℕ) (scale given : ℤ) (Tail : Parts → Type 0) (answer : Result Post NoMemory) (result : Result Post Stop) →
    instr ≡ ShiftBy into address by scale → given ≡ scale → result ≡ stopped answer → IfOk answer (λ post. IsPost (shift_by_post parts into address by given) post) →
    IfOk answer (λ post. StepMeans parts (ShiftsBy into address by given) NoFault Tail post) → IfOk result (λ post. InstrMeans flow point instr parts post)
shift_by_step flow point instr parts into address by scale given Tail answer result is same same' posted means =
    stopped_step flow point instr (ShiftBy into address by scale) parts is Tail answer result refl refl same'
    (subst (λ (z : ℤ). IfOk answer (λ post. IsPost (shift_by_post parts into address by z) post)) same posted)
    (subst (λ (z : ℤ). IfOk answer (λ post. StepMeans parts (ShiftsBy into address by z) NoFault Tail post)) same means)

-- A conversion asks for the size that is held, and that is the one that stands.
pub convert_step : (flow : Flow) (point : ℕ) (instr : Instr) (parts : Parts) (into from size : ℕ) (signed : Bool) (Tail : Parts → Type 0) (answer : Result Post NoMemory) (result : Result Post Stop) →
    instr ≡ Convert into from size signed → size_held parts from ≡ sizes_at flow point from → result ≡ stopped answer → IfOk answer (λ post. IsPost (convert_post parts into from size signed) post) →
    IfOk answer (λ post. StepMeans parts (Converts into from (size_held parts from) size signed) NoFault Tail post) → IfOk result (λ post. InstrMeans flow point instr parts post)
convert_step flow point instr parts into from size signed Tail answer result is held same posted means =
    stopped_step flow point instr (Convert into from size signed) parts is Tail answer result refl refl same posted
    (subst (λ (was : ℕ). IfOk answer (λ post. StepMeans parts (Converts into from was size signed) NoFault Tail post)) held means)

-- A scope that is left or entered, by the variables as the code has them.
pub leave_step : (flow : Flow) (point : ℕ) (instr : Instr) (parts : Parts) (variables given : List ℕ) (result : Result Post Stop) →
    instr ≡ Leave variables → given ≡ variables → IfOk result (λ post. IsPost (leave_post parts given) post) →
    IfOk result (λ post. StepMeansAlike parts (LeavesScope given) (FaultsLeaving given) (LeaveTail parts given) (HasRoomFor (length given)) post) →
    IfOk result (λ post. IsExactOfRegions parts (LeavesScope given) post) → IfOk result (λ post. InstrMeans flow point instr parts post)
leave_step flow point instr parts variables given result is same posted means regions =
    alike_step flow point instr (Leave variables) parts is (LeaveTail parts variables) result refl refl
    (subst (λ (vs : List ℕ). IfOk result (λ post. IsPost (leave_post parts vs) post)) same posted)
    (subst (λ (vs : List ℕ). IfOk result (λ post. StepMeansAlike parts (LeavesScope vs) (FaultsLeaving vs) (LeaveTail parts vs) (HasRoomFor (length vs)) post)) same means)
    (subst (λ (vs : List ℕ). IfOk result (λ post. IsExactOfRegions parts (LeavesScope vs) post)) same regions)

pub enter_step : (flow : Flow) (point : ℕ) (instr : Instr) (parts : Parts) (variables given : List ℕ) (result : Result Post Stop) →
    instr ≡ Enter variables → given ≡ variables → IfOk result (λ post. IsPost (enter_post parts given (map (size_in flow) given)) post) →
    IfOk result (λ post. StepMeansAlike parts (Enters given (map (size_in flow) given)) NoFault (EnterTail parts given (map (size_in flow) given)) AnyMemory post) → IfOk result (λ post. InstrMeans flow point instr parts post)
enter_step flow point instr parts variables given result is same posted means =
    alike_step flow point instr (Enter variables) parts is (EnterTail parts variables (map (size_in flow) variables)) result refl refl
    (subst (λ (vs : List ℕ). IfOk result (λ post. IsPost (enter_post parts vs (map (size_in flow) vs)) post)) same posted)
    of_these
    (alike_regions parts (Enters variables (map (size_in flow) variables)) NoFault (EnterTail parts variables (map (size_in flow) variables)) result of_these)
  where
    of_these : IfOk result (λ post. StepMeansAlike parts (Enters variables (map (size_in flow) variables)) NoFault (EnterTail parts variables (map (size_in flow) variables)) AnyMemory post)
    of_these = subst (λ (vs : List ℕ). IfOk result (λ post. StepMeansAlike parts (Enters vs (map (size_in flow) vs)) NoFault (EnterTail parts vs (map (size_in flow) vs)) AnyMemory post)) same means
