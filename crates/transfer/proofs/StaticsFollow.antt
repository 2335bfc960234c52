-- Static variables made one after the other: each state of the graph behind is alike one that is made so, and the flow machine makes it.
use Rattle.std.proofs.Common.{◌≡◌, ℕ, zero, suc, ◌+◌, ◌^◌, ◌<◌, ◌≤◌, Bool, true, false, not, ◌&&◌, ◌||◌, List, [], ◌∷◌, ◌++◌, length, nat_eq, replicate, Option, Some, None, refl, sym, ◌∙◌, ap, length-append, arith}
use Rattle.std.specs.Prelude.{slice_get, if◌then◌else◌}
use Rattle.std.specs.List.{list_all, list_any}
use Rattle.std.proofs.lemmas.Bool.{false≢true}
use Rattle.bytes_core.specs.declared.block.Block.{Block}
use Rattle.bytes_core.specs.declared.block.BlockKind.TheVariants as storage
use Rattle.bytes_core.specs.Placement.{new_block, is_new_block, placed}
use Rattle.choices.specs.declared.choice.Choice.{Choice}
use Rattle.choices.specs.declared.choice.Choice.TheVariants.{Block as NewBlock}
use Rattle.graph.specs.State as graphs
use Rattle.graph.specs.declared.parts.Held.{Held}
use Rattle.graph.specs.declared.parts.KeyedObject.{KeyedObject}
use Rattle.graph.specs.declared.parts.Parts.{Parts}
use Rattle.graph.specs.AlikeStates.{AreAlikeStates}
use Rattle.graph.specs.Meaning.{StandsFor}
use Rattle.graph.specs.Nodes.{node_of}
use Rattle.graph.specs.WellFormed.{passes_at}
use Rattle.graph.proofs.AlikeStates.{states_behind}
use Rattle.graph.proofs.Tests.{and_both}
use Rattle.changes.proofs.Objects.{eqb-miss}
use Rattle.changes.specs.Following.{Leaves}
use Rattle.changes.specs.FollowingAlike.{FollowsAlike}
use Rattle.changes.specs.Parts.{put, with_object_more}
use Rattle.heap_steps.specs.Unreached.{has_loose_byte, is_any, edges_hold_any, may_lead_anywhere}
use Rattle.flow.specs.declared.flow_graph.Flow.{Flow}
use Rattle.flow.specs.declared.flow_graph.Variable.{Variable}
use Rattle.flow.specs.Holding.{block_of, put_owned}
use Rattle.flow.specs.Machine.{State, Outcome, Went, Ended, with_memory, with_new_block}
use Rattle.flow.specs.Runs.{with_statics}
use Rattle.flow.specs.Valid.{IsFlow}
use Rattle.block_steps.specs.Blocks.{new_object}
use Rattle.block_steps.proofs.Entered.{none_follows}
use Rattle.block_steps.proofs.EntersAlike.{all_alike}
use Rattle.edge_steps.specs.Seen.{seen, IsSame}
use Rattle.edge_steps.proofs.Back.{if_is}
use Rattle.transfer.specs.Start.{with_static}
use Rattle.transfer.specs.Start as start
use Rattle.transfer.proofs.StaticBack.{static_alike, made_follows}
use Rattle.transfer.proofs.StaticLoop.{AreStatics, IsRest, objects_more, rest_first, rest_later, small_at, unnamed, room, others_next, static_next, block_put, shown}
use Rattle.transfer.proofs.StaticMade.{MakesStatic}

-- the static ones among variables are made, one after the other
abbrev MakesIf : Bool → ℕ → ℕ → (graphs.State → graphs.State → Type 0) → graphs.State → graphs.State → Type 0
MakesIf true number size Later state next = (middle : graphs.State) × MakesStatic number size state middle × Later middle next
MakesIf false number size Later state next = Later state next

abbrev pub MakesAll : ℕ → List Variable → graphs.State → graphs.State → Type 0
MakesAll number [] state next = Leaves state.memory state.registers state next
MakesAll number (variable ∷ rest) state next = MakesIf variable.fixed number variable.size (MakesAll (number + 1) rest) state next

-- Alike states.

-- a state that follows by a relation and is alike one
pub record HasAlike (Steps : graphs.State → graphs.State → Type 0) (other next : graphs.State) : Type 0 where
  pub next' : graphs.State
  pub steps : Steps other next'
  pub there : ℕ → ℕ
  pub back : ℕ → ℕ
  pub paired : ℕ → Bool
  pub alike : AreAlikeStates there back paired next next'

alike_if : (b : Bool) (number size : ℕ) (Later : graphs.State → graphs.State → Type 0) (there back : ℕ → ℕ) (paired : ℕ → Bool) (one other next : graphs.State) → AreAlikeStates there back paired one other → MakesIf b number size Later one next →
    ((there back : ℕ → ℕ) (paired : ℕ → Bool) (one other : graphs.State) → AreAlikeStates there back paired one other → Later one next → HasAlike Later other next) → HasAlike (MakesIf b number size Later) other next
alike_if true number size Later there back paired one other next are (middle, first, later) onward =
    let made = static_alike number size there back paired one other middle are first in
    let rest = onward made.there made.back made.paired middle made.next' made.alike later in
    record { next' = rest.next'; steps = (made.next', made.steps, rest.steps); there = rest.there; back = rest.back; paired = rest.paired; alike = rest.alike }
alike_if false number size Later there back paired one other next are makes onward =
    let rest = onward there back paired one other are makes in
    record { next' = rest.next'; steps = rest.steps; there = rest.there; back = rest.back; paired = rest.paired; alike = rest.alike }

pub all_made_alike : (number : ℕ) (variables : List Variable) (there back : ℕ → ℕ) (paired : ℕ → Bool) (one other next : graphs.State) → AreAlikeStates there back paired one other → MakesAll number variables one next →
    HasAlike (MakesAll number variables) other next
all_made_alike number [] there back paired one other next are leaves =
    let same = all_alike [] [] there back paired one other next are leaves in
    record { next' = same.next'; steps = same.steps; there = same.there; back = same.back; paired = same.paired; alike = same.alike }
all_made_alike number (variable ∷ rest) there back paired one other next are makes =
    alike_if variable.fixed number variable.size (MakesAll (number + 1) rest) there back paired one other next are makes (λ there back paired one other are makes. all_made_alike (number + 1) rest there back paired one other next are makes)

-- Nothing leads anywhere behind, where nothing did before.

any_append : {X : Type 0} (test : X → Bool) (xs : List X) (last : X) → list_any test xs ≡ false → test last ≡ false → list_any test (xs ++ last ∷ []) ≡ false
any_append test [] last none fails = ap (λ (b : Bool). b || false) fails
any_append test (first ∷ rest) last none fails = by_first (test first) none (λ later. any_append test rest last later fails)
  where
    by_first : (b : Bool) → (b || list_any test rest) ≡ false → (list_any test rest ≡ false → list_any test (rest ++ last ∷ []) ≡ false) → (b || list_any test (rest ++ last ∷ [])) ≡ false
    by_first true none' onward = absurd (false≢true (sym none'))
    by_first false none' onward = onward none'

either_none : (one other : Bool) → (one || other) ≡ false → (one ≡ false) × (other ≡ false)
either_none true other none = absurd (false≢true (sym none))
either_none false other none = (refl, none)

both_none : (one other : Bool) → one ≡ false → other ≡ false → (one || other) ≡ false
both_none one other first second = ap (λ (b : Bool). b || other) first ∙ second

zeros_tight : (count place : ℕ) → has_loose_byte [] place (replicate count 0) ≡ false
zeros_tight zero place = refl
zeros_tight (suc count) place = zeros_tight count (place + 1)

pub static_bound : (variable size : ℕ) (parts : Parts) → may_lead_anywhere parts ≡ false → may_lead_anywhere (with_static variable size parts) ≡ false
static_bound variable size parts bound =
    both_none (list_any loose more.objects) (list_any holds more.objects || (list_any (λ (held : Held). passes_at parts is_any held.value) parts.registers || list_any (passes_at parts is_any) parts.ports))
    (any_append loose parts.objects last first.0 (zeros_tight size 0))
    (both_none (list_any holds more.objects) (list_any (λ (held : Held). passes_at parts is_any held.value) parts.registers || list_any (passes_at parts is_any) parts.ports)
    (any_append holds parts.objects last second.0 refl) second.1)
  where
    loose : KeyedObject → Bool
    loose entry = has_loose_byte (node_of entry.object).edges 0 (node_of entry.object).plane

    holds : KeyedObject → Bool
    holds entry = edges_hold_any parts (node_of entry.object).edges

    last : KeyedObject
    last = record { key = length parts.objects; object = new_object storage.Static size true }

    more : Parts
    more = with_object_more (new_object storage.Static size true) parts

    first : (list_any loose parts.objects ≡ false) × ((list_any holds parts.objects || (list_any (λ (held : Held). passes_at parts is_any held.value) parts.registers || list_any (passes_at parts is_any) parts.ports)) ≡ false)
    first = either_none (list_any loose parts.objects) (list_any holds parts.objects || (list_any (λ (held : Held). passes_at parts is_any held.value) parts.registers || list_any (passes_at parts is_any) parts.ports)) bound

    second : (list_any holds parts.objects ≡ false) × ((list_any (λ (held : Held). passes_at parts is_any held.value) parts.registers || list_any (passes_at parts is_any) parts.ports) ≡ false)
    second = either_none (list_any holds parts.objects) (list_any (λ (held : Held). passes_at parts is_any held.value) parts.registers || list_any (passes_at parts is_any) parts.ports) first.1

-- The graph before.

pub statics_follow : (flow : Flow) (number : ℕ) (variables : List Variable) (parts : Parts) → IsFlow flow → IsRest flow number variables → length (start.with_statics number variables parts).objects < 2 ^ 30 → AreStatics flow number parts →
    may_lead_anywhere parts ≡ false → (next : graphs.State) → graphs.IsState next → StandsFor (start.with_statics number variables parts) next → FollowsAlike parts (MakesAll number variables) next
statics_follow flow number [] parts valid rest_is few are bound next is stands = none_follows [] parts next is stands
statics_follow flow number (variable ∷ rest) parts valid rest_is few are bound next is stands =
    by_kind variable.fixed refl few stands (λ parts few are bound stands. statics_follow flow (number + 1) rest parts valid (rest_later flow number variable rest rest_is) few are bound next is stands)
  where
    there : slice_get flow.variables number ≡ Some variable
    there = rest_first flow number variable rest rest_is

    small : variable.size ≤ 65536
    small = small_at flow number variable valid there

    by_kind : (b : Bool) → variable.fixed ≡ b → length (start.with_statics (number + 1) rest (if b then with_static number variable.size parts else parts)).objects < 2 ^ 30 →
        StandsFor (start.with_statics (number + 1) rest (if b then with_static number variable.size parts else parts)) next →
        ((parts : Parts) → length (start.with_statics (number + 1) rest parts).objects < 2 ^ 30 → AreStatics flow (number + 1) parts → may_lead_anywhere parts ≡ false → StandsFor (start.with_statics (number + 1) rest parts) next →
        FollowsAlike parts (MakesAll (number + 1) rest) next) → FollowsAlike parts (MakesIf b number variable.size (MakesAll (number + 1) rest)) next
    by_kind true fixed few stands onward =
        let one_more : length parts.objects + 1 < 2 ^ 30 =
        (let more = objects_more (number + 1) rest (with_static number variable.size parts) in
        let long = length-append parts.objects (record { key = length parts.objects; object = new_object storage.Static variable.size true } ∷ []) in omega arith) in
        let later = onward (with_static number variable.size parts) few (static_next flow number parts are variable there small one_more fixed) (static_bound number variable.size parts bound) stands in
        let first = made_follows number variable.size parts are.graph small (room flow number parts are variable there small one_more fixed) (unnamed flow number parts are variable there) are.below bound later.state later.is later.stands in
        let again = all_made_alike (number + 1) rest first.there first.back first.paired later.state first.next' later.next' first.alike later.steps in record {
          state = first.state;
          next' = again.next';
          is = first.is;
          stands = first.stands;
          steps = (first.next', first.steps, again.steps);
          there = λ number. again.there (later.there number);
          back = λ number. later.back (again.back number);
          paired = λ number. later.paired number && again.paired (later.there number);
          alike = states_behind later.there later.back again.there again.back later.paired again.paired next later.next' again.next' later.alike again.alike;
        }
    by_kind false loose few stands onward =
        let later = onward parts few (others_next flow number parts are variable there loose) bound stands in
        record { state = later.state; next' = later.next'; is = later.is; stands = later.stands; steps = later.steps; there = later.there; back = later.back; paired = later.paired; alike = later.alike }

-- The flow machine makes them.

-- with these choices, whichever come then
pub record IsMadeBy (number : ℕ) (variables : List Variable) (state : State) (after : graphs.State) : Type 0 where
  pub front : List Choice
  pub next : State
  pub goes : (others : List Choice) → with_statics number variables state (front ++ others) ≡ Went next others
  pub same : IsSame (seen [] next) after
  pub variables_none : next.frame.variables ≡ []

abbrev if_made : Bool → ℕ → Variable → List Variable → State → List Choice → Outcome
if_made b number variable rest state choices =
    if b then with_new_block storage.Static variable.size true state choices
    (λ after block more. with_statics (number + 1) rest (record after { statics = put_owned (record { variable = number; block = block }) after.statics }) more)
    else with_statics (number + 1) rest state choices

pub record IsIfMade (b : Bool) (number : ℕ) (variable : Variable) (rest : List Variable) (state : State) (after : graphs.State) : Type 0 where
  pub front : List Choice
  pub next : State
  pub goes : (others : List Choice) → if_made b number variable rest state (front ++ others) ≡ Went next others
  pub same : IsSame (seen [] next) after
  pub variables_none : next.frame.variables ≡ []

-- the static variables from a number on have no blocks yet
abbrev pub AreFree : ℕ → State → Type 0
AreFree number state = (at : ℕ) → number ≤ at → block_of state.statics at ≡ None

pub statics_back : (number : ℕ) (variables : List Variable) (state : State) (before after : graphs.State) → state.frame.variables ≡ [] → AreFree number state → IsSame (seen [] state) before → MakesAll number variables before after →
    IsMadeBy number variables state after
statics_back number [] state before after none free same leaves = record {
  front = [];
  next = state;
  goes = λ others. refl;
  same = record {
    memory = leaves.memory ∙ same.memory;
    variables = λ variable. leaves.variables variable ∙ same.variables variable;
    registers = λ register. leaves.registers register ∙ same.registers register;
    ports = leaves.ports ∙ same.ports;
    roots = leaves.roots ∙ same.roots;
  };
  variables_none = none;
}
statics_back number (variable ∷ rest) state before after none free same makes =
    let by = by_kind variable.fixed makes (λ state before none free same makes. statics_back (number + 1) rest state before after none free same makes) in
    record { front = by.front; next = by.next; goes = by.goes; same = by.same; variables_none = by.variables_none }
  where
    by_kind : (b : Bool) → MakesIf b number variable.size (MakesAll (number + 1) rest) before after →
        ((state : State) (before : graphs.State) → state.frame.variables ≡ [] → AreFree (number + 1) state → IsSame (seen [] state) before → MakesAll (number + 1) rest before after → IsMadeBy (number + 1) rest state after) →
        IsIfMade b number variable rest state after
    by_kind false makes onward =
        let later = onward state before none (λ at most. free at (omega arith)) same makes in
        record { front = later.front; next = later.next; goes = later.goes; same = later.same; variables_none = later.variables_none }
    by_kind true (middle, made, later) onward =
        let rest_made = onward state' middle none free' same' later in
        record {
          front = NewBlock made.block.base made.block.contents ∷ rest_made.front;
          next = rest_made.next;
          goes = λ others. if_is (is_new_block state.memory storage.Static variable.size made.block.base made.block.contents && (not true || list_all (nat_eq 0) made.block.contents))
              (with_statics (number + 1) rest state' (rest_made.front ++ others)) Ended right ∙ rest_made.goes others;
          same = rest_made.same;
          variables_none = rest_made.variables_none;
        }
      where
        state' : State
        state' = record (with_memory (placed state.memory (new_block storage.Static made.block.base made.block.contents)) state) { statics = put_owned (record { variable = number; block = length state.memory }) state.statics }

        right : (is_new_block state.memory storage.Static variable.size made.block.base made.block.contents && (not true || list_all (nat_eq 0) made.block.contents)) ≡ true
        right = and_both (is_new_block state.memory storage.Static variable.size made.block.base made.block.contents) (not true || list_all (nat_eq 0) made.block.contents)
            (ap (λ (m : List Block). is_new_block m storage.Static variable.size made.block.base made.block.contents) (sym same.memory) ∙ made.block.new) made.block.zeros

        put_is : (at : ℕ) → block_of state'.statics at ≡ put number (length state.memory) (block_of state.statics) at
        put_is at = block_put (record { variable = number; block = length state.memory }) state.statics at (free number (omega arith))

        free' : AreFree (number + 1) state'
        free' at most = put_is at ∙ ap (λ (b : Bool). if b then Some (length state.memory) else block_of state.statics at) (eqb-miss at number (λ equal. absurd (omega arith))) ∙ free at (omega arith)

        same' : IsSame (seen [] state') middle
        same' = record {
          memory = made.block.is ∙ ap (λ (m : List Block). placed m (new_block storage.Static made.block.base made.block.contents)) same.memory;
          variables = λ at. made.variables_are at
              ∙ ap (λ (n : ℕ). if nat_eq at number then Some n else before.variables at) (ap (length {A = Block}) same.memory)
              ∙ ap (λ (o : Option ℕ). if nat_eq at number then Some (length state.memory) else o) (same.variables at ∙ shown state none at)
              ∙ sym (shown state' none at ∙ put_is at);
          registers = λ register. made.registers_are register ∙ same.registers register;
          ports = made.ports ∙ same.ports;
          roots = made.roots ∙ same.roots;
        }
