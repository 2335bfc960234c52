-- Each state for which the start graph stands is alike one in which a run begins.
use Rattle.std.proofs.Common.{◌≡◌, ℕ, zero, suc, ◌+◌, ◌^◌, ◌<◌, Bool, true, false, not, ◌&&◌, ◌||◌, List, [], ◌∷◌, ◌++◌, map, length, nat_eq, pos, Option, Some, None, refl, sym, ◌∙◌, ap, subst, arith}
use Rattle.std.specs.Prelude.{IsTrue, option_map, slice_get, All, AllPairs, Contains, if◌then◌else◌}
use Rattle.std.specs.List.{list_all}
use Rattle.std.specs.Option.{option_map_or}
use Rattle.std.proofs.lemmas.Bool.{false≢true}
use Rattle.std.proofs.lemmas.List.Elements.{All-nil, All-head, All-tail}
use Rattle.std.proofs.lemmas.Option.{same_Some, none-some}
use Rattle.cbase.specs.declared.place.Place.{Place}
use Rattle.bytes_core.specs.declared.block.Block.{Block}
use Rattle.bytes_core.specs.declared.word.Word.{Word}
use Rattle.bytes_core.specs.declared.word.Word.TheVariants.{Plain, To}
use Rattle.bytes_core.specs.Access.{stored}
use Rattle.graph.specs.State as graphs
use Rattle.graph.specs.declared.edges.HasValue.{HasValue}
use Rattle.graph.specs.declared.object.Object.{Object}
use Rattle.graph.specs.declared.object.Shape.{Shape}
use Rattle.graph.specs.declared.parts.KeyedObject.{KeyedObject}
use Rattle.graph.specs.declared.parts.KeyedValue.{KeyedValue}
use Rattle.graph.specs.declared.parts.Named.{Named}
use Rattle.graph.specs.declared.parts.Parts.{Parts}
use Rattle.graph.specs.Alike.{renumbered_word}
use Rattle.graph.specs.AlikeMemories.{IsDeadOrNone, WordNamesAmong, AreAlike}
use Rattle.graph.specs.AlikeStates.{AreAlikeStates}
use Rattle.graph.specs.DeadBlocks as dead
use Rattle.graph.specs.Maps.{storage_of}
use Rattle.graph.specs.Meaning.{Assignment, Meets, StandsFor, maps_of}
use Rattle.graph.specs.Nodes.{node_of, node_in, own_node}
use Rattle.graph.specs.Whole.{IsGraph, no_parts}
use Rattle.graph.proofs.AlikeStates.{states_behind}
use Rattle.graph.proofs.AlikeSteps.{alike_respected}
use Rattle.graph.proofs.Found.{found-all}
use Rattle.graph.proofs.Tests.{and_left, and_right, and_both, list_all-implies}
use Rattle.changes.specs.Ranges.{written_object}
use Rattle.changes.proofs.RangeForm.{all_append, plane_long}
use Rattle.heap_steps.specs.Unreached.{has_loose_byte, is_any, some_loose, holds_any, may_lead_anywhere}
use Rattle.heap_steps.proofs.Listed.{Contains-none}
use Rattle.flow.specs.declared.flow_graph.Flow.{Flow}
use Rattle.flow.specs.declared.flow_graph.Initial.{Initial}
use Rattle.flow.specs.declared.flow_graph.InitialWord.{InitialWord}
use Rattle.flow.specs.declared.flow_graph.InitialWord.TheVariants as initial
use Rattle.flow.specs.declared.flow_graph.Variable.{Variable}
use Rattle.flow.specs.Holding.{Owned, block_of}
use Rattle.flow.specs.InRange.{entry_of}
use Rattle.flow.specs.Machine.{State, Outcome, with_memory, entered, size_in}
use Rattle.flow.specs.Runs.{blank, initial_word, parameters_of, then_go}
use Rattle.flow.specs.Runs as runs
use Rattle.flow.specs.Valid.{IsFlow, is_initial, AreApart}
use Rattle.flow.specs.Valid as flows
use Rattle.bytes_core.specs.declared.block.BlockKind.TheVariants as storage
use Rattle.block_steps.specs.Blocks.{new_object}
use Rattle.block_steps.specs.Entering.{Enters}
use Rattle.block_steps.proofs.Entered.{all_follows}
use Rattle.block_steps.proofs.EntersAlike.{AreEnteredAlike, all_alike}
use Rattle.changes.specs.FollowingAlike.{FollowsAlike}
use Rattle.edge_steps.specs.Seen.{seen, IsSame}
use Rattle.flow.specs.declared.instruction.Instr.TheVariants.{Enter}
use Rattle.edge_steps.proofs.Back.{Comes}
use Rattle.edge_steps.proofs.Entered.{AreNew, back_enter}
use Rattle.transfer.specs.Laws.{IsBegunAlike, IsStartExact}
use Rattle.transfer.specs.Start.{AreNamed, with_static, with_statics, with_initial, with_initials, static_graph, start_graph}
use Rattle.transfer.proofs.InitialBack.{IsOfScalar, AreOfScalars, cuts, scalars_next, initial_back}
use Rattle.transfer.proofs.InitialWritten.{IsStored, IsInitialValue, initial_not_any, s, v, edge, after_is, room, scalar_is, word_right, named_after}
use Rattle.transfer.proofs.StartSound.{nothing_named, initials_named, statics_are_named, parameters_may_enter, parameters_of_main, are_new, rest_of}
use Rattle.transfer.proofs.StartSound as starting
use Rattle.transfer.proofs.StartReady.{statics_values}
use Rattle.transfer.proofs.StaticLoop.{shown}
use Rattle.transfer.proofs.StaticsFollow.{MakesAll, HasAlike, all_made_alike, statics_follow, static_bound, IsMadeBy, statics_back}
use Rattle.transfer.proofs.Tight.{NoAny, leads_nowhere, tight_written, tight_replaced, tight_found}

-- What holds while scalars are written.

record AreWritten (flow : Flow) (count : ℕ) (parts : Parts) : Type 0 where
  named : AreNamed flow parts
  scalars : AreOfScalars flow count parts
  none_any : NoAny parts
  tight : some_loose parts ≡ false

module _ (flow : Flow) (count : ℕ) (parts : Parts) (are : AreWritten flow count parts) (scalar : Initial) (right : is_initial flow scalar ≡ true) (here : slice_get flow.initial count ≡ Some scalar) (apart : AllPairs AreApart flow.initial) where
  abbrev stored_there : IsStored flow parts scalar.variable
  stored_there = s flow parts are.named scalar right

  abbrev value : IsInitialValue parts scalar.size scalar.word
  value = v flow parts are.named scalar right

  abbrev new : HasValue
  new = edge flow parts are.named scalar right

  -- a region's node is its own
  own : (object : Object) → object.shape ≡ stored_there.object.shape → has_loose_byte (node_of object).edges 0 (node_of object).plane ≡ has_loose_byte object.edges 0 object.plane
  own object same = ap (λ (shape : Shape). has_loose_byte (node_in shape (own_node object)).edges 0 (node_in shape (own_node object)).plane) (same ∙ stored_there.region)

  was_tight : has_loose_byte stored_there.object.edges 0 stored_there.object.plane ≡ false
  was_tight = sym (own stored_there.object refl) ∙ tight_found parts.objects stored_there.key stored_there.object are.tight stored_there.stands

  now_tight : has_loose_byte (written_object stored_there.object new value.value).edges 0 (written_object stored_there.object new value.value).plane ≡ false
  now_tight =
      tight_written stored_there.object new value.value
      (let long = plane_long parts are.named.graph.well_formed stored_there.key stored_there.object stored_there.stands stored_there.region stored_there.live in let most = room flow parts are.named scalar right in omega arith)
      (cuts flow parts are.named scalar right count here apart are.scalars) was_tight

  written_next : AreWritten flow (count + 1) (with_initial scalar parts)
  written_next = record {
    named = named_after flow parts are.named scalar right;
    scalars = scalars_next flow parts are.named scalar right count here apart are.scalars;
    none_any = ap (λ (p : Parts). list_all (λ (entry : KeyedValue). not (is_any entry.value)) p.values) (after_is flow parts are.named scalar right)
        ∙ all_append (λ (entry : KeyedValue). not (is_any entry.value)) parts.values (record { key = length parts.values; value = value.value } ∷ []) are.none_any
        (and_both (not (is_any value.value)) true (initial_not_any flow parts are.named scalar.size (scalar_is flow parts are.named scalar right) scalar.word (word_right flow parts are.named scalar right)) refl);
    tight = ap some_loose (after_is flow parts are.named scalar right)
        ∙ tight_replaced stored_there.key (written_object stored_there.object new value.value) parts.objects (own (written_object stored_there.object new value.value) refl ∙ now_tight) are.tight;
  }

-- the scalars from a number on
abbrev IsTail : Flow → ℕ → List Initial → Type 0
IsTail flow count initials = (place : ℕ) (scalar : Initial) → slice_get initials place ≡ Some scalar → slice_get flow.initial (count + place) ≡ Some scalar

tail_first : (flow : Flow) (count : ℕ) (first : Initial) (rest : List Initial) → IsTail flow count (first ∷ rest) → slice_get flow.initial count ≡ Some first
tail_first flow count first rest is = subst (λ (n : ℕ). slice_get flow.initial n ≡ Some first) (let same : count + zero ≡ count = omega arith in same) (is zero first refl)

tail_later : (flow : Flow) (count : ℕ) (first : Initial) (rest : List Initial) → IsTail flow count (first ∷ rest) → IsTail flow (count + 1) rest
tail_later flow count first rest is place other there =
    subst (λ (n : ℕ). slice_get flow.initial n ≡ Some other) (let same : count + suc place ≡ count + 1 + place = omega arith in same) (is (suc place) other there)

all_written : (flow : Flow) (count : ℕ) (initials : List Initial) (parts : Parts) → All (λ scalar. IsTrue (is_initial flow scalar)) initials → IsTail flow count initials → AllPairs AreApart flow.initial → AreWritten flow count parts →
    AreWritten flow (count + length initials) (with_initials initials parts)
all_written flow count [] parts right tail_is apart are = subst (λ (n : ℕ). AreWritten flow n parts) (let same : count ≡ count + zero = omega arith in same) are
all_written flow count (first ∷ rest) parts right tail_is apart are =
    subst (λ (n : ℕ). AreWritten flow n (with_initials rest (with_initial first parts))) (let same : count + 1 + length rest ≡ count + suc (length rest) = omega arith in same)
    (all_written flow (count + 1) rest (with_initial first parts) (All-tail (λ scalar. IsTrue (is_initial flow scalar)) first rest right) (tail_later flow count first rest tail_is) apart
    (written_next flow count parts are first (All-head (λ scalar. IsTrue (is_initial flow scalar)) first rest right) (tail_first flow count first rest tail_is) apart))

-- The memory before.

record IsBefore (statics : List Owned) (initials : List Initial) (parts : Parts) (next : graphs.State) (given : Assignment) : Type 0 where
  memory : List Block
  is : graphs.IsState (dead.with_memory memory next)
  meets : Meets (maps_of parts) (dead.with_memory memory next) given
  again : runs.with_initials statics initials memory ≡ next.memory

initials_back : (flow : Flow) (count : ℕ) (initials : List Initial) (parts : Parts) (next : graphs.State) (statics : List Owned) (given : Assignment) → All (λ scalar. IsTrue (is_initial flow scalar)) initials → IsTail flow count initials →
    AllPairs AreApart flow.initial → AreWritten flow count parts → graphs.IsState next → ((at : ℕ) → next.variables at ≡ block_of statics at) → Meets (maps_of (with_initials initials parts)) next given → IsBefore statics initials parts next given
initials_back flow count [] parts next statics given right tail_is apart are is shown meets = record { memory = next.memory; is = is; meets = meets; again = refl }
initials_back flow count (first ∷ rest) parts next statics given right tail_is apart are is shown meets =
    let valid = All-head (λ scalar. IsTrue (is_initial flow scalar)) first rest right in
    let here = tail_first flow count first rest tail_is in
    let later = initials_back flow (count + 1) rest (with_initial first parts) next statics given (All-tail (λ scalar. IsTrue (is_initial flow scalar)) first rest right) (tail_later flow count first rest tail_is) apart
    (written_next flow count parts are first valid here apart) is shown meets in
    let one = initial_back flow parts are.named first valid count here apart are.scalars (dead.with_memory later.memory next) later.is statics shown given later.meets in
    record { memory = one.0; is = one.1; meets = one.2; again = ap (runs.with_initials statics rest) one.3 ∙ later.again }

-- The blocks of the variables that a graph names, as a list.

abbrev first_or : List ℕ → ℕ
first_or [] = 0
first_or (number ∷ rest) = number

abbrev owned : Assignment → Named → Owned
owned given named = record { variable = named.variable; block = first_or (given.blocks named.object) }

owned_at : (given : Assignment) (variables : List Named) (at : ℕ) → block_of (map (owned given) variables) at ≡ option_map (λ key. first_or (given.blocks key)) (storage_of variables at)
owned_at given [] at = refl
owned_at given (first ∷ rest) at = by_first (nat_eq first.variable at) (owned_at given rest at)
  where
    by_first : (b : Bool) → block_of (map (owned given) rest) at ≡ option_map (λ key. first_or (given.blocks key)) (storage_of rest at) →
        (if b then Some (first_or (given.blocks first.object)) else block_of (map (owned given) rest) at) ≡ option_map (λ key. first_or (given.blocks key)) (if b then Some first.object else storage_of rest at)
    by_first true later = refl
    by_first false later = later

owned_shown : (parts : Parts) (state : graphs.State) (given : Assignment) → Meets (maps_of parts) state given → (at : ℕ) → state.variables at ≡ block_of (map (owned given) parts.variables) at
owned_shown parts state given meets at = by_found (state.variables at) (storage_of parts.variables at) refl (meets.variables at) ∙ sym (owned_at given parts.variables at)
  where
    by_found : (block : Option ℕ) (found : Option ℕ) → storage_of parts.variables at ≡ found → option_map (λ (n : ℕ). n ∷ []) block ≡ option_map given.blocks (storage_of parts.variables at) →
        block ≡ option_map (λ key. first_or (given.blocks key)) (storage_of parts.variables at)
    by_found None None is same = sym (ap (option_map (λ key. first_or (given.blocks key))) is)
    by_found None (Some key) is same = absurd (none-some _ (same ∙ ap (option_map given.blocks) is))
    by_found (Some block) None is same = absurd (none-some _ (sym (same ∙ ap (option_map given.blocks) is)))
    by_found (Some block) (Some key) is same =
        ap (λ (ns : List ℕ). Some (first_or ns)) (same_Some _ _ (same ∙ ap (option_map given.blocks) is)) ∙ sym (ap (option_map (λ key. first_or (given.blocks key))) is)

-- Alike memories, in which scalars are written.

module _ (there back : ℕ → ℕ) (paired : ℕ → Bool) (statics statics' : List Owned) (same : (at : ℕ) → block_of statics' at ≡ option_map there (block_of statics at))
    (named : (at number : ℕ) → block_of statics at ≡ Some number → IsTrue (paired number)) where
  word_there : (w : InitialWord) → initial_word statics' w ≡ renumbered_word there (initial_word statics w)
  word_there (initial.Number number) = refl
  word_there (initial.Address variable offset) = ap (λ (o : Option ℕ). option_map_or (λ block. To block offset) o (Plain 0)) (same variable) ∙ by_found (block_of statics variable)
    where
      by_found : (found : Option ℕ) → option_map_or (λ block. To block offset) (option_map there found) (Plain 0) ≡ renumbered_word there (option_map_or (λ block. To block offset) found (Plain 0))
      by_found None = refl
      by_found (Some block) = refl

  word_among : (w : InitialWord) → WordNamesAmong paired (initial_word statics w)
  word_among (initial.Number number) = tt
  word_among (initial.Address variable offset) = by_found (block_of statics variable) refl
    where
      by_found : (found : Option ℕ) → block_of statics variable ≡ found → WordNamesAmong paired (option_map_or (λ block. To block offset) found (Plain 0))
      by_found None is = tt
      by_found (Some block) is = named variable block is

  initial_alike : (scalar : Initial) (one other : List Block) → AreAlike there back paired one other → AreAlike there back paired (runs.with_initial statics scalar one) (runs.with_initial statics' scalar other)
  initial_alike scalar one other alike = by_found (block_of statics scalar.variable) (block_of statics' scalar.variable) (same scalar.variable)
    where
      by_found : (found found' : Option ℕ) → found' ≡ option_map there found →
          AreAlike there back paired (option_map_or (λ block. stored one (To block (pos scalar.at)) scalar.size (initial_word statics scalar.word)) found one)
          (option_map_or (λ block. stored other (To block (pos scalar.at)) scalar.size (initial_word statics' scalar.word)) found' other)
      by_found None None is = alike
      by_found None (Some block') is = absurd (none-some block' (sym is))
      by_found (Some block) None is = absurd (none-some _ is)
      by_found (Some block) (Some block') is =
          subst (λ (n : ℕ). AreAlike there back paired (stored one (To block (pos scalar.at)) scalar.size (initial_word statics scalar.word)) (stored other (To n (pos scalar.at)) scalar.size (initial_word statics' scalar.word))) (sym (same_Some _ _ is))
          (subst (λ (w : Word). AreAlike there back paired (stored one (To block (pos scalar.at)) scalar.size (initial_word statics scalar.word)) (stored other (To (there block) (pos scalar.at)) scalar.size w)) (sym (word_there scalar.word))
          ((alike_respected.changes there back paired one other alike).stores (To block (pos scalar.at)) scalar.size (initial_word statics scalar.word) (word_among scalar.word)))

  initials_alike : (initials : List Initial) (one other : List Block) → AreAlike there back paired one other → AreAlike there back paired (runs.with_initials statics initials one) (runs.with_initials statics' initials other)
  initials_alike [] one other alike = alike
  initials_alike (first ∷ rest) one other alike = initials_alike rest (runs.with_initial statics first one) (runs.with_initial statics' first other) (initial_alike first one other alike)

-- States for which the graph of nothing stands are alike the one with which a run begins.

no_roots : (roots : List ℕ) → All (graphs.IsLedTo []) roots → roots ≡ []
no_roots [] all = refl
no_roots (first ∷ rest) all = let led = All-head (graphs.IsLedTo []) first rest all in absurd (Contains-none (To first led.offset) led.word)

nothing_alike : (state : graphs.State) (point : ℕ) → graphs.IsState state → StandsFor no_parts state → AreAlikeStates (λ number. number) (λ number. number) (λ number. false) state (seen [] (blank point))
nothing_alike state point is stands = record {
  memories = record {
    same = λ number. refl;
    again = λ number. refl;
    pairs = λ number paired. absurd (false≢true paired);
    others = λ number none. (no_life number (slice_get state.memory number) refl, tt);
    held = λ number block there live. absurd (false≢true (stands.meets.used number block there live).object);
  };
  named = record {
    variables = λ variable number there. absurd (none-some _ (sym (sym (ap (option_map (λ (n : ℕ). n ∷ [])) there) ∙ stands.meets.variables variable)));
    registers = λ register word there. absurd (none-some word (sym (stands.meets.registers register) ∙ there));
    ports = subst (All (WordNamesAmong (λ number. false))) (sym stands.meets.ports) (All-nil (WordNamesAmong (λ number. false)));
    roots = subst (All (λ root. IsTrue false)) (sym bare) (All-nil (λ root. IsTrue false));
  };
  variables = λ variable. sym (none_variable (state.variables variable) (stands.meets.variables variable));
  registers = λ register. sym (ap (option_map (renumbered_word (λ number. number))) (stands.meets.registers register));
  ports = sym (ap (map (renumbered_word (λ number. number))) stands.meets.ports);
  roots = sym (ap (map (λ (number : ℕ). number)) bare);
}
  where
    bare : state.roots ≡ []
    bare = no_roots state.roots (subst (λ (ports : List Word). All (graphs.IsLedTo ports) state.roots) stands.meets.ports is.roots)

    no_life : (number : ℕ) (found : Option Block) → slice_get state.memory number ≡ found → IsDeadOrNone found
    no_life number None there = tt
    no_life number (Some block) there = by_life block.live refl
      where
        by_life : (b : Bool) → block.live ≡ b → block.live ≡ false
        by_life true live = absurd (false≢true (stands.meets.used number block there live).object)
        by_life false dead = dead

    none_variable : (found : Option ℕ) → option_map (λ (n : ℕ). n ∷ []) found ≡ None → option_map (λ (n : ℕ). n) found ≡ None
    none_variable None none = refl
    none_variable (Some number) none = absurd (none-some _ (sym none))

-- Alike states by what is seen.
alike_seen : (there back : ℕ → ℕ) (paired : ℕ → Bool) (one other third : graphs.State) → AreAlikeStates there back paired one third → IsSame other third → AreAlikeStates there back paired one other
alike_seen there back paired one other third are same = record {
  memories = subst (λ (memory : List Block). AreAlike there back paired one.memory memory) same.memory are.memories;
  named = are.named;
  variables = λ variable. sym (same.variables variable) ∙ are.variables variable;
  registers = λ register. sym (same.registers register) ∙ are.registers register;
  ports = sym same.ports ∙ are.ports;
  roots = sym same.roots ∙ are.roots;
}

-- The static variables hold nothing yet.

abbrev no_edges : List HasValue → Bool
no_edges [] = true
no_edges (first ∷ rest) = false

abbrev is_new : KeyedObject → Bool
is_new entry = no_edges entry.object.edges && entry.object.live

statics_new : (number : ℕ) (variables : List Variable) (parts : Parts) → list_all is_new parts.objects ≡ true → list_all is_new (with_statics number variables parts).objects ≡ true
statics_new number [] parts new = new
statics_new number (variable ∷ rest) parts new = by_kind variable.fixed (λ parts new. statics_new (number + 1) rest parts new)
  where
    by_kind : (b : Bool) → ((parts : Parts) → list_all is_new parts.objects ≡ true → list_all is_new (with_statics (number + 1) rest parts).objects ≡ true) →
        list_all is_new (with_statics (number + 1) rest (if b then with_static number variable.size parts else parts)).objects ≡ true
    by_kind true onward = onward (with_static number variable.size parts) (all_append is_new parts.objects (record { key = length parts.objects; object = new_object storage.Static variable.size true } ∷ []) new refl)
    by_kind false onward = onward parts new

statics_bound : (number : ℕ) (variables : List Variable) (parts : Parts) → may_lead_anywhere parts ≡ false → may_lead_anywhere (with_statics number variables parts) ≡ false
statics_bound number [] parts bound = bound
statics_bound number (variable ∷ rest) parts bound = by_kind variable.fixed (λ parts bound. statics_bound (number + 1) rest parts bound)
  where
    by_kind : (b : Bool) → ((parts : Parts) → may_lead_anywhere parts ≡ false → may_lead_anywhere (with_statics (number + 1) rest parts) ≡ false) → may_lead_anywhere (with_statics (number + 1) rest (if b then with_static number variable.size parts else parts)) ≡ false
    by_kind true onward = onward (with_static number variable.size parts) (static_bound number variable.size parts bound)
    by_kind false onward = onward parts bound

first_none : (one other : Bool) → (one || other) ≡ false → one ≡ false
first_none true other none = none
first_none false other none = refl

statics_written : (flow : Flow) → IsFlow flow → length (with_statics 0 flow.variables no_parts).objects < 2 ^ 30 → AreWritten flow 0 (with_statics 0 flow.variables no_parts)
statics_written flow valid few = record {
  named = statics_are_named flow valid few;
  scalars = record {
    edges = λ variable key object one stored there among. by_edges variable object one object.edges refl (and_left (no_edges object.edges) object.live
        (found-all (λ (entry : KeyedObject). entry.key) (λ entry. entry.object) (λ object. no_edges object.edges && object.live) (with_statics 0 flow.variables no_parts).objects key object (statics_new 0 flow.variables no_parts refl) there)) among;
    live = list_all-implies is_new (λ (entry : KeyedObject). entry.object.live) (λ entry new. and_right (no_edges entry.object.edges) entry.object.live new) (with_statics 0 flow.variables no_parts).objects (statics_new 0 flow.variables no_parts refl);
  };
  none_any = ap (list_all (λ (entry : KeyedValue). not (is_any entry.value))) (statics_values 0 flow.variables no_parts);
  tight = first_none (some_loose (with_statics 0 flow.variables no_parts)) (holds_any (with_statics 0 flow.variables no_parts)) (statics_bound 0 flow.variables no_parts refl);
}
  where
    by_edges : (variable : ℕ) (object : Object) (one : HasValue) (edges : List HasValue) → object.edges ≡ edges → no_edges object.edges ≡ true → Contains object.edges one → IsOfScalar flow 0 variable one
    by_edges variable object one [] is none among = absurd (Contains-none one (subst (λ (es : List HasValue). Contains es one) is among))
    by_edges variable object one (first ∷ rest) is none among = absurd (false≢true (ap no_edges (sym is) ∙ none))

-- All together.

module _ (flow : Flow) (valid : IsFlow flow) (graph : IsGraph (start_graph flow)) (next : graphs.State) (is : graphs.IsState next) (stands : StandsFor (start_graph flow) next) where
  abbrev parameters : List ℕ
  parameters = parameters_of flow flow.main

  abbrev sizes : List ℕ
  sizes = map (size_in flow) parameters

  abbrev statics : Parts
  statics = with_statics 0 flow.variables no_parts

  few : length statics.objects < 2 ^ 30
  few = starting.few_statics flow valid graph

  tail_is : (place : ℕ) (scalar : Initial) → slice_get flow.initial place ≡ Some scalar → slice_get flow.initial (0 + place) ≡ Some scalar
  tail_is place scalar there = subst (λ (n : ℕ). slice_get flow.initial n ≡ Some scalar) (let same : place ≡ 0 + place = omega arith in same) there

  written : AreWritten flow (0 + length flow.initial) (static_graph flow)
  written = all_written flow 0 flow.initial statics valid.initials tail_is valid.initials_apart (statics_written flow valid few)

  -- before main's parameters stand
  abbrev held : FollowsAlike (static_graph flow) (Enters parameters sizes) next
  held = all_follows parameters sizes (static_graph flow) written.named.graph (parameters_may_enter flow valid (static_graph flow) written.named) (starting.room flow valid graph)
      (leads_nowhere (static_graph flow) written.none_any written.tight) next is stands

  abbrev listed : List Owned
  listed = map (owned held.stands.given) (static_graph flow).variables

  shown_there : (at : ℕ) → held.state.variables at ≡ block_of listed at
  shown_there = owned_shown (static_graph flow) held.state held.stands.given held.stands.meets

  -- before they hold something
  abbrev bare : IsBefore listed flow.initial statics held.state held.stands.given
  bare = initials_back flow 0 flow.initial statics held.state listed held.stands.given valid.initials tail_is valid.initials_apart (statics_written flow valid few) held.is shown_there held.stands.meets

  abbrev bare_state : graphs.State
  bare_state = dead.with_memory bare.memory held.state

  -- before there is anything
  abbrev made : FollowsAlike no_parts (MakesAll 0 flow.variables) bare_state
  made = statics_follow flow 0 flow.variables no_parts valid (rest_of flow) few (nothing_named flow) refl bare_state bare.is (record { given = held.stands.given; meets = bare.meets })

  abbrev point : ℕ
  point = entry_of flow flow.main

  abbrev again : HasAlike (MakesAll 0 flow.variables) (seen [] (blank point)) made.next'
  again = all_made_alike 0 flow.variables (λ number. number) (λ number. number) (λ number. false) made.state (seen [] (blank point)) made.next' (nothing_alike made.state point made.is made.stands) made.steps

  -- the machine makes them
  abbrev machine : IsMadeBy 0 flow.variables (blank point) again.next'
  machine = statics_back 0 flow.variables (blank point) (seen [] (blank point)) again.next' refl (λ at most. refl)
      (record { memory = refl; variables = λ variable. refl; registers = λ register. refl; ports = refl; roots = refl }) again.steps

  abbrev there : ℕ → ℕ
  there number = again.there (made.there number)

  abbrev back : ℕ → ℕ
  back number = made.back (again.back number)

  abbrev paired : ℕ → Bool
  paired number = made.paired number && again.paired (made.there number)

  bare_alike : AreAlikeStates there back paired bare_state (seen [] machine.next)
  bare_alike =
      alike_seen there back paired bare_state (seen [] machine.next) again.next'
      (states_behind made.there made.back again.there again.back made.paired again.paired bare_state made.next' again.next' made.alike again.alike) machine.same

  -- and lets them hold what they hold at the start
  abbrev holding : State
  holding = with_memory (runs.with_initials machine.next.statics flow.initial machine.next.memory) machine.next

  holding_alike : AreAlikeStates there back paired held.state (seen [] holding)
  holding_alike = record {
    memories = subst (λ (memory : List Block). AreAlike there back paired memory holding.memory) bare.again
        (initials_alike there back paired listed machine.next.statics
        (λ at. sym (shown machine.next machine.variables_none at) ∙ bare_alike.variables at ∙ ap (option_map there) (shown_there at))
        (λ at number found. bare_alike.named.variables at number (shown_there at ∙ found)) flow.initial bare.memory machine.next.memory bare_alike.memories);
    named = record { variables = bare_alike.named.variables; registers = bare_alike.named.registers; ports = bare_alike.named.ports; roots = bare_alike.named.roots };
    variables = bare_alike.variables;
    registers = bare_alike.registers;
    ports = bare_alike.ports;
    roots = bare_alike.roots;
  }

  -- main's parameters
  abbrev entering : AreEnteredAlike parameters sizes (seen [] holding) held.next'
  entering = all_alike parameters sizes there back paired held.state (seen [] holding) held.next' holding_alike held.steps

  nowhere : Place
  nowhere = record { file = 0; line = 0; column = 0; at = 0 }

  abbrev enters : Comes flow (Enter parameters) [] machine.next.point nowhere holding [] entering.next'
  enters =
      back_enter flow [] (λ register. 0) machine.next.point nowhere holding [] entering.next' parameters
      (subst (AreNew parameters) (sym machine.variables_none) (are_new parameters (and_left (flows.are_distinct parameters) (list_all (flows.is_parameter flow) parameters) (parameters_of_main flow valid)))) entering.steps

  begun_alike : IsBegunAlike flow next
  begun_alike = record {
    choices = machine.front ++ enters.choices;
    begun = enters.next;
    goes = ap (λ (o : Outcome). then_go o (λ state more. entered flow parameters (with_memory (runs.with_initials state.statics flow.initial state.memory) state) more)) (machine.goes enters.choices) ∙ enters.goes;
    there = λ number. entering.there (held.there number);
    back = λ number. held.back (entering.back number);
    paired = λ number. held.paired number && entering.paired (held.there number);
    alike = alike_seen (λ number. entering.there (held.there number)) (λ number. held.back (entering.back number)) (λ number. held.paired number && entering.paired (held.there number)) next (seen [] enters.next) entering.next'
        (states_behind held.there held.back entering.there entering.back held.paired entering.paired next held.next' entering.next' held.alike entering.alike) enters.same;
  }

pub start_exact : IsStartExact
start_exact flow parts next valid start is stands =
    begun_alike flow valid (subst IsGraph start.is start.graph) next is (subst (λ (p : Parts). StandsFor p next) start.is stands)
