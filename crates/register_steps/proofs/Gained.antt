-- A register that gets a value: there, and back.
use Rattle.std.proofs.Common.{◌≡◌, ◌≢◌, ℕ, zero, suc, Bool, true, false, ◌&&◌, List, [], ◌∷◌, length, nat_eq, nat_lt, Option, None, Some, ◌⊎◌, inl, inr, refl, sym, ◌∙◌, ap, subst, lt-ltb, eqb-true, eq-eqb, arith, ◌||◌, ◌^◌, ◌<◌, ◌≤◌}
use Rattle.std.specs.Prelude.{IsSome, Contains, option_map, if◌then◌else◌}
use Rattle.std.specs.Option.{option_map_or}
use Rattle.std.proofs.lemmas.Bool.{false≢true}
use Rattle.bytes_core.specs.declared.word.Word.{Word}
use Rattle.bytes_core.specs.declared.word.Word.TheVariants.{Plain}
use Rattle.graph.specs.declared.parts.Parts.{Parts}
use Rattle.graph.specs.declared.post.Post.{Post}
use Rattle.graph.specs.declared.value.Value.{Value}
use Rattle.graph.specs.declared.value.Value.TheVariants.{Const}
use Rattle.graph.specs.Maps.{object_at, value_at, held_by}
use Rattle.graph.specs.Sizes.{value_size, is_scalar_size, is_sized}
use Rattle.graph.specs.State.{State, IsState}
use Rattle.graph.specs.WellFormed.{IsWellFormed, passes_at, may_be_held, leads_to_object, are_ascending}
use Rattle.graph.specs.Whole.{IsGraph}
use Rattle.graph.specs.Meaning.{HasWord, ends_of, maps_of, Assignment, Meets, StandsFor}
use Rattle.graph.proofs.AllThere.{all_blocks_may_be_there}
use Rattle.graph.proofs.Closed.{closed_of}
use Rattle.graph.proofs.Tests.{and_left, and_right, and_both}
use Rattle.changes.specs.Following.{Leaves, Follows, StepMeans}
use Rattle.changes.specs.Parts.{emptied, put, with_value, without_registers}
use Rattle.changes.specs.Posted.{IsPost, SomeStandsFor}
use Rattle.changes.proofs.Held.{state_held, held_meets, held_state}
use Rattle.changes.proofs.Reached.{only_one, none_in}
use Rattle.changes.proofs.RegisterForm.{graph_with, graph_without}
use Rattle.changes.proofs.RegistersChanged.{AgreeButRegisters, held_with, held_without, registers_changed, emptied-words, put-words}
use Rattle.changes.proofs.Value.{with_word, word-here, value_more, value_less}
use Rattle.changes.proofs.ValueForm.{IsFitValue, value_next, value_new, has_one_more, graph_with_value}
use Rattle.register_steps.specs.declared.line.Gain.{Gain}
use Rattle.register_steps.specs.declared.line.Gain.TheVariants.{Nothing, Held, Fresh, Truth}
use Rattle.register_steps.specs.declared.line.Line.{Line}
use Rattle.register_steps.specs.Gaining.{gained, gained_fresh, gained_graphs, may_gain, line_post, GainTail}
use Rattle.register_steps.specs.States.{Gains, NoFault}

-- The value with a key.

module _ (gone : List ℕ) (into key : ℕ) (parts : Parts) where
  agrees : AgreeButRegisters (maps_of parts) (maps_of (gained gone into key parts))
  agrees = record { objects = λ at. refl; values = λ at. refl; variables = λ at. refl; ports = refl; unequal = refl }

  held_gained : (register : ℕ) → held_by (gained gone into key parts).registers register ≡ put into key (emptied gone (held_by parts.registers)) register
  held_gained register = held_with into key (without_registers gone parts) register ∙ by_test (nat_eq register into)
    where
      by_test : (b : Bool) → (if b then Some key else held_by (without_registers gone parts).registers register) ≡ (if b then Some key else emptied gone (held_by parts.registers) register)
      by_test true = refl
      by_test false = held_without gone parts register

  words_then : (given : Assignment) (words : ℕ → Option Word) (register : ℕ) → words register ≡ option_map given.word (held_by parts.registers register) →
      put into (given.word key) (emptied gone words) register ≡ option_map given.word (held_by (gained gone into key parts).registers register)
  words_then given words register same =
      put-words given.word into key (emptied gone (held_by parts.registers)) (emptied gone words) register (emptied-words given.word gone (held_by parts.registers) words register same)
      ∙ ap (option_map given.word) (sym (held_gained register))

  -- there
  gained_meets : (given : Assignment) (state next : State) (word : Word) → word ≡ given.word key → Meets (maps_of parts) state given → Leaves state.memory (put into word (emptied gone state.registers)) state next →
      Meets (maps_of (gained gone into key parts)) next given
  gained_meets given state next word is meets leaves =
      registers_changed (maps_of parts) (maps_of (gained gone into key parts)) state next given agrees
      (record { memory = leaves.memory; variables = leaves.variables; ports = leaves.ports; roots = leaves.roots })
      (λ register. leaves.registers register ∙ ap (λ (w : Word). put into w (emptied gone state.registers) register) is ∙ words_then given state.registers register (meets.registers register)) meets

  -- and back
  gained_leaves : (given : Assignment) (form : IsWellFormed parts) (next : State) (meets : Meets (maps_of (gained gone into key parts)) next given) →
      Leaves next.memory (put into (given.word key) (emptied gone (state_held parts (gained gone into key parts) form next given agrees meets).registers)) (state_held parts (gained gone into key parts) form next given agrees meets) next
  gained_leaves given form next meets = record {
    memory = refl;
    registers = λ register. meets.registers register ∙ sym (words_then given (state_held parts (gained gone into key parts) form next given agrees meets).registers register refl);
    variables = λ variable. refl;
    ports = refl;
    roots = refl;
  }

  gained_graph : IsGraph parts → passes_at parts may_be_held key ≡ true → IsGraph (gained gone into key parts)
  gained_graph graph may = graph_with into key (without_registers gone parts) may (graph_without gone parts graph)

-- what a register holds where it gets a value
put_here : (into key : ℕ) (registers : ℕ → Option ℕ) → put into key registers into ≡ Some key
put_here into key registers = ap (λ (b : Bool). if b then Some key else registers into) (eq-eqb into into refl)

put_else : (into key : ℕ) (registers : ℕ → Option ℕ) (register : ℕ) → register ≢ into → put into key registers register ≡ registers register
put_else into key registers register differ = by_test (nat_eq register into) refl
  where
    by_test : (b : Bool) → nat_eq register into ≡ b → (if b then Some key else registers register) ≡ registers register
    by_test true is = absurd (differ (eqb-true _ _ is))
    by_test false is = refl

-- Gains.

-- the words that a register may get
abbrev pub HasGain : Parts → State → Assignment → Gain → Word → Type 0
HasGain parts state given Nothing word = ⊥
HasGain parts state given (Held key) word = word ≡ given.word key
HasGain parts state given (Fresh value) word = HasWord (length state.memory) given.blocks (ends_of (object_at parts.objects) given.word) value word
HasGain parts state given (Truth size) word = (word ≡ Plain 0) ⊎ (word ≡ Plain 1)

-- the size of what it gets
pub record HasSize (parts : Parts) (key size : ℕ) : Type 0 where
  pub value : Value
  pub is : value_at parts.values key ≡ Some value
  pub size_is : value_size value ≡ size

abbrev pub GainHasSize : Parts → ℕ → Gain → Type 0
GainHasSize parts size Nothing = Unit {0}
GainHasSize parts size (Held key) = HasSize parts key size
GainHasSize parts size (Fresh value) = value_size value ≡ size
GainHasSize parts size (Truth other) = other ≡ size

-- a line is right for what an instruction gives
pub record IsRight (parts : Parts) (Gives : State → Word → Type 0) (size : ℕ) (line : Line) : Type 0 where
  pub may : may_gain parts line.gain ≡ true
  pub sized : GainHasSize parts size line.gain
  -- the register may get each word that is given
  pub sound : (state : State) (given : Assignment) (word : Word) → IsState state → Meets (maps_of parts) state given → Gives state word → HasGain parts state given line.gain word
  -- and where nothing is lost no others
  pub exact : line.loss ≡ None → (state : State) (given : Assignment) (word : Word) → IsState state → Meets (maps_of parts) state given → HasGain parts state given line.gain word → Gives state word

pub fresh_fit : (parts : Parts) (value : Value) → may_gain parts (Fresh value) ≡ true → IsFitValue parts value
fresh_fit parts value may =
    let rest = and_right (is_sized value) (leads_to_object parts value && may_be_held value) may in
    record {
      sized = and_left (is_sized value) (leads_to_object parts value && may_be_held value) may;
      leads = and_left (leads_to_object parts value) (may_be_held value) rest;
      held = and_right (leads_to_object parts value) (may_be_held value) rest;
    }

pub truth_fit : (parts : Parts) (number size : ℕ) → number < 2 → is_scalar_size size ≡ true → may_gain parts (Fresh (Const number size)) ≡ true
truth_fit parts number size small scalar =
    let wide = wide_scalar size scalar in
    and_both (is_scalar_size size && nat_lt number (256 ^ size)) true (and_both (is_scalar_size size) (nat_lt number (256 ^ size)) scalar (lt-ltb _ _ (omega arith))) refl
  where
    wide_scalar : (size : ℕ) → is_scalar_size size ≡ true → 2 ≤ 256 ^ size
    wide_scalar size scalar = by_cases (nat_eq size 1) refl (nat_eq size 2) refl (nat_eq size 4) refl (nat_eq size 8) refl scalar
      where
        by_cases : (a : Bool) → nat_eq size 1 ≡ a → (b : Bool) → nat_eq size 2 ≡ b → (c : Bool) → nat_eq size 4 ≡ c → (d : Bool) → nat_eq size 8 ≡ d → (a || (b || (c || d))) ≡ true → 2 ≤ 256 ^ size
        by_cases true is b b_is c c_is d d_is any = rw (eqb-true size 1 is) (omega arith)
        by_cases false a_is true is c c_is d d_is any = rw (eqb-true size 2 is) (omega arith)
        by_cases false a_is false b_is true is d d_is any = rw (eqb-true size 4 is) (omega arith)
        by_cases false a_is false b_is false c_is true is any = rw (eqb-true size 8 is) (omega arith)
        by_cases false a_is false b_is false c_is false d_is any = absurd (false≢true any)

first_among : {X : Type 0} (one : X) (rest : List X) → Contains (one ∷ rest) one
first_among one rest = (0, omega arith, refl)

second_among : {X : Type 0} (one other : X) (rest : List X) → Contains (one ∷ other ∷ rest) other
second_among one other rest = (1, omega arith, refl)

one_of_two : {X : Type 0} (one other item : X) → Contains (one ∷ other ∷ []) item → (one ≡ item) ⊎ (other ≡ item)
one_of_two one other item (zero, below, is) = inl is
one_of_two one other item (suc zero, below, is) = inr is
one_of_two one other item (suc (suc place), below, is) = absurd (omega arith)

module _ (parts : Parts) (graph : IsGraph parts) (gone : List ℕ) (into : ℕ) where
  abbrev fresh : ℕ
  fresh = length parts.values

  fresh_graph : (value : Value) → may_gain parts (Fresh value) ≡ true → IsGraph (with_value value parts)
  fresh_graph value may = graph_with_value value parts graph (fresh_fit parts value may)

  fresh_held : (value : Value) → may_gain parts (Fresh value) ≡ true → passes_at (with_value value parts) may_be_held fresh ≡ true
  fresh_held value may = ap (λ (o : Option Value). option_map_or may_be_held o false) (value_new value parts graph) ∙ (fresh_fit parts value may).held

  pub graph_fresh : (value : Value) → may_gain parts (Fresh value) ≡ true → IsGraph (gained_fresh gone into value parts)
  graph_fresh value may = gained_graph gone into fresh (with_value value parts) (fresh_graph value may) (fresh_held value may)

  pub graph_held : (key : ℕ) → may_gain parts (Held key) ≡ true → IsGraph (gained gone into key parts)
  graph_held key may = gained_graph gone into key parts graph may

  -- there

  held_stands : (key : ℕ) (state next : State) (given : Assignment) (word : Word) → Meets (maps_of parts) state given → word ≡ given.word key → Leaves state.memory (put into word (emptied gone state.registers)) state next →
      StandsFor (gained gone into key parts) next
  held_stands key state next given word meets is leaves = record { given = given; meets = gained_meets gone into key parts given state next word is meets leaves }

  fresh_stands : (value : Value) → may_gain parts (Fresh value) ≡ true → (state next : State) (given : Assignment) (word : Word) → Meets (maps_of parts) state given →
      HasWord (length state.memory) given.blocks (ends_of (object_at parts.objects) given.word) value word → Leaves state.memory (put into word (emptied gone state.registers)) state next →
      StandsFor (gained_fresh gone into value parts) next
  fresh_stands value may state next given word meets has leaves = record {
    given = with_word fresh word given;
    meets = gained_meets gone into fresh (with_value value parts) (with_word fresh word given) state next word (sym (word-here fresh word given))
        (value_more fresh value (maps_of parts) (maps_of (with_value value parts)) (has_one_more value parts graph (fresh_fit parts value may).held) word state given (closed_of parts graph.well_formed) has meets) leaves;
  }

  pub gains_stand : (gain : Gain) → may_gain parts gain ≡ true → (state next : State) (given : Assignment) (word : Word) → Meets (maps_of parts) state given → HasGain parts state given gain word →
      Leaves state.memory (put into word (emptied gone state.registers)) state next → SomeStandsFor (gained_graphs parts gone into gain) next
  gains_stand Nothing may state next given word meets has leaves = absurd has
  gains_stand (Held key) may state next given word meets has leaves =
      record { graph = gained gone into key parts; among = first_among (gained gone into key parts) []; stands = held_stands key state next given word meets has leaves }
  gains_stand (Fresh value) may state next given word meets has leaves =
      record { graph = gained_fresh gone into value parts; among = first_among (gained_fresh gone into value parts) []; stands = fresh_stands value may state next given word meets has leaves }
  gains_stand (Truth size) may state next given word meets (inl is) leaves = record {
    graph = gained_fresh gone into (Const 0 size) parts;
    among = first_among (gained_fresh gone into (Const 0 size) parts) (gained_fresh gone into (Const 1 size) parts ∷ []);
    stands = fresh_stands (Const 0 size) (truth_fit parts 0 size (omega arith) may) state next given word meets is leaves;
  }
  gains_stand (Truth size) may state next given word meets (inr is) leaves = record {
    graph = gained_fresh gone into (Const 1 size) parts;
    among = second_among (gained_fresh gone into (Const 0 size) parts) (gained_fresh gone into (Const 1 size) parts) [];
    stands = fresh_stands (Const 1 size) (truth_fit parts 1 size (omega arith) may) state next given word meets is leaves;
  }

  -- and back

  module _ (Gives : State → Word → Type 0) where
    held_follows : (key : ℕ) → ((state : State) (given : Assignment) → IsState state → Meets (maps_of parts) state given → Gives state (given.word key)) →
        (next : State) → IsState next → StandsFor (gained gone into key parts) next → Follows parts (Gains gone into Gives) next
    held_follows key gives next is stands =
        let all = all_blocks_may_be_there (gained gone into key parts) next stands.given is stands.meets in
        let after = gained gone into key parts in
        let before = state_held parts after graph.well_formed all.next all.given (agrees gone into key parts) all.meets in
        let before_is = held_state parts after graph.well_formed all.next all.given (agrees gone into key parts) all.meets all.is all.there in
        let before_meets = held_meets parts after graph.well_formed all.next all.given (agrees gone into key parts) all.meets in record {
          state = before;
          next' = all.next;
          is = before_is;
          stands = record { given = all.given; meets = before_meets };
          steps = record { word = all.given.word key; gives = gives before all.given before_is before_meets; leaves = gained_leaves gone into key parts all.given graph.well_formed all.next all.meets };
          more = all.more;
        }

    fresh_follows : (value : Value) → may_gain parts (Fresh value) ≡ true →
        ((state : State) (given : Assignment) (word : Word) → IsState state → Meets (maps_of parts) state given → HasWord (length state.memory) given.blocks (ends_of (object_at parts.objects) given.word) value word → Gives state word) →
        (next : State) → IsState next → StandsFor (gained_fresh gone into value parts) next → Follows parts (Gains gone into Gives) next
    fresh_follows value may gives next is stands =
        let more = with_value value parts in
        let form = (fresh_graph value may).well_formed in
        let after = gained gone into fresh more in
        let all = all_blocks_may_be_there after next stands.given is stands.meets in
        let before = state_held more after form all.next all.given (agrees gone into fresh more) all.meets in
        let before_is = held_state more after form all.next all.given (agrees gone into fresh more) all.meets all.is all.there in
        let before_more = held_meets more after form all.next all.given (agrees gone into fresh more) all.meets in
        let before_meets = value_less fresh value (maps_of parts) (maps_of more) (has_one_more value parts graph (fresh_fit parts value may).held) before all.given before_more in record {
          state = before;
          next' = all.next;
          is = before_is;
          stands = record { given = all.given; meets = before_meets };
          steps = record {
            word = all.given.word fresh;
            gives = gives before all.given (all.given.word fresh) before_is before_meets (before_more.values fresh value (value_new value parts graph));
            leaves = gained_leaves gone into fresh more all.given form all.next all.meets;
          };
          more = all.more;
        }

    pub gains_follow : (gain : Gain) → may_gain parts gain ≡ true →
        ((state : State) (given : Assignment) (word : Word) → IsState state → Meets (maps_of parts) state given → HasGain parts state given gain word → Gives state word) →
        (after : Parts) (next : State) → Contains (gained_graphs parts gone into gain) after → IsState next → StandsFor after next → Follows parts (Gains gone into Gives) next
    gains_follow Nothing may gives after next among is stands = none_in after among
    gains_follow (Held key) may gives after next among is stands =
        held_follows key (λ state given state_is meets. gives state given (given.word key) state_is meets refl) next is
        (subst (λ (g : Parts). StandsFor g next) (sym (only_one (gained gone into key parts) after among)) stands)
    gains_follow (Fresh value) may gives after next among is stands =
        fresh_follows value may gives next is (subst (λ (g : Parts). StandsFor g next) (sym (only_one (gained_fresh gone into value parts) after among)) stands)
    gains_follow (Truth size) may gives after next among is stands =
        by_case (one_of_two (gained_fresh gone into (Const 0 size) parts) (gained_fresh gone into (Const 1 size) parts) after among)
      where
        by_case : (gained_fresh gone into (Const 0 size) parts ≡ after) ⊎ (gained_fresh gone into (Const 1 size) parts ≡ after) → Follows parts (Gains gone into Gives) next
        by_case (inl same) = fresh_follows (Const 0 size) (truth_fit parts 0 size (omega arith) may) (λ state given word state_is meets has. gives state given word state_is meets (inl has)) next is
            (subst (λ (g : Parts). StandsFor g next) (sym same) stands)
        by_case (inr same) = fresh_follows (Const 1 size) (truth_fit parts 1 size (omega arith) may) (λ state given word state_is meets has. gives state given word state_is meets (inr has)) next is
            (subst (λ (g : Parts). StandsFor g next) (sym same) stands)

  -- what is left of the graph

  held_tail : (key size : ℕ) → may_gain parts (Held key) ≡ true → HasSize parts key size → GainTail parts gone into size (gained gone into key parts)
  held_tail key size may has = record {
    keeps = record { graph = graph_held key may; ports = refl; variables = refl; unequal = refl; lives = λ at. refl; values = λ at some. refl };
    registers = λ register differ. held_gained gone into key parts register ∙ put_else into key (emptied gone (held_by parts.registers)) register differ;
    key = key;
    value = has.value;
    held = held_gained gone into key parts into ∙ put_here into key (emptied gone (held_by parts.registers));
    is = has.is;
    size_is = has.size_is;
  }

  before_fresh : (at : ℕ) → IsSome (value_at parts.values at) → at ≢ fresh
  before_fresh at some same = false≢true (subst (λ (o : Option Value). IsSome o) (ap (value_at parts.values) same ∙ value_next_of) some)
    where
      value_next_of : value_at parts.values fresh ≡ None
      value_next_of = value_next (Const 0 8) parts graph

  fresh_tail : (value : Value) (size : ℕ) → may_gain parts (Fresh value) ≡ true → value_size value ≡ size → GainTail parts gone into size (gained_fresh gone into value parts)
  fresh_tail value size may sized = record {
    keeps = record { graph = graph_fresh value may; ports = refl; variables = refl; unequal = refl; lives = λ at. refl; values = λ at some. (has_one_more value parts graph (fresh_fit parts value may).held).values at (before_fresh at some) };
    registers = λ register differ. held_gained gone into fresh (with_value value parts) register ∙ put_else into fresh (emptied gone (held_by parts.registers)) register differ;
    key = fresh;
    value = value;
    held = held_gained gone into fresh (with_value value parts) into ∙ put_here into fresh (emptied gone (held_by parts.registers));
    is = value_new value parts graph;
    size_is = sized;
  }

  gains_tail : (gain : Gain) (size : ℕ) → may_gain parts gain ≡ true → GainHasSize parts size gain → (after : Parts) → Contains (gained_graphs parts gone into gain) after → GainTail parts gone into size after
  gains_tail Nothing size may sized after among = none_in after among
  gains_tail (Held key) size may sized after among = subst (GainTail parts gone into size) (only_one (gained gone into key parts) after among) (held_tail key size may sized)
  gains_tail (Fresh value) size may sized after among = subst (GainTail parts gone into size) (only_one (gained_fresh gone into value parts) after among) (fresh_tail value size may sized)
  gains_tail (Truth other) size may sized after among = by_case (one_of_two (gained_fresh gone into (Const 0 other) parts) (gained_fresh gone into (Const 1 other) parts) after among)
    where
      by_case : (gained_fresh gone into (Const 0 other) parts ≡ after) ⊎ (gained_fresh gone into (Const 1 other) parts ≡ after) → GainTail parts gone into size after
      by_case (inl same) = subst (GainTail parts gone into size) same (fresh_tail (Const 0 other) size (truth_fit parts 0 other (omega arith) may) sized)
      by_case (inr same) = subst (GainTail parts gone into size) same (fresh_tail (Const 1 other) size (truth_fit parts 1 other (omega arith) may) sized)

  -- The post of a line that is right.
  pub line_means : (Gives : State → Word → Type 0) (size : ℕ) (line : Line) (post : Post) → IsRight parts Gives size line → IsPost (line_post parts gone into line) post →
      StepMeans parts (Gains gone into Gives) NoFault (GainTail parts gone into size) post
  line_means Gives size line post right is = record {
    sound = λ state next state_is stands steps precise.
        subst (λ (graphs : List Parts). SomeStandsFor graphs next) (sym is.graphs)
        (gains_stand line.gain right.may state next stands.given steps.word stands.meets (right.sound state stands.given steps.word state_is stands.meets steps.gives) steps.leaves);
    exact = λ after next none among next_is stands.
        gains_follow Gives line.gain right.may (right.exact (sym is.loss ∙ none)) after next (subst (λ (graphs : List Parts). Contains graphs after) is.graphs among) next_is stands;
    kinds = λ state kind stands faults. absurd faults;
    met = λ kind precise listed. none_in kind (subst (λ (kinds : List ℕ). Contains kinds kind) is.kinds listed);
    ascending = ap are_ascending is.kinds;
    tail = λ after among. gains_tail line.gain size right.may right.sized after (subst (λ (graphs : List Parts). Contains graphs after) is.graphs among);
  }
