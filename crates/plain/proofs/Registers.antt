-- A graph shows a state still where a register gets a value, or holds nothing any more.
use Rattle.std.proofs.Common.{◌≡◌, ℕ, ◌≤◌, Bool, true, false, not, ◌&&◌, List, [], ◌∷◌, length, nat_eq, Option, None, Some, refl, sym, ◌∙◌, ap, subst, arith}
use Rattle.std.specs.Prelude.{if◌then◌else◌, Contains}
use Rattle.std.specs.Option.{option_map_or}
use Rattle.std.proofs.lemmas.Option.{same_Some, none-some}
use Rattle.std.proofs.lemmas.Bool.{false≢true}
use Rattle.bytes_core.specs.declared.word.Word.{Word}
use Rattle.graph.specs.declared.edges.HasValue.{HasValue}
use Rattle.graph.specs.declared.parts.Parts.{Parts}
use Rattle.graph.specs.declared.post.Post.{Post}
use Rattle.graph.specs.declared.value.Value.{Value}
use Rattle.graph.specs.Maps.{object_at, held_by}
use Rattle.graph.specs.Meaning.{HasWord, ends_of, maps_of, Assignment}
use Rattle.graph.specs.State.{State, IsState}
use Rattle.graph.specs.WellFormed.{passes_at, may_be_held}
use Rattle.graph.specs.Whole.{IsGraph}
use Rattle.graph.proofs.Closed.{closed_of}
use Rattle.graph.proofs.Tests.{list_all-implies}
use Rattle.changes.specs.Following.{Leaves}
use Rattle.changes.specs.Parts.{is_among, emptied, put, with_value, without_registers}
use Rattle.changes.specs.Posted.{IsPost}
use Rattle.changes.proofs.RegistersChanged.{held_without}
use Rattle.changes.proofs.Value.{with_word, word-here, value_more}
use Rattle.changes.proofs.ValueForm.{value_new, has_one_more, passes_still}
use Rattle.reinterpret.specs.Reading.{with_fresh}
use Rattle.reinterpret.proofs.EqualSound.{emptied_meets}
use Rattle.reinterpret.proofs.Into.{into_held, into_meets}
use Rattle.register_steps.specs.declared.line.Gain.{Gain}
use Rattle.register_steps.specs.declared.line.Gain.TheVariants.{Nothing, Held, Fresh, Truth}
use Rattle.register_steps.specs.declared.line.Line.{Line}
use Rattle.register_steps.specs.Gaining.{gained_graphs, may_gain, line_post}
use Rattle.register_steps.specs.States.{Gains}
use Rattle.register_steps.proofs.Gained.{HasGain, IsRight, fresh_fit}
use Rattle.plain.specs.Marks.{Marks, inputs_emptied, inputs_gained}
use Rattle.plain.specs.Shown.{is_sure, may_show, IsShownBy, IsShown, IsShownAmong, IsPlainPost}

abbrev pub gained_marks : List ℕ → ℕ → Bool → Marks → Marks
gained_marks gone into flag marks = record { of = marks.of; input = inputs_gained gone into flag marks.input }

abbrev pub emptied_marks : List ℕ → Marks → Marks
emptied_marks gone marks = record { of = marks.of; input = inputs_emptied gone marks.input }

module _ (parts : Parts) (state : State) (marks : Marks) (given : Assignment) (shown : IsShownBy parts state marks given) where
  -- a register gets the value with a key
  pub gained_shown : (gone : List ℕ) (into key : ℕ) (flag : Bool) (next : State) → passes_at parts (may_show flag) key ≡ true → Leaves state.memory (put into (given.word key) (emptied gone state.registers)) state next →
      IsShownBy (with_fresh gone into key parts) next (gained_marks gone into flag marks) given
  gained_shown gone into key flag next passes leaves = record {
    meets = into_meets gone into key parts given state next shown.meets leaves;
    marked = shown.marked;
    tight = shown.tight;
    edges = shown.edges;
    registers = λ register other held. by_tests register other (nat_eq register into) (is_among gone register) (sym (into_held gone into key parts register) ∙ held);
  }
    where
      by_tests : (register other : ℕ) (here among : Bool) → (if here then Some key else (if among then None else held_by parts.registers register)) ≡ Some other →
          passes_at parts (may_show (if here then flag else (not among && marks.input register))) other ≡ true
      by_tests register other true among is = subst (λ (k : ℕ). passes_at parts (may_show flag) k ≡ true) (same_Some _ _ is) passes
      by_tests register other false true is = absurd (none-some other is)
      by_tests register other false false is = shown.registers register other is

  -- registers hold nothing any more
  pub emptied_shown : (gone : List ℕ) (next : State) → Leaves state.memory (emptied gone state.registers) state next → IsShownBy (without_registers gone parts) next (emptied_marks gone marks) given
  emptied_shown gone next leaves = record {
    meets = emptied_meets parts gone state next given shown.meets leaves;
    marked = shown.marked;
    tight = shown.tight;
    edges = shown.edges;
    registers = λ register other held. by_test register other (is_among gone register) (sym (held_without gone parts register) ∙ held);
  }
    where
      by_test : (register other : ℕ) (among : Bool) → (if among then None else held_by parts.registers register) ≡ Some other → passes_at parts (may_show (not among && marks.input register)) other ≡ true
      by_test register other true is = absurd (none-some other is)
      by_test register other false is = shown.registers register other is

  -- a value more
  pub more_shown : (graph : IsGraph parts) (value : Value) (word : Word) → may_be_held value ≡ true → HasWord (length state.memory) given.blocks (ends_of (object_at parts.objects) given.word) value word →
      IsShownBy (with_value value parts) state marks (with_word (length parts.values) word given)
  more_shown graph value word held has = record {
    meets = value_more (length parts.values) value (maps_of parts) (maps_of (with_value value parts)) (has_one_more value parts graph held) word state given (closed_of parts graph.well_formed) has shown.meets;
    marked = shown.marked;
    tight = shown.tight;
    edges = λ key object stands. list_all-implies (λ (edge : HasValue). passes_at parts is_sure edge.value) (λ edge. passes_at (with_value value parts) is_sure edge.value)
        (λ edge. passes_still value parts graph is_sure edge.value) object.edges (shown.edges key object stands);
    registers = λ register key stands. passes_still value parts graph (may_show (marks.input register)) key (shown.registers register key stands);
  }

-- what a register gets may be shown
abbrev pub gain_shows : Parts → Bool → Gain → Bool
gain_shows parts flag Nothing = true
gain_shows parts flag (Held key) = passes_at parts (may_show flag) key
gain_shows parts flag (Fresh value) = may_show flag value
gain_shows parts flag (Truth size) = false

pub record IsSureLine (parts : Parts) (flag : Bool) (line : Line) : Type 0 where
  pub loss : line.loss ≡ None
  pub shows : gain_shows parts flag line.gain ≡ true

first_among : {X : Type 0} (one : X) → Contains (one ∷ []) one
first_among one = (0, omega arith, refl)

module _ (parts : Parts) (graph : IsGraph parts) (state : State) (marks : Marks) (gone : List ℕ) (into : ℕ) (flag : Bool) where
  few : (gain : Gain) → gain_shows parts flag gain ≡ true → length (gained_graphs parts gone into gain) ≤ 1
  few Nothing shows = omega arith
  few (Held key) shows = omega arith
  few (Fresh value) shows = omega arith
  few (Truth size) shows = absurd (false≢true shows)

  fresh_passes : (value : Value) → may_show flag value ≡ true → passes_at (with_value value parts) (may_show flag) (length parts.values) ≡ true
  fresh_passes value shows = ap (λ (o : Option Value). option_map_or (may_show flag) o false) (value_new value parts graph) ∙ shows

  gain_shown : (given : Assignment) → IsShownBy parts state marks given → (gain : Gain) → may_gain parts gain ≡ true → gain_shows parts flag gain ≡ true → (word : Word) (next : State) → HasGain parts state given gain word →
      Leaves state.memory (put into word (emptied gone state.registers)) state next → IsShownAmong (gained_graphs parts gone into gain) next (gained_marks gone into flag marks)
  gain_shown given by Nothing may shows word next has leaves = absurd has
  gain_shown given by (Held key) may shows word next has leaves = record {
    graph = with_fresh gone into key parts;
    among = first_among (with_fresh gone into key parts);
    shown = record {
      given = given;
      by = gained_shown parts state marks given by gone into key flag next shows (subst (λ (w : Word). Leaves state.memory (put into w (emptied gone state.registers)) state next) has leaves);
    };
  }
  gain_shown given by (Fresh value) may shows word next has leaves = record {
    graph = with_fresh gone into (length parts.values) (with_value value parts);
    among = first_among (with_fresh gone into (length parts.values) (with_value value parts));
    shown = record {
      given = with_word (length parts.values) word given;
      by = gained_shown (with_value value parts) state marks (with_word (length parts.values) word given) (more_shown parts state marks given by graph value word (fresh_fit parts value may).held has) gone into (length parts.values) flag next
          (fresh_passes value shows) (subst (λ (w : Word). Leaves state.memory (put into w (emptied gone state.registers)) state next) (sym (word-here (length parts.values) word given)) leaves);
    };
  }
  gain_shown given by (Truth size) may shows word next has leaves = absurd (false≢true shows)

  -- the post of a line that is right, and sure
  pub line_plain : (Gives : State → Word → Type 0) (size : ℕ) (line : Line) (post : Post) → IsState state → IsShown parts state marks → IsRight parts Gives size line → IsSureLine parts flag line → IsPost (line_post parts gone into line) post →
      IsPlainPost (Gains gone into Gives) state (gained_marks gone into flag marks) post
  line_plain Gives size line post is shown right sure posted = record {
    loss = posted.loss ∙ sure.loss;
    single = subst (λ (graphs : List Parts). length graphs ≤ 1) (sym posted.graphs) (few line.gain sure.shows);
    shows = λ next steps.
        subst (λ (graphs : List Parts). IsShownAmong graphs next (gained_marks gone into flag marks)) (sym posted.graphs)
        (gain_shown shown.given shown.by line.gain right.may sure.shows steps.word next (right.sound state shown.given steps.word is shown.by.meets steps.gives) steps.leaves);
  }
