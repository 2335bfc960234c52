-- Variables that begin to stand.
use Rattle.std.proofs.Common.{◌≡◌, ℕ, Bool, true, false, ◌&&◌, ◌||◌, not, List, [], ◌∷◌, map, length, nat_eq, nat_lt, Option, None, Some, refl, sym, ◌∙◌, ap, eqb-true, eq-eqb}
use Rattle.std.specs.Prelude.{if◌then◌else◌}
use Rattle.std.specs.List.{list_any, list_all}
use Rattle.std.proofs.lemmas.Bool.{false≢true}
use Rattle.std.proofs.lemmas.Option.{none-some}
use Rattle.cbase.specs.declared.place.Place.{Place}
use Rattle.bytes_core.specs.declared.block.BlockKind.TheVariants as storage
use Rattle.bytes_core.specs.declared.block.Block.{Block}
use Rattle.bytes_core.specs.declared.word.Word.{Word}
use Rattle.bytes_core.specs.Placement.{new_block, is_new_block, placed}
use Rattle.choices.specs.declared.choice.Choice.{Choice}
use Rattle.choices.specs.declared.choice.Choice.TheVariants.{None as NoBlock, Block as NewBlock, Input as GivenInput}
use Rattle.graph.specs.State as graphs
use Rattle.graph.proofs.Tests.{and_left, and_both}
use Rattle.flow.specs.declared.flow_graph.Flow.{Flow}
use Rattle.flow.specs.declared.instruction.Instr.TheVariants.{Enter}
use Rattle.flow.specs.Holding.{Owned, block_of, put_owned}
use Rattle.flow.specs.Machine.{State, Outcome, Went, Barred, Waits, Ended, Faulted, at, with_memory, with_variable, entered, size_in, block_here, or_else}
use Rattle.changes.specs.Parts.{put}
use Rattle.block_steps.specs.Entering.{EntersOne, Enters}
use Rattle.edge_steps.specs.Seen.{seen, IsSame}
use Rattle.edge_steps.proofs.Back.{Comes, if_is}
use Rattle.edge_steps.proofs.Outcomes.{IsRight}
use Rattle.edge_steps.proofs.Registers.{eqb_sym}
use Rattle.edge_steps.proofs.There.{Right}

-- these variables do not stand yet, and none is named twice
abbrev pub AreNew : List ℕ → List Owned → Type 0
AreNew [] owned = Unit {0}
AreNew (variable ∷ rest) owned = (block_of owned variable ≡ None) × (list_any (nat_eq variable) rest ≡ false) × AreNew rest owned

front_block : (new : Owned) (owned : List Owned) (variable : ℕ) → block_of (new ∷ owned) variable ≡ put new.variable new.block (block_of owned) variable
front_block new owned variable = ap (λ (b : Bool). if b then Some new.block else block_of owned variable) (eqb_sym new.variable variable)

-- a variable more
block_put : (new : Owned) (owned : List Owned) (variable : ℕ) → block_of owned new.variable ≡ None → block_of (put_owned new owned) variable ≡ put new.variable new.block (block_of owned) variable
block_put new [] variable none = front_block new [] variable
block_put new (first ∷ rest) variable none = by_order (nat_lt new.variable first.variable) (nat_eq first.variable new.variable) refl none (λ later. block_put new rest variable later)
  where
    behind : (here : Bool) → nat_eq variable new.variable ≡ here → (same : Bool) → nat_eq first.variable variable ≡ same → nat_eq first.variable new.variable ≡ false →
        (if same then Some first.block else (if here then Some new.block else block_of rest variable)) ≡ (if here then Some new.block else (if same then Some first.block else block_of rest variable))
    behind true is true same_is differ = absurd (false≢true (sym differ ∙ eq-eqb first.variable new.variable (eqb-true _ _ same_is ∙ eqb-true _ _ is)))
    behind true is false same_is differ = refl
    behind false is same same_is differ = refl

    by_order : (below same : Bool) → nat_eq first.variable new.variable ≡ same → (if same then Some first.block else block_of rest new.variable) ≡ None →
        (block_of rest new.variable ≡ None → block_of (put_owned new rest) variable ≡ put new.variable new.block (block_of rest) variable) →
        block_of (if below then new ∷ first ∷ rest else first ∷ put_owned new rest) variable ≡ put new.variable new.block (block_of (first ∷ rest)) variable
    by_order true same is none later = front_block new (first ∷ rest) variable
    by_order false true is none later = absurd (none-some first.block (sym none))
    by_order false false is none later =
        ap (λ (o : Option ℕ). if nat_eq first.variable variable then Some first.block else o) (later none)
        ∙ behind (nat_eq variable new.variable) refl (nat_eq first.variable variable) refl is

new_behind : (new : Owned) (variables : List ℕ) (owned : List Owned) → block_of owned new.variable ≡ None → list_any (nat_eq new.variable) variables ≡ false → AreNew variables owned → AreNew variables (put_owned new owned)
new_behind new [] owned none differ are = tt
new_behind new (variable ∷ rest) owned none differ (none', once, are) =
    by_test (nat_eq new.variable variable) refl (list_any (nat_eq new.variable) rest) refl differ (λ later. new_behind new rest owned none later are)
  where
    apart : (b : Bool) → nat_eq new.variable variable ≡ b → b ≡ false → block_of (put_owned new owned) variable ≡ None
    apart true is differ = absurd (false≢true (sym differ))
    apart false is differ = block_put new owned variable none ∙ ap (λ (b : Bool). if b then Some new.block else block_of owned variable) (eqb_sym variable new.variable ∙ is) ∙ none'

    by_test : (b : Bool) → nat_eq new.variable variable ≡ b → (c : Bool) → list_any (nat_eq new.variable) rest ≡ c → (b || c) ≡ false →
        (list_any (nat_eq new.variable) rest ≡ false → AreNew rest (put_owned new owned)) → AreNew (variable ∷ rest) (put_owned new owned)
    by_test true is c c_is differ later = absurd (false≢true (sym differ))
    by_test false is c c_is differ later = (apart false is refl, once, later (c_is ∙ differ))

here_put : (state : State) (variable block at : ℕ) → block_of state.frame.variables variable ≡ None → block_here (with_variable variable block state) at ≡ put variable block (block_here state) at
here_put state variable block at none =
    ap (λ (o : Option ℕ). or_else o (block_of state.statics at)) (block_put (record { variable = variable; block = block }) state.frame.variables at none) ∙ by_test (nat_eq at variable)
  where
    by_test : (b : Bool) → or_else (if b then Some block else block_of state.frame.variables at) (block_of state.statics at) ≡ (if b then Some block else or_else (block_of state.frame.variables at) (block_of state.statics at))
    by_test true = refl
    by_test false = refl

module _ (flow : Flow) (ports : List Word) where
  -- the state in which a variable stands for a new block
  abbrev with_new : State → ℕ → ℕ → List ℕ → State
  with_new state variable base contents = with_variable variable (length state.memory) (with_memory (placed state.memory (new_block storage.Local base contents)) state)

  abbrev is_right : State → ℕ → ℕ → List ℕ → Bool
  is_right state variable base contents = is_new_block state.memory storage.Local (size_in flow variable) base contents && (not false || list_all (nat_eq 0) contents)

  one_entered : (state : State) (variable base : ℕ) (contents : List ℕ) → block_of state.frame.variables variable ≡ None → is_right state variable base contents ≡ true →
      EntersOne variable (size_in flow variable) (seen ports state) (seen ports (with_new state variable base contents))
  one_entered state variable base contents none right = record {
    block = record {
      base = base;
      contents = contents;
      new = and_left (is_new_block state.memory storage.Local (size_in flow variable) base contents) (not false || list_all (nat_eq 0) contents) right;
      zeros = refl;
      is = refl;
    };
    variables_are = λ at. here_put (with_memory (placed state.memory (new_block storage.Local base contents)) state) variable (length state.memory) at none;
    registers_are = λ register. refl;
    ports = refl;
    roots = refl;
  }

  entered_right : (place : Place) (variables : List ℕ) (state : State) (choices : List Choice) → AreNew variables state.frame.variables →
      IsRight (λ next. Enters variables (map (size_in flow) variables) (seen ports state) (seen ports next)) (λ kind. ⊥) place (entered flow variables state choices)
  entered_right place [] state choices are = record { memory = refl; registers = λ register. refl; variables = λ variable. refl; ports = refl; roots = refl }
  entered_right place (variable ∷ rest) state [] are = tt
  entered_right place (variable ∷ rest) state (NoBlock ∷ choices) are = tt
  entered_right place (variable ∷ rest) state (GivenInput number ∷ choices) are = tt
  entered_right place (variable ∷ rest) state (NewBlock base contents ∷ choices) (none, once, are) =
      by_test (is_right state variable base contents) refl
      (entered_right place rest (with_new state variable base contents) choices (new_behind (record { variable = variable; block = length state.memory }) rest state.frame.variables none once are))
    where
      by_outcome : (outcome : Outcome) → is_right state variable base contents ≡ true →
          IsRight (λ next. Enters rest (map (size_in flow) rest) (seen ports (with_new state variable base contents)) (seen ports next)) (λ kind. ⊥) place outcome →
          IsRight (λ next. Enters (variable ∷ rest) (map (size_in flow) (variable ∷ rest)) (seen ports state) (seen ports next)) (λ kind. ⊥) place outcome
      by_outcome (Went next others) is later = (seen ports (with_new state variable base contents), one_entered state variable base contents none is, later)
      by_outcome Barred is later = tt
      by_outcome Waits is later = tt
      by_outcome Ended is later = tt
      by_outcome (Faulted kind other) is later = absurd later.0

      by_test : (b : Bool) → is_right state variable base contents ≡ b →
          IsRight (λ next. Enters rest (map (size_in flow) rest) (seen ports (with_new state variable base contents)) (seen ports next)) (λ kind. ⊥) place (entered flow rest (with_new state variable base contents) choices) →
          IsRight (λ next. Enters (variable ∷ rest) (map (size_in flow) (variable ∷ rest)) (seen ports state) (seen ports next)) (λ kind. ⊥) place
          (if b then entered flow rest (with_new state variable base contents) choices else Ended)
      by_test true is later = by_outcome (entered flow rest (with_new state variable base contents) choices) is later
      by_test false is later = tt

  -- and back, from a state of which the same is seen
  pub record EntersBack (variables : List ℕ) (state : State) (others : List Choice) (after : graphs.State) : Type 0 where
    pub choices : List Choice
    pub next : State
    pub goes : entered flow variables state choices ≡ Went next others
    pub same : IsSame (seen ports next) after

  entered_back : (variables : List ℕ) (state : State) (before after : graphs.State) (others : List Choice) → AreNew variables state.frame.variables → IsSame (seen ports state) before →
      Enters variables (map (size_in flow) variables) before after → EntersBack variables state others after
  entered_back [] state before after others are same leaves = record {
    choices = others;
    next = state;
    goes = refl;
    same = record {
      memory = leaves.memory ∙ same.memory;
      variables = λ variable. leaves.variables variable ∙ same.variables variable;
      registers = λ register. leaves.registers register ∙ same.registers register;
      ports = leaves.ports ∙ same.ports;
      roots = leaves.roots ∙ same.roots;
    };
  }
  entered_back (variable ∷ rest) state before after others (none, once, are) same (middle, makes, onward) =
      let later = entered_back rest (with_new state variable makes.block.base makes.block.contents) middle after others
      (new_behind (record { variable = variable; block = length state.memory }) rest state.frame.variables none once are) same_then onward in record {
        choices = NewBlock makes.block.base makes.block.contents ∷ later.choices;
        next = later.next;
        goes = if_is (is_right state variable makes.block.base makes.block.contents) (entered flow rest (with_new state variable makes.block.base makes.block.contents) later.choices) Ended right ∙ later.goes;
        same = later.same;
      }
    where
      new_is : is_new_block state.memory storage.Local (size_in flow variable) makes.block.base makes.block.contents ≡ true
      new_is = ap (λ (m : List Block). is_new_block m storage.Local (size_in flow variable) makes.block.base makes.block.contents) (sym same.memory) ∙ makes.block.new

      right : is_right state variable makes.block.base makes.block.contents ≡ true
      right = and_both (is_new_block state.memory storage.Local (size_in flow variable) makes.block.base makes.block.contents) true new_is refl

      same_then : IsSame (seen ports (with_new state variable makes.block.base makes.block.contents)) middle
      same_then = record {
        memory = makes.block.is ∙ ap (λ (m : List Block). placed m (new_block storage.Local makes.block.base makes.block.contents)) same.memory;
        variables = λ at. makes.variables_are at
            ∙ ap (λ (n : ℕ). if nat_eq at variable then Some n else before.variables at) (ap (length {A = Block}) same.memory)
            ∙ ap (λ (o : Option ℕ). if nat_eq at variable then Some (length state.memory) else o) (same.variables at)
            ∙ sym (here_put (with_memory (placed state.memory (new_block storage.Local makes.block.base makes.block.contents)) state) variable (length state.memory) at none);
        registers = λ register. makes.registers_are register ∙ same.registers register;
        ports = makes.ports ∙ same.ports;
        roots = makes.roots ∙ same.roots;
      }

  module _ (sizes : ℕ → ℕ) (to : ℕ) (place : Place) (state : State) where
    pub there_enter : (choices : List Choice) (variables : List ℕ) → AreNew variables state.frame.variables → Right flow sizes ports to place state choices (Enter variables)
    there_enter choices variables are = entered_right place variables (at to state) choices are

    pub back_enter : (others : List Choice) (after : graphs.State) (variables : List ℕ) → AreNew variables state.frame.variables → Enters variables (map (size_in flow) variables) (seen ports state) after →
        Comes flow (Enter variables) ports to place state others after
    back_enter others after variables are enters =
        let back = entered_back variables (at to state) (seen ports state) after others are (record { memory = refl; variables = λ variable. refl; registers = λ register. refl; ports = refl; roots = refl }) enters in
        record { choices = back.choices; next = back.next; goes = back.goes; same = back.same }
