-- Scopes that are left.
use Rattle.std.proofs.Common.{◌≡◌, ℕ, Bool, true, false, not, ◌||◌, List, [], ◌∷◌, nat_eq, Option, None, Some, ◌⊎◌, inl, inr, refl, sym, ◌∙◌, ap, subst, eqb-true, eq-eqb}
use Rattle.std.specs.Prelude.{IsSome, Contains, if◌then◌else◌}
use Rattle.std.specs.List.{list_any}
use Rattle.std.proofs.lemmas.Bool.{false≢true}
use Rattle.cbase.specs.declared.place.Place.{Place}
use Rattle.bytes_core.specs.declared.block.Block.{Block}
use Rattle.bytes_core.specs.declared.word.Word.{Word}
use Rattle.bytes_core.specs.Fault.{memory_lost}
use Rattle.bytes_core.specs.Loss.{is_lost}
use Rattle.choices.specs.declared.choice.Choice.{Choice}
use Rattle.graph.specs.State as graphs
use Rattle.flow.specs.declared.flow_graph.Flow.{Flow}
use Rattle.flow.specs.declared.instruction.Instr.TheVariants.{Leave}
use Rattle.flow.specs.Holding.{Owned, block_of, left}
use Rattle.flow.specs.Machine.{State, Outcome, Went, Faulted, at, roots, block_here, or_else, without_variables, after_scope}
use Rattle.flow.specs.Machine as machine
use Rattle.changes.specs.Parts.{is_among, emptied}
use Rattle.heap_steps.specs.Leaving.{EndsOne, EndsScope, LeavesScope, FaultsLeaving}
use Rattle.heap_steps.specs.Leaving as ending
use Rattle.edge_steps.specs.Seen.{seen, IsSame, ShowsAll}
use Rattle.edge_steps.proofs.Back.{Comes, Meets, if_is, if_is_not}
use Rattle.edge_steps.proofs.Chains.{Contains-none, Contains-first, Contains-later, Contains-cases, lost_there, none_there, none_back, lost_back, same_back, lost_same}
use Rattle.edge_steps.proofs.Outcomes.{right_if}
use Rattle.edge_steps.proofs.Registers.{among_same}
use Rattle.edge_steps.proofs.There.{Right}

-- the blocks of variables die, one after the other
abbrev memory_left : (ℕ → Option ℕ) → List ℕ → List Block → List Block
memory_left variables [] memory = memory
memory_left variables (variable ∷ rest) memory = memory_left variables rest (ending.without_block (variables variable) memory)

-- these variables stand no more, and their blocks are dead
record LeavesVariables (gone : List ℕ) (state next : graphs.State) : Type 0 where
  memory : next.memory ≡ memory_left state.variables gone state.memory
  variables : (variable : ℕ) → next.variables variable ≡ emptied gone state.variables variable
  registers : (register : ℕ) → next.registers register ≡ state.registers register
  ports : next.ports ≡ state.ports
  roots : next.roots ≡ state.roots

-- no variable is named twice
abbrev pub AreOnce : List ℕ → Type 0
AreOnce [] = Unit {0}
AreOnce (variable ∷ rest) = (is_among rest variable ≡ false) × AreOnce rest

-- What holds of variables that end one by one, and what holds of them together.

memory_agrees : (one other : ℕ → Option ℕ) (gone : List ℕ) (memory : List Block) → ((variable : ℕ) → is_among gone variable ≡ true → other variable ≡ one variable) → memory_left other gone memory ≡ memory_left one gone memory
memory_agrees one other [] memory agree = refl
memory_agrees one other (variable ∷ rest) memory agree =
    memory_agrees one other rest (ending.without_block (other variable) memory) (λ at among. agree at (later (nat_eq variable at) among))
    ∙ ap (λ (o : Option ℕ). memory_left one rest (ending.without_block o memory)) (agree variable (ap (λ (b : Bool). b || is_among rest variable) (eq-eqb variable variable refl)))
  where
    later : (b : Bool) {c : Bool} → c ≡ true → (b || c) ≡ true
    later true is = refl
    later false is = is

-- one of the others is still there
others_stay : (variables : ℕ → Option ℕ) (variable : ℕ) (rest : List ℕ) → is_among rest variable ≡ false → (at : ℕ) → is_among rest at ≡ true → emptied (variable ∷ []) variables at ≡ variables at
others_stay variables variable rest once at among = by_test (nat_eq variable at) refl
  where
    by_test : (b : Bool) → nat_eq variable at ≡ b → (if b || false then None else variables at) ≡ variables at
    by_test true is = absurd (false≢true (sym once ∙ ap (is_among rest) (eqb-true _ _ is) ∙ among))
    by_test false is = refl

emptied_more : (variables : ℕ → Option ℕ) (variable : ℕ) (rest : List ℕ) (at : ℕ) → emptied rest (emptied (variable ∷ []) variables) at ≡ emptied (variable ∷ rest) variables at
emptied_more variables variable rest at = by_tests (is_among rest at) (nat_eq variable at)
  where
    by_tests : (b c : Bool) → (if b then None else (if c || false then None else variables at)) ≡ (if c || b then None else variables at)
    by_tests true true = refl
    by_tests true false = refl
    by_tests false true = refl
    by_tests false false = refl

ends_there : (gone : List ℕ) (state next : graphs.State) → AreOnce gone → LeavesVariables gone state next → EndsScope gone state next
ends_there [] state next once leaves = record {
  memory = leaves.memory;
  registers = leaves.registers;
  variables = leaves.variables;
  ports = leaves.ports;
  roots = leaves.roots;
}
ends_there (variable ∷ rest) state next (once, later) leaves = (
  middle,
  one,
  ends_there rest middle next later (record {
    memory = leaves.memory ∙ sym (memory_agrees state.variables middle.variables rest middle.memory (others_stay state.variables variable rest once));
    variables = λ at. leaves.variables at ∙ sym (emptied_more state.variables variable rest at);
    registers = leaves.registers;
    ports = leaves.ports;
    roots = leaves.roots;
  }),
)
  where
    middle : graphs.State
    middle = record state { memory = ending.without_block (state.variables variable) state.memory; variables = emptied (variable ∷ []) state.variables }

    one : EndsOne variable state middle
    one = record { memory = refl; variables = λ at. refl; registers = λ register. refl; ports = refl; roots = refl }

ends_back : (gone : List ℕ) (state next : graphs.State) → AreOnce gone → EndsScope gone state next → LeavesVariables gone state next
ends_back [] state next once ends = record { memory = ends.memory; variables = ends.variables; registers = ends.registers; ports = ends.ports; roots = ends.roots }
ends_back (variable ∷ rest) state next (once, later) (middle, one, ends) =
    let left = ends_back rest middle next later ends in record {
      memory = left.memory ∙ memory_agrees state.variables middle.variables rest middle.memory (λ at among. one.variables at ∙ others_stay state.variables variable rest once at among)
          ∙ ap (memory_left state.variables rest) one.memory;
      variables = λ at. left.variables at ∙ ap (λ (o : Option ℕ). if is_among rest at then None else o) (one.variables at) ∙ emptied_more state.variables variable rest at;
      registers = λ register. left.registers register ∙ one.registers register;
      ports = left.ports ∙ one.ports;
      roots = left.roots ∙ one.roots;
    }

-- these variables stand in the frame
abbrev pub AllStand : List ℕ → List Owned → Type 0
AllStand [] owned = Unit {0}
AllStand (variable ∷ rest) owned = IsSome (block_of owned variable) × AllStand rest owned

-- no variable of the frame is a static one
abbrev pub AreApart : State → Type 0
AreApart state = (variable : ℕ) → IsSome (block_of state.frame.variables variable) → block_of state.statics variable ≡ None

one_stands : (gone : List ℕ) (owned : List Owned) → AllStand gone owned → (variable : ℕ) → is_among gone variable ≡ true → IsSome (block_of owned variable)
one_stands [] owned all variable among = absurd (false≢true among)
one_stands (first ∷ rest) owned (here, all) variable among = by_test (nat_eq first variable) refl among (λ later. one_stands rest owned all variable later)
  where
    by_test : (b : Bool) → nat_eq first variable ≡ b → (b || is_among rest variable) ≡ true → (is_among rest variable ≡ true → IsSome (block_of owned variable)) → IsSome (block_of owned variable)
    by_test true is among later = subst (λ (v : ℕ). IsSome (block_of owned v)) (eqb-true _ _ is) here
    by_test false is among later = later among

-- The blocks that stand.

block_left : (gone : List ℕ) (owned : List Owned) (variable : ℕ) → block_of (left gone owned) variable ≡ emptied gone (block_of owned) variable
block_left gone [] variable = by_test (is_among gone variable)
  where
    by_test : (b : Bool) → ◌≡◌ {A = Option ℕ} None (if b then None else None)
    by_test true = refl
    by_test false = refl
block_left gone (first ∷ rest) variable = by_first (list_any (nat_eq first.variable) gone) refl (block_left gone rest variable)
  where
    by_same : (among : Bool) → list_any (nat_eq first.variable) gone ≡ among → (same : Bool) → nat_eq first.variable variable ≡ same → (gone_too : Bool) → is_among gone variable ≡ gone_too →
        (if among then (if gone_too then None else block_of rest variable) else (if same then Some first.block else (if gone_too then None else block_of rest variable)))
        ≡ (if gone_too then None else (if same then Some first.block else block_of rest variable))
    by_same true is true same_is true gone_is = refl
    by_same true is true same_is false gone_is = absurd (false≢true (sym gone_is ∙ sym (among_same gone variable) ∙ ap (λ (v : ℕ). list_any (nat_eq v) gone) (sym (eqb-true _ _ same_is)) ∙ is))
    by_same true is false same_is gone_too gone_is = refl
    by_same false is true same_is true gone_is = absurd (false≢true (sym is ∙ ap (λ (v : ℕ). list_any (nat_eq v) gone) (eqb-true _ _ same_is) ∙ among_same gone variable ∙ gone_is))
    by_same false is true same_is false gone_is = refl
    by_same false is false same_is gone_too gone_is = refl

    by_first : (among : Bool) → list_any (nat_eq first.variable) gone ≡ among → block_of (left gone rest) variable ≡ emptied gone (block_of rest) variable →
        block_of (if not among then first ∷ left gone rest else left gone rest) variable ≡ (if is_among gone variable then None else (if nat_eq first.variable variable then Some first.block else block_of rest variable))
    by_first true is later = later ∙ by_same true is (nat_eq first.variable variable) refl (is_among gone variable) refl
    by_first false is later =
        ap (λ (o : Option ℕ). if nat_eq first.variable variable then Some first.block else o) later ∙ by_same false is (nat_eq first.variable variable) refl (is_among gone variable) refl

-- a variable that stands is seen by its number
owned_some : (owned : List Owned) (one : Owned) → Contains owned one → IsSome (block_of owned one.variable)
owned_some [] one among = absurd (Contains-none one among)
owned_some (first ∷ rest) one among = by_test (nat_eq first.variable one.variable) refl (Contains-cases first one rest among) (λ later. owned_some rest one later)
  where
    by_test : (b : Bool) → nat_eq first.variable one.variable ≡ b → (first ≡ one) ⊎ Contains rest one → (Contains rest one → IsSome (block_of rest one.variable)) → IsSome (if b then Some first.block else block_of rest one.variable)
    by_test true is among later = refl
    by_test false is (inl same) later = absurd (false≢true (sym is ∙ eq-eqb first.variable one.variable (ap (λ (o : Owned). o.variable) same)))
    by_test false is (inr within) later = later within

kept_owned : (gone : List ℕ) (owned : List Owned) (one : Owned) → Contains (left gone owned) one → (list_any (nat_eq one.variable) gone ≡ false) × Contains owned one
kept_owned gone [] one among = absurd (Contains-none one among)
kept_owned gone (first ∷ rest) one among = by_first (list_any (nat_eq first.variable) gone) refl among (λ later. kept_owned gone rest one later)
  where
    by_first : (b : Bool) → list_any (nat_eq first.variable) gone ≡ b → Contains (if not b then first ∷ left gone rest else left gone rest) one →
        (Contains (left gone rest) one → (list_any (nat_eq one.variable) gone ≡ false) × Contains rest one) → (list_any (nat_eq one.variable) gone ≡ false) × Contains (first ∷ rest) one
    by_first true is among later = let it = later among in (it.0, Contains-later first one rest it.1)
    by_first false is among later = by_cases (Contains-cases first one (left gone rest) among)
      where
        by_cases : (first ≡ one) ⊎ Contains (left gone rest) one → (list_any (nat_eq one.variable) gone ≡ false) × Contains (first ∷ rest) one
        by_cases (inl same) = (ap (λ (o : Owned). list_any (nat_eq o.variable) gone) (sym same) ∙ is, subst (Contains (first ∷ rest)) same (Contains-first first rest))
        by_cases (inr within) = let it = later within in (it.0, Contains-later first one rest it.1)

-- The memory.

memory_same : (gone : List ℕ) (state : State) (memory : List Block) → AllStand gone state.frame.variables → without_variables state.frame.variables gone memory ≡ memory_left (block_here state) gone memory
memory_same [] state memory all = refl
memory_same (variable ∷ rest) state memory (here, all) =
    memory_same rest state (machine.without_block (block_of state.frame.variables variable) memory) all
    ∙ ap (memory_left (block_here state) rest) (one_same (block_of state.frame.variables variable))
    ∙ ap (λ (o : Option ℕ). memory_left (block_here state) rest (ending.without_block o memory)) (by_block (block_of state.frame.variables variable) here)
  where
    by_block : (found : Option ℕ) → IsSome found → found ≡ or_else found (block_of state.statics variable)
    by_block None some = absurd (false≢true some)
    by_block (Some block) some = refl

    one_same : (found : Option ℕ) → machine.without_block found memory ≡ ending.without_block found memory
    one_same None = refl
    one_same (Some block) = refl

here_left : (gone : List ℕ) (state : State) → AllStand gone state.frame.variables → AreApart state → (variable : ℕ) → block_here (after_scope gone state) variable ≡ emptied gone (block_here state) variable
here_left gone state all apart variable = ap (λ (o : Option ℕ). or_else o (block_of state.statics variable)) (block_left gone state.frame.variables variable) ∙ by_test (is_among gone variable) refl
  where
    by_test : (b : Bool) → is_among gone variable ≡ b →
        or_else (if b then None else block_of state.frame.variables variable) (block_of state.statics variable) ≡ (if b then None else or_else (block_of state.frame.variables variable) (block_of state.statics variable))
    by_test true is = apart variable (one_stands gone state.frame.variables all variable is)
    by_test false is = refl

module _ (flow : Flow) (sizes : ℕ → ℕ) (ports : List Word) (to : ℕ) (place : Place) (state : State) (shows : ShowsAll state) (apart : AreApart state) (gone : List ℕ) (all : AllStand gone state.frame.variables) (once : AreOnce gone) where
  abbrev behind : State
  behind = at to (after_scope gone state)

  leaves : LeavesVariables gone (seen ports state) (seen ports behind)
  leaves = record {
    memory = memory_same gone state state.memory all;
    variables = here_left gone state all apart;
    registers = λ register. refl;
    ports = refl;
    roots = refl;
  }

  shows_behind : ShowsAll behind
  shows_behind = record {
    variables = λ one among.
        let it = kept_owned gone state.frame.variables one among in
        block_left gone state.frame.variables one.variable ∙ ap (λ (b : Bool). if b then None else block_of state.frame.variables one.variable) (sym (among_same gone one.variable) ∙ it.0) ∙ shows.variables one it.1;
    statics = λ one among. here_left gone state all apart one.variable ∙ by_test one among (is_among gone one.variable) refl;
    registers = shows.registers;
  }
    where
      by_test : (one : Owned) → Contains state.statics one → (b : Bool) → is_among gone one.variable ≡ b → (if b then None else block_here state one.variable) ≡ Some one.block
      by_test one among true is =
          absurd (false≢true (subst (λ (o : Option ℕ). IsSome o) (apart one.variable (one_stands gone state.frame.variables all one.variable is)) (owned_some state.statics one among)))
      by_test one among false is = shows.statics one among

  pub there_leave : (choices : List Choice) → Right flow sizes ports to place state choices (Leave gone)
  there_leave choices =
      right_if (λ next. LeavesScope gone (seen ports state) (seen ports next)) (λ kind. FaultsLeaving gone kind (seen ports state)) place (is_lost behind.memory (roots behind)) (Faulted memory_lost place) (Went behind choices)
      (λ lost. (record { next = seen ports behind; ends = ends_there gone (seen ports state) (seen ports behind) once leaves; some = lost_there ports behind shows_behind lost }, refl))
      (λ none. record { ends = ends_there gone (seen ports state) (seen ports behind) once leaves; none = none_there ports behind shows_behind none })

  same_behind : (after : graphs.State) → LeavesVariables gone (seen ports state) after → IsSame (seen ports behind) after
  same_behind after left = record {
    memory = left.memory ∙ sym leaves.memory;
    variables = λ variable. left.variables variable ∙ sym (leaves.variables variable);
    registers = λ register. left.registers register;
    ports = left.ports;
    roots = left.roots;
  }

  pub back_leave : (others : List Choice) (after : graphs.State) → LeavesScope gone (seen ports state) after → Comes flow (Leave gone) ports to place state others after
  back_leave others after left = record {
    choices = others;
    next = behind;
    goes = if_is_not (is_lost behind.memory (roots behind)) (Faulted memory_lost place) (Went behind others)
        (none_back ports behind shows_behind (λ number lost. left.none number (lost_same (seen ports behind) after (same_behind after (ends_back gone (seen ports state) after once left.ends)) number lost)));
    same = same_behind after (ends_back gone (seen ports state) after once left.ends);
  }

  pub faults_leave : (others : List Choice) (kind : ℕ) → FaultsLeaving gone kind (seen ports state) → Meets flow (Leave gone) to place state kind
  faults_leave others kind faults = record {
    choices = others;
    faults = if_is (is_lost behind.memory (roots behind)) (Faulted memory_lost place) (Went behind others)
        (lost_back ports behind shows_behind faults.some.number
        (lost_same faults.next (seen ports behind) (same_back (seen ports behind) faults.next (same_behind faults.next (ends_back gone (seen ports state) faults.next once faults.ends))) faults.some.number faults.some.lost))
        ∙ ap (λ (k : ℕ). Faulted k place) (sym faults.some.is);
  }
