-- The end of a full expression, and the end of a program.
use Rattle.std.proofs.Common.{◌≡◌, ℕ, Bool, true, false, not, List, [], ◌∷◌, nat_eq, Some, ◌⊎◌, inl, inr, refl, sym, ◌∙◌, ap, subst, eqb-true}
use Rattle.std.specs.Prelude.{Contains, if◌then◌else◌}
use Rattle.std.specs.List.{list_any}
use Rattle.std.proofs.lemmas.Bool.{false≢true}
use Rattle.cbase.specs.declared.place.Place.{Place}
use Rattle.bytes_core.specs.declared.block.Block.{Block}
use Rattle.bytes_core.specs.declared.word.Word.{Word}
use Rattle.bytes_core.specs.Fault.{memory_lost, block_never_freed}
use Rattle.bytes_core.specs.Loss.{is_lost, Chain, Root, Link}
use Rattle.bytes_core.proofs.Chains.{lost_by_chains}
use Rattle.choices.specs.declared.choice.Choice.{Choice}
use Rattle.graph.specs.State as graphs
use Rattle.flow.specs.declared.flow_graph.Flow.{Flow}
use Rattle.flow.specs.declared.instruction.Instr.TheVariants.{Finish, Close}
use Rattle.flow.specs.Holding.{Held, held_by}
use Rattle.flow.specs.Holding as holding
use Rattle.flow.specs.Machine.{State, Went, Faulted, at, without_registers, roots}
use Rattle.changes.specs.Following.{Leaves}
use Rattle.changes.specs.Parts.{emptied}
use Rattle.heap_steps.specs.Closing.{HasHeapBlock, Closes, FaultsClosing}
use Rattle.heap_steps.specs.Steps.{Finishes, FaultsFinishing}
use Rattle.edge_steps.specs.Seen.{words_of, seen, IsSame, ShowsAll}
use Rattle.edge_steps.proofs.Back.{Comes, Meets, if_is, if_is_not}
use Rattle.edge_steps.proofs.Chains.{Contains-none, Contains-first, Contains-later, Contains-cases, lost_there, none_there, none_back, lost_back, same_back, lost_same}
use Rattle.edge_steps.proofs.Outcomes.{right_if}
use Rattle.edge_steps.proofs.Registers.{leaves_without, same_left, seen_leaves}
use Rattle.edge_steps.proofs.There.{Right}

-- Registers that are emptied: the others are seen as before.

kept_held : (gone : List ℕ) (registers : List Held) (held : Held) → Contains (holding.emptied gone registers) held → (list_any (nat_eq held.register) gone ≡ false) × Contains registers held
kept_held gone [] held among = absurd (Contains-none held among)
kept_held gone (first ∷ rest) held among = by_first (list_any (nat_eq first.register) gone) refl among (λ later. kept_held gone rest held later)
  where
    by_first : (b : Bool) → list_any (nat_eq first.register) gone ≡ b → Contains (if not b then first ∷ holding.emptied gone rest else holding.emptied gone rest) held →
        (Contains (holding.emptied gone rest) held → (list_any (nat_eq held.register) gone ≡ false) × Contains rest held) → (list_any (nat_eq held.register) gone ≡ false) × Contains (first ∷ rest) held
    by_first true is among later = let it = later among in (it.0, Contains-later first held rest it.1)
    by_first false is among later = by_cases (Contains-cases first held (holding.emptied gone rest) among)
      where
        by_cases : (first ≡ held) ⊎ Contains (holding.emptied gone rest) held → (list_any (nat_eq held.register) gone ≡ false) × Contains (first ∷ rest) held
        by_cases (inl same) = (ap (λ (h : Held). list_any (nat_eq h.register) gone) (sym same) ∙ is, subst (Contains (first ∷ rest)) same (Contains-first first rest))
        by_cases (inr within) = let it = later within in (it.0, Contains-later first held rest it.1)

held_kept : (gone : List ℕ) (registers : List Held) (register : ℕ) → list_any (nat_eq register) gone ≡ false → held_by (holding.emptied gone registers) register ≡ held_by registers register
held_kept gone [] register kept = refl
held_kept gone (first ∷ rest) register kept = by_first (list_any (nat_eq first.register) gone) refl (nat_eq first.register register) refl (held_kept gone rest register kept)
  where
    by_first : (b : Bool) → list_any (nat_eq first.register) gone ≡ b → (same : Bool) → nat_eq first.register register ≡ same → held_by (holding.emptied gone rest) register ≡ held_by rest register →
        held_by (if not b then first ∷ holding.emptied gone rest else holding.emptied gone rest) register ≡ (if same then Some first else held_by rest register)
    by_first true is true same later = absurd (false≢true (sym kept ∙ ap (λ (r : ℕ). list_any (nat_eq r) gone) (sym (eqb-true _ _ same)) ∙ is))
    by_first true is false same later = later
    by_first false is true same later = ap (λ (b : Bool). if b then Some first else held_by (holding.emptied gone rest) register) same
    by_first false is false same later = ap (λ (b : Bool). if b then Some first else held_by (holding.emptied gone rest) register) same ∙ later

pub shows_without : (gone : List ℕ) (to : ℕ) (state : State) → ShowsAll state → ShowsAll (at to (without_registers gone state))
shows_without gone to state shows = record {
  variables = shows.variables;
  statics = shows.statics;
  registers = λ held among.
      let it = kept_held gone state.frame.registers held among in held_kept gone state.frame.registers held.register it.0 ∙ shows.registers held it.1;
}

module _ (flow : Flow) (sizes : ℕ → ℕ) (ports : List Word) (to : ℕ) (place : Place) (state : State) (shows : ShowsAll state) where
  abbrev emptied_state : List ℕ → State
  emptied_state gone = at to (without_registers gone state)

  -- The end of a full expression.

  pub there_finish : (choices : List Choice) (gone : List ℕ) → Right flow sizes ports to place state choices (Finish gone)
  there_finish choices gone =
      right_if (λ next. Finishes gone (seen ports state) (seen ports next)) (λ kind. FaultsFinishing gone kind (seen ports state)) place (is_lost (emptied_state gone).memory (roots (emptied_state gone)))
      (Faulted memory_lost place) (Went (emptied_state gone) choices)
      (λ lost. (
        record {
          next = seen ports (emptied_state gone);
          leaves = leaves_without ports to state gone;
          some = lost_there ports (emptied_state gone) (shows_without gone to state shows) lost;
        },
        refl,
      ))
      (λ none. record { leaves = leaves_without ports to state gone; none = none_there ports (emptied_state gone) (shows_without gone to state shows) none })

  same_finish : (gone : List ℕ) (after : graphs.State) → Leaves state.memory (emptied gone (words_of state.frame.registers)) (seen ports state) after → IsSame (seen ports (emptied_state gone)) after
  same_finish gone after leaves = same_left state.memory (emptied gone (words_of state.frame.registers)) (seen ports state) (seen ports (emptied_state gone)) after (leaves_without ports to state gone) leaves

  pub back_finish : (others : List Choice) (after : graphs.State) (gone : List ℕ) → Finishes gone (seen ports state) after → Comes flow (Finish gone) ports to place state others after
  back_finish others after gone finishes = record {
    choices = others;
    next = emptied_state gone;
    goes = if_is_not (is_lost (emptied_state gone).memory (roots (emptied_state gone))) (Faulted memory_lost place) (Went (emptied_state gone) others)
        (none_back ports (emptied_state gone) (shows_without gone to state shows)
        (λ number lost. finishes.none number (lost_same (seen ports (emptied_state gone)) after (same_finish gone after finishes.leaves) number lost)));
    same = same_finish gone after finishes.leaves;
  }

  pub faults_finish : (others : List Choice) (kind : ℕ) (gone : List ℕ) → FaultsFinishing gone kind (seen ports state) → Meets flow (Finish gone) to place state kind
  faults_finish others kind gone faults = record {
    choices = others;
    faults = if_is (is_lost (emptied_state gone).memory (roots (emptied_state gone))) (Faulted memory_lost place) (Went (emptied_state gone) others)
        (lost_back ports (emptied_state gone) (shows_without gone to state shows) faults.some.number
        (lost_same faults.next (seen ports (emptied_state gone)) (same_back (seen ports (emptied_state gone)) faults.next (same_finish gone faults.next faults.leaves)) faults.some.number faults.some.lost))
        ∙ ap (λ (k : ℕ). Faulted k place) (sym faults.some.is);
  }

-- The end of a program.

no_chain : (memory : List Block) (number : ℕ) → Chain memory [] number → ⊥
no_chain memory _ (Root number among) = Contains-none number among
no_chain memory _ (Link number target block chain stands live holds) = no_chain memory number chain

module _ (flow : Flow) (sizes : ℕ → ℕ) (ports : List Word) (to : ℕ) (place : Place) (state : State) where
  heap_there : is_lost state.memory [] ≡ true → HasHeapBlock (seen ports state)
  heap_there lost = let found = (lost_by_chains state.memory []).0 lost in record { number = found.0; block = found.1; stands = found.2.stands; live = found.2.live; heap = found.2.allocated }

  heap_back : HasHeapBlock (seen ports state) → is_lost state.memory [] ≡ true
  heap_back has =
      (lost_by_chains state.memory []).1 (has.number, has.block, record { stands = has.stands; allocated = has.heap; live = has.live; unreached = no_chain state.memory has.number })

  leaves_all : Leaves state.memory (words_of state.frame.registers) (seen ports state) (seen ports (at to state))
  leaves_all = seen_leaves ports state (at to state) state.memory (words_of state.frame.registers) refl (λ register. refl) (λ variable. refl) refl

  pub there_close : (choices : List Choice) → Right flow sizes ports to place state choices Close
  there_close choices =
      right_if (λ next. Closes (seen ports state) (seen ports next)) (λ kind. FaultsClosing kind (seen ports state)) place (is_lost state.memory []) (Faulted block_never_freed place) (Went (at to state) choices)
      (λ lost. (record { some = heap_there lost; is = refl }, refl))
      (λ none. record { none = λ has. false≢true (sym none ∙ heap_back has); leaves = leaves_all })

  pub back_close : (others : List Choice) (after : graphs.State) → Closes (seen ports state) after → Comes flow Close ports to place state others after
  back_close others after closes = record {
    choices = others;
    next = at to state;
    goes = if_is_not (is_lost state.memory []) (Faulted block_never_freed place) (Went (at to state) others) (by_test (is_lost state.memory []) refl);
    same = same_left state.memory (words_of state.frame.registers) (seen ports state) (seen ports (at to state)) after leaves_all closes.leaves;
  }
    where
      by_test : (b : Bool) → is_lost state.memory [] ≡ b → b ≡ false
      by_test false is = refl
      by_test true is = absurd (closes.none (heap_there is))

  pub faults_close : (others : List Choice) (kind : ℕ) → FaultsClosing kind (seen ports state) → Meets flow Close to place state kind
  faults_close others kind faults = record {
    choices = others;
    faults = if_is (is_lost state.memory []) (Faulted block_never_freed place) (Went (at to state) others) (heap_back faults.some) ∙ ap (λ (k : ℕ). Faulted k place) (sym faults.is);
  }
