-- What is seen of a state of a run is a state of graphs; so posts speak of the flow machine.
use Rattle.std.proofs.Common.{◌≡◌, ℕ, ◌^◌, ◌<◌, true, ◌&&◌, List, [], ◌∷◌, ◌++◌, map, length, Option, None, Some, ◌⊎◌, inl, inr, refl, sym, ◌∙◌, ap, subst, arith}
use Rattle.std.specs.Prelude.{IsTrue, Contains, All, slice_get}
use Rattle.std.specs.List.{list_all}
use Rattle.std.specs.Option.{option_map_or}
use Rattle.std.proofs.lemmas.List.Elements.{All-nil, All-contains}
use Rattle.std.proofs.lemmas.Option.{slice_get_within}
use Rattle.bytes_core.specs.declared.block.Block.{Block}
use Rattle.bytes_core.specs.declared.word.Word.{Word}
use Rattle.bytes_core.specs.declared.word.Word.TheVariants.{Plain, To}
use Rattle.graph.specs.State.{IsState, IsWordBelow, IsLedTo}
use Rattle.graph.proofs.Scalars.{power_scalar}
use Rattle.graph.proofs.Tests.{and_left, and_right}
use Rattle.flow.specs.declared.flow_graph.Flow.{Flow}
use Rattle.flow.specs.declared.flow_graph.FlowEdge.{FlowEdge}
use Rattle.flow.specs.declared.flow_graph.Standing.{Standing}
use Rattle.flow.specs.declared.flow_graph.Width.{Width}
use Rattle.flow.specs.Fitting.{FitsSize, Fits}
use Rattle.flow.specs.Holding.{Held, Owned, width, block_of}
use Rattle.flow.specs.Machine.{State, or_else, caller_roots}
use Rattle.flow.specs.Memories.{HasBlock, LeadsBelow}
use Rattle.flow.specs.Standing.{stands_at}
use Rattle.flow.specs.Valid.{ascend, is_scalar_size}
use Rattle.flow.proofs.Ascending.{All-at}
use Rattle.edge_steps.specs.Laws.{IsAtEdge}
use Rattle.edge_steps.specs.Seen.{seen}
use Rattle.edge_steps.proofs.Back.{held_of}
use Rattle.edge_steps.proofs.Chains.{Contains-none, Contains-cases, found_owned, found_held}
use Rattle.edge_steps.proofs.SeenSteps.{seen_steps}
use Rattle.transfer.specs.Machine.{ArePostsSound}

-- the widths of what registers hold
scalar_width : (registers : List Held) (held : Held) → list_all (λ (w : Width). is_scalar_size w.size) (map width registers) ≡ true → Contains registers held → is_scalar_size held.size ≡ true
scalar_width [] held all among = absurd (Contains-none held among)
scalar_width (first ∷ rest) held all among =
    by_cases (Contains-cases first held rest among) (λ later. scalar_width rest held (and_right (is_scalar_size first.size) (list_all (λ (w : Width). is_scalar_size w.size) (map width rest)) all) later)
  where
    by_cases : (first ≡ held) ⊎ Contains rest held → (Contains rest held → is_scalar_size held.size ≡ true) → is_scalar_size held.size ≡ true
    by_cases (inl same) later = ap (λ (h : Held). is_scalar_size h.size) (sym same) ∙ and_left (is_scalar_size first.size) (list_all (λ (w : Width). is_scalar_size w.size) (map width rest)) all
    by_cases (inr within) later = later within

pub at_point : (P : Standing → Type 0) (flow : Flow) (point : ℕ) → P (record { variables = []; registers = [] }) → All P flow.stands → P (stands_at flow point)
at_point P flow point none all = by_found (slice_get flow.stands point) refl
  where
    by_found : (found : Option Standing) → slice_get flow.stands point ≡ found → P (option_map_or (λ standing. standing) found (record { variables = []; registers = [] }))
    by_found None is = none
    by_found (Some standing) is = All-at P flow.stands point standing is all

word_below : (count size : ℕ) (word : Word) → is_scalar_size size ≡ true → FitsSize size word → LeadsBelow count word → IsWordBelow count word
word_below count size (Plain number) scalar fits leads = let most = (power_scalar size scalar).1 in let small : number < 256 ^ size = fits in record { small = omega arith; named = tt }
word_below count size (To block offset) scalar fits leads = record { small = tt; named = leads.0 }

owned_below : (flow : Flow) (memory : List Block) (owned : List Owned) (variable block : ℕ) → All (HasBlock flow memory) owned → block_of owned variable ≡ Some block → block < length memory
owned_below flow memory owned variable block all is =
    let has = found_owned owned variable block is in
    let there = All-contains (HasBlock flow memory) owned has.one all has.among in
    subst (λ (n : ℕ). n < length memory) has.is (slice_get_within memory has.one.block there.block there.stands)

module _ (flow : Flow) (edge : FlowEdge) (state : State) (at_edge : IsAtEdge flow edge state) (callers : state.callers ≡ []) (outer : state.outer ≡ []) where
  widths_scalar : list_all (λ (w : Width). is_scalar_size w.size) (map width state.frame.registers) ≡ true
  widths_scalar =
      ap (list_all (λ (w : Width). is_scalar_size w.size)) at_edge.runs.stands.frame.registers
      ∙ and_right (ascend (map (λ (w : Width). w.register) (stands_at flow state.point).registers)) (list_all (λ (w : Width). is_scalar_size w.size) (stands_at flow state.point).registers)
      (at_point (λ s. IsTrue (ascend (map (λ (w : Width). w.register) s.registers) && list_all (λ (w : Width). is_scalar_size w.size) s.registers)) flow state.point refl at_edge.flow_is.standing_registers)

  no_roots : caller_roots state.callers ++ state.outer ≡ []
  no_roots = ap (λ (cs : List _). caller_roots cs ++ state.outer) callers ∙ outer

  pub seen_state : IsState (seen [] state)
  seen_state = record {
    memory = at_edge.runs.leads.memory;
    bytes = at_edge.runs.fits.memory;
    variables = λ variable number is. by_frame variable number (block_of state.frame.variables variable) refl is;
    registers = λ register word is.
        let held = held_of state.frame.registers register word is in
        let among = found_held state.frame.registers register held.0 held.1 in
        subst (IsWordBelow (length state.memory)) held.2
        (word_below (length state.memory) held.0.size held.0.word (scalar_width state.frame.registers held.0 widths_scalar among)
        (All-contains Fits state.frame.registers held.0 at_edge.runs.fits.registers among)
        (All-contains (λ (h : Held). LeadsBelow (length state.memory) h.word) state.frame.registers held.0 at_edge.runs.leads.frame.registers among));
    ports = All-nil (IsWordBelow (length state.memory));
    roots = subst (λ (roots : List ℕ). All (IsLedTo []) roots) (sym no_roots) (All-nil (IsLedTo []));
  }
    where
      by_frame : (variable number : ℕ) (found : Option ℕ) → block_of state.frame.variables variable ≡ found → or_else found (block_of state.statics variable) ≡ Some number → number < length state.memory
      by_frame variable number None found is = owned_below flow state.memory state.statics variable number at_edge.runs.leads.statics is
      by_frame variable number (Some block) found is = owned_below flow state.memory state.frame.variables variable number at_edge.runs.leads.frame.variables (found ∙ is)

pub posts_sound : ArePostsSound
posts_sound = record {
  steps = λ flow edge parts post state next choices others means here goes precise.
      means.sound (seen [] state) (seen [] next) (seen_state flow edge state here.at_edge here.callers here.outer) here.stands (seen_steps.steps flow edge [] state next choices others here.at_edge goes) precise;
  faults = λ flow edge parts post state choices kind place means here goes.
      means.kinds (seen [] state) kind (seen_state flow edge state here.at_edge here.callers here.outer) here.stands (seen_steps.faults flow edge [] state choices kind place here.at_edge goes);
}
