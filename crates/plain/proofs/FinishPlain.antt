-- Nothing leads anywhere in a graph that shows a state, so a look for lost blocks names no loss: the end of a full expression.
use Rattle.std.proofs.Common.{◌≡◌, ℕ, suc, ◌+◌, Bool, true, false, ◌&&◌, ◌||◌, List, [], ◌∷◌, get_or, nat_lt, Option, None, Some, refl, sym, ◌∙◌, ap, subst, arith}
use Rattle.std.specs.Prelude.{slice_get, Contains}
use Rattle.std.specs.List.{list_all, list_any}
use Rattle.std.specs.Option.{option_map_or}
use Rattle.std.proofs.lemmas.Bool.{false≢true}
use Rattle.graph.specs.declared.edges.HasValue.{HasValue}
use Rattle.graph.specs.declared.object.Object.{Object}
use Rattle.graph.specs.declared.object.Shape.{Shape}
use Rattle.graph.specs.declared.object.Shape.TheVariants.{Region, Segment}
use Rattle.graph.specs.declared.parts.Held.{Held}
use Rattle.graph.specs.declared.parts.KeyedObject.{KeyedObject}
use Rattle.graph.specs.declared.parts.Parts.{Parts}
use Rattle.graph.specs.declared.value.Value.{Value}
use Rattle.graph.specs.declared.value.Value.TheVariants.{Const, Number, Any, Address}
use Rattle.graph.specs.Choices.{is_free}
use Rattle.graph.specs.Maps.{object_at, value_at}
use Rattle.graph.specs.Meaning.{Assignment}
use Rattle.graph.specs.Nodes.{is_region, own_node, node_in, node_of}
use Rattle.graph.specs.State.{State, IsState}
use Rattle.graph.specs.WellFormed.{passes_at}
use Rattle.graph.specs.Whole.{IsGraph}
use Rattle.graph.proofs.Found.{found-all}
use Rattle.changes.specs.Following.{Leaves}
use Rattle.changes.specs.Parts.{without_registers, emptied as emptied_registers}
use Rattle.changes.proofs.Emptied.{emptied_state}
use Rattle.changes.proofs.Reached.{none_in}
use Rattle.changes.proofs.RegisterForm.{graph_without}
use Rattle.flow.specs.declared.instruction.Instr.TheVariants.{Finish}
use Rattle.heap_steps.specs.Looking.{loses_some, looked_by, looked}
use Rattle.heap_steps.specs.Posts.{finish_post}
use Rattle.heap_steps.specs.Steps.{LosesNone, Finishes}
use Rattle.heap_steps.specs.Unreached.{has_loose_byte, is_any, edges_hold_any, objects_hold_any, holds_any, some_loose, may_lead_anywhere}
use Rattle.heap_steps.proofs.Entries.{found_entry}
use Rattle.heap_steps.proofs.Looked.{looked_sound}
use Rattle.heap_steps.proofs.Loses.{object_there}
use Rattle.plain.specs.Marks.{Marks}
use Rattle.plain.specs.Shown.{is_sure, may_show, IsShownBy, IsShown}
use Rattle.plain.specs.Laws.{GoesPlainly}
use Rattle.plain.proofs.Reaches.{IsPlainPosted, plain_post}
use Rattle.plain.proofs.Registers.{emptied_marks, emptied_shown}

any_none : {X : Type 0} (test : X → Bool) (xs : List X) → ((place : ℕ) (x : X) → slice_get xs place ≡ Some x → test x ≡ false) → list_any test xs ≡ false
any_none test [] none = refl
any_none test (x ∷ rest) none = ap (λ (b : Bool). b || list_any test rest) (none 0 x refl) ∙ any_none test rest (λ place y is. none (suc place) y is)

loose_none : (edges : List HasValue) (place : ℕ) (plane : List ℕ) → ((i : ℕ) → (nat_lt 1 (get_or plane i 0) && is_free edges (place + i)) ≡ false) → has_loose_byte edges place plane ≡ false
loose_none edges place [] none = refl
loose_none edges place (class ∷ rest) none =
    ap (λ (b : Bool). b || has_loose_byte edges (place + 1) rest) (ap (λ (n : ℕ). nat_lt 1 class && is_free edges n) (let e : place ≡ place + 0 = omega arith in e) ∙ none 0)
    ∙ loose_none edges (place + 1) rest (λ i. ap (λ (n : ℕ). nat_lt 1 (get_or rest i 0) && is_free edges n) (let e : place + 1 + i ≡ place + suc i = omega arith in e) ∙ none (suc i))

region_node : (object : Object) → is_region object.shape ≡ true → node_of object ≡ own_node object
region_node object region = by_shape object.shape region
  where
    by_shape : (shape : Shape) → is_region shape ≡ true → node_in shape (own_node object) ≡ own_node object
    by_shape Region region = refl
    by_shape (Segment twofold head next prev back least next_value prev_value node) region = absurd (false≢true region)

shown_no_any : (flag : Bool) (value : Value) → may_show flag value ≡ true → is_any value ≡ false
shown_no_any flag (Const number size) shows = refl
shown_no_any flag (Number size) shows = refl
shown_no_any true Any shows = absurd (false≢true shows)
shown_no_any false Any shows = absurd (false≢true shows)
shown_no_any flag (Address object offset target) shows = refl

passes_no_any : (parts : Parts) (flag : Bool) (key : ℕ) → passes_at parts (may_show flag) key ≡ true → passes_at parts is_any key ≡ false
passes_no_any parts flag key passes = by_value (value_at parts.values key) passes
  where
    by_value : (found : Option Value) → option_map_or (may_show flag) found false ≡ true → option_map_or is_any found false ≡ false
    by_value None shows = refl
    by_value (Some value) shows = shown_no_any flag value shows

edges_no_any : (parts : Parts) (edges : List HasValue) → list_all (λ (edge : HasValue). passes_at parts is_sure edge.value) edges ≡ true → edges_hold_any parts edges ≡ false
edges_no_any parts [] sure = refl
edges_no_any parts (edge ∷ rest) sure = by_first (passes_at parts is_sure edge.value) refl sure (λ later. edges_no_any parts rest later)
  where
    by_first : (b : Bool) → passes_at parts is_sure edge.value ≡ b → (b && list_all (λ (edge : HasValue). passes_at parts is_sure edge.value) rest) ≡ true → (list_all (λ (edge : HasValue). passes_at parts is_sure edge.value) rest ≡ true → edges_hold_any parts rest ≡ false) →
        edges_hold_any parts (edge ∷ rest) ≡ false
    by_first true is all later = ap (λ (b : Bool). b || edges_hold_any parts rest) (passes_no_any parts false edge.value is) ∙ later all
    by_first false is all later = absurd (false≢true all)

module _ (parts : Parts) (graph : IsGraph parts) (regions : list_all (λ (entry : KeyedObject). is_region entry.object.shape) parts.objects ≡ true) (ports : parts.ports ≡ []) (state : State) (marks : Marks) (given : Assignment)
    (shown : IsShownBy parts state marks given) where
  region_at : (key : ℕ) (object : Object) → object_at parts.objects key ≡ Some object → node_of object ≡ own_node object
  region_at key object is = region_node object (found-all (λ (entry : KeyedObject). entry.key) (λ entry. entry.object) (λ (o : Object). is_region o.shape) parts.objects key object regions is)

  no_loose : some_loose parts ≡ false
  no_loose = any_none (λ (entry : KeyedObject). has_loose_byte (node_of entry.object).edges 0 (node_of entry.object).plane) parts.objects (λ place entry is.
      let stands = object_there parts graph place entry is in
      ap (λ (node : _). has_loose_byte node.edges 0 node.plane) (region_at entry.key entry.object stands)
      ∙ loose_none entry.object.edges 0 entry.object.plane (λ i. ap (λ (n : ℕ). nat_lt 1 (get_or entry.object.plane i 0) && is_free entry.object.edges n) (let e : 0 + i ≡ i = omega arith in e) ∙ shown.tight entry.key i entry.object stands))

  no_edges : objects_hold_any parts ≡ false
  no_edges = any_none (λ (entry : KeyedObject). edges_hold_any parts (node_of entry.object).edges) parts.objects (λ place entry is.
      let stands = object_there parts graph place entry is in
      ap (λ (node : _). edges_hold_any parts node.edges) (region_at entry.key entry.object stands) ∙ edges_no_any parts entry.object.edges (shown.edges entry.key entry.object stands))

  no_registers : list_any (λ (held : Held). passes_at parts is_any held.value) parts.registers ≡ false
  no_registers = any_none (λ (held : Held). passes_at parts is_any held.value) parts.registers (λ place held is.
      passes_no_any parts (marks.input held.register) held.value
      (shown.registers held.register held.value (found_entry (λ (held : Held). held.register) (λ held. held.value) parts.registers graph.well_formed.registers_ascend place held is)))

  pub leads_nowhere : may_lead_anywhere parts ≡ false
  leads_nowhere =
      ap (λ (b : Bool). b || holds_any parts) no_loose
      ∙ ap (λ (b : Bool). b || (list_any (λ (held : Held). passes_at parts is_any held.value) parts.registers || list_any (passes_at parts is_any) parts.ports)) no_edges
      ∙ ap (λ (b : Bool). b || list_any (passes_at parts is_any) parts.ports) no_registers
      ∙ ap (list_any (passes_at parts is_any)) ports

  -- a look for lost blocks
  pub looked_plain : (Steps : State → State → Type 0) (before : State) (after : Marks) → ((next : State) → Steps before next → IsState next) → ((next : State) → Steps before next → LosesNone next) →
      ((next : State) → Steps before next → IsShown parts next after) → IsPlainPosted Steps before after (looked parts)
  looked_plain Steps before after states none shows = by_tests (loses_some parts) refl (may_lead_anywhere parts) leads_nowhere
    where
      by_tests : (a : Bool) → loses_some parts ≡ a → (b : Bool) → b ≡ false → IsPlainPosted Steps before after (looked_by parts a b)
      by_tests false some b nowhere = record { loss = refl; single = omega arith; shows = λ next steps. record { graph = parts; among = (0, omega arith, refl); shown = shows next steps } }
      by_tests true some true nowhere = absurd (false≢true (sym nowhere))
      by_tests true some false nowhere = record {
        loss = refl;
        single = omega arith;
        shows = λ next steps.
            let shown' = shows next steps in
            let found = looked_sound parts graph next (states next steps) (record { given = shown'.given; meets = shown'.by.meets }) (none next steps) in
            none_in found.graph (subst (λ (graphs : List Parts). Contains graphs found.graph)
            (ap (λ (b : Bool). (looked_by parts b (may_lead_anywhere parts)).graphs) some ∙ ap (λ (b : Bool). (looked_by parts true b).graphs) leads_nowhere) found.among);
      }

pub finish_plain : (registers : List ℕ) → GoesPlainly (Finish registers)
finish_plain registers flow point parts post state marks step =
    plain_post (Finishes registers) state (emptied_marks registers marks) (finish_post parts registers) post step.posted
    (looked_plain (without_registers registers parts) (graph_without registers parts step.graph) step.fits.regions step.fits.ports emptied (emptied_marks registers marks) step.shown.given
    (emptied_shown parts state marks step.shown.given step.shown.by registers emptied emptied_leaves) (Finishes registers) state (emptied_marks registers marks)
    (λ next steps. emptied_state registers parts step.graph state next step.is steps.leaves)
    (λ next steps. steps.none)
    (λ next steps. record { given = step.shown.given; by = emptied_shown parts state marks step.shown.given step.shown.by registers next steps.leaves }))
  where
    emptied : State
    emptied = record state { registers = emptied_registers registers state.registers }

    emptied_leaves : Leaves state.memory (emptied_registers registers state.registers) state emptied
    emptied_leaves = record { memory = refl; registers = λ register. refl; variables = λ variable. refl; ports = refl; roots = refl }
