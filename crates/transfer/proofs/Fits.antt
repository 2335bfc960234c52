-- The graphs of a post fit the end of the edge: what each step leaves of a graph is what stands behind its instruction.
use Rattle.std.proofs.Common.{◌≡◌, ℕ, ◌<◌, get_or, length, Bool, true, false, ◌&&◌, List, [], ◌∷◌, map, nat_eq, Option, None, Some, refl, sym, ◌∙◌, ap, subst}
use Rattle.std.specs.Prelude.{Result, Ok, Err, IfOk, IfErr, IfSome, IsTrue, Contains, slice_get, option_map, if◌then◌else◌}
use Rattle.std.specs.List.{list_all, list_any}
use Rattle.std.specs.Option.{option_map_or}
use Rattle.std.proofs.lemmas.Bool.{false≢true}
use Rattle.std.proofs.lemmas.Option.{slice_get-get_or}
use Rattle.cbase.specs.declared.no_memory.NoMemory.{NoMemory}
use Rattle.cbase.specs.declared.stop.Stop.{Stop}
use Rattle.cbase.specs.declared.stop.Stop.TheVariants as stops
use Rattle.arithmetic.specs.declared.op.Op.{Op}
use Rattle.arithmetic.specs.declared.op.Op.TheVariants.{Add, Sub, Mul, Div, Rem, And, Or, Xor, Left, Right, Less, LessEqual}
use Rattle.bytes_core.specs.declared.block.Block.{Block}
use Rattle.graph.specs.State as graphs
use Rattle.graph.specs.declared.parts.Parts.{Parts}
use Rattle.graph.specs.declared.post.Post.{Post}
use Rattle.graph.specs.Whole.{IsGraph}
use Rattle.graph.proofs.Tests.{and_right}
use Rattle.changes.specs.Following.{StepMeans, WriteTail}
use Rattle.changes.specs.FollowingAlike.{StepMeansAlike}
use Rattle.changes.specs.Parts.{without_registers}
use Rattle.changes.specs.Posted.{IsPost}
use Rattle.changes.proofs.Reached.{only_one}
use Rattle.flow.specs.declared.flow_graph.Flow.{Flow}
use Rattle.flow.specs.declared.flow_graph.FlowEdge.{FlowEdge}
use Rattle.flow.specs.declared.flow_graph.Standing.{Standing}
use Rattle.flow.specs.declared.instruction.Instr.{Instr}
use Rattle.flow.specs.declared.instruction.Instr.TheVariants.{Move, Compute, AllocateNone, Allocate, Enter, Leave, Finish, Close}
use Rattle.flow.specs.Holding.{size_of, put_width, emptied_widths}
use Rattle.flow.specs.Machine.{size_in, size_after}
use Rattle.flow.specs.Standing.{Asked, any, sized, shifts, is_asked_size, stands_at, stands_after, with_filled}
use Rattle.flow.specs.Valid.{IsFlow, ascend, has_scope, is_local}
use Rattle.flow.specs.Valid as flows
use Rattle.flow.proofs.Ascending.{All-at}
use Rattle.heap_steps.specs.Leaving.{LeaveTail}
use Rattle.heap_steps.proofs.Listed.{Contains-get}
use Rattle.reinterpret.specs.Means.{ReadTail}
use Rattle.reinterpret.specs.Sameness.{EqualTail}
use Rattle.block_steps.specs.Allocating.{AllocateTail}
use Rattle.block_steps.specs.Entering.{EnterTail}
use Rattle.block_steps.specs.Releasing.{ReleaseTail}
use Rattle.register_steps.specs.Gaining.{GainTail, size_held}
use Rattle.register_steps.specs.Lines.{size_given}
use Rattle.edge_steps.specs.Laws.{sizes_at}
use Rattle.transfer.specs.Fitting.{FitAt, FitsWith, FitWith, MayFollow}
use Rattle.transfer.specs.Along.{is_full_along}
use Rattle.transfer.specs.Means.{stopped}
use Rattle.transfer.specs.Posts.{edge_post}
use Rattle.transfer.proofs.Behind.{write_fits, gain_fits, read_fits, allocate_fits, refuse_fits, equal_fits, release_fits, enter_fits, leave_fits, finish_fits, close_fits, looked_is}
use Rattle.transfer.proofs.EndMeans.{end_is}
use Rattle.transfer.proofs.Sound.{at_point}

-- what each graph of an answer leaves
abbrev Tails : (Parts → Type 0) → Post → Type 0
Tails Tail post = (after : Parts) → Contains post.graphs after → Tail after

mapped_ok : (P Q : Post → Type 0) (result : Result Post Stop) → ((post : Post) → P post → Q post) → IfOk result P → IfOk result Q
mapped_ok P Q (Ok post) f holds = f post holds
mapped_ok P Q (Err error) f holds = tt

stopped_ok : (P : Post → Type 0) (answer : Result Post NoMemory) (result : Result Post Stop) → result ≡ stopped answer → IfOk answer P → IfOk result P
stopped_ok P answer result same holds = subst (λ (r : Result Post Stop). IfOk r P) (sym same) (on_answer answer holds)
  where
    on_answer : (given : Result Post NoMemory) → IfOk given P → IfOk (stopped given) P
    on_answer (Ok post) holds = holds
    on_answer (Err error) holds = tt

-- what stands behind a move, an operation and the end of a full expression, without the detour over what is asked for
pub computes_empties : (size one other : ℕ) (shift : Bool) → map (λ (asked : Asked). asked.register) (sized size one ∷ (if shift then any other else sized size other) ∷ []) ≡ one ∷ other ∷ []
computes_empties size one other true = refl
computes_empties size one other false = refl

pub finish_empties : (registers : List ℕ) → map (λ (asked : Asked). asked.register) (map any registers) ≡ registers
finish_empties [] = refl
finish_empties (first ∷ rest) = ap (λ (rs : List ℕ). first ∷ rs) (finish_empties rest)

size_same : (op : Op) (size : ℕ) → size_after op size ≡ size_given op size
size_same Add size = refl
size_same Sub size = refl
size_same Mul size = refl
size_same Div size = refl
size_same Rem size = refl
size_same And size = refl
size_same Or size = refl
size_same Xor size = refl
size_same Left size = refl
size_same Right size = refl
size_same Less size = refl
size_same LessEqual size = refl

abbrev emptied_standing : List ℕ → Standing → Standing
emptied_standing gone standing = record { variables = standing.variables; registers = emptied_widths gone standing.registers }

abbrev filled_standing : List ℕ → ℕ → ℕ → Standing → Standing
filled_standing gone into size standing = record { variables = standing.variables; registers = put_width (record { register = into; size = size }) (emptied_widths gone standing.registers) }

module _ (flow : Flow) (point : ℕ) (instr : Instr) (parts : Parts) (may : MayFollow flow point instr parts) (graph : IsGraph parts) where
  abbrev standing : Standing
  standing = stands_at flow point

  abbrev FitIn : Result Post Stop → Type 0
  FitIn result = IfOk result (λ post. FitWith flow (stands_after flow instr (stands_at flow point)) post.graphs)

  fits : FitsWith flow standing parts
  fits = record { variables = may.fits.variables; registers = may.fits.registers; ports = may.fits.ports }

  -- of each instruction
  fit_step : (kind : Instr) (Tail : Parts → Type 0) (behind : Standing) → instr ≡ kind → stands_after flow kind standing ≡ behind → (result : Result Post Stop) → IfOk result (λ post. IsPost (edge_post flow kind parts) post) →
      IfOk result (Tails Tail) → ((after : Parts) → Contains (edge_post flow kind parts).graphs after → Tail after → FitsWith flow behind after) → FitIn result
  fit_step kind Tail behind is stands (Err error) posted tails each = tt
  fit_step kind Tail behind is stands (Ok post) posted tails each = record {
    each = λ place after there.
        let among = Contains-get post.graphs place after there in
        subst (λ (i : Instr). FitsWith flow (stands_after flow i standing) after) (sym is)
        (subst (λ (s : Standing). FitsWith flow s after) (sym stands) (each after (subst (λ (gs : List Parts). Contains gs after) posted.graphs among) (tails after among)));
  }

  plain_tails : (Steps : graphs.State → graphs.State → Type 0) (Faults : ℕ → graphs.State → Type 0) (Tail : Parts → Type 0) (result : Result Post Stop) → IfOk result (λ post. StepMeans parts Steps Faults Tail post) → IfOk result (Tails Tail)
  plain_tails Steps Faults Tail result means = mapped_ok (λ post. StepMeans parts Steps Faults Tail post) (Tails Tail) result (λ post means. means.tail) means

  alike_tails : (Steps : graphs.State → graphs.State → Type 0) (Faults : ℕ → graphs.State → Type 0) (Room : List Block → Type 0) (Tail : Parts → Type 0) (result : Result Post Stop) →
      IfOk result (λ post. StepMeansAlike parts Steps Faults Tail Room post) → IfOk result (Tails Tail)
  alike_tails Steps Faults Room Tail result means = mapped_ok (λ post. StepMeansAlike parts Steps Faults Tail Room post) (Tails Tail) result (λ post means. means.tail) means

  pub gain_fit : (Steps : graphs.State → graphs.State → Type 0) (Faults : ℕ → graphs.State → Type 0) (kind : Instr) (gone : List ℕ) (into size : ℕ) → instr ≡ kind → stands_after flow kind standing ≡ filled_standing gone into size standing →
      (answer : Result Post NoMemory) (result : Result Post Stop) → result ≡ stopped answer → IfOk answer (λ post. IsPost (edge_post flow kind parts) post) →
      IfOk answer (λ post. StepMeans parts Steps Faults (GainTail parts gone into size) post) → FitIn result
  gain_fit Steps Faults kind gone into size is stands answer result same posted means =
      fit_step kind (GainTail parts gone into size) (filled_standing gone into size standing) is stands result (stopped_ok (λ post. IsPost (edge_post flow kind parts) post) answer result same posted)
      (plain_tails Steps Faults (GainTail parts gone into size) result (stopped_ok (λ post. StepMeans parts Steps Faults (GainTail parts gone into size) post) answer result same means))
      (λ after among tail. gain_fits flow standing parts after graph fits gone into size tail)

  pub read_fit : (Steps : graphs.State → graphs.State → Type 0) (Faults : ℕ → graphs.State → Type 0) (kind : Instr) (gone : List ℕ) (into size : ℕ) → instr ≡ kind → stands_after flow kind standing ≡ filled_standing gone into size standing →
      (answer : Result Post NoMemory) (result : Result Post Stop) → result ≡ stopped answer → IfOk answer (λ post. IsPost (edge_post flow kind parts) post) →
      IfOk answer (λ post. StepMeans parts Steps Faults (ReadTail parts gone into size) post) → FitIn result
  read_fit Steps Faults kind gone into size is stands answer result same posted means =
      fit_step kind (ReadTail parts gone into size) (filled_standing gone into size standing) is stands result (stopped_ok (λ post. IsPost (edge_post flow kind parts) post) answer result same posted)
      (plain_tails Steps Faults (ReadTail parts gone into size) result (stopped_ok (λ post. StepMeans parts Steps Faults (ReadTail parts gone into size) post) answer result same means))
      (λ after among tail. read_fits flow standing parts after graph fits gone into size tail)

  -- a write, a fill, a copy
  pub write_fit : (Steps : graphs.State → graphs.State → Type 0) (Faults : ℕ → graphs.State → Type 0) (kind : Instr) (gone : List ℕ) → instr ≡ kind → stands_after flow kind standing ≡ emptied_standing gone standing →
      (result : Result Post Stop) → IfOk result (λ post. IsPost (edge_post flow kind parts) post) → IfOk result (λ post. StepMeans parts Steps Faults (WriteTail parts gone) post) → FitIn result
  write_fit Steps Faults kind gone is stands result posted means =
      fit_step kind (WriteTail parts gone) (emptied_standing gone standing) is stands result posted (plain_tails Steps Faults (WriteTail parts gone) result means)
      (λ after among tail. write_fits flow standing parts after graph fits gone tail)

  pub stopped_write_fit : (Steps : graphs.State → graphs.State → Type 0) (Faults : ℕ → graphs.State → Type 0) (kind : Instr) (gone : List ℕ) → instr ≡ kind → stands_after flow kind standing ≡ emptied_standing gone standing →
      (answer : Result Post NoMemory) (result : Result Post Stop) → result ≡ stopped answer → IfOk answer (λ post. IsPost (edge_post flow kind parts) post) →
      IfOk answer (λ post. StepMeans parts Steps Faults (WriteTail parts gone) post) → FitIn result
  stopped_write_fit Steps Faults kind gone is stands answer result same posted means = write_fit Steps Faults kind gone is stands result (stopped_ok (λ post. IsPost (edge_post flow kind parts) post) answer result same posted) (stopped_ok (λ post. StepMeans parts Steps Faults (WriteTail parts gone) post) answer result same means)

  pub equal_fit : (Steps : graphs.State → graphs.State → Type 0) (Faults : ℕ → graphs.State → Type 0) (kind : Instr) (gone : List ℕ) → instr ≡ kind → stands_after flow kind standing ≡ emptied_standing gone standing →
      (result : Result Post Stop) → IfOk result (λ post. IsPost (edge_post flow kind parts) post) → IfOk result (λ post. StepMeans parts Steps Faults (EqualTail parts gone) post) → FitIn result
  equal_fit Steps Faults kind gone is stands result posted means =
      fit_step kind (EqualTail parts gone) (emptied_standing gone standing) is stands result posted (plain_tails Steps Faults (EqualTail parts gone) result means)
      (λ after among tail. equal_fits flow standing parts after graph fits gone tail)

  pub release_fit : (Steps : graphs.State → graphs.State → Type 0) (Faults : ℕ → graphs.State → Type 0) (Room : List Block → Type 0) (kind : Instr) (gone : List ℕ) → instr ≡ kind → stands_after flow kind standing ≡ emptied_standing gone standing →
      (result : Result Post Stop) → IfOk result (λ post. IsPost (edge_post flow kind parts) post) → IfOk result (λ post. StepMeansAlike parts Steps Faults (ReleaseTail parts gone) Room post) → FitIn result
  release_fit Steps Faults Room kind gone is stands result posted means =
      fit_step kind (ReleaseTail parts gone) (emptied_standing gone standing) is stands result posted (alike_tails Steps Faults Room (ReleaseTail parts gone) result means)
      (λ after among tail. release_fits flow standing parts after graph fits gone tail)

  pub allocate_fit : (Steps : graphs.State → graphs.State → Type 0) (Faults : ℕ → graphs.State → Type 0) (Room : List Block → Type 0) (into bytes : ℕ) (zeroed : Bool) → instr ≡ Allocate into bytes zeroed →
      (result : Result Post Stop) → IfOk result (λ post. IsPost (edge_post flow (Allocate into bytes zeroed) parts) post) → IfOk result (λ post. StepMeansAlike parts Steps Faults (AllocateTail parts bytes zeroed into) Room post) → FitIn result
  allocate_fit Steps Faults Room into bytes zeroed is result posted means =
      fit_step (Allocate into bytes zeroed) (AllocateTail parts bytes zeroed into) (filled_standing [] into 8 standing) is refl result posted (alike_tails Steps Faults Room (AllocateTail parts bytes zeroed into) result means)
      (λ after among tail. allocate_fits flow standing parts after graph fits into bytes zeroed tail)

  pub refuse_fit : (into : ℕ) → instr ≡ AllocateNone into → (result : Result Post Stop) → IfOk result (λ post. IsPost (edge_post flow (AllocateNone into) parts) post) → FitIn result
  refuse_fit into is result posted =
      fit_step (AllocateNone into) (λ after. Unit {0}) (filled_standing [] into 8 standing) is refl result posted (mapped_ok (λ post. IsPost (edge_post flow (AllocateNone into) parts) post) (Tails (λ after. Unit {0})) result (λ post is after among. tt) posted)
      (λ after among tail. refuse_fits flow standing parts after graph fits into (only_one _ after among))

  pub enter_fit : (Steps : graphs.State → graphs.State → Type 0) (Faults : ℕ → graphs.State → Type 0) (Room : List Block → Type 0) (variables given : List ℕ) → instr ≡ Enter variables → given ≡ variables → (result : Result Post Stop) →
      IfOk result (λ post. IsPost (edge_post flow (Enter given) parts) post) → IfOk result (λ post. StepMeansAlike parts Steps Faults (EnterTail parts given (map (size_in flow) given)) Room post) → FitIn result
  enter_fit Steps Faults Room variables given is same result posted means =
      fit_step (Enter given) (EnterTail parts given (map (size_in flow) given)) _ (is ∙ ap Enter (sym same)) refl result posted (alike_tails Steps Faults Room (EnterTail parts given (map (size_in flow) given)) result means)
      (λ after among tail. enter_fits flow standing parts after graph fits given tail)

  -- the variables that stand are no static ones
  locals : IsFlow flow → list_all (is_local flow) standing.variables ≡ true
  locals valid =
      and_right (ascend standing.variables) (list_all (is_local flow) standing.variables)
      (at_point (λ s. IsTrue (ascend s.variables && list_all (is_local flow) s.variables)) flow point refl valid.standing_variables)

  pub leave_fit : (Steps : graphs.State → graphs.State → Type 0) (Faults : ℕ → graphs.State → Type 0) (Room : List Block → Type 0) → IsFlow flow → (variables given : List ℕ) → instr ≡ Leave variables → given ≡ variables → (result : Result Post Stop) →
      IfOk result (λ post. IsPost (edge_post flow (Leave given) parts) post) → IfOk result (λ post. StepMeansAlike parts Steps Faults (LeaveTail parts given) Room post) → FitIn result
  leave_fit Steps Faults Room valid variables given is same result posted means =
      fit_step (Leave given) (LeaveTail parts given) _ whole refl result posted (alike_tails Steps Faults Room (LeaveTail parts given) result means)
      (λ after among tail. leave_fits flow standing parts after graph fits given (locals valid)
      (and_right (flows.are_distinct given) (list_all (λ variable. list_any (nat_eq variable) standing.variables) given) (subst (λ (i : Instr). has_scope flow standing i ≡ true) whole may.scope)) tail)
    where
      whole : instr ≡ Leave given
      whole = is ∙ ap Leave (sym same)

  pub finish_fit : (registers : List ℕ) → instr ≡ Finish registers → (result : Result Post Stop) → IfOk result (λ post. IsPost (edge_post flow (Finish registers) parts) post) → FitIn result
  finish_fit registers is result posted =
      fit_step (Finish registers) (λ after. Unit {0}) (emptied_standing registers standing) is (ap (λ (gone : List ℕ). emptied_standing gone standing) (finish_empties registers)) result posted (mapped_ok (λ post. IsPost (edge_post flow (Finish registers) parts) post) (Tails (λ after. Unit {0})) result (λ post is after among. tt) posted)
      (λ after among tail. finish_fits flow standing parts after graph fits registers (looked_is (without_registers registers parts) after among))

  pub close_fit : instr ≡ Close → (result : Result Post Stop) → IfOk result (λ post. IsPost (edge_post flow Close parts) post) → FitIn result
  close_fit is result posted =
      fit_step Close (λ after. Unit {0}) (emptied_standing [] standing) is refl result posted (mapped_ok (λ post. IsPost (edge_post flow Close parts) post) (Tails (λ after. Unit {0})) result (λ post is after among. tt) posted)
      (λ after among tail. close_fits flow standing parts after graph fits (end_is parts after among))

  -- a move, by the size that its register has
  pub move_stands : (into from : ℕ) → instr ≡ Move into from → size_held parts from ≡ sizes_at flow point from → stands_after flow (Move into from) standing ≡ filled_standing [] into (size_held parts from) standing
  move_stands into from is held = by_size (size_of standing.registers from) refl
    where
      asked : option_map_or (is_asked_size None) (size_of standing.registers from) false ≡ true
      asked = and_left' (option_map_or (is_asked_size None) (size_of standing.registers from) false) true (subst (λ (i : Instr). flows.reads_what_stands flow standing i ≡ true) is may.reads)
        where
          and_left' : (one other : Bool) → (one && other) ≡ true → one ≡ true
          and_left' true other both = refl
          and_left' false other both = both

      by_size : (found : Option ℕ) → size_of standing.registers from ≡ found → stands_after flow (Move into from) standing ≡ filled_standing [] into (size_held parts from) standing
      by_size None none = absurd (false≢true (sym (ap (λ (o : Option ℕ). option_map_or (is_asked_size None) o false) none) ∙ asked))
      by_size (Some size) stands =
          ap (λ (o : Option ℕ). record { variables = standing.variables; registers = with_filled (option_map (λ size. record { register = into; size = size }) o) (emptied_widths [] standing.registers) }) stands
          ∙ ap (λ (n : ℕ). filled_standing [] into n standing) (sym (held ∙ ap (λ (o : Option ℕ). option_map_or (λ size. size) o 0) stands))

  pub compute_stands : (into : ℕ) (op : Op) (one other size : ℕ) (signed : Bool) → stands_after flow (Compute into op one other size signed) standing ≡ filled_standing (one ∷ other ∷ []) into (size_given op size) standing
  compute_stands into op one other size signed =
      ap (λ (gone : List ℕ). filled_standing gone into (size_after op size) standing) (computes_empties size one other (shifts op)) ∙ ap (λ (n : ℕ). filled_standing (one ∷ other ∷ []) into n standing) (size_same op size)

-- The same at the end of the edge.

module _ (flow : Flow) (number : ℕ) (edge : FlowEdge) (stands : slice_get flow.edges number ≡ Some edge) where
  at_edge : (P : FlowEdge → Type 0) → P edge → IfSome (slice_get flow.edges number) P
  at_edge P holds = subst (λ (o : Option FlowEdge). IfSome o P) (sym stands) holds

  leads_to : IsFlow flow → stands_after flow edge.instr (stands_at flow edge.from) ≡ stands_at flow edge.to
  leads_to valid = All-at (λ e. stands_after flow e.instr (stands_at flow e.from) ≡ stands_at flow e.to) flow.edges number edge stands valid.leads

  fit_there : IsFlow flow → (graphs : List Parts) → FitWith flow (stands_after flow edge.instr (stands_at flow edge.from)) graphs → FitAt flow edge.to graphs
  fit_there valid graphs fit = record {
    each = λ place parts there.
        let fits = subst (λ (s : Standing). FitsWith flow s parts) (leads_to valid) (fit.each place parts there) in
        record { variables = fits.variables; registers = fits.registers; ports = fits.ports };
  }

  pub fit_at : IsFlow flow → (result : Result Post Stop) → IfOk result (λ post. FitWith flow (stands_after flow edge.instr (stands_at flow edge.from)) post.graphs) →
      IfOk result (λ post. IfSome (slice_get flow.edges number) (λ edge. FitAt flow edge.to post.graphs))
  fit_at valid (Ok post) fit = at_edge (λ e. FitAt flow e.to post.graphs) (fit_there valid post.graphs fit)
  fit_at valid (Err error) fit = tt

  pub large_at : (parts : Parts) (result : Result Post Stop) → IfErr result (λ stop. stop ≡ stops.Large → is_full_along edge.instr parts ≡ true) →
      IfErr result (λ stop. stop ≡ stops.Large → IfSome (slice_get flow.edges number) (λ edge. is_full_along edge.instr parts ≡ true))
  large_at parts (Ok post) full = tt
  large_at parts (Err error) full = λ large. at_edge (λ e. is_full_along e.instr parts ≡ true) (full large)

pub edge_there : (edges slice : List FlowEdge) (number : ℕ) (edge : FlowEdge) → slice ≡ edges → number < length slice → edge ≡ get_or slice number edge → slice_get edges number ≡ Some edge
edge_there edges slice number edge same within is =
    ap (λ (es : List FlowEdge). slice_get es number) (sym same) ∙ (slice_get-get_or slice number edge within ∙ ap (λ (e : FlowEdge). Some e) (sym is))
