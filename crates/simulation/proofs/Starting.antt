-- A program and its graph begin alike.
use Rattle.std.proofs.Common.{◌≡◌, ℕ, zero, suc, ◌<◌, ◌+◌, List, [], ◌∷◌, ◌++◌, map, length, Bool, true, false, not, ◌&&◌, ◌||◌, refl, sym, ap, subst, ◌∙◌, append_assoc, append-nil, arith, Some, Option, nat_eq, if◌then◌else◌}
use Rattle.std.specs.List.{list_all}
use Rattle.std.proofs.lemmas.Bool.{and_from, not_from_false, ne_eqb}
use Rattle.cbase.specs.declared.place.Place.{Place}
use Rattle.bytes_core.specs.declared.block.Block.{Block}
use Rattle.bytes_core.specs.declared.block.BlockKind.TheVariants as storage
use Rattle.bytes_core.specs.Placement.{new_block, is_new_block, placed}
use Rattle.choices.specs.declared.choice.Choice.{Choice}
use Rattle.choices.specs.declared.choice.Choice.TheVariants as choice
use Rattle.c_machine.specs.declared.object.Object.{Object}
use Rattle.c_machine.specs.declared.variable.Variable.{Variable}
use Rattle.c_machine.specs.declared.task.Task.TheVariants.{MakeObject, Initialise}
use Rattle.c_machine.specs.Text.{Function, Parameter, Text}
use Rattle.c_machine.specs.State.{TaskIn, StateIn, OutcomeIn, Scope, Went, Waits, Ended, blocks_of, objects_of}
use Rattle.flow.specs.declared.flow_graph.Flow.{Flow}
use Rattle.flow.specs.Holding.{Owned, put_owned}
use Rattle.flow.specs.Machine as graph
use Rattle.flow.specs.Valid.{IsFlow}
use Rattle.simulation.specs.Names.{Name, names_of, variables_of, is_other}
use Rattle.simulation.specs.Running.{Setting, Running}
use Rattle.simulation.specs.Worlds.{World, Side, AreAlike, state}
use Rattle.simulation.proofs.Meeting.{Meets, source_alone, meets_over}
use Rattle.simulation.proofs.Scopes.{scopes-enter}
use Rattle.std.specs.Prelude.{All, Contains, ◌↔◌}
use Rattle.std.specs.Option.{option_map_or}
use Rattle.c_machine.specs.declared.task.Task.TheVariants.{MakeStatic}
use Rattle.c_machine.specs.Calls.{body_tasks}
use Rattle.c_machine.specs.Run.{then_go, done_within, start_main, main_tasks, start, Leads}
use Rattle.flow.specs.declared.flow_graph.Variable.{Variable as FlowVariable}
use Rattle.flow.specs.InRange.{entry_of}
use Rattle.flow.specs.Memories.{HasInitialOffset}
use Rattle.flow.specs.Runs as graph_run
use Rattle.flow.proofs.RunStateLaws.{are_run_states}
use Rattle.simulation.specs.Agreeing.{Agree}
use Rattle.simulation.specs.Functions.{IsMainLowered}
use Rattle.simulation.specs.Laws.{GraphLeads}
use Rattle.simulation.specs.Starting.{IsFixed, AreFixed, IsProgramLowered}
use Rattle.simulation.specs.Worlds.{AreScopes, AreOwned}
use Rattle.simulation.proofs.Blocks.{objects_made}
use Rattle.simulation.proofs.Scopes.{same_objects}
use Rattle.simulation.proofs.Simulation.{is_good}

-- names whose variables stand before a number
abbrev AreBelow : ℕ → List Name → Type 0
AreBelow number [] = Unit {0}
AreBelow number (name ∷ names) = (name.variable < number) × AreBelow number names

below_more : (number : ℕ) (names : List Name) → AreBelow number names → AreBelow (number + 1) names
below_more number [] below = tt
below_more number (name ∷ names) below = (let less = below.0 in omega arith, below_more number names below.1)

below_last : (number : ℕ) (names : List Name) (name : Name) → name.variable ≡ number → AreBelow number names → AreBelow (number + 1) (names ++ name ∷ [])
below_last number [] name is below = (omega arith, tt)
below_last number (first ∷ names) name is below = (let less = below.0 in omega arith, below_last number names name is below.1)

below_other : (number : ℕ) (names : List Name) → AreBelow number names → is_other number (names ++ []) ≡ true
below_other number [] below = refl
below_other number (name ∷ names) below =
    let less = below.0 in
    and_from (not (nat_eq name.variable number)) (is_other number (names ++ [])) (not_from_false (nat_eq name.variable number) (ne_eqb name.variable number (λ same. absurd (omega arith))))
    (below_other number names below.1)

module _ (t : Text) (flow : Flow) (setting : Setting) (valid : IsFlow flow) where
  abbrev fresh : List (TaskIn t) → Scope → List Block → StateIn t
  fresh tasks statics memory = record { tasks = tasks; operands = []; frame = []; callers = []; statics = statics; memory = memory }

  abbrev first : List Owned → List Block → graph.State
  first owned memory = state (entry_of flow flow.main) [] (record { variables = []; callers = []; statics = owned; outer = [] }) memory

  module _ (n : ℕ) (onward : StateIn t → List Choice → OutcomeIn t) (onward' : graph.State → List Choice → graph.Outcome) (begun : graph.Outcome) (steps : ℕ) (rest : List (TaskIn t)) (total : List Name) where
    -- once all are made
    abbrev Each : Type 0
    Each = (owned : List Owned) (scope : Scope) (memory : List Block) (choices : List Choice) → AreScopes owned (total ∷ []) (scope ∷ []) →
        AreOwned owned (names_of (total ∷ [])) (objects_of (scope ∷ [])) → begun ≡ graph.Went (first owned memory) choices →
        Meets t flow setting valid n (then_go (done_within steps t (fresh rest scope memory) choices) onward) (onward' (first owned memory) choices)

    abbrev Begins : ℕ → List FlowVariable → Type 0
    Begins number variables =
        (objects : List Object) (names done : List Name) (count : ℕ) (owned : List Owned) (scope : Scope) (memory : List Block) (choices : List Choice) →
        AreFixed number variables objects names → count ≡ length objects + steps → done ++ names ≡ total → AreBelow number done →
        AreScopes owned (done ∷ []) (scope ∷ []) → AreOwned owned (names_of (done ∷ [])) (objects_of (scope ∷ [])) →
        begun ≡ graph_run.with_statics number variables (first owned memory) choices →
        Meets t flow setting valid n (then_go (done_within count t (fresh (map MakeStatic objects ++ rest) scope memory) choices) onward)
        (graph_run.then_go (graph_run.with_statics number variables (first owned memory) choices) onward')

    static_or : (test : Bool) (after : StateIn t) (more : List Choice) (count : ℕ) (other : graph.Outcome) → begun ≡ (if test then other else graph.Ended) →
        (begun ≡ other → Meets t flow setting valid n (then_go (done_within count t after more) onward) (graph_run.then_go other onward')) →
        Meets t flow setting valid n (then_go (then_go (if test then Went after more else Ended) (done_within count t)) onward)
        (graph_run.then_go (if test then other else graph.Ended) onward')
    static_or true after more count other is each = each is
    static_or false after more count other is each = meets_over t flow setting valid n Ended graph.Ended tt tt

    -- one more
    one_static : (fixed : Bool) (size number : ℕ) (variables : List FlowVariable) → Begins (number + 1) variables →
        (objects : List Object) (names done : List Name) (count : ℕ) (owned : List Owned) (scope : Scope) (memory : List Block) (choices : List Choice) →
        IsFixed fixed size number objects names (AreFixed (number + 1) variables) → count ≡ length objects + steps → done ++ names ≡ total → AreBelow number done →
        AreScopes owned (done ∷ []) (scope ∷ []) → AreOwned owned (names_of (done ∷ [])) (objects_of (scope ∷ [])) →
        begun ≡ (if fixed
        then graph.with_new_block storage.Static size true (first owned memory) choices
        (λ after block more. graph_run.with_statics (number + 1) variables (record after { statics = put_owned (record { variable = number; block = block }) after.statics }) more)
        else graph_run.with_statics (number + 1) variables (first owned memory) choices) →
        Meets t flow setting valid n (then_go (done_within count t (fresh (map MakeStatic objects ++ rest) scope memory) choices) onward)
        (graph_run.then_go (if fixed
        then graph.with_new_block storage.Static size true (first owned memory) choices
        (λ after block more. graph_run.with_statics (number + 1) variables (record after { statics = put_owned (record { variable = number; block = block }) after.statics }) more)
        else graph_run.with_statics (number + 1) variables (first owned memory) choices) onward')
    one_static false size number variables behind objects names done count owned scope memory choices are counts all below scopes owned' is =
        behind objects names done count owned scope memory choices are counts all (below_more number done below) scopes owned' is
    one_static true size number variables behind [] names done count owned scope memory choices are counts all below scopes owned' is = absurd are
    one_static true size number variables behind (object ∷ objects) [] done count owned scope memory choices are counts all below scopes owned' is = absurd are
    one_static true size number variables behind (object ∷ objects) (name ∷ names) done zero owned scope memory choices are counts all below scopes owned' is = absurd (omega arith)
    one_static true size number variables behind (object ∷ objects) (name ∷ names) done (suc count) owned scope memory [] are counts all below scopes owned' is =
        meets_over t flow setting valid n Waits graph.Waits tt tt
    one_static true size number variables behind (object ∷ objects) (name ∷ names) done (suc count) owned scope memory (choice.None ∷ choices) are counts all below scopes owned' is =
        meets_over t flow setting valid n Ended graph.Ended tt tt
    one_static true size number variables behind (object ∷ objects) (name ∷ names) done (suc count) owned scope memory (choice.Input bits ∷ choices) are counts all below scopes owned' is =
        meets_over t flow setting valid n Ended graph.Ended tt tt
    one_static true size number variables behind (object ∷ objects) (name ∷ names) done (suc count) owned scope memory (choice.Block base bytes ∷ choices) are counts all below scopes owned' is =
        let object' : Variable = record { token = object.token; block = length memory } in
        let new : Owned = record { variable = number; block = length memory } in
        let memory' : List Block = placed memory (new_block storage.Static base bytes) in
        let entered : AreScopes (put_owned (record { variable = name.variable; block = length memory }) owned) ((done ++ name ∷ []) ∷ []) ((scope ++ object' ∷ []) ∷ [])
        × AreOwned (put_owned (record { variable = name.variable; block = length memory }) owned) (names_of ((done ++ name ∷ []) ∷ [])) (objects_of ((scope ++ object' ∷ []) ∷ [])) =
        scopes-enter owned done [] scope [] name object' are.1 (subst (λ (k : ℕ). is_other k (done ++ []) ≡ true) (sym are.2) (below_other number done below)) scopes owned' in
        let more = subst (λ (k : ℕ).
        AreScopes (put_owned (record { variable = k; block = length memory }) owned) ((done ++ name ∷ []) ∷ []) ((scope ++ object' ∷ []) ∷ [])
        × AreOwned (put_owned (record { variable = k; block = length memory }) owned) (names_of ((done ++ name ∷ []) ∷ [])) (objects_of ((scope ++ object' ∷ []) ∷ []))) are.2 entered in
        rw (sym are.0)
        (static_or (is_new_block memory storage.Static size base bytes && (not true || list_all (nat_eq 0) bytes))
        (fresh (map MakeStatic objects ++ rest) (scope ++ object' ∷ []) memory') choices count
        (graph_run.with_statics (number + 1) variables (first (put_owned new owned) memory') choices) is
        (λ is'. behind objects names (done ++ name ∷ []) count (put_owned new owned) (scope ++ object' ∷ []) memory' choices are.3 (omega arith)
        (append_assoc done (name ∷ []) names ∙ all) (below_last number done name are.2 below) more.0 more.1 is'))

    statics_made : Each → (number : ℕ) (variables : List FlowVariable) → Begins number variables
    statics_made each number [] [] [] done count owned scope memory choices are counts all below scopes owned' is =
        let all' : done ≡ total = sym (append-nil done) ∙ all in
        let same : steps ≡ count = omega arith in
        subst (λ (k : ℕ). Meets t flow setting valid n (then_go (done_within k t (fresh rest scope memory) choices) onward) (onward' (first owned memory) choices)) same
        (each owned scope memory choices (subst (λ (names : List Name). AreScopes owned (names ∷ []) (scope ∷ [])) all' scopes)
        (subst (λ (names : List Name). AreOwned owned (names_of (names ∷ [])) (objects_of (scope ∷ []))) all' owned') is)
    statics_made each number [] [] (name ∷ names) done count owned scope memory choices are counts all below scopes owned' is = absurd are
    statics_made each number [] (object ∷ objects) names done count owned scope memory choices are counts all below scopes owned' is = absurd are
    statics_made each number (variable ∷ variables) objects names done count owned scope memory choices are counts all below scopes owned' is =
        one_static variable.fixed variable.size number variables (statics_made each (number + 1) variables) objects names done count owned scope memory choices are counts all below scopes owned' is

  abbrev parameter_made : Parameter → TaskIn t
  parameter_made param = MakeObject param.object

  abbrev object_made : Object → TaskIn t
  object_made object = MakeObject object

  map_objects : (params : List Parameter) → map object_made (map (λ param. param.object) params) ≡ map parameter_made params
  map_objects [] = refl
  map_objects (param ∷ params) = ap (λ (rest : List (TaskIn t)). MakeObject param.object ∷ rest) (map_objects params)

  module _ (main : Function t.Stmt) (lowered : IsProgramLowered t flow setting main) where
    -- main begins, where its parameters are made first
    main_begins : (n : ℕ) (owned : List Owned) (scope : Scope) (memory : List Block) (choices : List Choice) → AreScopes owned (setting.statics ∷ []) (scope ∷ []) →
        AreOwned owned (names_of (setting.statics ∷ [])) (objects_of (scope ∷ [])) →
        Meets t flow setting valid n (Went (fresh (main_tasks t main) scope memory) choices) (graph.entered flow (graph_run.parameters_of flow flow.main) (first owned memory) choices)
    main_begins n owned scope memory choices scopes owned' =
        let begins : IsMainLowered t flow setting main = lowered.begins in
        let inside : Running = record { base = 0; closes = t.strict; gives = begins.gives } in
        let w : World t = record { frame = [] ∷ []; callers = []; statics = scope; rest = []; below = [] } in
        let v : Side = record { variables = []; callers = []; statics = owned; outer = [] } in
        let parameters : graph_run.parameters_of flow flow.main ≡ variables_of begins.names =
        ap (λ found. option_map_or (λ one. one.parameters) found []) begins.stands ∙ begins.parameters in
        let entry : entry_of flow flow.main ≡ begins.there.entry = ap (λ found. option_map_or (λ one. one.entry) found 0) begins.stands in
        let same = same_objects owned (setting.statics ∷ []) (scope ∷ []) scopes owned' in
        let one : blocks_of (scope ++ []) ≡ blocks_of scope ++ [] = ap blocks_of (append-nil scope) ∙ sym (append-nil (blocks_of scope)) in
        let other : map (λ one. one.block) owned ≡ map (λ one. one.block) owned ++ [] = sym (append-nil (map (λ one. one.block) owned)) in
        let alike : AreAlike t setting inside ([] ∷ []) w v = record {
          frame = (tt, tt);
          owned = tt;
          fixed = scopes.0;
          others = λ block. (
            λ is. subst (λ (blocks : List ℕ). Contains blocks block) other ((same block).0 (subst (λ (blocks : List ℕ). Contains blocks block) (sym one) is)),
            λ is. subst (λ (blocks : List ℕ). Contains blocks block) one ((same block).1 (subst (λ (blocks : List ℕ). Contains blocks block) (sym other) is)),
          );
          held = refl;
          outermost = refl;
        } in
        let tasks : (map object_made (map (λ param. param.object) main.params) ++ body_tasks t main 0) ++ [] ≡ map parameter_made main.params ++ body_tasks t main 0 =
        append-nil (map object_made (map (λ param. param.object) main.params) ++ body_tasks t main 0)
        ∙ ap (λ (made : List (TaskIn t)). made ++ body_tasks t main 0) (map_objects main.params) in
        source_alone t flow setting valid n _ choices _
        (subst (λ (all : List (TaskIn t)). Meets t flow setting valid n (Went (record { tasks = all; operands = []; frame = [] ∷ []; callers = []; statics = scope; memory = memory }) choices)
        (graph.entered flow (graph_run.parameters_of flow flow.main) (first owned memory) choices)) tasks
        (rw (parameters, entry)
        (objects_made t flow setting valid n inside begins.names [] (body_tasks t main 0) [] begins.there.entry [] [] [] scope [] [] refl
        (λ memory' w' v' choices' holds' alike' goes'. is_good t flow setting valid lowered.functions n begins.body [] [] w' v' memory' choices' holds' alike' goes')
        (map (λ param. param.object) main.params) begins.names [] [] begins.made begins.new (λ variable new. new) refl [] [] v memory choices
        (record { stands = tt; rooted = tt; ascending = tt }) alike tt)))

    starts_meet : (n : ℕ) (choices : List Choice) → Meets t flow setting valid n (start_main t t.enough (Some main) choices) (graph_run.start flow choices)
    starts_meet n choices =
        let rest : List (TaskIn t) = map (λ set. Initialise set.place set.init) t.sets in
        statics_made n (λ after more. Went (record after { tasks = main_tasks t main }) more)
        (λ after more. graph.entered flow (graph_run.parameters_of flow flow.main) (graph.with_memory (graph_run.with_initials after.statics flow.initial after.memory) after) more)
        (graph_run.with_statics 0 flow.variables (first [] []) choices) lowered.statics.steps rest setting.statics
        (λ owned scope memory more scopes owned' is.
        rw (lowered.statics.written (first owned memory) scope choices more is scopes.0)
        (main_begins n owned scope (graph_run.with_initials owned flow.initial memory) more scopes owned'))
        0 flow.variables t.statics setting.statics [] t.enough [] [] [] choices lowered.statics.fixed lowered.statics.enough refl tt (tt, tt) tt refl

    pub programs_agree : (n : ℕ) (choices : List Choice) → t.main ≡ Some main → All (λ scalar. HasInitialOffset scalar.word) flow.initial →
        Agree t flow n (start t choices) (graph_run.start flow choices)
    programs_agree n choices begins offsets =
        subst (λ (one : Option (Function t.Stmt)). Agree t flow n (start_main t t.enough one choices) (graph_run.start flow choices)) (sym begins)
        (starts_meet n choices
        (λ next more is. are_run_states.runs flow next choices more 0 valid offsets (ap (λ (one : graph.Outcome). graph_run.then_go one (graph_run.run 0 flow)) is)))

    pub programs_meet : (choices : List Choice) (kind : ℕ) (place : Place) → t.main ≡ Some main → All (λ scalar. HasInitialOffset scalar.word) flow.initial →
        Leads t choices kind place ↔ GraphLeads flow choices kind place
    programs_meet choices kind place begins offsets = (
      λ (steps, faults). (programs_agree steps choices begins offsets).there steps kind place (omega arith) faults,
      λ (steps, faults). (programs_agree steps choices begins offsets).back steps kind place (omega arith) faults,
    )
