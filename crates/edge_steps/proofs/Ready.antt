-- What a state of a run at the beginning of an edge has: its registers have the sizes that stand, and all that it has is seen by its number.
use Rattle.std.proofs.Common.{◌≡◌, ℕ, suc, ◌+◌, ◌<◌, Bool, true, false, not, ◌&&◌, ◌||◌, List, [], ◌∷◌, map, nat_eq, nat_lt, Option, None, Some, ◌⊎◌, inl, inr, refl, sym, ◌∙◌, ap, subst, eqb-true, eq-eqb, ltb-true, lt-ltb, arith}
use Rattle.std.specs.Prelude.{IsSome, IsTrue, All, Contains, slice_get, option_map, if◌then◌else◌}
use Rattle.std.specs.List.{list_any, list_all}
use Rattle.std.specs.Option.{option_map_or}
use Rattle.std.proofs.lemmas.Bool.{false≢true}
use Rattle.std.proofs.lemmas.List.Elements.{All-contains}
use Rattle.std.proofs.lemmas.Option.{none-some}
use Rattle.graph.proofs.Tests.{and_left, and_right, and_both}
use Rattle.flow.specs.declared.flow_graph.Flow.{Flow}
use Rattle.flow.specs.declared.flow_graph.FlowEdge.{FlowEdge}
use Rattle.flow.specs.declared.flow_graph.Standing.{Standing}
use Rattle.flow.specs.declared.flow_graph.Variable.{Variable}
use Rattle.flow.specs.declared.flow_graph.Width.{Width}
use Rattle.flow.specs.declared.instruction.Instr.{Instr}
use Rattle.flow.specs.declared.instruction.Instr.TheVariants.{Enter, Leave}
use Rattle.flow.specs.Holding.{Held, Owned, width, held_by, size_of, block_of}
use Rattle.flow.specs.Keeping.{variables_of}
use Rattle.flow.specs.Machine.{State, or_else}
use Rattle.flow.specs.Memories.{fixed_from}
use Rattle.flow.specs.Standing.{stands_at}
use Rattle.flow.specs.Valid.{ascend, are_distinct, is_local, has_scope, is_scalar_size}
use Rattle.flow.proofs.Ascending.{All-at}
use Rattle.edge_steps.specs.Laws.{sizes_at, IsAtEdge}
use Rattle.edge_steps.specs.Seen.{HasSizes, ShowsAll}
use Rattle.edge_steps.proofs.Chains.{Contains-none, Contains-first, Contains-later, Contains-cases}
use Rattle.edge_steps.proofs.Entered.{AreNew}
use Rattle.edge_steps.proofs.Left.{AllStand, AreApart, AreOnce}
use Rattle.edge_steps.proofs.Registers.{among_same}

-- Lists that ascend.

mapped : {X : Type 0} (f : X → ℕ) (xs : List X) (x : X) → Contains xs x → Contains (map f xs) (f x)
mapped f [] x among = absurd (Contains-none x among)
mapped f (first ∷ rest) x among = by_cases (Contains-cases first x rest among) (λ later. mapped f rest x later)
  where
    by_cases : (first ≡ x) ⊎ Contains rest x → (Contains rest x → Contains (map f rest) (f x)) → Contains (map f (first ∷ rest)) (f x)
    by_cases (inl same) later = subst (λ (y : _). Contains (map f (first ∷ rest)) (f y)) same (Contains-first (f first) (map f rest))
    by_cases (inr within) later = Contains-later (f first) (f x) (map f rest) (later within)

ascend_rest : (first : ℕ) (rest : List ℕ) → ascend (first ∷ rest) ≡ true → (ascend rest ≡ true) × ((other : ℕ) → Contains rest other → first < other)
ascend_rest first [] is = (refl, λ other among. absurd (Contains-none other among))
ascend_rest first (second ∷ rest) is = (and_right (nat_lt first second) (ascend (second ∷ rest)) is, above (ascend_rest second rest (and_right (nat_lt first second) (ascend (second ∷ rest)) is)).1)
  where
    less : first < second
    less = ltb-true _ _ (and_left (nat_lt first second) (ascend (second ∷ rest)) is)

    above : ((other : ℕ) → Contains rest other → second < other) → (other : ℕ) → Contains (second ∷ rest) other → first < other
    above later other among = by_cases (Contains-cases second other rest among)
      where
        by_cases : (second ≡ other) ⊎ Contains rest other → first < other
        by_cases (inl same) = let l = less in omega arith
        by_cases (inr within) = let l = less in let m = later other within in omega arith

miss : (a b : ℕ) → a < b → nat_eq a b ≡ false
miss a b less = by_test (nat_eq a b) refl
  where
    by_test : (t : Bool) → nat_eq a b ≡ t → t ≡ false
    by_test true is = let e = eqb-true _ _ is in absurd (omega arith)
    by_test false is = refl

owned_found : (owned : List Owned) → ascend (variables_of owned) ≡ true → (one : Owned) → Contains owned one → block_of owned one.variable ≡ Some one.block
owned_found [] is one among = absurd (Contains-none one among)
owned_found (first ∷ rest) is one among = by_cases (ascend_rest first.variable (variables_of rest) is) (Contains-cases first one rest among) (λ later within. owned_found rest later one within)
  where
    by_cases : (ascend (variables_of rest) ≡ true) × ((other : ℕ) → Contains (variables_of rest) other → first.variable < other) → (first ≡ one) ⊎ Contains rest one →
        (ascend (variables_of rest) ≡ true → Contains rest one → block_of rest one.variable ≡ Some one.block) → (if nat_eq first.variable one.variable then Some first.block else block_of rest one.variable) ≡ Some one.block
    by_cases (in_rest, above) (inl same) later =
        ap (λ (b : Bool). if b then Some first.block else block_of rest one.variable) (eq-eqb first.variable one.variable (ap (λ (o : Owned). o.variable) same)) ∙ ap (λ (o : Owned). Some o.block) same
    by_cases (in_rest, above) (inr within) later =
        ap (λ (b : Bool). if b then Some first.block else block_of rest one.variable) (miss first.variable one.variable (above one.variable (mapped (λ (o : Owned). o.variable) rest one within))) ∙ later in_rest within

held_found : (registers : List Held) → ascend (map (λ (held : Held). held.register) registers) ≡ true → (one : Held) → Contains registers one → held_by registers one.register ≡ Some one
held_found [] is one among = absurd (Contains-none one among)
held_found (first ∷ rest) is one among = by_cases (ascend_rest first.register (map (λ (held : Held). held.register) rest) is) (Contains-cases first one rest among) (λ later within. held_found rest later one within)
  where
    by_cases : (ascend (map (λ (held : Held). held.register) rest) ≡ true) × ((other : ℕ) → Contains (map (λ (held : Held). held.register) rest) other → first.register < other) → (first ≡ one) ⊎ Contains rest one →
        (ascend (map (λ (held : Held). held.register) rest) ≡ true → Contains rest one → held_by rest one.register ≡ Some one) → (if nat_eq first.register one.register then Some first else held_by rest one.register) ≡ Some one
    by_cases (in_rest, above) (inl same) later =
        ap (λ (b : Bool). if b then Some first else held_by rest one.register) (eq-eqb first.register one.register (ap (λ (o : Held). o.register) same)) ∙ ap Some same
    by_cases (in_rest, above) (inr within) later =
        ap (λ (b : Bool). if b then Some first else held_by rest one.register) (miss first.register one.register (above one.register (mapped (λ (o : Held). o.register) rest one within))) ∙ later in_rest within

-- Registers.

widths_registers : (registers : List Held) → map (λ (w : Width). w.register) (map width registers) ≡ map (λ (held : Held). held.register) registers
widths_registers [] = refl
widths_registers (first ∷ rest) = ap (λ (ns : List ℕ). first.register ∷ ns) (widths_registers rest)

size_held : (registers : List Held) (register : ℕ) → size_of (map width registers) register ≡ option_map (λ (held : Held). held.size) (held_by registers register)
size_held [] register = refl
size_held (first ∷ rest) register = by_test (nat_eq first.register register) (size_held rest register)
  where
    by_test : (b : Bool) → size_of (map width rest) register ≡ option_map (λ (held : Held). held.size) (held_by rest register) →
        (if b then Some first.size else size_of (map width rest) register) ≡ option_map (λ (held : Held). held.size) (if b then Some first else held_by rest register)
    by_test true later = refl
    by_test false later = later

-- Static variables.

fixed_at : (number : ℕ) (variables : List Variable) (variable : ℕ) → Contains (fixed_from number variables) variable →
    (place : ℕ) × (variable ≡ number + place) × (option_map_or (λ (found : Variable). found.fixed) (slice_get variables place) false ≡ true)
fixed_at number [] variable among = absurd (Contains-none variable among)
fixed_at number (first ∷ rest) variable among = by_fixed first.fixed refl among (λ later. behind (fixed_at (number + 1) rest variable later))
  where
    behind : (place : ℕ) × (variable ≡ number + 1 + place) × (option_map_or (λ (found : Variable). found.fixed) (slice_get rest place) false ≡ true) →
        (place : ℕ) × (variable ≡ number + place) × (option_map_or (λ (found : Variable). found.fixed) (slice_get (first ∷ rest) place) false ≡ true)
    behind (place, is, fixed) = (suc place, omega arith, fixed)

    by_fixed : (b : Bool) → first.fixed ≡ b → Contains (if b then number ∷ fixed_from (number + 1) rest else fixed_from (number + 1) rest) variable →
        (Contains (fixed_from (number + 1) rest) variable → (place : ℕ) × (variable ≡ number + place) × (option_map_or (λ (found : Variable). found.fixed) (slice_get (first ∷ rest) place) false ≡ true)) →
        (place : ℕ) × (variable ≡ number + place) × (option_map_or (λ (found : Variable). found.fixed) (slice_get (first ∷ rest) place) false ≡ true)
    by_fixed false is among later = later among
    by_fixed true is among later = by_cases (Contains-cases number variable (fixed_from (number + 1) rest) among)
      where
        by_cases : (number ≡ variable) ⊎ Contains (fixed_from (number + 1) rest) variable → (place : ℕ) × (variable ≡ number + place) × (option_map_or (λ (found : Variable). found.fixed) (slice_get (first ∷ rest) place) false ≡ true)
        by_cases (inl same) = (0, omega arith, is)
        by_cases (inr within) = later within

ascend_from : (first : ℕ) (rest : List ℕ) → ascend rest ≡ true → ((other : ℕ) → Contains rest other → first < other) → ascend (first ∷ rest) ≡ true
ascend_from first [] is above = refl
ascend_from first (second ∷ rest) is above = and_both (nat_lt first second) (ascend (second ∷ rest)) (lt-ltb _ _ (above second (Contains-first second rest))) is

fixed_ascend : (number : ℕ) (variables : List Variable) → ascend (fixed_from number variables) ≡ true
fixed_ascend number [] = refl
fixed_ascend number (first ∷ rest) = by_fixed first.fixed (fixed_ascend (number + 1) rest)
  where
    by_fixed : (b : Bool) → ascend (fixed_from (number + 1) rest) ≡ true → ascend (if b then number ∷ fixed_from (number + 1) rest else fixed_from (number + 1) rest) ≡ true
    by_fixed false is = is
    by_fixed true is = ascend_from number (fixed_from (number + 1) rest) is (λ other among. let at = fixed_at (number + 1) rest other among in let e = at.1 in omega arith)

-- Variables by their numbers.

none_found : (owned : List Owned) (variable : ℕ) → list_any (nat_eq variable) (variables_of owned) ≡ false → block_of owned variable ≡ None
none_found [] variable none = refl
none_found (first ∷ rest) variable none = by_test (nat_eq variable first.variable) refl none (λ later. none_found rest variable later)
  where
    by_test : (b : Bool) → nat_eq variable first.variable ≡ b → (b || list_any (nat_eq variable) (variables_of rest)) ≡ false →
        (list_any (nat_eq variable) (variables_of rest) ≡ false → block_of rest variable ≡ None) → (if nat_eq first.variable variable then Some first.block else block_of rest variable) ≡ None
    by_test true is none later = absurd (false≢true (sym none))
    by_test false is none later = ap (λ (b : Bool). if b then Some first.block else block_of rest variable) (by_sym (nat_eq first.variable variable) refl) ∙ later none
      where
        by_sym : (c : Bool) → nat_eq first.variable variable ≡ c → c ≡ false
        by_sym false c_is = refl
        by_sym true c_is = absurd (false≢true (sym is ∙ eq-eqb variable first.variable (sym (eqb-true _ _ c_is))))

some_found : (owned : List Owned) (variable : ℕ) → list_any (nat_eq variable) (variables_of owned) ≡ true → IsSome (block_of owned variable)
some_found [] variable some = absurd (false≢true some)
some_found (first ∷ rest) variable some = by_test (nat_eq first.variable variable) refl (nat_eq variable first.variable) refl some (λ later. some_found rest variable later)
  where
    by_test : (b : Bool) → nat_eq first.variable variable ≡ b → (c : Bool) → nat_eq variable first.variable ≡ c → (c || list_any (nat_eq variable) (variables_of rest)) ≡ true →
        (list_any (nat_eq variable) (variables_of rest) ≡ true → IsSome (block_of rest variable)) → IsSome (if b then Some first.block else block_of rest variable)
    by_test true is c c_is some later = refl
    by_test false is true c_is some later = absurd (false≢true (sym is ∙ eq-eqb first.variable variable (sym (eqb-true _ _ c_is))))
    by_test false is false c_is some later = later some

number_among : (owned : List Owned) (variable : ℕ) → IsSome (block_of owned variable) → Contains (variables_of owned) variable
number_among [] variable some = absurd (false≢true some)
number_among (first ∷ rest) variable some = by_test (nat_eq first.variable variable) refl some (λ later. number_among rest variable later)
  where
    by_test : (b : Bool) → nat_eq first.variable variable ≡ b → IsSome (if b then Some first.block else block_of rest variable) → (IsSome (block_of rest variable) → Contains (variables_of rest) variable) →
        Contains (variables_of (first ∷ rest)) variable
    by_test true is some later = subst (Contains (variables_of (first ∷ rest))) (eqb-true _ _ is) (Contains-first first.variable (variables_of rest))
    by_test false is some later = Contains-later first.variable variable (variables_of rest) (later some)

-- Scopes.

new_in : (flow : Flow) (variables standing : List ℕ) (owned : List Owned) → variables_of owned ≡ standing → are_distinct variables ≡ true →
    list_all (λ variable. is_local flow variable && not (list_any (nat_eq variable) standing)) variables ≡ true → AreNew variables owned
new_in flow [] standing owned same distinct all = tt
new_in flow (variable ∷ rest) standing owned same distinct all =
    let here = and_left (is_local flow variable && not (list_any (nat_eq variable) standing)) (list_all (λ variable. is_local flow variable && not (list_any (nat_eq variable) standing)) rest) all in (
      none_found owned variable (ap (list_any (nat_eq variable)) same ∙ unless (list_any (nat_eq variable) standing) (and_right (is_local flow variable) (not (list_any (nat_eq variable) standing)) here)),
      unless (list_any (nat_eq variable) rest) (and_left (not (list_any (nat_eq variable) rest)) (are_distinct rest) distinct),
      new_in flow rest standing owned same (and_right (not (list_any (nat_eq variable) rest)) (are_distinct rest) distinct)
          (and_right (is_local flow variable && not (list_any (nat_eq variable) standing)) (list_all (λ variable. is_local flow variable && not (list_any (nat_eq variable) standing)) rest) all),
    )
  where
    unless : (b : Bool) → not b ≡ true → b ≡ false
    unless true is = absurd (false≢true is)
    unless false is = refl

stand_in : (variables standing : List ℕ) (owned : List Owned) → variables_of owned ≡ standing → list_all (λ variable. list_any (nat_eq variable) standing) variables ≡ true → AllStand variables owned
stand_in [] standing owned same all = tt
stand_in (variable ∷ rest) standing owned same all = (
  some_found owned variable (ap (list_any (nat_eq variable)) same ∙ and_left (list_any (nat_eq variable) standing) (list_all (λ variable. list_any (nat_eq variable) standing) rest) all),
  stand_in rest standing owned same (and_right (list_any (nat_eq variable) standing) (list_all (λ variable. list_any (nat_eq variable) standing) rest) all),
)

-- no variable is named twice
once_in : (variables : List ℕ) → are_distinct variables ≡ true → AreOnce variables
once_in [] distinct = tt
once_in (variable ∷ rest) distinct = (
  sym (among_same rest variable) ∙ unless (list_any (nat_eq variable) rest) (and_left (not (list_any (nat_eq variable) rest)) (are_distinct rest) distinct),
  once_in rest (and_right (not (list_any (nat_eq variable) rest)) (are_distinct rest) distinct),
)
  where
    unless : (b : Bool) → not b ≡ true → b ≡ false
    unless true is = absurd (false≢true is)
    unless false is = refl

-- What stands at a point.

at_point : (P : Standing → Type 0) (flow : Flow) (point : ℕ) → P (record { variables = []; registers = [] }) → All P flow.stands → P (stands_at flow point)
at_point P flow point none all = by_found (slice_get flow.stands point) refl
  where
    by_found : (found : Option Standing) → slice_get flow.stands point ≡ found → P (option_map_or (λ standing. standing) found (record { variables = []; registers = [] }))
    by_found None is = none
    by_found (Some standing) is = All-at P flow.stands point standing is all

all_pass : (test : ℕ → Bool) (numbers : List ℕ) (number : ℕ) → list_all test numbers ≡ true → Contains numbers number → test number ≡ true
all_pass test [] number all among = absurd (Contains-none number among)
all_pass test (first ∷ rest) number all among = by_cases (Contains-cases first number rest among) (λ later. all_pass test rest number (and_right (test first) (list_all test rest) all) later)
  where
    by_cases : (first ≡ number) ⊎ Contains rest number → (Contains rest number → test number ≡ true) → test number ≡ true
    by_cases (inl same) later = ap test (sym same) ∙ and_left (test first) (list_all test rest) all
    by_cases (inr within) later = later within

module _ (flow : Flow) (edge : FlowEdge) (state : State) (at_edge : IsAtEdge flow edge state) where
  abbrev standing : Standing
  standing = stands_at flow state.point

  at_edge_from : stands_at flow edge.from ≡ standing
  at_edge_from = ap (stands_at flow) at_edge.here

  pub sizes_stand : HasSizes (sizes_at flow edge.from) state
  sizes_stand = record {
    of = λ register held is.
        sym (ap (λ (s : Standing). option_map_or (λ size. size) (size_of s.registers register) 0) at_edge_from
        ∙ ap (λ (widths : List Width). option_map_or (λ size. size) (size_of widths register) 0) (sym at_edge.runs.stands.frame.registers)
        ∙ ap (λ (o : Option ℕ). option_map_or (λ size. size) o 0) (size_held state.frame.registers register ∙ ap (option_map (λ (h : Held). h.size)) is));
  }

  variables_ascend : ascend (variables_of state.frame.variables) ≡ true
  variables_ascend =
      ap ascend at_edge.runs.stands.frame.variables
      ∙ and_left (ascend standing.variables) (list_all (is_local flow) standing.variables)
      (at_point (λ s. IsTrue (ascend s.variables && list_all (is_local flow) s.variables)) flow state.point refl at_edge.flow_is.standing_variables)

  registers_ascend : ascend (map (λ (held : Held). held.register) state.frame.registers) ≡ true
  registers_ascend =
      ap ascend (sym (widths_registers state.frame.registers) ∙ ap (map (λ (w : Width). w.register)) at_edge.runs.stands.frame.registers)
      ∙ and_left (ascend (map (λ (w : Width). w.register) standing.registers)) (list_all (λ (w : Width). is_scalar_size w.size) standing.registers)
      (at_point (λ s. IsTrue (ascend (map (λ (w : Width). w.register) s.registers) && list_all (λ (w : Width). is_scalar_size w.size) s.registers)) flow state.point refl at_edge.flow_is.standing_registers)

  pub are_apart : AreApart state
  are_apart variable some = by_static (block_of state.statics variable) refl
    where
      local : is_local flow variable ≡ true
      local =
          all_pass (is_local flow) standing.variables variable
          (and_right (ascend standing.variables) (list_all (is_local flow) standing.variables)
          (at_point (λ s. IsTrue (ascend s.variables && list_all (is_local flow) s.variables)) flow state.point refl at_edge.flow_is.standing_variables))
          (subst (λ (ns : List ℕ). Contains ns variable) at_edge.runs.stands.frame.variables (number_among state.frame.variables variable some))

      both : (found : Option Variable) → option_map_or (λ (v : Variable). v.fixed) found false ≡ true → option_map_or (λ (v : Variable). not v.fixed) found false ≡ true → ⊥
      both None fixed local = false≢true fixed
      both (Some found) fixed local = by_fixed found.fixed fixed local
        where
          by_fixed : (b : Bool) → b ≡ true → not b ≡ true → ⊥
          by_fixed true is is_not = false≢true is_not
          by_fixed false is is_not = false≢true is

      by_static : (found : Option ℕ) → block_of state.statics variable ≡ found → found ≡ None
      by_static None is = refl
      by_static (Some block) is =
          let among = number_among state.statics variable (subst (λ (o : Option ℕ). IsSome o) (sym is) refl) in
          let at = fixed_at 0 flow.variables variable (subst (λ (ns : List ℕ). Contains ns variable) at_edge.runs.leads.fixed among) in
          absurd (both (slice_get flow.variables variable) (ap (λ (n : ℕ). option_map_or (λ (v : Variable). v.fixed) (slice_get flow.variables n) false) (let e = at.1 in omega arith) ∙ at.2) local)

  pub all_shown : ShowsAll state
  all_shown = record {
    variables = owned_found state.frame.variables variables_ascend;
    statics = λ one among.
        by_frame one among (block_of state.frame.variables one.variable) refl
        (owned_found state.statics (ap ascend at_edge.runs.leads.fixed ∙ fixed_ascend 0 flow.variables) one among);
    registers = held_found state.frame.registers registers_ascend;
  }
    where
      by_frame : (one : Owned) → Contains state.statics one → (found : Option ℕ) → block_of state.frame.variables one.variable ≡ found → block_of state.statics one.variable ≡ Some one.block →
          or_else found (block_of state.statics one.variable) ≡ Some one.block
      by_frame one among None is static = static
      by_frame one among (Some block) is static =
          absurd (none-some one.block (sym (are_apart one.variable (subst (λ (o : Option ℕ). IsSome o) (sym is) refl)) ∙ static))

  pub new_variables : (variables : List ℕ) → edge.instr ≡ Enter variables → AreNew variables state.frame.variables
  new_variables variables is =
      let scope = subst (λ (s : Standing). has_scope flow s (Enter variables) ≡ true) at_edge_from (subst (λ (i : Instr). has_scope flow (stands_at flow edge.from) i ≡ true) is (All-contains (λ (e : FlowEdge). IsTrue (has_scope flow (stands_at flow e.from) e.instr)) flow.edges edge at_edge.flow_is.scopes at_edge.among)) in
      new_in flow variables standing.variables state.frame.variables at_edge.runs.stands.frame.variables
      (and_left (are_distinct variables) (list_all (λ variable. is_local flow variable && not (list_any (nat_eq variable) standing.variables)) variables) scope)
      (and_right (are_distinct variables) (list_all (λ variable. is_local flow variable && not (list_any (nat_eq variable) standing.variables)) variables) scope)

  pub standing_variables : (variables : List ℕ) → edge.instr ≡ Leave variables → AllStand variables state.frame.variables
  standing_variables variables is =
      let scope = subst (λ (s : Standing). has_scope flow s (Leave variables) ≡ true) at_edge_from (subst (λ (i : Instr). has_scope flow (stands_at flow edge.from) i ≡ true) is (All-contains (λ (e : FlowEdge). IsTrue (has_scope flow (stands_at flow e.from) e.instr)) flow.edges edge at_edge.flow_is.scopes at_edge.among)) in
      stand_in variables standing.variables state.frame.variables at_edge.runs.stands.frame.variables
      (and_right (are_distinct variables) (list_all (λ variable. list_any (nat_eq variable) standing.variables) variables) scope)

  pub named_once : (variables : List ℕ) → edge.instr ≡ Leave variables → AreOnce variables
  named_once variables is =
      let scope = subst (λ (i : Instr). has_scope flow (stands_at flow edge.from) i ≡ true) is (All-contains (λ (e : FlowEdge). IsTrue (has_scope flow (stands_at flow e.from) e.instr)) flow.edges edge at_edge.flow_is.scopes at_edge.among) in
      once_in variables (and_left (are_distinct variables) (list_all (λ variable. list_any (nat_eq variable) (stands_at flow edge.from).variables) variables) scope)
