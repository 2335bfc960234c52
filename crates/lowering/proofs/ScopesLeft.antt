-- One block, and one register, in front of those that are left.
use Rattle.std.proofs.Common.{◌≡◌, ℕ, zero, suc, ◌+◌, ◌-◌, ◌<◌, take, drop, arith, Bool, true, false, not, List, [], ◌∷◌, ◌++◌, map, filter, Option, None, Some, nat_eq, refl, sym, ap, ◌∙◌, append_assoc, if◌then◌else◌}
use Rattle.std.proofs.lemmas.List.{map-append}
use Rattle.std.specs.List.{list_any}
use Rattle.cbase.specs.declared.place.Place.{Place}
use Rattle.cbase.specs.declared.tree.expr.Expr.{Expr}
use Rattle.cbase.specs.declared.tree.init.Init.{Init}
use Rattle.cbase.specs.declared.tree.stmt.Stmt.{Stmt}
use Rattle.c_machine.specs.State.{is_named}
use Rattle.flow.specs.declared.flow_graph.Width.{Width}
use Rattle.simulation.specs.Names.{Name, names_of, variables_of, variable_in}
use Rattle.lowering.specs.Moves.{MoveOf}
use Rattle.lowering.specs.Placing.{leaves, registers_left}

pub next_scope : (front : List ℕ) (scope : List Name) (scopes : List (List Name)) →
    (front ++ variables_of scope) ++ variables_of (names_of scopes) ≡ front ++ variables_of (names_of (scope ∷ scopes))
next_scope front scope scopes =
    append_assoc front (variables_of scope) (variables_of (names_of scopes))
    ∙ ap (λ (rest : List ℕ). front ++ rest) (sym (map-append (λ (name : Name). name.variable) scope (names_of scopes)))

found_first : (scope rest : List Name) (token variable : ℕ) → variable_in scope token ≡ Some variable → variable_in (scope ++ rest) token ≡ Some variable
found_first [] rest token variable is = absurd cc
found_first (name ∷ scope) rest token variable is = at (is_named name.token token) (variable_in scope token) (variable_in (scope ++ rest) token) (found_first scope rest token variable) is
  where
    at : (here : Bool) (one other : Option ℕ) → (one ≡ Some variable → other ≡ Some variable) →
        (if here then Some name.variable else one) ≡ Some variable → (if here then Some name.variable else other) ≡ Some variable
    at true one other onward is = is
    at false one other onward is = onward is

found_behind : (scope rest : List Name) (token : ℕ) → variable_in scope token ≡ None → variable_in (scope ++ rest) token ≡ variable_in rest token
found_behind [] rest token none = refl
found_behind (name ∷ scope) rest token none = at (is_named name.token token) (variable_in scope token) (variable_in (scope ++ rest) token) (found_behind scope rest token) none
  where
    at : (here : Bool) (one other : Option ℕ) → (one ≡ None → other ≡ variable_in rest token) →
        (if here then Some name.variable else one) ≡ None → (if here then Some name.variable else other) ≡ variable_in rest token
    at true one other onward is = absurd cc
    at false one other onward is = onward is

pub here : (scope : List Name) (scopes : List (List Name)) (token variable : ℕ) → variable_in scope token ≡ Some variable → variable_in (names_of (scope ∷ scopes)) token ≡ Some variable
here scope scopes token variable is = found_first scope (names_of scopes) token variable is

pub behind : (scope : List Name) (scopes : List (List Name)) (token : ℕ) → variable_in scope token ≡ None →
    variable_in (names_of (scope ∷ scopes)) token ≡ variable_in (names_of scopes) token
behind scope scopes token none = found_behind scope (names_of scopes) token none

pub in_all : (scopes : List (List Name)) (statics : List Name) (token variable : ℕ) → variable_in (names_of scopes) token ≡ Some variable →
    variable_in (names_of scopes ++ statics) token ≡ Some variable
in_all scopes statics token variable is = found_first (names_of scopes) statics token variable is

pub in_statics : (scopes : List (List Name)) (statics : List Name) (token : ℕ) → variable_in (names_of scopes) token ≡ None →
    variable_in (names_of scopes ++ statics) token ≡ variable_in statics token
in_statics scopes statics token none = found_behind (names_of scopes) statics token none

pub next_register : (front : List ℕ) (one : Width) (stands kept : List Width) →
    (front ++ registers_left (one ∷ []) kept) ++ registers_left stands kept ≡ front ++ registers_left (one ∷ stands) kept
next_register front one stands kept = at (not (list_any (λ (other : Width). nat_eq other.register one.register) kept))
  where
    at : (left : Bool) →
        (front ++ map (λ (one : Width). one.register) (if left then one ∷ [] else [])) ++ registers_left stands kept
        ≡ front ++ map (λ (one : Width). one.register)
        (if left then one ∷ filter (λ one. not (list_any (λ other. nat_eq other.register one.register) kept)) stands
        else filter (λ one. not (list_any (λ other. nat_eq other.register one.register) kept)) stands)
    at true = append_assoc front (one.register ∷ []) (registers_left stands kept)
    at false = append_assoc front [] (registers_left stands kept)

-- blocks are left one after the other, from the outermost one
abbrev leaving : Place → List Name → MoveOf Expr Stmt Init
leaving word names = leaves names word

one_more : {A B : Type 0} (f : A → B) (k : ℕ) (items : List A) (item : A) (rest : List A) (line : List B) → drop k items ≡ item ∷ rest →
    map f (take k items) ++ (f item ∷ line) ≡ map f (take (suc k) items) ++ line
one_more f zero [] item rest line is = absurd cc
one_more f (suc k) [] item rest line is = absurd cc
one_more f zero (one ∷ items) item rest line is = let same : item ≡ one = cc in ap (λ first. f first ∷ line) same
one_more f (suc k) (one ∷ items) item rest line is = ap (λ moves. f one ∷ moves) (one_more f k items item rest line is)

pub leave_less : (word : Place) (scopes : List (List Name)) (left : ℕ) (scope names : List Name) (line next : List (MoveOf Expr Stmt Init)) → 0 < left →
    drop (left - 1) scopes ≡ scope ∷ drop (left - 1 + 1) scopes → names ≡ scope → next ≡ leaving word names ∷ line →
    map (leaving word) (take (left - 1) scopes) ++ next ≡ map (leaving word) (take left scopes) ++ line
leave_less word scopes left scope names line next some here same is =
    let behind : suc (left - 1) ≡ left = omega (arith, some) in
    ap (λ (moves : List (MoveOf Expr Stmt Init)). map (leaving word) (take (left - 1) scopes) ++ moves) (is ∙ ap (λ (names : List Name). leaving word names ∷ line) same)
    ∙ one_more (leaving word) (left - 1) scopes scope (drop (left - 1 + 1) scopes) line here
    ∙ ap (λ (k : ℕ). map (leaving word) (take k scopes) ++ line) behind
