-- Objects of the source and variables of the graph, where blocks are entered and left.
use Rattle.std.proofs.Common.{◌≡◌, ◌≢◌, ℕ, List, [], ◌∷◌, ◌++◌, map, Bool, true, false, not, refl, sym, ap, subst, ◌∙◌, ◌⊎◌, inl, inr, Some, None, Option, nat_eq, nat_lt, if◌then◌else◌, cond, Contains, slice_get}
use Rattle.std.specs.List.{list_any}
use Rattle.std.proofs.lemmas.Bool.{eq-eqb, ne_eqb, and_parts, and_from, not-true, not_from_false, both_ways, or_left, or_parts}
use Rattle.std.proofs.lemmas.Option.{same_Some}
use Rattle.bytes_core.specs.declared.block.Block.{Block}
use Rattle.bytes_core.specs.Release.{without}
use Rattle.c_machine.specs.declared.variable.Variable.{Variable}
use Rattle.c_machine.specs.State.{Scope, Frame, block_in, blocks_of, objects_of, is_named}
use Rattle.c_machine.specs.Step.{without_objects}
use Rattle.flow.specs.Holding.{Owned, block_of, put_owned, left}
use Rattle.flow.specs.Machine.{without_variables, without_block}
use Rattle.simulation.specs.Names.{Name, names_of, variables_of, variable_in, is_other, are_new}
use Rattle.simulation.specs.Worlds.{AreNames, AreScopes, IsOwned, AreOwned, AreSame}
use Rattle.simulation.proofs.Roots.{first_in, behind_in, in_cons, in_none}

-- blocks behind one another
names-append : (owned : List Owned) (names names' : List Name) (scope scope' : Scope) → AreNames owned names scope → AreNames owned names' scope' →
    AreNames owned (names ++ names') (scope ++ scope')
names-append owned [] names' [] scope' are are' = are'
names-append owned [] names' (object ∷ scope) scope' are are' = absurd are
names-append owned (name ∷ names) names' [] scope' are are' = absurd are
names-append owned (name ∷ names) names' (object ∷ scope) scope' are are' = (are.0, are.1, names-append owned names names' scope scope' are.2 are')

pub names-flat : (owned : List Owned) (scopes : List (List Name)) (frame : Frame) → AreScopes owned scopes frame → AreNames owned (names_of scopes) (objects_of frame)
names-flat owned [] [] are = tt
names-flat owned [] (scope ∷ frame) are = absurd are
names-flat owned (names ∷ scopes) [] are = absurd are
names-flat owned (names ∷ scopes) (scope ∷ frame) are = names-append owned names (names_of scopes) scope (objects_of frame) are.0 (names-flat owned scopes frame are.1)

-- the object of a name
pub object_found : (owned : List Owned) (names : List Name) (scope : Scope) (token variable : ℕ) → AreNames owned names scope → variable_in names token ≡ Some variable →
    (block : ℕ) × (block_in scope token ≡ Some block) × (block_of owned variable ≡ Some block)
object_found owned [] [] token variable are found = absurd (cc)
object_found owned [] (object ∷ scope) token variable are found = absurd are
object_found owned (name ∷ names) [] token variable are found = absurd are
object_found owned (name ∷ names) (object ∷ scope) token variable are found =
    by_name (is_named name.token token) (ap (λ (n : Option ℕ). is_named n token) are.0) found (object_found owned names scope token variable are.2)
  where
    by_name : (here : Bool) → is_named object.token token ≡ here → (if here then Some name.variable else variable_in names token) ≡ Some variable →
        (variable_in names token ≡ Some variable → (block : ℕ) × (block_in scope token ≡ Some block) × (block_of owned variable ≡ Some block)) →
        (block : ℕ) × (block_in (object ∷ scope) token ≡ Some block) × (block_of owned variable ≡ Some block)
    by_name true is found' behind =
        (object.block, ap (λ (b : Bool). if b then Some object.block else block_in scope token) is, subst (λ (x : ℕ). block_of owned x ≡ Some object.block) (same_Some name.variable variable found') are.1)
    by_name false is found' behind =
        let more = behind found' in
        (more.0, ap (λ (b : Bool). if b then Some object.block else block_in scope token) is ∙ more.1, more.2)

pub object_missed : (owned : List Owned) (names : List Name) (scope : Scope) (token : ℕ) → AreNames owned names scope → variable_in names token ≡ None → block_in scope token ≡ None
object_missed owned [] [] token are found = refl
object_missed owned [] (object ∷ scope) token are found = absurd are
object_missed owned (name ∷ names) [] token are found = absurd are
object_missed owned (name ∷ names) (object ∷ scope) token are found =
    by_name (is_named name.token token) (ap (λ (n : Option ℕ). is_named n token) are.0) found (object_missed owned names scope token are.2)
  where
    by_name : (here : Bool) → is_named object.token token ≡ here → (if here then Some name.variable else variable_in names token) ≡ None →
        (variable_in names token ≡ None → block_in scope token ≡ None) → (if is_named object.token token then Some object.block else block_in scope token) ≡ None
    by_name true is found' behind = absurd (cc)
    by_name false is found' behind = ap (λ (b : Bool). if b then Some object.block else block_in scope token) is ∙ behind found'

-- a variable that is none of the names stands nowhere
pub other_first : (variable : ℕ) (name : Name) (names : List Name) → is_other variable (name ∷ names) ≡ true → (name.variable ≢ variable) × (is_other variable names ≡ true)
other_first variable name names other =
    let parts = and_parts (not (nat_eq name.variable variable)) (is_other variable names) other in
    (λ same. both_ways (nat_eq name.variable variable) (not-true (nat_eq name.variable variable) parts.0) (eq-eqb name.variable variable same), parts.1)

owned_differ : (one : Owned) (names : List Name) (scope : Scope) (variable : ℕ) → IsOwned one names scope → is_other variable names ≡ true → one.variable ≢ variable
owned_differ one [] scope variable is other = absurd is
owned_differ one (name ∷ names) [] variable is other = absurd is
owned_differ one (name ∷ names) (object ∷ scope) variable (inl same) other = λ at. (other_first variable name names other).0 (sym same.0 ∙ at)
owned_differ one (name ∷ names) (object ∷ scope) variable (inr is) other = owned_differ one names scope variable is (other_first variable name names other).1

pub other_missed : (owned : List Owned) (names : List Name) (scope : Scope) (variable : ℕ) → AreOwned owned names scope → is_other variable names ≡ true → block_of owned variable ≡ None
other_missed [] names scope variable are other = refl
other_missed (one ∷ owned) names scope variable are other =
    rw (ne_eqb one.variable variable (owned_differ one names scope variable are.0 other)) (other_missed owned names scope variable are.1 other)

-- objects and variables have the same blocks
block_there : (owned : List Owned) (variable block : ℕ) → block_of owned variable ≡ Some block → Contains (map (λ one. one.block) owned) block
block_there [] variable block found = absurd (cc)
block_there (one ∷ owned) variable block found = by_test (nat_eq one.variable variable) found (block_there owned variable block)
  where
    by_test : (here : Bool) → (if here then Some one.block else block_of owned variable) ≡ Some block →
        (block_of owned variable ≡ Some block → Contains (map (λ other. other.block) owned) block) → Contains (one.block ∷ map (λ other. other.block) owned) block
    by_test true is more = first_in (map (λ other. other.block) owned) one.block block (same_Some one.block block is)
    by_test false is more = behind_in (map (λ other. other.block) owned) one.block block (more is)

objects_there : (owned : List Owned) (names : List Name) (scope : Scope) (block : ℕ) → AreNames owned names scope → Contains (blocks_of scope) block →
    Contains (map (λ one. one.block) owned) block
objects_there owned [] [] block are there = absurd (in_none block there)
objects_there owned [] (object ∷ scope) block are there = absurd are
objects_there owned (name ∷ names) [] block are there = absurd are
objects_there owned (name ∷ names) (object ∷ scope) block are there =
    by_place (in_cons (blocks_of scope) object.block block there) (objects_there owned names scope block are.2)
  where
    by_place : (object.block ≡ block) ⊎ Contains (blocks_of scope) block → (Contains (blocks_of scope) block → Contains (map (λ one. one.block) owned) block) →
        Contains (map (λ one. one.block) owned) block
    by_place (inl same) more = block_there owned name.variable block (are.1 ∙ ap (λ (b : ℕ). Some b) same)
    by_place (inr behind) more = more behind

owned_back : (one : Owned) (names : List Name) (scope : Scope) → IsOwned one names scope → Contains (blocks_of scope) one.block
owned_back one [] scope is = absurd is
owned_back one (name ∷ names) [] is = absurd is
owned_back one (name ∷ names) (object ∷ scope) (inl same) = first_in (blocks_of scope) object.block one.block (sym same.1)
owned_back one (name ∷ names) (object ∷ scope) (inr is) = behind_in (blocks_of scope) object.block one.block (owned_back one names scope is)

objects_back : (owned : List Owned) (names : List Name) (scope : Scope) (block : ℕ) → AreOwned owned names scope → Contains (map (λ one. one.block) owned) block →
    Contains (blocks_of scope) block
objects_back [] names scope block are there = absurd (in_none block there)
objects_back (one ∷ owned) names scope block are there =
    by_place (in_cons (map (λ other. other.block) owned) one.block block there) (objects_back owned names scope block are.1)
  where
    by_place : (one.block ≡ block) ⊎ Contains (map (λ other. other.block) owned) block → (Contains (map (λ other. other.block) owned) block → Contains (blocks_of scope) block) →
        Contains (blocks_of scope) block
    by_place (inl same) more = subst (λ (b : ℕ). Contains (blocks_of scope) b) same (owned_back one names scope are.0)
    by_place (inr behind) more = more behind

pub same_objects : (owned : List Owned) (scopes : List (List Name)) (frame : Frame) → AreScopes owned scopes frame → AreOwned owned (names_of scopes) (objects_of frame) →
    AreSame (blocks_of (objects_of frame)) (map (λ one. one.block) owned)
same_objects owned scopes frame are are' block =
    (objects_there owned (names_of scopes) (objects_of frame) block (names-flat owned scopes frame are), objects_back owned (names_of scopes) (objects_of frame) block are')

-- a variable is put beside the others
put_here : (new : Owned) (owned : List Owned) → block_of owned new.variable ≡ None → block_of (put_owned new owned) new.variable ≡ Some new.block
put_here new [] missed = rw (eq-eqb new.variable new.variable refl) refl
put_here new (first ∷ rest) missed = by_order (nat_lt new.variable first.variable) (nat_eq first.variable new.variable) refl missed (put_here new rest)
  where
    by_order : (less same : Bool) → nat_eq first.variable new.variable ≡ same → (if same then Some first.block else block_of rest new.variable) ≡ None →
        (block_of rest new.variable ≡ None → block_of (put_owned new rest) new.variable ≡ Some new.block) → block_of (if less then new ∷ first ∷ rest else first ∷ put_owned new rest) new.variable ≡ Some new.block
    by_order true same is missed' more = rw (eq-eqb new.variable new.variable refl) refl
    by_order false true is missed' more = absurd (cc)
    by_order false false is missed' more = rw is (more missed')

put_other : (new : Owned) (owned : List Owned) (variable : ℕ) → new.variable ≢ variable → block_of (put_owned new owned) variable ≡ block_of owned variable
put_other new [] variable differ = rw (ne_eqb new.variable variable differ) refl
put_other new (first ∷ rest) variable differ = by_order (nat_lt new.variable first.variable) (put_other new rest variable differ)
  where
    by_order : (less : Bool) → block_of (put_owned new rest) variable ≡ block_of rest variable → block_of (if less then new ∷ first ∷ rest else first ∷ put_owned new rest) variable ≡ block_of (first ∷ rest) variable
    by_order true more = rw (ne_eqb new.variable variable differ) refl
    by_order false more = ap (λ (found : Option ℕ). if nat_eq first.variable variable then Some first.block else found) more

names-put : (new : Owned) (owned : List Owned) (names : List Name) (scope : Scope) → is_other new.variable names ≡ true → AreNames owned names scope →
    AreNames (put_owned new owned) names scope
names-put new owned [] [] other are = tt
names-put new owned [] (object ∷ scope) other are = absurd are
names-put new owned (name ∷ names) [] other are = absurd are
names-put new owned (name ∷ names) (object ∷ scope) other are =
    let parts = other_first new.variable name names other in
    (are.0, put_other new owned name.variable (λ same. parts.0 (sym same)) ∙ are.1, names-put new owned names scope parts.1 are.2)

owned-put : (new : Owned) (owned : List Owned) (names names' : List Name) (scope scope' : Scope) → IsOwned new names' scope' →
    ((one : Owned) → IsOwned one names scope → IsOwned one names' scope') → AreOwned owned names scope → AreOwned (put_owned new owned) names' scope'
owned-put new [] names names' scope scope' is each are = (is, tt)
owned-put new (first ∷ rest) names names' scope scope' is each are =
    by_order (nat_lt new.variable first.variable) (weaker rest are.1) (owned-put new rest names names' scope scope' is each are.1)
  where
    weaker : (owned : List Owned) → AreOwned owned names scope → AreOwned owned names' scope'
    weaker [] are' = tt
    weaker (one ∷ owned) are' = (each one are'.0, weaker owned are'.1)

    by_order : (less : Bool) → AreOwned rest names' scope' → AreOwned (put_owned new rest) names' scope' →
        AreOwned (if less then new ∷ first ∷ rest else first ∷ put_owned new rest) names' scope'
    by_order true behind more = (is, (each first are.0, behind))
    by_order false behind more = (each first are.0, more)

-- variables are left
left_other : (gone : List ℕ) (owned : List Owned) (variable : ℕ) → list_any (nat_eq variable) gone ≡ false → block_of (left gone owned) variable ≡ block_of owned variable
left_other gone [] variable stays = refl
left_other gone (first ∷ rest) variable stays = by_test (list_any (nat_eq first.variable) gone) refl (left_other gone rest variable stays)
  where
    by_test : (goes : Bool) → list_any (nat_eq first.variable) gone ≡ goes → block_of (left gone rest) variable ≡ block_of rest variable →
        block_of (cond (not goes) (first ∷ left gone rest) (left gone rest)) variable ≡ block_of (first ∷ rest) variable
    by_test false is more = ap (λ (found : Option ℕ). if nat_eq first.variable variable then Some first.block else found) more
    by_test true is more =
        let differ : first.variable ≢ variable = λ same. both_ways (list_any (nat_eq variable) gone) stays (subst (λ (r : ℕ). list_any (nat_eq r) gone ≡ true) same is) in
        rw (ne_eqb first.variable variable differ) more

pub without_same : (owned : List Owned) (names : List Name) (scope : Scope) (memory : List Block) → AreNames owned names scope →
    without_variables owned (variables_of names) memory ≡ without_objects (blocks_of scope) memory
without_same owned [] [] memory are = refl
without_same owned [] (object ∷ scope) memory are = absurd are
without_same owned (name ∷ names) [] memory are = absurd are
without_same owned (name ∷ names) (object ∷ scope) memory are =
    ap (λ (found : Option ℕ). without_variables owned (variables_of names) (without_block found memory)) are.1
    ∙ without_same owned names scope (without memory object.block (slice_get memory object.block)) are.2

other_front : (variable : ℕ) (names others : List Name) → is_other variable (names ++ others) ≡ true → (is_other variable names ≡ true) × (is_other variable others ≡ true)
other_front variable [] others other = (refl, other)
other_front variable (name ∷ names) others other =
    let first = and_parts (not (nat_eq name.variable variable)) (is_other variable (names ++ others)) other in
    let more = other_front variable names others first.1 in
    (and_from (not (nat_eq name.variable variable)) (is_other variable names) first.0 more.0, more.1)

pub other_middle : (variable : ℕ) (name : Name) (names others : List Name) → name.variable ≢ variable → is_other variable (names ++ others) ≡ true →
    is_other variable ((names ++ name ∷ []) ++ others) ≡ true
other_middle variable name [] others differ other = and_from (not (nat_eq name.variable variable)) (is_other variable others) (not_from_false (nat_eq name.variable variable) (ne_eqb name.variable variable differ)) other
other_middle variable name (first ∷ names) others differ other =
    let parts = and_parts (not (nat_eq first.variable variable)) (is_other variable (names ++ others)) other in
    and_from (not (nat_eq first.variable variable)) (is_other variable ((names ++ name ∷ []) ++ others)) parts.0 (other_middle variable name names others differ parts.1)

scopes-put : (new : Owned) (owned : List Owned) (scopes : List (List Name)) (frame : Frame) → is_other new.variable (names_of scopes) ≡ true → AreScopes owned scopes frame →
    AreScopes (put_owned new owned) scopes frame
scopes-put new owned [] [] other are = tt
scopes-put new owned [] (scope ∷ frame) other are = absurd are
scopes-put new owned (names ∷ scopes) [] other are = absurd are
scopes-put new owned (names ∷ scopes) (scope ∷ frame) other are =
    let parts = other_front new.variable names (names_of scopes) other in
    (names-put new owned names scope parts.0 are.0, scopes-put new owned scopes frame parts.1 are.1)

-- an object more in a block
owned-new : (owned : List Owned) (names rest : List Name) (scope rest' : Scope) (name : Name) (object : Variable) (one : Owned) → AreNames owned names scope →
    one.variable ≡ name.variable → one.block ≡ object.block → IsOwned one ((names ++ name ∷ []) ++ rest) ((scope ++ object ∷ []) ++ rest')
owned-new owned [] rest [] rest' name object one are is is' = inl (is, is')
owned-new owned [] rest (first ∷ scope) rest' name object one are is is' = absurd are
owned-new owned (other ∷ names) rest [] rest' name object one are is is' = absurd are
owned-new owned (other ∷ names) rest (first ∷ scope) rest' name object one are is is' = inr (owned-new owned names rest scope rest' name object one are.2 is is')

owned-more : (owned : List Owned) (names rest : List Name) (scope rest' : Scope) (name : Name) (object : Variable) (one : Owned) → AreNames owned names scope →
    IsOwned one (names ++ rest) (scope ++ rest') → IsOwned one ((names ++ name ∷ []) ++ rest) ((scope ++ object ∷ []) ++ rest')
owned-more owned [] rest [] rest' name object one are is = inr is
owned-more owned [] rest (first ∷ scope) rest' name object one are is = absurd are
owned-more owned (other ∷ names) rest [] rest' name object one are is = absurd are
owned-more owned (other ∷ names) rest (first ∷ scope) rest' name object one are (inl same) = inl same
owned-more owned (other ∷ names) rest (first ∷ scope) rest' name object one are (inr is) = inr (owned-more owned names rest scope rest' name object one are.2 is)

pub scopes-enter : (owned : List Owned) (names : List Name) (scopes : List (List Name)) (scope : Scope) (frame : Frame) (name : Name) (object : Variable) →
    object.token ≡ name.token → is_other name.variable (names ++ names_of scopes) ≡ true →
    AreScopes owned (names ∷ scopes) (scope ∷ frame) → AreOwned owned (names_of (names ∷ scopes)) (objects_of (scope ∷ frame)) →
    AreScopes (put_owned (record { variable = name.variable; block = object.block }) owned) ((names ++ name ∷ []) ∷ scopes) ((scope ++ object ∷ []) ∷ frame)
    × AreOwned (put_owned (record { variable = name.variable; block = object.block }) owned) (names_of ((names ++ name ∷ []) ∷ scopes)) (objects_of ((scope ++ object ∷ []) ∷ frame))
scopes-enter owned names scopes scope frame name object token other are are' =
    let new : Owned = record { variable = name.variable; block = object.block } in
    let missed : block_of owned name.variable ≡ None = other_missed owned (names_of (names ∷ scopes)) (objects_of (scope ∷ frame)) name.variable are' other in
    let both = scopes-put new owned (names ∷ scopes) (scope ∷ frame) other are in (
      (names-append (put_owned new owned) names (name ∷ []) scope (object ∷ []) both.0 (token, put_here new owned missed, tt), both.1),
      owned-put new owned (names ++ names_of scopes) ((names ++ name ∷ []) ++ names_of scopes) (scope ++ objects_of frame) ((scope ++ object ∷ []) ++ objects_of frame)
          (owned-new owned names (names_of scopes) scope (objects_of frame) name object new are.0 refl refl)
          (λ one. owned-more owned names (names_of scopes) scope (objects_of frame) name object one are.0) are',
    )

-- the innermost block is left
abbrev EachIsOther : List Name → List Name → Type 0
EachIsOther [] others = Unit {0}
EachIsOther (name ∷ names) others = (is_other name.variable others ≡ true) × EachIsOther names others

new_others : (names others others' : List Name) → ((variable : ℕ) → is_other variable others' ≡ true → is_other variable others ≡ true) → are_new names others' ≡ true → EachIsOther names others
new_others [] others others' each new = tt
new_others (name ∷ names) others others' each new =
    let parts = and_parts (is_other name.variable others') (are_new names (name ∷ others')) new in
    (each name.variable parts.0, new_others names others (name ∷ others') (λ variable other. each variable (other_first variable name others' other).1) parts.1)

not_gone : (gone : List Name) (name : Name) (names : List Name) → EachIsOther gone (name ∷ names) → (list_any (nat_eq name.variable) (variables_of gone) ≡ false) × EachIsOther gone names
not_gone [] name names each = (refl, tt)
not_gone (first ∷ gone) name names each =
    let here = other_first first.variable name names each.0 in
    let more = not_gone gone name names each.1 in
    (rw (ne_eqb name.variable first.variable here.0) more.0, (here.1, more.1))

names-left : (gone : List Name) (owned : List Owned) (names : List Name) (scope : Scope) → EachIsOther gone names → AreNames owned names scope →
    AreNames (left (variables_of gone) owned) names scope
names-left gone owned [] [] each are = tt
names-left gone owned [] (object ∷ scope) each are = absurd are
names-left gone owned (name ∷ names) [] each are = absurd are
names-left gone owned (name ∷ names) (object ∷ scope) each are =
    let stays = not_gone gone name names each in
    (are.0, left_other (variables_of gone) owned name.variable stays.0 ∙ are.1, names-left gone owned names scope stays.1 are.2)

each_parts : (gone names others : List Name) → EachIsOther gone (names ++ others) → EachIsOther gone names × EachIsOther gone others
each_parts [] names others each = (tt, tt)
each_parts (first ∷ gone) names others each =
    let here = other_front first.variable names others each.0 in
    let more = each_parts gone names others each.1 in
    ((here.0, more.0), (here.1, more.1))

scopes-left : (gone : List Name) (owned : List Owned) (scopes : List (List Name)) (frame : Frame) → EachIsOther gone (names_of scopes) → AreScopes owned scopes frame →
    AreScopes (left (variables_of gone) owned) scopes frame
scopes-left gone owned [] [] each are = tt
scopes-left gone owned [] (scope ∷ frame) each are = absurd are
scopes-left gone owned (names ∷ scopes) [] each are = absurd are
scopes-left gone owned (names ∷ scopes) (scope ∷ frame) each are =
    let parts = each_parts gone names (names_of scopes) each in
    (names-left gone owned names scope parts.0 are.0, scopes-left gone owned scopes frame parts.1 are.1)

owned-fewer : (names rest : List Name) (scope rest' : Scope) (owned : List Owned) (one : Owned) → AreNames owned names scope →
    list_any (nat_eq one.variable) (variables_of names) ≡ false → IsOwned one (names ++ rest) (scope ++ rest') → IsOwned one rest rest'
owned-fewer [] rest [] rest' owned one are stays is = is
owned-fewer [] rest (object ∷ scope) rest' owned one are stays is = absurd are
owned-fewer (name ∷ names) rest [] rest' owned one are stays is = absurd are
owned-fewer (name ∷ names) rest (object ∷ scope) rest' owned one are stays (inl same) =
    absurd (both_ways (list_any (nat_eq one.variable) (variables_of (name ∷ names))) stays
    (or_left (nat_eq one.variable name.variable) (list_any (nat_eq one.variable) (variables_of names)) (eq-eqb one.variable name.variable same.0)))
owned-fewer (name ∷ names) rest (object ∷ scope) rest' owned one are stays (inr is) =
    owned-fewer names rest scope rest' owned one are.2 (or_parts (nat_eq one.variable name.variable) (list_any (nat_eq one.variable) (variables_of names)) stays).1 is

owned-left : (gone : List ℕ) (owned : List Owned) (names names' : List Name) (scope scope' : Scope) →
    ((one : Owned) → list_any (nat_eq one.variable) gone ≡ false → IsOwned one names scope → IsOwned one names' scope') → AreOwned owned names scope →
    AreOwned (left gone owned) names' scope'
owned-left gone [] names names' scope scope' each are = tt
owned-left gone (first ∷ rest) names names' scope scope' each are =
    by_test (list_any (nat_eq first.variable) gone) refl (owned-left gone rest names names' scope scope' each are.1)
  where
    by_test : (goes : Bool) → list_any (nat_eq first.variable) gone ≡ goes → AreOwned (left gone rest) names' scope' →
        AreOwned (cond (not goes) (first ∷ left gone rest) (left gone rest)) names' scope'
    by_test false is more = (each first is are.0, more)
    by_test true is more = more

pub scopes-leave : (owned : List Owned) (names : List Name) (scopes : List (List Name)) (scope : Scope) (frame : Frame) → are_new names (names_of scopes) ≡ true →
    AreScopes owned (names ∷ scopes) (scope ∷ frame) → AreOwned owned (names_of (names ∷ scopes)) (objects_of (scope ∷ frame)) →
    AreScopes (left (variables_of names) owned) scopes frame × AreOwned (left (variables_of names) owned) (names_of scopes) (objects_of frame)
scopes-leave owned names scopes scope frame new are are' = (
  scopes-left names owned scopes frame (new_others names (names_of scopes) (names_of scopes) (λ variable other. other) new) are.1,
  owned-left (variables_of names) owned (names ++ names_of scopes) (names_of scopes) (scope ++ objects_of frame) (objects_of frame)
      (λ one stays. owned-fewer names (names_of scopes) scope (objects_of frame) owned one are.0 stays) are',
)
