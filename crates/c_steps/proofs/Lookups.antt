-- What a table of names finds.
use Rattle.std.proofs.Common.{◌≡◌, ℕ, Bool, true, false, [], ◌∷◌, ◌++◌, refl, sym, ap, ◌∙◌, Option, None, Some, nat_eq}
use Rattle.std.specs.Prelude.{if◌then◌else◌}
use Rattle.std.specs.Ordering.{nat_cmp}
use Rattle.std.specs.BTreeMap.{BTreeMap, get}
use Rattle.c_machine.specs.declared.variable.Variable.{Variable}
use Rattle.c_machine.specs.State.{Scope, Frame, is_named, block_in, objects_of}
use Rattle.c_steps.specs.Statics.{or_else, FindsBlocks}

-- the block of an object alone
abbrev pub block_here : Variable → ℕ → Option ℕ
block_here variable token = if is_named variable.token token then Some variable.block else None

named_first : (named : Bool) (block : ℕ) (one two other : Option ℕ) → one ≡ or_else two other →
    (if named then Some block else one) ≡ or_else (if named then Some block else two) other
named_first true block one two other same = refl
named_first false block one two other same = same

-- objects behind others are found where none of these is
pub found_behind_others : (scope other : Scope) (token : ℕ) → block_in (scope ++ other) token ≡ or_else (block_in scope token) (block_in other token)
found_behind_others [] other token = refl
found_behind_others (variable ∷ rest) other token =
    named_first (is_named variable.token token) variable.block (block_in (rest ++ other) token) (block_in rest token) (block_in other token)
    (found_behind_others rest other token)

found_nothing : (found : Option ℕ) → or_else found None ≡ found
found_nothing None = refl
found_nothing (Some block) = refl

-- an object without a name changes nothing
pub finds_nameless : (variables : Scope) (blocks : BTreeMap ℕ ℕ) (variable : Variable) → FindsBlocks variables blocks → variable.token ≡ None →
    FindsBlocks (variables ++ variable ∷ []) blocks
finds_nameless variables blocks variable finds nameless token =
    finds token
    ∙ (sym (found_nothing (block_in variables token))
    ∙ (ap (λ (name : Option ℕ). or_else (block_in variables token) (if is_named name token then Some variable.block else None)) (sym nameless)
    ∙ sym (found_behind_others variables (variable ∷ []) token)))

-- an object with a name is found, where its name has no block yet
pub finds_named : (variables : Scope) (old new : BTreeMap ℕ ℕ) (variable : Variable) (name : ℕ) → FindsBlocks variables old → variable.token ≡ Some name →
    ((token : ℕ) → get nat_cmp new token ≡ or_else (get nat_cmp old token) (if nat_eq name token then Some variable.block else None)) →
    FindsBlocks (variables ++ variable ∷ []) new
finds_named variables old new variable name finds named noted token =
    noted token
    ∙ (ap (λ (found : Option ℕ). or_else found (if nat_eq name token then Some variable.block else None)) (finds token)
    ∙ (ap (λ (own : Option ℕ). or_else (block_in variables token) (if is_named own token then Some variable.block else None)) (sym named)
    ∙ sym (found_behind_others variables (variable ∷ []) token)))

-- a name is looked for in one block, and behind it
pub found_in_front : (scope : Scope) (frame : Frame) (token block : ℕ) → block_in scope token ≡ Some block → block_in (objects_of (scope ∷ frame)) token ≡ Some block
found_in_front scope frame token block is =
    found_behind_others scope (objects_of frame) token ∙ ap (λ (found : Option ℕ). or_else found (block_in (objects_of frame) token)) is

pub found_behind_scope : (scope : Scope) (frame : Frame) (token : ℕ) → block_in scope token ≡ None → block_in (objects_of (scope ∷ frame)) token ≡ block_in (objects_of frame) token
found_behind_scope scope frame token is =
    found_behind_others scope (objects_of frame) token ∙ ap (λ (found : Option ℕ). or_else found (block_in (objects_of frame) token)) is
