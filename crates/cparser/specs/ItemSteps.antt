-- Items of a file (C11 6.9): a whole row is an item.
use Rattle.std.specs.Prelude.{ℕ, ◌-◌, Bool, false, if◌then◌else◌, List, [], ◌∷◌, codes}
use Rattle.cbase.specs.declared.tree.decl.Storage.{Storage}
use Rattle.cevents.specs.Workshop.{bytes_at}
use Rattle.cevents.specs.declared.event.Event.TheVariants as event
use Rattle.cgrammar.specs.Outcomes.{has_mark, has_first}
use Rattle.cgrammar.specs.ReadTypes.{star_count}
use Rattle.cgrammar.specs.Scope.{declared_around}
use Rattle.cgrammar.specs.Terminals.{Terminal, is_mark, is_name}
use Rattle.cgrammar.specs.TypeWords.{declares_typedef}
use Rattle.cparser.specs.DeclarationSteps.{specifiers, storage_read, parameters, declaration}
use Rattle.cparser.specs.State.{State, rest, goes, with_scope, skipped, lost}
use Rattle.cparser.specs.StatementSteps.{block_items}
use Rattle.cparser.specs.Steps.{Inner, mark, write, leave}

-- The name of a function is declared around its parameters, in whose scope its body lies (C11 6.2.1p4, 6.2.1p7).
unfoldable pub declare_around : ℕ → Bool → State → State
declare_around at typedef s = if goes s then with_scope (declared_around (bytes_at s.row at) typedef s.scope) s else s

-- A function's definition whose last `}` is read (C11 6.9.1).
unfoldable pub defined : Storage → State → State
defined storage s = write (event.FunctionItem storage (s.at - 1)) s

-- what stands in its braces
unfoldable pub definition_inside : Inner → Storage → ℕ → State → State
definition_inside inner storage at s =
    defined storage (leave (block_items inner (write event.NoStatements (declare_around at (declares_typedef storage) s))))

unfoldable pub definition_body : Inner → Storage → ℕ → State → State
definition_body inner storage at s = definition_inside inner storage at (mark (codes "{") s)

unfoldable pub definition_with : Inner → Storage → ℕ → ℕ → State → State
definition_with inner storage at stars s =
    definition_body inner storage at (write (event.Function at stars) (parameters inner (mark (codes "(") (write event.NoDeclarators s))))

abbrev pub definition_named : Inner → Storage → ℕ → State → State
definition_named inner storage stars s = if has_first is_name (rest s) then definition_with inner storage s.at stars (skipped 1 s) else lost s

unfoldable pub definition_behind : Inner → Storage → State → State
definition_behind inner storage s =
    if goes s then definition_named inner storage (star_count (rest s)) (skipped (star_count (rest s)) s) else s

unfoldable pub definition : Inner → State → State
definition inner s = definition_behind inner (storage_read inner s) (specifiers inner s)

-- the last token of the row is a `}`
abbrev pub ends_with_brace : List Terminal → Bool
ends_with_brace [] = false
ends_with_brace (last ∷ []) = is_mark (codes "}") last
ends_with_brace (first ∷ (next ∷ others)) = ends_with_brace (next ∷ others)

-- what the row is, as its last token tells
unfoldable pub external : Inner → State → State
external inner s =
    if goes s
    then (if has_mark (codes ";") (rest s) then write event.EmptyItem (skipped 1 s)
    else (if ends_with_brace (rest s) then definition inner s
    else write event.DeclareItem (declaration inner s)))
    else s

-- nothing stands behind it
abbrev pub ended_with : State → List Terminal → State
ended_with s [] = s
ended_with s (first ∷ others) = lost s

unfoldable pub at_end : State → State
at_end s = if goes s then ended_with s (rest s) else s

unfoldable pub item_alone : Inner → State → State
item_alone inner s = at_end (external inner s)
