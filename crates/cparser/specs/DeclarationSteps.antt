-- Declarations (C11 6.7) and initialisers (C11 6.7.9).
use Rattle.std.specs.Prelude.{ℕ, Bool, false, true, ◌&&◌, if◌then◌else◌, Option, None, Some, is_some, codes}
use Rattle.cbase.specs.declared.tree.decl.Storage.{Storage}
use Rattle.cbase.specs.declared.tree.decl.Storage.TheVariants.{Plain}
use Rattle.cevents.specs.declared.event.Event.TheVariants as event
use Rattle.cgrammar.specs.Outcomes.{has_mark, has_first}
use Rattle.cgrammar.specs.ReadDeclarations.{storage_at, is_void_alone}
use Rattle.cgrammar.specs.ReadTypes.{star_count, never, closes_braces}
use Rattle.cgrammar.specs.Terminals.{is_name}
use Rattle.cgrammar.specs.TypeWords.{declares_typedef}
use Rattle.cparser.specs.State.{State, rest, goes, skipped, lost}
use Rattle.cparser.specs.Steps.{Inner, mark, ask_whole, write, make, declare, enter, leave, parts_behind, all_parts}
use Rattle.cparser.specs.TypeSteps.{all_sizes, over_comma}
use Rattle.cparser.specs.declared.wanted.Wanted.TheVariants as wanted

-- A type, with a storage word before or behind it, or none.
unfoldable pub over_storage : State → State
over_storage s = if goes s && is_some (storage_at (rest s)) then skipped 1 s else s

abbrev pub specifiers_with : Inner → State → Option Storage → State
specifiers_with inner s None = over_storage (ask_whole inner wanted.Specifier s)
specifiers_with inner s (Some storage) = ask_whole inner wanted.Specifier (skipped 1 s)

unfoldable pub specifiers : Inner → State → State
specifiers inner s = if goes s then specifiers_with inner s (storage_at (rest s)) else s

-- the storage class that they name
abbrev pub storage_or_plain : Option Storage → Storage
storage_or_plain None = Plain
storage_or_plain (Some storage) = storage

abbrev pub storage_with : Inner → State → Option Storage → Storage
storage_with inner s None = storage_or_plain (storage_at (rest (ask_whole inner wanted.Specifier s)))
storage_with inner s (Some storage) = storage

unfoldable pub storage_read : Inner → State → Storage
storage_read inner s = storage_with inner s (storage_at (rest s))

-- A parameter, from behind its type on (C11 6.7.6.3).
abbrev pub known_parameter : Inner → ℕ → ℕ → State → State
known_parameter inner at stars s = declare at false (write (event.Parameter (Some at) stars) (all_sizes inner true s))

abbrev pub unnamed_parameter : Inner → ℕ → State → State
unnamed_parameter inner stars s = write (event.Parameter None stars) (all_sizes inner true s)

abbrev pub parameter_named : Inner → ℕ → State → State
parameter_named inner stars s =
    if has_first is_name (rest s) then known_parameter inner s.at stars (skipped 1 s) else unnamed_parameter inner stars s

unfoldable pub parameter_behind : Inner → State → State
parameter_behind inner s = if goes s then parameter_named inner (star_count (rest s)) (skipped (star_count (rest s)) s) else s

unfoldable pub parameter : Inner → State → State
parameter inner s = parameter_behind inner (specifiers inner s)

-- The parameters of a function behind the `(` and over the `)`. They have a scope of their own, in which what stands
-- behind them lies.
abbrev pub parameters_listed : Inner → State → State
parameters_listed inner s = mark (codes ")") (all_parts never (parameter inner) s)

unfoldable pub parameters_inside : Inner → State → State
parameters_inside inner s =
    if goes s
    then (if has_mark (codes ")") (rest s) then skipped 1 s
    else (if is_void_alone (rest s) then skipped 2 s
    else parameters_listed inner s))
    else s

unfoldable pub parameters : Inner → State → State
parameters inner s = parameters_inside inner (enter (write event.NoParameters s))

-- A declared object, with its initialiser or none; its name is in scope before that.
abbrev pub object_initialized : Inner → Bool → ℕ → ℕ → State → State
object_initialized inner typedef at stars s =
    write (event.InitializedObject at stars) (ask_whole inner wanted.Initializer (declare at typedef s))

unfoldable pub object_behind : Inner → Bool → ℕ → ℕ → State → State
object_behind inner typedef at stars s =
    if goes s
    then (if has_mark (codes "=") (rest s) then object_initialized inner typedef at stars (skipped 1 s)
    else declare at typedef (write (event.Object at stars) s))
    else s

-- a function, or an object
abbrev pub function_behind : Inner → Bool → ℕ → ℕ → State → State
function_behind inner typedef at stars s = declare at typedef (write (event.Function at stars) (leave (parameters inner s)))

unfoldable pub declarator_behind : Inner → Bool → ℕ → ℕ → State → State
declarator_behind inner typedef at stars s =
    if has_mark (codes "(") (rest s) then function_behind inner typedef at stars (skipped 1 s)
    else object_behind inner typedef at stars (all_sizes inner true s)

abbrev pub declarator_named : Inner → Bool → ℕ → State → State
declarator_named inner typedef stars s =
    if has_first is_name (rest s) then declarator_behind inner typedef s.at stars (skipped 1 s) else lost s

unfoldable pub declarator : Inner → Bool → State → State
declarator inner typedef s =
    if goes s then declarator_named inner typedef (star_count (rest s)) (skipped (star_count (rest s)) s) else s

-- a declarator with the comma behind it
abbrev pub declarator_turn : Inner → Bool → (State → State) → State → State
declarator_turn inner typedef go s = parts_behind never go (declarator inner typedef s)

unfoldable pub declarators : Inner → Bool → State → State
declarators inner typedef s = all_parts never (declarator inner typedef) s

-- a declaration of no names, and one of names
abbrev pub declaration_of_none : Storage → State → State
declaration_of_none storage s = write (event.Declaration storage) (skipped 1 (write event.NoDeclarators s))

abbrev pub declaration_of_names : Inner → Storage → State → State
declaration_of_names inner storage s =
    write (event.Declaration storage) (mark (codes ";") (declarators inner (declares_typedef storage) (write event.NoDeclarators s)))

unfoldable pub declaration_behind : Inner → Storage → State → State
declaration_behind inner storage s =
    if goes s
    then (if has_mark (codes ";") (rest s) then declaration_of_none storage s else declaration_of_names inner storage s)
    else s

unfoldable pub declaration : Inner → State → State
declaration inner s = declaration_behind inner (storage_read inner s) (specifiers inner s)

-- A part of a list in braces, which may be that of a named member.
unfoldable pub member_part : Inner → State → State
member_part inner s =
    if has_first is_name (rest s)
    then write (event.Part (Some s.at)) (ask_whole inner wanted.Initializer (mark (codes "=") (skipped 1 s)))
    else lost s

abbrev pub next_part : Inner → State → State
next_part inner s = write (event.Part None) (ask_whole inner wanted.Initializer s)

unfoldable pub init_part : Inner → State → State
init_part inner s =
    if goes s
    then (if has_mark (codes ".") (rest s) then member_part inner (skipped 1 s)
    else next_part inner s)
    else s

unfoldable pub init_parts : Inner → State → State
init_parts inner s = all_parts closes_braces (init_part inner) s

abbrev pub empty_braces : State → State
empty_braces s = make event.Braces (skipped 1 (write event.NoParts s))

abbrev pub listed_braces : Inner → State → State
listed_braces inner s = make event.Braces (mark (codes "}") (over_comma (init_parts inner (write event.NoParts s))))

unfoldable pub in_braces : Inner → State → State
in_braces inner s = if has_mark (codes "}") (rest s) then empty_braces s else listed_braces inner s

unfoldable pub valued : State → State
valued s = make (event.Value s.at) s

abbrev pub value_initializer : Inner → State → State
value_initializer inner s = valued (ask_whole inner wanted.Assignment s)

unfoldable pub initializer : Inner → State → State
initializer inner s =
    if goes s
    then (if has_mark (codes "{") (rest s) then in_braces inner (skipped 1 s)
    else value_initializer inner s)
    else s
