-- Declarations (C11 6.7) and initialisers (C11 6.7.9): `level` reads what stands in them.
use Rattle.std.specs.Prelude.{ℕ, ◌+◌, max, Bool, false, ◌&&◌, if◌then◌else◌, List, [], ◌∷◌, length, Option, None, Some, codes}
use Rattle.cbase.specs.declared.tree.decl.Decl.{Decl}
use Rattle.cbase.specs.declared.tree.decl.Declared.{Declared}
use Rattle.cbase.specs.declared.tree.decl.Param.{Param}
use Rattle.cbase.specs.declared.tree.decl.Storage.{Storage}
use Rattle.cbase.specs.declared.tree.decl.Storage.TheVariants.{Plain}
use Rattle.cbase.specs.declared.tree.init.Init.{Init}
use Rattle.cbase.specs.declared.tree.init.Init.TheVariants.{Value, Braces}
use Rattle.cbase.specs.declared.tree.init.InitPart.{InitPart}
use Rattle.cbase.specs.declared.tree.spec.TypeSpec.{TypeSpec}
use Rattle.cgrammar.specs.Grammar.{declaring, inside}
use Rattle.cgrammar.specs.Outcomes.{Outcome, Nothing, Read, Reader, then_read, after_first, after_mark, has_mark, behind_first}
use Rattle.cgrammar.specs.Phrases.{Context, scoped}
use Rattle.cgrammar.specs.ReadLevels.{Level, read_list}
use Rattle.cgrammar.specs.ReadTypes.{star_count, behind_stars, read_sizes, never, closes_braces, behind_comma}
use Rattle.cgrammar.specs.Scope.{left}
use Rattle.cgrammar.specs.Terminals.{Terminal, is_word, is_name, first_place}
use Rattle.cgrammar.specs.TokenReadings.{storage_of}
use Rattle.cgrammar.specs.Trees.{identifier, object, function, parameter, declaration, initializer}
use Rattle.cgrammar.specs.TypeWords.{declares_typedef}
use Rattle.cgrammar.specs.declared.reading.specifiers.Specifiers.{Specifiers}

-- outside the innermost scope again
abbrev pub leaving : Context → Context
leaving context = scoped context (left context.scope)

abbrev pub specifiers_of : Storage → TypeSpec → Specifiers
specifiers_of storage type = record { storage = storage; spec = type }

-- a storage word at the front of a row
abbrev pub storage_at : List Terminal → Option Storage
storage_at [] = None
storage_at (first ∷ others) = storage_of first

-- a type, with a storage word behind it or none
abbrev pub storage_behind : TypeSpec → ℕ → Context → List Terminal → Option Storage → Outcome Specifiers
storage_behind type levels behind rest None = Read (specifiers_of Plain type) levels behind rest
storage_behind type levels behind rest (Some storage) = Read (specifiers_of storage type) levels behind (behind_first rest)

abbrev pub specifiers_with : Level → Context → List Terminal → Option Storage → Outcome Specifiers
specifiers_with level context row None =
    then_read (level.specifier context row) (λ type levels behind rest. storage_behind type levels behind rest (storage_at rest))
specifiers_with level context row (Some storage) =
    then_read (level.specifier context (behind_first row)) (λ type levels behind rest. Read (specifiers_of storage type) levels behind rest)

unfoldable pub read_specifiers : Level → Reader Specifiers
read_specifiers level context row = specifiers_with level context row (storage_at row)

-- a parameter (C11 6.7.6.3)
abbrev pub parameter_behind : Level → TypeSpec → ℕ → ℕ → Reader Param
parameter_behind level type levels stars context row =
    after_first is_name row
    (then_read (read_sizes level (length row + 1) context row) (λ sizes others behind rest.
    Read (parameter type stars None sizes) (max levels others) behind rest))
    (λ name more. then_read (read_sizes level (length more + 1) context more) (λ sizes others behind rest.
    Read (parameter type stars (Some (identifier name)) sizes) (max levels others) (declaring behind name.bytes false) rest))

unfoldable pub read_parameter : Level → Reader Param
read_parameter level context row =
    then_read (read_specifiers level context row) (λ specifiers levels behind rest.
    parameter_behind level specifiers.spec levels (star_count rest) behind (behind_stars rest))

-- the word `void` alone between brackets
abbrev pub is_void_alone : List Terminal → Bool
is_void_alone [] = false
is_void_alone (first ∷ others) = is_word (codes "void") first && has_mark (codes ")") others

-- The parameters of a function up to the `)`. They have a scope of their own, in which what stands behind them lies.
unfoldable pub read_parameters : Level → Reader (List Param)
read_parameters level context row =
    if has_mark (codes ")") row then Read [] 0 (inside context) (behind_first row)
    else (if is_void_alone row then Read [] 0 (inside context) (behind_first (behind_first row))
    else then_read (read_list never (read_parameter level) (length row + 1) (inside context) row) (λ params levels behind rest.
    after_mark (codes ")") rest Nothing (λ closing others. Read params levels behind others)))

-- a declared object, with its initialiser or none; its name is in scope before that
abbrev pub object_behind : Level → Bool → Terminal → ℕ → Reader Declared
object_behind level typedef name stars context row =
    then_read (read_sizes level (length row + 1) context row) (λ sizes levels behind rest.
    after_mark (codes "=") rest (Read (object name stars sizes None) levels (declaring behind name.bytes typedef) rest) (λ mark others.
    then_read (level.initializer (declaring behind name.bytes typedef) others) (λ init inits last more.
    Read (object name stars sizes (Some init)) (max levels inits) last more)))

unfoldable pub read_declarator : Level → Bool → Reader Declared
read_declarator level typedef context row =
    after_first is_name (behind_stars row) Nothing (λ name rest.
    after_mark (codes "(") rest (object_behind level typedef name (star_count row) context rest) (λ opening others.
    then_read (read_parameters level context others) (λ params levels within more.
    Read (function name (star_count row) params) levels (declaring (leaving within) name.bytes typedef) more)))

unfoldable pub read_declaration : Level → Reader Decl
read_declaration level context row =
    then_read (read_specifiers level context row) (λ specifiers levels behind rest.
    after_mark (codes ";") rest
    (then_read (read_list never (read_declarator level (declares_typedef specifiers.storage)) (length rest + 1) behind rest) (λ names others last more.
    after_mark (codes ";") more Nothing (λ semicolon end. Read (declaration specifiers.storage specifiers.spec names) (max levels others) last end)))
    (λ semicolon end. Read (declaration specifiers.storage specifiers.spec []) levels behind end))

-- a part of a list in braces, which may be that of a named member
unfoldable pub read_part : Level → Reader InitPart
read_part inner context row =
    after_mark (codes ".") row
    (then_read (inner.initializer context row) (λ init levels behind rest. Read (initializer None init) levels behind rest))
    (λ dot others. after_first is_name others Nothing (λ name more. after_mark (codes "=") more Nothing (λ mark end.
    then_read (inner.initializer context end) (λ init levels behind rest. Read (initializer (Some (identifier name)) init) levels behind rest))))

abbrev pub in_braces : Level → Reader Init
in_braces inner context row =
    after_mark (codes "}") row
    (then_read (read_list closes_braces (read_part inner) (length row + 1) context row) (λ parts levels behind rest.
    after_mark (codes "}") (behind_comma rest) Nothing (λ closing others. Read (Braces parts) (1 + levels) behind others)))
    (λ closing others. Read (Braces []) 1 context others)

unfoldable pub read_initializer : Level → Reader Init
read_initializer inner context row =
    after_mark (codes "{") row
    (then_read (inner.assignment context row) (λ value levels behind rest. Read (Value value (first_place rest)) (1 + levels) behind rest))
    (λ opening others. in_braces inner context others)
