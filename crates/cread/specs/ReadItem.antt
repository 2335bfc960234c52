-- The reader of items: a whole row as an item of at most so many levels.
use Rattle.std.specs.Prelude.{ℕ, ◌+◌, max, if◌then◌else◌, List, length, codes}
use Rattle.cbase.specs.declared.tree.decl.Declared.{Declared}
use Rattle.cbase.specs.declared.tree.item.Item.{Item}
use Rattle.cbase.specs.declared.tree.item.Item.TheVariants.{Empty, Declare, Function}
use Rattle.cgrammar.specs.Outcomes.{Nothing, Read, Reader, then_read, after_first, after_mark, has_mark, behind_first}
use Rattle.cgrammar.specs.ReadDeclarations.{leaving, read_specifiers, read_parameters, read_declaration}
use Rattle.cgrammar.specs.ReadLevels.{Level, read_until_brace}
use Rattle.cgrammar.specs.ReadTypes.{star_count, behind_stars}
use Rattle.cgrammar.specs.Terminals.{is_name}
use Rattle.cgrammar.specs.Trees.{function}
use Rattle.cgrammar.specs.TypeWords.{declares_typedef}
use Rattle.cread.specs.Items.{in_body}
use Rattle.cparser.specs.ItemSteps.{ends_with_brace}

-- a function's declarator with its name; behind it the scope of the parameters is still entered
pub record Head : Type 0 where
  pub name : List ℕ
  pub declared : Declared

-- such a declarator, from its name and its tree
abbrev pub head_of : List ℕ → Declared → Head
head_of name declared = record { name = name; declared = declared }

-- stars, a name and a parameter list (C11 6.7.6.3)
unfoldable pub read_head : Level → Reader Head
read_head level context row =
    after_first is_name (behind_stars row) Nothing (λ name rest.
    after_mark (codes "(") rest Nothing (λ opening others.
    then_read (read_parameters level context others) (λ params levels within more.
    Read (head_of name.bytes (function name (star_count row) params)) levels within more)))

-- a function's definition (C11 6.9.1)
unfoldable pub read_function : Level → Reader Item
read_function level context row =
    then_read (read_specifiers level context row) (λ specifiers levels behind rest.
    then_read (read_head level behind rest) (λ head heads within more.
    after_mark (codes "{") more Nothing (λ opening others.
    then_read (read_until_brace level.item (length others + 1) (in_body head.name (declares_typedef specifiers.storage) within) others) (λ body bodies last end.
    after_mark (codes "}") end Nothing (λ closing final.
    Read (Function specifiers.spec specifiers.storage head.declared body closing.place) (max levels (max heads bodies)) (leaving last) final)))))

-- what the row is, as its last token tells
unfoldable pub read_external : Level → Reader Item
read_external level context row =
    if has_mark (codes ";") row then Read Empty 0 context (behind_first row)
    else (if ends_with_brace row then read_function level context row
    else then_read (read_declaration level context row) (λ decl levels behind rest. Read (Declare decl) levels behind rest))
