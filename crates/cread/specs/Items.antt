-- Items of a file (C11 6.9): which row of tokens spells which item.
--
-- item : ';' | decl | spec fdecl block
use Rattle.std.specs.Prelude.{ℕ, Bool, List, [], ◌∷◌, ◌++◌, codes}
use Rattle.cbase.specs.declared.tree.decl.Decl.{Decl}
use Rattle.cbase.specs.declared.tree.decl.Declared.{Declared}
use Rattle.cbase.specs.declared.tree.decl.Storage.{Storage}
use Rattle.cbase.specs.declared.tree.item.Item.{Item}
use Rattle.cbase.specs.declared.tree.item.Item.TheVariants.{Empty, Declare, Function}
use Rattle.cbase.specs.declared.tree.spec.TypeSpec.{TypeSpec}
use Rattle.cbase.specs.declared.tree.stmt.Stmt.{Stmt}
use Rattle.cgrammar.specs.Grammar.{Spells, declaring, outside}
use Rattle.cgrammar.specs.Phrases.{Context, Specifiers, Declaration, FunctionDeclarator, BlockItems, scoped}
use Rattle.cgrammar.specs.Scope.{declared_around}
use Rattle.cgrammar.specs.Terminals.{Terminal, IsMark}
use Rattle.cgrammar.specs.TypeWords.{declares_typedef}

-- In the body of a function its name is in scope, outside its parameters (C11 6.2.1p4, 6.2.1p7).
abbrev pub in_body : List ℕ → Bool → Context → Context
in_body name typedef within = scoped within (declared_around name typedef within.scope)

-- `SpellsItem item before row after`: the row, where `before` stands before it, is the item, and then `after` stands
-- before what follows. The parameters of a function and the block of its body are one scope; behind it the names are in scope
-- that its specifiers leave, and its own.
pub data SpellsItem : Item → Context → List Terminal → Context → Type 0 where
  EmptyItem : {before : Context} (semicolon : Terminal)
      → IsMark (codes ";") semicolon
      → SpellsItem Empty before (semicolon ∷ []) before
  DeclarationItem : {before after : Context} {row : List Terminal} {decl : Decl}
      → Spells (Declaration decl) before row after
      → SpellsItem (Declare decl) before row after
  FunctionDefinition : {before middle within last : Context} {xs ys zs : List Terminal} {storage : Storage} {type : TypeSpec} {name : List ℕ} {head : Declared} {body : List Stmt} (opening closing : Terminal)
      → Spells (Specifiers storage type) before xs middle
      → Spells (FunctionDeclarator name head) middle ys within
      → IsMark (codes "{") opening
      → Spells (BlockItems body) (in_body name (declares_typedef storage) within) zs last
      → IsMark (codes "}") closing
      → SpellsItem (Function type storage head body closing.place) before (xs ++ (ys ++ (opening ∷ (zs ++ (closing ∷ []))))) (declaring (outside middle last) name (declares_typedef storage))
