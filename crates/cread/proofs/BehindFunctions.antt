-- Behind a function's definition: its scope is left, and its name is declared behind what stands before its parameters.
use Rattle.std.proofs.Common.{◌≡◌, refl, ℕ, Bool, List, [], ◌∷◌, ◌++◌, codes, ap, sym, ◌∙◌, subst}
use Rattle.cbase.specs.declared.tree.decl.Declared.{Declared}
use Rattle.cbase.specs.declared.tree.decl.Storage.{Storage}
use Rattle.cbase.specs.declared.tree.item.Item.TheVariants.{Function}
use Rattle.cbase.specs.declared.tree.spec.TypeSpec.{TypeSpec}
use Rattle.cbase.specs.declared.tree.stmt.Stmt.{Stmt}
use Rattle.cgrammar.proofs.Contexts.{scopes_kept}
use Rattle.cgrammar.specs.Grammar.{Spells, declaring, outside}
use Rattle.cgrammar.specs.Phrases.{Context, Specifiers, FunctionDeclarator, BlockItems, scoped}
use Rattle.cgrammar.specs.ReadDeclarations.{leaving}
use Rattle.cgrammar.specs.Scope.{Names, declared, declared_around, left}
use Rattle.cgrammar.specs.Terminals.{Terminal, IsMark}
use Rattle.cgrammar.specs.TypeWords.{declares_typedef}
use Rattle.cread.specs.Items.{SpellsItem, FunctionDefinition, in_body}

-- outside the innermost scope, a name that is declared around it is declared
pub left_around : (name : List ℕ) (typedef : Bool) (scopes : List Names) → left (declared_around name typedef scopes) ≡ declared name typedef (left scopes)
left_around name typedef [] = refl
left_around name typedef (only ∷ []) = refl
left_around name typedef (around ∷ (innermost ∷ [])) = refl
left_around name typedef (outer ∷ (around ∷ (innermost ∷ []))) = refl
left_around name typedef (outer ∷ (next ∷ (inner ∷ (more ∷ others)))) = ap (λ (n : List Names). outer ∷ n) (left_around name typedef (next ∷ (inner ∷ (more ∷ others))))

-- what the reader leaves is what the definition has behind it
pub behind_function : (middle within last : Context) (ys zs : List Terminal) (name : List ℕ) (typedef : Bool) (head : Declared) (body : List Stmt)
    → Spells (FunctionDeclarator name head) middle ys within → Spells (BlockItems body) (in_body name typedef within) zs last
    → ◌≡◌ {A = Context} (leaving last) (declaring (outside middle last) name typedef)
behind_function middle within last ys zs name typedef head body d1 d2 =
    ap (λ (names : List Names). scoped last names)
    (scopes_kept (BlockItems body) (in_body name typedef within) last zs d2
    ∙ (left_around name typedef within.scope ∙ ap (declared name typedef) (scopes_kept (FunctionDeclarator name head) middle within ys d1)))

pub function_spelled : {before middle within last : Context} {xs ys zs : List Terminal} {storage : Storage} {type : TypeSpec} {name : List ℕ} {head : Declared} {body : List Stmt} (opening closing : Terminal)
    → Spells (Specifiers storage type) before xs middle
    → Spells (FunctionDeclarator name head) middle ys within
    → IsMark (codes "{") opening
    → Spells (BlockItems body) (in_body name (declares_typedef storage) within) zs last
    → IsMark (codes "}") closing
    → SpellsItem (Function type storage head body closing.place) before (xs ++ (ys ++ (opening ∷ (zs ++ (closing ∷ []))))) (leaving last)
function_spelled {before} {middle} {within} {last} {xs} {ys} {zs} {storage} {type} {name} {head} {body} opening closing d1 d2 p1 d3 p2 =
    subst (λ (after : Context). SpellsItem (Function type storage head body closing.place) before (xs ++ (ys ++ (opening ∷ (zs ++ (closing ∷ []))))) after)
    (sym (behind_function middle within last ys zs name (declares_typedef storage) head body d2 d3)) (FunctionDefinition opening closing d1 d2 p1 d3 p2)
