-- The reader of items is complete: what spells an item is read.
use Rattle.std.proofs.Common.{◌≡◌, ℕ, ◌+◌, ◌≤◌, max, false, refl, ap, sym, ◌∙◌, List, [], ◌∷◌, ◌++◌, map, length, codes, arith, append-nil}
use Rattle.std.proofs.lemmas.List.{append_assoc}
use Rattle.cbase.specs.declared.tree.decl.Decl.{Decl}
use Rattle.cbase.specs.declared.tree.decl.Declared.{Declared}
use Rattle.cbase.specs.declared.tree.decl.Storage.{Storage}
use Rattle.cbase.specs.declared.tree.item.Item.{Item}
use Rattle.cbase.specs.declared.tree.item.Item.TheVariants.{Function}
use Rattle.cbase.specs.declared.tree.spec.TypeSpec.{TypeSpec}
use Rattle.cbase.specs.declared.tree.stmt.Stmt.{Stmt}
use Rattle.ctrees.specs.Weight.{joined}
use Rattle.ctrees.specs.Levels.{depth, declared_levels, item_levels, spec_levels, stmt_levels}
use Rattle.cgrammar.proofs.Complete.{complete}
use Rattle.cgrammar.proofs.CompleteDeclarations.{no_void_alone, parameters_void, parameters_begin, begins_some, declarator_no_specifiers}
use Rattle.cgrammar.proofs.CompletingOutcomes.{go_true, go_false, go_read, not_is, row_of_two, row_of_three}
use Rattle.cgrammar.proofs.CompletingParts.{read_levels, ends_known, declaration_row_no_mark}
use Rattle.cgrammar.proofs.CompletingTokens.{stars_front, begins_apart, stars_and_name, begins_declarator}
use Rattle.cgrammar.proofs.Firsts.{first}
use Rattle.cgrammar.proofs.Fronts.{drop_front}
use Rattle.cgrammar.proofs.Reached.{goes_on_list, goes_on_parameter, goes_on_specifiers}
use Rattle.cgrammar.proofs.TokenKinds.{name_is_no_mark, word_is_no_mark, other_mark}
use Rattle.cgrammar.proofs.TreeLevels.{levels_function}
use Rattle.cgrammar.proofs.Truth.{and-both}
use Rattle.cgrammar.specs.Firsts.{Begins, begins_declaration}
use Rattle.cgrammar.specs.Grammar.{Spells, NoDeclarator, WithDeclarators, NoParameters, VoidParameters, WithParameters, inside}
use Rattle.cgrammar.specs.Outcomes.{Outcome, Nothing, Stopped, Read, then_read, has_mark, after_mark}
use Rattle.cgrammar.specs.Phrases.{Context, Specifiers, Declaration, FunctionDeclarator, BlockItems, Parameters}
use Rattle.cgrammar.specs.ReadDeclarations.{leaving, read_parameters, read_declaration}
use Rattle.cgrammar.specs.ReadLevels.{Level}
use Rattle.cgrammar.specs.Reader.{level}
use Rattle.cgrammar.specs.Terminals.{Terminal, is_mark, IsMark, IsName, AreStars}
use Rattle.cgrammar.specs.Trees.{function}
use Rattle.cgrammar.specs.TypeWords.{declares_typedef}
use Rattle.cread.proofs.BehindFunctions.{behind_function}
use Rattle.cread.specs.Items.{SpellsItem, EmptyItem, DeclarationItem, FunctionDefinition, in_body}
use Rattle.cread.specs.OneItem.{IsOneItem}
use Rattle.cread.specs.ReadItem.{Head, head_of, read_head, read_function, read_external}
use Rattle.cparser.specs.ItemSteps.{ends_with_brace}

-- a function's declarator, with what stands behind its parameters
head_front : (inner : Level) (before : Context) (stars : List Terminal) (name : Terminal) (others : List Terminal) (result : Outcome Head) → AreStars stars → IsName name
    → after_mark (codes "(") others Nothing (λ opening more.
    then_read (read_parameters inner before more) (λ params levels within end. Read (head_of name.bytes (function name (length stars) params)) levels within end)) ≡ result
    → read_head inner before (stars ++ (name ∷ others)) ≡ result
unfolding read_head
head_front inner before stars name others result are is more =
    rw (stars_front stars (name ∷ others) are (name_is_no_mark (codes "*") name is)) (rw (drop_front stars (name ∷ others)) (go_true _ is more))

complete_head : (name : List ℕ) (head : Declared) (before after : Context) (row : List Terminal) → Spells (FunctionDeclarator name head) before row after
    → (n : ℕ) (rest : List Terminal) → declared_levels head ≤ n → read_head (level n) before (row ++ rest) ≡ Read (head_of name head) (declared_levels head) after rest
unfolding read_parameters
complete_head _ _ _ _ _ (NoParameters {before} stars name opening closing p1 p2 p3 p4) n rest small =
    ap (λ row. read_head (level n) before row) (row_of_two stars (name ∷ (opening ∷ (closing ∷ []))) rest)
    ∙ head_front (level n) before stars name (opening ∷ (closing ∷ rest)) _ p1 p2
    (go_true _ p3 (go_read _ (go_true _ p4 refl) (read_levels _ (inside before) rest (sym (levels_function name (length stars) [])))))
complete_head _ _ _ _ _ (VoidParameters {before} stars name opening word closing p1 p2 p3 p4 p5) n rest small =
    ap (λ row. read_head (level n) before row) (row_of_two stars (name ∷ (opening ∷ (word ∷ (closing ∷ [])))) rest)
    ∙ head_front (level n) before stars name (opening ∷ (word ∷ (closing ∷ rest))) _ p1 p2
    (go_true _ p3 (go_read _ (go_false _ (word_is_no_mark (codes "void") (codes ")") word p4) (go_true _ (and-both p4 p5) refl)) (read_levels _ (inside before) rest (sym (levels_function name (length stars) [])))))
complete_head _ _ _ _ _ (WithParameters {before} {after} {xs} {params} stars name opening closing p1 p2 p3 p4 d1 p5) n rest small =
    let levels = levels_function name (length stars) params in
    let begins = parameters_begin params (inside before) after xs d1 in
    ap (λ row. read_head (level n) before row) (row_of_two stars (name ∷ (opening ∷ (xs ++ (closing ∷ [])))) rest)
    ∙ (ap (λ row. read_head (level n) before (stars ++ (name ∷ (opening ∷ row)))) (row_of_two xs (closing ∷ []) rest)
    ∙ head_front (level n) before stars name (opening ∷ (xs ++ (closing ∷ rest))) _ p1 p2
    (go_true _ p3 (go_read _
    (go_false _ (declaration_row_no_mark (inside before).scope (codes ")") xs (closing ∷ rest) begins)
    (go_false _ (no_void_alone xs (closing ∷ rest) (begins_some (begins_declaration (inside before).scope) xs begins) p4 (parameters_void params (inside before) after xs d1))
    (go_read _ (complete (Parameters params) (inside before) after xs d1 n (length (xs ++ (closing ∷ rest)) + 1) (closing ∷ rest) (omega arith) (omega (arith, small, levels)) (ends_known (goes_on_list goes_on_parameter) (codes ")") closing rest p5 refl))
    (go_true _ p5 refl))))
    (read_levels _ after rest (sym levels)))))

-- a function's declarator begins with a star or a name
head_begins : (name : List ℕ) (head : Declared) (before after : Context) (row : List Terminal) → Spells (FunctionDeclarator name head) before row after → Begins begins_declarator row
head_begins _ _ _ _ _ (NoParameters stars name opening closing p1 p2 p3 p4) = stars_and_name stars name (opening ∷ (closing ∷ [])) p1 p2
head_begins _ _ _ _ _ (VoidParameters stars name opening word closing p1 p2 p3 p4 p5) = stars_and_name stars name (opening ∷ (word ∷ (closing ∷ []))) p1 p2
head_begins _ _ _ _ _ (WithParameters {xs} stars name opening closing p1 p2 p3 p4 d1 p5) = stars_and_name stars name (opening ∷ (xs ++ (closing ∷ []))) p1 p2

complete_function : (before middle within last : Context) (xs ys zs : List Terminal) (storage : Storage) (type : TypeSpec) (name : List ℕ) (head : Declared) (body : List Stmt) (opening closing : Terminal)
    → Spells (Specifiers storage type) before xs middle
    → Spells (FunctionDeclarator name head) middle ys within
    → IsMark (codes "{") opening
    → Spells (BlockItems body) (in_body name (declares_typedef storage) within) zs last
    → IsMark (codes "}") closing
    → (n : ℕ) → max (spec_levels type) (max (declared_levels head) (joined depth (map stmt_levels body))) ≤ n
    → read_function (level n) before (xs ++ (ys ++ (opening ∷ (zs ++ (closing ∷ [])))))
    ≡ Read (Function type storage head body closing.place) (max (spec_levels type) (max (declared_levels head) (joined depth (map stmt_levels body)))) (leaving last) []
unfolding read_function
complete_function before middle within last xs ys zs storage type name head body opening closing d1 d2 p1 d3 p2 n small =
    go_read _ (complete (Specifiers storage type) before middle xs d1 n (ys ++ (opening ∷ (zs ++ (closing ∷ [])))) (omega (arith, small))
    (not_is _ (begins_apart begins_declarator goes_on_specifiers ys (opening ∷ (zs ++ (closing ∷ []))) declarator_no_specifiers (head_begins name head middle within ys d2))))
    (go_read _ (complete_head name head middle within ys d2 n (opening ∷ (zs ++ (closing ∷ []))) (omega (arith, small)))
    (go_true _ p1
    (go_read _ (complete (BlockItems body) (in_body name (declares_typedef storage) within) last zs d3 n (length (zs ++ (closing ∷ [])) + 1) (closing ∷ []) (omega arith) (omega (arith, small)) p2)
    (go_true _ p2 refl))))

-- with which token a row ends
ends_behind : (xs : List Terminal) (last : Terminal) → ends_with_brace (xs ++ (last ∷ [])) ≡ is_mark (codes "}") last
ends_behind [] last = refl
ends_behind (x ∷ []) last = refl
ends_behind (x ∷ (y ∷ xs)) last = ends_behind (y ∷ xs) last

declaration_ends : (decl : Decl) (before after : Context) (row : List Terminal) → Spells (Declaration decl) before row after → ends_with_brace row ≡ false
declaration_ends _ _ _ _ (NoDeclarator {xs} semicolon d1 p1) = ends_behind xs semicolon ∙ other_mark (codes ";") (codes "}") semicolon refl p1
declaration_ends _ _ _ _ (WithDeclarators {xs} {ys} semicolon d1 d2 p1) =
    ap ends_with_brace (sym (append_assoc xs ys (semicolon ∷ []))) ∙ (ends_behind (xs ++ ys) semicolon ∙ other_mark (codes ";") (codes "}") semicolon refl p1)

no_semicolon : (scopes : _) (xs : List Terminal) → Begins (begins_declaration scopes) xs → has_mark (codes ";") xs ≡ false
no_semicolon scopes xs begins = ap (has_mark (codes ";")) (sym (append-nil xs)) ∙ declaration_row_no_mark scopes (codes ";") xs [] begins

pub complete_item : (item : Item) (before after : Context) (row : List Terminal) → SpellsItem item before row after → (n : ℕ) → item_levels item ≤ n
    → read_external (level n) before row ≡ Read item (item_levels item) after []
unfolding read_external
complete_item _ _ _ _ (EmptyItem {before} semicolon p1) n small = go_true _ p1 refl
complete_item _ _ _ _ (DeclarationItem {before} {after} {row} {decl} d1) n small =
    go_false _ (no_semicolon before.scope row (first d1))
    (go_false _ (declaration_ends decl before after row d1)
    (go_read _ (ap (λ (r : List Terminal). read_declaration (level n) before r) (sym (append-nil row)) ∙ complete (Declaration decl) before after row d1 n [] small) refl))
complete_item _ _ _ _ (FunctionDefinition {before} {middle} {within} {last} {xs} {ys} {zs} {storage} {type} {name} {head} {body} opening closing d1 d2 p1 d3 p2) n small =
    let begins : Begins (begins_declaration before.scope) xs = first d1 in
    go_false _ (declaration_row_no_mark before.scope (codes ";") xs (ys ++ (opening ∷ (zs ++ (closing ∷ [])))) begins)
    (go_true _ (ap ends_with_brace (regrouped xs ys opening zs closing) ∙ (ends_behind (xs ++ (ys ++ (opening ∷ zs))) closing ∙ p2))
    (complete_function before middle within last xs ys zs storage type name head body opening closing d1 d2 p1 d3 p2 n small
    ∙ ap (λ (behind : Context). Read (Function type storage head body closing.place) (item_levels (Function type storage head body closing.place)) behind [])
    (behind_function middle within last ys zs name (declares_typedef storage) head body d2 d3)))
  where
    regrouped : (xs ys : List Terminal) (opening : Terminal) (zs : List Terminal) (closing : Terminal)
        → xs ++ (ys ++ (opening ∷ (zs ++ (closing ∷ [])))) ≡ (xs ++ (ys ++ (opening ∷ zs))) ++ (closing ∷ [])
    regrouped xs ys opening zs closing = sym (row_of_three xs ys (opening ∷ zs) (closing ∷ []))

item_or : Item → Outcome Item → Item
item_or other Nothing = other
item_or other (Stopped item expressions rest) = item
item_or other (Read item levels behind rest) = item

behind_or : Context → Outcome Item → Context
behind_or other Nothing = other
behind_or other (Stopped item expressions rest) = other
behind_or other (Read item levels behind rest) = behind

pub one_item : IsOneItem
unfolding item_or behind_or
one_item one other before after behind row first second =
    let most : ℕ = max (item_levels one) (item_levels other) in
    let read = complete_item one before after row first most (omega arith) in
    let reads = complete_item other before behind row second most (omega arith) in
    (ap (item_or one) (sym read ∙ reads), ap (behind_or after) (sym read ∙ reads))
