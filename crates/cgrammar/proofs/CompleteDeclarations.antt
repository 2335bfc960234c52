-- The reader of declarations is complete, rule by rule of the grammar.
use Rattle.std.proofs.Common.{◌≡◌, ℕ, zero, suc, ◌+◌, ◌<◌, ◌≤◌, Bool, true, false, ◌&&◌, ◌||◌, not, refl, ap, sym, ◌∙◌, List, [], ◌∷◌, ◌++◌, length, map, drop, codes, cond, IsTrue, inl, inr, arith, Option, Some, None, ◌⊎◌}
use Rattle.std.specs.Prelude.{max}
use Rattle.std.specs.List.{list_any, prefix_len}
use Rattle.std.specs.Str.{bytes_eq}
use Rattle.cbase.specs.declared.place.Place.{Place}
use Rattle.cbase.specs.declared.tree.decl.Declared.{Declared}
use Rattle.cbase.specs.declared.tree.decl.Param.{Param}
use Rattle.cbase.specs.declared.tree.decl.Storage.{Storage}
use Rattle.cbase.specs.declared.tree.decl.Storage.TheVariants.{Plain, Typedef, Extern, Static}
use Rattle.cbase.specs.declared.tree.expr.Expr.{Expr}
use Rattle.cbase.specs.declared.tree.init.Init.{Init}
use Rattle.cbase.specs.declared.tree.spec.BasicType.{BasicType}
use Rattle.cbase.specs.declared.tree.spec.TypeSpec.{TypeSpec}
use Rattle.ctrees.specs.Weight.{joined}
use Rattle.ctrees.specs.Levels.{depth, declared_levels, maybe_levels, param_levels, spec_levels}
use Rattle.ctokens.proofs.Choices.{false_or}
use Rattle.cgrammar.proofs.CompleteTypes.{type_end, all_basic}
use Rattle.cgrammar.proofs.CompletingOutcomes.{go_true, go_false, go_read, go_past, not_is, ends_first, ends_less, list_of_one, list_of_more, row_of_two, row_of_three, shorter_behind}
use Rattle.cgrammar.proofs.CompletingTokens.{by_mark, by_word, name_no_specifiers, name_no_storage, begins_apart, stars_front, stars_first, begins_declarator, stars_and_name, declarator_apart}
use Rattle.cgrammar.proofs.CompletingParts.{read_levels, ends_known, declaration_row_no_mark, sizes_first}
use Rattle.cgrammar.proofs.Contexts.{scopes_kept}
use Rattle.cgrammar.proofs.Firsts.{first, begins-append}
use Rattle.cgrammar.proofs.Fronts.{drop_front}
use Rattle.cgrammar.proofs.Reached.{Completes, Ends, goes_on_assignment, goes_on_type, goes_on_sizes, is_storage, goes_on_specifiers, goes_on_parameter, goes_on_list, goes_on_declarator}
use Rattle.cgrammar.proofs.TokenKinds.{name_is_no_mark, other_mark, other_word, word_is_no_mark, word_bytes, word_kind_no_mark}
use Rattle.cgrammar.proofs.TreeLevels.{levels_parameter, levels_declaration, levels_type_declaration, levels_object, levels_initialized, levels_function, joined_one}
use Rattle.cgrammar.proofs.Truth.{and-left, and-right, and-both, or-cases, not-true, clash, false-of, or-false-left, or-false-right}
use Rattle.cgrammar.specs.FrontReadings.{is_basic_word}
use Rattle.cgrammar.specs.Firsts.{begins_type, begins_declaration, Begins, is_among, type_words}
use Rattle.cgrammar.specs.Grammar.{Spells, declaring, inside, outside, is_void, BasicWords, TypedefName, TypeOfExpression, TypeOfType, StructWithFields, StructByTag, EnumWithValues, EnumByTag, NoMoreSizes, SizeLeftOut, SizeGiven, TypeAlone, StorageBefore, StorageBehind, OneDeclarator, MoreDeclarators, ObjectDeclarator, InitializedDeclarator, DeclaratorOfFunction, NoParameters, VoidParameters, WithParameters, OneParameter, MoreParameters, NamedParameter, UnnamedParameter}
use Rattle.cgrammar.specs.Outcomes.{Outcome, Read, then_read, after_mark, has_first, has_mark}
use Rattle.cgrammar.specs.Phrases.{Context, scoped, TypeSpecifier, ArraySizes, Specifiers, Declaration, Declarators, Declarator, FunctionDeclarator, Parameters, Parameter, Initializer}
use Rattle.cgrammar.specs.ReadDeclarations.{leaving, storage_at, storage_behind, specifiers_with, read_specifiers, parameter_behind, read_parameter, is_void_alone, read_parameters, object_behind, read_declarator, read_declaration}
use Rattle.cgrammar.specs.ReadLevels.{Level, read_list}
use Rattle.cgrammar.specs.ReadStarts.{postfix_start}
use Rattle.cgrammar.specs.ReadTypes.{star_count, behind_stars, read_sizes, never}
use Rattle.cgrammar.specs.Reader.{level}
use Rattle.cgrammar.specs.Scope.{Names}
use Rattle.cgrammar.specs.Terminals.{Terminal, is_word_kind, is_word, IsWord, is_mark, IsMark, is_name, IsName, is_typedef, AreStars}
use Rattle.cgrammar.specs.TokenReadings.{storage_of}
use Rattle.cgrammar.specs.Trees.{identifier, object, function, parameter, declaration}
use Rattle.cgrammar.specs.TypeWords.{IsStorage, declares_typedef, IsBasic, basic_words}

-- storage words
storage_is : (storage : Storage) (word : Terminal) → IsStorage storage word → storage_of word ≡ Some storage
storage_is Plain word is = absurd is
storage_is Typedef word is = go_true _ is refl
storage_is Extern word is = go_false _ (other_word (codes "extern") (codes "typedef") word refl is) (go_true _ is refl)
storage_is Static word is = go_false _ (other_word (codes "static") (codes "typedef") word refl is) (go_false _ (other_word (codes "static") (codes "extern") word refl is) (go_true _ is refl))

no_storage : (token : Terminal) → is_storage token ≡ false → storage_of token ≡ None
no_storage token off =
    let others = or-false-right (is_word (codes "typedef") token) (is_word (codes "extern") token || is_word (codes "static") token) off in
    go_false _ (or-false-left (is_word (codes "typedef") token) (is_word (codes "extern") token || is_word (codes "static") token) off)
    (go_false _ (or-false-left (is_word (codes "extern") token) (is_word (codes "static") token) others)
    (go_false _ (or-false-right (is_word (codes "extern") token) (is_word (codes "static") token) others) refl))

type_word_no : (bytes : List ℕ) (token : Terminal) → list_any (bytes_eq bytes) type_words ≡ false → is_among type_words token ≡ true → is_word bytes token ≡ false
type_word_no bytes token none among =
    false-of (is_word bytes token) (λ word. clash (list_any (bytes_eq bytes) type_words)
    (ap (λ (b : List ℕ). list_any (bytes_eq b) type_words) (sym (word_bytes bytes token word)) ∙ and-right (is_word_kind token.kind) (list_any (bytes_eq token.bytes) type_words) among) none)

type_no_storage : (scopes : List Names) (token : Terminal) → begins_type scopes token ≡ true → is_storage token ≡ false
type_no_storage scopes token is = step (or-cases (is_among type_words token) (is_typedef scopes token) is)
  where
    step : (is_among type_words token ≡ true) ⊎ (is_typedef scopes token ≡ true) → is_storage token ≡ false
    step (inl among) = false_or _ _ (type_word_no (codes "typedef") token refl among) (false_or _ _ (type_word_no (codes "extern") token refl among) (type_word_no (codes "static") token refl among))
    step (inr named) = name_no_storage token (and-left (is_name token) _ named)

type_row_no_storage : (scopes : List Names) (xs rest : List Terminal) → Begins (begins_type scopes) xs → storage_at (xs ++ rest) ≡ None
type_row_no_storage scopes [] rest begins = absurd begins
type_row_no_storage scopes (token ∷ xs) rest begins = no_storage token (type_no_storage scopes token begins)

rest_no_storage : (rest : List Terminal) → has_first is_storage rest ≡ false → storage_at rest ≡ None
rest_no_storage [] off = refl
rest_no_storage (token ∷ rest) off = no_storage token off

specifiers_type : (rest : List Terminal) → Ends goes_on_specifiers rest → Ends goes_on_type rest
specifiers_type rest ends = ends_less goes_on_specifiers goes_on_type rest (λ t off. or-false-left (goes_on_type t) (is_storage t) off) ends

specifiers_storage : (rest : List Terminal) → Ends goes_on_specifiers rest → storage_at rest ≡ None
specifiers_storage rest ends = rest_no_storage rest (ends_first is_storage rest (ends_less goes_on_specifiers is_storage rest (λ t off. or-false-right (goes_on_type t) (is_storage t) off) ends))

storage_no_type : (storage : Storage) (word : Terminal) → IsStorage storage word → goes_on_type word ≡ false
storage_no_type Plain word is = absurd is
storage_no_type Typedef word is = by_word goes_on_type (codes "typedef") word is refl
storage_no_type Extern word is = by_word goes_on_type (codes "extern") word is refl
storage_no_type Static word is = by_word goes_on_type (codes "static") word is refl

pub complete_type_alone : (before after : Context) (xs : List Terminal) (type : TypeSpec)
    → Spells (TypeSpecifier type) before xs after
    → Completes (TypeSpecifier type) before xs after
    → Completes (Specifiers Plain type) before xs after
unfolding read_specifiers
complete_type_alone before after xs type d1 c1 n rest small ends =
    ap (λ (o : Option Storage). specifiers_with (level n) before (xs ++ rest) o) (type_row_no_storage before.scope xs rest (first d1))
    ∙ go_read _ (c1 n rest small (specifiers_type rest ends)) (ap (λ (o : Option Storage). storage_behind type (spec_levels type) after rest o) (specifiers_storage rest ends))

pub complete_storage_before : (before after : Context) (xs : List Terminal) (storage : Storage) (type : TypeSpec) (word : Terminal)
    → IsStorage storage word
    → Spells (TypeSpecifier type) before xs after
    → Completes (TypeSpecifier type) before xs after
    → Completes (Specifiers storage type) before (word ∷ xs) after
unfolding read_specifiers
complete_storage_before before after xs storage type word p1 d1 c1 n rest small ends =
    ap (λ (o : Option Storage). specifiers_with (level n) before (word ∷ (xs ++ rest)) o) (storage_is storage word p1)
    ∙ go_read _ (c1 n rest small (specifiers_type rest ends)) refl

pub complete_storage_behind : (before after : Context) (xs : List Terminal) (storage : Storage) (type : TypeSpec) (word : Terminal)
    → Spells (TypeSpecifier type) before xs after
    → IsStorage storage word
    → Completes (TypeSpecifier type) before xs after
    → Completes (Specifiers storage type) before (xs ++ (word ∷ [])) after
unfolding read_specifiers
complete_storage_behind before after xs storage type word d1 p1 c1 n rest small ends =
    ap (λ row. read_specifiers (level n) before row) (row_of_two xs (word ∷ []) rest)
    ∙ (ap (λ (o : Option Storage). specifiers_with (level n) before (xs ++ (word ∷ rest)) o) (type_row_no_storage before.scope xs (word ∷ rest) (first d1))
    ∙ go_read _ (c1 n (word ∷ rest) small (not_is _ (storage_no_type storage word p1))) (ap (λ (o : Option Storage). storage_behind type (spec_levels type) after (word ∷ rest) o) (storage_is storage word p1)))

-- declarations
pub complete_no_declarator : (before after : Context) (xs : List Terminal) (storage : Storage) (type : TypeSpec) (semicolon : Terminal)
    → Spells (Specifiers storage type) before xs after
    → IsMark (codes ";") semicolon
    → Completes (Specifiers storage type) before xs after
    → Completes (Declaration (declaration storage type [])) before (xs ++ (semicolon ∷ [])) after
unfolding read_declaration
complete_no_declarator before after xs storage type semicolon d1 p1 c1 n rest small =
    let levels = levels_type_declaration storage type in
    ap (λ row. read_declaration (level n) before row) (row_of_two xs (semicolon ∷ []) rest)
    ∙ go_read _ (c1 n (semicolon ∷ rest) (omega (arith, small, levels)) (ends_known goes_on_specifiers (codes ";") semicolon rest p1 refl)) (go_true _ p1 (read_levels _ after rest (sym levels)))

function_begins : (name : List ℕ) (declared : Declared) (before after : Context) (xs : List Terminal) → Spells (FunctionDeclarator name declared) before xs after → Begins begins_declarator xs
function_begins name declared before after xs (NoParameters stars token opening closing are is opens closes) = stars_and_name stars token (opening ∷ (closing ∷ [])) are is
function_begins name declared before after xs (VoidParameters stars token opening word closing are is opens void closes) = stars_and_name stars token (opening ∷ (word ∷ (closing ∷ []))) are is
function_begins name declared before after xs (WithParameters {xs = ws} stars token opening closing are is opens many params closes) = stars_and_name stars token (opening ∷ (ws ++ (closing ∷ []))) are is

declarator_begins : (typedef : Bool) (behind : Place) (declared : Declared) (before after : Context) (xs : List Terminal) → Spells (Declarator typedef behind declared) before xs after → Begins begins_declarator xs
declarator_begins typedef behind declared before after xs (ObjectDeclarator {xs = ws} stars token are is sizes) = stars_and_name stars token ws are is
declarator_begins typedef behind declared before after xs (InitializedDeclarator {xs = ws} {ys} stars token mark are is sizes equals init) = stars_and_name stars token (ws ++ (mark ∷ ys)) are is
declarator_begins typedef behind declared before after xs (DeclaratorOfFunction {within} {name} head) = function_begins name declared before within xs head

declarators_begin : (typedef : Bool) (behind : Place) (names : List Declared) (before after : Context) (xs : List Terminal) → Spells (Declarators typedef behind names) before xs after → Begins begins_declarator xs
declarators_begin typedef behind names before after xs (OneDeclarator {name} one) = declarator_begins typedef behind name before after xs one
declarators_begin typedef behind names before after xs (MoreDeclarators {middle} {xs = ws} {ys} {name} comma one mark more) = begins-append begins_declarator ws (comma ∷ ys) (declarator_begins typedef comma.place name before middle ws one)

pub declarator_no_specifiers : (token : Terminal) → begins_declarator token ≡ true → goes_on_specifiers token ≡ false
declarator_no_specifiers token is = declarator_apart goes_on_specifiers (λ t star. by_mark goes_on_specifiers (codes "*") t star refl) name_no_specifiers token is

declarator_no_semicolon : (token : Terminal) → begins_declarator token ≡ true → is_mark (codes ";") token ≡ false
declarator_no_semicolon token is = declarator_apart (is_mark (codes ";")) (λ t star. by_mark (is_mark (codes ";")) (codes "*") t star refl) (name_is_no_mark (codes ";")) token is

pub complete_with_declarators : (before middle after : Context) (xs ys : List Terminal) (storage : Storage) (type : TypeSpec) (names : List Declared) (semicolon : Terminal)
    → Spells (Specifiers storage type) before xs middle
    → Spells (Declarators (declares_typedef storage) semicolon.place names) middle ys after
    → IsMark (codes ";") semicolon
    → Completes (Specifiers storage type) before xs middle
    → Completes (Declarators (declares_typedef storage) semicolon.place names) middle ys after
    → Completes (Declaration (declaration storage type names)) before (xs ++ (ys ++ (semicolon ∷ []))) after
unfolding read_declaration postfix_start
complete_with_declarators before middle after xs ys storage type names semicolon d1 d2 p1 c1 c2 n rest small =
    let levels = levels_declaration storage type names in
    let begins = declarators_begin (declares_typedef storage) semicolon.place names middle after ys d2 in
    ap (λ row. read_declaration (level n) before row) (row_of_three xs ys (semicolon ∷ []) rest)
    ∙ go_read _ (c1 n (ys ++ (semicolon ∷ rest)) (omega (arith, small, levels)) (not_is _ (begins_apart begins_declarator goes_on_specifiers ys (semicolon ∷ rest) declarator_no_specifiers begins)))
    (go_past (is_mark (codes ";")) (ys ++ (semicolon ∷ rest)) _ _ (begins_apart begins_declarator (is_mark (codes ";")) ys (semicolon ∷ rest) declarator_no_semicolon begins)
    ∙ go_read _ (c2 n (length (ys ++ (semicolon ∷ rest)) + 1) (semicolon ∷ rest) (omega arith) refl (omega (arith, small, levels)) (ends_known (goes_on_list goes_on_declarator) (codes ";") semicolon rest p1 refl))
    (go_true _ p1 (read_levels _ after rest (sym levels))))

pub complete_one_declarator : (before after : Context) (xs : List Terminal) (typedef : Bool) (behind : Place) (name : Declared)
    → Spells (Declarator typedef behind name) before xs after
    → Completes (Declarator typedef behind name) before xs after
    → Completes (Declarators typedef behind (name ∷ [])) before xs after
complete_one_declarator before after xs typedef behind name d1 c1 n count rest enough place small ends =
    list_of_one never (read_declarator (level n) typedef) count before (xs ++ rest) name (declared_levels name) after rest enough
    (c1 n rest place (omega (arith, small)) (ends_less (goes_on_list goes_on_declarator) goes_on_declarator rest (λ t off. or-false-left (goes_on_declarator t) (is_mark (codes ",") t) off) ends))
    (ap (λ (b : Bool). b && true) (ends_first (is_mark (codes ",")) rest (ends_less (goes_on_list goes_on_declarator) (is_mark (codes ",")) rest (λ t off. or-false-right (goes_on_declarator t) (is_mark (codes ",") t) off) ends)))
    ∙ read_levels (name ∷ []) after rest (sym (joined_one (declared_levels name)))

pub complete_more_declarators : (before middle after : Context) (xs ys : List Terminal) (typedef : Bool) (behind : Place) (name : Declared) (others : List Declared) (comma : Terminal)
    → Spells (Declarator typedef comma.place name) before xs middle
    → IsMark (codes ",") comma
    → Spells (Declarators typedef behind others) middle ys after
    → Completes (Declarator typedef comma.place name) before xs middle
    → Completes (Declarators typedef behind others) middle ys after
    → Completes (Declarators typedef behind (name ∷ others)) before (xs ++ (comma ∷ ys)) after
unfolding postfix_start
complete_more_declarators before middle after xs ys typedef behind name others comma d1 p1 d2 c1 c2 n zero rest enough place small ends = absurd (omega (arith, enough))
complete_more_declarators before middle after xs ys typedef behind name others comma d1 p1 d2 c1 c2 n (suc count) rest enough place small ends =
    let less : length (ys ++ rest) < count = let far = shorter_behind xs comma (ys ++ rest) in let same = ap (λ (r : List Terminal). length r) (row_of_two xs (comma ∷ ys) rest) in omega (arith, enough, far, same) in
    ap (λ row. read_list never (read_declarator (level n) typedef) (suc count) before row) (row_of_two xs (comma ∷ ys) rest)
    ∙ list_of_more never (read_declarator (level n) typedef) count before (xs ++ (comma ∷ (ys ++ rest))) name (declared_levels name) middle comma (ys ++ rest) others (joined depth (map declared_levels others)) after rest
    (c1 n (comma ∷ (ys ++ rest)) refl (omega (arith, small)) (ends_known goes_on_declarator (codes ",") comma (ys ++ rest) p1 refl)) p1 refl (c2 n count rest less place (omega (arith, small)) ends)

-- declarators
declarator_front : (inner : Level) (typedef : Bool) (before : Context) (stars : List Terminal) (name : Terminal) (others : List Terminal) (result : Outcome Declared) → AreStars stars → IsName name
    → after_mark (codes "(") others (object_behind inner typedef name (length stars) before others) (λ opening more.
    then_read (read_parameters inner before more) (λ params levels within end. Read (function name (length stars) params) levels (declaring (leaving within) name.bytes typedef) end)) ≡ result
    → read_declarator inner typedef before (stars ++ (name ∷ others)) ≡ result
unfolding read_declarator
declarator_front inner typedef before stars name others result are is more =
    rw (stars_front stars (name ∷ others) are (name_is_no_mark (codes "*") name is)) (rw (drop_front stars (name ∷ others)) (go_true _ is more))

declarator_bracket : (rest : List Terminal) → Ends goes_on_declarator rest → has_first (is_mark (codes "(")) rest ≡ false
declarator_bracket rest ends = ends_first (is_mark (codes "(")) rest (ends_less goes_on_declarator (is_mark (codes "(")) rest (λ t off. or-false-left (is_mark (codes "(") t) _ off) ends)

declarator_sizes : (rest : List Terminal) → Ends goes_on_declarator rest → Ends goes_on_sizes rest
declarator_sizes rest ends = ends_less goes_on_declarator goes_on_sizes rest (λ t off. or-false-left (goes_on_sizes t) _ (or-false-right (is_mark (codes "(") t) _ off)) ends

declarator_equals : (rest : List Terminal) → Ends goes_on_declarator rest → has_first (is_mark (codes "=")) rest ≡ false
declarator_equals rest ends = ends_first (is_mark (codes "=")) rest (ends_less goes_on_declarator (is_mark (codes "=")) rest (λ t off. or-false-left (is_mark (codes "=") t) _ (or-false-right (goes_on_sizes t) _ (or-false-right (is_mark (codes "(") t) _ off))) ends)

declarator_assignment : (rest : List Terminal) → Ends goes_on_declarator rest → Ends goes_on_assignment rest
declarator_assignment rest ends = ends_less goes_on_declarator goes_on_assignment rest (λ t off. or-false-right (is_mark (codes "=") t) _ (or-false-right (goes_on_sizes t) _ (or-false-right (is_mark (codes "(") t) _ off))) ends

pub complete_object_declarator : (before after : Context) (xs : List Terminal) (typedef : Bool) (behind : Place) (sizes : List (Option Expr)) (stars : List Terminal) (name : Terminal)
    → AreStars stars
    → IsName name
    → Spells (ArraySizes sizes) before xs after
    → Completes (ArraySizes sizes) before xs after
    → Completes (Declarator typedef behind (object name (length stars) sizes None)) before (stars ++ (name ∷ xs)) (declaring after name.bytes typedef)
complete_object_declarator before after xs typedef behind sizes stars name p1 p2 d1 c1 n rest place small ends =
    let levels = levels_object name (length stars) sizes in
    ap (λ row. read_declarator (level n) typedef before row) (row_of_two stars (name ∷ xs) rest)
    ∙ declarator_front (level n) typedef before stars name (xs ++ rest) _ p1 p2
    (go_past (is_mark (codes "(")) (xs ++ rest) _ _ (sizes_first (is_mark (codes "(")) sizes before after xs rest d1 (λ t is. by_mark (is_mark (codes "(")) (codes "[") t is refl) (declarator_bracket rest ends))
    ∙ go_read _ (c1 n (length (xs ++ rest) + 1) rest (omega arith) (omega (arith, small, levels)) (declarator_sizes rest ends))
    (go_past (is_mark (codes "=")) rest _ _ (declarator_equals rest ends) ∙ read_levels _ (declaring after name.bytes typedef) rest (sym levels)))

pub complete_initialized_declarator : (before middle after : Context) (xs ys : List Terminal) (typedef : Bool) (behind : Place) (sizes : List (Option Expr)) (init : Init) (stars : List Terminal) (name mark : Terminal)
    → AreStars stars
    → IsName name
    → Spells (ArraySizes sizes) before xs middle
    → IsMark (codes "=") mark
    → Spells (Initializer behind init) (declaring middle name.bytes typedef) ys after
    → Completes (ArraySizes sizes) before xs middle
    → Completes (Initializer behind init) (declaring middle name.bytes typedef) ys after
    → Completes (Declarator typedef behind (object name (length stars) sizes (Some init))) before (stars ++ (name ∷ (xs ++ (mark ∷ ys)))) after
unfolding postfix_start
complete_initialized_declarator before middle after xs ys typedef behind sizes init stars name mark p1 p2 d1 p3 d2 c1 c2 n rest place small ends =
    let levels = levels_initialized name (length stars) sizes init in
    ap (λ row. read_declarator (level n) typedef before row) (row_of_two stars (name ∷ (xs ++ (mark ∷ ys))) rest)
    ∙ (ap (λ row. read_declarator (level n) typedef before (stars ++ (name ∷ row))) (row_of_two xs (mark ∷ ys) rest)
    ∙ declarator_front (level n) typedef before stars name (xs ++ (mark ∷ (ys ++ rest))) _ p1 p2
    (go_past (is_mark (codes "(")) (xs ++ (mark ∷ (ys ++ rest))) _ _ (sizes_first (is_mark (codes "(")) sizes before middle xs (mark ∷ (ys ++ rest)) d1 (λ t is. by_mark (is_mark (codes "(")) (codes "[") t is refl) (by_mark (is_mark (codes "(")) (codes "=") mark p3 refl))
    ∙ go_read _ (c1 n (length (xs ++ (mark ∷ (ys ++ rest))) + 1) (mark ∷ (ys ++ rest)) (omega arith) (omega (arith, small, levels)) (ends_known goes_on_sizes (codes "=") mark (ys ++ rest) p3 refl))
    (go_true _ p3 (go_read _ (c2 n rest place (omega (arith, small, levels)) (declarator_assignment rest ends)) (read_levels _ after rest (sym levels))))))

pub complete_declarator_of_function : (before within : Context) (xs : List Terminal) (typedef : Bool) (behind : Place) (name : List ℕ) (head : Declared)
    → Spells (FunctionDeclarator name head) before xs within
    → Completes (FunctionDeclarator name head) before xs within
    → Completes (Declarator typedef behind head) before xs (declaring (outside before within) name typedef)
complete_declarator_of_function before within xs typedef behind name head d1 c1 n rest place small ends =
    c1 n typedef rest small
    ∙ ap (λ (scope : List Names). Read head (declared_levels head) (declaring (scoped within scope) name typedef) rest) (scopes_kept (FunctionDeclarator name head) before within xs d1)

-- functions
pub complete_no_parameters : (before : Context) (stars : List Terminal) (name opening closing : Terminal)
    → AreStars stars
    → IsName name
    → IsMark (codes "(") opening
    → IsMark (codes ")") closing
    → Completes (FunctionDeclarator name.bytes (function name (length stars) [])) before (stars ++ (name ∷ (opening ∷ (closing ∷ [])))) (inside before)
unfolding read_parameters
complete_no_parameters before stars name opening closing p1 p2 p3 p4 n typedef rest small =
    ap (λ row. read_declarator (level n) typedef before row) (row_of_two stars (name ∷ (opening ∷ (closing ∷ []))) rest)
    ∙ declarator_front (level n) typedef before stars name (opening ∷ (closing ∷ rest)) _ p1 p2
    (go_true _ p3 (go_read _ (go_true _ p4 refl) (read_levels _ (declaring (leaving (inside before)) name.bytes typedef) rest (sym (levels_function name (length stars) [])))))

pub complete_void_parameters : (before : Context) (stars : List Terminal) (name opening word closing : Terminal)
    → AreStars stars
    → IsName name
    → IsMark (codes "(") opening
    → IsWord (codes "void") word
    → IsMark (codes ")") closing
    → Completes (FunctionDeclarator name.bytes (function name (length stars) [])) before (stars ++ (name ∷ (opening ∷ (word ∷ (closing ∷ []))))) (inside before)
unfolding read_parameters
complete_void_parameters before stars name opening word closing p1 p2 p3 p4 p5 n typedef rest small =
    ap (λ row. read_declarator (level n) typedef before row) (row_of_two stars (name ∷ (opening ∷ (word ∷ (closing ∷ [])))) rest)
    ∙ declarator_front (level n) typedef before stars name (opening ∷ (word ∷ (closing ∷ rest))) _ p1 p2
    (go_true _ p3 (go_read _ (go_false _ (word_is_no_mark (codes "void") (codes ")") word p4) (go_true _ (and-both p4 p5) refl)) (read_levels _ (declaring (leaving (inside before)) name.bytes typedef) rest (sym (levels_function name (length stars) [])))))

-- a row in which no `)` stands behind the word `void` at its front
abbrev pub goes_behind_void : List Terminal → Bool
goes_behind_void [] = true
goes_behind_void (only ∷ []) = true
goes_behind_void (front ∷ (second ∷ others)) = not (is_word (codes "void") front && is_mark (codes ")") second)

other_front : (a b : Bool) → a ≡ false → not (a && b) ≡ true
other_front a b is = ap (λ (x : Bool). not (x && b)) is

no_mark_second : (a b : Bool) → b ≡ false → not (a && b) ≡ true
no_mark_second true b is = ap not is
no_mark_second false b is = refl

void_front : (front : Terminal) (others : List Terminal) → is_word (codes "void") front ≡ false → goes_behind_void (front ∷ others) ≡ true
void_front front [] is = refl
void_front front (second ∷ others) is = other_front (is_word (codes "void") front) (is_mark (codes ")") second) is

void_append : (xs ys : List Terminal) → goes_behind_void xs ≡ true → has_mark (codes ")") ys ≡ false → Begins (λ t. true) xs → goes_behind_void (xs ++ ys) ≡ true
void_append [] ys fine none some = absurd some
void_append (only ∷ []) [] fine none some = refl
void_append (only ∷ []) (next ∷ ys) fine none some = no_mark_second (is_word (codes "void") only) (is_mark (codes ")") next) none
void_append (front ∷ (second ∷ xs)) ys fine none some = fine

pub begins_some : (test : Terminal → Bool) (xs : List Terminal) → Begins test xs → Begins (λ t. true) xs
begins_some test [] begins = begins
begins_some test (token ∷ xs) begins = refl

second_basic : (front second : Terminal) (row : List Terminal) → length (front ∷ (second ∷ row)) ≤ prefix_len is_basic_word (front ∷ (second ∷ row)) → is_basic_word second ≡ true
second_basic front second row all = step (is_basic_word front) (is_basic_word second) all
  where
    step : (one other : Bool) → length (front ∷ (second ∷ row)) ≤ cond one (1 + cond other (1 + prefix_len is_basic_word row) 0) 0 → other ≡ true
    step true true fits = refl
    step true false fits = absurd (omega (arith, fits))
    step false true fits = refl
    step false false fits = absurd (omega (arith, fits))

basic_void : (row : List Terminal) (type : BasicType) → IsBasic row type → goes_behind_void row ≡ true
basic_void [] type is = refl
basic_void (only ∷ []) type is = refl
basic_void (front ∷ (second ∷ row)) type is =
    let word = and-left (is_word_kind second.kind) (list_any (bytes_eq second.bytes) basic_words) (second_basic front second row (all_basic (front ∷ (second ∷ row)) type is)) in
    no_mark_second (is_word (codes "void") front) (is_mark (codes ")") second) (ap (λ (mark : Bool). mark && bytes_eq second.bytes (codes ")")) (word_kind_no_mark second.kind word))

type_void : (type : TypeSpec) (before after : Context) (xs : List Terminal) → Spells (TypeSpecifier type) before xs after → goes_behind_void xs ≡ true
type_void type before after xs (BasicWords {type = basic} row is) = basic_void row basic is
type_void type before after xs (TypedefName name is) = refl
type_void type before after xs (TypeOfExpression word opening closing is opens none expr closes) = other_front (is_word (codes "void") word) (is_mark (codes ")") opening) (other_word (codes "typeof") (codes "void") word refl is)
type_void type before after xs (TypeOfType word opening closing is opens to closes) = other_front (is_word (codes "void") word) (is_mark (codes ")") opening) (other_word (codes "typeof") (codes "void") word refl is)
type_void type before after xs (StructWithFields {xs = ws} tag word opening closing is tagged opens members closes) = void_front word (tag ++ (opening ∷ (ws ++ (closing ∷ [])))) (other_word (codes "struct") (codes "void") word refl is)
type_void type before after xs (StructByTag word tag is named) = other_front (is_word (codes "void") word) (is_mark (codes ")") tag) (other_word (codes "struct") (codes "void") word refl is)
type_void type before after xs (EnumWithValues {xs = ws} tag last word opening closing is tagged opens values ends closes) = void_front word (tag ++ (opening ∷ (ws ++ (last ++ (closing ∷ []))))) (other_word (codes "enum") (codes "void") word refl is)
type_void type before after xs (EnumByTag word tag is named) = other_front (is_word (codes "void") word) (is_mark (codes ")") tag) (other_word (codes "enum") (codes "void") word refl is)

storage_no_void : (storage : Storage) (word : Terminal) → IsStorage storage word → is_word (codes "void") word ≡ false
storage_no_void Plain word is = absurd is
storage_no_void Typedef word is = other_word (codes "typedef") (codes "void") word refl is
storage_no_void Extern word is = other_word (codes "extern") (codes "void") word refl is
storage_no_void Static word is = other_word (codes "static") (codes "void") word refl is

storage_no_closing : (storage : Storage) (word : Terminal) → IsStorage storage word → is_mark (codes ")") word ≡ false
storage_no_closing Plain word is = absurd is
storage_no_closing Typedef word is = word_is_no_mark (codes "typedef") (codes ")") word is
storage_no_closing Extern word is = word_is_no_mark (codes "extern") (codes ")") word is
storage_no_closing Static word is = word_is_no_mark (codes "static") (codes ")") word is

specifiers_void : (storage : Storage) (type : TypeSpec) (before after : Context) (xs : List Terminal) → Spells (Specifiers storage type) before xs after → goes_behind_void xs ≡ true
specifiers_void storage type before after xs (TypeAlone alone) = type_void type before after xs alone
specifiers_void storage type before after xs (StorageBefore {xs = ws} word is alone) = void_front word ws (storage_no_void storage word is)
specifiers_void storage type before after xs (StorageBehind {xs = ws} word alone is) =
    void_append ws (word ∷ []) (type_void type before after ws alone) (storage_no_closing storage word is) (begins_some (begins_type before.scope) ws (first alone))

sizes_alone : (test : Terminal → Bool) (sizes : List (Option Expr)) (before after : Context) (xs : List Terminal) → Spells (ArraySizes sizes) before xs after
    → ((token : Terminal) → IsMark (codes "[") token → test token ≡ false) → has_first test xs ≡ false
sizes_alone test sizes before after xs NoMoreSizes each = refl
sizes_alone test sizes before after xs (SizeLeftOut opening closing is other more) each = each opening is
sizes_alone test sizes before after xs (SizeGiven opening closing is size other more) each = each opening is

closing_no_star : (token : Terminal) → IsMark (codes "*") token → is_mark (codes ")") token ≡ false
closing_no_star token is = by_mark (is_mark (codes ")")) (codes "*") token is refl

parameter_begins : (param : Param) (before after : Context) (xs : List Terminal) → Spells (Parameter param) before xs after → Begins (begins_declaration before.scope) xs
parameter_begins param before after xs (NamedParameter {xs = ws} {ys} stars name specifiers are is sizes) = begins-append (begins_declaration before.scope) ws (stars ++ (name ∷ ys)) (first specifiers)
parameter_begins param before after xs (UnnamedParameter {xs = ws} {ys} stars specifiers are sizes) = begins-append (begins_declaration before.scope) ws (stars ++ ys) (first specifiers)

pub parameters_begin : (params : List Param) (before after : Context) (xs : List Terminal) → Spells (Parameters params) before xs after → Begins (begins_declaration before.scope) xs
parameters_begin params before after xs (OneParameter {param} one) = parameter_begins param before after xs one
parameters_begin params before after xs (MoreParameters {middle} {xs = ws} {ys} {param} comma one mark more) = begins-append (begins_declaration before.scope) ws (comma ∷ ys) (parameter_begins param before middle ws one)

parameter_void : (param : Param) (before after : Context) (xs : List Terminal) → Spells (Parameter param) before xs after → goes_behind_void xs ≡ true
parameter_void param before after xs (NamedParameter {middle} {xs = ws} {ys} {storage} {type} stars name specifiers are is sizes) =
    void_append ws (stars ++ (name ∷ ys)) (specifiers_void storage type before middle ws specifiers) (stars_first (is_mark (codes ")")) stars (name ∷ ys) closing_no_star are (name_is_no_mark (codes ")") name is)) (begins_some (begins_declaration before.scope) ws (first specifiers))
parameter_void param before after xs (UnnamedParameter {middle} {xs = ws} {ys} {storage} {type} {sizes} stars specifiers are given) =
    void_append ws (stars ++ ys) (specifiers_void storage type before middle ws specifiers) (stars_first (is_mark (codes ")")) stars ys closing_no_star are (sizes_alone (is_mark (codes ")")) sizes middle after ys given (λ t is. by_mark (is_mark (codes ")")) (codes "[") t is refl))) (begins_some (begins_declaration before.scope) ws (first specifiers))

pub parameters_void : (params : List Param) (before after : Context) (xs : List Terminal) → Spells (Parameters params) before xs after → goes_behind_void xs ≡ true
parameters_void params before after xs (OneParameter {param} one) = parameter_void param before after xs one
parameters_void params before after xs (MoreParameters {middle} {xs = ws} {ys} {param} comma one mark more) =
    void_append ws (comma ∷ ys) (parameter_void param before middle ws one) (other_mark (codes ",") (codes ")") comma refl mark) (begins_some (begins_declaration before.scope) ws (parameter_begins param before middle ws one))

pub no_void_alone : (xs rest : List Terminal) → Begins (λ t. true) xs → IsTrue (not (is_void xs)) → goes_behind_void xs ≡ true → is_void_alone (xs ++ rest) ≡ false
no_void_alone [] rest some many fine = absurd some
no_void_alone (only ∷ []) rest some many fine = ap (λ (b : Bool). b && has_mark (codes ")") rest) (not-true (is_word (codes "void") only) many)
no_void_alone (front ∷ (second ∷ xs)) rest some many fine = not-true (is_word (codes "void") front && is_mark (codes ")") second) fine

pub complete_with_parameters : (before after : Context) (xs : List Terminal) (params : List Param) (stars : List Terminal) (name opening closing : Terminal)
    → AreStars stars
    → IsName name
    → IsMark (codes "(") opening
    → IsTrue (not (is_void xs))
    → Spells (Parameters params) (inside before) xs after
    → IsMark (codes ")") closing
    → Completes (Parameters params) (inside before) xs after
    → Completes (FunctionDeclarator name.bytes (function name (length stars) params)) before (stars ++ (name ∷ (opening ∷ (xs ++ (closing ∷ []))))) after
unfolding read_parameters
complete_with_parameters before after xs params stars name opening closing p1 p2 p3 p4 d1 p5 c1 n typedef rest small =
    let levels = levels_function name (length stars) params in
    let begins = parameters_begin params (inside before) after xs d1 in
    ap (λ row. read_declarator (level n) typedef before row) (row_of_two stars (name ∷ (opening ∷ (xs ++ (closing ∷ [])))) rest)
    ∙ (ap (λ row. read_declarator (level n) typedef before (stars ++ (name ∷ (opening ∷ row)))) (row_of_two xs (closing ∷ []) rest)
    ∙ declarator_front (level n) typedef before stars name (opening ∷ (xs ++ (closing ∷ rest))) _ p1 p2
    (go_true _ p3 (go_read _
    (go_false _ (declaration_row_no_mark (inside before).scope (codes ")") xs (closing ∷ rest) begins)
    (go_false _ (no_void_alone xs (closing ∷ rest) (begins_some (begins_declaration (inside before).scope) xs begins) p4 (parameters_void params (inside before) after xs d1))
    (go_read _ (c1 n (length (xs ++ (closing ∷ rest)) + 1) (closing ∷ rest) (omega arith) (omega (arith, small, levels)) (ends_known (goes_on_list goes_on_parameter) (codes ")") closing rest p5 refl))
    (go_true _ p5 refl))))
    (read_levels _ (declaring (leaving after) name.bytes typedef) rest (sym levels)))))

pub complete_one_parameter : (before after : Context) (xs : List Terminal) (param : Param)
    → Spells (Parameter param) before xs after
    → Completes (Parameter param) before xs after
    → Completes (Parameters (param ∷ [])) before xs after
complete_one_parameter before after xs param d1 c1 n count rest enough small ends =
    list_of_one never (read_parameter (level n)) count before (xs ++ rest) param (param_levels param) after rest enough
    (c1 n rest (omega (arith, small)) (ends_less (goes_on_list goes_on_parameter) goes_on_parameter rest (λ t off. or-false-left (goes_on_parameter t) (is_mark (codes ",") t) off) ends))
    (ap (λ (b : Bool). b && true) (ends_first (is_mark (codes ",")) rest (ends_less (goes_on_list goes_on_parameter) (is_mark (codes ",")) rest (λ t off. or-false-right (goes_on_parameter t) (is_mark (codes ",") t) off) ends)))
    ∙ read_levels (param ∷ []) after rest (sym (joined_one (param_levels param)))

pub complete_more_parameters : (before middle after : Context) (xs ys : List Terminal) (param : Param) (others : List Param) (comma : Terminal)
    → Spells (Parameter param) before xs middle
    → IsMark (codes ",") comma
    → Spells (Parameters others) middle ys after
    → Completes (Parameter param) before xs middle
    → Completes (Parameters others) middle ys after
    → Completes (Parameters (param ∷ others)) before (xs ++ (comma ∷ ys)) after
complete_more_parameters before middle after xs ys param others comma d1 p1 d2 c1 c2 n zero rest enough small ends = absurd (omega (arith, enough))
complete_more_parameters before middle after xs ys param others comma d1 p1 d2 c1 c2 n (suc count) rest enough small ends =
    let less : length (ys ++ rest) < count = let far = shorter_behind xs comma (ys ++ rest) in let same = ap (λ (r : List Terminal). length r) (row_of_two xs (comma ∷ ys) rest) in omega (arith, enough, far, same) in
    ap (λ row. read_list never (read_parameter (level n)) (suc count) before row) (row_of_two xs (comma ∷ ys) rest)
    ∙ list_of_more never (read_parameter (level n)) count before (xs ++ (comma ∷ (ys ++ rest))) param (param_levels param) middle comma (ys ++ rest) others (joined depth (map param_levels others)) after rest
    (c1 n (comma ∷ (ys ++ rest)) (omega (arith, small)) (ends_known goes_on_parameter (codes ",") comma (ys ++ rest) p1 refl)) p1 refl (c2 n count rest less (omega (arith, small)) ends)

parameter_specifiers : (rest : List Terminal) → Ends goes_on_parameter rest → Ends goes_on_specifiers rest
parameter_specifiers rest ends = ends_less goes_on_parameter goes_on_specifiers rest (λ t off. or-false-left (goes_on_specifiers t) _ off) ends

parameter_star : (rest : List Terminal) → Ends goes_on_parameter rest → has_first (is_mark (codes "*")) rest ≡ false
parameter_star rest ends = ends_first (is_mark (codes "*")) rest (ends_less goes_on_parameter (is_mark (codes "*")) rest (λ t off. or-false-left (is_mark (codes "*") t) _ (or-false-right (goes_on_specifiers t) _ off)) ends)

parameter_name : (rest : List Terminal) → Ends goes_on_parameter rest → has_first is_name rest ≡ false
parameter_name rest ends = ends_first is_name rest (ends_less goes_on_parameter is_name rest (λ t off. or-false-left (is_name t) _ (or-false-right (is_mark (codes "*") t) _ (or-false-right (goes_on_specifiers t) _ off))) ends)

parameter_sizes : (rest : List Terminal) → Ends goes_on_parameter rest → Ends goes_on_sizes rest
parameter_sizes rest ends = ends_less goes_on_parameter goes_on_sizes rest (λ t off. or-false-right (is_name t) _ (or-false-right (is_mark (codes "*") t) _ (or-false-right (goes_on_specifiers t) _ off))) ends

named_read : (inner : Level) (type : TypeSpec) (levels : ℕ) (before : Context) (stars : List Terminal) (name : Terminal) (others : List Terminal) (sizes : List (Option Expr)) (deeper : ℕ) (after : Context) (rest : List Terminal) → AreStars stars → IsName name
    → read_sizes inner (length others + 1) before others ≡ Read sizes deeper after rest
    → parameter_behind inner type levels (star_count (stars ++ (name ∷ others))) before (behind_stars (stars ++ (name ∷ others))) ≡ Read (parameter type (length stars) (Some (identifier name)) sizes) (max levels deeper) (declaring after name.bytes false) rest
named_read inner type levels before stars name others sizes deeper after rest are is given =
    ap (λ (k : ℕ). parameter_behind inner type levels k before (drop k (stars ++ (name ∷ others)))) (stars_front stars (name ∷ others) are (name_is_no_mark (codes "*") name is))
    ∙ (ap (λ (row : List Terminal). parameter_behind inner type levels (length stars) before row) (drop_front stars (name ∷ others))
    ∙ go_true _ is (go_read _ given refl))

unnamed_read : (inner : Level) (type : TypeSpec) (levels : ℕ) (before : Context) (stars : List Terminal) (others : List Terminal) (sizes : List (Option Expr)) (deeper : ℕ) (after : Context) (rest : List Terminal) → AreStars stars
    → has_first (is_mark (codes "*")) others ≡ false → has_first is_name others ≡ false
    → read_sizes inner (length others + 1) before others ≡ Read sizes deeper after rest
    → parameter_behind inner type levels (star_count (stars ++ others)) before (behind_stars (stars ++ others)) ≡ Read (parameter type (length stars) None sizes) (max levels deeper) after rest
unnamed_read inner type levels before stars others sizes deeper after rest are star name given =
    ap (λ (k : ℕ). parameter_behind inner type levels k before (drop k (stars ++ others))) (stars_front stars others are star)
    ∙ (ap (λ (row : List Terminal). parameter_behind inner type levels (length stars) before row) (drop_front stars others)
    ∙ (go_past is_name others _ _ name ∙ go_read _ given refl))

pub complete_named_parameter : (before middle after : Context) (xs ys : List Terminal) (storage : Storage) (type : TypeSpec) (sizes : List (Option Expr)) (stars : List Terminal) (name : Terminal)
    → Spells (Specifiers storage type) before xs middle
    → AreStars stars
    → IsName name
    → Spells (ArraySizes sizes) middle ys after
    → Completes (Specifiers storage type) before xs middle
    → Completes (ArraySizes sizes) middle ys after
    → Completes (Parameter (parameter type (length stars) (Some (identifier name)) sizes)) before (xs ++ (stars ++ (name ∷ ys))) (declaring after name.bytes false)
unfolding read_parameter
complete_named_parameter before middle after xs ys storage type sizes stars name d1 p1 p2 d2 c1 c2 n rest small ends =
    let levels = levels_parameter type (length stars) (Some (identifier name)) sizes in
    ap (λ row. read_parameter (level n) before row) (row_of_three xs stars (name ∷ ys) rest)
    ∙ go_read _ (c1 n (stars ++ (name ∷ (ys ++ rest))) (omega (arith, small, levels)) (not_is _ (begins_no_specifiers stars name (ys ++ rest) p1 p2)))
    (named_read (level n) type (spec_levels type) middle stars name (ys ++ rest) sizes (joined depth (map maybe_levels sizes)) after rest p1 p2 (c2 n (length (ys ++ rest) + 1) rest (omega arith) (omega (arith, small, levels)) (parameter_sizes rest ends))
    ∙ read_levels _ (declaring after name.bytes false) rest (sym levels))
  where
    begins_no_specifiers : (stars : List Terminal) (name : Terminal) (others : List Terminal) → AreStars stars → IsName name → has_first goes_on_specifiers (stars ++ (name ∷ others)) ≡ false
    begins_no_specifiers stars name others are is = stars_first goes_on_specifiers stars (name ∷ others) (λ t star. by_mark goes_on_specifiers (codes "*") t star refl) are (name_no_specifiers name is)

pub complete_unnamed_parameter : (before middle after : Context) (xs ys : List Terminal) (storage : Storage) (type : TypeSpec) (sizes : List (Option Expr)) (stars : List Terminal)
    → Spells (Specifiers storage type) before xs middle
    → AreStars stars
    → Spells (ArraySizes sizes) middle ys after
    → Completes (Specifiers storage type) before xs middle
    → Completes (ArraySizes sizes) middle ys after
    → Completes (Parameter (parameter type (length stars) None sizes)) before (xs ++ (stars ++ ys)) after
unfolding read_parameter
complete_unnamed_parameter before middle after xs ys storage type sizes stars d1 p1 d2 c1 c2 n rest small ends =
    let levels = levels_parameter type (length stars) None sizes in
    ap (λ row. read_parameter (level n) before row) (row_of_three xs stars ys rest)
    ∙ go_read _ (c1 n (stars ++ (ys ++ rest)) (omega (arith, small, levels)) (type_end stars sizes middle after ys rest goes_on_specifiers p1 d2 (λ t is. by_mark goes_on_specifiers (codes "*") t is refl) (λ t is. by_mark goes_on_specifiers (codes "[") t is refl) (ends_first goes_on_specifiers rest (parameter_specifiers rest ends))))
    (unnamed_read (level n) type (spec_levels type) middle stars (ys ++ rest) sizes (joined depth (map maybe_levels sizes)) after rest p1
    (sizes_first (is_mark (codes "*")) sizes middle after ys rest d2 (λ t is. by_mark (is_mark (codes "*")) (codes "[") t is refl) (parameter_star rest ends))
    (sizes_first is_name sizes middle after ys rest d2 (λ t is. by_mark is_name (codes "[") t is refl) (parameter_name rest ends))
    (c2 n (length (ys ++ rest) + 1) rest (omega arith) (omega (arith, small, levels)) (parameter_sizes rest ends))
    ∙ read_levels _ after rest (sym levels))
