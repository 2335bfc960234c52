-- The reader of types is complete, rule by rule of the grammar.
use Rattle.std.proofs.Common.{◌≡◌, ℕ, zero, suc, ◌+◌, ◌<◌, ◌≤◌, Bool, true, false, ◌&&◌, ◌||◌, not, refl, ap, sym, ◌∙◌, List, [], ◌∷◌, ◌++◌, length, map, take, drop, codes, cond, IsTrue, inl, inr, arith, append_assoc, Option, Some, None, ◌⊎◌}
use Rattle.std.specs.Prelude.{is_some}
use Rattle.std.specs.List.{list_all, prefix_len}
use Rattle.cbase.specs.declared.tree.decl.TypeName.{TypeName}
use Rattle.cbase.specs.declared.tree.expr.Expr.{Expr}
use Rattle.cbase.specs.declared.tree.identifier.Identifier.{Identifier}
use Rattle.cbase.specs.declared.tree.spec.BasicType.{BasicType}
use Rattle.cbase.specs.declared.tree.spec.Enumerator.{Enumerator}
use Rattle.cbase.specs.declared.tree.spec.FieldDecl.{FieldDecl}
use Rattle.cbase.specs.declared.tree.spec.FieldName.{FieldName}
use Rattle.cbase.specs.declared.tree.spec.TypeSpec.{TypeSpec}
use Rattle.cbase.specs.declared.tree.spec.TypeSpec.TheVariants.{Basic, Named, Struct, Enum, OfExpr, OfType}
use Rattle.ctokens.specs.SymbolTables.{keyword_symbol, name_symbol, passed_symbol}
use Rattle.ctrees.specs.Weight.{joined}
use Rattle.ctrees.specs.Levels.{depth, enumerator_levels, field_decl_levels, field_name_levels}
use Rattle.cgrammar.proofs.BasicRows.{basic_covered}
use Rattle.cgrammar.proofs.CompletingOutcomes.{go_true, go_false, go_read, go_past, go_prepended, not_is, ends_first, ends_less, list_of_one, list_of_more, braces_of_none, braces_of_more, row_of_two, row_of_three, shorter_behind}
use Rattle.cgrammar.proofs.CompletingTokens.{by_mark, by_word, name_no_basic_word, name_no_type, begins_apart, operand_row_no_mark, stars_front, behind_stars_front, stars_first, begins_declarator, stars_and_name, declarator_apart, begins_later}
use Rattle.cgrammar.proofs.CompletingParts.{read_levels, ends_known, expression_read, conditional_read, not_type_row, type_row, type_row_no_mark, sizes_first, fewer}
use Rattle.cgrammar.proofs.Firsts.{first, begins-append, no-basic}
use Rattle.cgrammar.proofs.Fronts.{take_front, drop_front}
use Rattle.cgrammar.proofs.Reached.{Completes, Ends, ClosesList, goes_on_conditional, goes_on_expression, goes_on_type, goes_on_sizes, goes_on_type_name, goes_on_field, goes_on_list, goes_on_enumerator}
use Rattle.cgrammar.proofs.Starting.{starts}
use Rattle.cgrammar.proofs.TokenKinds.{name_is_no_mark, other_mark, mark_is_no_name}
use Rattle.cgrammar.proofs.TreeLevels.{levels_basic, levels_named, levels_struct_by_tag, levels_struct, levels_enum_by_tag, levels_enum, levels_of_expr, levels_of_type, levels_type_name, levels_fields, levels_field, levels_bits, levels_unnamed_bits, levels_enumerator, levels_valued_enumerator, joined_one}
use Rattle.cgrammar.proofs.Truth.{and-left, or-cases, or-left, or-right, not-true, clash, false-of, or-false-left, or-false-right}
use Rattle.cgrammar.specs.FrontReadings.{is_basic_word}
use Rattle.cgrammar.specs.Firsts.{begins_type, Begins}
use Rattle.cgrammar.specs.Grammar.{Spells, IsTag, IsMaybeComma, declaring, OneFieldDeclaration, OneField, MoreFieldNames, NamedField, NamedBits, UnnamedBits, LastEnumerator, MoreEnumerators, PlainEnumerator, ValuedEnumerator}
use Rattle.cgrammar.specs.Outcomes.{Outcome, Nothing, Read, then_read, has_first, has_mark, behind_first}
use Rattle.cgrammar.specs.Phrases.{Context, Expression, Conditional, TypeSpecifier, NameOfType, ArraySizes, Fields, FieldDeclaration, FieldDeclarators, FieldDeclarator, Enumerators, OneEnumerator}
use Rattle.cgrammar.specs.ReadLevels.{Level, read_list, read_until_brace}
use Rattle.cgrammar.specs.ReadStarts.{postfix_start, type_start}
use Rattle.cgrammar.specs.ReadTypes.{behind_stars, read_sizes, read_type_name, read_field, named_field, bits_behind, read_fields, read_enumerator, never, closes_braces, behind_comma, tag_at, behind_tag, read_struct, read_enum, of_basic, read_basic, specifier_with, read_specifier}
use Rattle.cgrammar.specs.Reader.{level}
use Rattle.cgrammar.specs.Scope.{Names}
use Rattle.cgrammar.specs.Terminals.{Terminal, IsWord, is_mark, IsMark, is_name, IsName, is_typedef, IsTypedef, IsNoType, AreStars, bytes_of}
use Rattle.cgrammar.specs.Trees.{identifier, field, fields, enumerator, type_name}
use Rattle.cgrammar.specs.TypeWords.{basic_rows, basic_of, IsBasic}
use Rattle.cgrammar.specs.declared.reading.starts.TypeStart.TheVariants as start

-- how a type begins
typeof_start : (scopes : List Names) (word : Terminal) → IsWord (codes "typeof") word → type_start scopes word ≡ start.TypeOf
unfolding type_start keyword_symbol name_symbol passed_symbol
typeof_start scopes word is = by_word (λ t. type_start scopes t) (codes "typeof") word is refl

struct_start : (scopes : List Names) (word : Terminal) → IsWord (codes "struct") word → type_start scopes word ≡ start.Struct
unfolding type_start keyword_symbol name_symbol passed_symbol
struct_start scopes word is = by_word (λ t. type_start scopes t) (codes "struct") word is refl

enum_start : (scopes : List Names) (word : Terminal) → IsWord (codes "enum") word → type_start scopes word ≡ start.Enum
unfolding type_start keyword_symbol name_symbol passed_symbol
enum_start scopes word is = by_word (λ t. type_start scopes t) (codes "enum") word is refl

typedef_start : (scopes : List Names) (name : Terminal) → IsTypedef scopes name → type_start scopes name ≡ start.Named
unfolding type_start
typedef_start scopes name is = go_true _ is refl

basic_start : (scopes : List Names) (token : Terminal) → is_basic_word token ≡ true → type_start scopes token ≡ start.Basic
unfolding type_start
basic_start scopes token is =
    go_false _ (false-of (is_typedef scopes token) (λ named. clash (is_basic_word token) is (name_no_basic_word token (and-left (is_name token) _ named)))) (go_true _ is refl)

pub complete_typedef_name : (before : Context) (name : Terminal)
    → IsTypedef before.scope name
    → Completes (TypeSpecifier (Named name.bytes)) before (name ∷ []) before
unfolding read_specifier
complete_typedef_name before name p1 zero rest small ends = absurd (omega (arith, small, levels_named name.bytes))
complete_typedef_name before name p1 (suc m) rest small ends =
    ap (λ s. specifier_with (level m) before name rest s) (typedef_start before.scope name p1) ∙ read_levels _ before rest (sym (levels_named name.bytes))

pub complete_type_of_expression : (before after : Context) (xs : List Terminal) (expr : Expr) (word opening closing : Terminal)
    → IsWord (codes "typeof") word
    → IsMark (codes "(") opening
    → IsNoType before.scope xs
    → Spells (Expression expr) before xs after
    → IsMark (codes ")") closing
    → Completes (Expression expr) before xs after
    → Completes (TypeSpecifier (OfExpr expr)) before (word ∷ (opening ∷ (xs ++ (closing ∷ [])))) after
unfolding read_specifier postfix_start
complete_type_of_expression before after xs expr word opening closing p1 p2 p3 d1 p4 c1 zero rest small ends = absurd (omega (arith, small, levels_of_expr expr))
complete_type_of_expression before after xs expr word opening closing p1 p2 p3 d1 p4 c1 (suc m) rest small ends =
    ap (λ row. read_specifier (level m) before (word ∷ (opening ∷ row))) (row_of_two xs (closing ∷ []) rest)
    ∙ (ap (λ s. specifier_with (level m) before word (opening ∷ (xs ++ (closing ∷ rest))) s) (typeof_start before.scope word p1)
    ∙ go_true _ p2 (go_false _ (not_type_row before.scope xs (closing ∷ rest) (first d1) p3)
    (go_read _ (expression_read m before xs expr after (closing ∷ rest) c1 (omega (arith, small, levels_of_expr expr)) (ends_known goes_on_expression (codes ")") closing rest p4 refl))
    (go_true _ p4 (read_levels _ after rest (sym (levels_of_expr expr)))))))

pub complete_type_of_type : (before after : Context) (xs : List Terminal) (to : TypeName) (word opening closing : Terminal)
    → IsWord (codes "typeof") word
    → IsMark (codes "(") opening
    → Spells (NameOfType to) before xs after
    → IsMark (codes ")") closing
    → Completes (NameOfType to) before xs after
    → Completes (TypeSpecifier (OfType to)) before (word ∷ (opening ∷ (xs ++ (closing ∷ [])))) after
unfolding read_specifier postfix_start
complete_type_of_type before after xs to word opening closing p1 p2 d1 p3 c1 zero rest small ends = absurd (omega (arith, small, levels_of_type to))
complete_type_of_type before after xs to word opening closing p1 p2 d1 p3 c1 (suc m) rest small ends =
    ap (λ row. read_specifier (level m) before (word ∷ (opening ∷ row))) (row_of_two xs (closing ∷ []) rest)
    ∙ (ap (λ s. specifier_with (level m) before word (opening ∷ (xs ++ (closing ∷ rest))) s) (typeof_start before.scope word p1)
    ∙ go_true _ p2 (go_true _ (type_row before.scope xs (closing ∷ rest) (first d1))
    (go_read _ (c1 m (closing ∷ rest) (omega (arith, small, levels_of_type to)) (ends_known goes_on_type_name (codes ")") closing rest p3 refl))
    (go_true _ p3 (read_levels _ after rest (sym (levels_of_type to)))))))

-- keywords of a basic type
prefix_all : (test : Terminal → Bool) (row rest : List Terminal) → length row ≤ prefix_len test row → has_first test rest ≡ false → prefix_len test (row ++ rest) ≡ length row
prefix_all test [] [] all none = refl
prefix_all test [] (next ∷ rest) all none = go_false _ none refl
prefix_all test (token ∷ row) rest all none = step (test token) all (λ fits. prefix_all test row rest fits none)
  where
    step : (passes : Bool) → length (token ∷ row) ≤ cond passes (1 + prefix_len test row) 0 → (length row ≤ prefix_len test row → prefix_len test (row ++ rest) ≡ length row)
        → cond passes (1 + prefix_len test (row ++ rest)) 0 ≡ length (token ∷ row)
    step true fits further = let more = further (omega (arith, fits)) in omega (arith, more)
    step false fits further = absurd (omega (arith, fits))

take_all : (row : List Terminal) → take (length row) row ≡ row
take_all [] = refl
take_all (token ∷ row) = ap (λ (r : List Terminal). token ∷ r) (take_all row)

pub all_basic : (row : List Terminal) (type : BasicType) → IsBasic row type → length row ≤ prefix_len is_basic_word row
all_basic row type is =
    basic_covered row (length row) type (omega arith) (rw (take_all row) is)

first_basic : (token : Terminal) (row : List Terminal) → length (token ∷ row) ≤ prefix_len is_basic_word (token ∷ row) → is_basic_word token ≡ true
first_basic token row all = step (is_basic_word token) all
  where
    step : (passes : Bool) → length (token ∷ row) ≤ cond passes (1 + prefix_len is_basic_word row) 0 → passes ≡ true
    step true fits = refl
    step false fits = absurd (omega (arith, fits))

basic_read : (before : Context) (row rest : List Terminal) (type : BasicType) → prefix_len is_basic_word (row ++ rest) ≡ length row → basic_of basic_rows (map bytes_of row) ≡ Some type → read_basic before (row ++ rest) ≡ Read (Basic type) 1 before rest
basic_read before row rest type counted is =
    ap (λ (n : ℕ). of_basic (basic_of basic_rows (map bytes_of (take n (row ++ rest)))) before (drop n (row ++ rest))) counted
    ∙ (ap (λ (r : List Terminal). of_basic (basic_of basic_rows (map bytes_of r)) before (drop (length row) (row ++ rest))) (take_front row rest)
    ∙ (ap (λ (r : List Terminal). of_basic (basic_of basic_rows (map bytes_of row)) before r) (drop_front row rest)
    ∙ ap (λ (o : Option BasicType). of_basic o before rest) is))

pub complete_basic_words : (before : Context) (type : BasicType) (row : List Terminal)
    → IsBasic row type
    → Completes (TypeSpecifier (Basic type)) before row before
unfolding read_specifier
complete_basic_words before type row p1 zero rest small ends = absurd (omega (arith, small, levels_basic type))
complete_basic_words before type [] p1 (suc m) rest small ends = absurd (no-basic type p1.1)
complete_basic_words before type (token ∷ row) p1 (suc m) rest small ends =
    let all = all_basic (token ∷ row) type p1 in
    let none = ends_first is_basic_word rest (ends_less goes_on_type is_basic_word rest (λ t off. or-false-left (is_basic_word t) (is_mark (codes "{") t) off) ends) in
    ap (λ s. specifier_with (level m) before token (row ++ rest) s) (basic_start before.scope token (first_basic token row all))
    ∙ (basic_read before (token ∷ row) rest type (prefix_all is_basic_word (token ∷ row) rest all none) p1.1 ∙ read_levels _ before rest (sym (levels_basic type)))

-- structs and enums
tag_facts : (tag : List Terminal) (name : Option Identifier) (opening : Terminal) (others : List Terminal) → IsTag tag name → IsMark (codes "{") opening
    → (tag_at (tag ++ (opening ∷ others)) ≡ name) × (behind_tag (tag ++ (opening ∷ others)) ≡ opening ∷ others)
tag_facts tag None opening others is mark = rw is (go_false _ (mark_is_no_name (codes "{") opening mark) refl, go_false _ (mark_is_no_name (codes "{") opening mark) refl)
tag_facts tag (Some name) opening others (token, is, named, same) mark = rw is (go_true _ named (ap Some same), go_true _ named refl)

struct_read : (inner : Level) (before : Context) (row : List Terminal) (name : Option Identifier) (opening : Terminal) (others : List Terminal) (decls : List FieldDecl) (levels : ℕ) (behind : Context) (rest : List Terminal)
    → tag_at row ≡ name → behind_tag row ≡ opening ∷ others → IsMark (codes "{") opening
    → read_until_brace (read_fields inner) (length (opening ∷ others)) before others ≡ Read decls levels behind rest
    → read_struct inner before row ≡ Read (Struct name (Some decls)) (1 + levels) behind (behind_first rest)
unfolding read_struct
struct_read inner before row name opening others decls levels behind rest tag further mark is =
    rw further (rw tag (go_true _ mark (go_read _ is refl)))

enum_read : (inner : Level) (before : Context) (row : List Terminal) (name : Option Identifier) (opening : Terminal) (others : List Terminal) (values : List Enumerator) (levels : ℕ) (behind : Context) (rest : List Terminal) (closing : Terminal) (end : List Terminal)
    → tag_at row ≡ name → behind_tag row ≡ opening ∷ others → IsMark (codes "{") opening
    → read_list closes_braces (read_enumerator inner) (length (opening ∷ others)) before others ≡ Read values levels behind rest
    → behind_comma rest ≡ closing ∷ end → IsMark (codes "}") closing
    → read_enum inner before row ≡ Read (Enum name (Some values)) (1 + levels) behind end
unfolding read_enum
enum_read inner before row name opening others values levels behind rest closing end tag further mark is comma closes =
    rw further (rw tag (go_true _ mark (go_read _ is (rw comma (go_true _ closes refl)))))

by_tag_struct : (inner : Level) (before : Context) (tag : Terminal) (rest : List Terminal) → IsName tag → has_mark (codes "{") rest ≡ false → read_struct inner before (tag ∷ rest) ≡ Read (Struct (Some (identifier tag)) None) 1 before rest
unfolding read_struct
by_tag_struct inner before tag rest named none = rw named (go_false _ none refl)

by_tag_enum : (inner : Level) (before : Context) (tag : Terminal) (rest : List Terminal) → IsName tag → has_mark (codes "{") rest ≡ false → read_enum inner before (tag ∷ rest) ≡ Read (Enum (Some (identifier tag)) None) 1 before rest
unfolding read_enum
by_tag_enum inner before tag rest named none = rw named (go_false _ none refl)

no_brace : (rest : List Terminal) → Ends goes_on_type rest → has_mark (codes "{") rest ≡ false
no_brace rest ends = ends_first (is_mark (codes "{")) rest (ends_less goes_on_type (is_mark (codes "{")) rest (λ t off. or-false-right (is_basic_word t) (is_mark (codes "{") t) off) ends)

pub complete_struct_by_tag : (before : Context) (word tag : Terminal)
    → IsWord (codes "struct") word
    → IsName tag
    → Completes (TypeSpecifier (Struct (Some (identifier tag)) None)) before (word ∷ (tag ∷ [])) before
unfolding read_specifier
complete_struct_by_tag before word tag p1 p2 zero rest small ends = absurd (omega (arith, small, levels_struct_by_tag (Some (identifier tag))))
complete_struct_by_tag before word tag p1 p2 (suc m) rest small ends =
    ap (λ s. specifier_with (level m) before word (tag ∷ rest) s) (struct_start before.scope word p1)
    ∙ (by_tag_struct (level m) before tag rest p2 (no_brace rest ends) ∙ read_levels _ before rest (sym (levels_struct_by_tag (Some (identifier tag)))))

pub complete_enum_by_tag : (before : Context) (word tag : Terminal)
    → IsWord (codes "enum") word
    → IsName tag
    → Completes (TypeSpecifier (Enum (Some (identifier tag)) None)) before (word ∷ (tag ∷ [])) before
unfolding read_specifier
complete_enum_by_tag before word tag p1 p2 zero rest small ends = absurd (omega (arith, small, levels_enum_by_tag (Some (identifier tag))))
complete_enum_by_tag before word tag p1 p2 (suc m) rest small ends =
    ap (λ s. specifier_with (level m) before word (tag ∷ rest) s) (enum_start before.scope word p1)
    ∙ (by_tag_enum (level m) before tag rest p2 (no_brace rest ends) ∙ read_levels _ before rest (sym (levels_enum_by_tag (Some (identifier tag)))))

row_of_braces : (tag : List Terminal) (opening : Terminal) (xs : List Terminal) (closing : Terminal) (rest : List Terminal) → (tag ++ (opening ∷ (xs ++ (closing ∷ [])))) ++ rest ≡ tag ++ (opening ∷ (xs ++ (closing ∷ rest)))
row_of_braces tag opening xs closing rest = append_assoc tag (opening ∷ (xs ++ (closing ∷ []))) rest ∙ ap (λ (row : List Terminal). tag ++ (opening ∷ row)) (append_assoc xs (closing ∷ []) rest)

pub complete_struct_with_fields : (before after : Context) (xs : List Terminal) (name : Option Identifier) (declarations : List FieldDecl) (tag : List Terminal) (word opening closing : Terminal)
    → IsWord (codes "struct") word
    → IsTag tag name
    → IsMark (codes "{") opening
    → Spells (Fields declarations) before xs after
    → IsMark (codes "}") closing
    → Completes (Fields declarations) before xs after
    → Completes (TypeSpecifier (Struct name (Some declarations))) before (word ∷ (tag ++ (opening ∷ (xs ++ (closing ∷ []))))) after
unfolding read_specifier
complete_struct_with_fields before after xs name declarations tag word opening closing p1 p2 p3 d1 p4 c1 zero rest small ends = absurd (omega (arith, small, levels_struct name declarations))
complete_struct_with_fields before after xs name declarations tag word opening closing p1 p2 p3 d1 p4 c1 (suc m) rest small ends =
    let facts = tag_facts tag name opening (xs ++ (closing ∷ rest)) p2 p3 in
    ap (λ row. read_specifier (level m) before (word ∷ row)) (row_of_braces tag opening xs closing rest)
    ∙ (ap (λ s. specifier_with (level m) before word (tag ++ (opening ∷ (xs ++ (closing ∷ rest)))) s) (struct_start before.scope word p1)
    ∙ (struct_read (level m) before (tag ++ (opening ∷ (xs ++ (closing ∷ rest)))) name opening (xs ++ (closing ∷ rest)) declarations (joined depth (map field_decl_levels declarations)) after (closing ∷ rest)
    facts.0 facts.1 p3 (c1 m (length (opening ∷ (xs ++ (closing ∷ rest)))) (closing ∷ rest) (omega arith) (omega (arith, small, levels_struct name declarations)) p4)
    ∙ read_levels _ after rest (sym (levels_struct name declarations))))

-- what closes a list in braces: a comma, or none, before the brace
pub last_comma : (last : List Terminal) (closing : Terminal) (rest : List Terminal) → IsMaybeComma last → IsMark (codes "}") closing
    → (behind_comma (last ++ (closing ∷ rest)) ≡ closing ∷ rest) × ClosesList (last ++ (closing ∷ rest))
last_comma last closing rest (inl is) mark =
    rw is (go_false _ (other_mark (codes "}") (codes ",") closing refl mark) refl, not_is _ (ap (λ (b : Bool). b && not (closes_braces rest)) (other_mark (codes "}") (codes ",") closing refl mark)))
last_comma last closing rest (inr (comma, is, named)) mark =
    rw is (go_true _ named refl, not_is _ (ap (λ (b : Bool). is_mark (codes ",") comma && not b) mark ∙ and_off (is_mark (codes ",") comma)))
  where
    and_off : (b : Bool) → (b && false) ≡ false
    and_off true = refl
    and_off false = refl

pub last_ends : (test : Terminal → Bool) (last : List Terminal) (closing : Terminal) (rest : List Terminal) → ((token : Terminal) → IsMark (codes ",") token → test token ≡ false) → ((token : Terminal) → IsMark (codes "}") token → test token ≡ false)
    → IsMaybeComma last → IsMark (codes "}") closing → Ends test (last ++ (closing ∷ rest))
last_ends test last closing rest at_comma at_brace (inl is) mark = rw is (not_is (test closing) (at_brace closing mark))
last_ends test last closing rest at_comma at_brace (inr (comma, is, named)) mark = rw is (not_is (test comma) (at_comma comma named))

row_of_list : (tag : List Terminal) (opening : Terminal) (xs last : List Terminal) (closing : Terminal) (rest : List Terminal) → (tag ++ (opening ∷ (xs ++ (last ++ (closing ∷ []))))) ++ rest ≡ tag ++ (opening ∷ (xs ++ (last ++ (closing ∷ rest))))
row_of_list tag opening xs last closing rest = append_assoc tag (opening ∷ (xs ++ (last ++ (closing ∷ [])))) rest ∙ ap (λ (row : List Terminal). tag ++ (opening ∷ row)) (row_of_three xs last (closing ∷ []) rest)

pub complete_enum_with_values : (before after : Context) (xs : List Terminal) (name : Option Identifier) (values : List Enumerator) (tag last : List Terminal) (word opening closing : Terminal)
    → IsWord (codes "enum") word
    → IsTag tag name
    → IsMark (codes "{") opening
    → Spells (Enumerators values) before xs after
    → IsMaybeComma last
    → IsMark (codes "}") closing
    → Completes (Enumerators values) before xs after
    → Completes (TypeSpecifier (Enum name (Some values))) before (word ∷ (tag ++ (opening ∷ (xs ++ (last ++ (closing ∷ [])))))) after
unfolding read_specifier postfix_start
complete_enum_with_values before after xs name values tag last word opening closing p1 p2 p3 d1 p4 p5 c1 zero rest small ends = absurd (omega (arith, small, levels_enum name values))
complete_enum_with_values before after xs name values tag last word opening closing p1 p2 p3 d1 p4 p5 c1 (suc m) rest small ends =
    let facts = tag_facts tag name opening (xs ++ (last ++ (closing ∷ rest))) p2 p3 in
    let closed = last_comma last closing rest p4 p5 in
    let ended = last_ends goes_on_enumerator last closing rest (λ t is. by_mark goes_on_enumerator (codes ",") t is refl) (λ t is. by_mark goes_on_enumerator (codes "}") t is refl) p4 p5 in
    ap (λ row. read_specifier (level m) before (word ∷ row)) (row_of_list tag opening xs last closing rest)
    ∙ (ap (λ s. specifier_with (level m) before word (tag ++ (opening ∷ (xs ++ (last ++ (closing ∷ rest))))) s) (enum_start before.scope word p1)
    ∙ (enum_read (level m) before (tag ++ (opening ∷ (xs ++ (last ++ (closing ∷ rest))))) name opening (xs ++ (last ++ (closing ∷ rest))) values (joined depth (map enumerator_levels values)) after (last ++ (closing ∷ rest)) closing rest
    facts.0 facts.1 p3 (c1 m (length (opening ∷ (xs ++ (last ++ (closing ∷ rest))))) (last ++ (closing ∷ rest)) (omega arith) (omega (arith, small, levels_enum name values)) ended closed.1) closed.0 p5
    ∙ read_levels _ after rest (sym (levels_enum name values))))

-- fields
pub complete_no_more_fields : (before : Context)
    → Completes (Fields []) before [] before
complete_no_more_fields before n count rest enough small closes = braces_of_none (read_fields (level n)) count before rest enough closes

field_begins : (decl : FieldDecl) (before after : Context) (xs : List Terminal) → Spells (FieldDeclaration decl) before xs after → Begins (begins_type before.scope) xs
field_begins decl before after xs (OneFieldDeclaration {xs = ws} {ys} semicolon type names is) = begins-append (begins_type before.scope) ws (ys ++ (semicolon ∷ [])) (first type)

pub complete_more_fields : (before middle after : Context) (xs ys : List Terminal) (decl : FieldDecl) (others : List FieldDecl)
    → Spells (FieldDeclaration decl) before xs middle
    → Spells (Fields others) middle ys after
    → Completes (FieldDeclaration decl) before xs middle
    → Completes (Fields others) middle ys after
    → Completes (Fields (decl ∷ others)) before (xs ++ ys) after
complete_more_fields before middle after xs ys decl others d1 d2 c1 c2 n zero rest enough small closes = absurd (omega (arith, enough))
complete_more_fields before middle after xs ys decl others d1 d2 c1 c2 n (suc count) rest enough small closes =
    let begins = field_begins decl before middle xs d1 in
    let less : length (ys ++ rest) < count = let far = fewer (begins_type before.scope) xs (ys ++ rest) begins in let same = ap (λ (r : List Terminal). length r) (row_of_two xs ys rest) in omega (arith, enough, far, same) in
    ap (λ row. read_until_brace (read_fields (level n)) (suc count) before row) (row_of_two xs ys rest)
    ∙ braces_of_more (read_fields (level n)) count before (xs ++ (ys ++ rest)) decl (field_decl_levels decl) middle (ys ++ rest) others (joined depth (map field_decl_levels others)) after rest
    (type_row_no_mark before.scope (codes "}") xs (ys ++ rest) begins) (c1 n (ys ++ rest) (omega (arith, small))) (c2 n count rest less (omega (arith, small)) closes)

-- with what the names of fields begin
abbrev begins_field : Terminal → Bool
begins_field token = is_mark (codes ":") token || begins_declarator token

field_name_begins : (name : FieldName) (before after : Context) (xs : List Terminal) → Spells (FieldDeclarator name) before xs after → Begins begins_field xs
field_name_begins name before after xs (NamedField {xs = ws} stars token are is sizes all) = begins_later begins_declarator begins_field (λ t on. or-right (is_mark (codes ":") t) on) (stars ++ (token ∷ ws)) (stars_and_name stars token ws are is)
field_name_begins name before after xs (NamedBits {xs = ws} {ys} stars token colon are is sizes all mark bits) = begins_later begins_declarator begins_field (λ t on. or-right (is_mark (codes ":") t) on) (stars ++ (token ∷ (ws ++ (colon ∷ ys)))) (stars_and_name stars token (ws ++ (colon ∷ ys)) are is)
field_name_begins name before after xs (UnnamedBits colon mark bits) = or-left (begins_declarator colon) mark

field_names_begin : (names : List FieldName) (before after : Context) (xs : List Terminal) → Spells (FieldDeclarators names) before xs after → Begins begins_field xs
field_names_begin names before after xs (OneField {name} one) = field_name_begins name before after xs one
field_names_begin names before after xs (MoreFieldNames {middle} {xs = ws} {ys} {name} comma one mark more) = begins-append begins_field ws (comma ∷ ys) (field_name_begins name before middle ws one)

field_no_type : (token : Terminal) → begins_field token ≡ true → goes_on_type token ≡ false
field_no_type token is = step (or-cases (is_mark (codes ":") token) (begins_declarator token) is)
  where
    step : (is_mark (codes ":") token ≡ true) ⊎ (begins_declarator token ≡ true) → goes_on_type token ≡ false
    step (inl colon) = by_mark goes_on_type (codes ":") token colon refl
    step (inr other) = declarator_apart goes_on_type (λ t star. by_mark goes_on_type (codes "*") t star refl) name_no_type token other

pub complete_one_field_declaration : (before middle after : Context) (xs ys : List Terminal) (type : TypeSpec) (names : List FieldName) (semicolon : Terminal)
    → Spells (TypeSpecifier type) before xs middle
    → Spells (FieldDeclarators names) middle ys after
    → IsMark (codes ";") semicolon
    → Completes (TypeSpecifier type) before xs middle
    → Completes (FieldDeclarators names) middle ys after
    → Completes (FieldDeclaration (fields type names)) before (xs ++ (ys ++ (semicolon ∷ []))) after
unfolding read_fields postfix_start
complete_one_field_declaration before middle after xs ys type names semicolon d1 d2 p1 c1 c2 n rest small =
    let levels = levels_fields type names in
    ap (λ row. read_fields (level n) before row) (row_of_three xs ys (semicolon ∷ []) rest)
    ∙ go_read _ (c1 n (ys ++ (semicolon ∷ rest)) (omega (arith, small, levels)) (not_is _ (begins_apart begins_field goes_on_type ys (semicolon ∷ rest) field_no_type (field_names_begin names middle after ys d2))))
    (go_read _ (c2 n (length (ys ++ (semicolon ∷ rest)) + 1) (semicolon ∷ rest) (omega arith) (omega (arith, small, levels)) (ends_known (goes_on_list goes_on_field) (codes ";") semicolon rest p1 refl))
    (go_true _ p1 (read_levels _ after rest (sym levels))))

pub complete_one_field : (before after : Context) (xs : List Terminal) (name : FieldName)
    → Spells (FieldDeclarator name) before xs after
    → Completes (FieldDeclarator name) before xs after
    → Completes (FieldDeclarators (name ∷ [])) before xs after
complete_one_field before after xs name d1 c1 n count rest enough small ends =
    list_of_one never (read_field (level n)) count before (xs ++ rest) name (field_name_levels name) after rest enough
    (c1 n rest (omega (arith, small)) (ends_less (goes_on_list goes_on_field) goes_on_field rest (λ t off. or-false-left (goes_on_field t) (is_mark (codes ",") t) off) ends))
    (ap (λ (b : Bool). b && true) (ends_first (is_mark (codes ",")) rest (ends_less (goes_on_list goes_on_field) (is_mark (codes ",")) rest (λ t off. or-false-right (goes_on_field t) (is_mark (codes ",") t) off) ends)))
    ∙ read_levels (name ∷ []) after rest (sym (joined_one (field_name_levels name)))

pub complete_more_field_names : (before middle after : Context) (xs ys : List Terminal) (name : FieldName) (others : List FieldName) (comma : Terminal)
    → Spells (FieldDeclarator name) before xs middle
    → IsMark (codes ",") comma
    → Spells (FieldDeclarators others) middle ys after
    → Completes (FieldDeclarator name) before xs middle
    → Completes (FieldDeclarators others) middle ys after
    → Completes (FieldDeclarators (name ∷ others)) before (xs ++ (comma ∷ ys)) after
unfolding postfix_start
complete_more_field_names before middle after xs ys name others comma d1 p1 d2 c1 c2 n zero rest enough small ends = absurd (omega (arith, enough))
complete_more_field_names before middle after xs ys name others comma d1 p1 d2 c1 c2 n (suc count) rest enough small ends =
    let less : length (ys ++ rest) < count = let far = shorter_behind xs comma (ys ++ rest) in let same = ap (λ (r : List Terminal). length r) (row_of_two xs (comma ∷ ys) rest) in omega (arith, enough, far, same) in
    ap (λ row. read_list never (read_field (level n)) (suc count) before row) (row_of_two xs (comma ∷ ys) rest)
    ∙ list_of_more never (read_field (level n)) count before (xs ++ (comma ∷ (ys ++ rest))) name (field_name_levels name) middle comma (ys ++ rest) others (joined depth (map field_name_levels others)) after rest
    (c1 n (comma ∷ (ys ++ rest)) (omega (arith, small)) (ends_known goes_on_field (codes ",") comma (ys ++ rest) p1 refl)) p1 refl (c2 n count rest less (omega (arith, small)) ends)

sizes_end : (rest : List Terminal) → Ends goes_on_field rest → Ends goes_on_sizes rest
sizes_end rest ends = ends_less goes_on_field goes_on_sizes rest (λ t off. or-false-left (goes_on_sizes t) (is_mark (codes ":") t || goes_on_conditional t) off) ends

field_colon : (rest : List Terminal) → Ends goes_on_field rest → has_first (is_mark (codes ":")) rest ≡ false
field_colon rest ends = ends_first (is_mark (codes ":")) rest (ends_less goes_on_field (is_mark (codes ":")) rest (λ t off. or-false-left (is_mark (codes ":") t) (goes_on_conditional t) (or-false-right (goes_on_sizes t) (is_mark (codes ":") t || goes_on_conditional t) off)) ends)

field_conditional : (rest : List Terminal) → Ends goes_on_field rest → Ends goes_on_conditional rest
field_conditional rest ends = ends_less goes_on_field goes_on_conditional rest (λ t off. or-false-right (is_mark (codes ":") t) (goes_on_conditional t) (or-false-right (goes_on_sizes t) (is_mark (codes ":") t || goes_on_conditional t) off)) ends

-- the front of a field with a name
field_front : (inner : Level) (before : Context) (stars : List Terminal) (name : Terminal) (others : List Terminal) (result : Outcome FieldName) → AreStars stars → IsName name
    → then_read (read_sizes inner (length others + 1) before others) (λ sizes levels behind more. cond (list_all is_some sizes) (bits_behind inner name (length stars) sizes levels behind more) Nothing) ≡ result
    → read_field inner before (stars ++ (name ∷ others)) ≡ result
unfolding read_field
field_front inner before stars name others result are is more =
    go_past (is_mark (codes ":")) (stars ++ (name ∷ others)) _ _ (stars_first (is_mark (codes ":")) stars (name ∷ others) (λ t star. by_mark (is_mark (codes ":")) (codes "*") t star refl) are (name_is_no_mark (codes ":") name is))
    ∙ (ap (λ (k : ℕ). named_field inner k before (behind_stars (stars ++ (name ∷ others)))) (stars_front stars (name ∷ others) are (name_is_no_mark (codes "*") name is))
    ∙ (ap (λ (row : List Terminal). named_field inner (length stars) before row) (behind_stars_front stars (name ∷ others) are (name_is_no_mark (codes "*") name is))
    ∙ go_true _ is more))

pub complete_named_field : (before after : Context) (xs : List Terminal) (sizes : List (Option Expr)) (stars : List Terminal) (name : Terminal)
    → AreStars stars
    → IsName name
    → Spells (ArraySizes sizes) before xs after
    → IsTrue (list_all is_some sizes)
    → Completes (ArraySizes sizes) before xs after
    → Completes (FieldDeclarator (field name.place (Some name.bytes) (length stars) sizes None)) before (stars ++ (name ∷ xs)) after
complete_named_field before after xs sizes stars name p1 p2 d1 p3 c1 n rest small ends =
    let levels = levels_field name.place (Some name.bytes) (length stars) sizes in
    ap (λ row. read_field (level n) before row) (row_of_two stars (name ∷ xs) rest)
    ∙ field_front (level n) before stars name (xs ++ rest) _ p1 p2
    (go_read _ (c1 n (length (xs ++ rest) + 1) rest (omega arith) (omega (arith, small, levels)) (sizes_end rest ends))
    (go_true _ p3 (go_false _ (field_colon rest ends) (read_levels _ after rest (sym levels)))))

pub complete_named_bits : (before middle after : Context) (xs ys : List Terminal) (sizes : List (Option Expr)) (bits : Expr) (stars : List Terminal) (name colon : Terminal)
    → AreStars stars
    → IsName name
    → Spells (ArraySizes sizes) before xs middle
    → IsTrue (list_all is_some sizes)
    → IsMark (codes ":") colon
    → Spells (Conditional bits) middle ys after
    → Completes (ArraySizes sizes) before xs middle
    → Completes (Conditional bits) middle ys after
    → Completes (FieldDeclarator (field name.place (Some name.bytes) (length stars) sizes (Some bits))) before (stars ++ (name ∷ (xs ++ (colon ∷ ys)))) after
unfolding postfix_start
complete_named_bits before middle after xs ys sizes bits stars name colon p1 p2 d1 p3 p4 d2 c1 c2 n rest small ends =
    let levels = levels_bits name.place (Some name.bytes) (length stars) sizes bits in
    ap (λ row. read_field (level n) before row) (row_of_two stars (name ∷ (xs ++ (colon ∷ ys))) rest)
    ∙ (ap (λ row. read_field (level n) before (stars ++ (name ∷ row))) (row_of_two xs (colon ∷ ys) rest)
    ∙ field_front (level n) before stars name (xs ++ (colon ∷ (ys ++ rest))) _ p1 p2
    (go_read _ (c1 n (length (xs ++ (colon ∷ (ys ++ rest))) + 1) (colon ∷ (ys ++ rest)) (omega arith) (omega (arith, small, levels)) (ends_known goes_on_sizes (codes ":") colon (ys ++ rest) p4 refl))
    (go_true _ p3 (go_true _ p4 (go_read _ (conditional_read n middle ys bits after rest c2 (omega (arith, small, levels)) (field_conditional rest ends)) (read_levels _ after rest (sym levels)))))))

pub complete_unnamed_bits : (before after : Context) (xs : List Terminal) (bits : Expr) (colon : Terminal)
    → IsMark (codes ":") colon
    → Spells (Conditional bits) before xs after
    → Completes (Conditional bits) before xs after
    → Completes (FieldDeclarator (field colon.place None 0 [] (Some bits))) before (colon ∷ xs) after
unfolding read_field
complete_unnamed_bits before after xs bits colon p1 d1 c1 n rest small ends =
    let levels = levels_unnamed_bits colon.place bits in
    go_true _ p1 (go_read _ (conditional_read n before xs bits after rest c1 (omega (arith, small, levels)) (field_conditional rest ends)) (read_levels _ after rest (sym levels)))

-- enumerators
pub complete_last_enumerator : (before after : Context) (xs : List Terminal) (value : Enumerator)
    → Spells (OneEnumerator value) before xs after
    → Completes (OneEnumerator value) before xs after
    → Completes (Enumerators (value ∷ [])) before xs after
complete_last_enumerator before after xs value d1 c1 n count rest enough small ends closes =
    list_of_one closes_braces (read_enumerator (level n)) count before (xs ++ rest) value (enumerator_levels value) after rest enough (c1 n rest (omega (arith, small)) ends) (not-true _ closes)
    ∙ read_levels (value ∷ []) after rest (sym (joined_one (enumerator_levels value)))

enumerator_begins : (value : Enumerator) (before after : Context) (xs : List Terminal) → Spells (OneEnumerator value) before xs after → Begins is_name xs
enumerator_begins value before after xs (PlainEnumerator name is) = is
enumerator_begins value before after xs (ValuedEnumerator name mark is equals given) = is

enumerators_begin : (values : List Enumerator) (before after : Context) (xs : List Terminal) → Spells (Enumerators values) before xs after → Begins is_name xs
enumerators_begin values before after xs (LastEnumerator {value} one) = enumerator_begins value before after xs one
enumerators_begin values before after xs (MoreEnumerators {middle} {xs = ws} {ys} {value} comma one mark more) = begins-append is_name ws (comma ∷ ys) (enumerator_begins value before middle ws one)

pub complete_more_enumerators : (before middle after : Context) (xs ys : List Terminal) (value : Enumerator) (others : List Enumerator) (comma : Terminal)
    → Spells (OneEnumerator value) before xs middle
    → IsMark (codes ",") comma
    → Spells (Enumerators others) middle ys after
    → Completes (OneEnumerator value) before xs middle
    → Completes (Enumerators others) middle ys after
    → Completes (Enumerators (value ∷ others)) before (xs ++ (comma ∷ ys)) after
unfolding postfix_start
complete_more_enumerators before middle after xs ys value others comma d1 p1 d2 c1 c2 n zero rest enough small ends closes = absurd (omega (arith, enough))
complete_more_enumerators before middle after xs ys value others comma d1 p1 d2 c1 c2 n (suc count) rest enough small ends closes =
    let less : length (ys ++ rest) < count = let far = shorter_behind xs comma (ys ++ rest) in let same = ap (λ (r : List Terminal). length r) (row_of_two xs (comma ∷ ys) rest) in omega (arith, enough, far, same) in
    ap (λ row. read_list closes_braces (read_enumerator (level n)) (suc count) before row) (row_of_two xs (comma ∷ ys) rest)
    ∙ list_of_more closes_braces (read_enumerator (level n)) count before (xs ++ (comma ∷ (ys ++ rest))) value (enumerator_levels value) middle comma (ys ++ rest) others (joined depth (map enumerator_levels others)) after rest
    (c1 n (comma ∷ (ys ++ rest)) (omega (arith, small)) (ends_known goes_on_enumerator (codes ",") comma (ys ++ rest) p1 refl)) p1
    (begins_apart is_name (is_mark (codes "}")) ys rest (name_is_no_mark (codes "}")) (enumerators_begin others middle after ys d2)) (c2 n count rest less (omega (arith, small)) ends closes)

pub complete_plain_enumerator : (before : Context) (name : Terminal)
    → IsName name
    → Completes (OneEnumerator (enumerator name None)) before (name ∷ []) (declaring before name.bytes false)
unfolding read_enumerator
complete_plain_enumerator before name p1 n rest small ends =
    go_true _ p1 (go_past (is_mark (codes "=")) rest _ _ (ends_first (is_mark (codes "=")) rest (ends_less goes_on_enumerator (is_mark (codes "=")) rest (λ t off. or-false-left (is_mark (codes "=") t) (goes_on_conditional t) off) ends))
    ∙ read_levels _ (declaring before name.bytes false) rest (sym (levels_enumerator name)))

pub complete_valued_enumerator : (before after : Context) (xs : List Terminal) (value : Expr) (name mark : Terminal)
    → IsName name
    → IsMark (codes "=") mark
    → Spells (Conditional value) before xs after
    → Completes (Conditional value) before xs after
    → Completes (OneEnumerator (enumerator name (Some value))) before (name ∷ (mark ∷ xs)) (declaring after name.bytes false)
unfolding read_enumerator
complete_valued_enumerator before after xs value name mark p1 p2 d1 c1 n rest small ends =
    let levels = levels_valued_enumerator name value in
    go_true _ p1 (go_true _ p2 (go_read _ (conditional_read n before xs value after rest c1 (omega (arith, small, levels)) (ends_less goes_on_enumerator goes_on_conditional rest (λ t off. or-false-right (is_mark (codes "=") t) (goes_on_conditional t) off) ends))
    (read_levels _ (declaring after name.bytes false) rest (sym levels))))

-- names of types
pub type_end : (stars : List Terminal) (sizes : List (Option Expr)) (before after : Context) (ys rest : List Terminal) (test : Terminal → Bool) → AreStars stars → Spells (ArraySizes sizes) before ys after
    → ((token : Terminal) → IsMark (codes "*") token → test token ≡ false) → ((token : Terminal) → IsMark (codes "[") token → test token ≡ false) → has_first test rest ≡ false → Ends test (stars ++ (ys ++ rest))
type_end stars sizes before after ys rest test are spelled star size off = not_is _ (stars_first test stars (ys ++ rest) star are (sizes_first test sizes before after ys rest spelled size off))

name_type : (rest : List Terminal) → Ends goes_on_type_name rest → Ends goes_on_type rest
name_type rest ends = ends_less goes_on_type_name goes_on_type rest (λ t off. or-false-left (goes_on_type t) (is_mark (codes "*") t || goes_on_sizes t) off) ends

name_star : (rest : List Terminal) → Ends goes_on_type_name rest → has_first (is_mark (codes "*")) rest ≡ false
name_star rest ends = ends_first (is_mark (codes "*")) rest (ends_less goes_on_type_name (is_mark (codes "*")) rest (λ t off. or-false-left (is_mark (codes "*") t) (goes_on_sizes t) (or-false-right (goes_on_type t) (is_mark (codes "*") t || goes_on_sizes t) off)) ends)

name_sizes : (rest : List Terminal) → Ends goes_on_type_name rest → Ends goes_on_sizes rest
name_sizes rest ends = ends_less goes_on_type_name goes_on_sizes rest (λ t off. or-false-right (is_mark (codes "*") t) (goes_on_sizes t) (or-false-right (goes_on_type t) (is_mark (codes "*") t || goes_on_sizes t) off)) ends

pub complete_one_type_name : (before middle after : Context) (xs ys : List Terminal) (type : TypeSpec) (sizes : List (Option Expr)) (stars : List Terminal)
    → Spells (TypeSpecifier type) before xs middle
    → AreStars stars
    → Spells (ArraySizes sizes) middle ys after
    → Completes (TypeSpecifier type) before xs middle
    → Completes (ArraySizes sizes) middle ys after
    → Completes (NameOfType (type_name type (length stars) sizes)) before (xs ++ (stars ++ ys)) after
unfolding read_type_name
complete_one_type_name before middle after xs ys type sizes stars d1 p1 d2 c1 c2 n rest small ends =
    let levels = levels_type_name type (length stars) sizes in
    let no_star = sizes_first (is_mark (codes "*")) sizes middle after ys rest d2 (λ t is. by_mark (is_mark (codes "*")) (codes "[") t is refl) (name_star rest ends) in
    ap (λ row. read_type_name (level n) before row) (row_of_three xs stars ys rest)
    ∙ go_read _ (c1 n (stars ++ (ys ++ rest)) (omega (arith, small, levels)) (type_end stars sizes middle after ys rest goes_on_type p1 d2 (λ t is. by_mark goes_on_type (codes "*") t is refl) (λ t is. by_mark goes_on_type (codes "[") t is refl) (ends_first goes_on_type rest (name_type rest ends))))
    (rw (stars_front stars (ys ++ rest) p1 no_star) (rw (drop_front stars (ys ++ rest))
    (go_read _ (c2 n (length (ys ++ rest) + 1) rest (omega arith) (omega (arith, small, levels)) (name_sizes rest ends)) (read_levels _ after rest (sym levels)))))

-- sizes
pub complete_no_more_sizes : (before : Context)
    → Completes (ArraySizes []) before [] before
unfolding read_sizes
complete_no_more_sizes before n zero rest enough small ends = absurd (omega (arith, enough))
complete_no_more_sizes before n (suc count) rest enough small ends = go_false _ (ends_first goes_on_sizes rest ends) refl

pub complete_size_left_out : (before after : Context) (xs : List Terminal) (sizes : List (Option Expr)) (opening closing : Terminal)
    → IsMark (codes "[") opening
    → IsMark (codes "]") closing
    → Spells (ArraySizes sizes) before xs after
    → Completes (ArraySizes sizes) before xs after
    → Completes (ArraySizes (None ∷ sizes)) before (opening ∷ (closing ∷ xs)) after
unfolding read_sizes
complete_size_left_out before after xs sizes opening closing p1 p2 d1 c1 n zero rest enough small ends = absurd (omega (arith, enough))
complete_size_left_out before after xs sizes opening closing p1 p2 d1 c1 n (suc count) rest enough small ends =
    go_true _ p1 (go_true _ p2 (go_prepended _ _ (c1 n count rest (omega (arith, enough)) (omega (arith, small)) ends) refl))

pub complete_size_given : (before middle after : Context) (xs ys : List Terminal) (size : Expr) (sizes : List (Option Expr)) (opening closing : Terminal)
    → IsMark (codes "[") opening
    → Spells (Conditional size) before xs middle
    → IsMark (codes "]") closing
    → Spells (ArraySizes sizes) middle ys after
    → Completes (Conditional size) before xs middle
    → Completes (ArraySizes sizes) middle ys after
    → Completes (ArraySizes (Some size ∷ sizes)) before (opening ∷ (xs ++ (closing ∷ ys))) after
unfolding read_sizes postfix_start
complete_size_given before middle after xs ys size sizes opening closing p1 d1 p2 d2 c1 c2 n zero rest enough small ends = absurd (omega (arith, enough))
complete_size_given before middle after xs ys size sizes opening closing p1 d1 p2 d2 c1 c2 n (suc count) rest enough small ends =
    let less : length (ys ++ rest) < count = let far = shorter_behind xs closing (ys ++ rest) in let same = ap (λ (r : List Terminal). length r) (row_of_two xs (closing ∷ ys) rest) in omega (arith, enough, far, same) in
    ap (λ row. read_sizes (level n) (suc count) before (opening ∷ row)) (row_of_two xs (closing ∷ ys) rest)
    ∙ go_true _ p1 (go_false _ (operand_row_no_mark (codes "]") xs (closing ∷ (ys ++ rest)) refl (starts d1))
    (go_read _ (conditional_read n before xs size middle (closing ∷ (ys ++ rest)) c1 (omega (arith, small)) (ends_known goes_on_conditional (codes "]") closing (ys ++ rest) p2 refl))
    (go_true _ p2 (go_prepended _ _ (c2 n count rest less (omega (arith, small)) ends) refl))))
