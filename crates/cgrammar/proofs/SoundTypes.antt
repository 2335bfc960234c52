-- Types are read as the grammar spells them.
use Rattle.std.proofs.Common.{◌≡◌, ℕ, zero, suc, ◌+◌, ◌≤◌, Bool, true, false, List, [], ◌∷◌, ◌++◌, length, take, drop, refl, ap, sym, ◌∙◌, subst, arith, codes, Option, None, Some, max, map, IsTrue}
use Rattle.std.specs.Prelude.{if◌then◌else◌, is_some}
use Rattle.std.specs.List.{list_all, prefix_len}
use Rattle.cbase.specs.declared.tree.expr.Expr.{Expr}
use Rattle.cbase.specs.declared.tree.identifier.Identifier.{Identifier}
use Rattle.cbase.specs.declared.tree.spec.BasicType.{BasicType}
use Rattle.cbase.specs.declared.tree.spec.FieldDecl.{FieldDecl}
use Rattle.cbase.specs.declared.tree.spec.TypeSpec.{TypeSpec}
use Rattle.cbase.specs.declared.tree.spec.TypeSpec.TheVariants.{Struct, Enum}
use Rattle.ctrees.specs.Levels.{enumerator_levels, field_decl_levels, field_name_levels, maybe_levels, spec_levels, type_name_levels}
use Rattle.cgrammar.proofs.BasicRows.{basic_exact}
use Rattle.cgrammar.proofs.SoundLists.{levels_of_all, sound_list, sound_until_brace, stars_of, tag_of_row, comma_of_row, no_type, no_typedef}
use Rattle.cgrammar.proofs.SoundSays.{spelled_as, SoundLevel}
use Rattle.cgrammar.proofs.SoundSteps.{Splits, split_none, split_last, split_first, split_more, split_taken, Sound, Reads, sound_nothing, made, sound_then, sound_if, sound_first, sound_prepended, first_of, one_more, larger, larger_fits, one_more_fits}
use Rattle.cgrammar.proofs.TreeLevels.{levels_type_name, levels_field, levels_bits, levels_unnamed_bits, levels_fields, levels_enumerator, levels_valued_enumerator, levels_struct, levels_struct_by_tag, levels_enum, levels_enum_by_tag, levels_of_expr, levels_of_type, levels_basic, levels_named}
use Rattle.cgrammar.specs.Firsts.{begins_type}
use Rattle.cgrammar.specs.FrontReadings.{is_basic_word}
use Rattle.cgrammar.specs.Grammar.{Spells, IsTag, BasicWords, TypedefName, TypeOfExpression, TypeOfType, StructWithFields, StructByTag, NoMoreFields, MoreFields, OneFieldDeclaration, OneField, MoreFieldNames, NamedField, NamedBits, UnnamedBits, EnumWithValues, EnumByTag, LastEnumerator, MoreEnumerators, PlainEnumerator, ValuedEnumerator, OneTypeName, NoMoreSizes, SizeLeftOut, SizeGiven}
use Rattle.cgrammar.specs.Outcomes.{Read, has_first, has_mark, behind_first}
use Rattle.cgrammar.specs.Phrases.{Context}
use Rattle.cgrammar.specs.Phrases.{TypeSpecifier, NameOfType, ArraySizes, Fields, FieldDeclaration, FieldDeclarators, FieldDeclarator, Enumerators, OneEnumerator}
use Rattle.cgrammar.specs.ReadLevels.{Level, read_list, read_until_brace}
use Rattle.cgrammar.specs.ReadStarts.{type_start}
use Rattle.cgrammar.specs.ReadTypes.{behind_stars, read_sizes, read_type_name, bits_behind, named_field, never, read_field, read_fields, read_enumerator, closes_braces, behind_comma, tag_at, behind_tag, by_tag, read_struct, read_enum, type_of, of_basic, specifier_with, read_specifier}
use Rattle.cgrammar.specs.Scope.{Names}
use Rattle.cgrammar.specs.Terminals.{Terminal, is_mark, is_word, IsWord, IsName, is_typedef, IsTypedef, bytes_of, AreStars}
use Rattle.cgrammar.specs.Trees.{identifier, type_name}
use Rattle.cgrammar.specs.TypeWords.{basic_rows, basic_of}
use Rattle.cgrammar.specs.declared.reading.starts.TypeStart.{TypeStart}
use Rattle.cgrammar.specs.declared.reading.starts.TypeStart.TheVariants as start

pub sound_sizes : (inner : Level) (count : ℕ) → SoundLevel inner → Reads (spelled_as ArraySizes) (levels_of_all maybe_levels) inner.most (read_sizes inner count)
unfolding read_sizes
sound_sizes inner zero is context row = sound_nothing
sound_sizes inner (suc count) is context row =
    sound_if (has_mark (codes "[") row) _ _
    (λ opens.
    let opening = first_of (is_mark (codes "[")) row opens in
    sound_if (has_mark (codes "]") (behind_first row)) _ _
    (λ closes.
    let closing = first_of (is_mark (codes "]")) (behind_first row) closes in
    sound_prepended None 0 (read_sizes inner count context (behind_first (behind_first row))) (sound_sizes inner count is context (behind_first (behind_first row))) (λ sizes others behind rest read.
    made (split_first opening.1 (split_first closing.1 read.whole)) (SizeLeftOut opening.0 closing.0 opening.2 closing.2 read.spelled) (larger refl read.same) (larger_fits (omega arith) read.fits)))
    (λ stays. sound_then (inner.conditional context (behind_first row)) _ (is.conditional context (behind_first row)) (λ size levels behind rest read.
    sound_first _ rest _ _ (λ none. sound_nothing) (λ closing more from marked.
    sound_prepended (Some size) levels (read_sizes inner count behind more) (sound_sizes inner count is behind more) (λ sizes others last end read_others.
    made (split_first opening.1 (split_more read.whole (split_first from read_others.whole))) (SizeGiven opening.0 closing opening.2 read.spelled marked read_others.spelled) (larger read.same read_others.same) (larger_fits read.fits read_others.fits))))))
    (λ none. made (split_none row) NoMoreSizes refl (omega arith))

pub sound_type_name : (inner : Level) → SoundLevel inner → Reads (spelled_as NameOfType) type_name_levels inner.most (read_type_name inner)
unfolding read_type_name
sound_type_name inner is context row =
    sound_then (inner.specifier context row) _ (is.specifier context row) (λ type levels behind rest read.
    let stars = stars_of rest in
    sound_then (read_sizes inner (length (behind_stars rest) + 1) behind (behind_stars rest)) _ (sound_sizes inner (length (behind_stars rest) + 1) is behind (behind_stars rest)) (λ sizes others last more read_sizes.
    subst (λ (n : ℕ). Sound (spelled_as NameOfType) type_name_levels inner.most context row (Read (type_name type n sizes) (max levels others) last more)) stars.counted
    (made (split_more read.whole (split_more stars.split read_sizes.whole))
    (OneTypeName stars.stars read.spelled stars.are read_sizes.spelled)
    (larger read.same read_sizes.same ∙ sym (levels_type_name type (length stars.stars) sizes))
    (larger_fits read.fits read_sizes.fits))))

sound_bits_behind : (inner : Level) (name : Terminal) (stars front : List Terminal) (sizes : List (Option Expr)) (levels : ℕ) (before context : Context) (row whole : List Terminal)
    → SoundLevel inner → Splits whole (stars ++ (name ∷ front)) row → AreStars stars → IsName name → Spells (ArraySizes sizes) before front context → IsTrue (list_all is_some sizes)
    → levels ≡ levels_of_all maybe_levels sizes → levels ≤ inner.most
    → Sound (spelled_as FieldDeclarator) field_name_levels inner.most before whole (bits_behind inner name (length stars) sizes levels context row)
sound_bits_behind inner name stars front sizes levels before context row whole is split are named spelled given same fits =
    sound_if (has_mark (codes ":") row) _ _
    (λ marked.
    let colon = first_of (is_mark (codes ":")) row marked in
    sound_then (inner.conditional context (behind_first row)) _ (is.conditional context (behind_first row)) (λ bits others last more read.
    made (bits_split colon.1 read.whole) (NamedBits stars name colon.0 are named spelled given colon.2 read.spelled)
    (larger same read.same ∙ sym (levels_bits name.place (Some name.bytes) (length stars) sizes bits))
    (larger_fits fits read.fits)))
    (λ none. made split (NamedField stars name are named spelled given) (same ∙ sym (levels_field name.place (Some name.bytes) (length stars) sizes)) fits)
  where
    append : (xs ys zs : List Terminal) → (xs ++ ys) ++ zs ≡ xs ++ (ys ++ zs)
    append [] ys zs = refl
    append (x ∷ xs) ys zs = ap (λ (all : List Terminal). x ∷ all) (append xs ys zs)

    bits_split : {colon : Terminal} {others bits rest : List Terminal} → row ≡ colon ∷ others → Splits others bits rest → Splits whole (stars ++ (name ∷ (front ++ (colon ∷ bits)))) rest
    bits_split {colon} {others} {bits} {rest} from read =
        let all : Splits whole ((stars ++ (name ∷ front)) ++ (colon ∷ bits)) rest = split_more split (split_first from read) in
        subst (λ (row : List Terminal). Splits whole row rest) (append stars (name ∷ front) (colon ∷ bits)) all

sound_named_field : (inner : Level) (stars : List Terminal) (before : Context) (row whole : List Terminal)
    → SoundLevel inner → Splits whole stars row → AreStars stars
    → Sound (spelled_as FieldDeclarator) field_name_levels inner.most before whole (named_field inner (length stars) before row)
sound_named_field inner stars before row whole is split are =
    sound_first _ row _ _ (λ none. sound_nothing) (λ name rest from named.
    sound_then (read_sizes inner (length rest + 1) before rest) _ (sound_sizes inner (length rest + 1) is before rest) (λ sizes levels behind others read.
    sound_if (list_all is_some sizes) _ _
    (λ given. sound_bits_behind inner name stars read.front sizes levels before behind others whole is (split_more split (split_first from read.whole)) are named read.spelled given read.same read.fits)
    (λ left_out. sound_nothing)))

pub sound_field : (inner : Level) → SoundLevel inner → Reads (spelled_as FieldDeclarator) field_name_levels inner.most (read_field inner)
unfolding read_field
sound_field inner is context row =
    let stars = stars_of row in
    sound_first _ row _ _
    (λ none. subst (λ (n : ℕ). Sound (spelled_as FieldDeclarator) field_name_levels inner.most context row (named_field inner n context (behind_stars row))) stars.counted
    (sound_named_field inner stars.stars context (behind_stars row) row is stars.split stars.are))
    (λ colon rest from marked. sound_then (inner.conditional context rest) _ (is.conditional context rest) (λ bits levels behind others read.
    made (split_first from read.whole) (UnnamedBits colon marked read.spelled) (read.same ∙ sym (levels_unnamed_bits colon.place bits)) read.fits))

pub sound_field_names : (inner : Level) (count : ℕ) → SoundLevel inner → Reads (spelled_as FieldDeclarators) (levels_of_all field_name_levels) inner.most (read_list never (read_field inner) count)
sound_field_names inner count is =
    sound_list (spelled_as FieldDeclarator) (spelled_as FieldDeclarators) field_name_levels inner.most never (read_field inner) count (sound_field inner is)
    (λ name before behind front rest spelled. OneField spelled)
    (λ name names comma before middle behind front others between rest spelled marked more. MoreFieldNames comma spelled marked more)

pub sound_fields : (inner : Level) → SoundLevel inner → Reads (spelled_as FieldDeclaration) field_decl_levels inner.most (read_fields inner)
unfolding read_fields
sound_fields inner is context row =
    sound_then (inner.specifier context row) _ (is.specifier context row) (λ type levels behind rest read.
    sound_then (read_list never (read_field inner) (length rest + 1) behind rest) _ (sound_field_names inner (length rest + 1) is behind rest) (λ names others last more read_names.
    sound_first _ more _ _ (λ none. sound_nothing) (λ semicolon end from marked.
    made (split_more read.whole (split_more read_names.whole (split_last from)))
    (OneFieldDeclaration semicolon read.spelled read_names.spelled marked)
    (larger read.same read_names.same ∙ sym (levels_fields type names))
    (larger_fits read.fits read_names.fits))))

pub sound_enumerator : (inner : Level) → SoundLevel inner → Reads (spelled_as OneEnumerator) enumerator_levels inner.most (read_enumerator inner)
unfolding read_enumerator
sound_enumerator inner is context row =
    sound_first _ row _ _ (λ none. sound_nothing) (λ name rest from named.
    sound_first _ rest _ _
    (λ plain. made (split_last from) (PlainEnumerator name named) (sym (levels_enumerator name)) (omega arith))
    (λ mark others behind_name marked.
    sound_then (inner.conditional context others) _ (is.conditional context others) (λ value levels behind more read.
    made (split_first from (split_first behind_name read.whole)) (ValuedEnumerator name mark named marked read.spelled) (read.same ∙ sym (levels_valued_enumerator name value)) read.fits)))

-- what is known of the declarations of fields: a `}` stands behind them
abbrev says_fields : List FieldDecl → Context → List Terminal → Context → List Terminal → Type 0
says_fields declarations before front behind rest = Spells (Fields declarations) before front behind × (has_mark (codes "}") rest ≡ true)

sound_all_fields : (inner : Level) (count : ℕ) → SoundLevel inner → Reads says_fields (levels_of_all field_decl_levels) inner.most (read_until_brace (read_fields inner) count)
sound_all_fields inner count is =
    sound_until_brace (spelled_as FieldDeclaration) says_fields field_decl_levels inner.most (read_fields inner) count (sound_fields inner is)
    (λ before row ends. (NoMoreFields, ends))
    (λ decl others before middle behind front fronts between rest spelled more. (MoreFields spelled more.0, more.1))

sound_by_tag : (type : Option Identifier → TypeSpec) (most : ℕ) (before : Context) (word : Terminal) (row whole tag : List Terminal) (name : Option Identifier)
    → ((token : Terminal) → IsName token → Spells (TypeSpecifier (type (Some (identifier token)))) before (word ∷ (token ∷ [])) before)
    → ((name : Identifier) → spec_levels (type (Some name)) ≡ 1)
    → Splits whole (word ∷ tag) row → IsTag tag name
    → Sound (spelled_as TypeSpecifier) spec_levels (most + 1) before whole (by_tag type name before row)
sound_by_tag type most before word row whole tag None one deep split is = sound_nothing
sound_by_tag type most before word row whole tag (Some name) one deep split (token, alone, named, same) =
    let spelled : Spells (TypeSpecifier (type (Some name))) before (word ∷ tag) before =
    subst (λ (row : List Terminal). Spells (TypeSpecifier (type (Some name))) before (word ∷ row) before) (sym alone)
    (subst (λ (n : Identifier). Spells (TypeSpecifier (type (Some n))) before (word ∷ (token ∷ [])) before) same (one token named)) in
    made split spelled (sym (deep name)) (omega arith)

sound_struct : (inner : Level) (context : Context) (word : Terminal) (row : List Terminal) → SoundLevel inner → IsWord (codes "struct") word
    → Sound (spelled_as TypeSpecifier) spec_levels (inner.most + 1) context (word ∷ row) (read_struct inner context row)
unfolding read_struct
sound_struct inner context word row is worded =
    let tag = tag_of_row row in
    sound_if (has_mark (codes "{") (behind_tag row)) _ _
    (λ opens.
    let opening = first_of (is_mark (codes "{")) (behind_tag row) opens in
    sound_then (read_until_brace (read_fields inner) (length (behind_tag row)) context (behind_first (behind_tag row))) _ (sound_all_fields inner (length (behind_tag row)) is context (behind_first (behind_tag row))) (λ declarations levels behind rest read.
    let closing = first_of (is_mark (codes "}")) rest read.spelled.1 in
    made (split_first refl (split_more tag.split (split_first opening.1 (split_more read.whole (split_last closing.1)))))
    (StructWithFields tag.tag word opening.0 closing.0 worded tag.is opening.2 read.spelled.0 closing.2)
    (one_more read.same ∙ sym (levels_struct (tag_at row) declarations))
    (one_more_fits read.fits)))
    (λ none. sound_by_tag (λ name. Struct name None) inner.most context word (behind_tag row) (word ∷ row) tag.tag (tag_at row)
    (λ token named. StructByTag word token worded named) (λ name. levels_struct_by_tag (Some name)) (split_first refl tag.split) tag.is)

sound_enumerators : (inner : Level) (count : ℕ) → SoundLevel inner → Reads (spelled_as Enumerators) (levels_of_all enumerator_levels) inner.most (read_list closes_braces (read_enumerator inner) count)
sound_enumerators inner count is =
    sound_list (spelled_as OneEnumerator) (spelled_as Enumerators) enumerator_levels inner.most closes_braces (read_enumerator inner) count (sound_enumerator inner is)
    (λ value before behind front rest spelled. LastEnumerator spelled)
    (λ value values comma before middle behind front others between rest spelled marked more. MoreEnumerators comma spelled marked more)

sound_enum : (inner : Level) (context : Context) (word : Terminal) (row : List Terminal) → SoundLevel inner → IsWord (codes "enum") word
    → Sound (spelled_as TypeSpecifier) spec_levels (inner.most + 1) context (word ∷ row) (read_enum inner context row)
unfolding read_enum
sound_enum inner context word row is worded =
    let tag = tag_of_row row in
    sound_if (has_mark (codes "{") (behind_tag row)) _ _
    (λ opens.
    let opening = first_of (is_mark (codes "{")) (behind_tag row) opens in
    sound_then (read_list closes_braces (read_enumerator inner) (length (behind_tag row)) context (behind_first (behind_tag row))) _ (sound_enumerators inner (length (behind_tag row)) is context (behind_first (behind_tag row))) (λ values levels behind rest read.
    let comma = comma_of_row rest in
    sound_first _ (behind_comma rest) _ _ (λ none. sound_nothing) (λ closing others from marked.
    made (split_first refl (split_more tag.split (split_first opening.1 (split_more read.whole (split_more comma.split (split_last from))))))
    (EnumWithValues tag.tag comma.last word opening.0 closing worded tag.is opening.2 read.spelled comma.is marked)
    (one_more read.same ∙ sym (levels_enum (tag_at row) values))
    (one_more_fits read.fits))))
    (λ none. sound_by_tag (λ name. Enum name None) inner.most context word (behind_tag row) (word ∷ row) tag.tag (tag_at row)
    (λ token named. EnumByTag word token worded named) (λ name. levels_enum_by_tag (Some name)) (split_first refl tag.split) tag.is)

sound_type_of : (inner : Level) (context : Context) (word opening : Terminal) (row others : List Terminal) → SoundLevel inner → IsWord (codes "typeof") word → row ≡ opening ∷ others → is_mark (codes "(") opening ≡ true
    → Sound (spelled_as TypeSpecifier) spec_levels (inner.most + 1) context (word ∷ row) (type_of inner context others)
sound_type_of inner context word opening row others is worded opens marked =
    sound_if (has_first (begins_type context.scope) others) _ _
    (λ typed. sound_then (read_type_name inner context others) _ (sound_type_name inner is context others) (λ to levels behind rest read.
    sound_first _ rest _ _ (λ none. sound_nothing) (λ closing more from closes.
    made (split_first refl (split_first opens (split_more read.whole (split_last from)))) (TypeOfType word opening closing worded marked read.spelled closes) (one_more read.same ∙ sym (levels_of_type to)) (one_more_fits read.fits))))
    (λ untyped. sound_then (inner.expression context others) _ (is.expression context others) (λ expr levels behind rest read.
    sound_first _ rest _ _ (λ none. sound_nothing) (λ closing more from closes.
    made (split_first refl (split_first opens (split_more read.whole (split_last from))))
    (TypeOfExpression word opening closing worded marked (no_type context.scope others read.front rest read.whole (no_typedef context.scope others untyped)) read.spelled closes)
    (one_more read.same ∙ sym (levels_of_expr expr)) (one_more_fits read.fits))))

sound_of_basic : (most count : ℕ) (context : Context) (row : List Terminal) (basic : Option BasicType) → count ≡ prefix_len is_basic_word row → basic_of basic_rows (map bytes_of (take count row)) ≡ basic
    → Sound (spelled_as TypeSpecifier) spec_levels (most + 1) context row (of_basic basic context (drop count row))
sound_of_basic most count context row None counted found = sound_nothing
sound_of_basic most count context row (Some basic) counted found =
    made (split_taken count row) (BasicWords (take count row) ((basic_exact row count (Some basic) basic counted (sym found)).0 refl)) (sym (levels_basic basic)) (omega arith)

-- with what a type begins
abbrev TypeBegins : List Names → Terminal → TypeStart → Type 0
TypeBegins scopes token start.Named = IsTypedef scopes token
TypeBegins scopes token start.Basic = Unit {0}
TypeBegins scopes token start.Struct = IsWord (codes "struct") token
TypeBegins scopes token start.Enum = IsWord (codes "enum") token
TypeBegins scopes token start.TypeOf = IsWord (codes "typeof") token
TypeBegins scopes token start.Other = Unit {0}

choose_type : (P : TypeStart → Type 0) (test : Bool) (first second : TypeStart) → (test ≡ true → P first) → P second → P (if test then first else second)
choose_type P true first second holds fails = holds refl
choose_type P false first second holds fails = fails

type_begins : (scopes : List Names) (token : Terminal) → TypeBegins scopes token (type_start scopes token)
unfolding type_start
type_begins scopes token =
    choose_type (TypeBegins scopes token) (is_typedef scopes token) _ _ (λ is. is)
    (choose_type (TypeBegins scopes token) (is_basic_word token) _ _ (λ is. tt)
    (choose_type (TypeBegins scopes token) (is_word (codes "struct") token) _ _ (λ is. is)
    (choose_type (TypeBegins scopes token) (is_word (codes "enum") token) _ _ (λ is. is)
    (choose_type (TypeBegins scopes token) (is_word (codes "typeof") token) _ _ (λ is. is) tt))))

sound_specifier_with : (inner : Level) (context : Context) (first : Terminal) (row : List Terminal) (begins : TypeStart) → SoundLevel inner → TypeBegins context.scope first begins
    → Sound (spelled_as TypeSpecifier) spec_levels (inner.most + 1) context (first ∷ row) (specifier_with inner context first row begins)
sound_specifier_with inner context first row start.Named is begins = made (split_last refl) (TypedefName first begins) (sym (levels_named first.bytes)) (omega arith)
sound_specifier_with inner context first row start.Basic is begins =
    sound_of_basic inner.most (prefix_len is_basic_word (first ∷ row)) context (first ∷ row) (basic_of basic_rows (map bytes_of (take (prefix_len is_basic_word (first ∷ row)) (first ∷ row)))) refl refl
sound_specifier_with inner context first row start.Struct is begins = sound_struct inner context first row is begins
sound_specifier_with inner context first row start.Enum is begins = sound_enum inner context first row is begins
sound_specifier_with inner context first row start.TypeOf is begins =
    sound_first _ row _ _ (λ none. sound_nothing) (λ opening others from marked. sound_type_of inner context first opening row others is begins from marked)
sound_specifier_with inner context first row start.Other is begins = sound_nothing

pub sound_specifier : (inner : Level) → SoundLevel inner → Reads (spelled_as TypeSpecifier) spec_levels (inner.most + 1) (read_specifier inner)
unfolding read_specifier
sound_specifier inner is context [] = sound_nothing
sound_specifier inner is context (first ∷ row) = sound_specifier_with inner context first row (type_start context.scope first) is (type_begins context.scope first)
