-- Declarations and initialisers are read as the grammar spells them.
use Rattle.std.proofs.Common.{◌≡◌, ℕ, ◌+◌, ◌≤◌, Bool, true, false, ◌&&◌, not, List, [], ◌∷◌, ◌++◌, length, refl, ap, sym, ◌∙◌, subst, arith, codes, Option, None, Some, IsTrue}
use Rattle.cbase.specs.declared.place.Place.{Place}
use Rattle.cbase.specs.declared.tree.decl.Param.{Param}
use Rattle.cbase.specs.declared.tree.decl.Storage.{Storage}
use Rattle.cbase.specs.declared.tree.spec.TypeSpec.{TypeSpec}
use Rattle.ctrees.specs.Levels.{decl_levels, declared_levels, init_levels, init_part_levels, param_levels, spec_levels}
use Rattle.cgrammar.proofs.Contexts.{scopes_kept}
use Rattle.cgrammar.proofs.SoundLists.{levels_of_all, sound_list, stars_of, comma_of_row}
use Rattle.cgrammar.proofs.SoundSays.{spelled_as, spelled_before, SoundLevel}
use Rattle.cgrammar.proofs.SoundSteps.{Splits, split_last, split_first, split_more, Got, Sound, Reads, sound_nothing, made, sound_then, sound_if, sound_first, first_of, one_more, larger, larger_fits, one_more_fits}
use Rattle.cgrammar.proofs.SoundTypes.{sound_sizes}
use Rattle.cgrammar.proofs.TokenReadings.{storage_exact}
use Rattle.cgrammar.proofs.TreeLevels.{levels_value, levels_braces, levels_empty_braces, levels_initializer, levels_parameter, levels_declaration, levels_type_declaration, levels_object, levels_initialized, levels_function}
use Rattle.cgrammar.proofs.Truth.{and-left, and-right}
use Rattle.cgrammar.specs.Grammar.{Spells, is_void, declaring, inside, TypeAlone, StorageBefore, StorageBehind, NoDeclarator, WithDeclarators, OneDeclarator, MoreDeclarators, ObjectDeclarator, InitializedDeclarator, DeclaratorOfFunction, NoParameters, VoidParameters, WithParameters, OneParameter, MoreParameters, NamedParameter, UnnamedParameter, InitializedTo, EmptyBraces, InBraces, OneInitializer, MoreInitializers, NextPart, MemberPart}
use Rattle.cgrammar.specs.Outcomes.{Read, has_mark, behind_first}
use Rattle.cgrammar.specs.Phrases.{Context, scoped}
use Rattle.cgrammar.specs.Phrases.{TypeSpecifier, Specifiers, Declaration, Declarators, Declarator, FunctionDeclarator, Parameters, Parameter, Initializer, Initializers, DesignatedInitializer}
use Rattle.cgrammar.specs.ReadDeclarations.{leaving, storage_at, storage_behind, specifiers_with, read_specifiers, parameter_behind, read_parameter, is_void_alone, read_parameters, object_behind, read_declarator, read_declaration, read_part, in_braces, read_initializer}
use Rattle.cgrammar.specs.ReadLevels.{Level, read_list}
use Rattle.cgrammar.specs.ReadTypes.{behind_stars, read_sizes, never, closes_braces, behind_comma}
use Rattle.cgrammar.specs.Scope.{Names, left}
use Rattle.cgrammar.specs.Terminals.{Terminal, is_mark, IsMark, is_word, IsName, AreStars, first_place}
use Rattle.cgrammar.specs.Trees.{identifier, function}
use Rattle.cgrammar.specs.TypeWords.{IsStorage, declares_typedef}
use Rattle.cgrammar.specs.declared.reading.specifiers.Specifiers.{Specifiers as ReadSpecifiers}

abbrev pub says_specifiers : ReadSpecifiers → Context → List Terminal → Context → List Terminal → Type 0
says_specifiers read before front behind rest = Spells (Specifiers read.storage read.spec) before front behind

abbrev pub specifiers_levels : ReadSpecifiers → ℕ
specifiers_levels read = spec_levels read.spec

storage_word : (row : List Terminal) (storage : Storage) → storage_at row ≡ Some storage → (word : Terminal) × (row ≡ word ∷ behind_first row) × IsStorage storage word
storage_word [] storage is = cc is
storage_word (first ∷ others) storage is = (first, refl, (storage_exact first storage).0 is)

sound_storage_behind : (most : ℕ) (type : TypeSpec) (levels : ℕ) (before behind : Context) (row rest : List Terminal) (storage : Option Storage)
    → storage_at rest ≡ storage → Got (λ type before front behind rest. Spells (TypeSpecifier type) before front behind) spec_levels most before row type levels behind rest
    → Sound says_specifiers specifiers_levels most before row (storage_behind type levels behind rest storage)
sound_storage_behind most type levels before behind row rest None found read = made read.whole (TypeAlone read.spelled) read.same read.fits
sound_storage_behind most type levels before behind row rest (Some storage) found read =
    let word = storage_word rest storage found in
    made (split_more read.whole (split_last word.1)) (StorageBehind word.0 read.spelled word.2) read.same read.fits

sound_specifiers_with : (inner : Level) (context : Context) (row : List Terminal) (storage : Option Storage) → SoundLevel inner → storage_at row ≡ storage
    → Sound says_specifiers specifiers_levels inner.most context row (specifiers_with inner context row storage)
sound_specifiers_with inner context row None is found =
    sound_then (inner.specifier context row) _ (is.specifier context row) (λ type levels behind rest read. sound_storage_behind inner.most type levels context behind row rest (storage_at rest) refl read)
sound_specifiers_with inner context row (Some storage) is found =
    let word = storage_word row storage found in
    sound_then (inner.specifier context (behind_first row)) _ (is.specifier context (behind_first row)) (λ type levels behind rest read.
    made (split_first word.1 read.whole) (StorageBefore word.0 word.2 read.spelled) read.same read.fits)

pub sound_specifiers : (inner : Level) → SoundLevel inner → Reads says_specifiers specifiers_levels inner.most (read_specifiers inner)
unfolding read_specifiers
sound_specifiers inner is context row = sound_specifiers_with inner context row (storage_at row) is refl

sound_parameter_behind : (inner : Level) (type : TypeSpec) (storage : Storage) (levels : ℕ) (stars front : List Terminal) (before context : Context) (row whole middle : List Terminal)
    → SoundLevel inner → Splits whole front middle → Splits middle stars row → AreStars stars → Spells (Specifiers storage type) before front context → levels ≡ spec_levels type → levels ≤ inner.most
    → Sound (spelled_as Parameter) param_levels inner.most before whole (parameter_behind inner type levels (length stars) context row)
sound_parameter_behind inner type storage levels stars front before context row whole middle is split stars_split are spelled same fits =
    sound_first _ row _ _
    (λ none. sound_then (read_sizes inner (length row + 1) context row) _ (sound_sizes inner (length row + 1) is context row) (λ sizes others behind rest read.
    made (split_more split (split_more stars_split read.whole)) (UnnamedParameter stars spelled are read.spelled)
    (larger same read.same ∙ sym (levels_parameter type (length stars) None sizes)) (larger_fits fits read.fits)))
    (λ name more from named. sound_then (read_sizes inner (length more + 1) context more) _ (sound_sizes inner (length more + 1) is context more) (λ sizes others behind rest read.
    made (split_more split (split_more stars_split (split_first from read.whole))) (NamedParameter stars name spelled are named read.spelled)
    (larger same read.same ∙ sym (levels_parameter type (length stars) (Some (identifier name)) sizes)) (larger_fits fits read.fits)))

pub sound_parameter : (inner : Level) → SoundLevel inner → Reads (spelled_as Parameter) param_levels inner.most (read_parameter inner)
unfolding read_parameter
sound_parameter inner is context row =
    sound_then (read_specifiers inner context row) _ (sound_specifiers inner is context row) (λ specifiers levels behind rest read.
    let stars = stars_of rest in
    subst (λ (n : ℕ). Sound (spelled_as Parameter) param_levels inner.most context row (parameter_behind inner specifiers.spec levels n behind (behind_stars rest))) stars.counted
    (sound_parameter_behind inner specifiers.spec specifiers.storage levels stars.stars read.front context behind (behind_stars rest) row rest is read.whole stars.split stars.are read.spelled read.same read.fits))

sound_parameter_list : (inner : Level) (count : ℕ) → SoundLevel inner → Reads (spelled_as Parameters) (levels_of_all param_levels) inner.most (read_list never (read_parameter inner) count)
sound_parameter_list inner count is =
    sound_list (spelled_as Parameter) (spelled_as Parameters) param_levels inner.most never (read_parameter inner) count (sound_parameter inner is)
    (λ param before behind front rest spelled. OneParameter spelled)
    (λ param params comma before middle behind front others between rest spelled marked more. MoreParameters comma spelled marked more)

-- the parameters behind any name of a function
abbrev pub says_parameters : List Param → Context → List Terminal → Context → List Terminal → Type 0
says_parameters params before front behind rest =
    (stars : List Terminal) (name opening : Terminal) → AreStars stars → IsName name → IsMark (codes "(") opening
    → Spells (FunctionDeclarator name.bytes (function name (length stars) params)) before (stars ++ (name ∷ (opening ∷ front))) behind

void_alone : (row : List Terminal) → is_void_alone row ≡ true → (word : Terminal) × (row ≡ word ∷ behind_first row) × (is_word (codes "void") word ≡ true) × (has_mark (codes ")") (behind_first row) ≡ true)
void_alone [] is = cc is
void_alone (first ∷ others) is = (first, refl, and-left (is_word (codes "void") first) (has_mark (codes ")") others) is, and-right (is_word (codes "void") first) (has_mark (codes ")") others) is)

no_void : (row front rest others : List Terminal) (closing : Terminal) → Splits row front rest → rest ≡ closing ∷ others → is_mark (codes ")") closing ≡ true → is_void_alone row ≡ false → IsTrue (not (is_void front))
no_void row [] rest others closing split from marked alone = refl
no_void row (first ∷ (second ∷ more)) rest others closing split from marked alone = refl
no_void row (first ∷ []) rest others closing split from marked alone =
    let whole : row ≡ first ∷ (closing ∷ others) = split.is ∙ ap (λ (all : List Terminal). first ∷ all) from in
    let not_alone : (is_word (codes "void") first && is_mark (codes ")") closing) ≡ false = sym (ap is_void_alone whole) ∙ alone in
    ap not (without (is_word (codes "void") first) (is_mark (codes ")") closing) marked not_alone)
  where
    without : (a b : Bool) → b ≡ true → (a && b) ≡ false → a ≡ false
    without true b holds fails = sym holds ∙ fails
    without false b holds fails = refl

pub sound_parameters : (inner : Level) → SoundLevel inner → Reads says_parameters (levels_of_all param_levels) inner.most (read_parameters inner)
unfolding read_parameters
sound_parameters inner is context row =
    sound_if (has_mark (codes ")") row) _ _
    (λ closes.
    let closing = first_of (is_mark (codes ")")) row closes in
    made (split_last closing.1) (λ stars name opening are named opens. NoParameters stars name opening closing.0 are named opens closing.2) refl (omega arith))
    (λ some. sound_if (is_void_alone row) _ _
    (λ alone.
    let word = void_alone row alone in
    let closing = first_of (is_mark (codes ")")) (behind_first row) word.3 in
    made (split_first word.1 (split_last closing.1)) (λ stars name opening are named opens. VoidParameters stars name opening word.0 closing.0 are named opens word.2 closing.2) refl (omega arith))
    (λ given. sound_then (read_list never (read_parameter inner) (length row + 1) (inside context) row) _ (sound_parameter_list inner (length row + 1) is (inside context) row) (λ params levels behind rest read.
    sound_first _ rest _ _ (λ none. sound_nothing) (λ closing others from marked.
    made (split_more read.whole (split_last from))
    (λ stars name opening are named opens. WithParameters stars name opening closing are named opens (no_void row read.front rest others closing read.whole from marked given) read.spelled marked)
    read.same read.fits))))

sound_object_behind : (inner : Level) (typedef : Bool) (name : Terminal) (stars : List Terminal) (before : Context) (row whole middle : List Terminal)
    → SoundLevel inner → Splits whole stars middle → middle ≡ name ∷ row → AreStars stars → IsName name
    → Sound (spelled_before (Declarator typedef)) declared_levels inner.most before whole (object_behind inner typedef name (length stars) before row)
sound_object_behind inner typedef name stars before row whole middle is split from are named =
    sound_then (read_sizes inner (length row + 1) before row) _ (sound_sizes inner (length row + 1) is before row) (λ sizes levels behind rest read.
    sound_first _ rest _ _
    (λ none. made (split_more split (split_first from read.whole)) (ObjectDeclarator stars name are named read.spelled) (read.same ∙ sym (levels_object name (length stars) sizes)) read.fits)
    (λ mark others next marked. sound_then (inner.initializer (declaring behind name.bytes typedef) others) _ (is.initializer (declaring behind name.bytes typedef) others) (λ init inits last more read_init.
    made (split_more split (split_first from (split_more read.whole (split_first next read_init.whole))))
    (InitializedDeclarator stars name mark are named read.spelled marked read_init.spelled)
    (larger read.same read_init.same ∙ sym (levels_initialized name (length stars) sizes init))
    (larger_fits read.fits read_init.fits))))

sound_function_behind : (inner : Level) (typedef : Bool) (name opening : Terminal) (stars : List Terminal) (before : Context) (row whole middle rest : List Terminal)
    → SoundLevel inner → Splits whole stars middle → middle ≡ name ∷ rest → rest ≡ opening ∷ row → AreStars stars → IsName name → IsMark (codes "(") opening
    → (params : List Param) (levels : ℕ) (within : Context) (more : List Terminal) → Got says_parameters (levels_of_all param_levels) inner.most before row params levels within more
    → Sound (spelled_before (Declarator typedef)) declared_levels inner.most before whole (Read (function name (length stars) params) levels (declaring (leaving within) name.bytes typedef) more)
sound_function_behind inner typedef name opening stars before row whole middle rest is split from next are named marked params levels within more read =
    let spelled = read.spelled stars name opening are named marked in
    let kept : left within.scope ≡ before.scope = scopes_kept (FunctionDeclarator name.bytes (function name (length stars) params)) before within (stars ++ (name ∷ (opening ∷ read.front))) spelled in
    subst (λ (scope : List Names). Sound (spelled_before (Declarator typedef)) declared_levels inner.most before whole (Read (function name (length stars) params) levels (declaring (scoped within scope) name.bytes typedef) more)) (sym kept)
    (made (split_more split (split_first from (split_first next read.whole))) (DeclaratorOfFunction spelled) (read.same ∙ sym (levels_function name (length stars) params)) read.fits)

pub sound_declarator : (inner : Level) (typedef : Bool) → SoundLevel inner → Reads (spelled_before (Declarator typedef)) declared_levels inner.most (read_declarator inner typedef)
unfolding read_declarator
sound_declarator inner typedef is context row =
    let stars = stars_of row in
    sound_first _ (behind_stars row) _ _ (λ none. sound_nothing) (λ name rest from named.
    sound_first _ rest _ _
    (λ plain. subst (λ (n : ℕ). Sound (spelled_before (Declarator typedef)) declared_levels inner.most context row (object_behind inner typedef name n context rest)) stars.counted
    (sound_object_behind inner typedef name stars.stars context rest row (behind_stars row) is stars.split from stars.are named))
    (λ opening others next marked. sound_then (read_parameters inner context others) _ (sound_parameters inner is context others) (λ params levels within more read.
    subst (λ (n : ℕ). Sound (spelled_before (Declarator typedef)) declared_levels inner.most context row (Read (function name n params) levels (declaring (leaving within) name.bytes typedef) more)) stars.counted
    (sound_function_behind inner typedef name opening stars.stars context others row (behind_stars row) rest is stars.split from next stars.are named marked params levels within more read))))

sound_declarators : (inner : Level) (typedef : Bool) (count : ℕ) → SoundLevel inner → Reads (spelled_before (Declarators typedef)) (levels_of_all declared_levels) inner.most (read_list never (read_declarator inner typedef) count)
sound_declarators inner typedef count is =
    sound_list (spelled_before (Declarator typedef)) (spelled_before (Declarators typedef)) declared_levels inner.most never (read_declarator inner typedef) count (sound_declarator inner typedef is)
    (λ name before behind front rest spelled. OneDeclarator spelled)
    (λ name names comma before middle behind front others between rest spelled marked more. MoreDeclarators comma spelled marked more)

pub sound_declaration : (inner : Level) → SoundLevel inner → Reads (spelled_as Declaration) decl_levels inner.most (read_declaration inner)
unfolding read_declaration
sound_declaration inner is context row =
    sound_then (read_specifiers inner context row) _ (sound_specifiers inner is context row) (λ specifiers levels behind rest read.
    sound_first _ rest _ _
    (λ some. sound_then (read_list never (read_declarator inner (declares_typedef specifiers.storage)) (length rest + 1) behind rest) _ (sound_declarators inner (declares_typedef specifiers.storage) (length rest + 1) is behind rest) (λ names others last more read_names.
    sound_first _ more _ _ (λ none. sound_nothing) (λ semicolon end from marked.
    let spelled = subst (λ (place : Place). Spells (Declarators (declares_typedef specifiers.storage) place names) behind read_names.front last) (ap first_place from) read_names.spelled in
    made (split_more read.whole (split_more read_names.whole (split_last from))) (WithDeclarators semicolon read.spelled spelled marked)
    (larger read.same read_names.same ∙ sym (levels_declaration specifiers.storage specifiers.spec names)) (larger_fits read.fits read_names.fits))))
    (λ semicolon end from marked. made (split_more read.whole (split_last from)) (NoDeclarator semicolon read.spelled marked)
    (read.same ∙ sym (levels_type_declaration specifiers.storage specifiers.spec)) read.fits))

-- initialisers
pub sound_part : (inner : Level) → SoundLevel inner → Reads (spelled_before DesignatedInitializer) init_part_levels inner.most (read_part inner)
unfolding read_part
sound_part inner is context row =
    sound_first _ row _ _
    (λ none. sound_then (inner.initializer context row) _ (is.initializer context row) (λ init levels behind rest read.
    made read.whole (NextPart read.spelled) (read.same ∙ sym (levels_initializer None init)) read.fits))
    (λ dot others from dotted. sound_first _ others _ _ (λ none. sound_nothing) (λ name more next named. sound_first _ more _ _ (λ none. sound_nothing) (λ mark end last marked.
    sound_then (inner.initializer context end) _ (is.initializer context end) (λ init levels behind rest read.
    made (split_first from (split_first next (split_first last read.whole))) (MemberPart dot name mark dotted named marked read.spelled)
    (read.same ∙ sym (levels_initializer (Some (identifier name)) init)) read.fits))))

sound_parts : (inner : Level) (count : ℕ) → SoundLevel inner → Reads (spelled_before Initializers) (levels_of_all init_part_levels) inner.most (read_list closes_braces (read_part inner) count)
sound_parts inner count is =
    sound_list (spelled_before DesignatedInitializer) (spelled_before Initializers) init_part_levels inner.most closes_braces (read_part inner) count (sound_part inner is)
    (λ part before behind front rest spelled. OneInitializer spelled)
    (λ part parts comma before middle behind front others between rest spelled marked more. MoreInitializers comma spelled marked more)

-- the token behind the parts in braces is a comma or the closing brace, whatever stands behind that brace
place_behind : (last others : List Terminal) (closing : Terminal) → first_place (last ++ (closing ∷ others)) ≡ first_place (last ++ (closing ∷ []))
place_behind [] others closing = refl
place_behind (first ∷ more) others closing = refl

sound_in_braces : (inner : Level) (context : Context) (opening : Terminal) (row whole : List Terminal) → SoundLevel inner → whole ≡ opening ∷ row → IsMark (codes "{") opening
    → Sound (spelled_before Initializer) init_levels (inner.most + 1) context whole (in_braces inner context row)
sound_in_braces inner context opening row whole is from marked =
    sound_first _ row _ _
    (λ some. sound_then (read_list closes_braces (read_part inner) (length row + 1) context row) _ (sound_parts inner (length row + 1) is context row) (λ parts levels behind rest read.
    let comma = comma_of_row rest in
    sound_first _ (behind_comma rest) _ _ (λ none. sound_nothing) (λ closing others next closes.
    let place = ap first_place (comma.split.is ∙ ap (λ (more : List Terminal). comma.last ++ more) next) ∙ place_behind comma.last others closing in
    let spelled = subst (λ (place : Place). Spells (Initializers place parts) context read.front behind) place read.spelled in
    made (split_first from (split_more read.whole (split_more comma.split (split_last next)))) (InBraces comma.last opening closing marked spelled comma.is closes)
    (one_more read.same ∙ sym (levels_braces parts)) (one_more_fits read.fits))))
    (λ closing others next closes. made (split_first from (split_last next)) (EmptyBraces opening closing marked closes) (sym levels_empty_braces) (omega arith))

pub sound_initializer : (inner : Level) → SoundLevel inner → Reads (spelled_before Initializer) init_levels (inner.most + 1) (read_initializer inner)
unfolding read_initializer
sound_initializer inner is context row =
    sound_first _ row _ _
    (λ none. sound_then (inner.assignment context row) _ (is.assignment context row) (λ value levels behind rest read.
    made read.whole (InitializedTo read.spelled) (one_more read.same ∙ sym (levels_value value (first_place rest))) (one_more_fits read.fits)))
    (λ opening others from marked. sound_in_braces inner context opening others row is from marked)
