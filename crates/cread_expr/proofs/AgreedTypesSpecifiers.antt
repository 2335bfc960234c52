-- Types: structs, enums, `typeof`, and those that are a word or some.
use Rattle.std.proofs.Common.{◌≡◌, ℕ, suc, ◌+◌, Bool, true, false, ◌&&◌, List, [], ◌∷◌, map, take, drop, length, codes, Option, None, Some, refl, ap, sym, ◌∙◌, arith}
use Rattle.std.proofs.lemmas.List.Sums.{prefix_len-le-length}
use Rattle.std.specs.List.{prefix_len}
use Rattle.std.specs.Prelude.{if◌then◌else◌}
use Rattle.cbase.specs.declared.tree.identifier.Identifier.{Identifier}
use Rattle.cbase.specs.declared.tree.spec.BasicType.{BasicType}
use Rattle.cbase.specs.declared.tree.spec.TypeSpec.{TypeSpec}
use Rattle.cbase.specs.declared.tree.spec.TypeSpec.TheVariants.{Named, Struct, Enum}
use Rattle.cevents.specs.Workshop.{maybe_identifier_at}
use Rattle.cevents.specs.declared.event.Event.TheVariants as event
use Rattle.cevents.specs.declared.piece.Piece.TheVariants as piece
use Rattle.cgrammar.specs.Firsts.{begins_type}
use Rattle.cgrammar.specs.FrontReadings.{is_basic_word}
use Rattle.cgrammar.specs.Outcomes.{Outcome, Reader, then_read, after_mark, has_first, has_mark, behind_first}
use Rattle.cgrammar.specs.Outcomes as outcome
use Rattle.cgrammar.specs.Phrases.{Context}
use Rattle.cgrammar.specs.ReadLevels.{Level, read_list, read_until_brace}
use Rattle.cgrammar.specs.ReadStarts.{type_start}
use Rattle.cgrammar.specs.ReadTypes.{closes_braces, behind_comma, tag_at, by_tag, read_type_name, read_fields, read_enumerator, read_struct, read_enum, of_basic, read_specifier}
use Rattle.cgrammar.specs.ReadTypes as reader
use Rattle.cgrammar.specs.Terminals.{Terminal, is_mark, is_name, bytes_of}
use Rattle.cgrammar.specs.Trees.{identifier}
use Rattle.cgrammar.specs.TypeWords.{basic_rows, basic_of}
use Rattle.cgrammar.specs.declared.reading.starts.TypeStart.{TypeStart}
use Rattle.cgrammar.specs.declared.reading.starts.TypeStart.TheVariants as start
use Rattle.cparser.specs.State.{State, rest, goes, is_going, skipped}
use Rattle.cparser.specs.Steps.{Inner, all_parts, until_brace}
use Rattle.cparser.specs.TypeSteps.{type_name, fields, all_fields, enumerator, all_enumerators, over_comma, struct_with, struct_behind, enum_with, enum_behind, tag_number, basic, specifier}
use Rattle.cparser.specs.TypeSteps as steps
use Rattle.cparser.specs.declared.status.Status.TheVariants.{Nothing}
use Rattle.cparser.specs.declared.wanted.Wanted.TheVariants as wanted
use Rattle.ctokens.proofs.Choices.{chosen_yes, chosen_no}
use Rattle.cread_expr.proofs.Agreed.{shop, Pieces, none, Ended, Agreed, Reads, ends, anyhow, context_of, type_piece, LevelAgrees}
use Rattle.cread_expr.proofs.AgreedLists.{over_brace, then_brace, still_both}
use Rattle.cread_expr.proofs.AgreedRules.{agreed_at, agreed_outcome, agreed_goes, agreed_test, same_first, then_asked, then_ends, then_mark}
use Rattle.cread_expr.proofs.AgreedSteps.{Still, still_lost, still_goes, still_mark, still_make, ended_at, ended_levels, ended_none, ended_skip, ended_token, ended_write, ended_make}
use Rattle.cread_expr.proofs.AgreedTypesFields.{fields_piece, enumerators_piece, fields_agree, enumerator_agrees, all_parts_agree, until_brace_agrees}
use Rattle.cread_expr.proofs.AgreedTypesSizes.{read_ends, lost_here, ended_over, type_name_agrees}

-- a whole tree, of which no part was read before
abbrev Makes : {A : Type 0} → (A → Pieces) → Outcome A → (s t : State) → ℕ → Type 0
Makes above found s t before = Agreed none above ends 0 before found s t

-- a comma that may stand before the `}`
pub still_over_comma : {u v : State} → Still Nothing u v → Still Nothing u (over_comma v)
unfolding over_comma
still_over_comma still = still_both _ _ still

pub ended_comma : {s t : State} {below above : Pieces} {base levels before : ℕ} {behind : Context} {others : List Terminal}
    → Ended s t below above base levels before behind others → Ended s (over_comma t) below above base levels before behind (behind_comma others)
unfolding over_comma
ended_comma {s} {t} {below} {above} {base} {levels} {before} {behind} {others} far = case others far
  where
    tested : (first : Terminal) (more : List Terminal) (comma : Bool) → is_mark (codes ",") first ≡ comma → Ended s t below above base levels before behind (first ∷ more)
        → Ended s (if goes t && has_mark (codes ",") (rest t) then skipped 1 t else t) below above base levels before behind (if comma then more else first ∷ more)
    tested first more true is far =
        ended_at ((λ i. if is_going (far.status i) && has_mark (codes ",") (far.left i) then skipped 1 t else t) ∙ chosen_yes (is_mark (codes ",") first) (skipped 1 t) t is) (ended_skip far)
    tested first more false is far =
        ended_at ((λ i. if is_going (far.status i) && has_mark (codes ",") (far.left i) then skipped 1 t else t) ∙ chosen_no (is_mark (codes ",") first) (skipped 1 t) t is) far

    case : (row : List Terminal) → Ended s t below above base levels before behind row
        → Ended s (if goes t && has_mark (codes ",") (rest t) then skipped 1 t else t) below above base levels before behind (behind_comma row)
    case [] far = ended_at (λ i. if is_going (far.status i) && has_mark (codes ",") (far.left i) then skipped 1 t else t) far
    case (first ∷ more) far = tested first more (is_mark (codes ",") first) refl far

one_more : (n : ℕ) → suc n ≡ n + 1
one_more n = omega arith

-- a tag, which may be left out
tag_agrees : {s t : State} {before : ℕ} {context : Context} (from : Option Identifier → Reader TypeSpec) (go : Option ℕ → State → State)
    → ((number : Option ℕ) (u : State) (row : List Terminal) → Ended s u none none 0 0 before context row
    → Makes type_piece (from (maybe_identifier_at s.row number) context row) s (go number u) before)
    → (row : List Terminal) → Ended s t none none 0 0 before context row
    → Makes type_piece (from (tag_at row) context (reader.behind_tag row)) s (go (tag_number t) (steps.behind_tag t)) before
tag_agrees {s} {t} {before} {context} from go next [] far =
    agreed_at (ap (λ (test : Bool). go (if test then Some t.at else None) (if test then skipped 1 t else t)) (same_first is_name far)) (next None t [] far)
tag_agrees {s} {t} {before} {context} from go next (first ∷ others) far = case (is_name first) refl
  where
    case : (named : Bool) → is_name first ≡ named
        → Makes type_piece (from (if named then Some (identifier first) else None) context (if named then others else first ∷ others)) s (go (tag_number t) (steps.behind_tag t)) before
    case true is =
        agreed_at (ap (λ (test : Bool). go (if test then Some t.at else None) (if test then skipped 1 t else t)) (same_first is_name far ∙ is))
        (agreed_outcome (λ i. from (Some (identifier (sym (ended_token far) i))) context others) (next (Some t.at) (skipped 1 t) others (ended_skip far)))
    case false is =
        agreed_at (ap (λ (test : Bool). go (if test then Some t.at else None) (if test then skipped 1 t else t)) (same_first is_name far ∙ is))
        (next None t (first ∷ others) far)

-- a struct behind its tag
struct_from : Level → Option Identifier → Reader TypeSpec
struct_from level tag context row =
    if has_mark (codes "{") row
    then then_read (read_until_brace (read_fields level) (length row) context (behind_first row)) (λ declarations levels behind others.
    outcome.Read (Struct tag (Some declarations)) (1 + levels) behind (behind_first others))
    else by_tag (λ name. Struct name None) tag context row

struct_by_tag : {s t : State} {before : ℕ} {context : Context} {row : List Terminal} (number : Option ℕ) → Ended s t none none 0 0 before context row
    → Makes type_piece (by_tag (λ name. Struct name None) (maybe_identifier_at s.row number) context row) s (steps.struct_by_tag number t) before
struct_by_tag None far = lost_here far still_lost
struct_by_tag (Some at) far = read_ends (ended_levels (omega arith) (ended_make (event.StructTag at) (λ pieces. refl) far))

struct_with_agrees : {level : Level} {inner : Inner} {s : State} {before : ℕ} {context : Context} → LevelAgrees level inner → (number : Option ℕ) (t : State) (row : List Terminal) → Ended s t none none 0 0 before context row
    → Makes type_piece (struct_from level (maybe_identifier_at s.row number) context row) s (struct_with inner number t) before
unfolding struct_from struct_with all_fields
struct_with_agrees agrees number t [] far = agreed_at (chosen_no _ _ _ (same_first (is_mark (codes "{")) far)) (struct_by_tag number far)
struct_with_agrees {level} {inner} {s} {before} {context} agrees number t (first ∷ others) far =
    agreed_test (is_mark (codes "{") first) (has_mark (codes "{") (rest t)) _ _ (same_first (is_mark (codes "{")) far)
    (λ opens. agreed_outcome (ap (λ (count : ℕ). then_read (read_until_brace (read_fields level) count context others) (λ declarations levels behind more. outcome.Read (Struct (maybe_identifier_at s.row number) (Some declarations)) (1 + levels) behind (behind_first more))) (one_more (length others)))
    (agreed_outcome (then_brace (read_until_brace (read_fields level) (length others + 1) context others) (λ declarations levels behind more. outcome.Read (Struct (maybe_identifier_at s.row number) (Some declarations)) (1 + levels) behind more))
    (then_ends none (λ context row. over_brace (read_until_brace (read_fields level) (length row + 1)) context row) (until_brace (fields inner)) _ (ended_write event.NoFields (λ pieces. refl) (ended_skip far))
    (until_brace_agrees fields_piece (read_fields level) (fields inner) (λ done. fields_agree done agrees)) (still_make _ still_lost) (λ declarations levels behind more further.
    read_ends (ended_levels (omega arith) (ended_make (event.Struct number) (λ pieces. refl) further))))))
    (λ none. struct_by_tag number far)

struct_agrees : {level : Level} {inner : Inner} {s t : State} {before : ℕ} {context : Context} → LevelAgrees level inner → (row : List Terminal) → Ended s t none none 0 0 before context row
    → Makes type_piece (read_struct level context row) s (struct_behind inner t) before
unfolding read_struct struct_behind struct_from
struct_agrees {level} {inner} agrees row far = tag_agrees (struct_from level) (struct_with inner) (λ number u row far. struct_with_agrees agrees number u row far) row far

-- an enum behind its tag
enum_from : Level → Option Identifier → Reader TypeSpec
enum_from level tag context row =
    if has_mark (codes "{") row
    then then_read (read_list closes_braces (read_enumerator level) (length row) context (behind_first row)) (λ values levels behind more.
    after_mark (codes "}") (behind_comma more) outcome.Nothing (λ closing others. outcome.Read (Enum tag (Some values)) (1 + levels) behind others))
    else by_tag (λ name. Enum name None) tag context row

enum_by_tag : {s t : State} {before : ℕ} {context : Context} {row : List Terminal} (number : Option ℕ) → Ended s t none none 0 0 before context row
    → Makes type_piece (by_tag (λ name. Enum name None) (maybe_identifier_at s.row number) context row) s (steps.enum_by_tag number t) before
enum_by_tag None far = lost_here far still_lost
enum_by_tag (Some at) far = read_ends (ended_levels (omega arith) (ended_make (event.EnumTag at) (λ pieces. refl) far))

enum_with_agrees : {level : Level} {inner : Inner} {s : State} {before : ℕ} {context : Context} → LevelAgrees level inner → (number : Option ℕ) (t : State) (row : List Terminal) → Ended s t none none 0 0 before context row
    → Makes type_piece (enum_from level (maybe_identifier_at s.row number) context row) s (enum_with inner number t) before
unfolding enum_from enum_with all_enumerators
enum_with_agrees agrees number t [] far = agreed_at (chosen_no _ _ _ (same_first (is_mark (codes "{")) far)) (enum_by_tag number far)
enum_with_agrees {level} {inner} {s} {before} {context} agrees number t (first ∷ others) far =
    agreed_test (is_mark (codes "{") first) (has_mark (codes "{") (rest t)) _ _ (same_first (is_mark (codes "{")) far)
    (λ opens. agreed_outcome (ap (λ (count : ℕ). then_read (read_list closes_braces (read_enumerator level) count context others) (λ values levels behind more. after_mark (codes "}") (behind_comma more) outcome.Nothing (λ closing end. outcome.Read (Enum (maybe_identifier_at s.row number) (Some values)) (1 + levels) behind end))) (one_more (length others)))
    (then_ends none (λ context row. read_list closes_braces (read_enumerator level) (length row + 1) context row) (all_parts closes_braces (enumerator inner)) _ (ended_write event.NoEnumerators (λ pieces. refl) (ended_skip far))
    (all_parts_agree enumerators_piece closes_braces (read_enumerator level) (enumerator inner) (λ done. enumerator_agrees done agrees)) (still_make _ (still_mark _ (still_over_comma still_lost))) (λ values levels behind more further.
    then_mark (codes "}") (behind_comma more) _ (ended_comma further) (still_make _ still_lost) (λ closing end is at beyond.
    read_ends (ended_levels (omega arith) (ended_make (event.Enum number) (λ pieces. refl) beyond))))))
    (λ none. enum_by_tag number far)

enum_agrees : {level : Level} {inner : Inner} {s t : State} {before : ℕ} {context : Context} → LevelAgrees level inner → (row : List Terminal) → Ended s t none none 0 0 before context row
    → Makes type_piece (read_enum level context row) s (enum_behind inner t) before
unfolding read_enum enum_behind enum_from
enum_agrees {level} {inner} agrees row far = tag_agrees (enum_from level) (enum_with inner) (λ number u row far. enum_with_agrees agrees number u row far) row far

-- `typeof`, behind its `(`
still_type_of : {u v : State} (inner : Inner) → Still Nothing u v → Still Nothing u (steps.type_of inner v)
unfolding steps.type_of
still_type_of inner still = still_goes _ still

type_of_agrees : {level : Level} {inner : Inner} {s t : State} {before : ℕ} {context : Context} {row : List Terminal} → LevelAgrees level inner → Ended s t none none 0 0 before context row
    → Makes type_piece (reader.type_of level context row) s (steps.type_of inner t) before
unfolding steps.type_of
type_of_agrees {level} {inner} {t} {context} {row} agrees far =
    agreed_goes t t far.status
    (agreed_test (has_first (begins_type context.scope) row) (has_first (begins_type t.scope) (rest t)) _ _ (λ i. has_first (begins_type (far.scope i)) (far.left i))
    (λ typed. then_ends none (read_type_name level) (type_name inner) _ far (type_name_agrees agrees) (still_make _ (still_mark _ still_lost)) (λ to levels behind others further.
    then_mark (codes ")") others _ further (still_make _ still_lost) (λ closing more is at beyond.
    read_ends (ended_levels (omega arith) (ended_make event.TypeOfType (λ pieces. refl) beyond)))))
    (λ untyped. then_asked none level.expression inner wanted.Expression _ far agrees.expression (still_make _ (still_mark _ still_lost)) (λ expr levels behind others further.
    then_mark (codes ")") others _ further (still_make _ still_lost) (λ closing more is at beyond.
    read_ends (ended_levels (omega arith) (ended_make event.TypeOfExpr (λ pieces. refl) beyond))))))

-- keywords of basic types
basic_agrees : {s t : State} {before : ℕ} {context : Context} {row : List Terminal} → Ended s t none none 0 0 before context row
    → Makes type_piece (reader.read_basic context row) s (basic t) before
unfolding basic
basic_agrees {s} {t} {before} {context} {row} far =
    agreed_at (ap (λ (row : List Terminal). steps.basic_with (prefix_len is_basic_word row) t (basic_of basic_rows (map bytes_of (take (prefix_len is_basic_word row) row)))) far.left)
    (case (basic_of basic_rows (map bytes_of (take (prefix_len is_basic_word row) row))))
  where
    case : (found : Option BasicType) → Makes type_piece (of_basic found context (drop (prefix_len is_basic_word row) row)) s (steps.basic_with (prefix_len is_basic_word row) t found) before
    case None = lost_here far still_lost
    case (Some type) = read_ends (ended_levels (omega arith) (ended_make (event.Basic type) (λ pieces. refl) (ended_over (prefix_len is_basic_word row) (prefix_len-le-length is_basic_word row) far)))

specifier_with_agrees : {level : Level} {inner : Inner} {s : State} {before : ℕ} {context : Context} (first : Terminal) (row : List Terminal) (begins : TypeStart) → LevelAgrees level inner → Ended s s none none 0 0 before context (first ∷ row)
    → Makes type_piece (reader.specifier_with level context first row begins) s (steps.specifier_with inner s begins) before
specifier_with_agrees {s} {before} {context} first row start.Named agrees far =
    read_ends (ended_levels (omega arith) (ended_make (event.Named s.at) (λ pieces i. shop context.expressions (piece.Type (Named (ended_token far i).bytes) ∷ pieces)) (ended_skip far)))
specifier_with_agrees first row start.Basic agrees far = basic_agrees far
specifier_with_agrees first row start.Struct agrees far = struct_agrees agrees row (ended_skip far)
specifier_with_agrees first row start.Enum agrees far = enum_agrees agrees row (ended_skip far)
specifier_with_agrees {inner} first row start.TypeOf agrees far =
    then_mark (codes "(") row _ (ended_skip far) (still_type_of inner still_lost) (λ opening others is at beyond. type_of_agrees agrees beyond)
specifier_with_agrees first row start.Other agrees far = lost_here far still_lost

-- a type
pub specifier_ends : {level : Level} {inner : Inner} → LevelAgrees level inner → Reads type_piece ends (read_specifier level) (specifier inner)
unfolding read_specifier specifier
specifier_ends {level} {inner} agrees s before is flat =
    agreed_goes s s is.status (case (rest s) (ended_none s none before is flat))
  where
    case : (row : List Terminal) → Ended s s none none 0 0 before (context_of s before) row
        → Makes type_piece (read_specifier level (context_of s before) row) s (steps.specifier_with inner s (steps.type_first s.scope row)) before
    case [] far = lost_here far still_lost
    case (first ∷ others) far = specifier_with_agrees first others (type_start s.scope first) agrees far

-- what is read to its end fits anyhow
pub agreed_anyhow : {A : Type 0} {s t : State} {below : Pieces} {above : A → Pieces} {base before : ℕ} (found : Outcome A) → Agreed below above ends base before found s t → Agreed below above anyhow base before found s t
agreed_anyhow outcome.Nothing is = record { is = is.is }
agreed_anyhow (outcome.Stopped tree expressions others) is = record { is = (is.is.0, tt) }
agreed_anyhow (outcome.Read tree levels behind others) is = record { is = (is.is.0, tt) }

pub specifier_agrees : {level : Level} {inner : Inner} → LevelAgrees level inner → Reads type_piece anyhow (read_specifier level) (specifier inner)
specifier_agrees {level} agrees s before is flat = agreed_anyhow (read_specifier level (context_of s before) (rest s)) (specifier_ends agrees s before is flat)
