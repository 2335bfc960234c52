-- Fields of structs, and enumerators.
use Rattle.std.proofs.Common.{◌≡◌, ℕ, ◌+◌, max, Bool, false, List, [], ◌∷◌, ◌++◌, length, codes, Option, None, Some, refl, arith}
use Rattle.cbase.specs.declared.tree.expr.Expr.{Expr}
use Rattle.cbase.specs.declared.tree.spec.Enumerator.{Enumerator}
use Rattle.cbase.specs.declared.tree.spec.FieldDecl.{FieldDecl}
use Rattle.cbase.specs.declared.tree.spec.FieldName.{FieldName}
use Rattle.cevents.specs.Workshop.{token_at}
use Rattle.cevents.specs.declared.event.Event.TheVariants as event
use Rattle.cevents.specs.declared.piece.Piece.TheVariants as piece
use Rattle.cgrammar.specs.Outcomes.{Reader, then_read}
use Rattle.cgrammar.specs.Outcomes as outcome
use Rattle.cgrammar.specs.Phrases.{Context}
use Rattle.cgrammar.specs.ReadLevels.{Level, read_list, read_until_brace}
use Rattle.cgrammar.specs.ReadTypes.{star_count, behind_stars, never, read_field, read_fields, read_enumerator}
use Rattle.cgrammar.specs.ReadTypes as reader
use Rattle.cgrammar.specs.Terminals.{Terminal, is_mark, is_name}
use Rattle.cgrammar.specs.Trees as tree
use Rattle.cparser.specs.State.{State, rest}
use Rattle.cparser.specs.Steps.{Inner, all_parts, until_brace}
use Rattle.cparser.specs.TypeSteps.{field_name, field_names, fields, enumerator, enumerator_behind}
use Rattle.cparser.specs.TypeSteps as steps
use Rattle.cparser.specs.declared.status.Status.TheVariants.{Nothing}
use Rattle.cparser.specs.declared.wanted.Wanted.TheVariants as wanted
use Rattle.cread_expr.proofs.Agreed.{shop, Pieces, Ended, Agreed, Continues, ends, LevelAgrees}
use Rattle.cread_expr.proofs.AgreedLists.{list_agrees, braces_agree, over_brace, still_parts}
use Rattle.cread_expr.proofs.AgreedRules.{agreed_goes, if_first, then_asked, then_ends, then_mark}
use Rattle.cread_expr.proofs.AgreedSteps.{Still, still_lost, still_goes, still_mark, still_write, still_declare, ended_levels, ended_part, ended_write, ended_token, ended_declare}
use Rattle.cread_expr.proofs.AgreedTypesSizes.{read_ends, lost_here, ended_stars, if_behind, then_closed_sizes}

-- all parts of a list, of which there are no more than tokens
pub all_parts_agree : {A : Type 0} (list_piece : List A → Pieces) (closes : List Terminal → Bool) (item : Reader A) (part : State → State)
    → ((done : List A) → Continues (list_piece done) (λ tree. list_piece (done ++ tree ∷ [])) ends item part)
    → Continues (list_piece []) list_piece ends (λ context row. read_list closes item (length row + 1) context row) (all_parts closes part)
all_parts_agree list_piece closes item part agrees s before is = list_agrees list_piece closes item part agrees (length (rest s) + 1) [] s before is

pub until_brace_agrees : {A : Type 0} (list_piece : List A → Pieces) (item : Reader A) (part : State → State)
    → ((done : List A) → Continues (list_piece done) (λ tree. list_piece (done ++ tree ∷ [])) ends item part)
    → Continues (list_piece []) list_piece ends (λ context row. over_brace (read_until_brace item (length row + 1)) context row) (until_brace part)
until_brace_agrees list_piece item part agrees s before is = braces_agree list_piece item part agrees (length (rest s) + 1) [] s before is

-- The name of a field.
abbrev pub field_names_piece : List FieldName → Pieces
field_names_piece names pieces = piece.FieldNames names ∷ pieces

pub still_field_name : {u v : State} (inner : Inner) → Still Nothing u v → Still Nothing u (field_name inner v)
unfolding field_name
still_field_name inner still = still_goes _ still

still_bits : {u v : State} (inner : Inner) (at stars : ℕ) → Still Nothing u v → Still Nothing u (steps.bits_behind inner at stars v)
unfolding steps.bits_behind
still_bits inner at stars still = still_goes _ still

bits_agree : {level : Level} {inner : Inner} {s t : State} {below under : Pieces} {base levels before : ℕ} {context : Context} {row : List Terminal} (name : Terminal) (at stars : ℕ) (done : List FieldName) (sizes : List (Option Expr))
    → LevelAgrees level inner
    → token_at s.row at ≡ name
    → Ended s t below (λ pieces. piece.Sizes sizes ∷ (piece.FieldNames done ∷ under pieces)) base levels before context row
    → Agreed below (λ name pieces. piece.FieldNames (done ++ name ∷ []) ∷ under pieces) ends base before (reader.bits_behind level name stars sizes levels context row) s (steps.bits_behind inner at stars t)
unfolding steps.bits_behind
bits_agree {level} {inner} {s} {t} {under} {levels} {context} {row} name at stars done sizes agrees named far =
    agreed_goes t t far.status
    (if_behind (is_mark (codes ":")) row
    (λ others. then_read (level.conditional context others) (λ bits more last end. outcome.Read (tree.field name.place (Some name.bytes) stars sizes (Some bits)) (max levels more) last end))
    (outcome.Read (tree.field name.place (Some name.bytes) stars sizes None) levels context row) far
    (λ no. read_ends (ended_write (event.Field at stars) (λ pieces i. shop context.expressions (piece.FieldNames (done ++ tree.field (named i).place (Some (named i).bytes) stars sizes None ∷ []) ∷ under pieces)) far))
    (λ colon others is at_colon behind_colon.
    then_asked (λ pieces. piece.Sizes sizes ∷ (piece.FieldNames done ∷ under pieces)) level.conditional inner wanted.Conditional _ behind_colon agrees.conditional (still_write _ still_lost) (λ bits more last end further.
    read_ends (ended_write (event.BitField at stars) (λ pieces i. shop last.expressions (piece.FieldNames (done ++ tree.field (named i).place (Some (named i).bytes) stars sizes (Some bits) ∷ []) ∷ under pieces)) further))))

pub field_name_agrees : {level : Level} {inner : Inner} (done : List FieldName) → LevelAgrees level inner
    → Continues (field_names_piece done) (λ name. field_names_piece (done ++ name ∷ [])) ends (read_field level) (field_name inner)
unfolding read_field field_name
field_name_agrees {level} {inner} done agrees s before is =
    let far = ended_part s (field_names_piece done) before is in
    agreed_goes s s is.status
    (if_first (is_mark (codes ":")) (rest s) _ _ far
    (λ no. if_first is_name (behind_stars (rest s)) _ _ (ended_stars far)
    (λ none. lost_here (ended_stars far) still_lost)
    (λ name others named at_name behind_name.
    then_closed_sizes (reader.bits_behind level name (star_count (rest s))) agrees behind_name (still_bits _ _ _ still_lost) (λ sizes more behind end further.
    bits_agree name _ (star_count (rest s)) done sizes agrees (ended_token at_name) (ended_levels (omega arith) further))))
    (λ colon others is at_colon behind_colon.
    then_asked (field_names_piece done) level.conditional inner wanted.Conditional _ behind_colon agrees.conditional (still_write _ still_lost) (λ bits more last end further.
    read_ends (ended_levels (omega arith) (ended_write (event.Padding s.at) (λ pieces i. shop last.expressions (piece.FieldNames (done ++ tree.field (ended_token at_colon i).place None 0 [] (Some bits) ∷ []) ∷ pieces)) further)))))

-- The names of fields of one type.
pub still_field_names : {u v : State} (inner : Inner) → Still Nothing u v → Still Nothing u (field_names inner v)
unfolding field_names
still_field_names inner still = still_parts never (field_name inner) _ (λ u v still. still_field_name inner still) (still_write _ still)

abbrev pub fields_piece : List FieldDecl → Pieces
fields_piece declarations pieces = piece.Fields declarations ∷ pieces

pub fields_agree : {level : Level} {inner : Inner} (done : List FieldDecl) → LevelAgrees level inner
    → Continues (fields_piece done) (λ declaration. fields_piece (done ++ declaration ∷ [])) ends (read_fields level) (fields inner)
unfolding read_fields fields field_names
fields_agree {level} {inner} done agrees s before is =
    then_asked (fields_piece done) level.specifier inner wanted.Specifier _ (ended_part s (fields_piece done) before is) agrees.specifier (still_write _ (still_mark _ (still_field_names inner still_lost))) (λ type levels behind others far.
    then_ends (λ pieces. piece.Type type ∷ (piece.Fields done ∷ pieces)) (λ context row. read_list never (read_field level) (length row + 1) context row) (all_parts never (field_name inner)) _ (ended_write event.NoFieldNames (λ pieces. refl) far)
    (all_parts_agree field_names_piece never (read_field level) (field_name inner) (λ done. field_name_agrees done agrees)) (still_write _ (still_mark _ still_lost)) (λ names more last end further.
    then_mark (codes ";") end _ further (still_write _ still_lost) (λ semicolon left is at beyond.
    read_ends (ended_levels (omega arith) (ended_write event.Fields (λ pieces. refl) beyond)))))

-- An enumeration constant.
abbrev pub enumerators_piece : List Enumerator → Pieces
enumerators_piece values pieces = piece.Enumerators values ∷ pieces

pub enumerator_agrees : {level : Level} {inner : Inner} (done : List Enumerator) → LevelAgrees level inner
    → Continues (enumerators_piece done) (λ value. enumerators_piece (done ++ value ∷ [])) ends (read_enumerator level) (enumerator inner)
unfolding read_enumerator enumerator enumerator_behind
enumerator_agrees {level} {inner} done agrees s before is =
    let far = ended_part s (enumerators_piece done) before is in
    agreed_goes s s is.status
    (if_first is_name (rest s) _ _ far
    (λ no. lost_here far still_lost)
    (λ name others named at_name behind_name.
    if_first (is_mark (codes "=")) others _ _ behind_name
    (λ plain. read_ends (ended_levels (omega arith) (ended_declare s.at name.bytes false (λ i. (ended_token at_name i).bytes)
    (ended_write (event.Enumerator s.at) (λ pieces i. shop before (piece.Enumerators (done ++ tree.enumerator (ended_token at_name i) None ∷ []) ∷ pieces)) behind_name))))
    (λ equals more is at_equals behind_equals.
    then_asked (enumerators_piece done) level.conditional inner wanted.Conditional _ behind_equals agrees.conditional (still_declare _ _ (still_write _ still_lost)) (λ value levels behind end further.
    read_ends (ended_levels (omega arith) (ended_declare s.at name.bytes false (λ i. (ended_token at_name i).bytes)
    (ended_write (event.EnumeratorValue s.at) (λ pieces i. shop behind.expressions (piece.Enumerators (done ++ tree.enumerator (ended_token at_name i) (Some value) ∷ []) ∷ pieces)) further)))))))
