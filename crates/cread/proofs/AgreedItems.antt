-- Items of a file: the steps come to what the reader function gives (C11 6.9).
use Rattle.std.proofs.Common.{◌≡◌, ℕ, suc, ◌+◌, ◌-◌, ◌≤◌, max, Bool, true, false, List, [], ◌∷◌, ◌++◌, length, drop, codes, refl, ap, sym, ◌∙◌, arith}
use Rattle.std.proofs.lemmas.List.{length-drop, drop-drop}
use Rattle.std.specs.Prelude.{if◌then◌else◌}
use Rattle.cbase.specs.declared.place.Place.{Place}
use Rattle.cbase.specs.declared.tree.decl.Declared.{Declared}
use Rattle.cbase.specs.declared.tree.decl.Param.{Param}
use Rattle.cbase.specs.declared.tree.decl.Storage.{Storage}
use Rattle.cbase.specs.declared.tree.item.Item.{Item}
use Rattle.cbase.specs.declared.tree.item.Item.TheVariants as item
use Rattle.cbase.specs.declared.tree.spec.TypeSpec.{TypeSpec}
use Rattle.cbase.specs.declared.tree.stmt.Stmt.{Stmt}
use Rattle.cevents.specs.Workshop.{place_at, token_at, bytes_at}
use Rattle.cevents.specs.declared.event.Event.TheVariants as event
use Rattle.cevents.specs.declared.piece.Piece.TheVariants as piece
use Rattle.ctrees.specs.Levels.{stmt_levels}
use Rattle.cgrammar.proofs.Fronts.{drop_front}
use Rattle.cgrammar.proofs.SoundSays.{SoundLevel}
use Rattle.cgrammar.proofs.SoundLists.{levels_of_all}
use Rattle.cgrammar.proofs.SoundStatements.{says_body, sound_items}
use Rattle.cgrammar.proofs.SoundSteps.{Sound, first_of}
use Rattle.cgrammar.specs.Outcomes.{Outcome, then_read, after_first, after_mark, behind_first}
use Rattle.cgrammar.specs.Outcomes as outcome
use Rattle.cgrammar.specs.Phrases.{Context, scoped}
use Rattle.cgrammar.specs.ReadDeclarations.{leaving, read_parameters, read_declaration}
use Rattle.cgrammar.specs.ReadLevels.{Level, read_until_brace}
use Rattle.cgrammar.specs.ReadTypes.{star_count, behind_stars}
use Rattle.cgrammar.specs.Scope.{Names, declared_around, left}
use Rattle.cgrammar.specs.Terminals.{Terminal, is_mark, is_name}
use Rattle.cgrammar.specs.Trees as tree
use Rattle.cgrammar.specs.TypeWords.{declares_typedef}
use Rattle.cparser.specs.DeclarationSteps.{specifiers, parameters, declaration}
use Rattle.cparser.specs.ItemSteps.{declare_around, defined, definition_inside, definition_body, definition_with, definition_named, definition_behind, definition, ends_with_brace, external}
use Rattle.cparser.specs.State.{State, rest, with_scope, skipped}
use Rattle.cparser.specs.StatementSteps.{block_item, block_items}
use Rattle.cparser.specs.Steps.{Inner, write, mark, until_brace}
use Rattle.cparser.specs.declared.status.Status.TheVariants.{Nothing}
use Rattle.cread_expr.proofs.Agreed.{Pieces, none, shop, Ended, Agreed, Follows, ends, context_of, LevelAgrees, statements_piece}
use Rattle.cread_expr.proofs.AgreedDeclarations.{declaration_agrees}
use Rattle.cread_expr.proofs.AgreedDeclarationsParameters.{then_both, then_specifiers, still_parameters, parameters_agree}
use Rattle.cread_expr.proofs.AgreedLists.{behind_brace, over_brace, until_brace_follows, still_braces}
use Rattle.cread_expr.proofs.AgreedPlaces.{place_here}
use Rattle.cread_expr.proofs.AgreedRules.{agreed_at, agreed_outcome, agreed_goes, agreed_test, if_first, then_ends, then_mark}
use Rattle.cread_expr.proofs.AgreedStatements.{then_passes, block_item_agrees}
use Rattle.cread_expr.proofs.AgreedSteps.{if_going, Still, still_lost, still_goes, still_mark, still_write, still_leave, ended_at, ended_levels, ended_part, ended_token, ended_write, ended_leave}
use Rattle.cread_expr.proofs.AgreedTypesSizes.{read_ends, lost_here, ended_stars, if_behind}
use Rattle.cread.specs.Items.{in_body}
use Rattle.cread.specs.ReadItem.{Head, head_of, read_head, read_function, read_external}

abbrev pub item_piece : Item → Pieces
item_piece item pieces = piece.Item item ∷ pieces

-- The name of a function is declared around its parameters.
still_declare_around : {u v : State} (at : ℕ) (typedef : Bool) → Still Nothing u v → Still Nothing u (declare_around at typedef v)
unfolding declare_around
still_declare_around at typedef still = still_goes _ still

ended_scope : {s t : State} {below above : Pieces} {base levels before : ℕ} {behind : Context} {others : List Terminal} (one other : List Names) → one ≡ other
    → Ended s t below above base levels before behind others → Ended s (with_scope one t) below above base levels before (scoped behind other) others
ended_scope one other same far = record {
  went = record { row = far.went.row; added = far.went.added; events = far.went.events; builds = far.went.builds };
  status = far.status;
  left = far.left;
  scope = same;
  levels = far.levels;
  on = far.on;
  inside = far.inside;
}

ended_declare_around : {s t : State} {below above : Pieces} {base levels before : ℕ} {behind : Context} {others : List Terminal} (at : ℕ) (bytes : List ℕ) (typedef : Bool)
    → bytes_at s.row at ≡ bytes
    → Ended s t below above base levels before behind others → Ended s (declare_around at typedef t) below above base levels before (in_body bytes typedef behind) others
unfolding declare_around
ended_declare_around {s} {t} at bytes typedef is far =
    let found : bytes_at t.row at ≡ bytes = ap (λ (row : List Terminal). bytes_at row at) far.went.row ∙ is in
    ended_at (if_going (with_scope (declared_around (bytes_at t.row at) typedef t.scope) t) t t far.status)
    (ended_scope _ _ (λ i. declared_around (found i) typedef (far.scope i)) far)

-- A function's declarator and what is read behind it.
then_after : {A B : Type 0} (test : Terminal → Bool) (row : List Terminal) (go : Terminal → List Terminal → Outcome A) (more : A → ℕ → Context → List Terminal → Outcome B)
    → then_read (after_first test row outcome.Nothing go) more ≡ after_first test row outcome.Nothing (λ first others. then_read (go first others) more)
then_after test [] go more = refl
then_after {A} {B} test (first ∷ others) go more = case (test first)
  where
    case : (passes : Bool) → then_read (if passes then go first others else outcome.Nothing) more ≡ (if passes then then_read (go first others) more else outcome.Nothing)
    case true = refl
    case false = refl

abbrev headed : ℕ → Terminal → List Param → ℕ → Context → List Terminal → Outcome Head
headed stars name params levels within end = outcome.Read (head_of name.bytes (tree.function name stars params)) levels within end

abbrev opened : Level → Context → ℕ → Terminal → Terminal → List Terminal → Outcome Head
opened level context stars name opening more = then_read (read_parameters level context more) (headed stars name)

abbrev named : Level → Context → ℕ → Terminal → List Terminal → Outcome Head
named level context stars name others = after_mark (codes "(") others outcome.Nothing (opened level context stars name)

abbrev opened_then : {B : Type 0} → Level → Context → ℕ → (Head → ℕ → Context → List Terminal → Outcome B) → Terminal → Terminal → List Terminal → Outcome B
opened_then level context stars go name opening more =
    then_read (read_parameters level context more) (λ params levels within end. go (head_of name.bytes (tree.function name stars params)) levels within end)

named_then : {B : Type 0} (level : Level) (context : Context) (stars : ℕ) (go : Head → ℕ → Context → List Terminal → Outcome B) (name : Terminal) (others : List Terminal)
    → then_read (named level context stars name others) go ≡ after_mark (codes "(") others outcome.Nothing (opened_then level context stars go name)
named_then level context stars go name others =
    then_after (is_mark (codes "(")) others (opened level context stars name) go
    ∙ (λ j. after_mark (codes "(") others outcome.Nothing (λ opening more. then_both (read_parameters level context more) (headed stars name) go j))

head_then : {B : Type 0} (level : Level) (context : Context) (row : List Terminal) (go : Head → ℕ → Context → List Terminal → Outcome B)
    → then_read (read_head level context row) go
    ≡ after_first is_name (behind_stars row) outcome.Nothing (λ name others. after_mark (codes "(") others outcome.Nothing (opened_then level context (star_count row) go name))
unfolding read_head
head_then level context row go =
    then_after is_name (behind_stars row) (named level context (star_count row)) go
    ∙ (λ i. after_first is_name (behind_stars row) outcome.Nothing (λ name others. named_then level context (star_count row) go name others i))

-- The body's last brace: the token before what is left.
abbrev pub place_before : List Terminal → List Terminal → Place
place_before row final = place_at row (length row - length final - 1)

place_closing : (at : ℕ) (row others front final : List Terminal) (closing : Terminal) → drop at row ≡ others → others ≡ front ++ (closing ∷ final) → place_before row final ≡ closing.place
place_closing at row others front final closing there split =
    let last : drop (at + length front) row ≡ closing ∷ final =
    sym (drop-drop (length front) at row) ∙ (ap (λ (row : List Terminal). drop (length front) row) (there ∙ split) ∙ drop_front front (closing ∷ final)) in
    let whole : length row - (at + length front) ≡ suc (length final) = sym (length-drop (at + length front) row) ∙ ap (λ (row : List Terminal). length row) last in
    ap (λ (at : ℕ). place_at row at) (number (length row) (at + length front) (length final) whole) ∙ place_here (at + length front) row closing final last
  where
    number : (whole at final : ℕ) → whole - at ≡ suc final → whole - final - 1 ≡ at
    number whole at final is = omega (arith, is)

-- a body is read up to its last brace, and the steps go over it
body_closed : {B : Type 0} (inner : Level) → SoundLevel inner → (count at : ℕ) (context : Context) (row others : List Terminal) (go : List Stmt → ℕ → Context → Place → List Terminal → Outcome B)
    → drop at row ≡ others
    → then_read (read_until_brace inner.item count context others) (λ body levels last end. after_mark (codes "}") end outcome.Nothing (λ closing final. go body levels last closing.place final))
    ≡ then_read (over_brace (read_until_brace inner.item count) context others) (λ body levels last final. go body levels last (place_before row final) final)
body_closed {B} inner is count at context row others go there = case (read_until_brace inner.item count context others) (sound_items inner count is context others)
  where
    over : (body : List Stmt) (levels : ℕ) (last : Context) (front end : List Terminal) → others ≡ front ++ end → (closing : Terminal) × (end ≡ closing ∷ behind_first end) × (is_mark (codes "}") closing ≡ true)
        → after_mark (codes "}") end outcome.Nothing (λ closing final. go body levels last closing.place final) ≡ go body levels last (place_before row (behind_first end)) (behind_first end)
    over body levels last front end split (closing, is, marks) =
        let place : place_before row (behind_first end) ≡ closing.place = place_closing at row others front (behind_first end) closing there (split ∙ ap (λ (end : List Terminal). front ++ end) is) in
        ap (λ (end : List Terminal). after_mark (codes "}") end outcome.Nothing (λ closing final. go body levels last closing.place final)) is
        ∙ (ap (λ (test : Bool). if test then go body levels last closing.place (behind_first end) else outcome.Nothing) marks
        ∙ ap (λ (place : Place). go body levels last place (behind_first end)) (sym place))

    case : (found : Outcome (List Stmt)) → Sound says_body (levels_of_all stmt_levels) inner.most context others found
        → then_read found (λ body levels last end. after_mark (codes "}") end outcome.Nothing (λ closing final. go body levels last closing.place final))
        ≡ then_read (behind_brace found) (λ body levels last final. go body levels last (place_before row final) final)
    case outcome.Nothing read = refl
    case (outcome.Stopped body expressions end) read = refl
    case (outcome.Read body levels last end) read =
        over body levels last read.is.front end read.is.whole.is (first_of (is_mark (codes "}")) end read.is.spelled.1)

-- where a state is that has so many tokens left
left_is : {s t : State} {below above : Pieces} {base levels before : ℕ} {behind : Context} {others : List Terminal}
    → Ended s t below above base levels before behind others → t.at ≡ length s.row - length others
left_is {s} {t} {others} far =
    let whole : length t.row - t.at ≡ length others = sym (length-drop t.at t.row) ∙ ap (λ (row : List Terminal). length row) far.left in
    let row : length t.row ≡ length s.row = ap (λ (row : List Terminal). length row) far.went.row in
    counted t.at (length t.row) (length s.row) (length others) far.inside whole row
  where
    counted : (at found whole others : ℕ) → at ≤ found → found - at ≡ others → found ≡ whole → at ≡ whole - others
    counted at found whole others inside left row = omega (arith, inside, left, row)

still_block_items : {u v : State} (inner : Inner) → Still Nothing u v → Still Nothing u (block_items inner v)
unfolding block_items
still_block_items inner still = still_braces _ _ still

still_definition_body : {u v : State} (inner : Inner) (storage : Storage) (at : ℕ) → Still Nothing u v → Still Nothing u (definition_body inner storage at v)
unfolding definition_body definition_inside defined
still_definition_body inner storage at still =
    still_write _ (still_leave (still_block_items inner (still_write _ (still_declare_around _ _ (still_mark _ still)))))

-- the body of a function, with its braces
body_agrees : {level : Level} {inner : Inner} {s u : State} {levels before : ℕ} {within : Context} (type : TypeSpec) (storage : Storage) (name : Terminal) (at : ℕ) (head : Declared) (row : List Terminal) (deep : ℕ → ℕ) → SoundLevel level → LevelAgrees level inner
    → token_at s.row at ≡ name → ((bodies : ℕ) → max levels bodies ≡ deep bodies)
    → Ended s u none (λ pieces. piece.Declarators (head ∷ []) ∷ (piece.Type type ∷ pieces)) s.levels levels before within row
    → Agreed none item_piece ends s.levels before
    (after_mark (codes "{") row outcome.Nothing (λ opening others.
    then_read (read_until_brace level.item (length others + 1) (in_body name.bytes (declares_typedef storage) within) others) (λ body bodies last end.
    after_mark (codes "}") end outcome.Nothing (λ closing final.
    outcome.Read (item.Function type storage head body closing.place) (deep bodies) (leaving last) final)))) s
    (definition_body inner storage at u)
unfolding definition_body definition_inside defined block_items
body_agrees {level} {inner} {s} {u} {levels} {before} {within} type storage name at head row deep sound agrees named total far =
    then_mark (codes "{") row _ far (still_write _ (still_leave (still_block_items inner (still_write _ (still_declare_around _ _ still_lost))))) (λ opening others is at_opening behind_opening.
    let t : State = declare_around at (declares_typedef storage) (mark (codes "{") u) in
    let inside = ended_declare_around at name.bytes (declares_typedef storage) (λ i. (named i).bytes) behind_opening in
    let there : drop t.at s.row ≡ others = ap (λ (row : List Terminal). drop t.at row) (sym inside.went.row) ∙ inside.left in
    agreed_outcome (body_closed level sound (length others + 1) t.at (in_body name.bytes (declares_typedef storage) within) s.row others (λ body bodies last place final. outcome.Read (item.Function type storage head body place) (deep bodies) (leaving last) final) there)
    (then_ends (λ pieces. piece.Declarators (head ∷ []) ∷ (piece.Type type ∷ pieces)) (λ context row. over_brace (read_until_brace level.item (length row + 1)) context row) (λ t. until_brace (block_item inner) (write event.NoStatements t)) _ inside
    (until_brace_follows statements_piece level.item (block_item inner) event.NoStatements (λ row count pieces. refl) (λ done. block_item_agrees agrees done)) (still_write _ (still_leave still_lost)) (λ body bodies last final further.
    let end = ended_leave further in
    let number = left_is end in
    read_ends (ended_levels (total bodies) (ended_write (event.FunctionItem storage _) (λ pieces i. shop last.expressions (piece.Item (item.Function type storage head body (place_at s.row (number i - 1))) ∷ pieces)) end)))))

-- A function's definition.
definition_with_agrees : {level : Level} {inner : Inner} {s t : State} {more before : ℕ} {context : Context} (type : TypeSpec) (storage : Storage) (name : Terminal) (at stars : ℕ) (row : List Terminal) → SoundLevel level → LevelAgrees level inner
    → token_at s.row at ≡ name
    → Ended s t none (λ pieces. piece.Type type ∷ pieces) s.levels more before context row
    → Agreed none item_piece ends s.levels before
    (after_mark (codes "(") row outcome.Nothing (opened_then level context stars (λ head heads within end.
    after_mark (codes "{") end outcome.Nothing (λ opening others.
    then_read (read_until_brace level.item (length others + 1) (in_body head.name (declares_typedef storage) within) others) (λ body bodies last end.
    after_mark (codes "}") end outcome.Nothing (λ closing final.
    outcome.Read (item.Function type storage head.declared body closing.place) (max more (max heads bodies)) (leaving last) final)))) name)) s
    (definition_with inner storage at stars t)
unfolding definition_with
definition_with_agrees {level} {inner} {s} {t} {more} {before} {context} type storage name at stars row sound agrees is far =
    then_mark (codes "(") row _ (ended_write event.NoDeclarators (λ pieces. refl) far) (still_definition_body inner storage at (still_write _ (still_parameters inner still_lost))) (λ opening others opens at_opening behind_opening.
    then_ends (λ pieces. piece.Declarators [] ∷ (piece.Type type ∷ pieces)) (read_parameters level) (parameters inner) _ behind_opening (parameters_agree agrees) (still_definition_body inner storage at (still_write _ still_lost)) (λ params heads within end further.
    body_agrees type storage name at (tree.function name stars params) end (λ bodies. max more (max heads bodies)) sound agrees is (λ bodies. omega arith)
    (ended_write (event.Function at stars) (λ pieces i. shop within.expressions (piece.Declarators (tree.function (is i) stars params ∷ []) ∷ (piece.Type type ∷ pieces))) further)))

still_definition_behind : {u v : State} (inner : Inner) (storage : Storage) → Still Nothing u v → Still Nothing u (definition_behind inner storage v)
unfolding definition_behind
still_definition_behind inner storage still = still_goes _ still

definition_behind_agrees : {level : Level} {inner : Inner} {s u : State} {more before : ℕ} {context : Context} (type : TypeSpec) (storage : Storage) (row : List Terminal) → SoundLevel level → LevelAgrees level inner
    → Ended s u none (λ pieces. piece.Type type ∷ pieces) s.levels more before context row
    → Agreed none item_piece ends s.levels before
    (then_read (read_head level context row) (λ head heads within end.
    after_mark (codes "{") end outcome.Nothing (λ opening others.
    then_read (read_until_brace level.item (length others + 1) (in_body head.name (declares_typedef storage) within) others) (λ body bodies last end.
    after_mark (codes "}") end outcome.Nothing (λ closing final.
    outcome.Read (item.Function type storage head.declared body closing.place) (max more (max heads bodies)) (leaving last) final))))) s
    (definition_behind inner storage u)
unfolding definition_behind
definition_behind_agrees {level} {inner} {s} {u} {more} {before} {context} type storage row sound agrees far =
    agreed_outcome (head_then level context row _)
    (agreed_goes u u far.status
    (agreed_at (ap (λ (row : List Terminal). definition_named inner storage (star_count row) (skipped (star_count row) u)) far.left)
    (if_first is_name (behind_stars row) _ _ (ended_stars far)
    (λ none. lost_here (ended_stars far) still_lost)
    (λ name others named at_name behind_name.
    definition_with_agrees type storage name _ (star_count row) others sound agrees (ended_token at_name) behind_name))))

definition_agrees : {level : Level} {inner : Inner} → SoundLevel level → LevelAgrees level inner → Follows item_piece ends (read_function level) (definition inner)
unfolding read_function definition
definition_agrees {level} {inner} sound agrees s before is =
    then_specifiers (rest s) _ agrees (ended_part s none before is) (still_definition_behind inner _ still_lost) (λ type storage more behind others same far.
    agreed_at (ap (λ (storage : Storage). definition_behind inner storage (specifiers inner s)) same)
    (definition_behind_agrees type storage others sound agrees (ended_levels (omega arith) far)))

-- a declaration, or a function, or nothing but a `;`
pub external_agrees : {level : Level} {inner : Inner} → SoundLevel level → LevelAgrees level inner → Follows item_piece ends (read_external level) (external inner)
unfolding read_external external
external_agrees {level} {inner} sound agrees s before is =
    let far = ended_part s none before is in
    agreed_goes s s is.status
    (if_behind (is_mark (codes ";")) (rest s) (λ others. outcome.Read item.Empty 0 (context_of s before) others) _ far
    (λ some. agreed_test (ends_with_brace (rest s)) (ends_with_brace (rest s)) _ _ refl
    (λ brace. definition_agrees sound agrees s before is)
    (λ plain. then_passes none (read_declaration level) (declaration inner) _ far (declaration_agrees agrees) (still_write _ still_lost) (λ decl levels behind others further passed.
    read_ends (ended_levels (omega arith) (ended_write event.DeclareItem (λ pieces. refl) further)))))
    (λ semicolon others is at_semicolon behind_semicolon. read_ends (ended_write event.EmptyItem (λ pieces. refl) behind_semicolon)))
