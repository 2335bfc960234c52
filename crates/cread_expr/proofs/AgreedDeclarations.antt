-- Declarators and declarations.
use Rattle.std.proofs.Common.{◌≡◌, ℕ, suc, ◌+◌, ◌<◌, max, Bool, true, List, [], ◌∷◌, ◌++◌, drop, length, codes, None, Some, refl, ap, arith, length-drop}
use Rattle.cbase.specs.declared.tree.decl.Decl.{Decl}
use Rattle.cbase.specs.declared.tree.decl.Declared.{Declared}
use Rattle.cbase.specs.declared.tree.decl.Storage.{Storage}
use Rattle.cbase.specs.declared.tree.spec.TypeSpec.{TypeSpec}
use Rattle.cevents.specs.Workshop.{token_at}
use Rattle.cevents.specs.declared.event.Event.TheVariants as event
use Rattle.cevents.specs.declared.piece.Piece.TheVariants as piece
use Rattle.cgrammar.specs.Outcomes as outcome
use Rattle.cgrammar.specs.Phrases.{Context}
use Rattle.cgrammar.specs.ReadDeclarations.{read_parameters, read_declarator, read_declaration}
use Rattle.cgrammar.specs.ReadDeclarations as reader
use Rattle.cgrammar.specs.ReadLevels.{Level, read_list}
use Rattle.cgrammar.specs.ReadTypes.{star_count, behind_stars, never}
use Rattle.cgrammar.specs.Terminals.{Terminal, is_mark, is_name}
use Rattle.cgrammar.specs.Trees as tree
use Rattle.cgrammar.specs.TypeWords.{declares_typedef}
use Rattle.cparser.specs.DeclarationSteps.{specifiers, parameters, object_behind, declarator_behind, declarator, declarators, declaration_behind, declaration}
use Rattle.cparser.specs.State.{State, rest}
use Rattle.cparser.specs.Steps.{Inner, all_parts}
use Rattle.cparser.specs.TypeSteps.{all_sizes}
use Rattle.cparser.specs.declared.status.Status.TheVariants.{Going, Nothing}
use Rattle.cparser.specs.declared.wanted.Wanted.TheVariants as wanted
use Rattle.cread_expr.proofs.Agreed.{shop, Pieces, none, Ended, Agreed, Ready, Continues, ends, context_of, LevelAgrees}
use Rattle.cread_expr.proofs.AgreedRules.{agreed_read, agreed_at, agreed_goes, if_first, then_asked, then_ends, then_mark}
use Rattle.cread_expr.proofs.AgreedSteps.{Still, still_lost, still_goes, still_mark, still_write, still_declare, still_leave, ended_levels, ended_part, ended_skip, ended_token, ended_write, ended_leave, ended_declare}
use Rattle.cread_expr.proofs.AgreedTypesFields.{all_parts_agree}
use Rattle.cread_expr.proofs.AgreedTypesSizes.{read_ends, lost_here, ended_stars, then_sizes}
use Rattle.cread_expr.proofs.AgreedDeclarationsParameters.{then_specifiers, parameters_agree}

abbrev pub declarators_piece : List Declared → Pieces
declarators_piece names pieces = piece.Declarators names ∷ pieces

-- a declared object, with its initialiser or none
object_agrees : {level : Level} {inner : Inner} {s t : State} {base before : ℕ} {context : Context} (done : List Declared) (typedef : Bool) (name : Terminal) (at stars : ℕ) (row : List Terminal) → LevelAgrees level inner
    → token_at s.row at ≡ name
    → Ended s t (declarators_piece done) (declarators_piece done) base 0 before context row
    → Agreed (declarators_piece done) (λ name. declarators_piece (done ++ name ∷ [])) ends base before (reader.object_behind level typedef name stars context row) s (object_behind inner typedef at stars (all_sizes inner true t))
unfolding object_behind
object_agrees {level} {inner} {s} {t} done typedef name at stars row agrees named far =
    then_sizes _ agrees far (still_goes _ still_lost) (λ sizes more behind others further.
    agreed_goes (all_sizes inner true t) (all_sizes inner true t) further.status
    (if_first (is_mark (codes "=")) others _ _ further
    (λ plain. read_ends (ended_levels (omega arith) (ended_declare at name.bytes typedef (λ i. (named i).bytes)
    (ended_write (event.Object at stars) (λ pieces i. shop behind.expressions (piece.Declarators (done ++ tree.object (named i) stars sizes None ∷ []) ∷ pieces)) further))))
    (λ equals end is at_equals behind_equals.
    then_asked (λ pieces. piece.Sizes sizes ∷ (piece.Declarators done ∷ pieces)) level.initializer inner wanted.Initializer _ (ended_declare at name.bytes typedef (λ i. (named i).bytes) behind_equals) agrees.initializer (still_write _ still_lost) (λ init inits last left beyond.
    read_ends (ended_levels (omega arith)
    (ended_write (event.InitializedObject at stars) (λ pieces i. shop last.expressions (piece.Declarators (done ++ tree.object (named i) stars sizes (Some init) ∷ []) ∷ pieces)) beyond))))))

pub declarator_agrees : {level : Level} {inner : Inner} (typedef : Bool) (done : List Declared) → LevelAgrees level inner
    → Continues (declarators_piece done) (λ name. declarators_piece (done ++ name ∷ [])) ends (read_declarator level typedef) (declarator inner typedef)
unfolding read_declarator declarator declarator_behind
declarator_agrees {level} {inner} typedef done agrees s before is =
    let far = ended_stars (ended_part s (declarators_piece done) before is) in
    agreed_goes s s is.status
    (if_first is_name (behind_stars (rest s)) _ _ far
    (λ none. lost_here far still_lost)
    (λ name others named at_name behind_name.
    if_first (is_mark (codes "(")) others _ _ behind_name
    (λ object. object_agrees done typedef name _ (star_count (rest s)) others agrees (ended_token at_name) behind_name)
    (λ opening more is at_opening behind_opening.
    then_ends (declarators_piece done) (read_parameters level) (parameters inner) _ behind_opening (parameters_agree agrees) (still_declare _ _ (still_write _ (still_leave still_lost))) (λ params levels within end further.
    read_ends (ended_levels (omega arith) (ended_declare _ name.bytes typedef (λ i. (ended_token at_name i).bytes)
    (ended_write (event.Function _ (star_count (rest s))) (λ pieces i. shop within.expressions (piece.Declarators (done ++ tree.function (ended_token at_name i) (star_count (rest s)) params ∷ []) ∷ pieces)) (ended_leave further))))))))

-- Declarations.
abbrev pub declaration_piece : Decl → Pieces
declaration_piece decl pieces = piece.Declaration decl ∷ pieces

-- over a token a reader comes further
further_on : {s u t : State} {below one other : Pieces} {base levels deep before : ℕ} {context behind : Context} {first : Terminal} {others : List Terminal}
    → Ended s u below one base levels before context (first ∷ others) → Ended s t below other base deep before behind others → s.at < t.at
further_on {s} {u} {t} {first} {others} one other =
    let left_one : length (drop u.at u.row) ≡ suc (length others) = ap (λ (row : List Terminal). length row) one.left in
    let left_other : length (drop t.at t.row) ≡ length others = ap (λ (row : List Terminal). length row) other.left in
    let long_one : length u.row ≡ length s.row = ap (λ (row : List Terminal). length row) one.went.row in
    let long_other : length t.row ≡ length s.row = ap (λ (row : List Terminal). length row) other.went.row in
    let fewer_one = length-drop u.at u.row in
    let fewer_other = length-drop t.at t.row in
    let on = one.on in
    let inside = other.inside in
    omega (arith, left_one, left_other, long_one, long_other, fewer_one, fewer_other, on, inside)

-- a declaration has a token at least
abbrev pub goes_on : State → Decl → State → Type 0
goes_on s decl t = (t.status ≡ Going) × (s.at < t.at)

still_declaration_behind : {u v : State} (inner : Inner) (storage : Storage) → Still Nothing u v → Still Nothing u (declaration_behind inner storage v)
unfolding declaration_behind
still_declaration_behind inner storage still = still_goes _ still

declaration_behind_agrees : {level : Level} {inner : Inner} {s u : State} {base more before : ℕ} {context : Context} (type : TypeSpec) (storage : Storage) (row : List Terminal) → LevelAgrees level inner
    → Ended s u none (λ pieces. piece.Type type ∷ pieces) base more before context row
    → Agreed none declaration_piece (goes_on s) base before
    (outcome.after_mark (codes ";") row
    (outcome.then_read (read_list never (read_declarator level (declares_typedef storage)) (length row + 1) context row) (λ names others last end.
    outcome.after_mark (codes ";") end outcome.Nothing (λ semicolon left. outcome.Read (tree.declaration storage type names) (max more others) last left)))
    (λ semicolon end. outcome.Read (tree.declaration storage type []) more context end)) s (declaration_behind inner storage u)
unfolding declaration_behind declarators
declaration_behind_agrees {level} {inner} {s} {u} type storage row agrees far =
    agreed_goes u u far.status
    (if_first (is_mark (codes ";")) row _ _ far
    (λ some. then_ends (λ pieces. piece.Type type ∷ pieces) (λ context row. read_list never (read_declarator level (declares_typedef storage)) (length row + 1) context row) (all_parts never (declarator inner (declares_typedef storage))) _ (ended_write event.NoDeclarators (λ pieces. refl) far)
    (all_parts_agree declarators_piece never (read_declarator level (declares_typedef storage)) (declarator inner (declares_typedef storage)) (λ done. declarator_agrees (declares_typedef storage) done agrees)) (still_write _ (still_mark _ still_lost)) (λ names levels last end further.
    then_mark (codes ";") end _ further (still_write _ still_lost) (λ semicolon left is at_semicolon behind_semicolon.
    let last_far = ended_write (event.Declaration storage) (λ pieces. refl) behind_semicolon in
    agreed_read last_far (last_far.status, further_on at_semicolon last_far))))
    (λ semicolon end is at_semicolon behind_semicolon.
    let last_far = ended_write (event.Declaration storage) (λ pieces. refl) (ended_skip (ended_write event.NoDeclarators (λ pieces. refl) at_semicolon)) in
    agreed_read last_far (last_far.status, further_on at_semicolon last_far)))

pub declaration_agrees : {level : Level} {inner : Inner} → LevelAgrees level inner
    → (s : State) (before : ℕ) → Ready s → Agreed none declaration_piece (goes_on s) s.levels before (read_declaration level (context_of s before) (rest s)) s (declaration inner s)
unfolding read_declaration declaration
declaration_agrees {level} {inner} agrees s before is =
    then_specifiers (rest s) _ agrees (ended_part s none before is) (still_declaration_behind inner _ still_lost) (λ type storage more behind others same far.
    agreed_at (ap (λ (storage : Storage). declaration_behind inner storage (specifiers inner s)) same)
    (declaration_behind_agrees type storage others agrees (ended_levels (omega arith) far)))
