-- Blocks, expressions that may be left out, and clauses: the steps come to what the reader function gives (C11 6.8).
use Rattle.std.proofs.Common.{◌≡◌, ℕ, suc, ◌+◌, ◌-◌, ◌≤◌, ◌<◌, max, Bool, true, false, List, [], ◌∷◌, ◌++◌, length, drop, Option, None, Some, codes, refl, ap, sym, ◌∙◌, subst, arith}
use Rattle.std.proofs.lemmas.List.{length-drop}
use Rattle.std.specs.Prelude.{if◌then◌else◌}
use Rattle.cbase.specs.declared.tree.expr.Expr.{Expr}
use Rattle.cbase.specs.declared.tree.stmt.Stmt.{Stmt}
use Rattle.cbase.specs.declared.tree.stmt.StmtForm.TheVariants.{Declare, Eval}
use Rattle.cevents.specs.Workshop.{place_at}
use Rattle.cevents.specs.declared.event.Event.TheVariants as event
use Rattle.cevents.specs.declared.piece.Piece.TheVariants as piece
use Rattle.cgrammar.specs.Firsts.{begins_declaration}
use Rattle.cgrammar.specs.FrontOf.{front_of}
use Rattle.cgrammar.specs.Grammar.{inside}
use Rattle.cgrammar.specs.Outcomes.{Outcome, Reader, then_read, has_first, behind_first}
use Rattle.cgrammar.specs.Outcomes as outcome
use Rattle.cgrammar.specs.Phrases.{Context}
use Rattle.cgrammar.specs.ReadDeclarations.{leaving, read_declaration}
use Rattle.cgrammar.specs.ReadLevels.{Level, read_until_brace}
use Rattle.cgrammar.specs.ReadStatements.{read_block, read_maybe, read_clause, declared_statement as read_declared, expression_statement as read_evaluated}
use Rattle.cgrammar.specs.Scope.{left}
use Rattle.cgrammar.specs.Terminals.{Terminal, is_mark, first_place, last_place}
use Rattle.cgrammar.specs.Trees.{statement as statement_of}
use Rattle.cparser.specs.DeclarationSteps.{declaration}
use Rattle.cparser.specs.State.{State, rest, goes, with_scope}
use Rattle.cparser.specs.StatementSteps.{block_item, block_items, block, maybe, declared, declared_statement, evaluated, expression_statement, clause}
use Rattle.cparser.specs.Steps.{Inner, leave, parts_until_brace}
use Rattle.cparser.specs.declared.status.Status.TheVariants.{Going, Stopped, Nothing}
use Rattle.cparser.specs.declared.wanted.Wanted.TheVariants as wanted
use Rattle.cread_expr.proofs.Agreed.{Pieces, none, shop, Ended, Agreed, Ready, Reads, Follows, Continues, ends, anyhow, context_of, statement_piece, statements_piece, LevelAgrees}
use Rattle.cread_expr.proofs.AgreedDeclarations.{declaration_agrees}
use Rattle.cread_expr.proofs.AgreedEntire.{entirely, entirely_asked, agreed_then, agreed_write}
use Rattle.cread_expr.proofs.AgreedLists.{over_brace, then_brace, still_braces, braced_agree}
use Rattle.cread_expr.proofs.AgreedPlaces.{first_of_front, last_of_front, place_first}
use Rattle.cread_expr.proofs.AgreedRules.{agreed_read, agreed_outcome, agreed_goes, agreed_lost, agreed_test, from_there, from_here, then_asked, then_mark, if_first}
use Rattle.cread_expr.proofs.AgreedSteps.{kept_ended, failed_then, Still, still_lost, still_mark, still_write, still_make, still_leave, still_enter, ready, ended_part, ended_none, ended_then, ended_levels, ended_token, ended_write, ended_make, ended_enter, ended_leave}
use Rattle.cread_expr.proofs.AgreedTypesSizes.{read_ends}

abbrev pub maybe_piece : Option Expr → Pieces
maybe_piece expr pieces = piece.Maybe expr ∷ pieces

-- a part of at least one token, behind which the reading does not stop
abbrev pub passes : {A : Type 0} → State → A → State → Type 0
passes s tree t = (t.status ≡ Going) × (s.at < t.at)

abbrev pub Passes : {A : Type 0} → (A → Pieces) → Reader A → (State → State) → Type 0
Passes above reader steps =
    (s : State) (before : ℕ) → Ready s → Agreed none above (passes s) s.levels before (reader (context_of s before) (rest s)) s (steps s)

pub as_anyhow : {A : Type 0} {s t : State} {below : Pieces} {above : A → Pieces} {fits : A → State → Type 0} {base before : ℕ} (outcome : Outcome A)
    → Agreed below above fits base before outcome s t → Agreed below above anyhow base before outcome s t
as_anyhow outcome.Nothing is = record { is = is.is }
as_anyhow (outcome.Stopped tree expressions others) is = record { is = (is.is.0, tt) }
as_anyhow (outcome.Read tree levels behind others) is = record { is = (is.is.0, tt) }

-- how far a state is
at_is : {s t : State} {below above : Pieces} {base levels before : ℕ} {behind : Context} {others : List Terminal}
    → Ended s t below above base levels before behind others → length others + t.at ≡ length s.row
at_is {s} {t} {others} far =
    let left : length (drop t.at t.row) ≡ length others = ap (λ (row : List Terminal). length row) far.left in
    let row : length t.row ≡ length s.row = ap (λ (row : List Terminal). length row) far.went.row in
    let inside : t.at ≤ length t.row = far.inside in
    counted t.at (length t.row) (length s.row) (length others) inside (sym (length-drop t.at t.row) ∙ left) row
  where
    counted : (at found whole others : ℕ) → at ≤ found → found - at ≡ others → found ≡ whole → others + at ≡ whole
    counted at found whole others inside left row = omega (arith, inside, left, row)

-- the token before a state is the one that it went over
pub place_taken : {s t u : State} {below above lower upper : Pieces} {base levels more before : ℕ} {behind last : Context} {first : Terminal} {others : List Terminal}
    → Ended s t below above base levels before behind (first ∷ others) → Ended s u lower upper base more before last others → place_at s.row (u.at - 1) ≡ first.place
place_taken {s} {t} {u} {first} {others} far there =
    let token = ended_token far in
    ap (λ (at : ℕ). place_at s.row at) (next t.at u.at (length others) (length s.row) (at_is far) (at_is there)) ∙ ap (λ (token : Terminal). token.place) token
  where
    next : (one other left whole : ℕ) → suc left + one ≡ whole → left + other ≡ whole → other - 1 ≡ one
    next one other left whole first second = omega (arith, first, second)

-- the token before a state is the last of those that a part took
pub place_last : {s t u : State} {below above lower upper : Pieces} {base levels more before : ℕ} {behind last : Context} {row others : List Terminal}
    → Ended s t below above base levels before behind row → Ended s u lower upper base more before last others → t.at < u.at
    → place_at s.row (u.at - 1) ≡ last_place (front_of row others)
place_last {s} {t} {u} {others} far there further =
    let within : u.at ≤ length s.row = subst (λ (row : List Terminal). u.at ≤ length row) there.went.row there.inside in
    let left : drop u.at s.row ≡ others = ap (λ (row : List Terminal). drop u.at row) (sym there.went.row) ∙ there.left in
    sym (last_of_front t.at u.at s.row others further within left)
    ∙ ap (λ (row : List Terminal). last_place (front_of row others)) (ap (λ (row : List Terminal). drop t.at row) (sym far.went.row) ∙ far.left)

-- and the one at the place of the first of these states is their first
pub place_front : {s t u : State} {below above lower upper : Pieces} {base levels more before : ℕ} {behind last : Context} {row others : List Terminal}
    → Ended s t below above base levels before behind row → Ended s u lower upper base more before last others → t.at < u.at
    → place_at s.row t.at ≡ first_place (front_of row others)
place_front {s} {t} {u} {others} far there further =
    let within : u.at ≤ length s.row = subst (λ (row : List Terminal). u.at ≤ length row) there.went.row there.inside in
    let left : drop u.at s.row ≡ others = ap (λ (row : List Terminal). drop u.at row) (sym there.went.row) ∙ there.left in
    sym (first_of_front t.at u.at s.row others further within left)
    ∙ ap (λ (row : List Terminal). first_place (front_of row others)) (ap (λ (row : List Terminal). drop t.at row) (sym far.went.row) ∙ far.left)

-- a part of at least one token, behind which more has to follow
pub then_passes : {A B : Type 0} {s t v : State} {below : Pieces} {upper : A → Pieces} {above : B → Pieces} {fits : B → State → Type 0} {base levels before : ℕ} {context : Context} {row : List Terminal}
    (under : Pieces) (reader : Reader A) (steps : State → State) (go : A → ℕ → Context → List Terminal → Outcome B)
    → Ended s t below under base levels before context row
    → Passes upper reader steps
    → Still Nothing (steps t) v
    → ((tree : A) (more : ℕ) (behind : Context) (others : List Terminal) → Ended s (steps t) below (λ pieces. upper tree (under pieces)) base (max levels more) before behind others → t.at < (steps t).at
    → Agreed below above fits base before (go tree more behind others) s v)
    → Agreed below above fits base before (then_read (reader context row) go) s v
then_passes {A} {s} {t} {v} {below} {upper} {above} {fits} {base} {before} {context} {row} under reader steps go far agrees still next =
    case (reader context row) (from_there reader far (agrees t context.expressions (ready far)))
  where
    case : (outcome : Outcome A) → Agreed none upper (passes t) t.levels context.expressions outcome t (steps t) → Agreed below above fits base before (then_read outcome go) s v
    case outcome.Nothing is = agreed_lost (failed_then (kept_ended far) is.is) still
    case (outcome.Stopped tree expressions others) is = let wrong : Stopped ≡ Going = sym is.is.0.status ∙ is.is.1.0 in cc wrong
    case (outcome.Read tree more behind others) is = next tree more behind others (ended_then under far is.is.0) is.is.1.1

-- A block.
at_left : (s : State) → (leave s).at ≡ s.at
unfolding leave
at_left s = step (goes s)
  where
    step : (test : Bool) → (if test then with_scope (left s.scope) s else s).at ≡ s.at
    step true = refl
    step false = refl

pub block_item_agrees : {level : Level} {inner : Inner} → LevelAgrees level inner → (done : List Stmt)
    → Continues (statements_piece done) (λ tree. statements_piece (done ++ tree ∷ [])) ends (entirely level.item) (block_item inner)
unfolding block_item
block_item_agrees {level} {inner} agrees done s before is =
    agreed_write event.Statement (λ tree count pieces. refl) (agreed_then (statements_piece done) (ended_part s (statements_piece done) before is) (entirely_asked level.item inner wanted.Item agrees.item s before is))

pub block_agrees : {level : Level} {inner : Inner} → LevelAgrees level inner → Passes statements_piece (read_block level) (block inner)
unfolding read_block block block_items
block_agrees {level} {inner} agrees s before is =
    then_mark (codes "{") (rest s) _ (ended_part s none before is) (still_leave (still_braces _ _ (still_enter (still_write _ still_lost)))) (λ opening others found here far.
    inside_braces opening others here _ (ended_enter (ended_write event.NoStatements (λ pieces. refl) far)))
  where
    further : (one middle other left whole : ℕ) → suc left + one ≡ whole → left + middle ≡ whole → middle ≤ other → one < other
    further one middle other left whole first second on = omega (arith, first, second, on)

    case : (opening : Terminal) (others : List Terminal) → Ended s s none none s.levels 0 before (context_of s before) (opening ∷ others)
        → (t u : State) → Ended s t none (statements_piece []) s.levels 0 before (inside (context_of s before)) others
        → (found : Outcome (List Stmt)) → Agreed (statements_piece []) statements_piece ends t.levels before found t u
        → Agreed none statements_piece (passes s) s.levels before (then_read found (λ body levels within left. outcome.Read body levels (leaving within) left)) s (leave u)
    case opening others here t u far outcome.Nothing is = agreed_lost (failed_then (kept_ended far) is.is) (still_leave still_lost)
    case opening others here t u far (outcome.Stopped body expressions left) is = let wrong : Stopped ≡ Going = sym is.is.0.status ∙ is.is.1 in cc wrong
    case opening others here t u far (outcome.Read body levels within left) is =
        let there : Ended s (leave u) none (statements_piece body) s.levels levels before (leaving within) left =
        ended_leave (ended_levels (omega arith) (ended_then none far is.is.0)) in
        let strictly : s.at < u.at = further s.at t.at u.at (length others) (length s.row) (at_is here) (at_is far) is.is.0.on in
        agreed_read there (there.status, subst (λ (at : ℕ). s.at < at) (sym (at_left u)) strictly)

    inside_braces : (opening : Terminal) (others : List Terminal) → Ended s s none none s.levels 0 before (context_of s before) (opening ∷ others)
        → (t : State) → Ended s t none (statements_piece []) s.levels 0 before (inside (context_of s before)) others
        → Agreed none statements_piece (passes s) s.levels before
        (then_read (read_until_brace level.item (length others + 1) (inside (context_of s before)) others) (λ body levels within left. outcome.Read body levels (leaving within) (behind_first left))) s
        (leave (parts_until_brace (block_item inner) (length (rest t) + 1) t))
    inside_braces opening others here t far =
        let count : ℕ = length (rest t) + 1 in
        agreed_outcome (ap (λ (row : List Terminal). then_read (read_until_brace level.item (length row + 1) (inside (context_of s before)) others) (λ body levels within left. outcome.Read body levels (leaving within) (behind_first left))) (sym far.left)
        ∙ then_brace (read_until_brace level.item count (inside (context_of s before)) others) (λ body levels within left. outcome.Read body levels (leaving within) left))
        (case opening others here t _ far _
        (from_here (over_brace (read_until_brace level.item count)) (parts_until_brace (block_item inner) count) far
        (braced_agree statements_piece level.item (block_item inner) (block_item_agrees agrees) count [])))

-- an expression that may be left out
pub maybe_agrees : {level : Level} {inner : Inner} → LevelAgrees level inner → (test : Terminal → Bool) → Follows maybe_piece ends (read_maybe level test) (maybe inner test)
unfolding read_maybe maybe
maybe_agrees {level} {inner} agrees test s before is =
    agreed_goes s s is.status (agreed_test (has_first test (rest s)) (has_first test (rest s)) _ _ refl
    (λ yes. read_ends (ended_write event.NoExpression (λ pieces. refl) (ended_part s none before is)))
    (λ no. then_asked none level.expression inner wanted.Expression _ (ended_part s none before is) agrees.expression (still_write _ still_lost) (λ expr more behind others far.
    read_ends (ended_levels (omega arith) (ended_write event.OneExpression (λ pieces. refl) far)))))

-- A declaration as a statement.
pub declared_agrees : {level : Level} {inner : Inner} → LevelAgrees level inner → Reads statement_piece ends (read_declared level) (declared_statement inner)
unfolding declared_statement declared
declared_agrees {level} {inner} agrees s before is none_before =
    let start = ended_none s none before is none_before in
    then_passes none (read_declaration level) (declaration inner) _ start (declaration_agrees agrees) (still_make _ still_lost) (λ decl levels behind others far further.
    let first = place_front start far further in
    let last = place_last start far further in
    read_ends (ended_levels (omega arith) (ended_make _ (λ pieces i. shop behind.expressions (piece.Statement (statement_of (first i) (last i) (Declare decl)) ∷ pieces)) far)))

-- An expression with its `;`.
pub evaluated_agrees : {level : Level} {inner : Inner} → LevelAgrees level inner → Reads statement_piece ends (read_evaluated level) (expression_statement inner)
unfolding expression_statement evaluated
evaluated_agrees {level} {inner} agrees s before is none_before =
    let first : place_at s.row s.at ≡ first_place (rest s) = place_first s.at s.row in
    then_asked none level.expression inner wanted.Expression _ (ended_none s none before is none_before) agrees.expression (still_make _ (still_mark _ (still_write _ still_lost))) (λ expr more behind others far.
    then_mark (codes ";") others _ (ended_write event.OneExpression (λ pieces. refl) far) (still_make _ still_lost) (λ semicolon end found here there.
    let last = place_taken here there in
    read_ends (ended_levels (omega arith) (ended_make _ (λ pieces i. shop behind.expressions (piece.Statement (statement_of (first i) (last i) (Eval (Some expr))) ∷ pieces)) there))))

pub clause_agrees : {level : Level} {inner : Inner} → LevelAgrees level inner → Reads statement_piece ends (read_clause level) (clause inner)
unfolding read_clause clause
clause_agrees {level} {inner} agrees s before is none_before =
    agreed_goes s s is.status (agreed_test (has_first (begins_declaration s.scope) (rest s)) (has_first (begins_declaration s.scope) (rest s)) _ _ refl
    (λ begins. declared_agrees agrees s before is none_before)
    (λ other. if_first (is_mark (codes ";")) (rest s) _ _ (ended_none s none before is none_before)
    (λ some. evaluated_agrees agrees s before is none_before)
    (λ semicolon others found here far.
    let place = ended_token here in
    read_ends (ended_levels (omega arith) (ended_make (event.Eval s.at s.at) (λ pieces i. shop before (piece.Statement (statement_of (place i).place (place i).place (Eval None)) ∷ pieces))
    (ended_write event.NoExpression (λ pieces. refl) far))))))
