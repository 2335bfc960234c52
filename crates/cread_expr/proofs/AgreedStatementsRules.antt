-- The statements that begin with a word (C11 6.8.4 to 6.8.6).
use Rattle.std.proofs.Common.{◌≡◌, ℕ, ◌-◌, max, Bool, true, false, ◌&&◌, List, ◌∷◌, None, Some, codes, refl, ap, ◌∙◌, subst, arith}
use Rattle.std.specs.Prelude.{if◌then◌else◌}
use Rattle.cbase.specs.declared.place.Place.{Place}
use Rattle.cbase.specs.declared.tree.expr.Expr.{Expr}
use Rattle.cbase.specs.declared.tree.stmt.Stmt.{Stmt}
use Rattle.cbase.specs.declared.tree.stmt.StmtForm.TheVariants.{If, While, Do, For, Break, Continue, Return}
use Rattle.cevents.specs.Workshop.{place_at}
use Rattle.cevents.specs.declared.event.Event.TheVariants as event
use Rattle.cevents.specs.declared.piece.Piece.TheVariants as piece
use Rattle.cgrammar.specs.Grammar.{inside}
use Rattle.cgrammar.specs.Outcomes.{Outcome, then_read, after_mark, has_first}
use Rattle.cgrammar.specs.Outcomes as outcome
use Rattle.cgrammar.specs.Phrases.{Context}
use Rattle.cgrammar.specs.ReadDeclarations.{leaving}
use Rattle.cgrammar.specs.ReadLevels.{Level}
use Rattle.cgrammar.specs.ReadStatements.{read_maybe, read_if, read_while, read_do, read_for, read_return, untyped as read_untyped, substatement as read_substatement, otherwise_behind as read_otherwise}
use Rattle.cgrammar.specs.Terminals.{Terminal, is_mark, is_word, begins_with_typedef}
use Rattle.cgrammar.specs.Trees.{statement as statement_of}
use Rattle.cparser.specs.State.{State, rest, is_going, goes, lost}
use Rattle.cparser.specs.StatementSteps.{maybe, untyped, tested, substatement, otherwise_behind, if_tested, if_behind, while_tested, while_behind, done, do_tested, do_behind, for_closed, for_next, for_behind, broken, break_behind, continued, continue_behind, returned, return_behind}
use Rattle.cparser.specs.Steps.{Inner, ask_whole, leave}
use Rattle.cparser.specs.declared.status.Status.TheVariants.{Nothing}
use Rattle.cparser.specs.declared.wanted.Wanted.TheVariants as wanted
use Rattle.ctokens.proofs.Choices.{chosen_yes, chosen_no}
use Rattle.cread_expr.proofs.Agreed.{Pieces, none, shop, Ended, Agreed, ends, statement_piece, LevelAgrees}
use Rattle.cread_expr.proofs.AgreedLists.{failed_lost}
use Rattle.cread_expr.proofs.AgreedRules.{agreed_at, agreed_lost, agreed_outcome, then_ends, then_asked, then_mark, then_word, if_first}
use Rattle.cread_expr.proofs.AgreedStatements.{maybe_agrees, place_taken}
use Rattle.cread_expr.proofs.AgreedSteps.{kept_ended, failed_then, if_going, Still, still_lost, still_through, still_goes, still_mark, still_word, still_make, still_enter, still_leave, still_ask_whole, ended_at, ended_levels, ended_make, ended_enter, ended_leave}
use Rattle.cread_expr.proofs.AgreedTypesSizes.{read_ends}

-- an expression behind a `(`, where no name of a typedef stands
still_untyped : {u v : State} (inner : Inner) → Still Nothing u v → Still Nothing u (untyped inner v)
unfolding untyped
still_untyped {u} {v} inner still = record {
  idle = refl;
  same = λ is.
      let same : v ≡ u = still.same is in
      let idle : goes v ≡ false = ap (λ (s : State). goes s) same ∙ ap (λ status. is_going status) is in
      chosen_no (goes v && begins_with_typedef v.scope (rest v)) (lost v) (ask_whole inner wanted.Expression v) (ap (λ (test : Bool). test && begins_with_typedef v.scope (rest v)) idle)
      ∙ (still_ask_whole inner wanted.Expression still).same is;
}

then_untyped : {B : Type 0} {level : Level} {inner : Inner} {s t v : State} {below under : Pieces} {above : B → Pieces} {fits : B → State → Type 0} {base levels before : ℕ} {context : Context}
    (row : List Terminal) (go : Expr → ℕ → Context → List Terminal → Outcome B)
    → LevelAgrees level inner
    → Ended s t below under base levels before context row
    → Still Nothing (untyped inner t) v
    → ((tree : Expr) (more : ℕ) (behind : Context) (others : List Terminal) → Ended s (untyped inner t) below (λ pieces. piece.Expr tree ∷ under pieces) base (max levels more) before behind others
    → Agreed below above fits base before (go tree more behind others) s v)
    → Agreed below above fits base before (then_read (read_untyped level context row) go) s v
unfolding untyped
then_untyped {B} {level} {inner} {s} {t} {v} {below} {under} {above} {fits} {base} {levels} {before} {context} row go agrees far still next =
    tested (begins_with_typedef context.scope row) refl
  where
    same : begins_with_typedef t.scope (rest t) ≡ begins_with_typedef context.scope row
    same i = begins_with_typedef (far.scope i) (far.left i)

    test_is : (is : Bool) → begins_with_typedef context.scope row ≡ is → (goes t && begins_with_typedef t.scope (rest t)) ≡ is
    test_is answer is = ap (λ (goes : Bool). goes && begins_with_typedef t.scope (rest t)) (ap (λ status. is_going status) far.status) ∙ (same ∙ is)

    tested : (is : Bool) → begins_with_typedef context.scope row ≡ is
        → Agreed below above fits base before (then_read (if is then outcome.Nothing else level.expression context row) go) s v
    tested true is =
        let lose : untyped inner t ≡ lost t = chosen_yes _ (lost t) (ask_whole inner wanted.Expression t) (test_is true is) in
        agreed_lost (failed_then (kept_ended far) (failed_lost t)) (subst (λ (u : State). Still Nothing u v) lose still)
    tested false is =
        let asks : untyped inner t ≡ ask_whole inner wanted.Expression t = chosen_no _ (lost t) (ask_whole inner wanted.Expression t) (test_is false is) in
        then_asked under level.expression inner wanted.Expression go far agrees.expression (subst (λ (u : State). Still Nothing u v) asks still) (λ tree more behind others there.
        next tree more behind others (ended_at asks there))

-- an expression in brackets
still_test : {u v : State} (inner : Inner) → Still Nothing u v → Still Nothing u (tested inner v)
unfolding tested
still_test inner still = still_mark _ (still_untyped inner (still_mark _ still))

abbrev read_tested : {B : Type 0} → Level → Context → List Terminal → (Expr → ℕ → Terminal → Context → List Terminal → Outcome B) → Outcome B
read_tested level context row go =
    after_mark (codes "(") row outcome.Nothing (λ opening others.
    then_read (read_untyped level context others) (λ tree levels behind end.
    after_mark (codes ")") end outcome.Nothing (λ closing more. go tree levels closing behind more)))

-- the number of its `)` is that before the place behind it
then_test : {B : Type 0} {level : Level} {inner : Inner} {s t v : State} {below under : Pieces} {above : B → Pieces} {fits : B → State → Type 0} {base levels before : ℕ} {context : Context}
    (row : List Terminal) (go : Expr → ℕ → Terminal → Context → List Terminal → Outcome B)
    → LevelAgrees level inner
    → Ended s t below under base levels before context row
    → Still Nothing (tested inner t) v
    → ((tree : Expr) (more : ℕ) (closing : Terminal) (behind : Context) (others : List Terminal)
    → Ended s (tested inner t) below (λ pieces. piece.Expr tree ∷ under pieces) base (max levels more) before behind others
    → place_at s.row ((tested inner t).at - 1) ≡ closing.place
    → Agreed below above fits base before (go tree more closing behind others) s v)
    → Agreed below above fits base before (read_tested level context row go) s v
unfolding tested
then_test {inner} {t} row go agrees far still next =
    then_mark (codes "(") row _ far (still_through (still_mark _ (still_untyped inner still_lost)) still) (λ opening others found here one.
    then_untyped others _ agrees one (still_through (still_mark _ still_lost) still) (λ tree more behind end two.
    then_mark (codes ")") end _ two still (λ closing left found here three. next tree more closing behind left three (place_taken here three))))

-- a statement in an `if` or in a loop
still_sub : {u v : State} (inner : Inner) → Still Nothing u v → Still Nothing u (substatement inner v)
unfolding substatement
still_sub inner still = still_leave (still_ask_whole _ _ (still_enter still))

left_then : {B : Type 0} (found : Outcome Stmt) (go : Stmt → ℕ → Context → List Terminal → Outcome B)
    → then_read (then_read found (λ stmt levels within others. outcome.Read stmt levels (leaving within) others)) go
    ≡ then_read found (λ stmt levels within others. go stmt levels (leaving within) others)
left_then outcome.Nothing go = refl
left_then (outcome.Stopped stmt expressions others) go = refl
left_then (outcome.Read stmt levels within others) go = refl

then_sub : {B : Type 0} {level : Level} {inner : Inner} {s t v : State} {below under : Pieces} {above : B → Pieces} {fits : B → State → Type 0} {base levels before : ℕ} {context : Context}
    (row : List Terminal) (go : Stmt → ℕ → Context → List Terminal → Outcome B)
    → LevelAgrees level inner
    → Ended s t below under base levels before context row
    → Still Nothing (substatement inner t) v
    → ((tree : Stmt) (more : ℕ) (behind : Context) (others : List Terminal)
    → Ended s (substatement inner t) below (λ pieces. piece.Statement tree ∷ under pieces) base (max levels more) before behind others
    → Agreed below above fits base before (go tree more behind others) s v)
    → Agreed below above fits base before (then_read (read_substatement level context row) go) s v
unfolding substatement
then_sub {level} {inner} {under} {context} row go agrees far still next =
    agreed_outcome (left_then (level.statement (inside context) row) go)
    (then_asked under level.statement inner wanted.Statement _ (ended_enter far) agrees.statement (still_through (still_leave still_lost) still) (λ tree more within others there.
    next tree more (leaving within) others (ended_leave there)))

-- `if`
still_otherwise : {u v : State} (inner : Inner) (first close : ℕ) → Still Nothing u v → Still Nothing u (otherwise_behind inner first close v)
unfolding otherwise_behind
still_otherwise inner first close still = still_goes _ still

left_either : (test : Bool) (one other : State) → leave (if test then one else other) ≡ (if test then leave one else leave other)
left_either true one other = refl
left_either false one other = refl

otherwise_agrees : {level : Level} {inner : Inner} {s u : State} {before : ℕ} {context : Context} {row : List Terminal} {test : Expr} {one : Stmt} {place : Place} (first close tests ones : ℕ) → LevelAgrees level inner
    → place_at s.row close ≡ place
    → Ended s u none (λ pieces. piece.Statement one ∷ (piece.Expr test ∷ pieces)) 0 (max tests ones) before context row
    → Agreed none statement_piece ends 0 before (read_otherwise level (place_at s.row first) place test tests one ones context row) s (leave (otherwise_behind inner first close u))
unfolding otherwise_behind
otherwise_agrees {inner} {s} {u} {context} {row} {test} {one} first close tests ones agrees placed far =
    agreed_at (ap leave (if_going _ u u far.status) ∙ left_either (has_first (is_word (codes "else")) (rest u)) _ _)
    (if_first (is_word (codes "else")) row _ _ far
    (λ none_there. read_ends (ended_levels (omega arith) (ended_leave
    (ended_make (event.If first close) (λ pieces i. shop context.expressions (piece.Statement (statement_of (place_at s.row first) one.after (If test (placed i) one None)) ∷ pieces)) far))))
    (λ otherwise others found here there.
    then_sub others _ agrees there (still_leave (still_make _ still_lost)) (λ other more behind end last.
    read_ends (ended_levels (omega arith) (ended_leave
    (ended_make (event.IfElse first close) (λ pieces i. shop behind.expressions (piece.Statement (statement_of (place_at s.row first) other.after (If test (placed i) one (Some other))) ∷ pieces)) last))))))

pub if_agrees : {level : Level} {inner : Inner} {s t : State} {before : ℕ} {context : Context} {row : List Terminal} (first : ℕ) → LevelAgrees level inner
    → Ended s t none none 0 0 before context row
    → Agreed none statement_piece ends 0 before (read_if level (place_at s.row first) context row) s (if_behind inner first t)
unfolding read_if if_behind if_tested
if_agrees {level} {inner} {row} first agrees far =
    then_test row _ agrees (ended_enter far) (still_leave (still_otherwise _ _ _ (still_sub _ still_lost))) (λ test tests closing behind end two placed.
    then_sub end _ agrees two (still_leave (still_otherwise _ _ _ still_lost)) (λ one ones last left three.
    otherwise_agrees first _ tests ones agrees placed (ended_levels (omega arith) three)))

pub while_agrees : {level : Level} {inner : Inner} {s t : State} {before : ℕ} {context : Context} {row : List Terminal} (first : ℕ) → LevelAgrees level inner
    → Ended s t none none 0 0 before context row
    → Agreed none statement_piece ends 0 before (read_while level (place_at s.row first) context row) s (while_behind inner first t)
unfolding read_while while_behind while_tested
while_agrees {level} {inner} {s} {row} first agrees far =
    then_test row _ agrees (ended_enter far) (still_leave (still_make _ (still_sub _ still_lost))) (λ test tests closing behind end two placed.
    then_sub end _ agrees two (still_leave (still_make _ still_lost)) (λ body levels last left three.
    read_ends (ended_levels (omega arith) (ended_leave
    (ended_make _ (λ pieces i. shop last.expressions (piece.Statement (statement_of (place_at s.row first) body.after (While test (placed i) body)) ∷ pieces)) three)))))

pub do_agrees : {level : Level} {inner : Inner} {s t : State} {before : ℕ} {context : Context} {row : List Terminal} (first : ℕ) → LevelAgrees level inner
    → Ended s t none none 0 0 before context row
    → Agreed none statement_piece ends 0 before (read_do level (place_at s.row first) context row) s (do_behind inner first t)
unfolding read_do do_behind do_tested done
do_agrees {level} {inner} {s} {row} first agrees far =
    then_sub row _ agrees (ended_enter far) (still_leave (still_make _ (still_mark _ (still_test inner (still_word _ still_lost))))) (λ body levels behind others one.
    then_word (codes "while") others _ one (still_leave (still_make _ (still_mark _ (still_test inner still_lost)))) (λ word more found_word here_word two.
    then_test more _ agrees two (still_leave (still_make _ (still_mark _ still_lost))) (λ test tests closing last end three placed.
    then_mark (codes ";") end _ three (still_leave (still_make _ still_lost)) (λ semicolon left found here four.
    let place = place_taken here four in
    read_ends (ended_levels (omega arith) (ended_leave
    (ended_make _ (λ pieces i. shop last.expressions (piece.Statement (statement_of (place_at s.row first) (place i) (Do body test (placed i))) ∷ pieces)) four)))))))

still_maybe : {u v : State} (inner : Inner) (test : Terminal → Bool) → Still Nothing u v → Still Nothing u (maybe inner test v)
unfolding maybe
still_maybe inner test still = still_goes _ still

pub for_agrees : {level : Level} {inner : Inner} {s t : State} {before : ℕ} {context : Context} {row : List Terminal} (first : ℕ) → LevelAgrees level inner
    → Ended s t none none 0 0 before context row
    → Agreed none statement_piece ends 0 before (read_for level (place_at s.row first) context row) s (for_behind inner first t)
unfolding read_for for_behind for_next for_closed
for_agrees {level} {inner} {s} {row} first agrees far =
    then_mark (codes "(") row _ far (still_leave (still_make _ (still_sub _ (still_mark _ (still_maybe _ _ (still_mark _ (still_maybe _ _ (still_ask_whole _ _ (still_enter still_lost))))))))) (λ opening others found here one.
    then_asked _ level.clause inner wanted.Clause _ (ended_enter one) agrees.clause (still_leave (still_make _ (still_sub _ (still_mark _ (still_maybe _ _ (still_mark _ (still_maybe _ _ still_lost))))))) (λ clause firsts behind more two.
    then_ends _ (read_maybe level (is_mark (codes ";"))) (maybe inner (is_mark (codes ";"))) _ two (maybe_agrees agrees (is_mark (codes ";"))) (still_leave (still_make _ (still_sub _ (still_mark _ (still_maybe _ _ (still_mark _ still_lost)))))) (λ test tests last end three.
    then_mark (codes ";") end _ three (still_leave (still_make _ (still_sub _ (still_mark _ (still_maybe _ _ still_lost))))) (λ semicolon left found_two here_two four.
    then_ends _ (read_maybe level (is_mark (codes ")"))) (maybe inner (is_mark (codes ")"))) _ four (maybe_agrees agrees (is_mark (codes ")"))) (still_leave (still_make _ (still_sub _ (still_mark _ still_lost)))) (λ next nexts within over five.
    then_mark (codes ")") over _ five (still_leave (still_make _ (still_sub _ still_lost))) (λ closing final found_three here_three six.
    then_sub final _ agrees six (still_leave (still_make _ still_lost)) (λ body levels inmost finish seven.
    let middle = place_taken here_two four in
    let close = place_taken here_three six in
    read_ends (ended_levels (omega arith) (ended_leave
    (ended_make _ (λ pieces i. shop inmost.expressions (piece.Statement (statement_of (place_at s.row first) body.after (For clause test (middle i) next (close i) body)) ∷ pieces)) seven))))))))))

-- a word and a `;`
pub break_agrees : {s t : State} {before : ℕ} {context : Context} {row : List Terminal} (first : ℕ)
    → Ended s t none none 0 0 before context row
    → Agreed none statement_piece ends 0 before
    (after_mark (codes ";") row outcome.Nothing (λ semicolon others. outcome.Read (statement_of (place_at s.row first) semicolon.place Break) 1 context others)) s (break_behind first t)
unfolding break_behind broken
break_agrees {s} {context} {row} first far =
    then_mark (codes ";") row _ far (still_make _ still_lost) (λ semicolon others found here there.
    let place = place_taken here there in
    read_ends (ended_levels (omega arith) (ended_make _ (λ pieces i. shop context.expressions (piece.Statement (statement_of (place_at s.row first) (place i) Break) ∷ pieces)) there)))

pub continue_agrees : {s t : State} {before : ℕ} {context : Context} {row : List Terminal} (first : ℕ)
    → Ended s t none none 0 0 before context row
    → Agreed none statement_piece ends 0 before
    (after_mark (codes ";") row outcome.Nothing (λ semicolon others. outcome.Read (statement_of (place_at s.row first) semicolon.place Continue) 1 context others)) s (continue_behind first t)
unfolding continue_behind continued
continue_agrees {s} {context} {row} first far =
    then_mark (codes ";") row _ far (still_make _ still_lost) (λ semicolon others found here there.
    let place = place_taken here there in
    read_ends (ended_levels (omega arith) (ended_make _ (λ pieces i. shop context.expressions (piece.Statement (statement_of (place_at s.row first) (place i) Continue) ∷ pieces)) there)))

pub return_agrees : {level : Level} {inner : Inner} {s t : State} {before : ℕ} {context : Context} {row : List Terminal} (first : ℕ) → LevelAgrees level inner
    → Ended s t none none 0 0 before context row
    → Agreed none statement_piece ends 0 before (read_return level (place_at s.row first) context row) s (return_behind inner first t)
unfolding read_return return_behind returned
return_agrees {level} {inner} {s} first agrees far =
    then_ends _ (read_maybe level (is_mark (codes ";"))) (maybe inner (is_mark (codes ";"))) _ far (maybe_agrees agrees (is_mark (codes ";"))) (still_make _ (still_mark _ still_lost)) (λ value levels behind others one.
    then_mark (codes ";") others _ one (still_make _ still_lost) (λ semicolon end found here two.
    let place = place_taken here two in
    read_ends (ended_levels (omega arith) (ended_make _ (λ pieces i. shop behind.expressions (piece.Statement (statement_of (place_at s.row first) (place i) (Return value)) ∷ pieces)) two))))
