-- Operators behind an operand, each to the left.
use Rattle.std.proofs.Common.{◌≡◌, ℕ, zero, suc, ◌+◌, ◌<◌, max, Bool, true, false, ◌&&◌, not, List, [], ◌∷◌, ◌++◌, drop, length, nat_le, codes, refl, ap, sym, ◌∙◌, arith}
use Rattle.std.specs.Prelude.{if◌then◌else◌}
use Rattle.cbase.specs.declared.place.Place.{Place}
use Rattle.cbase.specs.declared.tree.expr.Expr.{Expr}
use Rattle.cbase.specs.declared.tree.expr.ExprForm.TheVariants.{Count, Index, Member, Call}
use Rattle.cevents.specs.Workshop.{token_at, place_at}
use Rattle.cevents.specs.declared.event.Event.TheVariants as event
use Rattle.cevents.specs.declared.piece.Piece.TheVariants as piece
use Rattle.cgrammar.specs.FrontOf.{front_of}
use Rattle.cgrammar.specs.Outcomes.{Outcome, Reader, has_mark, has_first}
use Rattle.cgrammar.specs.Outcomes as outcome
use Rattle.cgrammar.specs.Phrases.{Context, counted, numbered}
use Rattle.cgrammar.specs.ReadLevels.{Level, read_list}
use Rattle.cgrammar.specs.ReadOperands.{unary_operand, stopped_operand, index_behind, call_behind, member_behind, postfix_with, goes_on, read_postfixes, postfixes_from}
use Rattle.cgrammar.specs.ReadStarts.{postfix_start}
use Rattle.cgrammar.specs.ReadTypes.{never}
use Rattle.cgrammar.specs.Terminals.{Terminal, is_mark, is_name, begins_with_typedef, first_word_place}
use Rattle.cgrammar.specs.Trees.{identifier}
use Rattle.cgrammar.specs.declared.reading.operand.Operand.{Operand}
use Rattle.cgrammar.specs.declared.reading.starts.PostfixStart.{PostfixStart}
use Rattle.cgrammar.specs.declared.reading.starts.PostfixStart.TheVariants as postfix
use Rattle.cparser.specs.OperandSteps.{as_operand, argument, arguments, call_place, postfix_first, postfix_at, postfixes}
use Rattle.cparser.specs.OperandSteps as steps
use Rattle.cparser.specs.State.{State, rest, is_going, is_nothing, goes, with_unary, skipped, stopped, point_of}
use Rattle.cparser.specs.Steps.{Inner, make, ask, ask_whole, back_unless_going, mark_or_back}
use Rattle.cparser.specs.declared.status.Status.{Status}
use Rattle.cparser.specs.declared.status.Status.TheVariants.{Going, Stopped, Nothing}
use Rattle.cparser.specs.declared.wanted.Wanted.TheVariants as wanted
use Rattle.ctokens.proofs.Choices.{chosen_no}
use Rattle.cread_expr.proofs.Agreed.{shop, Pieces, none, Ended, Agreed, Ready, context_of, Follows, ends, LevelAgrees, expr_piece, operand_piece, operand_fits}
use Rattle.cread_expr.proofs.AgreedBack.{agreed_back, agreed_stopped, else_back, mark_back}
use Rattle.cread_expr.proofs.AgreedEntire.{entirely, entirely_asked, agreed_then, agreed_write}
use Rattle.cread_expr.proofs.AgreedLists.{still_both, all_parts_follow}
use Rattle.cread_expr.proofs.AgreedOperators.{same_most}
use Rattle.cread_expr.proofs.AgreedPlaces.{call_place_is}
use Rattle.cread_expr.proofs.AgreedRules.{agreed_read, agreed_failed, agreed_halted, agreed_at, agreed_goes, agreed_test, if_first, from_here, ask_anyhow}
use Rattle.cread_expr.proofs.AgreedSteps.{kept_skipped, kept_over, Still, still_stopped, still_goes, still_make, still_mark_or_back, ended_part, ended_skip, ended_token, ended_write, ended_make}

-- an operand begins at that token of the row, before a place
pub record Begins (s : State) (at : ℕ) (first : Terminal) (row : List Terminal) : Type 0 where
  pub earlier : at < s.at
  pub found : token_at s.row at ≡ first
  pub start : drop at s.row ≡ first ∷ row

abbrev pub unary_is : Bool → Operand → State → Type 0
unary_is unary operand t = operand.unary ≡ unary

pub if_under : (f : State → State) (test : Bool) (one other : State) → f (if test then one else other) ≡ (if test then f one else f other)
if_under f true one other = refl
if_under f false one other = refl

-- what is read is an operand
pub agreed_operand : {s u : State} {below : Pieces} {base before : ℕ} {given : Outcome Operand} (unary : Bool)
    → Agreed below operand_piece (unary_is unary) base before given s u → Agreed below operand_piece operand_fits base before given s (as_operand unary u)
unfolding as_operand
agreed_operand {s} {u} {below} {base} {before} {given} unary is = case given is
  where
    to : (status : Status) → u.status ≡ status → as_operand unary u ≡ (if is_nothing status then u else with_unary unary u)
    to status is = ap (λ (status : Status). if is_nothing status then u else with_unary unary u) is

    case : (outcome : Outcome Operand) → Agreed below operand_piece (unary_is unary) base before outcome s u → Agreed below operand_piece operand_fits base before outcome s (as_operand unary u)
    case outcome.Nothing is = agreed_at (to Nothing is.is.status) (agreed_failed is.is)
    case (outcome.Stopped tree expressions others) is =
        let halted = is.is.0 in
        agreed_at (to Stopped halted.status) (agreed_halted (record {
          went = record { row = halted.went.row; added = halted.went.added; events = halted.went.events; builds = halted.went.builds };
          status = halted.status;
          left = halted.left;
        }) (sym is.is.1))
    case (outcome.Read tree levels behind others) is =
        let far = is.is.0 in
        agreed_at (to Going far.status) (agreed_read (record {
          went = record { row = far.went.row; added = far.went.added; events = far.went.events; builds = far.went.builds };
          status = far.status;
          left = far.left;
          scope = far.scope;
          levels = far.levels;
          on = far.on;
          inside = far.inside;
        }) (sym is.is.1))

pub still_operand : {u v : State} (unary : Bool) → Still Nothing u v → Still Nothing u (as_operand unary v)
unfolding as_operand
still_operand {u} {v} unary still = record {
  idle = refl;
  same = λ is.
      let nothing : v.status ≡ Nothing = ap (λ (s : State). s.status) (still.same is) ∙ is in
      ap (λ (status : Status). if is_nothing status then v else with_unary unary v) nothing ∙ still.same is;
}

pub still_postfixes : {status : Status} {u v : State} (inner : Inner) (first count : ℕ) → Still status u v → Still status u (postfixes inner first count v)
unfolding postfixes
still_postfixes inner first zero still = still
still_postfixes inner first (suc count) still = still_both _ _ still

pub still_postfixes_from : {status : Status} {u v : State} (inner : Inner) (first : ℕ) → Still status u v → Still status u (steps.postfixes_from inner first v)
unfolding steps.postfixes_from
still_postfixes_from inner first still = still_goes _ still

-- arguments
abbrev pub arguments_piece : List Expr → Pieces
arguments_piece arguments pieces = piece.Arguments arguments ∷ pieces

argument_agrees : {level : Level} {inner : Inner} (done : List Expr) → LevelAgrees level inner
    → (s : State) (before : ℕ) → Ready s → Agreed (arguments_piece done) (λ tree. arguments_piece (done ++ tree ∷ [])) ends s.levels before (entirely level.assignment (context_of s before) (rest s)) s (argument inner s)
unfolding argument
argument_agrees {level} {inner} done agrees s before is =
    agreed_write event.Argument (λ tree count pieces. refl)
    (agreed_then (arguments_piece done) (ended_part s (arguments_piece done) before is)
    (from_here (entirely level.assignment) (ask_whole inner wanted.Assignment) (ended_part s (arguments_piece done) before is) (entirely_asked level.assignment inner wanted.Assignment agrees.assignment)))

pub arguments_follow : {level : Level} {inner : Inner} → LevelAgrees level inner
    → Follows arguments_piece ends (λ context row. read_list never level.assignment (length row + 1) context row) (arguments inner)
unfolding arguments
arguments_follow {level} {inner} agrees =
    all_parts_follow arguments_piece never level.assignment (argument inner) event.NoArguments (λ row count pieces. refl) (λ done. argument_agrees done agrees)

-- one operator, where `on` are the steps behind it
index_agrees : {level : Level} {inner : Inner} {s t : State} {levels before : ℕ} {context : Context} {mark : Terminal} {row : List Terminal} (go : Expr → ℕ → Reader Operand) (on : State → State) (base : Expr)
    → LevelAgrees level inner
    → ((u v : State) → Still Stopped u v → Still Stopped u (on v))
    → ((next : Expr) (more : ℕ) (u : State) (behind : Context) (others : List Terminal) → Ended s u none (expr_piece next) 0 more before behind others
    → Agreed none operand_piece (unary_is true) 0 before (go next more behind others) s (on u))
    → Ended s t none (expr_piece base) 0 levels before context (mark ∷ row)
    → Agreed none operand_piece (unary_is true) 0 before (index_behind go level base levels context mark row) s (on (steps.index_behind inner (point_of t) t.at (skipped 1 t)))
unfolding steps.index_behind
index_agrees {level} {inner} {t} {levels} {mark} go on base agrees through next far =
    else_back (expr_piece base) level.expression (ask inner wanted.Expression) (point_of t) _ _ (ended_skip far) (ask_anyhow level.expression inner wanted.Expression agrees.expression)
    (through _ _ (still_make _ (still_mark_or_back _ _ still_stopped)))
    (λ u kept. agreed_back (unary_operand base) far (kept_skipped 1 kept) refl)
    (λ index more behind others kept_index behind_index.
    mark_back (codes "]") others (point_of t) _ _ behind_index
    (through _ _ (still_make _ still_stopped))
    (agreed_back (unary_operand base) far (kept_skipped 1 kept_index) refl)
    (λ closing end kept_closing behind_closing.
    next (numbered behind mark.place (Index base index)) (1 + max levels more) _ (counted behind) end
    (ended_make (event.Index t.at) (λ pieces i. shop (behind.expressions + 1) (piece.Expr (numbered behind (ended_token far i).place (Index base index)) ∷ pieces)) behind_closing)))

member_agrees : {s t : State} {levels before : ℕ} {context : Context} {mark : Terminal} {row : List Terminal} (go : Expr → ℕ → Reader Operand) (on : State → State) (base : Expr) (arrow : Bool)
    → ((u v : State) → Still Stopped u v → Still Stopped u (on v))
    → ((next : Expr) (more : ℕ) (u : State) (behind : Context) (others : List Terminal) → Ended s u none (expr_piece next) 0 more before behind others
    → Agreed none operand_piece (unary_is true) 0 before (go next more behind others) s (on u))
    → Ended s t none (expr_piece base) 0 levels before context (mark ∷ row)
    → Agreed none operand_piece (unary_is true) 0 before (member_behind go arrow base levels context mark row) s (on (steps.member_behind arrow (point_of t) t.at (skipped 1 t)))
unfolding steps.member_behind
member_agrees {t} {levels} {context} {mark} {row} go on base arrow through next far =
    agreed_at (if_under on (has_first is_name (rest (skipped 1 t))) _ _)
    (if_first is_name row _ _ (ended_skip far)
    (λ is. agreed_at ((through _ _ still_stopped).same refl) (agreed_back (unary_operand base) far (kept_over t 1) refl))
    (λ name more is there behind.
    next (numbered context mark.place (Member base (identifier name) arrow)) (1 + levels) _ (counted context) more
    (ended_make (event.Member arrow t.at (t.at + 1)) (λ pieces i. shop (context.expressions + 1) (piece.Expr (numbered context (ended_token far i).place (Member base (identifier (ended_token there i)) arrow)) ∷ pieces)) behind)))

call_placed : {s t : State} {below above : Pieces} {base levels before : ℕ} {behind : Context} {others start : List Terminal} (first : ℕ)
    → Ended s t below above base levels before behind others → first < s.at → drop first s.row ≡ start
    → place_at s.row (call_place first t) ≡ first_word_place (front_of start others)
call_placed {s} {t} {others} first far earlier from =
    ap (λ (row : List Terminal). place_at row (call_place first t)) (sym far.went.row)
    ∙ (call_place_is first t others (omega (arith, earlier, far.on)) far.inside far.left
    ∙ ap (λ (start : List Terminal). first_word_place (front_of start others)) (ap (λ (row : List Terminal). drop first row) far.went.row ∙ from))

call_agrees : {level : Level} {inner : Inner} {s t : State} {levels before : ℕ} {context : Context} {mark : Terminal} {row : List Terminal} (go : Expr → ℕ → Reader Operand) (on : State → State) (base : Expr) (at : ℕ) (place : Place)
    → LevelAgrees level inner → place_at s.row at ≡ place
    → ((u v : State) → Still Stopped u v → Still Stopped u (on v))
    → ((next : Expr) (more : ℕ) (u : State) (behind : Context) (others : List Terminal) → Ended s u none (expr_piece next) 0 more before behind others
    → Agreed none operand_piece (unary_is true) 0 before (go next more behind others) s (on u))
    → Ended s t none (expr_piece base) 0 levels before context (mark ∷ row)
    → Agreed none operand_piece (unary_is true) 0 before (call_behind go level place base levels context mark row) s (on (steps.call_behind inner (point_of t) at (skipped 1 t)))
unfolding steps.call_behind
call_agrees {level} {inner} {s} {t} {levels} {before} {context} {mark} {row} go on base at place agrees placed through next far =
    agreed_at (if_under on (has_mark (codes ")") (rest (skipped 1 t))) _ _)
    (if_first (is_mark (codes ")")) row _ _ (ended_skip far)
    (λ is.
    agreed_at (if_under on (begins_with_typedef t.scope (rest (skipped 1 t))) _ _)
    (agreed_test (begins_with_typedef context.scope row) _ _ _ (λ i. begins_with_typedef (far.scope i) ((ended_skip far).left i))
    (λ typed. agreed_at ((through _ _ still_stopped).same refl) (agreed_back (unary_operand base) far (kept_over t 1) refl))
    (λ untyped. some)))
    (λ closing more is there behind.
    next (numbered context place (Call base [])) (1 + levels) _ (counted context) more
    (ended_make (event.Call at) (λ pieces i. shop (context.expressions + 1) (piece.Expr (numbered context (placed i) (Call base [])) ∷ pieces))
    (ended_write {above = λ pieces. arguments_piece [] (expr_piece base pieces)} event.NoArguments (λ pieces. refl) behind))))
  where
    some : Agreed none operand_piece (unary_is true) 0 before
        (outcome.or_else (read_list never level.assignment (length row + 1) context row) (stopped_operand base context mark row) (λ arguments others behind rest.
        outcome.after_mark (codes ")") rest (stopped_operand base context mark row) (λ closing more.
        go (numbered behind place (Call base arguments)) (1 + max levels others) (counted behind) more)))
        s (on (make (event.Call at) (mark_or_back (codes ")") (point_of t) (back_unless_going (point_of t) (arguments inner (skipped 1 t))))))
    some =
        else_back (expr_piece base) (λ context row. read_list never level.assignment (length row + 1) context row) (arguments inner) (point_of t) _ _ (ended_skip far) (arguments_follow agrees)
        (through _ _ (still_make _ (still_mark_or_back _ _ still_stopped)))
        (λ u kept. agreed_back (unary_operand base) far (kept_skipped 1 kept) refl)
        (λ arguments more behind others kept_arguments behind_arguments.
        mark_back (codes ")") others (point_of t) _ _ behind_arguments
        (through _ _ (still_make _ still_stopped))
        (agreed_back (unary_operand base) far (kept_skipped 1 kept_arguments) refl)
        (λ closing end kept_closing behind_closing.
        next (numbered behind place (Call base arguments)) (1 + max levels more) _ (counted behind) end
        (ended_make (event.Call at) (λ pieces i. shop (behind.expressions + 1) (piece.Expr (numbered behind (placed i) (Call base arguments)) ∷ pieces)) behind_closing)))

-- one operator, or none
postfix_agrees : {level : Level} {inner : Inner} {s t : State} {levels before : ℕ} {context : Context} {mark : Terminal} {row start : List Terminal} (go : Expr → ℕ → Reader Operand) (on : State → State) (base : Expr) (first : ℕ) (begins : PostfixStart) (fits : Bool)
    → LevelAgrees level inner → first < s.at → drop first s.row ≡ start
    → ((u v : State) → Still Stopped u v → Still Stopped u (on v))
    → ((next : Expr) (more : ℕ) (u : State) (behind : Context) (others : List Terminal) → Ended s u none (expr_piece next) 0 more before behind others
    → Agreed none operand_piece (unary_is true) 0 before (go next more behind others) s (on u))
    → Ended s t none (expr_piece base) 0 levels before context (mark ∷ row)
    → Agreed none operand_piece (unary_is true) 0 before
    (if goes_on begins && not fits then stopped_operand base context mark row else postfix_with go level start base levels context mark row begins)
    s (if goes_on begins then on (if fits then steps.postfix_with inner first t begins else stopped t) else t)
postfix_agrees go on base first postfix.Other fits agrees earlier from through next far = agreed_read far refl
postfix_agrees go on base first postfix.Index false agrees earlier from through next far = agreed_at ((through _ _ still_stopped).same refl) (agreed_stopped (unary_operand base) far refl)
postfix_agrees go on base first postfix.Call false agrees earlier from through next far = agreed_at ((through _ _ still_stopped).same refl) (agreed_stopped (unary_operand base) far refl)
postfix_agrees go on base first (postfix.Member arrow) false agrees earlier from through next far = agreed_at ((through _ _ still_stopped).same refl) (agreed_stopped (unary_operand base) far refl)
postfix_agrees go on base first (postfix.Count up) false agrees earlier from through next far = agreed_at ((through _ _ still_stopped).same refl) (agreed_stopped (unary_operand base) far refl)
postfix_agrees go on base first postfix.Index true agrees earlier from through next far = index_agrees go on base agrees through next far
postfix_agrees go on base first postfix.Call true agrees earlier from through next far = call_agrees go on base _ _ agrees (call_placed first far earlier from) through next far
postfix_agrees go on base first (postfix.Member arrow) true agrees earlier from through next far = member_agrees go on base arrow through next far
postfix_agrees {t} {levels} {context} {mark} {row} go on base first (postfix.Count up) true agrees earlier from through next far =
    next (numbered context mark.place (Count up true base)) (1 + levels) _ (counted context) row
    (ended_make (event.Count up true t.at) (λ pieces i. shop (context.expressions + 1) (piece.Expr (numbered context (ended_token far i).place (Count up true base)) ∷ pieces)) (ended_skip far))

pub postfixes_agree : {level : Level} {inner : Inner} {s t : State} {levels before : ℕ} {context : Context} {start : List Terminal} (first count : ℕ) (base : Expr) (row : List Terminal)
    → LevelAgrees level inner → first < s.at → drop first s.row ≡ start
    → Ended s t none (expr_piece base) 0 levels before context row
    → Agreed none operand_piece (unary_is true) 0 before (read_postfixes level start count base levels context row) s (postfixes inner first count t)
unfolding read_postfixes postfixes postfix_at
postfixes_agree first zero base row agrees earlier from far = agreed_read far refl
postfixes_agree {t} first (suc count) base [] agrees earlier from far =
    agreed_at (chosen_no (goes t && goes_on (postfix_first (rest t))) _ t (λ i. is_going (far.status i) && goes_on (postfix_first (far.left i)))) (agreed_read far refl)
postfixes_agree {level} {inner} {t} {levels} {start} first (suc count) base (mark ∷ row) agrees earlier from far =
    agreed_at (λ i. if is_going (far.status i) && goes_on (postfix_first (far.left i))
    then postfixes inner first count (if same_most agrees far i then steps.postfix_with inner first t (postfix_first (far.left i)) else stopped t) else t)
    (postfix_agrees (read_postfixes level start count) (postfixes inner first count) base first (postfix_start mark) (nat_le levels level.most) agrees earlier from
    (λ u v still. still_postfixes inner first count still)
    (λ next more u behind others further. postfixes_agree first count next others agrees earlier from further) far)

-- a primary expression, and the operators behind it
pub postfixes_from_agree : {level : Level} {inner : Inner} {s t : State} {levels before : ℕ} {context : Context} {begins : Terminal} {start : List Terminal} (first : ℕ) (base : Expr) (row : List Terminal)
    → LevelAgrees level inner → Begins s first begins start
    → Ended s t none (expr_piece base) 0 levels before context row
    → Agreed none operand_piece operand_fits 0 before (postfixes_from level (begins ∷ start) base levels context row) s (steps.postfixes_from inner first t)
unfolding steps.postfixes_from
postfixes_from_agree {inner} {t} first base row agrees begins far =
    agreed_goes t t far.status
    (agreed_operand true
    (agreed_at (ap (λ (row : List Terminal). postfixes inner first (length row + 1) t) far.left)
    (postfixes_agree first (length row + 1) base row agrees begins.earlier begins.start far)))
