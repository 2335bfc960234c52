-- Operands that begin with no bracket around an expression.
use Rattle.std.proofs.Common.{◌≡◌, ℕ, ◌+◌, max, Bool, true, false, ◌&&◌, not, List, [], ◌∷◌, length, codes, Option, None, Some, refl, ap, sym, ◌∙◌, arith, append-nil}
use Rattle.std.specs.Prelude.{if◌then◌else◌}
use Rattle.cbase.specs.declared.place.Place.{Place}
use Rattle.cbase.specs.declared.tree.decl.TypeName.{TypeName}
use Rattle.cbase.specs.declared.tree.expr.Expr.{Expr}
use Rattle.cbase.specs.declared.tree.expr.ExprForm.{ExprForm}
use Rattle.cbase.specs.declared.tree.expr.ExprForm.TheVariants.{Name, Constant, Unary, Count, Cast, SizeOf, SizeOfType, OffsetOf, AssertFail}
use Rattle.cbase.specs.declared.tree.expr.ExprForm.TheVariants.{Inner as Statements}
use Rattle.cbase.specs.declared.tree.expr.Part.TheVariants.{Member as NamedPart}
use Rattle.cevents.specs.Building.{built}
use Rattle.cevents.specs.declared.event.Event.{Event}
use Rattle.cevents.specs.declared.event.Event.TheVariants as event
use Rattle.cevents.specs.declared.piece.Piece.{Piece}
use Rattle.cevents.specs.declared.piece.Piece.TheVariants as piece
use Rattle.cgrammar.specs.Firsts.{begins_type}
use Rattle.cgrammar.specs.FrontOf.{front_of}
use Rattle.cgrammar.specs.Outcomes.{Outcome, Reader, with_right, then_read, after_first, after_mark, has_mark, has_first, behind_first}
use Rattle.cgrammar.specs.Outcomes as outcome
use Rattle.cgrammar.specs.Phrases.{Context, counted, numbered}
use Rattle.cgrammar.specs.ReadLevels.{Level}
use Rattle.cgrammar.specs.ReadOperands.{unary_operand, prefixed, unary_alone, behind_matched, read_path, statement_expression, read_cast_to, read_bracket, begins_type_in_brackets, read_size_of, read_offset_of, failed_assertion, read_assert_fail, plain_with}
use Rattle.cgrammar.specs.ReadOperands as reader
use Rattle.cgrammar.specs.ReadOperators.{expression_of}
use Rattle.cgrammar.specs.ReadStatements.{read_block}
use Rattle.cgrammar.specs.ReadTypes.{read_type_name}
use Rattle.cgrammar.specs.Terminals.{Terminal, is_mark, is_name, last_place}
use Rattle.cgrammar.specs.Trees.{identifier}
use Rattle.cgrammar.specs.declared.reading.operand.Operand.{Operand}
use Rattle.cgrammar.specs.declared.reading.starts.OperandStart.{OperandStart}
use Rattle.cgrammar.specs.declared.reading.starts.OperandStart.TheVariants as start
use Rattle.cparser.specs.OperandSteps.{as_operand, path, offset_path, offset_of, over_to, assert_fail, inner_closed, cast_to, bracket, size_of}
use Rattle.cparser.specs.OperandSteps as steps
use Rattle.cparser.specs.State.{State, rest, is_nothing, with_levels, with_event, skipped, lost}
use Rattle.cparser.specs.StatementSteps.{block}
use Rattle.cparser.specs.Steps.{Inner, mark, write, make, wrap, wrapped, ask}
use Rattle.cparser.specs.TypeSteps.{type_name}
use Rattle.cparser.specs.declared.status.Status.{Status}
use Rattle.cparser.specs.declared.status.Status.TheVariants.{Going, Stopped, Nothing}
use Rattle.cparser.specs.declared.wanted.Wanted.TheVariants as wanted
use Rattle.cread_expr.proofs.Agreed.{shop, Pieces, none, Kept, Failed, Ended, Agreed, context_of, Follows, ends, LevelAgrees, operand_piece, operand_fits, statements_piece}
use Rattle.cread_expr.proofs.AgreedPaths.{path_piece, agreed_losing, path_agrees, still_matched, over_matched_to, ended_matched}
use Rattle.cread_expr.proofs.AgreedPostfixes.{Begins, unary_is, agreed_operand, still_operand, still_postfixes_from, postfixes_from_agree}
use Rattle.cread_expr.proofs.AgreedRules.{agreed_read, agreed_failed, agreed_halted, agreed_at, agreed_goes, agreed_test, same_first, if_first, from_here, ask_follows, then_ends, then_mark}
use Rattle.cread_expr.proofs.AgreedStatements.{Passes, place_last, then_passes}
use Rattle.cread_expr.proofs.AgreedSteps.{kept_ended, failed_then, went_event, Still, still_lost, still_goes, still_ask, still_make, still_mark, still_wrap, ended_at, ended_levels, ended_then, halted_then, ended_skip, ended_token, ended_write, ended_make}
use Rattle.cread_expr.proofs.AgreedTypesSizes.{still_type_name}

abbrev pub type_name_piece : TypeName → Pieces
type_name_piece name pieces = piece.TypeName name ∷ pieces

-- what an operand is made of
pub record PartsAgree (level : Level) (inner : Inner) : Type 0 where
  pub deeper : LevelAgrees level inner
  pub types : Follows type_name_piece ends (read_type_name level) (type_name inner)
  pub blocks : Passes statements_piece (read_block level) (block inner)

-- A tree of an operand that is read, or that the reading stopped in.
wrap_agrees : {A : Type 0} {s t : State} {under : Pieces} {upper : A → Pieces} {holds : A → State → Type 0} {levels before : ℕ} {context : Context} {row : List Terminal}
    (unary : Bool) (reader : Reader A) (on : State → State) (event : Event) (tree_of : A → ℕ → Operand) (go : A → ℕ → Context → List Terminal → Outcome Operand)
    → Ended s t none under 0 levels before context row
    → Follows upper holds reader on
    → ((tree : A) (count : ℕ) (pieces : List Piece) → built s.row event count (upper tree (under pieces)) ≡ shop (count + 1) (operand_piece (tree_of tree count) pieces))
    → ((tree : A) (count : ℕ) → (tree_of tree count).unary ≡ unary)
    → ((tree : A) (more : ℕ) (behind : Context) (others : List Terminal) → Ended s (wrap event (on t)) none (operand_piece (tree_of tree behind.expressions)) 0 (1 + max levels more) before (counted behind) others
    → Agreed none operand_piece (unary_is unary) 0 before (go tree more behind others) s (wrap event (on t)))
    → Agreed none operand_piece (unary_is unary) 0 before (with_right (reader context row) outcome.Nothing tree_of go) s (wrap event (on t))
unfolding wrap
wrap_agrees {A} {s} {t} {under} {upper} {holds} {levels} {before} {context} {row} unary reader on event tree_of go far agrees builds is_unary next =
    case (reader context row) (from_here reader on far agrees)
  where
    to : (status : Status) → (on t).status ≡ status → wrap event (on t) ≡ wrapped event status (on t)
    to status is = ap (λ (status : Status). wrapped event status (on t)) is

    case : (given : Outcome A) → Agreed none upper holds t.levels context.expressions given t (on t) → Agreed none operand_piece (unary_is unary) 0 before (with_right given outcome.Nothing tree_of go) s (wrap event (on t))
    case outcome.Nothing is = agreed_at (to Nothing is.is.status) (agreed_failed (failed_then (kept_ended far) is.is))
    case (outcome.Stopped tree expressions others) is =
        let halted = halted_then under far is.is.0 in
        agreed_at (to Stopped halted.status) (agreed_halted (record {
          went = went_event event (with_event event (on t)) halted.went refl refl (builds tree expressions);
          status = halted.status;
          left = halted.left;
        }) (is_unary tree expressions))
    case (outcome.Read tree more behind others) is =
        let ended = ended_then under far is.is.0 in
        next tree more behind others (ended_at (to Going ended.status) (record {
          went = went_event event (with_levels ((on t).levels + 1) (with_event event (on t))) ended.went refl refl (builds tree behind.expressions);
          status = ended.status;
          left = ended.left;
          scope = ended.scope;
          levels = omega (arith, ended.levels);
          on = ended.on;
          inside = ended.inside;
        }))

asked_cast : {level : Level} {inner : Inner} → LevelAgrees level inner → Follows operand_piece operand_fits level.cast (ask inner wanted.Cast)
asked_cast {level} {inner} agrees = ask_follows level.cast inner wanted.Cast (λ tree t levels fits. fits) agrees.cast

-- where no cast may stand
alone_follows : (reader : Reader Operand) (on : State → State) → Follows operand_piece operand_fits reader on
    → Follows operand_piece operand_fits (λ context row. unary_alone (reader context row)) (λ s. steps.unary_alone (on s))
unfolding steps.unary_alone
alone_follows reader on agrees s before is = case (reader (context_of s before) (rest s)) (agrees s before is)
  where
    to : (status : Status) (unary : Bool) → (on s).status ≡ status → (on s).unary ≡ unary → steps.unary_alone (on s) ≡ (if not (is_nothing status) && not unary then lost (on s) else on s)
    to status unary is has i = if not (is_nothing (is i)) && not (has i) then lost (on s) else on s

    losing : Kept s (on s) → Failed s (lost (on s))
    losing kept = record { kept = record { row = kept.row; added = kept.added; events = kept.events }; status = refl }

    stopping : (tree : Operand) (expressions : ℕ) (others : List Terminal) (unary : Bool) → tree.unary ≡ unary → Agreed none operand_piece operand_fits s.levels before (outcome.Stopped tree expressions others) s (on s)
        → Agreed none operand_piece operand_fits s.levels before (if unary then outcome.Stopped tree expressions others else outcome.Nothing) s (steps.unary_alone (on s))
    stopping tree expressions others true has is = agreed_at (to Stopped true is.is.0.status (is.is.1 ∙ has)) is
    stopping tree expressions others false has is =
        agreed_at (to Stopped false is.is.0.status (is.is.1 ∙ has)) (agreed_failed (losing (record { row = is.is.0.went.row; added = is.is.0.went.added; events = is.is.0.went.events })))

    reading : (tree : Operand) (levels : ℕ) (behind : Context) (others : List Terminal) (unary : Bool) → tree.unary ≡ unary → Agreed none operand_piece operand_fits s.levels before (outcome.Read tree levels behind others) s (on s)
        → Agreed none operand_piece operand_fits s.levels before (if unary then outcome.Read tree levels behind others else outcome.Nothing) s (steps.unary_alone (on s))
    reading tree levels behind others true has is = agreed_at (to Going true is.is.0.status (is.is.1 ∙ has)) is
    reading tree levels behind others false has is = agreed_at (to Going false is.is.0.status (is.is.1 ∙ has)) (agreed_failed (losing (kept_ended is.is.0)))

    case : (outcome : Outcome Operand) → Agreed none operand_piece operand_fits s.levels before outcome s (on s) → Agreed none operand_piece operand_fits s.levels before (unary_alone outcome) s (steps.unary_alone (on s))
    case outcome.Nothing is = agreed_at (ap (λ (status : Status). if not (is_nothing status) && not (on s).unary then lost (on s) else on s) is.is.status) is
    case (outcome.Stopped tree expressions others) is = stopping tree expressions others tree.unary refl is
    case (outcome.Read tree levels behind others) is = reading tree levels behind others tree.unary refl is

-- an operator before an operand
prefix_agrees : {s : State} {before : ℕ} {context : Context} {row : List Terminal} (reader : Reader Operand) (on : State → State) (event : Event) (place : Place) (form : Expr → ExprForm)
    → Follows operand_piece operand_fits reader on
    → ((arg : Expr) (count : ℕ) (pieces : List Piece) → built s.row event count (piece.Expr arg ∷ pieces) ≡ shop (count + 1) (piece.Expr (expression_of count place (form arg)) ∷ pieces))
    → Ended s s none none 0 0 before context row
    → Agreed none operand_piece operand_fits 0 before (prefixed (reader context row) place form) s (as_operand true (wrap event (on s)))
prefix_agrees reader on event place form agrees builds far =
    agreed_operand true
    (wrap_agrees true reader on event _ _ far agrees (λ operand count pieces. builds operand.expr count pieces) (λ operand count. refl)
    (λ operand more behind others further. agreed_read (ended_levels (omega arith) further) refl))

-- what follows a `(`: a block in a statement expression, or the type of a cast
statement_expression_agrees : {level : Level} {inner : Inner} {s : State} {before : ℕ} {context : Context} (at : ℕ) (first : Terminal) (row : List Terminal)
    → PartsAgree level inner → Begins s at first row
    → Ended s s none none 0 0 before context row
    → Agreed none operand_piece operand_fits 0 before (statement_expression level context first row) s (steps.statement_expression inner at s)
unfolding steps.statement_expression inner_closed
statement_expression_agrees {level} {inner} at first row agrees begins far =
    then_passes none (read_block level) (block inner) _ far agrees.blocks (still_postfixes_from inner at (still_make _ (still_mark _ still_lost))) (λ body more behind others behind_body further.
    let last = place_last far behind_body further in
    then_mark (codes ")") others _ behind_body (still_postfixes_from inner at (still_make _ still_lost)) (λ closing end is there behind_closing.
    postfixes_from_agree at (numbered behind first.place (Statements body (last_place (front_of row others)))) end agrees.deeper begins
    (ended_levels (omega arith) (ended_make _ (λ pieces i. shop (behind.expressions + 1) (piece.Expr (numbered behind (begins.found i).place (Statements body (last i))) ∷ pieces)) behind_closing))))

cast_to_agrees : {level : Level} {inner : Inner} {s : State} {before : ℕ} {context : Context} (at : ℕ) (first : Terminal) (row : List Terminal)
    → PartsAgree level inner → Begins s at first row
    → Ended s s none none 0 0 before context row
    → Agreed none operand_piece operand_fits 0 before (read_cast_to level context first row) s (cast_to inner at s)
unfolding cast_to
cast_to_agrees {level} {inner} at first row agrees begins far =
    then_ends none (read_type_name level) (type_name inner) _ far agrees.types (still_operand false (still_wrap _ (still_ask _ _ (still_mark _ still_lost)))) (λ to more behind others behind_to.
    then_mark (codes ")") others _ behind_to (still_operand false (still_wrap _ (still_ask _ _ still_lost))) (λ closing end is there behind_closing.
    agreed_operand false
    (wrap_agrees false level.cast (ask inner wanted.Cast) (event.Cast at) _ _ behind_closing (asked_cast agrees.deeper)
    (λ operand count pieces i. shop (count + 1) (piece.Expr (expression_of count (begins.found i).place (Cast to operand.expr)) ∷ pieces)) (λ operand count. refl)
    (λ operand deep last left further. agreed_read (ended_levels (omega arith) further) refl))))

bracket_agrees : {level : Level} {inner : Inner} {s : State} {before : ℕ} {context : Context} (at : ℕ) (first : Terminal) (row : List Terminal)
    → PartsAgree level inner → Begins s at first row
    → Ended s s none none 0 0 before context row
    → Agreed none operand_piece operand_fits 0 before (read_bracket level context first row) s (bracket inner at s)
unfolding read_bracket bracket
bracket_agrees at first row agrees begins far =
    agreed_test (has_mark (codes "{") row) _ _ _ (same_first (is_mark (codes "{")) far)
    (λ is. statement_expression_agrees at first row agrees begins far) (λ is. cast_to_agrees at first row agrees begins far)

-- `sizeof`
size_of_type_agrees : {level : Level} {inner : Inner} {s : State} {before : ℕ} {context : Context} (at : ℕ) (first : Terminal) (start row : List Terminal)
    → PartsAgree level inner → Begins s at first start
    → Ended s (skipped 1 s) none none 0 0 before context row
    → Agreed none operand_piece operand_fits 0 before
    (then_read (read_type_name level context row) (λ to levels behind others.
    after_mark (codes ")") others outcome.Nothing (λ closing end. outcome.Read (unary_operand (numbered behind first.place (SizeOfType to))) (1 + levels) (counted behind) end)))
    s (as_operand true (make (event.SizeOfType at) (mark (codes ")") (type_name inner (skipped 1 s)))))
size_of_type_agrees {level} {inner} at first start row agrees begins far =
    then_ends none (read_type_name level) (type_name inner) _ far agrees.types (still_operand true (still_make _ (still_mark _ still_lost))) (λ to more behind others behind_to.
    then_mark (codes ")") others _ behind_to (still_operand true (still_make _ still_lost)) (λ closing end is there behind_closing.
    agreed_operand true (agreed_read
    (ended_levels (omega arith) (ended_make (event.SizeOfType at) (λ pieces i. shop (behind.expressions + 1) (piece.Expr (numbered behind (begins.found i).place (SizeOfType to)) ∷ pieces)) behind_closing)) refl)))

size_of_agrees : {level : Level} {inner : Inner} {s : State} {before : ℕ} {context : Context} (at : ℕ) (first : Terminal) (row : List Terminal)
    → PartsAgree level inner → Begins s at first row
    → Ended s s none none 0 0 before context row
    → Agreed none operand_piece operand_fits 0 before (read_size_of level context first row) s (size_of inner at s)
unfolding read_size_of size_of
size_of_agrees {level} {inner} {s} {before} {context} at first row agrees begins far =
    agreed_test (begins_type_in_brackets context.scope row) _ _ _
    (λ i. has_mark (codes "(") (far.left i) && has_first (begins_type (far.scope i)) (behind_first (far.left i)))
    (λ is. typed row far is)
    (λ is. prefix_agrees (λ context row. unary_alone (level.cast context row)) (λ s. steps.unary_alone (ask inner wanted.Cast s)) (event.SizeOf at) first.place SizeOf
    (alone_follows level.cast (ask inner wanted.Cast) (asked_cast agrees.deeper))
    (λ arg count pieces i. shop (count + 1) (piece.Expr (expression_of count (begins.found i).place (SizeOf arg)) ∷ pieces)) far)
  where
    typed : (row : List Terminal) → Ended s s none none 0 0 before context row → begins_type_in_brackets context.scope row ≡ true
        → Agreed none operand_piece operand_fits 0 before
        (then_read (read_type_name level context (behind_first row)) (λ to levels behind others.
        after_mark (codes ")") others outcome.Nothing (λ closing end. outcome.Read (unary_operand (numbered behind first.place (SizeOfType to))) (1 + levels) (counted behind) end)))
        s (as_operand true (make (event.SizeOfType at) (mark (codes ")") (type_name inner (skipped 1 s)))))
    typed [] far is = cc is
    typed (next ∷ others) far is = size_of_type_agrees at first _ others agrees begins (ended_skip far)

-- `__builtin_offsetof`
still_offset_path : {u v : State} (inner : Inner) (at : ℕ) → Still Nothing u v → Still Nothing u (offset_path inner at v)
unfolding offset_path
still_offset_path inner at still = still_goes _ still

offset_path_agrees : {level : Level} {inner : Inner} {s t : State} {levels before : ℕ} {context : Context} (at : ℕ) (first : Terminal) (start row : List Terminal) (to : TypeName)
    → PartsAgree level inner → Begins s at first start
    → Ended s t none (type_name_piece to) 0 levels before context row
    → Agreed none operand_piece operand_fits 0 before
    (after_first is_name row outcome.Nothing (λ name four.
    then_read (read_path level (length four + 1) context four) (λ path others last five.
    after_mark (codes ")") five outcome.Nothing (λ closing end.
    reader.postfixes_from level (first ∷ start) (numbered last first.place (OffsetOf to (NamedPart (identifier name) ∷ path))) (1 + max levels others) (counted last) end))))
    s (offset_path inner at t)
unfolding offset_path
offset_path_agrees {level} {inner} {s} {t} {context} at first start row to agrees begins far =
    agreed_goes t t far.status
    (if_first is_name row _ _ far (λ is. agreed_losing far still_lost) (λ name four is there behind.
    let named = ended_write {above = λ pieces. path_piece (NamedPart (identifier name) ∷ []) (type_name_piece to pieces)} (event.Path t.at) (λ pieces i. shop context.expressions (piece.Path (NamedPart (identifier (ended_token there i)) ∷ []) ∷ type_name_piece to pieces)) behind in
    agreed_at (ap (λ (row : List Terminal). steps.postfixes_from inner at (make (event.OffsetOf at) (mark (codes ")") (path inner (length row + 1) (write (event.Path t.at) (skipped 1 t)))))) named.left)
    (then_ends (type_name_piece to) (read_path level (length four + 1)) (path inner (length four + 1)) _ named (path_agrees agrees.deeper (length four + 1) (NamedPart (identifier name) ∷ []))
    (still_postfixes_from inner at (still_make _ (still_mark _ still_lost))) (λ parts more last five behind_parts.
    then_mark (codes ")") five _ behind_parts (still_postfixes_from inner at (still_make _ still_lost)) (λ closing end closes here behind_closing.
    postfixes_from_agree at (numbered last first.place (OffsetOf to (NamedPart (identifier name) ∷ parts))) end agrees.deeper begins
    (ended_make (event.OffsetOf at) (λ pieces i. shop (last.expressions + 1) (piece.Expr (numbered last (begins.found i).place (OffsetOf to (NamedPart (identifier name) ∷ parts))) ∷ pieces)) behind_closing))))))

offset_of_agrees : {level : Level} {inner : Inner} {s : State} {before : ℕ} {context : Context} (at : ℕ) (first : Terminal) (row : List Terminal)
    → PartsAgree level inner → Begins s at first row
    → Ended s s none none 0 0 before context row
    → Agreed none operand_piece operand_fits 0 before (read_offset_of level context first row) s (offset_of inner at s)
unfolding read_offset_of offset_of
offset_of_agrees {level} {inner} at first row agrees begins far =
    then_mark (codes "(") row _ far (still_offset_path inner at (still_mark _ (still_type_name inner still_lost))) (λ opening one is there behind_opening.
    then_ends none (read_type_name level) (type_name inner) _ behind_opening agrees.types (still_offset_path inner at (still_mark _ still_lost)) (λ to more behind two behind_to.
    then_mark (codes ",") two _ behind_to (still_offset_path inner at still_lost) (λ comma three comma_is here behind_comma.
    offset_path_agrees at first row three to agrees begins (ended_levels (omega arith) behind_comma))))

-- `__assert_fail`
assert_fail_agrees : {level : Level} {inner : Inner} {s : State} {before : ℕ} {context : Context} (at : ℕ) (first : Terminal) (row : List Terminal)
    → PartsAgree level inner → Begins s at first row
    → Ended s s none none 0 0 before context row
    → Agreed none operand_piece operand_fits 0 before (read_assert_fail level context first row) s (assert_fail inner at s)
unfolding read_assert_fail assert_fail
assert_fail_agrees {level} {inner} {s} {before} {context} at first row agrees begins far =
    then_mark (codes "(") row _ far (still_postfixes_from inner at (still_make _ (still_matched still_lost))) (λ opening others is there behind_opening.
    agreed_at (ap (λ (state : State). steps.postfixes_from inner at (make (event.AssertFail at) state)) (over_matched_to (mark (codes "(") s) others behind_opening.status behind_opening.left))
    (matched others behind_opening (behind_matched (41 ∷ []) others) refl))
  where
    matched : (others : List Terminal) → Ended s (mark (codes "(") s) none none 0 0 before context others → (left : Option (List Terminal)) → behind_matched (41 ∷ []) others ≡ left
        → Agreed none operand_piece operand_fits 0 before (failed_assertion level context first (first ∷ row) left) s (steps.postfixes_from inner at (make (event.AssertFail at) (over_to (mark (codes "(") s) left)))
    matched others further None is = agreed_losing further (still_postfixes_from inner at (still_make _ still_lost))
    matched others further (Some end) is =
        postfixes_from_agree at (numbered context first.place AssertFail) end agrees.deeper begins
        (ended_make (event.AssertFail at) (λ pieces i. shop (context.expressions + 1) (piece.Expr (numbered context (begins.found i).place AssertFail) ∷ pieces)) (ended_matched is further))

-- an operand, from behind its first token on
pub operand_agrees : {level : Level} {inner : Inner} {before : ℕ} {context : Context} (s : State) (first : Terminal) (row : List Terminal) (begin : OperandStart)
    → PartsAgree level inner → Begins (skipped 1 s) s.at first row
    → Ended (skipped 1 s) (skipped 1 s) none none 0 0 before context row
    → Agreed none operand_piece operand_fits 0 before (plain_with level context first row begin) (skipped 1 s) (steps.plain_with inner s begin)
operand_agrees s first row start.Bracket agrees begins far = bracket_agrees s.at first row agrees begins far
operand_agrees {level} {inner} s first row (start.Count up) agrees begins far =
    prefix_agrees (λ context row. unary_alone (level.cast context row)) (λ s. steps.unary_alone (ask inner wanted.Cast s)) (event.Count up false s.at) first.place (Count up false)
    (alone_follows level.cast (ask inner wanted.Cast) (asked_cast agrees.deeper))
    (λ arg count pieces i. shop (count + 1) (piece.Expr (expression_of count (begins.found i).place (Count up false arg)) ∷ pieces)) far
operand_agrees {level} {inner} s first row (start.Unary op) agrees begins far =
    prefix_agrees level.cast (ask inner wanted.Cast) (event.Unary op s.at) first.place (Unary op) (asked_cast agrees.deeper)
    (λ arg count pieces i. shop (count + 1) (piece.Expr (expression_of count (begins.found i).place (Unary op arg)) ∷ pieces)) far
operand_agrees s first row start.SizeOf agrees begins far = size_of_agrees s.at first row agrees begins far
operand_agrees s first row start.OffsetOf agrees begins far = offset_of_agrees s.at first row agrees begins far
operand_agrees s first row start.AssertFail agrees begins far = assert_fail_agrees s.at first row agrees begins far
operand_agrees {context} s first row start.Name agrees begins far =
    postfixes_from_agree s.at (numbered context first.place (Name first.bytes)) row agrees.deeper begins
    (ended_make (event.Name s.at) (λ pieces i. shop (context.expressions + 1) (piece.Expr (numbered context (begins.found i).place (Name (begins.found i).bytes)) ∷ pieces)) far)
operand_agrees {context} s first row start.Constant agrees begins far =
    postfixes_from_agree s.at (numbered context first.place (Constant first.bytes)) row agrees.deeper begins
    (ended_make (event.Constant s.at) (λ pieces i. shop (context.expressions + 1) (piece.Expr (numbered context (begins.found i).place (Constant (begins.found i).bytes)) ∷ pieces)) far)
operand_agrees s first row start.Other agrees begins far = agreed_failed (record { kept = record { row = refl; added = []; events = sym (append-nil s.events) }; status = refl })
