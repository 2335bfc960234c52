-- Which marks go on with an operand, an operation or an expression, and which do not.
use Rattle.std.proofs.Common.{◌≡◌, ℕ, Bool, true, false, not, refl, ap, sym, ◌∙◌, List, [], ◌∷◌, codes, Some, None}
use Rattle.std.specs.Prelude.{if◌then◌else◌, Option}
use Rattle.std.specs.List.{list_all}
use Rattle.std.specs.Str.{bytes_eq}
use Rattle.std.proofs.lemmas.Slice.Eq.{bytes_eq-Decides}
use Rattle.cbase.specs.declared.place.Place.{Place}
use Rattle.cbase.specs.declared.tree.operators.BinaryOp.{BinaryOp}
use Rattle.ctokens.specs.declared.token.TokenKind.TheVariants.{Mark}
use Rattle.cgrammar.proofs.Reached.{goes_on_operand, goes_on_conditional, goes_on_assignment, goes_on_expression, goes_on_list, goes_on_path}
use Rattle.cgrammar.proofs.TokenKinds.{mark_bytes, mark_is_mark_kind, row_is_mark_kind, mark_kind_is}
use Rattle.cgrammar.proofs.Truth.{and-left, and-right, not-true}
use Rattle.cgrammar.specs.Operators.{row_of, mark_row, binary_rows, assignment_rows, member_rows, count_rows, IsBinary, IsAssignment, IsMember, IsCount}
use Rattle.cgrammar.specs.ReadStarts.{postfix_start, member_start, count_start}
use Rattle.cgrammar.specs.Terminals.{Terminal, is_mark_kind, is_mark, IsMark}
use Rattle.cgrammar.specs.declared.reading.starts.PostfixStart.TheVariants as postfix

-- the mark with these bytes, at a place
abbrev pub mark_at : List ℕ → Place → Terminal
mark_at bytes place = record { kind = Mark; bytes = bytes; place = place }

spelled : (bytes : List ℕ) (token : Terminal) → is_mark_kind token.kind ≡ true → token.bytes ≡ bytes → mark_at bytes token.place ≡ token
spelled bytes token kind same =
    let p : Mark ≡ token.kind = sym (mark_kind_is token.kind kind) in
    let q : bytes ≡ token.bytes = sym same in
    λ i. record { kind = p i; bytes = q i; place = token.place }

-- what holds of a mark by its bytes
pub mark_test : {B : Type 0} (test : Terminal → B) (answer : B) (bytes : List ℕ) (token : Terminal) → IsMark bytes token
    → ((place : Place) → test (mark_at bytes place) ≡ answer) → test token ≡ answer
mark_test test answer bytes token is known = ap test (sym (spelled bytes token (mark_is_mark_kind bytes token is) (mark_bytes bytes token is))) ∙ known token.place

-- what holds of each row of a table holds of a mark of that table
row_all : {A : Type 0} (test : List ℕ → Bool) (rows : List (List ℕ × A)) (bytes : List ℕ) (answer : A)
    → list_all (λ row. test row.0) rows ≡ true → row_of bytes rows ≡ Some answer → test bytes ≡ true
row_all test [] bytes answer all is = cc is
row_all {A} test (row ∷ rows) bytes answer all is =
    step (bytes_eq row.0 bytes) refl (row_all test rows bytes answer (and-right (test row.0) (list_all (λ r. test r.0) rows) all)) is
  where
    step : (same : Bool) → bytes_eq row.0 bytes ≡ same → (row_of bytes rows ≡ Some answer → test bytes ≡ true) → (if same then Some row.1 else row_of bytes rows) ≡ Some answer → test bytes ≡ true
    step true same further i = ap test (sym ((bytes_eq-Decides row.0 bytes).0 same)) ∙ and-left (test row.0) (list_all (λ r. test r.0) rows) all
    step false same further i = further i

pub row_test : {A : Type 0} (test : Terminal → Bool) (rows : List (List ℕ × A)) (token : Terminal) (answer : A) → mark_row rows token ≡ Some answer
    → ((place : Place) → list_all (λ row. test (mark_at row.0 place)) rows ≡ true) → test token ≡ true
row_test test rows token answer is all =
    let kind = row_is_mark_kind answer rows token is in
    let found = sym (ap (λ (mark : Bool). if mark then row_of token.bytes rows else None) kind) ∙ is in
    let here : token.bytes ≡ token.bytes = refl in
    ap test (sym (spelled token.bytes token kind here)) ∙ row_all (λ bytes. test (mark_at bytes token.place)) rows token.bytes answer (all token.place) found

pub row_fails : {A : Type 0} (test : Terminal → Bool) (rows : List (List ℕ × A)) (token : Terminal) (answer : A) → mark_row rows token ≡ Some answer
    → ((place : Place) → list_all (λ row. not (test (mark_at row.0 place))) rows ≡ true) → test token ≡ false
row_fails test rows token answer is all = not-true (test token) (row_test (λ t. not (test t)) rows token answer is all)

-- operators of the tables
pub binary_no_operand : (level : ℕ) (op : BinaryOp) (token : Terminal) → IsBinary level op token → goes_on_operand token ≡ false
unfolding postfix_start
binary_no_operand level op token is = row_fails goes_on_operand binary_rows token (level, op) is (λ place. refl)

pub assignment_no_conditional : (op : Option BinaryOp) (token : Terminal) → IsAssignment op token → goes_on_conditional token ≡ false
unfolding postfix_start
assignment_no_conditional op token is = row_fails goes_on_conditional assignment_rows token op is (λ place. refl)

-- marks
pub comma_no_assignment : (token : Terminal) → IsMark (codes ",") token → goes_on_assignment token ≡ false
unfolding postfix_start
comma_no_assignment token is = mark_test goes_on_assignment false (codes ",") token is (λ place. refl)

pub colon_no_expression : (token : Terminal) → IsMark (codes ":") token → goes_on_expression token ≡ false
unfolding postfix_start
colon_no_expression token is = mark_test goes_on_expression false (codes ":") token is (λ place. refl)

pub item_end_no_expression : (token : Terminal) → IsMark (codes "]") token → goes_on_expression token ≡ false
unfolding postfix_start
item_end_no_expression token is = mark_test goes_on_expression false (codes "]") token is (λ place. refl)

pub closing_no_expression : (token : Terminal) → IsMark (codes ")") token → goes_on_expression token ≡ false
unfolding postfix_start
closing_no_expression token is = mark_test goes_on_expression false (codes ")") token is (λ place. refl)

pub closing_no_list : (token : Terminal) → IsMark (codes ")") token → goes_on_list goes_on_assignment token ≡ false
unfolding postfix_start
closing_no_list token is = mark_test (goes_on_list goes_on_assignment) false (codes ")") token is (λ place. refl)

pub closing_no_path : (token : Terminal) → IsMark (codes ")") token → goes_on_path token ≡ false
closing_no_path token is = mark_test goes_on_path false (codes ")") token is (λ place. refl)

pub question_no_operand : (token : Terminal) → IsMark (codes "?") token → goes_on_operand token ≡ false
unfolding postfix_start
question_no_operand token is = mark_test goes_on_operand false (codes "?") token is (λ place. refl)

pub question_no_binary : (token : Terminal) → IsMark (codes "?") token → mark_row binary_rows token ≡ None
question_no_binary token is = mark_test (mark_row binary_rows) None (codes "?") token is (λ place. refl)

pub item_starts : (token : Terminal) → IsMark (codes "[") token → postfix_start token ≡ postfix.Index
unfolding postfix_start
item_starts token is = mark_test postfix_start postfix.Index (codes "[") token is (λ place. refl)

pub call_starts : (token : Terminal) → IsMark (codes "(") token → postfix_start token ≡ postfix.Call
unfolding postfix_start
call_starts token is = mark_test postfix_start postfix.Call (codes "(") token is (λ place. refl)

not_brackets : (token : Terminal) → is_mark (codes "[") token ≡ false → is_mark (codes "(") token ≡ false → postfix_start token ≡ member_start (mark_row member_rows token) token
unfolding postfix_start
not_brackets token one other =
    ap (λ (b : Bool). if b then postfix.Index else (if is_mark (codes "(") token then postfix.Call else member_start (mark_row member_rows token) token)) one
    ∙ ap (λ (b : Bool). if b then postfix.Call else member_start (mark_row member_rows token) token) other

pub member_starts : (through : Bool) (token : Terminal) → IsMember through token → postfix_start token ≡ postfix.Member through
member_starts through token is =
    not_brackets token (row_fails (is_mark (codes "[")) member_rows token through is (λ place. refl)) (row_fails (is_mark (codes "(")) member_rows token through is (λ place. refl))
    ∙ ap (λ (o : Option Bool). member_start o token) is

is_no_member : Option Bool → Bool
is_no_member None = true
is_no_member (Some through) = false

no_member_is : (o : Option Bool) → is_no_member o ≡ true → o ≡ None
unfolding is_no_member
no_member_is None is = refl
no_member_is (Some through) is = cc is

pub count_starts : (up : Bool) (token : Terminal) → IsCount up token → postfix_start token ≡ postfix.Count up
unfolding is_no_member
count_starts up token is =
    let none : mark_row member_rows token ≡ None = no_member_is (mark_row member_rows token) (row_test (λ t. is_no_member (mark_row member_rows t)) count_rows token up is (λ place. refl)) in
    not_brackets token (row_fails (is_mark (codes "[")) count_rows token up is (λ place. refl)) (row_fails (is_mark (codes "(")) count_rows token up is (λ place. refl))
    ∙ ap (λ (o : Option Bool). member_start o token) none
    ∙ ap count_start is
