-- The reader is complete on the arguments of a call and on the members of `__builtin_offsetof` (C11 6.5.2, 7.19).
use Rattle.std.proofs.Common.{◌≡◌, ℕ, zero, suc, Bool, true, false, ◌&&◌, not, ◌<◌, inl, inr, max, map, List, [], ◌∷◌, ◌++◌, codes, length, IsTrue, refl, ap, sym, ◌∙◌, arith}
use Rattle.std.specs.Prelude.{if◌then◌else◌}
use Rattle.std.proofs.lemmas.List.{append_assoc, length-append}
use Rattle.cbase.specs.declared.tree.expr.Expr.{Expr}
use Rattle.cbase.specs.declared.tree.expr.Part.{Part}
use Rattle.cbase.specs.declared.tree.expr.Part.TheVariants.{Member as NamedPart, At}
use Rattle.ctrees.specs.Levels.{depth, expr_levels, part_levels}
use Rattle.ctrees.specs.Weight.{joined}
use Rattle.ctokens.proofs.Choices.{chosen_yes, chosen_no}
use Rattle.cgrammar.proofs.CompleteSteps.{first_more, goes_exactly}
use Rattle.cgrammar.proofs.CompleteTokens.{mark_test, comma_no_assignment, item_end_no_expression}
use Rattle.cgrammar.proofs.Reached.{Goes, Ends, Completes, goes_on_assignment, goes_on_conditional, goes_on_list, goes_on_path, is_some_assignment}
use Rattle.cgrammar.proofs.TreeLevels.{joined_one, levels_named_part, levels_at}
use Rattle.cgrammar.proofs.Truth.{or-left, or-right, or-false-left, clash, not-true}
use Rattle.cgrammar.specs.Operators.{mark_row, assignment_rows}
use Rattle.cgrammar.specs.Outcomes.{Outcome, Nothing, Read, Reader, then_read, after_mark, has_first, has_mark, behind_first}
use Rattle.cgrammar.specs.Phrases.{Context, Assignment, Arguments, Conditional, MemberPath}
use Rattle.cgrammar.specs.ReadLevels.{Level, prepended, read_list}
use Rattle.cgrammar.specs.ReadOperands.{read_path}
use Rattle.cgrammar.specs.ReadTypes.{never}
use Rattle.cgrammar.specs.Reader.{level}
use Rattle.cgrammar.specs.Terminals.{Terminal, is_mark, IsMark, is_name, IsName}
use Rattle.cgrammar.specs.Trees.{identifier}

-- what ends a phrase ends each part of it that it goes on with
pub ends_less : (test other : Terminal → Bool) (row : List Terminal) → ((token : Terminal) → IsTrue (test token) → IsTrue (other token)) → Ends other row → has_first test row ≡ false
ends_less test other row more ends = step (has_first test row) refl
  where
    step : (b : Bool) → has_first test row ≡ b → b ≡ false
    step true is = absurd (clash (has_first other row) (first_more test other row more is) (not-true (has_first other row) ends))
    step false is = refl

pub ends_exactly : {A : Type 0} (test other : Terminal → Bool) (tree : A) (levels : ℕ) (after : Context) (rest : List Terminal) (outcome : Outcome A)
    → ((token : Terminal) → IsTrue (test token) → IsTrue (other token)) → Ends other rest → Goes test tree levels after rest outcome → outcome ≡ Read tree levels after rest
ends_exactly test other tree levels after rest outcome more ends (inl is) = is
ends_exactly test other tree levels after rest outcome more ends (inr (goes, far)) = absurd (clash (has_first test rest) goes (ends_less test other rest more ends))

-- the last item of a list, and one before a comma
pub list_last : {A : Type 0} (item : Reader A) (count : ℕ) (context : Context) (row : List Terminal) (tree : A) (levels : ℕ) (behind : Context) (rest : List Terminal)
    → item context row ≡ Read tree levels behind rest → has_mark (codes ",") rest ≡ false
    → read_list never item (suc count) context row ≡ Read (tree ∷ []) levels behind rest
unfolding read_list
list_last item count context row tree levels behind rest read ends =
    ap (λ o. then_read o (λ tree levels behind rest.
    if has_mark (codes ",") rest && not (never (behind_first rest))
    then prepended tree levels (read_list never item count behind (behind_first rest))
    else Read (tree ∷ []) levels behind rest)) read
    ∙ chosen_no (has_mark (codes ",") rest && not (never (behind_first rest))) (prepended tree levels (read_list never item count behind (behind_first rest))) (Read (tree ∷ []) levels behind rest)
    (ap (λ (b : Bool). b && not (never (behind_first rest))) ends)

pub list_more : {A : Type 0} (item : Reader A) (count : ℕ) (context : Context) (row : List Terminal) (tree : A) (levels : ℕ) (behind : Context) (comma : Terminal) (rest : List Terminal)
    → item context row ≡ Read tree levels behind (comma ∷ rest) → is_mark (codes ",") comma ≡ true
    → read_list never item (suc count) context row ≡ prepended tree levels (read_list never item count behind rest)
unfolding read_list
list_more item count context row tree levels behind comma rest read more =
    ap (λ o. then_read o (λ tree levels behind rest.
    if has_mark (codes ",") rest && not (never (behind_first rest))
    then prepended tree levels (read_list never item count behind (behind_first rest))
    else Read (tree ∷ []) levels behind rest)) read
    ∙ chosen_yes (is_mark (codes ",") comma && true) (prepended tree levels (read_list never item count behind rest)) (Read (tree ∷ []) levels behind (comma ∷ rest))
    (ap (λ (b : Bool). b && true) more)

-- arguments
argument_goes_on : (token : Terminal) → goes_on_assignment token ≡ true → goes_on_list goes_on_assignment token ≡ true
argument_goes_on token is = or-left (is_mark (codes ",") token) is

comma_goes_on : (token : Terminal) → is_mark (codes ",") token ≡ true → goes_on_list goes_on_assignment token ≡ true
comma_goes_on token is = or-right (goes_on_assignment token) is

pub complete_one_argument : (before after : Context) (xs : List Terminal) (expr : Expr) → Completes (Assignment expr) before xs after → Completes (Arguments (expr ∷ [])) before xs after
complete_one_argument before after xs expr whole n zero rest shorter fits ends = absurd (omega (arith, shorter))
complete_one_argument before after xs expr whole n (suc count) rest shorter fits ends =
    let one = joined_one (expr_levels expr) in
    list_last (level n).assignment count before (xs ++ rest) expr (expr_levels expr) after rest
    (ends_exactly goes_on_assignment (goes_on_list goes_on_assignment) expr (expr_levels expr) after rest ((level n).assignment before (xs ++ rest)) argument_goes_on ends (whole n rest (omega (arith, fits, one))))
    (ends_less (is_mark (codes ",")) (goes_on_list goes_on_assignment) rest comma_goes_on ends)
    ∙ ap (λ (n : ℕ). Read (expr ∷ []) n after rest) (sym one)

less_behind : (xs ys rest : List Terminal) (comma : Terminal) (count : ℕ) → length ((xs ++ (comma ∷ ys)) ++ rest) < suc count → length (ys ++ rest) < count
less_behind xs ys rest comma count less =
    let one = length-append (xs ++ (comma ∷ ys)) rest in
    let two = length-append xs (comma ∷ ys) in
    let three = length-append ys rest in
    omega (arith, less, one, two, three)

pub complete_more_arguments : (before middle after : Context) (xs ys : List Terminal) (expr : Expr) (others : List Expr) (comma : Terminal) → IsMark (codes ",") comma
    → Completes (Assignment expr) before xs middle → Completes (Arguments others) middle ys after
    → Completes (Arguments (expr ∷ others)) before (xs ++ (comma ∷ ys)) after
complete_more_arguments before middle after xs ys expr others comma is one more n zero rest shorter fits ends = absurd (omega (arith, shorter))
complete_more_arguments before middle after xs ys expr others comma is one more n (suc count) rest shorter fits ends =
    ap (read_list never (level n).assignment (suc count) before) (append_assoc xs (comma ∷ ys) rest)
    ∙ list_more (level n).assignment count before (xs ++ (comma ∷ (ys ++ rest))) expr (expr_levels expr) middle comma (ys ++ rest)
    (goes_exactly goes_on_assignment expr (expr_levels expr) middle comma (ys ++ rest) ((level n).assignment before (xs ++ (comma ∷ (ys ++ rest)))) (comma_no_assignment comma is) (one n (comma ∷ (ys ++ rest)) (omega (arith, fits)))) is
    ∙ ap (prepended expr (expr_levels expr)) (more n count rest (less_behind xs ys rest comma count shorter) (omega (arith, fits)) ends)

-- members
path_ends : (inner : Level) (count : ℕ) (context : Context) (row : List Terminal) → has_mark (codes ".") row ≡ false → has_mark (codes "[") row ≡ false
    → read_path inner (suc count) context row ≡ Read [] 0 context row
unfolding read_path
path_ends inner count context row one other = chosen_no (has_mark (codes ".") row) _ _ one ∙ chosen_no (has_mark (codes "[") row) _ (Read [] 0 context row) other

dot_goes_on : (token : Terminal) → is_mark (codes ".") token ≡ true → goes_on_path token ≡ true
dot_goes_on token is = or-left (is_mark (codes "[") token) is

item_goes_on : (token : Terminal) → is_mark (codes "[") token ≡ true → goes_on_path token ≡ true
item_goes_on token is = or-right (is_mark (codes ".") token) is

pub complete_no_more_members : (before : Context) → Completes (MemberPath []) before [] before
complete_no_more_members before n zero rest shorter fits ends = absurd (omega (arith, shorter))
complete_no_more_members before n (suc count) rest shorter fits ends =
    path_ends (level n) count before rest (ends_less (is_mark (codes ".")) goes_on_path rest dot_goes_on ends) (ends_less (is_mark (codes "[")) goes_on_path rest item_goes_on ends)

member_read : (inner : Level) (count : ℕ) (context : Context) (mark name : Terminal) (row : List Terminal) → is_mark (codes ".") mark ≡ true → is_name name ≡ true
    → read_path inner (suc count) context (mark ∷ (name ∷ row)) ≡ prepended (NamedPart (identifier name)) 0 (read_path inner count context row)
unfolding read_path
member_read inner count context mark name row is named = chosen_yes (is_mark (codes ".") mark) _ _ is ∙ chosen_yes (is_name name) _ Nothing named

pub complete_path_to_member : (before after : Context) (xs : List Terminal) (path : List Part) (mark name : Terminal) → IsMark (codes ".") mark → IsName name
    → Completes (MemberPath path) before xs after → Completes (MemberPath (NamedPart (identifier name) ∷ path)) before (mark ∷ (name ∷ xs)) after
complete_path_to_member before after xs path mark name is named whole n zero rest shorter fits ends = absurd (omega (arith, shorter))
complete_path_to_member before after xs path mark name is named whole n (suc count) rest shorter fits ends =
    member_read (level n) count before mark name (xs ++ rest) is named
    ∙ ap (prepended (NamedPart (identifier name)) 0) (whole n count rest (omega (arith, shorter)) (omega (arith, fits)) ends)
    ∙ ap (λ (m : ℕ). Read (NamedPart (identifier name) ∷ path) (max m (joined depth (map part_levels path))) after rest) (sym (levels_named_part (identifier name)))

item_no_dot : (token : Terminal) → is_mark (codes "[") token ≡ true → is_mark (codes ".") token ≡ false
item_no_dot token is = mark_test (is_mark (codes ".")) false (codes "[") token is (λ place. refl)

item_read : (inner : Level) (count : ℕ) (context : Context) (opening : Terminal) (row : List Terminal) (index : Expr) (levels : ℕ) (behind : Context) (closing : Terminal) (rest : List Terminal)
    → is_mark (codes "[") opening ≡ true → is_mark (codes "]") closing ≡ true → inner.conditional context row ≡ Read index levels behind (closing ∷ rest)
    → read_path inner (suc count) context (opening ∷ row) ≡ prepended (At index) levels (read_path inner count behind rest)
unfolding read_path
item_read inner count context opening row index levels behind closing rest is ends read =
    chosen_no (is_mark (codes ".") opening) _ _ (item_no_dot opening is)
    ∙ chosen_yes (is_mark (codes "[") opening) _ (Read [] 0 context (opening ∷ row)) is
    ∙ ap (λ o. then_read o (λ index levels behind rest. after_mark (codes "]") rest Nothing (λ closing others. prepended (At index) levels (read_path inner count behind others)))) read
    ∙ chosen_yes (is_mark (codes "]") closing) _ Nothing ends

item_end_no_conditional : (token : Terminal) → is_mark (codes "]") token ≡ true → goes_on_conditional token ≡ false
item_end_no_conditional token is =
    or-false-left (goes_on_conditional token) (is_some_assignment (mark_row assignment_rows token))
    (or-false-left (goes_on_assignment token) (is_mark (codes ",") token) (item_end_no_expression token is))

pub complete_path_to_item : (before middle after : Context) (xs ys : List Terminal) (index : Expr) (path : List Part) (opening closing : Terminal) → IsMark (codes "[") opening → IsMark (codes "]") closing
    → Completes (Conditional index) before xs middle → Completes (MemberPath path) middle ys after
    → Completes (MemberPath (At index ∷ path)) before (opening ∷ (xs ++ (closing ∷ ys))) after
complete_path_to_item before middle after xs ys index path opening closing opens closes one more n zero rest shorter fits ends = absurd (omega (arith, shorter))
complete_path_to_item before middle after xs ys index path opening closing opens closes one more n (suc count) rest shorter fits ends =
    let at = levels_at index in
    ap (λ (row : List Terminal). read_path (level n) (suc count) before (opening ∷ row)) (append_assoc xs (closing ∷ ys) rest)
    ∙ item_read (level n) count before opening (xs ++ (closing ∷ (ys ++ rest))) index (expr_levels index) middle closing (ys ++ rest) opens closes
    (goes_exactly goes_on_conditional index (expr_levels index) middle closing (ys ++ rest) ((level n).conditional before (xs ++ (closing ∷ (ys ++ rest)))) (item_end_no_conditional closing closes) (one n (closing ∷ (ys ++ rest)) (omega (arith, fits, at))))
    ∙ ap (prepended (At index) (expr_levels index)) (more n count rest (less_behind xs ys rest closing count (omega (arith, shorter))) (omega (arith, fits)) ends)
    ∙ ap (λ (m : ℕ). Read (At index ∷ path) (max m (joined depth (map part_levels path))) after rest) (sym at)
