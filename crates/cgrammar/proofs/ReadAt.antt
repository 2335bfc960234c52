-- From what is read of the row of a text to what stands at a token of it.
use Rattle.std.proofs.Common.{◌≡◌, ℕ, Bool, ◌+◌, ◌-◌, ◌≤◌, inl, inr, List, [], ◌∷◌, ◌++◌, map, take, drop, length, refl, ap, sym, ◌∙◌, subst, arith, codes}
use Rattle.std.specs.List.{prefix_len}
use Rattle.cbase.specs.declared.tree.expr.Expr.{Expr}
use Rattle.cbase.specs.declared.tree.stmt.Stmt.{Stmt}
use Rattle.ctrees.specs.Levels.{expr_levels}
use Rattle.ctokens.specs.Passed.{passed_tokens, unpassed}
use Rattle.ctokens.specs.declared.token.Tokens.{Tokens}
use Rattle.cgrammar.proofs.Between.{Counts, Rises, unpassed_split, counts_behind, unpassed_rises, last_rises, up_to_last, from_token, fronts_agree, numbered_counts}
use Rattle.cgrammar.proofs.Fronts.{front_of_both, last_place_of_nonempty, take_and_drop}
use Rattle.cgrammar.proofs.Reached.{Fronts, IsSound, Goes, Reaches, goes_on_expression}
use Rattle.cgrammar.proofs.Starting.{starts}
use Rattle.cgrammar.specs.Firsts.{Begins}
use Rattle.cgrammar.specs.FrontOf.{front_of}
use Rattle.cgrammar.specs.Grammar.{Spells}
use Rattle.cgrammar.specs.Outcomes.{Outcome, Nothing, Stopped, Read}
use Rattle.cgrammar.specs.Phrases.{Phrase, Context, Expression, CompoundStatement}
use Rattle.cgrammar.specs.ReadStatements.{read_block}
use Rattle.cgrammar.specs.Reader.{level}
use Rattle.ctokens.specs.TokenList.{AreNumbered}
use Rattle.cgrammar.specs.Readings.{row_between, at_first, IsReadAt, IsExpressionAt, IsLongestExpressionAt, IsBlockAt, block_levels}
use Rattle.cgrammar.specs.Scope.{Names}
use Rattle.cgrammar.specs.Starts.{begins_operand}
use Rattle.cgrammar.specs.Terminals.{Terminal, is_mark, terminal_of, terminals, last_place, comes_before}

-- what stands at and behind a token of a text
abbrev pub row_from : Tokens → ℕ → List Terminal
row_from t at = unpassed (drop at (passed_tokens t)) (drop at (map (terminal_of t.text) t.list))

counts_from : (t : Tokens) (at : ℕ) → AreNumbered t.list → Counts at (drop at (map (terminal_of t.text) t.list))
counts_from t at numbered =
    let all : Counts 0 (map (terminal_of t.text) t.list) = numbered_counts t.text 0 t.list (λ number other inside. numbered number other inside ∙ omega arith) in
    let from : 0 + at ≡ at = omega arith in
    let P : ℕ → Type 0 = λ n. Counts n (drop at (map (terminal_of t.text) t.list)) in
    subst P from (counts_behind at 0 (map (terminal_of t.text) t.list) all)

-- the tokens of the row that come before a token of the text are those before what stands there
pub row_at : (t : Tokens) (at : ℕ) → AreNumbered t.list → drop (prefix_len (comes_before at) (terminals t)) (terminals t) ≡ row_from t at
row_at t at numbered =
    let all : Counts 0 (map (terminal_of t.text) t.list) = numbered_counts t.text 0 t.list (λ number other inside. numbered number other inside ∙ omega arith) in
    let from : 0 + at ≡ at = omega arith in
    let P : ℕ → Type 0 = λ n. drop (prefix_len (comes_before n) (terminals t)) (terminals t) ≡ row_from t at in
    subst P from (from_token at 0 (passed_tokens t) (map (terminal_of t.text) t.list) all)

rises_at : (t : Tokens) (at : ℕ) → AreNumbered t.list → Rises at (row_from t at)
rises_at t at numbered = unpassed_rises at (drop at (passed_tokens t)) (drop at (map (terminal_of t.text) t.list)) (counts_from t at numbered)

-- what is spelled at the front of that row is read there
read_there : (t : Tokens) (scope : List Names) (at : ℕ) (phrase : Phrase) (behind : Context) (first : Terminal) (front rest : List Terminal) → AreNumbered t.list
    → row_from t at ≡ first ∷ (front ++ rest) → Spells phrase (at_first scope) (first ∷ front) behind
    → IsReadAt t scope at ((last_place (first ∷ front)).at + 1) phrase
read_there t scope at phrase behind first front rest numbered whole spelled =
    let same : row_between t at ((last_place (first ∷ front)).at + 1) ≡ first ∷ front =
    up_to_last at (drop at (passed_tokens t)) (drop at (map (terminal_of t.text) t.list)) first front rest (counts_from t at numbered) whole in
    let P : List Terminal → Type 0 = λ row. Spells phrase (at_first scope) row behind in
    record { behind = behind; spelled = subst P (sym same) spelled; last = ap (λ (row : List Terminal). (last_place row).at + 1) same }

-- what is read there is spelled at the front of that row
front_there : (t : Tokens) (at after : ℕ) → (rest : List Terminal) × (row_from t at ≡ row_between t at after ++ rest)
front_there t at after = (
  unpassed (drop (after - at) (drop at (passed_tokens t))) (drop (after - at) (drop at (map (terminal_of t.text) t.list))),
  unpassed_split (after - at) (drop at (passed_tokens t)) (drop at (map (terminal_of t.text) t.list)),
)

-- a longer front ends no earlier
ends_later : (base : ℕ) (row : List Terminal) (first : Terminal) (xs ys : List Terminal) (other : Terminal) (us vs : List Terminal) → Rises base row
    → row ≡ first ∷ (xs ++ ys) → row ≡ other ∷ (us ++ vs) → length ys ≤ length vs → (last_place (other ∷ us)).at ≤ (last_place (first ∷ xs)).at
ends_later base row first xs ys other us vs rises one two shorter =
    let agree = fronts_agree (first ∷ xs) ys (other ∷ us) vs (sym one ∙ two) shorter in
    let more : first ∷ xs ≡ other ∷ (us ++ agree.0) = agree.1 in
    let whole : row ≡ other ∷ ((us ++ agree.0) ++ ys) = one ∙ ap (λ (front : List Terminal). front ++ ys) more in
    let risen : Rises base (other ∷ (us ++ agree.0)) = front_rises base (other ∷ (us ++ agree.0)) ys (subst (Rises base) whole rises) in
    subst (λ (front : List Terminal). (last_place (other ∷ us)).at ≤ (last_place front).at) (sym more) (last_rises base other us agree.0 risen)
  where
    front_rises : (base : ℕ) (xs ys : List Terminal) → Rises base (xs ++ ys) → Rises base xs
    front_rises base [] ys rises = tt
    front_rises base (x ∷ xs) ys rises = (rises.0, front_rises (x.place.at + 1) xs ys rises.1)

-- That the reader reads what is spelled, and reads only that.
abbrev pub ExpressionsComplete : Type 0
ExpressionsComplete =
    (most : ℕ) (expr : Expr) (before after : Context) (front rest : List Terminal) → Spells (Expression expr) before front after → expr_levels expr ≤ most
    → Goes goes_on_expression expr (expr_levels expr) after rest ((level most).expression before (front ++ rest))

abbrev pub ExpressionsSound : Type 0
ExpressionsSound = (most : ℕ) (context : Context) (row : List Terminal) → IsSound Expression expr_levels most context row ((level most).expression context row)

abbrev pub BlocksComplete : Type 0
BlocksComplete =
    (most : ℕ) (body : List Stmt) (before after : Context) (front rest : List Terminal) → Spells (CompoundStatement body) before front after → block_levels body ≤ most
    → read_block (level most) before (front ++ rest) ≡ Read body (block_levels body) after rest

abbrev pub BlocksSound : Type 0
BlocksSound = (most : ℕ) (context : Context) (row : List Terminal) → IsSound CompoundStatement block_levels most context row (read_block (level most) context row)

-- an outcome leaves a rest
abbrev pub Leaves : {A : Type 0} → Outcome A → A → List Terminal → Type 0
Leaves Nothing tree rest = ⊥
Leaves (Stopped found expressions end) tree rest = (found ≡ tree) × (end ≡ rest)
Leaves (Read found levels behind end) tree rest = (found ≡ tree) × (end ≡ rest)

-- what reaches a row, and leaves another, leaves no more than it
leaves_less : {A : Type 0} (outcome : Outcome A) (tree : A) (rest row : List Terminal) → Leaves outcome tree rest → Reaches outcome row → length rest ≤ length row
leaves_less Nothing tree rest row leaves reaches = absurd leaves
leaves_less (Stopped found expressions end) tree rest row leaves reaches = omega (arith, ap length (leaves.1), reaches)
leaves_less (Read found levels behind end) tree rest row leaves reaches = omega (arith, ap length (leaves.1), reaches)

-- the tree that is left is spelled, and has no more levels than it may have
pub record IsSpelled {A : Type 0} (phrase : A → Phrase) (levels : A → ℕ) (most : ℕ) (before : Context) (row : List Terminal) (tree : A) (rest : List Terminal) : Type 0 where
  pub behind : Context
  pub fronts : Fronts (phrase tree) before row behind rest
  pub small : levels tree ≤ most

pub spelled_left : {A : Type 0} (phrase : A → Phrase) (levels : A → ℕ) (most : ℕ) (before : Context) (row : List Terminal) (outcome : Outcome A) (tree : A) (rest : List Terminal)
    → IsSound phrase levels most before row outcome → Leaves outcome tree rest → IsSpelled phrase levels most before row tree rest
spelled_left phrase levels most before row Nothing tree rest sound leaves = absurd leaves
spelled_left phrase levels most before row (Stopped found expressions end) tree rest sound leaves =
    subst (λ t. IsSpelled phrase levels most before row t rest) leaves.0
    (subst (λ r. IsSpelled phrase levels most before row found r) leaves.1 (record { behind = sound.0; fronts = sound.2; small = sound.3 }))
spelled_left phrase levels most before row (Read found count behind end) tree rest sound leaves =
    subst (λ t. IsSpelled phrase levels most before row t rest) leaves.0
    (subst (λ r. IsSpelled phrase levels most before row found r) leaves.1 (record { behind = behind; fronts = sound.0; small = omega (arith, sound.1, sound.2) }))

-- the last token that was taken
pub last_taken : (row front : List Terminal) (first : Terminal) (start end : ℕ) → drop start row ≡ first ∷ (front ++ drop end row)
    → last_place (take end row) ≡ last_place (first ∷ front)
last_taken row front first start end whole =
    let both : take start row ++ (first ∷ (front ++ drop end row)) ≡ row = ap (λ (xs : List Terminal). take start row ++ xs) (sym whole) ∙ take_and_drop start row in
    let joined : (take start row ++ (first ∷ front)) ++ drop end row ≡ row = append_assoc (take start row) (first ∷ front) (drop end row) ∙ both in
    let same : take end row ≡ take start row ++ (first ∷ front) =
    sym (front_of_both (take end row) (drop end row))
    ∙ (ap (λ (xs : List Terminal). front_of xs (drop end row)) (take_and_drop end row ∙ sym joined) ∙ front_of_both (take start row ++ (first ∷ front)) (drop end row)) in
    ap last_place same ∙ last_place_of_nonempty (take start row) (first ∷ front) (omega arith)
  where
    append_assoc : (xs ys zs : List Terminal) → (xs ++ ys) ++ zs ≡ xs ++ (ys ++ zs)
    append_assoc [] ys zs = refl
    append_assoc (x ∷ xs) ys zs = ap (λ (ws : List Terminal). x ∷ ws) (append_assoc xs ys zs)

-- from a front of the row at a token to what is read there
pub found_there : {A : Type 0} (phrase : A → Phrase) (levels : A → ℕ) (most : ℕ) (t : Tokens) (scope : List Names) (at end : ℕ) (tree : A) → AreNumbered t.list
    → ((front : List Terminal) (behind : Context) → Spells (phrase tree) (at_first scope) front behind → (test : Terminal → Bool) × Begins test front)
    → IsSpelled phrase levels most (at_first scope) (row_from t at) tree (drop end (terminals t))
    → IsReadAt t scope at ((last_place (take end (terminals t))).at + 1) (phrase tree)
found_there phrase levels most t scope at end tree numbered begins spelled =
    step spelled.fronts.front spelled.fronts.whole spelled.fronts.spelled (begins spelled.fronts.front spelled.behind spelled.fronts.spelled)
  where
    step : (front : List Terminal) → row_from t at ≡ front ++ drop end (terminals t) → Spells (phrase tree) (at_first scope) front spelled.behind → (test : Terminal → Bool) × Begins test front
        → IsReadAt t scope at ((last_place (take end (terminals t))).at + 1) (phrase tree)
    step [] whole spells first = absurd first.1
    step (first ∷ front) whole spells some =
        let taken : last_place (take end (terminals t)) ≡ last_place (first ∷ front) =
        last_taken (terminals t) front first (prefix_len (comes_before at) (terminals t)) end (row_at t at numbered ∙ whole) in
        subst (λ place. IsReadAt t scope at (place.at + 1) (phrase tree)) (sym taken) (read_there t scope at (phrase tree) spelled.behind first front (drop end (terminals t)) numbered whole spells)

-- an outcome that is a tree, or goes further, leaves no more than what stands behind the tree
pub goes_less : (expr : Expr) (levels : ℕ) (after : Context) (rest : List Terminal) (outcome : Outcome Expr) (tree : Expr) (end : List Terminal)
    → Goes goes_on_expression expr levels after rest outcome → Leaves outcome tree end → length end ≤ length rest
goes_less expr levels after rest outcome tree end (inl same) leaves =
    let left : (expr ≡ tree) × (rest ≡ end) = subst (λ o. Leaves o tree end) same leaves in
    omega (arith, ap length (left.1))
goes_less expr levels after rest outcome tree end (inr further) leaves = leaves_less outcome tree end rest leaves further.1

pub goes_some : (expr : Expr) (levels : ℕ) (after : Context) (rest : List Terminal) (outcome : Outcome Expr) → Goes goes_on_expression expr levels after rest outcome → outcome ≡ Nothing → ⊥
goes_some expr levels after rest outcome (inl same) none = let clash : Read expr levels after rest ≡ Nothing = sym same ∙ none in cc clash
goes_some expr levels after rest outcome (inr further) none = subst (λ o. Reaches o rest) none further.1

expression_begins : (expr : Expr) (before : Context) (front : List Terminal) (behind : Context) → Spells (Expression expr) before front behind → (test : Terminal → Bool) × Begins test front
expression_begins expr before front behind spells = (begins_operand, starts spells)

-- the row that is spelled from a token on has a first token, and what it goes on to ends no later than a longer one
ends_no_later : (t : Tokens) (scope : List Names) (at end number : ℕ) (other : Expr) (first : Terminal) (front : List Terminal) → AreNumbered t.list
    → row_from t at ≡ first ∷ (front ++ drop end (terminals t))
    → (there : IsReadAt t scope at number (Expression other))
    → length (drop end (terminals t)) ≤ length ((front_there t at number).0)
    → number ≤ (last_place (first ∷ front)).at + 1
ends_no_later t scope at end number other first front numbered whole there shorter =
    step (row_between t at number) refl (starts there.spelled)
  where
    step : (row : List Terminal) → row_between t at number ≡ row → Begins begins_operand (row_between t at number) → number ≤ (last_place (first ∷ front)).at + 1
    step [] same begins = absurd (subst (Begins begins_operand) same begins)
    step (one ∷ us) same begins =
        let two : row_from t at ≡ one ∷ (us ++ (front_there t at number).0) = (front_there t at number).1 ∙ ap (λ (row : List Terminal). row ++ (front_there t at number).0) same in
        let later = ends_later at (row_from t at) first front (drop end (terminals t)) one us ((front_there t at number).0) (rises_at t at numbered) whole two shorter in
        let last : (last_place (one ∷ us)).at + 1 ≡ number = ap (λ (row : List Terminal). (last_place row).at + 1) (sym same) ∙ there.last in
        omega (arith, later, last)

-- what the reader leaves is the longest expression
pub longest_there : ExpressionsComplete → ExpressionsSound → (t : Tokens) (scope : List Names) (at end most : ℕ) (outcome : Outcome Expr) (tree : Expr) → AreNumbered t.list
    → outcome ≡ (level most).expression (at_first scope) (row_from t at) → Leaves outcome tree (drop end (terminals t))
    → IsLongestExpressionAt most t scope at ((last_place (take end (terminals t))).at + 1) tree
longest_there complete sound t scope at end most outcome tree numbered is leaves =
    let sounds : IsSound Expression expr_levels most (at_first scope) (row_from t at) outcome = subst (IsSound Expression expr_levels most (at_first scope) (row_from t at)) (sym is) (sound most (at_first scope) (row_from t at)) in
    let spelled : IsSpelled Expression expr_levels most (at_first scope) (row_from t at) tree (drop end (terminals t)) =
    spelled_left Expression expr_levels most (at_first scope) (row_from t at) outcome tree (drop end (terminals t)) sounds leaves in
    let found = found_there Expression expr_levels most t scope at end tree numbered (expression_begins tree (at_first scope)) spelled in
    ((found, spelled.small), λ other number there. longest spelled.fronts.front spelled.fronts.whole (starts spelled.fronts.spelled) other number there)
  where
    longest : (front : List Terminal) → row_from t at ≡ front ++ drop end (terminals t) → Begins begins_operand front
        → (other : Expr) (number : ℕ) → IsExpressionAt most t scope at number other → number ≤ (last_place (take end (terminals t))).at + 1
    longest [] whole begins other number there = absurd begins
    longest (first ∷ front) whole begins other number there =
        let taken : last_place (take end (terminals t)) ≡ last_place (first ∷ front) =
        last_taken (terminals t) front first (prefix_len (comes_before at) (terminals t)) end (row_at t at numbered ∙ whole) in
        let goes : Goes goes_on_expression other (expr_levels other) there.0.behind ((front_there t at number).0) ((level most).expression (at_first scope) (row_between t at number ++ (front_there t at number).0)) =
        complete most other (at_first scope) there.0.behind (row_between t at number) ((front_there t at number).0) there.0.spelled there.1 in
        let goes_there : Goes goes_on_expression other (expr_levels other) there.0.behind ((front_there t at number).0) outcome =
        subst (Goes goes_on_expression other (expr_levels other) there.0.behind ((front_there t at number).0))
        (ap (λ (row : List Terminal). (level most).expression (at_first scope) row) (sym ((front_there t at number).1)) ∙ sym is) goes in
        let shorter = goes_less other (expr_levels other) there.0.behind ((front_there t at number).0) outcome tree (drop end (terminals t)) goes_there leaves in
        let later = ends_no_later t scope at end number other first front numbered whole there.0 shorter in
        omega (arith, later, ap (λ place. place.at) taken)

-- where it reads nothing no expression begins
pub none_there : ExpressionsComplete → (t : Tokens) (scope : List Names) (at most : ℕ) → Nothing ≡ (level most).expression (at_first scope) (row_from t at)
    → (expr : Expr) (after : ℕ) → IsExpressionAt most t scope at after expr → ⊥
none_there complete t scope at most is expr after there =
    let rest = (front_there t at after).0 in
    goes_some expr (expr_levels expr) there.0.behind rest ((level most).expression (at_first scope) (row_between t at after ++ rest))
    (complete most expr (at_first scope) there.0.behind (row_between t at after) rest there.0.spelled there.1)
    (ap (λ (row : List Terminal). (level most).expression (at_first scope) row) (sym ((front_there t at after).1)) ∙ sym is)

-- the same of blocks
block_begins : (body : List Stmt) (before : Context) (front : List Terminal) (behind : Context) → Spells (CompoundStatement body) before front behind → (test : Terminal → Bool) × Begins test front
block_begins body before front behind spells = (is_mark (codes "{"), starts spells)

pub block_there : BlocksSound → (t : Tokens) (scope : List Names) (at end most : ℕ) (outcome : Outcome (List Stmt)) (body : List Stmt) → AreNumbered t.list
    → outcome ≡ read_block (level most) (at_first scope) (row_from t at) → Leaves outcome body (drop end (terminals t))
    → IsBlockAt most t scope at ((last_place (take end (terminals t))).at + 1) body
block_there sound t scope at end most outcome body numbered is leaves =
    let sounds : IsSound CompoundStatement block_levels most (at_first scope) (row_from t at) outcome = subst (IsSound CompoundStatement block_levels most (at_first scope) (row_from t at)) (sym is) (sound most (at_first scope) (row_from t at)) in
    let spelled : IsSpelled CompoundStatement block_levels most (at_first scope) (row_from t at) body (drop end (terminals t)) =
    spelled_left CompoundStatement block_levels most (at_first scope) (row_from t at) outcome body (drop end (terminals t)) sounds leaves in
    (found_there CompoundStatement block_levels most t scope at end body numbered (block_begins body (at_first scope)) spelled, spelled.small)

pub no_block_there : BlocksComplete → (t : Tokens) (scope : List Names) (at most : ℕ) → Nothing ≡ read_block (level most) (at_first scope) (row_from t at)
    → (body : List Stmt) (after : ℕ) → IsBlockAt most t scope at after body → ⊥
no_block_there complete t scope at most is body after there =
    let rest = (front_there t at after).0 in
    let read = complete most body (at_first scope) there.0.behind (row_between t at after) rest there.0.spelled there.1 in
    let clash : Nothing ≡ Read body (block_levels body) there.0.behind rest = is ∙ (ap (λ (row : List Terminal). read_block (level most) (at_first scope) row) ((front_there t at after).1) ∙ read) in
    cc clash
