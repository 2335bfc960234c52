-- What is found of the block of a statement expression.
use Rattle.std.proofs.Common.{◌≡◌, ◌<◌, ℕ, true, false, List, [], ◌∷◌, ◌++◌, map, length, refl, sym, ap, subst, ◌∙◌, ◌≤◌, ◌+◌, ◌-◌, take, drop, get_or, arith, length-drop, None, Some, append-nil, Result, Ok, Err, IfOk}
use Rattle.std.proofs.lemmas.List.{append_assoc, map-append, drop_all, take_all}
use Rattle.cbase.specs.declared.abi.Abi.{Abi}
use Rattle.cbase.specs.declared.ctype.CType.{CType}
use Rattle.cbase.specs.declared.ctype.CType.TheVariants.{Void as VoidType}
use Rattle.cbase.specs.declared.no_memory.NoMemory.{NoMemory}
use Rattle.cbase.specs.declared.place.Place.{Place}
use Rattle.cbase.specs.declared.tree.expr.Expr.{Expr}
use Rattle.cbase.specs.declared.tree.expr.ExprForm.TheOpen.{Inner}
use Rattle.cbase.specs.declared.tree.expr.ExprForm.TheViews.{out-StmtForm}
use Rattle.cbase.specs.declared.tree.stmt.Stmt.{Stmt}
use Rattle.typing.specs.environment.Environment.{scope_entered, scope_left}
use Rattle.typing.specs.declared.ctypes.found.Broken.{Broken}
use Rattle.typing.specs.declared.ctypes.found.Broken.TheVariants.{Rule}
use Rattle.typing.specs.ctypes.Broken.{Typed}
use Rattle.typing.specs.ctypes.Kinds.{kind_of}
use Rattle.typing.specs.declared.fault.Fault.{Fault}
use Rattle.typing.specs.Calls.{is_struct}
use Rattle.typing.specs.Faults.{fault}
use Rattle.typing.specs.Forms.{value_in}
use Rattle.typing.specs.Known.{value_type, plain}
use Rattle.typing.specs.Nodes.{are_empty, is_last_value}
use Rattle.typing.specs.Outcomes.{Outcome, Handed, Passes, Refused}
use Rattle.typing.specs.Pieces.{Loaded, BlockOf}
use Rattle.typing.specs.Rules.{StatementExpression}
use Rattle.typing.specs.Told.{Told, ValueIs}
use Rattle.typing.specs.Typing.{PieceIs, PiecesAre, StatementsAre, StatementIs, Finds, NoPieces, MorePieces, RefusedHere, BlockInside, BlockRefused, LastExpression, LastStruct, LastRefused, NoStatements, MoreStatements, StatementRefused, StatementsRefused}
use Rattle.expressions.specs.declared.found.Found.{Found}
use Rattle.expressions.specs.declared.found.Found.TheVariants.{Passes as FoundToPass, Refused as FoundRefused}
use Rattle.expressions.specs.declared.handed_row.HandedRow.{HandedRow}
use Rattle.expressions.specs.declared.known.Known.{Known as KnownByNumber}
use Rattle.expressions.specs.Context.{Context, Declared, declared, Agrees, Grows}
use Rattle.expressions.specs.Found.{an_expression, an_operand, a_value_type, one_value, nothing}
use Rattle.expressions.specs.Numbers.{Numbering, known_at, handed_at}
use Rattle.expressions.specs.Operated.{Numbers}
use Rattle.expressions.specs.Language.{language, left}
use Rattle.expressions.specs.Settled.{HandsOn, Judged, IsSettledBy}
use Rattle.expressions.specs.Walked.{Passed, Stopped, Walked, Says, SaysForm}
use Rattle.expressions.proofs.Growth.{agrees_before, agrees_before_types, grows_same, grows_trans, only_types_grows}
use Rattle.expressions.proofs.Loops.{next_item}
use Rattle.expressions.proofs.TypeWords.{declared_by_types, grows_to}
use Rattle.expressions.proofs.Walking.{handed_behind, passed_of, stopped_of, judged_result}

-- the statements from one on, as code takes them
pub rest_of : (body : List Stmt) (index : ℕ) → take (length body - index) (drop index body) ≡ drop index body
rest_of body index = take_all (length body - index) (drop index body) (omega (arith, length-drop index body))

module _ (abi : Abi) (stmt : Stmt) (rest : List Stmt) (expr : Expr) (old mid : Context) where
  -- the last statement that is not empty is an expression: a struct is no value of a block
  pub last_struct : (known : KnownByNumber) (found : Found KnownByNumber) → value_in (out-StmtForm stmt.form) ≡ Some expr → are_empty rest ≡ true → found ≡ FoundToPass known
      → Walked (Says abi (λ o. PieceIs (Loaded expr) o)) an_operand old mid found
      → ((n : Numbering) → Agrees n mid → is_struct (kind_of mid.structs (n.ctype known.ctype)) ≡ true)
      → Stopped (Says abi (λ o. StatementsAre (stmt ∷ rest) o)) old mid (fault expr.place (Rule 4))
  last_struct known found value empty passes walked struct =
      let passed = passed_of (Says abi (λ o. PieceIs (Loaded expr) o)) an_operand old mid known found passes walked in
      record { grows = passed.grows; found = λ n agrees. LastStruct value empty (passed.found n agrees) refl (struct n agrees) }

  -- any other value, in which an array is a pointer
  pub last_passes : (new : Context) (known : KnownByNumber) (found : Found KnownByNumber) (number : ℕ) → value_in (out-StmtForm stmt.form) ≡ Some expr → are_empty rest ≡ true → found ≡ FoundToPass known
      → Walked (Says abi (λ o. PieceIs (Loaded expr) o)) an_operand old mid found
      → ((n : Numbering) → Agrees n mid → is_struct (kind_of mid.structs (n.ctype known.ctype)) ≡ false)
      → Numbers (λ n. value_type (kind_of mid.structs (n.ctype known.ctype)) (n.ctype known.ctype)) mid new number
      → Passed (Says abi (λ o. StatementsAre (stmt ∷ rest) o)) a_value_type old new number
  last_passes new known found number value empty passes walked other numbers =
      let passed = passed_of (Says abi (λ o. PieceIs (Loaded expr) o)) an_operand old mid known found passes walked in
      record {
        rows = passed.rows;
        handed = numbers.only_types.handed ∙ passed.handed;
        grows = grows_trans old mid new passed.grows (only_types_grows mid new numbers.only_types);
        below = numbers.below;
        found = λ n agrees.
            let before : Agrees n mid = agrees_before_types mid new n numbers.only_types agrees in
            subst (λ (after : Declared). Finds (language abi n) (declared old) (StatementsAre (stmt ∷ rest) (Passes (n.ctype number) (map (handed_at n) passed.rows))) after) (declared_by_types mid new numbers.only_types)
            (subst (λ (t : CType). Finds (language abi n) (declared old) (StatementsAre (stmt ∷ rest) (Passes t (map (handed_at n) passed.rows))) (declared mid)) (sym (numbers.meant n agrees))
            (LastExpression value empty (passed.found n before) refl (other n before)));
      }

  pub last_refused : (first : Fault) (found : Found KnownByNumber) → value_in (out-StmtForm stmt.form) ≡ Some expr → are_empty rest ≡ true → found ≡ FoundRefused first
      → Walked (Says abi (λ o. PieceIs (Loaded expr) o)) an_operand old mid found → Stopped (Says abi (λ o. StatementsAre (stmt ∷ rest) o)) old mid first
  last_refused first found value empty refused walked =
      let stopped = stopped_of (Says abi (λ o. PieceIs (Loaded expr) o)) an_operand old mid first found refused walked in
      record { grows = stopped.grows; found = λ n agrees. LastRefused value empty (stopped.found n agrees) }

-- a context inside one more scope, and outside the innermost one
abbrev pub inside : Context → Context
inside context = record context { environment = scope_entered context.environment }

abbrev pub outside : Context → Context
outside context = record context { environment = scope_left context.environment }

module _ (abi : Abi) (body : List Stmt) (old mid late new : Context) (opened : mid ≡ inside old) (closed : new ≡ outside late) where
  grows_inside : Grows old mid
  grows_inside = grows_to old mid (ap (λ (c : Context). c.types) opened) (rw (ap (λ (c : Context). c.structs) opened) (λ at item is. is)) (ap (λ (c : Context). c.environment.signatures) opened)

  grows_outside : Grows late new
  grows_outside = grows_to late new (ap (λ (c : Context). c.types) closed) (rw (ap (λ (c : Context). c.structs) closed) (λ at item is. is)) (ap (λ (c : Context). c.environment.signatures) closed)

  piece_of_block : (n : Numbering) (outcome : Outcome Told) → Finds (language abi n) (declared old) (PieceIs (BlockOf body) outcome) (left (declared late))
      → Finds (language abi n) (declared old) (PieceIs (BlockOf body) outcome) (declared new)
  piece_of_block n outcome found = subst (λ (after : Declared). Finds (language abi n) (declared old) (PieceIs (BlockOf body) outcome) after) (sym (ap declared closed)) found

  -- the block is a scope of its own
  pub block_walked : (found : Found ℕ) → Walked (Says abi (λ o. StatementsAre body o)) a_value_type mid late found
      → Walked (Says abi (λ o. PiecesAre (BlockOf body ∷ []) o)) one_value old new found
  block_walked (FoundToPass number) passed = record {
    rows = passed.rows;
    handed = ap (λ (c : Context). c.handed) closed ∙ (passed.handed ∙ ap (λ (c : Context). c.handed ++ passed.rows) opened);
    grows = grows_trans old mid new grows_inside (grows_trans mid late new passed.grows grows_outside);
    below = subst (λ (types : List CType). number < length types) (sym (ap (λ (c : Context). c.types) closed)) passed.below;
    found = λ n agrees.
        let inner = subst (λ (before : Declared). Finds (language abi n) before (StatementsAre body (Passes (n.ctype number) (map (handed_at n) passed.rows))) (declared late)) (ap declared opened)
        (passed.found n (agrees_before late new n grows_outside agrees)) in
        subst (λ (handed : List Handed). Finds (language abi n) (declared old) (PiecesAre (BlockOf body ∷ []) (Passes (ValueIs (n.ctype number) ∷ []) handed)) (declared new)) (append-nil (map (handed_at n) passed.rows))
        (MorePieces (piece_of_block n (Passes (ValueIs (n.ctype number)) (map (handed_at n) passed.rows)) (BlockInside inner)) NoPieces);
  }
  block_walked (FoundRefused first) stopped = record {
    grows = grows_trans old mid new grows_inside (grows_trans mid late new stopped.grows grows_outside);
    found = λ n agrees.
        let inner = subst (λ (before : Declared). Finds (language abi n) before (StatementsAre body (Refused first)) (declared late)) (ap declared opened)
        (stopped.found n (agrees_before late new n grows_outside agrees)) in
        RefusedHere (piece_of_block n (Refused first) (BlockRefused inner));
  }

-- rows that are handed on in front of what is found of the other statements
abbrev pub value_behind : List Handed → Outcome CType → Outcome CType
value_behind handed (Passes t further) = Passes t (handed ++ further)
value_behind handed (Refused first) = Refused first

behind_nothing : (outcome : Outcome CType) → value_behind [] outcome ≡ outcome
behind_nothing (Passes t further) = refl
behind_nothing (Refused first) = refl

behind_twice : (handed further : List Handed) (outcome : Outcome CType) → value_behind handed (value_behind further outcome) ≡ value_behind (handed ++ further) outcome
behind_twice handed further (Passes t rows) = λ i. Passes t (sym (append_assoc handed further rows) i)
behind_twice handed further (Refused first) = refl

module _ (abi : Abi) (body : List Stmt) where
  -- statements of which so many are walked: what is found of the rest makes what is found of all
  pub record Statements (old new : Context) (index : ℕ) : Type 0 where
    pub rows : List HandedRow
    pub handed : new.handed ≡ old.handed ++ rows
    pub grows : Grows old new
    pub goes : (n : Numbering) → Agrees n new → (outcome : Outcome CType) (after : Declared)
        → Finds (language abi n) (declared new) (StatementsAre (drop index body) outcome) after
        → Finds (language abi n) (declared old) (StatementsAre body (value_behind (map (handed_at n) rows) outcome)) after

  pub statements_start : (context : Context) → Statements context context 0
  statements_start context = record {
    rows = [];
    handed = sym (append-nil context.handed);
    grows = grows_same context;
    goes = λ n agrees outcome after found.
        subst (λ (o : Outcome CType). Finds (language abi n) (declared context) (StatementsAre body o) after) (sym (behind_nothing outcome)) found;
  }

  one_more : (n : Numbering) (stmt : Stmt) (rest : List Stmt) (before middle after : Declared) (handed : List Handed) (outcome : Outcome CType) → is_last_value (stmt ∷ rest) ≡ false
      → Finds (language abi n) before (StatementIs stmt (Passes tt handed)) middle → Finds (language abi n) middle (StatementsAre rest outcome) after
      → Finds (language abi n) before (StatementsAre (stmt ∷ rest) (value_behind handed outcome)) after
  one_more n stmt rest before middle after handed (Passes t further) other first found = MoreStatements handed other first found
  one_more n stmt rest before middle after handed (Refused broken) other first found = StatementsRefused handed other first found

  -- a statement is no value where those behind it say so
  no_value : (index : ℕ) (stmt : Stmt) (rest : List Stmt) → rest ≡ drop (index + 1) body → is_last_value (stmt ∷ rest) ≡ false → is_last_value (stmt ∷ drop (index + 1) body) ≡ false
  no_value index stmt rest behind none = subst (λ (stmts : List Stmt). is_last_value (stmt ∷ stmts) ≡ false) behind none

  pub statements_next : (old mid new : Context) (index : ℕ) (stmt : Stmt) (told : Unit {0}) (found : Found (Unit {0})) → index < length body → stmt ≡ get_or body index stmt
      → (rest : List Stmt) → rest ≡ drop (index + 1) body → is_last_value (stmt ∷ rest) ≡ false → found ≡ FoundToPass told → Walked (Says abi (StatementIs stmt)) nothing mid new found
      → Statements old mid index → Statements old new (index + 1)
  statements_next old mid new index stmt told found within is rest behind none passes walked walk =
      let passed = passed_of (Says abi (StatementIs stmt)) nothing mid new told found passes walked in
      record {
        rows = walk.rows ++ passed.rows;
        handed = handed_behind old.handed mid.handed new.handed walk.rows passed.rows walk.handed passed.handed;
        grows = grows_trans old mid new walk.grows passed.grows;
        goes = λ n agrees outcome after others.
            let whole = walk.goes n (agrees_before mid new n passed.grows agrees) (value_behind (map (handed_at n) passed.rows) outcome) after
            (subst (λ (stmts : List Stmt). Finds (language abi n) (declared mid) (StatementsAre stmts (value_behind (map (handed_at n) passed.rows) outcome)) after) (sym (next_item body index stmt within is))
            (one_more n stmt (drop (index + 1) body) (declared mid) (declared new) after (map (handed_at n) passed.rows) outcome (no_value index stmt rest behind none) (passed.found n agrees) others)) in
            let twice = behind_twice (map (handed_at n) walk.rows) (map (handed_at n) passed.rows) outcome in
            let rows = ap (λ (handed : List Handed). value_behind handed outcome) (sym (map-append (handed_at n) walk.rows passed.rows)) in
            subst (λ (o : Outcome CType). Finds (language abi n) (declared old) (StatementsAre body o) after) (twice ∙ rows) whole;
      }

  pub statements_refused : (old mid new : Context) (index : ℕ) (stmt : Stmt) (first : Fault) (found : Found (Unit {0})) → index < length body → stmt ≡ get_or body index stmt
      → (rest : List Stmt) → rest ≡ drop (index + 1) body → is_last_value (stmt ∷ rest) ≡ false → found ≡ FoundRefused first → Walked (Says abi (StatementIs stmt)) nothing mid new found
      → Statements old mid index → Stopped (Says abi (λ o. StatementsAre body o)) old new first
  statements_refused old mid new index stmt first found within is rest behind none refused walked walk =
      let stopped = stopped_of (Says abi (StatementIs stmt)) nothing mid new first found refused walked in
      record {
        grows = grows_trans old mid new walk.grows stopped.grows;
        found = λ n agrees. walk.goes n (agrees_before mid new n stopped.grows agrees) (Refused first) (declared new)
            (subst (λ (stmts : List Stmt). Finds (language abi n) (declared mid) (StatementsAre stmts (Refused first)) (declared new)) (sym (next_item body index stmt within is))
            (StatementRefused (no_value index stmt rest behind none) (stopped.found n agrees)));
      }

  -- what is found of the statements that are left is found of all
  statements_whole : (old mid new : Context) (index : ℕ) (found : Found ℕ) (rest : List Stmt) → drop index body ≡ rest → Statements old mid index
      → Walked (Says abi (λ o. StatementsAre rest o)) a_value_type mid new found → Walked (Says abi (λ o. StatementsAre body o)) a_value_type old new found
  statements_whole old mid new index (FoundToPass number) rest left walk passed = record {
    rows = walk.rows ++ passed.rows;
    handed = handed_behind old.handed mid.handed new.handed walk.rows passed.rows walk.handed passed.handed;
    grows = grows_trans old mid new walk.grows passed.grows;
    below = passed.below;
    found = λ n agrees.
        let whole = walk.goes n (agrees_before mid new n passed.grows agrees) (Passes (n.ctype number) (map (handed_at n) passed.rows)) (declared new)
        (subst (λ (stmts : List Stmt). Finds (language abi n) (declared mid) (StatementsAre stmts (Passes (n.ctype number) (map (handed_at n) passed.rows))) (declared new)) (sym left) (passed.found n agrees)) in
        subst (λ (handed : List Handed). Finds (language abi n) (declared old) (StatementsAre body (Passes (n.ctype number) handed)) (declared new)) (sym (map-append (handed_at n) walk.rows passed.rows)) whole;
  }
  statements_whole old mid new index (FoundRefused first) rest left walk stopped = record {
    grows = grows_trans old mid new walk.grows stopped.grows;
    found = λ n agrees. walk.goes n (agrees_before mid new n stopped.grows agrees) (Refused first) (declared new)
        (subst (λ (stmts : List Stmt). Finds (language abi n) (declared mid) (StatementsAre stmts (Refused first)) (declared new)) (sym left) (stopped.found n agrees));
  }

  -- the last one that is not empty is a value
  pub statements_value : (r : Result (Found ℕ) NoMemory) (old mid new : Context) (index : ℕ) (stmt : Stmt) (rest : List Stmt) → index < length body → stmt ≡ get_or body index stmt
      → rest ≡ drop (index + 1) body → Statements old mid index → IfOk r (λ found. Walked (Says abi (λ o. StatementsAre (stmt ∷ rest) o)) a_value_type mid new found)
      → IfOk r (λ found. Walked (Says abi (λ o. StatementsAre body o)) a_value_type old new found)
  statements_value (Ok found) old mid new index stmt rest within is behind walk walked = statements_whole old mid new index found (stmt ∷ rest)
      (next_item body index stmt within is ∙ ap (λ (stmts : List Stmt). stmt ∷ stmts) (sym behind)) walk walked
  statements_value (Err error) old mid new index stmt rest within is behind walk walked = tt

  -- no value is left
  pub statements_end : (old mid new : Context) (index number : ℕ) → length body ≤ index → Statements old mid index → Numbers (λ n. VoidType) mid new number
      → Passed (Says abi (λ o. StatementsAre body o)) a_value_type old new number
  statements_end old mid new index number past walk numbers = statements_whole old mid new index (FoundToPass number) [] (drop_all index body past) walk (record {
    rows = [];
    handed = numbers.only_types.handed ∙ sym (append-nil mid.handed);
    grows = only_types_grows mid new numbers.only_types;
    below = numbers.below;
    found = λ n agrees.
        subst (λ (after : Declared). Finds (language abi n) (declared mid) (StatementsAre [] (Passes (n.ctype number) [])) after) (declared_by_types mid new numbers.only_types)
        (subst (λ (t : CType). Finds (language abi n) (declared mid) (StatementsAre [] (Passes t [])) (declared mid)) (sym (numbers.meant n agrees)) NoStatements);
  })

-- the type of a value is known of the statement expression
judged_plain : (place : Broken → Place) (ctype number : ℕ) (known : KnownByNumber) (mid new : Context) (r : Result (Found KnownByNumber) NoMemory)
    → known.ctype ≡ ctype → ((n : Numbering) → known_at n known ≡ plain (n.ctype ctype)) → IfOk r (λ found. IsSettledBy None known number mid new found)
    → IfOk r (λ found. Judged (λ n. Typed (n.ctype ctype)) place (λ n t. plain t) number mid new found)
judged_plain place ctype number known mid new (Ok (FoundToPass told)) same meant settled =
    let type_is : ctype ≡ told.ctype = sym (ap (λ (k : KnownByNumber). k.ctype) settled.0 ∙ same) in
    record {
      hands_on = subst (λ (k : KnownByNumber). HandsOn number mid new k) (sym settled.0) settled.1;
      judged = λ n agrees. ap (λ (k : ℕ). Typed (n.ctype k)) type_is;
      meant = λ n agrees. ap (known_at n) settled.0 ∙ (meant n ∙ ap (λ (k : ℕ). plain (n.ctype k)) type_is);
    }
judged_plain place ctype number known mid new (Ok (FoundRefused first)) same meant settled = absurd settled
judged_plain place ctype number known mid new (Err error) same meant settled = tt

pub statement_form : (abi : Abi) (node : ℕ) (place close : Place) (body : List Stmt) (ctype : ℕ) (block : Found ℕ) (known : KnownByNumber) (old mid new : Context) (r : Result (Found KnownByNumber) NoMemory)
    → block ≡ FoundToPass ctype → Walked (Says abi (λ o. PiecesAre (BlockOf body ∷ []) o)) one_value old mid block
    → known.ctype ≡ ctype → ((n : Numbering) → known_at n known ≡ plain (n.ctype ctype)) → IfOk r (λ found. IsSettledBy None known node mid new found)
    → IfOk r (λ found. Walked (SaysForm abi node place (Inner body close)) an_expression old new found)
statement_form abi node place close body ctype block known old mid new r is walked same meant settled =
    judged_result abi node place (Inner body close) one_value old mid new ctype (λ broken. place) (λ n. Typed (n.ctype ctype)) (λ n t. plain t) r
    (judged_plain (λ broken. place) ctype node known mid new r same meant settled)
    (passed_of (Says abi (λ o. PiecesAre (BlockOf body ∷ []) o)) one_value old mid ctype block is walked)
    (λ n handed. StatementExpression)
