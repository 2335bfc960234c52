-- What is to be shown of the reader: that it is complete and that it is sound.
--
-- Complete: where a front of a row spells a phrase of at most so many levels, the reader reads it, or a token behind it
-- goes on with it and the reader reaches as least as far.
use Rattle.std.proofs.Common.{◌≡◌, ℕ, Bool, true, false, ◌&&◌, ◌||◌, not, ◌+◌, ◌<◌, ◌≤◌, ◌⊎◌, List, ◌++◌, map, codes, length, Some, None, IsTrue, nat_lt}
use Rattle.std.specs.Prelude.{if◌then◌else◌, Option, nat_le}
use Rattle.cbase.specs.declared.tree.operators.BinaryOp.{BinaryOp}
use Rattle.ctrees.specs.Weight.{joined}
use Rattle.ctrees.specs.Levels.{depth, decl_levels, declared_levels, enumerator_levels, expr_levels, field_decl_levels, field_name_levels, init_levels, init_part_levels, maybe_levels, param_levels, part_levels, spec_levels, stmt_levels, type_name_levels}
use Rattle.cgrammar.specs.FrontReadings.{is_basic_word}
use Rattle.cgrammar.specs.Grammar.{Spells, declaring}
use Rattle.cgrammar.specs.Operators.{mark_row, binary_rows, assignment_rows}
use Rattle.cgrammar.specs.Outcomes.{Outcome, Nothing, Stopped, Read, has_first, has_mark, behind_first, continued}
use Rattle.cgrammar.specs.Phrases.{Phrase, Context}
use Rattle.cgrammar.specs.Phrases.{Expression, Assignment, Conditional, Operation, CastExpression, UnaryExpression, PostfixExpression, PrimaryExpression, Arguments, MemberPath, TypeSpecifier, NameOfType, ArraySizes, Fields, FieldDeclaration, FieldDeclarators, FieldDeclarator, Enumerators, OneEnumerator, Specifiers, Declaration, Declarators, Declarator, FunctionDeclarator, Parameters, Parameter, Initializer, Initializers, DesignatedInitializer, CompoundStatement, BlockItems, Statement, Substatement, FirstClause, MaybeExpression}
use Rattle.cgrammar.specs.ReadDeclarations.{leaving, read_specifiers, read_parameter, read_declarator, read_declaration, read_part, specifiers_of}
use Rattle.cgrammar.specs.ReadLevels.{Level, read_list, read_until_brace}
use Rattle.cgrammar.specs.ReadOperands.{read_cast, read_postfixes, read_path, goes_on, unary_operand}
use Rattle.cgrammar.specs.ReadOperators.{expr_of, read_operations, operations_from}
use Rattle.cgrammar.specs.ReadStarts.{postfix_start}
use Rattle.cgrammar.specs.ReadStatements.{read_block, read_maybe, substatement}
use Rattle.cgrammar.specs.ReadTypes.{read_sizes, read_type_name, read_field, read_fields, read_enumerator, never, closes_braces}
use Rattle.cgrammar.specs.Reader.{level}
use Rattle.cgrammar.specs.Terminals.{Terminal, is_mark, is_word, is_name, first_place}
use Rattle.cgrammar.specs.declared.reading.operand.Operand.{Operand}

-- what was read goes at least as far as where the row is left
abbrev pub Reaches : {A : Type 0} → Outcome A → List Terminal → Type 0
Reaches Nothing row = ⊥
Reaches (Stopped tree expressions rest) row = length rest ≤ length row
Reaches (Read tree levels behind rest) row = length rest ≤ length row

-- exactly the tree, or more, where the row behind it goes on with it
abbrev pub Goes : {A : Type 0} → (Terminal → Bool) → A → ℕ → Context → List Terminal → Outcome A → Type 0
Goes test tree levels after rest outcome =
    (outcome ≡ Read tree levels after rest) ⊎ (IsTrue (has_first test rest) × Reaches outcome rest)

-- tokens that go on with an operand, with an operation whose loosest operator has that level, and so on
abbrev pub goes_on_operand : Terminal → Bool
goes_on_operand token = goes_on (postfix_start token)

-- a binary operator that is no looser
abbrev pub is_no_looser : ℕ → Option (ℕ × BinaryOp) → Bool
is_no_looser loosest None = false
is_no_looser loosest (Some entry) = nat_le loosest entry.0

abbrev pub goes_on_from : ℕ → Terminal → Bool
goes_on_from loosest token = is_no_looser loosest (mark_row binary_rows token)

abbrev pub is_tighter : ℕ → Option (ℕ × BinaryOp) → Bool
is_tighter level None = false
is_tighter level (Some entry) = nat_lt level entry.0

abbrev pub is_some_binary : Option (ℕ × BinaryOp) → Bool
is_some_binary None = false
is_some_binary (Some entry) = true

abbrev pub is_some_assignment : Option (Option BinaryOp) → Bool
is_some_assignment None = false
is_some_assignment (Some op) = true

abbrev pub goes_on_operation : ℕ → Terminal → Bool
goes_on_operation level token = goes_on_operand token || is_tighter level (mark_row binary_rows token)

abbrev pub goes_on_conditional : Terminal → Bool
goes_on_conditional token = goes_on_operand token || (is_some_binary (mark_row binary_rows token) || is_mark (codes "?") token)

abbrev pub goes_on_assignment : Terminal → Bool
goes_on_assignment token = goes_on_conditional token || is_some_assignment (mark_row assignment_rows token)

abbrev pub goes_on_expression : Terminal → Bool
goes_on_expression token = goes_on_assignment token || is_mark (codes ",") token

-- the row does not go on
abbrev pub Ends : (Terminal → Bool) → List Terminal → Type 0
Ends test row = IsTrue (not (has_first test row))

-- a type of keywords goes on with a keyword of one, a tag with a brace
abbrev pub goes_on_type : Terminal → Bool
goes_on_type token = is_basic_word token || is_mark (codes "{") token

abbrev pub goes_on_sizes : Terminal → Bool
goes_on_sizes token = is_mark (codes "[") token

abbrev pub goes_on_type_name : Terminal → Bool
goes_on_type_name token = goes_on_type token || (is_mark (codes "*") token || goes_on_sizes token)

abbrev pub is_storage : Terminal → Bool
is_storage token = is_word (codes "typedef") token || (is_word (codes "extern") token || is_word (codes "static") token)

abbrev pub goes_on_specifiers : Terminal → Bool
goes_on_specifiers token = goes_on_type token || is_storage token

abbrev pub goes_on_parameter : Terminal → Bool
goes_on_parameter token = goes_on_specifiers token || (is_mark (codes "*") token || (is_name token || goes_on_sizes token))

abbrev pub goes_on_list : (Terminal → Bool) → Terminal → Bool
goes_on_list item token = item token || is_mark (codes ",") token

abbrev pub goes_on_field : Terminal → Bool
goes_on_field token = goes_on_sizes token || (is_mark (codes ":") token || goes_on_conditional token)

abbrev pub goes_on_enumerator : Terminal → Bool
goes_on_enumerator token = is_mark (codes "=") token || goes_on_conditional token

abbrev pub goes_on_declarator : Terminal → Bool
goes_on_declarator token = is_mark (codes "(") token || (goes_on_sizes token || (is_mark (codes "=") token || goes_on_assignment token))

abbrev pub goes_on_path : Terminal → Bool
goes_on_path token = is_mark (codes ".") token || is_mark (codes "[") token

-- an `else` goes on with a statement that ends with an `if` without one
abbrev pub goes_on_statement : Bool → Terminal → Bool
goes_on_statement dangling token = dangling && is_word (codes "else") token

-- a list in braces, before what closes it: a comma with a `}` behind it, or no comma
abbrev pub ClosesList : List Terminal → Type 0
ClosesList rest = IsTrue (not (has_mark (codes ",") rest && not (closes_braces (behind_first rest))))

-- For each phrase what is read where it stands at the front of a row, and has at most so many levels. A phrase that says where
-- the token behind it stands is read where the row behind it begins there.
abbrev pub Completes : Phrase → Context → List Terminal → Context → Type 0
Completes (Expression e) before front after =
    (n : ℕ) (rest : List Terminal) → expr_levels e ≤ n → Goes goes_on_expression e (expr_levels e) after rest ((level n).expression before (front ++ rest))
Completes (Assignment e) before front after =
    (n : ℕ) (rest : List Terminal) → expr_levels e ≤ n → Goes goes_on_assignment e (expr_levels e) after rest ((level n).assignment before (front ++ rest))
Completes (Conditional e) before front after =
    (n : ℕ) (rest : List Terminal) → expr_levels e ≤ n → Goes goes_on_conditional e (expr_levels e) after rest ((level n).conditional before (front ++ rest))
Completes (Operation k e) before front after =
    (m loosest : ℕ) (rest : List Terminal) → loosest ≤ k → expr_levels e ≤ m + 1
    → ((count : ℕ) × (length rest < count)
    × (continued (read_cast (level m) before (front ++ rest)) expr_of (operations_from (level m) loosest)
    ≡ read_operations (level m) loosest count e (expr_levels e) after rest))
    ⊎ (IsTrue (has_first (goes_on_operation k) rest)
    × Reaches (continued (read_cast (level m) before (front ++ rest)) expr_of (operations_from (level m) loosest)) rest)
Completes (CastExpression e) before front after =
    (n : ℕ) (rest : List Terminal) → expr_levels e ≤ n
    → ((unary : Bool) × ((level n).cast before (front ++ rest) ≡ Read (record { expr = e; unary = unary }) (expr_levels e) after rest))
    ⊎ (IsTrue (has_first goes_on_operand rest) × Reaches ((level n).cast before (front ++ rest)) rest)
Completes (UnaryExpression e) before front after =
    (n : ℕ) (rest : List Terminal) → expr_levels e ≤ n → Goes goes_on_operand (unary_operand e) (expr_levels e) after rest ((level n).cast before (front ++ rest))
Completes (PostfixExpression e) before front after =
    (m : ℕ) (rest : List Terminal) → expr_levels e ≤ m + 1
    → (count : ℕ) × (length rest < count)
    × (read_cast (level m) before (front ++ rest) ≡ read_postfixes (level m) (front ++ rest) count e (expr_levels e) after rest)
Completes (PrimaryExpression e) before front after =
    (m : ℕ) (rest : List Terminal) → expr_levels e ≤ m + 1
    → (count : ℕ) × (length rest < count)
    × (read_cast (level m) before (front ++ rest) ≡ read_postfixes (level m) (front ++ rest) count e (expr_levels e) after rest)
Completes (Arguments es) before front after =
    (n count : ℕ) (rest : List Terminal) → length (front ++ rest) < count → joined depth (map expr_levels es) ≤ n → Ends (goes_on_list goes_on_assignment) rest
    → read_list never (level n).assignment count before (front ++ rest) ≡ Read es (joined depth (map expr_levels es)) after rest
Completes (MemberPath parts) before front after =
    (n count : ℕ) (rest : List Terminal) → length (front ++ rest) < count → joined depth (map part_levels parts) ≤ n → Ends goes_on_path rest
    → read_path (level n) count before (front ++ rest) ≡ Read parts (joined depth (map part_levels parts)) after rest
Completes (TypeSpecifier t) before front after =
    (n : ℕ) (rest : List Terminal) → spec_levels t ≤ n → Ends goes_on_type rest → (level n).specifier before (front ++ rest) ≡ Read t (spec_levels t) after rest
Completes (NameOfType t) before front after =
    (n : ℕ) (rest : List Terminal) → type_name_levels t ≤ n → Ends goes_on_type_name rest → read_type_name (level n) before (front ++ rest) ≡ Read t (type_name_levels t) after rest
Completes (ArraySizes ss) before front after =
    (n count : ℕ) (rest : List Terminal) → length (front ++ rest) < count → joined depth (map maybe_levels ss) ≤ n → Ends goes_on_sizes rest
    → read_sizes (level n) count before (front ++ rest) ≡ Read ss (joined depth (map maybe_levels ss)) after rest
Completes (Fields ds) before front after =
    (n count : ℕ) (rest : List Terminal) → length (front ++ rest) < count → joined depth (map field_decl_levels ds) ≤ n → IsTrue (has_mark (codes "}") rest)
    → read_until_brace (read_fields (level n)) count before (front ++ rest) ≡ Read ds (joined depth (map field_decl_levels ds)) after rest
Completes (FieldDeclaration d) before front after =
    (n : ℕ) (rest : List Terminal) → field_decl_levels d ≤ n → read_fields (level n) before (front ++ rest) ≡ Read d (field_decl_levels d) after rest
Completes (FieldDeclarators ns) before front after =
    (n count : ℕ) (rest : List Terminal) → length (front ++ rest) < count → joined depth (map field_name_levels ns) ≤ n → Ends (goes_on_list goes_on_field) rest
    → read_list never (read_field (level n)) count before (front ++ rest) ≡ Read ns (joined depth (map field_name_levels ns)) after rest
Completes (FieldDeclarator f) before front after =
    (n : ℕ) (rest : List Terminal) → field_name_levels f ≤ n → Ends goes_on_field rest → read_field (level n) before (front ++ rest) ≡ Read f (field_name_levels f) after rest
Completes (Enumerators vs) before front after =
    (n count : ℕ) (rest : List Terminal) → length (front ++ rest) < count → joined depth (map enumerator_levels vs) ≤ n → Ends goes_on_enumerator rest → ClosesList rest
    → read_list closes_braces (read_enumerator (level n)) count before (front ++ rest) ≡ Read vs (joined depth (map enumerator_levels vs)) after rest
Completes (OneEnumerator v) before front after =
    (n : ℕ) (rest : List Terminal) → enumerator_levels v ≤ n → Ends goes_on_enumerator rest → read_enumerator (level n) before (front ++ rest) ≡ Read v (enumerator_levels v) after rest
Completes (Specifiers s t) before front after =
    (n : ℕ) (rest : List Terminal) → spec_levels t ≤ n → Ends goes_on_specifiers rest → read_specifiers (level n) before (front ++ rest) ≡ Read (specifiers_of s t) (spec_levels t) after rest
Completes (Declaration d) before front after =
    (n : ℕ) (rest : List Terminal) → decl_levels d ≤ n → read_declaration (level n) before (front ++ rest) ≡ Read d (decl_levels d) after rest
Completes (Declarators typedef behind ns) before front after =
    (n count : ℕ) (rest : List Terminal) → length (front ++ rest) < count → first_place rest ≡ behind → joined depth (map declared_levels ns) ≤ n → Ends (goes_on_list goes_on_declarator) rest
    → read_list never (read_declarator (level n) typedef) count before (front ++ rest) ≡ Read ns (joined depth (map declared_levels ns)) after rest
Completes (Declarator typedef behind d) before front after =
    (n : ℕ) (rest : List Terminal) → first_place rest ≡ behind → declared_levels d ≤ n → Ends goes_on_declarator rest → read_declarator (level n) typedef before (front ++ rest) ≡ Read d (declared_levels d) after rest
-- behind a function's declarator the scope of its parameters is entered, which its declaration leaves again
Completes (FunctionDeclarator name d) before front after =
    (n : ℕ) (typedef : Bool) (rest : List Terminal) → declared_levels d ≤ n
    → read_declarator (level n) typedef before (front ++ rest)
    ≡ Read d (declared_levels d) (declaring (leaving after) name typedef) rest
Completes (Parameters ps) before front after =
    (n count : ℕ) (rest : List Terminal) → length (front ++ rest) < count → joined depth (map param_levels ps) ≤ n → Ends (goes_on_list goes_on_parameter) rest
    → read_list never (read_parameter (level n)) count before (front ++ rest) ≡ Read ps (joined depth (map param_levels ps)) after rest
Completes (Parameter p) before front after =
    (n : ℕ) (rest : List Terminal) → param_levels p ≤ n → Ends goes_on_parameter rest → read_parameter (level n) before (front ++ rest) ≡ Read p (param_levels p) after rest
Completes (Initializer behind i) before front after =
    (n : ℕ) (rest : List Terminal) → first_place rest ≡ behind → init_levels i ≤ n → Ends goes_on_assignment rest → (level n).initializer before (front ++ rest) ≡ Read i (init_levels i) after rest
-- the part of a list is read with one level less than the list
Completes (Initializers behind ps) before front after =
    (n count : ℕ) (rest : List Terminal) → length (front ++ rest) < count → first_place rest ≡ behind → joined depth (map init_part_levels ps) ≤ n → Ends goes_on_assignment rest → ClosesList rest
    → read_list closes_braces (read_part (level n)) count before (front ++ rest) ≡ Read ps (joined depth (map init_part_levels ps)) after rest
Completes (DesignatedInitializer behind p) before front after =
    (n : ℕ) (rest : List Terminal) → first_place rest ≡ behind → init_part_levels p ≤ n → Ends goes_on_assignment rest → read_part (level n) before (front ++ rest) ≡ Read p (init_part_levels p) after rest
Completes (CompoundStatement b) before front after =
    (n : ℕ) (rest : List Terminal) → joined depth (map stmt_levels b) ≤ n → read_block (level n) before (front ++ rest) ≡ Read b (joined depth (map stmt_levels b)) after rest
Completes (BlockItems b) before front after =
    (n count : ℕ) (rest : List Terminal) → length (front ++ rest) < count → joined depth (map stmt_levels b) ≤ n → IsTrue (has_mark (codes "}") rest)
    → read_until_brace (level n).item count before (front ++ rest) ≡ Read b (joined depth (map stmt_levels b)) after rest
Completes (Statement dangling s) before front after =
    (n : ℕ) (rest : List Terminal) → stmt_levels s ≤ n → Ends (goes_on_statement dangling) rest → (level n).statement before (front ++ rest) ≡ Read s (stmt_levels s) after rest
Completes (Substatement dangling s) before front after =
    (n : ℕ) (rest : List Terminal) → stmt_levels s ≤ n → Ends (goes_on_statement dangling) rest → substatement (level n) before (front ++ rest) ≡ Read s (stmt_levels s) after rest
Completes (FirstClause s) before front after =
    (n : ℕ) (rest : List Terminal) → stmt_levels s ≤ n → (level n).clause before (front ++ rest) ≡ Read s (stmt_levels s) after rest
Completes (MaybeExpression e) before front after =
    (n : ℕ) (ends : Terminal → Bool) (rest : List Terminal) → maybe_levels e ≤ n → IsTrue (has_first ends rest)
    → ((token : Terminal) → IsTrue (ends token) → (IsTrue (is_mark (codes ")") token)) ⊎ (IsTrue (is_mark (codes ";") token)))
    → read_maybe (level n) ends before (front ++ rest) ≡ Read e (maybe_levels e) after rest

-- Sound: what is read is spelled by the tokens that were taken, and its levels are as many as are told, and no more
-- than are allowed. Behind what is stopped at, so many expressions end.
pub record Fronts (phrase : Phrase) (before : Context) (row : List Terminal) (behind : Context) (rest : List Terminal) : Type 0 where
  pub front : List Terminal
  pub whole : row ≡ front ++ rest
  pub spelled : Spells phrase before front behind

abbrev pub IsSound : {A : Type 0} → (A → Phrase) → (A → ℕ) → ℕ → Context → List Terminal → Outcome A → Type 0
IsSound phrase levels most before row Nothing = Unit {0}
IsSound phrase levels most before row (Stopped tree expressions rest) =
    (behind : Context) × (behind.expressions ≡ expressions) × Fronts (phrase tree) before row behind rest × (levels tree ≤ most)
IsSound phrase levels most before row (Read tree count behind rest) =
    Fronts (phrase tree) before row behind rest × (count ≡ levels tree) × (count ≤ most)

abbrev pub operand_phrase : Operand → Phrase
operand_phrase operand = if operand.unary then UnaryExpression operand.expr else CastExpression operand.expr

abbrev pub operand_levels : Operand → ℕ
operand_levels operand = expr_levels operand.expr

-- what was read is not longer than the row
abbrev pub IsWithin : {A : Type 0} → Outcome A → List Terminal → Type 0
IsWithin Nothing row = Unit {0}
IsWithin (Stopped tree expressions rest) row = length rest ≤ length row
IsWithin (Read tree levels behind rest) row = length rest ≤ length row

pub record IsWithinLevel (inner : Level) : Type 0 where
  pub cast : (context : Context) (row : List Terminal) → IsWithin (inner.cast context row) row
  pub operation : (loosest : ℕ) (context : Context) (row : List Terminal) → IsWithin (inner.operation loosest context row) row
  pub conditional : (context : Context) (row : List Terminal) → IsWithin (inner.conditional context row) row
  pub assignment : (context : Context) (row : List Terminal) → IsWithin (inner.assignment context row) row
  pub expression : (context : Context) (row : List Terminal) → IsWithin (inner.expression context row) row
  pub specifier : (context : Context) (row : List Terminal) → IsWithin (inner.specifier context row) row
  pub initializer : (context : Context) (row : List Terminal) → IsWithin (inner.initializer context row) row
  pub clause : (context : Context) (row : List Terminal) → IsWithin (inner.clause context row) row
  pub statement : (context : Context) (row : List Terminal) → IsWithin (inner.statement context row) row
  pub item : (context : Context) (row : List Terminal) → IsWithin (inner.item context row) row
