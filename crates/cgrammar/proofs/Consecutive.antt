-- The expressions of a row are numbered one by one, rule by rule.
use Rattle.std.proofs.Common.{◌≡◌, ℕ, zero, suc, ◌+◌, true, false, ◌++◌, ◌∙◌, arith, refl, ap, sym, subst, map, length, List, [], ◌∷◌, Some, None}
use Rattle.std.specs.List.{concat, range_with_len}
use Rattle.std.proofs.lemmas.List.{length-append}
use Rattle.cbase.specs.declared.place.Place.{Place}
use Rattle.cbase.specs.declared.tree.expr.ExprForm.{ExprForm}
use Rattle.cbase.specs.declared.tree.expr.Part.TheVariants.{Member as NamedPart}
use Rattle.cbase.specs.declared.tree.operators.BinaryOp.TheVariants.{Comma}
use Rattle.cbase.specs.declared.tree.stmt.StmtForm.{StmtForm}
use Rattle.ctrees.specs.Numbers.{AreConsecutive, expr_numbers, form_numbers, part_numbers, statement_form_numbers, stmt_numbers, type_name_numbers}
use Rattle.cgrammar.proofs.TreeNumbers.{numbers_expr, numbers_stmt, numbers_name, numbers_constant, numbers_assert_fail, numbers_unary, numbers_binary, numbers_assign, numbers_count, numbers_choose, numbers_cast, numbers_size_of, numbers_size_of_type, numbers_offset_of, numbers_index, numbers_member, numbers_call, numbers_inner, numbers_named_part, numbers_at, numbers_value, numbers_braces, numbers_initializer, numbers_basic, numbers_named, numbers_struct_by_tag, numbers_struct, numbers_enum_by_tag, numbers_enum, numbers_of_expr, numbers_of_type, numbers_type_name, numbers_parameter, numbers_fields, numbers_field, numbers_bits, numbers_enumerator, numbers_valued_enumerator, numbers_declaration, numbers_object, numbers_initialized, numbers_function, numbers_declare, numbers_eval, numbers_block, numbers_if, numbers_if_else, numbers_while, numbers_do, numbers_for, numbers_break, numbers_continue, numbers_return}
use Rattle.cgrammar.specs.Consecutive.{phrase_numbers, NumbersAreConsecutive}
use Rattle.cgrammar.specs.Grammar.{Spells, OneAssignment, CommaOperator, OneConditional, AssignmentOperator, OneOperation, ConditionalOperator, OneCast, BinaryOperator, OneUnary, CastOperator, OnePostfix, CountBefore, UnaryOperator, SizeOfExpression, SizeOfTypeName, OnePrimary, IndexOperator, CallOfNothing, CallOperator, MemberOperator, CountBehind, OneArgument, MoreArguments, OneName, OneConstant, Bracketed, StatementExpression, OffsetOfMember, NoMoreMembers, PathToMember, PathToItem, FailedAssertion, BasicWords, TypedefName, TypeOfExpression, TypeOfType, StructWithFields, StructByTag, NoMoreFields, MoreFields, OneFieldDeclaration, OneField, MoreFieldNames, NamedField, NamedBits, UnnamedBits, EnumWithValues, EnumByTag, LastEnumerator, MoreEnumerators, PlainEnumerator, ValuedEnumerator, OneTypeName, NoMoreSizes, SizeLeftOut, SizeGiven, TypeAlone, StorageBefore, StorageBehind, NoDeclarator, WithDeclarators, OneDeclarator, MoreDeclarators, ObjectDeclarator, InitializedDeclarator, DeclaratorOfFunction, NoParameters, VoidParameters, WithParameters, OneParameter, MoreParameters, NamedParameter, UnnamedParameter, InitializedTo, EmptyBraces, InBraces, OneInitializer, MoreInitializers, NextPart, MemberPart, OneBlock, NoMoreItems, NextDeclaration, NextStatement, BlockStatement, EmptyStatement, ExpressionStatement, OneSubstatement, IfStatement, IfElseStatement, WhileStatement, DoStatement, ForStatement, FirstDeclaration, FirstLeftOut, FirstExpression, NoExpression, SomeExpression, BreakStatement, ContinueStatement, ReturnStatement, LabeledStatement}
use Rattle.cgrammar.specs.Phrases.{Phrase, Context}
use Rattle.cgrammar.specs.Terminals.{Terminal, last_place}
use Rattle.cgrammar.specs.Trees.{identifier, statement}

-- numbers one behind the other, in two parts
range_parts : (first n middle m all : ℕ) → first + n ≡ middle → n + m ≡ all → range_with_len first n ++ range_with_len middle m ≡ range_with_len first all
range_parts first zero middle m all meets whole =
    let begins : middle ≡ first = omega (arith, meets) in
    let counts : m ≡ all = omega (arith, whole) in
    ap (λ (from : ℕ). range_with_len from m) begins ∙ ap (range_with_len first) counts
range_parts first (suc n) middle m zero meets whole = absurd (omega (arith, whole))
range_parts first (suc n) middle m (suc all) meets whole =
    ap (λ (numbers : List ℕ). first ∷ numbers) (range_parts (first + 1) n middle m all (omega (arith, meets)) (omega (arith, whole)))

pub no_number : {first : ℕ} → AreConsecutive first [] first
no_number {first} = record { one_by_one = refl; next = omega arith }

one_number : (number : ℕ) → AreConsecutive number (number ∷ []) (number + 1)
one_number number = record { one_by_one = refl; next = omega arith }

same : {first end : ℕ} {numbers others : List ℕ} → numbers ≡ others → AreConsecutive first others end → AreConsecutive first numbers end
same {first} {end} is others = subst (λ (numbers : List ℕ). AreConsecutive first numbers end) (sym is) others

-- what follows on what is numbered
pub follow : {first middle end : ℕ} {xs ys : List ℕ} → AreConsecutive first xs middle → AreConsecutive middle ys end → AreConsecutive first (xs ++ ys) end
follow {first} {middle} {xs} {ys} left right = record {
  one_by_one =
      ap (λ (numbers : List ℕ). numbers ++ ys) left.one_by_one
      ∙ (ap (λ (numbers : List ℕ). range_with_len first (length xs) ++ numbers) right.one_by_one
      ∙ range_parts first (length xs) middle (length ys) (length (xs ++ ys)) left.next (sym (length-append xs ys)));
  next = omega (arith, left.next, right.next, length-append xs ys);
}

-- an expression ends behind its parts
ends : {first end : ℕ} {numbers : List ℕ} (place : Place) (form : ExprForm) → form_numbers form ≡ numbers → AreConsecutive first numbers end
    → AreConsecutive first (expr_numbers (record { number = end; place = place; form = form })) (end + 1)
ends {end} place form is parts = same (numbers_expr (record { number = end; place = place; form = form })) (follow (same is parts) (one_number end))

-- a statement, from what it is
whole : {first end : ℕ} {numbers : List ℕ} (place last : Place) (form : StmtForm) → statement_form_numbers form ≡ numbers → AreConsecutive first numbers end
    → AreConsecutive first (stmt_numbers (statement place last form)) end
whole place last form is parts = same (numbers_stmt (statement place last form) ∙ is) parts

-- the rules
pub consecutive : {phrase : Phrase} {before after : Context} {row : List Terminal} → Spells phrase before row after → AreConsecutive before.expressions (phrase_numbers phrase) after.expressions
consecutive (OneAssignment d1) = consecutive d1
consecutive (CommaOperator {left} {right} _ d1 _ d2) = ends _ _ (numbers_binary Comma left right) (follow (consecutive d1) (consecutive d2))
consecutive (OneConditional d1) = consecutive d1
consecutive (AssignmentOperator {left} {right} {op} _ d1 _ d2) = ends _ _ (numbers_assign op left right) (follow (consecutive d1) (consecutive d2))
consecutive (OneOperation d1) = consecutive d1
consecutive (ConditionalOperator {test} {one} {other} _ _ d1 _ d2 _ d3) = ends _ _ (numbers_choose test one other) (follow (consecutive d1) (follow (consecutive d2) (consecutive d3)))
consecutive (OneCast d1) = consecutive d1
consecutive (BinaryOperator {left} {right} {op} _ _ d1 _ d2) = ends _ _ (numbers_binary op left right) (follow (consecutive d1) (consecutive d2))
consecutive (OneUnary d1) = consecutive d1
consecutive (CastOperator {to} {expr} _ _ _ d1 _ d2) = ends _ _ (numbers_cast to expr) (follow (consecutive d1) (consecutive d2))
consecutive (OnePostfix d1) = consecutive d1
consecutive (CountBefore {expr} {up} _ _ d1) = ends _ _ (numbers_count up false expr) (consecutive d1)
consecutive (UnaryOperator {expr} {op} _ _ d1) = ends _ _ (numbers_unary op expr) (consecutive d1)
consecutive (SizeOfExpression {expr} _ _ d1) = ends _ _ (numbers_size_of expr) (consecutive d1)
consecutive (SizeOfTypeName {to} _ _ _ _ _ d1 _) = ends _ _ (numbers_size_of_type to) (consecutive d1)
consecutive (OnePrimary d1) = consecutive d1
consecutive (IndexOperator {base} {index} _ _ d1 _ d2 _) = ends _ _ (numbers_index base index) (follow (consecutive d1) (consecutive d2))
consecutive (CallOfNothing {callee} _ _ d1 _ _) = ends _ _ (numbers_call callee []) (follow (consecutive d1) no_number)
consecutive (CallOperator {callee} {arguments} _ _ d1 _ _ d2 _) = ends _ _ (numbers_call callee arguments) (follow (consecutive d1) (consecutive d2))
consecutive (MemberOperator {base} {through} _ name d1 _ _) = ends _ _ (numbers_member base (identifier name) through) (consecutive d1)
consecutive (CountBehind {expr} {up} _ d1 _) = ends _ _ (numbers_count up true expr) (consecutive d1)
consecutive (OneArgument d1) = follow (consecutive d1) no_number
consecutive (MoreArguments _ d1 _ d2) = follow (consecutive d1) (consecutive d2)
consecutive (OneName name _) = ends _ _ (numbers_name name.bytes) no_number
consecutive (OneConstant token _) = ends _ _ (numbers_constant token.bytes) no_number
consecutive (Bracketed _ _ _ _ d1 _) = consecutive d1
consecutive (StatementExpression {xs} {body} _ _ _ d1 _) = ends _ _ (numbers_inner body (last_place xs)) (consecutive d1)
consecutive (OffsetOfMember {to} {path} _ _ _ name _ _ _ d1 _ _ d2 _) = ends _ _ (numbers_offset_of to (NamedPart (identifier name) ∷ path) ∙ ap (λ (ns : List ℕ). type_name_numbers to ++ (ns ++ concat (map part_numbers path))) (numbers_named_part (identifier name))) (follow (consecutive d1) (consecutive d2))
consecutive NoMoreMembers = no_number
consecutive (PathToMember {path} _ name _ _ d1) = same (ap (λ (ns : List ℕ). ns ++ concat (map part_numbers path)) (numbers_named_part (identifier name))) (consecutive d1)
consecutive (PathToItem {index} {path} _ _ _ d1 _ d2) = same (ap (λ (ns : List ℕ). ns ++ concat (map part_numbers path)) (numbers_at index)) (follow (consecutive d1) (consecutive d2))
consecutive (FailedAssertion _ _ _ _ _ _ _) = ends _ _ numbers_assert_fail no_number
consecutive (BasicWords {type} _ _) = same (numbers_basic type) no_number
consecutive (TypedefName name _) = same (numbers_named name.bytes) no_number
consecutive (TypeOfExpression {expr} _ _ _ _ _ _ d1 _) = same (numbers_of_expr expr) (consecutive d1)
consecutive (TypeOfType {to} _ _ _ _ _ d1 _) = same (numbers_of_type to) (consecutive d1)
consecutive (StructWithFields {name} {declarations} _ _ _ _ _ _ _ d1 _) = same (numbers_struct name declarations) (consecutive d1)
consecutive (StructByTag _ tag _ _) = same (numbers_struct_by_tag (Some (identifier tag))) no_number
consecutive NoMoreFields = no_number
consecutive (MoreFields d1 d2) = follow (consecutive d1) (consecutive d2)
consecutive (OneFieldDeclaration {type} {names} _ d1 d2 _) = same (numbers_fields type names) (follow (consecutive d1) (consecutive d2))
consecutive (OneField d1) = follow (consecutive d1) no_number
consecutive (MoreFieldNames _ d1 _ d2) = follow (consecutive d1) (consecutive d2)
consecutive (NamedField {sizes} stars name _ _ d1 _) = same (numbers_field name.place (Some name.bytes) (length stars) sizes) (follow (consecutive d1) no_number)
consecutive (NamedBits {sizes} {bits} stars name _ _ _ d1 _ _ d2) = same (numbers_bits name.place (Some name.bytes) (length stars) sizes bits) (follow (consecutive d1) (consecutive d2))
consecutive (UnnamedBits {bits} colon _ d1) = same (numbers_bits colon.place None 0 [] bits) (consecutive d1)
consecutive (EnumWithValues {name} {values} _ _ _ _ _ _ _ _ d1 _ _) = same (numbers_enum name values) (consecutive d1)
consecutive (EnumByTag _ tag _ _) = same (numbers_enum_by_tag (Some (identifier tag))) no_number
consecutive (LastEnumerator d1) = follow (consecutive d1) no_number
consecutive (MoreEnumerators _ d1 _ d2) = follow (consecutive d1) (consecutive d2)
consecutive (PlainEnumerator name _) = same (numbers_enumerator name) no_number
consecutive (ValuedEnumerator {value} name _ _ _ d1) = same (numbers_valued_enumerator name value) (consecutive d1)
consecutive (OneTypeName {type} {sizes} stars d1 _ d2) = same (numbers_type_name type (length stars) sizes) (follow (consecutive d1) (consecutive d2))
consecutive NoMoreSizes = no_number
consecutive (SizeLeftOut _ _ _ _ d1) = consecutive d1
consecutive (SizeGiven _ _ _ d1 _ d2) = follow (consecutive d1) (consecutive d2)
consecutive (TypeAlone d1) = consecutive d1
consecutive (StorageBefore _ _ d1) = consecutive d1
consecutive (StorageBehind _ d1 _) = consecutive d1
consecutive (NoDeclarator {storage} {type} _ d1 _) = same (numbers_declaration storage type []) (follow (consecutive d1) no_number)
consecutive (WithDeclarators {storage} {type} {names} _ d1 d2 _) = same (numbers_declaration storage type names) (follow (consecutive d1) (consecutive d2))
consecutive (OneDeclarator d1) = follow (consecutive d1) no_number
consecutive (MoreDeclarators _ d1 _ d2) = follow (consecutive d1) (consecutive d2)
consecutive (ObjectDeclarator {sizes} stars name _ _ d1) = same (numbers_object name (length stars) sizes) (follow (consecutive d1) no_number)
consecutive (InitializedDeclarator {sizes} {init} stars name _ _ _ d1 _ d2) = same (numbers_initialized name (length stars) sizes init) (follow (consecutive d1) (consecutive d2))
consecutive (DeclaratorOfFunction d1) = consecutive d1
consecutive (NoParameters stars name _ _ _ _ _ _) = same (numbers_function name (length stars) []) no_number
consecutive (VoidParameters stars name _ _ _ _ _ _ _ _) = same (numbers_function name (length stars) []) no_number
consecutive (WithParameters {params} stars name _ _ _ _ _ _ d1 _) = same (numbers_function name (length stars) params) (follow (consecutive d1) no_number)
consecutive (OneParameter d1) = follow (consecutive d1) no_number
consecutive (MoreParameters _ d1 _ d2) = follow (consecutive d1) (consecutive d2)
consecutive (NamedParameter {type} {sizes} stars name d1 _ _ d2) = same (numbers_parameter type (length stars) (Some (identifier name)) sizes) (follow (consecutive d1) (consecutive d2))
consecutive (UnnamedParameter {type} {sizes} stars d1 _ d2) = same (numbers_parameter type (length stars) None sizes) (follow (consecutive d1) (consecutive d2))
consecutive (InitializedTo {behind} {value} d1) = same (numbers_value value behind) (consecutive d1)
consecutive (EmptyBraces _ _ _ _) = same (numbers_braces []) no_number
consecutive (InBraces {parts} _ _ _ _ d1 _ _) = same (numbers_braces parts) (consecutive d1)
consecutive (OneInitializer d1) = follow (consecutive d1) no_number
consecutive (MoreInitializers _ d1 _ d2) = follow (consecutive d1) (consecutive d2)
consecutive (NextPart {init} d1) = same (numbers_initializer None init) (consecutive d1)
consecutive (MemberPart {init} _ name _ _ _ _ d1) = same (numbers_initializer (Some (identifier name)) init) (consecutive d1)
consecutive (OneBlock _ _ _ d1 _) = consecutive d1
consecutive NoMoreItems = no_number
consecutive (NextDeclaration {decl} d1 d2) = follow (whole _ _ _ (numbers_declare decl) (consecutive d1)) (consecutive d2)
consecutive (NextStatement d1 d2) = follow (consecutive d1) (consecutive d2)
consecutive (BlockStatement {body} d1) = whole _ _ _ (numbers_block body) (consecutive d1)
consecutive (EmptyStatement _ _) = whole _ _ _ (numbers_eval None) no_number
consecutive (ExpressionStatement {expr} _ _ d1 _) = whole _ _ _ (numbers_eval (Some expr)) (consecutive d1)
consecutive (OneSubstatement d1) = consecutive d1
consecutive (IfStatement {test} {stmt} _ _ closing _ _ _ d1 _ d2) = whole _ _ _ (numbers_if test closing.place stmt) (follow (consecutive d1) (follow (consecutive d2) no_number))
consecutive (IfElseStatement {test} {one} {other} _ _ closing _ _ _ _ d1 _ d2 _ d3) = whole _ _ _ (numbers_if_else test closing.place one other) (follow (consecutive d1) (follow (consecutive d2) (consecutive d3)))
consecutive (WhileStatement {test} {body} _ _ closing _ _ _ d1 _ d2) = whole _ _ _ (numbers_while test closing.place body) (follow (consecutive d1) (consecutive d2))
consecutive (DoStatement {test} {body} _ _ _ closing _ _ d1 _ _ _ d2 _ _) = whole _ _ _ (numbers_do body test closing.place) (follow (consecutive d1) (consecutive d2))
consecutive (ForStatement {first} {test} {next} {body} _ _ semicolon closing _ _ d1 d2 _ d3 _ d4) = whole _ _ _ (numbers_for first test semicolon.place next closing.place body) (follow (consecutive d1) (follow (consecutive d2) (follow (consecutive d3) (consecutive d4))))
consecutive (FirstDeclaration {decl} d1) = whole _ _ _ (numbers_declare decl) (consecutive d1)
consecutive (FirstLeftOut _ _) = whole _ _ _ (numbers_eval None) no_number
consecutive (FirstExpression {expr} _ _ d1 _) = whole _ _ _ (numbers_eval (Some expr)) (consecutive d1)
consecutive NoExpression = no_number
consecutive (SomeExpression d1) = consecutive d1
consecutive (BreakStatement _ _ _ _) = whole _ _ _ numbers_break no_number
consecutive (ContinueStatement _ _ _ _) = whole _ _ _ numbers_continue no_number
consecutive (ReturnStatement {value} _ _ _ d1 _) = whole _ _ _ (numbers_return value) (consecutive d1)
consecutive (LabeledStatement _ _ _ _ _ d1) = consecutive d1

pub numbers_consecutive : NumbersAreConsecutive
numbers_consecutive phrase before after row spelled = consecutive spelled
