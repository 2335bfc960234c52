-- The reader is complete: rule by rule of the grammar, what is spelled at the front of a row is read.
use Rattle.std.proofs.Common.{List}
use Rattle.cgrammar.proofs.CompleteArguments.{complete_one_argument, complete_more_arguments, complete_no_more_members, complete_path_to_member, complete_path_to_item}
use Rattle.cgrammar.proofs.CompleteAssertions.{complete_failed_assertion}
use Rattle.cgrammar.proofs.CompleteAssignments.{complete_one_conditional, complete_assignment_operator}
use Rattle.cgrammar.proofs.CompleteCommas.{complete_one_assignment, complete_comma_operator}
use Rattle.cgrammar.proofs.CompleteConditionals.{complete_one_operation, complete_conditional_operator}
use Rattle.cgrammar.proofs.CompleteDeclarations.{complete_type_alone, complete_storage_before, complete_storage_behind, complete_no_declarator, complete_with_declarators, complete_one_declarator, complete_more_declarators, complete_object_declarator, complete_initialized_declarator, complete_declarator_of_function, complete_no_parameters, complete_void_parameters, complete_with_parameters, complete_one_parameter, complete_more_parameters, complete_named_parameter, complete_unnamed_parameter}
use Rattle.cgrammar.proofs.CompleteInitializers.{complete_initialized_to, complete_empty_braces, complete_in_braces, complete_one_initializer, complete_more_initializers, complete_next_part, complete_member_part}
use Rattle.cgrammar.proofs.CompleteOperations.{complete_one_cast, complete_binary_operator}
use Rattle.cgrammar.proofs.CompletePostfixes.{complete_one_postfix, complete_one_primary, complete_index_operator, complete_call_of_nothing, complete_call_operator, complete_member_operator, complete_count_behind}
use Rattle.cgrammar.proofs.CompletePrefixes.{complete_one_unary, complete_cast_operator, complete_count_before, complete_unary_operator, complete_size_of_expression, complete_size_of_type_name}
use Rattle.cgrammar.proofs.CompletePrimaries.{complete_one_name, complete_one_constant, complete_bracketed, complete_statement_expression, complete_offset_of_member}
use Rattle.cgrammar.proofs.CompleteStatements.{complete_one_block, complete_no_more_items, complete_next_declaration, complete_next_statement, complete_block_statement, complete_empty_statement, complete_expression_statement, complete_one_substatement, complete_if_statement, complete_if_else_statement, complete_while_statement, complete_do_statement, complete_for_statement, complete_first_declaration, complete_first_left_out, complete_first_expression, complete_no_expression, complete_some_expression, complete_break_statement, complete_continue_statement, complete_return_statement, complete_labeled_statement}
use Rattle.cgrammar.proofs.CompleteTypes.{complete_basic_words, complete_typedef_name, complete_type_of_expression, complete_type_of_type, complete_struct_with_fields, complete_struct_by_tag, complete_no_more_fields, complete_more_fields, complete_one_field_declaration, complete_one_field, complete_more_field_names, complete_named_field, complete_named_bits, complete_unnamed_bits, complete_enum_with_values, complete_enum_by_tag, complete_last_enumerator, complete_more_enumerators, complete_plain_enumerator, complete_valued_enumerator, complete_one_type_name, complete_no_more_sizes, complete_size_left_out, complete_size_given}
use Rattle.cgrammar.proofs.CompleteCommas.{CompletesCommas, commas_one_assignment, commas_comma_operator}
use Rattle.cgrammar.proofs.Reached.{Completes}
use Rattle.cgrammar.proofs.Within.{within}
use Rattle.cgrammar.specs.Grammar.{Spells, OneAssignment, CommaOperator, OneConditional, AssignmentOperator, OneOperation, ConditionalOperator, OneCast, BinaryOperator, OneUnary, CastOperator, OnePostfix, CountBefore, UnaryOperator, SizeOfExpression, SizeOfTypeName, OnePrimary, IndexOperator, CallOfNothing, CallOperator, MemberOperator, CountBehind, OneArgument, MoreArguments, OneName, OneConstant, Bracketed, StatementExpression, OffsetOfMember, NoMoreMembers, PathToMember, PathToItem, FailedAssertion, BasicWords, TypedefName, TypeOfExpression, TypeOfType, StructWithFields, StructByTag, NoMoreFields, MoreFields, OneFieldDeclaration, OneField, MoreFieldNames, NamedField, NamedBits, UnnamedBits, EnumWithValues, EnumByTag, LastEnumerator, MoreEnumerators, PlainEnumerator, ValuedEnumerator, OneTypeName, NoMoreSizes, SizeLeftOut, SizeGiven, TypeAlone, StorageBefore, StorageBehind, NoDeclarator, WithDeclarators, OneDeclarator, MoreDeclarators, ObjectDeclarator, InitializedDeclarator, DeclaratorOfFunction, NoParameters, VoidParameters, WithParameters, OneParameter, MoreParameters, NamedParameter, UnnamedParameter, InitializedTo, EmptyBraces, InBraces, OneInitializer, MoreInitializers, NextPart, MemberPart, OneBlock, NoMoreItems, NextDeclaration, NextStatement, BlockStatement, EmptyStatement, ExpressionStatement, OneSubstatement, IfStatement, IfElseStatement, WhileStatement, DoStatement, ForStatement, FirstDeclaration, FirstLeftOut, FirstExpression, NoExpression, SomeExpression, BreakStatement, ContinueStatement, ReturnStatement, LabeledStatement}
use Rattle.cgrammar.specs.Phrases.{Phrase, Context, Expression}
use Rattle.cgrammar.specs.Terminals.{Terminal}

-- of an expression more is known than where it is read: what a comma behind it does
abbrev MoreOf : Phrase → Context → List Terminal → Context → Type 0
MoreOf (Expression expr) before row after = CompletesCommas expr before row after
MoreOf _ before row after = Unit {0}

all : {phrase : Phrase} {before after : Context} {row : List Terminal} → Spells phrase before row after → Completes phrase before row after × MoreOf phrase before row after
all (OneAssignment {before} {after} {row} {expr} d1) = (complete_one_assignment before after row expr (all d1).0 within, commas_one_assignment before after row expr (all d1).0 within)
all (CommaOperator {before} {middle} {after} {xs} {ys} {left} {right} mark d1 p1 d2) = (complete_comma_operator before middle after xs ys left right mark p1 (all d1).1 (all d2).0 within, commas_comma_operator before middle after xs ys left right mark p1 (all d1).1 (all d2).0 within)
all (OneConditional {before} {after} {row} {expr} d1) = (complete_one_conditional before after row expr (all d1).0 within, tt)
all (AssignmentOperator {before} {middle} {after} {xs} {ys} {left} {right} {op} mark d1 p1 d2) = (complete_assignment_operator before middle after xs ys left right op mark p1 (all d1).0 (all d2).0 within, tt)
all (OneOperation {before} {after} {row} {expr} d1) = (complete_one_operation before after row expr (all d1).0 within, tt)
all (ConditionalOperator {before} {first} {second} {after} {xs} {ys} {zs} {test} {one} {other} mark colon d1 p1 d2 p2 d3) = (complete_conditional_operator before first second after xs ys zs test one other mark colon p1 p2 (all d1).0 (all d2).0 (all d3).0 within, tt)
all (OneCast {before} {after} {row} {expr} {level} d1) = (complete_one_cast before after row expr level (all d1).0 within, tt)
all (BinaryOperator {before} {middle} {after} {xs} {ys} {left} {right} {level} {tighter} {op} mark p1 d1 p2 d2) = (complete_binary_operator before middle after xs ys left right level tighter op mark p1 p2 (all d1).0 (all d2).0 within, tt)
all (OneUnary {before} {after} {row} {expr} d1) = (complete_one_unary before after row expr (all d1).0, tt)
all (CastOperator {before} {middle} {after} {xs} {ys} {to} {expr} opening closing p1 d1 p2 d2) = (complete_cast_operator before middle after xs ys to expr opening closing p1 p2 d1 (all d1).0 (all d2).0, tt)
all (OnePostfix {before} {after} {row} {expr} d1) = (complete_one_postfix before after row expr (all d1).0 within, tt)
all (CountBefore {before} {after} {xs} {expr} {up} mark p1 d1) = (complete_count_before before after xs expr up mark p1 d1 (all d1).0, tt)
all (UnaryOperator {before} {after} {xs} {expr} {op} mark p1 d1) = (complete_unary_operator before after xs expr op mark p1 (all d1).0, tt)
all (SizeOfExpression {before} {after} {xs} {expr} word p1 d1) = (complete_size_of_expression before after xs expr word p1 d1 (all d1).0, tt)
all (SizeOfTypeName {before} {after} {xs} {to} word opening closing p1 p2 d1 p3) = (complete_size_of_type_name before after xs to word opening closing p1 p2 p3 d1 (all d1).0, tt)
all (OnePrimary {before} {after} {row} {expr} d1) = (complete_one_primary before after row expr (all d1).0, tt)
all (IndexOperator {before} {middle} {after} {xs} {ys} {base} {index} opening closing d1 p1 d2 p2) = (complete_index_operator before middle after xs ys base index opening closing p1 p2 (all d1).0 (all d2).0, tt)
all (CallOfNothing {before} {after} {xs} {callee} opening closing d1 p1 p2) = (complete_call_of_nothing before after xs callee opening closing p1 p2 (all d1).0, tt)
all (CallOperator {before} {middle} {after} {xs} {ys} {callee} {arguments} opening closing d1 p1 p2 d2 p3) = (complete_call_operator before middle after xs ys callee arguments opening closing p1 p2 p3 (all d1).0 d2 (all d2).0, tt)
all (MemberOperator {before} {after} {xs} {base} {through} mark name d1 p1 p2) = (complete_member_operator before after xs base through mark name p1 p2 (all d1).0, tt)
all (CountBehind {before} {after} {xs} {expr} {up} mark d1 p1) = (complete_count_behind before after xs expr up mark p1 (all d1).0, tt)
all (OneArgument {before} {after} {xs} {expr} d1) = (complete_one_argument before after xs expr (all d1).0, tt)
all (MoreArguments {before} {middle} {after} {xs} {ys} {expr} {others} comma d1 p1 d2) = (complete_more_arguments before middle after xs ys expr others comma p1 (all d1).0 (all d2).0, tt)
all (OneName {before} name p1) = (complete_one_name before name p1, tt)
all (OneConstant {before} token p1) = (complete_one_constant before token p1, tt)
all (Bracketed {before} {after} {xs} {expr} opening closing p1 p2 d1 p3) = (complete_bracketed before after xs expr opening closing p1 p2 p3 d1 (all d1).0, tt)
all (StatementExpression {before} {after} {xs} {body} opening closing p1 d1 p2) = (complete_statement_expression before after xs body opening closing p1 p2 d1 (all d1).0, tt)
all (OffsetOfMember {before} {middle} {after} {xs} {ys} {to} {path} word opening comma name closing p1 p2 d1 p3 p4 d2 p5) = (complete_offset_of_member before middle after xs ys to path word opening comma name closing p1 p2 p3 p4 p5 (all d1).0 (all d2).0, tt)
all (NoMoreMembers {before}) = (complete_no_more_members before, tt)
all (PathToMember {before} {after} {xs} {path} mark name p1 p2 d1) = (complete_path_to_member before after xs path mark name p1 p2 (all d1).0, tt)
all (PathToItem {before} {middle} {after} {xs} {ys} {index} {path} opening closing p1 d1 p2 d2) = (complete_path_to_item before middle after xs ys index path opening closing p1 p2 (all d1).0 (all d2).0, tt)
all (FailedAssertion {before} {xs} word opening closing p1 p2 p3 p4) = (complete_failed_assertion before xs word opening closing p1 p2 p3 p4, tt)
all (BasicWords {before} {type} row p1) = (complete_basic_words before type row p1, tt)
all (TypedefName {before} name p1) = (complete_typedef_name before name p1, tt)
all (TypeOfExpression {before} {after} {xs} {expr} word opening closing p1 p2 p3 d1 p4) = (complete_type_of_expression before after xs expr word opening closing p1 p2 p3 d1 p4 (all d1).0, tt)
all (TypeOfType {before} {after} {xs} {to} word opening closing p1 p2 d1 p3) = (complete_type_of_type before after xs to word opening closing p1 p2 d1 p3 (all d1).0, tt)
all (StructWithFields {before} {after} {xs} {name} {declarations} tag word opening closing p1 p2 p3 d1 p4) = (complete_struct_with_fields before after xs name declarations tag word opening closing p1 p2 p3 d1 p4 (all d1).0, tt)
all (StructByTag {before} word tag p1 p2) = (complete_struct_by_tag before word tag p1 p2, tt)
all (NoMoreFields {before}) = (complete_no_more_fields before, tt)
all (MoreFields {before} {middle} {after} {xs} {ys} {decl} {others} d1 d2) = (complete_more_fields before middle after xs ys decl others d1 d2 (all d1).0 (all d2).0, tt)
all (OneFieldDeclaration {before} {middle} {after} {xs} {ys} {type} {names} semicolon d1 d2 p1) = (complete_one_field_declaration before middle after xs ys type names semicolon d1 d2 p1 (all d1).0 (all d2).0, tt)
all (OneField {before} {after} {xs} {name} d1) = (complete_one_field before after xs name d1 (all d1).0, tt)
all (MoreFieldNames {before} {middle} {after} {xs} {ys} {name} {others} comma d1 p1 d2) = (complete_more_field_names before middle after xs ys name others comma d1 p1 d2 (all d1).0 (all d2).0, tt)
all (NamedField {before} {after} {xs} {sizes} stars name p1 p2 d1 p3) = (complete_named_field before after xs sizes stars name p1 p2 d1 p3 (all d1).0, tt)
all (NamedBits {before} {middle} {after} {xs} {ys} {sizes} {bits} stars name colon p1 p2 d1 p3 p4 d2) = (complete_named_bits before middle after xs ys sizes bits stars name colon p1 p2 d1 p3 p4 d2 (all d1).0 (all d2).0, tt)
all (UnnamedBits {before} {after} {xs} {bits} colon p1 d1) = (complete_unnamed_bits before after xs bits colon p1 d1 (all d1).0, tt)
all (EnumWithValues {before} {after} {xs} {name} {values} tag last word opening closing p1 p2 p3 d1 p4 p5) = (complete_enum_with_values before after xs name values tag last word opening closing p1 p2 p3 d1 p4 p5 (all d1).0, tt)
all (EnumByTag {before} word tag p1 p2) = (complete_enum_by_tag before word tag p1 p2, tt)
all (LastEnumerator {before} {after} {xs} {value} d1) = (complete_last_enumerator before after xs value d1 (all d1).0, tt)
all (MoreEnumerators {before} {middle} {after} {xs} {ys} {value} {others} comma d1 p1 d2) = (complete_more_enumerators before middle after xs ys value others comma d1 p1 d2 (all d1).0 (all d2).0, tt)
all (PlainEnumerator {before} name p1) = (complete_plain_enumerator before name p1, tt)
all (ValuedEnumerator {before} {after} {xs} {value} name mark p1 p2 d1) = (complete_valued_enumerator before after xs value name mark p1 p2 d1 (all d1).0, tt)
all (OneTypeName {before} {middle} {after} {xs} {ys} {type} {sizes} stars d1 p1 d2) = (complete_one_type_name before middle after xs ys type sizes stars d1 p1 d2 (all d1).0 (all d2).0, tt)
all (NoMoreSizes {before}) = (complete_no_more_sizes before, tt)
all (SizeLeftOut {before} {after} {xs} {sizes} opening closing p1 p2 d1) = (complete_size_left_out before after xs sizes opening closing p1 p2 d1 (all d1).0, tt)
all (SizeGiven {before} {middle} {after} {xs} {ys} {size} {sizes} opening closing p1 d1 p2 d2) = (complete_size_given before middle after xs ys size sizes opening closing p1 d1 p2 d2 (all d1).0 (all d2).0, tt)
all (TypeAlone {before} {after} {xs} {type} d1) = (complete_type_alone before after xs type d1 (all d1).0, tt)
all (StorageBefore {before} {after} {xs} {storage} {type} word p1 d1) = (complete_storage_before before after xs storage type word p1 d1 (all d1).0, tt)
all (StorageBehind {before} {after} {xs} {storage} {type} word d1 p1) = (complete_storage_behind before after xs storage type word d1 p1 (all d1).0, tt)
all (NoDeclarator {before} {after} {xs} {storage} {type} semicolon d1 p1) = (complete_no_declarator before after xs storage type semicolon d1 p1 (all d1).0, tt)
all (WithDeclarators {before} {middle} {after} {xs} {ys} {storage} {type} {names} semicolon d1 d2 p1) = (complete_with_declarators before middle after xs ys storage type names semicolon d1 d2 p1 (all d1).0 (all d2).0, tt)
all (OneDeclarator {before} {after} {xs} {typedef} {behind} {name} d1) = (complete_one_declarator before after xs typedef behind name d1 (all d1).0, tt)
all (MoreDeclarators {before} {middle} {after} {xs} {ys} {typedef} {behind} {name} {others} comma d1 p1 d2) = (complete_more_declarators before middle after xs ys typedef behind name others comma d1 p1 d2 (all d1).0 (all d2).0, tt)
all (ObjectDeclarator {before} {after} {xs} {typedef} {behind} {sizes} stars name p1 p2 d1) = (complete_object_declarator before after xs typedef behind sizes stars name p1 p2 d1 (all d1).0, tt)
all (InitializedDeclarator {before} {middle} {after} {xs} {ys} {typedef} {behind} {sizes} {init} stars name mark p1 p2 d1 p3 d2) = (complete_initialized_declarator before middle after xs ys typedef behind sizes init stars name mark p1 p2 d1 p3 d2 (all d1).0 (all d2).0, tt)
all (DeclaratorOfFunction {before} {within} {xs} {typedef} {behind} {name} {head} d1) = (complete_declarator_of_function before within xs typedef behind name head d1 (all d1).0, tt)
all (NoParameters {before} stars name opening closing p1 p2 p3 p4) = (complete_no_parameters before stars name opening closing p1 p2 p3 p4, tt)
all (VoidParameters {before} stars name opening word closing p1 p2 p3 p4 p5) = (complete_void_parameters before stars name opening word closing p1 p2 p3 p4 p5, tt)
all (WithParameters {before} {after} {xs} {params} stars name opening closing p1 p2 p3 p4 d1 p5) = (complete_with_parameters before after xs params stars name opening closing p1 p2 p3 p4 d1 p5 (all d1).0, tt)
all (OneParameter {before} {after} {xs} {param} d1) = (complete_one_parameter before after xs param d1 (all d1).0, tt)
all (MoreParameters {before} {middle} {after} {xs} {ys} {param} {others} comma d1 p1 d2) = (complete_more_parameters before middle after xs ys param others comma d1 p1 d2 (all d1).0 (all d2).0, tt)
all (NamedParameter {before} {middle} {after} {xs} {ys} {storage} {type} {sizes} stars name d1 p1 p2 d2) = (complete_named_parameter before middle after xs ys storage type sizes stars name d1 p1 p2 d2 (all d1).0 (all d2).0, tt)
all (UnnamedParameter {before} {middle} {after} {xs} {ys} {storage} {type} {sizes} stars d1 p1 d2) = (complete_unnamed_parameter before middle after xs ys storage type sizes stars d1 p1 d2 (all d1).0 (all d2).0, tt)
all (InitializedTo {before} {after} {xs} {behind} {value} d1) = (complete_initialized_to before after xs behind value d1 (all d1).0, tt)
all (EmptyBraces {before} {behind} opening closing p1 p2) = (complete_empty_braces before behind opening closing p1 p2, tt)
all (InBraces {before} {after} {xs} {behind} {parts} last opening closing p1 d1 p2 p3) = (complete_in_braces before after xs behind parts last opening closing p1 d1 p2 p3 (all d1).0, tt)
all (OneInitializer {before} {after} {xs} {behind} {part} d1) = (complete_one_initializer before after xs behind part d1 (all d1).0, tt)
all (MoreInitializers {before} {middle} {after} {xs} {ys} {behind} {part} {others} comma d1 p1 d2) = (complete_more_initializers before middle after xs ys behind part others comma d1 p1 d2 (all d1).0 (all d2).0, tt)
all (NextPart {before} {after} {xs} {behind} {init} d1) = (complete_next_part before after xs behind init d1 (all d1).0, tt)
all (MemberPart {before} {after} {xs} {behind} {init} dot name mark p1 p2 p3 d1) = (complete_member_part before after xs behind init dot name mark p1 p2 p3 d1 (all d1).0, tt)
all (OneBlock {before} {within} {xs} {body} opening closing p1 d1 p2) = (complete_one_block before within xs body opening closing p1 d1 p2 (all d1).0, tt)
all (NoMoreItems {before}) = (complete_no_more_items before, tt)
all (NextDeclaration {before} {middle} {after} {xs} {ys} {decl} {others} d1 d2) = (complete_next_declaration before middle after xs ys decl others d1 d2 (all d1).0 (all d2).0, tt)
all (NextStatement {before} {middle} {after} {xs} {ys} {dangling} {stmt} {others} d1 d2) = (complete_next_statement before middle after xs ys dangling stmt others d1 d2 (all d1).0 (all d2).0, tt)
all (BlockStatement {before} {within} {xs} {body} d1) = (complete_block_statement before within xs body d1 (all d1).0, tt)
all (EmptyStatement {before} semicolon p1) = (complete_empty_statement before semicolon p1, tt)
all (ExpressionStatement {before} {after} {xs} {expr} semicolon p1 d1 p2) = (complete_expression_statement before after xs expr semicolon p1 d1 p2 (all d1).0, tt)
all (OneSubstatement {before} {within} {xs} {dangling} {stmt} d1) = (complete_one_substatement before within xs dangling stmt d1 (all d1).0, tt)
all (IfStatement {before} {middle} {after} {xs} {ys} {test} {dangling} {stmt} word opening closing p1 p2 p3 d1 p4 d2) = (complete_if_statement before middle after xs ys test dangling stmt word opening closing p1 p2 p3 d1 p4 d2 (all d1).0 (all d2).0, tt)
all (IfElseStatement {before} {first} {second} {after} {xs} {ys} {zs} {test} {dangling} {one} {other} word opening closing otherwise p1 p2 p3 d1 p4 d2 p5 d3) = (complete_if_else_statement before first second after xs ys zs test dangling one other word opening closing otherwise p1 p2 p3 d1 p4 d2 p5 d3 (all d1).0 (all d2).0 (all d3).0, tt)
all (WhileStatement {before} {middle} {after} {xs} {ys} {test} {dangling} {body} word opening closing p1 p2 p3 d1 p4 d2) = (complete_while_statement before middle after xs ys test dangling body word opening closing p1 p2 p3 d1 p4 d2 (all d1).0 (all d2).0, tt)
all (DoStatement {before} {middle} {after} {xs} {ys} {test} {dangling} {body} word while opening closing semicolon p1 d1 p2 p3 p4 d2 p5 p6) = (complete_do_statement before middle after xs ys test dangling body word while opening closing semicolon p1 d1 p2 p3 p4 d2 p5 p6 (all d1).0 (all d2).0, tt)
all (ForStatement {before} {one} {two} {three} {after} {ws} {xs} {ys} {zs} {first} {test} {next} {dangling} {body} word opening semicolon closing p1 p2 d1 d2 p3 d3 p4 d4) = (complete_for_statement before one two three after ws xs ys zs first test next dangling body word opening semicolon closing p1 p2 d1 d2 p3 d3 p4 d4 (all d1).0 (all d2).0 (all d3).0 (all d4).0, tt)
all (FirstDeclaration {before} {after} {xs} {decl} d1) = (complete_first_declaration before after xs decl d1 (all d1).0, tt)
all (FirstLeftOut {before} semicolon p1) = (complete_first_left_out before semicolon p1, tt)
all (FirstExpression {before} {after} {xs} {expr} semicolon p1 d1 p2) = (complete_first_expression before after xs expr semicolon p1 d1 p2 (all d1).0, tt)
all (NoExpression {before}) = (complete_no_expression before, tt)
all (SomeExpression {before} {after} {xs} {expr} d1) = (complete_some_expression before after xs expr d1 (all d1).0, tt)
all (BreakStatement {before} word semicolon p1 p2) = (complete_break_statement before word semicolon p1 p2, tt)
all (ContinueStatement {before} word semicolon p1 p2) = (complete_continue_statement before word semicolon p1 p2, tt)
all (ReturnStatement {before} {after} {xs} {value} word semicolon p1 d1 p2) = (complete_return_statement before after xs value word semicolon p1 d1 p2 (all d1).0, tt)
all (LabeledStatement {before} {after} {xs} {dangling} {stmt} label colon p1 p2 p3 d1) = (complete_labeled_statement before after xs dangling stmt label colon p1 p2 p3 d1 (all d1).0, tt)

pub complete : (phrase : Phrase) (before after : Context) (row : List Terminal) → Spells phrase before row after → Completes phrase before row after
complete phrase before after row spells = (all spells).0
