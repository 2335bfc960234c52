-- How the expressions of a phrase are numbered.
use Rattle.std.specs.Prelude.{ℕ, List, map}
use Rattle.std.specs.List.{concat}
use Rattle.ctrees.specs.Numbers.{AreConsecutive, part_numbers, init_numbers, spec_numbers, decl_numbers, declared_numbers, param_numbers, type_name_numbers, expr_numbers, init_part_numbers, field_decl_numbers, field_name_numbers, enumerator_numbers, stmt_numbers, maybe_numbers}
use Rattle.cgrammar.specs.Grammar.{Spells}
use Rattle.cgrammar.specs.Phrases.{Phrase, Context, Expression, Assignment, Conditional, Operation, CastExpression, UnaryExpression, PostfixExpression, PrimaryExpression, Arguments, MemberPath, TypeSpecifier, NameOfType, ArraySizes, Fields, FieldDeclaration, FieldDeclarators, FieldDeclarator, Enumerators, OneEnumerator, Specifiers, Declaration, Declarators, Declarator, FunctionDeclarator, Parameters, Parameter, Initializer, Initializers, DesignatedInitializer, CompoundStatement, BlockItems, Statement, Substatement, FirstClause, MaybeExpression}
use Rattle.cgrammar.specs.Terminals.{Terminal}

-- the numbers of the expressions in what a phrase gives, in the order of the text
abbrev pub phrase_numbers : Phrase → List ℕ
phrase_numbers (Expression expr) = expr_numbers expr
phrase_numbers (Assignment expr) = expr_numbers expr
phrase_numbers (Conditional expr) = expr_numbers expr
phrase_numbers (Operation level expr) = expr_numbers expr
phrase_numbers (CastExpression expr) = expr_numbers expr
phrase_numbers (UnaryExpression expr) = expr_numbers expr
phrase_numbers (PostfixExpression expr) = expr_numbers expr
phrase_numbers (PrimaryExpression expr) = expr_numbers expr
phrase_numbers (Arguments arguments) = concat (map expr_numbers arguments)
phrase_numbers (MemberPath path) = concat (map part_numbers path)
phrase_numbers (TypeSpecifier type) = spec_numbers type
phrase_numbers (NameOfType name) = type_name_numbers name
phrase_numbers (ArraySizes sizes) = concat (map maybe_numbers sizes)
phrase_numbers (Fields declarations) = concat (map field_decl_numbers declarations)
phrase_numbers (FieldDeclaration declaration) = field_decl_numbers declaration
phrase_numbers (FieldDeclarators names) = concat (map field_name_numbers names)
phrase_numbers (FieldDeclarator name) = field_name_numbers name
phrase_numbers (Enumerators values) = concat (map enumerator_numbers values)
phrase_numbers (OneEnumerator value) = enumerator_numbers value
phrase_numbers (Specifiers storage type) = spec_numbers type
phrase_numbers (Declaration decl) = decl_numbers decl
phrase_numbers (Declarators typedef behind names) = concat (map declared_numbers names)
phrase_numbers (Declarator typedef behind name) = declared_numbers name
phrase_numbers (FunctionDeclarator name head) = declared_numbers head
phrase_numbers (Parameters params) = concat (map param_numbers params)
phrase_numbers (Parameter param) = param_numbers param
phrase_numbers (Initializer behind init) = init_numbers init
phrase_numbers (Initializers behind parts) = concat (map init_part_numbers parts)
phrase_numbers (DesignatedInitializer behind part) = init_part_numbers part
phrase_numbers (CompoundStatement body) = concat (map stmt_numbers body)
phrase_numbers (BlockItems body) = concat (map stmt_numbers body)
phrase_numbers (Statement dangling stmt) = stmt_numbers stmt
phrase_numbers (Substatement dangling stmt) = stmt_numbers stmt
phrase_numbers (FirstClause stmt) = stmt_numbers stmt
phrase_numbers (MaybeExpression expr) = maybe_numbers expr

-- The expressions of a row that spells a phrase have the numbers from the count of those before it up to the count behind it, each
-- once, in the order of the text.
abbrev pub NumbersAreConsecutive : Type 0
NumbersAreConsecutive = (phrase : Phrase) (before after : Context) (row : List Terminal) → Spells phrase before row after → AreConsecutive before.expressions (phrase_numbers phrase) after.expressions
