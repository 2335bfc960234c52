-- The grammar of expressions, types, declarations and statements (C11 6.5, 6.7, 6.8), as far as it is read here: which
-- row of tokens spells which tree. One rule, one constructor, in the order in which C11 has them.
--
-- `Spells phrase before row after` says that the row, where `before` stands before it, is the phrase, and that then
-- `after` stands before what follows. An expression has the place of its operator's mark, or of its first token; a call
-- has that of the first word in what it calls.
use Rattle.std.specs.Prelude.{◌≡◌, ℕ, ◌+◌, ◌≤◌, Bool, true, false, not, IsTrue, ◌⊎◌, List, [], ◌∷◌, ◌++◌, length, Option, None, Some, is_some, codes}
use Rattle.std.specs.List.{list_all}
use Rattle.cbase.specs.declared.place.Place.{Place}
use Rattle.cbase.specs.declared.tree.decl.Decl.{Decl}
use Rattle.cbase.specs.declared.tree.decl.Declared.{Declared}
use Rattle.cbase.specs.declared.tree.decl.Param.{Param}
use Rattle.cbase.specs.declared.tree.decl.Storage.{Storage}
use Rattle.cbase.specs.declared.tree.decl.Storage.TheVariants.{Plain}
use Rattle.cbase.specs.declared.tree.decl.TypeName.{TypeName}
use Rattle.cbase.specs.declared.tree.expr.Expr.{Expr}
use Rattle.cbase.specs.declared.tree.expr.ExprForm.TheVariants.{Name, Constant, Unary, Binary, Assign, Count, Choose, Cast, SizeOf, SizeOfType, OffsetOf, Index, Member, Call, Inner, AssertFail}
use Rattle.cbase.specs.declared.tree.expr.Part.{Part}
use Rattle.cbase.specs.declared.tree.expr.Part.TheVariants.{Member as NamedPart, At}
use Rattle.cbase.specs.declared.tree.identifier.Identifier.{Identifier}
use Rattle.cbase.specs.declared.tree.init.Init.{Init}
use Rattle.cbase.specs.declared.tree.init.Init.TheVariants.{Value, Braces}
use Rattle.cbase.specs.declared.tree.init.InitPart.{InitPart}
use Rattle.cbase.specs.declared.tree.operators.BinaryOp.{BinaryOp}
use Rattle.cbase.specs.declared.tree.operators.BinaryOp.TheVariants.{Comma}
use Rattle.cbase.specs.declared.tree.operators.UnaryOp.{UnaryOp}
use Rattle.cbase.specs.declared.tree.spec.BasicType.{BasicType}
use Rattle.cbase.specs.declared.tree.spec.Enumerator.{Enumerator}
use Rattle.cbase.specs.declared.tree.spec.FieldDecl.{FieldDecl}
use Rattle.cbase.specs.declared.tree.spec.FieldName.{FieldName}
use Rattle.cbase.specs.declared.tree.spec.TypeSpec.{TypeSpec}
use Rattle.cbase.specs.declared.tree.spec.TypeSpec.TheVariants.{Basic, Named, Struct, Enum, OfExpr, OfType}
use Rattle.cbase.specs.declared.tree.stmt.Stmt.{Stmt}
use Rattle.cbase.specs.declared.tree.stmt.StmtForm.TheVariants.{Declare, Eval, Block, If, While, Do, For, Break, Continue, Return}
use Rattle.cgrammar.specs.Brackets.{AreMatched}
use Rattle.cgrammar.specs.Constants.{IsConstant}
use Rattle.cgrammar.specs.Operators.{IsUnary, IsCount, IsMember, IsBinary, IsAssignment}
use Rattle.cgrammar.specs.Phrases.{Phrase, Context, counted, numbered, scoped}
use Rattle.cgrammar.specs.Phrases.{Expression, Assignment, Conditional, Operation, CastExpression, UnaryExpression, PostfixExpression, PrimaryExpression, Arguments, MemberPath, TypeSpecifier, NameOfType, ArraySizes, Fields, FieldDeclaration, FieldDeclarators, FieldDeclarator, Enumerators, OneEnumerator, Specifiers, Declaration, Declarators, Declarator, FunctionDeclarator, Parameters, Parameter, Initializer, Initializers, DesignatedInitializer, CompoundStatement, BlockItems, Statement, Substatement, FirstClause, MaybeExpression}
use Rattle.cgrammar.specs.Scope.{entered, declared}
use Rattle.cgrammar.specs.Terminals.{Terminal, is_word, IsWord, IsMark, IsName, IsTypedef, IsNoType, AreStars, first_place, last_place, first_word_place}
use Rattle.cgrammar.specs.Trees.{identifier, object, function, field, fields, enumerator, parameter, type_name, declaration, initializer, statement}
use Rattle.cgrammar.specs.TypeWords.{IsBasic, IsStorage, declares_typedef}

-- a tag, where there is one
abbrev pub IsTag : List Terminal → Option Identifier → Type 0
IsTag row None = row ≡ []
IsTag row (Some name) = (token : Terminal) × (row ≡ token ∷ []) × IsName token × (identifier token ≡ name)

-- a comma that may stand behind the last of a list in braces
abbrev pub IsMaybeComma : List Terminal → Type 0
IsMaybeComma row = (row ≡ []) ⊎ ((token : Terminal) × (row ≡ token ∷ []) × IsMark (codes ",") token)

-- the row of a parameter list that is not the word `void` alone
abbrev pub is_void : List Terminal → Bool
is_void (token ∷ []) = is_word (codes "void") token
is_void _ = false

-- the name of a declarator is in scope from its end on (C11 6.2.1p7)
abbrev pub declaring : Context → List ℕ → Bool → Context
declaring context name typedef = scoped context (declared name typedef context.scope)

-- inside one more scope, and outside it again
abbrev pub inside : Context → Context
inside context = scoped context (entered context.scope)

-- the names in scope as they were before, and the count of expressions as it is behind
abbrev pub outside : Context → Context → Context
outside before within = scoped within before.scope

-- the row, where `before` stands before it, is the phrase, and `after` stands before what follows
pub data Spells : Phrase → Context → List Terminal → Context → Type 0 where
  -- expr : assign { ',' assign } (C11 6.5.17)
  OneAssignment : {before after : Context} {row : List Terminal} {expr : Expr}
      → Spells (Assignment expr) before row after
      → Spells (Expression expr) before row after
  CommaOperator : {before middle after : Context} {xs ys : List Terminal} {left right : Expr} (mark : Terminal)
      → Spells (Expression left) before xs middle
      → IsMark (codes ",") mark
      → Spells (Assignment right) middle ys after
      → Spells (Expression (numbered after mark.place (Binary Comma left right))) before (xs ++ (mark ∷ ys)) (counted after)
  -- assign : cond | unary asgop assign (C11 6.5.16)
  OneConditional : {before after : Context} {row : List Terminal} {expr : Expr}
      → Spells (Conditional expr) before row after
      → Spells (Assignment expr) before row after
  AssignmentOperator : {before middle after : Context} {xs ys : List Terminal} {left right : Expr} {op : Option BinaryOp} (mark : Terminal)
      → Spells (UnaryExpression left) before xs middle
      → IsAssignment op mark
      → Spells (Assignment right) middle ys after
      → Spells (Assignment (numbered after mark.place (Assign op left right))) before (xs ++ (mark ∷ ys)) (counted after)
  -- cond : or [ '?' expr ':' cond ] (C11 6.5.15)
  OneOperation : {before after : Context} {row : List Terminal} {expr : Expr}
      → Spells (Operation 0 expr) before row after
      → Spells (Conditional expr) before row after
  ConditionalOperator : {before first second after : Context} {xs ys zs : List Terminal} {test one other : Expr} (mark colon : Terminal)
      → Spells (Operation 0 test) before xs first
      → IsMark (codes "?") mark
      → Spells (Expression one) first ys second
      → IsMark (codes ":") colon
      → Spells (Conditional other) second zs after
      → Spells (Conditional (numbered after mark.place (Choose test one other))) before (xs ++ (mark ∷ (ys ++ (colon ∷ zs)))) (counted after)
  -- or : binary operators, each to the left, over casts (C11 6.5.5 to 6.5.14)
  OneCast : {before after : Context} {row : List Terminal} {expr : Expr} {level : ℕ}
      → Spells (CastExpression expr) before row after
      → Spells (Operation level expr) before row after
  BinaryOperator : {before middle after : Context} {xs ys : List Terminal} {left right : Expr} {level tighter : ℕ} {op : BinaryOp} (mark : Terminal)
      → level ≤ tighter
      → Spells (Operation tighter left) before xs middle
      → IsBinary tighter op mark
      → Spells (Operation (tighter + 1) right) middle ys after
      → Spells (Operation level (numbered after mark.place (Binary op left right))) before (xs ++ (mark ∷ ys)) (counted after)
  -- cast : unary | '(' tname ')' cast (C11 6.5.4)
  OneUnary : {before after : Context} {row : List Terminal} {expr : Expr}
      → Spells (UnaryExpression expr) before row after
      → Spells (CastExpression expr) before row after
  CastOperator : {before middle after : Context} {xs ys : List Terminal} {to : TypeName} {expr : Expr} (opening closing : Terminal)
      → IsMark (codes "(") opening
      → Spells (NameOfType to) before xs middle
      → IsMark (codes ")") closing
      → Spells (CastExpression expr) middle ys after
      → Spells (CastExpression (numbered after opening.place (Cast to expr))) before (opening ∷ (xs ++ (closing ∷ ys))) (counted after)
  -- unary : postfix | ( '++' | '--' ) unary | ( '&' | '*' | '+' | '-' | '~' | '!' ) cast
  --       | 'sizeof' unary | 'sizeof' '(' tname ')' (C11 6.5.3)
  OnePostfix : {before after : Context} {row : List Terminal} {expr : Expr}
      → Spells (PostfixExpression expr) before row after
      → Spells (UnaryExpression expr) before row after
  CountBefore : {before after : Context} {xs : List Terminal} {expr : Expr} {up : Bool} (mark : Terminal)
      → IsCount up mark
      → Spells (UnaryExpression expr) before xs after
      → Spells (UnaryExpression (numbered after mark.place (Count up false expr))) before (mark ∷ xs) (counted after)
  UnaryOperator : {before after : Context} {xs : List Terminal} {expr : Expr} {op : UnaryOp} (mark : Terminal)
      → IsUnary op mark
      → Spells (CastExpression expr) before xs after
      → Spells (UnaryExpression (numbered after mark.place (Unary op expr))) before (mark ∷ xs) (counted after)
  SizeOfExpression : {before after : Context} {xs : List Terminal} {expr : Expr} (word : Terminal)
      → IsWord (codes "sizeof") word
      → Spells (UnaryExpression expr) before xs after
      → Spells (UnaryExpression (numbered after word.place (SizeOf expr))) before (word ∷ xs) (counted after)
  SizeOfTypeName : {before after : Context} {xs : List Terminal} {to : TypeName} (word opening closing : Terminal)
      → IsWord (codes "sizeof") word
      → IsMark (codes "(") opening
      → Spells (NameOfType to) before xs after
      → IsMark (codes ")") closing
      → Spells (UnaryExpression (numbered after word.place (SizeOfType to))) before (word ∷ (opening ∷ (xs ++ (closing ∷ [])))) (counted after)
  -- postfix : primary { '[' expr ']' | '(' [ assign { ',' assign } ] ')' | '.' ID | '->' ID | '++' | '--' } (C11 6.5.2)
  OnePrimary : {before after : Context} {row : List Terminal} {expr : Expr}
      → Spells (PrimaryExpression expr) before row after
      → Spells (PostfixExpression expr) before row after
  IndexOperator : {before middle after : Context} {xs ys : List Terminal} {base index : Expr} (opening closing : Terminal)
      → Spells (PostfixExpression base) before xs middle
      → IsMark (codes "[") opening
      → Spells (Expression index) middle ys after
      → IsMark (codes "]") closing
      → Spells (PostfixExpression (numbered after opening.place (Index base index))) before (xs ++ (opening ∷ (ys ++ (closing ∷ [])))) (counted after)
  CallOfNothing : {before after : Context} {xs : List Terminal} {callee : Expr} (opening closing : Terminal)
      → Spells (PostfixExpression callee) before xs after
      → IsMark (codes "(") opening
      → IsMark (codes ")") closing
      → Spells (PostfixExpression (numbered after (first_word_place xs) (Call callee []))) before (xs ++ (opening ∷ (closing ∷ []))) (counted after)
  CallOperator : {before middle after : Context} {xs ys : List Terminal} {callee : Expr} {arguments : List Expr} (opening closing : Terminal)
      → Spells (PostfixExpression callee) before xs middle
      → IsMark (codes "(") opening
      → IsNoType middle.scope ys
      → Spells (Arguments arguments) middle ys after
      → IsMark (codes ")") closing
      → Spells (PostfixExpression (numbered after (first_word_place xs) (Call callee arguments))) before (xs ++ (opening ∷ (ys ++ (closing ∷ [])))) (counted after)
  MemberOperator : {before after : Context} {xs : List Terminal} {base : Expr} {through : Bool} (mark name : Terminal)
      → Spells (PostfixExpression base) before xs after
      → IsMember through mark
      → IsName name
      → Spells (PostfixExpression (numbered after mark.place (Member base (identifier name) through))) before (xs ++ (mark ∷ (name ∷ []))) (counted after)
  CountBehind : {before after : Context} {xs : List Terminal} {expr : Expr} {up : Bool} (mark : Terminal)
      → Spells (PostfixExpression expr) before xs after
      → IsCount up mark
      → Spells (PostfixExpression (numbered after mark.place (Count up true expr))) before (xs ++ (mark ∷ [])) (counted after)
  OneArgument : {before after : Context} {xs : List Terminal} {expr : Expr}
      → Spells (Assignment expr) before xs after
      → Spells (Arguments (expr ∷ [])) before xs after
  MoreArguments : {before middle after : Context} {xs ys : List Terminal} {expr : Expr} {others : List Expr} (comma : Terminal)
      → Spells (Assignment expr) before xs middle
      → IsMark (codes ",") comma
      → Spells (Arguments others) middle ys after
      → Spells (Arguments (expr ∷ others)) before (xs ++ (comma ∷ ys)) after
  -- primary : ID | Number | Letter | '(' expr ')' | '(' block ')'
  --         | '__builtin_offsetof' '(' tname ',' ID { '.' ID | '[' cond ']' } ')'
  --         | '__assert_fail' '(' any tokens with matched brackets ')' (C11 6.5.1, 7.19, 7.2)
  OneName : {before : Context} (name : Terminal)
      → IsName name
      → Spells (PrimaryExpression (numbered before name.place (Name name.bytes))) before (name ∷ []) (counted before)
  OneConstant : {before : Context} (token : Terminal)
      → IsConstant token
      → Spells (PrimaryExpression (numbered before token.place (Constant token.bytes))) before (token ∷ []) (counted before)
  Bracketed : {before after : Context} {xs : List Terminal} {expr : Expr} (opening closing : Terminal)
      → IsMark (codes "(") opening
      → IsNoType before.scope xs
      → Spells (Expression expr) before xs after
      → IsMark (codes ")") closing
      → Spells (PrimaryExpression expr) before (opening ∷ (xs ++ (closing ∷ []))) after
  StatementExpression : {before after : Context} {xs : List Terminal} {body : List Stmt} (opening closing : Terminal)
      → IsMark (codes "(") opening
      → Spells (CompoundStatement body) before xs after
      → IsMark (codes ")") closing
      → Spells (PrimaryExpression (numbered after opening.place (Inner body (last_place xs)))) before (opening ∷ (xs ++ (closing ∷ []))) (counted after)
  OffsetOfMember : {before middle after : Context} {xs ys : List Terminal} {to : TypeName} {path : List Part} (word opening comma name closing : Terminal)
      → IsWord (codes "__builtin_offsetof") word
      → IsMark (codes "(") opening
      → Spells (NameOfType to) before xs middle
      → IsMark (codes ",") comma
      → IsName name
      → Spells (MemberPath path) middle ys after
      → IsMark (codes ")") closing
      → Spells (PrimaryExpression (numbered after word.place (OffsetOf to (NamedPart (identifier name) ∷ path)))) before (word ∷ (opening ∷ (xs ++ (comma ∷ (name ∷ (ys ++ (closing ∷ []))))))) (counted after)
  NoMoreMembers : {before : Context}
      → Spells (MemberPath []) before [] before
  PathToMember : {before after : Context} {xs : List Terminal} {path : List Part} (mark name : Terminal)
      → IsMark (codes ".") mark
      → IsName name
      → Spells (MemberPath path) before xs after
      → Spells (MemberPath (NamedPart (identifier name) ∷ path)) before (mark ∷ (name ∷ xs)) after
  PathToItem : {before middle after : Context} {xs ys : List Terminal} {index : Expr} {path : List Part} (opening closing : Terminal)
      → IsMark (codes "[") opening
      → Spells (Conditional index) before xs middle
      → IsMark (codes "]") closing
      → Spells (MemberPath path) middle ys after
      → Spells (MemberPath (At index ∷ path)) before (opening ∷ (xs ++ (closing ∷ ys))) after
  FailedAssertion : {before : Context} {xs : List Terminal} (word opening closing : Terminal)
      → IsWord (codes "__assert_fail") word
      → IsMark (codes "(") opening
      → AreMatched xs
      → IsMark (codes ")") closing
      → Spells (PrimaryExpression (numbered before word.place AssertFail)) before (word ∷ (opening ∷ (xs ++ (closing ∷ [])))) (counted before)
  -- type : basic | TYPEDEF | struct | enum | 'typeof' '(' expr ')' | 'typeof' '(' tname ')' (C11 6.7.2)
  BasicWords : {before : Context} {type : BasicType} (row : List Terminal)
      → IsBasic row type
      → Spells (TypeSpecifier (Basic type)) before row before
  TypedefName : {before : Context} (name : Terminal)
      → IsTypedef before.scope name
      → Spells (TypeSpecifier (Named name.bytes)) before (name ∷ []) before
  TypeOfExpression : {before after : Context} {xs : List Terminal} {expr : Expr} (word opening closing : Terminal)
      → IsWord (codes "typeof") word
      → IsMark (codes "(") opening
      → IsNoType before.scope xs
      → Spells (Expression expr) before xs after
      → IsMark (codes ")") closing
      → Spells (TypeSpecifier (OfExpr expr)) before (word ∷ (opening ∷ (xs ++ (closing ∷ [])))) after
  TypeOfType : {before after : Context} {xs : List Terminal} {to : TypeName} (word opening closing : Terminal)
      → IsWord (codes "typeof") word
      → IsMark (codes "(") opening
      → Spells (NameOfType to) before xs after
      → IsMark (codes ")") closing
      → Spells (TypeSpecifier (OfType to)) before (word ∷ (opening ∷ (xs ++ (closing ∷ [])))) after
  -- struct : 'struct' [ ID ] '{' { field } '}' | 'struct' ID (C11 6.7.2.1)
  StructWithFields : {before after : Context} {xs : List Terminal} {name : Option Identifier} {declarations : List FieldDecl} (tag : List Terminal) (word opening closing : Terminal)
      → IsWord (codes "struct") word
      → IsTag tag name
      → IsMark (codes "{") opening
      → Spells (Fields declarations) before xs after
      → IsMark (codes "}") closing
      → Spells (TypeSpecifier (Struct name (Some declarations))) before (word ∷ (tag ++ (opening ∷ (xs ++ (closing ∷ []))))) after
  StructByTag : {before : Context} (word tag : Terminal)
      → IsWord (codes "struct") word
      → IsName tag
      → Spells (TypeSpecifier (Struct (Some (identifier tag)) None)) before (word ∷ (tag ∷ [])) before
  NoMoreFields : {before : Context}
      → Spells (Fields []) before [] before
  MoreFields : {before middle after : Context} {xs ys : List Terminal} {decl : FieldDecl} {others : List FieldDecl}
      → Spells (FieldDeclaration decl) before xs middle
      → Spells (Fields others) middle ys after
      → Spells (Fields (decl ∷ others)) before (xs ++ ys) after
  -- field : type fname { ',' fname } ';' (C11 6.7.2.1)
  OneFieldDeclaration : {before middle after : Context} {xs ys : List Terminal} {type : TypeSpec} {names : List FieldName} (semicolon : Terminal)
      → Spells (TypeSpecifier type) before xs middle
      → Spells (FieldDeclarators names) middle ys after
      → IsMark (codes ";") semicolon
      → Spells (FieldDeclaration (fields type names)) before (xs ++ (ys ++ (semicolon ∷ []))) after
  OneField : {before after : Context} {xs : List Terminal} {name : FieldName}
      → Spells (FieldDeclarator name) before xs after
      → Spells (FieldDeclarators (name ∷ [])) before xs after
  MoreFieldNames : {before middle after : Context} {xs ys : List Terminal} {name : FieldName} {others : List FieldName} (comma : Terminal)
      → Spells (FieldDeclarator name) before xs middle
      → IsMark (codes ",") comma
      → Spells (FieldDeclarators others) middle ys after
      → Spells (FieldDeclarators (name ∷ others)) before (xs ++ (comma ∷ ys)) after
  -- fname : stars ID sizes [ ':' cond ] | ':' cond; no size of a field is left out
  NamedField : {before after : Context} {xs : List Terminal} {sizes : List (Option Expr)} (stars : List Terminal) (name : Terminal)
      → AreStars stars
      → IsName name
      → Spells (ArraySizes sizes) before xs after
      → IsTrue (list_all is_some sizes)
      → Spells (FieldDeclarator (field name.place (Some name.bytes) (length stars) sizes None)) before (stars ++ (name ∷ xs)) after
  NamedBits : {before middle after : Context} {xs ys : List Terminal} {sizes : List (Option Expr)} {bits : Expr} (stars : List Terminal) (name colon : Terminal)
      → AreStars stars
      → IsName name
      → Spells (ArraySizes sizes) before xs middle
      → IsTrue (list_all is_some sizes)
      → IsMark (codes ":") colon
      → Spells (Conditional bits) middle ys after
      → Spells (FieldDeclarator (field name.place (Some name.bytes) (length stars) sizes (Some bits))) before (stars ++ (name ∷ (xs ++ (colon ∷ ys)))) after
  UnnamedBits : {before after : Context} {xs : List Terminal} {bits : Expr} (colon : Terminal)
      → IsMark (codes ":") colon
      → Spells (Conditional bits) before xs after
      → Spells (FieldDeclarator (field colon.place None 0 [] (Some bits))) before (colon ∷ xs) after
  -- enum : 'enum' [ ID ] '{' enr { ',' enr } [ ',' ] '}' | 'enum' ID (C11 6.7.2.2)
  EnumWithValues : {before after : Context} {xs : List Terminal} {name : Option Identifier} {values : List Enumerator} (tag last : List Terminal) (word opening closing : Terminal)
      → IsWord (codes "enum") word
      → IsTag tag name
      → IsMark (codes "{") opening
      → Spells (Enumerators values) before xs after
      → IsMaybeComma last
      → IsMark (codes "}") closing
      → Spells (TypeSpecifier (Enum name (Some values))) before (word ∷ (tag ++ (opening ∷ (xs ++ (last ++ (closing ∷ [])))))) after
  EnumByTag : {before : Context} (word tag : Terminal)
      → IsWord (codes "enum") word
      → IsName tag
      → Spells (TypeSpecifier (Enum (Some (identifier tag)) None)) before (word ∷ (tag ∷ [])) before
  LastEnumerator : {before after : Context} {xs : List Terminal} {value : Enumerator}
      → Spells (OneEnumerator value) before xs after
      → Spells (Enumerators (value ∷ [])) before xs after
  MoreEnumerators : {before middle after : Context} {xs ys : List Terminal} {value : Enumerator} {others : List Enumerator} (comma : Terminal)
      → Spells (OneEnumerator value) before xs middle
      → IsMark (codes ",") comma
      → Spells (Enumerators others) middle ys after
      → Spells (Enumerators (value ∷ others)) before (xs ++ (comma ∷ ys)) after
  -- enr : ID [ '=' cond ]; its name is in scope behind it
  PlainEnumerator : {before : Context} (name : Terminal)
      → IsName name
      → Spells (OneEnumerator (enumerator name None)) before (name ∷ []) (declaring before name.bytes false)
  ValuedEnumerator : {before after : Context} {xs : List Terminal} {value : Expr} (name mark : Terminal)
      → IsName name
      → IsMark (codes "=") mark
      → Spells (Conditional value) before xs after
      → Spells (OneEnumerator (enumerator name (Some value))) before (name ∷ (mark ∷ xs)) (declaring after name.bytes false)
  -- tname : type stars sizes (C11 6.7.7)
  OneTypeName : {before middle after : Context} {xs ys : List Terminal} {type : TypeSpec} {sizes : List (Option Expr)} (stars : List Terminal)
      → Spells (TypeSpecifier type) before xs middle
      → AreStars stars
      → Spells (ArraySizes sizes) middle ys after
      → Spells (NameOfType (type_name type (length stars) sizes)) before (xs ++ (stars ++ ys)) after
  -- sizes : { '[' [ cond ] ']' } (C11 6.7.6.2)
  NoMoreSizes : {before : Context}
      → Spells (ArraySizes []) before [] before
  SizeLeftOut : {before after : Context} {xs : List Terminal} {sizes : List (Option Expr)} (opening closing : Terminal)
      → IsMark (codes "[") opening
      → IsMark (codes "]") closing
      → Spells (ArraySizes sizes) before xs after
      → Spells (ArraySizes (None ∷ sizes)) before (opening ∷ (closing ∷ xs)) after
  SizeGiven : {before middle after : Context} {xs ys : List Terminal} {size : Expr} {sizes : List (Option Expr)} (opening closing : Terminal)
      → IsMark (codes "[") opening
      → Spells (Conditional size) before xs middle
      → IsMark (codes "]") closing
      → Spells (ArraySizes sizes) middle ys after
      → Spells (ArraySizes (Some size ∷ sizes)) before (opening ∷ (xs ++ (closing ∷ ys))) after
  -- spec : type, with at most one of 'typedef' | 'extern' | 'static' before or behind it (C11 6.7, 6.7.1)
  TypeAlone : {before after : Context} {xs : List Terminal} {type : TypeSpec}
      → Spells (TypeSpecifier type) before xs after
      → Spells (Specifiers Plain type) before xs after
  StorageBefore : {before after : Context} {xs : List Terminal} {storage : Storage} {type : TypeSpec} (word : Terminal)
      → IsStorage storage word
      → Spells (TypeSpecifier type) before xs after
      → Spells (Specifiers storage type) before (word ∷ xs) after
  StorageBehind : {before after : Context} {xs : List Terminal} {storage : Storage} {type : TypeSpec} (word : Terminal)
      → Spells (TypeSpecifier type) before xs after
      → IsStorage storage word
      → Spells (Specifiers storage type) before (xs ++ (word ∷ [])) after
  -- decl : spec [ named { ',' named } ] ';' (C11 6.7)
  NoDeclarator : {before after : Context} {xs : List Terminal} {storage : Storage} {type : TypeSpec} (semicolon : Terminal)
      → Spells (Specifiers storage type) before xs after
      → IsMark (codes ";") semicolon
      → Spells (Declaration (declaration storage type [])) before (xs ++ (semicolon ∷ [])) after
  WithDeclarators : {before middle after : Context} {xs ys : List Terminal} {storage : Storage} {type : TypeSpec} {names : List Declared} (semicolon : Terminal)
      → Spells (Specifiers storage type) before xs middle
      → Spells (Declarators (declares_typedef storage) semicolon.place names) middle ys after
      → IsMark (codes ";") semicolon
      → Spells (Declaration (declaration storage type names)) before (xs ++ (ys ++ (semicolon ∷ []))) after
  OneDeclarator : {before after : Context} {xs : List Terminal} {typedef : Bool} {behind : Place} {name : Declared}
      → Spells (Declarator typedef behind name) before xs after
      → Spells (Declarators typedef behind (name ∷ [])) before xs after
  MoreDeclarators : {before middle after : Context} {xs ys : List Terminal} {typedef : Bool} {behind : Place} {name : Declared} {others : List Declared} (comma : Terminal)
      → Spells (Declarator typedef comma.place name) before xs middle
      → IsMark (codes ",") comma
      → Spells (Declarators typedef behind others) middle ys after
      → Spells (Declarators typedef behind (name ∷ others)) before (xs ++ (comma ∷ ys)) after
  -- named : stars ID sizes [ '=' init ] | fdecl (C11 6.7.6); a name is in scope from the end of its declarator on
  ObjectDeclarator : {before after : Context} {xs : List Terminal} {typedef : Bool} {behind : Place} {sizes : List (Option Expr)} (stars : List Terminal) (name : Terminal)
      → AreStars stars
      → IsName name
      → Spells (ArraySizes sizes) before xs after
      → Spells (Declarator typedef behind (object name (length stars) sizes None)) before (stars ++ (name ∷ xs)) (declaring after name.bytes typedef)
  InitializedDeclarator : {before middle after : Context} {xs ys : List Terminal} {typedef : Bool} {behind : Place} {sizes : List (Option Expr)} {init : Init} (stars : List Terminal) (name mark : Terminal)
      → AreStars stars
      → IsName name
      → Spells (ArraySizes sizes) before xs middle
      → IsMark (codes "=") mark
      → Spells (Initializer behind init) (declaring middle name.bytes typedef) ys after
      → Spells (Declarator typedef behind (object name (length stars) sizes (Some init))) before (stars ++ (name ∷ (xs ++ (mark ∷ ys)))) after
  DeclaratorOfFunction : {before within : Context} {xs : List Terminal} {typedef : Bool} {behind : Place} {name : List ℕ} {head : Declared}
      → Spells (FunctionDeclarator name head) before xs within
      → Spells (Declarator typedef behind head) before xs (declaring (outside before within) name typedef)
  -- fdecl : stars ID '(' [ 'void' | param { ',' param } ] ')' (C11 6.7.6.3); behind it the scope of the parameters is still
  -- entered
  NoParameters : {before : Context} (stars : List Terminal) (name opening closing : Terminal)
      → AreStars stars
      → IsName name
      → IsMark (codes "(") opening
      → IsMark (codes ")") closing
      → Spells (FunctionDeclarator name.bytes (function name (length stars) [])) before (stars ++ (name ∷ (opening ∷ (closing ∷ [])))) (inside before)
  VoidParameters : {before : Context} (stars : List Terminal) (name opening word closing : Terminal)
      → AreStars stars
      → IsName name
      → IsMark (codes "(") opening
      → IsWord (codes "void") word
      → IsMark (codes ")") closing
      → Spells (FunctionDeclarator name.bytes (function name (length stars) [])) before (stars ++ (name ∷ (opening ∷ (word ∷ (closing ∷ []))))) (inside before)
  WithParameters : {before after : Context} {xs : List Terminal} {params : List Param} (stars : List Terminal) (name opening closing : Terminal)
      → AreStars stars
      → IsName name
      → IsMark (codes "(") opening
      → IsTrue (not (is_void xs))
      → Spells (Parameters params) (inside before) xs after
      → IsMark (codes ")") closing
      → Spells (FunctionDeclarator name.bytes (function name (length stars) params)) before (stars ++ (name ∷ (opening ∷ (xs ++ (closing ∷ []))))) after
  OneParameter : {before after : Context} {xs : List Terminal} {param : Param}
      → Spells (Parameter param) before xs after
      → Spells (Parameters (param ∷ [])) before xs after
  MoreParameters : {before middle after : Context} {xs ys : List Terminal} {param : Param} {others : List Param} (comma : Terminal)
      → Spells (Parameter param) before xs middle
      → IsMark (codes ",") comma
      → Spells (Parameters others) middle ys after
      → Spells (Parameters (param ∷ others)) before (xs ++ (comma ∷ ys)) after
  -- param : spec stars [ ID ] { '[' [ cond ] ']' }; its storage word has no meaning
  NamedParameter : {before middle after : Context} {xs ys : List Terminal} {storage : Storage} {type : TypeSpec} {sizes : List (Option Expr)} (stars : List Terminal) (name : Terminal)
      → Spells (Specifiers storage type) before xs middle
      → AreStars stars
      → IsName name
      → Spells (ArraySizes sizes) middle ys after
      → Spells (Parameter (parameter type (length stars) (Some (identifier name)) sizes)) before (xs ++ (stars ++ (name ∷ ys))) (declaring after name.bytes false)
  UnnamedParameter : {before middle after : Context} {xs ys : List Terminal} {storage : Storage} {type : TypeSpec} {sizes : List (Option Expr)} (stars : List Terminal)
      → Spells (Specifiers storage type) before xs middle
      → AreStars stars
      → Spells (ArraySizes sizes) middle ys after
      → Spells (Parameter (parameter type (length stars) None sizes)) before (xs ++ (stars ++ ys)) after
  -- init : assign | '{' [ part { ',' part } [ ',' ] ] '}' (C11 6.7.9); a value has the place of the token behind it
  InitializedTo : {before after : Context} {xs : List Terminal} {behind : Place} {value : Expr}
      → Spells (Assignment value) before xs after
      → Spells (Initializer behind (Value value behind)) before xs after
  EmptyBraces : {before : Context} {behind : Place} (opening closing : Terminal)
      → IsMark (codes "{") opening
      → IsMark (codes "}") closing
      → Spells (Initializer behind (Braces [])) before (opening ∷ (closing ∷ [])) before
  InBraces : {before after : Context} {xs : List Terminal} {behind : Place} {parts : List InitPart} (last : List Terminal) (opening closing : Terminal)
      → IsMark (codes "{") opening
      → Spells (Initializers (first_place (last ++ (closing ∷ []))) parts) before xs after
      → IsMaybeComma last
      → IsMark (codes "}") closing
      → Spells (Initializer behind (Braces parts)) before (opening ∷ (xs ++ (last ++ (closing ∷ [])))) after
  OneInitializer : {before after : Context} {xs : List Terminal} {behind : Place} {part : InitPart}
      → Spells (DesignatedInitializer behind part) before xs after
      → Spells (Initializers behind (part ∷ [])) before xs after
  MoreInitializers : {before middle after : Context} {xs ys : List Terminal} {behind : Place} {part : InitPart} {others : List InitPart} (comma : Terminal)
      → Spells (DesignatedInitializer comma.place part) before xs middle
      → IsMark (codes ",") comma
      → Spells (Initializers behind others) middle ys after
      → Spells (Initializers behind (part ∷ others)) before (xs ++ (comma ∷ ys)) after
  -- part : [ '.' ID '=' ] init
  NextPart : {before after : Context} {xs : List Terminal} {behind : Place} {init : Init}
      → Spells (Initializer behind init) before xs after
      → Spells (DesignatedInitializer behind (initializer None init)) before xs after
  MemberPart : {before after : Context} {xs : List Terminal} {behind : Place} {init : Init} (dot name mark : Terminal)
      → IsMark (codes ".") dot
      → IsName name
      → IsMark (codes "=") mark
      → Spells (Initializer behind init) before xs after
      → Spells (DesignatedInitializer behind (initializer (Some (identifier name)) init)) before (dot ∷ (name ∷ (mark ∷ xs))) after
  -- block : '{' { decl | stmt } '}' (C11 6.8.2); it is a scope of its own
  OneBlock : {before within : Context} {xs : List Terminal} {body : List Stmt} (opening closing : Terminal)
      → IsMark (codes "{") opening
      → Spells (BlockItems body) (inside before) xs within
      → IsMark (codes "}") closing
      → Spells (CompoundStatement body) before (opening ∷ (xs ++ (closing ∷ []))) (outside before within)
  NoMoreItems : {before : Context}
      → Spells (BlockItems []) before [] before
  NextDeclaration : {before middle after : Context} {xs ys : List Terminal} {decl : Decl} {others : List Stmt}
      → Spells (Declaration decl) before xs middle
      → Spells (BlockItems others) middle ys after
      → Spells (BlockItems (statement (first_place xs) (last_place xs) (Declare decl) ∷ others)) before (xs ++ ys) after
  NextStatement : {before middle after : Context} {xs ys : List Terminal} {dangling : Bool} {stmt : Stmt} {others : List Stmt}
      → Spells (Statement dangling stmt) before xs middle
      → Spells (BlockItems others) middle ys after
      → Spells (BlockItems (stmt ∷ others)) before (xs ++ ys) after
  -- stmt : block | [ expr ] ';' (C11 6.8.2, 6.8.3)
  BlockStatement : {before within : Context} {xs : List Terminal} {body : List Stmt}
      → Spells (CompoundStatement body) before xs within
      → Spells (Statement false (statement (first_place xs) (last_place xs) (Block body))) before xs within
  EmptyStatement : {before : Context} (semicolon : Terminal)
      → IsMark (codes ";") semicolon
      → Spells (Statement false (statement semicolon.place semicolon.place (Eval None))) before (semicolon ∷ []) before
  ExpressionStatement : {before after : Context} {xs : List Terminal} {expr : Expr} (semicolon : Terminal)
      → IsNoType before.scope xs
      → Spells (Expression expr) before xs after
      → IsMark (codes ";") semicolon
      → Spells (Statement false (statement (first_place xs) semicolon.place (Eval (Some expr)))) before (xs ++ (semicolon ∷ [])) after
  -- a statement in an `if` or in a loop is a block for names, whether or not it is one by its form (C11 6.8.4p3, 6.8.5p5)
  OneSubstatement : {before within : Context} {xs : List Terminal} {dangling : Bool} {stmt : Stmt}
      → Spells (Statement dangling stmt) (inside before) xs within
      → Spells (Substatement dangling stmt) before xs (outside before within)
  --      | 'if' '(' expr ')' stmt [ 'else' stmt ] (C11 6.8.4.1); an `else` belongs to the nearest `if`. The whole is a scope of its own
  IfStatement : {before middle after : Context} {xs ys : List Terminal} {test : Expr} {dangling : Bool} {stmt : Stmt} (word opening closing : Terminal)
      → IsWord (codes "if") word
      → IsMark (codes "(") opening
      → IsNoType (inside before).scope xs
      → Spells (Expression test) (inside before) xs middle
      → IsMark (codes ")") closing
      → Spells (Substatement dangling stmt) middle ys after
      → Spells (Statement true (statement word.place stmt.after (If test closing.place stmt None))) before (word ∷ (opening ∷ (xs ++ (closing ∷ ys)))) (outside before after)
  IfElseStatement : {before first second after : Context} {xs ys zs : List Terminal} {test : Expr} {dangling : Bool} {one other : Stmt} (word opening closing otherwise : Terminal)
      → IsWord (codes "if") word
      → IsMark (codes "(") opening
      → IsNoType (inside before).scope xs
      → Spells (Expression test) (inside before) xs first
      → IsMark (codes ")") closing
      → Spells (Substatement false one) first ys second
      → IsWord (codes "else") otherwise
      → Spells (Substatement dangling other) second zs after
      → Spells (Statement dangling (statement word.place other.after (If test closing.place one (Some other)))) before (word ∷ (opening ∷ (xs ++ (closing ∷ (ys ++ (otherwise ∷ zs)))))) (outside before after)
  --      | 'while' '(' expr ')' stmt | 'do' stmt 'while' '(' expr ')' ';' (C11 6.8.5); each is a scope of its own
  WhileStatement : {before middle after : Context} {xs ys : List Terminal} {test : Expr} {dangling : Bool} {body : Stmt} (word opening closing : Terminal)
      → IsWord (codes "while") word
      → IsMark (codes "(") opening
      → IsNoType (inside before).scope xs
      → Spells (Expression test) (inside before) xs middle
      → IsMark (codes ")") closing
      → Spells (Substatement dangling body) middle ys after
      → Spells (Statement dangling (statement word.place body.after (While test closing.place body))) before (word ∷ (opening ∷ (xs ++ (closing ∷ ys)))) (outside before after)
  DoStatement : {before middle after : Context} {xs ys : List Terminal} {test : Expr} {dangling : Bool} {body : Stmt} (word while opening closing semicolon : Terminal)
      → IsWord (codes "do") word
      → Spells (Substatement dangling body) (inside before) xs middle
      → IsWord (codes "while") while
      → IsMark (codes "(") opening
      → IsNoType middle.scope ys
      → Spells (Expression test) middle ys after
      → IsMark (codes ")") closing
      → IsMark (codes ";") semicolon
      → Spells (Statement false (statement word.place semicolon.place (Do body test closing.place))) before (word ∷ (xs ++ (while ∷ (opening ∷ (ys ++ (closing ∷ (semicolon ∷ []))))))) (outside before after)
  --      | 'for' '(' ( decl | [ expr ] ';' ) [ expr ] ';' [ expr ] ')' stmt (C11 6.8.5.3); it is a scope of its own
  ForStatement : {before one two three after : Context} {ws xs ys zs : List Terminal} {first : Stmt} {test next : Option Expr} {dangling : Bool} {body : Stmt} (word opening semicolon closing : Terminal)
      → IsWord (codes "for") word
      → IsMark (codes "(") opening
      → Spells (FirstClause first) (inside before) ws one
      → Spells (MaybeExpression test) one xs two
      → IsMark (codes ";") semicolon
      → Spells (MaybeExpression next) two ys three
      → IsMark (codes ")") closing
      → Spells (Substatement dangling body) three zs after
      → Spells (Statement dangling (statement word.place body.after (For first test semicolon.place next closing.place body))) before (word ∷ (opening ∷ (ws ++ (xs ++ (semicolon ∷ (ys ++ (closing ∷ zs))))))) (outside before after)
  FirstDeclaration : {before after : Context} {xs : List Terminal} {decl : Decl}
      → Spells (Declaration decl) before xs after
      → Spells (FirstClause (statement (first_place xs) (last_place xs) (Declare decl))) before xs after
  FirstLeftOut : {before : Context} (semicolon : Terminal)
      → IsMark (codes ";") semicolon
      → Spells (FirstClause (statement semicolon.place semicolon.place (Eval None))) before (semicolon ∷ []) before
  FirstExpression : {before after : Context} {xs : List Terminal} {expr : Expr} (semicolon : Terminal)
      → IsNoType before.scope xs
      → Spells (Expression expr) before xs after
      → IsMark (codes ";") semicolon
      → Spells (FirstClause (statement (first_place xs) semicolon.place (Eval (Some expr)))) before (xs ++ (semicolon ∷ [])) after
  NoExpression : {before : Context}
      → Spells (MaybeExpression None) before [] before
  SomeExpression : {before after : Context} {xs : List Terminal} {expr : Expr}
      → Spells (Expression expr) before xs after
      → Spells (MaybeExpression (Some expr)) before xs after
  --      | 'break' ';' | 'continue' ';' | 'return' [ expr ] ';' (C11 6.8.6)
  BreakStatement : {before : Context} (word semicolon : Terminal)
      → IsWord (codes "break") word
      → IsMark (codes ";") semicolon
      → Spells (Statement false (statement word.place semicolon.place Break)) before (word ∷ (semicolon ∷ [])) before
  ContinueStatement : {before : Context} (word semicolon : Terminal)
      → IsWord (codes "continue") word
      → IsMark (codes ";") semicolon
      → Spells (Statement false (statement word.place semicolon.place Continue)) before (word ∷ (semicolon ∷ [])) before
  ReturnStatement : {before after : Context} {xs : List Terminal} {value : Option Expr} (word semicolon : Terminal)
      → IsWord (codes "return") word
      → Spells (MaybeExpression value) before xs after
      → IsMark (codes ";") semicolon
      → Spells (Statement false (statement word.place semicolon.place (Return value))) before (word ∷ (xs ++ (semicolon ∷ []))) after
  --      | ID ':' stmt (C11 6.8.1); the ID is no TYPEDEF there, and the label leaves no trace
  LabeledStatement : {before after : Context} {xs : List Terminal} {dangling : Bool} {stmt : Stmt} (label colon : Terminal)
      → IsName label
      → IsNoType before.scope (label ∷ [])
      → IsMark (codes ":") colon
      → Spells (Statement dangling stmt) before xs after
      → Spells (Statement dangling stmt) before (label ∷ (colon ∷ xs)) after
