-- Trees that a row of tokens spells have the places of its tokens: what holds of these holds of the places in the tree.
use Rattle.std.proofs.Common.{◌≡◌, ℕ, Bool, true, false, List, [], ◌∷◌, ◌++◌, length, map, Option, Some, None, sym, subst}
use Rattle.std.specs.List.{filter}
use Rattle.std.specs.Prelude.{if◌then◌else◌}
use Rattle.cbase.specs.declared.place.Place.{Place}
use Rattle.cbase.specs.declared.tree.decl.Decl.{Decl}
use Rattle.cbase.specs.declared.tree.expr.Expr.{Expr}
use Rattle.cbase.specs.declared.tree.expr.ExprForm.{ExprForm}
use Rattle.cbase.specs.declared.tree.expr.ExprForm.TheViews.{out-ExprForm, out-Part, out-TypeName, out-TypeSpec, out-FieldDecl, out-FieldName, out-Enumerator, out-Decl, out-Declared, out-Param, out-Init, out-InitPart, outs-Name, outs-Constant, outs-Unary, outs-Binary, outs-Assign, outs-Count, outs-Choose, outs-Cast, outs-SizeOf, outs-SizeOfType, outs-OffsetOf, outs-Index, outs-ExprForm::Member, outs-Call, outs-Inner, outs-AssertFail, outs-Part::Member, outs-At, outs-Value, outs-Braces, outs-Basic, outs-Named, outs-Struct, outs-Enum, outs-OfExpr, outs-OfType, outs-Declare, outs-Eval, outs-Block, outs-If, outs-While, outs-Do, outs-For, outs-Break, outs-Continue, outs-Return, out-roll-Decl, out-roll-Declared, out-roll-Enumerator, out-roll-FieldDecl, out-roll-FieldName, out-roll-InitPart, out-roll-Param, out-roll-TypeName}
use Rattle.cbase.specs.declared.tree.expr.ExprForm.TheVariants.{Name, Constant, Unary, Binary, Assign, Count, Choose, Cast, SizeOf, SizeOfType, OffsetOf, Index, Member, Call, Inner, AssertFail}
use Rattle.cbase.specs.declared.tree.expr.Part.{Part}
use Rattle.cbase.specs.declared.tree.expr.Part.TheVariants.{Member as NamedPart, At}
use Rattle.cbase.specs.declared.tree.identifier.Identifier.{Identifier}
use Rattle.cbase.specs.declared.tree.operators.BinaryOp.TheVariants.{Comma}
use Rattle.cbase.specs.declared.tree.operators.UnaryOp.{UnaryOp}
use Rattle.cbase.specs.declared.tree.operators.UnaryOp.TheVariants.{Address, Follow, Plus, Minus, Flip, Not}
use Rattle.cbase.specs.declared.tree.spec.TypeSpec.{TypeSpec}
use Rattle.cbase.specs.declared.tree.spec.TypeSpec.TheVariants.{Basic, Named, Struct, Enum, OfExpr, OfType}
use Rattle.cgrammar.specs.Grammar as grammar
use Rattle.cgrammar.specs.Grammar.{Spells, IsTag}
use Rattle.cgrammar.specs.Phrases as phrase
use Rattle.cgrammar.specs.Phrases.{Phrase, Context}
use Rattle.cgrammar.specs.Terminals.{Terminal, is_any_word, first_place, first_word_place}
use Rattle.cgrammar.specs.Trees.{identifier}
use Rattle.typing.specs.Forms.{Form, Step, Words, Clause, NameParts, DeclarationParts, MemberParts, EnumeratorParts, NamesParts, DeclaratorParts, ParameterParts, Initialiser, PartOfInitialiser}
use Rattle.typing.specs.Pieces.{Loaded, operand_of, base_of, pieces_in, index_in, indices_in}
use Rattle.typing.specs.Statements.{Demand, Condition, Dropped, StatementPart, parts_in, optional, returned}
use Rattle.ccheck.proofs.Holding.{Holds, NameHolds, NamesHold, WayHolds, DemandHolds, tree_of, statement_tree, AnExpression, AForm, Pieces, SomeWords, Perhaps, SomeSizes, ATypeName, Statements, PartsOfStatement, ADeclaration, DeclaredNames, ADeclarator, SomeParameters, AParameter, AnInitialiser, PartsInBraces, APartInBraces, MemberDeclarations, AMemberDeclaration, MemberNames, AMemberName, Constants, AConstant, InExpression, InForm, InNoPiece, InPieces, InBasic, InNamed, InStructTag, InStruct, InEnumTag, InEnum, InTypeofExpression, InTypeofType, InNothing, InSome, InNoSize, InSizes, InTypeName, InNoStatement, InStatements, InNoPart, InParts, InValue, InWhole, InBranch, InLoopBody, InBlock, InLeaving, InReturn, InReturned, InDeclaring, InDeclaration, InNoName, InNames, InDeclarator, InNoParameter, InParameters, InParameter, InNoInitialiser, InInitialised, InValueGiven, InBraces, InNoInitialiserPart, InInitialiserParts, InInitialiserPart, InNoMemberDeclaration, InMemberDeclarations, InMemberDeclaration, InNoMemberName, InMemberNames, InMemberName, InNoConstant, InConstants, InConstant}

-- a row with a token
IsSome : List Terminal → Type 0
IsSome [] = ⊥
IsSome (token ∷ row) = Unit {0}

some_first : (token : Terminal) (row : List Terminal) → IsSome (token ∷ row)
unfolding IsSome
some_first token row = tt

some_behind : (xs ys : List Terminal) → IsSome ys → IsSome (xs ++ ys)
unfolding IsSome
some_behind [] ys some = some
some_behind (token ∷ xs) ys some = tt

some_primary : {expr : Expr} {before after : Context} {row : List Terminal} → Spells (phrase.PrimaryExpression expr) before row after → IsSome row
some_primary (grammar.OneName name is) = some_first _ _
some_primary (grammar.OneConstant token is) = some_first _ _
some_primary (grammar.Bracketed opening closing o free it c) = some_first _ _
some_primary (grammar.StatementExpression opening closing o it c) = some_first _ _
some_primary (grammar.OffsetOfMember word opening comma name closing w o it c n path e) = some_first _ _
some_primary (grammar.FailedAssertion word opening closing w o matched c) = some_first _ _

some_postfix : {expr : Expr} {before after : Context} {row : List Terminal} → Spells (phrase.PostfixExpression expr) before row after → IsSome row
some_postfix (grammar.OnePrimary it) = some_primary it
some_postfix (grammar.IndexOperator {xs} opening closing it o index c) = some_behind xs _ (some_first _ _)
some_postfix (grammar.CallOfNothing {xs} opening closing it o c) = some_behind xs _ (some_first _ _)
some_postfix (grammar.CallOperator {xs} opening closing it o free arguments c) = some_behind xs _ (some_first _ _)
some_postfix (grammar.MemberOperator {xs} mark name it m n) = some_behind xs _ (some_first _ _)
some_postfix (grammar.CountBehind {xs} mark it m) = some_behind xs _ (some_first _ _)

some_declaration : {decl : Decl} {before after : Context} {row : List Terminal} → Spells (phrase.Declaration decl) before row after → IsSome row
some_declaration (grammar.NoDeclarator {xs} semicolon it s) = some_behind xs _ (some_first _ _)
some_declaration (grammar.WithDeclarators {xs} {ys} semicolon it names s) = some_behind xs _ (some_behind ys _ (some_first _ _))

-- it holds of the places of a row
pub data RowHolds (P : Place → Type 0) : List Terminal → Type 0 where
  NoToken : RowHolds P []
  OneMore : {token : Terminal} {row : List Terminal} → P token.place → RowHolds P row → RowHolds P (token ∷ row)

module _ (P : Place → Type 0) where
  pub here : {token : Terminal} {row : List Terminal} → RowHolds P (token ∷ row) → P token.place
  here (OneMore at all) = at

  pub rest : {token : Terminal} {row : List Terminal} → RowHolds P (token ∷ row) → RowHolds P row
  rest (OneMore at all) = all

  pub front : (xs ys : List Terminal) → RowHolds P (xs ++ ys) → RowHolds P xs
  front [] ys all = NoToken
  front (token ∷ xs) ys all = OneMore (here all) (front xs ys (rest all))

  pub back : (xs ys : List Terminal) → RowHolds P (xs ++ ys) → RowHolds P ys
  back [] ys all = all
  back (token ∷ xs) ys all = back xs ys (rest all)

  together : (xs ys : List Terminal) → RowHolds P xs → RowHolds P ys → RowHolds P (xs ++ ys)
  together [] ys all also = also
  together (token ∷ xs) ys all also = OneMore (here all) (together xs ys (rest all) also)

  -- the first token, and the first word
  first_held : (row : List Terminal) → IsSome row → RowHolds P row → P (first_place row)
  unfolding IsSome
  first_held [] some all = absurd some
  first_held (token ∷ row) some all = here all

  kept_one : (test : Bool) (token : Terminal) (row : List Terminal) → P token.place → RowHolds P row → RowHolds P (if test then token ∷ row else row)
  kept_one true token row at all = OneMore at all
  kept_one false token row at all = all

  words_held : (row : List Terminal) → RowHolds P row → RowHolds P (filter is_any_word row)
  words_held [] all = all
  words_held (token ∷ row) all = kept_one (is_any_word token) token (filter is_any_word row) (here all) (words_held row (rest all))

  word_held : (row : List Terminal) → IsSome row → RowHolds P row → P (first_word_place row)
  word_held row some all = first_held (filter is_any_word row ++ row) (some_behind (filter is_any_word row) row some) (together _ row (words_held row all) all)

  -- trees from their parts
  node : (number : ℕ) (place : Place) (form : ExprForm) (seen : Form) → out-ExprForm form ≡ seen → P place → NamesHold P seen → Holds P (Pieces (pieces_in seen))
      → Holds P (AnExpression (record { number = number; place = place; form = form }))
  node number place form seen e at names pieces = InExpression at (subst (λ (f : Form). Holds P (AForm f)) (sym e) (InForm names pieces))

  operand_held : (op : UnaryOp) (arg : Expr) → Holds P (AnExpression arg) → Holds P (tree_of (operand_of op arg))
  operand_held Address arg holds = holds
  operand_held Follow arg holds = holds
  operand_held Plus arg holds = holds
  operand_held Minus arg holds = holds
  operand_held Flip arg holds = holds
  operand_held Not arg holds = holds

  base_held : (through : Bool) (base : Expr) → Holds P (AnExpression base) → Holds P (tree_of (base_of through base))
  base_held true base holds = holds
  base_held false base holds = holds

  abbrev PathHolds : List Part → Type 0
  PathHolds path = WayHolds P (map out-Part path) × Holds P (Pieces (indices_in path))

  named_held : (name : Identifier) (path : List Part) → P name.place → PathHolds path → PathHolds (NamedPart name ∷ path)
  named_held name path at all = (
    subst (λ (step : Step). WayHolds P (step ∷ map out-Part path)) (sym (outs-Part::Member name)) (at, all.0),
    subst (λ (step : Step). Holds P (Pieces (index_in step ++ indices_in path))) (sym (outs-Part::Member name)) all.1,
  )

  index_held : (index : Expr) (path : List Part) → Holds P (AnExpression index) → PathHolds path → PathHolds (At index ∷ path)
  index_held index path holds all = (
    subst (λ (step : Step). WayHolds P (step ∷ map out-Part path)) (sym (outs-At index)) all.0,
    subst (λ (step : Step). Holds P (Pieces (index_in step ++ indices_in path))) (sym (outs-At index)) (InPieces holds all.1),
  )

  words : (spec : TypeSpec) (seen : Words) → out-TypeSpec spec ≡ seen → Holds P (SomeWords seen) → Holds P (SomeWords (out-TypeSpec spec))
  words spec seen e holds = subst (λ (w : Words). Holds P (SomeWords w)) (sym e) holds

  tag_held : (tag : List Terminal) (name : Option Identifier) → IsTag tag name → RowHolds P tag → NameHolds P name
  tag_held tag None is all = tt
  tag_held tag (Some name) is all = subst (λ (n : Identifier). P n.place) is.3 (here (subst (RowHolds P) is.1 all))

  as_member_declaration : {one other : DeclarationParts} → other ≡ one → Holds P (AMemberDeclaration one) → Holds P (AMemberDeclaration other)
  as_member_declaration e holds = subst (λ (parts : DeclarationParts). Holds P (AMemberDeclaration parts)) (sym e) holds

  as_member_name : {one other : MemberParts} → other ≡ one → Holds P (AMemberName one) → Holds P (AMemberName other)
  as_member_name e holds = subst (λ (parts : MemberParts). Holds P (AMemberName parts)) (sym e) holds

  as_constant : {one other : EnumeratorParts} → other ≡ one → Holds P (AConstant one) → Holds P (AConstant other)
  as_constant e holds = subst (λ (parts : EnumeratorParts). Holds P (AConstant parts)) (sym e) holds

  as_type_name : {one other : NameParts} → other ≡ one → Holds P (ATypeName one) → Holds P (ATypeName other)
  as_type_name e holds = subst (λ (parts : NameParts). Holds P (ATypeName parts)) (sym e) holds

  as_declaration : {one other : NamesParts} → other ≡ one → Holds P (ADeclaration one) → Holds P (ADeclaration other)
  as_declaration e holds = subst (λ (parts : NamesParts). Holds P (ADeclaration parts)) (sym e) holds

  as_declarator : {one other : DeclaratorParts} → other ≡ one → Holds P (ADeclarator one) → Holds P (ADeclarator other)
  as_declarator e holds = subst (λ (parts : DeclaratorParts). Holds P (ADeclarator parts)) (sym e) holds

  as_parameter : {one other : ParameterParts} → other ≡ one → Holds P (AParameter one) → Holds P (AParameter other)
  as_parameter e holds = subst (λ (parts : ParameterParts). Holds P (AParameter parts)) (sym e) holds

  as_initialiser : {one other : Initialiser} → other ≡ one → Holds P (AnInitialiser one) → Holds P (AnInitialiser other)
  as_initialiser e holds = subst (λ (init : Initialiser). Holds P (AnInitialiser init)) (sym e) holds

  as_part : {one other : PartOfInitialiser} → other ≡ one → Holds P (APartInBraces one) → Holds P (APartInBraces other)
  as_part e holds = subst (λ (part : PartOfInitialiser). Holds P (APartInBraces part)) (sym e) holds

  clause : (place : Place) {one other : Clause} → other ≡ one → Holds P (PartsOfStatement (parts_in place one)) → Holds P (PartsOfStatement (parts_in place other))
  clause place e holds = subst (λ (c : Clause). Holds P (PartsOfStatement (parts_in place c))) (sym e) holds

  optional_held : (demand : Demand) (expr : Option Expr) (parts : List StatementPart) → DemandHolds P demand → Holds P (Perhaps expr) → Holds P (PartsOfStatement parts)
      → Holds P (PartsOfStatement (optional demand expr ++ parts))
  optional_held demand None parts asked holds others = others
  optional_held demand (Some expr) parts asked (InSome holds) others = InParts (InValue asked holds) others

  returned_held : (place : Place) (value : Option Expr) → P place → Holds P (Perhaps value) → Holds P (PartsOfStatement (returned place value ∷ []))
  returned_held place None at holds = InParts (InReturn at) InNoPart
  returned_held place (Some expr) at (InSome holds) = InParts (InReturned at holds) InNoPart

  -- what a phrase says of its tree
  abbrev pub PhraseHolds : Phrase → Type 0
  PhraseHolds (phrase.Expression expr) = Holds P (AnExpression expr)
  PhraseHolds (phrase.Assignment expr) = Holds P (AnExpression expr)
  PhraseHolds (phrase.Conditional expr) = Holds P (AnExpression expr)
  PhraseHolds (phrase.Operation level expr) = Holds P (AnExpression expr)
  PhraseHolds (phrase.CastExpression expr) = Holds P (AnExpression expr)
  PhraseHolds (phrase.UnaryExpression expr) = Holds P (AnExpression expr)
  PhraseHolds (phrase.PostfixExpression expr) = Holds P (AnExpression expr)
  PhraseHolds (phrase.PrimaryExpression expr) = Holds P (AnExpression expr)
  PhraseHolds (phrase.Arguments exprs) = Holds P (Pieces (map Loaded exprs))
  PhraseHolds (phrase.MemberPath path) = PathHolds path
  PhraseHolds (phrase.TypeSpecifier spec) = Holds P (SomeWords (out-TypeSpec spec))
  PhraseHolds (phrase.NameOfType to) = Holds P (ATypeName (out-TypeName to))
  PhraseHolds (phrase.ArraySizes sizes) = Holds P (SomeSizes sizes)
  PhraseHolds (phrase.Fields fields) = Holds P (MemberDeclarations fields)
  PhraseHolds (phrase.FieldDeclaration field) = Holds P (AMemberDeclaration (out-FieldDecl field))
  PhraseHolds (phrase.FieldDeclarators names) = Holds P (MemberNames names)
  PhraseHolds (phrase.FieldDeclarator name) = Holds P (AMemberName (out-FieldName name))
  PhraseHolds (phrase.Enumerators values) = Holds P (Constants values)
  PhraseHolds (phrase.OneEnumerator value) = Holds P (AConstant (out-Enumerator value))
  PhraseHolds (phrase.Specifiers storage spec) = Holds P (SomeWords (out-TypeSpec spec))
  PhraseHolds (phrase.Declaration decl) = Holds P (ADeclaration (out-Decl decl))
  PhraseHolds (phrase.Declarators typedef behind names) = Holds P (DeclaredNames names)
  PhraseHolds (phrase.Declarator typedef behind name) = Holds P (ADeclarator (out-Declared name))
  PhraseHolds (phrase.FunctionDeclarator name head) = Holds P (ADeclarator (out-Declared head))
  PhraseHolds (phrase.Parameters params) = Holds P (SomeParameters params)
  PhraseHolds (phrase.Parameter param) = Holds P (AParameter (out-Param param))
  PhraseHolds (phrase.Initializer behind init) = Holds P (AnInitialiser (out-Init init))
  PhraseHolds (phrase.Initializers behind parts) = Holds P (PartsInBraces parts)
  PhraseHolds (phrase.DesignatedInitializer behind part) = Holds P (APartInBraces (out-InitPart part))
  PhraseHolds (phrase.CompoundStatement body) = Holds P (Statements body)
  PhraseHolds (phrase.BlockItems body) = Holds P (Statements body)
  PhraseHolds (phrase.Statement dangling stmt) = Holds P (statement_tree stmt)
  PhraseHolds (phrase.Substatement dangling stmt) = Holds P (statement_tree stmt)
  PhraseHolds (phrase.FirstClause stmt) = Holds P (statement_tree stmt)
  PhraseHolds (phrase.MaybeExpression expr) = Holds P (Perhaps expr)

  pub places_held : {before after : Context} {row : List Terminal} {phrase : Phrase} → Spells phrase before row after → RowHolds P row → PhraseHolds phrase
  -- expressions
  places_held (grammar.OneAssignment it) all = places_held it all
  places_held (grammar.CommaOperator {xs} {ys} {left} {right} mark one m other) all =
      node _ _ (Binary Comma left right) _ (outs-Binary Comma left right) (here (back xs (mark ∷ ys) all)) tt
      (InPieces (places_held one (front xs (mark ∷ ys) all)) (InPieces (places_held other (rest (back xs (mark ∷ ys) all))) InNoPiece))
  places_held (grammar.OneConditional it) all = places_held it all
  places_held (grammar.AssignmentOperator {xs} {ys} {left} {right} {op} mark one m other) all =
      node _ _ (Assign op left right) _ (outs-Assign op left right) (here (back xs (mark ∷ ys) all)) tt
      (InPieces (places_held one (front xs (mark ∷ ys) all)) (InPieces (places_held other (rest (back xs (mark ∷ ys) all))) InNoPiece))
  places_held (grammar.OneOperation it) all = places_held it all
  places_held (grammar.ConditionalOperator {xs} {ys} {zs} {test} {one} {other} mark colon first m second c third) all =
      let behind = back xs (mark ∷ (ys ++ (colon ∷ zs))) all in
      node _ _ (Choose test one other) _ (outs-Choose test one other) (here behind) tt
      (InPieces (places_held first (front xs (mark ∷ (ys ++ (colon ∷ zs))) all))
      (InPieces (places_held second (front ys (colon ∷ zs) (rest behind))) (InPieces (places_held third (rest (back ys (colon ∷ zs) (rest behind)))) InNoPiece)))
  places_held (grammar.OneCast it) all = places_held it all
  places_held (grammar.BinaryOperator {xs} {ys} {left} {right} {op} mark below one m other) all =
      node _ _ (Binary op left right) _ (outs-Binary op left right) (here (back xs (mark ∷ ys) all)) tt
      (InPieces (places_held one (front xs (mark ∷ ys) all)) (InPieces (places_held other (rest (back xs (mark ∷ ys) all))) InNoPiece))
  places_held (grammar.OneUnary it) all = places_held it all
  places_held (grammar.CastOperator {xs} {ys} {to} {expr} opening closing o it c arg) all =
      node _ _ (Cast to expr) _ (outs-Cast to expr) (here all) tt
      (InPieces (places_held it (front xs (closing ∷ ys) (rest all))) (InPieces (places_held arg (rest (back xs (closing ∷ ys) (rest all)))) InNoPiece))
  places_held (grammar.OnePostfix it) all = places_held it all
  places_held (grammar.CountBefore {expr} {up} mark m it) all =
      node _ _ (Count up false expr) _ (outs-Count up false expr) (here all) tt (InPieces (places_held it (rest all)) InNoPiece)
  places_held (grammar.UnaryOperator {expr} {op} mark m it) all =
      node _ _ (Unary op expr) _ (outs-Unary op expr) (here all) tt (InPieces (operand_held op expr (places_held it (rest all))) InNoPiece)
  places_held (grammar.SizeOfExpression {expr} word w it) all =
      node _ _ (SizeOf expr) _ (outs-SizeOf expr) (here all) tt (InPieces (places_held it (rest all)) InNoPiece)
  places_held (grammar.SizeOfTypeName {xs} {to} word opening closing w o it c) all =
      node _ _ (SizeOfType to) _ (outs-SizeOfType to) (here all) tt (InPieces (places_held it (front xs (closing ∷ []) (rest (rest all)))) InNoPiece)
  places_held (grammar.OnePrimary it) all = places_held it all
  places_held (grammar.IndexOperator {xs} {ys} {base} {index} opening closing one o other c) all =
      let behind = back xs (opening ∷ (ys ++ (closing ∷ []))) all in
      node _ _ (Index base index) _ (outs-Index base index) (here behind) tt
      (InPieces (places_held one (front xs (opening ∷ (ys ++ (closing ∷ []))) all)) (InPieces (places_held other (front ys (closing ∷ []) (rest behind))) InNoPiece))
  places_held (grammar.CallOfNothing {xs} {callee} opening closing it o c) all =
      let inside = front xs (opening ∷ (closing ∷ [])) all in
      node _ _ (Call callee []) _ (outs-Call callee []) (word_held xs (some_postfix it) inside) tt (InPieces (places_held it inside) InNoPiece)
  places_held (grammar.CallOperator {xs} {ys} {callee} {arguments} opening closing it o free others c) all =
      let inside = front xs (opening ∷ (ys ++ (closing ∷ []))) all in
      node _ _ (Call callee arguments) _ (outs-Call callee arguments) (word_held xs (some_postfix it) inside) tt
      (InPieces (places_held it inside) (places_held others (front ys (closing ∷ []) (rest (back xs (opening ∷ (ys ++ (closing ∷ []))) all)))))
  places_held (grammar.MemberOperator {xs} {base} {through} mark name it m n) all =
      let behind = back xs (mark ∷ (name ∷ [])) all in
      node _ _ (Member base (identifier name) through) _ (outs-ExprForm::Member base (identifier name) through) (here behind) (here (rest behind))
      (InPieces (base_held through base (places_held it (front xs (mark ∷ (name ∷ [])) all))) InNoPiece)
  places_held (grammar.CountBehind {xs} {expr} {up} mark it m) all =
      node _ _ (Count up true expr) _ (outs-Count up true expr) (here (back xs (mark ∷ []) all)) tt (InPieces (places_held it (front xs (mark ∷ []) all)) InNoPiece)
  places_held (grammar.OneArgument it) all = InPieces (places_held it all) InNoPiece
  places_held (grammar.MoreArguments {xs} {ys} comma it c others) all =
      InPieces (places_held it (front xs (comma ∷ ys) all)) (places_held others (rest (back xs (comma ∷ ys) all)))
  places_held (grammar.OneName name is) all = node _ _ (Name name.bytes) _ (outs-Name name.bytes) (here all) tt InNoPiece
  places_held (grammar.OneConstant token is) all = node _ _ (Constant token.bytes) _ (outs-Constant token.bytes) (here all) tt InNoPiece
  places_held (grammar.Bracketed {xs} opening closing o free it c) all = places_held it (front xs (closing ∷ []) (rest all))
  places_held (grammar.StatementExpression {xs} {body} opening closing o it c) all =
      node _ _ (Inner body _) _ (outs-Inner body _) (here all) tt (InPieces (places_held it (front xs (closing ∷ []) (rest all))) InNoPiece)
  places_held (grammar.OffsetOfMember {xs} {ys} {to} {path} word opening comma name closing w o it c n way e) all =
      let behind = back xs (comma ∷ (name ∷ (ys ++ (closing ∷ [])))) (rest (rest all)) in
      let steps = named_held (identifier name) path (here (rest behind)) (places_held way (front ys (closing ∷ []) (rest (rest behind)))) in
      node _ _ (OffsetOf to (NamedPart (identifier name) ∷ path)) _ (outs-OffsetOf to (NamedPart (identifier name) ∷ path)) (here all) steps.0
      (InPieces (places_held it (front xs (comma ∷ (name ∷ (ys ++ (closing ∷ [])))) (rest (rest all)))) steps.1)
  places_held grammar.NoMoreMembers all = (tt, InNoPiece)
  places_held (grammar.PathToMember {path} mark name m n it) all = named_held (identifier name) path (here (rest all)) (places_held it (rest (rest all)))
  places_held (grammar.PathToItem {xs} {ys} {index} {path} opening closing o it c others) all =
      index_held index path (places_held it (front xs (closing ∷ ys) (rest all))) (places_held others (rest (back xs (closing ∷ ys) (rest all))))
  places_held (grammar.FailedAssertion word opening closing w o matched c) all = node _ _ AssertFail _ outs-AssertFail (here all) tt InNoPiece
  -- types
  places_held (grammar.BasicWords {type} row is) all = words (Basic type) _ (outs-Basic type) InBasic
  places_held (grammar.TypedefName name is) all = words (Named name.bytes) _ (outs-Named name.bytes) InNamed
  places_held (grammar.TypeOfExpression {xs} {expr} word opening closing w o free it c) all =
      words (OfExpr expr) _ (outs-OfExpr expr) (InTypeofExpression (places_held it (front xs (closing ∷ []) (rest (rest all)))))
  places_held (grammar.TypeOfType {xs} {to} word opening closing w o it c) all =
      words (OfType to) _ (outs-OfType to) (InTypeofType (places_held it (front xs (closing ∷ []) (rest (rest all)))))
  places_held (grammar.StructWithFields {xs} {name} {declarations} tag word opening closing w tagged o it c) all =
      let behind = back tag (opening ∷ (xs ++ (closing ∷ []))) (rest all) in
      words (Struct name (Some declarations)) _ (outs-Struct name (Some declarations))
      (InStruct (tag_held tag name tagged (front tag (opening ∷ (xs ++ (closing ∷ []))) (rest all))) (places_held it (front xs (closing ∷ []) (rest behind))))
  places_held (grammar.StructByTag word tag w t) all =
      words (Struct (Some (identifier tag)) None) _ (outs-Struct (Some (identifier tag)) None) (InStructTag (here (rest all)))
  places_held grammar.NoMoreFields all = InNoMemberDeclaration
  places_held (grammar.MoreFields {xs} {ys} it others) all = InMemberDeclarations (places_held it (front xs ys all)) (places_held others (back xs ys all))
  places_held (grammar.OneFieldDeclaration {xs} {ys} {type} {names} semicolon it others s) all =
      as_member_declaration (out-roll-FieldDecl (record { spec = type; names = names }))
      (InMemberDeclaration (places_held it (front xs (ys ++ (semicolon ∷ [])) all)) (places_held others (front ys (semicolon ∷ []) (back xs (ys ++ (semicolon ∷ [])) all))))
  places_held (grammar.OneField it) all = InMemberNames (places_held it all) InNoMemberName
  places_held (grammar.MoreFieldNames {xs} {ys} comma it c others) all =
      InMemberNames (places_held it (front xs (comma ∷ ys) all)) (places_held others (rest (back xs (comma ∷ ys) all)))
  places_held (grammar.NamedField {xs} {sizes} stars name s n it given) all =
      let behind = back stars (name ∷ xs) all in
      as_member_name (out-roll-FieldName (record { place = name.place; name = Some name.bytes; stars = length stars; sizes = sizes; bits = None }))
      (InMemberName (here behind) (places_held it (rest behind)) InNothing)
  places_held (grammar.NamedBits {xs} {ys} {sizes} {bits} stars name colon s n it given c width) all =
      let behind = back stars (name ∷ (xs ++ (colon ∷ ys))) all in
      as_member_name (out-roll-FieldName (record { place = name.place; name = Some name.bytes; stars = length stars; sizes = sizes; bits = Some bits }))
      (InMemberName (here behind) (places_held it (front xs (colon ∷ ys) (rest behind))) (InSome (places_held width (rest (back xs (colon ∷ ys) (rest behind))))))
  places_held (grammar.UnnamedBits {bits} colon c width) all =
      as_member_name (out-roll-FieldName (record { place = colon.place; name = None; stars = 0; sizes = []; bits = Some bits }))
      (InMemberName (here all) InNoSize (InSome (places_held width (rest all))))
  places_held (grammar.EnumWithValues {xs} {name} {values} tag last word opening closing w tagged o it comma c) all =
      let behind = back tag (opening ∷ (xs ++ (last ++ (closing ∷ [])))) (rest all) in
      words (Enum name (Some values)) _ (outs-Enum name (Some values))
      (InEnum (tag_held tag name tagged (front tag (opening ∷ (xs ++ (last ++ (closing ∷ [])))) (rest all))) (places_held it (front xs (last ++ (closing ∷ [])) (rest behind))))
  places_held (grammar.EnumByTag word tag w t) all =
      words (Enum (Some (identifier tag)) None) _ (outs-Enum (Some (identifier tag)) None) (InEnumTag (here (rest all)))
  places_held (grammar.LastEnumerator it) all = InConstants (places_held it all) InNoConstant
  places_held (grammar.MoreEnumerators {xs} {ys} comma it c others) all =
      InConstants (places_held it (front xs (comma ∷ ys) all)) (places_held others (rest (back xs (comma ∷ ys) all)))
  places_held (grammar.PlainEnumerator name n) all =
      as_constant (out-roll-Enumerator (record { place = name.place; name = name.bytes; value = None })) (InConstant (here all) InNothing)
  places_held (grammar.ValuedEnumerator {value} name mark n m it) all =
      as_constant (out-roll-Enumerator (record { place = name.place; name = name.bytes; value = Some value })) (InConstant (here all) (InSome (places_held it (rest (rest all)))))
  places_held (grammar.OneTypeName {xs} {ys} {type} {sizes} stars it s others) all =
      as_type_name (out-roll-TypeName (record { spec = type; stars = length stars; sizes = sizes }))
      (InTypeName (places_held it (front xs (stars ++ ys) all)) (places_held others (back stars ys (back xs (stars ++ ys) all))))
  places_held grammar.NoMoreSizes all = InNoSize
  places_held (grammar.SizeLeftOut opening closing o c it) all = InSizes InNothing (places_held it (rest (rest all)))
  places_held (grammar.SizeGiven {xs} {ys} opening closing o it c others) all =
      InSizes (InSome (places_held it (front xs (closing ∷ ys) (rest all)))) (places_held others (rest (back xs (closing ∷ ys) (rest all))))
  -- declarations
  places_held (grammar.TypeAlone it) all = places_held it all
  places_held (grammar.StorageBefore word w it) all = places_held it (rest all)
  places_held (grammar.StorageBehind {xs} word it w) all = places_held it (front xs (word ∷ []) all)
  places_held (grammar.NoDeclarator {xs} {storage} {type} semicolon it s) all =
      as_declaration (out-roll-Decl (record { storage = storage; spec = type; names = [] })) (InDeclaration (places_held it (front xs (semicolon ∷ []) all)) InNoName)
  places_held (grammar.WithDeclarators {xs} {ys} {storage} {type} {names} semicolon it others s) all =
      as_declaration (out-roll-Decl (record { storage = storage; spec = type; names = names }))
      (InDeclaration (places_held it (front xs (ys ++ (semicolon ∷ [])) all)) (places_held others (front ys (semicolon ∷ []) (back xs (ys ++ (semicolon ∷ [])) all))))
  places_held (grammar.OneDeclarator it) all = InNames (places_held it all) InNoName
  places_held (grammar.MoreDeclarators {xs} {ys} comma it c others) all =
      InNames (places_held it (front xs (comma ∷ ys) all)) (places_held others (rest (back xs (comma ∷ ys) all)))
  places_held (grammar.ObjectDeclarator {xs} {sizes} stars name s n it) all =
      let behind = back stars (name ∷ xs) all in
      as_declarator (out-roll-Declared (record { place = name.place; name = name.bytes; stars = length stars; sizes = sizes; params = None; init = None }))
      (InDeclarator (here behind) (places_held it (rest behind)) InNoParameter InNoInitialiser)
  places_held (grammar.InitializedDeclarator {xs} {ys} {sizes} {init} stars name mark s n it m value) all =
      let behind = back stars (name ∷ (xs ++ (mark ∷ ys))) all in
      as_declarator (out-roll-Declared (record { place = name.place; name = name.bytes; stars = length stars; sizes = sizes; params = None; init = Some init }))
      (InDeclarator (here behind) (places_held it (front xs (mark ∷ ys) (rest behind))) InNoParameter (InInitialised (places_held value (rest (back xs (mark ∷ ys) (rest behind))))))
  places_held (grammar.DeclaratorOfFunction it) all = places_held it all
  places_held (grammar.NoParameters stars name opening closing s n o c) all =
      as_declarator (out-roll-Declared (record { place = name.place; name = name.bytes; stars = length stars; sizes = []; params = Some []; init = None }))
      (InDeclarator (here (back stars (name ∷ (opening ∷ (closing ∷ []))) all)) InNoSize InNoParameter InNoInitialiser)
  places_held (grammar.VoidParameters stars name opening word closing s n o w c) all =
      as_declarator (out-roll-Declared (record { place = name.place; name = name.bytes; stars = length stars; sizes = []; params = Some []; init = None }))
      (InDeclarator (here (back stars (name ∷ (opening ∷ (word ∷ (closing ∷ [])))) all)) InNoSize InNoParameter InNoInitialiser)
  places_held (grammar.WithParameters {xs} {params} stars name opening closing s n o free it c) all =
      let behind = back stars (name ∷ (opening ∷ (xs ++ (closing ∷ [])))) all in
      as_declarator (out-roll-Declared (record { place = name.place; name = name.bytes; stars = length stars; sizes = []; params = Some params; init = None }))
      (InDeclarator (here behind) InNoSize (places_held it (front xs (closing ∷ []) (rest (rest behind)))) InNoInitialiser)
  places_held (grammar.OneParameter it) all = InParameters (places_held it all) InNoParameter
  places_held (grammar.MoreParameters {xs} {ys} comma it c others) all =
      InParameters (places_held it (front xs (comma ∷ ys) all)) (places_held others (rest (back xs (comma ∷ ys) all)))
  places_held (grammar.NamedParameter {xs} {ys} {type} {sizes} stars name it s n others) all =
      let behind = back stars (name ∷ ys) (back xs (stars ++ (name ∷ ys)) all) in
      as_parameter (out-roll-Param (record { spec = type; stars = length stars; name = Some (identifier name); sizes = sizes }))
      (InParameter (places_held it (front xs (stars ++ (name ∷ ys)) all)) (here behind) (places_held others (rest behind)))
  places_held (grammar.UnnamedParameter {xs} {ys} {type} {sizes} stars it s others) all =
      as_parameter (out-roll-Param (record { spec = type; stars = length stars; name = None; sizes = sizes }))
      (InParameter (places_held it (front xs (stars ++ ys) all)) tt (places_held others (back stars ys (back xs (stars ++ ys) all))))
  -- initialisers
  places_held (grammar.InitializedTo {behind} {value} it) all = as_initialiser (outs-Value value behind) (InValueGiven (places_held it all))
  places_held (grammar.EmptyBraces opening closing o c) all = as_initialiser (outs-Braces []) (InBraces InNoInitialiserPart)
  places_held (grammar.InBraces {xs} {parts} last opening closing o it comma c) all =
      as_initialiser (outs-Braces parts) (InBraces (places_held it (front xs (last ++ (closing ∷ [])) (rest all))))
  places_held (grammar.OneInitializer it) all = InInitialiserParts (places_held it all) InNoInitialiserPart
  places_held (grammar.MoreInitializers {xs} {ys} comma it c others) all =
      InInitialiserParts (places_held it (front xs (comma ∷ ys) all)) (places_held others (rest (back xs (comma ∷ ys) all)))
  places_held (grammar.NextPart {init} it) all =
      as_part (out-roll-InitPart (record { member = None; init = init })) (InInitialiserPart tt (places_held it all))
  places_held (grammar.MemberPart {init} dot name mark d n m it) all =
      as_part (out-roll-InitPart (record { member = Some (identifier name); init = init })) (InInitialiserPart (here (rest all)) (places_held it (rest (rest (rest all)))))
  -- statements
  places_held (grammar.OneBlock {xs} opening closing o it c) all = places_held it (front xs (closing ∷ []) (rest all))
  places_held grammar.NoMoreItems all = InNoStatement
  places_held (grammar.NextDeclaration {xs} {ys} {decl} it others) all =
      InStatements (clause _ (outs-Declare decl) (InParts (InDeclaring (first_held xs (some_declaration it) (front xs ys all)) (places_held it (front xs ys all))) InNoPart))
      (places_held others (back xs ys all))
  places_held (grammar.NextStatement {xs} {ys} it others) all = InStatements (places_held it (front xs ys all)) (places_held others (back xs ys all))
  places_held (grammar.BlockStatement {body} it) all = clause _ (outs-Block body) (InParts (InBlock (places_held it all)) InNoPart)
  places_held (grammar.EmptyStatement semicolon s) all = clause _ (outs-Eval None) InNoPart
  places_held (grammar.ExpressionStatement {xs} {expr} semicolon free it s) all =
      clause _ (outs-Eval (Some expr)) (InParts (InValue tt (places_held it (front xs (semicolon ∷ []) all))) InNoPart)
  places_held (grammar.OneSubstatement it) all = places_held it all
  places_held (grammar.IfStatement {xs} {ys} {test} {stmt} word opening closing w o free it c one) all =
      clause _ (outs-If test closing.place stmt None)
      (InParts (InValue tt (places_held it (front xs (closing ∷ ys) (rest (rest all))))) (InParts (InBranch (places_held one (rest (back xs (closing ∷ ys) (rest (rest all)))))) InNoPart))
  places_held (grammar.IfElseStatement {xs} {ys} {zs} {test} {one} {other} word opening closing otherwise w o free it c first e second) all =
      let behind = rest (back xs (closing ∷ (ys ++ (otherwise ∷ zs))) (rest (rest all))) in
      clause _ (outs-If test closing.place one (Some other))
      (InParts (InValue tt (places_held it (front xs (closing ∷ (ys ++ (otherwise ∷ zs))) (rest (rest all)))))
      (InParts (InBranch (places_held first (front ys (otherwise ∷ zs) behind))) (InParts (InBranch (places_held second (rest (back ys (otherwise ∷ zs) behind)))) InNoPart)))
  places_held (grammar.WhileStatement {xs} {ys} {test} {body} word opening closing w o free it c one) all =
      clause _ (outs-While test closing.place body)
      (InParts (InValue tt (places_held it (front xs (closing ∷ ys) (rest (rest all))))) (InParts (InLoopBody (places_held one (rest (back xs (closing ∷ ys) (rest (rest all)))))) InNoPart))
  places_held (grammar.DoStatement {xs} {ys} {test} {body} word while opening closing semicolon w one v o free it c s) all =
      let behind = back xs (while ∷ (opening ∷ (ys ++ (closing ∷ (semicolon ∷ []))))) (rest all) in
      clause _ (outs-Do body test closing.place)
      (InParts (InLoopBody (places_held one (front xs (while ∷ (opening ∷ (ys ++ (closing ∷ (semicolon ∷ []))))) (rest all))))
      (InParts (InValue tt (places_held it (front ys (closing ∷ (semicolon ∷ [])) (rest (rest behind))))) InNoPart))
  places_held (grammar.ForStatement {ws} {xs} {ys} {zs} {first} {test} {next} {body} word opening semicolon closing w o one two s three c four) all =
      let inside = rest (rest all) in
      let behind = back ws (xs ++ (semicolon ∷ (ys ++ (closing ∷ zs)))) inside in
      let further = rest (back xs (semicolon ∷ (ys ++ (closing ∷ zs))) behind) in
      clause _ (outs-For first test semicolon.place next closing.place body)
      (InParts (InWhole (places_held one (front ws (xs ++ (semicolon ∷ (ys ++ (closing ∷ zs)))) inside)))
      (optional_held Condition test _ tt (places_held two (front xs (semicolon ∷ (ys ++ (closing ∷ zs))) behind))
      (optional_held Dropped next _ tt (places_held three (front ys (closing ∷ zs) further)) (InParts (InLoopBody (places_held four (rest (back ys (closing ∷ zs) further)))) InNoPart))))
  places_held (grammar.FirstDeclaration {xs} {decl} it) all =
      clause _ (outs-Declare decl) (InParts (InDeclaring (first_held xs (some_declaration it) all) (places_held it all)) InNoPart)
  places_held (grammar.FirstLeftOut semicolon s) all = clause _ (outs-Eval None) InNoPart
  places_held (grammar.FirstExpression {xs} {expr} semicolon free it s) all =
      clause _ (outs-Eval (Some expr)) (InParts (InValue tt (places_held it (front xs (semicolon ∷ []) all))) InNoPart)
  places_held grammar.NoExpression all = InNothing
  places_held (grammar.SomeExpression it) all = InSome (places_held it all)
  places_held (grammar.BreakStatement word semicolon w s) all = clause _ outs-Break (InParts (InLeaving (here all)) InNoPart)
  places_held (grammar.ContinueStatement word semicolon w s) all = clause _ outs-Continue (InParts (InLeaving (here all)) InNoPart)
  places_held (grammar.ReturnStatement {xs} {value} word semicolon w it s) all =
      clause _ (outs-Return value) (returned_held word.place value (here all) (places_held it (front xs (semicolon ∷ []) (rest all))))
  places_held (grammar.LabeledStatement label colon l free c it) all = places_held it (rest (rest all))
