-- Which trees events make: each takes the pieces that its tree is made of off the top and puts the tree there. Where
-- other pieces stand there it makes nothing.
use Rattle.std.specs.Prelude.{ℕ, List, [], ◌∷◌, ◌++◌, Option, None, Some}
use Rattle.cbase.specs.declared.tree.expr.ExprForm.TheVariants.{Name, Constant, Unary, Binary, Assign, Count, Choose, Cast, SizeOf, SizeOfType, OffsetOf, Index, Member, Call, Inner, AssertFail}
use Rattle.cbase.specs.declared.tree.expr.Part.TheVariants.{Member as NamedPart, At}
use Rattle.cbase.specs.declared.tree.init.Init.TheVariants.{Value, Braces}
use Rattle.cbase.specs.declared.tree.item.Item.TheVariants.{Empty, Declare as DeclaredItem, Function}
use Rattle.cbase.specs.declared.tree.spec.TypeSpec.TheVariants.{Basic, Named, Struct, Enum, OfExpr, OfType}
use Rattle.cbase.specs.declared.tree.stmt.StmtForm.TheVariants.{Declare, Eval, Block, If, While, Do, For, Break, Continue, Return}
use Rattle.cevents.specs.Workshop.{Workshop, token_at, place_at, bytes_at, identifier_at, maybe_identifier_at, pushed, expressed, with_expr, with_arguments, with_path, with_type, with_sizes, with_type_name, with_field_names, with_fields, with_enumerators, with_parameters, with_declarators, with_declarator, with_declaration, with_init, with_parts, with_maybe, with_statement, with_statements}
use Rattle.cevents.specs.declared.event.Event.{Event}
use Rattle.cevents.specs.declared.event.Event.TheVariants as event
use Rattle.cevents.specs.declared.piece.Piece.{Piece}
use Rattle.cevents.specs.declared.piece.Piece.TheVariants as piece
use Rattle.cgrammar.specs.Terminals.{Terminal}
use Rattle.cgrammar.specs.Trees.{object, function, field, parameter, type_name, fields, enumerator, declaration, initializer, statement}

-- what an event makes out of the pieces so far, the last one first, of which so many are expressions
abbrev pub built : List Terminal → Event → ℕ → List Piece → Option Workshop
built row (event.Name at) count pieces = expressed count (place_at row at) (Name (bytes_at row at)) pieces
built row (event.Constant at) count pieces = expressed count (place_at row at) (Constant (bytes_at row at)) pieces
built row (event.AssertFail at) count pieces = expressed count (place_at row at) AssertFail pieces
built row (event.Unary op at) count pieces =
    with_expr pieces (λ arg others. expressed count (place_at row at) (Unary op arg) others)
built row (event.Count up after at) count pieces =
    with_expr pieces (λ arg others. expressed count (place_at row at) (Count up after arg) others)
built row (event.SizeOf at) count pieces =
    with_expr pieces (λ arg others. expressed count (place_at row at) (SizeOf arg) others)
built row (event.SizeOfType at) count pieces =
    with_type_name pieces (λ to others. expressed count (place_at row at) (SizeOfType to) others)
built row (event.OffsetOf at) count pieces =
    with_path pieces (λ path below. with_type_name below (λ to others. expressed count (place_at row at) (OffsetOf to path) others))
built row (event.Cast at) count pieces =
    with_expr pieces (λ arg below. with_type_name below (λ to others. expressed count (place_at row at) (Cast to arg) others))
built row (event.Index at) count pieces =
    with_expr pieces (λ index below. with_expr below (λ base others. expressed count (place_at row at) (Index base index) others))
built row (event.Member through at name) count pieces =
    with_expr pieces (λ base others. expressed count (place_at row at) (Member base (identifier_at row name) through) others)
built row (event.Call at) count pieces =
    with_arguments pieces (λ arguments below. with_expr below (λ callee others. expressed count (place_at row at) (Call callee arguments) others))
built row (event.Inner at close) count pieces =
    with_statements pieces (λ body others. expressed count (place_at row at) (Inner body (place_at row close)) others)
built row (event.Binary op at) count pieces =
    with_expr pieces (λ right below. with_expr below (λ left others. expressed count (place_at row at) (Binary op left right) others))
built row (event.Assign op at) count pieces =
    with_expr pieces (λ right below. with_expr below (λ left others. expressed count (place_at row at) (Assign op left right) others))
built row (event.Choose at) count pieces =
    with_expr pieces (λ no below. with_expr below (λ yes lower. with_expr lower (λ test others. expressed count (place_at row at) (Choose test yes no) others)))
built row event.NoArguments count pieces = pushed count (piece.Arguments []) pieces
built row event.Argument count pieces =
    with_expr pieces (λ argument below. with_arguments below (λ arguments others. pushed count (piece.Arguments (arguments ++ argument ∷ [])) others))
built row (event.Path name) count pieces = pushed count (piece.Path (NamedPart (identifier_at row name) ∷ [])) pieces
built row (event.PathMember name) count pieces =
    with_path pieces (λ path others. pushed count (piece.Path (path ++ NamedPart (identifier_at row name) ∷ [])) others)
built row event.PathIndex count pieces =
    with_expr pieces (λ index below. with_path below (λ path others. pushed count (piece.Path (path ++ At index ∷ [])) others))
built row (event.Basic basic) count pieces = pushed count (piece.Type (Basic basic)) pieces
built row (event.Named at) count pieces = pushed count (piece.Type (Named (bytes_at row at))) pieces
built row (event.StructTag tag) count pieces = pushed count (piece.Type (Struct (Some (identifier_at row tag)) None)) pieces
built row (event.EnumTag tag) count pieces = pushed count (piece.Type (Enum (Some (identifier_at row tag)) None)) pieces
built row (event.Struct tag) count pieces =
    with_fields pieces (λ declarations others. pushed count (piece.Type (Struct (maybe_identifier_at row tag) (Some declarations))) others)
built row (event.Enum tag) count pieces =
    with_enumerators pieces (λ values others. pushed count (piece.Type (Enum (maybe_identifier_at row tag) (Some values))) others)
built row event.TypeOfExpr count pieces = with_expr pieces (λ expr others. pushed count (piece.Type (OfExpr expr)) others)
built row event.TypeOfType count pieces = with_type_name pieces (λ to others. pushed count (piece.Type (OfType to)) others)
built row event.NoSizes count pieces = pushed count (piece.Sizes []) pieces
built row event.OpenSize count pieces = with_sizes pieces (λ sizes others. pushed count (piece.Sizes (sizes ++ None ∷ [])) others)
built row event.Size count pieces =
    with_expr pieces (λ size below. with_sizes below (λ sizes others. pushed count (piece.Sizes (sizes ++ Some size ∷ [])) others))
built row (event.TypeName stars) count pieces =
    with_sizes pieces (λ sizes below. with_type below (λ type others. pushed count (piece.TypeName (type_name type stars sizes)) others))
built row event.NoFieldNames count pieces = pushed count (piece.FieldNames []) pieces
built row (event.Field name stars) count pieces =
    with_sizes pieces (λ sizes below. with_field_names below (λ names others.
    pushed count (piece.FieldNames (names ++ field (place_at row name) (Some (bytes_at row name)) stars sizes None ∷ [])) others))
built row (event.BitField name stars) count pieces =
    with_expr pieces (λ bits lower. with_sizes lower (λ sizes below. with_field_names below (λ names others.
    pushed count (piece.FieldNames (names ++ field (place_at row name) (Some (bytes_at row name)) stars sizes (Some bits) ∷ [])) others)))
built row (event.Padding colon) count pieces =
    with_expr pieces (λ bits below. with_field_names below (λ names others.
    pushed count (piece.FieldNames (names ++ field (place_at row colon) None 0 [] (Some bits) ∷ [])) others))
built row event.NoFields count pieces = pushed count (piece.Fields []) pieces
built row event.Fields count pieces =
    with_field_names pieces (λ names lower. with_type lower (λ type below. with_fields below (λ declarations others.
    pushed count (piece.Fields (declarations ++ fields type names ∷ [])) others)))
built row event.NoEnumerators count pieces = pushed count (piece.Enumerators []) pieces
built row (event.Enumerator name) count pieces =
    with_enumerators pieces (λ values others. pushed count (piece.Enumerators (values ++ enumerator (token_at row name) None ∷ [])) others)
built row (event.EnumeratorValue name) count pieces =
    with_expr pieces (λ value below. with_enumerators below (λ values others.
    pushed count (piece.Enumerators (values ++ enumerator (token_at row name) (Some value) ∷ [])) others))
built row event.NoParameters count pieces = pushed count (piece.Parameters []) pieces
built row (event.Parameter name stars) count pieces =
    with_sizes pieces (λ sizes lower. with_type lower (λ type below. with_parameters below (λ params others.
    pushed count (piece.Parameters (params ++ parameter type stars (maybe_identifier_at row name) sizes ∷ [])) others)))
built row event.NoDeclarators count pieces = pushed count (piece.Declarators []) pieces
built row (event.Object name stars) count pieces =
    with_sizes pieces (λ sizes below. with_declarators below (λ names others.
    pushed count (piece.Declarators (names ++ object (token_at row name) stars sizes None ∷ [])) others))
built row (event.InitializedObject name stars) count pieces =
    with_init pieces (λ init lower. with_sizes lower (λ sizes below. with_declarators below (λ names others.
    pushed count (piece.Declarators (names ++ object (token_at row name) stars sizes (Some init) ∷ [])) others)))
built row (event.Function name stars) count pieces =
    with_parameters pieces (λ params below. with_declarators below (λ names others.
    pushed count (piece.Declarators (names ++ function (token_at row name) stars params ∷ [])) others))
built row (event.Declaration storage) count pieces =
    with_declarators pieces (λ names below. with_type below (λ type others. pushed count (piece.Declaration (declaration storage type names)) others))
built row (event.Value after) count pieces = with_expr pieces (λ value others. pushed count (piece.Init (Value value (place_at row after))) others)
built row event.NoParts count pieces = pushed count (piece.Parts []) pieces
built row (event.Part member) count pieces =
    with_init pieces (λ init below. with_parts below (λ parts others.
    pushed count (piece.Parts (parts ++ initializer (maybe_identifier_at row member) init ∷ [])) others))
built row event.Braces count pieces = with_parts pieces (λ parts others. pushed count (piece.Init (Braces parts)) others)
built row event.NoExpression count pieces = pushed count (piece.Maybe None) pieces
built row event.OneExpression count pieces = with_expr pieces (λ expr others. pushed count (piece.Maybe (Some expr)) others)
built row event.NoStatements count pieces = pushed count (piece.Statements []) pieces
built row event.Statement count pieces =
    with_statement pieces (λ stmt below. with_statements below (λ body others. pushed count (piece.Statements (body ++ stmt ∷ [])) others))
built row (event.Declare first last) count pieces =
    with_declaration pieces (λ decl others. pushed count (piece.Statement (statement (place_at row first) (place_at row last) (Declare decl))) others)
built row (event.Eval first last) count pieces =
    with_maybe pieces (λ expr others. pushed count (piece.Statement (statement (place_at row first) (place_at row last) (Eval expr))) others)
built row (event.Block first last) count pieces =
    with_statements pieces (λ body others. pushed count (piece.Statement (statement (place_at row first) (place_at row last) (Block body))) others)
built row (event.If first close) count pieces =
    with_statement pieces (λ one below. with_expr below (λ test others.
    pushed count (piece.Statement (statement (place_at row first) one.after (If test (place_at row close) one None))) others))
built row (event.IfElse first close) count pieces =
    with_statement pieces (λ other lower. with_statement lower (λ one below. with_expr below (λ test others.
    pushed count (piece.Statement (statement (place_at row first) other.after (If test (place_at row close) one (Some other)))) others)))
built row (event.While first close) count pieces =
    with_statement pieces (λ body below. with_expr below (λ test others.
    pushed count (piece.Statement (statement (place_at row first) body.after (While test (place_at row close) body))) others))
built row (event.Do first close last) count pieces =
    with_expr pieces (λ test below. with_statement below (λ body others.
    pushed count (piece.Statement (statement (place_at row first) (place_at row last) (Do body test (place_at row close)))) others))
built row (event.For first semicolon close) count pieces =
    with_statement pieces (λ body deeper. with_maybe deeper (λ next lower. with_maybe lower (λ test below. with_statement below (λ clause others.
    pushed count (piece.Statement (statement (place_at row first) body.after (For clause test (place_at row semicolon) next (place_at row close) body))) others))))
built row (event.Break first last) count pieces = pushed count (piece.Statement (statement (place_at row first) (place_at row last) Break)) pieces
built row (event.Continue first last) count pieces = pushed count (piece.Statement (statement (place_at row first) (place_at row last) Continue)) pieces
built row (event.Return first last) count pieces =
    with_maybe pieces (λ value others. pushed count (piece.Statement (statement (place_at row first) (place_at row last) (Return value))) others)
built row event.EmptyItem count pieces = pushed count (piece.Item Empty) pieces
built row event.DeclareItem count pieces = with_declaration pieces (λ decl others. pushed count (piece.Item (DeclaredItem decl)) others)
built row (event.FunctionItem storage close) count pieces =
    with_statements pieces (λ body lower. with_declarator lower (λ head below. with_type below (λ type others.
    pushed count (piece.Item (Function type storage head body (place_at row close))) others)))

-- what one event more makes
abbrev pub built_next : List Terminal → Event → Option Workshop → Option Workshop
built_next row event None = None
built_next row event (Some workshop) = built row event workshop.count workshop.pieces

-- what a row of events makes, one after the other
unfoldable pub built_all : List Terminal → List Event → Option Workshop → Option Workshop
built_all row [] workshop = workshop
built_all row (event ∷ events) workshop = built_all row events (built_next row event workshop)
