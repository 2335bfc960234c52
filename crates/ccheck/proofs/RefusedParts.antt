-- What is refused in a part of a tree is refused at a place in it, and has a number: by the derivation that finds it.
use Rattle.std.proofs.Common.{◌≡◌, List, [], Option, lit≤, subst}
use Rattle.cbase.specs.declared.place.Place.{Place}
use Rattle.cbase.specs.declared.tree.decl.Param.{Param}
use Rattle.cbase.specs.declared.tree.expr.Expr.{Expr}
use Rattle.cbase.specs.declared.tree.expr.ExprForm.TheViews.{out-ExprForm, out-StmtForm, out-TypeName, out-FieldDecl, out-FieldName, out-Decl, out-Declared, out-Param, out-Init}
use Rattle.typing.specs.Declarations.{ObjectGiven, in_braces}
use Rattle.typing.specs.Entities.{WholeType}
use Rattle.typing.specs.Forms.{Form, Words, Clause, NameParts, DeclarationParts, MemberParts, EnumeratorParts, NamesParts, DeclaratorParts, ParameterParts, Initialiser, PartOfInitialiser}
use Rattle.typing.specs.Heads.{params_of}
use Rattle.typing.specs.Language.{Language}
use Rattle.typing.specs.NamedTypes.{NamedType}
use Rattle.typing.specs.Statements.{parts_in}
use Rattle.typing.specs.Typing.{Saying, ExpressionIs, PieceIs, PiecesAre, WordsAre, SizesAre, NameOfTypeIs, StatementsAre, StatementIs, StatementPartsAre, StatementPartIs, ValueUsed, DeclaredIs, DeclaratorsAre, DeclaredNamesAre, DeclaredNameIs, DeclaredSizesAre, ParametersAre, ParameterIs, InitialisedIs, InitialiserIs, PartsFill, SurplusIs, SurplusAre, MembersAre, DeclarationIs, NamesAre, MemberIs, MemberSizesAre, MemberSizeIs, WidthIs, EnumeratorsAre, ValueOfEnumerator, Finds, RefusedInside, Walked, NoPieces, MorePieces, RefusedHere, RefusedBehind, LoadedValue, LoadOfIncomplete, LoadedRefused, UnloadedOperand, UnloadedRefused, CalledFunction, CalledOther, CalledRefused, TypeInside, TypeRefused, IndexOfPath, IndexNotConstant, IndexRefused, SizeOfItems, SizeUnderOne, SizeRefused, BlockInside, BlockRefused, NoStatements, LastExpression, LastStruct, LastRefused, MoreStatements, StatementRefused, StatementsRefused, BasicSpecifier, TypedefSpecifier, StructSpecifier, StructDeclared, StructIsEnum, EnumSpecifier, EnumDeclared, EnumIsStruct, StructOfNothing, EnumOfNothing, StructWithMembers, MembersRefused, StructTwice, EnumWithConstants, EnumTwice, TypeofExpression, TypeofRefused, TypeofType, NoSizes, SizeLeftOut, SizeLeftOutRefused, MoreSizes, SizesRefusedHere, SizesRefusedBehind, TypeNamed, WordsRefused, SizesRefused, NoDeclarations, MoreDeclarations, DeclarationRefused, MembersDeclared, MemberWordsRefused, NoNames, MoreNames, NameRefused, MemberFound, MemberSizesRefused, MemberWidthRefused, NoMemberSizes, MoreMemberSizes, MemberSizeRefusedHere, MemberSizeRefusedBehind, MemberSizeLeftOut, MemberSizeGiven, MemberSizeRefused, NoWidth, WidthGiven, NoEnumerators, EnumeratorTwice, EnumeratorRefused, EnumeratorTwiceInside, MoreEnumerators, NextValue, NoNextValue, GivenValue, GivenNoInt, GivenRefused, StatementOfParts, StatementInScope, NoStatementParts, MoreStatementParts, StatementPartRefused, ValueInStatement, StatementInside, BodyOfLoop, StatementOfIf, BlockOfStatements, LoopLeft, NoLoopToLeave, NothingReturned, ValueReturned, ValueTaken, ValueRefused, TagAlone, TagAloneOfOther, WordsWithNames, DeclaredWordsRefused, NoDeclarators, SomeDeclarators, NoMoreDeclarators, MoreDeclarators, DeclaratorRefused, NameWithSizesRefused, NameBroken, NameGiven, FixedSizes, AnySizes, ParametersRefused, FunctionBroken, FunctionGiven, NoParameters, MoreParameters, ParameterRefused, ParameterFound, ParameterWordsRefused, ParameterSizesRefused, NotInitialised, ObjectInitialised, ArrayInitialised, ArrayOfWrongSize, ArrayPartsRefused, ArrayByValue, LinkedInitialised, TypeInitialised, ValueStored, BracesFill, BracesTooMany, NoMoreParts, PartSets, PartRefused, NoMemberToSet, NothingToSet, SurplusValue, SurplusBraces, NoSurplusValue, SurplusPart, DeclarationInside}
use Rattle.ccheck.proofs.Holding.{at_expression, form_in, names_in_form, pieces_in_form, first_piece, other_pieces, struct_tag, struct_name, members_in, enum_tag, enum_name, constants_in, typeof_expression, typeof_type, some_in, first_size, other_sizes, words_in_name, sizes_in_name, first_statement, other_statements, first_part, other_parts, demand_in, value_in_part, whole_in, branch_in, loop_body_in, block_in, leaving_at, return_at, returned_at, returned_in, declaring_at, declaration_in, words_in_declaration, names_in_declaration, first_name, other_names, at_declarator, sizes_in_declarator, parameters_in, initialiser_behind, first_parameter, other_parameters, words_in_parameter, name_of_parameter, sizes_in_parameter, initialiser_in, value_given, parts_given, first_initialiser, other_initialisers, designator_in, initialiser_in_part, first_declaration, other_declarations, words_in_members, names_in_members, first_member, other_members, at_member, sizes_in_member, bits_in_member, first_constant, other_constants, at_constant, value_of_constant}
use Rattle.ccheck.proofs.Holding.{Holds, DemandHolds, tree_of, statement_tree, AnExpression, AForm, Pieces, SomeWords, Perhaps, SomeSizes, ATypeName, Statements, PartsOfStatement, PartOfStatement, ADeclaration, DeclaredNames, ADeclarator, SomeParameters, AParameter, PerhapsInitialised, AnInitialiser, PartsInBraces, APartInBraces, MemberDeclarations, AMemberDeclaration, MemberNames, AMemberName, Constants, AConstant}
use Rattle.ccheck.proofs.Refusing.{FoundIsNumbered, FaultsHold, Answers, Refuses, hold_all_at, hold_first, hold_settled, hold_behind}
use Rattle.ccheck.proofs.RefusedNodes.{ToldIsNumbered, AllAreNumbered, node_refuses, function_holds}
use Rattle.ccheck.proofs.RefusedNames.{ParameterHolds, ParametersHold, typedef_numbered, declared_numbered, name_numbered, hold_without, hold_width, hold_with_parameter, hold_initialised, hold_stored, hold_return, hold_value, last_value, hold_tag_alone, hold_alone, hold_struct_twice, hold_enum_twice, hold_name, hold_told, hold_parameter, hold_function, hold_member, hold_fixed, hold_ended, hold_next}

-- what is found of a type has a number
abbrev pub NamedIsNumbered : NamedType → Type 0
NamedIsNumbered named = FoundIsNumbered named.found

module _ (P : Place → Type 0) where
  -- of which part of a tree something is said: it holds of the places in it
  abbrev pub Inside : Saying → Type 0
  Inside (ExpressionIs expr outcome) = Holds P (AnExpression expr)
  Inside (PieceIs piece outcome) = Holds P (tree_of piece)
  Inside (PiecesAre pieces outcome) = Holds P (Pieces pieces)
  Inside (WordsAre words outcome) = Holds P (SomeWords words)
  Inside (SizesAre sizes outcome) = Holds P (SomeSizes sizes)
  Inside (NameOfTypeIs to outcome) = Holds P (ATypeName (out-TypeName to))
  Inside (StatementsAre stmts outcome) = Holds P (Statements stmts)
  Inside (StatementIs stmt outcome) = Holds P (statement_tree stmt)
  Inside (StatementPartsAre parts outcome) = Holds P (PartsOfStatement parts)
  Inside (StatementPartIs part outcome) = Holds P (PartOfStatement part)
  Inside (ValueUsed demand expr outcome) = DemandHolds P demand × Holds P (AnExpression expr)
  Inside (DeclaredIs place decl outcome) = P place × Holds P (ADeclaration (out-Decl decl))
  Inside (DeclaratorsAre place storage base names outcome) = P place × NamedIsNumbered base × Holds P (DeclaredNames names)
  Inside (DeclaredNamesAre storage base names outcome) = NamedIsNumbered base × Holds P (DeclaredNames names)
  Inside (DeclaredNameIs storage base name outcome) = NamedIsNumbered base × Holds P (ADeclarator (out-Declared name))
  Inside (DeclaredSizesAre fixed sizes outcome) = Holds P (SomeSizes sizes)
  Inside (ParametersAre params outcome) = Holds P (SomeParameters params)
  Inside (ParameterIs param outcome) = Holds P (AParameter (out-Param param))
  Inside (InitialisedIs name gives init outcome) = P name.place × Holds P (PerhapsInitialised init)
  Inside (InitialiserIs subject slot init outcome) = P subject.place × Holds P (AnInitialiser (out-Init init))
  Inside (PartsFill subject filled index parts outcome) = P subject.place × Holds P (PartsInBraces parts)
  Inside (SurplusIs place init outcome) = P place × Holds P (AnInitialiser (out-Init init))
  Inside (SurplusAre place parts outcome) = P place × Holds P (PartsInBraces parts)
  Inside (MembersAre members fields outcome) = Holds P (MemberDeclarations fields)
  Inside (DeclarationIs members field outcome) = Holds P (AMemberDeclaration (out-FieldDecl field))
  Inside (NamesAre base members names outcome) = NamedIsNumbered base × Holds P (MemberNames names)
  Inside (MemberIs base members name outcome) = NamedIsNumbered base × Holds P (AMemberName (out-FieldName name))
  Inside (MemberSizesAre sizes outcome) = Holds P (SomeSizes sizes)
  Inside (MemberSizeIs size outcome) = Holds P (Perhaps size)
  Inside (WidthIs bits outcome) = Holds P (Perhaps bits)
  Inside (EnumeratorsAre next constants outcome) = Holds P (Constants constants)
  Inside (ValueOfEnumerator place next value outcome) = P place × Holds P (Perhaps value)

  -- what is refused is refused so
  abbrev pub IsAnswered : Saying → Type 0
  IsAnswered (ExpressionIs expr outcome) = Refuses P outcome
  IsAnswered (PieceIs piece outcome) = Answers P ToldIsNumbered outcome
  IsAnswered (PiecesAre pieces outcome) = Answers P AllAreNumbered outcome
  IsAnswered (WordsAre words outcome) = Answers P NamedIsNumbered outcome
  IsAnswered (SizesAre sizes outcome) = Refuses P outcome
  IsAnswered (NameOfTypeIs to outcome) = Answers P NamedIsNumbered outcome
  IsAnswered (StatementsAre stmts outcome) = Refuses P outcome
  IsAnswered (StatementIs stmt outcome) = Refuses P outcome
  IsAnswered (StatementPartsAre parts outcome) = Refuses P outcome
  IsAnswered (StatementPartIs part outcome) = Refuses P outcome
  IsAnswered (ValueUsed demand expr outcome) = Refuses P outcome
  IsAnswered (DeclaredIs place decl outcome) = Refuses P outcome
  IsAnswered (DeclaratorsAre place storage base names outcome) = Refuses P outcome
  IsAnswered (DeclaredNamesAre storage base names outcome) = Refuses P outcome
  IsAnswered (DeclaredNameIs storage base name outcome) = Refuses P outcome
  IsAnswered (DeclaredSizesAre fixed sizes outcome) = Refuses P outcome
  IsAnswered (ParametersAre params outcome) = Answers P (ParametersHold P) outcome
  IsAnswered (ParameterIs param outcome) = Answers P (ParameterHolds P) outcome
  IsAnswered (InitialisedIs name gives init outcome) = Refuses P outcome
  IsAnswered (InitialiserIs subject slot init outcome) = Refuses P outcome
  IsAnswered (PartsFill subject filled index parts outcome) = Refuses P outcome
  IsAnswered (SurplusIs place init outcome) = Refuses P outcome
  IsAnswered (SurplusAre place parts outcome) = Refuses P outcome
  IsAnswered (MembersAre members fields outcome) = Refuses P outcome
  IsAnswered (DeclarationIs members field outcome) = Refuses P outcome
  IsAnswered (NamesAre base members names outcome) = Refuses P outcome
  IsAnswered (MemberIs base members name outcome) = Refuses P outcome
  IsAnswered (MemberSizesAre sizes outcome) = Refuses P outcome
  IsAnswered (MemberSizeIs size outcome) = Refuses P outcome
  IsAnswered (WidthIs bits outcome) = Refuses P outcome
  IsAnswered (EnumeratorsAre next constants outcome) = Answers P NamedIsNumbered outcome
  IsAnswered (ValueOfEnumerator place next value outcome) = Refuses P outcome

  -- where a tree is seen as its parts
  pub as_words : {one other : Words} → one ≡ other → Holds P (SomeWords one) → Holds P (SomeWords other)
  as_words e holds = subst (λ (words : Words). Holds P (SomeWords words)) e holds

  as_name : {one other : NameParts} → one ≡ other → Holds P (ATypeName one) → Holds P (ATypeName other)
  as_name e holds = subst (λ (parts : NameParts). Holds P (ATypeName parts)) e holds

  pub as_declaration : {one other : NamesParts} → one ≡ other → Holds P (ADeclaration one) → Holds P (ADeclaration other)
  as_declaration e holds = subst (λ (parts : NamesParts). Holds P (ADeclaration parts)) e holds

  pub as_declarator : {one other : DeclaratorParts} → one ≡ other → Holds P (ADeclarator one) → Holds P (ADeclarator other)
  as_declarator e holds = subst (λ (parts : DeclaratorParts). Holds P (ADeclarator parts)) e holds

  as_parameter : {one other : ParameterParts} → one ≡ other → Holds P (AParameter one) → Holds P (AParameter other)
  as_parameter e holds = subst (λ (parts : ParameterParts). Holds P (AParameter parts)) e holds

  as_initialiser : {one other : Initialiser} → one ≡ other → Holds P (AnInitialiser one) → Holds P (AnInitialiser other)
  as_initialiser e holds = subst (λ (form : Initialiser). Holds P (AnInitialiser form)) e holds

  as_part : {one other : PartOfInitialiser} → one ≡ other → Holds P (APartInBraces one) → Holds P (APartInBraces other)
  as_part e holds = subst (λ (this : PartOfInitialiser). Holds P (APartInBraces this)) e holds

  as_members : {one other : DeclarationParts} → one ≡ other → Holds P (AMemberDeclaration one) → Holds P (AMemberDeclaration other)
  as_members e holds = subst (λ (parts : DeclarationParts). Holds P (AMemberDeclaration parts)) e holds

  as_member : {one other : MemberParts} → one ≡ other → Holds P (AMemberName one) → Holds P (AMemberName other)
  as_member e holds = subst (λ (parts : MemberParts). Holds P (AMemberName parts)) e holds

  as_constant : {one other : EnumeratorParts} → one ≡ other → Holds P (AConstant one) → Holds P (AConstant other)
  as_constant e holds = subst (λ (parts : EnumeratorParts). Holds P (AConstant parts)) e holds

  form_seen : {expr : Expr} {form : Form} → out-ExprForm expr.form ≡ form → Holds P (AnExpression expr) → Holds P (AForm form)
  form_seen e holds = subst (λ (form : Form). Holds P (AForm form)) e (form_in P holds)

  statement_seen : (place : Place) {one other : Clause} → one ≡ other → Holds P (PartsOfStatement (parts_in place one)) → Holds P (PartsOfStatement (parts_in place other))
  statement_seen place e holds = subst (λ (clause : Clause). Holds P (PartsOfStatement (parts_in place clause))) e holds

  parameters_seen : {one other : Option (List Param)} → one ≡ other → Holds P (SomeParameters (params_of one)) → Holds P (SomeParameters (params_of other))
  parameters_seen e holds = subst (λ (params : Option (List Param)). Holds P (SomeParameters (params_of params))) e holds

  pub refused : {l : Language} {before after : l.Environment} {saying : Saying} → Finds l before saying after → Inside saying → IsAnswered saying
  refused (RefusedInside e parts) holds = refused parts (pieces_in_form P (form_seen e holds))
  refused (Walked e parts node) holds =
      node_refuses P node (at_expression P holds) (names_in_form P (form_seen e holds)) (pieces_in_form P (form_seen e holds)) (refused parts (pieces_in_form P (form_seen e holds)))
  refused NoPieces holds = tt
  refused (MorePieces first rest) holds = (refused first (first_piece P holds), refused rest (other_pieces P holds))
  refused (RefusedHere first) holds = refused first (first_piece P holds)
  refused (RefusedBehind first rest) holds = refused rest (other_pieces P holds)
  refused (LoadedValue it sized) holds = tt
  refused (LoadOfIncomplete it sized) holds = (at_expression P holds, (lit≤ tt, lit≤ tt))
  refused (LoadedRefused it) holds = refused it holds
  refused (UnloadedOperand it) holds = tt
  refused (UnloadedRefused it) holds = refused it holds
  refused (CalledFunction {callee} {function} {outcome} e g settled) holds =
      hold_settled P ToldIsNumbered _ _ _ outcome (function_holds P callee.place function (at_expression P holds)) tt settled
  refused (CalledOther e it) holds = tt
  refused (CalledRefused e it) holds = refused it holds
  refused (TypeInside it) holds = refused it holds
  refused (TypeRefused it) holds = refused it holds
  refused (IndexOfPath it e value) holds = tt
  refused (IndexNotConstant it e value) holds = (at_expression P holds, (lit≤ tt, lit≤ tt))
  refused (IndexRefused it) holds = refused it holds
  refused (SizeOfItems it e value) holds = tt
  refused (SizeUnderOne it e value) holds = (at_expression P holds, (lit≤ tt, lit≤ tt))
  refused (SizeRefused it) holds = refused it holds
  refused (BlockInside it) holds = tt
  refused (BlockRefused it) holds = refused it holds
  -- statements
  refused NoStatements holds = tt
  refused (LastExpression e empty it seen plain) holds = tt
  refused (LastStruct {stmt} {expr} e empty it seen struct) holds =
      (at_expression P (last_value P stmt.place (out-StmtForm stmt.form) expr e (first_statement P holds)), (lit≤ tt, lit≤ tt))
  refused (LastRefused {stmt} {expr} e empty it) holds = refused it (last_value P stmt.place (out-StmtForm stmt.form) expr e (first_statement P holds))
  refused (MoreStatements handed not_last it rest) holds = tt
  refused (StatementRefused not_last it) holds = refused it (first_statement P holds)
  refused (StatementsRefused handed not_last it rest) holds = refused rest (other_statements P holds)
  refused (StatementOfParts e scope parts) holds = refused parts (statement_seen _ e holds)
  refused (StatementInScope e scope parts) holds = refused parts (statement_seen _ e holds)
  refused NoStatementParts holds = tt
  refused (MoreStatementParts {handed} {outcome} first rest) holds = hold_behind P (λ told. Unit {0}) handed outcome (refused rest (other_parts P holds))
  refused (StatementPartRefused it) holds = refused it (first_part P holds)
  refused (ValueInStatement it) holds = refused it (demand_in P holds, value_in_part P holds)
  refused (StatementInside it) holds = refused it (whole_in P holds)
  refused (BodyOfLoop it) holds = refused it (loop_body_in P holds)
  refused (StatementOfIf it) holds = refused it (branch_in P holds)
  refused (BlockOfStatements {found = outcome} it) holds = hold_without P (λ t. Unit {0}) outcome (refused it (block_in P holds))
  refused (LoopLeft e) holds = tt
  refused (NoLoopToLeave e) holds = (leaving_at P holds, (lit≤ tt, lit≤ tt))
  refused {l} (NothingReturned {env} {place} {faults} {outcome} e settled) holds =
      hold_settled P (λ told. Unit {0}) faults tt [] outcome (subst (FaultsHold P) e (hold_return P (l.structs env) place (l.result env) (return_at P holds))) tt settled
  refused (ValueReturned it) holds = refused it (returned_at P holds, returned_in P holds)
  refused {l} {after} (ValueTaken {demand} {expr} {known} {faults} {handed} {outcome} constant it asked e settled) holds =
      hold_settled P (λ told. Unit {0}) faults tt handed outcome
      (subst (FaultsHold P) e (hold_value P (l.structs after) demand constant expr.place known holds.0 (at_expression P holds.1))) tt settled
  refused (ValueRefused it) holds = refused it holds.1
  -- declarations
  refused (DeclarationInside it) holds = refused it (declaring_at P holds, declaration_in P holds)
  refused (TagAlone e g alone opens) holds = tt
  refused {l} {before} (TagAloneOfOther {parts} {words} {name} {first} e g alone twice) holds =
      hold_alone P l name before first twice (hold_tag_alone P parts.storage words parts.names name alone (as_words g (words_in_declaration P (as_declaration e holds.1))))
  refused (WordsWithNames {handed} {outcome} e g none words names) holds =
      hold_behind P (λ told. Unit {0}) handed outcome
      (refused names (holds.0, refused words (as_words g (words_in_declaration P (as_declaration e holds.1))), names_in_declaration P (as_declaration e holds.1)))
  refused (DeclaredWordsRefused e g none words) holds = refused words (as_words g (words_in_declaration P (as_declaration e holds.1)))
  refused (NoDeclarators {place} {base} {outcome} settled) holds =
      hold_settled P (λ told. Unit {0}) _ tt [] outcome (hold_all_at P place base.found holds.0 holds.1) tt settled
  refused (SomeDeclarators it) holds = refused it (holds.1, holds.2)
  refused NoMoreDeclarators holds = tt
  refused (MoreDeclarators {handed} {outcome} first rest) holds = hold_behind P (λ told. Unit {0}) handed outcome (refused rest (holds.0, other_names P holds.1))
  refused (DeclaratorRefused it) holds = refused it (holds.0, first_name P holds.1)
  refused (NameWithSizesRefused e none sizes) holds = refused sizes (sizes_in_declarator P (as_declarator e holds.1))
  refused (NameBroken {base} {parts} {counts} {faults} {first} again e none sizes is g first_is) holds =
      hold_first P faults first (subst (FaultsHold P) g (hold_name P parts.place _ again _ (at_declarator P (as_declarator e holds.1)) (name_numbered base counts _ holds.0))) first_is
  refused (NameGiven {handed} {outcome} again e none sizes is g it) holds =
      hold_behind P (λ told. Unit {0}) handed outcome (refused it (at_declarator P (as_declarator e holds.1), initialiser_behind P (as_declarator e holds.1)))
  refused (FixedSizes it) holds = refused it holds
  refused (AnySizes it) holds = refused it holds
  refused (ParametersRefused e some it) holds = refused it (parameters_seen some (parameters_in P (as_declarator e holds.1)))
  refused {l} (FunctionBroken {after} {storage} {base} {parts} {told} {faults} {first} again e some it is g first_is) holds =
      hold_first P faults first
      (subst (FaultsHold P) g (hold_function P (l.structs (l.left after)) storage parts base told again (at_declarator P (as_declarator e holds.1)) holds.0
      (refused it (parameters_seen some (parameters_in P (as_declarator e holds.1))))))
      first_is
  refused (FunctionGiven again e some it is g) holds = tt
  refused NoParameters holds = tt
  refused (MoreParameters {told} {handed} {outcome} first rest) holds =
      hold_with_parameter P told handed outcome (refused first (first_parameter P holds)) (refused rest (other_parameters P holds))
  refused (ParameterRefused it) holds = refused it (first_parameter P holds)
  refused {l} (ParameterFound {after} {parts} {base} {counts} e g words sizes is) holds =
      subst (ParameterHolds P) is
      (hold_parameter P l.abi (l.structs after) base parts counts _ (refused words (as_words g (words_in_parameter P (as_parameter e holds)))) (name_of_parameter P (as_parameter e holds)))
  refused (ParameterWordsRefused e g words) holds = refused words (as_words g (words_in_parameter P (as_parameter e holds)))
  refused (ParameterSizesRefused e g words sizes) holds = refused sizes (sizes_in_parameter P (as_parameter e holds))
  -- initialisers
  refused NotInitialised holds = tt
  refused (ObjectInitialised {name} {fixed} {t} {form} {found = outcome} e it) holds = hold_initialised P name.place (ObjectGiven fixed (WholeType t)) (in_braces form) outcome (refused it (holds.0, initialiser_in P holds.1))
  refused (ArrayInitialised e it g) holds = tt
  refused {l} (ArrayOfWrongSize {after} {name} {item} {parts} {faults} {first} e it g first_is) holds =
      hold_first P faults first (subst (FaultsHold P) g (hold_told P l.abi (l.structs after) name.place item _ holds.0)) first_is
  refused (ArrayPartsRefused e it) holds = refused it (holds.0, initialiser_in P holds.1)
  refused (ArrayByValue e it) holds = refused it (holds.0, initialiser_in P holds.1)
  refused (LinkedInitialised it) holds = refused it (holds.0, initialiser_in P holds.1)
  refused (TypeInitialised it) holds = refused it (holds.0, initialiser_in P holds.1)
  refused (ValueStored {subject} {slot} {value} {found = outcome} e it) holds =
      hold_stored P subject slot value.number outcome (refused it (tt, value_given P (as_initialiser e holds.1)))
  refused (BracesFill e filled it) holds = refused it (holds.0, parts_given P (as_initialiser e holds.1))
  refused (BracesTooMany e filled it) holds = refused it (holds.0, parts_given P (as_initialiser e holds.1))
  refused (NoMoreParts {subject} {filled} {index}) holds = hold_ended P subject.place filled index holds.0
  refused (PartSets {handed} {outcome} e next it rest) holds = hold_behind P (λ told. Unit {0}) handed outcome (refused rest (holds.0, other_initialisers P holds.1))
  refused (PartRefused e next it) holds = refused it (holds.0, initialiser_in_part P (as_part e (first_initialiser P holds.1)))
  refused {l} (NoMemberToSet {env} {filled} {index} {this} {place} e next) holds =
      (hold_next P l.abi (l.structs env) filled index this.member place next (designator_in P (as_part e (first_initialiser P holds.1))), (lit≤ tt, lit≤ tt))
  refused (NothingToSet e next it) holds = refused it holds
  refused (SurplusValue e it) holds = refused it (tt, value_given P (as_initialiser e holds.1))
  refused (SurplusBraces e it) holds = refused it (holds.0, parts_given P (as_initialiser e holds.1))
  refused NoSurplusValue holds = (holds.0, (lit≤ tt, lit≤ tt))
  refused (SurplusPart e it) holds = refused it (holds.0, initialiser_in_part P (as_part e (first_initialiser P holds.1)))
  -- the words of a type
  refused BasicSpecifier holds = tt
  refused {l} (TypedefSpecifier {env} {name}) holds = typedef_numbered (l.entity name env)
  refused (StructSpecifier e) holds = tt
  refused (StructDeclared e) holds = tt
  refused (StructIsEnum e) holds = (struct_tag P holds, (lit≤ tt, lit≤ tt))
  refused (EnumSpecifier e) holds = tt
  refused (EnumDeclared e) holds = tt
  refused (EnumIsStruct e) holds = (enum_tag P holds, (lit≤ tt, lit≤ tt))
  refused StructOfNothing holds = (lit≤ tt, lit≤ tt)
  refused EnumOfNothing holds = (lit≤ tt, lit≤ tt)
  refused (StructWithMembers e it) holds = tt
  refused (MembersRefused e it) holds = refused it (members_in P holds)
  refused {l} (StructTwice {env} {first} {name} e) holds = hold_struct_twice P l name env first e (struct_name P holds)
  refused (EnumWithConstants e it) holds = refused it (constants_in P holds)
  refused {l} (EnumTwice {env} {first} {name} e) holds = hold_enum_twice P l name env first e (enum_name P holds)
  refused (TypeofExpression it) holds = tt
  refused (TypeofRefused it) holds = refused it (typeof_expression P holds)
  refused (TypeofType it) holds = refused it (typeof_type P holds)
  refused NoSizes holds = tt
  refused (SizeLeftOut it) holds = tt
  refused (SizeLeftOutRefused it) holds = refused it (other_sizes P holds)
  refused (MoreSizes first rest) holds = tt
  refused (SizesRefusedHere it) holds = refused it (some_in P (first_size P holds))
  refused (SizesRefusedBehind first rest) holds = refused rest (other_sizes P holds)
  refused (TypeNamed {name} {base} {counts} {large} e g words sizes is) holds =
      declared_numbered base name.stars counts large (refused words (as_words g (words_in_name P (as_name e holds))))
  refused (WordsRefused e g words) holds = refused words (as_words g (words_in_name P (as_name e holds)))
  refused (SizesRefused e g words sizes) holds = refused sizes (sizes_in_name P (as_name e holds))
  -- members
  refused NoDeclarations holds = tt
  refused (MoreDeclarations {handed} {outcome} first rest) holds = hold_behind P (λ told. Unit {0}) handed outcome (refused rest (other_declarations P holds))
  refused (DeclarationRefused it) holds = refused it (first_declaration P holds)
  refused (MembersDeclared {handed} {outcome} e g words names) holds =
      hold_behind P (λ told. Unit {0}) handed outcome
      (refused names (refused words (as_words g (words_in_members P (as_members e holds))), names_in_members P (as_members e holds)))
  refused (MemberWordsRefused e g words) holds = refused words (as_words g (words_in_members P (as_members e holds)))
  refused NoNames holds = tt
  refused (MoreNames {handed} {outcome} first rest) holds = hold_behind P (λ told. Unit {0}) handed outcome (refused rest (holds.0, other_members P holds.1))
  refused (NameRefused it) holds = refused it (holds.0, first_member P holds.1)
  refused (MemberFound {base} {named} {parts} {counts} {faults} {outcome} e sizes width is g settled) holds =
      hold_settled P (λ told. Unit {0}) faults _ _ outcome
      (subst (FaultsHold P) g (hold_member P parts.place named.found _ _ _ _ (at_member P (as_member e holds.1)) (subst NamedIsNumbered is (declared_numbered base parts.stars counts _ holds.0)))) tt settled
  refused (MemberSizesRefused e it) holds = refused it (sizes_in_member P (as_member e holds.1))
  refused (MemberWidthRefused e sizes it) holds = refused it (bits_in_member P (as_member e holds.1))
  refused NoMemberSizes holds = tt
  refused (MoreMemberSizes first rest) holds = tt
  refused (MemberSizeRefusedHere it) holds = refused it (first_size P holds)
  refused (MemberSizeRefusedBehind first rest) holds = refused rest (other_sizes P holds)
  refused MemberSizeLeftOut holds = tt
  refused (MemberSizeGiven {expr} {size} {handed} it) holds = hold_fixed P expr.place size handed (at_expression P (some_in P holds))
  refused (MemberSizeRefused it) holds = refused it (some_in P holds)
  refused NoWidth holds = tt
  refused (WidthGiven {found = outcome} it) holds = hold_width P ToldIsNumbered outcome (refused it (some_in P holds))
  -- constants of enums
  refused NoEnumerators holds = tt
  refused (EnumeratorTwice e g) holds = (at_constant P (as_constant e (first_constant P holds)), (lit≤ tt, lit≤ tt))
  refused (EnumeratorRefused e g it) holds =
      refused it (at_constant P (as_constant e (first_constant P holds)), value_of_constant P (as_constant e (first_constant P holds)))
  refused (EnumeratorTwiceInside e g it h) holds = (at_constant P (as_constant e (first_constant P holds)), (lit≤ tt, lit≤ tt))
  refused (MoreEnumerators {handed} {outcome} e g it h rest) holds = hold_behind P NamedIsNumbered handed outcome (refused rest (other_constants P holds))
  refused NextValue holds = tt
  refused NoNextValue holds = (holds.0, (lit≤ tt, lit≤ tt))
  refused (GivenValue it e value) holds = tt
  refused (GivenNoInt it e value) holds = (at_expression P (some_in P holds.1), (lit≤ tt, lit≤ tt))
  refused (GivenRefused it) holds = refused it (some_in P holds.1)
