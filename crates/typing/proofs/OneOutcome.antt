-- An expression has one outcome in an environment, and so has each part of the walk: a derivation is compared with any other one of the same part.
use Rattle.std.proofs.Common.{ℕ, suc, length, Bool, true, false, List, [], ◌∷◌, ◌++◌, Option, Some, None, refl, sym, ap, ◌∙◌, subst}
use Rattle.std.specs.Prelude.{◌&&◌, is_some}
use Rattle.cbase.specs.declared.tree.expr.ExprForm.TheOpen.{Value, Braces}
use Rattle.typing.specs.declared.ctypes.found.Broken.TheVariants.{Rule}
use Rattle.typing.specs.ctypes.Binary.{int_type}
use Rattle.typing.specs.ctypes.Operands.{Operand}
use Rattle.typing.specs.declared.fault.Fault.{Fault}
use Rattle.typing.specs.declared.size.Size.{Size}
use Rattle.typing.specs.declared.size.Size.TheVariants.{LeftOut}
use Rattle.typing.specs.Braces.{Opens, IsTwice, width_found}
use Rattle.typing.specs.Calls.{is_struct}
use Rattle.typing.specs.Entities.{WholeType}
use Rattle.typing.specs.Declarations.{ObjectGiven, is_fixed_size, name_declared, object_row, in_braces, initialised, told_type, with_parameter}
use Rattle.typing.specs.Faults.{fault, all_at}
use Rattle.typing.specs.Forms.{Form, Initialiser}
use Rattle.typing.specs.Initialisers.{Sets, NoMember, Full, ended, stored}
use Rattle.typing.specs.Language.{Language}
use Rattle.typing.specs.Laws.{HasOneOutcome}
use Rattle.typing.specs.NamedTypes.{whole, size_of, declared}
use Rattle.typing.specs.Outcomes.{Outcome, Passes, Refused, IsSettled, with_front}
use Rattle.typing.specs.Pieces.{Loaded, SizeOfArray}
use Rattle.typing.specs.Rules.{AtNode}
use Rattle.typing.specs.Statements.{Stored, parts_in, without_value}
use Rattle.typing.specs.Told.{Told, OperandIs, SizeIs}
use Rattle.typing.specs.Typing.{Saying, ExpressionIs, PieceIs, StatementIs, named, Finds, RefusedInside, Walked, NoPieces, MorePieces, RefusedHere, RefusedBehind, LoadedValue, LoadOfIncomplete, LoadedRefused, UnloadedOperand, UnloadedRefused, CalledFunction, CalledOther, CalledRefused, TypeInside, TypeRefused, IndexOfPath, IndexNotConstant, IndexRefused, SizeOfItems, SizeUnderOne, SizeRefused, BlockInside, BlockRefused, NoStatements, LastExpression, LastStruct, LastRefused, MoreStatements, StatementRefused, StatementsRefused, BasicSpecifier, TypedefSpecifier, StructSpecifier, StructDeclared, StructIsEnum, EnumSpecifier, EnumDeclared, EnumIsStruct, StructOfNothing, EnumOfNothing, StructWithMembers, MembersRefused, StructTwice, EnumWithConstants, EnumTwice, TypeofExpression, TypeofRefused, TypeofType, NoSizes, SizeLeftOut, SizeLeftOutRefused, MoreSizes, SizesRefusedHere, SizesRefusedBehind, TypeNamed, WordsRefused, SizesRefused, NoDeclarations, MoreDeclarations, DeclarationRefused, MembersDeclared, MemberWordsRefused, NoNames, MoreNames, NameRefused, MemberFound, MemberSizesRefused, MemberWidthRefused, NoMemberSizes, MoreMemberSizes, MemberSizeRefusedHere, MemberSizeRefusedBehind, MemberSizeLeftOut, MemberSizeGiven, MemberSizeRefused, NoWidth, WidthGiven, NoEnumerators, EnumeratorTwice, EnumeratorRefused, EnumeratorTwiceInside, MoreEnumerators, NextValue, NoNextValue, GivenValue, GivenNoInt, GivenRefused, StatementOfParts, StatementInScope, NoStatementParts, MoreStatementParts, StatementPartRefused, ValueInStatement, StatementInside, BodyOfLoop, StatementOfIf, BlockOfStatements, LoopLeft, NoLoopToLeave, NothingReturned, ValueReturned, ValueTaken, ValueRefused, TagAlone, TagAloneOfOther, WordsWithNames, DeclaredWordsRefused, NoDeclarators, SomeDeclarators, NoMoreDeclarators, MoreDeclarators, DeclaratorRefused, NameWithSizesRefused, NameBroken, NameGiven, FixedSizes, AnySizes, ParametersRefused, FunctionBroken, FunctionGiven, NoParameters, MoreParameters, ParameterRefused, ParameterFound, ParameterWordsRefused, ParameterSizesRefused, NotInitialised, ObjectInitialised, ArrayInitialised, ArrayOfWrongSize, ArrayPartsRefused, ArrayByValue, LinkedInitialised, TypeInitialised, ValueStored, BracesFill, BracesTooMany, NoMoreParts, PartSets, PartRefused, NoMemberToSet, NothingToSet, SurplusValue, SurplusBraces, NoSurplusValue, SurplusPart, DeclarationInside}
use Rattle.typing.specs.values.Values.{word_of, int_value, next_value}
use Rattle.typing.proofs.OneFault.{one_settled}
use Rattle.typing.proofs.BraceRows as braces
use Rattle.typing.proofs.StatementRows as statements
use Rattle.typing.proofs.DeclarationRows as declarations
use Rattle.typing.proofs.InitialiserRows as initialisers
use Rattle.typing.proofs.Sequences.{via, Made, one_given, one_made, one_refused, one_both, one_inside, one_here}
use Rattle.typing.proofs.WalkRows as row
use Rattle.typing.proofs.WalkRows.{load_found, if_loaded, unload_found, type_found, if_index, index_found, if_size, size_found, if_struct, typeof_found, left_out}
use Rattle.typing.proofs.OnePart.{One, one_expression, one_refused_here, one_more, one_direct, one_otherwise, one_last, one_front_refused, one_front, one_sizes_refused, one_more_sizes, one_words_refused, one_type_name, one_block, struct_by, one_struct_closed, one_members_refused, enum_by, one_member, one_sizes_of_member, one_width_of_member, one_twice, one_enumerator_refused, one_enumerator}

-- every derivation of a part finds the same
pub one : (l : Language) (before : l.Environment) (saying : Saying) (after : l.Environment) → Finds l before saying after → One l before saying after
one l before _ after (RefusedInside {expr = expr} {form = form} {first = first} e parts) =
    one_expression l before expr form (Refused first) (Refused first) after e refl (one l before _ after parts)
one l before _ after (Walked {expr = expr} {form = form} {told = told} {handed = handed} {outcome = outcome} e parts node) =
    one_expression l before expr form (Passes told handed) outcome after e
    (subst (λ (f : Form). AtNode l after expr.number expr.place handed f told outcome) (sym e) node) (one l before _ after parts)
one l before _ after NoPieces = λ second other found. (sym (row.none_row found).0, (row.none_row found).1)
one l before _ after (MorePieces {middle = middle} {piece = piece} {pieces = pieces} {told = told} {others = others} {handed = handed} {further = further} first rest) =
    one_more l before middle after piece pieces told handed (Passes others further) (one l before _ middle first) (one l middle _ after rest)
one l before _ after (RefusedHere {piece = piece} {pieces = pieces} {first = broken} first) = one_refused_here l before piece pieces broken after (one l before _ after first)
one l before _ after (RefusedBehind {middle = middle} {piece = piece} {pieces = pieces} {told = told} {handed = handed} {first = broken} first rest) =
    one_more l before middle after piece pieces told handed (Refused broken) (one l before _ middle first) (one l middle _ after rest)
one l before _ after (LoadedValue {expr = expr} {known = known} {handed = handed} found sized) = λ second other also.
    via (λ env o. load_found (l.structs env) expr o) (ap (λ (b : Bool). if_loaded b expr known handed) (sym sized)) (row.load_row also).2
    (one l before _ after found (row.load_row also).0 other (row.load_row also).1)
one l before _ after (LoadOfIncomplete {expr = expr} {known = known} {handed = handed} found sized) = λ second other also.
    via (λ env o. load_found (l.structs env) expr o) (ap (λ (b : Bool). if_loaded b expr known handed) (sym sized)) (row.load_row also).2
    (one l before _ after found (row.load_row also).0 other (row.load_row also).1)
one l before _ after (LoadedRefused {expr = expr} found) = λ second other also.
    via (λ env o. load_found (l.structs env) expr o) refl (row.load_row also).2
    (one l before _ after found (row.load_row also).0 other (row.load_row also).1)
one l before _ after (UnloadedOperand found) = λ second other also.
    via (λ env o. unload_found o) refl (row.unload_row also).2 (one l before _ after found (row.unload_row also).0 other (row.unload_row also).1)
one l before _ after (UnloadedRefused found) = λ second other also.
    via (λ env o. unload_found o) refl (row.unload_row also).2 (one l before _ after found (row.unload_row also).0 other (row.unload_row also).1)
one l before _ after (CalledFunction {callee = callee} {name = name} {function = function} {outcome = outcome} e g settled) = λ second other also.
    one_direct l before callee name function outcome e g settled second other (row.call_row also)
one l before _ after (CalledOther {callee = callee} {told = told} {handed = handed} e found) = λ second other also.
    one_otherwise l before callee (Passes told handed) _ after e refl (one l before _ after found) second other (row.call_row also)
one l before _ after (CalledRefused {callee = callee} {first = first} e found) = λ second other also.
    one_otherwise l before callee (Refused first) _ after e refl (one l before _ after found) second other (row.call_row also)
one l before _ after (TypeInside found) = λ second other also.
    via (λ env o. type_found o) refl (row.type_row also).2 (one l before _ after found (row.type_row also).0 other (row.type_row also).1)
one l before _ after (TypeRefused found) = λ second other also.
    via (λ env o. type_found o) refl (row.type_row also).2 (one l before _ after found (row.type_row also).0 other (row.type_row also).1)
one l before _ after (IndexOfPath {expr = expr} {known = known} {handed = handed} found e value) = λ second other also.
    via (λ env o. index_found (l.structs env) expr o) (ap (λ (o : Option ℕ). if_index expr o handed) (sym (ap (λ (op : Operand). word_of op.kind known.value) e ∙ value))) (row.index_row also).2
    (one l before _ after found (row.index_row also).0 other (row.index_row also).1)
one l before _ after (IndexNotConstant {expr = expr} {known = known} {handed = handed} found e value) = λ second other also.
    via (λ env o. index_found (l.structs env) expr o) (ap (λ (o : Option ℕ). if_index expr o handed) (sym (ap (λ (op : Operand). word_of op.kind known.value) e ∙ value))) (row.index_row also).2
    (one l before _ after found (row.index_row also).0 other (row.index_row also).1)
one l before _ after (IndexRefused {expr = expr} found) = λ second other also.
    via (λ env o. index_found (l.structs env) expr o) refl (row.index_row also).2 (one l before _ after found (row.index_row also).0 other (row.index_row also).1)
one l before _ after (SizeOfItems {expr = expr} {known = known} {handed = handed} found e value) = λ second other also.
    via (λ env o. size_found (l.structs env) expr o) (ap (λ (o : Option Size). if_size expr o handed) (sym (ap (λ (op : Operand). size_of op.kind known.value) e ∙ value))) (row.size_row also).2
    (one l before _ after found (row.size_row also).0 other (row.size_row also).1)
one l before _ after (SizeUnderOne {expr = expr} {known = known} {handed = handed} found e value) = λ second other also.
    via (λ env o. size_found (l.structs env) expr o) (ap (λ (o : Option Size). if_size expr o handed) (sym (ap (λ (op : Operand). size_of op.kind known.value) e ∙ value))) (row.size_row also).2
    (one l before _ after found (row.size_row also).0 other (row.size_row also).1)
one l before _ after (SizeRefused {expr = expr} found) = λ second other also.
    via (λ env o. size_found (l.structs env) expr o) refl (row.size_row also).2 (one l before _ after found (row.size_row also).0 other (row.size_row also).1)
one l before _ after (BlockInside {after = inside} found) = λ second other also.
    one_block l inside _ _ second other (row.block_row also) (one l (l.entered before) _ inside found (row.block_row also).0 (row.block_row also).1 (row.block_row also).2)
one l before _ after (BlockRefused {after = inside} found) = λ second other also.
    one_block l inside _ _ second other (row.block_row also) (one l (l.entered before) _ inside found (row.block_row also).0 (row.block_row also).1 (row.block_row also).2)
one l before _ after NoStatements = λ second other found. (sym (row.no_statements found).0, (row.no_statements found).1)
one l before _ after (LastExpression {stmt = stmt} {stmts = stmts} {expr = expr} {known = known} {last = last} {handed = handed} e empty found seen no_struct) = λ second other also.
    one_last l before stmt stmts expr (Passes (OperandIs known) handed) _ after (λ i. empty i && is_some (e i)) e
    ((λ i. if_struct expr (sym no_struct i) last.kind known.ctype handed) ∙ ap (λ (op : Operand). if_struct expr (is_struct op.kind) op.kind known.ctype handed) (sym seen))
    (one l before _ after found) second other (row.block_rows also)
one l before _ after (LastStruct {stmt = stmt} {stmts = stmts} {expr = expr} {known = known} {last = last} {handed = handed} e empty found seen struct) = λ second other also.
    one_last l before stmt stmts expr (Passes (OperandIs known) handed) _ after (λ i. empty i && is_some (e i)) e
    ((λ i. if_struct expr (sym struct i) last.kind known.ctype handed) ∙ ap (λ (op : Operand). if_struct expr (is_struct op.kind) op.kind known.ctype handed) (sym seen))
    (one l before _ after found) second other (row.block_rows also)
one l before _ after (LastRefused {stmt = stmt} {stmts = stmts} {expr = expr} {first = first} e empty found) = λ second other also.
    one_last l before stmt stmts expr (Refused first) _ after (λ i. empty i && is_some (e i)) e refl (one l before _ after found) second other (row.block_rows also)
one l before _ after (MoreStatements {middle = middle} {stmt = stmt} {stmts = stmts} {t = t} {further = further} handed not_last it rest) = λ second other also.
    one_front l before middle after stmt stmts handed (Passes t further) not_last (one l before _ middle it) (one l middle _ after rest) second other (row.block_rows also)
one l before _ after (StatementRefused {stmt = stmt} {stmts = stmts} {first = first} not_last it) = λ second other also.
    one_front_refused l before stmt stmts first after not_last (one l before _ after it) second other (row.block_rows also)
one l before _ after (StatementsRefused {middle = middle} {stmt = stmt} {stmts = stmts} {first = first} handed not_last it rest) = λ second other also.
    one_front l before middle after stmt stmts handed (Refused first) not_last (one l before _ middle it) (one l middle _ after rest) second other (row.block_rows also)
one l before _ after BasicSpecifier = λ second other found. (sym (row.basic_row found).0, (row.basic_row found).1)
one l before _ after TypedefSpecifier = λ second other found. (sym (row.named_row found).0, (row.named_row found).1)
one l before _ after (StructSpecifier {name = name} e) = λ second other found. row.one_struct l before (Some name) _ second after other (StructSpecifier e) found
one l before _ after (StructDeclared {name = name} e) = λ second other found. row.one_struct l before (Some name) _ second after other (StructDeclared e) found
one l before _ after (StructIsEnum {name = name} e) = λ second other found. row.one_struct l before (Some name) _ second after other (StructIsEnum e) found
one l before _ after (EnumSpecifier {name = name} e) = λ second other found. row.one_enum l before (Some name) _ second after other (EnumSpecifier e) found
one l before _ after (EnumDeclared {name = name} e) = λ second other found. row.one_enum l before (Some name) _ second after other (EnumDeclared e) found
one l before _ after (EnumIsStruct {name = name} e) = λ second other found. row.one_enum l before (Some name) _ second after other (EnumIsStruct e) found
one l before _ after StructOfNothing = λ second other found. row.one_struct l before None _ second after other StructOfNothing found
one l before _ after EnumOfNothing = λ second other found. row.one_enum l before None _ second after other EnumOfNothing found
one l before _ after (StructWithMembers {inside = inside} {middle = middle} {number = number} {members = members} {handed = handed} {name = name} {fields = fields} e found) =
    one_struct_closed l before inside middle number members handed name fields e (one l inside _ middle found)
one l before _ after (MembersRefused {inside = inside} {number = number} {first = first} {name = name} {fields = fields} e found) =
    one_members_refused l before inside after number name fields first e (one l inside _ after found)
one l before _ after (StructTwice {first = first} {name = name} {fields = fields} e) = λ second other found.
    one_given (Refused first) before second other (struct_by l before name fields (IsTwice first) second other e found)
one l before _ after (EnumWithConstants {inside = inside} {name = name} {values = values} e found) = λ second other also.
    one l inside _ after found second other (enum_by l before name values (Opens inside) second other e also)
one l before _ after (EnumTwice {first = first} {name = name} {values = values} e) = λ second other found.
    one_given (Refused first) before second other (enum_by l before name values (IsTwice first) second other e found)
one l before _ after (TypeofExpression found) = λ second other also.
    via (λ env o. typeof_found o) refl (row.typeof_row also).2 (one l before _ after found (row.typeof_row also).0 other (row.typeof_row also).1)
one l before _ after (TypeofRefused found) = λ second other also.
    via (λ env o. typeof_found o) refl (row.typeof_row also).2 (one l before _ after found (row.typeof_row also).0 other (row.typeof_row also).1)
one l before _ after (TypeofType found) = λ second other also. one l before _ after found second other (row.typeof_type_row also)
one l before _ after NoSizes = λ second other found. (sym (row.no_sizes found).0, (row.no_sizes found).1)
one l before _ after (SizeLeftOut found) = λ second other also.
    via (λ env o. left_out o) refl (row.left_out_row also).2 (one l before _ after found (row.left_out_row also).0 other (row.left_out_row also).1)
one l before _ after (SizeLeftOutRefused found) = λ second other also.
    via (λ env o. left_out o) refl (row.left_out_row also).2 (one l before _ after found (row.left_out_row also).0 other (row.left_out_row also).1)
one l before _ after (MoreSizes {middle = middle} {expr = expr} {sizes = sizes} {size = size} {others = others} {handed = handed} {further = further} found rest) =
    one_more_sizes l before middle after expr sizes size handed (Passes others further) (one l before _ middle found) (one l middle _ after rest)
one l before _ after (SizesRefusedHere {expr = expr} {sizes = sizes} {first = first} found) = one_sizes_refused l before expr sizes first after (one l before _ after found)
one l before _ after (SizesRefusedBehind {middle = middle} {expr = expr} {sizes = sizes} {size = size} {handed = handed} {first = first} found rest) =
    one_more_sizes l before middle after expr sizes size handed (Refused first) (one l before _ middle found) (one l middle _ after rest)
one l before _ after (TypeNamed {middle = middle} {to = to} {name = name} {words = words} {base = base} {counts = counts} {handed = handed} {further = further} e f found sizes large) =
    one_type_name l before middle after to name words base handed (Passes counts further) _ e f
    (ap (λ (b : Bool). Passes (declared base name.stars counts b) (handed ++ further)) (sym large)) (one l before _ middle found) (one l middle _ after sizes)
one l before _ after (WordsRefused {to = to} {name = name} {words = words} {first = first} e f found) = one_words_refused l before to name words first after e f (one l before _ after found)
one l before _ after (SizesRefused {middle = middle} {to = to} {name = name} {words = words} {base = base} {handed = handed} {first = first} e f found sizes) =
    one_type_name l before middle after to name words base handed (Refused first) _ e f refl (one l before _ middle found) (one l middle _ after sizes)
one l before _ after (NoDeclarations {members = members}) = λ second other found. one_given (Passes members []) before second other (braces.no_members found)
one l before _ after (MoreDeclarations {middle = middle} {members = members} {more = more} {field = field} {fields = fields} {handed = handed} {outcome = inner} found rest) = λ second other also.
    one_both (braces.DeclarationFound l before members field) (braces.MembersBehind l fields) more handed middle (with_front handed inner) after (one l before _ middle found)
    (one_made (with_front handed) (braces.MembersFound l middle more fields) inner after (one l middle _ after rest)) second other (braces.members_row also)
one l before _ after (DeclarationRefused {members = members} {field = field} {fields = fields} {first = first} found) = λ second other also.
    one_refused (braces.DeclarationFound l before members field) (braces.MembersBehind l fields) first after (one l before _ after found) second other (braces.members_row also)
one l before _ after (MembersDeclared {middle = middle} {members = members} {field = field} {parts = parts} {words = words} {base = base} {handed = handed} {outcome = inner} e f found names) = λ second other also.
    one_both (braces.WordsFound l before words) (braces.NamesBehind l members parts.names) base handed middle (with_front handed inner) after (one l before _ middle found)
    (one_made (with_front handed) (braces.NamesFound l middle base members parts.names) inner after (one l middle _ after names)) second other
    (braces.declaration_by l before other members field parts words second e f (braces.declaration_row also))
one l before _ after (MemberWordsRefused {members = members} {field = field} {parts = parts} {words = words} {first = first} e f found) = λ second other also.
    one_refused (braces.WordsFound l before words) (braces.NamesBehind l members parts.names) first after (one l before _ after found) second other
    (braces.declaration_by l before other members field parts words second e f (braces.declaration_row also))
one l before _ after (NoNames {members = members}) = λ second other found. one_given (Passes members []) before second other (braces.no_names found)
one l before _ after (MoreNames {middle = middle} {base = base} {members = members} {more = more} {name = name} {names = names} {handed = handed} {outcome = inner} found rest) = λ second other also.
    one_both (braces.OneMemberFound l before base members name) (braces.MoreNamesBehind l base names) more handed middle (with_front handed inner) after (one l before _ middle found)
    (one_made (with_front handed) (braces.NamesFound l middle base more names) inner after (one l middle _ after rest)) second other (braces.names_row also)
one l before _ after (NameRefused {base = base} {members = members} {name = name} {names = names} {first = first} found) = λ second other also.
    one_refused (braces.OneMemberFound l before base members name) (braces.MoreNamesBehind l base names) first after (one l before _ after found) second other (braces.names_row also)
one l before _ after (MemberFound {middle = middle} {base = base} {named = named} {members = members} {name = name} {parts = parts} {counts = counts} {faults = faults} {handed = handed} {further = further} {outcome = outcome} e sizes width t f settled) =
    one_member l before middle after base named members name parts counts faults handed further outcome e (one l before _ middle sizes) (one l middle _ after width) t f settled
one l before _ after (MemberSizesRefused {base = base} {members = members} {name = name} {parts = parts} {first = first} e sizes) =
    one_sizes_of_member l before after base members name parts first e (one l before _ after sizes)
one l before _ after (MemberWidthRefused {middle = middle} {base = base} {members = members} {name = name} {parts = parts} {counts = counts} {handed = handed} {first = first} e sizes width) =
    one_width_of_member l before middle after base members name parts counts handed first e (one l before _ middle sizes) (one l middle _ after width)
one l before _ after NoMemberSizes = λ second other found. one_given (Passes [] []) before second other (braces.no_member_sizes found)
one l before _ after (MoreMemberSizes {middle = middle} {given = given} {sizes = sizes} {size = size} {others = others} {handed = handed} {further = further} found rest) = λ second other also.
    one_both (braces.SizeFound l before given) (braces.SizesBehind l sizes) size handed middle (Passes (size ∷ others) (handed ++ further)) after (one l before _ middle found)
    (one_made (braces.size_joined size handed) (braces.SizesFound l middle sizes) (Passes others further) after (one l middle _ after rest)) second other (braces.member_sizes_row also)
one l before _ after (MemberSizeRefusedHere {given = given} {sizes = sizes} {first = first} found) = λ second other also.
    one_refused (braces.SizeFound l before given) (braces.SizesBehind l sizes) first after (one l before _ after found) second other (braces.member_sizes_row also)
one l before _ after (MemberSizeRefusedBehind {middle = middle} {given = given} {sizes = sizes} {size = size} {handed = handed} {first = first} found rest) = λ second other also.
    one_both (braces.SizeFound l before given) (braces.SizesBehind l sizes) size handed middle (Refused first) after (one l before _ middle found)
    (one_made (braces.size_joined size handed) (braces.SizesFound l middle sizes) (Refused first) after (one l middle _ after rest)) second other (braces.member_sizes_row also)
one l before _ after MemberSizeLeftOut = λ second other found. one_given (Passes LeftOut []) before second other (braces.member_size_row found)
one l before _ after (MemberSizeGiven {expr = expr} {size = size} {handed = handed} found) = λ second other also.
    one_made (braces.fixed_found expr) (λ (o : Outcome Told) (e : l.Environment). Finds l before (PieceIs (SizeOfArray expr) o) e) (Passes (SizeIs size) handed) after (one l before _ after found) second other (braces.member_size_row also)
one l before _ after (MemberSizeRefused {expr = expr} {first = first} found) = λ second other also.
    one_made (braces.fixed_found expr) (λ (o : Outcome Told) (e : l.Environment). Finds l before (PieceIs (SizeOfArray expr) o) e) (Refused first) after (one l before _ after found) second other (braces.member_size_row also)
one l before _ after NoWidth = λ second other found. one_given (Passes tt []) before second other (braces.width_row found)
one l before _ after (WidthGiven {expr = expr} {found = inner} found) = λ second other also.
    one_made width_found (λ (o : Outcome Told) (e : l.Environment). Finds l before (PieceIs (Loaded expr) o) e) inner after (one l before _ after found) second other (braces.width_row also)
one l before _ after NoEnumerators = λ second other found. one_given (Passes (whole int_type) []) before second other (braces.no_enumerators found)
one l before _ after (EnumeratorTwice {next = next} {constant = constant} {parts = parts} {constants = constants} e here) = one_twice l before next constant parts constants e here
one l before _ after (EnumeratorRefused {next = next} {constant = constant} {parts = parts} {constants = constants} {first = first} e here found) =
    one_enumerator_refused l before after next constant parts constants first e here (one l before _ after found)
one l before _ after (EnumeratorTwiceInside {next = next} {constant = constant} {parts = parts} {constants = constants} {bits = bits} {handed = handed} e here found inside) =
    one_enumerator l before after after next constant parts constants bits handed true _ e here (one l before _ after found) inside (one_given (Refused (fault parts.place (Rule 2))) after)
one l before _ after (MoreEnumerators {middle = middle} {next = next} {constant = constant} {parts = parts} {constants = constants} {bits = bits} {handed = handed} {outcome = inner} e here found inside rest) =
    one_enumerator l before middle after next constant parts constants bits handed false _ e here (one l before _ middle found) inside
    (one_made (with_front handed) (braces.EnumeratorsFound l (l.constant_declared parts.name bits middle) (next_value bits) constants) inner after (one l (l.constant_declared parts.name bits middle) _ after rest))
one l before _ after (NextValue {bits = bits}) = λ second other found. one_given (Passes bits []) before second other (braces.next_row found)
one l before _ after (NoNextValue {place = place}) = λ second other found. one_given (Refused (fault place (Rule 9))) before second other (braces.no_next_row found)
one l before _ after (GivenValue {expr = expr} {known = known} {handed = handed} found e value) = λ second other also.
    via (λ env o. braces.value_found (l.structs env) expr o) (ap (λ (o : Option ℕ). braces.if_value expr o handed) (sym (ap (λ (op : Operand). int_value op.kind known.value) e ∙ value))) (braces.given_row also).2
    (one l before _ after found (braces.given_row also).0 other (braces.given_row also).1)
one l before _ after (GivenNoInt {expr = expr} {known = known} {handed = handed} found e value) = λ second other also.
    via (λ env o. braces.value_found (l.structs env) expr o) (ap (λ (o : Option ℕ). braces.if_value expr o handed) (sym (ap (λ (op : Operand). int_value op.kind known.value) e ∙ value))) (braces.given_row also).2
    (one l before _ after found (braces.given_row also).0 other (braces.given_row also).1)
one l before _ after (GivenRefused {expr = expr} found) = λ second other also.
    via (λ env o. braces.value_found (l.structs env) expr o) refl (braces.given_row also).2 (one l before _ after found (braces.given_row also).0 other (braces.given_row also).1)
one l before _ after (StatementOfParts {stmt = stmt} {clause = clause} e f found) = λ second other also.
    one l before _ after found second other (statements.statement_by l before other stmt clause false second e f (statements.statement_row also))
one l before _ _ (StatementInScope {after = inside} {stmt = stmt} {clause = clause} {outcome = first} e f found) = λ second other also.
    one_inside l.left (statements.PartsFound l (l.entered before) (parts_in stmt.place clause)) first inside (one l (l.entered before) _ inside found) second other
    (statements.statement_by l before other stmt clause true second e f (statements.statement_row also))
one l before _ after NoStatementParts = λ second other found. one_given (Passes tt []) before second other (statements.no_parts found)
one l before _ after (MoreStatementParts {middle = middle} {part = part} {parts = parts} {handed = handed} {outcome = inner} found rest) = λ second other also.
    one_both (statements.PartFound l before part) (statements.PartsBehind l parts) tt handed middle (with_front handed inner) after (one l before _ middle found)
    (one_made (with_front handed) (statements.PartsFound l middle parts) inner after (one l middle _ after rest)) second other (statements.parts_row also)
one l before _ after (StatementPartRefused {part = part} {parts = parts} {first = first} found) = λ second other also.
    one_refused (statements.PartFound l before part) (statements.PartsBehind l parts) first after (one l before _ after found) second other (statements.parts_row also)
one l before _ after (ValueInStatement found) = λ second other also. one l before _ after found second other (statements.part_row also)
one l before _ after (StatementInside found) = λ second other also. one l before _ after found second other (statements.part_row also)
one l before _ _ (BodyOfLoop {after = inside} {stmt = stmt} {outcome = first} found) = λ second other also.
    one_inside (λ (env : l.Environment). l.loop_set (l.in_loop before) (l.left env)) (statements.StatementFound l (l.loop_set true (l.entered before)) stmt) first inside
    (one l (l.loop_set true (l.entered before)) _ inside found) second other (statements.part_row also)
one l before _ _ (StatementOfIf {after = inside} {stmt = stmt} {outcome = first} found) = λ second other also.
    one_inside l.left (statements.StatementFound l (l.entered before) stmt) first inside (one l (l.entered before) _ inside found) second other (statements.part_row also)
one l before _ _ (BlockOfStatements {after = inside} {body = body} {found = inner} found) = λ second other also.
    one_inside l.left (Made without_value (statements.BlockFound l (l.entered before) body)) (without_value inner) inside
    (one_made without_value (statements.BlockFound l (l.entered before) body) inner inside (one l (l.entered before) _ inside found)) second other (statements.part_row also)
one l before _ _ (LoopLeft {place = place} e) = λ second other also.
    statements.one_left place true before (Passes tt []) before (refl, refl) second other (subst (λ (b : Bool). statements.IsLeft place b before second other) e (statements.part_row also))
one l before _ _ (NoLoopToLeave {place = place} e) = λ second other also.
    statements.one_left place false before (Refused (fault place (Rule 10))) before (refl, refl) second other (subst (λ (b : Bool). statements.IsLeft place b before second other) e (statements.part_row also))
one l before _ _ (NothingReturned {place = place} {faults = faults} {outcome = first} e settled) = λ second other also.
    one_here (statements.IsReturned l before place) before first
    (λ outcome is. one_settled _ tt [] first outcome (subst (λ (f : List Fault). IsSettled f tt [] first) (sym e) settled) is) second other (statements.part_row also)
one l before _ after (ValueReturned found) = λ second other also. one l before _ after found second other (statements.part_row also)
one l before _ after (ValueTaken {demand = demand} {expr = expr} {known = known} {faults = faults} {handed = handed} {outcome = first} constant found asked e settled) = λ second other also.
    one_both (statements.LoadedFound l before expr) (statements.TakenBehind l demand expr) (OperandIs known) handed after first after (one l before _ after found)
    (statements.one_taken l demand expr known constant faults handed after first asked e settled) second other (statements.value_row also)
one l before _ after (ValueRefused {demand = demand} {expr = expr} {first = first} found) = λ second other also.
    one_refused (statements.LoadedFound l before expr) (statements.TakenBehind l demand expr) first after (one l before _ after found) second other (statements.value_row also)
one l before _ after (DeclarationInside found) = λ second other also. one l before _ after found second other (statements.part_row also)
one l before _ after (TagAlone {place = place} {decl = decl} {parts = parts} {words = words} {name = name} e f g opens) = λ second other also.
    declarations.one_alone (Opens after) before (Passes tt []) after (refl, refl) second other
    (declarations.alone_by l before other name (Opens after) second opens (declarations.declared_by l before other place decl parts words (Some name) second e f g also))
one l before _ after (TagAloneOfOther {place = place} {decl = decl} {parts = parts} {words = words} {name = name} {first = first} e f g opens) = λ second other also.
    declarations.one_alone (IsTwice first) before (Refused first) before (refl, refl) second other
    (declarations.alone_by l before other name (IsTwice first) second opens (declarations.declared_by l before other place decl parts words (Some name) second e f g also))
one l before _ after (WordsWithNames {middle = middle} {place = place} {decl = decl} {parts = parts} {words = words} {base = base} {handed = handed} {outcome = inner} e f g found names) = λ second other also.
    one_both (declarations.WordsFound l before words) (declarations.DeclaratorsBehind l place parts) base handed middle (with_front handed inner) after (one l before _ middle found)
    (one_made (with_front handed) (declarations.DeclaratorsFound l middle place parts.storage base parts.names) inner after (one l middle _ after names)) second other
    (declarations.declared_by l before other place decl parts words None second e f g also)
one l before _ after (DeclaredWordsRefused {place = place} {decl = decl} {parts = parts} {words = words} {first = first} e f g found) = λ second other also.
    one_refused (declarations.WordsFound l before words) (declarations.DeclaratorsBehind l place parts) first after (one l before _ after found) second other
    (declarations.declared_by l before other place decl parts words None second e f g also)
one l before _ after (NoDeclarators {place = place} {base = base} {outcome = first} settled) = λ second other also.
    one_here (λ (o : Outcome (Unit {0})). IsSettled (all_at place base.found) tt [] o) before first (λ outcome is. one_settled _ tt [] first outcome settled is) second other (declarations.declarators_row also)
one l before _ after (SomeDeclarators found) = λ second other also. one l before _ after found second other (declarations.declarators_row also)
one l before _ after NoMoreDeclarators = λ second other found. one_given (Passes tt []) before second other (declarations.no_names found)
one l before _ after (MoreDeclarators {middle = middle} {storage = storage} {base = base} {name = name} {names = names} {handed = handed} {outcome = inner} found rest) = λ second other also.
    one_both (declarations.NameFound l before storage base name) (declarations.NamesBehind l storage base names) tt handed middle (with_front handed inner) after (one l before _ middle found)
    (one_made (with_front handed) (declarations.NamesFound l middle storage base names) inner after (one l middle _ after rest)) second other (declarations.names_row also)
one l before _ after (DeclaratorRefused {storage = storage} {base = base} {name = name} {names = names} {first = first} found) = λ second other also.
    one_refused (declarations.NameFound l before storage base name) (declarations.NamesBehind l storage base names) first after (one l before _ after found) second other (declarations.names_row also)
one l before _ after (NameWithSizesRefused {storage = storage} {base = base} {name = name} {parts = parts} {first = first} e p sizes) = λ second other also.
    one_refused (declarations.SizesFound l before (is_fixed_size storage) parts.sizes) (declarations.NameBehind l storage base parts) first after (one l before _ after sizes) second other
    (declarations.name_by l before other storage base name parts None second e p also)
one l before _ after (NameBroken {storage = storage} {base = base} {name = name} {parts = parts} {counts = counts} {faults = faults} {handed = handed} {first = first} again e p sizes asked f is) = λ second other also.
    one_both (declarations.SizesFound l before (is_fixed_size storage) parts.sizes) (declarations.NameBehind l storage base parts) counts handed after (Refused first) after (one l before _ after sizes)
    (declarations.one_broken_name l storage base parts counts handed after again faults first asked f is) second other
    (declarations.name_by l before other storage base name parts None second e p also)
one l before _ after (NameGiven {middle = middle} {storage = storage} {base = base} {name = name} {parts = parts} {counts = counts} {handed = handed} {outcome = inner} again e p sizes asked f found) = λ second other also.
    one_both (declarations.SizesFound l before (is_fixed_size storage) parts.sizes) (declarations.NameBehind l storage base parts) counts handed middle (with_front handed inner) after (one l before _ middle sizes)
    (declarations.one_given_name l storage base parts counts handed middle again inner after asked f
    (one l (name_declared l parts.name parts.place.at (declarations.gives_by storage base parts counts) middle) _ after found)) second other
    (declarations.name_by l before other storage base name parts None second e p also)
one l before _ after (FixedSizes found) = λ second other also. one l before _ after found second other (declarations.sizes_row also)
one l before _ after (AnySizes found) = λ second other also. one l before _ after found second other (declarations.sizes_row also)
one l before _ _ (ParametersRefused {after = inside} {storage = storage} {base = base} {name = name} {parts = parts} {params = params} {first = first} e p found) = λ second other also.
    one_refused (declarations.ParametersInside l before params) (declarations.FunctionBehind l storage base parts) first (l.left inside)
    (one_inside l.left (declarations.ParametersFound l (l.entered before) params) (Refused first) inside (one l (l.entered before) _ inside found)) second other
    (declarations.name_by l before other storage base name parts (Some params) second e p also)
one l before _ _ (FunctionBroken {after = inside} {storage = storage} {base = base} {name = name} {parts = parts} {params = params} {told = told} {faults = faults} {handed = handed} {first = first} again e p found asked f is) = λ second other also.
    one_both (declarations.ParametersInside l before params) (declarations.FunctionBehind l storage base parts) told handed (l.left inside) (Refused first) (l.left inside)
    (one_inside l.left (declarations.ParametersFound l (l.entered before) params) (Passes told handed) inside (one l (l.entered before) _ inside found))
    (declarations.one_broken_function l storage base parts told handed (l.left inside) again faults first asked f is) second other
    (declarations.name_by l before other storage base name parts (Some params) second e p also)
one l before _ after (FunctionGiven {after = inside} {storage = storage} {base = base} {name = name} {parts = parts} {params = params} {told = told} {handed = handed} again e p found asked f) = λ second other also.
    one_both (declarations.ParametersInside l before params) (declarations.FunctionBehind l storage base parts) told handed (l.left inside) (Passes tt handed) after
    (one_inside l.left (declarations.ParametersFound l (l.entered before) params) (Passes told handed) inside (one l (l.entered before) _ inside found))
    (declarations.one_given_function l storage base parts told handed (l.left inside) again asked f) second other
    (declarations.name_by l before other storage base name parts (Some params) second e p also)
one l before _ after NoParameters = λ second other found. one_given (Passes [] []) before second other (declarations.no_parameters found)
one l before _ after (MoreParameters {middle = middle} {param = param} {params = params} {told = told} {handed = handed} {outcome = inner} found rest) = λ second other also.
    one_both (declarations.OneParameterFound l before param) (declarations.ParametersBehind l params) told handed middle (with_parameter told handed inner) after (one l before _ middle found)
    (one_made (with_parameter told handed) (declarations.ParametersFound l middle params) inner after (one l middle _ after rest)) second other (declarations.parameters_row also)
one l before _ after (ParameterRefused {param = param} {params = params} {first = first} found) = λ second other also.
    one_refused (declarations.OneParameterFound l before param) (declarations.ParametersBehind l params) first after (one l before _ after found) second other (declarations.parameters_row also)
one l before _ after (ParameterFound {middle = middle} {after = inside} {param = param} {parts = parts} {words = words} {base = base} {counts = counts} {told = told} {handed = handed} {further = further} e f found sizes is) = λ second other also.
    one_both (declarations.WordsFound l before words) (declarations.SizesBehind l parts) base handed middle (Passes told (handed ++ further)) after (one l before _ middle found)
    (one_both (declarations.AnySizesFound l middle parts.sizes) (declarations.ToldBehind l parts base handed) counts further inside (Passes told (handed ++ further)) after (one l middle _ inside sizes)
    (declarations.one_told l parts base handed counts further inside told is)) second other (declarations.parameter_by l before other param parts words second e f also)
one l before _ after (ParameterWordsRefused {param = param} {parts = parts} {words = words} {first = first} e f found) = λ second other also.
    one_refused (declarations.WordsFound l before words) (declarations.SizesBehind l parts) first after (one l before _ after found) second other (declarations.parameter_by l before other param parts words second e f also)
one l before _ after (ParameterSizesRefused {middle = middle} {param = param} {parts = parts} {words = words} {base = base} {handed = handed} {first = first} e f found sizes) = λ second other also.
    one_both (declarations.WordsFound l before words) (declarations.SizesBehind l parts) base handed middle (Refused first) after (one l before _ middle found)
    (one_refused (declarations.AnySizesFound l middle parts.sizes) (declarations.ToldBehind l parts base handed) first after (one l middle _ after sizes)) second other
    (declarations.parameter_by l before other param parts words second e f also)
one l before _ after (NotInitialised {name = name} {gives = gives}) = λ second other found.
    one_given (Passes tt (object_row name.place gives false)) before second other (initialisers.initialised_row found)
one l before _ after (ObjectInitialised {name = name} {fixed = fixed} {t = t} {init = init} {form = form} {found = inner} e found) = λ second other also.
    one_made (initialised name.place (ObjectGiven fixed (WholeType t)) (in_braces form)) (initialisers.InitialiserFound l before (initialisers.subject_of name fixed) (initialisers.whole_slot t) init) inner after
    (one l before _ after found) second other
    (subst (λ (f : Initialiser). initialisers.WholeFound l before name fixed t init f second other) e (initialisers.initialised_row also))
one l before _ after (ArrayInitialised {after = middle} {name = name} {fixed = fixed} {item = item} {init = init} {parts = parts} {handed = handed} e found f) = λ second other also.
    one_both (initialisers.ArrayFound l before name fixed item init parts) (initialisers.ArrayBehind l name fixed item parts) tt handed middle
    (initialised name.place (ObjectGiven fixed (told_type item (length parts))) true (Passes tt handed)) after (one l before _ middle found)
    (initialisers.one_array l name fixed item parts handed middle f) second other (initialisers.told_by l before other name fixed item init (Braces parts) second e also)
one l before _ after (ArrayOfWrongSize {name = name} {fixed = fixed} {item = item} {init = init} {parts = parts} {handed = handed} {faults = faults} {first = first} e found f is) = λ second other also.
    one_both (initialisers.ArrayFound l before name fixed item init parts) (initialisers.ArrayBehind l name fixed item parts) tt handed after (Refused first) after (one l before _ after found)
    (initialisers.one_wrong_size l name fixed item parts handed after faults first f is) second other (initialisers.told_by l before other name fixed item init (Braces parts) second e also)
one l before _ after (ArrayPartsRefused {name = name} {fixed = fixed} {item = item} {init = init} {parts = parts} {first = first} e found) = λ second other also.
    one_refused (initialisers.ArrayFound l before name fixed item init parts) (initialisers.ArrayBehind l name fixed item parts) first after (one l before _ after found) second other
    (initialisers.told_by l before other name fixed item init (Braces parts) second e also)
one l before _ after (ArrayByValue {name = name} {fixed = fixed} {item = item} {init = init} {value = value} {behind_it = behind_it} e found) = λ second other also.
    one l before _ after found second other (initialisers.told_by l before other name fixed item init (Value value behind_it) second e also)
one l before _ after (LinkedInitialised found) = λ second other also. one l before _ after found second other (initialisers.initialised_row also)
one l before _ after (TypeInitialised found) = λ second other also. one l before _ after found second other (initialisers.initialised_row also)
one l before _ after (ValueStored {subject = subject} {slot = slot} {init = init} {value = value} {behind_it = behind_it} {found = inner} e found) = λ second other also.
    one_made (stored subject slot value.number) (statements.ValueFound l before (Stored subject.fixed slot.ctype) value) inner after (one l before _ after found) second other
    (initialisers.initialiser_by l before other subject slot init (Value value behind_it) second e also)
one l before _ after (BracesFill {subject = subject} {slot = slot} {init = init} {parts = parts} {filled = filled} e f found) = λ second other also.
    one l before _ after found second other (initialisers.filling_by l before other subject slot init parts (Some filled) second e f also)
one l before _ after (BracesTooMany {subject = subject} {slot = slot} {init = init} {parts = parts} e f found) = λ second other also.
    one l before _ after found second other (initialisers.filling_by l before other subject slot init parts None second e f also)
one l before _ after (NoMoreParts {subject = subject} {filled = filled} {index = index}) = λ second other found. one_given (ended subject.place filled index) before second other (initialisers.no_parts found)
one l before _ after (PartSets {middle = middle} {subject = subject} {filled = filled} {index = index} {at = at} {part = part} {parts = parts} {this = this} {slot = slot} {handed = handed} {outcome = inner} e f found rest) = λ second other also.
    one_both (initialisers.InitialiserFound l before subject slot this.init) (initialisers.PartsBehind l subject filled at parts) tt handed middle (with_front handed inner) after (one l before _ middle found)
    (one_made (with_front handed) (initialisers.PartsFound l middle subject filled (suc at) parts) inner after (one l middle _ after rest)) second other
    (initialisers.parts_by l before other subject filled index part parts this (Sets at slot) second e f also)
one l before _ after (PartRefused {subject = subject} {filled = filled} {index = index} {at = at} {part = part} {parts = parts} {this = this} {slot = slot} {first = first} e f found) = λ second other also.
    one_refused (initialisers.InitialiserFound l before subject slot this.init) (initialisers.PartsBehind l subject filled at parts) first after (one l before _ after found) second other
    (initialisers.parts_by l before other subject filled index part parts this (Sets at slot) second e f also)
one l before _ after (NoMemberToSet {subject = subject} {filled = filled} {index = index} {part = part} {parts = parts} {this = this} {place = place} e f) = λ second other also.
    one_given (Refused (fault place (Rule 6))) before second other (initialisers.parts_by l before other subject filled index part parts this (NoMember place) second e f also)
one l before _ after (NothingToSet {subject = subject} {filled = filled} {index = index} {part = part} {parts = parts} {this = this} e f found) = λ second other also.
    one l before _ after found second other (initialisers.parts_by l before other subject filled index part parts this Full second e f also)
one l before _ after (SurplusValue {value = value} {behind_it = behind_it} e found) = λ second other also.
    one l before _ after found second other (initialisers.surplus_by (Value value behind_it) e also)
one l before _ after (SurplusBraces {parts = parts} e found) = λ second other also. one l before _ after found second other (initialisers.surplus_by (Braces parts) e also)
one l before _ after (NoSurplusValue {place = place}) = λ second other found. one_given (Refused (fault place (Rule 5))) before second other (initialisers.no_surplus found)
one l before _ after (SurplusPart {part = part} {parts = parts} {this = this} e found) = λ second other also. one l before _ after found second other (initialisers.surplus_part this e also)

pub one_outcome : (l : Language) → HasOneOutcome l
one_outcome l = record {
  expressions = λ before expr first second after other a b. one l before (ExpressionIs expr first) after a second other b;
  statements = λ before stmt first second after other a b. one l before (StatementIs stmt first) after a second other b;
}
