-- What is found of a part of a tree by a language is found by the one to which it leads: each step of a derivation again, from the last on, since what is declared
-- behind it is what is valid.
use Rattle.std.proofs.Common.{◌≡◌, length, Bool, true, [], sym, ap, ◌∙◌, subst}
use Rattle.typing.specs.Declarations.{LinkedGiven, ObjectGiven, parameter, IsAgain, name_declared, given, given_type, told_type, faults_of_function, function_given}
use Rattle.typing.specs.FileScope.{FileScope}
use Rattle.typing.specs.Language.{Language}
use Rattle.typing.specs.Typing.{Saying, Finds, RefusedInside, Walked, NoPieces, MorePieces, RefusedHere, RefusedBehind, LoadedValue, LoadOfIncomplete, LoadedRefused, UnloadedOperand, UnloadedRefused, CalledFunction, CalledOther, CalledRefused, TypeInside, TypeRefused, IndexOfPath, IndexNotConstant, IndexRefused, SizeOfItems, SizeUnderOne, SizeRefused, BlockInside, BlockRefused, NoStatements, LastExpression, LastStruct, LastRefused, MoreStatements, StatementRefused, StatementsRefused, StatementOfParts, StatementInScope, NoStatementParts, MoreStatementParts, StatementPartRefused, ValueInStatement, StatementInside, BodyOfLoop, StatementOfIf, BlockOfStatements, LoopLeft, NoLoopToLeave, NothingReturned, ValueReturned, ValueTaken, ValueRefused, DeclarationInside, TagAlone, TagAloneOfOther, WordsWithNames, DeclaredWordsRefused, NoDeclarators, SomeDeclarators, NoMoreDeclarators, MoreDeclarators, DeclaratorRefused, NameWithSizesRefused, NameBroken, NameGiven, FixedSizes, AnySizes, ParametersRefused, FunctionBroken, FunctionGiven, NoParameters, MoreParameters, ParameterRefused, ParameterFound, ParameterWordsRefused, ParameterSizesRefused, NotInitialised, ObjectInitialised, ArrayInitialised, ArrayOfWrongSize, ArrayPartsRefused, ArrayByValue, LinkedInitialised, TypeInitialised, ValueStored, BracesFill, BracesTooMany, NoMoreParts, PartSets, PartRefused, NoMemberToSet, NothingToSet, SurplusValue, SurplusBraces, NoSurplusValue, SurplusPart, BasicSpecifier, TypedefSpecifier, StructSpecifier, StructDeclared, StructIsEnum, EnumSpecifier, EnumDeclared, EnumIsStruct, StructOfNothing, EnumOfNothing, StructWithMembers, MembersRefused, StructTwice, EnumWithConstants, EnumTwice, TypeofExpression, TypeofRefused, TypeofType, NoSizes, SizeLeftOut, SizeLeftOutRefused, MoreSizes, SizesRefusedHere, SizesRefusedBehind, TypeNamed, WordsRefused, SizesRefused, NoDeclarations, MoreDeclarations, DeclarationRefused, MembersDeclared, MemberWordsRefused, NoNames, MoreNames, NameRefused, MemberFound, MemberSizesRefused, MemberWidthRefused, NoMemberSizes, MoreMemberSizes, MemberSizeRefusedHere, MemberSizeRefusedBehind, MemberSizeLeftOut, MemberSizeGiven, MemberSizeRefused, NoWidth, WidthGiven, NoEnumerators, EnumeratorTwice, EnumeratorRefused, EnumeratorTwiceInside, MoreEnumerators, NextValue, NoNextValue, GivenValue, GivenNoInt, GivenRefused}
use Rattle.items.specs.languages.Carries.{Carries}
use Rattle.items.proofs.languages.Changes.{follows_both, in_front, at_end, alone_follows, alone_twice, struct_opening_follows, struct_opening_twice, enum_opening_follows, enum_opening_twice, name_follows, named_here_alike, parameter_follows}
use Rattle.items.proofs.languages.Nodes.{node_carried}
use Rattle.items.proofs.languages.Seen.{seen}

module _ {l m : Language} {file : FileScope l} {other : FileScope m} {to : l.Environment → m.Environment} {Valid : l.Environment → Type 0} (c : Carries l m file other to Valid) where
  pub part_carried : {before : l.Environment} {saying : Saying} {after : l.Environment} → Finds (seen l m to) before saying after → Valid after
      → Finds m (to before) saying (to after) × Valid before
  -- expressions and their parts (C11 6.5)
  part_carried (RefusedInside e found) valid =
      let inner = part_carried found valid in
      (RefusedInside e inner.0, inner.1)
  part_carried (Walked e found at_node) valid =
      let inner = part_carried found valid in
      (Walked e inner.0 (node_carried c at_node), inner.1)
  part_carried NoPieces valid = (NoPieces, valid)
  part_carried (MorePieces first rest) valid =
      let others = part_carried rest valid in
      let front = part_carried first others.1 in
      (MorePieces front.0 others.0, front.1)
  part_carried (RefusedHere found) valid =
      let inner = part_carried found valid in
      (RefusedHere inner.0, inner.1)
  part_carried (RefusedBehind first rest) valid =
      let others = part_carried rest valid in
      let front = part_carried first others.1 in
      (RefusedBehind front.0 others.0, front.1)
  part_carried (LoadedValue found e) valid =
      let inner = part_carried found valid in
      (LoadedValue inner.0 e, inner.1)
  part_carried (LoadOfIncomplete found e) valid =
      let inner = part_carried found valid in
      (LoadOfIncomplete inner.0 e, inner.1)
  part_carried (LoadedRefused found) valid =
      let inner = part_carried found valid in
      (LoadedRefused inner.0, inner.1)
  part_carried (UnloadedOperand found) valid =
      let inner = part_carried found valid in
      (UnloadedOperand inner.0, inner.1)
  part_carried (UnloadedRefused found) valid =
      let inner = part_carried found valid in
      (UnloadedRefused inner.0, inner.1)
  part_carried (CalledFunction e g settled) valid = (CalledFunction e g settled, valid)
  part_carried (CalledOther e found) valid =
      let inner = part_carried found valid in
      (CalledOther e inner.0, inner.1)
  part_carried (CalledRefused e found) valid =
      let inner = part_carried found valid in
      (CalledRefused e inner.0, inner.1)
  part_carried (TypeInside found) valid =
      let inner = part_carried found valid in
      (TypeInside inner.0, inner.1)
  part_carried (TypeRefused found) valid =
      let inner = part_carried found valid in
      (TypeRefused inner.0, inner.1)
  part_carried (IndexOfPath found e g) valid =
      let inner = part_carried found valid in
      (IndexOfPath inner.0 e g, inner.1)
  part_carried (IndexNotConstant found e g) valid =
      let inner = part_carried found valid in
      (IndexNotConstant inner.0 e g, inner.1)
  part_carried (IndexRefused found) valid =
      let inner = part_carried found valid in
      (IndexRefused inner.0, inner.1)
  part_carried (SizeOfItems found e g) valid =
      let inner = part_carried found valid in
      (SizeOfItems inner.0 e g, inner.1)
  part_carried (SizeUnderOne found e g) valid =
      let inner = part_carried found valid in
      (SizeUnderOne inner.0 e g, inner.1)
  part_carried (SizeRefused found) valid =
      let inner = part_carried found valid in
      (SizeRefused inner.0, inner.1)
  part_carried (BlockInside {before = before} {after = after} found) valid =
      let left = c.left after valid in
      let inner = part_carried found left.valid in
      let entered = c.entered before inner.1 in
      (at_end left (BlockInside (in_front entered inner.0)), entered.valid)
  part_carried (BlockRefused {before = before} {after = after} found) valid =
      let left = c.left after valid in
      let inner = part_carried found left.valid in
      let entered = c.entered before inner.1 in
      (at_end left (BlockRefused (in_front entered inner.0)), entered.valid)
  -- statements, and the values of blocks (6.8)
  part_carried NoStatements valid = (NoStatements, valid)
  part_carried (LastExpression e empty found g h) valid =
      let inner = part_carried found valid in
      (LastExpression e empty inner.0 g h, inner.1)
  part_carried (LastStruct e empty found g h) valid =
      let inner = part_carried found valid in
      (LastStruct e empty inner.0 g h, inner.1)
  part_carried (LastRefused e empty found) valid =
      let inner = part_carried found valid in
      (LastRefused e empty inner.0, inner.1)
  part_carried (MoreStatements handed e first rest) valid =
      let others = part_carried rest valid in
      let front = part_carried first others.1 in
      (MoreStatements handed e front.0 others.0, front.1)
  part_carried (StatementRefused e found) valid =
      let inner = part_carried found valid in
      (StatementRefused e inner.0, inner.1)
  part_carried (StatementsRefused handed e first rest) valid =
      let others = part_carried rest valid in
      let front = part_carried first others.1 in
      (StatementsRefused handed e front.0 others.0, front.1)
  part_carried (StatementOfParts e g found) valid =
      let inner = part_carried found valid in
      (StatementOfParts e g inner.0, inner.1)
  part_carried (StatementInScope {before = before} {after = after} e g found) valid =
      let left = c.left after valid in
      let inner = part_carried found left.valid in
      let entered = c.entered before inner.1 in
      (at_end left (StatementInScope e g (in_front entered inner.0)), entered.valid)
  part_carried NoStatementParts valid = (NoStatementParts, valid)
  part_carried (MoreStatementParts first rest) valid =
      let others = part_carried rest valid in
      let front = part_carried first others.1 in
      (MoreStatementParts front.0 others.0, front.1)
  part_carried (StatementPartRefused found) valid =
      let inner = part_carried found valid in
      (StatementPartRefused inner.0, inner.1)
  part_carried (ValueInStatement found) valid =
      let inner = part_carried found valid in
      (ValueInStatement inner.0, inner.1)
  part_carried (StatementInside found) valid =
      let inner = part_carried found valid in
      (StatementInside inner.0, inner.1)
  part_carried (BodyOfLoop {before = before} {after = after} found) valid =
      let looped = c.loop_set (m.in_loop (to before)) (l.left after) valid in
      let left = c.left after looped.valid in
      let inner = part_carried found left.valid in
      let loop = c.loop_set true (l.entered before) inner.1 in
      let entered = c.entered before loop.valid in (
        at_end (follows_both (m.loop_set (m.in_loop (to before))) left looped) (BodyOfLoop (in_front (follows_both (m.loop_set true) entered loop) inner.0)),
        entered.valid,
      )
  part_carried (StatementOfIf {before = before} {after = after} found) valid =
      let left = c.left after valid in
      let inner = part_carried found left.valid in
      let entered = c.entered before inner.1 in
      (at_end left (StatementOfIf (in_front entered inner.0)), entered.valid)
  part_carried (BlockOfStatements {before = before} {after = after} found) valid =
      let left = c.left after valid in
      let inner = part_carried found left.valid in
      let entered = c.entered before inner.1 in
      (at_end left (BlockOfStatements (in_front entered inner.0)), entered.valid)
  part_carried (LoopLeft e) valid = (LoopLeft e, valid)
  part_carried (NoLoopToLeave e) valid = (NoLoopToLeave e, valid)
  part_carried (NothingReturned e settled) valid = (NothingReturned e settled, valid)
  part_carried (ValueReturned found) valid =
      let inner = part_carried found valid in
      (ValueReturned inner.0, inner.1)
  part_carried (ValueTaken constant found asked e settled) valid =
      let inner = part_carried found valid in
      (ValueTaken constant inner.0 asked e settled, inner.1)
  part_carried (ValueRefused found) valid =
      let inner = part_carried found valid in
      (ValueRefused inner.0, inner.1)
  part_carried (DeclarationInside found) valid =
      let inner = part_carried found valid in
      (DeclarationInside inner.0, inner.1)
  -- declarations in blocks, functions and their parameters (6.7)
  part_carried (TagAlone {before = before} {after = after} {name = name} e g h alone) valid =
      let (there, opens, follows) = alone_follows c name before after alone valid in
      (at_end follows (TagAlone e g h opens), follows.valid)
  part_carried (TagAloneOfOther {env = env} {name = name} {first = first} e g h alone) valid = (TagAloneOfOther e g h (alone_twice c name env first alone), valid)
  part_carried (WordsWithNames e g h first rest) valid =
      let others = part_carried rest valid in
      let front = part_carried first others.1 in
      (WordsWithNames e g h front.0 others.0, front.1)
  part_carried (DeclaredWordsRefused e g h found) valid =
      let inner = part_carried found valid in
      (DeclaredWordsRefused e g h inner.0, inner.1)
  part_carried (NoDeclarators settled) valid = (NoDeclarators settled, valid)
  part_carried (SomeDeclarators found) valid =
      let inner = part_carried found valid in
      (SomeDeclarators inner.0, inner.1)
  part_carried NoMoreDeclarators valid = (NoMoreDeclarators, valid)
  part_carried (MoreDeclarators first rest) valid =
      let others = part_carried rest valid in
      let front = part_carried first others.1 in
      (MoreDeclarators front.0 others.0, front.1)
  part_carried (DeclaratorRefused found) valid =
      let inner = part_carried found valid in
      (DeclaratorRefused inner.0, inner.1)
  part_carried (NameWithSizesRefused e g found) valid =
      let inner = part_carried found valid in
      (NameWithSizesRefused e g inner.0, inner.1)
  part_carried (NameBroken again e g found again_is h least) valid =
      let inner = part_carried found valid in
      (NameBroken again e g inner.0 again_is h least, inner.1)
  part_carried (NameGiven {middle = middle} {storage = storage} {base = base} {parts = parts} {counts = counts} again e g sizes h k initialised) valid =
      let inner = part_carried initialised valid in
      let follows = name_follows c parts.name parts.place.at (given storage (given_type base parts.stars counts)) middle inner.1 in
      let front = part_carried sizes follows.valid in
      (NameGiven again e g front.0 h k (in_front follows inner.0), front.1)
  part_carried (FixedSizes found) valid =
      let inner = part_carried found valid in
      (FixedSizes inner.0, inner.1)
  part_carried (AnySizes found) valid =
      let inner = part_carried found valid in
      (AnySizes inner.0, inner.1)
  part_carried (ParametersRefused {before = before} {after = after} e g found) valid =
      let left = c.left after valid in
      let inner = part_carried found left.valid in
      let entered = c.entered before inner.1 in
      (at_end left (ParametersRefused e g (in_front entered inner.0)), entered.valid)
  part_carried (FunctionBroken {before = before} {after = after} {storage = storage} {base = base} {parts = parts} {told = told} {faults = faults} again e g params h k first) valid =
      let left = c.left after valid in
      let inner = part_carried params left.valid in
      let entered = c.entered before inner.1 in (
        at_end left (FunctionBroken again e g (in_front entered inner.0)
            (subst (λ (env : m.Environment). IsAgain (m.name_here parts.name env) (m.linked parts.name env) (LinkedGiven (function_given parts base told)) again) left.same h)
            (subst (λ (env : m.Environment). faults_of_function (m.structs env) storage parts base told again ≡ faults) left.same k) first),
        entered.valid,
      )
  part_carried (FunctionGiven {before = before} {after = after} {storage = storage} {base = base} {parts = parts} {told = told} again e g params h k) valid =
      let named = name_follows c parts.name parts.place.at (LinkedGiven (function_given parts base told)) (l.left after) valid in
      let left = c.left after named.valid in
      let inner = part_carried params left.valid in
      let entered = c.entered before inner.1 in (
        at_end (follows_both (name_declared m parts.name parts.place.at (LinkedGiven (function_given parts base told))) left named)
            (FunctionGiven again e g (in_front entered inner.0)
            (subst (λ (env : m.Environment). IsAgain (m.name_here parts.name env) (m.linked parts.name env) (LinkedGiven (function_given parts base told)) again) left.same h)
            (subst (λ (env : m.Environment). faults_of_function (m.structs env) storage parts base told again ≡ []) left.same k)),
        entered.valid,
      )
  part_carried NoParameters valid = (NoParameters, valid)
  part_carried (MoreParameters first rest) valid =
      let others = part_carried rest valid in
      let front = part_carried first others.1 in
      (MoreParameters front.0 others.0, front.1)
  part_carried (ParameterRefused found) valid =
      let inner = part_carried found valid in
      (ParameterRefused inner.0, inner.1)
  part_carried (ParameterFound {after = after} {parts = parts} {base = base} {counts = counts} {told = told} e g words sizes h) valid =
      let follows = parameter_follows c parts.name told.ctype after valid in
      let rest = part_carried sizes follows.valid in
      let front = part_carried words rest.1 in
      let again = ap (λ (named : Bool). parameter m.abi (m.structs (to after)) base parts counts named) (sym (named_here_alike c parts.name after)) in
      (at_end follows (ParameterFound e g front.0 rest.0 (again ∙ h)), front.1)
  part_carried (ParameterWordsRefused e g found) valid =
      let inner = part_carried found valid in
      (ParameterWordsRefused e g inner.0, inner.1)
  part_carried (ParameterSizesRefused e g first rest) valid =
      let others = part_carried rest valid in
      let front = part_carried first others.1 in
      (ParameterSizesRefused e g front.0 others.0, front.1)
  -- initialisers (6.7.9)
  part_carried NotInitialised valid = (NotInitialised, valid)
  part_carried (ObjectInitialised e found) valid =
      let inner = part_carried found valid in
      (ObjectInitialised e inner.0, inner.1)
  part_carried (ArrayInitialised {after = after} {name = name} {fixed = fixed} {item = item} {parts = parts} e found g) valid =
      let follows = name_follows c name.name name.place.at (ObjectGiven fixed (told_type item (length parts))) after valid in
      let inner = part_carried found follows.valid in
      (at_end follows (ArrayInitialised e inner.0 g), inner.1)
  part_carried (ArrayOfWrongSize e found g least) valid =
      let inner = part_carried found valid in
      (ArrayOfWrongSize e inner.0 g least, inner.1)
  part_carried (ArrayPartsRefused e found) valid =
      let inner = part_carried found valid in
      (ArrayPartsRefused e inner.0, inner.1)
  part_carried (ArrayByValue e found) valid =
      let inner = part_carried found valid in
      (ArrayByValue e inner.0, inner.1)
  part_carried (LinkedInitialised found) valid =
      let inner = part_carried found valid in
      (LinkedInitialised inner.0, inner.1)
  part_carried (TypeInitialised found) valid =
      let inner = part_carried found valid in
      (TypeInitialised inner.0, inner.1)
  part_carried (ValueStored e found) valid =
      let inner = part_carried found valid in
      (ValueStored e inner.0, inner.1)
  part_carried (BracesFill e g found) valid =
      let inner = part_carried found valid in
      (BracesFill e g inner.0, inner.1)
  part_carried (BracesTooMany e g found) valid =
      let inner = part_carried found valid in
      (BracesTooMany e g inner.0, inner.1)
  part_carried NoMoreParts valid = (NoMoreParts, valid)
  part_carried (PartSets e g first rest) valid =
      let others = part_carried rest valid in
      let front = part_carried first others.1 in
      (PartSets e g front.0 others.0, front.1)
  part_carried (PartRefused e g found) valid =
      let inner = part_carried found valid in
      (PartRefused e g inner.0, inner.1)
  part_carried (NoMemberToSet e g) valid = (NoMemberToSet e g, valid)
  part_carried (NothingToSet e g found) valid =
      let inner = part_carried found valid in
      (NothingToSet e g inner.0, inner.1)
  part_carried (SurplusValue e found) valid =
      let inner = part_carried found valid in
      (SurplusValue e inner.0, inner.1)
  part_carried (SurplusBraces e found) valid =
      let inner = part_carried found valid in
      (SurplusBraces e inner.0, inner.1)
  part_carried NoSurplusValue valid = (NoSurplusValue, valid)
  part_carried (SurplusPart e found) valid =
      let inner = part_carried found valid in
      (SurplusPart e inner.0, inner.1)
  -- the words of types, and type names (6.7.2, 6.7.7)
  part_carried BasicSpecifier valid = (BasicSpecifier, valid)
  part_carried TypedefSpecifier valid = (TypedefSpecifier, valid)
  part_carried (StructSpecifier e) valid = (StructSpecifier e, valid)
  part_carried (StructDeclared {env = env} {name = name} e) valid =
      let follows = c.struct_declared name.name env valid in
      (at_end follows (StructDeclared e), follows.valid)
  part_carried (StructIsEnum e) valid = (StructIsEnum e, valid)
  part_carried (EnumSpecifier e) valid = (EnumSpecifier e, valid)
  part_carried (EnumDeclared {env = env} {name = name} e) valid =
      let follows = c.enum_declared name.name env valid in
      (at_end follows (EnumDeclared e), follows.valid)
  part_carried (EnumIsStruct e) valid = (EnumIsStruct e, valid)
  part_carried StructOfNothing valid = (StructOfNothing, valid)
  part_carried EnumOfNothing valid = (EnumOfNothing, valid)
  part_carried (StructWithMembers {before = before} {inside = inside} {middle = middle} {number = number} {members = members} {name = name} opens found) valid =
      let completed = c.struct_completed number members middle valid in
      let inner = part_carried found completed.valid in
      let (there, opened, follows) = struct_opening_follows c name number before inside opens inner.1 in
      (at_end completed (StructWithMembers opened (in_front follows inner.0)), follows.valid)
  part_carried (MembersRefused {before = before} {inside = inside} {number = number} {name = name} opens found) valid =
      let inner = part_carried found valid in
      let (there, opened, follows) = struct_opening_follows c name number before inside opens inner.1 in
      (MembersRefused opened (in_front follows inner.0), follows.valid)
  part_carried (StructTwice {env = env} {first = first} {name = name} twice) valid = (StructTwice (struct_opening_twice c name env first twice), valid)
  part_carried (EnumWithConstants {before = before} {inside = inside} {name = name} opens found) valid =
      let inner = part_carried found valid in
      let (there, opened, follows) = enum_opening_follows c name before inside opens inner.1 in
      (EnumWithConstants opened (in_front follows inner.0), follows.valid)
  part_carried (EnumTwice {env = env} {first = first} {name = name} twice) valid = (EnumTwice (enum_opening_twice c name env first twice), valid)
  part_carried (TypeofExpression found) valid =
      let inner = part_carried found valid in
      (TypeofExpression inner.0, inner.1)
  part_carried (TypeofRefused found) valid =
      let inner = part_carried found valid in
      (TypeofRefused inner.0, inner.1)
  part_carried (TypeofType found) valid =
      let inner = part_carried found valid in
      (TypeofType inner.0, inner.1)
  part_carried NoSizes valid = (NoSizes, valid)
  part_carried (SizeLeftOut found) valid =
      let inner = part_carried found valid in
      (SizeLeftOut inner.0, inner.1)
  part_carried (SizeLeftOutRefused found) valid =
      let inner = part_carried found valid in
      (SizeLeftOutRefused inner.0, inner.1)
  part_carried (MoreSizes first rest) valid =
      let others = part_carried rest valid in
      let front = part_carried first others.1 in
      (MoreSizes front.0 others.0, front.1)
  part_carried (SizesRefusedHere found) valid =
      let inner = part_carried found valid in
      (SizesRefusedHere inner.0, inner.1)
  part_carried (SizesRefusedBehind first rest) valid =
      let others = part_carried rest valid in
      let front = part_carried first others.1 in
      (SizesRefusedBehind front.0 others.0, front.1)
  part_carried (TypeNamed e g first rest h) valid =
      let others = part_carried rest valid in
      let front = part_carried first others.1 in
      (TypeNamed e g front.0 others.0 h, front.1)
  part_carried (WordsRefused e g found) valid =
      let inner = part_carried found valid in
      (WordsRefused e g inner.0, inner.1)
  part_carried (SizesRefused e g first rest) valid =
      let others = part_carried rest valid in
      let front = part_carried first others.1 in
      (SizesRefused e g front.0 others.0, front.1)
  -- what stands in the braces of structs and enums (6.7.2.1, 6.7.2.2)
  part_carried NoDeclarations valid = (NoDeclarations, valid)
  part_carried (MoreDeclarations first rest) valid =
      let others = part_carried rest valid in
      let front = part_carried first others.1 in
      (MoreDeclarations front.0 others.0, front.1)
  part_carried (DeclarationRefused found) valid =
      let inner = part_carried found valid in
      (DeclarationRefused inner.0, inner.1)
  part_carried (MembersDeclared e g first rest) valid =
      let others = part_carried rest valid in
      let front = part_carried first others.1 in
      (MembersDeclared e g front.0 others.0, front.1)
  part_carried (MemberWordsRefused e g found) valid =
      let inner = part_carried found valid in
      (MemberWordsRefused e g inner.0, inner.1)
  part_carried NoNames valid = (NoNames, valid)
  part_carried (MoreNames first rest) valid =
      let others = part_carried rest valid in
      let front = part_carried first others.1 in
      (MoreNames front.0 others.0, front.1)
  part_carried (NameRefused found) valid =
      let inner = part_carried found valid in
      (NameRefused inner.0, inner.1)
  part_carried (MemberFound e first rest g h settled) valid =
      let others = part_carried rest valid in
      let front = part_carried first others.1 in
      (MemberFound e front.0 others.0 g h settled, front.1)
  part_carried (MemberSizesRefused e found) valid =
      let inner = part_carried found valid in
      (MemberSizesRefused e inner.0, inner.1)
  part_carried (MemberWidthRefused e first rest) valid =
      let others = part_carried rest valid in
      let front = part_carried first others.1 in
      (MemberWidthRefused e front.0 others.0, front.1)
  part_carried NoMemberSizes valid = (NoMemberSizes, valid)
  part_carried (MoreMemberSizes first rest) valid =
      let others = part_carried rest valid in
      let front = part_carried first others.1 in
      (MoreMemberSizes front.0 others.0, front.1)
  part_carried (MemberSizeRefusedHere found) valid =
      let inner = part_carried found valid in
      (MemberSizeRefusedHere inner.0, inner.1)
  part_carried (MemberSizeRefusedBehind first rest) valid =
      let others = part_carried rest valid in
      let front = part_carried first others.1 in
      (MemberSizeRefusedBehind front.0 others.0, front.1)
  part_carried MemberSizeLeftOut valid = (MemberSizeLeftOut, valid)
  part_carried (MemberSizeGiven found) valid =
      let inner = part_carried found valid in
      (MemberSizeGiven inner.0, inner.1)
  part_carried (MemberSizeRefused found) valid =
      let inner = part_carried found valid in
      (MemberSizeRefused inner.0, inner.1)
  part_carried NoWidth valid = (NoWidth, valid)
  part_carried (WidthGiven found) valid =
      let inner = part_carried found valid in
      (WidthGiven inner.0, inner.1)
  part_carried NoEnumerators valid = (NoEnumerators, valid)
  part_carried (EnumeratorTwice e g) valid = (EnumeratorTwice e g, valid)
  part_carried (EnumeratorRefused e g found) valid =
      let inner = part_carried found valid in
      (EnumeratorRefused e g inner.0, inner.1)
  part_carried (EnumeratorTwiceInside e g found h) valid =
      let inner = part_carried found valid in
      (EnumeratorTwiceInside e g inner.0 h, inner.1)
  part_carried (MoreEnumerators {middle = middle} {parts = parts} {bits = bits} e g value h rest) valid =
      let others = part_carried rest valid in
      let follows = c.constant_declared parts.name bits middle others.1 in
      let front = part_carried value follows.valid in
      (MoreEnumerators e g front.0 h (in_front follows others.0), front.1)
  part_carried NextValue valid = (NextValue, valid)
  part_carried NoNextValue valid = (NoNextValue, valid)
  part_carried (GivenValue found e g) valid =
      let inner = part_carried found valid in
      (GivenValue inner.0 e g, inner.1)
  part_carried (GivenNoInt found e g) valid =
      let inner = part_carried found valid in
      (GivenNoInt inner.0 e g, inner.1)
  part_carried (GivenRefused found) valid =
      let inner = part_carried found valid in
      (GivenRefused inner.0, inner.1)
