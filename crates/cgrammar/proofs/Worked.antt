-- How the short rows are spelled, rule by rule.
use Rattle.std.proofs.Common.{refl, [], ◌∷◌, codes, lit≤, inl, inr}
use Rattle.ctokens.specs.SymbolTables.{keyword_symbol, name_symbol, passed_symbol, mark_symbol, read_as, symbol_of}
use Rattle.cbase.specs.declared.tree.decl.Storage.TheVariants.{Plain, Extern, Static}
use Rattle.cgrammar.specs.Brackets.{NothingMore, NoBracket, InBrackets}
use Rattle.cgrammar.specs.Grammar.{OneAssignment, CommaOperator, OneConditional, AssignmentOperator, OneOperation, ConditionalOperator, OneCast, BinaryOperator, OneUnary, CastOperator, OnePostfix, CountBefore, UnaryOperator, SizeOfExpression, SizeOfTypeName, OnePrimary, IndexOperator, CallOfNothing, CallOperator, MemberOperator, CountBehind, OneArgument, MoreArguments, OneName, OneConstant, Bracketed, StatementExpression, OffsetOfMember, NoMoreMembers, PathToMember, PathToItem, FailedAssertion, BasicWords, TypedefName, TypeOfExpression, TypeOfType, StructWithFields, StructByTag, NoMoreFields, MoreFields, OneFieldDeclaration, OneField, MoreFieldNames, NamedField, NamedBits, UnnamedBits, EnumWithValues, EnumByTag, LastEnumerator, MoreEnumerators, PlainEnumerator, ValuedEnumerator, OneTypeName, NoMoreSizes, SizeLeftOut, SizeGiven, TypeAlone, StorageBefore, StorageBehind, NoDeclarator, WithDeclarators, OneDeclarator, MoreDeclarators, ObjectDeclarator, InitializedDeclarator, DeclaratorOfFunction, NoParameters, VoidParameters, WithParameters, OneParameter, MoreParameters, NamedParameter, UnnamedParameter, InitializedTo, EmptyBraces, InBraces, OneInitializer, MoreInitializers, NextPart, MemberPart, OneBlock, NoMoreItems, NextDeclaration, NextStatement, BlockStatement, EmptyStatement, ExpressionStatement, OneSubstatement, IfStatement, IfElseStatement, WhileStatement, DoStatement, ForStatement, FirstDeclaration, FirstLeftOut, FirstExpression, NoExpression, SomeExpression, BreakStatement, ContinueStatement, ReturnStatement, LabeledStatement}
use Rattle.cgrammar.specs.Phrases.{context_at}
use Rattle.cgrammar.specs.Rows.{ReadsTwoSubtractions, ReadsPassedOver, ReadsBlock, ReadsLabel, word, number, quoted, mark, TwoSubtractions, Levels, Chosen, Assigned, CastOfMinus, BracketsAndMinus, SizeAndMinus, SizeOfItem, CallPlace, Container, Assertion, NearestIf, Labels, Loops, Declarations, Hidden, Rest, Structs}

pub two_subtractions : TwoSubtractions
unfolding keyword_symbol name_symbol passed_symbol
two_subtractions = OneAssignment (OneConditional (OneOperation (BinaryOperator {tighter = 8} (mark (codes "-") 3) (lit≤ tt) (BinaryOperator {tighter = 8} (mark (codes "-") 1) (lit≤ tt) (OneCast (OneUnary (OnePostfix (OnePrimary (OneName (word (codes "a") 0) refl))))) refl (OneCast (OneUnary (OnePostfix (OnePrimary (OneName (word (codes "b") 2) refl)))))) refl (OneCast (OneUnary (OnePostfix (OnePrimary (OneName (word (codes "c") 4) refl))))))))

pub levels : Levels
unfolding keyword_symbol name_symbol passed_symbol
levels = OneAssignment (OneConditional (OneOperation (BinaryOperator {tighter = 0} (mark (codes "||") 1) (lit≤ tt) (OneCast (OneUnary (OnePostfix (OnePrimary (OneName (word (codes "a") 0) refl))))) refl (BinaryOperator {tighter = 1} (mark (codes "&&") 3) (lit≤ tt) (OneCast (OneUnary (OnePostfix (OnePrimary (OneName (word (codes "b") 2) refl))))) refl (BinaryOperator {tighter = 5} (mark (codes "==") 5) (lit≤ tt) (OneCast (OneUnary (OnePostfix (OnePrimary (OneName (word (codes "c") 4) refl))))) refl (BinaryOperator {tighter = 8} (mark (codes "+") 7) (lit≤ tt) (OneCast (OneUnary (OnePostfix (OnePrimary (OneName (word (codes "d") 6) refl))))) refl (BinaryOperator {tighter = 9} (mark (codes "*") 9) (lit≤ tt) (OneCast (OneUnary (OnePostfix (OnePrimary (OneName (word (codes "e") 8) refl))))) refl (OneCast (OneUnary (OnePostfix (OnePrimary (OneName (word (codes "f") 10) refl))))))))))))

pub chosen : Chosen
unfolding keyword_symbol name_symbol passed_symbol
chosen = OneAssignment (OneConditional (ConditionalOperator (mark (codes "?") 1) (mark (codes ":") 3) (OneCast (OneUnary (OnePostfix (OnePrimary (OneName (word (codes "a") 0) refl))))) refl (OneAssignment (OneConditional (OneOperation (OneCast (OneUnary (OnePostfix (OnePrimary (OneName (word (codes "b") 2) refl)))))))) refl (ConditionalOperator (mark (codes "?") 5) (mark (codes ":") 7) (OneCast (OneUnary (OnePostfix (OnePrimary (OneName (word (codes "c") 4) refl))))) refl (OneAssignment (OneConditional (OneOperation (OneCast (OneUnary (OnePostfix (OnePrimary (OneName (word (codes "d") 6) refl)))))))) refl (OneOperation (OneCast (OneUnary (OnePostfix (OnePrimary (OneName (word (codes "e") 8) refl)))))))))

pub assigned : Assigned
unfolding keyword_symbol name_symbol passed_symbol
assigned = CommaOperator (mark (codes ",") 5) (OneAssignment (AssignmentOperator (mark (codes "=") 1) (OnePostfix (OnePrimary (OneName (word (codes "a") 0) refl))) refl (AssignmentOperator (mark (codes "+=") 3) (OnePostfix (OnePrimary (OneName (word (codes "b") 2) refl))) refl (OneConditional (OneOperation (OneCast (OneUnary (OnePostfix (OnePrimary (OneName (word (codes "c") 4) refl)))))))))) refl (OneConditional (OneOperation (OneCast (OneUnary (OnePostfix (OnePrimary (OneName (word (codes "d") 6) refl)))))))

pub cast_of_minus : CastOfMinus
unfolding keyword_symbol name_symbol passed_symbol
cast_of_minus = OneAssignment (OneConditional (OneOperation (OneCast (CastOperator (mark (codes "(") 0) (mark (codes ")") 2) refl (OneTypeName [] (TypedefName (word (codes "T") 1) refl) refl NoMoreSizes) refl (OneUnary (UnaryOperator (mark (codes "-") 3) refl (OneUnary (OnePostfix (OnePrimary (OneConstant (number (codes "1") 4) (record { digits = codes "1"; suffix = codes ""; whole = refl; counts = refl; ends = refl })))))))))))

pub brackets_and_minus : BracketsAndMinus
unfolding keyword_symbol name_symbol passed_symbol
brackets_and_minus = OneAssignment (OneConditional (OneOperation (BinaryOperator {tighter = 8} (mark (codes "-") 3) (lit≤ tt) (OneCast (OneUnary (OnePostfix (OnePrimary (Bracketed (mark (codes "(") 0) (mark (codes ")") 2) refl refl (OneAssignment (OneConditional (OneOperation (OneCast (OneUnary (OnePostfix (OnePrimary (OneName (word (codes "a") 1) refl)))))))) refl))))) refl (OneCast (OneUnary (OnePostfix (OnePrimary (OneConstant (number (codes "1") 4) (record { digits = codes "1"; suffix = codes ""; whole = refl; counts = refl; ends = refl })))))))))

pub size_and_minus : SizeAndMinus
unfolding keyword_symbol name_symbol passed_symbol
size_and_minus = OneAssignment (OneConditional (OneOperation (BinaryOperator {tighter = 8} (mark (codes "-") 4) (lit≤ tt) (OneCast (OneUnary (SizeOfTypeName (word (codes "sizeof") 0) (mark (codes "(") 1) (mark (codes ")") 3) refl refl (OneTypeName [] (TypedefName (word (codes "T") 2) refl) refl NoMoreSizes) refl))) refl (OneCast (OneUnary (OnePostfix (OnePrimary (OneConstant (number (codes "1") 5) (record { digits = codes "1"; suffix = codes ""; whole = refl; counts = refl; ends = refl })))))))))

pub size_of_item : SizeOfItem
unfolding keyword_symbol name_symbol passed_symbol
size_of_item = OneAssignment (OneConditional (OneOperation (OneCast (OneUnary (SizeOfExpression (word (codes "sizeof") 0) refl (OnePostfix (IndexOperator (mark (codes "[") 4) (mark (codes "]") 6) (OnePrimary (Bracketed (mark (codes "(") 1) (mark (codes ")") 3) refl refl (OneAssignment (OneConditional (OneOperation (OneCast (OneUnary (OnePostfix (OnePrimary (OneName (word (codes "a") 2) refl)))))))) refl)) refl (OneAssignment (OneConditional (OneOperation (OneCast (OneUnary (OnePostfix (OnePrimary (OneConstant (number (codes "0") 5) (record { digits = codes "0"; suffix = codes ""; whole = refl; counts = refl; ends = refl }))))))))) refl)))))))

pub call_place : CallPlace
unfolding keyword_symbol name_symbol passed_symbol
call_place = OneAssignment (OneConditional (OneOperation (OneCast (OneUnary (OnePostfix (CountBehind (mark (codes "++") 13) (MemberOperator (mark (codes "->") 11) (word (codes "n") 12) (MemberOperator (mark (codes ".") 9) (word (codes "m") 10) (CallOperator (mark (codes "(") 4) (mark (codes ")") 8) (OnePrimary (Bracketed (mark (codes "(") 0) (mark (codes ")") 3) refl refl (OneAssignment (OneConditional (OneOperation (OneCast (OneUnary (UnaryOperator (mark (codes "*") 1) refl (OneUnary (OnePostfix (OnePrimary (OneName (word (codes "f") 2) refl)))))))))) refl)) refl refl (MoreArguments (mark (codes ",") 6) (OneConditional (OneOperation (OneCast (OneUnary (OnePostfix (OnePrimary (OneConstant (number (codes "1") 5) (record { digits = codes "1"; suffix = codes ""; whole = refl; counts = refl; ends = refl })))))))) refl (OneArgument (OneConditional (OneOperation (OneCast (OneUnary (OnePostfix (OnePrimary (OneName (word (codes "x") 7) refl))))))))) refl) refl refl) refl refl) refl))))))

pub container : Container
unfolding keyword_symbol name_symbol passed_symbol
container = OneAssignment (OneConditional (OneOperation (OneCast (OneUnary (OnePostfix (OnePrimary (StatementExpression (mark (codes "(") 0) (mark (codes ")") 47) refl (OneBlock (mark (codes "{") 1) (mark (codes "}") 46) refl (NextDeclaration (WithDeclarators (mark (codes ";") 19) (TypeAlone (TypeOfExpression (word (codes "typeof") 2) (mark (codes "(") 3) (mark (codes ")") 14) refl refl refl (OneAssignment (OneConditional (OneOperation (OneCast (OneUnary (OnePostfix (MemberOperator (mark (codes "->") 12) (word (codes "m") 13) (OnePrimary (Bracketed (mark (codes "(") 4) (mark (codes ")") 11) refl refl (OneAssignment (OneConditional (OneOperation (OneCast (CastOperator (mark (codes "(") 5) (mark (codes ")") 9) refl (OneTypeName ((mark (codes "*") 8) ∷ []) (StructByTag (word (codes "struct") 6) (word (codes "s") 7) refl refl) refl NoMoreSizes) refl (OneUnary (OnePostfix (OnePrimary (OneConstant (number (codes "0") 10) (record { digits = codes "0"; suffix = codes ""; whole = refl; counts = refl; ends = refl })))))))))) refl)) refl refl))))))) refl)) (OneDeclarator (InitializedDeclarator ((mark (codes "*") 15) ∷ []) (word (codes "p") 16) (mark (codes "=") 17) refl refl NoMoreSizes refl (InitializedTo (OneConditional (OneOperation (OneCast (OneUnary (OnePostfix (OnePrimary (OneName (word (codes "q") 18) refl)))))))))) refl) (NextStatement (ExpressionStatement (mark (codes ";") 45) refl (OneAssignment (OneConditional (OneOperation (OneCast (CastOperator (mark (codes "(") 20) (mark (codes ")") 24) refl (OneTypeName ((mark (codes "*") 23) ∷ []) (StructByTag (word (codes "struct") 21) (word (codes "s") 22) refl refl) refl NoMoreSizes) refl (OneUnary (OnePostfix (OnePrimary (Bracketed (mark (codes "(") 25) (mark (codes ")") 44) refl refl (OneAssignment (OneConditional (OneOperation (BinaryOperator {tighter = 8} (mark (codes "-") 31) (lit≤ tt) (OneCast (CastOperator (mark (codes "(") 26) (mark (codes ")") 29) refl (OneTypeName ((mark (codes "*") 28) ∷ []) (BasicWords ((word (codes "char") 27) ∷ []) (refl, refl)) refl NoMoreSizes) refl (OneUnary (OnePostfix (OnePrimary (OneName (word (codes "p") 30) refl)))))) refl (OneCast (OneUnary (OnePostfix (OnePrimary (OffsetOfMember (word (codes "__builtin_offsetof") 32) (mark (codes "(") 33) (mark (codes ",") 36) (word (codes "m") 37) (mark (codes ")") 43) refl refl (OneTypeName [] (StructByTag (word (codes "struct") 34) (word (codes "s") 35) refl refl) refl NoMoreSizes) refl refl (PathToMember (mark (codes ".") 38) (word (codes "k") 39) refl refl (PathToItem (mark (codes "[") 40) (mark (codes "]") 42) refl (OneOperation (OneCast (OneUnary (OnePostfix (OnePrimary (OneConstant (number (codes "2") 41) (record { digits = codes "2"; suffix = codes ""; whole = refl; counts = refl; ends = refl }))))))) refl NoMoreMembers)) refl))))))))) refl))))))))) refl) NoMoreItems)) refl) refl)))))))

pub assertion : Assertion
unfolding keyword_symbol name_symbol passed_symbol
assertion = OneAssignment (OneConditional (ConditionalOperator (mark (codes "?") 5) (mark (codes ":") 10) (OneCast (OneUnary (OnePostfix (OnePrimary (Bracketed (mark (codes "(") 0) (mark (codes ")") 4) refl refl (OneAssignment (OneConditional (OneOperation (BinaryOperator {tighter = 6} (mark (codes ">") 2) (lit≤ tt) (OneCast (OneUnary (OnePostfix (OnePrimary (OneName (word (codes "x") 1) refl))))) refl (OneCast (OneUnary (OnePostfix (OnePrimary (OneConstant (number (codes "0u") 3) (record { digits = codes "0"; suffix = codes "u"; whole = refl; counts = refl; ends = refl })))))))))) refl))))) refl (OneAssignment (OneConditional (OneOperation (OneCast (CastOperator (mark (codes "(") 6) (mark (codes ")") 8) refl (OneTypeName [] (BasicWords ((word (codes "void") 7) ∷ []) (refl, refl)) refl NoMoreSizes) refl (OneUnary (OnePostfix (OnePrimary (OneConstant (number (codes "0") 9) (record { digits = codes "0"; suffix = codes ""; whole = refl; counts = refl; ends = refl })))))))))) refl (OneOperation (OneCast (OneUnary (OnePostfix (OnePrimary (FailedAssertion (word (codes "__assert_fail") 11) (mark (codes "(") 12) (mark (codes ")") 23) refl refl (NoBracket (quoted (codes "\"x\"") 13) refl (NoBracket (mark (codes ",") 14) refl (NoBracket (number (codes "3") 15) refl (NoBracket (mark (codes ",") 16) refl (NoBracket (word (codes "f") 17) refl (InBrackets (mark (codes "[") 18) (mark (codes "]") 22) (inr (inl (refl, refl))) (InBrackets (mark (codes "{") 19) (mark (codes "}") 21) (inr (inr (refl, refl))) (NoBracket (number (codes "1") 20) refl NothingMore) NothingMore) NothingMore)))))) refl))))))))

pub nearest_if : NearestIf
unfolding keyword_symbol name_symbol passed_symbol
nearest_if = OneBlock (mark (codes "{") 0) (mark (codes "}") 13) refl (NextStatement (IfStatement (word (codes "if") 1) (mark (codes "(") 2) (mark (codes ")") 4) refl refl refl (OneAssignment (OneConditional (OneOperation (OneCast (OneUnary (OnePostfix (OnePrimary (OneName (word (codes "a") 3) refl)))))))) refl (OneSubstatement (IfElseStatement (word (codes "if") 5) (mark (codes "(") 6) (mark (codes ")") 8) (word (codes "else") 10) refl refl refl (OneAssignment (OneConditional (OneOperation (OneCast (OneUnary (OnePostfix (OnePrimary (OneName (word (codes "b") 7) refl)))))))) refl (OneSubstatement (EmptyStatement (mark (codes ";") 9) refl)) refl (OneSubstatement (ExpressionStatement (mark (codes ";") 12) refl (OneAssignment (OneConditional (OneOperation (OneCast (OneUnary (OnePostfix (OnePrimary (OneName (word (codes "x") 11) refl)))))))) refl))))) NoMoreItems) refl

pub labels : Labels
unfolding keyword_symbol name_symbol passed_symbol
labels = OneBlock (mark (codes "{") 0) (mark (codes "}") 4) refl (NextStatement (LabeledStatement (word (codes "ERROR") 1) (mark (codes ":") 2) refl refl refl (EmptyStatement (mark (codes ";") 3) refl)) NoMoreItems) refl

pub loops : Loops
unfolding keyword_symbol name_symbol passed_symbol
loops = OneBlock (mark (codes "{") 0) (mark (codes "}") 40) refl (NextStatement (WhileStatement (word (codes "while") 1) (mark (codes "(") 2) (mark (codes ")") 4) refl refl refl (OneAssignment (OneConditional (OneOperation (OneCast (OneUnary (OnePostfix (OnePrimary (OneName (word (codes "a") 3) refl)))))))) refl (OneSubstatement (BlockStatement (OneBlock (mark (codes "{") 5) (mark (codes "}") 6) refl NoMoreItems refl)))) (NextStatement (DoStatement (word (codes "do") 7) (word (codes "while") 9) (mark (codes "(") 10) (mark (codes ")") 12) (mark (codes ";") 13) refl (OneSubstatement (EmptyStatement (mark (codes ";") 8) refl)) refl refl refl (OneAssignment (OneConditional (OneOperation (OneCast (OneUnary (OnePostfix (OnePrimary (OneName (word (codes "b") 11) refl)))))))) refl refl) (NextStatement (ForStatement (word (codes "for") 14) (mark (codes "(") 15) (mark (codes ";") 24) (mark (codes ")") 27) refl refl (FirstDeclaration (WithDeclarators (mark (codes ";") 20) (TypeAlone (BasicWords ((word (codes "int") 16) ∷ []) (refl, refl))) (OneDeclarator (InitializedDeclarator [] (word (codes "i") 17) (mark (codes "=") 18) refl refl NoMoreSizes refl (InitializedTo (OneConditional (OneOperation (OneCast (OneUnary (OnePostfix (OnePrimary (OneConstant (number (codes "0") 19) (record { digits = codes "0"; suffix = codes ""; whole = refl; counts = refl; ends = refl }))))))))))) refl)) (SomeExpression (OneAssignment (OneConditional (OneOperation (BinaryOperator {tighter = 6} (mark (codes "<") 22) (lit≤ tt) (OneCast (OneUnary (OnePostfix (OnePrimary (OneName (word (codes "i") 21) refl))))) refl (OneCast (OneUnary (OnePostfix (OnePrimary (OneConstant (number (codes "9") 23) (record { digits = codes "9"; suffix = codes ""; whole = refl; counts = refl; ends = refl }))))))))))) refl (SomeExpression (OneAssignment (OneConditional (OneOperation (OneCast (OneUnary (OnePostfix (CountBehind (mark (codes "++") 26) (OnePrimary (OneName (word (codes "i") 25) refl)) refl)))))))) refl (OneSubstatement (BreakStatement (word (codes "break") 28) (mark (codes ";") 29) refl refl))) (NextStatement (ForStatement (word (codes "for") 30) (mark (codes "(") 31) (mark (codes ";") 33) (mark (codes ")") 34) refl refl (FirstLeftOut (mark (codes ";") 32) refl) NoExpression refl NoExpression refl (OneSubstatement (ContinueStatement (word (codes "continue") 35) (mark (codes ";") 36) refl refl))) (NextStatement (ReturnStatement (word (codes "return") 37) (mark (codes ";") 39) refl (SomeExpression (OneAssignment (OneConditional (OneOperation (OneCast (OneUnary (OnePostfix (OnePrimary (OneName (word (codes "a") 38) refl))))))))) refl) NoMoreItems))))) refl

pub declarations : Declarations
unfolding keyword_symbol name_symbol passed_symbol
declarations = OneBlock (mark (codes "{") 0) (mark (codes "}") 42) refl (NextDeclaration (WithDeclarators (mark (codes ";") 18) (TypeAlone (TypedefName (word (codes "T") 1) refl)) (MoreDeclarators (mark (codes ",") 4) (ObjectDeclarator ((mark (codes "*") 2) ∷ []) (word (codes "x") 3) refl refl NoMoreSizes) refl (OneDeclarator (InitializedDeclarator [] (word (codes "y") 5) (mark (codes "=") 9) refl refl (SizeGiven (mark (codes "[") 6) (mark (codes "]") 8) refl (OneOperation (OneCast (OneUnary (OnePostfix (OnePrimary (OneConstant (number (codes "2") 7) (record { digits = codes "2"; suffix = codes ""; whole = refl; counts = refl; ends = refl }))))))) refl NoMoreSizes) refl (InBraces ((mark (codes ",") 16) ∷ []) (mark (codes "{") 10) (mark (codes "}") 17) refl (MoreInitializers (mark (codes ",") 12) (NextPart (InitializedTo (OneConditional (OneOperation (OneCast (OneUnary (OnePostfix (OnePrimary (OneConstant (number (codes "1") 11) (record { digits = codes "1"; suffix = codes ""; whole = refl; counts = refl; ends = refl })))))))))) refl (OneInitializer (NextPart (InBraces [] (mark (codes "{") 13) (mark (codes "}") 15) refl (OneInitializer (NextPart (InitializedTo (OneConditional (OneOperation (OneCast (OneUnary (OnePostfix (OnePrimary (OneConstant (number (codes "2") 14) (record { digits = codes "2"; suffix = codes ""; whole = refl; counts = refl; ends = refl }))))))))))) (inl refl) refl)))) (inr ((mark (codes ",") 16), refl, refl)) refl)))) refl) (NextDeclaration (WithDeclarators (mark (codes ";") 37) (StorageBehind {storage = Extern} (word (codes "extern") 21) (BasicWords ((word (codes "unsigned") 19) ∷ (word (codes "long") 20) ∷ []) (refl, refl)) refl) (MoreDeclarators (mark (codes ",") 27) (DeclaratorOfFunction (VoidParameters ((mark (codes "*") 22) ∷ []) (word (codes "g") 23) (mark (codes "(") 24) (word (codes "void") 25) (mark (codes ")") 26) refl refl refl refl refl)) refl (OneDeclarator (DeclaratorOfFunction (WithParameters [] (word (codes "h") 28) (mark (codes "(") 29) (mark (codes ")") 36) refl refl refl refl (MoreParameters (mark (codes ",") 32) (NamedParameter {storage = Plain} [] (word (codes "T") 31) (TypeAlone (TypedefName (word (codes "T") 30) refl)) refl refl NoMoreSizes) refl (OneParameter (UnnamedParameter {storage = Plain} [] (TypeAlone (BasicWords ((word (codes "int") 33) ∷ []) (refl, refl))) refl (SizeLeftOut (mark (codes "[") 34) (mark (codes "]") 35) refl refl NoMoreSizes)))) refl)))) refl) (NextStatement (ExpressionStatement (mark (codes ";") 41) refl (OneAssignment (OneConditional (OneOperation (BinaryOperator {tighter = 9} (mark (codes "*") 39) (lit≤ tt) (OneCast (OneUnary (OnePostfix (OnePrimary (OneName (word (codes "x") 38) refl))))) refl (OneCast (OneUnary (OnePostfix (OnePrimary (OneName (word (codes "y") 40) refl))))))))) refl) NoMoreItems))) refl

pub hidden : Hidden
unfolding keyword_symbol name_symbol passed_symbol
hidden = OneBlock (mark (codes "{") 0) (mark (codes "}") 40) refl (NextStatement (BlockStatement (OneBlock (mark (codes "{") 1) (mark (codes "}") 13) refl (NextDeclaration (WithDeclarators (mark (codes ";") 6) (TypeAlone (BasicWords ((word (codes "int") 2) ∷ []) (refl, refl))) (OneDeclarator (InitializedDeclarator [] (word (codes "T") 3) (mark (codes "=") 4) refl refl NoMoreSizes refl (InitializedTo (OneConditional (OneOperation (OneCast (OneUnary (OnePostfix (OnePrimary (OneConstant (number (codes "1") 5) (record { digits = codes "1"; suffix = codes ""; whole = refl; counts = refl; ends = refl }))))))))))) refl) (NextStatement (ExpressionStatement (mark (codes ";") 12) refl (OneAssignment (OneConditional (OneOperation (BinaryOperator {tighter = 8} (mark (codes "-") 10) (lit≤ tt) (OneCast (OneUnary (OnePostfix (OnePrimary (Bracketed (mark (codes "(") 7) (mark (codes ")") 9) refl refl (OneAssignment (OneConditional (OneOperation (OneCast (OneUnary (OnePostfix (OnePrimary (OneName (word (codes "T") 8) refl)))))))) refl))))) refl (OneCast (OneUnary (OnePostfix (OnePrimary (OneConstant (number (codes "1") 11) (record { digits = codes "1"; suffix = codes ""; whole = refl; counts = refl; ends = refl })))))))))) refl) NoMoreItems)) refl)) (NextStatement (ExpressionStatement (mark (codes ";") 19) refl (OneAssignment (OneConditional (OneOperation (OneCast (CastOperator (mark (codes "(") 14) (mark (codes ")") 16) refl (OneTypeName [] (TypedefName (word (codes "T") 15) refl) refl NoMoreSizes) refl (OneUnary (UnaryOperator (mark (codes "-") 17) refl (OneUnary (OnePostfix (OnePrimary (OneConstant (number (codes "1") 18) (record { digits = codes "1"; suffix = codes ""; whole = refl; counts = refl; ends = refl })))))))))))) refl) (NextStatement (ExpressionStatement (mark (codes ";") 35) refl (OneAssignment (OneConditional (OneOperation (OneCast (CastOperator (mark (codes "(") 20) (mark (codes ")") 22) refl (OneTypeName [] (BasicWords ((word (codes "void") 21) ∷ []) (refl, refl)) refl NoMoreSizes) refl (OneUnary (SizeOfTypeName (word (codes "sizeof") 23) (mark (codes "(") 24) (mark (codes ")") 34) refl refl (OneTypeName [] (EnumWithValues ((word (codes "e") 26) ∷ []) [] (word (codes "enum") 25) (mark (codes "{") 27) (mark (codes "}") 33) refl ((word (codes "e") 26), refl, refl, refl) refl (MoreEnumerators (mark (codes ",") 31) (ValuedEnumerator (word (codes "T") 28) (mark (codes "=") 29) refl refl (OneOperation (OneCast (OneUnary (OnePostfix (OnePrimary (OneConstant (number (codes "3") 30) (record { digits = codes "3"; suffix = codes ""; whole = refl; counts = refl; ends = refl })))))))) refl (LastEnumerator (PlainEnumerator (word (codes "U") 32) refl))) (inl refl) refl) refl NoMoreSizes) refl))))))) refl) (NextStatement (ExpressionStatement (mark (codes ";") 39) refl (OneAssignment (AssignmentOperator (mark (codes "=") 37) (OnePostfix (OnePrimary (OneName (word (codes "T") 36) refl))) refl (OneConditional (OneOperation (OneCast (OneUnary (OnePostfix (OnePrimary (OneName (word (codes "U") 38) refl))))))))) refl) NoMoreItems)))) refl

pub rest : Rest
unfolding keyword_symbol name_symbol passed_symbol
rest = OneBlock (mark (codes "{") 0) (mark (codes "}") 26) refl (NextStatement (ForStatement (word (codes "for") 1) (mark (codes "(") 2) (mark (codes ";") 6) (mark (codes ")") 7) refl refl (FirstExpression (mark (codes ";") 5) refl (OneAssignment (OneConditional (OneOperation (OneCast (OneUnary (CountBefore (mark (codes "++") 3) refl (OnePostfix (OnePrimary (OneName (word (codes "a") 4) refl))))))))) refl) NoExpression refl NoExpression refl (OneSubstatement (ExpressionStatement (mark (codes ";") 11) refl (OneAssignment (OneConditional (OneOperation (OneCast (OneUnary (OnePostfix (CallOfNothing (mark (codes "(") 9) (mark (codes ")") 10) (OnePrimary (OneName (word (codes "f") 8) refl)) refl refl))))))) refl))) (NextDeclaration (NoDeclarator (mark (codes ";") 14) (TypeAlone (EnumByTag (word (codes "enum") 12) (word (codes "e") 13) refl refl)) refl) (NextDeclaration (WithDeclarators (mark (codes ";") 25) (TypeAlone (TypeOfType (word (codes "typeof") 15) (mark (codes "(") 16) (mark (codes ")") 19) refl refl (OneTypeName ((mark (codes "*") 18) ∷ []) (BasicWords ((word (codes "int") 17) ∷ []) (refl, refl)) refl NoMoreSizes) refl)) (MoreDeclarators (mark (codes ",") 21) (ObjectDeclarator [] (word (codes "x") 20) refl refl NoMoreSizes) refl (OneDeclarator (DeclaratorOfFunction (NoParameters [] (word (codes "g") 22) (mark (codes "(") 23) (mark (codes ")") 24) refl refl refl refl)))) refl) NoMoreItems))) refl

pub structs : Structs
unfolding keyword_symbol name_symbol passed_symbol
structs = OneBlock (mark (codes "{") 0) (mark (codes "}") 36) refl (NextDeclaration (WithDeclarators (mark (codes ";") 32) (StorageBefore {storage = Static} (word (codes "static") 1) refl (StructWithFields ((word (codes "s") 3) ∷ []) (word (codes "struct") 2) (mark (codes "{") 4) (mark (codes "}") 22) refl ((word (codes "s") 3), refl, refl, refl) refl (MoreFields (OneFieldDeclaration (mark (codes ";") 13) (TypedefName (word (codes "T") 5) refl) (MoreFieldNames (mark (codes ",") 8) (NamedField ((mark (codes "*") 6) ∷ []) (word (codes "T") 7) refl refl NoMoreSizes refl) refl (OneField (NamedField [] (word (codes "b") 9) refl refl (SizeGiven (mark (codes "[") 10) (mark (codes "]") 12) refl (OneOperation (OneCast (OneUnary (OnePostfix (OnePrimary (OneConstant (number (codes "3") 11) (record { digits = codes "3"; suffix = codes ""; whole = refl; counts = refl; ends = refl }))))))) refl NoMoreSizes) refl))) refl) (MoreFields (OneFieldDeclaration (mark (codes ";") 21) (BasicWords ((word (codes "int") 14) ∷ []) (refl, refl)) (MoreFieldNames (mark (codes ",") 17) (UnnamedBits (mark (codes ":") 15) refl (OneOperation (OneCast (OneUnary (OnePostfix (OnePrimary (OneConstant (number (codes "3") 16) (record { digits = codes "3"; suffix = codes ""; whole = refl; counts = refl; ends = refl })))))))) refl (OneField (NamedBits [] (word (codes "c") 18) (mark (codes ":") 19) refl refl NoMoreSizes refl refl (OneOperation (OneCast (OneUnary (OnePostfix (OnePrimary (OneConstant (number (codes "4") 20) (record { digits = codes "4"; suffix = codes ""; whole = refl; counts = refl; ends = refl })))))))))) refl) NoMoreFields)) refl)) (OneDeclarator (InitializedDeclarator [] (word (codes "s") 23) (mark (codes "=") 24) refl refl NoMoreSizes refl (InBraces [] (mark (codes "{") 25) (mark (codes "}") 31) refl (OneInitializer (MemberPart (mark (codes ".") 26) (word (codes "b") 27) (mark (codes "=") 28) refl refl refl (EmptyBraces (mark (codes "{") 29) (mark (codes "}") 30) refl refl))) (inl refl) refl))) refl) (NextDeclaration (WithDeclarators (mark (codes ";") 35) (TypeAlone (TypedefName (word (codes "T") 33) refl)) (OneDeclarator (ObjectDeclarator [] (word (codes "z") 34) refl refl NoMoreSizes)) refl) NoMoreItems)) refl

pub reads_two_subtractions : ReadsTwoSubtractions
unfolding keyword_symbol name_symbol passed_symbol mark_symbol read_as symbol_of
reads_two_subtractions = record { behind = context_at ([] ∷ []) 5; spelled = OneAssignment (OneConditional (OneOperation (BinaryOperator {tighter = 8} (mark (codes "-") 3) (lit≤ tt) (BinaryOperator {tighter = 8} (mark (codes "-") 1) (lit≤ tt) (OneCast (OneUnary (OnePostfix (OnePrimary (OneName (word (codes "a") 0) refl))))) refl (OneCast (OneUnary (OnePostfix (OnePrimary (OneName (word (codes "b") 2) refl)))))) refl (OneCast (OneUnary (OnePostfix (OnePrimary (OneName (word (codes "c") 4) refl)))))))); last = refl }

pub reads_passed_over : ReadsPassedOver
unfolding keyword_symbol name_symbol passed_symbol mark_symbol read_as symbol_of
reads_passed_over = record { behind = context_at ([] ∷ []) 2; spelled = OneAssignment (OneConditional (OneOperation (OneCast (CastOperator (mark (codes "(") 0) (mark (codes ")") 4) refl (OneTypeName ((mark (codes "*") 3) ∷ []) (BasicWords ((word (codes "char") 2) ∷ []) (refl, refl)) refl NoMoreSizes) refl (OneUnary (OnePostfix (OnePrimary (OneName (word (codes "a") 5) refl)))))))); last = refl }

pub reads_block : ReadsBlock
unfolding keyword_symbol name_symbol passed_symbol mark_symbol read_as symbol_of
reads_block = record { behind = context_at ([] ∷ []) 0; spelled = OneBlock (mark (codes "{") 0) (mark (codes "}") 2) refl (NextStatement (EmptyStatement (mark (codes ";") 1) refl) NoMoreItems) refl; last = refl }

pub reads_label : ReadsLabel
unfolding keyword_symbol name_symbol passed_symbol mark_symbol read_as symbol_of
reads_label = record { behind = context_at ([] ∷ []) 0; spelled = OneBlock (mark (codes "{") 0) (mark (codes "}") 4) refl (NextStatement (LabeledStatement (word (codes "ERROR") 1) (mark (codes ":") 2) refl refl refl (EmptyStatement (mark (codes ";") 3) refl)) NoMoreItems) refl; last = refl }
