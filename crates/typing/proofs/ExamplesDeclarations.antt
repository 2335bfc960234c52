-- Declarations in blocks of the examples.
use Rattle.std.proofs.Common.{◌≡◌, ℕ, true, false, List, [], ◌∷◌, Option, Some, None, refl, sym, ap, ◌∙◌}
use Rattle.std.specs.Prelude.{codes, is_some}
use Rattle.cbase.specs.declared.abi.Abi.TheVariants.{Lp64}
use Rattle.cbase.specs.declared.ctype.CType.{CType}
use Rattle.cbase.specs.declared.ctype.CType.TheVariants.{Void as VoidType, Pointer as PointerType, Struct as StructType, Array as ArrayType}
use Rattle.cbase.specs.declared.ctype.CType.TheOpen.{Void as VoidOpen, Int as IntOpen}
use Rattle.cbase.specs.declared.ctype.CType.TheViews.{out-CType, outs-Array, outs-Void, outs-Int}
use Rattle.cbase.specs.declared.tree.decl.Storage.TheVariants.{Plain, Typedef, Extern, Static}
use Rattle.cbase.specs.declared.tree.expr.ExprForm.TheViews.{outs-Eval, outs-Block, outs-Declare, outs-Basic, outs-Struct, outs-Enum, outs-OfExpr, outs-OfType, out-roll-FieldDecl, out-roll-FieldName, out-roll-TypeName, out-roll-Decl, out-roll-Declared, out-roll-Param}
use Rattle.cbase.specs.declared.tree.spec.BasicType.TheVariants.{Void, Integer}
use Rattle.cbase.specs.declared.tree.spec.Rank.TheVariants.{Char, Int}
use Rattle.cbase.specs.declared.tree.spec.TypeSpec.TheVariants.{Basic, Struct as StructWords, Enum as EnumWords, OfExpr, OfType}
use Rattle.cbase.specs.declared.tree.stmt.StmtForm.TheVariants.{Eval, Block, Declare}
use Rattle.cbase.specs.declared.layout.Layout.{Layout}
use Rattle.cbase.specs.declared.structs.StructDef.{StructDef}
use Rattle.cbase.specs.Layout.{layout_of, struct_at, fields_layout, no_fields, scalar, repeated}
use Rattle.cbase.proofs.Types.{type_layout-Struct}
use Rattle.typing.specs.declared.constants.meaning.Meaning.TheVariants.{Known as Meant}
use Rattle.typing.specs.constants.Deciding.{letter, integer, meaning_of}
use Rattle.typing.specs.declared.ctypes.found.Broken.TheVariants.{Construct, Rule}
use Rattle.typing.specs.declared.ctypes.kind.Target.TheVariants.{Sized, Void as VoidTarget}
use Rattle.typing.specs.ctypes.Binary.{int_type}
use Rattle.typing.specs.ctypes.Integers.{integer as integer_of}
use Rattle.typing.specs.ctypes.Kinds.{Integer as IntegerKind, Pointer, Array, Struct, Void as VoidKind, kind_of, target_in, target_of}
use Rattle.typing.proofs.ctypes.ShapeKinds.{are_kinds}
use Rattle.typing.specs.declared.size.Size.TheVariants.{Counted, NotConstant, LeftOut}
use Rattle.typing.specs.Braces.{member_faults}
use Rattle.typing.specs.Declarations.{items_in}
use Rattle.typing.specs.Entities.{WholeType}
use Rattle.typing.specs.ExamplesOfDeclarations.{AreDeclarations}
use Rattle.typing.specs.Faults.{fault}
use Rattle.typing.specs.Forms.{value_in}
use Rattle.typing.specs.NamedTypes.{whole, declared, is_over}
use Rattle.typing.specs.Outcomes.{Passes, Refused}
use Rattle.typing.specs.Sample.{opened, in_function, object, declaration, field_of_bits, token, name, constant, identifier, type_name, statement_at, declare, declarator, function_declarator, parameter_of, char_type}
use Rattle.typing.specs.Typing.{LastExpression, StatementsRefused, StatementRefused, MoreStatements, BasicSpecifier, StructSpecifier, EnumDeclared, MembersRefused, DeclarationRefused, MembersDeclared, NameRefused, MemberFound, WidthGiven, TypeofExpression, UnloadedOperand, DeclaredWordsRefused, TypeofType, TypeNamed, NoSizes, SizeLeftOut, MoreSizes, SizesRefusedHere, SizeOfItems, SizeUnderOne, SizeRefused, NoMemberSizes, MoreMemberSizes, MemberSizeRefusedHere, MemberSizeLeftOut, MemberSizeGiven, StatementOfParts, StatementPartRefused, DeclarationInside, TagAlone, TagAloneOfOther, WordsWithNames, NoDeclarators, SomeDeclarators, MoreDeclarators, DeclaratorRefused, NameWithSizesRefused, FixedSizes, AnySizes, ParametersRefused, NoParameters, ParameterRefused, ParameterSizesRefused, NotInitialised}
use Rattle.typing.proofs.SampleFacts.{structs, alone, seen, k_int, k_char, k_void, k_row, k_chars, k_p, laid_4, laid_1, laid_void, laid_chars, laid_t, laid_pointer, int_of, read_in, loaded_in, object_in, k_s, laid_s, m_0, m_2, m_3, m_70000}
use Rattle.typing.proofs.StatementFacts.{int_laid, ints_laid, an_int, none_of, one_part, in_braces, refused_in_braces, last, followed, no_value}
use Rattle.typing.proofs.DeclarationFacts.{declares, refuses, automatic, not_automatic, static, not_left_open, linked, not_linked, linked_items, typedef, not_typedef, one_parameter, more_parameters, function_passes, function_refused, int_or_char}

m_65536 : meaning_of Lp64 (codes "65536") ≡ Meant (int_of 65536)
unfolding letter integer
m_65536 = refl

m_65537 : meaning_of Lp64 (codes "65537") ≡ Meant (int_of 65537)
unfolding letter integer
m_65537 = refl

-- types that differ
typedefs_differ : WholeType int_type ≡ WholeType char_type → ⊥
typedefs_differ e = int_or_char (let same : int_type ≡ char_type = cc e in same)

items_differ : items_in (out-CType (ArrayType char_type 3)) ≡ Some int_type → ⊥
items_differ e = int_or_char (let same : Some char_type ≡ Some int_type = sym (ap items_in (outs-Array char_type 3)) ∙ e in sym (let types : char_type ≡ int_type = cc same in types))

params_differ : ◌≡◌ {A = CType × List CType} (int_type, int_type ∷ PointerType char_type ∷ []) (int_type, int_type ∷ []) → ⊥
params_differ e = (let lists : int_type ∷ PointerType char_type ∷ [] ≡ int_type ∷ [] = ap (λ (q : CType × List CType). q.1) e in cc lists)

void_or_int : VoidType ≡ int_type → ⊥
void_or_int e = let both : VoidOpen ≡ IntOpen 4 true = sym outs-Void ∙ (ap out-CType e ∙ outs-Int 4 true) in absurd (cc both)

results_differ : ◌≡◌ {A = CType × List CType} (VoidType, PointerType VoidType ∷ []) (int_type, int_type ∷ []) → ⊥
results_differ e = void_or_int (ap (λ (q : CType × List CType). q.0) e)

-- an array of ints
ints_kind : (count : ℕ) → kind_of structs (ArrayType int_type count) ≡ Array int_type Sized
ints_kind count = (are_kinds structs).array int_type count ∙ ap (Array int_type) (λ i. target_in (outs-Int 4 true i) (is_some (laid_4 true i)))

-- a struct whose tag stands alone
new_laid : layout_of Lp64 (opened (Some (codes "s")) in_function).structs (StructType 3) ≡ None
new_laid = type_layout-Struct Lp64 (struct_at Lp64 4 (opened (Some (codes "s")) in_function).structs) 3

-- inside the braces of a struct without a tag
abbrev unnamed : List StructDef
unnamed = (opened None in_function).structs

pub are_declarations : AreDeclarations
are_declarations = record {
  automatic = ([], _, _, (declares Plain (Basic (Integer Int true)) (declarator (codes "i") 1 0 [] None) (outs-Basic (Integer Int true)) refl BasicSpecifier (automatic _ (whole int_type) [] (Some (scalar 4)) refl (AnySizes NoSizes) refl refl (laid_4 true) refl NotInitialised)), refl, refl);
  static = ([], _, _, (declares Static (Basic (Integer Int true)) (declarator (codes "i") 2 0 [] None) (outs-Basic (Integer Int true)) refl BasicSpecifier (static _ (whole int_type) [] (Some (scalar 4)) refl (FixedSizes NoMemberSizes) refl refl (laid_4 true) refl NotInitialised)), refl, refl);
  hidden = (_, _, (declares Plain (Basic (Integer Int true)) (declarator (codes "n") 1 0 [] None) (outs-Basic (Integer Int true)) refl BasicSpecifier (automatic _ (whole int_type) [] (Some (scalar 4)) refl (AnySizes NoSizes) refl refl (laid_4 true) refl NotInitialised)));
  twice = (_, (refused_in_braces ((statement_at 1 (Declare (declare Plain (Basic (Integer Int true)) ((declarator (codes "i") 2 0 [] None) ∷ [])))) ∷ (statement_at 4 (Declare (declare Plain (Basic (Integer Int true)) ((declarator (codes "i") 5 0 [] None) ∷ [])))) ∷ []) (StatementsRefused _ (followed _ _ _ (outs-Declare _) refl) (declares Plain (Basic (Integer Int true)) (declarator (codes "i") 2 0 [] None) (outs-Basic (Integer Int true)) refl BasicSpecifier (automatic _ (whole int_type) [] (Some (scalar 4)) refl (AnySizes NoSizes) refl refl (laid_4 true) refl NotInitialised)) (StatementRefused (no_value (statement_at 4 (Declare (declare Plain (Basic (Integer Int true)) ((declarator (codes "i") 5 0 [] None) ∷ [])))) (outs-Declare (declare Plain (Basic (Integer Int true)) ((declarator (codes "i") 5 0 [] None) ∷ []))) refl) (refuses Plain (Basic (Integer Int true)) (declarator (codes "i") 5 0 [] None) (outs-Basic (Integer Int true)) refl BasicSpecifier (not_automatic _ (whole int_type) [] (Some (scalar 4)) true refl (AnySizes NoSizes) refl refl (laid_4 true) (alone _)))))));
  inner_block = (_, _, (in_braces ((statement_at 1 (Declare (declare Plain (Basic (Integer Int true)) ((declarator (codes "i") 2 0 [] None) ∷ [])))) ∷ (statement_at 4 (Block ((statement_at 5 (Declare (declare Plain (Basic (Integer Int true)) ((declarator (codes "i") 6 0 [] None) ∷ [])))) ∷ []))) ∷ []) (MoreStatements _ (followed _ _ _ (outs-Block _) refl) (declares Plain (Basic (Integer Int true)) (declarator (codes "i") 2 0 [] None) (outs-Basic (Integer Int true)) refl BasicSpecifier (automatic _ (whole int_type) [] (Some (scalar 4)) refl (AnySizes NoSizes) refl refl (laid_4 true) refl NotInitialised)) (last (no_value (statement_at 4 (Block ((statement_at 5 (Declare (declare Plain (Basic (Integer Int true)) ((declarator (codes "i") 6 0 [] None) ∷ [])))) ∷ []))) (outs-Block ((statement_at 5 (Declare (declare Plain (Basic (Integer Int true)) ((declarator (codes "i") 6 0 [] None) ∷ [])))) ∷ [])) refl) (in_braces ((statement_at 5 (Declare (declare Plain (Basic (Integer Int true)) ((declarator (codes "i") 6 0 [] None) ∷ [])))) ∷ []) (last (no_value (statement_at 5 (Declare (declare Plain (Basic (Integer Int true)) ((declarator (codes "i") 6 0 [] None) ∷ [])))) (outs-Declare (declare Plain (Basic (Integer Int true)) ((declarator (codes "i") 6 0 [] None) ∷ []))) refl) (declares Plain (Basic (Integer Int true)) (declarator (codes "i") 6 0 [] None) (outs-Basic (Integer Int true)) refl BasicSpecifier (automatic _ (whole int_type) [] (Some (scalar 4)) refl (AnySizes NoSizes) refl refl (laid_4 true) refl NotInitialised))))))));
  twice_in_one = (_, (StatementOfParts (outs-Declare (declare Plain (Basic (Integer Int true)) ((declarator (codes "i") 1 0 [] None) ∷ (declarator (codes "i") 3 0 [] None) ∷ []))) refl (StatementPartRefused (DeclarationInside (WordsWithNames {outcome = Refused (fault (token 3) (Rule 2))} (out-roll-Decl _) (outs-Basic (Integer Int true)) refl BasicSpecifier (SomeDeclarators (MoreDeclarators {outcome = Refused (fault (token 3) (Rule 2))} (automatic _ (whole int_type) [] (Some (scalar 4)) refl (AnySizes NoSizes) refl refl (laid_4 true) refl NotInitialised) (DeclaratorRefused (not_automatic _ (whole int_type) [] (Some (scalar 4)) true refl (AnySizes NoSizes) refl refl (laid_4 true) (alone _))))))))));
  typedef_twice = (_, _, (in_braces ((statement_at 1 (Declare (declare Typedef (Basic (Integer Int true)) ((declarator (codes "U") 3 0 [] None) ∷ [])))) ∷ (statement_at 5 (Declare (declare Typedef (Basic (Integer Int true)) ((declarator (codes "U") 7 0 [] None) ∷ [])))) ∷ []) (MoreStatements _ (followed _ _ _ (outs-Declare _) refl) (declares Typedef (Basic (Integer Int true)) (declarator (codes "U") 3 0 [] None) (outs-Basic (Integer Int true)) refl BasicSpecifier (typedef _ (whole int_type) [] (Some (scalar 4)) refl (AnySizes NoSizes) refl (laid_4 true) refl NotInitialised)) (last (no_value (statement_at 5 (Declare (declare Typedef (Basic (Integer Int true)) ((declarator (codes "U") 7 0 [] None) ∷ [])))) (outs-Declare (declare Typedef (Basic (Integer Int true)) ((declarator (codes "U") 7 0 [] None) ∷ []))) refl) (declares Typedef (Basic (Integer Int true)) (declarator (codes "U") 7 0 [] None) (outs-Basic (Integer Int true)) refl BasicSpecifier (typedef _ (whole int_type) [] (Some (scalar 4)) refl (AnySizes NoSizes) refl (laid_4 true) refl NotInitialised))))));
  typedef_of_other_type = (_, (refused_in_braces ((statement_at 1 (Declare (declare Typedef (Basic (Integer Int true)) ((declarator (codes "U") 3 0 [] None) ∷ [])))) ∷ (statement_at 5 (Declare (declare Typedef (Basic (Integer Char true)) ((declarator (codes "U") 7 0 [] None) ∷ [])))) ∷ []) (StatementsRefused _ (followed _ _ _ (outs-Declare _) refl) (declares Typedef (Basic (Integer Int true)) (declarator (codes "U") 3 0 [] None) (outs-Basic (Integer Int true)) refl BasicSpecifier (typedef _ (whole int_type) [] (Some (scalar 4)) refl (AnySizes NoSizes) refl (laid_4 true) refl NotInitialised)) (StatementRefused (no_value (statement_at 5 (Declare (declare Typedef (Basic (Integer Char true)) ((declarator (codes "U") 7 0 [] None) ∷ [])))) (outs-Declare (declare Typedef (Basic (Integer Char true)) ((declarator (codes "U") 7 0 [] None) ∷ []))) refl) (refuses Typedef (Basic (Integer Char true)) (declarator (codes "U") 7 0 [] None) (outs-Basic (Integer Char true)) refl BasicSpecifier (not_typedef _ (whole char_type) [] (Some (scalar 1)) true refl (AnySizes NoSizes) typedefs_differ (laid_1 true) (alone _)))))));
  typedef_and_object = (_, (refused_in_braces ((statement_at 1 (Declare (declare Typedef (Basic (Integer Int true)) ((declarator (codes "U") 3 0 [] None) ∷ [])))) ∷ (statement_at 5 (Declare (declare Plain (Basic (Integer Int true)) ((declarator (codes "U") 6 0 [] None) ∷ [])))) ∷ []) (StatementsRefused _ (followed _ _ _ (outs-Declare _) refl) (declares Typedef (Basic (Integer Int true)) (declarator (codes "U") 3 0 [] None) (outs-Basic (Integer Int true)) refl BasicSpecifier (typedef _ (whole int_type) [] (Some (scalar 4)) refl (AnySizes NoSizes) refl (laid_4 true) refl NotInitialised)) (StatementRefused (no_value (statement_at 5 (Declare (declare Plain (Basic (Integer Int true)) ((declarator (codes "U") 6 0 [] None) ∷ [])))) (outs-Declare (declare Plain (Basic (Integer Int true)) ((declarator (codes "U") 6 0 [] None) ∷ []))) refl) (refuses Plain (Basic (Integer Int true)) (declarator (codes "U") 6 0 [] None) (outs-Basic (Integer Int true)) refl BasicSpecifier (not_automatic _ (whole int_type) [] (Some (scalar 4)) true refl (AnySizes NoSizes) refl refl (laid_4 true) (alone _)))))));
  linked = (_, _, (declares Extern (Basic (Integer Int true)) (declarator (codes "n") 2 0 [] None) (outs-Basic (Integer Int true)) refl BasicSpecifier (linked _ (whole int_type) [] (IntegerKind (integer_of 4 true)) (Some (scalar 4)) refl (FixedSizes NoMemberSizes) refl refl (laid_4 true) k_int refl NotInitialised)));
  linked_of_other_type = (_, (refuses Extern (Basic (Integer Char true)) (declarator (codes "n") 2 0 [] None) (outs-Basic (Integer Char true)) refl BasicSpecifier (not_linked _ (whole char_type) [] (IntegerKind (integer_of 1 true)) (Some (scalar 1)) true refl (FixedSizes NoMemberSizes) int_or_char refl (laid_1 true) k_char (alone _))));
  linked_of_other_kind = (_, (refuses Extern (Basic (Integer Int true)) (declarator (codes "f") 2 0 [] None) (outs-Basic (Integer Int true)) refl BasicSpecifier (not_linked _ (whole int_type) [] (IntegerKind (integer_of 4 true)) (Some (scalar 4)) true refl (FixedSizes NoMemberSizes) refl refl (laid_4 true) k_int (alone _))));
  own_and_linked = (_, (refused_in_braces ((statement_at 1 (Declare (declare Plain (Basic (Integer Int true)) ((declarator (codes "n") 2 0 [] None) ∷ [])))) ∷ (statement_at 4 (Declare (declare Extern (Basic (Integer Int true)) ((declarator (codes "n") 6 0 [] None) ∷ [])))) ∷ []) (StatementsRefused _ (followed _ _ _ (outs-Declare _) refl) (declares Plain (Basic (Integer Int true)) (declarator (codes "n") 2 0 [] None) (outs-Basic (Integer Int true)) refl BasicSpecifier (automatic _ (whole int_type) [] (Some (scalar 4)) refl (AnySizes NoSizes) refl refl (laid_4 true) refl NotInitialised)) (StatementRefused (no_value (statement_at 4 (Declare (declare Extern (Basic (Integer Int true)) ((declarator (codes "n") 6 0 [] None) ∷ [])))) (outs-Declare (declare Extern (Basic (Integer Int true)) ((declarator (codes "n") 6 0 [] None) ∷ []))) refl) (refuses Extern (Basic (Integer Int true)) (declarator (codes "n") 6 0 [] None) (outs-Basic (Integer Int true)) refl BasicSpecifier (not_linked _ (whole int_type) [] (IntegerKind (integer_of 4 true)) (Some (scalar 4)) true refl (FixedSizes NoMemberSizes) refl refl (laid_4 true) k_int (alone _)))))));
  linked_and_own = (_, (refused_in_braces ((statement_at 1 (Declare (declare Extern (Basic (Integer Int true)) ((declarator (codes "n") 3 0 [] None) ∷ [])))) ∷ (statement_at 5 (Declare (declare Plain (Basic (Integer Int true)) ((declarator (codes "n") 6 0 [] None) ∷ [])))) ∷ []) (StatementsRefused _ (followed _ _ _ (outs-Declare _) refl) (declares Extern (Basic (Integer Int true)) (declarator (codes "n") 3 0 [] None) (outs-Basic (Integer Int true)) refl BasicSpecifier (linked _ (whole int_type) [] (IntegerKind (integer_of 4 true)) (Some (scalar 4)) refl (FixedSizes NoMemberSizes) refl refl (laid_4 true) k_int refl NotInitialised)) (StatementRefused (no_value (statement_at 5 (Declare (declare Plain (Basic (Integer Int true)) ((declarator (codes "n") 6 0 [] None) ∷ [])))) (outs-Declare (declare Plain (Basic (Integer Int true)) ((declarator (codes "n") 6 0 [] None) ∷ []))) refl) (refuses Plain (Basic (Integer Int true)) (declarator (codes "n") 6 0 [] None) (outs-Basic (Integer Int true)) refl BasicSpecifier (not_automatic _ (whole int_type) [] (Some (scalar 4)) true refl (AnySizes NoSizes) refl refl (laid_4 true) (alone _)))))));
  linked_twice = (_, _, (in_braces ((statement_at 1 (Declare (declare Extern (Basic (Integer Int true)) ((declarator (codes "n") 3 0 [] None) ∷ [])))) ∷ (statement_at 5 (Declare (declare Extern (Basic (Integer Int true)) ((declarator (codes "n") 7 0 [] None) ∷ [])))) ∷ []) (MoreStatements _ (followed _ _ _ (outs-Declare _) refl) (declares Extern (Basic (Integer Int true)) (declarator (codes "n") 3 0 [] None) (outs-Basic (Integer Int true)) refl BasicSpecifier (linked _ (whole int_type) [] (IntegerKind (integer_of 4 true)) (Some (scalar 4)) refl (FixedSizes NoMemberSizes) refl refl (laid_4 true) k_int refl NotInitialised)) (last (no_value (statement_at 5 (Declare (declare Extern (Basic (Integer Int true)) ((declarator (codes "n") 7 0 [] None) ∷ [])))) (outs-Declare (declare Extern (Basic (Integer Int true)) ((declarator (codes "n") 7 0 [] None) ∷ []))) refl) (declares Extern (Basic (Integer Int true)) (declarator (codes "n") 7 0 [] None) (outs-Basic (Integer Int true)) refl BasicSpecifier (linked _ (whole int_type) [] (IntegerKind (integer_of 4 true)) (Some (scalar 4)) refl (FixedSizes NoMemberSizes) refl refl (laid_4 true) k_int refl NotInitialised))))));
  size_told = (_, _, (declares Extern (Basic (Integer Int true)) (declarator (codes "open") 2 0 (Some (constant (codes "3") 0 4) ∷ []) None) (outs-Basic (Integer Int true)) refl BasicSpecifier (linked _ (whole int_type) (Counted 3 ∷ []) (Array int_type Sized) (Some (repeated 3 (scalar 4))) refl (FixedSizes (MoreMemberSizes (MemberSizeGiven {size = Counted 3} (SizeOfItems {size = Counted 3} (read_in _ (codes "3") (int_of 3) 0 4 m_3) (seen k_int) refl)) NoMemberSizes)) (ap items_in (outs-Array int_type 3)) refl (ints_laid structs 3) (ints_kind 3) refl NotInitialised)));
  size_of_other_items = (_, (refuses Extern (Basic (Integer Char true)) (declarator (codes "open") 2 0 (Some (constant (codes "3") 0 4) ∷ []) None) (outs-Basic (Integer Char true)) refl BasicSpecifier (not_linked _ (whole char_type) (Counted 3 ∷ []) (Array char_type Sized) (Some (repeated 3 (scalar 1))) true refl (FixedSizes (MoreMemberSizes (MemberSizeGiven {size = Counted 3} (SizeOfItems {size = Counted 3} (read_in _ (codes "3") (int_of 3) 0 4 m_3) (seen k_int) refl)) NoMemberSizes)) items_differ refl (laid_chars 3) (k_row 3) (alone _))));
  size_left_out = (_, _, (declares Extern (Basic (Integer Int true)) (declarator (codes "open") 2 0 (None ∷ []) None) (outs-Basic (Integer Int true)) refl BasicSpecifier (linked_items _ (whole int_type) (LeftOut ∷ []) int_type (Some (repeated 1 (scalar 4))) refl (FixedSizes (MoreMemberSizes MemberSizeLeftOut NoMemberSizes)) refl refl (ints_laid structs 1) refl NotInitialised)));
  size_known = (_, _, (declares Extern (Basic (Integer Char true)) (declarator (codes "row") 2 0 (None ∷ []) None) (outs-Basic (Integer Char true)) refl BasicSpecifier (linked_items _ (whole char_type) (LeftOut ∷ []) char_type (Some (repeated 1 (scalar 1))) refl (FixedSizes (MoreMemberSizes MemberSizeLeftOut NoMemberSizes)) (ap items_in (outs-Array char_type 3)) refl (laid_chars 1) refl NotInitialised)));
  linked_of_incomplete = (_, _, (declares Extern (StructWords (Some (identifier (codes "t") 2)) None) (declarator (codes "k") 3 0 [] None) (outs-Struct _ _) refl (StructSpecifier refl) (linked _ (whole (StructType 1)) [] (Struct 1) None refl (FixedSizes NoMemberSizes) refl refl laid_t ((are_kinds structs).struct 1) refl NotInitialised)));
  linked_of_void = (_, (refuses Extern (Basic Void) (declarator (codes "k") 2 0 [] None) (outs-Basic Void) refl BasicSpecifier (not_linked _ (whole VoidType) [] VoidKind None false refl (FixedSizes NoMemberSizes) refl refl laid_void k_void (alone _))));
  incomplete = (_, (refuses Plain (StructWords (Some (identifier (codes "t") 1)) None) (declarator (codes "k") 2 0 [] None) (outs-Struct _ _) refl (StructSpecifier refl) (not_automatic _ (whole (StructType 1)) [] None false refl (AnySizes NoSizes) refl refl laid_t (alone _))));
  no_size = (_, (refuses Plain (Basic (Integer Int true)) (declarator (codes "k") 1 0 (None ∷ []) None) (outs-Basic (Integer Int true)) refl BasicSpecifier (not_left_open _ (whole int_type) (LeftOut ∷ []) int_type (Some (scalar 4)) (Some (repeated 1 (scalar 4))) false refl (AnySizes (SizeLeftOut NoSizes)) refl refl (ints_laid structs 1) (laid_4 true) (alone _))));
  typedef_of_no_size = (_, _, (declares Typedef (Basic (Integer Int true)) (declarator (codes "k") 2 0 (None ∷ []) None) (outs-Basic (Integer Int true)) refl BasicSpecifier (typedef _ (whole int_type) (LeftOut ∷ []) (Some (repeated 1 (scalar 4))) refl (AnySizes (SizeLeftOut NoSizes)) refl (ints_laid structs 1) refl NotInitialised)));
  variable = (_, (refuses Plain (Basic (Integer Int true)) (declarator (codes "k") 1 0 (Some (name (codes "n") 0 3) ∷ []) None) (outs-Basic (Integer Int true)) refl BasicSpecifier (not_automatic _ (whole int_type) (NotConstant ∷ []) (Some (repeated 1 (scalar 4))) false refl (AnySizes (MoreSizes (SizeOfItems {size = NotConstant} (an_int (codes "n") 0 3 refl) (seen k_int) refl) NoSizes)) refl refl (ints_laid structs 1) (alone _))));
  static_variable = (_, (refuses Static (Basic (Integer Int true)) (declarator (codes "k") 2 0 (Some (name (codes "n") 0 4) ∷ []) None) (outs-Basic (Integer Int true)) refl BasicSpecifier (NameWithSizesRefused (out-roll-Declared _) refl (FixedSizes (MemberSizeRefusedHere (MemberSizeGiven {size = NotConstant} (SizeOfItems {size = NotConstant} (an_int (codes "n") 0 4 refl) (seen k_int) refl)))))));
  linked_variable = (_, (refuses Extern (Basic (Integer Int true)) (declarator (codes "k") 2 0 (Some (name (codes "n") 0 4) ∷ []) None) (outs-Basic (Integer Int true)) refl BasicSpecifier (NameWithSizesRefused (out-roll-Declared _) refl (FixedSizes (MemberSizeRefusedHere (MemberSizeGiven {size = NotConstant} (SizeOfItems {size = NotConstant} (an_int (codes "n") 0 4 refl) (seen k_int) refl)))))));
  variable_typedef = (_, (refuses Typedef (Basic (Integer Int true)) (declarator (codes "k") 2 0 (Some (name (codes "n") 0 4) ∷ []) None) (outs-Basic (Integer Int true)) refl BasicSpecifier (not_typedef _ (whole int_type) (NotConstant ∷ []) (Some (repeated 1 (scalar 4))) false refl (AnySizes (MoreSizes (SizeOfItems {size = NotConstant} (an_int (codes "n") 0 4 refl) (seen k_int) refl) NoSizes)) refl (ints_laid structs 1) (alone _))));
  largest = (_, _, (declares Plain (Basic (Integer Char true)) (declarator (codes "k") 1 0 (Some (constant (codes "65536") 0 3) ∷ []) None) (outs-Basic (Integer Char true)) refl BasicSpecifier (automatic _ (whole char_type) (Counted 65536 ∷ []) (Some (repeated 65536 (scalar 1))) refl (AnySizes (MoreSizes (SizeOfItems {size = Counted 65536} (read_in _ (codes "65536") (int_of 65536) 0 3 m_65536) (seen k_int) refl) NoSizes)) refl refl (laid_chars 65536) refl NotInitialised)));
  large = (_, (refuses Plain (Basic (Integer Char true)) (declarator (codes "k") 1 0 (Some (constant (codes "65537") 0 3) ∷ []) None) (outs-Basic (Integer Char true)) refl BasicSpecifier (not_automatic _ (whole char_type) (Counted 65537 ∷ []) (Some (repeated 65537 (scalar 1))) false refl (AnySizes (MoreSizes (SizeOfItems {size = Counted 65537} (read_in _ (codes "65537") (int_of 65537) 0 3 m_65537) (seen k_int) refl) NoSizes)) refl refl (laid_chars 65537) (alone _))));
  empty = (_, (refuses Plain (Basic (Integer Char true)) (declarator (codes "k") 1 0 (Some (constant (codes "0") 0 3) ∷ []) None) (outs-Basic (Integer Char true)) refl BasicSpecifier (NameWithSizesRefused (out-roll-Declared _) refl (AnySizes (SizesRefusedHere (SizeUnderOne (read_in _ (codes "0") (int_of 0) 0 3 m_0) (seen k_int) refl))))));
  size_first = (_, (refuses Plain (Basic (Integer Int true)) (declarator (codes "k") 1 0 (Some (name (codes "y") 0 3) ∷ []) None) (outs-Basic (Integer Int true)) refl BasicSpecifier (NameWithSizesRefused (out-roll-Declared _) refl (AnySizes (SizesRefusedHere (SizeRefused (none_of (codes "y") 0 3 refl)))))));
  size_before_name = (_, (refused_in_braces ((statement_at 1 (Declare (declare Plain (Basic (Integer Int true)) ((declarator (codes "i") 2 0 [] None) ∷ [])))) ∷ (statement_at 4 (Declare (declare Plain (Basic (Integer Int true)) ((declarator (codes "i") 5 0 (Some (name (codes "y") 0 7) ∷ []) None) ∷ [])))) ∷ []) (StatementsRefused _ (followed _ _ _ (outs-Declare _) refl) (declares Plain (Basic (Integer Int true)) (declarator (codes "i") 2 0 [] None) (outs-Basic (Integer Int true)) refl BasicSpecifier (automatic _ (whole int_type) [] (Some (scalar 4)) refl (AnySizes NoSizes) refl refl (laid_4 true) refl NotInitialised)) (StatementRefused (no_value (statement_at 4 (Declare (declare Plain (Basic (Integer Int true)) ((declarator (codes "i") 5 0 (Some (name (codes "y") 0 7) ∷ []) None) ∷ [])))) (outs-Declare (declare Plain (Basic (Integer Int true)) ((declarator (codes "i") 5 0 (Some (name (codes "y") 0 7) ∷ []) None) ∷ []))) refl) (refuses Plain (Basic (Integer Int true)) (declarator (codes "i") 5 0 (Some (name (codes "y") 0 7) ∷ []) None) (outs-Basic (Integer Int true)) refl BasicSpecifier (NameWithSizesRefused (out-roll-Declared _) refl (AnySizes (SizesRefusedHere (SizeRefused (none_of (codes "y") 0 7 refl))))))))));
  construct_before_rule = (_, (refused_in_braces ((statement_at 1 (Declare (declare Plain (Basic (Integer Int true)) ((declarator (codes "i") 2 0 [] None) ∷ [])))) ∷ (statement_at 4 (Declare (declare Plain (Basic (Integer Int true)) ((declarator (codes "i") 5 0 (Some (name (codes "n") 0 7) ∷ []) None) ∷ [])))) ∷ []) (StatementsRefused _ (followed _ _ _ (outs-Declare _) refl) (declares Plain (Basic (Integer Int true)) (declarator (codes "i") 2 0 [] None) (outs-Basic (Integer Int true)) refl BasicSpecifier (automatic _ (whole int_type) [] (Some (scalar 4)) refl (AnySizes NoSizes) refl refl (laid_4 true) refl NotInitialised)) (StatementRefused (no_value (statement_at 4 (Declare (declare Plain (Basic (Integer Int true)) ((declarator (codes "i") 5 0 (Some (name (codes "n") 0 7) ∷ []) None) ∷ [])))) (outs-Declare (declare Plain (Basic (Integer Int true)) ((declarator (codes "i") 5 0 (Some (name (codes "n") 0 7) ∷ []) None) ∷ []))) refl) (refuses Plain (Basic (Integer Int true)) (declarator (codes "i") 5 0 (Some (name (codes "n") 0 7) ∷ []) None) (outs-Basic (Integer Int true)) refl BasicSpecifier (not_automatic _ (whole int_type) (NotConstant ∷ []) (Some (repeated 1 (scalar 4))) true refl (AnySizes (MoreSizes (SizeOfItems {size = NotConstant} (an_int (codes "n") 0 7 refl) (seen k_int) refl) NoSizes)) refl refl (ints_laid structs 1) (record { front = []; back = fault (token 5) (Rule 2) ∷ []; whole = refl; later = tt; behind = (tt, tt) })))))));
  variable_typeof = (_, (refuses Plain (OfType (type_name (Basic (Integer Int true)) 0 (Some (name (codes "n") 0 4) ∷ []))) (declarator (codes "k") 7 0 [] None) (outs-OfType _) refl (TypeofType (TypeNamed (out-roll-TypeName _) (outs-Basic (Integer Int true)) BasicSpecifier (MoreSizes (SizeOfItems {size = NotConstant} (an_int (codes "n") 0 4 refl) (seen k_int) refl) NoSizes) (ap is_over (ints_laid structs 1)))) (not_automatic _ (record { ctype = ArrayType int_type 1; found = Some (Construct 18) }) [] (Some (repeated 1 (scalar 4))) false refl (AnySizes NoSizes) refl refl (ints_laid structs 1) (alone _))));
  nothing_declared = (_, (StatementOfParts (outs-Declare (declare Plain (OfType (type_name (Basic (Integer Int true)) 0 (Some (name (codes "n") 0 4) ∷ []))) [])) refl (StatementPartRefused (DeclarationInside (WordsWithNames {outcome = Refused (fault (token 0) (Construct 18))} (out-roll-Decl _) (outs-OfType _) refl (TypeofType (TypeNamed (out-roll-TypeName _) (outs-Basic (Integer Int true)) BasicSpecifier (MoreSizes (SizeOfItems {size = NotConstant} (an_int (codes "n") 0 4 refl) (seen k_int) refl) NoSizes) (ap is_over (ints_laid structs 1)))) (NoDeclarators {base = (record { ctype = ArrayType int_type 1; found = Some (Construct 18) })} (alone _)))))));
  tag_alone = (_, (refused_in_braces ((statement_at 1 (Declare (declare Plain (StructWords (Some (identifier (codes "s") 2)) None) []))) ∷ (statement_at 4 (Declare (declare Plain (StructWords (Some (identifier (codes "s") 5)) None) ((declarator (codes "k") 6 0 [] None) ∷ [])))) ∷ []) (StatementsRefused _ (followed _ _ _ (outs-Declare _) refl) (StatementOfParts (outs-Declare (declare Plain (StructWords (Some (identifier (codes "s") 2)) None) [])) refl (one_part (DeclarationInside (TagAlone {parts = record { storage = Plain; spec = (StructWords (Some (identifier (codes "s") 2)) None); names = [] }} {name = identifier (codes "s") 2} (out-roll-Decl _) (outs-Struct (Some (identifier (codes "s") 2)) None) refl refl)))) (StatementRefused (no_value (statement_at 4 (Declare (declare Plain (StructWords (Some (identifier (codes "s") 5)) None) ((declarator (codes "k") 6 0 [] None) ∷ [])))) (outs-Declare (declare Plain (StructWords (Some (identifier (codes "s") 5)) None) ((declarator (codes "k") 6 0 [] None) ∷ []))) refl) (refuses Plain (StructWords (Some (identifier (codes "s") 5)) None) (declarator (codes "k") 6 0 [] None) (outs-Struct _ _) refl (StructSpecifier refl) (not_automatic _ (whole (StructType 3)) [] None false refl (AnySizes NoSizes) refl refl new_laid (alone _)))))));
  tag_of_other_kind = (_, (refused_in_braces ((statement_at 1 (Declare (declare Plain (EnumWords (Some (identifier (codes "e") 2)) None) []))) ∷ (statement_at 4 (Declare (declare Plain (StructWords (Some (identifier (codes "e") 5)) None) []))) ∷ []) (StatementsRefused _ (followed _ _ _ (outs-Declare _) refl) (StatementOfParts (outs-Declare (declare Plain (EnumWords (Some (identifier (codes "e") 2)) None) [])) refl (one_part (DeclarationInside (WordsWithNames {outcome = Passes tt []} (out-roll-Decl _) (outs-Enum _ _) refl (EnumDeclared refl) (NoDeclarators (refl, refl, refl)))))) (StatementRefused (no_value (statement_at 4 (Declare (declare Plain (StructWords (Some (identifier (codes "e") 5)) None) []))) (outs-Declare (declare Plain (StructWords (Some (identifier (codes "e") 5)) None) [])) refl) (StatementOfParts (outs-Declare (declare Plain (StructWords (Some (identifier (codes "e") 5)) None) [])) refl (StatementPartRefused {parts = []} (DeclarationInside (TagAloneOfOther {parts = record { storage = Plain; spec = (StructWords (Some (identifier (codes "e") 5)) None); names = [] }} {name = identifier (codes "e") 5} {first = fault (token 5) (Rule 2)} (out-roll-Decl _) (outs-Struct (Some (identifier (codes "e") 5)) None) refl refl))))))));
  function = (_, _, (declares Plain (Basic (Integer Int true)) (function_declarator (codes "f") 1 ((parameter_of (Basic (Integer Int true)) 0 None []) ∷ (parameter_of (Basic (Integer Char true)) 1 None []) ∷ [])) (outs-Basic (Integer Int true)) refl BasicSpecifier (function_passes _ (whole int_type) (IntegerKind (integer_of 4 true)) refl (more_parameters (one_parameter _ (whole int_type) [] (IntegerKind (integer_of 4 true)) (Some (scalar 4)) (outs-Basic (Integer Int true)) BasicSpecifier NoSizes k_int (laid_4 true)) (more_parameters (one_parameter _ (whole char_type) [] (Pointer char_type Sized) (Some (scalar 8)) (outs-Basic (Integer Char true)) BasicSpecifier NoSizes k_chars (laid_pointer _)) NoParameters)) refl k_int refl)));
  function_by_extern = (_, _, (declares Extern (Basic (Integer Int true)) (function_declarator (codes "f") 2 ((parameter_of (Basic (Integer Int true)) 0 None []) ∷ (parameter_of (Basic (Integer Char true)) 1 None []) ∷ [])) (outs-Basic (Integer Int true)) refl BasicSpecifier (function_passes _ (whole int_type) (IntegerKind (integer_of 4 true)) refl (more_parameters (one_parameter _ (whole int_type) [] (IntegerKind (integer_of 4 true)) (Some (scalar 4)) (outs-Basic (Integer Int true)) BasicSpecifier NoSizes k_int (laid_4 true)) (more_parameters (one_parameter _ (whole char_type) [] (Pointer char_type Sized) (Some (scalar 8)) (outs-Basic (Integer Char true)) BasicSpecifier NoSizes k_chars (laid_pointer _)) NoParameters)) refl k_int refl)));
  function_of_other_type = (_, (refuses Plain (Basic (Integer Int true)) (function_declarator (codes "f") 1 ((parameter_of (Basic (Integer Int true)) 0 None []) ∷ [])) (outs-Basic (Integer Int true)) refl BasicSpecifier (function_refused _ (whole int_type) (IntegerKind (integer_of 4 true)) true refl (more_parameters (one_parameter _ (whole int_type) [] (IntegerKind (integer_of 4 true)) (Some (scalar 4)) (outs-Basic (Integer Int true)) BasicSpecifier NoSizes k_int (laid_4 true)) NoParameters) params_differ k_int (alone _))));
  function_of_other_kind = (_, (refuses Plain (Basic (Integer Int true)) (function_declarator (codes "n") 1 ((parameter_of (Basic (Integer Int true)) 0 None []) ∷ [])) (outs-Basic (Integer Int true)) refl BasicSpecifier (function_refused _ (whole int_type) (IntegerKind (integer_of 4 true)) true refl (more_parameters (one_parameter _ (whole int_type) [] (IntegerKind (integer_of 4 true)) (Some (scalar 4)) (outs-Basic (Integer Int true)) BasicSpecifier NoSizes k_int (laid_4 true)) NoParameters) refl k_int (alone _))));
  built_in = (_, _, (declares Plain (Basic Void) (function_declarator (codes "free") 1 ((parameter_of (Basic Void) 1 None []) ∷ [])) (outs-Basic Void) refl BasicSpecifier (function_passes _ (whole VoidType) VoidKind refl (more_parameters (one_parameter _ (whole VoidType) [] (Pointer VoidType VoidTarget) (Some (scalar 8)) (outs-Basic Void) BasicSpecifier NoSizes k_p (laid_pointer _)) NoParameters) refl k_void refl)));
  built_in_otherwise = (_, (refuses Plain (Basic (Integer Int true)) (function_declarator (codes "free") 1 ((parameter_of (Basic (Integer Int true)) 0 None []) ∷ [])) (outs-Basic (Integer Int true)) refl BasicSpecifier (function_refused _ (whole int_type) (IntegerKind (integer_of 4 true)) true refl (more_parameters (one_parameter _ (whole int_type) [] (IntegerKind (integer_of 4 true)) (Some (scalar 4)) (outs-Basic (Integer Int true)) BasicSpecifier NoSizes k_int (laid_4 true)) NoParameters) results_differ k_int (alone _))));
  typedef_of_function = (_, (refuses Typedef (Basic (Integer Int true)) (function_declarator (codes "k") 2 ((parameter_of (Basic (Integer Int true)) 0 None []) ∷ [])) (outs-Basic (Integer Int true)) refl BasicSpecifier (function_refused _ (whole int_type) (IntegerKind (integer_of 4 true)) false refl (more_parameters (one_parameter _ (whole int_type) [] (IntegerKind (integer_of 4 true)) (Some (scalar 4)) (outs-Basic (Integer Int true)) BasicSpecifier NoSizes k_int (laid_4 true)) NoParameters) refl k_int (alone _))));
  parameters_of_one_name = (_, (refuses Plain (Basic (Integer Int true)) (function_declarator (codes "k") 1 ((parameter_of (Basic (Integer Int true)) 0 (Some (identifier (codes "a") 4)) []) ∷ (parameter_of (Basic (Integer Int true)) 0 (Some (identifier (codes "a") 7)) []) ∷ [])) (outs-Basic (Integer Int true)) refl BasicSpecifier (function_refused _ (whole int_type) (IntegerKind (integer_of 4 true)) false refl (more_parameters (one_parameter _ (whole int_type) [] (IntegerKind (integer_of 4 true)) (Some (scalar 4)) (outs-Basic (Integer Int true)) BasicSpecifier NoSizes k_int (laid_4 true)) (more_parameters (one_parameter _ (whole int_type) [] (IntegerKind (integer_of 4 true)) (Some (scalar 4)) (outs-Basic (Integer Int true)) BasicSpecifier NoSizes k_int (laid_4 true)) NoParameters)) refl k_int (alone _))));
  void_parameter = (_, (refuses Plain (Basic (Integer Int true)) (function_declarator (codes "k") 1 ((parameter_of (Basic Void) 0 (Some (identifier (codes "a") 4)) []) ∷ [])) (outs-Basic (Integer Int true)) refl BasicSpecifier (function_refused _ (whole int_type) (IntegerKind (integer_of 4 true)) false refl (more_parameters (one_parameter _ (whole VoidType) [] VoidKind None (outs-Basic Void) BasicSpecifier NoSizes k_void laid_void) NoParameters) refl k_int (alone _))));
  unnamed_void_parameter = (_, (refuses Plain (Basic (Integer Int true)) (function_declarator (codes "k") 1 ((parameter_of (Basic Void) 0 None []) ∷ (parameter_of (Basic (Integer Int true)) 0 None []) ∷ [])) (outs-Basic (Integer Int true)) refl BasicSpecifier (function_refused _ (whole int_type) (IntegerKind (integer_of 4 true)) false refl (more_parameters (one_parameter _ (whole VoidType) [] VoidKind None (outs-Basic Void) BasicSpecifier NoSizes k_void laid_void) (more_parameters (one_parameter _ (whole int_type) [] (IntegerKind (integer_of 4 true)) (Some (scalar 4)) (outs-Basic (Integer Int true)) BasicSpecifier NoSizes k_int (laid_4 true)) NoParameters)) refl k_int (alone _))));
  variable_parameter = (_, (refuses Plain (Basic (Integer Int true)) (function_declarator (codes "k") 1 ((parameter_of (Basic (Integer Int true)) 0 (Some (identifier (codes "a") 4)) (Some (name (codes "n") 0 6) ∷ [])) ∷ [])) (outs-Basic (Integer Int true)) refl BasicSpecifier (function_refused _ (whole int_type) (IntegerKind (integer_of 4 true)) false refl (more_parameters (one_parameter _ (whole int_type) (NotConstant ∷ []) (Array int_type Sized) (Some (scalar 4)) (outs-Basic (Integer Int true)) BasicSpecifier (MoreSizes (SizeOfItems {size = NotConstant} (an_int (codes "n") 0 6 refl) (seen k_int) refl) NoSizes) (ints_kind 1) (laid_4 true)) NoParameters) refl k_int (alone _))));
  outermost_size = (_, _, (declares Plain (Basic (Integer Int true)) (function_declarator (codes "k") 1 ((parameter_of (Basic (Integer Char true)) 0 (Some (identifier (codes "a") 4)) (Some (constant (codes "70000") 0 6) ∷ [])) ∷ [])) (outs-Basic (Integer Int true)) refl BasicSpecifier (function_passes _ (whole int_type) (IntegerKind (integer_of 4 true)) refl (more_parameters (one_parameter _ (whole char_type) (Counted 70000 ∷ []) (Array char_type Sized) (Some (scalar 1)) (outs-Basic (Integer Char true)) BasicSpecifier (MoreSizes (SizeOfItems {size = Counted 70000} (read_in _ (codes "70000") (int_of 70000) 0 6 m_70000) (seen k_int) refl) NoSizes) (k_row 70000) (laid_1 true)) NoParameters) refl k_int refl)));
  inner_size = (_, (refuses Plain (Basic (Integer Int true)) (function_declarator (codes "k") 1 ((parameter_of (Basic (Integer Char true)) 0 (Some (identifier (codes "a") 4)) (Some (constant (codes "2") 0 6) ∷ Some (constant (codes "70000") 1 9) ∷ [])) ∷ [])) (outs-Basic (Integer Int true)) refl BasicSpecifier (function_refused _ (whole int_type) (IntegerKind (integer_of 4 true)) false refl (more_parameters (one_parameter _ (whole char_type) (Counted 2 ∷ Counted 70000 ∷ []) (Array (ArrayType char_type 70000) (target_of structs (ArrayType char_type 70000))) (Some (repeated 70000 (scalar 1))) (outs-Basic (Integer Char true)) BasicSpecifier (MoreSizes (SizeOfItems {size = Counted 2} (read_in _ (codes "2") (int_of 2) 0 6 m_2) (seen k_int) refl) (MoreSizes (SizeOfItems {size = Counted 70000} (read_in _ (codes "70000") (int_of 70000) 1 9 m_70000) (seen k_int) refl) NoSizes)) ((are_kinds structs).array (ArrayType char_type 70000) 2) (laid_chars 70000)) NoParameters) refl k_int (alone _))));
  size_of_parameter_first = (_, (refuses Plain (Basic (Integer Int true)) (function_declarator (codes "f") 1 ((parameter_of (Basic (Integer Int true)) 0 (Some (identifier (codes "a") 4)) (Some (name (codes "y") 0 6) ∷ [])) ∷ [])) (outs-Basic (Integer Int true)) refl BasicSpecifier (ParametersRefused (out-roll-Declared _) refl (ParameterRefused (ParameterSizesRefused (out-roll-Param _) (outs-Basic (Integer Int true)) BasicSpecifier (SizesRefusedHere (SizeRefused (none_of (codes "y") 0 6 refl))))))));
  parameter_in_scope = (_, (refuses Plain (Basic (Integer Int true)) (function_declarator (codes "k") 1 ((parameter_of (Basic (Integer Int true)) 0 (Some (identifier (codes "a") 4)) []) ∷ (parameter_of (Basic (Integer Int true)) 0 (Some (identifier (codes "b") 7)) (Some (name (codes "a") 0 9) ∷ [])) ∷ [])) (outs-Basic (Integer Int true)) refl BasicSpecifier (function_refused _ (whole int_type) (IntegerKind (integer_of 4 true)) false refl (more_parameters (one_parameter _ (whole int_type) [] (IntegerKind (integer_of 4 true)) (Some (scalar 4)) (outs-Basic (Integer Int true)) BasicSpecifier NoSizes k_int (laid_4 true)) (more_parameters (one_parameter _ (whole int_type) (NotConstant ∷ []) (Array int_type Sized) (Some (scalar 4)) (outs-Basic (Integer Int true)) BasicSpecifier (MoreSizes (SizeOfItems {size = NotConstant} (loaded_in _ (codes "a") (record (object int_type) { token = 4; fixed = false }) 0 9 refl (ap is_some (laid_4 true)) refl refl) (seen k_int) refl) NoSizes) (ints_kind 1) (laid_4 true)) NoParameters)) refl k_int (alone _))));
  struct_as_parameter = (_, _, (declares Plain (Basic (Integer Int true)) (function_declarator (codes "k") 1 ((parameter_of (StructWords (Some (identifier (codes "s") 4)) None) 0 None []) ∷ [])) (outs-Basic (Integer Int true)) refl BasicSpecifier (function_passes _ (whole int_type) (IntegerKind (integer_of 4 true)) refl (more_parameters (one_parameter _ (whole (StructType 0)) [] (Struct 0) (Some (record { size = 16; alignment = 8 })) (outs-Struct _ _) (StructSpecifier refl) NoSizes k_s laid_s) NoParameters) refl k_int refl)));
  array_as_result = (_, (refuses Plain (OfExpr (name (codes "row") 0 2)) (function_declarator (codes "k") 4 []) (outs-OfExpr _) refl (TypeofExpression (UnloadedOperand (object_in _ (codes "row") (object (ArrayType char_type 3)) 0 2 refl (ap is_some (laid_chars 3)) refl refl))) (function_refused _ (whole (ArrayType char_type 3)) (Array char_type Sized) false refl NoParameters refl (k_row 3) (alone _))));
  field_of_bits = (_, (StatementOfParts (outs-Declare (declare Plain (StructWords None (Some (declaration (Basic (Integer Int true)) (field_of_bits (codes "a") 3 (constant (codes "3") 0 5) ∷ []) ∷ []))) ((declarator (codes "k") 8 0 [] None) ∷ []))) refl (StatementPartRefused (DeclarationInside (DeclaredWordsRefused (out-roll-Decl _) (outs-Struct _ _) refl (MembersRefused refl (DeclarationRefused (MembersDeclared {outcome = Refused (fault (token 3) (Construct 21))} (out-roll-FieldDecl _) (outs-Basic (Integer Int true)) BasicSpecifier (NameRefused (MemberFound {named = whole int_type} (out-roll-FieldName _) NoMemberSizes (WidthGiven {found = Passes _ _} (read_in _ (codes "3") (int_of 3) 0 5 m_3)) (ap (λ (o : Option Layout). declared (whole int_type) 0 [] (is_over o)) (int_laid unnamed)) (ap (λ (o : Option Layout). member_faults (token 3) None true (is_over (fields_layout no_fields (o ∷ []))) false (is_some o)) (int_laid unnamed)) (alone _)))))))))));
  size_kept = (_, _, (in_braces ((statement_at 1 (Declare (declare Extern (Basic (Integer Char true)) ((declarator (codes "row") 3 0 (None ∷ []) None) ∷ [])))) ∷ (statement_at 7 (Eval (Some (name (codes "row") 0 7)))) ∷ []) (MoreStatements _ (followed _ _ _ (outs-Eval (Some _)) refl) (declares Extern (Basic (Integer Char true)) (declarator (codes "row") 3 0 (None ∷ []) None) (outs-Basic (Integer Char true)) refl BasicSpecifier (linked_items _ (whole char_type) (LeftOut ∷ []) char_type (Some (repeated 1 (scalar 1))) refl (FixedSizes (MoreMemberSizes MemberSizeLeftOut NoMemberSizes)) (ap items_in (outs-Array char_type 3)) refl (laid_chars 1) refl NotInitialised)) (LastExpression (ap value_in (outs-Eval (Some (name (codes "row") 0 7)))) refl (loaded_in _ (codes "row") (object (ArrayType char_type 3)) 0 7 refl (ap is_some (laid_chars 3)) refl refl) (seen (k_row 3)) refl))));
  size_told_before = (_, _, (in_braces ((statement_at 1 (Declare (declare Extern (Basic (Integer Int true)) ((declarator (codes "open") 3 0 (Some (constant (codes "3") 0 5) ∷ []) None) ∷ [])))) ∷ (statement_at 8 (Eval (Some (name (codes "open") 1 8)))) ∷ []) (MoreStatements _ (followed _ _ _ (outs-Eval (Some _)) refl) (declares Extern (Basic (Integer Int true)) (declarator (codes "open") 3 0 (Some (constant (codes "3") 0 5) ∷ []) None) (outs-Basic (Integer Int true)) refl BasicSpecifier (linked _ (whole int_type) (Counted 3 ∷ []) (Array int_type Sized) (Some (repeated 3 (scalar 4))) refl (FixedSizes (MoreMemberSizes (MemberSizeGiven {size = Counted 3} (SizeOfItems {size = Counted 3} (read_in _ (codes "3") (int_of 3) 0 5 m_3) (seen k_int) refl)) NoMemberSizes)) (ap items_in (outs-Array int_type 3)) refl (ints_laid structs 3) (ints_kind 3) refl NotInitialised)) (LastExpression (ap value_in (outs-Eval (Some (name (codes "open") 1 8)))) refl (loaded_in _ (codes "open") (object (ArrayType int_type 3)) 1 8 refl (ap is_some (ints_laid structs 3)) refl refl) (seen (ints_kind 3)) refl))));
  array_as_pointer = (_, _, (declares Plain (Basic (Integer Int true)) (function_declarator (codes "f") 1 ((parameter_of (Basic (Integer Int true)) 0 None []) ∷ (parameter_of (Basic (Integer Char true)) 0 (Some (identifier (codes "a") 6)) (Some (constant (codes "3") 0 8) ∷ [])) ∷ [])) (outs-Basic (Integer Int true)) refl BasicSpecifier (function_passes _ (whole int_type) (IntegerKind (integer_of 4 true)) refl (more_parameters (one_parameter _ (whole int_type) [] (IntegerKind (integer_of 4 true)) (Some (scalar 4)) (outs-Basic (Integer Int true)) BasicSpecifier NoSizes k_int (laid_4 true)) (more_parameters (one_parameter _ (whole char_type) (Counted 3 ∷ []) (Array char_type Sized) (Some (scalar 1)) (outs-Basic (Integer Char true)) BasicSpecifier (MoreSizes (SizeOfItems {size = Counted 3} (read_in _ (codes "3") (int_of 3) 0 8 m_3) (seen k_int) refl) NoSizes) (k_row 3) (laid_1 true)) NoParameters)) refl k_int refl)));
}
