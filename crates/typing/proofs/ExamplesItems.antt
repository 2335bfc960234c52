-- Items of the examples.
use Rattle.std.proofs.Common.{◌≡◌, ℕ, true, false, List, [], ◌∷◌, ◌++◌, Option, Some, None, refl, sym, ap, ◌∙◌}
use Rattle.std.specs.Prelude.{not, codes, is_some, nat_eq, ◌&&◌, ◌||◌}
use Rattle.std.specs.Option.{option_map_or}
use Rattle.cbase.specs.declared.abi.Abi.TheVariants.{Lp64}
use Rattle.cbase.specs.declared.ctype.CType.{CType}
use Rattle.cbase.specs.declared.ctype.CType.TheVariants.{Void as VoidType, Pointer as PointerType, Struct as StructType, Array as ArrayType}
use Rattle.cbase.specs.declared.ctype.CType.TheOpen.{CType-F, Void as VoidOpen, Int as IntOpen, Pointer as PointerOpen, Struct as StructOpen, Array as ArrayOpen}
use Rattle.cbase.specs.declared.ctype.CType.TheViews.{out-CType, outs-Void, outs-Int, outs-Pointer, outs-Struct as outs-StructType, outs-Array}
use Rattle.cbase.specs.declared.layout.Layout.{Layout}
use Rattle.cbase.specs.declared.structs.StructDef.{StructDef}
use Rattle.cbase.specs.declared.tree.decl.Storage.TheVariants.{Plain, Typedef, Extern, Static}
use Rattle.cbase.specs.declared.tree.expr.ExprForm.TheVariants.{Unary, SizeOf, SizeOfType, Call, Inner}
use Rattle.cbase.specs.declared.tree.expr.ExprForm.TheViews.{outs-Name, outs-Unary, outs-SizeOf, outs-SizeOfType, outs-Call, outs-Inner, outs-Enum, outs-OfExpr, outs-OfType, out-roll-TypeName, out-roll-InitPart, out-roll-Decl, out-roll-Param, out-roll-Enumerator, outs-Basic, outs-Struct, outs-Value, outs-Braces, outs-Break, outs-Declare, outs-Eval, outs-Return, out-roll-Declared}
use Rattle.cbase.specs.declared.tree.init.Init.TheVariants.{Braces}
use Rattle.cbase.specs.declared.tree.item.Item.TheVariants.{Declare as DeclareItem, Function}
use Rattle.cbase.specs.declared.tree.operators.UnaryOp.TheVariants.{Address}
use Rattle.cbase.specs.declared.tree.spec.BasicType.TheVariants.{Void, Integer}
use Rattle.cbase.specs.declared.tree.spec.Rank.TheVariants.{Char, Int}
use Rattle.cbase.specs.declared.tree.spec.TypeSpec.TheVariants.{Basic, Struct as StructWords, Enum as EnumWords, OfExpr}
use Rattle.cbase.specs.declared.tree.stmt.StmtForm.TheVariants.{Block, Break, Declare, Eval, Return}
use Rattle.cbase.specs.Completing.{fieldless}
use Rattle.cbase.specs.Layout.{scalar, repeated, extent_of}
use Rattle.typing.specs.declared.constants.meaning.Meaning.TheVariants.{Known as Meant}
use Rattle.typing.specs.constants.Deciding.{letter, integer, meaning_of}
use Rattle.typing.specs.declared.ctypes.found.Broken.TheVariants.{Construct, Rule}
use Rattle.typing.specs.declared.ctypes.kind.Target.TheVariants.{Sized, Void as VoidTarget}
use Rattle.typing.specs.ctypes.Binary.{int_type}
use Rattle.typing.specs.ctypes.Integers.{integer as integer_of}
use Rattle.typing.specs.ctypes.Kinds.{Kind, Integer as IntegerKind, Pointer, Array, Struct, Void as VoidKind, kind_of, target_in, target_of}
use Rattle.typing.proofs.ctypes.ShapeKinds.{are_kinds}
use Rattle.typing.specs.declared.size.Size.TheVariants.{Counted, NotConstant, LeftOut}
use Rattle.typing.specs.Calls.{is_struct}
use Rattle.typing.specs.Declarations.{items_in}
use Rattle.typing.specs.Entities.{ObjectEntity, WholeType, ItemsOf}
use Rattle.typing.specs.ExamplesOfItems.{AreItems, AreFunctions}
use Rattle.typing.specs.Faults.{fault, unless}
use Rattle.typing.specs.Forms.{name_in, value_in}
use Rattle.typing.specs.Initialisers.{Items, AsValue, Ends, IsConstant, filled_of, EndsThere, filled_in, leads, is_array_type}
use Rattle.typing.specs.Items.{ItemRefused, EmptyItem, NamelessItem, ItemWithNames, ItemWordsRefused, FunctionWordsRefused, NoMoreFileNames, MoreFileNames, FileNameRefused, FileTypedef, FileSizesRefused, FileNotInitialised, FileInitialised, FileArrayInitialised, FileArrayOfWrongSize, FileArrayPartsRefused, FileArrayByValue, HeadRefused}
use Rattle.typing.specs.Known.{behind}
use Rattle.typing.specs.NamedTypes.{whole, is_over}
use Rattle.typing.specs.Nodes.{object_type, object_known}
use Rattle.typing.specs.Outcomes.{Passes, Refused}
use Rattle.typing.specs.Rules.{UndeclaredName, ObjectName, EnumeratorName, AddressOf, SizeOfExpression, SizeOfTypeName, CallOfFunction, NoArguments, StatementExpression}
use Rattle.typing.specs.Sample.{object, own_object, enumerator, type_name, char_type, token, node, name, constant, identifier, statement_at, declare, declarator, function_declarator, parameter_of, value_of, part}
use Rattle.typing.specs.Statements.{is_void}
use Rattle.typing.specs.Typing.{RefusedInside, Walked, RefusedHere, UnloadedRefused, TypeInside, TypeNamed, CalledFunction, BlockInside, BlockRefused, LastExpression, EnumWithConstants, MoreEnumerators, NextValue, NoEnumerators, TypeofRefused, TypeofExpression, TypeofType, TagAlone, WordsWithNames, NoDeclarators, FixedSizes, ParameterRefused, ParameterSizesRefused, SizesRefusedHere, SizeRefused, PartRefused, ValueTaken, NoPieces, NoStatements, MorePieces, LoadedValue, LoadedRefused, UnloadedOperand, MoreStatements, StatementRefused, StatementOfParts, StatementPartRefused, NoLoopToLeave, ValueReturned, ValueRefused, BasicSpecifier, StructSpecifier, StructDeclared, NoSizes, MoreSizes, SizeOfItems, AnySizes, NoMemberSizes, MoreMemberSizes, MemberSizeRefusedHere, MemberSizeLeftOut, MemberSizeGiven, NoParameters, NotInitialised, TypeInitialised, BracesFill, NoMoreParts, SurplusValue, StatementsRefused}
use Rattle.typing.proofs.SampleFacts.{structs, alone, seen, k_int, k_char, k_void, k_p, k_q, k_chars, k_size, k_row, laid_4, laid_1, laid_void, laid_s, laid_t, laid_chars, laid_pointer, pointer_laid, int_of, read_in, loaded_in, object_in, m_0, m_1, m_2, m_3}
use Rattle.typing.proofs.StatementFacts.{ints_laid, evaluated, not_evaluated, dropped, an_int, none_of, one_part, in_braces, last, followed, no_value, returned, not_returned}
use Rattle.typing.proofs.DeclarationFacts.{declares, linked, refuses, automatic, not_automatic, typedef, not_typedef, typedef_refused, one_parameter, more_parameters, int_or_char}
use Rattle.typing.proofs.InitialiserFacts.{fixed_well, fixed_not, for_nothing, by_value, not_by_value, set_part, of_ints, of_value, of_address, of_name}
use Rattle.typing.proofs.ItemFacts.{one_item, more_items, refused_behind, names_one, names_badly, file_object, file_object_refused, file_object_broken, one_named, two_named, file_head, file_head_broken, file_function, file_function_refused, defines, body_refused, head_refused}

m_65536 : meaning_of Lp64 (codes "65536") ≡ Meant (int_of 65536)
unfolding letter integer
m_65536 = refl

m_65537 : meaning_of Lp64 (codes "65537") ≡ Meant (int_of 65537)
unfolding letter integer
m_65537 = refl

-- the name of an object as a constant
name_leads : (entity : ObjectEntity) (bytes : List ℕ) (at : ℕ) {shape : CType-F _} → out-CType (object_type entity.ctype) ≡ shape
    → IsConstant (behind [] 0 (object_known entity)) AsValue (name bytes 0 at) (entity.fixed && is_array_type shape)
name_leads entity bytes at e =
    EndsThere (ap (leads (behind [] 0 (object_known entity)) AsValue 0) (outs-Name bytes) ∙ ap (λ (t : CType-F _). Ends (entity.fixed && is_array_type t)) e)

-- what the braces of an array of chars fill
chars_filled : (count : ℕ) → filled_of Lp64 structs (record { ctype = ArrayType char_type count; offset = 0; braces = true }) ≡ Some (Items 0 char_type count 1)
chars_filled count =
    ap (filled_in Lp64 structs (record { ctype = ArrayType char_type count; offset = 0; braces = true })) (outs-Array char_type count)
    ∙ ap (λ (o : Option Layout). Some (Items 0 char_type count (option_map_or (λ (layout : Layout). layout.size) o 0))) (laid_1 true)

-- types that differ
void_or_int : VoidType ≡ int_type → ⊥
void_or_int e = let both : VoidOpen ≡ IntOpen 4 true = sym outs-Void ∙ (ap out-CType e ∙ outs-Int 4 true) in absurd (cc both)

results_differ : ◌≡◌ {A = CType × List CType} (VoidType, []) (int_type, []) → ⊥
results_differ e = void_or_int (ap (λ (q : CType × List CType). q.0) e)

free_differs : ◌≡◌ {A = CType × List CType} (VoidType, PointerType VoidType ∷ []) (int_type, int_type ∷ []) → ⊥
free_differs e = void_or_int (ap (λ (q : CType × List CType). q.0) e)

-- arrays of other sizes
abbrev sizes_in : CType-F CType → ℕ
sizes_in (ArrayOpen item count) = count
sizes_in other = 0

arrays_differ : ArrayType int_type 2 ≡ ArrayType int_type 1 → ⊥
arrays_differ e = let both : 2 ≡ 1 = ap sizes_in (sym (outs-Array int_type 2) ∙ (ap out-CType e ∙ outs-Array int_type 1)) in absurd (cc both)

ints_kind : (count : ℕ) → kind_of structs (ArrayType int_type count) ≡ Array int_type Sized
ints_kind count = (are_kinds structs).array int_type count ∙ ap (Array int_type) (λ i. target_in (outs-Int 4 true i) (is_some (laid_4 true i)))

-- pointers to two structs
abbrev pointed : CType-F CType → CType
pointed (PointerOpen item) = item
pointed other = VoidType

abbrev numbered : CType-F CType → ℕ
numbered (StructOpen number) = number
numbered other = 0

structs_differ : StructType 3 ≡ StructType 4 → ⊥
structs_differ e = let both : 3 ≡ 4 = ap numbered (sym (outs-StructType 3) ∙ (ap out-CType e ∙ outs-StructType 4)) in absurd (cc both)

pointed_differ : PointerType (StructType 3) ≡ PointerType (StructType 4) → ⊥
pointed_differ e = structs_differ (ap pointed (sym (outs-Pointer (StructType 3)) ∙ (ap out-CType e ∙ outs-Pointer (StructType 4))))

pointers_differ : ◌≡◌ {A = CType × List CType} (VoidType, PointerType (StructType 3) ∷ []) (VoidType, PointerType (StructType 4) ∷ []) → ⊥
pointers_differ e = pointed_differ (let lists : PointerType (StructType 3) ∷ [] ≡ PointerType (StructType 4) ∷ [] = ap (λ (q : CType × List CType). q.1) e in cc lists)

-- one struct more, and two
abbrev with_q : List StructDef
with_q = structs ++ fieldless (codes "q") ∷ []

abbrev with_both : List StructDef
with_both = with_q ++ fieldless (codes "q") ∷ []

pub are_items : AreItems
are_items = record {
  tentative = (_, _, (one_item (names_one Plain (Basic (Integer Int true)) (declarator (codes "i") 1 0 [] None) (outs-Basic (Integer Int true)) BasicSpecifier (file_object _ (whole int_type) [] (WholeType int_type) (Some (scalar 4)) refl refl NoMemberSizes refl refl (laid_4 true) (ap is_some (laid_4 true)) refl FileNotInitialised))), refl);
  internal = (_, _, (one_item (names_one Static (Basic (Integer Int true)) (declarator (codes "i") 2 0 [] None) (outs-Basic (Integer Int true)) BasicSpecifier (file_object _ (whole int_type) [] (WholeType int_type) (Some (scalar 4)) refl refl NoMemberSizes refl refl (laid_4 true) (ap is_some (laid_4 true)) refl FileNotInitialised))), refl);
  declared = (_, _, (one_item (names_one Extern (Basic (Integer Int true)) (declarator (codes "i") 2 0 [] None) (outs-Basic (Integer Int true)) BasicSpecifier (file_object _ (whole int_type) [] (WholeType int_type) (Some (scalar 4)) refl refl NoMemberSizes refl refl (laid_4 true) (ap (λ (r : Kind). not (is_void r)) k_int) refl FileNotInitialised))), refl);
  extern_with_initialiser = (_, _, (one_item (names_one Extern (Basic (Integer Int true)) (declarator (codes "i") 2 0 [] (Some (value_of (constant (codes "1") 0 4)))) (outs-Basic (Integer Int true)) BasicSpecifier (file_object _ (whole int_type) [] (WholeType int_type) (Some (scalar 4)) refl refl NoMemberSizes refl refl (laid_4 true) (ap is_some (laid_4 true)) refl (FileInitialised {found = Passes _ _} (outs-Value (constant (codes "1") 0 4) (token 0)) (by_value (constant (codes "1") 0 4) (fixed_well (read_in _ (codes "1") (int_of 1) 0 4 m_1) k_int k_int refl refl (of_value refl))))))), refl);
  behind_definition = (_, _, (one_item (names_one Plain (Basic (Integer Int true)) (declarator (codes "n") 1 0 [] None) (outs-Basic (Integer Int true)) BasicSpecifier (file_object _ (whole int_type) [] (WholeType int_type) (Some (scalar 4)) refl refl NoMemberSizes refl refl (laid_4 true) (ap is_some (laid_4 true)) refl FileNotInitialised))), refl);
  defined_twice = (_, (ItemRefused (names_badly Plain (Basic (Integer Int true)) (declarator (codes "n") 1 0 [] (Some (value_of (constant (codes "2") 0 3)))) [] (outs-Basic (Integer Int true)) BasicSpecifier (file_object_broken _ (whole int_type) [] (WholeType int_type) (Some (scalar 4)) false true refl refl NoMemberSizes refl refl (laid_4 true) (ap is_some (laid_4 true)) (alone _)))));
  defined_twice_first = (_, (ItemRefused (names_badly Plain (Basic (Integer Int true)) (declarator (codes "n") 1 0 [] (Some (value_of (name (codes "y") 0 3)))) [] (outs-Basic (Integer Int true)) BasicSpecifier (file_object_broken _ (whole int_type) [] (WholeType int_type) (Some (scalar 4)) false true refl refl NoMemberSizes refl refl (laid_4 true) (ap is_some (laid_4 true)) (alone _)))));
  of_other_type = (_, (ItemRefused (names_badly Plain (Basic (Integer Char true)) (declarator (codes "n") 1 0 [] None) [] (outs-Basic (Integer Char true)) BasicSpecifier (file_object_broken _ (whole char_type) [] (WholeType int_type) (Some (scalar 1)) true true refl refl NoMemberSizes int_or_char refl (laid_1 true) (ap is_some (laid_4 true)) (alone _)))));
  of_other_kind = (_, (ItemRefused (names_badly Plain (Basic (Integer Int true)) (declarator (codes "f") 1 0 [] None) [] (outs-Basic (Integer Int true)) BasicSpecifier (file_object_broken _ (whole int_type) [] (WholeType int_type) (Some (scalar 4)) true true refl refl NoMemberSizes refl refl (laid_4 true) (ap is_some (laid_4 true)) (alone _)))));
  built_in = (_, (ItemRefused (names_badly Plain (Basic (Integer Int true)) (declarator (codes "free") 1 0 [] None) [] (outs-Basic (Integer Int true)) BasicSpecifier (file_object_broken _ (whole int_type) [] (WholeType int_type) (Some (scalar 4)) true true refl refl NoMemberSizes refl refl (laid_4 true) (ap is_some (laid_4 true)) (alone _)))));
  incomplete = (_, (ItemRefused (names_badly Plain (StructWords (Some (identifier (codes "t") 1)) None) (declarator (codes "i") 2 0 [] None) [] (outs-Struct _ _) (StructSpecifier refl) (file_object_broken _ (whole (StructType 1)) [] (WholeType (StructType 1)) None false false refl refl NoMemberSizes refl refl laid_t (ap is_some laid_t) (alone _)))));
  incomplete_by_extern = (_, _, (one_item (names_one Extern (StructWords (Some (identifier (codes "t") 2)) None) (declarator (codes "i") 3 0 [] None) (outs-Struct _ _) (StructSpecifier refl) (file_object _ (whole (StructType 1)) [] (WholeType (StructType 1)) None refl refl NoMemberSizes refl refl laid_t (ap (λ (r : Kind). not (is_void r)) ((are_kinds structs).struct 1)) refl FileNotInitialised))));
  void_by_extern = (_, (ItemRefused (names_badly Extern (Basic Void) (declarator (codes "i") 2 0 [] None) [] (outs-Basic Void) BasicSpecifier (file_object_broken _ (whole VoidType) [] (WholeType VoidType) None false false refl refl NoMemberSizes refl refl laid_void (ap (λ (r : Kind). not (is_void r)) k_void) (alone _)))));
  no_size = (_, (ItemRefused (names_badly Plain (Basic (Integer Int true)) (declarator (codes "i") 1 0 (None ∷ []) None) [] (outs-Basic (Integer Int true)) BasicSpecifier (file_object_broken _ (whole int_type) (LeftOut ∷ []) (ItemsOf int_type) (Some (repeated 1 (scalar 4))) false false refl refl (MoreMemberSizes MemberSizeLeftOut NoMemberSizes) refl refl (ints_laid structs 1) refl (alone _)))));
  no_size_by_extern = (_, _, (one_item (names_one Extern (Basic (Integer Int true)) (declarator (codes "i") 2 0 (None ∷ []) None) (outs-Basic (Integer Int true)) BasicSpecifier (file_object _ (whole int_type) (LeftOut ∷ []) (ItemsOf int_type) (Some (repeated 1 (scalar 4))) refl refl (MoreMemberSizes MemberSizeLeftOut NoMemberSizes) refl refl (ints_laid structs 1) refl refl FileNotInitialised))));
  no_size_yet = (_, (ItemRefused (names_badly Plain (Basic (Integer Int true)) (declarator (codes "open") 1 0 (None ∷ []) None) [] (outs-Basic (Integer Int true)) BasicSpecifier (file_object_broken _ (whole int_type) (LeftOut ∷ []) (ItemsOf int_type) (Some (repeated 1 (scalar 4))) false false refl refl (MoreMemberSizes MemberSizeLeftOut NoMemberSizes) refl refl (ints_laid structs 1) refl (alone _)))));
  size_told = (_, _, (one_item (names_one Plain (Basic (Integer Int true)) (declarator (codes "open") 1 0 (Some (constant (codes "3") 0 3) ∷ []) None) (outs-Basic (Integer Int true)) BasicSpecifier (file_object _ (whole int_type) ((Counted 3) ∷ []) (WholeType (ArrayType int_type 3)) (Some (repeated 3 (scalar 4))) refl refl (MoreMemberSizes (MemberSizeGiven (SizeOfItems (read_in _ (codes "3") (int_of 3) 0 3 m_3) (seen k_int) refl)) NoMemberSizes) (ap items_in (outs-Array int_type 3)) refl (ints_laid structs 3) (ap is_some (ints_laid structs 3)) refl FileNotInitialised))), refl);
  size_known = (_, _, (one_item (names_one Plain (Basic (Integer Char true)) (declarator (codes "row") 1 0 (None ∷ []) None) (outs-Basic (Integer Char true)) BasicSpecifier (file_object _ (whole char_type) (LeftOut ∷ []) (WholeType (ArrayType char_type 3)) (Some (repeated 1 (scalar 1))) refl refl (MoreMemberSizes MemberSizeLeftOut NoMemberSizes) (ap items_in (outs-Array char_type 3)) refl (laid_chars 1) (ap is_some (laid_chars 3)) refl FileNotInitialised))), refl);
  variable = (_, (ItemRefused (names_badly Plain (Basic (Integer Int true)) (declarator (codes "i") 1 0 (Some (name (codes "n") 0 3) ∷ []) None) [] (outs-Basic (Integer Int true)) BasicSpecifier (FileSizesRefused (out-roll-Declared _) refl refl (MemberSizeRefusedHere (MemberSizeGiven (SizeOfItems (an_int (codes "n") 0 3 refl) (seen k_int) refl)))))));
  variable_typedef = (_, (ItemRefused (names_badly Typedef (Basic (Integer Int true)) (declarator (codes "U") 2 0 (Some (name (codes "n") 0 4) ∷ []) None) [] (outs-Basic (Integer Int true)) BasicSpecifier (FileTypedef (out-roll-Declared _) refl refl (not_typedef _ (whole int_type) (NotConstant ∷ []) (Some (repeated 1 (scalar 4))) false refl (AnySizes (MoreSizes (SizeOfItems (an_int (codes "n") 0 4 refl) (seen k_int) refl) NoSizes)) refl (ints_laid structs 1) (alone _))))));
  typedef_twice = (_, _, (more_items ((DeclareItem (declare Typedef (Basic (Integer Int true)) ((declarator (codes "U") 6 0 [] None) ∷ []))) ∷ []) (names_one Typedef (Basic (Integer Int true)) (declarator (codes "U") 2 0 [] None) (outs-Basic (Integer Int true)) BasicSpecifier (FileTypedef (out-roll-Declared _) refl refl (typedef _ (whole int_type) [] (Some (scalar 4)) refl (AnySizes NoSizes) refl (laid_4 true) refl NotInitialised))) (one_item (names_one Typedef (Basic (Integer Int true)) (declarator (codes "U") 6 0 [] None) (outs-Basic (Integer Int true)) BasicSpecifier (FileTypedef (out-roll-Declared _) refl refl (typedef _ (whole int_type) [] (Some (scalar 4)) refl (AnySizes NoSizes) refl (laid_4 true) refl NotInitialised))))));
  typedef_of_object = (_, (ItemRefused (names_badly Typedef (Basic (Integer Int true)) (declarator (codes "n") 2 0 [] None) [] (outs-Basic (Integer Int true)) BasicSpecifier (FileTypedef (out-roll-Declared _) refl refl (not_typedef _ (whole int_type) [] (Some (scalar 4)) true refl (AnySizes NoSizes) refl (laid_4 true) (alone _))))));
  typedef_of_built_in = (_, (ItemRefused (names_badly Typedef (Basic (Integer Int true)) (declarator (codes "free") 2 0 [] None) [] (outs-Basic (Integer Int true)) BasicSpecifier (FileTypedef (out-roll-Declared _) refl refl (not_typedef _ (whole int_type) [] (Some (scalar 4)) true refl (AnySizes NoSizes) refl (laid_4 true) (alone _))))));
  typedef_with_initialiser = (_, (ItemRefused (names_badly Typedef (Basic (Integer Int true)) (declarator (codes "U") 2 0 [] (Some (value_of (constant (codes "3") 0 4)))) [] (outs-Basic (Integer Int true)) BasicSpecifier (FileTypedef (out-roll-Declared _) refl refl (typedef_refused _ (whole int_type) [] (Some (scalar 4)) refl (AnySizes NoSizes) refl (laid_4 true) refl (TypeInitialised (SurplusValue (outs-Value (constant (codes "3") 0 4) (token 0)) (for_nothing (read_in _ (codes "3") (int_of 3) 0 4 m_3)))))))));
  not_constant = (_, (ItemRefused (names_badly Plain (Basic (Integer Int true)) (declarator (codes "i") 1 0 [] (Some (value_of (name (codes "n") 0 3)))) [] (outs-Basic (Integer Int true)) BasicSpecifier (file_object_refused _ (whole int_type) [] (WholeType int_type) (Some (scalar 4)) refl refl NoMemberSizes refl refl (laid_4 true) (ap is_some (laid_4 true)) refl (FileInitialised {found = Refused _} (outs-Value (name (codes "n") 0 3) (token 0)) (not_by_value (name (codes "n") 0 3) (fixed_not (an_int (codes "n") 0 3 refl) k_int k_int refl (name_leads (object int_type) (codes "n") 3 (outs-Int 4 true)))))))));
  address = (_, _, (one_item (names_one Plain (Basic (Integer Int true)) (declarator (codes "i") 1 1 [] (Some (value_of (node 1 4 (Unary Address (name (codes "n") 0 5)))))) (outs-Basic (Integer Int true)) BasicSpecifier (file_object _ (whole int_type) [] (WholeType (PointerType int_type)) (Some (scalar 8)) refl refl NoMemberSizes refl refl (laid_pointer int_type) (ap is_some (laid_pointer int_type)) refl (FileInitialised {found = Passes _ _} (outs-Value (node 1 4 (Unary Address (name (codes "n") 0 5))) (token 0)) (by_value (node 1 4 (Unary Address (name (codes "n") 0 5))) (fixed_well (LoadedValue (Walked (outs-Unary Address (name (codes "n") 0 5)) (MorePieces (UnloadedOperand (object_in _ (codes "n") (object int_type) 0 5 refl (ap is_some (laid_4 true)) refl refl)) NoPieces) (AddressOf refl)) refl) k_q k_q refl refl (of_address (name (codes "n") 0 5) refl (of_name (codes "n") refl)))))))));
  of_itself = (_, _, (one_item (names_one Plain (Basic Void) (declarator (codes "i") 1 1 [] (Some (value_of (node 1 4 (Unary Address (name (codes "i") 0 5)))))) (outs-Basic Void) BasicSpecifier (file_object _ (whole VoidType) [] (WholeType (PointerType VoidType)) (Some (scalar 8)) refl refl NoMemberSizes refl refl (laid_pointer VoidType) (ap is_some (laid_pointer VoidType)) refl (FileInitialised {found = Passes _ _} (outs-Value (node 1 4 (Unary Address (name (codes "i") 0 5))) (token 0)) (by_value (node 1 4 (Unary Address (name (codes "i") 0 5))) (fixed_well (LoadedValue (Walked (outs-Unary Address (name (codes "i") 0 5)) (MorePieces (UnloadedOperand (object_in _ (codes "i") (own_object 1 true (WholeType (PointerType VoidType))) 0 5 refl (ap is_some (laid_pointer VoidType)) refl refl)) NoPieces) (AddressOf refl)) refl) k_p ((are_kinds structs).pointer (PointerType VoidType)) refl refl (of_address (name (codes "i") 0 5) refl (of_name (codes "i") refl)))))))));
  size_by_initialiser = (_, _, (one_item (names_one Plain (Basic (Integer Int true)) (declarator (codes "i") 1 0 (None ∷ []) (Some (Braces (part (value_of (constant (codes "1") 0 6)) ∷ part (value_of (constant (codes "2") 1 8)) ∷ [])))) (outs-Basic (Integer Int true)) BasicSpecifier (file_object _ (whole int_type) (LeftOut ∷ []) (ItemsOf int_type) (Some (repeated 1 (scalar 4))) refl refl (MoreMemberSizes MemberSizeLeftOut NoMemberSizes) refl refl (ints_laid structs 1) (ap is_some (laid_4 true)) refl (FileArrayInitialised false (outs-Braces (part (value_of (constant (codes "1") 0 6)) ∷ part (value_of (constant (codes "2") 1 8)) ∷ [])) (of_ints (part (value_of (constant (codes "1") 0 6)) ∷ part (value_of (constant (codes "2") 1 8)) ∷ []) refl (set_part (record { ctype = int_type; offset = 0; braces = true }) refl (by_value (constant (codes "1") 0 6) (fixed_well (read_in _ (codes "1") (int_of 1) 0 6 m_1) k_int k_int refl refl (of_value refl))) (set_part (record { ctype = int_type; offset = 4; braces = true }) refl (by_value (constant (codes "2") 1 8) (fixed_well (read_in _ (codes "2") (int_of 2) 1 8 m_2) k_int k_int refl refl (of_value refl))) NoMoreParts))) (ap items_in (outs-Array int_type 2)) (ap (λ (o : Option Layout). (unless (not (is_over o)) (token 1) (Construct 19) ++ unless (not (nat_eq 2 0)) (token 1) (Rule 9)) ++ unless (not false) (token 1) (Rule 2)) (ints_laid structs 2)))))), refl);
  no_parts = (_, (ItemRefused (names_badly Plain (Basic (Integer Int true)) (declarator (codes "i") 1 0 (None ∷ []) (Some (Braces []))) [] (outs-Basic (Integer Int true)) BasicSpecifier (file_object_refused _ (whole int_type) (LeftOut ∷ []) (ItemsOf int_type) (Some (repeated 1 (scalar 4))) refl refl (MoreMemberSizes MemberSizeLeftOut NoMemberSizes) refl refl (ints_laid structs 1) (ap is_some (laid_4 true)) refl (FileArrayOfWrongSize false (outs-Braces []) (of_ints [] refl NoMoreParts) (ap items_in (outs-Array int_type 0)) (ap (λ (o : Option Layout). (unless (not (is_over o)) (token 1) (Construct 19) ++ unless (not (nat_eq 0 0)) (token 1) (Rule 9)) ++ unless (not false) (token 1) (Rule 2)) (ints_laid structs 0)) (alone _))))));
  size_known_before = (_, _, (one_item (names_one Plain (Basic (Integer Char true)) (declarator (codes "row") 1 0 (None ∷ []) (Some (Braces (part (value_of (constant (codes "1") 0 6)) ∷ [])))) (outs-Basic (Integer Char true)) BasicSpecifier (file_object _ (whole char_type) (LeftOut ∷ []) (WholeType (ArrayType char_type 3)) (Some (repeated 1 (scalar 1))) refl refl (MoreMemberSizes MemberSizeLeftOut NoMemberSizes) (ap items_in (outs-Array char_type 3)) refl (laid_chars 1) (ap is_some (laid_chars 3)) refl (FileInitialised {found = Passes _ _} (outs-Braces (part (value_of (constant (codes "1") 0 6)) ∷ [])) (BracesFill (outs-Braces (part (value_of (constant (codes "1") 0 6)) ∷ [])) (chars_filled 3) (set_part (record { ctype = char_type; offset = 0; braces = true }) refl (by_value (constant (codes "1") 0 6) (fixed_well (read_in _ (codes "1") (int_of 1) 0 6 m_1) k_char k_int refl refl (of_value refl))) NoMoreParts)))))), refl);
  value_before_size = (_, (ItemRefused (names_badly Plain (Basic (Integer Int true)) (declarator (codes "i") 1 0 (None ∷ []) (Some (Braces (part (value_of (name (codes "y") 0 6)) ∷ [])))) [] (outs-Basic (Integer Int true)) BasicSpecifier (file_object_refused _ (whole int_type) (LeftOut ∷ []) (ItemsOf int_type) (Some (repeated 1 (scalar 4))) refl refl (MoreMemberSizes MemberSizeLeftOut NoMemberSizes) refl refl (ints_laid structs 1) (ap is_some (laid_4 true)) refl (FileArrayPartsRefused (outs-Braces (part (value_of (name (codes "y") 0 6)) ∷ [])) (of_ints (part (value_of (name (codes "y") 0 6)) ∷ []) refl (PartRefused {slot = (record { ctype = int_type; offset = 0; braces = true })} (out-roll-InitPart _) refl (not_by_value (name (codes "y") 0 6) (ValueRefused (none_of (codes "y") 0 6 refl))))))))));
  array_by_value = (_, (ItemRefused (names_badly Plain (Basic (Integer Int true)) (declarator (codes "i") 1 0 (None ∷ []) (Some (value_of (constant (codes "1") 0 5)))) [] (outs-Basic (Integer Int true)) BasicSpecifier (file_object_refused _ (whole int_type) (LeftOut ∷ []) (ItemsOf int_type) (Some (repeated 1 (scalar 4))) refl refl (MoreMemberSizes MemberSizeLeftOut NoMemberSizes) refl refl (ints_laid structs 1) (ap is_some (laid_4 true)) refl (FileArrayByValue (outs-Value (constant (codes "1") 0 5) (token 0)) (SurplusValue (outs-Value (constant (codes "1") 0 5) (token 0)) (for_nothing (read_in _ (codes "1") (int_of 1) 0 5 m_1))))))));
  other_size_inside = (_, (ItemRefused (names_badly Plain (Basic (Integer Int true)) (declarator (codes "i") 1 0 (None ∷ []) (Some (Braces (part (value_of (node 3 6 (SizeOf (node 2 8 (Inner ((statement_at 10 (Declare (declare Extern (Basic (Integer Int true)) ((declarator (codes "i") 12 0 (Some (constant (codes "2") 0 14) ∷ []) None) ∷ [])))) ∷ (statement_at 17 (Eval (Some (constant (codes "1") 1 17)))) ∷ []) (token 19)))))) ∷ [])))) [] (outs-Basic (Integer Int true)) BasicSpecifier (file_object_refused _ (whole int_type) (LeftOut ∷ []) (ItemsOf int_type) (Some (repeated 1 (scalar 4))) refl refl (MoreMemberSizes MemberSizeLeftOut NoMemberSizes) refl refl (ints_laid structs 1) (ap is_some (laid_4 true)) refl (FileArrayOfWrongSize true (outs-Braces (part (value_of (node 3 6 (SizeOf (node 2 8 (Inner ((statement_at 10 (Declare (declare Extern (Basic (Integer Int true)) ((declarator (codes "i") 12 0 (Some (constant (codes "2") 0 14) ∷ []) None) ∷ [])))) ∷ (statement_at 17 (Eval (Some (constant (codes "1") 1 17)))) ∷ []) (token 19)))))) ∷ [])) (of_ints (part (value_of (node 3 6 (SizeOf (node 2 8 (Inner ((statement_at 10 (Declare (declare Extern (Basic (Integer Int true)) ((declarator (codes "i") 12 0 (Some (constant (codes "2") 0 14) ∷ []) None) ∷ [])))) ∷ (statement_at 17 (Eval (Some (constant (codes "1") 1 17)))) ∷ []) (token 19)))))) ∷ []) refl (set_part (record { ctype = int_type; offset = 0; braces = true }) refl (by_value (node 3 6 (SizeOf (node 2 8 (Inner ((statement_at 10 (Declare (declare Extern (Basic (Integer Int true)) ((declarator (codes "i") 12 0 (Some (constant (codes "2") 0 14) ∷ []) None) ∷ [])))) ∷ (statement_at 17 (Eval (Some (constant (codes "1") 1 17)))) ∷ []) (token 19))))) (fixed_well (LoadedValue (Walked (outs-SizeOf (node 2 8 (Inner ((statement_at 10 (Declare (declare Extern (Basic (Integer Int true)) ((declarator (codes "i") 12 0 (Some (constant (codes "2") 0 14) ∷ []) None) ∷ [])))) ∷ (statement_at 17 (Eval (Some (constant (codes "1") 1 17)))) ∷ []) (token 19)))) (MorePieces (UnloadedOperand (Walked (outs-Inner _ _) (MorePieces (BlockInside (MoreStatements _ (followed _ _ _ (outs-Eval (Some _)) refl) (declares Extern (Basic (Integer Int true)) (declarator (codes "i") 12 0 (Some (constant (codes "2") 0 14) ∷ []) None) (outs-Basic (Integer Int true)) refl BasicSpecifier (linked _ (whole int_type) (Counted 2 ∷ []) (Array int_type Sized) (Some (repeated 2 (scalar 4))) refl (FixedSizes (MoreMemberSizes (MemberSizeGiven {size = Counted 2} (SizeOfItems {size = Counted 2} (read_in _ (codes "2") (int_of 2) 0 14 m_2) (seen k_int) refl)) NoMemberSizes)) (ap items_in (outs-Array int_type 2)) refl (ints_laid structs 2) (ints_kind 2) refl NotInitialised)) (LastExpression (ap value_in (outs-Eval (Some (constant (codes "1") 1 17)))) refl (read_in _ (codes "1") (int_of 1) 1 17 m_1) (seen k_int) refl))) NoPieces) StatementExpression)) NoPieces) (SizeOfExpression (ap extent_of (laid_4 true)) (refl, refl, refl))) refl) k_int k_size refl refl (of_value refl))) NoMoreParts)) arrays_differ (ap (λ (o : Option Layout). (unless (not (is_over o)) (token 1) (Construct 19) ++ unless (not (nat_eq 1 0)) (token 1) (Rule 9)) ++ unless (not true) (token 1) (Rule 2)) (ints_laid structs 1)) (alone _))))));
  two_names = (_, _, (one_item (ItemWithNames {outcome = Passes tt _} (out-roll-Decl _) (outs-Basic (Integer Int true)) refl BasicSpecifier (MoreFileNames {outcome = Passes tt _} (file_object _ (whole int_type) [] (WholeType int_type) (Some (scalar 4)) refl refl NoMemberSizes refl refl (laid_4 true) (ap is_some (laid_4 true)) refl FileNotInitialised) (MoreFileNames {outcome = Passes tt []} (file_object _ (whole int_type) [] (WholeType int_type) (Some (scalar 4)) refl refl NoMemberSizes refl refl (laid_4 true) (ap is_some (laid_4 true)) refl FileNotInitialised) NoMoreFileNames)))), refl);
  second_name = (_, (ItemRefused (ItemWithNames {outcome = Refused _} (out-roll-Decl _) (outs-Basic (Integer Int true)) refl BasicSpecifier (MoreFileNames {outcome = Refused _} (file_object _ (whole int_type) [] (WholeType int_type) (Some (scalar 4)) refl refl NoMemberSizes refl refl (laid_4 true) (ap is_some (laid_4 true)) refl FileNotInitialised) (FileNameRefused (file_object_broken _ (whole int_type) [] (WholeType int_type) (Some (scalar 4)) false true refl refl NoMemberSizes refl refl (laid_4 true) (ap is_some (laid_4 true)) (alone _)))))));
  tag_alone = (_, _, (one_item (NamelessItem (out-roll-Decl _) refl (TagAlone {parts = record { storage = Plain; spec = (StructWords (Some (identifier (codes "s") 1)) None); names = [] }} {name = identifier (codes "s") 1} (out-roll-Decl _) (outs-Struct (Some (identifier (codes "s") 1)) None) refl refl))));
  nothing_declared = (_, (ItemRefused (NamelessItem (out-roll-Decl _) refl (WordsWithNames {outcome = Refused (fault (token 0) (Construct 18))} (out-roll-Decl _) (outs-OfType _) refl (TypeofType (TypeNamed (out-roll-TypeName _) (outs-Basic (Integer Int true)) BasicSpecifier (MoreSizes (SizeOfItems {size = NotConstant} (an_int (codes "n") 0 4 refl) (seen k_int) refl) NoSizes) (ap is_over (ints_laid structs 1)))) (NoDeclarators {base = (record { ctype = ArrayType int_type 1; found = Some (Construct 18) })} (alone _))))));
  words_first = (_, (ItemRefused (ItemWordsRefused (out-roll-Decl _) (outs-OfExpr _) refl (TypeofRefused (UnloadedRefused (Walked (outs-Name (codes "y")) NoPieces (UndeclaredName refl)))))));
  largest = (_, _, (one_item (names_one Plain (Basic (Integer Char true)) (declarator (codes "i") 1 0 (Some (constant (codes "65536") 0 3) ∷ []) None) (outs-Basic (Integer Char true)) BasicSpecifier (file_object _ (whole char_type) ((Counted 65536) ∷ []) (WholeType (ArrayType char_type 65536)) (Some (repeated 65536 (scalar 1))) refl refl (MoreMemberSizes (MemberSizeGiven {size = Counted 65536} (SizeOfItems {size = Counted 65536} (read_in _ (codes "65536") (int_of 65536) 0 3 m_65536) (seen k_int) refl)) NoMemberSizes) refl refl (laid_chars 65536) (ap is_some (laid_chars 65536)) refl FileNotInitialised))));
  too_large = (_, (ItemRefused (names_badly Plain (Basic (Integer Char true)) (declarator (codes "i") 1 0 (Some (constant (codes "65537") 0 3) ∷ []) None) [] (outs-Basic (Integer Char true)) BasicSpecifier (file_object_broken _ (whole char_type) ((Counted 65537) ∷ []) (WholeType (ArrayType char_type 65537)) (Some (repeated 65537 (scalar 1))) false true refl refl (MoreMemberSizes (MemberSizeGiven {size = Counted 65537} (SizeOfItems {size = Counted 65537} (read_in _ (codes "65537") (int_of 65537) 0 3 m_65537) (seen k_int) refl)) NoMemberSizes) refl refl (laid_chars 65537) (ap is_some (laid_chars 65537)) (alone _)))));
  incomplete_with_initialiser = (_, (ItemRefused (names_badly Extern (StructWords (Some (identifier (codes "t") 2)) None) (declarator (codes "i") 3 0 [] (Some (Braces []))) [] (outs-Struct _ _) (StructSpecifier refl) (file_object_broken _ (whole (StructType 1)) [] (WholeType (StructType 1)) None false false refl refl NoMemberSizes refl refl laid_t (ap is_some laid_t) (alone _)))));
  size_by_first_initialiser = (_, _, (one_item (names_one Plain (Basic (Integer Int true)) (declarator (codes "open") 1 0 (None ∷ []) (Some (Braces (part (value_of (constant (codes "1") 0 6)) ∷ [])))) (outs-Basic (Integer Int true)) BasicSpecifier (file_object _ (whole int_type) (LeftOut ∷ []) (ItemsOf int_type) (Some (repeated 1 (scalar 4))) refl refl (MoreMemberSizes MemberSizeLeftOut NoMemberSizes) refl refl (ints_laid structs 1) (ap is_some (laid_4 true)) refl (FileArrayInitialised false (outs-Braces (part (value_of (constant (codes "1") 0 6)) ∷ [])) (of_ints (part (value_of (constant (codes "1") 0 6)) ∷ []) refl (set_part (record { ctype = int_type; offset = 0; braces = true }) refl (by_value (constant (codes "1") 0 6) (fixed_well (read_in _ (codes "1") (int_of 1) 0 6 m_1) k_int k_int refl refl (of_value refl))) NoMoreParts)) (ap items_in (outs-Array int_type 1)) (ap (λ (o : Option Layout). (unless (not (is_over o)) (token 1) (Construct 19) ++ unless (not (nat_eq 1 0)) (token 1) (Rule 9)) ++ unless (not false) (token 1) (Rule 2)) (ints_laid structs 1)))))), refl);
  internal_and_external = (_, _, (more_items ((DeclareItem (declare Extern (Basic (Integer Int true)) ((declarator (codes "i") 6 0 [] None) ∷ []))) ∷ (DeclareItem (declare Plain (Basic (Integer Int true)) ((declarator (codes "i") 9 0 [] None) ∷ []))) ∷ []) (names_one Static (Basic (Integer Int true)) (declarator (codes "i") 2 0 [] None) (outs-Basic (Integer Int true)) BasicSpecifier (file_object _ (whole int_type) [] (WholeType int_type) (Some (scalar 4)) refl refl NoMemberSizes refl refl (laid_4 true) (ap is_some (laid_4 true)) refl FileNotInitialised)) (more_items ((DeclareItem (declare Plain (Basic (Integer Int true)) ((declarator (codes "i") 9 0 [] None) ∷ []))) ∷ []) (names_one Extern (Basic (Integer Int true)) (declarator (codes "i") 6 0 [] None) (outs-Basic (Integer Int true)) BasicSpecifier (file_object _ (whole int_type) [] (WholeType int_type) (Some (scalar 4)) refl refl NoMemberSizes refl refl (laid_4 true) (ap (λ (r : Kind). not (is_void r)) k_int) refl FileNotInitialised)) (one_item (names_one Plain (Basic (Integer Int true)) (declarator (codes "i") 9 0 [] None) (outs-Basic (Integer Int true)) BasicSpecifier (file_object _ (whole int_type) [] (WholeType int_type) (Some (scalar 4)) refl refl NoMemberSizes refl refl (laid_4 true) (ap is_some (laid_4 true)) refl FileNotInitialised))))), refl);
  two_types = (_, (refused_behind ((DeclareItem (declare Extern (Basic (Integer Char true)) ((declarator (codes "i") 6 0 [] None) ∷ []))) ∷ []) (names_one Extern (Basic (Integer Int true)) (declarator (codes "i") 2 0 [] None) (outs-Basic (Integer Int true)) BasicSpecifier (file_object _ (whole int_type) [] (WholeType int_type) (Some (scalar 4)) refl refl NoMemberSizes refl refl (laid_4 true) (ap (λ (r : Kind). not (is_void r)) k_int) refl FileNotInitialised)) (ItemRefused (names_badly Extern (Basic (Integer Char true)) (declarator (codes "i") 6 0 [] None) [] (outs-Basic (Integer Char true)) BasicSpecifier (file_object_broken _ (whole char_type) [] (WholeType int_type) (Some (scalar 1)) true true refl refl NoMemberSizes int_or_char refl (laid_1 true) (ap (λ (r : Kind). not (is_void r)) k_int) (alone _))))));
}

pub are_functions : AreFunctions
are_functions = record {
  defined = (_, _, (one_item (defines Plain (Basic (Integer Int true)) (function_declarator (codes "h") 1 ((parameter_of (Basic (Integer Int true)) 0 (Some (identifier (codes "a") 4)) []) ∷ [])) ((statement_at 7 (Return (Some (name (codes "a") 0 8)))) ∷ []) (outs-Basic (Integer Int true)) BasicSpecifier (file_head _ (whole int_type) (IntegerKind (integer_of 4 true)) false (IntOpen 4 true) (one_named _) (more_parameters (one_parameter _ (whole int_type) [] (IntegerKind (integer_of 4 true)) (Some (scalar 4)) (outs-Basic (Integer Int true)) BasicSpecifier NoSizes k_int (laid_4 true)) NoParameters) refl k_int (λ i. is_struct (k_int i) || (is_struct (k_int i) || false)) (outs-Int 4 true) refl) (last (no_value (statement_at 7 (Return (Some (name (codes "a") 0 8)))) (outs-Return (Some (name (codes "a") 0 8))) refl) (StatementOfParts (outs-Return (Some (name (codes "a") 0 8))) refl (one_part (ValueReturned (returned (loaded_in _ (codes "a") (own_object 4 false (WholeType int_type)) 0 8 refl (ap is_some (laid_4 true)) refl refl) k_int k_int refl))))))), refl);
  without_name = (_, _, (one_item (defines Plain (Basic (Integer Int true)) (function_declarator (codes "h") 1 ((parameter_of (Basic (Integer Int true)) 0 None []) ∷ [])) ((statement_at 6 (Return (Some (constant (codes "1") 0 7)))) ∷ []) (outs-Basic (Integer Int true)) BasicSpecifier (file_head _ (whole int_type) (IntegerKind (integer_of 4 true)) false (IntOpen 4 true) (one_named _) (more_parameters (one_parameter _ (whole int_type) [] (IntegerKind (integer_of 4 true)) (Some (scalar 4)) (outs-Basic (Integer Int true)) BasicSpecifier NoSizes k_int (laid_4 true)) NoParameters) refl k_int (λ i. is_struct (k_int i) || (is_struct (k_int i) || false)) (outs-Int 4 true) refl) (last (no_value (statement_at 6 (Return (Some (constant (codes "1") 0 7)))) (outs-Return (Some (constant (codes "1") 0 7))) refl) (StatementOfParts (outs-Return (Some (constant (codes "1") 0 7))) refl (one_part (ValueReturned (returned (read_in _ (codes "1") (int_of 1) 0 7 m_1) k_int k_int refl))))))), refl);
  head_alone = (_, _, (one_item (names_one Plain (Basic (Integer Int true)) (function_declarator (codes "h") 1 ((parameter_of (Basic (Integer Int true)) 0 None []) ∷ [])) (outs-Basic (Integer Int true)) BasicSpecifier (file_function _ refl (file_head _ (whole int_type) (IntegerKind (integer_of 4 true)) false (IntOpen 4 true) (one_named _) (more_parameters (one_parameter _ (whole int_type) [] (IntegerKind (integer_of 4 true)) (Some (scalar 4)) (outs-Basic (Integer Int true)) BasicSpecifier NoSizes k_int (laid_4 true)) NoParameters) refl k_int (λ i. is_struct (k_int i) || (is_struct (k_int i) || false)) (outs-Int 4 true) refl)))), refl);
  parameter_twice = (_, (ItemRefused (body_refused Plain (Basic (Integer Int true)) (function_declarator (codes "h") 1 ((parameter_of (Basic (Integer Int true)) 0 (Some (identifier (codes "a") 4)) []) ∷ [])) ((statement_at 7 (Declare (declare Plain (Basic (Integer Int true)) ((declarator (codes "a") 8 0 [] None) ∷ [])))) ∷ (statement_at 10 (Return (Some (constant (codes "0") 0 11)))) ∷ []) (outs-Basic (Integer Int true)) BasicSpecifier (file_head _ (whole int_type) (IntegerKind (integer_of 4 true)) false (IntOpen 4 true) (one_named _) (more_parameters (one_parameter _ (whole int_type) [] (IntegerKind (integer_of 4 true)) (Some (scalar 4)) (outs-Basic (Integer Int true)) BasicSpecifier NoSizes k_int (laid_4 true)) NoParameters) refl k_int (λ i. is_struct (k_int i) || (is_struct (k_int i) || false)) (outs-Int 4 true) refl) (StatementRefused (followed _ _ _ (outs-Return (Some (constant (codes "0") 0 11))) refl) (refuses Plain (Basic (Integer Int true)) (declarator (codes "a") 8 0 [] None) (outs-Basic (Integer Int true)) refl BasicSpecifier (not_automatic _ (whole int_type) [] (Some (scalar 4)) true refl (AnySizes NoSizes) refl refl (laid_4 true) (alone _)))))));
  hidden_in_block = (_, _, (one_item (defines Plain (Basic (Integer Int true)) (function_declarator (codes "h") 1 ((parameter_of (Basic (Integer Int true)) 0 (Some (identifier (codes "a") 4)) []) ∷ [])) ((statement_at 7 (Block ((statement_at 8 (Declare (declare Plain (Basic (Integer Int true)) ((declarator (codes "a") 9 0 [] None) ∷ [])))) ∷ []))) ∷ (statement_at 12 (Return (Some (name (codes "a") 0 13)))) ∷ []) (outs-Basic (Integer Int true)) BasicSpecifier (file_head _ (whole int_type) (IntegerKind (integer_of 4 true)) false (IntOpen 4 true) (one_named _) (more_parameters (one_parameter _ (whole int_type) [] (IntegerKind (integer_of 4 true)) (Some (scalar 4)) (outs-Basic (Integer Int true)) BasicSpecifier NoSizes k_int (laid_4 true)) NoParameters) refl k_int (λ i. is_struct (k_int i) || (is_struct (k_int i) || false)) (outs-Int 4 true) refl) (MoreStatements _ (followed _ _ _ (outs-Return (Some (name (codes "a") 0 13))) refl) (in_braces ((statement_at 8 (Declare (declare Plain (Basic (Integer Int true)) ((declarator (codes "a") 9 0 [] None) ∷ [])))) ∷ []) (last (no_value (statement_at 8 (Declare (declare Plain (Basic (Integer Int true)) ((declarator (codes "a") 9 0 [] None) ∷ [])))) (outs-Declare (declare Plain (Basic (Integer Int true)) ((declarator (codes "a") 9 0 [] None) ∷ []))) refl) (declares Plain (Basic (Integer Int true)) (declarator (codes "a") 9 0 [] None) (outs-Basic (Integer Int true)) refl BasicSpecifier (automatic _ (whole int_type) [] (Some (scalar 4)) refl (AnySizes NoSizes) refl refl (laid_4 true) refl NotInitialised)))) (last (no_value (statement_at 12 (Return (Some (name (codes "a") 0 13)))) (outs-Return (Some (name (codes "a") 0 13))) refl) (StatementOfParts (outs-Return (Some (name (codes "a") 0 13))) refl (one_part (ValueReturned (returned (loaded_in _ (codes "a") (own_object 4 false (WholeType int_type)) 0 13 refl (ap is_some (laid_4 true)) refl refl) k_int k_int refl)))))))));
  hidden_by_parameter = (_, _, (one_item (defines Plain (Basic (Integer Int true)) (function_declarator (codes "h") 1 ((parameter_of (Basic (Integer Int true)) 0 (Some (identifier (codes "h") 4)) []) ∷ [])) ((statement_at 7 (Return (Some (name (codes "h") 0 8)))) ∷ []) (outs-Basic (Integer Int true)) BasicSpecifier (file_head _ (whole int_type) (IntegerKind (integer_of 4 true)) false (IntOpen 4 true) (one_named _) (more_parameters (one_parameter _ (whole int_type) [] (IntegerKind (integer_of 4 true)) (Some (scalar 4)) (outs-Basic (Integer Int true)) BasicSpecifier NoSizes k_int (laid_4 true)) NoParameters) refl k_int (λ i. is_struct (k_int i) || (is_struct (k_int i) || false)) (outs-Int 4 true) refl) (last (no_value (statement_at 7 (Return (Some (name (codes "h") 0 8)))) (outs-Return (Some (name (codes "h") 0 8))) refl) (StatementOfParts (outs-Return (Some (name (codes "h") 0 8))) refl (one_part (ValueReturned (returned (loaded_in _ (codes "h") (own_object 4 false (WholeType int_type)) 0 8 refl (ap is_some (laid_4 true)) refl refl) k_int k_int refl))))))));
  behind_declaration = (_, _, (one_item (defines Plain (Basic Void) (function_declarator (codes "g") 1 []) [] (outs-Basic Void) BasicSpecifier (file_head _ (whole VoidType) VoidKind false VoidOpen refl NoParameters refl k_void (λ i. is_struct (k_void i) || false) outs-Void refl) NoStatements)), refl);
  of_other_type = (_, (ItemRefused (head_refused Plain (Basic (Integer Int true)) (function_declarator (codes "g") 1 []) ((statement_at 6 (Return (Some (constant (codes "1") 0 7)))) ∷ []) (outs-Basic (Integer Int true)) BasicSpecifier (file_head_broken _ (whole int_type) (IntegerKind (integer_of 4 true)) false (IntOpen 4 true) true NoParameters results_differ k_int (λ i. is_struct (k_int i) || false) (outs-Int 4 true) (alone _)))));
  two_bodies = (_, (ItemRefused (head_refused Plain (Basic (Integer Int true)) (function_declarator (codes "f") 1 ((parameter_of (Basic (Integer Int true)) 0 None []) ∷ (parameter_of (Basic (Integer Char true)) 1 None []) ∷ [])) ((statement_at 9 (Return (Some (constant (codes "1") 0 10)))) ∷ []) (outs-Basic (Integer Int true)) BasicSpecifier (file_head_broken _ (whole int_type) (IntegerKind (integer_of 4 true)) false (IntOpen 4 true) false (more_parameters (one_parameter _ (whole int_type) [] (IntegerKind (integer_of 4 true)) (Some (scalar 4)) (outs-Basic (Integer Int true)) BasicSpecifier NoSizes k_int (laid_4 true)) (more_parameters (one_parameter _ (whole char_type) [] (Pointer char_type Sized) (Some (scalar 8)) (outs-Basic (Integer Char true)) BasicSpecifier NoSizes k_chars (laid_pointer _)) NoParameters)) refl k_int (λ i. is_struct (k_int i) || (is_struct (k_int i) || (is_struct (k_chars i) || false))) (outs-Int 4 true) (alone _)))));
  declared_behind_body = (_, _, (one_item (names_one Plain (Basic (Integer Int true)) (function_declarator (codes "f") 1 ((parameter_of (Basic (Integer Int true)) 0 None []) ∷ (parameter_of (Basic (Integer Char true)) 1 None []) ∷ [])) (outs-Basic (Integer Int true)) BasicSpecifier (file_function _ refl (file_head _ (whole int_type) (IntegerKind (integer_of 4 true)) false (IntOpen 4 true) (two_named _ _) (more_parameters (one_parameter _ (whole int_type) [] (IntegerKind (integer_of 4 true)) (Some (scalar 4)) (outs-Basic (Integer Int true)) BasicSpecifier NoSizes k_int (laid_4 true)) (more_parameters (one_parameter _ (whole char_type) [] (Pointer char_type Sized) (Some (scalar 8)) (outs-Basic (Integer Char true)) BasicSpecifier NoSizes k_chars (laid_pointer _)) NoParameters)) refl k_int (λ i. is_struct (k_int i) || (is_struct (k_int i) || (is_struct (k_chars i) || false))) (outs-Int 4 true) refl)))));
  of_object = (_, (ItemRefused (head_refused Plain (Basic (Integer Int true)) (function_declarator (codes "n") 1 []) [] (outs-Basic (Integer Int true)) BasicSpecifier (file_head_broken _ (whole int_type) (IntegerKind (integer_of 4 true)) false (IntOpen 4 true) true NoParameters refl k_int (λ i. is_struct (k_int i) || false) (outs-Int 4 true) (alone _)))));
  struct_as_parameter = (_, (ItemRefused (head_refused Plain (Basic (Integer Int true)) (function_declarator (codes "h") 1 ((parameter_of (StructWords (Some (identifier (codes "s") 4)) None) 0 (Some (identifier (codes "a") 5)) []) ∷ [])) ((statement_at 8 (Return (Some (constant (codes "1") 0 9)))) ∷ []) (outs-Basic (Integer Int true)) BasicSpecifier (file_head_broken _ (whole int_type) (IntegerKind (integer_of 4 true)) true (IntOpen 4 true) false (more_parameters (one_parameter _ (whole (StructType 0)) [] (Struct 0) (Some (record { size = 16; alignment = 8 })) (outs-Struct _ _) (StructSpecifier refl) NoSizes ((are_kinds structs).struct 0) laid_s) NoParameters) refl k_int (λ i. is_struct (k_int i) || (is_struct (((are_kinds structs).struct 0) i) || false)) (outs-Int 4 true) (alone _)))));
  struct_without_body = (_, _, (one_item (names_one Plain (Basic (Integer Int true)) (function_declarator (codes "h") 1 ((parameter_of (StructWords (Some (identifier (codes "s") 4)) None) 0 (Some (identifier (codes "a") 5)) []) ∷ [])) (outs-Basic (Integer Int true)) BasicSpecifier (file_function _ refl (file_head _ (whole int_type) (IntegerKind (integer_of 4 true)) true (IntOpen 4 true) (one_named _) (more_parameters (one_parameter _ (whole (StructType 0)) [] (Struct 0) (Some (record { size = 16; alignment = 8 })) (outs-Struct _ _) (StructSpecifier refl) NoSizes ((are_kinds structs).struct 0) laid_s) NoParameters) refl k_int (λ i. is_struct (k_int i) || (is_struct (((are_kinds structs).struct 0) i) || false)) (outs-Int 4 true) refl)))));
  struct_as_result = (_, (ItemRefused (head_refused Plain (StructWords (Some (identifier (codes "s") 1)) None) (function_declarator (codes "h") 2 []) [] (outs-Struct _ _) (StructSpecifier refl) (file_head_broken _ (whole (StructType 0)) (Struct 0) true (StructOpen 0) false NoParameters refl ((are_kinds structs).struct 0) (λ i. is_struct (((are_kinds structs).struct 0) i) || false) (outs-StructType 0) (alone _)))));
  construct_first = (_, (ItemRefused (head_refused Plain (Basic (Integer Int true)) (function_declarator (codes "h") 1 ((parameter_of (Basic Void) 0 (Some (identifier (codes "a") 4)) []) ∷ (parameter_of (StructWords (Some (identifier (codes "s") 7)) None) 0 (Some (identifier (codes "b") 8)) []) ∷ [])) [] (outs-Basic (Integer Int true)) BasicSpecifier (file_head_broken _ (whole int_type) (IntegerKind (integer_of 4 true)) true (IntOpen 4 true) false (more_parameters (one_parameter _ (whole VoidType) [] VoidKind None (outs-Basic Void) BasicSpecifier NoSizes k_void laid_void) (more_parameters (one_parameter _ (whole (StructType 0)) [] (Struct 0) (Some (record { size = 16; alignment = 8 })) (outs-Struct _ _) (StructSpecifier refl) NoSizes ((are_kinds structs).struct 0) laid_s) NoParameters)) refl k_int (λ i. is_struct (k_int i) || (is_struct (k_void i) || (is_struct (((are_kinds structs).struct 0) i) || false))) (outs-Int 4 true) (record { front = fault (token 4) (Rule 3) ∷ []; back = []; whole = refl; later = ((λ comes. comes), tt); behind = tt })))));
  void_as_parameter = (_, (ItemRefused (head_refused Plain (Basic (Integer Int true)) (function_declarator (codes "h") 1 ((parameter_of (Basic Void) 0 (Some (identifier (codes "a") 4)) []) ∷ [])) [] (outs-Basic (Integer Int true)) BasicSpecifier (file_head_broken _ (whole int_type) (IntegerKind (integer_of 4 true)) false (IntOpen 4 true) false (more_parameters (one_parameter _ (whole VoidType) [] VoidKind None (outs-Basic Void) BasicSpecifier NoSizes k_void laid_void) NoParameters) refl k_int (λ i. is_struct (k_int i) || (is_struct (k_void i) || false)) (outs-Int 4 true) (alone _)))));
  typedef_with_body = (_, (ItemRefused (head_refused Typedef (Basic (Integer Int true)) (function_declarator (codes "F") 2 ((parameter_of (Basic (Integer Int true)) 0 None []) ∷ [])) ((statement_at 7 (Return (Some (constant (codes "1") 0 8)))) ∷ []) (outs-Basic (Integer Int true)) BasicSpecifier (file_head_broken _ (whole int_type) (IntegerKind (integer_of 4 true)) false (IntOpen 4 true) false (more_parameters (one_parameter _ (whole int_type) [] (IntegerKind (integer_of 4 true)) (Some (scalar 4)) (outs-Basic (Integer Int true)) BasicSpecifier NoSizes k_int (laid_4 true)) NoParameters) refl k_int (λ i. is_struct (k_int i) || (is_struct (k_int i) || false)) (outs-Int 4 true) (alone _)))));
  typedef_of_function = (_, (ItemRefused (names_badly Typedef (Basic (Integer Int true)) (function_declarator (codes "F") 2 ((parameter_of (Basic (Integer Int true)) 0 None []) ∷ [])) [] (outs-Basic (Integer Int true)) BasicSpecifier (file_function_refused _ refl (file_head_broken _ (whole int_type) (IntegerKind (integer_of 4 true)) false (IntOpen 4 true) false (more_parameters (one_parameter _ (whole int_type) [] (IntegerKind (integer_of 4 true)) (Some (scalar 4)) (outs-Basic (Integer Int true)) BasicSpecifier NoSizes k_int (laid_4 true)) NoParameters) refl k_int (λ i. is_struct (k_int i) || (is_struct (k_int i) || false)) (outs-Int 4 true) (alone _))))));
  main = (_, _, (one_item (defines Plain (Basic (Integer Int true)) (function_declarator (codes "main") 1 []) ((statement_at 6 (Return (Some (constant (codes "0") 0 7)))) ∷ []) (outs-Basic (Integer Int true)) BasicSpecifier (file_head _ (whole int_type) (IntegerKind (integer_of 4 true)) false (IntOpen 4 true) refl NoParameters refl k_int (λ i. is_struct (k_int i) || false) (outs-Int 4 true) refl) (last (no_value (statement_at 6 (Return (Some (constant (codes "0") 0 7)))) (outs-Return (Some (constant (codes "0") 0 7))) refl) (StatementOfParts (outs-Return (Some (constant (codes "0") 0 7))) refl (one_part (ValueReturned (returned (read_in _ (codes "0") (int_of 0) 0 7 m_0) k_int k_int refl))))))));
  main_without_result = (_, (ItemRefused (head_refused Plain (Basic Void) (function_declarator (codes "main") 1 []) [] (outs-Basic Void) BasicSpecifier (file_head_broken _ (whole VoidType) VoidKind false VoidOpen false NoParameters refl k_void (λ i. is_struct (k_void i) || false) outs-Void (alone _)))));
  main_declared = (_, (ItemRefused (names_badly Plain (Basic Void) (function_declarator (codes "main") 1 []) [] (outs-Basic Void) BasicSpecifier (file_function_refused _ refl (file_head_broken _ (whole VoidType) VoidKind false VoidOpen false NoParameters refl k_void (λ i. is_struct (k_void i) || false) outs-Void (alone _))))));
  main_of_char = (_, (ItemRefused (head_refused Plain (Basic (Integer Char true)) (function_declarator (codes "main") 1 []) [] (outs-Basic (Integer Char true)) BasicSpecifier (file_head_broken _ (whole char_type) (IntegerKind (integer_of 1 true)) false (IntOpen 1 true) false NoParameters refl k_char (λ i. is_struct (k_char i) || false) (outs-Int 1 true) (alone _)))));
  parameter_of_main = (_, (ItemRefused (body_refused Plain (Basic (Integer Int true)) (function_declarator (codes "main") 1 ((parameter_of (Basic (Integer Int true)) 0 (Some (identifier (codes "a") 4)) []) ∷ [])) ((statement_at 7 (Return (Some (name (codes "a") 0 8)))) ∷ []) (outs-Basic (Integer Int true)) BasicSpecifier (file_head _ (whole int_type) (IntegerKind (integer_of 4 true)) false (IntOpen 4 true) (one_named _) (more_parameters (one_parameter _ (whole int_type) [] (IntegerKind (integer_of 4 true)) (Some (scalar 4)) (outs-Basic (Integer Int true)) BasicSpecifier NoSizes k_int (laid_4 true)) NoParameters) refl k_int (λ i. is_struct (k_int i) || (is_struct (k_int i) || false)) (outs-Int 4 true) refl) (StatementRefused (no_value (statement_at 7 (Return (Some (name (codes "a") 0 8)))) (outs-Return (Some (name (codes "a") 0 8))) refl) (StatementOfParts (outs-Return (Some (name (codes "a") 0 8))) refl (StatementPartRefused (ValueReturned (ValueRefused (LoadedRefused (Walked (outs-Name (codes "a")) NoPieces (ObjectName refl (ap is_some (laid_4 true)) (alone _))))))))))));
  parameter_not_named = (_, _, (one_item (defines Plain (Basic (Integer Int true)) (function_declarator (codes "main") 1 ((parameter_of (Basic (Integer Int true)) 0 (Some (identifier (codes "a") 4)) []) ∷ [])) ((statement_at 7 (Return (Some (constant (codes "0") 0 8)))) ∷ []) (outs-Basic (Integer Int true)) BasicSpecifier (file_head _ (whole int_type) (IntegerKind (integer_of 4 true)) false (IntOpen 4 true) (one_named _) (more_parameters (one_parameter _ (whole int_type) [] (IntegerKind (integer_of 4 true)) (Some (scalar 4)) (outs-Basic (Integer Int true)) BasicSpecifier NoSizes k_int (laid_4 true)) NoParameters) refl k_int (λ i. is_struct (k_int i) || (is_struct (k_int i) || false)) (outs-Int 4 true) refl) (last (no_value (statement_at 7 (Return (Some (constant (codes "0") 0 8)))) (outs-Return (Some (constant (codes "0") 0 8))) refl) (StatementOfParts (outs-Return (Some (constant (codes "0") 0 8))) refl (one_part (ValueReturned (returned (read_in _ (codes "0") (int_of 0) 0 8 m_0) k_int k_int refl))))))));
  no_loop = (_, (ItemRefused (body_refused Plain (Basic (Integer Int true)) (function_declarator (codes "h") 1 []) ((statement_at 6 Break) ∷ []) (outs-Basic (Integer Int true)) BasicSpecifier (file_head _ (whole int_type) (IntegerKind (integer_of 4 true)) false (IntOpen 4 true) refl NoParameters refl k_int (λ i. is_struct (k_int i) || false) (outs-Int 4 true) refl) (StatementRefused (no_value (statement_at 6 Break) outs-Break refl) (StatementOfParts outs-Break refl (StatementPartRefused (NoLoopToLeave refl)))))));
  value_of_procedure = (_, (ItemRefused (body_refused Plain (Basic Void) (function_declarator (codes "h") 1 []) ((statement_at 6 (Return (Some (constant (codes "1") 0 7)))) ∷ []) (outs-Basic Void) BasicSpecifier (file_head _ (whole VoidType) VoidKind false VoidOpen refl NoParameters refl k_void (λ i. is_struct (k_void i) || false) outs-Void refl) (StatementRefused (no_value (statement_at 6 (Return (Some (constant (codes "1") 0 7)))) (outs-Return (Some (constant (codes "1") 0 7))) refl) (StatementOfParts (outs-Return (Some (constant (codes "1") 0 7))) refl (StatementPartRefused (ValueReturned (not_returned (read_in _ (codes "1") (int_of 1) 0 7 m_1) k_void k_int refl))))))));
  undeclared = (_, (ItemRefused (body_refused Plain (Basic (Integer Int true)) (function_declarator (codes "h") 1 []) ((statement_at 6 (Return (Some (name (codes "y") 0 7)))) ∷ []) (outs-Basic (Integer Int true)) BasicSpecifier (file_head _ (whole int_type) (IntegerKind (integer_of 4 true)) false (IntOpen 4 true) refl NoParameters refl k_int (λ i. is_struct (k_int i) || false) (outs-Int 4 true) refl) (StatementRefused (no_value (statement_at 6 (Return (Some (name (codes "y") 0 7)))) (outs-Return (Some (name (codes "y") 0 7))) refl) (StatementOfParts (outs-Return (Some (name (codes "y") 0 7))) refl (StatementPartRefused (ValueReturned (ValueRefused (none_of (codes "y") 0 7 refl)))))))));
  listed_once = (_, _, (more_items ((DeclareItem (declare Plain (Basic (Integer Int true)) ((declarator (codes "j") 5 0 [] None) ∷ []))) ∷ (DeclareItem (declare Plain (Basic (Integer Int true)) ((declarator (codes "i") 8 0 [] None) ∷ []))) ∷ (DeclareItem (declare Plain (Basic (Integer Int true)) ((declarator (codes "i") 11 0 [] (Some (value_of (constant (codes "3") 0 13)))) ∷ []))) ∷ []) (names_one Extern (Basic (Integer Int true)) (declarator (codes "i") 2 0 [] None) (outs-Basic (Integer Int true)) BasicSpecifier (file_object _ (whole int_type) [] (WholeType int_type) (Some (scalar 4)) refl refl NoMemberSizes refl refl (laid_4 true) (ap (λ (r : Kind). not (is_void r)) k_int) refl FileNotInitialised)) (more_items ((DeclareItem (declare Plain (Basic (Integer Int true)) ((declarator (codes "i") 8 0 [] None) ∷ []))) ∷ (DeclareItem (declare Plain (Basic (Integer Int true)) ((declarator (codes "i") 11 0 [] (Some (value_of (constant (codes "3") 0 13)))) ∷ []))) ∷ []) (names_one Plain (Basic (Integer Int true)) (declarator (codes "j") 5 0 [] None) (outs-Basic (Integer Int true)) BasicSpecifier (file_object _ (whole int_type) [] (WholeType int_type) (Some (scalar 4)) refl refl NoMemberSizes refl refl (laid_4 true) (ap is_some (laid_4 true)) refl FileNotInitialised)) (more_items ((DeclareItem (declare Plain (Basic (Integer Int true)) ((declarator (codes "i") 11 0 [] (Some (value_of (constant (codes "3") 0 13)))) ∷ []))) ∷ []) (names_one Plain (Basic (Integer Int true)) (declarator (codes "i") 8 0 [] None) (outs-Basic (Integer Int true)) BasicSpecifier (file_object _ (whole int_type) [] (WholeType int_type) (Some (scalar 4)) refl refl NoMemberSizes refl refl (laid_4 true) (ap is_some (laid_4 true)) refl FileNotInitialised)) (one_item (names_one Plain (Basic (Integer Int true)) (declarator (codes "i") 11 0 [] (Some (value_of (constant (codes "3") 0 13)))) (outs-Basic (Integer Int true)) BasicSpecifier (file_object _ (whole int_type) [] (WholeType int_type) (Some (scalar 4)) refl refl NoMemberSizes refl refl (laid_4 true) (ap is_some (laid_4 true)) refl (FileInitialised {found = Passes _ _} (outs-Value (constant (codes "3") 0 13) (token 0)) (by_value (constant (codes "3") 0 13) (fixed_well (read_in _ (codes "3") (int_of 3) 0 13 m_3) k_int k_int refl refl (of_value refl)))))))))), refl);
  two_initialisers = (_, (refused_behind ((DeclareItem (declare Plain (Basic (Integer Int true)) ((declarator (codes "i") 6 0 [] (Some (value_of (constant (codes "2") 1 8)))) ∷ []))) ∷ []) (names_one Plain (Basic (Integer Int true)) (declarator (codes "i") 1 0 [] (Some (value_of (constant (codes "1") 0 3)))) (outs-Basic (Integer Int true)) BasicSpecifier (file_object _ (whole int_type) [] (WholeType int_type) (Some (scalar 4)) refl refl NoMemberSizes refl refl (laid_4 true) (ap is_some (laid_4 true)) refl (FileInitialised {found = Passes _ _} (outs-Value (constant (codes "1") 0 3) (token 0)) (by_value (constant (codes "1") 0 3) (fixed_well (read_in _ (codes "1") (int_of 1) 0 3 m_1) k_int k_int refl refl (of_value refl)))))) (ItemRefused (names_badly Plain (Basic (Integer Int true)) (declarator (codes "i") 6 0 [] (Some (value_of (constant (codes "2") 1 8)))) [] (outs-Basic (Integer Int true)) BasicSpecifier (file_object_broken _ (whole int_type) [] (WholeType int_type) (Some (scalar 4)) false true refl refl NoMemberSizes refl refl (laid_4 true) (ap is_some (laid_4 true)) (alone _))))));
  declared_behind = (_, (ItemRefused (body_refused Plain (Basic (Integer Int true)) (function_declarator (codes "h") 1 []) ((statement_at 6 (Return (Some (name (codes "y") 0 7)))) ∷ []) (outs-Basic (Integer Int true)) BasicSpecifier (file_head _ (whole int_type) (IntegerKind (integer_of 4 true)) false (IntOpen 4 true) refl NoParameters refl k_int (λ i. is_struct (k_int i) || false) (outs-Int 4 true) refl) (StatementRefused (no_value (statement_at 6 (Return (Some (name (codes "y") 0 7)))) (outs-Return (Some (name (codes "y") 0 7))) refl) (StatementOfParts (outs-Return (Some (name (codes "y") 0 7))) refl (StatementPartRefused (ValueReturned (ValueRefused (none_of (codes "y") 0 7 refl)))))))));
  declared_before = (_, _, (more_items ((Function (Basic (Integer Int true)) Plain (function_declarator (codes "h") 4 []) ((statement_at 9 (Return (Some (name (codes "y") 0 10)))) ∷ []) (token 0)) ∷ []) (names_one Plain (Basic (Integer Int true)) (declarator (codes "y") 1 0 [] None) (outs-Basic (Integer Int true)) BasicSpecifier (file_object _ (whole int_type) [] (WholeType int_type) (Some (scalar 4)) refl refl NoMemberSizes refl refl (laid_4 true) (ap is_some (laid_4 true)) refl FileNotInitialised)) (one_item (defines Plain (Basic (Integer Int true)) (function_declarator (codes "h") 4 []) ((statement_at 9 (Return (Some (name (codes "y") 0 10)))) ∷ []) (outs-Basic (Integer Int true)) BasicSpecifier (file_head _ (whole int_type) (IntegerKind (integer_of 4 true)) false (IntOpen 4 true) refl NoParameters refl k_int (λ i. is_struct (k_int i) || false) (outs-Int 4 true) refl) (last (no_value (statement_at 9 (Return (Some (name (codes "y") 0 10)))) (outs-Return (Some (name (codes "y") 0 10))) refl) (StatementOfParts (outs-Return (Some (name (codes "y") 0 10))) refl (one_part (ValueReturned (returned (loaded_in _ (codes "y") (own_object 1 true (WholeType int_type)) 0 10 refl (ap is_some (laid_4 true)) refl refl) k_int k_int refl)))))))));
  nothing = (_, _, (one_item EmptyItem));
  words_first = (_, (ItemRefused (FunctionWordsRefused (outs-OfExpr _) (TypeofRefused (UnloadedRefused (Walked (outs-Name (codes "y")) NoPieces (UndeclaredName refl)))))));
  parameters_first = (_, (ItemRefused (head_refused Plain (Basic (Integer Int true)) (function_declarator (codes "f") 1 ((parameter_of (Basic (Integer Int true)) 0 (Some (identifier (codes "a") 4)) (Some (name (codes "y") 0 6) ∷ [])) ∷ [])) ((statement_at 10 Break) ∷ []) (outs-Basic (Integer Int true)) BasicSpecifier (HeadRefused (out-roll-Declared _) (ParameterRefused (ParameterSizesRefused (out-roll-Param _) (outs-Basic (Integer Int true)) BasicSpecifier (SizesRefusedHere (SizeRefused (none_of (codes "y") 0 6 refl)))))))));
  head_first = (_, (ItemRefused (head_refused Plain (Basic (Integer Int true)) (function_declarator (codes "h") 1 ((parameter_of (StructWords (Some (identifier (codes "s") 4)) None) 0 (Some (identifier (codes "a") 5)) []) ∷ [])) ((statement_at 8 Break) ∷ []) (outs-Basic (Integer Int true)) BasicSpecifier (file_head_broken _ (whole int_type) (IntegerKind (integer_of 4 true)) true (IntOpen 4 true) false (more_parameters (one_parameter _ (whole (StructType 0)) [] (Struct 0) (Some (record { size = 16; alignment = 8 })) (outs-Struct _ _) (StructSpecifier refl) NoSizes ((are_kinds structs).struct 0) laid_s) NoParameters) refl k_int (λ i. is_struct (k_int i) || (is_struct (((are_kinds structs).struct 0) i) || false)) (outs-Int 4 true) (alone _)))));
  scope_of_parameters = (_, _, (one_item (defines Plain (Basic (Integer Int true)) (function_declarator (codes "h") 1 ((parameter_of (Basic (Integer Int true)) 0 (Some (identifier (codes "a") 4)) (Some (node 0 6 (SizeOfType (type_name (EnumWords None (Some (enumerator (codes "k") 10 None ∷ []))) 0 []))) ∷ [])) ∷ [])) ((statement_at 16 (Return (Some (name (codes "k") 1 17)))) ∷ []) (outs-Basic (Integer Int true)) BasicSpecifier (file_head _ (whole int_type) (IntegerKind (integer_of 4 true)) false (IntOpen 4 true) (one_named _) (more_parameters (one_parameter _ (whole int_type) (Counted 4 ∷ []) (Array int_type Sized) (Some (scalar 4)) (outs-Basic (Integer Int true)) BasicSpecifier (MoreSizes (SizeOfItems {size = Counted 4} (LoadedValue (Walked (outs-SizeOfType _) (MorePieces (TypeInside (TypeNamed (out-roll-TypeName _) (outs-Enum _ _) (EnumWithConstants refl (MoreEnumerators {outcome = Passes (whole int_type) []} (out-roll-Enumerator _) refl NextValue refl NoEnumerators)) NoSizes (ap is_over (laid_4 true)))) NoPieces) (SizeOfTypeName (ap extent_of (laid_4 true)) (refl, refl, refl))) refl) (seen k_size) refl) NoSizes) (ints_kind 4) (laid_4 true)) NoParameters) refl k_int (λ i. is_struct (k_int i) || (is_struct (k_q i) || false)) (outs-Int 4 true) refl) (last (no_value (statement_at 16 (Return (Some (name (codes "k") 1 17)))) (outs-Return (Some (name (codes "k") 1 17))) refl) (StatementOfParts (outs-Return (Some (name (codes "k") 1 17))) refl (one_part (ValueReturned (returned (LoadedValue (Walked (outs-Name (codes "k")) NoPieces (EnumeratorName refl)) refl) k_int k_int refl))))))));
  behind_parameters = (_, (refused_behind ((DeclareItem (declare Plain (Basic (Integer Int true)) ((declarator (codes "i") 21 0 [] (Some (value_of (name (codes "k") 0 23)))) ∷ []))) ∷ []) (defines Plain (Basic (Integer Int true)) (function_declarator (codes "h") 1 ((parameter_of (Basic (Integer Int true)) 0 (Some (identifier (codes "a") 4)) (Some (node 0 6 (SizeOfType (type_name (EnumWords None (Some (enumerator (codes "k") 10 None ∷ []))) 0 []))) ∷ [])) ∷ [])) ((statement_at 16 (Return (Some (constant (codes "1") 1 17)))) ∷ []) (outs-Basic (Integer Int true)) BasicSpecifier (file_head _ (whole int_type) (IntegerKind (integer_of 4 true)) false (IntOpen 4 true) (one_named _) (more_parameters (one_parameter _ (whole int_type) (Counted 4 ∷ []) (Array int_type Sized) (Some (scalar 4)) (outs-Basic (Integer Int true)) BasicSpecifier (MoreSizes (SizeOfItems {size = Counted 4} (LoadedValue (Walked (outs-SizeOfType _) (MorePieces (TypeInside (TypeNamed (out-roll-TypeName _) (outs-Enum _ _) (EnumWithConstants refl (MoreEnumerators {outcome = Passes (whole int_type) []} (out-roll-Enumerator _) refl NextValue refl NoEnumerators)) NoSizes (ap is_over (laid_4 true)))) NoPieces) (SizeOfTypeName (ap extent_of (laid_4 true)) (refl, refl, refl))) refl) (seen k_size) refl) NoSizes) (ints_kind 4) (laid_4 true)) NoParameters) refl k_int (λ i. is_struct (k_int i) || (is_struct (k_q i) || false)) (outs-Int 4 true) refl) (last (no_value (statement_at 16 (Return (Some (constant (codes "1") 1 17)))) (outs-Return (Some (constant (codes "1") 1 17))) refl) (StatementOfParts (outs-Return (Some (constant (codes "1") 1 17))) refl (one_part (ValueReturned (returned (read_in _ (codes "1") (int_of 1) 1 17 m_1) k_int k_int refl)))))) (ItemRefused (names_badly Plain (Basic (Integer Int true)) (declarator (codes "i") 21 0 [] (Some (value_of (name (codes "k") 0 23)))) [] (outs-Basic (Integer Int true)) BasicSpecifier (file_object_refused _ (whole int_type) [] (WholeType int_type) (Some (scalar 4)) refl refl NoMemberSizes refl refl (laid_4 true) (ap is_some (laid_4 true)) refl (FileInitialised {found = Refused _} (outs-Value (name (codes "k") 0 23) (token 0)) (not_by_value (name (codes "k") 0 23) (ValueRefused (none_of (codes "k") 0 23 refl)))))))));
  returned_outside = (_, (ItemRefused (names_badly Plain (Basic (Integer Int true)) (declarator (codes "i") 1 0 [] (Some (value_of (node 2 3 (Inner ((statement_at 5 (Return (Some (constant (codes "1") 0 6)))) ∷ (statement_at 8 (Eval (Some (constant (codes "1") 1 8)))) ∷ []) (token 10)))))) [] (outs-Basic (Integer Int true)) BasicSpecifier (file_object_refused _ (whole int_type) [] (WholeType int_type) (Some (scalar 4)) refl refl NoMemberSizes refl refl (laid_4 true) (ap is_some (laid_4 true)) refl (FileInitialised {found = Refused _} (outs-Value (node 2 3 (Inner ((statement_at 5 (Return (Some (constant (codes "1") 0 6)))) ∷ (statement_at 8 (Eval (Some (constant (codes "1") 1 8)))) ∷ []) (token 10))) (token 0)) (not_by_value (node 2 3 (Inner ((statement_at 5 (Return (Some (constant (codes "1") 0 6)))) ∷ (statement_at 8 (Eval (Some (constant (codes "1") 1 8)))) ∷ []) (token 10))) (ValueRefused (LoadedRefused (RefusedInside (outs-Inner ((statement_at 5 (Return (Some (constant (codes "1") 0 6)))) ∷ (statement_at 8 (Eval (Some (constant (codes "1") 1 8)))) ∷ []) (token 10)) (RefusedHere (BlockRefused (StatementRefused (followed _ _ _ (outs-Eval (Some _)) refl) (StatementOfParts (outs-Return (Some (constant (codes "1") 0 6))) refl (StatementPartRefused (ValueReturned (ValueTaken true (read_in _ (codes "1") (int_of 1) 0 6 m_1) refl refl (alone _)))))))))))))))));
  in_its_own_body = (_, _, (one_item (defines Plain (Basic (Integer Int true)) (function_declarator (codes "h") 1 []) ((statement_at 6 (Return (Some (node 1 7 (Call (name (codes "h") 0 7) []))))) ∷ []) (outs-Basic (Integer Int true)) BasicSpecifier (file_head _ (whole int_type) (IntegerKind (integer_of 4 true)) false (IntOpen 4 true) refl NoParameters refl k_int (λ i. is_struct (k_int i) || false) (outs-Int 4 true) refl) (last (no_value (statement_at 6 (Return (Some (node 1 7 (Call (name (codes "h") 0 7) []))))) (outs-Return (Some (node 1 7 (Call (name (codes "h") 0 7) [])))) refl) (StatementOfParts (outs-Return (Some (node 1 7 (Call (name (codes "h") 0 7) [])))) refl (one_part (ValueReturned (returned (LoadedValue (Walked (outs-Call (name (codes "h") 0 7) []) (MorePieces (CalledFunction (ap name_in (outs-Name (codes "h"))) refl (refl, refl, refl)) NoPieces) (CallOfFunction NoArguments k_int refl (refl, refl, refl))) refl) k_int k_int refl))))))));
  behind_its_body = (_, _, (more_items ((Function (Basic Void) Plain (function_declarator (codes "k") 8 []) ((statement_at 13 (Eval (Some (node 1 13 (Call (name (codes "h") 0 13) []))))) ∷ []) (token 0)) ∷ []) (defines Plain (Basic Void) (function_declarator (codes "h") 1 []) [] (outs-Basic Void) BasicSpecifier (file_head _ (whole VoidType) VoidKind false VoidOpen refl NoParameters refl k_void (λ i. is_struct (k_void i) || false) outs-Void refl) NoStatements) (one_item (defines Plain (Basic Void) (function_declarator (codes "k") 8 []) ((statement_at 13 (Eval (Some (node 1 13 (Call (name (codes "h") 0 13) []))))) ∷ []) (outs-Basic Void) BasicSpecifier (file_head _ (whole VoidType) VoidKind false VoidOpen refl NoParameters refl k_void (λ i. is_struct (k_void i) || false) outs-Void refl) (LastExpression (ap value_in (outs-Eval (Some (node 1 13 (Call (name (codes "h") 0 13) []))))) refl (LoadedValue (Walked (outs-Call (name (codes "h") 0 13) []) (MorePieces (CalledFunction (ap name_in (outs-Name (codes "h"))) refl (refl, refl, refl)) NoPieces) (CallOfFunction NoArguments k_void refl (refl, refl, refl))) refl) (seen k_void) refl)))));
  built_in = (_, _, (one_item (names_one Plain (Basic Void) (function_declarator (codes "free") 1 ((parameter_of (Basic Void) 1 None []) ∷ [])) (outs-Basic Void) BasicSpecifier (file_function _ refl (file_head _ (whole VoidType) VoidKind false VoidOpen (one_named _) (more_parameters (one_parameter _ (whole VoidType) [] (Pointer VoidType VoidTarget) (Some (scalar 8)) (outs-Basic Void) BasicSpecifier NoSizes k_p (laid_pointer _)) NoParameters) refl k_void (λ i. is_struct (k_void i) || (is_struct (k_p i) || false)) outs-Void refl)))));
  built_in_otherwise = (_, (ItemRefused (names_badly Plain (Basic (Integer Int true)) (function_declarator (codes "free") 1 ((parameter_of (Basic (Integer Int true)) 0 None []) ∷ [])) [] (outs-Basic (Integer Int true)) BasicSpecifier (file_function_refused _ refl (file_head_broken _ (whole int_type) (IntegerKind (integer_of 4 true)) false (IntOpen 4 true) true (more_parameters (one_parameter _ (whole int_type) [] (IntegerKind (integer_of 4 true)) (Some (scalar 4)) (outs-Basic (Integer Int true)) BasicSpecifier NoSizes k_int (laid_4 true)) NoParameters) free_differs k_int (λ i. is_struct (k_int i) || (is_struct (k_int i) || false)) (outs-Int 4 true) (alone _))))));
  array_as_result = (_, (ItemRefused (names_badly Plain (OfExpr (name (codes "row") 0 2)) (function_declarator (codes "h") 4 []) [] (outs-OfExpr _) (TypeofExpression (UnloadedOperand (object_in _ (codes "row") (object (ArrayType char_type 3)) 0 2 refl (ap is_some (laid_chars 3)) refl refl))) (file_function_refused _ refl (file_head_broken _ (whole (ArrayType char_type 3)) (Array char_type Sized) false (ArrayOpen char_type 3) false NoParameters refl (k_row 3) (λ i. is_struct (k_row 3 i) || false) (outs-Array char_type 3) (alone _))))));
  head_behind_body = (_, _, (more_items ((DeclareItem (declare Plain (Basic (Integer Int true)) ((function_declarator (codes "h") 11 []) ∷ []))) ∷ []) (defines Plain (Basic (Integer Int true)) (function_declarator (codes "h") 1 []) ((statement_at 6 (Return (Some (constant (codes "1") 0 7)))) ∷ []) (outs-Basic (Integer Int true)) BasicSpecifier (file_head _ (whole int_type) (IntegerKind (integer_of 4 true)) false (IntOpen 4 true) refl NoParameters refl k_int (λ i. is_struct (k_int i) || false) (outs-Int 4 true) refl) (last (no_value (statement_at 6 (Return (Some (constant (codes "1") 0 7)))) (outs-Return (Some (constant (codes "1") 0 7))) refl) (StatementOfParts (outs-Return (Some (constant (codes "1") 0 7))) refl (one_part (ValueReturned (returned (read_in _ (codes "1") (int_of 1) 0 7 m_1) k_int k_int refl)))))) (one_item (names_one Plain (Basic (Integer Int true)) (function_declarator (codes "h") 11 []) (outs-Basic (Integer Int true)) BasicSpecifier (file_function _ refl (file_head _ (whole int_type) (IntegerKind (integer_of 4 true)) false (IntOpen 4 true) refl NoParameters refl k_int (λ i. is_struct (k_int i) || false) (outs-Int 4 true) refl))))));
  two_bodies_in_a_row = (_, (refused_behind ((Function (Basic (Integer Int true)) Plain (function_declarator (codes "h") 11 []) ((statement_at 16 (Return (Some (constant (codes "2") 1 17)))) ∷ []) (token 0)) ∷ []) (defines Plain (Basic (Integer Int true)) (function_declarator (codes "h") 1 []) ((statement_at 6 (Return (Some (constant (codes "1") 0 7)))) ∷ []) (outs-Basic (Integer Int true)) BasicSpecifier (file_head _ (whole int_type) (IntegerKind (integer_of 4 true)) false (IntOpen 4 true) refl NoParameters refl k_int (λ i. is_struct (k_int i) || false) (outs-Int 4 true) refl) (last (no_value (statement_at 6 (Return (Some (constant (codes "1") 0 7)))) (outs-Return (Some (constant (codes "1") 0 7))) refl) (StatementOfParts (outs-Return (Some (constant (codes "1") 0 7))) refl (one_part (ValueReturned (returned (read_in _ (codes "1") (int_of 1) 0 7 m_1) k_int k_int refl)))))) (ItemRefused (head_refused Plain (Basic (Integer Int true)) (function_declarator (codes "h") 11 []) ((statement_at 16 (Return (Some (constant (codes "2") 1 17)))) ∷ []) (outs-Basic (Integer Int true)) BasicSpecifier (file_head_broken _ (whole int_type) (IntegerKind (integer_of 4 true)) false (IntOpen 4 true) false NoParameters refl k_int (λ i. is_struct (k_int i) || false) (outs-Int 4 true) (alone _))))));
  incomplete_where_used = (_, (refused_behind ((Function (Basic (Integer Int true)) Plain (function_declarator (codes "h") 7 []) ((statement_at 12 (Eval (Some (name (codes "a") 0 12)))) ∷ (statement_at 14 (Return (Some (constant (codes "0") 1 15)))) ∷ []) (token 0)) ∷ []) (names_one Extern (Basic (Integer Int true)) (declarator (codes "a") 2 0 (None ∷ []) None) (outs-Basic (Integer Int true)) BasicSpecifier (file_object _ (whole int_type) (LeftOut ∷ []) (ItemsOf int_type) (Some (repeated 1 (scalar 4))) refl refl (MoreMemberSizes MemberSizeLeftOut NoMemberSizes) refl refl (ints_laid structs 1) refl refl FileNotInitialised)) (ItemRefused (body_refused Plain (Basic (Integer Int true)) (function_declarator (codes "h") 7 []) ((statement_at 12 (Eval (Some (name (codes "a") 0 12)))) ∷ (statement_at 14 (Return (Some (constant (codes "0") 1 15)))) ∷ []) (outs-Basic (Integer Int true)) BasicSpecifier (file_head _ (whole int_type) (IntegerKind (integer_of 4 true)) false (IntOpen 4 true) refl NoParameters refl k_int (λ i. is_struct (k_int i) || false) (outs-Int 4 true) refl) (StatementRefused (followed _ _ _ (outs-Return (Some (constant (codes "0") 1 15))) refl) (not_evaluated (name (codes "a") 0 12) (ValueRefused (LoadedRefused (Walked (outs-Name (codes "a")) NoPieces (ObjectName refl refl (alone _)))))))))));
  size_of_an_inner_block = (_, (refused_behind ((Function (Basic (Integer Int true)) Plain (function_declarator (codes "h") 7 []) ((statement_at 12 (Block ((statement_at 13 (Declare (declare Extern (Basic (Integer Int true)) ((declarator (codes "a") 15 0 (Some (constant (codes "3") 0 17) ∷ []) None) ∷ [])))) ∷ []))) ∷ (statement_at 21 (Eval (Some (name (codes "a") 1 21)))) ∷ (statement_at 23 (Return (Some (constant (codes "0") 2 24)))) ∷ []) (token 0)) ∷ []) (names_one Extern (Basic (Integer Int true)) (declarator (codes "a") 2 0 (None ∷ []) None) (outs-Basic (Integer Int true)) BasicSpecifier (file_object _ (whole int_type) (LeftOut ∷ []) (ItemsOf int_type) (Some (repeated 1 (scalar 4))) refl refl (MoreMemberSizes MemberSizeLeftOut NoMemberSizes) refl refl (ints_laid structs 1) refl refl FileNotInitialised)) (ItemRefused (body_refused Plain (Basic (Integer Int true)) (function_declarator (codes "h") 7 []) ((statement_at 12 (Block ((statement_at 13 (Declare (declare Extern (Basic (Integer Int true)) ((declarator (codes "a") 15 0 (Some (constant (codes "3") 0 17) ∷ []) None) ∷ [])))) ∷ []))) ∷ (statement_at 21 (Eval (Some (name (codes "a") 1 21)))) ∷ (statement_at 23 (Return (Some (constant (codes "0") 2 24)))) ∷ []) (outs-Basic (Integer Int true)) BasicSpecifier (file_head _ (whole int_type) (IntegerKind (integer_of 4 true)) false (IntOpen 4 true) refl NoParameters refl k_int (λ i. is_struct (k_int i) || false) (outs-Int 4 true) refl) (StatementsRefused _ (followed _ _ _ (outs-Eval (Some _)) refl) (in_braces ((statement_at 13 (Declare (declare Extern (Basic (Integer Int true)) ((declarator (codes "a") 15 0 (Some (constant (codes "3") 0 17) ∷ []) None) ∷ [])))) ∷ []) (last (no_value (statement_at 13 (Declare (declare Extern (Basic (Integer Int true)) ((declarator (codes "a") 15 0 (Some (constant (codes "3") 0 17) ∷ []) None) ∷ [])))) (outs-Declare _) refl) (declares Extern (Basic (Integer Int true)) (declarator (codes "a") 15 0 (Some (constant (codes "3") 0 17) ∷ []) None) (outs-Basic (Integer Int true)) refl BasicSpecifier (linked _ (whole int_type) (Counted 3 ∷ []) (Array int_type Sized) (Some (repeated 3 (scalar 4))) refl (FixedSizes (MoreMemberSizes (MemberSizeGiven {size = Counted 3} (SizeOfItems {size = Counted 3} (read_in _ (codes "3") (int_of 3) 0 17 m_3) (seen k_int) refl)) NoMemberSizes)) (ap items_in (outs-Array int_type 3)) refl (ints_laid structs 3) (ints_kind 3) refl NotInitialised)))) (StatementRefused (followed _ _ _ (outs-Return (Some (constant (codes "0") 2 24))) refl) (not_evaluated (name (codes "a") 1 21) (ValueRefused (LoadedRefused (Walked (outs-Name (codes "a")) NoPieces (ObjectName refl refl (alone _))))))))))));
  complete_where_used = (_, _, (more_items ((Function (Basic (Integer Int true)) Plain (function_declarator (codes "h") 7 []) ((statement_at 12 (Eval (Some (name (codes "a") 0 12)))) ∷ (statement_at 14 (Return (Some (constant (codes "0") 1 15)))) ∷ []) (token 0)) ∷ []) (names_one Plain (Basic (Integer Int true)) (declarator (codes "a") 1 0 (Some (constant (codes "3") 0 3) ∷ []) None) (outs-Basic (Integer Int true)) BasicSpecifier (file_object _ (whole int_type) ((Counted 3) ∷ []) (WholeType (ArrayType int_type 3)) (Some (repeated 3 (scalar 4))) refl refl (MoreMemberSizes (MemberSizeGiven (SizeOfItems (read_in _ (codes "3") (int_of 3) 0 3 m_3) (seen k_int) refl)) NoMemberSizes) refl refl (ints_laid structs 3) (ap is_some (ints_laid structs 3)) refl FileNotInitialised)) (one_item (defines Plain (Basic (Integer Int true)) (function_declarator (codes "h") 7 []) ((statement_at 12 (Eval (Some (name (codes "a") 0 12)))) ∷ (statement_at 14 (Return (Some (constant (codes "0") 1 15)))) ∷ []) (outs-Basic (Integer Int true)) BasicSpecifier (file_head _ (whole int_type) (IntegerKind (integer_of 4 true)) false (IntOpen 4 true) refl NoParameters refl k_int (λ i. is_struct (k_int i) || false) (outs-Int 4 true) refl) (MoreStatements _ (followed _ _ _ (outs-Return (Some (constant (codes "0") 1 15))) refl) (evaluated (name (codes "a") 0 12) (dropped (loaded_in _ (codes "a") (own_object 1 true (WholeType (ArrayType int_type 3))) 0 12 refl (ap is_some (ints_laid structs 3)) refl refl) (ints_kind 3) refl)) (last (no_value (statement_at 14 (Return (Some (constant (codes "0") 1 15)))) (outs-Return (Some (constant (codes "0") 1 15))) refl) (StatementOfParts (outs-Return (Some (constant (codes "0") 1 15))) refl (one_part (ValueReturned (returned (read_in _ (codes "0") (int_of 0) 1 15 m_0) k_int k_int refl))))))))));
  tag_of_a_head = (_, (refused_behind ((DeclareItem (declare Plain (StructWords (Some (identifier (codes "q") 10)) None) [])) ∷ (Function (Basic Void) Plain (function_declarator (codes "k") 13 ((parameter_of (StructWords (Some (identifier (codes "q") 16)) None) 1 (Some (identifier (codes "a") 18)) []) ∷ [])) [] (token 0)) ∷ []) (names_one Plain (Basic Void) (function_declarator (codes "k") 1 ((parameter_of (StructWords (Some (identifier (codes "q") 4)) None) 1 (Some (identifier (codes "a") 6)) []) ∷ [])) (outs-Basic Void) BasicSpecifier (file_function _ refl (file_head _ (whole VoidType) VoidKind false VoidOpen (one_named _) (more_parameters (one_parameter _ (whole (StructType 3)) [] (Pointer (StructType 3) (target_of with_q (StructType 3))) (Some (scalar 8)) (outs-Struct _ _) (StructDeclared refl) NoSizes ((are_kinds with_q).pointer (StructType 3)) (pointer_laid with_q _)) NoParameters) refl ((are_kinds with_q).void) (λ i. is_struct ((are_kinds with_q).void i) || (is_struct ((are_kinds with_q).pointer (StructType 3) i) || false)) outs-Void refl))) (refused_behind ((Function (Basic Void) Plain (function_declarator (codes "k") 13 ((parameter_of (StructWords (Some (identifier (codes "q") 16)) None) 1 (Some (identifier (codes "a") 18)) []) ∷ [])) [] (token 0)) ∷ []) (NamelessItem (out-roll-Decl _) refl (TagAlone {parts = record { storage = Plain; spec = (StructWords (Some (identifier (codes "q") 10)) None); names = [] }} {name = identifier (codes "q") 10} (out-roll-Decl _) (outs-Struct (Some (identifier (codes "q") 10)) None) refl refl)) (ItemRefused (head_refused Plain (Basic Void) (function_declarator (codes "k") 13 ((parameter_of (StructWords (Some (identifier (codes "q") 16)) None) 1 (Some (identifier (codes "a") 18)) []) ∷ [])) [] (outs-Basic Void) BasicSpecifier (file_head_broken _ (whole VoidType) VoidKind false VoidOpen true (more_parameters (one_parameter _ (whole (StructType 4)) [] (Pointer (StructType 4) (target_of with_both (StructType 4))) (Some (scalar 8)) (outs-Struct _ _) (StructSpecifier refl) NoSizes ((are_kinds with_both).pointer (StructType 4)) (pointer_laid with_both _)) NoParameters) pointers_differ ((are_kinds with_both).void) (λ i. is_struct ((are_kinds with_both).void i) || (is_struct ((are_kinds with_both).pointer (StructType 4) i) || false)) outs-Void (alone _)))))));
  tag_before_a_head = (_, _, (more_items ((DeclareItem (declare Plain (Basic Void) ((function_declarator (codes "k") 4 ((parameter_of (StructWords (Some (identifier (codes "q") 7)) None) 1 (Some (identifier (codes "a") 9)) []) ∷ [])) ∷ []))) ∷ (Function (Basic Void) Plain (function_declarator (codes "k") 13 ((parameter_of (StructWords (Some (identifier (codes "q") 16)) None) 1 (Some (identifier (codes "a") 18)) []) ∷ [])) [] (token 0)) ∷ []) (NamelessItem (out-roll-Decl _) refl (TagAlone {parts = record { storage = Plain; spec = (StructWords (Some (identifier (codes "q") 1)) None); names = [] }} {name = identifier (codes "q") 1} (out-roll-Decl _) (outs-Struct (Some (identifier (codes "q") 1)) None) refl refl)) (more_items ((Function (Basic Void) Plain (function_declarator (codes "k") 13 ((parameter_of (StructWords (Some (identifier (codes "q") 16)) None) 1 (Some (identifier (codes "a") 18)) []) ∷ [])) [] (token 0)) ∷ []) (names_one Plain (Basic Void) (function_declarator (codes "k") 4 ((parameter_of (StructWords (Some (identifier (codes "q") 7)) None) 1 (Some (identifier (codes "a") 9)) []) ∷ [])) (outs-Basic Void) BasicSpecifier (file_function _ refl (file_head _ (whole VoidType) VoidKind false VoidOpen (one_named _) (more_parameters (one_parameter _ (whole (StructType 3)) [] (Pointer (StructType 3) (target_of with_q (StructType 3))) (Some (scalar 8)) (outs-Struct _ _) (StructSpecifier refl) NoSizes ((are_kinds with_q).pointer (StructType 3)) (pointer_laid with_q _)) NoParameters) refl ((are_kinds with_q).void) (λ i. is_struct ((are_kinds with_q).void i) || (is_struct ((are_kinds with_q).pointer (StructType 3) i) || false)) outs-Void refl))) (one_item (defines Plain (Basic Void) (function_declarator (codes "k") 13 ((parameter_of (StructWords (Some (identifier (codes "q") 16)) None) 1 (Some (identifier (codes "a") 18)) []) ∷ [])) [] (outs-Basic Void) BasicSpecifier (file_head _ (whole VoidType) VoidKind false VoidOpen (one_named _) (more_parameters (one_parameter _ (whole (StructType 3)) [] (Pointer (StructType 3) (target_of with_q (StructType 3))) (Some (scalar 8)) (outs-Struct _ _) (StructSpecifier refl) NoSizes ((are_kinds with_q).pointer (StructType 3)) (pointer_laid with_q _)) NoParameters) refl ((are_kinds with_q).void) (λ i. is_struct ((are_kinds with_q).void i) || (is_struct ((are_kinds with_q).pointer (StructType 3) i) || false)) outs-Void refl) NoStatements)))));
}
