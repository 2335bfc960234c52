-- Initialisers of the examples.
use Rattle.std.proofs.Common.{◌≡◌, ℕ, true, false, List, [], ◌∷◌, ◌++◌, Option, Some, None, refl, ap, ◌∙◌, arith}
use Rattle.std.specs.Prelude.{◌+◌, ◌&&◌, not, codes, is_some, nat_eq}
use Rattle.std.specs.Option.{option_map_or}
use Rattle.cbase.specs.declared.abi.Abi.TheVariants.{Lp64}
use Rattle.cbase.specs.declared.ctype.CType.{CType}
use Rattle.cbase.specs.declared.ctype.CType.TheVariants.{Void as VoidType, Bool as BoolType, Pointer as PointerType, Struct as StructType, Array as ArrayType}
use Rattle.cbase.specs.declared.ctype.CType.TheOpen.{CType-F}
use Rattle.cbase.specs.declared.ctype.CType.TheViews.{out-CType, outs-Array, outs-Int, outs-Pointer, outs-Struct as outs-StructType}
use Rattle.cbase.specs.declared.layout.Layout.{Layout}
use Rattle.cbase.specs.declared.tree.decl.Storage.TheVariants.{Plain, Typedef, Extern, Static}
use Rattle.cbase.specs.declared.tree.expr.ExprForm.TheVariants.{Unary, Binary, Cast, SizeOf, Index}
use Rattle.cbase.specs.declared.tree.expr.ExprForm.TheViews.{outs-Name, outs-Unary, outs-Binary, outs-Cast, outs-SizeOf, outs-Index, outs-Declare, outs-Basic, outs-Struct, outs-Value, outs-Braces, out-roll-TypeName, out-roll-InitPart}
use Rattle.cbase.specs.declared.tree.init.Init.TheVariants.{Braces}
use Rattle.cbase.specs.declared.tree.operators.BinaryOp.TheVariants.{Add}
use Rattle.cbase.specs.declared.tree.operators.UnaryOp.TheVariants.{Address}
use Rattle.cbase.specs.declared.tree.spec.BasicType.TheVariants.{Void, Bool, Integer}
use Rattle.cbase.specs.declared.tree.spec.Rank.TheVariants.{Char, Int}
use Rattle.cbase.specs.declared.tree.spec.TypeSpec.TheVariants.{Basic, Struct as StructWords}
use Rattle.cbase.specs.declared.tree.stmt.StmtForm.TheVariants.{Declare}
use Rattle.cbase.specs.Layout.{no_fields, scalar, repeated}
use Rattle.cbase.specs.Offset.{fields_of, offset_of, offset_behind}
use Rattle.typing.specs.declared.ctypes.found.Broken.TheVariants.{Construct, Rule}
use Rattle.typing.specs.declared.ctypes.kind.Target.TheVariants.{Sized}
use Rattle.typing.specs.ctypes.Binary.{int_type}
use Rattle.typing.specs.ctypes.Integers.{integer as integer_of}
use Rattle.typing.specs.ctypes.Kinds.{Integer as IntegerKind, Struct as StructKind, Array, kind_of, target_in}
use Rattle.typing.proofs.ctypes.ShapeKinds.{are_kinds}
use Rattle.typing.specs.declared.size.Size.TheVariants.{Counted, LeftOut}
use Rattle.typing.specs.Entities.{ObjectEntity, WholeType}
use Rattle.typing.specs.ExamplesOfInitialisers.{AreInitialisers}
use Rattle.typing.specs.Faults.{fault, unless}
use Rattle.typing.specs.Initialisers.{Slot, Sets, Items, AsValue, Ends, IsConstant, filled_of, EndsThere, filled_in, leads, is_array_type, is_pointer_type}
use Rattle.typing.specs.Known.{behind}
use Rattle.typing.specs.NamedTypes.{whole, is_over}
use Rattle.typing.specs.Nodes.{object_type, object_known, constant_known}
use Rattle.typing.specs.Outcomes.{StoreHanded, Passes, Refused}
use Rattle.typing.specs.Rules.{ObjectName, Subscript, AddressOf, CastToType, AdditionOperator}
use Rattle.typing.specs.Sample.{object, own_object, char_type, token, node, name, constant, identifier, type_name, statement_at, declare, declarator, value_of, part, part_named}
use Rattle.typing.specs.Typing.{RefusedInside, Walked, NoPieces, MorePieces, RefusedHere, LoadedValue, LoadedRefused, UnloadedOperand, UnloadedRefused, TypeInside, TypeNamed, StatementsRefused, StatementRefused, BasicSpecifier, StructSpecifier, NoSizes, SizeLeftOut, MoreSizes, SizeOfItems, NoMemberSizes, FixedSizes, AnySizes, NotInitialised, ObjectInitialised, ArrayInitialised, ArrayOfWrongSize, ArrayPartsRefused, ArrayByValue, LinkedInitialised, TypeInitialised, BracesFill, BracesTooMany, NoMoreParts, PartSets, PartRefused, NoMemberToSet, NothingToSet, SurplusValue, NoSurplusValue, SurplusPart, ValueRefused, SurplusBraces}
use Rattle.typing.proofs.SampleFacts.{structs, both, alone, seen, k_int, k_bool, laid_bool, k_char, laid_v, k_p, k_q, k_s, k_chars, k_row, laid_4, laid_1, laid_s, laid_chars, laid_pointer, int_of, read_in, loaded_in, object_in, m_0, m_1, m_2, m_3, m_70000}
use Rattle.typing.proofs.StatementFacts.{ints_laid, an_int, a_struct, a_pointer, none_of, refused_in_braces, followed, no_value}
use Rattle.typing.proofs.DeclarationFacts.{declares, refuses, automatic, not_automatic, automatic_refused, static, static_refused, left_open, left_open_refused, linked_refused, typedef_refused}
use Rattle.typing.proofs.InitialiserFacts.{stored_well, stored_badly, fixed_well, fixed_not, fixed_test, fixed_badly, for_nothing, by_value, not_by_value, int_filled, struct_filled, ints_filled, a_slot, b_slot, sets_a, sets_b, set_part, broken_behind_part, set_named, broken_behind_named, too_many, of_ints, of_value, of_address, of_cast, of_binary, of_name, of_item}

-- an array of ints
ints_kind : (count : ℕ) → kind_of structs (ArrayType int_type count) ≡ Array int_type Sized
ints_kind count = (are_kinds structs).array int_type count ∙ ap (Array int_type) (λ i. target_in (outs-Int 4 true i) (is_some (laid_4 true i)))

-- the name of an object as a constant
name_leads : (entity : ObjectEntity) (bytes : List ℕ) (at : ℕ) {shape : CType-F CType} → out-CType (object_type entity.ctype) ≡ shape
    → IsConstant (behind [] 0 (object_known entity)) AsValue (name bytes 0 at) (entity.fixed && is_array_type shape)
name_leads entity bytes at e =
    EndsThere (ap (leads (behind [] 0 (object_known entity)) AsValue 0) (outs-Name bytes) ∙ ap (λ (t : CType-F CType). Ends (entity.fixed && is_array_type t)) e)

-- the members of `struct v`
abbrev e_slot : Slot
e_slot = record { ctype = ArrayType char_type 3; offset = 4; braces = true }

v_a : Sets 0 (record { ctype = int_type; offset = 0 + option_map_or (λ (bytes : ℕ). bytes) (offset_of Lp64 structs (fields_of structs 2) 0) 0; braces = true }) ≡ Sets 0 a_slot
v_a = ap (λ (o : Option ℕ). Sets 0 (record { ctype = int_type; offset = 0 + option_map_or (λ (bytes : ℕ). bytes) o 0; braces = true }))
    (both (λ (o p : Option Layout). offset_behind no_fields (o ∷ p ∷ []) 0) _ _ _ _ (laid_4 true) (laid_chars 3))

v_e : Sets 1 (record { ctype = ArrayType char_type 3; offset = 0 + option_map_or (λ (bytes : ℕ). bytes) (offset_of Lp64 structs (fields_of structs 2) 1) 0; braces = true }) ≡ Sets 1 e_slot
v_e = ap (λ (o : Option ℕ). Sets 1 (record { ctype = ArrayType char_type 3; offset = 0 + option_map_or (λ (bytes : ℕ). bytes) o 0; braces = true }))
    (both (λ (o p : Option Layout). offset_behind no_fields (o ∷ p ∷ []) 1) _ _ _ _ (laid_4 true) (laid_chars 3))

e_filled : filled_of Lp64 structs e_slot ≡ Some (Items 4 char_type 3 1)
e_filled = ap (filled_in Lp64 structs e_slot) (outs-Array char_type 3) ∙ ap (λ (o : Option Layout). Some (Items 4 char_type 3 (option_map_or (λ (layout : Layout). layout.size) o 0))) (laid_1 true)

pub are_initialisers : AreInitialisers
are_initialisers = record {
  value = ((behind [] 0 (constant_known (int_of 1)) ++ StoreHanded (record { object = 1; offset = 0; ctype = int_type; number = 0 }) ∷ []), _, _, (declares Plain (Basic (Integer Int true)) (declarator (codes "i") 1 0 [] (Some (value_of (constant (codes "1") 0 3)))) (outs-Basic (Integer Int true)) refl BasicSpecifier (automatic _ (whole int_type) [] (Some (scalar 4)) refl (AnySizes NoSizes) refl refl (laid_4 true) refl (ObjectInitialised {found = Passes _ _} (outs-Value (constant (codes "1") 0 3) (token 0)) (by_value (constant (codes "1") 0 3) (stored_well (read_in _ (codes "1") (int_of 1) 0 3 m_1) k_int k_int refl))))), refl, refl);
  not_converted = (_, (refuses Plain (Basic (Integer Int true)) (declarator (codes "i") 1 0 [] (Some (value_of (name (codes "p") 0 3)))) (outs-Basic (Integer Int true)) refl BasicSpecifier (automatic_refused _ (whole int_type) [] (Some (scalar 4)) refl (AnySizes NoSizes) refl refl (laid_4 true) refl (ObjectInitialised {found = Refused _} (outs-Value (name (codes "p") 0 3) (token 0)) (not_by_value (name (codes "p") 0 3) (stored_badly (a_pointer 0 3 refl) k_int k_p refl))))));
  undeclared = (_, (refuses Plain (Basic (Integer Int true)) (declarator (codes "i") 1 0 [] (Some (value_of (name (codes "y") 0 3)))) (outs-Basic (Integer Int true)) refl BasicSpecifier (automatic_refused _ (whole int_type) [] (Some (scalar 4)) refl (AnySizes NoSizes) refl refl (laid_4 true) refl (ObjectInitialised {found = Refused _} (outs-Value (name (codes "y") 0 3) (token 0)) (not_by_value (name (codes "y") 0 3) (ValueRefused (none_of (codes "y") 0 3 refl)))))));
  of_itself = (_, _, (declares Plain (Basic Void) (declarator (codes "i") 2 1 [] (Some (value_of (node 1 4 (Unary Address (name (codes "i") 0 5)))))) (outs-Basic Void) refl BasicSpecifier (automatic _ (whole VoidType) [] (Some (scalar 8)) refl (AnySizes NoSizes) refl refl (laid_pointer VoidType) refl (ObjectInitialised {found = Passes _ _} (outs-Value (node 1 4 (Unary Address (name (codes "i") 0 5))) (token 0)) (by_value (node 1 4 (Unary Address (name (codes "i") 0 5))) (stored_well (LoadedValue (Walked (outs-Unary Address (name (codes "i") 0 5)) (MorePieces (UnloadedOperand (object_in _ (codes "i") (own_object 2 false (WholeType (PointerType VoidType))) 0 5 refl (ap is_some (laid_pointer VoidType)) refl refl)) NoPieces) (AddressOf refl)) refl) k_p ((are_kinds structs).pointer (PointerType VoidType)) refl))))));
  in_braces = ((behind [] 0 (constant_known (int_of 1)) ++ StoreHanded (record { object = 1; offset = 0; ctype = int_type; number = 0 }) ∷ []), _, _, (declares Plain (Basic (Integer Int true)) (declarator (codes "i") 1 0 [] (Some (Braces (part (value_of (constant (codes "1") 0 4)) ∷ [])))) (outs-Basic (Integer Int true)) refl BasicSpecifier (automatic _ (whole int_type) [] (Some (scalar 4)) refl (AnySizes NoSizes) refl refl (laid_4 true) refl (ObjectInitialised {found = Passes _ _} (outs-Braces (part (value_of (constant (codes "1") 0 4)) ∷ [])) (BracesFill (outs-Braces (part (value_of (constant (codes "1") 0 4)) ∷ [])) (int_filled _ refl refl) (set_part (record { ctype = int_type; offset = 0; braces = false }) refl (by_value (constant (codes "1") 0 4) (stored_well (read_in _ (codes "1") (int_of 1) 0 4 m_1) k_int k_int refl)) NoMoreParts))))), refl, refl);
  empty_braces = (_, (refuses Plain (Basic (Integer Int true)) (declarator (codes "i") 1 0 [] (Some (Braces []))) (outs-Basic (Integer Int true)) refl BasicSpecifier (automatic_refused _ (whole int_type) [] (Some (scalar 4)) refl (AnySizes NoSizes) refl refl (laid_4 true) refl (ObjectInitialised {found = Refused _} (outs-Braces []) (BracesFill (outs-Braces []) (int_filled _ refl refl) NoMoreParts)))));
  value_too_many = (_, (refuses Plain (Basic (Integer Int true)) (declarator (codes "i") 1 0 [] (Some (Braces (part (value_of (constant (codes "1") 0 4)) ∷ part (value_of (constant (codes "2") 1 6)) ∷ [])))) (outs-Basic (Integer Int true)) refl BasicSpecifier (automatic_refused _ (whole int_type) [] (Some (scalar 4)) refl (AnySizes NoSizes) refl refl (laid_4 true) refl (ObjectInitialised {found = Refused _} (outs-Braces (part (value_of (constant (codes "1") 0 4)) ∷ part (value_of (constant (codes "2") 1 6)) ∷ [])) (BracesFill (outs-Braces (part (value_of (constant (codes "1") 0 4)) ∷ part (value_of (constant (codes "2") 1 6)) ∷ [])) (int_filled _ refl refl) (broken_behind_part (record { ctype = int_type; offset = 0; braces = false }) refl (by_value (constant (codes "1") 0 4) (stored_well (read_in _ (codes "1") (int_of 1) 0 4 m_1) k_int k_int refl)) (too_many (constant (codes "2") 1 6) refl (read_in _ (codes "2") (int_of 2) 1 6 m_2))))))));
  value_too_many_first = (_, (refuses Plain (Basic (Integer Int true)) (declarator (codes "i") 1 0 [] (Some (Braces (part (value_of (constant (codes "1") 0 4)) ∷ part (value_of (name (codes "y") 1 6)) ∷ [])))) (outs-Basic (Integer Int true)) refl BasicSpecifier (automatic_refused _ (whole int_type) [] (Some (scalar 4)) refl (AnySizes NoSizes) refl refl (laid_4 true) refl (ObjectInitialised {found = Refused _} (outs-Braces (part (value_of (constant (codes "1") 0 4)) ∷ part (value_of (name (codes "y") 1 6)) ∷ [])) (BracesFill (outs-Braces (part (value_of (constant (codes "1") 0 4)) ∷ part (value_of (name (codes "y") 1 6)) ∷ [])) (int_filled _ refl refl) (broken_behind_part (record { ctype = int_type; offset = 0; braces = false }) refl (by_value (constant (codes "1") 0 4) (stored_well (read_in _ (codes "1") (int_of 1) 0 4 m_1) k_int k_int refl)) (NothingToSet (out-roll-InitPart _) refl (SurplusPart (out-roll-InitPart _) (SurplusValue (outs-Value (name (codes "y") 1 6) (token 0)) (ValueRefused (none_of (codes "y") 1 6 refl)))))))))));
  braces_too_many = (_, (refuses Plain (Basic (Integer Int true)) (declarator (codes "i") 1 0 [] (Some (Braces (part (Braces (part (value_of (constant (codes "1") 0 5)) ∷ [])) ∷ [])))) (outs-Basic (Integer Int true)) refl BasicSpecifier (automatic_refused _ (whole int_type) [] (Some (scalar 4)) refl (AnySizes NoSizes) refl refl (laid_4 true) refl (ObjectInitialised {found = Refused _} (outs-Braces (part (Braces (part (value_of (constant (codes "1") 0 5)) ∷ [])) ∷ [])) (BracesFill (outs-Braces (part (Braces (part (value_of (constant (codes "1") 0 5)) ∷ [])) ∷ [])) (int_filled _ refl refl) (PartRefused (out-roll-InitPart _) refl (BracesTooMany (outs-Braces (part (value_of (constant (codes "1") 0 5)) ∷ [])) (ap (filled_in Lp64 structs (record { ctype = int_type; offset = 0; braces = false })) (outs-Int 4 true)) (SurplusPart (out-roll-InitPart _) (SurplusValue (outs-Value (constant (codes "1") 0 5) (token 0)) (for_nothing (read_in _ (codes "1") (int_of 1) 0 5 m_1)))))))))));
  empty_braces_too_many = (_, (refuses Plain (Basic (Integer Int true)) (declarator (codes "i") 1 0 [] (Some (Braces (part (Braces []) ∷ [])))) (outs-Basic (Integer Int true)) refl BasicSpecifier (automatic_refused _ (whole int_type) [] (Some (scalar 4)) refl (AnySizes NoSizes) refl refl (laid_4 true) refl (ObjectInitialised {found = Refused _} (outs-Braces (part (Braces []) ∷ [])) (BracesFill (outs-Braces (part (Braces []) ∷ [])) (int_filled _ refl refl) (PartRefused (out-roll-InitPart _) refl (BracesTooMany (outs-Braces []) (ap (filled_in Lp64 structs (record { ctype = int_type; offset = 0; braces = false })) (outs-Int 4 true)) NoSurplusValue)))))));
  designator_of_int = (_, (refuses Plain (Basic (Integer Int true)) (declarator (codes "i") 1 0 [] (Some (Braces (part_named (codes "x") 5 (value_of (constant (codes "1") 0 7)) ∷ [])))) (outs-Basic (Integer Int true)) refl BasicSpecifier (automatic_refused _ (whole int_type) [] (Some (scalar 4)) refl (AnySizes NoSizes) refl refl (laid_4 true) refl (ObjectInitialised {found = Refused _} (outs-Braces (part_named (codes "x") 5 (value_of (constant (codes "1") 0 7)) ∷ [])) (BracesFill (outs-Braces (part_named (codes "x") 5 (value_of (constant (codes "1") 0 7)) ∷ [])) (int_filled _ refl refl) (NoMemberToSet (out-roll-InitPart _) refl))))));
  members = ((behind [] 0 (constant_known (int_of 1)) ++ (StoreHanded (record { object = 2; offset = 0; ctype = int_type; number = 0 }) ∷ [] ++ (behind [] 1 (constant_known (int_of 0)) ++ StoreHanded (record { object = 2; offset = 8; ctype = (PointerType char_type); number = 1 }) ∷ []))), _, _, (declares Plain (StructWords (Some (identifier (codes "s") 1)) None) (declarator (codes "i") 2 0 [] (Some (Braces (part (value_of (constant (codes "1") 0 5)) ∷ part (value_of (constant (codes "0") 1 7)) ∷ [])))) (outs-Struct _ _) refl (StructSpecifier refl) (automatic _ (whole (StructType 0)) [] (Some (record { size = 16; alignment = 8 })) refl (AnySizes NoSizes) refl refl laid_s refl (ObjectInitialised {found = Passes _ _} (outs-Braces (part (value_of (constant (codes "1") 0 5)) ∷ part (value_of (constant (codes "0") 1 7)) ∷ [])) (BracesFill (outs-Braces (part (value_of (constant (codes "1") 0 5)) ∷ part (value_of (constant (codes "0") 1 7)) ∷ [])) (struct_filled 0) (set_part a_slot sets_a (by_value (constant (codes "1") 0 5) (stored_well (read_in _ (codes "1") (int_of 1) 0 5 m_1) k_int k_int refl)) (set_part b_slot sets_b (by_value (constant (codes "0") 1 7) (stored_well (read_in _ (codes "0") (int_of 0) 1 7 m_0) k_chars k_int refl)) NoMoreParts)))))), refl, refl);
  no_members = ([], _, _, (declares Plain (StructWords (Some (identifier (codes "s") 1)) None) (declarator (codes "i") 2 0 [] (Some (Braces []))) (outs-Struct _ _) refl (StructSpecifier refl) (automatic _ (whole (StructType 0)) [] (Some (record { size = 16; alignment = 8 })) refl (AnySizes NoSizes) refl refl laid_s refl (ObjectInitialised {found = Passes _ _} (outs-Braces []) (BracesFill (outs-Braces []) (struct_filled 0) NoMoreParts)))), refl, refl);
  designated = ((behind [] 0 (constant_known (int_of 0)) ++ StoreHanded (record { object = 2; offset = 8; ctype = (PointerType char_type); number = 0 }) ∷ []), _, _, (declares Plain (StructWords (Some (identifier (codes "s") 1)) None) (declarator (codes "i") 2 0 [] (Some (Braces (part_named (codes "b") 6 (value_of (constant (codes "0") 0 8)) ∷ [])))) (outs-Struct _ _) refl (StructSpecifier refl) (automatic _ (whole (StructType 0)) [] (Some (record { size = 16; alignment = 8 })) refl (AnySizes NoSizes) refl refl laid_s refl (ObjectInitialised {found = Passes _ _} (outs-Braces (part_named (codes "b") 6 (value_of (constant (codes "0") 0 8)) ∷ [])) (BracesFill (outs-Braces (part_named (codes "b") 6 (value_of (constant (codes "0") 0 8)) ∷ [])) (struct_filled 0) (set_named b_slot (codes "b") 6 sets_b (by_value (constant (codes "0") 0 8) (stored_well (read_in _ (codes "0") (int_of 0) 0 8 m_0) k_chars k_int refl)) NoMoreParts))))), refl, refl);
  no_member = (_, (refuses Plain (StructWords (Some (identifier (codes "s") 1)) None) (declarator (codes "i") 2 0 [] (Some (Braces (part_named (codes "d") 6 (value_of (constant (codes "0") 0 8)) ∷ [])))) (outs-Struct _ _) refl (StructSpecifier refl) (automatic_refused _ (whole (StructType 0)) [] (Some (record { size = 16; alignment = 8 })) refl (AnySizes NoSizes) refl refl laid_s refl (ObjectInitialised {found = Refused _} (outs-Braces (part_named (codes "d") 6 (value_of (constant (codes "0") 0 8)) ∷ [])) (BracesFill (outs-Braces (part_named (codes "d") 6 (value_of (constant (codes "0") 0 8)) ∷ [])) (struct_filled 0) (NoMemberToSet (out-roll-InitPart _) refl))))));
  behind_designated = (_, (refuses Plain (StructWords (Some (identifier (codes "s") 1)) None) (declarator (codes "i") 2 0 [] (Some (Braces (part_named (codes "b") 6 (value_of (constant (codes "0") 0 8)) ∷ (part (value_of (constant (codes "1") 1 10)) ∷ []))))) (outs-Struct _ _) refl (StructSpecifier refl) (automatic_refused _ (whole (StructType 0)) [] (Some (record { size = 16; alignment = 8 })) refl (AnySizes NoSizes) refl refl laid_s refl (ObjectInitialised {found = Refused _} (outs-Braces (part_named (codes "b") 6 (value_of (constant (codes "0") 0 8)) ∷ (part (value_of (constant (codes "1") 1 10)) ∷ []))) (BracesFill (outs-Braces (part_named (codes "b") 6 (value_of (constant (codes "0") 0 8)) ∷ (part (value_of (constant (codes "1") 1 10)) ∷ []))) (struct_filled 0) (broken_behind_named b_slot (codes "b") 6 sets_b (by_value (constant (codes "0") 0 8) (stored_well (read_in _ (codes "0") (int_of 0) 0 8 m_0) k_chars k_int refl)) (too_many (constant (codes "1") 1 10) refl (read_in _ (codes "1") (int_of 1) 1 10 m_1))))))));
  member_twice = ((behind [] 0 (constant_known (int_of 1)) ++ (StoreHanded (record { object = 2; offset = 0; ctype = int_type; number = 0 }) ∷ [] ++ (behind [] 1 (constant_known (int_of 2)) ++ StoreHanded (record { object = 2; offset = 0; ctype = int_type; number = 1 }) ∷ []))), _, _, (declares Plain (StructWords (Some (identifier (codes "s") 1)) None) (declarator (codes "i") 2 0 [] (Some (Braces (part_named (codes "a") 6 (value_of (constant (codes "1") 0 8)) ∷ part_named (codes "a") 11 (value_of (constant (codes "2") 1 13)) ∷ [])))) (outs-Struct _ _) refl (StructSpecifier refl) (automatic _ (whole (StructType 0)) [] (Some (record { size = 16; alignment = 8 })) refl (AnySizes NoSizes) refl refl laid_s refl (ObjectInitialised {found = Passes _ _} (outs-Braces (part_named (codes "a") 6 (value_of (constant (codes "1") 0 8)) ∷ part_named (codes "a") 11 (value_of (constant (codes "2") 1 13)) ∷ [])) (BracesFill (outs-Braces (part_named (codes "a") 6 (value_of (constant (codes "1") 0 8)) ∷ part_named (codes "a") 11 (value_of (constant (codes "2") 1 13)) ∷ [])) (struct_filled 0) (set_named a_slot (codes "a") 6 sets_a (by_value (constant (codes "1") 0 8) (stored_well (read_in _ (codes "1") (int_of 1) 0 8 m_1) k_int k_int refl)) (set_named a_slot (codes "a") 11 sets_a (by_value (constant (codes "2") 1 13) (stored_well (read_in _ (codes "2") (int_of 2) 1 13 m_2) k_int k_int refl)) NoMoreParts)))))), refl, refl);
  whole_struct = ((behind [] 0 (object_known (object (StructType 0))) ++ StoreHanded (record { object = 2; offset = 0; ctype = (StructType 0); number = 0 }) ∷ []), _, _, (declares Plain (StructWords (Some (identifier (codes "s") 1)) None) (declarator (codes "i") 2 0 [] (Some (value_of (name (codes "x") 0 4)))) (outs-Struct _ _) refl (StructSpecifier refl) (automatic _ (whole (StructType 0)) [] (Some (record { size = 16; alignment = 8 })) refl (AnySizes NoSizes) refl refl laid_s refl (ObjectInitialised {found = Passes _ _} (outs-Value (name (codes "x") 0 4) (token 0)) (by_value (name (codes "x") 0 4) (stored_well (a_struct 0 4 refl refl) k_s k_s refl))))), refl, refl);
  int_for_struct = (_, (refuses Plain (StructWords (Some (identifier (codes "s") 1)) None) (declarator (codes "i") 2 0 [] (Some (value_of (constant (codes "1") 0 4)))) (outs-Struct _ _) refl (StructSpecifier refl) (automatic_refused _ (whole (StructType 0)) [] (Some (record { size = 16; alignment = 8 })) refl (AnySizes NoSizes) refl refl laid_s refl (ObjectInitialised {found = Refused _} (outs-Value (constant (codes "1") 0 4) (token 0)) (not_by_value (constant (codes "1") 0 4) (stored_badly (read_in _ (codes "1") (int_of 1) 0 4 m_1) k_s k_int refl))))));
  inner_braces_left_out = (_, (refuses Plain (StructWords (Some (identifier (codes "v") 1)) None) (declarator (codes "i") 2 0 [] (Some (Braces (part (value_of (constant (codes "1") 0 5)) ∷ part (value_of (constant (codes "2") 1 7)) ∷ [])))) (outs-Struct _ _) refl (StructSpecifier refl) (automatic_refused _ (whole (StructType 2)) [] (Some (record { size = 8; alignment = 4 })) refl (AnySizes NoSizes) refl refl laid_v refl (ObjectInitialised {found = Refused _} (outs-Braces (part (value_of (constant (codes "1") 0 5)) ∷ part (value_of (constant (codes "2") 1 7)) ∷ [])) (BracesFill (outs-Braces (part (value_of (constant (codes "1") 0 5)) ∷ part (value_of (constant (codes "2") 1 7)) ∷ [])) (ap (filled_in Lp64 structs (record { ctype = StructType 2; offset = 0; braces = true })) (outs-StructType 2)) (PartSets {outcome = Refused (fault (token 7) (Rule 5))} (out-roll-InitPart _) refl (by_value (constant (codes "1") 0 5) (stored_well (read_in _ (codes "1") (int_of 1) 0 5 m_1) k_int k_int refl)) (PartRefused (out-roll-InitPart _) refl (not_by_value (constant (codes "2") 1 7) (stored_badly (read_in _ (codes "2") (int_of 2) 1 7 m_2) (k_row 3) k_int refl)))))))));
  inner_braces = ((behind [] 0 (constant_known (int_of 1)) ++ (StoreHanded (record { object = 2; offset = 0; ctype = int_type; number = 0 }) ∷ [] ++ (behind [] 1 (constant_known (int_of 2)) ++ (StoreHanded (record { object = 2; offset = 4; ctype = char_type; number = 1 }) ∷ [] ++ (behind [] 2 (constant_known (int_of 3)) ++ StoreHanded (record { object = 2; offset = 5; ctype = char_type; number = 2 }) ∷ []))))), _, _, (declares Plain (StructWords (Some (identifier (codes "v") 1)) None) (declarator (codes "i") 2 0 [] (Some (Braces (part (value_of (constant (codes "1") 0 5)) ∷ part (Braces (part (value_of (constant (codes "2") 1 8)) ∷ part (value_of (constant (codes "3") 2 10)) ∷ [])) ∷ [])))) (outs-Struct _ _) refl (StructSpecifier refl) (automatic _ (whole (StructType 2)) [] (Some (record { size = 8; alignment = 4 })) refl (AnySizes NoSizes) refl refl laid_v refl (ObjectInitialised {found = Passes _ _} (outs-Braces (part (value_of (constant (codes "1") 0 5)) ∷ part (Braces (part (value_of (constant (codes "2") 1 8)) ∷ part (value_of (constant (codes "3") 2 10)) ∷ [])) ∷ [])) (BracesFill (outs-Braces (part (value_of (constant (codes "1") 0 5)) ∷ part (Braces (part (value_of (constant (codes "2") 1 8)) ∷ part (value_of (constant (codes "3") 2 10)) ∷ [])) ∷ [])) (ap (filled_in Lp64 structs (record { ctype = StructType 2; offset = 0; braces = true })) (outs-StructType 2)) (set_part a_slot v_a (by_value (constant (codes "1") 0 5) (stored_well (read_in _ (codes "1") (int_of 1) 0 5 m_1) k_int k_int refl)) (set_part e_slot v_e (BracesFill (outs-Braces (part (value_of (constant (codes "2") 1 8)) ∷ part (value_of (constant (codes "3") 2 10)) ∷ [])) e_filled (set_part (record { ctype = char_type; offset = 4; braces = true }) refl (by_value (constant (codes "2") 1 8) (stored_well (read_in _ (codes "2") (int_of 2) 1 8 m_2) k_char k_int refl)) (set_part (record { ctype = char_type; offset = 5; braces = true }) refl (by_value (constant (codes "3") 2 10) (stored_well (read_in _ (codes "3") (int_of 3) 2 10 m_3) k_char k_int refl)) NoMoreParts))) NoMoreParts)))))), refl, refl);
  items = ((behind [] 0 (constant_known (int_of 2)) ++ (behind [] 1 (constant_known (int_of 1)) ++ StoreHanded (record { object = 1; offset = 0; ctype = int_type; number = 1 }) ∷ [])), _, _, (declares Plain (Basic (Integer Int true)) (declarator (codes "i") 1 0 (Some (constant (codes "2") 0 3) ∷ []) (Some (Braces (part (value_of (constant (codes "1") 1 7)) ∷ [])))) (outs-Basic (Integer Int true)) refl BasicSpecifier (automatic _ (whole int_type) (Counted 2 ∷ []) (Some (repeated 2 (scalar 4))) refl (AnySizes (MoreSizes (SizeOfItems {size = Counted 2} (read_in _ (codes "2") (int_of 2) 0 3 m_2) (seen k_int) refl) NoSizes)) refl refl (ints_laid structs 2) refl (ObjectInitialised {found = Passes _ _} (outs-Braces (part (value_of (constant (codes "1") 1 7)) ∷ [])) (BracesFill (outs-Braces (part (value_of (constant (codes "1") 1 7)) ∷ [])) (ints_filled 2) (set_part (record { ctype = int_type; offset = 0; braces = true }) refl (by_value (constant (codes "1") 1 7) (stored_well (read_in _ (codes "1") (int_of 1) 1 7 m_1) k_int k_int refl)) NoMoreParts))))), refl, refl);
  item_too_many = (_, (refuses Plain (Basic (Integer Int true)) (declarator (codes "i") 1 0 (Some (constant (codes "1") 0 3) ∷ []) (Some (Braces (part (value_of (constant (codes "1") 1 7)) ∷ part (value_of (constant (codes "2") 2 9)) ∷ [])))) (outs-Basic (Integer Int true)) refl BasicSpecifier (automatic_refused _ (whole int_type) (Counted 1 ∷ []) (Some (repeated 1 (scalar 4))) refl (AnySizes (MoreSizes (SizeOfItems {size = Counted 1} (read_in _ (codes "1") (int_of 1) 0 3 m_1) (seen k_int) refl) NoSizes)) refl refl (ints_laid structs 1) refl (ObjectInitialised {found = Refused _} (outs-Braces (part (value_of (constant (codes "1") 1 7)) ∷ part (value_of (constant (codes "2") 2 9)) ∷ [])) (BracesFill (outs-Braces (part (value_of (constant (codes "1") 1 7)) ∷ part (value_of (constant (codes "2") 2 9)) ∷ [])) (ints_filled 1) (broken_behind_part (record { ctype = int_type; offset = 0; braces = true }) refl (by_value (constant (codes "1") 1 7) (stored_well (read_in _ (codes "1") (int_of 1) 1 7 m_1) k_int k_int refl)) (too_many (constant (codes "2") 2 9) refl (read_in _ (codes "2") (int_of 2) 2 9 m_2))))))));
  empty_braces_behind = (_, (refuses Plain (Basic (Integer Int true)) (declarator (codes "i") 1 0 (Some (constant (codes "1") 0 3) ∷ []) (Some (Braces (part (value_of (constant (codes "1") 1 7)) ∷ part (Braces []) ∷ part (value_of (constant (codes "2") 2 12)) ∷ [])))) (outs-Basic (Integer Int true)) refl BasicSpecifier (automatic_refused _ (whole int_type) (Counted 1 ∷ []) (Some (repeated 1 (scalar 4))) refl (AnySizes (MoreSizes (SizeOfItems {size = Counted 1} (read_in _ (codes "1") (int_of 1) 0 3 m_1) (seen k_int) refl) NoSizes)) refl refl (ints_laid structs 1) refl (ObjectInitialised {found = Refused _} (outs-Braces (part (value_of (constant (codes "1") 1 7)) ∷ part (Braces []) ∷ part (value_of (constant (codes "2") 2 12)) ∷ [])) (BracesFill (outs-Braces (part (value_of (constant (codes "1") 1 7)) ∷ part (Braces []) ∷ part (value_of (constant (codes "2") 2 12)) ∷ [])) (ints_filled 1) (broken_behind_part (record { ctype = int_type; offset = 0; braces = true }) refl (by_value (constant (codes "1") 1 7) (stored_well (read_in _ (codes "1") (int_of 1) 1 7 m_1) k_int k_int refl)) (NothingToSet (out-roll-InitPart _) refl (SurplusPart (out-roll-InitPart _) (SurplusBraces (outs-Braces []) NoSurplusValue)))))))));
  int_for_array = (_, (refuses Plain (Basic (Integer Int true)) (declarator (codes "i") 1 0 (Some (constant (codes "2") 0 3) ∷ []) (Some (value_of (constant (codes "1") 1 6)))) (outs-Basic (Integer Int true)) refl BasicSpecifier (automatic_refused _ (whole int_type) (Counted 2 ∷ []) (Some (repeated 2 (scalar 4))) refl (AnySizes (MoreSizes (SizeOfItems {size = Counted 2} (read_in _ (codes "2") (int_of 2) 0 3 m_2) (seen k_int) refl) NoSizes)) refl refl (ints_laid structs 2) refl (ObjectInitialised {found = Refused _} (outs-Value (constant (codes "1") 1 6) (token 0)) (not_by_value (constant (codes "1") 1 6) (stored_badly (read_in _ (codes "1") (int_of 1) 1 6 m_1) (ints_kind 2) k_int refl))))));
  size_told = ((behind [] 0 (constant_known (int_of 1)) ++ (StoreHanded (record { object = 1; offset = 0; ctype = int_type; number = 0 }) ∷ [] ++ (behind [] 1 (constant_known (int_of 2)) ++ StoreHanded (record { object = 1; offset = 4; ctype = int_type; number = 1 }) ∷ []))), _, _, (declares Plain (Basic (Integer Int true)) (declarator (codes "i") 1 0 (None ∷ []) (Some (Braces (part (value_of (constant (codes "1") 0 6)) ∷ part (value_of (constant (codes "2") 1 8)) ∷ [])))) (outs-Basic (Integer Int true)) refl BasicSpecifier (left_open _ (whole int_type) (LeftOut ∷ []) int_type (Some (scalar 4)) (Some (repeated 1 (scalar 4))) refl (AnySizes (SizeLeftOut NoSizes)) refl refl (ints_laid structs 1) (laid_4 true) refl (ArrayInitialised (outs-Braces (part (value_of (constant (codes "1") 0 6)) ∷ part (value_of (constant (codes "2") 1 8)) ∷ [])) (of_ints (part (value_of (constant (codes "1") 0 6)) ∷ part (value_of (constant (codes "2") 1 8)) ∷ []) refl (set_part (record { ctype = int_type; offset = 0; braces = true }) refl (by_value (constant (codes "1") 0 6) (stored_well (read_in _ (codes "1") (int_of 1) 0 6 m_1) k_int k_int refl)) (set_part (record { ctype = int_type; offset = 4; braces = true }) refl (by_value (constant (codes "2") 1 8) (stored_well (read_in _ (codes "2") (int_of 2) 1 8 m_2) k_int k_int refl)) NoMoreParts))) (ap (λ (o : Option Layout). unless (not (is_over o)) (token 1) (Construct 19) ++ unless (not (nat_eq 2 0)) (token 1) (Rule 9)) (ints_laid structs 2))))), refl, refl);
  no_size_told = (_, (refuses Plain (Basic (Integer Int true)) (declarator (codes "i") 1 0 (None ∷ []) (Some (Braces []))) (outs-Basic (Integer Int true)) refl BasicSpecifier (left_open_refused _ (whole int_type) (LeftOut ∷ []) int_type (Some (scalar 4)) (Some (repeated 1 (scalar 4))) refl (AnySizes (SizeLeftOut NoSizes)) refl refl (ints_laid structs 1) (laid_4 true) refl (ArrayOfWrongSize (outs-Braces []) (of_ints [] refl NoMoreParts) (ap (λ (o : Option Layout). unless (not (is_over o)) (token 1) (Construct 19) ++ unless (not (nat_eq 0 0)) (token 1) (Rule 9)) (ints_laid structs 0)) (alone _)))));
  value_before_size = (_, (refuses Plain (Basic (Integer Int true)) (declarator (codes "i") 1 0 (None ∷ []) (Some (Braces (part (value_of (name (codes "y") 0 6)) ∷ [])))) (outs-Basic (Integer Int true)) refl BasicSpecifier (left_open_refused _ (whole int_type) (LeftOut ∷ []) int_type (Some (scalar 4)) (Some (repeated 1 (scalar 4))) refl (AnySizes (SizeLeftOut NoSizes)) refl refl (ints_laid structs 1) (laid_4 true) refl (ArrayPartsRefused (outs-Braces (part (value_of (name (codes "y") 0 6)) ∷ [])) (of_ints (part (value_of (name (codes "y") 0 6)) ∷ []) refl (PartRefused {slot = (record { ctype = int_type; offset = 0; braces = true })} (out-roll-InitPart _) refl (not_by_value (name (codes "y") 0 6) (ValueRefused (none_of (codes "y") 0 6 refl)))))))));
  incomplete_in_its_own = (_, (refuses Plain (Basic (Integer Int true)) (declarator (codes "i") 1 0 (None ∷ []) (Some (Braces (part (value_of (node 1 6 (SizeOf (name (codes "i") 0 7)))) ∷ [])))) (outs-Basic (Integer Int true)) refl BasicSpecifier (left_open_refused _ (whole int_type) (LeftOut ∷ []) int_type (Some (scalar 4)) (Some (repeated 1 (scalar 4))) refl (AnySizes (SizeLeftOut NoSizes)) refl refl (ints_laid structs 1) (laid_4 true) refl (ArrayPartsRefused (outs-Braces (part (value_of (node 1 6 (SizeOf (name (codes "i") 0 7)))) ∷ [])) (of_ints (part (value_of (node 1 6 (SizeOf (name (codes "i") 0 7)))) ∷ []) refl (PartRefused {slot = (record { ctype = int_type; offset = 0; braces = true })} (out-roll-InitPart _) refl (not_by_value (node 1 6 (SizeOf (name (codes "i") 0 7))) (ValueRefused (LoadedRefused (RefusedInside (outs-SizeOf (name (codes "i") 0 7)) (RefusedHere (UnloadedRefused (Walked (outs-Name (codes "i")) NoPieces (ObjectName refl refl (alone _)))))))))))))));
  int_for_open_array = (_, (refuses Plain (Basic (Integer Int true)) (declarator (codes "i") 1 0 (None ∷ []) (Some (value_of (constant (codes "1") 0 5)))) (outs-Basic (Integer Int true)) refl BasicSpecifier (left_open_refused _ (whole int_type) (LeftOut ∷ []) int_type (Some (scalar 4)) (Some (repeated 1 (scalar 4))) refl (AnySizes (SizeLeftOut NoSizes)) refl refl (ints_laid structs 1) (laid_4 true) refl (ArrayByValue (outs-Value (constant (codes "1") 0 5) (token 0)) (SurplusValue (outs-Value (constant (codes "1") 0 5) (token 0)) (for_nothing (read_in _ (codes "1") (int_of 1) 0 5 m_1)))))));
  name_before_initialiser = (_, (refuses Plain (Basic (Integer Char true)) (declarator (codes "i") 1 0 (Some (constant (codes "70000") 0 3) ∷ []) (Some (Braces (part (value_of (name (codes "y") 1 7)) ∷ [])))) (outs-Basic (Integer Char true)) refl BasicSpecifier (not_automatic _ (whole char_type) (Counted 70000 ∷ []) (Some (repeated 70000 (scalar 1))) false refl (AnySizes (MoreSizes (SizeOfItems {size = Counted 70000} (read_in _ (codes "70000") (int_of 70000) 0 3 m_70000) (seen k_int) refl) NoSizes)) refl refl (laid_chars 70000) (alone _))));
  twice_before_initialiser = (_, (refused_in_braces ((statement_at 1 (Declare (declare Plain (Basic (Integer Int true)) ((declarator (codes "i") 2 0 [] None) ∷ [])))) ∷ (statement_at 4 (Declare (declare Plain (Basic (Integer Int true)) ((declarator (codes "i") 5 0 [] (Some (value_of (name (codes "y") 0 7)))) ∷ [])))) ∷ []) (StatementsRefused _ (followed _ _ _ (outs-Declare _) refl) (declares Plain (Basic (Integer Int true)) (declarator (codes "i") 2 0 [] None) (outs-Basic (Integer Int true)) refl BasicSpecifier (automatic _ (whole int_type) [] (Some (scalar 4)) refl (AnySizes NoSizes) refl refl (laid_4 true) refl NotInitialised)) (StatementRefused (no_value (statement_at 4 (Declare (declare Plain (Basic (Integer Int true)) ((declarator (codes "i") 5 0 [] (Some (value_of (name (codes "y") 0 7)))) ∷ [])))) (outs-Declare (declare Plain (Basic (Integer Int true)) ((declarator (codes "i") 5 0 [] (Some (value_of (name (codes "y") 0 7)))) ∷ []))) refl) (refuses Plain (Basic (Integer Int true)) (declarator (codes "i") 5 0 [] (Some (value_of (name (codes "y") 0 7)))) (outs-Basic (Integer Int true)) refl BasicSpecifier (not_automatic _ (whole int_type) [] (Some (scalar 4)) true refl (AnySizes NoSizes) refl refl (laid_4 true) (alone _)))))));
  static_value = ((behind [] 0 (constant_known (int_of 1)) ++ StoreHanded (record { object = 2; offset = 0; ctype = int_type; number = 0 }) ∷ []), _, _, (declares Static (Basic (Integer Int true)) (declarator (codes "i") 2 0 [] (Some (value_of (constant (codes "1") 0 4)))) (outs-Basic (Integer Int true)) refl BasicSpecifier (static _ (whole int_type) [] (Some (scalar 4)) refl (FixedSizes NoMemberSizes) refl refl (laid_4 true) refl (ObjectInitialised {found = Passes _ _} (outs-Value (constant (codes "1") 0 4) (token 0)) (by_value (constant (codes "1") 0 4) (fixed_well (read_in _ (codes "1") (int_of 1) 0 4 m_1) k_int k_int refl refl (EndsThere refl)))))), refl, refl);
  static_object = (_, (refuses Static (Basic (Integer Int true)) (declarator (codes "i") 2 0 [] (Some (value_of (name (codes "n") 0 4)))) (outs-Basic (Integer Int true)) refl BasicSpecifier (static_refused _ (whole int_type) [] (Some (scalar 4)) refl (FixedSizes NoMemberSizes) refl refl (laid_4 true) refl (ObjectInitialised {found = Refused _} (outs-Value (name (codes "n") 0 4) (token 0)) (not_by_value (name (codes "n") 0 4) (fixed_not (an_int (codes "n") 0 4 refl) k_int k_int refl (name_leads (object int_type) (codes "n") 4 (outs-Int 4 true))))))));
  static_not_converted = (_, (refuses Static (Basic (Integer Int true)) (declarator (codes "i") 2 0 [] (Some (value_of (name (codes "p") 0 4)))) (outs-Basic (Integer Int true)) refl BasicSpecifier (static_refused _ (whole int_type) [] (Some (scalar 4)) refl (FixedSizes NoMemberSizes) refl refl (laid_4 true) refl (ObjectInitialised {found = Refused _} (outs-Value (name (codes "p") 0 4) (token 0)) (not_by_value (name (codes "p") 0 4) (fixed_badly (a_pointer 0 4 refl) k_int k_p refl (name_leads (object (PointerType VoidType)) (codes "p") 4 (outs-Pointer VoidType)) (record { front = []; back = fault (token 4) (Rule 9) ∷ []; whole = refl; later = tt; behind = (omega arith, tt) })))))));
  static_array = (_, _, (declares Static (Basic (Integer Char true)) (declarator (codes "i") 3 1 [] (Some (value_of (name (codes "row") 0 5)))) (outs-Basic (Integer Char true)) refl BasicSpecifier (static _ (whole char_type) [] (Some (scalar 8)) refl (FixedSizes NoMemberSizes) refl refl (laid_pointer char_type) refl (ObjectInitialised {found = Passes _ _} (outs-Value (name (codes "row") 0 5) (token 0)) (by_value (name (codes "row") 0 5) (fixed_well (loaded_in _ (codes "row") (object (ArrayType char_type 3)) 0 5 refl (ap is_some (laid_chars 3)) refl refl) k_chars (k_row 3) refl refl (name_leads (object (ArrayType char_type 3)) (codes "row") 5 (outs-Array char_type 3))))))));
  static_address = (_, _, (declares Static (Basic (Integer Int true)) (declarator (codes "i") 3 1 [] (Some (value_of (node 1 5 (Unary Address (name (codes "n") 0 6)))))) (outs-Basic (Integer Int true)) refl BasicSpecifier (static _ (whole int_type) [] (Some (scalar 8)) refl (FixedSizes NoMemberSizes) refl refl (laid_pointer int_type) refl (ObjectInitialised {found = Passes _ _} (outs-Value (node 1 5 (Unary Address (name (codes "n") 0 6))) (token 0)) (by_value (node 1 5 (Unary Address (name (codes "n") 0 6))) (fixed_well (LoadedValue (Walked (outs-Unary Address (name (codes "n") 0 6)) (MorePieces (UnloadedOperand (object_in _ (codes "n") (object int_type) 0 6 refl (ap is_some (laid_4 true)) refl refl)) NoPieces) (AddressOf refl)) refl) k_q k_q refl refl (of_address (name (codes "n") 0 6) refl (of_name (codes "n") refl))))))));
  static_item = (_, _, (declares Static (Basic (Integer Char true)) (declarator (codes "i") 3 1 [] (Some (value_of (node 3 5 (Unary Address (node 2 7 (Index (name (codes "row") 0 6) (constant (codes "1") 1 8)))))))) (outs-Basic (Integer Char true)) refl BasicSpecifier (static _ (whole char_type) [] (Some (scalar 8)) refl (FixedSizes NoMemberSizes) refl refl (laid_pointer char_type) refl (ObjectInitialised {found = Passes _ _} (outs-Value (node 3 5 (Unary Address (node 2 7 (Index (name (codes "row") 0 6) (constant (codes "1") 1 8))))) (token 0)) (by_value (node 3 5 (Unary Address (node 2 7 (Index (name (codes "row") 0 6) (constant (codes "1") 1 8))))) (fixed_well (LoadedValue (Walked (outs-Unary Address (node 2 7 (Index (name (codes "row") 0 6) (constant (codes "1") 1 8)))) (MorePieces (UnloadedOperand (Walked (outs-Index (name (codes "row") 0 6) (constant (codes "1") 1 8)) (MorePieces (loaded_in _ (codes "row") (object (ArrayType char_type 3)) 0 6 refl (ap is_some (laid_chars 3)) refl refl) (MorePieces (read_in _ (codes "1") (int_of 1) 1 8 m_1) NoPieces)) (Subscript (seen (k_row 3)) (seen k_int) refl))) NoPieces) (AddressOf refl)) refl) k_chars k_chars refl refl (of_address (node 2 7 (Index (name (codes "row") 0 6) (constant (codes "1") 1 8))) refl (of_item (name (codes "row") 0 6) (constant (codes "1") 1 8) (ap is_array_type (outs-Array char_type 3)) refl (of_name (codes "row") refl)))))))));
  static_test = (_, (refuses Static (Basic Bool) (declarator (codes "i") 2 0 [] (Some (value_of (node 3 4 (Unary Address (node 2 6 (Index (name (codes "row") 0 5) (constant (codes "1") 1 7)))))))) (outs-Basic Bool) refl BasicSpecifier (static_refused _ (whole BoolType) [] (Some (scalar 1)) refl (FixedSizes NoMemberSizes) refl refl laid_bool refl (ObjectInitialised {found = Refused _} (outs-Value (node 3 4 (Unary Address (node 2 6 (Index (name (codes "row") 0 5) (constant (codes "1") 1 7))))) (token 0)) (not_by_value (node 3 4 (Unary Address (node 2 6 (Index (name (codes "row") 0 5) (constant (codes "1") 1 7))))) (fixed_test (LoadedValue (Walked (outs-Unary Address (node 2 6 (Index (name (codes "row") 0 5) (constant (codes "1") 1 7)))) (MorePieces (UnloadedOperand (Walked (outs-Index (name (codes "row") 0 5) (constant (codes "1") 1 7)) (MorePieces (loaded_in _ (codes "row") (object (ArrayType char_type 3)) 0 5 refl (ap is_some (laid_chars 3)) refl refl) (MorePieces (read_in _ (codes "1") (int_of 1) 1 7 m_1) NoPieces)) (Subscript (seen (k_row 3)) (seen k_int) refl))) NoPieces) (AddressOf refl)) refl) k_bool k_chars refl refl (of_address (node 2 6 (Index (name (codes "row") 0 5) (constant (codes "1") 1 7))) refl (of_item (name (codes "row") 0 5) (constant (codes "1") 1 7) (ap is_array_type (outs-Array char_type 3)) refl (of_name (codes "row") refl)))))))));
  static_sum = (_, (refuses Static (Basic (Integer Char true)) (declarator (codes "i") 3 1 [] (Some (value_of (node 2 6 (Binary Add (name (codes "row") 0 5) (constant (codes "1") 1 7)))))) (outs-Basic (Integer Char true)) refl BasicSpecifier (static_refused _ (whole char_type) [] (Some (scalar 8)) refl (FixedSizes NoMemberSizes) refl refl (laid_pointer char_type) refl (ObjectInitialised {found = Refused _} (outs-Value (node 2 6 (Binary Add (name (codes "row") 0 5) (constant (codes "1") 1 7))) (token 0)) (not_by_value (node 2 6 (Binary Add (name (codes "row") 0 5) (constant (codes "1") 1 7))) (fixed_not (LoadedValue (Walked (outs-Binary Add (name (codes "row") 0 5) (constant (codes "1") 1 7)) (MorePieces (loaded_in _ (codes "row") (object (ArrayType char_type 3)) 0 5 refl (ap is_some (laid_chars 3)) refl refl) (MorePieces (read_in _ (codes "1") (int_of 1) 1 7 m_1) NoPieces)) (AdditionOperator refl (seen (k_row 3)) (seen k_int))) refl) k_chars k_chars refl (of_binary Add (name (codes "row") 0 5) (constant (codes "1") 1 7) refl)))))));
  static_null = (_, _, (declares Static (Basic Void) (declarator (codes "i") 3 1 [] (Some (value_of (node 1 5 (Cast (type_name (Basic Void) 1 []) (constant (codes "0") 0 9)))))) (outs-Basic Void) refl BasicSpecifier (static _ (whole VoidType) [] (Some (scalar 8)) refl (FixedSizes NoMemberSizes) refl refl (laid_pointer VoidType) refl (ObjectInitialised {found = Passes _ _} (outs-Value (node 1 5 (Cast (type_name (Basic Void) 1 []) (constant (codes "0") 0 9))) (token 0)) (by_value (node 1 5 (Cast (type_name (Basic Void) 1 []) (constant (codes "0") 0 9))) (fixed_well (LoadedValue (Walked (outs-Cast (type_name (Basic Void) 1 []) (constant (codes "0") 0 9)) (MorePieces (TypeInside (TypeNamed (out-roll-TypeName _) (outs-Basic Void) BasicSpecifier NoSizes (ap is_over (laid_pointer VoidType)))) (MorePieces (read_in _ (codes "0") (int_of 0) 0 9 m_0) NoPieces)) (CastToType k_p (seen k_int) (refl, refl, refl))) refl) k_p k_p refl refl (of_cast (type_name (Basic Void) 1 []) (constant (codes "0") 0 9) refl (ap is_pointer_type (outs-Pointer VoidType)) (of_value refl))))))));
  static_struct = (_, (refuses Static (StructWords (Some (identifier (codes "s") 2)) None) (declarator (codes "i") 3 0 [] (Some (value_of (name (codes "x") 0 5)))) (outs-Struct _ _) refl (StructSpecifier refl) (static_refused _ (whole (StructType 0)) [] (Some (record { size = 16; alignment = 8 })) refl (FixedSizes NoMemberSizes) refl refl laid_s refl (ObjectInitialised {found = Refused _} (outs-Value (name (codes "x") 0 5) (token 0)) (not_by_value (name (codes "x") 0 5) (fixed_not (a_struct 0 5 refl refl) k_s k_s refl (name_leads (object (StructType 0)) (codes "x") 5 (outs-StructType 0))))))));
  static_address_of_automatic = (_, (refused_in_braces ((statement_at 1 (Declare (declare Plain (Basic (Integer Int true)) ((declarator (codes "i") 2 0 [] None) ∷ [])))) ∷ (statement_at 4 (Declare (declare Static (Basic (Integer Int true)) ((declarator (codes "j") 7 1 [] (Some (value_of (node 1 9 (Unary Address (name (codes "i") 0 10)))))) ∷ [])))) ∷ []) (StatementsRefused _ (followed _ _ _ (outs-Declare _) refl) (declares Plain (Basic (Integer Int true)) (declarator (codes "i") 2 0 [] None) (outs-Basic (Integer Int true)) refl BasicSpecifier (automatic _ (whole int_type) [] (Some (scalar 4)) refl (AnySizes NoSizes) refl refl (laid_4 true) refl NotInitialised)) (StatementRefused (no_value (statement_at 4 (Declare (declare Static (Basic (Integer Int true)) ((declarator (codes "j") 7 1 [] (Some (value_of (node 1 9 (Unary Address (name (codes "i") 0 10)))))) ∷ [])))) (outs-Declare (declare Static (Basic (Integer Int true)) ((declarator (codes "j") 7 1 [] (Some (value_of (node 1 9 (Unary Address (name (codes "i") 0 10)))))) ∷ []))) refl) (refuses Static (Basic (Integer Int true)) (declarator (codes "j") 7 1 [] (Some (value_of (node 1 9 (Unary Address (name (codes "i") 0 10)))))) (outs-Basic (Integer Int true)) refl BasicSpecifier (static_refused _ (whole int_type) [] (Some (scalar 8)) refl (FixedSizes NoMemberSizes) refl refl (laid_pointer int_type) refl (ObjectInitialised {found = Refused _} (outs-Value (node 1 9 (Unary Address (name (codes "i") 0 10))) (token 0)) (not_by_value (node 1 9 (Unary Address (name (codes "i") 0 10))) (fixed_not (LoadedValue (Walked (outs-Unary Address (name (codes "i") 0 10)) (MorePieces (UnloadedOperand (object_in _ (codes "i") (own_object 2 false (WholeType int_type)) 0 10 refl (ap is_some (laid_4 true)) refl refl)) NoPieces) (AddressOf refl)) refl) k_q k_q refl (of_address (name (codes "i") 0 10) refl (of_name (codes "i") refl)))))))))));
  of_linked = (_, (refuses Extern (Basic (Integer Int true)) (declarator (codes "i") 2 0 [] (Some (value_of (constant (codes "3") 0 4)))) (outs-Basic (Integer Int true)) refl BasicSpecifier (linked_refused _ (whole int_type) [] (IntegerKind (integer_of 4 true)) (Some (scalar 4)) refl (FixedSizes NoMemberSizes) refl refl (laid_4 true) k_int refl (LinkedInitialised (SurplusValue (outs-Value (constant (codes "3") 0 4) (token 0)) (for_nothing (read_in _ (codes "3") (int_of 3) 0 4 m_3)))))));
  designator_of_linked = (_, (refuses Extern (StructWords (Some (identifier (codes "s") 2)) None) (declarator (codes "i") 3 0 [] (Some (Braces (part_named (codes "a") 7 (value_of (constant (codes "1") 0 9)) ∷ [])))) (outs-Struct _ _) refl (StructSpecifier refl) (linked_refused _ (whole (StructType 0)) [] (StructKind 0) (Some (record { size = 16; alignment = 8 })) refl (FixedSizes NoMemberSizes) refl refl laid_s k_s refl (LinkedInitialised (SurplusBraces (outs-Braces _) (SurplusPart (out-roll-InitPart _) (SurplusValue (outs-Value (constant (codes "1") 0 9) (token 0)) (for_nothing (read_in _ (codes "1") (int_of 1) 0 9 m_1)))))))));
  of_typedef = (_, (refuses Typedef (Basic (Integer Int true)) (declarator (codes "i") 2 0 [] (Some (value_of (constant (codes "3") 0 4)))) (outs-Basic (Integer Int true)) refl BasicSpecifier (typedef_refused _ (whole int_type) [] (Some (scalar 4)) refl (AnySizes NoSizes) refl (laid_4 true) refl (TypeInitialised (SurplusValue (outs-Value (constant (codes "3") 0 4) (token 0)) (for_nothing (read_in _ (codes "3") (int_of 3) 0 4 m_3)))))));
}
