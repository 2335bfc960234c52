-- `sizeof`, casts and offsets of the examples.
use Rattle.std.proofs.Common.{map, sym, ◌≡◌, ℕ, Bool, true, List, [], ◌∷◌, ◌++◌, Option, Some, refl, ap, subst, ◌∙◌, arith}
use Rattle.std.specs.Prelude.{is_some, option_and_then, codes, if◌then◌else◌}
use Rattle.cbase.specs.declared.abi.Abi.TheVariants.{Lp64}
use Rattle.cbase.specs.declared.ctype.CType.{CType}
use Rattle.cbase.specs.declared.ctype.CType.TheVariants.{Array as ArrayType, Pointer as PointerType, Struct as StructType}
use Rattle.cbase.specs.declared.layout.Layout.{Layout}
use Rattle.cbase.specs.declared.tree.decl.TypeName.{TypeName}
use Rattle.cbase.specs.declared.tree.expr.Expr.{Expr}
use Rattle.cbase.specs.declared.tree.expr.ExprForm.TheOpen.{Part::Member, At}
use Rattle.cbase.specs.declared.tree.expr.ExprForm.TheVariants.{Unary}
use Rattle.cbase.specs.declared.tree.expr.Part.TheVariants.{Member as NamedPart, At as IndexedPart}
use Rattle.cbase.specs.declared.tree.spec.BasicType.TheVariants.{Void, Integer}
use Rattle.cbase.specs.declared.tree.spec.Rank.TheVariants.{Char, Int, Long}
use Rattle.cbase.specs.Layout.{no_fields, extent_of}
use Rattle.cbase.specs.Offset.{offset_behind}
use Rattle.typing.specs.declared.ctypes.kind.Target.TheVariants.{Sized, Unsized}
use Rattle.typing.specs.ctypes.Binary.{int_type}
use Rattle.typing.specs.ctypes.Kinds.{Kind, Pointer, Struct, kind_of, has_size}
use Rattle.typing.specs.ctypes.Members.{member_in, member_of}
use Rattle.typing.proofs.ctypes.ShapeKinds.{are_kinds, are_targets}
use Rattle.typing.specs.Forms.{Step}
use Rattle.typing.specs.Idiom.{at_most, item_bytes, member_offset, offset_in_struct}
use Rattle.typing.specs.NamedTypes.{NamedType, is_over}
use Rattle.typing.specs.Outcomes.{Handed, Passes}
use Rattle.typing.specs.Paths.{Way, LeadsFrom, item_in, Arrives, ToFirst, NoFirst, ToItem, NoItem}
use Rattle.typing.specs.Pieces.{Piece, OfType, ConstantIndex, index_in, indices_in}
use Rattle.typing.specs.Sample.{sample}
use Rattle.typing.specs.Told.{TypeIs, IndexIs}
use Rattle.typing.specs.Typing.{Finds, PieceIs, PiecesAre}
use Rattle.cbase.specs.declared.tree.expr.ExprForm.TheViews.{out-Part, outs-Unary, outs-Cast, outs-SizeOf, outs-SizeOfType, outs-OffsetOf, outs-ExprForm::Member, outs-Part::Member, outs-At, outs-Basic, outs-Struct, outs-OfExpr, out-roll-TypeName}
use Rattle.cbase.specs.declared.tree.operators.UnaryOp.TheVariants.{Follow, Address, Minus}
use Rattle.typing.specs.Faults.{fault}
use Rattle.typing.specs.declared.ctypes.found.Broken.TheVariants.{Construct, Rule}
use Rattle.typing.specs.Examples.{AreSizes}
use Rattle.typing.specs.Sample.{start, token, identifier, char_type, name, node, constant}
use Rattle.typing.specs.Rules.{MemberOfPointed, AddressOf, Indirection, SizeOfExpression, SizeOfTypeName, OffsetOfMember, CastToType}
use Rattle.typing.specs.Typing.{RefusedInside, Walked, RefusedHere, RefusedBehind, LoadedValue, LoadedRefused, UnloadedOperand, TypeInside, TypeRefused, IndexOfPath, SizeOfItems, SizeUnderOne, BasicSpecifier, StructSpecifier, TypeofExpression, NoSizes, MoreSizes, SizesRefusedHere, TypeNamed, SizesRefused}
use Rattle.typing.proofs.SampleFacts.{structs, laid_1, laid_4, laid_8, laid_void, laid_pointer, laid_chars, laid_s, laid_v, k_int, k_char, k_long, k_s, k_p, k_chars, k_row, k_r, k_v, seen, alone, n, row, vast, y, int_of, vn, vp, vread, one, two, m_2, m_5, m_300, m_70000, v0, both, negative_one, negative_eight}

of_s : (name : List ℕ) → member_of structs (StructType 0) name ≡ member_in structs true (Struct 0) name
of_s name = both (λ (sized : Bool) (kind : Kind). member_in structs sized kind name) _ _ _ _ (ap is_some laid_s) k_s

-- `b` lies behind an int and a gap
b_offset : member_offset Lp64 structs (StructType 0) (codes "b") ≡ Some 8
b_offset =
    ap (λ (kind : Kind). offset_in_struct Lp64 structs kind (codes "b")) k_s
    ∙ both (λ (front back : Option Layout). option_and_then at_most (offset_behind no_fields (front ∷ back ∷ []) 1)) _ _ _ _ (laid_4 true) (laid_pointer char_type)

of_v : (name : List ℕ) → member_of structs (StructType 2) name ≡ member_in structs true (Struct 2) name
of_v name = both (λ (sized : Bool) (kind : Kind). member_in structs sized kind name) _ _ _ _ (ap is_some laid_v) k_v

-- `e` lies behind an int, and `a` at the front
e_offset : member_offset Lp64 structs (StructType 2) (codes "e") ≡ Some 4
e_offset =
    ap (λ (kind : Kind). offset_in_struct Lp64 structs kind (codes "e")) k_v
    ∙ both (λ (front back : Option Layout). option_and_then at_most (offset_behind no_fields (front ∷ back ∷ []) 1)) _ _ _ _ (laid_4 true) (laid_chars 3)

a_offset : member_offset Lp64 structs (StructType 2) (codes "a") ≡ Some 0
a_offset =
    ap (λ (kind : Kind). offset_in_struct Lp64 structs kind (codes "a")) k_v
    ∙ both (λ (front back : Option Layout). option_and_then at_most (offset_behind no_fields (front ∷ back ∷ []) 0)) _ _ _ _ (laid_4 true) (laid_chars 3)

-- an item of `e` is one byte
char_bytes : item_bytes Lp64 structs (kind_of structs (ArrayType char_type 3)) ≡ Some 1
char_bytes = ap (item_bytes Lp64 structs) (k_row 3) ∙ ap (option_and_then (λ (layout : Layout). at_most layout.size)) (laid_1 true)

-- a pointer to `char *`
k_char_pointers : kind_of structs (PointerType (PointerType char_type)) ≡ Pointer (PointerType char_type) Sized
k_char_pointers = (are_kinds structs).pointer (PointerType char_type) ∙ ap (Pointer (PointerType char_type)) ((are_targets structs).pointer char_type ∙ ap (λ (sized : Bool). if sized then Sized else Unsized) (ap is_some (laid_pointer char_type)))

-- a way of one name has no indices
no_indices : (bytes : List ℕ) (at : ℕ) → indices_in (NamedPart (identifier bytes at) ∷ []) ≡ []
no_indices bytes at = ap (λ (step : Step). index_in step ++ []) (outs-Part::Member (identifier bytes at))

pub path_pieces : {to : TypeName} {named : NamedType} {handed : List Handed} (bytes : List ℕ) (at : ℕ)
    → Finds sample start (PieceIs (OfType to) (Passes (TypeIs named) handed)) start
    → Finds sample start (PiecesAre (OfType to ∷ indices_in (NamedPart (identifier bytes at) ∷ [])) (Passes (TypeIs named ∷ []) (handed ++ []))) start
path_pieces {to} {named} {handed} bytes at found =
    subst (λ (pieces : List Piece). Finds sample start (PiecesAre (OfType to ∷ pieces) (Passes (TypeIs named ∷ []) (handed ++ []))) start) (sym (no_indices bytes at)) (one found)

-- and leads by that name
pub lead_by : {t : CType} {way : Way} (bytes : List ℕ) (at : ℕ)
    → LeadsFrom Lp64 structs (token 0) t (Part::Member (identifier bytes at) ∷ []) [] way
    → LeadsFrom Lp64 structs (token 0) t (map out-Part (NamedPart (identifier bytes at) ∷ [])) [] way
lead_by {t} {way} bytes at leads = subst (λ (step : Step). LeadsFrom Lp64 structs (token 0) t (step ∷ []) [] way) (sym (outs-Part::Member (identifier bytes at))) leads

-- a way of a name and an index
index_pieces : {to : TypeName} {named : NamedType} {word : ℕ} {handed further : List Handed} (bytes : List ℕ) (at : ℕ) (index : Expr)
    → Finds sample start (PieceIs (OfType to) (Passes (TypeIs named) handed)) start
    → Finds sample start (PieceIs (ConstantIndex index) (Passes (IndexIs word) further)) start
    → Finds sample start (PiecesAre (OfType to ∷ indices_in (NamedPart (identifier bytes at) ∷ IndexedPart index ∷ [])) (Passes (TypeIs named ∷ IndexIs word ∷ []) (handed ++ (further ++ [])))) start
index_pieces {to} {named} {word} {handed} {further} bytes at index found is =
    subst (λ (pieces : List Piece). Finds sample start (PiecesAre (OfType to ∷ pieces) (Passes (TypeIs named ∷ IndexIs word ∷ []) (handed ++ (further ++ [])))) start)
    (sym (both (λ (a b : Step). index_in a ++ (index_in b ++ [])) _ _ _ _ (outs-Part::Member (identifier bytes at)) (outs-At index))) (two found is)

lead_by_index : {t : CType} {way : Way} {word : ℕ} (bytes : List ℕ) (at : ℕ) (index : Expr)
    → LeadsFrom Lp64 structs (token 0) t (Part::Member (identifier bytes at) ∷ At index ∷ []) (word ∷ []) way
    → LeadsFrom Lp64 structs (token 0) t (map out-Part (NamedPart (identifier bytes at) ∷ IndexedPart index ∷ [])) (word ∷ []) way
lead_by_index {t} {way} {word} bytes at index leads =
    subst (λ (steps : List Step). LeadsFrom Lp64 structs (token 0) t steps (word ∷ []) way)
    (sym (both (λ (a b : Step). a ∷ b ∷ []) _ _ _ _ (outs-Part::Member (identifier bytes at)) (outs-At index))) leads

pub are_sizes : AreSizes
are_sizes = record {
  of_expression = (_, _, _, Walked (outs-SizeOf _) (one (UnloadedOperand (n 0 1))) (SizeOfExpression (ap extent_of (laid_4 true)) (refl, refl, refl)), refl, refl);
  of_array = (_, _, _, Walked (outs-SizeOf _) (one (UnloadedOperand (row 0 1))) (SizeOfExpression (ap extent_of (laid_chars 3)) (refl, refl, refl)), refl, refl);
  of_large_object = (start, Walked (outs-SizeOf _) (one (UnloadedOperand (vast 0 1))) (SizeOfExpression (ap extent_of (laid_chars 70000)) (alone _)));
  of_void = (start, Walked (outs-SizeOf _) (one (UnloadedOperand (Walked (outs-Unary Follow _) (one (vp 0 2)) (Indirection (seen k_p))))) (SizeOfExpression (ap extent_of laid_void) (alone _)));
  of_type = (_, _, _, Walked (outs-SizeOfType _) (one (TypeInside (TypeNamed (out-roll-TypeName _) (outs-Basic (Integer Long true)) BasicSpecifier NoSizes (ap is_over (laid_8 true))))) (SizeOfTypeName (ap extent_of (laid_8 true)) (refl, refl, refl)), refl, refl);
  of_void_type = (start, Walked (outs-SizeOfType _) (one (TypeInside (TypeNamed (out-roll-TypeName _) (outs-Basic Void) BasicSpecifier NoSizes (ap is_over laid_void)))) (SizeOfTypeName (ap extent_of laid_void) (alone _)));
  of_typeof = (_, _, _, Walked (outs-SizeOfType _) (one (TypeInside (TypeNamed (out-roll-TypeName _) (outs-OfExpr _) (TypeofExpression (UnloadedOperand (row 0 4))) NoSizes (ap is_over (laid_chars 3))))) (SizeOfTypeName (ap extent_of (laid_chars 3)) (refl, refl, refl)), refl, refl);
  of_constant_array = (_, _, _, Walked (outs-SizeOfType _) (one (TypeInside (TypeNamed (out-roll-TypeName _) (outs-Basic (Integer Char true)) BasicSpecifier (MoreSizes (SizeOfItems (vread (codes "5") (int_of 5) 0 4 m_5) (seen k_int) refl) NoSizes) (ap is_over (laid_chars 5))))) (SizeOfTypeName (ap extent_of (laid_chars 5)) (refl, refl, refl)), refl, refl);
  of_variable_array = (start, Walked (outs-SizeOfType _) (one (TypeInside (TypeNamed (out-roll-TypeName _) (outs-Basic (Integer Char true)) BasicSpecifier (MoreSizes (SizeOfItems (vn 0 4) (seen k_int) refl) NoSizes) (ap is_over (laid_chars 1))))) (SizeOfTypeName (ap extent_of (laid_chars 1)) (alone _)));
  of_large_array = (start, Walked (outs-SizeOfType _) (one (TypeInside (TypeNamed (out-roll-TypeName _) (outs-Basic (Integer Char true)) BasicSpecifier (MoreSizes (SizeOfItems (vread (codes "70000") (int_of 70000) 0 4 m_70000) (seen k_int) refl) NoSizes) (ap is_over (laid_chars 70000))))) (SizeOfTypeName (ap extent_of (laid_chars 70000)) (record { front = []; back = fault (token 0) (Construct 19) ∷ []; whole = refl; later = tt; behind = (omega arith, tt) })));
  of_empty_array = (start, RefusedInside (outs-SizeOfType _) (RefusedHere (TypeRefused (SizesRefused (out-roll-TypeName _) (outs-Basic (Integer Char true)) BasicSpecifier (SizesRefusedHere (SizeUnderOne (v0 0 4) (seen k_int) refl))))));
  cast = (_, _, _, Walked (outs-Cast _ _) (two (TypeInside (TypeNamed (out-roll-TypeName _) (outs-Basic (Integer Char true)) BasicSpecifier NoSizes (ap is_over (laid_1 true)))) (vread (codes "300") (int_of 300) 0 3 m_300)) (CastToType k_char (seen k_int) (refl, refl, refl)), refl, refl);
  null_pointer = (_, _, _, Walked (outs-Cast _ _) (two (TypeInside (TypeNamed (out-roll-TypeName _) (outs-Basic Void) BasicSpecifier NoSizes (ap is_over (laid_pointer _)))) (v0 0 4)) (CastToType k_p (seen k_int) (refl, refl, refl)), refl, refl);
  of_number = (start, Walked (outs-Cast _ _) (two (TypeInside (TypeNamed (out-roll-TypeName _) (outs-Basic (Integer Char true)) BasicSpecifier NoSizes (ap is_over (laid_pointer _)))) (vn 0 4)) (CastToType k_chars (seen k_int) (alone _)));
  of_pointer = (start, Walked (outs-Cast _ _) (two (TypeInside (TypeNamed (out-roll-TypeName _) (outs-Basic (Integer Long true)) BasicSpecifier NoSizes (ap is_over (laid_8 true)))) (vp 0 3)) (CastToType k_long (seen k_p) (alone _)));
  operand_first = (start, RefusedInside (outs-Cast _ _) (RefusedBehind (TypeInside (TypeNamed (out-roll-TypeName _) (outs-Basic (Integer Char true)) BasicSpecifier (MoreSizes (SizeOfItems (vn 0 3) (seen k_int) refl) NoSizes) (ap is_over (laid_chars 1)))) (RefusedHere (LoadedRefused (y 1 6)))));
  to_variable_array = (start, Walked (outs-Cast _ _) (two (TypeInside (TypeNamed (out-roll-TypeName _) (outs-Basic (Integer Char true)) BasicSpecifier (MoreSizes (SizeOfItems (vn 0 3) (seen k_int) refl) NoSizes) (ap is_over (laid_chars 1)))) (vn 1 6)) (CastToType (k_row 1) (seen k_int) (record { front = []; back = fault (token 0) (Rule 4) ∷ []; whole = refl; later = tt; behind = (tt, tt) })));
  idiom = (_, _, _, Walked (outs-Cast _ _) (two (TypeInside (TypeNamed (out-roll-TypeName _) (outs-Basic (Integer Long true)) BasicSpecifier NoSizes (ap is_over (laid_8 true)))) (LoadedValue (Walked (outs-Unary Address _) (one (UnloadedOperand (Walked (outs-ExprForm::Member _ _ true) (one (LoadedValue (Walked (outs-Cast _ _) (two (TypeInside (TypeNamed (out-roll-TypeName _) (outs-Struct _ _) (StructSpecifier refl) NoSizes (ap is_over (laid_pointer _)))) (v0 0 10)) (CastToType k_r (seen k_int) (refl, refl, refl))) refl)) (MemberOfPointed (seen k_r) (of_s (codes "b")) b_offset)))) (AddressOf (seen k_chars))) refl)) (CastToType k_long (seen k_char_pointers) (refl, refl, refl)), refl, refl);
  member = (_, _, _, Walked (outs-OffsetOf _ _) (path_pieces (codes "b") 5 (TypeInside (TypeNamed (out-roll-TypeName _) (outs-Struct _ _) (StructSpecifier refl) NoSizes (ap is_over laid_s)))) (OffsetOfMember {indices = []} refl (lead_by (codes "b") 5 (ToFirst (of_s (codes "b")) b_offset Arrives)) (refl, refl, refl)), refl, refl);
  item = (_, _, _, Walked (outs-OffsetOf _ _) (index_pieces (codes "e") 5 (constant (codes "2") 0 7) (TypeInside (TypeNamed (out-roll-TypeName _) (outs-Struct _ _) (StructSpecifier refl) NoSizes (ap is_over laid_v))) (IndexOfPath (vread (codes "2") (int_of 2) 0 7 m_2) (seen k_int) refl)) (OffsetOfMember {indices = 2 ∷ []} refl (lead_by_index (codes "e") 5 (constant (codes "2") 0 7) (ToFirst (of_v (codes "e")) e_offset (ToItem (ap item_in (k_row 3)) char_bytes Arrives))) (refl, refl, refl)), refl, refl);
  item_before = (_, _, _, Walked (outs-OffsetOf _ _) (index_pieces (codes "e") 5 (node 1 7 (Unary Minus (constant (codes "1") 0 8))) (TypeInside (TypeNamed (out-roll-TypeName _) (outs-Struct _ _) (StructSpecifier refl) NoSizes (ap is_over laid_v))) (IndexOfPath (negative_one 0 8 7) (seen k_int) refl)) (OffsetOfMember {indices = 18446744073709551615 ∷ []} refl (lead_by_index (codes "e") 5 (node 1 7 (Unary Minus (constant (codes "1") 0 8))) (ToFirst (of_v (codes "e")) e_offset (ToItem (ap item_in (k_row 3)) char_bytes Arrives))) (refl, refl, refl)), refl, refl);
  item_in_front = (_, _, _, Walked (outs-OffsetOf _ _) (index_pieces (codes "e") 5 (node 1 7 (Unary Minus (constant (codes "8") 0 8))) (TypeInside (TypeNamed (out-roll-TypeName _) (outs-Struct _ _) (StructSpecifier refl) NoSizes (ap is_over laid_v))) (IndexOfPath (negative_eight 0 8 7) (seen k_int) refl)) (OffsetOfMember {indices = 18446744073709551608 ∷ []} refl (lead_by_index (codes "e") 5 (node 1 7 (Unary Minus (constant (codes "8") 0 8))) (ToFirst (of_v (codes "e")) e_offset (ToItem (ap item_in (k_row 3)) char_bytes Arrives))) (refl, refl, refl)), refl, refl);
  item_of_number = (start, Walked (outs-OffsetOf _ _) (index_pieces (codes "a") 5 (constant (codes "2") 0 7) (TypeInside (TypeNamed (out-roll-TypeName _) (outs-Struct _ _) (StructSpecifier refl) NoSizes (ap is_over laid_v))) (IndexOfPath (vread (codes "2") (int_of 2) 0 7 m_2) (seen k_int) refl)) (OffsetOfMember {indices = 2 ∷ []} refl (lead_by_index (codes "a") 5 (constant (codes "2") 0 7) (ToFirst (of_v (codes "a")) a_offset (NoItem (ap item_in k_int)))) (alone _)));
  no_struct = (start, Walked (outs-OffsetOf _ _) (path_pieces (codes "a") 4 (TypeInside (TypeNamed (out-roll-TypeName _) (outs-Basic (Integer Int true)) BasicSpecifier NoSizes (ap is_over (laid_4 true))))) (OffsetOfMember {indices = []} refl (lead_by (codes "a") 4 (NoFirst (ap (λ (kind : Kind). member_in structs (has_size structs int_type) kind (codes "a")) k_int))) (alone _)));
  no_member = (start, Walked (outs-OffsetOf _ _) (path_pieces (codes "d") 5 (TypeInside (TypeNamed (out-roll-TypeName _) (outs-Struct _ _) (StructSpecifier refl) NoSizes (ap is_over laid_s)))) (OffsetOfMember {indices = []} refl (lead_by (codes "d") 5 (NoFirst (of_s (codes "d")))) (alone _)));
}
