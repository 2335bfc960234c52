-- Type names of the examples.
use Rattle.std.proofs.Common.{◌≡◌, Bool, true, false, List, [], ◌∷◌, refl, ap, arith}
use Rattle.std.specs.Prelude.{is_some, codes}
use Rattle.cbase.specs.declared.ctype.CType.TheVariants.{Struct as StructType}
use Rattle.cbase.specs.declared.structs.StructDef.{StructDef}
use Rattle.cbase.specs.declared.tree.spec.BasicType.TheVariants.{Void, Bool as BoolWord, Integer}
use Rattle.cbase.specs.declared.tree.spec.Rank.TheVariants.{Char, Int}
use Rattle.cbase.specs.Layout.{extent_of}
use Rattle.typing.specs.ctypes.Kinds.{Kind, Struct}
use Rattle.typing.specs.ctypes.Members.{member_in, member_of}
use Rattle.typing.proofs.ctypes.ShapeKinds.{are_kinds}
use Rattle.typing.specs.Forms.{name_in}
use Rattle.typing.specs.NamedTypes.{is_over}
use Rattle.typing.specs.Paths.{NoFirst}
use Rattle.typing.proofs.ExamplesSizes.{path_pieces, lead_by}
use Rattle.cbase.specs.declared.tree.expr.ExprForm.TheViews.{outs-Name, outs-Cast, outs-SizeOf, outs-SizeOfType, outs-OffsetOf, outs-Call, outs-Basic, outs-Struct, outs-OfExpr, outs-Named, outs-Enum, outs-OfType, out-roll-TypeName}
use Rattle.typing.specs.Faults.{fault}
use Rattle.typing.specs.declared.ctypes.found.Broken.TheVariants.{Construct, Rule}
use Rattle.typing.specs.Examples.{AreTypeNames}
use Rattle.typing.specs.Sample.{start, token, sample}
use Rattle.typing.specs.Rules.{ObjectName, FunctionAsOperand, NoArguments, CallOfFunction, SizeOfTypeName, OffsetOfMember, CastToType}
use Rattle.typing.specs.Typing.{RefusedInside, Walked, NoPieces, MorePieces, RefusedHere, LoadedValue, UnloadedRefused, CalledFunction, TypeInside, TypeRefused, SizeOfItems, BasicSpecifier, StructSpecifier, StructDeclared, NoSizes, MoreSizes, TypeNamed, TypedefSpecifier, EnumDeclared, EnumIsStruct, SizeLeftOut, TypeofType, WordsRefused, TypeofRefused}
use Rattle.typing.proofs.SampleFacts.{structs, laid_1, laid_4, laid_void, laid_pointer, pointer_laid, laid_chars, laid_s, laid_t, k_int, k_void, k_s, k_p, seen, alone, int_of, vn, vp, vx, vread, one, two, m_3, both, laid_t, laid_bool, laid_rows, k_bool, k_pointer_to_none, m_2}

of_t : member_of structs (StructType 1) (codes "a") ≡ member_in structs false (Struct 1) (codes "a")
of_t = both (λ (sized : Bool) (kind : Kind). member_in structs sized kind (codes "a")) _ _ _ _ (ap is_some laid_t) ((are_kinds structs).struct 1)

-- the structs where one more is declared
abbrev new_structs : List StructDef
new_structs = (sample.struct_declared (codes "w") start).structs

pub are_type_names : AreTypeNames
are_type_names = record {
  of_typedef = (_, _, _, Walked (outs-SizeOfType _) (one (TypeInside (TypeNamed (out-roll-TypeName _) (outs-Named _) TypedefSpecifier NoSizes (ap is_over (laid_1 true))))) (SizeOfTypeName (ap extent_of (laid_1 true)) (refl, refl, refl)), refl, refl);
  of_undeclared = (start, Walked (outs-SizeOfType _) (one (TypeInside (TypeNamed (out-roll-TypeName _) (outs-Named _) TypedefSpecifier NoSizes (ap is_over laid_void)))) (SizeOfTypeName (ap extent_of laid_void) (record { front = []; back = fault (token 0) (Rule 3) ∷ []; whole = refl; later = tt; behind = (omega arith, tt) })));
  of_object = (start, Walked (outs-SizeOfType _) (one (TypeInside (TypeNamed (out-roll-TypeName _) (outs-Named _) TypedefSpecifier NoSizes (ap is_over (laid_pointer _))))) (SizeOfTypeName (ap extent_of (laid_pointer _)) (alone _)));
  of_struct = (_, _, _, Walked (outs-SizeOfType _) (one (TypeInside (TypeNamed (out-roll-TypeName _) (outs-Struct _ _) (StructSpecifier refl) NoSizes (ap is_over laid_s)))) (SizeOfTypeName (ap extent_of laid_s) (refl, refl, refl)), refl, refl);
  of_incomplete = (start, Walked (outs-SizeOfType _) (one (TypeInside (TypeNamed (out-roll-TypeName _) (outs-Struct _ _) (StructSpecifier refl) NoSizes (ap is_over laid_t)))) (SizeOfTypeName (ap extent_of laid_t) (alone _)));
  of_new_struct = (_, _, _, Walked (outs-SizeOfType _) (one (TypeInside (TypeNamed (out-roll-TypeName _) (outs-Struct _ _) (StructDeclared refl) NoSizes (ap is_over (pointer_laid new_structs (StructType 3)))))) (SizeOfTypeName (ap extent_of (pointer_laid new_structs (StructType 3))) (refl, refl, refl)), refl, refl);
  of_new_enum = (_, _, _, Walked (outs-SizeOfType _) (one (TypeInside (TypeNamed (out-roll-TypeName _) (outs-Enum _ _) (EnumDeclared refl) NoSizes (ap is_over (laid_4 true))))) (SizeOfTypeName (ap extent_of (laid_4 true)) (refl, refl, refl)), refl, refl);
  of_other_kind = (start, RefusedInside (outs-SizeOfType _) (RefusedHere (TypeRefused (WordsRefused (out-roll-TypeName _) (outs-Enum _ _) (EnumIsStruct refl)))));
  of_size_left_out = (start, Walked (outs-SizeOfType _) (one (TypeInside (TypeNamed (out-roll-TypeName _) (outs-Basic (Integer Char true)) BasicSpecifier (SizeLeftOut NoSizes) (ap is_over (laid_chars 1))))) (SizeOfTypeName (ap extent_of (laid_chars 1)) (alone _)));
  of_sizes_by_order = (start, Walked (outs-SizeOfType _) (one (TypeInside (TypeNamed (out-roll-TypeName _) (outs-Basic (Integer Char true)) BasicSpecifier (SizeLeftOut (MoreSizes (SizeOfItems (vn 0 6) (seen k_int) refl) NoSizes)) (ap is_over (laid_rows 1 1))))) (SizeOfTypeName (ap extent_of (laid_rows 1 1)) (alone _)));
  of_rows = (_, _, _, Walked (outs-SizeOfType _) (one (TypeInside (TypeNamed (out-roll-TypeName _) (outs-Basic (Integer Char true)) BasicSpecifier (MoreSizes (SizeOfItems (vread (codes "2") (int_of 2) 0 4 m_2) (seen k_int) refl) (MoreSizes (SizeOfItems (vread (codes "3") (int_of 3) 1 7 m_3) (seen k_int) refl) NoSizes)) (ap is_over (laid_rows 2 3))))) (SizeOfTypeName (ap extent_of (laid_rows 2 3)) (refl, refl, refl)), refl, refl);
  of_variable_typeof = (start, Walked (outs-SizeOfType _) (one (TypeInside (TypeNamed (out-roll-TypeName _) (outs-OfType _) (TypeofType (TypeNamed (out-roll-TypeName _) (outs-Basic (Integer Char true)) BasicSpecifier (MoreSizes (SizeOfItems (vn 0 6) (seen k_int) refl) NoSizes) (ap is_over (laid_chars 1)))) NoSizes (ap is_over (laid_chars 1))))) (SizeOfTypeName (ap extent_of (laid_chars 1)) (alone _)));
  of_pointer_to_variable = (start, Walked (outs-SizeOfType _) (one (TypeInside (TypeNamed (out-roll-TypeName _) (outs-OfType _) (TypeofType (TypeNamed (out-roll-TypeName _) (outs-Basic (Integer Char true)) BasicSpecifier (MoreSizes (SizeOfItems (vn 0 6) (seen k_int) refl) NoSizes) (ap is_over (laid_chars 1)))) NoSizes (ap is_over (laid_pointer _))))) (SizeOfTypeName (ap extent_of (laid_pointer _)) (alone _)));
  pointer_cast_first = (start, Walked (outs-Cast _ _) (two (TypeInside (TypeNamed (out-roll-TypeName _) (outs-OfType _) (TypeofType (TypeNamed (out-roll-TypeName _) (outs-Basic (Integer Char true)) BasicSpecifier (MoreSizes (SizeOfItems (vn 0 5) (seen k_int) refl) NoSizes) (ap is_over (laid_chars 1)))) NoSizes (ap is_over (laid_pointer _)))) (vn 1 10)) (CastToType k_pointer_to_none (seen k_int) (record { front = fault (token 0) (Construct 18) ∷ []; back = []; whole = refl; later = (λ comes. omega arith, tt); behind = tt })));
  of_parameter = (start, RefusedInside (outs-SizeOf _) (RefusedHere (UnloadedRefused (Walked (outs-Name (codes "count")) NoPieces (ObjectName refl (ap is_some (laid_4 true)) (alone _))))));
  of_undefined = (start, RefusedInside (outs-SizeOf _) (RefusedHere (UnloadedRefused (Walked (outs-Name (codes "missing")) NoPieces (ObjectName refl (ap is_some (laid_4 true)) (alone _))))));
  of_function = (start, RefusedInside (outs-SizeOfType _) (RefusedHere (TypeRefused (WordsRefused (out-roll-TypeName _) (outs-OfExpr _) (TypeofRefused (UnloadedRefused (Walked (outs-Name (codes "f")) NoPieces (FunctionAsOperand refl (alone _)))))))));
  to_bool = (_, _, _, Walked (outs-Cast _ _) (two (TypeInside (TypeNamed (out-roll-TypeName _) (outs-Basic BoolWord) BasicSpecifier NoSizes (ap is_over laid_bool))) (vp 0 3)) (CastToType k_bool (seen k_p) (refl, refl, refl)), refl);
  struct_to_void = (start, Walked (outs-Cast _ _) (two (TypeInside (TypeNamed (out-roll-TypeName _) (outs-Basic Void) BasicSpecifier NoSizes (ap is_over laid_void))) (vx 0 3)) (CastToType k_void (seen k_s) (alone _)));
  void_to_int = (start, Walked (outs-Cast _ _) (two (TypeInside (TypeNamed (out-roll-TypeName _) (outs-Basic (Integer Int true)) BasicSpecifier NoSizes (ap is_over (laid_4 true)))) (LoadedValue (Walked (outs-Call _ _) (MorePieces (CalledFunction (ap name_in (outs-Name (codes "g"))) refl (refl, refl, refl)) NoPieces) (CallOfFunction NoArguments k_void refl (refl, refl, refl))) refl)) (CastToType k_int (seen k_void) (alone _)));
  in_incomplete = (start, Walked (outs-OffsetOf _ _) (path_pieces (codes "a") 5 (TypeInside (TypeNamed (out-roll-TypeName _) (outs-Struct _ _) (StructSpecifier refl) NoSizes (ap is_over laid_t)))) (OffsetOfMember {indices = []} refl (lead_by (codes "a") 5 (NoFirst of_t)) (alone _)));
}
