-- Indices and members of the examples.
use Rattle.std.proofs.Common.{◌≡◌, ℕ, Bool, true, false, List, refl, ap}
use Rattle.std.specs.Prelude.{is_some, codes}
use Rattle.cbase.specs.declared.ctype.CType.TheVariants.{Struct as StructType}
use Rattle.typing.specs.ctypes.Binary.{int_type}
use Rattle.typing.specs.ctypes.Kinds.{Kind, Struct, has_size}
use Rattle.typing.specs.ctypes.Members.{member_in, member_of}
use Rattle.typing.proofs.ctypes.ShapeKinds.{are_kinds}
use Rattle.cbase.specs.declared.tree.expr.ExprForm.TheViews.{outs-Index, outs-ExprForm::Member}
use Rattle.typing.specs.Examples.{AreMembers}
use Rattle.typing.specs.Sample.{start, name}
use Rattle.typing.specs.Rules.{Subscript, MemberOfStruct, MemberOfPointed}
use Rattle.typing.specs.Typing.{Walked, UnloadedOperand}
use Rattle.typing.proofs.SampleFacts.{structs, laid_s, laid_t, k_int, k_s, k_row, k_r, k_z, seen, n, x, vn, vrow, vr, vz, one, two, v1, both}

of_s : (name : List ℕ) → member_of structs (StructType 0) name ≡ member_in structs true (Struct 0) name
of_s name = both (λ (sized : Bool) (kind : Kind). member_in structs sized kind name) _ _ _ _ (ap is_some laid_s) k_s

of_t : member_of structs (StructType 1) (codes "a") ≡ member_in structs false (Struct 1) (codes "a")
of_t = both (λ (sized : Bool) (kind : Kind). member_in structs sized kind (codes "a")) _ _ _ _ (ap is_some laid_t) ((are_kinds structs).struct 1)

pub are_members : AreMembers
are_members = record {
  item = (_, _, _, Walked (outs-Index _ _) (two (vrow 0 0) (v1 1 2)) (Subscript (seen (k_row 3)) (seen k_int) refl), refl);
  swapped = (_, _, _, Walked (outs-Index _ _) (two (v1 0 0) (vrow 1 2)) (Subscript (seen k_int) (seen (k_row 3)) refl), refl);
  of_incomplete = (start, Walked (outs-Index _ _) (two (vz 0 0) (v1 1 2)) (Subscript (seen k_z) (seen k_int) refl));
  of_number = (start, Walked (outs-Index _ _) (two (vn 0 0) (v1 1 2)) (Subscript (seen k_int) (seen k_int) refl));
  member = (_, _, _, Walked (outs-ExprForm::Member _ _ false) (one (UnloadedOperand (x 0 0))) (MemberOfStruct (of_s (codes "a")) refl), refl);
  pointed = (_, _, _, Walked (outs-ExprForm::Member _ _ true) (one (vr 0 0)) (MemberOfPointed (seen k_r) (of_s (codes "b")) refl), refl);
  no_member = (start, Walked (outs-ExprForm::Member _ _ false) (one (UnloadedOperand (x 0 0))) (MemberOfStruct (of_s (codes "d")) refl));
  in_incomplete = (start, Walked (outs-ExprForm::Member _ _ true) (one (vz 0 0)) (MemberOfPointed (seen k_z) of_t refl));
  in_number = (start, Walked (outs-ExprForm::Member _ _ false) (one (UnloadedOperand (n 0 0))) (MemberOfStruct (ap (λ (kind : Kind). member_in structs (has_size structs int_type) kind (codes "a")) k_int) refl));
}
