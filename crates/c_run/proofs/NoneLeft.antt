-- A list has no item where its length is 0.
use Rattle.std.proofs.Common.{◌≡◌, ◌↔◌, suc, Bool, IsTrue, List, [], ◌∷◌, length, nat_eq, refl, sym, subst, arith, eqb-true}

pub none_by_length : {A : Type 0} (items : List A) (none : Bool) → none ≡ nat_eq (length items) 0 → IsTrue none ↔ (items ≡ [])
none_by_length [] none is = (λ holds. refl, λ same. subst IsTrue (sym is) refl)
none_by_length (item ∷ rest) none is = (λ holds. let same : suc (length rest) ≡ 0 = eqb-true (length (item ∷ rest)) 0 (subst IsTrue is holds) in absurd (omega (arith, same)), λ same. absurd cc)
