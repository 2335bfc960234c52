-- A token at which a declarator ends, or an initialiser begins, stands at depth 0.
use Rattle.std.proofs.Common.{◌≡◌, ℕ, Bool, true, false, ◌||◌, ◌&&◌, nat_eq, refl}
use Rattle.std.proofs.lemmas.Bool.{eqb-true}
use Rattle.definitions.specs.declared.role.Role.{Role}
use Rattle.definitions.specs.declared.role.Role.TheVariants.{Comma, Semicolon, Equals}
use Rattle.definitions.specs.Rows.{depth_after}
use Rattle.definitions.specs.Defined.{begins_initialiser, ends_declarator}

-- what both say where they are true
both : (depth : ℕ) (b : Bool) → (nat_eq depth 0 && b) ≡ true → (depth ≡ 0) × (b ≡ true)
both depth b h = split (nat_eq depth 0) refl h
  where
    split : (test : Bool) → nat_eq depth 0 ≡ test → (test && b) ≡ true → (depth ≡ 0) × (b ≡ true)
    split true is h = (eqb-true depth 0 is, h)
    split false is h = absurd cc

never : (depth : ℕ) (P : Type 0) → (nat_eq depth 0 && false) ≡ true → P
never depth P h = let e : false ≡ true = (both depth false h).1 in absurd cc

begun_outermost : (depth : ℕ) (role : Role) → begins_initialiser depth role ≡ true → depth_after depth role ≡ 0
begun_outermost depth Equals h = (both depth true h).0
begun_outermost depth role h = never depth (depth_after depth role ≡ 0) h

ended_outermost : (depth : ℕ) (role : Role) → ends_declarator depth role ≡ true → depth_after depth role ≡ 0
ended_outermost depth Comma h = (both depth true h).0
ended_outermost depth Semicolon h = (both depth true h).0
ended_outermost depth role h = never depth (depth_after depth role ≡ 0) h

-- no bracket is open behind it
pub over_outermost : (depth : ℕ) (role : Role) → (begins_initialiser depth role || ends_declarator depth role) ≡ true → depth_after depth role ≡ 0
over_outermost depth role h = split (begins_initialiser depth role) refl h
  where
    split : (test : Bool) → begins_initialiser depth role ≡ test → (test || ends_declarator depth role) ≡ true → depth_after depth role ≡ 0
    split true is h = begun_outermost depth role is
    split false is h = ended_outermost depth role h
