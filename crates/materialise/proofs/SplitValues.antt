-- What the values of a graph become where the first node of a segment is a region.
use Rattle.std.proofs.Common.{◌≡◌, ℕ, Bool, true, false, nat_eq, ℤ, refl, sym, ◌∙◌, ap, eqb-true}
use Rattle.std.specs.Prelude.{if◌then◌else◌}
use Rattle.std.proofs.lemmas.Bool.{false≢true}
use Rattle.graph.specs.declared.value.Target.{Target}
use Rattle.graph.specs.declared.value.Target.TheVariants.{Region, First, Last, Each}
use Rattle.graph.specs.declared.value.Value.{Value}
use Rattle.graph.specs.declared.value.Value.TheVariants.{Const, Number, Any, Address}
use Rattle.graph.specs.Sizes.{value_size}
use Rattle.graph.specs.WellFormed.{may_stand_in, may_be_held, is_outward, is_null}
use Rattle.materialise.specs.SplitFirst.{is_own_target, is_own, at_region, first_target, first_value}

-- what does not tell one address from another
abbrev pub IsBlind : {A : Type 0} → (Value → A) → Type 0
IsBlind f = (object other : ℕ) (offset at : ℤ) (target to : Target) → f (Address object offset target) ≡ f (Address other at to)

module _ (region key : ℕ) where
  abbrev alone_of : Value → Value
  alone_of value = if is_own key value then at_region region value else first_value region key value

  pub become_blind : {A : Type 0} (f : Value → A) → IsBlind f → (value : Value) → f (first_value region key value) ≡ f value
  become_blind f blind (Const number size) = refl
  become_blind f blind (Number size) = refl
  become_blind f blind Any = refl
  become_blind f blind (Address object offset target) = by_key (nat_eq object key)
    where
      by_target : (target : Target) → f (first_target region key target offset) ≡ f (Address object offset target)
      by_target Region = blind key object offset offset Region Region
      by_target First = blind region object offset offset Region First
      by_target Last = blind key object offset offset Last Last
      by_target Each = blind key object offset offset Each Each

      by_key : (b : Bool) → f (if b then first_target region key target offset else Address object offset target) ≡ f (Address object offset target)
      by_key true = by_target target
      by_key false = refl

  pub alone_blind : {A : Type 0} (f : Value → A) → IsBlind f → (value : Value) → f (alone_of value) ≡ f value
  alone_blind f blind (Const number size) = refl
  alone_blind f blind (Number size) = refl
  alone_blind f blind Any = refl
  alone_blind f blind (Address object offset target) = by_own (if nat_eq object key then is_own_target target else false)
    where
      by_own : (b : Bool) → f (if b then Address region offset Region else first_value region key (Address object offset target)) ≡ f (Address object offset target)
      by_own true = blind region object offset offset Region target
      by_own false = become_blind f blind (Address object offset target)

  pub region_blind : {A : Type 0} (f : Value → A) → IsBlind f → (value : Value) → f (at_region region value) ≡ f value
  region_blind f blind (Const number size) = refl
  region_blind f blind (Number size) = refl
  region_blind f blind Any = refl
  region_blind f blind (Address object offset target) = blind region object offset offset Region target

  pub become_outward : (value : Value) → is_outward (first_value region key value) ≡ is_outward value
  become_outward (Const number size) = refl
  become_outward (Number size) = refl
  become_outward Any = refl
  become_outward (Address object offset target) = by_key (nat_eq object key)
    where
      by_target : (target : Target) → is_outward (first_target region key target offset) ≡ is_outward (Address object offset target)
      by_target Region = refl
      by_target First = refl
      by_target Last = refl
      by_target Each = refl

      by_key : (b : Bool) → is_outward (if b then first_target region key target offset else Address object offset target) ≡ is_outward (Address object offset target)
      by_key true = by_target target
      by_key false = refl

  pub become_held : (value : Value) → may_be_held (first_value region key value) ≡ may_be_held value
  become_held (Const number size) = refl
  become_held (Number size) = refl
  become_held Any = refl
  become_held (Address object offset target) = by_key (nat_eq object key)
    where
      by_target : (target : Target) → may_be_held (first_target region key target offset) ≡ may_be_held (Address object offset target)
      by_target Region = refl
      by_target First = refl
      by_target Last = refl
      by_target Each = refl

      by_key : (b : Bool) → may_be_held (if b then first_target region key target offset else Address object offset target) ≡ may_be_held (Address object offset target)
      by_key true = by_target target
      by_key false = refl

  pub become_stands : (home : ℕ) (value : Value) → may_stand_in home value ≡ true → may_stand_in home (first_value region key value) ≡ true
  become_stands home (Const number size) stands = refl
  become_stands home (Number size) stands = refl
  become_stands home Any stands = refl
  become_stands home (Address object offset target) stands = by_key (nat_eq object key) refl
    where
      by_target : (target : Target) → object ≡ key → may_stand_in home (Address object offset target) ≡ true → may_stand_in home (first_target region key target offset) ≡ true
      by_target Region same stands = refl
      by_target First same stands = refl
      by_target Last same stands = refl
      by_target Each same stands = ap (λ (k : ℕ). nat_eq k home) (sym same) ∙ stands

      by_key : (b : Bool) → nat_eq object key ≡ b → may_stand_in home (if b then first_target region key target offset else Address object offset target) ≡ true
      by_key true is = by_target target (eqb-true _ _ is) stands
      by_key false is = stands

  -- a region holds no address that is each node's own
  pub alone_stands : (value : Value) → may_stand_in key value ≡ true → may_stand_in region (alone_of value) ≡ true
  alone_stands (Const number size) stands = refl
  alone_stands (Number size) stands = refl
  alone_stands Any stands = refl
  alone_stands (Address object offset target) stands = by_target target stands
    where
      by_key : (b : Bool) (target : Target) → may_stand_in region (first_target region key target offset) ≡ true → may_stand_in region (Address object offset target) ≡ true →
          may_stand_in region (if b then first_target region key target offset else Address object offset target) ≡ true
      by_key true target one other = one
      by_key false target one other = other

      no_own : (b : Bool) (value : Value) → may_stand_in region value ≡ true → may_stand_in region (if if b then false else false then Address region offset Region else value) ≡ true
      no_own true value is = is
      no_own false value is = is

      by_target : (target : Target) → may_stand_in key (Address object offset target) ≡ true → may_stand_in region (alone_of (Address object offset target)) ≡ true
      by_target Region stands = no_own (nat_eq object key) (first_value region key (Address object offset Region)) (by_key (nat_eq object key) Region refl refl)
      by_target First stands = no_own (nat_eq object key) (first_value region key (Address object offset First)) (by_key (nat_eq object key) First refl refl)
      by_target Last stands = no_own (nat_eq object key) (first_value region key (Address object offset Last)) (by_key (nat_eq object key) Last refl refl)
      by_target Each stands = ap (λ (b : Bool). may_stand_in region (if if b then true else false then Address region offset Region else first_value region key (Address object offset Each))) stands

  outward_stands : (home : ℕ) (value : Value) → is_outward value ≡ true → may_stand_in home value ≡ true
  outward_stands home (Const number size) outward = refl
  outward_stands home (Number size) outward = refl
  outward_stands home Any outward = refl
  outward_stands home (Address object offset Region) outward = refl
  outward_stands home (Address object offset First) outward = refl
  outward_stands home (Address object offset Last) outward = refl
  outward_stands home (Address object offset Each) outward = absurd (false≢true outward)

  pub link_stands : (home : ℕ) (value : Value) → is_outward value ≡ true → may_stand_in home (first_value region key value) ≡ true
  link_stands home value outward = outward_stands home (first_value region key value) (become_outward value ∙ outward)

  outward_size : (value : Value) → is_outward value ≡ true → value_size value ≡ 8
  outward_size (Const number size) outward = eqb-true _ _ outward
  outward_size (Number size) outward = absurd (false≢true outward)
  outward_size Any outward = refl
  outward_size (Address object offset target) outward = refl

  pub link_size : (value : Value) → is_outward value ≡ true → value_size (first_value region key value) ≡ 8
  link_size value outward = outward_size (first_value region key value) (become_outward value ∙ outward)

  pub become_null : (value : Value) → is_null value ≡ true → is_null (first_value region key value) ≡ true
  become_null (Const number size) is = is
  become_null (Number size) is = is
  become_null Any is = is
  become_null (Address object offset target) is = absurd (false≢true is)
