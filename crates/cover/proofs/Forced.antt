-- What variables, registers and ports force to be paired, one after the other.
use Rattle.std.proofs.Common.{◌≡◌, ◌≢◌, ℕ, zero, suc, ◌+◌, ◌<◌, ◌≤◌, Bool, true, false, List, [], ◌∷◌, map, length, get_or, nat_eq, Option, Some, refl, sym, ◌∙◌, ap, subst, eqb-true, eq-eqb, arith}
use Rattle.std.specs.Prelude.{slice_get}
use Rattle.std.proofs.lemmas.Bool.{false≢true}
use Rattle.std.proofs.lemmas.List.{length-map}
use Rattle.std.proofs.lemmas.Option.{same_Some, slice_get_within}
use Rattle.graph.specs.declared.parts.Held.{Held}
use Rattle.graph.specs.declared.parts.Named.{Named}
use Rattle.graph.specs.declared.parts.Parts.{Parts}
use Rattle.graph.specs.Maps.{storage_of, held_by}
use Rattle.graph.specs.Meaning.{Maps, maps_of}
use Rattle.graph.specs.Whole.{IsGraph}
use Rattle.cover.specs.declared.content.Content.{Content}
use Rattle.cover.specs.declared.found.Found.{Found}
use Rattle.cover.specs.Covers.{content, Pairing, Link, Objects, Values, IsReached, ByVariable, ByRegister, ByPort, IsIn, IsCover, AreVariablesPaired, AreRegistersPaired, ArePortsPaired}
use Rattle.cover.specs.Found.{pairing_of, IsSound, Grows, IsNone, Goes, Settles, Naming}
use Rattle.cover.proofs.Keyed.{found-place, same-found, same-numbers}

-- an entry at a place, as code reads it
pub get-at : {X : Type 0} (xs : List X) (at : ℕ) (d : X) → at < length xs → slice_get xs at ≡ Some (get_or xs at d)
get-at [] at d within = absurd (omega arith)
get-at (x ∷ xs) zero d within = refl
get-at (x ∷ xs) (suc at) d within = get-at xs at d (omega arith)

pub other-at : (k at : ℕ) → nat_eq k at ≡ false → k < at + 1 → k < at
other-at k at miss below = let differs = differ k at miss in omega arith
  where
    differ : (k at : ℕ) → nat_eq k at ≡ false → k ≢ at
    differ k at miss equal = false≢true (sym miss ∙ eq-eqb k at equal)

-- what holds of two lists holds of lists that are the same
pub for-both : {X Y : Type 0} (P : List X → List Y → Type 0) (xs xs' : List X) (ys ys' : List Y) → xs ≡ xs' → ys ≡ ys' → P xs' ys' → P xs ys
for-both P xs xs' ys ys' one other holds = subst (λ zs. P zs ys) (sym one) (subst (λ zs. P xs' zs) (sym other) holds)

module _ {One Other : Type 0} (wide narrow : Maps) (number : One → ℕ) (other_number : Other → ℕ) (link : One → Other → Link) (ones : List One) (others : List Other) where
  pub naming_start : (found : Found) → IsSound wide narrow found → Naming wide narrow number other_number link ones others found found 0
  naming_start found sound = record {
    sound = sound;
    grows = record { stays = λ link is. is; queue = λ place key is. is; objects = refl };
    linked = λ place one other below one_is other_is. absurd (omega arith);
  }

  pub naming_next : (entry before after : Found) (at : ℕ) (d : One) (e : Other) → Naming wide narrow number other_number link ones others entry before at → at < length ones → at < length others →
      number (get_or ones at d) ≡ other_number (get_or others at e) → Goes wide narrow before after (link (get_or ones at d) (get_or others at e)) true →
      Naming wide narrow number other_number link ones others entry after (at + 1)
  naming_next entry before after at d e naming within other_within same goes = record {
    sound = goes.sound;
    grows = record {
      stays = λ l is. goes.grows.stays l (naming.grows.stays l is);
      queue = λ place key is. goes.grows.queue place key (naming.grows.queue place key is);
      objects = goes.grows.objects ∙ naming.grows.objects;
    };
    linked = λ place one other below one_is other_is. by_test place one other below one_is other_is (nat_eq place at) refl;
  }
    where
      by_test : (place : ℕ) (one : One) (other : Other) → place < at + 1 → slice_get ones place ≡ Some one → slice_get others place ≡ Some other → (b : Bool) → nat_eq place at ≡ b →
          (number one ≡ other_number other) × IsIn (pairing_of after) (link one other)
      by_test place one other below one_is other_is false miss =
          let old = naming.linked place one other (other-at place at miss below) one_is other_is in
          (old.0, goes.grows.stays (link one other) old.1)
      by_test place one other below one_is other_is true hit =
          let here = eqb-true place at hit in
          let same_one : get_or ones at d ≡ one = same_Some _ _ (sym (get-at ones at d within) ∙ ap (slice_get ones) (sym here) ∙ one_is) in
          let same_other : get_or others at e ≡ other = same_Some _ _ (sym (get-at others at e other_within) ∙ ap (slice_get others) (sym here) ∙ other_is) in (
            ap number (sym same_one) ∙ same ∙ ap other_number same_other,
            subst (λ (x : One). IsIn (pairing_of after) (link x other)) same_one (subst (λ (y : Other). IsIn (pairing_of after) (link (get_or ones at d) y)) same_other (goes.stands refl)),
          )

settles : (wide narrow : Maps) (clause : Pairing → Type 0) (before after : Found) → IsSound wide narrow after → Grows before after → clause (pairing_of after) → Settles wide narrow clause before after true
settles wide narrow clause before after sound grows holds = record { sound = sound; grows = grows; holds = λ is. holds; clash = λ is. absurd (false≢true (sym is)) }

pub unsettled : (wide narrow : Maps) (clause : Pairing → Type 0) (before after : Found) → IsSound wide narrow after → Grows before after → IsNone wide narrow → Settles wide narrow clause before after false
unsettled wide narrow clause before after sound grows none = record { sound = sound; grows = grows; holds = λ is. absurd (false≢true is); clash = λ is. none }

grown : (entry before after : Found) → Grows entry before → Grows before after → Grows entry after
grown entry before after first second = record {
  stays = λ link is. second.stays link (first.stays link is);
  queue = λ place key is. second.queue place key (first.queue place key is);
  objects = second.objects ∙ first.objects;
}

-- numbers that are the same in both lists
number-of : {One Other : Type 0} (number : One → ℕ) (other_number : Other → ℕ) (ones : List One) (others : List Other) → map number ones ≡ map other_number others →
    (at : ℕ) (d : One) (e : Other) → at < length ones → number (get_or ones at d) ≡ other_number (get_or others at e)
number-of number other_number [] others same at d e within = absurd (omega arith)
number-of number other_number (one ∷ ones) [] same at d e within = absurd (let long : suc (length (map number ones)) ≡ 0 = ap length same in omega arith)
number-of number other_number (one ∷ ones) (other ∷ others) same zero d e within = ap (λ (ns : List ℕ). get_or ns 0 0) same
number-of number other_number (one ∷ ones) (other ∷ others) same (suc at) d e within = number-of number other_number ones others (ap rest same) at d e (omega arith)
  where
    rest : List ℕ → List ℕ
    rest [] = []
    rest (n ∷ ns) = ns

same-length : {One Other : Type 0} (number : One → ℕ) (other_number : Other → ℕ) (ones : List One) (others : List Other) → map number ones ≡ map other_number others → length ones ≡ length others
same-length number other_number ones others same = sym (length-map ones number) ∙ ap length same ∙ length-map others other_number

-- Variables.

module _ (wide narrow : Parts) (wide_is : IsGraph wide) (narrow_is : IsGraph narrow) where
  abbrev one : Maps
  one = maps_of wide

  abbrev two : Maps
  two = maps_of narrow

  pub variable-reached : (at : ℕ) (d e : Named) → at < length wide.variables → at < length narrow.variables → (get_or wide.variables at d).variable ≡ (get_or narrow.variables at e).variable →
      IsReached one two (Objects (get_or wide.variables at d).object (get_or narrow.variables at e).object)
  variable-reached at d e within other_within same =
      ByVariable (get_or wide.variables at d).variable (get_or wide.variables at d).object (get_or narrow.variables at e).object
      (found-place (λ (named : Named). named.variable) (λ named. named.object) wide.variables wide_is.well_formed.variables_ascend at (get_or wide.variables at d) (get-at wide.variables at d within))
      (ap (storage_of narrow.variables) same
      ∙ found-place (λ (named : Named). named.variable) (λ named. named.object) narrow.variables narrow_is.well_formed.variables_ascend at (get_or narrow.variables at e) (get-at narrow.variables at e other_within))

  -- the numbers of variables are the same where something covers
  cover-variables : (p : Pairing) → IsCover one two p → map (λ (named : Named). named.variable) wide.variables ≡ map (λ (named : Named). named.variable) narrow.variables
  cover-variables p cover =
      same-numbers (λ (named : Named). named.variable) (λ named. named.object) (λ (named : Named). named.variable) (λ named. named.object) p.object (λ object. object) wide.variables narrow.variables
      wide_is.well_formed.variables_ascend narrow_is.well_formed.variables_ascend cover.variables

  pub variables-short : (found : Found) → IsSound one two found → length wide.variables ≢ length narrow.variables → Settles one two (AreVariablesPaired one two) found found false
  variables-short found sound differ =
      unsettled one two (AreVariablesPaired one two) found found sound (record { stays = λ link is. is; queue = λ place key is. is; objects = refl })
      (record { none = λ p cover. differ (same-length (λ (named : Named). named.variable) (λ (named : Named). named.variable) wide.variables narrow.variables (cover-variables p cover)) })

  pub variables-differ : (entry found : Found) (at : ℕ) (d e : Named) → IsSound one two found → Grows entry found → at < length wide.variables →
      (get_or wide.variables at d).variable ≢ (get_or narrow.variables at e).variable → Settles one two (AreVariablesPaired one two) entry found false
  variables-differ entry found at d e sound grows within differ =
      unsettled one two (AreVariablesPaired one two) entry found sound grows
      (record { none = λ p cover. differ (number-of (λ (named : Named). named.variable) (λ (named : Named). named.variable) wide.variables narrow.variables (cover-variables p cover) at d e within) })

  pub variables-end : (entry now : Found) (at : ℕ) →
      Naming one two (λ (named : Named). named.variable) (λ (named : Named). named.variable) (λ named other. Objects named.object other.object) wide.variables narrow.variables entry now at →
      length wide.variables ≡ length narrow.variables → length wide.variables ≤ at → Settles one two (AreVariablesPaired one two) entry now true
  variables-end entry now at naming same all =
      settles one two (AreVariablesPaired one two) entry now naming.sound naming.grows
      (same-found (λ (named : Named). named.variable) (λ named. named.object) (λ (named : Named). named.variable) (λ named. named.object) (pairing_of now).object (λ object. object) wide.variables narrow.variables same
      (λ place x y x_is y_is. let within = slice_get_within wide.variables place x x_is in naming.linked place x y (omega arith) x_is y_is))

  -- Registers.

  pub register-reached : (at : ℕ) (d e : Held) → at < length wide.registers → at < length narrow.registers → (get_or wide.registers at d).register ≡ (get_or narrow.registers at e).register →
      IsReached one two (Values (get_or wide.registers at d).value (content two (get_or narrow.registers at e).value))
  register-reached at d e within other_within same =
      ByRegister (get_or wide.registers at d).register (get_or wide.registers at d).value (get_or narrow.registers at e).value
      (found-place (λ (held : Held). held.register) (λ held. held.value) wide.registers wide_is.well_formed.registers_ascend at (get_or wide.registers at d) (get-at wide.registers at d within))
      (ap (held_by narrow.registers) same
      ∙ found-place (λ (held : Held). held.register) (λ held. held.value) narrow.registers narrow_is.well_formed.registers_ascend at (get_or narrow.registers at e) (get-at narrow.registers at e other_within))

  cover-registers : (p : Pairing) → IsCover one two p → map (λ (held : Held). held.register) wide.registers ≡ map (λ (held : Held). held.register) narrow.registers
  cover-registers p cover =
      same-numbers (λ (held : Held). held.register) (λ held. held.value) (λ (held : Held). held.register) (λ held. held.value) p.value (content two) wide.registers narrow.registers
      wide_is.well_formed.registers_ascend narrow_is.well_formed.registers_ascend cover.registers

  pub registers-short : (found : Found) → IsSound one two found → length wide.registers ≢ length narrow.registers → Settles one two (AreRegistersPaired one two) found found false
  registers-short found sound differ =
      unsettled one two (AreRegistersPaired one two) found found sound (record { stays = λ link is. is; queue = λ place key is. is; objects = refl })
      (record { none = λ p cover. differ (same-length (λ (held : Held). held.register) (λ (held : Held). held.register) wide.registers narrow.registers (cover-registers p cover)) })

  pub registers-differ : (entry found : Found) (at : ℕ) (d e : Held) → IsSound one two found → Grows entry found → at < length wide.registers →
      (get_or wide.registers at d).register ≢ (get_or narrow.registers at e).register → Settles one two (AreRegistersPaired one two) entry found false
  registers-differ entry found at d e sound grows within differ =
      unsettled one two (AreRegistersPaired one two) entry found sound grows
      (record { none = λ p cover. differ (number-of (λ (held : Held). held.register) (λ (held : Held). held.register) wide.registers narrow.registers (cover-registers p cover) at d e within) })

  pub registers-end : (entry now : Found) (at : ℕ) →
      Naming one two (λ (held : Held). held.register) (λ (held : Held). held.register) (λ held other. Values held.value (content two other.value)) wide.registers narrow.registers entry now at →
      length wide.registers ≡ length narrow.registers → length wide.registers ≤ at → Settles one two (AreRegistersPaired one two) entry now true
  registers-end entry now at naming same all =
      settles one two (AreRegistersPaired one two) entry now naming.sound naming.grows
      (same-found (λ (held : Held). held.register) (λ held. held.value) (λ (held : Held). held.register) (λ held. held.value) (pairing_of now).value (content two) wide.registers narrow.registers same
      (λ place x y x_is y_is. let within = slice_get_within wide.registers place x x_is in naming.linked place x y (omega arith) x_is y_is))

  -- Ports, which have no numbers.

  pub port-reached : (at d e : ℕ) → at < length wide.ports → at < length narrow.ports → IsReached one two (Values (get_or wide.ports at d) (content two (get_or narrow.ports at e)))
  port-reached at d e within other_within = ByPort at (get_or wide.ports at d) (get_or narrow.ports at e) (get-at wide.ports at d within) (get-at narrow.ports at e other_within)

  pub ports-short : (found : Found) → IsSound one two found → length wide.ports ≢ length narrow.ports → Settles one two (ArePortsPaired one two) found found false
  ports-short found sound differ =
      unsettled one two (ArePortsPaired one two) found found sound (record { stays = λ link is. is; queue = λ place key is. is; objects = refl })
      (record { none = λ p cover. differ (sym (length-map wide.ports p.value) ∙ ap length cover.ports ∙ length-map narrow.ports (λ key. Some (content two key))) })

  same-ports : (p : Pairing) (ones others : List ℕ) → length ones ≡ length others →
      ((place x y : ℕ) → slice_get ones place ≡ Some x → slice_get others place ≡ Some y → p.value x ≡ Some (content two y)) → map p.value ones ≡ map (λ key. Some (content two key)) others
  same-ports p [] [] same each = refl
  same-ports p [] (y ∷ ys) same each = absurd (omega arith)
  same-ports p (x ∷ xs) [] same each = absurd (omega arith)
  same-ports p (x ∷ xs) (y ∷ ys) same each =
      ap (λ (c : Option Content). c ∷ map p.value xs) (each 0 x y refl refl)
      ∙ ap (λ (cs : List (Option Content)). Some (content two y) ∷ cs) (same-ports p xs ys (omega arith) (λ place. each (suc place)))

  pub ports-end : (entry now : Found) (at : ℕ) → Naming one two (λ (key : ℕ). 0) (λ (key : ℕ). 0) (λ key other. Values key (content two other)) wide.ports narrow.ports entry now at →
      length wide.ports ≡ length narrow.ports → length wide.ports ≤ at → Settles one two (ArePortsPaired one two) entry now true
  ports-end entry now at naming same all =
      settles one two (ArePortsPaired one two) entry now naming.sound naming.grows
      (same-ports (pairing_of now) wide.ports narrow.ports same (λ place x y x_is y_is. let within = slice_get_within wide.ports place x x_is in (naming.linked place x y (omega arith) x_is y_is).1))
