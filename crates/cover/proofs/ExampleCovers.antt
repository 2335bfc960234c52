-- A graph that covers another one, and one that does not.
use Rattle.std.proofs.Common.{◌≡◌, ℕ, zero, suc, ◌<◌, Bool, true, false, length, get_or, nat_eq, Option, None, Some, refl, sym, ◌∙◌, ap, subst, eqb-true, arith}
use Rattle.std.specs.Prelude.{option_map, slice_get, if◌then◌else◌}
use Rattle.std.proofs.lemmas.Option.{same_Some, none-some}
use Rattle.graph.specs.declared.edges.HasValue.{HasValue}
use Rattle.graph.specs.declared.object.Object.{Object}
use Rattle.graph.specs.declared.value.Value.TheVariants.{Number}
use Rattle.graph.specs.Maps.{object_at, storage_of}
use Rattle.graph.specs.Meaning.{maps_of}
use Rattle.graph.specs.Nodes.{node_of}
use Rattle.cover.specs.declared.content.Content.{Content}
use Rattle.cover.specs.declared.content.Content.TheVariants.{Fixed, Leads, Kept}
use Rattle.cover.specs.Covers.{content, Pairing, ArePaired, Fits, FitsAt, HasPartner, IsReached, ByVariable, ByEdge, Link, Objects, Values, IsIn, Covers, StandsIn, IsAddress}
use Rattle.cover.specs.Example.{holder, any_number, five, IsExample}
use Rattle.cover.proofs.Least.{fits-at-reached}

abbrev first_alone : {X : Type 0} → X → ℕ → Option X
first_alone x zero = Some x
first_alone x (suc key) = None

abbrev pairing : Pairing
pairing = record { object = first_alone 0; back = first_alone 0; value = first_alone (Fixed 5 4) }

-- only the first object stands
only-first : (key : ℕ) (object : Object) → object_at five.objects key ≡ Some object → (key ≡ 0)
only-first key object is = by_test (nat_eq 0 key) refl is
  where
    by_test : (b : Bool) → nat_eq 0 key ≡ b → object_at five.objects key ≡ Some object → (key ≡ 0)
    by_test true hit is = sym (eqb-true 0 key hit)
    by_test false miss is = absurd (none-some object (sym (ap (λ (b : Bool). if b then Some holder else None) miss) ∙ is))

same-where : (b : Bool) → option_map (first_alone {X = ℕ} 0) (if b then Some 0 else None) ≡ option_map Some (if b then Some 0 else None)
same-where true = refl
same-where false = refl

same-storage : (variable : ℕ) → option_map (first_alone 0) (storage_of any_number.variables variable) ≡ option_map Some (storage_of five.variables variable)
same-storage variable = same-where (nat_eq 0 variable)

paired : (key with : ℕ) → first_alone 0 key ≡ Some with → ArePaired (maps_of any_number) (maps_of five) pairing key with
paired zero with is = subst (ArePaired (maps_of any_number) (maps_of five) pairing 0) (same_Some _ _ is) (record {
  one = holder;
  other = holder;
  one_stands = refl;
  other_stands = refl;
  alike = record {
    live = refl;
    kind = refl;
    links = tt;
    ends = λ links other_links is other_is. absurd (none-some links is);
    alike = λ live. record { size = refl; classes = refl; edges = edges; addresses = addresses };
  };
})
  where
    edges : (k : ℕ) (d : HasValue) → k < length holder.edges → HasPartner (maps_of five) pairing (node_of holder) (get_or holder.edges k d)
    edges zero d within = record { with = Fixed 5 4; held = refl; paired = refl }
    edges (suc k) d within = absurd (omega arith)

    addresses : (place : ℕ) (edge : HasValue) → slice_get holder.edges place ≡ Some edge → IsAddress (content (maps_of five) edge.value) → StandsIn holder.edges edge
    addresses zero edge is address = absurd (subst (λ (e : HasValue). IsAddress (content (maps_of five) e.value)) (sym (same_Some _ _ is)) address)
    addresses (suc place) edge is address = absurd (none-some edge is)
paired (suc key) with is = absurd (none-some with is)

mutual-first : (key with : ℕ) → first_alone 0 key ≡ Some with → first_alone 0 with ≡ Some key
mutual-first zero with is = ap (first_alone 0) (sym (same_Some _ _ is))
mutual-first (suc key) with is = absurd (none-some with is)

live-paired : (key : ℕ) (object : Object) → object_at five.objects key ≡ Some object → object.live ≡ true → (with : ℕ) × (first_alone 0 key ≡ Some with)
live-paired key object is live = (0, ap (first_alone 0) (only-first key object is))

fitting : (key : ℕ) (c : Content) → first_alone (Fixed 5 4) key ≡ Some c → FitsAt (maps_of any_number) (maps_of five) pairing key c
fitting zero c is = subst (FitsAt (maps_of any_number) (maps_of five) pairing 0) (same_Some _ _ is) (record { value = Number 4; stands = refl; fits = (refl, omega arith) })
fitting (suc key) c is = absurd (none-some c is)

variable-reached : IsReached (maps_of any_number) (maps_of five) (Objects 0 0)
variable-reached = ByVariable 0 0 0 refl refl

reached : (link : Link) → IsIn pairing link → IsReached (maps_of any_number) (maps_of five) link
reached (Objects zero with) is = subst (λ (w : ℕ). IsReached (maps_of any_number) (maps_of five) (Objects 0 w)) (same_Some _ _ is) variable-reached
reached (Objects (suc key) with) is = absurd (none-some with is)
reached (Values zero c) is =
    subst (λ (d : Content). IsReached (maps_of any_number) (maps_of five) (Values 0 d)) (same_Some _ _ is)
    (ByEdge 0 0 holder holder (record { at = 0; size = 4; value = 0 }) (Fixed 5 4) variable-reached refl refl refl (0, omega arith, refl) refl)
reached (Values (suc key) c) is = absurd (none-some c is)

abbrev IsKept : Content → Type 0
IsKept (Fixed number size) = ⊥
IsKept (Leads object offset target) = ⊥
IsKept (Kept key) = Unit {0}

apart : (one other key : ℕ) → first_alone (Fixed 5 4) one ≡ Some (Kept key) → first_alone (Fixed 5 4) other ≡ Some (Kept key) → one ≡ other
apart zero other key is other_is = absurd (subst (λ (c : Content). IsKept c) (sym (same_Some _ _ is)) tt)
apart (suc one) other key is other_is = absurd (none-some (Kept key) is)

-- the other way round the number is no constant
not-back : Covers five any_number → ⊥
not-back covers =
    let value = ByEdge 0 0 holder holder (record { at = 0; size = 4; value = 0 }) (Kept 0) (ByVariable 0 0 0 refl refl) refl refl refl (0, omega arith, refl) refl in
    let at = fits-at-reached (maps_of five) (maps_of any_number) covers.pairing covers.cover 0 (Kept 0) value in
    let fits = subst (λ v. Fits (maps_of any_number) covers.pairing v (Kept 0)) (same_Some _ _ (sym at.stands)) at.fits in
    subst (λ (c : Content). IsKept c) fits tt

pub example : IsExample
example = record {
  covered = record {
    pairing = pairing;
    cover = record {
      variables = same-storage;
      registers = λ register. refl;
      ports = refl;
      objects = paired;
      there = mutual-first;
      back = λ key with is. mutual-first with key is;
      live = live-paired;
      other_live = live-paired;
      values = fitting;
      unequal = λ place pair is. absurd (none-some pair is);
    };
    least = record { reached = reached; apart = apart };
  };
  apart = not-back;
}
