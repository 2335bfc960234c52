-- The first call is found.
use Rattle.std.proofs.Common.{◌≡◌, ℕ, suc, ◌+◌, ◌<◌, ◌≤◌, nat_le, Bool, true, false, if◌then◌else◌, List, [], ◌∷◌, Option, None, Some, length, refl, sym, ◌∙◌, ap, subst, inl, inr, rules, leb-true, leb-false, arith}
use Rattle.std.specs.Prelude.{slice_get, All}
use Rattle.std.proofs.lemmas.Bool.{cases_lt}
use Rattle.std.proofs.lemmas.List.Elements.{All-nil}
use Rattle.cbase.specs.declared.place.Place.{Place}
use Rattle.flow.specs.declared.flow_graph.Flow.{Flow}
use Rattle.flow.specs.declared.flow_graph.FlowEdge.{FlowEdge}
use Rattle.trail.specs.Seen.{is_call}
use Rattle.trail.proofs.Sound.{same_some}
use Rattle.driver.specs.Calls.{first_of, earlier, TellsCallBelow, TellsCall}

clash : {A : Type 0} (b : Bool) → b ≡ true → b ≡ false → A
clash b x y = cc

pub called_first : (edges : List FlowEdge) → TellsCallBelow edges 0 None
called_first edges = record { none = λ number edge less there. absurd (omega arith) }

module _ (edges : List FlowEdge) (count : ℕ) (edge : FlowEdge) (there : slice_get edges count ≡ Some edge) where
  at_count : (number : ℕ) (other : FlowEdge) → number ≡ count → slice_get edges number ≡ Some other → edge ≡ other
  at_count number other is there' = same_some edge other (sym there ∙ (ap (slice_get edges) (sym is) ∙ there'))

  no_call : (found : Option Place) → TellsCallBelow edges count found → is_call edge.instr ≡ false → TellsCallBelow edges (count + 1) found
  no_call None so is_no = record {
    none = λ number other less there'. elim (cases_lt number count) [
      | inl old ↦ so.none number other old there'
      | inr late ↦ subst (λ (e : FlowEdge). is_call e.instr ≡ false) (at_count number other (omega arith) there') is_no
    ];
  }
  no_call (Some place) so is_no = record {
    number = so.number;
    edge = so.edge;
    stands = so.stands;
    call = so.call;
    place_is = so.place_is;
    first = λ number other less there' call. elim (cases_lt number count) [
      | inl old ↦ so.first number other old there' call
      | inr late ↦ clash (is_call other.instr) call (subst (λ (e : FlowEdge). is_call e.instr ≡ false) (at_count number other (omega arith) there') is_no)
    ];
  }

  a_call : (found : Option Place) → TellsCallBelow edges count found → is_call edge.instr ≡ true → TellsCallBelow edges (count + 1) (first_of found edge.place)
  a_call None so is_yes = record {
    number = count;
    edge = edge;
    stands = there;
    call = is_yes;
    place_is = refl;
    first = λ number other less there' call. elim (cases_lt number count) [
      | inl old ↦ clash (is_call other.instr) call (so.none number other old there')
      | inr late ↦ let same : edge.place.at ≡ other.place.at = ap (λ (e : FlowEdge). e.place.at) (at_count number other (omega arith) there') in omega (arith, same)
    ];
  }
  a_call (Some place) so is_yes = by_order (nat_le place.at edge.place.at) refl
    where
      by_order : (b : Bool) → nat_le place.at edge.place.at ≡ b → TellsCallBelow edges (count + 1) (if b then Some place else Some edge.place)
      by_order true is = record {
        number = so.number;
        edge = so.edge;
        stands = so.stands;
        call = so.call;
        place_is = so.place_is;
        first = λ number other less there' call. elim (cases_lt number count) [
          | inl old ↦ so.first number other old there' call
          | inr late ↦ let same : edge.place.at ≡ other.place.at = ap (λ (e : FlowEdge). e.place.at) (at_count number other (omega arith) there') in
              let below : place.at ≤ edge.place.at = leb-true place.at edge.place.at is in omega (arith, same)
        ];
      }
      by_order false is = record {
        number = count;
        edge = edge;
        stands = there;
        call = is_yes;
        place_is = refl;
        first = λ number other less there' call. elim (cases_lt number count) [
          | inl old ↦ let after : place.at ≤ other.place.at = so.first number other old there' call in
              let above : edge.place.at < place.at = leb-false place.at edge.place.at is in omega arith
          | inr late ↦ let same : edge.place.at ≡ other.place.at = ap (λ (e : FlowEdge). e.place.at) (at_count number other (omega arith) there') in omega (arith, same)
        ];
      }

  pub called_next : (found : Option Place) → TellsCallBelow edges count found → TellsCallBelow edges (count + 1) (earlier found edge)
  called_next found so = by_call (is_call edge.instr) refl
    where
      by_call : (b : Bool) → is_call edge.instr ≡ b → TellsCallBelow edges (count + 1) (if b then first_of found edge.place else found)
      by_call true is_yes = a_call found so is_yes
      by_call false is_no = no_call found so is_no

all_of : (P : FlowEdge → Type 0) (edges : List FlowEdge) → ((number : ℕ) (edge : FlowEdge) → number < length edges → slice_get edges number ≡ Some edge → P edge) → All P edges
all_of P [] each = All-nil P
all_of P (first ∷ rest) each = search (rules, each 0 first (omega arith) refl, all_of P rest (λ number edge less there. each (suc number) edge (omega arith) there))

pub called_last : (flow : Flow) (count : ℕ) (found : Option Place) → TellsCallBelow flow.edges count found → length flow.edges ≤ count → TellsCall flow found
called_last flow count None so all = all_of (λ edge. is_call edge.instr ≡ false) flow.edges (λ number edge less there. so.none number edge (omega arith) there)
called_last flow count (Some place) so all = record {
  number = so.number;
  edge = so.edge;
  stands = so.stands;
  call = so.call;
  place_is = so.place_is;
  first = λ number other less there call. so.first number other (omega arith) there call;
}
