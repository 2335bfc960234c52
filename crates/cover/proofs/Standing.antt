-- Edges with addresses, which stand on both sides.
use Rattle.std.proofs.Common.{◌≡◌, ◌≢◌, ℕ, zero, suc, ◌+◌, ◌<◌, ◌≤◌, Bool, true, false, ◌&&◌, List, [], ◌∷◌, length, get_or, nat_eq, None, Some, refl, sym, ◌∙◌, ap, subst, eqb-true, eq-eqb, arith}
use Rattle.std.specs.Prelude.{slice_get, if◌then◌else◌, ◌↔◌}
use Rattle.std.proofs.lemmas.Bool.{false≢true}
use Rattle.std.proofs.lemmas.Option.{same_Some, none-some, slice_get_within}
use Rattle.graph.specs.declared.edges.HasValue.{HasValue}
use Rattle.graph.specs.Meaning.{Maps}
use Rattle.cover.specs.Covers.{content, value_in, IsAddress}
use Rattle.cover.specs.Checked.{StandsIfAddress, HaveAddresses, HaveSomeAddresses}
use Rattle.cover.proofs.Bytes.{edge-in}
use Rattle.cover.proofs.Forced.{get-at, other-at}

pub stands : (narrow : Maps) (ones : List HasValue) (edge : HasValue) (value : ℕ) → value_in ones edge.at edge.size ≡ Some value → StandsIfAddress narrow ones edge
stands narrow ones edge value is address = let found = edge-in ones edge.at edge.size value is in record { with = found.with; stands = found.stands; at = found.at_is; size = found.size_is }

-- an edge of these is found at its range
found-in : (edges : List HasValue) (place at size : ℕ) (with : HasValue) → place < length edges → get_or edges place with ≡ with → with.at ≡ at → with.size ≡ size → value_in edges at size ≢ None
found-in [] place at size with within is at_is size_is none = absurd (omega arith)
found-in (first ∷ rest) zero at size with within is at_is size_is none =
    none-some first.value (sym (sym (ap (λ (b : Bool). if b then Some first.value else value_in rest at size) hit) ∙ none))
  where
    hit : (nat_eq first.at at && nat_eq first.size size) ≡ true
    hit = ap (λ (b : Bool). b && nat_eq first.size size) (eq-eqb first.at at (ap (λ (e : HasValue). e.at) is ∙ at_is)) ∙ eq-eqb first.size size (ap (λ (e : HasValue). e.size) is ∙ size_is)
found-in (first ∷ rest) (suc place) at size with within is at_is size_is none =
    by_hit (nat_eq first.at at && nat_eq first.size size) refl none (λ later. found-in rest place at size with (omega arith) is at_is size_is later)
  where
    by_hit : (hit : Bool) → (nat_eq first.at at && nat_eq first.size size) ≡ hit → value_in (first ∷ rest) at size ≡ None → (value_in rest at size ≡ None → ⊥) → ⊥
    by_hit true hit none later = none-some first.value (sym (sym (ap (λ (b : Bool). if b then Some first.value else value_in rest at size) hit) ∙ none))
    by_hit false miss none later = later (sym (ap (λ (b : Bool). if b then Some first.value else value_in rest at size) miss) ∙ none)

pub stands_not : (narrow : Maps) (ones : List HasValue) (edge : HasValue) → value_in ones edge.at edge.size ≡ None → IsAddress (content narrow edge.value) → StandsIfAddress narrow ones edge → false ≡ true
stands_not narrow ones edge none address are =
    let found = are address in
    absurd (found-in ones found.stands.0 edge.at edge.size found.with found.stands.1 found.stands.2 found.at found.size none)

-- the edges of the other object, one after the other

pub addresses-start : (narrow : Maps) (ones others : List HasValue) → HaveSomeAddresses narrow ones others 0
addresses-start narrow ones others place edge below is = absurd (omega arith)

pub addresses-next : (narrow : Maps) (ones others : List HasValue) (at : ℕ) (d : HasValue) (fine : Bool) → HaveSomeAddresses narrow ones others at → at < length others →
    ((fine ≡ true) ↔ StandsIfAddress narrow ones (get_or others at d)) → fine ≡ true → HaveSomeAddresses narrow ones others (at + 1)
addresses-next narrow ones others at d fine some within (forth, back) is_fine place edge below is = by_test (nat_eq place at) refl
  where
    by_test : (b : Bool) → nat_eq place at ≡ b → StandsIfAddress narrow ones edge
    by_test true hit =
        subst (StandsIfAddress narrow ones) (same_Some _ _ (sym (get-at others at d within) ∙ ap (slice_get others) (sym (eqb-true place at hit)) ∙ is)) (forth is_fine)
    by_test false miss = some place edge (other-at place at miss below) is

pub addresses-end : (narrow : Maps) (ones others : List HasValue) (at : ℕ) → HaveSomeAddresses narrow ones others at → length others ≤ at → (true ≡ true) ↔ HaveAddresses narrow ones others
addresses-end narrow ones others at some all = (λ e place edge is. some place edge (let within = slice_get_within others place edge is in omega arith) is, λ have. refl)

pub addresses-lack : (narrow : Maps) (ones others : List HasValue) (at : ℕ) (d : HasValue) (fine : Bool) → at < length others → ((fine ≡ true) ↔ StandsIfAddress narrow ones (get_or others at d)) → fine ≡ false →
    (false ≡ true) ↔ HaveAddresses narrow ones others
addresses-lack narrow ones others at d fine within (forth, back) not_fine =
    (λ e. absurd (false≢true e), λ have. absurd (false≢true (sym not_fine ∙ back (have at (get_or others at d) (get-at others at d within)))))
