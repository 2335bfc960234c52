-- What the marks tell: a value is marked where it is spared.
use Rattle.std.proofs.Common.{◌≡◌, ℕ, ◌<◌, Bool, true, false, ◌&&◌, ◌||◌, not, List, [], ◌∷◌, ◌++◌, map, length, get_or, nat_eq, refl, sym, ◌∙◌, ap, subst, eqb-true, eq-eqb}
use Rattle.std.specs.Prelude.{slice_get, slice_set, replicate, Some, if◌then◌else◌}
use Rattle.std.specs.List.{fold, list_any}
use Rattle.std.proofs.lemmas.Bool.{false≢true}
use Rattle.std.proofs.lemmas.List.{length-set, get_or-set_same, get_or-set_other, get_or-replicate, length-replicate}
use Rattle.std.proofs.lemmas.Option.{slice_get_within}
use Rattle.graph.specs.declared.object.Shape.{Shape}
use Rattle.graph.specs.declared.object.Shape.TheVariants.{Region, Segment}
use Rattle.graph.specs.declared.parts.KeyedObject.{KeyedObject}
use Rattle.graph.specs.declared.parts.KeyedValue.{KeyedValue}
use Rattle.graph.specs.declared.parts.Parts.{Parts}
use Rattle.graph.specs.Whole.{IsGraph}
use Rattle.tidying.specs.Held.{is_linked}
use Rattle.tidying.specs.Marks.{is_marked, marked, links_marked, ports_marked}
use Rattle.tidying.proofs.Told.{any_same}
use Rattle.coarse.specs.Beyond.{is_beyond, forgotten}
use Rattle.coarse.specs.Marks.{ends_marked, spared_marks}
use Rattle.coarse.specs.Spared.{is_spared}
use Rattle.coarse.specs.Coarsened.{coarsened, is_coarse}
use Rattle.coarse.proofs.Entries.{map_there}
use Rattle.coarse.proofs.Form.{or_true}

or_false : (b : Bool) → (b || false) ≡ b
or_false true = refl
or_false false = refl

or_assoc : (a b c : Bool) → ((a || b) || c) ≡ (a || (b || c))
or_assoc true b c = refl
or_assoc false b c = refl

-- behind a step a place is marked where it was before, or where the step marks it
record Marks {X : Type 0} (step : List Bool → X → List Bool) (test : ℕ → X → Bool) : Type 0 where
  long : (marks : List Bool) (x : X) → length (step marks x) ≡ length marks
  tells : (marks : List Bool) (x : X) (place : ℕ) → place < length marks → get_or (step marks x) place false ≡ (get_or marks place false || test place x)

Marks-key : Marks marked (λ place key. nat_eq key place)
Marks-key = record { long = λ marks key. length-set marks key true; tells = λ marks key place below. by_test marks key place below (nat_eq key place) refl }
  where
    by_test : (marks : List Bool) (key place : ℕ) → place < length marks → (same : Bool) → nat_eq key place ≡ same → get_or (slice_set marks key true) place false ≡ (get_or marks place false || nat_eq key place)
    by_test marks key place below true is =
        ap (λ (k : ℕ). get_or (slice_set marks k true) place false) (eqb-true key place is) ∙ get_or-set_same marks place true false below
        ∙ sym (ap (λ (b : Bool). get_or marks place false || b) is ∙ or_true (get_or marks place false))
    by_test marks key place below false is =
        get_or-set_other marks key place true false (λ same. false≢true (sym is ∙ eq-eqb key place (sym same)))
        ∙ sym (ap (λ (b : Bool). get_or marks place false || b) is ∙ or_false (get_or marks place false))

-- so it is behind the steps of a list
Marks-all : {X : Type 0} (step : List Bool → X → List Bool) (test : ℕ → X → Bool) → Marks step test → Marks (λ marks xs. fold step marks xs) (λ place xs. list_any (test place) xs)
Marks-all {X} step test one = record { long = long; tells = tells }
  where
    long : (marks : List Bool) (xs : List X) → length (fold step marks xs) ≡ length marks
    long marks [] = refl
    long marks (x ∷ xs) = long (step marks x) xs ∙ one.long marks x

    tells : (marks : List Bool) (xs : List X) (place : ℕ) → place < length marks → get_or (fold step marks xs) place false ≡ (get_or marks place false || list_any (test place) xs)
    tells marks [] place below = sym (or_false (get_or marks place false))
    tells marks (x ∷ xs) place below =
        tells (step marks x) xs place (subst (λ (n : ℕ). place < n) (sym (one.long marks x)) below)
        ∙ ap (λ (b : Bool). b || list_any (test place) xs) (one.tells marks x place below)
        ∙ or_assoc (get_or marks place false) (test place x) (list_any (test place) xs)

Marks-links : Marks links_marked is_linked
Marks-links = record { long = long; tells = tells }
  where
    long : (marks : List Bool) (shape : Shape) → length (links_marked marks shape) ≡ length marks
    long marks Region = refl
    long marks (Segment twofold head next prev back least next_value prev_value node) = Marks-key.long (marked marks next_value) prev_value ∙ Marks-key.long marks next_value

    tells : (marks : List Bool) (shape : Shape) (place : ℕ) → place < length marks → get_or (links_marked marks shape) place false ≡ (get_or marks place false || is_linked place shape)
    tells marks Region place below = sym (or_false (get_or marks place false))
    tells marks (Segment twofold head next prev back least next_value prev_value node) place below =
        Marks-key.tells (marked marks next_value) prev_value place (subst (λ (n : ℕ). place < n) (sym (Marks-key.long marks next_value)) below)
        ∙ ap (λ (b : Bool). b || nat_eq prev_value place) (Marks-key.tells marks next_value place below)
        ∙ or_assoc (get_or marks place false) (nat_eq next_value place) (nat_eq prev_value place)

Marks-ends : Marks ends_marked (λ place entries. list_any (λ (entry : KeyedObject). is_linked place entry.object.shape) entries)
Marks-ends =
    Marks-all (λ marks (entry : KeyedObject). links_marked marks entry.object.shape) (λ place entry. is_linked place entry.object.shape)
    (record { long = λ marks entry. Marks-links.long marks entry.object.shape; tells = λ marks entry place below. Marks-links.tells marks entry.object.shape place below })

Marks-ports : Marks ports_marked (λ place ports. list_any (λ port. nat_eq port place) ports)
Marks-ports = Marks-all marked (λ place port. nat_eq port place) Marks-key

module _ (parts : Parts) where
  spared_are : (place : ℕ) → place < length parts.values → is_marked (spared_marks parts) place ≡ is_spared parts place
  spared_are place below =
      let none : List Bool = replicate (length parts.values) false in
      let first : place < length none = subst (λ (n : ℕ). place < n) (sym (length-replicate (length parts.values) false)) below in
      let second : place < length (ends_marked none parts.objects) = subst (λ (n : ℕ). place < n) (sym (Marks-ends.long none parts.objects)) first in
      let ends : Bool = list_any (λ (entry : KeyedObject). is_linked place entry.object.shape) parts.objects in
      let ports : Bool = list_any (λ port. nat_eq port place) parts.ports in
      Marks-ports.tells (ends_marked none parts.objects) parts.ports place second
      ∙ ap (λ (b : Bool). b || ports)
      (Marks-ends.tells none parts.objects place first ∙ ap (λ (b : Bool). b || ends) (get_or-replicate (length parts.values) place false false below))

  module _ (graph : IsGraph parts) (limit : ℕ) where
    entry_spared : (place : ℕ) (entry : KeyedValue) → slice_get parts.values place ≡ Some entry → is_marked (spared_marks parts) entry.key ≡ is_spared parts entry.key
    entry_spared place entry is = spared_are entry.key (subst (λ (k : ℕ). k < length parts.values) (sym (graph.keys.values place entry is)) (slice_get_within parts.values place entry is))

    values_told : (marks : List Bool) → marks ≡ spared_marks parts →
        map {B = KeyedValue} (λ entry. record { key = entry.key; value = if is_beyond limit entry.value && not (is_marked marks entry.key) then forgotten entry.value else entry.value }) parts.values ≡ (coarsened limit parts).values
    values_told marks are =
        map_there (λ (entry : KeyedValue). (let e : KeyedValue = record { key = entry.key; value = if is_beyond limit entry.value && not (is_marked marks entry.key) then forgotten entry.value else entry.value } in e))
        (λ (entry : KeyedValue). (let e : KeyedValue = record { key = entry.key; value = if is_beyond limit entry.value && not (is_spared parts entry.key) then forgotten entry.value else entry.value } in e)) parts.values
        (λ place entry is.
        ap (λ (b : Bool). (let e : KeyedValue = record { key = entry.key; value = if is_beyond limit entry.value && not b then forgotten entry.value else entry.value } in e))
        (ap (λ (marks : List Bool). is_marked marks entry.key) are ∙ entry_spared place entry is))

    coarse_told : (marks : List Bool) → marks ≡ spared_marks parts →
        not (list_any (λ (entry : KeyedValue). is_beyond limit entry.value && not (is_marked marks entry.key)) parts.values) ≡ is_coarse limit parts
    coarse_told marks are =
        ap not
        (any_same (λ (entry : KeyedValue). is_beyond limit entry.value && not (is_marked marks entry.key)) (λ (entry : KeyedValue). is_beyond limit entry.value && not (is_spared parts entry.key)) parts.values
        (λ place entry is. ap (λ (b : Bool). is_beyond limit entry.value && not b) (ap (λ (marks : List Bool). is_marked marks entry.key) are ∙ entry_spared place entry is)))

    pub values_done : (marks : List Bool) (values before done : List KeyedValue) → marks ≡ spared_marks parts → values ≡ parts.values → before ≡ [] →
        done ≡ before ++ map {B = KeyedValue} (λ entry. record { key = entry.key; value = if is_beyond limit entry.value && not (is_marked marks entry.key) then forgotten entry.value else entry.value }) values →
        done ≡ (coarsened limit parts).values
    values_done marks values before done are same empty is =
        is
        ∙ ap (λ (before : List KeyedValue). before ++ map {B = KeyedValue} (λ (entry : KeyedValue). record { key = entry.key; value = if is_beyond limit entry.value && not (is_marked marks entry.key) then forgotten entry.value else entry.value }) values) empty
        ∙ ap (map {B = KeyedValue} (λ (entry : KeyedValue). record { key = entry.key; value = if is_beyond limit entry.value && not (is_marked marks entry.key) then forgotten entry.value else entry.value })) same
        ∙ values_told marks are

    pub answer_told : (marks : List Bool) (values : List KeyedValue) (answer : Bool) → marks ≡ spared_marks parts → values ≡ parts.values →
        answer ≡ list_any (λ (entry : KeyedValue). is_beyond limit entry.value && not (is_marked marks entry.key)) values → not answer ≡ is_coarse limit parts
    answer_told marks values answer are same is =
        ap not (is ∙ ap (list_any (λ (entry : KeyedValue). is_beyond limit entry.value && not (is_marked marks entry.key))) same) ∙ coarse_told marks are
