-- One scalar in front of others, where the same one is among them and where it is not.
use Rattle.std.proofs.Common.{◌≡◌, ℕ, Bool, true, false, ◌&&◌, ◌||◌, List, [], ◌∷◌, ◌++◌, nat_eq, refl, sym, ap, ◌∙◌, if◌then◌else◌}
use Rattle.std.specs.List.{list_any}
use Rattle.std.proofs.lemmas.List.{reverse-append}
use Rattle.std.proofs.lemmas.Bool.{eqb-true, and_parts}
use Rattle.flow.specs.declared.flow_graph.Initial.{Initial}
use Rattle.lowering.specs.declared.latest.ScalarKey.{ScalarKey}
use Rattle.lowering.specs.Initials.{is_same_scalar, latest}
use Rattle.lowering.specs.Latest.{is_scalar, key_of, AreLatest}

-- the same scalars, where two are the same
same_in : (one other : Initial) (rest : List Initial) → is_same_scalar one other ≡ true → list_any (is_same_scalar one) rest ≡ list_any (is_same_scalar other) rest
same_in one other rest same =
    let parts = and_parts (nat_eq one.variable other.variable) (nat_eq one.at other.at && nat_eq one.size other.size) same in
    let more = and_parts (nat_eq one.at other.at) (nat_eq one.size other.size) parts.1 in
    let any : ℕ → ℕ → ℕ → Bool = λ variable at size. list_any (λ (third : Initial). nat_eq variable third.variable && (nat_eq at third.at && nat_eq size third.size)) rest in
    ap (λ (variable : ℕ). any variable one.at one.size) (eqb-true one.variable other.variable parts.0)
    ∙ ap (λ (at : ℕ). any other.variable at one.size) (eqb-true one.at other.at more.0)
    ∙ ap (λ (size : ℕ). any other.variable other.at size) (eqb-true one.size other.size more.1)

any_behind : (one : Initial) (keys : List ScalarKey) (key : ScalarKey) → list_any (is_scalar one) (keys ++ key ∷ []) ≡ is_scalar one key || list_any (is_scalar one) keys
any_behind one [] key = refl
any_behind one (first ∷ keys) key = ap (λ (found : Bool). is_scalar one first || found) (any_behind one keys key) ∙ turned (is_scalar one first) (is_scalar one key) (list_any (is_scalar one) keys)
  where
    turned : (a b c : Bool) → a || (b || c) ≡ b || (a || c)
    turned true true c = refl
    turned true false c = refl
    turned false true c = refl
    turned false false c = refl

pub stays : (initial : Initial) (rest kept : List Initial) (keys : List ScalarKey) → list_any (is_scalar initial) keys ≡ true → AreLatest rest kept keys →
    AreLatest (initial ∷ rest) kept keys
stays initial rest kept keys found are =
    let there : list_any (is_same_scalar initial) rest ≡ true = sym (are.found initial) ∙ found in
    record {
      list = are.list ∙ sym (ap (λ (again : Bool). if again then latest rest else initial ∷ latest rest) there);
      found = λ one. are.found one ∙ at one (is_same_scalar one initial) refl there;
    }
  where
    at : (one : Initial) (same : Bool) → is_same_scalar one initial ≡ same → list_any (is_same_scalar initial) rest ≡ true → list_any (is_same_scalar one) rest ≡ same || list_any (is_same_scalar one) rest
    at one true same there = same_in one initial rest same ∙ there
    at one false other there = refl

pub comes : (initial : Initial) (rest kept : List Initial) (keys : List ScalarKey) → list_any (is_scalar initial) keys ≡ false → AreLatest rest kept keys →
    AreLatest (initial ∷ rest) (kept ++ initial ∷ []) (keys ++ key_of initial ∷ [])
comes initial rest kept keys missed are =
    let none : list_any (is_same_scalar initial) rest ≡ false = sym (are.found initial) ∙ missed in
    record {
      list = reverse-append kept (initial ∷ []) ∙ ap (λ (behind : List Initial). initial ∷ behind) are.list
          ∙ sym (ap (λ (again : Bool). if again then latest rest else initial ∷ latest rest) none);
      found = λ one. any_behind one keys (key_of initial) ∙ ap (λ (found : Bool). is_same_scalar one initial || found) (are.found one);
    }

pub none_yet : AreLatest [] [] []
none_yet = record { list = refl; found = λ one. refl }
