-- Whether a case of a segment is beyond the limits: only the one in which a node is a region can be.
use Rattle.std.proofs.Common.{◌≡◌, ℕ, Bool, true, false, not, ◌||◌, List, [], ◌∷◌, nat_eq, Option, None, Some, Result, Ok, Err, refl, sym, ◌∙◌, ap}
use Rattle.std.specs.Prelude.{◌↔◌, is_some, is_ok, if◌then◌else◌}
use Rattle.std.specs.Option.{option_map_or}
use Rattle.std.proofs.lemmas.Bool.{false≢true}
use Rattle.cbase.specs.declared.stop.Stop.{Stop}
use Rattle.graph.specs.declared.object.Links.{Links}
use Rattle.graph.specs.declared.parts.Parts.{Parts}
use Rattle.graph.specs.WellFormed.{is_within_limits}
use Rattle.graph.specs.Whole.{IsGraph}
use Rattle.materialise.specs.Dropped.{links_at, dropped}
use Rattle.materialise.specs.SplitFirst.{split_first, first_nodes}
use Rattle.materialise.specs.SplitLast.{split_last, last_nodes}
use Rattle.materialise.specs.WithOne.{is_segment, is_twofold}
use Rattle.materialise.proofs.Emptiable.{may_be}
use Rattle.materialise.proofs.Formed.{dropped_limits}
use Rattle.materialise.proofs.LastSplit.{twofold_segment}
use Rattle.settle.specs.Parted.{is_beyond}
use Rattle.settle.specs.Settled.{or_else}

cases_beyond : (parts : Parts) → IsGraph parts → (key : ℕ) (split : Parts) → is_segment parts key ≡ true →
    is_beyond (Some (option_map_or (λ (links : Links). if nat_eq links.least 0 then dropped key parts ∷ split ∷ [] else split ∷ []) (links_at parts key) [])) ≡ not (is_within_limits split)
cases_beyond parts graph key split is = by_links (links_at parts key) is (λ empty. dropped_limits parts graph key (may_be parts key empty))
  where
    or_false : (b : Bool) → (b || false) ≡ b
    or_false true = refl
    or_false false = refl

    by_least : (b : Bool) → (b ≡ true → is_within_limits (dropped key parts) ≡ true) → is_beyond (Some (if b then dropped key parts ∷ split ∷ [] else split ∷ [])) ≡ not (is_within_limits split)
    by_least true few = ap (λ (b : Bool). not b || (not (is_within_limits split) || false)) (few refl) ∙ or_false (not (is_within_limits split))
    by_least false few = or_false (not (is_within_limits split))

    by_links : (found : Option Links) → is_some found ≡ true → (option_map_or (λ (links : Links). nat_eq links.least 0) found false ≡ true → is_within_limits (dropped key parts) ≡ true) →
        is_beyond (Some (option_map_or (λ (links : Links). if nat_eq links.least 0 then dropped key parts ∷ split ∷ [] else split ∷ []) found [])) ≡ not (is_within_limits split)
    by_links None is few = absurd (false≢true is)
    by_links (Some links) is few = by_least (nat_eq links.least 0) few

pub first_beyond : (parts : Parts) → IsGraph parts → (key : ℕ) → is_segment parts key ≡ true → is_beyond (Some (first_nodes key parts)) ≡ not (is_within_limits (split_first key parts))
first_beyond parts graph key is = cases_beyond parts graph key (split_first key parts) is

pub last_beyond : (parts : Parts) → IsGraph parts → (key : ℕ) → is_twofold parts key ≡ true → is_beyond (Some (last_nodes key parts)) ≡ not (is_within_limits (split_last key parts))
last_beyond parts graph key both = cases_beyond parts graph key (split_last key parts) (twofold_segment parts key both)

-- what is not too large is within the limits
pub within_unless : {A : Type 0} (result large : A) (b c : Bool) → b ≡ not c → (c ≡ false → result ≡ large) → (result ≡ large → ⊥) → b ≡ false
within_unless result large b true is answers differs = is
within_unless result large b false is answers differs = absurd (differs (answers refl))

-- the same of errors
err_same : {T : Type 0} (stop other : Stop) → (let one : Result T Stop = Err stop in one) ≡ Err other → stop ≡ other
err_same {T} stop other same = ap by_result same
  where
    by_result : Result T Stop → Stop
    by_result (Ok x) = stop
    by_result (Err own) = own

pub large_both : {T Other : Type 0} (stop : Stop) (result : Result T Stop) (b c : Bool) → b ≡ not c → result ≡ Err stop → ((result ≡ Err Stop.Large) ↔ (c ≡ false)) →
    (((let one : Result Other Stop = Err stop in one) ≡ Err Stop.Large) ↔ (b ≡ true))
large_both {T} {Other} stop result b c is given large = (
  λ same. is ∙ ap not (large.0 (given ∙ ap (λ (s : Stop). (let one : Result T Stop = Err s in one)) (err_same {T = Other} stop Stop.Large same))),
  λ beyond. ap (λ (s : Stop). (let one : Result Other Stop = Err s in one)) (err_same {T = T} stop Stop.Large (sym given ∙ large.1 (by_not c (sym is ∙ beyond)))),
)
  where
    by_not : (c : Bool) → not c ≡ true → c ≡ false
    by_not true is = absurd (false≢true is)
    by_not false is = refl

-- and of what is no error
pub large_none : {T : Type 0} (x : T) (b : Bool) → b ≡ false → (((let one : Result T Stop = Ok x in one) ≡ Err Stop.Large) ↔ (b ≡ true))
large_none x b few = (λ same. absurd (false≢true (sym (ap is_ok same))), λ beyond. absurd (false≢true (sym few ∙ beyond)))

-- where the first register names a segment
pub first_of : (P : Option (List Parts) → Type 0) (own others : Option (List Parts)) → is_some own ≡ true → P own → P (or_else own others)
first_of P None others is holds = absurd (false≢true is)
first_of P (Some cases) others is holds = holds
