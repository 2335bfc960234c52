-- Graphs that stand together for the states of another: one of them may be replaced by graphs that stand together for its own.
use Rattle.std.proofs.Common.{◌≡◌, ℕ, zero, suc, ◌<◌, ◌⊎◌, List, [], ◌∷◌, ◌++◌, length, refl, sym, ◌∙◌, subst, inl, inr, arith}
use Rattle.std.specs.Prelude.{slice_index_or}
use Rattle.std.specs.List.{All}
use Rattle.std.proofs.lemmas.List.Elements.{All-nil, All-cons, All-head, All-tail}
use Rattle.graph.specs.declared.parts.Parts.{Parts}
use Rattle.graph.specs.Meaning.{StandsFor}
use Rattle.graph.specs.State.{State}
use Rattle.changes.specs.Posted.{SomeStandsFor}
use Rattle.materialise.specs.Kept.{HoldsAsBefore}
use Rattle.settle.specs.Parted.{AreParted}

-- one of them stands for the state, by recursion
abbrev SomeOf : List Parts → State → Type 0
SomeOf [] state = ⊥
SomeOf (first ∷ rest) state = StandsFor first state ⊎ SomeOf rest state

some_of : (graphs : List Parts) (state : State) → SomeStandsFor graphs state → SomeOf graphs state
some_of graphs state found = by_place graphs found.among.0 found.among.1 found.among.2
  where
    by_place : (graphs : List Parts) (place : ℕ) → place < length graphs → slice_index_or graphs place found.graph ≡ found.graph → SomeOf graphs state
    by_place [] place below is = absurd (omega arith)
    by_place (first ∷ rest) zero below is = inl (subst (λ (p : Parts). StandsFor p state) (sym is) found.stands)
    by_place (first ∷ rest) (suc place) below is = inr (by_place rest place (omega arith) is)

of_some : (graphs : List Parts) (state : State) → SomeOf graphs state → SomeStandsFor graphs state
of_some [] state some = absurd some
of_some (first ∷ rest) state (inl stands) = record { graph = first; among = (0, omega arith, refl); stands = stands }
of_some (first ∷ rest) state (inr some) =
    let found = of_some rest state some in
    let below = found.among.1 in
    record { graph = found.graph; among = (suc found.among.0, omega arith, found.among.2); stands = found.stands }

of_left : (one other : List Parts) (state : State) → SomeOf one state → SomeOf (one ++ other) state
of_left [] other state some = absurd some
of_left (first ∷ rest) other state (inl stands) = inl stands
of_left (first ∷ rest) other state (inr some) = inr (of_left rest other state some)

of_right : (one other : List Parts) (state : State) → SomeOf other state → SomeOf (one ++ other) state
of_right [] other state some = some
of_right (first ∷ rest) other state some = inr (of_right rest other state some)

of_either : (one other : List Parts) (state : State) → SomeOf (one ++ other) state → SomeOf one state ⊎ SomeOf other state
of_either [] other state some = inr some
of_either (first ∷ rest) other state (inl stands) = inl (inl stands)
of_either (first ∷ rest) other state (inr some) = by_rest (of_either rest other state some)
  where
    by_rest : SomeOf rest state ⊎ SomeOf other state → SomeOf (first ∷ rest) state ⊎ SomeOf other state
    by_rest (inl some) = inl (inr some)
    by_rest (inr some) = inr some

all_left : {X : Type 0} (P : X → Type 0) (one other : List X) → All P (one ++ other) → All P one
all_left P [] other all = All-nil P
all_left P (x ∷ xs) other all = All-cons P x xs (All-head P x (xs ++ other) all) (all_left P xs other (All-tail P x (xs ++ other) all))

all_right : {X : Type 0} (P : X → Type 0) (one other : List X) → All P (one ++ other) → All P other
all_right P [] other all = all
all_right P (x ∷ xs) other all = all_right P xs other (All-tail P x (xs ++ other) all)

all_append : {X : Type 0} (P : X → Type 0) (one other : List X) → All P one → All P other → All P (one ++ other)
all_append P [] other all all' = all'
all_append P (x ∷ xs) other all all' = All-cons P x (xs ++ other) (All-head P x xs all) (all_append P xs other (All-tail P x xs all) all')

all_mapped : {X : Type 0} (P Q : X → Type 0) → ((x : X) → P x → Q x) → (xs : List X) → All P xs → All Q xs
all_mapped P Q implies xs all k d within = implies _ (all k d within)

holds_on : (parts one other : Parts) → HoldsAsBefore parts one → HoldsAsBefore one other → HoldsAsBefore parts other
holds_on parts one other before after = record {
  variables = λ variable. after.variables variable ∙ before.variables variable;
  registers = λ register. after.registers register ∙ before.registers register;
  ports = after.ports ∙ before.ports;
}

module _ (parts graph : Parts) (front back cases : List Parts) (whole : AreParted parts (front ++ graph ∷ back)) (own : AreParted graph cases) where
  onward : (state : State) → SomeOf (front ++ graph ∷ back) state → SomeOf (front ++ (cases ++ back)) state
  onward state some = by_front (of_either front (graph ∷ back) state some)
    where
      by_front : SomeOf front state ⊎ (StandsFor graph state ⊎ SomeOf back state) → SomeOf (front ++ (cases ++ back)) state
      by_front (inl some) = of_left front (cases ++ back) state some
      by_front (inr (inl stands)) = of_right front (cases ++ back) state (of_left cases back state (some_of cases state ((own.means state).0 stands)))
      by_front (inr (inr some)) = of_right front (cases ++ back) state (of_right cases back state some)

  backward : (state : State) → SomeOf (front ++ (cases ++ back)) state → SomeOf (front ++ graph ∷ back) state
  backward state some = by_front (of_either front (cases ++ back) state some)
    where
      by_cases : SomeOf cases state ⊎ SomeOf back state → SomeOf (front ++ graph ∷ back) state
      by_cases (inl some) = of_right front (graph ∷ back) state (inl ((own.means state).1 (of_some cases state some)))
      by_cases (inr some) = of_right front (graph ∷ back) state (inr some)

      by_front : SomeOf front state ⊎ SomeOf (cases ++ back) state → SomeOf (front ++ graph ∷ back) state
      by_front (inl some) = of_left front (graph ∷ back) state some
      by_front (inr some) = by_cases (of_either cases back state some)

  pub parted_split : AreParted parts (front ++ (cases ++ back))
  parted_split = record {
    means = λ state. (
      λ stands. of_some (front ++ (cases ++ back)) state (onward state (some_of (front ++ graph ∷ back) state ((whole.means state).0 stands))),
      λ some. (whole.means state).1 (of_some (front ++ graph ∷ back) state (backward state (some_of (front ++ (cases ++ back)) state some))),
    );
    holds =
        let rest = all_right (HoldsAsBefore parts) front (graph ∷ back) whole.holds in
        all_append (HoldsAsBefore parts) front (cases ++ back) (all_left (HoldsAsBefore parts) front (graph ∷ back) whole.holds)
        (all_append (HoldsAsBefore parts) cases back
        (all_mapped (HoldsAsBefore graph) (HoldsAsBefore parts) (λ case own. holds_on parts graph case (All-head (HoldsAsBefore parts) graph back rest) own) cases own.holds)
        (All-tail (HoldsAsBefore parts) graph back rest));
  }

-- a graph alone stands for its own states
pub parted_alone : (parts : Parts) → AreParted parts (parts ∷ [])
parted_alone parts = record {
  means = λ state. (λ stands. of_some (parts ∷ []) state (inl stands), λ some. by_one state (some_of (parts ∷ []) state some));
  holds = All-cons (HoldsAsBefore parts) parts [] (record { variables = λ variable. refl; registers = λ register. refl; ports = refl }) (All-nil (HoldsAsBefore parts));
}
  where
    by_one : (state : State) → StandsFor parts state ⊎ ⊥ → StandsFor parts state
    by_one state (inl stands) = stands
    by_one state (inr none) = absurd none
