-- What is found of parameters that stand one behind the other.
use Rattle.std.proofs.Common.{◌≡◌, ◌<◌, ◌≤◌, ◌+◌, ℕ, List, [], ◌∷◌, ◌++◌, map, drop, length, get_or, sym, subst, ◌∙◌, refl, append-nil}
use Rattle.std.specs.Prelude.{All}
use Rattle.std.proofs.lemmas.List.{append_assoc, map-append, drop_all}
use Rattle.std.proofs.lemmas.List.Elements.{All-push, All-nil}
use Rattle.cbase.specs.declared.abi.Abi.{Abi}
use Rattle.cbase.specs.declared.tree.decl.Param.{Param}
use Rattle.typing.specs.declared.fault.Fault.{Fault}
use Rattle.typing.specs.Declarations.{Parameter}
use Rattle.typing.specs.Outcomes.{Outcome, Handed, Passes, Refused}
use Rattle.typing.specs.Typing.{ParametersAre, ParameterIs, Finds, NoParameters, MoreParameters, ParameterRefused}
use Rattle.expressions.specs.declared.found.Found.{Found}
use Rattle.expressions.specs.declared.found.Found.TheVariants.{Passes as FoundToPass, Refused as FoundRefused}
use Rattle.expressions.specs.declared.handed_row.HandedRow.{HandedRow}
use Rattle.expressions.specs.Context.{Context, Declared, declared, Agrees, Grows}
use Rattle.expressions.specs.Numbers.{Numbering, handed_at}
use Rattle.expressions.specs.Language.{language}
use Rattle.expressions.specs.Walked.{Passed, Stopped, Walked, Says}
use Rattle.expressions.proofs.Growth.{agrees_before, below_grows, grows_trans, grows_same}
use Rattle.expressions.proofs.Loops.{next_item}
use Rattle.expressions.proofs.Walking.{handed_behind, passed_of, stopped_of}
use Rattle.items.specs.declared.parameters.parameter.Parameter.{Parameter as ParameterByNumber}
use Rattle.items.specs.parameters.Parameters.{a_parameter, parameter_at, some_parameters}

-- parameters that are known, in front of what is found of the others
abbrev pub in_front : List Parameter → List Handed → Outcome (List Parameter) → Outcome (List Parameter)
in_front known handed (Passes others further) = Passes (known ++ others) (handed ++ further)
in_front known handed (Refused first) = Refused first

front_same : (outcome : Outcome (List Parameter)) → in_front [] [] outcome ≡ outcome
front_same (Passes told handed) = refl
front_same (Refused first) = refl

front_twice : (known others : List Parameter) (handed further : List Handed) (outcome : Outcome (List Parameter))
    → in_front known handed (in_front others further outcome) ≡ in_front (known ++ others) (handed ++ further) outcome
front_twice known others handed further (Passes last behind_it) = λ i. Passes (sym (append_assoc known others last) i) (sym (append_assoc handed further behind_it) i)
front_twice known others handed further (Refused first) = refl

module _ (abi : Abi) (params : List Param) where
  -- parameters of which so many are known: what is found of the rest makes what is found of all
  pub record Parameters (known : List ParameterByNumber) (old new : Context) (index : ℕ) : Type 0 where
    pub rows : List HandedRow
    pub handed : new.handed ≡ old.handed ++ rows
    pub grows : Grows old new
    pub below : All (λ param. param.ctype < length new.types) known
    pub goes : (n : Numbering) → Agrees n new → (outcome : Outcome (List Parameter)) (after : Declared)
        → Finds (language abi n) (declared new) (ParametersAre (drop index params) outcome) after
        → Finds (language abi n) (declared old) (ParametersAre params (in_front (map (parameter_at n) known) (map (handed_at n) rows) outcome)) after

  pub parameters_start : (known : List ParameterByNumber) (context : Context) → known ≡ [] → Parameters known context context 0
  parameters_start known context empty = subst (λ (all : List ParameterByNumber). Parameters all context context 0) (sym empty) (record {
    rows = [];
    handed = sym (append-nil context.handed);
    grows = grows_same context;
    below = All-nil (λ (param : ParameterByNumber). param.ctype < length context.types);
    goes = λ n agrees outcome after found.
        subst (λ (o : Outcome (List Parameter)). Finds (language abi n) (declared context) (ParametersAre params o) after) (sym (front_same outcome)) found;
  })

  one_more : (n : Numbering) (param : Param) (rest : List Param) (before middle after : Declared) (told : Parameter) (handed : List Handed) (outcome : Outcome (List Parameter))
      → Finds (language abi n) before (ParameterIs param (Passes told handed)) middle
      → Finds (language abi n) middle (ParametersAre rest outcome) after
      → Finds (language abi n) before (ParametersAre (param ∷ rest) (in_front (told ∷ []) handed outcome)) after
  one_more n param rest before middle after told handed (Passes others further) first found = MoreParameters first found
  one_more n param rest before middle after told handed (Refused broken) first found = MoreParameters first found

  -- one more passes
  pub parameters_next : (known after_push : List ParameterByNumber) (old mid new : Context) (index : ℕ) (param : Param) (one : ParameterByNumber) (first : Found ParameterByNumber)
      → index < length params → param ≡ get_or params index param → after_push ≡ known ++ one ∷ []
      → first ≡ FoundToPass one → Walked (Says abi (λ o. ParameterIs param o)) a_parameter mid new first
      → Parameters known old mid index → Parameters after_push old new (index + 1)
  parameters_next known after_push old mid new index param one first within is pushed passes walked walk =
      let passed = passed_of (Says abi (λ o. ParameterIs param o)) a_parameter mid new one first passes walked in
      subst (λ (all : List ParameterByNumber). Parameters all old new (index + 1)) (sym pushed) (record {
        rows = walk.rows ++ passed.rows;
        handed = handed_behind old.handed mid.handed new.handed walk.rows passed.rows walk.handed passed.handed;
        grows = grows_trans old mid new walk.grows passed.grows;
        below = All-push (λ (k : ParameterByNumber). k.ctype < length new.types) known one
            (λ at default inside. below_grows mid new passed.grows (get_or known at default).ctype (walk.below at default inside)) passed.below;
        goes = λ n agrees outcome after found.
            let whole = walk.goes n (agrees_before mid new n passed.grows agrees) (in_front (parameter_at n one ∷ []) (map (handed_at n) passed.rows) outcome) after
            (subst (λ (rest : List Param). Finds (language abi n) (declared mid) (ParametersAre rest (in_front (parameter_at n one ∷ []) (map (handed_at n) passed.rows) outcome)) after) (sym (next_item params index param within is))
            (one_more n param (drop (index + 1) params) (declared mid) (declared new) after (parameter_at n one) (map (handed_at n) passed.rows) outcome (passed.found n agrees) found)) in
            let twice = front_twice (map (parameter_at n) known) (parameter_at n one ∷ []) (map (handed_at n) walk.rows) (map (handed_at n) passed.rows) outcome in
            let rows : in_front (map (parameter_at n) known ++ parameter_at n one ∷ []) (map (handed_at n) walk.rows ++ map (handed_at n) passed.rows) outcome
            ≡ in_front (map (parameter_at n) (known ++ one ∷ [])) (map (handed_at n) (walk.rows ++ passed.rows)) outcome =
            λ i. in_front (sym (map-append (parameter_at n) known (one ∷ [])) i) (sym (map-append (handed_at n) walk.rows passed.rows) i) outcome in
            subst (λ (o : Outcome (List Parameter)). Finds (language abi n) (declared old) (ParametersAre params o) after) (twice ∙ rows) whole;
      })

  -- and one that is refused
  pub parameters_refused : (known : List ParameterByNumber) (old mid new : Context) (index : ℕ) (param : Param) (broken : Fault) (first : Found ParameterByNumber)
      → index < length params → param ≡ get_or params index param
      → first ≡ FoundRefused broken → Walked (Says abi (λ o. ParameterIs param o)) a_parameter mid new first
      → Parameters known old mid index → Stopped (Says abi (λ o. ParametersAre params o)) old new broken
  parameters_refused known old mid new index param broken first within is refused walked walk =
      let stopped = stopped_of (Says abi (λ o. ParameterIs param o)) a_parameter mid new broken first refused walked in
      record {
        grows = grows_trans old mid new walk.grows stopped.grows;
        found = λ n agrees. walk.goes n (agrees_before mid new n stopped.grows agrees) (Refused broken) (declared new)
            (subst (λ (rest : List Param). Finds (language abi n) (declared mid) (ParametersAre rest (Refused broken)) (declared new)) (sym (next_item params index param within is)) (ParameterRefused (stopped.found n agrees)));
      }

  pub parameters_end : (known : List ParameterByNumber) (old new : Context) (index : ℕ) → length params ≤ index
      → Parameters known old new index → Passed (Says abi (λ o. ParametersAre params o)) (some_parameters known) old new tt
  parameters_end known old new index past walk = record {
    rows = walk.rows;
    handed = walk.handed;
    grows = walk.grows;
    below = walk.below;
    found = λ n agrees.
        let whole = walk.goes n agrees (Passes [] []) (declared new)
        (subst (λ (rest : List Param). Finds (language abi n) (declared new) (ParametersAre rest (Passes [] [])) (declared new)) (sym (drop_all index params past)) NoParameters) in
        let same : Passes (map (parameter_at n) known ++ []) (map (handed_at n) walk.rows ++ []) ≡ Passes (map (parameter_at n) known) (map (handed_at n) walk.rows) =
        λ i. Passes (append-nil (map (parameter_at n) known) i) (append-nil (map (handed_at n) walk.rows) i) in
        subst (λ (o : Outcome (List Parameter)). Finds (language abi n) (declared old) (ParametersAre params o) (declared new)) same whole;
  }
