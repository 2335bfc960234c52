-- What is found of a type name: the sizes behind its words, one behind the other, and the whole.
use Rattle.std.proofs.Common.{◌≡◌, ◌<◌, ◌≤◌, ◌+◌, ℕ, List, [], ◌∷◌, ◌++◌, map, drop, length, get_or, refl, sym, ap, subst, ◌∙◌, Option, None, Some, append-nil}
use Rattle.std.proofs.lemmas.List.{append_assoc, map-append, drop_all}
use Rattle.cbase.specs.declared.abi.Abi.{Abi}
use Rattle.cbase.specs.declared.tree.expr.Expr.{Expr}
use Rattle.typing.specs.declared.fault.Fault.{Fault}
use Rattle.typing.specs.declared.size.Size.{Size}
use Rattle.typing.specs.declared.size.Size.TheVariants.{LeftOut}
use Rattle.typing.specs.Outcomes.{Outcome, Handed, Passes, Refused}
use Rattle.typing.specs.Pieces.{SizeOfArray}
use Rattle.typing.specs.Told.{SizeIs}
use Rattle.typing.specs.Typing.{PieceIs, SizesAre, Finds, NoSizes, SizeLeftOut, SizeLeftOutRefused, MoreSizes, SizesRefusedHere, SizesRefusedBehind}
use Rattle.expressions.specs.declared.found.Found.{Found}
use Rattle.expressions.specs.declared.found.Found.TheVariants.{Passes as FoundToPass, Refused as FoundRefused}
use Rattle.expressions.specs.declared.handed_row.HandedRow.{HandedRow}
use Rattle.expressions.specs.Context.{Context, Declared, declared, Agrees, Grows}
use Rattle.expressions.specs.Found.{a_size, some_sizes}
use Rattle.expressions.specs.Numbers.{Numbering, handed_at}
use Rattle.expressions.specs.Language.{language}
use Rattle.expressions.specs.Walked.{Passed, Stopped, Walked, Says}
use Rattle.expressions.proofs.Growth.{agrees_before, grows_trans, grows_same}
use Rattle.expressions.proofs.Loops.{next_item}
use Rattle.expressions.proofs.Walking.{handed_behind, passed_of, stopped_of}

-- sizes that are known, in front of what is found of the others
abbrev pub sizes_joined : List Size → List Handed → Outcome (List Size) → Outcome (List Size)
sizes_joined known handed (Passes others further) = Passes (known ++ others) (handed ++ further)
sizes_joined known handed (Refused first) = Refused first

pub sizes_same : (outcome : Outcome (List Size)) → sizes_joined [] [] outcome ≡ outcome
sizes_same (Passes told handed) = refl
sizes_same (Refused first) = refl

pub sizes_twice : (known others : List Size) (handed further : List Handed) (outcome : Outcome (List Size))
    → sizes_joined known handed (sizes_joined others further outcome) ≡ sizes_joined (known ++ others) (handed ++ further) outcome
sizes_twice known others handed further (Passes last behind_it) = λ i. Passes (sym (append_assoc known others last) i) (sym (append_assoc handed further behind_it) i)
sizes_twice known others handed further (Refused first) = refl

module _ (abi : Abi) (sizes : List (Option Expr)) where
  -- sizes of which so many are known: what is found of the rest makes what is found of all
  pub record Sizes (known : List Size) (old new : Context) (index : ℕ) : Type 0 where
    pub rows : List HandedRow
    pub handed : new.handed ≡ old.handed ++ rows
    pub grows : Grows old new
    pub goes : (n : Numbering) → Agrees n new → (outcome : Outcome (List Size)) (after : Declared)
        → Finds (language abi n) (declared new) (SizesAre (drop index sizes) outcome) after
        → Finds (language abi n) (declared old) (SizesAre sizes (sizes_joined known (map (handed_at n) rows) outcome)) after

  pub sizes_start : (known : List Size) (context : Context) → known ≡ [] → Sizes known context context 0
  sizes_start known context empty = subst (λ (all : List Size). Sizes all context context 0) (sym empty) (record {
    rows = [];
    handed = sym (append-nil context.handed);
    grows = grows_same context;
    goes = λ n agrees outcome after found.
        subst (λ (o : Outcome (List Size)). Finds (language abi n) (declared context) (SizesAre sizes o) after) (sym (sizes_same outcome)) found;
  })

  left_out : (n : Numbering) (rest : List (Option Expr)) (before after : Declared) (outcome : Outcome (List Size))
      → Finds (language abi n) before (SizesAre rest outcome) after
      → Finds (language abi n) before (SizesAre (None ∷ rest) (sizes_joined (LeftOut ∷ []) [] outcome)) after
  left_out n rest before after (Passes told handed) found = SizeLeftOut found
  left_out n rest before after (Refused first) found = SizeLeftOutRefused found

  one_more : (n : Numbering) (expr : Expr) (rest : List (Option Expr)) (before middle after : Declared) (size : Size) (handed : List Handed) (outcome : Outcome (List Size))
      → Finds (language abi n) before (PieceIs (SizeOfArray expr) (Passes (SizeIs size) handed)) middle
      → Finds (language abi n) middle (SizesAre rest outcome) after
      → Finds (language abi n) before (SizesAre (Some expr ∷ rest) (sizes_joined (size ∷ []) handed outcome)) after
  one_more n expr rest before middle after size handed (Passes told further) first found = MoreSizes first found
  one_more n expr rest before middle after size handed (Refused broken) first found = SizesRefusedBehind first found

  -- where code says what is known in other words
  pub sizes_kept : (known after_push : List Size) (old new later : Context) (index : ℕ) → after_push ≡ known → later ≡ new → Sizes known old new index → Sizes after_push old later index
  sizes_kept known after_push old new later index same alike walk =
      subst (λ (all : List Size). Sizes all old later index) (sym same) (subst (λ (context : Context). Sizes known old context index) (sym alike) walk)

  -- a size that is left out
  pub sizes_skip : (known after_push : List Size) (old new : Context) (index : ℕ) (item : Option Expr) → index < length sizes → item ≡ get_or sizes index item → item ≡ None
      → after_push ≡ known ++ LeftOut ∷ [] → Sizes known old new index → Sizes after_push old new (index + 1)
  sizes_skip known after_push old new index item within is left pushed walk = subst (λ (all : List Size). Sizes all old new (index + 1)) (sym pushed) (record {
    rows = walk.rows;
    handed = walk.handed;
    grows = walk.grows;
    goes = λ n agrees outcome after found.
        let there : drop index sizes ≡ None ∷ drop (index + 1) sizes = next_item sizes index item within is ∙ ap (λ (size : Option Expr). size ∷ drop (index + 1) sizes) left in
        let whole = walk.goes n agrees (sizes_joined (LeftOut ∷ []) [] outcome) after
        (subst (λ (rest : List (Option Expr)). Finds (language abi n) (declared new) (SizesAre rest (sizes_joined (LeftOut ∷ []) [] outcome)) after) (sym there)
        (left_out n (drop (index + 1) sizes) (declared new) after outcome found)) in
        let twice = sizes_twice known (LeftOut ∷ []) (map (handed_at n) walk.rows) [] outcome in
        let rows = ap (λ (handed : List Handed). sizes_joined (known ++ LeftOut ∷ []) handed outcome) (append-nil (map (handed_at n) walk.rows)) in
        subst (λ (o : Outcome (List Size)). Finds (language abi n) (declared old) (SizesAre sizes o) after) (twice ∙ rows) whole;
  })

  -- a size that is there and passes
  pub sizes_next : (known after_push : List Size) (old mid new : Context) (index : ℕ) (item : Option Expr) (expr : Expr) (one : Size) (found : Found Size)
      → index < length sizes → item ≡ get_or sizes index item → item ≡ Some expr → after_push ≡ known ++ one ∷ []
      → found ≡ FoundToPass one → Walked (Says abi (λ o. PieceIs (SizeOfArray expr) o)) a_size mid new found
      → Sizes known old mid index → Sizes after_push old new (index + 1)
  sizes_next known after_push old mid new index item expr one first within is there pushed passes walked walk =
      let passed = passed_of (Says abi (λ o. PieceIs (SizeOfArray expr) o)) a_size mid new one first passes walked in
      subst (λ (all : List Size). Sizes all old new (index + 1)) (sym pushed) (record {
        rows = walk.rows ++ passed.rows;
        handed = handed_behind old.handed mid.handed new.handed walk.rows passed.rows walk.handed passed.handed;
        grows = grows_trans old mid new walk.grows passed.grows;
        goes = λ n agrees outcome after found.
            let at : drop index sizes ≡ Some expr ∷ drop (index + 1) sizes = next_item sizes index item within is ∙ ap (λ (size : Option Expr). size ∷ drop (index + 1) sizes) there in
            let whole = walk.goes n (agrees_before mid new n passed.grows agrees) (sizes_joined (one ∷ []) (map (handed_at n) passed.rows) outcome) after
            (subst (λ (rest : List (Option Expr)). Finds (language abi n) (declared mid) (SizesAre rest (sizes_joined (one ∷ []) (map (handed_at n) passed.rows) outcome)) after) (sym at)
            (one_more n expr (drop (index + 1) sizes) (declared mid) (declared new) after one (map (handed_at n) passed.rows) outcome (passed.found n agrees) found)) in
            let twice = sizes_twice known (one ∷ []) (map (handed_at n) walk.rows) (map (handed_at n) passed.rows) outcome in
            let rows = ap (λ (handed : List Handed). sizes_joined (known ++ one ∷ []) handed outcome) (sym (map-append (handed_at n) walk.rows passed.rows)) in
            subst (λ (o : Outcome (List Size)). Finds (language abi n) (declared old) (SizesAre sizes o) after) (twice ∙ rows) whole;
      })

  -- and one that is refused
  pub sizes_refused : (known : List Size) (old mid new : Context) (index : ℕ) (item : Option Expr) (expr : Expr) (first : Fault) (found : Found Size)
      → index < length sizes → item ≡ get_or sizes index item → item ≡ Some expr
      → found ≡ FoundRefused first → Walked (Says abi (λ o. PieceIs (SizeOfArray expr) o)) a_size mid new found
      → Sizes known old mid index → Stopped (Says abi (λ o. SizesAre sizes o)) old new first
  sizes_refused known old mid new index item expr first found within is there refused walked walk =
      let stopped = stopped_of (Says abi (λ o. PieceIs (SizeOfArray expr) o)) a_size mid new first found refused walked in
      let at : drop index sizes ≡ Some expr ∷ drop (index + 1) sizes = next_item sizes index item within is ∙ ap (λ (size : Option Expr). size ∷ drop (index + 1) sizes) there in
      record {
        grows = grows_trans old mid new walk.grows stopped.grows;
        found = λ n agrees. walk.goes n (agrees_before mid new n stopped.grows agrees) (Refused first) (declared new)
            (subst (λ (rest : List (Option Expr)). Finds (language abi n) (declared mid) (SizesAre rest (Refused first)) (declared new)) (sym at) (SizesRefusedHere (stopped.found n agrees)));
      }

  pub sizes_end : (known : List Size) (old new : Context) (index : ℕ) → length sizes ≤ index
      → Sizes known old new index → Passed (Says abi (λ o. SizesAre sizes o)) (some_sizes known) old new tt
  sizes_end known old new index past walk = record {
    rows = walk.rows;
    handed = walk.handed;
    grows = walk.grows;
    below = tt;
    found = λ n agrees.
        let none : drop index sizes ≡ [] = drop_all index sizes past in
        let whole = walk.goes n agrees (Passes [] []) (declared new)
        (subst (λ (rest : List (Option Expr)). Finds (language abi n) (declared new) (SizesAre rest (Passes [] [])) (declared new)) (sym none) NoSizes) in
        let same : Passes (known ++ []) (map (handed_at n) walk.rows ++ []) ≡ Passes known (map (handed_at n) walk.rows) = λ i. Passes (append-nil known i) (append-nil (map (handed_at n) walk.rows) i) in
        subst (λ (o : Outcome (List Size)). Finds (language abi n) (declared old) (SizesAre sizes o) (declared new)) same whole;
  }
