-- Loops over the arguments of a call and over the indices on the way to a member.
use Rattle.std.proofs.Common.{◌≡◌, ◌<◌, ◌≤◌, ◌+◌, ℕ, suc, List, [], ◌∷◌, ◌++◌, map, drop, length, get_or, refl, sym, ap, subst, ◌∙◌, add-one, arith}
use Rattle.std.specs.Prelude.{All}
use Rattle.std.proofs.Math.Seq.{drop-cons}
use Rattle.std.proofs.lemmas.List.{length-append, map-append, drop_all}
use Rattle.std.proofs.lemmas.List.Elements.{All-push, All-nil}
use Rattle.cbase.specs.declared.abi.Abi.{Abi}
use Rattle.cbase.specs.declared.tree.expr.Expr.{Expr}
use Rattle.cbase.specs.declared.tree.expr.ExprForm.TheOpen.{Part::Member, At}
use Rattle.cbase.specs.declared.tree.expr.ExprForm.TheViews.{out-Part}
use Rattle.cbase.specs.declared.tree.expr.Part.{Part}
use Rattle.cbase.specs.declared.tree.identifier.Identifier.{Identifier}
use Rattle.typing.specs.declared.fault.Fault.{Fault}
use Rattle.typing.specs.Forms.{Step}
use Rattle.typing.specs.Pieces.{Piece, Loaded, ConstantIndex, index_in, indices_in}
use Rattle.typing.specs.Told.{Told, OperandIs, IndexIs}
use Rattle.typing.specs.Typing.{PieceIs, PiecesAre}
use Rattle.expressions.specs.declared.found.Found.{Found}
use Rattle.expressions.specs.declared.found.Found.TheVariants.{Passes as FoundToPass, Refused as FoundRefused}
use Rattle.expressions.specs.declared.known.Known.{Known}
use Rattle.expressions.specs.Context.{Context}
use Rattle.expressions.specs.Found.{an_operand, operands_at, some_operands, an_index, some_indices}
use Rattle.expressions.specs.Numbers.{Numbering, known_at}
use Rattle.expressions.specs.Walked.{Passed, Stopped, Walked, Says}
use Rattle.expressions.proofs.Growth.{below_grows}
use Rattle.expressions.proofs.Walking.{Awaits, awaits_all, awaits_next, awaits_refused, awaits_nothing, passed_of, stopped_of}

-- what is left of a list is the item of this turn, and then what the next turn leaves
pub next_item : {A : Type 0} (items : List A) (index : ℕ) (item : A) → index < length items → item ≡ get_or items index item → drop index items ≡ item ∷ drop (index + 1) items
next_item {A} items index item within is = rw add-one (drop-cons items index item within ∙ ap (λ (i : A). i ∷ drop (suc index) items) (sym is))

module _ (abi : Abi) (args : List Expr) where
  -- arguments of which so many are known
  pub record Arguments (known : List Known) (old new : Context) (index : ℕ) : Type 0 where
    pub walk : Awaits abi (map Loaded args) (λ n. operands_at n known) old new (map Loaded (drop index args))
    pub below : All (λ one. one.ctype < length new.types) known
    pub count : length known + length (drop index args) ≡ length args

  pub arguments_start : (known : List Known) (context : Context) → known ≡ [] → Arguments known context context 0
  arguments_start known context empty = subst (λ (all : List Known). Arguments all context context 0) (sym empty)
      (record { walk = awaits_all abi (map Loaded args) context; below = All-nil (λ (one : Known). one.ctype < length context.types); count = omega arith })

  arguments_left : (index : ℕ) (arg : Expr) → index < length args → arg ≡ get_or args index arg → map Loaded (drop index args) ≡ Loaded arg ∷ map Loaded (drop (index + 1) args)
  arguments_left index arg within is = ap (map Loaded) (next_item args index arg within is)

  pub arguments_next : (known after : List Known) (old mid new : Context) (index : ℕ) (arg : Expr) (one : Known) (found : Found Known)
      → index < length args → arg ≡ get_or args index arg → after ≡ known ++ one ∷ []
      → found ≡ FoundToPass one → Walked (Says abi (λ o. PieceIs (Loaded arg) o)) an_operand mid new found
      → Arguments known old mid index → Arguments after old new (index + 1)
  arguments_next known after old mid new index arg one found within is pushed passes walked arguments =
      let passed = passed_of (Says abi (λ o. PieceIs (Loaded arg) o)) an_operand mid new one found passes walked in
      let walk = subst (λ (rest : List Piece). Awaits abi (map Loaded args) (λ n. operands_at n known) old mid rest) (arguments_left index arg within is) arguments.walk in
      let next = awaits_next abi an_operand (map Loaded args) (λ n. operands_at n known) old mid new (Loaded arg) (map Loaded (drop (index + 1) args)) one walk passed in
      subst (λ (all : List Known). Arguments all old new (index + 1)) (sym pushed) (record {
        walk = subst (λ (told : Numbering → List Told). Awaits abi (map Loaded args) told old new (map Loaded (drop (index + 1) args)))
            (λ i n. sym (map-append (λ (k : Known). OperandIs (known_at n k)) known (one ∷ [])) i) next;
        below = All-push (λ (k : Known). k.ctype < length new.types) known one (λ at default inside. below_grows mid new passed.grows (get_or known at default).ctype (arguments.below at default inside)) passed.below;
        count =
            let left : length (drop index args) ≡ suc (length (drop (index + 1) args)) = ap length (next_item args index arg within is) in
            omega (arith, left, length-append known (one ∷ []), arguments.count);
      })

  pub arguments_counted : (known : List Known) (old new : Context) (index : ℕ) → length args ≤ index → Arguments known old new index → length known ≡ length args
  arguments_counted known old new index past arguments =
      let none : length (drop index args) ≡ 0 = ap length (drop_all index args past) in
      omega (arith, none, arguments.count)

  pub arguments_refused : (known : List Known) (old mid new : Context) (index : ℕ) (arg : Expr) (first : Fault) (found : Found Known)
      → index < length args → arg ≡ get_or args index arg
      → found ≡ FoundRefused first → Walked (Says abi (λ o. PieceIs (Loaded arg) o)) an_operand mid new found
      → Arguments known old mid index → Stopped (Says abi (λ o. PiecesAre (map Loaded args) o)) old new first
  arguments_refused known old mid new index arg first found within is refused walked arguments =
      let walk = subst (λ (rest : List Piece). Awaits abi (map Loaded args) (λ n. operands_at n known) old mid rest) (arguments_left index arg within is) arguments.walk in
      awaits_refused abi (map Loaded args) (λ n. operands_at n known) old mid new (Loaded arg) (map Loaded (drop (index + 1) args)) first walk
      (stopped_of (Says abi (λ o. PieceIs (Loaded arg) o)) an_operand mid new first found refused walked)

  pub arguments_end : (known : List Known) (old new : Context) (index : ℕ) → length args ≤ index
      → Arguments known old new index → Passed (Says abi (λ o. PiecesAre (map Loaded args) o)) (some_operands known) old new tt
  arguments_end known old new index past arguments =
      let none : map Loaded (drop index args) ≡ [] = ap (map Loaded) (drop_all index args past) in
      awaits_nothing abi (some_operands known) (map Loaded args) (λ n. operands_at n known) old new tt (λ n. refl) arguments.below
      (subst (λ (rest : List Piece). Awaits abi (map Loaded args) (λ n. operands_at n known) old new rest) none arguments.walk)

module _ (abi : Abi) (path : List Part) where
  -- indices of which so many are known
  pub record Indices (words : List ℕ) (old new : Context) (index : ℕ) : Type 0 where
    pub walk : Awaits abi (indices_in path) (λ n. map IndexIs words) old new (indices_in (drop index path))
    pub count : length words + length (indices_in (drop index path)) ≡ length (indices_in path)

  pub indices_start : (words : List ℕ) (context : Context) → words ≡ [] → Indices words context context 0
  indices_start words context empty = subst (λ (all : List ℕ). Indices all context context 0) (sym empty)
      (record { walk = awaits_all abi (indices_in path) context; count = omega arith })

  indices_left : (index : ℕ) (part : Part) (step : Step) → index < length path → part ≡ get_or path index part → out-Part part ≡ step
      → indices_in (drop index path) ≡ index_in step ++ indices_in (drop (index + 1) path)
  indices_left index part step within is form =
      ap indices_in (next_item path index part within is) ∙ ap (λ (s : Step). index_in s ++ indices_in (drop (index + 1) path)) form

  -- a member on the way asks nothing
  pub indices_skip : (words : List ℕ) (old new : Context) (index : ℕ) (part : Part) (name : Identifier) → index < length path → part ≡ get_or path index part → out-Part part ≡ Part::Member name
      → Indices words old new index → Indices words old new (index + 1)
  indices_skip words old new index part name within is form indices =
      let left : indices_in (drop index path) ≡ indices_in (drop (index + 1) path) = indices_left index part (Part::Member name) within is form in
      record {
        walk = subst (λ (rest : List Piece). Awaits abi (indices_in path) (λ n. map IndexIs words) old new rest) left indices.walk;
        count = sym (ap (λ (rest : List Piece). length words + length rest) left) ∙ indices.count;
      }

  -- where code says what is known in other words
  pub indices_kept : (words after : List ℕ) (old new later : Context) (index : ℕ) → after ≡ words → later ≡ new → Indices words old new index → Indices after old later index
  indices_kept words after old new later index same alike indices =
      subst (λ (all : List ℕ). Indices all old later index) (sym same) (subst (λ (context : Context). Indices words old context index) (sym alike) indices)

  pub indices_next : (words after : List ℕ) (old mid new : Context) (index : ℕ) (part : Part) (expr : Expr) (word : ℕ) (found : Found ℕ)
      → index < length path → part ≡ get_or path index part → out-Part part ≡ At expr → after ≡ words ++ word ∷ []
      → found ≡ FoundToPass word → Walked (Says abi (λ o. PieceIs (ConstantIndex expr) o)) an_index mid new found
      → Indices words old mid index → Indices after old new (index + 1)
  indices_next words after old mid new index part expr word found within is form pushed passes walked indices =
      let passed = passed_of (Says abi (λ o. PieceIs (ConstantIndex expr) o)) an_index mid new word found passes walked in
      let walk = subst (λ (rest : List Piece). Awaits abi (indices_in path) (λ n. map IndexIs words) old mid rest) (indices_left index part (At expr) within is form) indices.walk in
      let next = awaits_next abi an_index (indices_in path) (λ n. map IndexIs words) old mid new (ConstantIndex expr) (indices_in (drop (index + 1) path)) word walk passed in
      subst (λ (all : List ℕ). Indices all old new (index + 1)) (sym pushed)
      (record {
        walk = subst (λ (told : Numbering → List Told). Awaits abi (indices_in path) told old new (indices_in (drop (index + 1) path))) (λ i n. sym (map-append IndexIs words (word ∷ [])) i) next;
        count =
            let left : length (indices_in (drop index path)) ≡ suc (length (indices_in (drop (index + 1) path))) = ap length (indices_left index part (At expr) within is form) in
            omega (arith, left, length-append words (word ∷ []), indices.count);
      })

  pub indices_counted : (words : List ℕ) (old new : Context) (index : ℕ) → length path ≤ index → Indices words old new index → length words ≡ length (indices_in path)
  indices_counted words old new index past indices =
      let none : length (indices_in (drop index path)) ≡ 0 = ap (λ (rest : List Part). length (indices_in rest)) (drop_all index path past) in
      omega (arith, none, indices.count)

  pub indices_refused : (words : List ℕ) (old mid new : Context) (index : ℕ) (part : Part) (expr : Expr) (first : Fault) (found : Found ℕ)
      → index < length path → part ≡ get_or path index part → out-Part part ≡ At expr
      → found ≡ FoundRefused first → Walked (Says abi (λ o. PieceIs (ConstantIndex expr) o)) an_index mid new found
      → Indices words old mid index → Stopped (Says abi (λ o. PiecesAre (indices_in path) o)) old new first
  indices_refused words old mid new index part expr first found within is form refused walked indices =
      let walk = subst (λ (rest : List Piece). Awaits abi (indices_in path) (λ n. map IndexIs words) old mid rest) (indices_left index part (At expr) within is form) indices.walk in
      awaits_refused abi (indices_in path) (λ n. map IndexIs words) old mid new (ConstantIndex expr) (indices_in (drop (index + 1) path)) first walk
      (stopped_of (Says abi (λ o. PieceIs (ConstantIndex expr) o)) an_index mid new first found refused walked)

  pub indices_end : (words : List ℕ) (old new : Context) (index : ℕ) → length path ≤ index
      → Indices words old new index → Passed (Says abi (λ o. PiecesAre (indices_in path) o)) (some_indices words) old new tt
  indices_end words old new index past indices =
      let none : indices_in (drop index path) ≡ [] = ap indices_in (drop_all index path past) in
      awaits_nothing abi (some_indices words) (indices_in path) (λ n. map IndexIs words) old new tt (λ n. refl) tt
      (subst (λ (rest : List Piece). Awaits abi (indices_in path) (λ n. map IndexIs words) old new rest) none indices.walk)
