-- What is found of the sizes of a member and of its width.
use Rattle.std.proofs.Common.{◌≡◌, ◌<◌, ◌≤◌, ◌+◌, ℕ, List, [], ◌∷◌, ◌++◌, map, drop, length, get_or, sym, ap, subst, ◌∙◌, Option, None, Some, append-nil}
use Rattle.std.proofs.lemmas.List.{map-append, drop_all}
use Rattle.cbase.specs.declared.abi.Abi.{Abi}
use Rattle.cbase.specs.declared.place.Place.{Place}
use Rattle.cbase.specs.declared.tree.expr.Expr.{Expr}
use Rattle.typing.specs.declared.fault.Fault.{Fault}
use Rattle.typing.specs.declared.size.Size.{Size}
use Rattle.typing.specs.declared.size.Size.TheVariants.{Counted, NotConstant, LeftOut}
use Rattle.typing.specs.Braces.{fixed_size}
use Rattle.typing.specs.Outcomes.{Outcome, Handed, Passes, Refused}
use Rattle.typing.specs.Pieces.{Loaded, SizeOfArray}
use Rattle.typing.specs.Typing.{PieceIs, MemberSizesAre, MemberSizeIs, WidthIs, Finds, NoMemberSizes, MoreMemberSizes, MemberSizeRefusedHere, MemberSizeRefusedBehind, MemberSizeLeftOut, MemberSizeGiven, MemberSizeRefused, NoWidth, WidthGiven}
use Rattle.expressions.specs.declared.found.Found.{Found}
use Rattle.expressions.specs.declared.found.Found.TheVariants.{Passes as FoundToPass, Refused as FoundRefused}
use Rattle.expressions.specs.declared.handed_row.HandedRow.{HandedRow}
use Rattle.expressions.specs.declared.known.Known.{Known}
use Rattle.expressions.specs.Context.{Context, Declared, declared, Agrees, Grows}
use Rattle.expressions.specs.Declaring.{IsFixed}
use Rattle.expressions.specs.Found.{an_operand, a_size, a_member_size, some_sizes, nothing}
use Rattle.expressions.specs.Numbers.{Numbering, handed_at}
use Rattle.expressions.specs.Language.{language}
use Rattle.expressions.specs.Walked.{Passed, Stopped, Walked, Says}
use Rattle.expressions.proofs.Growth.{agrees_before, grows_trans, grows_same}
use Rattle.expressions.proofs.Loops.{next_item}
use Rattle.expressions.proofs.TypeNames.{sizes_joined, sizes_same, sizes_twice}
use Rattle.expressions.proofs.Walking.{handed_behind, passed_of, stopped_of}

module _ (abi : Abi) (old new : Context) where
  -- no width
  pub no_width : (bits : Option Expr) → bits ≡ None → Passed (Says abi (λ o. WidthIs bits o)) nothing old old tt
  no_width bits left = record {
    rows = [];
    handed = sym (append-nil old.handed);
    grows = grows_same old;
    below = tt;
    found = λ n agrees. subst (λ (these : Option Expr). Finds (language abi n) (declared old) (WidthIs these (Passes tt [])) (declared old)) (sym left) NoWidth;
  }

  -- one that is given
  pub width_passes : (bits : Option Expr) (expr : Expr) (known : Known) (found : Found Known) → bits ≡ Some expr → found ≡ FoundToPass known
      → Walked (Says abi (λ o. PieceIs (Loaded expr) o)) an_operand old new found → Passed (Says abi (λ o. WidthIs bits o)) nothing old new tt
  width_passes bits expr known found given is walked =
      let passed = passed_of (Says abi (λ o. PieceIs (Loaded expr) o)) an_operand old new known found is walked in
      record {
        rows = passed.rows;
        handed = passed.handed;
        grows = passed.grows;
        below = tt;
        found = λ n agrees.
            subst (λ (these : Option Expr). Finds (language abi n) (declared old) (WidthIs these (Passes tt (map (handed_at n) passed.rows))) (declared new)) (sym given)
            (WidthGiven (passed.found n agrees));
      }

  pub width_refused : (bits : Option Expr) (expr : Expr) (first : Fault) (found : Found Known) → bits ≡ Some expr → found ≡ FoundRefused first
      → Walked (Says abi (λ o. PieceIs (Loaded expr) o)) an_operand old new found → Stopped (Says abi (λ o. WidthIs bits o)) old new first
  width_refused bits expr first found given is walked =
      let stopped = stopped_of (Says abi (λ o. PieceIs (Loaded expr) o)) an_operand old new first found is walked in
      record {
        grows = stopped.grows;
        found = λ n agrees.
            subst (λ (these : Option Expr). Finds (language abi n) (declared old) (WidthIs these (Refused first)) (declared new)) (sym given) (WidthGiven (stopped.found n agrees));
      }

  -- a size that is left out
  pub size_left_out : (given : Option Expr) → given ≡ None → Passed (Says abi (λ o. MemberSizeIs given o)) a_member_size old old LeftOut
  size_left_out given left = record {
    rows = [];
    handed = sym (append-nil old.handed);
    grows = grows_same old;
    below = tt;
    found = λ n agrees.
        subst (λ (these : Option Expr). Finds (language abi n) (declared old) (MemberSizeIs these (Passes LeftOut [])) (declared old)) (sym left) MemberSizeLeftOut;
  }

  -- whatever is handed on of a size
  fixed_passes : (place : Place) (size told : Size) (handed : List Handed) → fixed_size place size [] ≡ Passes told [] → fixed_size place size handed ≡ Passes told handed
  fixed_passes place (Counted count) told handed is =
      let same : Counted count ≡ told = cc is in
      ap (λ (one : Size). Passes one handed) same
  fixed_passes place LeftOut told handed is =
      let same : LeftOut ≡ told = cc is in
      ap (λ (one : Size). Passes one handed) same
  fixed_passes place NotConstant told handed is = absurd (cc is)

  fixed_refused : (place : Place) (size : Size) (first : Fault) (handed : List Handed) → fixed_size place size [] ≡ Refused first → fixed_size place size handed ≡ Refused first
  fixed_refused place (Counted count) first handed is = absurd (cc is)
  fixed_refused place LeftOut first handed is = absurd (cc is)
  fixed_refused place NotConstant first handed is = is

  -- one that is given is fixed
  pub size_fixed : (given : Option Expr) (expr : Expr) (size : Size) (counted found : Found Size) → given ≡ Some expr → counted ≡ FoundToPass size
      → Walked (Says abi (λ o. PieceIs (SizeOfArray expr) o)) a_size old new counted → IsFixed expr.place size found
      → Walked (Says abi (λ o. MemberSizeIs given o)) a_member_size old new found
  size_fixed given expr size counted (FoundToPass told) there is walked fixed =
      let passed = passed_of (Says abi (λ o. PieceIs (SizeOfArray expr) o)) a_size old new size counted is walked in
      record {
        rows = passed.rows;
        handed = passed.handed;
        grows = passed.grows;
        below = tt;
        found = λ n agrees.
            subst (λ (these : Option Expr). Finds (language abi n) (declared old) (MemberSizeIs these (Passes told (map (handed_at n) passed.rows))) (declared new)) (sym there)
            (subst (λ (o : Outcome Size). Finds (language abi n) (declared old) (MemberSizeIs (Some expr) o) (declared new)) (fixed_passes expr.place size told (map (handed_at n) passed.rows) fixed)
            (MemberSizeGiven (passed.found n agrees)));
      }
  size_fixed given expr size counted (FoundRefused first) there is walked fixed =
      let passed = passed_of (Says abi (λ o. PieceIs (SizeOfArray expr) o)) a_size old new size counted is walked in
      record {
        grows = passed.grows;
        found = λ n agrees.
            subst (λ (these : Option Expr). Finds (language abi n) (declared old) (MemberSizeIs these (Refused first)) (declared new)) (sym there)
            (subst (λ (o : Outcome Size). Finds (language abi n) (declared old) (MemberSizeIs (Some expr) o) (declared new)) (fixed_refused expr.place size first (map (handed_at n) passed.rows) fixed)
            (MemberSizeGiven (passed.found n agrees)));
      }

  pub size_stops : (given : Option Expr) (expr : Expr) (first : Fault) (counted : Found Size) → given ≡ Some expr → counted ≡ FoundRefused first
      → Walked (Says abi (λ o. PieceIs (SizeOfArray expr) o)) a_size old new counted → Stopped (Says abi (λ o. MemberSizeIs given o)) old new first
  size_stops given expr first counted there is walked =
      let stopped = stopped_of (Says abi (λ o. PieceIs (SizeOfArray expr) o)) a_size old new first counted is walked in
      record {
        grows = stopped.grows;
        found = λ n agrees.
            subst (λ (these : Option Expr). Finds (language abi n) (declared old) (MemberSizeIs these (Refused first)) (declared new)) (sym there) (MemberSizeRefused (stopped.found n agrees));
      }

module _ (abi : Abi) (sizes : List (Option Expr)) where
  -- sizes of which so many are known: what is found of the rest makes what is found of all
  pub record MemberSizes (known : List Size) (old new : Context) (index : ℕ) : Type 0 where
    pub rows : List HandedRow
    pub handed : new.handed ≡ old.handed ++ rows
    pub grows : Grows old new
    pub goes : (n : Numbering) → Agrees n new → (outcome : Outcome (List Size)) (after : Declared)
        → Finds (language abi n) (declared new) (MemberSizesAre (drop index sizes) outcome) after
        → Finds (language abi n) (declared old) (MemberSizesAre sizes (sizes_joined known (map (handed_at n) rows) outcome)) after

  pub sizes_start : (known : List Size) (context : Context) → known ≡ [] → MemberSizes known context context 0
  sizes_start known context empty = subst (λ (all : List Size). MemberSizes all context context 0) (sym empty) (record {
    rows = [];
    handed = sym (append-nil context.handed);
    grows = grows_same context;
    goes = λ n agrees outcome after found.
        subst (λ (o : Outcome (List Size)). Finds (language abi n) (declared context) (MemberSizesAre sizes o) after) (sym (sizes_same outcome)) found;
  })

  one_more : (n : Numbering) (given : Option Expr) (rest : List (Option Expr)) (before middle after : Declared) (size : Size) (handed : List Handed) (outcome : Outcome (List Size))
      → Finds (language abi n) before (MemberSizeIs given (Passes size handed)) middle
      → Finds (language abi n) middle (MemberSizesAre rest outcome) after
      → Finds (language abi n) before (MemberSizesAre (given ∷ rest) (sizes_joined (size ∷ []) handed outcome)) after
  one_more n given rest before middle after size handed (Passes told further) first found = MoreMemberSizes first found
  one_more n given rest before middle after size handed (Refused broken) first found = MemberSizeRefusedBehind first found

  -- a size that passes
  pub sizes_next : (known after_push : List Size) (old mid new : Context) (index : ℕ) (item : Option Expr) (one : Size) (found : Found Size)
      → index < length sizes → item ≡ get_or sizes index item → after_push ≡ known ++ one ∷ []
      → found ≡ FoundToPass one → Walked (Says abi (λ o. MemberSizeIs item o)) a_member_size mid new found
      → MemberSizes known old mid index → MemberSizes after_push old new (index + 1)
  sizes_next known after_push old mid new index item one first within is pushed passes walked walk =
      let passed = passed_of (Says abi (λ o. MemberSizeIs item o)) a_member_size mid new one first passes walked in
      subst (λ (all : List Size). MemberSizes all old new (index + 1)) (sym pushed) (record {
        rows = walk.rows ++ passed.rows;
        handed = handed_behind old.handed mid.handed new.handed walk.rows passed.rows walk.handed passed.handed;
        grows = grows_trans old mid new walk.grows passed.grows;
        goes = λ n agrees outcome after found.
            let whole = walk.goes n (agrees_before mid new n passed.grows agrees) (sizes_joined (one ∷ []) (map (handed_at n) passed.rows) outcome) after
            (subst (λ (rest : List (Option Expr)). Finds (language abi n) (declared mid) (MemberSizesAre rest (sizes_joined (one ∷ []) (map (handed_at n) passed.rows) outcome)) after) (sym (next_item sizes index item within is))
            (one_more n item (drop (index + 1) sizes) (declared mid) (declared new) after one (map (handed_at n) passed.rows) outcome (passed.found n agrees) found)) in
            let twice = sizes_twice known (one ∷ []) (map (handed_at n) walk.rows) (map (handed_at n) passed.rows) outcome in
            let rows = ap (λ (handed : List Handed). sizes_joined (known ++ one ∷ []) handed outcome) (sym (map-append (handed_at n) walk.rows passed.rows)) in
            subst (λ (o : Outcome (List Size)). Finds (language abi n) (declared old) (MemberSizesAre sizes o) after) (twice ∙ rows) whole;
      })

  -- and one that is refused
  pub sizes_refused : (known : List Size) (old mid new : Context) (index : ℕ) (item : Option Expr) (first : Fault) (found : Found Size)
      → index < length sizes → item ≡ get_or sizes index item
      → found ≡ FoundRefused first → Walked (Says abi (λ o. MemberSizeIs item o)) a_member_size mid new found
      → MemberSizes known old mid index → Stopped (Says abi (λ o. MemberSizesAre sizes o)) old new first
  sizes_refused known old mid new index item first found within is refused walked walk =
      let stopped = stopped_of (Says abi (λ o. MemberSizeIs item o)) a_member_size mid new first found refused walked in
      record {
        grows = grows_trans old mid new walk.grows stopped.grows;
        found = λ n agrees. walk.goes n (agrees_before mid new n stopped.grows agrees) (Refused first) (declared new)
            (subst (λ (rest : List (Option Expr)). Finds (language abi n) (declared mid) (MemberSizesAre rest (Refused first)) (declared new)) (sym (next_item sizes index item within is)) (MemberSizeRefusedHere (stopped.found n agrees)));
      }

  pub sizes_end : (known : List Size) (old new : Context) (index : ℕ) → length sizes ≤ index
      → MemberSizes known old new index → Passed (Says abi (λ o. MemberSizesAre sizes o)) (some_sizes known) old new tt
  sizes_end known old new index past walk = record {
    rows = walk.rows;
    handed = walk.handed;
    grows = walk.grows;
    below = tt;
    found = λ n agrees.
        let whole = walk.goes n agrees (Passes [] []) (declared new)
        (subst (λ (rest : List (Option Expr)). Finds (language abi n) (declared new) (MemberSizesAre rest (Passes [] [])) (declared new)) (sym (drop_all index sizes past)) NoMemberSizes) in
        let same : Passes (known ++ []) (map (handed_at n) walk.rows ++ []) ≡ Passes known (map (handed_at n) walk.rows) = λ i. Passes (append-nil known i) (append-nil (map (handed_at n) walk.rows) i) in
        subst (λ (o : Outcome (List Size)). Finds (language abi n) (declared old) (MemberSizesAre sizes o) (declared new)) same whole;
  }
