-- What is found of parts one behind the other.
use Rattle.std.proofs.Common.{◌≡◌, ℕ, List, [], ◌∷◌, ◌++◌, map, length, refl, sym, subst, Result, Ok, Err, IfOk}
use Rattle.std.proofs.lemmas.List.{append-nil, map-append}
use Rattle.cbase.specs.declared.abi.Abi.{Abi}
use Rattle.cbase.specs.declared.no_memory.NoMemory.{NoMemory}
use Rattle.cbase.specs.declared.tree.expr.Expr.{Expr}
use Rattle.typing.specs.declared.fault.Fault.{Fault}
use Rattle.typing.specs.Outcomes.{Outcome, Passes}
use Rattle.typing.specs.Pieces.{Piece, Loaded, Unloaded}
use Rattle.typing.specs.Told.{Told}
use Rattle.typing.specs.Typing.{PieceIs, PiecesAre, Finds, NoPieces, MorePieces, RefusedHere, RefusedBehind}
use Rattle.expressions.specs.declared.found.Found.{Found}
use Rattle.expressions.specs.declared.found.Found.TheVariants.{Passes as FoundToPass, Refused as FoundRefused}
use Rattle.expressions.specs.declared.known.Known.{Known as KnownByNumber}
use Rattle.expressions.specs.Context.{Context, declared, Grows}
use Rattle.expressions.specs.Found.{Reading, an_operand, one_operand}
use Rattle.expressions.specs.Numbers.{Numbering, handed_at}
use Rattle.expressions.specs.Language.{language}
use Rattle.expressions.specs.Walked.{Passed, Stopped, Walked, Says}
use Rattle.expressions.proofs.Growth.{agrees_before, grows_trans}
use Rattle.expressions.proofs.Walking.{handed_behind, passed_of, stopped_of}

module _ (abi : Abi) where
  -- one part alone
  pub pieces_one : {B : Type 0} (piece : Piece) (reading : Reading B Told) (single : Reading B (List Told)) (old new : Context) (one : B)
      → ((n : Numbering) → single.means n one ≡ reading.means n one ∷ []) → single.IsBelow (length new.types) one
      → Passed (Says abi (λ o. PieceIs piece o)) reading old new one → Passed (Says abi (λ o. PiecesAre (piece ∷ []) o)) single old new one
  pieces_one piece reading single old new one means below passed = record {
    rows = passed.rows;
    handed = passed.handed;
    grows = passed.grows;
    below = below;
    found = λ n agrees.
        let same : Passes (reading.means n one ∷ []) (map (handed_at n) passed.rows ++ []) ≡ Passes (single.means n one) (map (handed_at n) passed.rows) =
        λ i. Passes (sym (means n) i) (append-nil (map (handed_at n) passed.rows) i) in
        subst (λ (o : Outcome (List Told)). Finds (language abi n) (declared old) (PiecesAre (piece ∷ []) o) (declared new)) same (MorePieces (passed.found n agrees) NoPieces);
  }

  pub one_result : {B : Type 0} (piece : Piece) (reading : Reading B Told) (single : Reading B (List Told)) (old new : Context) (r : Result (Found B) NoMemory)
      → ((n : Numbering) (one : B) → single.means n one ≡ reading.means n one ∷ []) → ((count : ℕ) (one : B) → reading.IsBelow count one → single.IsBelow count one)
      → IfOk r (λ found. Walked (Says abi (λ o. PieceIs piece o)) reading old new found)
      → IfOk r (λ found. Walked (Says abi (λ o. PiecesAre (piece ∷ []) o)) single old new found)
  one_result piece reading single old new (Ok (FoundToPass one)) means below passed =
      pieces_one piece reading single old new one (λ n. means n one) (below (length new.types) one passed.below) passed
  one_result piece reading single old new (Ok (FoundRefused first)) means below refused = record { grows = refused.grows; found = λ n agrees. RefusedHere (refused.found n agrees) }
  one_result piece reading single old new (Err error) means below refused = tt

  -- the same of an operand that is found
  pub loaded_alone : (expr : Expr) (old new : Context) (found : Found KnownByNumber) → Walked (Says abi (λ o. PieceIs (Loaded expr) o)) an_operand old new found
      → Walked (Says abi (λ o. PiecesAre (Loaded expr ∷ []) o)) one_operand old new found
  loaded_alone expr old new found walked = one_result (Loaded expr) an_operand one_operand old new (Ok found) (λ n one. refl) (λ count one below. below) walked

  pub unloaded_alone : (expr : Expr) (old new : Context) (found : Found KnownByNumber) → Walked (Says abi (λ o. PieceIs (Unloaded expr) o)) an_operand old new found
      → Walked (Says abi (λ o. PiecesAre (Unloaded expr ∷ []) o)) one_operand old new found
  unloaded_alone expr old new found walked = one_result (Unloaded expr) an_operand one_operand old new (Ok found) (λ n one. refl) (λ count one below. below) walked

  -- a part in front of others
  pub pieces_more : {B C D : Type 0} (piece : Piece) (pieces : List Piece) (reading : Reading B Told) (further : Reading C (List Told)) (all : Reading D (List Told))
      (old mid new : Context) (one : B) (rest : C) (whole : D)
      → ((n : Numbering) → all.means n whole ≡ reading.means n one ∷ further.means n rest) → all.IsBelow (length new.types) whole
      → Passed (Says abi (λ o. PieceIs piece o)) reading old mid one → Passed (Says abi (λ o. PiecesAre pieces o)) further mid new rest
      → Passed (Says abi (λ o. PiecesAre (piece ∷ pieces) o)) all old new whole
  pieces_more piece pieces reading further all old mid new one rest whole means below first second = record {
    rows = first.rows ++ second.rows;
    handed = handed_behind old.handed mid.handed new.handed first.rows second.rows first.handed second.handed;
    grows = grows_trans old mid new first.grows second.grows;
    below = below;
    found = λ n agrees.
        let same : Passes (reading.means n one ∷ further.means n rest) (map (handed_at n) first.rows ++ map (handed_at n) second.rows) ≡ Passes (all.means n whole) (map (handed_at n) (first.rows ++ second.rows)) =
        λ i. Passes (sym (means n) i) (sym (map-append (handed_at n) first.rows second.rows) i) in
        subst (λ (o : Outcome (List Told)). Finds (language abi n) (declared old) (PiecesAre (piece ∷ pieces) o) (declared new)) same
        (MorePieces (first.found n (agrees_before mid new n second.grows agrees)) (second.found n agrees));
  }

  -- the first of them is refused
  pub pieces_refused : {B : Type 0} (piece : Piece) (pieces : List Piece) (reading : Reading B Told) (old new : Context) (first : Fault) (found : Found B)
      → found ≡ FoundRefused first → Walked (Says abi (λ o. PieceIs piece o)) reading old new found
      → Stopped (Says abi (λ o. PiecesAre (piece ∷ pieces) o)) old new first
  pieces_refused piece pieces reading old new first found is walked =
      let stopped = stopped_of (Says abi (λ o. PieceIs piece o)) reading old new first found is walked in
      record { grows = stopped.grows; found = λ n agrees. RefusedHere (stopped.found n agrees) }

  -- one behind it is refused
  pub pieces_refused_behind : {B C : Type 0} (piece : Piece) (pieces : List Piece) (reading : Reading B Told) (further : Reading C (List Told)) (old mid new : Context) (one : B) (first : Fault) (found : Found C)
      → found ≡ FoundRefused first → Passed (Says abi (λ o. PieceIs piece o)) reading old mid one → Walked (Says abi (λ o. PiecesAre pieces o)) further mid new found
      → Stopped (Says abi (λ o. PiecesAre (piece ∷ pieces) o)) old new first
  pieces_refused_behind piece pieces reading further old mid new one first found is passed walked =
      let stopped = stopped_of (Says abi (λ o. PiecesAre pieces o)) further mid new first found is walked in
      record {
        grows = grows_trans old mid new passed.grows stopped.grows;
        found = λ n agrees. RefusedBehind (passed.found n (agrees_before mid new n stopped.grows agrees)) (stopped.found n agrees);
      }

  -- the same of what is found of the first and of the others
  pub then_passes : {B C D : Type 0} (piece : Piece) (pieces : List Piece) (reading : Reading B Told) (further : Reading C (List Told)) (all : Reading D (List Told))
      (old mid new : Context) (one : B) (rest : C) (whole : D) (first : Found B) (second : Found C)
      → first ≡ FoundToPass one → Walked (Says abi (λ o. PieceIs piece o)) reading old mid first
      → second ≡ FoundToPass rest → Walked (Says abi (λ o. PiecesAre pieces o)) further mid new second
      → ((n : Numbering) → all.means n whole ≡ reading.means n one ∷ further.means n rest)
      → (Grows mid new → reading.IsBelow (length mid.types) one → further.IsBelow (length new.types) rest → all.IsBelow (length new.types) whole)
      → Passed (Says abi (λ o. PiecesAre (piece ∷ pieces) o)) all old new whole
  then_passes piece pieces reading further all old mid new one rest whole first second is walked also behind_it means below =
      let before = passed_of (Says abi (λ o. PieceIs piece o)) reading old mid one first is walked in
      let after = passed_of (Says abi (λ o. PiecesAre pieces o)) further mid new rest second also behind_it in
      pieces_more piece pieces reading further all old mid new one rest whole means (below after.grows before.below after.below) before after

  pub then_refused : {B C : Type 0} (piece : Piece) (pieces : List Piece) (reading : Reading B Told) (further : Reading C (List Told)) (old mid new : Context) (one : B) (broken : Fault)
      (first : Found B) (second : Found C)
      → first ≡ FoundToPass one → Walked (Says abi (λ o. PieceIs piece o)) reading old mid first
      → second ≡ FoundRefused broken → Walked (Says abi (λ o. PiecesAre pieces o)) further mid new second
      → Stopped (Says abi (λ o. PiecesAre (piece ∷ pieces) o)) old new broken
  then_refused piece pieces reading further old mid new one broken first second is walked also behind_it =
      pieces_refused_behind piece pieces reading further old mid new one broken second also (passed_of (Says abi (λ o. PieceIs piece o)) reading old mid one first is walked) behind_it
