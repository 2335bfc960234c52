-- What is found of parts that stand one behind the other, and of an expression behind its parts.
use Rattle.std.proofs.Common.{◌≡◌, ℕ, List, [], ◌∷◌, ◌++◌, map, length, refl, sym, ap, subst, ◌∙◌, Result, Ok, Err, IfOk, arith}
use Rattle.std.proofs.lemmas.List.{append_assoc, append-nil, map-append}
use Rattle.cbase.specs.declared.abi.Abi.{Abi}
use Rattle.cbase.specs.declared.ctype.CType.{CType}
use Rattle.cbase.specs.declared.no_memory.NoMemory.{NoMemory}
use Rattle.cbase.specs.declared.place.Place.{Place}
use Rattle.typing.specs.declared.ctypes.found.Broken.{Broken}
use Rattle.typing.specs.ctypes.Broken.{Judgement}
use Rattle.typing.specs.declared.fault.Fault.{Fault}
use Rattle.typing.specs.Faults.{fault}
use Rattle.typing.specs.Forms.{Form}
use Rattle.typing.specs.Known.{Known, behind, found_at}
use Rattle.typing.specs.Outcomes.{Outcome, Handed, Passes, Refused, IsSettled}
use Rattle.typing.specs.Pieces.{Piece, pieces_in}
use Rattle.typing.specs.Rules.{AtNode}
use Rattle.typing.specs.Told.{Told}
use Rattle.typing.specs.Typing.{PieceIs, PiecesAre, Finds, NoPieces, MorePieces, RefusedHere, RefusedBehind}
use Rattle.expressions.specs.declared.found.Found.{Found}
use Rattle.expressions.specs.declared.found.Found.TheVariants.{Passes as FoundToPass, Refused as FoundRefused}
use Rattle.expressions.specs.declared.handed_row.HandedRow.{HandedRow}
use Rattle.expressions.specs.declared.known.Known.{Known as KnownByNumber}
use Rattle.expressions.specs.Context.{Context, Declared, declared, Agrees, Grows}
use Rattle.expressions.specs.Found.{Reading, an_expression, no_parts}
use Rattle.expressions.specs.Numbers.{Numbering, known_at, handed_at, row_of}
use Rattle.expressions.specs.Language.{language}
use Rattle.expressions.specs.Settled.{HandsOn, Stays, Judged, Settled}
use Rattle.expressions.specs.Walked.{Tells, Passed, Stopped, Walked, Says, SaysForm}
use Rattle.expressions.proofs.Growth.{agrees_before, grows_trans, grows_same, hands_on_grows}

-- what is known of a part that passes
pub passed_of : {A B : Type 0} (tells : Tells A) (reading : Reading B A) (old new : Context) (told : B) (found : Found B)
    → found ≡ FoundToPass told → Walked tells reading old new found → Passed tells reading old new told
passed_of {A} {B} tells reading old new told found is walked = subst (λ (f : Found B). Walked tells reading old new f) is walked

pub stopped_of : {A B : Type 0} (tells : Tells A) (reading : Reading B A) (old new : Context) (first : Fault) (found : Found B)
    → found ≡ FoundRefused first → Walked tells reading old new found → Stopped tells old new first
stopped_of {A} {B} tells reading old new first found is walked = subst (λ (f : Found B). Walked tells reading old new f) is walked

-- the same is declared where structs and environments are the same
pub declared_same : (old new : Context) → new.structs ≡ old.structs → new.environment ≡ old.environment → declared new ≡ declared old
declared_same old new structs environment = λ i. record { environment = environment i; structs = structs i }

-- numbers keep what they stand for behind an expression that is refused
stays_grows : (old new : Context) → Stays old new → Grows old new
stays_grows old new stays = record {
  types = stays.types;
  structs = λ at s is complete. rw stays.structs is;
  longer = rw stays.structs (omega arith);
  signatures = λ at s is. rw stays.environment is;
}

-- the rows of two walks, one behind the other
pub handed_behind : (first second third : List HandedRow) (rows others : List HandedRow) → second ≡ first ++ rows → third ≡ second ++ others → third ≡ first ++ (rows ++ others)
handed_behind first second third rows others e f = f ∙ (ap (λ (all : List HandedRow). all ++ others) e ∙ append_assoc first rows others)

module _ (abi : Abi) (number : ℕ) (place : Place) (form : Form) {B : Type 0} (reading : Reading B (List Told)) (old mid new : Context) (parts : B) where
  -- what the parts of the form leave
  abbrev pub PartsPass : Type 0
  PartsPass = Passed (Says abi (λ o. PiecesAre (pieces_in form) o)) reading old mid parts

  -- what is found at the form, behind parts that were handed on
  abbrev pub At : Numbering → List Handed → Outcome Known → Type 0
  At n handed outcome = AtNode (language abi n) (declared mid) number place handed form (reading.means n parts) outcome

  -- what is found at a form, by a rule
  abbrev Formed : Outcome Known → Type 0
  Formed outcome = (n : Numbering) → Agrees n new → SaysForm abi number place form n (declared old) outcome (declared new)

  formed : (n : Numbering) (outcome : Outcome Known) → (passed : PartsPass) → Agrees n mid → declared new ≡ declared mid
      → At n (map (handed_at n) passed.rows) outcome → SaysForm abi number place form n (declared old) outcome (declared new)
  formed n outcome passed agrees same at = subst (λ (after : Declared). SaysForm abi number place form n (declared old) outcome after) (sym same)
      (Passes (reading.means n parts) (map (handed_at n) passed.rows), passed.found n agrees, at)

  -- an expression that passes is handed on behind its parts
  passes : (known : KnownByNumber) (passed : PartsPass) → HandsOn number mid new known
      → ((n : Numbering) (handed : List Handed) → Agrees n mid → Agrees n new → At n handed (Passes (known_at n known) (behind handed number (known_at n known))))
      → Passed (SaysForm abi number place form) an_expression old new known
  passes known passed on at = record {
    rows = passed.rows ++ row_of number known ∷ [];
    handed = handed_behind old.handed mid.handed new.handed passed.rows (row_of number known ∷ []) passed.handed on.handed;
    grows = grows_trans old mid new passed.grows (hands_on_grows mid new number known on);
    below = on.below;
    found = λ n agrees.
        let before : Agrees n mid = agrees_before mid new n (hands_on_grows mid new number known on) agrees in
        let rows : map (handed_at n) (passed.rows ++ row_of number known ∷ []) ≡ behind (map (handed_at n) passed.rows) number (known_at n known) = map-append (handed_at n) passed.rows (row_of number known ∷ []) in
        subst (λ (all : List Handed). SaysForm abi number place form n (declared old) (Passes (known_at n known) all) (declared new)) (sym rows)
        (formed n (Passes (known_at n known) (behind (map (handed_at n) passed.rows) number (known_at n known))) passed before (declared_same mid new on.structs on.environment)
        (at n (map (handed_at n) passed.rows) before agrees));
  }

  -- what is refused at it
  refuses : (first : Fault) (passed : PartsPass) → Stays mid new
      → ((n : Numbering) (handed : List Handed) → Agrees n new → At n handed (Refused first))
      → Stopped (SaysForm abi number place form) old new first
  refuses first passed stays at = record {
    grows = grows_trans old mid new passed.grows (stays_grows mid new stays);
    found = λ n agrees. formed n (Refused first) passed (agrees_before mid new n (stays_grows mid new stays) agrees) (declared_same mid new stays.structs stays.environment)
        (at n (map (handed_at n) passed.rows) agrees);
  }

  -- what is found at an operator behind its operands
  pub judged_form : (at : Broken → Place) (judge : Numbering → Judgement) (knows : Numbering → CType → Known) (found : Found KnownByNumber)
      → PartsPass → ((n : Numbering) (handed : List Handed) → At n handed (found_at at (judge n) (knows n) handed number))
      → Judged judge at knows number mid new found → Walked (SaysForm abi number place form) an_expression old new found
  judged_form at judge knows (FoundToPass known) passed rule judged = passes known passed judged.hands_on λ n handed before agrees.
      let typed : found_at at (judge n) (knows n) handed number ≡ Passes (knows n (n.ctype known.ctype)) (behind handed number (knows n (n.ctype known.ctype))) = ap (λ (j : Judgement). found_at at j (knows n) handed number) (judged.judged n agrees) in
      let meant : Passes (knows n (n.ctype known.ctype)) (behind handed number (knows n (n.ctype known.ctype))) ≡ Passes (known_at n known) (behind handed number (known_at n known)) = ap (λ (k : Known). Passes k (behind handed number k)) (sym (judged.meant n agrees)) in
      subst (At n handed) (typed ∙ meant) (rule n handed)
  judged_form at judge knows (FoundRefused first) passed rule judged = refuses first passed judged.stays λ n handed agrees.
      let broken : found_at at (judge n) (knows n) handed number ≡ Refused (fault (at first.broken) first.broken) = ap (λ (j : Judgement). found_at at j (knows n) handed number) (judged.judged n agrees) in
      let placed : Refused (fault (at first.broken) first.broken) ≡ Refused first = ap (λ (place : Place). Refused (fault place first.broken)) (sym judged.placed) in
      subst (At n handed) (broken ∙ placed) (rule n handed)

  -- and where several things are asked
  pub settled_form : (faults : Numbering → List Fault) (knows : Numbering → Known) (found : Found KnownByNumber)
      → PartsPass
      → ((n : Numbering) (handed : List Handed) (outcome : Outcome Known) → Agrees n new → IsSettled (faults n) (knows n) (behind handed number (knows n)) outcome → At n handed outcome)
      → Settled faults knows number mid new found → Walked (SaysForm abi number place form) an_expression old new found
  settled_form faults knows (FoundToPass known) passed rule settled = passes known passed settled.hands_on λ n handed before agrees.
      rule n handed (Passes (known_at n known) (behind handed number (known_at n known))) agrees
      (settled.nothing n agrees, settled.meant n agrees, ap (λ (k : Known). behind handed number k) (settled.meant n agrees))
  settled_form faults knows (FoundRefused first) passed rule settled = refuses first passed settled.stays λ n handed agrees.
      rule n handed (Refused first) agrees (settled.is_first n agrees)

  -- the same of a function's result
  pub judged_result : (at : Broken → Place) (judge : Numbering → Judgement) (knows : Numbering → CType → Known) (r : Result (Found KnownByNumber) NoMemory)
      → IfOk r (λ found. Judged judge at knows number mid new found)
      → PartsPass → ((n : Numbering) (handed : List Handed) → At n handed (found_at at (judge n) (knows n) handed number))
      → IfOk r (λ found. Walked (SaysForm abi number place form) an_expression old new found)
  judged_result at judge knows (Ok found) judged passed rule = judged_form at judge knows found passed rule judged
  judged_result at judge knows (Err error) judged passed rule = tt

  pub settled_result : (faults : Numbering → List Fault) (knows : Numbering → Known) (r : Result (Found KnownByNumber) NoMemory)
      → IfOk r (λ found. Settled faults knows number mid new found)
      → PartsPass
      → ((n : Numbering) (handed : List Handed) (outcome : Outcome Known) → Agrees n new → IsSettled (faults n) (knows n) (behind handed number (knows n)) outcome → At n handed outcome)
      → IfOk r (λ found. Walked (SaysForm abi number place form) an_expression old new found)
  settled_result faults knows (Ok found) settled passed rule = settled_form faults knows found passed rule settled
  settled_result faults knows (Err error) settled passed rule = tt

-- what is refused in a part is refused in the form
pub refused_form : {B : Type 0} (abi : Abi) (number : ℕ) (place : Place) (form : Form) (reading : Reading B (List Told)) (old new : Context) (first : Fault) (found : Found B)
    → found ≡ FoundRefused first → Walked (Says abi (λ o. PiecesAre (pieces_in form) o)) reading old new found → Stopped (SaysForm abi number place form) old new first
refused_form abi number place form reading old new first found is walked =
    let stopped = stopped_of (Says abi (λ o. PiecesAre (pieces_in form) o)) reading old new first found is walked in
    record { grows = stopped.grows; found = λ n agrees. (Refused first, stopped.found n agrees, refl) }

-- a form in which nothing stands
pub nothing_walked : (abi : Abi) (context : Context) → Passed (Says abi (λ o. PiecesAre [] o)) no_parts context context tt
nothing_walked abi context = record {
  rows = [];
  handed = sym (append-nil context.handed);
  grows = grows_same context;
  below = tt;
  found = λ n agrees. NoPieces;
}

-- what is told of some parts, in front of what is told of the others
abbrev pub joined : List Told → List Handed → Outcome (List Told) → Outcome (List Told)
joined told handed (Passes others further) = Passes (told ++ others) (handed ++ further)
joined told handed (Refused first) = Refused first

-- a walk over parts of which some are still to come: what is found of these makes what is found of all
pub record Awaits (abi : Abi) (pieces : List Piece) (told : Numbering → List Told) (old new : Context) (rest : List Piece) : Type 0 where
  pub rows : List HandedRow
  pub handed : new.handed ≡ old.handed ++ rows
  pub grows : Grows old new
  pub goes : (n : Numbering) → Agrees n new → (outcome : Outcome (List Told)) (after : Declared)
      → Finds (language abi n) (declared new) (PiecesAre rest outcome) after
      → Finds (language abi n) (declared old) (PiecesAre pieces (joined (told n) (map (handed_at n) rows) outcome)) after

module _ (abi : Abi) where
  same_joined : (outcome : Outcome (List Told)) → joined [] [] outcome ≡ outcome
  same_joined (Passes told handed) = refl
  same_joined (Refused first) = refl

  -- before any part
  pub awaits_all : (pieces : List Piece) (context : Context) → Awaits abi pieces (λ n. []) context context pieces
  awaits_all pieces context = record {
    rows = [];
    handed = sym (append-nil context.handed);
    grows = grows_same context;
    goes = λ n agrees outcome after found.
        subst (λ (o : Outcome (List Told)). Finds (language abi n) (declared context) (PiecesAre pieces o) after) (sym (same_joined outcome)) found;
  }

  -- one more part passes
  next_goes : (n : Numbering) (piece : Piece) (rest : List Piece) (before middle after : Declared) (told : Told) (handed : List Handed) (outcome : Outcome (List Told))
      → Finds (language abi n) before (PieceIs piece (Passes told handed)) middle
      → Finds (language abi n) middle (PiecesAre rest outcome) after
      → Finds (language abi n) before (PiecesAre (piece ∷ rest) (joined (told ∷ []) handed outcome)) after
  next_goes n piece rest before middle after told handed (Passes found further) first others_found = MorePieces first others_found
  next_goes n piece rest before middle after told handed (Refused broken) first others_found = RefusedBehind first others_found

  joined_twice : (told others_told : List Told) (handed further : List Handed) (outcome : Outcome (List Told))
      → joined told handed (joined others_told further outcome) ≡ joined (told ++ others_told) (handed ++ further) outcome
  joined_twice told others_told handed further (Passes last behind_it) =
      λ i. Passes (sym (append_assoc told others_told last) i) (sym (append_assoc handed further behind_it) i)
  joined_twice told others_told handed further (Refused first) = refl

  pub awaits_next : {B : Type 0} (reading : Reading B Told) (pieces : List Piece) (told : Numbering → List Told) (old mid new : Context) (piece : Piece) (rest : List Piece) (one : B)
      → Awaits abi pieces told old mid (piece ∷ rest) → Passed (Says abi (λ o. PieceIs piece o)) reading mid new one
      → Awaits abi pieces (λ n. told n ++ reading.means n one ∷ []) old new rest
  awaits_next reading pieces told old mid new piece rest one awaits passed = record {
    rows = awaits.rows ++ passed.rows;
    handed = handed_behind old.handed mid.handed new.handed awaits.rows passed.rows awaits.handed passed.handed;
    grows = grows_trans old mid new awaits.grows passed.grows;
    goes = λ n agrees outcome after found.
        let before : Agrees n mid = agrees_before mid new n passed.grows agrees in
        let whole = awaits.goes n before (joined (reading.means n one ∷ []) (map (handed_at n) passed.rows) outcome) after
        (next_goes n piece rest (declared mid) (declared new) after (reading.means n one) (map (handed_at n) passed.rows) outcome (passed.found n agrees) found) in
        let twice = joined_twice (told n) (reading.means n one ∷ []) (map (handed_at n) awaits.rows) (map (handed_at n) passed.rows) outcome in
        let rows = ap (λ (handed : List Handed). joined (told n ++ reading.means n one ∷ []) handed outcome) (sym (map-append (handed_at n) awaits.rows passed.rows)) in
        subst (λ (o : Outcome (List Told)). Finds (language abi n) (declared old) (PiecesAre pieces o) after) (twice ∙ rows) whole;
  }

  -- one more part is refused
  pub awaits_refused : (pieces : List Piece) (told : Numbering → List Told) (old mid new : Context) (piece : Piece) (rest : List Piece) (first : Fault)
      → Awaits abi pieces told old mid (piece ∷ rest) → Stopped (Says abi (λ o. PieceIs piece o)) mid new first
      → Stopped (Says abi (λ o. PiecesAre pieces o)) old new first
  awaits_refused pieces told old mid new piece rest first awaits stopped = record {
    grows = grows_trans old mid new awaits.grows stopped.grows;
    found = λ n agrees. awaits.goes n (agrees_before mid new n stopped.grows agrees) (Refused first) (declared new) (RefusedHere (stopped.found n agrees));
  }

  -- behind the last part
  pub awaits_nothing : {B : Type 0} (reading : Reading B (List Told)) (pieces : List Piece) (told : Numbering → List Told) (old new : Context) (all : B)
      → ((n : Numbering) → reading.means n all ≡ told n) → reading.IsBelow (length new.types) all
      → Awaits abi pieces told old new [] → Passed (Says abi (λ o. PiecesAre pieces o)) reading old new all
  awaits_nothing reading pieces told old new all means below awaits = record {
    rows = awaits.rows;
    handed = awaits.handed;
    grows = awaits.grows;
    below = below;
    found = λ n agrees.
        let whole = awaits.goes n agrees (Passes [] []) (declared new) NoPieces in
        let same : Passes (told n ++ []) (map (handed_at n) awaits.rows ++ []) ≡ Passes (reading.means n all) (map (handed_at n) awaits.rows) =
        λ i. Passes ((append-nil (told n) ∙ sym (means n)) i) (append-nil (map (handed_at n) awaits.rows) i) in
        subst (λ (o : Outcome (List Told)). Finds (language abi n) (declared old) (PiecesAre pieces o) (declared new)) same whole;
  }

-- a form as code reads it
pub form_alike : (abi : Abi) (number : ℕ) (place : Place) (first second : Form) (old new : Context) (r : Result (Found KnownByNumber) NoMemory) → first ≡ second
    → IfOk r (λ found. Walked (SaysForm abi number place first) an_expression old new found) → IfOk r (λ found. Walked (SaysForm abi number place second) an_expression old new found)
form_alike abi number place first second old new r is walked =
    subst (λ (form : Form). IfOk r (λ found. Walked (SaysForm abi number place form) an_expression old new found)) is walked
