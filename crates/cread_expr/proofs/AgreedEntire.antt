-- Readers behind which more has to follow: a tree behind which they stopped is none.
use Rattle.std.proofs.Common.{◌≡◌, ℕ, false, List, refl, ap, sym, ◌∙◌, arith}
use Rattle.cevents.specs.Building.{built}
use Rattle.cevents.specs.declared.event.Event.{Event}
use Rattle.cevents.specs.declared.piece.Piece.{Piece}
use Rattle.cgrammar.specs.Outcomes.{Outcome, Reader, then_read}
use Rattle.cgrammar.specs.Outcomes as outcome
use Rattle.cgrammar.specs.Phrases.{Context}
use Rattle.cgrammar.specs.Terminals.{Terminal}
use Rattle.cparser.specs.State.{State, rest, is_going, goes, lost}
use Rattle.cparser.specs.Steps.{Inner, whole, write, ask, ask_whole}
use Rattle.cparser.specs.declared.status.Status.{Status}
use Rattle.cparser.specs.declared.status.Status.TheVariants.{Going, Stopped}
use Rattle.cparser.specs.declared.wanted.Wanted.{Wanted}
use Rattle.cread_expr.proofs.Agreed.{shop, Pieces, Kept, Ended, Agreed, Reads, Follows, Continues, ends, anyhow, context_of}
use Rattle.cread_expr.proofs.AgreedRules.{agreed_read, agreed_failed, agreed_lost, agreed_halted, agreed_at, ask_anyhow}
use Rattle.cread_expr.proofs.AgreedSteps.{kept_ended, kept_went, failed_then, if_going, if_idle, still_lost, still_write, ended_levels, ended_then, halted_then, ended_write}

abbrev pub entire : {A : Type 0} → Outcome A → Outcome A
entire outcome.Nothing = outcome.Nothing
entire (outcome.Stopped tree expressions others) = outcome.Nothing
entire (outcome.Read tree levels behind others) = outcome.Read tree levels behind others

abbrev pub entirely : {A : Type 0} → Reader A → Reader A
entirely reader context row = entire (reader context row)

pub entire_then : {A B : Type 0} (outcome : Outcome A) (go : A → ℕ → Context → List Terminal → Outcome B) → then_read outcome go ≡ then_read (entire outcome) go
entire_then outcome.Nothing go = refl
entire_then (outcome.Stopped tree expressions others) go = refl
entire_then (outcome.Read tree levels behind others) go = refl

-- behind a part that is read from there on
pub agreed_then : {A : Type 0} {s t u : State} {below lower : Pieces} {upper : A → Pieces} {holds : A → State → Type 0} {base before : ℕ} {context : Context} {row : List Terminal} {given : Outcome A} (under : Pieces)
    → Ended s t below (λ pieces. lower (under pieces)) base 0 before context row
    → Agreed lower upper holds t.levels context.expressions given t u
    → Agreed below (λ tree pieces. upper tree (under pieces)) holds base before given s u
agreed_then {A} {s} {t} {u} {below} {lower} {upper} {holds} {base} {before} {context} {row} {given} under far is = case given is
  where
    case : (outcome : Outcome A) → Agreed lower upper holds t.levels context.expressions outcome t u → Agreed below (λ tree pieces. upper tree (under pieces)) holds base before outcome s u
    case outcome.Nothing is = agreed_failed (failed_then (kept_ended far) is.is)
    case (outcome.Stopped tree expressions others) is = agreed_halted (halted_then under far is.is.0) is.is.1
    case (outcome.Read tree levels behind others) is = agreed_read (ended_levels (omega arith) (ended_then under far is.is.0)) is.is.1

-- a reader that never stops is entire
pub entirely_ends : {A : Type 0} {lower : Pieces} {upper : A → Pieces} (reader : Reader A) (steps : State → State)
    → Continues lower upper ends reader steps → Continues lower upper ends (entirely reader) steps
entirely_ends {A} {lower} {upper} reader steps agrees s before is = case (reader (context_of s before) (rest s)) (agrees s before is)
  where
    case : (outcome : Outcome A) → Agreed lower upper ends s.levels before outcome s (steps s) → Agreed lower upper ends s.levels before (entire outcome) s (steps s)
    case outcome.Nothing is = is
    case (outcome.Stopped tree expressions others) is = let wrong : Stopped ≡ Going = sym is.is.0.status ∙ is.is.1 in cc wrong
    case (outcome.Read tree levels behind others) is = is

pub entirely_whole : {A : Type 0} {lower : Pieces} {upper : A → Pieces} {holds : A → State → Type 0} (reader : Reader A) (steps : State → State)
    → Continues lower upper holds reader steps → Continues lower upper ends (entirely reader) (λ s. whole (steps s))
unfolding whole
entirely_whole {A} {lower} {upper} {holds} reader steps agrees s before is = case (reader (context_of s before) (rest s)) (agrees s before is)
  where
    losing : goes (steps s) ≡ false → Kept s (steps s) → Agreed lower upper ends s.levels before outcome.Nothing s (whole (steps s))
    losing idle kept = agreed_at (if_idle (steps s) (lost (steps s)) (steps s) idle) (agreed_failed (record { kept = record { row = kept.row; added = kept.added; events = kept.events }; status = refl }))

    case : (outcome : Outcome A) → Agreed lower upper holds s.levels before outcome s (steps s) → Agreed lower upper ends s.levels before (entire outcome) s (whole (steps s))
    case outcome.Nothing is = losing (ap (λ (status : Status). is_going status) is.is.status) is.is.kept
    case (outcome.Stopped tree expressions others) is = losing (ap (λ (status : Status). is_going status) is.is.0.status) (kept_went is.is.0.went)
    case (outcome.Read tree levels behind others) is = agreed_at (if_going (steps s) (lost (steps s)) (steps s) is.is.0.status) (agreed_read is.is.0 is.is.0.status)

-- what stands in a tree, where more has to follow
pub entirely_asked : {A : Type 0} {upper : A → Pieces} (reader : Reader A) (inner : Inner) (wanted : Wanted)
    → Reads upper anyhow reader (inner.reads wanted) → Follows upper ends (entirely reader) (ask_whole inner wanted)
unfolding ask_whole
entirely_asked reader inner wanted agrees = entirely_whole reader (ask inner wanted) (ask_anyhow reader inner wanted agrees)

-- a part of which something is made when it is read
pub agreed_write : {A : Type 0} {s u : State} {below : Pieces} {upper above : A → Pieces} {base before : ℕ} {given : Outcome A} (event : Event)
    → ((tree : A) (count : ℕ) (pieces : List Piece) → built s.row event count (upper tree pieces) ≡ shop count (above tree pieces))
    → Agreed below upper ends base before given s u → Agreed below above ends base before given s (write event u)
agreed_write {A} {s} {u} {below} {upper} {above} {base} {before} {given} event builds is = case given is
  where
    case : (outcome : Outcome A) → Agreed below upper ends base before outcome s u → Agreed below above ends base before outcome s (write event u)
    case outcome.Nothing is = agreed_lost is.is (still_write event still_lost)
    case (outcome.Stopped tree expressions others) is = let wrong : Stopped ≡ Going = sym is.is.0.status ∙ is.is.1 in cc wrong
    case (outcome.Read tree levels behind others) is =
        let far = ended_write event (λ pieces. builds tree behind.expressions pieces) is.is.0 in
        agreed_read far far.status
