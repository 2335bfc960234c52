-- Types with a storage word, and parameters.
use Rattle.std.proofs.Common.{◌≡◌, ℕ, ◌+◌, max, true, false, ◌&&◌, List, [], ◌∷◌, ◌++◌, length, codes, Option, None, Some, is_some, refl, ap, ◌∙◌, subst, arith}
use Rattle.std.specs.Prelude.{if◌then◌else◌}
use Rattle.cbase.specs.declared.tree.decl.Param.{Param}
use Rattle.cbase.specs.declared.tree.decl.Storage.{Storage}
use Rattle.cbase.specs.declared.tree.decl.Storage.TheVariants.{Plain}
use Rattle.cbase.specs.declared.tree.spec.TypeSpec.{TypeSpec}
use Rattle.cevents.specs.declared.event.Event.TheVariants as event
use Rattle.cevents.specs.declared.piece.Piece.TheVariants as piece
use Rattle.cgrammar.proofs.Truth.{and-right}
use Rattle.cgrammar.specs.Grammar.{inside}
use Rattle.cgrammar.specs.Outcomes.{Outcome, then_read}
use Rattle.cgrammar.specs.Outcomes as outcome
use Rattle.cgrammar.specs.Phrases.{Context}
use Rattle.cgrammar.specs.ReadDeclarations.{specifiers_of, storage_at, storage_behind, read_specifiers, read_parameter, is_void_alone, read_parameters}
use Rattle.cgrammar.specs.ReadDeclarations as reader
use Rattle.cgrammar.specs.ReadLevels.{Level, read_list}
use Rattle.cgrammar.specs.ReadTypes.{star_count, behind_stars, never}
use Rattle.cgrammar.specs.Terminals.{Terminal, is_mark, is_word, is_name}
use Rattle.cgrammar.specs.TokenReadings.{storage_of}
use Rattle.cgrammar.specs.Trees as tree
use Rattle.cgrammar.specs.declared.reading.specifiers.Specifiers.{Specifiers}
use Rattle.cparser.specs.DeclarationSteps.{over_storage, specifiers, storage_or_plain, storage_with, storage_read, parameter_behind, parameter_named, parameter, parameters_inside, parameters}
use Rattle.cparser.specs.DeclarationSteps as steps
use Rattle.cparser.specs.State.{State, rest, goes, is_going, skipped}
use Rattle.cparser.specs.Steps.{Inner, write, enter, all_parts}
use Rattle.cparser.specs.declared.status.Status.{Status}
use Rattle.cparser.specs.declared.status.Status.TheVariants.{Nothing}
use Rattle.cparser.specs.declared.wanted.Wanted.TheVariants as wanted
use Rattle.cread_expr.proofs.Agreed.{shop, Pieces, none, Ended, Agreed, Follows, Continues, ends, context_of, LevelAgrees}
use Rattle.cread_expr.proofs.AgreedLists.{still_both}
use Rattle.cread_expr.proofs.AgreedRules.{agreed_at, agreed_outcome, agreed_goes, agreed_test, if_first, then_asked, then_ends, then_mark}
use Rattle.cread_expr.proofs.AgreedSteps.{if_going, Still, still_lost, still_goes, still_mark, still_write, still_declare, still_enter, ended_at, ended_levels, ended_part, ended_skip, ended_token, ended_write, ended_enter, ended_declare}
use Rattle.cread_expr.proofs.AgreedTypesFields.{all_parts_agree}
use Rattle.cread_expr.proofs.AgreedTypesSizes.{read_ends, ended_over, ended_stars, if_behind, then_sizes}

pub then_both : {A B C : Type 0} (found : Outcome A) (go : A → ℕ → Context → List Terminal → Outcome B) (more : B → ℕ → Context → List Terminal → Outcome C)
    → then_read (then_read found go) more ≡ then_read found (λ tree levels behind others. then_read (go tree levels behind others) more)
then_both outcome.Nothing go more = refl
then_both (outcome.Stopped tree expressions others) go more = refl
then_both (outcome.Read tree levels behind others) go more = refl

still_more : {status : Status} {u v w : State} → Still status u v → Still status v w → Still status u w
still_more {status} {u} {v} {w} one other = record {
  idle = one.idle;
  same = λ is. let same : v ≡ u = one.same is in other.same (ap (λ (s : State). s.status) same ∙ is) ∙ same;
}

still_over_storage : {u v : State} → Still Nothing u v → Still Nothing u (over_storage v)
unfolding over_storage
still_over_storage still = still_both _ _ still

-- a storage word that may stand behind a type
storage_agrees : {B : Type 0} {s u v : State} {below middle : Pieces} {above : B → Pieces} {fits : B → State → Type 0} {base levels before : ℕ} {behind : Context}
    (type : TypeSpec) (more : ℕ) (others : List Terminal) (go : Specifiers → ℕ → Context → List Terminal → Outcome B)
    → Ended s u below middle base levels before behind others
    → ((storage : Storage) (row : List Terminal) → storage_or_plain (storage_at (rest u)) ≡ storage → Ended s (over_storage u) below middle base levels before behind row
    → Agreed below above fits base before (go (specifiers_of storage type) more behind row) s v)
    → Agreed below above fits base before (then_read (storage_behind type more behind others (storage_at others)) go) s v
unfolding over_storage
storage_agrees {u = u} type more [] go far next =
    next Plain [] (ap (λ (row : List Terminal). storage_or_plain (storage_at row)) far.left)
    (ended_at (λ i. if is_going (far.status i) && is_some (storage_at (far.left i)) then skipped 1 u else u) far)
storage_agrees {B} {s} {u} {v} {below} {middle} {above} {fits} {base} {levels} {before} {behind} type more (first ∷ others) go far next = case (storage_of first) refl
  where
    looked : (if goes u && is_some (storage_at (rest u)) then skipped 1 u else u) ≡ (if is_some (storage_of first) then skipped 1 u else u)
    looked = λ i. if is_going (far.status i) && is_some (storage_at (far.left i)) then skipped 1 u else u

    case : (found : Option Storage) → storage_of first ≡ found → Agreed below above fits base before (then_read (storage_behind type more behind (first ∷ others) found) go) s v
    case None is =
        next Plain (first ∷ others) (ap (λ (row : List Terminal). storage_or_plain (storage_at row)) far.left ∙ ap (λ (found : Option Storage). storage_or_plain found) is)
        (ended_at (looked ∙ ap (λ (found : Option Storage). if is_some found then skipped 1 u else u) is) far)
    case (Some storage) is =
        next storage others (ap (λ (row : List Terminal). storage_or_plain (storage_at row)) far.left ∙ ap (λ (found : Option Storage). storage_or_plain found) is)
        (ended_at (looked ∙ ap (λ (found : Option Storage). if is_some found then skipped 1 u else u) is) (ended_skip far))

-- a type, with a storage word before it where there is one
specifiers_with_agree : {level : Level} {inner : Inner} {B : Type 0} {s t v : State} {below under : Pieces} {above : B → Pieces} {fits : B → State → Type 0} {base levels before : ℕ} {context : Context}
    (row : List Terminal) (found : Option Storage) (go : Specifiers → ℕ → Context → List Terminal → Outcome B)
    → LevelAgrees level inner
    → Ended s t below under base levels before context row
    → (is_some found ≡ true → Ended s (skipped 1 t) below under base levels before context (outcome.behind_first row))
    → Still Nothing (steps.specifiers_with inner t found) v
    → ((type : TypeSpec) (storage : Storage) (more : ℕ) (behind : Context) (others : List Terminal) → storage_with inner t found ≡ storage
    → Ended s (steps.specifiers_with inner t found) below (λ pieces. piece.Type type ∷ under pieces) base (max levels more) before behind others
    → Agreed below above fits base before (go (specifiers_of storage type) more behind others) s v)
    → Agreed below above fits base before (then_read (reader.specifiers_with level context row found) go) s v
specifiers_with_agree {level} {inner} {t = t} {under = under} {context = context} row None go agrees far skips still next =
    agreed_outcome (then_both (level.specifier context row) _ go)
    (then_asked under level.specifier inner wanted.Specifier _ far agrees.specifier (still_more (still_over_storage still_lost) still) (λ type more behind others further.
    storage_agrees type more others go further (λ storage last same beyond. next type storage more behind last same beyond)))
specifiers_with_agree {level} {inner} {under = under} {context = context} row (Some storage) go agrees far skips still next =
    agreed_outcome (then_both (level.specifier context (outcome.behind_first row)) _ go)
    (then_asked under level.specifier inner wanted.Specifier _ (skips refl) agrees.specifier still (λ type more behind others further. next type storage more behind others refl further))

-- a type and its storage class
pub then_specifiers : {level : Level} {inner : Inner} {B : Type 0} {s t v : State} {below under : Pieces} {above : B → Pieces} {fits : B → State → Type 0} {base levels before : ℕ} {context : Context}
    (row : List Terminal) (go : Specifiers → ℕ → Context → List Terminal → Outcome B)
    → LevelAgrees level inner
    → Ended s t below under base levels before context row
    → Still Nothing (specifiers inner t) v
    → ((type : TypeSpec) (storage : Storage) (more : ℕ) (behind : Context) (others : List Terminal) → storage_read inner t ≡ storage
    → Ended s (specifiers inner t) below (λ pieces. piece.Type type ∷ under pieces) base (max levels more) before behind others
    → Agreed below above fits base before (go (specifiers_of storage type) more behind others) s v)
    → Agreed below above fits base before (then_read (read_specifiers level context row) go) s v
unfolding read_specifiers specifiers storage_read
then_specifiers {level} {inner} {B} {s} {t} {v} {below} {under} {above} {fits} {base} {levels} {before} {context} row go agrees far still next =
    specifiers_with_agree row (storage_at row) go agrees far (skips row far)
    (subst (λ (u : State). Still Nothing u v) steps_are still)
    (λ type storage more behind others same further. next type storage more behind others (read_is ∙ same) (ended_at steps_are further))
  where
    steps_are : (if goes t then steps.specifiers_with inner t (storage_at (rest t)) else t) ≡ steps.specifiers_with inner t (storage_at row)
    steps_are = if_going _ t t far.status ∙ ap (λ (row : List Terminal). steps.specifiers_with inner t (storage_at row)) far.left

    read_is : storage_with inner t (storage_at (rest t)) ≡ storage_with inner t (storage_at row)
    read_is = ap (λ (row : List Terminal). storage_with inner t (storage_at row)) far.left

    skips : (row : List Terminal) → Ended s t below under base levels before context row → is_some (storage_at row) ≡ true → Ended s (skipped 1 t) below under base levels before context (outcome.behind_first row)
    skips [] far is = cc is
    skips (first ∷ others) far is = ended_skip far

-- A parameter.
abbrev pub params_piece : List Param → Pieces
params_piece params pieces = piece.Parameters params ∷ pieces

parameter_named_agrees : {level : Level} {inner : Inner} {s t : State} {base more before : ℕ} {context : Context} (done : List Param) (type : TypeSpec) (stars : ℕ) (row : List Terminal) → LevelAgrees level inner
    → Ended s t (params_piece done) (λ pieces. piece.Type type ∷ (piece.Parameters done ∷ pieces)) base more before context row
    → Agreed (params_piece done) (λ param. params_piece (done ++ param ∷ [])) ends base before (reader.parameter_behind level type more stars context row) s (parameter_named inner stars t)
parameter_named_agrees {level} {inner} {s} {t} done type stars row agrees far =
    if_first is_name row _ _ far
    (λ none. then_sizes _ agrees far (still_write _ still_lost) (λ sizes levels behind others further.
    read_ends (ended_write (event.Parameter None stars) (λ pieces. refl) further)))
    (λ name others named at_name behind_name.
    then_sizes _ agrees behind_name (still_declare _ _ (still_write _ still_lost)) (λ sizes levels behind end further.
    read_ends (ended_declare t.at name.bytes false (λ i. (ended_token at_name i).bytes)
    (ended_write (event.Parameter (Some t.at) stars) (λ pieces i. shop behind.expressions (piece.Parameters (done ++ tree.parameter type stars (Some (tree.identifier (ended_token at_name i))) sizes ∷ []) ∷ pieces)) further))))

pub parameter_agrees : {level : Level} {inner : Inner} (done : List Param) → LevelAgrees level inner
    → Continues (params_piece done) (λ param. params_piece (done ++ param ∷ [])) ends (read_parameter level) (parameter inner)
unfolding read_parameter parameter parameter_behind
parameter_agrees {level} {inner} done agrees s before is =
    then_specifiers (rest s) _ agrees (ended_part s (params_piece done) before is) (still_goes _ still_lost) (λ type storage more behind others same far.
    agreed_goes (specifiers inner s) (specifiers inner s) far.status
    (agreed_at (ap (λ (row : List Terminal). parameter_named inner (star_count row) (skipped (star_count row) (specifiers inner s))) far.left)
    (parameter_named_agrees done type (star_count others) (behind_stars others) agrees (ended_levels (omega arith) (ended_stars far)))))

-- The parameters of a function, in a scope of their own.
pub still_parameters : {u v : State} (inner : Inner) → Still Nothing u v → Still Nothing u (parameters inner v)
unfolding parameters parameters_inside
still_parameters inner still = still_goes _ (still_enter (still_write _ still))

ended_void : {s t : State} {below above : Pieces} {base levels before : ℕ} {behind : Context} (row : List Terminal) → is_void_alone row ≡ true
    → Ended s t below above base levels before behind row → Ended s (skipped 2 t) below above base levels before behind (outcome.behind_first (outcome.behind_first row))
ended_void [] is far = cc is
ended_void (first ∷ []) is far = absurd (let wrong : false ≡ true = and-right (is_word (codes "void") first) false is in cc wrong)
ended_void (first ∷ (second ∷ others)) is far = ended_over 2 (omega arith) far

pub parameters_agree : {level : Level} {inner : Inner} → LevelAgrees level inner → Follows params_piece ends (read_parameters level) (parameters inner)
unfolding read_parameters parameters parameters_inside
parameters_agree {level} {inner} agrees s before is =
    let t : State = enter (write event.NoParameters s) in
    let far = ended_enter (ended_write {above = params_piece []} {after = before} event.NoParameters (λ pieces. refl) (ended_part s none before is)) in
    agreed_goes t t far.status
    (if_behind (is_mark (codes ")")) (rest s) (λ others. outcome.Read [] 0 (inside (context_of s before)) others) _ far
    (λ some. agreed_test (is_void_alone (rest s)) (is_void_alone (rest t)) _ _ (ap (λ (row : List Terminal). is_void_alone row) far.left)
    (λ void. read_ends (ended_void (rest s) void far))
    (λ params. then_ends none (λ context row. read_list never (read_parameter level) (length row + 1) context row) (all_parts never (parameter inner)) _ far
    (all_parts_agree params_piece never (read_parameter level) (parameter inner) (λ done. parameter_agrees done agrees)) (still_mark _ still_lost) (λ params levels behind others further.
    then_mark (codes ")") others _ further still_lost (λ closing end is at_closing behind_closing. read_ends (ended_levels (omega arith) behind_closing)))))
    (λ closing others is at_closing behind_closing. read_ends behind_closing))
