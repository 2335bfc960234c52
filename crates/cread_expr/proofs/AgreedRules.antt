-- How a rule of the reader agrees: a step of the rule for each part of its definition.
use Rattle.std.proofs.Common.{◌≡◌, ℕ, max, Bool, true, false, List, [], ◌∷◌, refl, ap, sym, ◌∙◌, subst, arith}
use Rattle.std.specs.Prelude.{if◌then◌else◌}
use Rattle.cgrammar.specs.Outcomes.{Outcome, Reader, then_read, after_first, after_mark, has_first}
use Rattle.cgrammar.specs.Outcomes as outcome
use Rattle.cgrammar.specs.Phrases.{Context}
use Rattle.cgrammar.specs.Scope.{Names}
use Rattle.cgrammar.specs.Terminals.{Terminal, is_mark, is_word}
use Rattle.cparser.specs.State.{State, rest, is_going, goes, with_levels, skipped, lost}
use Rattle.cparser.specs.Steps.{Inner, over, mark, word, whole, with_deeper, ask, ask_whole}
use Rattle.cparser.specs.declared.status.Status.{Status}
use Rattle.cparser.specs.declared.status.Status.TheVariants.{Going, Stopped, Nothing}
use Rattle.cparser.specs.declared.wanted.Wanted.{Wanted}
use Rattle.ctokens.proofs.Choices.{chosen_yes, chosen_no}
use Rattle.cread_expr.proofs.Agreed.{Pieces, none, Kept, Went, Failed, Halted, Ended, Agreed, Reads, Follows, Continues, ends, anyhow, context_of}
use Rattle.cread_expr.proofs.AgreedSteps.{kept_then, kept_went, kept_ended, failed_then, if_going, if_idle, Still, ready, ended_at, ended_then, ended_skip}

-- The outcomes.
pub agreed_read : {A : Type 0} {s t : State} {below : Pieces} {above : A → Pieces} {fits : A → State → Type 0} {base levels before : ℕ} {behind : Context} {others : List Terminal} {tree : A}
    → Ended s t below (above tree) base levels before behind others → fits tree t → Agreed below above fits base before (outcome.Read tree levels behind others) s t
agreed_read far fits = record { is = (far, fits) }

pub agreed_failed : {A : Type 0} {s t : State} {below : Pieces} {above : A → Pieces} {fits : A → State → Type 0} {base before : ℕ}
    → Failed s t → Agreed below above fits base before outcome.Nothing s t
agreed_failed failed = record { is = failed }

pub agreed_halted : {A : Type 0} {s t : State} {below : Pieces} {above : A → Pieces} {fits : A → State → Type 0} {base before after : ℕ} {others : List Terminal} {tree : A}
    → Halted s t below (above tree) before after others → fits tree t → Agreed below above fits base before (outcome.Stopped tree after others) s t
agreed_halted halted fits = record { is = (halted, fits) }

pub agreed_at : {A : Type 0} {s t u : State} {below : Pieces} {above : A → Pieces} {fits : A → State → Type 0} {base before : ℕ} {outcome : Outcome A}
    → u ≡ t → Agreed below above fits base before outcome s t → Agreed below above fits base before outcome s u
agreed_at {s} {t} {u} {below} {above} {fits} {base} {before} {outcome} same is = subst (λ (v : State). Agreed below above fits base before outcome s v) (sym same) is

pub agreed_outcome : {A : Type 0} {s t : State} {below : Pieces} {above : A → Pieces} {fits : A → State → Type 0} {base before : ℕ} {one other : Outcome A}
    → one ≡ other → Agreed below above fits base before other s t → Agreed below above fits base before one s t
agreed_outcome {s} {t} {below} {above} {fits} {base} {before} {one} {other} same is = subst (λ o. Agreed below above fits base before o s t) (sym same) is

-- where the reader goes on
pub agreed_goes : {A : Type 0} {s u : State} {below : Pieces} {above : A → Pieces} {fits : A → State → Type 0} {base before : ℕ} {outcome : Outcome A} (t other : State)
    → t.status ≡ Going → Agreed below above fits base before outcome s u → Agreed below above fits base before outcome s (if goes t then u else other)
agreed_goes {u} t other going is = agreed_at (if_going u other t going) is

-- where nothing is read, and the steps to come do nothing
pub agreed_lost : {A : Type 0} {s u v : State} {below : Pieces} {above : A → Pieces} {fits : A → State → Type 0} {base before : ℕ}
    → Failed s u → Still Nothing u v → Agreed below above fits base before outcome.Nothing s v
agreed_lost failed still = agreed_at (still.same failed.status) (agreed_failed failed)

-- tests
pub agreed_test : {A : Type 0} {s u v : State} {below : Pieces} {above : A → Pieces} {fits : A → State → Type 0} {base before : ℕ} (test same : Bool) (one other : Outcome A)
    → same ≡ test
    → (test ≡ true → Agreed below above fits base before one s u) → (test ≡ false → Agreed below above fits base before other s v)
    → Agreed below above fits base before (if test then one else other) s (if same then u else v)
agreed_test true same one other is holds fails = agreed_at (chosen_yes same _ _ is) (holds refl)
agreed_test false same one other is holds fails = agreed_at (chosen_no same _ _ is) (fails refl)

-- what stands first in the row is what the reader sees
pub same_first : {s t : State} {below above : Pieces} {base levels before : ℕ} {behind : Context} {others : List Terminal} (test : Terminal → Bool)
    → Ended s t below above base levels before behind others → has_first test (rest t) ≡ has_first test others
same_first test far = ap (λ (row : List Terminal). has_first test row) far.left

-- A part that is read from there on.
pub from_there : {A : Type 0} {s t u : State} {below middle lower : Pieces} {above : A → Pieces} {fits : A → State → Type 0} {base levels before : ℕ} {context : Context} {row : List Terminal} (reader : Reader A)
    → Ended s t below middle base levels before context row
    → Agreed lower above fits t.levels context.expressions (reader (context_of t context.expressions) (rest t)) t u
    → Agreed lower above fits t.levels context.expressions (reader context row) t u
from_there {t} {u} {lower} {above} {fits} {context} reader far agreed =
    subst (λ (left : List Terminal). Agreed lower above fits t.levels context.expressions (reader context left) t u) far.left
    (subst (λ (scope : List Names). Agreed lower above fits t.levels context.expressions (reader (record { scope = scope; expressions = context.expressions }) (rest t)) t u) far.scope
    agreed)

pub from_here : {A : Type 0} {s t : State} {below middle lower : Pieces} {above : A → Pieces} {fits : A → State → Type 0} {base levels before : ℕ} {context : Context} {row : List Terminal} (reader : Reader A) (steps : State → State)
    → Ended s t below middle base levels before context row → Continues lower above fits reader steps
    → Agreed lower above fits t.levels context.expressions (reader context row) t (steps t)
from_here {t} {context} reader steps far agrees = from_there reader far (agrees t context.expressions (ready far))

-- what stands in a tree: its levels count among those of the other parts
pub ask_follows : {A : Type 0} {above : A → Pieces} {fits : A → State → Type 0} (reader : Reader A) (inner : Inner) (wanted : Wanted)
    → ((tree : A) (t : State) (levels : ℕ) → fits tree t → fits tree (with_levels levels t))
    → Reads above fits reader (inner.reads wanted) → Follows above fits reader (ask inner wanted)
unfolding ask
ask_follows {A} {above} {fits} reader inner wanted more agrees s before is =
    agreed_at (if_going _ s s is.status)
    (case (reader (context_of s before) (rest s)) (inner.reads wanted (with_levels 0 s))
    (agrees (with_levels 0 s) before (record { status = is.status; inside = is.inside }) refl))
  where
    went : {above : Pieces} {after : ℕ} (u : State) → Went (with_levels 0 s) u none above before after → Went s (with_deeper s.levels u) none above before after
    went u one = record { row = one.row; added = one.added; events = one.events; builds = one.builds }

    case : (outcome : Outcome A) (u : State) → Agreed none above fits 0 before outcome (with_levels 0 s) u → Agreed none above fits s.levels before outcome s (with_deeper s.levels u)
    case outcome.Nothing u is = record { is = record { kept = record { row = is.is.kept.row; added = is.is.kept.added; events = is.is.kept.events }; status = is.is.status } }
    case (outcome.Stopped tree expressions others) u is = record { is = (record { went = went u is.is.0.went; status = is.is.0.status; left = is.is.0.left }, more tree u _ is.is.1) }
    case (outcome.Read tree levels behind others) u is =
        let far = is.is.0 in
        record { is = (record { went = went u far.went; status = far.status; left = far.left; scope = far.scope; levels = omega (arith, far.levels); on = far.on; inside = far.inside }, more tree u _ is.is.1) }

pub ask_anyhow : {A : Type 0} {above : A → Pieces} (reader : Reader A) (inner : Inner) (wanted : Wanted)
    → Reads above anyhow reader (inner.reads wanted) → Follows above anyhow reader (ask inner wanted)
ask_anyhow reader inner wanted agrees = ask_follows reader inner wanted (λ tree t levels fits. tt) agrees

-- a part behind which more has to follow, and which is whole wherever it is read
pub then_ends : {A B : Type 0} {s t v : State} {below lower : Pieces} {upper : A → Pieces} {above : B → Pieces} {fits : B → State → Type 0} {base levels before : ℕ} {context : Context} {row : List Terminal}
    (under : Pieces) (reader : Reader A) (steps : State → State) (go : A → ℕ → Context → List Terminal → Outcome B)
    → Ended s t below (λ pieces. lower (under pieces)) base levels before context row
    → Continues lower upper ends reader steps
    → Still Nothing (steps t) v
    → ((tree : A) (more : ℕ) (behind : Context) (others : List Terminal) → Ended s (steps t) below (λ pieces. upper tree (under pieces)) base (max levels more) before behind others
    → Agreed below above fits base before (go tree more behind others) s v)
    → Agreed below above fits base before (then_read (reader context row) go) s v
then_ends {A} {s} {t} {v} {below} {lower} {upper} {above} {fits} {base} {levels} {before} {context} {row} under reader steps go far agrees still next =
    case (reader context row) (from_here reader steps far agrees)
  where
    case : (outcome : Outcome A) → Agreed lower upper ends t.levels context.expressions outcome t (steps t) → Agreed below above fits base before (then_read outcome go) s v
    case outcome.Nothing is = agreed_lost (failed_then (kept_ended far) is.is) still
    case (outcome.Stopped tree expressions others) is = let wrong : Stopped ≡ Going = sym is.is.0.status ∙ is.is.1 in cc wrong
    case (outcome.Read tree more behind others) is = next tree more behind others (ended_then under far is.is.0)

-- a part behind which more has to follow
pub then_whole : {A B : Type 0} {s t v : State} {below lower : Pieces} {upper : A → Pieces} {holds : A → State → Type 0} {above : B → Pieces} {fits : B → State → Type 0} {base levels before : ℕ} {context : Context} {row : List Terminal}
    (under : Pieces) (reader : Reader A) (steps : State → State) (go : A → ℕ → Context → List Terminal → Outcome B)
    → Ended s t below (λ pieces. lower (under pieces)) base levels before context row
    → Continues lower upper holds reader steps
    → Still Nothing (whole (steps t)) v
    → ((tree : A) (more : ℕ) (behind : Context) (others : List Terminal) → Ended s (whole (steps t)) below (λ pieces. upper tree (under pieces)) base (max levels more) before behind others
    → Agreed below above fits base before (go tree more behind others) s v)
    → Agreed below above fits base before (then_read (reader context row) go) s v
unfolding whole
then_whole {A} {s} {t} {v} {below} {lower} {upper} {holds} {above} {fits} {base} {levels} {before} {context} {row} under reader steps go far agrees still next =
    case (reader context row) (from_here reader steps far agrees)
  where
    losing : goes (steps t) ≡ false → Kept s (steps t) → Agreed below above fits base before outcome.Nothing s v
    losing idle kept =
        let same : whole (steps t) ≡ lost (steps t) = if_idle (steps t) (lost (steps t)) (steps t) idle in
        let nothing : (whole (steps t)).status ≡ Nothing = ap (λ (u : State). u.status) same in
        agreed_at (still.same nothing ∙ same) (agreed_failed (record { kept = record { row = kept.row; added = kept.added; events = kept.events }; status = refl }))

    case : (outcome : Outcome A) → Agreed lower upper holds t.levels context.expressions outcome t (steps t) → Agreed below above fits base before (then_read outcome go) s v
    case outcome.Nothing is = losing (ap (λ (status : Status). is_going status) is.is.status) (kept_then (kept_ended far) is.is.kept)
    case (outcome.Stopped tree expressions others) is = losing (ap (λ (status : Status). is_going status) is.is.0.status) (kept_then (kept_ended far) (kept_went is.is.0.went))
    case (outcome.Read tree more behind others) is =
        next tree more behind others (ended_at (if_going (steps t) (lost (steps t)) (steps t) is.is.0.status) (ended_then under far is.is.0))

-- what stands in a tree, where more has to follow
pub then_asked : {A B : Type 0} {s t v : State} {below : Pieces} {upper : A → Pieces} {above : B → Pieces} {fits : B → State → Type 0} {base levels before : ℕ} {context : Context} {row : List Terminal}
    (under : Pieces) (reader : Reader A) (inner : Inner) (wanted : Wanted) (go : A → ℕ → Context → List Terminal → Outcome B)
    → Ended s t below under base levels before context row
    → Reads upper anyhow reader (inner.reads wanted)
    → Still Nothing (ask_whole inner wanted t) v
    → ((tree : A) (more : ℕ) (behind : Context) (others : List Terminal) → Ended s (ask_whole inner wanted t) below (λ pieces. upper tree (under pieces)) base (max levels more) before behind others
    → Agreed below above fits base before (go tree more behind others) s v)
    → Agreed below above fits base before (then_read (reader context row) go) s v
unfolding ask_whole
then_asked under reader inner wanted go far agrees still next =
    then_whole under reader (ask inner wanted) go far (ask_anyhow reader inner wanted agrees) still next

-- a token that has to follow
pub then_first : {B : Type 0} {s t v : State} {below middle : Pieces} {above : B → Pieces} {fits : B → State → Type 0} {base levels before : ℕ} {context : Context}
    (test : Terminal → Bool) (row : List Terminal) (go : Terminal → List Terminal → Outcome B)
    → Ended s t below middle base levels before context row
    → Still Nothing (over test t) v
    → ((first : Terminal) (others : List Terminal) → test first ≡ true → Ended s t below middle base levels before context (first ∷ others) → Ended s (over test t) below middle base levels before context others
    → Agreed below above fits base before (go first others) s v)
    → Agreed below above fits base before (after_first test row outcome.Nothing go) s v
then_first {B} {s} {t} {v} {below} {middle} {above} {fits} {base} {levels} {before} {context} test row go far still next = case row far
  where
    losing : (row : List Terminal) → Ended s t below middle base levels before context row → has_first test row ≡ false → Agreed below above fits base before outcome.Nothing s v
    losing row far is =
        let same : over test t ≡ lost t = if_going _ t t far.status ∙ chosen_no (has_first test (rest t)) (skipped 1 t) (lost t) (same_first test far ∙ is) in
        let nothing : (over test t).status ≡ Nothing = ap (λ (u : State). u.status) same in
        let kept : Kept s t = kept_ended far in
        agreed_at (still.same nothing ∙ same) (agreed_failed (record { kept = record { row = kept.row; added = kept.added; events = kept.events }; status = refl }))

    tested : (first : Terminal) (others : List Terminal) (passes : Bool) → test first ≡ passes → Ended s t below middle base levels before context (first ∷ others)
        → Agreed below above fits base before (if passes then go first others else outcome.Nothing) s v
    tested first others true is far =
        let same : over test t ≡ skipped 1 t = if_going _ t t far.status ∙ chosen_yes (has_first test (rest t)) (skipped 1 t) (lost t) (same_first test far ∙ is) in
        next first others is far (ended_at same (ended_skip far))
    tested first others false is far = losing (first ∷ others) far is

    case : (row : List Terminal) → Ended s t below middle base levels before context row → Agreed below above fits base before (after_first test row outcome.Nothing go) s v
    case [] far = losing [] far refl
    case (first ∷ others) far = tested first others (test first) refl far

pub then_mark : {B : Type 0} {s t v : State} {below middle : Pieces} {above : B → Pieces} {fits : B → State → Type 0} {base levels before : ℕ} {context : Context}
    (bytes : List ℕ) (row : List Terminal) (go : Terminal → List Terminal → Outcome B)
    → Ended s t below middle base levels before context row
    → Still Nothing (mark bytes t) v
    → ((first : Terminal) (others : List Terminal) → is_mark bytes first ≡ true → Ended s t below middle base levels before context (first ∷ others) → Ended s (mark bytes t) below middle base levels before context others
    → Agreed below above fits base before (go first others) s v)
    → Agreed below above fits base before (after_mark bytes row outcome.Nothing go) s v
unfolding mark
then_mark bytes row go far still next = then_first (is_mark bytes) row go far still next

pub then_word : {B : Type 0} {s t v : State} {below middle : Pieces} {above : B → Pieces} {fits : B → State → Type 0} {base levels before : ℕ} {context : Context}
    (bytes : List ℕ) (row : List Terminal) (go : Terminal → List Terminal → Outcome B)
    → Ended s t below middle base levels before context row
    → Still Nothing (word bytes t) v
    → ((first : Terminal) (others : List Terminal) → is_word bytes first ≡ true → Ended s t below middle base levels before context (first ∷ others) → Ended s (word bytes t) below middle base levels before context others
    → Agreed below above fits base before (go first others) s v)
    → Agreed below above fits base before (after_first (is_word bytes) row outcome.Nothing go) s v
unfolding word
then_word bytes row go far still next = then_first (is_word bytes) row go far still next

-- a token that may follow, where the steps look before they go over it
pub if_first : {B : Type 0} {s t u v : State} {below middle : Pieces} {above : B → Pieces} {fits : B → State → Type 0} {base levels before : ℕ} {context : Context}
    (test : Terminal → Bool) (row : List Terminal) (without : Outcome B) (go : Terminal → List Terminal → Outcome B)
    → Ended s t below middle base levels before context row
    → (has_first test row ≡ false → Agreed below above fits base before without s v)
    → ((first : Terminal) (others : List Terminal) → test first ≡ true → Ended s t below middle base levels before context (first ∷ others) → Ended s (skipped 1 t) below middle base levels before context others
    → Agreed below above fits base before (go first others) s u)
    → Agreed below above fits base before (after_first test row without go) s (if has_first test (rest t) then u else v)
if_first {B} {s} {t} {u} {v} {below} {middle} {above} {fits} {base} {levels} {before} {context} test row without go far other next = case row far other
  where
    tested : (first : Terminal) (others : List Terminal) (passes : Bool) → test first ≡ passes → Ended s t below middle base levels before context (first ∷ others)
        → (passes ≡ false → Agreed below above fits base before without s v)
        → Agreed below above fits base before (if passes then go first others else without) s (if has_first test (rest t) then u else v)
    tested first others true is far other = agreed_at (chosen_yes (has_first test (rest t)) u v (same_first test far ∙ is)) (next first others is far (ended_skip far))
    tested first others false is far other = agreed_at (chosen_no (has_first test (rest t)) u v (same_first test far ∙ is)) (other refl)

    case : (row : List Terminal) → Ended s t below middle base levels before context row → (has_first test row ≡ false → Agreed below above fits base before without s v)
        → Agreed below above fits base before (after_first test row without go) s (if has_first test (rest t) then u else v)
    case [] far other = agreed_at (chosen_no (has_first test (rest t)) u v (same_first test far)) (other refl)
    case (first ∷ others) far other = tested first others (test first) refl far other
