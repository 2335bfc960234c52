-- Loops that are turns of a recursion: `turned n` has so many turns left, and a turn goes on with what it is given.
use Rattle.std.specs.Prelude.{◌≡◌, ℕ, suc, ◌+◌, ◌-◌, ◌<◌, Bool, true, false, if◌then◌else◌}
use Rattle.std.proofs.Common.{sym, ap, ◌∙◌, arith, add-one}
use Rattle.cparser.specs.State.{State}

-- what a turn does that may go on
abbrev pub Turns : ((State → State) → State → State) → State → State → Bool → Type 0
Turns turn old new again = (go : State → State) → turn go old ≡ (if again then go new else new)

-- a recursion that is turns
abbrev pub IsTurned : (ℕ → State → State) → ((State → State) → State → State) → Type 0
IsTurned turned turn = (n : ℕ) (s : State) → turned (suc n) s ≡ turn (turned n) s

-- behind one turn
behind : (turned : ℕ → State → State) (turn : (State → State) → State → State) → IsTurned turned turn
    → (left : ℕ) (old new end : State) (again : Bool) → Turns turn old new again → turned (left + 1) old ≡ end
    → (if again then turned left new else new) ≡ end
behind turned turn is_turned left old new end again turns whole =
    sym (turns (turned left)) ∙ (sym (is_turned left old) ∙ (ap (λ (n : ℕ). turned n old) (sym (add-one left)) ∙ whole))

-- a turn that ends it
pub ends : (turned : ℕ → State → State) (turn : (State → State) → State → State) → IsTurned turned turn
    → (left : ℕ) (old new end : State) (again : Bool) → Turns turn old new again → again ≡ false → turned (left + 1) old ≡ end
    → new ≡ end
ends turned turn is_turned left old new end again turns stays whole =
    ap (λ (b : Bool). if b then turned left new else new) (sym stays) ∙ behind turned turn is_turned left old new end again turns whole

-- the last turn
pub last : (turned : ℕ → State → State) (turn : (State → State) → State → State) → IsTurned turned turn
    → (left : ℕ) (old new end : State) (again : Bool) → Turns turn old new again → again ≡ true → left ≡ 0 → turned (left + 1) old ≡ end
    → turned 0 new ≡ end
last turned turn is_turned left old new end again turns went none whole =
    ap (λ (n : ℕ). turned n new) (sym none)
    ∙ (ap (λ (b : Bool). if b then turned left new else new) (sym went) ∙ behind turned turn is_turned left old new end again turns whole)

-- a turn that goes on
pub goes_on : (turned : ℕ → State → State) (turn : (State → State) → State → State) → IsTurned turned turn
    → (left : ℕ) (old new end : State) (again : Bool) → Turns turn old new again → again ≡ true → 0 < left → turned (left + 1) old ≡ end
    → turned (left - 1 + 1) new ≡ end
goes_on turned turn is_turned left old new end again turns went some whole =
    let same : left - 1 + 1 ≡ left = omega arith in
    ap (λ (n : ℕ). turned n new) same
    ∙ (ap (λ (b : Bool). if b then turned left new else new) (sym went) ∙ behind turned turn is_turned left old new end again turns whole)
