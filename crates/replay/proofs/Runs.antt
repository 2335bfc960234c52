-- What a run comes to is answered of it.
use Rattle.std.proofs.Common.{◌≡◌, ℕ, Bool, IfSome, List, Option, Some, ap, sym, ◌∙◌, subst}
use Rattle.cbase.specs.declared.tree.item.Item.{Item}
use Rattle.choices.specs.declared.choice.Choice.{Choice}
use Rattle.ctokens.specs.declared.token.Tokens.{Tokens}
use Rattle.expressions.specs.Context.{Context}
use Rattle.expressions.specs.Numbers.{Numbering}
use Rattle.c_machine.specs.Program.{Program}
use Rattle.c_machine.specs.Run.{run_of}
use Rattle.c_machine.specs.State.{StateIn}
use Rattle.c_machine.specs.Trees.{text_of}
use Rattle.c_text.specs.Stands.{StandsFor}
use Rattle.c_steps.specs.ComesTo.{comes_to}
use Rattle.c_steps.specs.declared.outcome.Outcome.{Outcome}
use Rattle.report.specs.declared.replay_answer.Replayed.{Replayed}
use Rattle.replay.specs.Program.{what_of}

pub text_kept : (found : Option Context) (text context : Context) → found ≡ Some text → IfSome found (λ kept. kept ≡ context) → text ≡ context
text_kept found text context is kept = subst (λ (o : Option Context). IfSome o (λ kept. kept ≡ context)) is kept

pub run_told : (t : Tokens) (text : Context) (items slice : List Item) (strict : Bool) (choices : List Choice) (steps : ℕ) (outcome : Outcome) (what : Replayed)
    → slice ≡ items
    → ((n : Numbering) (p : Program) → StandsFor n text p → p.items ≡ slice → p.strict ≡ strict
    → (state : StateIn (text_of p)) × (rest : List Choice) × (run_of (text_of p) choices steps ≡ comes_to outcome state rest))
    → ((p : Program) (state : StateIn (text_of p)) (rest : List Choice) → what_of t (comes_to outcome state rest) ≡ what)
    → (n : Numbering) (p : Program) → StandsFor n text p → p.items ≡ items → p.strict ≡ strict
    → what_of t (run_of (text_of p) choices steps) ≡ what
run_told t text items slice strict choices steps outcome what trees runs told n p stands is_items same =
    let (state, rest, is) = runs n p stands (is_items ∙ sym trees) same in
    ap (what_of t) is ∙ told p state rest
