-- Of items that are read and checked one behind the other one answer is true at most.
use Rattle.std.proofs.Common.{◌≡◌, List, ◌∷◌, ◌++◌, refl, ap, sym, ◌∙◌, subst}
use Rattle.cbase.specs.declared.tree.item.Item.{Item}
use Rattle.cgrammar.specs.Phrases.{Context}
use Rattle.cread.specs.ItemsRead.{IsItemRead}
use Rattle.cread.proofs.UnreadItems.{one_read, one_unread, read_or_unread}
use Rattle.ctokens.specs.declared.item_span.ItemSpan.{ItemSpan}
use Rattle.ctokens.specs.declared.token.Tokens.{Tokens}
use Rattle.typing.specs.declared.fault.Fault.{Fault}
use Rattle.typing.specs.FileScope.{FileScope}
use Rattle.typing.specs.Language.{Language}
use Rattle.typing.specs.Outcomes.{Handed, Outcome, Passes, Refused}
use Rattle.typing.proofs.OneItem.{one_item}
use Rattle.ccheck.specs.declared.refusal.Refusal.{Refusal}
use Rattle.ccheck.specs.Refusals.{of_fault, of_unread, place_at}
use Rattle.ccheck.specs.Walk.{ArePassing, FindsItem, HaveOneAnswer, IsFirstRefused, NoItem, OneItem, NotRead, Broken, Later}

module _ (t : Tokens) (l : Language) (file : FileScope l) where
  -- an item that is read is found one thing of
  one_found : (span : ItemSpan) (before middle second : Context) (env inside outside : l.Environment) (item other : Item) (first next : Outcome (Unit {0}))
      → IsItemRead t span.first span.after before item middle → IsItemRead t span.first span.after before other second
      → FindsItem t l file span env item first inside → FindsItem t l file span env other next outside
      → (item ≡ other) × (middle ≡ second) × (first ≡ next) × (inside ≡ outside)
  one_found span before middle second env inside outside item other first next read also found too =
      let (same, behind) = one_read t span.first span.after before middle second item other read also in
      let (outcome, after) = (one_item l file).one env (place_at t span.first) other first next inside outside
      (subst (λ (one : Item). FindsItem t l file span env one first inside) same found) too in
      (same, behind, outcome, after)

  one_handed : (first next : List Handed) → ◌≡◌ {A = Outcome (Unit {0})} (Passes tt first) (Passes tt next) → first ≡ next
  one_handed first next same = cc

  one_fault : (first next : Fault) → ◌≡◌ {A = Outcome (Unit {0})} (Refused first) (Refused next) → first ≡ next
  one_fault first next same = cc

  passes_or_not : (handed : List Handed) (fault : Fault) → ◌≡◌ {A = Outcome (Unit {0})} (Passes tt handed) (Refused fault) → ⊥
  passes_or_not handed fault same = cc

  one_program : (spans : List ItemSpan) (before after behind : Context) (env inside outside : l.Environment) (items others : List Item) (handed told : List Handed)
      → ArePassing t l file spans before env items handed after inside → ArePassing t l file spans before env others told behind outside
      → (items ≡ others) × (handed ≡ told) × (inside ≡ outside)
  one_program _ _ _ _ _ _ _ _ _ _ _ NoItem NoItem = (refl, refl, refl)
  one_program _ before after behind env inside outside _ _ _ _ (OneItem {middle} {inside = within} {span} {spans} {item} {items} {handed} {further} read found rest all)
      (OneItem {middle = second} {inside = around} {item = other} {items = others} {handed = told} {further = more} also too left whole) =
      let (same, next, outcome, env_same) = one_found span before middle second env within around item other (Passes tt handed) (Passes tt told) read also found too in
      let (tail, rows, last) = one_program spans second after behind around inside outside items others further more
      (subst (λ (e : l.Environment). ArePassing t l file spans second e items further after inside) env_same
      (subst (λ (context : Context). ArePassing t l file spans context within items further after inside) next rest)) left in
      (λ i. same i ∷ tail i, sym all ∙ ((λ i. one_handed handed told outcome i ++ rows i) ∙ whole), last)

  never_both : (spans : List ItemSpan) (before after : Context) (env inside outside : l.Environment) (items : List Item) (handed : List Handed) (refusal : Refusal)
      → ArePassing t l file spans before env items handed after inside → IsFirstRefused t l file spans before env refusal outside → ⊥
  never_both _ _ _ _ _ _ _ _ _ NoItem refused = elim refused [ ]
  never_both _ before _ env _ _ _ _ refusal (OneItem {middle} {span} {item} read found rest all) (NotRead unread stops is) =
      read_or_unread t span.first span.after before middle item unread read stops
  never_both _ before _ env _ outside _ _ refusal (OneItem {middle} {inside = within} {span} {item} {handed} read found rest all) (Broken {middle = second} {item = other} {fault} also too is) =
      let (same, next, outcome, env_same) = one_found span before middle second env within outside item other (Passes tt handed) (Refused fault) read also found too in
      passes_or_not handed fault outcome
  never_both _ before after env inside outside _ _ refusal (OneItem {middle} {inside = within} {span} {spans} {item} {items} {handed} {further} read found rest all)
      (Later {middle = second} {inside = around} {item = other} {handed = told} also too more) =
      let (same, next, outcome, env_same) = one_found span before middle second env within around item other (Passes tt handed) (Passes tt told) read also found too in
      never_both spans second after around inside outside items further refusal
      (subst (λ (e : l.Environment). ArePassing t l file spans second e items further after inside) env_same
      (subst (λ (context : Context). ArePassing t l file spans context within items further after inside) next rest)) more

  one_refusal : (spans : List ItemSpan) (before : Context) (env inside outside : l.Environment) (refusal other : Refusal)
      → IsFirstRefused t l file spans before env refusal inside → IsFirstRefused t l file spans before env other outside → refusal ≡ other
  one_refusal _ before env _ _ refusal other (NotRead {span} unread stops is) (NotRead second also is2) =
      sym is ∙ (ap of_unread (one_unread t span.first span.after before unread second stops also) ∙ is2)
  one_refusal _ before env _ _ refusal other (NotRead {span} unread stops is) (Broken {middle} {item} read found is2) =
      absurd (read_or_unread t span.first span.after before middle item unread read stops)
  one_refusal _ before env _ _ refusal other (NotRead {span} unread stops is) (Later {middle} {item} read found rest) =
      absurd (read_or_unread t span.first span.after before middle item unread read stops)
  one_refusal _ before env _ _ refusal other (Broken {middle} {span} {item} read found is) (NotRead unread stops is2) =
      absurd (read_or_unread t span.first span.after before middle item unread read stops)
  one_refusal _ before env inside outside refusal other (Broken {middle} {span} {item} {fault} read found is) (Broken {middle = second} {item = another} {fault = next} also too is2) =
      let (same, middles, outcome, env_same) = one_found span before middle second env inside outside item another (Refused fault) (Refused next) read also found too in
      sym is ∙ (ap (of_fault t) (one_fault fault next outcome) ∙ is2)
  one_refusal _ before env inside outside refusal other (Broken {middle} {span} {item} {fault} read found is) (Later {middle = second} {inside = around} {item = another} {handed} also too rest) =
      let (same, middles, outcome, env_same) = one_found span before second middle env around inside another item (Passes tt handed) (Refused fault) also read too found in
      absurd (passes_or_not handed fault outcome)
  one_refusal _ before env _ _ refusal other (Later {middle} {span} {item} read found rest) (NotRead unread stops is2) =
      absurd (read_or_unread t span.first span.after before middle item unread read stops)
  one_refusal _ before env inside outside refusal other (Later {middle} {inside = within} {span} {item} {handed} read found rest) (Broken {middle = second} {item = another} {fault} also too is2) =
      let (same, middles, outcome, env_same) = one_found span before middle second env within outside item another (Passes tt handed) (Refused fault) read also found too in
      absurd (passes_or_not handed fault outcome)
  one_refusal _ before env inside outside refusal other (Later {middle} {inside = within} {span} {spans} {item} {handed} read found rest) (Later {middle = second} {inside = around} {item = another} {handed = told} also too more) =
      let (same, middles, outcome, env_same) = one_found span before middle second env within around item another (Passes tt handed) (Passes tt told) read also found too in
      one_refusal spans second around inside outside refusal other
      (subst (λ (e : l.Environment). IsFirstRefused t l file spans second e refusal inside) env_same
      (subst (λ (context : Context). IsFirstRefused t l file spans context within refusal inside) middles rest)) more

pub one_answer : (l : Language) (file : FileScope l) → HaveOneAnswer l file
one_answer l file = record {
  one_program = λ t. one_program t l file;
  never_both = λ t. never_both t l file;
  one_refusal = λ t. one_refusal t l file;
}
