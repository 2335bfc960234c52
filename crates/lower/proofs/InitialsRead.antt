-- The scalar of a value, for each program that the source stands for.
use Rattle.std.proofs.Common.{◌≡◌, ℕ, Bool, true, false, List, [], ◌∷◌, ◌++◌, Option, None, Some, option_map, if◌then◌else◌, refl, sym, ap, subst, ◌∙◌}
use Rattle.bytes_core.specs.declared.word.Word.{Word}
use Rattle.cbase.specs.declared.place.Place.{Place}
use Rattle.cbase.specs.declared.tree.expr.Expr.{Expr}
use Rattle.c_machine.specs.Program.{Program}
use Rattle.c_machine.specs.Text.{Store as Stored}
use Rattle.c_machine.specs.Trees.{text_of}
use Rattle.c_machine.specs.Words.{scalar_bytes}
use Rattle.c_text.specs.Kept.{kept_store}
use Rattle.c_text.specs.declared.store.Store.{Store}
use Rattle.c_text.specs.Stands.{StandsFor}
use Rattle.expressions.specs.Context.{Context}
use Rattle.expressions.specs.Numbers.{Numbering}
use Rattle.flow.specs.declared.flow_graph.Initial.{Initial}
use Rattle.simulation.specs.Names.{Name, variable_in}
use Rattle.lower.specs.Sets.{AddsInitials}
use Rattle.lowering.specs.Initials.{scalar_by, set_initial}
use Rattle.lowering.specs.Known.{known_word, word_as}
use Rattle.lowering.specs.Source.{Source, IsSource}
use Rattle.lowering.specs.Words.{IsWord, As}
use Rattle.lower.proofs.InitialisersLead.{no_store, some_store}

module _ (source : Source) (own : Context) (same : own ≡ source.context) (statics : List Name) (place : Place) (value : Expr) (p : Program) (reads : IsSource source p) where
  abbrev Tells : Option Store → Type 0
  Tells told = (n : Numbering) (p : Program) → StandsFor n own p → Some told ≡ kept_store ((text_of p).store place value)

  by_own : (told : Option Store) → Tells told → Some told ≡ kept_store ((text_of p).store place value)
  by_own told is = is reads.reads.0 p (subst (λ (context : Context). StandsFor reads.reads.0 context p) (sym same) reads.reads.1)

  pub value_fails : (before after : List Initial) → Tells None → AddsInitials before (set_initial (text_of p) statics place value ((text_of p).store place value)) false after
  value_fails before after is =
      ap (λ (found : Option Stored). option_map (λ (more : List Initial). before ++ more) (set_initial (text_of p) statics place value found))
      (no_store ((text_of p).store place value) (by_own None is))

  pub value_added : (before after : List Initial) (stored : Store) (variable : Option ℕ) (token : ℕ) (bytes : Option ℕ) (word : Option Word) (whole : Bool) → Tells (Some stored) →
      variable ≡ variable_in statics token → ((n : Numbering) (p : Program) → StandsFor n own p → token ≡ (text_of p).token place) → bytes ≡ scalar_bytes stored.kind →
      IsWord source statics source.levels (As value stored.kind) word → AddsInitials before (scalar_by (text_of p) variable stored.offset bytes word) whole after →
      AddsInitials before (set_initial (text_of p) statics place value ((text_of p).store place value)) whole after
  value_added before after stored variable token bytes word whole is is_variable is_token is_bytes is_word adds =
      let token_is : token ≡ (text_of p).token place = is_token reads.reads.0 p (subst (λ (context : Context). StandsFor reads.reads.0 context p) (sym same) reads.reads.1) in
      let behind : Option (List Initial) → Option (List Initial) = λ (more : Option (List Initial)). option_map (λ (more : List Initial). before ++ more) more in
      sym (ap (λ (variable : Option ℕ). behind (scalar_by (text_of p) variable stored.offset bytes word)) (is_variable ∙ ap (variable_in statics) token_is)
      ∙ ap (λ (bytes : Option ℕ). behind (scalar_by (text_of p) (variable_in statics ((text_of p).token place)) stored.offset bytes word)) is_bytes
      ∙ ap (λ (word : Option Word). behind (scalar_by (text_of p) (variable_in statics ((text_of p).token place)) stored.offset (scalar_bytes stored.kind) word))
      (is_word.of p reads ∙ ap (λ (levels : ℕ). word_as (text_of p) (known_word levels (text_of p) statics) value stored.kind) reads.levels)
      ∙ ap (λ (found : Option Stored). behind (set_initial (text_of p) statics place value found)) (sym (some_store ((text_of p).store place value) stored (by_own (Some stored) is))))
      ∙ adds
