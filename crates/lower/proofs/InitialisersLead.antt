-- Addresses, conversions, declarations and initialisers, for each program that the source stands for.
use Rattle.std.proofs.Common.{◌≡◌, ℕ, ◌+◌, Bool, true, false, List, [], ◌∷◌, ◌++◌, map, Option, None, Some, option_map, if◌then◌else◌, refl, sym, ap, subst, ◌∙◌}
use Rattle.std.specs.List.{list_all}
use Rattle.cbase.specs.declared.place.Place.{Place}
use Rattle.cbase.specs.declared.tree.expr.Expr.{Expr}
use Rattle.cbase.specs.declared.tree.init.Init.{Init}
use Rattle.cbase.specs.declared.tree.stmt.Stmt.{Stmt}
use Rattle.c_machine.specs.declared.kind.Kind.{Kind}
use Rattle.c_machine.specs.declared.kind.Kind.TheVariants.{Void}
use Rattle.c_machine.specs.Program.{Program}
use Rattle.c_machine.specs.Text.{Form, Initialiser, Braces, Value, Standing, ObjectStands, ConstantStands, BuiltInStands, BodyStands, NothingStands, Store as Stored}
use Rattle.c_machine.specs.Trees.{text_of}
use Rattle.c_text.specs.Kept.{kept, kept_store}
use Rattle.c_text.specs.declared.store.Store.{Store}
use Rattle.c_text.specs.Stands.{StandsFor}
use Rattle.expressions.specs.Context.{Context}
use Rattle.expressions.specs.Numbers.{Numbering}
use Rattle.lower.specs.declared.jobs.Job.TheVariants.{Follow}
use Rattle.lower.specs.Jobs.{JobOf, LeadsTo}
use Rattle.lower.specs.Pieces.{Piece, Places, PlacesAll, Initialised, Through, piece_made}
use Rattle.lower.specs.Variables.{IsNamedVariable, IsVariable}
use Rattle.lowering.specs.declared.conversion.Conversion.{Conversion}
use Rattle.lowering.specs.Kinds.{conversion}
use Rattle.lowering.specs.declared.moves.Move.{Move as MoveOf}
use Rattle.lowering.specs.declared.moves.Move.TheVariants.{Converts, Initialises, Locates}
use Rattle.lowering.specs.Moves.{LineOf}
use Rattle.lowering.specs.Placing.{Made, Around, along, along_line, failed, go, is_empty_within, place_set, variable_of}
use Rattle.lowering.specs.Reading.{IsForm, IsObjectToken, IsPlaceLine, IsValueKind, named_variable, token_of}
use Rattle.lowering.specs.Source.{Source, IsSource}
use Rattle.lowering.specs.Table.{converted_line, place_line}
use Rattle.lowering.specs.Told.{IsLine, trees}
use Rattle.lowering.proofs.Sources.{kept_is}
use Rattle.lower.proofs.LinesPlaced.{Moves, follow_leads, same_converted, taken_leads}
use Rattle.lower.proofs.PiecesPlaced.{leads_as, made_leads}

-- the variable of the object that a name stands for
no_name : (variable : ℕ → Option ℕ) (standing : Standing) → None ≡ token_of standing → None ≡ named_variable variable standing
no_name variable (ObjectStands token) is = absurd cc
no_name variable (ConstantStands bits) is = refl
no_name variable (BuiltInStands name params result) is = refl
no_name variable (BodyStands number) is = refl
no_name variable NothingStands is = refl

a_name : (variable : ℕ → Option ℕ) (standing : Standing) (token : ℕ) → Some token ≡ token_of standing → variable token ≡ named_variable variable standing
a_name variable (ObjectStands own) token is = let same : token ≡ own = cc in ap variable same
a_name variable (ConstantStands bits) token is = absurd cc
a_name variable (BuiltInStands name params result) token is = absurd cc
a_name variable (BodyStands number) token is = absurd cc
a_name variable NothingStands token is = absurd cc

pub names_nothing : (source : Source) (around : Around) (expr : Expr) → IsObjectToken source.context expr None → IsNamedVariable source around expr None
names_nothing source around expr is = record { of = λ p reads. no_name (variable_of around) ((text_of p).stands expr) (is.of p reads.reads) }

pub names_object : (source : Source) (around : Around) (expr : Expr) (token : ℕ) (found : Option ℕ) → IsObjectToken source.context expr (Some token) →
    found ≡ variable_of around token → IsNamedVariable source around expr found
names_object source around expr token found is is_found = record {
  of = λ p reads. is_found ∙ a_name (variable_of around) ((text_of p).stands expr) token (is.of p reads.reads);
}

module _ (source : Source) (levels from to : ℕ) (jobs new : List JobOf) where
  -- an address
  pub address_leads : (around : Around) (before : Made) (expr : Expr) (spare into : ℕ) (form : Form Expr Stmt) (found : Option ℕ) (taken : ℕ) (empty moves : Moves) →
      IsForm source.context expr form → IsNamedVariable source around expr found → empty ≡ [] →
      IsPlaceLine source.context found expr spare into form before.registers taken empty moves → new ≡ Follow levels from moves to ∷ jobs →
      Places source around levels (Through from (Locates expr spare into) to) jobs new before (record before { registers = taken })
  address_leads around before expr spare into form found taken empty moves is_form is_variable none is_line is_new = record {
    of = λ p reads.
        leads_as p around jobs new
        (along_line (text_of p) around (go levels (text_of p) around) before from (place_line (text_of p) (variable_of around) expr spare into before.registers form) to) _
        (record before { registers = taken })
        (ap (λ (form : Form Expr Stmt). along_line (text_of p) around (go levels (text_of p) around) before from
        (place_line (text_of p) (variable_of around) expr spare into before.registers form) to) (is_form.of p reads.reads))
        (taken_leads p around levels from to jobs new before (place_line (text_of p) (variable_of around) expr spare into before.registers form) taken empty moves none
        (is_line.of p (variable_of around) reads.reads (is_variable.of p reads)) is_new);
  }

  -- a conversion
  pub conversion_leads : (before : Made) (expr : Expr) (kind own : Kind) (change : Conversion) (spare into : ℕ) (taken : ℕ) (empty moves : Moves) →
      IsValueKind source.context expr own → change ≡ conversion own kind → empty ≡ [] →
      IsLine (converted_line (trees Void) expr spare into before.registers change) before.registers taken empty moves → new ≡ Follow levels from moves to ∷ jobs →
      PlacesAll source levels (Through from (Converts expr kind spare into) to) jobs new before (record before { registers = taken })
  conversion_leads before expr kind own change spare into taken empty moves is_own is_change none is_line is_new = record {
    of = λ p around reads.
        leads_as p around jobs new
        (along_line (text_of p) around (go levels (text_of p) around) before from (converted_line (text_of p) expr spare into before.registers change) to) _
        (record before { registers = taken })
        (ap (λ (change : Conversion). along_line (text_of p) around (go levels (text_of p) around) before from
        (converted_line (text_of p) expr spare into before.registers change) to) (is_change ∙ ap (λ (own : Kind). conversion own kind) (is_own.of p reads.reads)))
        (taken_leads p around levels from to jobs new before (converted_line (text_of p) expr spare into before.registers change) taken empty moves none
        (subst (λ (line : LineOf Expr Stmt Init). IsLine line before.registers taken empty moves) (same_converted p expr spare into before.registers change) is_line) is_new);
  }

-- an initialiser by what it is
pub by_initialiser : (source : Source) (around : Around) (levels from to : ℕ) (place : Place) (init : Init) (initialiser : Initialiser Expr Init) (jobs new : List JobOf)
    (before after : Made) → ((p : Program) → initialiser ≡ (text_of p).initialiser init) →
    Places source around levels (Initialised from place to initialiser) jobs new before after →
    Places source around levels (Through from (Initialises place init) to) jobs new before after
by_initialiser source around levels from to place init initialiser jobs new before after is placed = record {
  of = λ p reads.
      leads_as p around jobs new _ _ after
      (ap (λ (initialiser : Initialiser Expr Init). piece_made p levels around (Initialised from place to initialiser) before) (is p)) (placed.of p reads);
}

-- initialisers in braces: without a value, and with one
module _ (source : Source) (levels from to : ℕ) (place : Place) (inits : List Init) (jobs new : List JobOf) (before after : Made) (count : ℕ) (empty : Bool)
    (is_count : count ≡ source.levels) (is_empty : (p : Program) → empty ≡ list_all (is_empty_within count (text_of p)) inits) where
  same_empty : (p : Program) → IsSource source p → empty ≡ list_all (is_empty_within (text_of p).enough (text_of p)) inits
  same_empty p reads = is_empty p ∙ ap (λ (count : ℕ). list_all (is_empty_within count (text_of p)) inits) (is_count ∙ reads.levels)

  pub braces_fail : empty ≡ true → after ≡ failed before → PlacesAll source levels (Initialised from place to (Braces inits)) jobs jobs before after
  braces_fail holds fails = record {
    of = λ p around reads.
        leads_as p around jobs jobs (failed before) _ after
        (ap (λ (empty : Bool). if empty then failed before
        else along (text_of p) around (go levels (text_of p) around) before from (map (λ (init : Init). Initialises place init) inits) to) (sym holds ∙ same_empty p reads))
        (made_leads p around jobs (failed before) after fails);
  }

  pub braces_go : empty ≡ false → (none line : Moves) → none ≡ [] → line ≡ map (λ (init : Init). Initialises place init) inits ++ none →
      new ≡ Follow levels from line to ∷ jobs → PlacesAll source levels (Initialised from place to (Braces inits)) jobs new before before
  braces_go has_some none line is_none is_line is_new = record {
    of = λ p around reads.
        leads_as p around jobs new (along (text_of p) around (go levels (text_of p) around) before from (map (λ (init : Init). Initialises place init) inits) to) _ before
        (ap (λ (empty : Bool). if empty then failed before
        else along (text_of p) around (go levels (text_of p) around) before from (map (λ (init : Init). Initialises place init) inits) to) (sym has_some ∙ same_empty p reads))
        (follow_leads p around levels from to jobs new before (map (λ (init : Init). Initialises place init) inits) none line is_none is_line is_new);
  }

-- what a value sets
abbrev told_store : ℕ → Kind → Option Store
told_store offset kind = Some (record { offset = offset; kind = kind })

abbrev own_store : ℕ → Kind → Option Stored
own_store offset kind = Some (record { offset = offset; kind = kind })

pub no_store : (found : Option Stored) → Some None ≡ kept_store found → found ≡ None
no_store None is = refl
no_store (Some stored) is = at (kept stored.kind) is
  where
    at : (own : Option Kind) → Some None ≡ option_map (λ (kind : Kind). told_store stored.offset kind) own → Some stored ≡ None
    at None is = absurd cc
    at (Some kind) is = absurd cc

pub some_store : (found : Option Stored) (stored : Store) → Some (Some stored) ≡ kept_store found → found ≡ own_store stored.offset stored.kind
some_store None stored is = absurd cc
some_store (Some own) stored is = at (kept own.kind) refl is
  where
    at : (found : Option Kind) → found ≡ kept own.kind → Some (Some stored) ≡ option_map (λ (kind : Kind). told_store own.offset kind) found →
        Some own ≡ own_store stored.offset stored.kind
    at None same is = absurd cc
    at (Some kind) same is =
        let made : Store = record { offset = own.offset; kind = kind } in
        let told : stored ≡ made = cc in
        ap (own_store own.offset) (sym (kept_is own.kind kind same)) ∙ ap (λ (one : Store). own_store one.offset one.kind) (sym told)

module _ (source : Source) (around : Around) (levels from to : ℕ) (place end : Place) (value : Expr) (jobs new : List JobOf) (before after : Made) (own : Context) (same : own ≡ source.context) where
  abbrev Tells : Option Store → Type 0
  Tells told = (n : Numbering) (p : Program) → StandsFor n own p → Some told ≡ kept_store ((text_of p).store place value)

  by_store : (p : Program) (told : Option Store) → Tells told → IsSource source p → Some told ≡ kept_store ((text_of p).store place value)
  by_store p told is reads = is reads.reads.0 p (subst (λ (context : Context). StandsFor reads.reads.0 context p) (sym same) reads.reads.1)

  pub set_fails : Tells None → after ≡ failed before → Places source around levels (Initialised from place to (Value value end)) jobs jobs before after
  set_fails is fails = record {
    of = λ p reads.
        leads_as p around jobs jobs (failed before) _ after
        (ap (λ (found : Option Stored). place_set (text_of p) (go levels (text_of p)) around before from place value end to found)
        (sym (no_store ((text_of p).store place value) (by_store p None is reads))))
        (made_leads p around jobs (failed before) after fails);
  }

  pub set_goes : (stored : Store) → Tells (Some stored) →
      ((p : Program) → IsSource source p → LeadsTo p around jobs
      (place_set (text_of p) (go levels (text_of p)) around before from place value end to (Some (record { offset = stored.offset; kind = stored.kind }))) new after) →
      Places source around levels (Initialised from place to (Value value end)) jobs new before after
  set_goes stored is leads = record {
    of = λ p reads.
        leads_as p around jobs new _ _ after
        (ap (λ (found : Option Stored). place_set (text_of p) (go levels (text_of p)) around before from place value end to found)
        (sym (some_store ((text_of p).store place value) stored (by_store p (Some stored) is reads))))
        (leads p reads);
  }
