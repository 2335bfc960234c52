-- What leads to a piece of a graph.
use Rattle.std.proofs.Common.{◌≡◌, ℕ, Bool, true, false, List, sym, ap, ◌∙◌, if◌then◌else◌}
use Rattle.cbase.specs.declared.tree.expr.Expr.{Expr}
use Rattle.cbase.specs.declared.tree.init.Init.{Init}
use Rattle.cbase.specs.declared.tree.stmt.Stmt.{Stmt}
use Rattle.cbase.specs.declared.place.Place.{Place}
use Rattle.c_machine.specs.declared.kind.Kind.{Kind}
use Rattle.c_machine.specs.Program.{Program}
use Rattle.c_machine.specs.Text.{Clause, Form}
use Rattle.c_machine.specs.Trees.{text_of}
use Rattle.lower.specs.Jobs.{JobOf, LeadsTo, jobs_done}
use Rattle.lowering.specs.declared.moves.Move.TheVariants.{Asks, Does, Evaluates, Works}
use Rattle.lowering.specs.Kinds.{is_void}
use Rattle.lowering.specs.Made.{IsMade, IsMadeKind, IsLastKind}
use Rattle.lower.specs.Pieces.{Piece, Places, PlacesAll, Formed, Inside, LineOfWork, Stated, Tested, Through, Valued, Voided, VoidInside, Worked, piece_made}
use Rattle.lowering.specs.Placing.{Made, Around, failed}
use Rattle.lowering.specs.Reading.{IsForm, IsValueKind}
use Rattle.lowering.specs.Source.{Source, IsSource}
use Rattle.lowering.specs.Table.{kind_made}

-- what is made leads to itself
pub made_leads : (p : Program) (around : Around) (jobs : List JobOf) (goal made : Made) → made ≡ goal → LeadsTo p around jobs goal jobs made
made_leads p around jobs goal made is = record { of = ap (λ (one : Made). jobs_done p jobs (record { made = one; around = around })) is }

pub leads_as : (p : Program) (around : Around) (jobs new : List JobOf) (one other made : Made) → one ≡ other → LeadsTo p around jobs one new made →
    LeadsTo p around jobs other new made
leads_as p around jobs new one other made same leads =
    record { of = leads.of ∙ ap (λ (one : Made). jobs_done p jobs (record { made = one; around = around })) same }

-- one that is worked out of something that is another thing
pub leads_by : {A : Type 0} (p : Program) (around : Around) (jobs new : List JobOf) (made : Made) (f : A → Made) (one other : A) → one ≡ other →
    LeadsTo p around jobs (f one) new made → LeadsTo p around jobs (f other) new made
leads_by p around jobs new made f one other same leads = leads_as p around jobs new (f one) (f other) made (ap f same) leads

-- what is placed whatever stands around
pub here : (source : Source) (around : Around) (levels : ℕ) (piece : Piece) (jobs new : List JobOf) (before after : Made) →
    PlacesAll source levels piece jobs new before after → Places source around levels piece jobs new before after
here source around levels piece jobs new before after all = record { of = λ p reads. all.of p around reads }

-- an expression by its form
module _ (source : Source) (levels from : ℕ) (expr : Expr) (form : Form Expr Stmt) (jobs new : List JobOf) (before after : Made) (is : IsForm source.context expr form) where
  pub value_by_form : (spare into to : ℕ) → PlacesAll source levels (Valued from expr spare into to form) jobs new before after →
      PlacesAll source levels (Through from (Evaluates expr spare into) to) jobs new before after
  value_by_form spare into to all = record {
    of = λ p around reads.
        leads_as p around jobs new _ _ after (ap (λ (form : Form Expr Stmt). piece_made p levels around (Valued from expr spare into to form) before) (is.of p reads.reads)) (all.of p around reads);
  }

  pub work_by_form : (spare to : ℕ) → PlacesAll source levels (Worked from expr spare to form) jobs new before after →
      PlacesAll source levels (Through from (Works expr spare) to) jobs new before after
  work_by_form spare to all = record {
    of = λ p around reads.
        leads_as p around jobs new _ _ after (ap (λ (form : Form Expr Stmt). piece_made p levels around (Worked from expr spare to form) before) (is.of p reads.reads)) (all.of p around reads);
  }

  pub test_by_form : (spare off on to : ℕ) → PlacesAll source levels (Tested from expr spare off on form) jobs new before after →
      PlacesAll source levels (Through from (Asks expr spare off on) to) jobs new before after
  test_by_form spare off on to all = record {
    of = λ p around reads.
        leads_as p around jobs new _ _ after (ap (λ (form : Form Expr Stmt). piece_made p levels around (Tested from expr spare off on form) before) (is.of p reads.reads)) (all.of p around reads);
  }

-- a statement by what it is
pub by_clause : (source : Source) (around : Around) (levels from to : ℕ) (stmt : Stmt) (clause : Clause Expr Stmt Init) (jobs new : List JobOf) (before after : Made) →
    ((p : Program) → clause ≡ (text_of p).clause stmt) → Places source around levels (Stated from stmt to clause) jobs new before after →
    Places source around levels (Through from (Does stmt) to) jobs new before after
by_clause source around levels from to stmt clause jobs new before after is placed = record {
  of = λ p reads.
      leads_as p around jobs new _ _ after (ap (λ (clause : Clause Expr Stmt Init). piece_made p levels around (Stated from stmt to clause) before) (is p)) (placed.of p reads);
}

-- a value that is not made as its type says, and one that is
module _ (source : Source) (levels from : ℕ) (expr : Expr) (spare into to : ℕ) (form : Form Expr Stmt) (jobs new : List JobOf) (before after : Made) (made : Bool)
    (is : IsMade source expr form made) where
  pub value_fails : made ≡ false → after ≡ failed before → PlacesAll source levels (Valued from expr spare into to form) jobs jobs before after
  value_fails is_false fails = record {
    of = λ p around reads.
        leads_as p around jobs jobs (failed before) _ after
        (ap (λ (made : Bool). if made then piece_made p levels around (Formed from expr spare into to form) before else failed before) (sym is_false ∙ is.of p reads))
        (made_leads p around jobs (failed before) after fails);
  }

  pub value_made : made ≡ true → PlacesAll source levels (Formed from expr spare into to form) jobs new before after →
      PlacesAll source levels (Valued from expr spare into to form) jobs new before after
  value_made is_true all = record {
    of = λ p around reads.
        leads_as p around jobs new (piece_made p levels around (Formed from expr spare into to form) before) _ after
        (ap (λ (made : Bool). if made then piece_made p levels around (Formed from expr spare into to form) before else failed before) (sym is_true ∙ is.of p reads))
        (all.of p around reads);
  }

-- an expression whose value is not used: with a value, and without one
module _ (source : Source) (levels from : ℕ) (expr : Expr) (spare to : ℕ) (form : Form Expr Stmt) (jobs new : List JobOf) (before after : Made) (own : Kind)
    (is : IsValueKind source.context expr own) where
  abbrev by_kinds : (p : Program) → Around → Bool → Bool → Made
  by_kinds p around void none =
      if void then (if none then piece_made p levels around (Voided from expr spare to form) before else failed before)
      else piece_made p levels around (LineOfWork from expr spare to form) before

  pub work_dropped : (void : Bool) → void ≡ is_void own → void ≡ false → PlacesAll source levels (LineOfWork from expr spare to form) jobs new before after →
      PlacesAll source levels (Worked from expr spare to form) jobs new before after
  work_dropped void test is_false all = record {
    of = λ p around reads.
        leads_as p around jobs new (piece_made p levels around (LineOfWork from expr spare to form) before) _ after
        (ap (λ (void : Bool). by_kinds p around void (is_void (kind_made (text_of p) expr form))) (sym is_false ∙ test ∙ ap is_void (is.of p reads.reads)))
        (all.of p around reads);
  }

  module _ (void : Bool) (test : void ≡ is_void own) (is_true : void ≡ true) (made : Kind) (is_made : IsMadeKind source expr form made) (none : Bool) (test' : none ≡ is_void made) where
    abbrev void_first : (p : Program) (around : Around) → IsSource source p →
        (if none then piece_made p levels around (Voided from expr spare to form) before else failed before) ≡ piece_made p levels around (Worked from expr spare to form) before
    void_first p around reads =
        ap (λ (none : Bool). by_kinds p around true none) (test' ∙ ap is_void (is_made.of p reads))
        ∙ ap (λ (void : Bool). by_kinds p around void (is_void (kind_made (text_of p) expr form))) (sym is_true ∙ test ∙ ap is_void (is.of p reads.reads))

    pub work_fails : none ≡ false → after ≡ failed before → PlacesAll source levels (Worked from expr spare to form) jobs jobs before after
    work_fails is_false fails = record {
      of = λ p around reads.
          leads_as p around jobs jobs (failed before) _ after
          (ap (λ (none : Bool). if none then piece_made p levels around (Voided from expr spare to form) before else failed before) (sym is_false) ∙ void_first p around reads)
          (made_leads p around jobs (failed before) after fails);
    }

    pub work_void : none ≡ true → PlacesAll source levels (Voided from expr spare to form) jobs new before after →
        PlacesAll source levels (Worked from expr spare to form) jobs new before after
    work_void holds all = record {
      of = λ p around reads.
          leads_as p around jobs new (piece_made p levels around (Voided from expr spare to form) before) _ after
          (ap (λ (none : Bool). if none then piece_made p levels around (Voided from expr spare to form) before else failed before) (sym holds) ∙ void_first p around reads)
          (all.of p around reads);
    }

-- a statement expression that has no value
module _ (source : Source) (levels from : ℕ) (expr : Expr) (body : List Stmt) (close : Place) (into to : ℕ) (jobs new : List JobOf) (before after : Made) (kind : Kind)
    (is : IsLastKind source body kind) (none : Bool) (test : none ≡ is_void kind) where
  pub inner_fails : none ≡ false → after ≡ failed before → PlacesAll source levels (VoidInside from expr body close into to) jobs jobs before after
  inner_fails is_false fails = record {
    of = λ p around reads.
        leads_as p around jobs jobs (failed before) _ after
        (ap (λ (none : Bool). if none then piece_made p levels around (Inside from expr body close into to) before else failed before)
        (sym is_false ∙ test ∙ ap is_void (is.of p reads)))
        (made_leads p around jobs (failed before) after fails);
  }

  pub inner_void : none ≡ true → PlacesAll source levels (Inside from expr body close into to) jobs new before after →
      PlacesAll source levels (VoidInside from expr body close into to) jobs new before after
  inner_void is_true all = record {
    of = λ p around reads.
        leads_as p around jobs new (piece_made p levels around (Inside from expr body close into to) before) _ after
        (ap (λ (none : Bool). if none then piece_made p levels around (Inside from expr body close into to) before else failed before)
        (sym is_true ∙ test ∙ ap is_void (is.of p reads)))
        (all.of p around reads);
  }
