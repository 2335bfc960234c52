-- The objects that a block declares, one behind the other.
use Rattle.std.proofs.Common.{◌≡◌, Bool, true, false, List, [], ◌∷◌, ◌++◌, map, Option, None, Some, option_map, if◌then◌else◌, refl, sym, ap, subst, ◌∙◌, append_assoc, append-nil}
use Rattle.std.specs.List.{flat_map}
use Rattle.std.specs.Option.{option_map_or}
use Rattle.cbase.specs.declared.tree.decl.Decl.{Decl}
use Rattle.cbase.specs.declared.tree.decl.Declared.{Declared}
use Rattle.cbase.specs.declared.tree.expr.ExprForm.TheOpen as tree
use Rattle.cbase.specs.declared.tree.expr.ExprForm.TheViews.{out-Decl, out-StmtForm}
use Rattle.cbase.specs.declared.tree.stmt.Stmt.{Stmt}
use Rattle.cbase.specs.declared.tree.stmt.StmtForm.{StmtForm}
use Rattle.typing.specs.Forms.{Clause as Layer}
use Rattle.c_machine.specs.declared.object.Object.{Object}
use Rattle.c_machine.specs.Blocks.{names_in}
use Rattle.c_machine.specs.Program.{Program}
use Rattle.c_machine.specs.Trees.{clause_of, name_of, text_of}
use Rattle.c_text.specs.Kept.{is_sized, kept_object}
use Rattle.c_text.specs.Stands.{StandsFor}
use Rattle.expressions.specs.Context.{Context}
use Rattle.expressions.specs.Numbers.{Numbering}
use Rattle.lowering.specs.Placing.{objects_of, objects_of_name}
use Rattle.lowering.specs.Source.{Source, IsSource}

abbrev pub listed : Option Object → List Object
listed found = option_map_or (λ (object : Object). object ∷ []) found []

pub no_object : (found : Option Object) → Some None ≡ kept_object found → listed found ≡ []
no_object None is = refl
no_object (Some object) is = at (is_sized object) is
  where
    at : (fits : Bool) → Some None ≡ option_map Some (if fits then Some object else None) → listed (Some object) ≡ []
    at true is = absurd cc
    at false is = absurd cc

pub one_object : (found : Option Object) (object : Object) → Some (Some object) ≡ kept_object found → listed found ≡ object ∷ []
one_object None object is = absurd cc
one_object (Some own) object is = at (is_sized own) is
  where
    at : (fits : Bool) → Some (Some object) ≡ option_map Some (if fits then Some own else None) → listed (Some own) ≡ object ∷ []
    at true is = let same : own ≡ object = cc in ap (λ (one : Object). one ∷ []) same
    at false is = absurd cc

-- each behind the others
pub more_listed : {A B : Type 0} (f : A → List B) (item : A) (items rest : List A) (between after all : List B) → items ≡ item ∷ rest → after ≡ between ++ f item →
    between ++ flat_map f items ≡ all → after ++ flat_map f rest ≡ all
more_listed f item items rest between after all here next is =
    ap (λ front. front ++ flat_map f rest) next
    ∙ append_assoc between (f item) (flat_map f rest)
    ∙ ap (λ items. between ++ flat_map f items) (sym here)
    ∙ is

pub none_listed : {A B : Type 0} (f : A → List B) (items : List A) (between all : List B) → items ≡ [] → between ++ flat_map f items ≡ all → between ≡ all
none_listed f items between all none is = sym (append-nil between) ∙ ap (λ items. between ++ flat_map f items) (sym none) ∙ is

each_mapped : {A B C : Type 0} (f : A → B) (g : B → List C) (items : List A) → flat_map g (map f items) ≡ flat_map (λ (item : A). g (f item)) items
each_mapped f g [] = refl
each_mapped f g (item ∷ items) = ap (λ rest. g (f item) ++ rest) (each_mapped f g items)

-- those of a declaration
pub objects_declared : (p : Program) (stmt : Stmt) (form : StmtForm) (decl : Decl) → stmt.form ≡ form → out-StmtForm form ≡ tree.Declare decl →
    objects_of (text_of p) stmt ≡ flat_map (λ (name : Declared). objects_of_name (text_of p) (name_of name)) (out-Decl decl).names
objects_declared p stmt form decl is out =
    ap (λ (layer : Layer). flat_map (objects_of_name (text_of p)) (names_in (clause_of layer))) (ap out-StmtForm is ∙ out)
    ∙ each_mapped name_of (objects_of_name (text_of p)) (out-Decl decl).names

-- the object of a name, for each program that the source stands for
module _ (source : Source) (own : Context) (name : Declared) (same : own ≡ source.context) where
  abbrev Declares : Option Object → Type 0
  Declares told = (n : Numbering) (p : Program) → StandsFor n own p → Some told ≡ kept_object ((text_of p).automatic (name_of name).place)

  by_context : (told : Option Object) → Declares told → (p : Program) → IsSource source p → Some told ≡ kept_object ((text_of p).automatic (name_of name).place)
  by_context told is p reads = is reads.reads.0 p (subst (λ (context : Context). StandsFor reads.reads.0 context p) (sym same) reads.reads.1)

  pub declares_none : (objects : List Object) → Declares None → (p : Program) → IsSource source p → objects ≡ objects ++ objects_of_name (text_of p) (name_of name)
  declares_none objects is p reads =
      sym (append-nil objects)
      ∙ ap (λ (more : List Object). objects ++ more) (sym (no_object ((text_of p).automatic (name_of name).place) (by_context None is p reads)))

  pub declares_one : (objects after : List Object) (object : Object) → Declares (Some object) → after ≡ objects ++ object ∷ [] →
      (p : Program) → IsSource source p → after ≡ objects ++ objects_of_name (text_of p) (name_of name)
  declares_one objects after object is pushed p reads =
      pushed ∙ ap (λ (more : List Object). objects ++ more) (sym (one_object ((text_of p).automatic (name_of name).place) object (by_context (Some object) is p reads)))
