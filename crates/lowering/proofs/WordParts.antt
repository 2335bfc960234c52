-- What is known of an expression without a memory, for each program that the context stands for.
use Rattle.std.proofs.Common.{◌≡◌, ℕ, suc, List, Option, sym, ap, ◌∙◌}
use Rattle.cbase.specs.declared.tree.expr.Expr.{Expr}
use Rattle.bytes_core.specs.declared.word.Word.{Word}
use Rattle.cbase.specs.declared.tree.stmt.Stmt.{Stmt}
use Rattle.c_machine.specs.Text.{Form}
use Rattle.c_machine.specs.Trees.{text_of}
use Rattle.simulation.specs.Names.{Name}
use Rattle.lowering.specs.Known.{Value, Place, known_word, place_word, value_word}
use Rattle.lowering.specs.Reading.{IsForm}
use Rattle.lowering.specs.Source.{Source}
use Rattle.lowering.specs.Words.{Whole, OfValue, OfPlace, IsWord}

pub whole_value : (source : Source) (statics : List Name) (fewer levels : ℕ) (expr : Expr) (form : Form Expr Stmt) (word : Option Word) → levels ≡ suc fewer →
    IsForm source.context expr form → IsWord source statics fewer (OfValue expr form) word → IsWord source statics levels (Whole Value expr) word
whole_value source statics fewer levels expr form word more f is = record {
  of = λ p source.
      is.of p source
      ∙ ap (value_word (text_of p) statics (known_word fewer (text_of p) statics) expr) (f.of p source.reads)
      ∙ sym (ap (λ (levels : ℕ). known_word levels (text_of p) statics Value expr) more);
}

pub whole_place : (source : Source) (statics : List Name) (fewer levels : ℕ) (expr : Expr) (form : Form Expr Stmt) (word : Option Word) → levels ≡ suc fewer →
    IsForm source.context expr form → IsWord source statics fewer (OfPlace expr form) word → IsWord source statics levels (Whole Place expr) word
whole_place source statics fewer levels expr form word more f is = record {
  of = λ p source.
      is.of p source
      ∙ ap (place_word (text_of p) statics (known_word fewer (text_of p) statics) expr) (f.of p source.reads)
      ∙ sym (ap (λ (levels : ℕ). known_word levels (text_of p) statics Place expr) more);
}
