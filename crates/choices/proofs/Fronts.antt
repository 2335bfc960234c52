-- What was read of a text stands in the reader.
use Rattle.std.proofs.Common.{◌≡◌, ℕ, List, [], ◌∷◌, ◌++◌, refl, ap, sym, ◌∙◌, subst, append_assoc}
use Rattle.std.specs.List.{All}
use Rattle.std.proofs.lemmas.List.{append-nil}
use Rattle.std.proofs.lemmas.Grind.{flat_map-append}
use Rattle.std.proofs.lemmas.List.Elements.{All-nil, All-push}
use Rattle.choices.specs.declared.choice.Choice.{Choice}
use Rattle.choices.specs.declared.choice.Choice.TheVariants as choice
use Rattle.choices.specs.declared.part.Step.{Step}
use Rattle.choices.specs.declared.part.Step.TheVariants.{Refuse, Go, Byte, EndNone, EndInput, EndBlock}
use Rattle.choices.specs.declared.reader.Reader.{Reader}
use Rattle.choices.specs.Written.{line_of, written, HasLine}
use Rattle.choices.specs.Run.{Turn, Goes, Stops, with_line, after, step, then_read, run, start}
use Rattle.choices.proofs.Parts.{part_text, IsFor, EndsLine, Reads, next_reads}

-- the bytes that were read
abbrev pub front : Reader → List ℕ
front reader = written reader.choices ++ part_text reader.part reader.contents

-- what is known of a reader
pub record IsState (reader : Reader) : Type 0 where
  pub choices : All HasLine reader.choices
  pub part : IsFor reader.part reader.contents

-- a byte is read
pub record Follows (reader : Reader) (byte : ℕ) (next : Reader) : Type 0 where
  pub is : IsState next
  pub read : front next ≡ front reader ++ byte ∷ []

abbrev pub KeptBy : Reader → ℕ → Turn → Type 0
KeptBy reader byte (Goes next) = Follows reader byte next
KeptBy reader byte Stops = Unit {0}

pub written_push : (choices : List Choice) (last : Choice) → written (choices ++ last ∷ []) ≡ written choices ++ line_of last
written_push choices last = flat_map-append line_of choices (last ∷ []) ∙ ap (λ (w : List ℕ). written choices ++ w) (append-nil (line_of last))

-- the bytes of a part stand behind the lines
behind_lines : (reader : Reader) (byte : ℕ) (text : List ℕ) → text ≡ part_text reader.part reader.contents ++ byte ∷ [] → written reader.choices ++ text ≡ front reader ++ byte ∷ []
behind_lines reader byte text is =
    ap (λ (w : List ℕ). written reader.choices ++ w) is
    ∙ sym (append_assoc (written reader.choices) (part_text reader.part reader.contents) (byte ∷ []))

ended : (reader : Reader) (byte : ℕ) (last : Choice) (contents : List ℕ) → All HasLine reader.choices → EndsLine reader.part reader.contents byte last → contents ≡ [] → Follows reader byte (with_line reader last contents)
ended reader byte last contents all ends none = record {
  is = record { choices = All-push HasLine reader.choices last all ends.has_line; part = none };
  read =
      append-nil (written (reader.choices ++ last ∷ []))
      ∙ written_push reader.choices last
      ∙ behind_lines reader byte (line_of last) ends.text;
}

after_kept : (reader : Reader) (byte : ℕ) (done : Step) → All HasLine reader.choices → Reads reader.part reader.contents byte done → KeptBy reader byte (after reader done)
after_kept reader byte Refuse all reads = tt
after_kept reader byte (Go part) all reads = record { is = record { choices = all; part = reads.0 }; read = behind_lines reader byte _ reads.1 }
after_kept reader byte (Byte base whole) all reads = record { is = record { choices = all; part = reads.0 }; read = behind_lines reader byte _ reads.1 }
after_kept reader byte EndNone all reads = ended reader byte choice.None reader.contents all reads.0 reads.1
after_kept reader byte (EndInput number) all reads = ended reader byte (choice.Input number) reader.contents all reads.0 reads.1
after_kept reader byte (EndBlock base) all reads = ended reader byte (choice.Block base reader.contents) [] all reads refl

pub step_kept : (reader : Reader) (byte : ℕ) → IsState reader → KeptBy reader byte (step reader byte)
step_kept reader byte is = after_kept reader byte _ is.choices (next_reads reader.part reader.contents byte is.part)

pub is_start : IsState start
is_start = record { choices = All-nil HasLine; part = refl }

-- what a run leaves
pub record Reaches (reader : Reader) (bytes : List ℕ) (last : Reader) : Type 0 where
  pub is : IsState last
  pub read : front last ≡ front reader ++ bytes

turn_kept : (reader : Reader) (byte : ℕ) (bytes : List ℕ) (turn : Turn) → KeptBy reader byte turn
    → ((next : Reader) → IsState next → (last : Reader) → run next bytes ≡ Goes last → Reaches next bytes last)
    → (last : Reader) → then_read turn (λ next. run next bytes) ≡ Goes last → Reaches reader (byte ∷ bytes) last
turn_kept reader byte bytes Stops kept rest last goes = absurd (cc)
turn_kept reader byte bytes (Goes next) kept rest last goes =
    let later = rest next kept.is last goes in
    record {
      is = later.is;
      read = later.read ∙ ap (λ (w : List ℕ). w ++ bytes) kept.read ∙ append_assoc (front reader) (byte ∷ []) bytes;
    }

pub run_kept : (reader : Reader) (bytes : List ℕ) → IsState reader → (last : Reader) → run reader bytes ≡ Goes last → Reaches reader bytes last
run_kept reader [] is last goes =
    let same : reader ≡ last = cc in
    subst (λ (r : Reader). Reaches reader [] r) same (record { is = is; read = sym (append-nil (front reader)) })
run_kept reader (byte ∷ bytes) is last goes = turn_kept reader byte bytes (step reader byte) (step_kept reader byte is) (λ next. run_kept next bytes) last goes

-- what is read of a text that was run from the start
pub started : (text : List ℕ) (last : Reader) → run start text ≡ Goes last → IsState last × (front last ≡ text)
started text last goes = let r = run_kept start text is_start last goes in (r.is, r.read)

-- ---- one run behind the other

then_then : (turn : Turn) (xs ys : List ℕ) → ((next : Reader) → run next (xs ++ ys) ≡ then_read (run next xs) (λ last. run last ys))
    → then_read turn (λ next. run next (xs ++ ys)) ≡ then_read (then_read turn (λ next. run next xs)) (λ last. run last ys)
then_then Stops xs ys rest = refl
then_then (Goes next) xs ys rest = rest next

pub run-append : (reader : Reader) (xs ys : List ℕ) → run reader (xs ++ ys) ≡ then_read (run reader xs) (λ last. run last ys)
run-append reader [] ys = refl
run-append reader (x ∷ xs) ys = then_then (step reader x) xs ys (λ next. run-append next xs ys)

pub run_then : (reader : Reader) (xs ys : List ℕ) (middle : Reader) (turn : Turn) → run reader xs ≡ Goes middle → run middle ys ≡ turn → run reader (xs ++ ys) ≡ turn
run_then reader xs ys middle turn first second =
    run-append reader xs ys ∙ ap (λ (t : Turn). then_read t (λ last. run last ys)) first ∙ second
