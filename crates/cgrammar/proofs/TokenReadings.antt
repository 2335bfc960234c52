-- What single tokens are read as is what the grammar says of them.
use Rattle.std.proofs.Common.{◌≡◌, ◌↔◌, ℕ, Bool, true, false, ◌&&◌, if◌then◌else◌, List, None, Some, codes, refl, ap, ◌∙◌}
use Rattle.std.specs.Str.{bytes_eq}
use Rattle.std.proofs.lemmas.Slice.Eq.{bytes_eq-Decides}
use Rattle.cbase.specs.declared.tree.decl.Storage.{Storage}
use Rattle.cbase.specs.declared.tree.decl.Storage.TheVariants.{Plain, Typedef, Extern, Static}
use Rattle.cgrammar.specs.Terminals.{Terminal, is_word, is_word_kind}
use Rattle.cgrammar.specs.TypeWords.{IsStorage}
use Rattle.cgrammar.specs.TokenReadings.{storage_of}
use Rattle.cgrammar.proofs.Truth.{and-left, and-right}

-- a word is no other word
one-word : (one other : List ℕ) (token : Terminal) → bytes_eq one other ≡ false → is_word one token ≡ true → is_word other token ≡ false
one-word one other token differ is =
    ap (λ (b : Bool). b && bytes_eq token.bytes other) (and-left (is_word_kind token.kind) (bytes_eq token.bytes one) is)
    ∙ (ap (λ (bytes : List ℕ). bytes_eq bytes other) ((bytes_eq-Decides token.bytes one).0 (and-right (is_word_kind token.kind) (bytes_eq token.bytes one) is)) ∙ differ)

pub storage_exact : (token : Terminal) (storage : Storage) → (storage_of token ≡ Some storage) ↔ IsStorage storage token
storage_exact token storage = (found storage, spelled storage)
  where
    found : (s : Storage) → storage_of token ≡ Some s → IsStorage s token
    found s = step (is_word (codes "typedef") token) (is_word (codes "extern") token) (is_word (codes "static") token) refl refl refl s
      where
        step : (typedef extern static : Bool) → is_word (codes "typedef") token ≡ typedef → is_word (codes "extern") token ≡ extern → is_word (codes "static") token ≡ static
            → (t : Storage) → (if typedef then Some Typedef else (if extern then Some Extern else (if static then Some Static else None))) ≡ Some t → IsStorage t token
        step true extern static a b c Plain is = cc is
        step true extern static a b c Typedef is = a
        step true extern static a b c Extern is = cc is
        step true extern static a b c Static is = cc is
        step false true static a b c Plain is = cc is
        step false true static a b c Typedef is = cc is
        step false true static a b c Extern is = b
        step false true static a b c Static is = cc is
        step false false true a b c Plain is = cc is
        step false false true a b c Typedef is = cc is
        step false false true a b c Extern is = cc is
        step false false true a b c Static is = c
        step false false false a b c t is = cc is

    spelled : (s : Storage) → IsStorage s token → storage_of token ≡ Some s
    spelled Plain is = absurd is
    spelled Typedef is = rw is refl
    spelled Extern is = rw (one-word (codes "extern") (codes "typedef") token refl is) (rw is refl)
    spelled Static is = rw (one-word (codes "static") (codes "typedef") token refl is) (rw (one-word (codes "static") (codes "extern") token refl is) (rw is refl))
