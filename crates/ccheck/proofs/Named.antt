-- Each refusal can be named: its construct has a number, and the file of its place a name.
use Rattle.std.proofs.Common.{◌≡◌, ℕ, ◌<◌, ◌≤◌, ◌&&◌, nat_le, if◌then◌else◌, Bool, true, false, Option, None, Some, List, length, slice_get, option_map, unwrap_or, inl, inr, refl, subst, arith}
use Rattle.std.proofs.lemmas.Bool.Decides.{nat_tests}
use Rattle.std.proofs.lemmas.Option.{slice_get_cases, get_or_from_slice_get}
use Rattle.cbase.specs.declared.abi.Abi.{Abi}
use Rattle.cbase.specs.declared.place.Place.{Place}
use Rattle.cgrammar.specs.Phrases.{Context as Standing}
use Rattle.cgrammar.specs.Terminals.{no_place}
use Rattle.cread.specs.Named as read
use Rattle.cread.specs.declared.unread.Unread.{Unread}
use Rattle.cread.specs.declared.unread.Unread.TheVariants as unread
use Rattle.cread.proofs.UnreadItems.{unread_named}
use Rattle.ctokens.specs.declared.item_span.ItemSpan.{ItemSpan}
use Rattle.ctokens.specs.declared.token.Token.{Token}
use Rattle.ctokens.specs.declared.token.Tokens.{Tokens}
use Rattle.ctokens.specs.TokenList.{HasNamedFiles}
use Rattle.typing.specs.declared.ctypes.found.Broken.{Broken}
use Rattle.typing.specs.declared.ctypes.found.Broken.TheVariants as broken
use Rattle.typing.specs.FileScope.{FileScope}
use Rattle.typing.specs.Language.{Language}
use Rattle.ccheck.specs.declared.checking.Checked.{Checked}
use Rattle.ccheck.specs.declared.checking.Checked.TheVariants.{Typed, Refused}
use Rattle.ccheck.specs.declared.refusal.Refusal.{Refusal}
use Rattle.ccheck.specs.Checked.{IsAnswer}
use Rattle.ccheck.specs.Named.{IsNamed, AnswerIsNamed}
use Rattle.ccheck.specs.Refusals.{of_broken, of_unread, place_at}
use Rattle.ccheck.specs.Walk.{IsFirstRefused, NotRead, Broken as BrokenItem, Later}

module _ (t : Tokens) (named : HasNamedFiles t) where
  token_named : (found : Option Token) (number : ℕ) → slice_get t.list number ≡ found → (unwrap_or (option_map (λ (token : Token). token.place) found) no_place).file < length t.names
  token_named None number is = named.0
  token_named (Some token) number is =
      elim (slice_get_cases t.list number).1 [
        | inl (other, below, same, there) ↦
            subst (λ (tok : Token). tok.place.file < length t.names) (get_or_from_slice_get t.list number token token is) (named.1 number token below)
        | inr (past, none) ↦ absurd cc
      ]

  place_named : (number : ℕ) → (place_at t number).file < length t.names
  place_named number = token_named (slice_get t.list number) number refl

  construct_named : (place : Place) (number : ℕ) (low high : Bool) → nat_le 1 number ≡ low → nat_le number 21 ≡ high → place.file < length t.names
      → IsNamed t.names (if low && high then Refusal.Construct number place else Refusal.Syntax place)
  construct_named place number true true low high inside =
      let at_least : 1 ≤ number = grind (arith, nat_tests, low) in
      let at_most : number ≤ 21 = grind (arith, nat_tests, high) in
      ((at_least, at_most), inside)
  construct_named place number true false low high inside = inside
  construct_named place number false high low also inside = inside

  broken_named : (place : Place) (b : Broken) → place.file < length t.names → IsNamed t.names (of_broken place b)
  broken_named place (broken.Rule number) inside = inside
  broken_named place (broken.Construct number) inside = construct_named place number (nat_le 1 number) (nat_le number 21) refl refl inside

  unread_is_named : (reason : Unread) → read.IsNamed t.names reason → IsNamed t.names (of_unread reason)
  unread_is_named (unread.Construct number place) is = is
  unread_is_named (unread.Syntax place) is = is.1

  pub refusal_named : {l : Language} {file : FileScope l} {spans : List ItemSpan} {before : Standing} {env behind : l.Environment} {refusal : Refusal}
      → IsFirstRefused t l file spans before env refusal behind → IsNamed t.names refusal
  refusal_named {before} (NotRead {span} reason stops is) =
      subst (IsNamed t.names) is (unread_is_named reason (unread_named t span.first span.after before reason named stops))
  refusal_named (BrokenItem {fault} read found is) = subst (IsNamed t.names) is (broken_named (place_at t fault.place.at) fault.broken (place_named fault.place.at))
  refusal_named (Later read found rest) = refusal_named rest

pub answer_named : (t : Tokens) (items : List ItemSpan) (numbers : List ℕ) (abi : Abi) (strict : Bool) (answer : Checked) → HasNamedFiles t
    → IsAnswer t items numbers abi strict answer → AnswerIsNamed t.names answer
answer_named t items numbers abi strict (Typed p) named is = tt
answer_named t items numbers abi strict (Refused refusal) named (behind, first) = refusal_named t named first
