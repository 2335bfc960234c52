-- Items that are read and checked so far, and the next one.
use Rattle.std.proofs.Common.{◌≡◌, ℕ, ◌+◌, ◌<◌, ◌≤◌, List, [], ◌∷◌, ◌++◌, length, map, take, drop, get_or, drop-cons, add-one, append-nil, ap, sym, ◌∙◌, subst, Some, None}
use Rattle.std.proofs.lemmas.List.{take-append-drop, take_more, map-append, take_all}
use Rattle.cbase.specs.declared.abi.Abi.{Abi}
use Rattle.cbase.specs.declared.tree.item.Item.{Item}
use Rattle.cgrammar.specs.Phrases.{Context as Standing}
use Rattle.cgrammar.specs.Scope.{Names, file_scope as names_of_file}
use Rattle.cread.specs.InOrder.{at_file}
use Rattle.cread.specs.ItemsRead.{IsItemRead}
use Rattle.cread.specs.UnreadItems.{IsUnread}
use Rattle.cread.specs.declared.unread.Unread.{Unread}
use Rattle.ctokens.specs.declared.item_span.ItemSpan.{ItemSpan}
use Rattle.ctokens.specs.declared.token.Tokens.{Tokens}
use Rattle.typing.specs.Outcomes.{Handed}
use Rattle.expressions.specs.Context.{Context, declared}
use Rattle.expressions.specs.FileScope.{file_scope}
use Rattle.expressions.specs.Language.{language}
use Rattle.expressions.specs.Numbers.{handed_at}
use Rattle.expressions.proofs.Growth.{agrees_before, grows_same, grows_trans}
use Rattle.expressions.proofs.Walking.{handed_behind}
use Rattle.ccheck.specs.declared.refusal.Refusal.{Refusal}
use Rattle.ccheck.specs.Refusals.{of_fault, of_unread}
use Rattle.ccheck.specs.Steps.{PassSoFar, RefusedFirst, IsLookedThrough}
use Rattle.ccheck.specs.Walk.{ArePassing, IsFirstRefused, NoItem}
use Rattle.ccheck.proofs.Behind.{passes_more, unread_behind, broken_behind}

-- a whole list, around the element of a number
split_at : {A : Type 0} (xs : List A) (at : ℕ) (d : A) → at < length xs → take at xs ++ get_or xs at d ∷ drop (at + 1) xs ≡ xs
split_at xs at d within = ap (λ (ys : List _). take at xs ++ ys) (sym (rw add-one (drop-cons xs at d within))) ∙ take-append-drop at xs

module _ (t : Tokens) (abi : Abi) where
  pub none_yet : (context : Context) (scope : List Names) → scope ≡ names_of_file → PassSoFar t abi [] [] (record { scope = scope; expressions = 0 }) context context
  none_yet context scope is = record {
    rows = [];
    handed = sym (append-nil context.handed);
    grows = grows_same context;
    passing = λ n agrees.
        subst (λ (s : List Names). ArePassing t (language abi n) (file_scope abi n) [] at_file (declared context) [] [] (record { scope = s; expressions = 0 }) (declared context)) (sym is) NoItem;
  }

  module _ (spans : List ItemSpan) (old mid new : Context) (program : List Item) (middle : Standing) (at : ℕ) (d : ItemSpan) (within : at < length spans)
      (passed : PassSoFar t abi (take at spans) program middle old mid) where
    -- the next one is not read
    pub next_unread : (unread : Unread) → IsUnread t (get_or spans at d).first (get_or spans at d).after middle unread → RefusedFirst t abi spans old mid (of_unread unread)
    next_unread unread is = record {
      grows = passed.grows;
      first = λ n agrees.
          subst (λ (all : List ItemSpan). IsFirstRefused t (language abi n) (file_scope abi n) all at_file (declared old) (of_unread unread) (declared mid)) (split_at spans at d within)
          (unread_behind unread (get_or spans at d) (drop (at + 1) spans) (passed.passing n agrees) is);
    }

    module _ (item : Item) (after : Standing) (read : IsItemRead t (get_or spans at d).first (get_or spans at d).after middle item after) where
      -- it passes
      pub next_passes : IsLookedThrough t abi (get_or spans at d) item mid new None → PassSoFar t abi (take (at + 1) spans) (program ++ item ∷ []) after old new
      next_passes through = record {
        rows = passed.rows ++ through.rows;
        handed = handed_behind old.handed mid.handed new.handed passed.rows through.rows passed.handed through.handed;
        grows = grows_trans old mid new passed.grows through.grows;
        passing = λ n agrees.
            let front = passed.passing n (agrees_before mid new n through.grows agrees) in
            let all = passes_more {t = t} {l = language abi n} {file = file_scope abi n} front read (through.found n agrees) in
            subst (λ (front : List ItemSpan). ArePassing t (language abi n) (file_scope abi n) front at_file (declared old) (program ++ item ∷ []) (map (handed_at n) (passed.rows ++ through.rows)) after (declared new))
            (sym (take_more spans at d within))
            (subst (λ (rows : List Handed). ArePassing t (language abi n) (file_scope abi n) (take at spans ++ get_or spans at d ∷ []) at_file (declared old) (program ++ item ∷ []) rows after (declared new))
            (sym (map-append (handed_at n) passed.rows through.rows)) all);
      }

      -- something is refused in it
      pub next_refused : (refusal : Refusal) → IsLookedThrough t abi (get_or spans at d) item mid new (Some refusal) → RefusedFirst t abi spans old new refusal
      next_refused refusal (fault, is, stopped) = record {
        grows = grows_trans old mid new passed.grows stopped.grows;
        first = λ n agrees.
            subst (λ (r : Refusal). IsFirstRefused t (language abi n) (file_scope abi n) spans at_file (declared old) r (declared new)) is
            (subst (λ (all : List ItemSpan). IsFirstRefused t (language abi n) (file_scope abi n) all at_file (declared old) (of_fault t fault) (declared new)) (split_at spans at d within)
            (broken_behind {t = t} {l = language abi n} {file = file_scope abi n} (get_or spans at d) (drop (at + 1) spans) (passed.passing n (agrees_before mid new n stopped.grows agrees)) read (stopped.found n agrees)));
      }

  -- all of them
  pub all_passed : (spans : List ItemSpan) (old new : Context) (program : List Item) (after : Standing) (at : ℕ) → length spans ≤ at
      → PassSoFar t abi (take at spans) program after old new → PassSoFar t abi spans program after old new
  all_passed spans old new program after at past passed = subst (λ (all : List ItemSpan). PassSoFar t abi all program after old new) (take_all at spans past) passed
