use Rattle.std.proofs.Common.{rules, ◌≡◌, ◌↔◌, ℕ, true, List, Option, None, subst, slice_index_or}
use Rattle.graph.specs.Maps.{object_at}
use Rattle.cover.specs.Covers.{AreLivePaired}
use Rattle.cover.proofs.Verdict.{live-no, other-live-no, kept-no, covers-when}
use Rattle.cover.proofs.covering.found_covers.Goals as goal

pub returns-then-not-live_are_paired : goal.returns-then-not-live_are_paired
returns-then-not-live_are_paired c = live-no c.args.wide.now c.args.narrow.now c.args.found.now c.requires.finished c.live_are_paired.result
    (subst (λ (partners : List (Option ℕ)). (c.live_are_paired.result ≡ true) ↔ AreLivePaired (object_at c.args.wide.now.objects) (λ key. slice_index_or partners key None)) c.as_slice.ensures.value c.live_are_paired.ensures) (search rules)

pub returns-then-not-live_are_paired-2 : goal.returns-then-not-live_are_paired-2
returns-then-not-live_are_paired-2 c = other-live-no c.args.wide.now c.args.narrow.now c.args.found.now c.requires.finished c.live_are_paired-2.result
    (subst (λ (partners : List (Option ℕ)). (c.live_are_paired-2.result ≡ true) ↔ AreLivePaired (object_at c.args.narrow.now.objects) (λ key. slice_index_or partners key None)) c.as_slice-2.ensures.value c.live_are_paired-2.ensures) (search rules)

pub returns-then-not-branch : goal.returns-then-not-branch
returns-then-not-branch c = kept-no c.args.wide.now c.args.narrow.now c.args.found.now c.requires.finished c.in_ok-kept_are_apart.field-0 c.in_ok-kept_are_apart.ensures (search rules)

pub returns : goal.returns
returns c = covers-when c.args.wide.now c.args.narrow.now c.args.found.now c.requires.finished (c.values_fit.ensures.holds (search rules)) (c.objects_are_alike.ensures.holds (search rules))
    ((subst (λ (partners : List (Option ℕ)). (c.live_are_paired.result ≡ true) ↔ AreLivePaired (object_at c.args.wide.now.objects) (λ key. slice_index_or partners key None)) c.as_slice.ensures.value c.live_are_paired.ensures).0 (search rules))
    ((subst (λ (partners : List (Option ℕ)). (c.live_are_paired-2.result ≡ true) ↔ AreLivePaired (object_at c.args.narrow.now.objects) (λ key. slice_index_or partners key None)) c.as_slice-2.ensures.value c.live_are_paired-2.ensures).0 (search rules))
    (c.in_ok-kept_are_apart.ensures.0 (search rules)) c.pairs_are_apart-apart.result c.pairs_are_apart-apart.ensures
