use Rattle.std.proofs.Common.{rules, ◌≡◌, ◌<◌, ℕ, length, sym, subst}
use Rattle.graph.specs.Meaning.{maps_of}
use Rattle.cover.proofs.Marks.{kept-below}
use Rattle.cover.proofs.kept.kept_are_apart.Goals as goal

pub are_marked_once-apart-requires-clause-room : goal.are_marked_once-apart-requires-clause-room
are_marked_once-apart-requires-clause-room c = λ one key is.
    let long : length c.in_ok-marks.marks.items ≡ length c.args.narrow.now.values = search rules in
    subst (λ (count : ℕ). key < count) (sym long) (kept-below (maps_of c.args.wide.now) c.args.narrow.now c.args.found.now c.value_count.ensures.graph c.requires.fitting one key is)
