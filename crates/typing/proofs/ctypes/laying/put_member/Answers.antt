use Rattle.std.proofs.Common.{◌≡◌, ℕ, false, List, Option, None, Some, refl, sym, ap, ◌∙◌, rules}
use Rattle.std.specs.Prelude.{is_some, if◌then◌else◌}
use Rattle.std.specs.Str.{bytes_eq}
use Rattle.typing.specs.declared.ctypes.structs.MemberAt.{MemberAt}
use Rattle.typing.specs.ctypes.Places.{find_in, first_of}
use Rattle.typing.proofs.ctypes.Placing.{put_new}
use Rattle.typing.proofs.ctypes.laying.put_member.Goals as goal

none_of : (found : Option MemberAt) → is_some found ≡ false → found ≡ None
none_of None e = refl
none_of (Some at) e = cc

pub returns-clause-places : goal.returns-clause-places
returns-clause-places c = λ other.
    let no : c.contains_key.result ≡ false = search rules in
    let absent : find_in c.args.places.now.entries c.args.name.now ≡ None = none_of (find_in c.args.places.now.entries c.args.name.now) (sym c.contains_key.ensures ∙ no) in
    ap (λ es. find_in es other) c.in_ok-insert.ensures.entries
    ∙ (put_new c.in_ok-copy.copy c.args.at c.args.places.now.entries (ap (find_in c.args.places.now.entries) c.in_ok-copy.ensures.items ∙ absent) other
    ∙ ap (λ (n : List ℕ). first_of (find_in c.args.places.now.entries other) (if bytes_eq other n then Some c.args.at else None)) c.in_ok-copy.ensures.items)
