-- What is answered of an item that is refused: why it is not read, or what is broken in it.
use Rattle.std.specs.Prelude.{ℕ, ◌&&◌, nat_le, if◌then◌else◌, slice_get, option_map, unwrap_or}
use Rattle.cbase.specs.declared.place.Place.{Place}
use Rattle.cbase.specs.Refused.{construct_count}
use Rattle.cgrammar.specs.Terminals.{no_place}
use Rattle.cread.specs.declared.unread.Unread.{Unread}
use Rattle.cread.specs.declared.unread.Unread.TheVariants as unread
use Rattle.ctokens.specs.declared.token.Tokens.{Tokens}
use Rattle.typing.specs.declared.ctypes.found.Broken.{Broken}
use Rattle.typing.specs.declared.ctypes.found.Broken.TheVariants as broken
use Rattle.typing.specs.declared.fault.Fault.{Fault}
use Rattle.ccheck.specs.declared.refusal.Refusal.{Refusal}
use Rattle.ccheck.specs.declared.refusal.Refusal.TheVariants.{Construct, Syntax, Rule}

-- an item that is not read
abbrev pub of_unread : Unread → Refusal
of_unread (unread.Construct number place) = Construct number place
of_unread (unread.Syntax place) = Syntax place

-- the place of the token before which so many stand; past the last one there is none
abbrev pub place_at : Tokens → ℕ → Place
place_at t number = unwrap_or (option_map (λ token. token.place) (slice_get t.list number)) no_place

-- what is broken at a place: a construct that is given up has one of the numbers of these, and what had another would be no C that is read
abbrev pub of_broken : Place → Broken → Refusal
of_broken place (broken.Rule number) = Rule number place
of_broken place (broken.Construct number) = if nat_le 1 number && nat_le number construct_count then Construct number place else Syntax place

-- in an item that is read: trees keep with each place how many tokens stand before it
abbrev pub of_fault : Tokens → Fault → Refusal
of_fault t fault = of_broken (place_at t fault.place.at) fault.broken
