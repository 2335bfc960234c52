use Rattle.std.proofs.Common.{◌≡◌, List, length, sym, ap, ◌∙◌, true, slice_get, rules}
use Rattle.cbase.specs.declared.ctype.CType.{CType}
use Rattle.cbase.specs.Completing.{is_open}
use Rattle.cbase.specs.KeptStructs.{IsLaid}
use Rattle.cbase.proofs.KeptStructs.{fields_refused, fields_taken}
use Rattle.std.specs.Prelude.{option_map}
use Rattle.typing.specs.declared.ctypes.structs.Laid.{Laid}
use Rattle.typing.specs.declared.ctypes.structs.Entry.{Entry}
use Rattle.typing.specs.ctypes.Places.{find_in, ArePlaces, AreInOrder}
use Rattle.typing.specs.ctypes.Table.{types_of}
use Rattle.typing.specs.ctypes.Structs.{read_off, fields_of}
use Rattle.typing.proofs.ctypes.Closing.{open_found, open_within, completed_laid, completed_structs}
use Rattle.typing.proofs.ctypes.types.Types.complete.Goals as goal

pub returns-in-None-clause-answer : goal.returns-in-None-clause-answer
returns-in-None-clause-answer c =
    fields_refused c.args.self.now.structs c.args.number (fields_of c.args.self.now.types c.args.members) (option_map (λ (l : Laid). l.layout) c.in_ok-lay.field-0) (rw (sym c.as_slice.ensures) c.in_ok-lay.ensures.layout) (ap (option_map (λ (l : Laid). l.layout)) c.in-None.is)

pub close-requires : goal.close-requires
close-requires c =
    let types : List CType = types_of c.self.inside.shapes.keys in
    let is : is_open (slice_get (read_off types c.deref.result.now) c.args.number) ≡ true = sym (c.is_open.ensures types) ∙ search rules in
    rw (sym c.deref.ensures.value) (open_within types c.deref.result.now c.args.number is)

pub invariant_of-self : goal.invariant_of-self
invariant_of-self c =
    let types : List CType = types_of c.self.inside.shapes.keys in
    let entries : List Entry = c.self.inside.structs.items in
    let is : is_open (slice_get (read_off types entries) c.args.number) ≡ true = rw (sym c.deref.ensures.value) (sym (c.is_open.ensures types) ∙ search rules) in
    let from = open_found types entries c.args.number is in
    let laid : IsLaid (read_off types entries) (fields_of types c.args.members) c.in-Some.laid.layout =
    (sym (rw (sym c.self.view_is, c.as_slice.ensures) at c.in_ok-lay.ensures.layout) ∙ ap (option_map (λ (l : Laid). l.layout)) c.in-Some.is, rw c.in-Some.is at c.in_ok-lay.ensures.small) in
    let placed : ArePlaces (read_off types entries) (fields_of types c.args.members) c.args.members (find_in c.in-Some.laid.places.entries) =
    rw (sym c.self.view_is, c.as_slice.ensures, c.in-Some.is) at c.in_ok-lay.ensures.places in
    let in_order : AreInOrder (length c.args.members) (read_off types entries) (fields_of types c.args.members) c.args.members c.in-Some.laid.in_order.items =
    rw (sym c.self.view_is, c.as_slice.ensures, c.in-Some.is) at c.in_ok-lay.ensures.in_order in
    rw (c.close.ensures from.0 from.1) record {
      apart = c.self.invariant.apart;
      beside = c.self.invariant.beside;
      laid = completed_laid types entries c.args.number from.0 c.args.members c.in-Some.laid c.self.invariant.laid from.1 from.2 (rw (sym c.self.view_is) at c.requires) laid placed in_order;
    }

pub returns-in-Some-clause-answer : goal.returns-in-Some-clause-answer
returns-in-Some-clause-answer c =
    let types : List CType = types_of c.self.inside.shapes.keys in
    let is : is_open (slice_get c.args.self.now.structs c.args.number) ≡ true = rw (sym c.self.view_is, sym c.deref.ensures.value) (sym (c.is_open.ensures types) ∙ search rules) in
    fields_taken c.args.self.now.structs c.args.number (fields_of c.args.self.now.types c.args.members) c.in-Some.laid.layout (option_map (λ (l : Laid). l.layout) c.in_ok-lay.field-0) is (rw (sym c.as_slice.ensures) c.in_ok-lay.ensures.layout) (ap (option_map (λ (l : Laid). l.layout)) c.in-Some.is)

pub returns-in-Some-clause-after : goal.returns-in-Some-clause-after
returns-in-Some-clause-after c =
    let types : List CType = types_of c.self.inside.shapes.keys in
    let entries : List Entry = c.self.inside.structs.items in
    let is : is_open (slice_get (read_off types entries) c.args.number) ≡ true = rw (sym c.deref.ensures.value) (sym (c.is_open.ensures types) ∙ search rules) in
    let from = open_found types entries c.args.number is in
    rw (c.close.ensures from.0 from.1, sym c.self.view_is) (completed_structs types entries c.args.number from.0 c.args.members c.in-Some.laid from.1)
