use Rattle.std.proofs.Common.{◌∙◌, ap, length, arith}
use Rattle.ctokens.specs.NeedSearch.{walk}
use Rattle.ctokens.proofs.Found.{found_size}
use Rattle.ctokens.proofs.need_search.found.Goals as goal

pub numbers-requires : goal.numbers-requires
numbers-requires c =
    let entries = c.args.entries.now in
    let size = found_size entries c.args.count c.walk.new.self
    (c.in_ok-walk.ensures ∙ ap (λ state. walk entries (length entries) 0 state) c.in_ok-found.ensures) in
    omega arith
