use Rattle.std.proofs.Common.{◌≡◌, map, arith}
use Rattle.std.proofs.lemmas.Grind.{common_steps}
use Rattle.ctokens.specs.Passed.{unpassed}
use Rattle.definitions.specs.Rows.{outermost, sign_of}
use Rattle.definitions.proofs.Kept.{kept_bytes}
use Rattle.definitions.proofs.row.signs.Goals as goal

pub returns-clause-bytes : goal.returns-clause-bytes
returns-clause-bytes c =
    let value : c.loop-i.row.items ≡ outermost 0 (map (sign_of c.args.text.now) (unpassed c.args.passed.now c.args.tokens.now)) = grind (arith, common_steps) in
    kept_bytes c.args.text.now c.args.passed.now c.args.tokens.now c.loop-i.row.items c.requires.bytes value
