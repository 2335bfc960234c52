use Rattle.std.proofs.Common.{◌≡◌, [], Some, get_or, set, subst, arith}
use Rattle.std.proofs.lemmas.Result.{on_ok_weaker}
use Rattle.cgrammar.specs.Bounds.{Numbers}
use Rattle.cgrammar.specs.NameTables.{value_in}
use Rattle.cgrammar.proofs.Bounded.{grow_put, put_at, same_read}
use Rattle.cgrammar.proofs.bounds.raise_earlier.Goals as goal

pub returns-clause-kept : goal.returns-clause-kept
returns-clause-kept c =
    let known : value_in c.args.name.now c.index_mut.result.now ≡ Some c.in-Some.bound =
    same_read c.args.name.now c.args.earlier.now.items c.args.at c.index.result.now c.index_mut.result.now (Some c.in-Some.bound)
    c.requires.within c.index.ensures c.index_mut.ensures.value c.in-Some.ensures in
    grow_put c.put.result c.args.earlier.now.items c.args.at c.args.name.now c.args.least c.in-Some.bound c.put.new.self c.index_mut.result.now
    c.requires.within c.index_mut.ensures.value known (omega (arith, c.if-bound-least.false)) c.put.ensures.ok c.put.ensures.err

pub returns-clause-ok : goal.returns-clause-ok
returns-clause-ok c = on_ok_weaker c.put.result
    (λ is number has.
    let P : Numbers → Type 0 = λ numbers. value_in c.args.name.now (get_or (set c.args.earlier.now.items c.args.at numbers) c.args.at []) ≡ Some number in
    put_at c.args.earlier.now.items c.args.at c.args.name.now c.args.least c.index_mut.result.now number c.requires.within (subst P is has)) c.put.ensures.ok
