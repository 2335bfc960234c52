use Rattle.std.proofs.Common.{◌≡◌, ◌<◌, ◌-◌, ℕ, List, [], length, take, get_or, vec_len, subst, arith}
use Rattle.cgrammar.specs.Bounds.{Numbers}
use Rattle.cgrammar.proofs.Bounded.{bounds_left, restored_left}
use Rattle.cgrammar.proofs.bounds.Bounds.leave.Goals as goal

pub returns-in-Some-clause-bounds : goal.returns-in-Some-clause-bounds
returns-in-Some-clause-bounds c scopes is =
    let before : List Numbers = c.args.self.now.levels.items in
    let count : ℕ = vec_len c.args.self.now.levels in
    let all : count ≡ length before = omega arith in
    let some : 0 < count = omega (arith, c.in-Some.ensures.cases) in
    let told = c.in-Some.ensures.value [] some in
    let last : c.in-Some.earlier ≡ get_or before (count - 1) [] = cc told in
    let P : ℕ → Type 0 = λ n. c.in-Some.earlier ≡ get_or before (n - 1) [] in
    let Q : ℕ → Type 0 = λ n. c.pop-last.new.self.items ≡ take (n - 1) before in
    bounds_left scopes before c.pop-last.new.self.items c.restore.new.levels.items c.in-Some.earlier is (subst P all last) (subst Q all c.in-Some.ensures.rest)
    c.restore.ensures.count c.restore.ensures.first c.restore.ensures.others

pub returns-in-Some-clause-earlier : goal.returns-in-Some-clause-earlier
returns-in-Some-clause-earlier c =
    let before : List Numbers = c.args.self.now.levels.items in
    let count : ℕ = vec_len c.args.self.now.levels in
    let all : count ≡ length before = omega arith in
    let some : 0 < count = omega (arith, c.in-Some.ensures.cases) in
    let told = c.in-Some.ensures.value [] some in
    let last : c.in-Some.earlier ≡ get_or before (count - 1) [] = cc told in
    let P : ℕ → Type 0 = λ n. c.in-Some.earlier ≡ get_or before (n - 1) [] in
    let Q : ℕ → Type 0 = λ n. c.pop-last.new.self.items ≡ take (n - 1) before in
    restored_left before c.pop-last.new.self.items c.restore.new.levels.items c.in-Some.earlier (subst P all last) (subst Q all c.in-Some.ensures.rest)
    c.restore.ensures.first
