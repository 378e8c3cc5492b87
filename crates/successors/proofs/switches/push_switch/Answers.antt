use Rattle.std.proofs.Common.{◌≡◌, ◌+◌, [], ◌∷◌, ◌++◌, length, refl, arith, rules}
use Rattle.successors.proofs.Cases.{lengthened, one_behind}
use Rattle.successors.proofs.switches.push_switch.Goals as goal

pub returns-then-is_next-clause-switches : goal.returns-then-is_next-clause-switches
returns-then-is_next-clause-switches c = λ m numbers g are there kind case.
    let is : c.push.new.self.items ≡ c.args.switches.now.items ++ record { variable = c.args.wanted.variable; number = c.args.wanted.number; count = 1 } ∷ [] = search rules in
    let more = one_behind m numbers c.args.switches.now.items c.push.new.self.items g c.args.wanted.variable c.args.wanted.number is are there kind case in
    let next = c.if-is_next.ensures refl in
    let ends : c.args.head + c.index.result.now.count ≡ length c.args.switches.now.items = omega (arith, c.if-head-place.true, next.2, c.len-place.ensures) in
    lengthened m numbers c.push.new.self.items c.args.head (length c.args.switches.now.items) g c.args.wanted.variable c.args.wanted.number c.index.result.now c.index_mut.result.now more
    (omega (arith, c.if-head-place.true, c.len-place.ensures, c.in_ok-push.ensures.len)) c.index.ensures c.index_mut.ensures.value next.0 ends next.3 next.4 there case

pub returns-clause-switches : goal.returns-clause-switches
returns-clause-switches c = λ m numbers g are there kind case.
    let is : c.push.new.self.items ≡ c.args.switches.now.items ++ record { variable = c.args.wanted.variable; number = c.args.wanted.number; count = 1 } ∷ [] = search rules in
    one_behind m numbers c.args.switches.now.items c.push.new.self.items g c.args.wanted.variable c.args.wanted.number is are there kind case
