use Rattle.std.proofs.Common.{ℕ, ◌+◌, ◌≤◌, ◌++◌, List, Option, ℤ, take}
use Rattle.announcing.specs.Telling.{IsTold}
use Rattle.announcing.proofs.telling.look_all.Given as goal

-- the first costs were looked at
abbrev pub invariant-loop-i : goal.invariant-loop-i
invariant-loop-i g l = record {
  count : l.told.count ≤ l.initial.told.count + l.i;
  told : (last : Option ℤ) (before : List ℤ) (bytes : Option (List ℕ)) (faults : ℕ) → IsTold l.minimize last before bytes (g.S.Sink.taken l.initial.out) faults (g.S.Sink.faults l.initial.out) l.initial.told
      → IsTold l.minimize last (before ++ take l.i l.costs.items) bytes (g.S.Sink.taken l.out) faults (g.S.Sink.faults l.out) l.told;
}
