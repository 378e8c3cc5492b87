-- What is found of the target.
use Rattle.std.proofs.Common.{◌≡◌, ℕ, Bool, Option, None, Result, Ok, Err, ℤ, refl, sym, subst, ap}
use Rattle.dp_base.specs.Results.{◌>>=◌}
use Rattle.dp_model.specs.declared.parts.PlainState.{PlainState}
use Rattle.dp_model.specs.declared.whole.Model.{Model}
use Rattle.dp_steps.specs.States.{Inner}
use Rattle.state_layout.specs.declared.node.Node.{Node}
use Rattle.spot_eval.specs.Looks.{looked_at}
use Rattle.spot_eval.specs.declared.ends.SpotFault.{SpotFault}
use Rattle.spot_eval.specs.declared.looks.Look.{Look}
use Rattle.spot_eval.specs.declared.looks.Look.TheVariants as looks
use Rattle.successors.specs.Answers.{Met, here}
use Rattle.successors.specs.Starts.{started}
use Rattle.successors.specs.declared.starts.Start.{Start}
use Rattle.successors.specs.declared.starts.Start.TheVariants as starts
use Rattle.visit_laws.specs.Starts.{IsStart, StartBase, StartFaults, StartForbidden, StartOpen}
use Rattle.visit_laws.proofs.Batches.{node}
use Rattle.visit_laws.proofs.Looks.{look_faults, looked_base, looked_forbidden, looked_open}

-- what the look behind a start is
behind : (s : PlainState) (r : Result Look SpotFault) (start : Start) → (here r >>= λ look. Ok (started s look)) ≡ Ok start → (look : Look) × (r ≡ Ok look) × (started s look ≡ start)
behind s (Ok look) start e = (look, refl, cc)
behind s (Err met) start e = absurd (cc)

as_forbidden : (s : PlainState) (look : Look) → started s look ≡ starts.NotAllowed → look ≡ looks.NotAllowed
as_forbidden s looks.NotAllowed e = refl
as_forbidden s (looks.Base base) e = absurd (cc)
as_forbidden s (looks.Open floor) e = absurd (cc)

as_base : (s : PlainState) (look : Look) (base : ℤ) → started s look ≡ starts.Base base → look ≡ looks.Base base
as_base s looks.NotAllowed base e = absurd (cc)
as_base s (looks.Base b) base e = let same : b ≡ base = cc in ap looks.Base same
as_base s (looks.Open floor) base e = absurd (cc)

as_open : (s : PlainState) (look : Look) (n : Node) → started s look ≡ starts.Open n → (floor : Option ℤ) × (look ≡ looks.Open floor) × (node s None floor None 0 ≡ n)
as_open s looks.NotAllowed n e = absurd (cc)
as_open s (looks.Base base) n e = absurd (cc)
as_open s (looks.Open floor) n e = (floor, refl, cc)

pub start_forbidden : StartForbidden
start_forbidden m prune = (
  λ e.
      (let b = behind m.target (looked_at m prune m.target None) starts.NotAllowed e in
      (looked_forbidden m prune m.target None).0 (subst (λ (look : Look). looked_at m prune m.target None ≡ Ok look) (as_forbidden m.target b.0 b.2) b.1)),
  λ forbidden. rw ((looked_forbidden m prune m.target None).1 forbidden) refl,
)

pub start_base : StartBase
start_base m prune base = (
  λ e.
      (let b = behind m.target (looked_at m prune m.target None) (starts.Base base) e in
      (looked_base m prune m.target None base).0 (subst (λ (look : Look). looked_at m prune m.target None ≡ Ok look) (as_base m.target b.0 base b.2) b.1)),
  λ is. rw ((looked_base m prune m.target None base).1 is) refl,
)

opened : (m : Model) (prune : Bool) (n : Node) (floor : Option ℤ) → looked_at m prune m.target None ≡ Ok (looks.Open floor) → node m.target None floor None 0 ≡ n → Inner m m.target × IsStart m prune n
opened m prune n floor e same =
    let is = (looked_open m prune m.target None floor).0 e in
    (is.0, subst (λ (x : Node). IsStart m prune x) same (record { state = refl; cost = refl; floor = is.1; parent = refl; transition = refl }))

start_node : (m : Model) (prune : Bool) (n : Node) → IsStart m prune n → node m.target None n.floor None 0 ≡ n
start_node m prune n is =
    let states = is.state in
    let costs = is.cost in
    let parents = is.parent in
    let transitions = is.transition in
    let e : node m.target None n.floor None 0 ≡ node n.state n.cost n.floor n.parent n.transition = cc in
    e

pub start_open : StartOpen
start_open m prune n = (
  λ e.
      (let b = behind m.target (looked_at m prune m.target None) (starts.Open n) e in
      let o = as_open m.target b.0 n b.2 in
      opened m prune n o.0 (subst (λ (look : Look). looked_at m prune m.target None ≡ Ok look) o.1 b.1) o.2),
  λ is. rw ((looked_open m prune m.target None n.floor).1 (is.0, is.1.floor)) (ap (λ (x : Node). Ok (starts.Open x)) (start_node m prune n is.1)),
)

fault_behind : (s : PlainState) (r : Result Look SpotFault) (met : Met) → (here r >>= λ look. Ok (started s look)) ≡ Err met → (met.last ≡ None) × (r ≡ Err (record { spot = met.spot; kind = met.kind }))
fault_behind s (Ok look) met e = absurd (cc)
fault_behind s (Err other) met e =
    let told : Met = record { spot = other.spot; kind = other.kind; last = None } in
    let same : told ≡ met = cc in
    let fault : SpotFault = record { spot = met.spot; kind = met.kind } in
    let is : other ≡ fault = ap (λ (x : Met). fault_of x) same in
    (sym (ap (λ (x : Met). x.last) same), ap Err is)
  where
    fault_of : Met → SpotFault
    fault_of x = record { spot = x.spot; kind = x.kind }

pub start_faults : StartFaults
start_faults m prune met = (
  λ e.
      (let b = fault_behind m.target (looked_at m prune m.target None) met e in
      let is = (look_faults m prune None m.target (record { spot = met.spot; kind = met.kind })).0 b.1 in
      (b.0, is.0, is.1)),
  λ is.
      (let found = (look_faults m prune None m.target (record { spot = met.spot; kind = met.kind })).1 (is.1, is.2) in
      rw found (ap (λ (last : Option ℕ). Err (told_as met last)) (sym is.0))),
)
  where
    told_as : Met → Option ℕ → Met
    told_as met last = record { spot = met.spot; kind = met.kind; last = last }
