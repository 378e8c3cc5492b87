-- What the check of a certificate tells: the lines of its text are looked at in order, up to the first at which a clause fails.
-- Model, states and transitions are evaluated in the order in which they always are, so that a fault that comes first is
-- told.
use Rattle.std.specs.Prelude.{ℕ, ◌+◌, Bool, true, false, ◌||◌, ◌&&◌, if◌then◌else◌, List, [], ◌∷◌, ◌++◌, length, zero, suc, Option, Some, None, Result, Ok, Err, ℤ, int_le, nat_eq}
use Rattle.std.specs.List.{flat_map, range_with_len}
use Rattle.dp_base.specs.Results.{◌>>=◌}
use Rattle.dp_model.specs.Costs.{join_onto, ranged}
use Rattle.dp_model.specs.StepTexts.{ground_of}
use Rattle.dp_model.specs.declared.answers.Claim.{Claim}
use Rattle.dp_model.specs.declared.answers.Claim.TheVariants.{Optimal, Infeasible}
use Rattle.dp_model.specs.declared.answers.Keep.{Keep}
use Rattle.dp_model.specs.declared.answers.Keep.TheVariants.{Layer, All}
use Rattle.dp_model.specs.declared.answers.Spot.TheVariants as spots
use Rattle.dp_model.specs.declared.parts.PlainState.{PlainState}
use Rattle.dp_model.specs.declared.parts.Transition.{Transition}
use Rattle.dp_model.specs.declared.whole.Model.{Model}
use Rattle.spot_eval.specs.Answers.{at_spot}
use Rattle.spot_eval.specs.Looks.{floor_at, looked_at}
use Rattle.spot_eval.specs.Moves.{cost_at, may_step_at, next_at}
use Rattle.spot_eval.specs.declared.ends.SpotFault.{SpotFault}
use Rattle.spot_eval.specs.declared.looks.Look.{Look}
use Rattle.spot_eval.specs.declared.looks.Look.TheVariants as looks
use Rattle.replay_list.specs.Replays.{replayed}
use Rattle.replay_list.specs.declared.replayed.Reached.{Reached}
use Rattle.replay_list.specs.declared.replayed.Replayed.{Replayed}
use Rattle.replay_list.specs.declared.replayed.Replayed.TheVariants.{Legal, Illegal, Faulted}
use Rattle.state_layout.specs.Slots.{slots_of}
use Rattle.dom_store.specs.Covering.{bare}
use Rattle.dom_store.specs.Past.{covers_past, is_past}
use Rattle.dom_store.specs.declared.past_node.PastNode.{PastNode}
use Rattle.cert_types.specs.Lines.{line_of_claim, line_of_node}
use Rattle.cert_types.specs.declared.cert.Cert.{Cert}
use Rattle.cert_types.specs.declared.nodes.CertNode.{CertNode}
use Rattle.cert_laws.specs.Shown.{claimed_word, layer_of, list_of, word}
use Rattle.cert_laws.specs.declared.answers.CertReason.{CertReason}
use Rattle.cert_laws.specs.declared.answers.CertReason.TheVariants as reasons
use Rattle.cert_laws.specs.declared.answers.Checked.{Checked}
use Rattle.cert_laws.specs.declared.answers.Checked.TheVariants.{Yes, No}

-- why a clause fails, where this goes on with a value: a fault alone makes it fail
abbrev pub unless_fault : {A : Type 0} → (A → Option CertReason) → Result A SpotFault → Option CertReason
unless_fault go (Ok x) = go x
unless_fault go (Err met) = Some reasons.Fault

-- it fails for this reason where the test does not hold
abbrev pub must : Bool → CertReason → Option CertReason
must true reason = None
must false reason = Some reason

-- there is a number, and its word is not less than the claimed word
abbrev pub is_high : Model → Claim → Option ℤ → Bool
is_high m claim None = false
is_high m claim (Some n) = int_le (claimed_word m claim) (word m (Some n))

-- ---- where the list of a node leads

-- a value, or that a fault rejects the node
abbrev pub or_fault : {A : Type 0} → Result A SpotFault → Result A CertReason
or_fault (Ok x) = Ok x
or_fault (Err met) = Err reasons.Fault

-- a state with its cost so far, which must turn out to be inner
abbrev pub entered_as : PlainState → Option ℤ → Look → Result Reached CertReason
entered_as s cost looks.NotAllowed = Err reasons.Node
entered_as s cost (looks.Base base) = Err reasons.Node
entered_as s cost (looks.Open floor) = Ok (record { state = s; cost = cost })

abbrev pub entered : Model → PlainState → Option ℤ → Result Reached CertReason
entered m s cost = or_fault (looked_at m false s cost) >>= entered_as s cost

-- the state that a transition leads to, with the joined cost, or the first fault
abbrev pub moved : Model → Reached → ℕ → Transition × List ℕ → Result Reached SpotFault
moved m here g t = cost_at m here.state here.cost g t >>= λ cost. next_at m here.state g t >>= λ next. Ok (record { state = next; cost = cost })

-- where a transition that may step leads
abbrev pub led : Model → Reached → ℕ → Option (Transition × List ℕ) → Result Reached CertReason
led m here g None = Err reasons.Node
led m here g (Some t) = or_fault (moved m here g t) >>= λ next. entered m next.state next.cost

abbrev pub led_if : Model → Reached → ℕ → (may : Bool) → Result Reached CertReason
led_if m here g true = led m here g (ground_of m g)
led_if m here g false = Err reasons.Node

-- where a step leads, which must be considered and enabled
abbrev pub stepped : Model → Reached → ℕ → Result Reached CertReason
stepped m here g = or_fault (may_step_at m here.state g) >>= led_if m here g

-- where a list leads
abbrev pub walked : Model → Reached → List ℕ → Result Reached CertReason
walked m here [] = Ok here
walked m here (g ∷ gs) = stepped m here g >>= λ next. walked m next gs

-- the target, which must be inner too
abbrev pub start : Model → Result Reached CertReason
start m = entered m m.target None

-- the inner state that the list of the node at a place leads to, or why its line is rejected
abbrev pub node_at : Model → Cert → (l place : ℕ) → Result Reached CertReason
node_at m cert l place = start m >>= λ here. walked m here (list_of cert.layers l place)

-- ---- what covers

-- what covers by a node, if it stands: its state and its cost so far
abbrev pub if_stands : Result Reached CertReason → List PastNode
if_stands (Ok here) = record { state = here.state; cost = here.cost } ∷ []
if_stands (Err reason) = []

-- the nodes of a layer that stand
abbrev pub standing : Model → Cert → (l : ℕ) → List PastNode
standing m cert l = flat_map (λ place. if_stands (node_at m cert l place)) (range_with_len 0 (length (layer_of cert.layers l)))

-- those of all layers up to one
abbrev pub standing_up_to : Model → Cert → (l : ℕ) → List PastNode
standing_up_to m cert zero = standing m cert 0
standing_up_to m cert (suc l) = standing_up_to m cert l ++ standing m cert (suc l)

-- those that may cover a node of this layer
abbrev pub covering : Model → Cert → Keep → (layer : ℕ) → List PastNode
covering m cert Layer layer = standing m cert layer
covering m cert All layer = standing_up_to m cert layer

-- one of these covers the state with its cost so far
abbrev pub is_covered : Model → (prune : Bool) → List PastNode → PlainState → Option ℤ → Bool
is_covered m prune past s cost = is_past (covers_past prune m.minimize m.join (slots_of m.objects m.variables)) past (bare s cost)

-- ---- clause 5: the steps from an open node, where these nodes may cover what they lead to

abbrev pub base_fails : Model → Cert → Option ℤ → (base : ℤ) → Option CertReason
base_fails m cert cost base = unless_fault (λ total. must (is_high m cert.claim (Some total)) reasons.Step) (at_spot spots.Total (ranged (join_onto m.join cost base)))

abbrev pub successor_fails : Model → Cert → List PastNode → PlainState → Option ℤ → Look → Option CertReason
successor_fails m cert past s cost looks.NotAllowed = None
successor_fails m cert past s cost (looks.Base base) = base_fails m cert cost base
successor_fails m cert past s cost (looks.Open floor) = must (is_high m cert.claim floor || is_covered m cert.prune past s cost) reasons.Step

abbrev pub looked_fails : Model → Cert → List PastNode → Reached → Option CertReason
looked_fails m cert past next = unless_fault (successor_fails m cert past next.state next.cost) (looked_at m cert.prune next.state next.cost)

abbrev pub taken_fails : Model → Cert → List PastNode → Reached → ℕ → Option (Transition × List ℕ) → Option CertReason
taken_fails m cert past here g None = None
taken_fails m cert past here g (Some t) = unless_fault (looked_fails m cert past) (moved m here g t)

-- A transition that is not considered or not enabled makes no clause fail, also where this is so by a fault.
abbrev pub step_fails_if : Model → Cert → List PastNode → Reached → ℕ → Result Bool SpotFault → Option CertReason
step_fails_if m cert past here g (Ok true) = taken_fails m cert past here g (ground_of m g)
step_fails_if m cert past here g (Ok false) = None
step_fails_if m cert past here g (Err met) = None

abbrev pub step_fails : Model → Cert → List PastNode → Reached → ℕ → Option CertReason
step_fails m cert past here g = step_fails_if m cert past here g (may_step_at m here.state g)

-- the first that is there
abbrev pub first_of : (ℕ → Option CertReason) → List ℕ → Option CertReason
first_of fails [] = None
first_of fails (g ∷ gs) = or_later (fails g) (first_of fails gs)
  where
    or_later : Option CertReason → Option CertReason → Option CertReason
    or_later None later = later
    or_later (Some reason) later = Some reason

abbrev pub steps_fail : Model → Cert → List PastNode → Reached → Option CertReason
steps_fail m cert past here = first_of (step_fails m cert past here) (range_with_len 0 (length m.dp_ground))

-- ---- clauses 3 to 5, at the line of a node

abbrev pub cut_fails : Model → Cert → Reached → Option CertReason
cut_fails m cert here = unless_fault (λ floor. must (is_high m cert.claim floor) reasons.Cut) (floor_at m cert.prune here.state here.cost)

abbrev pub node_fails_at : Model → Cert → List PastNode → CertNode → Result Reached CertReason → Option CertReason
node_fails_at m cert past n (Ok here) = if n.cut then cut_fails m cert here else steps_fail m cert past here
node_fails_at m cert past n (Err reason) = Some reason

-- What a node of a layer leads to may be covered by nodes of the next one, or of those up to it.
abbrev pub node_fails : Model → Cert → (l place : ℕ) → CertNode → Option CertReason
node_fails m cert l place n = node_fails_at m cert (covering m cert cert.keep (l + 1)) n (node_at m cert l place)

-- ---- clause 2, at the line `certificate 1`

abbrev pub target_fails_by : Model → Cert → Look → Option CertReason
target_fails_by m cert looks.NotAllowed = None
target_fails_by m cert (looks.Base base) = must (is_high m cert.claim (Some base)) reasons.Target
target_fails_by m cert (looks.Open floor) = Some reasons.Target

-- layer 0 is one node alone
abbrev pub is_alone : List (List CertNode) → Bool
is_alone [] = false
is_alone (nodes ∷ layers) = nat_eq (length nodes) 1

-- where layer 0 is not one node, the target's constraints and base cases are evaluated
abbrev pub target_fails : Model → Cert → Option CertReason
target_fails m cert = if is_alone cert.layers then None else unless_fault (target_fails_by m cert) (looked_at m false m.target None)

-- ---- clause 1, at the line of the claim

abbrev pub list_fails : (cost : ℤ) → Replayed → Option CertReason
list_fails cost (Legal total) = must (int_le cost total && int_le total cost) reasons.Claim
list_fails cost (Illegal done why) = Some reasons.Claim
list_fails cost (Faulted done spot kind) = Some reasons.Fault

abbrev pub claim_fails : Model → Claim → Option CertReason
claim_fails m (Optimal found) = list_fails found.cost (replayed m found.steps)
claim_fails m Infeasible = None

-- ---- the lines, in the order of the text

-- a line at which a clause fails for this reason, or else what is told of the lines behind it
abbrev pub told_at : (line : ℕ) → Option CertReason → Checked → Checked
told_at line None later = later
told_at line (Some reason) later = No line reason

-- the nodes of a layer from a place on
abbrev pub layer_told : Model → Cert → (l place : ℕ) → List CertNode → Checked
layer_told m cert l place [] = Yes
layer_told m cert l place (n ∷ ns) = told_at (line_of_node cert.first cert.claim cert.layers l place) (node_fails m cert l place n) (layer_told m cert l (place + 1) ns)

-- what is told of some lines, and else of those behind them
abbrev pub then_told : Checked → Checked → Checked
then_told Yes later = later
then_told (No line reason) later = No line reason

-- the layers from one on
abbrev pub layers_told : Model → Cert → (l : ℕ) → List (List CertNode) → Checked
layers_told m cert l [] = Yes
layers_told m cert l (nodes ∷ layers) = then_told (layer_told m cert l 0 nodes) (layers_told m cert (l + 1) layers)

-- what the check of a certificate tells
abbrev pub checked : Model → Cert → Checked
checked m cert = told_at cert.first (target_fails m cert) (told_at (line_of_claim cert.first) (claim_fails m cert.claim) (layers_told m cert 0 cert.layers))
