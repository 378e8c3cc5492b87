-- Letters between shards: which lists of them a sender posts to a receiver.
use Rattle.std.specs.Prelude.{◌≡◌, ℕ, ◌+◌, nat_eq, if◌then◌else◌, sum_by, List, [], ◌∷◌, get_or, IfSome}
use Rattle.dp_steps.specs.Bounds.{IsBounded}
use Rattle.dp_steps.specs.States.{Inner}
use Rattle.dp_claims.specs.Enough.{Has}
use Rattle.state_layout.specs.Conditions.{IsNodeOf}
use Rattle.dp_model.specs.declared.whole.Model.{Model}
use Rattle.state_layout.specs.declared.node.Node.{Node}
use Rattle.pass_ledger.specs.declared.mail.Letter.{Letter}
use Rattle.pass_ledger.specs.declared.mail.Letter.TheVariants.{State, Mark}

abbrev pub sender : Letter → ℕ
sender (State from layer node) = from
sender (Mark from layer to_you total) = from

abbrev pub layer_of : Letter → ℕ
layer_of (State from layer node) = layer
layer_of (Mark from layer to_you total) = layer

-- the letters of one sender, or to one receiver
abbrev pub of : List (List Letter) → ℕ → List Letter
of letters j = get_or letters j []

-- Letters in groups, from a layer on of which n states have come: a group is the states of its layer and then its mark,
-- which tells their number. The last group may be unfinished.
abbrev pub InGroups : (layer n : ℕ) → List Letter → Type 0
InGroups l n [] = Unit {0}
InGroups l n (State from layer node ∷ rest) = (layer ≡ l) × InGroups l (n + 1) rest
InGroups l n (Mark from layer to_you total ∷ rest) = (layer ≡ l) × (to_you ≡ n) × InGroups (l + 1) 0 rest

-- The node of a letter is in order: its state is an inner state of the model, its cost so far is in range, and its floor, if
-- it has one, has an order word and is that cost joined with the tightest bound of its state.
pub record InOrder (m : Model) (n : Node) : Type 0 where
  pub is_node : IsNodeOf m n
  pub inner : Inner m n.state
  pub floor : IfSome n.floor (IsBounded m n.state n.cost)

-- The letters of one sender to one shard: groups for layers 1, 2, 3 and so on, and the nodes in order. Each prefix of such
-- a list is one.
pub record Posted (m : Model) (letters : List Letter) : Type 0 where
  pub groups : InGroups 1 0 letters
  pub nodes : (from layer : ℕ) (n : Node) → Has letters (State from layer n) → InOrder m n

-- how many states of a layer stand in a list, and in the lists to all receivers
abbrev pub is_at : ℕ → Letter → ℕ
is_at l (State from layer node) = if nat_eq layer l then 1 else 0
is_at l (Mark from layer to_you total) = 0

abbrev pub states_at : ℕ → List Letter → ℕ
states_at l letters = sum_by (is_at l) letters

abbrev pub all_states_at : ℕ → List (List Letter) → ℕ
all_states_at l posted = sum_by (states_at l) posted

-- what the marks of a layer tell their receivers, and the sum of what those to all receivers tell
abbrev pub tells_at : ℕ → Letter → ℕ
tells_at l (State from layer node) = 0
tells_at l (Mark from layer to_you total) = if nat_eq layer l then to_you else 0

abbrev pub told_at : ℕ → List Letter → ℕ
told_at l letters = sum_by (tells_at l) letters

abbrev pub all_told_at : ℕ → List (List Letter) → ℕ
all_told_at l posted = sum_by (told_at l) posted
