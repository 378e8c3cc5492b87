-- The lines that the program prints of solutions, passes, verdicts, refusals and models, as lists of bytes.
use Rattle.std.specs.Prelude.{ℕ, ◌+◌, Bool, true, false, List, [], ◌++◌, ◌∷◌, length, drop, slice_get, Option, Some, None, ℤ, codes, decimal, ◌==◌, if◌then◌else◌}
use Rattle.std.specs.List.{flat_map, prefix_len}
use Rattle.std.specs.Fmt.{signed_decimal}
use Rattle.dp_base.specs.Bytes.{line}
use Rattle.dp_base.specs.declared.place.Place.{Place}
use Rattle.dp_model.specs.StepTexts.{ground_of, step_text}
use Rattle.dp_model.specs.Typing.{effect_variable}
use Rattle.dp_model.specs.declared.answers.FaultAt.{FaultAt}
use Rattle.dp_model.specs.declared.answers.FaultKind.{FaultKind}
use Rattle.dp_model.specs.declared.answers.FaultKind.TheVariants as kinds
use Rattle.dp_model.specs.declared.answers.Spot.{Spot}
use Rattle.dp_model.specs.declared.answers.Spot.TheVariants as spots
use Rattle.dp_model.specs.declared.answers.Reason.{Reason}
use Rattle.dp_model.specs.declared.answers.Reason.TheVariants as reasons
use Rattle.dp_model.specs.declared.answers.Found.{Found}
use Rattle.dp_model.specs.declared.answers.Verdict.{Verdict}
use Rattle.dp_model.specs.declared.answers.Verdict.TheVariants as verdicts
use Rattle.dp_model.specs.declared.answers.Written.{Written}
use Rattle.dp_model.specs.declared.answers.Written.TheVariants as writtens
use Rattle.dp_model.specs.declared.parts.Cells.{Cells}
use Rattle.dp_model.specs.declared.parts.Cells.TheVariants as cells
use Rattle.dp_model.specs.declared.parts.Effect.{Effect}
use Rattle.dp_model.specs.declared.parts.Ground.{Ground}
use Rattle.dp_model.specs.declared.parts.JoinOp.{JoinOp}
use Rattle.dp_model.specs.declared.parts.JoinOp.TheVariants as joins
use Rattle.dp_model.specs.declared.parts.ObjectType.{ObjectType}
use Rattle.dp_model.specs.declared.parts.Preference.{Preference}
use Rattle.dp_model.specs.declared.parts.Preference.TheVariants as preferences
use Rattle.dp_model.specs.declared.parts.TableData.{TableData}
use Rattle.dp_model.specs.declared.parts.Transition.{Transition}
use Rattle.dp_model.specs.declared.parts.Variable.{Variable}
use Rattle.dp_model.specs.declared.parts.VarKind.{VarKind}
use Rattle.dp_model.specs.declared.parts.VarKind.TheVariants as var_kinds
use Rattle.dp_model.specs.declared.whole.Model.{Model}

abbrev pub step_lines : Model → List ℕ → List ℕ
step_lines m steps = flat_map (λ g. line (step_text m g)) steps

-- a solution behind the words in front of it
abbrev pub found_text : (front : List ℕ) → Model → Found → List ℕ
found_text front m s = line (front ++ signed_decimal s.cost ++ codes " " ++ decimal (length s.steps)) ++ step_lines m s.steps

abbrev pub solution_text : Model → Found → List ℕ
solution_text m s = found_text (codes "solution ") m s

-- a pass: its number from 1, how many nodes each shard kept per layer, and how many nodes it visited and dropped
abbrev pub pass_line : (number share visited dropped : ℕ) → List ℕ
pass_line number share visited dropped = line (codes "pass " ++ decimal number ++ codes " share " ++ decimal share ++ codes " visited " ++ decimal visited ++ codes " dropped " ++ decimal dropped)

-- the bound that the passes of a run have proved
abbrev pub bound_line : ℤ → List ℕ
bound_line cost = line (codes "bound " ++ signed_decimal cost)

-- the line of a search of the best node first
abbrev pub searched_line : (visited : ℕ) → List ℕ
searched_line visited = line (codes "search visited " ++ decimal visited)

-- how many costs were announced while a pass ran, and how many calls were refused
abbrev pub announced_line : (announced refused : ℕ) → List ℕ
announced_line announced refused = line (codes "announced " ++ decimal announced ++ codes " refused " ++ decimal refused)

abbrev pub kind_text : FaultKind → List ℕ
kind_text kinds.Range = codes "Range"
kind_text kinds.ZeroDivisor = codes "ZeroDivisor"
kind_text kinds.Negative = codes "Negative"
kind_text kinds.Index = codes "Index"

abbrev pub reason_text : Reason → List ℕ
reason_text reasons.NotAllowed = codes "NotAllowed"
reason_text reasons.AfterBase = codes "AfterBase"
reason_text reasons.NotBase = codes "NotBase"
reason_text reasons.Forced = codes "Forced"
reason_text reasons.NotEnabled = codes "NotEnabled"

-- the name of the variable that an effect sets
abbrev pub variable_text : Model → Option Effect → List ℕ
variable_text m None = []
variable_text m (Some e) = name (slice_get m.variables (effect_variable e))
  where
    name : Option Variable → List ℕ
    name None = []
    name (Some v) = v.name

abbrev pub effect_text : Model → Option (Transition × List ℕ) → ℕ → List ℕ
effect_text m None i = []
effect_text m (Some t) i = variable_text m (slice_get t.0.effects i)

-- places are printed from 1 on
abbrev pub ordinal : ℕ → List ℕ
ordinal i = decimal (i + 1)

abbrev pub spot_text : Model → Spot → List ℕ
spot_text m (spots.Constraint i) = codes "constraint " ++ ordinal i
spot_text m (spots.BaseCondition i j) = codes "base " ++ ordinal i ++ codes " condition " ++ ordinal j
spot_text m (spots.BaseCost i) = codes "base " ++ ordinal i ++ codes " cost"
spot_text m spots.Total = codes "total"
spot_text m (spots.Bound i) = codes "bound " ++ ordinal i
spot_text m (spots.Precondition g j) = step_text m g ++ codes " precondition " ++ ordinal j
spot_text m (spots.Weight g) = step_text m g ++ codes " weight"
spot_text m (spots.Cost g) = step_text m g ++ codes " cost"
spot_text m (spots.Effect g i) = step_text m g ++ codes " effect " ++ effect_text m (ground_of m g) i

-- a fault behind the words in front of it
abbrev pub fault_behind : (front : List ℕ) → Model → FaultAt → List ℕ
fault_behind front m f = front ++ kind_text f.kind ++ codes " at " ++ spot_text m f.spot ++ codes " after " ++ decimal (length f.steps)

abbrev pub fault_text : Model → FaultAt → List ℕ
fault_text m f = fault_behind (codes "verdict fault ") m f

abbrev pub verdict_text : Model → Verdict → List ℕ
verdict_text m (verdicts.Optimal c) = line (codes "verdict optimal " ++ signed_decimal c)
verdict_text m verdicts.Infeasible = line (codes "verdict infeasible")
verdict_text m (verdicts.Stopped v) = line (codes "verdict stopped " ++ decimal v)
verdict_text m (verdicts.Fault f) = line (fault_text m f) ++ step_lines m f.steps
verdict_text m (verdicts.Legal c) = line (codes "verdict legal " ++ signed_decimal c)
verdict_text m (verdicts.Illegal n r) = line (codes "verdict illegal " ++ decimal n ++ codes " " ++ reason_text r)

-- what stands behind the lines of a certificate that is not whole
abbrev pub written_text : Model → Written → List ℕ
written_text m writtens.Whole = []
written_text m (writtens.Stopped visits) = line (codes "certificate stopped " ++ decimal visits)
written_text m (writtens.Better found) = found_text (codes "certificate better ") m found
written_text m (writtens.Fault f) = line (fault_behind (codes "certificate fault ") m f) ++ step_lines m f.steps

-- ---- refusals

-- 1 is the domain, 2 the problem, and 3 the list of steps
abbrev pub file_name : ℕ → List ℕ
file_name file = if file == 1 then codes "domain" else (if file == 2 then codes "problem" else codes "list")

-- behind a column stands the offset in the expression, where the refusal is an expression's
abbrev pub offset_text : Option ℕ → List ℕ
offset_text None = []
offset_text (Some offset) = codes "+" ++ decimal offset

abbrev pub place_text : Place → Option ℕ → List ℕ
place_text place offset = file_name place.file ++ codes ":" ++ decimal place.line ++ codes ":" ++ decimal place.column ++ offset_text offset

-- each refusal by its number
abbrev pub refusals : List (ℕ × List ℕ)
refusals =
    (10, codes "NotUtf8")
    ∷ (11, codes "TabIndent")
    ∷ (13, codes "BadQuote")
    ∷ (14, codes "Unread")
    ∷ (15, codes "TwiceKey")
    ∷ (16, codes "TooDeep")
    ∷ (17, codes "OutOfProfile")
    ∷ (20, codes "BadToken")
    ∷ (21, codes "Unbalanced")
    ∷ (22, codes "Empty")
    ∷ (23, codes "Rest")
    ∷ (24, codes "TooNested")
    ∷ (30, codes "UnknownName")
    ∷ (31, codes "WrongKind")
    ∷ (32, codes "WrongCount")
    ∷ (33, codes "CostPlace")
    ∷ (34, codes "Continuous")
    ∷ (35, codes "TooMany")
    ∷ (40, codes "MissingKey")
    ∷ (41, codes "UnknownKey")
    ∷ (42, codes "BadNumber")
    ∷ (43, codes "TwiceName")
    ∷ (44, codes "BadIndex")
    ∷ (45, codes "BadTarget")
    ∷ (46, codes "MixedCost")
    ∷ (47, codes "CostForm")
    ∷ (48, codes "NoBase")
    ∷ (49, codes "TooMany")
    ∷ (50, codes "WrongShape")
    ∷ (51, codes "BadName")
    ∷ (52, codes "LeftOut")
    ∷ (70, codes "UnknownStep")
    ∷ (71, codes "BadArguments")
    ∷ (72, codes "BadCertificate")
    ∷ []

abbrev pub name_among : List (ℕ × List ℕ) → ℕ → List ℕ
name_among [] number = []
name_among (named ∷ others) number = if named.0 == number then named.1 else name_among others number

abbrev pub refusal_name : ℕ → List ℕ
refusal_name number = name_among refusals number

abbrev pub refusal_text : Place → Option ℕ → (number : ℕ) → List ℕ
refusal_text place offset number = line (codes "refused " ++ place_text place offset ++ codes " " ++ decimal number ++ codes " " ++ refusal_name number)

-- ---- models

abbrev pub direction_text : (minimize : Bool) → List ℕ
direction_text true = codes "min"
direction_text false = codes "max"

abbrev pub join_text : JoinOp → List ℕ
join_text joins.Plus = codes "plus"
join_text joins.Most = codes "max"
join_text joins.Least = codes "min"

-- the names of the domain and the problem, and how costs are compared and joined
abbrev pub head_text : Model → List ℕ
head_text m =
    line (codes "domain " ++ m.domain)
    ++ (line (codes "problem " ++ m.problem) ++ line (codes "reduce " ++ direction_text m.minimize ++ codes " join " ++ join_text m.join))

abbrev pub object_line : ObjectType → List ℕ
object_line o = line (codes "object " ++ o.name ++ codes " " ++ decimal o.count)

-- the name of an object type
abbrev pub object_text : Option ObjectType → List ℕ
object_text None = []
object_text (Some o) = o.name

abbrev pub holds_text : List ObjectType → VarKind → List ℕ
holds_text os var_kinds.Integer = codes "integer"
holds_text os (var_kinds.Element object) = codes "element " ++ object_text (slice_get os object)
holds_text os (var_kinds.Set object) = codes "set " ++ object_text (slice_get os object)

abbrev pub preference_text : Preference → List ℕ
preference_text preferences.Without = codes "without"
preference_text preferences.Less = codes "less"
preference_text preferences.Greater = codes "greater"

abbrev pub variable_words : List ObjectType → Variable → List ℕ
variable_words os v = codes "variable " ++ v.name ++ codes " " ++ (holds_text os v.kind ++ (codes " " ++ preference_text v.preference))

abbrev pub variable_line : List ObjectType → Variable → List ℕ
variable_line os v = line (variable_words os v)

abbrev pub cell_count : Cells → ℕ
cell_count (cells.Numbers xs) = length xs
cell_count (cells.Truths xs) = length xs
cell_count (cells.Sets object xs) = length xs

abbrev pub table_line : TableData → List ℕ
table_line t = line (codes "table " ++ t.name ++ codes " " ++ decimal (cell_count t.cells))

abbrev pub transition_line : Transition → (grounds : ℕ) → List ℕ
transition_line t grounds = line (codes "transition " ++ t.name ++ codes " " ++ decimal grounds)

-- how many of the ground transitions from the front on are the transition's of this number
abbrev pub front_count : (number : ℕ) → List Ground → ℕ
front_count number gs = prefix_len (λ (g : Ground). g.transition == number) gs

-- the transitions from this number on, each with the number of its ground transitions, which stand in order of definition
abbrev pub transition_lines : (number : ℕ) → List Transition → List Ground → List ℕ
transition_lines number [] gs = []
transition_lines number (t ∷ ts) gs = transition_line t (front_count number gs) ++ transition_lines (number + 1) ts (drop (front_count number gs) gs)

abbrev pub counts_text : Model → List ℕ
counts_text m =
    line (codes "ground " ++ decimal (length m.dp_ground))
    ++ (line (codes "constraints " ++ decimal (length m.constraints))
    ++ (line (codes "bases " ++ decimal (length m.base_cases)) ++ line (codes "bounds " ++ decimal (length m.bounds))))

-- what was understood of a model
abbrev pub show_text : Model → List ℕ
show_text m =
    head_text m
    ++ (flat_map object_line m.objects
    ++ (flat_map (variable_line m.objects) m.variables
    ++ (flat_map table_line m.tables ++ (transition_lines 0 m.transitions m.dp_ground ++ counts_text m))))
