-- What is kept while the lines of a certificate are read: how many lines were read, that layers follow one another, and that
-- all steps are ground transitions.
use Rattle.std.proofs.Common.{◌≡◌, ℕ, suc, ◌+◌, ◌-◌, ◌<◌, ◌≤◌, ◌&&◌, ◌==◌, codes, decimal, Bool, true, false, List, [], ◌∷◌, ◌++◌, length, Option, Some, None, refl, sym, ap, ◌∙◌, subst, arith, length-append}
use Rattle.std.specs.Prelude.{if◌then◌else◌, ⊤, ℤ, nat_lt, option_map, option_and_then, slice_get}
use Rattle.std.specs.List.{list_all, sum_by}
use Rattle.std.specs.Option.{option_or}
use Rattle.std.specs.Str.{bytes_eq}
use Rattle.std.specs.Bool.{Decides}
use Rattle.std.proofs.lemmas.Bool.Decides.{Decides-eqb, nat_tests, not_from_Decides}
use Rattle.std.proofs.lemmas.List.Folds.{list_all-append}
use Rattle.std.proofs.lemmas.List.Sums.{sum_by-cons, sum_by_push}
use Rattle.dp_model.specs.declared.answers.Claim.{Claim}
use Rattle.dp_model.specs.declared.answers.Claim.TheVariants as claims
use Rattle.dp_model.specs.declared.answers.Keep.{Keep}
use Rattle.dp_model.specs.declared.parts.Ground.{Ground}
use Rattle.dp_model.specs.declared.whole.Model.{Model}
use Rattle.step_names.specs.Lines.{is_blank_line}
use Rattle.step_names.specs.StepNames.{named_from, step_named}
use Rattle.dp_model.specs.StepTexts.{step_text}
use Rattle.cert_types.specs.Lines.{line_of_end, lines_of_layer}
use Rattle.cert_types.specs.Parents.{is_start}
use Rattle.cert_text.specs.Named.{claims_steps, names_step}
use Rattle.cert_text.proofs.Links.{and_left, and_right, and_true, are_linked, claim_size, fits, is_layer, is_made_in, last_is_end, last_line, linked_made, linked_parents}
use Rattle.cert_text.specs.Words.{behind, word, number_said, number_behind, cost_said}
use Rattle.cert_text.specs.Said.{IsFew, IsSound, begun, claimed, counted, ended, flagged, is_end, keep_said, last_width, layer_begun, layered, listed, listing, looked, made_from, next, no_layer, node_behind, node_said, parted, prune_said, pruned, target_said, unless_none, width_of, width_said, with_node}
use Rattle.cert_types.specs.declared.nodes.CertNode.{CertNode}
use Rattle.cert_text.specs.declared.said.Body.{Body}
use Rattle.cert_text.specs.declared.said.Listing.{Listing}
use Rattle.cert_text.specs.declared.said.Said.{Said}
use Rattle.cert_text.specs.declared.said.Said.TheVariants as states
use Rattle.cert_text.specs.declared.said.Start.{Start}

-- ---- what an option that was mapped came from

pub mapped : {A B : Type 0} (f : A → B) (o : Option A) (y : B) → option_map f o ≡ Some y → (x : A) × (o ≡ Some x) × (y ≡ f x)
mapped f None y h = absurd (cc)
mapped f (Some x) y h = (x, refl, (cc))

pub followed_by : {A B : Type 0} (f : A → Option B) (o : Option A) (y : B) → option_and_then f o ≡ Some y → (x : A) × (o ≡ Some x) × (f x ≡ Some y)
followed_by f None y h = absurd (cc)
followed_by f (Some x) y h = (x, refl, h)

-- ---- ground transitions

named_step : (at g n : ℕ) (rest : Option ℕ) (test : Bool) → (rest ≡ Some g → g < at + 1 + n) → option_or (if test then Some at else None) rest ≡ Some g → g < at + suc n
named_step at g n rest true later is = let same : at ≡ g = cc in omega arith
named_step at g n rest false later is = let within : g < at + 1 + n = later is in omega arith

named_within : (m : Model) (line : List ℕ) (gs : List Ground) (at g : ℕ) → named_from m at gs line ≡ Some g → g < at + length gs
named_within m line [] at g h = absurd (cc)
named_within m line (x ∷ gs) at g h = named_step at g (length gs) (named_from m (at + 1) gs line) (bytes_eq (step_text m at) line) (named_within m line gs (at + 1) g) h

pub step_within : (m : Model) (line : List ℕ) (g : ℕ) → step_named m line ≡ Some g → g < length m.dp_ground
step_within m line g h = let within : g < 0 + length m.dp_ground = named_within m line m.dp_ground 0 g h in omega arith

-- ---- layers

-- the last of these layers, which follow that one
abbrev pub last_of : (before : Option (List CertNode)) → List (List CertNode) → Option (List CertNode)
last_of before [] = before
last_of before (nodes ∷ more) = last_of (Some nodes) more

-- one more layer
pub linked_more : (before : Option (List CertNode)) (layers : List (List CertNode)) (nodes : List CertNode) → are_linked before layers ≡ true → is_layer (last_of before layers) nodes ≡ true → are_linked before (layers ++ nodes ∷ []) ≡ true
linked_more before [] nodes linked fits = and_true (is_layer before nodes) true fits refl
linked_more before (x ∷ layers) nodes linked fits =
    and_true (is_layer before x) (are_linked (Some x) (layers ++ nodes ∷ [])) (and_left (is_layer before x) (are_linked (Some x) layers) linked) (linked_more (Some x) layers nodes (and_right (is_layer before x) (are_linked (Some x) layers) linked) fits)

pub last_more : (before : Option (List CertNode)) (layers : List (List CertNode)) (nodes : List CertNode) → last_of before (layers ++ nodes ∷ []) ≡ Some nodes
last_more before [] nodes = refl
last_more before (x ∷ layers) nodes = last_more (Some x) layers nodes

last_at : (before : Option (List CertNode)) (x : List CertNode) (layers : List (List CertNode)) → slice_get (x ∷ layers) (length layers) ≡ last_of before (x ∷ layers)
last_at before x [] = refl
last_at before x (y ∷ layers) = last_at (Some x) y layers

pub last_is : (x : List CertNode) (layers : List (List CertNode)) → slice_get (x ∷ layers) (length (x ∷ layers) - 1) ≡ last_of None (x ∷ layers)
last_is x layers = ap (slice_get (x ∷ layers)) (let e : length (x ∷ layers) - 1 ≡ length layers = omega arith in e) ∙ last_at None x layers

all_more : {A : Type 0} (p : A → Bool) (xs : List A) (x : A) → list_all p xs ≡ true → p x ≡ true → list_all p (xs ++ x ∷ []) ≡ true
all_more p xs x all one = list_all-append p xs (x ∷ []) ∙ and_true (list_all p xs) (p x && true) all (and_true (p x) true one refl)

sum_more : {A : Type 0} (f : A → ℕ) (xs : List A) (x : A) → sum_by f (xs ++ x ∷ []) ≡ sum_by f xs + f x
sum_more f xs x = sum_by_push f xs x

-- no layer has more nodes than all have lines
width_of-le : (before : Option (List CertNode)) (layers : List (List CertNode)) → width_of (last_of before layers) ≤ sum_by lines_of_layer layers + width_of before
width_of-le before [] = omega arith
width_of-le before (x ∷ layers) = let more : width_of (last_of (Some x) layers) ≤ sum_by lines_of_layer layers + length x = width_of-le (Some x) layers in
    let all : sum_by lines_of_layer (x ∷ layers) ≡ lines_of_layer x + sum_by lines_of_layer layers = sum_by-cons lines_of_layer x layers in
    omega arith

last_width-le : (layers : List (List CertNode)) → last_width layers ≤ sum_by lines_of_layer layers
last_width-le [] = omega arith
last_width-le (x ∷ layers) =
    let same : last_width (x ∷ layers) ≡ width_of (last_of None (x ∷ layers)) = ap width_of (last_is x layers) in
    let most : width_of (last_of None (x ∷ layers)) ≤ sum_by lines_of_layer (x ∷ layers) + 0 = width_of-le None (x ∷ layers) in
    omega arith

-- ---- nodes

-- a node that may stand in the layer behind these
abbrev pub IsNext : Model → List (List CertNode) → CertNode → Type 0
IsNext m layers node = (fits (last_of None layers) node ≡ true) × (names_step (length m.dp_ground) node ≡ true)

target_fits : (m : Model) (line : List ℕ) (node : CertNode) → target_said line ≡ Some node → (is_start node ≡ true) × (names_step (length m.dp_ground) node ≡ true)
target_fits m line node h = by (bytes_eq line (codes "node - open")) (bytes_eq line (codes "node - cut")) h
  where
    as_target : (cut : Bool) → Some (record { made = None; cut = cut }) ≡ Some node → (is_start node ≡ true) × (names_step (length m.dp_ground) node ≡ true)
    as_target cut is =
        let same : record { made = None; cut = cut } ≡ node = cc in
        subst (λ (n : CertNode). (is_start n ≡ true) × (names_step (length m.dp_ground) n ≡ true)) same (refl, refl)

    by : (first second : Bool) → (if first then Some (record { made = None; cut = false }) else (if second then Some (record { made = None; cut = true }) else None)) ≡ Some node → (is_start node ≡ true) × (names_step (length m.dp_ground) node ≡ true)
    by true second is = as_target false is
    by false true is = as_target true is
    by false false is = absurd (cc)

-- a step that a flag stands in front of
flag_within : (m : Model) (text : List ℕ) (cut : Bool) (flag : List ℕ) (f : Bool × ℕ) → option_map (λ (g : ℕ). (cut, g)) (option_and_then (step_named m) (behind flag text)) ≡ Some f → f.1 < length m.dp_ground
flag_within m text cut flag f h =
    let named = mapped (λ (g : ℕ). (cut, g)) (option_and_then (step_named m) (behind flag text)) f h in
    let rest = followed_by (step_named m) (behind flag text) named.0 named.1 in
    let within : named.0 < length m.dp_ground = step_within m rest.0 named.0 rest.2 in
    subst (λ (x : Bool × ℕ). x.1 < length m.dp_ground) (sym named.2) within

either : (o p : Option (Bool × ℕ)) (f : Bool × ℕ) (P : Type 0) → (o ≡ Some f → P) → (p ≡ Some f → P) → option_or o p ≡ Some f → P
either None p f P first second h = second h
either (Some x) p f P first second h = first h

flagged_within : (m : Model) (text : List ℕ) (f : Bool × ℕ) → flagged m text ≡ Some f → f.1 < length m.dp_ground
flagged_within m text f h =
    either (option_map (λ (g : ℕ). (false, g)) (option_and_then (step_named m) (behind (codes "open ") text))) (option_map (λ (g : ℕ). (true, g)) (option_and_then (step_named m) (behind (codes "cut ") text))) f (f.1 < length m.dp_ground)
    (flag_within m text false (codes "open ") f) (flag_within m text true (codes "cut ") f) h

less_tests : (a b : ℕ) → a < b → nat_lt a b ≡ true
less_tests a b h = grind (arith, nat_tests)

made_fits : (m : Model) (width parent : ℕ) (text : List ℕ) (node : CertNode) → made_from m width parent text ≡ Some node → (is_made_in width node ≡ true) × (names_step (length m.dp_ground) node ≡ true)
made_fits m width parent text node h = by (nat_lt parent width) refl h
  where
    by : (test : Bool) → test ≡ nat_lt parent width → (if test then option_map (λ (f : Bool × ℕ). record { made = Some (record { parent = parent; dp_ground = f.1 }); cut = f.0 }) (flagged m text) else None) ≡ Some node → (is_made_in width node ≡ true) × (names_step (length m.dp_ground) node ≡ true)
    by true tests is =
        let made = mapped (λ (f : Bool × ℕ). record { made = Some (record { parent = parent; dp_ground = f.1 }); cut = f.0 }) (flagged m text) node is in
        let within : made.0.1 < length m.dp_ground = flagged_within m text made.0 made.1 in
        subst (λ (n : CertNode). (is_made_in width n ≡ true) × (names_step (length m.dp_ground) n ≡ true)) (sym made.2) (sym tests, less_tests made.0.1 (length m.dp_ground) within)
    by false tests is = absurd (cc)

node_fits : (m : Model) (width : ℕ) (line : List ℕ) (node : CertNode) → node_said m width line ≡ Some node → (is_made_in width node ≡ true) × (names_step (length m.dp_ground) node ≡ true)
node_fits m width line node h =
    let words = followed_by (parted m width) (option_and_then word (behind (codes "node ") line)) node h in
    let parent = followed_by (λ (parent : ℕ). made_from m width parent words.0.1) (number_said words.0.0) node words.2 in
    made_fits m width parent.0 words.0.1 node parent.2

later_one : (test : Bool) (first second : Option CertNode) (node : CertNode) → test ≡ false → (if test then first else second) ≡ Some node → second ≡ Some node
later_one true first second node h is = absurd (cc)
later_one false first second node h is = is

pub node_next : (m : Model) (layers : List (List CertNode)) (line : List ℕ) (node : CertNode) → node_behind m layers line ≡ Some node → IsNext m layers node
node_next m [] line node h = target_fits m line node h
node_next m (x ∷ layers) line node h =
    let some : (length (x ∷ layers) == 0) ≡ false = (let more : 0 < length (x ∷ layers) = omega arith in grind (arith, nat_tests)) in
    let made = node_fits m (last_width (x ∷ layers)) line node (later_one (length (x ∷ layers) == 0) (target_said line) (node_said m (last_width (x ∷ layers)) line) node some h) in
    let width : last_width (x ∷ layers) ≡ width_of (last_of None (x ∷ layers)) = ap width_of (last_is x layers) in
    (fits_last (last_of None (x ∷ layers)) (last_some (Some x) layers refl) (subst (λ (w : ℕ). is_made_in w node ≡ true) width made.0), made.1)
  where
    IsThere : Option (List CertNode) → Type 0
    IsThere None = ⊥
    IsThere (Some before) = ⊤

    last_some : (before : Option (List CertNode)) (layers : List (List CertNode)) → before ≡ Some x → IsThere (last_of before layers)
    last_some None layers is = absurd (cc)
    last_some (Some y) layers is = from y layers
      where
        from : (y : List CertNode) (layers : List (List CertNode)) → IsThere (last_of (Some y) layers)
        from y [] = tt
        from y (z ∷ layers) = from z layers

    fits_last : (before : Option (List CertNode)) → IsThere before → is_made_in (width_of before) node ≡ true → fits before node ≡ true
    fits_last None there made = absurd there
    fits_last (Some before) there made = made

-- ---- what was said so far

-- What the layers keep that were read up to the line of this number: where no node is due, all lines are those of whole layers.
pub record KeepsLayers (m : Model) (n : ℕ) (start : Start) (claim : Claim) (b : Body) : Type 0 where
  pub closed : b.due ≡ 0 → (b.nodes ≡ []) × (start.first + 2 + claim_size claim + sum_by lines_of_layer b.layers ≡ n)
  pub opened : 0 < b.due → start.first + 3 + claim_size claim + sum_by lines_of_layer b.layers + length b.nodes ≡ n
  pub steps : claims_steps (length m.dp_ground) claim ≡ true
  pub made : are_linked None b.layers ≡ true
  pub named : list_all (list_all (names_step (length m.dp_ground))) b.layers ≡ true
  pub fitting : is_layer (last_of None b.layers) b.nodes ≡ true
  pub named_nodes : list_all (names_step (length m.dp_ground)) b.nodes ≡ true

pub record KeepsWhole (m : Model) (n : ℕ) (start : Start) (claim : Claim) (layers : List (List CertNode)) : Type 0 where
  pub lines : last_line start.first claim layers ≤ n
  pub steps : claims_steps (length m.dp_ground) claim ≡ true
  pub made : are_linked None layers ≡ true
  pub named : list_all (list_all (names_step (length m.dp_ground))) layers ≡ true

abbrev pub Keeps : Model → (n : ℕ) → Said → Type 0
Keeps m n (states.Nothing marked) = ⊤
Keeps m n (states.Kept first keep) = first + 1 ≡ n
Keeps m n (states.Pruned start) = start.first + 2 ≡ n
Keeps m n (states.Claimed start cost) = start.first + 3 ≡ n
Keeps m n (states.Steps start l) = (start.first + 4 + length l.steps ≡ n) × (list_all (λ g. nat_lt g (length m.dp_ground)) l.steps ≡ true)
Keeps m n (states.Layers start claim b) = KeepsLayers m n start claim b
Keeps m n (states.Ended start claim layers) = KeepsWhole m n start claim layers

looked_keeps : (m : Model) (n : ℕ) (marked : Bool) (line : List ℕ) → Keeps m (n + 1) (looked marked (n + 1) line)
looked_keeps m n false line = tt
looked_keeps m n true line = by (keep_said line)
  where
    by : (keep : Option Keep) → Keeps m (n + 1) (begun (n + 1) line keep)
    by None = tt
    by (Some keep) = omega arith

no_layer_keeps : (m : Model) (n : ℕ) (start : Start) (claim : Claim) → start.first + 2 + claim_size claim ≡ n → claims_steps (length m.dp_ground) claim ≡ true → KeepsLayers m n start claim no_layer
no_layer_keeps m n start claim lines steps = record {
  closed = λ _. (refl, (omega arith));
  opened = λ more. absurd (omega arith);
  steps = steps;
  made = refl;
  named = refl;
  fitting = refl;
  named_nodes = refl;
}

listing_keeps : (m : Model) (n : ℕ) (start : Start) (l : Listing) → start.first + 4 + length l.steps ≡ n → list_all (λ g. nat_lt g (length m.dp_ground)) l.steps ≡ true → Keeps m n (listing start l)
listing_keeps m n start l lines steps = by (l.due == 0)
  where
    by : (test : Bool) → Keeps m n (if test then states.Layers start (claims.Optimal (record { cost = l.cost; steps = l.steps })) no_layer else states.Steps start l)
    by true = no_layer_keeps m n start (claims.Optimal (record { cost = l.cost; steps = l.steps })) (omega arith) steps
    by false = (lines, steps)

moved : (m : Model) (n : ℕ) (later said : Said) → later ≡ said → Keeps m n said → Keeps m n later
moved m n later said is keeps = subst (Keeps m n) (sym is) keeps

pruned_keeps : (m : Model) (n first : ℕ) (keep : Keep) (line : List ℕ) (later : Said) → first + 1 ≡ n → pruned first keep line ≡ Some later → Keeps m (n + 1) later
pruned_keeps m n first keep line later lines h =
    let one = mapped (λ (prune : Bool). states.Pruned (record { first = first; keep = keep; prune = prune })) (prune_said line) later h in
    moved m (n + 1) later (states.Pruned (record { first = first; keep = keep; prune = one.0 })) one.2 (omega arith)

claimed_keeps : (m : Model) (n : ℕ) (start : Start) (line : List ℕ) (later : Said) → start.first + 2 ≡ n → claimed start line ≡ Some later → Keeps m (n + 1) later
claimed_keeps m n start line later lines h = by (bytes_eq line (codes "claim infeasible")) h
  where
    by : (test : Bool) → (if test then Some (states.Layers start claims.Infeasible no_layer) else option_map (λ (cost : ℤ). states.Claimed start cost) (option_and_then cost_said (behind (codes "claim optimal ") line))) ≡ Some later → Keeps m (n + 1) later
    by true is =
        let same : states.Layers start claims.Infeasible no_layer ≡ later = cc in
        subst (Keeps m (n + 1)) same (no_layer_keeps m (n + 1) start claims.Infeasible (omega arith) refl)
    by false is =
        let one = mapped (λ (cost : ℤ). states.Claimed start cost) (option_and_then cost_said (behind (codes "claim optimal ") line)) later is in
        moved m (n + 1) later (states.Claimed start one.0) one.2 (omega arith)

counted_keeps : (m : Model) (n : ℕ) (start : Start) (cost : ℤ) (line : List ℕ) (later : Said) → start.first + 3 ≡ n → counted start cost line ≡ Some later → Keeps m (n + 1) later
counted_keeps m n start cost line later lines h =
    let one = mapped (λ (due : ℕ). listing start (record { cost = cost; steps = []; due = due })) (number_behind (codes "steps ") line) later h in
    moved m (n + 1) later (listing start (record { cost = cost; steps = []; due = one.0 })) one.2
    (listing_keeps m (n + 1) start (record { cost = cost; steps = []; due = one.0 }) (let e : start.first + 4 + 0 ≡ n + 1 = omega arith in e) refl)

listed_keeps : (m : Model) (n : ℕ) (start : Start) (l : Listing) (line : List ℕ) (later : Said) → start.first + 4 + length l.steps ≡ n → list_all (λ g. nat_lt g (length m.dp_ground)) l.steps ≡ true → listed m start l line ≡ Some later → Keeps m (n + 1) later
listed_keeps m n start l line later lines steps h =
    let one = mapped (λ (g : ℕ). listing start (record { cost = l.cost; steps = l.steps ++ g ∷ []; due = l.due - 1 })) (step_named m line) later h in
    let within : one.0 < length m.dp_ground = step_within m line one.0 one.1 in
    let longer : length (l.steps ++ one.0 ∷ []) ≡ length l.steps + 1 = length-append l.steps (one.0 ∷ []) in
    moved m (n + 1) later (listing start (record { cost = l.cost; steps = l.steps ++ one.0 ∷ []; due = l.due - 1 })) one.2
    (listing_keeps m (n + 1) start (record { cost = l.cost; steps = l.steps ++ one.0 ∷ []; due = l.due - 1 }) (let e : start.first + 4 + length (l.steps ++ one.0 ∷ []) ≡ n + 1 = omega arith in e)
    (all_more (λ g. nat_lt g (length m.dp_ground)) l.steps one.0 steps (less_tests one.0 (length m.dp_ground) within)))

some_due : (o : Option ℕ) (due : ℕ) → option_and_then unless_none o ≡ Some due → 0 < due
some_due None due h = absurd (cc)
some_due (Some x) due h = by (x == 0) (Decides-eqb x 0) h
  where
    by : (test : Bool) → Decides test (x ≡ 0) → (if test then None else Some x) ≡ Some due → 0 < due
    by true decides is = absurd (cc)
    by false decides is = let same : x ≡ due = cc in let none : x ≡ 0 → ⊥ = not_from_Decides false decides refl in omega arith

layer_begun_keeps : (m : Model) (n : ℕ) (start : Start) (claim : Claim) (b : Body) (line : List ℕ) (later : Said) → KeepsLayers m n start claim b → b.due ≡ 0 → layer_begun start claim b.layers line ≡ Some later → Keeps m (n + 1) later
layer_begun_keeps m n start claim b line later keeps none h = by (is_end (length b.layers) line) h
  where
    lines : start.first + 2 + claim_size claim + sum_by lines_of_layer b.layers ≡ n
    lines = (keeps.closed none).1

    by : (test : Bool) → (if test then Some (states.Ended start claim b.layers) else option_map (λ (due : ℕ). states.Layers start claim (record { layers = b.layers; nodes = []; due = due })) (width_said (length b.layers) line)) ≡ Some later → Keeps m (n + 1) later
    by true is =
        let same : states.Ended start claim b.layers ≡ later = cc in
        subst (Keeps m (n + 1)) same (record { lines = omega (arith, lines); steps = keeps.steps; made = keeps.made; named = keeps.named })
    by false is =
        let one = mapped (λ (due : ℕ). states.Layers start claim (record { layers = b.layers; nodes = []; due = due })) (width_said (length b.layers) line) later is in
        let some : 0 < one.0 = some_due (number_behind (codes "layer " ++ decimal (length b.layers) ++ codes " ") line) one.0 one.1 in
        moved m (n + 1) later (states.Layers start claim (record { layers = b.layers; nodes = []; due = one.0 })) one.2
        (record {
          closed = λ is_none. absurd (omega (arith, some, is_none));
          opened = λ _. (omega (arith, lines));
          steps = keeps.steps;
          made = keeps.made;
          named = keeps.named;
          fitting = refl;
          named_nodes = refl;
        })

with_node_keeps : (m : Model) (n : ℕ) (start : Start) (claim : Claim) (b : Body) (node : CertNode) → KeepsLayers m n start claim b → 0 < b.due → IsNext m b.layers node → KeepsLayers m (n + 1) start claim (with_node b node)
with_node_keeps m n start claim b node keeps some next = by (b.due == 1) (Decides-eqb b.due 1)
  where
    lines : start.first + 3 + claim_size claim + sum_by lines_of_layer b.layers + length b.nodes ≡ n
    lines = keeps.opened some

    nodes : List CertNode
    nodes = b.nodes ++ node ∷ []

    longer : length nodes ≡ length b.nodes + 1
    longer = length-append b.nodes (node ∷ [])

    fitting : is_layer (last_of None b.layers) nodes ≡ true
    fitting = all_more (fits (last_of None b.layers)) b.nodes node keeps.fitting next.0

    named_nodes : list_all (names_step (length m.dp_ground)) nodes ≡ true
    named_nodes = all_more (names_step (length m.dp_ground)) b.nodes node keeps.named_nodes next.1

    more : sum_by lines_of_layer (b.layers ++ nodes ∷ []) ≡ sum_by lines_of_layer b.layers + (1 + length nodes)
    more = sum_more lines_of_layer b.layers nodes

    by : (test : Bool) → Decides test (b.due ≡ 1) → KeepsLayers m (n + 1) start claim (if test then record { layers = b.layers ++ nodes ∷ []; nodes = []; due = 0 } else record { layers = b.layers; nodes = nodes; due = b.due - 1 })
    by true decides = record {
      closed = λ _. (refl, (omega (arith, lines, longer, more)));
      opened = λ is. absurd (omega (arith, is));
      steps = keeps.steps;
      made = linked_more None b.layers nodes keeps.made fitting;
      named = all_more (list_all (names_step (length m.dp_ground))) b.layers nodes keeps.named named_nodes;
      fitting = refl;
      named_nodes = refl;
    }
    by false decides =
        let other : b.due ≡ 1 → ⊥ = not_from_Decides false decides refl in
        record {
          closed = λ is. absurd (omega (arith, some, other, is));
          opened = λ _. (omega (arith, lines, longer));
          steps = keeps.steps;
          made = keeps.made;
          named = keeps.named;
          fitting = fitting;
          named_nodes = named_nodes;
        }

layered_keeps : (m : Model) (n : ℕ) (start : Start) (claim : Claim) (b : Body) (line : List ℕ) (later : Said) → KeepsLayers m n start claim b → layered m start claim b line ≡ Some later → Keeps m (n + 1) later
layered_keeps m n start claim b line later keeps h = by (b.due == 0) (Decides-eqb b.due 0) h
  where
    by : (test : Bool) → Decides test (b.due ≡ 0) → (if test then layer_begun start claim b.layers line else option_map (λ (node : CertNode). states.Layers start claim (with_node b node)) (node_behind m b.layers line)) ≡ Some later → Keeps m (n + 1) later
    by true decides is = layer_begun_keeps m n start claim b line later keeps (decides.0 refl) is
    by false decides is =
        let other : b.due ≡ 0 → ⊥ = not_from_Decides false decides refl in
        let some : 0 < b.due = omega (arith, other) in
        let one = mapped (λ (node : CertNode). states.Layers start claim (with_node b node)) (node_behind m b.layers line) later is in
        moved m (n + 1) later (states.Layers start claim (with_node b one.0)) one.2 (with_node_keeps m n start claim b one.0 keeps some (node_next m b.layers line one.0 one.1))

ended_keeps : (m : Model) (n : ℕ) (start : Start) (claim : Claim) (layers : List (List CertNode)) (line : List ℕ) (later : Said) → KeepsWhole m n start claim layers → ended start claim layers line ≡ Some later → Keeps m (n + 1) later
ended_keeps m n start claim layers line later keeps h = by (is_blank_line line) h
  where
    by : (test : Bool) → (if test then Some (states.Ended start claim layers) else None) ≡ Some later → Keeps m (n + 1) later
    by true is =
        let same : states.Ended start claim layers ≡ later = cc in
        subst (Keeps m (n + 1)) same (record { lines = omega (arith, keeps.lines); steps = keeps.steps; made = keeps.made; named = keeps.named })
    by false is = absurd (cc)

-- one more line
pub next_keeps : (m : Model) (n : ℕ) (said : Said) (line : List ℕ) (later : Said) → Keeps m n said → next m (n + 1) said line ≡ Some later → Keeps m (n + 1) later
next_keeps m n (states.Nothing marked) line later keeps h = let same : looked marked (n + 1) line ≡ later = cc in subst (Keeps m (n + 1)) same (looked_keeps m n marked line)
next_keeps m n (states.Kept first keep) line later keeps h = pruned_keeps m n first keep line later keeps h
next_keeps m n (states.Pruned start) line later keeps h = claimed_keeps m n start line later keeps h
next_keeps m n (states.Claimed start cost) line later keeps h = counted_keeps m n start cost line later keeps h
next_keeps m n (states.Steps start l) line later keeps h = listed_keeps m n start l line later keeps.0 keeps.1 h
next_keeps m n (states.Layers start claim b) line later keeps h = layered_keeps m n start claim b line later keeps h
next_keeps m n (states.Ended start claim layers) line later keeps h = ended_keeps m n start claim layers line later keeps h

-- what the code needs of it
pub few_from_keeps : (m : Model) (n : ℕ) (said : Said) → n < 4294967296 → Keeps m n said → IsFew said
few_from_keeps m n (states.Nothing marked) small keeps = tt
few_from_keeps m n (states.Kept first keep) small keeps = tt
few_from_keeps m n (states.Pruned start) small keeps = tt
few_from_keeps m n (states.Claimed start cost) small keeps = tt
few_from_keeps m n (states.Steps start l) small keeps = tt
few_from_keeps m n (states.Ended start claim layers) small keeps = tt
few_from_keeps m n (states.Layers start claim b) small keeps = by (b.due == 0) (Decides-eqb b.due 0)
  where
    most : last_width b.layers ≤ sum_by lines_of_layer b.layers
    most = last_width-le b.layers

    by : (test : Bool) → Decides test (b.due ≡ 0) → last_width b.layers < 4294967296
    by true decides = let lines = (keeps.closed (decides.0 refl)).1 in omega (arith, lines, most)
    by false decides =
        let other : b.due ≡ 0 → ⊥ = not_from_Decides false decides refl in
        let some : 0 < b.due = omega (arith, other) in
        let lines = keeps.opened some in
        omega (arith, lines, most)

pub sound_from_keeps : (m : Model) (n : ℕ) (said : Said) → n < 4294967296 → Keeps m n said → IsSound said
sound_from_keeps m n (states.Nothing marked) small keeps = tt
sound_from_keeps m n (states.Kept first keep) small keeps = tt
sound_from_keeps m n (states.Pruned start) small keeps = tt
sound_from_keeps m n (states.Claimed start cost) small keeps = tt
sound_from_keeps m n (states.Steps start l) small keeps = tt
sound_from_keeps m n (states.Layers start claim b) small keeps = tt
sound_from_keeps m n (states.Ended start claim layers) small keeps =
    let is : last_line start.first claim layers ≡ line_of_end start.first claim layers = last_is_end start.first claim layers in
    let most : line_of_end start.first claim layers < 4294967296 = omega (arith, keeps.lines, is) in
    (linked_made layers keeps.made, linked_parents layers keeps.made, most)
