-- What the lines of a text say of a certificate, read one after another: `next` says which line may follow those before it,
-- and what it adds. The first line that may not follow is the one that a text is refused for.
use Rattle.std.specs.Prelude.{IsTrue, ℕ, ◌+◌, ◌-◌, ◌<◌, ⊤, Bool, true, false, ◌==◌, nat_lt, if◌then◌else◌, List, [], ◌∷◌, ◌++◌, length, slice_get, Option, Some, None, option_map, option_and_then, Result, Ok, Err, ℤ, codes, decimal}
use Rattle.std.specs.Option.{option_or}
use Rattle.std.specs.Str.{bytes_eq}
use Rattle.std.specs.Str.Lines.{lines}
use Rattle.dp_model.specs.declared.answers.Claim.{Claim}
use Rattle.dp_model.specs.declared.answers.Claim.TheVariants as claims
use Rattle.dp_model.specs.declared.answers.Keep.{Keep}
use Rattle.dp_model.specs.declared.answers.Keep.TheVariants as keeps
use Rattle.dp_model.specs.declared.whole.Model.{Model}
use Rattle.step_names.specs.Lines.{is_blank_line, line_place, byte_place, bad_byte}
use Rattle.step_names.specs.StepNames.{step_named}
use Rattle.cert_types.specs.Lines.{line_of_end}
use Rattle.cert_types.specs.Parents.{are_made, have_parents}
use Rattle.cert_types.specs.Parts.{Parts}
use Rattle.cert_text.specs.Words.{behind, word, number_said, number_behind, cost_said}
use Rattle.cert_text.specs.declared.ends.CertTextEnd.{CertTextEnd}
use Rattle.cert_text.specs.declared.ends.CertTextEnd.TheVariants.{Bad, NotUtf8, Memory}
use Rattle.cert_types.specs.declared.nodes.CertNode.{CertNode}
use Rattle.cert_text.specs.declared.said.Body.{Body}
use Rattle.cert_text.specs.declared.said.Listing.{Listing}
use Rattle.cert_text.specs.declared.said.Said.{Said}
use Rattle.cert_text.specs.declared.said.Said.TheVariants as states
use Rattle.cert_text.specs.declared.said.Start.{Start}

-- ---- the head

abbrev pub is_mark : List ℕ → Bool
is_mark line = bytes_eq line (codes "certificate 1")

abbrev pub keep_said : List ℕ → Option Keep
keep_said line = if bytes_eq line (codes "keep layer") then Some keeps.Layer else (if bytes_eq line (codes "keep all") then Some keeps.All else None)

abbrev pub prune_said : List ℕ → Option Bool
prune_said line = if bytes_eq line (codes "prune on") then Some true else (if bytes_eq line (codes "prune off") then Some false else None)

-- what is said where a line `keep ..` follows a line `certificate 1`, which stands in the line before this number
abbrev pub begun : (number : ℕ) → List ℕ → Option Keep → Said
begun number line (Some keep) = states.Kept (number - 1) keep
begun number line None = states.Nothing (is_mark line)

-- A line before the certificate, of which any may stand there. The one before it was `certificate 1` or was not.
abbrev pub looked : (marked : Bool) → (number : ℕ) → List ℕ → Said
looked true number line = begun number line (keep_said line)
looked false number line = states.Nothing (is_mark line)

abbrev pub pruned : (first : ℕ) → Keep → List ℕ → Option Said
pruned first keep line = option_map (λ (prune : Bool). states.Pruned (record { first = first; keep = keep; prune = prune })) (prune_said line)

-- ---- the claim

abbrev pub no_layer : Body
no_layer = record { layers = []; nodes = []; due = 0 }

-- the steps of a claimed list, of which some are due
abbrev pub listing : Start → Listing → Said
listing start l = if l.due == 0 then states.Layers start (claims.Optimal (record { cost = l.cost; steps = l.steps })) no_layer else states.Steps start l

abbrev pub claimed : Start → List ℕ → Option Said
claimed start line =
    if bytes_eq line (codes "claim infeasible") then Some (states.Layers start claims.Infeasible no_layer)
    else option_map (λ (cost : ℤ). states.Claimed start cost) (option_and_then cost_said (behind (codes "claim optimal ") line))

abbrev pub counted : Start → ℤ → List ℕ → Option Said
counted start cost line = option_map (λ (due : ℕ). listing start (record { cost = cost; steps = []; due = due })) (number_behind (codes "steps ") line)

abbrev pub listed : Model → Start → Listing → List ℕ → Option Said
listed m start l line = option_map (λ (g : ℕ). listing start (record { cost = l.cost; steps = l.steps ++ g ∷ []; due = l.due - 1 })) (step_named m line)

-- ---- layers

-- the nodes of the target's layer
abbrev pub target_said : List ℕ → Option CertNode
target_said line =
    if bytes_eq line (codes "node - open") then Some (record { made = None; cut = false })
    else (if bytes_eq line (codes "node - cut") then Some (record { made = None; cut = true }) else None)

-- the step behind `open ` or `cut `, and which of both
abbrev pub flagged : Model → List ℕ → Option (Bool × ℕ)
flagged m text =
    option_or (option_map (λ (g : ℕ). (false, g)) (option_and_then (step_named m) (behind (codes "open ") text)))
    (option_map (λ (g : ℕ). (true, g)) (option_and_then (step_named m) (behind (codes "cut ") text)))

-- a node that was made from this place in the layer before, which has so many nodes
abbrev pub made_from : Model → (width parent : ℕ) → (text : List ℕ) → Option CertNode
made_from m width parent text =
    if nat_lt parent width then option_map (λ (f : Bool × ℕ). record { made = Some (record { parent = parent; dp_ground = f.1 }); cut = f.0 }) (flagged m text) else None

-- the place of the parent, and what stands behind it
abbrev pub parted : Model → (width : ℕ) → List ℕ × List ℕ → Option CertNode
parted m width words = option_and_then (λ (parent : ℕ). made_from m width parent words.1) (number_said words.0)

-- a node of a later layer
abbrev pub node_said : Model → (width : ℕ) → List ℕ → Option CertNode
node_said m width line = option_and_then (parted m width) (option_and_then word (behind (codes "node ") line))

-- how many nodes the last of these layers has
abbrev pub width_of : Option (List CertNode) → ℕ
width_of None = 0
width_of (Some nodes) = length nodes

abbrev pub last_width : List (List CertNode) → ℕ
last_width layers = width_of (slice_get layers (length layers - 1))

-- a node of the layer behind these
abbrev pub node_behind : Model → List (List CertNode) → List ℕ → Option CertNode
node_behind m layers line = if length layers == 0 then target_said line else node_said m (last_width layers) line

-- one of the nodes that are due; the last one makes the layer whole
abbrev pub with_node : Body → CertNode → Body
with_node b node =
    if b.due == 1 then record { layers = b.layers ++ (b.nodes ++ node ∷ []) ∷ []; nodes = []; due = 0 }
    else record { layers = b.layers; nodes = b.nodes ++ node ∷ []; due = b.due - 1 }

-- a layer has nodes
abbrev pub unless_none : ℕ → Option ℕ
unless_none n = if n == 0 then None else Some n

-- how many nodes the layer of this number has
abbrev pub width_said : (at : ℕ) → List ℕ → Option ℕ
width_said at line = option_and_then unless_none (number_behind (codes "layer " ++ decimal at ++ codes " ") line)

abbrev pub is_end : (count : ℕ) → List ℕ → Bool
is_end count line = bytes_eq line (codes "end " ++ decimal count)

-- a line behind whole layers
abbrev pub layer_begun : Start → Claim → List (List CertNode) → List ℕ → Option Said
layer_begun start claim layers line =
    if is_end (length layers) line then Some (states.Ended start claim layers)
    else option_map (λ (due : ℕ). states.Layers start claim (record { layers = layers; nodes = []; due = due })) (width_said (length layers) line)

abbrev pub layered : Model → Start → Claim → Body → List ℕ → Option Said
layered m start claim b line =
    if b.due == 0 then layer_begun start claim b.layers line
    else option_map (λ (node : CertNode). states.Layers start claim (with_node b node)) (node_behind m b.layers line)

-- behind the end stand blank lines alone
abbrev pub ended : Start → Claim → List (List CertNode) → List ℕ → Option Said
ended start claim layers line = if is_blank_line line then Some (states.Ended start claim layers) else None

-- ---- the whole

-- what is said with one more line, of this number, if it may follow
abbrev pub next : Model → (number : ℕ) → Said → List ℕ → Option Said
next m number (states.Nothing marked) line = Some (looked marked number line)
next m number (states.Kept first keep) line = pruned first keep line
next m number (states.Pruned start) line = claimed start line
next m number (states.Claimed start cost) line = counted start cost line
next m number (states.Steps start l) line = listed m start l line
next m number (states.Layers start claim b) line = layered m start claim b line
next m number (states.Ended start claim layers) line = ended start claim layers line

-- What was said, where no line follows. A text without a certificate is refused in its first line, and one that misses lines
-- in the line behind its last one.
abbrev pub whole : (number : ℕ) → Said → Result Parts ℕ
whole number (states.Ended start claim layers) = Ok (record { first = start.first; keep = start.keep; prune = start.prune; claim = claim; layers = layers })
whole number (states.Nothing marked) = Err 1
whole number said = Err number

-- the places of a layer are numbers of 32 bits
abbrev pub IsFew : Said → Type 0
IsFew (states.Layers start claim b) = last_width b.layers < 4294967296
IsFew said = ⊤

-- what a whole certificate keeps
abbrev pub IsSound : Said → Type 0
IsSound (states.Ended start claim layers) = IsTrue (are_made layers) × IsTrue (have_parents layers) × (line_of_end start.first claim layers < 4294967296)
IsSound said = ⊤

-- what comes of a line that may follow, or else its number
abbrev pub or_bad : {A B : Type 0} → (number : ℕ) → Option A → (A → Result B ℕ) → Result B ℕ
or_bad number None later = Err number
or_bad number (Some x) later = later x

-- the same, or the refusal of that line
abbrev pub or_refused : (number : ℕ) → Option Said → Result Said CertTextEnd
or_refused number (Some later) = Ok later
or_refused number None = Err (Bad (line_place number))

abbrev pub followed : Model → (number : ℕ) → Said → List ℕ → Result Said CertTextEnd
followed m number said line = or_refused number (next m number said line)

-- the certificate of lines from this number on, behind what was said, or the number of the first bad line
abbrev pub read_from : Model → (number : ℕ) → Said → List (List ℕ) → Result Parts ℕ
read_from m number said [] = whole number said
read_from m number said (line ∷ more) = or_bad number (next m number said line) (λ (later : Said). read_from m (number + 1) later more)

abbrev pub placed : Result Parts ℕ → Result Parts CertTextEnd
placed (Ok parts) = Ok parts
placed (Err number) = Err (Bad (line_place number))

abbrev pub unless_bad : Model → List ℕ → Option ℕ → Result Parts CertTextEnd
unless_bad m bytes (Some at) = Err (NotUtf8 (byte_place bytes at))
unless_bad m bytes None = placed (read_from m 1 (states.Nothing false) (lines bytes))

-- The certificate of a text, or its first refusal: a byte that begins no character of UTF-8, or the first bad line.
abbrev pub certificate_in : Model → (bytes : List ℕ) → Result Parts CertTextEnd
certificate_in m bytes = unless_bad m bytes (bad_byte bytes)

-- what was refused, if it was not memory
abbrev pub told : CertTextEnd → Option CertTextEnd
told Memory = None
told e = Some e
