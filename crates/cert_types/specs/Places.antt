-- The places of nodes in the text of a certificate, and which of them a part of a check has.
use Rattle.std.specs.Prelude.{ℕ, ◌+◌, ◌%◌, ◌≤◌, Bool, nat_eq, List, length, take}
use Rattle.std.specs.List.{sum_by}
use Rattle.cert_types.specs.declared.nodes.CertNode.{CertNode}
use Rattle.cert_types.specs.declared.parts.CheckPart.{CheckPart}

-- how many nodes stand before a layer
abbrev pub nodes_before : List (List CertNode) → (l : ℕ) → ℕ
nodes_before layers l = sum_by (λ (nodes : List CertNode). length nodes) (take l layers)

-- the place of a node in the text, from 0, where this is its place in its layer
abbrev pub place_in_text : List (List CertNode) → (l place : ℕ) → ℕ
place_in_text layers l place = nodes_before layers l + place

-- the parts are numbered from 1 on, and are 4,096 at most
abbrev pub IsPart : CheckPart → Type 0
IsPart part = (1 ≤ part.index) × (part.index ≤ part.count) × (part.count ≤ 4096)

-- The places in the text are dealt out to the parts in turn.
abbrev pub has_place : CheckPart → (place : ℕ) → Bool
has_place part place = nat_eq (place % part.count + 1) part.index

-- the one part of one
abbrev pub whole : CheckPart
whole = record { index = 1; count = 1 }
