-- Nodes that move to other places, with their glances and keys.
use Rattle.std.specs.Prelude.{◌≡◌, ℕ, List, slice_get, Option}
use Rattle.state_layout.specs.declared.node.Node.{Node}
use Rattle.dom_store.specs.Chains.{key_in}
use Rattle.dom_store.specs.Places.{StandsAt}
use Rattle.dom_store.specs.declared.chains.Link.{Link}
use Rattle.dom_store.specs.declared.glance.Glance.{Glance}

-- each node stood at a place before, which had the glance and the key that its place has now
abbrev pub ComeFrom : List (Option Node) → List Glance → List Link → (new : List (Option Node)) → (new_glances : List Glance) → (new_links : List Link) → Type 0
ComeFrom places glances links new new_glances new_links =
    (p : ℕ) (n : Node) → StandsAt new p n → (q : ℕ) × StandsAt places q n × (slice_get new_glances p ≡ slice_get glances q) × (key_in new_links p ≡ key_in links q)
