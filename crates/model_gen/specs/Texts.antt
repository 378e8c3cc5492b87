-- The texts of the generated models, line by line.
use Rattle.std.specs.Prelude.{ℕ, ◌+◌, ◌-◌, ◌*◌, ◌==◌, not, if◌then◌else◌, List, [], ◌∷◌, ◌++◌, map, filter, sum, flat_map, codes, decimal}
use Rattle.std.specs.List.{range_with_len}
use Rattle.dp_base.specs.Bytes.{line}
use Rattle.model_gen.specs.Draws.{draw}
use Rattle.model_gen.specs.declared.kinds.GenKind.{GenKind}
use Rattle.model_gen.specs.declared.kinds.GenKind.TheVariants.{Path, Pack, Tour}

abbrev pub lines : List (List ℕ) → List ℕ
lines texts = flat_map line texts

-- ---- domains

abbrev pub path_domain : List (List ℕ)
path_domain =
    codes "domain: path" ∷
    codes "objects: [ node ]" ∷
    codes "state_variables:" ∷
    codes "  - { name: at, type: element, object: node }" ∷
    codes "tables:" ∷
    codes "  - { name: n, type: integer }" ∷
    codes "  - { name: a, type: integer, args: [ node ] }" ∷
    codes "  - { name: b, type: integer, args: [ node ] }" ∷
    codes "transitions:" ∷
    codes "  - name: one" ∷
    codes "    preconditions: [ (< at n) ]" ∷
    codes "    effects: { at: (+ at 1) }" ∷
    codes "    cost: (+ cost (a at))" ∷
    codes "  - name: two" ∷
    codes "    preconditions: [ (< (+ at 1) n) ]" ∷
    codes "    effects: { at: (+ at 2) }" ∷
    codes "    cost: (+ cost (b at))" ∷
    codes "base_cases:" ∷
    codes "  - [ (= at n) ]" ∷ []

abbrev pub pack_domain : List (List ℕ)
pack_domain =
    codes "domain: pack" ∷
    codes "reduce: max" ∷
    codes "objects: [ item ]" ∷
    codes "state_variables:" ∷
    codes "  - { name: i, type: element, object: item }" ∷
    codes "  - { name: r, type: integer, preference: greater }" ∷
    codes "tables:" ∷
    codes "  - { name: n, type: integer }" ∷
    codes "  - { name: w, type: integer, args: [ item ] }" ∷
    codes "  - { name: p, type: integer, args: [ item ] }" ∷
    codes "  - { name: rest, type: integer, args: [ item ] }" ∷
    codes "transitions:" ∷
    codes "  - name: take" ∷
    codes "    preconditions: [ (< i n), (<= (w i) r) ]" ∷
    codes "    effects: { i: (+ i 1), r: (- r (w i)) }" ∷
    codes "    cost: (+ cost (p i))" ∷
    codes "  - name: leave" ∷
    codes "    preconditions: [ (< i n) ]" ∷
    codes "    effects: { i: (+ i 1) }" ∷
    codes "    cost: cost" ∷
    codes "base_cases:" ∷
    codes "  - [ (= i n) ]" ∷
    codes "dual_bounds:" ∷
    codes "  - (rest i)" ∷ []

abbrev pub tour_domain : List (List ℕ)
tour_domain =
    codes "domain: tour" ∷
    codes "objects: [ town ]" ∷
    codes "state_variables:" ∷
    codes "  - { name: left, type: set, object: town }" ∷
    codes "  - { name: at, type: element, object: town }" ∷
    codes "tables:" ∷
    codes "  - { name: d, type: integer, args: [ town, town ] }" ∷
    codes "transitions:" ∷
    codes "  - name: go" ∷
    codes "    parameters: [ { name: to, object: left } ]" ∷
    codes "    effects: { left: (remove to left), at: to }" ∷
    codes "    cost: (+ cost (d at to))" ∷
    codes "  - name: home" ∷
    codes "    preconditions: [ (is_empty left), (!= at 0) ]" ∷
    codes "    effects: { at: 0 }" ∷
    codes "    cost: (+ cost (d at 0))" ∷
    codes "base_cases:" ∷
    codes "  - [ (is_empty left), (= at 0) ]" ∷ []

-- the text of a kind's domain
abbrev pub domain_text : GenKind → List ℕ
domain_text Path = lines path_domain
domain_text Pack = lines pack_domain
domain_text Tour = lines tour_domain

-- ---- problems

-- texts with a comma between them
abbrev pub joined : List (List ℕ) → List ℕ
joined [] = []
joined (x ∷ xs) = x ++ flat_map (λ y. codes ", " ++ y) xs

-- a cell of a table with one argument
abbrev pub cell : (place value : ℕ) → List ℕ
cell k v = decimal k ++ codes ": " ++ decimal v

-- the cells of such a table, from a place on
abbrev pub cells_from : ℕ → List ℕ → List (List ℕ)
cells_from k [] = []
cells_from k (v ∷ vs) = cell k v ∷ cells_from (k + 1) vs

abbrev pub cells : List ℕ → List (List ℕ)
cells values = cells_from 0 values

-- the line of a table: its name and its cells
abbrev pub table : (name : List ℕ) → List (List ℕ) → List ℕ
table name cells = codes "  " ++ name ++ codes ": { " ++ joined cells ++ codes " }"

-- the problem's name, with size and seed
abbrev pub named : (domain : List ℕ) → (size seed : ℕ) → List ℕ
named domain size seed = codes "problem: " ++ domain ++ codes "-" ++ decimal size ++ codes "-" ++ decimal seed

-- how many objects of a type there are
abbrev pub counted : (object : List ℕ) → ℕ → List ℕ
counted object size = codes "object_numbers: { " ++ object ++ codes ": " ++ decimal size ++ codes " }"

-- Nodes and items draw two numbers each, in order of their numbers: the costs `a` and `b` of a node, the weight and the
-- profit of an item.

abbrev pub first_draws : (size seed : ℕ) → List ℕ
first_draws size seed = map (λ i. draw seed (2 * i)) (range_with_len 0 size)

abbrev pub second_draws : (size seed : ℕ) → List ℕ
second_draws size seed = map (λ i. draw seed (2 * i + 1)) (range_with_len 0 size)

-- of each place, the sum of the numbers from there on
abbrev pub rests : List ℕ → List ℕ
rests [] = []
rests (p ∷ ps) = (p + sum ps) ∷ rests ps

-- each town in turn, with each other one in turn
abbrev pub ways_to : (from count : ℕ) → List (ℕ × ℕ)
ways_to i n = filter (λ (way : ℕ × ℕ). not (way.0 == way.1)) (map (λ j. (i, j)) (range_with_len 0 n))

-- one of them, or none from a town to itself
abbrev pub way_to : (from to : ℕ) → List (ℕ × ℕ)
way_to i j = if i == j then [] else (i, j) ∷ []

abbrev pub others : (size from : ℕ) → List (ℕ × ℕ)
others size i = ways_to i size

abbrev pub ways : (size : ℕ) → List (ℕ × ℕ)
ways size = flat_map (others size) (range_with_len 0 size)

-- a cell of the table of distances
abbrev pub way_cell : (way : ℕ × ℕ) → (distance : ℕ) → List ℕ
way_cell way distance = codes "[" ++ decimal way.0 ++ codes ", " ++ decimal way.1 ++ codes "]: " ++ decimal distance

-- the distances are drawn in this order
abbrev pub distances_from : (seed place : ℕ) → List (ℕ × ℕ) → List (List ℕ)
distances_from seed k [] = []
distances_from seed k (way ∷ rest) = way_cell way (draw seed k) ∷ distances_from seed (k + 1) rest

-- the first item, and the knapsack's room
abbrev pub room_line : (room : ℕ) → List ℕ
room_line room = codes "target: { i: 0, r: " ++ decimal room ++ codes " }"

-- all towns but 0 are left, and the tour is in 0
abbrev pub towns_line : (size : ℕ) → List ℕ
towns_line size = codes "target: { left: [ " ++ joined (map decimal (range_with_len 1 (size - 1))) ++ codes " ], at: 0 }"

abbrev pub path_problem : (size seed : ℕ) → List (List ℕ)
path_problem size seed =
    (codes "domain: " ++ codes "path") ∷
    named (codes "path") size seed ∷
    counted (codes "node") size ∷
    codes "target: { at: 0 }" ∷
    codes "table_values:" ∷
    (codes "  n: " ++ decimal size) ∷
    table (codes "a") (cells (first_draws size seed)) ∷
    table (codes "b") (cells (second_draws size seed)) ∷ []

-- the knapsack holds 40 for each item
abbrev pub pack_problem : (size seed : ℕ) → List (List ℕ)
pack_problem size seed =
    (codes "domain: " ++ codes "pack") ∷
    named (codes "pack") size seed ∷
    counted (codes "item") size ∷
    room_line (40 * size) ∷
    codes "table_values:" ∷
    (codes "  n: " ++ decimal size) ∷
    table (codes "w") (cells (first_draws size seed)) ∷
    table (codes "p") (cells (second_draws size seed)) ∷
    table (codes "rest") (cells (rests (second_draws size seed))) ∷ []

abbrev pub tour_problem : (size seed : ℕ) → List (List ℕ)
tour_problem size seed =
    (codes "domain: " ++ codes "tour") ∷
    named (codes "tour") size seed ∷
    counted (codes "town") size ∷
    towns_line size ∷
    codes "table_values:" ∷
    table (codes "d") (distances_from seed 0 (ways size)) ∷ []

-- the text of a problem
abbrev pub problem_text : GenKind → (size seed : ℕ) → List ℕ
problem_text Path size seed = lines (path_problem size seed)
problem_text Pack size seed = lines (pack_problem size seed)
problem_text Tour size seed = lines (tour_problem size seed)
