-- How a layer follows the one before it, which is what a reader sees of it line by line, and what a whole certificate keeps of
-- its nodes and of its lines.
use Rattle.std.proofs.Common.{◌≡◌, ℕ, ◌+◌, ◌&&◌, Bool, true, false, List, [], ◌∷◌, length, take, Option, Some, None, refl, ap, arith}
use Rattle.std.specs.Prelude.{nat_lt}
use Rattle.std.specs.List.{list_all, sum_by}
use Rattle.dp_model.specs.declared.answers.Claim.{Claim}
use Rattle.cert_types.specs.Lines.{line_of_end, lines_of_layer, lines_of_list}
use Rattle.cert_types.specs.Parents.{are_made, has_parent, have_parents, have_parents_from, is_made, is_start}
use Rattle.cert_types.specs.declared.nodes.CertNode.{CertNode}
use Rattle.cert_types.specs.declared.nodes.CertStep.{CertStep}

pub and_true : (x y : Bool) → x ≡ true → y ≡ true → (x && y) ≡ true
and_true x y hx hy = rw hx hy

pub and_left : (x y : Bool) → (x && y) ≡ true → x ≡ true
and_left true y h = refl
and_left false y h = h

pub and_right : (x y : Bool) → (x && y) ≡ true → y ≡ true
and_right true y h = h
and_right false y h = absurd (cc)

-- ---- nodes

-- a step made it, from a place in a layer of so many nodes
abbrev pub is_made_in : (width : ℕ) → CertNode → Bool
is_made_in width node = is_step_in node.made where
  is_step_in : Option CertStep → Bool
  is_step_in None = false
  is_step_in (Some step) = nat_lt step.parent width

-- a node of the first layer is the target's, and each other one was made from a place in the layer before
abbrev pub fits : (before : Option (List CertNode)) → CertNode → Bool
fits None node = is_start node
fits (Some before) node = is_made_in (length before) node

abbrev pub is_layer : (before : Option (List CertNode)) → List CertNode → Bool
is_layer before nodes = list_all (fits before) nodes

-- these layers follow that one
abbrev pub are_linked : (before : Option (List CertNode)) → List (List CertNode) → Bool
are_linked before [] = true
are_linked before (nodes ∷ more) = is_layer before nodes && are_linked (Some nodes) more

made_of : (width : ℕ) (made : Option CertStep) (cut : Bool) → is_made_in width (record { made = made; cut = cut }) ≡ true → is_made (record { made = made; cut = cut }) ≡ true
made_of width None cut h = h
made_of width (Some step) cut h = refl

parent_of : (width : ℕ) (made : Option CertStep) (cut : Bool) → is_made_in width (record { made = made; cut = cut }) ≡ true → has_parent width (record { made = made; cut = cut }) ≡ true
parent_of width None cut h = refl
parent_of width (Some step) cut h = h

made_in : (width : ℕ) (made : Option CertStep) (cut : Bool) → is_made (record { made = made; cut = cut }) ≡ true → has_parent width (record { made = made; cut = cut }) ≡ true → is_made_in width (record { made = made; cut = cut }) ≡ true
made_in width None cut made parent = made
made_in width (Some step) cut made parent = parent

no_parent : (made : Option CertStep) (cut : Bool) → is_start (record { made = made; cut = cut }) ≡ true → has_parent 0 (record { made = made; cut = cut }) ≡ true
no_parent None cut h = refl
no_parent (Some step) cut h = absurd (cc)

-- what holds of each of some nodes
each_one : (p q : CertNode → Bool) (nodes : List CertNode) → ((n : CertNode) → p n ≡ true → q n ≡ true) → list_all p nodes ≡ true → list_all q nodes ≡ true
each_one p q [] one h = refl
each_one p q (n ∷ nodes) one h = and_true (q n) (list_all q nodes) (one n (and_left (p n) (list_all p nodes) h)) (each_one p q nodes one (and_right (p n) (list_all p nodes) h))

each_two : (p q r : CertNode → Bool) (nodes : List CertNode) → ((n : CertNode) → p n ≡ true → q n ≡ true → r n ≡ true) → list_all p nodes ≡ true → list_all q nodes ≡ true → list_all r nodes ≡ true
each_two p q r [] one h k = refl
each_two p q r (n ∷ nodes) one h k =
    and_true (r n) (list_all r nodes) (one n (and_left (p n) (list_all p nodes) h) (and_left (q n) (list_all q nodes) k))
    (each_two p q r nodes one (and_right (p n) (list_all p nodes) h) (and_right (q n) (list_all q nodes) k))

-- ---- layers

made_later : (before : List CertNode) (layers : List (List CertNode)) → are_linked (Some before) layers ≡ true → list_all (list_all is_made) layers ≡ true
made_later before [] h = refl
made_later before (nodes ∷ more) h =
    and_true (list_all is_made nodes) (list_all (list_all is_made) more)
    (each_one (is_made_in (length before)) is_made nodes (λ n is. made_of (length before) n.made n.cut is) (and_left (is_layer (Some before) nodes) (are_linked (Some nodes) more) h))
    (made_later nodes more (and_right (is_layer (Some before) nodes) (are_linked (Some nodes) more) h))

parents_later : (before : List CertNode) (layers : List (List CertNode)) → are_linked (Some before) layers ≡ true → have_parents_from (length before) layers ≡ true
parents_later before [] h = refl
parents_later before (nodes ∷ more) h =
    and_true (list_all (has_parent (length before)) nodes) (have_parents_from (length nodes) more)
    (each_one (is_made_in (length before)) (has_parent (length before)) nodes (λ n is. parent_of (length before) n.made n.cut is) (and_left (is_layer (Some before) nodes) (are_linked (Some nodes) more) h))
    (parents_later nodes more (and_right (is_layer (Some before) nodes) (are_linked (Some nodes) more) h))

linked_later : (before : List CertNode) (layers : List (List CertNode)) → list_all (list_all is_made) layers ≡ true → have_parents_from (length before) layers ≡ true → are_linked (Some before) layers ≡ true
linked_later before [] made parents = refl
linked_later before (nodes ∷ more) made parents =
    and_true (is_layer (Some before) nodes) (are_linked (Some nodes) more)
    (each_two is_made (has_parent (length before)) (is_made_in (length before)) nodes (λ n is has. made_in (length before) n.made n.cut is has) (and_left (list_all is_made nodes) (list_all (list_all is_made) more) made) (and_left (list_all (has_parent (length before)) nodes) (have_parents_from (length nodes) more) parents))
    (linked_later nodes more (and_right (list_all is_made nodes) (list_all (list_all is_made) more) made) (and_right (list_all (has_parent (length before)) nodes) (have_parents_from (length nodes) more) parents))

pub linked_made : (layers : List (List CertNode)) → are_linked None layers ≡ true → are_made layers ≡ true
linked_made [] h = refl
linked_made (nodes ∷ more) h =
    and_true (list_all is_start nodes) (list_all (list_all is_made) more) (and_left (is_layer None nodes) (are_linked (Some nodes) more) h)
    (made_later nodes more (and_right (is_layer None nodes) (are_linked (Some nodes) more) h))

pub linked_parents : (layers : List (List CertNode)) → are_linked None layers ≡ true → have_parents layers ≡ true
linked_parents [] h = refl
linked_parents (nodes ∷ more) h =
    and_true (list_all (has_parent 0) nodes) (have_parents_from (length nodes) more)
    (each_one is_start (has_parent 0) nodes (λ n is. no_parent n.made n.cut is) (and_left (is_layer None nodes) (are_linked (Some nodes) more) h))
    (parents_later nodes more (and_right (is_layer None nodes) (are_linked (Some nodes) more) h))

pub made_linked : (layers : List (List CertNode)) → are_made layers ≡ true → have_parents layers ≡ true → are_linked None layers ≡ true
made_linked [] made parents = refl
made_linked (nodes ∷ more) made parents =
    and_true (is_layer None nodes) (are_linked (Some nodes) more) (and_left (list_all is_start nodes) (list_all (list_all is_made) more) made)
    (linked_later nodes more (and_right (list_all is_start nodes) (list_all (list_all is_made) more) made) (and_right (list_all (has_parent 0) nodes) (have_parents_from (length nodes) more) parents))

-- ---- lines

-- how many lines a claim has, with its list
abbrev pub claim_size : Claim → ℕ
claim_size claim = 1 + lines_of_list claim

-- the last line, which stands behind all layers
abbrev pub last_line : (first : ℕ) → Claim → List (List CertNode) → ℕ
last_line first claim layers = first + 3 + claim_size claim + sum_by lines_of_layer layers

take_all : {A : Type 0} (xs : List A) → take (length xs) xs ≡ xs
take_all [] = refl
take_all (x ∷ xs) = ap (λ rest. x ∷ rest) (take_all xs)

pub last_is_end : (first : ℕ) (claim : Claim) (layers : List (List CertNode)) → last_line first claim layers ≡ line_of_end first claim layers
last_is_end first claim layers =
    let all : sum_by lines_of_layer (take (length layers) layers) ≡ sum_by lines_of_layer layers = ap (λ (xs : List (List CertNode)). sum_by lines_of_layer xs) (take_all layers) in
    omega (arith, all)
