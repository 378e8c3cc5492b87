-- The layers of a certificate, one after another: where their nodes' lists lead, what they cover, and the lines that they stand in.
use Rattle.std.proofs.Common.{◌≡◌, ℕ, ◌+◌, ◌<◌, ◌≤◌, ◌^◌, zero, suc, Bool, true, false, ◌⊎◌, inl, inr, List, [], ◌∷◌, ◌++◌, length, map, slice_get, get_or, take, drop, Option, Some, None, Result, Ok, Err, refl, sym, ap, subst, ◌∙◌, arith, drop-cons}
use Rattle.std.specs.Prelude.{nat_lt}
use Rattle.std.specs.List.{flat_map, list_all, range_with_len, sum_by}
use Rattle.std.proofs.lemmas.Bool.{and_parts}
use Rattle.std.proofs.lemmas.List.{get_or-map}
use Rattle.std.proofs.lemmas.List.Folds.{flat_map-map}
use Rattle.std.proofs.lemmas.List.FromFn.{get_or-map-range_with_len, length-map-range_with_len}
use Rattle.std.proofs.lemmas.Option.{get_or_from_slice_get, slice_get_within}
use Rattle.std.proofs.lemmas.List.Sums.{sum_by_more, sum_by-take-le}
use Rattle.dp_base.specs.Results.{◌>>=◌}
use Rattle.dp_model.specs.declared.answers.Claim.{Claim}
use Rattle.dp_model.specs.declared.answers.Keep.{Keep}
use Rattle.dp_model.specs.declared.answers.Keep.TheVariants.{Layer, All}
use Rattle.dp_model.specs.declared.whole.Model.{Model}
use Rattle.replay_list.specs.declared.replayed.Reached.{Reached}
use Rattle.cert_types.specs.Lines.{line_of_end, line_of_layer, lines_of_layer, lines_of_list, line_of_node}
use Rattle.cert_types.specs.Places.{IsPart, has_place, nodes_before}
use Rattle.cert_types.specs.Parents.{are_made, has_parent, have_parents_from, is_made, is_start}
use Rattle.cert_types.specs.declared.cert.Cert.{Cert}
use Rattle.cert_types.specs.declared.nodes.CertNode.{CertNode}
use Rattle.cert_types.specs.declared.nodes.CertStep.{CertStep}
use Rattle.cert_types.specs.declared.parts.CheckPart.{CheckPart}
use Rattle.cert_laws.specs.Shown.{layer_of, list_by, list_of, made_at}
use Rattle.cert_laws.specs.Checks.{covering, if_stands, node_at, standing, standing_up_to, start, stepped, then_told, walked}
use Rattle.cert_laws.specs.PartChecks.{layer_told_in, layers_told_in, node_fails_in, part_fails_at}
use Rattle.cert_check.specs.Looked.{AllFit, AreFound, IsShareOf, StandingFits, found, found_in, has_in_layer, kept_before, pasts, stood}
use Rattle.cert_check.specs.declared.shares.Share.{Share}
use Rattle.cert_laws.specs.declared.answers.CertReason.{CertReason}
use Rattle.cert_laws.specs.declared.answers.CertReason.TheVariants as reasons
use Rattle.cert_laws.specs.declared.answers.Checked.TheVariants.{Yes, No}
use Rattle.cert_check.specs.declared.standings.Standing.{Standing}
use Rattle.cert_check.specs.declared.standings.Standing.TheVariants.{Fails}

-- ---- a node's list is its parent's with its step

bind_id : {A E : Type 0} (r : Result A E) → (r >>= λ x. Ok x) ≡ r
bind_id (Ok x) = refl
bind_id (Err e) = refl

bind_same : {A B E : Type 0} (r : Result A E) (f g : A → Result B E) → ((x : A) → f x ≡ g x) → (r >>= f) ≡ (r >>= g)
bind_same (Ok x) f g h = h x
bind_same (Err e) f g h = refl

bind_assoc : {A B C E : Type 0} (r : Result A E) (f : A → Result B E) (g : B → Result C E) → (r >>= λ x. f x >>= g) ≡ ((r >>= f) >>= g)
bind_assoc (Ok x) f g = refl
bind_assoc (Err e) f g = refl

walked_more : (m : Model) (here : Reached) (gs : List ℕ) (g : ℕ) → walked m here (gs ++ g ∷ []) ≡ (walked m here gs >>= λ there. stepped m there g)
walked_more m here [] g = bind_id (stepped m here g)
walked_more m here (x ∷ gs) g =
    bind_same (stepped m here x) (λ next. walked m next (gs ++ g ∷ [])) (λ next. walked m next gs >>= λ there. stepped m there g) (λ next. walked_more m next gs g)
    ∙ bind_assoc (stepped m here x) (λ next. walked m next gs) (λ there. stepped m there g)

node_first : (m : Model) (cert : Cert) (place : ℕ) → node_at m cert 0 place ≡ start m
node_first m cert place = bind_id (start m)

made_is : (layers : List (List CertNode)) (l place : ℕ) (n : CertNode) → slice_get (layer_of layers l) place ≡ Some n → made_at layers l place ≡ n.made
made_is layers l place n e = rw e refl

node_next : (m : Model) (cert : Cert) (l place : ℕ) (n : CertNode) (step : CertStep) → slice_get (layer_of cert.layers (suc l)) place ≡ Some n → n.made ≡ Some step
    → node_at m cert (suc l) place ≡ (node_at m cert l step.parent >>= λ here. stepped m here step.dp_ground)
node_next m cert l place n step at made =
    let by : list_of cert.layers (suc l) place ≡ list_of cert.layers l step.parent ++ step.dp_ground ∷ [] = ap (list_by (list_of cert.layers l)) (made_is cert.layers (suc l) place n at ∙ made) in
    ap (λ (u : List ℕ). start m >>= λ here. walked m here u) by
    ∙ bind_same (start m) (λ here. walked m here (list_of cert.layers l step.parent ++ step.dp_ground ∷ [])) (λ here. walked m here (list_of cert.layers l step.parent) >>= λ there. stepped m there step.dp_ground) (λ here. walked_more m here (list_of cert.layers l step.parent) step.dp_ground)
    ∙ bind_assoc (start m) (λ here. walked m here (list_of cert.layers l step.parent)) (λ there. stepped m there step.dp_ground)

-- ---- where the lists of a layer's nodes lead

-- two functions that agree at each place give the same list
map_range : {A B : Type 0} (f : A → B) (g : ℕ → B) (a : ℕ) (xs : List A) → ((k : ℕ) (x : A) → slice_get xs k ≡ Some x → f x ≡ g (a + k)) → map f xs ≡ map g (range_with_len a (length xs))
map_range f g a [] h = refl
map_range f g a (x ∷ xs) h =
    let first : f x ≡ g a = h 0 x refl ∙ ap g (plus_none a) in
    let rest = map_range f g (a + 1) xs (λ k y e. h (suc k) y e ∙ ap g (plus_more a k)) in
    cons_same first rest
  where
    plus_none : (a : ℕ) → a + 0 ≡ a
    plus_none a = omega arith

    plus_more : (a k : ℕ) → a + suc k ≡ a + 1 + k
    plus_more a k = omega arith

    cons_same : {B : Type 0} {x y : B} {xs ys : List B} → x ≡ y → xs ≡ ys → x ∷ xs ≡ y ∷ ys
    cons_same e f = cc

all_at : {A : Type 0} (p : A → Bool) (xs : List A) (k : ℕ) (x : A) → list_all p xs ≡ true → slice_get xs k ≡ Some x → p x ≡ true
all_at p [] k x h e = let no : None ≡ Some x = e in absurd (cc)
all_at p (y ∷ xs) zero x h e = let same : y ≡ x = cc in rw (← same) (and_parts (p y) (list_all p xs) h).0
all_at p (y ∷ xs) (suc k) x h e = all_at p xs k x (and_parts (p y) (list_all p xs) h).1 e

none_made : (o : Option CertStep) → is_start (record { made = o; cut = false }) ≡ true → o ≡ None
none_made None h = refl
none_made (Some s) h = absurd (cc)

some_made : (o : Option CertStep) → is_made (record { made = o; cut = false }) ≡ true → (step : CertStep) × (o ≡ Some step)
some_made None h = absurd (cc)
some_made (Some step) h = (step, refl)

-- the nodes of layer 0 have no step
starts : (layers : List (List CertNode)) (k : ℕ) (n : CertNode) → are_made layers ≡ true → slice_get (layer_of layers 0) k ≡ Some n → n.made ≡ None
starts [] k n h e = let no : None ≡ Some n = e in absurd (cc)
starts (ns ∷ layers) k n h e = none_made n.made (all_at is_start ns k n (and_parts (list_all is_start ns) (list_all (list_all is_made) layers) h).0 e)

first_one : (m : Model) (cert : Cert) (k : ℕ) (n : CertNode) → slice_get (layer_of cert.layers 0) k ≡ Some n → stood m [] n.made ≡ node_at m cert 0 (0 + k)
first_one m cert k n e = ap (stood m []) (starts cert.layers k n cert.made e) ∙ sym (node_first m cert (0 + k))

pub stood_first : (m : Model) (cert : Cert) → map (λ (n : CertNode). stood m [] n.made) (layer_of cert.layers 0) ≡ found_in m cert 0
stood_first m cert = map_range (λ (n : CertNode). stood m [] n.made) (node_at m cert 0) 0 (layer_of cert.layers 0) (first_one m cert)

-- and those of later layers have one
in_layer : (layers : List (List CertNode)) (l k : ℕ) (n : CertNode) → list_all (list_all is_made) layers ≡ true → slice_get (layer_of layers l) k ≡ Some n → is_made n ≡ true
in_layer [] l k n h e = let no : None ≡ Some n = e in absurd (cc)
in_layer (ns ∷ layers) zero k n h e = all_at is_made ns k n (and_parts (list_all is_made ns) (list_all (list_all is_made) layers) h).0 e
in_layer (ns ∷ layers) (suc l) k n h e = in_layer layers l k n (and_parts (list_all is_made ns) (list_all (list_all is_made) layers) h).1 e

made_later : (layers : List (List CertNode)) (l k : ℕ) (n : CertNode) → are_made layers ≡ true → slice_get (layer_of layers (suc l)) k ≡ Some n → is_made n ≡ true
made_later [] l k n h e = let no : None ≡ Some n = e in absurd (cc)
made_later (ns ∷ layers) l k n h e = in_layer layers l k n (and_parts (list_all is_start ns) (list_all (list_all is_made) layers) h).1 e

made_by : (n : CertNode) → is_made n ≡ true → (step : CertStep) × (n.made ≡ Some step)
made_by n h = some_made n.made h

-- each parent is a place in the layer before
parent_from : (places : ℕ) (layers : List (List CertNode)) → have_parents_from places layers ≡ true → list_all (has_parent places) (layer_of layers 0) ≡ true
parent_from places [] h = refl
parent_from places (ns ∷ layers) h = (and_parts (list_all (has_parent places) ns) (have_parents_from (length ns) layers) h).0

parent_later : (places l : ℕ) (layers : List (List CertNode)) → have_parents_from places layers ≡ true → list_all (has_parent (length (layer_of layers l))) (layer_of layers (suc l)) ≡ true
parent_later places l [] h = refl
parent_later places zero (ns ∷ layers) h = parent_from (length ns) layers (and_parts (list_all (has_parent places) ns) (have_parents_from (length ns) layers) h).1
parent_later places (suc l) (ns ∷ layers) h = parent_later (length ns) l layers (and_parts (list_all (has_parent places) ns) (have_parents_from (length ns) layers) h).1

pub parents_first : (cert : Cert) → list_all (has_parent 0) (layer_of cert.layers 0) ≡ true
parents_first cert = parent_from 0 cert.layers cert.parents

pub same_length : (m : Model) (cert : Cert) (l : ℕ) (here : List Standing) → AreFound m cert l here → length here ≡ length (layer_of cert.layers l)
same_length m cert l here e = sym (map_length here) ∙ ap length e ∙ length-map-range_with_len (node_at m cert l) 0 (length (layer_of cert.layers l))
  where
    map_length : (xs : List Standing) → length (map found xs) ≡ length xs
    map_length [] = refl
    map_length (x ∷ xs) = ap suc (map_length xs)

pub parents_next : (m : Model) (cert : Cert) (l next : ℕ) (here : List Standing) → next ≡ suc l → AreFound m cert l here → list_all (has_parent (length here)) (layer_of cert.layers next) ≡ true
parents_next m cert l next here is e =
    subst (λ (k : ℕ). list_all (has_parent (length here)) (layer_of cert.layers k) ≡ true) (sym is)
    (subst (λ (places : ℕ). list_all (has_parent places) (layer_of cert.layers (suc l)) ≡ true) (sym (same_length m cert l here e)) (parent_later 0 l cert.layers cert.parents))

place_within : (places : ℕ) (n : CertNode) (step : CertStep) → n.made ≡ Some step → has_parent places n ≡ true → step.parent < places
place_within places n step made h = lt step.parent places (rw made at h)
  where
    lt : (a b : ℕ) → nat_lt a b ≡ true → a < b
    lt a b h = grind arith

found_at : (m : Model) (cert : Cert) (l : ℕ) (here : List Standing) (p : ℕ) → AreFound m cert l here → p < length here → found (get_or here p (Fails reasons.Node)) ≡ node_at m cert l p
found_at m cert l here p e lt =
    sym (get_or-map found here p (Fails reasons.Node) (Err reasons.Node) lt)
    ∙ ap (λ (rs : List (Result Reached CertReason)). get_or rs p (Err reasons.Node)) e
    ∙ get_or-map-range_with_len (node_at m cert l) 0 (length (layer_of cert.layers l)) p p (Err reasons.Node) (subst (λ (n : ℕ). p < n) (same_length m cert l here e) lt) (zero_plus p)
  where
    zero_plus : (k : ℕ) → 0 + k ≡ k
    zero_plus k = omega arith

-- what stands at a place is what the check finds there
pub standing_at : (m : Model) (cert : Cert) (l : ℕ) (here : List Standing) (p : ℕ) (s : Standing) → AreFound m cert l here → slice_get here p ≡ Some s → found s ≡ node_at m cert l p
standing_at m cert l here p s e at =
    let lt = slice_get_within here p s at in
    sym (ap found (get_or_from_slice_get here p s (Fails reasons.Node) at)) ∙ found_at m cert l here p e lt

-- so the clauses at its line are looked at there
pub fails_at : (m : Model) (cert : Cert) (share : Share) (l : ℕ) (here : List Standing) (p : ℕ) (n : CertNode) (s : Standing) → AreFound m cert l here → share.before ≡ nodes_before cert.layers l → slice_get here p ≡ Some s
    → part_fails_at m cert (covering m cert cert.keep (l + 1)) (has_in_layer share p) n (found s) ≡ node_fails_in share.part m cert l p n
fails_at m cert share l here p n s e before at =
    ap (part_fails_at m cert (covering m cert cert.keep (l + 1)) (has_in_layer share p) n) (standing_at m cert l here p s e at)
    ∙ ap (λ (k : ℕ). part_fails_at m cert (covering m cert cert.keep (l + 1)) (has_place share.part (k + p)) n (node_at m cert l p)) before

-- where the nodes of the next layer stand, by those of this one
pub stood_next : (m : Model) (cert : Cert) (l next : ℕ) (here : List Standing) → next ≡ suc l → AreFound m cert l here → map (λ (n : CertNode). stood m here n.made) (layer_of cert.layers next) ≡ found_in m cert next
stood_next m cert l next here is e = subst (λ (k : ℕ). map (λ (n : CertNode). stood m here n.made) (layer_of cert.layers k) ≡ found_in m cert k) (sym is)
    (map_range (λ (n : CertNode). stood m here n.made) (node_at m cert (suc l)) 0 (layer_of cert.layers (suc l)) (λ k n at. one k n at))
  where
    zero_plus : (k : ℕ) → k ≡ 0 + k
    zero_plus k = omega arith

    one : (k : ℕ) (n : CertNode) → slice_get (layer_of cert.layers (suc l)) k ≡ Some n → stood m here n.made ≡ node_at m cert (suc l) (0 + k)
    one k n at =
        let made = made_by n (made_later cert.layers l k n cert.made at) in
        let step = made.0 in
        let parents = all_at (has_parent (length here)) (layer_of cert.layers (suc l)) k n (parents_next m cert l (suc l) here refl e) at in
        let within = place_within (length here) n step made.1 parents in
        let there = found_at m cert l here step.parent e within in
        ap (stood m here) made.1 ∙ ap (λ (r : Result Reached CertReason). r >>= λ x. stepped m x step.dp_ground) there ∙ sym (node_next m cert l k n step at made.1)
        ∙ ap (node_at m cert (suc l)) (zero_plus k)

-- what an index finds is there
pub at_place : {A : Type 0} (xs : List A) (p : ℕ) (x : A) → p < length xs → x ≡ get_or xs p x → slice_get xs p ≡ Some x
at_place [] p x lt e = absurd (omega arith)
at_place (y ∷ xs) zero x lt e = ap Some (sym e)
at_place (y ∷ xs) (suc p) x lt e = at_place xs p x (omega arith) e

pub at_default : {A : Type 0} (xs ys : List A) (p : ℕ) (d : A) → xs ≡ ys → p < length xs → slice_get ys p ≡ Some (get_or xs p d)
at_default {A} xs ys p d e lt = subst (λ (zs : List A). slice_get zs p ≡ Some (get_or xs p d)) e (own xs p lt)
  where
    own : (xs : List A) (p : ℕ) → p < length xs → slice_get xs p ≡ Some (get_or xs p d)
    own [] p lt = absurd (omega arith)
    own (y ∷ xs) zero lt = refl
    own (y ∷ xs) (suc p) lt = own xs p (omega arith)

-- one more on both sides
pub map_take_more : {A B C : Type 0} (f : A → C) (g : B → C) (xs ys : List A) (x : A) (ns : List B) (i : ℕ) (n : B) → ys ≡ xs ++ x ∷ [] → map f xs ≡ map g (take i ns) → f x ≡ g n → slice_get ns i ≡ Some n → map f ys ≡ map g (take (i + 1) ns)
map_take_more {A} {B} {C} f g xs ys x ns i n is so_far here at =
    ap (map f) is ∙ map_more f xs x ∙ both so_far here ∙ sym (ap (map g) (take_more ns i n at) ∙ map_more g (take i ns) n)
  where
    map_more : {D E : Type 0} (h : D → E) (zs : List D) (z : D) → map h (zs ++ z ∷ []) ≡ map h zs ++ h z ∷ []
    map_more h [] z = refl
    map_more h (y ∷ zs) z = ap (λ (rest : List _). h y ∷ rest) (map_more h zs z)

    both : {D : Type 0} {us vs : List D} {u v : D} → us ≡ vs → u ≡ v → us ++ u ∷ [] ≡ vs ++ v ∷ []
    both e f = cc

    take_suc : (ns : List B) (i : ℕ) (n : B) → slice_get ns i ≡ Some n → take (suc i) ns ≡ take i ns ++ n ∷ []
    take_suc [] i n at = let no : None ≡ Some n = at in absurd (cc)
    take_suc (y ∷ ns) zero n at = let same : y ≡ n = cc in ap (λ (z : B). z ∷ []) same
    take_suc (y ∷ ns) (suc i) n at = ap (λ (rest : List B). y ∷ rest) (take_suc ns i n at)

    suc_is : (i : ℕ) → suc i ≡ i + 1
    suc_is i = omega arith

    take_more : (ns : List B) (i : ℕ) (n : B) → slice_get ns i ≡ Some n → take (i + 1) ns ≡ take i ns ++ n ∷ []
    take_more ns i n at = subst (λ (k : ℕ). take k ns ≡ take i ns ++ n ∷ []) (suc_is i) (take_suc ns i n at)

-- one more that fits
pub fits_more : (m : Model) (xs : List Standing) (s : Standing) → AllFit m xs → StandingFits m s → AllFit m (xs ++ s ∷ [])
fits_more m xs s all one k t e = at xs k t (λ j u f. all j u f) e
  where
    at : (xs : List Standing) (k : ℕ) (t : Standing) → ((j : ℕ) (u : Standing) → slice_get xs j ≡ Some u → StandingFits m u) → slice_get (xs ++ s ∷ []) k ≡ Some t → StandingFits m t
    at [] zero t h e = let same : s ≡ t = cc in subst (StandingFits m) same one
    at [] (suc k) t h e = let no : None ≡ Some t = e in absurd (cc)
    at (x ∷ xs) zero t h e = h 0 t e
    at (x ∷ xs) (suc k) t h e = at xs k t (λ j u f. h (suc j) u f) e

pub fits_none : (m : Model) → AllFit m []
fits_none m k s e = let no : None ≡ Some s = e in absurd (cc)

-- ---- what covers

pub pasts_standing : (m : Model) (cert : Cert) (l : ℕ) (standings : List Standing) → AreFound m cert l standings → pasts standings ≡ standing m cert l
pasts_standing m cert l standings e =
    sym (flat_map-map if_stands found standings)
    ∙ ap (flat_map if_stands) e
    ∙ flat_map-map if_stands (node_at m cert l) (range_with_len 0 (length (layer_of cert.layers l)))

pub covering_first : (m : Model) (cert : Cert) (keep : Keep) → [] ++ standing m cert 0 ≡ covering m cert keep 0
covering_first m cert Layer = refl
covering_first m cert All = refl

pub covering_next : (m : Model) (cert : Cert) (keep : Keep) (l next : ℕ) → next ≡ suc l → kept_before keep (covering m cert keep l) ++ standing m cert next ≡ covering m cert keep next
covering_next m cert Layer l next is = refl
covering_next m cert All l next is = subst (λ (k : ℕ). standing_up_to m cert l ++ standing m cert k ≡ standing_up_to m cert k) (sym is) refl

-- ---- lines

line_more : (first : ℕ) (claim : Claim) (layers : List (List CertNode)) (l : ℕ) → l < length layers → line_of_layer first claim layers (l + 1) ≡ line_of_layer first claim layers l + (1 + length (layer_of layers l))
line_more first claim layers l lt = let s = sum_by_more lines_of_layer layers l [] lt in omega (arith, s)

line_within : (first : ℕ) (claim : Claim) (layers : List (List CertNode)) (l : ℕ) → line_of_layer first claim layers l ≤ line_of_end first claim layers
line_within first claim layers l =
    let s = sum_by-take-le lines_of_layer layers l in
    let all : take (length layers) layers ≡ layers = take_all layers in
    let e : sum_by lines_of_layer (take (length layers) layers) ≡ sum_by lines_of_layer layers = ap (sum_by lines_of_layer) all in
    omega (arith, s, e)
  where
    take_all : (xs : List (List CertNode)) → take (length xs) xs ≡ xs
    take_all [] = refl
    take_all (x ∷ xs) = ap (λ (ys : List (List CertNode)). x ∷ ys) (take_all xs)

-- the line behind a layer
pub next_line : (cert : Cert) (l line : ℕ) → l < length cert.layers → line ≡ line_of_layer cert.first cert.claim cert.layers l → (line + (1 + length (layer_of cert.layers l)) ≡ line_of_layer cert.first cert.claim cert.layers (l + 1)) × (line + (1 + length (layer_of cert.layers l)) < 2 ^ 32)
next_line cert l line lt e =
    let more = line_more cert.first cert.claim cert.layers l lt in
    let within = line_within cert.first cert.claim cert.layers (l + 1) in
    let few = cert.few_lines in
    (omega (arith, more, e), omega (arith, more, e, within, few))

-- the first line of layer 0, and the lines of the claim
pub first_line : (cert : Cert) → (cert.first + 4 + lines_of_list cert.claim ≡ line_of_layer cert.first cert.claim cert.layers 0) × (cert.first + 4 + lines_of_list cert.claim < 2 ^ 32)
first_line cert =
    let within = line_within cert.first cert.claim cert.layers 0 in
    let few = cert.few_lines in
    let none : sum_by lines_of_layer (take 0 cert.layers) ≡ 0 = refl in
    let e : cert.first + 4 + lines_of_list cert.claim ≡ line_of_layer cert.first cert.claim cert.layers 0 = omega (arith, none) in
    (e, omega (arith, e, within, few))

-- ---- what is told

abbrev Fine : CheckPart → Model → Cert → (l : ℕ) → ℕ → CertNode → Type 0
Fine part m cert l place n = node_fails_in part m cert l place n ≡ None

told_from : (part : CheckPart) (m : Model) (cert : Cert) (l place i : ℕ) (n : CertNode) (reason : CertReason) (ns : List CertNode) → ((k : ℕ) (x : CertNode) → k < i → slice_get ns k ≡ Some x → Fine part m cert l (place + k) x)
    → slice_get ns i ≡ Some n → node_fails_in part m cert l (place + i) n ≡ Some reason → layer_told_in part m cert l place ns ≡ No (line_of_node cert.first cert.claim cert.layers l (place + i)) reason
told_from part m cert l place i n reason [] fine at fails = let no : None ≡ Some n = at in absurd (cc)
told_from part m cert l place zero n reason (x ∷ ns) fine at fails =
    let same : x ≡ n = cc in
    let zero_more : place ≡ place + 0 = omega arith in
    let here : node_fails_in part m cert l place x ≡ Some reason = subst (λ (y : CertNode). node_fails_in part m cert l place y ≡ Some reason) (sym same) (subst (λ (k : ℕ). node_fails_in part m cert l k n ≡ Some reason) (sym zero_more) fails) in
    rw here (ap (λ (k : ℕ). No (line_of_node cert.first cert.claim cert.layers l k) reason) zero_more)
told_from part m cert l place (suc i) n reason (x ∷ ns) fine at fails =
    let zero_more : place + 0 ≡ place = omega arith in
    let here : node_fails_in part m cert l place x ≡ None = subst (λ (k : ℕ). Fine part m cert l k x) zero_more (fine 0 x (positive i) refl) in
    let e : place + 1 + i ≡ place + suc i = omega arith in
    let rest = told_from part m cert l (place + 1) i n reason ns (λ k y lt at'. subst (λ (j : ℕ). Fine part m cert l j y) (shift place k) (fine (suc k) y (more k i lt) at')) at (subst (λ (j : ℕ). node_fails_in part m cert l j n ≡ Some reason) (sym e) fails) in
    rw here (rest ∙ ap (λ (k : ℕ). No (line_of_node cert.first cert.claim cert.layers l k) reason) e)
  where
    positive : (i : ℕ) → 0 < suc i
    positive i = omega arith

    shift : (place k : ℕ) → place + suc k ≡ place + 1 + k
    shift place k = omega arith

    more : (k i : ℕ) → k < i → suc k < suc i
    more k i lt = omega arith

-- the first node whose line is rejected
pub layer_no : (part : CheckPart) (m : Model) (cert : Cert) (l i : ℕ) (n : CertNode) (reason : CertReason) (ns : List CertNode) → ((k : ℕ) (x : CertNode) → k < i → slice_get ns k ≡ Some x → Fine part m cert l k x)
    → slice_get ns i ≡ Some n → node_fails_in part m cert l i n ≡ Some reason → layer_told_in part m cert l 0 ns ≡ No (line_of_node cert.first cert.claim cert.layers l i) reason
layer_no part m cert l i n reason ns fine at fails =
    let e : 0 + i ≡ i = omega arith in
    told_from part m cert l 0 i n reason ns (λ k x lt at'. subst (λ (j : ℕ). Fine part m cert l j x) (zero_plus k) (fine k x lt at')) at (subst (λ (j : ℕ). node_fails_in part m cert l j n ≡ Some reason) (sym e) fails)
    ∙ ap (λ (k : ℕ). No (line_of_node cert.first cert.claim cert.layers l k) reason) e
  where
    zero_plus : (k : ℕ) → k ≡ 0 + k
    zero_plus k = omega arith

-- the lines so far and this one are not rejected
pub fine_more : (part : CheckPart) (m : Model) (cert : Cert) (l place : ℕ) (ns : List CertNode) (n : CertNode) → ((k : ℕ) (x : CertNode) → k < place → slice_get ns k ≡ Some x → Fine part m cert l k x) → slice_get ns place ≡ Some n → node_fails_in part m cert l place n ≡ None
    → (k : ℕ) (x : CertNode) → k < place + 1 → slice_get ns k ≡ Some x → Fine part m cert l k x
fine_more part m cert l place ns n fine at none k x lt at' =
    elim (below_or k place lt) [
      | inl less ↦ fine k x less at'
      | inr e ↦ (
          let there : slice_get ns place ≡ Some x = subst (λ (j : ℕ). slice_get ns j ≡ Some x) e at' in
          subst (λ (j : ℕ). node_fails_in part m cert l j x ≡ None) (sym e) (subst (λ (y : CertNode). node_fails_in part m cert l place y ≡ None) (same_one n x (sym at ∙ there)) none))
    ]
  where
    below_or : (k i : ℕ) → k < i + 1 → (k < i) ⊎ (k ≡ i)
    below_or k i h = grind arith

    same_one : (n x : CertNode) → Some n ≡ Some x → n ≡ x
    same_one n x e = cc

yes_from : (part : CheckPart) (m : Model) (cert : Cert) (l place : ℕ) (ns : List CertNode) → ((k : ℕ) (x : CertNode) → slice_get ns k ≡ Some x → Fine part m cert l (place + k) x) → layer_told_in part m cert l place ns ≡ Yes
yes_from part m cert l place [] fine = refl
yes_from part m cert l place (x ∷ ns) fine =
    let zero_more : place + 0 ≡ place = omega arith in
    let here : node_fails_in part m cert l place x ≡ None = subst (λ (k : ℕ). Fine part m cert l k x) zero_more (fine 0 x refl) in
    rw here (yes_from part m cert l (place + 1) ns (λ k y at. subst (λ (j : ℕ). Fine part m cert l j y) (shift place k) (fine (suc k) y at)))
  where
    shift : (place k : ℕ) → place + suc k ≡ place + 1 + k
    shift place k = omega arith

-- no node's line is rejected
pub layer_yes : (part : CheckPart) (m : Model) (cert : Cert) (l n : ℕ) (ns : List CertNode) → ((k : ℕ) (x : CertNode) → k < n → slice_get ns k ≡ Some x → Fine part m cert l k x) → length ns ≤ n → Yes ≡ layer_told_in part m cert l 0 ns
layer_yes part m cert l n ns fine le = sym (yes_from part m cert l 0 ns (λ k x at. subst (λ (j : ℕ). Fine part m cert l j x) (zero_plus k) (fine k x (within k x at) at)))
  where
    zero_plus : (k : ℕ) → k ≡ 0 + k
    zero_plus k = omega arith

    within : (k : ℕ) (x : CertNode) → slice_get ns k ≡ Some x → k < n
    within k x at = let lt = slice_get_within ns k x at in omega (arith, lt, le)

-- the lines of a layer's nodes stay below 2^32
pub line_fits : (cert : Cert) (l line place : ℕ) → l < length cert.layers → line ≡ line_of_layer cert.first cert.claim cert.layers l → place < length (layer_of cert.layers l) → line + 1 + place < 2 ^ 32
line_fits cert l line place lt e within = let next = (next_line cert l line lt e).1 in omega (arith, next, within)

-- the layers that are left, from one on
pub layers_step : (part : CheckPart) (m : Model) (cert : Cert) (l : ℕ) (layers : List (List CertNode)) → l < length layers → layers_told_in part m cert l (drop l layers) ≡ then_told (layer_told_in part m cert l 0 (layer_of layers l)) (layers_told_in part m cert (l + 1) (drop (l + 1) layers))
layers_step part m cert l layers lt = ap (layers_told_in part m cert l) (drop-cons layers l [] lt ∙ ap (λ (k : ℕ). layer_of layers l ∷ drop k layers) (suc_is l))
  where
    suc_is : (l : ℕ) → suc l ≡ l + 1
    suc_is l = omega arith

-- ---- the nodes before a layer

pub none_before : (cert : Cert) → 0 ≡ nodes_before cert.layers 0
none_before cert = refl

-- one layer more
pub before_more : (cert : Cert) (l before : ℕ) → l < length cert.layers → before ≡ nodes_before cert.layers l → before + length (layer_of cert.layers l) ≡ nodes_before cert.layers (l + 1)
before_more cert l before lt e = let more = sum_by_more (λ (nodes : List CertNode). length nodes) cert.layers l [] lt in omega (arith, more, e)

-- the nodes before a layer are fewer than the lines before it, so the places of its nodes stay below 2^32
pub before_fits : (cert : Cert) (l line before : ℕ) → l < length cert.layers → line ≡ line_of_layer cert.first cert.claim cert.layers l → before ≤ line → (before + length (layer_of cert.layers l) ≤ line + (1 + length (layer_of cert.layers l))) × (before + length (layer_of cert.layers l) < 2 ^ 32)
before_fits cert l line before lt e le = let next = (next_line cert l line lt e).1 in (omega (arith, le), omega (arith, le, next))

pub is_share : (cert : Cert) (part : CheckPart) (l line before : ℕ) → IsPart part → l < length cert.layers → line ≡ line_of_layer cert.first cert.claim cert.layers l → before ≤ line → IsShareOf (record { part = part; before = before }) (layer_of cert.layers l)
is_share cert part l line before is lt e le = (is, (before_fits cert l line before lt e le).1)
