-- A certificate that shows its claim is one that is read back, from whatever line on it begins.
use Rattle.std.proofs.Common.{◌≡◌, ℕ, zero, suc, ◌+◌, ◌<◌, ◌≤◌, ◌&&◌, Bool, true, List, [], ◌∷◌, ◌++◌, length, slice_get, Option, Some, None, ℤ, refl, sym, ap, ◌∙◌, subst, arith, length-append}
use Rattle.std.specs.Prelude.{IsTrue, pos, negsuc, nat_lt, option_and_then}
use Rattle.std.specs.List.{list_all, sum_by}
use Rattle.std.proofs.lemmas.Bool.{and_from, and_parts, lt-ltb, ltb-true}
use Rattle.std.proofs.lemmas.Bool.Decides.{nat_tests}
use Rattle.std.proofs.lemmas.Int.{ints}
use Rattle.std.proofs.lemmas.List.{length-map}
use Rattle.std.proofs.lemmas.List.Folds.{list_all-append}
use Rattle.std.proofs.lemmas.List.Sums.{sum_by-cons}
use Rattle.dp_base.specs.Bytes.{line}
use Rattle.dp_model.specs.Costs.{InRange}
use Rattle.dp_model.specs.StepTexts.{step_text}
use Rattle.dp_model.specs.declared.answers.Claim.{Claim}
use Rattle.dp_model.specs.declared.answers.Claim.TheVariants as claims
use Rattle.dp_model.specs.declared.whole.Model.{Model}
use Rattle.cert_types.specs.Lines.{line_of_end, lines_of_layer}
use Rattle.cert_types.specs.Parents.{are_made, is_made, is_start}
use Rattle.cert_types.specs.Parts.{Parts}
use Rattle.cert_types.specs.declared.cert.Cert.{Cert}
use Rattle.cert_types.specs.declared.nodes.CertNode.{CertNode}
use Rattle.cert_types.specs.declared.nodes.CertStep.{CertStep}
use Rattle.cert_laws.specs.Shown.{ClaimHolds, IsAt, Shown, layer_of, list_by, list_of, made_at}
use Rattle.cert_text.specs.Named.{claims_steps, names_step}
use Rattle.cert_text.specs.ReadBack.{IsCertificate, has_cost, is_cost}
use Rattle.cert_text.specs.Texts.{cert_lines, claim_lines, end_line, layer_lines, layers_lines, node_line, text_of_lines}
use Rattle.cert_text.proofs.Links.{claim_size, last_is_end, last_line}
use Rattle.text_laws.proofs.Again.{moved}
use Rattle.text_laws.proofs.Fitting.{path_steps, solution_steps}
use Rattle.text_laws.proofs.Reading.{are_steps}

-- ---- its claim

cost_in : (c : ℤ) → InRange c → is_cost c ≡ true
cost_in (pos n) h = let le : n ≤ 4611686018427387903 = omega (arith, ints, h.1) in grind (arith, nat_tests)
cost_in (negsuc n) h = let lt : n < 4611686018427387903 = omega (arith, ints, h.0) in grind (arith, nat_tests)

claim_cost : (m : Model) (claim : Claim) → ClaimHolds m claim → has_cost claim ≡ true
claim_cost m (claims.Optimal found) h = cost_in found.cost h.in_range
claim_cost m claims.Infeasible h = refl

claim_named : (m : Model) (claim : Claim) → ClaimHolds m claim → claims_steps (length m.dp_ground) claim ≡ true
claim_named m (claims.Optimal found) h = solution_steps m found.steps found.cost h
claim_named m claims.Infeasible h = refl

-- ---- its nodes

all_nodes : (test : CertNode → Bool) (nodes : List CertNode) → ((place : ℕ) (n : CertNode) → slice_get nodes place ≡ Some n → test n ≡ true) → list_all test nodes ≡ true
all_nodes test [] h = refl
all_nodes test (x ∷ xs) h = and_from (test x) (list_all test xs) (h 0 x refl) (all_nodes test xs (λ k n at. h (suc k) n at))

all_layers : (test : CertNode → Bool) (layers : List (List CertNode)) → ((l place : ℕ) (n : CertNode) → slice_get (layer_of layers l) place ≡ Some n → test n ≡ true) → list_all (list_all test) layers ≡ true
all_layers test [] h = refl
all_layers test (xs ∷ xss) h = and_from (list_all test xs) (list_all (list_all test) xss) (all_nodes test xs (λ place n at. h 0 place n at)) (all_layers test xss (λ l place n at. h (suc l) place n at))

all_full : (layers : List (List CertNode)) → ((l : ℕ) → l < length layers → 0 < length (layer_of layers l)) → list_all (λ (nodes : List CertNode). nat_lt 0 (length nodes)) layers ≡ true
all_full [] h = refl
all_full (xs ∷ xss) h = and_from (nat_lt 0 (length xs)) (list_all (λ (nodes : List CertNode). nat_lt 0 (length nodes)) xss) (lt-ltb 0 (length xs) (h 0 (omega arith))) (all_full xss (λ l less. h (suc l) (omega (arith, less))))

pub passes_at : {A : Type 0} (test : A → Bool) (xs : List A) (place : ℕ) (x : A) → list_all test xs ≡ true → slice_get xs place ≡ Some x → test x ≡ true
passes_at test [] place x h at = absurd (cc)
passes_at test (y ∷ ys) zero x h at = let same : y ≡ x = (let both : Some y ≡ Some x = at in cc) in subst (λ z. test z ≡ true) same (and_parts (test y) (list_all test ys) h).0
passes_at test (y ∷ ys) (suc place) x h at = passes_at test ys place x (and_parts (test y) (list_all test ys) h).1 at

none_made : (made : Option CertStep) (cut : Bool) (step : CertStep) → is_start (record { made = made; cut = cut }) ≡ true → made ≡ Some step → ⊥
none_made None cut step start e = absurd (cc)
none_made (Some other) cut step start e = absurd (cc)

-- no step made a node of the first layer
first_start : (layers : List (List CertNode)) (place : ℕ) (n : CertNode) (step : CertStep) → IsTrue (are_made layers) → slice_get (layer_of layers 0) place ≡ Some n → n.made ≡ Some step → ⊥
first_start [] place n step made at e = absurd (cc)
first_start (targets ∷ layers) place n step made at e = none_made n.made n.cut step (passes_at is_start targets place n (and_parts (list_all is_start targets) (list_all (list_all is_made) layers) made).0 at) e

last_within : (m : Model) (steps : List ℕ) (g : ℕ) → are_steps m (steps ++ g ∷ []) ≡ true → g < length m.dp_ground
last_within m steps g h =
    let split : (are_steps m steps && (nat_lt g (length m.dp_ground) && true)) ≡ true = sym (list_all-append (λ g. nat_lt g (length m.dp_ground)) steps (g ∷ [])) ∙ h in
    ltb-true g (length m.dp_ground) (and_parts (nat_lt g (length m.dp_ground)) true (and_parts (are_steps m steps) (nat_lt g (length m.dp_ground) && true) split).1).0

step_within : (m : Model) (cert : Cert) → Shown m cert → (l place : ℕ) (n : CertNode) (step : CertStep) → IsAt cert l place n → n.made ≡ Some step → step.dp_ground < length m.dp_ground
step_within m cert shown zero place n step at e = absurd (first_start cert.layers place n step cert.made at e)
step_within m cert shown (suc l) place n step at e =
    let made : made_at cert.layers (suc l) place ≡ Some step = ap (option_and_then (λ (n : CertNode). n.made)) at ∙ e in
    let there = shown.nodes (suc l) place n at in
    let are : are_steps m (list_of cert.layers (suc l) place) ≡ true = path_steps m (list_of cert.layers (suc l) place) there.0 there.1.0.0 there.1.0.1 in
    last_within m (list_of cert.layers l step.parent) step.dp_ground (subst (λ (o : Option CertStep). are_steps m (list_by (list_of cert.layers l) o) ≡ true) made are)

named_by : (grounds : ℕ) (made : Option CertStep) (cut : Bool) → ((step : CertStep) → made ≡ Some step → step.dp_ground < grounds) → names_step grounds (record { made = made; cut = cut }) ≡ true
named_by grounds None cut h = refl
named_by grounds (Some step) cut h = lt-ltb step.dp_ground grounds (h step refl)

layers_named : (m : Model) (cert : Cert) → Shown m cert → list_all (list_all (names_step (length m.dp_ground))) cert.layers ≡ true
layers_named m cert shown = all_layers (names_step (length m.dp_ground)) cert.layers (λ l place n at. named_by (length m.dp_ground) n.made n.cut (λ step e. step_within m cert shown l place n step at e))

-- ---- its lines

claim_count : (m : Model) (claim : Claim) → length (claim_lines m claim) ≡ claim_size claim
claim_count m (claims.Optimal found) = omega (arith, length-map found.steps (step_text m))
claim_count m claims.Infeasible = refl

layers_count : (m : Model) (at : ℕ) (layers : List (List CertNode)) → length (layers_lines m at layers) ≡ sum_by lines_of_layer layers
layers_count m at [] = refl
layers_count m at (nodes ∷ more) =
    let here : length (layer_lines m at nodes) ≡ lines_of_layer nodes = omega (arith, length-map nodes (node_line m)) in
    let both : length (layer_lines m at nodes ++ layers_lines m (at + 1) more) ≡ length (layer_lines m at nodes) + length (layers_lines m (at + 1) more) = length-append (layer_lines m at nodes) (layers_lines m (at + 1) more) in
    let rest : length (layers_lines m (at + 1) more) ≡ sum_by lines_of_layer more = layers_count m (at + 1) more in
    let sum : sum_by lines_of_layer (nodes ∷ more) ≡ lines_of_layer nodes + sum_by lines_of_layer more = sum_by-cons lines_of_layer nodes more in
    omega (arith, here, both, rest, sum)

cert_count : (m : Model) (p : Parts) → length (cert_lines m p) ≡ 3 + claim_size p.claim + sum_by lines_of_layer p.layers + 1
cert_count m p =
    let a : length (claim_lines m p.claim ++ (layers_lines m 0 p.layers ++ end_line (length p.layers) ∷ [])) ≡ length (claim_lines m p.claim) + length (layers_lines m 0 p.layers ++ end_line (length p.layers) ∷ []) =
    length-append (claim_lines m p.claim) (layers_lines m 0 p.layers ++ end_line (length p.layers) ∷ []) in
    let b : length (layers_lines m 0 p.layers ++ end_line (length p.layers) ∷ []) ≡ length (layers_lines m 0 p.layers) + 1 = length-append (layers_lines m 0 p.layers) (end_line (length p.layers) ∷ []) in
    omega (arith, a, b, claim_count m p.claim, layers_count m 0 p.layers)

-- a text has no fewer bytes than lines
pub lines_few : (ls : List (List ℕ)) → length ls ≤ length (text_of_lines ls)
lines_few [] = omega arith
lines_few (l ∷ ls) =
    let a : length (line l ++ text_of_lines ls) ≡ length (line l) + length (text_of_lines ls) = length-append (line l) (text_of_lines ls) in
    let b : length (l ++ 10 ∷ []) ≡ length l + 1 = length-append l (10 ∷ []) in
    omega (arith, a, b, lines_few ls)

end_few : (m : Model) (p : Parts) (front : List (List ℕ)) → p.first ≡ length front + 1 → length (front ++ cert_lines m p) ≤ 16777216 → line_of_end p.first p.claim p.layers < 4294967296
end_few m p front first short =
    let all : length (front ++ cert_lines m p) ≡ length front + length (cert_lines m p) = length-append front (cert_lines m p) in
    let last : last_line p.first p.claim p.layers ≡ line_of_end p.first p.claim p.layers = last_is_end p.first p.claim p.layers in
    omega (arith, first, short, all, last, cert_count m p)

-- ---- it is a certificate

pub is_certificate : (m : Model) (cert : Cert) (front : List (List ℕ)) → Shown m cert → ((l : ℕ) → l < length cert.layers → 0 < length (layer_of cert.layers l))
    → length (front ++ cert_lines m (moved cert (length front + 1))) ≤ 16777216 → IsCertificate m (moved cert (length front + 1))
is_certificate m cert front shown full short =
    record {
      made = cert.made;
      parents = cert.parents;
      few_lines = end_few m (moved cert (length front + 1)) front refl short;
      named = and_from (claims_steps (length m.dp_ground) cert.claim) (list_all (list_all (names_step (length m.dp_ground))) cert.layers) (claim_named m cert.claim shown.claim) (layers_named m cert shown);
      cost = claim_cost m cert.claim shown.claim;
      nodes = all_full cert.layers full;
    }
