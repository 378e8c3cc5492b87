-- Each part of a certificate stands in the line that is told of it.
use Rattle.std.proofs.Common.{◌≡◌, ℕ, zero, suc, ◌+◌, ◌-◌, codes, List, [], ◌∷◌, ◌++◌, length, map, take, Some, refl, sym, ap, ◌∙◌, arith, append_assoc, length-append}
use Rattle.std.specs.Prelude.{slice_get}
use Rattle.std.specs.List.{sum_by}
use Rattle.std.specs.Str.Lines.{lines}
use Rattle.std.proofs.lemmas.List.Sums.{sum_by-cons}
use Rattle.dp_model.specs.StepTexts.{step_text}
use Rattle.dp_model.specs.declared.answers.Claim.{Claim}
use Rattle.dp_model.specs.declared.answers.Claim.TheVariants as claims
use Rattle.dp_model.specs.declared.whole.Model.{Model}
use Rattle.cert_types.specs.Lines.{line_of_claim, line_of_end, line_of_layer, line_of_node, lines_of_layer}
use Rattle.cert_types.specs.Parts.{Parts}
use Rattle.cert_types.specs.declared.nodes.CertNode.{CertNode}
use Rattle.cert_text.specs.LineNumbers.{AreToldLines, LawLines, claim_line, line_at}
use Rattle.cert_text.specs.Texts.{cert_lines, claim_lines, end_line, keep_line, layer_line, layer_lines, layers_lines, node_line, prune_line}
use Rattle.cert_text.proofs.Links.{claim_size, last_is_end, last_line}

-- ---- places in lists

-- behind so many
behind_some : {A : Type 0} (xs ys : List A) (k n : ℕ) → n ≡ length xs + k → slice_get (xs ++ ys) n ≡ slice_get ys k
behind_some [] ys k n is = ap (slice_get ys) (let e : n ≡ k = omega arith in e)
behind_some (x ∷ xs) ys k n is = ap (slice_get (x ∷ (xs ++ ys))) (let e : n ≡ suc (length xs + k) = omega arith in e) ∙ behind_some xs ys k (length xs + k) refl

-- among the first ones, each turned into another
mapped_at : {A B : Type 0} (f : A → B) (xs : List A) (ys : List B) (k : ℕ) (x : A) → slice_get xs k ≡ Some x → slice_get (map f xs ++ ys) k ≡ Some (f x)
mapped_at f [] ys k x at = absurd (cc)
mapped_at f (y ∷ xs) ys zero x at = let same : y ≡ x = cc in ap (λ z. Some (f z)) same
mapped_at f (y ∷ xs) ys (suc k) x at = mapped_at f xs ys k x at

length-mapped : {A B : Type 0} (f : A → B) (xs : List A) → length (map f xs) ≡ length xs
length-mapped f [] = refl
length-mapped f (x ∷ xs) = ap suc (length-mapped f xs)

-- ---- how many lines

claim_long : (m : Model) (claim : Claim) → length (claim_lines m claim) ≡ claim_size claim
claim_long m claims.Infeasible = refl
claim_long m (claims.Optimal found) = let e : length (map (step_text m) found.steps) ≡ length found.steps = length-mapped (step_text m) found.steps in omega (arith, e)

layer_long : (m : Model) (at : ℕ) (nodes : List CertNode) → length (layer_lines m at nodes) ≡ lines_of_layer nodes
layer_long m at nodes = let e : length (map (node_line m) nodes) ≡ length nodes = length-mapped (node_line m) nodes in omega (arith, e)

layers_long : (m : Model) (at : ℕ) (layers : List (List CertNode)) → length (layers_lines m at layers) ≡ sum_by lines_of_layer layers
layers_long m at [] = refl
layers_long m at (nodes ∷ more) =
    let sum : sum_by lines_of_layer (nodes ∷ more) ≡ lines_of_layer nodes + sum_by lines_of_layer more = sum_by-cons lines_of_layer nodes more in
    let both : length (layer_lines m at nodes ++ layers_lines m (at + 1) more) ≡ length (layer_lines m at nodes) + length (layers_lines m (at + 1) more) = length-append (layer_lines m at nodes) (layers_lines m (at + 1) more) in
    omega (arith, sum, both, layer_long m at nodes, layers_long m (at + 1) more)

-- ---- a layer among the lines of layers

-- the lines before it and behind it
record Among (m : Model) (at l : ℕ) (layers : List (List CertNode)) (nodes : List CertNode) : Type 0 where
  before : List (List ℕ)
  more : List (List ℕ)
  is : layers_lines m at layers ≡ before ++ (layer_lines m (at + l) nodes ++ more)
  long : length before ≡ sum_by lines_of_layer (take l layers)

among : (m : Model) (at l : ℕ) (layers : List (List CertNode)) (nodes : List CertNode) → slice_get layers l ≡ Some nodes → Among m at l layers nodes
among m at l [] nodes there = absurd (cc)
among m at zero (x ∷ layers) nodes there =
    let same : x ≡ nodes = cc in
    let number : at ≡ at + zero = omega arith in
    record {
      before = [];
      more = layers_lines m (at + 1) layers;
      is = ap (λ (ns : List CertNode). layer_lines m at ns ++ layers_lines m (at + 1) layers) same ∙ ap (λ (k : ℕ). layer_lines m k nodes ++ layers_lines m (at + 1) layers) number;
      long = refl;
    }
among m at (suc l) (x ∷ layers) nodes there =
    let later = among m (at + 1) l layers nodes there in
    let number : at + 1 + l ≡ at + suc l = omega arith in
    let first = layer_lines m at x in
    let sum : sum_by lines_of_layer (x ∷ take l layers) ≡ lines_of_layer x + sum_by lines_of_layer (take l layers) = sum_by-cons lines_of_layer x (take l layers) in
    let both : length (first ++ later.before) ≡ length first + length later.before = length-append first later.before in
    record {
      before = first ++ later.before;
      more = later.more;
      is = ap (λ (ls : List (List ℕ)). first ++ ls) (later.is ∙ ap (λ (k : ℕ). later.before ++ (layer_lines m k nodes ++ later.more)) number) ∙ sym (append_assoc first later.before (layer_lines m (at + suc l) nodes ++ later.more));
      long = both ∙ (let e : length first + length later.before ≡ lines_of_layer x + sum_by lines_of_layer (take l layers) = omega (arith, layer_long m at x, later.long) in e) ∙ sym sum;
    }

-- ---- a certificate in a text

abbrev head : Parts → List (List ℕ)
head p = codes "certificate 1" ∷ keep_line p.keep ∷ prune_line p.prune ∷ []

claim_first : (m : Model) (p : Parts) (claim : Claim) (ls : List (List ℕ)) → slice_get (head p ++ (claim_lines m claim ++ ls)) 3 ≡ Some (claim_line claim)
claim_first m p claims.Infeasible ls = refl
claim_first m p (claims.Optimal found) ls = refl

module _ (m : Model) (p : Parts) (text front back : List (List ℕ)) (is : text ≡ front ++ (cert_lines m p ++ back)) (first : p.first ≡ length front + 1) where
  -- a line of the certificate, by its place in there
  cert_at : (number k : ℕ) → number - 1 ≡ length front + k → line_at text number ≡ slice_get (cert_lines m p ++ back) k
  cert_at number k place = ap (λ (ls : List (List ℕ)). slice_get ls (number - 1)) is ∙ behind_some front (cert_lines m p ++ back) k (number - 1) place

  -- the lines behind the claim and its list
  parts : (cert_lines m p ++ back) ≡ (head p ++ claim_lines m p.claim) ++ (layers_lines m 0 p.layers ++ end_line (length p.layers) ∷ back)
  parts =
      append_assoc (head p ++ claim_lines m p.claim) (layers_lines m 0 p.layers ++ end_line (length p.layers) ∷ []) back
      ∙ ap (λ (ls : List (List ℕ)). (head p ++ claim_lines m p.claim) ++ ls) (append_assoc (layers_lines m 0 p.layers) (end_line (length p.layers) ∷ []) back)

  long : length (head p ++ claim_lines m p.claim) ≡ 3 + claim_size p.claim
  long = let e : length (claim_lines m p.claim) ≡ claim_size p.claim = claim_long m p.claim in omega (arith, e)

  body_at : (k : ℕ) → slice_get (cert_lines m p ++ back) (3 + claim_size p.claim + k) ≡ slice_get (layers_lines m 0 p.layers ++ end_line (length p.layers) ∷ back) k
  body_at k =
      ap (λ (ls : List (List ℕ)). slice_get ls (3 + claim_size p.claim + k)) parts
      ∙ behind_some (head p ++ claim_lines m p.claim) (layers_lines m 0 p.layers ++ end_line (length p.layers) ∷ back) k (3 + claim_size p.claim + k) (omega (arith, long))

  -- the lines of a layer
  layer_at : (l k : ℕ) (nodes : List CertNode) → slice_get p.layers l ≡ Some nodes → (more : List (List ℕ)) × (line_at text (line_of_layer p.first p.claim p.layers l + k) ≡ slice_get (layer_line l nodes ∷ (map (node_line m) nodes ++ more)) k)
  layer_at l k nodes there =
      let one = among m 0 l p.layers nodes there in
      let tail = end_line (length p.layers) ∷ back in
      let sum = sum_by lines_of_layer (take l p.layers) in
      let number : line_of_layer p.first p.claim p.layers l + k - 1 ≡ length front + (3 + claim_size p.claim + (sum + k)) = omega (arith, first) in
      let zeros : 0 + l ≡ l = omega arith in
      let lines_are : layers_lines m 0 p.layers ++ tail ≡ one.before ++ (layer_line l nodes ∷ (map (node_line m) nodes ++ (one.more ++ tail))) =
      ap (λ (ls : List (List ℕ)). ls ++ tail) (one.is ∙ ap (λ (n : ℕ). one.before ++ (layer_lines m n nodes ++ one.more)) zeros)
      ∙ append_assoc one.before (layer_lines m l nodes ++ one.more) tail
      ∙ ap (λ (ls : List (List ℕ)). one.before ++ (layer_line l nodes ∷ ls)) (append_assoc (map (node_line m) nodes) one.more tail) in (
        one.more ++ tail,
        cert_at (line_of_layer p.first p.claim p.layers l + k) (3 + claim_size p.claim + (sum + k)) number
            ∙ body_at (sum + k)
            ∙ ap (λ (ls : List (List ℕ)). slice_get ls (sum + k)) lines_are
            ∙ behind_some one.before (layer_line l nodes ∷ (map (node_line m) nodes ++ (one.more ++ tail))) k (sum + k) (omega (arith, one.long)),
      )

  begins : line_at text p.first ≡ Some (codes "certificate 1")
  begins = cert_at p.first 0 (omega (arith, first))

  claims_at : line_at text (line_of_claim p.first) ≡ Some (claim_line p.claim)
  claims_at =
      cert_at (line_of_claim p.first) 3 (omega (arith, first))
      ∙ ap (λ (ls : List (List ℕ)). slice_get ls 3) (append_assoc (head p ++ claim_lines m p.claim) (layers_lines m 0 p.layers ++ end_line (length p.layers) ∷ []) back)
      ∙ claim_first m p p.claim ((layers_lines m 0 p.layers ++ end_line (length p.layers) ∷ []) ++ back)

  layer_begins : (l : ℕ) (nodes : List CertNode) → slice_get p.layers l ≡ Some nodes → line_at text (line_of_layer p.first p.claim p.layers l) ≡ Some (layer_line l nodes)
  layer_begins l nodes there =
      let none : line_of_layer p.first p.claim p.layers l ≡ line_of_layer p.first p.claim p.layers l + 0 = omega arith in
      ap (line_at text) none ∙ (layer_at l 0 nodes there).1

  node_at : (l place : ℕ) (nodes : List CertNode) (node : CertNode) → slice_get p.layers l ≡ Some nodes → slice_get nodes place ≡ Some node → line_at text (line_of_node p.first p.claim p.layers l place) ≡ Some (node_line m node)
  node_at l place nodes node there at =
      let one = layer_at l (suc place) nodes there in
      let number : line_of_node p.first p.claim p.layers l place ≡ line_of_layer p.first p.claim p.layers l + suc place = omega arith in
      ap (line_at text) number ∙ one.1 ∙ mapped_at (node_line m) nodes one.0 place node at

  ends : line_at text (line_of_end p.first p.claim p.layers) ≡ Some (end_line (length p.layers))
  ends =
      let all : last_line p.first p.claim p.layers ≡ line_of_end p.first p.claim p.layers = last_is_end p.first p.claim p.layers in
      let sum = sum_by lines_of_layer p.layers in
      let place : line_of_end p.first p.claim p.layers - 1 ≡ length front + (3 + claim_size p.claim + sum) = omega (arith, first, all) in
      cert_at (line_of_end p.first p.claim p.layers) (3 + claim_size p.claim + sum) place
      ∙ body_at sum
      ∙ behind_some (layers_lines m 0 p.layers) (end_line (length p.layers) ∷ back) 0 sum (omega (arith, layers_long m 0 p.layers))

  pub told_lines : AreToldLines m p text
  told_lines = record { begin = begins; claim = claims_at; layer = layer_begins; node = node_at; end = ends }

pub lines_told : LawLines
lines_told m p bytes front back is first = told_lines m p (lines bytes) front back is first
