-- What the check of a part tells, by the first line that it rejects; and what the checks of all parts tell together.
use Rattle.std.proofs.Common.{◌≡◌, ℕ, ◌+◌, ◌<◌, ◌≤◌, ◌⊎◌, inl, inr, zero, suc, List, [], ◌∷◌, length, take, slice_get, Option, Some, None, refl, sym, ap, subst, ◌∙◌, arith}
use Rattle.std.specs.List.{sum_by}
use Rattle.std.proofs.lemmas.Bool.{cases_order}
use Rattle.std.proofs.lemmas.List.Sums.{sum_by_more, sum_by-cons}
use Rattle.std.proofs.lemmas.Option.{get_or_from_slice_get, slice_get_within}
use Rattle.dp_model.specs.declared.whole.Model.{Model}
use Rattle.cert_types.specs.Lines.{line_of_claim, line_of_layer, line_of_node, lines_of_layer}
use Rattle.cert_types.specs.Places.{place_in_text, whole}
use Rattle.cert_types.specs.declared.cert.Cert.{Cert}
use Rattle.cert_types.specs.declared.nodes.CertNode.{CertNode}
use Rattle.cert_types.specs.declared.parts.CheckPart.{CheckPart}
use Rattle.cert_laws.specs.Shown.{layer_of, ClaimHolds, IsAt, TargetHolds}
use Rattle.cert_laws.specs.Checks.{claim_fails, layer_told, layers_told, node_fails, target_fails, then_told, told_at}
use Rattle.cert_laws.specs.Told.{ClaimFails, FirstFails, IsBefore}
use Rattle.cert_laws.specs.InParts.{HasPlace, ShownInPart}
use Rattle.cert_laws.specs.PartChecks.{checked_in, layer_told_in, layers_told_in, node_fails_in, FirstOfParts, IsNoEarlier, NodeFailsInPart, PartNoFails, PartYesShows, WholeChecks}
use Rattle.cert_laws.specs.declared.answers.CertReason.{CertReason}
use Rattle.cert_laws.specs.declared.answers.Checked.{Checked}
use Rattle.cert_laws.specs.declared.answers.Checked.TheVariants.{Yes, No}
use Rattle.cert_laws.proofs.Lists.{some_same}
use Rattle.cert_laws.proofs.Walks.{found_node, node_found, reached}
use Rattle.cert_laws.proofs.Yes.{claim_yes, layer_there, target_yes, told_yes, yes_claim, yes_target}
use Rattle.cert_laws.proofs.No.{claim_fails_for, target_fails_for}
use Rattle.cert_laws.proofs.InParts.{its_node, its_part, part_found_line, part_line_found, part_line_shows, part_some, part_wrong, same_there, some_none, whole_node, LineHoldsInPart}
use Rattle.cert_laws.specs.Shown.{CutHolds, Stands, StepsHold}
use Rattle.replay_list.specs.declared.replayed.Reached.{Reached}

-- ---- the one part of one

whole_layer : (m : Model) (cert : Cert) (l place : ℕ) (ns : List CertNode) → layer_told_in whole m cert l place ns ≡ layer_told m cert l place ns
whole_layer m cert l place [] = refl
whole_layer m cert l place (n ∷ ns) =
    ap (λ (o : Option CertReason). told_at (line_of_node cert.first cert.claim cert.layers l place) o (layer_told_in whole m cert l (place + 1) ns)) (whole_node m cert l place n)
    ∙ ap (told_at (line_of_node cert.first cert.claim cert.layers l place) (node_fails m cert l place n)) (whole_layer m cert l (place + 1) ns)

whole_layers : (m : Model) (cert : Cert) (l : ℕ) (layers : List (List CertNode)) → layers_told_in whole m cert l layers ≡ layers_told m cert l layers
whole_layers m cert l [] = refl
whole_layers m cert l (nodes ∷ layers) =
    ap (λ (told : Checked). then_told told (layers_told_in whole m cert (l + 1) layers)) (whole_layer m cert l 0 nodes)
    ∙ ap (then_told (layer_told m cert l 0 nodes)) (whole_layers m cert (l + 1) layers)

pub whole_checks : WholeChecks
whole_checks m cert = ap (λ (told : Checked). told_at cert.first (target_fails m cert) (told_at (line_of_claim cert.first) (claim_fails m cert.claim) told)) (whole_layers m cert 0 cert.layers)

-- ---- what is told of some lines

told_no : (line ln : ℕ) (o : Option CertReason) (reason : CertReason) (later : Checked) → told_at line o later ≡ No ln reason → ((o ≡ Some reason) × (ln ≡ line)) ⊎ ((o ≡ None) × (later ≡ No ln reason))
told_no line ln None reason later h = inr (refl, h)
told_no line ln (Some r) reason later h = inl (cc, cc)

then_yes : (told later : Checked) → then_told told later ≡ Yes → (told ≡ Yes) × (later ≡ Yes)
then_yes Yes later h = (refl, h)
then_yes (No line reason) later h = absurd (cc)

then_no : (ln : ℕ) (reason : CertReason) (told later : Checked) → then_told told later ≡ No ln reason → (told ≡ No ln reason) ⊎ ((told ≡ Yes) × (later ≡ No ln reason))
then_no ln reason Yes later h = inr (refl, h)
then_no ln reason (No line r) later h = inl h

yes_no : (ln : ℕ) (reason : CertReason) → Yes ≡ No ln reason → ⊥
yes_no ln reason h = cc

yes_or_no : (told : Checked) → (told ≡ Yes) ⊎ ((line : ℕ) × (reason : CertReason) × (told ≡ No line reason))
yes_or_no Yes = inl refl
yes_or_no (No line reason) = inr (line, reason, refl)

-- ---- places

plus_none : (a : ℕ) → a ≡ a + 0
plus_none a = omega arith

plus_more : (a k : ℕ) → a + 1 + k ≡ a + suc k
plus_more a k = omega arith

zero_plus : (k : ℕ) → 0 + k ≡ k
zero_plus k = omega arith

never : (j : ℕ) → j < 0 → ⊥
never j lt = absurd (omega arith)

less : (j k : ℕ) → suc j < suc k → j < k
less j k h = omega arith

no_places : {A : Type 0} (k : ℕ) (n : A) → slice_get [] k ≡ Some n → ⊥
no_places k n e = let clash : None ≡ Some n = e in cc

-- what is so at the first place and at all behind it
at_places : {A : Type 0} (P : ℕ → A → Type 0) (place : ℕ) (x : A) (xs : List A) → P place x → ((k : ℕ) (n : A) → slice_get xs k ≡ Some n → P (place + 1 + k) n) → (k : ℕ) (n : A) → slice_get (x ∷ xs) k ≡ Some n → P (place + k) n
at_places P place x xs here rest zero n e = let same : x ≡ n = cc in subst (λ j. P j n) (plus_none place) (subst (P place) same here)
at_places P place x xs here rest (suc k) n e = subst (λ j. P j n) (plus_more place k) (rest k n e)

-- what is so at the first place and at those behind it up to one
before_places : {A : Type 0} (P : ℕ → A → Type 0) (place : ℕ) (x : A) (xs : List A) (k : ℕ) → P place x → ((j : ℕ) (n : A) → j < k → slice_get xs j ≡ Some n → P (place + 1 + j) n) → (j : ℕ) (n : A) → j < suc k → slice_get (x ∷ xs) j ≡ Some n → P (place + j) n
before_places P place x xs k here rest zero n lt e = let same : x ≡ n = cc in subst (λ j. P j n) (plus_none place) (subst (P place) same here)
before_places P place x xs k here rest (suc j) n lt e = subst (λ i. P i n) (plus_more place j) (rest j n (less j k lt) e)

-- ---- the first line that a part rejects

module _ (part : CheckPart) (m : Model) (cert : Cert) where
  abbrev Fine : (l : ℕ) → ℕ → CertNode → Type 0
  Fine l place n = node_fails_in part m cert l place n ≡ None

  abbrev AllFine : (l : ℕ) → List CertNode → Type 0
  AllFine l nodes = (place : ℕ) (n : CertNode) → slice_get nodes place ≡ Some n → Fine l place n

  layer_yes : (l place : ℕ) (nodes : List CertNode) → layer_told_in part m cert l place nodes ≡ Yes → (k : ℕ) (n : CertNode) → slice_get nodes k ≡ Some n → Fine l (place + k) n
  layer_yes l place [] h k n e = absurd (no_places k n e)
  layer_yes l place (x ∷ nodes) h k n e =
      let t = told_yes (line_of_node cert.first cert.claim cert.layers l place) (node_fails_in part m cert l place x) (layer_told_in part m cert l (place + 1) nodes) h in
      at_places (Fine l) place x nodes t.0 (layer_yes l (place + 1) nodes t.1) k n e

  layer_fine : (l : ℕ) (nodes : List CertNode) → layer_told_in part m cert l 0 nodes ≡ Yes → AllFine l nodes
  layer_fine l nodes h place n at = subst (λ j. Fine l j n) (zero_plus place) (layer_yes l 0 nodes h place n at)

  layers_yes : (l : ℕ) (layers : List (List CertNode)) → layers_told_in part m cert l layers ≡ Yes → (k : ℕ) (nodes : List CertNode) → slice_get layers k ≡ Some nodes → AllFine (l + k) nodes
  layers_yes l [] h k nodes e = absurd (no_places k nodes e)
  layers_yes l (nodes ∷ layers) h k found e =
      let t = then_yes (layer_told_in part m cert l 0 nodes) (layers_told_in part m cert (l + 1) layers) h in
      at_places AllFine l nodes layers (layer_fine l nodes t.0) (layers_yes (l + 1) layers t.1) k found e

  -- where none is rejected, none is
  all_fine : layers_told_in part m cert 0 cert.layers ≡ Yes → (l place : ℕ) (n : CertNode) → IsAt cert l place n → Fine l place n
  all_fine h l place n at = subst (λ j. Fine j place n) (zero_plus l) (layers_yes 0 cert.layers h l (layer_of cert.layers l) (layer_there cert.layers l place n at) place n at)

  -- a node of a layer that is rejected, from a place on, before which none is
  record Rejects (l place : ℕ) (ns : List CertNode) (ln : ℕ) (reason : CertReason) : Type 0 where
    pub k : ℕ
    pub n : CertNode
    pub at : slice_get ns k ≡ Some n
    pub line : ln ≡ line_of_node cert.first cert.claim cert.layers l (place + k)
    pub fails : node_fails_in part m cert l (place + k) n ≡ Some reason
    pub before : (j : ℕ) (x : CertNode) → j < k → slice_get ns j ≡ Some x → Fine l (place + j) x

  layer_rejects : (l place : ℕ) (ns : List CertNode) (ln : ℕ) (reason : CertReason) → layer_told_in part m cert l place ns ≡ No ln reason → Rejects l place ns ln reason
  layer_rejects l place [] ln reason h = absurd (yes_no ln reason h)
  layer_rejects l place (x ∷ ns) ln reason h =
      elim (told_no (line_of_node cert.first cert.claim cert.layers l place) ln (node_fails_in part m cert l place x) reason (layer_told_in part m cert l (place + 1) ns) h) [
        | inl here ↦ record {
          k = 0;
          n = x;
          at = refl;
          line = here.1 ∙ ap (line_of_node cert.first cert.claim cert.layers l) (plus_none place);
          fails = subst (λ (j : ℕ). node_fails_in part m cert l j x ≡ Some reason) (plus_none place) here.0;
          before = λ j y lt e. absurd (never j lt);
        }
        | inr later ↦ (let r = layer_rejects l (place + 1) ns ln reason later.1 in record {
          k = suc r.k;
          n = r.n;
          at = r.at;
          line = r.line ∙ ap (line_of_node cert.first cert.claim cert.layers l) (plus_more place r.k);
          fails = subst (λ (j : ℕ). node_fails_in part m cert l j r.n ≡ Some reason) (plus_more place r.k) r.fails;
          before = before_places (Fine l) place x ns r.k later.0 r.before;
        })
      ]

  -- a layer with such a node, from one on, before which no node of a layer is rejected
  record RejectsIn (l : ℕ) (layers : List (List CertNode)) (ln : ℕ) (reason : CertReason) : Type 0 where
    pub k : ℕ
    pub nodes : List CertNode
    pub at : slice_get layers k ≡ Some nodes
    pub rejects : Rejects (l + k) 0 nodes ln reason
    pub before : (j : ℕ) (ns : List CertNode) → j < k → slice_get layers j ≡ Some ns → AllFine (l + j) ns

  layers_reject : (l : ℕ) (layers : List (List CertNode)) (ln : ℕ) (reason : CertReason) → layers_told_in part m cert l layers ≡ No ln reason → RejectsIn l layers ln reason
  layers_reject l [] ln reason h = absurd (yes_no ln reason h)
  layers_reject l (nodes ∷ layers) ln reason h =
      elim (then_no ln reason (layer_told_in part m cert l 0 nodes) (layers_told_in part m cert (l + 1) layers) h) [
        | inl here ↦ record {
          k = 0;
          nodes = nodes;
          at = refl;
          rejects = subst (λ (j : ℕ). Rejects j 0 nodes ln reason) (plus_none l) (layer_rejects l 0 nodes ln reason here);
          before = λ j ns lt e. absurd (never j lt);
        }
        | inr later ↦ (let r = layers_reject (l + 1) layers ln reason later.1 in record {
          k = suc r.k;
          nodes = r.nodes;
          at = r.at;
          rejects = subst (λ (j : ℕ). Rejects j 0 r.nodes ln reason) (plus_more l r.k) r.rejects;
          before = before_places AllFine l nodes layers r.k (layer_fine l nodes later.0) r.before;
        })
      ]

  -- The node at this place is the first whose line is rejected, for this reason.
  record FirstRejected (line : ℕ) (reason : CertReason) : Type 0 where
    pub l : ℕ
    pub place : ℕ
    pub n : CertNode
    pub at : IsAt cert l place n
    pub line_is : line ≡ line_of_node cert.first cert.claim cert.layers l place
    pub fails : node_fails_in part m cert l place n ≡ Some reason
    pub before : (k q : ℕ) (x : CertNode) → IsBefore k q l place → IsAt cert k q x → Fine k q x

  first_of_lines : (line : ℕ) (reason : CertReason) → RejectsIn 0 cert.layers line reason → FirstRejected line reason
  first_of_lines line reason r =
      let x = subst (λ (l : ℕ). Rejects l 0 r.nodes line reason) (zero_plus r.k) r.rejects in
      let same : layer_of cert.layers r.k ≡ r.nodes = get_or_from_slice_get cert.layers r.k r.nodes [] r.at in
      record {
        l = r.k;
        place = x.k;
        n = x.n;
        at = subst (λ (ns : List CertNode). slice_get ns x.k ≡ Some x.n) (sym same) x.at;
        line_is = x.line ∙ ap (line_of_node cert.first cert.claim cert.layers r.k) (zero_plus x.k);
        fails = subst (λ (j : ℕ). node_fails_in part m cert r.k j x.n ≡ Some reason) (zero_plus x.k) x.fails;
        before = λ k q y before at. elim before [
          | inl lower ↦ subst (λ (i : ℕ). Fine i q y) (zero_plus k) (r.before k (layer_of cert.layers k) lower (layer_there cert.layers k q y at) q y at)
          | inr level ↦ (
              let here : slice_get r.nodes q ≡ Some y = subst (λ (ns : List CertNode). slice_get ns q ≡ Some y) (ap (layer_of cert.layers) level.0 ∙ same) at in
              subst (λ (i : ℕ). Fine i q y) (sym level.0) (subst (λ (i : ℕ). Fine r.k i y) (zero_plus q) (x.before q y level.1 here)))
        ];
      }

  -- how the check of a part comes to tell no
  abbrev SaysNo : (line : ℕ) → CertReason → Type 0
  SaysNo line reason =
      ((target_fails m cert ≡ Some reason) × (line ≡ cert.first))
      ⊎ (((target_fails m cert ≡ None) × (claim_fails m cert.claim ≡ Some reason) × (line ≡ line_of_claim cert.first))
      ⊎ ((target_fails m cert ≡ None) × (claim_fails m cert.claim ≡ None) × FirstRejected line reason))

  says_no : (line : ℕ) (reason : CertReason) → checked_in part m cert ≡ No line reason → SaysNo line reason
  says_no line reason h =
      elim (told_no cert.first line (target_fails m cert) reason (told_at (line_of_claim cert.first) (claim_fails m cert.claim) (layers_told_in part m cert 0 cert.layers)) h) [
        | inl first ↦ inl (first.0, first.1)
        | inr more ↦ elim (told_no (line_of_claim cert.first) line (claim_fails m cert.claim) reason (layers_told_in part m cert 0 cert.layers) more.1) [
          | inl claim ↦ inr (inl (more.0, claim.0, claim.1))
          | inr lines ↦ inr (inr (more.0, lines.0, first_of_lines line reason (layers_reject 0 cert.layers line reason lines.1)))
        ]
      ]

  says_yes : checked_in part m cert ≡ Yes → (target_fails m cert ≡ None) × (claim_fails m cert.claim ≡ None) × ((l place : ℕ) (n : CertNode) → IsAt cert l place n → Fine l place n)
  says_yes h =
      let t = told_yes cert.first (target_fails m cert) (told_at (line_of_claim cert.first) (claim_fails m cert.claim) (layers_told_in part m cert 0 cert.layers)) h in
      let c = told_yes (line_of_claim cert.first) (claim_fails m cert.claim) (layers_told_in part m cert 0 cert.layers) t.1 in
      (t.0, c.0, all_fine c.1)

  -- ---- yes

  shown_from : TargetHolds m cert → ClaimHolds m cert.claim → ((l place : ℕ) (n : CertNode) → IsAt cert l place n → LineHoldsInPart part m cert l place n) → ShownInPart part m cert
  shown_from target claim lines =
      record {
        claim = claim;
        target = target;
        nodes = λ l place n at. (let line = lines l place n at in let found = node_found m cert l place line.here line.found in (line.here.state, ((line.here.cost, found.path), found.inner)));
        cuts = λ l place s cost stands cut.
            (let line = lines l place stands.node stands.at in subst (λ (x : Reached). CutHolds m cert x.state x.cost) (same_there m cert l place line.here s cost line.found stands) (line.cut cut));
        steps = λ l place s cost stands cut has.
            (let line = lines l place stands.node stands.at in subst (λ (x : Reached). StepsHold m cert l x.state x.cost) (same_there m cert l place line.here s cost line.found stands) (line.steps cut has));
      }

  line_shown : ShownInPart part m cert → (l place : ℕ) (n : CertNode) → IsAt cert l place n → LineHoldsInPart part m cert l place n
  line_shown shown l place n at =
      let p = shown.nodes l place n at in
      let stands : Stands m cert l place p.0 p.1.0.0 = record { node = n; at = at; path = p.1.0.1; inner = p.1.1 } in
      record {
        here = reached p.0 p.1.0.0;
        found = found_node m cert l place p.0 p.1.0.0 p.1.0.1 p.1.1;
        cut = λ cut. shown.cuts l place p.0 p.1.0.0 stands cut;
        steps = λ cut has. shown.steps l place p.0 p.1.0.0 stands cut has;
      }

  yes_shows : checked_in part m cert ≡ Yes → ShownInPart part m cert
  yes_shows h = let y = says_yes h in shown_from (target_yes m cert y.0) (claim_yes m cert.claim y.1) (λ l place n at. part_line_found part m cert l place n (y.2 l place n at))

  no_clash : ShownInPart part m cert → (line : ℕ) (reason : CertReason) → SaysNo line reason → ⊥
  no_clash shown line reason (inl target) = some_none reason (target_fails m cert) target.0 (yes_target m cert shown.target)
  no_clash shown line reason (inr (inl claim)) = some_none reason (claim_fails m cert.claim) claim.1 (yes_claim m cert.claim shown.claim)
  no_clash shown line reason (inr (inr lines)) =
      let r = lines.2 in
      some_none reason (node_fails_in part m cert r.l r.place r.n) r.fails (part_found_line part m cert r.l r.place r.n (line_shown shown r.l r.place r.n r.at))

  shows_yes : ShownInPart part m cert → checked_in part m cert ≡ Yes
  shows_yes shown = elim (yes_or_no (checked_in part m cert)) [ inl is ↦ is | inr other ↦ absurd (no_clash shown other.0 other.1 (says_no other.0 other.1 other.2)) ]

  -- ---- no

  node_fails_there : (line : ℕ) (reason : CertReason) → TargetHolds m cert → ClaimHolds m cert.claim → FirstRejected line reason → NodeFailsInPart part m cert line reason
  node_fails_there line reason target claim r = (
    r.l,
    r.place,
    r.n,
    r.at,
    r.line_is,
    record {
      target = target;
      claim = claim;
      lines = λ k q n before at. part_line_shows part m cert k q n (part_line_found part m cert k q n (r.before k q n before at));
    },
    part_wrong part m cert r.l r.place r.n r.at reason r.fails,
  )

  no_fails : (line : ℕ) (reason : CertReason) → SaysNo line reason → FirstFails m cert line reason ⊎ (ClaimFails m cert line reason ⊎ NodeFailsInPart part m cert line reason)
  no_fails line reason (inl target) = inl (target_fails_for m cert line reason target.0 target.1)
  no_fails line reason (inr (inl claim)) = inr (inl (claim_fails_for m cert line reason claim.0 claim.1 claim.2))
  no_fails line reason (inr (inr lines)) = inr (inr (node_fails_there line reason (target_yes m cert lines.0) (claim_yes m cert.claim lines.1) lines.2))

pub part_yes_shows : PartYesShows
part_yes_shows part m cert = (yes_shows part m cert, shows_yes part m cert)

pub part_no_fails : PartNoFails
part_no_fails part m cert line reason h = no_fails part m cert line reason (says_no part m cert line reason h)

-- ---- lines rise in the order of the text

sum_rises : {A : Type 0} (f : A → ℕ) (a b : ℕ) (xs : List A) → a ≤ b → sum_by f (take a xs) ≤ sum_by f (take b xs)
sum_rises f zero b xs h = let none : sum_by f (take 0 xs) ≡ 0 = refl in omega (arith, none)
sum_rises f (suc a) zero xs h = absurd (omega arith)
sum_rises f (suc a) (suc b) [] h = omega arith
sum_rises f (suc a) (suc b) (x ∷ xs) h =
    let le : a ≤ b = omega arith in
    let more = sum_rises f a b xs le in
    let p : sum_by f (take (suc a) (x ∷ xs)) ≡ f x + sum_by f (take a xs) = sum_by-cons f x (take a xs) in
    let q : sum_by f (take (suc b) (x ∷ xs)) ≡ f x + sum_by f (take b xs) = sum_by-cons f x (take b xs) in
    omega (arith, more, p, q)

-- the lines of a layer stand before those of a later one
layer_before : (cert : Cert) (l k place q : ℕ) (n : CertNode) → IsAt cert l place n → l < k → line_of_node cert.first cert.claim cert.layers l place < line_of_node cert.first cert.claim cert.layers k q
layer_before cert l k place q n at lower =
    let there = layer_there cert.layers l place n at in
    let within : l < length cert.layers = slice_get_within cert.layers l (layer_of cert.layers l) there in
    let inside : place < length (layer_of cert.layers l) = slice_get_within (layer_of cert.layers l) place n at in
    let more = sum_by_more lines_of_layer cert.layers l [] within in
    let up = sum_rises lines_of_layer (l + 1) k cert.layers (next l k lower) in
    omega (arith, inside, more, up)
  where
    next : (l k : ℕ) → l < k → l + 1 ≤ k
    next l k h = omega (arith, h)

lines_rise : (cert : Cert) (l place k q : ℕ) (n : CertNode) → IsAt cert l place n → IsBefore l place k q → line_of_node cert.first cert.claim cert.layers l place < line_of_node cert.first cert.claim cert.layers k q
lines_rise cert l place k q n at (inl lower) = layer_before cert l k place q n at lower
lines_rise cert l place k q n at (inr level) = subst (λ (j : ℕ). line_of_node cert.first cert.claim cert.layers l place < line_of_node cert.first cert.claim cert.layers j q) level.0 (in_layer (line_of_layer cert.first cert.claim cert.layers l) place q level.1)
  where
    in_layer : (line place q : ℕ) → place < q → line + 1 + place < line + 1 + q
    in_layer line place q h = omega (arith, h)

place_order : (l place k q : ℕ) → IsBefore l place k q ⊎ (((l ≡ k) × (place ≡ q)) ⊎ IsBefore k q l place)
place_order l place k q =
    elim (cases_order l k) [
      | inl level ↦ elim (cases_order place q) [
        | inl same ↦ inr (inl (level, same))
        | inr apart ↦ elim apart [ inl low ↦ inl (inr (level, low)) | inr high ↦ inr (inr (inr (sym level, high))) ]
      ]
      | inr apart ↦ elim apart [ inl low ↦ inl (inl low) | inr high ↦ inr (inr (inl high)) ]
    ]

-- ---- all parts together

-- the whole rejects this node's line first
module _ (m : Model) (cert : Cert) (line : ℕ) (reason : CertReason) (target : target_fails m cert ≡ None) (claim : claim_fails m cert.claim ≡ None) (r : FirstRejected whole m cert line reason) where
  whole_some : node_fails m cert r.l r.place r.n ≡ Some reason
  whole_some = sym (whole_node m cert r.l r.place r.n) ∙ r.fails

  -- no part rejects a line before it
  not_before : (part : CheckPart) (l place : ℕ) (n : CertNode) (why : CertReason) → IsAt cert l place n → node_fails_in part m cert l place n ≡ Some why → IsBefore l place r.l r.place → ⊥
  not_before part l place n why at fails before =
      some_none why (node_fails m cert l place n) (part_some part m cert l place n why fails) (sym (whole_node m cert l place n) ∙ r.before l place n before at)

  -- what a part that rejects the same line finds there
  same_node : (l place : ℕ) (n : CertNode) → IsAt cert l place n → l ≡ r.l → place ≡ r.place → n ≡ r.n
  same_node l place n at level same =
      some_same n r.n (sym at ∙ ap (λ (k : ℕ). slice_get (layer_of cert.layers k) place) level ∙ ap (λ (q : ℕ). slice_get (layer_of cert.layers r.l) q) same ∙ r.at)

  same_reason : (part : CheckPart) (l place : ℕ) (n : CertNode) (why : CertReason) → IsAt cert l place n → node_fails_in part m cert l place n ≡ Some why → l ≡ r.l → place ≡ r.place → reason ≡ why
  same_reason part l place n why at fails level same =
      let found = part_some part m cert l place n why fails in
      let there : node_fails m cert r.l r.place r.n ≡ Some why =
      subst (λ (k : ℕ). node_fails m cert k r.place r.n ≡ Some why) level
      (subst (λ (q : ℕ). node_fails m cert l q r.n ≡ Some why) same
      (subst (λ (x : CertNode). node_fails m cert l place x ≡ Some why) (same_node l place n at level same) found)) in
      some_same reason why (sym whole_some ∙ there)

  same_line : (l place : ℕ) → l ≡ r.l → place ≡ r.place → line ≡ line_of_node cert.first cert.claim cert.layers l place
  same_line l place level same =
      r.line_is ∙ ap (λ (k : ℕ). line_of_node cert.first cert.claim cert.layers k r.place) (sym level) ∙ ap (line_of_node cert.first cert.claim cert.layers l) (sym same)

  placed : (part : CheckPart) (other : ℕ) (why : CertReason) (p : FirstRejected part m cert other why) → IsBefore p.l p.place r.l r.place ⊎ (((p.l ≡ r.l) × (p.place ≡ r.place)) ⊎ IsBefore r.l r.place p.l p.place) → (line < other) ⊎ ((line ≡ other) × (reason ≡ why))
  placed part other why p (inl earlier) = absurd (not_before part p.l p.place p.n why p.at p.fails earlier)
  placed part other why p (inr (inl same)) = inr (same_line p.l p.place same.0 same.1 ∙ sym p.line_is, same_reason part p.l p.place p.n why p.at p.fails same.0 same.1)
  placed part other why p (inr (inr later)) =
      inl (subst (λ (a : ℕ). a < other) (sym r.line_is) (subst (λ (b : ℕ). line_of_node cert.first cert.claim cert.layers r.l r.place < b) (sym p.line_is) (lines_rise cert r.l r.place p.l p.place r.n r.at later)))

  by_no : (part : CheckPart) (other : ℕ) (why : CertReason) → SaysNo part m cert other why → (line < other) ⊎ ((line ≡ other) × (reason ≡ why))
  by_no part other why (inl t) = absurd (some_none why (target_fails m cert) t.0 target)
  by_no part other why (inr (inl c)) = absurd (some_none why (claim_fails m cert.claim) c.1 claim)
  by_no part other why (inr (inr p)) = placed part other why p.2 (place_order p.2.l p.2.place r.l r.place)

  none_earlier : (part : CheckPart) (told : Checked) → checked_in part m cert ≡ told → IsNoEarlier line reason told
  none_earlier part Yes e = tt
  none_earlier part (No other why) e = by_no part other why (says_no part m cert other why e)

  -- the part that has the node rejects its line: it tells no, not later than there
  at_place : (part : CheckPart) → HasPlace part cert r.l r.place → (other : ℕ) (why : CertReason) → (p : FirstRejected part m cert other why) → IsBefore p.l p.place r.l r.place ⊎ (((p.l ≡ r.l) × (p.place ≡ r.place)) ⊎ IsBefore r.l r.place p.l p.place) → No other why ≡ No line reason
  at_place part has other why p (inl earlier) = absurd (not_before part p.l p.place p.n why p.at p.fails earlier)
  at_place part has other why p (inr (inl same)) =
      let a = same_line p.l p.place same.0 same.1 ∙ sym p.line_is in
      let b = same_reason part p.l p.place p.n why p.at p.fails same.0 same.1 in
      ap (λ (k : ℕ). No k why) (sym a) ∙ ap (λ (x : CertReason). No line x) (sym b)
  at_place part has other why p (inr (inr later)) =
      absurd (some_none reason (node_fails_in part m cert r.l r.place r.n) (its_node part m cert r.l r.place r.n has ∙ whole_some) (p.before r.l r.place r.n later r.at))

  its_no : (part : CheckPart) → HasPlace part cert r.l r.place → (other : ℕ) (why : CertReason) → SaysNo part m cert other why → No other why ≡ No line reason
  its_no part has other why (inl t) = absurd (some_none why (target_fails m cert) t.0 target)
  its_no part has other why (inr (inl c)) = absurd (some_none why (claim_fails m cert.claim) c.1 claim)
  its_no part has other why (inr (inr p)) = at_place part has other why p.2 (place_order p.2.l p.2.place r.l r.place)

  its_check : (part : CheckPart) → HasPlace part cert r.l r.place → (told : Checked) → checked_in part m cert ≡ told → told ≡ No line reason
  its_check part has Yes e =
      absurd (some_none reason (node_fails_in part m cert r.l r.place r.n) (its_node part m cert r.l r.place r.n has ∙ whole_some) ((says_yes part m cert e).2 r.l r.place r.n r.at))
  its_check part has (No other why) e = its_no part has other why (says_no part m cert other why e)

  one_rejects : (count : ℕ) → 1 ≤ count → (index : ℕ) × (1 ≤ index) × (index ≤ count) × (checked_in (record { index = index; count = count }) m cert ≡ No line reason)
  one_rejects count some =
      let p = its_part count (place_in_text cert.layers r.l r.place) some in
      let part : CheckPart = record { index = p.0; count = count } in
      (p.0, p.1, p.2, its_check part p.3 (checked_in part m cert) refl)

-- what is told of the lines before all nodes is the same in each part
at_start : (part : CheckPart) (m : Model) (cert : Cert) (line : ℕ) (reason : CertReason) → ((target_fails m cert ≡ Some reason) × (line ≡ cert.first)) ⊎ ((target_fails m cert ≡ None) × (claim_fails m cert.claim ≡ Some reason) × (line ≡ line_of_claim cert.first)) → checked_in part m cert ≡ No line reason
at_start part m cert line reason (inl t) =
    ap (λ (o : Option CertReason). told_at cert.first o (told_at (line_of_claim cert.first) (claim_fails m cert.claim) (layers_told_in part m cert 0 cert.layers))) t.0
    ∙ ap (λ (k : ℕ). No k reason) (sym t.1)
at_start part m cert line reason (inr c) =
    ap (λ (o : Option CertReason). told_at cert.first o (told_at (line_of_claim cert.first) (claim_fails m cert.claim) (layers_told_in part m cert 0 cert.layers))) c.0
    ∙ ap (λ (o : Option CertReason). told_at (line_of_claim cert.first) o (layers_told_in part m cert 0 cert.layers)) c.1
    ∙ ap (λ (k : ℕ). No k reason) (sym c.2)

-- each part tells the same no
all_alike : (m : Model) (cert : Cert) (count line : ℕ) (reason : CertReason) → 1 ≤ count → ((part : CheckPart) → checked_in part m cert ≡ No line reason)
    → ((index : ℕ) × (1 ≤ index) × (index ≤ count) × (checked_in (record { index = index; count = count }) m cert ≡ No line reason)) × ((part : CheckPart) → IsNoEarlier line reason (checked_in part m cert))
all_alike m cert count line reason some same = ((1, (omega arith), some, same (record { index = 1; count = count })), λ part. subst (IsNoEarlier line reason) (sym (same part)) (inr (refl, refl)))

by_whole : (m : Model) (cert : Cert) (count line : ℕ) (reason : CertReason) → 1 ≤ count → SaysNo whole m cert line reason
    → ((index : ℕ) × (1 ≤ index) × (index ≤ count) × (checked_in (record { index = index; count = count }) m cert ≡ No line reason)) × ((part : CheckPart) → IsNoEarlier line reason (checked_in part m cert))
by_whole m cert count line reason some (inl t) = all_alike m cert count line reason some (λ part. at_start part m cert line reason (inl t))
by_whole m cert count line reason some (inr (inl c)) = all_alike m cert count line reason some (λ part. at_start part m cert line reason (inr c))
by_whole m cert count line reason some (inr (inr lines)) = (
  one_rejects m cert line reason lines.0 lines.1 lines.2 count some,
  λ part. none_earlier m cert line reason lines.0 lines.1 lines.2 part (checked_in part m cert) refl,
)

pub first_of_parts : FirstOfParts
first_of_parts m cert count line reason some h = by_whole m cert count line reason some (says_no whole m cert line reason (whole_checks m cert ∙ h))
