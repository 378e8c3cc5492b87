-- A certificate shows its claim exactly where it does so in each part. At a line a part finds what the whole finds, or nothing.
use Rattle.std.proofs.Common.{◌≡◌, ℕ, ◌+◌, ◌<◌, ◌≤◌, Bool, true, false, List, Option, Some, None, Result, Ok, Err, refl, sym, ap, subst, ◌∙◌, arith}
use Rattle.std.specs.Prelude.{◌%◌, if◌then◌else◌, ℤ}
use Rattle.std.proofs.lemmas.Bool.{eq-eqb}
use Rattle.std.proofs.lemmas.Nat.{mod_below}
use Rattle.dp_model.specs.declared.parts.PlainState.{PlainState}
use Rattle.dp_model.specs.declared.whole.Model.{Model}
use Rattle.dom_store.specs.declared.past_node.PastNode.{PastNode}
use Rattle.replay_list.specs.declared.replayed.Reached.{Reached}
use Rattle.cert_types.specs.Places.{has_place, place_in_text, whole}
use Rattle.cert_types.specs.declared.cert.Cert.{Cert}
use Rattle.cert_types.specs.declared.nodes.CertNode.{CertNode}
use Rattle.cert_types.specs.declared.parts.CheckPart.{CheckPart}
use Rattle.cert_laws.specs.Shown.{CutHolds, IsAt, Shown, Stands, StepsHold}
use Rattle.cert_laws.specs.Checks.{covering, cut_fails, node_at, node_fails, node_fails_at, steps_fail}
use Rattle.cert_laws.specs.Told.{IsWrong}
use Rattle.cert_laws.specs.InParts.{HasPlace, PartsShow, ShownInPart, WholeShows}
use Rattle.cert_laws.specs.PartChecks.{is_looked, node_fails_in, part_fails_at, IsWrongInPart, LineShowsInPart}
use Rattle.cert_laws.specs.declared.answers.CertReason.{CertReason}
use Rattle.cert_laws.specs.declared.answers.CertReason.TheVariants as reasons
use Rattle.cert_laws.proofs.Walks.{found_node, node_found, reached}
use Rattle.cert_laws.proofs.Fails.{cut_found, found_cut, found_steps, steps_found}
use Rattle.cert_laws.proofs.No.{wrong}

-- ---- which part has a place

-- the one whose number is one more than the remainder
pub its_part : (count before : ℕ) → 1 ≤ count → (index : ℕ) × (1 ≤ index) × (index ≤ count) × (has_place (record { index = index; count = count }) before ≡ true)
its_part count before some =
    let below = mod_below before count (positive count some) in
    (before % count + 1, least (before % count), most (before % count) count below, eq-eqb (before % count + 1) (before % count + 1) refl)
  where
    positive : (c : ℕ) → 1 ≤ c → 0 < c
    positive c h = omega (arith, h)

    least : (r : ℕ) → 1 ≤ r + 1
    least r = omega arith

    most : (r c : ℕ) → r < c → r + 1 ≤ c
    most r c h = omega (arith, h)

-- the one part of one has each
pub whole_has : (before : ℕ) → has_place whole before ≡ true
whole_has before = eq-eqb (before % 1 + 1) 1 (one (before % 1) (mod_below before 1 (omega arith)))
  where
    one : (r : ℕ) → r < 1 → r + 1 ≡ 1
    one r h = omega (arith, h)

-- ---- what is shown

pub parts_show : PartsShow
parts_show m cert count some = (together, each)
  where
    together : ((index : ℕ) → 1 ≤ index → index ≤ count → ShownInPart (record { index = index; count = count }) m cert) → Shown m cert
    together all =
        let first = all 1 (omega arith) some in
        record {
          claim = first.claim;
          target = first.target;
          nodes = first.nodes;
          cuts = first.cuts;
          steps = λ l place s cost stands cut. (let p = its_part count (place_in_text cert.layers l place) some in (all p.0 p.1 p.2).steps l place s cost stands cut p.3);
        }

    each : Shown m cert → (index : ℕ) → 1 ≤ index → index ≤ count → ShownInPart (record { index = index; count = count }) m cert
    each shown index low high = record { claim = shown.claim; target = shown.target; nodes = shown.nodes; cuts = shown.cuts; steps = λ l place s cost stands cut has. shown.steps l place s cost stands cut }

pub whole_shows : WholeShows
whole_shows m cert = (to_whole, of_whole)
  where
    to_whole : ShownInPart whole m cert → Shown m cert
    to_whole shown = record { claim = shown.claim; target = shown.target; nodes = shown.nodes; cuts = shown.cuts; steps = λ l place s cost stands cut. shown.steps l place s cost stands cut (whole_has (place_in_text cert.layers l place)) }

    of_whole : Shown m cert → ShownInPart whole m cert
    of_whole shown = record { claim = shown.claim; target = shown.target; nodes = shown.nodes; cuts = shown.cuts; steps = λ l place s cost stands cut has. shown.steps l place s cost stands cut }

-- ---- what is found at the line of a node

pub looked_same : (m : Model) (cert : Cert) (past : List PastNode) (n : CertNode) (r : Result Reached CertReason) → part_fails_at m cert past true n r ≡ node_fails_at m cert past n r
looked_same m cert past n (Ok here) = refl
looked_same m cert past n (Err reason) = refl

-- a part that has the node finds what the whole finds
pub its_node : (part : CheckPart) (m : Model) (cert : Cert) (l place : ℕ) (n : CertNode) → HasPlace part cert l place → node_fails_in part m cert l place n ≡ node_fails m cert l place n
its_node part m cert l place n has =
    ap (λ (b : Bool). part_fails_at m cert (covering m cert cert.keep (l + 1)) b n (node_at m cert l place)) has
    ∙ looked_same m cert (covering m cert cert.keep (l + 1)) n (node_at m cert l place)

pub whole_node : (m : Model) (cert : Cert) (l place : ℕ) (n : CertNode) → node_fails_in whole m cert l place n ≡ node_fails m cert l place n
whole_node m cert l place n = its_node whole m cert l place n (whole_has (place_in_text cert.layers l place))

some_left : (cut looked : Bool) (a b : Option CertReason) (reason : CertReason) → (if cut then a else (if looked then b else None)) ≡ Some reason → (if cut then a else b) ≡ Some reason
some_left true looked a b reason h = h
some_left false true a b reason h = h
some_left false false a b reason h = absurd (cc)

some_at : (m : Model) (cert : Cert) (past : List PastNode) (looked : Bool) (n : CertNode) (r : Result Reached CertReason) (reason : CertReason) → part_fails_at m cert past looked n r ≡ Some reason → node_fails_at m cert past n r ≡ Some reason
some_at m cert past looked n (Ok here) reason h = some_left n.cut looked (cut_fails m cert here) (steps_fail m cert past here) reason h
some_at m cert past looked n (Err why) reason h = h

-- each part rejects no line that the whole does not, nor for another reason
pub part_some : (part : CheckPart) (m : Model) (cert : Cert) (l place : ℕ) (n : CertNode) (reason : CertReason) → node_fails_in part m cert l place n ≡ Some reason → node_fails m cert l place n ≡ Some reason
part_some part m cert l place n reason h = some_at m cert (covering m cert cert.keep (l + 1)) (is_looked part cert l place) n (node_at m cert l place) reason h

-- ---- the clauses at the line of a node

-- all three clauses hold there, as far as the part has them
pub record LineHoldsInPart (part : CheckPart) (m : Model) (cert : Cert) (l place : ℕ) (n : CertNode) : Type 0 where
  pub here : Reached
  pub found : node_at m cert l place ≡ Ok here
  pub cut : n.cut ≡ true → CutHolds m cert here.state here.cost
  pub steps : n.cut ≡ false → HasPlace part cert l place → StepsHold m cert l here.state here.cost

cut_none : (cut looked : Bool) (a b : Option CertReason) → (if cut then a else (if looked then b else None)) ≡ None → cut ≡ true → a ≡ None
cut_none true looked a b h e = h
cut_none false looked a b h e = absurd (cc)

steps_none : (cut looked : Bool) (a b : Option CertReason) → (if cut then a else (if looked then b else None)) ≡ None → cut ≡ false → looked ≡ true → b ≡ None
steps_none true looked a b h e f = absurd (cc)
steps_none false true a b h e f = h
steps_none false false a b h e f = absurd (cc)

none_there : (cut looked : Bool) (a b : Option CertReason) → (cut ≡ true → a ≡ None) → (cut ≡ false → looked ≡ true → b ≡ None) → (if cut then a else (if looked then b else None)) ≡ None
none_there true looked a b h k = h refl
none_there false true a b h k = k refl refl
none_there false false a b h k = refl

line_by : (part : CheckPart) (m : Model) (cert : Cert) (l place : ℕ) (n : CertNode) (r : Result Reached CertReason) → node_at m cert l place ≡ r → part_fails_at m cert (covering m cert cert.keep (l + 1)) (is_looked part cert l place) n r ≡ None → LineHoldsInPart part m cert l place n
line_by part m cert l place n (Err reason) e h = absurd (cc)
line_by part m cert l place n (Ok here) e h =
    let found = node_found m cert l place here e in
    let a = cut_fails m cert here in
    let b = steps_fail m cert (covering m cert cert.keep (l + 1)) here in
    record {
      here = here;
      found = e;
      cut = λ cut. cut_found m cert here.state here.cost (cut_none n.cut (is_looked part cert l place) a b h cut);
      steps = λ cut has. steps_found m cert l here.state here.cost found.in_range found.inner (steps_none n.cut (is_looked part cert l place) a b h cut has);
    }

pub part_line_found : (part : CheckPart) (m : Model) (cert : Cert) (l place : ℕ) (n : CertNode) → node_fails_in part m cert l place n ≡ None → LineHoldsInPart part m cert l place n
part_line_found part m cert l place n h = line_by part m cert l place n (node_at m cert l place) refl h

pub part_found_line : (part : CheckPart) (m : Model) (cert : Cert) (l place : ℕ) (n : CertNode) → LineHoldsInPart part m cert l place n → node_fails_in part m cert l place n ≡ None
part_found_line part m cert l place n h =
    let found = node_found m cert l place h.here h.found in
    let past = covering m cert cert.keep (l + 1) in
    ap (part_fails_at m cert past (is_looked part cert l place) n) h.found
    ∙ none_there n.cut (is_looked part cert l place) (cut_fails m cert h.here) (steps_fail m cert past h.here)
    (λ cut. found_cut m cert h.here.state h.here.cost (h.cut cut))
    (λ cut has. found_steps m cert l h.here.state h.here.cost found.in_range found.inner (h.steps cut has))

-- what stands at a place is what the check finds there
pub same_there : (m : Model) (cert : Cert) (l place : ℕ) (here : Reached) (s : PlainState) (cost : Option ℤ) → node_at m cert l place ≡ Ok here → Stands m cert l place s cost → here ≡ reached s cost
same_there m cert l place here s cost found stands = ok_same here (reached s cost) (sym found ∙ found_node m cert l place s cost stands.path stands.inner)
  where
    ok_same : (a b : Reached) → ◌≡◌ {A = Result Reached CertReason} (Ok a) (Ok b) → a ≡ b
    ok_same a b e = cc

pub part_line_shows : (part : CheckPart) (m : Model) (cert : Cert) (l place : ℕ) (n : CertNode) → LineHoldsInPart part m cert l place n → LineShowsInPart part m cert l place n
part_line_shows part m cert l place n line =
    let found = node_found m cert l place line.here line.found in
    record {
      node = (line.here.state, ((line.here.cost, found.path), found.inner));
      cut = λ cut s cost stands. subst (λ (x : Reached). CutHolds m cert x.state x.cost) (same_there m cert l place line.here s cost line.found stands) (line.cut cut);
      steps = λ cut has s cost stands. subst (λ (x : Reached). StepsHold m cert l x.state x.cost) (same_there m cert l place line.here s cost line.found stands) (line.steps cut has);
    }

pub part_shows_line : (part : CheckPart) (m : Model) (cert : Cert) (l place : ℕ) (n : CertNode) → IsAt cert l place n → LineShowsInPart part m cert l place n → node_fails_in part m cert l place n ≡ None
part_shows_line part m cert l place n at shows =
    let p = shows.node in
    let stands : Stands m cert l place p.0 p.1.0.0 = record { node = n; at = at; path = p.1.0.1; inner = p.1.1 } in
    part_found_line part m cert l place n (record {
      here = reached p.0 p.1.0.0;
      found = found_node m cert l place p.0 p.1.0.0 p.1.0.1 p.1.1;
      cut = λ cut. shows.cut cut p.0 p.1.0.0 stands;
      steps = λ cut has. shows.steps cut has p.0 p.1.0.0 stands;
    })

-- ---- where the line is rejected

pub some_none : (reason : CertReason) (o : Option CertReason) → o ≡ Some reason → o ≡ None → ⊥
some_none reason o e f = let clash : Some reason ≡ None = sym e ∙ f in cc

-- an open node that stands, and whose line is rejected, is one of the part
has_it : (part : CheckPart) (m : Model) (cert : Cert) (l place : ℕ) (n : CertNode) (reason : CertReason) (s : PlainState) (cost : Option ℤ) → n.cut ≡ false → Stands m cert l place s cost → node_fails_in part m cert l place n ≡ Some reason → HasPlace part cert l place
has_it part m cert l place n reason s cost cut stands fails = by (is_looked part cert l place) refl
  where
    unlooked : (c looked : Bool) (a b : Option CertReason) → c ≡ false → looked ≡ false → (if c then a else (if looked then b else None)) ≡ None
    unlooked true looked a b e f = absurd (cc)
    unlooked false true a b e f = absurd (cc)
    unlooked false false a b e f = refl

    by : (looked : Bool) → is_looked part cert l place ≡ looked → is_looked part cert l place ≡ true
    by true e = e
    by false e =
        let there = found_node m cert l place s cost stands.path stands.inner in
        let past = covering m cert cert.keep (l + 1) in
        let none : node_fails_in part m cert l place n ≡ None =
        ap (part_fails_at m cert past (is_looked part cert l place) n) there
        ∙ unlooked n.cut (is_looked part cert l place) (cut_fails m cert (reached s cost)) (steps_fail m cert past (reached s cost)) cut e in
        absurd (some_none reason (node_fails_in part m cert l place n) fails none)

wrong_by : (part : CheckPart) (m : Model) (cert : Cert) (l place : ℕ) (n : CertNode) (at : IsAt cert l place n) (reason : CertReason) → node_fails_in part m cert l place n ≡ Some reason → IsWrong m cert l place n reason → IsWrongInPart part m cert l place n reason
wrong_by part m cert l place n at reasons.Node fails is = is
wrong_by part m cert l place n at reasons.Cut fails is = is
wrong_by part m cert l place n at reasons.Step fails is = (is.0, has_it part m cert l place n reasons.Step is.1.0 is.1.1 is.0 is.1.2 fails, is.1)
wrong_by part m cert l place n at reasons.Fault fails is = λ shows. some_none reasons.Fault (node_fails_in part m cert l place n) fails (part_shows_line part m cert l place n at shows)
wrong_by part m cert l place n at reasons.Claim fails is = is
wrong_by part m cert l place n at reasons.Target fails is = is

-- the clause of the reason fails in the part
pub part_wrong : (part : CheckPart) (m : Model) (cert : Cert) (l place : ℕ) (n : CertNode) (at : IsAt cert l place n) (reason : CertReason) → node_fails_in part m cert l place n ≡ Some reason → IsWrongInPart part m cert l place n reason
part_wrong part m cert l place n at reason fails = wrong_by part m cert l place n at reason fails (wrong m cert l place n at reason (part_some part m cert l place n reason fails))
