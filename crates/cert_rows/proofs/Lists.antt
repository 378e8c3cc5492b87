-- In the certificate of a pass, the list of a node leads to the kept node that it was written for.
use Rattle.std.proofs.Common.{◌≡◌, ℕ, zero, suc, List, [], ◌∷◌, ◌++◌, slice_get, Option, Some, None, refl, sym, ap, subst, ◌∙◌}
use Rattle.std.specs.Prelude.{ℤ, IfSome, option_and_then}
use Rattle.dp_model.specs.Costs.{InRange}
use Rattle.dp_steps.specs.Lists.{Path}
use Rattle.state_layout.specs.declared.node.Node.{Node}
use Rattle.pass_ledger.specs.Passes.{Pass, IsStart}
use Rattle.pass_ledger.specs.Rows.{row}
use Rattle.pass_ledger.specs.declared.records.LedgerRow.{LedgerRow}
use Rattle.pass_ledger.specs.declared.records.PrunedAt.{PrunedAt}
use Rattle.pass_ledger.specs.declared.records.Visit.{Visit}
use Rattle.pass_ledger.proofs.Moves.{leads_more}
use Rattle.cert_types.specs.declared.nodes.CertNode.{CertNode}
use Rattle.cert_types.specs.declared.nodes.CertStep.{CertStep}
use Rattle.cert_laws.specs.Shown.{layer_of, list_by, list_of}
use Rattle.cert_rows.specs.Rows.{AreRows, IsMade, IsMadeBy}
use Rattle.cert_rows.proofs.Places.{get_other}

-- ---- the lists of nodes

pub made_start : (p : Pass) (rows : List LedgerRow) (n : Node) (made : Option CertStep) → IsMade p rows zero n made → IsStart p n
made_start p rows n None h = h
made_start p rows n (Some step) h = absurd h

pub record ByStep (p : Pass) (rows : List LedgerRow) (l : ℕ) (n : Node) (made : Option CertStep) : Type 0 where
  pub step : CertStep
  pub is : made ≡ Some step
  pub by : IsMadeBy p (row rows l).kept n step

pub made_step : (p : Pass) (rows : List LedgerRow) (l : ℕ) (n : Node) (made : Option CertStep) → IsMade p rows (suc l) n made → ByStep p rows l n made
made_step p rows l n None h = absurd h
made_step p rows l n (Some step) h = record { step = step; is = refl; by = h }

module _ (p : Pass) (rows : List LedgerRow) (waiting : List Node) (visits : List Visit) (pruned : List PrunedAt) (layers : List (List CertNode)) (are : AreRows p rows waiting visits pruned layers) where
  -- the node of a certificate at the place of a kept one, and the other way round
  pub written_at : (l place : ℕ) (n : Node) → slice_get (row rows l).kept place ≡ Some n → (c : CertNode) × (slice_get (layer_of layers l) place ≡ Some c)
  written_at l place n at = get_other (row rows l).kept (layer_of layers l) (are.wide l) place n at

  pub kept_at : (l place : ℕ) (c : CertNode) → slice_get (layer_of layers l) place ≡ Some c → (n : Node) × (slice_get (row rows l).kept place ≡ Some n)
  kept_at l place c at = get_other (layer_of layers l) (row rows l).kept (sym (are.wide l)) place c at

  -- the list of a node leads to the kept node's state, with its cost so far
  pub list_leads : (l place : ℕ) (n : Node) (c : CertNode) → slice_get (row rows l).kept place ≡ Some n → slice_get (layer_of layers l) place ≡ Some c → Path p.model (list_of layers l place) n.state n.cost
  list_leads zero place n c at is =
      let s = made_start p rows n c.made (are.made zero place n c at is) in
      (sym s.state, sym s.cost)
  list_leads (suc l) place n c at is =
      let b = made_step p rows l n c.made (are.made (suc l) place n c at is) in
      let x = b.by.successor in
      let w = written_at l b.step.parent b.by.from b.by.there in
      let before = list_leads l b.step.parent b.by.from w.0 b.by.there w.1 in
      let range = subst (λ (k : Option ℤ). IfSome k InRange) x.cost x.in_range in
      let more = leads_more p.model p.model.target None (list_of layers l b.step.parent) b.by.from.state b.by.from.cost before b.step.dp_ground n.state x.weight x.step range in
      let on : Path p.model (list_of layers l b.step.parent ++ b.step.dp_ground ∷ []) n.state n.cost =
      subst (λ (k : Option ℤ). Path p.model (list_of layers l b.step.parent ++ b.step.dp_ground ∷ []) n.state k) (sym x.cost) more in
      let made : option_and_then (λ (y : CertNode). y.made) (slice_get (layer_of layers (suc l)) place) ≡ Some b.step = ap (λ (o : Option CertNode). option_and_then (λ (y : CertNode). y.made) o) is ∙ b.is in
      subst (λ (us : List ℕ). Path p.model us n.state n.cost) (sym (ap (list_by (list_of layers l)) made)) on
