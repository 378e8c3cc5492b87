-- Copies: an open node that stands for what an earlier open one stands for fails as that one does.
use Rattle.std.proofs.Common.{◌≡◌, ℕ, ◌<◌, Bool, true, false, if◌then◌else◌, List, Option, Some, None, Result, Ok, Err, refl, sym, ap, ◌∙◌, subst}
use Rattle.std.specs.Prelude.{IfOk}
use Rattle.std.specs.List.{slice_get}
use Rattle.dp_model.specs.declared.whole.Model.{Model}
use Rattle.state_layout.specs.declared.node.Node.{Node}
use Rattle.dom_store.specs.declared.past_node.PastNode.{PastNode}
use Rattle.replay_list.specs.declared.replayed.Reached.{Reached}
use Rattle.cert_types.specs.declared.cert.Cert.{Cert}
use Rattle.cert_types.specs.declared.nodes.CertNode.{CertNode}
use Rattle.cert_laws.specs.Checks.{cut_fails, steps_fail}
use Rattle.cert_laws.specs.PartChecks.{part_fails_at}
use Rattle.cert_laws.specs.declared.answers.CertReason.{CertReason}
use Rattle.cert_check.specs.Looked.{IsCopy, found, has_in_layer, reached_by}
use Rattle.cert_check.specs.declared.shares.Share.{Share}
use Rattle.cert_check.specs.declared.standings.Standing.{Standing}
use Rattle.cert_check.specs.declared.standings.Standing.TheVariants.{Stands}

same_one : {A : Type 0} (x y : A) → Some x ≡ Some y → x ≡ y
same_one x y e = cc

pub reached_same : (node here : Node) → node.state ≡ here.state → node.cost ≡ here.cost → reached_by node ≡ reached_by here
reached_same node here e f = cc

-- what is found at an earlier place makes the node at a place a copy
pub copy_found : {E : Type 0} (share : Share) (nodes : List CertNode) (standings : List Standing) (place : ℕ) (copy : CertNode) (s : Standing) (here : Node) (r : Result Bool E)
    → slice_get nodes place ≡ Some copy → copy.cut ≡ false → slice_get standings place ≡ Some s → s ≡ Stands here
    → IfOk r (λ copied. copied ≡ true → (earlier : ℕ) × (n : CertNode) × (t : Standing) × (earlier < place) × (slice_get nodes earlier ≡ Some n) × (slice_get standings earlier ≡ Some t) × (n.cut ≡ false) × (found t ≡ Ok (reached_by here)) × (has_in_layer share earlier ≡ true))
    → IfOk r (λ copied. copied ≡ true → IsCopy share nodes standings place)
copy_found share nodes standings place copy s here (Ok copied) at uncut stands is h = λ yes. let t = h yes in record {
  earlier = t.0;
  first = t.1;
  copy = copy;
  found_first = t.2;
  found_copy = s;
  before = t.3;
  at_first = t.4;
  at_copy = at;
  stands_first = t.5;
  stands_copy = stands;
  open_first = t.6;
  open_copy = uncut;
  same = t.7 ∙ sym (ap found is);
  looked = t.8;
}
copy_found share nodes standings place copy s here (Err e) at uncut stands is h = tt

-- where an open node that is looked at does not fail, no open one of the same state does, looked at or not
still : (cut other looked : Bool) (a b : Option CertReason) → cut ≡ false → other ≡ false → (if other then a else (if true then b else None)) ≡ None → (if cut then a else (if looked then b else None)) ≡ None
still true other looked a b uncut also h = absurd (cc)
still false true looked a b uncut also h = absurd (cc)
still false false true a b uncut also h = h
still false false false a b uncut also h = refl

open_still : (m : Model) (cert : Cert) (past : List PastNode) (looked : Bool) (n other : CertNode) (r : Result Reached CertReason) → n.cut ≡ false → other.cut ≡ false → part_fails_at m cert past true other r ≡ None → part_fails_at m cert past looked n r ≡ None
open_still m cert past looked n other (Ok here) uncut also h = still n.cut other.cut looked (cut_fails m cert here) (steps_fail m cert past here) uncut also h
open_still m cert past looked n other (Err reason) uncut also h = h

-- the line of a copy is not rejected where none before it is
pub copy_fails : (m : Model) (cert : Cert) (past : List PastNode) (share : Share) (nodes : List CertNode) (standings : List Standing) (place : ℕ) → IsCopy share nodes standings place
    → ((k : ℕ) (n : CertNode) (s : Standing) → k < place → slice_get nodes k ≡ Some n → slice_get standings k ≡ Some s → part_fails_at m cert past (has_in_layer share k) n (found s) ≡ None)
    → (n : CertNode) (s : Standing) → slice_get nodes place ≡ Some n → slice_get standings place ≡ Some s → None ≡ part_fails_at m cert past (has_in_layer share place) n (found s)
copy_fails m cert past share nodes standings place k before n s at stands =
    let looked = has_in_layer share place in
    let first : part_fails_at m cert past true k.first (found k.found_first) ≡ None =
    subst (λ (b : Bool). part_fails_at m cert past b k.first (found k.found_first) ≡ None) k.looked (before k.earlier k.first k.found_first k.before k.at_first k.stands_first) in
    let node : k.copy ≡ n = same_one k.copy n (sym k.at_copy ∙ at) in
    let stood : k.found_copy ≡ s = same_one k.found_copy s (sym k.stands_copy ∙ stands) in
    sym
    (subst (λ (x : CertNode). part_fails_at m cert past looked x (found s) ≡ None) node
    (subst (λ (t : Standing). part_fails_at m cert past looked k.copy (found t) ≡ None) stood
    (subst (λ (r : Result Reached CertReason). part_fails_at m cert past looked k.copy r ≡ None) k.same
    (open_still m cert past looked k.copy k.first (found k.found_first) k.open_copy k.open_first first))))

-- what is told of the node at a place is told of each that stands there
pub fails_there : {E : Type 0} (m : Model) (cert : Cert) (past : List PastNode) (looked other : Bool) (nodes : List CertNode) (standings : List Standing) (place : ℕ) (x : CertNode) (t : Standing) (r : Result (Option CertReason) E)
    → looked ≡ other → slice_get nodes place ≡ Some x → slice_get standings place ≡ Some t → IfOk r (λ fails. fails ≡ part_fails_at m cert past looked x (found t))
    → IfOk r (λ fails. (n : CertNode) (s : Standing) → slice_get nodes place ≡ Some n → slice_get standings place ≡ Some s → fails ≡ part_fails_at m cert past other n (found s))
fails_there m cert past looked other nodes standings place x t (Ok fails) is at stands h = λ n s at_n stands_s.
    let node : x ≡ n = same_one x n (sym at ∙ at_n) in
    let stood : t ≡ s = same_one t s (sym stands ∙ stands_s) in
    subst (λ (b : Bool). fails ≡ part_fails_at m cert past b n (found s)) is
    (subst (λ (y : CertNode). fails ≡ part_fails_at m cert past looked y (found s)) node
    (subst (λ (u : Standing). fails ≡ part_fails_at m cert past looked x (found u)) stood h))
fails_there m cert past looked other nodes standings place x t (Err e) is at stands h = tt
