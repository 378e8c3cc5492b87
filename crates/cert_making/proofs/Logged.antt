-- What is read off a shard that has ended: a legal list of what it holds, and a list that meets its fault.
use Rattle.std.proofs.Common.{◌≡◌, ℕ, List, [], ◌∷◌, ◌++◌, reverse, Option, Some, None, Result, Ok, Err, sym, ap, subst, ◌∙◌}
use Rattle.std.specs.Prelude.{ℤ, IfOk, option_to_list, pos, ◌<ℤ◌}
use Rattle.std.specs.declared.alloc.AllocError.{AllocError}
use Rattle.dp_model.specs.declared.answers.FaultAt.{FaultAt}
use Rattle.dp_model.specs.declared.answers.FaultKind.{FaultKind}
use Rattle.dp_model.specs.declared.answers.Found.{Found}
use Rattle.dp_model.specs.declared.answers.Spot.{Spot}
use Rattle.dp_steps.specs.Faults.{Meets}
use Rattle.dp_steps.specs.Lists.{Solution}
use Rattle.path_log.specs.Paths as paths
use Rattle.path_log.specs.Paths.{Log}
use Rattle.pass_ledger.specs.Passes.{Pass, word_of}
use Rattle.pass_ledger.specs.Records.{Own}
use Rattle.pass_ledger.specs.declared.records.FaultHere.{FaultHere}
use Rattle.pass_ledger.specs.declared.records.Held.{Held}
use Rattle.shard_core.specs.Calls.{IsEnd}
use Rattle.shard_core.specs.declared.shard.Shard.{Shard}
use Rattle.shard_core.specs.declared.shard.ShardEnd.{ShardEnd}
use Rattle.cert_rows.proofs.Ends.{fault_along, found_along}
use Rattle.cert_making.specs.Makes.{HasEnded}

pub some_same : {X : Type 0} (x y : X) → Some x ≡ Some y → x ≡ y
some_same x y e = cc

pub no_some : {X : Type 0} (o : Option X) (x : X) → o ≡ None → o ≡ Some x → ⊥
no_some o x e k = let clash : None ≡ Some x = sym e ∙ k in cc

module _ {A B : Type 0} (p : Pass) (s : Shard A B) (e : HasEnded p s) (end : ShardEnd) (log : Log) (is : IsEnd p s.me e.shard_record end log) where
  own : Own p 0 e.shard_record
  own = subst (λ (i : ℕ). Own p i e.shard_record) e.first is.own

  -- the held solution that was handed back, in a list of the shard's log alone
  pub held_leads : (held : Held) → end.held ≡ Some held → (logs : List Log) → logs ≡ log ∷ [] → (back : List ℕ) × paths.LeadsBack logs held.parent back × Solution p.model (reverse back ++ held.transition ∷ []) held.cost
  held_leads held at logs one =
      let way = found_along p e.shard_record e.alone own e.arrived log is.log_entries held (sym is.held ∙ at) in
      (way.0, subst (λ (ls : List Log). paths.LeadsBack ls held.parent way.0) (sym one) way.1, way.2)

  pub held_told : (h held : Held) → e.shard_record.held ≡ Some h → end.held ≡ Some held → (claimed : ℕ) → word_of p h.cost <ℤ pos claimed → (logs : List Log) → logs ≡ log ∷ [] → (r : Result Found AllocError) → IfOk r (λ (f : Found). f.cost ≡ held.cost)
      → ((back : List ℕ) → paths.LeadsBack logs held.parent back → IfOk r (λ (f : Found). f.steps ≡ reverse back ++ held.transition ∷ [])) → IfOk r (λ (f : Found). Solution p.model f.steps f.cost × (word_of p f.cost <ℤ pos claimed))
  held_told h held eh at claimed less logs one (Err x) cost steps = tt
  held_told h held eh at claimed less logs one (Ok f) cost steps =
      let way = held_leads held at logs one in
      let same : h ≡ held = some_same h held (sym eh ∙ (sym is.held ∙ at)) in
      let legal = subst (λ (us : List ℕ). Solution p.model us held.cost) (sym (steps way.0 way.1)) way.2 in
      (subst (λ (c : ℤ). Solution p.model f.steps c) (sym cost) legal, subst (λ (c : ℤ). word_of p c <ℤ pos claimed) (ap (λ (x : Held). x.cost) same ∙ sym cost) less)

  pub fault_leads : (fault : FaultHere) → end.fault ≡ Some fault → (logs : List Log) → logs ≡ log ∷ [] → (back : List ℕ) × paths.LeadsBack logs fault.at back × Meets p.model p.prune (reverse back ++ option_to_list fault.last) fault.spot fault.kind
  fault_leads fault at logs one =
      let way = fault_along p e.shard_record e.alone own e.arrived log is.log_entries fault (sym is.fault ∙ at) in
      (way.0, subst (λ (ls : List Log). paths.LeadsBack ls fault.at way.0) (sym one) way.1, way.2)

  pub fault_told : (fault : FaultHere) → end.fault ≡ Some fault → (logs : List Log) → logs ≡ log ∷ [] → (r : Result FaultAt AllocError) → IfOk r (λ (f : FaultAt). (f.spot ≡ fault.spot) × (f.kind ≡ fault.kind))
      → ((back : List ℕ) → paths.LeadsBack logs fault.at back → IfOk r (λ (f : FaultAt). f.steps ≡ reverse back ++ option_to_list fault.last)) → IfOk r (λ (f : FaultAt). Meets p.model p.prune f.steps f.spot f.kind)
  fault_told fault at logs one (Err x) spot steps = tt
  fault_told fault at logs one (Ok f) spot steps =
      let way = fault_leads fault at logs one in
      let a = subst (λ (us : List ℕ). Meets p.model p.prune us fault.spot fault.kind) (sym (steps way.0 way.1)) way.2 in
      let b = subst (λ (x : Spot). Meets p.model p.prune f.steps x fault.kind) (sym spot.0) a in
      subst (λ (x : FaultKind). Meets p.model p.prune f.steps f.spot x) (sym spot.1) b

  pub held_there : (h : Held) → e.shard_record.held ≡ Some h → end.held ≡ None → ⊥
  held_there h eh none = no_some end.held h none (is.held ∙ eh)

  pub fault_there : (f : FaultHere) → e.shard_record.fault ≡ Some f → end.fault ≡ None → ⊥
  fault_there f ef none = no_some end.fault f none (is.fault ∙ ef)
