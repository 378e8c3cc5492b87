-- A shard that makes a certificate, what it wrote so far, and how it ends.
use Rattle.std.specs.Prelude.{◌≡◌, ℕ, ◌+◌, ◌^◌, ◌≤◌, ◌<◌, List, [], ◌∷◌, ◌++◌, length, Option, Some, pos, ◌<ℤ◌}
use Rattle.dp_outside.specs.Outside.{Takes, TakesFront}
use Rattle.dp_model.specs.declared.answers.Claim.{Claim}
use Rattle.dp_model.specs.declared.answers.Options.{Options}
use Rattle.dp_model.specs.declared.parts.PlainState.{PlainState}
use Rattle.dp_model.specs.declared.whole.Model.{Model}
use Rattle.dp_claims.specs.Enough.{IsAtMostReached}
use Rattle.pass_ledger.specs.Letters.{of}
use Rattle.pass_ledger.specs.Passes.{Pass, word_of}
use Rattle.pass_ledger.specs.declared.records.FaultHere.{FaultHere}
use Rattle.pass_ledger.specs.declared.records.Held.{Held}
use Rattle.pass_ledger.specs.declared.records.ShardRecord.{ShardRecord}
use Rattle.shard_core.specs.Calls.{IsReady}
use Rattle.shard_core.specs.Stands.{Stands, EndsAs}
use Rattle.shard_core.specs.declared.shard.Shard.{Shard}
use Rattle.state_layout.specs.Signatures.{owner_of}
use Rattle.state_layout.specs.Slots.{slots_of}
use Rattle.cert_types.specs.Lines.{line_of_end}
use Rattle.cert_types.specs.declared.nodes.CertNode.{CertNode}
use Rattle.cert_laws.specs.Shown.{layer_of}
use Rattle.cert_rows.specs.Making.{GoesOn}
use Rattle.cert_text.specs.Texts.{layer_lines, text_of_lines}
use Rattle.cert_making.specs.Written.{open_lines, IsBegun, IsBroken}
use Rattle.cert_making.specs.declared.ends.Halt.{Halt}
use Rattle.cert_making.specs.declared.ends.Halt.TheVariants as halts
use Rattle.cert_making.specs.declared.progress.Progress.{Progress}

-- ---- the pass

-- a pass of one shard, whose share no layer reaches
pub record IsPassFor (m : Model) (options : Options) (p : Pass) : Type 0 where
  pub model : p.model ≡ m
  pub prune : p.prune ≡ options.prune
  pub keep : p.keep ≡ options.keep
  pub alone : p.shards ≡ 1
  pub share : p.share ≡ 2 ^ 62
  pub owner : (state : PlainState) → owner_of (slots_of m.objects m.variables) state 1 ≡ p.owner state

-- ---- the shard

-- The shard stands for the record of a pass that goes on, after at most so many visits.
pub record Makes {A B : Type 0} (p : Pass) (claimed budget : ℕ) (s : Shard A B) (layers : List (List CertNode)) (first : ℕ) : Type 0 where
  pub shard_record : ShardRecord
  pub stands : Stands p s shard_record
  pub on : GoesOn p claimed shard_record layers first
  pub within : length shard_record.visits ≤ budget

-- the shard took letters that it handed out, or none
pub record HasHanded (before after : ShardRecord) : Type 0 where
  pub rows : after.rows ≡ before.rows
  pub waiting : after.waiting ≡ before.waiting
  pub visits : after.visits ≡ before.visits

-- the shard is only ended, and its record received all that it posted
pub record HasEnded {A B : Type 0} (p : Pass) (s : Shard A B) : Type 0 where
  pub shard_record : ShardRecord
  pub alone : p.shards ≡ 1
  pub first : s.me ≡ 0
  pub ends : EndsAs p s shard_record
  pub arrived : of shard_record.received 0 ≡ of shard_record.posted 0

-- Why it has ended: the visits reached the budget while a node waited, so that one more can be reached; what it holds is better than
-- the claimed word; or it met a fault. Memory is free, and nothing was written.
abbrev pub Ends : {A B : Type 0} → Pass → (claimed budget : ℕ) → Shard A B → Halt → Type 0
Ends p claimed budget s halts.Budget = IsAtMostReached p.model p.keep (budget + 1)
Ends p claimed budget s halts.Better = (e : HasEnded p s) × (h : Held) × (e.shard_record.held ≡ Some h) × (word_of p h.cost <ℤ pos claimed)
Ends p claimed budget s halts.Fault = (e : HasEnded p s) × (f : FaultHere) × (e.shard_record.fault ≡ Some f)
Ends p claimed budget s halts.Memory = Unit {0}
Ends p claimed budget s halts.Write = ⊥

-- ---- what is written

-- a layer behind others; one without nodes is not written
abbrev pub with_layer : List (List CertNode) → List CertNode → List (List CertNode)
with_layer layers [] = layers
with_layer layers (c ∷ cs) = layers ++ (c ∷ cs) ∷ []

-- The lines of these layers were taken. The certificate begins in line 1; its lines, with the last one, are fewer than 2^32.
pub record Writes (m : Model) (options : Options) (claim : Claim) (before now : Option (List ℕ)) (layers : List (List CertNode)) (progress : Progress) : Type 0 where
  pub text : Takes before now (text_of_lines (open_lines m options claim layers))
  pub count : progress.layers ≡ length layers
  pub lines : progress.lines ≡ line_of_end 1 claim layers
  pub few : progress.lines < 2 ^ 32
  pub full : (l : ℕ) → l < length layers → 0 < length (layer_of layers l)

-- a layer is not written: of its lines none were taken, or a write failed after a front of them
abbrev pub IsUnwritten : Model → Options → Claim → (before now : Option (List ℕ)) → List (List CertNode) → (nodes : List CertNode) → Halt → Type 0
IsUnwritten m options claim before now layers nodes halts.Budget = ⊥
IsUnwritten m options claim before now layers nodes halts.Better = ⊥
IsUnwritten m options claim before now layers nodes halts.Fault = ⊥
IsUnwritten m options claim before now layers nodes halts.Memory = Takes before now (text_of_lines (open_lines m options claim layers))
IsUnwritten m options claim before now layers nodes halts.Write = TakesFront before now (text_of_lines (open_lines m options claim layers ++ layer_lines m (length layers) nodes)) × (0 < length nodes)

-- between two layers: the shard is ready to close the next one
pub record Works {A B : Type 0} (p : Pass) (options : Options) (claim : Claim) (claimed budget : ℕ) (s : Shard A B) (before now : Option (List ℕ)) (progress : Progress) : Type 0 where
  pub layers : List (List CertNode)
  pub makes : Makes p claimed budget s layers progress.first
  pub ready : IsReady p 0 makes.shard_record
  pub writes : Writes p.model options claim before now layers progress

-- the making ends before the certificate is whole, for this reason, and this was written
abbrev pub Stops : {A B : Type 0} → Pass → Options → Claim → (claimed budget : ℕ) → Shard A B → (before now : Option (List ℕ)) → Halt → Type 0
Stops p options claim claimed budget s before now halts.Budget = Ends p claimed budget s halts.Budget × IsBegun p.model options claim before now
Stops p options claim claimed budget s before now halts.Better = Ends p claimed budget s halts.Better × IsBegun p.model options claim before now
Stops p options claim claimed budget s before now halts.Fault = Ends p claimed budget s halts.Fault × IsBegun p.model options claim before now
Stops p options claim claimed budget s before now halts.Memory = IsBegun p.model options claim before now
Stops p options claim claimed budget s before now halts.Write = IsBroken p.model options claim before now
