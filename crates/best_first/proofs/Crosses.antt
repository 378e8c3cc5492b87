-- What may go to another thread: a model may be read there, and so a shard may be sent with all that it carries. The search for such facts gives up on types
-- that hold trees, so here is a lemma for each type.
use denote.Param.Send.{IsSend, IsSync, AllSend, AllSync, struct_send, struct_sync, recorded_send, recorded_sync, view_send, sendable}
use denote.RattleType.{RattleType}
use denote.Ref.{NamedLft}
use denote.Struct.Declared.{shape}
use Rattle.std.proofs.Crossing.{crosses}
use Rattle.std.proofs.alloc.Global.TheSendSync as global
use Rattle.std.proofs.marker.PhantomData.TheSendSync as phantom
use Rattle.std.proofs.collections.VecDeque.TheSendSync as deque
use Rattle.std.proofs.vec.Vec.TheSendSync as vec
use Rattle.cost_laws.specs.declared.law.CostLaw.{Ghosts}
use Rattle.dp_base.proofs.boxed.Boxed.TheSendSync as boxed
use Rattle.dp_base.proofs.seq.Seq.TheSendSync as seq
use Rattle.dp_base.proofs.text.Text.TheSendSync as text
use Rattle.dp_model.proofs.parts.Ground.TheSendSync as ground
use Rattle.dp_model.proofs.parts.JoinOp.TheSendSync as join
use Rattle.dp_model.proofs.parts.ObjectType.TheSendSync as object
use Rattle.dp_model.proofs.parts.PlainState.TheSendSync as state
use Rattle.dp_model.proofs.parts.TableData.TheSendSync as table
use Rattle.dp_model.proofs.parts.Variable.TheSendSync as variable
use Rattle.dp_model.proofs.trees.Arg.TheLaws.TheKnot as knot
use Rattle.dp_model.specs.contracts.parts.BaseCase as BaseCase
use Rattle.dp_model.specs.contracts.parts.Transition as Transition
use Rattle.dp_model.specs.contracts.trees.Cond as Cond
use Rattle.dp_model.specs.contracts.trees.Num as Num
use Rattle.dp_model.specs.contracts.whole.Model as Model
use Rattle.best_ledger.proofs.records.ToPost.TheSendSync as unsent
use Rattle.dom_store.proofs.past.PastStore.TheSendSync as past
use Rattle.dom_store.proofs.store.DomStore.TheSendSync as store
use Rattle.dom_store.specs.declared.covers.Covers as covers
use Rattle.pass_ledger.proofs.records.FaultHere.TheSendSync as fault
use Rattle.pass_ledger.proofs.records.Held.TheSendSync as held
use Rattle.packed_words.proofs.tables.Tables.TheSendSync as tables
use Rattle.path_log.proofs.logs.PathLog.TheSendSync as log
use Rattle.best_shard.specs.contracts.shard.BestShard as Shard
use Rattle.shard_mail.proofs.ends.Poster.TheSendSync as poster
use Rattle.shard_mail.proofs.ends.Taker.TheSendSync as taker
use Rattle.best_turns.proofs.envelope.BestEnvelope.TheSendSync as envelope
use Rattle.best_seats.proofs.ended.BestEnded.TheSendSync as ended
use Rattle.best_turns.specs.contracts.turner.BestTurner as BestTurner
use Rattle.state_layout.proofs.layout.Layout.TheSendSync as layout
use Rattle.state_layout.proofs.node.Node.TheSendSync as node
use Rattle.state_layout.proofs.node_box.NodeBox.TheSendSync as node_box
use Rattle.successors.proofs.batch.Batch.TheSendSync as batch
use Rattle.successors.proofs.candidates.Candidate.TheSendSync as candidate
use Rattle.successors.proofs.switches.Switch.TheSendSync as switch
use Rattle.successors.specs.contracts.expander.Expander as Expander
use Rattle.successors.specs.contracts.expander.Expander.TheInside as inside

-- ---- a model, and what reads it

ruleset trees = (crosses, knot.crosses, text.the_sync, seq.the_sync, boxed.the_sync, sendable)

pub cond : IsSync Cond.the_row
cond = search trees depth 60 fits 20000

pub num : IsSync Num.the_row
num = search trees depth 60 fits 20000

pub transition : IsSync Transition.the_row
transition = search trees depth 60 fits 20000

pub base_case : IsSync BaseCase.the_row
base_case = search trees depth 60 fits 20000

ruleset parts = (cond, num, transition, base_case, text.the_sync, seq.the_sync, ground.the_sync, join.the_sync, object.the_sync, state.the_sync, table.the_sync, variable.the_sync, sendable)

parts-of-model : AllSync (shape Model.the_type).fields
parts-of-model = search parts depth 60

model_field : IsSync (Model.the_field).row
model_field = struct_sync (shape Model.the_type) parts-of-model

pub model : IsSync Model.the_row
model = recorded_sync (Model.the_field).row _ _ (Model.the_type).to_one model_field

ruleset others_rules = (vec.the_send, vec.the_sync, node_box.the_send, global.the_send, global.the_sync, global.the_field_send, layout.the_send, tables.the_send, candidate.the_send, switch.the_send, crosses, sendable)

parts-of-expander : (a : NamedLft) (T : RattleType) (o : Ghosts T.Denot) → IsSend T → AllSend (shape (inside.the_type a T o)).fields
parts-of-expander a T o l = (search (model, sendable) depth 60, (search others_rules depth 60, (search others_rules depth 60, (search others_rules depth 60, (search others_rules depth 60, (search others_rules depth 60, (search others_rules depth 60, (search others_rules depth 60, (search others_rules depth 60, (search (phantom.the_field_send) depth 60, tt))))))))))

inner : (a : NamedLft) (T : RattleType) (o : Ghosts T.Denot) → IsSend T → IsSend (inside.the_row a T o)
inner a T o l = recorded_send _ _ _ (inside.the_type a T o).to_one (struct_send (shape (inside.the_type a T o)) (parts-of-expander a T o l))

pub expander : (a : NamedLft) (T : RattleType) (o : Ghosts T.Denot) → IsSend T → IsSend (Expander.the_row a T o)
expander a T o l = view_send (inside.the_row a T o) _ _ _ _ (inner a T o l)

-- ---- a shard

ruleset carried = (vec.the_send, vec.the_sync, deque.the_send, deque.the_sync, node_box.the_send, global.the_send, global.the_sync, global.the_field_send, log.the_send, node.the_send, batch.the_send, store.the_send, past.the_send, unsent.the_send, held.the_send, fault.the_send, crosses, sendable)

parts-of-shard : (a : NamedLft) (T U : RattleType) (o : Ghosts T.Denot) (p : covers.Ghosts U.Denot) → IsSend (Expander.the_row a T o) → IsSend U → AllSend (shape (Shard.the_type a T U o p)).fields
parts-of-shard a T U o p e k = (first_of (search others_rules depth 60, search carried depth 60, search (k, sendable) depth 60), (first_of (search others_rules depth 60, search carried depth 60, search (k, sendable) depth 60), (first_of (search others_rules depth 60, search carried depth 60, search (k, sendable) depth 60), (first_of (search others_rules depth 60, search carried depth 60, search (k, sendable) depth 60), (search (e, sendable) depth 60, (first_of (search others_rules depth 60, search carried depth 60, search (k, sendable) depth 60), (first_of (search others_rules depth 60, search carried depth 60, search (k, sendable) depth 60), (first_of (search others_rules depth 60, search carried depth 60, search (k, sendable) depth 60), (first_of (search others_rules depth 60, search carried depth 60, search (k, sendable) depth 60), (first_of (search others_rules depth 60, search carried depth 60, search (k, sendable) depth 60), (first_of (search others_rules depth 60, search carried depth 60, search (k, sendable) depth 60), (first_of (search others_rules depth 60, search carried depth 60, search (k, sendable) depth 60), (first_of (search others_rules depth 60, search carried depth 60, search (k, sendable) depth 60), (first_of (search others_rules depth 60, search carried depth 60, search (k, sendable) depth 60), tt))))))))))))))

shard : (a : NamedLft) (T U : RattleType) (o : Ghosts T.Denot) (p : covers.Ghosts U.Denot) → IsSend T → IsSend U → IsSend (Shard.the_field a T U o p).row
shard a T U o p l k = struct_send (shape (Shard.the_type a T U o p)) (parts-of-shard a T U o p (expander a T o l) k)

-- ---- a shard with its ends of the mailboxes

ruleset mails = (vec.the_send, vec.the_sync, global.the_send, global.the_sync, global.the_field_send, envelope.the_send, poster.the_send, taker.the_send, ended.the_send, crosses, sendable)

parts-of-turner : (a : NamedLft) (T U : RattleType) (o : Ghosts T.Denot) (p : covers.Ghosts U.Denot) → IsSend (Shard.the_field a T U o p).row → AllSend (shape (BestTurner.the_type a T U o p)).fields
parts-of-turner a T U o p s = (s, (search mails depth 60, (search mails depth 60, (search mails depth 60, (search mails depth 60, (search mails depth 60, (search mails depth 60, tt)))))))

turner : (a : NamedLft) (T U : RattleType) (o : Ghosts T.Denot) (p : covers.Ghosts U.Denot) → IsSend T → IsSend U → IsSend (BestTurner.the_field a T U o p).row
turner a T U o p l k = struct_send (shape (BestTurner.the_type a T U o p)) (parts-of-turner a T U o p (shard a T U o p l k))

pub of-turner : (a : NamedLft) (T U : RattleType) (o : Ghosts T.Denot) (p : covers.Ghosts U.Denot) → IsSend T → IsSend U → IsSend (BestTurner.the_row a T U o p)
of-turner a T U o p l k = recorded_send _ _ _ (BestTurner.the_type a T U o p).to_one (turner a T U o p l k)
