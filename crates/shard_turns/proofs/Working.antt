-- The steps of a turn together: a turn with work does some.
use Rattle.std.proofs.Common.{◌≡◌, ℕ, ◌+◌, inl, inr, List, length, sym, ap, subst, ◌∙◌}
use Rattle.std.specs.Prelude.{Result, Ok, Err, OnOk}
use Rattle.pass_ledger.specs.Events.{take}
use Rattle.pass_ledger.specs.Passes.{Pass}
use Rattle.pass_ledger.specs.Records.{Done}
use Rattle.pass_ledger.specs.Letters.{sender}
use Rattle.pass_ledger.specs.declared.mail.Letter.{Letter}
use Rattle.pass_ledger.specs.declared.mail.Letter.TheVariants.{Mark}
use Rattle.pass_ledger.specs.declared.records.LedgerRow.{LedgerRow}
use Rattle.pass_ledger.specs.declared.records.ShardRecord.{ShardRecord}
use Rattle.pass_ledger.proofs.Appends.{append_old}
use Rattle.shard_core.specs.Calls.{IsReady, IsQuiet}
use Rattle.shard_turns.specs.Works.{HasWorked, HasTaken, HasClosed, HasHandled, HasPosted}

-- ---- a shard that is ready or done stays so when it takes a letter

module _ (p : Pass) (i : ℕ) (r : ShardRecord) (x : Letter) where
  ready_then : IsReady p i r → IsReady p i (take r x)
  ready_then h =
      record {
        idle = h.idle;
        sent = h.sent;
        told = h.told;
        marked = λ l j is lt. (let m = h.marked l j is lt in (m.0, m.1, append_old r.received (sender x) x j (Mark j (l + 1) m.0 m.1) m.2));
      }

  done_then : Done p i r → Done p i (take r x)
  done_then h =
      record {
        begun = h.begun;
        sent = h.sent;
        posted = h.posted;
        ended = λ j lt. (let m = h.ended j lt in (m.0, append_old r.received (sender x) x j (Mark j (length r.rows) m.0 0) m.1));
      }

taken_ready : (p : Pass) (i : ℕ) (before after : ShardRecord) → HasTaken before after → IsReady p i before → IsReady p i after
taken_ready p i before after (inl e) h = subst (IsReady p i) (sym e) h
taken_ready p i before after (inr t) h = subst (IsReady p i) (sym t.1) (ready_then p i before t.0 h)

taken_done : (p : Pass) (i : ℕ) (before after : ShardRecord) → HasTaken before after → Done p i before → Done p i after
taken_done p i before after (inl e) h = subst (Done p i) (sym e) h
taken_done p i before after (inr t) h = subst (Done p i) (sym t.1) (done_then p i before t.0 h)

taken_waiting : (before after : ShardRecord) → HasTaken before after → after.waiting ≡ before.waiting
taken_waiting before after (inl e) = ap (λ (r : ShardRecord). r.waiting) e
taken_waiting before after (inr t) = ap (λ (r : ShardRecord). r.waiting) t.1

taken_rows : (before after : ShardRecord) → HasTaken before after → after.rows ≡ before.rows
taken_rows before after (inl e) = ap (λ (r : ShardRecord). r.rows) e
taken_rows before after (inr t) = ap (λ (r : ShardRecord). r.rows) t.1

-- ---- a turn

pub worked : (p : Pass) (i : ℕ) (a b c d e f : ShardRecord) → b ≡ a → HasTaken b c → HasClosed p i c d → HasHandled d e → HasPosted e f → IsQuiet p i f → HasWorked p i a f
worked p i a b c d e f same taken closed handled posted quiet =
    record {
      not_done = λ done. closed.not_done (taken_done p i b c taken (subst (Done p i) (sym same) done));
      closed = λ ready. ap (λ (rows : List LedgerRow). length rows) (posted.rows ∙ handled.rows)
          ∙ (closed.closed (taken_ready p i b c taken (subst (IsReady p i) (sym same) ready)) ∙ ap (λ (rows : List LedgerRow). length rows + 1) (taken_rows b c taken ∙ ap (λ (r : ShardRecord). r.rows) same));
      handled = λ n rest first. posted.waiting ∙ handled.handled n rest (closed.waiting n rest (taken_waiting b c taken ∙ (ap (λ (r : ShardRecord). r.waiting) same ∙ first)));
      posted = quiet;
    }

-- what holds of each good answer
pub on_each : {T E X Y : Type 0} (result : Result T E) → (X → Y) → OnOk result X → OnOk result Y
on_each (Ok x) f h = f h
on_each (Err e) f h = tt

-- letters that were posted before some more
pub posted_more : (a b c : ShardRecord) → HasPosted a b → HasPosted b c → HasPosted a c
posted_more a b c h k = record { waiting = k.waiting ∙ h.waiting; rows = k.rows ∙ h.rows }
