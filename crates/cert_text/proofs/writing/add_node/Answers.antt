use Rattle.std.proofs.Common.{ℕ, ◌∙◌, ap, take}
use Rattle.cert_text.proofs.Holding.{Adds-from, held_before, now_held}
use Rattle.cert_text.proofs.writing.add_node.Goals as goal

pub returns-in-Ok : goal.returns-in-Ok
returns-in-Ok g c = now_held c.in-Ok.ensures

pub returns-in-Err : goal.returns-in-Err
returns-in-Err g c =
    let bytes = c.put_node.new.out.bytes.items in
    let back = c.truncate.ensures.items ∙ ap (λ (n : ℕ). take n bytes) c.len-before.ensures.value ∙ held_before c.in-Err.ensures in
    Adds-from back c.add_behind.ensures
