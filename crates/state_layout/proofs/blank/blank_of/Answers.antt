use Rattle.std.proofs.Common.{◌≡◌, ◌∙◌, ◌+◌, ◌-◌, ◌*◌, ◌≤◌, ℕ, List, length, subst, sym, rules, arith}
use Rattle.state_layout.specs.Packing.{head_of}
use Rattle.state_layout.specs.Forms.{HasRoom, sets_before}
use Rattle.state_layout.proofs.Blanking.{blank_room}
use Rattle.state_layout.proofs.Placing.{written_back}
use Rattle.state_layout.proofs.blank.blank_of.Goals as goal

pub returns : goal.returns
returns c =
    let long : length c.mark_all.new.words ≡ length c.in_ok-blank.blank.items = search rules in
    let len : c.in_ok-blank.blank.len ≡ length c.in_ok-blank.blank.items = search rules in
    let many : length c.mark_all.new.words ≡ c.blank_len-len.result = long ∙ sym len ∙ c.in_ok-blank.ensures.len in
    let least : head_of (length c.args.slots.now) + length c.args.slots.now + (c.rows_of.result - 1) * sets_before c.args.slots.now (length c.args.slots.now) ≤ c.blank_len-len.result = subst (λ (k : ℕ). head_of (length c.args.slots.now) + length c.args.slots.now + (c.rows_of.result - 1) * k ≤ c.blank_len-len.result) c.sets_of.ensures c.blank_len-len.ensures in
    let room : HasRoom c.args.slots.now c.mark_all.new.words = blank_room c.args.slots.now c.mark_all.new.words c.rows_of.result c.requires.few c.requires.ranked c.rows_of.ensures c.mark_all.ensures.marked (omega (arith, many, least)) in
    subst (λ (xs : List ℕ). HasRoom c.args.slots.now xs) (sym (written_back c.in_ok-blank.blank.len c.mark_all.new.words c.in_ok-blank.blank.items long len)) room
