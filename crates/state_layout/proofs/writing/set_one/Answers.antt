use Rattle.std.proofs.Common.{List, ℕ, subst, sym}
use Rattle.dp_model.specs.declared.parts.PlainValue.TheVariants.{Members}
use Rattle.bit_sets.specs.Sets.{members_of}
use Rattle.std.proofs.Common.{◌≡◌, ◌∷◌, []}
use Rattle.state_layout.specs.Packing.{state_in}
use Rattle.state_layout.specs.Forms.{HasRoom, with_value}
use Rattle.state_layout.proofs.Placing.{one_written}
use Rattle.state_layout.proofs.writing.set_one.Goals as goal

pub returns-clause-room : goal.returns-clause-room
returns-clause-room c = subst (λ (x : List ℕ). HasRoom c.args.slots.now x) (sym c.put_first.ensures) (one_written c.args.slots.now c.args.words.now c.args.place c.args.slot c.args.word c.requires.room c.requires.place c.requires.slot c.requires.kind c.requires.one c.requires.below).0

pub returns-clause-state : goal.returns-clause-state
returns-clause-state c = subst (λ (x : List ℕ). state_in x ≡ with_value (state_in c.args.words.now) c.args.place (Members (members_of (c.args.word ∷ [])))) (sym c.put_first.ensures) (one_written c.args.slots.now c.args.words.now c.args.place c.args.slot c.args.word c.requires.room c.requires.place c.requires.slot c.requires.kind c.requires.one c.requires.below).1
