use Rattle.std.proofs.Common.{refl, length, arith}
use Rattle.best_first.specs.Rooms.{IsAllTaken}
use Rattle.best_first.proofs.Leaving.{settled}
use Rattle.best_first.proofs.Places.{begins_less, long_more}
use Rattle.best_first.proofs.room.settle_all.Goals as goal
use Rattle.best_turns.specs.Envelopes.{sender_of}
use Rattle.shard_mail.specs.Ends.{IsBegunOf}

pub loop-mailbox-preserved : goal.loop-mailbox-preserved
loop-mailbox-preserved g c =
    let h = c.loop-mailbox.invariant in
    let boxes = long_more c.pop.new.self.items c.loop-mailbox.boxes.items c.in-Some.mailbox (length c.pop.new.self.items) c.in-Some.ensures.items refl in
    let takers = long_more c.pop-in-Some.new.self.items c.loop-mailbox.takers.items c.in-Some-Some.taker (length c.pop-in-Some.new.self.items) c.in-Some-Some.ensures.items refl in
    let posters = long_more c.pop-in-Some-2.new.self.items c.loop-mailbox.posters.items c.in-Some-Some.posters (length c.pop-in-Some-2.new.self.items) c.in-Some-Some.ensures'.items refl in
    let a = h.takers_long in
    let b = h.posters_long in
    record {
      boxes = begins_less c.loop-mailbox.boxes.items c.pop.new.self.items c.args.boxes.items c.in-Some.mailbox c.in-Some.ensures.items h.boxes;
      takers = begins_less c.loop-mailbox.takers.items c.pop-in-Some.new.self.items c.args.takers.items c.in-Some-Some.taker c.in-Some-Some.ensures.items h.takers;
      posters = begins_less c.loop-mailbox.posters.items c.pop-in-Some-2.new.self.items c.args.posters.items c.in-Some-Some.posters c.in-Some-Some.ensures'.items h.posters;
      takers_long = omega (arith, boxes, takers, a);
      posters_long = omega (arith, boxes, posters, b);
      begun = settled (IsBegunOf sender_of) c.args.takers.items c.args.posters.items (length c.loop-mailbox.boxes.items) (length c.pop.new.self.items) c.loop-mailbox.takers.items c.pop-in-Some.new.self.items c.loop-mailbox.posters.items c.pop-in-Some-2.new.self.items c.in-Some-Some.taker c.in-Some-Some.posters
          boxes h.begun c.in-Some-Some.ensures.items c.in-Some-Some.ensures'.items h.takers h.posters (omega (arith, boxes, takers, a)) (omega (arith, boxes, posters, b))
          c.settle_one.ensures.begun;
      all = λ yes. (let both = c.both-all_taken.ensures yes in settled IsAllTaken c.args.takers.items c.args.posters.items (length c.loop-mailbox.boxes.items) (length c.pop.new.self.items) c.loop-mailbox.takers.items c.pop-in-Some.new.self.items c.loop-mailbox.posters.items c.pop-in-Some-2.new.self.items c.in-Some-Some.taker c.in-Some-Some.posters
          boxes (h.all both.1) c.in-Some-Some.ensures.items c.in-Some-Some.ensures'.items h.takers h.posters (omega (arith, boxes, takers, a)) (omega (arith, boxes, posters, b))
          (c.settle_one.ensures.all both.0));
    }

pub returns-clause-all : goal.returns-clause-all
returns-clause-all g c = λ yes k t row at here.
    let long = c.loop-mailbox.boxes.ok.0 in
    let none = c.in_default.ensures.cases.0 in
    c.loop-mailbox.invariant.all yes k t row (omega (arith, long, none)) at here
