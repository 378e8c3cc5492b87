use Rattle.std.proofs.Common.{◌≡◌, ℕ, Bool, true, Option, None, length, get_or, refl}
use Rattle.std.proofs.lemmas.Option.{slice_get_read}
use Rattle.dp_model.specs.Evaluation.{set_held}
use Rattle.honest_states.specs.Modes.{is_so}
use Rattle.honest_states.proofs.Lists.{longer, pushed, read_at}
use Rattle.honest_states.proofs.Knowing.{so_matched}
use Rattle.honest_states.proofs.joining.joined_members.Goals as goal

abbrev IsLess : ℕ → Option Bool → Option Bool → Type 0
IsLess k y x = (held : Bool) → is_so y held ≡ true → is_so x held ≡ true

pub loop-j-preserved : goal.loop-j-preserved
loop-j-preserved c =
    let old = c.loop-j.both.items in
    let new = c.push.new.self.items in
    let x = c.joined_member.result in
    let e = c.in_ok-push-in-Some.ensures.items in
    let len = c.loop-j.invariant.0 in
    let look = c.in-Some.ensures.lookup in (
      longer old new x c.loop-j.j e len,
      pushed IsLess c.args.a.now old new (get_or c.args.a.now c.loop-j.j None) x c.loop-j.j e len c.loop-j.invariant.1 (read_at c.args.a.now c.loop-j.j None c.loop-j-test.true) c.joined_member.ensures.first,
      pushed IsLess c.args.b.now old new c.in-Some.other.now x c.loop-j.j e len c.loop-j.invariant.2 (slice_get_read c.args.b.now (length c.args.b.now) c.loop-j.j c.in-Some.other.now refl look.3.0 look.1) c.joined_member.ensures.second,
    )

pub returns-in-None-clause-first : goal.returns-in-None-clause-first
returns-in-None-clause-first c = λ held h. so_matched c.args.a.now c.loop-j.both.items (set_held held) c.loop-j.invariant.1 h

pub returns-in-None-clause-second : goal.returns-in-None-clause-second
returns-in-None-clause-second c = λ held h. so_matched c.args.b.now c.loop-j.both.items (set_held held) c.loop-j.invariant.2 h

pub returns-clause-first : goal.returns-clause-first
returns-clause-first c = λ held h. so_matched c.args.a.now c.loop-j.both.items (set_held held) c.loop-j.invariant.1 h

pub returns-clause-second : goal.returns-clause-second
returns-clause-second c = λ held h. so_matched c.args.b.now c.loop-j.both.items (set_held held) c.loop-j.invariant.2 h
