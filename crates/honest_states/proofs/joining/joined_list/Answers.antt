use Rattle.std.proofs.Common.{◌≡◌, ℕ, true, Option, length, refl}
use Rattle.std.proofs.lemmas.Option.{slice_get_read}
use Rattle.dp_model.specs.declared.parts.PlainValue.{PlainValue}
use Rattle.honest_states.specs.declared.mode.Known.{Known}
use Rattle.honest_states.specs.Modes.{is_known}
use Rattle.honest_states.proofs.Lists.{longer, pushed, item_at}
use Rattle.honest_states.proofs.Knowing.{known_matched}
use Rattle.honest_states.proofs.joining.joined_list.Goals as goal

abbrev IsLess : ℕ → Known → Known → Type 0
IsLess k y x = (held : Option PlainValue) → is_known y held ≡ true → is_known x held ≡ true

pub loop-i-preserved : goal.loop-i-preserved
loop-i-preserved c =
    let i = c.loop-i.i in
    let old = c.loop-i.both.items in
    let new = c.push.new.self.items in
    let x = c.in_ok-more-in-Some.more in
    let known = c.index-a-i.result in
    let e = c.in_ok-push-in-Some.ensures.items in
    let len = c.loop-i.invariant.0 in
    let look = c.in-Some.ensures.lookup in (
      longer old new x i e len,
      pushed IsLess c.args.a.now old new known x i e len c.loop-i.invariant.1 (item_at c.args.a.now i known c.loop-i-test.true c.index-a-i.is) c.in_ok-more-in-Some.ensures.first,
      pushed IsLess c.args.b.now old new c.in-Some.other.now x i e len c.loop-i.invariant.2 (slice_get_read c.args.b.now (length c.args.b.now) i c.in-Some.other.now refl look.3.0 look.1) c.in_ok-more-in-Some.ensures.second,
    )

pub returns-in-None-clause-first : goal.returns-in-None-clause-first
returns-in-None-clause-first c = λ s h. known_matched c.args.a.now c.loop-i.both.items s c.loop-i.invariant.1 h

pub returns-in-None-clause-second : goal.returns-in-None-clause-second
returns-in-None-clause-second c = λ s h. known_matched c.args.b.now c.loop-i.both.items s c.loop-i.invariant.2 h

pub returns-clause-first : goal.returns-clause-first
returns-clause-first c = λ s h. known_matched c.args.a.now c.loop-i.both.items s c.loop-i.invariant.1 h

pub returns-clause-second : goal.returns-clause-second
returns-clause-second c = λ s h. known_matched c.args.b.now c.loop-i.both.items s c.loop-i.invariant.2 h
