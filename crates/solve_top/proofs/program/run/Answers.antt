use Rattle.std.proofs.Common.{map, string_bytes}
use Rattle.solve_top.proofs.Settling.{settles_files, settles_small, settles_generated}
use Rattle.solve_top.proofs.Certifying.{certifies}
use Rattle.solve_top.proofs.Wholes.{settles_whole}
use Rattle.solve_top.proofs.program.run.Goals as goal

pub returns-clause-settles : goal.returns-clause-settles
returns-clause-settles g c =
    let words = map string_bytes c.args.words.now.items in
    let files = g.F.Shelf.bytes_under c.args.shelf.now in
    let done = c.perform.ensures.printed in
    rw c.code.ensures (settles_files words files (g.S.Sink.taken c.args.out.now) (g.S.Sink.taken c.perform.new.out) done.0 c.perform.result done.1 done.2)

pub returns-clause-settles_small : goal.returns-clause-settles_small
returns-clause-settles_small g c =
    let words = map string_bytes c.args.words.now.items in
    let files = g.F.Shelf.bytes_under c.args.shelf.now in
    let done = c.perform.ensures.printed in
    rw c.code.ensures (settles_small words files (g.S.Sink.taken c.args.out.now) (g.S.Sink.taken c.perform.new.out) done.0 c.perform.result done.1 done.2)

pub returns-clause-settles_generated : goal.returns-clause-settles_generated
returns-clause-settles_generated g c =
    let words = map string_bytes c.args.words.now.items in
    let files = g.F.Shelf.bytes_under c.args.shelf.now in
    let done = c.perform.ensures.printed in
    rw c.code.ensures (settles_generated words files (g.S.Sink.taken c.args.out.now) (g.S.Sink.taken c.perform.new.out) done.0 c.perform.result done.1 done.2)

pub returns-clause-certifies : goal.returns-clause-certifies
returns-clause-certifies g c =
    let words = map string_bytes c.args.words.now.items in
    let files = g.F.Shelf.bytes_under c.args.shelf.now in
    let done = c.perform.ensures.printed in
    rw c.code.ensures (certifies words files (g.S.Sink.taken c.args.out.now) (g.S.Sink.taken c.perform.new.out) done.0 c.perform.result done.1 done.2)

pub returns-clause-settles_whole : goal.returns-clause-settles_whole
returns-clause-settles_whole g c =
    let words = map string_bytes c.args.words.now.items in
    let files = g.F.Shelf.bytes_under c.args.shelf.now in
    let done = c.perform.ensures.printed in
    rw c.code.ensures (settles_whole words files (g.S.Sink.taken c.args.out.now) (g.S.Sink.taken c.perform.new.out) done.0 c.perform.result done.1 done.2)
