use Rattle.std.proofs.Common.{List, subst}
use Rattle.dp_outside.specs.Outside.{Takes, TakesFront}
use Rattle.kept_model.specs.declared.parts.Part.{Part}
use Rattle.solve_top.specs.Parts.{part_lines}
use Rattle.solve_top.proofs.Searching.{parts_failed, parts_then, rose_later}
use Rattle.solve_top.proofs.program.solve_model.Goals as goal

pub returns-in-Ok-put_parts-clause-printed : goal.returns-in-Ok-put_parts-clause-printed
returns-in-Ok-put_parts-clause-printed g c =
    let before = g.S.Sink.taken c.args.out.now in
    let after = g.S.Sink.taken c.put_parts.new.out in
    parts_then c.args.model c.args.search.now c.in-Ok.searched c.in-Ok.ensures before after (g.S.Sink.taken c.solve_and_certify.new.out) c.solve_and_certify.result
    (subst (λ (parts : List Part). Takes before after (part_lines parts)) c.deref.ensures.value c.in-Ok-put_parts.ensures.ok) c.solve_and_certify.ensures.printed

pub returns-in-Ok-put_parts-clause-failed : goal.returns-in-Ok-put_parts-clause-failed
returns-in-Ok-put_parts-clause-failed g c = λ is. rose_later _ _ _ c.put_parts.ensures.count (c.solve_and_certify.ensures.failed is)

pub returns-clause-printed : goal.returns-clause-printed
returns-clause-printed g c =
    let before = g.S.Sink.taken c.args.out.now in
    let after = g.S.Sink.taken c.put_parts.new.out in
    parts_failed c.args.model c.args.search.now c.in-Ok.searched c.in-Ok.ensures before after
    (subst (λ (parts : List Part). TakesFront before after (part_lines parts)) c.deref.ensures.value c.in-Err.ensures.err)
