use Rattle.std.proofs.Common.{◌≡◌, Some, None, arith, sym, ap, ◌∙◌, take}
use Rattle.std.specs.List.{slice_get}
use Rattle.std.proofs.lemmas.Option.{slice_get-get_or}
use Rattle.dom_store.specs.Waiting.{words_of}
use Rattle.dom_store.proofs.Moving.{drop_some, drop_none, same_queued, words_there}
use Rattle.dom_store.proofs.Rows.{read_there}
use Rattle.dom_store.proofs.queue.push_there.Goals as goal

pub returns-in-None-clause-room : goal.returns-in-None-clause-room
returns-in-None-clause-room g c =
    let at : slice_get c.args.places.now c.args.place ≡ Some None = slice_get-get_or c.args.places.now c.args.place c.index-places-place.result c.requires.within ∙ ap Some (sym c.index-places-place.is ∙ c.in-None.is) in
    omega (arith, c.requires.room, drop_none c.args.places.now c.args.place at)

pub returns-in-None-clause-queued : goal.returns-in-None-clause-queued
returns-in-None-clause-queued g c =
    let at : slice_get c.args.places.now c.args.place ≡ Some None = slice_get-get_or c.args.places.now c.args.place c.index-places-place.result c.requires.within ∙ ap Some (sym c.index-places-place.is ∙ c.in-None.is) in
    same_queued g.K.Covers.minimize g.K.Covers.operator c.args.places.now c.args.place _ at c.requires.queued

pub push_place-requires-clause-room : goal.push_place-requires-clause-room
push_place-requires-clause-room g c =
    let at = read_there c.args.places.now c.args.place c.index-places-place.result c.in-Some.node c.requires.within c.index-places-place.is c.in-Some.is in
    omega (arith, c.requires.room, drop_some c.args.places.now c.args.place c.in-Some.node at)

pub returns-in-Some-clause-room : goal.returns-in-Some-clause-room
returns-in-Some-clause-room g c =
    let at = read_there c.args.places.now c.args.place c.index-places-place.result c.in-Some.node c.requires.within c.index-places-place.is c.in-Some.is in
    omega (arith, c.requires.room, drop_some c.args.places.now c.args.place c.in-Some.node at, c.push_place.ensures.len, c.push_place.ensures.capacity)

pub returns-in-Some-clause-queued : goal.returns-in-Some-clause-queued
returns-in-Some-clause-queued g c =
    let at = read_there c.args.places.now c.args.place c.index-places-place.result c.in-Some.node c.requires.within c.index-places-place.is c.in-Some.is in
    c.push_place.ensures.queued (words_of g.K.Covers.minimize g.K.Covers.operator (take c.args.place c.args.places.now)) _ c.requires.queued (words_there g.K.Covers.minimize g.K.Covers.operator c.args.places.now c.args.place c.in-Some.node c.rank_by.result at c.rank_by.ensures)
