-- The most that may stand round a text does.
use Rattle.std.proofs.Common.{[], Some, refl}
use Rattle.std.specs.Prelude.{codes}
use Rattle.std.specs.Str.{is_utf8, chars}
use Rattle.std.proofs.lemmas.List.Elements.{All-nil, All-cons}
use lib.Utf8.{encode}
use Rattle.content_laws.specs.BlockWriting.{Note, IsComment}
use Rattle.content_laws.proofs.WrittenSample.{utf8}
use Rattle.content_guards.specs.Dresses.{LawDress}

abbrev one : Note
one = record { lead = 0; comment = Some (codes " 1") }

abbrev Fits : Note → Type 0
Fits note = IsComment note.comment

pub dress_law : LawDress
unfolding is_utf8 chars encode
dress_law = (All-cons Fits one [] (utf8 (codes " 1") refl, refl) (All-nil Fits), λ before. All-nil Fits)
