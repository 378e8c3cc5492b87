-- Letters in envelopes: who sent them, and which lists of one sender's letters are lawful.
use Rattle.std.specs.Prelude.{ℕ, List, [], ◌++◌, map}
use Rattle.std.proofs.Common.{subst}
use Rattle.std.proofs.lemmas.List.{map-append}
use Rattle.dp_model.specs.contracts.whole.Model as models
use Rattle.dp_model.specs.declared.whole.Model.{Model}
use Rattle.shard_mail.specs.Mails.{letters_of}
use Rattle.shard_mail.specs.Names.{name_of}
use Rattle.pass_ledger.specs.Letters.{sender, Posted}
use Rattle.pass_ledger.specs.declared.mail.Letter.{Letter}
use Rattle.pass_ledger.proofs.Groups.{empty, prefix}
use Rattle.shard_turns.specs.declared.envelope.Envelope.{Envelope}

abbrev pub sender_of : Envelope → ℕ
sender_of e = sender e.letter

abbrev pub letters_in : List Envelope → List Letter
letters_in envelopes = map (λ (e : Envelope). e.letter) envelopes

-- the letters of one sender among those that were taken
abbrev pub taken_from : ℕ → List Envelope → List Letter
taken_from j taken = letters_in (letters_of sender_of j taken)

-- what a shard posts to another, in envelopes
abbrev pub are_lawful : Model → List Envelope → Type 0
are_lawful m envelopes = Posted m (letters_in envelopes)

-- the model, by the name under which a mailbox knows its terms
abbrev pub terms_of : Model → List ℕ
terms_of m = name_of models.the_row.coded m

-- ---- the laws of lawful lists

pub none_lawful : (m : Model) → are_lawful m []
none_lawful m = empty m

pub front_lawful : (m : Model) (xs ys : List Envelope) → are_lawful m (xs ++ ys) → are_lawful m xs
front_lawful m xs ys h = prefix m (letters_in xs) (letters_in ys) (subst (Posted m) (map-append (λ (e : Envelope). e.letter) xs ys) h)
