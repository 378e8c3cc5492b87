-- Letters in envelopes: who sent them, and which lists of one sender's letters are lawful.
use Rattle.std.specs.Prelude.{ℕ, List, [], ◌++◌, map}
use Rattle.std.proofs.Common.{subst}
use Rattle.std.proofs.lemmas.List.{map-append}
use Rattle.dp_model.specs.contracts.whole.Model as models
use Rattle.dp_model.specs.declared.whole.Model.{Model}
use Rattle.shard_mail.specs.Mails.{letters_of}
use Rattle.shard_mail.specs.Names.{name_of}
use Rattle.best_ledger.specs.Histories.{AreInOrder}
use Rattle.best_ledger.specs.declared.letters.BestLetter.{BestLetter}
use Rattle.best_ledger.proofs.Histories.{letters_law}
use Rattle.best_turns.specs.declared.envelope.BestEnvelope.{BestEnvelope}

abbrev pub sender_of : BestEnvelope → ℕ
sender_of e = e.letter.from

abbrev pub letters_in : List BestEnvelope → List BestLetter
letters_in envelopes = map (λ (e : BestEnvelope). e.letter) envelopes

-- the letters of one sender among those that were taken
abbrev pub taken_from : ℕ → List BestEnvelope → List BestLetter
taken_from j taken = letters_in (letters_of sender_of j taken)

-- what a shard posts to another, in envelopes
abbrev pub are_lawful : Model → List BestEnvelope → Type 0
are_lawful m envelopes = AreInOrder m (letters_in envelopes)

-- the model, by the name under which a mailbox knows its terms
abbrev pub terms_of : Model → List ℕ
terms_of m = name_of models.the_row.coded m

-- ---- the laws of lawful lists

pub none_lawful : (m : Model) → are_lawful m []
none_lawful m = letters_law.empty m

pub front_lawful : (m : Model) (xs ys : List BestEnvelope) → are_lawful m (xs ++ ys) → are_lawful m xs
front_lawful m xs ys h = letters_law.front m (letters_in xs) (letters_in ys) (subst (AreInOrder m) (map-append (λ (e : BestEnvelope). e.letter) xs ys) h)
