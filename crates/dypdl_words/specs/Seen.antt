-- What the code finds of a word, and of the head of a list.
use Rattle.dypdl_words.specs.declared.words.WordForm.{WordForm}
use Rattle.dypdl_words.specs.declared.words.WordForm.TheVariants as word_form
use Rattle.dypdl_words.specs.declared.words.HeadForm.{HeadForm}
use Rattle.dypdl_words.specs.declared.words.HeadForm.TheVariants as head_form
use Rattle.dypdl_words.specs.Words.{Meaning, Head}
use Rattle.dypdl_words.specs.Words as words

abbrev pub meaning_seen : WordForm → Meaning
meaning_seen (word_form.Whole n) = words.Whole n
meaning_seen word_form.Continuous = words.Continuous
meaning_seen word_form.Cost = words.Cost
meaning_seen (word_form.Truth b) = words.Truth b
meaning_seen (word_form.Param p) = words.Param p
meaning_seen (word_form.Name name) = words.Name name.now
meaning_seen word_form.Unknown = words.Unknown

abbrev pub head_seen : HeadForm → Head
head_seen (head_form.Operation o) = words.Operation o
head_seen (head_form.Table t shape) = words.Table t shape.now
head_seen head_form.Cost = words.CostHead
head_seen head_form.LeftOut = words.LeftOut
head_seen head_form.Unknown = words.UnknownHead
