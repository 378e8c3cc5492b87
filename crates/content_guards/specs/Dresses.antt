-- What may stand round a text in block style.
use Rattle.content_laws.specs.BlockWriting.{IsDress, formal}

-- A byte order mark, a line `---` with a comment before it, and carriage returns may stand there together.
abbrev pub LawDress : Type 0
LawDress = IsDress formal
