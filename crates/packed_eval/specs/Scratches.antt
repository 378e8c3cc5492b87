-- What evaluators keep beside a model.
use Rattle.std.specs.Prelude.{◌≡◌, ℕ, vec_len}
use Rattle.dp_model.specs.declared.whole.Model.{Model}
use Rattle.eval_room.specs.Needs.{ServesModel}
use Rattle.packed_words.specs.Tables.{AreTablesOf}
use Rattle.packed_eval.specs.declared.calls.Scratch.{Scratch}

-- how many words the sets have that an expression needs at once
abbrev pub room_of : Scratch → ℕ
room_of x = vec_len x.stack

-- it was made of the model: its tables are the model's, and each expression of the model has room
pub record IsScratchOf (m : Model) (x : Scratch) : Type 0 where
  pub tables : AreTablesOf m x.tables
  pub params : vec_len x.params ≡ 4
  pub serves : ServesModel m (room_of x)
