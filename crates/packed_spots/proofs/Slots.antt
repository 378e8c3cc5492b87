-- What the slots of a scene say of a variable, by the model's kind of it.
use Rattle.std.proofs.Common.{◌≡◌, ℕ, ◌<◌, true, false, eqb, List, length, get_or, sym, ap, ◌∙◌}
use Rattle.std.proofs.lemmas.Bool.{and_parts, eqb-true}
use Rattle.dp_model.specs.declared.parts.Effect.TheVariants as effects
use Rattle.dp_model.specs.declared.trees.SetEx.{SetEx}
use Rattle.dp_model.specs.Typing.{is_number_kind, is_set_kind, kind_at}
use Rattle.dp_model.specs.Evaluation.{count_of, kind_of, object_of_kind}
use Rattle.dp_model.specs.declared.whole.Model.{Model}
use Rattle.state_layout.specs.declared.layout.Slot.{Slot}
use Rattle.state_layout.specs.Packing.{is_set}
use Rattle.state_layout.specs.Forms.{no_slot}
use Rattle.eval_room.specs.Fits.{set_fits, operand_fits}
use Rattle.eval_room.specs.Needs.{effect_fits}
use Rattle.packed_words.specs.Scenes.{Shows}
use Rattle.packed_words.proofs.Shown.{number_held, set_inside, set_kind, set_count}

pub number_inside : (m : Model) (slots : List Slot) (words : List ℕ) (v : ℕ) → Shows m slots words → is_number_kind (kind_at m.variables v) ≡ true → v < length slots
number_inside m slots words v shown h = (number_held m slots words shown v no_slot h).0

pub number_slot : (m : Model) (slots : List Slot) (words : List ℕ) (v : ℕ) → Shows m slots words → is_number_kind (kind_at m.variables v) ≡ true → (slot : Slot) → slot ≡ get_or slots v slot → is_set slot.kind ≡ false
number_slot m slots words v shown h slot e =
    let n = number_held m slots words shown v slot h in
    sym (shown.fits.holds v slot n.0 e).kind ∙ n.1

module _ (m : Model) (slots : List Slot) (words : List ℕ) (v : ℕ) (shown : Shows m slots words) (h : is_set_kind (kind_at m.variables v) ≡ true) where
  pub set_within : v < length slots
  set_within = set_inside m slots words shown v h

  pub set_slot : (slot : Slot) → slot ≡ get_or slots v slot → is_set slot.kind ≡ true
  set_slot slot e = ap (λ (s : Slot). is_set s.kind) e ∙ set_kind m slots words shown v h slot

  pub set_members : (slot : Slot) → slot ≡ get_or slots v slot → slot.count ≡ count_of m (object_of_kind (kind_of m v))
  set_members slot e = ap (λ (s : Slot). s.count) e ∙ set_count m slots words shown v h slot

-- an effect that sets a set has it of the variable's object type
pub set_len : (m : Model) (slots : List Slot) (words : List ℕ) (v : ℕ) (e : SetEx) (given room count : ℕ) → Shows m slots words → effect_fits m given (effects.Members v e) room ≡ true → count ≡ count_of m (set_fits m e).0 → (slot : Slot) → slot ≡ get_or slots v slot → slot.count ≡ count
set_len m slots words v e given room count shown h q slot there =
    let p = and_parts (is_set_kind (kind_at m.variables v)) _ h in
    let o = and_parts (eqb (object_of_kind (kind_of m v)) (set_fits m e).0) (operand_fits m (set_fits m e) given room) p.1 in
    set_members m slots words v shown p.0 slot there ∙ ap (count_of m) (eqb-true (object_of_kind (kind_of m v)) (set_fits m e).0 o.0) ∙ sym q
