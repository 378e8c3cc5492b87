-- The names of tables whose cells change.
use Rattle.std.proofs.Common.{◌≡◌, ℕ, zero, suc, ◌<◌, List, [], ◌∷◌, length, get_or, slice_set, Result, Ok, Err, IfOk, map, refl, ap, ◌∙◌, arith}
use Rattle.dp_model.specs.declared.parts.TableData.{TableData}
use Rattle.dp_model.specs.declared.parts.ObjectType.{ObjectType}
use Rattle.dypdl_data.specs.Cells.{table_names}
use Rattle.dypdl_data.specs.Tables.{head_names, blank_table}
use Rattle.dypdl_data.specs.declared.kinds.TableHead.{TableHead}

pub names_set : (ts : List TableData) (i : ℕ) (old new : TableData) → i < length ts → old ≡ get_or ts i old → new.name ≡ old.name → table_names (slice_set ts i new) ≡ table_names ts
names_set [] i old new h e k = absurd (omega arith)
names_set (t ∷ ts) zero old new h e k =
    ap (λ (n : List ℕ). n ∷ table_names ts) (k ∙ ap (λ (t : TableData). t.name) e)
names_set (t ∷ ts) (suc i) old new h e k = ap (λ (ns : List (List ℕ)). t.name ∷ ns) (names_set ts i old new (omega arith) e k)

pub if_ok : {A E : Type 0} (r : Result A E) (P Q : Type 0) → (P → Q) → IfOk r (λ _. P) → IfOk r (λ _. Q)
if_ok (Ok x) P Q f p = f p
if_ok (Err e) P Q f p = tt

pub blank_names : (os : List ObjectType) (heads : List TableHead) → table_names (map (blank_table os) heads) ≡ head_names heads
blank_names os [] = refl
blank_names os (h ∷ heads) = ap (λ (ns : List (List ℕ)). h.name ∷ ns) (blank_names os heads)
