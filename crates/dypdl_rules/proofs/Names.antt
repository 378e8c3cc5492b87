-- What a word names, found in the lists themselves.
use Rattle.std.proofs.Common.{◌≡◌, ℕ, suc, ◌+◌, ◌-◌, ◌≤◌, Bool, true, false, cond, if◌then◌else◌, Bor, ◌||◌, List, [], ◌∷◌, ◌++◌, map, Option, Some, None, refl, sym, ap, ◌∙◌, arith, add-one}
use Rattle.std.proofs.lemmas.Iterator.Adapters.{position_from-zero}
use Rattle.std.proofs.lemmas.List.Folds.{list_any-append}
use Rattle.std.proofs.lemmas.Slice.Eq.{bytes_eq-Decides}
use Rattle.std.specs.Bool.{one_answer}
use Rattle.std.specs.List.{list_any, position_from}
use Rattle.std.specs.Option.{is_some, option_copied, option_or}
use Rattle.std.specs.Str.{bytes_eq}
use Rattle.dp_model.specs.Typing.{kind_at}
use Rattle.dp_model.specs.declared.parts.ObjectType.{ObjectType}
use Rattle.dp_model.specs.declared.parts.Variable.{Variable}
use Rattle.dp_model.specs.declared.parts.VarKind.{VarKind}
use Rattle.dp_model.specs.declared.parts.TableData.{TableData}
use Rattle.dypdl_words.specs.Scopes.{variable_named, table_named, declared, shape_of}
use Rattle.dypdl_words.specs.declared.scope.Shape.{Shape}
use Rattle.dypdl_words.specs.declared.scope.Named.{Named}
use Rattle.dypdl_words.specs.declared.scope.Named.TheVariants as named
use Rattle.dypdl_nodes.specs.Shapes.{is_among}
use Rattle.dypdl_data.specs.Names.{number_named}
use Rattle.dypdl_data.specs.Objects.{object_names}
use Rattle.dypdl_data.specs.Variables.{variable_names}

-- ---- texts

bytes_eq-swap : (v w : List ℕ) → bytes_eq v w ≡ bytes_eq w v
bytes_eq-swap v w =
    one_answer (bytes_eq v w) (bytes_eq w v) (bytes_eq-Decides v w)
    (λ e. sym ((bytes_eq-Decides w v).0 e), λ e. (bytes_eq-Decides w v).1 (sym e))

any_found : (t : List ℕ → Bool) (at : ℕ) (xs : List (List ℕ)) → is_some (position_from t at xs) ≡ list_any t xs
any_found t at [] = refl
any_found t at (x ∷ xs) = step (t x) (any_found t (at + 1) xs)
  where
    step : (b : Bool) → is_some (position_from t (at + 1) xs) ≡ list_any t xs → is_some (cond b (Some at) (position_from t (at + 1) xs)) ≡ (b || list_any t xs)
    step true h = refl
    step false h = h

-- a name is one of these where it has a number among them
pub among_numbered : (names : List (List ℕ)) (word : List ℕ) → is_among names word ≡ is_some (number_named names word)
among_numbered names word = sym (ap is_some (position_from-zero (bytes_eq word) names) ∙ any_found (bytes_eq word) 0 names)

-- ---- variables

abbrev Found : ℕ → List Variable → List ℕ → Option Named → Type 0
Found at vs word (Some (named.Variable v kind)) = (position_from (bytes_eq word) at (variable_names vs) ≡ Some v) × (at ≤ v) × (kind_at vs (v - at) ≡ Some kind)
Found at vs word (Some (named.Table t shape)) = ⊥
Found at vs word None = position_from (bytes_eq word) at (variable_names vs) ≡ None

found : (at : ℕ) (vs : List Variable) (word : List ℕ) → Found at vs word (variable_named at vs word)
found at [] word = refl
found at (v ∷ vs) word = step (bytes_eq v.name word) refl (found (suc at) vs word)
  where
    past : bytes_eq v.name word ≡ false → position_from (bytes_eq word) at (variable_names (v ∷ vs)) ≡ position_from (bytes_eq word) (suc at) (variable_names vs)
    past e = rw (bytes_eq-swap word v.name, e, add-one) refl

    later : (o : Option Named) → bytes_eq v.name word ≡ false → Found (suc at) vs word o → Found at (v ∷ vs) word o
    later (Some (named.Variable w kind)) e h =
        let n : w - at ≡ suc (w - suc at) = omega (arith, h.1) in
        (past e ∙ h.0, omega (arith, h.1), rw n h.2)
    later (Some (named.Table t shape)) e h = h
    later None e h = past e ∙ h

    step : (b : Bool) → bytes_eq v.name word ≡ b → Found (suc at) vs word (variable_named (suc at) vs word) → Found at (v ∷ vs) word (if b then Some (named.Variable at v.kind) else variable_named (suc at) vs word)
    step true e h =
        let n : at - at ≡ 0 = omega arith in
        (rw (bytes_eq-swap word v.name, e) refl, omega arith, rw n refl)
    step false e h = later (variable_named (suc at) vs word) e h

-- ---- tables

abbrev IsTable : List TableData → List ℕ → Option Named → Type 0
IsTable ts word (Some (named.Variable v kind)) = ⊥
IsTable ts word (Some (named.Table t shape)) = is_among (map (λ (t : TableData). t.name) ts) word ≡ true
IsTable ts word None = is_among (map (λ (t : TableData). t.name) ts) word ≡ false

table : (at : ℕ) (ts : List TableData) (word : List ℕ) → IsTable ts word (table_named at ts word)
table at [] word = refl
table at (t ∷ ts) word = step (bytes_eq t.name word) refl (table (suc at) ts word)
  where
    later : (o : Option Named) → bytes_eq t.name word ≡ false → IsTable ts word o → IsTable (t ∷ ts) word o
    later (Some (named.Variable v kind)) e h = h
    later (Some (named.Table i shape)) e h = rw (bytes_eq-swap word t.name, e) h
    later None e h = rw (bytes_eq-swap word t.name, e) h

    step : (b : Bool) → bytes_eq t.name word ≡ b → IsTable ts word (table_named (suc at) ts word) → IsTable (t ∷ ts) word (if b then Some (named.Table at (shape_of t)) else table_named (suc at) ts word)
    step true e h = rw (bytes_eq-swap word t.name, e) refl
    step false e h = later (table_named (suc at) ts word) e h

-- ---- both

abbrev Means : List Variable → List TableData → List ℕ → Option Named → Type 0
Means vs ts word (Some (named.Variable v kind)) =
    (number_named (variable_names vs) word ≡ Some v) × (kind_at vs v ≡ Some kind) × (is_among (variable_names vs ++ map (λ (t : TableData). t.name) ts) word ≡ true)
Means vs ts word (Some (named.Table t shape)) =
    (number_named (variable_names vs) word ≡ None) × (is_among (variable_names vs ++ map (λ (t : TableData). t.name) ts) word ≡ true)
Means vs ts word None =
    (number_named (variable_names vs) word ≡ None) × (is_among (variable_names vs ++ map (λ (t : TableData). t.name) ts) word ≡ false)

means : (vs : List Variable) (ts : List TableData) (word : List ℕ) → Means vs ts word (declared vs ts word)
means vs ts word = by_variable (variable_named 0 vs word) (found 0 vs word)
  where
    numbered : {o : Option ℕ} → position_from (bytes_eq word) 0 (variable_names vs) ≡ o → number_named (variable_names vs) word ≡ o
    numbered e = position_from-zero (bytes_eq word) (variable_names vs) ∙ e

    among : (b : Bool) → number_named (variable_names vs) word ≡ None → is_among (map (λ (t : TableData). t.name) ts) word ≡ b → is_among (variable_names vs ++ map (λ (t : TableData). t.name) ts) word ≡ b
    among b e h =
        list_any-append (bytes_eq word) (variable_names vs) (map (λ (t : TableData). t.name) ts)
        ∙ rw (among_numbered (variable_names vs) word, e) h

    by_table : (o : Option Named) → number_named (variable_names vs) word ≡ None → IsTable ts word o → Means vs ts word o
    by_table (Some (named.Variable v kind)) e h = absurd h
    by_table (Some (named.Table t shape)) e h = (e, among true e h)
    by_table None e h = (e, among false e h)

    by_variable : (o : Option Named) → Found 0 vs word o → Means vs ts word (option_or o (table_named 0 ts word))
    by_variable (Some (named.Variable v kind)) h =
        let n : v - 0 ≡ v = omega arith in
        (numbered h.0, rw n at h.2, list_any-append (bytes_eq word) (variable_names vs) (map (λ (t : TableData). t.name) ts) ∙ rw (among_numbered (variable_names vs) word, numbered h.0) refl)
    by_variable (Some (named.Table t shape)) h = absurd h
    by_variable None h = by_table (table_named 0 ts word) (numbered h) (table 0 ts word)

pub variable_means : (vs : List Variable) (ts : List TableData) (word : List ℕ) (v : ℕ) (kind : VarKind) → declared vs ts word ≡ Some (named.Variable v kind) → (number_named (variable_names vs) word ≡ Some v) × (kind_at vs v ≡ Some kind)
variable_means vs ts word v kind e = let h : Means vs ts word (Some (named.Variable v kind)) = rw e at (means vs ts word) in (h.0, h.1)

pub table_means : (vs : List Variable) (ts : List TableData) (word : List ℕ) (t : ℕ) (shape : Shape) → declared vs ts word ≡ Some (named.Table t shape) → number_named (variable_names vs) word ≡ None
table_means vs ts word t shape e = let h : Means vs ts word (Some (named.Table t shape)) = rw e at (means vs ts word) in h.0

pub nothing_means : (vs : List Variable) (ts : List TableData) (word : List ℕ) → declared vs ts word ≡ None → number_named (variable_names vs) word ≡ None
nothing_means vs ts word e = let h : Means vs ts word None = rw e at (means vs ts word) in h.0

-- a name is taken where it has a number among the object types, or is a variable or a table
pub taken_means : (os : List ObjectType) (vs : List Variable) (ts : List TableData) (word : List ℕ) → is_among (object_names os ++ (variable_names vs ++ map (λ (t : TableData). t.name) ts)) word ≡ (is_some (number_named (object_names os) word) || is_some (declared vs ts word))
taken_means os vs ts word =
    list_any-append (bytes_eq word) (object_names os) (variable_names vs ++ map (λ (t : TableData). t.name) ts)
    ∙ rw (among_numbered (object_names os) word) (ap (λ (b : Bool). is_some (number_named (object_names os) word) || b) (by (declared vs ts word) (means vs ts word)))
  where
    by : (o : Option Named) → Means vs ts word o → is_among (variable_names vs ++ map (λ (t : TableData). t.name) ts) word ≡ is_some o
    by (Some (named.Variable v kind)) h = h.2
    by (Some (named.Table t shape)) h = h.1
    by None h = h.1

-- what is found behind a reference is found
pub copied : {X : Type 0} (o : Option (Bor X)) → is_some o ≡ is_some (option_copied o)
copied (Some x) = refl
copied None = refl
