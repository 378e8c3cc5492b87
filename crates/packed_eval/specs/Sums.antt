-- Sums of a table over sets that are held in words, one behind another.
use Rattle.std.specs.Prelude.{◌≡◌, ℕ, zero, suc, ◌+◌, ◌*◌, ◌≤◌, List, [], ◌∷◌, ◌++◌, length, take, drop, slice_get, slice_index, Option, Some, None, unwrap_or, Result, Ok, Err, ℤ, pos, ◌-ℤ◌, ◌≤ℤ◌, ◌⊎◌}
use Rattle.std.proofs.Common.{inl, inr}
use Rattle.dp_base.specs.Results.{◌>>=◌}
use Rattle.bit_sets.specs.Sets.{members_of}
use Rattle.dp_model.specs.Costs.{ranged}
use Rattle.dp_model.specs.Evaluation.{member_of, table_counts, choices_of, ways, total_of}
use Rattle.dp_model.specs.declared.answers.FaultKind.{FaultKind}
use Rattle.dp_model.specs.declared.whole.Model.{Model}
use Rattle.state_layout.specs.Signatures.{word_count}
use Rattle.packed_words.specs.Sets.{one_word}
use Rattle.packed_words.specs.Totals.{total_by}
use Rattle.packed_eval.specs.declared.sums.Term.{Term}
use Rattle.packed_eval.specs.declared.sums.Term.TheVariants.{One, Many}

-- how many words sets of object types with these counts have
abbrev pub words_of : List ℕ → ℕ
words_of [] = 0
words_of (count ∷ counts) = word_count count + words_of counts

-- the sets in words
abbrev pub sets_in : List ℕ → List ℕ → List (List ℕ)
sets_in [] words = []
sets_in (count ∷ counts) words = members_of (take (word_count count) words) ∷ sets_in counts (drop (word_count count) words)

-- the place with one more argument, whose count stands first
abbrev pub place_after : ℕ → List ℕ → ℕ → ℕ
place_after place [] k = place
place_after place (count ∷ counts) k = place * count + k

-- the total behind a place, over these sets
abbrev pub total_over : (ℕ → ℤ) → ℕ → List ℕ → List (List ℕ) → ℤ
total_over cell place counts [] = cell place
total_over cell place counts (set ∷ sets) = total_by (λ k. total_over cell (place_after place counts k) (drop 1 counts) sets) set

-- a cell in a list of cells, 0 past its end
abbrev pub cell_at : List ℤ → ℕ → ℤ
cell_at cells place = unwrap_or (slice_get cells place) (pos 0)

-- a table has at most four arguments, of object types with at most 4,096 members
pub record AreFew (counts : List ℕ) : Type 0 where
  pub four : length counts ≤ 4
  pub each : (i : ℕ) → slice_index counts i ≤ 4096

-- what a total over so many sets has at most, above 0 or below
abbrev pub bound_for : ℕ → ℕ
bound_for zero = 9223372036854775808
bound_for (suc n) = 8192 * bound_for n

pub record IsWithin (bound : ℕ) (z : ℤ) : Type 0 where
  pub low : (pos 0 -ℤ pos bound) ≤ℤ z
  pub high : z ≤ℤ pos bound

-- the fault of a member that waits until all arguments are evaluated
abbrev pub fault_in : {A : Type 0} → Result A FaultKind → Option FaultKind
fault_in (Ok x) = None
fault_in (Err kind) = Some kind

abbrev pub waits_on : ℕ → Option FaultKind → (ℤ ⊎ List ℕ) → Option FaultKind
waits_on count (Some kind) x = Some kind
waits_on count None (inl z) = fault_in (member_of count z)
waits_on count None (inr set) = None

-- a set is what an argument chooses of
abbrev pub Chooses : ℕ → (ℤ ⊎ List ℕ) → List ℕ → Type 0
Chooses count (inl z) choice = (k : ℕ) × (member_of count z ≡ Ok k) × (choice ≡ k ∷ [])
Chooses count (inr set) choice = choice ≡ set

abbrev pub unless : {A : Type 0} → Option FaultKind → Result A FaultKind → Result A FaultKind
unless None r = r
unless (Some kind) r = Err kind

-- the sum, where some sets were chosen of and arguments are left
abbrev pub sum_after : Model → ℕ → (chosen : List (List ℕ)) → Option FaultKind → (left : List ℕ) → Result (List (ℤ ⊎ List ℕ)) FaultKind → Result ℤ FaultKind
sum_after m t chosen waits left rest = rest >>= λ xs. unless waits (choices_of left xs >>= λ more. ranged (total_of m t (ways (chosen ++ more))))

-- An argument was evaluated: what waits now, and the set that it chooses of; or its fault.
abbrev pub Termed : ℕ → Option FaultKind → List ℕ → Result (Option FaultKind) FaultKind → Result (ℤ ⊎ List ℕ) FaultKind → Type 0
Termed count waits choice (Err kind) value = value ≡ Err kind
Termed count waits choice (Ok now) value = (x : ℤ ⊎ List ℕ) × (value ≡ Ok x) × (now ≡ waits_on count waits x) × (now ≡ None → Chooses count x choice)

-- the sum of a table of one argument over the one member that a number is
abbrev pub sum_of_one : Model → ℕ → (count : ℕ) → ℤ → Result ℤ FaultKind
sum_of_one m t count z = member_of count z >>= λ k. ranged (total_of m t (ways ((k ∷ []) ∷ [])))

-- what an argument that was evaluated is
abbrev pub term_value : Term → ℤ ⊎ List ℕ
term_value (One z) = inl z
term_value (Many word) = inr (members_of (one_word word))

-- the members that it chooses, of an object type with so many
abbrev pub chosen_in : ℕ → ℤ ⊎ List ℕ → Result (List ℕ) FaultKind
chosen_in count (inl z) = member_of count z >>= λ k. Ok (k ∷ [])
chosen_in count (inr set) = Ok set

-- the sum over arguments that were evaluated
abbrev pub sum_chosen : Model → ℕ → List (ℤ ⊎ List ℕ) → Result ℤ FaultKind
sum_chosen m t xs = choices_of (table_counts m t) xs >>= λ choices. ranged (total_of m t (ways choices))
