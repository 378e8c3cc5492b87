-- Players that are seated, one more and one more.
use Rattle.std.proofs.Common.{◌≡◌, ℕ, ◌+◌, ◌-◌, List, [], ◌∷◌, ◌++◌, length, slice_get, Some, refl, sym, ap, subst, ◌∙◌, arith}
use Rattle.std.proofs.lemmas.List.{append_assoc, length_push}
use Rattle.board_words.specs.Seats.{BoardFacts, IsSeatOf}
use Rattle.board_words.specs.Steps.{after_split, split_view}
use Rattle.board_words.specs.declared.seat.View.{View}
use Rattle.shard_threads.specs.Seats.{AreSeated}
use Rattle.joined_seats.specs.Joined.{with_less}
use Rattle.shard_threads.specs.declared.seated.Seated.{Seated}
use Rattle.shard_threads.proofs.Places.{at_front, at_last, each_more, long_parts}

-- one part less
pub less_more : (v w u : View) (k n : ℕ) → w ≡ with_less v k → u ≡ after_split w → n ≡ k + 1 → u ≡ with_less v n
less_more v w u k n is split more = split ∙ (ap after_split is ∙ ap (λ (m : ℕ). record v { part = m }) (let e : v.part - k - 1 ≡ v.part - n = omega (arith, more) in e))

module _ {P : Type 0} where
  pub seated_more : (board : BoardFacts) (view : View) (done : List P) (x : P) (all more : List (Seated P)) (s : Seated P) → AreSeated board view done all → more ≡ all ++ s ∷ [] → s.player ≡ x → IsSeatOf board s.seat → s.seat.view ≡ split_view view → AreSeated board view (done ++ x ∷ []) more
  seated_more board view done x all more s h e is on seen =
      let long = h.long in
      let a = ap length e ∙ length_push all s in
      let b = length_push done x in
      record {
        long = omega (arith, long, a, b);
        player_is = each_more (λ i y. slice_get (done ++ x ∷ []) i ≡ Some y.player) all more s e (λ i y at. at_front (done ++ x ∷ []) done (x ∷ []) refl i y.player (h.player_is i y at))
            (subst (λ (n : ℕ). slice_get (done ++ x ∷ []) n ≡ Some s.player) (sym long) (at_last (done ++ x ∷ []) done x refl ∙ ap Some (sym is)));
        on_board = each_more (λ i y. IsSeatOf board y.seat) all more s e h.on_board on;
        view_is = each_more (λ i y. y.seat.view ≡ split_view view) all more s e h.view_is seen;
      }

  -- one of them is left
  pub some_left : (done rest after all : List P) (x : P) → done ++ rest ≡ all → rest ≡ x ∷ after → (done ++ x ∷ []) ++ after ≡ all
  some_left done rest after all x whole next = append_assoc done (x ∷ []) after ∙ (ap (λ xs. done ++ xs) (sym next) ∙ whole)

  -- one that is left is seated next, so that not all are
  pub few_done : (done rest after all : List P) (x : P) → done ++ rest ≡ all → rest ≡ x ∷ after → length done + 1 + length after ≡ length all
  few_done done rest after all x whole next =
      let a = long_parts all (done ++ x ∷ []) after (sym (some_left done rest after all x whole next)) in
      let b = length_push done x in
      omega (arith, a, b)
