-- The arguments of a sum, evaluated in order.
use Rattle.std.proofs.Common.{◌≡◌, ℕ, zero, suc, ◌+◌, ◌-◌, ◌<◌, ◌≤◌, true, false, ◌&&◌, eqb, List, [], ◌∷◌, ◌++◌, length, get_or, map, take, drop, drop-cons, add-one, append-nil, Result, Ok, Err, ℤ, ◌⊎◌, inl, inr, refl, sym, ap, subst, ◌∙◌, arith}
use Rattle.std.specs.Prelude.{Option, Some, None, nat_le, slice_index}
use Rattle.std.proofs.lemmas.Bool.{and_parts, eqb-true, leb-true}
use Rattle.std.proofs.lemmas.List.{drop_all, take_all, length-drop, length-take-le}
use Rattle.dp_base.specs.Results.{◌>>=◌, in_turn}
use Rattle.dp_model.specs.Costs.{ranged}
use Rattle.dp_model.specs.Evaluation.{count_of, ways, total_of, num_value, set_value, ArgValue, CondValue, NumValue, SetValue, arg_step, cond_step, num_step, set_step}
use Rattle.dp_model.specs.declared.answers.FaultKind.{FaultKind}
use Rattle.dp_model.specs.declared.trees.Arg as args
use Rattle.dp_model.specs.declared.trees.Num as nums
use Rattle.dp_model.specs.declared.trees.SetEx as sets
use Rattle.dp_model.specs.declared.parts.PlainState.{PlainState}
use Rattle.dp_model.specs.declared.whole.Model.{Model}
use Rattle.bit_sets.specs.Sets.{members_of}
use Rattle.state_layout.specs.Signatures.{word_count}
use Rattle.eval_room.specs.Fits.{RoomTest, SetRoom, ArgRoom, arg_room, cond_room, num_room, set_room, num_fits, set_fits, arg_fits, terms_fit, term_room}
use Rattle.packed_words.specs.Totals.{arg_value, sum_value}
use Rattle.packed_eval.specs.Sums.{words_of, sets_in, waits_on, Chooses, sum_after, Termed, sum_chosen}
use Rattle.packed_eval.proofs.Ways.{sum_step, sets_more, take_more, words_more}

-- the values of some arguments
abbrev pub arg_values : Model → PlainState → List args.Arg → List ℕ → Result (List (ℤ ⊎ List ℕ)) FaultKind
arg_values m s terms given = in_turn (λ (a : ArgValue). a given) (map (arg_value m s) terms)

-- ---- what fits

module _ (m : Model) (given room : ℕ) where
  first_fits : (left : List ℕ) (e : args.Arg) (more : List args.Arg) → terms_fit m left (e ∷ more) given room ≡ true → (left ≡ slice_index left 0 ∷ drop 1 left) × (word_count (slice_index left 0) ≤ room) × (term_room m (arg_fits m e) (slice_index left 0) given (room - word_count (slice_index left 0)) ≡ true) × (terms_fit m (drop 1 left) more given (room - word_count (slice_index left 0)) ≡ true)
  first_fits [] e more h = absurd cc
  first_fits (count ∷ rest) e more h =
      let a = and_parts (nat_le (word_count count) room) (term_room m (arg_fits m e) count given (room - word_count count) && terms_fit m rest more given (room - word_count count)) h in
      let b = and_parts (term_room m (arg_fits m e) count given (room - word_count count)) (terms_fit m rest more given (room - word_count count)) a.1 in
      (refl, leb-true (word_count count) room a.0, b.0, b.1)

  -- a table of one argument has one count
  pub only_term : (counts : List ℕ) (terms : List args.Arg) (d e : args.Arg) → length terms ≡ 1 → e ≡ get_or terms 0 d → terms_fit m counts terms given room ≡ true → (terms ≡ e ∷ []) × (counts ≡ slice_index counts 0 ∷ []) × (word_count (slice_index counts 0) ≤ room) × (term_room m (arg_fits m e) (slice_index counts 0) given (room - word_count (slice_index counts 0)) ≡ true)
  only_term counts [] d e n p h = absurd (omega (arith, n))
  only_term counts (x ∷ y ∷ ys) d e n p h = absurd (omega (arith, n))
  only_term [] (x ∷ []) d e n p h = absurd cc
  only_term (c ∷ k ∷ ks) (x ∷ []) d e n p h =
      let a = and_parts (nat_le (word_count c) room) (term_room m (arg_fits m x) c given (room - word_count c) && false) h in
      let b = and_parts (term_room m (arg_fits m x) c given (room - word_count c)) false a.1 in
      absurd (let none = b.1 in cc)
  only_term (c ∷ []) (x ∷ []) d e n p h =
      let a = and_parts (nat_le (word_count c) room) (term_room m (arg_fits m x) c given (room - word_count c) && true) h in
      let b = and_parts (term_room m (arg_fits m x) c given (room - word_count c)) true a.1 in
      (ap (λ (y : args.Arg). y ∷ []) (sym p), refl, leb-true (word_count c) room a.0, rw p b.0)

  pub term_at : (left : List ℕ) (terms : List args.Arg) (i : ℕ) (d e : args.Arg) → i < length terms → e ≡ get_or terms i d → terms_fit m left (drop i terms) given room ≡ true → (left ≡ slice_index left 0 ∷ drop 1 left) × (word_count (slice_index left 0) ≤ room) × (term_room m (arg_fits m e) (slice_index left 0) given (room - word_count (slice_index left 0)) ≡ true) × (terms_fit m (drop 1 left) (drop (i + 1) terms) given (room - word_count (slice_index left 0)) ≡ true)
  term_at left terms i d e h p f =
      let next : suc i ≡ i + 1 = omega arith in
      let here : drop i terms ≡ e ∷ drop (i + 1) terms = drop-cons terms i d h ∙ ap (λ (x : args.Arg). x ∷ drop (suc i) terms) (sym p) ∙ ap (λ (k : ℕ). e ∷ drop k terms) next in
      first_fits left e (drop (i + 1) terms) (subst (λ (xs : List args.Arg). terms_fit m left xs given room ≡ true) here f)

  pub none_left : (left : List ℕ) (terms : List args.Arg) (i : ℕ) → length terms ≤ i → terms_fit m left (drop i terms) given room ≡ true → left ≡ []
  none_left left terms i h f = by left (subst (λ (xs : List args.Arg). terms_fit m left xs given room ≡ true) (drop_all i terms h) f)
    where
      by : (left : List ℕ) → terms_fit m left [] given room ≡ true → left ≡ []
      by [] f = refl
      by (count ∷ rest) f = absurd cc

  pub number_term : (e : args.Arg) (n : nums.Num) (count : ℕ) → args.out-Arg e ≡ args.Arg-F.One n → term_room m (arg_fits m e) count given room ≡ true → num_fits m n given room ≡ true
  number_term e n count p h = rw (args.fold_out-Arg ArgRoom RoomTest RoomTest SetRoom arg_room (cond_room m) (num_room m) (set_room m) e, p) at h

  pub set_term : (e : args.Arg) (a : sets.SetEx) (count : ℕ) → args.out-Arg e ≡ args.Arg-F.Many a → term_room m (arg_fits m e) count given room ≡ true → (count ≡ count_of m (set_fits m a).0) × ((set_fits m a).1 given room ≡ true)
  set_term e a count p h =
      let f = and_parts (eqb (count_of m (set_fits m a).0) count) ((set_fits m a).1 given room) (rw (args.fold_out-Arg ArgRoom RoomTest RoomTest SetRoom arg_room (cond_room m) (num_room m) (set_room m) e, p) at h) in
      (sym (eqb-true (count_of m (set_fits m a).0) count f.0), f.1)

-- ---- values

module _ (m : Model) (s : PlainState) (given : List ℕ) where
  number_is : (e : args.Arg) (n : nums.Num) → args.out-Arg e ≡ args.Arg-F.One n → arg_value m s e given ≡ (num_value m s n given >>= λ z. Ok (inl z))
  number_is e n p = rw (args.fold_out-Arg ArgValue CondValue NumValue SetValue arg_step (cond_step m s) (num_step m s) (set_step m s) e, p) refl

  set_is : (e : args.Arg) (a : sets.SetEx) → args.out-Arg e ≡ args.Arg-F.Many a → arg_value m s e given ≡ ((set_value m s a).1 given >>= λ members. Ok (inr members))
  set_is e a p = rw (args.fold_out-Arg ArgValue CondValue NumValue SetValue arg_step (cond_step m s) (num_step m s) (set_step m s) e, p) refl

  pub number_termed : (e : args.Arg) (n : nums.Num) (count : ℕ) (waits now : Option FaultKind) (choice : List ℕ) (z : ℤ) → args.out-Arg e ≡ args.Arg-F.One n → num_value m s n given ≡ Ok z → now ≡ waits_on count waits (inl z) → (now ≡ None → Chooses count (inl z) choice) → Termed count waits choice (Ok now) (arg_value m s e given)
  number_termed e n count waits now choice z p h w c = (inl z, (rw (number_is e n p, h) refl), w, c)

  pub set_termed : (e : args.Arg) (a : sets.SetEx) (count : ℕ) (waits : Option FaultKind) (choice : List ℕ) → args.out-Arg e ≡ args.Arg-F.Many a → (set_value m s a).1 given ≡ Ok choice → Termed count waits choice (Ok waits) (arg_value m s e given)
  set_termed e a count waits choice p h = (inr choice, (rw (set_is e a p, h) refl), kept waits, λ w. refl)
    where
      kept : (waits : Option FaultKind) → waits ≡ waits_on count waits (inr choice)
      kept None = refl
      kept (Some kind) = refl

  more_values : (terms : List args.Arg) (i : ℕ) (d e : args.Arg) (x : ℤ ⊎ List ℕ) → i < length terms → e ≡ get_or terms i d → arg_value m s e given ≡ Ok x → arg_values m s (drop i terms) given ≡ (arg_values m s (drop (i + 1) terms) given >>= λ xs. Ok (x ∷ xs))
  more_values terms i d e x h p v = rw (add-one, drop-cons terms i d h, ← p, v) refl

  -- a fault of an argument is that of the sum
  pub term_fault : (t : ℕ) (terms : List args.Arg) (i : ℕ) (d e : args.Arg) (kind : FaultKind) (chosen : List (List ℕ)) (waits : Option FaultKind) (left : List ℕ) (all : Result ℤ FaultKind) → i < length terms → e ≡ get_or terms i d → arg_value m s e given ≡ Err kind → sum_after m t chosen waits left (arg_values m s (drop i terms) given) ≡ all → all ≡ Err kind
  term_fault t terms i d e kind chosen waits left all h p v f =
      let none : arg_values m s (drop i terms) given ≡ Err kind = rw (drop-cons terms i d h, ← p, v) refl in
      sym f ∙ rw none refl

  -- one argument more, of a table's counts
  pub sum_next : (t : ℕ) (counts left : List ℕ) (terms : List args.Arg) (i : ℕ) (d e : args.Arg) (count used : ℕ) (old new : List ℕ) (waits now : Option FaultKind) (all : Result ℤ FaultKind)
      → i < length terms → e ≡ get_or terms i d → left ≡ drop i counts → left ≡ count ∷ drop 1 left → used ≡ words_of (take i counts) → used + word_count count ≤ length new → take used new ≡ take used old
      → Termed count waits (members_of (take (word_count count) (drop used new))) (Ok now) (arg_value m s e given)
      → sum_after m t (sets_in (take i counts) (take used old)) waits left (arg_values m s (drop i terms) given) ≡ all
      → sum_after m t (sets_in (take (i + 1) counts) (take (used + word_count count) new)) now (drop 1 left) (arg_values m s (drop (i + 1) terms) given) ≡ all
  sum_next t counts left terms i d e count used old new waits now all h p l f u room same termed before =
      let mine = take (word_count count) (drop used new) in
      let more : take (i + 1) counts ≡ take i counts ++ count ∷ [] = take_more counts i count (drop 1 left) (sym l ∙ f) in
      let held : sets_in (take (i + 1) counts) (take (used + word_count count) new) ≡ sets_in (take i counts) (take used old) ++ members_of mine ∷ [] = sets_more (take i counts) count used old new (take (i + 1) counts) more u room same in
      let x = termed.0 in
      let step : sum_after m t (sets_in (take i counts) (take used old)) waits (count ∷ drop 1 left) (arg_values m s (drop (i + 1) terms) given >>= λ xs. Ok (x ∷ xs)) ≡ sum_after m t (sets_in (take i counts) (take used old) ++ members_of mine ∷ []) (waits_on count waits x) (drop 1 left) (arg_values m s (drop (i + 1) terms) given) = sum_step m t (sets_in (take i counts) (take used old)) count (drop 1 left) (members_of mine) waits x (arg_values m s (drop (i + 1) terms) given) (λ w. termed.3 (termed.2 ∙ w)) in
      let here : sum_after m t (sets_in (take i counts) (take used old)) waits (count ∷ drop 1 left) (arg_values m s (drop i terms) given) ≡ all = subst (λ (ks : List ℕ). sum_after m t (sets_in (take i counts) (take used old)) waits ks (arg_values m s (drop i terms) given) ≡ all) f before in
      let values : arg_values m s (drop i terms) given ≡ (arg_values m s (drop (i + 1) terms) given >>= λ xs. Ok (x ∷ xs)) = more_values terms i d e x h p termed.1 in
      let there : sum_after m t (sets_in (take i counts) (take used old)) waits (count ∷ drop 1 left) (arg_values m s (drop (i + 1) terms) given >>= λ xs. Ok (x ∷ xs)) ≡ all = subst (λ (r : Result (List (ℤ ⊎ List ℕ)) FaultKind). sum_after m t (sets_in (take i counts) (take used old)) waits (count ∷ drop 1 left) r ≡ all) values here in
      subst (λ (w : Option FaultKind). sum_after m t (sets_in (take (i + 1) counts) (take (used + word_count count) new)) w (drop 1 left) (arg_values m s (drop (i + 1) terms) given) ≡ all) (sym termed.2)
      (subst (λ (xs : List (List ℕ)). sum_after m t xs (waits_on count waits x) (drop 1 left) (arg_values m s (drop (i + 1) terms) given) ≡ all) (sym held) (sym step ∙ there))

  -- what is known beside
  pub drop_next : (i : ℕ) (ks : List ℕ) → drop 1 (drop i ks) ≡ drop (i + 1) ks
  drop_next zero ks = refl
  drop_next (suc i) [] = let n : suc i + 1 ≡ suc (i + 1) = omega arith in rw n refl
  drop_next (suc i) (k ∷ ks) = let n : suc i + 1 ≡ suc (i + 1) = omega arith in rw n (drop_next i ks)

  pub used_next : (counts left : List ℕ) (i count used : ℕ) → left ≡ drop i counts → left ≡ count ∷ drop 1 left → used ≡ words_of (take i counts) → used + word_count count ≡ words_of (take (i + 1) counts)
  used_next counts left i count used l f u =
      let more : take (i + 1) counts ≡ take i counts ++ count ∷ [] = take_more counts i count (drop 1 left) (sym l ∙ f) in
      let sum : words_of (take i counts ++ count ∷ []) ≡ words_of (take i counts) + word_count count = words_more (take i counts) count in
      ap (λ (k : ℕ). k + word_count count) u ∙ sym sum ∙ ap words_of (sym more)

  pub fits_next : (left : List ℕ) (terms : List args.Arg) (room used words now : ℕ) → terms_fit m left terms (length given) ((room - used) - words) ≡ true → now ≡ room → terms_fit m left terms (length given) (now - (used + words)) ≡ true
  fits_next left terms room used words now f e =
      let same : (room - used) - words ≡ now - (used + words) = omega (arith, e) in
      subst (λ (k : ℕ). terms_fit m left terms (length given) k ≡ true) same f

  pub all_chosen : (counts left : List ℕ) (i : ℕ) → left ≡ drop i counts → left ≡ [] → take i counts ≡ counts
  all_chosen counts left i l f =
      let none : length (drop i counts) ≡ 0 = ap (λ (ks : List ℕ). length ks) (sym l ∙ f) in
      take_all i counts (omega (arith, none, length-drop i counts))

  pub held_long : (counts left : List ℕ) (i used : ℕ) (words : List ℕ) → left ≡ drop i counts → left ≡ [] → used ≡ words_of (take i counts) → used ≤ length words → length (take used words) ≡ words_of counts
  held_long counts left i used words l f u h = length-take-le used words h ∙ u ∙ ap words_of (all_chosen counts left i l f)

  -- none is left

  pub sum_told : (t : ℕ) (counts left : List ℕ) (terms : List args.Arg) (i : ℕ) (held : List ℕ) (all r : Result ℤ FaultKind) → length terms ≤ i → left ≡ drop i counts → left ≡ [] → sum_after m t (sets_in (take i counts) held) None left (arg_values m s (drop i terms) given) ≡ all → r ≡ ranged (total_of m t (ways (sets_in counts held))) → r ≡ all
  sum_told t counts left terms i held all r h l f before e =
      let whole : take i counts ≡ counts = all_chosen counts left i l f in
      let none : arg_values m s (drop i terms) given ≡ Ok [] = rw (drop_all i terms h) refl in
      let here : sum_after m t (sets_in counts held) None [] (Ok []) ≡ all = rw (whole, f, none) at before in
      let bare : ranged (total_of m t (ways (sets_in counts held ++ []))) ≡ all = here in
      e ∙ ap (λ (xs : List (List ℕ)). ranged (total_of m t (ways xs))) (sym (append-nil (sets_in counts held))) ∙ bare

  pub fault_told : (t : ℕ) (terms : List args.Arg) (i : ℕ) (kind : FaultKind) (chosen : List (List ℕ)) (left : List ℕ) (all : Result ℤ FaultKind) → length terms ≤ i → sum_after m t chosen (Some kind) left (arg_values m s (drop i terms) given) ≡ all → Err kind ≡ all
  fault_told t terms i kind chosen left all h before =
      let none : arg_values m s (drop i terms) given ≡ Ok [] = rw (drop_all i terms h) refl in
      let here : sum_after m t chosen (Some kind) left (Ok []) ≡ all = rw none at before in
      here

-- ---- two arguments

-- as many terms as a table has counts
pub two_terms : (m : Model) (given room count last : ℕ) (terms : List args.Arg) (d o e f : args.Arg) → length terms ≡ 2 → e ≡ get_or terms 0 d → f ≡ get_or terms 1 o → terms_fit m (count ∷ last ∷ []) terms given room ≡ true
    → (terms ≡ e ∷ f ∷ []) × (word_count count ≤ room) × (term_room m (arg_fits m e) count given (room - word_count count) ≡ true) × (word_count last ≤ room - word_count count) × (term_room m (arg_fits m f) last given (room - word_count count - word_count last) ≡ true)
two_terms m given room count last [] d o e f n p q h = absurd (omega (arith, n))
two_terms m given room count last (x ∷ []) d o e f n p q h = absurd (omega (arith, n))
two_terms m given room count last (x ∷ y ∷ z ∷ zs) d o e f n p q h = absurd (omega (arith, n))
two_terms m given room count last (x ∷ y ∷ []) d o e f n p q h =
    let a = first_fits m given room (count ∷ last ∷ []) x (y ∷ []) h in
    let b = first_fits m given (room - word_count count) (last ∷ []) y [] a.3 in
    rw (p, q) (refl, a.1, a.2, b.1, b.2)

module _ (m : Model) (s : PlainState) (given : List ℕ) (t : ℕ) (terms : List args.Arg) (e f : args.Arg) (p : terms ≡ e ∷ f ∷ []) where
  pub both_values : (x y : ℤ ⊎ List ℕ) (r : Result ℤ FaultKind) → arg_value m s e given ≡ Ok x → arg_value m s f given ≡ Ok y → r ≡ sum_chosen m t (x ∷ y ∷ []) → r ≡ sum_value m s t terms given
  both_values x y r u v h = rw (p, u, v) h

  pub last_fault : (x : ℤ ⊎ List ℕ) (kind : FaultKind) → arg_value m s e given ≡ Ok x → arg_value m s f given ≡ Err kind → sum_value m s t terms given ≡ Err kind
  last_fault x kind u v = rw (p, u, v) refl
