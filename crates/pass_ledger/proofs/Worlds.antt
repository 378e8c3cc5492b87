-- What holds of the world before an event holds after it.
use Rattle.std.proofs.Common.{◌≡◌, ◌≢◌, ℕ, ◌+◌, ◌≤◌, ◌<◌, ◌⊎◌, inl, inr, suc, Bool, true, false, cond, nat_eq, nat_lt, if◌then◌else◌, List, [], ◌∷◌, ◌++◌, length, get_or, slice_set, Option, Some, None, min, refl, sym, subst, ◌∙◌, ap, arith, append_assoc, eq-eqb}
use Rattle.std.specs.List.{filter}
use Rattle.std.proofs.lemmas.Bool.{cases_eq, cases_lt, ne_eqb}
use Rattle.std.proofs.lemmas.List.{length-set, get_or-set_same, get_or-set_other, append-nil}
use Rattle.std.proofs.lemmas.List.Elements.{filter-append}
use Rattle.std.specs.Prelude.{ℤ, pos, ◌≤ℤ◌}
use Rattle.std.proofs.lemmas.Int.{ints}
use Rattle.dp_claims.specs.Enough.{Has}
use Rattle.dp_model.specs.declared.whole.Model.{Model}
use Rattle.pass_ledger.specs.Letters.{of, sender, InGroups, Posted}
use Rattle.pass_ledger.specs.Passes.{Pass, word_of}
use Rattle.pass_ledger.specs.Records.{record_of, Reaches, Own}
use Rattle.pass_ledger.specs.Events.{append_at, take, CanTake, close, prune, visit, CanVisit, post}
use Rattle.pass_ledger.specs.Worlds.{World, Seat, Turn, Event, with_record, with_seat, seat, happens, IsOffered, IsFree, IsLook, Allowed}
use Rattle.state_layout.specs.declared.node.Node.{Node}
use Rattle.pass_ledger.specs.declared.mail.Letter.{Letter}
use Rattle.pass_ledger.specs.declared.mail.Letter.TheVariants.{State, Mark}
use Rattle.pass_ledger.specs.declared.records.PrunedAt.{PrunedAt}
use Rattle.pass_ledger.specs.declared.records.Unsent.{Unsent}
use Rattle.pass_ledger.specs.declared.records.Held.{Held}
use Rattle.pass_ledger.specs.declared.records.FaultHere.{FaultHere}
use Rattle.pass_ledger.specs.declared.records.ShardRecord.{ShardRecord}
use Rattle.pass_ledger.proofs.Costs.{least_trans, self}
use Rattle.pass_ledger.proofs.Lists.{has_none, has_cases, has_head, has_left}
use Rattle.pass_ledger.proofs.Appends.{append_same, append_other, append_cases}
use Rattle.pass_ledger.proofs.Steps.{own_take, own_close, own_prune}
use Rattle.pass_ledger.proofs.Visits.{own_visit}
use Rattle.pass_ledger.proofs.Posts.{own_post}

abbrev pub from_is : ℕ → Letter → Bool
from_is j x = nat_eq (sender x) j

-- the marks of the layer that a shard collects are posted only where it offered what it holds
abbrev pub IsFreed : Pass → Option ℕ → ShardRecord → Type 0
IsFreed p offered r = (j f y t : ℕ) → Has (of r.posted j) (Mark f (length r.rows) y t) → IsOffered p offered r.held

-- what is held is no worse than what was offered
abbrev pub IsKept : Pass → Option ℕ → Option Held → Type 0
IsKept p offered held = (word : ℕ) → offered ≡ Some word → (h : Held) × (held ≡ Some h) × (word_of p h.cost ≤ℤ pos word)

pub record Good (p : Pass) (opening : ℕ) (w : World) : Type 0 where
  pub sizes : (length w.records ≡ p.shards) × (length w.mail ≡ p.shards) × (length w.seats ≡ p.shards)
  pub own : (i : ℕ) → i < p.shards → Own p i (record_of w.records i)
  pub post : (i j : ℕ) → i < p.shards → j < p.shards → of (record_of w.records i).received j ++ filter (from_is j) (of w.mail i) ≡ of (record_of w.records j).posted i
  pub mailed : (i : ℕ) (x : Letter) → i < p.shards → Has (of w.mail i) x → sender x < p.shards
  pub looks : (i : ℕ) → i < p.shards → w.best ≤ (seat w i).looked
  pub prunes : (i : ℕ) (q : PrunedAt) → i < p.shards → Has (record_of w.records i).pruned q → w.best ≤ q.best
  pub opening_above : w.best ≤ opening
  pub offered_above : (i word : ℕ) → i < p.shards → (seat w i).offered ≡ Some word → w.best ≤ word
  pub is_one : (w.best ≡ opening) ⊎ ((i : ℕ) × (i < p.shards) × ((seat w i).offered ≡ Some w.best))
  pub kept : (i : ℕ) → i < p.shards → IsKept p (seat w i).offered (record_of w.records i).held
  pub freed : (i : ℕ) → i < p.shards → IsFreed p (seat w i).offered (record_of w.records i)

-- what holds of a new element and of the others holds of all
pub set_each : {A : Type 0} (P : ℕ → A → Type 0) (xs : List A) (d : A) (i : ℕ) (x : A) (n : ℕ) → length xs ≡ n → i < n → P i x → ((k : ℕ) → k < n → P k (get_or xs k d)) → (k : ℕ) → k < n → P k (get_or (slice_set xs i x) k d)
set_each P xs d i x n size li new old k lk =
    elim (cases_eq k i) [
      | inl e ↦ (let lt : i < length xs = omega arith in
          subst (λ (m : ℕ). P m (get_or (slice_set xs i x) m d)) (sym e) (subst (P i) (sym (get_or-set_same xs i x d lt)) new))
      | inr ne ↦ subst (P k) (sym (get_or-set_other xs i k x d ne)) (old k lk)
    ]

-- a part that a change of one element leaves
pub same_part : {A B : Type 0} (f : A → B) (xs : List A) (d : A) (i : ℕ) (x : A) (n : ℕ) → length xs ≡ n → i < n → f x ≡ f (get_or xs i d) → (k : ℕ) → k < n → f (get_or (slice_set xs i x) k d) ≡ f (get_or xs k d)
same_part {A} {B} f xs d i x n size li same k lk = set_each (λ m (y : A). f y ≡ f (get_or xs m d)) xs d i x n size li same (λ m lm. refl) k lk

-- ---- an event that changes one shard's record, but for what it received and posted

good_record : (p : Pass) (opening : ℕ) (w : World) → Good p opening w → (i : ℕ) → i < p.shards → (r : ShardRecord) → Own p i r → r.received ≡ (record_of w.records i).received → r.posted ≡ (record_of w.records i).posted
    → ((q : PrunedAt) → Has r.pruned q → w.best ≤ q.best) → IsKept p (seat w i).offered r.held → IsFreed p (seat w i).offered r → Good p opening (with_record w i r)
good_record p opening w good i li r own got put prunes kept freed =
    record {
      sizes = (length-set w.records i r ∙ good.sizes.0, good.sizes.1, good.sizes.2);
      own = set_each (λ k (q : ShardRecord). Own p k q) w.records _ i r p.shards good.sizes.0 li own good.own;
      post = λ a b la lb. (
          let x = same_part (λ (q : ShardRecord). q.received) w.records _ i r p.shards good.sizes.0 li got a la in
          let y = same_part (λ (q : ShardRecord). q.posted) w.records _ i r p.shards good.sizes.0 li put b lb in
          ap (λ (l : List (List Letter)). of l b ++ filter (from_is b) (of w.mail a)) x ∙ good.post a b la lb ∙ sym (ap (λ (l : List (List Letter)). of l a) y));
      mailed = good.mailed;
      looks = good.looks;
      prunes = λ k q lk. set_each (λ k (q : ShardRecord). (x : PrunedAt) → Has q.pruned x → w.best ≤ x.best) w.records _ i r p.shards good.sizes.0 li prunes (λ k lk x. good.prunes k x lk) k lk q;
      opening_above = good.opening_above;
      offered_above = good.offered_above;
      is_one = good.is_one;
      kept = set_each (λ k (q : ShardRecord). IsKept p (seat w k).offered q.held) w.records _ i r p.shards good.sizes.0 li kept good.kept;
      freed = set_each (λ k (q : ShardRecord). IsFreed p (seat w k).offered q) w.records _ i r p.shards good.sizes.0 li freed good.freed;
    }

-- ---- an event that changes one shard's seat, but for what it offered

good_seat : (p : Pass) (opening : ℕ) (w : World) → Good p opening w → (i : ℕ) → i < p.shards → (s : Seat) → w.best ≤ s.looked → s.offered ≡ (seat w i).offered → Good p opening (with_seat w i s)
good_seat p opening w good i li s looked same =
    let offered = same_part (λ (x : Seat). x.offered) w.seats _ i s p.shards good.sizes.2 li same in
    record {
      sizes = (good.sizes.0, good.sizes.1, length-set w.seats i s ∙ good.sizes.2);
      own = good.own;
      post = good.post;
      mailed = good.mailed;
      looks = set_each (λ k (x : Seat). w.best ≤ x.looked) w.seats _ i s p.shards good.sizes.2 li looked good.looks;
      prunes = good.prunes;
      opening_above = good.opening_above;
      offered_above = λ k word lk e. good.offered_above k word lk (sym (offered k lk) ∙ e);
      is_one = elim good.is_one [ inl e ↦ inl e | inr h ↦ inr (h.0, h.1, offered h.0 h.1 ∙ h.2) ];
      kept = λ k lk. subst (λ (o : Option ℕ). IsKept p o (record_of w.records k).held) (sym (offered k lk)) (good.kept k lk);
      freed = λ k lk. subst (λ (o : Option ℕ). IsFreed p o (record_of w.records k)) (sym (offered k lk)) (good.freed k lk);
    }

-- ---- an offer

pos_le : (a b : ℕ) → pos a ≤ℤ pos b → a ≤ b
pos_le a b h = omega (arith, ints)

pos_same : (a b : ℕ) → a ≤ b → pos a ≤ℤ pos b
pos_same a b h = omega (arith, ints)

some_word : (a b : ℕ) → Some a ≡ Some b → a ≡ b
some_word a b e = cc

some_held : (a b : Held) → Some a ≡ Some b → a ≡ b
some_held a b e = cc

min_first : (a b : ℕ) → min a b ≤ a
min_first a b = omega arith

min_second : (a b : ℕ) → min a b ≤ b
min_second a b = omega arith

up_to : (a b c : ℕ) → a ≤ b → b ≤ c → a ≤ c
up_to a b c h k = omega arith

min_is_first : (a b : ℕ) → a ≤ b → min a b ≡ a
min_is_first a b h = omega arith

min_is_second : (a b : ℕ) → b < a → min a b ≡ b
min_is_second a b h = omega arith

is_offered : (p : Pass) (word : ℕ) (held : Option Held) (h : Held) → held ≡ Some h → pos word ≡ word_of p h.cost → IsOffered p (Some word) held
is_offered p word held h e same = subst (IsOffered p (Some word)) (sym e) same

equal_word : (p : Pass) (word : ℕ) (h : Held) → pos word ≡ word_of p h.cost → word_of p h.cost ≤ℤ pos word
equal_word p word h e = subst (λ (z : ℤ). z ≤ℤ pos word) e (self (pos word))

-- a shard's later offer is no worse than its earlier one
later_offer : (p : Pass) (offered : Option ℕ) (held : Option Held) (old word : ℕ) (h : Held) → IsKept p offered held → offered ≡ Some old → held ≡ Some h → pos word ≡ word_of p h.cost → word ≤ old
later_offer p offered held old word h kept e f same =
    let k = kept old e in
    let is = some_held k.0 h (sym k.1 ∙ f) in
    pos_le word old (subst (λ (z : ℤ). z ≤ℤ pos old) (sym same) (subst (λ (x : Held). word_of p x.cost ≤ℤ pos old) is k.2))

good_offer : (p : Pass) (opening : ℕ) (w : World) → Good p opening w → (i word : ℕ) → Allowed p w (Event.Offer i word) → Good p opening (happens w (Event.Offer i word))
good_offer p opening w good i word can =
    let li = can.0 in
    let h = can.1.0 in
    let s : Seat = record (seat w i) { offered = Some word } in
    let less = min_first w.best word in
    record {
      sizes = (good.sizes.0, good.sizes.1, length-set w.seats i s ∙ good.sizes.2);
      own = good.own;
      post = good.post;
      mailed = good.mailed;
      looks = set_each (λ k (x : Seat). min w.best word ≤ x.looked) w.seats _ i s p.shards good.sizes.2 li (up_to (min w.best word) w.best (seat w i).looked less (good.looks i li)) (λ k lk. up_to (min w.best word) w.best (seat w k).looked less (good.looks k lk));
      prunes = λ k q lk x. up_to (min w.best word) w.best q.best less (good.prunes k q lk x);
      opening_above = up_to (min w.best word) w.best opening less good.opening_above;
      offered_above = λ k v lk e. set_each (λ k (x : Seat). (v : ℕ) → x.offered ≡ Some v → min w.best word ≤ v) w.seats _ i s p.shards good.sizes.2 li
          (λ v e. subst (λ (u : ℕ). min w.best word ≤ u) (some_word word v e) (min_second w.best word))
          (λ k lk v e. up_to (min w.best word) w.best v less (good.offered_above k v lk e)) k lk v e;
      is_one = elim (cases_lt word w.best) [
        | inl lt ↦ inr (i, li, now ∙ ap Some (sym (min_is_second w.best word lt)))
        | inr ge ↦ elim good.is_one [
          | inl e ↦ inl (min_is_first w.best word ge ∙ e)
          | inr from ↦ elim (cases_eq from.0 i) [
            | inl e ↦
                let was = subst (λ (k : ℕ). (seat w k).offered ≡ Some w.best) e from.2 in
                let le = later_offer p (seat w i).offered (record_of w.records i).held w.best word h (good.kept i li) was can.1.1 can.1.2 in
                inr (i, li, now ∙ ap Some (both word w.best le ge))
            | inr ne ↦ inr (from.0, from.1, ap (λ (x : Seat). x.offered) (get_or-set_other w.seats i from.0 s _ ne) ∙ from.2 ∙ ap Some (sym (min_is_first w.best word ge)))
          ]
        ]
      ];
      kept = set_each (λ k (x : Seat). IsKept p x.offered (record_of w.records k).held) w.seats _ i s p.shards good.sizes.2 li
          (λ v e. (h, can.1.1, subst (λ (u : ℕ). word_of p h.cost ≤ℤ pos u) (some_word word v e) (equal_word p word h can.1.2))) good.kept;
      freed = set_each (λ k (x : Seat). IsFreed p x.offered (record_of w.records k)) w.seats _ i s p.shards good.sizes.2 li
          (λ j f y t m. is_offered p word (record_of w.records i).held h can.1.1 can.1.2) good.freed;
    }
  where
    now : (seat (happens w (Event.Offer i word)) i).offered ≡ Some word
    now = ap (λ (x : Seat). x.offered) (get_or-set_same w.seats i (record (seat w i) { offered = Some word }) _ (subst (λ (n : ℕ). i < n) (sym good.sizes.2) can.0))

    both : (a b : ℕ) → a ≤ b → b ≤ a → a ≡ min b a
    both a b h k = omega arith

-- ---- letters in mailboxes

filter_yes : (test : Letter → Bool) (x : Letter) (xs : List Letter) → test x ≡ true → filter test (x ∷ xs) ≡ x ∷ filter test xs
filter_yes test x xs e = ap (λ (b : Bool). cond b (x ∷ filter test xs) (filter test xs)) e

filter_none : (test : Letter → Bool) (x : Letter) (xs : List Letter) → test x ≡ false → filter test (x ∷ xs) ≡ filter test xs
filter_none test x xs e = ap (λ (b : Bool). cond b (x ∷ filter test xs) (filter test xs)) e

other_sender : (k : ℕ) (x : Letter) → k ≢ sender x → from_is k x ≡ false
other_sender k x ne = ne_eqb (sender x) k (λ s. ne (sym s))

groups_front : (l n : ℕ) (xs ys : List Letter) → InGroups l n (xs ++ ys) → InGroups l n xs
groups_front l n [] ys h = tt
groups_front l n (State f m node ∷ xs) ys h = (h.0, groups_front l (n + 1) xs ys h.1)
groups_front l n (Mark f m y t ∷ xs) ys h = (h.0, h.1, groups_front (l + 1) 0 xs ys h.2)

-- each prefix of a posted list is one
pub posted_front : (m : Model) (xs ys : List Letter) → Posted m (xs ++ ys) → Posted m xs
posted_front m xs ys h =
    record { groups = groups_front 1 0 xs ys h.groups; nodes = λ f l n k. h.nodes f l n (has_left xs ys (State f l n) k) }

good_take : (p : Pass) (opening : ℕ) (w : World) → Good p opening w → (i : ℕ) (x : Letter) (rest : List Letter) → Allowed p w (Event.Take i x rest) → Good p opening (happens w (Event.Take i x rest))
good_take p opening w good i x rest can =
    let li = can.0 in
    let j = sender x in
    let own = good.own i li in
    let mail = can.2 in
    let lj = good.mailed i x li (subst (λ (l : List Letter). Has l x) (sym mail) (0, refl)) in
    let now : of (record_of w.records i).received j ++ x ∷ filter (from_is j) rest ≡ of (record_of w.records j).posted i =
    ap (λ (l : List Letter). of (record_of w.records i).received j ++ l) (sym (ap (filter (from_is j)) mail ∙ filter_yes (from_is j) x rest (eq-eqb j j refl))) ∙ good.post i j li lj in
    let split : (of (record_of w.records i).received j ++ x ∷ []) ++ filter (from_is j) rest ≡ of (record_of w.records j).posted i = append_assoc (of (record_of w.records i).received j) (x ∷ []) (filter (from_is j) rest) ∙ now in
    let lawful = posted_front p.model (of (record_of w.records i).received j ++ x ∷ []) (filter (from_is j) rest) (subst (Posted p.model) (sym split) ((good.own j lj).sends.lawful i)) in
    let taken : CanTake p (record_of w.records i) x = record { from = lj; lawful = lawful } in
    let r = take (record_of w.records i) x in
    let long : j < length (record_of w.records i).received = subst (λ (n : ℕ). j < n) (sym own.sizes.0) lj in
    let mine : (b : ℕ) → b < p.shards → of r.received b ++ filter (from_is b) rest ≡ of (record_of w.records b).posted i =
    λ b lb. elim (cases_eq b j) [
      | inl e ↦ subst (λ (m : ℕ). of r.received m ++ filter (from_is m) rest ≡ of (record_of w.records m).posted i) (sym e)
          (ap (λ (l : List Letter). l ++ filter (from_is j) rest) (append_same (record_of w.records i).received j x long) ∙ split)
      | inr ne ↦ ap (λ (l : List Letter). l ++ filter (from_is b) rest) (append_other (record_of w.records i).received j x b ne)
          ∙ ap (λ (l : List Letter). of (record_of w.records i).received b ++ l) (sym (ap (filter (from_is b)) mail ∙ filter_none (from_is b) x rest (other_sender b x ne)))
          ∙ good.post i b li lb
    ] in
    record {
      sizes = (length-set w.records i r ∙ good.sizes.0, length-set w.mail i rest ∙ good.sizes.1, good.sizes.2);
      own = set_each (λ k (q : ShardRecord). Own p k q) w.records _ i r p.shards good.sizes.0 li (own_take p i (record_of w.records i) own x taken) good.own;
      post = λ a b la lb. (
          let y = same_part (λ (q : ShardRecord). q.posted) w.records _ i r p.shards good.sizes.0 li refl b lb in
          both p opening w good i li rest r a b la lb (mine b lb) ∙ sym (ap (λ (l : List (List Letter)). of l a) y));
      mailed = λ k y lk h. set_each (λ k (l : List Letter). (y : Letter) → Has l y → sender y < p.shards) w.mail [] i rest p.shards good.sizes.1 li
          (λ y h. good.mailed i y li (subst (λ (l : List Letter). Has l y) (sym mail) (suc h.0, h.1))) (λ k lk y h. good.mailed k y lk h) k lk y h;
      looks = good.looks;
      prunes = λ k q lk. set_each (λ k (q : ShardRecord). (x : PrunedAt) → Has q.pruned x → w.best ≤ x.best) w.records _ i r p.shards good.sizes.0 li (λ x. good.prunes i x li) (λ k lk x. good.prunes k x lk) k lk q;
      opening_above = good.opening_above;
      offered_above = good.offered_above;
      is_one = good.is_one;
      kept = set_each (λ k (q : ShardRecord). IsKept p (seat w k).offered q.held) w.records _ i r p.shards good.sizes.0 li (good.kept i li) good.kept;
      freed = set_each (λ k (q : ShardRecord). IsFreed p (seat w k).offered q) w.records _ i r p.shards good.sizes.0 li (good.freed i li) good.freed;
    }
  where
    both : (p : Pass) (opening : ℕ) (w : World) → Good p opening w → (i : ℕ) → i < p.shards → (rest : List Letter) (r : ShardRecord) (a b : ℕ) → a < p.shards → b < p.shards
        → of r.received b ++ filter (from_is b) rest ≡ of (record_of w.records b).posted i → of (record_of (slice_set w.records i r) a).received b ++ filter (from_is b) (of (slice_set w.mail i rest) a) ≡ of (record_of w.records b).posted a
    both p opening w good i li rest r a b la lb mine =
        elim (cases_eq a i) [
          | inl e ↦ subst (λ (m : ℕ). of (record_of (slice_set w.records i r) m).received b ++ filter (from_is b) (of (slice_set w.mail i rest) m) ≡ of (record_of w.records b).posted m) (sym e)
              (let lr : i < length w.records = subst (λ (n : ℕ). i < n) (sym good.sizes.0) li in
              let lm : i < length w.mail = subst (λ (n : ℕ). i < n) (sym good.sizes.1) li in
              ap (λ (q : ShardRecord). of q.received b ++ filter (from_is b) (of (slice_set w.mail i rest) i)) (get_or-set_same w.records i r _ lr)
              ∙ ap (λ (l : List Letter). of r.received b ++ filter (from_is b) l) (get_or-set_same w.mail i rest [] lm)
              ∙ mine)
          | inr ne ↦ ap (λ (q : ShardRecord). of q.received b ++ filter (from_is b) (of (slice_set w.mail i rest) a)) (get_or-set_other w.records i a r _ ne)
              ∙ ap (λ (l : List Letter). of (record_of w.records a).received b ++ filter (from_is b) l) (get_or-set_other w.mail i a rest [] ne)
              ∙ good.post a b la lb
        ]

-- the letters of a sender in a mailbox to which a letter was posted
mail_same : (mail : List (List Letter)) (to : ℕ) (x : Letter) (b : ℕ) → to < length mail → from_is b x ≡ true → filter (from_is b) (of (append_at mail to x) to) ≡ filter (from_is b) (of mail to) ++ x ∷ []
mail_same mail to x b lt e =
    ap (filter (from_is b)) (append_same mail to x lt) ∙ filter-append (from_is b) (of mail to) (x ∷ []) ∙ ap (λ (l : List Letter). filter (from_is b) (of mail to) ++ l) (filter_yes (from_is b) x [] e)

mail_none : (mail : List (List Letter)) (to : ℕ) (x : Letter) (b a : ℕ) → to < length mail → from_is b x ≡ false → filter (from_is b) (of (append_at mail to x) a) ≡ filter (from_is b) (of mail a)
mail_none mail to x b a lt e =
    elim (cases_eq a to) [
      | inl s ↦ subst (λ (m : ℕ). filter (from_is b) (of (append_at mail to x) m) ≡ filter (from_is b) (of mail m)) (sym s)
          (ap (filter (from_is b)) (append_same mail to x lt) ∙ filter-append (from_is b) (of mail to) (x ∷ [])
          ∙ ap (λ (l : List Letter). filter (from_is b) (of mail to) ++ l) (filter_none (from_is b) x [] e) ∙ append-nil (filter (from_is b) (of mail to)))
      | inr ne ↦ ap (filter (from_is b)) (append_other mail to x a ne)
    ]

-- of the sender that posts
post_mine : (mail posted : List (List Letter)) (to : ℕ) (x : Letter) (i a : ℕ) (got : List Letter) → to < length mail → to < length posted → from_is i x ≡ true
    → got ++ filter (from_is i) (of mail a) ≡ of posted a → got ++ filter (from_is i) (of (append_at mail to x) a) ≡ of (append_at posted to x) a
post_mine mail posted to x i a got lm lp e h =
    elim (cases_eq a to) [
      | inl s ↦ subst (λ (m : ℕ). got ++ filter (from_is i) (of (append_at mail to x) m) ≡ of (append_at posted to x) m) (sym s)
          (let h' : got ++ filter (from_is i) (of mail to) ≡ of posted to = subst (λ (m : ℕ). got ++ filter (from_is i) (of mail m) ≡ of posted m) s h in
          ap (λ (l : List Letter). got ++ l) (mail_same mail to x i lm e) ∙ sym (append_assoc got (filter (from_is i) (of mail to)) (x ∷ [])) ∙ ap (λ (l : List Letter). l ++ x ∷ []) h' ∙ sym (append_same posted to x lp))
      | inr ne ↦ ap (λ (l : List Letter). got ++ filter (from_is i) l) (append_other mail to x a ne) ∙ h ∙ sym (append_other posted to x a ne)
    ]

good_post : (p : Pass) (opening : ℕ) (w : World) → Good p opening w → (i to : ℕ) (x : Letter) (rest : List Unsent) → Allowed p w (Event.Post i to x rest) → Good p opening (happens w (Event.Post i to x rest))
good_post p opening w good i to x rest can =
    let li = can.0 in
    let free = can.1 in
    let lt = can.2.receiver in
    let own = good.own i li in
    let r = post (record_of w.records i) to x rest in
    let lm : to < length w.mail = subst (λ (n : ℕ). to < n) (sym good.sizes.1) lt in
    let lp : to < length (record_of w.records i).posted = subst (λ (n : ℕ). to < n) (sym own.sizes.1) lt in
    let lr : i < length w.records = subst (λ (n : ℕ). i < n) (sym good.sizes.0) li in
    let signed : from_is i x ≡ true = eq-eqb (sender x) i can.2.signed in
    record {
      sizes = (length-set w.records i r ∙ good.sizes.0, length-set w.mail to (of w.mail to ++ x ∷ []) ∙ good.sizes.1, good.sizes.2);
      own = set_each (λ k (q : ShardRecord). Own p k q) w.records _ i r p.shards good.sizes.0 li (own_post p i (record_of w.records i) own to x rest can.2) good.own;
      post = λ a b la lb. (
          let y = same_part (λ (q : ShardRecord). q.received) w.records _ i r p.shards good.sizes.0 li refl a la in
          ap (λ (l : List (List Letter)). of l b ++ filter (from_is b) (of (append_at w.mail to x) a)) y ∙ elim (cases_eq b i) [
            | inl e ↦ subst (λ (m : ℕ). of (record_of w.records a).received m ++ filter (from_is m) (of (append_at w.mail to x) a) ≡ of (record_of (slice_set w.records i r) m).posted a) (sym e)
                (post_mine w.mail (record_of w.records i).posted to x i a (of (record_of w.records a).received i) lm lp signed (good.post a i la li) ∙ sym (ap (λ (q : ShardRecord). of q.posted a) (get_or-set_same w.records i r _ lr)))
            | inr ne ↦ ap (λ (l : List Letter). of (record_of w.records a).received b ++ l) (mail_none w.mail to x b a lm (other_sender b x (λ e. ne (e ∙ can.2.signed))))
                ∙ good.post a b la lb ∙ sym (ap (λ (q : ShardRecord). of q.posted a) (get_or-set_other w.records i b r _ ne))
          ]);
      mailed = λ k y lk h. elim (append_cases w.mail to x k y h) [
        | inl old ↦ good.mailed k y lk old
        | inr new ↦ subst (λ (z : Letter). sender z < p.shards) new.1 (subst (λ (n : ℕ). n < p.shards) (sym can.2.signed) li)
      ];
      looks = good.looks;
      prunes = λ k q lk. set_each (λ k (q : ShardRecord). (x : PrunedAt) → Has q.pruned x → w.best ≤ x.best) w.records _ i r p.shards good.sizes.0 li (λ x. good.prunes i x li) (λ k lk x. good.prunes k x lk) k lk q;
      opening_above = good.opening_above;
      offered_above = good.offered_above;
      is_one = good.is_one;
      kept = set_each (λ k (q : ShardRecord). IsKept p (seat w k).offered q.held) w.records _ i r p.shards good.sizes.0 li (good.kept i li) good.kept;
      freed = set_each (λ k (q : ShardRecord). IsFreed p (seat w k).offered q) w.records _ i r p.shards good.sizes.0 li (λ j f y t m. free) good.freed;
    }

-- ---- looks and visits

good_pruned : (p : Pass) (opening : ℕ) (w : World) → Good p opening w → (i : ℕ) (n : Node) (rest : List Node) → (i < p.shards) × IsFree p w i × ((record_of w.records i).fault ≡ None) × ((record_of w.records i).waiting ≡ n ∷ rest) × IsLook p w.best n true
    → Good p opening (with_record w i (prune (record_of w.records i) n rest w.best))
good_pruned p opening w good i n rest can =
    good_record p opening w good i can.0 (prune (record_of w.records i) n rest w.best)
    (own_prune p i (record_of w.records i) (good.own i can.0) n rest w.best (record { fine = can.2; first = can.3; prunes = can.4 })) refl refl
    (λ q h. elim (has_cases (record_of w.records i).pruned (record { node = n; best = w.best } ∷ []) q h) [
      | inl a ↦ good.prunes i q can.0 a
      | inr b ↦ elim (has_head (record { node = n; best = w.best }) [] q b) [
        | inl e ↦ subst (λ (x : PrunedAt). w.best ≤ x.best) e (at_most w.best)
        | inr none ↦ absurd (has_none q none)
      ]
    ]) (good.kept i can.0) (λ j f y t m. can.1)
  where
    at_most : (a : ℕ) → a ≤ a
    at_most a = omega arith

some_waits : (waiting : List Node) (n : Node) (rest : List Node) → waiting ≡ n ∷ rest → waiting ≡ [] → ⊥
some_waits waiting n rest e f = let clash : [] ≡ n ∷ rest = sym f ∙ e in cc

reaches_some : (p : Pass) (held : Option Held) (total : ℤ) → Reaches p held total → (h : Held) × (held ≡ Some h) × (word_of p h.cost ≤ℤ word_of p total)
reaches_some p None total r = absurd r
reaches_some p (Some h) total r = (h, refl, r)

kept_after : (p : Pass) (offered : Option ℕ) (held after : Option Held) → ((total : ℤ) → Reaches p held total → Reaches p after total) → IsKept p offered held → IsKept p offered after
kept_after p offered held after no_worse kept word e =
    let k = kept word e in
    let r = reaches_some p after k.0.cost (no_worse k.0.cost (subst (λ (o : Option Held). Reaches p o k.0.cost) (sym k.1) (self (word_of p k.0.cost)))) in
    (r.0, r.1, least_trans (word_of p r.0.cost) (word_of p k.0.cost) (pos word) r.2 k.2)

good_visit : (p : Pass) (opening : ℕ) (w : World) → Good p opening w → (i l : ℕ) (n : Node) (rest : List Node) (made : List Unsent) (prunes : List PrunedAt) (held : Option Held) (fault : Option FaultHere) → i < p.shards
    → CanVisit p i (record_of w.records i) l n rest made prunes held fault → ((q : PrunedAt) → Has prunes q → q.best ≡ (seat w i).looked)
    → Good p opening (with_record w i (visit (record_of w.records i) l n rest made prunes held fault))
good_visit p opening w good i l n rest made prunes held fault li can by_looked =
    good_record p opening w good i li (visit (record_of w.records i) l n rest made prunes held fault)
    (own_visit p i (record_of w.records i) (good.own i li) l n rest made prunes held fault can) refl refl
    (λ q h. elim (has_cases (record_of w.records i).pruned prunes q h) [ inl a ↦ good.prunes i q li a | inr b ↦ subst (λ (v : ℕ). w.best ≤ v) (sym (by_looked q b)) (good.looks i li) ])
    (kept_after p (seat w i).offered (record_of w.records i).held held can.no_worse (good.kept i li))
    (λ j f y t m. absurd (some_waits (record_of w.records i).waiting n rest can.first ((good.own i li).marks.visited j f (length (record_of w.records i).rows) y t m refl).0))

-- ---- each event keeps it

abbrev pub drew : World → ℕ → Seat
drew w i = record (seat w i) { turn = Turn.Drew w.drawn; late = (seat w i).late + (if nat_lt w.drawn w.budget then 0 else 1) }

pub kept : (p : Pass) (opening : ℕ) (w : World) → Good p opening w → (e : Event) → Allowed p w e → Good p opening (happens w e)
kept p opening w good (Event.Take i x rest) can = good_take p opening w good i x rest can
kept p opening w good (Event.Close i new) can =
    good_record p opening w good i can.0 (close (record_of w.records i) new) (own_close p i (record_of w.records i) (good.own i can.0) new can.2) refl refl (λ q. good.prunes i q can.0) (good.kept i can.0) (λ j f y t m. can.1)
kept p opening w good (Event.Look i n rest true) can =
    good_seat p opening (with_record w i (prune (record_of w.records i) n rest w.best)) (good_pruned p opening w good i n rest can) i can.0 (record (seat w i) { looked = w.best; turn = Turn.Idle }) (at_most w.best) refl
  where
    at_most : (a : ℕ) → a ≤ a
    at_most a = omega arith
kept p opening w good (Event.Look i n rest false) can = good_seat p opening w good i can.0 (record (seat w i) { looked = w.best; turn = Turn.Looked }) (at_most w.best) refl
  where
    at_most : (a : ℕ) → a ≤ a
    at_most a = omega arith
kept p opening w good (Event.Draw i) can =
    let new = good_seat p opening w good i can.0 (drew w i) (good.looks i can.0) refl in
    record { sizes = new.sizes; own = new.own; post = new.post; mailed = new.mailed; looks = new.looks; prunes = new.prunes; opening_above = new.opening_above; offered_above = new.offered_above; is_one = new.is_one; kept = new.kept; freed = new.freed }
kept p opening w good (Event.Visit i l n rest made prunes held fault) can =
    good_seat p opening (with_record w i (visit (record_of w.records i) l n rest made prunes held fault)) (good_visit p opening w good i l n rest made prunes held fault can.0 can.3 can.4) i can.0 (record (seat w i) { turn = Turn.Idle }) (good.looks i can.0) refl
kept p opening w good (Event.Offer i word) can = good_offer p opening w good i word can
kept p opening w good (Event.Post i to x rest) can = good_post p opening w good i to x rest can
kept p opening w good (Event.Halt i cause) can =
    record { sizes = good.sizes; own = good.own; post = good.post; mailed = good.mailed; looks = good.looks; prunes = good.prunes; opening_above = good.opening_above; offered_above = good.offered_above; is_one = good.is_one; kept = good.kept; freed = good.freed }
kept p opening w good (Event.Seen i) can = good
