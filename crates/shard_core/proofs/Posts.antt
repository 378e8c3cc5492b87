-- A shard that hands out a letter stands for the record that posted it.
use Rattle.std.proofs.Common.{◌≡◌, ℕ, ◌+◌, ◌^◌, ◌≤◌, ◌<◌, ◌⊎◌, inl, inr, List, [], ◌∷◌, ◌++◌, length, get_or, slice_set, refl, sym, subst, ◌∙◌, ap, arith}
use Rattle.std.specs.List.{sum_by}
use Rattle.std.proofs.lemmas.Bool.{cases_eq, cases_lt}
use Rattle.std.proofs.lemmas.List.{length-set, get_or-set_same, get_or-set_other}
use Rattle.std.proofs.lemmas.List.Sums.{sum_by-cons, get_or-le-sum_by}
use Rattle.std.specs.declared.alloc.Global.{Global}
use Rattle.std.specs.declared.collections.VecDeque.{VecDeque}
use Rattle.std.specs.declared.vec.Vec.{Vec}
use Rattle.dp_claims.specs.Enough.{Has}
use Rattle.state_layout.specs.Conditions.{IsNodeFor}
use Rattle.state_layout.specs.Signatures.{owner_of}
use Rattle.state_layout.specs.declared.node.Node.{Node}
use Rattle.pass_ledger.specs.Events.{append_at, CanPost}
use Rattle.pass_ledger.specs.Groups.{unfinished}
use Rattle.pass_ledger.specs.Letters.{of, is_at, states_at}
use Rattle.pass_ledger.specs.Passes.{Pass}
use Rattle.pass_ledger.specs.Records.{unsent}
use Rattle.pass_ledger.specs.declared.mail.Letter.{Letter}
use Rattle.pass_ledger.specs.declared.mail.Letter.TheVariants.{State, Mark}
use Rattle.pass_ledger.specs.declared.records.ShardRecord.{ShardRecord}
use Rattle.pass_ledger.specs.declared.records.Unsent.{Unsent}
use Rattle.pass_ledger.proofs.Lists.{has_none}
use Rattle.pass_ledger.proofs.Appends.{append_same, append_other, count_more, at_one}
use Rattle.pass_ledger.proofs.Groups.{next, grows, marks, states}
use Rattle.pass_ledger.proofs.Posts.{own_post}
use Rattle.shard_core.specs.Calls.{IsPosting, IsQuiet}
use Rattle.shard_core.specs.Outgoing.{letter_of, letters_of}
use Rattle.shard_core.specs.Stands.{Stands, Outbox}
use Rattle.shard_core.specs.declared.shard.Shard.{Shard}
use Rattle.shard_core.proofs.Closes.{unfinished_from}

abbrev first : ℕ × ℕ → ℕ
first p = p.0

one_more : (f : Letter → ℕ) (xs : List Letter) (x : Letter) → sum_by f (xs ++ x ∷ []) ≡ sum_by f xs + f x
one_more f [] x = let a = sum_by-cons f x [] in omega (arith, a)
one_more f (y ∷ xs) x = let a = one_more f xs x in let b = sum_by-cons f y (xs ++ x ∷ []) in let c = sum_by-cons f y xs in omega (arith, a, b, c)

pub head_of : {A : Type 0} (xs : List A) (x : A) (rest : List A) → xs ≡ x ∷ rest → Has xs x
head_of xs x rest e = subst (λ (ys : List _). Has ys x) (sym e) (0, refl)

module _ {A B : Type 0} where
  -- while a letter or a node is there, no mark of the layer was handed out
  untold : (p : Pass) (s : Shard A B) (r : ShardRecord) → Stands p s r → ((s.letters.items ≡ []) × (s.waiting.items ≡ []) → ⊥) → s.told ≡ 0
  untold p s r st some = elim (cases_lt 0 s.told) [ inl pos ↦ absurd (some (st.outbox.held_back pos)) | inr low ↦ omega (arith, low) ]

  -- the mark of the layer was posted to a shard that was told
  pub mark_posted : (p : Pass) (s : Shard A B) (r : ShardRecord) → Stands p s r → 1 ≤ s.layer → (j : ℕ) → j < s.told → (to_you : ℕ) × (total : ℕ) × Has (of r.posted j) (Mark s.me s.layer to_you total)
  mark_posted p s r st pos j below =
      let e = ap first (st.outbox.told_are j below) in
      let m = (marks (of r.posted j) (st.ends.1.own.sends.lawful j).groups).0 s.layer pos (omega (arith, e)) in
      let name : m.0 ≡ s.me = st.ends.1.own.sends.signed j (Mark m.0 s.layer m.1 m.2) m.3 in
      (m.1, m.2, subst (λ (f : ℕ). Has (of r.posted j) (Mark f s.layer m.1 m.2)) name m.3)

  -- the first letter is one of the record's
  first_letter : (p : Pass) (s : Shard A B) (r : ShardRecord) → Stands p s r → (n : Node) (rest : List Node) → s.letters.items ≡ n ∷ rest → r.unsent ≡ letter_of s.layout s.shards n ∷ letters_of s.layout s.shards rest
  first_letter p s r st n rest head = sym st.letters ∙ ap (letters_of s.layout s.shards) head

  -- its node is in order, and its receiver a shard
  pub first_fits : (p : Pass) (s : Shard A B) (r : ShardRecord) → Stands p s r → (n : Node) (rest : List Node) → s.letters.items ≡ n ∷ rest → IsNodeFor s.layout n
  first_fits p s r st n rest head =
      let u = letter_of s.layout s.shards n in
      (p.model, st.belongs.layout_is, (st.ends.1.own.sends.unsent_lawful u (head_of r.unsent u (letters_of s.layout s.shards rest) (first_letter p s r st n rest head))).is_node)

  first_receiver : (p : Pass) (s : Shard A B) (r : ShardRecord) → Stands p s r → (n : Node) → owner_of s.layout n.state s.shards < p.shards
  first_receiver p s r st n = subst (λ (k : ℕ). k < p.shards) (sym (st.belongs.owner n.state)) (p.owned n.state)

  -- while a letter is there fewer were handed out to its receiver than were made, so that one more can be counted
  pub first_few : (p : Pass) (s : Shard A B) (r : ShardRecord) → Stands p s r → (n : Node) (rest : List Node) → s.letters.items ≡ n ∷ rest → get_or s.sent.items (owner_of s.layout n.state s.shards) 0 + 1 < 2 ^ 64
  first_few p s r st n rest head =
      let to = owner_of s.layout n.state s.shards in
      let lt = first_receiver p s r st n in
      let z = st.ends.1.own.sizes.1 in
      let a = st.outbox.sent_are to lt in
      let b = get_or-le-sum_by (states_at s.layer) r.posted to [] (omega (arith, lt, z)) in
      let c = st.outbox.total_is in
      let d = ap length head in
      let e = st.outbox.total_fits in
      omega (arith, a, b, c, d, e)

  pub posted_state : (p : Pass) (s : Shard A B) (r : ShardRecord) → Stands p s r → (n : Node) (rest : List Node) → s.letters.items ≡ n ∷ rest → (letters' : VecDeque Node Global) → letters'.items ≡ rest → (to : ℕ) → to ≡ owner_of s.layout n.state s.shards
      → (sent' : Vec ℕ Global) → sent'.items ≡ slice_set s.sent.items to (get_or s.sent.items to 0 + 1) → IsPosting p s.me r to (State s.me s.layer n) (record s { letters = letters'; sent = sent' })
  posted_state p s r st n rest head letters' lis to owner sent' sis =
      record {
        rest = letters_of s.layout s.shards rest;
        can = can;
        stands = record {
          belongs = st.belongs;
          ends = (
            st.ends.0,
            record {
              own = own_post p s.me r st.ends.1.own to x (letters_of s.layout s.shards rest) can;
              log_is = st.ends.1.log_is;
              visited_is = st.ends.1.visited_is;
              held_is = st.ends.1.held_is;
              fault_is = st.ends.1.fault_is;
              dropped_is = st.ends.1.dropped_is;
              floor_is = st.ends.1.floor_is;
            },
          );
          fine = st.fine;
          start = st.start;
          layer = st.layer;
          begun = st.begun;
          waiting = st.waiting;
          letters = ap (letters_of s.layout s.shards) lis;
          intake = st.intake;
          collects = st.collects;
          past = st.past;
          outbox = subst (λ (ns : List Node). Outbox p s.layer s.waiting.items ns s.told sent'.items s.total (append_at r.posted to x)) (sym lis) box;
        };
      }
    where
      x : Letter
      x = State s.me s.layer n

      unsent_is : r.unsent ≡ unsent to n ∷ letters_of s.layout s.shards rest
      unsent_is = first_letter p s r st n rest head ∙ ap (λ (k : ℕ). unsent k n ∷ letters_of s.layout s.shards rest) (sym owner)

      there : Has r.unsent (unsent to n)
      there = head_of r.unsent (unsent to n) (letters_of s.layout s.shards rest) unsent_is

      lt : to < p.shards
      lt = subst (λ (k : ℕ). k < p.shards) (sym owner) (first_receiver p s r st n)

      plt : to < length r.posted
      plt = let z = st.ends.1.own.sizes.1 in omega (arith, lt, z)

      slt : to < length s.sent.items
      slt = let z = st.outbox.long in omega (arith, lt, z)

      none : s.told ≡ 0
      none = untold p s r st (λ h. (let e : n ∷ rest ≡ [] = sym head ∙ h.0 in cc))

      open_at : (j : ℕ) → j < p.shards → (unfinished (1, 0) (of r.posted j)).0 ≡ s.layer
      open_at j jt = st.outbox.open_are j (let z = none in omega (arith, z)) jt

      can : CanPost p s.me r to x (letters_of s.layout s.shards rest)
      can = record {
        receiver = lt;
        signed = refl;
        in_groups = ((next p.model (of r.posted to) x).0 (st.ends.1.own.sends.lawful to) (sym (open_at to lt)) (st.ends.1.own.sends.unsent_lawful (unsent to n) there)).groups;
        letter = (st.layer, [], letters_of s.layout s.shards rest, unsent_is, refl);
      }

      same : of (append_at r.posted to x) to ≡ of r.posted to ++ x ∷ []
      same = append_same r.posted to x plt

      at_x : is_at s.layer x ≡ 1
      at_x = at_one s.layer s.layer s.me n refl

      sent_to : get_or sent'.items to 0 ≡ states_at s.layer (of (append_at r.posted to x) to)
      sent_to =
          let a = ap (λ (xs : List ℕ). get_or xs to 0) sis ∙ get_or-set_same s.sent.items to (get_or s.sent.items to 0 + 1) 0 slt in
          let b = st.outbox.sent_are to lt in
          let c = ap (states_at s.layer) same ∙ one_more (is_at s.layer) (of r.posted to) x in
          let d = at_x in
          omega (arith, a, b, c, d)

      sent_other : (j : ℕ) → j < p.shards → (j ≡ to → ⊥) → get_or sent'.items j 0 ≡ states_at s.layer (of (append_at r.posted to x) j)
      sent_other j jt ne =
          ap (λ (xs : List ℕ). get_or xs j 0) sis
          ∙ (get_or-set_other s.sent.items to j (get_or s.sent.items to 0 + 1) 0 ne ∙ (st.outbox.sent_are j jt ∙ sym (ap (states_at s.layer) (append_other r.posted to x j ne))))

      box : Outbox p s.layer s.waiting.items rest s.told sent'.items s.total (append_at r.posted to x)
      box = record {
        few = st.outbox.few;
        long = ap length sis ∙ (length-set s.sent.items to (get_or s.sent.items to 0 + 1) ∙ st.outbox.long);
        told_are = λ j below. absurd (let z = none in omega (arith, z, below));
        open_are = λ j _ jt. elim (cases_eq j to) [
          | inl e ↦ subst (λ (k : ℕ). (unfinished (1, 0) (of (append_at r.posted to x) k)).0 ≡ s.layer) (sym e) (ap (λ (xs : List Letter). (unfinished (1, 0) xs).0) same ∙ ap first (grows (1, 0) (of r.posted to) x) ∙ open_at to lt)
          | inr ne ↦ ap (λ (xs : List Letter). (unfinished (1, 0) xs).0) (append_other r.posted to x j ne) ∙ open_at j jt
        ];
        sent_are = λ j jt. elim (cases_eq j to) [
          | inl e ↦ subst (λ (k : ℕ). get_or sent'.items k 0 ≡ states_at s.layer (of (append_at r.posted to x) k)) (sym e) sent_to
          | inr ne ↦ sent_other j jt ne
        ];
        total_is = (let a = count_more r.posted to x s.layer plt in let b = at_x in let c = st.outbox.total_is in let d = ap length head in omega (arith, a, b, c, d));
        total_fits = st.outbox.total_fits;
        held_back = λ pos. absurd (let z = none in omega (arith, z, pos));
      }

  pub posted_mark : (p : Pass) (s : Shard A B) (r : ShardRecord) → Stands p s r → s.letters.items ≡ [] → s.waiting.items ≡ [] → s.told < p.shards → (letters' : VecDeque Node Global) → letters'.items ≡ []
      → IsPosting p s.me r s.told (Mark s.me s.layer (get_or s.sent.items s.told 0) s.total) (record s { letters = letters'; told = s.told + 1 })
  posted_mark p s r st empty idle lt letters' lis =
      record {
        rest = r.unsent;
        can = can;
        stands = record {
          belongs = st.belongs;
          ends = (
            st.ends.0,
            record {
              own = own_post p s.me r st.ends.1.own s.told x r.unsent can;
              log_is = st.ends.1.log_is;
              visited_is = st.ends.1.visited_is;
              held_is = st.ends.1.held_is;
              fault_is = st.ends.1.fault_is;
              dropped_is = st.ends.1.dropped_is;
              floor_is = st.ends.1.floor_is;
            },
          );
          fine = st.fine;
          start = st.start;
          layer = st.layer;
          begun = st.begun;
          waiting = st.waiting;
          letters = ap (letters_of s.layout s.shards) (lis ∙ sym empty) ∙ st.letters;
          intake = st.intake;
          collects = st.collects;
          past = st.past;
          outbox = subst (λ (ns : List Node). Outbox p s.layer s.waiting.items ns (s.told + 1) s.sent.items s.total (append_at r.posted s.told x)) (sym lis) box;
        };
      }
    where
      x : Letter
      x = Mark s.me s.layer (get_or s.sent.items s.told 0) s.total

      plt : s.told < length r.posted
      plt = let z = st.ends.1.own.sizes.1 in omega (arith, lt, z)

      unsent_is : r.unsent ≡ []
      unsent_is = sym st.letters ∙ ap (letters_of s.layout s.shards) empty

      open_at : (unfinished (1, 0) (of r.posted s.told)).0 ≡ s.layer
      open_at = st.outbox.open_are s.told (omega arith) lt

      count_is : get_or s.sent.items s.told 0 ≡ (unfinished (1, 0) (of r.posted s.told)).1
      count_is = st.outbox.sent_are s.told lt ∙ (ap (λ (l : ℕ). states_at l (of r.posted s.told)) (sym open_at) ∙ states (of r.posted s.told) (st.ends.1.own.sends.lawful s.told).groups)

      can : CanPost p s.me r s.told x r.unsent
      can = record {
        receiver = lt;
        signed = refl;
        in_groups = ((next p.model (of r.posted s.told) x).0 (st.ends.1.own.sends.lawful s.told) (sym open_at, count_is) tt).groups;
        letter = record {
          fine = st.fine;
          idle = sym st.waiting ∙ idle;
          layer = st.layer;
          none_left = λ u h _. has_none u (subst (λ (us : List Unsent). Has us u) unsent_is h);
          total_is = (let a = st.outbox.total_is in let b = ap length empty in let c = ap length unsent_is in omega (arith, a, b, c));
          same = refl;
        };
      }

      same : of (append_at r.posted s.told x) s.told ≡ of r.posted s.told ++ x ∷ []
      same = append_same r.posted s.told x plt

      box : Outbox p s.layer s.waiting.items [] (s.told + 1) s.sent.items s.total (append_at r.posted s.told x)
      box = record {
        few = omega (arith, lt);
        long = st.outbox.long;
        told_are = λ j below. elim (cases_eq j s.told) [
          | inl e ↦ subst (λ (k : ℕ). unfinished (1, 0) (of (append_at r.posted s.told x) k) ≡ (s.layer + 1, 0)) (sym e)
              (ap (unfinished (1, 0)) same ∙ grows (1, 0) (of r.posted s.told) x ∙ ap (λ (l : ℕ). (l + 1, 0)) open_at)
          | inr ne ↦ ap (unfinished (1, 0)) (append_other r.posted s.told x j ne) ∙ st.outbox.told_are j (omega (arith, below, ne))
        ];
        open_are = λ j ge jt. ap (λ (xs : List Letter). (unfinished (1, 0) xs).0) (append_other r.posted s.told x j (λ e. omega (arith, e, ge))) ∙ st.outbox.open_are j (omega (arith, ge)) jt;
        sent_are = λ j jt. elim (cases_eq j s.told) [
          | inl e ↦ (let a = st.outbox.sent_are j jt in
              let c : states_at s.layer (of (append_at r.posted s.told x) j) ≡ states_at s.layer (of r.posted j) + 0 =
              subst (λ (k : ℕ). states_at s.layer (of (append_at r.posted s.told x) k) ≡ states_at s.layer (of r.posted k) + 0) (sym e) (ap (states_at s.layer) same ∙ one_more (is_at s.layer) (of r.posted s.told) x) in
              omega (arith, a, c))
          | inr ne ↦ st.outbox.sent_are j jt ∙ sym (ap (states_at s.layer) (append_other r.posted s.told x j ne))
        ];
        total_is = (let a = count_more r.posted s.told x s.layer plt in let c = st.outbox.total_is in let d = ap length empty in omega (arith, a, c, d));
        total_fits = st.outbox.total_fits;
        held_back = λ _. (refl, idle);
      }

  pub posted_next : (p : Pass) (s : Shard A B) (r : ShardRecord) → Stands p s r → s.letters.items ≡ [] → s.waiting.items ≡ [] → s.told < p.shards → (letters' : VecDeque Node Global) → letters'.items ≡ [] → (count : ℕ) → count ≡ get_or s.sent.items s.told 0
      → IsPosting p s.me r s.told (Mark s.me s.layer count s.total) (record s { letters = letters'; told = s.told + 1 })
  posted_next p s r st empty idle lt letters' lis count is =
      subst (λ (k : ℕ). IsPosting p s.me r s.told (Mark s.me s.layer k s.total) (record s { letters = letters'; told = s.told + 1 })) (sym is) (posted_mark p s r st empty idle lt letters' lis)

  -- where no letter was there, none is
  pub still : (p : Pass) (s : Shard A B) (r : ShardRecord) → Stands p s r → (letters' : VecDeque Node Global) → letters'.items ≡ s.letters.items → Stands p (record s { letters = letters' }) r
  still p s r st letters' e =
      record {
        belongs = st.belongs;
        ends = st.ends;
        fine = st.fine;
        start = st.start;
        layer = st.layer;
        begun = st.begun;
        waiting = st.waiting;
        letters = ap (letters_of s.layout s.shards) e ∙ st.letters;
        intake = st.intake;
        collects = st.collects;
        past = st.past;
        outbox = subst (λ (ns : List Node). Outbox p s.layer s.waiting.items ns s.told s.sent.items s.total r.posted) (sym e) st.outbox;
      }

  -- nothing can be handed out
  pub quiet : (p : Pass) (s : Shard A B) (r : ShardRecord) → Stands p s r → s.letters.items ≡ [] → (0 < length s.waiting.items) ⊎ (p.shards ≤ s.told) → IsQuiet p s.me r
  quiet p s r st empty (inl waits) = record { sent = sym st.letters ∙ ap (letters_of s.layout s.shards) empty; marks = inr (inl (subst (λ (ns : List Node). 0 < length ns) st.waiting waits)) }
  quiet p s r st empty (inr told) = record {
    sent = sym st.letters ∙ ap (letters_of s.layout s.shards) empty;
    marks = elim (cases_lt 0 s.layer) [
      | inl pos ↦ inr (inr (λ j jt. subst (λ (l : ℕ). (to_you : ℕ) × (total : ℕ) × Has (of r.posted j) (Mark s.me l to_you total)) st.layer (mark_posted p s r st pos j (omega (arith, told, jt)))))
      | inr low ↦ inl (let z = st.layer in omega (arith, z, low))
    ];
  }

  pub not_quiet_state : (p : Pass) (s : Shard A B) (r : ShardRecord) → Stands p s r → (n : Node) (rest : List Node) → s.letters.items ≡ n ∷ rest → IsQuiet p s.me r → ⊥
  not_quiet_state p s r st n rest head q = let e : letter_of s.layout s.shards n ∷ letters_of s.layout s.shards rest ≡ [] = sym (first_letter p s r st n rest head) ∙ q.sent in cc

  pub not_quiet_mark : (p : Pass) (s : Shard A B) (r : ShardRecord) → Stands p s r → s.waiting.items ≡ [] → s.told < p.shards → IsQuiet p s.me r → ⊥
  not_quiet_mark p s r st idle lt q =
      let open_at = st.outbox.open_are s.told (omega arith) lt in
      elim q.marks [
        | inl none ↦ (let a = unfinished_from (1, 0) (of r.posted s.told) in let z = st.layer in omega (arith, a, z, none, open_at))
        | inr other ↦ elim other [
          | inl waits ↦ (let e : length r.waiting ≡ 0 = ap length (sym st.waiting ∙ idle) in omega (arith, e, waits))
          | inr told ↦ (let m = told s.told lt in
              let past = (marks (of r.posted s.told) (st.ends.1.own.sends.lawful s.told).groups).1 s.me (length r.rows) m.0 m.1 m.2 in
              let z = st.layer in omega (arith, past, z, open_at))
        ]
      ]
