-- Nodes that others cover may be left out: what is left covers the same.
use Rattle.std.proofs.Common.{◌≡◌, ℕ, ◌+◌, zero, suc, take, arith, Bool, true, false, ◌||◌, List, [], ◌∷◌, ◌++◌, Option, Some, None, Result, Ok, Err, refl, sym, ap, subst, ◌∙◌, append_assoc}
use Rattle.std.specs.Prelude.{ℤ, if◌then◌else◌, OnOk}
use Rattle.std.proofs.lemmas.List.{append-nil}
use Rattle.std.proofs.lemmas.List.Folds.{list_any-append}
use Rattle.dp_model.specs.StepTexts.{ground_of}
use Rattle.dp_model.specs.declared.answers.Keep.{Keep}
use Rattle.dp_model.specs.declared.answers.Keep.TheVariants.{Layer, All}
use Rattle.dp_model.specs.declared.parts.PlainState.{PlainState}
use Rattle.dp_model.specs.declared.parts.Transition.{Transition}
use Rattle.dp_model.specs.declared.whole.Model.{Model}
use Rattle.state_layout.specs.Slots.{slots_of}
use Rattle.dom_store.specs.Covering.{bare}
use Rattle.dom_store.specs.Laws.{transitive}
use Rattle.dom_store.specs.Past.{covers_past}
use Rattle.dom_store.specs.declared.past_node.PastNode.{PastNode}
use Rattle.replay_list.specs.declared.replayed.Reached.{Reached}
use Rattle.spot_eval.specs.Looks.{looked_at}
use Rattle.spot_eval.specs.Moves.{may_step_at}
use Rattle.spot_eval.specs.declared.ends.SpotFault.{SpotFault}
use Rattle.spot_eval.specs.declared.looks.Look.{Look}
use Rattle.spot_eval.specs.declared.looks.Look.TheVariants as looks
use Rattle.cert_types.specs.declared.cert.Cert.{Cert}
use Rattle.cert_types.specs.declared.nodes.CertNode.{CertNode}
use Rattle.cert_laws.specs.Checks.{covering, cut_fails, first_of, if_stands, is_covered, is_high, looked_fails, moved, must, step_fails, step_fails_if, successor_fails, taken_fails, unless_fault}
use Rattle.cert_laws.specs.declared.answers.CertReason.{CertReason}
use Rattle.cert_laws.specs.declared.answers.CertReason.TheVariants as reasons
use Rattle.cert_laws.specs.PartChecks.{node_fails_in, part_fails_at}
use Rattle.cert_types.specs.Places.{nodes_before}
use Rattle.cert_check.specs.Looked.{AreFound, CoverAlike, found, has_in_layer, kept_before, pasts, with_new}
use Rattle.cert_check.specs.declared.shares.Share.{Share}
use Rattle.cert_check.specs.declared.standings.Standing.{Standing}
use Rattle.cert_check.proofs.Rows.{fails_at}
use Rattle.std.specs.Prelude.{slice_get}

-- ---- one node more

or_nothing : (b : Bool) → (b || false) ≡ b
or_nothing true = refl
or_nothing false = refl

or_held : (a b : Bool) → (b ≡ true → a ≡ true) → a ≡ (a || b)
or_held true b h = refl
or_held false true h = h refl
or_held false false h = refl

-- whether a node covers a state at its cost so far
abbrev covers_one : Model → Bool → PastNode → PlainState → Option ℤ → Bool
covers_one m prune n s cost = covers_past prune m.minimize m.join (slots_of m.objects m.variables) n (bare s cost)

one_more : (m : Model) (prune : Bool) (nodes : List PastNode) (n : PastNode) (s : PlainState) (cost : Option ℤ) → is_covered m prune (nodes ++ n ∷ []) s cost ≡ (is_covered m prune nodes s cost || covers_one m prune n s cost)
one_more m prune nodes n s cost =
    list_any-append (λ (x : PastNode). covers_one m prune x s cost) nodes (n ∷ [])
    ∙ ap (λ (b : Bool). is_covered m prune nodes s cost || b) (or_nothing (covers_one m prune n s cost))

-- what a covered node covers is covered
either_left : (a b : Bool) → a ≡ true → (a || b) ≡ true
either_left true b e = refl
either_left false b e = absurd (cc)

either_right : (a b : Bool) → b ≡ true → (a || b) ≡ true
either_right true b e = refl
either_right false b e = e

first_or : (a b : Bool) (P : Type 0) → (a ≡ true → P) → (b ≡ true → P) → (a || b) ≡ true → P
first_or true b P left right e = left refl
first_or false b P left right e = right e

passes_on : (m : Model) (prune : Bool) (past : List PastNode) (n : PastNode) (s : PlainState) (cost : Option ℤ) → is_covered m prune past n.state n.cost ≡ true → covers_one m prune n s cost ≡ true → is_covered m prune past s cost ≡ true
passes_on m prune [] n s cost h k = absurd (cc)
passes_on m prune (x ∷ past) n s cost h k =
    first_or (covers_one m prune x n.state n.cost) (is_covered m prune past n.state n.cost) (is_covered m prune (x ∷ past) s cost ≡ true)
    (λ is. either_left (covers_one m prune x s cost) (is_covered m prune past s cost) (transitive prune m.minimize m.join (slots_of m.objects m.variables) (bare x.state x.cost) (bare n.state n.cost) (bare s cost) is k))
    (λ is. either_right (covers_one m prune x s cost) (is_covered m prune past s cost) (passes_on m prune past n s cost is k))
    h

-- ---- many nodes

alike_one : (m : Model) (prune : Bool) (past nodes : List PastNode) (n : PastNode) (test : Bool) → test ≡ is_covered m prune past n.state n.cost → CoverAlike m prune past nodes → CoverAlike m prune (if test then past else past ++ n ∷ []) (nodes ++ n ∷ [])
alike_one m prune past nodes n true is alike s cost =
    or_held (is_covered m prune past s cost) (covers_one m prune n s cost) (λ k. passes_on m prune past n s cost (sym is) k)
    ∙ ap (λ (b : Bool). b || covers_one m prune n s cost) (alike s cost)
    ∙ sym (one_more m prune nodes n s cost)
alike_one m prune past nodes n false is alike s cost =
    one_more m prune past n s cost ∙ ap (λ (b : Bool). b || covers_one m prune n s cost) (alike s cost) ∙ sym (one_more m prune nodes n s cost)

pub alike_new : (m : Model) (prune : Bool) (past nodes news : List PastNode) → CoverAlike m prune past nodes → CoverAlike m prune (with_new m prune past news) (nodes ++ news)
alike_new m prune past nodes [] alike s cost = alike s cost ∙ ap (λ (ns : List PastNode). is_covered m prune ns s cost) (sym (append-nil nodes))
alike_new m prune past nodes (n ∷ news) alike s cost =
    alike_new m prune (if is_covered m prune past n.state n.cost then past else past ++ n ∷ []) (nodes ++ n ∷ []) news (alike_one m prune past nodes n (is_covered m prune past n.state n.cost) refl alike) s cost
    ∙ ap (λ (ns : List PastNode). is_covered m prune ns s cost) (append_assoc nodes (n ∷ []) news)

pub alike_kept : (m : Model) (prune : Bool) (keep : Keep) (past nodes : List PastNode) → CoverAlike m prune past nodes → CoverAlike m prune (kept_before keep past) (kept_before keep nodes)
alike_kept m prune Layer past nodes alike s cost = refl
alike_kept m prune All past nodes alike s cost = alike s cost

pub alike_to : (m : Model) (prune : Bool) (past kept nodes all : List PastNode) → past ≡ kept → nodes ≡ all → CoverAlike m prune kept nodes → CoverAlike m prune past all
alike_to m prune past kept nodes all e f alike s cost = ap (λ (ns : List PastNode). is_covered m prune ns s cost) e ∙ alike s cost ∙ ap (λ (ns : List PastNode). is_covered m prune ns s cost) f

pub alike_by : (m : Model) (prune other : Bool) (past nodes : List PastNode) → prune ≡ other → CoverAlike m prune past nodes → CoverAlike m other past nodes
alike_by m prune other past nodes e alike = subst (λ (p : Bool). CoverAlike m p past nodes) e alike

-- a node that others cover is left out, and else it is added
pub left_out : (b : Bool) (old added : List PastNode) → b ≡ true → old ≡ (if b then old else added)
left_out true old added e = refl
left_out false old added e = absurd (cc)

pub put_behind : {A E : Type 0} (r : Result A E) (b : Bool) (new old added : List PastNode) → b ≡ false → OnOk r (new ≡ added) → OnOk r (new ≡ (if b then old else added))
put_behind (Ok x) true new old added e h = absurd (cc)
put_behind (Ok x) false new old added e h = h
put_behind (Err x) b new old added e h = tt

-- some nodes, and then some more
pub new_append : (m : Model) (prune : Bool) (past xs ys : List PastNode) → with_new m prune past (xs ++ ys) ≡ with_new m prune (with_new m prune past xs) ys
new_append m prune past [] ys = refl
new_append m prune past (x ∷ xs) ys = new_append m prune (if is_covered m prune past x.state x.cost then past else past ++ x ∷ []) xs ys

-- one more of the lists that lead somewhere
pub pasts_more : (standings : List Standing) (i : ℕ) (x : Standing) → slice_get standings i ≡ Some x → pasts (take (i + 1) standings) ≡ pasts (take i standings) ++ if_stands (found x)
pasts_more [] i x at = absurd (cc)
pasts_more (y ∷ ys) zero x at =
    let same : y ≡ x = cc in
    ap (λ (s : Standing). if_stands (found s) ++ []) same ∙ append-nil (if_stands (found x))
pasts_more (y ∷ ys) (suc i) x at =
    ap (λ (k : ℕ). pasts (take k (y ∷ ys))) (let e : suc i + 1 ≡ suc (i + 1) = omega arith in e)
    ∙ ap (λ (ns : List PastNode). if_stands (found y) ++ ns) (pasts_more ys i x at)
    ∙ sym (append_assoc (if_stands (found y)) (pasts (take i ys)) (if_stands (found x)))

-- ---- the clauses at a line

module _ (m : Model) (cert : Cert) (past nodes : List PastNode) (alike : CoverAlike m cert.prune past nodes) where
  successor_alike : (s : PlainState) (cost : Option ℤ) (look : Look) → successor_fails m cert past s cost look ≡ successor_fails m cert nodes s cost look
  successor_alike s cost looks.NotAllowed = refl
  successor_alike s cost (looks.Base base) = refl
  successor_alike s cost (looks.Open floor) = ap (λ (b : Bool). must (is_high m cert.claim floor || b) reasons.Step) (alike s cost)

  unless_alike : {A : Type 0} (f g : A → Option CertReason) (r : Result A SpotFault) → ((x : A) → f x ≡ g x) → unless_fault f r ≡ unless_fault g r
  unless_alike f g (Ok x) h = h x
  unless_alike f g (Err met) h = refl

  looked_alike : (next : Reached) → looked_fails m cert past next ≡ looked_fails m cert nodes next
  looked_alike next =
      unless_alike (successor_fails m cert past next.state next.cost) (successor_fails m cert nodes next.state next.cost) (looked_at m cert.prune next.state next.cost) (λ look. successor_alike next.state next.cost look)

  taken_alike : (here : Reached) (g : ℕ) (t : Option (Transition × List ℕ)) → taken_fails m cert past here g t ≡ taken_fails m cert nodes here g t
  taken_alike here g None = refl
  taken_alike here g (Some t) = unless_alike (looked_fails m cert past) (looked_fails m cert nodes) (moved m here g t) (λ next. looked_alike next)

  step_if_alike : (here : Reached) (g : ℕ) (may : Result Bool SpotFault) → step_fails_if m cert past here g may ≡ step_fails_if m cert nodes here g may
  step_if_alike here g (Ok true) = taken_alike here g (ground_of m g)
  step_if_alike here g (Ok false) = refl
  step_if_alike here g (Err met) = refl

  first_alike : (f g : ℕ → Option CertReason) (xs : List ℕ) → ((x : ℕ) → f x ≡ g x) → first_of f xs ≡ first_of g xs
  first_alike f g [] h = refl
  first_alike f g (x ∷ xs) h = rw (h x, first_alike f g xs h) refl

  part_alike : (looked : Bool) (n : CertNode) (r : Result Reached CertReason) → part_fails_at m cert past looked n r ≡ part_fails_at m cert nodes looked n r
  part_alike looked n (Err reason) = refl
  part_alike looked n (Ok here) =
      ap (λ (steps : Option CertReason). if n.cut then cut_fails m cert here else (if looked then steps else None))
      (first_alike (step_fails m cert past here) (step_fails m cert nodes here) _ (λ g. step_if_alike here g (may_step_at m here.state g)))

-- the clauses at the line of a node in a part, by nodes that cover alike
pub fails_alike : (m : Model) (cert : Cert) (prune : Bool) (share : Share) (l : ℕ) (here : List Standing) (past : List PastNode) (p : ℕ) (n : CertNode) (s : Standing) → prune ≡ cert.prune → AreFound m cert l here → share.before ≡ nodes_before cert.layers l
    → CoverAlike m prune past (covering m cert cert.keep (l + 1)) → slice_get here p ≡ Some s → part_fails_at m cert past (has_in_layer share p) n (found s) ≡ node_fails_in share.part m cert l p n
fails_alike m cert prune share l here past p n s on e before alike at =
    part_alike m cert past (covering m cert cert.keep (l + 1)) (alike_by m prune cert.prune past (covering m cert cert.keep (l + 1)) on alike) (has_in_layer share p) n (found s)
    ∙ fails_at m cert share l here p n s e before at
