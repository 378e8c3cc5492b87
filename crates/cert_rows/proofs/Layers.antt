-- What is written of the kept nodes of a pass are the layers of a certificate.
use Rattle.std.proofs.Common.{◌≡◌, ℕ, ◌<◌, zero, suc, Bool, true, ◌&&◌, nat_lt, List, [], ◌∷◌, length, slice_get, Option, Some, None, refl, sym, subst, arith}
use Rattle.std.proofs.lemmas.Bool.{lt-ltb}
use Rattle.std.specs.List.{list_all}
use Rattle.dp_claims.specs.Enough.{Has}
use Rattle.state_layout.specs.declared.node.Node.{Node}
use Rattle.pass_ledger.specs.Passes.{Pass}
use Rattle.pass_ledger.specs.Rows.{row}
use Rattle.pass_ledger.specs.declared.records.LedgerRow.{LedgerRow}
use Rattle.cert_types.specs.Parents.{are_made, has_parent, have_parents_from, is_made, is_start}
use Rattle.cert_types.specs.declared.nodes.CertNode.{CertNode}
use Rattle.cert_types.specs.declared.nodes.CertStep.{CertStep}
use Rattle.cert_laws.specs.Shown.{layer_of}
use Rattle.cert_rows.specs.Laws.{LawLayers}
use Rattle.cert_rows.specs.Rows.{IsMade}
use Rattle.cert_rows.proofs.Lists.{kept_at}
use Rattle.cert_rows.proofs.Places.{within_get}

both_true : (a b : Bool) → a ≡ true → b ≡ true → (a && b) ≡ true
both_true a b h k = grind arith

all_true : {A : Type 0} (test : A → Bool) (xs : List A) → ((x : A) → Has xs x → test x ≡ true) → list_all test xs ≡ true
all_true test [] h = refl
all_true test (x ∷ xs) h = both_true (test x) (list_all test xs) (h x (0, refl)) (all_true test xs (λ y k. h y (suc k.0, k.1)))

lt_true : (a b : ℕ) → a < b → nat_lt a b ≡ true
lt_true a b h = lt-ltb a b h

none_start : (p : Pass) (rows : List LedgerRow) (n : Node) (c : CertNode) → IsMade p rows zero n c.made → is_start c ≡ true
none_start p rows n c h = by c.made h
  where
    by : (made : Option CertStep) → IsMade p rows zero n made → is_start (record c { made = made }) ≡ true
    by None h = refl
    by (Some step) h = absurd h

some_made : (p : Pass) (rows : List LedgerRow) (l : ℕ) (n : Node) (c : CertNode) → IsMade p rows (suc l) n c.made → is_made c ≡ true
some_made p rows l n c h = by c.made h
  where
    by : (made : Option CertStep) → IsMade p rows (suc l) n made → is_made (record c { made = made }) ≡ true
    by None h = absurd h
    by (Some step) h = refl

no_parent : (p : Pass) (rows : List LedgerRow) (n : Node) (c : CertNode) → IsMade p rows zero n c.made → has_parent 0 c ≡ true
no_parent p rows n c h = by c.made h
  where
    by : (made : Option CertStep) → IsMade p rows zero n made → has_parent 0 (record c { made = made }) ≡ true
    by None h = refl
    by (Some step) h = absurd h

some_parent : (p : Pass) (rows : List LedgerRow) (l : ℕ) (n : Node) (c : CertNode) (places : ℕ) → length (row rows l).kept ≡ places → IsMade p rows (suc l) n c.made → has_parent places c ≡ true
some_parent p rows l n c places e h = by c.made h
  where
    by : (made : Option CertStep) → IsMade p rows (suc l) n made → has_parent places (record c { made = made }) ≡ true
    by None h = absurd h
    by (Some step) h = lt_true step.parent places (subst (λ (k : ℕ). step.parent < k) e (within_get (row rows l).kept step.parent h.from h.there))

-- each parent is a place in the layer before, where the parents of the first of these layers are among so many places
have_from : (layers : List (List CertNode)) (places : ℕ) → ((place : ℕ) (c : CertNode) → slice_get (layer_of layers 0) place ≡ Some c → has_parent places c ≡ true)
    → ((l place : ℕ) (c : CertNode) → slice_get (layer_of layers (suc l)) place ≡ Some c → has_parent (length (layer_of layers l)) c ≡ true) → have_parents_from places layers ≡ true
have_from [] places h k = refl
have_from (xs ∷ xss) places h k =
    both_true (list_all (has_parent places) xs) (have_parents_from (length xs) xss) (all_true (has_parent places) xs (λ c at. h at.0 c at.1)) (have_from xss (length xs) (λ place c at. k 0 place c at) (λ l place c at. k (suc l) place c at))

later_made : (layers : List (List CertNode)) → ((l place : ℕ) (c : CertNode) → slice_get (layer_of layers l) place ≡ Some c → is_made c ≡ true) → list_all (list_all is_made) layers ≡ true
later_made [] h = refl
later_made (xs ∷ xss) h = both_true (list_all is_made xs) (list_all (list_all is_made) xss) (all_true is_made xs (λ c at. h 0 at.0 c at.1)) (later_made xss (λ l place c at. h (suc l) place c at))

all_made : (layers : List (List CertNode)) → ((place : ℕ) (c : CertNode) → slice_get (layer_of layers 0) place ≡ Some c → is_start c ≡ true) → ((l place : ℕ) (c : CertNode) → slice_get (layer_of layers (suc l)) place ≡ Some c → is_made c ≡ true)
    → are_made layers ≡ true
all_made [] h k = refl
all_made (xs ∷ xss) h k = both_true (list_all is_start xs) (list_all (list_all is_made) xss) (all_true is_start xs (λ c at. h at.0 c at.1)) (later_made xss (λ l place c at. k l place c at))

pub law_of_layers : LawLayers
law_of_layers p r layers are = (
  all_made layers
      (λ place c at. (let n = kept_at p r.rows r.waiting r.visits r.pruned layers are 0 place c at in none_start p r.rows n.0 c (are.made 0 place n.0 c n.1 at)))
      (λ l place c at. (let n = kept_at p r.rows r.waiting r.visits r.pruned layers are (suc l) place c at in some_made p r.rows l n.0 c (are.made (suc l) place n.0 c n.1 at))),
  have_from layers 0
      (λ place c at. (let n = kept_at p r.rows r.waiting r.visits r.pruned layers are 0 place c at in no_parent p r.rows n.0 c (are.made 0 place n.0 c n.1 at)))
      (λ l place c at. (let n = kept_at p r.rows r.waiting r.visits r.pruned layers are (suc l) place c at in some_parent p r.rows l n.0 c (length (layer_of layers l)) (sym (are.wide l)) (are.made (suc l) place n.0 c n.1 at))),
)
