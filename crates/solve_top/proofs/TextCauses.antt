-- Why the texts of a domain and a problem have no model.
use Rattle.std.proofs.Common.{◌≡◌, ℕ, List, [], ◌∷◌, inl, inr, refl}
use Rattle.std.specs.Prelude.{Result, Ok, Err, IfOk, IfErr}
use Rattle.dp_model.specs.declared.whole.Model.{Model}
use Rattle.yaml_scan.specs.declared.line.ScanEnd.TheVariants as lines
use Rattle.yaml_tree.specs.declared.tree.Tree.{Tree}
use Rattle.yaml_tree.specs.declared.tree.YamlEnd.{YamlEnd}
use Rattle.yaml_tree.specs.declared.tree.YamlEnd.TheVariants as trees
use Rattle.yaml_tree.specs.Results.{MemoryOr}
use Rattle.yaml_tree.specs.Texts.{Spells, Refused as IsUnread}
use Rattle.dypdl_nodes.specs.Reads.{Refusal}
use Rattle.dypdl_rules.specs.Expressions.{Reading, IsReading}
use Rattle.dypdl_load.specs.Meaning.{meaning, parts_of}
use Rattle.dypdl_load.proofs.Readings.{the_reading, reads}
use Rattle.dp_base.specs.Results.{Refuses}
use Rattle.replay_list.specs.StepLists.{steps_in, told}
use Rattle.replay_list.specs.declared.ends.ListEnd.{ListEnd}
use Rattle.replay_list.specs.declared.ends.ListEnd.TheVariants as lists
use Rattle.cert_text.specs.Said.{certificate_in, told as cert_told}
use Rattle.cert_text.specs.declared.ends.CertTextEnd.{CertTextEnd}
use Rattle.cert_text.specs.declared.ends.CertTextEnd.TheVariants as certs
use Rattle.solve_top.specs.Texts.{Certificate, IsNoCert, Steps, Third, cert_refusal, IsUnreadAs, Read, Means, IsRefused, IsNoList, AreRefused, list_refusal}
use Rattle.solve_top.specs.Runs.{cause_of, unread_as, RefusedBy}
use Rattle.solve_top.specs.declared.causes.NoModel.{NoModel}
use Rattle.solve_top.specs.declared.causes.NoModel.TheVariants as causes

-- ---- causes

-- a text that has no tree is refused as it, or memory ran out
pub unread_by : (file : ℕ) (bytes : List ℕ) (end : YamlEnd) → MemoryOr (IsUnread file bytes) end → RefusedBy (IsUnreadAs file bytes) (unread_as end)
unread_by file bytes (trees.Scan (lines.NotUtf8 at)) h = record { end = trees.Scan (lines.NotUtf8 at); first = h; refusal = refl }
unread_by file bytes (trees.Scan (lines.TabIndent at)) h = record { end = trees.Scan (lines.TabIndent at); first = h; refusal = refl }
unread_by file bytes (trees.Scan lines.Memory) h = tt
unread_by file bytes (trees.BadQuote at) h = record { end = trees.BadQuote at; first = h; refusal = refl }
unread_by file bytes (trees.Unread at) h = record { end = trees.Unread at; first = h; refusal = refl }
unread_by file bytes (trees.TwiceKey at) h = record { end = trees.TwiceKey at; first = h; refusal = refl }
unread_by file bytes (trees.TooDeep at) h = record { end = trees.TooDeep at; first = h; refusal = refl }
unread_by file bytes (trees.OutOfProfile at feature) h = record { end = trees.OutOfProfile at feature; first = h; refusal = refl }
unread_by file bytes trees.Memory h = tt

-- what is refused for one reason is refused for what follows from it
pub refused_for : (P Q : Refusal → Type 0) → ((r : Refusal) → P r → Q r) → (e : NoModel) → RefusedBy P e → RefusedBy Q e
refused_for P Q f (causes.Refused number place offset) h = f (record { number = number; place = place; offset = offset }) h
refused_for P Q f causes.Memory h = tt
refused_for P Q f (causes.ReadFault file) h = absurd h
refused_for P Q f (causes.TooLong file) h = absurd h

module _ (d p : List ℕ) where
  pub domain_refused : (e : NoModel) → RefusedBy (IsUnreadAs 1 d) e → RefusedBy (IsRefused d p) e
  domain_refused e h = refused_for (IsUnreadAs 1 d) (IsRefused d p) (λ r is. inl is) e h

  pub problem_refused : (e : NoModel) (tree : Tree) → Spells 1 d tree → RefusedBy (IsUnreadAs 2 p) e → RefusedBy (IsRefused d p) e
  problem_refused e tree spells h = refused_for (IsUnreadAs 2 p) (IsRefused d p) (λ r is. inr (inl (tree, spells, is))) e h

  module _ (dt pt : Tree) (spells : Spells 1 d dt) (also : Spells 2 p pt) where
    abbrev both : Read d p
    both = record { domain_tree = dt; problem_tree = pt; read = the_reading; domain_spells = spells; problem_spells = also; reads = reads }

    abbrev IsMeantRefusal : Refusal → Type 0
    IsMeantRefusal r = (read : Reading) → IsReading read → meaning read dt pt ≡ Err r

    abbrev IsMeant : Model → Type 0
    IsMeant m = (read : Reading) → IsReading read → meaning read dt pt ≡ Ok (parts_of m)

    meaning_refused : (e : NoModel) → RefusedBy IsMeantRefusal e → RefusedBy (IsRefused d p) e
    meaning_refused e h = refused_for IsMeantRefusal (IsRefused d p) (λ r is. inr (inr (both, is the_reading reads))) e h

    -- what the two texts come to, from what their trees come to
    pub whole_refused : (result : Result Model NoModel) → IfErr result (RefusedBy IsMeantRefusal) → IfErr result (RefusedBy (IsRefused d p))
    whole_refused (Ok m) h = tt
    whole_refused (Err e) h = meaning_refused e h

    pub whole_means : (result : Result Model NoModel) → IfOk result IsMeant → IfOk result (Means d p)
    whole_means (Ok m) h = (both, h the_reading reads)
    whole_means (Err e) h = tt

-- ---- lists

-- a text that is no list is refused as it, or memory ran out
pub no_list_by : (m : Model) (list : List ℕ) (end : ListEnd) → Refuses (told end) (steps_in m list) → RefusedBy (IsNoList m list) (cause_of (list_refusal end))
no_list_by m list (lists.NotUtf8 at) h = record { end = lists.NotUtf8 at; first = h; refusal = refl }
no_list_by m list (lists.UnknownStep at) h = record { end = lists.UnknownStep at; first = h; refusal = refl }
no_list_by m list (lists.BadArguments at) h = record { end = lists.BadArguments at; first = h; refusal = refl }
no_list_by m list lists.Memory h = tt

-- what is refused of a domain and a problem is refused of these and a list
pub refused_of_three : (third : Third) (d p l : List ℕ) (e : NoModel) → RefusedBy (IsRefused d p) e → RefusedBy (AreRefused third (d ∷ p ∷ l ∷ [])) e
refused_of_three third d p l (causes.Refused number place offset) h = inl h
refused_of_three third d p l causes.Memory h = tt
refused_of_three third d p l (causes.ReadFault file) h = absurd h
refused_of_three third d p l (causes.TooLong file) h = absurd h

-- and so is what is refused of the list
pub refused_list : (d p l : List ℕ) (m : Model) (e : NoModel) → Means d p m → RefusedBy (IsNoList m l) e → RefusedBy (AreRefused Steps (d ∷ p ∷ l ∷ [])) e
refused_list d p l m (causes.Refused number place offset) means h = inr (m, means, h)
refused_list d p l m causes.Memory means h = tt
refused_list d p l m (causes.ReadFault file) means h = absurd h
refused_list d p l m (causes.TooLong file) means h = absurd h

-- ---- certificates

-- a text without a certificate is refused as it, or memory ran out
pub no_cert_by : (m : Model) (text : List ℕ) (end : CertTextEnd) → Refuses (cert_told end) (certificate_in m text) → RefusedBy (IsNoCert m text) (cause_of (cert_refusal end))
no_cert_by m text (certs.NotUtf8 at) h = record { end = certs.NotUtf8 at; first = h; refusal = refl }
no_cert_by m text (certs.Bad at) h = record { end = certs.Bad at; first = h; refusal = refl }
no_cert_by m text certs.Memory h = tt

pub refused_cert : (d p l : List ℕ) (m : Model) (e : NoModel) → Means d p m → RefusedBy (IsNoCert m l) e → RefusedBy (AreRefused Certificate (d ∷ p ∷ l ∷ [])) e
refused_cert d p l m (causes.Refused number place offset) means h = inr (m, means, h)
refused_cert d p l m causes.Memory means h = tt
refused_cert d p l m (causes.ReadFault file) means h = absurd h
refused_cert d p l m (causes.TooLong file) means h = absurd h
