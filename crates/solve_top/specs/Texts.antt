-- What the texts of a domain, a problem, and a list of steps or a certificate mean, or what is refused of them first.
use Rattle.std.specs.Prelude.{◌≡◌, ℕ, ◌⊎◌, List, [], ◌∷◌, Option, None, Some, Ok, Err}
use Rattle.dp_base.specs.declared.place.Place.{Place}
use Rattle.dp_model.specs.declared.whole.Model.{Model}
use Rattle.yaml_scan.specs.declared.line.ScanEnd.{ScanEnd}
use Rattle.yaml_scan.specs.declared.line.ScanEnd.TheVariants as lines
use Rattle.yaml_tree.specs.declared.tree.Tree.{Tree}
use Rattle.yaml_tree.specs.declared.tree.YamlEnd.{YamlEnd}
use Rattle.yaml_tree.specs.declared.tree.YamlEnd.TheVariants as trees
use Rattle.yaml_tree.specs.Texts.{Spells, Refused as IsUnread}
use Rattle.dypdl_nodes.specs.Reads.{Refusal}
use Rattle.dypdl_rules.specs.Expressions.{Reading, IsReading}
use Rattle.dypdl_load.specs.Meaning.{meaning, parts_of}
use Rattle.cert_types.specs.Parts.{parts_of as said_by}
use Rattle.cert_types.specs.declared.cert.Cert.{Cert}
use Rattle.cert_text.specs.Said.{certificate_in}
use Rattle.cert_text.specs.declared.ends.CertTextEnd.{CertTextEnd}
use Rattle.cert_text.specs.declared.ends.CertTextEnd.TheVariants as certs
use Rattle.replay_list.specs.StepLists.{steps_in}
use Rattle.replay_list.specs.declared.ends.ListEnd.{ListEnd}
use Rattle.replay_list.specs.declared.ends.ListEnd.TheVariants as lists

-- ---- texts without a tree

abbrev pub refusal_at : ℕ → Place → Option Refusal
refusal_at number at = Some (record { number = number; place = at; offset = None })

abbrev pub lines_refusal : ScanEnd → Option Refusal
lines_refusal (lines.NotUtf8 at) = refusal_at 10 at
lines_refusal (lines.TabIndent at) = refusal_at 11 at
lines_refusal lines.Memory = None

-- what a text is refused as that has no tree: want of memory is no refusal
abbrev pub tree_refusal : YamlEnd → Option Refusal
tree_refusal (trees.Scan end) = lines_refusal end
tree_refusal (trees.BadQuote at) = refusal_at 13 at
tree_refusal (trees.Unread at) = refusal_at 14 at
tree_refusal (trees.TwiceKey at) = refusal_at 15 at
tree_refusal (trees.TooDeep at) = refusal_at 16 at
tree_refusal (trees.OutOfProfile at feature) = refusal_at 17 at
tree_refusal trees.Memory = None

-- the text of this file has no tree, and this is refused first
pub record IsUnreadAs (file : ℕ) (bytes : List ℕ) (r : Refusal) : Type 0 where
  pub end : YamlEnd
  pub first : IsUnread file bytes end
  pub refusal : tree_refusal end ≡ Some r

-- ---- both texts: the domain is file 1, and the problem is file 2

-- the trees of both texts, and the reading of the expressions in them
pub record Read (domain problem : List ℕ) : Type 0 where
  pub domain_tree : Tree
  pub problem_tree : Tree
  pub read : Reading
  pub domain_spells : Spells 1 domain domain_tree
  pub problem_spells : Spells 2 problem problem_tree
  pub reads : IsReading read

-- the two texts mean this model
abbrev pub Means : (domain problem : List ℕ) → Model → Type 0
Means domain problem model = (both : Read domain problem) × (meaning both.read both.domain_tree both.problem_tree ≡ Ok (parts_of model))

-- The two texts mean no model, and this is refused first: of the domain's text, or else of the problem's text, or else of
-- what both trees mean.
abbrev pub IsRefused : (domain problem : List ℕ) → Refusal → Type 0
IsRefused domain problem r =
    IsUnreadAs 1 domain r
    ⊎ (((tree : Tree) × Spells 1 domain tree × IsUnreadAs 2 problem r)
    ⊎ ((both : Read domain problem) × (meaning both.read both.domain_tree both.problem_tree ≡ Err r)))

-- ---- the list of steps, which is file 3

-- what a text is refused as that is no list of steps: want of memory is no refusal
abbrev pub list_refusal : ListEnd → Option Refusal
list_refusal (lists.NotUtf8 at) = refusal_at 10 at
list_refusal (lists.UnknownStep at) = refusal_at 70 at
list_refusal (lists.BadArguments at) = refusal_at 71 at
list_refusal lists.Memory = None

-- the text is no list of steps of the model, and this is refused first
pub record IsNoList (m : Model) (list : List ℕ) (r : Refusal) : Type 0 where
  pub end : ListEnd
  pub first : steps_in m list ≡ Err end
  pub refusal : list_refusal end ≡ Some r

-- ---- the certificate, which is file 3 of another job

-- what a text is refused as that has no certificate: want of memory is no refusal
abbrev pub cert_refusal : CertTextEnd → Option Refusal
cert_refusal (certs.NotUtf8 at) = refusal_at 10 at
cert_refusal (certs.Bad at) = refusal_at 72 at
cert_refusal certs.Memory = None

-- the text has no certificate over the model's steps, and this is refused first
pub record IsNoCert (m : Model) (text : List ℕ) (r : Refusal) : Type 0 where
  pub end : CertTextEnd
  pub first : certificate_in m text ≡ Err end
  pub refusal : cert_refusal end ≡ Some r

-- what the third text of a job is
pub data Third : Type 0 where
  Steps : Third
  Certificate : Third

abbrev pub IsNoThird : Third → Model → (text : List ℕ) → Refusal → Type 0
IsNoThird Steps m text r = IsNoList m text r
IsNoThird Certificate m text r = IsNoCert m text r

-- ---- all texts of a run

-- the first two texts mean this model
abbrev pub MeanModel : List (List ℕ) → Model → Type 0
MeanModel (domain ∷ problem ∷ more) m = Means domain problem m
MeanModel (domain ∷ []) m = ⊥
MeanModel [] m = ⊥

-- the texts mean this model, and the third these steps of it
abbrev pub MeanSteps : List (List ℕ) → Model → List ℕ → Type 0
MeanSteps (domain ∷ problem ∷ list ∷ more) m steps = Means domain problem m × (steps_in m list ≡ Ok steps)
MeanSteps (domain ∷ problem ∷ []) m steps = ⊥
MeanSteps (domain ∷ []) m steps = ⊥
MeanSteps [] m steps = ⊥

-- the texts mean this model, and the third has this certificate
abbrev pub MeanCert : List (List ℕ) → Model → Cert → Type 0
MeanCert (domain ∷ problem ∷ text ∷ more) m cert = Means domain problem m × (certificate_in m text ≡ Ok (said_by cert))
MeanCert (domain ∷ problem ∷ []) m cert = ⊥
MeanCert (domain ∷ []) m cert = ⊥
MeanCert [] m cert = ⊥

-- what is refused first of the texts: of the first two, or else of the third
abbrev pub AreRefused : Third → List (List ℕ) → Refusal → Type 0
AreRefused third (domain ∷ problem ∷ text ∷ more) r = IsRefused domain problem r ⊎ ((m : Model) × Means domain problem m × IsNoThird third m text r)
AreRefused third (domain ∷ problem ∷ []) r = IsRefused domain problem r
AreRefused third (domain ∷ []) r = ⊥
AreRefused third [] r = ⊥
