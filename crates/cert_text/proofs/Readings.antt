-- A step of reading: the line at a place, and the certificate of the lines from there on.
use Rattle.std.proofs.Common.{◌≡◌, ℕ, ◌+◌, ◌<◌, ◌&&◌, Bool, true, List, length, get_or, drop, Option, Some, None, Result, Ok, Err, sym, ap, subst, ◌∙◌, arith, IsErrAnd}
use Rattle.std.specs.Prelude.{IfOk}
use Rattle.std.specs.List.{list_all}
use Rattle.std.proofs.lemmas.List.{at_drop_more, at_drop_all}
use Rattle.dp_base.specs.Results.{AnswersBy, Refuses}
use Rattle.dp_model.specs.declared.whole.Model.{Model}
use Rattle.cert_types.specs.Parts.{Parts, parts_of}
use Rattle.cert_text.specs.Named.{IsNamedIn, are_named, claims_steps, names_step}
use Rattle.cert_text.specs.Said.{followed, next, or_bad, or_refused, placed, read_from, told, whole}
use Rattle.cert_types.specs.declared.cert.Cert.{Cert}
use Rattle.cert_text.specs.declared.ends.CertTextEnd.{CertTextEnd}
use Rattle.cert_text.specs.declared.said.Said.{Said}
use Rattle.cert_text.specs.declared.said.Said.TheVariants as states
use Rattle.cert_text.proofs.Keeps.{Keeps, next_keeps}

-- a line that was followed may follow
followed_some : (number : ℕ) (o : Option Said) (later : Said) → or_refused number o ≡ Ok later → o ≡ Some later
followed_some number None later h = absurd (cc)
followed_some number (Some x) later h = cc

-- one that is refused is the first bad line
refused_all : (number : ℕ) (o : Option Said) (rest : Said → Result Parts ℕ) (end : Option CertTextEnd) → Refuses end (or_refused number o) → Refuses end (placed (or_bad number o rest))
refused_all number o rest None h = tt
refused_all number None rest (Some end) h = cc
refused_all number (Some x) rest (Some end) h = absurd (cc)

module _ (m : Model) (lines : List (List ℕ)) (at number : ℕ) (said : Said) (line : List ℕ) (total : Result Parts ℕ)
    (is : number ≡ at + 1) (there : (at < length lines) × (line ≡ get_or lines at line)) (whole : read_from m number said (drop at lines) ≡ total) where
  unfolds : total ≡ or_bad number (next m number said line) (λ (later : Said). read_from m (number + 1) later (drop (at + 1) lines))
  unfolds =
      sym whole
      ∙ at_drop_more (read_from m number said) lines at line there.0
      ∙ ap (λ (x : List ℕ). or_bad number (next m number said x) (λ (later : Said). read_from m (number + 1) later (drop (at + 1) lines))) (sym there.1)

  -- the line is read
  pub goes_on : (later : Said) → followed m number said line ≡ Ok later → read_from m (number + 1) later (drop (at + 1) lines) ≡ total
  goes_on later h =
      let some : next m number said line ≡ Some later = followed_some number (next m number said line) later h in
      sym (unfolds ∙ ap (λ (o : Option Said). or_bad number o (λ (later : Said). read_from m (number + 1) later (drop (at + 1) lines))) some)

  pub keeps_on : (later : Said) → Keeps m at said → followed m number said line ≡ Ok later → Keeps m (at + 1) later
  keeps_on later keeps h =
      let some : next m number said line ≡ Some later = followed_some number (next m number said line) later h in
      next_keeps m at said line later keeps (subst (λ (n : ℕ). next m n said line ≡ Some later) is some)

  -- the line is refused
  pub stops : (end : Option CertTextEnd) → Refuses end (followed m number said line) → Refuses end (placed total)
  stops end h = subst (λ (r : Result Parts ℕ). Refuses end (placed r)) (sym unfolds) (refused_all number (next m number said line) (λ (later : Said). read_from m (number + 1) later (drop (at + 1) lines)) end h)

-- the same, where the number of lines is told otherwise
pub keeps_at : (m : Model) (k n : ℕ) (said : Said) → k ≡ n → Keeps m n said → Keeps m k said
keeps_at m k n said is keeps = subst (λ (i : ℕ). Keeps m i said) (sym is) keeps

pub rest_at : (m : Model) (lines : List (List ℕ)) (number k n : ℕ) (said : Said) (total : Result Parts ℕ) → k ≡ n → read_from m number said (drop n lines) ≡ total → read_from m number said (drop k lines) ≡ total
rest_at m lines number k n said total is rest = subst (λ (i : ℕ). read_from m number said (drop i lines) ≡ total) (sym is) rest

-- no line is left
pub ends : (m : Model) (lines : List (List ℕ)) (at number : ℕ) (said : Said) (total : Result Parts ℕ) → at ≡ length lines → read_from m number said (drop at lines) ≡ total → whole number said ≡ total
ends m lines at number said total all whole = sym (at_drop_all (read_from m number said) lines at (omega arith)) ∙ whole

-- the answer of the last call
pub answered : (result : Result Cert CertTextEnd) (value total : Result Parts ℕ) → value ≡ total → AnswersBy told parts_of result (placed value) → AnswersBy told parts_of result (placed total)
answered result value total is h = subst (λ (r : Result Parts ℕ). AnswersBy told parts_of result (placed r)) is h

-- an error that is handed on
pub handed_on : {A : Type 0} (view : A → Parts) (r : Result A CertTextEnd) (end : CertTextEnd) (total : Result Parts CertTextEnd) → IsErrAnd r (λ x. x ≡ end) → Refuses (told end) total → AnswersBy told view r total
handed_on view (Ok x) end total is h = absurd is
handed_on view (Err x) end total is h = subst (λ (y : CertTextEnd). Refuses (told y) total) (sym is) h

-- ---- a whole certificate names ground transitions

both : (x y : Bool) → x ≡ true → y ≡ true → (x && y) ≡ true
both x y hx hy = rw hx hy

ended_named : (m : Model) (n number : ℕ) (said : Said) (p : Parts) → Keeps m n said → placed (whole number said) ≡ Ok p → are_named (length m.dp_ground) p.claim p.layers ≡ true
ended_named m n number (states.Nothing marked) p keeps h = absurd (cc)
ended_named m n number (states.Kept first keep) p keeps h = absurd (cc)
ended_named m n number (states.Pruned start) p keeps h = absurd (cc)
ended_named m n number (states.Claimed start cost) p keeps h = absurd (cc)
ended_named m n number (states.Steps start l) p keeps h = absurd (cc)
ended_named m n number (states.Layers start claim b) p keeps h = absurd (cc)
ended_named m n number (states.Ended start claim layers) p keeps h =
    let parts : Parts = record { first = start.first; keep = start.keep; prune = start.prune; claim = claim; layers = layers } in
    let same : parts ≡ p = cc in
    subst (λ (q : Parts). are_named (length m.dp_ground) q.claim q.layers ≡ true) same
    (both (claims_steps (length m.dp_ground) claim) (list_all (list_all (names_step (length m.dp_ground))) layers) keeps.steps keeps.named)

pub named_in : (m : Model) (n number : ℕ) (said : Said) (result : Result Cert CertTextEnd) → Keeps m n said → AnswersBy told parts_of result (placed (whole number said)) → IfOk result (IsNamedIn m)
named_in m n number said (Ok cert) keeps h = ended_named m n number said (parts_of cert) keeps h
named_in m n number said (Err end) keeps h = tt
