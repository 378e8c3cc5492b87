-- What was written behind a verdict, and a search with its certificate.
use Rattle.std.proofs.Common.{◌≡◌, ℕ, ◌⊎◌, inl, inr, Bool, true, false, List, [], ◌∷◌, ◌++◌, Option, Some, None, Result, Ok, Err, refl, sym, subst, ◌∙◌, ◌≤◌, arith}
use Rattle.std.specs.Prelude.{codes, IfSome, OnOk, OnErr}
use Rattle.std.specs.List.{AllByRecursion}
use Rattle.std.proofs.lemmas.List.{append-nil}
use Rattle.dp_outside.specs.Outside.{Rose, Takes, TakesFront}
use Rattle.dp_outside.specs.declared.failing.Failed.{Failed}
use Rattle.dp_outside.proofs.Steps.{Takes-more}
use Rattle.dp_base.specs.Bytes.{line}
use Rattle.solve_report.proofs.Written.{TakesFront-append, TakesFront-longer}
use Rattle.solve_report.specs.Lines.{written_text}
use Rattle.solve_report.specs.Puts.{Puts}
use Rattle.dp_model.specs.declared.answers.Claim.{Claim}
use Rattle.dp_model.specs.declared.answers.Claim.TheVariants as claims
use Rattle.dp_model.specs.declared.answers.Found.{Found}
use Rattle.dp_model.specs.declared.answers.Options.{Options}
use Rattle.dp_model.specs.declared.answers.Verdict.TheVariants as verdicts
use Rattle.dp_model.specs.declared.answers.Written.{Written}
use Rattle.dp_model.specs.declared.answers.Written.TheVariants as writtens
use Rattle.dp_model.specs.declared.whole.Model.{Model}
use Rattle.dp_steps.specs.Lists.{Solution}
use Rattle.cert_types.specs.Parts.{parts_of}
use Rattle.cert_laws.specs.Shown.{ClaimHolds}
use Rattle.cert_text.specs.Texts.{text_of, text_of_lines}
use Rattle.cert_making.specs.Written.{IsBegun, Tells, open_lines}
use Rattle.cert_making.specs.declared.ends.CertEnd.TheVariants as ends
use Rattle.best_ledger.specs.Right.{BestEnding}
use Rattle.best_ledger.specs.Right as best
use Rattle.run_ends.specs.Claims.{claim_with}
use Rattle.run_ends.specs.declared.solved.Solved.{Solved}
use Rattle.run_ends.specs.declared.status.Status.{Status}
use Rattle.run_ends.specs.declared.status.Status.TheVariants as statuses
use Rattle.solve_best.specs.Texts as bests
use Rattle.solve_passes.specs.Ongoing.{Concluded}
use Rattle.solve_passes.specs.Records.{Ending, Ended, OutOfMemory, claim_after, claim_of, ending_status, last_solution, record_text, solutions}
use Rattle.solve_passes.specs.declared.progress.Printing.TheVariants.{All}
use Rattle.solve_top.specs.Behind.{Behind, Nothing, Whole, Begun, OutOfRoom, NoRoom, Follows, IsBehind, Prints, RightBehind, RightCause, Solves, SolvesBest, WasPrinted, WritesBehind, behind_text}
use Rattle.solve_top.specs.Jobs.{keeping_all}

-- ---- a text behind another

-- a text whole, with this status, or a front of it where a write failed
abbrev pub Writes : Option (List ℕ) → Option (List ℕ) → (text : List ℕ) → (wanted status : Status) → Type 0
Writes before after text wanted status = ((status ≡ wanted) × Takes before after text) ⊎ ((status ≡ statuses.WriteFault) × TakesFront before after text)

pub then_writes : (first second third : Option (List ℕ)) (front back : List ℕ) (wanted status : Status) → Takes first second front → Writes second third back wanted status → Writes first third (front ++ back) wanted status
then_writes first second third front back wanted status took (inl h) = inl (h.0, Takes-more first second third front back took h.1)
then_writes first second third front back wanted status took (inr h) = inr (h.0, TakesFront-append first second third front back took h.1)

-- what was put with its status
pub put_writes : (before after : Option (List ℕ)) (f g : ℕ) (text : List ℕ) (result : Result (Unit {0}) Failed) (wanted status : Status) → Puts before after f g text result → OnOk result (status ≡ wanted) → OnErr result (status ≡ statuses.WriteFault) → Writes before after text wanted status
put_writes before after f g text (Ok done) wanted status puts ok err = inl (ok, puts.ok)
put_writes before after f g text (Err failed) wanted status puts ok err = inr (err, puts.err)

pub as_text : (before after : Option (List ℕ)) (text other : List ℕ) (wanted status : Status) → text ≡ other → Writes before after text wanted status → Writes before after other wanted status
as_text before after text other wanted status e writes = subst (λ (t : List ℕ). Writes before after t wanted status) e writes

-- what stands behind a text, and that text
then_prints : (m : Model) (options : Options) (behind : Behind) (first second third : Option (List ℕ)) (front : List ℕ) (wanted status : Status) → Takes first second front → Prints second third [] m options behind wanted status → Prints first third front m options behind wanted status
then_prints m options behind first second third front wanted status took (inl h) = inl (h.0, Takes-more first second third front (behind_text m options behind) took h.1)
then_prints m options behind first second third front wanted status took (inr h) = inr (h.0, TakesFront-append first second third front (behind_text m options behind) took h.1)

-- ---- behind a verdict

module _ (m : Model) (options : Options) (claim : Claim) (status : Status) (first second third : Option (List ℕ)) (result : Status) where
  -- the certificate, or its first layers and why it ends
  pub written_behind : (written : Written) → Tells m options claim first second (Ok written) → Writes second third (written_text m written) status result → WritesBehind m options claim status first third result
  written_behind writtens.Whole told writes = (
    Whole told.cert,
    told.made,
    as_text first third (text_of m (parts_of told.cert) ++ []) (text_of m (parts_of told.cert)) status result (append-nil (text_of m (parts_of told.cert)))
        (then_writes first second third (text_of m (parts_of told.cert)) [] status result told.text writes),
  )
  written_behind (writtens.Stopped visits) told writes = begun (writtens.Stopped visits) told.2 (told.0, told.1) writes
    where
      begun : (why : Written) (b : IsBegun m options claim first second) → RightCause m options claim why → Writes second third (written_text m why) status result → WritesBehind m options claim status first third result
      begun why b right w = (Begun claim b.layers why, (refl, b.are, right), then_writes first second third (text_of_lines (open_lines m options claim b.layers)) (written_text m why) status result b.text w)
  written_behind (writtens.Better found) told writes =
      (Begun claim told.2.layers (writtens.Better found), (refl, told.2.are, (told.0, told.1)), then_writes first second third (text_of_lines (open_lines m options claim told.2.layers)) (written_text m (writtens.Better found)) status result told.2.text writes)
  written_behind (writtens.Fault fault) told writes =
      (Begun claim told.1.layers (writtens.Fault fault), (refl, told.1.are, told.0), then_writes first second third (text_of_lines (open_lines m options claim told.1.layers)) (written_text m (writtens.Fault fault)) status result told.1.text writes)

  -- memory ran out
  pub no_room_behind : Tells m options claim first second (Err ends.Memory) → Writes second third (line (codes "memory")) statuses.Memory result → WritesBehind m options claim status first third result
  no_room_behind (inl b) writes =
      (OutOfRoom claim b.layers, (refl, b.are), then_writes first second third (text_of_lines (open_lines m options claim b.layers)) (line (codes "memory")) statuses.Memory result b.text writes)
  no_room_behind (inr none) writes = (NoRoom, tt, then_writes first second third [] (line (codes "memory")) statuses.Memory result none writes)

-- A write failed. A front of whole lines is one of these lines and `memory` behind them.
pub broken_behind : (m : Model) (options : Options) (claim : Claim) (status : Status) (first second : Option (List ℕ)) → Tells m options claim first second (Err ends.Write) → WritesBehind m options claim status first second statuses.WriteFault
broken_behind m options claim status first second (inl b) =
    (OutOfRoom claim b.layers, (refl, b.are), inr (refl, TakesFront-longer first second (text_of_lines (open_lines m options claim b.layers)) (line (codes "memory")) b.text))
broken_behind m options claim status first second (inr w) = (Whole w.cert, w.made, inr (refl, w.text))

pub puts_behind : (m : Model) (options : Options) (claim : Claim) (status : Status) (first second third : Option (List ℕ)) (f g : ℕ) (written : Written) (put : Result (Unit {0}) Failed) (result : Status) → Tells m options claim first second (Ok written) → Puts second third f g (written_text m written) put → OnOk put (result ≡ status) → OnErr put (result ≡ statuses.WriteFault)
    → WritesBehind m options claim status first third result
puts_behind m options claim status first second third f g written put result told puts ok err =
    written_behind m options claim status first second third result written told (put_writes second third f g (written_text m written) put status result puts ok err)

-- ---- behind a text that ends with a verdict

-- what is written where nothing can be said of a claim
abbrev any_behind : Option Claim → Behind
any_behind None = Nothing
any_behind (Some claim) = NoRoom

any_may : (m : Model) (options : Options) (certificate : Bool) (claimed : Option Claim) → (behind : Behind) × IsBehind certificate m options claimed behind
any_may m options false claimed = (Nothing, refl)
any_may m options true None = (Nothing, refl)
any_may m options true (Some claim) = (NoRoom, tt)

pub none_may : (m : Model) (options : Options) (certificate : Bool) (claimed : Option Claim) → claimed ≡ None → IsBehind certificate m options claimed Nothing
none_may m options false claimed e = refl
none_may m options true None e = refl
none_may m options true (Some claim) e = absurd cc

some_may : (m : Model) (options : Options) (claimed : Option Claim) (claim : Claim) (behind : Behind) → claimed ≡ Some claim → RightBehind m options claim behind → IsBehind true m options claimed behind
some_may m options claimed claim behind e right = subst (λ (x : Option Claim). IsBehind true m options x behind) (sym e) right

module _ (m : Model) (options : Options) (first second : Option (List ℕ)) (text : List ℕ) (claimed : Option Claim) (wanted : Status) (solved : Solved)
    (printed : WasPrinted first second text claimed wanted solved) where
  -- nothing is written behind it
  alone : (certificate : Bool) → IsBehind certificate m options claimed Nothing → Writes first second text wanted solved.status → Follows certificate m options first second text claimed wanted solved.status
  alone certificate may writes = (Nothing, may, as_text first second text (text ++ []) wanted solved.status (sym (append-nil text)) writes)

  -- the text was not written whole
  broken : (certificate : Bool) → solved.status ≡ statuses.WriteFault → TakesFront first second text → Follows certificate m options first second text claimed wanted solved.status
  broken certificate is front =
      let any = any_may m options certificate claimed in
      (any.0, any.1, inr (is, TakesFront-longer first second text (behind_text m options any.0) front))

  -- no certificate is asked for
  pub follows_alone : Follows false m options first second text claimed wanted solved.status
  follows_alone = elim printed [ inl h ↦ alone false refl (inl (h.0, h.1)) | inr h ↦ broken false h.0 h.1 ]

  -- nothing is claimed
  pub follows_silent : solved.claim ≡ None → Follows true m options first second text claimed wanted solved.status
  follows_silent none = elim printed [ inl h ↦ alone true (none_may m options true claimed (sym h.2 ∙ none)) (inl (h.0, h.1)) | inr h ↦ broken true h.0 h.1 ]

  -- a certificate stands behind it
  pub follows_behind : (claim : Claim) (third : Option (List ℕ)) (status : Status) → solved.claim ≡ Some claim → WritesBehind m options claim solved.status second third status → Follows true m options first third text claimed wanted status
  follows_behind claim third status is w = elim printed [
    | inl h ↦ (
      w.0,
      some_may m options claimed claim w.0 (sym h.2 ∙ is) w.1,
      subst (λ (s : Status). Prints first third text m options w.0 s status) h.0 (then_prints m options w.0 first second third text solved.status status h.1 w.2),
    )
    | inr h ↦ let clash : None ≡ Some claim = sym h.2 ∙ is in absurd cc
  ]

-- a certificate is asked for or not
pub if_asked : (m : Model) (options : Options) (certificate asked : Bool) (before after : Option (List ℕ)) (text : List ℕ) (claimed : Option Claim) (wanted status : Status) → certificate ≡ asked → Follows asked m options before after text claimed wanted status → Follows certificate m options before after text claimed wanted status
if_asked m options certificate asked before after text claimed wanted status e follows = subst (λ (c : Bool). Follows c m options before after text claimed wanted status) (sym e) follows

-- the same with options that are equal
pub follows_as : (m : Model) (options others : Options) (certificate : Bool) (before after : Option (List ℕ)) (text : List ℕ) (claimed : Option Claim) (wanted status : Status) → options ≡ others → Follows certificate m options before after text claimed wanted status → Follows certificate m others before after text claimed wanted status
follows_as m options others certificate before after text claimed wanted status e follows = subst (λ (o : Options). Follows certificate m o before after text claimed wanted status) e follows

-- the claim that is answered
pub held_claim : (m : Model) (o : Option Claim) (claim : Claim) → IfSome o (ClaimHolds m) → o ≡ Some claim → ClaimHolds m claim
held_claim m o claim holds is = rw is at holds

-- where a failed write claims nothing, it was a later write that failed
pub rose_behind : (o : Option Claim) (claim : Claim) (status : Status) (f g : ℕ) → (status ≡ statuses.WriteFault → o ≡ None) → o ≡ Some claim → (status ≡ statuses.WriteFault) ⊎ Rose f g → ((status ≡ statuses.WriteFault) × (g ≡ f)) ⊎ Rose f g
rose_behind o claim status f g none some (inl fault) = let clash : None ≡ Some claim = sym (none fault) ∙ some in absurd cc
rose_behind o claim status f g none some (inr rose) = inr rose

-- a write of the text or of what stands behind it failed
pub rose_in_all : (status : Status) (first second third : ℕ) → (status ≡ statuses.WriteFault → Rose first second) → first ≤ second → ((status ≡ statuses.WriteFault) × (third ≡ second)) ⊎ Rose second third → Rose first third
rose_in_all status first second third before count (inl h) = subst (λ (n : ℕ). Rose first n) (sym h.1) (before h.0)
rose_in_all status first second third before count (inr (inl rose)) = inl (omega (arith, count, rose))
rose_in_all status first second third before count (inr (inr most)) = inr most

each_claim : (m : Model) (o : Option Claim) → ((claim : Claim) → o ≡ Some claim → ClaimHolds m claim) → IfSome o (ClaimHolds m)
each_claim m None h = tt
each_claim m (Some claim) h = h claim refl

-- ---- a search layer by layer

last_legal : (m : Model) (ss : List Found) (s : Found) → AllByRecursion (λ (x : Found). Solution m x.steps x.cost) ss → last_solution ss ≡ Some s → Solution m s.steps s.cost
last_legal m [] s all is = absurd cc
last_legal m (x ∷ []) s all is = let same : x ≡ s = cc in subst (λ (y : Found). Solution m y.steps y.cost) same all.0
last_legal m (x ∷ y ∷ ss) s all is = last_legal m (y ∷ ss) s all.1 is

claim_legal : (m : Model) (ss : List Found) (e : Ending) (claim : Claim) → AllByRecursion (λ (x : Found). Solution m x.steps x.cost) ss → claim_after (last_solution ss) e ≡ Some claim → ClaimHolds m claim
claim_legal m ss (Ended (verdicts.Optimal cost)) claim all is = of_last (last_solution ss) refl claim is
  where
    of_last : (last : Option Found) → last ≡ last_solution ss → (told : Claim) → claim_after last (Ended (verdicts.Optimal cost)) ≡ Some told → ClaimHolds m told
    of_last None e told is = absurd cc
    of_last (Some s) e told is = let same : claims.Optimal s ≡ told = cc in subst (ClaimHolds m) same (last_legal m ss s all (sym e))
claim_legal m ss (Ended verdicts.Infeasible) claim all is = let same : claims.Infeasible ≡ claim = cc in subst (ClaimHolds m) same tt
claim_legal m ss (Ended (verdicts.Stopped visits)) claim all is = absurd cc
claim_legal m ss (Ended (verdicts.Fault fault)) claim all is = absurd cc
claim_legal m ss (Ended (verdicts.Legal cost)) claim all is = absurd cc
claim_legal m ss (Ended (verdicts.Illegal done reason)) claim all is = absurd cc
claim_legal m ss OutOfMemory claim all is = absurd cc

no_write_fault : (e : Ending) → ending_status e ≡ statuses.WriteFault → ⊥
no_write_fault (Ended (verdicts.Optimal cost)) h = absurd cc
no_write_fault (Ended verdicts.Infeasible) h = absurd cc
no_write_fault (Ended (verdicts.Stopped v)) h = absurd cc
no_write_fault (Ended (verdicts.Fault f)) h = absurd cc
no_write_fault (Ended (verdicts.Legal cost)) h = absurd cc
no_write_fault (Ended (verdicts.Illegal n r)) h = absurd cc
no_write_fault OutOfMemory h = absurd cc

module _ (m : Model) (options : Options) (gap announce : Bool) (first second : Option (List ℕ)) (solved : Solved) (c : Concluded m options gap (All announce) first second solved) where
  -- the claim that is answered is of a legal list
  pub claims_hold : IfSome solved.claim (ClaimHolds m)
  claims_hold = each_claim m solved.claim (λ claim is. elim c.printed [
    | inl h ↦ claim_legal m (solutions c.run) c.run.ending claim c.right.legal (sym h.2 ∙ is)
    | inr h ↦ let clash : None ≡ Some claim = sym h.2 ∙ is in absurd cc
  ])

  -- after a failed write nothing is claimed
  pub unclaimed : solved.status ≡ statuses.WriteFault → solved.claim ≡ None
  unclaimed is = elim c.printed [ inl h ↦ absurd (no_write_fault c.run.ending (sym h.0 ∙ is)) | inr h ↦ h.2 ]

  -- the record was printed, and this behind it
  pub solves : (certificate : Bool) (third : Option (List ℕ)) (status : Status) → Follows certificate m options first third (record_text (All announce) m c.run) (claim_of c.run) (ending_status c.run.ending) status → Solves m options gap announce certificate first third status
  solves certificate third status follows = record { run = c.run; right = c.right; announcing = c.announcing; counted = c.counted; word = c.word; follows = follows }

-- ---- a search of the best node first

-- what a status claims with a legal list
claim_with_legal : (m : Model) (status : Status) (found : Option Found) (claim : Claim) → IfSome found (λ f. Solution m f.steps f.cost) → claim_with status found ≡ Some claim → ClaimHolds m claim
claim_with_legal m statuses.Success None claim legal is = absurd cc
claim_with_legal m statuses.Success (Some f) claim legal is = let same : claims.Optimal f ≡ claim = cc in subst (ClaimHolds m) same legal
claim_with_legal m statuses.Negative found claim legal is = let same : claims.Infeasible ≡ claim = cc in subst (ClaimHolds m) same tt
claim_with_legal m statuses.Usage found claim legal is = absurd cc
claim_with_legal m statuses.Refused found claim legal is = absurd cc
claim_with_legal m statuses.ReadFault found claim legal is = absurd cc
claim_with_legal m statuses.WriteFault found claim legal is = absurd cc
claim_with_legal m statuses.Memory found claim legal is = absurd cc
claim_with_legal m statuses.TooLong found claim legal is = absurd cc
claim_with_legal m statuses.Stopped found claim legal is = absurd cc
claim_with_legal m statuses.Fault found claim legal is = absurd cc

no_best_write_fault : (e : BestEnding) → bests.ending_status e ≡ statuses.WriteFault → ⊥
no_best_write_fault (best.Ended (verdicts.Optimal cost)) h = absurd cc
no_best_write_fault (best.Ended verdicts.Infeasible) h = absurd cc
no_best_write_fault (best.Ended (verdicts.Stopped v)) h = absurd cc
no_best_write_fault (best.Ended (verdicts.Fault f)) h = absurd cc
no_best_write_fault (best.Ended (verdicts.Legal cost)) h = absurd cc
no_best_write_fault (best.Ended (verdicts.Illegal n r)) h = absurd cc
no_best_write_fault best.OutOfMemory h = absurd cc

module _ (m : Model) (options : Options) (first second : Option (List ℕ)) (solved : Solved) (c : bests.Concluded m options first second solved) where
  pub best_claims_hold : IfSome solved.claim (ClaimHolds m)
  best_claims_hold = each_claim m solved.claim (λ claim is. elim c.printed [
    | inl h ↦ claim_with_legal m (bests.ending_status c.run.ending) c.run.found claim c.right.legal (sym h.2 ∙ is)
    | inr h ↦ let clash : None ≡ Some claim = sym h.2 ∙ is in absurd cc
  ])

  pub best_unclaimed : solved.status ≡ statuses.WriteFault → solved.claim ≡ None
  best_unclaimed is = elim c.printed [ inl h ↦ absurd (no_best_write_fault c.run.ending (sym h.0 ∙ is)) | inr h ↦ h.2 ]

  pub solves_best : (certificate : Bool) (third : Option (List ℕ)) (status : Status) → Follows certificate m (keeping_all options) first third (bests.run_text m c.run) (bests.claim_of c.run) (bests.ending_status c.run.ending) status → SolvesBest m options certificate first third status
  solves_best certificate third status follows = record { run = c.run; right = c.right; counted = c.counted; word = c.word; follows = follows }

  not_read_fault : (e : BestEnding) → bests.ending_status e ≡ statuses.ReadFault → ⊥
  not_read_fault (best.Ended (verdicts.Optimal cost)) h = absurd cc
  not_read_fault (best.Ended verdicts.Infeasible) h = absurd cc
  not_read_fault (best.Ended (verdicts.Stopped v)) h = absurd cc
  not_read_fault (best.Ended (verdicts.Fault f)) h = absurd cc
  not_read_fault (best.Ended (verdicts.Legal cost)) h = absurd cc
  not_read_fault (best.Ended (verdicts.Illegal n r)) h = absurd cc
  not_read_fault best.OutOfMemory h = absurd cc

  -- no search ends with the status of a read fault
  pub best_no_read_fault : solved.status ≡ statuses.ReadFault → ⊥
  best_no_read_fault h = elim c.printed [ inl p ↦ not_read_fault c.run.ending (sym p.0 ∙ h) | inr p ↦ let e : statuses.WriteFault ≡ statuses.ReadFault = sym p.0 ∙ h in absurd cc ]
