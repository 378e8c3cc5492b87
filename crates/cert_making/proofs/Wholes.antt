-- What a making wrote when it ends: a whole certificate, or a part of one.
use Rattle.std.proofs.Common.{◌≡◌, ℕ, ◌+◌, ◌^◌, ◌<◌, ◌≤◌, inl, inr, suc, true, List, [], ◌∷◌, ◌++◌, length, Option, Some, None, Result, Ok, Err, refl, sym, ap, subst, ◌∙◌, arith, append_assoc}
use Rattle.std.specs.Prelude.{ℤ, pos, IsErrAnd, ◌<ℤ◌}
use Rattle.std.proofs.lemmas.List.{append-nil}
use Rattle.dp_base.specs.Bytes.{line}
use Rattle.cost_laws.specs.Laws.{better_by_word}
use Rattle.dp_model.specs.Costs.{order_word}
use Rattle.dp_model.specs.declared.answers.Claim.{Claim}
use Rattle.dp_model.specs.declared.answers.Claim.TheVariants as claims
use Rattle.dp_model.specs.declared.answers.Options.{Options}
use Rattle.dp_model.specs.declared.answers.Written.{Written}
use Rattle.dp_model.specs.declared.whole.Model.{Model}
use Rattle.dp_outside.specs.declared.failing.Failed.{Failed}
use Rattle.dp_outside.specs.Outside.{Rose, Takes, TakesFront}
use Rattle.dp_outside.proofs.Steps.{Takes-more}
use Rattle.pass_ledger.specs.Passes.{Pass}
use Rattle.pass_ledger.specs.Records.{Done}
use Rattle.solve_report.specs.Puts.{Puts}
use Rattle.solve_report.proofs.Written.{TakesFront-append, TakesFront-longer}
use Rattle.shard_core.specs.Calls.{IsReady}
use Rattle.shard_core.specs.declared.shard.Shard.{Shard}
use Rattle.cert_types.specs.Lines.{line_of_end}
use Rattle.cert_types.specs.declared.cert.Cert.{Cert}
use Rattle.cert_types.specs.declared.nodes.CertNode.{CertNode}
use Rattle.cert_laws.specs.Shown.{layer_of, ClaimHolds, Shown, claimed_word}
use Rattle.cert_rows.specs.Rows.{AreRows}
use Rattle.cert_rows.proofs.Backed.{law_of_rows}
use Rattle.cert_rows.proofs.Ends.{exhausted}
use Rattle.cert_rows.proofs.Layers.{law_of_layers}
use Rattle.cert_text.specs.Texts.{end_line, layer_lines, layers_lines, head_lines, text_of_lines}
use Rattle.cert_making.specs.Makes.{Ends, IsUnwritten, Makes, Stops, Works, Writes, with_layer}
use Rattle.cert_making.specs.Written.{AreLayers, HasHead, IsBegun, IsBetterThan, IsFrontOfWhole, IsMade, IsWhole, PutsLast, PutsTarget, Tells, open_lines}
use Rattle.cert_making.specs.declared.ends.CertEnd.{CertEnd}
use Rattle.cert_making.specs.declared.ends.CertEnd.TheVariants as ends
use Rattle.cert_making.specs.declared.ends.Halt.{Halt}
use Rattle.cert_making.specs.declared.ends.Halt.TheVariants as halts
use Rattle.cert_making.specs.declared.progress.Progress.{Progress}
use Rattle.cert_making.proofs.Named.{layers_named}
use Rattle.cert_making.proofs.Turns.{if_err, if_ok, me_first}
use Rattle.cert_making.proofs.Texts.{broken_layer, full_push, lines_append, lines_enough, open_push}

-- ---- the layers

module _ {A B : Type 0} (p : Pass) (claimed budget : ℕ) (s : Shard A B) (layers : List (List CertNode)) (first : ℕ) (a : Makes p claimed budget s layers first) where
  pub are_layers : ((l : ℕ) → l < length layers → 0 < length (layer_of layers l)) → AreLayers p.model layers
  are_layers full =
      let law = law_of_layers p a.shard_record layers a.on.rows in
      record { made = law.0; parents = law.1; named = layers_named p a.shard_record layers a.on.rows; full = full }

pub begun : (m : Model) (options : Options) (claim : Claim) (before now : Option (List ℕ)) (layers : List (List CertNode)) (progress : Progress) → Writes m options claim before now layers progress → AreLayers m layers → IsBegun m options claim before now
begun m options claim before now layers progress w are = record { layers = layers; are = are; text = w.text }

pub full_with : (layers : List (List CertNode)) (cs : List CertNode) → ((l : ℕ) → l < length layers → 0 < length (layer_of layers l)) → (l : ℕ) → l < length (with_layer layers cs) → 0 < length (layer_of (with_layer layers cs) l)
full_with layers [] full = full
full_with layers (c ∷ cs) full = full_push layers (c ∷ cs) full (some (length cs))
  where
    some : (a : ℕ) → 0 < suc a
    some a = omega arith

-- a layer was not written
pub unwritten : {A B : Type 0} (p : Pass) (options : Options) (claim : Claim) (claimed budget : ℕ) (s : Shard A B) (before now : Option (List ℕ)) (layers : List (List CertNode)) (cs : List CertNode) (halt : Halt)
    → IsUnwritten p.model options claim before now layers cs halt → AreLayers p.model layers → AreLayers p.model (with_layer layers cs) → Stops p options claim claimed budget s before now halt
unwritten p options claim claimed budget s before now layers cs halts.Budget h are with = absurd h
unwritten p options claim claimed budget s before now layers cs halts.Better h are with = absurd h
unwritten p options claim claimed budget s before now layers cs halts.Fault h are with = absurd h
unwritten p options claim claimed budget s before now layers cs halts.Memory h are with = record { layers = layers; are = are; text = h }
unwritten p options claim claimed budget s before now layers [] halts.Write h are with = absurd (none h.1)
  where
    none : 0 < 0 → ⊥
    none lt = absurd (omega (arith, lt))
unwritten p options claim claimed budget s before now layers (c ∷ cs) halts.Write h are with = inl (record { layers = layers ++ (c ∷ cs) ∷ []; are = with; text = broken_layer p.model options claim before now layers (c ∷ cs) h.0 })

-- the shard ended behind a whole layer
pub ended : {A B : Type 0} (p : Pass) (options : Options) (claim : Claim) (claimed budget : ℕ) (s : Shard A B) (before now : Option (List ℕ)) (halt : Halt) → Ends p claimed budget s halt → IsBegun p.model options claim before now → Stops p options claim claimed budget s before now halt
ended p options claim claimed budget s before now halts.Budget h b = (h, b)
ended p options claim claimed budget s before now halts.Better h b = (h, b)
ended p options claim claimed budget s before now halts.Fault h b = (h, b)
ended p options claim claimed budget s before now halts.Memory h b = b
ended p options claim claimed budget s before now halts.Write h b = absurd h

-- ---- whole certificates

-- the last line, behind the others, ends a certificate's text
text_whole : (m : Model) (options : Options) (claim : Claim) (layers : List (List CertNode))
    → text_of_lines (open_lines m options claim layers) ++ line (end_line (length layers)) ≡ text_of_lines (head_lines m options.keep options.prune claim ++ (layers_lines m 0 layers ++ end_line (length layers) ∷ []))
text_whole m options claim layers =
    ap (λ (t : List ℕ). text_of_lines (open_lines m options claim layers) ++ t) (sym (append-nil (line (end_line (length layers)))))
    ∙ (sym (lines_append (open_lines m options claim layers) (end_line (length layers) ∷ []))
    ∙ ap text_of_lines (append_assoc (head_lines m options.keep options.prune claim) (layers_lines m 0 layers) (end_line (length layers) ∷ [])))

-- a certificate of these layers, which shows the claim
module _ (m : Model) (options : Options) (claim : Claim) (layers : List (List CertNode)) (are : AreLayers m layers) (few : line_of_end 1 claim layers < 2 ^ 32)
    (shown : (cert : Cert) → cert.keep ≡ options.keep → cert.prune ≡ options.prune → cert.claim ≡ claim → cert.layers ≡ layers → Shown m cert) where
  abbrev cert_with : Cert
  cert_with = record { first = 1; keep = options.keep; prune = options.prune; claim = claim; layers = layers; made = are.made; parents = are.parents; few_lines = few }

  made_with : IsMade m options claim cert_with
  made_with = record { keep = refl; prune = refl; claim_is = refl; full = are.full; shown = shown cert_with refl refl refl refl }

  whole_with : (before after : Option (List ℕ)) → Takes before after (text_of_lines (open_lines m options claim layers) ++ line (end_line (length layers))) → IsWhole m options claim before after
  whole_with before after h = record { cert = cert_with; made = made_with; text = subst (λ (t : List ℕ). Takes before after t) (text_whole m options claim layers) h }

  front_with : (before after : Option (List ℕ)) → TakesFront before after (text_of_lines (open_lines m options claim layers) ++ line (end_line (length layers))) → IsFrontOfWhole m options claim before after
  front_with before after h = record { cert = cert_with; made = made_with; text = subst (λ (t : List ℕ). TakesFront before after t) (text_whole m options claim layers) h }

-- the last line was put behind the layers
pub told_last : (m : Model) (options : Options) (claim : Claim) (before now after : Option (List ℕ)) (faults_now faults_after count : ℕ) (layers : List (List CertNode)) (are : AreLayers m layers) → line_of_end 1 claim layers < 2 ^ 32 → count ≡ length layers
    → ((cert : Cert) → cert.keep ≡ options.keep → cert.prune ≡ options.prune → cert.claim ≡ claim → cert.layers ≡ layers → Shown m cert)
    → Takes before now (text_of_lines (open_lines m options claim layers)) → (result : Result Written CertEnd) → PutsLast now after faults_now faults_after count result → Tells m options claim before after result
told_last m options claim before now after faults_now faults_after count layers are few is shown h (Ok w) puts =
    let k = subst (λ (n : ℕ). Takes now after (line (end_line n))) is puts.whole.1 in
    subst (λ (x : Written). Tells m options claim before after (Ok x)) (sym puts.whole.0)
    (whole_with m options claim layers are few shown before after (Takes-more before now after (text_of_lines (open_lines m options claim layers)) (line (end_line (length layers))) h k))
told_last m options claim before now after faults_now faults_after count layers are few is shown h (Err e) puts =
    let k = subst (λ (n : ℕ). TakesFront now after (line (end_line n))) is puts.broken.1 in
    subst (λ (x : CertEnd). Tells m options claim before after (Err x)) (sym puts.broken.0)
    (inr (front_with m options claim layers are few shown before after (TakesFront-append before now after (text_of_lines (open_lines m options claim layers)) (line (end_line (length layers))) h k)))

-- the pass is exhausted
pub exhausted_shown : {A B : Type 0} (p : Pass) (options : Options) (claim : Claim) (claimed budget : ℕ) (s : Shard A B) (before now : Option (List ℕ)) (progress : Progress) (w : Works p options claim claimed budget s before now progress) → Done p 0 w.makes.shard_record
    → ClaimHolds p.model claim → claimed_word p.model claim ≡ pos claimed → p.keep ≡ options.keep → p.prune ≡ options.prune
    → (cert : Cert) → cert.keep ≡ options.keep → cert.prune ≡ options.prune → cert.claim ≡ claim → cert.layers ≡ w.layers → Shown p.model cert
exhausted_shown p options claim claimed budget s before now progress w done holds word keep prune cert ck cp cc_is cl =
    law_of_rows p w.makes.shard_record claimed cert (exhausted p claimed w.makes.shard_record w.layers progress.first w.makes.on done w.ready.idle)
    (record {
      keep = ck ∙ sym keep;
      prune = cp ∙ sym prune;
      claim = subst (λ (c : Claim). ClaimHolds p.model c) (sym cc_is) holds;
      claimed_is = ap (claimed_word p.model) cc_is ∙ word;
      rows = subst (λ (ls : List (List CertNode)). AreRows p w.makes.shard_record.rows w.makes.shard_record.waiting w.makes.shard_record.visits w.makes.shard_record.pruned ls) (sym cl) w.makes.on.rows;
    })

-- ---- better than the claim

pub better_than : (m : Model) (claim : Claim) (claimed : ℕ) (cost : ℤ) → claimed_word m claim ≡ pos claimed → order_word m.minimize m.join (Some cost) <ℤ pos claimed → IsBetterThan m claim cost
better_than m (claims.Optimal found) claimed cost is less = (better_by_word m.minimize m.join cost found.cost).1 (subst (λ (w : ℤ). order_word m.minimize m.join (Some cost) <ℤ w) (sym is) less)
better_than m claims.Infeasible claimed cost is less = tt

-- ---- between two layers

module _ {A B : Type 0} (p : Pass) (options : Options) (claim : Claim) (claimed budget : ℕ) (s : Shard A B) (before now : Option (List ℕ)) (progress : Progress) (w : Works p options claim claimed budget s before now progress) where
  pub works_layers : AreLayers p.model w.layers
  works_layers = are_layers p claimed budget s w.layers progress.first w.makes w.writes.full

  -- memory ran out before the next layer was written
  pub stop_memory : (s' : Shard A B) (halt : Halt) → halt ≡ halts.Memory → Stops p options claim claimed budget s' before now halt
  stop_memory s' halt e = subst (λ (h : Halt). Stops p options claim claimed budget s' before now h) (sym e) (begun p.model options claim before now w.layers progress w.writes works_layers)

  -- it was not written
  pub stop_write : (s' : Shard A B) (cs : List CertNode) (first : ℕ) → Makes p claimed budget s' (with_layer w.layers cs) first → (now' : Option (List ℕ)) (halt : Halt) → IsUnwritten p.model options claim before now' w.layers cs halt → Stops p options claim claimed budget s' before now' halt
  stop_write s' cs first b now' halt h = unwritten p options claim claimed budget s' before now' w.layers cs halt h works_layers (are_layers p claimed budget s' (with_layer w.layers cs) first b (full_with w.layers cs w.writes.full))

pub stop_visit : {A B : Type 0} (p : Pass) (options : Options) (claim : Claim) (claimed budget : ℕ) (s s' : Shard A B) (layers : List (List CertNode)) (first : ℕ) → Makes p claimed budget s layers first → (before now : Option (List ℕ)) (progress : Progress)
    → Writes p.model options claim before now layers progress → (halt : Halt) → Ends p claimed budget s' halt → Stops p options claim claimed budget s' before now halt
stop_visit p options claim claimed budget s s' layers first b before now progress w halt h =
    ended p options claim claimed budget s' before now halt h (begun p.model options claim before now layers progress w (are_layers p claimed budget s layers first b w.full))

pub works_next : {A B : Type 0} (p : Pass) (options : Options) (claim : Claim) (claimed budget : ℕ) (s : Shard A B) (layers : List (List CertNode)) (before now : Option (List ℕ)) (progress : Progress) → (b : Makes p claimed budget s layers progress.first) → IsReady p 0 b.shard_record
    → Writes p.model options claim before now layers progress → Works p options claim claimed budget s before now progress
works_next p options claim claimed budget s layers before now progress b rdy w = record { layers = layers; makes = b; ready = rdy; writes = w }

pub no_write : {A B : Type 0} (p : Pass) (claimed budget : ℕ) (s : Shard A B) (halt : Halt) → Ends p claimed budget s halt → halt ≡ halts.Write → ⊥
no_write p claimed budget s halt h e = subst (λ (x : Halt). Ends p claimed budget s x) e h

pub halted : {A B : Type 0} (p : Pass) (options : Options) (claim : Claim) (claimed budget : ℕ) (s : Shard A B) (before now : Option (List ℕ)) (halt is : Halt) → halt ≡ is → Stops p options claim claimed budget s before now halt → Stops p options claim claimed budget s before now is
halted p options claim claimed budget s before now halt is e h = subst (λ (x : Halt). Stops p options claim claimed budget s before now x) e h

pub tells_error : (m : Model) (options : Options) (claim : Claim) (before now : Option (List ℕ)) (e e' : CertEnd) → e ≡ e' → Tells m options claim before now (Err e') → Tells m options claim before now (Err e)
tells_error m options claim before now e e' same h = subst (λ (x : CertEnd). Tells m options claim before now (Err x)) (sym same) h

-- ---- the last lines

pub last_broken : (before after : Option (List ℕ)) (faults_before faults_after layers : ℕ) (failed : Failed) (r : Result Written CertEnd) → IsErrAnd r (λ y. y ≡ ends.Write) → Puts before after faults_before faults_after (line (end_line layers)) (Err failed) → PutsLast before after faults_before faults_after layers r
last_broken before after faults_before faults_after layers failed (Ok w) is puts = absurd is
last_broken before after faults_before faults_after layers failed (Err y) is puts = record { whole = tt; broken = (is, puts.err, puts.failed); count = puts.count }

pub target_broken : (m : Model) (before after : Option (List ℕ)) (faults_before faults_after : ℕ) (nodes : List CertNode) (failed : Failed) (r : Result Written CertEnd) → nodes ≡ record { made = None; cut = true } ∷ [] → IsErrAnd r (λ y. y ≡ ends.Write)
    → Puts before after faults_before faults_after (text_of_lines (layer_lines m 0 nodes)) (Err failed) → PutsTarget m before after faults_before faults_after r
target_broken m before after faults_before faults_after nodes failed (Ok w) same is puts = absurd is
target_broken m before after faults_before faults_after nodes failed (Err y) same is puts =
    let front = subst (λ (cs : List CertNode). TakesFront before after (text_of_lines (layer_lines m 0 cs))) same puts.err in
    record {
      whole = tt;
      broken = (
        is,
        subst (λ (t : List ℕ). TakesFront before after t) (sym (lines_append (layer_lines m 0 (record { made = None; cut = true } ∷ [])) (end_line 1 ∷ [])))
            (TakesFront-longer before after (text_of_lines (layer_lines m 0 (record { made = None; cut = true } ∷ []))) (text_of_lines (end_line 1 ∷ [])) front),
        puts.failed,
      );
      count = puts.count;
    }

abbrev cut_text : Model → List ℕ
cut_text m = text_of_lines (layer_lines m 0 (record { made = None; cut = true } ∷ []))

abbrev cut_all : Model → List ℕ
cut_all m = text_of_lines (layer_lines m 0 (record { made = None; cut = true } ∷ []) ++ end_line 1 ∷ [])

cut_whole : (m : Model) → cut_text m ++ line (end_line 1) ≡ cut_all m
cut_whole m = ap (λ (t : List ℕ). cut_text m ++ t) (sym (append-nil (line (end_line 1)))) ∙ sym (lines_append (layer_lines m 0 (record { made = None; cut = true } ∷ [])) (end_line 1 ∷ []))

-- behind the head these are all lines of a certificate
cut_last : (m : Model) (options : Options) (claim : Claim) → text_of_lines (open_lines m options claim []) ++ cut_all m ≡ text_of_lines (open_lines m options claim ((record { made = None; cut = true } ∷ []) ∷ [])) ++ line (end_line 1)
cut_last m options claim =
    ap (λ (t : List ℕ). text_of_lines (open_lines m options claim []) ++ t) (sym (cut_whole m))
    ∙ (sym (append_assoc (text_of_lines (open_lines m options claim [])) (cut_text m) (line (end_line 1)))
    ∙ ap (λ (t : List ℕ). t ++ line (end_line 1))
    (sym (lines_append (open_lines m options claim []) (layer_lines m 0 (record { made = None; cut = true } ∷ []))) ∙ ap text_of_lines (sym (open_push m options claim [] (record { made = None; cut = true } ∷ [])))))

pub rose_later : (a b c : ℕ) → a ≤ b → Rose b c → Rose a c
rose_later a b c h (inl less) = inl (omega (arith, h, less))
rose_later a b c h (inr most) = inr most

pub target_more : (m : Model) (before now after : Option (List ℕ)) (faults_before faults_now faults_after : ℕ) (nodes : List CertNode) (done : Unit {0}) (r : Result Written CertEnd) → nodes ≡ record { made = None; cut = true } ∷ []
    → Puts before now faults_before faults_now (text_of_lines (layer_lines m 0 nodes)) (Ok done) → PutsLast now after faults_now faults_after 1 r → PutsTarget m before after faults_before faults_after r
target_more m before now after faults_before faults_now faults_after nodes done r same puts last =
    let taken : Takes before now (cut_text m) = subst (λ (cs : List CertNode). Takes before now (text_of_lines (layer_lines m 0 cs))) same puts.ok in
    record {
      whole = if_ok r last.whole (λ w h. (h.0, subst (λ (t : List ℕ). Takes before after t) (cut_whole m) (Takes-more before now after (cut_text m) (line (end_line 1)) taken h.1)));
      broken = if_err r last.broken (λ e h. (h.0, subst (λ (t : List ℕ). TakesFront before after t) (cut_whole m) (TakesFront-append before now after (cut_text m) (line (end_line 1)) taken h.1), rose_later faults_before faults_now faults_after puts.count h.2));
      count = up faults_before faults_now faults_after puts.count last.count;
    }
  where
    up : (a b c : ℕ) → a ≤ b → b ≤ c → a ≤ c
    up a b c h k = omega (arith, h, k)

-- the target's node was put, which is cut, and the last line
pub told_target : (m : Model) (options : Options) (claim : Claim) (before now after : Option (List ℕ)) (faults_now faults_after : ℕ) → AreLayers m ((record { made = None; cut = true } ∷ []) ∷ []) → line_of_end 1 claim ((record { made = None; cut = true } ∷ []) ∷ []) < 2 ^ 32
    → ((cert : Cert) → cert.keep ≡ options.keep → cert.prune ≡ options.prune → cert.claim ≡ claim → cert.layers ≡ (record { made = None; cut = true } ∷ []) ∷ [] → Shown m cert)
    → Takes before now (text_of_lines (open_lines m options claim [])) → (result : Result Written CertEnd) → PutsTarget m now after faults_now faults_after result → Tells m options claim before after result
told_target m options claim before now after faults_now faults_after are few shown h (Ok w) puts =
    subst (λ (x : Written). Tells m options claim before after (Ok x)) (sym puts.whole.0)
    (whole_with m options claim ((record { made = None; cut = true } ∷ []) ∷ []) are few shown before after
    (subst (λ (t : List ℕ). Takes before after t) (cut_last m options claim) (Takes-more before now after (text_of_lines (open_lines m options claim [])) (cut_all m) h puts.whole.1)))
told_target m options claim before now after faults_now faults_after are few shown h (Err e) puts =
    subst (λ (x : CertEnd). Tells m options claim before after (Err x)) (sym puts.broken.0)
    (inr (front_with m options claim ((record { made = None; cut = true } ∷ []) ∷ []) are few shown before after
    (subst (λ (t : List ℕ). TakesFront before after t) (cut_last m options claim) (TakesFront-append before now after (text_of_lines (open_lines m options claim [])) (cut_all m) h puts.broken.1))))

-- ---- the answers

pub told_up : (m : Model) (options : Options) (claim : Claim) (before now : Option (List ℕ)) (r : Result Written CertEnd) (e : CertEnd) → IsErrAnd r (λ y. y ≡ e) → Tells m options claim before now (Err e) → Tells m options claim before now r
told_up m options claim before now (Ok w) e is h = absurd is
told_up m options claim before now (Err y) e is h = subst (λ (x : CertEnd). Tells m options claim before now (Err x)) (sym is) h

pub memory_not_write : (r : Result Written CertEnd) → IsErrAnd r (λ y. y ≡ ends.Memory) → r ≡ Err ends.Write → ⊥
memory_not_write (Ok w) is e = absurd is
memory_not_write (Err y) is e = other y is (same y e)
  where
    same : (y : CertEnd) → ◌≡◌ {A = Result Written CertEnd} (Err y) (Err ends.Write) → y ≡ ends.Write
    same y e = cc

    other : (y : CertEnd) → y ≡ ends.Memory → y ≡ ends.Write → ⊥
    other y a b = let clash : ends.Memory ≡ ends.Write = sym a ∙ b in cc

pub first_works : {A B : Type 0} (p : Pass) (options : Options) (claim : Claim) (claimed budget : ℕ) (s : Shard A B) (before now : Option (List ℕ)) (lines : ℕ) → (a : Makes p claimed budget s [] 0) × IsReady p 0 a.shard_record → HasHead p.model options claim before now
    → lines ≡ line_of_end 1 claim [] → lines + 2 < 2 ^ 32 → Works p options claim claimed budget s before now (record { layers = 0; lines = lines; first = 0 })
first_works p options claim claimed budget s before now lines a head is few =
    record {
      layers = [];
      makes = a.0;
      ready = a.1;
      writes = record { text = head; count = refl; lines = is; few = less lines few; full = λ l lt. absurd (none l lt) };
    }
  where
    less : (n : ℕ) → n + 2 < 2 ^ 32 → n < 2 ^ 32
    less n h = omega (arith, h)

    none : (l : ℕ) → l < 0 → ⊥
    none l lt = absurd (omega (arith, lt))

pub last_few : {n lines : ℕ} → lines ≡ n → lines < 2 ^ 32 → n < 2 ^ 32
last_few {n} {lines} e h = subst (λ (k : ℕ). k < 2 ^ 32) e h

pub memory_no_write : halts.Memory ≡ halts.Write → ⊥
memory_no_write e = cc

-- the visits of a layer say nothing of what is written
pub writes_first : (m : Model) (options : Options) (claim : Claim) (before now : Option (List ℕ)) (layers : List (List CertNode)) (progress : Progress) (first : ℕ) → Writes m options claim before now layers progress → Writes m options claim before now layers (record progress { first = first })
writes_first m options claim before now layers progress first w = record { text = w.text; count = w.count; lines = w.lines; few = w.few; full = w.full }

pub done_first : {A B : Type 0} (p : Pass) (claimed budget : ℕ) (s : Shard A B) (layers : List (List CertNode)) (first : ℕ) (a : Makes p claimed budget s layers first) → Done p s.me a.shard_record → Done p 0 a.shard_record
done_first p claimed budget s layers first a done = subst (λ (i : ℕ). Done p i a.shard_record) (me_first p claimed budget layers first s a) done

-- a layer has a line at least
pub layers_within : (claim : Claim) (layers : List (List CertNode)) (progress_layers lines : ℕ) → progress_layers ≡ length layers → lines ≡ line_of_end 1 claim layers → progress_layers ≤ lines
layers_within claim layers n lines count e = few n lines (length layers) (line_of_end 1 claim layers) count e (lines_enough claim layers)
  where
    few : (n lines a b : ℕ) → n ≡ a → lines ≡ b → a ≤ b → n ≤ lines
    few n lines a b h k le = omega (arith, h, k, le)
