-- The pass of a search for a certificate, and what it begins with.
use Rattle.std.proofs.Common.{◌≡◌, ℕ, ◌+◌, ◌^◌, ◌<◌, ◌≤◌, ◌%◌, ◌⊎◌, inl, true, Bool, List, [], ◌∷◌, length, Option, Some, None, Ok, Err, refl, sym, ap, subst, ◌∙◌, arith}
use Rattle.std.specs.Prelude.{ℤ, pos, ◌≤ℤ◌, ◌<ℤ◌}
use Rattle.std.proofs.lemmas.List.{append-nil}
use Rattle.std.proofs.lemmas.Nat.{mod_below}
use Rattle.dp_model.specs.Costs.{InRange, order_word}
use Rattle.dp_model.specs.declared.answers.Claim.{Claim}
use Rattle.dp_model.specs.declared.answers.FaultKind.{FaultKind}
use Rattle.dp_model.specs.declared.answers.Options.{Options}
use Rattle.dp_model.specs.declared.answers.Spot.{Spot}
use Rattle.dp_model.specs.declared.parts.PlainState.{PlainState}
use Rattle.dp_model.specs.declared.whole.Model.{Model}
use Rattle.dp_outside.specs.Outside.{Takes, TakesFront}
use Rattle.dp_steps.specs.Bounds.{IsFloor}
use Rattle.dp_steps.specs.Faults.{Meets, MeetsIn}
use Rattle.dp_steps.specs.Lists.{Solution}
use Rattle.dp_steps.specs.States.{Base, Forbidden, Inner}
use Rattle.pass_ledger.specs.Passes.{Pass, IsStart}
use Rattle.state_layout.specs.Signatures.{hash_of, owner_of, signature_of}
use Rattle.state_layout.specs.Slots.{slots_of}
use Rattle.state_layout.specs.declared.node.Node.{Node}
use Rattle.visit_laws.specs.Starts as begins
use Rattle.cert_types.specs.declared.cert.Cert.{Cert}
use Rattle.cert_types.specs.declared.nodes.CertNode.{CertNode}
use Rattle.cert_laws.specs.Shown.{layer_of, ClaimHolds, IsNotBelow, Shown, TargetEnds, claimed_word}
use Rattle.cert_rows.proofs.Backed.{law_of_cut, law_of_target}
use Rattle.cert_text.specs.Texts.{head_lines, text_of_lines}
use Rattle.cert_making.specs.Makes.{IsPassFor}
use Rattle.dp_model.specs.declared.answers.FaultAt.{FaultAt}
use Rattle.dp_model.specs.declared.answers.Written.TheVariants as writtens
use Rattle.successors.specs.Answers.{Answers}
use Rattle.successors.specs.declared.ends.ExpandEnd.{ExpandEnd}
use Rattle.successors.specs.declared.ends.ExpandEnd.TheVariants as expand_ends
use Rattle.visit_laws.proofs.Starts.{start_faults}
use Rattle.dp_model.specs.declared.answers.Found.{Found}
use Rattle.dp_model.specs.declared.answers.Keep.{Keep}
use Rattle.shard_core.specs.Stands.{Suited}
use Rattle.cert_making.proofs.Wholes.{better_than}
use Rattle.cert_making.specs.Written.{AreLayers, HasHead, IsBegun, IsBetterThan, IsBroken, Tells}
use Rattle.cert_types.specs.Lines.{line_of_end}
use Rattle.cost_laws.specs.Orders.{IsLawOf}
use Rattle.dp_model.specs.declared.parts.JoinOp.{JoinOp}
use Rattle.successors.specs.Starts.{StartFits, start_at}
use Rattle.successors.specs.declared.starts.Start.{Start}
use Rattle.cert_making.proofs.Texts.{lines_push}
use Rattle.cert_making.proofs.Turns.{pos_less, pos_mono}

-- ---- the pass

pub below_one : (n : ℕ) → n % 1 < 1
below_one n = mod_below n 1 (omega arith)

abbrev pub the_pass : (m : Model) (options : Options) → Pass
the_pass m options =
    record {
      model = m;
      prune = options.prune;
      keep = options.keep;
      shards = 1;
      share = 2 ^ 62;
      owner = λ s. owner_of (slots_of m.objects m.variables) s 1;
      owned = λ s. below_one (hash_of (signature_of (slots_of m.objects m.variables) s));
    }

pub pass_is : (m : Model) (options : Options) → IsPassFor m options (the_pass m options)
pass_is m options = record { model = refl; prune = refl; keep = refl; alone = refl; share = refl; owner = λ s. refl }

pub target_owned : (m : Model) (p : Pass) (s : PlainState) (k : ℕ) → k ≡ 1 → owner_of (slots_of m.objects m.variables) s 1 ≡ p.owner s → owner_of (slots_of m.objects m.variables) s k ≡ p.owner s
target_owned m p s k e h = subst (λ (n : ℕ). owner_of (slots_of m.objects m.variables) s n ≡ p.owner s) (sym e) h

-- the target's node begins such a pass
pub starts : (m : Model) (options : Options) (p : Pass) (n : Node) → IsPassFor m options p → begins.IsStart m options.prune n → IsStart p n
starts m options p n is s =
    record {
      state = s.state ∙ ap (λ (x : Model). x.target) (sym is.model);
      cost = s.cost;
      floor = subst (λ (x : Model). IsFloor x p.prune n.state n.cost n.floor) (sym is.model)
          (subst (λ (b : Bool). IsFloor m b n.state n.cost n.floor) (sym is.prune)
          (subst (λ (c : Option ℤ). IsFloor m options.prune n.state c n.floor) (sym s.cost)
          (subst (λ (x : PlainState). IsFloor m options.prune x None n.floor) (sym s.state) s.floor)));
      parent = s.parent;
    }

pub inner_in : (m : Model) (options : Options) (p : Pass) → IsPassFor m options p → Inner m m.target → Inner p.model p.model.target
inner_in m options p is inner = subst (λ (x : Model). Inner x x.target) (sym is.model) inner

-- ---- no layers

pub no_layers : (m : Model) → AreLayers m []
no_layers m = record { made = refl; parents = refl; named = refl; full = λ l lt. absurd (none l lt) }
  where
    none : (l : ℕ) → l < 0 → ⊥
    none l lt = absurd (omega (arith, lt))

pub head_begun : (m : Model) (options : Options) (claim : Claim) (before now : Option (List ℕ)) → HasHead m options claim before now → IsBegun m options claim before now
head_begun m options claim before now h = record { layers = []; are = no_layers m; text = h }

pub head_whole : (m : Model) (options : Options) (claim : Claim) (before now : Option (List ℕ)) → Takes before now (text_of_lines (head_lines m options.keep options.prune claim)) → HasHead m options claim before now
head_whole m options claim before now h = subst (λ (ls : List (List ℕ)). Takes before now (text_of_lines ls)) (sym (append-nil (head_lines m options.keep options.prune claim))) h

pub head_broken : (m : Model) (options : Options) (claim : Claim) (before now : Option (List ℕ)) → TakesFront before now (text_of_lines (head_lines m options.keep options.prune claim)) → IsBroken m options claim before now
head_broken m options claim before now h =
    inl (record { layers = []; are = no_layers m; text = subst (λ (ls : List (List ℕ)). TakesFront before now (text_of_lines ls)) (sym (append-nil (head_lines m options.keep options.prune claim))) h })

-- ---- the target ends the search

pub target_shown : (m : Model) (options : Options) (claim : Claim) → ClaimHolds m claim → (Forbidden m m.target) ⊎ TargetEnds m claim → (cert : Cert) → cert.keep ≡ options.keep → cert.prune ≡ options.prune → cert.claim ≡ claim → cert.layers ≡ [] → Shown m cert
target_shown m options claim holds target cert ck cp is cl =
    law_of_target m cert (subst (ClaimHolds m) (sym is) holds) cl (subst (λ (c : Claim). (Forbidden m m.target) ⊎ TargetEnds m c) (sym is) target)

pub base_ends : (m : Model) (claim : Claim) (claimed : ℕ) (cost : ℤ) → Base m m.target cost → claimed_word m claim ≡ pos claimed → pos claimed ≤ℤ order_word m.minimize m.join (Some cost) → TargetEnds m claim
base_ends m claim claimed cost base is above = (cost, base, subst (λ (w : ℤ). w ≤ℤ order_word m.minimize m.join (Some cost)) (sym is) above)

pub no_steps : (m : Model) (cost : ℤ) → Base m m.target cost → InRange cost → Solution m [] cost
no_steps m cost base range = record { reaches = (m.target, None, cost, (refl, refl), base); completes = base; in_range = range }

pub met_at_target : (m : Model) (prune : Bool) (spot : Spot) (kind : FaultKind) → MeetsIn m prune None m.target spot kind → Meets m prune [] spot kind
met_at_target m prune spot kind h = (m.target, None, (refl, refl), h)

abbrev pub cut_layer : List CertNode
cut_layer = record { made = None; cut = true } ∷ []

pub cut_shown : (m : Model) (options : Options) (claim : Claim) (claimed : ℕ) (n : Node) → ClaimHolds m claim → Inner m m.target → begins.IsStart m options.prune n → claimed_word m claim ≡ pos claimed
    → (floor : ℤ) × (n.floor ≡ Some floor) × (pos claimed ≤ℤ order_word m.minimize m.join (Some floor))
    → (cert : Cert) → cert.keep ≡ options.keep → cert.prune ≡ options.prune → cert.claim ≡ claim → cert.layers ≡ cut_layer ∷ [] → Shown m cert
cut_shown m options claim claimed n holds inner start is high cert ck cp same cl =
    let floor = subst (IsFloor m options.prune m.target None) high.1 start.floor in
    law_of_cut m cert (subst (ClaimHolds m) (sym same) holds) cl inner high.0 (subst (λ (b : Bool). IsFloor m b m.target None (Some high.0)) (sym cp) floor)
    (subst (λ (c : Claim). IsNotBelow m c high.0) (sym same) (subst (λ (w : ℤ). w ≤ℤ order_word m.minimize m.join (Some high.0)) (sym is) high.2))

pub cut_layers : (m : Model) → AreLayers m (cut_layer ∷ [])
cut_layers m = record { made = refl; parents = refl; named = refl; full = λ l lt. one l lt }
  where
    one : (l : ℕ) → l < 1 → 0 < length (layer_of (cut_layer ∷ []) l)
    one l lt = subst (λ (k : ℕ). 0 < length (layer_of (cut_layer ∷ []) k)) (sym (first l lt)) (omega arith)
      where
        first : (l : ℕ) → l < 1 → l ≡ 0
        first l lt = omega (arith, lt)

-- ---- numbers

pub cut_few : (claim : Claim) (lines : ℕ) → lines ≡ line_of_end 1 claim [] → lines + 2 < 2 ^ 32 → line_of_end 1 claim (cut_layer ∷ []) < 2 ^ 32
cut_few claim lines e h = fewer (line_of_end 1 claim (cut_layer ∷ [])) (line_of_end 1 claim []) lines (lines_push claim [] cut_layer) e h
  where
    fewer : (a b n : ℕ) → a ≡ b + (1 + 1) → n ≡ b → n + 2 < 2 ^ 32 → a < 2 ^ 32
    fewer a b n e k h = omega (arith, e, k, h)

pub head_few : (claim : Claim) (lines : ℕ) → lines ≡ line_of_end 1 claim [] → lines + 2 < 2 ^ 32 → line_of_end 1 claim [] < 2 ^ 32
head_few claim lines e h = fewer (line_of_end 1 claim []) lines e h
  where
    fewer : (b n : ℕ) → n ≡ b → n + 2 < 2 ^ 32 → b < 2 ^ 32
    fewer b n k h = omega (arith, k, h)

-- ---- words under the model's law of costs

in_law : (m : Model) (minimize : Bool) (operator : JoinOp) → IsLawOf m minimize operator → (P : Bool → JoinOp → Type 0) → P minimize operator → P m.minimize m.join
in_law m minimize operator law P h = subst (λ (o : JoinOp). P m.minimize o) law.1 (subst (λ (b : Bool). P b operator) law.0 h)

pub high_in : (m : Model) (minimize : Bool) (operator : JoinOp) → IsLawOf m minimize operator → (claimed : ℕ) (o : Option ℤ) → (floor : ℤ) × (o ≡ Some floor) × (pos claimed ≤ℤ order_word minimize operator (Some floor))
    → (floor : ℤ) × (o ≡ Some floor) × (pos claimed ≤ℤ order_word m.minimize m.join (Some floor))
high_in m minimize operator law claimed o h = (h.0, h.1, in_law m minimize operator law (λ b j. pos claimed ≤ℤ order_word b j (Some h.0)) h.2)

pub word_below : (m : Model) (minimize : Bool) (operator : JoinOp) → IsLawOf m minimize operator → (claimed : ℕ) (cost : ℤ) (word : ℕ) → pos word ≡ order_word minimize operator (Some cost) → word < claimed → order_word m.minimize m.join (Some cost) <ℤ pos claimed
word_below m minimize operator law claimed cost word e less = in_law m minimize operator law (λ b j. order_word b j (Some cost) <ℤ pos claimed) (subst (λ (w : ℤ). w <ℤ pos claimed) e (pos_less word claimed less))

pub word_above : (m : Model) (minimize : Bool) (operator : JoinOp) → IsLawOf m minimize operator → (claimed : ℕ) (cost : ℤ) (word : ℕ) → pos word ≡ order_word minimize operator (Some cost) → claimed ≤ word → pos claimed ≤ℤ order_word m.minimize m.join (Some cost)
word_above m minimize operator law claimed cost word e le = in_law m minimize operator law (λ b j. pos claimed ≤ℤ order_word b j (Some cost)) (subst (λ (w : ℤ). pos claimed ≤ℤ w) e (pos_mono claimed word le))

-- ---- what the target is found to be

pub is_start : (m : Model) (prune : Bool) (start is : Start) → start ≡ is → start_at m prune ≡ Ok start → start_at m prune ≡ Ok is
is_start m prune start is e h = subst (λ (x : Start). start_at m prune ≡ Ok x) e h

pub start_fits : (m : Model) (start is : Start) → start ≡ is → StartFits m start → StartFits m is
start_fits m start is e h = subst (StartFits m) e h

-- ---- the target is refused

pub refused_as : (m : Model) (options : Options) (end is : ExpandEnd) → end ≡ is → Answers {A = Start} (Err end) (start_at m options.prune) → Answers {A = Start} (Err is) (start_at m options.prune)
refused_as m options end is e h = subst (λ (x : ExpandEnd). Answers {A = Start} (Err x) (start_at m options.prune)) e h

pub fault_told : (m : Model) (options : Options) (claim : Claim) (before now : Option (List ℕ)) (spot : Spot) (kind : FaultKind) (last : Option ℕ) (f : FaultAt) → f ≡ record { steps = []; spot = spot; kind = kind } → Answers {A = Start} (Err (expand_ends.Fault spot kind last)) (start_at m options.prune)
    → HasHead m options claim before now → Tells m options claim before now (Ok (writtens.Fault f))
fault_told m options claim before now spot kind last f is found head =
    let met = (start_faults m options.prune (record { spot = spot; kind = kind; last = last })).0 found in
    (subst (λ (x : FaultAt). Meets m options.prune x.steps x.spot x.kind) (sym is) (met_at_target m options.prune spot kind met.2), head_begun m options claim before now head)

-- ---- a base target ends a better list

pub better_told : (m : Model) (options : Options) (claim : Claim) (claimed : ℕ) (before now : Option (List ℕ)) (cost : ℤ) (f : Found) → f ≡ record { cost = cost; steps = [] } → Base m m.target cost → InRange cost → claimed_word m claim ≡ pos claimed
    → order_word m.minimize m.join (Some cost) <ℤ pos claimed → HasHead m options claim before now → Tells m options claim before now (Ok (writtens.Better f))
better_told m options claim claimed before now cost f is base range word less head = (
  subst (λ (x : Found). Solution m x.steps x.cost) (sym is) (no_steps m cost base range),
  subst (λ (x : Found). IsBetterThan m claim x.cost) (sym is) (better_than m claim claimed cost word less),
  head_begun m options claim before now head,
)

-- ---- the law of costs and the covering are those of the pass

pub suited_in : (m : Model) (options : Options) (minimize : Bool) (operator : JoinOp) (prune less : Bool) (join : JoinOp) → IsLawOf m minimize operator → IsLawOf m less join → prune ≡ options.prune → Suited (the_pass m options) minimize operator prune less join
suited_in m options minimize operator prune less join law covering is = record { law = law; covering = covering; prune_is = is }

-- the head is made as the options say
pub head_of : (m : Model) (claim : Claim) (keep keep' : Keep) (prune prune' : Bool) → keep ≡ keep' → prune ≡ prune' → (P : List (List ℕ) → Type 0) → P (head_lines m keep prune claim) → P (head_lines m keep' prune' claim)
head_of m claim keep keep' prune prune' k e P h = subst (λ (b : Bool). P (head_lines m keep' b claim)) e (subst (λ (x : Keep). P (head_lines m x prune claim)) k h)
