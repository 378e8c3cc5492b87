-- The lines of a certificate as they are written, one layer after another.
use Rattle.std.proofs.Common.{◌≡◌, ℕ, ◌+◌, ◌^◌, ◌<◌, ◌≤◌, inl, inr, suc, List, [], ◌∷◌, ◌++◌, length, take, Option, refl, sym, ap, subst, ◌∙◌, arith, append_assoc}
use Rattle.std.specs.List.{sum_by}
use Rattle.std.proofs.lemmas.Grind.{flat_map-append}
use Rattle.std.proofs.lemmas.List.{append-nil, get_or_append_left, get_or_push, length_push, take_all}
use Rattle.std.proofs.lemmas.List.Sums.{sum_by-cons, sum_by_push}
use Rattle.std.proofs.lemmas.Bool.{cases_lt}
use Rattle.dp_base.specs.Bytes.{line}
use Rattle.dp_model.specs.declared.answers.Claim.{Claim}
use Rattle.dp_model.specs.declared.answers.Options.{Options}
use Rattle.dp_model.specs.declared.whole.Model.{Model}
use Rattle.dp_outside.specs.Outside.{Takes, TakesFront}
use Rattle.dp_outside.proofs.Steps.{Takes-more}
use Rattle.solve_report.proofs.Written.{TakesFront-append}
use Rattle.cert_types.specs.Lines.{line_of_end, lines_of_layer, lines_of_list}
use Rattle.cert_types.specs.declared.nodes.CertNode.{CertNode}
use Rattle.cert_laws.specs.Shown.{layer_of}
use Rattle.cert_text.specs.Texts.{head_lines, layer_lines, layers_lines, text_of_lines}
use Rattle.cert_making.specs.Makes.{IsUnwritten, Writes, with_layer}
use Rattle.cert_making.specs.Written.{open_lines}
use Rattle.cert_making.specs.declared.ends.Halt.{Halt}
use Rattle.cert_making.specs.declared.ends.Halt.TheVariants as halts
use Rattle.cert_making.specs.declared.progress.Progress.{Progress}

pub lines_append : (a b : List (List ℕ)) → text_of_lines (a ++ b) ≡ text_of_lines a ++ text_of_lines b
lines_append a b = flat_map-append line a b

layers_push : (m : Model) (at : ℕ) (layers : List (List CertNode)) (cs : List CertNode) → layers_lines m at (layers ++ cs ∷ []) ≡ layers_lines m at layers ++ layer_lines m (at + length layers) cs
layers_push m at [] cs = append-nil (layer_lines m at cs) ∙ ap (λ (k : ℕ). layer_lines m k cs) (none at)
  where
    none : (a : ℕ) → a ≡ a + 0
    none a = omega arith
layers_push m at (x ∷ xs) cs =
    ap (λ (ls : List (List ℕ)). layer_lines m at x ++ ls) (layers_push m (at + 1) xs cs ∙ ap (λ (k : ℕ). layers_lines m (at + 1) xs ++ layer_lines m k cs) (next at (length xs)))
    ∙ sym (append_assoc (layer_lines m at x) (layers_lines m (at + 1) xs) (layer_lines m (at + length (x ∷ xs)) cs))
  where
    next : (a n : ℕ) → a + 1 + n ≡ a + suc n
    next a n = omega arith

pub open_push : (m : Model) (options : Options) (claim : Claim) (layers : List (List CertNode)) (cs : List CertNode) → open_lines m options claim (layers ++ cs ∷ []) ≡ open_lines m options claim layers ++ layer_lines m (length layers) cs
open_push m options claim layers cs =
    ap (λ (ls : List (List ℕ)). head_lines m options.keep options.prune claim ++ ls) (layers_push m 0 layers cs ∙ ap (λ (k : ℕ). layers_lines m 0 layers ++ layer_lines m k cs) (none (length layers)))
    ∙ sym (append_assoc (head_lines m options.keep options.prune claim) (layers_lines m 0 layers) (layer_lines m (length layers) cs))
  where
    none : (a : ℕ) → 0 + a ≡ a
    none a = omega arith

-- the lines of one more layer were taken
pub takes_layer : (m : Model) (options : Options) (claim : Claim) (before now after : Option (List ℕ)) (layers : List (List CertNode)) (cs : List CertNode) → Takes before now (text_of_lines (open_lines m options claim layers)) → Takes now after (text_of_lines (layer_lines m (length layers) cs))
    → Takes before after (text_of_lines (open_lines m options claim (layers ++ cs ∷ [])))
takes_layer m options claim before now after layers cs h k =
    subst (λ (t : List ℕ). Takes before after t) (sym (ap text_of_lines (open_push m options claim layers cs) ∙ lines_append (open_lines m options claim layers) (layer_lines m (length layers) cs)))
    (Takes-more before now after (text_of_lines (open_lines m options claim layers)) (text_of_lines (layer_lines m (length layers) cs)) h k)

-- a front of them
pub takes_front : (m : Model) (options : Options) (claim : Claim) (before now after : Option (List ℕ)) (layers : List (List CertNode)) (more : List (List ℕ)) → Takes before now (text_of_lines (open_lines m options claim layers)) → TakesFront now after (text_of_lines more)
    → TakesFront before after (text_of_lines (open_lines m options claim layers ++ more))
takes_front m options claim before now after layers more h k =
    subst (λ (t : List ℕ). TakesFront before after t) (sym (lines_append (open_lines m options claim layers) more))
    (TakesFront-append before now after (text_of_lines (open_lines m options claim layers)) (text_of_lines more) h k)

-- and of the lines of one more layer
pub broken_layer : (m : Model) (options : Options) (claim : Claim) (before after : Option (List ℕ)) (layers : List (List CertNode)) (cs : List CertNode) → TakesFront before after (text_of_lines (open_lines m options claim layers ++ layer_lines m (length layers) cs))
    → TakesFront before after (text_of_lines (open_lines m options claim (layers ++ cs ∷ [])))
broken_layer m options claim before after layers cs h = subst (λ (ls : List (List ℕ)). TakesFront before after (text_of_lines ls)) (sym (open_push m options claim layers cs)) h

-- ---- the number of the last line

pub lines_push : (claim : Claim) (layers : List (List CertNode)) (cs : List CertNode) → line_of_end 1 claim (layers ++ cs ∷ []) ≡ line_of_end 1 claim layers + (1 + length cs)
lines_push claim layers cs =
    let all = ap (sum_by lines_of_layer) (take_all (length (layers ++ cs ∷ [])) (layers ++ cs ∷ []) (self (length (layers ++ cs ∷ [])))) in
    let old = ap (sum_by lines_of_layer) (take_all (length layers) layers (self (length layers))) in
    let push = sum_by_push lines_of_layer layers cs in
    count (lines_of_list claim) (sum_by lines_of_layer (take (length (layers ++ cs ∷ [])) (layers ++ cs ∷ []))) (sum_by lines_of_layer (take (length layers) layers)) (sum_by lines_of_layer (layers ++ cs ∷ [])) (sum_by lines_of_layer layers) (1 + length cs) all old push
  where
    self : (a : ℕ) → a ≤ a
    self a = omega arith

    count : (a b c d e f : ℕ) → b ≡ d → c ≡ e → d ≡ e + f → 1 + 3 + 1 + a + b ≡ 1 + 3 + 1 + a + c + f
    count a b c d e f h k l = omega (arith, h, k, l)

enough_lines : (layers : List (List CertNode)) → length layers ≤ sum_by lines_of_layer layers
enough_lines [] = omega arith
enough_lines (cs ∷ layers) =
    let more = enough_lines layers in
    one (length layers) (length cs) (sum_by lines_of_layer layers) (sum_by lines_of_layer (cs ∷ layers)) more (sum_by-cons lines_of_layer cs layers)
  where
    one : (a b n m : ℕ) → a ≤ n → m ≡ 1 + b + n → suc a ≤ m
    one a b n m h e = omega (arith, h, e)

-- a layer has a line at least
pub lines_enough : (claim : Claim) (layers : List (List CertNode)) → length layers ≤ line_of_end 1 claim layers
lines_enough claim layers =
    enough (length layers) (sum_by lines_of_layer layers) (sum_by lines_of_layer (take (length layers) layers)) (lines_of_list claim) (enough_lines layers) (ap (sum_by lines_of_layer) (take_all (length layers) layers (self (length layers))))
  where
    self : (a : ℕ) → a ≤ a
    self a = omega arith

    enough : (a n m b : ℕ) → a ≤ n → m ≡ n → a ≤ 1 + 3 + 1 + b + m
    enough a n m b h e = omega (arith, h, e)

-- ---- no layer is empty

pub full_push : (layers : List (List CertNode)) (cs : List CertNode) → ((l : ℕ) → l < length layers → 0 < length (layer_of layers l)) → 0 < length cs → (l : ℕ) → l < length (layers ++ cs ∷ []) → 0 < length (layer_of (layers ++ cs ∷ []) l)
full_push layers cs full some l lt =
    elim (cases_lt l (length layers)) [
      | inl less ↦ subst (λ (xs : List CertNode). 0 < length xs) (sym (get_or_append_left layers (cs ∷ []) [] l less)) (full l less)
      | inr ge ↦
          let e : l ≡ length layers = last l (length layers) (length (layers ++ cs ∷ [])) ge lt (length_push layers cs) in
          subst (λ (xs : List CertNode). 0 < length xs) (sym (get_or_push layers cs [] l (sym e))) some
    ]
  where
    last : (l a b : ℕ) → a ≤ l → l < b → b ≡ a + 1 → l ≡ a
    last l a b h k e = omega (arith, h, k, e)

-- ---- one layer more

module _ (m : Model) (options : Options) (claim : Claim) (before now : Option (List ℕ)) (layers : List (List CertNode)) (progress : Progress) (w : Writes m options claim before now layers progress) where
  pub written_none : (cs : List CertNode) → length cs ≡ 0 → Writes m options claim before now (with_layer layers cs) progress
  written_none [] e = w
  written_none (c ∷ cs) e = absurd (omega (arith, e))

  pub written_more : (cs : List CertNode) → (length cs ≡ 0 → ⊥) → (after : Option (List ℕ)) → Takes now after (text_of_lines (layer_lines m progress.layers cs)) → (progress' : Progress) → progress'.layers ≡ progress.layers + 1 → progress'.lines ≡ progress.lines + (1 + length cs) → progress'.lines < 2 ^ 32
      → Writes m options claim before after (with_layer layers cs) progress'
  written_more [] some after h progress' count lines few = absurd (some refl)
  written_more (c ∷ cs) some after h progress' count lines few =
      record {
        text = takes_layer m options claim before now after layers (c ∷ cs) w.text (subst (λ (k : ℕ). Takes now after (text_of_lines (layer_lines m k (c ∷ cs)))) w.count h);
        count = count ∙ (ap (λ (k : ℕ). k + 1) w.count ∙ sym (length_push layers (c ∷ cs)));
        lines = lines ∙ (ap (λ (k : ℕ). k + (1 + length (c ∷ cs))) w.lines ∙ sym (lines_push claim layers (c ∷ cs)));
        few = few;
        full = full_push layers (c ∷ cs) w.full (some_nodes (length cs));
      }
    where
      some_nodes : (a : ℕ) → 0 < suc a
      some_nodes a = omega arith

  pub unwritten_none : (cs : List CertNode) (halt : Halt) → halt ≡ halts.Memory → IsUnwritten m options claim before now layers cs halt
  unwritten_none cs halt e = subst (IsUnwritten m options claim before now layers cs) (sym e) w.text

  pub unwritten_broken : (cs : List CertNode) → (length cs ≡ 0 → ⊥) → (after : Option (List ℕ)) → TakesFront now after (text_of_lines (layer_lines m progress.layers cs)) → (halt : Halt) → halt ≡ halts.Write → IsUnwritten m options claim before after layers cs halt
  unwritten_broken [] some after h halt e = absurd (some refl)
  unwritten_broken (c ∷ cs) some after h halt e =
      subst (IsUnwritten m options claim before after layers (c ∷ cs)) (sym e)
      (takes_front m options claim before now after layers (layer_lines m (length layers) (c ∷ cs)) w.text (subst (λ (k : ℕ). TakesFront now after (text_of_lines (layer_lines m k (c ∷ cs)))) w.count h), some_nodes (length cs))
    where
      some_nodes : (a : ℕ) → 0 < suc a
      some_nodes a = omega arith
