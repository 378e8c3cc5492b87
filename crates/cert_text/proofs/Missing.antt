-- A text that breaks off within a certificate is refused in the line behind its last one.
use Rattle.std.proofs.Common.{◌≡◌, ℕ, ◌+◌, ◌-◌, ◌<◌, ◌&&◌, ◌==◌, Bool, true, false, codes, List, [], ◌∷◌, ◌++◌, length, Option, Some, None, Result, Ok, Err, refl, sym, ap, ◌∙◌, subst, arith, append_assoc, length-append}
use Rattle.std.specs.Prelude.{if◌then◌else◌, ℤ, option_map, option_and_then}
use Rattle.std.specs.List.{list_all}
use Rattle.std.specs.Str.{bytes_eq}
use Rattle.std.proofs.lemmas.List.{append-nil}
use Rattle.std.proofs.lemmas.List.Folds.{list_all-append}
use Rattle.dp_model.specs.declared.answers.Claim.{Claim}
use Rattle.dp_model.specs.declared.answers.Claim.TheVariants as claims
use Rattle.dp_model.specs.declared.whole.Model.{Model}
use Rattle.step_names.specs.Lines.{is_blank_line}
use Rattle.step_names.specs.StepNames.{step_named}
use Rattle.cert_types.specs.Parts.{Parts}
use Rattle.cert_text.specs.ReadBack.{HasStepTexts, IsCertificate, LawMissingLines, is_line}
use Rattle.cert_text.specs.Said.{claimed, ended, is_end, layer_begun, layered, listing, looked, next, no_layer, node_behind, or_bad, placed, prune_said, read_from, unless_bad, whole, width_said, with_node}
use Rattle.cert_text.specs.Texts.{cert_lines, claim_lines, end_line, keep_line, layers_lines, prune_line, text_of_lines}
use Rattle.cert_text.specs.Words.{behind, cost_said, number_behind}
use Rattle.cert_types.specs.declared.nodes.CertNode.{CertNode}
use Rattle.cert_text.specs.declared.said.Body.{Body}
use Rattle.cert_text.specs.declared.said.Listing.{Listing}
use Rattle.cert_text.specs.declared.said.Start.{Start}
use Rattle.cert_text.specs.declared.said.Said.{Said}
use Rattle.cert_text.specs.declared.said.Said.TheVariants as states
use Rattle.cert_text.proofs.Keeps.{mapped}
use Rattle.cert_text.proofs.Links.{and_left, and_right}
use Rattle.cert_text.proofs.ReadBack.{all_two, begun_back, cert_are_lines, front_skipped, lines_back, mark_back, reads, whole_back}

-- a certificate begins in what was said
abbrev IsBegun : Said → Type 0
IsBegun (states.Nothing marked) = ⊥
IsBegun said = Unit {0}

-- ---- a line behind the begin of a certificate is none in front of it

listing_begun : (s : Start) (l : Listing) → IsBegun (listing s l)
listing_begun s l = by (l.due == 0)
  where
    by : (test : Bool) → IsBegun (if test then states.Layers s (claims.Optimal (record { cost = l.cost; steps = l.steps })) no_layer else states.Steps s l)
    by true = tt
    by false = tt

mapped_begun : {A : Type 0} (f : A → Said) (o : Option A) (later : Said) → ((x : A) → IsBegun (f x)) → option_map f o ≡ Some later → IsBegun later
mapped_begun f o later each h = let one = mapped f o later h in subst IsBegun (sym one.2) (each one.0)

some_begun : (said later : Said) → IsBegun said → Some said ≡ Some later → IsBegun later
some_begun said later begun h = let same : said ≡ later = cc in subst IsBegun same begun

claimed_begun : (s : Start) (l : List ℕ) (later : Said) → claimed s l ≡ Some later → IsBegun later
claimed_begun s l later h = by (bytes_eq l (codes "claim infeasible")) h
  where
    by : (test : Bool) → (if test then Some (states.Layers s claims.Infeasible no_layer) else option_map (λ (cost : ℤ). states.Claimed s cost) (option_and_then cost_said (behind (codes "claim optimal ") l))) ≡ Some later → IsBegun later
    by true is = some_begun (states.Layers s claims.Infeasible no_layer) later tt is
    by false is = mapped_begun (λ (cost : ℤ). states.Claimed s cost) (option_and_then cost_said (behind (codes "claim optimal ") l)) later (λ cost. tt) is

layer_begun_begun : (s : Start) (claim : Claim) (layers : List (List CertNode)) (l : List ℕ) (later : Said) → layer_begun s claim layers l ≡ Some later → IsBegun later
layer_begun_begun s claim layers l later h = by (is_end (length layers) l) h
  where
    by : (test : Bool) → (if test then Some (states.Ended s claim layers) else option_map (λ (due : ℕ). states.Layers s claim (record { layers = layers; nodes = []; due = due })) (width_said (length layers) l)) ≡ Some later → IsBegun later
    by true is = some_begun (states.Ended s claim layers) later tt is
    by false is = mapped_begun (λ (due : ℕ). states.Layers s claim (record { layers = layers; nodes = []; due = due })) (width_said (length layers) l) later (λ due. tt) is

layered_begun : (m : Model) (s : Start) (claim : Claim) (b : Body) (l : List ℕ) (later : Said) → layered m s claim b l ≡ Some later → IsBegun later
layered_begun m s claim b l later h = by (b.due == 0) h
  where
    by : (test : Bool) → (if test then layer_begun s claim b.layers l else option_map (λ (node : CertNode). states.Layers s claim (with_node b node)) (node_behind m b.layers l)) ≡ Some later → IsBegun later
    by true is = layer_begun_begun s claim b.layers l later is
    by false is = mapped_begun (λ (node : CertNode). states.Layers s claim (with_node b node)) (node_behind m b.layers l) later (λ node. tt) is

ended_begun : (s : Start) (claim : Claim) (layers : List (List CertNode)) (l : List ℕ) (later : Said) → ended s claim layers l ≡ Some later → IsBegun later
ended_begun s claim layers l later h = by (is_blank_line l) h
  where
    by : (test : Bool) → (if test then Some (states.Ended s claim layers) else None) ≡ Some later → IsBegun later
    by true is = some_begun (states.Ended s claim layers) later tt is
    by false is = absurd (cc)

next_begun : (m : Model) (n : ℕ) (said : Said) (l : List ℕ) (later : Said) → IsBegun said → next m n said l ≡ Some later → IsBegun later
next_begun m n (states.Nothing marked) l later begun h = absurd begun
next_begun m n (states.Kept first keep) l later begun h =
    mapped_begun (λ (prune : Bool). states.Pruned (record { first = first; keep = keep; prune = prune })) (prune_said l) later (λ prune. tt) h
next_begun m n (states.Pruned s) l later begun h = claimed_begun s l later h
next_begun m n (states.Claimed s cost) l later begun h =
    mapped_begun (λ (due : ℕ). listing s (record { cost = cost; steps = []; due = due })) (number_behind (codes "steps ") l) later (λ due. listing_begun s (record { cost = cost; steps = []; due = due })) h
next_begun m n (states.Steps s list) l later begun h =
    mapped_begun (λ (g : ℕ). listing s (record { cost = list.cost; steps = list.steps ++ g ∷ []; due = list.due - 1 })) (step_named m l) later (λ g. listing_begun s (record { cost = list.cost; steps = list.steps ++ g ∷ []; due = list.due - 1 })) h
next_begun m n (states.Layers s claim b) l later begun h = layered_begun m s claim b l later h
next_begun m n (states.Ended s claim layers) l later begun h = ended_begun s claim layers l later h

-- ---- where lines are missing

-- behind the end stand blank lines alone
blank_behind : (m : Model) (n : ℕ) (s : Start) (claim : Claim) (layers : List (List CertNode)) (ls : List (List ℕ)) (p : Parts) → read_from m n (states.Ended s claim layers) ls ≡ Ok p → list_all is_blank_line ls ≡ true
blank_behind m n s claim layers [] p h = refl
blank_behind m n s claim layers (l ∷ ls) p h = by (is_blank_line l) (λ is. blank_behind m (n + 1) s claim layers ls p is) h
  where
    by : (test : Bool) → (read_from m (n + 1) (states.Ended s claim layers) ls ≡ Ok p → list_all is_blank_line ls ≡ true) → or_bad n (if test then Some (states.Ended s claim layers) else None) (λ (later : Said). read_from m (n + 1) later ls) ≡ Ok p → (test && list_all is_blank_line ls) ≡ true
    by true later is = later is
    by false later is = absurd (cc)

-- a certificate that goes on with lines that are not blank isn't whole without them
unfinished : (m : Model) (n : ℕ) (said : Said) (rest : List (List ℕ)) (p : Parts) → IsBegun said → list_all is_blank_line rest ≡ false → read_from m n said rest ≡ Ok p → whole n said ≡ Err n
unfinished m n (states.Nothing marked) rest p begun some h = absurd begun
unfinished m n (states.Kept first keep) rest p begun some h = refl
unfinished m n (states.Pruned s) rest p begun some h = refl
unfinished m n (states.Claimed s cost) rest p begun some h = refl
unfinished m n (states.Steps s list) rest p begun some h = refl
unfinished m n (states.Layers s claim b) rest p begun some h = refl
unfinished m n (states.Ended s claim layers) rest p begun some h = absurd (let all : list_all is_blank_line rest ≡ true = blank_behind m n s claim layers rest p h in cc)

one_shown : (n : ℕ) (o : Option Said) (rest short : Said → Result Parts ℕ) (p : Parts) (end : Result Parts ℕ) → ((later : Said) → o ≡ Some later → rest later ≡ Ok p → short later ≡ end) → or_bad n o rest ≡ Ok p → or_bad n o short ≡ end
one_shown n None rest short p end later h = absurd (cc)
one_shown n (Some x) rest short p end later h = later x refl h

breaks_off : (m : Model) (n : ℕ) (said : Said) (shown rest : List (List ℕ)) (p : Parts) → IsBegun said → list_all is_blank_line rest ≡ false → read_from m n said (shown ++ rest) ≡ Ok p → read_from m n said shown ≡ Err (n + length shown)
breaks_off m n said [] rest p begun some h = unfinished m n said rest p begun some h ∙ ap Err (let e : n ≡ n + 0 = omega arith in e)
breaks_off m n said (l ∷ shown) rest p begun some h =
    let place : n + 1 + length shown ≡ n + length (l ∷ shown) = omega arith in
    one_shown n (next m n said l) (λ (later : Said). read_from m (n + 1) later (shown ++ rest)) (λ (later : Said). read_from m (n + 1) later shown) p (Err (n + length (l ∷ shown)))
    (λ later is read. breaks_off m (n + 1) later shown rest p (next_begun m n said l later begun is) some read ∙ ap Err place) h

-- ---- the lines that are missing

-- the last one of some lines is the last one of all
last_missing : (test : List ℕ → Bool) (shown rest before : List (List ℕ)) (last : List ℕ) → 0 < length rest → shown ++ rest ≡ before ++ last ∷ [] → list_all test rest ≡ true → test last ≡ true
last_missing test [] rest before last some is all =
    let both : (list_all test before && (test last && true)) ≡ true = sym (list_all-append test before (last ∷ [])) ∙ ap (list_all test) (sym is) ∙ all in
    and_left (test last) true (and_right (list_all test before) (test last && true) both)
last_missing test (l ∷ shown) rest [] last some is all = absurd (omega (arith, some, simp length-append at (ap length is)))
last_missing test (l ∷ shown) rest (x ∷ before) last some is all = last_missing test shown rest before last some (let same : shown ++ rest ≡ before ++ last ∷ [] = cc in same) all

-- it is no blank one
not_blank : (test : Bool) → (test ≡ true → ⊥) → test ≡ false
not_blank true none = absurd (none refl)
not_blank false none = refl

not_all_blank : (m : Model) (p : Parts) (shown rest : List (List ℕ)) → cert_lines m p ≡ shown ++ rest → 0 < length rest → list_all is_blank_line rest ≡ false
not_all_blank m p shown rest is some =
    let head = codes "certificate 1" ∷ keep_line p.keep ∷ prune_line p.prune ∷ claim_lines m p.claim in
    let body = layers_lines m 0 p.layers in
    let last = end_line (length p.layers) in
    let all : shown ++ rest ≡ (head ++ body) ++ last ∷ [] = sym is ∙ sym (append_assoc head body (last ∷ [])) in
    not_blank (list_all is_blank_line rest) (λ blank. let wrong : false ≡ true = last_missing is_blank_line shown rest (head ++ body) last some all blank in cc)

-- ---- the whole

missing_from : (m : Model) (n : ℕ) (marked : Bool) (p : Parts) (shown rest : List (List ℕ)) → HasStepTexts m → IsCertificate m p → p.first ≡ n → cert_lines m p ≡ shown ++ rest → 1 < length shown → 0 < length rest
    → read_from m n (states.Nothing marked) shown ≡ Err (n + length shown)
missing_from m n marked p [] rest has good first is two some = absurd (omega (arith, two))
missing_from m n marked p (a ∷ []) rest has good first is two some = absurd (omega (arith, two))
missing_from m n marked p (a ∷ b ∷ shown) rest has good first is two some =
    let begin : a ≡ codes "certificate 1" = cc in
    let keep : b ≡ keep_line p.keep = cc in
    let all : read_from m n (states.Nothing marked) (a ∷ b ∷ (shown ++ rest)) ≡ Ok p =
    ap (read_from m n (states.Nothing marked)) (sym is ∙ sym (append-nil (cert_lines m p))) ∙ whole_back m n marked p [] has good first refl in
    let one : next m n (states.Nothing marked) a ≡ Some (states.Nothing true) = ap (λ (x : List ℕ). Some (looked marked n x)) begin ∙ ap Some (mark_back marked n) in
    let second : next m (n + 1) (states.Nothing true) b ≡ Some (states.Kept n p.keep) = ap (λ (x : List ℕ). Some (looked true (n + 1) x)) keep ∙ ap Some (begun_back n p.keep) in
    let both = λ (ls : List (List ℕ)). reads m n (states.Nothing marked) (states.Nothing true) a (b ∷ ls) one ∙ reads m (n + 1) (states.Nothing true) (states.Kept n p.keep) b ls second in
    let place : n + 1 + 1 + length shown ≡ n + length (a ∷ b ∷ shown) = omega arith in
    both shown
    ∙ breaks_off m (n + 1 + 1) (states.Kept n p.keep) shown rest p tt (not_all_blank m p (a ∷ b ∷ shown) rest is some) (sym (both (shown ++ rest)) ∙ all)
    ∙ ap Err place

pub missing_lines : LawMissingLines
missing_lines m p front shown rest has good in_front first is two some utf8 =
    let all : list_all is_line (front ++ shown) ≡ true =
    all_two is_line front shown in_front.0 (and_left (list_all is_line shown) (list_all is_line rest) (sym (list_all-append is_line shown rest) ∙ ap (list_all is_line) (sym is) ∙ cert_are_lines m p has good)) in
    let skipped = front_skipped m 1 false front shown in_front.1 in
    let begins : p.first ≡ 1 + length front = omega (arith, first) in
    let place : 1 + length front + length shown ≡ length front + length shown + 1 = omega arith in
    ap (unless_bad m (text_of_lines (front ++ shown))) utf8
    ∙ ap (λ (xs : List (List ℕ)). placed (read_from m 1 (states.Nothing false) xs)) (lines_back (front ++ shown) all)
    ∙ ap placed (skipped.1 ∙ missing_from m (1 + length front) skipped.0 p shown rest has good begins is two some ∙ ap Err place)
