-- The step texts of a model that two trees mean: they name their ground transitions, and are lines where names are.
use Rattle.std.proofs.Common.{◌≡◌, ℕ, zero, suc, ◌+◌, ◌<◌, ◌≤◌, ◌^◌, Bool, true, false, not, ◌||◌, ◌==◌, nat_lt, nat_le, List, [], ◌∷◌, ◌++◌, length, decimal, codes, Option, None, Some, Ok, refl, sym, ap, ◌∙◌, subst, inl, inr, arith}
use Rattle.std.specs.Prelude.{slice_get}
use Rattle.std.specs.Char.{is_control}
use Rattle.std.specs.List.{list_all, flat_map}
use Rattle.std.specs.Str.{bytes_eq}
use Rattle.std.proofs.lemmas.Bool.{and_parts, cases_Bool}
use Rattle.std.proofs.lemmas.Bool.Decides.{nat_tests}
use Rattle.std.proofs.lemmas.Fmt.{digits_decimal}
use Rattle.std.proofs.lemmas.List.Folds.{list_all-map}
use Rattle.std.proofs.lemmas.Slice.Eq.{bytes_eq-Decides}
use Rattle.dp_base.specs.Results.{◌>>=◌}
use Rattle.dp_model.specs.Limits.{has_most, is_name, is_small_object}
use Rattle.dp_model.specs.StepTexts.{named, step_text}
use Rattle.dp_model.specs.Typing.{type_count, over_object, are_arguments, is_ground}
use Rattle.dp_model.specs.declared.parts.Effect.{Effect}
use Rattle.dp_model.specs.declared.parts.Ground.{Ground}
use Rattle.dp_model.specs.declared.parts.ObjectType.{ObjectType}
use Rattle.dp_model.specs.declared.parts.Transition.{Transition}
use Rattle.dp_model.specs.declared.parts.Variable.{Variable}
use Rattle.dp_model.specs.declared.trees.Cond.{Cond}
use Rattle.dp_model.specs.declared.trees.Over.{Over}
use Rattle.dp_model.specs.declared.whole.Model.{Model}
use Rattle.yaml_tree.specs.declared.tree.Tree.{Tree}
use Rattle.yaml_tree.specs.declared.tree.Pair.{Pair}
use Rattle.yaml_tree.specs.Fields.{tree_place, value_in}
use Rattle.dypdl_expr.specs.Tokens.{has_control}
use Rattle.dypdl_words.specs.declared.scope.Param.{Param}
use Rattle.dypdl_nodes.specs.Reads.{Reads}
use Rattle.dypdl_nodes.specs.Shapes.{keyed, needed}
use Rattle.dypdl_nodes.specs.Scalars.{truth_or_false}
use Rattle.dypdl_data.specs.Names.{is_transition_name, name_by}
use Rattle.dypdl_rules.specs.Declarations.{Declared}
use Rattle.dypdl_rules.specs.Expressions.{Reading}
use Rattle.dypdl_rules.specs.Conditions.{conditions_of}
use Rattle.dypdl_rules.specs.Effects.{effects_of}
use Rattle.dypdl_rules.specs.Moves.{Body, body_of, direction_of, move_of, move_step, moves_of, transition_keys, weighing_of}
use Rattle.dypdl_rules.specs.Parameters.{overs, params_of}
use Rattle.dypdl_rules.specs.declared.transitions.Weighing.{Weighing}
use Rattle.dypdl_rules.specs.declared.transitions.Move.{Move}
use Rattle.dypdl_load.proofs.Lists.{bound, both_all, pushed}
use Rattle.dypdl_load.proofs.Loaded.{steps_differ}
use Rattle.dypdl_load.proofs.RuleSizes.{named_so}
use Rattle.dypdl_load.proofs.Steps.{meaning_steps, rules_steps}
use Rattle.dypdl_load.specs.Meaning.{in_domain, in_problem, Parts, meaning, parts_of}
use Rattle.content_laws.proofs.Outcomes.{ok_same}
use Rattle.cert_text.specs.ReadBack.{HasStepTexts, is_line}
use Rattle.cert_text.proofs.ReadBack.{ascii_line, digits_print, is_print, line_append, own}
use Rattle.step_names.specs.StepNames.{named_from}

-- ---- lines

abbrev pub is_inside : ℕ → Bool
is_inside byte = not (byte == 10 || byte == 13)

-- a byte that is ASCII and no control character stands inside a line, and so does one that is not ASCII
pub inside : (byte : ℕ) → (byte < 128 → is_control byte ≡ false) → is_inside byte ≡ true
inside byte h = by (byte == 10) (byte == 13) refl refl
  where
    by : (ten thirteen : Bool) → (byte == 10) ≡ ten → (byte == 13) ≡ thirteen → not (ten || thirteen) ≡ true
    by false false e f = refl
    by true thirteen e f =
        let is : byte ≡ 10 = grind (arith, nat_tests) in
        let no : is_control 10 ≡ false = subst (λ (k : ℕ). is_control k ≡ false) is (h (omega arith)) in
        absurd (cc no)
    by false true e f =
        let is : byte ≡ 13 = grind (arith, nat_tests) in
        let no : is_control 13 ≡ false = subst (λ (k : ℕ). is_control k ≡ false) is (h (omega arith)) in
        absurd (cc no)

-- ---- lists

pub at_place : {A : Type 0} (p : A → Bool) (xs : List A) (i : ℕ) (x : A) → list_all p xs ≡ true → slice_get xs i ≡ Some x → p x ≡ true
at_place p [] i x h e = absurd (cc e)
at_place p (y ∷ ys) zero x h e = let same : y ≡ x = cc in subst (λ z. p z ≡ true) same (and_parts (p y) (list_all p ys) h).0
at_place p (y ∷ ys) (suc i) x h e = at_place p ys i x (and_parts (p y) (list_all p ys) h).1 e

there : {A : Type 0} (xs : List A) (i : ℕ) → i < length xs → (x : A) × (slice_get xs i ≡ Some x)
there [] i h = absurd (omega arith)
there (x ∷ xs) zero h = (x, refl)
there (x ∷ xs) (suc i) h = there xs i (omega arith)

-- ---- arguments

small_count : (objects : List ObjectType) (object : ℕ) → list_all is_small_object objects ≡ true → type_count objects object ≤ 4096
small_count [] object h = omega arith
small_count (o ∷ objects) zero h =
    let small = and_parts (is_name o.name) (nat_le o.count 4096) (and_parts (is_small_object o) (list_all is_small_object objects) h).0 in
    let few = small.1 in
    grind (arith, nat_tests)
small_count (o ∷ objects) (suc object) h = small_count objects object (and_parts (is_small_object o) (list_all is_small_object objects) h).1

-- ---- step texts

-- A test that passes texts in ASCII, and a text behind another one if it passes both, passes step texts where it passes names.
module _ (test : List ℕ → Bool) (two : (a b : List ℕ) → test a ≡ true → test b ≡ true → test (a ++ b) ≡ true) (ascii : (text : List ℕ) → list_all is_print text ≡ true → test text ≡ true) where
  number_passes : (n : ℕ) → n < 2 ^ 64 → test (decimal n) ≡ true
  number_passes n small = ascii (decimal n) (digits_print (decimal n) (digits_decimal own n small))

  arguments_pass : (objects : List ObjectType) (variables : List Variable) → list_all is_small_object objects ≡ true → (params : List Over) (args : List ℕ) → are_arguments objects variables params args ≡ true → test (flat_map (λ k. codes " " ++ decimal k) args) ≡ true
  arguments_pass objects variables small [] [] h = ascii [] refl
  arguments_pass objects variables small [] (k ∷ args) h = absurd (cc h)
  arguments_pass objects variables small (over ∷ params) [] h = absurd (cc h)
  arguments_pass objects variables small (over ∷ params) (k ∷ args) h =
      let count = type_count objects (over_object variables over) in
      let parts = and_parts (nat_lt k count) (are_arguments objects variables params args) h in
      let less : k < count = (let first = parts.0 in grind (arith, nat_tests)) in
      let few : count ≤ 4096 = small_count objects (over_object variables over) small in
      two (codes " " ++ decimal k) (flat_map (λ k. codes " " ++ decimal k) args)
      (two (codes " ") (decimal k) (ascii (codes " ") refl) (number_passes k (omega (arith, less, few)))) (arguments_pass objects variables small params args parts.1)

  pub text_passes : (m : Model) → ((i : ℕ) (t : Transition) → slice_get m.transitions i ≡ Some t → test t.name ≡ true) → (g : ℕ) → g < length m.dp_ground → test (step_text m g) ≡ true
  text_passes m names g less =
      let x = there m.dp_ground g less in
      let fits = at_place (is_ground m.objects m.variables m.transitions) m.dp_ground g x.0 m.grounded x.1 in
      by x.0 x.1 (slice_get m.transitions x.0.transition) refl fits
    where
      small_objects : list_all is_small_object m.objects ≡ true
      small_objects = (and_parts (list_all is_small_object m.objects) _ (and_parts (has_most 1024 m.objects) _ m.few_names).1).0

      by : (x : Ground) → slice_get m.dp_ground g ≡ Some x → (t : Option Transition) → slice_get m.transitions x.transition ≡ t → is_ground m.objects m.variables m.transitions x ≡ true → test (step_text m g) ≡ true
      by x at None e fits = let no : false ≡ true = rw e at fits in absurd (cc no)
      by x at (Some t) e fits =
          let given : are_arguments m.objects m.variables t.params x.args ≡ true = rw e at fits in
          let text : step_text m g ≡ named (Some (t, x.args)) = rw (at, e) refl in
          subst (λ (l : List ℕ). test l ≡ true) (sym text)
          (two t.name (flat_map (λ k. codes " " ++ decimal k) x.args) (names x.transition t e) (arguments_pass m.objects m.variables small_objects t.params x.args given))

module _ (m : Model) where
  -- the first ground transition with a text is the one that has it
  named_at : (line : List ℕ) (g : ℕ) → line ≡ step_text m g → ((i : ℕ) → i < g → step_text m i ≡ line → ⊥) → (gs : List Ground) (at : ℕ) → at ≤ g → g < at + length gs → named_from m at gs line ≡ Some g
  named_at line g is differ [] at low high = absurd (omega arith)
  named_at line g is differ (x ∷ gs) at low high = elim (cases_Bool (bytes_eq (step_text m at) line)) [
    | inl same ↦
        let equal : step_text m at ≡ line = (bytes_eq-Decides (step_text m at) line).0 same in
        let here : at ≡ g = first equal in
        rw same (ap Some here)
    | inr other ↦
        let past : at < g = later other in
        rw other (named_at line g is differ gs (at + 1) (omega (arith, past)) (omega (arith, high)))
  ]
    where
      first : step_text m at ≡ line → at ≡ g
      first equal = elim (cases_Bool (nat_lt at g)) [
        | inl less ↦ absurd (differ at (grind (arith, nat_tests)) equal)
        | inr more ↦ (let not_less : nat_lt at g ≡ false = more in grind (arith, nat_tests))
      ]

      later : bytes_eq (step_text m at) line ≡ false → at < g
      later other = elim (cases_Bool (nat_lt at g)) [
        | inl less ↦ (let is_less : nat_lt at g ≡ true = less in grind (arith, nat_tests))
        | inr more ↦
            let here : at ≡ g = (let not_less : nat_lt at g ≡ false = more in grind (arith, nat_tests)) in
            let equal : step_text m at ≡ line = ap (step_text m) here ∙ sym is in
            let no : true ≡ false = sym ((bytes_eq-Decides (step_text m at) line).1 equal) ∙ other in
            absurd (cc no)
      ]

-- ---- the names of transitions

module _ (read : Reading) (d : Declared) where
  module _ (name : List ℕ) (params : List Param) (entries : List Pair) where
    abbrev on_forward : List Cond → List Effect → Weighing → Bool → Unit {0} → Reads Body
    on_forward preconditions effects w forced forward = Ok (record {
      transition = record { name = name; params = overs params; forced = forced; preconditions = preconditions; effects = effects; weight = w.weight };
      joining = w.joining;
    })

    abbrev on_forced : List Cond → List Effect → Weighing → Bool → Reads Body
    on_forced preconditions effects w forced = direction_of (value_in (codes "direction") entries) >>= on_forward preconditions effects w forced

    abbrev on_weight : List Cond → List Effect → Weighing → Reads Body
    on_weight preconditions effects w = truth_or_false (value_in (codes "forced") entries) >>= on_forced preconditions effects w

    abbrev on_effects : List Cond → List Effect → Reads Body
    on_effects preconditions effects = weighing_of read d params (value_in (codes "cost") entries) >>= on_weight preconditions effects

    abbrev on_preconditions : List Cond → Reads Body
    on_preconditions preconditions = effects_of read d params (value_in (codes "effects") entries) >>= on_effects preconditions

    body_named : (b : Body) → body_of read d name params entries ≡ Ok b → name ≡ b.transition.name
    unfolding body_of
    body_named b h =
        let p = bound (conditions_of read d params 256 (value_in (codes "preconditions") entries)) on_preconditions b h in
        let e = bound (effects_of read d params (value_in (codes "effects") entries)) (on_effects p.0) b p.2 in
        let w = bound (weighing_of read d params (value_in (codes "cost") entries)) (on_weight p.0 e.0) b e.2 in
        let f = bound (truth_or_false (value_in (codes "forced") entries)) (on_forced p.0 e.0 w.0) b w.2 in
        let g = bound (direction_of (value_in (codes "direction") entries)) (on_forward p.0 e.0 w.0 f.0) b f.2 in
        let it : Body = record {
          transition = record { name = name; params = overs params; forced = f.0; preconditions = p.0; effects = e.0; weight = w.0.weight };
          joining = w.0.joining;
        } in
        ap (λ (x : Body). x.transition.name) {x = it} (ok_same it b g.2)

  module _ (item : Tree) where
    abbrev on_body : Body → Reads Move
    on_body b = Ok (record { transition = b.transition; joining = b.joining; place = tree_place item })

    abbrev on_params : List Pair → List ℕ → List Param → Reads Move
    on_params entries name params = body_of read d name params entries >>= on_body

    abbrev on_name : List Pair → List ℕ → Reads Move
    on_name entries name = params_of d (value_in (codes "parameters") entries) >>= on_params entries name

    abbrev on_tree : List Pair → Tree → Reads Move
    on_tree entries tree = name_by is_transition_name tree >>= on_name entries

    abbrev on_entries : List Pair → Reads Move
    on_entries entries = needed (tree_place item) entries (codes "name") >>= on_tree entries

    plain_move : (move : Move) → move_of read d item ≡ Ok move → not (has_control move.transition.name) ≡ true
    unfolding move_of
    plain_move move h =
        let a = bound (keyed transition_keys item) on_entries move h in
        let t = bound (needed (tree_place item) a.0 (codes "name")) (on_tree a.0) move a.2 in
        let n = bound (name_by is_transition_name t.0) (on_name a.0) move t.2 in
        let p = bound (params_of d (value_in (codes "parameters") a.0)) (on_params a.0 n.0) move n.2 in
        let b = bound (body_of read d n.0 p.0 a.0) on_body move p.2 in
        let it : Move = record { transition = b.0.transition; joining = b.0.joining; place = tree_place item } in
        let same : it ≡ move = ok_same it move b.2 in
        let tested = named_so is_transition_name t.0 n.0 n.1 in
        let plain : not (has_control n.0) ≡ true = (and_parts (not (has_control n.0)) _ (and_parts (is_name n.0) _ tested).1).0 in
        subst (λ (x : Move). not (has_control x.transition.name) ≡ true) {x = it} same (subst (λ (x : List ℕ). not (has_control x) ≡ true) {x = n.0} {y = b.0.transition.name} (body_named n.0 p.0 a.0 b.0 b.1) plain)

  abbrev IsPlain : Move → Type 0
  IsPlain move = not (has_control move.transition.name) ≡ true

  moves_push : (done all : List Move) (item : Tree) → move_step read d done item ≡ Ok all → (move : Move) × IsPlain move × (done ++ move ∷ [] ≡ all)
  moves_push done all item h = pushed IsPlain (move_of read d item) (λ move is. plain_move item move is) done all h

  plain_moves : (domain problem : Option Tree) (moves : List Move) → moves_of read d domain problem ≡ Ok moves → list_all (λ (move : Move). not (has_control move.transition.name)) moves ≡ true
  plain_moves domain problem moves h = both_all 65536 (move_step read d) (λ (move : Move). not (has_control move.transition.name)) moves_push domain problem moves h

abbrev has_plain_name : Transition → Bool
has_plain_name t = not (has_control t.name)

-- no name of a transition has a control character
plain_names : (read : Reading) (domain problem : Tree) (x : Parts) → meaning read domain problem ≡ Ok x → list_all has_plain_name x.transitions ≡ true
plain_names read domain problem x means =
    let s = meaning_steps read domain problem x means in
    let rules = rules_steps read (tree_place domain) s.settings s.declared s.rules s.is_rules in
    let plain = plain_moves read s.declared (in_domain s.settings (codes "transitions")) (in_problem s.settings (codes "transitions")) s.rules.moves rules.moves in
    subst (λ (x : Parts). list_all has_plain_name x.transitions ≡ true) s.whole
    (list_all-map has_plain_name (λ (move : Move). move.transition) s.rules.moves ∙ plain)

no_control : (name : List ℕ) (b : Bool) → has_control name ≡ b → not b ≡ true → has_control name ≡ false
no_control name true e h = absurd (cc h)
no_control name false e h = e

-- ---- all step texts

-- The step texts are lines where the names of transitions are that have no control characters.
pub steps_are_lines : (read : Reading) (domain problem : Tree) (m : Model) → meaning read domain problem ≡ Ok (parts_of m)
    → ((i : ℕ) (t : Transition) → slice_get m.transitions i ≡ Some t → has_control t.name ≡ false → is_line t.name ≡ true) → HasStepTexts m
steps_are_lines read domain problem m means lines g less =
    let plain = plain_names read domain problem (parts_of m) means in
    let names : (i : ℕ) (t : Transition) → slice_get m.transitions i ≡ Some t → is_line t.name ≡ true =
    λ i t at. lines i t at (no_control t.name (has_control t.name) refl (at_place has_plain_name m.transitions i t plain at)) in
    let first = named_at m (step_text m g) g refl (λ i before same. steps_differ read domain problem m means i g before less same) m.dp_ground 0 (omega arith) (omega (arith, less)) in
    (first, text_passes is_line line_append ascii_line m names g less)
