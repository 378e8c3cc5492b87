-- The lists that may stand in both files.
use Rattle.std.proofs.Common.{◌≡◌, ℕ, ◌-◌, Bool, true, false, nat_le, if◌then◌else◌, List, [], ◌∷◌, ◌++◌, length, Option, Some, None, Ok, refl, sym, ap, ◌∙◌, subst, append_assoc}
use Rattle.std.specs.Prelude.{codes}
use Rattle.std.proofs.lemmas.List.{append-nil}
use Rattle.dp_base.specs.declared.place.Place.{Place}
use Rattle.dp_base.specs.Results.{◌>>=◌, each, in_turn}
use Rattle.yaml_tree.specs.declared.tree.Tree.{Tree}
use Rattle.yaml_tree.specs.declared.tree.Tree as trees
use Rattle.yaml_tree.specs.declared.tree.Pair.{Pair}
use Rattle.yaml_tree.specs.Fields.{tree_place, form_items, value_in}
use Rattle.dypdl_nodes.specs.Reads.{Reads, refuse}
use Rattle.dypdl_nodes.specs.Shapes.{items_form, items_of, items_or_none}
use Rattle.dypdl_rules.specs.Declarations.{Declared}
use Rattle.dypdl_rules.specs.Expressions.{Reading}
use Rattle.dypdl_rules.specs.Conditions.{condition_of}
use Rattle.dypdl_rules.specs.Moves.{move_of, in_both}
use Rattle.dypdl_rules.specs.BaseCases.{base_case_of, number_in}
use Rattle.dypdl_load.specs.Meaning.{Parts, parts_of}
use Rattle.dypdl_load.proofs.Lists.{bound}
use Rattle.content_laws.specs.Files.{under_key, or_no_items, items_in, items_of_both}
use Rattle.content_laws.specs.Lists.{LawLists}
use Rattle.content_laws.proofs.Outcomes.{ok_same}
use Rattle.content_laws.proofs.Meanings.{MeaningSteps, meaning_steps}

abbrev behind : {A : Type 0} → List A → A → Reads (List A)
behind done x = Ok (done ++ x ∷ [])

-- ---- steps in turn

module _ {A B : Type 0} (f : B → Reads A) where
  in_turn_more : (y : B) (ys : List B) (x : A) (xs : List A) → f y ≡ Ok x → in_turn f ys ≡ Ok xs → in_turn f (y ∷ ys) ≡ Ok (x ∷ xs)
  in_turn_more y ys x xs first rest =
      ap (λ (r : Reads A). r >>= λ z. in_turn f ys >>= λ zs. Ok (z ∷ zs)) first ∙ ap (λ (r : Reads (List A)). r >>= λ zs. Ok (x ∷ zs)) rest

  pub pushes : (ys : List B) (done end : List A) → each (λ done y. f y >>= behind done) done ys ≡ Ok end → (xs : List A) × (in_turn f ys ≡ Ok xs) × (end ≡ done ++ xs)
  pushes [] done end e = ([], refl, sym (ok_same done end e) ∙ sym (append-nil done))
  pushes (y ∷ ys) done end e =
      let next = bound (f y >>= behind done) (λ t. each (λ done y. f y >>= behind done) t ys) end e in
      let x = bound (f y) (behind done) next.0 next.1 in
      let rest = pushes ys next.0 end next.2 in (
        x.0 ∷ rest.0,
        in_turn_more y ys x.0 rest.0 x.1 rest.1,
        rest.2 ∙ ap (λ (d : List A). d ++ rest.0) (sym (ok_same (done ++ x.0 ∷ []) next.0 x.2)) ∙ append_assoc done (x.0 ∷ []) rest.0,
      )

  in_turn_both : (ys zs : List B) (xs us : List A) → in_turn f ys ≡ Ok xs → in_turn f zs ≡ Ok us → in_turn f (ys ++ zs) ≡ Ok (xs ++ us)
  in_turn_both [] zs xs us e h = h ∙ ap (λ (d : List A). Ok (d ++ us)) (ok_same [] xs e)
  in_turn_both (y ∷ ys) zs xs us e h =
      let x = bound (f y) (λ z. in_turn f ys >>= λ rest. Ok (z ∷ rest)) xs e in
      let rest = bound (in_turn f ys) (λ rest. Ok (x.0 ∷ rest)) xs x.2 in
      in_turn_more y (ys ++ zs) x.0 (rest.0 ++ us) x.1 (in_turn_both ys zs rest.0 us rest.1 h)
      ∙ ap (λ (d : List A). Ok (d ++ us)) (ok_same (x.0 ∷ rest.0) xs rest.2)

-- ---- the items of a key

items_of_form : (form : trees.Tree-F Tree Pair) (items : List Tree) → items_form form ≡ Ok items → items ≡ or_no_items (form_items form)
items_of_form (trees.Tree-F.Scalar at []) items e = sym (ok_same [] items e)
items_of_form (trees.Tree-F.Scalar at (byte ∷ bytes)) items e = absurd (cc e)
items_of_form (trees.Tree-F.List at xs) items e = sym (ok_same xs items e)
items_of_form (trees.Tree-F.Map at entries) items e = absurd (cc e)

few_same : (b : Bool) (at : Place) (xs ys : List Tree) → (if b then Ok xs else refuse 49 at) ≡ Ok ys → xs ≡ ys
few_same true at xs ys e = ok_same xs ys e
few_same false at xs ys e = absurd (cc e)

pub items_are : (most : ℕ) (o : Option Tree) (items : List Tree) → items_or_none most o ≡ Ok items → items ≡ items_in o
items_are most None items e = sym (ok_same [] items e)
items_are most (Some tree) items e =
    let all = bound (items_of tree) (λ xs. if nat_le (length xs) most then Ok xs else refuse 49 (tree_place tree)) items e in
    sym (few_same (nat_le (length all.0) most) (tree_place tree) all.0 items all.2) ∙ items_of_form (trees.out-Tree tree) all.0 all.1

-- ---- both lists

both_lists : {A : Type 0} (f : Tree → Reads A) (most : ℕ) (domain problem : Option Tree) (all : List A) → in_both most (λ done item. f item >>= behind done) domain problem ≡ Ok all
    → in_turn f (items_in domain ++ items_in problem) ≡ Ok all
both_lists {A} f most domain problem all e =
    let first = bound (items_or_none most domain) (λ first. each step [] first >>= λ done. items_or_none (most - length first) problem >>= λ second. each step done second) all e in
    let done = bound (each step [] first.0) (λ done. items_or_none (most - length first.0) problem >>= λ second. each step done second) all first.2 in
    let second = bound (items_or_none (most - length first.0) problem) (λ second. each step done.0 second) all done.2 in
    let xs = pushes f first.0 [] done.0 done.1 in
    let us = pushes f second.0 done.0 all second.2 in
    let one : in_turn f (items_in domain) ≡ Ok xs.0 = ap (in_turn f) (sym (items_are most domain first.0 first.1)) ∙ xs.1 in
    let two : in_turn f (items_in problem) ≡ Ok us.0 = ap (in_turn f) (sym (items_are (most - length first.0) problem second.0 second.1)) ∙ us.1 in
    let whole : xs.0 ++ us.0 ≡ all = ap (λ (d : List A). d ++ us.0) (sym xs.2) ∙ sym us.2 in
    in_turn_both f (items_in domain) (items_in problem) xs.0 us.0 one two ∙ ap Ok whole
  where
    step : List A → Tree → Reads (List A)
    step done item = f item >>= behind done

module _ (read : Reading) (domain problem : Tree) (x : Parts) (s : MeaningSteps read domain problem x) where
  under_both : {A : Type 0} (f : Tree → Reads A) (most : ℕ) (name : List ℕ) (all : List A)
      → in_both most (λ done item. f item >>= behind done) (value_in name s.settings.domain.entries) (value_in name s.settings.problem.entries) ≡ Ok all
      → in_turn f (items_of_both domain problem name) ≡ Ok all
  under_both {A} f most name all e =
      both_lists f most (under_key domain name) (under_key problem name) all
      (ap (λ (es : List Pair). in_both most step (value_in name es) (under_key problem name)) (sym s.is_settings.domain_entries)
      ∙ ap (λ (es : List Pair). in_both most step (value_in name s.settings.domain.entries) (value_in name es)) (sym s.is_settings.problem_entries)
      ∙ e)
    where
      step : List A → Tree → Reads (List A)
      step done item = f item >>= behind done

pub lists_law : LawLists
lists_law read domain problem m means =
    let s = meaning_steps read domain problem (parts_of m) means in
    let d : Declared = s.declared in
    record {
      moves = s.rules.moves;
      transitions = subst (λ (x : Parts). in_turn (move_of read (named x)) (items_of_both domain problem (codes "transitions")) ≡ Ok s.rules.moves) s.whole
          (under_both read domain problem (parts_of m) s (move_of read d) 65536 (codes "transitions") s.rules.moves s.is_rules.moves);
      are_moves = sym (ap (λ (x : Parts). x.transitions) s.whole);
      constraints = subst (λ (x : Parts). in_turn (condition_of read (named x) []) (items_of_both domain problem (codes "constraints")) ≡ Ok x.constraints) s.whole
          (under_both read domain problem (parts_of m) s (condition_of read d []) 65536 (codes "constraints") s.rules.constraints s.is_rules.constraints);
      base_cases = subst (λ (x : Parts). in_turn (base_case_of read (named x)) (items_of_both domain problem (codes "base_cases")) ≡ Ok x.base_cases) s.whole
          (under_both read domain problem (parts_of m) s (base_case_of read d) 65536 (codes "base_cases") s.rules.base_cases s.is_rules.base_cases);
      bounds = subst (λ (x : Parts). in_turn (number_in read (named x)) (items_of_both domain problem (codes "dual_bounds")) ≡ Ok x.bounds) s.whole
          (under_both read domain problem (parts_of m) s (number_in read d) 1024 (codes "dual_bounds") s.rules.bounds s.is_rules.bounds);
    }
  where
    named : Parts → Declared
    named x = record { objects = x.objects; variables = x.variables; tables = x.tables }
