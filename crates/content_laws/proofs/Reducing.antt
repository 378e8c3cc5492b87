-- The word that decides which costs are better.
use Rattle.std.proofs.Common.{◌≡◌, ℕ, Bool, true, false, ◌||◌, if◌then◌else◌, List, Option, Some, None, Ok, ◌⊎◌, inl, inr, ⊎_elim, refl, sym, ap, ◌∙◌, subst}
use Rattle.std.specs.Prelude.{codes, unwrap_or}
use Rattle.std.specs.Option.{option_or}
use Rattle.std.specs.Str.{bytes_eq}
use Rattle.std.proofs.lemmas.Slice.Eq.{bytes_eq-Decides}
use Rattle.dp_base.specs.declared.place.Place.{Place}
use Rattle.yaml_tree.specs.declared.tree.Tree.{Tree}
use Rattle.yaml_tree.specs.declared.tree.Pair.{Pair}
use Rattle.yaml_tree.specs.Fields.{tree_place, scalar_text, value_in}
use Rattle.dypdl_nodes.specs.Reads.{Reads, refuse, or_refuse}
use Rattle.dypdl_nodes.specs.Scalars.{text_of}
use Rattle.dypdl_load.specs.Settings.{reduce_named, reduce_of}
use Rattle.dypdl_load.specs.Meaning.{Parts, parts_of}
use Rattle.dypdl_load.proofs.Lists.{bound}
use Rattle.content_laws.specs.Files.{under_key, word_in}
use Rattle.content_laws.specs.Reduce.{reduce_word, Decides, LawReduce}
use Rattle.content_laws.proofs.Outcomes.{ok_same}
use Rattle.content_laws.proofs.Meanings.{meaning_steps}

-- a word of one file, and what it says
abbrev Says : Option (List ℕ) → Option Bool → Type 0
Says word held = ((word ≡ Some (codes "max")) × (held ≡ Some false)) ⊎ (((word ≡ Some (codes "min")) × (held ≡ Some true)) ⊎ ((word ≡ None) × (held ≡ None)))

by_test : {A : Type 0} (b : Bool) (r s : Reads A) (x : A) → (if b then r else s) ≡ Ok x → ((b ≡ true) × (r ≡ Ok x)) ⊎ (s ≡ Ok x)
by_test true r s x e = inl (refl, e)
by_test false r s x e = inr e

text_is : (at : Place) (o : Option (List ℕ)) (word : List ℕ) → or_refuse 50 at o ≡ Ok word → o ≡ Some word
text_is at None word e = absurd (cc e)
text_is at (Some w) word e = ap Some (ok_same w word e)

same_word : (word name : List ℕ) → bytes_eq word name ≡ true → word ≡ name
same_word word name e = (bytes_eq-Decides word name).0 e

refused : {A : Type 0} (b : Bool) (n k : ℕ) (at : Place) (x : A) → (if b then refuse n at else refuse k at) ≡ Ok x → ⊥
refused true n k at x e = cc e
refused false n k at x e = cc e

named : (at : Place) (word : List ℕ) (held : Option Bool) → reduce_named at word ≡ Ok held → Says (Some word) held
named at word held e =
    ⊎_elim
    (λ is. inr (inl (ap Some (same_word word (codes "min") is.0), sym (ok_same (Some true) held is.1))))
    (λ rest. ⊎_elim
    (λ is. inl (ap Some (same_word word (codes "max") is.0), sym (ok_same (Some false) held is.1)))
    (λ bad. absurd (refused (bytes_eq word (codes "sum") || bytes_eq word (codes "product")) 52 50 at held bad))
    (by_test (bytes_eq word (codes "max")) (Ok (Some false)) (if bytes_eq word (codes "sum") || bytes_eq word (codes "product") then refuse 52 at else refuse 50 at) held rest))
    (by_test (bytes_eq word (codes "min")) (Ok (Some true)) (if bytes_eq word (codes "max") then Ok (Some false) else (if bytes_eq word (codes "sum") || bytes_eq word (codes "product") then refuse 52 at else refuse 50 at)) held e)

says : (o : Option Tree) (held : Option Bool) → reduce_of o ≡ Ok held → Says (word_in o) held
says None held e = inr (inr (refl, sym (ok_same None held e)))
says (Some tree) held e =
    let word = bound (text_of tree) (reduce_named (tree_place tree)) held e in
    subst (λ (w : Option (List ℕ)). Says w held) (sym (text_is (tree_place tree) (scalar_text tree) word.0 word.1)) (named (tree_place tree) word.0 held word.2)

alone : (word : Option (List ℕ)) (held : Option Bool) → Says word held → Decides word (unwrap_or held true)
alone word held (inl is) = inl (is.0, ap (λ (h : Option Bool). unwrap_or h true) is.1)
alone word held (inr (inl is)) = inr (inl is.0, ap (λ (h : Option Bool). unwrap_or h true) is.1)
alone word held (inr (inr is)) = inr (inr is.0, ap (λ (h : Option Bool). unwrap_or h true) is.1)

-- the problem's word goes before the domain's
both : (word_d word_p : Option (List ℕ)) (first second : Option Bool) → Says word_d first → Says word_p second → Decides (option_or word_p word_d) (unwrap_or (option_or second first) true)
both word_d word_p first second d (inl is) = inl (ap (λ (w : Option (List ℕ)). option_or w word_d) is.0, ap (λ (h : Option Bool). unwrap_or (option_or h first) true) is.1)
both word_d word_p first second d (inr (inl is)) = inr (inl (ap (λ (w : Option (List ℕ)). option_or w word_d) is.0), ap (λ (h : Option Bool). unwrap_or (option_or h first) true) is.1)
both word_d word_p first second d (inr (inr is)) =
    let word : word_d ≡ option_or word_p word_d = sym (ap (λ (w : Option (List ℕ)). option_or w word_d) is.0) in
    let held : first ≡ option_or second first = sym (ap (λ (h : Option Bool). option_or h first) is.1) in
    let so : Decides (option_or word_p word_d) (unwrap_or first true) = subst (λ (w : Option (List ℕ)). Decides w (unwrap_or first true)) word (alone word_d first d) in
    subst (λ (h : Option Bool). Decides (option_or word_p word_d) (unwrap_or h true)) held so

pub reduce_law : LawReduce
reduce_law read domain problem m means =
    let s = meaning_steps read domain problem (parts_of m) means in
    let in_d : reduce_of (under_key domain (codes "reduce")) ≡ Ok s.is_settings.first = ap (λ (es : List Pair). reduce_of (value_in (codes "reduce") es)) (sym s.is_settings.domain_entries) ∙ s.is_settings.in_domain_file in
    let in_p : reduce_of (under_key problem (codes "reduce")) ≡ Ok s.is_settings.second = ap (λ (es : List Pair). reduce_of (value_in (codes "reduce") es)) (sym s.is_settings.problem_entries) ∙ s.is_settings.in_problem_file in
    let so = both (word_in (under_key domain (codes "reduce"))) (word_in (under_key problem (codes "reduce"))) s.is_settings.first s.is_settings.second
    (says (under_key domain (codes "reduce")) s.is_settings.first in_d) (says (under_key problem (codes "reduce")) s.is_settings.second in_p) in
    let at_s : Decides (reduce_word domain problem) s.settings.minimize = subst (Decides (reduce_word domain problem)) (sym s.is_settings.minimize) so in
    subst (λ (x : Parts). Decides (reduce_word domain problem) x.minimize) s.whole at_s
