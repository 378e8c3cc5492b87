-- The step texts of a model that was loaded are lines, and name their ground transitions.
use Rattle.std.proofs.Common.{◌≡◌, ℕ, ◌≤◌, true, nat_lt, nat_le, List, [], ◌∷◌, ◌++◌, length, codes, Option, None, Some, Ok, refl, sym, ap, ◌∙◌, subst, arith}
use Rattle.std.specs.List.{list_all}
use Rattle.std.specs.Str.Lossy.{utf8_valid_len}
use Rattle.std.proofs.lemmas.Bool.{and_from, and_parts, cond-false, le-ltb, leb-true}
use Rattle.std.proofs.lemmas.Grind.{flat_map-append}
use Rattle.std.proofs.lemmas.List.Folds.{list_all-append}
use Rattle.std.proofs.lemmas.Str.{utf8_valid_len-IsUtf8}
use Rattle.dp_base.specs.Bytes.{is_blank, line}
use Rattle.dp_model.specs.declared.whole.Model.{Model}
use Rattle.yaml_tree.specs.Fields.{list_items, map_entries, value_in}
use Rattle.yaml_tree.specs.Texts.{Spells}
use Rattle.yaml_tree.specs.declared.tree.Tree.{Tree}
use Rattle.yaml_tree.proofs.BasePoints.{below-blank}
use Rattle.dypdl_rules.specs.Expressions.{Reading}
use Rattle.dypdl_load.specs.Meaning.{meaning, parts_of}
use Rattle.step_names.specs.Lines.{bad_byte, is_blank_line}
use Rattle.cert_types.specs.Parts.{Parts as CertParts}
use Rattle.cert_text.specs.ReadBack.{AreBehind, IsCertificate}
use Rattle.cert_text.specs.Texts.{cert_lines, text_of_lines}
use Rattle.cert_text.proofs.ReadBack.{cert_passes, is_print, read_back}
use Rattle.content_laws.specs.Files.{word_in, under_key, or_no_items, items_in, items_of_both}
use Rattle.content_guards.specs.StepTexts.{AreNamedInUtf8, LawFileSteps, LawReadOfFiles, LawStepTexts}
use Rattle.content_guards.specs.Variables.{word_under}
use Rattle.content_guards.proofs.StepTexts.{at_place, steps_are_lines, text_passes}
use Rattle.content_guards.proofs.Transitions.{transitions_of_law}
use Rattle.content_guards.proofs.Whole.{whole, joined, low_more, no_bytes, one_low, utf8_line, utf8_whole, whole_utf8}
use Rattle.content_guards.proofs.WholeTrees.{is_whole, text_whole, items_whole, entries_whole, value_whole}
use Rattle.content_guards.proofs.WholeTexts.{bytes_whole, reads_whole}

pub step_texts : LawStepTexts
step_texts read domain problem m means utf8 = steps_are_lines read domain problem m means (λ i t at plain. utf8_line t.name (utf8 i t at) plain)

-- ---- the names of transitions are texts of the files

-- the items of a list
listed_whole : (o : Option Tree) → ((tree : Tree) → o ≡ Some tree → is_whole tree ≡ true) → list_all is_whole (items_in o) ≡ true
listed_whole None good = refl
listed_whole (Some tree) good = by (list_items tree) refl
  where
    by : (items : Option (List Tree)) → list_items tree ≡ items → list_all is_whole (or_no_items items) ≡ true
    by None e = refl
    by (Some items) e = items_whole tree items (good tree refl) e

key_whole : (file : Tree) (name : List ℕ) → is_whole file ≡ true → list_all is_whole (items_in (under_key file name)) ≡ true
key_whole file name good = listed_whole (under_key file name) (λ tree e. value_whole name (map_entries file) tree (entries_whole file good) e)

both_whole : (domain problem : Tree) (name : List ℕ) → is_whole domain ≡ true → is_whole problem ≡ true → list_all is_whole (items_of_both domain problem name) ≡ true
both_whole domain problem name a b =
    let first : List Tree = items_in (under_key domain name) in
    let second : List Tree = items_in (under_key problem name) in
    list_all-append is_whole first second ∙ and_from (list_all is_whole first) (list_all is_whole second) (key_whole domain name a) (key_whole problem name b)

-- the word under a key
word_whole : (item : Tree) (name text : List ℕ) → is_whole item ≡ true → word_under item name ≡ Some text → whole [] text ≡ true
word_whole item name text good is = by (value_in name (map_entries item)) refl is
  where
    by : (o : Option Tree) → value_in name (map_entries item) ≡ o → word_in o ≡ Some text → whole [] text ≡ true
    by None e k = absurd (cc k)
    by (Some tree) e k = text_whole tree text (value_whole name (map_entries item) tree (entries_whole item good) e) k

pub file_names : (read : Reading) (domain_text problem_text : List ℕ) (domain problem : Tree) (m : Model) → Spells 1 domain_text domain → Spells 2 problem_text problem → meaning read domain problem ≡ Ok (parts_of m) → AreNamedInUtf8 m
file_names read domain_text problem_text domain problem m domain_spells problem_spells means i t at =
    let items : List Tree = items_of_both domain problem (codes "transitions") in
    let good = both_whole domain problem (codes "transitions") (reads_whole 1 domain_text domain domain_spells) (reads_whole 2 problem_text problem problem_spells) in
    let given = transitions_of_law read domain problem m means in
    let item = given.each_one i t at in
    whole_utf8 t.name (word_whole item.0 (codes "name") t.name (at_place is_whole items i item.0 good item.1) item.2.name)

pub file_steps : LawFileSteps
file_steps read domain_text problem_text domain problem m domain_spells problem_spells means =
    step_texts read domain problem m means (file_names read domain_text problem_text domain problem m domain_spells problem_spells means)

-- ---- what is written of a certificate is UTF-8

pub ascii_whole : (text : List ℕ) → list_all is_print text ≡ true → whole [] text ≡ true
ascii_whole [] h = no_bytes
ascii_whole (x ∷ text) h =
    let parts = and_parts (is_print x) (list_all is_print text) h in
    let high : x ≤ 126 = leb-true x 126 (and_parts (nat_le 32 x) (nat_le x 126) parts.0).1 in
    low_more x text (omega (arith, high)) (ascii_whole text parts.1)

-- so is each of its lines
cert_whole : (m : Model) (p : CertParts) → AreNamedInUtf8 m → IsCertificate m p → list_all (whole []) (cert_lines m p) ≡ true
cert_whole m p names good =
    cert_passes (whole []) (joined []) ascii_whole m (λ g less. text_passes (whole []) (joined []) ascii_whole m (λ i t at. utf8_whole t.name (names i t at)) g less) p good

blanks_whole : (text : List ℕ) → is_blank_line text ≡ true → whole [] text ≡ true
blanks_whole [] h = no_bytes
blanks_whole (x ∷ text) h = let parts = and_parts (is_blank x) (list_all is_blank text) h in low_more x text (below-blank x parts.0) (blanks_whole text parts.1)

pub lines_whole : (ls : List (List ℕ)) → list_all (whole []) ls ≡ true → whole [] (text_of_lines ls) ≡ true
lines_whole [] h = no_bytes
lines_whole (l ∷ ls) h =
    let parts = and_parts (whole [] l) (list_all (whole []) ls) h in
    joined [] (l ++ 10 ∷ []) (text_of_lines ls) (joined [] l (10 ∷ []) parts.0 (one_low 10 (omega arith))) (lines_whole ls parts.1)

blank_lines_whole : (ls : List (List ℕ)) → list_all is_blank_line ls ≡ true → list_all (whole []) ls ≡ true
blank_lines_whole [] h = refl
blank_lines_whole (l ∷ ls) h = let parts = and_parts (is_blank_line l) (list_all is_blank_line ls) h in and_from (whole [] l) (list_all (whole []) ls) (blanks_whole l parts.0) (blank_lines_whole ls parts.1)

pub fine : (bytes : List ℕ) → whole [] bytes ≡ true → bad_byte bytes ≡ None
fine bytes h =
    let all : utf8_valid_len bytes ≡ length bytes = utf8_valid_len-IsUtf8 bytes (whole_utf8 bytes h) in
    cond-false (nat_lt (utf8_valid_len bytes) (length bytes)) (Some (utf8_valid_len bytes)) None (le-ltb (utf8_valid_len bytes) (length bytes) (omega (arith, all)))

written_fine : (m : Model) (p : CertParts) (front back : List (List ℕ)) → AreNamedInUtf8 m → IsCertificate m p → AreBehind back → bad_byte (text_of_lines front) ≡ None → bad_byte (text_of_lines (front ++ (cert_lines m p ++ back))) ≡ None
written_fine m p front back names good behind in_front =
    let cert = lines_whole (cert_lines m p) (cert_whole m p names good) in
    let blank = lines_whole back (blank_lines_whole back behind.1) in
    let parts : text_of_lines (front ++ (cert_lines m p ++ back)) ≡ text_of_lines front ++ (text_of_lines (cert_lines m p) ++ text_of_lines back) =
    flat_map-append line front (cert_lines m p ++ back) ∙ ap (λ (l : List ℕ). text_of_lines front ++ l) (flat_map-append line (cert_lines m p) back) in
    fine (text_of_lines (front ++ (cert_lines m p ++ back)))
    (subst (λ (l : List ℕ). whole [] l ≡ true) (sym parts)
    (joined [] (text_of_lines front) (text_of_lines (cert_lines m p) ++ text_of_lines back) (bytes_whole (text_of_lines front) in_front) (joined [] (text_of_lines (cert_lines m p)) (text_of_lines back) cert blank)))

pub read_of_files : LawReadOfFiles
read_of_files read domain_text problem_text domain problem m domain_spells problem_spells means p front back good in_front behind first utf8 =
    let names = file_names read domain_text problem_text domain problem m domain_spells problem_spells means in
    read_back m p front back (step_texts read domain problem m means names) good in_front behind first (written_fine m p front back names good behind utf8)
