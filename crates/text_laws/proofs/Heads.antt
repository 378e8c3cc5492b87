-- The first line of an entry is read back, and it is a line and UTF-8.
use Rattle.std.proofs.Common.{◌≡◌, ℕ, suc, ◌≤◌, codes, decimal, Bool, true, List, ◌∷◌, ◌++◌, Some, refl, sym, ap, ◌∙◌, arith, append_assoc}
use Rattle.std.specs.Prelude.{ℤ, pos, negsuc, option_map, option_and_then, nat_le}
use Rattle.std.specs.Fmt.{signed_decimal}
use Rattle.std.specs.List.{list_all}
use Rattle.std.proofs.lemmas.Bool.{and_from}
use Rattle.std.proofs.lemmas.Bool.Decides.{nat_tests}
use Rattle.dp_model.specs.declared.answers.FaultKind.{FaultKind}
use Rattle.dp_model.specs.declared.answers.FaultKind.TheVariants as kinds
use Rattle.dp_base.specs.Bytes.{is_digit}
use Rattle.solve_report.specs.Lines.{kind_text}
use Rattle.cert_text.specs.Words.{number_said}
use Rattle.cert_text.proofs.ReadBack.{is_print}
use Rattle.text_laws.specs.Entries.{Head, AnnounceLine, SolutionLine, AnnouncedLine, PassLine, SearchLine, BoundLine, OptimalLine, InfeasibleLine, StoppedLine, FaultLine, MemoryLine, HasWords, IsSignedWord, IsWord, announced_counted, announced_said, fault_counted, fault_of, head_said, pass_numbered, pass_said, pass_shared, pass_visited, solution_counted, solution_said}
use Rattle.text_laws.proofs.Digits.{decimal_digits}
use Rattle.text_laws.proofs.Numbers.{all_weaker, before_back, decimal_inner, digit_range, last_back, number_back, number_behind_back, number_first, signed_behind_back, signed_first}

-- the line of a head
abbrev pub head_line : Head → List ℕ
head_line (AnnounceLine cost) = codes "announce " ++ signed_decimal cost
head_line (SolutionLine cost steps) = codes "solution " ++ (signed_decimal cost ++ (codes " " ++ decimal steps))
head_line (AnnouncedLine announced refused) = codes "announced " ++ (decimal announced ++ (codes " refused " ++ decimal refused))
head_line (PassLine number share visited dropped) = codes "pass " ++ (decimal number ++ (codes " share " ++ (decimal share ++ (codes " visited " ++ (decimal visited ++ (codes " dropped " ++ decimal dropped))))))
head_line (SearchLine visited) = codes "search visited " ++ decimal visited
head_line (BoundLine cost) = codes "bound " ++ signed_decimal cost
head_line (OptimalLine cost) = codes "verdict optimal " ++ signed_decimal cost
head_line InfeasibleLine = codes "verdict infeasible"
head_line (StoppedLine visits) = codes "verdict stopped " ++ decimal visits
head_line (FaultLine kind spot steps) = codes "verdict fault " ++ (kind_text kind ++ (codes " at " ++ (spot ++ (codes " after " ++ decimal steps))))
head_line MemoryLine = codes "memory"

-- ---- it is read back

solution_back : (cost : ℤ) (steps : ℕ) → IsSignedWord cost → IsWord steps → solution_said (head_line (SolutionLine cost steps)) ≡ Some (SolutionLine cost steps)
solution_back cost steps a b =
    ap (option_and_then solution_counted) (signed_first (codes "solution ") (decimal steps) cost a) ∙ ap (option_map (λ (steps : ℕ). SolutionLine cost steps)) (number_back steps b)

announced_back : (announced refused : ℕ) → IsWord announced → IsWord refused → announced_said (head_line (AnnouncedLine announced refused)) ≡ Some (AnnouncedLine announced refused)
announced_back announced refused a b =
    ap (option_and_then announced_counted) (number_first (codes "announced ") (codes "refused " ++ decimal refused) announced a)
    ∙ ap (option_map (λ (refused : ℕ). AnnouncedLine announced refused)) (number_behind_back (codes "refused ") refused b)

pass_back : (number share visited dropped : ℕ) → HasWords (PassLine number share visited dropped) → pass_said (head_line (PassLine number share visited dropped)) ≡ Some (PassLine number share visited dropped)
pass_back number share visited dropped h =
    ap (option_and_then pass_numbered) (number_first (codes "pass ") (codes "share " ++ (decimal share ++ (codes " visited " ++ (decimal visited ++ (codes " dropped " ++ decimal dropped))))) number h.0)
    ∙ ap (option_and_then (pass_shared number)) (number_first (codes "share ") (codes "visited " ++ (decimal visited ++ (codes " dropped " ++ decimal dropped))) share h.1)
    ∙ ap (option_and_then (pass_visited number share)) (number_first (codes "visited ") (codes "dropped " ++ decimal dropped) visited h.2)
    ∙ ap (option_map (λ (dropped : ℕ). PassLine number share visited dropped)) (number_behind_back (codes "dropped ") dropped h.3)

fault_back : (kind : FaultKind) (spot : List ℕ) (steps : ℕ) → IsWord steps → fault_of kind (spot ++ (codes " after " ++ decimal steps)) ≡ Some (FaultLine kind spot steps)
fault_back kind spot steps h =
    let parts : spot ++ (codes " after " ++ decimal steps) ≡ (spot ++ codes " after") ++ 32 ∷ decimal steps = sym (append_assoc spot (codes " after") (32 ∷ decimal steps)) in
    ap (fault_of kind) parts
    ∙ ap (option_and_then (fault_counted kind)) (last_back (spot ++ codes " after") (decimal steps) (decimal_inner steps))
    ∙ ap (option_and_then (λ (spot : List ℕ). option_map (λ (steps : ℕ). FaultLine kind spot steps) (number_said (decimal steps)))) (before_back spot (codes " after"))
    ∙ ap (option_map (λ (steps : ℕ). FaultLine kind spot steps)) (number_back steps h)

pub head_back : (head : Head) → HasWords head → head_said (head_line head) ≡ Some head
head_back (AnnounceLine cost) h = rw (signed_behind_back (codes "announce ") cost h) refl
head_back (SolutionLine cost steps) h = rw (solution_back cost steps h.0 h.1) refl
head_back (AnnouncedLine announced refused) h = rw (announced_back announced refused h.0 h.1) refl
head_back (PassLine number share visited dropped) h = rw (pass_back number share visited dropped h) refl
head_back (SearchLine visited) h = rw (number_behind_back (codes "search visited ") visited h) refl
head_back (BoundLine cost) h = rw (signed_behind_back (codes "bound ") cost h) refl
head_back (OptimalLine cost) h = rw (signed_behind_back (codes "verdict optimal ") cost h) refl
head_back InfeasibleLine h = refl
head_back (StoppedLine visits) h = rw (number_behind_back (codes "verdict stopped ") visits h) refl
head_back (FaultLine kinds.Range spot steps) h = rw (fault_back kinds.Range spot steps h) refl
head_back (FaultLine kinds.ZeroDivisor spot steps) h = rw (fault_back kinds.ZeroDivisor spot steps h) refl
head_back (FaultLine kinds.Negative spot steps) h = rw (fault_back kinds.Negative spot steps h) refl
head_back (FaultLine kinds.Index spot steps) h = rw (fault_back kinds.Index spot steps h) refl
head_back MemoryLine h = refl

-- ---- it passes each test that two texts pass together where both pass it, and that printable texts pass

digit_print : (c : ℕ) → is_digit c ≡ true → is_print c ≡ true
digit_print c h = let range = digit_range c h in and_from (nat_le 32 c) (nat_le c 126) (low (omega (arith, range.0))) (high (omega (arith, range.1)))
  where
    low : 32 ≤ c → nat_le 32 c ≡ true
    low a = grind (arith, nat_tests)

    high : c ≤ 126 → nat_le c 126 ≡ true
    high a = grind (arith, nat_tests)

decimal_print : (n : ℕ) → list_all is_print (decimal n) ≡ true
decimal_print n = all_weaker is_digit is_print digit_print (decimal n) (decimal_digits n)

signed_print : (z : ℤ) → list_all is_print (signed_decimal z) ≡ true
signed_print (pos n) = decimal_print n
signed_print (negsuc n) = decimal_print (suc n)

kind_print : (kind : FaultKind) → list_all is_print (kind_text kind) ≡ true
kind_print kinds.Range = refl
kind_print kinds.ZeroDivisor = refl
kind_print kinds.Negative = refl
kind_print kinds.Index = refl

-- the text of a fault's spot passes
abbrev pub SpotPasses : (List ℕ → Bool) → Head → Type 0
SpotPasses test (FaultLine kind spot steps) = test spot ≡ true
SpotPasses test head = Unit {0}

module _ (test : List ℕ → Bool) (two : (a b : List ℕ) → test a ≡ true → test b ≡ true → test (a ++ b) ≡ true) (ascii : (text : List ℕ) → list_all is_print text ≡ true → test text ≡ true) where
  pub decimal_passes : (n : ℕ) → test (decimal n) ≡ true
  decimal_passes n = ascii (decimal n) (decimal_print n)

  -- words, and a number behind them
  words_number : (words : List ℕ) (n : ℕ) → list_all is_print words ≡ true → test (words ++ decimal n) ≡ true
  words_number words n is = two words (decimal n) (ascii words is) (decimal_passes n)

  words_signed : (words : List ℕ) (z : ℤ) → list_all is_print words ≡ true → test (words ++ signed_decimal z) ≡ true
  words_signed words z is = two words (signed_decimal z) (ascii words is) (ascii (signed_decimal z) (signed_print z))

  words_then : (words : List ℕ) (n : ℕ) (rest : List ℕ) → list_all is_print words ≡ true → test rest ≡ true → test (words ++ (decimal n ++ rest)) ≡ true
  words_then words n rest is more = two words (decimal n ++ rest) (ascii words is) (two (decimal n) rest (decimal_passes n) more)

  pub head_passes : (head : Head) → SpotPasses test head → test (head_line head) ≡ true
  head_passes (AnnounceLine cost) l = words_signed (codes "announce ") cost refl
  head_passes (SolutionLine cost steps) l = two (codes "solution ") (signed_decimal cost ++ (codes " " ++ decimal steps)) (ascii (codes "solution ") refl) (two (signed_decimal cost) (codes " " ++ decimal steps) (ascii (signed_decimal cost) (signed_print cost)) (words_number (codes " ") steps refl))
  head_passes (AnnouncedLine announced refused) l = words_then (codes "announced ") announced (codes " refused " ++ decimal refused) refl (words_number (codes " refused ") refused refl)
  head_passes (PassLine number share visited dropped) l =
      words_then (codes "pass ") number (codes " share " ++ (decimal share ++ (codes " visited " ++ (decimal visited ++ (codes " dropped " ++ decimal dropped))))) refl
      (words_then (codes " share ") share (codes " visited " ++ (decimal visited ++ (codes " dropped " ++ decimal dropped))) refl
      (words_then (codes " visited ") visited (codes " dropped " ++ decimal dropped) refl (words_number (codes " dropped ") dropped refl)))
  head_passes (SearchLine visited) l = words_number (codes "search visited ") visited refl
  head_passes (BoundLine cost) l = words_signed (codes "bound ") cost refl
  head_passes (OptimalLine cost) l = words_signed (codes "verdict optimal ") cost refl
  head_passes InfeasibleLine l = ascii (codes "verdict infeasible") refl
  head_passes (StoppedLine visits) l = words_number (codes "verdict stopped ") visits refl
  head_passes (FaultLine kind spot steps) l =
      two (codes "verdict fault ") (kind_text kind ++ (codes " at " ++ (spot ++ (codes " after " ++ decimal steps)))) (ascii (codes "verdict fault ") refl)
      (two (kind_text kind) (codes " at " ++ (spot ++ (codes " after " ++ decimal steps))) (ascii (kind_text kind) (kind_print kind))
      (two (codes " at ") (spot ++ (codes " after " ++ decimal steps)) (ascii (codes " at ") refl) (two spot (codes " after " ++ decimal steps) l (words_number (codes " after ") steps refl))))
  head_passes MemoryLine l = ascii (codes "memory") refl
