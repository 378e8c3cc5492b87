-- What a line has of a plain scalar, one byte on.
use Rattle.std.proofs.Common.{◌≡◌, ℕ, ◌+◌, ◌≤◌, ◌<◌, Bool, true, false, List, [], ◌∷◌, ◌++◌, length, get_or, drop, take, refl, sym, ap, ◌∙◌}
use Rattle.std.specs.List.{suffix_len}
use Rattle.std.proofs.lemmas.List.{append-nil, append_assoc, drop_more, drop_all, take_more}
use Rattle.dp_base.specs.Bytes.{is_blank}
use Rattle.yaml_tree.specs.Scalars.{ends_before, run_of}

-- ---- the run before the byte where a plain scalar ends

run_stops : (flow behind : Bool) (byte : ℕ) (bytes : List ℕ) → ends_before flow behind byte bytes ≡ true → run_of flow behind (byte ∷ bytes) ≡ []
unfolding run_of
run_stops flow behind byte bytes ends = rw ends refl

run_goes : (flow behind : Bool) (byte : ℕ) (bytes : List ℕ) → ends_before flow behind byte bytes ≡ false → run_of flow behind (byte ∷ bytes) ≡ byte ∷ run_of flow (is_blank byte) bytes
unfolding run_of
run_goes flow behind byte bytes goes = rw goes refl

no_run : (flow behind : Bool) → run_of flow behind [] ≡ []
unfolding run_of
no_run flow behind = refl

pub run_more : (flow behind : Bool) (here : List ℕ) (at : ℕ) → at < length here → ends_before flow behind (get_or here at 0) (drop (at + 1) here) ≡ false
    → take at here ++ run_of flow behind (drop at here) ≡ take (at + 1) here ++ run_of flow (is_blank (get_or here at 0)) (drop (at + 1) here)
run_more flow behind here at lt goes =
    let byte : ℕ = get_or here at 0 in
    let left : List ℕ = run_of flow (is_blank byte) (drop (at + 1) here) in
    ap (λ (l : List ℕ). take at here ++ run_of flow behind l) (drop_more here at 0 lt)
    ∙ ap (λ (l : List ℕ). take at here ++ l) (run_goes flow behind byte (drop (at + 1) here) goes)
    ∙ sym (append_assoc (take at here) (byte ∷ []) left)
    ∙ ap (λ (l : List ℕ). l ++ left) (sym (take_more here at 0 lt))

pub run_stops_at : (flow behind : Bool) (here : List ℕ) (at : ℕ) → at < length here → ends_before flow behind (get_or here at 0) (drop (at + 1) here) ≡ true
    → take at here ++ run_of flow behind (drop at here) ≡ take at here
run_stops_at flow behind here at lt ends =
    ap (λ (l : List ℕ). take at here ++ run_of flow behind l) (drop_more here at 0 lt)
    ∙ ap (λ (l : List ℕ). take at here ++ l) (run_stops flow behind (get_or here at 0) (drop (at + 1) here) ends)
    ∙ append-nil (take at here)

pub run_ends : (flow behind : Bool) (here : List ℕ) (at : ℕ) → length here ≤ at → take at here ++ run_of flow behind (drop at here) ≡ take at here
run_ends flow behind here at le =
    ap (λ (l : List ℕ). take at here ++ run_of flow behind l) (drop_all at here le)
    ∙ ap (λ (l : List ℕ). take at here ++ l) (no_run flow behind)
    ∙ append-nil (take at here)

-- ---- the run without the blanks at its end

-- so many bytes are left after a trim of blanks, up to where they begin
pub record TrimmedTo (run : List ℕ) (end : ℕ) : Type 0 where
  pub within : end ≤ length run
  pub same : end + suffix_len is_blank run ≡ length run + suffix_len is_blank (take end run)
