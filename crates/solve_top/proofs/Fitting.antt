-- What words ask for lies in its range.
use Rattle.std.proofs.Common.{◌≡◌, ℕ, ◌≤◌, ◌&&◌, ◌⊎◌, inl, inr, true, false, Bool, cond, List, [], ◌∷◌, Option, Some, None, refl, sym, subst, nat_le, arith}
use Rattle.std.specs.Prelude.{codes, option_and_then, option_map, IfSome}
use Rattle.std.specs.Str.{bytes_eq}
use Rattle.std.specs.Str.Parse.{digits_value}
use Rattle.std.proofs.lemmas.Bool.Decides.{nat_tests}
use Rattle.clap.specs.Words.{Kinds}
use Rattle.command_line.specs.Commands.{value_in, faults_in, solve, replay, check, show, generate}
use Rattle.command_line.proofs.Searches.{is_search}
use Rattle.cert_types.specs.Places.{IsPart}
use Rattle.cert_types.specs.declared.parts.CheckPart.{CheckPart}
use Rattle.command_line.specs.Jobs.{halves, is_number, number_in, number_or, layer_or_all, options_of, part_in, part_of, proved_alone, unless_fault, solve_job, replay_job, check_job, show_job, sized_job, gen_job, solve_words, replay_words, check_words, show_words, gen_words, by_command, job_of}
use Rattle.command_line.specs.declared.jobs.Job.{Job}
use Rattle.command_line.specs.declared.jobs.Job.TheVariants as jobs
use Rattle.dp_model.specs.declared.answers.Options.{Options}
use Rattle.model_gen.specs.Kinds.{kind_named, least_size, most_size}
use Rattle.model_gen.specs.declared.kinds.GenKind.{GenKind}
use Rattle.dp_model.specs.declared.answers.Keep.{Keep}
use Rattle.dp_model.specs.declared.answers.Keep.TheVariants as keeps
use Rattle.pass_ends.specs.Passes.{AreOptions}
use Rattle.solve_top.specs.Jobs.{JobFits, gen_options}

-- ---- options of values

some_one : {A : Type 0} (a b : A) → Some a ≡ Some b → a ≡ b
some_one a b e = cc

then_some : {A B : Type 0} (f : A → Option B) (o : Option A) (y : B) → option_and_then f o ≡ Some y → (x : A) × (o ≡ Some x) × (f x ≡ Some y)
then_some f None y e = absurd cc
then_some f (Some x) y e = (x, refl, e)

map_some : {A B : Type 0} (f : A → B) (o : Option A) (y : B) → option_map f o ≡ Some y → (x : A) × (o ≡ Some x) × (f x ≡ y)
map_some f None y e = absurd cc
map_some f (Some x) y e = (x, refl, some_one (f x) y e)

chosen : (test : Bool) (v n : ℕ) → cond test (Some v) None ≡ Some n → (test ≡ true) × (v ≡ n)
chosen true v n e = (refl, some_one v n e)
chosen false v n e = absurd cc

both : (a b : Bool) → (a && b) ≡ true → (a ≡ true) × (b ≡ true)
both true b h = (refl, h)
both false b h = absurd cc

-- ---- numbers in their bounds

le_of : (a b : ℕ) → nat_le a b ≡ true → a ≤ b
le_of a b h = grind (arith, nat_tests)

pub record Within (least most n : ℕ) : Type 0 where
  pub low : least ≤ n
  pub high : n ≤ most

in_bounds : (least most : ℕ) (text : List ℕ) (n : ℕ) → number_in least most text ≡ Some n → Within least most n
in_bounds least most text n e =
    let v = digits_value 10 text in
    let c = chosen (is_number text && (nat_le least v && nat_le v most)) v n e in
    let t = both (is_number text) (nat_le least v && nat_le v most) c.0 in
    let u = both (nat_le least v) (nat_le v most) t.1 in
    record { low = subst (λ (k : ℕ). least ≤ k) c.1 (le_of least v u.0); high = subst (λ (k : ℕ). k ≤ most) c.1 (le_of v most u.1) }

or_bounds : (otherwise least most : ℕ) (text : Option (List ℕ)) (n : ℕ) → Within least most otherwise → number_or otherwise least most text ≡ Some n → Within least most n
or_bounds otherwise least most None n known e = subst (Within least most) (some_one otherwise n e) known
or_bounds otherwise least most (Some text) n known e = in_bounds least most text n e

workers_bounds : (text : Option (List ℕ)) (n : ℕ) → number_or 1 1 64 text ≡ Some n → Within 1 64 n
workers_bounds text n e = or_bounds 1 1 64 text n (record { low = omega arith; high = omega arith }) e

budget_bounds : (text : Option (List ℕ)) (n : ℕ) → number_or 10000000 1 1099511627776 text ≡ Some n → Within 1 1099511627776 n
budget_bounds text n e = or_bounds 10000000 1 1099511627776 text n (record { low = omega arith; high = omega arith }) e

-- ---- options of a search

are_options : (w b : ℕ) (p : Bool) (keep : Keep) → Within 1 64 w → Within 1 1099511627776 b → AreOptions (record { workers = w; budget = b; prune = p; keep = keep })
are_options w b p keep h k = record { some_workers = h.low; few_workers = h.high; some_budget = k.low; small_budget = k.high }

options_fit : (workers budget : Option (List ℕ)) (prune : Bool) (keep : Option (List ℕ)) (options : Options) → options_of workers budget prune keep ≡ Some options → AreOptions options
options_fit workers budget prune keep options e =
    let with_workers = λ (w : ℕ). option_and_then (λ (b : ℕ). option_map (λ (k : Keep). record { workers = w; budget = b; prune = prune; keep = k }) (layer_or_all keep)) (number_or 10000000 1 1099511627776 budget) in
    let w = then_some with_workers (number_or 1 1 64 workers) options e in
    let with_budget = λ (b : ℕ). option_map (λ (k : Keep). record { workers = w.0; budget = b; prune = prune; keep = k }) (layer_or_all keep) in
    let b = then_some with_budget (number_or 10000000 1 1099511627776 budget) options w.2 in
    let whole : Keep → Options = λ (k : Keep). record { workers = w.0; budget = b.0; prune = prune; keep = k } in
    let k = map_some whole (layer_or_all keep) options b.2 in
    subst AreOptions k.2 (are_options w.0 b.0 prune k.0 (workers_bounds workers w.0 w.1) (budget_bounds budget b.0 b.1))

gen_options_fit : (workers : ℕ) → Within 1 64 workers → AreOptions (gen_options workers)
gen_options_fit workers h = are_options workers 10000000 true keeps.Layer h (record { low = omega arith; high = omega arith })

-- ---- jobs

free_job : (kinds : Kinds) (told : Option Job) (job : Job) → unless_fault kinds told ≡ Some job → told ≡ Some job
free_job [] told job e = e
free_job (kind ∷ kinds) told job e = absurd cc

solve_fits : (value : List ℕ → Option (List ℕ)) (job : Job) → solve_job value ≡ Some job → JobFits job
solve_fits value job e =
    let s = is_search value job e in
    subst JobFits (sym s.is) (options_fit (value (codes "workers")) (value (codes "budget")) s.prune (value (codes "keep")) s.search.options s.are)

replay_fits : (domain problem list : Option (List ℕ)) (job : Job) → replay_job domain problem list ≡ Some job → JobFits job
replay_fits (Some domain) (Some problem) (Some list) job e = subst JobFits (some_one (jobs.Replay domain problem list) job e) tt
replay_fits (Some domain) (Some problem) None job e = absurd cc
replay_fits (Some domain) None list job e = absurd cc
replay_fits None problem list job e = absurd cc

part_bounds : (text : List ℕ) (part : CheckPart) → part_in text ≡ Some part → IsPart part
part_bounds text part e =
    let with_count : List ℕ × List ℕ → ℕ → Option CheckPart = λ (both : List ℕ × List ℕ) (count : ℕ). option_map (λ (index : ℕ). record { index = index; count = count }) (number_in 1 count both.0) in
    let with_halves : List ℕ × List ℕ → Option CheckPart = λ (both : List ℕ × List ℕ). option_and_then (with_count both) (number_in 1 4096 both.1) in
    let both = then_some with_halves (halves text) part e in
    let count = then_some (with_count both.0) (number_in 1 4096 both.0.1) part both.2 in
    let whole : ℕ → CheckPart = λ (index : ℕ). record { index = index; count = count.0 } in
    let index = map_some whole (number_in 1 count.0 both.0.0) part count.2 in
    let few = in_bounds 1 4096 both.0.1 count.0 count.1 in
    let within = in_bounds 1 count.0 both.0.0 index.0 index.1 in
    subst IsPart index.2 (within.low, within.high, few.high)

part_fits : (text : Option (List ℕ)) (which : Option CheckPart) → part_of text ≡ Some which → IfSome which IsPart
part_fits None which e = subst (λ (w : Option CheckPart). IfSome w IsPart) (some_one None which e) tt
part_fits (Some text) which e =
    let given : CheckPart → Option CheckPart = λ (part : CheckPart). Some part in
    let part = map_some given (part_in text) which e in
    subst (λ (w : Option CheckPart). IfSome w IsPart) part.2 (part_bounds text part.0 part.1)

check_fits : (domain problem cert prune part : Option (List ℕ)) (job : Job) → check_job domain problem cert prune part ≡ Some job → JobFits job
check_fits (Some domain) (Some problem) (Some cert) prune part job e =
    let with_proved : Bool → Option Job = λ (p : Bool). option_map (λ (which : Option CheckPart). jobs.Check domain problem cert p which) (part_of part) in
    let proved = then_some with_proved (proved_alone prune) job e in
    let whole : Option CheckPart → Job = λ (which : Option CheckPart). jobs.Check domain problem cert proved.0 which in
    let which = map_some whole (part_of part) job proved.2 in
    subst JobFits which.2 (part_fits part which.0 which.1)
check_fits (Some domain) (Some problem) None prune part job e = absurd cc
check_fits (Some domain) None cert prune part job e = absurd cc
check_fits None problem cert prune part job e = absurd cc

show_fits : (domain problem : Option (List ℕ)) (job : Job) → show_job domain problem ≡ Some job → JobFits job
show_fits (Some domain) (Some problem) job e = subst JobFits (some_one (jobs.Show domain problem) job e) tt
show_fits (Some domain) None job e = absurd cc
show_fits None problem job e = absurd cc

sized_fits : (seed : Option ℕ) (workers : Option (List ℕ)) (size : List ℕ) (kind : GenKind) (job : Job) → sized_job seed (number_or 1 1 64 workers) size kind ≡ Some job → JobFits job
sized_fits seed workers size kind job e =
    let with_size = λ (n : ℕ). option_and_then (λ (s : ℕ). option_map (λ (w : ℕ). jobs.Gen kind n s w) (number_or 1 1 64 workers)) seed in
    let n = then_some with_size (number_in (least_size kind) (most_size kind) size) job e in
    let with_seed = λ (s : ℕ). option_map (λ (w : ℕ). jobs.Gen kind n.0 s w) (number_or 1 1 64 workers) in
    let s = then_some with_seed seed job n.2 in
    let whole : ℕ → Job = λ (w : ℕ). jobs.Gen kind n.0 s.0 w in
    let w = map_some whole (number_or 1 1 64 workers) job s.2 in
    let bounds = in_bounds (least_size kind) (most_size kind) size n.0 n.1 in
    subst JobFits w.2 (bounds.low, bounds.high, gen_options_fit w.0 (workers_bounds workers w.0 w.1))

gen_fits : (kind size seed workers : Option (List ℕ)) (job : Job) → gen_job kind size seed workers ≡ Some job → JobFits job
gen_fits (Some kind) (Some size) (Some seed) workers job e =
    let k = then_some (sized_job (number_in 0 18446744073709551615 seed) (number_or 1 1 64 workers) size) (kind_named kind) job e in
    sized_fits (number_in 0 18446744073709551615 seed) workers size k.0 job k.2
gen_fits (Some kind) (Some size) None workers job e = absurd cc
gen_fits (Some kind) None seed workers job e = absurd cc
gen_fits None size seed workers job e = absurd cc

solve_words_fit : (ws : List (List ℕ)) (job : Job) → solve_words ws ≡ Some job → JobFits job
unfolding solve_words
solve_words_fit ws job e = solve_fits (value_in solve ws) job (free_job (faults_in solve ws) (solve_job (value_in solve ws)) job e)

replay_words_fit : (ws : List (List ℕ)) (job : Job) → replay_words ws ≡ Some job → JobFits job
unfolding replay_words
replay_words_fit ws job e = replay_fits (value_in replay ws (codes "domain")) (value_in replay ws (codes "problem")) (value_in replay ws (codes "list")) job (free_job (faults_in replay ws) (replay_job (value_in replay ws (codes "domain")) (value_in replay ws (codes "problem")) (value_in replay ws (codes "list"))) job e)

check_words_fit : (ws : List (List ℕ)) (job : Job) → check_words ws ≡ Some job → JobFits job
unfolding check_words
check_words_fit ws job e =
    let value : List ℕ → Option (List ℕ) = λ (id : List ℕ). value_in check ws id in
    check_fits (value (codes "domain")) (value (codes "problem")) (value (codes "cert")) (value (codes "prune")) (value (codes "part")) job
    (free_job (faults_in check ws) (check_job (value (codes "domain")) (value (codes "problem")) (value (codes "cert")) (value (codes "prune")) (value (codes "part"))) job e)

show_words_fit : (ws : List (List ℕ)) (job : Job) → show_words ws ≡ Some job → JobFits job
unfolding show_words
show_words_fit ws job e = show_fits (value_in show ws (codes "domain")) (value_in show ws (codes "problem")) job (free_job (faults_in show ws) (show_job (value_in show ws (codes "domain")) (value_in show ws (codes "problem"))) job e)

gen_words_fit : (ws : List (List ℕ)) (job : Job) → gen_words ws ≡ Some job → JobFits job
unfolding gen_words
gen_words_fit ws job e = gen_fits (value_in generate ws (codes "kind")) (value_in generate ws (codes "size")) (value_in generate ws (codes "seed")) (value_in generate ws (codes "workers")) job (free_job (faults_in generate ws) (gen_job (value_in generate ws (codes "kind")) (value_in generate ws (codes "size")) (value_in generate ws (codes "seed")) (value_in generate ws (codes "workers"))) job e)

one_of : (test : Bool) (x y : Option Job) (job : Job) → cond test x y ≡ Some job → (x ≡ Some job) ⊎ (y ≡ Some job)
one_of true x y job e = inl e
one_of false x y job e = inr e

command_fits : (command : List ℕ) (ws : List (List ℕ)) (job : Job) → by_command command ws ≡ Some job → JobFits job
command_fits command ws job e =
    let last = cond (bytes_eq command (codes "gen")) (gen_words ws) None in
    let fourth = cond (bytes_eq command (codes "show")) (show_words ws) last in
    let third = cond (bytes_eq command (codes "check")) (check_words ws) fourth in
    let second = cond (bytes_eq command (codes "replay")) (replay_words ws) third in
    elim (one_of (bytes_eq command (codes "solve")) (solve_words ws) second job e) [
      | inl a ↦ solve_words_fit ws job a
      | inr b ↦ elim (one_of (bytes_eq command (codes "replay")) (replay_words ws) third job b) [
        | inl a ↦ replay_words_fit ws job a
        | inr c ↦ elim (one_of (bytes_eq command (codes "check")) (check_words ws) fourth job c) [
          | inl a ↦ check_words_fit ws job a
          | inr d ↦ elim (one_of (bytes_eq command (codes "show")) (show_words ws) last job d) [
            | inl a ↦ show_words_fit ws job a
            | inr f ↦ elim (one_of (bytes_eq command (codes "gen")) (gen_words ws) None job f) [ inl a ↦ gen_words_fit ws job a | inr nothing ↦ absurd cc ]
          ]
        ]
      ]
    ]

-- the job that words ask for lies in its range
pub job_fits : (words : List (List ℕ)) (job : Job) → job_of words ≡ Some job → JobFits job
unfolding job_of
job_fits [] job e = absurd cc
job_fits (command ∷ words) job e = command_fits command (command ∷ words) job e
