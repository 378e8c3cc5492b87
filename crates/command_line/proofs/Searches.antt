-- The job of a search has the options that its words give.
use Rattle.std.proofs.Common.{◌≡◌, Bool, true, false, cond, List, [], ℕ, Option, Some, None, Result, Ok, Err, IfOk, refl, sym, ap, ◌∙◌}
use Rattle.std.proofs.Math.Path.{fun_ext}
use Rattle.std.specs.Prelude.{codes, option_and_then, option_map}
use Rattle.command_line.proofs.Faults.{free}
use Rattle.command_line.specs.Commands.{faults_in, solve, value_in}
use Rattle.command_line.specs.Jobs.{beam_or_best, has_such, is_on, is_proved, on_or_off, options_of, pruning_of, search_of, solve_job, solve_words}
use Rattle.command_line.specs.declared.jobs.Engine.{Engine}
use Rattle.command_line.specs.declared.jobs.Job.{Job}
use Rattle.command_line.specs.declared.jobs.WordsEnd.{WordsEnd}
use Rattle.command_line.specs.declared.jobs.Job.TheVariants.{Solve}
use Rattle.command_line.specs.declared.jobs.Search.{Search}
use Rattle.command_line.specs.declared.reading.Pruning.{Pruning}
use Rattle.dp_model.specs.declared.answers.Options.{Options}

some_one : {A : Type 0} (a b : A) → Some a ≡ Some b → a ≡ b
some_one a b e = cc

then_some : {A B : Type 0} (f : A → Option B) (o : Option A) (y : B) → option_and_then f o ≡ Some y → (x : A) × (o ≡ Some x) × (f x ≡ Some y)
then_some f None y e = absurd cc
then_some f (Some x) y e = (x, refl, e)

map_some : {A B : Type 0} (f : A → B) (o : Option A) (y : B) → option_map f o ≡ Some y → (x : A) × (o ≡ Some x) × (f x ≡ y)
map_some f None y e = absurd cc
map_some f (Some x) y e = (x, refl, some_one (f x) y e)

chosen : {A : Type 0} (test : Bool) (v n : A) → cond test (Some v) None ≡ Some n → v ≡ n
chosen true v n e = some_one v n e
chosen false v n e = absurd cc

pub search_options : (value : List ℕ → Option (List ℕ)) (search : Search) → search_of value ≡ Some search →
    (prune : Bool) × (options_of (value (codes "workers")) (value (codes "budget")) prune (value (codes "keep")) ≡ Some search.options)
search_options value search is =
    let announces = on_or_off false (value (codes "announce")) in
    let engines = beam_or_best (value (codes "engine")) in
    let certificates = on_or_off false (value (codes "certificate")) in
    let gaps = on_or_off false (value (codes "gap")) in
    let options : Pruning → Option Options = λ (p : Pruning). options_of (value (codes "workers")) (value (codes "budget")) (is_on p) (value (codes "keep")) in
    let prunings = pruning_of (value (codes "prune")) in
    let whole : Pruning → Options → Bool → Bool → Engine → Bool → Search = λ (p : Pruning) (o : Options) (g c : Bool) (e : Engine) (a : Bool). record { options = o; proved = is_proved p; gap = g; certificate = c; engine = e; announce = a } in
    let last : Pruning → Options → Bool → Bool → Engine → Bool → Option Search = λ (p : Pruning) (o : Options) (g c : Bool) (e : Engine) (a : Bool). cond (has_such e g a) (Some (whole p o g c e a)) None in
    let fifth : Pruning → Options → Bool → Bool → Engine → Option Search = λ (p : Pruning) (o : Options) (g c : Bool) (e : Engine). option_and_then (last p o g c e) announces in
    let fourth : Pruning → Options → Bool → Bool → Option Search = λ (p : Pruning) (o : Options) (g c : Bool). option_and_then (fifth p o g c) engines in
    let third : Pruning → Options → Bool → Option Search = λ (p : Pruning) (o : Options) (g : Bool). option_and_then (fourth p o g) certificates in
    let second : Pruning → Options → Option Search = λ (p : Pruning) (o : Options). option_and_then (third p o) gaps in
    let first : Pruning → Option Search = λ (p : Pruning). option_and_then (second p) (options p) in
    let p = then_some first prunings search is in
    let o = then_some (second p.0) (options p.0) search p.2 in
    let g = then_some (third p.0 o.0) gaps search o.2 in
    let c = then_some (fourth p.0 o.0 g.0) certificates search g.2 in
    let e = then_some (fifth p.0 o.0 g.0 c.0) engines search c.2 in
    let a = then_some (last p.0 o.0 g.0 c.0 e.0) announces search e.2 in
    let same : whole p.0 o.0 g.0 c.0 e.0 a.0 ≡ search = chosen (has_such e.0 g.0 a.0) (whole p.0 o.0 g.0 c.0 e.0 a.0) search a.2 in
    (is_on p.0, o.1 ∙ ap (λ (x : Search). Some x.options) same)

-- the job of a search
pub record IsSearch (value : List ℕ → Option (List ℕ)) (job : Job) : Type 0 where
  pub domain : List ℕ
  pub problem : List ℕ
  pub search : Search
  pub prune : Bool
  pub is : job ≡ Solve domain problem search
  pub are : options_of (value (codes "workers")) (value (codes "budget")) prune (value (codes "keep")) ≡ Some search.options

pub is_search : (value : List ℕ → Option (List ℕ)) (job : Job) → solve_job value ≡ Some job → IsSearch value job
is_search value job e =
    let second : List ℕ → List ℕ → Option Job = λ (domain problem : List ℕ). option_map (λ (search : Search). Solve domain problem search) (search_of value) in
    let first : List ℕ → Option Job = λ (domain : List ℕ). option_and_then (second domain) (value (codes "problem")) in
    let d = then_some first (value (codes "domain")) job e in
    let p = then_some (second d.0) (value (codes "problem")) job d.2 in
    let s = map_some (λ (search : Search). Solve d.0 p.0 search) (search_of value) job p.2 in
    let options = search_options value s.0 s.1 in
    record { domain = d.0; problem = p.0; search = s.0; prune = options.0; is = sym s.2; are = options.1 }

-- words without a fault ask for the job that was found
pub found_in_words : (ws : List (List ℕ)) (value : List ℕ → Option (List ℕ)) (job : Option Job) → ((id : List ℕ) → value id ≡ value_in solve ws id) → faults_in solve ws ≡ [] → solve_job value ≡ job → solve_words ws ≡ job
unfolding solve_words
found_in_words ws value job same well is = free (faults_in solve ws) (solve_job (value_in solve ws)) well ∙ (ap solve_job (sym (fun_ext same)) ∙ is)

pub job_in_words : (ws : List (List ℕ)) (value : List ℕ → Option (List ℕ)) (r : Result Job WordsEnd) → ((id : List ℕ) → value id ≡ value_in solve ws id) → faults_in solve ws ≡ [] →
    IfOk r (λ job. solve_job value ≡ Some job) → IfOk r (λ job. solve_words ws ≡ Some job)
job_in_words ws value (Ok job) same well is = found_in_words ws value (Some job) same well is
job_in_words ws value (Err e) same well is = tt
