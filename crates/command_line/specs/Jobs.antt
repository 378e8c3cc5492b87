-- The job that words ask for.
use Rattle.std.specs.Prelude.{ℕ, Bool, true, false, not, ◌&&◌, ◌||◌, ◌==◌, nat_le, nat_lt, if◌then◌else◌, List, [], ◌∷◌, length, codes, Option, Some, None, option_and_then, option_map}
use Rattle.std.specs.List.{after_first, before_first, position_or_len}
use Rattle.std.specs.Str.{bytes_eq, all_ascii_digits}
use Rattle.std.specs.Str.Parse.{digits_value}
use Rattle.clap.specs.Words.{Kinds}
use Rattle.cert_types.specs.declared.parts.CheckPart.{CheckPart}
use Rattle.dp_model.specs.declared.answers.Keep.{Keep}
use Rattle.dp_model.specs.declared.answers.Keep.TheVariants as keeps
use Rattle.dp_model.specs.declared.answers.Options.{Options}
use Rattle.model_gen.specs.declared.kinds.GenKind.{GenKind}
use Rattle.model_gen.specs.Kinds.{kind_named, least_size, most_size}
use Rattle.command_line.specs.Commands.{value_in, faults_in, solve, replay, check, show, generate}
use Rattle.command_line.specs.declared.jobs.Engine.{Engine}
use Rattle.command_line.specs.declared.jobs.Engine.TheVariants as engines
use Rattle.command_line.specs.declared.jobs.Job.{Job}
use Rattle.command_line.specs.declared.jobs.Search.{Search}
use Rattle.command_line.specs.declared.reading.Pruning.{Pruning}
use Rattle.command_line.specs.declared.reading.Pruning.TheVariants as prunings
use Rattle.command_line.specs.declared.jobs.Job.TheVariants.{Solve, Replay, Check, Show, Gen}

-- ---- numbers

-- one to twenty digits
abbrev pub is_number : List ℕ → Bool
is_number text = nat_lt 0 (length text) && (nat_le (length text) 20 && all_ascii_digits text)

-- the number that a text writes, where it lies between two bounds
abbrev pub number_in : (least most : ℕ) → List ℕ → Option ℕ
number_in least most text =
    if is_number text && (nat_le least (digits_value 10 text) && nat_le (digits_value 10 text) most) then Some (digits_value 10 text) else None

-- the same of an option, which has this number where it is not given
abbrev pub number_or : (otherwise least most : ℕ) → Option (List ℕ) → Option ℕ
number_or otherwise least most None = Some otherwise
number_or otherwise least most (Some text) = number_in least most text

-- ---- options

-- whether an option is on, which is so where it is not given
abbrev pub on_or_off : (otherwise : Bool) → Option (List ℕ) → Option Bool
on_or_off otherwise None = Some otherwise
on_or_off otherwise (Some text) = if bytes_eq text (codes "on") then Some true else (if bytes_eq text (codes "off") then Some false else None)

-- pruning by all dual bounds and preferences, which is so where nothing is given, by none of them, or by those that are proved
abbrev pub pruning_of : Option (List ℕ) → Option Pruning
pruning_of None = Some prunings.On
pruning_of (Some text) =
    if bytes_eq text (codes "on") then Some prunings.On
    else (if bytes_eq text (codes "off") then Some prunings.Off else (if bytes_eq text (codes "proved") then Some prunings.Proved else None))

abbrev pub is_on : Pruning → Bool
is_on prunings.Off = false
is_on prunings.On = true
is_on prunings.Proved = true

abbrev pub is_proved : Pruning → Bool
is_proved prunings.Off = false
is_proved prunings.On = false
is_proved prunings.Proved = true

-- of a certificate nothing else can be asked than that it is one of what is proved alone
abbrev pub proved_alone : Option (List ℕ) → Option Bool
proved_alone None = Some false
proved_alone (Some text) = if bytes_eq text (codes "proved") then Some true else None

abbrev pub is_slash : ℕ → Bool
is_slash byte = byte == 47

-- what the first slash parts
abbrev pub halves : List ℕ → Option (List ℕ × List ℕ)
halves text = if nat_lt (position_or_len is_slash text) (length text) then Some (before_first is_slash text, after_first is_slash text) else None

-- a part of a check, as `2/3`, of at most 4,096
abbrev pub part_in : List ℕ → Option CheckPart
part_in text = option_and_then (λ both. option_and_then (λ count. option_map (λ index. record { index = index; count = count }) (number_in 1 count both.0)) (number_in 1 4096 both.1)) (halves text)

-- the whole is checked where no part is given
abbrev pub part_of : Option (List ℕ) → Option (Option CheckPart)
part_of None = Some None
part_of (Some text) = option_map (λ part. Some part) (part_in text)

abbrev pub layer_or_all : Option (List ℕ) → Option Keep
layer_or_all None = Some keeps.Layer
layer_or_all (Some text) = if bytes_eq text (codes "layer") then Some keeps.Layer else (if bytes_eq text (codes "all") then Some keeps.All else None)

-- one worker, 10,000,000 visits, and nodes that cover those of their layer alone, where nothing else is given
abbrev pub options_of : (workers budget : Option (List ℕ)) → (prune : Bool) → (keep : Option (List ℕ)) → Option Options
options_of workers budget prune keep =
    option_and_then (λ w. option_and_then (λ b. option_map (λ k. record { workers = w; budget = b; prune = prune; keep = k })
    (layer_or_all keep)) (number_or 10000000 1 1099511627776 budget)) (number_or 1 1 64 workers)

abbrev pub beam_or_best : Option (List ℕ) → Option Engine
beam_or_best None = Some engines.Beam
beam_or_best (Some text) = if bytes_eq text (codes "beam") then Some engines.Beam else (if bytes_eq text (codes "best") then Some engines.Best else None)

-- a search of the best node first has no passes, so it has no bound of passes and announces no costs
abbrev pub has_such : Engine → (gap announce : Bool) → Bool
has_such engines.Beam gap announce = true
has_such engines.Best gap announce = not (gap || announce)

-- what the options of a search ask for, by what is found in the words: a bound, a certificate and announced costs where `on` is
-- given, and a search by layers where nothing else is
abbrev pub search_by : (prune proved : Bool) → (value : List ℕ → Option (List ℕ)) → Option Search
search_by prune proved value =
    option_and_then (λ o. option_and_then (λ g. option_and_then (λ c. option_and_then (λ e. option_and_then (λ a.
    if has_such e g a then Some (record { options = o; proved = proved; gap = g; certificate = c; engine = e; announce = a }) else None)
    (on_or_off false (value (codes "announce")))) (beam_or_best (value (codes "engine")))) (on_or_off false (value (codes "certificate"))))
    (on_or_off false (value (codes "gap")))) (options_of (value (codes "workers")) (value (codes "budget")) prune (value (codes "keep")))

abbrev pub search_of : (value : List ℕ → Option (List ℕ)) → Option Search
search_of value = option_and_then (λ p. search_by (is_on p) (is_proved p) value) (pruning_of (value (codes "prune")))

-- ---- jobs

-- a job, where the words have no fault as those of a command
abbrev pub unless_fault : Kinds → Option Job → Option Job
unless_fault [] job = job
unless_fault (kind ∷ kinds) job = None

-- the job of a search, by what is found in the words
abbrev pub solve_job : (value : List ℕ → Option (List ℕ)) → Option Job
solve_job value =
    option_and_then (λ domain. option_and_then (λ problem. option_map (λ search. Solve domain problem search)
    (search_of value)) (value (codes "problem"))) (value (codes "domain"))

abbrev pub replay_job : (domain problem list : Option (List ℕ)) → Option Job
replay_job (Some domain) (Some problem) (Some list) = Some (Replay domain problem list)
replay_job (Some domain) (Some problem) None = None
replay_job (Some domain) None list = None
replay_job None problem list = None

abbrev pub check_job : (domain problem cert prune part : Option (List ℕ)) → Option Job
check_job (Some domain) (Some problem) (Some cert) prune part = option_and_then (λ proved. option_map (λ which. Check domain problem cert proved which) (part_of part)) (proved_alone prune)
check_job (Some domain) (Some problem) None prune part = None
check_job (Some domain) None cert prune part = None
check_job None problem cert prune part = None

abbrev pub show_job : (domain problem : Option (List ℕ)) → Option Job
show_job (Some domain) (Some problem) = Some (Show domain problem)
show_job (Some domain) None = None
show_job None problem = None

-- the size has the range of its kind
abbrev pub sized_job : (seed workers : Option ℕ) → (size : List ℕ) → GenKind → Option Job
sized_job seed workers size kind =
    option_and_then (λ n. option_and_then (λ s. option_map (λ w. Gen kind n s w) workers) seed) (number_in (least_size kind) (most_size kind) size)

abbrev pub gen_job : (kind size seed workers : Option (List ℕ)) → Option Job
gen_job (Some kind) (Some size) (Some seed) workers =
    option_and_then (sized_job (number_in 0 18446744073709551615 seed) (number_or 1 1 64 workers) size) (kind_named kind)
gen_job (Some kind) (Some size) None workers = None
gen_job (Some kind) None seed workers = None
gen_job None size seed workers = None

unfoldable pub solve_words : List (List ℕ) → Option Job
solve_words ws = unless_fault (faults_in solve ws) (solve_job (value_in solve ws))

unfoldable pub replay_words : List (List ℕ) → Option Job
replay_words ws =
    unless_fault (faults_in replay ws)
    (replay_job (value_in replay ws (codes "domain")) (value_in replay ws (codes "problem")) (value_in replay ws (codes "list")))

unfoldable pub check_words : List (List ℕ) → Option Job
check_words ws =
    unless_fault (faults_in check ws)
    (check_job (value_in check ws (codes "domain")) (value_in check ws (codes "problem")) (value_in check ws (codes "cert")) (value_in check ws (codes "prune"))
    (value_in check ws (codes "part")))

unfoldable pub show_words : List (List ℕ) → Option Job
show_words ws = unless_fault (faults_in show ws) (show_job (value_in show ws (codes "domain")) (value_in show ws (codes "problem")))

unfoldable pub gen_words : List (List ℕ) → Option Job
gen_words ws =
    unless_fault (faults_in generate ws)
    (gen_job (value_in generate ws (codes "kind")) (value_in generate ws (codes "size")) (value_in generate ws (codes "seed"))
    (value_in generate ws (codes "workers")))

abbrev pub by_command : (command : List ℕ) → List (List ℕ) → Option Job
by_command command ws =
    if bytes_eq command (codes "solve") then solve_words ws
    else (if bytes_eq command (codes "replay") then replay_words ws
    else (if bytes_eq command (codes "check") then check_words ws
    else (if bytes_eq command (codes "show") then show_words ws
    else (if bytes_eq command (codes "gen") then gen_words ws else None))))

-- The job of words, without the program's own name. The first is the command, which is read by hand; none of them is
-- another name of one.
unfoldable pub job_of : List (List ℕ) → Option Job
job_of [] = None
job_of (command ∷ words) = by_command command (command ∷ words)
