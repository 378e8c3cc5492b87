use Rattle.std.proofs.Common.{None, List, ap, sym, ◌∙◌, ℕ, map, string_bytes}
use Rattle.clap.specs.Words.{App, first_value, found_of}
use Rattle.command_line.specs.Commands.{faults_in, value_in}
use Rattle.command_line.proofs.Searches.{found_in_words, job_in_words}
use Rattle.command_line.proofs.Simple.{solve_simple, solve_free}
use Rattle.command_line.proofs.reading.solve_words.Goals as goal

pub found-requires-clause-simple : goal.found-requires-clause-simple
found-requires-clause-simple c = solve_simple _ c.in_ok-solve.ensures

pub found-requires-clause-free : goal.found-requires-clause-free
found-requires-clause-free c = solve_free _ c.in_ok-solve.ensures

pub returns : goal.returns
returns c =
    let ws = map string_bytes c.args.words.now.items in
    let value = first_value (found_of c.in_ok-matches.matches) in
    let same = λ (id : List ℕ). c.in_ok-matches.ensures.values id ∙ ap (λ (a : App). value_in a ws id) c.in_ok-solve.ensures in
    let well = ap (λ (a : App). faults_in a ws) (sym c.in_ok-solve.ensures) ∙ c.in_ok-matches.ensures.well in
    record {
      job = job_in_words ws value c.found_job.result same well c.found_job.ensures.job;
      usage = λ is. found_in_words ws value None same well (c.found_job.ensures.usage is);
    }
