use Rattle.content_guards.proofs.LoadedSteps.{file_steps, read_of_files, step_texts}
use Rattle.content_guards.proofs.loaded_steps_are_lines.Goals as goal

pub returns : goal.returns
returns c = record { of_trees = step_texts; of_files = file_steps; read_back = read_of_files }
