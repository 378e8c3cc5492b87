use Rattle.pass_run.proofs.announced.run_pass_announced.Goals as goal

pub returns-clause-answer : goal.returns-clause-answer
returns-clause-answer g c = λ some. (c.run_announced.ensures.answer some).0

pub returns-clause-announced : goal.returns-clause-announced
returns-clause-announced g c = (c.run_announced.ensures.answer c.requires.options.some_workers).1

pub returns-clause-last : goal.returns-clause-last
returns-clause-last g c = (c.run_announced.ensures.answer c.requires.options.some_workers).2

pub returns-clause-refused : goal.returns-clause-refused
returns-clause-refused g c = λ some. (c.run_announced.ensures.answer some).3
