use Rattle.solve_top.proofs.OneMeaning.{one_meaning, meant_or_refused, one_refusal}
use Rattle.solve_top.proofs.laws.one_model.Goals as goal

pub returns-clause-one : goal.returns-clause-one
returns-clause-one c domain problem a b x y = one_meaning domain problem a b x y

pub returns-clause-no_refusal : goal.returns-clause-no_refusal
returns-clause-no_refusal c domain problem m r x bad = meant_or_refused domain problem m r x bad

pub returns-clause-one_refusal : goal.returns-clause-one_refusal
returns-clause-one_refusal c domain problem r s a b = one_refusal domain problem r s a b
