use Rattle.std.proofs.Common.{[]}
use Rattle.dypdl_expr.specs.Tokens.{tokens_of}
use Rattle.dypdl_expr.proofs.Unique.{one_form, whole_apart, one_whole_refusal}
use Rattle.dypdl_expr.proofs.laws.one_reading.Goals as goal

pub returns-clause-one_expression : goal.returns-clause-one_expression
returns-clause-one_expression c text a b is_a is_b = ((one_form 200).same (tokens_of text) a b [] [] is_a is_b).expr

pub returns-clause-no_refusal : goal.returns-clause-no_refusal
returns-clause-no_refusal c text e r is bad = whole_apart 200 (tokens_of text) e r is bad

pub returns-clause-one_refusal : goal.returns-clause-one_refusal
returns-clause-one_refusal c text r s is_r is_s = one_whole_refusal 200 (tokens_of text) r s is_r is_s
