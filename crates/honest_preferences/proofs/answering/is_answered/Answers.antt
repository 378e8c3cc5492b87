use Rattle.std.proofs.Common.{inl}
use Rattle.honest_preferences.proofs.answering.is_answered.Goals as goal

pub returns-then-is_moved : goal.returns-then-is_moved
returns-then-is_moved c = λ yes s other p args w next enabled weighs leads. inl (c.is_moved.ensures c.if-is_moved.true s other p args w next enabled weighs leads)
