use Rattle.replay_laws.proofs.Walks.{fault_met, illegal_found, legal_found}
use Rattle.replay_laws.proofs.law_replay.Goals as goal

pub returns : goal.returns
returns c = record { legal = legal_found; illegal = illegal_found; faulted = fault_met }
