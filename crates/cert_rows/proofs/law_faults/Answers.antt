use Rattle.cert_rows.proofs.Faulted.{fault_has_list, fault_is_met}
use Rattle.cert_rows.proofs.Firsts.{claim_fault_told, node_fault_told, target_fault_told}
use Rattle.cert_rows.proofs.law_faults.Goals as goal

pub returns : goal.returns
returns c = record { has_list = fault_has_list; met = fault_is_met; target_told = target_fault_told; claim_told = claim_fault_told; node_told = node_fault_told }
