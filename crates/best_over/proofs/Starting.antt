-- What a shard of a search starts with.
use Rattle.std.proofs.Common.{◌≡◌, ℕ, ◌≤◌, Option, Some, None, sym, ap, subst, ◌∙◌}
use Rattle.std.specs.Prelude.{ℤ}
use Rattle.best_ledger.specs.Searches.{pass_of, search_of}
use Rattle.dp_model.specs.declared.answers.Options.{Options}
use Rattle.dp_model.specs.declared.parts.PlainState.{PlainState}
use Rattle.dp_model.specs.declared.whole.Model.{Model}
use Rattle.dp_steps.specs.Bounds.{IsFloor}
use Rattle.dp_steps.specs.States.{Inner}
use Rattle.pass_ledger.specs.Passes.{IsStart}
use Rattle.pass_ledger.specs.Records.{Starts}
use Rattle.solve_start.specs.Targets.{IsTarget}
use Rattle.solve_start.specs.declared.starts.Target.{Target}
use Rattle.state_layout.specs.Signatures.{owner_of}
use Rattle.state_layout.specs.Slots.{slots_of}
use Rattle.state_layout.specs.declared.node.Node.{Node}
use Rattle.visit_laws.proofs.Starts.{start_open}

pub target_inner : (m : Model) (options : Options) (t : Target) → IsTarget m options t → Inner m m.target
target_inner m options t is = ((start_open m options.prune t.node).0 is.start).0

module _ (m : Model) (options : Options) (some : 1 ≤ options.workers) (t : Target) (is : IsTarget m options t) where
  is_start : IsStart (pass_of (search_of m options some)) t.node
  is_start =
      let h = ((start_open m options.prune t.node).0 is.start).1 in
      record {
        state = h.state;
        cost = h.cost;
        floor = subst (λ (s : PlainState). IsFloor m options.prune s t.node.cost t.node.floor) (sym h.state) (subst (λ (c : Option ℤ). IsFloor m options.prune m.target c t.node.floor) (sym h.cost) h.floor);
        parent = h.parent;
      }

  owned_by : owner_of (slots_of m.objects m.variables) m.target options.workers ≡ t.owner
  owned_by = ap (λ (s : PlainState). owner_of (slots_of m.objects m.variables) s options.workers) (sym is_start.state) ∙ sym is.owner

  -- the owner starts with it, and the others with nothing
  pub starts_owner : (shard : ℕ) (start : Option Node) → shard ≡ t.owner → start ≡ Some t.node → Starts (pass_of (search_of m options some)) shard start
  starts_owner shard start owns e = subst (Starts (pass_of (search_of m options some)) shard) (sym e) (is_start, owned_by ∙ sym owns)

  pub starts_other : (shard : ℕ) (start : Option Node) → (shard ≡ t.owner → ⊥) → start ≡ None → Starts (pass_of (search_of m options some)) shard start
  starts_other shard start other e = subst (Starts (pass_of (search_of m options some)) shard) (sym e) (λ owns. other (sym owns ∙ owned_by))
