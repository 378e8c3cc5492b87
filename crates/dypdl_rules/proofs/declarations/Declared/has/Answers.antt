use Rattle.std.proofs.Common.{◌≡◌, true, false, refl, sym, ap, ◌∙◌}
use Rattle.std.specs.Option.{is_some}
use Rattle.dypdl_data.specs.Names.{number_named}
use Rattle.dypdl_data.specs.Objects.{object_names}
use Rattle.dypdl_rules.proofs.Names.{copied, taken_means}
use Rattle.dypdl_rules.proofs.declarations.Declared.has.Goals as goal

pub returns-then-contains_key : goal.returns-then-contains_key
returns-then-contains_key c =
    let known : is_some (number_named (object_names c.self.inside.objects.now) c.args.word.now) ≡ true = ap is_some (sym (c.self.invariant c.args.word.now)) ∙ sym c.contains_key.ensures ∙ c.if-contains_key.true in
    c.if-contains_key.true ∙ sym (rw (← c.self.view_is) (taken_means c.self.inside.objects.now c.self.inside.scope.variables c.self.inside.scope.tables c.args.word.now ∙ rw known refl))

pub returns-else-contains_key : goal.returns-else-contains_key
returns-else-contains_key c =
    let unknown : is_some (number_named (object_names c.self.inside.objects.now) c.args.word.now) ≡ false = ap is_some (sym (c.self.invariant c.args.word.now)) ∙ sym c.contains_key.ensures ∙ c.if-contains_key.false in
    c.is_some.ensures ∙ copied c.name.result ∙ ap is_some c.name.ensures ∙ sym (rw (← c.self.view_is) (taken_means c.self.inside.objects.now c.self.inside.scope.variables c.self.inside.scope.tables c.args.word.now ∙ rw unknown refl))
