use Rattle.std.proofs.Common.{◌≡◌, ℕ, List, ◌++◌, Vec, Global, not, ap, ◌∙◌}
use Rattle.std.specs.List.{list_any}
use Rattle.std.specs.Str.{bytes_eq}
use Rattle.yaml_tree.specs.Known.{key_code}
use Rattle.yaml_tree.proofs.KeySets.{found_before, known_more}
use Rattle.yaml_tree.proofs.keys.Keys.add.Goals as goal

pub returns-clause-fresh : goal.returns-clause-fresh
returns-clause-fresh c = λ earlier known.
    let key = c.args.key.now in
    let written : c.write_key.new.code.items ≡ key_code key = c.in_ok-write_key.ensures ∙ ap (λ (items : List ℕ). items ++ key_code key) c.new-code.ensures.items in
    c.in_ok-insert.ensures.added ∙ ap not (found_before (λ (v : Vec ℕ Global). v.items) c.write_key.new.code key written c.args.self.now.codes.keys earlier (known key))

pub returns-clause-knows : goal.returns-clause-knows
returns-clause-knows c = λ earlier value known q.
    let key = c.args.key.now in
    let written : c.write_key.new.code.items ≡ key_code key = c.in_ok-write_key.ensures ∙ ap (λ (items : List ℕ). items ++ key_code key) c.new-code.ensures.items in
    ap (list_any (λ (v : Vec ℕ Global). bytes_eq (key_code q) v.items)) c.in_ok-insert.ensures.keys
    ∙ known_more (λ (v : Vec ℕ Global). v.items) c.write_key.new.code key written c.args.self.now.codes.keys earlier q value (known q)
