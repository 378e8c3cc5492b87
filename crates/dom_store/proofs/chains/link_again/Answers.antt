use Rattle.std.proofs.Common.{◌≡◌, Some, None, length, subst, sym, ◌∙◌}
use Rattle.dom_store.specs.Chains.{bucket_of, key_in, IsLinked}
use Rattle.dom_store.proofs.Linking.{link_key, in_key, out_key}
use Rattle.dom_store.proofs.chains.link_again.Goals as goal

pub returns-then-not-link-clause-linked : goal.returns-then-not-link-clause-linked
returns-then-not-link-clause-linked c = λ key is.
    let none : key_in c.args.links.now.items c.args.place ≡ None = link_key c.args.links.now.items c.args.place c.index-link.result.now c.requires.within c.index-link.ensures ∙ out_key c.index-link.result.now c.if-not-link.true in
    let clash : Some key ≡ None = sym is ∙ none in
    absurd (cc)

pub returns-clause-linked : goal.returns-clause-linked
returns-clause-linked c = λ key is.
    let there : key_in c.args.links.now.items c.args.place ≡ Some c.index-link.result.now.key = link_key c.args.links.now.items c.args.place c.index-link.result.now c.requires.within c.index-link.ensures ∙ in_key c.index-link.result.now c.if-not-link.false in
    let told : Some c.index-link.result.now.key ≡ Some key = sym there ∙ is in
    let same : c.index-link.result.now.key ≡ key = cc in
    subst (λ k. IsLinked c.args.heads.now.items c.args.links.now.items c.link_place.new.heads.items c.link_place.new.links.items (bucket_of (length c.args.heads.now.items) k) c.args.place) same c.link_place.ensures.linked

pub returns-clause-out : goal.returns-clause-out
returns-clause-out c = λ is.
    let there : key_in c.args.links.now.items c.args.place ≡ Some c.index-link.result.now.key = link_key c.args.links.now.items c.args.place c.index-link.result.now c.requires.within c.index-link.ensures ∙ in_key c.index-link.result.now c.if-not-link.false in
    let clash : None ≡ Some c.index-link.result.now.key = sym is ∙ there in
    absurd (cc)
