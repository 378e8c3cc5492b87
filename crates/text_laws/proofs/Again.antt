-- What a certificate shows does not depend on the line that it begins in.
use Rattle.std.proofs.Common.{◌≡◌, ℕ, ◌<◌, ◌^◌, ◌+◌, ◌⊎◌, inl, inr, Option, ℤ, subst}
use Rattle.std.specs.Prelude.{IsTrue}
use Rattle.dp_model.specs.declared.parts.PlainState.{PlainState}
use Rattle.dp_model.specs.declared.whole.Model.{Model}
use Rattle.cert_types.specs.Lines.{line_of_end}
use Rattle.cert_types.specs.Parents.{are_made, have_parents}
use Rattle.cert_types.specs.Parts.{Parts, parts_of}
use Rattle.cert_types.specs.declared.cert.Cert.{Cert}
use Rattle.cert_laws.specs.Shown.{Accounts, IsCovered, IsHigh, IsSettled, Shown, Stands}

-- what a certificate keeps
pub record Kept (p : Parts) : Type 0 where
  pub made : IsTrue (are_made p.layers)
  pub parents : IsTrue (have_parents p.layers)
  pub few_lines : line_of_end p.first p.claim p.layers < 2 ^ 32

abbrev cert_of : (p : Parts) → Kept p → Cert
cert_of p k = record { first = p.first; keep = p.keep; prune = p.prune; claim = p.claim; layers = p.layers; made = k.made; parents = k.parents; few_lines = k.few_lines }

-- the same, from another line on
abbrev pub moved : Cert → ℕ → Parts
moved cert first = record { first = first; keep = cert.keep; prune = cert.prune; claim = cert.claim; layers = cert.layers }

module _ (m : Model) (cert : Cert) (first : ℕ) (k : Kept (moved cert first)) where
  abbrev other : Cert
  other = cert_of (moved cert first) k

  stands_there : (l place : ℕ) (s : PlainState) (cost : Option ℤ) → Stands m cert l place s cost → Stands m other l place s cost
  stands_there l place s cost h = record { node = h.node; at = h.at; path = h.path; inner = h.inner }

  abbrev stands_here : (l place : ℕ) (s : PlainState) (cost : Option ℤ) → Stands m other l place s cost → Stands m cert l place s cost
  stands_here l place s cost h = record { node = h.node; at = h.at; path = h.path; inner = h.inner }

  covered_there : (layer : ℕ) (s : PlainState) (cost : Option ℤ) → IsCovered m cert layer s cost → IsCovered m other layer s cost
  covered_there layer s cost h =
      record { l = h.l; place = h.place; state = h.state; so_far = h.so_far; may = h.may; stands = stands_there h.l h.place h.state h.so_far h.stands; covers = h.covers }

  needless_there : (layer : ℕ) (s : PlainState) (cost floor : Option ℤ) → IsHigh m cert.claim floor ⊎ IsCovered m cert layer s cost → IsHigh m cert.claim floor ⊎ IsCovered m other layer s cost
  needless_there layer s cost floor (inl high) = inl high
  needless_there layer s cost floor (inr covered) = inr (covered_there layer s cost covered)

  settled_there : (layer : ℕ) (s : PlainState) (cost : Option ℤ) → IsSettled m cert layer s cost → IsSettled m other layer s cost
  settled_there layer s cost (inl forbidden) = inl forbidden
  settled_there layer s cost (inr (inl ends)) = inr (inl ends)
  settled_there layer s cost (inr (inr on)) = inr (inr (record { inner = on.inner; floor = on.floor; is_floor = on.is_floor; needless = needless_there layer s cost on.floor on.needless }))

  accounts_there : (l : ℕ) (s : PlainState) (cost : Option ℤ) (t : ℕ) → Accounts m cert l s cost t → Accounts m other l s cost t
  accounts_there l s cost t h = record { next = h.next; joined = h.joined; leads = h.leads; settled = settled_there (l + 1) h.next h.joined h.settled }

  shown_there : Shown m cert → Shown m other
  shown_there h =
      record {
        claim = h.claim;
        target = h.target;
        nodes = h.nodes;
        cuts = λ l place s cost stands cut. h.cuts l place s cost (stands_here l place s cost stands) cut;
        steps = λ l place s cost stands uncut t considered enabled. accounts_there l s cost t (h.steps l place s cost (stands_here l place s cost stands) uncut t considered enabled);
      }

-- a certificate that says the same from another line on shows the same
pub shown_again : (m : Model) (cert also : Cert) (first : ℕ) → moved cert first ≡ parts_of also → Shown m cert → Shown m also
shown_again m cert also first same shown =
    subst (λ (p : Parts). (k : Kept p) → Shown m (cert_of p k)) same (λ k. shown_there m cert first k shown) (record { made = also.made; parents = also.parents; few_lines = also.few_lines })
