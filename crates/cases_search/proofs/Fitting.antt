-- What a bench hands to the calls of its layout and its store, and which nodes can be shown.
use Rattle.std.proofs.Common.{◌≡◌, ◌<◌, ℕ, refl, sym, ap, ◌∙◌, subst, ◌++◌, List, length, get_or, Some, Result, Ok, Err, IfOk}
use Rattle.std.specs.List.{All}
use Rattle.std.specs.declared.alloc.AllocError.{AllocError}
use Rattle.std.proofs.lemmas.List.Elements.{All-get_or}
use Rattle.std.proofs.lemmas.Option.{slice_get_within, slice_get-get_or, get_or_from_slice_get}
use Rattle.dp_claims.specs.Enough.{Has}
use Rattle.dp_model.specs.declared.parts.PlainState.{PlainState}
use Rattle.dp_model.specs.declared.whole.Model.{Model}
use Rattle.state_layout.specs.Conditions.{IsLayoutOf, IsStateOf, IsStateFor, IsPackedOf, IsPackedFor, IsNodeOf, IsNodeFor}
use Rattle.state_layout.specs.declared.layout.Layout.{Layout}
use Rattle.state_layout.specs.declared.packed.Packed.{Packed}
use Rattle.state_layout.specs.declared.node.Node.{Node}
use Rattle.dom_store.specs.declared.taking.Taken.{Taken}
use Rattle.dom_store.proofs.Members.{has_front, has_back}
use Rattle.cases_search.specs.Fits.{AllFit, FitsIn}

-- the target
pub target_for : (m : Model) (layout : Layout) (s : PlainState) → IsLayoutOf m layout → s ≡ m.target → IsStateFor layout s
target_for m layout s laid is = (m, laid, subst (IsStateOf m) (sym is) m.held)

pub packed_for : (m : Model) (layout : Layout) (p : Packed) → IsLayoutOf m layout → IsPackedOf m p → IsPackedFor layout p
packed_for m layout p laid held = (m, laid, held)

pub node_for : (m : Model) (layout : Layout) (n : Node) → IsLayoutOf m layout → IsNodeOf m n → IsNodeFor layout n
node_for m layout n laid node = (m, laid, node)

pub fitting_packed : (m : Model) (layout : Layout) (n : Node) → IsLayoutOf m layout → FitsIn m n → IsPackedFor layout n.state
fitting_packed m layout n laid fits = (fits.0, laid ∙ fits.1, fits.2.state)

-- the nodes of a batch
pub batch_fits : (m : Model) (nodes : List Node) → All (IsNodeOf m) nodes → AllFit m nodes
batch_fits m nodes all n has =
    let within = slice_get_within nodes has.0 n has.1 in
    let same = get_or_from_slice_get nodes has.0 n n has.1 in
    (m, refl, subst (IsNodeOf m) same (All-get_or (IsNodeOf m) nodes has.0 n within all))

-- the nodes that a store of the model's layout gave up
pub taken_fit : (m : Model) (layout : Layout) (kept dropped : List Node) → IsLayoutOf m layout → ((n : Node) → Has (kept ++ dropped) n → IsNodeFor layout n) → AllFit m kept × AllFit m dropped
taken_fit m layout kept dropped laid fits = (
  (λ n has. subst (λ (l : Layout). IsNodeFor l n) laid (fits n (has_front kept dropped n has))),
  (λ n has. subst (λ (l : Layout). IsNodeFor l n) laid (fits n (has_back kept dropped n has))),
)

-- one of the nodes
pub fits_at : (m : Model) (nodes : List Node) (k : ℕ) (n : Node) → AllFit m nodes → k < length nodes → n ≡ get_or nodes k n → FitsIn m n
fits_at m nodes k n all within is = all n (k, slice_get-get_or nodes k n within ∙ ap Some (sym is))

pub taken_fits : (m : Model) (layout : Layout) (result : Result Taken AllocError) → IsLayoutOf m layout → IfOk result (λ taken. (n : Node) → Has (taken.kept ++ taken.dropped) n → IsNodeFor layout n) → IfOk result (λ taken. AllFit m taken.kept × AllFit m taken.dropped)
taken_fits m layout (Ok taken) laid fits = taken_fit m layout taken.kept taken.dropped laid fits
taken_fits m layout (Err e) laid fits = fits
