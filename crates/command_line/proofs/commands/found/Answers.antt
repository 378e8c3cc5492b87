use Rattle.std.proofs.Common.{◌≡◌, ◌∙◌, ap, sym, subst, map, string_bytes, [], ⊎_elim, ◌⊎◌}
use Rattle.clap.specs.Words.{Kinds, app_of, first_of, fault_of, matches_of, kind_of, found_of, IsAmong}
use Rattle.clap.specs.declared.error.kind.ErrorKind.{ErrorKind}
use Rattle.clap.specs.declared.error.kind.ErrorKind.TheVariants as kind
use Rattle.clap.proofs.WalkLemmas.{first_value-rows}
use Rattle.command_line.specs.Commands.{value_in, faults_in}
use Rattle.command_line.proofs.commands.found.Goals as goal

pub returns-in-Ok-clause-well : goal.returns-in-Ok-clause-well
unfolding faults_in
returns-in-Ok-clause-well c =
    let words_are = ap (map string_bytes) c.as_slice.ensures.value in
    ap (fault_of (app_of c.args.command)) (sym words_are) ∙ c.in-Ok.ensures.kinds c.requires.free

pub returns-in-Ok-clause-values : goal.returns-in-Ok-clause-values
unfolding value_in
returns-in-Ok-clause-values c id =
    let words_are = ap (map string_bytes) c.as_slice.ensures.value in
    let found = c.in-Ok.ensures.matches c.requires.simple in
    first_value-rows (found_of c.in-Ok.matches) id ∙ ap (first_of id) (found.0 ∙ ap (matches_of (app_of c.args.command)) words_are)

-- an error that is not for want of memory has a fault of the words
fault : (kinds : Kinds) (k : ErrorKind) → (k ≡ kind.OutOfMemory → ⊥) → (k ≡ kind.OutOfMemory) ⊎ IsAmong k kinds → kinds ≡ [] → ⊥
fault kinds k not has none = ⊎_elim not (λ among. subst (IsAmong k) none among) has

pub returns : goal.returns
unfolding faults_in
returns c =
    let words_are = ap (map string_bytes) c.as_slice.ensures.value in
    let has = c.in-Err.ensures.kinds c.requires.free in
    record {
      well = tt;
      values = tt;
      usage = λ is none. fault _ (kind_of c.in-Err.error) (λ k. c.in_default.not-OutOfMemory (c.kind.ensures ∙ k)) has (ap (fault_of (app_of c.args.command)) words_are ∙ none);
    }
