use Rattle.std.proofs.Common.{◌≡◌, ◌-◌, true, false, List, [], ◌∷◌, ◌++◌, Ok, Err, is_ok, sym, ap, ◌∙◌, subst, arith}
use Rattle.std.proofs.ResultArms.{chosen}
use Rattle.std.proofs.lemmas.Result.{IfOk-weaker}
use Rattle.yaml_tree.specs.Characters.{begins}
use Rattle.yaml_tree.specs.Lines.{flow_point}
use Rattle.yaml_tree.specs.Scalars.{quoted}
use Rattle.yaml_tree.specs.Repeats.{Refused, InTurn, Repeats}
use Rattle.yaml_tree.specs.Flow.{entry, plain_scalar, ListTurn, MapTurn, ListForm, MapForm, Form}
use Rattle.yaml_tree.specs.FlowSteps.{goes_on, KnowsNext, KeyValue}
use Rattle.yaml_tree.specs.Keys.{stands_before}
use Rattle.yaml_tree.specs.Known.{Knows}
use Rattle.yaml_tree.specs.Results.{turn_of}
use Rattle.yaml_tree.specs.declared.opening.Opening.TheVariants.{Plain, Quoted, FlowList, FlowMap, Header}
use Rattle.yaml_tree.specs.declared.tree.Tree.{Tree}
use Rattle.yaml_tree.specs.declared.tree.Pair.{Pair}
use Rattle.yaml_tree.specs.declared.tree.YamlEnd.TheVariants.{Unread}
use Rattle.yaml_tree.specs.declared.turns.Step.{Step}
use Rattle.yaml_tree.specs.declared.turns.Step.TheVariants as steps
use Rattle.yaml_tree.proofs.BasePoints.{IsCharBoundary-behind}
use Rattle.yaml_tree.proofs.FlowForms.{form_at, map_turn-refused, map_turn-entry, was_new, knows_next}
use Rattle.yaml_tree.proofs.FlowMarks.{keyed-begins}
use Rattle.yaml_tree.proofs.FlowTurns.{refused_as, passed_as, refused_now, in_turn-more, repeats-refused, ends_empty, ends_with, list_form-read, list_form-refused, list_form-nowhere, map_form-read, map_form-refused, map_form-nowhere}
use Rattle.yaml_tree.proofs.Sizes.{list_turn-more, map_turn-more}
use Rattle.yaml_tree.proofs.flow.+form.Goals as goal

pub form-returns-in-Plain-clause-read : goal.form-returns-in-Plain-clause-read
form-returns-in-Plain-clause-read t c =
    IfOk-weaker c.plain_scalar.result _ _ (λ tree is. form_at c.args.flow c.args.maps c.args.levels c.args.reader.now Plain _ (omega arith) (sym c.in-Plain.ensures) (sym is)) c.plain_scalar.ensures.read

pub form-returns-in-Plain-clause-refused : goal.form-returns-in-Plain-clause-refused
form-returns-in-Plain-clause-refused t c =
    refused_as (λ e. plain_scalar c.args.flow c.args.reader.now ≡ Err e) (λ e. Form c.args.flow c.args.maps c.args.levels c.args.reader.now (Err e))
    (λ e is. form_at c.args.flow c.args.maps c.args.levels c.args.reader.now Plain (Err e) (omega arith) (sym c.in-Plain.ensures) (sym is)) c.plain_scalar.result c.plain_scalar.ensures.refused

pub form-returns-in-Quoted-clause-read : goal.form-returns-in-Quoted-clause-read
form-returns-in-Quoted-clause-read t c =
    IfOk-weaker c.quoted.result _ _ (λ tree is. form_at c.args.flow c.args.maps c.args.levels c.args.reader.now (Quoted c.in-Quoted.single c.in-Quoted.inside) _ (omega arith) (sym c.in-Quoted.ensures) (sym is)) c.quoted.ensures.read

pub form-returns-in-Quoted-clause-refused : goal.form-returns-in-Quoted-clause-refused
form-returns-in-Quoted-clause-refused t c =
    refused_as (λ e. quoted c.args.reader.now c.in-Quoted.single c.in-Quoted.inside ≡ Err e) (λ e. Form c.args.flow c.args.maps c.args.levels c.args.reader.now (Err e))
    (λ e is. form_at c.args.flow c.args.maps c.args.levels c.args.reader.now (Quoted c.in-Quoted.single c.in-Quoted.inside) (Err e) (omega arith) (sym c.in-Quoted.ensures) (sym is)) c.quoted.result c.quoted.ensures.refused

pub form-returns-in-FlowList-clause-read : goal.form-returns-in-FlowList-clause-read
form-returns-in-FlowList-clause-read t c =
    IfOk-weaker c.list.result _ _ (λ tree is. form_at c.args.flow c.args.maps c.args.levels c.args.reader.now FlowList _ (omega arith) (sym c.in-FlowList.ensures) is) c.list.ensures.read

pub form-returns-in-FlowList-clause-refused : goal.form-returns-in-FlowList-clause-refused
form-returns-in-FlowList-clause-refused t c =
    refused_as (λ e. ListForm (Form true true (c.args.levels - 1)) c.args.reader.now (Err e)) (λ e. Form c.args.flow c.args.maps c.args.levels c.args.reader.now (Err e))
    (λ e is. form_at c.args.flow c.args.maps c.args.levels c.args.reader.now FlowList (Err e) (omega arith) (sym c.in-FlowList.ensures) is) c.list.result c.list.ensures.refused

pub form-returns-in-FlowMap-clause-read : goal.form-returns-in-FlowMap-clause-read
form-returns-in-FlowMap-clause-read t c =
    IfOk-weaker c.map.result _ _ (λ tree is. form_at c.args.flow c.args.maps c.args.levels c.args.reader.now FlowMap _ (omega arith) (sym c.in-FlowMap.ensures) is) c.map.ensures.read

pub form-returns-in-FlowMap-clause-refused : goal.form-returns-in-FlowMap-clause-refused
form-returns-in-FlowMap-clause-refused t c =
    refused_as (λ e. MapForm (Form true true (c.args.levels - 1)) (Form true false (c.args.levels - 1)) c.args.reader.now (Err e)) (λ e. Form c.args.flow c.args.maps c.args.levels c.args.reader.now (Err e))
    (λ e is. form_at c.args.flow c.args.maps c.args.levels c.args.reader.now FlowMap (Err e) (omega arith) (sym c.in-FlowMap.ensures) is) c.map.result c.map.ensures.refused

pub form-returns-in-Header-clause-read : goal.form-returns-in-Header-clause-read
form-returns-in-Header-clause-read t c =
    form_at c.args.flow c.args.maps c.args.levels c.args.reader.now (Header c.in-Header.field-0 c.in-Header.field-1) (Ok (c.header_line.result, c.header_line.new.reader)) (omega arith) (sym c.in-Header.ensures) (sym c.header_line.ensures)

-- ---- lists

pub list-returns-in_err-pass_mark-clause-refused : goal.list-returns-in_err-pass_mark-clause-refused
list-returns-in_err-pass_mark-clause-refused t c =
    refused_now (λ e. ListForm (Form true true c.args.levels) c.args.reader.now (Err e)) c.from_residual.result c.in_err-pass_mark.field-0.0 c.from_residual.ensures.1
    (list_form-nowhere (Form true true c.args.levels) c.args.reader.now c.in_err-pass_mark.field-0.0 c.in_err-pass_mark.ensures)

pub list-returns-in_err-items-clause-refused : goal.list-returns-in_err-items-clause-refused
list-returns-in_err-items-clause-refused t c =
    passed_as (λ e. Repeats (ListTurn (Form true true c.args.levels)) c.pass_mark.new.reader (Err e)) (λ e. ListForm (Form true true c.args.levels) c.args.reader.now (Err e))
    (λ e is. list_form-refused (Form true true c.args.levels) c.args.reader.now c.pass_mark.new.reader e c.in_ok-pass_mark.ensures is)
    c.from_residual-in_err-items.result c.in_err-items.field-0.0 c.from_residual-in_err-items.ensures.1 c.in_err-items.ensures.refused

pub list-returns-clause-read : goal.list-returns-clause-read
list-returns-clause-read t c =
    list_form-read (Form true true c.args.levels) c.args.reader.now c.pass_mark.new.reader c.items.new.reader c.in_ok-items.items c.place-place.result c.place-place.ensures c.in_ok-pass_mark.ensures c.in_ok-items.ensures.read

pub items-loop-items-smaller : goal.items-loop-items-smaller
items-loop-items-smaller t c =
    list_turn-more c.args.levels [] c.loop-items.reader c.in-More.item c.item.new.reader
    (subst (λ (s : Step Tree). ListTurn (Form true true c.args.levels) [] c.loop-items.reader (turn_of s c.item.new.reader)) c.in-More.is c.in_ok-item.ensures.read)

pub items-loop-items-preserved : goal.items-loop-items-preserved
items-loop-items-preserved t c =
    let pushed = chosen {X = List Tree} _ _ _ _ c.push.ensures.items (ap is_ok c.in_ok-push-in-More.was) in
    let one = subst (λ (s : Step Tree). ListTurn (Form true true c.args.levels) [] c.loop-items.reader (turn_of s c.item.new.reader)) c.in-More.is c.in_ok-item.ensures.read in
    subst (λ (xs : List Tree). InTurn (ListTurn (Form true true c.args.levels)) [] c.args.reader.now xs c.item.new.reader) (sym pushed)
    (in_turn-more (ListTurn (Form true true c.args.levels)) [] c.args.reader.now c.loop-items.items.items c.in-More.item c.loop-items.reader c.item.new.reader c.loop-items.invariant one)

pub item-advance-requires-clause-boundary : goal.item-advance-requires-clause-boundary
item-advance-requires-clause-boundary t c =
    IsCharBoundary-behind 93 c.args.reader.now.here (ap (begins 93) (sym c.here.ensures.value) ∙ sym c.if-begins.ensures) (omega arith) c.here.ensures.utf8

-- ---- maps

pub map-returns-in_err-pass_mark-clause-refused : goal.map-returns-in_err-pass_mark-clause-refused
map-returns-in_err-pass_mark-clause-refused t c =
    refused_now (λ e. MapForm (Form true true c.args.levels) (Form true false c.args.levels) c.args.reader.now (Err e)) c.from_residual.result c.in_err-pass_mark.field-0.0 c.from_residual.ensures.1
    (map_form-nowhere (Form true true c.args.levels) (Form true false c.args.levels) c.args.reader.now c.in_err-pass_mark.field-0.0 c.in_err-pass_mark.ensures)

pub map-returns-in_err-entries-clause-refused : goal.map-returns-in_err-entries-clause-refused
map-returns-in_err-entries-clause-refused t c =
    passed_as (λ e. Repeats (MapTurn (Form true true c.args.levels) (Form true false c.args.levels)) c.pass_mark.new.reader (Err e))
    (λ e. MapForm (Form true true c.args.levels) (Form true false c.args.levels) c.args.reader.now (Err e))
    (λ e is. map_form-refused (Form true true c.args.levels) (Form true false c.args.levels) c.args.reader.now c.pass_mark.new.reader e c.in_ok-pass_mark.ensures is)
    c.from_residual-in_err-entries.result c.in_err-entries.field-0.0 c.from_residual-in_err-entries.ensures.1 c.in_err-entries.ensures.refused

pub map-returns-clause-read : goal.map-returns-clause-read
map-returns-clause-read t c =
    map_form-read (Form true true c.args.levels) (Form true false c.args.levels) c.args.reader.now c.pass_mark.new.reader c.entries.new.reader c.in_ok-entries.entries c.place-place.result c.place-place.ensures c.in_ok-pass_mark.ensures c.in_ok-entries.ensures.read

pub entries-loop-entries-smaller : goal.entries-loop-entries-smaller
entries-loop-entries-smaller t c =
    let before = c.loop-entries.entries.items in
    map_turn-more c.args.levels before c.loop-entries.reader c.in-More.entry c.entry.new.reader
    (subst (λ (s : Step Pair). MapTurn (Form true true c.args.levels) (Form true false c.args.levels) before c.loop-entries.reader (turn_of s c.entry.new.reader)) c.in-More.is (c.in_ok-entry.ensures.read before c.loop-entries.invariant.1))

pub entries-loop-entries-preserved : goal.entries-loop-entries-preserved
entries-loop-entries-preserved t c =
    let before = c.loop-entries.entries.items in
    let pushed = chosen {X = List Pair} _ _ _ _ c.push.ensures.items (ap is_ok c.in_ok-push-in-More.was) in
    let one = subst (λ (s : Step Pair). MapTurn (Form true true c.args.levels) (Form true false c.args.levels) before c.loop-entries.reader (turn_of s c.entry.new.reader)) c.in-More.is (c.in_ok-entry.ensures.read before c.loop-entries.invariant.1) in
    let known = subst (KnowsNext c.entry.new.keys before) c.in-More.is (c.in_ok-entry.ensures.knows before c.loop-entries.invariant.1) in
    subst (λ (es : List Pair). InTurn (MapTurn (Form true true c.args.levels) (Form true false c.args.levels)) [] c.args.reader.now es c.entry.new.reader × Knows c.entry.new.keys es) (sym pushed)
    (in_turn-more (MapTurn (Form true true c.args.levels) (Form true false c.args.levels)) [] c.args.reader.now before c.in-More.entry c.loop-entries.reader c.entry.new.reader c.loop-entries.invariant.0 one, known)

pub entries-returns-in_err-entry-clause-refused : goal.entries-returns-in_err-entry-clause-refused
entries-returns-in_err-entry-clause-refused t c =
    let read = c.loop-entries.entries.items in
    passed_as (λ e. MapTurn (Form true true c.args.levels) (Form true false c.args.levels) read c.loop-entries.reader (Refused e))
    (λ e. Repeats (MapTurn (Form true true c.args.levels) (Form true false c.args.levels)) c.args.reader.now (Err e))
    (λ e is. repeats-refused (MapTurn (Form true true c.args.levels) (Form true false c.args.levels)) c.args.reader.now read c.loop-entries.reader e c.loop-entries.invariant.0 is)
    c.from_residual.result c.in_err-entry.field-0.0 c.from_residual.ensures.1 (c.in_err-entry.ensures.refused read c.loop-entries.invariant.1)

pub entries-returns-in-Last-None-clause-read : goal.entries-returns-in-Last-None-clause-read
entries-returns-in-Last-None-clause-read t c =
    let read = c.loop-entries.entries.items in
    ends_empty (MapTurn (Form true true c.args.levels) (Form true false c.args.levels)) c.args.reader.now read c.loop-entries.reader c.entry.new.reader c.fitted.result c.in_ok-entry.field-0
    c.loop-entries.invariant.0 (c.in_ok-entry.ensures.read read c.loop-entries.invariant.1) (c.in-Last-None.is ∙ ap steps.Last c.in-Last-None.field-0-is) c.fitted.ensures

pub entries-returns-in-Last-Some-clause-read : goal.entries-returns-in-Last-Some-clause-read
entries-returns-in-Last-Some-clause-read t c =
    let read = c.loop-entries.entries.items in
    let pushed = chosen {X = List Pair} _ _ _ _ c.push-in-Last-Some.ensures.items (ap is_ok c.in_ok-push-in-Last-Some.was) in
    ends_with (MapTurn (Form true true c.args.levels) (Form true false c.args.levels)) c.args.reader.now read c.loop-entries.reader c.entry.new.reader c.fitted-in-Last-Some.result c.in_ok-entry.field-0
    c.loop-entries.invariant.0 (c.in_ok-entry.ensures.read read c.loop-entries.invariant.1) c.in-Last-Some.entry (c.in-Last-Some.is ∙ ap steps.Last c.in-Last-Some.field-0-is) (c.fitted-in-Last-Some.ensures ∙ pushed ∙ ap (λ (e : Pair). read ++ e ∷ []) c.in-Last-Some.entry-is)

pub entry-advance-requires-clause-boundary : goal.entry-advance-requires-clause-boundary
entry-advance-requires-clause-boundary t c =
    IsCharBoundary-behind 125 c.args.reader.now.here (ap (begins 125) (sym c.here.ensures.value) ∙ sym c.if-begins.ensures) (omega arith) c.here.ensures.utf8

pub entry-returns-in_err-value-clause-refused : goal.entry-returns-in_err-value-clause-refused
entry-returns-in_err-value-clause-refused t c = λ before known.
    passed_as (λ e. KeyValue (Form true true c.args.levels) c.what_begins-opening.result c.place-place.result.line c.form.new.reader (flow_point c.form.new.reader) (Err e))
    (λ e. MapTurn (Form true true c.args.levels) (Form true false c.args.levels) before c.args.reader.now (Refused e))
    (λ e is. map_turn-refused (Form true true c.args.levels) (Form true false c.args.levels) before c.args.reader.now c.form.new.reader c.in_ok-key.key c.what_begins-opening.result c.place-place.result (ap (begins 125) (sym c.here.ensures.value) ∙ sym c.if-begins.ensures) c.in_ok-key.ensures.read c.what_begins-opening.ensures c.place-place.ensures e (was_new c.in_ok-add.field-0 (stands_before c.in_ok-key.key before) (c.in_ok-add.ensures.fresh before known) c.if-not-branch.false) is)
    c.from_residual-in_err-value.result c.in_err-value.field-0.0 c.from_residual-in_err-value.ensures.1 c.in_err-value.ensures.refused

pub entry-returns-clause-read : goal.entry-returns-clause-read
entry-returns-clause-read t c = λ before known.
    IfOk-weaker c.end_turn.result _ _
    (λ step is. map_turn-entry (Form true true c.args.levels) (Form true false c.args.levels) before c.args.reader.now c.form.new.reader c.in_ok-key.key c.what_begins-opening.result c.place-place.result (ap (begins 125) (sym c.here.ensures.value) ∙ sym c.if-begins.ensures) c.in_ok-key.ensures.read c.what_begins-opening.ensures c.place-place.ensures
    c.in_ok-value.value c.value_of_key.new.reader c.place.result (turn_of step c.end_turn.new.reader) (was_new c.in_ok-add.field-0 (stands_before c.in_ok-key.key before) (c.in_ok-add.ensures.fresh before known) c.if-not-branch.false) c.in_ok-value.ensures.read c.place.ensures is) c.end_turn.ensures.read

pub entry-returns-clause-knows : goal.entry-returns-clause-knows
entry-returns-clause-knows t c = λ before known.
    IfOk-weaker c.end_turn.result _ _
    (λ step is. knows_next c.add.new.self before (entry c.in_ok-key.key c.in_ok-value.value) (Unread c.place.result) c.value_of_key.new.reader c.end_turn.new.reader step is (c.in_ok-add.ensures.knows before c.in_ok-value.value known)) c.end_turn.ensures.read

pub entry-returns-clause-refused : goal.entry-returns-clause-refused
entry-returns-clause-refused t c = λ before known.
    refused_as (λ e. goes_on 125 (entry c.in_ok-key.key c.in_ok-value.value) (Unread c.place.result) c.value_of_key.new.reader ≡ Refused e)
    (λ e. MapTurn (Form true true c.args.levels) (Form true false c.args.levels) before c.args.reader.now (Refused e))
    (λ e is. map_turn-entry (Form true true c.args.levels) (Form true false c.args.levels) before c.args.reader.now c.form.new.reader c.in_ok-key.key c.what_begins-opening.result c.place-place.result (ap (begins 125) (sym c.here.ensures.value) ∙ sym c.if-begins.ensures) c.in_ok-key.ensures.read c.what_begins-opening.ensures c.place-place.ensures
    c.in_ok-value.value c.value_of_key.new.reader c.place.result (Refused e) (was_new c.in_ok-add.field-0 (stands_before c.in_ok-key.key before) (c.in_ok-add.ensures.fresh before known) c.if-not-branch.false) c.in_ok-value.ensures.read c.place.ensures is) c.end_turn.result c.end_turn.ensures.refused

pub value_of_key-advance-requires-clause-boundary : goal.value_of_key-advance-requires-clause-boundary
value_of_key-advance-requires-clause-boundary t c =
    IsCharBoundary-behind 58 c.flow_point.new.reader.here (ap (begins 58) (sym c.here.ensures.value) ∙ keyed-begins c.args.opening _ c.here.result.now (sym c.if-not-is_keyed.ensures)) (omega arith) c.here.ensures.utf8
