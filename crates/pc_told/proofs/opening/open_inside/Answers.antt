use Rattle.std.proofs.Common.{◌≡◌, ◌≤◌, List, [], ◌∷◌, length, ap, sym, ◌∙◌, subst, arith}
use Rattle.std.proofs.lemmas.List.{take_all}
use Rattle.pc_syntax.specs.Plain.{Plain, kids_of}
use Rattle.pc_environment.specs.Sight.{is_body}
use Rattle.pc_forms.specs.FormKids.{kids_in}
use Rattle.pc_forms.specs.FormLaws.{kids_in-form_of}
use Rattle.pc_forms.specs.declared.form.Form.TheVariants as form
use Rattle.pc_bodies.specs.SeesLaws.{classes-at}
use Rattle.pc_growth.specs.GrowsLaws.{Begins-same}
use Rattle.pc_statements.specs.ListKinds.{accesses-kind}
use Rattle.pc_told.specs.Opens.{Opens}
use Rattle.pc_told.specs.WithLaws.{stands-first, stands-inside}
use Rattle.pc_told.proofs.opening.open_inside.Goals as goal

pub returns-then-index-eq0 : goal.returns-then-index-eq0
returns-then-index-eq0 c = record {
  stands = stands-first c.args.body.now c.args.going.now c.args.node.now c.args.index c.if-index-eq0.true (ap is_body c.requires.with);
  texts = Begins-same c.args.going.now.texts.items;
}

pub open_first-requires : goal.open_first-requires
open_first-requires c =
    let node = c.args.node.now in
    let records = c.with_parts.result.0.now in
    let list = accesses-kind records.kind (classes-at node (form.With records c.with_parts.result.1.now) c.with_parts.ensures.proper c.with_parts.ensures.form).0 in
    record { block = c.requires.block; list = list; in_bounds = omega (arith, ap (λ (ks : List Plain). length ks) c.kid_slice-count.ensures.value) }

pub returns : goal.returns
returns c =
    let b = c.args.body.now in
    let node = c.args.node.now in
    let records = c.with_parts.result.0.now in
    let body = c.with_parts.result.1.now in
    let g0 = c.args.going.now in
    let g1 = c.open_first.new.going in
    let proper = c.with_parts.ensures.proper in
    let kids : kids_of node ≡ records ∷ body ∷ [] = sym (kids_in-form_of node proper) ∙ ap kids_in (sym c.with_parts.ensures.form) in
    let two : length (kids_of node) ≡ 2 = ap length kids in
    let one : c.args.index ≡ 1 = omega (arith, two) in
    let bound : length (kids_of records) ≤ length c.kid_slice-count.result.now = omega (arith, ap (λ (ks : List Plain). length ks) c.kid_slice-count.ensures.value) in
    let opens : Opens b g0 g1 (kids_of records) = subst (Opens b g0 g1) (take_all (length c.kid_slice-count.result.now) (kids_of records) bound) c.in_ok-open_first.ensures in
    record { stands = stands-inside b g0 g1 node records body c.args.index proper c.with_parts.ensures.form one opens; texts = opens.row.texts }
