use Rattle.std.proofs.Common.{◌≡◌, ◌≤◌, ◌+◌, ◌++◌, ◌||◌, false, [], ◌∷◌, Some, slice_get, take, refl, sym, subst, ap, ◌∙◌, arith, append-nil}
use Rattle.std.proofs.lemmas.List.{take_all, take_more}
use Rattle.std.proofs.lemmas.Option.{slice_get_read}
use Rattle.pc_syntax.specs.Plain.{kids_of}
use Rattle.pc_syntax.specs.PartsLaws.{size_of-kid}
use Rattle.pc_syntax.specs.WellFormed.{size_of}
use Rattle.pc_types.specs.Rows.{seen}
use Rattle.pc_facts.specs.Shows.{ShowsType}
use Rattle.pc_type_rules.specs.Denoted.{IsNumber}
use Rattle.pc_denoters.specs.ArrayMakes.{denoters-more, makes-array, makes-indexes}
use Rattle.pc_denoters.specs.FieldLaws.{all_field_names-end, twice-end}
use Rattle.pc_denoters.specs.FieldNaming.{AreTwice, all_field_names, field_trees, first_kids}
use Rattle.pc_denoters.specs.FieldRows.{ShowsField}
use Rattle.pc_denoters.specs.FormsAt.{kind-form}
use Rattle.pc_denoters.specs.Goings.{ShowsFacts, IsAmong, MakesRow}
use Rattle.pc_denoters.specs.GoingsLaws.{there-moved, there-of}
use Rattle.pc_denoters.specs.Holes.{any_open}
use Rattle.pc_denoters.specs.KidLaws.{indexes-kid, fields-kid, next-inside}
use Rattle.pc_denoters.specs.Passing.{names_of, repeats_of}
use Rattle.pc_denoters.specs.RecordMakes.{fields-more, hole-kids, makes-field, makes-fields, makes-no-field, makes-record}
use Rattle.pc_denoters.specs.SimpleMakes.{makes-hole}
use Rattle.pc_denoters.specs.StructuredMakes.{makes-packed, makes-set}
use Rattle.pc_denoters.proofs.denoters.+denoters.Goals as goal

pub denoter-returns-in-Hole : goal.denoter-returns-in-Hole
denoter-returns-in-Hole t c =
    makes-hole c.args.tables.now c.args.block.0 c.args.owner.0 c.args.here c.args.is_packed c.in-Hole.sort c.hole.result c.hole.ensures c.args.node.now c.in-Hole.ensures.proper c.in-Hole.ensures.value

pub packed_of-returns : goal.packed_of-returns
packed_of-returns t c = λ p.
    makes-packed c.args.tables.now c.denoter.new.tables c.args.block.0 c.args.owner.0 c.args.here c.in_ok-first.first p c.args.unpacked.now c.in_ok-kid.kid c.in_ok-found.found c.in_ok-first.ensures.definition c.requires.unpacked c.in_ok-kid.ensures
    (λ k w n shown. c.in_ok-found.ensures k w n shown)

pub set_of-returns : goal.set_of-returns
set_of-returns t c =
    makes-set c.args.tables.now c.denoter.new.tables c.set.new.types c.args.block.0 c.args.owner.0 c.args.here c.in_ok-first.first c.args.is_packed c.args.base.now c.in_ok-kid.kid c.in_ok-found.found c.requires.there.here_there
    c.in_ok-first.ensures.definition c.requires.base c.in_ok-kid.ensures (λ k w l n table def pack shown. c.in_ok-found.ensures.shows k w l n table def pack shown) c.in_ok-found.ensures.extended

pub array_of-returns : goal.array_of-returns
array_of-returns t c =
    makes-array c.args.tables.now c.index_types.new.tables c.denoter.new.tables c.array.new.types c.args.block.0 c.args.owner.0 c.args.here c.in_ok-first.first c.in_ok-second.second c.args.is_packed c.any_hole-open.result c.args.indexes.now
    c.args.element.now c.in_ok-types.types.items c.in_ok-kid.kid c.in_ok-found.found c.requires.there.here_there c.in_ok-first.ensures.definition c.in_ok-second.ensures.definition c.requires.indexes c.requires.element c.in_ok-types.ensures
    c.in_ok-kid.ensures (c.any_hole-open.ensures ∙ ap any_open c.deref.ensures.value) (λ k w l m n table def pack all holed shown. c.in_ok-found.ensures.shows k w l m n table def pack all holed shown) c.in_ok-found.ensures.extended

pub index_types-denoter-requires : goal.index_types-denoter-requires
index_types-denoter-requires t c =
    let list = c.args.list.now in
    let kids = c.kid_slice-kid-items in
    let i = c.loop-kid.kid-index in
    let d : size_of c.kid-item.result + 1 ≤ size_of list = size_of-kid list i c.kid-item.result (rw kids.ensures.value at c.loop-kid-test.true) (rw kids.ensures.value at (sym c.kid-item.is)) in
    let at : slice_get (kids_of list) i ≡ Some c.kid-item.result =
    subst (λ ks. slice_get ks i ≡ Some c.kid-item.result) kids.ensures.value (slice_get_read kids.result.now _ i c.kid-item.result refl c.loop-kid-test.true c.kid-item.is) in
    let there = there-of c.loop-kid.tables c.args.block.0 c.args.owner.0 c.args.here c.in_ok-at.at c.in_ok-at.ensures.owner
    (there-moved c.args.block.0 c.args.owner.0 c.args.block.0 c.args.tables.now c.loop-kid.tables c.args.here c.loop-kid.invariant.0.moves c.requires.there) in
    (omega (arith, d, c.decreases), (there, indexes-kid list c.kid-item.result i kids.ensures.proper c.requires.list at))

pub index_types-loop-kid-preserved : goal.index_types-loop-kid-preserved
index_types-loop-kid-preserved t c =
    let kids = c.kid_slice-kid-items.result.now in
    let i = c.loop-kid.kid-index in
    let here = c.args.here in
    let kid = c.kid-item.result in
    let t0 = c.args.tables.now in
    let t2 = c.denoter.new.tables in
    let taken : take (i + 1) kids ≡ take i kids ++ kid ∷ [] = take_more kids i kid c.loop-kid-test.true ∙ ap (λ k. take i kids ++ k ∷ []) (sym c.kid-item.is) in
    let more = denoters-more here c.in_ok-at.at c.args.block.0 c.args.owner.0 t0 c.loop-kid.tables t2 (take i kids) kid c.loop-kid.found.items c.in_ok-one.one c.requires.there.here_there
    (next-inside here c.in_ok-at.at kids i c.loop-kid.i c.in_ok-i.i c.loop-kid-test.true c.loop-kid.invariant.1 c.in_ok-i.ensures c.in_ok-at.ensures.definition) c.loop-kid.invariant.0 c.in_ok-one.ensures in (
      subst (λ ts. MakesRow ShowsFacts (IsAmong here 1 false) c.args.block.0 c.args.owner.0 t0 t2 ts c.push.new.self.items) (sym taken)
          (subst (λ xs. MakesRow ShowsFacts (IsAmong here 1 false) c.args.block.0 c.args.owner.0 t0 t2 (take i kids ++ kid ∷ []) xs) (sym c.in_ok-push.ensures.items) more),
      c.in_ok-i.ensures ∙ ap (λ n. n + 1) c.loop-kid.invariant.1,
    )

pub index_types-returns : goal.index_types-returns
index_types-returns t c =
    let list = c.args.list.now in
    let kids = c.kid_slice-kid-items in
    let all : take c.loop-kid.kid-index kids.result.now ≡ kids_of list = take_all c.loop-kid.kid-index kids.result.now (omega (arith, c.loop-kid-test.false)) ∙ kids.ensures.value in
    makes-indexes c.args.here c.args.block.0 c.args.owner.0 c.args.tables.now c.loop-kid.tables list c.loop-kid.found.items kids.ensures.proper c.requires.list
    (subst (λ ts. MakesRow ShowsFacts (IsAmong c.args.here 1 false) c.args.block.0 c.args.owner.0 c.args.tables.now c.loop-kid.tables ts c.loop-kid.found.items) all c.loop-kid.invariant.0)

pub record_of-returns : goal.record_of-returns
record_of-returns t c =
    let all = c.in_ok-all.ensures in
    let rows = c.in_ok-rows.rows.items in
    makes-record c.args.tables.now c.field_lists.new.tables c.record_type.new.types c.args.block.0 c.args.owner.0 c.args.here c.in_ok-first.first c.args.is_packed c.in_ok-all.all.hole c.args.fields.now rows c.in_ok-all.all.lists.items
    c.in_ok-all.all.below.items c.in_ok-all.all.twice.items c.in_ok-found.found c.requires.there.here_there c.in_ok-first.ensures.definition c.requires.fields c.in_ok-rows.ensures.proper c.in_ok-rows.ensures.shows c.in_ok-rows.ensures.twice
    all.lists all.hole all.below all.twice (λ k w l a def pack lists hole below twice. c.in_ok-found.ensures.shows k w l a def pack lists hole below twice) c.in_ok-found.ensures.extended

pub field_lists-field_list-requires : goal.field_lists-field_list-requires
field_lists-field_list-requires t c =
    let list = c.args.list.now in
    let kids = c.kid_slice-kid-items in
    let i = c.loop-kid.kid-index in
    let d : size_of c.kid-item.result + 1 ≤ size_of list = size_of-kid list i c.kid-item.result (rw kids.ensures.value at c.loop-kid-test.true) (rw kids.ensures.value at (sym c.kid-item.is)) in
    let at : slice_get (kids_of list) i ≡ Some c.kid-item.result =
    subst (λ ks. slice_get ks i ≡ Some c.kid-item.result) kids.ensures.value (slice_get_read kids.result.now _ i c.kid-item.result refl c.loop-kid-test.true c.kid-item.is) in
    let there = there-of c.loop-kid.tables c.args.block.0 c.args.owner.0 c.args.here c.in_ok-at.at c.in_ok-at.ensures.owner
    (there-moved c.args.block.0 c.args.owner.0 c.args.block.0 c.args.tables.now c.loop-kid.tables c.args.here c.loop-kid.invariant.0.moves c.requires.there) in
    (omega (arith, d, c.decreases), (there, fields-kid list c.kid-item.result i kids.ensures.proper c.requires.list at))

pub field_lists-loop-kid-preserved : goal.field_lists-loop-kid-preserved
field_lists-loop-kid-preserved t c =
    let kids = c.kid_slice-kid-items.result.now in
    let i = c.loop-kid.kid-index in
    let here = c.args.here in
    let kid = c.kid-item.result in
    let t0 = c.args.tables.now in
    let t2 = c.field_list.new.tables in
    let so = c.loop-kid.invariant in
    let one = c.in_ok-one.ensures in
    let taken : take (i + 1) kids ≡ take i kids ++ kid ∷ [] = take_more kids i kid c.loop-kid-test.true ∙ ap (λ k. take i kids ++ k ∷ []) (sym c.kid-item.is) in
    let more = fields-more here c.in_ok-at.at c.args.block.0 c.args.owner.0 t0 c.loop-kid.tables t2 (take i kids) kid c.loop-kid.found.items c.in_ok-one.one c.requires.there.here_there
    (next-inside here c.in_ok-at.at kids i c.loop-kid.i c.in_ok-i.i c.loop-kid-test.true so.1 c.in_ok-i.ensures c.in_ok-at.ensures.definition) so.0 one.shows in
    let twice = twice-end [] c.loop-kid.found.items (take i kids) c.in_ok-one.one kid so.3 (one.twice ∙ ap (λ b. repeats_of b 1 (field_trees kid)) so.2) in (
      subst (λ ts. MakesRow ShowsField (IsAmong here 1 false) c.args.block.0 c.args.owner.0 t0 t2 ts c.push.new.self.items) (sym taken)
          (subst (λ xs. MakesRow ShowsField (IsAmong here 1 false) c.args.block.0 c.args.owner.0 t0 t2 (take i kids ++ kid ∷ []) xs) (sym c.in_ok-push.ensures.items) more),
      c.in_ok-i.ensures ∙ ap (λ n. n + 1) so.1,
      one.before ∙ ap (λ b. b ++ names_of (field_trees kid)) so.2 ∙ sym (all_field_names-end (take i kids) kid) ∙ ap all_field_names (sym taken),
      subst (λ ts. AreTwice [] c.push.new.self.items ts) (sym taken) (subst (λ xs. AreTwice [] xs (take i kids ++ kid ∷ [])) (sym c.in_ok-push.ensures.items) twice),
    )

pub field_lists-returns-clause-shows : goal.field_lists-returns-clause-shows
field_lists-returns-clause-shows t c =
    let list = c.args.list.now in
    let kids = c.kid_slice-kid-items in
    let all : take c.loop-kid.kid-index kids.result.now ≡ kids_of list = take_all c.loop-kid.kid-index kids.result.now (omega (arith, c.loop-kid-test.false)) ∙ kids.ensures.value in
    makes-fields c.args.here c.args.block.0 c.args.owner.0 c.args.tables.now c.loop-kid.tables list c.loop-kid.found.items kids.ensures.proper c.requires.list
    (subst (λ ts. MakesRow ShowsField (IsAmong c.args.here 1 false) c.args.block.0 c.args.owner.0 c.args.tables.now c.loop-kid.tables ts c.loop-kid.found.items) all c.loop-kid.invariant.0)

pub field_list-returns-in-Field-clause-shows : goal.field_list-returns-in-Field-clause-shows
field_list-returns-in-Field-clause-shows t c =
    let found = c.in_ok-found-in-Field.ensures in
    let list = c.in_ok-list-in-Field.ensures in
    let kid = c.in_ok-kid-in-Field.kid in
    let t1 = c.denoter.new.tables in
    let s2 = c.number_of.new.types in
    makes-field c.args.tables.now t1 s2 c.args.block.0 c.args.owner.0 c.args.here c.in_ok-second-in-Field.second c.args.node.now c.in-Field.names.now c.in-Field.of.now kid c.in_ok-found-in-Field.found c.in-Field.ensures.proper c.in-Field.ensures.value
    c.in_ok-second-in-Field.ensures.definition c.in_ok-kid-in-Field.ensures
    (λ ty shown. subst (λ i. IsNumber (seen s2) i ty) (sym found.of) (c.in_ok-number-in-Field.ensures.number ty (subst (λ o. ShowsType (seen t1.types) o ty) (sym c.value_type.ensures) shown)))
    c.in_ok-number-in-Field.ensures.extended (ap (λ v. v.items) found.names ∙ list.names) (found.hole ∙ ap (λ h. h || kid.hole) list.hole) found.below

pub field_list-returns-in-Hole : goal.field_list-returns-in-Hole
field_list-returns-in-Hole t c =
    let node = c.args.node.now in
    let before = c.args.before.now.items in
    let proper = c.in-Hole.ensures.proper in
    let is = kind-form node _ c.in-Hole.ensures.value in
    let none = ap first_kids (hole-kids node _ proper is) in
    let made = c.no_field.ensures in
    record {
      shows = makes-no-field c.args.tables.now c.args.block.0 c.args.owner.0 c.args.here node _ c.no_field.result proper is made.names made.of made.hole made.below;
      before = sym (append-nil before) ∙ ap (λ ts. before ++ names_of ts) (sym none);
      twice = made.twice ∙ ap (λ ts. repeats_of before 1 ts) (sym none);
    }
