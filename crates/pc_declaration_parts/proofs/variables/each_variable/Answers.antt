use Rattle.std.proofs.Common.{◌≡◌, ◌+◌, get_or, Some, slice_get, refl, subst, ap, ◌∙◌}
use Rattle.std.proofs.lemmas.List.{take_more}
use Rattle.std.proofs.lemmas.Option.{slice_get_read}
use Rattle.pc_syntax.specs.Plain.{kids_of}
use Rattle.pc_syntax.specs.declared.kind.Kind.TheVariants as kind
use Rattle.pc_growth.specs.GrowsLaws.{less-begins}
use Rattle.pc_places.specs.Places.{known}
use Rattle.pc_definitions.specs.Numbered.{AmongBefore, AtDefinition}
use Rattle.pc_definitions.specs.NumberedLaws.{next-numbered}
use Rattle.pc_definitions.specs.Rows.{vars-kid}
use Rattle.pc_declaration_parts.specs.RowTurns.{turns-none, turns-next}
use Rattle.pc_declaration_parts.proofs.variables.each_variable.Goals as goal

pub loop-kid-init : goal.loop-kid-init
loop-kid-init c = (
  turns-none (AmongBefore kind.Vardef (kids_of c.args.list.now) c.args.before.now) c.args.block.0 c.args.owner.0 c.args.domains.now c.args.tables.now c.new-found.result.items c.new-found.ensures.items,
  refl,
)

pub variable_declaration-requires : goal.variable_declaration-requires
variable_declaration-requires c =
    let t0 = c.args.tables.now in
    let t1 = c.loop-kid.tables in
    let changes = c.loop-kid.invariant.0.changes in
    record {
      block = less-begins t0.names.chains t1.names.chains c.args.block.0 changes.chains c.requires.block;
      owner = less-begins (known t0).table.owners (known t1).table.owners c.args.owner.0 changes.grows.owners c.requires.owner;
      definition =
          vars-kid c.args.list.now c.kid-item.result c.loop-kid.kid-index c.kid_slice-kid-items.ensures.proper c.requires.list
          (subst (λ ks. slice_get ks c.loop-kid.kid-index ≡ Some c.kid-item.result) c.kid_slice-kid-items.ensures.value
          (slice_get_read c.kid_slice-kid-items.result.now _ c.loop-kid.kid-index c.kid-item.result refl c.loop-kid-test.true c.kid-item.is));
    }

pub loop-kid-preserved : goal.loop-kid-preserved
loop-kid-preserved c =
    let kids = c.kid_slice-kid-items.result.now in
    let list = kids_of c.args.list.now in
    let bs = c.args.before.now in
    let i = c.loop-kid.kid-index in
    let kid = c.kid-item.result in
    let t0 = c.args.tables.now in
    let t1 = c.loop-kid.tables in
    let number = c.in_ok-i.i in
    let times = c.before_at-repeated.result in
    let at = slice_get_read kids _ i kid refl c.loop-kid-test.true c.kid-item.is in
    let counted = c.in_ok-i.ensures ∙ ap (λ n. n + 1) c.loop-kid.invariant.1 in (
      turns-next (AmongBefore kind.Vardef list bs) (AtDefinition kind.Vardef number times kid) c.args.block.0 c.args.owner.0 c.args.domains.now c.loop-kid.domains c.variable_declaration.new.domains t0 t1
          c.variable_declaration.new.tables kids i kid _ c.loop-kid.found.items c.push.new.self.items c.in_ok-one.one c.kid-item.is (take_more kids i kid c.loop-kid-test.true) c.in_ok-push.ensures.items
          (λ out l before. next-numbered kind.Vardef list kids bs i number times kid c.kid_slice-kid-items.ensures.value c.loop-kid-test.true at counted
          (c.before_at-repeated.ensures ∙ ap (λ n. get_or bs n 0) c.loop-kid.invariant.1) t0 t1 out l before) c.loop-kid.invariant.0 c.in_ok-one.ensures,
      counted,
    )
