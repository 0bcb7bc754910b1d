use Rattle.std.proofs.Common.{◌≡◌, ℕ, List, Some, length, option_map, sym, subst, arith, ◌<◌, ◌-◌, false, true, [], ◌∷◌, ◌++◌, None, take, drop, get_or, refl, ap, ◌∙◌}
use Rattle.std.proofs.lemmas.Option.{same_Some}
use Rattle.pc_syntax.specs.declared.kind.Kind.TheVariants as kind
use Rattle.pc_names.specs.Chains.{chain_around, chain_of}
use Rattle.pc_names.specs.declared.id.BlockId.{BlockId}
use Rattle.pc_growth.specs.GrowsLaws.{less-begins}
use Rattle.pc_places.specs.Parameters.{AreNamed}
use Rattle.pc_places.specs.declared.parameter.Parameter.{Parameter}
use Rattle.pc_openings.specs.Opened.{Opens}
use Rattle.pc_resolve.specs.declared.resolver.Resolver.{Resolver}
use Rattle.pc_resolve.proofs.ListEntered.{BlockLaws, ComesToList, HasFive, begun-there, some-list}
use Rattle.pc_resolve.proofs.PartsLemmas.{MakesParts}
use Rattle.pc_scope.specs.Headings.{heading_of, headings_in, is_routine_kind}
use Rattle.pc_routines.specs.Heads.{ShowsHeads}
use Rattle.pc_routines.specs.declared.head.RoutineHead.{RoutineHead}
use Rattle.pc_resolve.specs.Walking.{Walking}
use Rattle.pc_resolve.proofs.HoleLemmas.{resolves-hole}
use Rattle.pc_resolve.proofs.LoopLemmas.{head-there, never-heads, some-tree, walking-at, walking-end, walking-split, walking-start, walking-step}
use Rattle.pc_resolve.proofs.RoutineLemmas.{GoesToBlock, resolves-routine, some-within}
use Rattle.pc_resolve.proofs.WithinLemmas.{some-block, within-block, within-none}
use Rattle.pc_resolve.specs.declared.resolver.BlockEntries.{BlockEntries}
use Rattle.pc_resolve.proofs.BlockEnd.{ComesToEnd, EndLaws, block-end}
use Rattle.pc_resolve.proofs.BodyThere.{body-there, kept-there}
use Rattle.pc_resolve.proofs.blocks.+blocks.Goals as goal

-- ---- block, up to its routines (R1)

pub block-open_block-requires : goal.block-open_block-requires
block-open_block-requires t c =
    let some = c.requires.some in
    record {
      around = c.requires.around;
      named = subst (AreNamed (length c.args.resolver.now.tables.names.texts)) (sym c.as_slice.ensures.value) some.8.around.are_named;
      node = λ x e. subst (λ y. y.now.kind ≡ kind.Block) (same_Some _ x e) c.requires.node;
    }

pub block-declaration_parts-requires : goal.block-declaration_parts-requires
block-declaration_parts-requires t c =
    let some = c.requires.some in
    let old = c.args.resolver.now.tables in
    let opens = c.in_ok-opened-in-Block.ensures in
    let classes = c.in-Block.ensures.classes in
    record {
      block = begun-there (chain_around old.names.chains (option_map {T = BlockId} {U = ℕ} (λ b. b.0) c.args.around)) c.in_ok-opened-in-Block.opened.0 old.names.chains c.open_block.new.tables.names.chains opens.number opens.chains;
      owner = rw opens.types some.8.around.there;
      constants = classes.0;
      types = classes.1.0;
      variables = classes.1.1.0;
    }

pub block-block_routines-requires : goal.block-block_routines-requires
block-block_routines-requires t c =
    let some = c.requires.some in
    let s = c.args.resolver.now in
    let old = s.tables in
    let node = c.args.node.now in
    let site = c.args.site.now in
    let program = c.args.is_program in
    let blocks = chain_around old.names.chains (option_map {T = BlockId} {U = ℕ} (λ b. b.0) c.args.around) in
    let block = c.in_ok-opened-in-Block.opened.0 in
    let t1 = c.open_block.new.tables in
    let t2 = c.declaration_parts.new.tables in
    let p = c.in_ok-parts-in-Block.parts in
    let a = c.in-Block.consts.now in
    let b = c.in-Block.types.now in
    let v = c.in-Block.vars.now in
    let d = c.in-Block.routines.now in
    let e = c.in-Block.body.now in
    let at = c.in-Block.ensures in
    let new : Resolver = record s { tables = t2; domains = c.declaration_parts.new.domains } in
    let five : HasFive node a b v d e = record {
      is = c.requires.node;
      proper = at.proper;
      kids = sym at.kids;
      constants = at.classes.0;
      types = at.classes.1.0;
      variables = at.classes.1.1.0;
      routines = at.classes.1.1.1.0;
      body = at.classes.1.1.1.1.0;
    } in
    let comes : ComesToList blocks site program node a b v block s t1 p new = record {
      order = c.stays_in_order.ensures;
      opens = subst (λ (ps : List Parameter). Opens blocks ps (Some node) block old t1) c.as_slice.ensures.value c.in_ok-opened-in-Block.ensures;
      makes =
          subst (λ (ps : List Parameter). MakesParts block site.owner.0 program ps a b v s.domains new.domains t1 t2 p) c.as_slice-in-Block.ensures.value
          c.in_ok-parts-in-Block.ensures.parts;
      changes = c.in_ok-parts-in-Block.ensures.changes;
    } in
    let laws : BlockLaws = record {
      routines = c.routines_come_in_order.ensures;
      unsigned = c.declarations_see_no_signature.ensures;
      body = c.bodies_stand_behind_declarations.ensures;
      own = c.routines_are_of_their_block.ensures;
      once = c.blocks_know_each_name_once.ensures;
    } in
    let began = c.in_ok-opened-in-Block.ensures in (
      omega (arith, at.smaller.1.1.1.0, c.decreases),
      (
        less-begins t1.names.chains t2.names.chains block c.in_ok-parts-in-Block.ensures.changes.chains (begun-there blocks block old.names.chains t1.names.chains began.number began.chains),
        (at.classes.1.1.1.0, some-list laws c.args.number node c.args.tree.now a b v d e blocks site program s new block t1 p five comes some),
      ),
    )

-- ---- block, behind its routines (R4)

pub block-keep-requires-clause-block : goal.block-keep-requires-clause-block
block-keep-requires-clause-block t c =
    let s = c.args.resolver.now in
    let old = s.tables in
    let node = c.args.node.now in
    let site = c.args.site.now in
    let program = c.args.is_program in
    let blocks = chain_around old.names.chains (option_map {T = BlockId} {U = ℕ} (λ b. b.0) c.args.around) in
    let block = c.in_ok-opened-in-Block.opened.0 in
    let t1 = c.open_block.new.tables in
    let t2 = c.declaration_parts.new.tables in
    let p = c.in_ok-parts-in-Block.parts in
    let a = c.in-Block.consts.now in
    let b = c.in-Block.types.now in
    let v = c.in-Block.vars.now in
    let d = c.in-Block.routines.now in
    let e = c.in-Block.body.now in
    let at = c.in-Block.ensures in
    let s2 : Resolver = record s { tables = t2; domains = c.declaration_parts.new.domains } in
    let five : HasFive node a b v d e = record {
      is = c.requires.node;
      proper = at.proper;
      kids = sym at.kids;
      constants = at.classes.0;
      types = at.classes.1.0;
      variables = at.classes.1.1.0;
      routines = at.classes.1.1.1.0;
      body = at.classes.1.1.1.1.0;
    } in
    let comes : ComesToList blocks site program node a b v block s t1 p s2 = record {
      order = c.stays_in_order.ensures;
      opens = subst (λ (ps : List Parameter). Opens blocks ps (Some node) block old t1) c.as_slice.ensures.value c.in_ok-opened-in-Block.ensures;
      makes =
          subst (λ (ps : List Parameter). MakesParts block site.owner.0 program ps a b v s.domains s2.domains t1 t2 p) c.as_slice-in-Block.ensures.value
          c.in_ok-parts-in-Block.ensures.parts;
      changes = c.in_ok-parts-in-Block.ensures.changes;
    } in
    let laws : BlockLaws = record {
      routines = c.routines_come_in_order.ensures;
      unsigned = c.declarations_see_no_signature.ensures;
      body = c.bodies_stand_behind_declarations.ensures;
      own = c.routines_are_of_their_block.ensures;
      once = c.blocks_know_each_name_once.ensures;
    } in
    body-there laws c.args.number node c.args.tree.now a b v d e blocks site program s s2 c.block_routines.new.resolver block t1 c.catch_up.new.tables p c.in_ok-below-in-Block.below five comes c.requires.some
    c.in_ok-below-in-Block.ensures.found c.in_ok-catch_up-in-Block.ensures.retargeted

pub block-keep-requires-clause-index : goal.block-keep-requires-clause-index
block-keep-requires-clause-index t c =
    let s = c.args.resolver.now in
    let old = s.tables in
    let node = c.args.node.now in
    let site = c.args.site.now in
    let program = c.args.is_program in
    let blocks = chain_around old.names.chains (option_map {T = BlockId} {U = ℕ} (λ b. b.0) c.args.around) in
    let block = c.in_ok-opened-in-Block.opened.0 in
    let t1 = c.open_block.new.tables in
    let t2 = c.declaration_parts.new.tables in
    let p = c.in_ok-parts-in-Block.parts in
    let a = c.in-Block.consts.now in
    let b = c.in-Block.types.now in
    let v = c.in-Block.vars.now in
    let d = c.in-Block.routines.now in
    let e = c.in-Block.body.now in
    let at = c.in-Block.ensures in
    let s2 : Resolver = record s { tables = t2; domains = c.declaration_parts.new.domains } in
    let five : HasFive node a b v d e = record {
      is = c.requires.node;
      proper = at.proper;
      kids = sym at.kids;
      constants = at.classes.0;
      types = at.classes.1.0;
      variables = at.classes.1.1.0;
      routines = at.classes.1.1.1.0;
      body = at.classes.1.1.1.1.0;
    } in
    let comes : ComesToList blocks site program node a b v block s t1 p s2 = record {
      order = c.stays_in_order.ensures;
      opens = subst (λ (ps : List Parameter). Opens blocks ps (Some node) block old t1) c.as_slice.ensures.value c.in_ok-opened-in-Block.ensures;
      makes =
          subst (λ (ps : List Parameter). MakesParts block site.owner.0 program ps a b v s.domains s2.domains t1 t2 p) c.as_slice-in-Block.ensures.value
          c.in_ok-parts-in-Block.ensures.parts;
      changes = c.in_ok-parts-in-Block.ensures.changes;
    } in
    let laws : BlockLaws = record {
      routines = c.routines_come_in_order.ensures;
      unsigned = c.declarations_see_no_signature.ensures;
      body = c.bodies_stand_behind_declarations.ensures;
      own = c.routines_are_of_their_block.ensures;
      once = c.blocks_know_each_name_once.ensures;
    } in
    let fewer =
    kept-there laws c.args.number node c.args.tree.now a b v d e blocks site program s s2 c.block_routines.new.resolver block t1 p c.in_ok-below-in-Block.below five comes c.requires.some c.in_ok-below-in-Block.ensures.found refl in
    let index = ap length c.as_slice-index.ensures.value in
    omega (arith, fewer, index)

pub block-statement_part-requires-clause-block : goal.block-statement_part-requires-clause-block
block-statement_part-requires-clause-block t c =
    let s = c.args.resolver.now in
    let old = s.tables in
    let node = c.args.node.now in
    let site = c.args.site.now in
    let program = c.args.is_program in
    let blocks = chain_around old.names.chains (option_map {T = BlockId} {U = ℕ} (λ b. b.0) c.args.around) in
    let block = c.in_ok-opened-in-Block.opened.0 in
    let t1 = c.open_block.new.tables in
    let t2 = c.declaration_parts.new.tables in
    let p = c.in_ok-parts-in-Block.parts in
    let a = c.in-Block.consts.now in
    let b = c.in-Block.types.now in
    let v = c.in-Block.vars.now in
    let d = c.in-Block.routines.now in
    let e = c.in-Block.body.now in
    let at = c.in-Block.ensures in
    let s2 : Resolver = record s { tables = t2; domains = c.declaration_parts.new.domains } in
    let five : HasFive node a b v d e = record {
      is = c.requires.node;
      proper = at.proper;
      kids = sym at.kids;
      constants = at.classes.0;
      types = at.classes.1.0;
      variables = at.classes.1.1.0;
      routines = at.classes.1.1.1.0;
      body = at.classes.1.1.1.1.0;
    } in
    let comes : ComesToList blocks site program node a b v block s t1 p s2 = record {
      order = c.stays_in_order.ensures;
      opens = subst (λ (ps : List Parameter). Opens blocks ps (Some node) block old t1) c.as_slice.ensures.value c.in_ok-opened-in-Block.ensures;
      makes =
          subst (λ (ps : List Parameter). MakesParts block site.owner.0 program ps a b v s.domains s2.domains t1 t2 p) c.as_slice-in-Block.ensures.value
          c.in_ok-parts-in-Block.ensures.parts;
      changes = c.in_ok-parts-in-Block.ensures.changes;
    } in
    let laws : BlockLaws = record {
      routines = c.routines_come_in_order.ensures;
      unsigned = c.declarations_see_no_signature.ensures;
      body = c.bodies_stand_behind_declarations.ensures;
      own = c.routines_are_of_their_block.ensures;
      once = c.blocks_know_each_name_once.ensures;
    } in
    body-there laws c.args.number node c.args.tree.now a b v d e blocks site program s s2 c.block_routines.new.resolver block t1 c.catch_up.new.tables p c.in_ok-below-in-Block.below five comes c.requires.some
    c.in_ok-below-in-Block.ensures.found c.in_ok-catch_up-in-Block.ensures.retargeted

pub block-returns : goal.block-returns
block-returns t c =
    let s = c.args.resolver.now in
    let old = s.tables in
    let node = c.args.node.now in
    let site = c.args.site.now in
    let program = c.args.is_program in
    let blocks = chain_around old.names.chains (option_map {T = BlockId} {U = ℕ} (λ b. b.0) c.args.around) in
    let block = c.in_ok-opened-in-Block.opened.0 in
    let t1 = c.open_block.new.tables in
    let t2 = c.declaration_parts.new.tables in
    let p = c.in_ok-parts-in-Block.parts in
    let a = c.in-Block.consts.now in
    let b = c.in-Block.types.now in
    let v = c.in-Block.vars.now in
    let d = c.in-Block.routines.now in
    let e = c.in-Block.body.now in
    let at = c.in-Block.ensures in
    let s2 : Resolver = record s { tables = t2; domains = c.declaration_parts.new.domains } in
    let five : HasFive node a b v d e = record {
      is = c.requires.node;
      proper = at.proper;
      kids = sym at.kids;
      constants = at.classes.0;
      types = at.classes.1.0;
      variables = at.classes.1.1.0;
      routines = at.classes.1.1.1.0;
      body = at.classes.1.1.1.1.0;
    } in
    let comes : ComesToList blocks site program node a b v block s t1 p s2 = record {
      order = c.stays_in_order.ensures;
      opens = subst (λ (ps : List Parameter). Opens blocks ps (Some node) block old t1) c.as_slice.ensures.value c.in_ok-opened-in-Block.ensures;
      makes =
          subst (λ (ps : List Parameter). MakesParts block site.owner.0 program ps a b v s.domains s2.domains t1 t2 p) c.as_slice-in-Block.ensures.value
          c.in_ok-parts-in-Block.ensures.parts;
      changes = c.in_ok-parts-in-Block.ensures.changes;
    } in
    let laws : BlockLaws = record {
      routines = c.routines_come_in_order.ensures;
      unsigned = c.declarations_see_no_signature.ensures;
      body = c.bodies_stand_behind_declarations.ensures;
      own = c.routines_are_of_their_block.ensures;
      once = c.blocks_know_each_name_once.ensures;
    } in
    let more : EndLaws = record {
      inside = c.inner_routines_touch.ensures;
      touched = c.logs_say_what_is_touched.ensures;
      touches = c.bodies_touch.ensures;
      changed = c.changes_are_seen_in_errors_alone.ensures;
    } in
    let s3 = c.block_routines.new.resolver in
    let s4 : Resolver = record s3 { tables = c.catch_up.new.tables; domains = c.catch_up.new.self } in
    let s5 : Resolver = record s4 { tables = c.statement_part.new.tables; touched = c.statement_part.new.touched; kept = c.keep.new.kept } in
    let declared = c.in_ok-declared-in-Block.declared.items in
    let below = c.in_ok-below-in-Block.below in
    let own = c.in_ok-own-in-Block.own.items in
    let ends : ComesToEnd c.args.number d e block c.mark-mark.result (length c.as_slice-index.result.now) declared site s2 s3 s4 s5 below own = record {
      list = c.in_ok-below-in-Block.ensures.found;
      told = c.in_ok-catch_up-in-Block.ensures.told;
      retargeted = c.in_ok-catch_up-in-Block.ensures.retargeted;
      logged = refl;
      before = refl;
      keeps_one = c.in_ok-keep-in-Block.ensures;
      order = c.stays_in_order-in-Block.ensures;
      body = c.in_ok-own-in-Block.ensures.found;
      keeps = c.in_ok-own-in-Block.ensures.keeps;
      domains = refl;
    } in
    let es : BlockEntries = record { own = c.in_ok-all-in-Block.all; inside = below.inside } in
    record {
      found =
          block-end laws more c.args.number node c.args.tree.now a b v d e blocks site program s s2 s3 s4 s5 block c.mark-mark.result (length c.as_slice-index.result.now) declared t1 p below es own five comes refl refl c.mark-mark.ensures (ap length c.as_slice-index.ensures.value)
          c.in_ok-declared-in-Block.ensures ends
          (record { own_are = c.in_ok-all-in-Block.ensures; inside_are = refl });
    }

-- ---- a tree in a list of routines (R2)

pub routine-returns-then-not-is_routine : goal.routine-returns-then-not-is_routine
routine-returns-then-not-is_routine t c =
    let none : is_routine_kind c.args.node.now.kind ≡ false = ap is_routine_kind (sym c.kind.ensures.value) ∙ sym c.is_routine.ensures ∙ c.if-not-is_routine.true in
    record {
      found =
          resolves-hole c.args.block.0 c.args.site.now c.args.list.now c.args.number c.args.head.now c.args.node.now c.args.resolver.now c.args.waiting.now c.no_entries.result c.requires.listed none c.no_entries.ensures.own
          c.no_entries.ensures.inside;
    }

pub routine-routine_block-requires : goal.routine-routine_block-requires
routine-routine_block-requires t c =
    let s = c.args.resolver.now in
    let node = c.args.node.now in
    let site = c.args.site.now in
    let mid : Resolver = record s { tables = c.routine_site.new.tables } in
    let v = c.routine_site.new.waiting in
    let f = c.in_ok-found.found in
    let is : is_routine_kind node.kind ≡ true = ap is_routine_kind (sym c.kind.ensures.value) ∙ sym c.is_routine.ensures ∙ c.if-not-is_routine.false in
    let goes : GoesToBlock c.args.block.0 site c.args.list.now c.args.number c.args.head.now node s c.args.waiting.now f mid v = record {
      next = c.routines_come_in_order.ensures.next;
      order = c.stays_in_order.ensures;
      routine = is;
      proper = c.kind.ensures.proper;
      found = λ u ro r done beyond l fs next number key before. c.in_ok-found.ensures.found u ro r done beyond l fs next number (c.as_ref.ensures.value ∙ key) before;
      visits = c.in_ok-found.ensures.visits;
      begins = c.in_ok-found.ensures.domains;
      domains = refl;
      touched = refl;
      kept = refl;
    } in (
      omega (arith, c.decreases),
      (
        less-begins s.tables.names.chains mid.tables.names.chains c.args.block.0 c.in_ok-found.ensures.visits.chains c.requires.block,
        (is, some-within c.args.block.0 site c.args.list.now c.args.number c.args.head.now node s c.args.waiting.now f mid v goes c.requires.some),
      ),
    )

pub routine-returns : goal.routine-returns
routine-returns t c =
    let s = c.args.resolver.now in
    let node = c.args.node.now in
    let site = c.args.site.now in
    let mid : Resolver = record s { tables = c.routine_site.new.tables } in
    let v = c.routine_site.new.waiting in
    let f = c.in_ok-found.found in
    let goes : GoesToBlock c.args.block.0 site c.args.list.now c.args.number c.args.head.now node s c.args.waiting.now f mid v = record {
      next = c.routines_come_in_order.ensures.next;
      order = c.stays_in_order.ensures;
      routine = ap is_routine_kind (sym c.kind.ensures.value) ∙ sym c.is_routine.ensures ∙ c.if-not-is_routine.false;
      proper = c.kind.ensures.proper;
      found = λ u ro r done beyond l fs next number key before. c.in_ok-found.ensures.found u ro r done beyond l fs next number (c.as_ref.ensures.value ∙ key) before;
      visits = c.in_ok-found.ensures.visits;
      begins = c.in_ok-found.ensures.domains;
      domains = refl;
      touched = refl;
      kept = refl;
    } in
    record {
      found =
          resolves-routine c.args.block.0 site c.args.list.now c.args.number c.args.head.now node s c.args.waiting.now f mid v goes c.in_ok-below.below.0 c.routine_block.new.resolver c.in_ok-below.below.1
          (record { own = f.entries; inside = c.in_ok-inside.inside }) c.in_ok-below.ensures.found refl c.in_ok-inside.ensures;
    }

-- ---- the block of a routine in another one (R2)

pub routine_block-block-requires : goal.routine_block-block-requires
routine_block-block-requires t c =
    let part = c.in-Some.ensures.part (c.in-Some.number, c.in-Some.part) refl in
    let blocks = chain_of c.args.resolver.now.tables.names.chains c.args.around.0 in (
      omega (arith, part.smaller, c.decreases),
      (
        λ b e. subst (λ (x : BlockId). x.0 < length c.args.resolver.now.tables.names.chains) (same_Some c.args.around b e) c.requires.around,
        (part.is, some-block blocks c.args.site.now c.args.node.now c.in-Some.number c.in-Some.part.now c.args.resolver.now part c.requires.some),
      ),
    )

pub routine_block-returns-in_ok-found-in-Some : goal.routine_block-returns-in_ok-found-in-Some
routine_block-returns-in_ok-found-in-Some t c =
    let part = c.in-Some.ensures.part (c.in-Some.number, c.in-Some.part) refl in
    let blocks = chain_of c.args.resolver.now.tables.names.chains c.args.around.0 in
    record {
      found =
          within-block blocks c.args.site.now c.args.node.now c.in-Some.number c.in-Some.part.now c.args.resolver.now c.block.new.resolver c.in_ok-found-in-Some.found part c.in_ok-found-in-Some.ensures.found;
    }

pub routine_block-returns-in_ok-no_block-in-None : goal.routine_block-returns-in_ok-no_block-in-None
routine_block-returns-in_ok-no_block-in-None t c =
    let blocks = chain_of c.args.resolver.now.tables.names.chains c.args.around.0 in
    record {
      found =
          within-none blocks c.args.site.now c.args.node.now 1 c.args.resolver.now c.no_block.new.resolver c.no_entries.result c.in-None.ensures.none c.no_entries.ensures.own c.no_entries.ensures.inside c.in_ok-no_block-in-None.ensures;
    }

-- ---- a list of routines (R2)

pub block_routines-loop-rest-init : goal.block_routines-loop-rest-init
block_routines-loop-rest-init t c =
    let s = c.args.resolver.now in
    let site = c.args.site.now in
    let mid : Resolver = record s { tables = c.heads.new.tables } in
    let headings = c.as_slice-headings.result.now in
    walking-start c.args.block.0 site c.args.number c.args.list.now (site.place ++ c.args.number ∷ 4 ∷ []) c.kid_slice-rest.result.now headings s mid c.new-waiting.result c.new-own.result.items c.new-inside.result.items
    c.kid_slice-rest.ensures.proper c.requires.list c.requires.block c.stays_in_order.ensures c.in_ok-heads.ensures.keeps refl refl refl refl c.kid_slice-rest.ensures.value
    (subst (λ (xs : List RoutineHead). ShowsHeads mid.tables.names.texts xs (headings_in c.args.list.now.kids)) (sym c.as_slice-headings.ensures.value) c.in_ok-heads.ensures.shows) (c.new-waiting.ensures mid.tables)
    c.new-own.ensures.items c.new-inside.ensures.items

pub block_routines-unreachable-requires : goal.block_routines-unreachable-requires
block_routines-unreachable-requires t c =
    never-heads c.loop-rest.resolver.tables.names.texts c.loop-rest.headings.now c.loop-rest.rest.now ⊥ c.in_default-headings.len_below c.in-len1-up.len_at_least c.loop-rest.invariant.heads

pub block_routines-routine-requires : goal.block_routines-routine-requires
block_routines-routine-requires t c =
    let site = c.args.site.now in
    let s = c.args.resolver.now in
    let list = c.args.list.now in
    let place = c.in_ok-place.place in
    let mid = c.loop-rest.resolver in
    let node = c.kid-item.result in
    let rest = c.loop-rest.rest.now in
    let headings = c.loop-rest.headings.now in
    let d : RoutineHead = record { name = None; is_function = false; is_forward = false; has_later = false } in
    let x = get_or headings 0 d in
    let behind = take (length rest - 1) (drop 1 rest) in
    let more = take (length headings - 1) (drop 1 headings) in
    let h : Walking c.args.block.0 site c.args.number list place (node ∷ behind) (x ∷ more) c.loop-rest.count s c.loop-rest.waiting mid c.loop-rest.own.items c.loop-rest.inside.items =
    walking-split c.args.block.0 site c.args.number list (site.place ++ c.args.number ∷ 4 ∷ []) place rest node headings d c.loop-rest.count s c.loop-rest.waiting mid c.loop-rest.own.items c.loop-rest.inside.items
    c.in_ok-place.ensures c.in-len1-up.len_at_least c.in-len1-up-headings.len_at_least c.kid-item.is c.loop-rest.invariant in (
      omega (arith, h.smaller.0, c.decreases),
      (
        h.there,
        (
          head-there mid.tables.names.texts x (heading_of node.kind node.kids) h.heads.0,
          (
            h.listed.0,
            some-tree c.args.block.0 site c.args.number list place node behind x more c.loop-rest.count s c.loop-rest.waiting mid c.loop-rest.own.items c.loop-rest.inside.items h c.in_ok-count.count c.in_ok-count.ensures
                c.requires.some,
          ),
        ),
      ),
    )

pub block_routines-loop-rest-preserved : goal.block_routines-loop-rest-preserved
block_routines-loop-rest-preserved t c =
    let site = c.args.site.now in
    let s = c.args.resolver.now in
    let list = c.args.list.now in
    let place = c.in_ok-place.place in
    let mid = c.loop-rest.resolver in
    let node = c.kid-item.result in
    let rest = c.loop-rest.rest.now in
    let headings = c.loop-rest.headings.now in
    let d : RoutineHead = record { name = None; is_function = false; is_forward = false; has_later = false } in
    let x = get_or headings 0 d in
    let behind = take (length rest - 1) (drop 1 rest) in
    let more = take (length headings - 1) (drop 1 headings) in
    let new = c.routine.new.resolver in
    let v = c.routine.new.waiting in
    let h : Walking c.args.block.0 site c.args.number list place (node ∷ behind) (x ∷ more) c.loop-rest.count s c.loop-rest.waiting mid c.loop-rest.own.items c.loop-rest.inside.items =
    walking-split c.args.block.0 site c.args.number list (site.place ++ c.args.number ∷ 4 ∷ []) place rest node headings d c.loop-rest.count s c.loop-rest.waiting mid c.loop-rest.own.items c.loop-rest.inside.items
    c.in_ok-place.ensures c.in-len1-up.len_at_least c.in-len1-up-headings.len_at_least c.kid-item.is c.loop-rest.invariant in
    walking-at c.args.block.0 site c.args.number list (site.place ++ c.args.number ∷ 4 ∷ []) place behind more c.in_ok-count.count s v new c.add_kid.new.entries.items c.add_all.new.entries.items c.in_ok-place.ensures
    (walking-step c.args.block.0 site c.args.number list place node behind x more c.loop-rest.count s c.loop-rest.waiting mid c.loop-rest.own.items c.loop-rest.inside.items h c.in_ok-count.count c.in_ok-count.ensures v new
    c.in_ok-found.found c.in_ok-found.ensures.found c.routines_come_in_order.ensures c.bodies_stand_behind_declarations.ensures c.inner_routines_touch.ensures c.logs_say_what_is_touched.ensures c.requires.some
    c.add_kid.new.entries.items c.add_all.new.entries.items c.in_ok-add_kid.ensures c.in_ok-add_all.ensures)

pub block_routines-returns : goal.block_routines-returns
block_routines-returns t c =
    let site = c.args.site.now in
    record {
      found =
          walking-end c.args.block.0 site c.args.number c.args.list.now (site.place ++ c.args.number ∷ 4 ∷ []) c.loop-rest.rest.now c.loop-rest.headings.now c.loop-rest.count c.args.resolver.now c.loop-rest.waiting
          c.loop-rest.resolver (record { own = c.loop-rest.own; inside = c.loop-rest.inside }) c.in_default.len_below c.loop-rest.invariant;
    }
