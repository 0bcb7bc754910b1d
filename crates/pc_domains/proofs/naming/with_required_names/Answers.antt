use Rattle.std.proofs.Common.{List, [], ◌∷◌, ◌++◌, ap, ◌∙◌}
use Rattle.pc_names.specs.declared.id.NameId.{NameId}
use Rattle.pc_domains.specs.NamingLaws.{OnlyNames-then, names-with}
use Rattle.pc_domains.proofs.naming.with_required_names.Goals as goal

pub returns-clause-shows : goal.returns-clause-shows
returns-clause-shows c = λ ns h.
    let integer = c.in_ok-integer.integer in
    let boolean = c.in_ok-boolean.boolean in
    let char_type = c.in_ok-char_type.char_type in
    let is = c.in_ok-push-3.ensures.items ∙ ap (λ (ids : List NameId). ids ++ char_type ∷ []) (c.in_ok-push-2.ensures.items ∙ ap (λ (ids : List NameId). ids ++ boolean ∷ []) c.in_ok-push.ensures.items) in
    let all = names-with c.args.tables.now c.numbered.new.tables c.numbered-2.new.tables c.numbered-3.new.tables ns c.args.ids.items c.push-3.new.self.items
    (record { integer = integer; boolean = boolean; char_type = char_type }) c.in_ok-integer.ensures.names c.in_ok-boolean.ensures.names c.in_ok-char_type.ensures.names h
    c.in_ok-integer.ensures.number c.in_ok-boolean.ensures.number c.in_ok-char_type.ensures.number is in
    record { numbers = all.0; required = all.1; there = all.2 }

pub returns-clause-names : goal.returns-clause-names
returns-clause-names c =
    OnlyNames-then c.args.tables.now c.numbered-2.new.tables c.numbered-3.new.tables
    (OnlyNames-then c.args.tables.now c.numbered.new.tables c.numbered-2.new.tables c.in_ok-integer.ensures.names c.in_ok-boolean.ensures.names) c.in_ok-char_type.ensures.names
