use Rattle.std.proofs.Common.{◌≡◌, sym, ◌∙◌, rules}
use Rattle.std.proofs.lemmas.Cmp.{nat_list_cmp_total}
use Rattle.std.specs.FinMap.{get-from_entries}
use Rattle.pc_world.proofs.memory_shelf.MemShelfShelf.get.Goals as goal

pub returns-in-Ok-clause-answer : goal.returns-in-Ok-clause-answer
returns-in-Ok-clause-answer c =
    let files = c.args.self.now.files.items in
    let name = c.args.name.now in
    let found = rw (c.deref.ensures.value, c.as_bytes.ensures.value) at c.in-Some.ensures in
    let bytes : c.in-Ok.bytes.items ≡ c.bytes.result.now = search rules in
    let file = rw (← c.index.ensures, ← c.bytes.ensures, ← bytes) at (found.1 c.index.result.now) in
    sym (get-from_entries nat_list_cmp_total files name ∙ file)

pub returns-in-None-clause-answer : goal.returns-in-None-clause-answer
returns-in-None-clause-answer c =
    let files = c.args.self.now.files.items in
    let name = c.args.name.now in
    let none = rw (c.deref.ensures.value, c.as_bytes.ensures.value) at c.in-None.ensures in
    sym (get-from_entries nat_list_cmp_total files name ∙ none)
