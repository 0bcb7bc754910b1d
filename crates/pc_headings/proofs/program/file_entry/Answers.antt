use Rattle.std.proofs.Common.{ℕ, Bool, not, ◌&&◌, List, ◌++◌, codes, ap, ◌∙◌}
use Rattle.pc_syntax.specs.Sorts.{is_hole}
use Rattle.pc_syntax.specs.Words.{lowered}
use Rattle.pc_scope.specs.Required.{is_required_file}
use Rattle.pc_rules.specs.Attributes.{Entry}
use Rattle.pc_rules.specs.Entries.{note_if, quoted}
use Rattle.pc_headings.proofs.program.file_entry.Goals as goal

pub returns : goal.returns
returns c =
    let w = c.word-word.result.now in
    let text : Bool → List ℕ → List Entry = λ b v. note_if b 25 (quoted (codes "program parameter") v) in
    c.in_ok-add_note_if.ensures
    ∙ ap (λ (es : List Entry). es ++ text c.both.result w) c.new-entries.ensures.items
    ∙ ap (λ (b : Bool). text b w) (c.both.ensures ∙ ap (λ (b : Bool). not b && not c.is_required_file-is_required.result) (c.is_hole-is_hole.ensures ∙ ap is_hole c.kind.ensures.value))
    ∙ ap (λ (b : Bool). text (not (is_hole c.args.node.now.kind) && not b) w) c.is_required_file-is_required.ensures
    ∙ ap (λ (v : List ℕ). text (not (is_hole c.args.node.now.kind) && not (is_required_file (lowered v))) v) c.word-word.ensures
