use Rattle.std.proofs.Common.{◌∷◌, [], ◌∙◌, sym, ap}
use Rattle.std.specs.Prelude.{if◌then◌else◌, List, Bool, option_map}
use Rattle.pc_syntax.specs.Words.{lowered}
use Rattle.pc_types.specs.Rows.{seen}
use Rattle.pc_types.specs.Table.{place_at}
use Rattle.pc_rules.specs.Attributes.{Entry}
use Rattle.pc_rules.specs.Denoters.{domain_entries, pointer_to, is_later_type}
use Rattle.pc_rules.specs.HandedOn.{any_hole, all_defines}
use Rattle.pc_type_rules.proofs.NodeSteps.{or-false, one-kid}
use Rattle.pc_type_rules.proofs.pointers.pointer.Goals as goal

pub returns-clause-shows : goal.returns-clause-shows
returns-clause-shows c = λ k w l a table def h there place entries.
    c.denoter.ensures (record k { table = seen c.pointer_type.new.types }) w (any_hole (a ∷ [])) _ (pointer_to l (lowered a.at.word) a.at.found) (all_defines (a ∷ []))
    (or-false a.at.hole ∙ h.is_hole ∙ sym h.hole)
    (one-kid (domain_entries a) _ _ _ c.new-entries.ensures.items
    (c.unless.ensures ∙ ap (λ (b : Bool). let es : List Entry = (if b then [] else c.args.below.items) in es) (c.is_later-later.ensures k (lowered a.at.word) a.at.found h.found)
    ∙ ap (λ (es : List Entry). let fs : List Entry = (if is_later_type a.at.found then [] else es) in fs) entries)
    c.in_ok-add_kid.ensures)
    (c.in_ok-whole.ensures.shows l (lowered a.at.word) a.at.found def (ap (λ v. option_map (place_at (seen c.args.types.now)) v) (c.where_there-known.ensures.same there) ∙ place))
