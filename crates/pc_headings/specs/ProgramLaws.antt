-- The heading of the program: lemmas.
use Rattle.std.proofs.Common.{◌≡◌, ℕ, ◌+◌, suc, Bool, not, ◌&&◌, List, [], ◌∷◌, ◌++◌, length, codes, true, refl, ap, sym, ◌∙◌}
use Rattle.pc_syntax.specs.Classes.{has, is_program}
use Rattle.pc_syntax.specs.Plain.{Forest, Plain, forest_of, kids_of}
use Rattle.pc_syntax.specs.PartsLaws.{forest_of-kids_of}
use Rattle.pc_syntax.specs.Sorts.{is_hole}
use Rattle.pc_syntax.specs.WellFormed.{IsProper}
use Rattle.pc_syntax.specs.Words.{lowered}
use Rattle.pc_syntax.specs.declared.class.Class.TheVariants as class
use Rattle.pc_syntax.specs.declared.kind.Kind.{Kind}
use Rattle.pc_syntax.specs.declared.kind.Kind.TheVariants as kind
use Rattle.pc_syntax.specs.declared.sort.Sort.{Sort}
use Rattle.pc_scope.specs.Required.{is_required_file}
use Rattle.pc_types.specs.Shapes.{Owner}
use Rattle.pc_forms.specs.Form.{form_from, form_of, nothing}
use Rattle.pc_forms.specs.declared.form.Form.TheVariants as form
use Rattle.pc_rules.specs.Attributes.{Node, Entry, nodes, at_kid, each_kid, kids_below}
use Rattle.pc_rules.specs.Decorated.{decorate}
use Rattle.pc_rules.specs.Entries.{note_if, quoted}
use Rattle.pc_rules.specs.Headings.{entries_of_heading, program_parameter_entries}
use Rattle.pc_rules.specs.Meanings.{Found, Local, Outside}
use Rattle.pc_rules.specs.OwnBlock.{heading_part}
use Rattle.pc_rules.specs.Routines.{bare, heading_start}
use Rattle.pc_environment.specs.Decorating.{place_behind, marks_of}
use Rattle.pc_headings.specs.AtLaws.{first_place, at-kind, at-word, kids-at, kids-form}
use Rattle.pc_headings.specs.HeadLaws.{heads-at}
use Rattle.pc_headings.specs.Headed.{marks_in}
use Rattle.pc_headings.specs.NameListLaws.{named_nodes-more, length-named}
use Rattle.pc_headings.specs.Listing.{named_node, named_nodes}
use Rattle.pc_headings.specs.Parts.{HasHeads}
use Rattle.pc_headings.specs.RowLaws.{each-end}

-- one name more
pub files-more : (ts : List Plain) (t : Plain) (i : ℕ) (had own has : List Entry) → i ≡ 1 + length ts → had ≡ each_kid program_parameter_entries 1 (named_nodes ts) → own ≡ program_parameter_entries (named_node t) →
    has ≡ had ++ at_kid i own → has ≡ each_kid program_parameter_entries 1 (named_nodes (ts ++ t ∷ []))
files-more ts t i had own has number before one grown =
    grown
    ∙ ap (λ (es : List Entry). es ++ at_kid i own) before
    ∙ ap (λ (es : List Entry). each_kid program_parameter_entries 1 (named_nodes ts) ++ at_kid i es) one
    ∙ ap (λ (j : ℕ). each_kid program_parameter_entries 1 (named_nodes ts) ++ at_kid j (program_parameter_entries (named_node t))) (number ∙ ap (λ (n : ℕ). 1 + n) (sym (length-named ts)))
    ∙ sym (each-end program_parameter_entries 1 (named_nodes ts) (named_node t))
    ∙ ap (each_kid program_parameter_entries 1) (sym (named_nodes-more ts t))

files-at : (out : Outside) (l : Local) (i : ℕ) (ts : List Plain) → each_kid program_parameter_entries i (named_nodes ts) ≡ each_kid program_parameter_entries i (nodes (marks_of out l ts))
files-at out l i [] = refl
files-at out l i (t ∷ ts) =
    ap (λ (es : List Entry). at_kid i (program_parameter_entries (named_node t)) ++ es) (files-at out (place_behind out l t) (suc i) ts)
    ∙ sym (λ j. at_kid i (note_if (not (is_hole (at-kind out l t j)) && not (is_required_file (lowered (at-word out l t j)))) 25 (quoted (codes "program parameter") (at-word out l t j)))
    ++ each_kid program_parameter_entries (suc i) (nodes (marks_of out (place_behind out l t) ts)))

heads-kind : (k : Kind) → has class.Heads k ≡ true → k ≡ kind.Heads
heads-kind kind.Heads e = refl
heads-kind k e = cc

-- the program's heading
pub program-entries : (means : List ℕ → Found) (o : Owner) (later : Bool) (t heads : Plain) (own es : List Entry) → HasHeads t heads → own ≡ each_kid program_parameter_entries 1 (named_nodes (kids_of heads)) →
    es ≡ at_kid 2 own → es ≡ entries_of_heading kind.Program later (marks_in means o t)
program-entries means o later t heads own es parts told grown =
    let out = bare means in
    let l = place_behind out (heading_start o) parts.name in
    grown
    ∙ ap (at_kid 2) (told ∙ files-at out (first_place l kind.Heads (kids_of heads)) 1 (kids_of heads) ∙ ap (each_kid program_parameter_entries 1) (sym (kids-at out l heads kind.Heads (heads-kind heads.kind parts.heads_are))))
    ∙ ap (λ (n : Node). at_kid 2 (each_kid program_parameter_entries 1 (kids_below n))) (sym (heads-at means o t parts.name heads parts.rest parts.kids parts.name_is parts.heads_are))

-- what is no program is a hole
pub program-hole-kind : (k : Kind) → is_program k ≡ true → (k ≡ kind.Program → ⊥) → (s : Sort) × (k ≡ kind.Hole s)
program-hole-kind kind.Program is program = absurd (program refl)
program-hole-kind (kind.Hole s) is program = (s, refl)
program-hole-kind k is program = cc

hole-form : (t : Plain) (s : Sort) → t.kind ≡ kind.Hole s → form.Hole s ≡ form_of t
unfolding form_of
hole-form t s e = sym (λ i. form_from (e i) t.word (kids_of t) nothing)

none-by : (means : List ℕ → Found) (o : Owner) (later : Bool) (f : Forest) → f ≡ forest_of [] → [] ≡ entries_of_heading kind.Program later (decorate (bare means) (heading_start o) (heading_part f))
unfolding decorate
none-by means o later f e = sym (ap (λ (g : Forest). entries_of_heading kind.Program later (decorate (bare means) (heading_start o) (heading_part g))) e)

pub program-none : (means : List ℕ → Found) (o : Owner) (later : Bool) (t : Plain) (s : Sort) → IsProper t → t.kind ≡ kind.Hole s → [] ≡ entries_of_heading kind.Program later (marks_in means o t)
program-none means o later t s proper e = none-by means o later t.kids (sym (forest_of-kids_of t) ∙ ap forest_of (kids-form t (form.Hole s) proper (hole-form t s e)))
