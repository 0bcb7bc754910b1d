-- What stands in the list of a block's routines: lemmas.
use Rattle.std.specs.Prelude.{not}
use Rattle.std.proofs.Common.{◌≡◌, Bool, true, false, ◌||◌, List, [], ◌∷◌, refl, ap, sym, ◌∙◌, subst, true≢false}
use Rattle.pc_forms.specs.FormClasses.{Every}
use Rattle.pc_syntax.specs.Classes.{has}
use Rattle.pc_syntax.specs.Layout.{layout}
use Rattle.pc_syntax.specs.Plain.{Forest, Nil, Cons, Plain, kids_of, forest_of, trees_of, count, kinds}
use Rattle.pc_syntax.specs.PartsLaws.{forest_of-kids_of, kids_of-is}
use Rattle.pc_syntax.specs.WellFormed.{IsProper, WellFormed, fits_some}
use Rattle.pc_syntax.specs.declared.class.Class.{Class}
use Rattle.pc_syntax.specs.declared.class.Class.TheVariants as class
use Rattle.pc_syntax.specs.declared.kind.Kind.{Kind}
use Rattle.pc_syntax.specs.declared.kind.Kind.TheVariants as kind
use Rattle.pc_rules.specs.OwnBlock.{own}
use Rattle.pc_needs.proofs.BodyKinds.{either-way, Passes, node-takes, row-passes}
use Rattle.pc_program_laws.specs.Routines.{OwnBlockLaw}
use Rattle.pc_program_laws.specs.Unsigned.{AllOfKind, UnsignedLaw, declarations_of, is_declaring}
use Rattle.pc_resolve.proofs.ListPlaces.{is_listed}
use Rattle.pc_resolve.proofs.OwnParts.{own_list, own-five}

element-listed : (k : Kind) → (is_listed k || not (has class.Routine k)) ≡ true
element-listed (kind.Hole s) = refl
element-listed _ = refl

abbrev is_element : Class → Bool
is_element class.Routine = true
is_element _ = false

class-listed : (c : Class) (k : Kind) → is_element c ≡ true → has c k ≡ true → is_listed k ≡ true
class-listed class.Routine k e h = either-way (is_listed k) (has class.Routine k) (element-listed k) h
class-listed _ k e h = absurd (true≢false (sym e))

own-listed : (f : Forest) → Passes is_listed f → Every (λ u. is_listed u.kind ≡ true) (trees_of (own f))
unfolding own
own-listed Nil p = tt
own-listed (Cons k w ns ks ts) p = (p.0, own-listed ts p.1)

-- each tree in it is a routine or a hole
pub all-listed : (node a b c d e : Plain) → IsProper node → kids_of node ≡ a ∷ b ∷ c ∷ d ∷ e ∷ [] → d.kind ≡ kind.Routines → Every (λ u. is_listed u.kind ≡ true) (kids_of (own_list d))
all-listed node a b c d e proper five is =
    let trees : node.kids ≡ forest_of (a ∷ b ∷ c ∷ d ∷ e ∷ []) = sym (forest_of-kids_of node) ∙ ap forest_of five in
    let sound : WellFormed (forest_of (a ∷ b ∷ c ∷ d ∷ e ∷ [])) = subst WellFormed trees proper.sound.3 in
    let fits : fits_some (layout kind.Routines d.word (count d.kids)) (kinds d.kids) ≡ true =
    subst (λ (k : Kind). fits_some (layout k d.word (count d.kids)) (kinds d.kids) ≡ true) is sound.4.4.4.0 in
    subst (λ (ts : List Plain). Every (λ u. is_listed u.kind ≡ true) ts) (sym (kids_of-is (own_list d)))
    (own-listed d.kids (row-passes is_listed is_element class-listed kind.Routines 0 d.kids refl (node-takes kind.Routines d.word d.kids fits)))

-- and all nodes in it are of declarations
pub list-declaring : UnsignedLaw → OwnBlockLaw → (node a b c d e : Plain) → node.kind ≡ kind.Block → IsProper node → kids_of node ≡ a ∷ b ∷ c ∷ d ∷ e ∷ [] → AllOfKind is_declaring (Cons d.kind d.word d.notes (own d.kids) Nil)
list-declaring law block node a b c d e is proper five =
    let fits : fits_some (layout kind.Block node.word (count node.kids)) (kinds node.kids) ≡ true =
    subst (λ (k : Kind). fits_some (layout k node.word (count node.kids)) (kinds node.kids) ≡ true) is proper.sound.0 in
    let declaring : AllOfKind is_declaring (declarations_of (forest_of (a ∷ b ∷ c ∷ own_list d ∷ e ∷ []))) =
    subst (λ (f : Forest). AllOfKind is_declaring (declarations_of f)) (own-five block node a b c d e is proper five) (law.declaring node.word node.kids fits proper.sound.3) in
    declaring.2.2.2
