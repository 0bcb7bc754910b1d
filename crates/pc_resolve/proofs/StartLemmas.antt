-- Where the list of the routines of a block begins: lemmas.
use Rattle.std.proofs.Common.{◌≡◌, ℕ, true, if◌then◌else◌, List, [], ◌∷◌, ◌++◌, ap, sym, ◌∙◌, subst}
use Rattle.pc_syntax.specs.Layout.{layout}
use Rattle.pc_syntax.specs.Plain.{Forest, Nil, Cons, Plain, kids_of, forest_of, count, kinds}
use Rattle.pc_syntax.specs.PartsLaws.{forest_of-kids_of}
use Rattle.pc_syntax.specs.WellFormed.{IsProper, fits_some}
use Rattle.pc_syntax.specs.declared.kind.Kind.{Kind}
use Rattle.pc_syntax.specs.declared.kind.Kind.TheVariants as kind
use Rattle.pc_scope.specs.Blocks.{block_kids, kid_count, routines_among}
use Rattle.pc_scope.specs.Headings.{is_routine_kind}
use Rattle.pc_rules.specs.Attributes.{first}
use Rattle.pc_rules.specs.Decorated.{decorate}
use Rattle.pc_rules.specs.Meanings.{Found, Local}
use Rattle.pc_rules.specs.Outsides.{outside_of}
use Rattle.pc_rules.specs.OwnBlock.{bare_heading, own}
use Rattle.pc_rules.specs.Places.{inner, beside}
use Rattle.pc_rules.specs.RoutineList.{key_of, routines_in, routines_below}
use Rattle.pc_rules.specs.Routines.{Routine, bare, start_of}
use Rattle.pc_environment.specs.Decorating.{place_behind, place_after}
use Rattle.pc_program_laws.specs.Routines.{InsideRoutinesLaw, OwnBlockLaw, behind_first, has_heading, routines_start}
use Rattle.pc_program_laws.specs.Unsigned.{AllOfKind, UnsignedLaw, declarations_of, is_declaring}
use Rattle.pc_resolve.proofs.OwnParts.{own_list, own-five}

abbrev first_kids : Forest → Forest
first_kids Nil = Nil
first_kids (Cons k w ns ks ts) = ks

abbrev others : Forest → Forest
others Nil = Nil
others (Cons k w ns ks ts) = ts

-- a tree among others stands in its own block with these kids
abbrev own_kids : Plain → Forest
own_kids t = if is_routine_kind t.kind then bare_heading t.kids else own t.kids

-- the first three trees of a block stand in its own block as they are
own-first : (a b c d e : Plain) → own (forest_of (a ∷ b ∷ c ∷ d ∷ e ∷ [])) ≡ forest_of (a ∷ b ∷ c ∷ own_list d ∷ e ∷ []) → own_kids a ≡ a.kids
unfolding own
own-first a b c d e h = ap first_kids h

own-second : (a b c d e : Plain) → own (forest_of (a ∷ b ∷ c ∷ d ∷ e ∷ [])) ≡ forest_of (a ∷ b ∷ c ∷ own_list d ∷ e ∷ []) → own_kids b ≡ b.kids
unfolding own
own-second a b c d e h = ap (λ (f : Forest). first_kids (others f)) h

own-third : (a b c d e : Plain) → own (forest_of (a ∷ b ∷ c ∷ d ∷ e ∷ [])) ≡ forest_of (a ∷ b ∷ c ∷ own_list d ∷ e ∷ []) → own_kids c ≡ c.kids
unfolding own
own-third a b c d e h = ap (λ (f : Forest). first_kids (others (others f))) h

-- behind a tree that stands there as it is
behind-same : (m : List ℕ → Found) (l : Local) (t : Plain) → own_kids t ≡ t.kids → behind_first m l t.kind t.word t.notes t.kids ≡ place_behind (bare m) l t
unfolding own
behind-same m l t h = ap (λ (ks : Forest). beside l t.kind (first (decorate (bare m) l (Cons t.kind t.word t.notes ks Nil)))) h

-- the first routine of a block stands behind its first three trees
pub routines-start : (m : List ℕ → Found) (l : Local) (a b c d e : Plain) → own (forest_of (a ∷ b ∷ c ∷ d ∷ e ∷ [])) ≡ forest_of (a ∷ b ∷ c ∷ own_list d ∷ e ∷ []) →
    routines_start m l (forest_of (a ∷ b ∷ c ∷ d ∷ e ∷ [])) ≡ inner (place_after (bare m) l (a ∷ b ∷ c ∷ [])) d.kind d.kids
routines-start m l a b c d e h =
    let l1 = behind-same m l a (own-first a b c d e h) in
    let l2 = ap (λ (p : Local). behind_first m p b.kind b.word b.notes b.kids) l1 ∙ behind-same m (place_behind (bare m) l a) b (own-second a b c d e h) in
    let l3 =
    ap (λ (p : Local). behind_first m p c.kind c.word c.notes c.kids) l2
    ∙ behind-same m (place_behind (bare m) (place_behind (bare m) l a) b) c (own-third a b c d e h) in
    ap (λ (p : Local). inner p d.kind d.kids) l3

first-three : (a b c d e : Plain) → AllOfKind is_declaring (declarations_of (forest_of (a ∷ b ∷ c ∷ own_list d ∷ e ∷ []))) → AllOfKind is_declaring (forest_of (a ∷ b ∷ c ∷ []))
first-three a b c d e h = (h.0, h.1, (h.2.0, h.2.1, (h.2.2.0, h.2.2.1, tt)))

-- behind declarations stands the same, whatever is said of routines
pub same-place : UnsignedLaw → OwnBlockLaw → (all : List Routine) (r : Routine) (l : Local) (node a b c d e : Plain) → node.kind ≡ kind.Block → IsProper node → kids_of node ≡ a ∷ b ∷ c ∷ d ∷ e ∷ [] →
    place_after (bare r.means) l (a ∷ b ∷ c ∷ []) ≡ place_after (outside_of all r) l (a ∷ b ∷ c ∷ [])
same-place law block all r l node a b c d e is proper five =
    let fits : fits_some (layout kind.Block node.word (count node.kids)) (kinds node.kids) ≡ true =
    subst (λ (k : Kind). fits_some (layout k node.word (count node.kids)) (kinds node.kids) ≡ true) is proper.sound.0 in
    let declaring : AllOfKind is_declaring (declarations_of (forest_of (a ∷ b ∷ c ∷ own_list d ∷ e ∷ []))) =
    subst (λ (f : Forest). AllOfKind is_declaring (declarations_of f)) (own-five block node a b c d e is proper five) (law.declaring node.word node.kids fits proper.sound.3) in
    (law.row (bare r.means) (outside_of all r) l (a ∷ b ∷ c ∷ []) (first-three a b c d e declaring) (law.outsides all r).0).1

-- the routines inside a routine are those of its block's list, from where that begins
pub inside-list : InsideRoutinesLaw → OwnBlockLaw → (r : Routine) (x node a b c d e : Plain) (number : ℕ) → has_heading x.kind ≡ true → IsProper x → block_kids x.kids ≡ node.kids → kid_count x.kids ≡ number →
    node.kind ≡ kind.Block → IsProper node → kids_of node ≡ a ∷ b ∷ c ∷ d ∷ e ∷ [] → d.kind ≡ kind.Routines →
    routines_below r 1 x.kids ≡ routines_in r.means (inner (place_after (bare r.means) (start_of r) (a ∷ b ∷ c ∷ [])) kind.Routines d.kids) [] (r.place ++ number ∷ 4 ∷ []) (key_of r.owner) d.kids
inside-list law block r x node a b c d e number heading sound kids count_is is proper five routines =
    let m = r.means in
    let l = start_of r in
    let trees : node.kids ≡ forest_of (a ∷ b ∷ c ∷ d ∷ e ∷ []) = sym (forest_of-kids_of node) ∙ ap forest_of five in
    let whole : own (forest_of (a ∷ b ∷ c ∷ d ∷ e ∷ [])) ≡ forest_of (a ∷ b ∷ c ∷ own_list d ∷ e ∷ []) = ap own (sym trees) ∙ own-five block node a b c d e is proper five in
    law r x.kind x.word x.kids heading sound.sound.0 sound.sound.3
    ∙ ap (λ (f : Forest). routines_in m (routines_start m l f) [] (r.place ++ kid_count x.kids ∷ 4 ∷ []) (key_of r.owner) (routines_among f)) (kids ∙ trees)
    ∙ ap (λ (p : Local). routines_in m p [] (r.place ++ kid_count x.kids ∷ 4 ∷ []) (key_of r.owner) d.kids)
    (routines-start m l a b c d e whole ∙ ap (λ (k : Kind). inner (place_after (bare m) l (a ∷ b ∷ c ∷ [])) k d.kids) routines)
    ∙ ap (λ (n : ℕ). routines_in m (inner (place_after (bare m) l (a ∷ b ∷ c ∷ [])) kind.Routines d.kids) [] (r.place ++ n ∷ 4 ∷ []) (key_of r.owner) d.kids) count_is
