-- A tree in the list of the routines of a block, and what stands behind it: lemmas.
use Rattle.std.proofs.Common.{◌≡◌, ℕ, suc, Bool, true, false, if◌then◌else◌, List, [], ◌++◌, refl, ap, sym, ◌∙◌}
use Rattle.pc_syntax.specs.Classes.{is_routine}
use Rattle.pc_syntax.specs.Plain.{Forest, Nil, Plain, trees_of}
use Rattle.pc_syntax.specs.WellFormed.{IsProper}
use Rattle.pc_syntax.specs.declared.kind.Kind.{Kind}
use Rattle.pc_syntax.specs.declared.kind.Kind.TheVariants as kind
use Rattle.pc_scope.specs.Headings.{is_routine_kind}
use Rattle.pc_rules.specs.Attributes.{Attributes, Mark, Marked, at_kid, first, nodes}
use Rattle.pc_rules.specs.Decorated.{Seen, decorate, rule, seen}
use Rattle.pc_rules.specs.HandedOn.{kid_entries}
use Rattle.pc_rules.specs.Meanings.{Local, Outside}
use Rattle.pc_rules.specs.OwnBlock.{bare_heading, own}
use Rattle.pc_rules.specs.Places.{beside}
use Rattle.pc_rules.specs.RoutineList.{NoRoutine, part_of}
use Rattle.pc_rules.specs.Routines.{Routine, bare}
use Rattle.pc_environment.specs.Decorating.{attributes_at, below_at, place_behind, place_after}
use Rattle.pc_environment.specs.DecoratingLaws.{at-node}
use Rattle.pc_routines.specs.Bare.{bare_routine}
use Rattle.pc_routines.specs.RoutineLaws.{defines-at}
use Rattle.pc_resolve.specs.Lists.{behind_here, led_by, own_tree}

-- ---- in its own block

own-alone : (t : Plain) → own (led_by t Nil) ≡ led_by (own_tree t) Nil
unfolding own
own-alone t = refl

pub own-led : (t : Plain) (ts : Forest) → own (led_by t ts) ≡ led_by (own_tree t) (own ts)
unfolding own
own-led t ts = refl

-- a routine stands there without its block
pub own-bare : (t : Plain) → is_routine_kind t.kind ≡ true → own_tree t ≡ bare_routine t
own-bare t e = ap (λ (b : Bool). record { kind = t.kind; word = t.word; notes = t.notes; kids = if b then bare_heading t.kids else own t.kids }) e

-- what stands behind it
pub behind-own : (r : Routine) (l : Local) (t : Plain) → behind_here r.means l t ≡ place_behind (bare r.means) l (own_tree t)
behind-own r l t = ap (λ (f : Forest). beside l t.kind (first (decorate (bare r.means) l f))) (own-alone t)

pub after-led : (out : Outside) (l : Local) (t : Plain) (ts : Forest) → place_after out l (trees_of (own (led_by t ts))) ≡ place_after out (place_behind out l (own_tree t)) (trees_of (own ts))
after-led out l t ts = ap (λ (f : Forest). place_after out l (trees_of f)) (own-led t ts)

-- ---- a routine or a hole opens nothing

opens-by : (l : Local) (k : Kind) (w : List ℕ) (s : Seen) (m : Marked) → is_routine k ≡ true → (rule l k w s m).opens ≡ []
unfolding rule
opens-by l kind.Procedure w s m r = refl
opens-by l kind.Function w s m r = refl
opens-by l kind.Funbody w s m r = refl
opens-by l (kind.Hole x) w s m r = refl
opens-by l k w s m r = cc

pub opens-none : (out : Outside) (l : Local) (t : Plain) → is_routine t.kind ≡ true → (attributes_at out l t).opens ≡ []
opens-none out l t r = ap (λ (a : Attributes). a.opens) (at-node out l t) ∙ opens-by l t.kind t.word (seen out l t.kind t.word) (below_at out l t) r

-- ---- so the same stands behind it, whatever is around

same-beside : (l : Local) (k : Kind) (a b : Attributes) → is_routine_kind k ≡ true → a.defines ≡ b.defines → a.opens ≡ b.opens → beside l k a ≡ beside l k b
same-beside l kind.Procedure a b r d o = λ i. beside l kind.Procedure (record a { defines = d i; opens = o i })
same-beside l kind.Function a b r d o = λ i. beside l kind.Function (record a { defines = d i; opens = o i })
same-beside l kind.Funbody a b r d o = λ i. beside l kind.Funbody (record a { defines = d i; opens = o i })
same-beside l k a b r d o = cc

hole-beside : (l : Local) (k : Kind) (a b : Attributes) → is_routine k ≡ true → is_routine_kind k ≡ false → a.opens ≡ b.opens → beside l k a ≡ beside l k b
hole-beside l (kind.Hole x) a b r e o = λ i. beside l (kind.Hole x) (record a { opens = o i })
hole-beside l k a b r e o = cc

bare-behind : (a b : Outside) (l : Local) (t : Plain) → is_routine t.kind ≡ true → is_routine_kind t.kind ≡ true → IsProper t → place_behind a l (bare_routine t) ≡ place_behind b l (bare_routine t)
bare-behind a b l t r e proper =
    let u = bare_routine t in
    same-beside l t.kind (attributes_at a l u) (attributes_at b l u) e (defines-at a l t e proper ∙ sym (defines-at b l t e proper)) (opens-none a l u r ∙ sym (opens-none b l u r))

pub same-behind : (a b : Outside) (l : Local) (t : Plain) → is_routine t.kind ≡ true → IsProper t → place_behind a l (own_tree t) ≡ place_behind b l (own_tree t)
same-behind a b l t r proper = by (is_routine_kind t.kind) refl
  where
    by : (c : Bool) → is_routine_kind t.kind ≡ c → place_behind a l (own_tree t) ≡ place_behind b l (own_tree t)
    by true e = ap (place_behind a l) (own-bare t e) ∙ bare-behind a b l t r e proper ∙ ap (place_behind b l) (sym (own-bare t e))
    by false e = hole-beside l t.kind (attributes_at a l (own_tree t)) (attributes_at b l (own_tree t)) r e (opens-none a l (own_tree t) r ∙ sym (opens-none b l (own_tree t) r))

-- ---- its entries, and those of the trees behind it

decorate-led : (out : Outside) (l : Local) (t : Plain) (ts : Forest) → decorate out l (led_by t ts) ≡ Mark (attributes_at out l t) (below_at out l t) (decorate out (place_behind out l t) ts)
unfolding decorate
decorate-led out l t ts = refl

pub entries-led : (out : Outside) (l : Local) (n : ℕ) (t : Plain) (ts : Forest) →
    kid_entries n (nodes (decorate out l (own (led_by t ts))))
    ≡ at_kid n (attributes_at out l (own_tree t)).as_value.entries ++ kid_entries (suc n) (nodes (decorate out (place_behind out l (own_tree t)) (own ts)))
entries-led out l n t ts =
    ap (λ (f : Forest). kid_entries n (nodes (decorate out l f))) (own-led t ts) ∙ ap (λ (m : Marked). kid_entries n (nodes m)) (decorate-led out l (own_tree t) (own ts))

-- ---- a hole is no routine, and has no entries

pub part-hole : (k : Kind) → is_routine k ≡ true → is_routine_kind k ≡ false → part_of k ≡ NoRoutine
part-hole (kind.Hole x) r e = refl
part-hole k r e = cc

entries-by : (l : Local) (k : Kind) (w : List ℕ) (s : Seen) (m : Marked) → is_routine k ≡ true → is_routine_kind k ≡ false → (rule l k w s m).as_value.entries ≡ []
unfolding rule
entries-by l (kind.Hole x) w s m r e = refl
entries-by l k w s m r e = cc

pub hole-entries : (out : Outside) (l : Local) (t : Plain) → is_routine t.kind ≡ true → is_routine_kind t.kind ≡ false → (attributes_at out l (own_tree t)).as_value.entries ≡ []
hole-entries out l t r e =
    let u = own_tree t in ap (λ (a : Attributes). a.as_value.entries) (at-node out l u) ∙ entries-by l u.kind u.word (seen out l u.kind u.word) (below_at out l u) r e
