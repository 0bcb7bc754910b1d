-- Places in a list of routines: what names mean there stays good.
use Rattle.std.proofs.Common.{◌≡◌, ℕ, Bool, true, List, [], refl, sym, ◌∙◌, ap, subst}
use Rattle.std.proofs.lemmas.Bool.{false≢true}
use Rattle.pc_syntax.specs.declared.kind.Kind.{Kind}
use Rattle.pc_syntax.specs.declared.kind.Kind.TheVariants as kind
use Rattle.pc_syntax.specs.Plain.{Forest, Plain}
use Rattle.pc_types.specs.Shapes.{Typed}
use Rattle.pc_rules.specs.Attributes.{Marked}
use Rattle.pc_rules.specs.Decorated.{Seen, seen, rule, decorate}
use Rattle.pc_rules.specs.Meanings.{Local, Outside, find, define_all}
use Rattle.pc_rules.specs.Places.{inner, beside}
use Rattle.pc_environment.specs.Decorating.{attributes_at, below_at, place_behind}
use Rattle.pc_pointers.specs.Good.{Targets, IsGoodFound}
use Rattle.pc_carrying.specs.Carrying.{KnownCarried}
use Rattle.pc_carrying.specs.Parts.{GoodHeadings, IsGoodBehind, is_routine}
use Rattle.pc_carrying.specs.KnownLaws.{beside-carried}
use Rattle.pc_carrying.specs.LaterLaws.{inner-later, beside-later}
use Rattle.pc_carrying.specs.ConfinedLaws.{moved-place}
use Rattle.pc_carrying.specs.VariableLaws.{defined-good}
use Rattle.pc_carrying.specs.BehindLaws.{routine-settled, fields-stay, opened}

-- the first of a list
pub routines-inner : (targets : Targets) (out : Outside) (l : Local) (ks : Forest) → IsGoodBehind targets out l → IsGoodBehind targets out (inner l kind.Routines ks)
unfolding find
routines-inner targets out l ks g = record {
  place = moved-place targets [] out l (inner l kind.Routines ks) (inner-later l kind.Routines ks) g.place.known g.place;
  good = λ n. g.good n;
}

routine-known : (l : Local) (k : Kind) (w : List ℕ) (s : Seen) (m : Marked) → is_routine k ≡ true → (beside l k (rule l k w s m)).known ≡ (define_all l (rule l k w s m).defines).known
unfolding rule
routine-known l kind.Procedure w s m e = refl
routine-known l kind.Function w s m e = refl
routine-known l kind.Funbody w s m e = refl
routine-known l (kind.Hole x) w s m e = refl
routine-known l k w s m e = absurd (false≢true e)

routine-find : (out : Outside) (l : Local) (k : Kind) (w : List ℕ) (s : Seen) (m : Marked) (n : List ℕ) → is_routine k ≡ true →
    find out (beside l k (rule l k w s m)) n ≡ find out (define_all l (rule l k w s m).defines) n
unfolding find rule
routine-find out l kind.Procedure w s m n e =
    let ds = (rule l kind.Procedure w s m).defines in
    ap (λ (fs : List (List ℕ × (Typed × Bool))). find out (record (define_all l ds) { fields = fs }) n) (opened l.opening [] l.fields refl ∙ sym (fields-stay l ds))
routine-find out l kind.Function w s m n e =
    let ds = (rule l kind.Function w s m).defines in
    ap (λ (fs : List (List ℕ × (Typed × Bool))). find out (record (define_all l ds) { fields = fs }) n) (opened l.opening [] l.fields refl ∙ sym (fields-stay l ds))
routine-find out l kind.Funbody w s m n e =
    let ds = (rule l kind.Funbody w s m).defines in
    ap (λ (fs : List (List ℕ × (Typed × Bool))). find out (record (define_all l ds) { fields = fs }) n) (opened l.opening [] l.fields refl ∙ sym (fields-stay l ds))
routine-find out l (kind.Hole x) w s m n e = ap (λ (fs : List (List ℕ × (Typed × Bool))). find out (record l { fields = fs }) n) (opened l.opening [] l.fields refl)
routine-find out l k w s m n e = absurd (false≢true e)

-- behind a routine
pub routine-behind : (targets : Targets) (out : Outside) (l : Local) (t : Plain) → is_routine t.kind ≡ true → GoodHeadings targets out → IsGoodBehind targets out l →
    IsGoodBehind targets out (place_behind out l t)
unfolding decorate
routine-behind targets out l t e r g =
    let s = seen out l t.kind t.word in
    let m = below_at out l t in
    let h = routine-settled targets l t.kind t.word s m e in
    let ds = (attributes_at out l t).defines in
    record {
      place = moved-place targets [] out l (place_behind out l t) (beside-later l t.kind (attributes_at out l t))
          (subst (KnownCarried targets []) (sym (routine-known l t.kind t.word s m e)) (beside-carried targets [] l ds h.beside g.place.known)) g.place;
      good = λ n. subst (IsGoodFound targets) (sym (routine-find out l t.kind t.word s m n e)) (defined-good targets out l ds r h g.good n);
    }
