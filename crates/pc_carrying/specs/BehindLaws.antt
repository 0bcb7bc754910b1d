-- The lists of variables and routines of a block: what names mean behind them.
use Rattle.std.proofs.Common.{◌≡◌, ℕ, Bool, true, false, if◌then◌else◌, List, [], ◌∷◌, ◌++◌, refl, sym, ◌∙◌, ap, subst}
use Rattle.std.proofs.lemmas.Bool.{false≢true}
use Rattle.std.specs.Prelude.{get_or}
use Rattle.pc_syntax.specs.declared.kind.Kind.{Kind}
use Rattle.pc_syntax.specs.declared.kind.Kind.TheVariants as kind
use Rattle.pc_syntax.specs.Plain.{Forest, Nil, Cons, Plain}
use Rattle.pc_syntax.specs.Sorts.{is_hole}
use Rattle.pc_syntax.specs.Words.{lowered}
use Rattle.pc_types.specs.Shapes.{Domain, Typed}
use Rattle.pc_rules.specs.Attributes.{Attributes, Marked, Node, nodes, missing}
use Rattle.pc_rules.specs.DeclaringNames.{declares}
use Rattle.pc_rules.specs.Declarations.{is_later_declaration}
use Rattle.pc_rules.specs.Decorated.{Seen, seen, rule, decorate}
use Rattle.pc_rules.specs.HandedOn.{all_defines}
use Rattle.pc_rules.specs.Meanings.{ProcedureName, FunctionName, Meaning, Local, Outside, declared_as, find, define, define_all}
use Rattle.pc_rules.specs.Places.{inner, beside}
use Rattle.pc_environment.specs.Decorating.{attributes_at, below_at, place_behind}
use Rattle.pc_pointers.specs.Good.{Targets, IsGoodFound}
use Rattle.pc_carrying.specs.Carrying.{CarriedPlace, KnownCarried, AllDenoting}
use Rattle.pc_carrying.specs.Parts.{AllBeside, IsSettledPart, GoodHeadings, IsGoodBehind, is_variable, AllVariables, is_routine, AllRoutines}
use Rattle.pc_carrying.specs.KnownLaws.{beside-carried, beside-both}
use Rattle.pc_carrying.specs.LaterLaws.{inner-later, beside-later}
use Rattle.pc_carrying.specs.ConfinedLaws.{moved-place}
use Rattle.pc_carrying.specs.VariableLaws.{variables-settled, good-both, defined-good}

-- ---- parts

none-settled : (targets : Targets) → IsSettledPart targets []
none-settled targets = record { good = tt; beside = tt }

both-settled : (targets : Targets) (ds es : List (List ℕ × Meaning)) → IsSettledPart targets ds → IsSettledPart targets es → IsSettledPart targets (ds ++ es)
both-settled targets ds es h g = record { good = good-both targets ds es h.good g.good; beside = beside-both ds es h.beside g.beside }

-- ---- variables

-- one of them
variable-settled : (targets : Targets) (out : Outside) (l : Local) (k : Kind) (w : List ℕ) (ks : Forest) → is_variable k ≡ true → AllDenoting ks → CarriedPlace targets [] out l →
    IsSettledPart targets (rule l k w (seen out l k w) (decorate out (inner l k ks) ks)).defines
unfolding rule
variable-settled targets out l kind.Vardef w ks e a g = variables-settled targets out l w ks a g
variable-settled targets out l (kind.Hole s) w ks e a g = none-settled targets
variable-settled targets out l k w ks e a g = absurd (false≢true e)

variable-next : (targets : Targets) (own : List Domain) (out : Outside) (l : Local) (k : Kind) (a : Attributes) → is_variable k ≡ true → AllBeside a.defines → CarriedPlace targets own out l →
    CarriedPlace targets own out (beside l k a)
variable-next targets own out l kind.Vardef a e h g = moved-place targets own out l (beside l kind.Vardef a) (beside-later l kind.Vardef a) (beside-carried targets own l a.defines h g.known) g
variable-next targets own out l (kind.Hole s) a e h g = moved-place targets own out l (beside l (kind.Hole s) a) (beside-later l (kind.Hole s) a) g.known g
variable-next targets own out l k a e h g = absurd (false≢true e)

-- where it stands
pub declaration-settled : (targets : Targets) (out : Outside) (l : Local) (t : Plain) → is_variable t.kind ≡ true → AllDenoting t.kids → CarriedPlace targets [] out l →
    IsSettledPart targets (attributes_at out l t).defines × CarriedPlace targets [] out (place_behind out l t)
unfolding decorate
declaration-settled targets out l t e a g =
    let h = variable-settled targets out l t.kind t.word t.kids e a g in
    (h, variable-next targets [] out l t.kind (attributes_at out l t) e h.beside g)

-- several in a row
all-settled : (targets : Targets) (out : Outside) (l : Local) (f : Forest) → AllVariables f → CarriedPlace targets [] out l → IsSettledPart targets (all_defines (nodes (decorate out l f)))
unfolding decorate
all-settled targets out l Nil a g = none-settled targets
all-settled targets out l (Cons k w ns ks ts) a g =
    let r = rule l k w (seen out l k w) (decorate out (inner l k ks) ks) in
    let h = variable-settled targets out l k w ks a.0 a.1 g in
    let next = beside l k r in
    both-settled targets r.defines (all_defines (nodes (decorate out next ts))) h (all-settled targets out next ts a.2 (variable-next targets [] out l k r a.0 h.beside g))

-- ---- routines

declares-routine : (targets : Targets) (later : Bool) (a : Node) (m : Meaning) → IsSettledPart targets ((lowered a.word, m) ∷ []) → IsSettledPart targets (if later then [] else declares a m)
declares-routine targets true a m h = none-settled targets
declares-routine targets false a m h = by (is_hole a.kind) where
  by : (b : Bool) → IsSettledPart targets (if b then [] else (lowered a.word, m) ∷ [])
  by true = none-settled targets
  by false = h

pub routine-settled : (targets : Targets) (l : Local) (k : Kind) (w : List ℕ) (s : Seen) (m : Marked) → is_routine k ≡ true → IsSettledPart targets (rule l k w s m).defines
unfolding rule
routine-settled targets l kind.Procedure w s m e =
    declares-routine targets (is_later_declaration l) (get_or (nodes m) 0 missing) (declared_as ProcedureName l.owner)
    (record { good = (record { constant = tt; result = tt; typed = λ c. tt }, tt); beside = (refl, tt, tt) })
routine-settled targets l kind.Function w s m e =
    declares-routine targets (is_later_declaration l) (get_or (nodes m) 0 missing) (declared_as FunctionName l.owner)
    (record { good = (record { constant = tt; result = tt; typed = λ c. tt }, tt); beside = (refl, tt, tt) })
routine-settled targets l kind.Funbody w s m e =
    declares-routine targets (is_later_declaration l) (get_or (nodes m) 0 missing) (declared_as FunctionName l.owner)
    (record { good = (record { constant = tt; result = tt; typed = λ c. tt }, tt); beside = (refl, tt, tt) })
routine-settled targets l (kind.Hole x) w s m e = none-settled targets
routine-settled targets l k w s m e = absurd (false≢true e)

routines-settled : (targets : Targets) (out : Outside) (l : Local) (f : Forest) → AllRoutines f → IsSettledPart targets (all_defines (nodes (decorate out l f)))
unfolding decorate
routines-settled targets out l Nil a = none-settled targets
routines-settled targets out l (Cons k w ns ks ts) a =
    let m = decorate out (inner l k ks) ks in
    let r = rule l k w (seen out l k w) m in
    let next = beside l k r in
    both-settled targets r.defines (all_defines (nodes (decorate out next ts))) (routine-settled targets l k w (seen out l k w) m a.0) (routines-settled targets out next ts a.1)

-- ---- behind a list

-- the lists of variables and of routines
abbrev pub is_list : Kind → Bool
is_list kind.Vars = true
is_list kind.Routines = true
is_list _ = false

list-defines : (l : Local) (k : Kind) (w : List ℕ) (s : Seen) (m : Marked) → is_list k ≡ true → (rule l k w s m).defines ≡ all_defines (nodes m)
unfolding rule
list-defines l kind.Vars w s m e = refl
list-defines l kind.Routines w s m e = refl
list-defines l k w s m e = absurd (false≢true e)

list-opens : (l : Local) (k : Kind) (w : List ℕ) (s : Seen) (m : Marked) → is_list k ≡ true → (rule l k w s m).opens ≡ []
unfolding rule
list-opens l kind.Vars w s m e = refl
list-opens l kind.Routines w s m e = refl
list-opens l k w s m e = absurd (false≢true e)

-- the fields that are open stay
pub fields-stay : (l : Local) (ds : List (List ℕ × Meaning)) → (define_all l ds).fields ≡ l.fields
fields-stay l [] = refl
fields-stay l (d ∷ ds) = fields-stay (define l d.0 d.1) ds

pub opened : (b : Bool) (opens fields : List (List ℕ × (Typed × Bool))) → opens ≡ [] → (if b then opens ++ fields else fields) ≡ fields
opened true opens fields e = ap (λ (fs : List (List ℕ × (Typed × Bool))). fs ++ fields) e
opened false opens fields e = refl

list-find : (out : Outside) (l : Local) (k : Kind) (a : Attributes) (n : List ℕ) → is_list k ≡ true → a.opens ≡ [] → find out (beside l k a) n ≡ find out (define_all l a.defines) n
unfolding find
list-find out l kind.Vars a n e o =
    let m = define_all l a.defines in
    ap (λ (fs : List (List ℕ × (Typed × Bool))). find out (record m { fields = fs }) n) (opened l.opening a.opens l.fields o ∙ sym (fields-stay l a.defines))
list-find out l kind.Routines a n e o =
    let m = define_all l a.defines in
    ap (λ (fs : List (List ℕ × (Typed × Bool))). find out (record m { fields = fs }) n) (opened l.opening a.opens l.fields o ∙ sym (fields-stay l a.defines))
list-find out l k a n e o = absurd (false≢true e)

list-known : (l : Local) (k : Kind) (a : Attributes) → is_list k ≡ true → (beside l k a).known ≡ (define_all l a.defines).known
list-known l kind.Vars a e = refl
list-known l kind.Routines a e = refl
list-known l k a e = absurd (false≢true e)

list-behind : (targets : Targets) (out : Outside) (l : Local) (t : Plain) → is_list t.kind ≡ true → IsSettledPart targets (attributes_at out l t).defines → GoodHeadings targets out → IsGoodBehind targets out l → IsGoodBehind targets out (place_behind out l t)
unfolding decorate
list-behind targets out l t e h r g =
    let a = attributes_at out l t in
    let o = list-opens l t.kind t.word (seen out l t.kind t.word) (below_at out l t) e in
    record {
      place = moved-place targets [] out l (place_behind out l t) (beside-later l t.kind a)
          (subst (KnownCarried targets []) (sym (list-known l t.kind a e)) (beside-carried targets [] l a.defines h.beside g.place.known)) g.place;
      good = λ n. subst (IsGoodFound targets) (sym (list-find out l t.kind a n e o)) (defined-good targets out l a.defines r h g.good n);
    }

-- the first kid of a list of variables
vars-inner : (targets : Targets) (own : List Domain) (out : Outside) (l : Local) (k : Kind) (ks : Forest) → is_list k ≡ true → CarriedPlace targets own out l → CarriedPlace targets own out (inner l k ks)
vars-inner targets own out l kind.Vars ks e g = moved-place targets own out l (inner l kind.Vars ks) (inner-later l kind.Vars ks) g.known g
vars-inner targets own out l kind.Routines ks e g = moved-place targets own out l (inner l kind.Routines ks) (inner-later l kind.Routines ks) g.known g
vars-inner targets own out l k ks e g = absurd (false≢true e)

pub variables-behind : (targets : Targets) (out : Outside) (l : Local) (t : Plain) → t.kind ≡ kind.Vars → AllVariables t.kids → GoodHeadings targets out → IsGoodBehind targets out l →
    IsSettledPart targets (attributes_at out l t).defines × IsGoodBehind targets out (place_behind out l t)
unfolding decorate
variables-behind targets out l t q a r g =
    let e : is_list t.kind ≡ true = ap is_list q in
    let start = inner l t.kind t.kids in
    let m = decorate out start t.kids in
    let h = subst (IsSettledPart targets) (sym (list-defines l t.kind t.word (seen out l t.kind t.word) m e)) (all-settled targets out start t.kids a (vars-inner targets [] out l t.kind t.kids e g.place)) in
    (h, list-behind targets out l t e h r g)

pub routines-behind : (targets : Targets) (out : Outside) (l : Local) (t : Plain) → t.kind ≡ kind.Routines → AllRoutines t.kids → GoodHeadings targets out → IsGoodBehind targets out l →
    IsSettledPart targets (attributes_at out l t).defines × IsGoodBehind targets out (place_behind out l t)
unfolding decorate
routines-behind targets out l t q a r g =
    let e : is_list t.kind ≡ true = ap is_list q in
    let start = inner l t.kind t.kids in
    let m = decorate out start t.kids in
    let h = subst (IsSettledPart targets) (sym (list-defines l t.kind t.word (seen out l t.kind t.word) m e)) (routines-settled targets out start t.kids a) in
    (h, list-behind targets out l t e h r g)
