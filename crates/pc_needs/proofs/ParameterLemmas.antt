-- The parameters of a well-formed heading are no variables of a variable declaration part.
use Rattle.std.specs.Prelude.{ℕ, suc, ◌≡◌, Bool, true, false, if◌then◌else◌, List, [], ◌∷◌, get_or}
use Rattle.std.proofs.Common.{refl, ap, sym, subst, ◌∙◌, true≢false}
use Rattle.std.proofs.lemmas.Bool.{and_parts}
use Rattle.pc_syntax.specs.declared.kind.Kind.{Kind}
use Rattle.pc_syntax.specs.declared.kind.Kind.TheVariants as kind
use Rattle.pc_syntax.specs.declared.class.Class.{Class}
use Rattle.pc_syntax.specs.declared.class.Class.TheVariants as class
use Rattle.pc_syntax.specs.declared.item.Item.{Item}
use Rattle.pc_syntax.specs.declared.item.Item.TheVariants.{Kid}
use Rattle.pc_syntax.specs.Classes.{has}
use Rattle.pc_syntax.specs.Fits.{takes_count, takes_from, word_fits}
use Rattle.pc_syntax.specs.FitsLayoutLaws.{layout-forest}
use Rattle.pc_syntax.specs.Layout.{layout}
use Rattle.pc_syntax.specs.Plain.{Forest, Nil, Cons, count, kinds}
use Rattle.pc_syntax.specs.WellFormed.{WellFormed, fits, fits_some}
use Rattle.pc_syntax.specs.Words.{is_among}
use Rattle.pc_rules.specs.Attributes.{Marked, nodes, missing}
use Rattle.pc_rules.specs.DeclaringNames.{all_as}
use Rattle.pc_rules.specs.Decorated.{Seen, seen, rule, decorate}
use Rattle.pc_rules.specs.HandedOn.{all_defines}
use Rattle.pc_rules.specs.Meanings.{Meaning, Local, Outside, is_routine_class}
use Rattle.pc_rules.specs.NameClasses.{is_own_variable}
use Rattle.pc_rules.specs.OwnBlock.{heading_part}
use Rattle.pc_rules.specs.Places.{inner, beside}
use Rattle.pc_rules.specs.RoutineList.{Part, ARoutine, AllRoutines, NoRoutine, part_of}
use Rattle.pc_rules.specs.Routines.{firsts, params_in}
use Rattle.pc_needs.proofs.Lists.{Each, each-append}

-- a declaration is one that a heading may have: neither a variable of a variable declaration part nor a routine
abbrev pub IsOfHeading : List ℕ × Meaning → Type 0
IsOfHeading d = (is_own_variable d.1.class ≡ false) × (is_routine_class d.1.class ≡ false)

-- none of these declarations is
abbrev pub AreOfHeading : List (List ℕ × Meaning) → Type 0
AreOfHeading ds = Each IsOfHeading ds

all-of-heading : (m : Meaning) (ns : List (List ℕ)) → is_own_variable m.class ≡ false → is_routine_class m.class ≡ false → AreOfHeading (all_as m ns)
all-of-heading m [] e f = tt
all-of-heading m (n ∷ ns) e f = ((e, f), all-of-heading m ns e f)

-- a group of parameters
group-of-heading : (l : Local) (k : Kind) (w : List ℕ) (s : Seen) (below : Marked) → has class.Parameter k ≡ true → AreOfHeading (rule l k w s below).defines
unfolding rule
group-of-heading l kind.Valparam w s below e = all-of-heading _ _ refl refl
group-of-heading l kind.Varparam w s below e = all-of-heading _ _ refl refl
group-of-heading l (kind.Hole t) w s below e = tt
group-of-heading l k w s below e = absurd (true≢false (sym e))

-- all groups
groups-of-heading : (out : Outside) (l : Local) (f : Forest) (i : ℕ) → takes_from kind.Params i (kinds f) ≡ true → AreOfHeading (all_defines (nodes (decorate out l f)))
unfolding decorate
groups-of-heading out l Nil i e = tt
groups-of-heading out l (Cons k w ns ks ts) i e =
    let both = and_parts (has class.Parameter k) (takes_from kind.Params (suc i) (kinds ts)) e in
    each-append IsOfHeading _ _ (group-of-heading l k w _ _ both.0) (groups-of-heading out (beside l k (rule l k w (seen out l k w) (decorate out (inner l k ks) ks))) ts (suc i) both.1)

-- the parameters of a heading
params-of-heading : (out : Outside) (l : Local) (k : Kind) (w : List ℕ) (s : Seen) (f : Forest) →
    has class.Params k ≡ true → fits_some (layout k w (count f)) (kinds f) ≡ true → AreOfHeading (rule l k w s (decorate out (inner l k f) f)).defines
unfolding rule
params-of-heading out l kind.Params w s f e h =
    let fit = and_parts (word_fits kind.Params w) _ (sym (layout-forest kind.Params w f) ∙ h) in
    groups-of-heading out (inner l kind.Params f) f 0 (and_parts (takes_count kind.Params (count f)) _ fit.1).1
params-of-heading out l k w s f e h = absurd (true≢false (sym e))

-- what stands for a block declares no parameters
block-of-heading : (l : Local) (k : Kind) (w : List ℕ) (s : Seen) (below : Marked) → has class.Block k ≡ true → AreOfHeading (rule l k w s below).defines
unfolding rule
block-of-heading l kind.Block w s below e = tt
block-of-heading l kind.Forward w s below e = tt
block-of-heading l (kind.Hole t) w s below e = tt
block-of-heading l k w s below e = absurd (true≢false (sym e))

-- the first of each name
pub firsts-of-heading : (before : List (List ℕ)) (ds : List (List ℕ × Meaning)) → AreOfHeading ds → AreOfHeading (firsts before ds)
firsts-of-heading before [] h = tt
firsts-of-heading before (d ∷ ds) h = which (firsts-of-heading before ds h.1) (firsts-of-heading (d.0 ∷ before) ds h.1) (is_among before d.0) where
  which : AreOfHeading (firsts before ds) → AreOfHeading (firsts (d.0 ∷ before) ds) → (b : Bool) → AreOfHeading (if b then firsts before ds else d ∷ firsts (d.0 ∷ before) ds)
  which x y true = x
  which x y false = (h.0, y)

-- ---- which nodes are routines

is_none_part : Part → Bool
is_none_part NoRoutine = true
is_none_part _ = false

is_all_part : Part → Bool
is_all_part AllRoutines = true
is_all_part _ = false

pub not-none : NoRoutine ≡ ARoutine → ⊥
unfolding is_none_part
not-none e = true≢false (ap is_none_part e)

pub not-all : AllRoutines ≡ ARoutine → ⊥
unfolding is_all_part
not-all e = true≢false (ap is_all_part e)

-- ---- the second node of a heading

-- the first of some trees has a class, if there is one
abbrev HasFirst : Class → Forest → Type 0
HasFirst c Nil = Unit {0}
HasFirst c (Cons k w ns ks ts) = has c k ≡ true

first-from : (c : Class) (is : List Item) (f : Forest) → fits (Kid c ∷ is) (kinds f) ≡ true → HasFirst c f
first-from c is Nil e = tt
first-from c is (Cons k w ns ks ts) e = (and_parts (has c k) (fits is (kinds ts)) e).0

-- a heading's first node, and what stands behind
behind-first : (k : Kind) (w : List ℕ) (ns : List (List ℕ)) (ks ts : Forest) → (x : Forest) × (heading_part (Cons k w ns ks ts) ≡ Cons k w ns x (heading_part ts))
behind-first kind.Block w ns ks ts = (Nil, refl)
behind-first k w ns ks ts = (ks, refl)

first-params : (out : Outside) (l : Local) (f : Forest) → HasFirst class.Params f → WellFormed f → AreOfHeading (get_or (nodes (decorate out l (heading_part f))) 0 missing).defines
unfolding decorate
first-params out l Nil h g = tt
first-params out l (Cons kind.Params w ns ks ts) h g = params-of-heading out l kind.Params w _ ks h g.0
first-params out l (Cons k w ns ks ts) h g = absurd (true≢false (sym h))

first-block : (out : Outside) (l : Local) (f : Forest) → HasFirst class.Block f → AreOfHeading (get_or (nodes (decorate out l (heading_part f))) 0 missing).defines
unfolding decorate
first-block out l Nil h = tt
first-block out l (Cons k w ns ks ts) h =
    let x = behind-first k w ns ks ts in
    subst (λ (f : Forest). AreOfHeading (get_or (nodes (decorate out l f)) 0 missing).defines) (sym x.1) (block-of-heading l k w _ _ h)

-- it stands behind the name
second-of : (out : Outside) (l : Local) (k : Kind) (w : List ℕ) (ns : List (List ℕ)) (ks ts : Forest) →
    ((m : Local) → AreOfHeading (get_or (nodes (decorate out m (heading_part ts))) 0 missing).defines) →
    AreOfHeading (params_in (decorate out l (heading_part (Cons k w ns ks ts)))).defines
unfolding decorate
second-of out l k w ns ks ts h =
    let x = behind-first k w ns ks ts in
    subst (λ (f : Forest). AreOfHeading (params_in (decorate out l f)).defines) (sym x.1) (h _)

-- the parameters of a routine's heading
pub heading-parameters : (out : Outside) (l : Local) (k : Kind) (w : List ℕ) (f : Forest) → part_of k ≡ ARoutine → fits_some (layout k w (count f)) (kinds f) ≡ true → WellFormed f →
    AreOfHeading (params_in (decorate out l (heading_part f))).defines
unfolding decorate
heading-parameters out l k w Nil p e g = tt
heading-parameters out l kind.Procedure [] (Cons j v ns ks ts) p e g =
    second-of out l j v ns ks ts (λ m. first-params out m ts (first-from class.Params (Kid class.Block ∷ []) ts (and_parts (has class.Name j) _ e).1) g.4)
heading-parameters out l kind.Function [] (Cons j v ns ks ts) p e g =
    second-of out l j v ns ks ts (λ m. first-params out m ts (first-from class.Params (Kid class.Name ∷ Kid class.Block ∷ []) ts (and_parts (has class.Name j) _ e).1) g.4)
heading-parameters out l kind.Funbody [] (Cons j v ns ks ts) p e g =
    second-of out l j v ns ks ts (λ m. first-block out m ts (first-from class.Block [] ts (and_parts (has class.Name j) _ e).1))
heading-parameters out l kind.Procedure (b ∷ w) (Cons j v ns ks ts) p e g = absurd (true≢false (sym e))
heading-parameters out l kind.Function (b ∷ w) (Cons j v ns ks ts) p e g = absurd (true≢false (sym e))
heading-parameters out l kind.Funbody (b ∷ w) (Cons j v ns ks ts) p e g = absurd (true≢false (sym e))
heading-parameters out l kind.Routines w (Cons j v ns ks ts) p e g = absurd (not-all p)
heading-parameters out l k w (Cons j v ns ks ts) p e g = absurd (not-none p)

-- ---- a program's heading has no parameters

heads-of-heading : (l : Local) (k : Kind) (w : List ℕ) (s : Seen) (below : Marked) → has class.Heads k ≡ true → AreOfHeading (rule l k w s below).defines
unfolding rule
heads-of-heading l kind.Heads w s below e = tt
heads-of-heading l (kind.Hole t) w s below e = tt
heads-of-heading l k w s below e = absurd (true≢false (sym e))

first-heads : (out : Outside) (l : Local) (f : Forest) → HasFirst class.Heads f → AreOfHeading (get_or (nodes (decorate out l (heading_part f))) 0 missing).defines
unfolding decorate
first-heads out l Nil h = tt
first-heads out l (Cons k w ns ks ts) h =
    let x = behind-first k w ns ks ts in
    subst (λ (f : Forest). AreOfHeading (get_or (nodes (decorate out l f)) 0 missing).defines) (sym x.1) (heads-of-heading l k w _ _ h)

pub program-parameters : (out : Outside) (l : Local) (w : List ℕ) (f : Forest) → fits_some (layout kind.Program w (count f)) (kinds f) ≡ true →
    AreOfHeading (params_in (decorate out l (heading_part f))).defines
unfolding decorate
program-parameters out l w Nil e = tt
program-parameters out l [] (Cons j v ns ks ts) e =
    second-of out l j v ns ks ts (λ m. first-heads out m ts (first-from class.Heads (Kid class.Block ∷ []) ts (and_parts (has class.Name j) _ e).1))
program-parameters out l (b ∷ w) (Cons j v ns ks ts) e = absurd (true≢false (sym e))
