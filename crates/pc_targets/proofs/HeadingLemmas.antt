-- The parameters and the result type in the heading of a routine are carried and good, where what names mean around it is.
use Rattle.std.proofs.Common.{◌≡◌, ℕ, Bool, true, false, ◌||◌, not, List, [], ◌∷◌, get_or, refl, sym, ◌∙◌, ap, subst, true≢false}
use Rattle.pc_syntax.specs.declared.kind.Kind.{Kind}
use Rattle.pc_syntax.specs.declared.kind.Kind.TheVariants as kind
use Rattle.pc_syntax.specs.declared.class.Class.TheVariants as class
use Rattle.pc_syntax.specs.Classes.{has}
use Rattle.pc_syntax.specs.Plain.{Forest, Nil, Cons, Plain}
use Rattle.pc_syntax.specs.WellFormed.{WellFormed}
use Rattle.pc_types.specs.Shapes.{Owner}
use Rattle.pc_rules.specs.Attributes.{Attributes, Marked, nodes, missing}
use Rattle.pc_rules.specs.Decorated.{seen, decorate}
use Rattle.pc_rules.specs.Meanings.{Meaning, Found, Local, Outside}
use Rattle.pc_rules.specs.OwnBlock.{heading_part}
use Rattle.pc_rules.specs.Routines.{bare, heading_start, params_in, result_in}
use Rattle.pc_environment.specs.Decorating.{attributes_at, below_at, place_behind}
use Rattle.pc_environment.specs.DecoratingLaws.{at-node}
use Rattle.pc_rule_laws.specs.Roles.{Role, Quiet, Gap, role, keys, defines_by, defines-role}
use Rattle.pc_pointers.specs.Good.{Targets, IsGoodFound}
use Rattle.pc_carrying.specs.KindLaws.{kind-law}
use Rattle.pc_carrying.specs.ParameterLaws.{inside-law}
use Rattle.pc_carrying.specs.Parts.{AllParameters, NamesGood}
use Rattle.pc_targets.specs.Blocks.{MeansGood}
use Rattle.pc_targets.proofs.HeadingPlaceLemmas.{name-part, params-part, start-names, behind-name, behind-params, found-good}

-- ---- parameters

-- a node of a heading that declares nothing
abbrev pub is_silent : Role → Bool
is_silent Quiet = true
is_silent Gap = true
is_silent _ = false

-- the list of parameters, or such a node
abbrev pub is_second : Kind → Bool
is_second kind.Params = true
is_second k = is_silent (role k)

pub params-second : (k : Kind) → (is_second k || not (has class.Params k)) ≡ true
params-second (kind.Hole s) = refl
params-second _ = refl

pub block-second : (k : Kind) → (is_second k || not (has class.Block k)) ≡ true
block-second (kind.Hole s) = refl
block-second _ = refl

pub heads-silent : (k : Kind) → (is_silent (role k) || not (has class.Heads k)) ≡ true
heads-silent (kind.Hole s) = refl
heads-silent _ = refl

-- of lists of parameters
abbrev pub OnParams : Kind → Type 0 → Type 0
OnParams kind.Params X = X
OnParams _ X = Unit {0}

pub on-params : (k : Kind) (X : Type 0) → X → OnParams k X
on-params kind.Params X x = x
on-params _ X x = tt

mapped : (k : Kind) (X Y : Type 0) → (X → Y) → OnParams k X → OnParams k Y
mapped kind.Params X Y g x = g x
mapped _ X Y g x = tt

silent-none : (r : Role) (l : Local) (m : Marked) → is_silent r ≡ true → defines_by r l m ≡ []
silent-none Quiet l m e = refl
silent-none Gap l m e = refl
silent-none _ l m e = absurd (true≢false (sym e))

keys-none : (ds : List (List ℕ × Meaning)) → keys ds ≡ [] → ds ≡ []
keys-none [] e = refl
keys-none (d ∷ ds) e = absurd (cc e)

silent-good : (out : Outside) (l : Local) (t : Plain) → is_silent (role t.kind) ≡ true → (attributes_at out l t).defines ≡ []
silent-good out l t e =
    keys-none (attributes_at out l t).defines
    (ap (λ (a : Attributes). keys a.defines) (at-node out l t) ∙ defines-role l t.kind t.word (seen out l t.kind t.word) (below_at out l t) ∙ silent-none (role t.kind) l (below_at out l t) e)

second-good : (targets : Targets) (out : Outside) (l : Local) (k : Kind) (w : List ℕ) (ns : List (List ℕ)) (ks : Forest) → is_second k ≡ true →
    OnParams k (WellFormed (Cons k w ns ks Nil) × NamesGood targets out l) → AllParameters targets (attributes_at out l (record { kind = k; word = w; notes = ns; kids = ks })).defines
second-good targets out l kind.Params w ns ks e h =
    let t : Plain = record { kind = kind.Params; word = w; notes = ns; kids = ks } in
    inside-law.parameters targets out l t refl (kind-law.parameters t h.0 refl) h.1
second-good targets out l k w ns ks e h = subst (AllParameters targets) (sym (silent-good out l (record { kind = k; word = w; notes = ns; kids = ks }) e)) tt

-- the second kid of a routine, in its heading
second-part : (targets : Targets) (out : Outside) (l : Local) (p : Kind) (w : List ℕ) (ns : List (List ℕ)) (ps ts : Forest) → is_second p ≡ true →
    OnParams p (WellFormed (Cons p w ns ps Nil) × NamesGood targets out l) → AllParameters targets (get_or (nodes (decorate out l (heading_part (Cons p w ns ps ts)))) 0 missing).defines
unfolding decorate
second-part targets out l kind.Block w ns ps ts e h = second-good targets out l kind.Block w ns Nil e h
second-part targets out l p w ns ps ts e h = second-good targets out l p w ns ps e h

silent-part : (out : Outside) (l : Local) (p : Kind) (w : List ℕ) (ns : List (List ℕ)) (ps ts : Forest) → is_silent (role p) ≡ true →
    (get_or (nodes (decorate out l (heading_part (Cons p w ns ps ts)))) 0 missing).defines ≡ []
unfolding decorate
silent-part out l kind.Block w ns ps ts e = silent-good out l (record { kind = kind.Block; word = w; notes = ns; kids = Nil }) e
silent-part out l p w ns ps ts e = silent-good out l (record { kind = p; word = w; notes = ns; kids = ps }) e

-- ---- headings

-- what is found in the heading of a routine with these kids
abbrev pub marks_in : (List ℕ → Found) → Owner → Forest → Marked
marks_in m o ks = decorate (bare m) (heading_start o) (heading_part ks)

-- its parameters
pub params-good : (targets : Targets) (m : List ℕ → Found) (o : Owner) (j p : Kind) (v w : List ℕ) (os ns : List (List ℕ)) (js ps ts : Forest) → has class.Name j ≡ true → is_second p ≡ true →
    OnParams p (WellFormed (Cons p w ns ps Nil) × MeansGood targets m) → AllParameters targets (params_in (marks_in m o (Cons j v os js (Cons p w ns ps ts)))).defines
unfolding decorate
params-good targets m o j p v w os ns js ps ts e f h =
    let l = heading_start o in
    let t : Plain = record { kind = j; word = v; notes = os; kids = js } in
    let l1 = place_behind (bare m) l t in
    subst (λ (g : Forest). AllParameters targets (params_in (decorate (bare m) l g)).defines) (sym (name-part j v os js (Cons p w ns ps ts) e))
    (second-part targets (bare m) l1 p w ns ps ts f
    (mapped p (WellFormed (Cons p w ns ps Nil) × MeansGood targets m) (WellFormed (Cons p w ns ps Nil) × NamesGood targets (bare m) l1)
    (λ x. (x.0, behind-name targets (bare m) l t e refl (start-names targets m o x.1))) h))

-- there are none where the second kid is no list of parameters
pub params-silent : (m : List ℕ → Found) (o : Owner) (j p : Kind) (v w : List ℕ) (os ns : List (List ℕ)) (js ps ts : Forest) → has class.Name j ≡ true → is_silent (role p) ≡ true →
    (params_in (marks_in m o (Cons j v os js (Cons p w ns ps ts)))).defines ≡ []
unfolding decorate
params-silent m o j p v w os ns js ps ts e f =
    let t : Plain = record { kind = j; word = v; notes = os; kids = js } in
    ap (λ (g : Forest). (params_in (decorate (bare m) (heading_start o) g)).defines) (name-part j v os js (Cons p w ns ps ts) e)
    ∙ silent-part (bare m) (place_behind (bare m) (heading_start o) t) p w ns ps ts f

-- what the name of its result type means
pub result-good : (targets : Targets) (m : List ℕ → Found) (o : Owner) (j p z : Kind) (v w x : List ℕ) (os ns us : List (List ℕ)) (js ps zs ts : Forest) →
    has class.Name j ≡ true → has class.Params p ≡ true → has class.Name z ≡ true → MeansGood targets m →
    IsGoodFound targets (result_in (marks_in m o (Cons j v os js (Cons p w ns ps (Cons z x us zs ts))))).found
unfolding decorate
result-good targets m o j p z v w x os ns us js ps zs ts e f g h =
    let l = heading_start o in
    let name : Plain = record { kind = j; word = v; notes = os; kids = js } in
    let params : Plain = record { kind = p; word = w; notes = ns; kids = ps } in
    let l1 = place_behind (bare m) l name in
    let l2 = place_behind (bare m) l1 params in
    let first = behind-name targets (bare m) l name e refl (start-names targets m o h) in
    let second = behind-params targets (bare m) l1 params f refl first in
    let same = name-part j v os js (Cons p w ns ps (Cons z x us zs ts)) e
    ∙ ap (Cons j v os js) (params-part p w ns ps (Cons z x us zs ts) f ∙ ap (Cons p w ns ps) (name-part z x us zs ts g)) in
    let t : Plain = record { kind = z; word = x; notes = us; kids = zs } in
    subst (λ (y : Forest). IsGoodFound targets (result_in (decorate (bare m) l y)).found) (sym same)
    (found-good targets (bare m) l2 z x (below_at (bare m) l2 t) g second)
