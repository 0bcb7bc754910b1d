-- The parameters in the heading of a routine are carried and good, where names are around it.
use Rattle.std.proofs.Common.{◌≡◌, ℕ, zero, suc, Bool, true, false, if◌then◌else◌, List, [], ◌∷◌, ◌++◌, refl, sym, ◌∙◌, ap, subst}
use Rattle.std.proofs.lemmas.Bool.{false≢true}
use Rattle.std.specs.Prelude.{get_or}
use Rattle.pc_syntax.specs.declared.kind.Kind.{Kind}
use Rattle.pc_syntax.specs.declared.kind.Kind.TheVariants as kind
use Rattle.pc_syntax.specs.Plain.{Forest, Nil, Cons, Plain}
use Rattle.pc_syntax.specs.Words.{lowered}
use Rattle.pc_types.specs.Shapes.{Typed}
use Rattle.pc_rules.specs.Attributes.{Attributes, Marked, Node, nodes, missing, kids_below}
use Rattle.pc_rules.specs.DeclaringNames.{names_in, all_as}
use Rattle.pc_rules.specs.Decorated.{Seen, unseen, seen, rule, decorate}
use Rattle.pc_rules.specs.Denoters.{type_of_found}
use Rattle.pc_rules.specs.HandedOn.{all_defines}
use Rattle.pc_rules.specs.Meanings.{Class, ValueName, ReferenceName, Meaning, Found, Local, Outside, declared_as, find}
use Rattle.pc_rules.specs.NameClasses.{is_type_class}
use Rattle.pc_rules.specs.Places.{inner, beside, pass, pass_all}
use Rattle.pc_environment.specs.Decorating.{attributes_at}
use Rattle.pc_pointers.specs.Good.{Targets, IsGoodFound}
use Rattle.pc_carrying.specs.Carrying.{IsCarriedName}
use Rattle.pc_carrying.specs.Parts.{IsParameter, AllParameters, NamesGood, is_naming, AllNaming, is_group, AllGroups, InsideLaw}
use Rattle.pc_carrying.specs.InsideLaws.{required-carried, type-good, parameter-good, firsts-good, block-start}
use Rattle.pc_carrying.specs.KnownLaws.{found-carried}
use Rattle.pc_carrying.specs.BehindLaws.{opened}

-- ---- places where the same names mean the same

same-names : (targets : Targets) (out : Outside) (l m : Local) → ((n : List ℕ) → find out m n ≡ find out l n) → NamesGood targets out l → NamesGood targets out m
same-names targets out l m e h n = subst (λ (f : Found). IsCarriedName targets [] n f × IsGoodFound targets f) (sym (e n)) (h n)

-- behind a node that names something
naming-find : (out : Outside) (l : Local) (k : Kind) (w : List ℕ) (s : Seen) (m : Marked) (n : List ℕ) → is_naming k ≡ true → find out (beside l k (rule l k w s m)) n ≡ find out l n
unfolding find rule
naming-find out l kind.Name w s m n e = ap (λ (fs : List (List ℕ × (Typed × Bool))). find out (record l { fields = fs }) n) (opened l.opening [] l.fields refl)
naming-find out l kind.Names w s m n e = ap (λ (fs : List (List ℕ × (Typed × Bool))). find out (record l { fields = fs }) n) (opened l.opening [] l.fields refl)
naming-find out l (kind.Hole x) w s m n e = ap (λ (fs : List (List ℕ × (Typed × Bool))). find out (record l { fields = fs }) n) (opened l.opening [] l.fields refl)
naming-find out l k w s m n e = absurd (false≢true e)

-- names that stand before
passed-find : (out : Outside) (l : Local) (n : List ℕ) (fs : List (List ℕ × (Typed × Bool))) (x : List ℕ) → find out (record (pass l x) { fields = fs }) n ≡ find out (record l { fields = fs }) n
unfolding find
passed-find out l n fs [] = refl
passed-find out l n fs (c ∷ cs) = refl

all-passed-find : (out : Outside) (l : Local) (n : List ℕ) (fs : List (List ℕ × (Typed × Bool))) (ds : List (List ℕ × Meaning)) →
    find out (record (pass_all l ds) { fields = fs }) n ≡ find out (record l { fields = fs }) n
unfolding find
all-passed-find out l n fs [] = refl
all-passed-find out l n fs (d ∷ ds) = all-passed-find out (pass l d.0) n fs ds ∙ passed-find out l n fs d.0

-- behind a group
group-find : (out : Outside) (l : Local) (k : Kind) (w : List ℕ) (s : Seen) (m : Marked) (n : List ℕ) → is_group k ≡ true → find out (beside l k (rule l k w s m)) n ≡ find out l n
unfolding find rule
group-find out l kind.Valparam w s m n e =
    let ds = (rule l kind.Valparam w s m).defines in
    all-passed-find out l n (if l.opening then [] ++ l.fields else l.fields) ds ∙ ap (λ (fs : List (List ℕ × (Typed × Bool))). find out (record l { fields = fs }) n) (opened l.opening [] l.fields refl)
group-find out l kind.Varparam w s m n e =
    let ds = (rule l kind.Varparam w s m).defines in
    all-passed-find out l n (if l.opening then [] ++ l.fields else l.fields) ds ∙ ap (λ (fs : List (List ℕ × (Typed × Bool))). find out (record l { fields = fs }) n) (opened l.opening [] l.fields refl)
group-find out l (kind.Hole x) w s m n e = ap (λ (fs : List (List ℕ × (Typed × Bool))). find out (record l { fields = fs }) n) (opened l.opening [] l.fields refl)
group-find out l k w s m n e = absurd (false≢true e)

-- below a group, and below the list of groups
group-inner : (out : Outside) (l : Local) (k : Kind) (ks : Forest) (n : List ℕ) → is_group k ≡ true → find out (inner l k ks) n ≡ find out l n
unfolding find
group-inner out l kind.Valparam ks n e = refl
group-inner out l kind.Varparam ks n e = refl
group-inner out l (kind.Hole s) ks n e = refl
group-inner out l k ks n e = absurd (false≢true e)

params-inner : (out : Outside) (l : Local) (ks : Forest) (n : List ℕ) → find out (inner l kind.Params ks) n ≡ find out l n
unfolding find
params-inner out l ks n = refl

-- ---- what the names of types mean

-- what a kid means is carried and good
record IsGoodName (targets : Targets) (a : Attributes) : Type 0 where
  carried : IsCarriedName targets [] (lowered a.word) a.found
  good : IsGoodFound targets a.found

abbrev AllGoodNames : Targets → List Node → Type 0
AllGoodNames targets [] = Unit {0}
AllGoodNames targets (n ∷ ns) = IsGoodName targets n.at × AllGoodNames targets ns

kid-name : (targets : Targets) (ns : List Node) (i : ℕ) → AllGoodNames targets ns → IsGoodName targets (get_or ns i missing).at
kid-name targets [] i g = record { carried = tt; good = tt }
kid-name targets (n ∷ ns) zero g = g.0
kid-name targets (n ∷ ns) (suc i) g = kid-name targets ns i g.1

seen-name : (targets : Targets) (out : Outside) (l : Local) (w : List ℕ) (m : Marked) (b : Bool) → NamesGood targets out l →
    IsGoodName targets (rule l kind.Name w (if b then record { found = find out l (lowered w); changed = out.touched (lowered w) } else unseen) m)
unfolding rule
seen-name targets out l w m true h = record { carried = (h (lowered w)).0; good = (h (lowered w)).1 }
seen-name targets out l w m false h = record { carried = tt; good = tt }

naming-good : (targets : Targets) (out : Outside) (l : Local) (k : Kind) (w : List ℕ) (m : Marked) → is_naming k ≡ true → NamesGood targets out l → IsGoodName targets (rule l k w (seen out l k w) m)
unfolding rule
naming-good targets out l kind.Name w m e h = seen-name targets out l w m l.using h
naming-good targets out l kind.Names w m e h = record { carried = tt; good = tt }
naming-good targets out l (kind.Hole x) w m e h = record { carried = tt; good = tt }
naming-good targets out l k w m e h = absurd (false≢true e)

row-good : (targets : Targets) (out : Outside) (l : Local) (f : Forest) → AllNaming f → NamesGood targets out l → AllGoodNames targets (nodes (decorate out l f))
unfolding decorate
row-good targets out l Nil a h = tt
row-good targets out l (Cons k w ns ks ts) a h =
    let m = decorate out (inner l k ks) ks in
    let next = beside l k (rule l k w (seen out l k w) m) in
    (naming-good targets out l k w m a.0 h, row-good targets out next ts a.1 (same-names targets out l next (λ n. naming-find out l k w (seen out l k w) m n a.0) h))

-- ---- groups of parameters

all-same : (targets : Targets) (m : Meaning) (ns : List (List ℕ)) → IsParameter targets m → AllParameters targets (all_as m ns)
all-same targets m [] h = tt
all-same targets m (n ∷ ns) h = (h, all-same targets m ns h)

both-parameters : (targets : Targets) (ds es : List (List ℕ × Meaning)) → AllParameters targets ds → AllParameters targets es → AllParameters targets (ds ++ es)
both-parameters targets [] es h g = g
both-parameters targets (d ∷ ds) es h g = (h.0, both-parameters targets ds es h.1 g)

named-parameters : (targets : Targets) (l : Local) (c : Class) (ns : List (List ℕ)) (a : Attributes) → is_type_class c ≡ false → IsGoodName targets a →
    AllParameters targets (all_as (record (declared_as c l.owner) { type = type_of_found a.found }) ns)
named-parameters targets l c ns a e h =
    all-same targets (record (declared_as c l.owner) { type = type_of_found a.found }) ns (parameter-good targets c l.owner (lowered a.word) a.found e h.carried h.good)

group-good : (targets : Targets) (l : Local) (k : Kind) (w : List ℕ) (s : Seen) (m : Marked) → is_group k ≡ true → AllGoodNames targets (nodes m) → AllParameters targets (rule l k w s m).defines
unfolding rule
group-good targets l kind.Valparam w s m e g =
    named-parameters targets l ValueName (names_in (kids_below (get_or (nodes m) 0 missing))) (get_or (nodes m) 1 missing).at refl (kid-name targets (nodes m) 1 g)
group-good targets l kind.Varparam w s m e g =
    named-parameters targets l ReferenceName (names_in (kids_below (get_or (nodes m) 0 missing))) (get_or (nodes m) 1 missing).at refl (kid-name targets (nodes m) 1 g)
group-good targets l (kind.Hole x) w s m e g = tt
group-good targets l k w s m e g = absurd (false≢true e)

groups-good : (targets : Targets) (out : Outside) (l : Local) (f : Forest) → AllGroups f → NamesGood targets out l → AllParameters targets (all_defines (nodes (decorate out l f)))
unfolding decorate
groups-good targets out l Nil a h = tt
groups-good targets out l (Cons k w ns ks ts) a h =
    let m = decorate out (inner l k ks) ks in
    let r = rule l k w (seen out l k w) m in
    let next = beside l k r in
    let below = row-good targets out (inner l k ks) ks a.1 (same-names targets out l (inner l k ks) (λ n. group-inner out l k ks n a.0) h) in
    both-parameters targets r.defines (all_defines (nodes (decorate out next ts))) (group-good targets l k w (seen out l k w) m a.0 below)
    (groups-good targets out next ts a.2 (same-names targets out l next (λ n. group-find out l k w (seen out l k w) m n a.0) h))

-- the parameters of a heading
params-rule : (l : Local) (w : List ℕ) (s : Seen) (m : Marked) → (rule l kind.Params w s m).defines ≡ all_defines (nodes m)
unfolding rule
params-rule l w s m = refl

heading-good : (targets : Targets) (out : Outside) (l : Local) (w : List ℕ) (ks : Forest) → AllGroups ks → NamesGood targets out l →
    AllParameters targets (rule l kind.Params w (seen out l kind.Params w) (decorate out (inner l kind.Params ks) ks)).defines
heading-good targets out l w ks a h =
    let m = decorate out (inner l kind.Params ks) ks in
    subst (AllParameters targets) (sym (params-rule l w (seen out l kind.Params w) m))
    (groups-good targets out (inner l kind.Params ks) ks a (same-names targets out l (inner l kind.Params ks) (params-inner out l ks) h))

pub parameters-good : (targets : Targets) (out : Outside) (l : Local) (t : Plain) → t.kind ≡ kind.Params → AllGroups t.kids → NamesGood targets out l → AllParameters targets (attributes_at out l t).defines
unfolding decorate
parameters-good targets out l t e a h =
    subst (λ (k : Kind). AllParameters targets (rule l k t.word (seen out l k t.word) (decorate out (inner l k t.kids) t.kids)).defines) (sym e) (heading-good targets out l t.word t.kids a h)

-- these hold
pub inside-law : InsideLaw
inside-law = record {
  found = found-carried;
  required = required-carried;
  result = type-good;
  parameter = parameter-good;
  parameters = parameters-good;
  firsts = firsts-good;
  start = block-start;
}
