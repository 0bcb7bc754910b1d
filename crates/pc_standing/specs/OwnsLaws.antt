-- The routines among the complete declarations of a block are its own, and before its routines there are none: lemmas.
use Rattle.std.proofs.Common.{◌≡◌, ℕ, Bool, true, false, inl, inr, if◌then◌else◌, List, [], ◌∷◌, ◌++◌, map, option_map, refl, sym, ◌∙◌, subst}
use Rattle.pc_syntax.specs.declared.kind.Kind.{Kind}
use Rattle.pc_syntax.specs.declared.kind.Kind.TheVariants as kind
use Rattle.pc_syntax.specs.Plain.{Forest, Nil, Cons, Plain, forest_of}
use Rattle.pc_syntax.specs.Words.{is_among}
use Rattle.pc_types.specs.Domains.{closed}
use Rattle.pc_types.specs.Shapes.{Owner, Domain, Typed}
use Rattle.pc_scope.specs.Headings.{first_name, names_of_first}
use Rattle.pc_rules.specs.Attributes.{Attributes, Marked, Done, Mark, first, nodes}
use Rattle.pc_rules.specs.ClosedTypes.{own_domains, carried, close_type}
use Rattle.pc_rules.specs.DeclaringNames.{all_as}
use Rattle.pc_rules.specs.Decorated.{seen, rule, decorate}
use Rattle.pc_rules.specs.Meanings.{Class, Meaning, VariableName, declared_as, Local, Outside, define, define_all, is_routine_class}
use Rattle.pc_rules.specs.NameClasses.{is_type_class}
use Rattle.pc_rules.specs.Places.{inner, pass, pass_all, beside}
use Rattle.pc_environment.specs.Decorating.{place_behind, place_after}
use Rattle.pc_needs.specs.Answers as answers
use Rattle.pc_needs.proofs.Owners.{inner-owner, beside-owner}
use Rattle.pc_standing.specs.DefinesLaws.{all-append, all-names, all-row, NodesDeclare, Plainly, Allowed, allowed-behind}
use Rattle.pc_standing.specs.Signed.{AllDeclared, HaveNoRoutine, NoRoutines}
use Rattle.pc_standing.specs.Standing.{Owns}

-- ---- what is complete at a place

all-define : (P : Class → Owner → Type 0) (l : Local) (n : List ℕ) (m : Meaning) → AllDeclared P l.known → P m.class m.owner → AllDeclared P (define l n m).known
all-define P l n m h g = which (is_among l.passed n)
  where
    which : (b : Bool) → AllDeclared P (if b then l.known else l.known ++ (n, m) ∷ [])
    which true = h
    which false = all-append P l.known ((n, m) ∷ []) h (g, tt)

all-define_all : (P : Class → Owner → Type 0) (l : Local) (ds : List (List ℕ × Meaning)) → AllDeclared P l.known → AllDeclared P ds → AllDeclared P (define_all l ds).known
all-define_all P l [] h g = h
all-define_all P l (d ∷ ds) h g = all-define_all P (define l d.0 d.1) ds (all-define P l d.0 d.1 h g.0) g.1

all-pass : (P : Class → Owner → Type 0) (l : Local) (n : List ℕ) → AllDeclared P l.known → AllDeclared P (pass l n).known
all-pass P l [] h = h
all-pass P l (c ∷ cs) h = h

all-pass_all : (P : Class → Owner → Type 0) (l : Local) (ds : List (List ℕ × Meaning)) → AllDeclared P l.known → AllDeclared P (pass_all l ds).known
all-pass_all P l [] h = h
all-pass_all P l (d ∷ ds) h = all-pass_all P (pass l d.0) ds (all-pass P l d.0 h)

-- a type's declaration, or another one
abbrev closed_if : Bool → List Domain → List ℕ × Meaning → List ℕ × Meaning
closed_if b table d = if b then (d.0, record d.1 { type = closed table (option_map (λ (t : Typed). t.shape) d.1.type) }) else d

close-one : (P : Class → Owner → Type 0) (table : List Domain) (d : List ℕ × Meaning) (b : Bool) → P d.1.class d.1.owner → P (closed_if b table d).1.class (closed_if b table d).1.owner
close-one P table d true h = h
close-one P table d false h = h

all-close : (P : Class → Owner → Type 0) (table : List Domain) (ds : List (List ℕ × Meaning)) → AllDeclared P ds → AllDeclared P (map (close_type table) ds)
all-close P table [] h = tt
all-close P table (d ∷ ds) h = (close-one P table d (is_type_class d.1.class) h.0, all-close P table ds h.1)

inner-known : (P : Class → Owner → Type 0) (l : Local) (k : Kind) (ks : Forest) → Plainly P l.owner → AllDeclared P l.known → AllDeclared P (inner l k ks).known
inner-known P l kind.Constdef ks g h = all-pass P l (first_name ks) h
inner-known P l kind.Typedef ks g h = all-pass P l (first_name ks) h
inner-known P l kind.Vardef ks g h =
    all-define_all P l (all_as (declared_as VariableName l.owner) (names_of_first ks)) h (all-names P (declared_as VariableName l.owner) (names_of_first ks) (g VariableName refl))
inner-known P l kind.Routines ks g h = h
inner-known P l k ks g h = h

beside-known : (P : Class → Owner → Type 0) (l : Local) (k : Kind) (a : Attributes) → AllDeclared P l.known → AllDeclared P a.defines → AllDeclared P (beside l k a).known
beside-known P l kind.Types a h g =
    all-close P (own_domains (define_all l a.defines).known ++ carried (define_all l a.defines).known) (define_all l a.defines).known (all-define_all P l a.defines h g)
beside-known P l kind.Procedure a h g = all-define_all P l a.defines h g
beside-known P l kind.Function a h g = all-define_all P l a.defines h g
beside-known P l kind.Funbody a h g = all-define_all P l a.defines h g
beside-known P l (kind.Hole s) a h g = h
beside-known P l kind.Valparam a h g = all-pass_all P l a.defines h
beside-known P l kind.Varparam a h g = all-pass_all P l a.defines h
beside-known P l kind.Params a h g = all-pass_all P l a.defines h
beside-known P l k a h g = all-define_all P l a.defines h g

-- ---- the places of a block

-- a place of this block, of whose complete declarations something holds
abbrev pub Complete : (Class → Owner → Type 0) → Owner → Local → Type 0
Complete P o l = (l.owner ≡ o) × AllDeclared P l.known

-- the first kid of a node
all-inner : (P : Class → Owner → Type 0) (o : Owner) (l : Local) (k : Kind) (ks : Forest) → Plainly P o → Complete P o l → Complete P o (inner l k ks)
all-inner P o l k ks g h = (inner-owner l k ks ∙ h.0, inner-known P l k ks (λ c none. subst (P c) (sym h.0) (g c none)) h.1)

first-declares : (P : Class → Owner → Type 0) (m : Marked) → NodesDeclare P (nodes m) → AllDeclared P (first m).defines
first-declares P Done h = tt
first-declares P (Mark a below rest) h = h.0

-- behind a node
all-behind : (P : Class → Owner → Type 0) (o : Owner) (out : Outside) (l : Local) (k : Kind) (w : List ℕ) (ns : List (List ℕ)) (ks : Forest) → Plainly P o → Allowed P o (Cons k w ns ks Nil) →
    Complete P o l → Complete P o (beside l k (first (decorate out l (Cons k w ns ks Nil))))
all-behind P o out l k w ns ks g r h =
    let a = first (decorate out l (Cons k w ns ks Nil)) in
    (beside-owner l k a ∙ h.0, beside-known P l k a h.1 (first-declares P (decorate out l (Cons k w ns ks Nil)) (all-row P o out l (Cons k w ns ks Nil) h.0 g r)))

alone : (P : Class → Owner → Type 0) (o : Owner) (k : Kind) (w : List ℕ) (ns : List (List ℕ)) (ks ts : Forest) → Allowed P o (Cons k w ns ks ts) → Allowed P o (Cons k w ns ks Nil)
alone P o k w ns ks ts (inl none) = inl (none.0, none.1, tt)
alone P o k w ns ks ts (inr all) = inr all

-- behind nodes in a row
all-after : (P : Class → Owner → Type 0) (o : Owner) (out : Outside) (l : Local) (ts : List Plain) → Plainly P o → Allowed P o (forest_of ts) → Complete P o l → Complete P o (place_after out l ts)
all-after P o out l [] g r h = h
all-after P o out l (t ∷ ts) g r h =
    all-after P o out (place_behind out l t) ts g (allowed-behind P o t.kind t.word t.notes t.kids (forest_of ts) r)
    (all-behind P o out l t.kind t.word t.notes t.kids g (alone P o t.kind t.word t.notes t.kids (forest_of ts) r) h)

-- behind some trees
all-trees : (P : Class → Owner → Type 0) (o : Owner) (out : Outside) (l : Local) (f : Forest) → Plainly P o → Allowed P o f → Complete P o l → Complete P o (answers.place_behind out l f)
unfolding answers.place_behind decorate
all-trees P o out l Nil g r h = h
all-trees P o out l (Cons k w ns ks ts) g r h =
    all-trees P o out (beside l k (rule l k w (seen out l k w) (decorate out (inner l k ks) ks))) ts g (allowed-behind P o k w ns ks ts r)
    (all-behind P o out l k w ns ks g (alone P o k w ns ks ts r) h)

-- ---- routines are the block's own

abbrev IsOwn : Owner → Class → Owner → Type 0
IsOwn o c p = is_routine_class c ≡ true → p ≡ o

own-plainly : (o : Owner) → Plainly (IsOwn o) o
own-plainly o c none = λ e. refl

pub owns-inner : (o : Owner) (l : Local) (k : Kind) (ks : Forest) → Owns o l → Owns o (inner l k ks)
owns-inner o l k ks h = all-inner (IsOwn o) o l k ks (own-plainly o) h

pub owns-behind : (o : Owner) (out : Outside) (l : Local) (t : Plain) → Owns o l → Owns o (place_behind out l t)
owns-behind o out l t h = all-behind (IsOwn o) o out l t.kind t.word t.notes t.kids (own-plainly o) (inr (λ c e. refl)) h

pub owns-after : (o : Owner) (out : Outside) (l : Local) (ts : List Plain) → Owns o l → Owns o (place_after out l ts)
owns-after o out l ts h = all-after (IsOwn o) o out l ts (own-plainly o) (inr (λ c e. refl)) h

pub owns-trees : (o : Owner) (out : Outside) (l : Local) (f : Forest) → Owns o l → Owns o (answers.place_behind out l f)
owns-trees o out l f h = all-trees (IsOwn o) o out l f (own-plainly o) (inr (λ c e. refl)) h

-- ---- before the routines there are none

abbrev IsNone : Class → Owner → Type 0
IsNone c p = is_routine_class c ≡ false

pub none-inner : (l : Local) (k : Kind) (ks : Forest) → NoRoutines l.known → NoRoutines (inner l k ks).known
none-inner l k ks h = (all-inner IsNone l.owner l k ks (λ c none. none) (refl, h)).1

pub none-behind : (out : Outside) (l : Local) (t : Plain) → HaveNoRoutine (Cons t.kind t.word t.notes t.kids Nil) → NoRoutines l.known → NoRoutines (place_behind out l t).known
none-behind out l t none h = (all-behind IsNone l.owner out l t.kind t.word t.notes t.kids (λ c e. e) (inl none) (refl, h)).1

pub none-after : (out : Outside) (l : Local) (ts : List Plain) → HaveNoRoutine (forest_of ts) → NoRoutines l.known → NoRoutines (place_after out l ts).known
none-after out l ts none h = (all-after IsNone l.owner out l ts (λ c e. e) (inl none) (refl, h)).1

pub none-trees : (out : Outside) (l : Local) (f : Forest) → HaveNoRoutine f → NoRoutines l.known → NoRoutines (answers.place_behind out l f).known
none-trees out l f none h = (all-trees IsNone l.owner out l f (λ c e. e) (inl none) (refl, h)).1
