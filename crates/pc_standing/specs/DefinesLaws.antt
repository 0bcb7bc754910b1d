-- What nodes declare, by class and block: lemmas.
use Rattle.std.proofs.Common.{◌≡◌, ℕ, zero, suc, Bool, true, false, ◌⊎◌, inl, inr, if◌then◌else◌, List, [], ◌∷◌, ◌++◌, get_or, Option, refl, sym, ◌∙◌, subst, true≢false}
use Rattle.pc_syntax.specs.declared.kind.Kind.{Kind}
use Rattle.pc_syntax.specs.declared.kind.Kind.TheVariants as kind
use Rattle.pc_syntax.specs.Plain.{Forest, Nil, Cons}
use Rattle.pc_scope.specs.Headings.{is_routine_kind}
use Rattle.pc_types.specs.Shapes.{Owner, Shape}
use Rattle.pc_rules.specs.Attributes.{Marked, Node, nodes, missing, kids_below}
use Rattle.pc_rules.specs.Declarations.{is_later_declaration}
use Rattle.pc_rules.specs.DeclaringNames.{names_in, all_as}
use Rattle.pc_rules.specs.Decorated.{Seen, seen, rule, decorate}
use Rattle.pc_rules.specs.Denoters.{elements}
use Rattle.pc_rules.specs.HandedOn.{all_defines}
use Rattle.pc_rules.specs.Meanings.{Class, Meaning, ElementName, Local, Outside, is_routine_class}
use Rattle.pc_rules.specs.Places.{inner, beside}
use Rattle.pc_environment.specs.QuietLaws.{rule-defines}
use Rattle.pc_needs.proofs.Owners.{inner-owner, beside-owner}
use Rattle.pc_standing.specs.Signed.{AllDeclared, HaveNoRoutine}

-- ---- lists of declarations

pub all-append : (P : Class → Owner → Type 0) (ds es : List (List ℕ × Meaning)) → AllDeclared P ds → AllDeclared P es → AllDeclared P (ds ++ es)
all-append P [] es h g = g
all-append P (d ∷ ds) es h g = (h.0, all-append P ds es h.1 g)

pub all-names : (P : Class → Owner → Type 0) (m : Meaning) (ns : List (List ℕ)) → P m.class m.owner → AllDeclared P (all_as m ns)
all-names P m [] h = tt
all-names P m (n ∷ ns) h = (h, all-names P m ns h)

all-elements : (P : Class → Owner → Type 0) (o : Owner) (t : Option Shape) (i : ℕ) (ns : List (List ℕ)) → P ElementName o → AllDeclared P (elements o t i ns)
all-elements P o t i [] h = tt
all-elements P o t i (n ∷ ns) h = (h, all-elements P o t (suc i) ns h)

all-one : (P : Class → Owner → Type 0) (b : Bool) (n : List ℕ) (m : Meaning) → P m.class m.owner → AllDeclared P (if b then [] else (n, m) ∷ [])
all-one P true n m h = tt
all-one P false n m h = (h, tt)

all-routine : (P : Class → Owner → Type 0) (later b : Bool) (n : List ℕ) (m : Meaning) → P m.class m.owner → AllDeclared P (if later then [] else (if b then [] else (n, m) ∷ []))
all-routine P true b n m h = tt
all-routine P false b n m h = all-one P b n m h

-- ---- what kids declare

-- of all that some nodes declare something holds
abbrev pub NodesDeclare : (Class → Owner → Type 0) → List Node → Type 0
NodesDeclare P [] = Unit {0}
NodesDeclare P (n ∷ ns) = AllDeclared P n.defines × NodesDeclare P ns

kids-together : (P : Class → Owner → Type 0) (ns : List Node) → NodesDeclare P ns → AllDeclared P (all_defines ns)
kids-together P [] h = tt
kids-together P (n ∷ ns) h = all-append P n.defines (all_defines ns) h.0 (kids-together P ns h.1)

pub kid-at : (P : Class → Owner → Type 0) (ns : List Node) (i : ℕ) → NodesDeclare P ns → AllDeclared P (get_or ns i missing).defines
kid-at P [] i h = tt
kid-at P (n ∷ ns) zero h = h.0
kid-at P (n ∷ ns) (suc i) h = kid-at P ns i h.1

one-kid : (P : Class → Owner → Type 0) (ns : List Node) → NodesDeclare P ns → AllDeclared P (all_defines (get_or ns 0 missing ∷ []))
one-kid P ns h = kids-together P (get_or ns 0 missing ∷ []) (kid-at P ns 0 h, tt)

two-kids : (P : Class → Owner → Type 0) (ns : List Node) → NodesDeclare P ns → AllDeclared P (all_defines (get_or ns 0 missing ∷ get_or ns 1 missing ∷ []))
two-kids P ns h = kids-together P (get_or ns 0 missing ∷ get_or ns 1 missing ∷ []) (kid-at P ns 0 h, (kid-at P ns 1 h, tt))

-- ---- the rules

-- what holds of each declaration of a block that is no routine, and of routines where there are some
abbrev pub Plainly : (Class → Owner → Type 0) → Owner → Type 0
Plainly P o = (c : Class) → is_routine_class c ≡ false → P c o

-- at each node
pub all-rule : (P : Class → Owner → Type 0) (l : Local) (k : Kind) (w : List ℕ) (s : Seen) (m : Marked) → Plainly P l.owner → (is_routine_kind k ≡ true → (c : Class) → P c l.owner) →
    NodesDeclare P (nodes m) → AllDeclared P (rule l k w s m).defines
unfolding rule
all-rule P l kind.Constdef w s m g r h = all-one P _ _ _ (g _ refl)
all-rule P l kind.Typedef w s m g r h = all-append P _ _ (all-one P _ _ _ (g _ refl)) (kid-at P (nodes m) 1 h)
all-rule P l kind.Vardef w s m g r h = all-append P _ _ (all-names P _ (names_in (kids_below (get_or (nodes m) 0 missing))) (g _ refl)) (kid-at P (nodes m) 1 h)
all-rule P l kind.Field w s m g r h = two-kids P (nodes m) h
all-rule P l kind.Valparam w s m g r h = all-names P _ (names_in (kids_below (get_or (nodes m) 0 missing))) (g _ refl)
all-rule P l kind.Varparam w s m g r h = all-names P _ (names_in (kids_below (get_or (nodes m) 0 missing))) (g _ refl)
all-rule P l kind.Procedure w s m g r h = all-routine P (is_later_declaration l) _ _ _ (r refl _)
all-rule P l kind.Function w s m g r h = all-routine P (is_later_declaration l) _ _ _ (r refl _)
all-rule P l kind.Funbody w s m g r h = all-routine P (is_later_declaration l) _ _ _ (r refl _)
all-rule P l kind.Tname w s m g r h = one-kid P (nodes m) h
all-rule P l kind.Enum w s m g r h = all-elements P l.owner _ 0 (names_in (kids_below (get_or (nodes m) 0 missing))) (g _ refl)
all-rule P l kind.Subrange w s m g r h = two-kids P (nodes m) h
all-rule P l kind.Array w s m g r h = two-kids P (nodes m) h
all-rule P l kind.Record w s m g r h = one-kid P (nodes m) h
all-rule P l kind.Record0 w s m g r h = tt
all-rule P l kind.Setof w s m g r h = one-kid P (nodes m) h
all-rule P l kind.Packed w s m g r h = one-kid P (nodes m) h
all-rule P l kind.Pointer w s m g r h = one-kid P (nodes m) h
all-rule P l kind.Params w s m g r h = kids-together P (nodes m) h
all-rule P l kind.Indexes w s m g r h = kids-together P (nodes m) h
all-rule P l kind.Consts w s m g r h = kids-together P (nodes m) h
all-rule P l kind.Types w s m g r h = kids-together P (nodes m) h
all-rule P l kind.Vars w s m g r h = kids-together P (nodes m) h
all-rule P l kind.Routines w s m g r h = kids-together P (nodes m) h
all-rule P l kind.Fields w s m g r h = kids-together P (nodes m) h
all-rule P l kind.Program w s m g r h = tt
all-rule P l kind.Block w s m g r h = tt
all-rule P l kind.Forward w s m g r h = tt
all-rule P l kind.Names w s m g r h = tt
all-rule P l kind.Heads w s m g r h = tt
all-rule P l k w s m g r h = subst (AllDeclared P) (sym (rule-defines l k w s m refl)) tt

-- none stands there, or it holds of routines too
abbrev pub Allowed : (Class → Owner → Type 0) → Owner → Forest → Type 0
Allowed P o f = HaveNoRoutine f ⊎ ((c : Class) → P c o)

pub allowed-here : (P : Class → Owner → Type 0) (o : Owner) (k : Kind) (w : List ℕ) (ns : List (List ℕ)) (ks ts : Forest) → Allowed P o (Cons k w ns ks ts) →
    is_routine_kind k ≡ true → (c : Class) → P c o
allowed-here P o k w ns ks ts (inl none) e = absurd (true≢false (sym e ∙ none.0))
allowed-here P o k w ns ks ts (inr all) e = all

pub allowed-below : (P : Class → Owner → Type 0) (o : Owner) (k : Kind) (w : List ℕ) (ns : List (List ℕ)) (ks ts : Forest) → Allowed P o (Cons k w ns ks ts) → Allowed P o ks
allowed-below P o k w ns ks ts (inl none) = inl none.1
allowed-below P o k w ns ks ts (inr all) = inr all

pub allowed-behind : (P : Class → Owner → Type 0) (o : Owner) (k : Kind) (w : List ℕ) (ns : List (List ℕ)) (ks ts : Forest) → Allowed P o (Cons k w ns ks ts) → Allowed P o ts
allowed-behind P o k w ns ks ts (inl none) = inl none.2
allowed-behind P o k w ns ks ts (inr all) = inr all

pub moved-plainly : (P : Class → Owner → Type 0) (o p : Owner) → p ≡ o → Plainly P o → Plainly P p
moved-plainly P o p e g = λ c none. subst (P c) (sym e) (g c none)

-- at all nodes of a row
pub all-row : (P : Class → Owner → Type 0) (o : Owner) (out : Outside) (l : Local) (f : Forest) → l.owner ≡ o → Plainly P o → Allowed P o f → NodesDeclare P (nodes (decorate out l f))
unfolding decorate
all-row P o out l Nil e g r = tt
all-row P o out l (Cons k w ns ks ts) e g r =
    let below = decorate out (inner l k ks) ks in
    let a = rule l k w (seen out l k w) below in (
      all-rule P l k w (seen out l k w) below (moved-plainly P o l.owner e g) (λ q c. subst (P c) (sym e) (allowed-here P o k w ns ks ts r q c))
          (all-row P o out (inner l k ks) ks (inner-owner l k ks ∙ e) g (allowed-below P o k w ns ks ts r)),
      all-row P o out (beside l k a) ts (beside-owner l k a ∙ e) g (allowed-behind P o k w ns ks ts r),
    )
