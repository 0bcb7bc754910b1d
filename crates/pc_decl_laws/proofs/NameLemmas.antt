-- Each name that some trees declare stands where a name is, inside the routine around the trees.
use Rattle.std.specs.Prelude.{ℕ, suc, ◌≡◌, Bool, true, false, if◌then◌else◌, List, [], ◌∷◌, Option, Some, None, ◌++◌, not}
use Rattle.std.specs.Option.{option_map_or}
use Rattle.std.proofs.Common.{refl, ap, sym, ◌∙◌, true≢false, inl, inr}
use Rattle.pc_syntax.specs.declared.kind.Kind.{Kind}
use Rattle.pc_syntax.specs.declared.kind.Kind.TheVariants as kind
use Rattle.pc_syntax.specs.declared.class.Class.TheVariants as class
use Rattle.pc_syntax.specs.Classes.{has}
use Rattle.pc_syntax.specs.Layout.{layout}
use Rattle.pc_syntax.specs.Plain.{Forest, Nil, Cons, Plain, count, kinds}
use Rattle.pc_syntax.specs.Sorts.{is_hole}
use Rattle.pc_syntax.specs.WellFormed.{WellFormed, fits_some}
use Rattle.pc_syntax.specs.Words.{lowered}
use Rattle.pc_scope.specs.Declarations.{Declared, names_at, name_at, names_below, declared_by_node, declared_at}
use Rattle.pc_scope.specs.Headings.{is_routine_kind}
use Rattle.pc_decl.specs.FieldTypes.{is_field_kind}
use Rattle.pc_decl.specs.Nodes.{above, kind_at}
use Rattle.pc_needs.proofs.BodyKinds.{Passes}
use Rattle.pc_needs.proofs.Lists.{Each, each-append}
use Rattle.pc_decl_laws.proofs.KindLemmas.{FirstPasses, names_one, one-named, names_more, more-named, name-kind, listed, is_other, field-row}
use Rattle.pc_decl_laws.proofs.LeadLemmas.{tree_of, InProgram, program-at, Lifts, LiftsFirst, lifts-behind, first-behind, lifts-kids, kids-first}

-- a name stands where the program has it, inside this routine, and isn't that of a field
pub record Stands (t : Plain) (h : List ℕ) (d : Declared) : Type 0 where
  pub node : Plain
  pub here : InProgram t d.place node h
  pub named : node.kind ≡ kind.Name
  pub spelled : lowered node.word ≡ d.name
  pub free : is_field_kind (kind_at t (above (above d.place))) ≡ false

-- the place above a kid
pub above-kid : (p : List ℕ) (i : ℕ) → above (p ++ i ∷ []) ≡ p
above-kid [] i = refl
above-kid (a ∷ []) i = refl
above-kid (a ∷ b ∷ p) i = ap (λ (q : List ℕ). a ∷ q) (above-kid (b ∷ p) i)

-- the kind of the node to which a path leads
pub kind-there : (t : Plain) (q : List ℕ) (x : Plain) (h : List ℕ) → InProgram t q x h → kind_at t q ≡ x.kind
kind-there t q x h l = ap (λ (o : Option Plain). option_map_or (λ (n : Plain). n.kind) o kind.Empty) (program-at t q x h l)

-- ---- names

pub names-stand : (t : Plain) (h : List ℕ) (d : Option (List ℕ)) (p : List ℕ) (j : ℕ) (f : Forest) → LiftsFirst t h p j f → Passes (has class.Name) f →
    is_field_kind (kind_at t (above p)) ≡ false → Each (Stands t h) (names_at d p j f)
names-stand t h d p j Nil lift pass none = tt
names-stand t h d p j (Cons k w ns ks ts) lift pass none = which (names-stand t h d p (suc j) ts (first-behind t h p j k w ns ks ts lift) pass.1 none) (is_hole k) refl where
  which : Each (Stands t h) (names_at d p (suc j) ts) → (z : Bool) → is_hole k ≡ z →
      Each (Stands t h) (if z then names_at d p (suc j) ts else record { name = lowered w; place = p ++ j ∷ []; definition = d } ∷ names_at d p (suc j) ts)
  which behind true e = behind
  which behind false e = (
    record {
      node = tree_of k w ns ks;
      here = lift j (tree_of k w ns ks) h (inl (refl, refl, refl));
      named = name-kind k pass.0 e;
      spelled = refl;
      free = ap (λ (q : List ℕ). is_field_kind (kind_at t (above q))) (above-kid p j) ∙ none;
    },
    behind,
  )

-- the first kid alone
only-first : (t : Plain) (h q : List ℕ) (k : Kind) (w : List ℕ) (ns : List (List ℕ)) (ks ts : Forest) → LiftsFirst t h q 1 (Cons k w ns ks ts) → LiftsFirst t h q 1 (Cons k w ns ks Nil)
only-first t h q k w ns ks ts lift j x g (inl l) = lift j x g (inl l)
only-first t h q k w ns ks ts lift j x g (inr l) = absurd l

one-stands : (t : Plain) (h : List ℕ) (d : Option (List ℕ)) (q : List ℕ) (f : Forest) → LiftsFirst t h q 1 f → FirstPasses (has class.Name) f →
    is_field_kind (kind_at t (above q)) ≡ false → Each (Stands t h) (name_at d q f)
one-stands t h d q Nil lift pass none = tt
one-stands t h d q (Cons k w ns ks ts) lift pass none = names-stand t h d q 1 (Cons k w ns ks Nil) (only-first t h q k w ns ks ts lift) (pass, tt) none

-- a list of names is no routine
names-plain : (k : Kind) → has class.Names k ≡ true → is_routine_kind k ≡ false
names-plain kind.Names e = refl
names-plain _ e = absurd (true≢false (sym e))

more-stand : (t : Plain) (h q : List ℕ) (f : Forest) → Lifts t h q 1 f → WellFormed f → FirstPasses (has class.Names) f → is_field_kind (kind_at t q) ≡ false →
    Each (Stands t h) (names_below q f)
more-stand t h q Nil lift well pass none = tt
more-stand t h q (Cons k w ns ks ts) lift well pass none =
    names-stand t h None (q ++ 1 ∷ []) 1 ks (kids-first t h q 1 k w ns ks ts lift) (listed k w ks pass well.0)
    (ap (λ (p : List ℕ). is_field_kind (kind_at t p)) (above-kid q 1) ∙ none)

-- ---- what a node declares

-- a node that declares several names is no routine and no field
more-plain : (k : Kind) → names_more k ≡ true → is_routine_kind k ≡ false
more-plain kind.Vardef e = refl
more-plain kind.Enum e = refl
more-plain kind.Valparam e = refl
more-plain kind.Varparam e = refl
more-plain _ e = absurd (true≢false (sym e))

more-no-field : (k : Kind) → names_more k ≡ true → is_field_kind k ≡ false
more-no-field kind.Vardef e = refl
more-no-field kind.Enum e = refl
more-no-field kind.Valparam e = refl
more-no-field kind.Varparam e = refl
more-no-field _ e = absurd (true≢false (sym e))

module _ (t : Plain) (h p : List ℕ) (c : ℕ) (w : List ℕ) (ns : List (List ℕ)) (ks ts : Forest) where
  one-of : (k : Kind) (d : Option (List ℕ)) → names_one k ≡ true → Lifts t h p c (Cons k w ns ks ts) → fits_some (layout k w (count ks)) (kinds ks) ≡ true →
      (names_one k ≡ true → is_field_kind (kind_at t p) ≡ false) → Each (Stands t h) (name_at d (p ++ c ∷ []) ks)
  one-of k d e lift fit none =
      one-stands t h d (p ++ c ∷ []) ks (kids-first t h p c k w ns ks ts lift) (one-named k w ks e fit)
      (ap (λ (q : List ℕ). is_field_kind (kind_at t q)) (above-kid p c) ∙ none e)

  more-of : (k : Kind) → names_more k ≡ true → Lifts t h p c (Cons k w ns ks ts) → fits_some (layout k w (count ks)) (kinds ks) ≡ true → WellFormed ks →
      Each (Stands t h) (names_below (p ++ c ∷ []) ks)
  more-of k e lift fit well =
      more-stand t h (p ++ c ∷ []) ks (lifts-kids t h p c k w ns ks ts (more-plain k e) lift) well (more-named k w ks e fit)
      (ap is_field_kind (kind-there t (p ++ c ∷ []) (tree_of k w ns ks) h (lift c [] (tree_of k w ns ks) h (inl (refl, refl, refl)))) ∙ more-no-field k e)

  node-stands : (k : Kind) → Lifts t h p c (Cons k w ns ks ts) → fits_some (layout k w (count ks)) (kinds ks) ≡ true → WellFormed ks →
      (names_one k ≡ true → is_field_kind (kind_at t p) ≡ false) → Each (Stands t h) (declared_by_node k (p ++ c ∷ []) ks)
  node-stands kind.Constdef lift fit well none = one-of kind.Constdef (Some (p ++ c ∷ [])) refl lift fit none
  node-stands kind.Typedef lift fit well none = one-of kind.Typedef (Some (p ++ c ∷ [])) refl lift fit none
  node-stands kind.Vardef lift fit well none = more-of kind.Vardef refl lift fit well
  node-stands kind.Enum lift fit well none = more-of kind.Enum refl lift fit well
  node-stands kind.Valparam lift fit well none = more-of kind.Valparam refl lift fit well
  node-stands kind.Varparam lift fit well none = more-of kind.Varparam refl lift fit well
  node-stands kind.Procedure lift fit well none = one-of kind.Procedure None refl lift fit none
  node-stands kind.Function lift fit well none = one-of kind.Function None refl lift fit none
  node-stands kind.Funbody lift fit well none = one-of kind.Funbody None refl lift fit none
  node-stands _ lift fit well none = tt

-- ---- what trees declare

-- where a field is above some trees, none of them declares one name
abbrev pub FitsAbove : Plain → List ℕ → Forest → Type 0
FitsAbove t p f = is_field_kind (kind_at t p) ≡ true → Passes is_other f

no-field : (b z : Bool) → (b ≡ true → not z ≡ true) → z ≡ true → b ≡ false
no-field false z h e = refl
no-field true true h e = absurd (true≢false (sym (h refl)))
no-field true false h e = absurd (true≢false (sym e))

pub trees-stand : (t : Plain) (h p : List ℕ) (c : ℕ) (f : Forest) → Lifts t h p c f → WellFormed f → FitsAbove t p f → Each (Stands t h) (declared_at p c f)
trees-stand t h p c Nil lift well fit = tt
trees-stand t h p c (Cons k w ns ks ts) lift well fit =
    each-append (Stands t h) (declared_by_node k (p ++ c ∷ []) ks ++ (if is_routine_kind k then [] else declared_at (p ++ c ∷ []) 1 ks)) (declared_at p (suc c) ts)
    (each-append (Stands t h) (declared_by_node k (p ++ c ∷ []) ks) (if is_routine_kind k then [] else declared_at (p ++ c ∷ []) 1 ks)
    (node-stands t h p c w ns ks ts k lift well.0 well.3 (no-field (is_field_kind (kind_at t p)) (names_one k) (λ e. (fit e).0)))
    (below (is_routine_kind k) (λ e. trees-stand t h (p ++ c ∷ []) 1 ks (lifts-kids t h p c k w ns ks ts e lift) well.3 (λ g. field-row k w ks (sym (ap is_field_kind there) ∙ g) well.0))))
    (trees-stand t h p (suc c) ts (lifts-behind t h p c k w ns ks ts lift) well.4 (λ e. (fit e).1)) where
      there : kind_at t (p ++ c ∷ []) ≡ k
      there = kind-there t (p ++ c ∷ []) (tree_of k w ns ks) h (lift c [] (tree_of k w ns ks) h (inl (refl, refl, refl)))

      below : (z : Bool) → (z ≡ false → Each (Stands t h) (declared_at (p ++ c ∷ []) 1 ks)) → Each (Stands t h) (if z then [] else declared_at (p ++ c ∷ []) 1 ks)
      below true f = tt
      below false f = f refl
