-- The kind of the node that declares a name is that of the node at which the name is met.
use Rattle.std.specs.Prelude.{ℕ, suc, ◌≡◌, ◌+◌, Bool, true, false, if◌then◌else◌, List, [], ◌∷◌, ◌++◌, Option, Some, None, map}
use Rattle.std.proofs.Common.{refl, ap, sym, subst, ◌∙◌, true≢false, inl, arith}
use Rattle.pc_syntax.specs.declared.kind.Kind.{Kind}
use Rattle.pc_syntax.specs.declared.kind.Kind.TheVariants as kind
use Rattle.pc_syntax.specs.declared.class.Class.TheVariants as class
use Rattle.pc_syntax.specs.Classes.{has}
use Rattle.pc_syntax.specs.Layout.{layout}
use Rattle.pc_syntax.specs.Plain.{Forest, Nil, Cons, Plain, count, kinds}
use Rattle.pc_syntax.specs.Sorts.{is_hole}
use Rattle.pc_syntax.specs.WellFormed.{WellFormed, fits_some}
use Rattle.pc_syntax.specs.Words.{lowered}
use Rattle.pc_scope.specs.Blocks.{block_kids, kid_count}
use Rattle.pc_scope.specs.Declarations.{Declared, names_at, name_at, names_below, declared_by_node, declared_at}
use Rattle.pc_scope.specs.Headings.{is_routine_kind}
use Rattle.pc_scope.specs.Waiting.{parameters_of}
use Rattle.pc_rules.specs.Routines.{Routine}
use Rattle.pc_decl.specs.Annotated.{annotated}
use Rattle.pc_decl.specs.DeclsText.{kind_above, declaring_kind}
use Rattle.pc_decl.specs.Nodes.{above, kind_at, kids_at}
use Rattle.pc_needs.proofs.BodyParts.{BlockLast}
use Rattle.pc_needs.proofs.Lists.{Each, each-append}
use Rattle.pc_decl_laws.specs.Kinds.{of_kind, kinds_at, parameter_kinds, routine_kinds, KindNamesLaw, DeclaringLaw, KindsLaw}
use Rattle.pc_decl_laws.proofs.KindLemmas.{FirstPasses, names_one, names_more, more-named}
use Rattle.pc_decl_laws.proofs.LeadLemmas.{tree_of, Lifts, LiftsBelow, lifts-behind, below-behind, below-kids, lifts-kids}
use Rattle.pc_decl_laws.proofs.NameLemmas.{above-kid, kind-there}
use Rattle.pc_decl_laws.proofs.RoutineLemmas.{IsRooted}
use Rattle.pc_decl_laws.proofs.TypeLemmas.{IsKnown, annotations-known, each-among}

-- ---- names without their kinds

bare-append : (xs ys : List (Declared × Kind)) → map (λ (x : Declared × Kind). x.0) (xs ++ ys) ≡ map (λ (x : Declared × Kind). x.0) xs ++ map (λ (x : Declared × Kind). x.0) ys
bare-append [] ys = refl
bare-append (x ∷ xs) ys = ap (λ (ds : List Declared). x.0 ∷ ds) (bare-append xs ys)

bare-kind : (k : Kind) (ds : List Declared) → map (λ (x : Declared × Kind). x.0) (of_kind k ds) ≡ ds
bare-kind k [] = refl
bare-kind k (d ∷ ds) = ap (λ (es : List Declared). d ∷ es) (bare-kind k ds)

bare-trees : (p : List ℕ) (i : ℕ) (f : Forest) → map (λ (x : Declared × Kind). x.0) (kinds_at p i f) ≡ declared_at p i f
bare-trees p i Nil = refl
bare-trees p i (Cons k w ns ks ts) =
    bare-append (of_kind k (declared_by_node k (p ++ i ∷ []) ks) ++ (if is_routine_kind k then [] else kinds_at (p ++ i ∷ []) 1 ks)) (kinds_at p (suc i) ts)
    ∙ ap (λ (ds : List Declared). ds ++ map (λ (x : Declared × Kind). x.0) (kinds_at p (suc i) ts))
    (bare-append (of_kind k (declared_by_node k (p ++ i ∷ []) ks)) (if is_routine_kind k then [] else kinds_at (p ++ i ∷ []) 1 ks))
    ∙ (λ z. bare-kind k (declared_by_node k (p ++ i ∷ []) ks) z ++ below (bare-trees (p ++ i ∷ []) 1 ks) (is_routine_kind k) z ++ bare-trees p (suc i) ts z) where
      below : map (λ (x : Declared × Kind). x.0) (kinds_at (p ++ i ∷ []) 1 ks) ≡ declared_at (p ++ i ∷ []) 1 ks → (b : Bool) →
          map (λ (x : Declared × Kind). x.0) (if b then [] else kinds_at (p ++ i ∷ []) 1 ks) ≡ (if b then [] else declared_at (p ++ i ∷ []) 1 ks)
      below e true = refl
      below e false = e

bare-parameters : (q : List ℕ) (f : Forest) → map (λ (x : Declared × Kind). x.0) (parameter_kinds q f) ≡ parameters_of q f
bare-parameters q (Cons k w ns ks (Cons kind.Params v ms js ts)) = bare-trees (q ++ 2 ∷ []) 1 js
bare-parameters q f = refl

kind-names : KindNamesLaw
kind-names t r =
    bare-append (if r.is_later then [] else parameter_kinds r.place (kids_at t r.place)) (kinds_at (r.place ++ r.block_kid ∷ []) 1 (block_kids (kids_at t r.place)))
    ∙ (λ z. heading r.is_later z ++ bare-trees (r.place ++ r.block_kid ∷ []) 1 (block_kids (kids_at t r.place)) z) where
      heading : (b : Bool) → map (λ (x : Declared × Kind). x.0) (if b then [] else parameter_kinds r.place (kids_at t r.place)) ≡ (if b then [] else parameters_of r.place (kids_at t r.place))
      heading true = refl
      heading false = bare-parameters r.place (kids_at t r.place)

-- ---- kinds

-- the kind beside a name is that of the node that declares it
abbrev pub IsDeclarer : Plain → Declared × Kind → Type 0
IsDeclarer t x = declaring_kind t x.0.place ≡ x.1

-- the names of a list, where that holds of each place in it
kinds-names : (t : Plain) (g : Kind) (d : Option (List ℕ)) (p : List ℕ) (j : ℕ) (f : Forest) → ((i : ℕ) → declaring_kind t (p ++ i ∷ []) ≡ g) →
    Each (IsDeclarer t) (of_kind g (names_at d p j f))
kinds-names t g d p j Nil h = tt
kinds-names t g d p j (Cons k w ns ks ts) h = which (kinds-names t g d p (suc j) ts h) (is_hole k) where
  which : Each (IsDeclarer t) (of_kind g (names_at d p (suc j) ts)) → (z : Bool) →
      Each (IsDeclarer t) (of_kind g (if z then names_at d p (suc j) ts else record { name = lowered w; place = p ++ j ∷ []; definition = d } ∷ names_at d p (suc j) ts))
  which rest true = rest
  which rest false = (h j, rest)

kinds-one : (t : Plain) (g : Kind) (d : Option (List ℕ)) (q : List ℕ) (f : Forest) → ((i : ℕ) → declaring_kind t (q ++ i ∷ []) ≡ g) → Each (IsDeclarer t) (of_kind g (name_at d q f))
kinds-one t g d q Nil h = tt
kinds-one t g d q (Cons k w ns ks ts) h = kinds-names t g d q 1 (Cons k w ns ks Nil) h

-- the node itself, where a name stands right below it
one-above : (t : Plain) (q : List ℕ) (k : Kind) → names_one k ≡ true → kind_above t q k ≡ k
one-above t q kind.Names e = absurd (true≢false (sym e))
one-above t q _ e = refl

names-is : (k : Kind) → has class.Names k ≡ true → k ≡ kind.Names
names-is kind.Names e = refl
names-is _ e = absurd (true≢false (sym e))

more-plain : (k : Kind) → names_more k ≡ true → is_routine_kind k ≡ false
more-plain kind.Vardef e = refl
more-plain kind.Enum e = refl
more-plain kind.Valparam e = refl
more-plain kind.Varparam e = refl
more-plain _ e = absurd (true≢false (sym e))

-- or the node around the list of names
kinds-more : (t : Plain) (h q : List ℕ) (g : Kind) (f : Forest) → Lifts t h q 1 f → FirstPasses (has class.Names) f → kind_at t q ≡ g → Each (IsDeclarer t) (of_kind g (names_below q f))
kinds-more t h q g Nil lift pass e = tt
kinds-more t h q g (Cons k w ns ks ts) lift pass e = kinds-names t g None (q ++ 1 ∷ []) 1 ks each where
  each : (i : ℕ) → declaring_kind t ((q ++ 1 ∷ []) ++ i ∷ []) ≡ g
  each i =
      ap (λ (u : List ℕ). kind_above t ((q ++ 1 ∷ []) ++ i ∷ []) (kind_at t u)) (above-kid (q ++ 1 ∷ []) i)
      ∙ ap (kind_above t ((q ++ 1 ∷ []) ++ i ∷ [])) (kind-there t (q ++ 1 ∷ []) (tree_of k w ns ks) h (lift 1 [] (tree_of k w ns ks) h (inl (refl, refl, refl))) ∙ names-is k pass)
      ∙ ap (λ (u : List ℕ). kind_at t (above u)) (above-kid (q ++ 1 ∷ []) i)
      ∙ ap (kind_at t) (above-kid q 1)
      ∙ e

module _ (t : Plain) (h p : List ℕ) (c : ℕ) (w : List ℕ) (ns : List (List ℕ)) (ks ts : Forest) where
  there : (k : Kind) → Lifts t h p c (Cons k w ns ks ts) → kind_at t (p ++ c ∷ []) ≡ k
  there k lift = kind-there t (p ++ c ∷ []) (tree_of k w ns ks) h (lift c [] (tree_of k w ns ks) h (inl (refl, refl, refl)))

  one-of : (k : Kind) (d : Option (List ℕ)) → names_one k ≡ true → Lifts t h p c (Cons k w ns ks ts) → Each (IsDeclarer t) (of_kind k (name_at d (p ++ c ∷ []) ks))
  one-of k d e lift = kinds-one t k d (p ++ c ∷ []) ks (λ i.
      ap (λ (u : List ℕ). kind_above t ((p ++ c ∷ []) ++ i ∷ []) (kind_at t u)) (above-kid (p ++ c ∷ []) i)
      ∙ ap (kind_above t ((p ++ c ∷ []) ++ i ∷ [])) (there k lift)
      ∙ one-above t ((p ++ c ∷ []) ++ i ∷ []) k e)

  more-of : (k : Kind) → names_more k ≡ true → Lifts t h p c (Cons k w ns ks ts) → fits_some (layout k w (count ks)) (kinds ks) ≡ true →
      Each (IsDeclarer t) (of_kind k (names_below (p ++ c ∷ []) ks))
  more-of k e lift fit = kinds-more t h (p ++ c ∷ []) k ks (lifts-kids t h p c k w ns ks ts (more-plain k e) lift) (more-named k w ks e fit) (there k lift)

  kinds-node : (k : Kind) → Lifts t h p c (Cons k w ns ks ts) → fits_some (layout k w (count ks)) (kinds ks) ≡ true → Each (IsDeclarer t) (of_kind k (declared_by_node k (p ++ c ∷ []) ks))
  kinds-node kind.Constdef lift fit = one-of kind.Constdef (Some (p ++ c ∷ [])) refl lift
  kinds-node kind.Typedef lift fit = one-of kind.Typedef (Some (p ++ c ∷ [])) refl lift
  kinds-node kind.Vardef lift fit = more-of kind.Vardef refl lift fit
  kinds-node kind.Enum lift fit = more-of kind.Enum refl lift fit
  kinds-node kind.Valparam lift fit = more-of kind.Valparam refl lift fit
  kinds-node kind.Varparam lift fit = more-of kind.Varparam refl lift fit
  kinds-node kind.Procedure lift fit = one-of kind.Procedure None refl lift
  kinds-node kind.Function lift fit = one-of kind.Function None refl lift
  kinds-node kind.Funbody lift fit = one-of kind.Funbody None refl lift
  kinds-node _ lift fit = tt

kinds-trees : (t : Plain) (h p : List ℕ) (c : ℕ) (f : Forest) → Lifts t h p c f → WellFormed f → Each (IsDeclarer t) (kinds_at p c f)
kinds-trees t h p c Nil lift well = tt
kinds-trees t h p c (Cons k w ns ks ts) lift well =
    each-append (IsDeclarer t) (of_kind k (declared_by_node k (p ++ c ∷ []) ks) ++ (if is_routine_kind k then [] else kinds_at (p ++ c ∷ []) 1 ks)) (kinds_at p (suc c) ts)
    (each-append (IsDeclarer t) (of_kind k (declared_by_node k (p ++ c ∷ []) ks)) (if is_routine_kind k then [] else kinds_at (p ++ c ∷ []) 1 ks) (kinds-node t h p c w ns ks ts k lift well.0)
    (below (is_routine_kind k) (λ e. kinds-trees t h (p ++ c ∷ []) 1 ks (lifts-kids t h p c k w ns ks ts e lift) well.3)))
    (kinds-trees t h p (suc c) ts (lifts-behind t h p c k w ns ks ts lift) well.4) where
      below : (z : Bool) → (z ≡ false → Each (IsDeclarer t) (kinds_at (p ++ c ∷ []) 1 ks)) → Each (IsDeclarer t) (if z then [] else kinds_at (p ++ c ∷ []) 1 ks)
      below true f = tt
      below false f = f refl

-- ---- a routine

kinds-parameters : (t : Plain) (q : List ℕ) (f : Forest) → WellFormed f → LiftsBelow t q q 1 f → Each (IsDeclarer t) (parameter_kinds q f)
kinds-parameters t q (Cons k w ns ks (Cons kind.Params v ms js ts)) well lift =
    kinds-trees t q (q ++ 2 ∷ []) 1 js (below-kids t q q 2 kind.Params v ms js ts refl (below-behind t q q 1 k w ns ks (Cons kind.Params v ms js ts) lift)) well.4.3
kinds-parameters t q f well lift = tt

kinds-block : (t : Plain) (q : List ℕ) (c n : ℕ) (f : Forest) → WellFormed f → BlockLast f → c + kid_count f ≡ suc n → LiftsBelow t q q c f →
    Each (IsDeclarer t) (kinds_at (q ++ n ∷ []) 1 (block_kids f))
kinds-block t q c n Nil well last e lift = absurd last
kinds-block t q c n (Cons kind.Block w ns ks Nil) well last e lift =
    subst (λ (i : ℕ). Each (IsDeclarer t) (kinds_at (q ++ i ∷ []) 1 ks)) (omega (arith, e)) (kinds-trees t q (q ++ c ∷ []) 1 ks (below-kids t q q c kind.Block w ns ks Nil refl lift) well.3)
kinds-block t q c n (Cons kind.Block w ns ks (Cons j v ms js ts)) well last e lift = absurd (true≢false last.0)
kinds-block t q c n (Cons k w ns ks Nil) well last e lift = tt
kinds-block t q c n (Cons k w ns ks (Cons j v ms js ts)) well last e lift =
    kinds-block t q (suc c) n (Cons j v ms js ts) well.4 last.1 (omega (arith, e)) (below-behind t q q c k w ns ks (Cons j v ms js ts) lift)

kinds-rooted : (t : Plain) (r : Routine) → IsRooted t r → Each (IsDeclarer t) (routine_kinds t r)
kinds-rooted t r s =
    each-append (IsDeclarer t) (if r.is_later then [] else parameter_kinds r.place (kids_at t r.place)) (kinds_at (r.place ++ r.block_kid ∷ []) 1 (block_kids (kids_at t r.place)))
    (heading r.is_later) block where
      heading : (z : Bool) → Each (IsDeclarer t) (if z then [] else parameter_kinds r.place (kids_at t r.place))
      heading true = tt
      heading false = subst (λ (f : Forest). Each (IsDeclarer t) (parameter_kinds r.place f)) (sym s.here) (kinds-parameters t r.place s.kids s.well s.lift_below)

      block : Each (IsDeclarer t) (kinds_at (r.place ++ r.block_kid ∷ []) 1 (block_kids (kids_at t r.place)))
      block =
          subst (λ (f : Forest). Each (IsDeclarer t) (kinds_at (r.place ++ r.block_kid ∷ []) 1 (block_kids f))) (sym s.here)
          (subst (λ (n : ℕ). Each (IsDeclarer t) (kinds_at (r.place ++ n ∷ []) 1 (block_kids s.kids))) (sym s.count)
          (kinds-block t r.place 1 (kid_count s.kids) s.kids s.well s.last (omega arith) s.lift_below))

declaring : DeclaringLaw
declaring t r x proper a i =
    let k = each-among (IsKnown t) (annotated t).routines r a (annotations-known t proper) in
    each-among (IsDeclarer t) (routine_kinds t r.routine) x i (kinds-rooted t r.routine k.rooted)

pub kinds-law : KindsLaw
kinds-law = record { names = kind-names; kinds = declaring }
