-- The fields that are seen in the statement part of a routine.
use Rattle.std.specs.Prelude.{ℕ, suc, ◌≡◌, ◌⊎◌, ◌+◌, true, false, List, [], ◌∷◌, ◌++◌, Some}
use Rattle.std.specs.List.{flat_map}
use Rattle.std.proofs.Common.{refl, ap, sym, subst, ◌∙◌, true≢false, inl, inr, arith, append_assoc}
use Rattle.pc_syntax.specs.declared.kind.Kind.{Kind}
use Rattle.pc_syntax.specs.declared.kind.Kind.TheVariants as kind
use Rattle.pc_syntax.specs.Classes.{is_accesses, is_body}
use Rattle.pc_syntax.specs.Layout.{layout}
use Rattle.pc_syntax.specs.Places.{at}
use Rattle.pc_syntax.specs.Plain.{Forest, Nil, Cons, Plain, count, kinds}
use Rattle.pc_syntax.specs.WellFormed.{WellFormed, IsWellFormed, IsProper, fits_some}
use Rattle.pc_scope.specs.Blocks.{block_kids}
use Rattle.pc_rules.specs.Attributes.{first}
use Rattle.pc_rules.specs.Decorated.{decorate}
use Rattle.pc_rules.specs.Meanings.{Local, Outside}
use Rattle.pc_rules.specs.Outsides.{outside_of}
use Rattle.pc_rules.specs.OwnBlock.{own}
use Rattle.pc_rules.specs.Places.{inner, beside}
use Rattle.pc_rules.specs.RoutineList.{routines_of}
use Rattle.pc_rules.specs.Routines.{start_of}
use Rattle.pc_rule_laws.specs.Agreement.{Spot, spot}
use Rattle.pc_rule_laws.specs.Reached.{BehindIt, IntoIt, ToIt, leads}
use Rattle.pc_decl.specs.Annotated.{Annotation, annotated}
use Rattle.pc_decl.specs.Found.{found_on, attributes_at}
use Rattle.pc_decl.specs.Uses.{opened_on, opened_at}
use Rattle.pc_needs.proofs.BodyParts.{BlockLast}
use Rattle.pc_needs.proofs.BodyRows.{BlockRow, block-row}
use Rattle.pc_program_laws.specs.Routines.{with_bare_routines}
use Rattle.pc_program_laws.proofs.RoutineLemmas.{routines-law}
use Rattle.pc_decl_laws.specs.OwnTypes.{IsAmong}
use Rattle.pc_decl_laws.proofs.LeadLemmas.{tree_of}
use Rattle.pc_decl_laws.proofs.TypeLemmas.{IsKnown, annotations-known, each-among}
use Rattle.pc_use_laws.specs.FieldsSeen.{opens_at, LeadsTo, FieldsSeenLaw}
use Rattle.pc_use_laws.proofs.ClearLemmas.{block-law}
use Rattle.pc_use_laws.proofs.KnownLemmas.{knows-from}
use Rattle.pc_use_laws.proofs.OpenedLemmas.{at-below}
use Rattle.pc_use_laws.proofs.PlaceLemmas.{found-law}
use Rattle.pc_use_laws.proofs.RowLemmas.{Opened, Knows, Reaches}
use Rattle.pc_use_laws.proofs.SeatLemmas.{IsSeated, annotations-seated, seat-sits, seat-well}
use Rattle.pc_use_laws.proofs.SeenLemmas.{seen-below}
use Rattle.pc_use_laws.proofs.SitLemmas.{Sits, sits-kids}

-- ---- the block of a routine

-- it has none, or one with its five parts
block-fits : (f : Forest) → BlockLast f → WellFormed f → (block_kids f ≡ Nil) ⊎ ((w : List ℕ) × (fits_some (layout kind.Block w (count (block_kids f))) (kinds (block_kids f)) ≡ true))
block-fits Nil last well = absurd last
block-fits (Cons kind.Block w ns ks ts) last well = inr (w, well.0)
block-fits (Cons k w ns ks Nil) last well = inl refl
block-fits (Cons k w ns ks (Cons j v ms js ts)) last well = block-fits (Cons j v ms js ts) last.1 well.4

body-other : (k : Kind) → is_body k ≡ true → is_accesses k ≡ false
body-other kind.Accesses e = absurd (true≢false (sym e))
body-other _ e = refl

-- the way leads to the fifth part, or below it
fifth : (out : Outside) (l : Local) (k : Kind) (w : List ℕ) (ns : List (List ℕ)) (ks : Forest) (way : List ℕ) (s : Spot) → spot out l 5 (Cons k w ns ks Nil) (5 ∷ way) ≡ Some s → Reaches out l k ks s way
unfolding spot
fifth out l k w ns ks way s e =
    elim (leads out l 5 k w ns ks Nil 5 way s e) [
      | ToIt same end here kind ↦ subst (λ (z : List ℕ). Reaches out l k ks s z) (sym end) here
      | IntoIt same m more is apart f ↦ subst (λ (z : List ℕ). Reaches out l k ks s z) (sym is) f
      | BehindIt less f ↦ absurd (cc f)
    ]

-- no earlier part does
later-part : (out : Outside) (l : Local) (c : ℕ) (k : Kind) (w : List ℕ) (ns : List (List ℕ)) (ks ts : Forest) (way : List ℕ) (s : Spot) → (c ≡ 5 → ⊥) →
    spot out l c (Cons k w ns ks ts) (5 ∷ way) ≡ Some s → spot out (beside l k (first (decorate out l (Cons k w ns ks Nil)))) (suc c) ts (5 ∷ way) ≡ Some s
later-part out l c k w ns ks ts way s n e =
    elim (leads out l c k w ns ks ts 5 way s e) [
      | ToIt same end here kind ↦ absurd (n same)
      | IntoIt same m more is apart f ↦ absurd (n same)
      | BehindIt less f ↦ f
    ]

-- ---- its statement part

module _ (t : Plain) (r : Annotation) (proper : IsProper t) (among : IsAmong (annotated t).routines r) where
  abbrev out : Outside
  out = outside_of (routines_of t) r.routine

  abbrev o : List ℕ → Opened
  o = opens_at (annotated t)

  abbrev part : List ℕ
  part = r.routine.place ++ r.routine.block_kid ∷ 5 ∷ []

  pub known : IsKnown t r
  known = each-among (IsKnown t) (annotated t).routines r among (annotations-known t proper)

  seated : IsSeated t r.routine
  seated = each-among (λ (x : Annotation). IsSeated t x.routine) (annotated t).routines r among (annotations-seated t proper)

  marks : r.block ≡ decorate out (start_of r.routine) r.routine.block
  marks = ap (λ (a : Annotation). a.block) (sym known.found)

  -- what is found below the statement part
  below-part : (way : List ℕ) → attributes_at (annotated t) (part ++ way) ≡ found_on (5 ∷ way) (decorate out (start_of r.routine) r.routine.block)
  below-part way =
      ap (attributes_at (annotated t)) (append_assoc r.routine.place (r.routine.block_kid ∷ 5 ∷ []) way)
      ∙ found-law t r 5 way proper among (λ e. absurd (omega (arith, e)))
      ∙ ap (found_on (5 ∷ way)) marks

  no-more : (q : List ℕ) → q ++ [] ≡ q
  no-more [] = refl
  no-more (i ∷ q) = ap (λ (p : List ℕ). i ∷ p) (no-more q)

  -- at the statement part itself, and below it
  ends : (way : List ℕ) (l : Local) (k : Kind) (w : List ℕ) (ns : List (List ℕ)) (ks : Forest) (s : Spot) → l.fields ≡ [] → at part t ≡ Some (tree_of k w ns ks) → is_accesses k ≡ false →
      IsWellFormed (tree_of k w ns ks) → Knows o false part out (inner l k ks) 1 ks → Reaches out l k ks s way → s.local.fields ≡ flat_map o (opened_at t (part ++ way))
  ends [] l k w ns ks s none here n well knows reach =
      ap (λ (x : Local). x.fields) reach ∙ none ∙ ap (flat_map o) (sym (ap (opened_at t) (no-more part) ∙ block-law t r 5 proper among))
  ends (i ∷ rest) l k w ns ks s none here n well knows reach =
      seen-below o out (i ∷ rest) l part [] k w ns ks s none n well knows reach
      ∙ ap (flat_map o)
      (sym (at-below t (tree_of k w ns ks) part i rest proper here n ∙ ap (λ (z : List (List ℕ)). opened_on part z (i ∷ rest) (tree_of k w ns ks)) (block-law t r 5 proper among)))

  in-part : (f : Forest) (w : List ℕ) → r.routine.block ≡ own f → Sits t (r.routine.place ++ r.routine.block_kid ∷ []) 1 f → fits_some (layout kind.Block w (count f)) (kinds f) ≡ true → WellFormed f →
      (way : List ℕ) (s : Spot) → LeadsTo t r way s → s.local.fields ≡ flat_map o (opened_at t (part ++ way))
  unfolding decorate annotated
  in-part f w block sits fit well way s e =
      let b : BlockRow f = block-row w f fit well in
      let start : Local = start_of r.routine in
      let five : Forest = Cons b.j b.v5 b.n5 b.k5 Nil in
      let four : Forest = Cons kind.Routines b.v4 b.n4 (own b.k4) five in
      let three : Forest = Cons b.c b.v3 b.n3 b.k3 four in
      let two : Forest = Cons b.b b.v2 b.n2 b.k2 three in
      let all : Forest = Cons b.a b.v1 b.n1 b.k1 two in
      let is : r.routine.block ≡ all = block ∙ routines-law.own_block w f fit well ∙ ap with_bare_routines b.is in
      let l1 : Local = beside start b.a (first (decorate out start (Cons b.a b.v1 b.n1 b.k1 Nil))) in
      let l2 : Local = beside l1 b.b (first (decorate out l1 (Cons b.b b.v2 b.n2 b.k2 Nil))) in
      let l3 : Local = beside l2 b.c (first (decorate out l2 (Cons b.c b.v3 b.n3 b.k3 Nil))) in
      let l4 : Local = beside l3 kind.Routines (first (decorate out l3 (Cons kind.Routines b.v4 b.n4 (own b.k4) Nil))) in
      let s1 : spot out start 1 all (5 ∷ way) ≡ Some s = subst (λ (g : Forest). spot out start 1 g (5 ∷ way) ≡ Some s) is e in
      let s5 : spot out l4 5 five (5 ∷ way) ≡ Some s =
      later-part out l3 4 kind.Routines b.v4 b.n4 (own b.k4) five way s (λ n. absurd (omega (arith, n)))
      (later-part out l2 3 b.c b.v3 b.n3 b.k3 four way s (λ n. absurd (omega (arith, n)))
      (later-part out l1 2 b.b b.v2 b.n2 b.k2 three way s (λ n. absurd (omega (arith, n))) (later-part out start 1 b.a b.v1 b.n1 b.k1 two way s (λ n. absurd (omega (arith, n))) s1))) in
      let here : at part t ≡ Some (tree_of b.j b.v5 b.n5 b.k5) =
      ap (λ (q : List ℕ). at q t) (sym (append_assoc r.routine.place (r.routine.block_kid ∷ []) (5 ∷ []))) ∙ (subst (Sits t (r.routine.place ++ r.routine.block_kid ∷ []) 1) b.is sits).1.1.1.1.0 in
      let knows : Knows o false part out (inner l4 b.j b.k5) 1 b.k5 =
      knows-from (annotated t) false part out (inner l4 b.j b.k5) 0 b.k5 (sits-kids t part (tree_of b.j b.v5 b.n5 b.k5) here) b.body_well.3 (λ z. absurd (true≢false (sym z)))
      (λ i more. below-part ((0 + suc i) ∷ more)
      ∙ ap (λ (n : ℕ). found_on (5 ∷ n ∷ more) (decorate out start r.routine.block)) (from-none i)
      ∙ ap (λ (g : Forest). found_on (5 ∷ suc i ∷ more) (decorate out start g)) is) in
      ends way l4 b.j b.v5 b.n5 b.k5 s refl here (body-other b.j b.body) b.body_well knows (fifth out l4 b.j b.v5 b.n5 b.k5 way s s5) where
        from-none : (i : ℕ) → 0 + suc i ≡ suc i
        from-none i = omega arith

pub fields-seen-law : FieldsSeenLaw
unfolding own spot
fields-seen-law t r way s proper among e =
    let p : List ℕ = r.routine.place in
    by (seated t r proper among) e
    ∙ ap (λ (q : List ℕ). flat_map (opens_at (annotated t)) (opened_at t q)) (append_assoc p (r.routine.block_kid ∷ 5 ∷ []) way) where
      by : IsSeated t r.routine → LeadsTo t r way s → s.local.fields ≡ flat_map (opens_at (annotated t)) (opened_at t ((r.routine.place ++ r.routine.block_kid ∷ 5 ∷ []) ++ way))
      by seat e = which (block-fits seat.node.kids seat.last seat.well) where
        which : (block_kids seat.node.kids ≡ Nil) ⊎ ((w : List ℕ) × (fits_some (layout kind.Block w (count (block_kids seat.node.kids))) (kinds (block_kids seat.node.kids)) ≡ true)) →
            s.local.fields ≡ flat_map (opens_at (annotated t)) (opened_at t ((r.routine.place ++ r.routine.block_kid ∷ 5 ∷ []) ++ way))
        which (inl none) = absurd (cc (sym (ap (λ (f : Forest). spot (outside_of (routines_of t) r.routine) (start_of r.routine) 1 f (5 ∷ way)) (seat.block ∙ ap own none)) ∙ e))
        which (inr fit) = in-part t r proper among (block_kids seat.node.kids) fit.0 seat.block (seat-sits t r.routine seat) fit.1 (seat-well t r.routine seat) way s e
