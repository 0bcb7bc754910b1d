-- The fields that are seen below a node of a statement part are those of the accesses that are open there.
use Rattle.std.specs.Prelude.{ℕ, zero, suc, ◌≡◌, ◌+◌, ◌-◌, Bool, true, false, List, [], ◌∷◌, ◌++◌, Option, Some, slice_get}
use Rattle.std.specs.Option.{option_map_or}
use Rattle.std.specs.List.{flat_map}
use Rattle.std.proofs.Common.{refl, ap, sym, subst, ◌∙◌, true≢false, arith, append_assoc}
use Rattle.std.proofs.lemmas.Bool.{and_parts}
use Rattle.pc_syntax.specs.declared.kind.Kind.{Kind}
use Rattle.pc_syntax.specs.declared.kind.Kind.TheVariants as kind
use Rattle.pc_syntax.specs.declared.class.Class.TheVariants as class
use Rattle.pc_syntax.specs.Classes.{has, is_accesses}
use Rattle.pc_syntax.specs.Layout.{layout}
use Rattle.pc_syntax.specs.Parts.{kid_at}
use Rattle.pc_syntax.specs.Plain.{Forest, Nil, Cons, Plain, count, trees_of, kids_of}
use Rattle.pc_syntax.specs.WellFormed.{WellFormed, IsWellFormed, fits_some}
use Rattle.pc_rules.specs.Attributes.{Attributes, first, nodes}
use Rattle.pc_rules.specs.Decorated.{decorate, seen}
use Rattle.pc_rules.specs.HandedOn.{all_opens}
use Rattle.pc_rules.specs.ListRuleLaws.{rule-accesses}
use Rattle.pc_rules.specs.Meanings.{Local, Outside}
use Rattle.pc_rules.specs.Places.{inner, beside, opens_records}
use Rattle.pc_rule_laws.specs.Agreement.{Spot, spot}
use Rattle.pc_rule_laws.specs.Reached.{BehindIt, IntoIt, ToIt, leads}
use Rattle.pc_decl.specs.Uses.{accesses_before, open_count, opened_on}
use Rattle.pc_decl_laws.proofs.LeadLemmas.{tree_of}
use Rattle.pc_use_laws.specs.OpenedSteps.{opens_nothing}
use Rattle.pc_use_laws.proofs.OpenedLemmas.{WithKids, with-kids, kid-well, nothing-opened}
use Rattle.pc_use_laws.proofs.RowLemmas.{Opened, Knows, inner-fields, kids_before, Reaches, KidAt, kid-seen, all-opened}
use Rattle.pc_use_laws.proofs.AccessKindLemmas.{is_with, kid-other}

-- ---- what is seen this way below a node

module _ (o : List ℕ → Opened) (out : Outside) where
  -- from a node that is no list of accesses
  abbrev pub Claim : List ℕ → Type 0
  Claim [] = Unit {0}
  Claim (i ∷ rest) = (l : Local) (q : List ℕ) (around : List (List ℕ)) (k : Kind) (w : List ℕ) (ns : List (List ℕ)) (ks : Forest) (s : Spot) →
      l.fields ≡ flat_map o around → is_accesses k ≡ false → IsWellFormed (tree_of k w ns ks) → Knows o false q out (inner l k ks) 1 ks → spot out (inner l k ks) 1 ks (i ∷ rest) ≡ Some s →
      s.local.fields ≡ flat_map o (opened_on q around (i ∷ rest) (tree_of k w ns ks))

  -- at a node itself, or below it
  finish : (rest : List ℕ) (l : Local) (q : List ℕ) (around : List (List ℕ)) (k : Kind) (w : List ℕ) (ns : List (List ℕ)) (ks : Forest) (s : Spot) → Claim rest →
      l.fields ≡ flat_map o around → is_accesses k ≡ false → IsWellFormed (tree_of k w ns ks) → Knows o (is_accesses k) q out (inner l k ks) 1 ks → Reaches out l k ks s rest →
      s.local.fields ≡ flat_map o (opened_on q around rest (tree_of k w ns ks))
  finish [] l q around k w ns ks s claim f n well knows r = ap (λ (x : Local). x.fields) r ∙ f
  finish (j ∷ way) l q around k w ns ks s claim f n well knows r = claim l q around k w ns ks s f n well (subst (λ (b : Bool). Knows o b q out (inner l k ks) 1 ks) n knows) r

  kid-there : (k : Kind) (w : List ℕ) (ns : List (List ℕ)) (ks : Forest) (i index : ℕ) (y : Plain) → 1 + index ≡ i → slice_get (trees_of ks) index ≡ Some y → kid_at (tree_of k w ns ks) i ≡ Some y
  unfolding kids_of
  kid-there k w ns ks i index y e here = ap (kid_at (tree_of k w ns ks)) same ∙ here where
    same : i ≡ suc index
    same = omega (arith, e)

  plain-opens : (k : Kind) → opens_nothing k ≡ true → opens_records k ≡ false
  plain-opens kind.With e = absurd (true≢false (sym e))
  plain-opens kind.Accesses e = absurd (true≢false (sym e))
  plain-opens _ e = refl

  plain-node : (k : Kind) → is_with k ≡ false → is_accesses k ≡ false → opens_nothing k ≡ true
  plain-node kind.With e n = absurd (true≢false e)
  plain-node kind.Accesses e n = absurd (true≢false n)
  plain-node _ e n = refl

  -- below a node that opens nothing
  plain-step : (i : ℕ) (rest : List ℕ) → Claim rest → (l : Local) (q : List ℕ) (around : List (List ℕ)) (k : Kind) (w : List ℕ) (ns : List (List ℕ)) (ks : Forest) (s : Spot) →
      is_with k ≡ false → l.fields ≡ flat_map o around → is_accesses k ≡ false → IsWellFormed (tree_of k w ns ks) → Knows o false q out (inner l k ks) 1 ks →
      spot out (inner l k ks) 1 ks (i ∷ rest) ≡ Some s → s.local.fields ≡ flat_map o (opened_on q around (i ∷ rest) (tree_of k w ns ks))
  plain-step i rest claim l q around k w ns ks s plain f n well knows e =
      let m : Local = inner l k ks in
      let quiet : opens_nothing k ≡ true = plain-node k plain n in
      let r : KidAt o q out m.fields false 1 ks i rest s = kid-seen o q out m.fields false 0 m ks i rest s (plain-opens k quiet) refl knows e in
      let y : Plain = tree_of r.kind r.word r.notes r.kids in
      finish rest r.local (q ++ i ∷ []) around r.kind r.word r.notes r.kids s claim (r.fields ∙ inner-fields l k ks ∙ f) (kid-other k w ks r.index y plain well.0 r.here)
      (kid-well ks r.index y well.3 r.here) r.knows r.reaches
      ∙ ap (λ (z : Option Plain). flat_map o (option_map_or (opened_on (q ++ i ∷ []) around rest) z around)) (sym (kid-there k w ns ks i r.index y r.index_is r.here))
      ∙ ap (λ (z : List (List ℕ)). flat_map o (option_map_or (opened_on (q ++ i ∷ []) (z ++ around) rest) (kid_at (tree_of k w ns ks) i) (z ++ around))) (sym (nothing-opened k ks q (i ∷ rest) quiet))

  flat-both : (xs ys : List (List ℕ)) → flat_map o (xs ++ ys) ≡ flat_map o xs ++ flat_map o ys
  flat-both [] ys = refl
  flat-both (x ∷ xs) ys = ap (λ (z : Opened). o x ++ z) (flat-both xs ys) ∙ sym (append_assoc (o x) (flat_map o xs) (flat_map o ys))

  before-kids : (q : List ℕ) (n : ℕ) → kids_before (q ++ 1 ∷ []) n ≡ accesses_before q n
  before-kids q zero = refl
  before-kids q (suc n) = λ z. append_assoc q (1 ∷ []) (suc n ∷ []) z ∷ before-kids q n z

  opened-none : (xs : Opened) → xs ≡ xs ++ []
  opened-none [] = refl
  opened-none (x ∷ xs) = ap (λ (y : Opened). x ∷ y) (opened-none xs)

  list-opens : (l : Local) (w : List ℕ) (ns : List (List ℕ)) (ks : Forest) →
      (first (decorate out l (Cons kind.Accesses w ns ks Nil))).opens ≡ all_opens (nodes (decorate out (inner l kind.Accesses ks) ks))
  unfolding decorate
  list-opens l w ns ks = ap (λ (a : Attributes). a.opens) (rule-accesses l w (seen out l kind.Accesses w) (decorate out (inner l kind.Accesses ks) ks))

  abbrev pub drop_one : List ℕ → List ℕ
  drop_one [] = []
  drop_one (i ∷ rest) = rest

  around-two : (n : ℕ) (rest : List ℕ) → open_count n (2 ∷ rest) ≡ n
  around-two n [] = refl
  around-two n (j ∷ way) = refl

  statement-other : (k : Kind) → has class.Statement k ≡ true → is_accesses k ≡ false
  statement-other kind.Accesses e = absurd (true≢false (sym e))
  statement-other _ e = refl

  with-statement : (w : List ℕ) (k : Kind) → fits_some (layout kind.With w 2) (kind.Accesses ∷ k ∷ []) ≡ true → has class.Statement k ≡ true
  with-statement (b ∷ w) k e = absurd (true≢false (sym e))
  with-statement [] k e = (and_parts (has class.Statement k) true (and_parts true _ e).1).0

  -- in one of the accesses of a `with`
  access-step : (m : ℕ) (more : List ℕ) → Claim more → (l : Local) (q : List ℕ) (around : List (List ℕ)) (w : List ℕ) (ns : List (List ℕ)) (ks : Forest) (s : Spot) →
      l.fields ≡ flat_map o around → WellFormed (Cons kind.Accesses w ns ks Nil) → Knows o true (q ++ 1 ∷ []) out (inner l kind.Accesses ks) 1 ks →
      spot out (inner l kind.Accesses ks) 1 ks (m ∷ more) ≡ Some s →
      s.local.fields ≡ flat_map o (opened_on (q ++ 1 ∷ []) (accesses_before q (m - 1) ++ around) (m ∷ more) (tree_of kind.Accesses w ns ks))
  access-step m more claim l q around w ns ks s f well knows e =
      let p : List ℕ = q ++ 1 ∷ [] in
      let la : Local = inner l kind.Accesses ks in
      let r : KidAt o p out la.fields true 1 ks m more s = kid-seen o p out la.fields true 0 la ks m more s refl refl knows e in
      let y : Plain = tree_of r.kind r.word r.notes r.kids in
      let less : r.number ≡ m - 1 = (let e1 = r.number_is in omega (arith, e1)) in
      let now : List (List ℕ) = accesses_before q (m - 1) ++ around in
      let fields : r.local.fields ≡ flat_map o now =
      r.fields
      ∙ (λ z. flat_map o (before-kids q r.number z) ++ (inner-fields l kind.Accesses ks ∙ f) z)
      ∙ ap (λ (n : ℕ). flat_map o (accesses_before q n) ++ flat_map o around) less
      ∙ sym (flat-both (accesses_before q (m - 1)) around) in
      finish more r.local (p ++ m ∷ []) now r.kind r.word r.notes r.kids s claim fields (kid-other kind.Accesses w ks r.index y refl well.0 r.here)
      (kid-well ks r.index y well.3 r.here) r.knows r.reaches
      ∙ ap (λ (z : Option Plain). flat_map o (option_map_or (opened_on (p ++ m ∷ []) now more) z now)) (sym (kid-there kind.Accesses w ns ks m r.index y r.index_is r.here))

  -- below a `with`
  with-step : (i : ℕ) (rest : List ℕ) → Claim rest → Claim (drop_one rest) → (l : Local) (q : List ℕ) (around : List (List ℕ)) (w : List ℕ) (ns : List (List ℕ)) (ks : Forest) (s : Spot) →
      WithKids ks → l.fields ≡ flat_map o around → IsWellFormed (tree_of kind.With w ns ks) → Knows o false q out (inner l kind.With ks) 1 ks → spot out (inner l kind.With ks) 1 ks (i ∷ rest) ≡ Some s →
      s.local.fields ≡ flat_map o (opened_on q around (i ∷ rest) (tree_of kind.With w ns ks))
  unfolding spot kids_of
  with-step i rest claim tail l q around w ns (Cons kind.Accesses w1 n1 k1 (Cons k2 w2 n2 ks2 Nil)) s h f well knows e =
      let ks : Forest = Cons kind.Accesses w1 n1 k1 (Cons k2 w2 n2 ks2 Nil) in
      let x : Plain = tree_of kind.With w ns ks in
      let l0 : Local = inner l kind.With ks in
      let a : Attributes = first (decorate out l0 (Cons kind.Accesses w1 n1 k1 Nil)) in
      let l1 : Local = beside l0 kind.Accesses a in
      let f0 : l0.fields ≡ flat_map o around = inner-fields l kind.With ks ∙ f in
      let n : ℕ = count k1 in
      let now : List (List ℕ) = accesses_before q n ++ around in
      let f1 : l1.fields ≡ flat_map o now =
      (λ z. (list-opens l0 w1 n1 k1 ∙ opened-none (all_opens (nodes (decorate out (inner l0 kind.Accesses k1) k1))) ∙ all-opened o (q ++ 1 ∷ []) out 0 (inner l0 kind.Accesses k1) k1 knows.1
      ∙ ap (flat_map o) (ap (kids_before (q ++ 1 ∷ [])) (from-none n) ∙ before-kids q n)) z ++ f0 z)
      ∙ sym (flat-both (accesses_before q n) around) in
      let second = λ (same : 2 ≡ i) (r : Reaches out l1 k2 ks2 s rest).
      finish rest l1 (q ++ 2 ∷ []) now k2 w2 n2 ks2 s claim f1 (statement-other k2 (with-statement w k2 well.0)) (kid-well ks 1 (tree_of k2 w2 n2 ks2) well.3 refl) knows.2.1 r
      ∙ ap (λ (c : ℕ). flat_map o (opened_on (q ++ 2 ∷ []) (accesses_before q c ++ around) rest (tree_of k2 w2 n2 ks2))) (sym (around-two n rest))
      ∙ ap (λ (j : ℕ). flat_map o (opened_on q around (j ∷ rest) x)) same in
      elim (leads out l0 1 kind.Accesses w1 n1 k1 (Cons k2 w2 n2 ks2 Nil) i rest s e) [
        | ToIt same end here kind ↦ ap (λ (z : Local). z.fields) here ∙ f0 ∙ (λ z. flat_map o (opened_on q around (same z ∷ sym end z) x))
        | IntoIt same m more is apart g ↦
            access-step m more (subst Claim (ap drop_one is) tail) l0 q around w1 n1 k1 s f0 (well.3.0, well.3.1, well.3.2, well.3.3, tt) knows.1 g
            ∙ (λ z. flat_map o (opened_on q around (same z ∷ sym is z) x))
        | BehindIt less g ↦ elim (leads out l1 2 k2 w2 n2 ks2 Nil i rest s g) [
          | ToIt same end here kind ↦ second same (subst (λ (z : List ℕ). Reaches out l1 k2 ks2 s z) (sym end) here)
          | IntoIt same m more is apart j ↦ second same (subst (λ (z : List ℕ). Reaches out l1 k2 ks2 s z) (sym is) j)
          | BehindIt more j ↦ absurd (cc j)
        ]
      ] where
        from-none : (n : ℕ) → 0 + n ≡ n
        from-none n = omega arith
  with-step i rest claim tail l q around w ns (Cons k1 w1 n1 ks1 (Cons k2 w2 n2 ks2 Nil)) s h f well knows e = absurd (true≢false (sym h))
  with-step i rest claim tail l q around w ns ks s h f well knows e = absurd h

  claim-step : (i : ℕ) (rest : List ℕ) → Claim rest → Claim (drop_one rest) → Claim (i ∷ rest)
  claim-step i rest claim tail l q around kind.With w ns ks s f n well knows e = with-step i rest claim tail l q around w ns ks s (with-kids w ks well.0) f well knows e
  claim-step i rest claim tail l q around k w ns ks s f n well knows e = plain-step i rest claim l q around k w ns ks s refl f n well knows e

  both-claims : (way : List ℕ) → Claim way × Claim (drop_one way)
  both-claims [] = (tt, tt)
  both-claims (i ∷ rest) = let c = both-claims rest in (claim-step i rest c.0 c.1, c.0)

  pub seen-below : (way : List ℕ) → Claim way
  seen-below way = (both-claims way).0
