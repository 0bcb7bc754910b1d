-- The list of routines in a block that is a routine's.
use Rattle.std.proofs.Common.{List, Option, Some, [], ap, append_assoc, refl, subst, sym, ℕ, ◌++◌, ◌∙◌, ◌∷◌, ◌≡◌}
use Rattle.pc_lookup_law.specs.ClassAt.{HasClass, class_inside}
use Rattle.pc_lookup_law.proofs.BelongsLaws.{Belongs, declarations-classed}
use Rattle.pc_lookup_law.proofs.BlockKidsLaws.{block_of_kids}
use Rattle.pc_lookup_law.proofs.ClassAtLaws.{Rooted, rooted-kids, rooted-next}
use Rattle.pc_lookup_law.proofs.GoingLaws.{Going, going-first}
use Rattle.pc_lookup_law.proofs.InnerBlockLaws.{ListOf}
use Rattle.pc_rule_laws.specs.Agreement.{Agrees, seen_among}
use Rattle.pc_rule_laws.specs.BlockLaw.{own-classed}
use Rattle.pc_rule_laws.specs.ClassedPlaces.{classed_at, places_in-classed}
use Rattle.pc_rule_laws.specs.Levels.{own-headings}
use Rattle.pc_rule_laws.specs.Orderly.{Orderly}
use Rattle.pc_rule_laws.specs.RoutineLaw.{behind_routine, past, routine-agrees}
use Rattle.pc_rule_laws.specs.Standing.{AllClassed, places_in}
use Rattle.pc_rules.specs.Meanings.{Local, find}
use Rattle.pc_rules.specs.OwnBlock.{own}
use Rattle.pc_rules.specs.Places.{inner}
use Rattle.pc_rules.specs.RoutineList.{routines_in}
use Rattle.pc_rules.specs.Routines.{Routine, bare, block_start, parameters_of, self_of, start_of}
use Rattle.pc_scope.specs.Around.{Block}
use Rattle.pc_scope.specs.Blocks.{routines_among}
use Rattle.pc_scope.specs.Declarations.{Meant, declared_at}
use Rattle.pc_syntax.specs.Plain.{Cons, Forest, Plain}
use Rattle.pc_syntax.specs.declared.kind.Kind.TheVariants as kind

-- a block whose routines are cut down to headings declares the same
declared-own : (p : List ℕ) (f : Forest) → declared_at p 1 (own f) ≡ declared_at p 1 f
declared-own p f = sym (places_in-classed p 1 (own f)) ∙ ap places_in (own-classed p 1 f) ∙ places_in-classed p 1 f

module _ (t : Plain) (r : Routine) (b : Block) (w1 w2 w3 w4 : List ℕ) (n1 n2 n3 n4 : List (List ℕ)) (c1 c2 c3 rs rest : Forest) where
  abbrev block : Forest
  block = block_of_kids w1 w2 w3 w4 n1 n2 n3 n4 c1 c2 c3 rs rest

  -- where the list of the routines begins
  abbrev pub list_start : Local
  list_start =
      inner
      (past (bare r.means)
      (past (bare r.means) (past (bare r.means) (block_start r.owner (self_of r) (parameters_of r) (own block)) kind.Consts w1 n1 (own c1)) kind.Types w2 n2 (own c2)) kind.Vars w3 n3 (own c3))
      kind.Routines rs

  pub list-of : Belongs t r b → b.kids ≡ block → ListOf t r b list_start
  unfolding own
  list-of h same = record {
    belongs = h;
    around = λ x xs i m way after e less.
        let n : List ℕ = x ∷ xs in
        let q : List ℕ = b.place ++ 4 ∷ i ∷ m ∷ way in
        let o : Meant = h.outer n q in
        let to : q ≡ r.place ++ r.block_kid ∷ 4 ∷ i ∷ m ∷ way = ap (λ z. z ++ 4 ∷ i ∷ m ∷ way) h.place ∙ append_assoc r.place (r.block_kid ∷ []) (4 ∷ i ∷ m ∷ way) in
        let whole : classed_at b.place 1 (own block) ≡ classed_at b.place 1 b.kids = own-classed b.place 1 block ∙ ap (classed_at b.place 1) (sym same) in
        let declared : declared_at b.place 1 (own block) ≡ declared_at b.place 1 b.kids = declared-own b.place block ∙ ap (declared_at b.place 1) (sym same) in
        subst (λ ds. Agrees (HasClass t) (find (bare r.means) after n) (seen_among q ds n o)) (λ j. h.places j ++ declared j)
        (routine-agrees (HasClass t) (bare r.means) r.owner (self_of r) (parameters_of r) h.placed b.place x xs kind.Consts kind.Types kind.Vars kind.Routines w1 w2 w3 w4 n1 n2 n3 n4
        (own c1) (own c2) (own c3) (own rs) (own rest) rs i m way after o refl
        (record {
          orderly = subst (λ f. Orderly (own f)) same h.kids.orderly;
          parameters = h.matches n;
          before = h.before (4 ∷ i ∷ m ∷ way);
          classed = subst (λ es. AllClassed (HasClass t) (h.placed ++ es)) (sym whole) (declarations-classed t r b h);
          headings = sym (own-headings rs);
          behind = subst (λ f. behind_routine (bare r.means) list_start 1 (own (routines_among f)) i ≡ Some after) same e;
          inside = less;
          around = subst (λ z. Agrees (HasClass t) (r.means n) (h.outer n z)) (sym to) (h.around x xs r.block_kid (4 ∷ i ∷ m ∷ way) h.late);
        }));
  }

  -- what is known at the first of them
  pub list-going : (h : Belongs t r b) → b.kids ≡ block →
      Going t (bare r.means) (b.place ++ 4 ∷ []) (routines_among b.kids) (class_inside h.given kind.Routines) list_start list_start [] [] rs
  list-going h same =
      let root : Rooted t b.place h.given 1 block = subst (Rooted t b.place h.given 1) same h.root in
      subst (λ f. Going t (bare r.means) (b.place ++ 4 ∷ []) (routines_among f) (class_inside h.given kind.Routines) list_start list_start [] [] rs) (sym same)
      (going-first t (bare r.means) (b.place ++ 4 ∷ []) rs (class_inside h.given kind.Routines) list_start refl refl refl
      (rooted-kids t b.place h.given 4 kind.Routines w4 n4 rs rest
      (rooted-next t b.place h.given 3 kind.Vars w3 n3 c3 (Cons kind.Routines w4 n4 rs rest)
      (rooted-next t b.place h.given 2 kind.Types w2 n2 c2 (Cons kind.Vars w3 n3 c3 (Cons kind.Routines w4 n4 rs rest))
      (rooted-next t b.place h.given 1 kind.Consts w1 n1 c1 (Cons kind.Types w2 n2 c2 (Cons kind.Vars w3 n3 c3 (Cons kind.Routines w4 n4 rs rest))) root)))))

  -- the routines of the block are those of its list
  pub list-routines : (key : Option (List (List ℕ))) → Belongs t r b → b.kids ≡ block →
      routines_in r.means (start_of r) [] b.place key block ≡ routines_in r.means list_start [] (b.place ++ 4 ∷ []) key rs
  unfolding own routines_in
  list-routines key h same = ap (λ z. routines_in r.means (block_start r.owner (self_of r) (parameters_of r) z) [] b.place key block) (h.block ∙ ap own same)
