-- When a block, by places, is that of a routine, by environment; at the used names of such a block the two look-ups agree.
use Rattle.std.proofs.Common.{List, None, Option, Some, [], ap, append_assoc, false, refl, subst, sym, true, ℕ, ◌++◌, ◌<◌, ◌==◌, ◌∙◌, ◌∷◌, ◌≡◌}
use Rattle.pc_lookup_law.specs.ClassAt.{HasClass}
use Rattle.pc_lookup_law.proofs.BlockKidsLaws.{Blockly, block-cases}
use Rattle.pc_lookup_law.proofs.ClassAtLaws.{AllClassed-append, Rooted, classed-right}
use Rattle.pc_lookup_law.proofs.HeadingKidsLaws.{HeadingFits}
use Rattle.pc_rule_laws.specs.Agreement.{Agrees, Spot, seen_among, seen_or, spot}
use Rattle.pc_rule_laws.specs.BlockLaw.{block-agrees}
use Rattle.pc_rule_laws.specs.ClassedPlaces.{classed_at}
use Rattle.pc_rule_laws.specs.Levels.{completed-agrees, meant-stays, not-fourth}
use Rattle.pc_rule_laws.specs.Matching.{Matches}
use Rattle.pc_rule_laws.specs.Orderly.{Orderly}
use Rattle.pc_rule_laws.specs.Reached.{IsUse}
use Rattle.pc_rule_laws.specs.Roles.{keys}
use Rattle.pc_rule_laws.specs.Standing.{AllAre, AllClassed, Classed, places_in}
use Rattle.pc_rules.specs.Meanings.{Class, Local, Outside, entry_of, find}
use Rattle.pc_rules.specs.Outsides.{completed_by, outside_of}
use Rattle.pc_rules.specs.OwnBlock.{own}
use Rattle.pc_rules.specs.Routines.{Routine, block_start, parameters_of, self_of, start_of}
use Rattle.pc_scope.specs.Around.{Block}
use Rattle.pc_scope.specs.Declarations.{Meant, declared_at}
use Rattle.pc_scope.specs.Lookup.{declaration_in, lookup}
use Rattle.pc_syntax.specs.Plain.{Forest, Plain}
use Rattle.pc_syntax.specs.Words.{lower, lowered}
use Rattle.pc_syntax.specs.declared.kind.Kind.TheVariants as kind

-- The block `b`, by places, is that of the routine `r`: it has the same kids, place and number; its declarations have their classes; its parameters
-- are the same, and stand before; and around it both look-ups agree, where `outer` is what the look-up by places finds there.
pub record Belongs (t : Plain) (r : Routine) (b : Block) : Type 0 where
  pub block : r.block ≡ own b.kids
  pub place : b.place ≡ r.place ++ r.block_kid ∷ []
  pub number : b.number ≡ r.block_kid
  pub late : 1 < r.block_kid
  pub heading : HeadingFits r.heading r.block_kid
  pub kids : Blockly b.kids
  pub given : Option Class
  pub root : Rooted t b.place given 1 b.kids
  pub placed : List Classed
  pub matches : (n : List ℕ) → Matches n (keys (parameters_of r)) placed
  pub places : places_in placed ≡ b.parameters
  pub before : (way : List ℕ) → AllAre true (b.place ++ way) placed
  pub classed : AllClassed (HasClass t) placed
  pub outer : List ℕ → List ℕ → Meant
  pub around : (x : ℕ) (xs : List ℕ) (m : ℕ) (way : List ℕ) → 1 < m → Agrees (HasClass t) (r.means (x ∷ xs)) (outer (x ∷ xs) (r.place ++ m ∷ way))
  pub inside : (name way : List ℕ) → lookup t name (b.place ++ way) ≡ seen_or (b.place ++ way) (declaration_in (lowered name) b way) (outer (lowered name) (b.place ++ way))
  pub beside : (name : List ℕ) (m : ℕ) (way : List ℕ) → (m == r.block_kid) ≡ false → lookup t name (r.place ++ m ∷ way) ≡ outer (lowered name) (r.place ++ m ∷ way)

-- a used name of a block doesn't stand among its routines
never-fourth : (out : Outside) (l : Local) (f : Forest) (j : ℕ) (way : List ℕ) (s : Spot) → Blockly f → spot out l 1 (own f) (j ∷ way) ≡ Some s → IsUse s → (j == 4) ≡ false
unfolding own spot
never-fourth out l f j way s h e u =
    block-cases (λ f. Orderly (own f) → spot out l 1 (own f) (j ∷ way) ≡ Some s → (j == 4) ≡ false) (λ o e. cc e)
    (λ w1 w2 w3 w4 n1 n2 n3 n4 c1 c2 c3 rs rest o e.
    not-fourth out l kind.Consts kind.Types kind.Vars kind.Routines w1 w2 w3 w4 n1 n2 n3 n4 (own c1) (own c2) (own c3) (own rs) (own rest) j way s refl o.1.1.1.0 e u)
    f h.kids h.orderly e

outside-means : (rs : List Routine) (r : Routine) (n : List ℕ) → (outside_of rs r).means n ≡ completed_by rs n (r.means n)
unfolding outside_of
outside-means rs r n = refl

pub declarations-classed : (t : Plain) (r : Routine) (b : Block) (h : Belongs t r b) → AllClassed (HasClass t) (h.placed ++ classed_at b.place 1 b.kids)
declarations-classed t r b h =
    AllClassed-append (HasClass t) h.placed (classed_at b.place 1 b.kids) h.classed (classed-right t b.place h.given 1 b.kids h.kids.sound h.root)

-- At a used name of such a block, that is no field of a with's record, both look-ups agree.
pub names-of-block : (t : Plain) (rs : List Routine) (r : Routine) (b : Block) → Belongs t r b → (x : ℕ) (xs : List ℕ) (j : ℕ) (way : List ℕ) (s : Spot) →
    spot (outside_of rs r) (start_of r) 1 r.block (j ∷ way) ≡ Some s → IsUse s → entry_of s.local.fields (lowered (x ∷ xs)) ≡ None →
    Agrees (HasClass t) (find (outside_of rs r) s.local (lowered (x ∷ xs))) (lookup t (x ∷ xs) (r.place ++ r.block_kid ∷ j ∷ way))
names-of-block t rs r b h x xs j way s e u none =
    let n : List ℕ = lowered (x ∷ xs) in
    let q : List ℕ = b.place ++ j ∷ way in
    let out : Outside = outside_of rs r in
    let o : Meant = h.outer n q in
    let to : q ≡ r.place ++ r.block_kid ∷ j ∷ way = ap (λ z. z ++ j ∷ way) h.place ∙ append_assoc r.place (r.block_kid ∷ []) (j ∷ way) in
    let around : Agrees (HasClass t) (r.means n) o =
    subst (λ z. Agrees (HasClass t) (r.means n) (h.outer n z)) (sym to) (h.around (lower x) (lowered xs) r.block_kid (j ∷ way) h.late) in
    let stands : spot out (block_start r.owner (self_of r) (parameters_of r) (own b.kids)) 1 (own b.kids) (j ∷ way) ≡ Some s =
    subst (λ z. spot out (block_start r.owner (self_of r) (parameters_of r) z) 1 z (j ∷ way) ≡ Some s) h.block e in
    let law : Agrees (HasClass t) (find out s.local n) (seen_among q (places_in h.placed ++ declared_at b.place 1 b.kids) n o) =
    block-agrees (HasClass t) out r.owner (self_of r) (parameters_of r) b.kids h.placed b.place (lower x) (lowered xs) j way s o
    (record {
      orderly = h.kids.orderly;
      parameters = h.matches n;
      before = h.before (j ∷ way);
      classed = declarations-classed t r b h;
      stands = stands;
      used = u;
      no_field = none;
      around = subst (λ f. Agrees (HasClass t) f o) (sym (outside-means rs r n)) (completed-agrees (HasClass t) rs n (r.means n) o around);
    }) in
    let same : lookup t (x ∷ xs) q ≡ seen_among q (places_in h.placed ++ declared_at b.place 1 b.kids) n o =
    h.inside (x ∷ xs) (j ∷ way)
    ∙ meant-stays n q b j way o (never-fourth out (block_start r.owner (self_of r) (parameters_of r) (own b.kids)) b.kids j way s h.kids stands u)
    ∙ ap (λ ps. seen_among q (ps ++ declared_at b.place 1 b.kids) n o) (sym h.places) in
    subst (λ z. Agrees (HasClass t) (find out s.local n) (lookup t (x ∷ xs) z)) to (subst (Agrees (HasClass t) (find out s.local n)) (sym same) law)
