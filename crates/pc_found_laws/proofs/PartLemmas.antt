-- The statement part of a routine is the fifth kid of its own block too.
use Rattle.std.specs.Prelude.{ℕ, zero, suc, ◌≡◌, Bool, true, false, List, [], ◌∷◌, Option, Some, None, slice_get}
use Rattle.std.specs.Option.{option_and_then}
use Rattle.std.proofs.Common.{refl, ap, sym, subst, ◌∙◌, true≢false, arith}
use Rattle.pc_syntax.specs.declared.class.Class.TheVariants as class
use Rattle.pc_syntax.specs.declared.kind.Kind.{Kind}
use Rattle.pc_syntax.specs.declared.kind.Kind.TheVariants as kind
use Rattle.pc_syntax.specs.declared.lexeme.Lexeme.TheVariants as lexeme
use Rattle.pc_syntax.specs.Classes.{has, is_body}
use Rattle.pc_syntax.specs.Layout.{layout, spelled}
use Rattle.pc_syntax.specs.Places.{at}
use Rattle.pc_syntax.specs.Plain.{Forest, Nil, Cons, Plain, trees_of, kids_of, count, kinds}
use Rattle.pc_syntax.specs.WellFormed.{WellFormed, IsWellFormed, IsProper, fits_some}
use Rattle.pc_syntax.specs.Words.{is_forward}
use Rattle.pc_scope.specs.Blocks.{block_kids, kid_count}
use Rattle.pc_rules.specs.Errors.{is_program}
use Rattle.pc_rules.specs.OwnBlock.{own}
use Rattle.pc_rules.specs.RoutineList.{routines_of}
use Rattle.pc_rules.specs.Routines.{Routine}
use Rattle.pc_needs.specs.Unaffected.{IsOneOf}
use Rattle.pc_needs.proofs.BodyParts.{BlockLast, block-last}
use Rattle.pc_needs.proofs.BodyRows.{by-block, block-next, BlockRow, block-row}
use Rattle.pc_needs.proofs.HeadingKinds.{is_the_block}
use Rattle.pc_needs.proofs.Lists.{each-one}
use Rattle.pc_program_laws.specs.Routines.{with_bare_routines}
use Rattle.pc_program_laws.proofs.RoutineLemmas.{routines-law}
use Rattle.pc_found_laws.specs.Ways.{part_path}
use Rattle.pc_found_laws.proofs.NodeLemmas.{tree_of, IsNode, routines-nodes}
use Rattle.pc_found_laws.proofs.WayLemmas.{at-parts}

-- ---- the block

-- in place of a block nothing has kids
leaf-spelled : (b : Bool) (f : Forest) → fits_some (spelled b lexeme.Identifier) (kinds f) ≡ true → f ≡ Nil
leaf-spelled true Nil e = refl
leaf-spelled true (Cons k w ns ks ts) e = absurd (true≢false (sym e))
leaf-spelled false f e = absurd (true≢false (sym e))

leaf-kids : (k : Kind) (w : List ℕ) (f : Forest) → has class.Block k ≡ true → is_the_block k ≡ false → fits_some (layout k w (count f)) (kinds f) ≡ true → f ≡ Nil
leaf-kids kind.Block w f h b e = absurd (true≢false b)
leaf-kids kind.Forward w f h b e = leaf-spelled (is_forward w) f e
leaf-kids (kind.Hole s) [] Nil h b e = refl
leaf-kids (kind.Hole s) [] (Cons k v ns ks ts) h b e = absurd (true≢false (sym e))
leaf-kids (kind.Hole s) (c ∷ w) f h b e = absurd (true≢false (sym e))
leaf-kids k w f h b e = absurd (true≢false (sym h))

-- these are the kids of the block among a routine's kids
pub record AreOfBlock (f ks : Forest) : Type 0 where
  pub word : List ℕ
  pub fits : fits_some (layout kind.Block word (count ks)) (kinds ks) ≡ true
  pub well : WellFormed ks
  pub same : block_kids f ≡ ks

-- the last kid is the block, if it has kids
last-only : (k : Kind) (w : List ℕ) (ns : List (List ℕ)) (ks : Forest) (j : ℕ) (part : Plain) → has class.Block k ≡ true → WellFormed (Cons k w ns ks Nil) → slice_get (trees_of ks) j ≡ Some part →
    AreOfBlock (Cons k w ns ks Nil) ks
last-only k w ns ks j part h well e =
    by-block (λ i. has class.Block i ≡ true → WellFormed (Cons i w ns ks Nil) → AreOfBlock (Cons i w ns ks Nil) ks) k
    (λ b c. record { word = w; fits = c.0; well = c.3; same = refl })
    (λ n b c. absurd (none (subst (λ (f : Forest). slice_get (trees_of f) j ≡ Some part) (leaf-kids k w ks b n c.0) e))) h well where
      none : slice_get (trees_of Nil) j ≡ Some part → ⊥
      none g = cc

last-block : (n : ℕ) (f : Forest) (b : Plain) (j : ℕ) (part : Plain) → WellFormed f → BlockLast f → kid_count f ≡ suc n → slice_get (trees_of f) n ≡ Some b → slice_get (trees_of b.kids) j ≡ Some part →
    AreOfBlock f b.kids
last-block n Nil b j part well last c e g = absurd last
last-block zero (Cons k w ns ks Nil) b j part well last c e g =
    let same : tree_of k w ns ks ≡ b = cc in
    subst (λ (x : Plain). AreOfBlock (Cons k w ns ks Nil) x.kids) same (last-only k w ns ks j part last well (subst (λ (x : Plain). slice_get (trees_of x.kids) j ≡ Some part) (sym same) g))
last-block (suc n) (Cons k w ns ks Nil) b j part well last c e g = absurd (omega (arith, c))
last-block zero (Cons k w ns ks (Cons i v ms js ts)) b j part well last c e g = absurd (omega (arith, c))
last-block (suc n) (Cons k w ns ks (Cons i v ms js ts)) b j part well last c e g =
    let rest = last-block n (Cons i v ms js ts) b j part well.4 last.1 (omega (arith, c)) e g in
    record { word = rest.word; fits = rest.fits; well = rest.well; same = block-next k w ns ks (Cons i v ms js ts) last.0 ∙ rest.same }

-- ---- the statement part

-- a node is the statement part in the own block of a routine
pub record IsPart (r : Routine) (part : Plain) : Type 0 where
  pub fifth : slice_get (trees_of r.block) 4 ≡ Some part
  pub body : is_body part.kind ≡ true
  pub well : IsWellFormed part

-- the fifth kid of a block stands in the own block as it is
row-part : (f : Forest) (part : Plain) → BlockRow f → slice_get (trees_of f) 4 ≡ Some part →
    (slice_get (trees_of (with_bare_routines f)) 4 ≡ Some part) × (is_body part.kind ≡ true) × IsWellFormed part
row-part f part r e =
    let five : Plain = tree_of r.j r.v5 r.n5 r.k5 in
    let whole : slice_get (trees_of f) 4 ≡ Some five = ap (λ (g : Forest). slice_get (trees_of g) 4) r.is in
    let bare : slice_get (trees_of (with_bare_routines f)) 4 ≡ Some five = ap (λ (g : Forest). slice_get (trees_of (with_bare_routines g)) 4) r.is in
    let same : five ≡ part = cc in
    (bare ∙ ap (λ (x : Plain). Some x) same, subst (λ (x : Plain). is_body x.kind ≡ true) same r.body, subst IsWellFormed same r.body_well)

-- the kid of that kid
pub record IsKidOfLast (x part : Plain) (n : ℕ) : Type 0 where
  pub number : ℕ
  pub same : n ≡ suc number
  pub last : Plain
  pub here : slice_get (trees_of x.kids) number ≡ Some last
  pub kid : slice_get (trees_of last.kids) 4 ≡ Some part

two-kids : (n : ℕ) (x part : Plain) → at (n ∷ 5 ∷ []) x ≡ Some part → IsKidOfLast x part n
unfolding kids_of
two-kids zero x part e = cc
two-kids (suc n) x part e = which (slice_get (trees_of x.kids) n) refl e where
  one : (o : Option Plain) → option_and_then (at []) o ≡ Some part → o ≡ Some part
  one None g = cc
  one (Some y) g = g

  which : (o : Option Plain) → slice_get (trees_of x.kids) n ≡ o → option_and_then (at (5 ∷ [])) o ≡ Some part → IsKidOfLast x part (suc n)
  which None is g = cc
  which (Some b) is g = record { number = n; same = refl; last = b; here = is; kid = one (slice_get (trees_of b.kids) 4) g }

-- the fifth kid of a routine's block
block-part : (r : Routine) (f ks : Forest) (part : Plain) → r.block ≡ own (block_kids f) → AreOfBlock f ks → slice_get (trees_of ks) 4 ≡ Some part → IsPart r part
block-part r f ks part is block e =
    let row = row-part ks part (block-row block.word ks block.fits block.well) e in
    let whole : r.block ≡ with_bare_routines ks = is ∙ ap own block.same ∙ routines-law.own_block block.word ks block.fits block.well in
    record { fifth = ap (λ (g : Forest). slice_get (trees_of g) 4) whole ∙ row.0; body = row.1; well = row.2 }

kid-part : (t : Plain) (r : Routine) (part : Plain) (s : IsNode t r) → IsKidOfLast s.node part r.block_kid → IsPart r part
kid-part t r part s two =
    block-part r s.node.kids two.last.kids part s.block
    (last-block two.number s.node.kids two.last 4 part s.well (block-last s.node.kind s.node.word s.node.kids s.headed s.fits) (sym s.count_is ∙ two.same) two.here two.kid) two.kid

node-part : (t : Plain) (r : Routine) (part : Plain) → IsNode t r → at (part_path r) t ≡ Some part → IsPart r part
node-part t r part s e =
    let both = at-parts r.place (r.block_kid ∷ 5 ∷ []) t part e in
    let here : at r.place t ≡ Some s.node = s.here in
    let there : at r.place t ≡ Some both.0 = both.1 in
    let same : both.0 ≡ s.node = cc in
    kid-part t r part s (two-kids r.block_kid s.node part (subst (λ (x : Plain). at (r.block_kid ∷ 5 ∷ []) x ≡ Some part) same both.2))

pub parts-stand : (t : Plain) (r : Routine) (part : Plain) → IsProper t → is_program t.kind ≡ true → IsOneOf (routines_of t) r → at (part_path r) t ≡ Some part → IsPart r part
parts-stand t r part proper program one e = node-part t r part (each-one (IsNode t) (routines_of t) r one (routines-nodes t proper program)) e
