-- The block of each routine of a program that has one: its parts, what the targets say of it, and what is good of it.
use Rattle.std.proofs.Common.{◌≡◌, ℕ, suc, Bool, true, false, if◌then◌else◌, List, [], ◌∷◌, ◌++◌, Option, refl, sym, ◌∙◌, ap, subst, true≢false}
use Rattle.pc_syntax.specs.declared.kind.Kind.TheVariants as kind
use Rattle.pc_syntax.specs.Layout.{layout}
use Rattle.pc_syntax.specs.Plain.{Forest, Nil, Cons, Plain, trees_of, count, kinds}
use Rattle.pc_syntax.specs.WellFormed.{WellFormed, IsProper, fits_some}
use Rattle.pc_types.specs.Domains.{domain_in, stands_in}
use Rattle.pc_types.specs.Shapes.{Keyed}
use Rattle.pc_scope.specs.Blocks.{block_kids}
use Rattle.pc_rules.specs.Attributes.{Attributes, first}
use Rattle.pc_rules.specs.Decorated.{decorate}
use Rattle.pc_rules.specs.Meanings.{Found, Local, find}
use Rattle.pc_rules.specs.OwnBlock.{own}
use Rattle.pc_rules.specs.Places.{inner, beside}
use Rattle.pc_rules.specs.RoutineList.{Forwarded, routine_of, key_of, forwarded_by, part_of, routines_in, routines_below, program_routine, routines_of}
use Rattle.pc_rules.specs.Routines.{Routine, bare, start_of}
use Rattle.pc_needs.specs.Answers.{has_block}
use Rattle.pc_needs.proofs.Lists.{Each, each-append, each-one}
use Rattle.pc_needs.proofs.PlaceLemmas.{of-part, block-heading}
use Rattle.pc_program_laws.specs.Routines.{with_bare_routines}
use Rattle.pc_program_laws.proofs.BlockLemmas.{block-parts}
use Rattle.pc_program_laws.proofs.OwnLemmas.{own-block}
use Rattle.pc_targets.specs.Blocks.{IsGoodRoutine, HasBlock, HasParts}
use Rattle.pc_targets.specs.Program.{types_behind, declares, undeclared_type, said_by, targets_of}
use Rattle.pc_targets.proofs.ChainLemmas.{HasOwnTypes, named}
use Rattle.pc_targets.proofs.ProgramLemmas.{routines-good, other-undeclared}
use Rattle.pc_targets.proofs.TypeLemmas.{none-stands}
use Rattle.pc_targets.proofs.UniqueLemmas.{targets-said}
use Rattle.pc_targets.proofs.WholeLemmas.{AreWhole, own-whole}

-- ---- where there is a block, it is the own block of a well-formed one

abbrev pub HasOwnBlock : Forest → Type 0
HasOwnBlock b = (w : List ℕ) × (f : Forest) × (fits_some (layout kind.Block w (count f)) (kinds f) ≡ true) × WellFormed f × (b ≡ own f)

abbrev IsBlocked : Routine → Type 0
IsBlocked r = has_block r.heading ≡ true → HasOwnBlock r.block

block-there : (ks : Forest) → WellFormed ks → has_block ks ≡ true → HasOwnBlock (own (block_kids ks))
block-there Nil c e = absurd (true≢false (sym e))
block-there (Cons kind.Block w ns ks ts) c e = (w, ks, c.0, c.3, refl)
block-there (Cons k w ns ks ts) c e = block-there ts c.4 e

mutual
  unfolding routines_in

  blocked-in : (m : List ℕ → Found) (l : Local) (fs : List Forwarded) (p : List ℕ) (key : Option (List (List ℕ))) (f : Forest) → WellFormed f → Each IsBlocked (routines_in m l fs p key f)
  blocked-in m l fs p key Nil c = tt
  blocked-in m l fs p key (Cons k v ns ks ts) c =
      let a : Attributes = first (decorate (bare m) l (own (Cons k v ns ks Nil))) in
      let after : Local = beside l k a in
      let r : Routine = routine_of (find (bare m) after) l fs (p ++ l.kid ∷ []) key k ks in
      of-part (Each IsBlocked) (part_of k) _ _ _
      (λ part. each-append IsBlocked (r ∷ routines_below r 1 ks) _ ((λ e. block-there ks c.3 (sym (block-heading ks) ∙ e)), blocked-below r 1 ks c.3) (blocked-in m after (forwarded_by l r fs) p key ts c.4))
      (λ part. blocked-in m (inner l k ks) [] (p ++ l.kid ∷ []) key ks c.3)
      (λ part. blocked-in m after fs p key ts c.4)

  blocked-below : (r : Routine) (i : ℕ) (f : Forest) → WellFormed f → Each IsBlocked (routines_below r i f)
  blocked-below r i Nil c = tt
  blocked-below r i (Cons kind.Block v ns ks ts) c = blocked-in r.means (start_of r) [] (r.place ++ i ∷ []) (key_of r.owner) ks c.3
  blocked-below r i (Cons k v ns ks ts) c = blocked-below r (suc i) ts c.4

routines-blocked : (t : Plain) → IsProper t → Each IsBlocked (routines_of t)
unfolding routines_of
routines-blocked t proper = ((λ e. block-there t.kids proper.sound.3 (sym (block-heading t.kids) ∙ e)), blocked-below (program_routine t) 1 t.kids proper.sound.3)

pub own-there : (t : Plain) (r : Routine) → HasBlock t r → HasOwnBlock r.block
own-there t r h = each-one IsBlocked (routines_of t) r h.among (routines-blocked t h.proper) h.block

-- ---- its parts

pub parts-there : (t : Plain) (r : Routine) → HasBlock t r → (c : Plain) × (d : Plain) × (v : Plain) × (q : Plain) × (b : Plain) × HasParts r c d v q b
parts-there t r h =
    let x = own-there t r h in
    let p = block-parts x.0 x.1 x.2 in
    let c : Plain = record { kind = kind.Consts; word = p.v1; notes = p.n1; kids = p.k1 } in
    let d : Plain = record { kind = kind.Types; word = p.v2; notes = p.n2; kids = p.k2 } in
    let v : Plain = record { kind = kind.Vars; word = p.v3; notes = p.n3; kids = p.k3 } in
    let q : Plain = record { kind = kind.Routines; word = p.v4; notes = p.n4; kids = own p.k4 } in
    let b : Plain = record { kind = p.j; word = p.v5; notes = p.n5; kids = p.k5 } in
    (c, d, v, q, b, x.4 ∙ own-block x.0 x.1 x.2 x.3 ∙ ap with_bare_routines p.is)

pub whole-there : (t : Plain) (r : Routine) → HasBlock t r → AreWhole (trees_of r.block)
whole-there t r h =
    let x = own-there t r h in
    subst (λ (f : Forest). AreWhole (trees_of f)) (sym x.4) (own-whole x.0 x.1 x.2 x.3)

-- ---- what the targets say

pub good-there : (t : Plain) (r : Routine) → HasBlock t r → IsGoodRoutine (targets_of t) r
good-there t r h = each-one (IsGoodRoutine (targets_of t)) (routines_of t) r h.among (routines-good t h.proper h.program)

pub own-types : (t : Plain) (r : Routine) → HasBlock t r → HasOwnTypes (routines_of t) r
own-types t r h = by (trees_of r.block) refl (whole-there t r h) where
  by : (ts : List Plain) → trees_of r.block ≡ ts → AreWhole ts → HasOwnTypes (routines_of t) r
  by (c ∷ d ∷ v ∷ q ∷ rest) e w = named (targets_of t) (routines_of t) r c d v q rest e w (good-there t r h).parameters
  by ts e w = absurd w

pub says : (t : Plain) (r : Routine) → HasBlock t r → (n : List ℕ) → targets_of t r.owner n ≡ said_by (routines_of t) r r.owner n
says t r h n = targets-said t r n h.proper h.program h.among h.block

pub declared-said : (t : Plain) (r : Routine) → HasBlock t r → (n : List ℕ) → declares r n ≡ true → targets_of t r.owner n ≡ domain_in (types_behind (routines_of t) r) r.owner n
declared-said t r h n e =
    says t r h n ∙ ap (λ (b : Bool). if b then domain_in (types_behind (routines_of t) r) r.owner n else undeclared_type r.owner n) e

pub inside-said : (t : Plain) (r : Routine) → HasBlock t r → (r.owner ≡ Keyed [] → ⊥) → (n : List ℕ) → targets_of t r.owner n ≡ domain_in (types_behind (routines_of t) r) r.owner n
inside-said t r h other n = says t r h n ∙ by (declares r n) refl (stands_in (types_behind (routines_of t) r) r.owner n) refl where
  by : (b : Bool) → declares r n ≡ b → (s : Bool) → stands_in (types_behind (routines_of t) r) r.owner n ≡ s →
      (if b then domain_in (types_behind (routines_of t) r) r.owner n else undeclared_type r.owner n) ≡ domain_in (types_behind (routines_of t) r) r.owner n
  by true d s e = refl
  by false d true e = absurd (true≢false (sym (own-types t r h r.owner n e).1 ∙ d))
  by false d false e = other-undeclared r.owner n other ∙ sym (none-stands (types_behind (routines_of t) r) r.owner n e)
