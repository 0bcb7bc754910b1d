-- Well-formed statements, expressions and constants declare nothing.
use Rattle.std.proofs.Common.{Bool, List, [], false, if◌then◌else◌, not, refl, subst, suc, sym, true, zero, ℕ, ◌&&◌, ◌∙◌, ◌∷◌, ◌≡◌}
use Rattle.std.proofs.lemmas.Bool.{and_parts}
use Rattle.std.specs.Prelude.{slice_get}
use Rattle.pc_rule_laws.specs.Orderly.{IsNil, IsSilent, Silent}
use Rattle.pc_rule_laws.specs.Roles.{Gap, Quiet, Role, role}
use Rattle.pc_rules.specs.OwnBlock.{bare_heading, own}
use Rattle.pc_scope.specs.Headings.{is_routine_kind}
use Rattle.pc_syntax.specs.Classes.{has, is_name}
use Rattle.pc_syntax.specs.Fits.{takes, takes_count, takes_from, word_fits}
use Rattle.pc_syntax.specs.FitsLayoutLaws.{layout-forest}
use Rattle.pc_syntax.specs.Layout.{layout}
use Rattle.pc_syntax.specs.Plain.{Cons, Forest, Nil, count, kinds}
use Rattle.pc_syntax.specs.Slots.{class_from, is_list, places_of}
use Rattle.pc_syntax.specs.WellFormed.{WellFormed, fits_some}
use Rattle.pc_syntax.specs.declared.kind.Kind.{Kind}
use Rattle.pc_syntax.specs.declared.class.Class.TheVariants as class
use Rattle.pc_syntax.specs.declared.class.Class.{Class}
use Rattle.pc_syntax.specs.declared.kind.Kind.TheVariants as kind

abbrev pub implies : Bool → Bool → Bool
implies a b = if a then b else true

pub implied : (a b : Bool) → implies a b ≡ true → a ≡ true → b ≡ true
implied true b e f = e
implied false b e f = cc f

pub implies-true : (b : Bool) → implies b true ≡ true
implies-true true = refl
implies-true false = refl

-- the classes of what stands in statements, expressions and constants
abbrev pub quiet_class : Class → Bool
quiet_class class.Constant = true
quiet_class class.Bare = true
quiet_class class.Statement = true
quiet_class class.Body = true
quiet_class class.Arm = true
quiet_class class.Argument = true
quiet_class class.Member = true
quiet_class class.Operand = true
quiet_class class.Expression = true
quiet_class class.Simple = true
quiet_class class.Term = true
quiet_class class.Factor = true
quiet_class class.Access = true
quiet_class class.Name = true
quiet_class class.Args = true
quiet_class class.Names = true
quiet_class class.Labels = true
quiet_class class.Exprs = true
quiet_class class.Accesses = true
quiet_class class.Members = true
quiet_class class.Stmts = true
quiet_class class.Arms = true
quiet_class _ = false

abbrev pub is_quiet_role : Role → Bool
is_quiet_role Quiet = true
is_quiet_role Gap = true
is_quiet_role _ = false

-- the kinds of nodes there
abbrev pub quiet_kind : Kind → Bool
quiet_kind kind.Program = false
quiet_kind kind.Block = false
quiet_kind kind.Forward = false
quiet_kind kind.Heads = false
quiet_kind k = is_quiet_role (role k)

quiet-has : (c : Class) (j : Kind) → implies (quiet_class c) (implies (has c j) (quiet_kind j)) ≡ true
quiet-has class.Constant (kind.Hole s) = implies-true (has class.Constant (kind.Hole s))
quiet-has class.Constant _ = refl
quiet-has class.Bare (kind.Hole s) = implies-true (has class.Bare (kind.Hole s))
quiet-has class.Bare _ = refl
quiet-has class.Statement (kind.Hole s) = implies-true (has class.Statement (kind.Hole s))
quiet-has class.Statement _ = refl
quiet-has class.Body (kind.Hole s) = implies-true (has class.Body (kind.Hole s))
quiet-has class.Body _ = refl
quiet-has class.Arm (kind.Hole s) = implies-true (has class.Arm (kind.Hole s))
quiet-has class.Arm _ = refl
quiet-has class.Argument (kind.Hole s) = implies-true (has class.Argument (kind.Hole s))
quiet-has class.Argument _ = refl
quiet-has class.Member (kind.Hole s) = implies-true (has class.Member (kind.Hole s))
quiet-has class.Member _ = refl
quiet-has class.Operand (kind.Hole s) = implies-true (has class.Operand (kind.Hole s))
quiet-has class.Operand _ = refl
quiet-has class.Expression (kind.Hole s) = implies-true (has class.Expression (kind.Hole s))
quiet-has class.Expression _ = refl
quiet-has class.Simple (kind.Hole s) = implies-true (has class.Simple (kind.Hole s))
quiet-has class.Simple _ = refl
quiet-has class.Term (kind.Hole s) = implies-true (has class.Term (kind.Hole s))
quiet-has class.Term _ = refl
quiet-has class.Factor (kind.Hole s) = implies-true (has class.Factor (kind.Hole s))
quiet-has class.Factor _ = refl
quiet-has class.Access (kind.Hole s) = implies-true (has class.Access (kind.Hole s))
quiet-has class.Access _ = refl
quiet-has class.Name (kind.Hole s) = implies-true (has class.Name (kind.Hole s))
quiet-has class.Name _ = refl
quiet-has class.Args (kind.Hole s) = implies-true (has class.Args (kind.Hole s))
quiet-has class.Args _ = refl
quiet-has class.Names (kind.Hole s) = implies-true (has class.Names (kind.Hole s))
quiet-has class.Names _ = refl
quiet-has class.Labels (kind.Hole s) = implies-true (has class.Labels (kind.Hole s))
quiet-has class.Labels _ = refl
quiet-has class.Exprs (kind.Hole s) = implies-true (has class.Exprs (kind.Hole s))
quiet-has class.Exprs _ = refl
quiet-has class.Accesses (kind.Hole s) = implies-true (has class.Accesses (kind.Hole s))
quiet-has class.Accesses _ = refl
quiet-has class.Members (kind.Hole s) = implies-true (has class.Members (kind.Hole s))
quiet-has class.Members _ = refl
quiet-has class.Stmts (kind.Hole s) = implies-true (has class.Stmts (kind.Hole s))
quiet-has class.Stmts _ = refl
quiet-has class.Arms (kind.Hole s) = implies-true (has class.Arms (kind.Hole s))
quiet-has class.Arms _ = refl
quiet-has _ j = refl

abbrev pub all_quiet : List Class → Bool
all_quiet [] = true
all_quiet (c ∷ cs) = quiet_class c && all_quiet cs

pub quiet-places : (k : Kind) → implies (quiet_kind k) (all_quiet (places_of k)) ≡ true
quiet-places (kind.Hole s) = refl
quiet-places _ = refl

-- a kid at a place of such classes
takes-quiet : (cs : List Class) (i : ℕ) (j : Kind) → all_quiet cs ≡ true → takes (slice_get cs i) j ≡ true → quiet_kind j ≡ true
takes-quiet [] i j q e = cc e
takes-quiet (c ∷ cs) zero j q e = implied (has c j) (quiet_kind j) (implied (quiet_class c) _ (quiet-has c j) (and_parts _ _ q).0) e
takes-quiet (c ∷ cs) (suc i) j q e = takes-quiet cs i j (and_parts (quiet_class c) _ q).1 e

abbrev pub QuietKinds : Forest → Type 0
QuietKinds Nil = Unit {0}
QuietKinds (Cons k w ns ks ts) = (quiet_kind k ≡ true) × QuietKinds ts

pub taken-quiet : (k : Kind) (i : ℕ) (ks : Forest) → all_quiet (places_of k) ≡ true → takes_from k i (kinds ks) ≡ true → QuietKinds ks
taken-quiet k i Nil q e = tt
taken-quiet k i (Cons j w ns ks ts) q e =
    let a = and_parts (takes (class_from k i) j) (takes_from k (suc i) (kinds ts)) e in
    (takes-quiet (places_of k) (if is_list k then 0 else i) j q a.0, taken-quiet k (suc i) ts q a.1)

-- what the grammar asks of a node
pub record Asked (k : Kind) (w : List ℕ) (ks : Forest) : Type 0 where
  pub many : takes_count k (count ks) ≡ true
  pub placed : takes_from k 0 (kinds ks) ≡ true

pub asked : (k : Kind) (w : List ℕ) (ks : Forest) → fits_some (layout k w (count ks)) (kinds ks) ≡ true → Asked k w ks
asked k w ks e =
    let a = and_parts (word_fits k w) (takes_count k (count ks) && takes_from k 0 (kinds ks)) (sym (layout-forest k w ks) ∙ e) in
    let c = and_parts (takes_count k (count ks)) (takes_from k 0 (kinds ks)) a.1 in
    record { many = c.0; placed = c.1 }

-- a hole has no kids, nor has a name
pub hole-nil : (k : Kind) (ks : Forest) → role k ≡ Gap → takes_from k 0 (kinds ks) ≡ true → IsNil ks
hole-nil (kind.Hole s) Nil r e = tt
hole-nil (kind.Hole s) (Cons j w ns ks ts) r e = cc e
hole-nil _ ks r e = cc r

pub name-nil : (k : Kind) (ks : Forest) → is_name k ≡ true → takes_from k 0 (kinds ks) ≡ true → IsNil ks
name-nil kind.Name Nil r e = tt
name-nil kind.Name (Cons j w ns ks ts) r e = cc e
name-nil (kind.Hole s) Nil r e = tt
name-nil (kind.Hole s) (Cons j w ns ks ts) r e = cc e
name-nil _ ks r e = cc r

pub nil-own : (b : Bool) (ks : Forest) → IsNil ks → IsNil (if b then bare_heading ks else own ks)
unfolding own
nil-own true Nil h = tt
nil-own false Nil h = tt
nil-own b (Cons k w ns ks ts) h = absurd h

pub quiet-plain : (k : Kind) → implies (quiet_kind k) (not (is_routine_kind k) && is_quiet_role (role k)) ≡ true
quiet-plain (kind.Hole s) = refl
quiet-plain _ = refl

pub not-false : (b : Bool) → not b ≡ true → b ≡ false
not-false true e = cc e
not-false false e = refl

-- trees of such kinds declare nothing
pub quiet-silent : (f : Forest) → WellFormed f → QuietKinds f → Silent (own f)
unfolding own
quiet-silent Nil h q = tt
quiet-silent (Cons k w ns ks ts) h q =
    let a : Asked k w ks = asked k w ks h.0 in
    let plain = and_parts (not (is_routine_kind k)) (is_quiet_role (role k)) (implied (quiet_kind k) _ (quiet-plain k) q.0) in
    let below : Silent (own ks) = quiet-silent ks h.3 (taken-quiet k 0 ks (implied (quiet_kind k) (all_quiet (places_of k)) (quiet-places k) q.0) a.placed) in
    let at : IsSilent (role k) (own ks) = by (role k) refl plain.1 a.placed in
    let both : IsSilent (role k) (if is_routine_kind k then bare_heading ks else own ks) × Silent (if is_routine_kind k then bare_heading ks else own ks) =
    subst (λ (b : Bool). IsSilent (role k) (if b then bare_heading ks else own ks) × Silent (if b then bare_heading ks else own ks)) (sym (not-false (is_routine_kind k) plain.0)) (at, below) in
    (both.0, both.1, quiet-silent ts h.4 q.1) where
      by : (r : Role) → role k ≡ r → is_quiet_role r ≡ true → takes_from k 0 (kinds ks) ≡ true → IsSilent r (own ks)
      by Quiet is e t = tt
      by Gap is e t = nil-own false ks (hole-nil k ks is t)
      by _ is e t = cc e
