-- The kinds of nodes in the statement part of a well-formed block.
use Rattle.std.specs.Prelude.{◌≡◌, Bool, true, false, not, ◌&&◌, ◌||◌, ◌⊎◌}
use Rattle.std.proofs.Common.{refl, ap, sym, true≢false, inl, inr}
use Rattle.pc_syntax.specs.declared.kind.Kind.{Kind}
use Rattle.pc_syntax.specs.declared.kind.Kind.TheVariants as kind
use Rattle.pc_syntax.specs.declared.class.Class.{Class}
use Rattle.pc_syntax.specs.declared.class.Class.TheVariants as class
use Rattle.pc_syntax.specs.Classes.{has}
use Rattle.pc_syntax.specs.Plain.{Forest, Nil, Cons}
use Rattle.pc_syntax.specs.Slots.{places_of}
use Rattle.pc_syntax.specs.WellFormed.{WellFormed}
use Rattle.pc_scope.specs.Headings.{is_routine_kind}
use Rattle.pc_rules.specs.OwnBlock.{own}
use Rattle.pc_needs.proofs.BodyKinds.{either-way, Passes, all_classes, row-passes, node-takes}
use Rattle.pc_program_laws.specs.Changed.{is_simple, is_structured}
use Rattle.pc_program_laws.specs.Unsigned.{is_declaring, AllOfKind}
use Rattle.pc_program_laws.proofs.KindLemmas.{all-of, all-map, own-same}

-- ---- expressions, and statements without others in them

abbrev is_bare : Kind → Bool
is_bare kind.Cnumber = true
is_bare kind.Cstring = true
is_bare kind.Cname = true
is_bare kind.Csign = true
is_bare kind.Empty = true
is_bare kind.Assign = true
is_bare kind.Proc = true
is_bare kind.Ref = true
is_bare kind.Index = true
is_bare kind.Select = true
is_bare kind.Deref = true
is_bare kind.Number = true
is_bare kind.Text = true
is_bare kind.Nil = true
is_bare kind.Call = true
is_bare kind.Parens = true
is_bare kind.Not = true
is_bare kind.Setcon = true
is_bare kind.Mul = true
is_bare kind.Add = true
is_bare kind.Sign = true
is_bare kind.Rel = true
is_bare kind.Width = true
is_bare kind.Span = true
is_bare kind.Name = true
is_bare kind.Args = true
is_bare kind.Labels = true
is_bare kind.Exprs = true
is_bare kind.Accesses = true
is_bare kind.Members = true
is_bare (kind.Hole s) = true
is_bare _ = false

abbrev is_bare_class : Class → Bool
is_bare_class class.Argument = true
is_bare_class class.Member = true
is_bare_class class.Operand = true
is_bare_class class.Expression = true
is_bare_class class.Simple = true
is_bare_class class.Term = true
is_bare_class class.Factor = true
is_bare_class class.Access = true
is_bare_class class.Name = true
is_bare_class class.Args = true
is_bare_class class.Labels = true
is_bare_class class.Exprs = true
is_bare_class class.Accesses = true
is_bare_class class.Members = true
is_bare_class class.Constant = true
is_bare_class class.Bare = true
is_bare_class _ = false

bare-so : (c : Class) (k : Kind) → (is_bare k || not (is_bare_class c && has c k)) ≡ true
bare-so class.Argument (kind.Hole s) = refl
bare-so class.Argument _ = refl
bare-so class.Member (kind.Hole s) = refl
bare-so class.Member _ = refl
bare-so class.Operand (kind.Hole s) = refl
bare-so class.Operand _ = refl
bare-so class.Expression (kind.Hole s) = refl
bare-so class.Expression _ = refl
bare-so class.Simple (kind.Hole s) = refl
bare-so class.Simple _ = refl
bare-so class.Term (kind.Hole s) = refl
bare-so class.Term _ = refl
bare-so class.Factor (kind.Hole s) = refl
bare-so class.Factor _ = refl
bare-so class.Access (kind.Hole s) = refl
bare-so class.Access _ = refl
bare-so class.Name (kind.Hole s) = refl
bare-so class.Name _ = refl
bare-so class.Args (kind.Hole s) = refl
bare-so class.Args _ = refl
bare-so class.Labels (kind.Hole s) = refl
bare-so class.Labels _ = refl
bare-so class.Exprs (kind.Hole s) = refl
bare-so class.Exprs _ = refl
bare-so class.Accesses (kind.Hole s) = refl
bare-so class.Accesses _ = refl
bare-so class.Members (kind.Hole s) = refl
bare-so class.Members _ = refl
bare-so class.Constant (kind.Hole s) = refl
bare-so class.Constant _ = refl
bare-so class.Bare (kind.Hole s) = refl
bare-so class.Bare _ = refl
bare-so _ k = either (is_bare k) where
  either : (b : Bool) → (b || true) ≡ true
  either true = refl
  either false = refl

both-so : (a b : Bool) → a ≡ true → b ≡ true → (a && b) ≡ true
both-so true b e f = f
both-so false b e f = absurd (true≢false (sym e))

class-bare : (c : Class) (k : Kind) → is_bare_class c ≡ true → has c k ≡ true → is_bare k ≡ true
class-bare c k e h = either-way (is_bare k) (is_bare_class c && has c k) (bare-so c k) (both-so (is_bare_class c) (has c k) e h)

kids-so : (k : Kind) → (all_classes is_bare_class (places_of k) || not (is_bare k)) ≡ true
kids-so (kind.Hole s) = refl
kids-so _ = refl

kids-bare : (k : Kind) → is_bare k ≡ true → all_classes is_bare_class (places_of k) ≡ true
kids-bare k e = either-way (all_classes is_bare_class (places_of k)) (is_bare k) (kids-so k) e

simple-so : (k : Kind) → (is_simple k || not (is_bare k)) ≡ true
simple-so (kind.Hole s) = refl
simple-so _ = refl

bare-simple : (k : Kind) → is_bare k ≡ true → is_simple k ≡ true
bare-simple k e = either-way (is_simple k) (is_bare k) (simple-so k) e

-- declarations are such trees too
declaring-so : (k : Kind) → (is_simple k || not (is_declaring k)) ≡ true
declaring-so (kind.Hole s) = refl
declaring-so _ = refl

pub declaring-simple : (f : Forest) → AllOfKind is_declaring f → AllOfKind is_simple f
declaring-simple f a = all-map is_declaring is_simple (λ k e. either-way (is_simple k) (is_declaring k) (declaring-so k) e) f a

-- ---- statements

abbrev pub is_fine : Kind → Bool
is_fine k = is_structured k || is_bare k

abbrev is_fine_class : Class → Bool
is_fine_class class.Statement = true
is_fine_class class.Body = true
is_fine_class class.Arm = true
is_fine_class class.Stmts = true
is_fine_class class.Arms = true
is_fine_class c = is_bare_class c

other-so : (a b c : Bool) → (b || not c) ≡ true → ((a || b) || not c) ≡ true
other-so true b c e = refl
other-so false b c e = e

fine-so : (c : Class) (k : Kind) → (is_fine k || not (is_fine_class c && has c k)) ≡ true
fine-so class.Statement (kind.Hole s) = refl
fine-so class.Statement _ = refl
fine-so class.Body (kind.Hole s) = refl
fine-so class.Body _ = refl
fine-so class.Arm (kind.Hole s) = refl
fine-so class.Arm _ = refl
fine-so class.Stmts (kind.Hole s) = refl
fine-so class.Stmts _ = refl
fine-so class.Arms (kind.Hole s) = refl
fine-so class.Arms _ = refl
fine-so c k = other-so (is_structured k) (is_bare k) (is_bare_class c && has c k) (bare-so c k)

class-fine : (c : Class) (k : Kind) → is_fine_class c ≡ true → has c k ≡ true → is_fine k ≡ true
class-fine c k e h = either-way (is_fine k) (is_fine_class c && has c k) (fine-so c k) (both-so (is_fine_class c) (has c k) e h)

pub body-fine : (k : Kind) → has class.Body k ≡ true → is_fine k ≡ true
body-fine k e = class-fine class.Body k refl e

fine-kids-so : (k : Kind) → (all_classes is_fine_class (places_of k) || not (is_fine k)) ≡ true
fine-kids-so (kind.Hole s) = refl
fine-kids-so _ = refl

kids-fine : (k : Kind) → is_fine k ≡ true → all_classes is_fine_class (places_of k) ≡ true
kids-fine k e = either-way (all_classes is_fine_class (places_of k)) (is_fine k) (fine-kids-so k) e

-- trees of statements: what has others in it, and what is simple down to its leaves
abbrev pub AllFine : Forest → Type 0
AllFine Nil = Unit {0}
AllFine (Cons k w ns ks ts) = (((is_structured k ≡ true) × AllFine ks) ⊎ ((is_simple k ≡ true) × AllOfKind is_simple ks)) × AllFine ts

pub all-fine : (f : Forest) → WellFormed f → Passes is_fine f → AllFine f
all-fine Nil c p = tt
all-fine (Cons k w ns ks ts) c p = (which (all-fine ks c.3) (is_structured k) refl p.0, all-fine ts c.4 p.1) where
  which : (Passes is_fine ks → AllFine ks) → (b : Bool) → is_structured k ≡ b → (b || is_bare k) ≡ true →
      ((is_structured k ≡ true) × AllFine ks) ⊎ ((is_simple k ≡ true) × AllOfKind is_simple ks)
  which rest true s e =
      inl (s, rest (row-passes is_fine is_fine_class class-fine k 0 ks (kids-fine k (ap (λ (b : Bool). b || is_bare k) s)) (node-takes k w ks c.0)))
  which rest false s e =
      inr (bare-simple k e, all-map is_bare is_simple bare-simple ks (all-of is_bare is_bare_class class-bare kids-bare ks c.3 (row-passes is_bare is_bare_class class-bare k 0 ks (kids-bare k e) (node-takes k w ks c.0))))

-- in an own block they stay as they are
fine-routine-so : (k : Kind) → (not (is_routine_kind k) || not (is_fine k)) ≡ true
fine-routine-so (kind.Hole s) = refl
fine-routine-so _ = refl

not-true : (b : Bool) → not b ≡ true → b ≡ false
not-true true e = absurd (true≢false (sym e))
not-true false e = refl

pub own-fine : (f : Forest) → WellFormed f → Passes is_fine f → own f ≡ f
own-fine f c p =
    own-same is_fine (λ k e. not-true (is_routine_kind k) (either-way (not (is_routine_kind k)) (is_fine k) (fine-routine-so k) e)) f
    (all-of is_fine is_fine_class class-fine kids-fine f c p)
