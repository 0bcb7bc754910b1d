-- The kinds of nodes of statement parts, of headings and of declaration parts, from the classes of the grammar.
use Rattle.std.specs.Prelude.{ℕ, zero, suc, ◌≡◌, Bool, true, false, not, ◌&&◌, ◌||◌, if◌then◌else◌, List, [], ◌∷◌, slice_get}
use Rattle.std.proofs.Common.{refl, sym, ◌∙◌, true≢false}
use Rattle.std.proofs.lemmas.Bool.{and_parts}
use Rattle.pc_syntax.specs.declared.kind.Kind.{Kind}
use Rattle.pc_syntax.specs.declared.kind.Kind.TheVariants as kind
use Rattle.pc_syntax.specs.declared.class.Class.{Class}
use Rattle.pc_syntax.specs.declared.class.Class.TheVariants as class
use Rattle.pc_syntax.specs.Classes.{has}
use Rattle.pc_syntax.specs.Fits.{takes, takes_count, takes_from, word_fits}
use Rattle.pc_syntax.specs.FitsLayoutLaws.{layout-forest}
use Rattle.pc_syntax.specs.Layout.{layout}
use Rattle.pc_syntax.specs.Plain.{Forest, Nil, Cons, count, kinds}
use Rattle.pc_syntax.specs.Slots.{is_list, places_of, class_from}
use Rattle.pc_syntax.specs.WellFormed.{WellFormed, fits_some}
use Rattle.pc_scope.specs.Headings.{is_routine_kind}
use Rattle.pc_rules.specs.OwnBlock.{own, bare_heading, declared_by, declared_in}

-- a test that holds of what another doesn't exclude
pub either-way : (x y : Bool) → (x || not y) ≡ true → y ≡ true → x ≡ true
either-way true y h e = refl
either-way false true h e = absurd (true≢false (sym h))
either-way false false h e = absurd (true≢false (sym e))

-- each node of a row passes a test
abbrev pub Passes : (Kind → Bool) → Forest → Type 0
Passes test Nil = Unit {0}
Passes test (Cons k w ns ks ts) = (test k ≡ true) × Passes test ts

-- all classes of a list do
abbrev pub all_classes : (Class → Bool) → List Class → Bool
all_classes of [] = true
all_classes of (c ∷ cs) = of c && all_classes of cs

-- a class that passes at each place of a list
pub class-at : (test : Kind → Bool) (of : Class → Bool) → ((c : Class) (k : Kind) → of c ≡ true → has c k ≡ true → test k ≡ true) → (cs : List Class) (i : ℕ) (j : Kind) →
    all_classes of cs ≡ true → takes (slice_get cs i) j ≡ true → test j ≡ true
class-at test of h [] i j a t = absurd (true≢false (sym t))
class-at test of h (c ∷ cs) zero j a t = h c j (and_parts (of c) (all_classes of cs) a).0 t
class-at test of h (c ∷ cs) (suc i) j a t = class-at test of h cs i j (and_parts (of c) (all_classes of cs) a).1 t

-- so the kids of a node pass, where the classes of its places do
pub row-passes : (test : Kind → Bool) (of : Class → Bool) → ((c : Class) (k : Kind) → of c ≡ true → has c k ≡ true → test k ≡ true) → (k : Kind) (i : ℕ) (f : Forest) →
    all_classes of (places_of k) ≡ true → takes_from k i (kinds f) ≡ true → Passes test f
row-passes test of h k i Nil a t = tt
row-passes test of h k i (Cons j w ns ks ts) a t =
    let both = and_parts (takes (class_from k i) j) (takes_from k (suc i) (kinds ts)) t in
    (class-at test of h (places_of k) (if is_list k then 0 else i) j a both.0, row-passes test of h k (suc i) ts a both.1)

-- the kids that a node takes
pub node-takes : (k : Kind) (w : List ℕ) (f : Forest) → fits_some (layout k w (count f)) (kinds f) ≡ true → takes_from k 0 (kinds f) ≡ true
node-takes k w f e =
    let fit = and_parts (word_fits k w) _ (sym (layout-forest k w f) ∙ e) in
    (and_parts (takes_count k (count f)) _ fit.1).1

-- ---- statement parts

-- the kinds of nodes at and below a statement or a constant
abbrev pub is_inside : Kind → Bool
is_inside kind.Cnumber = true
is_inside kind.Cstring = true
is_inside kind.Cname = true
is_inside kind.Csign = true
is_inside kind.Empty = true
is_inside kind.Assign = true
is_inside kind.Proc = true
is_inside kind.Compound = true
is_inside kind.If = true
is_inside kind.Ifelse = true
is_inside kind.Case = true
is_inside kind.Arm = true
is_inside kind.Repeat = true
is_inside kind.While = true
is_inside kind.For = true
is_inside kind.With = true
is_inside kind.Ref = true
is_inside kind.Index = true
is_inside kind.Select = true
is_inside kind.Deref = true
is_inside kind.Number = true
is_inside kind.Text = true
is_inside kind.Nil = true
is_inside kind.Call = true
is_inside kind.Parens = true
is_inside kind.Not = true
is_inside kind.Setcon = true
is_inside kind.Mul = true
is_inside kind.Add = true
is_inside kind.Sign = true
is_inside kind.Rel = true
is_inside kind.Width = true
is_inside kind.Span = true
is_inside kind.Name = true
is_inside kind.Args = true
is_inside kind.Labels = true
is_inside kind.Exprs = true
is_inside kind.Accesses = true
is_inside kind.Members = true
is_inside kind.Stmts = true
is_inside kind.Arms = true
is_inside (kind.Hole s) = true
is_inside k = false

-- and their classes
abbrev pub is_inside_class : Class → Bool
is_inside_class class.Statement = true
is_inside_class class.Body = true
is_inside_class class.Arm = true
is_inside_class class.Argument = true
is_inside_class class.Member = true
is_inside_class class.Operand = true
is_inside_class class.Expression = true
is_inside_class class.Simple = true
is_inside_class class.Term = true
is_inside_class class.Factor = true
is_inside_class class.Access = true
is_inside_class class.Name = true
is_inside_class class.Args = true
is_inside_class class.Labels = true
is_inside_class class.Exprs = true
is_inside_class class.Accesses = true
is_inside_class class.Members = true
is_inside_class class.Stmts = true
is_inside_class class.Arms = true
is_inside_class class.Constant = true
is_inside_class class.Bare = true
is_inside_class c = false

-- ---- each class of these has such kinds alone

statement-inside : (k : Kind) → (is_inside k || not (has class.Statement k)) ≡ true
statement-inside (kind.Hole s) = refl
statement-inside _ = refl

-- a statement part is of such a kind
pub body-inside : (k : Kind) → (is_inside k || not (has class.Body k)) ≡ true
body-inside (kind.Hole s) = refl
body-inside _ = refl

arm-inside : (k : Kind) → (is_inside k || not (has class.Arm k)) ≡ true
arm-inside (kind.Hole s) = refl
arm-inside _ = refl

argument-inside : (k : Kind) → (is_inside k || not (has class.Argument k)) ≡ true
argument-inside (kind.Hole s) = refl
argument-inside _ = refl

member-inside : (k : Kind) → (is_inside k || not (has class.Member k)) ≡ true
member-inside (kind.Hole s) = refl
member-inside _ = refl

operand-inside : (k : Kind) → (is_inside k || not (has class.Operand k)) ≡ true
operand-inside (kind.Hole s) = refl
operand-inside _ = refl

expression-inside : (k : Kind) → (is_inside k || not (has class.Expression k)) ≡ true
expression-inside (kind.Hole s) = refl
expression-inside _ = refl

simple-inside : (k : Kind) → (is_inside k || not (has class.Simple k)) ≡ true
simple-inside (kind.Hole s) = refl
simple-inside _ = refl

term-inside : (k : Kind) → (is_inside k || not (has class.Term k)) ≡ true
term-inside (kind.Hole s) = refl
term-inside _ = refl

factor-inside : (k : Kind) → (is_inside k || not (has class.Factor k)) ≡ true
factor-inside (kind.Hole s) = refl
factor-inside _ = refl

access-inside : (k : Kind) → (is_inside k || not (has class.Access k)) ≡ true
access-inside (kind.Hole s) = refl
access-inside _ = refl

name-inside : (k : Kind) → (is_inside k || not (has class.Name k)) ≡ true
name-inside (kind.Hole s) = refl
name-inside _ = refl

args-inside : (k : Kind) → (is_inside k || not (has class.Args k)) ≡ true
args-inside (kind.Hole s) = refl
args-inside _ = refl

labels-inside : (k : Kind) → (is_inside k || not (has class.Labels k)) ≡ true
labels-inside (kind.Hole s) = refl
labels-inside _ = refl

exprs-inside : (k : Kind) → (is_inside k || not (has class.Exprs k)) ≡ true
exprs-inside (kind.Hole s) = refl
exprs-inside _ = refl

accesses-inside : (k : Kind) → (is_inside k || not (has class.Accesses k)) ≡ true
accesses-inside (kind.Hole s) = refl
accesses-inside _ = refl

members-inside : (k : Kind) → (is_inside k || not (has class.Members k)) ≡ true
members-inside (kind.Hole s) = refl
members-inside _ = refl

stmts-inside : (k : Kind) → (is_inside k || not (has class.Stmts k)) ≡ true
stmts-inside (kind.Hole s) = refl
stmts-inside _ = refl

arms-inside : (k : Kind) → (is_inside k || not (has class.Arms k)) ≡ true
arms-inside (kind.Hole s) = refl
arms-inside _ = refl

constant-inside : (k : Kind) → (is_inside k || not (has class.Constant k)) ≡ true
constant-inside (kind.Hole s) = refl
constant-inside _ = refl

bare-inside : (k : Kind) → (is_inside k || not (has class.Bare k)) ≡ true
bare-inside (kind.Hole s) = refl
bare-inside _ = refl

class-inside : (c : Class) (k : Kind) → is_inside_class c ≡ true → has c k ≡ true → is_inside k ≡ true
class-inside class.Statement k e h = either-way (is_inside k) (has class.Statement k) (statement-inside k) h
class-inside class.Body k e h = either-way (is_inside k) (has class.Body k) (body-inside k) h
class-inside class.Arm k e h = either-way (is_inside k) (has class.Arm k) (arm-inside k) h
class-inside class.Argument k e h = either-way (is_inside k) (has class.Argument k) (argument-inside k) h
class-inside class.Member k e h = either-way (is_inside k) (has class.Member k) (member-inside k) h
class-inside class.Operand k e h = either-way (is_inside k) (has class.Operand k) (operand-inside k) h
class-inside class.Expression k e h = either-way (is_inside k) (has class.Expression k) (expression-inside k) h
class-inside class.Simple k e h = either-way (is_inside k) (has class.Simple k) (simple-inside k) h
class-inside class.Term k e h = either-way (is_inside k) (has class.Term k) (term-inside k) h
class-inside class.Factor k e h = either-way (is_inside k) (has class.Factor k) (factor-inside k) h
class-inside class.Access k e h = either-way (is_inside k) (has class.Access k) (access-inside k) h
class-inside class.Name k e h = either-way (is_inside k) (has class.Name k) (name-inside k) h
class-inside class.Args k e h = either-way (is_inside k) (has class.Args k) (args-inside k) h
class-inside class.Labels k e h = either-way (is_inside k) (has class.Labels k) (labels-inside k) h
class-inside class.Exprs k e h = either-way (is_inside k) (has class.Exprs k) (exprs-inside k) h
class-inside class.Accesses k e h = either-way (is_inside k) (has class.Accesses k) (accesses-inside k) h
class-inside class.Members k e h = either-way (is_inside k) (has class.Members k) (members-inside k) h
class-inside class.Stmts k e h = either-way (is_inside k) (has class.Stmts k) (stmts-inside k) h
class-inside class.Arms k e h = either-way (is_inside k) (has class.Arms k) (arms-inside k) h
class-inside class.Constant k e h = either-way (is_inside k) (has class.Constant k) (constant-inside k) h
class-inside class.Bare k e h = either-way (is_inside k) (has class.Bare k) (bare-inside k) h
class-inside c k e h = absurd (true≢false (sym e))

kids-inside : (k : Kind) → (all_classes is_inside_class (places_of k) || not (is_inside k)) ≡ true
kids-inside (kind.Hole s) = refl
kids-inside _ = refl

-- all nodes of some trees are of such kinds
abbrev pub AllInside : Forest → Type 0
AllInside Nil = Unit {0}
AllInside (Cons k w ns ks ts) = (is_inside k ≡ true) × AllInside ks × AllInside ts

pub all-inside : (f : Forest) → Passes is_inside f → WellFormed f → AllInside f
all-inside Nil p c = tt
all-inside (Cons k w ns ks ts) p c = (
  p.0,
  all-inside ks (row-passes is_inside is_inside_class class-inside k 0 ks (either-way (all_classes is_inside_class (places_of k)) (is_inside k) (kids-inside k) p.0) (node-takes k w ks c.0)) c.3,
  all-inside ts p.1 c.4,
)

-- they declare nothing
inside-no-routine : (k : Kind) → (not (is_routine_kind k) || not (is_inside k)) ≡ true
inside-no-routine (kind.Hole s) = refl
inside-no-routine _ = refl

inside-declares : (k : Kind) (f : Forest) → is_inside k ≡ true → declared_by k f ≡ []
inside-declares kind.Constdef f e = absurd (true≢false (sym e))
inside-declares kind.Typedef f e = absurd (true≢false (sym e))
inside-declares kind.Vardef f e = absurd (true≢false (sym e))
inside-declares kind.Enum f e = absurd (true≢false (sym e))
inside-declares kind.Procedure f e = absurd (true≢false (sym e))
inside-declares kind.Function f e = absurd (true≢false (sym e))
inside-declares kind.Funbody f e = absurd (true≢false (sym e))
inside-declares _ f e = refl

none-declared : (b : Bool) (xs : List (List ℕ)) → not b ≡ true → b ≡ false
none-declared true xs e = absurd (true≢false (sym e))
none-declared false xs e = refl

pub inside-declared : (f : Forest) → AllInside f → declared_in (own f) ≡ []
unfolding own
inside-declared Nil h = refl
inside-declared (Cons k w ns ks ts) h =
    let no : is_routine_kind k ≡ false = none-declared (is_routine_kind k) [] (either-way (not (is_routine_kind k)) (is_inside k) (inside-no-routine k) h.0) in
    let by : declared_by k (if is_routine_kind k then bare_heading ks else own ks) ≡ [] = inside-declares k (if is_routine_kind k then bare_heading ks else own ks) h.0 in
    let below : declared_in (own ks) ≡ [] = inside-declared ks h.1 in
    let behind : declared_in (own ts) ≡ [] = inside-declared ts h.2 in
    rw (by, no, below) behind
