-- The kinds of all nodes among the declarations of a well-formed block.
use Rattle.std.specs.Prelude.{ℕ, ◌≡◌, Bool, true, false, not, ◌&&◌, ◌||◌, if◌then◌else◌, List}
use Rattle.std.proofs.Common.{refl, ap, sym, subst, ◌∙◌, true≢false}
use Rattle.std.proofs.lemmas.Bool.{and_parts}
use Rattle.pc_syntax.specs.declared.kind.Kind.{Kind}
use Rattle.pc_syntax.specs.declared.kind.Kind.TheVariants as kind
use Rattle.pc_syntax.specs.declared.class.Class.{Class}
use Rattle.pc_syntax.specs.declared.class.Class.TheVariants as class
use Rattle.pc_syntax.specs.Classes.{has}
use Rattle.pc_syntax.specs.Layout.{layout}
use Rattle.pc_syntax.specs.Plain.{Forest, Nil, Cons, count, kinds}
use Rattle.pc_syntax.specs.Slots.{places_of}
use Rattle.pc_syntax.specs.WellFormed.{WellFormed, fits_some}
use Rattle.pc_scope.specs.Headings.{is_routine_kind}
use Rattle.pc_rules.specs.OwnBlock.{own, bare_heading, without_kids}
use Rattle.pc_needs.proofs.BodyKinds.{either-way, Passes, all_classes, row-passes, node-takes}
use Rattle.pc_needs.proofs.HeadingKinds.{is_the_block}
use Rattle.pc_program_laws.specs.Unsigned.{is_declaring, AllOfKind, declarations_of, DeclaringLaw}
use Rattle.pc_program_laws.proofs.BlockLemmas.{block-parts}

-- ---- all nodes of well-formed trees

-- where the classes of the places of each such kind have such kinds alone
pub all-of : (test : Kind → Bool) (of : Class → Bool) → ((c : Class) (k : Kind) → of c ≡ true → has c k ≡ true → test k ≡ true) →
    ((k : Kind) → test k ≡ true → all_classes of (places_of k) ≡ true) → (f : Forest) → WellFormed f → Passes test f → AllOfKind test f
all-of test of h g Nil c p = tt
all-of test of h g (Cons k w ns ks ts) c p =
    (p.0, all-of test of h g ks c.3 (row-passes test of h k 0 ks (g k p.0) (node-takes k w ks c.0)), all-of test of h g ts c.4 p.1)

-- what follows of their kinds
pub all-map : (test other : Kind → Bool) → ((k : Kind) → test k ≡ true → other k ≡ true) → (f : Forest) → AllOfKind test f → AllOfKind other f
all-map test other h Nil a = tt
all-map test other h (Cons k w ns ks ts) a = (h k a.0, all-map test other h ks a.1, all-map test other h ts a.2)

-- of the trees themselves
pub all-passes : (test : Kind → Bool) (f : Forest) → AllOfKind test f → Passes test f
all-passes test Nil a = tt
all-passes test (Cons k w ns ks ts) a = (a.0, all-passes test ts a.2)

-- trees without their kids
without-all : (test : Kind → Bool) (f : Forest) → Passes test f → AllOfKind test (without_kids f)
without-all test Nil p = tt
without-all test (Cons k w ns ks ts) p = (p.0, tt, without-all test ts p.1)

-- trees without routines stay as they are
pub own-same : (test : Kind → Bool) → ((k : Kind) → test k ≡ true → is_routine_kind k ≡ false) → (f : Forest) → AllOfKind test f → own f ≡ f
unfolding own
own-same test h Nil a = refl
own-same test h (Cons k w ns ks ts) a =
    ap (λ (b : Bool). Cons k w ns (if b then bare_heading ks else own ks) (own ts)) (h k a.0)
    ∙ (λ i. Cons k w ns (own-same test h ks a.1 i) (own-same test h ts a.2 i))

-- ---- declarations but for routines

abbrev pub holds_routines : Kind → Bool
holds_routines kind.Block = true
holds_routines kind.Routines = true
holds_routines kind.Procedure = true
holds_routines kind.Function = true
holds_routines kind.Funbody = true
holds_routines _ = false

abbrev pub is_denoting : Kind → Bool
is_denoting k = is_declaring k && not (holds_routines k)

abbrev is_denoting_class : Class → Bool
is_denoting_class class.Constdef = true
is_denoting_class class.Typedef = true
is_denoting_class class.Vardef = true
is_denoting_class class.Parameter = true
is_denoting_class class.Denoter = true
is_denoting_class class.Structured = true
is_denoting_class class.Ordinal = true
is_denoting_class class.Field = true
is_denoting_class class.Constant = true
is_denoting_class class.Bare = true
is_denoting_class class.Name = true
is_denoting_class class.Params = true
is_denoting_class class.Names = true
is_denoting_class class.Indexes = true
is_denoting_class class.Fields = true
is_denoting_class _ = false

class-so : (c : Class) (k : Kind) → (is_denoting k || not (is_denoting_class c && has c k)) ≡ true
class-so class.Constdef (kind.Hole s) = refl
class-so class.Constdef _ = refl
class-so class.Typedef (kind.Hole s) = refl
class-so class.Typedef _ = refl
class-so class.Vardef (kind.Hole s) = refl
class-so class.Vardef _ = refl
class-so class.Parameter (kind.Hole s) = refl
class-so class.Parameter _ = refl
class-so class.Denoter (kind.Hole s) = refl
class-so class.Denoter _ = refl
class-so class.Structured (kind.Hole s) = refl
class-so class.Structured _ = refl
class-so class.Ordinal (kind.Hole s) = refl
class-so class.Ordinal _ = refl
class-so class.Field (kind.Hole s) = refl
class-so class.Field _ = refl
class-so class.Constant (kind.Hole s) = refl
class-so class.Constant _ = refl
class-so class.Bare (kind.Hole s) = refl
class-so class.Bare _ = refl
class-so class.Name (kind.Hole s) = refl
class-so class.Name _ = refl
class-so class.Params (kind.Hole s) = refl
class-so class.Params _ = refl
class-so class.Names (kind.Hole s) = refl
class-so class.Names _ = refl
class-so class.Indexes (kind.Hole s) = refl
class-so class.Indexes _ = refl
class-so class.Fields (kind.Hole s) = refl
class-so class.Fields _ = refl
class-so _ k = either (is_denoting k) where
  either : (b : Bool) → (b || true) ≡ true
  either true = refl
  either false = refl

both-so : (a b : Bool) → a ≡ true → b ≡ true → (a && b) ≡ true
both-so true b e f = f
both-so false b e f = absurd (true≢false (sym e))

class-denoting : (c : Class) (k : Kind) → is_denoting_class c ≡ true → has c k ≡ true → is_denoting k ≡ true
class-denoting c k e h = either-way (is_denoting k) (is_denoting_class c && has c k) (class-so c k) (both-so (is_denoting_class c) (has c k) e h)

kids-so : (k : Kind) → (all_classes is_denoting_class (places_of k) || not (is_denoting k)) ≡ true
kids-so (kind.Hole s) = refl
kids-so _ = refl

kids-denoting : (k : Kind) → is_denoting k ≡ true → all_classes is_denoting_class (places_of k) ≡ true
kids-denoting k e = either-way (all_classes is_denoting_class (places_of k)) (is_denoting k) (kids-so k) e

pub all-denoting : (f : Forest) → WellFormed f → Passes is_denoting f → AllOfKind is_denoting f
all-denoting f c p = all-of is_denoting is_denoting_class class-denoting kids-denoting f c p

denoting-declaring : (k : Kind) → is_denoting k ≡ true → is_declaring k ≡ true
denoting-declaring k e = (and_parts (is_declaring k) (not (holds_routines k)) e).0

routine-so : (k : Kind) → (not (is_routine_kind k) || not (is_denoting k)) ≡ true
routine-so (kind.Hole s) = refl
routine-so _ = refl

not-true : (b : Bool) → not b ≡ true → b ≡ false
not-true true e = absurd (true≢false (sym e))
not-true false e = refl

denoting-no-routine : (k : Kind) → is_denoting k ≡ true → is_routine_kind k ≡ false
denoting-no-routine k e = not-true (is_routine_kind k) (either-way (not (is_routine_kind k)) (is_denoting k) (routine-so k) e)

-- the kids of a declaration part stay as they are in an own block
pub own-part : (k : Kind) (w : List ℕ) (ks : Forest) → is_denoting k ≡ true → fits_some (layout k w (count ks)) (kinds ks) ≡ true → WellFormed ks → own ks ≡ ks
own-part k w ks e f c =
    own-same is_denoting denoting-no-routine ks (all-denoting ks c (row-passes is_denoting is_denoting_class class-denoting k 0 ks (kids-denoting k e) (node-takes k w ks f)))

-- so they are of these kinds
own-denoting : (f : Forest) → WellFormed f → Passes is_denoting f → AllOfKind is_declaring (own f)
own-denoting f c p =
    let a = all-denoting f c p in
    subst (AllOfKind is_declaring) (sym (own-same is_denoting denoting-no-routine f a)) (all-map is_denoting is_declaring denoting-declaring f a)

-- ---- headings of routines

abbrev is_headed : Kind → Bool
is_headed k = is_the_block k || is_denoting k

abbrev is_headed_class : Class → Bool
is_headed_class class.Name = true
is_headed_class class.Params = true
is_headed_class class.Block = true
is_headed_class _ = false

headed-so : (c : Class) (k : Kind) → (is_headed k || not (is_headed_class c && has c k)) ≡ true
headed-so class.Name (kind.Hole s) = refl
headed-so class.Name _ = refl
headed-so class.Params (kind.Hole s) = refl
headed-so class.Params _ = refl
headed-so class.Block (kind.Hole s) = refl
headed-so class.Block _ = refl
headed-so _ k = either (is_headed k) where
  either : (b : Bool) → (b || true) ≡ true
  either true = refl
  either false = refl

class-headed : (c : Class) (k : Kind) → is_headed_class c ≡ true → has c k ≡ true → is_headed k ≡ true
class-headed c k e h = either-way (is_headed k) (is_headed_class c && has c k) (headed-so c k) (both-so (is_headed_class c) (has c k) e h)

kids-headed : (k : Kind) → (all_classes is_headed_class (places_of k) || not (is_routine_kind k)) ≡ true
kids-headed (kind.Hole s) = refl
kids-headed _ = refl

declaring-of : (ks : Forest) → WellFormed ks → (k : Kind) (w : List ℕ) → is_denoting k ≡ true → fits_some (layout k w (count ks)) (kinds ks) ≡ true → AllOfKind is_denoting ks
declaring-of ks c k w e f = all-denoting ks c (row-passes is_denoting is_denoting_class class-denoting k 0 ks (kids-denoting k e) (node-takes k w ks f))

bare-declaring : (f : Forest) → WellFormed f → Passes is_headed f → AllOfKind is_declaring (bare_heading f)
bare-declaring Nil c p = tt
bare-declaring (Cons kind.Params w ns ks ts) c p =
    (refl, without-all is_declaring ks (all-passes is_declaring ks (all-map is_denoting is_declaring denoting-declaring ks (declaring-of ks c.3 kind.Params w refl c.0))), bare-declaring ts c.4 p.1)
bare-declaring (Cons kind.Block w ns ks ts) c p = (refl, tt, bare-declaring ts c.4 p.1)
bare-declaring (Cons k w ns ks ts) c p =
    (denoting-declaring k p.0, all-map is_denoting is_declaring denoting-declaring ks (declaring-of ks c.3 k w p.0 c.0), bare-declaring ts c.4 p.1)

-- ---- a list of routines

element-so : (k : Kind) → ((is_routine_kind k || is_denoting k) || not (has class.Routine k)) ≡ true
element-so (kind.Hole s) = refl
element-so _ = refl

declaring-routine : (k : Kind) → (is_declaring k || not (is_routine_kind k)) ≡ true
declaring-routine (kind.Hole s) = refl
declaring-routine _ = refl

abbrev is_element : Kind → Bool
is_element k = is_routine_kind k || is_denoting k

abbrev is_element_class : Class → Bool
is_element_class class.Routine = true
is_element_class _ = false

class-element : (c : Class) (k : Kind) → is_element_class c ≡ true → has c k ≡ true → is_element k ≡ true
class-element class.Routine k e h = either-way (is_element k) (has class.Routine k) (element-so k) h
class-element _ k e h = absurd (true≢false (sym e))

own-list : (f : Forest) → WellFormed f → Passes is_element f → AllOfKind is_declaring (own f)
unfolding own
own-list Nil c p = tt
own-list (Cons k w ns ks ts) c p = which (own-list ts c.4 p.1) (is_routine_kind k) refl p.0 where
  which : AllOfKind is_declaring (own ts) → (b : Bool) → is_routine_kind k ≡ b → (b || is_denoting k) ≡ true →
      (is_declaring k ≡ true) × AllOfKind is_declaring (if b then bare_heading ks else own ks) × AllOfKind is_declaring (own ts)
  which rest true r e = (
    either-way (is_declaring k) (is_routine_kind k) (declaring-routine k) r,
    bare-declaring ks c.3 (row-passes is_headed is_headed_class class-headed k 0 ks (either-way (all_classes is_headed_class (places_of k)) (is_routine_kind k) (kids-headed k) r) (node-takes k w ks c.0)),
    rest,
  )
  which rest false r e = (
    denoting-declaring k e,
    own-denoting ks c.3 (row-passes is_denoting is_denoting_class class-denoting k 0 ks (kids-denoting k e) (node-takes k w ks c.0)),
    rest,
  )

-- ---- a block

pub declaring-law : DeclaringLaw
unfolding own
declaring-law w f e g =
    let b = block-parts w f e in
    let h = subst WellFormed b.is g in
    let part = λ (k : Kind) (v : List ℕ) (ks : Forest) (a : fits_some (layout k v (count ks)) (kinds ks) ≡ true) (c : WellFormed ks) (d : is_denoting k ≡ true).
    own-denoting ks c (row-passes is_denoting is_denoting_class class-denoting k 0 ks (kids-denoting k d) (node-takes k v ks a)) in
    subst (λ (x : Forest). AllOfKind is_declaring (declarations_of (own x))) (sym b.is) (
      refl,
      part kind.Consts b.v1 b.k1 h.0 h.3 refl,
      (
        refl,
        part kind.Types b.v2 b.k2 h.4.0 h.4.3 refl,
        (
          refl,
          part kind.Vars b.v3 b.k3 h.4.4.0 h.4.4.3 refl,
          (refl, own-list b.k4 h.4.4.4.3 (row-passes is_element is_element_class class-element kind.Routines 0 b.k4 refl (node-takes kind.Routines b.v4 b.k4 h.4.4.4.0)), tt),
        ),
      ),
    )
