-- The trees of a routine's block: the parts that a well-formed block has, and what stands in them.
use Rattle.std.proofs.Common.{◌≡◌, ℕ, Bool, true, false, if◌then◌else◌, List, [], ◌∷◌, ◌++◌, map, refl, sym, ◌∙◌, ap, subst}
use Rattle.pc_syntax.specs.declared.kind.Kind.{Kind}
use Rattle.pc_syntax.specs.declared.kind.Kind.TheVariants as kind
use Rattle.pc_syntax.specs.Layout.{layout}
use Rattle.pc_syntax.specs.Plain.{Forest, Nil, Cons, Plain, trees_of, forest_of, count, kinds}
use Rattle.pc_syntax.specs.WellFormed.{WellFormed, IsWellFormed, fits_some}
use Rattle.pc_scope.specs.Headings.{is_routine_kind}
use Rattle.pc_rules.specs.Attributes.{Attributes}
use Rattle.pc_rules.specs.Meanings.{Class, Meaning, Local, Outside, define_all}
use Rattle.pc_rules.specs.OwnBlock.{own, declared_by, declared_in}
use Rattle.pc_rules.specs.Routines.{Routine, start_of, parameters_of}
use Rattle.pc_environment.specs.Decorating.{attributes_at, place_behind}
use Rattle.pc_carrying.specs.KindLaws.{kind-law}
use Rattle.pc_carrying.specs.Parts.{AreParts, types_of}
use Rattle.pc_program_laws.specs.Routines.{with_bare_routines}
use Rattle.pc_program_laws.specs.Unsigned.{MeanAlike, is_declaring, AllOfKind, declarations_of}
use Rattle.pc_program_laws.proofs.AlikeLemmas.{unsigned-law}
use Rattle.pc_program_laws.proofs.BlockLemmas.{block-parts}
use Rattle.pc_program_laws.proofs.KindLemmas.{declaring-law}
use Rattle.pc_program_laws.proofs.OwnLemmas.{own-block}
use Rattle.pc_targets.specs.Program.{hiding}
use Rattle.pc_targets.proofs.HidingLemmas.{hidden-attributes, hidden-behind, names-behind}
use Rattle.pc_targets.proofs.PartLemmas.{types-own}
use Rattle.pc_targets.proofs.TypeLemmas.{IsNamed, named-front, named-back, AllOwnTypes}

-- the parts of a well-formed block
pub record IsWhole (constants types variables routines : Plain) : Type 0 where
  pub kinds : AreParts constants types variables routines
  pub first : IsWellFormed constants
  pub second : IsWellFormed types
  pub in_first : AllOfKind is_declaring (forest_of (constants ∷ []))
  pub in_second : AllOfKind is_declaring (forest_of (types ∷ []))

abbrev pub AreWhole : List Plain → Type 0
AreWhole (c ∷ t ∷ v ∷ q ∷ rest) = IsWhole c t v q
AreWhole ts = ⊥

pub own-whole : (w : List ℕ) (f : Forest) → fits_some (layout kind.Block w (count f)) (kinds f) ≡ true → WellFormed f → AreWhole (trees_of (own f))
own-whole w f e g =
    let b = block-parts w f e in
    let h = subst WellFormed b.is g in
    let same = own-block w f e g ∙ ap with_bare_routines b.is in
    let d = subst (λ (x : Forest). AllOfKind is_declaring (declarations_of x)) same (declaring-law w f e g) in
    let c : IsWellFormed (record { kind = kind.Consts; word = b.v1; notes = b.n1; kids = b.k1 }) = (h.0, h.1, h.2, h.3, tt) in
    let t : IsWellFormed (record { kind = kind.Types; word = b.v2; notes = b.n2; kids = b.k2 }) = (h.4.0, h.4.1, h.4.2, h.4.3, tt) in
    let v : IsWellFormed (record { kind = kind.Vars; word = b.v3; notes = b.n3; kids = b.k3 }) = (h.4.4.0, h.4.4.1, h.4.4.2, h.4.4.3, tt) in
    let q : IsWellFormed (record { kind = kind.Routines; word = b.v4; notes = b.n4; kids = b.k4 }) = (h.4.4.4.0, h.4.4.4.1, h.4.4.4.2, h.4.4.4.3, tt) in
    subst (λ (x : Forest). AreWhole (trees_of x)) (sym same) (record {
      kinds = record {
        first = refl;
        second = refl;
        third = refl;
        fourth = refl;
        in_constants = kind-law.constants (record { kind = kind.Consts; word = b.v1; notes = b.n1; kids = b.k1 }) c refl;
        in_types = kind-law.types (record { kind = kind.Types; word = b.v2; notes = b.n2; kids = b.k2 }) t refl;
        in_variables = kind-law.variables (record { kind = kind.Vars; word = b.v3; notes = b.n3; kids = b.k3 }) v refl;
        in_routines = kind-law.own_routines b.k4 (kind-law.routines (record { kind = kind.Routines; word = b.v4; notes = b.n4; kids = b.k4 }) q refl);
      };
      first = c;
      second = t;
      in_first = (d.0, d.1, tt);
      in_second = (d.2.0, d.2.1, tt);
    })

-- ---- the types are the same, where names mean the same but for what is said of routines, and but for names that the block declares

pub types-alike : (a b : Outside) (l : Local) (c t : Plain) → AllOfKind is_declaring (forest_of (c ∷ [])) → AllOfKind is_declaring (forest_of (t ∷ [])) → MeanAlike a b → types_of a l c t ≡ types_of b l c t
types-alike a b l c t d e h =
    let l1 = place_behind a l c in
    ap (λ (x : Attributes). define_all l1 x.defines) (unsigned-law.node a b l1 t e h).0
    ∙ ap (λ (m : Local). define_all m (attributes_at b m t).defines) (unsigned-law.node a b l c d h).1

pub types-hidden : (names : List (List ℕ × Class)) (out : Outside) (l : Local) (c t : Plain) → l.names ≡ names → types_of (hiding names out) l c t ≡ types_of out l c t
types-hidden names out l c t e =
    let l1 = place_behind (hiding names out) l c in
    ap (λ (x : Attributes). define_all l1 x.defines) (hidden-attributes names out l1 t (names-behind (hiding names out) l c ∙ e))
    ∙ ap (λ (m : Local). define_all m (attributes_at out m t).defines) (hidden-behind names out l c e)

-- ---- their names

forest-back : (f : Forest) → forest_of (trees_of f) ≡ f
forest-back Nil = refl
forest-back (Cons k w ns ks ts) = ap (Cons k w ns ks) (forest-back ts)

-- what a tree declares that is no routine
below-named : (k : Kind) (ks : Forest) (rest : List (List ℕ × Class)) (n : List ℕ) → is_routine_kind k ≡ false → IsNamed (declared_in ks) n →
    IsNamed (declared_by k ks ++ (if is_routine_kind k then [] else declared_in ks) ++ rest) n
below-named k ks rest n e h =
    let inside = subst (λ (b : Bool). IsNamed (if b then [] else declared_in ks) n) (sym e) h in
    let below = if is_routine_kind k then [] else declared_in ks in
    named-front (declared_by k ks ++ below) rest n (named-back (declared_by k ks) below n inside)

behind-named : (k : Kind) (ks : Forest) (rest : List (List ℕ × Class)) (n : List ℕ) → IsNamed rest n →
    IsNamed (declared_by k ks ++ (if is_routine_kind k then [] else declared_in ks) ++ rest) n
behind-named k ks rest n h = named-back (declared_by k ks ++ (if is_routine_kind k then [] else declared_in ks)) rest n h

in-block : (r : Routine) (ts : List Plain) (n : List ℕ) → trees_of r.block ≡ ts → IsNamed (declared_in (forest_of ts)) n → IsNamed (start_of r).names n
in-block r ts n e h =
    let same = ap (λ (us : List Plain). declared_in (forest_of us)) (sym e) ∙ ap declared_in (forest-back r.block) in
    named-back (map (λ (d : List ℕ × Meaning). (d.0, d.1.class)) (parameters_of r)) (declared_in r.block) n (subst (λ (ns : List (List ℕ × Class)). IsNamed ns n) same h)

-- the types that a routine's block has declared behind their definitions
pub block-own : (out : Outside) (r : Routine) (c t v q : Plain) (rest : List Plain) → trees_of r.block ≡ c ∷ t ∷ v ∷ q ∷ rest → IsWhole c t v q →
    AllOwnTypes r.owner (start_of r).names (start_of r).known → AllOwnTypes r.owner (start_of r).names (types_of out (start_of r) c t).known
block-own out r c t v q rest e w h =
    let ts = t ∷ v ∷ q ∷ rest in
    types-own out (start_of r) (start_of r).names c t w.kinds.first w.kinds.second w.kinds.in_constants w.first.3 w.kinds.in_types w.second.3
    (λ n g. in-block r (c ∷ ts) n e (below-named c.kind c.kids (declared_in (forest_of ts)) n (ap is_routine_kind w.kinds.first) g))
    (λ n g. in-block r (c ∷ ts) n e (behind-named c.kind c.kids (declared_in (forest_of ts)) n
    (below-named t.kind t.kids (declared_in (forest_of (v ∷ q ∷ rest))) n (ap is_routine_kind w.kinds.second) g)))
    h
