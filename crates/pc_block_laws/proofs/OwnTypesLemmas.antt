-- The types that a block knows behind its type definitions are its own.
use Rattle.std.specs.Prelude.{◌≡◌, ℕ, Bool, true, false, not, ◌&&◌, ◌||◌, List}
use Rattle.std.specs.Option.{is_some}
use Rattle.std.proofs.Common.{refl, ap, sym, ◌∙◌, subst, true≢false}
use Rattle.pc_syntax.specs.declared.kind.Kind.{Kind}
use Rattle.pc_syntax.specs.declared.kind.Kind.TheVariants as kind
use Rattle.pc_syntax.specs.declared.class.Class.{Class}
use Rattle.pc_syntax.specs.declared.class.Class.TheVariants as class
use Rattle.pc_syntax.specs.Classes.{has}
use Rattle.pc_syntax.specs.Layout.{layout}
use Rattle.pc_syntax.specs.Plain.{Forest, Nil, Cons, Plain, count, kinds}
use Rattle.pc_syntax.specs.WellFormed.{IsWellFormed, fits_some}
use Rattle.pc_rules.specs.Attributes.{Attributes, Marked, Done, Mark, first, nodes}
use Rattle.pc_rules.specs.Decorated.{Seen, rule, decorate}
use Rattle.pc_rules.specs.HandedOn.{all_defines}
use Rattle.pc_rules.specs.Meanings.{Meaning, Local, Outside, entry_of, define_all}
use Rattle.pc_rules.specs.Meanings as rules
use Rattle.pc_rules.specs.Places.{inner, beside}
use Rattle.pc_environment.specs.Decorating.{attributes_at, place_behind}
use Rattle.pc_environment.specs.DecoratingLaws.{at-node}
use Rattle.pc_needs.proofs.BodyKinds.{either-way, Passes, row-passes, node-takes}
use Rattle.pc_program_laws.specs.Unsigned.{AllOfKind}
use Rattle.pc_carrying.specs.Carrying.{AllDefining}
use Rattle.pc_carrying.specs.KindLaws.{kind-law}
use Rattle.pc_carrying.specs.LaterLaws.{all-later, beside-later}
use Rattle.pc_carrying.specs.Parts.{types_of}
use Rattle.pc_block_laws.specs.Block.{type_names}
use Rattle.pc_block_laws.specs.OwnTypes.{NoTypes, OwnTypesLaw}
use Rattle.pc_block_laws.proofs.HeadingLemmas.{both-so, either-true}
use Rattle.pc_block_laws.proofs.TypelessLemmas.{TypelessMarks, is_typeless, no-types, marks-typeless, denoters-typeless}
use Rattle.pc_block_laws.proofs.TypePartLemmas.{AllOwn, no-own, all-own, entry-own, is_typedef, definitions-own}

-- ---- constants

-- constant definitions, and holes
abbrev is_constdef : Kind → Bool
is_constdef kind.Constdef = true
is_constdef (kind.Hole s) = true
is_constdef _ = false

abbrev is_constdef_class : Class → Bool
is_constdef_class class.Constdef = true
is_constdef_class _ = false

constdef-class : (c : Class) (k : Kind) → (is_constdef k || not (is_constdef_class c && has c k)) ≡ true
constdef-class class.Constdef (kind.Hole s) = refl
constdef-class class.Constdef _ = refl
constdef-class _ k = either-true (is_constdef k)

class-constdef : (c : Class) (k : Kind) → is_constdef_class c ≡ true → has c k ≡ true → is_constdef k ≡ true
class-constdef c k e h = either-way (is_constdef k) (is_constdef_class c && has c k) (constdef-class c k) (both-so (is_constdef_class c) (has c k) e h)

constdef-typeless : (k : Kind) → is_constdef k ≡ true → is_typeless k ≡ true
constdef-typeless (kind.Hole s) e = refl
constdef-typeless kind.Typedef e = absurd (true≢false (sym e))
constdef-typeless _ e = refl

constants-typeless : (f : Forest) → Passes is_constdef f → AllDefining f → AllOfKind is_typeless f
constants-typeless Nil p a = tt
constants-typeless (Cons k w ns ks ts) p a = (constdef-typeless k p.0, denoters-typeless ks a.1, constants-typeless ts p.1 a.2)

constant-part : (t : Plain) → IsWellFormed t → t.kind ≡ kind.Consts → AllOfKind is_typeless (Cons t.kind t.word t.notes t.kids Nil)
constant-part t c e =
    let kids = subst (λ (k : Kind). fits_some (layout k t.word (count t.kids)) (kinds t.kids) ≡ true) e c.0 in (
      ap is_typeless e,
      constants-typeless t.kids (row-passes is_constdef is_constdef_class class-constdef kind.Consts 0 t.kids refl (node-takes kind.Consts t.word t.kids kids)) (kind-law.constants t c e),
      tt,
    )

first-typeless : (m : Marked) → TypelessMarks m → NoTypes (first m).defines
first-typeless Done h = tt
first-typeless (Mark a below rest) h = no-types a.defines h.0

constants-known : (out : Outside) (l : Local) (t : Plain) → t.kind ≡ kind.Consts → (place_behind out l t).known ≡ (define_all l (attributes_at out l t).defines).known
constants-known out l t e = ap (λ (k : Kind). (beside l k (attributes_at out l t)).known) e

-- ---- types

abbrev is_typedef_class : Class → Bool
is_typedef_class class.Typedef = true
is_typedef_class _ = false

typedef-class : (c : Class) (k : Kind) → (is_typedef k || not (is_typedef_class c && has c k)) ≡ true
typedef-class class.Typedef (kind.Hole s) = refl
typedef-class class.Typedef _ = refl
typedef-class _ k = either-true (is_typedef k)

class-typedef : (c : Class) (k : Kind) → is_typedef_class c ≡ true → has c k ≡ true → is_typedef k ≡ true
class-typedef c k e h = either-way (is_typedef k) (is_typedef_class c && has c k) (typedef-class c k) (both-so (is_typedef_class c) (has c k) e h)

-- what a type part has
pub type-part : (t : Plain) → IsWellFormed t → t.kind ≡ kind.Types → Passes is_typedef t.kids
type-part t c e =
    let kids = subst (λ (k : Kind). fits_some (layout k t.word (count t.kids)) (kinds t.kids) ≡ true) e c.0 in
    row-passes is_typedef is_typedef_class class-typedef kind.Types 0 t.kids refl (node-takes kind.Types t.word t.kids kids)

types-define : (l : Local) (k : Kind) (w : List ℕ) (s : Seen) (m : Marked) → k ≡ kind.Types → (rule l k w s m).defines ≡ all_defines (nodes m)
unfolding rule
types-define l k w s m e = ap (λ (x : Kind). (rule l x w s m).defines) e

same-owner : (l : Local) (k : Kind) (ks : Forest) → k ≡ kind.Types → (inner l k ks).owner ≡ l.owner
same-owner l k ks e = ap (λ (x : Kind). (inner l x ks).owner) e

-- ---- both

pub own-types : OwnTypesLaw
own-types out l constants types wc wt kc kt free declared n m e c =
    let ns = type_names types.kids in
    let next = place_behind out l constants in
    let start = inner next types.kind types.kids in
    let first-part = beside-later l constants.kind (attributes_at out l constants) in
    let second-part = all-later next (attributes_at out next types).defines in
    let constants-free : NoTypes (attributes_at out l constants).defines = first-typeless _ (marks-typeless out l _ (constant-part constants wc kc)) in
    let before : AllOwn l.owner ns next.known =
    subst (AllOwn l.owner ns) (sym (constants-known out l constants kc))
    (all-own l.owner ns l (attributes_at out l constants).defines (no-own l.owner ns l.known free) (no-own l.owner ns (attributes_at out l constants).defines constants-free)) in
    let is : (attributes_at out next types).defines ≡ all_defines (nodes (decorate out start types.kids)) =
    ap (λ (a : Attributes). a.defines) (at-node out next types) ∙ types-define next types.kind types.word _ _ kt in
    let defined : AllOwn l.owner ns (attributes_at out next types).defines =
    subst (AllOwn l.owner ns) (sym is)
    (definitions-own out start types.kids l.owner ns (same-owner next types.kind types.kids kt ∙ first-part.owner) wt.3 (type-part types wt kt) (kind-law.types types wt kt) (λ x q. q)) in
    let one = entry-own l.owner ns (types_of out l constants types).known n m (all-own l.owner ns next (attributes_at out next types).defines before defined) e c in (
      one.0 ∙ sym (second-part.owner ∙ first-part.owner),
      one.1,
      ap (λ (xs : List (List ℕ × rules.Class)). is_some (entry_of xs n)) (second-part.names ∙ first-part.names) ∙ declared n one.1,
    )
