-- The types that a block has declared behind its type definitions are its own, and stand among its names.
use Rattle.std.proofs.Common.{◌≡◌, ℕ, Bool, true, false, List, refl, sym, ◌∙◌, ap, subst, true≢false}
use Rattle.pc_syntax.specs.declared.kind.Kind.{Kind}
use Rattle.pc_syntax.specs.declared.kind.Kind.TheVariants as kind
use Rattle.pc_syntax.specs.Plain.{Plain}
use Rattle.pc_syntax.specs.WellFormed.{WellFormed}
use Rattle.pc_types.specs.Shapes.{Owner}
use Rattle.pc_rules.specs.Attributes.{Attributes, Marked, nodes}
use Rattle.pc_rules.specs.Decorated.{Seen, seen, rule}
use Rattle.pc_rules.specs.HandedOn.{all_defines}
use Rattle.pc_rules.specs.Meanings.{Class, Local, Outside, define_all}
use Rattle.pc_rules.specs.OwnBlock.{declared_in}
use Rattle.pc_rules.specs.Places.{inner, beside}
use Rattle.pc_environment.specs.Decorating.{attributes_at, below_at, place_behind}
use Rattle.pc_environment.specs.DecoratingLaws.{at-node}
use Rattle.pc_needs.proofs.Owners.{inner-owner, beside-owner}
use Rattle.pc_carrying.specs.Carrying.{AllDefining}
use Rattle.pc_carrying.specs.Parts.{types_of}
use Rattle.pc_targets.proofs.DefinitionLemmas.{definitions-own}
use Rattle.pc_targets.proofs.TypeLemmas.{IsNamed, AllOwnTypes, more-own, define_all-own}

-- the parts with definitions
abbrev pub is_part : Kind → Bool
is_part kind.Consts = true
is_part kind.Types = true
is_part _ = false

-- what such a part declares is what its definitions do
part-defines : (l : Local) (k : Kind) (w : List ℕ) (s : Seen) (m : Marked) → is_part k ≡ true → (rule l k w s m).defines ≡ all_defines (nodes m)
unfolding rule
part-defines l kind.Consts w s m e = refl
part-defines l kind.Types w s m e = refl
part-defines l k w s m e = absurd (true≢false (sym e))

part-own : (out : Outside) (l : Local) (t : Plain) → is_part t.kind ≡ true → AllDefining t.kids → WellFormed t.kids → AllOwnTypes l.owner (declared_in t.kids) (attributes_at out l t).defines
part-own out l t e a c =
    let same = ap (λ (x : Attributes). x.defines) (at-node out l t) ∙ part-defines l t.kind t.word (seen out l t.kind t.word) (below_at out l t) e in
    subst (AllOwnTypes l.owner (declared_in t.kids)) (sym same)
    (subst (λ (o : Owner). AllOwnTypes o (declared_in t.kids) (all_defines (nodes (below_at out l t)))) (inner-owner l t.kind t.kids) (definitions-own out (inner l t.kind t.kids) t.kids a c))

constants-known : (out : Outside) (l : Local) (t : Plain) → t.kind ≡ kind.Consts → (place_behind out l t).known ≡ (define_all l (attributes_at out l t).defines).known
constants-known out l t e = ap (λ (k : Kind). (beside l k (attributes_at out l t)).known) e

-- behind the constants and the definitions of types, before these are closed
pub types-own : (out : Outside) (l : Local) (names : List (List ℕ × Class)) (c t : Plain) → c.kind ≡ kind.Consts → t.kind ≡ kind.Types →
    AllDefining c.kids → WellFormed c.kids → AllDefining t.kids → WellFormed t.kids →
    ((n : List ℕ) → IsNamed (declared_in c.kids) n → IsNamed names n) → ((n : List ℕ) → IsNamed (declared_in t.kids) n → IsNamed names n) →
    AllOwnTypes l.owner names l.known → AllOwnTypes l.owner names (types_of out l c t).known
types-own out l names c t e f ac wc at wt in_c in_t h =
    let l1 = place_behind out l c in
    let ds = (attributes_at out l c).defines in
    let es = (attributes_at out l1 t).defines in
    let first = define_all-own l.owner names l ds h (more-own l.owner (declared_in c.kids) names ds in_c (part-own out l c (ap is_part e) ac wc)) in
    let owned = subst (λ (o : Owner). AllOwnTypes o (declared_in t.kids) es) (beside-owner l c.kind (attributes_at out l c)) (part-own out l1 t (ap is_part f) at wt) in
    define_all-own l.owner names l1 es (subst (AllOwnTypes l.owner names) (sym (constants-known out l c e)) first) (more-own l.owner (declared_in t.kids) names es in_t owned)
