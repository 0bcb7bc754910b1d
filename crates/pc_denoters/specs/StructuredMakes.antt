-- What is made of packed types and sets.
use Rattle.std.specs.Prelude.{◌≡◌, ◌<◌, ℕ, Bool, true, false, List, [], ◌∷◌, length}
use Rattle.std.proofs.Common.{refl, ◌∙◌}
use Rattle.pc_syntax.specs.Classes.{has}
use Rattle.pc_syntax.specs.Plain.{Plain}
use Rattle.pc_syntax.specs.declared.class.Class.TheVariants as class
use Rattle.pc_syntax.specs.declared.kind.Kind.TheVariants as kind
use Rattle.pc_types.specs.Rows.{Kept, seen}
use Rattle.pc_types.specs.Shapes.{Owner}
use Rattle.pc_types.specs.Table.{definition_in}
use Rattle.pc_types.specs.declared.form.Definition.{Definition}
use Rattle.pc_forms.specs.declared.form.Form.TheVariants as form
use Rattle.pc_rules.specs.Attributes.{Node}
use Rattle.pc_rules.specs.Decorated.{with_kind}
use Rattle.pc_rules.specs.Denoters.{defined_here}
use Rattle.pc_rules.specs.Meanings.{Local}
use Rattle.pc_rules.specs.StructuredTypes.{set_rule, packed_rule}
use Rattle.pc_environment.specs.Decorating.{place_behind}
use Rattle.pc_facts.specs.Known.{Known}
use Rattle.pc_facts.specs.Shows.{ShowsNode}
use Rattle.pc_facts.specs.declared.facts.Facts.{Facts}
use Rattle.pc_places.specs.MovesLaws.{IsPlace-kept}
use Rattle.pc_places.specs.Places.{known, Makes, node_at}
use Rattle.pc_places.specs.declared.tables.Tables.{Tables}
use Rattle.pc_type_rules.specs.Extends.{Extends}
use Rattle.pc_denoters.specs.FormsAt.{first_place}
use Rattle.pc_denoters.specs.Goings.{ShowsFacts, AtHere, MakesForm}
use Rattle.pc_denoters.specs.GoingsLaws.{definition-moved, here-among}
use Rattle.pc_denoters.specs.Insides.{inside_of}
use Rattle.pc_denoters.specs.KeepsLaws.{keeps-types, moves-types}
use Rattle.pc_denoters.specs.Kinds.{class-denoting}
use Rattle.pc_denoters.specs.MakesLaws.{first-place, makes-form}

-- the second definition is inside the first, at the kid with this number
abbrev pub IsInside : Definition → ℕ → Definition → Type 0
IsInside here i d = (owners : List Owner) → definition_in owners d ≡ inside_of (definition_in owners here) i

-- a packed type
pub makes-packed : (t0 t1 : Tables) (block owner : ℕ) (here d : Definition) (p : Bool) (x : Plain) (a r : Facts) → IsInside here 1 d → has class.Structured x.kind ≡ true → Makes ShowsFacts (AtHere d true) block owner t0 t1 x a →
    ((k : Known) (w : List ℕ) (n : Node) → ShowsNode k a n.at → ShowsNode k r (with_kind kind.Packed w (packed_rule n))) → MakesForm (AtHere here p) block owner t0 t1 (form.Packed x) r
makes-packed t0 t1 block owner here d p x a r def is kid rule = λ t proper e.
    let ks = x ∷ [] in
    makes-form (AtHere here p) block owner t0 t1 t (form.Packed x) kind.Packed ks r proper e refl refl refl (class-denoting class.Structured x.kind refl is, tt) (λ out l. refl) kid.moves
    (λ out l place at.
    let l1 = first_place l kind.Packed ks in
    kid.behind out l1 (first-place t0 block owner out l kind.Packed ks refl place) (here-among t0 here d 1 true l1 def (record { around = at.defined; number = refl; as_packed = refl })))
    (λ out l place at.
    let l1 = first_place l kind.Packed ks in
    rule (known t1) t.word (node_at out l1 x)
    (kid.shows out l1 (first-place t0 block owner out l kind.Packed ks refl place) (here-among t0 here d 1 true l1 def (record { around = at.defined; number = refl; as_packed = refl }))))

-- a set
pub makes-set : (t0 t1 : Tables) (s2 : Kept) (block owner : ℕ) (here d : Definition) (p : Bool) (x : Plain) (a r : Facts) → here.owner.0 < length (known t0).table.owners → IsInside here 1 d → has class.Ordinal x.kind ≡ true →
    Makes ShowsFacts (AtHere d false) block owner t0 t1 x a →
    ((k : Known) (w : List ℕ) (l : Local) (n : Node) → k.table ≡ seen t1.types → definition_in (seen t1.types).owners here ≡ defined_here l → p ≡ l.packed → ShowsNode k a n.at →
    ShowsNode (record k { table = seen s2 }) r (with_kind kind.Setof w (set_rule l n))) → Extends (seen t1.types) (seen s2) → MakesForm (AtHere here p) block owner t0 (record t1 { types = s2 }) (form.Setof x) r
makes-set t0 t1 s2 block owner here d p x a r there def is kid rule extended = λ t proper e.
    let ks = x ∷ [] in
    let t2 : Tables = record t1 { types = s2 } in
    makes-form (AtHere here p) block owner t0 t2 t (form.Setof x) kind.Setof ks r proper e refl refl refl (class-denoting class.Ordinal x.kind refl is, tt) (λ out l. refl) (moves-types block t0 t1 s2 kid.moves extended)
    (λ out l place at.
    let l1 = first_place l kind.Setof ks in
    IsPlace-kept t1 t2 block owner out (place_behind out l1 x) (keeps-types t1 s2 extended)
    (kid.behind out l1 (first-place t0 block owner out l kind.Setof ks refl place) (here-among t0 here d 1 false l1 def (record { around = at.defined; number = refl; as_packed = refl }))))
    (λ out l place at.
    let l1 = first_place l kind.Setof ks in
    rule (known t1) t.word l (node_at out l1 x) refl (definition-moved block t0 t1 here kid.moves there ∙ at.defined) at.as_packed
    (kid.shows out l1 (first-place t0 block owner out l kind.Setof ks refl place) (here-among t0 here d 1 false l1 def (record { around = at.defined; number = refl; as_packed = refl }))))
