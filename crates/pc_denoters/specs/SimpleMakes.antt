-- What is made of constants, subranges, records without fields and holes.
use Rattle.std.specs.Prelude.{◌≡◌, ◌<◌, ℕ, Bool, true, List, [], ◌∷◌, length}
use Rattle.std.proofs.Common.{refl, ◌∙◌}
use Rattle.pc_syntax.specs.Classes.{has}
use Rattle.pc_syntax.specs.Plain.{Plain}
use Rattle.pc_syntax.specs.declared.class.Class.TheVariants as class
use Rattle.pc_syntax.specs.declared.kind.Kind.TheVariants as kind
use Rattle.pc_syntax.specs.declared.sort.Sort.{Sort}
use Rattle.pc_types.specs.Rows.{Kept, seen}
use Rattle.pc_types.specs.Table.{definition_in}
use Rattle.pc_types.specs.declared.form.Definition.{Definition}
use Rattle.pc_forms.specs.declared.form.Form.TheVariants as form
use Rattle.pc_rules.specs.Attributes.{Node}
use Rattle.pc_rules.specs.Decorated.{with_kind, hole_rule}
use Rattle.pc_rules.specs.Denoters.{defined_here, subrange_rule}
use Rattle.pc_rules.specs.Meanings.{Local, Outside}
use Rattle.pc_rules.specs.StructuredTypes.{no_fields_rule}
use Rattle.pc_environment.specs.Decorating.{attributes_at, place_behind}
use Rattle.pc_facts.specs.Known.{Known}
use Rattle.pc_facts.specs.Shows.{ShowsNode}
use Rattle.pc_facts.specs.declared.facts.Facts.{Facts}
use Rattle.pc_growth.specs.GrowsLaws.{ShowsNode-grows}
use Rattle.pc_places.specs.MovesLaws.{IsPlace-kept, Moves-kept, Moves-then, Moves-same}
use Rattle.pc_places.specs.Places.{known, IsPlace, Keeps, Makes, node_at}
use Rattle.pc_places.specs.declared.tables.Tables.{Tables}
use Rattle.pc_type_rules.specs.Extends.{Extends}
use Rattle.pc_denoters.specs.FormsAt.{first_place}
use Rattle.pc_denoters.specs.Goings.{ShowsFacts, AtHere, Anywhere, MakesForm}
use Rattle.pc_denoters.specs.GoingsLaws.{definition-moved}
use Rattle.pc_denoters.specs.KeepsLaws.{keeps-types}
use Rattle.pc_denoters.specs.MakesLaws.{first-place, makes-form}
use Rattle.pc_denoters.specs.Quiet.{class-quiet, quiet-denoting, quiet-behind}

-- a constant, which declares nothing
pub makes-constant : (t0 t1 : Tables) (block owner : ℕ) (t : Plain) (r : Facts) → has class.Constant t.kind ≡ true → Keeps t0 t1 →
    ((o : ℕ) (out : Outside) (l : Local) → IsPlace t0 block o out l → ShowsNode (known t1) r (attributes_at out l t)) → Makes ShowsFacts Anywhere block owner t0 t1 t r
makes-constant t0 t1 block owner t r is keeps shows = record {
  moves = Moves-kept block t0 t1 keeps;
  shows = λ out l place at. shows owner out l place;
  behind = λ out l place at. quiet-behind t1 block owner out l t (class-quiet class.Constant t.kind refl is) (IsPlace-kept t0 t1 block owner out l keeps place);
}

-- a subrange
pub makes-subrange : (t0 t1 t2 : Tables) (s3 : Kept) (block owner : ℕ) (here : Definition) (p : Bool) (x y : Plain) (a b r : Facts) → here.owner.0 < length (known t0).table.owners →
    has class.Constant x.kind ≡ true → has class.Constant y.kind ≡ true → Makes ShowsFacts Anywhere block owner t0 t1 x a → Makes ShowsFacts Anywhere block owner t1 t2 y b →
    ((k : Known) (w : List ℕ) (l : Local) (m n : Node) → k.table ≡ seen t2.types → definition_in (seen t2.types).owners here ≡ defined_here l → ShowsNode k a m.at → ShowsNode k b n.at →
    ShowsNode (record k { table = seen s3 }) r (with_kind kind.Subrange w (subrange_rule l m n))) → Extends (seen t2.types) (seen s3) → MakesForm (AtHere here p) block owner t0 (record t2 { types = s3 }) (form.Subrange x y) r
makes-subrange t0 t1 t2 s3 block owner here p x y a b r there isx isy first second rule extended = λ t proper e.
    let ks = x ∷ y ∷ [] in
    let t3 : Tables = record t2 { types = s3 } in
    let to2 = Moves-then block t0 t1 t2 first.moves second.moves in
    let to3 : Keeps t2 t3 = keeps-types t2 s3 extended in
    makes-form (AtHere here p) block owner t0 t3 t (form.Subrange x y) kind.Subrange ks r proper e refl refl refl
    (quiet-denoting x.kind (class-quiet class.Constant x.kind refl isx), (quiet-denoting y.kind (class-quiet class.Constant y.kind refl isy), tt)) (λ out l. refl)
    (Moves-then block t0 t2 t3 to2 (Moves-kept block t2 t3 to3))
    (λ out l place at.
    let l1 = first_place l kind.Subrange ks in
    let place1 = first-place t0 block owner out l kind.Subrange ks refl place in
    let l2 = place_behind out l1 x in
    IsPlace-kept t2 t3 block owner out (place_behind out l2 y) to3 (second.behind out l2 (first.behind out l1 place1 tt) tt))
    (λ out l place at.
    let l1 = first_place l kind.Subrange ks in
    let place1 = first-place t0 block owner out l kind.Subrange ks refl place in
    let l2 = place_behind out l1 x in
    let m = node_at out l1 x in
    let n = node_at out l2 y in
    rule (known t2) t.word l m n refl (definition-moved block t0 t2 here to2 there ∙ at.defined)
    (ShowsNode-grows (known t1) (known t2) a m.at second.moves.grows (first.shows out l1 place1 tt)) (second.shows out l2 (first.behind out l1 place1 tt) tt))

-- a record without fields
pub makes-record0 : (t0 : Tables) (s1 : Kept) (block owner : ℕ) (here : Definition) (p : Bool) (r : Facts) →
    ((k : Known) (w : List ℕ) (l : Local) → definition_in (seen t0.types).owners here ≡ defined_here l → p ≡ l.packed → ShowsNode (record k { table = seen s1 }) r (with_kind kind.Record0 w (no_fields_rule l))) →
    Extends (seen t0.types) (seen s1) → MakesForm (AtHere here p) block owner t0 (record t0 { types = s1 }) form.Record0 r
makes-record0 t0 s1 block owner here p r rule extended = λ t proper e.
    let t1 : Tables = record t0 { types = s1 } in
    let keeps : Keeps t0 t1 = keeps-types t0 s1 extended in
    makes-form (AtHere here p) block owner t0 t1 t form.Record0 kind.Record0 [] r proper e refl refl refl tt (λ out l. refl) (Moves-kept block t0 t1 keeps)
    (λ out l place at. IsPlace-kept t0 t1 block owner out (first_place l kind.Record0 []) keeps (first-place t0 block owner out l kind.Record0 [] refl place))
    (λ out l place at. rule (known t0) t.word l at.defined at.as_packed)

-- a hole
pub makes-hole : (t0 : Tables) (block owner : ℕ) (here : Definition) (p : Bool) (s : Sort) (r : Facts) → ((k : Known) (w : List ℕ) → ShowsNode k r (with_kind (kind.Hole s) w hole_rule)) →
    MakesForm (AtHere here p) block owner t0 t0 (form.Hole s) r
makes-hole t0 block owner here p s r rule = λ t proper e.
    makes-form (AtHere here p) block owner t0 t0 t (form.Hole s) (kind.Hole s) [] r proper e refl refl refl tt (λ out l. refl) (Moves-same block t0)
    (λ out l place at. first-place t0 block owner out l (kind.Hole s) [] refl place)
    (λ out l place at. rule (known t0) t.word)
