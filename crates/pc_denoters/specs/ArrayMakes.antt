-- What is made of arrays and of their lists of index types.
use Rattle.std.specs.Prelude.{◌≡◌, ◌<◌, ◌+◌, ◌++◌, ℕ, Bool, true, false, List, [], ◌∷◌, length}
use Rattle.std.proofs.Common.{refl, ap, sym, ◌∙◌, subst}
use Rattle.pc_syntax.specs.Classes.{has}
use Rattle.pc_syntax.specs.Plain.{Plain, kids_of}
use Rattle.pc_syntax.specs.WellFormed.{IsProper}
use Rattle.pc_syntax.specs.declared.class.Class.{Class}
use Rattle.pc_syntax.specs.declared.class.Class.TheVariants as class
use Rattle.pc_syntax.specs.declared.kind.Kind.{Kind}
use Rattle.pc_syntax.specs.declared.kind.Kind.TheVariants as kind
use Rattle.pc_types.specs.Rows.{Kept, seen}
use Rattle.pc_types.specs.Table.{definition_in}
use Rattle.pc_types.specs.declared.form.Definition.{Definition}
use Rattle.pc_forms.specs.Form.{form_of}
use Rattle.pc_forms.specs.FormClasses.{Every, HasKids}
use Rattle.pc_forms.specs.FormKids.{kids_in}
use Rattle.pc_forms.specs.FormLaws.{kind_in-form_of, kids_in-form_of, classes-form_of}
use Rattle.pc_forms.specs.declared.form.Form.TheVariants as form
use Rattle.pc_rules.specs.Attributes.{Attributes, Node, nodes, kids_below}
use Rattle.pc_rules.specs.Decorated.{seen as looked, rule, with_kind}
use Rattle.pc_rules.specs.Declarations.{declarations_rule}
use Rattle.pc_rules.specs.Denoters.{defined_here}
use Rattle.pc_rules.specs.HandedOn.{any_hole}
use Rattle.pc_rules.specs.Meanings.{Local, Outside}
use Rattle.pc_rules.specs.StructuredTypes.{array_rule}
use Rattle.pc_environment.specs.Decorating.{attributes_at, below_at, place_behind, place_after}
use Rattle.pc_environment.specs.DecoratingLaws.{at-node}
use Rattle.pc_facts.specs.Known.{Known}
use Rattle.pc_facts.specs.Shows.{AllShow, ShowsNode}
use Rattle.pc_facts.specs.declared.facts.Facts.{Facts}
use Rattle.pc_growth.specs.Grows.{Grows}
use Rattle.pc_growth.specs.GrowsLaws.{ShowsNode-grows, AllShow-with}
use Rattle.pc_places.specs.MovesLaws.{IsPlace-kept, Moves-then, Moves-same}
use Rattle.pc_places.specs.Places.{known, Makes, node_at}
use Rattle.pc_places.specs.declared.tables.Tables.{Tables}
use Rattle.pc_type_rules.specs.Extends.{Extends}
use Rattle.pc_denoters.specs.FormsAt.{first_place}
use Rattle.pc_denoters.specs.Goings.{ShowsFacts, ShowsKids, AtHere, IsAmong, MakesRow, MakesForm}
use Rattle.pc_denoters.specs.GoingsLaws.{definition-moved, here-among, among-more}
use Rattle.pc_denoters.specs.Holes.{any_open, any_open-shows}
use Rattle.pc_denoters.specs.KeepsLaws.{keeps-types, moves-types}
use Rattle.pc_denoters.specs.Kinds.{is_denoting, is_denoting_class, class-denoting}
use Rattle.pc_denoters.specs.MakesLaws.{first-place, makes-form, makes-list, row-one-more}
use Rattle.pc_denoters.specs.StructuredMakes.{IsInside}

-- ---- lists

-- the list of index types has its kind
pub indexes-kind : (k : Kind) → has class.Indexes k ≡ true → k ≡ kind.Indexes
indexes-kind kind.Indexes e = refl
indexes-kind k e = cc

pub every-denoting : (c : Class) (ks : List Plain) → is_denoting_class c ≡ true → Every (λ k. has c k.kind ≡ true) ks → Every (λ k. is_denoting k.kind ≡ true) ks
every-denoting c [] b h = tt
every-denoting c (k ∷ ks) b h = (class-denoting c k.kind b h.0, every-denoting c ks b h.1)

-- the kids of a node whose kind is known have their classes
pub kids-classes : (t : Plain) (k : Kind) → IsProper t → t.kind ≡ k → HasKids k (kids_of t)
kids-classes t k proper e =
    subst (λ (ks : List Plain). HasKids k ks) (kids_in-form_of t proper) (subst (λ (j : Kind). HasKids j (kids_in (form_of t))) (kind_in-form_of t ∙ e) (classes-form_of t proper))

indexes-rule : (out : Outside) (l : Local) (t : Plain) → t.kind ≡ kind.Indexes → attributes_at out l t ≡ with_kind kind.Indexes t.word (declarations_rule (nodes (below_at out l t)))
unfolding rule
indexes-rule out l t e = at-node out l t ∙ (λ i. rule l (e i) t.word (looked out l (e i) t.word) (below_at out l t))

-- it has a hole where one of them has
pub indexes-hole : (out : Outside) (l : Local) (t : Plain) → t.kind ≡ kind.Indexes → (attributes_at out l t).hole ≡ any_hole (nodes (below_at out l t))
indexes-hole out l t e = ap (λ (a : Attributes). a.hole) (indexes-rule out l t e)

pub facts-grow : (a b : Known) (f : Facts) (n : Node) → Grows a b → ShowsFacts a f n → ShowsFacts b f n
facts-grow a b f n g h = ShowsNode-grows a b f n.at g h

-- no nodes
pub row-none : {X : Type 0} (S : Known → X → Node → Type 0) (At : Tables → Local → Type 0) (block owner : ℕ) (t : Tables) → MakesRow S At block owner t t [] []
row-none S At block owner t = record { moves = Moves-same block t; shows = λ out l place at. tt; behind = λ out l place at. place }

-- one more denoter in a list
pub denoters-more : (here d : Definition) (block owner : ℕ) (t0 t1 t2 : Tables) (ts : List Plain) (t : Plain) (xs : List Facts) (x : Facts) → here.owner.0 < length (known t0).table.owners → IsInside here (1 + length ts) d →
    MakesRow ShowsFacts (IsAmong here 1 false) block owner t0 t1 ts xs → Makes ShowsFacts (AtHere d false) block owner t1 t2 t x → MakesRow ShowsFacts (IsAmong here 1 false) block owner t0 t2 (ts ++ t ∷ []) (xs ++ x ∷ [])
denoters-more here d block owner t0 t1 t2 ts t xs x there def row one =
    row-one-more ShowsFacts (IsAmong here 1 false) (AtHere d false) block owner t0 t1 t2 ts t xs x facts-grow
    (λ out l at. here-among t1 here d (1 + length ts) false (place_after out l ts) def (among-more block t0 t1 here false out l ts row.moves there at)) row one

-- the list of index types, given what was made of them
pub makes-indexes : (here : Definition) (block owner : ℕ) (t0 t1 : Tables) (t : Plain) (xs : List Facts) → IsProper t → has class.Indexes t.kind ≡ true →
    MakesRow ShowsFacts (IsAmong here 1 false) block owner t0 t1 (kids_of t) xs → Makes ShowsKids (AtHere here false) block owner t0 t1 t xs
makes-indexes here block owner t0 t1 t xs proper is row =
    let e = indexes-kind t.kind is in
    makes-list ShowsFacts (AtHere here false) (IsAmong here 1 false) block owner t0 t1 t kind.Indexes xs proper e refl (every-denoting class.Ordinal (kids_of t) refl (kids-classes t kind.Indexes proper e)) (λ out l. refl)
    (λ l at. record { around = at.defined; number = refl; as_packed = refl }) row

-- ---- arrays

pub makes-array : (t0 t1 t2 : Tables) (s3 : Kept) (block owner : ℕ) (here d1 d2 : Definition) (p h : Bool) (x y : Plain) (fs : List Facts) (b r : Facts) → here.owner.0 < length (known t0).table.owners → IsInside here 1 d1 → IsInside here 2 d2 →
    has class.Indexes x.kind ≡ true → has class.Denoter y.kind ≡ true → Makes ShowsKids (AtHere d1 false) block owner t0 t1 x fs → Makes ShowsFacts (AtHere d2 false) block owner t1 t2 y b → h ≡ any_open fs →
    ((k : Known) (w : List ℕ) (l : Local) (m n : Node) → k.table ≡ seen t2.types → definition_in (seen t2.types).owners here ≡ defined_here l → p ≡ l.packed → AllShow (ShowsFacts k) fs (kids_below m) → h ≡ m.at.hole → ShowsNode k b n.at →
    ShowsNode (record k { table = seen s3 }) r (with_kind kind.Array w (array_rule l m n))) → Extends (seen t2.types) (seen s3) → MakesForm (AtHere here p) block owner t0 (record t2 { types = s3 }) (form.Array x y) r
makes-array t0 t1 t2 s3 block owner here d1 d2 p h x y fs b r there def1 def2 isx isy first second holed rule extended = λ t proper e.
    let ks = x ∷ y ∷ [] in
    let t3 : Tables = record t2 { types = s3 } in
    let to2 = Moves-then block t0 t1 t2 first.moves second.moves in
    makes-form (AtHere here p) block owner t0 t3 t (form.Array x y) kind.Array ks r proper e refl refl refl (class-denoting class.Indexes x.kind refl isx, (class-denoting class.Denoter y.kind refl isy, tt)) (λ out l. refl)
    (moves-types block t0 t2 s3 to2 extended)
    (λ out l place at.
    let l1 = first_place l kind.Array ks in
    let l2 = place_behind out l1 x in
    let among : IsAmong here 1 false t0 l1 = record { around = at.defined; number = refl; as_packed = refl } in
    let place1 = first-place t0 block owner out l kind.Array ks refl place in
    let place2 = first.behind out l1 place1 (here-among t0 here d1 1 false l1 def1 among) in
    IsPlace-kept t2 t3 block owner out (place_behind out l2 y) (keeps-types t2 s3 extended)
    (second.behind out l2 place2 (here-among t1 here d2 2 false l2 def2 (among-more block t0 t1 here false out l1 (x ∷ []) first.moves there among))))
    (λ out l place at.
    let l1 = first_place l kind.Array ks in
    let l2 = place_behind out l1 x in
    let m = node_at out l1 x in
    let n = node_at out l2 y in
    let among : IsAmong here 1 false t0 l1 = record { around = at.defined; number = refl; as_packed = refl } in
    let place1 = first-place t0 block owner out l kind.Array ks refl place in
    let at1 = here-among t0 here d1 1 false l1 def1 among in
    let place2 = first.behind out l1 place1 at1 in
    let shown : AllShow (ShowsFacts (known t2)) fs (kids_below m) =
    AllShow-with (ShowsFacts (known t1)) (ShowsFacts (known t2)) (λ f u. facts-grow (known t1) (known t2) f u second.moves.grows) fs (kids_below m) (first.shows out l1 place1 at1) in
    rule (known t2) t.word l m n refl (definition-moved block t0 t2 here to2 there ∙ at.defined) at.as_packed shown
    (holed ∙ any_open-shows (known t2) fs (kids_below m) shown ∙ sym (indexes-hole out l1 x (indexes-kind x.kind isx)))
    (second.shows out l2 place2 (here-among t1 here d2 2 false l2 def2 (among-more block t0 t1 here false out l1 (x ∷ []) first.moves there among))))
