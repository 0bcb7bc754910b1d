-- What is made of lists of fields and of records.
use Rattle.std.specs.Prelude.{◌≡◌, ◌<◌, ◌+◌, ◌||◌, ℕ, Bool, true, false, List, [], ◌∷◌, ◌++◌, length, suc, Option, Some, None, get_or}
use Rattle.std.proofs.Common.{refl, ap, sym, ◌∙◌, subst, append-nil}
use Rattle.pc_syntax.specs.Classes.{has, is_name}
use Rattle.pc_syntax.specs.Plain.{Plain, kids_of}
use Rattle.pc_syntax.specs.WellFormed.{IsProper}
use Rattle.pc_syntax.specs.declared.class.Class.TheVariants as class
use Rattle.pc_syntax.specs.declared.kind.Kind.{Kind}
use Rattle.pc_syntax.specs.declared.kind.Kind.TheVariants as kind
use Rattle.pc_syntax.specs.declared.sort.Sort.{Sort}
use Rattle.pc_types.specs.Rows.{Kept, seen}
use Rattle.pc_types.specs.Table.{definition_in}
use Rattle.pc_types.specs.Shapes.{Typed}
use Rattle.pc_types.specs.declared.form.Definition.{Definition}
use Rattle.pc_types.specs.declared.form.TypeId.{TypeId}
use Rattle.pc_forms.specs.CountLaws.{fixed_length}
use Rattle.pc_forms.specs.Form.{form_of}
use Rattle.pc_forms.specs.FormClasses.{Every, fixed_count}
use Rattle.pc_forms.specs.FormKids.{kids_in}
use Rattle.pc_forms.specs.FormLaws.{kids_in-form_of, proper-kids_of}
use Rattle.pc_forms.specs.declared.form.Form.TheVariants as form
use Rattle.pc_rules.specs.Attributes.{Attributes, Entry, Marked, Node, nodes, missing, at_kid, kids_below}
use Rattle.pc_rules.specs.DeclaringNames.{names_in}
use Rattle.pc_rules.specs.Decorated.{Seen, seen as looked, rule, with_kind}
use Rattle.pc_rules.specs.Denoters.{defined_here}
use Rattle.pc_rules.specs.HandedOn.{any_hole, kid_entries}
use Rattle.pc_rules.specs.Meanings.{Local, Outside, define_all}
use Rattle.pc_rules.specs.StructuredTypes.{record_rule, field_repeats, field_denoter}
use Rattle.pc_environment.specs.Decorating.{attributes_at, below_at, place_behind, place_after, marks_of}
use Rattle.pc_environment.specs.DecoratingLaws.{at-node}
use Rattle.pc_facts.specs.Known.{Known}
use Rattle.pc_facts.specs.Shows.{AllShow, ShowsNode, ShowsType, value_of}
use Rattle.pc_facts.specs.declared.facts.Facts.{Facts}
use Rattle.pc_growth.specs.Grows.{Grows}
use Rattle.pc_growth.specs.GrowsLaws.{numbered-begins, less-begins}
use Rattle.pc_places.specs.MovesLaws.{IsPlace-kept, Moves-same}
use Rattle.pc_places.specs.Places.{known, IsPlace, Makes, node_at}
use Rattle.pc_places.specs.declared.tables.Tables.{Tables}
use Rattle.pc_type_rules.specs.Denoted.{IsNumber}
use Rattle.pc_type_rules.specs.Extends.{Extends}
use Rattle.pc_type_rules.specs.Records.{ShowsFields}
use Rattle.pc_type_rules.specs.declared.records.FieldList.{FieldList}
use Rattle.pc_denoters.specs.ArrayMakes.{every-denoting, kids-classes}
use Rattle.pc_denoters.specs.Cores.{core, IsPlace-core}
use Rattle.pc_denoters.specs.EnumMakes.{names-kind, list-names, list-hole}
use Rattle.pc_denoters.specs.FieldLaws.{field_repeats-are}
use Rattle.pc_denoters.specs.FieldNaming.{AreTwice}
use Rattle.pc_denoters.specs.FieldRows.{ShowsField, ShowsFieldLists, lists_of, any_open_field, below_of, twice_of}
use Rattle.pc_denoters.specs.FormsAt.{first_place, at-form, kind-form, classes-at, kids-of-kind, at-kind-of}
use Rattle.pc_denoters.specs.Goings.{ShowsFacts, AtHere, IsAmong, MakesRow, MakesForm}
use Rattle.pc_denoters.specs.GoingsLaws.{definition-moved, here-among, among-more, among-next, core-node}
use Rattle.pc_denoters.specs.KeepsLaws.{keeps-types, moves-types}
use Rattle.pc_denoters.specs.Kinds.{is_denoting, class-denoting, core-behind}
use Rattle.pc_denoters.specs.MakesLaws.{first-place, makes-form, makes-list, row-one-more}
use Rattle.pc_denoters.specs.Passing.{names_of, any_hole_of}
use Rattle.pc_denoters.specs.Quiet.{class-quiet, quiet-behind}
use Rattle.pc_denoters.specs.StructuredMakes.{IsInside}
use Rattle.pc_denoters.specs.declared.fields.FieldFound.{FieldFound}

or-false : (b : Bool) → (b || false) ≡ b
or-false true = refl
or-false false = refl

-- ---- names and holes below fields

rule-entries : (l : Local) (k : Kind) (w : List ℕ) (s : Seen) (m : Marked) → is_name k ≡ true → (rule l k w s m).as_value.entries ≡ []
unfolding rule
rule-entries l kind.Name w s m e = refl
rule-entries l (kind.Hole x) w s m e = refl
rule-entries l k w s m e = cc

no-entries : (out : Outside) (l : Local) (i : ℕ) (ts : List Plain) → Every (λ u. is_name u.kind ≡ true) ts → kid_entries i (nodes (marks_of out l ts)) ≡ []
no-entries out l i [] all = refl
no-entries out l i (t ∷ ts) all =
    let rest = kid_entries (suc i) (nodes (marks_of out (place_behind out l t) ts)) in
    let none : (attributes_at out l t).as_value.entries ≡ [] = ap (λ (a : Attributes). a.as_value.entries) (at-node out l t) ∙ rule-entries l t.kind t.word (looked out l t.kind t.word) (below_at out l t) all.0 in
    ap (λ (es : List Entry). at_kid i es ++ rest) none ∙ no-entries out (place_behind out l t) (suc i) ts all.1

-- a list of names has no entries of its own
list-entries : (out : Outside) (l : Local) (t : Plain) → IsProper t → t.kind ≡ kind.Names → (attributes_at out l t).as_value.entries ≡ []
list-entries out l t proper e =
    ap (λ (a : Attributes). a.as_value.entries) (at-kind-of out l t kind.Names e) ∙ no-entries out (first_place l kind.Names (kids_of t)) 1 (kids_of t) (kids-classes t kind.Names proper e)

none-of : {X : Type 0} (xs : List X) → length xs ≡ 0 → xs ≡ []
none-of [] e = refl
none-of (x ∷ xs) e = cc

-- a hole has no kids
pub hole-kids : (t : Plain) (s : Sort) → IsProper t → t.kind ≡ kind.Hole s → kids_of t ≡ []
hole-kids t s proper e = none-of (kids_of t) (fixed_length t 0 proper (ap fixed_count e))

-- in the place of a list of fields stands one or a hole
pub field-or-hole : (k : Kind) → has class.Field k ≡ true → (k ≡ kind.Field → ⊥) → (s : Sort) × (k ≡ kind.Hole s)
field-or-hole kind.Field e isnt = absurd (isnt refl)
field-or-hole (kind.Hole s) e isnt = (s, refl)
field-or-hole k e isnt = cc

-- ---- one list of fields

number-grows : (a b : Known) (i : Option TypeId) (ty : Option Typed) → Grows a b → IsNumber a.table i ty → IsNumber b.table i ty
number-grows a b None ty g h = record { shape = h.shape; there = λ x e. cc }
number-grows a b (Some i) ty g h = record {
  shape = ap Some (numbered-begins a.table.shapes b.table.shapes i g.shapes (h.there i refl)) ∙ h.shape;
  there = λ x e. let same : i ≡ x = cc in subst (λ (j : TypeId). j.0 < length b.table.shapes) same (less-begins a.table.shapes b.table.shapes i.0 g.shapes (h.there i refl));
}

pub field-grows : (a b : Known) (f : FieldFound) (n : Node) → Grows a b → ShowsField a f n → ShowsField b f n
field-grows a b f n g h = record { list = record { names = h.list.names; type = number-grows a b f.list.of (field_denoter n).as_value.type g h.list.type }; hole = h.hole; below = h.below }

pub makes-field : (t0 t1 : Tables) (s2 : Kept) (block owner : ℕ) (here d2 : Definition) (t x y : Plain) (b : Facts) (f : FieldFound) → IsProper t → form.Field x y ≡ form_of t → IsInside here 2 d2 → Makes ShowsFacts (AtHere d2 false) block owner t0 t1 y b →
    ((ty : Option Typed) → ShowsType (seen t1.types) (value_of b.judgement).of ty → IsNumber (seen s2) f.list.of ty) → Extends (seen t1.types) (seen s2) →
    f.list.names.items ≡ names_of (kids_of x) → f.hole ≡ (any_hole_of (kids_of x) || b.hole) → f.below.items ≡ at_kid 2 (value_of b.judgement).entries.items →
    Makes ShowsField (AtHere here false) block owner t0 (record t1 { types = s2 }) t f
makes-field t0 t1 s2 block owner here d2 t x y b f proper e def kid number extended names hole below =
    let ks = x ∷ y ∷ [] in
    let t2 : Tables = record t1 { types = s2 } in
    let kind_t : t.kind ≡ kind.Field = kind-form t (form.Field x y) e in
    let kids : kids_of t ≡ ks = sym (kids_in-form_of t proper) ∙ ap kids_in (sym e) in
    let classes = classes-at t (form.Field x y) proper e in
    let propers : Every IsProper ks = subst (λ (us : List Plain). Every IsProper us) kids (proper-kids_of t proper) in
    let ex = names-kind x.kind classes.0 in
    let quiet = class-quiet class.Names x.kind refl classes.0 in
    let among = λ (l : Local) (at : AtHere here false t0 l).
    let l1 = first_place l kind.Field ks in
    let first : IsAmong here 1 false t0 l1 = record { around = at.defined; number = refl; as_packed = refl } in first in
    let kid_at = λ (out : Outside) (l : Local) (at : AtHere here false t0 l).
    let l1 = first_place l kind.Field ks in
    here-among t0 here d2 2 false (place_behind out l1 x) def (among-next t0 here 1 false out l1 x (among l at)) in
    let kid_place = λ (out : Outside) (l : Local) (place : IsPlace t0 block owner out l).
    let l1 = first_place l kind.Field ks in
    quiet-behind t0 block owner out l1 x quiet (first-place t0 block owner out l kind.Field ks refl place) in
    record {
      moves = moves-types block t0 t1 s2 kid.moves extended;
      shows = λ out l place at.
          let l1 = first_place l kind.Field ks in
          let l2 = place_behind out l1 x in
          let n = node_at out l t in
          let nx = node_at out l1 x in
          let ny = node_at out l2 y in
          let shown = kid.shows out l2 (kid_place out l place) (kid_at out l at) in
          let both : kids_below n ≡ nx ∷ ny ∷ [] = kids-of-kind out l t kind.Field kind_t ∙ ap (λ (us : List Plain). nodes (marks_of out (first_place l kind.Field us) us)) kids in
          let own = at-form out l t (form.Field x y) proper e in
          record {
            list = record {
              names = names ∙ sym (list-names out l1 x ex) ∙ sym (ap (λ (ns : List Node). names_in (kids_below (get_or ns 0 missing))) both);
              type = subst (λ (ns : List Node). IsNumber (seen s2) f.list.of (get_or ns 1 missing).as_value.type) (sym both) (number ny.as_value.type shown.value.type);
            };
            hole =
                hole ∙ ap (λ (h : Bool). any_hole_of (kids_of x) || h) (shown.hole ∙ sym (or-false ny.at.hole))
                ∙ ap (λ (h : Bool). h || (ny.at.hole || false)) (sym (list-hole out l1 x propers.0 ex)) ∙ sym (ap (λ (a : Attributes). a.hole) own);
            below =
                below ∙ ap (at_kid 2) shown.value.entries ∙ sym (append-nil (at_kid 2 ny.as_value.entries))
                ∙ ap (λ (es : List Entry). at_kid 1 es ++ (at_kid 2 ny.as_value.entries ++ [])) (sym (list-entries out l1 x propers.0 ex)) ∙ sym (ap (λ (a : Attributes). a.as_value.entries) own);
          };
      behind = λ out l place at.
          let l1 = first_place l kind.Field ks in
          let l2 = place_behind out l1 x in
          IsPlace-core t2 block owner out (place_behind out l2 y) (place_behind out l t)
          (core-node out l t (form.Field x y) kind.Field ks proper e refl refl refl (class-denoting class.Names x.kind refl classes.0, (class-denoting class.Denoter y.kind refl classes.1.0, tt)) refl)
          (IsPlace-kept t1 t2 block owner out (place_behind out l2 y) (keeps-types t1 s2 extended) (kid.behind out l2 (kid_place out l place) (kid_at out l at)));
    }

-- a hole in its place
pub makes-no-field : (t0 : Tables) (block owner : ℕ) (here : Definition) (t : Plain) (s : Sort) (f : FieldFound) → IsProper t → t.kind ≡ kind.Hole s → f.list.names.items ≡ [] → f.list.of ≡ None → f.hole ≡ true → f.below.items ≡ [] →
    Makes ShowsField (AtHere here false) block owner t0 t0 t f
makes-no-field t0 block owner here t s f proper e names of hole below = record {
  moves = Moves-same block t0;
  shows = λ out l place at.
      let n = node_at out l t in
      let none : kids_below n ≡ [] = kids-of-kind out l t (kind.Hole s) e ∙ ap (λ (us : List Plain). nodes (marks_of out (first_place l (kind.Hole s) us) us)) (hole-kids t s proper e) in
      let own = at-kind-of out l t (kind.Hole s) e in
      let empty : IsNumber (seen t0.types) None None = record { shape = refl; there = λ x q. cc } in
      record {
        list = record {
          names = names ∙ sym (ap (λ (ns : List Node). names_in (kids_below (get_or ns 0 missing))) none);
          type = subst (λ (ns : List Node). IsNumber (seen t0.types) f.list.of (get_or ns 1 missing).as_value.type) (sym none) (subst (λ (i : Option TypeId). IsNumber (seen t0.types) i None) (sym of) empty);
        };
        hole = hole ∙ sym (ap (λ (a : Attributes). a.hole) own);
        below = below ∙ sym (ap (λ (a : Attributes). a.as_value.entries) own);
      };
  behind = λ out l place at.
      IsPlace-core t0 block owner out l (place_behind out l t)
      (sym (core-behind out l t (ap is_denoting e) ∙ ap (λ (a : Attributes). core (define_all l a.defines)) (at-kind-of out l t (kind.Hole s) e))) place;
}

-- ---- all lists

pub fields-kind : (k : Kind) → has class.Fields k ≡ true → k ≡ kind.Fields
fields-kind kind.Fields e = refl
fields-kind k e = cc

-- one more list
pub fields-more : (here d : Definition) (block owner : ℕ) (t0 t1 t2 : Tables) (ts : List Plain) (t : Plain) (xs : List FieldFound) (x : FieldFound) → here.owner.0 < length (known t0).table.owners → IsInside here (1 + length ts) d →
    MakesRow ShowsField (IsAmong here 1 false) block owner t0 t1 ts xs → Makes ShowsField (AtHere d false) block owner t1 t2 t x → MakesRow ShowsField (IsAmong here 1 false) block owner t0 t2 (ts ++ t ∷ []) (xs ++ x ∷ [])
fields-more here d block owner t0 t1 t2 ts t xs x there def row one =
    row-one-more ShowsField (IsAmong here 1 false) (AtHere d false) block owner t0 t1 t2 ts t xs x field-grows
    (λ out l at. here-among t1 here d (1 + length ts) false (place_after out l ts) def (among-more block t0 t1 here false out l ts row.moves there at)) row one

pub makes-fields : (here : Definition) (block owner : ℕ) (t0 t1 : Tables) (t : Plain) (xs : List FieldFound) → IsProper t → has class.Fields t.kind ≡ true →
    MakesRow ShowsField (IsAmong here 1 false) block owner t0 t1 (kids_of t) xs → Makes ShowsFieldLists (AtHere here false) block owner t0 t1 t xs
makes-fields here block owner t0 t1 t xs proper is row =
    let e = fields-kind t.kind is in
    makes-list ShowsField (AtHere here false) (IsAmong here 1 false) block owner t0 t1 t kind.Fields xs proper e refl (every-denoting class.Field (kids_of t) refl (kids-classes t kind.Fields proper e)) (λ out l. refl)
    (λ l at. record { around = at.defined; number = refl; as_packed = refl }) row

all-lists : (k : Known) (fs : List FieldFound) (ns : List Node) → AllShow (ShowsField k) fs ns → AllShow (ShowsFields k.table) (lists_of fs) ns
all-lists k [] [] all = tt
all-lists k (f ∷ fs) (n ∷ ns) all = (all.0.list, all-lists k fs ns all.1)
all-lists k [] (n ∷ ns) all = absurd all
all-lists k (f ∷ fs) [] all = absurd all

all-open : (k : Known) (fs : List FieldFound) (ns : List Node) → AllShow (ShowsField k) fs ns → any_open_field fs ≡ any_hole ns
all-open k [] [] all = refl
all-open k (f ∷ fs) (n ∷ ns) all = ap (λ (b : Bool). b || any_open_field fs) all.0.hole ∙ ap (λ (b : Bool). n.at.hole || b) (all-open k fs ns all.1)
all-open k [] (n ∷ ns) all = absurd all
all-open k (f ∷ fs) [] all = absurd all

all-below : (k : Known) (i : ℕ) (fs : List FieldFound) (ns : List Node) → AllShow (ShowsField k) fs ns → below_of i fs ≡ kid_entries i ns
all-below k i [] [] all = refl
all-below k i (f ∷ fs) (n ∷ ns) all = ap (λ (es : List Entry). at_kid i es ++ below_of (suc i) fs) all.0.below ∙ ap (λ (es : List Entry). at_kid i n.at.as_value.entries ++ es) (all-below k (suc i) fs ns all.1)
all-below k i [] (n ∷ ns) all = absurd all
all-below k i (f ∷ fs) [] all = absurd all

-- a record
pub makes-record : (t0 t1 : Tables) (s2 : Kept) (block owner : ℕ) (here d1 : Definition) (p h : Bool) (x : Plain) (fs : List FieldFound) (lists : List FieldList) (below twice : List Entry) (r : Facts) → here.owner.0 < length (known t0).table.owners → IsInside here 1 d1 →
    has class.Fields x.kind ≡ true → IsProper x → Makes ShowsFieldLists (AtHere d1 false) block owner t0 t1 x fs → AreTwice [] fs (kids_of x) → lists ≡ lists_of fs → h ≡ any_open_field fs → below ≡ below_of 1 fs → twice ≡ twice_of 1 fs →
    ((k : Known) (w : List ℕ) (l : Local) (a : Node) → definition_in (seen t1.types).owners here ≡ defined_here l → p ≡ l.packed → AllShow (ShowsFields (seen t1.types)) lists (kids_below a) → a.at.hole ≡ h → below ≡ a.as_value.entries →
    twice ≡ field_repeats [] 1 (kids_below a) → ShowsNode (record k { table = seen s2 }) r (with_kind kind.Record w (record_rule l a))) → Extends (seen t1.types) (seen s2) →
    MakesForm (AtHere here p) block owner t0 (record t1 { types = s2 }) (form.Record x) r
makes-record t0 t1 s2 block owner here d1 p h x fs lists below twice r there def is proper_x kid rows are_lists are_open are_below are_twice rule_of extended = λ t proper e.
    let ks = x ∷ [] in
    let t2 : Tables = record t1 { types = s2 } in
    let ex = fields-kind x.kind is in
    makes-form (AtHere here p) block owner t0 t2 t (form.Record x) kind.Record ks r proper e refl refl refl (class-denoting class.Fields x.kind refl is, tt) (λ out l. refl) (moves-types block t0 t1 s2 kid.moves extended)
    (λ out l place at.
    let l1 = first_place l kind.Record ks in
    IsPlace-kept t1 t2 block owner out (place_behind out l1 x) (keeps-types t1 s2 extended)
    (kid.behind out l1 (first-place t0 block owner out l kind.Record ks refl place) (here-among t0 here d1 1 false l1 def (record { around = at.defined; number = refl; as_packed = refl }))))
    (λ out l place at.
    let l1 = first_place l kind.Record ks in
    let a = node_at out l1 x in
    let shown = kid.shows out l1 (first-place t0 block owner out l kind.Record ks refl place) (here-among t0 here d1 1 false l1 def (record { around = at.defined; number = refl; as_packed = refl })) in
    let own = at-kind-of out l1 x kind.Fields ex in
    let below_a : kids_below a ≡ nodes (marks_of out (first_place l1 kind.Fields (kids_of x)) (kids_of x)) = kids-of-kind out l1 x kind.Fields ex in
    rule_of (known t1) t.word l a (definition-moved block t0 t1 here kid.moves there ∙ at.defined) at.as_packed
    (subst (λ (v : List FieldList). AllShow (ShowsFields (seen t1.types)) v (kids_below a)) (sym are_lists) (all-lists (known t1) fs (kids_below a) shown))
    (ap (λ (b : Attributes). b.hole) own ∙ ap any_hole (sym below_a) ∙ sym (are_open ∙ all-open (known t1) fs (kids_below a) shown))
    (are_below ∙ all-below (known t1) 1 fs (kids_below a) shown ∙ ap (kid_entries 1) below_a ∙ sym (ap (λ (b : Attributes). b.as_value.entries) own))
    (are_twice ∙ field_repeats-are out (first_place l1 kind.Fields (kids_of x)) [] [] 1 fs (kids_of x) (proper-kids_of x proper_x) (kids-classes x kind.Fields proper_x ex) (λ q. refl) rows ∙ ap (field_repeats [] 1) (sym below_a)))
