-- What is made of an enumerated type.
use Rattle.std.specs.Prelude.{◌≡◌, ◌<◌, ◌||◌, ℕ, Bool, true, List, [], ◌∷◌, length, Option}
use Rattle.std.proofs.Common.{refl, ap, sym, ◌∙◌, subst}
use Rattle.pc_syntax.specs.Classes.{has, is_name}
use Rattle.pc_syntax.specs.Plain.{Plain, kids_of}
use Rattle.pc_syntax.specs.Sorts.{is_hole}
use Rattle.pc_syntax.specs.WellFormed.{IsProper}
use Rattle.pc_syntax.specs.declared.class.Class.TheVariants as class
use Rattle.pc_syntax.specs.declared.kind.Kind.{Kind}
use Rattle.pc_syntax.specs.declared.kind.Kind.TheVariants as kind
use Rattle.pc_types.specs.Rows.{Kept, seen}
use Rattle.pc_types.specs.Table.{definition_in}
use Rattle.pc_types.specs.declared.form.Definition.{Definition}
use Rattle.pc_types.specs.declared.form.OwnerId.{OwnerId}
use Rattle.pc_types.specs.declared.operand.Operand.{Operand}
use Rattle.pc_forms.specs.FormClasses.{Every}
use Rattle.pc_forms.specs.declared.form.Form.TheVariants as form
use Rattle.pc_rules.specs.Attributes.{Attributes, Entry, Marked, Node, nodes, at_kid, kids_below}
use Rattle.pc_rules.specs.DeclaringNames.{names_in, repeats}
use Rattle.pc_rules.specs.Decorated.{Seen, seen as looked, rule, with_kind}
use Rattle.pc_rules.specs.Denoters.{defined_here, elements, enumerated_rule}
use Rattle.pc_rules.specs.HandedOn.{any_hole, handed_on}
use Rattle.pc_rules.specs.Meanings.{Local, Outside, Meaning, define_all}
use Rattle.pc_environment.specs.Decorating.{attributes_at, below_at, place_behind, marks_of}
use Rattle.pc_environment.specs.DecoratingLaws.{at-node}
use Rattle.pc_facts.specs.Known.{Known}
use Rattle.pc_facts.specs.Shows.{ShowsNode, ShowsType, shape_of, value_of}
use Rattle.pc_facts.specs.declared.facts.Facts.{Facts}
use Rattle.pc_growth.specs.GrowsLaws.{ShowsNode-grows}
use Rattle.pc_places.specs.MovesLaws.{IsPlace-kept, Moves-then}
use Rattle.pc_places.specs.Places.{known, IsPlace, Keeps, node_at}
use Rattle.pc_places.specs.declared.tables.Tables.{Tables}
use Rattle.pc_type_rules.specs.Extends.{Extends}
use Rattle.pc_denoters.specs.ArrayMakes.{kids-classes}
use Rattle.pc_denoters.specs.Completing.{CompletedSoFar, defined-elements}
use Rattle.pc_denoters.specs.Cores.{core, IsPlace-core}
use Rattle.pc_denoters.specs.FormsAt.{first_place, found_at, at-form, kind-form, kids-of-kind}
use Rattle.pc_denoters.specs.Goings.{AtHere, MakesForm}
use Rattle.pc_denoters.specs.GoingsLaws.{definition-moved}
use Rattle.pc_denoters.specs.KeepsLaws.{keeps-types, moves-types}
use Rattle.pc_denoters.specs.Kinds.{is_denoting, core-behind}
use Rattle.pc_denoters.specs.Passing.{PassedSoFar, names_of, any_hole_of, repeats_of, all_passing}
use Rattle.pc_denoters.specs.PassingLaws.{names_in-of, repeats-of}
use Rattle.pc_denoters.specs.declared.enumerations.NamesFound.{NamesFound}

-- the list of names has its kind
pub names-kind : (k : Kind) → has class.Names k ≡ true → k ≡ kind.Names
names-kind kind.Names e = refl
names-kind k e = cc

rule-name : (l : Local) (k : Kind) (w : List ℕ) (s : Seen) (m : Marked) → is_name k ≡ true → (rule l k w s m).hole ≡ is_hole k
unfolding rule
rule-name l kind.Name w s m e = refl
rule-name l (kind.Hole x) w s m e = refl
rule-name l k w s m e = cc

-- a name, or a hole in its place
pub name-hole : (out : Outside) (l : Local) (t : Plain) → is_name t.kind ≡ true → (attributes_at out l t).hole ≡ is_hole t.kind
name-hole out l t e = ap (λ (a : Attributes). a.hole) (at-node out l t) ∙ rule-name l t.kind t.word (looked out l t.kind t.word) (below_at out l t) e

pub holes-of : (out : Outside) (l : Local) (ts : List Plain) → Every (λ u. is_name u.kind ≡ true) ts → any_hole (nodes (marks_of out l ts)) ≡ any_hole_of ts
holes-of out l [] all = refl
holes-of out l (t ∷ ts) all =
    ap (λ (b : Bool). b || any_hole (nodes (marks_of out (place_behind out l t) ts))) (name-hole out l t all.0) ∙ ap (λ (b : Bool). is_hole t.kind || b) (holes-of out (place_behind out l t) ts all.1)

names-rule : (out : Outside) (l : Local) (t : Plain) → t.kind ≡ kind.Names → attributes_at out l t ≡ with_kind kind.Names t.word (handed_on (nodes (below_at out l t)))
unfolding rule
names-rule out l t e = at-node out l t ∙ (λ i. rule l (e i) t.word (looked out l (e i) t.word) (below_at out l t))

pub names-hole : (out : Outside) (l : Local) (t : Plain) → t.kind ≡ kind.Names → (attributes_at out l t).hole ≡ any_hole (nodes (below_at out l t))
names-hole out l t e = ap (λ (a : Attributes). a.hole) (names-rule out l t e)

-- the names of a list where it stands
pub list-names : (out : Outside) (l : Local) (t : Plain) → t.kind ≡ kind.Names → names_in (nodes (below_at out l t)) ≡ names_of (kids_of t)
list-names out l t e = ap names_in (kids-of-kind out l t kind.Names e) ∙ names_in-of out (first_place l kind.Names (kids_of t)) (kids_of t)

pub list-repeats : (out : Outside) (l : Local) (t : Plain) (before : List (List ℕ)) → t.kind ≡ kind.Names → repeats before 1 (nodes (below_at out l t)) ≡ repeats_of before 1 (kids_of t)
list-repeats out l t before e = ap (repeats before 1) (kids-of-kind out l t kind.Names e) ∙ repeats-of out (first_place l kind.Names (kids_of t)) before 1 (kids_of t)

pub list-hole : (out : Outside) (l : Local) (t : Plain) → IsProper t → t.kind ≡ kind.Names → (attributes_at out l t).hole ≡ any_hole_of (kids_of t)
list-hole out l t proper e =
    names-hole out l t e ∙ ap any_hole (kids-of-kind out l t kind.Names e) ∙ holes-of out (first_place l kind.Names (kids_of t)) (kids_of t) (kids-classes t kind.Names proper e)

-- ---- the type

pub makes-enum : (t0 t1 : Tables) (s2 : Kept) (t3 : Tables) (block : ℕ) (owner : OwnerId) (here : Definition) (p : Bool) (x : Plain) (f : NamesFound) (entries : List Entry) (of : Option Operand) (r : Facts) →
    here.owner.0 < length (known t0).table.owners → IsProper x → has class.Names x.kind ≡ true → PassedSoFar block t0 t1 (kids_of x) f → entries ≡ at_kid 1 f.entries.items →
    ((k : Known) (w : List ℕ) (l : Local) (a : Node) → definition_in (seen t1.types).owners here ≡ defined_here l → a.at.hole ≡ f.hole → f.smalls.items ≡ names_in (kids_below a) → entries ≡ at_kid 1 (repeats l.passed 1 (kids_below a)) →
    ShowsNode (record k { table = seen s2 }) r (with_kind kind.Enum w (enumerated_rule l a))) → Extends (seen t1.types) (seen s2) → of ≡ (value_of r.judgement).of →
    CompletedSoFar block owner of (record t1 { types = s2 }) t3 f.passed.items → MakesForm (AtHere here p) block owner.0 t0 t3 (form.Enum x) r
makes-enum t0 t1 s2 t3 block owner here p x f entries of r there proper_x is so below rule_of extended typed done = λ t proper e.
    let t2 : Tables = record t1 { types = s2 } in
    let ks = x ∷ [] in
    let ex = names-kind x.kind is in
    let keeps : Keeps t1 t2 = keeps-types t1 s2 extended in
    let to2 = moves-types block t0 t1 s2 so.moves extended in
    let at_t = λ (out : Outside) (l : Local). at-form out l t (form.Enum x) proper e in
    let shown = λ (out : Outside) (l : Local) (place : IsPlace t0 block owner.0 out l) (at : AtHere here p t0 l).
    let l1 = first_place l kind.Enum ks in
    let a = node_at out l1 x in
    rule_of (known t1) t.word l a (definition-moved block t0 t1 here so.moves there ∙ at.defined) (list-hole out l1 x proper_x ex ∙ sym so.hole) (so.smalls ∙ sym (list-names out l1 x ex))
    (below ∙ ap (at_kid 1) (so.entries owner.0 out l place ∙ sym (list-repeats out l1 x l.passed ex))) in
    record {
      moves = Moves-then block t0 t2 t3 to2 done.moves;
      shows = λ out l place at.
          subst (ShowsNode (known t3) r) (sym (at_t out l))
          (ShowsNode-grows (known t2) (known t3) r (found_at out l kind.Enum t.word ks) done.moves.grows (shown out l place at));
      behind = λ out l place at.
          let l1 = first_place l kind.Enum ks in
          let a = node_at out l1 x in
          let ty = (enumerated_rule l a).as_value.type in
          let s = shape_of ty in
          let ns = names_of (kids_of x) in
          let place2 = IsPlace-kept t1 t2 block owner.0 out (all_passing l ns) keeps (so.place owner.0 out l place) in
          let of_type : ShowsType (seen s2) of ty = subst (λ (o : Option Operand). ShowsType (seen s2) o ty) (sym typed) (shown out l place at).value.type in
          let place3 = done.place out (all_passing l ns) l.passed ns ty place2 (so.passed owner.0 out l place) of_type in
          let defines : (attributes_at out l t).defines ≡ elements l.owner s 0 ns =
          ap (λ (b : Attributes). b.defines) (at_t out l) ∙ ap (λ (ms : List (List ℕ)). elements l.owner s 0 ms) (list-names out l1 x ex) in
          IsPlace-core t3 block owner.0 out (define_all l (elements l.owner s 0 ns)) (place_behind out l t)
          (ap (λ (ds : List (List ℕ × Meaning)). core (define_all l ds)) (sym defines) ∙ sym (core-behind out l t (ap is_denoting (kind-form t (form.Enum x) e))))
          (subst (λ (m : Local). IsPlace t3 block owner.0 out m) (sym (defined-elements l l.owner s ns)) place3);
    }
