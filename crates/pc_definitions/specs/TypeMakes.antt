-- What is made of a type definition: laws.
use Rattle.std.specs.Prelude.{◌≡◌, ◌<◌, ℕ, true, false, List, [], ◌∷◌, ◌++◌, length, get_or, None, Option, codes}
use Rattle.std.proofs.Common.{refl, ap, sym, ◌∙◌, subst}
use Rattle.pc_syntax.specs.Classes.{has}
use Rattle.pc_syntax.specs.Plain.{Plain, forest_of, kids_of}
use Rattle.pc_syntax.specs.PartsLaws.{forest_of-kids_of}
use Rattle.pc_syntax.specs.WellFormed.{IsProper}
use Rattle.pc_syntax.specs.declared.class.Class.TheVariants as class
use Rattle.pc_syntax.specs.declared.kind.Kind.TheVariants as kind
use Rattle.pc_types.specs.Shapes.{Owner}
use Rattle.pc_types.specs.Table.{nobody, definition_in}
use Rattle.pc_types.specs.declared.form.Definition.{Definition}
use Rattle.pc_types.specs.declared.form.OwnerId.{OwnerId}
use Rattle.pc_types.specs.declared.operand.Operand.{Operand}
use Rattle.pc_forms.specs.Form.{form_of}
use Rattle.pc_forms.specs.declared.form.Form.TheVariants as form
use Rattle.pc_names.specs.declared.name_class.NameClass.TheVariants as names
use Rattle.pc_rules.specs.Attributes.{Entry, Node, at_kid}
use Rattle.pc_rules.specs.Declarations.{declaration}
use Rattle.pc_rules.specs.Decorated.{with_kind}
use Rattle.pc_rules.specs.Entries.{note_if, quoted}
use Rattle.pc_rules.specs.Meanings.{TypeName, Meaning, Local, declared_as}
use Rattle.pc_facts.specs.Known.{Known}
use Rattle.pc_facts.specs.Shows.{ShowsNode, ShowsType, value_of}
use Rattle.pc_facts.specs.declared.facts.Facts.{Facts}
use Rattle.pc_places.specs.Places.{known, Makes, node_at}
use Rattle.pc_places.specs.declared.tables.Tables.{Tables}
use Rattle.pc_denoters.specs.FormsAt.{first_place, kind-form}
use Rattle.pc_denoters.specs.Goings.{AtHere, MakesForm, ShowsFacts}
use Rattle.pc_denoters.specs.Kinds.{class-denoting}
use Rattle.pc_definitions.specs.DefinitionMakes.{makes-definition, proper-kids}
use Rattle.pc_definitions.specs.Namings.{is_nameless, is_second, ShowsParts}
use Rattle.pc_definitions.specs.Numbered.{number_for, IsNumbered, AtNumber, AtDefinition, defined_name}
use Rattle.pc_definitions.specs.NumberedLaws.{name_of, numbered, second-defined}
use Rattle.pc_definitions.specs.Parts.{EntersName, LeavesName, part_place}
use Rattle.pc_definitions.specs.RuleLaws.{own-entries, own-hole}
use Rattle.pc_definitions.specs.declared.naming.Naming.{Naming}

-- a type as the declaration of a name
abbrev pub type_meaning : Local → Node → Meaning
type_meaning l b = record (declared_as TypeName l.owner) { type = b.at.as_value.type }

type-parts : (k : Known) (o : OwnerId) (ty : Option Operand) (p : Facts) (l : Local) (b : Node) → ty ≡ (value_of p.judgement).of → get_or k.table.owners o.0 nobody ≡ l.owner →
    o.0 < length k.table.owners → ShowsNode k p b.at → ShowsParts k names.Type o None ty (type_meaning l b)
type-parts k o ty p l b e owner there h = record {
  class = refl;
  owner = owner;
  owner_there = there;
  value = tt;
  type = subst (λ (x : Option Operand). ShowsType k.table x b.at.as_value.type) (sym e) h.value.type;
  bare = refl;
}

-- a type definition, given what was made of its name and its denoter
pub makes-type-definition : (t0 t1 t2 t3 : Tables) (block : ℕ) (o : OwnerId) (kid before : ℕ) (here : Definition) (name den : Plain) (n : Naming) (own : List Entry) (ty : Option Operand) (p r : Facts) →
    has class.Name name.kind ≡ true → has class.Denoter den.kind ≡ true → EntersName block t0 t1 name n →
    ((owners : List Owner) → definition_in owners here ≡ record { owner = get_or owners o.0 nobody; name = name_of name; number = number_for n kid 0 before; inside = 2 ∷ [] }) →
    Makes ShowsFacts (AtHere here false) block o.0 t1 t2 den p → ty ≡ (value_of p.judgement).of → LeavesName block o names.Type None ty n t2 t3 →
    own ≡ note_if (is_second n) 3 (quoted (codes "declared twice") name.word) →
    ((k : Known) (w : List ℕ) (a b : Node) (es : List Entry) (ds : List (List ℕ × Meaning)) → a.at.hole ≡ is_nameless n → own ≡ es → ShowsNode k p b.at →
    ShowsNode k r (with_kind kind.Typedef w (declaration (a ∷ b ∷ []) (at_kid 1 es ++ at_kid 2 b.at.as_value.entries) ds))) →
    MakesForm (AtNumber kid before (name_of name)) block o.0 t0 t3 (form.Typedef name den) r
makes-type-definition t0 t1 t2 t3 block o kid before here name den n own ty p r isname isden enters def made typed leaves entries rule = λ t proper e.
    let ks = name ∷ den ∷ [] in
    let proper_name = (proper-kids t (form.Typedef name den) ks proper e refl).0 in
    makes-definition (AtNumber kid before (name_of name)) (AtHere here false) kind.Typedef t0 t1 t2 t3 block o names.Type None ty (form.Typedef name den) name den n p r type_meaning refl refl refl (λ l. refl) isname
    (class-denoting class.Denoter den.kind refl isden) (λ out l w. refl) enters made leaves
    (λ out l place fits owner at. record {
      defined =
          second-defined l 0 (name_of name) (get_or (known t1).table.owners o.0 nobody) (number_for n kid 0 before) (definition_in (known t1).table.owners here) (def (known t1).table.owners) owner
          (numbered t1.names.texts l name n kid 0 before proper_name isname enters.shows fits at);
      as_packed = refl;
    })
    (λ kn l b owner there h. type-parts kn o ty p l b typed owner there h)
    (λ out l w fits shown.
    let l1 = first_place l kind.Typedef ks in
    let l2 = part_place out l kind.Typedef name den in
    rule (known t3) w (node_at out l1 name) (node_at out l2 den) _ _ (own-hole t1.names.texts out l1 name n isname enters.shows) (own-entries t1.names.texts out l1 l name n own enters.shows fits entries) shown) t proper e

-- the same of the node
pub makes-definition-node : (block owner kid before : ℕ) (t0 t1 : Tables) (t name den : Plain) (r : Facts) → IsProper t → form.Typedef name den ≡ form_of t → name ∷ den ∷ [] ≡ kids_of t →
    MakesForm (AtNumber kid before (name_of name)) block owner t0 t1 (form.Typedef name den) r → Makes ShowsFacts (AtDefinition kind.Typedef kid before t) block owner t0 t1 t r
makes-definition-node block owner kid before t0 t1 t name den r proper e kids made =
    let named : name_of name ≡ defined_name kind.Typedef t.kids = ap (defined_name kind.Typedef) (ap forest_of kids ∙ forest_of-kids_of t) in
    let is : t.kind ≡ kind.Typedef = kind-form t (form.Typedef name den) e in
    let whole = made t proper e in
    record {
      moves = whole.moves;
      shows = λ out l place at. whole.shows out l place (subst (λ (n : List ℕ). IsNumbered kid before n l) (sym named) (at is));
      behind = λ out l place at. whole.behind out l place (subst (λ (n : List ℕ). IsNumbered kid before n l) (sym named) (at is));
    }
