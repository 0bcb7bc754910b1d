-- What is made of a constant definition: laws.
use Rattle.std.specs.Prelude.{◌≡◌, ◌<◌, ℕ, true, List, [], ◌∷◌, ◌++◌, length, get_or, None, codes}
use Rattle.std.proofs.Common.{refl, ap, sym, ◌∙◌, append-nil}
use Rattle.pc_syntax.specs.Classes.{has}
use Rattle.pc_syntax.specs.Plain.{Plain}
use Rattle.pc_syntax.specs.declared.class.Class.TheVariants as class
use Rattle.pc_syntax.specs.declared.kind.Kind.TheVariants as kind
use Rattle.pc_types.specs.Table.{nobody}
use Rattle.pc_types.specs.declared.form.OwnerId.{OwnerId}
use Rattle.pc_forms.specs.declared.form.Form.TheVariants as form
use Rattle.pc_names.specs.declared.name_class.NameClass.TheVariants as names
use Rattle.pc_rules.specs.Attributes.{Entry, Node, at_kid}
use Rattle.pc_rules.specs.Declarations.{declaration}
use Rattle.pc_rules.specs.DeclaringNames.{declares}
use Rattle.pc_rules.specs.Decorated.{with_kind}
use Rattle.pc_rules.specs.Entries.{note_if, quoted}
use Rattle.pc_rules.specs.Meanings.{ConstantName, Meaning, Local, Outside, declared_as}
use Rattle.pc_environment.specs.Decorating.{attributes_at}
use Rattle.pc_facts.specs.Known.{Known}
use Rattle.pc_facts.specs.Shows.{ShowsNode}
use Rattle.pc_facts.specs.declared.facts.Facts.{Facts}
use Rattle.pc_places.specs.MovesLaws.{IsPlace-kept, Moves-kept}
use Rattle.pc_places.specs.Places.{known, IsPlace, Keeps, Makes, node_at}
use Rattle.pc_places.specs.declared.tables.Tables.{Tables}
use Rattle.pc_denoters.specs.FormsAt.{first_place}
use Rattle.pc_denoters.specs.Goings.{Anywhere, MakesForm, ShowsFacts}
use Rattle.pc_denoters.specs.Kinds.{class-denoting}
use Rattle.pc_denoters.specs.Quiet.{class-quiet, quiet-behind, quiet-defines}
use Rattle.pc_definitions.specs.DefinitionMakes.{makes-definition}
use Rattle.pc_definitions.specs.Namings.{is_nameless, is_second, ShowsParts}
use Rattle.pc_definitions.specs.Parts.{EntersName, LeavesName, part_place}
use Rattle.pc_definitions.specs.RuleLaws.{no-type, own-entries, own-hole}
use Rattle.pc_definitions.specs.declared.naming.Naming.{Naming}

-- a constant as the declaration of a name
abbrev pub constant_meaning : Local → Node → Meaning
constant_meaning l b = record (declared_as ConstantName l.owner) { value = b.at.constant }

makes-value : (t1 t2 : Tables) (block owner : ℕ) (value : Plain) (p : Facts) → has class.Constant value.kind ≡ true → Keeps t1 t2 →
    ((own : ℕ) (out : Outside) (l : Local) → IsPlace t1 block own out l → ShowsNode (known t2) p (attributes_at out l value)) → Makes ShowsFacts Anywhere block owner t1 t2 value p
makes-value t1 t2 block owner value p is keeps shows = record {
  moves = Moves-kept block t1 t2 keeps;
  shows = λ out l place at. shows owner out l place;
  behind = λ out l place at. quiet-behind t2 block owner out l value (class-quiet class.Constant value.kind refl is) (IsPlace-kept t1 t2 block owner out l keeps place);
}

constant-parts : (k : Known) (o : OwnerId) (p : Facts) (l : Local) (b : Node) → get_or k.table.owners o.0 nobody ≡ l.owner → o.0 < length k.table.owners → ShowsNode k p b.at →
    ShowsParts k names.Constant o p.constant None (constant_meaning l b)
constant-parts k o p l b owner there h = record { class = refl; owner = owner; owner_there = there; value = h.constant; type = no-type k.table; bare = refl }

-- a constant definition, given what was made of its name and its constant
pub makes-constant-definition : (t0 t1 t2 t3 : Tables) (block : ℕ) (o : OwnerId) (name value : Plain) (n : Naming) (own : List Entry) (p r : Facts) → has class.Name name.kind ≡ true →
    has class.Constant value.kind ≡ true → EntersName block t0 t1 name n → Keeps t1 t2 →
    ((owner : ℕ) (out : Outside) (l : Local) → IsPlace t1 block owner out l → ShowsNode (known t2) p (attributes_at out l value)) → LeavesName block o names.Constant p.constant None n t2 t3 →
    own ≡ note_if (is_second n) 3 (quoted (codes "declared twice") name.word) →
    ((k : Known) (w : List ℕ) (a b : Node) (es : List Entry) (ds : List (List ℕ × Meaning)) → a.at.hole ≡ is_nameless n → own ≡ es → ShowsNode k p b.at →
    ShowsNode k r (with_kind kind.Constdef w (declaration (a ∷ b ∷ []) (at_kid 1 es ++ at_kid 2 b.at.as_value.entries) ds))) → MakesForm Anywhere block o.0 t0 t3 (form.Constdef name value) r
makes-constant-definition t0 t1 t2 t3 block o name value n own p r isname isvalue enters keeps shows leaves entries rule =
    let ks = name ∷ value ∷ [] in
    makes-definition Anywhere Anywhere kind.Constdef t0 t1 t2 t3 block o names.Constant p.constant None (form.Constdef name value) name value n p r constant_meaning refl refl refl (λ l. refl) isname
    (class-denoting class.Constant value.kind refl isvalue)
    (λ out l w.
    let a = node_at out (first_place l kind.Constdef ks) name in
    let l2 = part_place out l kind.Constdef name value in
    let m = constant_meaning l (node_at out l2 value) in
    sym (ap (λ (ds : List (List ℕ × Meaning)). declares a m ++ ds) (quiet-defines out l2 value (class-quiet class.Constant value.kind refl isvalue)) ∙ append-nil (declares a m)))
    enters (makes-value t1 t2 block o.0 value p isvalue keeps shows) leaves (λ out l place fits owner at. tt) (λ kn l b owner there h. constant-parts kn o p l b owner there h)
    (λ out l w fits shown.
    let l1 = first_place l kind.Constdef ks in
    let l2 = part_place out l kind.Constdef name value in
    rule (known t3) w (node_at out l1 name) (node_at out l2 value) _ _ (own-hole t1.names.texts out l1 name n isname enters.shows) (own-entries t1.names.texts out l1 l name n own enters.shows fits entries) shown)
