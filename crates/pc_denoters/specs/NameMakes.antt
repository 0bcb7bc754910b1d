-- What is made of a type's name.
use Rattle.std.specs.Prelude.{◌≡◌, ℕ, Bool, true, List, [], ◌∷◌}
use Rattle.std.proofs.Common.{refl, subst}
use Rattle.pc_syntax.specs.Classes.{has}
use Rattle.pc_syntax.specs.Plain.{Plain}
use Rattle.pc_syntax.specs.declared.class.Class.TheVariants as class
use Rattle.pc_syntax.specs.declared.kind.Kind.TheVariants as kind
use Rattle.pc_types.specs.Rows.{seen}
use Rattle.pc_types.specs.declared.form.Definition.{Definition}
use Rattle.pc_forms.specs.declared.form.Form.TheVariants as form
use Rattle.pc_rules.specs.Attributes.{Attributes, Entry, Node}
use Rattle.pc_rules.specs.Decorated.{with_kind}
use Rattle.pc_rules.specs.Denoters.{type_name_entries, type_name_rule}
use Rattle.pc_rules.specs.Meanings.{Local, Outside}
use Rattle.pc_environment.specs.Decorating.{attributes_at}
use Rattle.pc_facts.specs.Known.{Known}
use Rattle.pc_facts.specs.Shows.{ShowsName, ShowsNode}
use Rattle.pc_facts.specs.declared.facts.Facts.{Facts}
use Rattle.pc_facts.specs.declared.sighting.Named.{Named}
use Rattle.pc_places.specs.MovesLaws.{IsPlace-kept, Moves-kept}
use Rattle.pc_places.specs.Places.{known, IsPlace, Keeps, node_at}
use Rattle.pc_places.specs.Scenes.{unsigned_at}
use Rattle.pc_places.specs.UnsignedLaws.{unsigned_node, type_name_rule-unsigned}
use Rattle.pc_places.specs.declared.tables.Tables.{Tables}
use Rattle.pc_denoters.specs.FormsAt.{first_place, word-at}
use Rattle.pc_denoters.specs.Goings.{AtHere, MakesForm}
use Rattle.pc_denoters.specs.MakesLaws.{first-place, makes-form}
use Rattle.pc_denoters.specs.Quiet.{class-quiet, quiet-denoting, quiet-behind}

-- what is known of a used name behind a change that keeps all names
abbrev pub ShowsUsed : Tables → Tables → ℕ → Plain → Named → Type 0
ShowsUsed t0 t1 block name named = (owner : ℕ) (out : Outside) (l : Local) → l.using ≡ true → IsPlace t0 block owner out l → ShowsName (known t1) named (unsigned_at (attributes_at out l name))

-- these entries are those of the type's name
abbrev pub AreOfName : List Entry → Named → Plain → Type 0
AreOfName below named name = (k : Known) (a : Node) → ShowsName k named a.at → a.at.word ≡ name.word → below ≡ type_name_entries a

pub makes-type_name : (t0 t1 : Tables) (block owner : ℕ) (here : Definition) (p : Bool) (name : Plain) (named : Named) (below : List Entry) (r : Facts) → has class.Name name.kind ≡ true → Keeps t0 t1 → ShowsUsed t0 t1 block name named →
    AreOfName below named name → ((k : Known) (w : List ℕ) (a : Node) → k.table ≡ seen t1.types → ShowsName k named a.at → below ≡ type_name_entries a → ShowsNode k r (with_kind kind.Tname w (type_name_rule a))) →
    MakesForm (AtHere here p) block owner t0 t1 (form.Tname name) r
makes-type_name t0 t1 block owner here p name named below r is keeps shows entries rule = λ t proper e.
    let ks = name ∷ [] in
    let quiet = class-quiet class.Name name.kind refl is in
    makes-form (AtHere here p) block owner t0 t1 t (form.Tname name) kind.Tname ks r proper e refl refl refl (quiet-denoting name.kind quiet, tt) (λ out l. refl) (Moves-kept block t0 t1 keeps)
    (λ out l place at.
    let l1 = first_place l kind.Tname ks in
    quiet-behind t1 block owner out l1 name quiet (IsPlace-kept t0 t1 block owner out l1 keeps (first-place t0 block owner out l kind.Tname ks refl place)))
    (λ out l place at.
    let l1 = first_place l kind.Tname ks in
    let n = node_at out l1 name in
    let shown = shows owner out l1 refl (first-place t0 block owner out l kind.Tname ks refl place) in
    subst (λ (x : Attributes). ShowsNode (known t1) r (with_kind kind.Tname t.word x)) (type_name_rule-unsigned n)
    (rule (known t1) t.word (unsigned_node n) refl shown (entries (known t1) (unsigned_node n) shown (word-at out l1 name))))
