-- What is made of a pointer type.
use Rattle.std.specs.Prelude.{◌≡◌, ◌<◌, ℕ, Bool, true, List, [], ◌∷◌, length, get_or, Option, option_map}
use Rattle.std.specs.Option.{ForSome}
use Rattle.std.proofs.Common.{refl, sym, ◌∙◌, subst}
use Rattle.pc_syntax.specs.Classes.{has}
use Rattle.pc_syntax.specs.Plain.{Plain}
use Rattle.pc_syntax.specs.Words.{lowered}
use Rattle.pc_syntax.specs.declared.class.Class.TheVariants as class
use Rattle.pc_syntax.specs.declared.kind.Kind.TheVariants as kind
use Rattle.pc_types.specs.Rows.{Kept, seen}
use Rattle.pc_types.specs.Table.{Table, definition_in, nobody, place_at}
use Rattle.pc_types.specs.declared.form.Definition.{Definition}
use Rattle.pc_types.specs.declared.form.DomainId.{DomainId}
use Rattle.pc_forms.specs.declared.form.Form.TheVariants as form
use Rattle.pc_rules.specs.Attributes.{Attributes, Entry, Node}
use Rattle.pc_rules.specs.Decorated.{with_kind}
use Rattle.pc_rules.specs.Denoters.{defined_here, type_name_entries, pointer_rule}
use Rattle.pc_rules.specs.Meanings.{Local, Found}
use Rattle.pc_facts.specs.Known.{Known}
use Rattle.pc_facts.specs.Shows.{ShowsFound, ShowsName, ShowsNode}
use Rattle.pc_facts.specs.declared.facts.Facts.{Facts}
use Rattle.pc_facts.specs.declared.sighting.Named.{Named}
use Rattle.pc_growth.specs.GrowsLaws.{ShowsName-grows}
use Rattle.pc_places.specs.MovesLaws.{IsPlace-kept, Keeps-then, Moves-kept}
use Rattle.pc_places.specs.Places.{known, Keeps, node_at}
use Rattle.pc_places.specs.UnsignedLaws.{unsigned_node, pointer_rule-unsigned}
use Rattle.pc_places.specs.declared.tables.Tables.{Tables}
use Rattle.pc_type_rules.specs.Denoted.{domain_of}
use Rattle.pc_type_rules.specs.Extends.{Extends}
use Rattle.pc_type_rules.specs.ExtendsLaws.{Extends-then}
use Rattle.pc_denoters.specs.FormsAt.{first_place, word-at}
use Rattle.pc_denoters.specs.Goings.{AtHere, AreThere, MakesForm}
use Rattle.pc_denoters.specs.GoingsLaws.{definition-moved}
use Rattle.pc_denoters.specs.KeepsLaws.{keeps-types}
use Rattle.pc_denoters.specs.MakesLaws.{first-place, makes-form}
use Rattle.pc_denoters.specs.NameMakes.{ShowsUsed, AreOfName}
use Rattle.pc_denoters.specs.Quiet.{class-quiet, quiet-denoting, quiet-behind}

-- the number of the domain that this name means
abbrev pub IsDomain : Table → Table → ℕ → List ℕ → Named → Option DomainId → Type 0
IsDomain old new owner n named d =
    (k : Known) (l : Local) (f : Found) → k.table ≡ old → owner < length old.owners → get_or old.owners owner nobody ≡ l.owner → ShowsFound k n named.sighting f → option_map (place_at new) d ≡ domain_of l n f

-- what the rule of a pointer type makes, given the table before and after it
abbrev pub PointerShows : Table → Table → Definition → Named → Option DomainId → List Entry → Facts → Type 0
PointerShows old new here named d below r =
    (k : Known) (w : List ℕ) (l : Local) (a : Node) → k.table ≡ old → definition_in old.owners here ≡ defined_here l → ShowsName k named a.at → ForSome d (λ x. x.0 < length old.domains) →
    option_map (place_at old) d ≡ domain_of l (lowered a.at.word) a.at.found → below ≡ type_name_entries a → ShowsNode (record k { table = new }) r (with_kind kind.Pointer w (pointer_rule l a))

pub makes-pointer : (t0 t1 : Tables) (s2 s3 : Kept) (block owner : ℕ) (here : Definition) (p : Bool) (name : Plain) (named : Named) (below : List Entry) (d : Option DomainId) (r : Facts) →
    AreThere t0 block owner here → has class.Name name.kind ≡ true → Keeps t0 t1 → ShowsUsed t0 t1 block name named → AreOfName below named name →
    IsDomain (seen t1.types) (seen s2) owner (lowered name.word) named d → ForSome d (λ x. x.0 < length (seen s2).domains) → Extends (seen t1.types) (seen s2) →
    PointerShows (seen s2) (seen s3) here named d below r → Extends (seen s2) (seen s3) → MakesForm (AtHere here p) block owner t0 (record t1 { types = s3 }) (form.Pointer name) r
makes-pointer t0 t1 s2 s3 block owner here p name named below d r there is keeps shows entries domain d_there extended rule more = λ t proper e.
    let ks = name ∷ [] in
    let t2 : Tables = record t1 { types = s2 } in
    let t3 : Tables = record t1 { types = s3 } in
    let to2 : Keeps t1 t2 = keeps-types t1 s2 extended in
    let to3 : Keeps t1 t3 = keeps-types t1 s3 (Extends-then (seen t1.types) (seen s2) (seen s3) extended more) in
    let all : Keeps t0 t3 = Keeps-then t0 t1 t3 keeps to3 in
    let quiet = class-quiet class.Name name.kind refl is in
    makes-form (AtHere here p) block owner t0 t3 t (form.Pointer name) kind.Pointer ks r proper e refl refl refl (quiet-denoting name.kind quiet, tt) (λ out l. refl) (Moves-kept block t0 t3 all)
    (λ out l place at.
    let l1 = first_place l kind.Pointer ks in
    quiet-behind t3 block owner out l1 name quiet (IsPlace-kept t0 t3 block owner out l1 all (first-place t0 block owner out l kind.Pointer ks refl place)))
    (λ out l place at.
    let l1 = first_place l kind.Pointer ks in
    let n = node_at out l1 name in
    let m = unsigned_node n in
    let first = first-place t0 block owner out l kind.Pointer ks refl place in
    let shown = shows owner out l1 refl first in
    let shown2 = ShowsName-grows (known t1) (known t2) named m.at to2.grows shown in
    let place1 = IsPlace-kept t0 t1 block owner out l keeps place in
    let def : definition_in (seen s2).owners here ≡ defined_here l = definition-moved block t0 t2 here (Moves-kept block t0 t2 (Keeps-then t0 t1 t2 keeps to2)) there.here_there ∙ at.defined in
    let dom : option_map (place_at (seen s2)) d ≡ domain_of l (lowered m.at.word) m.at.found =
    subst (λ (w : List ℕ). option_map (place_at (seen s2)) d ≡ domain_of l (lowered w) m.at.found) (sym (word-at out l1 name))
    (domain (known t1) l m.at.found refl place1.there place1.owner_is (subst (λ (w : List ℕ). ShowsFound (known t1) (lowered w) named.sighting m.at.found) (word-at out l1 name) shown.found)) in
    subst (λ (x : Attributes). ShowsNode (known t3) r (with_kind kind.Pointer t.word x)) (pointer_rule-unsigned l n)
    (rule (known t2) t.word l m refl def shown2 d_there dom (entries (known t1) m shown (word-at out l1 name))))
