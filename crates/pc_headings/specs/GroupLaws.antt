-- A group of parameters where it stands in a heading: lemmas.
use Rattle.std.proofs.Common.{◌≡◌, ℕ, true, List, [], ◌∷◌, ◌++◌, refl, ap, sym, subst, ◌∙◌, append-nil}
use Rattle.pc_syntax.specs.Classes.{has, is_parameter}
use Rattle.pc_syntax.specs.Plain.{Plain, forest_of}
use Rattle.pc_syntax.specs.WellFormed.{IsProper}
use Rattle.pc_syntax.specs.declared.class.Class.TheVariants as class
use Rattle.pc_syntax.specs.declared.kind.Kind.{Kind}
use Rattle.pc_syntax.specs.declared.kind.Kind.TheVariants as kind
use Rattle.pc_syntax.specs.declared.sort.Sort.{Sort}
use Rattle.pc_names.specs.declared.name_class.NameClass.TheVariants as named
use Rattle.pc_forms.specs.Form.{PlainForm, form_of}
use Rattle.pc_forms.specs.FormClasses.{Every}
use Rattle.pc_forms.specs.FormKids.{kids_in}
use Rattle.pc_forms.specs.FormLaws.{proper-kids_of}
use Rattle.pc_forms.specs.declared.form.Form.TheVariants as form
use Rattle.pc_rules.specs.Attributes.{Attributes}
use Rattle.pc_rules.specs.Decorated.{seen, rule, with_kind}
use Rattle.pc_rules.specs.Meanings.{Meaning, Local, Outside}
use Rattle.pc_rules.specs.Routines.{bare}
use Rattle.pc_environment.specs.Decorating.{attributes_at, below_at, place_behind}
use Rattle.pc_environment.specs.DecoratingLaws.{at-node}
use Rattle.pc_places.specs.MovesLaws.{Keeps-same}
use Rattle.pc_places.specs.Places.{known, node_at}
use Rattle.pc_places.specs.declared.tables.Tables.{Tables}
use Rattle.pc_headings.specs.declared.listed.Listed.{Listed}
use Rattle.pc_headings.specs.declared.listed.Part.{Part}
use Rattle.pc_headings.specs.AtLaws.{first_place, at-form, kids-form, classes-form, names-kind, are-names}
use Rattle.pc_headings.specs.Groups.{AddsGroup, AddsNode}
use Rattle.pc_headings.specs.Listing.{ShowsListed, ShowsPart}
use Rattle.pc_headings.specs.PlaceLaws.{place-valparam, place-varparam, place-names}

-- ---- the parts of a group

-- what the parts of a group are
pub record AreParts (t names type_name : Plain) : Type 0 where
  pub names_proper : IsProper names
  pub names_are : has class.Names names.kind ≡ true
  pub type_is : has class.Name type_name.kind ≡ true

parts-of : (t names type_name : Plain) (f : PlainForm) → IsProper t → f ≡ form_of t → kids_in f ≡ names ∷ type_name ∷ [] → has class.Names names.kind ≡ true → has class.Name type_name.kind ≡ true → AreParts t names type_name
parts-of t names type_name f proper e kids is type = record {
  names_proper = (subst (λ (ks : List Plain). Every IsProper ks) (kids-form t f proper e ∙ kids) (proper-kids_of t proper)).0;
  names_are = is;
  type_is = type;
}

pub value-parts : (t names type_name : Plain) → IsProper t → form.Valparam names type_name ≡ form_of t → AreParts t names type_name
value-parts t names type_name proper e =
    let classes = classes-form t (form.Valparam names type_name) proper e in parts-of t names type_name (form.Valparam names type_name) proper e refl classes.0 classes.1.0

pub reference-parts : (t names type_name : Plain) → IsProper t → form.Varparam names type_name ≡ form_of t → AreParts t names type_name
reference-parts t names type_name proper e =
    let classes = classes-form t (form.Varparam names type_name) proper e in parts-of t names type_name (form.Varparam names type_name) proper e refl classes.0 classes.1.0

-- ---- a group that was gone through

part-at : (p : Part) (k : Kind) (w : List ℕ) (a : Attributes) → ShowsPart p a → ShowsPart p (with_kind k w a)
part-at p k w a h = record { hole = h.hole; entries = h.entries }

pub node-value : (old new : Tables) (block owner : ℕ) (before after : Listed) (t names type_name : Plain) (p : Part) → IsProper t → form.Valparam names type_name ≡ form_of t →
    AddsGroup old new block owner named.Value before after names type_name p → AddsNode old new block owner before after t p
node-value old new block owner before after t names type_name p proper e g = record {
  keeps = g.keeps;
  shows = λ means o es l around place passed listed.
      let out = bare means in
      let parts = value-parts t names type_name proper e in
      let li = first_place l kind.Valparam (names ∷ type_name ∷ []) in
      let lt = place_behind out li names in
      let behind = place-names out o li names (names-kind names.kind parts.names_are) (place-valparam o l (forest_of (names ∷ type_name ∷ [])) place) in
      let told = g.shows means o es l lt (node_at out li names) around place.owner_is passed behind refl (are-names out li names parts.names_proper parts.names_are) listed in
      subst (λ (a : Attributes). ShowsPart p a × ShowsListed (known new) new.declarations.items after (es ++ a.defines)) (sym (at-form out l t (form.Valparam names type_name) proper e))
      (part-at p kind.Valparam t.word _ told.0, told.1);
  declared = g.declared refl;
}

pub node-reference : (old new : Tables) (block owner : ℕ) (before after : Listed) (t names type_name : Plain) (p : Part) → IsProper t → form.Varparam names type_name ≡ form_of t →
    AddsGroup old new block owner named.Reference before after names type_name p → AddsNode old new block owner before after t p
node-reference old new block owner before after t names type_name p proper e g = record {
  keeps = g.keeps;
  shows = λ means o es l around place passed listed.
      let out = bare means in
      let parts = reference-parts t names type_name proper e in
      let li = first_place l kind.Varparam (names ∷ type_name ∷ []) in
      let lt = place_behind out li names in
      let behind = place-names out o li names (names-kind names.kind parts.names_are) (place-varparam o l (forest_of (names ∷ type_name ∷ [])) place) in
      let told = g.shows means o es l lt (node_at out li names) around place.owner_is passed behind refl (are-names out li names parts.names_proper parts.names_are) listed in
      subst (λ (a : Attributes). ShowsPart p a × ShowsListed (known new) new.declarations.items after (es ++ a.defines)) (sym (at-form out l t (form.Varparam names type_name) proper e))
      (part-at p kind.Varparam t.word _ told.0, told.1);
  declared = g.declared refl;
}

-- ---- a hole

-- what is no group is one
pub group-hole : (k : Kind) → is_parameter k ≡ true → (k ≡ kind.Valparam → ⊥) → (k ≡ kind.Varparam → ⊥) → (s : Sort) × (k ≡ kind.Hole s)
group-hole kind.Valparam is value reference = absurd (value refl)
group-hole kind.Varparam is value reference = absurd (reference refl)
group-hole (kind.Hole s) is value reference = (s, refl)
group-hole k is value reference = cc

hole-hole : (out : Outside) (l : Local) (t : Plain) (s : Sort) → t.kind ≡ kind.Hole s → (attributes_at out l t).hole ≡ true
unfolding rule
hole-hole out l t s e = ap (λ (a : Attributes). a.hole) (at-node out l t) ∙ (λ i. (rule l (e i) t.word (seen out l (e i) t.word) (below_at out l t)).hole)

hole-entries : (out : Outside) (l : Local) (t : Plain) (s : Sort) → t.kind ≡ kind.Hole s → (attributes_at out l t).as_value.entries ≡ []
unfolding rule
hole-entries out l t s e = ap (λ (a : Attributes). a.as_value.entries) (at-node out l t) ∙ (λ i. (rule l (e i) t.word (seen out l (e i) t.word) (below_at out l t)).as_value.entries)

pub hole-defines : (out : Outside) (l : Local) (t : Plain) (s : Sort) → t.kind ≡ kind.Hole s → (attributes_at out l t).defines ≡ []
unfolding rule
hole-defines out l t s e = ap (λ (a : Attributes). a.defines) (at-node out l t) ∙ (λ i. (rule l (e i) t.word (seen out l (e i) t.word) (below_at out l t)).defines)

pub node-hole : (t : Tables) (block owner : ℕ) (listed : Listed) (n : Plain) (s : Sort) (p : Part) → n.kind ≡ kind.Hole s → p.hole ≡ true → p.entries.items ≡ [] → AddsNode t t block owner listed listed n p
node-hole t block owner listed n s p e hole none = record {
  keeps = Keeps-same t;
  shows = λ means o es l around place passed shown. (
    record { hole = hole ∙ sym (hole-hole (bare means) l n s e); entries = none ∙ sym (hole-entries (bare means) l n s e) },
    subst (λ (qs : List (List ℕ × Meaning)). ShowsListed (known t) t.declarations.items listed qs)
        (sym (append-nil es) ∙ ap (λ (ds : List (List ℕ × Meaning)). es ++ ds) (sym (hole-defines (bare means) l n s e))) shown,
  );
  declared = λ before. before;
}
