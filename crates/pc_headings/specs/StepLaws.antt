-- A group of parameters, from what its parts make: lemmas.
use Rattle.std.proofs.Common.{◌≡◌, ℕ, Bool, true, false, ◌||◌, List, [], ◌++◌, Option, refl, ap, sym, subst, ◌∙◌}
use Rattle.pc_syntax.specs.Plain.{Plain, kids_of}
use Rattle.pc_types.specs.Shapes.{Typed}
use Rattle.pc_types.specs.Table.{nobody}
use Rattle.pc_types.specs.declared.form.OwnerId.{OwnerId}
use Rattle.pc_types.specs.declared.form.TypeId.{TypeId}
use Rattle.pc_names.specs.Standing.{meant}
use Rattle.pc_names.specs.declared.name_class.NameClass.{NameClass}
use Rattle.pc_rules.specs.Attributes.{Entry, at_kid, kids_below}
use Rattle.pc_rules.specs.DeclaringNames.{repeats, all_as}
use Rattle.pc_rules.specs.Denoters.{type_of_found}
use Rattle.pc_rules.specs.HandedOn.{any_hole}
use Rattle.pc_rules.specs.Meanings.{Meaning, Found, Local, declared_as, find}
use Rattle.pc_rules.specs.Routines.{bare}
use Rattle.pc_facts.specs.Shows.{ShowsType}
use Rattle.pc_growth.specs.GrowsLaws.{get_or-begins, less-begins, ShowsType-grows}
use Rattle.pc_type_rules.specs.Denoted.{IsNumber}
use Rattle.pc_places.specs.MovesLaws.{Keeps-then}
use Rattle.pc_places.specs.Places.{known, Keeps, node_at}
use Rattle.pc_places.specs.Scenes.{SeesNames}
use Rattle.pc_places.specs.declared.tables.Tables.{Tables}
use Rattle.pc_headings.specs.declared.listed.Group.{Group}
use Rattle.pc_headings.specs.declared.listed.Listed.{Listed}
use Rattle.pc_headings.specs.declared.listed.Part.{Part}
use Rattle.pc_headings.specs.declared.listed.UsedType.{UsedType}
use Rattle.pc_headings.specs.DeclaredLaws.{declared-keeps}
use Rattle.pc_headings.specs.Groups.{ShowsUsed, AddsGroup}
use Rattle.pc_headings.specs.Headed.{AreThere}
use Rattle.pc_headings.specs.ListedLaws.{ShowsListed-grows}
use Rattle.pc_headings.specs.Listing.{named_nodes, ShowsListed, ShowsGroup, AddsNames}
use Rattle.pc_headings.specs.PlaceLaws.{sees-there}

pub or-end : (a b : Bool) → (a || b) ≡ (a || (b || false))
or-end true b = refl
or-end false true = refl
or-end false false = refl

-- what a type's name was found to be, where the tables say what names mean
abbrev pub Uses : Tables → ℕ → Plain → UsedType → Type 0
Uses t block type_name u = (means : List ℕ → Found) (l : Local) → l.using ≡ true → SeesNames (known t) t.names t.declarations.items block [] (find (bare means) l) → ShowsUsed (known t) u (node_at (bare means) l type_name)

pub group-step : (a b c : Tables) (block : ℕ) (owner : OwnerId) (class : NameClass) (before after : Listed) (names type_name : Plain) (u : UsedType) (i : Option TypeId) (found : List Entry) (hole : Bool) (p : Part) →
    AreThere a block owner.0 → Keeps a b → Uses a block type_name u → ((ty : Option Typed) → ShowsType (known a).table u.of ty → IsNumber (known b).table i ty) →
    AddsNames b c (record { class = class; owner = owner; of = u.of; number = i }) before after (kids_of names) found → hole ≡ any_hole (named_nodes (kids_of names)) → p.hole ≡ (hole || u.hole) →
    p.entries.items ≡ at_kid 1 found ++ at_kid 2 u.entries.items → AddsGroup a c block owner.0 class before after names type_name p
group-step a b c block owner class before after names type_name u i found hole p there keeps uses numbered row holes p_hole p_entries = record {
  keeps = Keeps-then a b c keeps row.keeps;
  shows = λ means o es l lt x around owner_is passed place using are listed.
      let ka = known a in
      let kb = known b in
      let n = node_at (bare means) lt type_name in
      let used = uses means lt using (sees-there ka a.names a.declarations.items block means o lt around.sees place) in
      let m : Meaning = record (declared_as (meant class) l.owner) { type = type_of_found n.at.found } in
      let g : Group = record { class = class; owner = owner; of = u.of; number = i } in
      let group : ShowsGroup kb g m = record {
        class = refl;
        owner = get_or-begins ka.table.owners kb.table.owners owner.0 nobody keeps.grows.owners there.owner_there ∙ around.owner_is ∙ sym owner_is;
        owner_there = less-begins ka.table.owners kb.table.owners owner.0 keeps.grows.owners there.owner_there;
        value = refl;
        type = ShowsType-grows ka.table kb.table u.of m.type keeps.grows.shapes keeps.grows.owners used.type;
        number = numbered m.type used.type;
        signature = refl;
      } in
      let told = row.shows es m (ShowsListed-grows ka kb a.declarations.items b.declarations.items before es keeps.grows keeps.declarations listed) group in (
        record {
          hole = p_hole ∙ ap (λ (h : Bool). h || u.hole) (holes ∙ sym are.hole) ∙ ap (λ (h : Bool). x.at.hole || h) used.hole ∙ or-end x.at.hole n.at.hole;
          entries = p_entries
              ∙ ap (λ (es : List Entry). at_kid 1 es ++ at_kid 2 u.entries.items) (told.0 ∙ ap (λ (ns : List (List ℕ)). repeats ns 1 (named_nodes (kids_of names))) (sym passed) ∙ sym (are.repeated l.passed))
              ∙ ap (λ (es : List Entry). at_kid 1 (repeats l.passed 1 (kids_below x)) ++ at_kid 2 es) used.entries;
        },
        subst (λ (ns : List (List ℕ)). ShowsListed (known c) c.declarations.items after (es ++ all_as m ns)) (sym are.names) told.1,
      );
  declared = λ is listed. row.declared is (declared-keeps a b before.parameters.items keeps listed);
}
