-- Where the denoter of some variables stands, and the rule of their declaration from what was found at its parts: laws.
use Rattle.std.specs.Prelude.{◌≡◌, ℕ, Bool, true, false, if◌then◌else◌, List, [], ◌∷◌, ◌++◌, get_or}
use Rattle.std.proofs.Common.{refl, ap, sym, ◌∙◌, subst}
use Rattle.pc_syntax.specs.Classes.{has}
use Rattle.pc_syntax.specs.Plain.{Plain, Forest, forest_of, kids_of}
use Rattle.pc_syntax.specs.PartsLaws.{forest_of-kids_of}
use Rattle.pc_syntax.specs.WellFormed.{IsProper}
use Rattle.pc_syntax.specs.declared.class.Class.TheVariants as class
use Rattle.pc_syntax.specs.declared.kind.Kind.TheVariants as kind
use Rattle.pc_types.specs.Shapes.{Owner}
use Rattle.pc_types.specs.Table.{definition_in, nobody}
use Rattle.pc_types.specs.declared.form.Definition.{Definition}
use Rattle.pc_types.specs.declared.form.OwnerId.{OwnerId}
use Rattle.pc_scope.specs.Headings.{names_of}
use Rattle.pc_names.specs.declared.id.NameId.{NameId}
use Rattle.pc_rules.specs.Attributes.{Entry, Node, at_kid, kids_below}
use Rattle.pc_rules.specs.Declarations.{declaration}
use Rattle.pc_rules.specs.DeclaringNames.{repeats}
use Rattle.pc_rules.specs.Decorated.{with_kind}
use Rattle.pc_rules.specs.Meanings.{Meaning, Local, Outside}
use Rattle.pc_rules.specs.Places.{first_of_names}
use Rattle.pc_environment.specs.Decorating.{attributes_at}
use Rattle.pc_facts.specs.Known.{Known}
use Rattle.pc_facts.specs.Shows.{ShowsNode}
use Rattle.pc_facts.specs.declared.facts.Facts.{Facts}
use Rattle.pc_places.specs.MovesLaws.{IsPlace-kept, Moves-kept, Moves-then}
use Rattle.pc_places.specs.Places.{known, IsPlace, Keeps, node_at}
use Rattle.pc_places.specs.declared.tables.Tables.{Tables}
use Rattle.pc_denoters.specs.FormsAt.{first_place, found_at}
use Rattle.pc_denoters.specs.Goings.{AtHere}
use Rattle.pc_definitions.specs.Namings.{is_nameless}
use Rattle.pc_definitions.specs.Numbered.{number_for, IsNumbered}
use Rattle.pc_definitions.specs.NumberedLaws.{second-defined}
use Rattle.pc_definitions.specs.Parts.{part_place}
use Rattle.pc_definitions.specs.VariableNames.{any_hole_at, repeats_at}
use Rattle.pc_definitions.specs.Variables.{EntersVariables}
use Rattle.pc_definitions.specs.declared.naming.Naming.{Naming}
use Rattle.pc_declaration_parts.specs.FirstNames.{FitsFirst, first-named, first-numbered}
use Rattle.pc_declaration_parts.specs.NamesLaws.{hole-at-names, entries-at-names}

-- the names were entered where each block has what it had before
pub enters-kept : (block owner : ℕ) (t0 t1 t2 : Tables) (list : Plain) (news : List NameId) → Keeps t0 t1 → EntersVariables block owner t1 t2 list news → EntersVariables block owner t0 t2 list news
enters-kept block owner t0 t1 t2 list news keeps h = record {
  place = λ out l place. h.place out l (IsPlace-kept t0 t1 block owner out l keeps place);
  first = λ out l place. h.first out l (IsPlace-kept t0 t1 block owner out l keeps place);
  moves = Moves-then block t0 t1 t2 (Moves-kept block t0 t1 keeps) h.moves;
}

-- the denoter stands where the definition says that is made of its first name
pub at-denoter : (t : Tables) (o : OwnerId) (here : Definition) (x : Naming) (kid before : ℕ) (w : List ℕ) (out : Outside) (l : Local) (names den : Plain) →
    ((owners : List Owner) → definition_in owners here ≡ record { owner = get_or owners o.0 nobody; name = (if is_nameless x then [] else w); number = number_for x kid 1 before; inside = 2 ∷ [] }) →
    (is_nameless x ≡ true → w ≡ []) → w ≡ first_of_names (names_of names.kids) → FitsFirst l w x → get_or (known t).table.owners o.0 nobody ≡ l.owner →
    IsNumbered kid before (first_of_names (names_of names.kids)) l → AtHere here false t (part_place out l kind.Vardef names den)
at-denoter t o here x kid before w out l names den def none same fits owner at =
    let n = first_of_names (names_of names.kids) in
    let owners = (known t).table.owners in
    record {
      defined =
          second-defined l 1 n (get_or owners o.0 nobody) (number_for x kid 1 before) (definition_in owners here)
          (def owners ∙ ap (λ v. record { owner = get_or owners o.0 nobody; name = v; number = number_for x kid 1 before; inside = 2 ∷ [] }) (first-named x n w none same)) owner
          (first-numbered l n x kid 1 before (subst (λ (v : List ℕ). FitsFirst l v x) same fits) at);
      as_packed = refl;
    }

-- the rule of the declaration, from what was found at its names and at its denoter
pub shows-variables : (k : Known) (hole : Bool) (own : List Entry) (p r : Facts) (out : Outside) (l : Local) (names den : Plain) (w : List ℕ) → has class.Names names.kind ≡ true → IsProper names →
    hole ≡ any_hole_at (forest_of (kids_of names)) → own ≡ repeats_at l.passed 1 (forest_of (kids_of names)) →
    ((v : List ℕ) (a b : Node) (es : List Entry) (ds : List (List ℕ × Meaning)) → a.at.hole ≡ hole → own ≡ es → ShowsNode k p b.at →
    ShowsNode k r (with_kind kind.Vardef v (declaration (a ∷ b ∷ []) (at_kid 1 es ++ at_kid 2 b.at.as_value.entries) ds))) →
    ShowsNode k p (attributes_at out (part_place out l kind.Vardef names den) den) → ShowsNode k r (found_at out l kind.Vardef w (names ∷ den ∷ []))
shows-variables k hole own p r out l names den w is proper no_hole entries rule shown =
    let l1 = first_place l kind.Vardef (names ∷ den ∷ []) in
    let l2 = part_place out l kind.Vardef names den in
    rule w (node_at out l1 names) (node_at out l2 den) (repeats l.passed 1 (kids_below (node_at out l1 names))) _ (hole-at-names out l1 names proper is ∙ sym no_hole)
    (entries ∙ ap (λ (ks : Forest). repeats_at l.passed 1 ks) (forest_of-kids_of names) ∙ sym (entries-at-names out l1 names l.passed)) shown
