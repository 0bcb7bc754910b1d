-- What is made of a variable declaration, from what is made of its names, of its denoter and of its type: laws.
use Rattle.std.specs.Prelude.{◌≡◌, ℕ, true, List, [], ◌∷◌, ◌++◌, get_or, Option, None}
use Rattle.std.proofs.Common.{refl, ap, sym, ◌∙◌, subst}
use Rattle.pc_syntax.specs.Classes.{has}
use Rattle.pc_syntax.specs.Plain.{Plain}
use Rattle.pc_syntax.specs.WellFormed.{IsProper}
use Rattle.pc_syntax.specs.declared.class.Class.TheVariants as class
use Rattle.pc_syntax.specs.declared.kind.Kind.TheVariants as kind
use Rattle.pc_types.specs.Shapes.{Typed}
use Rattle.pc_types.specs.Table.{nobody}
use Rattle.pc_types.specs.declared.form.OwnerId.{OwnerId}
use Rattle.pc_types.specs.declared.operand.Operand.{Operand}
use Rattle.pc_forms.specs.declared.form.Form.TheVariants as form
use Rattle.pc_scope.specs.Headings.{names_of}
use Rattle.pc_names.specs.declared.id.NameId.{NameId}
use Rattle.pc_rules.specs.Attributes.{Attributes}
use Rattle.pc_rules.specs.Declarations.{completed}
use Rattle.pc_rules.specs.DeclaringNames.{all_as}
use Rattle.pc_rules.specs.Meanings.{Meaning, Local, Outside, define_all}
use Rattle.pc_rules.specs.Places.{inner}
use Rattle.pc_environment.specs.Decorating.{attributes_at, place_behind}
use Rattle.pc_facts.specs.Shows.{ShowsNode, ShowsType, value_of}
use Rattle.pc_facts.specs.declared.facts.Facts.{Facts}
use Rattle.pc_growth.specs.GrowsLaws.{Grows-then, ShowsNode-grows}
use Rattle.pc_pointers.specs.Good.{Targets}
use Rattle.pc_closed.specs.Carried.{IsCarriedType}
use Rattle.pc_carrying.specs.Parts.{is_variable}
use Rattle.pc_targets.specs.Blocks.{HidingLaw}
use Rattle.pc_places.specs.ChangesLaws.{Changes-moved, Changes-then}
use Rattle.pc_places.specs.PlacesLaws.{IsPlace-alike}
use Rattle.pc_places.specs.Places.{known, IsPlace, Changes, Makes}
use Rattle.pc_places.specs.declared.tables.Tables.{Tables}
use Rattle.pc_denoters.specs.Cores.{core, IsPlace-core, core-defined, fields-defined}
use Rattle.pc_denoters.specs.FormsAt.{first_place, found_at, at-form, kind-form}
use Rattle.pc_denoters.specs.Goings.{ShowsFacts}
use Rattle.pc_denoters.specs.Kinds as denoting
use Rattle.pc_denoters.specs.Kinds.{class-denoting}
use Rattle.pc_denoters.specs.Quiet.{class-quiet, quiet-behind}
use Rattle.pc_definitions.specs.DefineLaws.{new_names, telling_all}
use Rattle.pc_definitions.specs.DefiningKinds.{is_defining, core-behind}
use Rattle.pc_definitions.specs.DefinitionMakes.{quiet-core, proper-kids}
use Rattle.pc_definitions.specs.NamingLaws.{owner-defined}
use Rattle.pc_definitions.specs.Parts.{part_place}
use Rattle.pc_definitions.specs.ToldLaws.{told-again}
use Rattle.pc_definitions.specs.VariableMakes.{names-found, names-grow, telling-fields, telling-owner}
use Rattle.pc_definitions.specs.Variables.{untyped, variable_meaning, AreNames, EntersVariables, TellsVariables}
use Rattle.pc_domains.specs.Told.{Told, IsTold, IsAllTold}
use Rattle.pc_declaration_parts.specs.CarriedLaws.{carried-denoter, carried-behind}
use Rattle.pc_declaration_parts.specs.Turning.{StandsTold, Turns, TurnsForm}

-- the type behind a denoter was completed, and only types of domains have changed
pub record Completes (block : ℕ) (d e : Told) (of ty : Option Operand) (old new : Tables) : Type 0 where
  pub changes : Changes block old new
  pub names : new.names.texts ≡ old.names.texts
  pub place : (owner : ℕ) (out : Outside) (l : Local) → IsPlace old block owner out l → IsPlace new block owner out l
  pub type : (targets : Targets) (t : Option Typed) → targets nobody [] ≡ None → IsTold targets d (known old) → ShowsType (known old).table of t → IsCarriedType targets [] t →
      ShowsType (known new).table ty (completed t) × IsAllTold targets e (known new)

-- a variable declaration
pub turns-variables : HidingLaw → (At AtPart : Tables → Local → Type 0) (d e : Told) (t0 t1 t2 t3 t4 : Tables) (block : ℕ) (o : OwnerId) (names den : Plain) (news : List NameId) (of ty : Option Operand) (p r : Facts) →
    has class.Names names.kind ≡ true → has class.Denoter den.kind ≡ true → EntersVariables block o.0 t0 t1 names news → Makes ShowsFacts AtPart block o.0 t1 t2 den p → of ≡ (value_of p.judgement).of →
    Completes block d e of ty t2 t3 → TellsVariables block o ty news t3 t4 →
    ((targets : Targets) → IsTold targets d (known t0) → IsTold targets d (known t2)) → ((targets : Targets) → IsTold targets e (known t3) → IsTold targets e (known t4)) →
    ((out : Outside) (l : Local) → IsPlace t0 block o.0 out l → get_or (known t1).table.owners o.0 nobody ≡ l.owner → At t0 l → AtPart t1 (part_place out l kind.Vardef names den)) →
    ((out : Outside) (l : Local) (w : List ℕ) → IsProper names → IsPlace t0 block o.0 out l → ShowsNode (known t4) p (attributes_at out (part_place out l kind.Vardef names den) den) →
    ShowsNode (known t4) r (found_at out l kind.Vardef w (names ∷ den ∷ []))) → TurnsForm At block o.0 d e t0 t4 (form.Vardef names den) r
turns-variables law At AtPart d e t0 t1 t2 t3 t4 block o names den news of ty p r isnames isden enters made is completes tells told_there told_on at_part rule_of = λ t proper eq.
    let ks = names ∷ den ∷ [] in
    let ns = names_of names.kids in
    let kids = proper-kids t (form.Vardef names den) ks proper eq refl in
    let isvar : t.kind ≡ kind.Vardef = kind-form t (form.Vardef names den) eq in
    let quiet = class-quiet class.Names names.kind refl isnames in
    let at = λ (out : Outside) (l : Local). at-form out l t (form.Vardef names den) proper eq in
    let core1 = λ (l : Local). let same : core (first_place l kind.Vardef ks) ≡ core (define_all l (all_as (untyped l) ns)) = refl in same in
    let place2 = λ (out : Outside) (l : Local) (place : IsPlace t0 block o.0 out l).
    quiet-behind t1 block o.0 out (first_place l kind.Vardef ks) names quiet
    (IsPlace-core t1 block o.0 out (define_all l (all_as (untyped l) ns)) (first_place l kind.Vardef ks) (sym (core1 l)) (enters.place out l place)) in
    let here = λ (out : Outside) (l : Local) (place : IsPlace t0 block o.0 out l) (at_l : At t0 l).
    at_part out l place ((enters.place out l place).owner_is ∙ owner-defined l (all_as (untyped l) ns)) at_l in
    let shown = λ (out : Outside) (l : Local) (place : IsPlace t0 block o.0 out l) (at_l : At t0 l). made.shows out (part_place out l kind.Vardef names den) (place2 out l place) (here out l place at_l) in
    let last = λ (targets : Targets) (out : Outside) (l : Local) (s : StandsTold targets d t0 block o.0 out l) (at_l : At t0 l).
    let l2 = part_place out l kind.Vardef names den in
    completes.type targets (attributes_at out l2 den).as_value.type s.none (told_there targets s.told)
    (subst (λ (x : Option Operand). ShowsType (known t2).table x (attributes_at out l2 den).as_value.type) (sym is) (shown out l s.place at_l).value.type)
    (carried-denoter law targets out l names den isnames isden kids.0.sound kids.1.0.sound s.carried) in
    record {
      changes =
          Changes-then block t0 t3 t4 (Changes-then block t0 t2 t3 (Changes-then block t0 t1 t2 (Changes-moved block t0 t1 enters.moves) (Changes-moved block t1 t2 made.moves)) completes.changes)
          (Changes-moved block t3 t4 tells.moves);
      shows = λ targets out l s at_l.
          let l2 = part_place out l kind.Vardef names den in
          subst (ShowsNode (known t4) r) (sym (at out l))
          (rule_of out l t.word kids.0 s.place
          (ShowsNode-grows (known t2) (known t4) p (attributes_at out l2 den) (Grows-then (known t2) (known t3) (known t4) completes.changes.grows tells.moves.grows) (shown out l s.place at_l)));
      behind = λ targets out l s at_l. record {
        place =
            let l1 = first_place l kind.Vardef ks in
            let l2 = part_place out l kind.Vardef names den in
            let first = define_all l (all_as (untyped l) ns) in
            let ds = (attributes_at out l2 den).defines in
            let m = variable_meaning l (completed (attributes_at out l2 den).as_value.type) in
            let news_l = new_names l (untyped l) ns in
            let core3 : core (place_behind out l2 den) ≡ core (define_all first ds) =
            denoting.core-behind out l2 den (class-denoting class.Denoter den.kind refl isden) ∙ core-defined l2 first ds (quiet-core out l1 names quiet ∙ core1 l) in
            let place3 : IsPlace t3 block o.0 out (define_all first ds) =
            completes.place o.0 out (define_all first ds)
            (IsPlace-core t2 block o.0 out (place_behind out l2 den) (define_all first ds) core3 (made.behind out l2 (place2 out l s.place) (here out l s.place at_l))) in
            let owned = owner-defined first ds ∙ owner-defined l (all_as (untyped l) ns) in
            let named = subst (λ (xs : List (List ℕ)). AreNames xs news news_l) (sym completes.names) (names-grow t1.names.texts t2.names.texts news news_l made.moves.grows.names (enters.first out l s.place)) in
            let told = tells.place o.0 out (define_all first ds) news_l m named
            (record { class = refl; owner = place3.owner_is ∙ owned; owner_there = place3.there; value = tt; type = (last targets out l s at_l).0; bare = refl }) place3 in
            let alike = told-again l (untyped l) m ns ds in
            let all = all_as m ns ++ ds in
            let whole : IsPlace t4 block o.0 out (define_all l all) =
            IsPlace-alike t4 block o.0 out (telling_all (define_all first ds) news_l m) (define_all l all)
            (fields-defined l all ∙ sym (telling-fields (define_all first ds) news_l m ∙ fields-defined first ds ∙ fields-defined l (all_as (untyped l) ns)))
            (owner-defined l all ∙ sym (telling-owner (define_all first ds) news_l m ∙ owned)) alike.names alike.passed alike.known told in
            let defines : (attributes_at out l t).defines ≡ all =
            ap (λ (a : Attributes). a.defines) (at out l) ∙ ap (λ (xs : List (List ℕ)). all_as m xs ++ ds) (names-found out (inner l1 names.kind names.kids) names.kids) in
            IsPlace-core t4 block o.0 out (define_all l all) (place_behind out l t)
            (ap (λ (xs : List (List ℕ × Meaning)). core (define_all l xs)) (sym defines) ∙ sym (core-behind out l t (ap is_defining isvar))) whole;
        carried = carried-behind law targets out l t (ap is_variable isvar) proper.sound s.carried;
        told = told_on targets (last targets out l s at_l).1.told;
        none = s.none;
      };
    }
