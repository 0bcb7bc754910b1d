-- At a routine of a program: its parameters, and the function that it is, lemmas.
use Rattle.std.proofs.Common.{◌≡◌, ◌<◌, ℕ, Bool, true, false, ◌&&◌, if◌then◌else◌, List, [], length, get_or, Option, Some, None, refl, ap, sym, ◌∙◌, subst, true≢false}
use Rattle.std.specs.Option.{is_some, option_map, option_map_or}
use Rattle.pc_types.specs.Shapes.{Owner}
use Rattle.pc_types.specs.Table.{nobody}
use Rattle.pc_types.specs.declared.form.OwnerId.{OwnerId}
use Rattle.pc_names.specs.TableLaws.{slice_get-number_of}
use Rattle.pc_names.specs.declared.id.NameId.{NameId}
use Rattle.pc_scope.specs.Headings.{is_function_kind}
use Rattle.pc_rules.specs.Declarations.{heading_here}
use Rattle.pc_rules.specs.Meanings.{Meaning}
use Rattle.pc_rules.specs.RoutineList.{Forwarded, forwarded_for, key_of}
use Rattle.pc_rules.specs.Routines.{Routine, firsts, heading_marks, params_in, parameters_of, self_of}
use Rattle.pc_access_rules.specs.Selves.{ShowsSelf}
use Rattle.pc_facts.specs.Known.{Known}
use Rattle.pc_facts.specs.declared.sighting.Variable.{Variable}
use Rattle.pc_growth.specs.GrowsLaws.{get_or-begins, less-begins}
use Rattle.pc_places.specs.Parameters.{ShowsParameters, AreNamed, HaveNames}
use Rattle.pc_places.specs.ParametersLaws.{ShowsParameters-grows, AreNamed-shown, HaveNames-grows}
use Rattle.pc_places.specs.Places.{known}
use Rattle.pc_places.specs.declared.parameter.Parameter.{Parameter}
use Rattle.pc_places.specs.declared.tables.Tables.{Tables}
use Rattle.pc_routines.specs.Heads.{ShowsHeadName, found_at}
use Rattle.pc_routines.specs.HeadsLaws.{number-shown, ShowsHead-grows}
use Rattle.pc_routines.specs.Waits.{ShowsForwarded, waiting_at}
use Rattle.pc_routines.specs.declared.forward.Forward.{Forward}
use Rattle.pc_routine_sites.specs.AroundLaws.{visit-around, visit-marks, visit-kind, visit-late}
use Rattle.pc_routine_sites.specs.Identities.{own_function, waiting_parameters}
use Rattle.pc_routine_sites.specs.IdentityLaws.{key-named, key_of-owner}
use Rattle.pc_routine_sites.specs.SiteLaws.{visit-key, visit-forward, visit-owner, visit-visits}
use Rattle.pc_routine_sites.specs.Steps.{Visit}

-- ---- its parameters

shown-waiting : (t : Tables) (o : Option Forward) (q : Option Forwarded) → ShowsForwarded t o q →
    ShowsParameters (known t) t.declarations.items (waiting_parameters o) (option_map_or (λ (f : Forwarded). f.parameters) q [])
shown-waiting t None None e = tt
shown-waiting t (Some f) (Some g) e = e.parameters
shown-waiting t None (Some g) e = absurd e
shown-waiting t (Some f) None e = absurd e

named-waiting : (t : Tables) (o : Option Forward) (q : Option Forwarded) → ShowsForwarded t o q → HaveNames t.declarations.items (waiting_parameters o)
named-waiting t None None e = tt
named-waiting t (Some f) (Some g) e = e.have_names
named-waiting t None (Some g) e = absurd e
named-waiting t (Some f) None e = absurd e

either : {X Y : Type 0} (P : X → Y → Type 0) (b : Bool) (p q : X) (e g : Y) → (b ≡ true → P p e) → (b ≡ false → P q g) → P (if b then p else q) (if b then e else g)
either {X} {Y} P true p q e g h k = h refl
either {X} {Y} P false p q e g h k = k refl

either-one : {X : Type 0} (P : X → Type 0) (b : Bool) (p q : X) → P p → P q → P (if b then p else q)
either-one {X} P true p q h k = h
either-one {X} P false p q h k = k

module _ (c : Visit) where
  abbrev waiting : List Parameter
  waiting = waiting_parameters (found_at (waiting_at c.w) c.x.name c.x.is_function)

  abbrev old_known : Known
  old_known = known c.old

  abbrev headed_known : Known
  headed_known = known c.went.declares.headed

  abbrev own : List (List ℕ × Meaning)
  own = firsts [] (params_in (heading_marks c.r)).defines

  abbrev Shown : List Parameter → List (List ℕ × Meaning) → Type 0
  Shown ps es = ShowsParameters (known c.new) c.new.declarations.items ps es

  from-forward : Shown waiting c.r.given
  from-forward =
      subst (Shown waiting) (sym (ap (λ (q : Routine). q.given) c.next.is))
      (ShowsParameters-grows old_known (known c.new) c.old.declarations.items c.new.declarations.items waiting
      (option_map_or (λ (f : Forwarded). f.parameters) (forwarded_for (heading_here c.l) c.fs) []) (visit-visits c).grows (visit-visits c).declarations
      (shown-waiting c.old (found_at (waiting_at c.w) c.x.name c.x.is_function) (forwarded_for (heading_here c.l) c.fs) (visit-forward c)))

  from-heading : c.went.facts.later ≡ false → Shown c.went.head.parameters.items own
  from-heading late =
      ShowsParameters-grows headed_known (known c.new) c.went.declares.headed.declarations.items c.new.declarations.items c.went.head.parameters.items own c.went.declares.told.grows
      c.went.declares.told.declarations
      (subst (λ m. ShowsParameters headed_known c.went.declares.headed.declarations.items c.went.head.parameters.items (firsts [] (params_in m).defines)) (visit-marks c)
      (c.went.declares.heads.parameters c.r.means c.r.owner late (visit-around c)))

  pub visit-parameters : ShowsParameters (known c.new) c.new.declarations.items c.f.site.parameters.items (parameters_of c.r)
  visit-parameters =
      subst (λ (ps : List Parameter). Shown ps (parameters_of c.r)) (sym c.went.parameters)
      (subst (λ (b : Bool). Shown (if c.went.facts.later then waiting else c.went.head.parameters.items) (if b then c.r.given else own)) (visit-late c)
      (either Shown c.went.facts.later waiting c.went.head.parameters.items c.r.given own (λ e. from-forward) from-heading))

  pub visit-named : AreNamed (length c.new.names.texts) c.f.site.parameters.items
  visit-named = AreNamed-shown (known c.new) c.new.declarations.items c.f.site.parameters.items (parameters_of c.r) visit-parameters

  pub visit-have_names : HaveNames c.new.declarations.items c.f.site.parameters.items
  visit-have_names =
      subst (HaveNames c.new.declarations.items) (sym c.went.parameters)
      (either-one (HaveNames c.new.declarations.items) c.went.facts.later waiting c.went.head.parameters.items
      (HaveNames-grows c.old.declarations.items c.new.declarations.items waiting (visit-visits c).declarations
      (named-waiting c.old (found_at (waiting_at c.w) c.x.name c.x.is_function) (forwarded_for (heading_here c.l) c.fs) (visit-forward c)))
      (HaveNames-grows c.went.declares.headed.declarations.items c.new.declarations.items c.went.head.parameters.items c.went.declares.told.declarations c.went.declares.heads.have_names))

-- ---- the function that it is

self-by : (t : Tables) (b : Bool) (around : OwnerId) (name : Option NameId) (o : Owner) (n : List ℕ) → get_or (known t).table.owners around.0 nobody ≡ o → around.0 < length (known t).table.owners →
    ShowsHeadName t.names.texts name n → (name ≡ None → b ≡ false) → ShowsSelf (known t) (if b then option_map (λ (i : NameId). record { owner = around; name = i }) name else None) (if b then Some (o, n) else None)
self-by t false around name o n is there shows none = tt
self-by t true around None o n is there shows none = absurd (true≢false (none refl))
self-by t true around (Some i) o n is there shows none = (is, there, slice_get-number_of t.names.texts n i.0 (number-shown t.names.texts i n shows))

pub visit-self : (c : Visit) → ShowsSelf (known c.new) c.f.site.own_function (self_of c.r)
visit-self c =
    let visits = visit-visits c in
    let b = is_some c.f.site.key && is_function_kind c.node.kind in
    let key : is_some c.f.site.key ≡ c.r.has_key = ap (λ (k : Option (List (List ℕ))). is_some k) (visit-key c) ∙ sym (ap (λ (q : Routine). q.has_key) c.next.is) in
    let parent : get_or (known c.new).table.owners c.around.0 nobody ≡ c.r.parent =
    get_or-begins (known c.old).table.owners (known c.new).table.owners c.around.0 nobody visits.grows.owners c.before.place.there
    ∙ c.before.place.owner_is ∙ sym (ap (λ (q : Routine). q.parent) c.next.is) in
    let there = less-begins (known c.old).table.owners (known c.new).table.owners c.around.0 visits.grows.owners c.before.place.there in
    let named : ShowsHeadName c.new.names.texts c.x.name c.r.name =
    subst (ShowsHeadName c.new.names.texts c.x.name) (sym (ap (λ (q : Routine). q.name) c.next.is)) (ShowsHead-grows c.old.names.texts c.new.names.texts c.x (heading_here c.l) visits.grows.names c.before.head).name in
    let none : c.x.name ≡ None → b ≡ false = λ e.
    ap (λ (k : Option (List (List ℕ))). is_some k && is_function_kind c.node.kind) (c.went.key ∙ key-named c.old.names.texts c.w c.given c.x c.went.facts.later c.went.facts.first e) in
    subst (λ (v : Option Variable). ShowsSelf (known c.new) v (self_of c.r)) (sym c.went.function)
    (subst (λ (a : Bool). ShowsSelf (known c.new) (own_function c.node.kind (is_some c.f.site.key) c.around c.x.name) (if a then Some (c.r.parent, c.r.name) else None)) (λ i. key i && is_function_kind (visit-kind c i))
    (self-by c.new b c.around c.x.name c.r.parent c.r.name parent there named none))

-- ---- its key

pub visit-key_is : (c : Visit) → c.f.site.key ≡ key_of c.r.owner
visit-key_is c = sym (key_of-owner c.f.site.key c.at) ∙ ap key_of (visit-owner c)
