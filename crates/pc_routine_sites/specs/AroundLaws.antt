-- At a routine of a program: what names mean around its heading, and what is found there, lemmas.
use Rattle.std.proofs.Common.{◌≡◌, ℕ, Bool, true, false, not, ◌&&◌, ◌==◌, List, [], ◌∷◌, length, get_or, inl, Option, Some, None, refl, ap, sym, ◌∙◌, subst}
use Rattle.std.proofs.lemmas.Bool.{and_parts}
use Rattle.pc_syntax.specs.Words.{is_among}
use Rattle.pc_types.specs.Shapes.{Owner}
use Rattle.pc_types.specs.Table.{nobody}
use Rattle.pc_names.specs.Bindings.{slot_in}
use Rattle.pc_names.specs.declared.id.NameId.{NameId}
use Rattle.pc_rules.specs.Declarations.{heading_here, is_later_declaration}
use Rattle.pc_rules.specs.Headings.{entries_of_heading, heading_entries}
use Rattle.pc_rules.specs.Meanings.{Found, Local, Outside, find}
use Rattle.pc_rules.specs.Outsides.{signature_named}
use Rattle.pc_rules.specs.RoutineList.{routines_of}
use Rattle.pc_rules.specs.Routines.{Routine, bare, heading_marks}
use Rattle.pc_needs.specs.Unaffected.{IsOneOf}
use Rattle.pc_needs.proofs.PlaceLemmas.{one-back}
use Rattle.pc_program_laws.proofs.SignatureLemmas.{signatures-law}
use Rattle.pc_facts.specs.Shows.{ShowsSignatures}
use Rattle.pc_growth.specs.GrowsLaws.{get_or-begins, ShowsSignatures-grows}
use Rattle.pc_places.specs.Places.{known, IsPlace}
use Rattle.pc_places.specs.PlacesLaws.{names-at}
use Rattle.pc_places.specs.ReboundLaws.{is_passed-at}
use Rattle.pc_places.specs.Scenes.{SeesNames}
use Rattle.pc_places.specs.declared.tables.Tables.{Tables}
use Rattle.pc_headings.specs.Headed.{IsAround, marks_in, signature_of}
use Rattle.pc_headings.specs.HeadLaws.{heading_marks-is, signature_in-is}
use Rattle.pc_routines.specs.Heads.{ShowsHeadName}
use Rattle.pc_routines.specs.HeadsLaws.{number-shown}
use Rattle.pc_routines.specs.PairsLaws.{some-letter}
use Rattle.pc_routine_sites.specs.BehindLaws.{behind-is, IsPlace-next}
use Rattle.pc_routine_sites.specs.Declaring.{is_free}
use Rattle.pc_routine_sites.specs.DeclaredLaws.{declared-place}
use Rattle.pc_routine_sites.specs.IdentityLaws.{is_first_here}
use Rattle.pc_routine_sites.specs.SiteLaws.{visit-later, visit-number, visit-head, visit-place, visit-visits}
use Rattle.pc_routine_sites.specs.Sites.{behind_routine}
use Rattle.pc_routine_sites.specs.Steps.{Visit}

-- ---- the place behind it

pub visit-behind : (c : Visit) → IsPlace c.new c.block c.around.0 (bare c.outer.means) (behind_routine c.outer c.l c.node)
visit-behind c =
    subst (λ (m : Local). IsPlace c.new c.block c.around.0 (bare c.outer.means) m) (sym (behind-is c.outer c.l c.node c.routine))
    (declared-place c.block c.around c.f.site.owner c.x c.went.facts.later c.node c.went.head c.went.owned c.new c.went.declares (heading_here c.l).name (visit-head c).name (bare c.outer.means) c.l c.routine
    c.went.proper c.next.heading (visit-head c) (visit-later c) (visit-place c))

-- what names mean there
pub visit-means : (c : Visit) → c.r.means ≡ find (bare c.outer.means) (behind_routine c.outer c.l c.node)
visit-means c = ap (λ (q : Routine). q.means) c.next.is

-- ---- around its heading

declared-behind : (c : Visit) → IsPlace c.went.declares.declared c.block c.around.0 (bare c.outer.means) (behind_routine c.outer c.l c.node)
declared-behind c =
    let out = bare c.outer.means in
    subst (λ (m : Local). IsPlace c.went.declares.declared c.block c.around.0 out m) (sym (behind-is c.outer c.l c.node c.routine))
    (IsPlace-next c.went.declares.declared c.block c.around.0 out c.l c.node c.routine (c.went.declares.place out c.l c.went.proper c.next.heading (visit-head c) (visit-later c) (visit-place c)))

pub visit-around : (c : Visit) → IsAround c.went.declares.declared c.block c.f.site.owner.0 c.r.means c.r.owner
visit-around c =
    let t = c.went.declares.declared in
    record {
      sees = subst (λ (m : List ℕ → Found). SeesNames (known t) t.names t.declarations.items c.block [] m) (sym (visit-means c))
          (names-at t c.block c.around.0 (bare c.outer.means) (behind_routine c.outer c.l c.node) (declared-behind c));
      owner_is = ap (λ (os : List Owner). get_or os c.f.site.owner.0 nobody) c.went.declares.moves.owners ∙ visit-number c;
    }

pub visit-marks : (c : Visit) → marks_in c.r.means c.r.owner c.node ≡ heading_marks c.r
visit-marks c = sym (heading_marks-is c.r c.node (ap (λ (q : Routine). q.heading) c.next.is))

pub visit-kind : (c : Visit) → c.node.kind ≡ c.r.kind
visit-kind c = sym (ap (λ (q : Routine). q.kind) c.next.is)

pub visit-late : (c : Visit) → c.went.facts.later ≡ c.r.is_later
visit-late c = visit-later c ∙ sym (ap (λ (q : Routine). q.is_later) c.next.is)

-- its entries
pub visit-entries : (c : Visit) → c.f.heading.items ≡ heading_entries c.r
visit-entries c = c.went.heading ∙ c.went.declares.heads.entries c.r.means c.r.owner (visit-around c) ∙ (λ i. entries_of_heading (visit-kind c i) (visit-late c i) (visit-marks c i))

-- ---- its parameters and its result, by its name

one-here : (c : Visit) → IsOneOf (routines_of c.t) c.r
one-here c = subst (λ (rs : List Routine). IsOneOf rs c.r) (sym c.next.order) (one-back c.done (c.r ∷ c.beyond) c.r (inl refl))

some-name : (names : List (List ℕ)) (i : NameId) (n : List ℕ) → ShowsHeadName names (Some i) n → (length n == 0) ≡ false
some-name names i [] e = absurd e
some-name names i (c ∷ cs) e = some-letter c cs

unpassed : (b : Bool) → not b ≡ true → b ≡ false
unpassed true e = cc
unpassed false e = refl

-- a fresh routine is the first of its name
free-first : (t : Tables) (block owner : ℕ) (out : Outside) (l : Local) (name : Option NameId) → ShowsHeadName t.names.texts name (heading_here l).name → IsPlace t block owner out l →
    is_later_declaration l ≡ false → is_free t.names block name ≡ true → is_first_here l ≡ true
free-first t block owner out l None shows at late free = cc
free-first t block owner out l (Some i) shows at late free =
    let n = (heading_here l).name in
    let slot = slot_in t.names.slots block i.0 in
    let passed : is_among l.passed n ≡ false =
    sym (is_passed-at t block i.0 owner out l n (number-shown t.names.texts i n shows) at) ∙ unpassed slot.passed (and_parts (not slot.passed) _ free).0 in
    λ k. not (late k) && not (some-name t.names.texts i n shows k) && not (passed k)

module _ (c : Visit) (fresh : (not c.went.facts.later && is_free c.went.owned.names c.block c.x.name) ≡ true) where
  no-later : c.went.facts.later ≡ false
  no-later = unpassed c.went.facts.later (and_parts (not c.went.facts.later) _ fresh).0

  first-here : c.r.is_first ≡ true
  first-here =
      ap (λ (q : Routine). q.is_first) c.next.is
      ∙ free-first c.went.owned c.block c.around.0 (bare c.outer.means) c.l c.x.name (visit-head c).name (visit-place c) (sym (visit-later c) ∙ no-later) (and_parts (not c.went.facts.later) _ fresh).1

  parent-here : get_or (known c.new).table.owners c.around.0 nobody ≡ c.r.parent
  parent-here =
      get_or-begins (known c.old).table.owners (known c.new).table.owners c.around.0 nobody (visit-visits c).grows.owners c.before.place.there
      ∙ c.before.place.owner_is ∙ sym (ap (λ (q : Routine). q.parent) c.next.is)

  signature-is : signature_of c.node.kind c.went.facts.later (marks_in c.r.means c.r.owner c.node)
      ≡ signature_named (routines_of c.t) (get_or (known c.new).table.owners c.around.0 nobody) (heading_here c.l).name
  signature-is =
      (λ i. signature_of (visit-kind c i) (visit-late c i) (visit-marks c i)) ∙ sym (signature_in-is c.r) ∙ sym (signatures-law c.t c.r c.next.proper c.next.program (one-here c) first-here)
      ∙ (λ i. signature_named (routines_of c.t) (sym parent-here i) (ap (λ (q : Routine). q.name) c.next.is i))

  -- the name of the block gives those of the routine
  pub visit-signature :
      ShowsSignatures (known c.new) c.went.head.signature (signature_named (routines_of c.t) (get_or (known c.new).table.owners c.around.0 nobody) (heading_here c.l).name)
  visit-signature =
      let headed = c.went.declares.headed in
      subst (λ s. ShowsSignatures (known c.new) c.went.head.signature s) signature-is
      (ShowsSignatures-grows (known headed) (known c.new) c.went.head.signature (signature_of c.node.kind c.went.facts.later (marks_in c.r.means c.r.owner c.node)) c.went.declares.told.grows
      (c.went.declares.heads.signature c.r.means c.r.owner no-later (visit-around c)))
