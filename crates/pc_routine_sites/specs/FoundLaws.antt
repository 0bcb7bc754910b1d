-- At a routine of a program: what was found is what the rules find, and the tables stand for the place behind it, lemmas.
use Rattle.std.proofs.Common.{◌≡◌, ◌<◌, ℕ, Bool, true, false, List, [], ◌∷◌, ◌++◌, length, get_or, Option, Some, None, refl, ap, sym, ◌∙◌, subst, arith}
use Rattle.pc_types.specs.Shapes.{Owner, Keyed, Placed}
use Rattle.pc_types.specs.Table.{nobody}
use Rattle.pc_types.specs.declared.form.OwnerId.{OwnerId}
use Rattle.pc_names.specs.Chains.{chain_of}
use Rattle.pc_names.specs.Table.{Table, slot_named}
use Rattle.pc_rules.specs.Declarations.{heading_here}
use Rattle.pc_rules.specs.Meanings.{Local}
use Rattle.pc_rules.specs.Outsides.{signature_named}
use Rattle.pc_rules.specs.RoutineList.{key_of, forwarded_by, routines_of}
use Rattle.pc_rules.specs.Routines.{bare, parameters_of}
use Rattle.pc_environment.specs.Decorating.{attributes_at}
use Rattle.pc_growth.specs.GrowsLaws.{less-begins}
use Rattle.pc_places.specs.MovesLaws.{IsPlace-begun}
use Rattle.pc_places.specs.Parameters.{ShowsParameters, AreNamed, HaveNames}
use Rattle.pc_places.specs.Places.{known}
use Rattle.pc_places.specs.declared.parameter.Parameter.{Parameter}
use Rattle.pc_routines.specs.Bare.{bare_routine}
use Rattle.pc_routines.specs.BesideLaws.{waiting-beside}
use Rattle.pc_routines.specs.ForwardedLaws.{Waits-grows}
use Rattle.pc_routines.specs.HeadsLaws.{ShowsHead-grows}
use Rattle.pc_routines.specs.Waits.{Gives, Waits}
use Rattle.pc_routines.specs.declared.forward.Forward.{Forward}
use Rattle.pc_standing.specs.SigningLaws.{SignsBlock, SignsBlocks, SignsBlock-kept, SignsBlocks-under}
use Rattle.pc_routine_sites.specs.AroundLaws.{visit-behind, visit-entries, visit-signature}
use Rattle.pc_routine_sites.specs.BehindLaws.{behind-is}
use Rattle.pc_routine_sites.specs.DeclaredLaws.{declared-signs}
use Rattle.pc_routine_sites.specs.Identities.{IsForward}
use Rattle.pc_routine_sites.specs.ParametersLaws.{visit-parameters, visit-named, visit-have_names, visit-key_is}
use Rattle.pc_routine_sites.specs.SiteLaws.{visit-facts, visit-head, visit-owned, visit-visits, visit-apart, visit-among, visit-owner_is, visit-there}
use Rattle.pc_routine_sites.specs.Sites.{Sound, SiteFound, behind_routine}
use Rattle.pc_routine_sites.specs.StandsLaws.{visit-owns, visit-stands}
use Rattle.pc_routine_sites.specs.Steps.{Visit}
use Rattle.pc_routine_sites.specs.VisitsLaws.{chain-visited}

module _ (c : Visit) where
  -- ---- the forward routines that wait behind it

  keyed : (o : Owner) (k : List (List ℕ)) → key_of o ≡ Some k → o ≡ Keyed k
  keyed (Keyed j) k e = let same : j ≡ k = cc in ap Keyed same
  keyed (Placed p) k e = cc

  gives-by : (b : Bool) (o : Option Forward) → IsForward b c.f.site.owner c.f.site.key c.f.site.parameters.items o → Gives c.new o c.r b
  gives-by false None h = refl
  gives-by true (Some g) h = (
    refl,
    record {
      key = h.1 ∙ visit-key_is c;
      owner = λ k e. ap (λ (i : OwnerId). get_or (known c.new).table.owners i.0 nobody) h.0 ∙ visit-owner_is c ∙ keyed c.r.owner k e;
      there = subst (λ (i : OwnerId). i.0 < length (known c.new).table.owners) (sym h.0) (visit-there c);
      parameters = subst (λ (ps : List Parameter). ShowsParameters (known c.new) c.new.declarations.items ps (parameters_of c.r)) (sym h.2) (visit-parameters c);
      named = subst (AreNamed (length c.new.names.texts)) (sym h.2) (visit-named c);
      have_names = subst (HaveNames c.new.declarations.items) (sym h.2) (visit-have_names c);
    },
  )
  gives-by false (Some g) h = absurd h
  gives-by true None h = absurd h

  visit-waits : Waits c.new c.v (behind_routine c.outer c.l c.node).waiting (forwarded_by c.l c.r c.fs)
  visit-waits =
      let k = visit-visits c in
      let a = attributes_at (bare c.outer.means) c.l (bare_routine c.node) in
      subst (λ hs. Waits c.new c.v hs (forwarded_by c.l c.r c.fs)) (sym (ap (λ (m : Local). m.waiting) (behind-is c.outer c.l c.node c.routine) ∙ waiting-beside c.l c.node.kind a c.routine))
      (c.went.passes c.new c.l c.r c.fs (ShowsHead-grows c.old.names.texts c.new.names.texts c.x (heading_here c.l) k.grows.names c.before.head)
      (subst (λ (b : Bool). Gives c.new c.went.forward c.r b) c.before.head.forward (gives-by c.x.is_forward c.went.forward c.went.gives))
      (Waits-grows c.old c.new c.w c.l.waiting c.fs k.grows k.declarations c.before.waits))

  -- ---- the tables behind it

  signs : SignsBlocks c.old (signature_named (routines_of c.t)) (c.block ∷ c.before.place.outer)
  signs = subst (SignsBlocks c.old (signature_named (routines_of c.t))) c.before.place.chain c.before.sound.signed

  owned-signs : SignsBlock c.went.owned (signature_named (routines_of c.t)) c.block
  owned-signs =
      let k = visit-owned c in
      SignsBlock-kept c.old c.went.owned (signature_named (routines_of c.t)) c.block k.grows k.declarations (λ n. ap (λ (t : Table). slot_named t c.block n) c.went.names) c.before.sound.named signs.0

  here-signs : SignsBlock c.new (signature_named (routines_of c.t)) c.block
  here-signs =
      let k = visit-visits c in
      declared-signs c.block c.around c.f.site.owner c.x c.went.facts.later c.node c.went.head c.went.owned c.new c.went.declares (heading_here c.l).name (visit-head c).name (signature_named (routines_of c.t))
      ((visit-owned c).named c.before.sound.named) owned-signs (less-begins (known c.old).table.owners (known c.new).table.owners c.around.0 k.grows.owners c.before.place.there)
      (λ e. visit-signature c e)

  around-signs : SignsBlocks c.new (signature_named (routines_of c.t)) c.before.place.outer
  around-signs =
      let k = visit-visits c in
      let begun = IsPlace-begun c.old c.block c.around.0 (bare c.outer.means) c.l c.before.place in
      SignsBlocks-under c.block c.old c.new (signature_named (routines_of c.t)) c.before.place.outer c.before.place.below k.grows k.declarations (λ b less n. k.others b n (omega arith) (λ e. omega arith)) c.before.sound.named
      signs.1

  visit-sound : Sound (routines_of c.t) (c.done ++ c.r ∷ []) c.new (chain_of c.new.names.chains c.block)
  visit-sound =
      let k = visit-visits c in
      record {
        distinct = k.distinct c.before.sound.distinct;
        named = k.named c.before.sound.named;
        signed = subst (SignsBlocks c.new (signature_named (routines_of c.t))) (sym (chain-visited c.old.names.chains c.new.names.chains c.block c.block c.before.place.outer k.chains c.before.place.chain))
            (here-signs, around-signs);
        apart = visit-apart c;
        owners = visit-among c;
      }

  -- what was found at it
  pub visit-found : SiteFound (routines_of c.t) c.outer c.r c.done c.l c.fs c.block c.around.0 c.node c.f c.new c.v
  visit-found = record {
    entries = c.went.entries ∙ (visit-facts c).entries;
    heading = visit-entries c;
    place = visit-behind c;
    owns = visit-owns c;
    waits = visit-waits;
    sound = visit-sound;
    stands = visit-stands c;
  }
