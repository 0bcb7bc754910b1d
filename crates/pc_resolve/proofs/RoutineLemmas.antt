-- A routine in the list of the routines of a block, from where it is declared to where its own block ends: lemmas.
use Rattle.std.proofs.Common.{◌≡◌, ◌<◌, ◌+◌, inl, inr, ℕ, Bool, true, false, if◌then◌else◌, List, [], ◌∷◌, ◌++◌, Option, length, refl, ap, sym, ◌∙◌, subst, append_assoc, arith, true≢false}
use Rattle.pc_syntax.specs.Places.{at}
use Rattle.pc_syntax.specs.Plain.{Forest, Plain}
use Rattle.pc_syntax.specs.WellFormed.{IsProper}
use Rattle.pc_syntax.specs.declared.kind.Kind.{Kind}
use Rattle.pc_syntax.specs.declared.kind.Kind.TheVariants as kind
use Rattle.pc_scope.specs.Headings.{is_routine_kind}
use Rattle.pc_types.specs.Rows.{IsInOrder}
use Rattle.pc_names.specs.Chains.{chain_of}
use Rattle.pc_rules.specs.Attributes.{Entry, at_kid}
use Rattle.pc_rules.specs.Errors.{entries_of, from_place}
use Rattle.pc_rules.specs.Meanings.{Local}
use Rattle.pc_rules.specs.Outsides.{outside_of}
use Rattle.pc_rules.specs.RoutineList.{Forwarded, forwarded_by, key_of, routines_below, routines_in, routines_of}
use Rattle.pc_rules.specs.Routines.{Routine, bare}
use Rattle.pc_environment.specs.Decorating.{attributes_at}
use Rattle.pc_needs.proofs.PlaceLemmas.{one-back}
use Rattle.pc_needs.specs.Unaffected.{IsOneOf}
use Rattle.pc_program_laws.specs.Routines.{NextRoutineLaw, has_heading, routine_here}
use Rattle.pc_pointers.specs.Good.{Targets}
use Rattle.pc_growth.specs.Grows.{Begins}
use Rattle.pc_growth.specs.GrowsLaws.{length-begins}
use Rattle.pc_places.specs.MovesLaws.{IsPlace-begun}
use Rattle.pc_places.specs.Places.{known}
use Rattle.pc_places.specs.declared.tables.Tables.{Tables}
use Rattle.pc_routines.specs.ForwardedLaws.{Waits-grows}
use Rattle.pc_routines.specs.declared.forward.Forward.{Forward}
use Rattle.pc_routines.specs.declared.head.RoutineHead.{RoutineHead}
use Rattle.pc_domains.specs.Told.{IsTold, Told}
use Rattle.pc_domains.specs.ToldLaws.{IsTold-moves}
use Rattle.pc_routine_sites.specs.Sites.{IsNext, SiteFound, Sound, StandsBefore, behind_routine}
use Rattle.pc_routine_sites.specs.Visits.{Visits}
use Rattle.pc_routine_sites.specs.VisitsLaws.{IsPlace-visited, Visits-within, chain-visited}
use Rattle.pc_routine_sites.specs.declared.site.RoutineFound.{RoutineFound}
use Rattle.pc_routine_sites.specs.declared.site.RoutineSite.{RoutineSite}
use Rattle.pc_resolve.specs.Blocks.{BlockShown, IsRoutineOf, IsSomeWithin, Notes, ResolvesWithin, StandsBegun}
use Rattle.pc_resolve.specs.Facts.{is_root}
use Rattle.pc_resolve.specs.Lists.{HeadHere, IsListOf, IsSite, IsSomeTree, ListShown, ResolvesRoutine, StandsAmong, behind_here, forwarded_here, led_by, own_tree, routines_here}
use Rattle.pc_resolve.specs.declared.resolver.BlockEntries.{BlockEntries}
use Rattle.pc_resolve.specs.declared.resolver.Resolver.{Resolver}
use Rattle.pc_resolve.proofs.BesideLemmas.{own-bare}
use Rattle.pc_resolve.proofs.ListLemmas.{is-next}
use Rattle.pc_resolve.proofs.ListStands.{stands-before}
use Rattle.pc_resolve.proofs.RoutineEntries.{block_entries_of, routine-entries}

-- what `routine_site` makes of it
abbrev pub FindsSite : ℕ → ℕ → Option (List (List ℕ)) → List ℕ → ℕ → RoutineHead → Plain → RoutineFound → Tables → List ((ℕ × ℕ) × Option Forward) → Tables → List ((ℕ × ℕ) × Option Forward) → Type 0
FindsSite block owner key list number x node f old w new v = (t : Plain) (ro r : Routine) (done beyond : List Routine) (l : Local) (fs : List Forwarded) → IsNext t ro r done beyond l fs list node → number ≡ l.kid →
    key ≡ key_of ro.owner → StandsBefore (routines_of t) ro done l fs block owner x old w → SiteFound (routines_of t) ro r done l fs block owner node f new v

-- what is done at it: its site is made, and the state behind that
pub record GoesToBlock (block : ℕ) (site : RoutineSite) (list : List ℕ) (number : ℕ) (x : RoutineHead) (node : Plain) (old : Resolver) (w : List ((ℕ × ℕ) × Option Forward)) (f : RoutineFound) (mid : Resolver)
    (v : List ((ℕ × ℕ) × Option Forward)) : Type 0 where
  pub next : NextRoutineLaw
  pub order : IsInOrder old.tables.types
  pub routine : is_routine_kind node.kind ≡ true
  pub proper : IsProper node
  pub found : FindsSite block site.owner.0 site.key list number x node f old.tables w mid.tables v
  pub visits : Visits block old.tables mid.tables
  pub begins : Begins (known old.tables).table.domains (known mid.tables).table.domains
  pub domains : mid.domains ≡ old.domains
  pub touched : mid.touched ≡ old.touched
  pub kept : mid.kept ≡ old.kept

has-heading : (k : Kind) → is_routine_kind k ≡ true → has_heading k ≡ true
has-heading kind.Procedure e = refl
has-heading kind.Function e = refl
has-heading kind.Funbody e = refl
has-heading k e = cc

no-more : (n : ℕ) → n + 0 ≡ n
no-more n = omega arith

one-there : (all done beyond : List Routine) (q : Routine) → all ≡ done ++ q ∷ beyond → IsOneOf all q
one-there all done beyond q e = subst (λ (rs : List Routine). IsOneOf rs q) (sym e) (one-back done (q ∷ beyond) q (inl refl))

not-both : (b : Bool) (X : Type 0) → b ≡ false → b ≡ true → X
not-both b X e f = absurd (true≢false (sym f ∙ e))

-- ---- the same routine, found for some list that it stands in

module _ (block : ℕ) (site : RoutineSite) (list : List ℕ) (number : ℕ) (x : RoutineHead) (node : Plain) (old : Resolver) (w : List ((ℕ × ℕ) × Option Forward)) (f : RoutineFound) (mid : Resolver)
    (v : List ((ℕ × ℕ) × Option Forward)) (g : GoesToBlock block site list number x node old w f mid v) (t : Plain) (targets : Targets) (r : Routine) (done beyond : List Routine) (l : Local) (fs : List Forwarded)
    (ts : Forest) (h : IsListOf t targets r done beyond l fs list (led_by node ts)) (at_site : IsSite r site) (number_is : number ≡ l.kid) (head : HeadHere old.tables x l)
    (stands : StandsAmong (routines_of t) targets r done l fs block site.owner.0 w old) where
  abbrev pub all : List Routine
  all = routines_of t

  abbrev pub one : Routine
  one = routine_here r.means l fs list (key_of r.owner) node.kind node.word node.notes node.kids

  abbrev pub below : List Routine
  below = routines_below one 1 node.kids

  abbrev pub rest : List Routine
  rest = routines_in r.means (behind_here r.means l node) (forwarded_by l one fs) list (key_of r.owner) ts

  next-is : IsNext t r one done (below ++ rest ++ beyond) l fs list node
  next-is = is-next g.next t targets r done beyond l fs list node ts g.routine stands.stands.owns h

  pub site-found : SiteFound all r one done l fs block site.owner.0 node f mid.tables v
  site-found =
      g.found t r one done (below ++ rest ++ beyond) l fs next-is number_is at_site.key
      (stands-before all targets r done l fs block site.owner.0 w old x stands head.shows head.later)

  pub one-of : IsRoutineOf t targets one node (done ++ one ∷ []) (rest ++ beyond)
  one-of = record {
    facts = h.facts;
    among = one-there all done (below ++ rest ++ beyond) one next-is.order;
    gone = one-back done (one ∷ []) one (inl refl);
    here = ap (λ (n : ℕ). at (list ++ n ∷ []) t) (sym (no-more l.kid)) ∙ h.kids 0;
    proper = g.proper;
    heading = has-heading node.kind g.routine;
    heading_is = refl;
    block = refl;
    block_kid = refl;
    order =
        next-is.order
        ∙ sym (append_assoc done (one ∷ []) (below ++ rest ++ beyond))
        ∙ ap (λ (rs : List Routine). (done ++ one ∷ []) ++ rs) (append_assoc below rest beyond)
        ∙ sym (append_assoc (done ++ one ∷ []) below (rest ++ beyond));
  }

  pub no-root : is_root one ≡ false
  no-root = h.facts.other done (below ++ rest ++ beyond) r one h.gone next-is.order

  pub begun : StandsBegun all targets one (done ++ one ∷ []) (chain_of mid.tables.names.chains block) f.site mid
  begun = record {
    sound = site-found.sound;
    around = site-found.stands;
    told = subst (λ (d : Told). IsTold targets d (known mid.tables)) (sym g.domains) (IsTold-moves targets old.domains old.tables mid.tables g.order g.visits.grows g.begins stands.stands.told);
    first = λ root. not-both (is_root one) (f.site.owner.0 ≡ 0) no-root root;
  }

  -- ---- and its own block was gone through

  module _ (kid : ℕ) (new : Resolver) (b : BlockEntries) (within : ResolvesWithin (chain_of mid.tables.names.chains block) f.site node kid mid new b) where
    abbrev found-within : (at_kid kid b.own.items ≡ at_kid one.block_kid (block_entries_of all one)) × (b.inside.items ≡ entries_of all below)
        × BlockShown all targets one below (done ++ one ∷ []) (chain_of mid.tables.names.chains block) mid new
    found-within = within t targets one (done ++ one ∷ []) (rest ++ beyond) one-of no-root begun

    same-chain : chain_of new.tables.names.chains block ≡ chain_of mid.tables.names.chains block
    same-chain =
        let place = site-found.place in
        chain-visited mid.tables.names.chains new.tables.names.chains block block place.outer found-within.2.visits.chains place.chain ∙ sym place.chain

    here-some : routines_here r.means l fs list (key_of r.owner) node ≡ one ∷ below
    here-some = ap (λ (c : Bool). if c then one ∷ below else []) g.routine

    forwarded-some : forwarded_here r.means l fs list (key_of r.owner) node ≡ forwarded_by l one fs
    forwarded-some = ap (λ (c : Bool). if c then forwarded_by l one fs else fs) g.routine

    notes-here : Notes all (one ∷ below) old new
    notes-here =
        let n = found-within.2.notes in
        record {
          more = n.more;
          variables = n.variables;
          log = n.log ∙ ap (λ (xs : List (ℕ × ℕ)). xs ++ n.more) g.touched;
          shown = n.shown;
          same = n.same;
          records = n.records;
          kept = n.kept ∙ ap (λ v. v.items ++ n.records) g.kept;
          declared = n.declared;
        }

    sound-here : Sound all (done ++ one ∷ below) new.tables (chain_of new.tables.names.chains block)
    sound-here =
        subst (λ (bs : List ℕ). Sound all (done ++ one ∷ below) new.tables bs) (sym same-chain)
        (subst (λ (rs : List Routine). Sound all rs new.tables (chain_of mid.tables.names.chains block)) (append_assoc done (one ∷ []) below) found-within.2.sound)

    stands-here : StandsAmong all targets r (done ++ one ∷ below) (behind_here r.means l node) (forwarded_by l one fs) block site.owner.0 v new
    stands-here =
        let place = site-found.place in
        let m = behind_routine r l node in
        let there : block < length mid.tables.names.chains = IsPlace-begun mid.tables block site.owner.0 (bare r.means) m place in
        let went = found-within.2.visits in
        record {
          stands = record {
            place = IsPlace-visited (length mid.tables.names.chains) mid.tables new.tables block site.owner.0 (bare r.means) m there went place;
            owns = site-found.owns;
            sound = sound-here;
            told = found-within.2.told;
          };
          waits = Waits-grows mid.tables new.tables v m.waiting (forwarded_by l one fs) went.grows went.declarations site-found.waits;
        }

    list-shown : ListShown all targets r (routines_here r.means l fs list (key_of r.owner) node) done (behind_here r.means l node) (forwarded_here r.means l fs list (key_of r.owner) node) block site.owner.0 old v new
    list-shown =
        let less = length-begins old.tables.names.chains mid.tables.names.chains g.visits.chains in
        let m = behind_here r.means l node in
        let there : ListShown all targets r (one ∷ below) done m (forwarded_by l one fs) block site.owner.0 old v new = record {
          stands = stands-here;
          visits = Visits-within block (length mid.tables.names.chains) old.tables mid.tables new.tables (inr less) g.visits found-within.2.visits;
          notes = notes-here;
        } in
        subst (λ (p : List Routine × List Forwarded). ListShown all targets r p.0 done m p.1 block site.owner.0 old v new) (λ i. (sym here-some i, sym forwarded-some i)) there

    own-shown : f.entries.items ≡ (attributes_at (outside_of all r) l (own_tree node)).as_value.entries
    own-shown = site-found.entries ∙ ap (λ (u : Plain). (attributes_at (outside_of all r) l u).as_value.entries) (sym (own-bare node g.routine))

    pub inside-shown : (es : List Entry) → es ≡ from_place f.site.place (f.heading.items ++ at_kid kid b.own.items) ++ b.inside.items →
        es ≡ entries_of all (routines_here r.means l fs list (key_of r.owner) node)
    inside-shown es e =
        routine-entries all below one kid f.heading.items b.own.items b.inside.items es site-found.heading found-within.0 found-within.1
        (e ∙ ap (λ (p : List ℕ). from_place p (f.heading.items ++ at_kid kid b.own.items) ++ b.inside.items) site-found.stands.place)
        ∙ ap (entries_of all) (sym here-some)

    pub routine-shown : (es : BlockEntries) → es.own.items ≡ f.entries.items → es.inside.items ≡ from_place f.site.place (f.heading.items ++ at_kid kid b.own.items) ++ b.inside.items →
        (es.own.items ≡ (attributes_at (outside_of all r) l (own_tree node)).as_value.entries) × (es.inside.items ≡ entries_of all (routines_here r.means l fs list (key_of r.owner) node))
        × ListShown all targets r (routines_here r.means l fs list (key_of r.owner) node) done (behind_here r.means l node) (forwarded_here r.means l fs list (key_of r.owner) node) block site.owner.0 old v new
    routine-shown es own inside = (own ∙ own-shown, inside-shown es.inside.items inside, list-shown)

-- ---- whichever list it is

module _ (block : ℕ) (site : RoutineSite) (list : List ℕ) (number : ℕ) (x : RoutineHead) (node : Plain) (old : Resolver) (w : List ((ℕ × ℕ) × Option Forward)) (f : RoutineFound) (mid : Resolver)
    (v : List ((ℕ × ℕ) × Option Forward)) (g : GoesToBlock block site list number x node old w f mid v) where
  -- what `routine_block` asks
  pub some-within : IsSomeTree block site list number x node w old → IsSomeWithin (chain_of mid.tables.names.chains block) f.site node mid
  some-within s =
      let q = one block site list number x node old w f mid v g s.0 s.1 s.2 s.3 s.4 s.5 s.6 s.7 s.8 s.9 s.10 s.11 s.12 in (
        s.0,
        s.1,
        q,
        s.3 ++ q ∷ [],
        rest block site list number x node old w f mid v g s.0 s.1 s.2 s.3 s.4 s.5 s.6 s.7 s.8 s.9 s.10 s.11 s.12 ++ s.4,
        one-of block site list number x node old w f mid v g s.0 s.1 s.2 s.3 s.4 s.5 s.6 s.7 s.8 s.9 s.10 s.11 s.12,
        no-root block site list number x node old w f mid v g s.0 s.1 s.2 s.3 s.4 s.5 s.6 s.7 s.8 s.9 s.10 s.11 s.12,
        begun block site list number x node old w f mid v g s.0 s.1 s.2 s.3 s.4 s.5 s.6 s.7 s.8 s.9 s.10 s.11 s.12,
      )

  pub resolves-routine : (kid : ℕ) (new : Resolver) (b es : BlockEntries) → ResolvesWithin (chain_of mid.tables.names.chains block) f.site node kid mid new b → es.own.items ≡ f.entries.items →
      es.inside.items ≡ from_place f.site.place (f.heading.items ++ at_kid kid b.own.items) ++ b.inside.items → ResolvesRoutine block site list number x node old w new v es
  resolves-routine kid new b es within own inside = λ t targets r done beyond l fs ts h at number_is head stands.
      routine-shown block site list number x node old w f mid v g t targets r done beyond l fs ts h at number_is head stands kid new b within es own inside
