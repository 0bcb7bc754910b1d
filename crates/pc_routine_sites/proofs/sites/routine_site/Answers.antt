use Rattle.std.proofs.Common.{ℕ, List, [], ◌∷◌, ◌++◌, refl, ap, ◌∙◌, subst}
use Rattle.std.specs.Prelude.{option_copied}
use Rattle.pc_places.specs.declared.parameter.Parameter.{Parameter}
use Rattle.pc_routine_sites.specs.DomainsLaws.{routine-domains}
use Rattle.pc_routine_sites.specs.FoundLaws.{visit-found}
use Rattle.pc_routine_sites.specs.Identities.{own_function, IsForward}
use Rattle.pc_routine_sites.specs.SiteLaws.{routine-visits}
use Rattle.pc_routine_sites.specs.Steps.{VisitsRoutine}
use Rattle.pc_routine_sites.specs.declared.site.RoutineFound.{RoutineFound}
use Rattle.pc_routine_sites.proofs.sites.routine_site.Goals as goal

pub returns : goal.returns
returns c =
    let x = c.args.head.now in
    let node = c.args.node.now in
    let old = c.args.tables.now in
    let new = c.declare.new.tables in
    let identity = c.in_ok-identity.identity in
    let given = option_copied c.args.key in
    let at = c.in_ok-place.place in
    let f : RoutineFound = record {
      entries = c.in_ok-facts.facts.entries;
      heading = c.in_ok-found.found.entries;
      site = record {
        owner = identity.owner;
        key = identity.key;
        near = identity.near;
        place = identity.place;
        is_later = c.in_ok-facts.facts.later;
        own_function = c.own_function-function.result;
        parameters = c.in_ok-own.own;
      };
    } in
    let went : VisitsRoutine c.args.block.0 c.args.owner given at x node old new c.args.waiting.now c.pass.new.self f = record {
      facts = c.in_ok-facts.facts;
      owned = record old { types = c.identify.new.types };
      head = c.in_ok-found.found;
      forward = c.in_ok-forward.forward;
      shows = c.in_ok-facts.ensures;
      proper = c.kind.ensures.proper;
      entries = refl;
      key = c.in_ok-identity.ensures.key;
      place = c.in_ok-identity.ensures.place;
      is_later = refl;
      owner = c.in_ok-identity.ensures.owner;
      there = c.in_ok-identity.ensures.there;
      names = refl;
      declarations = refl;
      signatures = refl;
      texts = refl;
      declares = c.in_ok-found.ensures;
      heading = refl;
      parameters = c.in_ok-own.ensures;
      gives = subst (λ (ps : List Parameter). IsForward x.is_forward identity.owner identity.key ps c.in_ok-forward.forward) c.as_slice.ensures.value c.in_ok-forward.ensures;
      function = c.own_function-function.ensures ∙ (λ i. own_function (c.kind.ensures.value i) (c.is_some.ensures i) c.args.owner x.name);
      passes = c.in_ok-pass.ensures;
    } in
    record {
      found = λ t ro r done beyond l fs next number key before. visit-found (record {
        t = t;
        outer = ro;
        r = r;
        done = done;
        beyond = beyond;
        l = l;
        fs = fs;
        list = c.args.list.now;
        node = node;
        block = c.args.block.0;
        around = c.args.owner;
        given = given;
        at = at;
        x = x;
        old = old;
        new = new;
        w = c.args.waiting.now;
        v = c.pass.new.self;
        f = f;
        next = next;
        routine = c.requires.routine;
        at_is = c.in_ok-place.ensures ∙ ap (λ (n : ℕ). c.args.list.now ++ n ∷ []) number;
        given_is = key;
        before = before;
        went = went;
      });
      near = c.in_ok-identity.ensures.near;
      visits = routine-visits c.args.block.0 c.args.owner given at x node old new c.args.waiting.now c.pass.new.self f went;
      domains = routine-domains c.args.block.0 c.args.owner given at x node old new c.args.waiting.now c.pass.new.self f went;
    }
