use Rattle.std.proofs.Common.{sym, ◌∙◌, subst}
use Rattle.pc_syntax.specs.declared.kind.Kind.{Kind}
use Rattle.pc_syntax.specs.declared.kind.Kind.TheVariants as kind
use Rattle.pc_bodies.specs.Resolved.{known}
use Rattle.pc_told.specs.Contexts.{ShowsWanted}
use Rattle.pc_told.specs.RoleLaws.{call-wants, procedure-wants, other-wants}
use Rattle.pc_told.specs.Told.{first_found}
use Rattle.pc_told.specs.ToldLaws.{kept-same}
use Rattle.pc_told.specs.declared.roles.Wanted.{Wanted}
use Rattle.pc_told.proofs.wanted.wanted_by.Goals as goal

pub returns-in_ok-name-in-Call-clause-wanted : goal.returns-in_ok-name-in-Call-clause-wanted
returns-in_ok-name-in-Call-clause-wanted c = λ out l stands.
    let b = c.args.body.now in
    let node = c.args.node.now in
    let f = first_found out l node.kind node.kids in
    let found = c.in_ok-name-in-Call.ensures.shows out l stands in
    let wants = call-wants (known b c.name_called.new.going) found.0 c.in_ok-name-in-Call.name f found.1 in
    subst (λ (k : Kind). ShowsWanted b.signatures.now c.wanted_of.result k f) (sym (sym c.kind.ensures.value ∙ c.in-Call.is))
    (subst (λ (w : Wanted). ShowsWanted b.signatures.now w kind.Call f) (sym c.wanted_of.ensures) wants)

pub returns-in_ok-name-in-Proc-clause-wanted : goal.returns-in_ok-name-in-Proc-clause-wanted
returns-in_ok-name-in-Proc-clause-wanted c = λ out l stands.
    let b = c.args.body.now in
    let node = c.args.node.now in
    let f = first_found out l node.kind node.kids in
    let found = c.in_ok-name-in-Proc.ensures.shows out l stands in
    let wants = procedure-wants (known b c.name_called-in-Proc.new.going) found.0 c.in_ok-name-in-Proc.name f found.1 in
    subst (λ (k : Kind). ShowsWanted b.signatures.now c.wanted_of-in-Proc.result k f) (sym (sym c.kind.ensures.value ∙ c.in-Proc.is))
    (subst (λ (w : Wanted). ShowsWanted b.signatures.now w kind.Proc f) (sym c.wanted_of-in-Proc.ensures) wants)

pub returns-in_default : goal.returns-in_default
returns-in_default c = record {
  wanted = λ out l stands.
      let node = c.args.node.now in
      other-wants c.args.body.now.signatures.now node.kind (first_found out l node.kind node.kids) (λ e. c.in_default.not-Call (c.kind.ensures.value ∙ e)) (λ e. c.in_default.not-Proc (c.kind.ensures.value ∙ e));
  kept = kept-same c.args.going.now;
}
