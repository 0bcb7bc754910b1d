use Rattle.std.proofs.Common.{None, sym, ap, ◌∙◌}
use Rattle.std.specs.Prelude.{option_map}
use Rattle.pc_syntax.specs.Words.{lowered}
use Rattle.pc_scope.specs.Lookup.{declaration_in}
use Rattle.pc_scope.specs.Table.{declared_as}
use Rattle.pc_scope.proofs.Regions.{way-short, way-elsewhere, way-missed, way-entered, rest-is}
use Rattle.pc_scope.proofs.scopes.Scopes.+declaration_in.Goals as goal

pub returns-in_default : goal.returns-in_default
returns-in_default t c = λ b stands. c.declared_here.ensures b stands ∙ way-short (lowered c.args.name.now) b c.args.way.now c.in_default.len_below

pub returns-then-a-ne4 : goal.returns-then-a-ne4
returns-then-a-ne4 t c = λ b stands.
    c.declared_here-then-a-ne4.ensures b stands ∙ way-elsewhere c.args.self.now.regions.items (lowered c.args.name.now) b c.args.way.now c.in-len3-up.len_at_least c.if-a-ne4.true

pub returns-in_default-step : goal.returns-in_default-step
returns-in_default-step t c = λ b stands.
    c.declared_here-in_default-step.ensures b stands
    ∙ way-missed c.args.self.now.regions.items (lowered c.args.name.now) b c.args.way.now c.in-len3-up.len_at_least c.if-a-ne4.false c.step.result (c.step.ensures b stands) c.in_default-step.is

pub returns-in-Some-declaration_in : goal.returns-in-Some-declaration_in
returns-in-Some-declaration_in t c = λ b stands.
    way-entered c.args.self.now.regions.items (lowered c.args.name.now) b c.args.way.now c.in-len3-up.len_at_least c.if-a-ne4.false c.step.result (c.step.ensures b stands) c.in-Some.inner _ c.in-Some.is
    (λ d s. ap (option_map (λ e. declared_as e.now.decl e.now.is_definition)) (sym c.in-Some-declaration_in.is) ∙ c.declaration_in.ensures d s ∙ ap (declaration_in (lowered c.args.name.now) d) (rest-is c.args.way.now))

pub returns-in-None : goal.returns-in-None
returns-in-None t c = λ b stands.
    c.declared_here-in-None.ensures b stands
    ∙ way-entered c.args.self.now.regions.items (lowered c.args.name.now) b c.args.way.now c.in-len3-up.len_at_least c.if-a-ne4.false c.step.result (c.step.ensures b stands) c.in-Some.inner None c.in-Some.is
    (λ d s. ap (option_map (λ e. declared_as e.now.decl e.now.is_definition)) (sym c.in-None.is) ∙ c.declaration_in.ensures d s ∙ ap (declaration_in (lowered c.args.name.now) d) (rest-is c.args.way.now))
