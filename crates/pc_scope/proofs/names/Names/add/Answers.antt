use Rattle.std.proofs.Common.{◌≡◌, ℕ, ◌∷◌, [], List, ap, sym, ◌∙◌}
use Rattle.std.specs.Option.{option_or}
use Rattle.pc_syntax.specs.Words.{lowered}
use Rattle.pc_scope.specs.Entries.{declared_of}
use Rattle.pc_scope.specs.Lookup.{Declaration}
use Rattle.pc_scope.specs.Table.{first_of, declarations_in}
use Rattle.pc_scope.proofs.Firsts.{known, unknown, first-second, first-append}
use Rattle.pc_scope.proofs.names.Names.add.Goals as goal

pub returns-then-is_some : goal.returns-then-is_some
returns-then-is_some c =
    let ds = declarations_in c.args.self.now.entries.items in
    let d : Declaration = record { declared = declared_of c.args.named; owner = c.args.owner.now } in
    let same : lowered c.bytes.result.now ≡ c.args.named.name = ap lowered c.bytes.ensures ∙ c.args.named.small in
    let x = known c.args.self.now.entries.items _ c.find.result (sym c.is_some.ensures ∙ c.if-is_some.true) c.find.ensures.within c.find.ensures.first in
    first-second ds d x.0 (ap (λ m. first_of m ds) (sym same) ∙ x.1)

pub push-requires : goal.push-requires
push-requires c =
    let ds = declarations_in c.args.self.now.entries.items in
    let same : lowered c.bytes.result.now ≡ c.args.named.name = ap lowered c.bytes.ensures ∙ c.args.named.small in
    ap (λ m. first_of m ds) (sym same) ∙ unknown ds _ c.find.result (sym c.is_some.ensures ∙ c.if-is_some.false) c.find.ensures.first

pub returns : goal.returns
returns c = λ n.
    let ds = declarations_in c.args.self.now.entries.items in
    let d : Declaration = record { declared = declared_of c.args.named; owner = c.args.owner.now } in
    let D : List (List ℕ) → Declaration = λ o. record { declared = declared_of c.args.named; owner = o } in
    ap (first_of n) c.in_ok-push.ensures ∙ first-append n ds _ ∙ ap (λ o. option_or (first_of n ds) (first_of n (D o ∷ []))) c.in_ok-owner.ensures
