use Rattle.std.proofs.Common.{refl, sym, subst, ◌∙◌}
use Rattle.pc_syntax.specs.declared.kind.Kind.TheVariants as kind
use Rattle.pc_rules.specs.Constants.{string_rule}
use Rattle.pc_rules.specs.Decorated.{with_kind}
use Rattle.pc_facts.specs.Shows.{ShowsNode}
use Rattle.pc_growth.specs.GrowsLaws.{Begins-same}
use Rattle.pc_places.specs.ConstantLaws.{only_place, sees-signed, shows-text, shows-signed, shows-same}
use Rattle.pc_places.proofs.constants.constant.Goals as goal

pub returns-in_ok-found-in-Cstring : goal.returns-in_ok-found-in-Cstring
returns-in_ok-found-in-Cstring c =
    let node = c.args.node.now in
    let found = c.in_ok-found-in-Cstring.found in
    let texts = c.string_constant.new.texts.items in
    record {
      shows = λ k out l table old sees.
          shows-text (record k { texts = texts }) found out l node (sym c.kind.ensures.value ∙ c.in-Cstring.is)
          (subst (λ w. ShowsNode (record k { texts = texts }) found (with_kind kind.Cstring node.word (string_rule w))) c.word.ensures
          (c.in_ok-found-in-Cstring.ensures.shown (record k { texts = texts }) node.word table refl));
      texts = record { more = _; is = c.in_ok-found-in-Cstring.ensures.kept };
    }

pub returns-in_ok-found-in-Csign : goal.returns-in_ok-found-in-Csign
returns-in_ok-found-in-Csign c =
    let node = c.args.node.now in
    let bare = c.signed_part-parts.result.1.now in
    let value = c.in_ok-value-in-Csign.value in
    let found = c.in_ok-found-in-Csign.found in
    record {
      shows = λ k out l table old sees.
          shows-same k c.args.texts.now.items found _ old
          (shows-signed k value found out l node bare c.signed_part-parts.result.0 (sym c.kind.ensures.value ∙ c.in-Csign.is) c.signed_part-parts.ensures.kids c.signed_part-parts.ensures.sign
          (λ n shows. c.in_ok-found-in-Csign.ensures k node.word n table shows)
          (c.in_ok-value-in-Csign.ensures k out (only_place l kind.Csign bare) table
          (sees-signed k c.args.names.now c.args.declarations.now c.args.block.0 c.args.opened.now out l bare sees)));
      texts = Begins-same c.args.texts.now.items;
    }

pub returns-in_ok-found-in_default : goal.returns-in_ok-found-in_default
returns-in_ok-found-in_default c = record {
  shows = λ k out l table old sees. shows-same k c.args.texts.now.items c.in_ok-found-in_default.found _ old (c.in_ok-found-in_default.ensures k out l table sees);
  texts = Begins-same c.args.texts.now.items;
}
