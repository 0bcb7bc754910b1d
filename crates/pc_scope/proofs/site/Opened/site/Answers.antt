use Rattle.std.proofs.Common.{◌≡◌, ◌+◌, ◌++◌, ◌∷◌, [], length, get_or, refl, ap, sym, ◌∙◌, arith, subst}
use Rattle.std.proofs.lemmas.Option.{slice_get_read}
use Rattle.pc_syntax.specs.Plain.{Plain, kids_of}
use Rattle.pc_syntax.specs.Words.{lowered}
use Rattle.pc_scope.specs.Around.{block_of}
use Rattle.pc_scope.specs.Blocks.{block_kids}
use Rattle.pc_scope.specs.Headings.{first_name}
use Rattle.pc_scope.specs.Sites.{block_at, is_declared_at, owner_within}
use Rattle.pc_scope.specs.declared.site.Site.{Site}
use Rattle.pc_scope.specs.Table.{declarations_in}
use Rattle.pc_scope.proofs.Chains.{Some-inj}
use Rattle.pc_scope.proofs.Firsts.{get_or-any}
use Rattle.pc_scope.proofs.SiteSteps.{site-is}
use Rattle.pc_scope.proofs.site.Opened.site.Goals as goal

pub returns : goal.returns
returns c = λ b r opens are at.
    let same : c.index-routines-i.result ≡ r = Some-inj _ _ (sym (slice_get_read c.args.routines.now (length c.args.routines.now) c.args.i c.index-routines-i.result refl c.requires.within c.index-routines-i.is) ∙ at) in
    let counted : c.index-counted.result.now ≡ get_or c.args.self.now.numbers.items c.args.i 0 =
    c.index-counted.ensures ∙ get_or-any c.args.self.now.numbers.items c.args.i c.index-counted.result.now 0 (omega (arith, c.requires.within, c.requires.numbers)) in
    let s : Site = record { owner = c.in_ok-owner.owner; place = c.in_ok-place.place; number = c.kids-number.result; parameters = c.in_ok-parameters.parameters } in
    let ds = declarations_in c.args.self.now.names.entries.items in
    let list = c.args.self.now.list in
    let at-name : c.in_ok-name.name ≡ (list ++ c.index-counted.result.now ∷ []) ++ 1 ∷ [] = c.in_ok-name.ensures ∙ ap (λ h. h ++ 1 ∷ []) c.in_ok-heading.ensures in
    let owner : c.in_ok-owner.owner ≡
    owner_within c.args.self.now.owner (is_declared_at ds (first_name c.index-routines-i.result.kids) ((list ++ c.index-counted.result.now ∷ []) ++ 1 ∷ [])) (first_name c.index-routines-i.result.kids) =
    c.in_ok-owner.ensures
    ∙ ap (λ p. owner_within c.args.self.now.owner (is_declared_at ds (lowered c.spelled_name.result.now) p) (lowered c.spelled_name.result.now)) at-name
    ∙ ap (λ n. owner_within c.args.self.now.owner (is_declared_at ds n ((list ++ c.index-counted.result.now ∷ []) ++ 1 ∷ [])) n) c.spelled_name.ensures in
    let place : c.in_ok-place.place ≡ (list ++ (c.args.i + 1) ∷ []) ++ length (kids_of c.index-routines-i.result) ∷ [] =
    c.in_ok-place.ensures ∙ ap (λ l. l ++ c.kids-number.result ∷ []) c.in_ok-own.ensures ∙ ap (λ k. (list ++ (c.args.i + 1) ∷ []) ++ k ∷ []) c.kids-number.ensures in
    let P : Plain → Type 0 = λ x. block_at s (block_kids x.kids) ≡ block_of b (c.args.i + 1) x (get_or c.args.self.now.numbers.items c.args.i 0) in
    subst P same
    (site-is c.args.self.now b opens c.index-counted.result.now c.args.routines.now are c.args.i c.index-routines-i.result s owner place c.kids-number.ensures c.in_ok-parameters.ensures
    ∙ ap (block_of b (c.args.i + 1) c.index-routines-i.result) counted)
