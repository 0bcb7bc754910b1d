use Rattle.std.proofs.Common.{◌≡◌, ℕ, List, [], ◌∷◌, ◌++◌, sym, subst}
use Rattle.pc_syntax.specs.Words.{lowered}
use Rattle.pc_names.specs.declared.id.NameId.{NameId}
use Rattle.pc_block_laws.specs.Block.{name_in_front}
use Rattle.pc_domains.specs.NamingLaws.{numbers-more}
use Rattle.pc_domains.specs.Types.{AreNumbers}
use Rattle.pc_domains.proofs.naming.add_name.Goals as goal

pub returns-in_ok-push-clause-numbers : goal.returns-in_ok-push-clause-numbers
returns-in_ok-push-clause-numbers c = λ ns h.
    let texts = c.numbered.new.tables.names.texts in
    let front : List (List ℕ) = name_in_front c.args.node.now.kids in
    let ids : List NameId = c.args.ids.now.items in
    let i : NameId = c.in_ok-id.id in
    let w : List ℕ = lowered c.in-Some.word.now in
    let is : front ≡ w ∷ [] = c.in-Some.ensures in
    let more = numbers-more c.args.tables.now c.numbered.new.tables ids i ns w c.in_ok-id.ensures.names h c.in_ok-id.ensures.number c.in_ok-id.ensures.full in
    let all : AreNumbers texts (ids ++ i ∷ []) (ns ++ front) = subst (λ (ms : List (List ℕ)). AreNumbers texts (ids ++ i ∷ []) (ns ++ ms)) (sym is) more in
    subst (λ (ks : List NameId). AreNumbers texts ks (ns ++ front)) (sym c.in_ok-push.ensures.items) all
