use Rattle.std.proofs.Common.{◌≡◌, ℕ, Bool, true, false, List, [], ◌∷◌, Some, None, ap, sym, ◌∙◌}
use Rattle.std.specs.Prelude.{if◌then◌else◌}
use Rattle.std.specs.Option.{option_copied}
use Rattle.pc_syntax.specs.Sorts.{is_hole}
use Rattle.pc_syntax.specs.Words.{lowered}
use Rattle.pc_domains.specs.NamingLaws.{front-by}
use Rattle.pc_domains.proofs.naming.name_below.Goals as goal

pub returns-in_default : goal.returns-in_default
returns-in_default c = front-by c.args.node.now None (ap option_copied (sym c.in_default.is) ∙ c.kid.ensures.value)

pub returns-then-is_hole : goal.returns-then-is_hole
returns-then-is_hole c =
    let h : is_hole c.in-Some.first.now.kind ≡ true = sym (ap is_hole c.kind.ensures.value) ∙ sym c.is_hole.ensures ∙ c.if-is_hole.true in
    let P : Bool → List (List ℕ) = λ b. if b then [] else lowered c.in-Some.first.now.word ∷ [] in
    front-by c.args.node.now (Some c.in-Some.first.now) (ap option_copied (sym c.in-Some.is) ∙ c.kid.ensures.value) ∙ ap P h

pub returns : goal.returns
returns c =
    let h : is_hole c.in-Some.first.now.kind ≡ false = sym (ap is_hole c.kind.ensures.value) ∙ sym c.is_hole.ensures ∙ c.if-is_hole.false in
    let P : Bool → List (List ℕ) = λ b. if b then [] else lowered c.in-Some.first.now.word ∷ [] in
    front-by c.args.node.now (Some c.in-Some.first.now) (ap option_copied (sym c.in-Some.is) ∙ c.kid.ensures.value) ∙ ap P h
    ∙ ap (λ (w : List ℕ). lowered w ∷ []) (sym c.word.ensures)
