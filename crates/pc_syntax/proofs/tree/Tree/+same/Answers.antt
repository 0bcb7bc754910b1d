use Rattle.std.proofs.Common.{◌≡◌, ◌<◌, ◌≤◌, length, get_or, arith, sym, ◌∙◌, refl}
use Rattle.std.proofs.lemmas.List.{take_all}
use Rattle.pc_syntax.specs.Plain.{kids_of}
use Rattle.pc_syntax.specs.PartsLaws.{same-parts, size_of-kid}
use Rattle.pc_syntax.proofs.tree.Tree.+same.Goals as goal

pub same-requires : goal.same-requires
same-requires t c =
    let p = c.args.self.now in
    let k = c.kid-item.result in
    let l : c.loop-i.i < length (kids_of p) = rw (← c.kid_slice-kid-items.ensures.value) c.loop-i-test.true in
    let is : get_or (kids_of p) c.loop-i.i k ≡ k = rw (← c.kid_slice-kid-items.ensures.value) (sym c.kid-item.is) in
    (omega (arith, size_of-kid p c.loop-i.i k l is, c.decreases), tt)

pub returns : goal.returns
returns t c =
    let p = c.args.self.now in
    let q = c.args.other.now in
    let kind : p.kind ≡ q.kind = sym c.kind.ensures.value ∙ c.if-not-is.ensures.0 refl ∙ c.kind-2.ensures.value in
    let word : p.word ≡ q.word = sym c.word.ensures ∙ c.if-not-same_bytes.ensures.0 refl ∙ c.word-else-not-is.ensures in
    let notes : p.notes ≡ q.notes = sym c.notes.ensures ∙ c.if-not-same_notes.ensures.0 refl ∙ c.notes-2.ensures in
    let end : length (kids_of p) ≤ c.loop-i.i = rw (← c.kid_slice-kid-items.ensures.value) c.loop-i-test.false in
    let count : length (kids_of p) ≡ length (kids_of q) = sym c.kids.ensures ∙ c.if-kids.false ∙ c.kids-else-size.ensures in
    let kids : kids_of p ≡ kids_of q = sym (take_all c.loop-i.i (kids_of p) end) ∙ c.loop-i.invariant ∙ take_all c.loop-i.i (kids_of q) (omega arith) in
    (λ _. same-parts p q kind word notes kids, λ _. refl)
