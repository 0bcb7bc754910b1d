-- What undo and redo give is determined.
use Rattle.std.specs.Prelude.{◌≡◌, ◌∷◌}
use Rattle.std.proofs.Common.{sym, ◌∙◌}
use Rattle.std.proofs.lemmas.List.{same_from_push}
use Rattle.pc_session.specs.Trees.{Trees, Undoes}

-- Undo gives one thing.
abbrev pub OneUndo : Type 0
OneUndo = (s t u : Trees) → Undoes s t → Undoes s u → t ≡ u

-- Redo gives one thing: after an undo, what was before it.
abbrev pub OneRedo : Type 0
OneRedo = (s t u : Trees) → Undoes s u → Undoes t u → s ≡ t

same-trees : (s t : Trees) → s.earlier ≡ t.earlier → s.tree ≡ t.tree → s.undone ≡ t.undone → s ≡ t
same-trees s t earlier tree undone = λ i. record { earlier = earlier i; tree = tree i; undone = undone i }

pub one_undo : OneUndo
one_undo s t u p q =
    let same = same_from_push t.earlier u.earlier t.tree u.tree (sym p.earlier ∙ q.earlier) in
    same-trees t u same.0 same.1 (p.undone ∙ sym q.undone)

pub one_redo : OneRedo
one_redo s t u p q =
    let rest : s.tree ∷ s.undone ≡ t.tree ∷ t.undone = sym p.undone ∙ q.undone in
    let tree : s.tree ≡ t.tree = cc in
    let undone : s.undone ≡ t.undone = cc in
    same-trees s t (p.earlier ∙ sym q.earlier) tree undone
