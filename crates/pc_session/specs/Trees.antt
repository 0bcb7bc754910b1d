-- The trees of a session: the one that it has, and those that undo and redo give.
use Rattle.std.specs.Prelude.{◌≡◌, Bool, true, false, List, [], ◌∷◌, ◌++◌, refl}
use Rattle.std.specs.Coded.{Coded, code_by, coded×, coded_list}
use Rattle.pc_syntax.specs.declared.class.Class.TheVariants as class
use Rattle.pc_syntax.specs.Plain.{Plain, plain_code}
use Rattle.pc_syntax.specs.Classes.{has}

-- A tree of the sort program. Each tree of the code is well formed and within the limits besides.
abbrev pub IsProgram : Plain → Type 0
IsProgram p = has class.Program p.kind ≡ true

-- The trees that undo gives, the latest last; the session's own; and those that redo gives, the next to come first.
pub record Trees : Type 0 where
  pub earlier : List Plain
  pub tree : Plain
  pub undone : List Plain

-- After an edit that gives this tree.
abbrev pub edited : Trees → Plain → Trees
edited s tree = record { earlier = s.earlier ++ s.tree ∷ []; tree = tree; undone = [] }

-- The second is the first with its last edit undone, and the first is the second with its next edit made again.
pub record Undoes (s t : Trees) : Type 0 where
  pub earlier : s.earlier ≡ t.earlier ++ t.tree ∷ []
  pub undone : t.undone ≡ s.tree ∷ s.undone

-- Undo was done, or there is nothing to undo and nothing changes.
abbrev pub GoesBack : Trees → Bool → Trees → Type 0
GoesBack s true t = Undoes s t
GoesBack s false t = (s.earlier ≡ []) × (t ≡ s)

-- Redo was done, or there is nothing to redo and nothing changes.
abbrev pub GoesOn : Trees → Bool → Trees → Type 0
GoesOn s true t = Undoes t s
GoesOn s false t = (s.undone ≡ []) × (t ≡ s)

-- The trees now, and those before the last call that may change them.
pub record Histories : Type 0 where
  pub now : Trees
  pub before : Trees

-- codes, by which a proof tells two of them apart
abbrev pub trees_code : Coded Trees
trees_code =
    code_by (List Plain × (Plain × List Plain)) (coded× (coded_list plain_code) (coded× plain_code (coded_list plain_code)))
    (λ s. (s.earlier, (s.tree, s.undone))) (λ p. record { earlier = p.0; tree = p.1.0; undone = p.1.1 }) (λ _. refl)

abbrev pub histories_code : Coded Histories
histories_code = code_by (Trees × Trees) (coded× trees_code trees_code) (λ h. (h.now, h.before)) (λ p. record { now = p.0; before = p.1 }) (λ _. refl)
