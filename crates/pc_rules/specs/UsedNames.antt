-- Rows 1, 2 and 4: names that are used (ISO 7185, 6.2.2.9).
use Rattle.std.specs.Prelude.{ℕ, Bool, true, false, if◌then◌else◌, List, [], codes, ◌++◌}
use Rattle.pc_syntax.specs.Sorts.{is_hole}
use Rattle.pc_rules.specs.Attributes.{Entry, Node}
use Rattle.pc_rules.specs.Entries.{note, quoted}
use Rattle.pc_rules.specs.Meanings.{Class, Found, Here, Later, Component, Required, Missing}

-- rows 1 and 2
abbrev pub missed : List ℕ → Found → List Entry
missed w Missing = note 1 (quoted (codes "not declared") w)
missed w (Later c) = note 2 (quoted (codes "used before its declaration") w)
missed w _ = []

-- row 4: the name is declared, but its use needs another class
abbrev pub not_a : List ℕ → List ℕ → List Entry
not_a what w = note 4 (codes "not a " ++ what ++ codes ": " ++ w)

-- whether the name is declared with a class, or required, for which the test holds; an undeclared one has row 1 alone
abbrev pub is_used_as : (Class → Bool) → (List ℕ → Bool) → Found → Bool
is_used_as declared required (Here m) = declared m.class
is_used_as declared required (Later c) = declared c
is_used_as declared required (Component t p) = false
is_used_as declared required (Required n) = required n
is_used_as declared required Missing = true

-- rows 1, 2 and 4 of a used name, given which classes, and which required names, its use allows, and what these are called; none of
-- a hole
abbrev pub name_entries : Node → (Class → Bool) → (List ℕ → Bool) → List ℕ → List Entry
name_entries a declared required what =
    if is_hole a.kind then [] else missed a.word a.found ++ (if is_used_as declared required a.found then [] else not_a what a.word)

-- no required name may stand there
abbrev pub never : {X : Type 0} → X → Bool
never x = false
