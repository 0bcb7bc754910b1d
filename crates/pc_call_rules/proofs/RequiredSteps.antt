-- Statements of required procedures, by their names: lemmas.
use Rattle.std.specs.Prelude.{◌≡◌, ℕ, Bool, true, false, ◌||◌, if◌then◌else◌, List, [], codes}
use Rattle.std.specs.Str.{bytes_eq}
use Rattle.std.proofs.Common.{refl, ◌∙◌}
use Rattle.pc_rules.specs.Attributes.{Node}
use Rattle.pc_rules.specs.RequiredFunctions.{has_file}
use Rattle.pc_rules.specs.RequiredProcedures.{read_variables, behind_file, input_procedure, output_procedure, pointer_procedure, new_entries, dispose_entries, required_procedure}
use Rattle.pc_call_rules.specs.Calls.{required_touches, silent_procedure}

first-of : {X : Type 0} (t : Bool) (x y : X) → t ≡ true → (if t then x else y) ≡ x
first-of true x y e = refl
first-of false x y e = absurd cc

second-of : {X : Type 0} (t : Bool) (x y : X) → t ≡ false → (if t then x else y) ≡ y
second-of true x y e = absurd cc
second-of false x y e = refl

or-first : (t u : Bool) → t ≡ true → (t || u) ≡ true
or-first true u e = refl
or-first false u e = absurd cc

or-second : (t u : Bool) → t ≡ false → u ≡ true → (t || u) ≡ true
or-second true u e h = absurd cc
or-second false u e h = h

or-neither : (t u : Bool) → t ≡ false → u ≡ false → (t || u) ≡ false
or-neither true u e h = absurd cc
or-neither false u e h = h

-- ---- the statement

pub stated-read : (m : List ℕ) (n a : Node) → bytes_eq m (codes "read") ≡ true → required_procedure m n a ≡ input_procedure true n a
stated-read m n a e = first-of (bytes_eq m (codes "read")) _ _ e

pub stated-readln : (m : List ℕ) (n a : Node) → bytes_eq m (codes "read") ≡ false → bytes_eq m (codes "readln") ≡ true → required_procedure m n a ≡ input_procedure false n a
stated-readln m n a e1 e2 = second-of (bytes_eq m (codes "read")) _ _ e1 ∙ first-of (bytes_eq m (codes "readln")) _ _ e2

pub stated-silent : (m : List ℕ) (n a : Node) → bytes_eq m (codes "read") ≡ false → bytes_eq m (codes "readln") ≡ false → required_procedure m n a ≡ silent_procedure m n a
stated-silent m n a e1 e2 = second-of (bytes_eq m (codes "read")) _ _ e1 ∙ second-of (bytes_eq m (codes "readln")) _ _ e2

pub stated-write : (m : List ℕ) (n a : Node) → bytes_eq m (codes "write") ≡ true → silent_procedure m n a ≡ output_procedure true n a
stated-write m n a e = first-of (bytes_eq m (codes "write")) _ _ e

pub stated-writeln : (m : List ℕ) (n a : Node) → bytes_eq m (codes "write") ≡ false → bytes_eq m (codes "writeln") ≡ true → silent_procedure m n a ≡ output_procedure false n a
stated-writeln m n a e1 e2 = second-of (bytes_eq m (codes "write")) _ _ e1 ∙ first-of (bytes_eq m (codes "writeln")) _ _ e2

pub stated-new : (m : List ℕ) (n a : Node) → bytes_eq m (codes "write") ≡ false → bytes_eq m (codes "writeln") ≡ false → bytes_eq m (codes "new") ≡ true → silent_procedure m n a ≡ pointer_procedure new_entries n a
stated-new m n a e1 e2 e3 = second-of (bytes_eq m (codes "write")) _ _ e1 ∙ second-of (bytes_eq m (codes "writeln")) _ _ e2 ∙ first-of (bytes_eq m (codes "new")) _ _ e3

pub stated-dispose : (m : List ℕ) (n a : Node) → bytes_eq m (codes "write") ≡ false → bytes_eq m (codes "writeln") ≡ false → bytes_eq m (codes "new") ≡ false → silent_procedure m n a ≡ pointer_procedure dispose_entries n a
stated-dispose m n a e1 e2 e3 = second-of (bytes_eq m (codes "write")) _ _ e1 ∙ second-of (bytes_eq m (codes "writeln")) _ _ e2 ∙ second-of (bytes_eq m (codes "new")) _ _ e3

-- ---- the variables that are read

pub read-touches : (m : List ℕ) (ns : List Node) → bytes_eq m (codes "read") ≡ true → required_touches m ns ≡ read_variables (behind_file (has_file (codes "input") ns) ns)
read-touches m ns e = first-of (bytes_eq m (codes "read") || bytes_eq m (codes "readln")) _ _ (or-first (bytes_eq m (codes "read")) (bytes_eq m (codes "readln")) e)

pub readln-touches : (m : List ℕ) (ns : List Node) → bytes_eq m (codes "read") ≡ false → bytes_eq m (codes "readln") ≡ true → required_touches m ns ≡ read_variables (behind_file (has_file (codes "input") ns) ns)
readln-touches m ns e1 e2 = first-of (bytes_eq m (codes "read") || bytes_eq m (codes "readln")) _ _ (or-second (bytes_eq m (codes "read")) (bytes_eq m (codes "readln")) e1 e2)

pub silent-touches : (m : List ℕ) (ns : List Node) → bytes_eq m (codes "read") ≡ false → bytes_eq m (codes "readln") ≡ false → required_touches m ns ≡ []
silent-touches m ns e1 e2 = second-of (bytes_eq m (codes "read") || bytes_eq m (codes "readln")) _ _ (or-neither (bytes_eq m (codes "read")) (bytes_eq m (codes "readln")) e1 e2)
