-- The parts of a heading.
use Rattle.std.specs.Prelude.{◌≡◌, true, List, ◌∷◌}
use Rattle.pc_syntax.specs.Classes.{has}
use Rattle.pc_syntax.specs.Plain.{Plain, kids_of}
use Rattle.pc_syntax.specs.declared.class.Class.TheVariants as class

-- a routine's parameters, behind its name
pub record HasParameters (t params : Plain) : Type 0 where
  pub name : Plain
  pub rest : List Plain
  pub kids : kids_of t ≡ name ∷ params ∷ rest
  pub name_is : has class.Name name.kind ≡ true
  pub params_are : has class.Params params.kind ≡ true

-- a function's parameters and result type
pub record HasResultType (t params result_type : Plain) : Type 0 where
  pub name : Plain
  pub rest : List Plain
  pub kids : kids_of t ≡ name ∷ params ∷ result_type ∷ rest
  pub name_is : has class.Name name.kind ≡ true
  pub params_are : has class.Params params.kind ≡ true
  pub result_is : has class.Name result_type.kind ≡ true

-- the names of a program's heading, behind the program's own
pub record HasHeads (t heads : Plain) : Type 0 where
  pub name : Plain
  pub rest : List Plain
  pub kids : kids_of t ≡ name ∷ heads ∷ rest
  pub name_is : has class.Name name.kind ≡ true
  pub heads_are : has class.Heads heads.kind ≡ true
