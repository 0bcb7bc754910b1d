-- Look-ups and their answers.
use Prim.Native.String.{String}
use Rattle.std.specs.Prelude.{ℕ, suc, Bool, true, false, List, [], ◌∷◌, codes}
use Rattle.std.specs.Str.{bytes_eq}
use Rattle.pc_syntax.specs.Plain.{Plain}
pub use Rattle.pc_scope.specs.Declarations.{Meant, HereAt, LaterAt, RequiredAt, MissingAt}
use Rattle.pc_scope.specs.Lookup.{declaration_in, declaration, lookup}

-- a name at a place, and what it means there
pub record Query : Type 0 where
  pub name : List ℕ
  pub place : List ℕ
  pub answer : Meant

-- the same, with the name as text
abbrev pub query : String → List ℕ → Meant → Query
query name place answer = record { name = codes name; place = place; answer = answer }

-- whether two answers are equal
abbrev pub same_answer : Meant → Meant → Bool
same_answer (HereAt p) (HereAt q) = bytes_eq p q
same_answer (LaterAt p) (LaterAt q) = bytes_eq p q
same_answer RequiredAt RequiredAt = true
same_answer MissingAt MissingAt = true
same_answer _ _ = false

-- the number of the first query from query i on that is answered otherwise, and 0 where there is none
abbrev pub first_wrong_from : Plain → ℕ → List Query → ℕ
unfolding lookup declaration declaration_in
first_wrong_from t i [] = 0
first_wrong_from t i (q ∷ qs) = elim (same_answer (lookup t q.name q.place) q.answer) [ true ↦ first_wrong_from t (suc i) qs | false ↦ i ]

-- the same from the first on; a page that opens it opens all that the answers are computed by
unfoldable pub first_wrong : Plain → List Query → ℕ
unfolding lookup declaration declaration_in
first_wrong t qs = first_wrong_from t 1 qs
