-- Owners of declarations, worked out: a forward routine `p` and its later declaration, a second `p`, a routine whose name is a hole, and a routine named as a variable.
use Rattle.std.specs.Prelude.{◌≡◌, ℕ, List, [], ◌∷◌, codes, Option, Some, None}
use Rattle.std.proofs.Common.{refl}
use Rattle.std.specs.Option.{option_map}
use Rattle.pc_syntax.specs.Plain.{Forest, Nil, Cons, Plain}
use Rattle.pc_syntax.specs.declared.kind.Kind.TheVariants as kind
use Rattle.pc_syntax.specs.declared.sort.Sort.TheVariants as sort
use Rattle.pc_scope.specs.Lookup.{declaration, declaration_in}

abbrev name : List ℕ → Forest → Forest
name w ts = Cons kind.Name w [] Nil ts

abbrev vars : List ℕ → Forest → Forest
vars w ts = Cons kind.Vars [] [] (Cons kind.Vardef [] [] (Cons kind.Names [] [] (name w Nil) (Cons kind.Tname [] [] (name (codes "integer") Nil) Nil)) Nil) ts

abbrev block : List ℕ → Forest → Forest
block v rs = Cons kind.Block [] [] (Cons kind.Consts [] [] Nil (Cons kind.Types [] [] Nil (vars v (Cons kind.Routines [] [] rs (Cons kind.Compound [] [] Nil Nil))))) Nil

abbrev proc : Forest → List ℕ → Forest → Forest → Forest
proc nm a b ts = Cons kind.Procedure [] [] (name (codes "P") (Cons kind.Params [] [] (Cons kind.Valparam [] [] (Cons kind.Names [] [] (name a Nil) (name (codes "integer") Nil)) Nil) b)) ts

abbrev procq : List ℕ → Forest → Forest → Forest
procq n b ts = Cons kind.Procedure [] [] (name n (Cons kind.Params [] [] Nil b)) ts

abbrev forward : Forest
forward = Cons kind.Forward (codes "forward") [] Nil Nil

abbrev t : Plain
t = record {
  kind = kind.Program;
  word = [];
  notes = [];
  kids = name (codes "t") (Cons kind.Heads [] [] Nil (block (codes "g")
      (proc Nil (codes "a") forward (procq (codes "p") (block (codes "x") (procq (codes "q") (block (codes "w") Nil) Nil)) (procq (codes "p") (block (codes "y") (procq (codes "r") (block (codes "u") Nil) Nil))
      (Cons kind.Procedure [] [] (Cons (kind.Hole sort.Name) [] [] Nil (Cons kind.Params [] [] Nil (block (codes "z") Nil))) (procq (codes "G") (block (codes "h") Nil) Nil)))))));
}

abbrev owner_at : List ℕ → List ℕ → Option (List (List ℕ))
owner_at n q = option_map (λ d. d.owner) (declaration t n q)

abbrev place_at : List ℕ → List ℕ → Option (List ℕ)
place_at n q = option_map (λ d. d.declared.place) (declaration t n q)

own-variable : owner_at (codes "X") (3 ∷ 4 ∷ 2 ∷ 3 ∷ 5 ∷ []) ≡ Some (codes "p" ∷ [])
unfolding declaration declaration_in
own-variable = refl

own-parameter : owner_at (codes "A") (3 ∷ 4 ∷ 2 ∷ 3 ∷ 5 ∷ []) ≡ Some (codes "p" ∷ [])
unfolding declaration declaration_in
own-parameter = refl

parameter-of-forward : place_at (codes "A") (3 ∷ 4 ∷ 2 ∷ 3 ∷ 5 ∷ []) ≡ Some (3 ∷ 4 ∷ 1 ∷ 2 ∷ 1 ∷ 1 ∷ 1 ∷ [])
unfolding declaration declaration_in
parameter-of-forward = refl

variable-around : owner_at (codes "x") (3 ∷ 4 ∷ 2 ∷ 3 ∷ 4 ∷ 1 ∷ 3 ∷ 5 ∷ []) ≡ Some (codes "p" ∷ [])
unfolding declaration declaration_in
variable-around = refl

inner-variable : owner_at (codes "w") (3 ∷ 4 ∷ 2 ∷ 3 ∷ 4 ∷ 1 ∷ 3 ∷ 5 ∷ []) ≡ Some (codes "p" ∷ codes "q" ∷ [])
unfolding declaration declaration_in
inner-variable = refl

second-routine : owner_at (codes "y") (3 ∷ 4 ∷ 3 ∷ 3 ∷ 5 ∷ []) ≡ Some []
unfolding declaration declaration_in
second-routine = refl

inside-second : owner_at (codes "u") (3 ∷ 4 ∷ 3 ∷ 3 ∷ 4 ∷ 1 ∷ 3 ∷ 5 ∷ []) ≡ Some []
unfolding declaration declaration_in
inside-second = refl

nameless-routine : owner_at (codes "z") (3 ∷ 4 ∷ 4 ∷ 3 ∷ 5 ∷ []) ≡ Some []
unfolding declaration declaration_in
nameless-routine = refl

routine-named-as-variable : owner_at (codes "h") (3 ∷ 4 ∷ 5 ∷ 3 ∷ 5 ∷ []) ≡ Some []
unfolding declaration declaration_in
routine-named-as-variable = refl

first-of-name : place_at (codes "p") (3 ∷ 4 ∷ 5 ∷ 3 ∷ 5 ∷ []) ≡ Some (3 ∷ 4 ∷ 1 ∷ 1 ∷ [])
unfolding declaration declaration_in
first-of-name = refl

not-in-scope : place_at (codes "x") (3 ∷ 4 ∷ 5 ∷ 3 ∷ 5 ∷ []) ≡ None
unfolding declaration declaration_in
not-in-scope = refl
