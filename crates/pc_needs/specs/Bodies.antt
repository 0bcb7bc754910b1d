-- Programs that differ in statement parts alone (ISO 7185, 6.2.1): their routines are the same but for their blocks.
use Rattle.std.specs.Prelude.{ℕ, ◌≡◌, ◌⊎◌, Bool, true, false, if◌then◌else◌, List, [], ◌∷◌, ◌++◌}
use Rattle.pc_syntax.specs.declared.kind.Kind.{Kind}
use Rattle.pc_syntax.specs.declared.kind.Kind.TheVariants as kind
use Rattle.pc_syntax.specs.declared.sort.Sort.TheVariants as sort
use Rattle.pc_syntax.specs.Classes.{is_body}
use Rattle.pc_syntax.specs.Plain.{Forest, Nil, Cons, Plain}
use Rattle.pc_syntax.specs.Places.{put}
use Rattle.pc_syntax.specs.WellFormed.{IsProper}
use Rattle.pc_types.specs.Shapes.{Placed}
use Rattle.pc_rules.specs.Errors.{is_program}
use Rattle.pc_rules.specs.RoutineList.{routines_of}
use Rattle.pc_rules.specs.Routines.{Routine}
use Rattle.pc_needs.specs.Inside.{is_below}
use Rattle.pc_needs.specs.Unaffected.{IsOneOf, SameRoutine}

-- whether the statement parts of routines stand below a node: a block, its routines, or one of them
abbrev pub holds_bodies : Kind → Bool
holds_bodies kind.Block = true
holds_bodies kind.Routines = true
holds_bodies kind.Procedure = true
holds_bodies kind.Function = true
holds_bodies kind.Funbody = true
holds_bodies _ = false

-- trees with a hole in the place of each statement part, whatever stands there
unfoldable pub without_bodies : Forest → Forest
without_bodies Nil = Nil
without_bodies (Cons k w ns ks ts) =
    if is_body k then Cons (kind.Hole sort.Statement) [] [] Nil (without_bodies ts)
    else Cons k w ns (if holds_bodies k then without_bodies ks else ks) (without_bodies ts)

-- two programs are the same but for their statement parts
pub record HaveOneFrame (t u : Plain) : Type 0 where
  pub kind : t.kind ≡ u.kind
  pub word : t.word ≡ u.word
  pub notes : t.notes ≡ u.notes
  pub kids : without_bodies t.kids ≡ without_bodies u.kids

-- two routines are the same but for their own blocks
abbrev pub AreTwins : Routine → Routine → Type 0
AreTwins r s = record r { block = s.block } ≡ s

-- the routines of two lists, one by one
abbrev pub AllTwins : List Routine → List Routine → Type 0
AllTwins [] [] = Unit {0}
AllTwins [] (s ∷ ss) = ⊥
AllTwins (r ∷ rs) [] = ⊥
AllTwins (r ∷ rs) (s ∷ ss) = AreTwins r s × AllTwins rs ss

-- programs that are the same but for their statement parts have the same routines, but for the own blocks of these
abbrev pub FrameLaw : Type 0
FrameLaw = (t u : Plain) → IsProper t → IsProper u → is_program t.kind ≡ true → HaveOneFrame t u → AllTwins (routines_of t) (routines_of u)

-- of two lists of routines, one by one, only the blocks of routines at a place may differ
abbrev pub SameBlocksBut : List ℕ → List Routine → List Routine → Type 0
SameBlocksBut q [] [] = Unit {0}
SameBlocksBut q [] (s ∷ ss) = ⊥
SameBlocksBut q (r ∷ rs) [] = ⊥
SameBlocksBut q (r ∷ rs) (s ∷ ss) = ((r.place ≡ q) ⊎ (r.block ≡ s.block)) × SameBlocksBut q rs ss

-- nothing but the statement part of one routine differs in two programs
pub record DifferInBody (t u : Plain) (x : Routine) : Type 0 where
  pub among : IsOneOf (routines_of t) x
  pub frame : HaveOneFrame t u
  pub blocks : SameBlocksBut x.place (routines_of t) (routines_of u)

-- the statement part of another routine, which isn't inside this one
pub record IsElsewhere (t u : Plain) (r x : Routine) : Type 0 where
  pub differ : DifferInBody t u x
  pub other : x.place ≡ r.place → ⊥
  pub outside : is_below r.place x.place ≡ false

-- A change doesn't affect a routine that has no key: the programs are equal, or the change stands in the statement part of another
-- routine that isn't inside it. (As it has no key, that is decided by places alone.)
abbrev pub LeavesPlaced : Plain → Plain → Routine → Type 0
LeavesPlaced t u r = (t ≡ u) ⊎ ((x : Routine) × IsElsewhere t u r x)

-- then the routine at its place has the same errors and the same is found in it
abbrev pub PlacedLaw : Type 0
PlacedLaw = (t u : Plain) (r s : Routine) (p : List ℕ) → IsProper t → IsProper u → is_program t.kind ≡ true → IsOneOf (routines_of t) r → IsOneOf (routines_of u) s →
    r.owner ≡ Placed p → s.place ≡ r.place → LeavesPlaced t u r → SameRoutine (routines_of t) (routines_of u) r s

-- the same of a routine that has one
abbrev pub ElsewhereLaw : Type 0
ElsewhereLaw = (t u : Plain) (r s x : Routine) → IsProper t → IsProper u → is_program t.kind ≡ true → IsOneOf (routines_of t) r → IsOneOf (routines_of u) s → s.place ≡ r.place →
    IsElsewhere t u r x → SameRoutine (routines_of t) (routines_of u) r s × (r ≡ s)

-- no two routines of a program stand at one place
abbrev pub PlacesLaw : Type 0
PlacesLaw = (t : Plain) (a b : Routine) → IsOneOf (routines_of t) a → IsOneOf (routines_of t) b → a.place ≡ b.place → a ≡ b

-- a path leads into the statement part of a routine: the fifth kid of its block
abbrev pub StandsInBody : Routine → List ℕ → Type 0
StandsInBody x path = (rest : List ℕ) × (path ≡ x.place ++ x.block_kid ∷ 5 ∷ rest)

-- where another node is put there, nothing else differs
abbrev pub ChangeLaw : Type 0
ChangeLaw = (t piece : Plain) (x : Routine) (path : List ℕ) → IsProper t → IsProper (put path t piece) → is_program t.kind ≡ true → IsOneOf (routines_of t) x → StandsInBody x path →
    DifferInBody t (put path t piece) x
