-- The list of the routines of a program, node by node (ISO 7185, 6.2.1, 6.6.1, 6.6.2).
use Rattle.std.specs.Prelude.{ℕ, ◌≡◌, Bool, true, List, [], ◌∷◌, Option, ◌+◌, ◌++◌}
use Rattle.pc_syntax.specs.declared.kind.Kind.{Kind}
use Rattle.pc_syntax.specs.declared.kind.Kind.TheVariants as kind
use Rattle.pc_syntax.specs.Layout.{layout}
use Rattle.pc_syntax.specs.Plain.{Forest, Nil, Cons, Plain, count, kinds}
use Rattle.pc_syntax.specs.WellFormed.{WellFormed, IsProper, fits_some}
use Rattle.pc_scope.specs.Headings.{is_routine_kind}
use Rattle.pc_scope.specs.Blocks.{block_kids, kid_count, routines_among}
use Rattle.pc_rules.specs.Attributes.{first}
use Rattle.pc_rules.specs.Decorated.{decorate}
use Rattle.pc_rules.specs.Errors.{is_program, entries_of}
use Rattle.pc_rules.specs.Meanings.{Found, Local, find}
use Rattle.pc_rules.specs.OwnBlock.{own}
use Rattle.pc_rules.specs.Places.{inner, beside}
use Rattle.pc_rules.specs.RoutineList.{Forwarded, routine_of, key_of, forwarded_by, ARoutine, NoRoutine, part_of, routines_in, routines_below, program_routine, routines_of}
use Rattle.pc_rules.specs.Routines.{Routine, bare, start_of}

-- whether it is a routine or a program: its block is its last kid
abbrev pub has_heading : Kind → Bool
has_heading kind.Program = true
has_heading k = is_routine_kind k

-- where the node behind the first of some trees stands, where nothing is said of routines
abbrev pub behind_first : (List ℕ → Found) → Local → Kind → List ℕ → List (List ℕ) → Forest → Local
behind_first m l k w ns ks = beside l k (first (decorate (bare m) l (own (Cons k w ns ks Nil))))

-- the routine that the first of some trees is
abbrev pub routine_here : (List ℕ → Found) → Local → List Forwarded → List ℕ → Option (List (List ℕ)) → Kind → List ℕ → List (List ℕ) → Forest → Routine
routine_here m l fs p key k w ns ks = routine_of (find (bare m) (behind_first m l k w ns ks)) l fs (p ++ l.kid ∷ []) key k ks

-- where the first routine of a block stands, from where the block's kids begin
abbrev pub routines_start : (List ℕ → Found) → Local → Forest → Local
routines_start m l (Cons a v1 n1 k1 (Cons b v2 n2 k2 (Cons c v3 n3 k3 (Cons d v4 n4 k4 ts)))) =
    inner (behind_first m (behind_first m (behind_first m l a v1 n1 k1) b v2 n2 k2) c v3 n3 k3) d k4
routines_start m l f = l

-- a routine in a list of them: itself, those inside it, and those behind it
abbrev pub NextRoutineLaw : Type 0
NextRoutineLaw = (m : List ℕ → Found) (l : Local) (fs : List Forwarded) (p : List ℕ) (key : Option (List (List ℕ))) (k : Kind) (w : List ℕ) (ns : List (List ℕ)) (ks ts : Forest) →
    part_of k ≡ ARoutine →
    routines_in m l fs p key (Cons k w ns ks ts)
    ≡ (routine_here m l fs p key k w ns ks ∷ routines_below (routine_here m l fs p key k w ns ks) 1 ks)
    ++ routines_in m (behind_first m l k w ns ks) (forwarded_by l (routine_here m l fs p key k w ns ks) fs) p key ts

-- a node that is no routine: those behind it
abbrev pub NoRoutineLaw : Type 0
NoRoutineLaw = (m : List ℕ → Found) (l : Local) (fs : List Forwarded) (p : List ℕ) (key : Option (List (List ℕ))) (k : Kind) (w : List ℕ) (ns : List (List ℕ)) (ks ts : Forest) →
    part_of k ≡ NoRoutine → routines_in m l fs p key (Cons k w ns ks ts) ≡ routines_in m (behind_first m l k w ns ks) fs p key ts

-- a well-formed block: those of its fourth kid
abbrev pub BlockRoutinesLaw : Type 0
BlockRoutinesLaw = (m : List ℕ → Found) (l : Local) (fs : List Forwarded) (p : List ℕ) (key : Option (List (List ℕ))) (w : List ℕ) (f : Forest) →
    fits_some (layout kind.Block w (count f)) (kinds f) ≡ true →
    routines_in m l fs p key f ≡ routines_in m (routines_start m l f) [] (p ++ (l.kid + 3) ∷ []) key (routines_among f)

-- inside a routine or a program: those of its block, the last kid, and none where it has none
abbrev pub InsideRoutinesLaw : Type 0
InsideRoutinesLaw = (r : Routine) (k : Kind) (w : List ℕ) (ks : Forest) → has_heading k ≡ true → fits_some (layout k w (count ks)) (kinds ks) ≡ true → WellFormed ks →
    routines_below r 1 ks
    ≡ routines_in r.means (routines_start r.means (start_of r) (block_kids ks)) [] (r.place ++ kid_count ks ∷ 4 ∷ []) (key_of r.owner) (routines_among (block_kids ks))

-- a block with bare routines, its other kids as they are
abbrev pub with_bare_routines : Forest → Forest
with_bare_routines (Cons a v1 n1 k1 (Cons b v2 n2 k2 (Cons c v3 n3 k3 (Cons d v4 n4 k4 ts)))) = Cons a v1 n1 k1 (Cons b v2 n2 k2 (Cons c v3 n3 k3 (Cons d v4 n4 (own k4) ts)))
with_bare_routines f = f

-- the own block of a well-formed one differs in its routines alone
abbrev pub OwnBlockLaw : Type 0
OwnBlockLaw = (w : List ℕ) (f : Forest) → fits_some (layout kind.Block w (count f)) (kinds f) ≡ true → WellFormed f → own f ≡ with_bare_routines f

-- the block of a program is its third kid
abbrev pub ProgramKidsLaw : Type 0
ProgramKidsLaw = (t : Plain) → IsProper t → is_program t.kind ≡ true → kid_count t.kids ≡ 3

-- in the own block the first routine stands at the same place
abbrev pub SamePlaceLaw : Type 0
SamePlaceLaw = (l : Local) (rs : Forest) → inner l kind.Routines (own rs) ≡ inner l kind.Routines rs

-- the entries of two lists of routines, one behind the other
abbrev pub EntriesLaw : Type 0
EntriesLaw = (all rs us : List Routine) → entries_of all (rs ++ us) ≡ entries_of all rs ++ entries_of all us

-- the list of the routines of a program, as code goes through it
pub record RoutinesLaw : Type 0 where
  pub program : (t : Plain) → routines_of t ≡ program_routine t ∷ routines_below (program_routine t) 1 t.kids
  pub next : NextRoutineLaw
  pub other : NoRoutineLaw
  pub block : BlockRoutinesLaw
  pub inside : InsideRoutinesLaw
  pub start : SamePlaceLaw
  pub own_block : OwnBlockLaw
  pub program_kids : ProgramKidsLaw
  pub entries : EntriesLaw
