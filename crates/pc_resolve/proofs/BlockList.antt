-- The list of the routines of a block, from its beginning: lemmas.
use Rattle.std.proofs.Common.{◌≡◌, ◌+◌, ℕ, List, [], ◌∷◌, ◌++◌, Option, Some, None, slice_get, refl, ap, ◌∙◌, append_assoc}
use Rattle.std.proofs.Math.Numerals.{one-add}
use Rattle.std.specs.Option.{option_and_then}
use Rattle.pc_syntax.specs.Parts.{kid_at}
use Rattle.pc_syntax.specs.Places.{at}
use Rattle.pc_syntax.specs.Plain.{Plain, kids_of, trees_of}
use Rattle.pc_syntax.specs.WellFormed.{IsProper}
use Rattle.pc_syntax.specs.declared.kind.Kind.TheVariants as kind
use Rattle.pc_rules.specs.Meanings.{Local}
use Rattle.pc_rules.specs.Outsides.{outside_of}
use Rattle.pc_rules.specs.Places.{inner}
use Rattle.pc_rules.specs.RoutineList.{key_of, routines_below, routines_in, routines_of}
use Rattle.pc_rules.specs.Routines.{Routine, start_of}
use Rattle.pc_environment.specs.Decorating.{place_after}
use Rattle.pc_program_laws.specs.Routines.{RoutinesLaw}
use Rattle.pc_program_laws.specs.Unsigned.{UnsignedLaw}
use Rattle.pc_pointers.specs.Good.{Targets}
use Rattle.pc_block_laws.specs.BodyPlace.{BodyPlaceLaw}
use Rattle.pc_resolve.specs.Blocks.{IsPart, IsRoutineOf}
use Rattle.pc_resolve.specs.Lists.{IsListOf}
use Rattle.pc_resolve.proofs.StartLemmas.{inside-list, same-place}

behind-some : (f g h : Plain → Option Plain) → ((k : Plain) → f k ≡ option_and_then h (g k)) → (o : Option Plain) → option_and_then f o ≡ option_and_then h (option_and_then g o)
behind-some f g h each None = refl
behind-some f g h each (Some k) = each k

-- a node by one way and another behind it
at-behind : (p q : List ℕ) (t : Plain) → at (p ++ q) t ≡ option_and_then (at q) (at p t)
at-behind [] q t = refl
at-behind (i ∷ p) q t = behind-some (at (p ++ q)) (at p) (at q) (λ k. at-behind p q k) (kid_at t i)

and-some : (o : Option Plain) → option_and_then (at []) o ≡ o
and-some None = refl
and-some (Some k) = refl

kid-next : (d : Plain) (i : ℕ) → kid_at d (1 + i) ≡ slice_get (trees_of d.kids) i
unfolding kids_of
kid-next d i = ap (kid_at d) (one-add i)

-- the kids of the list, by their places in the program
list-kids : (t x node d : Plain) (place : List ℕ) (number i : ℕ) → at place t ≡ Some x → at (number ∷ []) x ≡ Some node → kid_at node 4 ≡ Some d → at ((place ++ number ∷ 4 ∷ []) ++ (1 + i) ∷ []) t ≡ kid_at d (1 + i)
list-kids t x node d place number i here there fourth =
    let way = number ∷ 4 ∷ (1 + i) ∷ [] in
    ap (λ (p : List ℕ). at p t) (append_assoc place (number ∷ 4 ∷ []) ((1 + i) ∷ []))
    ∙ at-behind place way t ∙ ap (option_and_then (at way)) here
    ∙ at-behind (number ∷ []) (4 ∷ (1 + i) ∷ []) x ∙ ap (option_and_then (at (4 ∷ (1 + i) ∷ []))) there
    ∙ ap (option_and_then (at ((1 + i) ∷ []))) fourth ∙ and-some (kid_at d (1 + i))

-- the routines inside a routine are those of the list
pub below-list : RoutinesLaw → UnsignedLaw → (t : Plain) (targets : Targets) (r : Routine) (x : Plain) (done beyond : List Routine) (number : ℕ) (node a b c d e : Plain) →
    IsRoutineOf t targets r x done beyond → IsPart x number node → node.kind ≡ kind.Block → IsProper node → kids_of node ≡ a ∷ b ∷ c ∷ d ∷ e ∷ [] → d.kind ≡ kind.Routines →
    routines_below r 1 x.kids
    ≡ routines_in r.means (inner (place_after (outside_of (routines_of t) r) (start_of r) (a ∷ b ∷ c ∷ [])) kind.Routines d.kids) [] (r.place ++ number ∷ 4 ∷ []) (key_of r.owner) d.kids
below-list law unsigned t targets r x done beyond number node a b c d e h part is proper five list =
    inside-list law.inside law.own_block r x node a b c d e number h.heading h.proper part.kids part.number_is is proper five list
    ∙ ap (λ (p : Local). routines_in r.means (inner p kind.Routines d.kids) [] (r.place ++ number ∷ 4 ∷ []) (key_of r.owner) d.kids)
    (same-place unsigned law.own_block (routines_of t) r (start_of r) node a b c d e is proper five)

-- the list
pub block-list : RoutinesLaw → UnsignedLaw → BodyPlaceLaw → (t : Plain) (targets : Targets) (r : Routine) (x : Plain) (done beyond : List Routine) (number : ℕ) (node a b c d e : Plain) →
    IsRoutineOf t targets r x done beyond → IsPart x number node → node.kind ≡ kind.Block → IsProper node → kids_of node ≡ a ∷ b ∷ c ∷ d ∷ e ∷ [] → d.kind ≡ kind.Routines →
    IsListOf t targets r done beyond (inner (place_after (outside_of (routines_of t) r) (start_of r) (a ∷ b ∷ c ∷ [])) kind.Routines d.kids) [] (r.place ++ number ∷ 4 ∷ []) d.kids
block-list law unsigned body t targets r x done beyond number node a b c d e h part is proper five list =
    let all = routines_of t in
    let l3 = place_after (outside_of all r) (start_of r) (a ∷ b ∷ c ∷ []) in
    let fourth : kid_at node 4 ≡ Some d = ap (λ (ts : List Plain). slice_get ts 3) five in
    record {
      facts = h.facts;
      among = h.among;
      gone = h.gone;
      owner = (body.kid l3 kind.Routines d.kids).owner ∙ (body.behind (outside_of all r) (start_of r) (a ∷ b ∷ c ∷ [])).owner;
      ahead = refl;
      kids = λ i. list-kids t x node d r.place number i h.here part.there fourth ∙ kid-next d i;
      order =
          h.order
          ∙ ap (λ (rs : List Routine). done ++ rs ++ beyond)
          (below-list law unsigned t targets r x done beyond number node a b c d e h part is proper five list);
    }
