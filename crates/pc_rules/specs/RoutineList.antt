-- All routines of a program, in text order, the program itself first.
use Rattle.std.specs.Prelude.{ℕ, true, false, not, ◌&&◌, ◌==◌, if◌then◌else◌, List, [], ◌∷◌, length, Option, Some, None, option_map, ◌++◌, suc}
use Rattle.std.specs.Option.{option_and_then, option_map_or, is_some}
use Rattle.pc_syntax.specs.declared.kind.Kind.{Kind}
use Rattle.pc_syntax.specs.Plain.{Forest, Nil, Cons, Plain}
use Rattle.pc_syntax.specs.Words.{is_among}
use Rattle.pc_types.specs.Shapes.{Owner, Keyed, Placed}
use Rattle.pc_scope.specs.Blocks.{block_kids, kid_count}
use Rattle.pc_scope.specs.Headings.{Heading, pairs}
use Rattle.pc_rules.specs.Places.{inner, beside}
use Rattle.pc_rules.specs.Attributes.{first}
use Rattle.pc_rules.specs.Declarations.{heading_here, is_later_declaration}
use Rattle.pc_rules.specs.Decorated.{decorate}
use Rattle.pc_rules.specs.Meanings.{Meaning, Found, Local, find}
use Rattle.pc_rules.specs.OwnBlock.{own, heading_part}
use Rattle.pc_rules.specs.RequiredMeanings.{required_or_missing}
use Rattle.pc_rules.specs.Routines.{Routine, bare, parameters_of, start_of}
use Rattle.pc_syntax.specs.declared.kind.Kind.TheVariants as kind

-- what a forward heading gives to its later declaration
pub record Forwarded : Type 0 where
  pub heading : Heading
  pub key : Option (List (List ℕ))
  pub parameters : List (List ℕ × Meaning)

-- the first of some forward headings that pairs with a heading
abbrev pub forwarded_for : Heading → List Forwarded → Option Forwarded
forwarded_for h [] = None
forwarded_for h (f ∷ fs) = if pairs h f.heading then Some f else forwarded_for h fs

-- those that don't pair with it
abbrev pub without_forwarded : Heading → List Forwarded → List Forwarded
without_forwarded h [] = []
without_forwarded h (f ∷ fs) = if pairs h f.heading then without_forwarded h fs else f ∷ without_forwarded h fs

-- a routine by its key, and by its place where it has none
abbrev pub owner_of : Option (List (List ℕ)) → List ℕ → Owner
owner_of (Some k) p = Keyed k
owner_of None p = Placed p

-- the key of a routine with this name, from the key of the routine around
abbrev pub extended : Option (List (List ℕ)) → List ℕ → Option (List (List ℕ))
extended key n = option_map (λ (k : List (List ℕ)). k ++ n ∷ []) key

-- the routine that a node is: what names mean at its heading and its block, its own name included; where it stands, the forward
-- headings before it, its place, the key of the routine around
abbrev pub routine_of : (List ℕ → Found) → Local → List Forwarded → List ℕ → Option (List (List ℕ)) → Kind → Forest → Routine
routine_of m l fs p key k ks =
    let later = is_later_declaration l in
    let h = heading_here l in
    let is_first = not later && not (length h.name == 0) && not (is_among l.passed h.name) in
    let f = forwarded_for h fs in
    let own_key = if later then option_and_then (λ (x : Forwarded). x.key) f else if is_first then extended key h.name else None in
    record {
      place = p;
      kind = k;
      owner = owner_of own_key p;
      parent = l.owner;
      name = h.name;
      is_first = is_first;
      has_key = is_some own_key;
      is_later = later;
      given = option_map_or (λ (x : Forwarded). x.parameters) f [];
      means = m;
      heading = heading_part ks;
      block = own (block_kids ks);
      block_kid = kid_count ks;
    }

-- the key of a routine that has one
abbrev pub key_of : Owner → Option (List (List ℕ))
key_of (Keyed k) = Some k
key_of (Placed p) = None

-- the forward headings that count behind a routine
abbrev pub forwarded_by : Local → Routine → List Forwarded → List Forwarded
forwarded_by l r fs =
    if (heading_here l).is_forward then fs ++ record { heading = heading_here l; key = key_of r.owner; parameters = parameters_of r } ∷ []
    else without_forwarded (heading_here l) fs

-- what a node of a block is for the routines in it
pub data Part : Type 0 where
  ARoutine : Part
  AllRoutines : Part
  NoRoutine : Part

-- the same, by its kind
abbrev pub part_of : Kind → Part
part_of kind.Procedure = ARoutine
part_of kind.Function = ARoutine
part_of kind.Funbody = ARoutine
part_of kind.Routines = AllRoutines
part_of _ = NoRoutine

-- all routines in some trees, from where the first stands; and in the block among a routine's kids
unfoldable mutual
  pub routines_in : (List ℕ → Found) → Local → List Forwarded → List ℕ → Option (List (List ℕ)) → Forest → List Routine
  routines_in m l fs p key Nil = []
  routines_in m l fs p key (Cons k w ns ks ts) =
      let after = beside l k (first (decorate (bare m) l (own (Cons k w ns ks Nil)))) in
      let r = routine_of (find (bare m) after) l fs (p ++ l.kid ∷ []) key k ks in
      elim (part_of k) [
        | ARoutine ↦ (r ∷ routines_below r 1 ks) ++ routines_in m after (forwarded_by l r fs) p key ts
        | AllRoutines ↦ routines_in m (inner l k ks) [] (p ++ l.kid ∷ []) key ks
        | NoRoutine ↦ routines_in m after fs p key ts
      ]

  pub routines_below : Routine → ℕ → Forest → List Routine
  routines_below r i Nil = []
  routines_below r i (Cons kind.Block w ns ks ts) = routines_in r.means (start_of r) [] (r.place ++ i ∷ []) (key_of r.owner) ks
  routines_below r i (Cons k w ns ks ts) = routines_below r (suc i) ts

-- the program as a routine
abbrev pub program_routine : Plain → Routine
program_routine t = record {
  place = [];
  kind = kind.Program;
  owner = Keyed [];
  parent = Keyed [];
  name = [];
  is_first = false;
  has_key = true;
  is_later = false;
  given = [];
  means = required_or_missing;
  heading = heading_part t.kids;
  block = own (block_kids t.kids);
  block_kid = 3;
}

-- the routines of a program
unfoldable pub routines_of : Plain → List Routine
routines_of t = program_routine t ∷ routines_below (program_routine t) 1 t.kids
