-- Where the walk over a program begins: lemmas.
use Rattle.std.proofs.Common.{◌≡◌, ◌<◌, ℕ, Bool, true, false, ◌||◌, if◌then◌else◌, List, [], ◌∷◌, ◌++◌, Option, Some, None, get_or, length, slice_get, inl, refl, ap, sym, ◌∙◌, subst, append-nil, arith, Result, Ok, Err, IfOk}
use Rattle.pc_syntax.specs.Classes.{has}
use Rattle.pc_syntax.specs.Plain.{Forest, Nil, Plain}
use Rattle.pc_syntax.specs.WellFormed.{IsProper}
use Rattle.pc_syntax.specs.declared.class.Class.TheVariants as class
use Rattle.pc_syntax.specs.declared.kind.Kind.{Kind}
use Rattle.pc_syntax.specs.declared.kind.Kind.TheVariants as kind
use Rattle.pc_scope.specs.Required.{is_required_type, is_required_constant, is_required_function, is_required_procedure, is_required_file}
use Rattle.pc_types.specs.Shapes.{Owner, Keyed}
use Rattle.pc_types.specs.Table.{Table as TypeTable, nobody}
use Rattle.pc_names.specs.Numbers.{AreDistinct, number_of}
use Rattle.pc_names.specs.Bindings.{slot_in}
use Rattle.pc_names.specs.Table.{Table, slot_at, slot_named}
use Rattle.pc_names.specs.declared.slot.Slot.{Slot}
use Rattle.pc_rules.specs.Attributes.{Entry, at_kid, nodes}
use Rattle.pc_rules.specs.Decorated.{decorate}
use Rattle.pc_rules.specs.Errors.{is_program, entries_of, from_place}
use Rattle.pc_rules.specs.HandedOn.{kid_entries}
use Rattle.pc_rules.specs.Headings.{entries_of_heading, heading_entries}
use Rattle.pc_rules.specs.Meanings.{Required, Missing}
use Rattle.pc_rules.specs.OwnBlock.{own}
use Rattle.pc_rules.specs.Outsides.{completed_by, outside_of}
use Rattle.pc_rules.specs.RequiredMeanings.{required_or_missing}
use Rattle.pc_rules.specs.RoutineList.{program_routine, routines_below, routines_of}
use Rattle.pc_rules.specs.Routines.{Routine, heading_marks, start_of}
use Rattle.pc_program_laws.specs.Routines.{RoutinesLaw, has_heading}
use Rattle.pc_sightings.specs.TouchedLog.{AreApart}
use Rattle.pc_facts.specs.declared.sighting.Declared.{Declared}
use Rattle.pc_places.specs.Parameters.{ShowsParameters, AreNamed, HaveNames}
use Rattle.pc_places.specs.Places.{known, IsNamed}
use Rattle.pc_places.specs.declared.parameter.Parameter.{Parameter}
use Rattle.pc_access_rules.specs.Selves.{ShowsSelf}
use Rattle.pc_facts.specs.declared.sighting.Variable.{Variable}
use Rattle.pc_headings.specs.Headed.{marks_in}
use Rattle.pc_targets.specs.Blocks.{GoodLaw, SaidLaw}
use Rattle.pc_targets.specs.Program.{targets_of}
use Rattle.pc_targets.proofs.NamesLemmas.{program-parameters}
use Rattle.pc_block_laws.specs.BodyPlace.{BodyPlaceLaw}
use Rattle.pc_block_laws.specs.Once.{OnceLaw}
use Rattle.pc_block_laws.specs.OwnTypes.{OwnLaw}
use Rattle.pc_block_laws.specs.Owners.{OwnersLaw}
use Rattle.pc_routine_sites.specs.Sites.{OwnersAmong, Sound, StandsAround}
use Rattle.pc_routine_sites.specs.declared.site.RoutineSite.{RoutineSite}
use Rattle.pc_own_names.specs.declared.own_name.RoutineNames.{RoutineNames}
use Rattle.pc_resolve.specs.Blocks.{BlockShown, IsPart, IsRoutineOf, IsSomeBlock, ResolvesBare, ResolvesBlock, StandsBegun}
use Rattle.pc_resolve.specs.Kept.{AreKept}
use Rattle.pc_resolve.specs.Parts.{IsRoutinePart, HasNoBlock}
use Rattle.pc_resolve.specs.Program.{IsBegun, IsProgramFound, IsProgramKept, IsProgramSite}
use Rattle.pc_resolve.specs.declared.resolver.BlockEntries.{BlockEntries}
use Rattle.pc_resolve.specs.declared.resolver.Resolver.{Resolver}
use Rattle.pc_resolve.proofs.FactsLemmas.{program-facts}
use Rattle.pc_resolve.proofs.RoutineEntries.{block_entries_of, routine-entries}

-- the laws by which a program has its facts
pub record RootLaws : Type 0 where
  pub said : SaidLaw
  pub good : GoodLaw
  pub once : OnceLaw
  pub own : OwnLaw
  pub body : BodyPlaceLaw
  pub owners : OwnersLaw
  pub routines : RoutinesLaw

-- the program is a routine with those inside it, and nothing beyond
pub root-order : RoutinesLaw → (t : Plain) → routines_of t ≡ (program_routine t ∷ []) ++ routines_below (program_routine t) 1 t.kids ++ []
root-order law t = law.program t ∙ ap (λ (rs : List Routine). program_routine t ∷ rs) (sym (append-nil (routines_below (program_routine t) 1 t.kids)))

has-program : (k : Kind) → is_program k ≡ true → has_heading k ≡ true
has-program kind.Program e = refl
has-program k e = absurd (cc e)

-- the program as the routine with which the walk begins
pub root-routine : RootLaws → (t : Plain) → IsProper t → is_program t.kind ≡ true → IsRoutineOf t (targets_of t) (program_routine t) t (program_routine t ∷ []) []
unfolding routines_of
root-routine laws t proper program = record {
  facts = program-facts laws.said laws.good laws.once laws.own laws.body laws.owners t proper program;
  among = inl refl;
  gone = inl refl;
  here = refl;
  proper = proper;
  heading = has-program t.kind program;
  heading_is = refl;
  block = refl;
  block_kid = sym (laws.routines.program_kids t proper program);
  order = root-order laws.routines t;
}

-- its block
pub root-part : (t : Plain) (number : ℕ) (node : Plain) → IsRoutinePart t number node → IsPart t number node
root-part t number node part = record { kids = part.kids; number_is = part.number_is; there = part.there; has = part.has }

-- ---- the tables that know nothing

nothing-bound : (t : Table) → t.slots ≡ [] → (b : ℕ) (n : List ℕ) → (slot_named t b n).known ≡ None
nothing-bound t e b n = by (number_of t.texts n)
  where
    by : (o : Option ℕ) → (slot_at t.slots b o).known ≡ None
    by None = refl
    by (Some i) = ap (λ (ss : List ((ℕ × ℕ) × Slot)). (slot_in ss b i).known) e

begun-distinct : (ns : List (List ℕ)) → ns ≡ [] → AreDistinct ns
begun-distinct ns e i j n p q = absurd (cc (ap (λ (ms : List (List ℕ)). slice_get ms i) (sym e) ∙ p))

begun-named : (t : Table) (ds : List Declared) → t.slots ≡ [] → IsNamed t ds
begun-named t ds e b n d h = absurd (cc (sym (nothing-bound t e b n) ∙ h))

first-owners : OwnersLaw → (t : Plain) (k : List Routine) → routines_of t ≡ program_routine t ∷ k → AreApart (nobody ∷ []) × OwnersAmong (nobody ∷ []) (program_routine t ∷ [])
first-owners law t k order =
    let x = law.first t (program_routine t) k order in
    (x.0, λ i lt. let y = x.1 i lt in (y.0, y.1, sym y.2))

-- no declaration is around the program
outermost : (all : List Routine) (n : List ℕ) → completed_by all n (required_or_missing n) ≡ required_or_missing n
outermost all n = by (is_required_type n || is_required_constant n || is_required_function n || is_required_procedure n || is_required_file n)
  where
    by : (b : Bool) → completed_by all n (if b then Required n else Missing) ≡ (if b then Required n else Missing)
    by true = refl
    by false = refl

root-sound : OwnersLaw → RoutinesLaw → (t : Plain) (s : Resolver) → IsBegun s → Sound (routines_of t) (program_routine t ∷ []) s.tables []
root-sound law routines t s begun =
    let first = first-owners law t (routines_below (program_routine t) 1 t.kids) (routines.program t) in
    let owners = sym (ap (λ (x : TypeTable). x.owners) begun.types) in
    record {
      distinct = begun-distinct s.tables.names.texts begun.texts;
      named = begun-named s.tables.names s.tables.declarations.items begun.slots;
      signed = tt;
      apart = subst AreApart owners first.0;
      owners = subst (λ (os : List Owner). OwnersAmong os (program_routine t ∷ [])) owners first.1;
    }

root-around : (t : Plain) (s : Resolver) (site : RoutineSite) → IsProper t → is_program t.kind ≡ true → IsBegun s → IsProgramSite site →
    StandsAround (routines_of t) (program_routine t) s.tables [] site
unfolding outside_of
root-around t s site proper program begun is =
    let owners = ap (λ (x : TypeTable). x.owners) begun.types in
    record {
      finds = λ n. outermost (routines_of t) n;
      owner_is = ap (λ (os : List Owner). get_or os site.owner.0 nobody) owners ∙ ap (λ (i : ℕ). get_or (nobody ∷ []) i nobody) is.owner;
      there = subst (λ (os : List Owner). site.owner.0 < length os) (sym owners) (subst (λ (i : ℕ). i < 1) (sym is.owner) first-there);
      parameters = subst (λ (es : _). ShowsParameters (known s.tables) s.tables.declarations.items site.parameters.items es) (sym (program-parameters t proper program))
          (subst (λ (ps : List Parameter). ShowsParameters (known s.tables) s.tables.declarations.items ps []) (sym is.parameters) tt);
      are_named = subst (λ (ps : List Parameter). AreNamed (length s.tables.names.texts) ps) (sym is.parameters) tt;
      have_names = subst (λ (ps : List Parameter). HaveNames s.tables.declarations.items ps) (sym is.parameters) tt;
      self = subst (λ (v : Option Variable). ShowsSelf (known s.tables) v None) (sym is.own_function) tt;
      key = is.key;
      place = is.place;
      later = is.later;
    }
  where
    first-there : 0 < 1
    first-there = omega arith

-- so the state says what is so where the program's block begins
pub root-begun : RootLaws → (t : Plain) (s : Resolver) (site : RoutineSite) → IsProper t → is_program t.kind ≡ true → IsBegun s → IsProgramSite site →
    StandsBegun (routines_of t) (targets_of t) (program_routine t) (program_routine t ∷ []) [] site s
root-begun laws t s site proper program begun is = record {
  sound = root-sound laws.owners laws.routines t s begun;
  around = root-around t s site proper program begun is;
  told = begun.domains (targets_of t) (known s.tables);
  first = λ e. is.owner;
}

-- there is such a block of a program
pub root-some : RootLaws → (t : Plain) (s : Resolver) (site : RoutineSite) (number : ℕ) (node : Plain) → IsProper t → is_program t.kind ≡ true → IsBegun s → IsProgramSite site → IsRoutinePart t number node →
    IsSomeBlock [] site true number node t s
root-some laws t s site number node proper program begun is part =
    (t, targets_of t, program_routine t, program_routine t ∷ [], [], root-routine laws t proper program, root-part t number node part, refl, root-begun laws t s site proper program begun is)

-- all routines of the program are kept
root-kept : RoutinesLaw → (t : Plain) (inside : List Routine) (s new : Resolver) → IsBegun s → inside ≡ routines_below (program_routine t) 1 t.kids →
    BlockShown (routines_of t) (targets_of t) (program_routine t) inside (program_routine t ∷ []) [] s new → IsProgramKept t new
root-kept law t inside s new begun same shown =
    let notes = shown.notes in
    let rs : program_routine t ∷ inside ≡ routines_of t = ap (λ (qs : List Routine). program_routine t ∷ qs) same ∙ sym (law.program t) in
    let records : new.kept.items ≡ notes.records = notes.kept ∙ ap (λ (xs : List RoutineNames). xs ++ notes.records) begun.kept in
    record {
      kept = subst (λ (p : List RoutineNames × List Routine). AreKept (routines_of t) (known new.tables) p.0 p.1) (λ i. (sym records i, rs i)) notes.declared;
      apart = shown.sound.apart;
    }

-- where it has no block
pub root-bare : RootLaws → (t : Plain) (s new : Resolver) (site : RoutineSite) → IsProper t → is_program t.kind ≡ true → IsBegun s → IsProgramSite site → HasNoBlock t → ResolvesBare [] site t s new → IsProgramKept t new
root-bare laws t s new site proper program begun is none bare =
    root-kept laws.routines t [] s new begun (sym (none.inside (program_routine t)))
    (bare t (targets_of t) (program_routine t) (program_routine t ∷ []) [] (root-routine laws t proper program) none (root-begun laws t s site proper program begun is))

-- the program's parameters are named, as it has none
pub root-named : (site : RoutineSite) (n : ℕ) → IsProgramSite site → AreNamed n site.parameters.items
root-named site n is = subst (λ (ps : List Parameter). AreNamed n ps) (sym is.parameters) tt

-- and what is made of it is what the rules find
pub root-found : RootLaws → (t : Plain) (s new : Resolver) (site : RoutineSite) (number : ℕ) (node : Plain) (es : BlockEntries) → IsProper t → is_program t.kind ≡ true → IsBegun s → IsProgramSite site →
    IsRoutinePart t number node → ResolvesBlock [] site true number node t s new es → IsProgramFound t es × IsProgramKept t new
root-found laws t s new site number node es proper program begun is part found =
    let shown = found t (targets_of t) (program_routine t) (program_routine t ∷ []) [] (root-routine laws t proper program) (root-part t number node part) refl (root-begun laws t s site proper program begun is) in
    (shown.0, root-kept laws.routines t (routines_below (program_routine t) 1 t.kids) s new begun refl shown.1)

-- ---- the entries of the program

program-heading : (t : Plain) (es : List Entry) → es ≡ entries_of_heading kind.Program false (marks_in required_or_missing (Keyed []) t) → es ≡ heading_entries (program_routine t)
unfolding heading_marks
program-heading t es e = e

pub all-entries : RoutinesLaw → (t : Plain) (heading es : List Entry) (found : BlockEntries) (place : List ℕ) → place ≡ [] →
    heading ≡ entries_of_heading kind.Program false (marks_in required_or_missing (Keyed []) t) → IsProgramFound t found →
    es ≡ from_place place (heading ++ at_kid 3 found.own.items) ++ found.inside.items → es ≡ entries_of (routines_of t) (routines_of t)
all-entries law t heading es found place root h f e =
    routine-entries (routines_of t) (routines_below (program_routine t) 1 t.kids) (program_routine t) 3 heading found.own.items found.inside.items es (program-heading t heading h) (ap (at_kid 3) f.own) f.inside_are
    (e ∙ ap (λ (p : List ℕ). from_place p (heading ++ at_kid 3 found.own.items) ++ found.inside.items) root) ∙ ap (entries_of (routines_of t)) (sym (law.program t))

-- an empty block has none
pub no-block-entries : (all : List Routine) (r : Routine) → r.block ≡ Nil → block_entries_of all r ≡ []
unfolding decorate
no-block-entries all r e = ap (λ (b : Forest). kid_entries 1 (nodes (decorate (outside_of all r) (start_of r) b))) e

program-empty : (t : Plain) → HasNoBlock t → (program_routine t).block ≡ Nil
unfolding own
program-empty t none = ap own none.kids

-- without one nothing is found
pub none-found : (t : Plain) (found : BlockEntries) → HasNoBlock t → found.own.items ≡ [] → found.inside.items ≡ [] → IsProgramFound t found
none-found t found none o i =
    record {
      own = o ∙ sym (no-block-entries (routines_of t) (program_routine t) (program-empty t none));
      inside_are = i ∙ ap (entries_of (routines_of t)) (sym (none.inside (program_routine t)));
    }

class-program : (k : Kind) → is_program k ≡ true → has class.Program k ≡ true
class-program kind.Program e = refl
class-program k e = absurd (cc e)

-- what a program's heading asks of it
pub of-class : (t : Plain) → is_program t.kind ≡ true → has class.Program t.kind ≡ true
of-class t e = class-program t.kind e

-- what follows of an answer
pub if-ok : {T E : Type 0} {P Q : T → Type 0} (r : Result T E) → ((x : T) → P x → Q x) → IfOk r P → IfOk r Q
if-ok (Ok x) f h = f x h
if-ok (Err x) f h = h
