-- Where the block of a routine begins: lemmas.
use Rattle.std.proofs.Common.{◌≡◌, ℕ, Bool, true, false, if◌then◌else◌, ◌||◌, List, [], ◌∷◌, ◌++◌, Option, Some, None, refl, ap, sym, ◌∙◌, subst, true≢false}
use Rattle.std.proofs.lemmas.Slice.Eq.{bytes_eq-Decides}
use Rattle.std.specs.Option.{is_some}
use Rattle.std.specs.Str.{bytes_eq}
use Rattle.pc_syntax.specs.Plain.{Forest, Plain}
use Rattle.pc_syntax.specs.Words.{is_among}
use Rattle.pc_names.specs.StandingLaws.{is_among-end}
use Rattle.pc_rules.specs.Meanings.{Meaning, entry_of}
use Rattle.pc_rule_laws.specs.Standing.{equal}
use Rattle.pc_rules.specs.Outsides.{outside_of}
use Rattle.pc_rules.specs.OwnBlock.{own}
use Rattle.pc_rules.specs.Routines.{Routine, block_start, parameters_of, self_of, start_of}
use Rattle.pc_pointers.specs.Good.{Targets}
use Rattle.pc_places.specs.Places.{IsPlace}
use Rattle.pc_places.specs.declared.tables.Tables.{Tables}
use Rattle.pc_openings.specs.Opened.{AreFirst, Opens}
use Rattle.pc_block_laws.specs.Block.{OnceEach}
use Rattle.pc_routine_sites.specs.declared.site.RoutineSite.{RoutineSite}
use Rattle.pc_resolve.specs.Blocks.{StandsBegun}
use Rattle.pc_resolve.specs.declared.resolver.Resolver.{Resolver}

first-here : (d : List ℕ × Meaning) (ds : List (List ℕ × Meaning)) → is_some (entry_of (d ∷ ds) d.0) ≡ true
first-here d ds = ap (λ (b : Bool). is_some (if b then Some d.1 else entry_of ds d.0)) ((bytes_eq-Decides d.0 d.0).1 refl)

none-there : (o : Option Meaning) → o ≡ None → is_some o ≡ true → ⊥
none-there o e some = true≢false (sym some ∙ ap is_some e)

not-among : (before : List (List ℕ)) (d : List ℕ × Meaning) (ds : List (List ℕ × Meaning)) (n : List ℕ) → entry_of ds d.0 ≡ None → (is_some (entry_of (d ∷ ds) n) ≡ true → is_among before n ≡ false) →
    is_some (entry_of ds n) ≡ true → is_among (before ++ d.0 ∷ []) n ≡ false
not-among before d ds n none apart some = by (bytes_eq d.0 n) refl
  where
    by : (b : Bool) → bytes_eq d.0 n ≡ b → is_among (before ++ d.0 ∷ []) n ≡ false
    by true e = absurd (none-there (entry_of ds n) (ap (entry_of ds) (sym (equal d.0 n e)) ∙ none) some)
    by false e =
        let other : is_among before n ≡ false = apart (ap (λ (b : Bool). is_some (if b then Some d.1 else entry_of ds n)) e ∙ some) in
        is_among-end before d.0 n ∙ ap (λ (b : Bool). b || bytes_eq d.0 n) other ∙ e

-- parameters each of which stands once have no name twice
pub first-once : (before : List (List ℕ)) (es : List (List ℕ × Meaning)) → OnceEach es → ((n : List ℕ) → is_some (entry_of es n) ≡ true → is_among before n ≡ false) → AreFirst before es
first-once before [] once apart = tt
first-once before (d ∷ ds) once apart = (apart d.0 (first-here d ds), first-once (before ++ d.0 ∷ []) ds once.1 (λ n some. not-among before d ds n once.0 (apart n) some))

-- the tables stand for the first place of the block
pub begin-place : (all : List Routine) (targets : Targets) (r : Routine) (done : List Routine) (blocks : List ℕ) (site : RoutineSite) (s : Resolver) (new : Tables) (node : Plain) (block : ℕ) →
    Opens blocks site.parameters.items (Some node) block s.tables new → r.block ≡ own node.kids → AreFirst [] (parameters_of r) → StandsBegun all targets r done blocks site s →
    IsPlace new block site.owner.0 (outside_of all r) (start_of r)
begin-place all targets r done blocks site s new node block opens own_is first begun =
    subst (λ (f : Forest). IsPlace new block site.owner.0 (outside_of all r) (block_start r.owner (self_of r) (parameters_of r) f)) (sym own_is)
    (opens.place site.owner.0 r.owner (self_of r) (outside_of all r) (parameters_of r) begun.around.owner_is begun.around.there begun.sound.distinct begun.around.finds begun.around.parameters first)
