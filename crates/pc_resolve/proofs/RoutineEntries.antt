-- The entries of a routine and of those inside it, and the kinds of what stands in front: lemmas.
use Rattle.std.proofs.Common.{◌≡◌, ℕ, Bool, true, false, if◌then◌else◌, List, [], ◌∷◌, ◌++◌, length, refl, ap, sym, ◌∙◌, arith}
use Rattle.pc_syntax.specs.Plain.{Plain}
use Rattle.pc_syntax.specs.declared.kind.Kind.{Kind}
use Rattle.pc_syntax.specs.declared.kind.Kind.TheVariants as kind
use Rattle.pc_rules.specs.Attributes.{Entry, at_kid, nodes}
use Rattle.pc_rules.specs.Decorated.{decorate}
use Rattle.pc_rules.specs.Errors.{is_program, from_place, entries_of, own_entries, errors_of, in_order}
use Rattle.pc_rules.specs.HandedOn.{kid_entries}
use Rattle.pc_rules.specs.Headings.{heading_entries}
use Rattle.pc_rules.specs.Outsides.{outside_of}
use Rattle.pc_rules.specs.RoutineList.{routines_of}
use Rattle.pc_rules.specs.Routines.{Routine, start_of}

-- the entries of a routine's own block, seen from it
abbrev pub block_entries_of : List Routine → Routine → List Entry
block_entries_of all r = kid_entries 1 (nodes (decorate (outside_of all r) (start_of r) r.block))

pub own_entries-are : (all : List Routine) (r : Routine) → own_entries all r ≡ heading_entries r ++ at_kid r.block_kid (block_entries_of all r)
unfolding own_entries
own_entries-are all r = refl

-- a routine and those inside it
pub routine-entries : (all below : List Routine) (r : Routine) (number : ℕ) (heading own inside es : List Entry) → heading ≡ heading_entries r →
    at_kid number own ≡ at_kid r.block_kid (block_entries_of all r) → inside ≡ entries_of all below → es ≡ from_place r.place (heading ++ at_kid number own) ++ inside → es ≡ entries_of all (r ∷ below)
routine-entries all below r number heading own inside es h b i e =
    let same : heading ++ at_kid number own ≡ own_entries all r =
    ap (λ (fs : List Entry). fs ++ at_kid number own) h ∙ ap (λ (fs : List Entry). heading_entries r ++ fs) b ∙ sym (own_entries-are all r) in
    e ∙ ap (λ (fs : List Entry). from_place r.place fs ++ inside) same ∙ ap (λ (fs : List Entry). from_place r.place (own_entries all r) ++ fs) i

-- entries at the root are seen from it
pub at-root : (is : List ℕ) (es : List Entry) → length is ≡ 0 → from_place is es ≡ es
at-root [] es e = refl
at-root (i ∷ is) es e = absurd (omega (arith, e))

-- the error list of a program
pub errors-of-program : (t : Plain) (es fs : List Entry) → is_program t.kind ≡ true → es ≡ entries_of (routines_of t) (routines_of t) → fs ≡ in_order es → fs ≡ errors_of t
unfolding errors_of
errors-of-program t es fs is all ordered = ordered ∙ ap in_order all ∙ by (is_program t.kind) is
  where
    by : (b : Bool) → b ≡ true → in_order (entries_of (routines_of t) (routines_of t)) ≡ (if b then in_order (entries_of (routines_of t) (routines_of t)) else [])
    by true e = refl
    by false e = cc

-- a tree that is no program has none
pub errors-of-other : (t : Plain) → (t.kind ≡ kind.Program → ⊥) → errors_of t ≡ []
unfolding errors_of
errors-of-other t other = none t.kind (in_order (entries_of (routines_of t) (routines_of t))) other
  where
    none : (k : Kind) (es : List Entry) → (k ≡ kind.Program → ⊥) → (if is_program k then es else []) ≡ []
    none kind.Program es h = absurd (h refl)
    none k es h = refl
