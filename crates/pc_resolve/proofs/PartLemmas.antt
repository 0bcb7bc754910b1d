-- The block among the kids of a routine's tree: lemmas.
use Rattle.std.proofs.Common.{◌≡◌, ◌≤◌, ◌+◌, ℕ, suc, true, false, true≢false, List, [], ◌∷◌, ◌++◌, Option, Some, None, IfNone, slice_get, refl, ap, sym, ◌∙◌, subst}
use Rattle.std.specs.Option.{option_and_then}
use Rattle.pc_syntax.specs.Classes.{has}
use Rattle.pc_syntax.specs.Places.{at}
use Rattle.pc_syntax.specs.Plain.{Forest, Nil, Cons, Plain, forest_of, kids_of}
use Rattle.pc_syntax.specs.PartsLaws.{forest_of-trees_of}
use Rattle.pc_syntax.specs.WellFormed.{size_of}
use Rattle.pc_syntax.specs.declared.class.Class.{Class}
use Rattle.pc_syntax.specs.declared.kind.Kind.{Kind}
use Rattle.pc_syntax.specs.declared.kind.Kind.TheVariants as kind
use Rattle.pc_scope.specs.Blocks.{block_kids, kid_count}
use Rattle.pc_needs.specs.Answers.{has_block}
use Rattle.pc_rules.specs.OwnBlock.{heading_part}
use Rattle.pc_rules.specs.RoutineList.{routines_below}
use Rattle.pc_rules.specs.Routines.{Routine}
use Rattle.pc_resolve.specs.Parts.{IsRoutinePart, HasNoBlock}

-- none of these trees is a block
abbrev pub NoBlock : List Plain → Type 0
NoBlock [] = Unit {0}
NoBlock (t ∷ ts) = (t.kind ≡ kind.Block → ⊥) × NoBlock ts

-- a tree of a class that no block has is none
pub no-block : (c : Class) (k : Kind) → has c kind.Block ≡ false → has c k ≡ true → k ≡ kind.Block → ⊥
no-block c k none one e = true≢false (sym one ∙ ap (has c) e ∙ none)

-- what follows where there is nothing
pub if-none : {T : Type 0} {P Q : Type 0} (o : Option T) → (P → Q) → IfNone o P → IfNone o Q
if-none None f h = f h
if-none (Some x) f h = h

-- ---- a tree that is no block is passed over

kids-behind : (k : Kind) (w : List ℕ) (ns : List (List ℕ)) (ks ts : Forest) → (k ≡ kind.Block → ⊥) → block_kids (Cons k w ns ks ts) ≡ block_kids ts
kids-behind kind.Block w ns ks ts h = absurd (h refl)
kids-behind k w ns ks ts h = refl

has-behind : (k : Kind) (w : List ℕ) (ns : List (List ℕ)) (ks ts : Forest) → (k ≡ kind.Block → ⊥) → has_block (heading_part (Cons k w ns ks ts)) ≡ has_block (heading_part ts)
has-behind kind.Block w ns ks ts h = absurd (h refl)
has-behind k w ns ks ts h = refl

below-behind : (r : Routine) (i : ℕ) (k : Kind) (w : List ℕ) (ns : List (List ℕ)) (ks ts : Forest) → (k ≡ kind.Block → ⊥) → routines_below r i (Cons k w ns ks ts) ≡ routines_below r (suc i) ts
unfolding routines_below
below-behind r i kind.Block w ns ks ts h = absurd (h refl)
below-behind r i k w ns ks ts h = refl

-- ---- the last tree is the block

last-kids : (fs : List Plain) (b : Plain) → NoBlock fs → b.kind ≡ kind.Block → block_kids (forest_of (fs ++ b ∷ [])) ≡ b.kids
last-kids [] b none is = ap (λ (k : Kind). block_kids (Cons k b.word b.notes b.kids Nil)) is
last-kids (f ∷ fs) b none is = kids-behind f.kind f.word f.notes f.kids (forest_of (fs ++ b ∷ [])) none.0 ∙ last-kids fs b none.1 is

last-has : (fs : List Plain) (b : Plain) → NoBlock fs → b.kind ≡ kind.Block → has_block (heading_part (forest_of (fs ++ b ∷ []))) ≡ true
last-has [] b none is = ap (λ (k : Kind). has_block (heading_part (Cons k b.word b.notes b.kids Nil))) is
last-has (f ∷ fs) b none is = has-behind f.kind f.word f.notes f.kids (forest_of (fs ++ b ∷ [])) none.0 ∙ last-has fs b none.1 is

-- the kids of a tree as a forest
kids-forest : (x : Plain) (ts : List Plain) → ts ≡ kids_of x → x.kids ≡ forest_of ts
unfolding kids_of
kids-forest x ts e = sym (forest_of-trees_of x.kids) ∙ ap forest_of (sym e)

-- the kid behind those that are no blocks
pub is-part : (x : Plain) (fs : List Plain) (b : Plain) (i : ℕ) → fs ++ b ∷ [] ≡ kids_of x → NoBlock fs → b.kind ≡ kind.Block → slice_get (fs ++ b ∷ []) i ≡ Some b →
    kid_count (forest_of (fs ++ b ∷ [])) ≡ suc i → size_of b + 1 ≤ size_of x → IsRoutinePart x (suc i) b
is-part x fs b i kids none is here count small =
    let forest = kids-forest x (fs ++ b ∷ []) kids in
    record {
      is = is;
      there = ap (λ (ks : List Plain). option_and_then (at []) (slice_get ks i)) (sym kids) ∙ ap (option_and_then (at [])) here;
      has = ap (λ (f : Forest). has_block (heading_part f)) forest ∙ last-has fs b none is;
      kids = ap block_kids forest ∙ last-kids fs b none is;
      number_is = ap kid_count forest ∙ count;
      smaller = small;
    }

-- the same, where the number and the kid are told by what they are
pub is-part-here : (x : Plain) (fs : List Plain) (b node : Plain) (i n : ℕ) → fs ++ b ∷ [] ≡ kids_of x → NoBlock fs → (n ≡ suc i) × (node ≡ b) × (b.kind ≡ kind.Block) → slice_get (fs ++ b ∷ []) i ≡ Some b →
    kid_count (forest_of (fs ++ b ∷ [])) ≡ suc i → size_of b + 1 ≤ size_of x → IsRoutinePart x n node
is-part-here x fs b node i n kids none is here count small =
    subst (λ (m : ℕ). IsRoutinePart x m node) (sym is.0) (subst (λ (y : Plain). IsRoutinePart x (suc i) y) (sym is.1) (is-part x fs b i kids none is.2 here count small))

-- ---- no tree is one

none-kids : (ts : List Plain) → NoBlock ts → block_kids (forest_of ts) ≡ Nil
none-kids [] none = refl
none-kids (f ∷ fs) none = kids-behind f.kind f.word f.notes f.kids (forest_of fs) none.0 ∙ none-kids fs none.1

none-below : (r : Routine) (i : ℕ) (ts : List Plain) → NoBlock ts → routines_below r i (forest_of ts) ≡ []
unfolding routines_below
none-below r i [] none = refl
none-below r i (f ∷ fs) none = below-behind r i f.kind f.word f.notes f.kids (forest_of fs) none.0 ∙ none-below r (suc i) fs none.1

pub no-part : (x : Plain) (ts : List Plain) → ts ≡ kids_of x → NoBlock ts → HasNoBlock x
no-part x ts kids none =
    let forest = kids-forest x ts kids in
    record { kids = ap block_kids forest ∙ none-kids ts none; inside = λ r. ap (routines_below r 1) forest ∙ none-below r 1 ts none }
