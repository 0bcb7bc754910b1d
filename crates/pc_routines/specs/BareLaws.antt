-- What is found at a routine in the own block around it: lemmas.
use Rattle.std.proofs.Common.{◌≡◌, ℕ, Bool, true, false, not, ◌&&◌, ◌==◌, suc, List, [], ◌∷◌, length, slice_get, Option, refl, ap, sym, ◌∙◌, if◌then◌else◌}
use Rattle.std.proofs.lemmas.Bool.{and_parts}
use Rattle.std.specs.Option.{option_map_or}
use Rattle.pc_syntax.specs.Layout.{layout}
use Rattle.pc_syntax.specs.Plain.{Forest, Nil, Cons, Plain, count, kinds, trees_of, kids_of}
use Rattle.pc_syntax.specs.Parts.{kid_at}
use Rattle.pc_syntax.specs.Classes.{is_name, is_params}
use Rattle.pc_syntax.specs.Sorts.{is_hole}
use Rattle.pc_syntax.specs.WellFormed.{WellFormed, fits_some}
use Rattle.pc_syntax.specs.Words.{lower, lowered, is_among, is_identifier}
use Rattle.pc_syntax.specs.declared.kind.Kind.{Kind}
use Rattle.pc_syntax.specs.declared.kind.Kind.TheVariants as kind
use Rattle.pc_scope.specs.Headings.{first_name, is_routine_kind, has_later}
use Rattle.pc_rules.specs.Attributes.{Entry, nodes}
use Rattle.pc_rules.specs.Declarations.{heading_here, rest_of, is_later_declaration, routine_class}
use Rattle.pc_rules.specs.Decorated.{seen, rule, decorate}
use Rattle.pc_rules.specs.Meanings.{Meaning, Local, Outside, declared_as}
use Rattle.pc_rules.specs.OwnBlock.{without_kids, bare_heading}
use Rattle.pc_rules.specs.Places.{inner, beside}
use Rattle.pc_routines.specs.Bare.{is_given, is_typed, first_kind, first_word, routine_notes}
use Rattle.pc_routines.specs.PairsLaws.{some-letter}

-- ---- the kids of a routine

first-kid : (f : Forest) → first_name f ≡ option_map_or (λ r. if is_hole r.kind then [] else lowered r.word) (slice_get (trees_of f) 0) []
first-kid Nil = refl
first-kid (Cons k w ns ks ts) = refl

-- the name of a routine, by its first kid
pub name-by : (p : Plain) (o : Option Plain) → o ≡ kid_at p 1 → first_name p.kids ≡ option_map_or (λ r. if is_hole r.kind then [] else lowered r.word) o []
unfolding kids_of
name-by p o e = first-kid p.kids ∙ ap (λ x. option_map_or (λ r. if is_hole r.kind then [] else lowered r.word) x []) (sym e)

-- the first is a name
abbrev pub HasName : Forest → Type 0
HasName Nil = ⊥
HasName (Cons k w ns ks ts) = is_name k ≡ true

-- the second is a list of parameters
abbrev pub HasParams : Forest → Type 0
HasParams Nil = ⊥
HasParams (Cons j v ms js Nil) = ⊥
HasParams (Cons j v ms js (Cons k w ns ks ts)) = is_params k ≡ true

pub name-there : (k : Kind) (w : List ℕ) (f : Forest) → is_routine_kind k ≡ true → fits_some (layout k w (count f)) (kinds f) ≡ true → HasName f
name-there kind.Procedure (c ∷ cs) f r e = cc
name-there kind.Function (c ∷ cs) f r e = cc
name-there kind.Funbody (c ∷ cs) f r e = cc
name-there kind.Procedure [] Nil r e = cc
name-there kind.Function [] Nil r e = cc
name-there kind.Funbody [] Nil r e = cc
name-there kind.Procedure [] (Cons j v ms js ts) r e = (and_parts (is_name j) _ e).0
name-there kind.Function [] (Cons j v ms js ts) r e = (and_parts (is_name j) _ e).0
name-there kind.Funbody [] (Cons j v ms js ts) r e = (and_parts (is_name j) _ e).0
name-there k w f r e = cc

pub params-there : (w : List ℕ) (f : Forest) → fits_some (layout kind.Procedure w (count f)) (kinds f) ≡ true → HasParams f
params-there (c ∷ cs) f e = cc
params-there [] Nil e = cc
params-there [] (Cons j v ms js Nil) e = no (and_parts (is_name j) false e).1
  where
    no : false ≡ true → ⊥
    no q = cc
params-there [] (Cons j v ms js (Cons k w ns ks ts)) e = (and_parts (is_params k) _ (and_parts (is_name j) _ e).1).0

-- a name is a hole where it has no letters
pub hole-unnamed : (f : Forest) → HasName f → WellFormed f → is_hole (first_kind f) ≡ (length (first_name f) == 0)
unfolding is_identifier
hole-unnamed Nil n h = absurd n
hole-unnamed (Cons kind.Name [] ns ks ts) n h = let no : false ≡ true = h.0 in cc
hole-unnamed (Cons kind.Name (c ∷ cs) ns ks ts) n h = sym (some-letter (lower c) (lowered cs))
hole-unnamed (Cons (kind.Hole s) w ns ks ts) n h = refl
hole-unnamed (Cons k w ns ks ts) n h = cc

-- where it is none, it is its word in small letters
pub name-lowered : (f : Forest) → HasName f → (length (first_name f) == 0) ≡ false → lowered (first_word f) ≡ first_name f
name-lowered Nil n e = absurd n
name-lowered (Cons kind.Name w ns ks ts) n e = refl
name-lowered (Cons (kind.Hole s) w ns ks ts) n e = cc
name-lowered (Cons k w ns ks ts) n e = cc

-- ---- a bare heading

-- what a bare heading makes of the kids of a kid
abbrev bare_kids : Kind → Forest → Forest
bare_kids kind.Params ks = without_kids ks
bare_kids kind.Block ks = Nil
bare_kids k ks = ks

bare-cons : (k : Kind) (w : List ℕ) (ns : List (List ℕ)) (ks ts : Forest) → bare_heading (Cons k w ns ks ts) ≡ Cons k w ns (bare_kids k ks) (bare_heading ts)
bare-cons kind.Params w ns ks ts = refl
bare-cons kind.Block w ns ks ts = refl
bare-cons k w ns ks ts = refl

count-without : (f : Forest) → count (without_kids f) ≡ count f
count-without Nil = refl
count-without (Cons k w ns ks ts) = ap suc (count-without ts)

count-bare : (k : Kind) (ks : Forest) → is_params k ≡ true → count (bare_kids k ks) ≡ count ks
count-bare kind.Params ks e = count-without ks
count-bare k ks e = cc

count-nodes : (out : Outside) (l : Local) (f : Forest) → length (nodes (decorate out l f)) ≡ count f
unfolding decorate
count-nodes out l Nil = refl
count-nodes out l (Cons k w ns ks ts) =
    let below = decorate out (inner l k ks) ks in
    ap suc (count-nodes out (beside l k (rule l k w (seen out l k w) below)) ts)

-- ---- its entries, and what it declares, by the word and the kind of its first kid

abbrev notes_by : Local → Kind → Bool → Kind → List ℕ → List Entry
notes_by l k given j v =
    routine_notes (is_later_declaration l) given (not (is_hole j) && is_among l.passed (lowered v)) (not (is_typed k) && not (is_hole j))
    ((heading_here l).is_forward && not (is_hole j) && not (has_later (heading_here l) (rest_of l.ahead))) v

abbrev defines_by : Local → Kind → Kind → List ℕ → List (List ℕ × Meaning)
defines_by l k j v = if is_later_declaration l then [] else (if is_hole j then [] else (lowered v, declared_as (routine_class k) l.owner) ∷ [])

module _ (out : Outside) (l : Local) (w : List ℕ) where
  abbrev notes_of : Kind → Forest → List Entry
  notes_of k b = (rule l k w (seen out l k w) (decorate out (inner l k b) b)).as_value.entries

  abbrev defines_of : Kind → Forest → List (List ℕ × Meaning)
  defines_of k b = (rule l k w (seen out l k w) (decorate out (inner l k b) b)).defines

  pub notes-by : (k : Kind) (f : Forest) → is_routine_kind k ≡ true → fits_some (layout k w (count f)) (kinds f) ≡ true → notes_of k (bare_heading f) ≡ notes_by l k (is_given k f) (first_kind f) (first_word f)
  unfolding decorate rule
  notes-by k Nil r e = absurd (name-there k w Nil r e)
  notes-by kind.Procedure (Cons j v ms js Nil) r e = absurd (params-there w (Cons j v ms js Nil) e)
  notes-by kind.Procedure (Cons j v ms js (Cons i u ns ks ts)) r e =
      let a = rule (inner l kind.Procedure Nil) j v (seen out (inner l kind.Procedure Nil) j v) (decorate out (inner (inner l kind.Procedure Nil) j (bare_kids j js)) (bare_kids j js)) in
      let at = inner (beside (inner l kind.Procedure Nil) j a) i (bare_kids i ks) in
      let some : length (nodes (decorate out at (bare_kids i ks))) ≡ count ks =
      count-nodes out at (bare_kids i ks) ∙ count-bare i ks (params-there w (Cons j v ms js (Cons i u ns ks ts)) e) in
      ap (notes_of kind.Procedure) (bare-cons j v ms js (Cons i u ns ks ts) ∙ ap (Cons j v ms (bare_kids j js)) (bare-cons i u ns ks ts))
      ∙ ap (λ (n : ℕ). notes_by l kind.Procedure (not (n == 0)) j v) some
  notes-by kind.Function (Cons j v ms js ts) r e = ap (notes_of kind.Function) (bare-cons j v ms js ts)
  notes-by kind.Funbody (Cons j v ms js ts) r e = ap (notes_of kind.Funbody) (bare-cons j v ms js ts)
  notes-by k (Cons j v ms js ts) r e = cc

  pub defines-by : (k : Kind) (f : Forest) → is_routine_kind k ≡ true → HasName f → defines_of k (bare_heading f) ≡ defines_by l k (first_kind f) (first_word f)
  unfolding decorate rule
  defines-by k Nil r n = absurd n
  defines-by kind.Procedure (Cons j v ms js ts) r n = ap (defines_of kind.Procedure) (bare-cons j v ms js ts)
  defines-by kind.Function (Cons j v ms js ts) r n = ap (defines_of kind.Function) (bare-cons j v ms js ts)
  defines-by kind.Funbody (Cons j v ms js ts) r n = ap (defines_of kind.Funbody) (bare-cons j v ms js ts)
  defines-by k (Cons j v ms js ts) r n = cc
