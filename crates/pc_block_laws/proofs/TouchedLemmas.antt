-- What a log of numbers says is what the list says that it shows.
use Rattle.std.proofs.Common.{◌≡◌, ℕ, Bool, true, false, ◌&&◌, ◌||◌, List, [], ◌∷◌, length, get_or, slice_get, Option, Some, None, refl, sym, ◌∙◌, subst}
use Rattle.std.proofs.lemmas.List.{drop_at}
use Rattle.std.proofs.lemmas.Slice.Eq.{bytes_eq-Decides}
use Rattle.std.specs.Option.{option_map_or}
use Rattle.std.specs.Str.{bytes_eq}
use Rattle.pc_types.specs.Sameness.{same_owner}
use Rattle.pc_types.specs.Shapes.{Owner}
use Rattle.pc_types.specs.Table.{nobody}
use Rattle.pc_rules.specs.ForStatements.{stands_among}
use Rattle.pc_names.specs.Numbers.{number_of}
use Rattle.pc_names.specs.TableLaws.{slice_get-number_of}
use Rattle.pc_names.proofs.NumberSteps.{number_of-some}
use Rattle.pc_sightings.specs.TouchedLog.{stands_in, ShowsTouched}
use Rattle.pc_sightings.specs.TouchedLaws.{stands_among-numbers, ShowsTouched-append, stands_since-behind}
use Rattle.pc_growth.specs.GrowsLaws.{less-begins, get_or-begins, slice_get-begins}
use Rattle.pc_block_laws.specs.Touched.{SaysLaw, GrownLaw, SinceLaw, TouchedLaw}

neither : (a b c : Bool) → b ≡ false → c ≡ false → ((a && b) || c) ≡ false
neither true b c e f = (λ i. e i || f i)
neither false b c e f = f

-- a name without a number is none of those that are shown
unnumbered : (owners : List Owner) (names : List (List ℕ)) (ws : List (ℕ × ℕ)) (vs : List (Owner × List ℕ)) (a : Owner) (n : List ℕ) → ShowsTouched owners names ws vs → number_of names n ≡ None →
    stands_among vs a n ≡ false
unnumbered owners names [] [] a n shown none = refl
unnumbered owners names (v ∷ ws) (w ∷ vs) a n shown none = neither (same_owner w.0 a) (bytes_eq w.1 n) (stands_among vs a n) (by (bytes_eq w.1 n) refl) (unnumbered owners names ws vs a n shown.1 none) where
  by : (b : Bool) → bytes_eq w.1 n ≡ b → b ≡ false
  by true e = absurd (number_of-some names v.1 n (subst (λ (x : List ℕ). slice_get names v.1 ≡ Some x) ((bytes_eq-Decides w.1 n).0 e) shown.0.2) none)
  by false e = refl
unnumbered owners names [] (w ∷ vs) a n shown none = absurd shown
unnumbered owners names (v ∷ ws) [] a n shown none = absurd shown

-- it stands in the log exactly where it stands among the variables
pub touched-says : SaysLaw
touched-says owners names ws vs apart distinct shown o n within = by (number_of names n) refl where
  by : (x : Option ℕ) → number_of names n ≡ x → option_map_or (λ (i : ℕ). stands_in ws (o, i)) x false ≡ stands_among vs (get_or owners o nobody) n
  by (Some i) e = sym (stands_among-numbers owners names apart distinct ws vs shown (o, i) (get_or owners o nobody, n) (refl, within, slice_get-number_of names n i e))
  by None e = sym (unnumbered owners names ws vs (get_or owners o nobody) n shown e)

-- when more has numbers
pub touched-grown : GrownLaw
touched-grown owners more_owners names more_names [] [] g h shown = tt
touched-grown owners more_owners names more_names (v ∷ ws) (w ∷ vs) g h shown = (
  (
    get_or-begins owners more_owners v.0 nobody g shown.0.1 ∙ shown.0.0,
    less-begins owners more_owners v.0 g shown.0.1,
    slice_get-begins names more_names v.1 w.1 h shown.0.2,
  ),
  touched-grown owners more_owners names more_names ws vs g h shown.1,
)
touched-grown owners more_owners names more_names [] (w ∷ vs) g h shown = absurd shown
touched-grown owners more_owners names more_names (v ∷ ws) [] g h shown = absurd shown

pub touched-since : SinceLaw
touched-since old more = (drop_at old more (length old) refl, stands_since-behind old more)

pub touched-law : TouchedLaw
touched-law = record { says = touched-says; appended = ShowsTouched-append; grown = touched-grown; since = touched-since }
